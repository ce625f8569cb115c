-- The parity of two rows: the sum over GF(2) of the products of their bits, by words, and its laws. Assumes nothing.
use Rattle.std.proofs.Common.{◌≡◌, ℕ, zero, suc, ◌+◌, ◌*◌, ◌/◌, ◌%◌, ◌^◌, ◌<◌, Bool, false, ◌&&◌, eqb, get_or, sym, refl, ap, ◌∙◌, ap₂, pow-suc, arith}
use lib.Bits.{bit_and, bit_xor}
use lib.Count.{ones, ones_step, ones-le}
use Rattle.std.proofs.lemmas.Bool.Decides.{nat_tests}
use Rattle.cycle_space.specs.Sums.{fold}
use Rattle.cycle_space.specs.Rows.{Row, bit, empty, add2, sum, common, odd, ParityLaws}
use Rattle.cycle_space.proofs.Booleans.{and_comm, add2_and}
use Rattle.cycle_space.proofs.Folds.{bits, fold_same, fold_two, fold_none, fold_front, fold_add}
use Rattle.cycle_space.proofs.Bits.{bit_at, bit_at_and, bit_at_xor, bit_low, bit_suc, bit_of_word, empty_bit, sum_bit}

-- the parity of a count is a sum over GF(2)
pub common_parity : (x y : Row) (m : ℕ) → eqb (common x y m % 2) 1 ≡ fold false add2 m (λ j. bit x j && bit y j)
unfolding common fold
common_parity x y zero = refl
common_parity x y (suc m) = let r = common_parity x y m in grind (arith, nat_tests)

pub odd_fold : (x y : Row) → odd x y ≡ fold false add2 256 (λ j. bit x j && bit y j)
odd_fold x y = common_parity x y 256

pub parity_laws : ParityLaws
parity_laws = record {
  symmetric = λ x y. odd_fold x y ∙ fold_same bits 256 (λ j. bit x j && bit y j) (λ j. bit y j && bit x j) (λ j _. and_comm (bit x j) (bit y j)) ∙ sym (odd_fold y x);
  linear = λ x y z wx wy.
      odd_fold (sum x y) z
      ∙ fold_same bits 256 (λ j. bit (sum x y) j && bit z j) (λ j. add2 (bit x j && bit z j) (bit y j && bit z j))
      (λ j _. ap (λ b. b && bit z j) (sum_bit x y (wx.four ∙ sym wy.four) j) ∙ add2_and (bit x j) (bit y j) (bit z j))
      ∙ fold_two bits 256 (λ j. bit x j && bit z j) (λ j. bit y j && bit z j)
      ∙ sym (ap₂ add2 (odd_fold x z) (odd_fold y z));
  none = λ x. odd_fold empty x ∙ fold_none bits 256 (λ j. bit empty j && bit x j) (λ j _. ap (λ b. b && bit x j) (empty_bit j));
}

-- By words

-- the parity of the number of ones in a word of k bits
word_parity : (k n : ℕ) → n < 2 ^ k → fold false add2 k (bit_at n) ≡ eqb (ones n % 2) 1
unfolding fold
word_parity zero n h = let e = ones-le 0 n h in grind (arith, nat_tests)
word_parity (suc k) n h =
    fold_front bits k (bit_at n)
    ∙ ap₂ add2 (bit_low n)
    (fold_same bits k (λ i. bit_at n (suc i)) (bit_at (n / 2)) (λ i _. bit_suc n i) ∙ word_parity k (n / 2) (omega (arith, pow-suc 2 k)))
    ∙ (let step = ones_step n in grind (arith, nat_tests))

word_xor : (a b : ℕ) → fold false add2 64 (bit_at (bit_xor a b)) ≡ add2 (fold false add2 64 (bit_at a)) (fold false add2 64 (bit_at b))
word_xor a b = fold_same bits 64 (bit_at (bit_xor a b)) (λ j. add2 (bit_at a j) (bit_at b j)) (λ j _. bit_at_xor a b j) ∙ fold_two bits 64 (bit_at a) (bit_at b)

-- the 64 bits of word q
block : (x y : Row) (q : ℕ)
    → fold false add2 64 (bit_at (bit_and (get_or x q 0) (get_or y q 0))) ≡ fold false add2 64 (λ j. bit x (64 * q + j) && bit y (64 * q + j))
block x y q =
    fold_same bits 64 (bit_at (bit_and (get_or x q 0) (get_or y q 0))) (λ j. bit x (64 * q + j) && bit y (64 * q + j))
    (λ j l. bit_at_and (get_or x q 0) (get_or y q 0) j ∙ sym (ap₂ ◌&&◌ (bit_of_word x q j l) (bit_of_word y q j l)))

reversed : (a b c d : Bool) → add2 (add2 (add2 a b) c) d ≡ add2 d (add2 c (add2 b a))
reversed a b c d = grind arith

-- the words that two rows have in common, added up to one
abbrev pub in_common : Row → Row → ℕ
in_common x y =
    bit_xor (bit_xor (bit_xor (bit_and (get_or x 0 0) (get_or y 0 0)) (bit_and (get_or x 1 0) (get_or y 1 0))) (bit_and (get_or x 2 0) (get_or y 2 0))) (bit_and (get_or x 3 0) (get_or y 3 0))

pub odd_of_four : (x y : Row) → in_common x y < 2 ^ 64 → eqb (ones (in_common x y) % 2) 1 ≡ odd x y
odd_of_four x y fits =
    let u : ℕ → Bool = λ j. bit x j && bit y j in
    let w : ℕ → ℕ = λ q. bit_and (get_or x q 0) (get_or y q 0) in
    let F : ℕ → Bool = λ n. fold false add2 64 (bit_at n) in
    let b0 : F (w 0) ≡ fold false add2 64 u = block x y 0 ∙ fold_same bits 64 (λ j. u (64 * 0 + j)) u (λ j _. ap u (omega arith)) in
    sym (word_parity 64 (in_common x y) fits)
    ∙ word_xor (bit_xor (bit_xor (w 0) (w 1)) (w 2)) (w 3)
    ∙ ap (λ t. add2 t (F (w 3))) (word_xor (bit_xor (w 0) (w 1)) (w 2) ∙ ap (λ t. add2 t (F (w 2))) (word_xor (w 0) (w 1)))
    ∙ reversed (F (w 0)) (F (w 1)) (F (w 2)) (F (w 3))
    ∙ ap₂ add2 (block x y 3) (ap₂ add2 (block x y 2) (ap₂ add2 (block x y 1) b0 ∙ sym (fold_add bits 64 64 u)) ∙ sym (fold_add bits 128 64 u))
    ∙ sym (fold_add bits 192 64 u)
    ∙ sym (odd_fold x y)
