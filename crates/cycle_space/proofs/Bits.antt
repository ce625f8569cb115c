-- The bits of words and of rows: a row is known by its pipes, and the laws of the sum. Assumes nothing.
use Rattle.std.proofs.Common.{◌≡◌, ℕ, zero, suc, ◌+◌, ◌-◌, ◌*◌, ◌/◌, ◌%◌, ◌^◌, ◌<◌, ◌≤◌, Bool, false, cond, ◌&&◌, eqb, [], ◌∷◌, length, get_or, sym, refl, ap, ◌∙◌, subst, ap₂, pow-suc, arith}
use native.Mathlib.Decide.{dec_lt}
use lib.Bits.{bit_and, bit_xor, xor_lt, and_mask}
use Rattle.std.proofs.lemmas.Nat.Bits.{bit_at_lowest, bit_at-suc, bit_at-zero, bit_at_and as and_at, bit_at_xor as xor_at, same_from_bits_below}
use Rattle.std.proofs.lemmas.Bool.Decides.{nat_tests}
use Rattle.std.proofs.lemmas.List.{get_or_past, ext_get_or}
use Rattle.cycle_space.specs.Rows.{Row, bit, holds, FourWords, empty, word_of, row_of, add2, sum, KnownByPipes, SumLaws}
use Rattle.cycle_space.proofs.Booleans.{add2_same, add2_comm, add2_assoc}

-- bit j of a word
abbrev pub bit_at : ℕ → ℕ → Bool
bit_at x j = eqb (x / 2 ^ j % 2) 1

pub bit_zero : (k : ℕ) → bit_at 0 k ≡ false
bit_zero k = ap (λ n. eqb n 1) (bit_at-zero k)

pub bit_at_xor : (x y j : ℕ) → bit_at (bit_xor x y) j ≡ add2 (bit_at x j) (bit_at y j)
bit_at_xor x y j = let e = xor_at x y j in grind (arith, nat_tests)

pub bit_at_and : (x y j : ℕ) → bit_at (bit_and x y) j ≡ (bit_at x j && bit_at y j)
bit_at_and x y j = let e = and_at x y j in grind (arith, nat_tests)

-- the lowest bit, and those above it
pub bit_low : (n : ℕ) → bit_at n 0 ≡ eqb (n % 2) 1
bit_low n = ap (λ x. eqb x 1) (bit_at_lowest n)

pub bit_suc : (n j : ℕ) → bit_at n (suc j) ≡ bit_at (n / 2) j
bit_suc n j = ap (λ x. eqb x 1) (bit_at-suc n j)

-- a word of k bits is known by them
pub word_known : (k a b : ℕ) → a < 2 ^ k → b < 2 ^ k → ((j : ℕ) → j < k → bit_at a j ≡ bit_at b j) → a ≡ b
word_known k a b la lb h = same_from_bits_below k a b la lb (λ j l. let e = h j l in grind (arith, nat_tests))

-- bit j of word q
pub bit_of_word : (r : Row) (q j : ℕ) → j < 64 → bit r (64 * q + j) ≡ bit_at (get_or r q 0) j
unfolding bit
bit_of_word r q j l =
    ap₂ (λ a b. bit_at (get_or r a 0) b) (let e : (64 * q + j) / 64 ≡ q = omega arith in e) (let e : (64 * q + j) % 64 ≡ j = omega arith in e)

pub bit_past : (r : Row) → length r ≡ 4 → (j : ℕ) → 256 ≤ j → bit r j ≡ false
unfolding bit
bit_past r l j h = ap (λ n. bit_at n (j % 64)) (get_or_past r (j / 64) 0 (omega arith)) ∙ bit_zero (j % 64)

pub holds_bit : (r : Row) (j : ℕ) → 0 < j → holds r j ≡ bit r (j - 1)
holds_bit r zero l = absurd (omega arith)
holds_bit r (suc j) l = ap (bit r) (omega arith)

-- what is read of a row at the spot of a pipe
pub read_at : (r : Row) (j word place mask : ℕ) → 0 < j → word ≡ (j - 1) / 64 → place ≡ (j - 1) % 64 → mask ≡ 1 → eqb (bit_and (get_or r word 0 / 2 ^ place) mask) 1 ≡ holds r j
unfolding bit
read_at r j word place mask l w p m = rw (w, p, m) (ap (λ v. eqb v 1) (and_mask _ 1) ∙ sym (holds_bit r j l))

pub holds_past : (r : Row) → length r ≡ 4 → (j : ℕ) → 256 < j → holds r j ≡ false
holds_past r l zero h = absurd (omega arith)
holds_past r l (suc j) h = bit_past r l j (omega arith)

pub known_by_bits : (x y : Row) → FourWords x → FourWords y → ((j : ℕ) → j < 256 → bit x j ≡ bit y j) → x ≡ y
known_by_bits x y wx wy h =
    ext_get_or 0 x y (wx.four ∙ sym wy.four)
    (λ q l. word_known 64 (get_or x q 0) (get_or y q 0) (wx.words q) (wy.words q)
    (λ j m. sym (bit_of_word x q j m) ∙ h (64 * q + j) (let four = wx.four in omega arith) ∙ bit_of_word y q j m))

pub known_by_pipes : KnownByPipes
known_by_pipes x y wx wy h = known_by_bits x y wx wy (λ j _. h (suc j))

-- The row of given bits

word_lt : (k : ℕ) (f : ℕ → Bool) → word_of k f < 2 ^ k
unfolding word_of
word_lt zero f = omega arith
word_lt (suc k) f = let r = word_lt k (λ j. f (suc j)) in let p = pow-suc 2 k in grind arith

word_bit : (k : ℕ) (f : ℕ → Bool) (j : ℕ) → j < k → bit_at (word_of k f) j ≡ f j
unfolding word_of
word_bit zero f j l = absurd (omega arith)
word_bit (suc k) f zero l = let e = bit_low (cond (f 0) 1 0 + 2 * word_of k (λ j. f (suc j))) in grind (arith, nat_tests)
word_bit (suc k) f (suc j) l =
    let n : ℕ = word_of k (λ j. f (suc j)) in
    let half : (cond (f 0) 1 0 + 2 * n) / 2 ≡ n = grind arith in
    bit_suc (cond (f 0) 1 0 + 2 * n) j ∙ ap (λ x. bit_at x j) half ∙ word_bit k (λ i. f (suc i)) j (omega arith)

pub row_of_words : (f : ℕ → Bool) → FourWords (row_of f)
unfolding row_of
row_of_words f = record { four = refl; words = each }
  where
    each : (k : ℕ) → get_or (row_of f) k 0 < 2 ^ 64
    each zero = word_lt 64 f
    each (suc zero) = word_lt 64 (λ j. f (64 + j))
    each (suc (suc zero)) = word_lt 64 (λ j. f (128 + j))
    each (suc (suc (suc zero))) = word_lt 64 (λ j. f (192 + j))
    each (suc (suc (suc (suc k)))) = omega arith

pub row_bit : (f : ℕ → Bool) (j : ℕ) → j < 256 → bit (row_of f) j ≡ f j
unfolding bit row_of
row_bit f j l = go (j / 64) refl
  where
    go : (q : ℕ) → j / 64 ≡ q → bit_at (get_or (row_of f) q 0) (j % 64) ≡ f j
    go zero e = word_bit 64 f (j % 64) (omega arith) ∙ ap f (omega arith)
    go (suc zero) e = word_bit 64 (λ j. f (64 + j)) (j % 64) (omega arith) ∙ ap f (omega arith)
    go (suc (suc zero)) e = word_bit 64 (λ j. f (128 + j)) (j % 64) (omega arith) ∙ ap f (omega arith)
    go (suc (suc (suc zero))) e = word_bit 64 (λ j. f (192 + j)) (j % 64) (omega arith) ∙ ap f (omega arith)
    go (suc (suc (suc (suc q)))) e = absurd (omega arith)

-- where no bit past the row is set
pub row_bits : (f : ℕ → Bool) → ((j : ℕ) → 256 ≤ j → f j ≡ false) → (j : ℕ) → bit (row_of f) j ≡ f j
row_bits f h j = elim (dec_lt j 256) [
  | yes l ↦ row_bit f j l
  | no l ↦ bit_past (row_of f) (row_of_words f).four j (omega arith) ∙ sym (h j (omega arith))
]

-- a row is the row of its bits
pub row_of_bits : (r : Row) → FourWords r → row_of (bit r) ≡ r
row_of_bits r w = known_by_bits (row_of (bit r)) r (row_of_words (bit r)) w (row_bit (bit r))

-- The empty set

empty_word : (k : ℕ) → get_or empty k 0 ≡ 0
empty_word k = grind arith

pub empty_bit : (j : ℕ) → bit empty j ≡ false
unfolding bit
empty_bit j = ap (λ n. bit_at n (j % 64)) (empty_word (j / 64)) ∙ bit_zero (j % 64)

pub empty_row : FourWords empty
empty_row = record { four = refl; words = λ k. let e = empty_word k in omega arith }

-- The sum

sum_word : (x y : Row) → length x ≡ length y → (q : ℕ) → get_or (sum x y) q 0 ≡ bit_xor (get_or x q 0) (get_or y q 0)
sum_word [] [] l q = refl
sum_word (a ∷ x) (b ∷ y) l zero = refl
sum_word (a ∷ x) (b ∷ y) l (suc q) = sum_word x y (omega arith) q
sum_word x y l q = absurd (omega arith)

sum_length : (x y : Row) → length x ≡ length y → length (sum x y) ≡ length x
sum_length [] y l = refl
sum_length (a ∷ x) [] l = absurd (omega arith)
sum_length (a ∷ x) (b ∷ y) l = ap suc (sum_length x y (omega arith))

pub sum_bit : (x y : Row) → length x ≡ length y → (j : ℕ) → bit (sum x y) j ≡ add2 (bit x j) (bit y j)
unfolding bit
sum_bit x y l j = ap (λ n. bit_at n (j % 64)) (sum_word x y l (j / 64)) ∙ bit_at_xor (get_or x (j / 64) 0) (get_or y (j / 64) 0) (j % 64)

pub sum_holds : (x y : Row) → length x ≡ length y → (j : ℕ) → holds (sum x y) j ≡ add2 (holds x j) (holds y j)
sum_holds x y l zero = refl
sum_holds x y l (suc j) = sum_bit x y l j

pub sum_row : (x y : Row) → FourWords x → FourWords y → FourWords (sum x y)
sum_row x y wx wy =
    let l : length x ≡ length y = wx.four ∙ sym wy.four in
    record {
      four = sum_length x y l ∙ wx.four;
      words = λ k. subst (λ n. n < 2 ^ 64) (sym (sum_word x y l k)) (xor_lt 64 (get_or x k 0) (get_or y k 0) (wx.words k) (wy.words k));
    }

-- four words with the sums of the words are the sum
pub sum_of_four : (x y : Row) → length x ≡ 4 → length y ≡ 4
    → bit_xor (get_or x 0 0) (get_or y 0 0) ∷ bit_xor (get_or x 1 0) (get_or y 1 0) ∷ bit_xor (get_or x 2 0) (get_or y 2 0) ∷ bit_xor (get_or x 3 0) (get_or y 3 0) ∷ [] ≡ sum x y
sum_of_four (a ∷ b ∷ c ∷ d ∷ []) (e ∷ f ∷ g ∷ h ∷ []) lx ly = refl
sum_of_four x y lx ly = absurd (omega arith)

pub sum_laws : SumLaws
sum_laws = record {
  by_pipes = pipes;
  stays_row = sum_row;
  comm = λ x y wx wy. known_by_pipes (sum x y) (sum y x) (sum_row x y wx wy) (sum_row y x wy wx)
      (λ j. pipes x y wx wy j ∙ add2_comm (holds x j) (holds y j) ∙ sym (pipes y x wy wx j));
  assoc = λ x y z wx wy wz.
      let xy = sum_row x y wx wy in
      let yz = sum_row y z wy wz in
      known_by_pipes (sum (sum x y) z) (sum x (sum y z)) (sum_row (sum x y) z xy wz) (sum_row x (sum y z) wx yz)
      (λ j. pipes (sum x y) z xy wz j ∙ ap (λ b. add2 b (holds z j)) (pipes x y wx wy j) ∙ add2_assoc (holds x j) (holds y j) (holds z j)
      ∙ sym (pipes x (sum y z) wx yz j ∙ ap (add2 (holds x j)) (pipes y z wy wz j)));
  inverse = λ x wx. known_by_pipes (sum x x) empty (sum_row x x wx wx) empty_row
      (λ j. pipes x x wx wx j ∙ add2_same (holds x j) ∙ sym (empty_holds j));
  neutral = λ x wx. known_by_pipes (sum empty x) x (sum_row empty x empty_row wx) wx
      (λ j. pipes empty x empty_row wx j ∙ ap (λ b. add2 b (holds x j)) (empty_holds j));
}
  where
    pipes : (x y : Row) → FourWords x → FourWords y → (j : ℕ) → holds (sum x y) j ≡ add2 (holds x j) (holds y j)
    pipes x y wx wy j = sum_holds x y (wx.four ∙ sym wy.four) j

    empty_holds : (j : ℕ) → holds empty j ≡ false
    empty_holds zero = refl
    empty_holds (suc j) = empty_bit j
