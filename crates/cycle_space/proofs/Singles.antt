-- The row of one pipe. Assumes nothing.
use Rattle.std.proofs.Common.{◌≡◌, ℕ, suc, ◌-◌, ◌*◌, ◌/◌, ◌%◌, ◌^◌, ◌<◌, ◌≤◌, Bool, eqb, set, sym, ap, ◌∙◌, arith, ne_eqb}
use Rattle.std.proofs.lemmas.Nat.{one_shl, pow_below}
use Rattle.std.proofs.lemmas.Nat.Bits.{bit_at-pow_same, bit_at-pow_other}
use Rattle.std.proofs.lemmas.Bool.Decides.{nat_tests}
use Rattle.std.proofs.lemmas.List.{length-set, get_or-set_same, get_or-set_other}
use Rattle.cycle_space.specs.Rows.{Row, bit, row_of, FourWords, empty}
use Rattle.cycle_space.proofs.Bits.{empty_bit, empty_row, row_of_words, row_bit, row_bits, known_by_bits}

-- the bits of a row with one pipe
pub single_bit : (p j : ℕ) → p < 256 → bit (row_of (λ i. eqb (suc i) (suc p))) j ≡ eqb j p
single_bit p j l = row_bits (λ i. eqb (suc i) (suc p)) (λ i m. grind (arith, nat_tests)) j ∙ grind (arith, nat_tests)

-- the empty row with the bit at the place p set
abbrev pub marked : ℕ → Row
marked p = set empty (p / 64) (2 ^ (p % 64))

module _ (p : ℕ) (l : p < 256) where
  marked_words : FourWords (marked p)
  marked_words = record {
    four = length-set empty (p / 64) (2 ^ (p % 64));
    words = λ k.
        let here = get_or-set_same empty (p / 64) (2 ^ (p % 64)) 0 (omega arith) in
        let there = get_or-set_other empty (p / 64) k (2 ^ (p % 64)) 0 in
        let zero_there = empty_row.words k in
        let low = pow_below (p % 64) 64 (omega arith) in
        grind arith;
  }

  marked_bit : (j : ℕ) → bit (marked p) j ≡ eqb j p
  unfolding bit
  marked_bit j =
      let here = get_or-set_same empty (p / 64) (2 ^ (p % 64)) 0 (omega arith) in
      let there = get_or-set_other empty (p / 64) (j / 64) (2 ^ (p % 64)) 0 in
      let none = empty_bit j in
      let one = bit_at-pow_same (p % 64) in
      let other = bit_at-pow_other (p % 64) (j % 64) in
      grind (arith, nat_tests)

  pub marked_is : marked p ≡ row_of (λ j. eqb (suc j) (suc p))
  marked_is = known_by_bits (marked p) (row_of f) marked_words (row_of_words f) (λ j _. marked_bit j ∙ sym (single_bit p j l))
    where
      f : ℕ → Bool
      f j = eqb (suc j) (suc p)

-- the empty row with the bit at the spot of a pipe set
pub marked_at : (pipe word place : ℕ) → 1 ≤ pipe → pipe ≤ 256 → word ≡ (pipe - 1) / 64 → place ≡ (pipe - 1) % 64
    → set empty word (1 * 2 ^ place % 2 ^ 64) ≡ row_of (λ j. eqb (suc j) pipe)
marked_at pipe word place l h w p =
    rw (w, p) (
    ap (set empty ((pipe - 1) / 64)) (one_shl ((pipe - 1) % 64) 64 (omega arith))
    ∙ marked_is (pipe - 1) (omega arith)
    ∙ ap (λ k. row_of (λ j. eqb (suc j) k)) (let q : suc (pipe - 1) ≡ pipe = omega arith in q)
    )

-- what is no pipe's number gives the empty row
pub none_marked : (pipe : ℕ) → ((1 ≤ pipe) × (pipe ≤ 256) → ⊥) → empty ≡ row_of (λ j. eqb (suc j) pipe)
none_marked pipe h = known_by_bits empty (row_of f) empty_row (row_of_words f)
    (λ j l. empty_bit j ∙ sym (row_bit f j l ∙ ne_eqb (suc j) pipe (λ e. h (omega arith, omega arith))))
  where
    f : ℕ → Bool
    f j = eqb (suc j) pipe
