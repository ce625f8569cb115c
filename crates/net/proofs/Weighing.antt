-- The weight of a set and the joined weight of a list of sets: laws, and the end and a step of the loops that join them. Assumes nothing.
use Rattle.std.proofs.Common.{◌≡◌, ℕ, zero, suc, ◌+◌, ◌<◌, ◌≤◌, Bool, true, false, cond, List, [], ◌∷◌, length, get_or, drop, sym, refl, ap, ◌∙◌, ap₂}
use Rattle.std.proofs.lemmas.List.{at_drop_more, at_drop_all}
use Rattle.measures.specs.Laws.{Laws}
use Rattle.cycle_space.specs.Rows.{Row, holds, add2, sum, empty}
use Rattle.cycle_space.specs.Moments.{Moment, weight_from, weight, weights, WeightLaws}
use Rattle.cycle_space.specs.Rivals.{joined_weight}
use Rattle.cycle_space.proofs.Bits.{empty_bit, sum_holds}

module _ {M : Type 0} (none : M) (join : M → M → M) where
  no_pipe : (j : ℕ) → holds empty j ≡ false
  no_pipe zero = refl
  no_pipe (suc j) = empty_bit j

  pub empty_weighs : (j : ℕ) (ws : List M) → weight_from none join empty j ws ≡ none
  empty_weighs j [] = refl
  empty_weighs j (w ∷ ws) =
      ap (λ b. cond b (join w (weight_from none join empty (suc j) ws)) (weight_from none join empty (suc j) ws)) (no_pipe j) ∙ empty_weighs (suc j) ws

module _ {M : Type 0} {none ceiling : M} {join : M → M → M} {within : M → M → Bool} (laws : Laws none ceiling join within) where
  -- one pipe's weight w, before the weights a and b of what is left of two sets that are not both its own
  over_both : (p q : Bool) → (p ≡ true → q ≡ true → ⊥) → (w a b : M) → cond (add2 p q) (join w (join a b)) (join a b) ≡ join (cond p (join w a) a) (cond q (join w b) b)
  over_both true true h w a b = absurd (h refl refl)
  over_both true false h w a b = sym (laws.assoc w a b)
  over_both false true h w a b = sym (laws.assoc w a b) ∙ ap (λ x. join x b) (laws.comm w a) ∙ laws.assoc a w b
  over_both false false h w a b = refl

  apart_weigh : (x y : Row) → length x ≡ length y → ((j : ℕ) → holds x j ≡ true → holds y j ≡ true → ⊥) → (j : ℕ) (ws : List M)
      → weight_from none join (sum x y) j ws ≡ join (weight_from none join x j ws) (weight_from none join y j ws)
  apart_weigh x y l h j [] = sym (laws.neutral none)
  apart_weigh x y l h j (w ∷ ws) =
      ap₂ (λ b r. cond b (join w r) r) (sum_holds x y l j) (apart_weigh x y l h (suc j) ws)
      ∙ over_both (holds x j) (holds y j) (h j) w (weight_from none join x (suc j) ws) (weight_from none join y (suc j) ws)

  pub weight_laws : WeightLaws none join
  weight_laws = record {
    empty_none = λ n. empty_weighs none join 1 (weights n);
    apart_joins = λ n x y fx fy h. apart_weigh x y (fx.four ∙ sym fy.four) h 1 (weights n);
  }

module _ {M : Type 0} {none ceiling : M} {join : M → M → M} {within : M → M → Bool} (laws : Laws none ceiling join within) (row : Row) (ws : List M) where
  -- the weight of the pipes past the first j
  abbrev rest : ℕ → M
  rest j = weight_from none join row (j + 1) (drop j ws)

  pub weight_all : (j : ℕ) (sum : M) → length ws ≤ j → join sum (rest j) ≡ sum
  weight_all j sum h = ap (join sum) (at_drop_all (weight_from none join row (j + 1)) ws j h) ∙ laws.comm sum none ∙ laws.neutral sum

-- the joined weight of a list of sets, in the same way
module _ {M : Type 0} {none ceiling : M} {join : M → M → M} {within : M → M → Bool} (laws : Laws none ceiling join within) (n : Moment M) (rows : List Row) where
  -- the joined weight of the sets past the first i
  abbrev pub past : ℕ → M
  past i = joined_weight none join n (drop i rows)

  pub joined_next : (i : ℕ) (joined next : M) → i < length rows → next ≡ join joined (weight none join n (get_or rows i empty)) → join next (past (i + 1)) ≡ join joined (past i)
  joined_next i joined next h e =
      ap (λ s. join s (past (i + 1))) e
      ∙ laws.assoc joined (weight none join n (get_or rows i empty)) (past (i + 1))
      ∙ sym (ap (join joined) (at_drop_more (joined_weight none join n) rows i empty h))
