-- How the later supports are made even against a ring. Assumes nothing.
use Rattle.std.proofs.Common.{◌≡◌, ℕ, ◌+◌, ◌-◌, ◌<◌, ◌≤◌, Bool, true, false, cond, List, [], ◌++◌, map, take, drop, length, get_or, sym, ap, ◌∙◌, arith}
use borrow.Rule.Slice.PartMut.{mid_of, put_mid}
use mathlib.Core.List.{append-nil}
use Rattle.std.proofs.Math.ListN.{get_or-map}
use Rattle.std.proofs.lemmas.List.{get_or_default, get_or_append_left, get_or-append_right, get_or-take, get_or-drop, take_all, drop_all, length-take-le, length-drop}
use Rattle.cycle_space.specs.Rows.{Row, sum, odd, empty}
use Rattle.cycle_space.specs.Supports.{Extended}
use Rattle.cycle_space.proofs.Parities.{parity_laws}
use Rattle.net.specs.Keeps.{no_pipes, row_at}
use Rattle.net.specs.declared.tables.StoredRow.{StoredRow}

-- what a read of an array gives past its end
abbrev pub blank : StoredRow
blank = record { words = [] }

-- within the table, what is read past its end is no matter
pub read_row : (rows : List StoredRow) (i : ℕ) → i < length rows → (get_or rows i blank).words ≡ row_at rows i
read_row rows i l = ap (λ r. r.words) (get_or_default rows i blank no_pipes l)

-- what a later support becomes, where `own` is that of the ring
abbrev pub turned : Row → Row → StoredRow → StoredRow
turned ring own r = cond (odd ring r.words) (record { words = sum r.words own }) r

pub turned_is : (ring own : Row) (r : StoredRow) (b : Bool) → odd ring r.words ≡ b → turned ring own r ≡ cond b (record { words = sum r.words own }) r
turned_is ring own r b e = ap (λ x. cond x (record { words = sum r.words own }) r) e

-- the later supports begin at the place b
module _ (start : List StoredRow) (k : ℕ) (ring : Row) (long : length start ≡ 256) (lk : k < 256) (own : Row) (is_own : own ≡ row_at start k) (later : List StoredRow)
    (b : ℕ) (begins : b ≡ k + 1) (all : later ≡ map (turned ring own) (mid_of b (256 - b) start)) where
  -- the table, and its two parts
  abbrev table : List StoredRow
  table = put_mid b (256 - b) start later

  parts : table ≡ take (k + 1) start ++ map (turned ring own) (drop (k + 1) start)
  parts =
      let rest = length-drop b start in
      ap (λ rows. take b start ++ rows)
      (ap (λ rows. later ++ rows) (drop_all (256 - b) (drop b start) (omega arith)) ∙ append-nil later
      ∙ all ∙ ap (map (turned ring own)) (take_all (256 - b) (drop b start) (omega arith)))
      ∙ ap (λ j. take j start ++ map (turned ring own) (drop j start)) begins

  front : length (take (k + 1) start) ≡ k + 1
  front = length-take-le (k + 1) start (omega arith)

  earlier_at : (i : ℕ) → i ≤ k → row_at table i ≡ row_at start i
  earlier_at i l =
      ap (λ rows. row_at rows i) parts
      ∙ ap (λ r. r.words) (get_or_append_left (take (k + 1) start) (map (turned ring own) (drop (k + 1) start)) no_pipes i (let f = front in omega arith)
      ∙ get_or-take (k + 1) start i no_pipes (omega arith))

  later_at : (i : ℕ) → k < i → row_at table i ≡ (turned ring own (get_or start i no_pipes)).words
  later_at i l =
      let up : k + 1 + (i - (k + 1)) ≡ i = omega arith in
      ap (λ rows. row_at rows i) parts
      ∙ ap (λ r. r.words) (get_or-append_right (take (k + 1) start) (map (turned ring own) (drop (k + 1) start)) (k + 1) i no_pipes front (omega arith)
      ∙ ap (get_or (map (turned ring own) (drop (k + 1) start)) (i - (k + 1))) (sym (turned_is ring own no_pipes false (parity_laws.symmetric ring empty ∙ parity_laws.none ring)))
      ∙ get_or-map (turned ring own) (drop (k + 1) start) (i - (k + 1)) no_pipes
      ∙ ap (turned ring own) (get_or-drop (k + 1) start (i - (k + 1)) no_pipes ∙ ap (λ j. get_or start j no_pipes) up))

  pub turned_all : Extended k (row_at start) ring (row_at table)
  turned_all = record {
    earlier_stay = earlier_at;
    even_stay = λ i l e. later_at i l ∙ ap (λ r. r.words) (turned_is ring own _ false e);
    odd_turn = λ i l e. later_at i l ∙ ap (λ r. r.words) (turned_is ring own _ true e) ∙ ap (sum (row_at start i)) is_own;
  }
