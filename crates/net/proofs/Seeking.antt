-- The net as the search takes it, and what next makes of what is found. Assumes nothing.
use Rattle.std.proofs.Common.{◌≡◌, ℕ, ◌+◌, ◌-◌, ◌*◌, ◌<◌, ◌≤◌, Bool, true, false, eqb, ◌↔◌, List, [], ◌∷◌, ◌++◌, map, length, get_or, take, set, is_err, IsErrAnd, Option, None, Some, Ok, Err, Result, sym, refl, ap, ◌∙◌, subst, subst₂, arith, eq-eqb, eqb-true}
use mathlib.Core.Path.{fun_ext}
use borrow.Author.Tests.{both_ways}
use Rattle.std.proofs.lemmas.List.{length-set, get_or-set_same, get_or-set_other, take_more_set}
use Rattle.search.specs.Sought.{plan, Found}
use Rattle.search.specs.declared.layout.Layout.{Layout}
use Rattle.cycle_space.specs.Rows.{Row, sum, odd}
use Rattle.cycle_space.specs.Shapes.{Shape, Due}
use Rattle.cycle_space.specs.Moments.{shape, weights}
use Rattle.cycle_space.specs.Labels.{closes}
use Rattle.cycle_space.specs.Bases.{Closed}
use Rattle.cycle_space.specs.Supports.{rank, Extended}
use Rattle.cycle_space.specs.Lightest.{LightestOdd}
use Rattle.cycle_space.proofs.Counting.{count_le}
use Rattle.cycle_space.proofs.Due.{due_rank, due_unique}
use Rattle.cycle_space.proofs.Supports.{due_ring}
use Rattle.net.specs.Keeps.{Keeps, no_pipes, laid_out, row_at, supports_of}
use Rattle.net.specs.Views.{view, rings, support}
use Rattle.net.specs.Calls.{NextDeclined, all_found, scratch_short, FoundNext}
use Rattle.net.specs.Refusals.{number, NoneApplies, Smallest}
use Rattle.net.specs.declared.net.Net.{Net}
use Rattle.net.specs.declared.tables.StoredRow.{StoredRow}
use Rattle.net.specs.declared.tables.Tables.{Tables}
use Rattle.net.specs.declared.refusal.Refusal.{Refusal}
use Rattle.net.specs.declared.refusal.Refusal.TheVariants.{Complete, ScratchTooShort}
use Rattle.net.proofs.Kept.{ends_are_nodes, rings_seen, view_shape, laid_few}
use Rattle.net.proofs.Keeping.{supports_stored, ring_found}
use Rattle.net.proofs.Turning.{blank, read_row}

module _ {M : Type 0} (n : Net M) where
  -- When next is declined

  -- the count that is found tells whether all due rings are found
  pub complete_by_count : (found d : ℕ) → found ≡ length (rings n) → Due (shape (view n)) d → (eqb found d ≡ true) ↔ Due (shape (view n)) (length (rings n))
  complete_by_count found d e due = (
    λ q. subst (Due (shape (view n))) (sym (eqb-true found d q) ∙ e) due,
    λ all. eq-eqb found d (e ∙ due_unique (shape (view n)) (length (rings n)) d all due),
  )

  module _ (scratch : List M) where
    pub is_complete : Due (shape (view n)) (length (rings n)) → Smallest (NextDeclined n scratch) Complete
    is_complete due = record { applies = all_found refl due; least = least }
      where
        least : (f : Refusal) → NextDeclined n scratch f → 6 ≤ number f
        least f (all_found q _) = let s : number f ≡ 6 = ap number q in omega arith
        least f (scratch_short q _) = let s : number f ≡ 7 = ap number q in omega arith

  -- as long as a ring is due, by the test for it
  module _ {b : Bool} (told : (b ≡ true) ↔ Due (shape (view n)) (length (rings n))) (no : b ≡ false) where
    more : Due (shape (view n)) (length (rings n)) → ⊥
    more due = both_ways b no (told.1 due)

    -- fewer rings are found than there are closing pipes
    pub still_due : n.tables.found < rank (laid_out n.tables)
    still_due =
        let most = n.keeps.sound.not_over in
        let other : n.tables.found ≡ rank (laid_out n.tables) → ⊥ = λ e.
        more (subst (Due (shape (view n))) (ap rank (view_shape n) ∙ sym (rings_seen n ∙ e)) (due_rank (shape (view n)) (ends_are_nodes n))) in
        omega arith

    -- and the next has a place in the tables
    pub still_room : n.tables.found < 256
    still_room =
        let less = still_due in
        let N : Shape = laid_out n.tables in
        let most = count_le N.pipes (closes N) in
        let pipes = laid_few n in
        let few = n.keeps.few_pipes in
        omega arith

    -- a set that is odd against the next support is there
    pub some_ring : ((x : Row) → Closed (laid_out n.tables) x → odd x (supports_of n.tables n.tables.found) ≡ true → ⊥) → ⊥
    some_ring none =
        let x = due_ring (laid_out n.tables) n.tables.found (row_at n.tables.rows) (supports_of n.tables) n.keeps.sound still_due in
        none x.0 x.1 x.2

    module _ (scratch : List M) where
      pub is_short : length scratch < 2 * n.tables.nodes → Smallest (NextDeclined n scratch) ScratchTooShort
      is_short l = record { applies = scratch_short refl l; least = least }
        where
          least : (f : Refusal) → NextDeclined n scratch f → 7 ≤ number f
          least f (all_found _ all) = absurd (more all)
          least f (scratch_short q _) = let s : number f ≡ 7 = ap number q in omega arith

      pub is_accepted : 2 * n.tables.nodes ≤ length scratch → NoneApplies (NextDeclined n scratch)
      is_accepted l f (all_found _ all) = more all
      is_accepted l f (scratch_short _ s) = omega arith

-- What the search answers

-- too little scratch is told with its own number
pub short_reply : (r : Result ℕ Refusal) → is_err r ≡ true → IsErrAnd r (λ e. e ≡ ScratchTooShort) → r ≡ Err ScratchTooShort
short_reply (Ok k) e b = absurd b
short_reply (Err x) e b = ap Err b

pub extended_as : {k : ℕ} {S S' T : ℕ → Row} {c : Row} → ((i : ℕ) → S i ≡ S' i) → Extended k S c T → Extended k S' c T
extended_as {k} {S} {S'} {T} {c} e x = subst (λ U. Extended k U c T) (fun_ext e) x

-- the supports that next works on are those of the net
module _ {M : Type 0} (n : Net M) (rows : List StoredRow) (long : length rows ≡ 256) (are : (i : ℕ) → row_at rows i ≡ supports_of n.tables i) where
  -- what the search finds with the first support without a ring
  module _ (room : n.tables.found < 256) (l : Layout M) (drawn : plan l ≡ laid_out n.tables) where
    same : (get_or rows n.tables.found blank).words ≡ supports_of n.tables n.tables.found
    same = read_row rows n.tables.found (omega arith) ∙ are n.tables.found

    module _ (none : M) (join : M → M → M) (within : M → M → Bool) {o : Option Row} (found : Found none join within l (get_or rows n.tables.found blank).words o) where
      pub nothing_found : o ≡ None → (x : Row) → Closed (laid_out n.tables) x → odd x (supports_of n.tables n.tables.found) ≡ true → ⊥
      nothing_found e = subst₂ (λ N s. (x : Row) → Closed N x → odd x s ≡ true → ⊥) drawn same (subst (Found none join within l (get_or rows n.tables.found blank).words) e found)

      pub lightest_found : {c : Row} → o ≡ Some c → l.weights.now ≡ weights (view n) → LightestOdd none join within (laid_out n.tables) (weights (view n)) (supports_of n.tables n.tables.found) c
      lightest_found {c} e weighed =
          subst (λ s. LightestOdd none join within (laid_out n.tables) (weights (view n)) s c) same
          (subst₂ (λ N ws. LightestOdd none join within N ws (get_or rows n.tables.found blank).words c) drawn weighed
          (subst (Found none join within l (get_or rows n.tables.found blank).words) e found))

-- What next leaves

-- the tables with one ring more
abbrev pub one_ring_more : Tables → Row → List StoredRow → Tables
one_ring_more t c supports = record {
  nodes = t.nodes;
  pipes = t.pipes;
  found = t.found + 1;
  ends = t.ends;
  rows = set t.rows t.found (record { words = c });
  supports = supports;
}

-- a ring that is found is the last of the rows
rows_more : (rows : List StoredRow) (k : ℕ) (c : Row) → k < length rows
    → map (λ r. r.words) (take (k + 1) (set rows k (record { words = c }))) ≡ map (λ r. r.words) (take k rows) ++ (c ∷ [])
rows_more rows k c l = ap (map (λ r. r.words)) (take_more_set rows k (record { words = c }) l) ∙ pushed (take k rows)
  where
    pushed : (rs : List StoredRow) → map (λ r. r.words) (rs ++ (record { words = c } ∷ [])) ≡ map (λ r. r.words) rs ++ (c ∷ [])
    pushed [] = refl
    pushed (r ∷ rs) = ap (λ xs. r.words ∷ xs) (pushed rs)

module _ {M : Type 0} (none : M) (join : M → M → M) (within : M → M → Bool) (n : Net M) (c : Row) (supports : List StoredRow) (room : n.tables.found < 256)
    (least : LightestOdd none join within (laid_out n.tables) (weights (view n)) (supports_of n.tables n.tables.found) c)
    (later : Extended n.tables.found (supports_of n.tables) c (row_at supports)) where
  pub ring_kept : n.tables.found < rank (laid_out n.tables) → length supports ≡ 256 → Keeps (one_ring_more n.tables c supports)
  ring_kept due size =
      let t : Tables = n.tables in
      let k = n.keeps in
      let long = k.places.1 in
      ring_found t k due c least.closed least.is_odd (set t.rows t.found (record { words = c })) supports
      (length-set t.rows t.found (record { words = c }) ∙ k.places.1) size
      (λ i l. ap (λ r. r.words) (get_or-set_other t.rows t.found i (record { words = c }) no_pipes (λ e. omega arith)))
      (ap (λ r. r.words) (get_or-set_same t.rows t.found (record { words = c }) no_pipes (omega arith)))
      later

  module _ (fits : n.tables.pipes ≤ length n.column.now) (keeps : Keeps (one_ring_more n.tables c supports)) where
    -- the net after
    abbrev pub after : Net M
    after = record { column = n.column; tables = one_ring_more n.tables c supports; fits = fits; keeps = keeps }

    stored : (i : ℕ) → support after i ≡ row_at supports (i - 1)
    stored i = supports_stored (one_ring_more n.tables c supports) (i - 1) (λ e. omega arith)

    pub found_next : FoundNext none join within n (n.tables.found + 1) after
    found_next =
        let k : ℕ = n.tables.found in
        let back : k + 1 - 1 ≡ k = omega arith in
        let size = n.keeps.places.1 in
        record {
          ring = c;
          next_number = ap (λ l. l + 1) (sym (rings_seen n));
          lightest = subst₂ (λ N i. LightestOdd none join within N (weights (view n)) (supports_of n.tables i) c) (sym (view_shape n)) (sym back) least;
          one_more = rows_more n.tables.rows k c (omega arith);
          later_supports = record {
            earlier_stay = λ i l. stored i ∙ later.earlier_stay (i - 1) (omega arith);
            even_stay = λ i l e. stored i ∙ later.even_stay (i - 1) (omega arith) e;
            odd_turn = λ i l e. stored i ∙ later.odd_turn (i - 1) (omega arith) e ∙ ap (λ j. sum (support n i) (supports_of n.tables j)) (sym back);
          };
          net_stays = refl;
          column_stays = refl;
        }
