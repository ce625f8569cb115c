-- How a turn of the search begins and ends, that the turns end, and what holds when they have. Assumes nothing.
use Rattle.std.proofs.Common.{◌≡◌, ℕ, ◌*◌, ◌<◌, ◌≤◌, true, ◌≢◌, List, length, set, Some, sym, ap, ◌∙◌, subst, ⊎_elim, arith, length-set, get_or-set_other, get_or-set_same}
use borrow.Author.Tests.{both_ways}
use Rattle.std.proofs.lemmas.Bool.{cases_eq}
use Rattle.cycle_space.specs.Rows.{Row}
use Rattle.search.specs.declared.mark.Mark.{Mark}
use Rattle.search.specs.declared.mark.Mark.TheVariants.{Unreached, Settled}
use Rattle.search.specs.Marks.{is_settled, is_open, is_reached, mark, reached, opened, settled, row_at, way, walked}
use Rattle.search.specs.Fronts.{Nearest}
use Rattle.search.specs.Tasks.{Task, Walk, stay, cross}
use Rattle.search.specs.Searches.{at, Eased, Kept, Settling, Searching, Shortest, unsettled}
use Rattle.search.proofs.Measuring.{Lawful, self}
use Rattle.search.proofs.Marking.{open_reached, reached_settled, walked_way, settled_counts}

module _ {M : Type 0} {t : Task M} (laws : Lawful t) where
  module _ {ms : List Mark} {d : List M} {u : ℕ} (s : Searching t ms d) (few : t.shape.nodes ≤ 64)
      (near : Nearest t.none t.within d ms (2 * t.shape.nodes) u) {x : Row} (is : walked (mark ms u) ≡ Some x) where
    abbrev marked : List Mark
    marked = set ms u (Settled x)

    in_marks : u < length ms
    in_marks = let h = near.inside in let e = s.kept.marks_sized in omega arith

    now : mark marked u ≡ Settled x
    now = get_or-set_same ms u (Settled x) Unreached in_marks

    pub one_less : unsettled marked < unsettled ms
    one_less = settled_counts ms u x in_marks near.opens

    same : (k : ℕ) → k ≢ u → mark marked k ≡ mark ms k
    same k ne = get_or-set_other ms u k (Settled x) Unreached ne

    was_settled : (k : ℕ) → k ≢ u → settled marked k ≡ true → settled ms k ≡ true
    was_settled k ne h = sym (ap is_settled (same k ne)) ∙ h

    was_open : (k : ℕ) → opened marked k ≡ true → opened ms k ≡ true
    was_open k o = ⊎_elim
        (λ e. absurd (both_ways _ (ap is_open now) (subst (λ (n : ℕ). opened marked n ≡ true) e o)))
        (λ ne. sym (ap is_open (same k ne)) ∙ o)
        (cases_eq k u)

    was_reached : (k : ℕ) → reached marked k ≡ reached ms k
    was_reached k = ⊎_elim
        (λ e. let P : ℕ → Type 0 = λ n. reached marked n ≡ reached ms n in subst P (sym e) (ap is_reached now ∙ sym (open_reached _ near.opens)))
        (λ ne. ap is_reached (same k ne))
        (cases_eq k u)

    row_same : (k : ℕ) → row_at marked k ≡ row_at ms k
    row_same k = ⊎_elim
        (λ e. let P : ℕ → Type 0 = λ n. row_at marked n ≡ row_at ms n in subst P (sym e) (ap way now ∙ sym (walked_way _ _ is)))
        (λ ne. ap way (same k ne))
        (cases_eq k u)

    kept_marked : Kept t marked d
    kept_marked = record {
      marks_sized = length-set ms u (Settled x) ∙ s.kept.marks_sized;
      start_reached = was_reached _ ∙ s.kept.start_reached;
      start_zero = s.kept.start_zero;
      inside = λ k r. s.kept.inside k (sym (was_reached k) ∙ r);
      attained = λ k r. rw (row_same k) (s.kept.attained k (sym (was_reached k) ∙ r));
    }

    pub turn_begins : Settling t u 0 marked d
    turn_begins = record {
      kept = kept_marked;
      mine = ap is_settled now;
      before = λ k h. ⊎_elim
          (λ e. subst (λ (n : ℕ). t.within (at t d n) (at t d u) ≡ true) (sym e) (self laws.base (at t d u)))
          (λ ne. s.order k u (was_settled k ne h) near.opens)
          (cases_eq k u);
      after = λ k o. let o' = was_open k o in near.least k (s.kept.inside k (open_reached _ o')) o';
      eased = λ k h ne j below v a. let e = s.eased k (was_settled k ne h) j below v a in (was_reached v ∙ e.0, e.1);
      done = λ j h. absurd (omega arith);
    }

  pub turn_ends : {ms : List Mark} {d : List M} {u : ℕ} → Settling t u t.shape.pipes ms d → Searching t ms d
  turn_ends {ms} {d} {u} s = record {
    kept = s.kept;
    order = λ a b h o. laws.base.trans _ _ _ (s.before a h) (s.after b o);
    eased = λ k h j below. ⊎_elim
        (λ e. subst (λ (n : ℕ). Eased t ms d n j) (sym e) (s.done j below))
        (λ ne. s.eased k h ne j below)
        (cases_eq k u);
  }

  module _ {ms : List Mark} {d : List M} (s : Searching t ms d) (none_left : (k : ℕ) → k < 2 * t.shape.nodes → opened ms k ≡ true → ⊥) where
    walks : {v : ℕ} {c : M} → Walk t v c → (reached ms v ≡ true) × (t.within (at t d v) c ≡ true)
    walks stay = (s.kept.start_reached, rw s.kept.start_zero (laws.base.least _))
    walks (cross {u} {c} j v w below leads) =
        let ih = walks w in
        let near = s.eased u (reached_settled _ ih.0 (none_left u (s.kept.inside u ih.0))) j below v leads in
        (near.0, laws.base.trans _ _ _ near.1 (laws.order _ _ _ ih.1))

    pub finished : Shortest t ms d
    finished = record { lower = λ v c w. walks w; attained = s.kept.attained }
