-- One relaxed pipe keeps what holds while a state is being settled. Assumes nothing.
use Rattle.std.proofs.Common.{◌≡◌, ℕ, ◌+◌, ◌*◌, ◌<◌, Bool, true, false, ◌≢◌, ◌⊎◌, List, length, Some, None, Option, sym, refl, ap, ◌∙◌, subst, inl, inr, ⊎_elim, arith, length-set, get_or-set_other, get_or-set_same, below_more}
use borrow.Author.Tests.{both_ways}
use Rattle.std.proofs.lemmas.Bool.{cases_eq, cases_Bool}
use Rattle.cycle_space.specs.Rows.{Row}
use Rattle.search.specs.declared.mark.Mark.{Mark}
use Rattle.search.specs.declared.mark.Mark.TheVariants.{Unreached, Open, Settled}
use Rattle.search.specs.Marks.{mark, is_reached, is_open, is_settled, reached, settled, row_at}
use Rattle.search.specs.Tasks.{Task, Attained, arc, weight, even_start}
use Rattle.search.specs.Steps.{turn, better, Entered, Relaxed}
use Rattle.search.specs.Searches.{at, Eased, Kept, Settling, unsettled}
use Rattle.search.proofs.Measuring.{Lawful, self, grows}
use Rattle.search.proofs.Marking.{settled_reached, open_counts}

-- a row that attains a state attains the next with one more pipe
abbrev pub Stepping : {M : Type 0} → Task M → Type 0
Stepping {M} t = (u v j : ℕ) (x : Row) (e : M) → j < t.shape.pipes → arc t.shape t.support u j ≡ Some v → Attained t u x e → Attained t v (turn x j) (t.join e (weight t j))

module _ {M : Type 0} (within : M → M → Bool) where
  not_better : (m : Mark) (d reach : M) → better within m d reach ≡ false → (is_settled m ≡ true) ⊎ ((is_reached m ≡ true) × (within d reach ≡ true))
  not_better Unreached d reach e = cc
  not_better (Open x) d reach e = ⊎_elim (λ h. inr (refl, h)) (λ h. cc) (cases_Bool (within d reach))
  not_better (Settled x) d reach e = inl refl

  is_better : (m : Mark) (d reach : M) → better within m d reach ≡ true → (is_settled m ≡ false) × (is_reached m ≡ true → within d reach ≡ false)
  is_better Unreached d reach e = (refl, λ h. cc)
  is_better (Open x) d reach e = (refl, λ _. ⊎_elim (λ h. cc) (λ h. h) (cases_Bool (within d reach)))
  is_better (Settled x) d reach e = cc

-- what an entered state changes, by places
pub record Moved {M : Type 0} (t : Task M) (u v j : ℕ) (reach : M) (ms : List Mark) (d : List M) (ms' : List Mark) (d' : List M) : Type 0 where
  pub long : length ms' ≡ length ms
  pub d_same : (k : ℕ) → k ≢ v → at t d' k ≡ at t d k
  pub d_new : at t d' v ≡ reach
  pub m_same : (k : ℕ) → k ≢ v → mark ms' k ≡ mark ms k
  pub m_new : mark ms' v ≡ Open (turn (row_at ms u) j)

moved : {M : Type 0} (t : Task M) (u v j : ℕ) (reach : M) (ms : List Mark) (d : List M) (ms' : List Mark) (d' : List M) → v < length d → v < length ms → Entered ms d u v j reach ms' d' → Moved t u v j reach ms d ms' d'
moved t u v j reach ms d ms' d' in_d in_ms e =
    record {
      long = ap length e.marks_is ∙ length-set _ _ _;
      d_same = λ k ne. ap (λ l. at t l k) e.dist_is ∙ get_or-set_other d v k reach t.none ne;
      d_new = ap (λ l. at t l v) e.dist_is ∙ get_or-set_same d v reach t.none in_d;
      m_same = λ k ne. ap (λ l. mark l k) e.marks_is ∙ get_or-set_other ms v k _ Unreached ne;
      m_new = ap (λ l. mark l v) e.marks_is ∙ get_or-set_same ms v _ Unreached in_ms;
    }

module _ {M : Type 0} (t : Task M) (laws : Lawful t) (step : Stepping t) (u v i : ℕ) (ms : List Mark) (d : List M) (ms' : List Mark) (d' : List M)
    (before : Settling t u i ms d) (here : i < t.shape.pipes) (leads : arc t.shape t.support u i ≡ Some v) (small : v < 2 * t.shape.nodes)
    (fresh : settled ms v ≡ false)
    (lighter : reached ms v ≡ true → t.within (at t d v) (t.join (at t d u) (weight t i)) ≡ false)
    (m : Moved t u v i (t.join (at t d u) (weight t i)) ms d ms' d') where
  reach : M
  reach = t.join (at t d u) (weight t i)

  -- a settled state is not v
  apart : (k : ℕ) → settled ms k ≡ true → k ≢ v
  apart k s e = both_ways _ fresh (subst (λ (n : ℕ). settled ms n ≡ true) e s)

  still : (k : ℕ) → settled ms k ≡ true → at t d' k ≡ at t d k
  still k s = m.d_same k (apart k s)

  settled_same : (k : ℕ) → settled ms' k ≡ settled ms k
  settled_same k = ⊎_elim
      (λ e. let P : ℕ → Type 0 = λ n. settled ms' n ≡ settled ms n in subst P (sym e) (ap is_settled m.m_new ∙ sym fresh))
      (λ ne. ap is_settled (m.m_same k ne))
      (cases_eq k v)

  was_settled : (k : ℕ) → settled ms' k ≡ true → settled ms k ≡ true
  was_settled k s = sym (settled_same k) ∙ s

  was_reached : (k : ℕ) → k ≢ v → reached ms' k ≡ true → reached ms k ≡ true
  was_reached k ne r = sym (ap is_reached (m.m_same k ne)) ∙ r

  reached_new : reached ms' v ≡ true
  reached_new = ap is_reached m.m_new

  rise : (k : ℕ) → reached ms k ≡ true → reached ms' k ≡ true
  rise k r = ⊎_elim (λ e. subst (λ (n : ℕ). reached ms' n ≡ true) (sym e) reached_new) (λ ne. ap is_reached (m.m_same k ne) ∙ r) (cases_eq k v)

  sinks : (k : ℕ) → reached ms k ≡ true → t.within (at t d' k) (at t d k) ≡ true
  unfolding reach
  sinks k r = ⊎_elim
      (λ e.
      let rv : reached ms v ≡ true = subst (λ (n : ℕ). reached ms n ≡ true) e r in
      let le : t.within reach (at t d v) ≡ true = ⊎_elim (λ h. absurd (both_ways _ (lighter rv) h)) (λ h. h) (laws.base.total (at t d v) reach) in
      let P : ℕ → Type 0 = λ n. t.within (at t d' n) (at t d n) ≡ true in
      subst P (sym e) (rw m.d_new le))
      (λ ne. rw (m.d_same k ne) (self laws.base (at t d k)))
      (cases_eq k v)

  eased_still : (k j : ℕ) → settled ms k ≡ true → Eased t ms d k j → Eased t ms' d' k j
  eased_still k j s old w a =
      let h = old w a in
      (rise w h.0, rw (still k s) (laws.base.trans _ _ _ (sinks w h.0) h.1))

  start_still : at t d' (even_start t) ≡ t.none
  start_still = ⊎_elim
      (λ e.
      let rv : reached ms v ≡ true = subst (λ (n : ℕ). reached ms n ≡ true) e before.kept.start_reached in
      let zv : at t d v ≡ t.none = subst (λ (n : ℕ). at t d n ≡ t.none) e before.kept.start_zero in
      absurd (both_ways _ (rw zv at (lighter rv)) (laws.base.least (t.join (at t d u) (weight t i)))))
      (λ ne. m.d_same _ ne ∙ before.kept.start_zero)
      (cases_eq (even_start t) v)

  att : (k : ℕ) → reached ms' k ≡ true → Attained t k (row_at ms' k) (at t d' k)
  att k r = ⊎_elim
      (λ e.
      let a = before.kept.attained u (settled_reached _ before.mine) in
      let b = step u v i _ _ here leads a in
      let P : ℕ → Type 0 = λ n. Attained t n (row_at ms' n) (at t d' n) in
      subst P (sym e) (rw (m.m_new, m.d_new) b))
      (λ ne. rw (m.m_same k ne, m.d_same k ne) (before.kept.attained k (was_reached k ne r)))
      (cases_eq k v)

  kept_on : Kept t ms' d'
  kept_on = record {
    marks_sized = m.long ∙ before.kept.marks_sized;
    start_reached = rise _ before.kept.start_reached;
    start_zero = start_still;
    inside = λ k r. ⊎_elim (λ e. rw e small) (λ ne. before.kept.inside k (was_reached k ne r)) (cases_eq k v);
    attained = att;
  }

  pub entered_on : Settling t u (i + 1) ms' d'
  entered_on = record {
    kept = kept_on;
    mine = settled_same u ∙ before.mine;
    before = λ k s. rw (still k (was_settled k s), still u before.mine) (before.before k (was_settled k s));
    after = λ k o. ⊎_elim
        (λ e. let P : ℕ → Type 0 = λ n. t.within (at t d' u) (at t d' n) ≡ true in subst P (sym e) (rw (m.d_new, still u before.mine) (grows laws _ _)))
        (λ ne. rw (still u before.mine, m.d_same k ne) (before.after k (sym (ap is_open (m.m_same k ne)) ∙ o)))
        (cases_eq k v);
    eased = λ k s ne j h. eased_still k j (was_settled k s) (before.eased k (was_settled k s) ne j h);
    done = below_more _ _ (λ j h. eased_still u j before.mine (before.done j h))
        (λ w a.
        let e : w ≡ v = cc (leads, a) in
        let P : ℕ → Type 0 = λ n. (reached ms' n ≡ true) × (t.within (at t d' n) (t.join (at t d' u) (weight t i)) ≡ true) in
        subst P (sym e) (reached_new, rw (m.d_new, still u before.mine) (self laws.base _)));
  }

module _ {M : Type 0} {t : Task M} {u i : ℕ} {ms : List Mark} {d : List M} (s : Settling t u i ms d) where
  -- where the pipe i is done too
  one_more : Eased t ms d u i → Settling t u (i + 1) ms d
  one_more e = record {
    kept = s.kept;
    mine = s.mine;
    before = s.before;
    after = s.after;
    eased = s.eased;
    done = below_more _ _ s.done e;
  }

  -- where the pipe does not lie at u
  pub passed_on : {o : Option ℕ} → o ≡ arc t.shape t.support u i → o ≡ None → Settling t u (i + 1) ms d
  passed_on leads is = one_more (λ w a. cc)

  -- where the other state does not improve
  stayed_on : Lawful t → (v : ℕ) → arc t.shape t.support u i ≡ Some v
      → better t.within (mark ms v) (at t d v) (t.join (at t d u) (weight t i)) ≡ false → Settling t u (i + 1) ms d
  stayed_on laws v leads no_better = one_more (λ w a.
      let e : w ≡ v = cc (leads, a) in
      let P : ℕ → Type 0 = λ n. (reached ms n ≡ true) × (t.within (at t d n) (t.join (at t d u) (weight t i)) ≡ true) in
      subst P (sym e) (⊎_elim
      (λ sv. (settled_reached _ sv, laws.base.trans _ _ _ (s.before v sv) (grows laws _ _)))
      (λ h. h)
      (not_better _ _ _ _ no_better)))

  pub relaxed_on : Lawful t → Stepping t → {o : Option ℕ} {v : ℕ} {ms' : List Mark} {d' : List M}
      → i < t.shape.pipes → o ≡ arc t.shape t.support u i → o ≡ Some v → v < 2 * t.shape.nodes → v < length d → v < 128
      → {w : M} → w ≡ weight t i → Relaxed t.none t.join t.within ms d u v i w ms' d'
      → Settling t u (i + 1) ms' d' × (unsettled ms' ≡ unsettled ms)
  relaxed_on laws step {v = v} {ms' = ms'} {d' = d'} here arc_is to small in_d fits is q =
      let leads = sym arc_is ∙ to in
      let in_ms : v < length ms = let e = s.kept.marks_sized in omega arith in
      let r = rw is at q in
      ⊎_elim
      (λ yes_better.
      let b = is_better _ _ _ _ yes_better in
      let e = r.moves yes_better in (
        entered_on t laws step u v i ms d ms' d' s here leads small b.0 b.1 (moved t u v i _ ms d ms' d' in_d in_ms e),
        ap unsettled e.marks_is ∙ open_counts ms v _ in_ms b.0,
      ))
      (λ no_better.
      let e = r.stays no_better in
      (rw (e.0, e.1) (stayed_on laws v leads no_better), ap unsettled e.0))
      (cases_Bool (better t.within (mark ms v) (at t d v) (t.join (at t d u) (weight t i))))
