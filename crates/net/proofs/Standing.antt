-- The promise, from what every list of calls leads to. Assumes nothing.
use Rattle.std.proofs.Common.{◌≡◌, ℕ, ◌+◌, ◌-◌, ◌<◌, ◌≤◌, Bool, true, ◌↔◌, List, length, get_or, Ok, Err, Result, sym, refl, ap, ◌∙◌, subst, subst₂, arith}
use Rattle.measures.specs.Laws.{Laws, KeepsOrder}
use Rattle.cycle_space.specs.Rows.{Row, empty, odd}
use Rattle.cycle_space.specs.Shapes.{EndsAreNodes, Due}
use Rattle.cycle_space.specs.Moments.{Moment, shape, weight}
use Rattle.cycle_space.specs.Bases.{Closed, Basis}
use Rattle.cycle_space.specs.Supports.{rank, Sound}
use Rattle.cycle_space.proofs.Linear.{Joins}
use Rattle.cycle_space.proofs.Props.{as_rings}
use Rattle.cycle_space.proofs.Due.{due_rank, due_unique}
use Rattle.cycle_space.proofs.Lists.{basis_when_full, full_when_basis, exchanges, lightest}
use Rattle.cycle_space.proofs.Carried.{equally_many}
use Rattle.net.specs.Refusals.{number}
use Rattle.net.specs.Keeps.{row_at, supports_of}
use Rattle.net.specs.Views.{view, rings}
use Rattle.net.specs.Calls.{Opened, NextDeclined, all_found, scratch_short, FindsNext}
use Rattle.net.specs.Histories.{moment}
use Rattle.net.specs.Promise.{Answers, KeepsItsPromise}
use Rattle.net.specs.declared.net.Net.{Net}
use Rattle.net.specs.declared.refusal.Refusal.{Refusal}
use Rattle.net.specs.declared.refusal.Refusal.TheVariants.{Complete}
use Rattle.net.proofs.Kept.{rings_seen, ring_seen, view_shape, ends_are_nodes}
use Rattle.net.proofs.Histories.{State, state}

-- a measure's values are joined and ordered as the theory wants it
joins : {M : Type 0} {zero' ceiling : M} {join : M → M → M} {within : M → M → Bool} → Laws zero' ceiling join within → KeepsOrder join within → Joins within zero' join
joins l k = record {
  order = record { total = l.total; trans = l.trans };
  monoid = record { left = l.neutral; assoc = l.assoc; comm = l.comm };
  mono = k;
}

module _ {M : Type 0} (zero' : M) (join : M → M → M) (within : M → M → Bool) where
  -- our rings at a moment, with the supports of the net, as the theory has them
  record Ready (m : Moment M) (n : Net M) : Type 0 where
    seen : view n ≡ m
    nodes : EndsAreNodes (shape m)
    sound : Sound (shape m) (length (rings n)) (λ i. get_or (rings n) i empty) (supports_of n.tables)
    least : (i : ℕ) → i < length (rings n) → (x : Row) → Closed (shape m) x → odd x (supports_of n.tables i) ≡ true
        → within (weight zero' join m (get_or (rings n) i empty)) (weight zero' join m x) ≡ true

  ready : {m : Moment M} {k : ℕ} (n : Net M) → State zero' join within m k n → Ready m n
  ready {m} n s = record {
    seen = s.seen;
    nodes = subst (λ v. EndsAreNodes (shape v)) s.seen (ends_are_nodes n);
    sound = as_rings (λ i l. sym (ring_seen n i (let e = rings_seen n in omega arith)))
        (subst₂ (λ N j. Sound N j (row_at n.tables.rows) (supports_of n.tables))
        (sym (view_shape n) ∙ ap shape s.seen) (sym (rings_seen n)) n.keeps.sound);
    least = λ i l x c is_odd.
        subst (λ v. within (weight zero' join v (get_or (rings n) i empty)) (weight zero' join v x) ≡ true) s.seen
        (s.least i l x (subst (λ v. Closed (shape v) x) (sym s.seen) c)
        (subst (λ j. odd x (supports_of n.tables j) ≡ true) (let q : i ≡ i + 1 - 1 = omega arith in q) is_odd));
  }

  -- a ring that is found is answered
  answers : {m : Moment M} {k : ℕ} (n : Net M) → State zero' join within m k n → Answers n k (rings n)
  answers n s = record {
    so_many = s.so_many;
    each = λ i l. (
      λ e d. d.1 (omega arith, (let long = s.so_many in omega arith)),
      ap (λ j. get_or (rings n) j empty) (let q : i ≡ i + 1 - 1 = omega arith in q),
    );
  }

  module _ {m : Moment M} {n : Net M} (r : Ready m n) where
    -- our rings are a basis exactly where they are as many as are due
    basis_due : Basis (shape m) (rings n) → Due (shape (view n)) (length (rings n))
    basis_due b =
        subst₂ (λ v k. Due (shape v) k) (sym r.seen) (sym (full_when_basis (shape m) (rings n) (supports_of n.tables) r.sound b))
        (due_rank (shape m) r.nodes)

    due_basis : Due (shape m) (length (rings n)) → Basis (shape m) (rings n)
    due_basis d =
        basis_when_full (shape m) (rings n) (supports_of n.tables) r.sound
        (due_unique (shape m) (length (rings n)) (rank (shape m)) d (due_rank (shape m) r.nodes))

    seen_basis : Due (shape (view n)) (length (rings n)) → Basis (shape m) (rings n)
    seen_basis d = due_basis (subst (λ v. Due (shape v) (length (rings n))) r.seen d)

    -- where the refusal Complete applies to next, our rings are a basis
    declined_due : (sc : List M) (e : Refusal) → NextDeclined n sc e → e ≡ Complete → Basis (shape m) (rings n)
    declined_due sc e (all_found q d) c = seen_basis d
    declined_due sc e (scratch_short q l) c = cc

    -- and no other with a number up to its own applies to next
    declined_early : (sc : List M) (e : Refusal) → NextDeclined n sc e → number e ≤ 6 → e ≡ Complete
    declined_early sc e (all_found q d) l = q
    declined_early sc e (scratch_short q s) l = absurd (let z : number e ≡ 7 = ap number q in omega arith)

    -- next is declined as complete exactly where our rings are a basis
    complete : (sc sc' : List M) (re : Result ℕ Refusal) (n' : Net M) → FindsNext zero' join within n sc re n' sc' → (re ≡ Err Complete) ↔ Basis (shape m) (rings n)
    complete sc sc' (Ok k) n' f = (
      λ e. cc,
      λ b. absurd (f.replied.0 Complete (all_found refl (basis_due b))),
    )
    complete sc sc' (Err e) n' f =
        let s = f.replied.0 in (
          λ q. declined_due sc e s.applies cc,
          λ b. ap Err (declined_early sc e s.applies (s.least Complete (all_found refl (basis_due b)))),
        )

  pub promise : {ceiling : M} → Laws zero' ceiling join within → KeepsOrder join within → ((a b : M) → Dec (a ≡ b))
      → {column : List M} (start : Net M) → Opened column start → KeepsItsPromise zero' join within start
  promise laws order told start opened h n led =
      let js = joins laws order in
      let st = state zero' join within start opened h n led in
      let r = ready n st in
      let supports : ℕ → Row = supports_of n.tables in
      record {
        net_as_called = st.seen;
        rings_as_answered = answers n st;
        exchanges_with_any_basis = exchanges js (moment h) (rings n) supports r.sound r.least;
        complete_exactly_when_basis = complete r;
        lightest_when_basis = λ b rival c. lightest js (moment h) (rings n) supports r.sound r.least rival c b;
        equally_many_at_most = λ column start' opened' h' n' led' same due due'.
            let st' = state zero' join within start' opened' h' n' led' in
            let r' = ready n' st' in
            equally_many js told (moment h) (rings n) supports r.sound r.least (due_basis r (subst (Due (shape (moment h))) (sym st.so_many) due))
            (moment h') (rings n') (supports_of n'.tables) r'.sound r'.least (due_basis r' (subst (Due (shape (moment h'))) (sym st'.so_many) due')) same;
      }
