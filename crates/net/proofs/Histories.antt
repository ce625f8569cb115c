-- What every list of calls leads to: the net that the accepted calls made, so many rings, and each of them lightest for its support.
-- Assumes nothing.
use Rattle.std.proofs.Common.{◌≡◌, ℕ, suc, ◌+◌, ◌<◌, Bool, true, List, [], ◌∷◌, ◌++◌, length, get_or, Ok, Err, Result, sym, refl, ap, ◌∙◌, subst, arith}
use mathlib.Core.Path.{fun_ext}
use native.Mathlib.Decide.{dec_lt}
use Rattle.std.proofs.lemmas.List.{length_push, get_or_push, get_or_append_left}
use Rattle.cycle_space.specs.Rows.{Row, empty, odd}
use Rattle.cycle_space.specs.Moments.{Moment, shape, weight, add_node, add_pipe, drop_last, reweigh_pipe}
use Rattle.cycle_space.specs.Bases.{Closed}
use Rattle.cycle_space.proofs.Keeping.{closed_same}
use Rattle.net.specs.Views.{view, rings, support}
use Rattle.net.specs.Calls.{Opened, AddsNode, Lays, Lifts, Reweighs, FoundNext, FindsNext}
use Rattle.net.specs.Histories.{Call, add_node_call, lay_call, lift_call, reweigh_call, next_call, moment, found, Leads, no_call, by_add_node, by_lay, by_lift, by_reweigh, by_next}
use Rattle.net.specs.declared.net.Net.{Net}
use Rattle.net.specs.declared.refusal.Refusal.{Refusal}

module _ {M : Type 0} (none : M) (join : M → M → M) (within : M → M → Bool) where
  -- each of the rings weighs at most as much as any closed set that is odd against its support
  abbrev pub Least : Moment M → List Row → (ℕ → Row) → Type 0
  Least m rs sup =
      (i : ℕ) → i < length rs → (x : Row) → Closed (shape m) x → odd x (sup (i + 1)) ≡ true → within (weight none join m (get_or rs i empty)) (weight none join m x) ≡ true

  -- the net is at this moment, with k rings, all lightest
  pub record State (m : Moment M) (k : ℕ) (n : Net M) : Type 0 where
    pub seen : view n ≡ m
    pub so_many : length (rings n) ≡ k
    pub least : Least (view n) (rings n) (support n)

  -- a call that is declined leaves the net as it was
  stays : {m : Moment M} {k : ℕ} {n n' : Net M} → State m k n → n' ≡ n → State m k n'
  stays {m} {k} s e = subst (State m k) (sym e) s

  without_rings : {m : Moment M} (n' : Net M) → view n' ≡ m → rings n' ≡ [] → State m 0 n'
  without_rings n' v r = record {
    seen = v;
    so_many = ap length r;
    least = λ i l. absurd (let e : length (rings n') ≡ 0 = ap length r in omega arith);
  }

  after_add_node : (h : List (Call M)) (n : Net M) (r : Result ℕ Refusal) (n' : Net M) → State (moment h) (found h) n → AddsNode n r n'
      → State (moment (add_node_call r ∷ h)) (found (add_node_call r ∷ h)) n'
  after_add_node h n (Ok k) n' s l =
      let a = l.1 in
      record {
        seen = a.one_more ∙ ap add_node s.seen;
        so_many = ap length a.rings_remain ∙ s.so_many;
        least = subst (λ v. Least v (rings n') (support n')) (sym a.one_more)
            (subst (λ rs. Least (add_node (view n)) rs (support n')) (sym a.rings_remain)
            (subst (Least (add_node (view n)) (rings n)) (sym (fun_ext a.supports_remain))
            (λ i b x c o. s.least i b x (closed_same (shape (add_node (view n))) (shape (view n)) refl refl refl x c) o)));
      }
  after_add_node h n (Err e) n' s l = stays s l.1

  after_lay : (h : List (Call M)) (n : Net M) (a b : ℕ) (w : M) (r : Result ℕ Refusal) (n' : Net M) → State (moment h) (found h) n → Lays n a b w r n'
      → State (moment (lay_call a b w r ∷ h)) (found (lay_call a b w r ∷ h)) n'
  after_lay h n a b w (Ok k) n' s l = without_rings n' (l.1.one_more ∙ ap (λ m. add_pipe m a b w) s.seen) l.1.rings_struck
  after_lay h n a b w (Err e) n' s l = stays s l.1

  after_lift : (h : List (Call M)) (n : Net M) (r : Result ℕ Refusal) (n' : Net M) → State (moment h) (found h) n → Lifts n r n'
      → State (moment (lift_call r ∷ h)) (found (lift_call r ∷ h)) n'
  after_lift h n (Ok k) n' s l = without_rings n' (l.1.one_less ∙ ap drop_last s.seen) l.1.rings_struck
  after_lift h n (Err e) n' s l = stays s l.1

  after_reweigh : (h : List (Call M)) (n : Net M) (j : ℕ) (w : M) (r : Result (Unit {0}) Refusal) (n' : Net M) → State (moment h) (found h) n → Reweighs n j w r n'
      → State (moment (reweigh_call j w r ∷ h)) (found (reweigh_call j w r ∷ h)) n'
  after_reweigh h n j w (Ok u) n' s l = without_rings n' (l.1.other_weight ∙ ap (λ m. reweigh_pipe m j w) s.seen) l.1.rings_struck
  after_reweigh h n j w (Err e) n' s l = stays s l.1

  -- one ring more, lightest for the first support without a ring
  one_ring_more : {m : Moment M} {k : ℕ} (n : Net M) (j : ℕ) (n' : Net M) → State m k n → FoundNext none join within n j n' → State m (suc k) n'
  one_ring_more {m} {k} n j n' s f = record {
    seen = f.net_stays ∙ s.seen;
    so_many = size ∙ ap suc s.so_many;
    least = subst (λ v. Least v (rings n') (support n')) (sym f.net_stays)
        (subst (λ rs. Least (view n) rs (support n')) (sym f.one_more)
        (λ i l x cl o.
        let b : i < suc (length (rings n)) = (let e = length_push (rings n) c in omega arith) in
        place i b x cl (sym (ap (odd x) (f.later_supports.earlier_stay (i + 1) (let q = f.next_number in omega arith))) ∙ o)));
  }
    where
      c : Row
      c = f.ring

      size : length (rings n') ≡ suc (length (rings n))
      size = ap length f.one_more ∙ length_push (rings n) c ∙ omega arith

      place : (i : ℕ) → i < suc (length (rings n)) → (x : Row) → Closed (shape (view n)) x → odd x (support n (i + 1)) ≡ true
          → within (weight none join (view n) (get_or (rings n ++ (c ∷ [])) i empty)) (weight none join (view n) x) ≡ true
      place i l x cl o = elim (dec_lt i (length (rings n))) [
        | yes b ↦ ap (λ r. within (weight none join (view n) r) (weight none join (view n) x)) (get_or_append_left (rings n) (c ∷ []) empty i b) ∙ s.least i b x cl o
        | no b ↦ ap (λ r. within (weight none join (view n) r) (weight none join (view n) x)) (get_or_push (rings n) c empty i (omega arith))
            ∙ f.lightest.least x cl (subst (λ v. odd x (support n v) ≡ true) (let q = f.next_number in omega arith) o)
      ]

  after_next : (h : List (Call M)) (n : Net M) (sc : List M) (r : Result ℕ Refusal) (n' : Net M) (sc' : List M) → State (moment h) (found h) n → FindsNext none join within n sc r n' sc'
      → State (moment (next_call sc r ∷ h)) (found (next_call sc r ∷ h)) n'
  after_next h n sc (Ok k) n' sc' s l = one_ring_more n k n' s l.replied.1
  after_next h n sc (Err e) n' sc' s l = stays s l.replied.1

  pub state : {column : List M} (start : Net M) → Opened column start → (h : List (Call M)) (n : Net M) → Leads none join within start h n → State (moment h) (found h) n
  state start o [] _ no_call = without_rings start o.nothing o.no_rings
  state start o (add_node_call r ∷ h) n' (by_add_node {n = n} before l) = after_add_node h n r n' (state start o h n before) l
  state start o (lay_call a b w r ∷ h) n' (by_lay {n = n} before l) = after_lay h n a b w r n' (state start o h n before) l
  state start o (lift_call r ∷ h) n' (by_lift {n = n} before l) = after_lift h n r n' (state start o h n before) l
  state start o (reweigh_call j w r ∷ h) n' (by_reweigh {n = n} before l) = after_reweigh h n j w r n' (state start o h n before) l
  state start o (next_call sc r ∷ h) n' (by_next {n = n} {s' = sc'} before l) = after_next h n sc r n' sc' (state start o h n before) l
