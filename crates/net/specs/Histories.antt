-- Lists of calls with their replies, and what they make of a net. Assumes nothing.
use Rattle.std.specs.Prelude.{ℕ, suc, Bool, List, [], ◌∷◌, Ok, Err, Result}
use Rattle.cycle_space.specs.Moments.{Moment, bare, add_node, add_pipe, drop_last, reweigh_pipe}
use Rattle.net.specs.Calls.{AddsNode, Lays, Lifts, Reweighs, FindsNext}
use Rattle.net.specs.declared.net.Net.{Net}
use Rattle.net.specs.declared.refusal.Refusal.{Refusal}

-- a call with its reply; of a next, what the scratch held besides
pub data Call (M : Type 0) : Type 0 where
  add_node_call : Result ℕ Refusal → Call M
  lay_call : ℕ → ℕ → M → Result ℕ Refusal → Call M
  lift_call : Result ℕ Refusal → Call M
  reweigh_call : ℕ → M → Result (Unit {0}) Refusal → Call M
  next_call : List M → Result ℕ Refusal → Call M

-- the net at the moment after a list of calls, the newest first: the nodes, pipes and weights that the accepted ones have made
abbrev pub moment : {M : Type 0} → List (Call M) → Moment M
moment [] = bare
moment (add_node_call (Ok k) ∷ h) = add_node (moment h)
moment (add_node_call (Err e) ∷ h) = moment h
moment (lay_call a b w (Ok k) ∷ h) = add_pipe (moment h) a b w
moment (lay_call a b w (Err e) ∷ h) = moment h
moment (lift_call (Ok k) ∷ h) = drop_last (moment h)
moment (lift_call (Err e) ∷ h) = moment h
moment (reweigh_call j w (Ok u) ∷ h) = reweigh_pipe (moment h) j w
moment (reweigh_call j w (Err e) ∷ h) = moment h
moment (next_call s r ∷ h) = moment h

-- how many nexts were accepted since opening, or since the latest call that struck rings
abbrev pub found : {M : Type 0} → List (Call M) → ℕ
found [] = 0
found (add_node_call r ∷ h) = found h
found (lay_call a b w (Ok k) ∷ h) = 0
found (lay_call a b w (Err e) ∷ h) = found h
found (lift_call (Ok k) ∷ h) = 0
found (lift_call (Err e) ∷ h) = found h
found (reweigh_call j w (Ok u) ∷ h) = 0
found (reweigh_call j w (Err e) ∷ h) = found h
found (next_call s (Ok k) ∷ h) = suc (found h)
found (next_call s (Err e) ∷ h) = found h

module _ {M : Type 0} (none : M) (join : M → M → M) (within : M → M → Bool) where
  -- a run: these calls with these replies can lead from the net `start` to another, and each step is what the call's own contract says
  pub data Leads (start : Net M) : List (Call M) → Net M → Type 0 where
    no_call : Leads start [] start
    by_add_node : {h : List (Call M)} {n n' : Net M} {r : Result ℕ Refusal} → Leads start h n → AddsNode n r n' → Leads start (add_node_call r ∷ h) n'
    by_lay : {h : List (Call M)} {n n' : Net M} {a b : ℕ} {w : M} {r : Result ℕ Refusal} → Leads start h n → Lays n a b w r n' → Leads start (lay_call a b w r ∷ h) n'
    by_lift : {h : List (Call M)} {n n' : Net M} {r : Result ℕ Refusal} → Leads start h n → Lifts n r n' → Leads start (lift_call r ∷ h) n'
    by_reweigh : {h : List (Call M)} {n n' : Net M} {j : ℕ} {w : M} {r : Result (Unit {0}) Refusal} → Leads start h n → Reweighs n j w r n' → Leads start (reweigh_call j w r ∷ h) n'
    by_next : {h : List (Call M)} {n n' : Net M} {s s' : List M} {r : Result ℕ Refusal} → Leads start h n → FindsNext none join within n s r n' s' → Leads start (next_call s r ∷ h) n'
