-- What a hunt keeps, and how its layout is read. Assumes nothing.
use Rattle.std.proofs.Common.{◌≡◌, ℕ, ◌<◌, ◌≤◌, List, map, length, get_or, sym, ◌∙◌, arith}
use Rattle.std.proofs.lemmas.List.{length-map, get_or-map}
use Rattle.measures.specs.Laws.{Laws}
use Rattle.measures.specs.declared.measure.Measure.{Ghosts}
use Rattle.cycle_space.specs.declared.ends.Ends.{Ends}
use Rattle.search.specs.Layouts.{nowhere}
use Rattle.search.specs.Tasks.{Bounded, Sound, task, task_of}
use Rattle.cycle_space.specs.Shapes.{Node}
use Rattle.search.specs.Sought.{plan}
use Rattle.search.specs.declared.layout.Layout.{Layout}
use Rattle.search.specs.declared.hunt.Hunt.{Hunt}
use Rattle.search.specs.declared.front.Front.{Front}
use Rattle.search.proofs.Measuring.{Lawful}

-- an end that is read stands in the shape
pub end_seen : (f : Ends → ℕ) (es : List Ends) (j : ℕ) → j < length es → get_or (map f es) j 0 ≡ f (get_or es j nowhere)
end_seen f es j h = get_or-map f es j nowhere 0 h

pub pipes_seen : (es : List Ends) → length (map (λ (e : Ends). e.first) es) ≡ length es
pipes_seen es = length-map es (λ e. e.first)

module _ {M : Type 0} {m : Ghosts M} (h : Hunt M m) (s : ℕ) where
  pub bounded : Bounded (task h s)
  bounded =
      let long = pipes_seen h.net.now.ends.now in
      record {
        few_nodes = h.net.now.few_nodes;
        few_pipes = let few = h.net.now.few_pipes in omega arith;
        weighed = h.net.now.weighed ∙ sym long;
        ends_in = h.net.now.ends_in;
      }

  pub sound : 1 ≤ s → s ≤ h.net.now.nodes → Sound (task h s)
  sound low high = record { net = bounded; start_in = (low, high) }

  pub lawful : Laws m.zero m.ceiling m.join m.within → Lawful (task h s)
  lawful base = record { ceiling = m.ceiling; base = base; order = h.order }

-- the ends of a pipe are nodes
pub ends_in : {M : Type 0} (l : Layout M) (j : ℕ) → j < length l.ends.now → Node (plan l) (get_or l.ends.now j nowhere).first × Node (plan l) (get_or l.ends.now j nowhere).second
ends_in l j here =
    let long = pipes_seen l.ends.now in
    let k = l.ends_in j (omega arith) in
    (rw (← end_seen (λ e. e.first) l.ends.now j here) k.0, rw (← end_seen (λ e. e.second) l.ends.now j here) k.1)

module _ {M : Type 0} {m : Ghosts M} (f : Front M m) where
  pub laws_of : Laws m.zero m.ceiling m.join m.within → Lawful (task_of f)
  laws_of base = lawful f.hunt.now f.start base

  pub sound_of : Sound (task_of f)
  sound_of = sound f.hunt.now f.start f.start_in.0 f.start_in.1
