-- A row that attains a state attains, with one more pipe turned, the state across the pipe. Assumes nothing.
use Rattle.std.proofs.Common.{◌≡◌, ℕ, true, ◌&&◌, eqb, sym, ap, ◌∙◌, subst, ap₂, arith}
use Rattle.cycle_space.specs.Rows.{bit, add2}
use Rattle.cycle_space.specs.Shapes.{Shape}
use Rattle.cycle_space.proofs.Booleans.{add2_cut}
use Rattle.cycle_space.proofs.Folds.{bits, fold_same}
use Rattle.cycle_space.proofs.Counting.{flip}
use Rattle.cycle_space.proofs.Trails.{touching_parity, bd_same, bd_flip, ends_cross, odd_flip}
use Rattle.search.specs.Tasks.{Task, Sound, weight, node}
use Rattle.search.specs.Steps.{turn}
use Rattle.search.proofs.Measuring.{Lawful}
use Rattle.search.proofs.Relaxing.{Stepping}
use Rattle.search.proofs.Sets.{turn_bit, turn_of_pipes, odd_pipes, row_heft, heft_same, heft_flip}
use Rattle.search.proofs.Arcs.{arc_crosses}

pub stepping : {M : Type 0} (t : Task M) → Lawful t → Sound t → Stepping t
stepping t laws sound u v j x d here leads a =
    let N : Shape = t.shape in
    let few = sound.net.few_pipes in
    let weighed = sound.net.weighed in
    let turns : (i : ℕ) → bit (turn x j) i ≡ flip (bit x) j i = turn_bit x j a.of_pipes.words.four (omega arith) in
    let c = arc_crosses t sound u j here v leads in
    let new = turn_of_pipes N.pipes x j few here a.of_pipes in
    record {
      of_pipes = new;
      ends = λ w.
          touching_parity N (turn x j) w N.pipes
          ∙ bd_same N (bit (turn x j)) (flip (bit x) j) turns w
          ∙ bd_flip N (bit x) j here w
          ∙ ap₂ add2 (sym (touching_parity N x w N.pipes) ∙ a.ends w) (ends_cross N j (node u) (node v) c.0 w)
          ∙ add2_cut (eqb t.start w) (eqb (node u) w) (eqb (node v) w);
      parity =
          odd_pipes N (turn x j) t.support few new
          ∙ fold_same bits N.pipes (λ i. bit t.support i && bit (turn x j) i) (λ i. bit t.support i && flip (bit x) j i) (λ i _. ap (λ b. bit t.support i && b) (turns i))
          ∙ odd_flip N (bit t.support) (bit x) j here
          ∙ ap (λ b. add2 b (bit t.support j)) (sym (odd_pipes N x t.support few a.of_pipes) ∙ a.parity)
          ∙ sym c.1;
      weighs =
          subst (λ y. t.within y (t.join d (weight t j)) ≡ true) (sym (row_heft laws (turn x j) ∙ heft_same laws (bit (turn x j)) (flip (bit x) j) turns))
          (heft_flip laws (bit x) j d (omega arith) (subst (λ y. t.within y d ≡ true) (row_heft laws x) a.weighs));
    }
