use Rattle.std.proofs.Common.{sym, ap, ◌∙◌, arith}
use Rattle.cycle_space.specs.Moments.{shape}
use Rattle.net.specs.Views.{view}
use Rattle.net.proofs.Kept.{first_seen, second_seen}
use Rattle.net.proofs.net.Net.ends.Goals as goal

pub returns : goal.returns
returns g c =
    let n = c.args.self.now in
    let is = c.in_ok-pipe_place.ensures.1 in (
      c.in_ok-pipe_place.ensures.0,
      record {
        first_end = sym (first_seen n _ (omega (arith, is.next, is.within))) ∙ ap (shape (view n)).first (omega (arith, is.next));
        second_end = sym (second_seen n _ (omega (arith, is.next, is.within))) ∙ ap (shape (view n)).second (omega (arith, is.next));
      },
    )
