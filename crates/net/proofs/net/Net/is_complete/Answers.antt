use Rattle.net.proofs.Seeking.{complete_by_count, still_room}
use Rattle.net.proofs.net.Net.is_complete.Goals as goal

pub returns : goal.returns
returns g c =
    let n = c.args.self.now in
    let due = complete_by_count n c.found.result c.due.result c.found.ensures c.due.ensures.formula in
    record { due = due; room = λ more. still_room n due more }
