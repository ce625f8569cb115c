use Rattle.std.proofs.Common.{sym, refl, arith}
use Rattle.net.proofs.Kept.{ends_for_all, pipes_seen}
use Rattle.net.proofs.Keeping.{no_more_pipes}
use Rattle.net.proofs.Replies.{lifts}
use Rattle.net.proofs.Views.{seen_lifted}
use Rattle.net.proofs.net.Net.lift.Goals as goal

pub invariant_of-self-clause-keeps : goal.invariant_of-self-clause-keeps
invariant_of-self-clause-keeps g c = let n = c.args.self.now in no_more_pipes n.tables n.keeps _ _ (omega arith) refl

pub returns-clause-replied : goal.returns-clause-replied
returns-clause-replied g c =
    let n = c.args.self.now in (
      lifts n c.if-pipes-eq0.false,
      record {
        highest_number = sym (pipes_seen n);
        one_less = seen_lifted n.tables.nodes n.tables.pipes n.tables.ends n.column.now (ends_for_all n) n.fits;
        rings_struck = refl;
        column_stays = refl;
      },
    )
