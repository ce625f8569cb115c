use Rattle.std.proofs.Common.{arith, rules}
use Rattle.net.proofs.Keeping.{nodes_added, supports_remain}
use Rattle.net.proofs.net.Net.add_node.Goals as goal

pub invariant_of-self-clause-keeps : goal.invariant_of-self-clause-keeps
invariant_of-self-clause-keeps g c = let n = c.args.self.now in nodes_added n.tables n.keeps _ (omega arith) (omega arith)

pub returns-clause-replied : goal.returns-clause-replied
returns-clause-replied g c = search (rules, supports_remain)
