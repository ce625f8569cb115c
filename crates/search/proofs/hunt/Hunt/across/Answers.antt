use Rattle.std.proofs.Common.{arith}
use Rattle.search.proofs.Arcs.{arrival_inside}
use Rattle.search.proofs.Laying.{ends_in}
use Rattle.search.proofs.hunt.Hunt.across.Goals as goal

pub arrival-requires : goal.arrival-requires
arrival-requires g c =
    let net = c.args.self.now.net.now in
    let few = net.few_nodes in
    let pipes = net.few_pipes in
    let k = (ends_in net c.args.place c.requires).1 in
    (k.0, omega arith, omega arith)

pub arrival-requires-then-ends-node-2 : goal.arrival-requires-then-ends-node-2
arrival-requires-then-ends-node-2 g c =
    let net = c.args.self.now.net.now in
    let few = net.few_nodes in
    let pipes = net.few_pipes in
    let k = (ends_in net c.args.place c.requires).0 in
    (k.0, omega arith, omega arith)

pub returns-then-ends-node-clause-inside : goal.returns-then-ends-node-clause-inside
returns-then-ends-node-clause-inside g c =
    let k = (ends_in c.args.self.now.net.now c.args.place c.requires).1 in
    rw c.arrival.ensures (arrival_inside c.args.self.now.support _ c.args.u c.args.place k.0 _ k.1)

pub returns-then-ends-node-2-clause-inside : goal.returns-then-ends-node-2-clause-inside
returns-then-ends-node-2-clause-inside g c =
    let k = (ends_in c.args.self.now.net.now c.args.place c.requires).0 in
    rw c.arrival-then-ends-node-2.ensures (arrival_inside c.args.self.now.support _ c.args.u c.args.place k.0 _ k.1)
