use Rattle.std.proofs.Common.{rules, arith, ◌≡◌, ◌+◌, ◌<◌, ◌≤◌, length, slice_get, Some, None}
use Rattle.std.proofs.lemmas.Option.{slice_get_within}
use Rattle.cb_ops.proofs.Gather.{gathering-node, gathering-bound, gathering-step, gathered, past-none}
use Rattle.cb_ops.proofs.Ops.gather.Goals as goal

pub reach-requires-clause-node : goal.reach-requires-clause-node
reach-requires-clause-node c =
    let at : slice_get c.loop-n.nodes.keys c.loop-n.done ≡ Some c.in-Some.n = search rules in
    gathering-node c.args.self.now.triples c.args.f.0 c.loop-n.nodes.keys c.loop-n.levels.keys c.loop-n.done c.in-Some.n c.loop-n.invariant at

pub overflow_add-done : goal.overflow_add-done
overflow_add-done c =
    let at : slice_get c.loop-n.nodes.keys c.loop-n.done ≡ Some c.in-Some.n = search rules in
    let w : c.loop-n.done < length c.loop-n.nodes.keys = slice_get_within c.loop-n.nodes.keys c.loop-n.done c.in-Some.n at in
    let b : length c.loop-n.nodes.keys ≤ length c.args.self.now.triples + 2 = gathering-bound c.args.self.now.triples c.args.f.0 c.loop-n.nodes.keys c.loop-n.levels.keys c.loop-n.done c.loop-n.invariant in
    omega (arith, w, b, c.count-count.ensures.small, c.count-count.ensures.count)

pub loop-n-smaller : goal.loop-n-smaller
loop-n-smaller c =
    let at : slice_get c.loop-n.nodes.keys c.loop-n.done ≡ Some c.in-Some.n = search rules in
    let w : c.loop-n.done < length c.loop-n.nodes.keys = slice_get_within c.loop-n.nodes.keys c.loop-n.done c.in-Some.n at in
    let b : length c.loop-n.nodes.keys ≤ length c.args.self.now.triples + 2 = gathering-bound c.args.self.now.triples c.args.f.0 c.loop-n.nodes.keys c.loop-n.levels.keys c.loop-n.done c.loop-n.invariant in
    omega (arith, w, b)

pub loop-n-preserved : goal.loop-n-preserved
loop-n-preserved c =
    let at : slice_get c.loop-n.nodes.keys c.loop-n.done ≡ Some c.in-Some.n = search rules in
    gathering-step c.args.self.now.triples c.count-count.ensures.diagram c.args.f.0 c.loop-n.nodes.keys c.reach.new.nodes.keys c.loop-n.levels.keys c.reach.new.levels.keys c.loop-n.done c.in-Some.n c.loop-n.invariant at c.in_ok-reach.ensures.added

pub returns-clause-found : goal.returns-clause-found
returns-clause-found c =
    let none : slice_get c.loop-n.nodes.keys c.loop-n.done ≡ None = search rules in
    gathered c.args.self.now.triples c.count-count.ensures.diagram c.args.f.0 c.loop-n.nodes.keys c.loop-n.levels.keys c.loop-n.done c.loop-n.invariant (past-none c.loop-n.nodes.keys c.loop-n.done none)
