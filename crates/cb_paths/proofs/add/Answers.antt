use Rattle.std.proofs.Common.{◌≤◌, arith}
use Rattle.cb_paths.proofs.Counting.{is-added, before-capped, add-through, add-nodes, add-capped, add-above}
use Rattle.cb_paths.proofs.add.Goals as goal

pub overflow_add-before : goal.overflow_add-before
overflow_add-before c =
    let b : c.unwrap_or-before.result ≤ c.args.limit = before-capped c.args.n c.args.limit c.args.ways.now.entries _ c.copied.result c.unwrap_or-before.result c.get.ensures.value c.copied.ensures c.unwrap_or-before.ensures c.requires.capped in
    omega (arith, c.requires.small, c.requires.times)

pub returns-clause-through : goal.returns-clause-through
returns-clause-through c = add-through c.args.limit c.args.n c.args.times c.args.ways.now.entries c.insert.new.self.entries c.in_ok-insert.ensures.was_ordered c.requires.capped
    (is-added c.args.n c.args.times c.args.limit c.args.ways.now.entries c.insert.new.self.entries _ c.copied.result c.unwrap_or-before.result c.min.result c.get.ensures.value c.copied.ensures c.unwrap_or-before.ensures c.min.ensures c.in_ok-insert.ensures.entries)

pub returns-clause-nodes : goal.returns-clause-nodes
returns-clause-nodes c = add-nodes c.args.limit c.args.n c.args.times c.args.ways.now.entries c.insert.new.self.entries c.in_ok-insert.ensures.was_ordered c.requires.capped
    (is-added c.args.n c.args.times c.args.limit c.args.ways.now.entries c.insert.new.self.entries _ c.copied.result c.unwrap_or-before.result c.min.result c.get.ensures.value c.copied.ensures c.unwrap_or-before.ensures c.min.ensures c.in_ok-insert.ensures.entries)

pub returns-clause-capped : goal.returns-clause-capped
returns-clause-capped c = add-capped c.args.limit c.args.n c.args.times c.args.ways.now.entries c.insert.new.self.entries c.in_ok-insert.ensures.was_ordered c.requires.capped
    (is-added c.args.n c.args.times c.args.limit c.args.ways.now.entries c.insert.new.self.entries _ c.copied.result c.unwrap_or-before.result c.min.result c.get.ensures.value c.copied.ensures c.unwrap_or-before.ensures c.min.ensures c.in_ok-insert.ensures.entries)

pub returns-clause-above : goal.returns-clause-above
returns-clause-above c = add-above c.args.limit c.args.n c.args.times c.args.ways.now.entries c.insert.new.self.entries c.in_ok-insert.ensures.was_ordered c.requires.capped
    (is-added c.args.n c.args.times c.args.limit c.args.ways.now.entries c.insert.new.self.entries _ c.copied.result c.unwrap_or-before.result c.min.result c.get.ensures.value c.copied.ensures c.unwrap_or-before.ensures c.min.ensures c.in_ok-insert.ensures.entries)
