use Rattle.std.proofs.Common.{rules, ◌<◌, subst}
use Rattle.std.proofs.lemmas.Grind.{common_steps}
use Rattle.cb_dd.specs.Diagram.{Store, HasParts, level_of}
use Rattle.cb_ops.proofs.Least.{zero-side, skip-side}
use Rattle.cb_ops.proofs.Ops.least_side.Goals as goal

pub returns-then-lo-eq0 : goal.returns-then-lo-eq0
returns-then-lo-eq0 c =
    let parts = subst (λ (s : Store). HasParts s.triples c.args.n.0 c.in-Some.at c.in-Some.lo.0 c.in-Some.hi.0) c.self.view_is c.in-Some.ensures.inner in
    record { side = zero-side c.args.self.now.triples c.args.n.0 c.args.level c.in-Some.at c.in-Some.lo.0 c.in-Some.hi.0 parts c.if-at-level.true c.if-lo-eq0.true }

pub returns-in_default : goal.returns-in_default
returns-in_default c =
    let b : c.args.level < level_of c.args.self.now.triples c.args.n.0 = search (rules, common_steps) in
    record { side = skip-side c.args.self.now.triples c.count-count.ensures.diagram c.args.n.0 c.args.level c.requires.node c.requires.some b }

pub returns-in_default-2 : goal.returns-in_default-2
returns-in_default-2 c =
    let b : c.args.level < level_of c.args.self.now.triples c.args.n.0 = search (rules, common_steps) in
    record { side = skip-side c.args.self.now.triples c.count-count.ensures.diagram c.args.n.0 c.args.level c.requires.node c.requires.some b }
