use Rattle.std.proofs.Common.{rules, ◌≡◌, Some}
use Rattle.cb_dd.specs.Diagram.{parts_of}
use Rattle.cb_dd.proofs.Parts.{has-parts, constant-level}
use Rattle.cb_dd.proofs.Dd.parts.Goals as goal

pub returns-then-n-lt2-clause-constant : goal.returns-then-n-lt2-clause-constant
returns-then-n-lt2-clause-constant c = constant-level c.args.self.now.triples c.args.n.0 c.if-n-lt2.true

pub returns-clause-inner : goal.returns-clause-inner
returns-clause-inner c =
    let e : parts_of c.args.self.now.triples c.args.n.0 ≡ Some (c.in_ok-triple.triple.now.level, record { 0 = c.in_ok-triple.triple.now.lo }, record { 0 = c.in_ok-triple.triple.now.hi }) = search rules in
    has-parts c.args.self.now.triples c.count-count.ensures.diagram c.args.n.0 _ _ _ c.requires e
