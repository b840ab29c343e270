use Rattle.std.proofs.Common.{◌≡◌, [], slice_index_or}
use Rattle.std.proofs.Common.{subst, arith}
use Rattle.cb_model.specs.Line.{Names}
use Rattle.cb_tell.proofs.Looked.{own-name, no-name}
use Rattle.cb_tell.proofs.names.AskedNamesNames.name.Goals as goal

-- src/names.rt:34:5
pub returns-in-Some : goal.returns-in-Some
returns-in-Some c =
    subst (λ (w : Names). c.in-Some.name.now ≡ slice_index_or w.names c.args.n []) c.self.view_is
    (own-name c.self.inside.program.now.names c.self.inside.query.now.names c.args.n c.self.inside.query.now.before c.name-2.result c.in-Some.name c.in-Some.is c.self.invariant
    (omega (arith, c.if-n-names.false, c.names.ensures))
    c.name-2.ensures.own)

-- src/names.rt:34:5
pub returns-in-None : goal.returns-in-None
returns-in-None c =
    subst (λ (w : Names). [] ≡ slice_index_or w.names c.args.n []) c.self.view_is
    (no-name c.self.inside.program.now.names c.self.inside.query.now.names c.args.n c.self.inside.query.now.before c.name-2.result c.in-None.is c.self.invariant
    (omega (arith, c.if-n-names.false, c.names.ensures))
    c.name-2.ensures.own)
