use Rattle.std.proofs.Common.{◌≡◌, Err, sym, ◌∙◌, ap}
use Rattle.cb_dd.specs.declared.Stop.TheVariants.{Nodes}
use Rattle.cb_verify.proofs.Answering.{verify-no-module, verify-no-spec, verify-shape, verify-verdict, verify-stop}
use Rattle.cb_verify.proofs.modules.verify.Goals as goal

pub returns-in_default : goal.returns-in_default
returns-in_default c = verify-no-module c.args.circuits.now c.args.name.now c.args.budget (sym c.find.ensures.number ∙ c.in_default.is)

pub returns-in_default-spec : goal.returns-in_default-spec
returns-in_default-spec c =
    verify-no-spec c.args.circuits.now c.args.name.now c.args.budget c.find.ensures.flats c.in-Some.m (sym c.find.ensures.number ∙ c.in-Some.is) (sym c.spec.ensures ∙ c.in_default-spec.is)

pub returns-then-not-fits_spec : goal.returns-then-not-fits_spec
returns-then-not-fits_spec c =
    verify-shape c.args.circuits.now c.args.name.now c.args.budget c.find.ensures.flats c.in-Some.m (sym c.find.ensures.number ∙ c.in-Some.is) c.in-Some-spec.p (sym c.spec.ensures ∙ c.in-Some-spec.is)
    (sym c.fits_spec.ensures ∙ c.if-not-fits_spec.true)

pub returns-in-Ok : goal.returns-in-Ok
returns-in-Ok c =
    verify-verdict c.args.circuits.now c.args.name.now c.args.budget c.find.ensures.flats c.in-Some.m (sym c.find.ensures.number ∙ c.in-Some.is) c.in-Some-spec.p (sym c.spec.ensures ∙ c.in-Some-spec.is)
    (sym c.fits_spec.ensures ∙ c.if-not-fits_spec.false) c.spec_exprs.result.now c.spec_exprs.ensures.exprs c.in-Ok.verdict c.with_exprs.ensures.determined c.in-Ok.ensures.verdict

pub returns-in-Err : goal.returns-in-Err
returns-in-Err c =
    verify-stop c.args.circuits.now c.args.name.now c.args.budget c.find.ensures.flats c.in-Some.m (sym c.find.ensures.number ∙ c.in-Some.is) c.in-Some-spec.p (sym c.spec.ensures ∙ c.in-Some-spec.is)
    (sym c.fits_spec.ensures ∙ c.if-not-fits_spec.false) c.spec_exprs.result.now c.spec_exprs.ensures.exprs c.in-Err.stop c.with_exprs.ensures.determined
    (λ (e : c.in-Err.stop ≡ Nodes). c.in-Err.ensures.nodes (ap (λ s. Err s) e)) (λ (e : c.in-Err.stop ≡ Nodes). c.in-Err.ensures.unbounded (ap (λ s. Err s) e))
