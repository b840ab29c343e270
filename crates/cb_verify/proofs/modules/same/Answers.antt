use Rattle.std.proofs.Common.{◌≡◌, Err, sym, ◌∙◌, ap}
use Rattle.cb_dd.specs.declared.Stop.TheVariants.{Nodes}
use Rattle.cb_verify.proofs.Answering.{same-no-first, same-no-second, same-shape, same-verdict, same-stop}
use Rattle.cb_verify.proofs.modules.same.Goals as goal

pub returns-in_default : goal.returns-in_default
returns-in_default c = same-no-first c.args.circuits.now c.args.one.now c.args.two.now c.args.budget (sym c.find.ensures.number ∙ c.in_default.is)

pub returns-in_default-find : goal.returns-in_default-find
returns-in_default-find c =
    same-no-second c.args.circuits.now c.args.one.now c.args.two.now c.args.budget c.find.ensures.flats c.in-Some.m (sym c.find.ensures.number ∙ c.in-Some.is) (sym c.find-2.ensures.number ∙ c.in_default-find.is)

pub returns-then-not-fits_module : goal.returns-then-not-fits_module
returns-then-not-fits_module c =
    same-shape c.args.circuits.now c.args.one.now c.args.two.now c.args.budget c.find.ensures.flats c.in-Some.m (sym c.find.ensures.number ∙ c.in-Some.is) c.in-Some-find.n (sym c.find-2.ensures.number ∙ c.in-Some-find.is)
    (sym c.fits_module.ensures ∙ c.if-not-fits_module.true)

pub returns-in-Ok : goal.returns-in-Ok
returns-in-Ok c =
    same-verdict c.args.circuits.now c.args.one.now c.args.two.now c.args.budget c.find.ensures.flats c.in-Some.m (sym c.find.ensures.number ∙ c.in-Some.is) c.in-Some-find.n (sym c.find-2.ensures.number ∙ c.in-Some-find.is)
    (sym c.fits_module.ensures ∙ c.if-not-fits_module.false) c.in-Ok.verdict c.with_module.ensures.determined c.in-Ok.ensures.verdict

pub returns-in-Err : goal.returns-in-Err
returns-in-Err c =
    same-stop c.args.circuits.now c.args.one.now c.args.two.now c.args.budget c.find.ensures.flats c.in-Some.m (sym c.find.ensures.number ∙ c.in-Some.is) c.in-Some-find.n (sym c.find-2.ensures.number ∙ c.in-Some-find.is)
    (sym c.fits_module.ensures ∙ c.if-not-fits_module.false) c.in-Err.stop c.with_module.ensures.determined
    (λ (e : c.in-Err.stop ≡ Nodes). c.in-Err.ensures.nodes (ap (λ s. Err s) e)) (λ (e : c.in-Err.stop ≡ Nodes). c.in-Err.ensures.unbounded (ap (λ s. Err s) e))
