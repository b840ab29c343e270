use Rattle.std.proofs.Common.{refl, sym, ◌∙◌}
use Rattle.cb_model.specs.Facts.{bad_spec, a_spec, second_spec}
use Rattle.cb_facts.specs.Ports.{spec_view}
use Rattle.cb_circ.proofs.circuits.Circuits.spec_fact.Goals as goal

pub returns-in_default : goal.returns-in_default
returns-in_default c = λ n gs. bad_spec refl c.requires.sign (rw c.in_default.is at c.in_ok-raw.ensures)

pub returns-then-has_spec : goal.returns-then-has_spec
returns-then-has_spec c =
    let r = rw c.in-Some.is at c.in_ok-raw.ensures in
    λ n gs. second_spec (spec_view c.in-Some.raw) refl r.is (sym c.has_spec.ensures ∙ c.if-has_spec.true)

pub returns : goal.returns
returns c =
    let r = rw c.in-Some.is at c.in_ok-raw.ensures in
    λ n gs. a_spec (spec_view c.in-Some.raw) refl r.is (sym c.has_spec.ensures ∙ c.if-has_spec.false) c.in_ok-push_spec.ensures
