use Rattle.std.proofs.Common.{ap, sym, subst, ◌∙◌, arith}
use Rattle.cb_model.specs.Facts.{with_spec}
use Rattle.cb_facts.specs.Ports.{spec_view}
use Rattle.cb_circ.specs.declared.circuits.SpecEntry.{SpecEntry}
use Rattle.cb_circ.specs.Kept.{IsKept}
use Rattle.cb_circ.specs.View.{circuits_view}
use Rattle.cb_circ.proofs.Pushing.{view-spec, kept-spec}
use Rattle.cb_circ.proofs.circuits.Circuits.push_spec.Goals as goal

pub invariant_of-self-in-Ok : goal.invariant_of-self-in-Ok
invariant_of-self-in-Ok c =
    let s : SpecEntry = record { raw = c.args.raw; inputs = c.in-Ok-Ok.inputs } in
    record {
      kept = subst (λ ss. IsKept c.self.inside.modules.items c.self.inside.names ss c.add.new.self) (sym c.in_ok-push.ensures.items)
          (kept-spec c.self.inside.modules.items c.self.inside.names c.self.inside.specs.items c.self.inside.spec_names c.args.self.now c.self.view_is c.self.invariant.kept s c.requires.new c.add.new.self c.in-Ok.ensures.added (record { inputs = omega (arith, c.in-Ok-Ok.ensures, c.len.ensures); scope = c.requires.scope })
          (omega (arith, c.in-Ok-Ok.ensures', c.len-2.ensures, c.self.inside.specs.ok)));
      wired = c.self.invariant.wired;
    }

pub returns-in-Ok : goal.returns-in-Ok
returns-in-Ok c =
    let s : SpecEntry = record { raw = c.args.raw; inputs = c.in-Ok-Ok.inputs } in
    ap (circuits_view c.self.inside.modules.items) c.in_ok-push.ensures.items ∙ view-spec c.self.inside.modules.items c.self.inside.specs.items s ∙ ap (λ v. with_spec v (spec_view c.args.raw)) c.self.view_is
