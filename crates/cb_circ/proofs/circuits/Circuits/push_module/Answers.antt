use Rattle.std.proofs.Common.{ap, sym, subst, ◌∙◌, arith}
use Rattle.cb_model.specs.Facts.{with_module}
use Rattle.cb_circ.specs.declared.circuits.Entry.{Entry}
use Rattle.cb_circ.specs.Kept.{IsKept, AreWired}
use Rattle.cb_circ.specs.View.{module_view, circuits_view}
use Rattle.cb_circ.proofs.Pushing.{view-push, kept-module}
use Rattle.cb_circ.proofs.Wired.{wired-module}
use Rattle.cb_circ.proofs.circuits.Circuits.push_module.Goals as goal

pub invariant_of-self-in-Ok : goal.invariant_of-self-in-Ok
invariant_of-self-in-Ok c =
    let e : Entry = record { raw = c.args.raw; outputs = c.in-Ok-Ok.outputs; gates = c.gates.result } in
    let k = kept-module c.self.inside.modules.items c.self.inside.names c.self.inside.specs.items c.self.inside.spec_names c.args.self.now c.self.view_is c.self.invariant.kept e c.requires.well c.requires.checked.accepted c.push_entry.new.names c.in-Ok.ensures.named
    (omega (arith, c.in-Ok-Ok.ensures, c.len.ensures, c.args.raw.outputs.ok)) (c.gates.ensures ∙ c.requires.checked.netlist.count) (omega (arith, c.gates.ensures, c.requires.checked.count)) (omega (arith, c.in-Ok-Ok.ensures', c.len-2.ensures, c.self.inside.modules.ok)) in
    let w = wired-module c.self.inside.modules.items c.self.inside.netlists.items c.self.inside.specs.items c.args.self.now c.self.view_is c.self.invariant.wired e c.args.netlist c.requires.checked in
    record {
      kept = subst (λ es. IsKept es c.push_entry.new.names c.self.inside.specs.items c.self.inside.spec_names) (sym c.in-Ok.ensures.added) k;
      wired = subst (λ es. AreWired es c.push.new.self.items) (sym c.in-Ok.ensures.added) (subst (AreWired _) (sym c.in_ok-push.ensures.items) w);
    }

pub returns-in-Ok : goal.returns-in-Ok
returns-in-Ok c =
    let e : Entry = record { raw = c.args.raw; outputs = c.in-Ok-Ok.outputs; gates = c.gates.result } in
    ap (λ es. circuits_view es c.self.inside.specs.items) c.in-Ok.ensures.added ∙ view-push c.self.inside.modules.items e c.self.inside.specs.items ∙ ap (λ v. with_module v (module_view c.args.raw)) c.self.view_is
