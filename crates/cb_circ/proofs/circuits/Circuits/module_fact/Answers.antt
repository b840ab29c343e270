use Rattle.std.proofs.Common.{Some, refl, ap, sym, ◌∙◌}
use Rattle.cb_model.specs.Facts.{bad_module, a_module, refused_module}
use Rattle.cb_circ.specs.View.{module_view}
use Rattle.cb_circ.proofs.Names.{view-is, well-from}
use Rattle.cb_circ.proofs.circuits.Circuits.module_fact.Goals as goal

pub returns-in_default : goal.returns-in_default
returns-in_default c = λ n gs. bad_module refl c.requires.sign (rw c.in_default.is at c.in_ok-raw.ensures)

pub check-requires : goal.check-requires
check-requires c = let r = rw c.in-Some.is at c.in_ok-raw.ensures in well-from c.in-Some.raw r.m r.by_number

pub push_module-requires-clause-well : goal.push_module-requires-clause-well
push_module-requires-clause-well c = let r = rw c.in-Some.is at c.in_ok-raw.ensures in well-from c.in-Some.raw r.m r.by_number

pub returns-in_ok-push_module-in-Ok : goal.returns-in_ok-push_module-in-Ok
returns-in_ok-push_module-in-Ok c =
    let r = rw c.in-Some.is at c.in_ok-raw.ensures in
    let g = rw c.in-Ok.is at c.in_ok-netlist.ensures in
    λ n gs. a_module (module_view c.in-Some.raw) refl (r.is ∙ ap Some (sym (view-is c.in-Some.raw r.m r.by_number))) g.accepted c.in_ok-push_module-in-Ok.ensures

pub returns-in-Err : goal.returns-in-Err
returns-in-Err c =
    let r = rw c.in-Some.is at c.in_ok-raw.ensures in
    λ n gs. refused_module (module_view c.in-Some.raw) refl (r.is ∙ ap Some (sym (view-is c.in-Some.raw r.m r.by_number))) (rw c.in-Err.is at c.in_ok-netlist.ensures)

pub push_module-requires-clause-checked : goal.push_module-requires-clause-checked
push_module-requires-clause-checked c = rw c.in-Ok.is at c.in_ok-netlist.ensures
