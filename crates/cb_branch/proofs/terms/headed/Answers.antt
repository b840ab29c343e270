use Rattle.cb_model.specs.declared.Sort.TheVariants as sort
use Rattle.cb_items.specs.Items.{wants_nodes}
use Rattle.cb_items.proofs.Additions.{keeps-budget}
use Rattle.cb_branch.proofs.Cells.{refuses-then, sort-there, there-later}
use Rattle.cb_branch.proofs.terms.headed.Goals as goal

pub equal-requires-clause-there : goal.equal-requires-clause-there
equal-requires-clause-there c =
    let h = c.requires.buildable in
    let m = c.in_ok-cell.ensures.makes h.0 h.1 h.2 in
    (sort-there c.compound.new.state c.in_ok-cell.cell.0 sort.Term m.sort, there-later c.args.state.now c.compound.new.state c.args.call.0 m.extended.grown c.requires.call)

pub returns-clause-yes : goal.returns-clause-yes
returns-clause-yes c = λ e t zs b. record { mid = c.compound.new.state; is = c.in_ok-cell.ensures.state; cell = c.in_ok-cell.cell.0; makes = c.in_ok-cell.ensures.makes t zs b; pair = c.equal.ensures.adds e }

pub returns-clause-no : goal.returns-clause-no
returns-clause-no c = λ e t zs b. record { mid = c.compound.new.state; is = c.in_ok-cell.ensures.state; cell = c.in_ok-cell.cell.0; makes = c.in_ok-cell.ensures.makes t zs b; none = c.equal.ensures.none e }

pub returns-clause-refusals : goal.returns-clause-refusals
returns-clause-refusals c =
    refuses-then c.args.state.now c.compound.new.state c.equal.new.state (wants_nodes c.equal.result) c.in_ok-cell.ensures.refusals.more
    (keeps-budget c.args.state.now c.compound.new.state c.requires.state c.in_ok-cell.ensures.moments) c.equal.ensures.refusals
