use Rattle.cb_model.specs.declared.Tree.TheVariants as tree
use Rattle.cb_branch.proofs.Cells.{frame-there, term-makes}
use Rattle.cb_branch.proofs.terms.compound.Goals as goal

pub compound-cell-requires-clause-frame : goal.compound-cell-requires-clause-frame
compound-cell-requires-clause-frame c = let h = c.requires.buildable in frame-there h.0 c.args.state.now h.1 c.args.frame.now h.2.table h.2.frame_is

pub returns-clause-makes : goal.returns-clause-makes
returns-clause-makes c =
    term-makes c.args.state.now c.compound-cell.new.self c.args.frame.now (tree.Node c.args.name c.args.args.now) c.compound-cell.result _ c.requires.state c.compound-cell.ensures.moments c.compound-cell.ensures.written
    c.compound-cell.ensures.extended c.compound-cell.ensures.count
