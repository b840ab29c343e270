use Rattle.cb_branch.proofs.Cells.{all-makes, frame-there}
use Rattle.cb_branch.proofs.terms.built.Goals as goal

pub build-cell-requires-clause-frame : goal.build-cell-requires-clause-frame
build-cell-requires-clause-frame c = let h = c.requires.buildable in frame-there h.0 c.args.state.now h.1 c.args.frame.now h.3.table h.3.frame_is

pub returns-clause-makes : goal.returns-clause-makes
returns-clause-makes c =
    all-makes c.args.state.now c.build-cell.new.self c.args.frame.now c.args.tree.now c.build-cell.result _ c.requires.state c.build-cell.ensures.moments c.build-cell.ensures.written c.build-cell.ensures.extended c.build-cell.ensures.count
