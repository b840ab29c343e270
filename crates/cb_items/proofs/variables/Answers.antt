use Rattle.cb_items.proofs.Additions.{adds-frames}
use Rattle.cb_items.proofs.variables.Goals as goal

pub returns-clause-adds : goal.returns-clause-adds
returns-clause-adds c =
    adds-frames c.args.state.now c.fresh-frame.new.self c.args.sorts.now c.fresh-frame.result c.requires.state c.fresh-frame.ensures.opens c.fresh-frame.ensures.count c.fresh-frame.ensures.fits
