use Rattle.cb_circ.proofs.Wired.{all-carry}
use Rattle.cb_circ.proofs.circuits.Circuits.carrying.Goals as goal

pub returns : goal.returns
returns c = all-carry c.self.inside.modules.items c.self.inside.netlists.items c.self.inside.specs.items c.args.self.now c.self.view_is c.self.invariant.wired
