use Rattle.cb_outputs.proofs.Extends.{beginning_extends as law}
use Rattle.cb_outputs.proofs.beginning_extends.Goals as goal

pub returns : goal.returns
returns c = law
