use Rattle.std.proofs.Common.{refl}
use Rattle.cb_trees.proofs.Walk.{written_here}
use Rattle.cb_facts.proofs.Exprs.{spec-init}
use Rattle.cb_facts.proofs.expressions.+exprs.Goals as goal

pub exprs-loop-term-init : goal.exprs-loop-term-init
exprs-loop-term-init t c = record { written = c.requires; own = refl; so = spec-init c.args.inputs.now c.args.terms.now c.args.own.now c.new-all.result c.new-all.ensures }
