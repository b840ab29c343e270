use Rattle.std.proofs.Common.{map, drop}
use Rattle.cb_model.specs.Forms.{form_of, forms_of}
use Rattle.cb_signs.specs.Wanted.{argument_signs}
use Rattle.cb_signs.proofs.Adding.{AddsSoFar}
use Rattle.cb_signs.proofs.clauses.add_arguments.Given as goal

abbrev pub invariant-loop-term : goal.invariant-loop-term
invariant-loop-term l = AddsSoFar l.base l.initial.more l.more (argument_signs (forms_of (map form_of l.terms))) (argument_signs (forms_of (map form_of (drop l.term-index l.terms))))
