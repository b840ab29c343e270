use Rattle.std.proofs.Common.{map, drop}
use Rattle.cb_model.specs.Forms.{form_of, forms_of}
use Rattle.cb_model.specs.Loading.{signs_in}
use Rattle.cb_signs.proofs.Adding.{AddsSoFar}
use Rattle.cb_signs.proofs.terms.+terms.Given as goal

abbrev pub invariant-add_terms-loop-term : goal.invariant-add_terms-loop-term
invariant-add_terms-loop-term l = AddsSoFar l.base l.initial.more l.more (signs_in (forms_of (map form_of l.terms))) (signs_in (forms_of (map form_of (drop l.term-index l.terms))))
