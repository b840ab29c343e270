use Rattle.std.proofs.Common.{drop}
use Rattle.cb_directives.specs.Checks.{check_other, arguments_of, Leaves}
use Rattle.cb_directives.proofs.declarations.Declarations.declare.Given as goal

abbrev pub invariant-loop-term : goal.invariant-loop-term
invariant-loop-term l = Leaves check_other (arguments_of l.line l.word l.terms) l.initial.self (arguments_of l.line l.word (drop l.term-index l.terms)) l.self
