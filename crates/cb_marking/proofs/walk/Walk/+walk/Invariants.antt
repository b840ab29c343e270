use Rattle.std.proofs.Common.{◌+◌, ◌*◌, length}
use Rattle.cb_marking.specs.Places.{sorts_given}
use Rattle.cb_marking.proofs.Parts.{operands_from, arguments_from, weight, weights}
use Rattle.cb_marking.proofs.Left.{Left}
use Rattle.cb_marking.proofs.walk.Walk.+walk.Given as goal

abbrev pub invariant-operands-loop-term : goal.invariant-operands-loop-term
invariant-operands-loop-term l = Left l.declared l.initial.self (operands_from l.declared l.terms 0) l.self (operands_from l.declared l.terms l.term-index)

abbrev pub invariant-arguments-loop-i : goal.invariant-arguments-loop-i
invariant-arguments-loop-i l =
    Left l.declared l.initial.self (arguments_from l.declared (sorts_given l.sorts (length l.terms)) l.terms 0) l.self (arguments_from l.declared (sorts_given l.sorts (length l.terms)) l.terms l.i)

abbrev pub decreases-place : goal.decreases-place
decreases-place l = 3 * weight l.term.now + 1

abbrev pub decreases-inside : goal.decreases-inside
decreases-inside l = 3 * weight l.term.now

abbrev pub decreases-operands : goal.decreases-operands
decreases-operands l = 3 * weights l.terms.now + 2

abbrev pub decreases-arguments : goal.decreases-arguments
decreases-arguments l = 3 * weights l.terms.now + 2
