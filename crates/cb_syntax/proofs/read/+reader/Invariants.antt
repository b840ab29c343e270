use Rattle.std.proofs.Common.{◌≤◌, length, ◌+◌, ◌-◌, ◌*◌, map}
use Rattle.cb_model.specs.Forms.{form_of}
use Rattle.cb_syntax.specs.Steps.{rest, op_of, levels}
use Rattle.cb_syntax.proofs.Moves.{TermsSoFar, OperandsSoFar}
use Rattle.cb_syntax.proofs.read.+reader.Given as goal

abbrev pub decreases-operand : goal.decreases-operand
decreases-operand l = 20 * (length l.tokens.now - l.at)

abbrev pub decreases-call : goal.decreases-call
decreases-call l = 20 * (length l.tokens.now - l.at) + 11

abbrev pub decreases-terms : goal.decreases-terms
decreases-terms l = 20 * (length l.tokens.now - l.at) + 10

abbrev pub decreases-more_terms : goal.decreases-more_terms
decreases-more_terms l = 20 * (length l.tokens.now - l.at) + 9

abbrev pub decreases-list : goal.decreases-list
decreases-list l = 20 * (length l.tokens.now - l.at) + 11

abbrev pub decreases-list_end : goal.decreases-list_end
decreases-list_end l = 20 * (length l.tokens.now - l.at) + 1

abbrev pub decreases-tail : goal.decreases-tail
decreases-tail l = 20 * (length l.tokens.now - l.at)

abbrev pub decreases-chain : goal.decreases-chain
decreases-chain l = 20 * (length l.tokens.now - l.at) + 3 + levels l.op

abbrev pub decreases-tighter : goal.decreases-tighter
decreases-tighter l = 20 * (length l.tokens.now - l.at) + 2 + levels l.op

abbrev pub decreases-longer : goal.decreases-longer
decreases-longer l = 20 * (length l.tokens.now - l.at) + 2

abbrev pub decreases-operands : goal.decreases-operands
decreases-operands l = 20 * (length l.tokens.now - l.at) + 1

abbrev pub decreases-more_operands : goal.decreases-more_operands
decreases-more_operands l = 20 * (length l.tokens.now - l.at)

abbrev pub invariant-more_operands-loop-alloc : goal.invariant-more_operands-loop-alloc
invariant-more_operands-loop-alloc l = record {
  forward : l.fn.at ≤ l.left;
  so_far : OperandsSoFar (op_of l.op) l.depth (rest l.tokens l.fn.at) (rest l.tokens l.left) (map form_of l.found);
}

abbrev pub decreases-more_operands-loop-alloc : goal.decreases-more_operands-loop-alloc
decreases-more_operands-loop-alloc l = length l.tokens - l.left

abbrev pub invariant-more_terms-loop-term : goal.invariant-more_terms-loop-term
invariant-more_terms-loop-term l = record {
  forward : l.fn.at ≤ l.left;
  so_far : TermsSoFar l.depth (rest l.tokens l.fn.at) (rest l.tokens l.left) (map form_of l.found);
}

abbrev pub decreases-more_terms-loop-term : goal.decreases-more_terms-loop-term
decreases-more_terms-loop-term l = length l.tokens - l.left
