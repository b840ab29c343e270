use Rattle.std.proofs.Common.{◌<◌, ◌≤◌, ◌+◌, length, subst, ◌∙◌, ap, map, arith, rules}
use Rattle.std.proofs.lemmas.Result.{err_from_is_err_and}
use Rattle.cb_model.specs.Forms.{form_of, forms_of}
use Rattle.cb_model.specs.Grammar.{Last, Open}
use Rattle.cb_lex.specs.View.{token_of}
use Rattle.cb_syntax.specs.Steps.{rest, op_of, AheadOf, NoKind}
use Rattle.cb_model.specs.declared.RawTerm.TheVariants as raw
use Rattle.std.proofs.lemmas.Int.{to_z-of_z}
use Rattle.std.specs.Int.{w64}
use Rattle.std.specs.Prelude.{FitsSigned}
use Rattle.cb_laws.proofs.FormValues.{form_variable, form_integer, form_closed}
use Rattle.cb_syntax.proofs.Folds.{match_map, not_of, name_with, name_none, list_none, list_of, pushed}
use Rattle.cb_syntax.proofs.Moves.{call_end, call_form, args_open, args_took, chain_stop, chain_stops, chain_took, operand_form, operand_variable, operand_integer, not_took, group_open, group_took, list_took, list_stops, list_form_is, list_end_form, call_took, call_stops, operands_more, operands_end, terms_more, terms_took, nil_took, memory, elements_stop, elements_took, list_end_stops, closed_took, tail_open, tail_took}
use Rattle.cb_syntax.proofs.read.+reader.Goals as goal

pub call-returns-then-not-stands-clause-answer : goal.call-returns-then-not-stands-clause-answer
call-returns-then-not-stands-clause-answer t c =
    call_form _ _ _ _ _ _ (name_none c.name.result c.new.result _ c.name.ensures c.new.ensures) (call_end c.args.depth (token_of c.args.atom) (rest c.args.tokens.now c.args.at) c.requires.atom c.if-not-stands.ensures)

pub call-returns-in-Err-clause-answer : goal.call-returns-in-Err-clause-answer
call-returns-in-Err-clause-answer t c =
    args_open c.args.depth (token_of c.args.atom) (rest c.args.tokens.now c.args.at) c.requires.atom _ _ _ c.if-not-stands.ensures (rest c.args.tokens.now c.in_ok-arguments.after) (forms_of (map form_of c.in_ok-arguments.arguments))
    c.in_ok-arguments.ensures.answer (omega arith) c.in-Err.stop c.in-Err.ensures

pub call-returns-in-Ok-clause-answer : goal.call-returns-in-Ok-clause-answer
call-returns-in-Ok-clause-answer t c =
    call_form _ _ _ _ _ _ (name_with c.name-in-Ok.result c.in_ok-arguments.arguments _ c.name-in-Ok.ensures)
    (args_took c.args.depth (token_of c.args.atom) (rest c.args.tokens.now c.args.at) c.requires.atom _ _ _ c.if-not-stands.ensures (rest c.args.tokens.now c.in_ok-arguments.after) (forms_of (map form_of c.in_ok-arguments.arguments))
    c.in_ok-arguments.ensures.answer (omega arith) c.in_ok-arguments.after (rest c.args.tokens.now c.in-Ok.behind) c.in-Ok.ensures.1)

pub chain-returns-in_err-first-clause-answer : goal.chain-returns-in_err-first-clause-answer
chain-returns-in_err-first-clause-answer t c =
    let p = err_from_is_err_and c.from_residual.result c.from_residual.ensures.1 in rw (p.1, p.2) (chain_stop (op_of c.args.op) c.args.depth (rest c.args.tokens.now c.args.at) c.in_err-first.field-0.0 c.in_err-first.ensures.answer)

pub chain-returns-clause-answer : goal.chain-returns-clause-answer
chain-returns-clause-answer t c =
    match_map c.longer.result _ _ _ _ c.longer.ensures.answer
    (λ r s. chain_took (op_of c.args.op) _ _ _ _ _ _ _ (c.in_ok-first.ensures.answer) s.took s.is)
    (λ e s. chain_stops (op_of c.args.op) c.args.depth (rest c.args.tokens.now c.args.at) (rest c.args.tokens.now c.in_ok-first.after) (form_of c.in_ok-first.first) e c.in_ok-first.ensures.answer s)

pub longer-returns-clause-answer : goal.longer-returns-clause-answer
longer-returns-clause-answer t c = record { others = forms_of (map form_of c.in-Ok.found.0); took = c.in-Ok.ensures.answer; is = c.in_ok-term.ensures }

pub longer-returns-in_err-term-clause-answer : goal.longer-returns-in_err-term-clause-answer
longer-returns-in_err-term-clause-answer t c =
    let p = err_from_is_err_and c.from_residual.result c.from_residual.ensures.1 in
    rw (p.1, p.2) (λ is ns d. memory c.in_err-term.field-0.0 _ c.in_err-term.ensures)

pub list-returns-then-stands-clause-answer : goal.list-returns-then-stands-clause-answer
list-returns-then-stands-clause-answer t c = list_form_is _ _ _ _ _ (list_none c.new.result c.new.ensures) (nil_took _ _ _ _ _ c.if-stands.ensures c.requires)

pub list-returns-in_err-elements-clause-answer : goal.list-returns-in_err-elements-clause-answer
list-returns-in_err-elements-clause-answer t c =
    let p = err_from_is_err_and c.from_residual.result c.from_residual.ensures.1 in rw (p.1, p.2) (elements_stop c.args.depth (rest c.args.tokens.now c.args.at) c.if-stands.ensures c.in_err-elements.field-0.0 c.in_err-elements.ensures.answer)

pub list-returns-clause-answer : goal.list-returns-clause-answer
list-returns-clause-answer t c =
    match_map c.list_end.result _ _ _ _ c.list_end.ensures.answer
    (λ r s. elements_took _ _ _ _ _ _ c.if-stands.ensures c.in_ok-elements.ensures.answer s)
    (λ e s. list_end_stops _ _ _ _ c.if-stands.ensures c.in_ok-elements.ensures.answer e s)

pub list_end-returns-in-Ok-clause-answer : goal.list_end-returns-in-Ok-clause-answer
list_end-returns-in-Ok-clause-answer t c =
    list_end_form _ _ _ _ _ _ (list_of c.args.elements c.in-Ok.tail) (c.in-Ok.ensures.answer (forms_of (map form_of c.args.elements)))

pub tail-returns-in-RightBracket-clause-answer : goal.tail-returns-in-RightBracket-clause-answer
tail-returns-in-RightBracket-clause-answer t c =
    λ xs. closed_took _ _ _ _ _ _ (record { token = token_of c.in-Some.next; is = c.in-RightBracket.is; ahead = c.in-Some.ensures }) c.requires

pub tail-returns-in-Err-clause-answer : goal.tail-returns-in-Err-clause-answer
tail-returns-in-Err-clause-answer t c =
    tail_open c.args.depth _ _ Last (rest c.args.tokens.now c.args.at) _ (record { token = token_of c.in-Some.next; is = c.in-Bar.is; ahead = c.in-Some.ensures }) c.requires
    (rest c.args.tokens.now c.in_ok-tail-in-Bar.after) (form_of c.in_ok-tail-in-Bar.tail) c.in_ok-tail-in-Bar.ensures.answer c.in-Err.stop c.in-Err.ensures

pub tail-returns-in_ok-boxed-in-Ok-clause-answer : goal.tail-returns-in_ok-boxed-in-Ok-clause-answer
tail-returns-in_ok-boxed-in-Ok-clause-answer t c =
    λ xs. list_end_form _ _ _ _ _ _ (ap (λ v. Open xs (form_of v)) c.in_ok-boxed-in-Ok.ensures)
    (tail_took c.args.depth _ _ xs (rest c.args.tokens.now c.args.at) _ (record { token = token_of c.in-Some.next; is = c.in-Bar.is; ahead = c.in-Some.ensures }) c.requires
    (rest c.args.tokens.now c.in_ok-tail-in-Bar.after) (form_of c.in_ok-tail-in-Bar.tail) c.in_ok-tail-in-Bar.ensures.answer c.in_ok-tail-in-Bar.after (rest c.args.tokens.now c.in-Ok.behind) c.in-Ok.ensures.1)

pub operand-returns-in-Variable-clause-answer : goal.operand-returns-in-Variable-clause-answer
operand-returns-in-Variable-clause-answer t c = operand_form _ _ _ _ _ (form_variable c.in-Some.first.text) (operand_variable _ _ _ _ _ (token_of c.in-Some.first) (c.in-Some.ensures) c.in-Variable.is c.requires)

pub operand-returns-in-Integer-clause-answer : goal.operand-returns-in-Integer-clause-answer
operand-returns-in-Integer-clause-answer t c =
    let fits : FitsSigned w64 c.in-Integer.value = search rules in
    operand_form _ _ _ _ _ (ap (λ z. form_of (raw.Integer z)) (to_z-of_z w64 c.in-Integer.value fits) ∙ form_integer c.in-Integer.value) (operand_integer _ _ _ _ _ (token_of c.in-Some.first) (c.in-Some.ensures) c.in-Integer.value c.in-Integer.is c.requires)

pub operand-returns-in_ok-boxed-in-Tilde-clause-answer : goal.operand-returns-in_ok-boxed-in-Tilde-clause-answer
operand-returns-in_ok-boxed-in-Tilde-clause-answer t c =
    operand_form _ _ _ _ _ (not_of _ c.in_ok-negated-in-Tilde.negated c.in_ok-boxed-in-Tilde.ensures)
    (not_took _ _ _ _ _ (token_of c.in-Some.first) (c.in-Some.ensures) c.in-Tilde.is (omega arith) _ _ (c.in_ok-negated-in-Tilde.ensures.answer))

pub operand-returns-in-Err-clause-answer : goal.operand-returns-in-Err-clause-answer
operand-returns-in-Err-clause-answer t c =
    group_open c.args.depth _ _ (rest c.args.tokens.now c.args.at) _ (token_of c.in-Some.first) (c.in-Some.ensures) c.in-LeftParen.is (omega arith) (rest c.args.tokens.now c.in_ok-group-in-LeftParen.after) (form_of c.in_ok-group-in-LeftParen.group)
    c.in_ok-group-in-LeftParen.ensures.answer c.in-Err.stop c.in-Err.ensures

pub operand-returns-in-Ok-clause-answer : goal.operand-returns-in-Ok-clause-answer
operand-returns-in-Ok-clause-answer t c =
    group_took _ _ _ _ _ (token_of c.in-Some.first) (c.in-Some.ensures) c.in-LeftParen.is (omega arith) (rest c.args.tokens.now c.in_ok-group-in-LeftParen.after) _ (c.in_ok-group-in-LeftParen.ensures.answer) _ _ c.in-Ok.ensures.1

pub operand-returns-else-depth-eq-LIMIT-3-clause-answer : goal.operand-returns-else-depth-eq-LIMIT-3-clause-answer
operand-returns-else-depth-eq-LIMIT-3-clause-answer t c =
    let d : c.args.depth < 256 = omega arith in
    match_map c.list.result _ _ _ _ c.list.ensures.answer
    (λ r s. list_took _ _ _ _ _ (token_of c.in-Some.first) (c.in-Some.ensures) c.in-LeftBracket.is d _ _ s)
    (λ e s. list_stops _ _ _ _ _ (token_of c.in-Some.first) (c.in-Some.ensures) c.in-LeftBracket.is d e s)

pub operand-returns-in-Atom-clause-answer : goal.operand-returns-in-Atom-clause-answer
operand-returns-in-Atom-clause-answer t c =
    let d : c.args.depth ≤ 256 = omega arith in
    match_map c.call.result _ _ _ _ c.call.ensures.answer
    (λ r s. call_took _ _ _ _ _ (token_of c.in-Some.first) (c.in-Some.ensures) c.in-Atom.is d _ _ s)
    (λ e s. call_stops _ _ _ _ _ (token_of c.in-Some.first) (c.in-Some.ensures) c.in-Atom.is d e s)

pub more_operands-loop-alloc-preserved : goal.more_operands-loop-alloc-preserved
more_operands-loop-alloc-preserved t c = record {
  forward = let f = c.in_ok-term.ensures.forward in let g = c.loop-alloc.invariant.forward in omega arith;
  so_far = operands_more (op_of c.args.op) _ _ _ _ c.loop-alloc.invariant.so_far _ _ _
      (subst (λ k. AheadOf k (length c.args.tokens.now) c.loop-alloc.left (rest c.args.tokens.now c.loop-alloc.left) (rest c.args.tokens.now (c.loop-alloc.left + 1))) c.kind.ensures c.loop-alloc-test.ensures) (omega arith) _ _ (c.in_ok-term.ensures.answer) _ (pushed _ _ _ c.in_ok-push.ensures);
}

pub more_operands-returns-clause-answer : goal.more_operands-returns-clause-answer
more_operands-returns-clause-answer t c =
    operands_end (op_of c.args.op) _ _ _ _ c.loop-alloc.invariant.so_far (subst (λ k. NoKind k (rest c.args.tokens.now c.loop-alloc.left)) c.kind.ensures c.loop-alloc-test.ensures)

pub more_terms-returns-then-not-stands-clause-answer : goal.more_terms-returns-then-not-stands-clause-answer
more_terms-returns-then-not-stands-clause-answer t c = terms_took _ _ _ _ c.loop-term.invariant.so_far _ _ c.in_ok-term.ensures.answer _ (pushed _ _ _ c.in_ok-push.ensures) c.if-not-stands.ensures

pub more_terms-loop-term-preserved : goal.more_terms-loop-term-preserved
more_terms-loop-term-preserved t c = record {
  forward = let f = c.in_ok-term.ensures.forward in let g = c.loop-term.invariant.forward in omega arith;
  so_far = terms_more _ _ _ _ c.loop-term.invariant.so_far _ _ c.in_ok-term.ensures.answer _ (pushed _ _ _ c.in_ok-push.ensures) _ _ _ c.if-not-stands.ensures (omega arith);
}
