use Rattle.std.proofs.Common.{sym, subst, map}
use Rattle.cb_model.specs.Forms.{form_of, forms_of}
use Rattle.cb_model.specs.Grammar.{Directive}
use Rattle.cb_lex.specs.View.{token_of}
use Rattle.cb_syntax.specs.Steps.{rest}
use Rattle.cb_syntax.specs.Pieces.{TookClause}
use Rattle.cb_syntax.proofs.ClauseMoves.{directive_open, directive_took}
use Rattle.cb_syntax.proofs.pieces.directive.Goals as goal

pub returns-in-Err-clause-answer : goal.returns-in-Err-clause-answer
returns-in-Err-clause-answer c =
    directive_open _ _ (rest c.args.tokens.now c.args.at) _ (token_of c.args.first) c.requires.ahead c.requires.neck _ (token_of c.in-Some.word) _ c.in-Some.ensures c.if-not-is_atom.ensures
    (rest c.args.tokens.now c.in_ok-args.after) (forms_of (map form_of c.in_ok-args.args)) c.in_ok-args.ensures.answer c.in-Err.stop c.in-Err.ensures

pub returns-in-Ok-clause-answer : goal.returns-in-Ok-clause-answer
returns-in-Ok-clause-answer c =
    subst (λ n. TookClause (rest c.args.tokens.now c.args.at) (rest c.args.tokens.now c.in-Ok.behind) (Directive c.args.first.line n (forms_of (map form_of c.in_ok-args.args)))) (sym c.name.ensures)
    (directive_took _ _ (rest c.args.tokens.now c.args.at) _ (token_of c.args.first) c.requires.ahead c.requires.neck _ (token_of c.in-Some.word) _ c.in-Some.ensures c.if-not-is_atom.ensures
    (rest c.args.tokens.now c.in_ok-args.after) (forms_of (map form_of c.in_ok-args.args)) c.in_ok-args.ensures.answer c.in_ok-args.after (rest c.args.tokens.now c.in-Ok.behind) c.in-Ok.ensures.1)
