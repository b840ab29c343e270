-- The tokens so far, one more, and the end.
use Rattle.std.specs.Prelude.{All, Result, Ok, Err, IfOk, IfErr}
use Rattle.std.proofs.lemmas.List.{append_assoc, append-nil, map-append}
use Rattle.std.proofs.lemmas.List.Elements.{All-push}
use Rattle.std.proofs.lemmas.Result.{IfOk-at_ok, IfErr-at_err}
use Rattle.std.proofs.Common.{◌≡◌, ◌-◌, ◌≤◌, List, [], ◌∷◌, ◌++◌, length, take, drop, Option, Some, None, sym, ◌∙◌, ap, subst}
use Rattle.cb_model.specs.Text.{Text}
use Rattle.cb_model.specs.Tokens as spec
use Rattle.cb_model.specs.Tokens.{Fault, Lexes}
use Rattle.cb_lex.specs.declared.Token.{Token}
use Rattle.cb_lex.specs.declared.LexError.{LexError}
use Rattle.cb_lex.specs.Faults.{fault_of}
use Rattle.cb_lex.specs.Place.{Place, Left, IsFirst, IsSpan}
use Rattle.cb_lex.specs.View.{token_of, tokens_of}
use Rattle.cb_syntax.specs.TokenList.{IsWithin}

-- the text is lexed as these tokens and then what is left
abbrev pub SoFar : Text → List Token → Place → Type 0
SoFar source items p = (us : List spec.Token) (f : Option Fault) → Left p us f → Lexes 0 1 source (tokens_of items ++ us) f

one_behind : (items : List Token) (t : Token) (us : List spec.Token) → tokens_of (items ++ t ∷ []) ++ us ≡ tokens_of items ++ token_of t ∷ us
one_behind items t us = ap (λ vs. vs ++ us) (map-append token_of items (t ∷ [])) ∙ append_assoc (tokens_of items) (token_of t ∷ []) us

pub one_more : (source : Text) (items new : List Token) (p q : Place) {next : Result Token LexError} {t : Token} → next ≡ Ok t → IfOk next (λ t. IsFirst p (token_of t) q) →
    new ≡ items ++ t ∷ [] → SoFar source items p → SoFar source new q
one_more source items new p q {t = t} e h n so us f l =
    let first = IfOk-at_ok (λ t. IsFirst p (token_of t) q) e h in
    subst (λ vs. Lexes 0 1 source vs f) (sym (ap (λ vs. tokens_of vs ++ us) n ∙ one_behind items t us)) (so (token_of t ∷ us) f (first.forth us f l))

pub one_part : (source : Text) (items new : List Token) (p q : Place) {next : Result Token LexError} {t : Token} → next ≡ Ok t → IfOk next (λ t. IsSpan p (token_of t) q) → p.source ≡ source →
    new ≡ items ++ t ∷ [] → All (λ t. IsWithin source (token_of t)) items → All (λ t. IsWithin source (token_of t)) new
one_part source items new p q {t = t} e h same n parts =
    let span = IfOk-at_ok (λ t. IsSpan p (token_of t) q) e h in
    subst (All (λ t. IsWithin source (token_of t))) (sym n) (All-push (λ t. IsWithin source (token_of t)) items t parts
    (record { some = span.some; within = subst (λ (s : Text). t.stop ≤ length s) same span.within; text = span.text ∙ ap (λ (s : Text). take (t.stop - t.start) (drop t.start s)) same }))

pub span_of : {p q : Place} {next : Result Token LexError} {t : Token} → next ≡ Ok t → IfOk next (λ t. IsSpan p (token_of t) q) → IsSpan p (token_of t) q
span_of {p} {q} e h = IfOk-at_ok (λ t. IsSpan p (token_of t) q) e h

pub at_fault : (source : Text) (items : List Token) (p : Place) {next : Result Token LexError} {e : LexError} → next ≡ Err e → IfErr next (λ e. Left p [] (Some (fault_of e))) →
    SoFar source items p → Lexes 0 1 source (tokens_of items) (Some (fault_of e))
at_fault source items p {e = e} r h so =
    subst (λ vs. Lexes 0 1 source vs (Some (fault_of e))) (append-nil (tokens_of items)) (so [] (Some (fault_of e)) (IfErr-at_err (λ e. Left p [] (Some (fault_of e))) r h))

pub at_end : (source : Text) (items : List Token) (p : Place) → Left p [] None → SoFar source items p → Lexes 0 1 source (tokens_of items) None
at_end source items p l so = subst (λ vs. Lexes 0 1 source vs None) (append-nil (tokens_of items)) (so [] None l)
