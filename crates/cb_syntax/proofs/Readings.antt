-- What a text is read as, by its tokens.
use Rattle.std.proofs.Common.{◌≡◌, List, refl, sym, subst, None}
use Rattle.cb_model.specs.Text.{Text}
use Rattle.cb_model.specs.Tokens.{Token, Lexes}
use Rattle.cb_model.specs.Grammar.{IsReading, whole, lexed, syntax_at, deep_at, unfinished, Whole}
use Rattle.cb_lex.specs.declared.Token as declared
use Rattle.cb_lex.specs.View.{tokens_of}
use Rattle.cb_syntax.specs.Answers.{IsText, NoText}
use Rattle.cb_syntax.specs.Lines.{Names}
use Rattle.cb_syntax.specs.Readings.{IsRefused, IsSame}
use Rattle.cb_syntax.specs.TokenList.{HasFault}
use Rattle.cb_syntax.specs.declared.read.Stop.{Stop}
use Rattle.cb_syntax.specs.declared.read.Stop.TheVariants as stop
use Rattle.cb_syntax.specs.declared.texts.ReadError.{ReadError}
use Rattle.cb_syntax.specs.declared.token_list.TokensError.{TokensError}
use Rattle.cb_syntax.specs.declared.token_list.TokensError.TheVariants as fault

module _ (A : Type 0) (R : List Token → List Token → A → Type 0) (source : Text) where
  pub fault_read : (f : TokensError) (e : ReadError) → HasFault source f → IsSame f e → IsRefused R source e
  fault_read (fault.Lex f) e h s = subst (IsRefused R source) (sym s) (lexed h.0 _ h.1)
  fault_read fault.Memory e h s = subst (IsRefused R source) (sym s) tt

  pub whole_read : (found now : List declared.Token) (xs : List A) → Lexes 0 1 source (tokens_of found) None → now ≡ found → IsText R (tokens_of now) xs → IsReading R source (Whole xs)
  whole_read found now xs l e t = whole (tokens_of now) xs (subst (λ ts. Lexes 0 1 source (tokens_of ts) None) (sym e) l) t.reads t.shallow

  refused : (ts : List Token) (s : Stop) (e : ReadError) → Lexes 0 1 source ts None → NoText R ts s → Names ts s e → IsRefused R source e
  refused ts stop.Memory e l t n = subst (IsRefused R source) (sym n) tt
  refused ts stop.Ended e l t n = subst (IsRefused R source) (sym n) (unfinished ts l t.0 t.1 t.2 refl)
  refused ts (stop.Wrong left) e l t n = subst (IsRefused R source) (sym (n t.0 t.1)) (syntax_at ts t.0 l t.2 t.3 refl)
  refused ts (stop.Deep left) e l t n = subst (IsRefused R source) (sym (n t.0 t.1)) (deep_at ts t.0 l t.2 t.3 refl)

  pub refused_read : (found now behind : List declared.Token) (s : Stop) (e : ReadError) → Lexes 0 1 source (tokens_of found) None → now ≡ found → behind ≡ found →
      NoText R (tokens_of now) s → Names (tokens_of behind) s e → IsRefused R source e
  refused_read found now behind s e l p q t n = refused (tokens_of found) s e l (subst (λ ts. NoText R (tokens_of ts) s) p t) (subst (λ ts. Names (tokens_of ts) s e) q n)
