use Rattle.std.specs.Prelude.{All, vec_len}
use Rattle.std.proofs.Common.{◌≡◌, ◌≤◌, ◌-◌, ◌++◌, List, Option, length}
use Rattle.cb_model.specs.Tokens.{Token, Fault, Lexes}
use Rattle.cb_lex.specs.Place.{Left}
use Rattle.cb_lex.specs.View.{token_of, tokens_of}
use Rattle.cb_syntax.specs.TokenList.{IsWithin}
use Rattle.cb_syntax.proofs.token_list.tokens.Given as goal

abbrev pub invariant-loop-next : goal.invariant-loop-next
invariant-loop-next l = record {
  source : l.lexer.source ≡ l.fn.source;
  within : l.lexer.at ≤ length l.lexer.source;
  few : vec_len l.tokens ≤ l.lexer.at;
  parts : All (λ t. IsWithin l.fn.source (token_of t)) l.tokens.items;
  so_far : (us : List Token) (f : Option Fault) → Left l.lexer us f → Lexes 0 1 l.fn.source (tokens_of l.tokens.items ++ us) f;
}

abbrev pub decreases-loop-next : goal.decreases-loop-next
decreases-loop-next l = length l.lexer.source - l.lexer.at
