-- A token without the place of its text in memory.
use Rattle.std.specs.Prelude.{List, map}
use Rattle.cb_model.specs.Tokens as spec
use Rattle.cb_lex.specs.declared.Token.{Token}

-- the token
abbrev pub token_of : Token → spec.Token
token_of t = record { kind = t.kind; text = t.text.now; start = t.start; stop = t.stop; line = t.line }

-- the tokens
abbrev pub tokens_of : List Token → List spec.Token
tokens_of = map token_of
