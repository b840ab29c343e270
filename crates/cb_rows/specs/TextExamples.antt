-- Worked texts: tokens, clauses, nestings and the faults of a text.
use Rattle.std.specs.Prelude.{◌≡◌, ℕ, false, List, [], ◌∷◌, ◌++◌, codes, Some, None, pos, negsuc}
use Rattle.cb_model.specs.declared.Kind.{Kind}
use Rattle.cb_model.specs.declared.Kind.TheVariants as kind
use Rattle.cb_model.specs.Text.{Text}
use Rattle.cb_model.specs.Tokens.{Token, spelled, Lexes, Byte, Number, Quote}
use Rattle.cb_model.specs.Grammar.{Integer, Variable, Name, And, Xor, Or, Not, Last, More, one, FormClause, FormQuery, AnEqual, Rule, ReadsClause, ReadsQuery, ReadsAll, FirstWrong, FirstDeep, nestings, IsReading, Whole, Lexed, Unfinished, Syntax}

-- a token with its text, its place and its line
abbrev pub token_at : Kind → Text → ℕ → ℕ → ℕ → Token
token_at k x start stop line = record { kind = k; text = x; start = start; stop = stop; line = line }

-- `p(0).` and on the next line `q.`
abbrev pub two_lines : Text
two_lines = codes "p(0)." ++ (10 ∷ codes "q.")

-- its tokens
abbrev pub two_lines_tokens : List Token
two_lines_tokens =
    token_at kind.Atom (codes "p") 0 1 1 ∷ token_at kind.LeftParen (codes "(") 1 2 1 ∷ token_at (kind.Integer (pos 0)) (codes "0") 2 3 1 ∷
    token_at kind.RightParen (codes ")") 3 4 1 ∷ token_at kind.Dot (codes ".") 4 5 1 ∷ token_at kind.Atom (codes "q") 6 7 2 ∷ token_at kind.Dot (codes ".") 7 8 2 ∷ []

-- its clauses
abbrev pub two_clauses : List FormClause
two_clauses = Rule 1 (Name (codes "p") (one (Integer (pos 0)))) false [] ∷ Rule 2 (Name (codes "q") Last) false [] ∷ []

-- `X = ~A + B # C * D.`, with a comment in front
abbrev pub operators : Text
operators = codes "% query" ++ (10 ∷ codes "X = ~A+B#C*D.")

-- the query that it is: `*` binds tighter than `#`, and that tighter than `+`
abbrev pub operators_query : FormQuery
operators_query = record {
  line = 2;
  goals = AnEqual (Variable (codes "X")) (Or (More (Not (Variable (codes "A"))) (one (Xor (More (Variable (codes "B")) (one (And (More (Variable (codes "C")) (one (Variable (codes "D"))))))))))) ∷ [];
}

-- `p` and, on the next line, `q.`
abbrev pub two_names : Text
two_names = codes "p" ++ (10 ∷ codes "q.")

-- its tokens
abbrev pub no_clause : List Token
no_clause = token_at kind.Atom (codes "p") 0 1 1 ∷ token_at kind.Atom (codes "q") 2 3 2 ∷ token_at kind.Dot (codes ".") 3 4 2 ∷ []

-- so many times the same token
abbrev pub times : ℕ → Token → List Token
times ℕ.zero t = []
times (ℕ.suc n) t = t ∷ times n t

-- `p(`, 255 times `~`, `[` and `]`
abbrev pub deep : List Token
deep =
    token_at kind.Atom (codes "p") 0 1 1 ∷ token_at kind.LeftParen (codes "(") 1 2 1 ∷
    times 255 (token_at kind.Tilde (codes "~") 2 3 1) ++ (token_at kind.LeftBracket (codes "[") 3 4 1 ∷ token_at kind.RightBracket (codes "]") 4 5 1 ∷ [])

pub record TextExamples : Type 0 where
  -- tokens with their lines, and the clauses that they are
  pub tokens : Lexes 0 1 two_lines two_lines_tokens None
  pub clauses : ReadsAll ReadsClause two_lines_tokens two_clauses
  pub whole : IsReading ReadsClause two_lines (Whole two_clauses)
  pub query : IsReading ReadsQuery operators (Whole (operators_query ∷ []))
  pub nesting : nestings (0 ∷ []) two_lines_tokens ≡ 0 ∷ 1 ∷ 1 ∷ 0 ∷ 0 ∷ 0 ∷ 0 ∷ []
  -- single tokens
  pub negative : spelled (codes "-12") ≡ Some (kind.Integer (negsuc 11))
  pub two_tokens : spelled (codes "p(") ≡ None
  pub capital : spelled (codes "_a1") ≡ Some kind.Variable
  pub empty_name : spelled (39 ∷ 39 ∷ []) ≡ Some kind.Quoted
  -- faults of tokens: a byte that begins none, an integer past its range, a quote that isn't closed
  pub lone_minus : IsReading ReadsClause (codes "p(-).") (Lexed (Byte 2))
  pub large_number : IsReading ReadsClause (codes "p(99999999999999999999") (Lexed (Number 2))
  pub open_quote : IsReading ReadsClause (codes "p('a") (Lexed (Quote 2))
  -- no clause goes on with the second of two names, and its line is that of the fault, not that of its clause
  pub first_wrong : FirstWrong ReadsClause no_clause 1
  pub syntax : IsReading ReadsClause two_names (Syntax 2)
  -- `p(0`, on the second line
  pub unfinished : IsReading ReadsClause (codes "q." ++ (10 ∷ codes "p(0")) (Unfinished 2)
  -- 256 are open, and one more token opens the next
  pub too_deep : FirstDeep deep 257
