-- Written terms, as they lie in memory, and their forms.
use Rattle.std.specs.Prelude.{◌≡◌, false, true, [], ◌∷◌, codes, Some, None, pos, neg_ℤ}
use Rattle.std.specs.Borrow.{Bor}
use Rattle.cb_model.specs.declared.RawTerm.{RawTerm}
use Rattle.cb_model.specs.declared.RawTerm.TheVariants as raw
use Rattle.cb_model.specs.declared.RawGoal.TheVariants as raw_goal
use Rattle.cb_model.specs.declared.RawClause.TheVariants as raw_clause
use Rattle.cb_model.specs.Text.{Text}
use Rattle.cb_model.specs.Grammar.{Last, More, one, Name, Variable, Integer, Closed, Open, Not, And, Xor, Or, ACall, AnEqual, Directive, Rule}
use Rattle.cb_model.specs.Forms.{form_of, clause_form, query_form}

-- a name as it is lent from a text
abbrev pub lent : Text → Bor Text
lent x = record { ref_ptr = (0, 0); now = x }

-- a variable and an atom
abbrev pub variable : Text → RawTerm
variable x = raw.Variable (lent x)

abbrev pub atom : Text → RawTerm
atom x = raw.Name (lent x) []

-- `~X * a # b + 0`
abbrev pub bits : RawTerm
bits = raw.Or (raw.Xor (raw.And (raw.Not (variable (codes "X")) ∷ atom (codes "a") ∷ []) ∷ atom (codes "b") ∷ []) ∷ raw.Integer (pos 0) ∷ [])

pub record FormExamples : Type 0 where
  -- operators, operands in their order
  pub operators : form_of bits ≡
      Or (More (Xor (More (And (More (Not (Variable (codes "X"))) (one (Name (codes "a") Last)))) (one (Name (codes "b") Last)))) (one (Integer (pos 0))))
  -- lists, one with a tail
  pub closed : form_of (raw.List (variable (codes "X") ∷ raw.Integer (neg_ℤ (pos 1)) ∷ []) None) ≡ Closed (More (Variable (codes "X")) (one (Integer (neg_ℤ (pos 1)))))
  pub with_tail : form_of (raw.List (variable (codes "X") ∷ []) (Some (variable (codes "T")))) ≡ Open (one (Variable (codes "X"))) (Variable (codes "T"))
  -- `p(X, q) :- X = r, s.` in the third line
  pub rule : clause_form (raw_clause.Rule 3 (raw.Name (lent (codes "p")) (variable (codes "X") ∷ atom (codes "q") ∷ [])) true
      (raw_goal.Equal (variable (codes "X")) (atom (codes "r")) ∷ raw_goal.Call (atom (codes "s")) ∷ [])) ≡
      Rule 3 (Name (codes "p") (More (Variable (codes "X")) (one (Name (codes "q") Last)))) true
      (AnEqual (Variable (codes "X")) (Name (codes "r") Last) ∷ ACall (Name (codes "s") Last) ∷ [])
  pub fact : clause_form (raw_clause.Rule 4 (atom (codes "p")) false []) ≡ Rule 4 (Name (codes "p") Last) false []
  -- `:- constants a, b.`
  pub directive : clause_form (raw_clause.Directive 2 (lent (codes "constants")) (atom (codes "a") ∷ atom (codes "b") ∷ [])) ≡
      Directive 2 (codes "constants") (More (Name (codes "a") Last) (one (Name (codes "b") Last)))
  -- `p, X = q.` in the fifth line
  pub query : query_form (record { line = 5; goals = raw_goal.Call (atom (codes "p")) ∷ raw_goal.Equal (variable (codes "X")) (atom (codes "q")) ∷ [] }) ≡
      record { line = 5; goals = ACall (Name (codes "p") Last) ∷ AnEqual (Variable (codes "X")) (Name (codes "q") Last) ∷ [] }
