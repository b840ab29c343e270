-- What the reading functions of goals, clauses and queries answer to one another.
use Rattle.std.specs.Prelude.{◌≡◌, Bool, true, false, List, [], ◌∷◌}
use Rattle.cb_model.specs.declared.Kind.{Kind}
use Rattle.cb_model.specs.declared.Kind.TheVariants as kind
use Rattle.cb_model.specs.Tokens.{Token}
use Rattle.cb_model.specs.Grammar as sym
use Rattle.cb_model.specs.Grammar.{Op, Plus, Hash, Star, Form, Forms, one, IsAtom, Reads, FormGoal, AnEqual, ReadsGoal, ReadsGoals, FormClause, Rule, ReadsClause, FormQuery, ReadsQuery}
use Rattle.cb_syntax.specs.Machine.{Item, Chain, Operands, Equals, Goal, MoreGoals, ClauseTail, Clauses, Queries, run}
use Rattle.cb_syntax.specs.Answers.{Agrees}
use Rattle.cb_syntax.specs.declared.read.Stop.{Stop}

-- an operator or `=` comes next
abbrev pub tail_next : List Token → Bool
tail_next [] = false
tail_next (t ∷ ts) = is_tail t.kind
  where
    is_tail : Kind → Bool
    is_tail kind.Star = true
    is_tail kind.Hash = true
    is_tail kind.Plus = true
    is_tail kind.Equals = true
    is_tail _ = false

-- the items of a chain behind its first operand
abbrev pub chain_rest : List Item → List Item
chain_rest is = Operands Star ∷ Operands Hash ∷ Operands Plus ∷ is

-- a chain was read behind its first operand
pub record TookRest (x : Form) (ts us : List Token) (y : Form) : Type 0 where
  pub reads : (os : List Token) → Reads sym.Unary os ts (one x) → Reads (sym.Chain Plus) os us (one y)
  pub runs : (is : List Item) → run (chain_rest is) (0 ∷ []) ts ≡ run is (0 ∷ []) us

abbrev pub NoRest : List Token → Stop → Type 0
NoRest ts e = (is : List Item) → Agrees e (run (chain_rest is) (0 ∷ []) ts)

-- `=` and a term were read behind a term
pub record TookEquation (x : Form) (ts us : List Token) (g : FormGoal) : Type 0 where
  pub reads : (os : List Token) → Reads (sym.Chain Plus) os ts (one x) → ReadsGoal os us g
  pub runs : (is : List Item) → run (Equals ∷ Chain Plus ∷ is) (0 ∷ []) ts ≡ run is (0 ∷ []) us

-- the same behind any term
abbrev pub TookRight : List Token → List Token → Form → Type 0
TookRight ts us y = (x : Form) → TookEquation x ts us (AnEqual x y)

abbrev pub NoEquation : List Token → Stop → Type 0
NoEquation ts e = (is : List Item) → Agrees e (run (Equals ∷ Chain Plus ∷ is) (0 ∷ []) ts)

-- a goal was read
pub record TookGoal (ts us : List Token) (g : FormGoal) : Type 0 where
  pub reads : ReadsGoal ts us g
  pub runs : (is : List Item) → run (Goal ∷ is) (0 ∷ []) ts ≡ run is (0 ∷ []) us

abbrev pub NoGoal : List Token → Stop → Type 0
NoGoal ts e = (is : List Item) → Agrees e (run (Goal ∷ is) (0 ∷ []) ts)

-- goals up to a dot were read
pub record TookGoals (ts us : List Token) (gs : List FormGoal) : Type 0 where
  pub reads : ReadsGoals ts us gs
  pub runs : (is : List Item) → run (Goal ∷ MoreGoals ∷ is) (0 ∷ []) ts ≡ run is (0 ∷ []) us

abbrev pub NoGoals : List Token → Stop → Type 0
NoGoals ts e = (is : List Item) → Agrees e (run (Goal ∷ MoreGoals ∷ is) (0 ∷ []) ts)

-- what follows a head was read
pub record TookTail (ts us : List Token) (bodied : Bool) (gs : List FormGoal) : Type 0 where
  pub reads : (t : Token) (os : List Token) (x : Form) → Reads sym.Call (t ∷ os) ts (one x) → ReadsClause (t ∷ os) us (Rule t.line x bodied gs)
  pub runs : run (ClauseTail ∷ Clauses ∷ []) (0 ∷ []) ts ≡ run (Clauses ∷ []) (0 ∷ []) us

abbrev pub NoTail : List Token → Stop → Type 0
NoTail ts e = Agrees e (run (ClauseTail ∷ Clauses ∷ []) (0 ∷ []) ts)

-- a clause was read
pub record TookClause (ts us : List Token) (c : FormClause) : Type 0 where
  pub reads : ReadsClause ts us c
  pub runs : run (Clauses ∷ []) (0 ∷ []) ts ≡ run (Clauses ∷ []) (0 ∷ []) us

abbrev pub NoClause : List Token → Stop → Type 0
NoClause ts e = Agrees e (run (Clauses ∷ []) (0 ∷ []) ts)

-- a query was read
pub record TookQuery (ts us : List Token) (q : FormQuery) : Type 0 where
  pub reads : ReadsQuery ts us q
  pub runs : run (Queries ∷ []) (0 ∷ []) ts ≡ run (Queries ∷ []) (0 ∷ []) us

abbrev pub NoQuery : List Token → Stop → Type 0
NoQuery ts e = Agrees e (run (Queries ∷ []) (0 ∷ []) ts)
