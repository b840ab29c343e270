-- What each expected item reads, and what items read one after the other.
use Rattle.std.proofs.Common.{◌≡◌, List, [], ◌∷◌, ◌++◌, refl, sym, subst}
use Rattle.cb_model.specs.declared.Kind.{Kind}
use Rattle.cb_model.specs.declared.Kind.TheVariants as kind
use Rattle.cb_model.specs.Tokens.{Token}
use Rattle.cb_model.specs.Grammar as sym
use Rattle.cb_model.specs.Grammar.{Op, Plus, Hash, Star, Form, Forms, one, IsAtom, Reads, ReadsGoal, ReadsGoals, FormGoal, FormClause, FormQuery, ReadsClause, ReadsQuery}
use Rattle.cb_syntax.specs.Machine.{Item, Chain, Operands, Operand, Args, Commas, ListRest, ListEnd, Close, CloseBracket, End, Equals, AnAtom, Goal, GoalTail, MoreGoals, ClauseTail, Clauses, Queries}

-- one token of a kind
pub data ReadsOne (k : Kind) : List Token → List Token → Type 0 where
  this : {t : Token} {ts : List Token} → t.kind ≡ k → ReadsOne k (t ∷ ts) ts

-- one atom
pub data ReadsAtom : List Token → List Token → Type 0 where
  atom : {t : Token} {ts : List Token} → IsAtom t → ReadsAtom (t ∷ ts) ts

-- arguments in parentheses, or none
pub data ReadsArgs : List Token → List Token → Type 0 where
  no_args : {ts : List Token} → ReadsArgs ts ts
  some_args : {l : Token} {ts us : List Token} (r : Token) (xs : Forms) → l.kind ≡ kind.LeftParen → Reads sym.Exprs ts (r ∷ us) xs →
      r.kind ≡ kind.RightParen → ReadsArgs (l ∷ ts) us

-- the end of a list behind its elements
pub data ReadsListEnd : List Token → List Token → Type 0 where
  closes : {r : Token} {ts : List Token} → r.kind ≡ kind.RightBracket → ReadsListEnd (r ∷ ts) ts
  opens : {b : Token} {ts us : List Token} (r : Token) (y : Form) → b.kind ≡ kind.Bar → Reads (sym.Chain Plus) ts (r ∷ us) (one y) →
      r.kind ≡ kind.RightBracket → ReadsListEnd (b ∷ ts) us

-- a list behind its bracket
pub data ReadsListRest : List Token → List Token → Type 0 where
  nothing : {r : Token} {ts : List Token} → r.kind ≡ kind.RightBracket → ReadsListRest (r ∷ ts) ts
  elements : {ts vs : List Token} (us : List Token) (xs : Forms) → Reads sym.Exprs ts us xs → ReadsListEnd us vs → ReadsListRest ts vs

-- what may follow a call that begins a goal
pub data ReadsGoalTail : List Token → List Token → Type 0 where
  no_tail : {ts : List Token} → ReadsGoalTail ts ts
  a_tail : {ts zs : List Token} (us vs ws : List Token) (e : Token) (xs ys zs' : Forms) (y : Form) → Reads (sym.Operands Star) ts us xs → Reads (sym.Operands Hash) us vs ys →
      Reads (sym.Operands Plus) vs (e ∷ ws) zs' → e.kind ≡ kind.Equals → Reads (sym.Chain Plus) ws zs (one y) → ReadsGoalTail ts zs

-- what follows a goal
pub data ReadsMoreGoals : List Token → List Token → Type 0 where
  dot : {d : Token} {ts : List Token} → d.kind ≡ kind.Dot → ReadsMoreGoals (d ∷ ts) ts
  comma : {c : Token} {ts us : List Token} (gs : List FormGoal) → c.kind ≡ kind.Comma → ReadsGoals ts us gs → ReadsMoreGoals (c ∷ ts) us

-- what follows the head of a clause
pub data ReadsClauseTail : List Token → List Token → Type 0 where
  no_body : {d : Token} {ts : List Token} → d.kind ≡ kind.Dot → ReadsClauseTail (d ∷ ts) ts
  body : {n : Token} {ts us : List Token} (gs : List FormGoal) → n.kind ≡ kind.Neck → ReadsGoals ts us gs → ReadsClauseTail (n ∷ ts) us

-- any number of pieces
pub data ReadsMany {A : Type 0} (R : List Token → List Token → A → Type 0) : List Token → List Token → Type 0 where
  no_piece : {ts : List Token} → ReadsMany R ts ts
  a_piece : {ts vs : List Token} (us : List Token) (x : A) → R ts us x → ReadsMany R us vs → ReadsMany R ts vs

-- what an item reads
abbrev pub Item-reads : Item → List Token → List Token → Type 0
Item-reads (Chain op) ts us = (x : Form) × Reads (sym.Chain op) ts us (one x)
Item-reads (Operands op) ts us = (xs : Forms) × Reads (sym.Operands op) ts us xs
Item-reads Operand ts us = (x : Form) × Reads sym.Unary ts us (one x)
Item-reads Args ts us = ReadsArgs ts us
Item-reads Commas ts us = (xs : Forms) × Reads sym.Commas ts us xs
Item-reads ListRest ts us = ReadsListRest ts us
Item-reads ListEnd ts us = ReadsListEnd ts us
Item-reads Close ts us = ReadsOne kind.RightParen ts us
Item-reads CloseBracket ts us = ReadsOne kind.RightBracket ts us
Item-reads End ts us = ReadsOne kind.Dot ts us
Item-reads Equals ts us = ReadsOne kind.Equals ts us
Item-reads AnAtom ts us = ReadsAtom ts us
Item-reads Goal ts us = (g : FormGoal) × ReadsGoal ts us g
Item-reads GoalTail ts us = ReadsGoalTail ts us
Item-reads MoreGoals ts us = ReadsMoreGoals ts us
Item-reads ClauseTail ts us = ReadsClauseTail ts us
Item-reads Clauses ts us = ReadsMany ReadsClause ts us
Item-reads Queries ts us = ReadsMany ReadsQuery ts us

-- what the items read, one after the other
abbrev pub Part : List Item → List Token → List Token → Type 0
Part [] ts us = ts ≡ us
Part (i ∷ is) ts vs = (us : List Token) × Item-reads i ts us × Part is us vs

-- the items read all tokens
abbrev pub Holds : List Item → List Token → Type 0
Holds [] ts = ts ≡ []
Holds (i ∷ is) ts = (us : List Token) × Item-reads i ts us × Holds is us

pub joins : (js is : List Item) (ts us : List Token) → Part js ts us → Holds is us → Holds (js ++ is) ts
joins [] is ts us p h = subst (Holds is) (sym p) h
joins (j ∷ js) is ts us p h = (p.0, p.1, joins js is p.0 us p.2 h)

pub splits : (js is : List Item) (ts : List Token) → Holds (js ++ is) ts → (us : List Token) × Part js ts us × Holds is us
splits [] is ts h = (ts, refl, h)
splits (j ∷ js) is ts h = let r = splits js is h.0 h.2 in (r.0, (h.0, h.1, r.1), r.2)

pub join_parts : (js is : List Item) (ts us vs : List Token) → Part js ts us → Part is us vs → Part (js ++ is) ts vs
join_parts [] is ts us vs p h = subst (λ ws. Part is ws vs) (sym p) h
join_parts (j ∷ js) is ts us vs p h = (p.0, p.1, join_parts js is p.0 us vs p.2 h)

pub split_parts : (js is : List Item) (ts vs : List Token) → Part (js ++ is) ts vs → (us : List Token) × Part js ts us × Part is us vs
split_parts [] is ts vs h = (ts, refl, h)
split_parts (j ∷ js) is ts vs h = let r = split_parts js is h.0 vs h.2 in (r.0, (h.0, h.1, r.1), r.2)
