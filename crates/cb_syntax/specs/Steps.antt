-- What the reading functions answer to one another: for every stack below, the machine stands behind what was read.
use Rattle.std.specs.Prelude.{◌≡◌, ◌≢◌, ℕ, ◌+◌, ◌<◌, false, List, [], ◌∷◌, length, drop, None}
use Rattle.cb_model.specs.declared.Kind.{Kind}
use Rattle.cb_model.specs.declared.Kind.TheVariants as kind
use Rattle.cb_model.specs.Tokens.{Token}
use Rattle.cb_model.specs.Grammar as sym
use Rattle.cb_model.specs.Grammar.{Op, Plus, Hash, Star, op_kind, tighter, Form, Forms, And, Xor, Or, one, chain, depth, nest, IsAtom, Reads, FormGoal, ReadsGoal, ReadsGoals, FormClause, ReadsClause}
use Rattle.cb_lex.specs.declared.Token as declared
use Rattle.cb_lex.specs.View.{tokens_of}
use Rattle.cb_syntax.specs.Machine.{Item, Chain, Operands, Operand, Args, Commas, ListRest, ListEnd, run, step, can_end}
use Rattle.cb_syntax.specs.Answers.{Agrees}
use Rattle.cb_syntax.specs.declared.read.Stop.{Stop}
use Rattle.cb_syntax.specs.declared.read.Operator.{Operator}
use Rattle.cb_syntax.specs.declared.read.Operator.TheVariants as operator

-- the tokens from a place on
abbrev pub rest : List declared.Token → ℕ → List Token
rest ts at = drop at (tokens_of ts)

-- the operator of a chain
abbrev pub op_of : Operator → Op
op_of operator.Plus = Plus
op_of operator.Hash = Hash
op_of operator.Star = Star

-- how many levels of operators an operand of the chain has
abbrev pub levels : Operator → ℕ
levels operator.Plus = 4
levels operator.Hash = 2
levels operator.Star = 0

-- operands with an operator between them
abbrev pub joined_form : Op → Forms → Form
joined_form Plus fs = Or fs
joined_form Hash fs = Xor fs
joined_form Star fs = And fs

-- the item of an operand of a chain
abbrev pub inner : Op → Item
inner Plus = Chain Hash
inner Hash = Chain Star
inner Star = Operand

-- a term was read as this item, and the machine is behind it
pub record Took (i : Item) (s : sym.Sym) (d : ℕ) (ts us : List Token) (x : Form) : Type 0 where
  pub reads : Reads s ts us (one x)
  pub runs : (is : List Item) (ns : List ℕ) → depth (0 ∷ ns) ≡ d → run (i ∷ is) (0 ∷ ns) ts ≡ run is (0 ∷ ns) us

-- the machine stops in what the item reads
abbrev pub Stops : Item → ℕ → List Token → Stop → Type 0
Stops i d ts e = (is : List Item) (ns : List ℕ) → depth (0 ∷ ns) ≡ d → Agrees e (run (i ∷ is) (0 ∷ ns) ts)

-- a chain was read
abbrev pub TookChain : Op → ℕ → List Token → List Token → Form → Type 0
TookChain op = Took (Chain op) (sym.Chain op)

-- an operand of a chain was read
abbrev pub TookInner : Op → ℕ → List Token → List Token → Form → Type 0
TookInner op = Took (inner op) (tighter op)

-- an operand of the tightest chain was read
pub record TookOperand (d : ℕ) (ts us : List Token) (x : Form) : Type 0 where
  pub reads : Reads sym.Unary ts us (one x)
  pub runs : (is : List Item) (n : ℕ) (ns : List ℕ) → depth (n ∷ ns) ≡ d → run (Operand ∷ is) (n ∷ ns) ts ≡ run is (0 ∷ ns) us

abbrev pub NoOperand : ℕ → List Token → Stop → Type 0
NoOperand d ts e = (is : List Item) (n : ℕ) (ns : List ℕ) → depth (n ∷ ns) ≡ d → Agrees e (run (Operand ∷ is) (n ∷ ns) ts)

-- what follows an atom was read
pub record TookCall (d : ℕ) (t : Token) (ts us : List Token) (x : Form) : Type 0 where
  pub reads : Reads sym.Call (t ∷ ts) us (one x)
  pub runs : (is : List Item) (n : ℕ) (ns : List ℕ) → depth (n ∷ ns) ≡ d → run (Args ∷ is) (nest kind.Atom ts (n ∷ ns)) ts ≡ run is (0 ∷ ns) us

abbrev pub NoCall : ℕ → List Token → Stop → Type 0
NoCall d ts e = (is : List Item) (n : ℕ) (ns : List ℕ) → depth (n ∷ ns) ≡ d → Agrees e (run (Args ∷ is) (nest kind.Atom ts (n ∷ ns)) ts)

-- terms with commas between them were read
pub record TookTerms (d : ℕ) (ts us : List Token) (xs : Forms) : Type 0 where
  pub reads : Reads sym.Exprs ts us xs
  pub runs : (is : List Item) (ns : List ℕ) → depth (0 ∷ ns) ≡ d → run (Chain Plus ∷ Commas ∷ is) (0 ∷ ns) ts ≡ run is (0 ∷ ns) us

abbrev pub NoTerms : ℕ → List Token → Stop → Type 0
NoTerms d ts e = (is : List Item) (ns : List ℕ) → depth (0 ∷ ns) ≡ d → Agrees e (run (Chain Plus ∷ Commas ∷ is) (0 ∷ ns) ts)

-- a list was read behind its bracket
pub record TookList (d : ℕ) (ts us : List Token) (x : Form) : Type 0 where
  pub reads : (l : Token) → l.kind ≡ kind.LeftBracket → Reads sym.Prim (l ∷ ts) us (one x)
  pub runs : (is : List Item) (n : ℕ) (ns : List ℕ) → depth (0 ∷ n ∷ ns) ≡ d → run (ListRest ∷ is) (0 ∷ n ∷ ns) ts ≡ run is (0 ∷ ns) us

abbrev pub NoList : ℕ → List Token → Stop → Type 0
NoList d ts e = (is : List Item) (n : ℕ) (ns : List ℕ) → depth (0 ∷ n ∷ ns) ≡ d → Agrees e (run (ListRest ∷ is) (0 ∷ n ∷ ns) ts)

-- the end of a list was read behind its elements
pub record TookListEnd (d : ℕ) (xs : Forms) (ts us : List Token) (x : Form) : Type 0 where
  pub reads : (l : Token) (os : List Token) → l.kind ≡ kind.LeftBracket → Reads sym.Exprs os ts xs → Reads sym.Prim (l ∷ os) us (one x)
  pub runs : (is : List Item) (n : ℕ) (ns : List ℕ) → depth (0 ∷ n ∷ ns) ≡ d → run (ListEnd ∷ is) (0 ∷ n ∷ ns) ts ≡ run is (0 ∷ ns) us

abbrev pub NoListEnd : ℕ → List Token → Stop → Type 0
NoListEnd d ts e = (is : List Item) (n : ℕ) (ns : List ℕ) → depth (0 ∷ n ∷ ns) ≡ d → Agrees e (run (ListEnd ∷ is) (0 ∷ n ∷ ns) ts)

-- operands behind the first were read
pub record TookOperands (op : Op) (d : ℕ) (ts us : List Token) (xs : Forms) : Type 0 where
  pub reads : Reads (sym.Operands op) ts us xs
  pub runs : (is : List Item) (ns : List ℕ) → depth (0 ∷ ns) ≡ d → run (Operands op ∷ is) (0 ∷ ns) ts ≡ run is (0 ∷ ns) us

-- a chain was read behind its first operand
pub record TookLonger (op : Op) (d : ℕ) (x : Form) (ts us : List Token) (y : Form) : Type 0 where
  pub others : Forms
  pub took : TookOperands op d ts us others
  pub is : y ≡ chain op x others

-- no token of this kind comes first
abbrev pub NoKind : Kind → List Token → Type 0
NoKind k [] = Unit {0}
NoKind k (t ∷ ts) = t.kind ≢ k

-- this token comes next, among so many
pub record Ahead (all at : ℕ) (ts : List Token) (t : Token) (us : List Token) : Type 0 where
  pub first : ts ≡ t ∷ us
  pub within : at < all
  pub count : at + length ts ≡ all

-- a token of this kind comes next
pub record AheadOf (k : Kind) (all at : ℕ) (ts us : List Token) : Type 0 where
  pub token : Token
  pub is : token.kind ≡ k
  pub ahead : Ahead all at ts token us

-- the items take this kind of token and no other, and don't end
pub record Only (k : Kind) (is : List Item) : Type 0 where
  pub no_end : can_end is ≡ false
  pub others : (j : Kind) → (j ≡ k → ⊥) → step is j ≡ None

-- no token of this kind comes next, where none else is taken
abbrev pub NotAhead : Kind → List Token → Stop → Type 0
NotAhead k ts e = (is : List Item) (ns : List ℕ) → Only k is → Agrees e (run is ns ts)
