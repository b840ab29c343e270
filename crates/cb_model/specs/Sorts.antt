-- The sorts of a rule or query: the least marking, its clashes, and the trees that stand for the terms.
use Rattle.std.specs.Prelude.{◌≡◌, ◌≢◌, ℕ, zero, suc, if◌then◌else◌, ◌⊎◌, List, [], ◌∷◌, ◌++◌, Option, Some, None, slice_get, unwrap_or, position, codes, bytes_eq, decimal, Contains, ℤ, pos}
use Rattle.std.specs.List.{list_any}
use Rattle.cb_model.specs.declared.Sort.{Sort}
use Rattle.cb_model.specs.declared.Sort.TheVariants as sort
use Rattle.cb_model.specs.declared.Expr.{Expr}
use Rattle.cb_model.specs.declared.Expr.TheVariants as expr
use Rattle.cb_model.specs.declared.Tree.{Tree}
use Rattle.cb_model.specs.declared.Tree.TheVariants as tree
use Rattle.cb_model.specs.Text.{Text}
use Rattle.cb_model.specs.Grammar.{Form, Forms, Variable, Integer, Name, Closed, Open, Not, And, Xor, Or, Last, More, FormGoal, ACall, AnEqual}
use Rattle.cb_model.specs.Directives.{Sign, same_sign, count_of, Declared, sorts_of}

-- ---- each `_` a variable of its own

-- the k-th `_` gets a name that no text has
abbrev pub own_name : ℕ → Text
own_name k = codes "_" ++ (0 ∷ decimal k)

-- a variable, where `_` takes its own name
abbrev pub renamed : ℕ → Text → Form × ℕ
renamed k x = if bytes_eq x (codes "_") then (Variable (own_name k), suc k) else (Variable x, k)

-- a form around a part
abbrev pub then_form : (Form → Form) → Form × ℕ → Form × ℕ
then_form f r = (f r.0, r.1)

-- a form around parts
abbrev pub then_forms : (Forms → Form) → Forms × ℕ → Form × ℕ
then_forms f r = (f r.0, r.1)

-- a part and then the others
abbrev pub then_more : Form × ℕ → (ℕ → Forms × ℕ) → Forms × ℕ
then_more r go = let rest = go r.1 in (More r.0 rest.0, rest.1)

-- a list and then its tail
abbrev pub then_open : Forms × ℕ → (ℕ → Form × ℕ) → Form × ℕ
then_open r go = let rest = go r.1 in (Open r.0 rest.0, rest.1)

-- a form in which each `_` has a name of its own, from number k on, and the next number
abbrev mutual
  pub apart : Form → ℕ → Form × ℕ
  apart (Variable x) k = renamed k x
  apart (Integer z) k = (Integer z, k)
  apart (Name n fs) k = then_forms (Name n) (apart_all fs k)
  apart (Closed fs) k = then_forms Closed (apart_all fs k)
  apart (Open fs f) k = then_open (apart_all fs k) (apart f)
  apart (Not f) k = then_form Not (apart f k)
  apart (And fs) k = then_forms And (apart_all fs k)
  apart (Xor fs) k = then_forms Xor (apart_all fs k)
  apart (Or fs) k = then_forms Or (apart_all fs k)

  pub apart_all : Forms → ℕ → Forms × ℕ
  apart_all Last k = (Last, k)
  apart_all (More f fs) k = then_more (apart f k) (apart_all fs)

-- one side and then the other
abbrev pub then_equal : Form × ℕ → (ℕ → Form × ℕ) → FormGoal × ℕ
then_equal r go = let s = go r.1 in (AnEqual r.0 s.0, s.1)

-- the same of a goal
abbrev pub apart_goal : FormGoal → ℕ → FormGoal × ℕ
apart_goal (ACall f) k = let r = apart f k in (ACall r.0, r.1)
apart_goal (AnEqual f g) k = then_equal (apart f k) (apart g)

-- the same of goals
abbrev pub apart_goals : List FormGoal → ℕ → List FormGoal
apart_goals [] k = []
apart_goals (g ∷ gs) k = let r = apart_goal g k in r.0 ∷ apart_goals gs r.1

-- ---- places and the least marking

-- the sort that a form has by itself
abbrev pub form_sort : List Text → Form → Option Sort
form_sort constants (Variable x) = None
form_sort constants (Integer (pos zero)) = None
form_sort constants (Integer (pos (suc zero))) = None
form_sort constants (Integer _) = Some sort.Term
form_sort constants (Name x Last) = Some (if list_any (bytes_eq x) constants then sort.Bool else sort.Term)
form_sort constants (Name x (More f fs)) = Some sort.Term
form_sort constants (Closed fs) = Some sort.Bus
form_sort constants (Open fs f) = Some sort.Bus
form_sort constants _ = Some sort.Bool

-- a place: its sort, and the form that stands there
abbrev pub Place : Type 0
Place = Sort × Form

-- the places below a form, whatever its own place
abbrev mutual
  pub below : Declared → Form → List Place
  below d (Variable x) = []
  below d (Integer z) = []
  below d (Name n fs) = argument_places d (sorts_of d (n, count_of fs)) fs
  below d (Closed fs) = operand_places d fs
  below d (Open fs f) = operand_places d fs ++ ((sort.Bus, f) ∷ below d f)
  below d (Not f) = (sort.Bool, f) ∷ below d f
  below d (And fs) = operand_places d fs
  below d (Xor fs) = operand_places d fs
  below d (Or fs) = operand_places d fs

  pub operand_places : Declared → Forms → List Place
  operand_places d Last = []
  operand_places d (More f fs) = (sort.Bool, f) ∷ (below d f ++ operand_places d fs)

  pub argument_places : Declared → List Sort → Forms → List Place
  argument_places d ss Last = []
  argument_places d (s ∷ ss) (More f fs) = (s, f) ∷ (below d f ++ argument_places d ss fs)
  argument_places d [] (More f fs) = []

-- the name of circuit goals
abbrev pub circuit_sign : Sign
circuit_sign = (codes "circuit", 3)

-- the places of a head or call
abbrev pub call_places : Declared → Form → List Place
call_places d (Name n fs) =
    if same_sign (n, count_of fs) circuit_sign then argument_places d (sort.Term ∷ sort.Bus ∷ sort.Bus ∷ []) fs
    else argument_places d (sorts_of d (n, count_of fs)) fs
call_places d _ = []

-- a head, or none for a query, with the goals
pub record Body : Type 0 where
  pub head : Option Form
  pub goals : List FormGoal

-- the places of a goal
abbrev pub goal_places : Declared → FormGoal → List Place
goal_places d (ACall f) = call_places d f
goal_places d (AnEqual f g) = below d f ++ below d g

-- the places of a head
abbrev pub head_places : Declared → Option Form → List Place
head_places d None = []
head_places d (Some f) = call_places d f

-- the places of goals
abbrev pub goals_places : Declared → List FormGoal → List Place
goals_places d [] = []
goals_places d (g ∷ gs) = goal_places d g ++ goals_places d gs

-- the places of a body
abbrev pub all_places : Declared → Body → List Place
all_places d b = head_places d b.head ++ goals_places d b.goals

-- a variable, or the equation that is goal k
pub data Subject : Type 0 where
  Var : Text → Subject
  Equation : ℕ → Subject

-- goal k is an equation with this side
pub data IsSide (b : Body) : ℕ → Form → Type 0 where
  left : {k : ℕ} {f : Form} (g : Form) → slice_get b.goals k ≡ Some (AnEqual f g) → IsSide b k f
  right : {k : ℕ} {f : Form} (g : Form) → slice_get b.goals k ≡ Some (AnEqual g f) → IsSide b k f

-- the least marking
pub data Marked (d : Declared) (b : Body) : Subject → Sort → Type 0 where
  at_place : {x : Text} {s : Sort} → Contains (all_places d b) (s, Variable x) → Marked d b (Var x) s
  by_form : {k : ℕ} {s : Sort} (f : Form) → IsSide b k f → form_sort d.constants f ≡ Some s → Marked d b (Equation k) s
  from_side : {k : ℕ} {s : Sort} (x : Text) → IsSide b k (Variable x) → Marked d b (Var x) s → Marked d b (Equation k) s
  to_side : {x : Text} {s : Sort} (k : ℕ) → IsSide b k (Variable x) → Marked d b (Equation k) s → Marked d b (Var x) s

-- the sort of a variable or an equation: its mark, or `term` where it has none
abbrev pub HasSort : Declared → Body → Subject → Sort → Type 0
HasSort d b x s = Marked d b x s ⊎ (((t : Sort) → Marked d b x t → ⊥) × (s ≡ sort.Term))

-- 0 or 1
abbrev pub IsBit : Form → Type 0
IsBit f = (f ≡ Integer (pos 0)) ⊎ (f ≡ Integer (pos 1))

-- two sorts at one thing
pub data Clash (d : Declared) (b : Body) : Type 0 where
  two_marks : (x : Subject) (s t : Sort) → Marked d b x s → Marked d b x t → s ≢ t → Clash d b
  wrong_place : (f : Form) (s t : Sort) → Contains (all_places d b) (s, f) → form_sort d.constants f ≡ Some t → s ≢ t → Clash d b
  wrong_side : (k : ℕ) (f : Form) (s t : Sort) → IsSide b k f → HasSort d b (Equation k) s → form_sort d.constants f ≡ Some t → s ≢ t → Clash d b
  bit_at_bus : (f : Form) → Contains (all_places d b) (sort.Bus, f) → IsBit f → Clash d b
  bit_of_bus : (k : ℕ) (f : Form) → IsSide b k f → IsBit f → HasSort d b (Equation k) sort.Bus → Clash d b

-- ---- the trees of terms

-- the variables in order of first appearance, the constants and the names with their numbers of arguments, by number
pub record Numbering : Type 0 where
  pub variables : List Text
  pub constants : List Text
  pub names : List Sign

-- the number of a name
abbrev pub number_in : List Text → Text → ℕ
number_in xs x = unwrap_or (position (bytes_eq x) xs) 0

-- the number of a name with its arguments
abbrev pub sign_number : List Sign → Sign → ℕ
sign_number xs a = unwrap_or (position (same_sign a) xs) 0

-- 0 or 1 at a Boolean place
abbrev pub bit_expr : ℤ → Expr
bit_expr (pos zero) = expr.Zero
bit_expr _ = expr.One

-- what stands at `bool`
abbrev mutual
  pub as_expr : Numbering → Form → Expr
  as_expr n (Variable x) = expr.Var (number_in n.variables x)
  as_expr n (Integer z) = bit_expr z
  as_expr n (Name x fs) = expr.Const (number_in n.constants x)
  as_expr n (Not f) = expr.Not (as_expr n f)
  as_expr n (And fs) = expr.And (as_exprs n fs)
  as_expr n (Xor fs) = expr.Xor (as_exprs n fs)
  as_expr n (Or fs) = expr.Or (as_exprs n fs)
  as_expr n (Closed fs) = expr.Zero
  as_expr n (Open fs f) = expr.Zero

  pub as_exprs : Numbering → Forms → List Expr
  as_exprs n Last = []
  as_exprs n (More f fs) = as_expr n f ∷ as_exprs n fs

-- a bus: its elements and its tail's variable
abbrev pub as_bus : Numbering → Form → List Expr × Option ℕ
as_bus n (Variable x) = ([], Some (number_in n.variables x))
as_bus n (Closed fs) = (as_exprs n fs, None)
as_bus n (Open fs f) = let r = as_bus n f in (as_exprs n fs ++ r.0, r.1)
as_bus n _ = ([], None)

-- what stands at a sort
abbrev mutual
  pub as_tree : Declared → Numbering → Sort → Form → Tree
  as_tree d n sort.Bool f = tree.Leaf (as_expr n f)
  as_tree d n sort.Bus f = let r = as_bus n f in tree.Bus r.0 r.1
  as_tree d n sort.Term (Variable x) = tree.Var (number_in n.variables x)
  as_tree d n sort.Term (Integer z) = tree.Int z
  as_tree d n sort.Term (Name x fs) = tree.Node (sign_number n.names (x, count_of fs)) (as_trees d n (sorts_of d (x, count_of fs)) fs)
  as_tree d n sort.Term _ = tree.Int (pos 0)

  pub as_trees : Declared → Numbering → List Sort → Forms → List Tree
  as_trees d n ss Last = []
  as_trees d n (s ∷ ss) (More f fs) = as_tree d n s f ∷ as_trees d n ss fs
  as_trees d n [] (More f fs) = []

-- the arguments of a head or a call
abbrev pub as_arguments : Declared → Numbering → Form → List Tree
as_arguments d n (Name x fs) = as_trees d n (sorts_of d (x, count_of fs)) fs
as_arguments d n _ = []
