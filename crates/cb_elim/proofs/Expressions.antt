-- The nodes of expressions.
use Rattle.std.proofs.Common.{◌≡◌, inl, ℕ, zero, suc, ◌+◌, ◌-◌, ◌*◌, ◌/◌, ◌<◌, ◌≤◌, Bool, true, false, not, ◌&&◌, ◌||◌, List, [], ◌∷◌, ◌++◌, map, length, get_or, take, drop, sum, Option, Some, None, refl, sym, ◌∙◌, ap, ap₂, subst, arith}
use Rattle.std.proofs.lemmas.List.{length-drop, length-map, length-take-le, map-append, take-append-drop}
use Rattle.std.proofs.lemmas.List.Sums.{sum-map, sum_by-append, sum_by_more_le}
use Rattle.std.specs.List.{sum_by}
use Rattle.std.proofs.Math.Path.{fun_ext}
use Rattle.std.proofs.Math.Seq.{take-length}
use Rattle.std.specs.Option.{option_map_or}
use Rattle.cb_model.specs.declared.Expr.{Expr}
use Rattle.cb_model.specs.declared.Expr.TheOpen.{Expr-F}
use Rattle.cb_model.specs.declared.Expr.TheVariants as expr
use Rattle.cb_model.specs.declared.Expr.TheFolds.{fold-Expr, fold-roll-Expr}
use Rattle.cb_model.specs.Bits.{Bits, xor, all_of, some_of, odd_of}
use Rattle.cb_model.specs.Values.{expr_step, expr_value, in_scope}
use Rattle.cb_laws.proofs.Depends.{depends}
use Rattle.cb_dd.specs.declared.Node.{Node}
use Rattle.cb_dd.specs.declared.Triple.{Triple}
use Rattle.cb_dd.specs.Diagram.{Store, IsNode, function_of}
use Rattle.cb_dd.proofs.Diagrams.{function_of-zero, function_of-one}
use Rattle.cb_ops.specs.Ops.{Grows, StandsFor}
use Rattle.cb_ops.proofs.Ite.{grown-function}
use Rattle.cb_boole.specs.Elimination.{Function}
use Rattle.cb_boole.specs.View.{View, IsGood, IsFit, back}
use Rattle.cb_boole.proofs.Unify.{point_other, constant_other}
use Rattle.cb_elim.specs.declared.Slot.{Slot}
use Rattle.cb_elim.specs.declared.expression.Operator.{Operator}
use Rattle.cb_elim.specs.declared.expression.Operator.TheVariants as operator
use Rattle.cb_elim.specs.Store.{Seen, IsStore, IsArgument, AreThere, value_in, view_of}
use Rattle.cb_elim.specs.Expression.{chain_value, operator_value, variable_bits}
use Rattle.cb_elim.proofs.Views.{value-still, view-still, store-inside}

-- the functions of the constants
pub ruleset constants = (function_of-zero, function_of-one)

-- ---- the equations of a value

module _ (a b : Bits) where
  value-zero : expr_value a b expr.Zero ≡ false
  value-zero = ap (expr_value a b) (sym expr.rolls-Zero) ∙ fold-roll-Expr Bool (expr_step a b) Expr-F.Zero

  value-one : expr_value a b expr.One ≡ true
  value-one = ap (expr_value a b) (sym expr.rolls-One) ∙ fold-roll-Expr Bool (expr_step a b) Expr-F.One

  value-const : (k : ℕ) → expr_value a b (expr.Const k) ≡ a k
  value-const k = ap (expr_value a b) (sym (expr.rolls-Const k)) ∙ fold-roll-Expr Bool (expr_step a b) (Expr-F.Const k)

  value-var : (n : ℕ) → expr_value a b (expr.Var n) ≡ b n
  value-var n = ap (expr_value a b) (sym (expr.rolls-Var n)) ∙ fold-roll-Expr Bool (expr_step a b) (Expr-F.Var n)

  value-not : (x : Expr) → expr_value a b (expr.Not x) ≡ not (expr_value a b x)
  value-not x = ap (expr_value a b) (sym (expr.rolls-Not x)) ∙ fold-roll-Expr Bool (expr_step a b) (Expr-F.Not x)

  value-and : (xs : List Expr) → expr_value a b (expr.And xs) ≡ all_of (map (expr_value a b) xs)
  value-and xs = ap (expr_value a b) (sym (expr.rolls-And xs)) ∙ fold-roll-Expr Bool (expr_step a b) (Expr-F.And xs)

  value-xor : (xs : List Expr) → expr_value a b (expr.Xor xs) ≡ odd_of (map (expr_value a b) xs)
  value-xor xs = ap (expr_value a b) (sym (expr.rolls-Xor xs)) ∙ fold-roll-Expr Bool (expr_step a b) (Expr-F.Xor xs)

  value-or : (xs : List Expr) → expr_value a b (expr.Or xs) ≡ some_of (map (expr_value a b) xs)
  value-or xs = ap (expr_value a b) (sym (expr.rolls-Or xs)) ∙ fold-roll-Expr Bool (expr_step a b) (Expr-F.Or xs)

-- ---- leaves

pub zero-is : (ts : List Triple) (b : Bits → Bits) (e : Expr) → e ≡ expr.Zero → (a : Bits) → function_of ts 0 a ≡ expr_value a (b a) e
zero-is ts b e is a = function_of-zero ts a ∙ sym (value-zero a (b a)) ∙ ap (expr_value a (b a)) (sym is)

pub one-is : (ts : List Triple) (b : Bits → Bits) (e : Expr) → e ≡ expr.One → (a : Bits) → function_of ts 1 a ≡ expr_value a (b a) e
one-is ts b e is a = function_of-one ts a ∙ sym (value-one a (b a)) ∙ ap (expr_value a (b a)) (sym is)

pub const-is : (t : List Triple) (b : Bits → Bits) (r k : ℕ) (e : Expr) → e ≡ expr.Const k → StandsFor t r (λ a. a k) → (a : Bits) → function_of t r a ≡ expr_value a (b a) e
const-is t b r k e is made a = made.at a ∙ sym (value-const a (b a) k) ∙ ap (expr_value a (b a)) (sym is)

pub var-is : (ts : List Triple) (b : Bits → Bits) (r n : ℕ) (e : Expr) → e ≡ expr.Var n → ((a : Bits) → function_of ts r a ≡ b a n) → (a : Bits) → function_of ts r a ≡ expr_value a (b a) e
var-is ts b r n e is made a = made a ∙ sym (value-var a (b a) n) ∙ ap (expr_value a (b a)) (sym is)

-- ---- connectives

pub not-is : (t u : List Triple) (b : Bits → Bits) (n r : ℕ) (x y e : Expr) → e ≡ expr.Not x → y ≡ x → ((a : Bits) → function_of t n a ≡ expr_value a (b a) y) → StandsFor u r (λ a. not (function_of t n a)) → (a : Bits) → function_of u r a ≡ expr_value a (b a) e
not-is t u b n r x y e is same made negated a = negated.at a ∙ ap not (made a ∙ ap (expr_value a (b a)) same) ∙ sym (value-not a (b a) x) ∙ ap (expr_value a (b a)) (sym is)

pub and-is : (t : List Triple) (b : Bits → Bits) (r : ℕ) (xs ys : List Expr) (e : Expr) → e ≡ expr.And xs → ys ≡ xs → ((a : Bits) → function_of t r a ≡ all_of (map (expr_value a (b a)) ys)) → (a : Bits) → function_of t r a ≡ expr_value a (b a) e
and-is t b r xs ys e is same made a = made a ∙ ap (λ l. all_of (map (expr_value a (b a)) l)) same ∙ sym (value-and a (b a) xs) ∙ ap (expr_value a (b a)) (sym is)

pub xor-is : (t : List Triple) (b : Bits → Bits) (r : ℕ) (xs ys : List Expr) (e : Expr) → e ≡ expr.Xor xs → ys ≡ xs → ((a : Bits) → function_of t r a ≡ odd_of (map (expr_value a (b a)) ys)) → (a : Bits) → function_of t r a ≡ expr_value a (b a) e
xor-is t b r xs ys e is same made a = made a ∙ ap (λ l. odd_of (map (expr_value a (b a)) l)) same ∙ sym (value-xor a (b a) xs) ∙ ap (expr_value a (b a)) (sym is)

pub or-is : (t : List Triple) (b : Bits → Bits) (r : ℕ) (xs ys : List Expr) (e : Expr) → e ≡ expr.Or xs → ys ≡ xs → ((a : Bits) → function_of t r a ≡ some_of (map (expr_value a (b a)) ys)) → (a : Bits) → function_of t r a ≡ expr_value a (b a) e
or-is t b r xs ys e is same made a = made a ∙ ap (λ l. some_of (map (expr_value a (b a)) l)) same ∙ sym (value-or a (b a) xs) ∙ ap (expr_value a (b a)) (sym is)

-- one operand more at the end
and-last : (xs : List Bool) (y : Bool) → all_of (xs ++ y ∷ []) ≡ all_of xs && y
and-last [] true = refl
and-last [] false = refl
and-last (true ∷ xs) y = and-last xs y
and-last (false ∷ xs) y = refl

or-last : (xs : List Bool) (y : Bool) → some_of (xs ++ y ∷ []) ≡ some_of xs || y
or-last [] true = refl
or-last [] false = refl
or-last (true ∷ xs) y = refl
or-last (false ∷ xs) y = or-last xs y

xor-assoc : (x y z : Bool) → xor x (xor y z) ≡ xor (xor x y) z
xor-assoc true true true = refl
xor-assoc true true false = refl
xor-assoc true false true = refl
xor-assoc true false false = refl
xor-assoc false y z = refl

xor-last : (xs : List Bool) (y : Bool) → odd_of (xs ++ y ∷ []) ≡ xor (odd_of xs) y
xor-last [] true = refl
xor-last [] false = refl
xor-last (x ∷ xs) y = ap (xor x) (xor-last xs y) ∙ xor-assoc x (odd_of xs) y

-- the variables' bits stay when nodes are added
bits-at : (s t : Store) → Grows s t → (ns : List Node) → AreThere s.triples ns → (o : Option Slot) (a : Bits) →
    option_map_or (λ (x : Slot). value_in t.triples ns x.0 a) o false ≡ option_map_or (λ (x : Slot). value_in s.triples ns x.0 a) o false
bits-at s t g ns there None a = refl
bits-at s t g ns there (Some x) a = ap (λ (f : Function). f a) (value-still s t g ns there x.0)

pub bits-still : (s t : Store) → Grows s t → (ns : List Node) → AreThere s.triples ns → (vars : List (Option Slot)) (a : Bits) → variable_bits t.triples ns vars a ≡ variable_bits s.triples ns vars a
bits-still s t g ns there vars a = fun_ext (λ n. bits-at s t g ns there (get_or vars n None) a)

chain-both : (o : Operator) (xs ys : List Bool) → chain_value o (xs ++ ys) ≡ operator_value o (chain_value o xs) (chain_value o ys)
chain-both operator.And [] ys = refl
chain-both operator.And (true ∷ xs) ys = chain-both operator.And xs ys
chain-both operator.And (false ∷ xs) ys = refl
chain-both operator.Or [] ys = refl
chain-both operator.Or (true ∷ xs) ys = refl
chain-both operator.Or (false ∷ xs) ys = chain-both operator.Or xs ys
chain-both operator.Xor [] ys = refl
chain-both operator.Xor (x ∷ xs) ys = ap (xor x) (chain-both operator.Xor xs ys) ∙ xor-assoc x (odd_of xs) (odd_of ys)

chain-one : (o : Operator) (y : Bool) → chain_value o (y ∷ []) ≡ y
chain-one operator.And y = and-last [] y
chain-one operator.Or y = or-last [] y
chain-one operator.Xor y = xor-last [] y

-- two halves of the operands
pub operands-both : (s t u v : Store) (st : Grows s t) (tu : Grows t u) (ns : List Node) (there : AreThere s.triples ns) (vars : List (Option Slot)) (o : Operator) (xs low high : List Expr) (left right r : ℕ) → xs ≡ low ++ high → IsNode t.triples left →
    ((a : Bits) → function_of t.triples left a ≡ chain_value o (map (expr_value a (variable_bits s.triples ns vars a)) low)) →
    ((a : Bits) → function_of u.triples right a ≡ chain_value o (map (expr_value a (variable_bits t.triples ns vars a)) high)) →
    ((a : Bits) → function_of v.triples r a ≡ operator_value o (function_of u.triples left a) (function_of u.triples right a)) →
    (a : Bits) → function_of v.triples r a ≡ chain_value o (map (expr_value a (variable_bits s.triples ns vars a)) xs)
operands-both s t u v st tu ns there vars o xs low high left right r parts is first second applied a =
    let F : Expr → Bool = expr_value a (variable_bits s.triples ns vars a) in
    applied a
    ∙ ap₂ (operator_value o)
    (grown-function t u tu left is a ∙ first a)
    (second a ∙ ap (λ b. chain_value o (map (expr_value a b) high)) (bits-still s t st ns there vars a))
    ∙ sym (ap (λ zs. chain_value o (map F zs)) parts ∙ ap (chain_value o) (map-append F low high) ∙ chain-both o (map F low) (map F high))

-- one operand
pub operands-one : (ts us : List Triple) (b : Bits → Bits) (o : Operator) (xs : List Expr) (x : Expr) (r : ℕ) → xs ≡ x ∷ [] → ((a : Bits) → function_of us r a ≡ expr_value a (b a) x) → (a : Bits) → function_of us r a ≡ chain_value o (map (expr_value a (b a)) xs)
operands-one ts us b o xs x r is made a = made a ∙ sym (ap (λ zs. chain_value o (map (expr_value a (b a)) zs)) is ∙ chain-one o (expr_value a (b a) x))

-- ---- variables

pub past : (vars : List (Option Slot)) (n : ℕ) → length vars ≤ n → get_or vars n None ≡ None
past [] n h = refl
past (o ∷ vars) zero h = absurd (omega arith)
past (o ∷ vars) (suc n) h = past vars n (omega arith)

pub within : (vars : List (Option Slot)) (n : ℕ) (d o : Option Slot) → n < length vars → o ≡ get_or vars n d → get_or vars n None ≡ o
within [] n d o h e = absurd (omega arith)
within (x ∷ vars) zero d o h e = sym e
within (x ∷ vars) (suc n) d o h e = within vars n d o (omega arith) e

pub variable-none : (ts : List Triple) (ns : List Node) (vars : List (Option Slot)) (n : ℕ) → get_or vars n None ≡ None → (a : Bits) → function_of ts 0 a ≡ variable_bits ts ns vars a n
variable-none ts ns vars n e a = function_of-zero ts a ∙ sym (ap (λ (o : Option Slot). option_map_or (λ (x : Slot). value_in ts ns x.0 a) o false) e)

pub variable-some : (ts : List Triple) (ns : List Node) (vars : List (Option Slot)) (n : ℕ) (s : Slot) (r : ℕ) → get_or vars n None ≡ Some s → function_of ts r ≡ value_in ts ns s.0 → (a : Bits) → function_of ts r a ≡ variable_bits ts ns vars a n
variable-some ts ns vars n s r e f a = ap (λ (g : Function). g a) f ∙ sym (ap (λ (o : Option Slot). option_map_or (λ (x : Slot). value_in ts ns x.0 a) o false) e)

pub value-index : (ts : List Triple) (ns : List Node) (x : ℕ) (d : Node) → x < length ns → function_of ts (get_or ns x d).0 ≡ value_in ts ns x
value-index ts [] x d h = absurd (omega arith)
value-index ts (n ∷ ns) zero d h = refl
value-index ts (n ∷ ns) (suc x) d h = value-index ts ns x d (omega arith)

pub value-past : (ts : List Triple) (ns : List Node) (x : ℕ) → length ns ≤ x → function_of ts 0 ≡ value_in ts ns x
value-past ts [] x h = fun_ext (λ p. function_of-zero ts p)
value-past ts (n ∷ ns) zero h = absurd (omega arith)
value-past ts (n ∷ ns) (suc x) h = value-past ts ns x (omega arith)

-- ---- the condition on nodes

fit-bits : (S : View) → IsGood S → (o : Option Slot) → IsFit S (λ p. option_map_or (λ (x : Slot). S.values x.0 p) o false)
fit-bits S good None = record { only = λ p q h. refl; kept = λ p. refl }
fit-bits S good (Some x) = record { only = (good.fit x.0).only; kept = (good.fit x.0).kept }

fit-value : (S : View) → IsGood S → (v : ℕ) (e : Expr) (bits : Bits → Bits) → in_scope S.constants v e ≡ true → ((n : ℕ) → IsFit S (λ p. bits p n)) → IsFit S (λ p. expr_value p (bits p) e)
fit-value S good v e bits scope fit = record {
  only = λ p q alike. depends S.constants v p q (bits p) (bits q) (λ k h. alike k (inl h)) (λ n h. (fit n).only p q alike) e scope;
  kept = λ p. depends S.constants v (back S p) p (bits (back S p)) (bits p) (λ k h. point_other S.stands p (λ x. S.values x p) k (constant_other S good k h)) (λ n h. (fit n).kept p) e scope;
}

pub value-argument-of : (s : Seen) → IsStore s → (vars : List (Option Slot)) (e : Expr) → in_scope s.constants (length vars) e ≡ true → IsFit (view_of s) (λ p. expr_value p (variable_bits s.nodes.triples s.slots vars p) e)
unfolding view_of
value-argument-of s st vars e scope = fit-value (view_of s) st.good (length vars) e (λ p. variable_bits s.nodes.triples s.slots vars p) scope (λ n. fit-bits (view_of s) st.good (get_or vars n None))

-- the node of an expression meets the condition in the grown store
pub expression-argument : (now s : Seen) (is : s ≡ now) (st : IsStore now) (t : Store) (g : Grows s.nodes t) (vars : List (Option Slot)) (e : Expr) (n : ℕ) → in_scope now.constants (length vars) e ≡ true → IsNode t.triples n →
    ((a : Bits) → function_of t.triples n a ≡ expr_value a (variable_bits s.nodes.triples s.slots vars a) e) → IsArgument (record s { nodes = t }) n
expression-argument now s is st t g vars e n scope w made = record {
  node = w;
  fit = subst (λ (f : Function). IsFit (view_of (record s { nodes = t })) f) (sym (fun_ext (λ p. made p)))
      (subst (λ (S : View). IsFit S (λ p. expr_value p (variable_bits s.nodes.triples s.slots vars p) e)) (sym (view-still s t g (store-inside now s is st).nodes))
      (value-argument-of s (store-inside now s is st) vars e (subst (λ (o : Seen). in_scope o.constants (length vars) e ≡ true) (sym is) scope)));
}

-- ---- a measure: the operators and leaves, with one more for each operator, and one for each operand

weight_step : Expr-F ℕ → ℕ
weight_step (Expr-F.Not n) = n + 1
weight_step (Expr-F.And ns) = sum ns + length ns + 1
weight_step (Expr-F.Xor ns) = sum ns + length ns + 1
weight_step (Expr-F.Or ns) = sum ns + length ns + 1
weight_step _ = 1

pub weight : Expr → ℕ
weight = fold-Expr ℕ weight_step

pub weight-not : (x e y : Expr) → e ≡ expr.Not x → y ≡ x → 2 * weight y < 2 * weight e
unfolding weight weight_step
weight-not x e y is same =
    let f : weight e ≡ weight x + 1 = ap weight is ∙ ap weight (sym (expr.rolls-Not x)) ∙ fold-roll-Expr ℕ weight_step (Expr-F.Not x) in
    omega (arith, f, ap weight same)

falls_to : (xs ys : List Expr) (n : ℕ) → ys ≡ xs → n ≡ sum (map weight xs) + length (map weight xs) + 1 → 2 * sum (map weight ys) + length ys < 2 * n
falls_to xs ys n same e = omega (arith, e, ap (λ l. sum (map weight l)) same, ap length same, length-map xs weight)

pub weight-and : (xs ys : List Expr) (e : Expr) → e ≡ expr.And xs → ys ≡ xs → 2 * sum (map weight ys) + length ys < 2 * weight e
unfolding weight weight_step
weight-and xs ys e is same = falls_to xs ys (weight e) same (ap weight is ∙ ap weight (sym (expr.rolls-And xs)) ∙ fold-roll-Expr ℕ weight_step (Expr-F.And xs))

pub weight-xor : (xs ys : List Expr) (e : Expr) → e ≡ expr.Xor xs → ys ≡ xs → 2 * sum (map weight ys) + length ys < 2 * weight e
unfolding weight weight_step
weight-xor xs ys e is same = falls_to xs ys (weight e) same (ap weight is ∙ ap weight (sym (expr.rolls-Xor xs)) ∙ fold-roll-Expr ℕ weight_step (Expr-F.Xor xs))

pub weight-or : (xs ys : List Expr) (e : Expr) → e ≡ expr.Or xs → ys ≡ xs → 2 * sum (map weight ys) + length ys < 2 * weight e
unfolding weight weight_step
weight-or xs ys e is same = falls_to xs ys (weight e) same (ap weight is ∙ ap weight (sym (expr.rolls-Or xs)) ∙ fold-roll-Expr ℕ weight_step (Expr-F.Or xs))

pub weight-at : (es : List Expr) (i : ℕ) (e : Expr) → i < length es → e ≡ get_or es i e → 2 * weight e < 2 * sum (map weight es) + length es
weight-at es i e lt is = omega (arith, sum-map weight es, sum_by_more_le weight es i e lt, ap weight is)

-- the halves of a list
weight-parts : (xs : List Expr) (k : ℕ) → sum (map weight (take k xs)) + sum (map weight (drop k xs)) ≡ sum (map weight xs)
weight-parts xs k = omega (arith, sum-map weight xs, sum-map weight (take k xs), sum-map weight (drop k xs), sum_by-append weight (take k xs) (drop k xs), ap (λ ys. sum_by weight ys) (take-append-drop k xs))

pub weight-low : (xs : List Expr) (k : ℕ) → k < length xs → 2 * sum (map weight (take k xs)) + length (take k xs) < 2 * sum (map weight xs) + length xs
weight-low xs k h = let r = weight-parts xs k in omega (arith, length-take-le k xs (let le : k ≤ length xs = omega arith in le))

pub weight-high : (xs : List Expr) (k : ℕ) → 0 < k → k ≤ length xs → 2 * sum (map weight (drop k xs)) + length (drop k xs) < 2 * sum (map weight xs) + length xs
weight-high xs k pos h = let r = weight-parts xs k in omega (arith, length-drop k xs)

-- the parts of a list as the code takes them
pub half-some : (n : ℕ) → 2 ≤ n → 0 < n / 2
half-some n h = omega arith

pub half-less : (n : ℕ) → 2 ≤ n → n / 2 < n
half-less n h = omega arith

pub parts-are : (xs : List Expr) (k : ℕ) → xs ≡ take k xs ++ take (length xs - k) (drop k xs)
parts-are xs k = sym (ap (λ ys. take k xs ++ ys) (ap (λ n. take n (drop k xs)) (sym (length-drop k xs)) ∙ take-length (drop k xs)) ∙ take-append-drop k xs)

pub high-is : (xs : List Expr) (k : ℕ) → take (length xs - k) (drop k xs) ≡ drop k xs
high-is xs k = ap (λ n. take n (drop k xs)) (sym (length-drop k xs)) ∙ take-length (drop k xs)

pub single : (xs : List Expr) (x : Expr) → 1 ≤ length xs → length xs < 2 → x ≡ get_or xs 0 x → xs ≡ x ∷ []
single [] x h less e = absurd (omega arith)
single (y ∷ []) x h less e = ap (λ z. z ∷ []) (sym e)
single (y ∷ (z ∷ zs)) x h less e = absurd (omega arith)
