-- The nodes of expressions, operand by operand.
use Rattle.std.proofs.Common.{◌≡◌, ℕ, zero, suc, ◌+◌, ◌-◌, ◌*◌, ◌^◌, ◌<◌, ◌≤◌, Bool, true, false, ◌&&◌, nat_lt, List, [], ◌∷◌, ◌++◌, map, length, get_or, take, sum, sym, ◌∙◌, ap, subst, arith, inl, inr}
use Rattle.std.proofs.lemmas.List.{map_push, length-map, get_or-map, map_more}
use Rattle.std.proofs.lemmas.List.Sums.{sum-map, sum_by_more, sum_by_more_le}
use Rattle.std.proofs.lemmas.Bool.{false≢true, cases_Bool}
use Rattle.std.proofs.lemmas.Bool.Decides.{nat_tests}
use Rattle.cb_model.specs.declared.Expr.{Expr}
use Rattle.cb_model.specs.declared.Expr.TheOpen.{Expr-F}
use Rattle.cb_model.specs.declared.Expr.TheVariants as expr
use Rattle.cb_model.specs.declared.Expr.TheFolds.{fold-Expr, fold-roll-Expr}
use Rattle.cb_model.specs.Bits.{Bits, bits_of, all_of}
use Rattle.cb_model.specs.Values.{expr_step, expr_value, in_scope_step, in_scope}
use Rattle.cb_model.specs.Room.{expr_size_step, expr_size}
use Rattle.cb_dd.specs.declared.Node.{Node}
use Rattle.cb_dd.specs.declared.Triple.{Triple}
use Rattle.cb_dd.specs.Diagram.{Store, function_of}
use Rattle.cb_dd.proofs.Diagrams.{function_of-zero, function_of-one}
use Rattle.cb_ops.specs.Ops.{Grows}
use Rattle.cb_verify.specs.Nodes.{AreNodes, node_bits, DependOn, Adds}
use Rattle.cb_verify.proofs.Kept.{node_bits-kept, node_bits-agree, DependOn-kept}
use Rattle.cb_verify.proofs.Chains.{Adds-within}
use Rattle.cb_verify.proofs.Nets.{depend-by}

-- ---- the equations of a value, a size and a scope

module _ (a b : Bits) where
  value-zero : expr_value a b expr.Zero ≡ false
  value-zero = ap (expr_value a b) (sym expr.rolls-Zero) ∙ fold-roll-Expr Bool (expr_step a b) Expr-F.Zero

  value-one : expr_value a b expr.One ≡ true
  value-one = ap (expr_value a b) (sym expr.rolls-One) ∙ fold-roll-Expr Bool (expr_step a b) Expr-F.One

  value-var : (n : ℕ) → expr_value a b (expr.Var n) ≡ b n
  value-var n = ap (expr_value a b) (sym (expr.rolls-Var n)) ∙ fold-roll-Expr Bool (expr_step a b) (Expr-F.Var n)

scope-var : (v n : ℕ) → in_scope 0 v (expr.Var n) ≡ nat_lt n v
scope-var v n = ap (in_scope 0 v) (sym (expr.rolls-Var n)) ∙ fold-roll-Expr Bool (in_scope_step 0 v) (Expr-F.Var n)

size-not : (x : Expr) → expr_size (expr.Not x) ≡ expr_size x + 1
size-not x = ap expr_size (sym (expr.rolls-Not x)) ∙ fold-roll-Expr ℕ expr_size_step (Expr-F.Not x)

pub size-and : (xs : List Expr) → expr_size (expr.And xs) ≡ sum (map expr_size xs) + (length (map expr_size xs) - 1)
size-and xs = ap expr_size (sym (expr.rolls-And xs)) ∙ fold-roll-Expr ℕ expr_size_step (Expr-F.And xs)

pub size-xor : (xs : List Expr) → expr_size (expr.Xor xs) ≡ sum (map expr_size xs) + (length (map expr_size xs) - 1)
size-xor xs = ap expr_size (sym (expr.rolls-Xor xs)) ∙ fold-roll-Expr ℕ expr_size_step (Expr-F.Xor xs)

pub size-or : (xs : List Expr) → expr_size (expr.Or xs) ≡ sum (map expr_size xs) + (length (map expr_size xs) - 1)
size-or xs = ap expr_size (sym (expr.rolls-Or xs)) ∙ fold-roll-Expr ℕ expr_size_step (Expr-F.Or xs)

-- ---- leaves

pub zero-function : (ts : List Triple) (b : Bits → Bits) (e : Expr) → e ≡ expr.Zero → (a : Bits) → function_of ts 0 a ≡ expr_value (bits_of []) (b a) e
zero-function ts b e is a = function_of-zero ts a ∙ sym (value-zero (bits_of []) (b a)) ∙ ap (expr_value (bits_of []) (b a)) (sym is)

pub one-function : (ts : List Triple) (b : Bits → Bits) (e : Expr) → e ≡ expr.One → (a : Bits) → function_of ts 1 a ≡ expr_value (bits_of []) (b a) e
one-function ts b e is a = function_of-one ts a ∙ sym (value-one (bits_of []) (b a)) ∙ ap (expr_value (bits_of []) (b a)) (sym is)

-- a variable in scope has a node
pub var-within : (v n : ℕ) (e : Expr) → e ≡ expr.Var n → in_scope 0 v e ≡ true → n < v
var-within v n e is h = let k : nat_lt n v ≡ true = sym (scope-var v n) ∙ ap (in_scope 0 v) (sym is) ∙ h in grind (arith, nat_tests)

pub var-function : (ts : List Triple) (ns : List Node) (n : ℕ) (e : Expr) → e ≡ expr.Var n → n < length ns
    → (a : Bits) → function_of ts (get_or ns n (record { 0 = 0 })).0 a ≡ expr_value (bits_of []) (bits_of (node_bits ts ns a)) e
var-function ts ns n e is h a =
    sym (get_or-map (λ m. function_of ts m.0 a) ns n (record { 0 = 0 }) false h) ∙ sym (value-var (bits_of []) (bits_of (node_bits ts ns a)) n)
    ∙ ap (expr_value (bits_of []) (bits_of (node_bits ts ns a))) (sym is)

-- ---- operations

-- what depends on the inputs' nodes by the values of expressions depends on their levels
pub operands-depend : (s t : Store) (inputs ns : List Node) (es : List Expr)
    → ((a : Bits) → node_bits t.triples ns a ≡ map (expr_value (bits_of []) (bits_of (node_bits s.triples inputs a))) es)
    → (ls : List ℕ) → DependOn s.triples inputs ls → DependOn t.triples ns ls
operands-depend s t inputs ns es is ls d =
    depend-by t.triples ns ls (λ a b e. is a ∙ ap (λ v. map (expr_value (bits_of []) (bits_of v)) es) (node_bits-agree s.triples inputs ls a b d e) ∙ sym (is b))

-- some operations, and then others on what they gave
pub then-room : (s t u : Store) (inputs ns : List Node) (j k : ℕ) → ((ls : List ℕ) → DependOn s.triples inputs ls → DependOn t.triples ns ls)
    → Adds s t j inputs → Adds t u k ns → Adds s u (j + k) inputs
then-room s t u inputs ns j k depend one two = record {
  most = λ ls d.
      let a : length t.triples ≤ length s.triples + j * (2 * 2 ^ length ls) = one.most ls d in
      let b : length u.triples ≤ length t.triples + k * (2 * 2 ^ length ls) = two.most ls (depend ls d) in
      omega (arith, a, b);
}

pub same-room : (s t : Store) (j k : ℕ) (ns : List Node) → j ≡ k → Adds s t j ns → Adds s t k ns
same-room s t j k ns e h = let P : ℕ → Type 0 = λ n. Adds s t n ns in subst P e h

-- the complement of an expression
pub not-room : (s t u : Store) (inputs : List Node) (x e y : Expr) (n : Node) → e ≡ expr.Not x → y ≡ x
    → ((a : Bits) → function_of t.triples n.0 a ≡ expr_value (bits_of []) (bits_of (node_bits s.triples inputs a)) y)
    → Adds s t (expr_size y) inputs → Adds t u 1 (n ∷ []) → Adds s u (expr_size e) inputs
not-room s t u inputs x e y n is same made one two =
    same-room s u (expr_size y + 1) (expr_size e) inputs
    (ap (λ z. expr_size z + 1) same ∙ sym (size-not x) ∙ ap expr_size (sym is))
    (then-room s t u inputs (n ∷ []) (expr_size y) 1
    (operands-depend s t inputs (n ∷ []) (y ∷ []) (λ a j. made a j ∷ [])) one two)

-- the operations of a chain of expressions
pub chain-size : (s t : Store) (inputs : List Node) (xs ys : List Expr) (size : ℕ) → ys ≡ xs → size ≡ sum (map expr_size xs) + (length (map expr_size xs) - 1)
    → Adds s t (sum (map expr_size ys) + (length ys - 1)) inputs → Adds s t size inputs
chain-size s t inputs xs ys size same e h = same-room s t (sum (map expr_size ys) + (length ys - 1)) size inputs (omega (arith, e, ap (λ l. sum (map expr_size l)) same, ap length same, length-map xs expr_size)) h

-- ---- one expression more

-- each expression is in scope
pub scope-at : (v : ℕ) (es : List Expr) (i : ℕ) (e : Expr) → all_of (map (in_scope 0 v) es) ≡ true → i < length es → e ≡ get_or es i e → in_scope 0 v e ≡ true
scope-at v [] i e h l is = absurd (omega arith)
scope-at v (x ∷ xs) zero e h l is = elim (cases_Bool (in_scope 0 v x)) [
  | inl yes_it ↦ ap (in_scope 0 v) is ∙ yes_it
  | inr no_it ↦ absurd (false≢true (sym (ap (λ b. b && all_of (map (in_scope 0 v) xs)) no_it) ∙ h))
]
scope-at v (x ∷ xs) (suc i) e h l is = elim (cases_Bool (in_scope 0 v x)) [
  | inl yes_it ↦ scope-at v xs i e (sym (ap (λ b. b && all_of (map (in_scope 0 v) xs)) yes_it) ∙ h) (omega arith) is
  | inr no_it ↦ absurd (false≢true (sym (ap (λ b. b && all_of (map (in_scope 0 v) xs)) no_it) ∙ h))
]

module _ (s t u : Store) (st : Grows s t) (tu : Grows t u) (inputs : List Node) (are : AreNodes s.triples inputs) (ns : List Node) (es : List Expr) (i : ℕ) (lt : i < length es) (e : Expr) (is : e ≡ get_or es i e) where
  -- its node has its value
  pub operand-values : AreNodes t.triples ns
      → ((a : Bits) → node_bits t.triples ns a ≡ map (expr_value (bits_of []) (bits_of (node_bits s.triples inputs a))) (take i es))
      → (n : Node) → ((a : Bits) → function_of u.triples n.0 a ≡ expr_value (bits_of []) (bits_of (node_bits t.triples inputs a)) e)
      → (a : Bits) → node_bits u.triples (ns ++ n ∷ []) a ≡ map (expr_value (bits_of []) (bits_of (node_bits s.triples inputs a))) (take (i + 1) es)
  operand-values nodes values n made a =
      let F : Expr → Bool = expr_value (bits_of []) (bits_of (node_bits s.triples inputs a)) in
      let front : node_bits u.triples ns a ≡ map F (take i es) = node_bits-kept t u tu ns nodes a ∙ values a in
      let last : function_of u.triples n.0 a ≡ F (get_or es i e) = made a ∙ ap (λ v. expr_value (bits_of []) (bits_of v) e) (node_bits-kept s t st inputs are a) ∙ ap F is in
      map_push (λ m. function_of u.triples m.0 a) ns n ∙ (λ j. front j ++ last j ∷ []) ∙ sym (map_more F es i e lt)

  more_size : sum (map expr_size (take (i + 1) es)) ≡ sum (map expr_size (take i es)) + expr_size e
  more_size = sum-map expr_size (take (i + 1) es) ∙ sum_by_more expr_size es i e lt ∙ (λ j. sym (sum-map expr_size (take i es)) j + expr_size (sym is j))

  -- its operations are added
  pub operand-room : Adds s t (sum (map expr_size (take i es))) inputs → Adds t u (expr_size e) inputs → Adds s u (sum (map expr_size (take (i + 1) es))) inputs
  operand-room one two =
      same-room s u (sum (map expr_size (take i es)) + expr_size e) (sum (map expr_size (take (i + 1) es))) inputs (sym more_size)
      (then-room s t u inputs inputs (sum (map expr_size (take i es))) (expr_size e) (DependOn-kept s t st inputs are) one two)

  -- they are within those of all expressions
  pub operands-within : Adds s t (sum (map expr_size (take i es))) inputs → Adds t u (expr_size e) inputs → Adds s u (sum (map expr_size es)) inputs
  operands-within one two =
      let within : sum (map expr_size (take (i + 1) es)) ≤ sum (map expr_size es) =
      omega (arith, more_size, sum-map expr_size (take i es), sum-map expr_size es, sum_by_more_le expr_size es i e lt, ap expr_size is) in
      Adds-within s u (sum (map expr_size (take (i + 1) es))) (sum (map expr_size es)) inputs within (operand-room one two)

-- ---- a measure: the operators and leaves, with one more for each operator, and one for each operand

weight_step : Expr-F ℕ → ℕ
weight_step (Expr-F.Not n) = n + 1
weight_step (Expr-F.And ns) = sum ns + length ns + 1
weight_step (Expr-F.Xor ns) = sum ns + length ns + 1
weight_step (Expr-F.Or ns) = sum ns + length ns + 1
weight_step _ = 1

pub weight : Expr → ℕ
weight = fold-Expr ℕ weight_step

pub weight-not : (x e y : Expr) → e ≡ expr.Not x → y ≡ x → 2 * weight y < 2 * weight e
unfolding weight weight_step
weight-not x e y is same =
    let f : weight e ≡ weight x + 1 = ap weight is ∙ ap weight (sym (expr.rolls-Not x)) ∙ fold-roll-Expr ℕ weight_step (Expr-F.Not x) in
    omega (arith, f, ap weight same)

falls_to : (xs ys : List Expr) (n : ℕ) → ys ≡ xs → n ≡ sum (map weight xs) + length (map weight xs) + 1 → 2 * sum (map weight ys) + length ys < 2 * n
falls_to xs ys n same e = omega (arith, e, ap (λ l. sum (map weight l)) same, ap length same, length-map xs weight)

pub weight-and : (xs ys : List Expr) (e : Expr) → e ≡ expr.And xs → ys ≡ xs → 2 * sum (map weight ys) + length ys < 2 * weight e
unfolding weight weight_step
weight-and xs ys e is same = falls_to xs ys (weight e) same (ap weight is ∙ ap weight (sym (expr.rolls-And xs)) ∙ fold-roll-Expr ℕ weight_step (Expr-F.And xs))

pub weight-xor : (xs ys : List Expr) (e : Expr) → e ≡ expr.Xor xs → ys ≡ xs → 2 * sum (map weight ys) + length ys < 2 * weight e
unfolding weight weight_step
weight-xor xs ys e is same = falls_to xs ys (weight e) same (ap weight is ∙ ap weight (sym (expr.rolls-Xor xs)) ∙ fold-roll-Expr ℕ weight_step (Expr-F.Xor xs))

pub weight-or : (xs ys : List Expr) (e : Expr) → e ≡ expr.Or xs → ys ≡ xs → 2 * sum (map weight ys) + length ys < 2 * weight e
unfolding weight weight_step
weight-or xs ys e is same = falls_to xs ys (weight e) same (ap weight is ∙ ap weight (sym (expr.rolls-Or xs)) ∙ fold-roll-Expr ℕ weight_step (Expr-F.Or xs))

-- one of the expressions weighs at most as much as all
pub weight-at : (es : List Expr) (i : ℕ) (e : Expr) → i < length es → e ≡ get_or es i e → 2 * weight e < 2 * sum (map weight es) + length es
weight-at es i e lt is = omega (arith, sum-map weight es, sum_by_more_le weight es i e lt, ap weight is)

-- ---- scopes

scope-not : (v : ℕ) (x : Expr) → in_scope 0 v (expr.Not x) ≡ in_scope 0 v x
scope-not v x = ap (in_scope 0 v) (sym (expr.rolls-Not x)) ∙ fold-roll-Expr Bool (in_scope_step 0 v) (Expr-F.Not x)

pub not-scope : (v : ℕ) (x e y : Expr) → e ≡ expr.Not x → y ≡ x → in_scope 0 v e ≡ true → in_scope 0 v y ≡ true
not-scope v x e y is same h = ap (in_scope 0 v) same ∙ sym (scope-not v x) ∙ ap (in_scope 0 v) (sym is) ∙ h

pub and-scope : (v : ℕ) (xs ys : List Expr) (e : Expr) → e ≡ expr.And xs → ys ≡ xs → in_scope 0 v e ≡ true → all_of (map (in_scope 0 v) ys) ≡ true
and-scope v xs ys e is same h = ap (λ l. all_of (map (in_scope 0 v) l)) same ∙ sym (ap (in_scope 0 v) (sym (expr.rolls-And xs)) ∙ fold-roll-Expr Bool (in_scope_step 0 v) (Expr-F.And xs)) ∙ ap (in_scope 0 v) (sym is) ∙ h

pub xor-scope : (v : ℕ) (xs ys : List Expr) (e : Expr) → e ≡ expr.Xor xs → ys ≡ xs → in_scope 0 v e ≡ true → all_of (map (in_scope 0 v) ys) ≡ true
xor-scope v xs ys e is same h = ap (λ l. all_of (map (in_scope 0 v) l)) same ∙ sym (ap (in_scope 0 v) (sym (expr.rolls-Xor xs)) ∙ fold-roll-Expr Bool (in_scope_step 0 v) (Expr-F.Xor xs)) ∙ ap (in_scope 0 v) (sym is) ∙ h

pub or-scope : (v : ℕ) (xs ys : List Expr) (e : Expr) → e ≡ expr.Or xs → ys ≡ xs → in_scope 0 v e ≡ true → all_of (map (in_scope 0 v) ys) ≡ true
or-scope v xs ys e is same h = ap (λ l. all_of (map (in_scope 0 v) l)) same ∙ sym (ap (in_scope 0 v) (sym (expr.rolls-Or xs)) ∙ fold-roll-Expr Bool (in_scope_step 0 v) (Expr-F.Or xs)) ∙ ap (in_scope 0 v) (sym is) ∙ h
