-- Trees with their sorts, by the equations of their constructors; orders and what nets carry, by cases.
use Rattle.std.proofs.Common.{◌≡◌, ℕ, zero, suc, ◌<◌, Bool, true, false, not, List, [], ◌∷◌, map, refl, sym, ◌∙◌, ap, subst, arith, ℤ}
use Rattle.std.specs.Prelude.{Option, Some, Contains, get_or, slice_get}
use Rattle.cb_model.specs.declared.Sort.{Sort}
use Rattle.cb_model.specs.declared.Expr.{Expr}
use Rattle.cb_model.specs.declared.Expr.TheVariants as expr
use Rattle.cb_model.specs.declared.Expr.TheOpen.{Expr-F}
use Rattle.cb_model.specs.declared.Expr.TheFolds.{fold-roll-Expr}
use Rattle.cb_model.specs.declared.Tree.{Tree}
use Rattle.cb_model.specs.declared.Tree.TheVariants as tree
use Rattle.cb_model.specs.declared.Tree.TheOpen.{Tree-F}
use Rattle.cb_model.specs.declared.Tree.TheFolds.{fold-roll-Tree}
use Rattle.cb_model.specs.Sorted.{are_boolean, are_boolean_step, variables_fit, variables_fit_step, tree_sort, tree_sort_step, chains_fit, chains_fit_step, operands_fit, operands_fit_step}
use Rattle.cb_model.specs.Order.{IsGraph, IsOrder, HasCycle, Leads, feeds, leads_on, CanCome}
use Rattle.cb_model.specs.declared.GateKind.{GateKind}
use Rattle.cb_model.specs.declared.GateKind.TheVariants as gates
use Rattle.cb_model.specs.Circuits.{Net, In, Own, gate_value}
use Rattle.cb_model.specs.Carry.{Carries, input, gate, AllCarry, none, more, IsTotal}
use Rattle.cb_laws.proofs.SortedTrees.{args-leaf, args-bus, args-term, args-int, args-node}
use Rattle.cb_rows.specs.SortedExamples.{graph, two_inverters, turning, SortedExamples}

-- ---- one layer of each

module _ (ss : List Sort) where
  boolean-one : are_boolean ss expr.One ≡ are_boolean_step ss Expr-F.One
  boolean-one = ap (are_boolean ss) (sym expr.rolls-One) ∙ fold-roll-Expr Bool (are_boolean_step ss) Expr-F.One

  boolean-var : (n : ℕ) → are_boolean ss (expr.Var n) ≡ are_boolean_step ss (Expr-F.Var n)
  boolean-var n = ap (are_boolean ss) (sym (expr.rolls-Var n)) ∙ fold-roll-Expr Bool (are_boolean_step ss) (Expr-F.Var n)

  boolean-not : (e : Expr) → are_boolean ss (expr.Not e) ≡ are_boolean_step ss (Expr-F.Not (are_boolean ss e))
  boolean-not e = ap (are_boolean ss) (sym (expr.rolls-Not e)) ∙ fold-roll-Expr Bool (are_boolean_step ss) (Expr-F.Not e)

  boolean-and : (es : List Expr) → are_boolean ss (expr.And es) ≡ are_boolean_step ss (Expr-F.And (map (are_boolean ss) es))
  boolean-and es = ap (are_boolean ss) (sym (expr.rolls-And es)) ∙ fold-roll-Expr Bool (are_boolean_step ss) (Expr-F.And es)

  fit-leaf : (e : Expr) → variables_fit ss (tree.Leaf e) ≡ variables_fit_step ss (Tree-F.Leaf e)
  fit-leaf e = ap (variables_fit ss) (sym (tree.rolls-Leaf e)) ∙ fold-roll-Tree Bool (variables_fit_step ss) (Tree-F.Leaf e)

  fit-bus : (es : List Expr) (t : Option ℕ) → variables_fit ss (tree.Bus es t) ≡ variables_fit_step ss (Tree-F.Bus es t)
  fit-bus es t = ap (variables_fit ss) (sym (tree.rolls-Bus es t)) ∙ fold-roll-Tree Bool (variables_fit_step ss) (Tree-F.Bus es t)

  fit-term : (n : ℕ) → variables_fit ss (tree.Var n) ≡ variables_fit_step ss (Tree-F.Var n)
  fit-term n = ap (variables_fit ss) (sym (tree.rolls-Var n)) ∙ fold-roll-Tree Bool (variables_fit_step ss) (Tree-F.Var n)

  fit-node : (n : ℕ) (ts : List Tree) → variables_fit ss (tree.Node n ts) ≡ variables_fit_step ss (Tree-F.Node n (map (variables_fit ss) ts))
  fit-node n ts = ap (variables_fit ss) (sym (tree.rolls-Node n ts)) ∙ fold-roll-Tree Bool (variables_fit_step ss) (Tree-F.Node n ts)

sort-leaf : (e : Expr) → tree_sort (tree.Leaf e) ≡ tree_sort_step (Tree-F.Leaf e)
sort-leaf e = ap tree_sort (sym (tree.rolls-Leaf e)) ∙ fold-roll-Tree Sort tree_sort_step (Tree-F.Leaf e)

sort-bus : (es : List Expr) (t : Option ℕ) → tree_sort (tree.Bus es t) ≡ tree_sort_step (Tree-F.Bus es t)
sort-bus es t = ap tree_sort (sym (tree.rolls-Bus es t)) ∙ fold-roll-Tree Sort tree_sort_step (Tree-F.Bus es t)

sort-term : (n : ℕ) → tree_sort (tree.Var n) ≡ tree_sort_step (Tree-F.Var n)
sort-term n = ap tree_sort (sym (tree.rolls-Var n)) ∙ fold-roll-Tree Sort tree_sort_step (Tree-F.Var n)

sort-int : (z : ℤ) → tree_sort (tree.Int z) ≡ tree_sort_step (Tree-F.Int z)
sort-int z = ap tree_sort (sym (tree.rolls-Int z)) ∙ fold-roll-Tree Sort tree_sort_step (Tree-F.Int z)

sort-node : (n : ℕ) (ts : List Tree) → tree_sort (tree.Node n ts) ≡ tree_sort_step (Tree-F.Node n (map tree_sort ts))
sort-node n ts = ap tree_sort (sym (tree.rolls-Node n ts)) ∙ fold-roll-Tree Sort tree_sort_step (Tree-F.Node n ts)

chain-one : chains_fit expr.One ≡ chains_fit_step Expr-F.One
chain-one = ap chains_fit (sym expr.rolls-One) ∙ fold-roll-Expr Bool chains_fit_step Expr-F.One

chain-var : (n : ℕ) → chains_fit (expr.Var n) ≡ chains_fit_step (Expr-F.Var n)
chain-var n = ap chains_fit (sym (expr.rolls-Var n)) ∙ fold-roll-Expr Bool chains_fit_step (Expr-F.Var n)

chain-not : (e : Expr) → chains_fit (expr.Not e) ≡ chains_fit_step (Expr-F.Not (chains_fit e))
chain-not e = ap chains_fit (sym (expr.rolls-Not e)) ∙ fold-roll-Expr Bool chains_fit_step (Expr-F.Not e)

chain-and : (es : List Expr) → chains_fit (expr.And es) ≡ chains_fit_step (Expr-F.And (map chains_fit es))
chain-and es = ap chains_fit (sym (expr.rolls-And es)) ∙ fold-roll-Expr Bool chains_fit_step (Expr-F.And es)

chain-xor : (es : List Expr) → chains_fit (expr.Xor es) ≡ chains_fit_step (Expr-F.Xor (map chains_fit es))
chain-xor es = ap chains_fit (sym (expr.rolls-Xor es)) ∙ fold-roll-Expr Bool chains_fit_step (Expr-F.Xor es)

chain-or : (es : List Expr) → chains_fit (expr.Or es) ≡ chains_fit_step (Expr-F.Or (map chains_fit es))
chain-or es = ap chains_fit (sym (expr.rolls-Or es)) ∙ fold-roll-Expr Bool chains_fit_step (Expr-F.Or es)

operands-leaf : (e : Expr) → operands_fit (tree.Leaf e) ≡ operands_fit_step (Tree-F.Leaf e)
operands-leaf e = ap operands_fit (sym (tree.rolls-Leaf e)) ∙ fold-roll-Tree Bool operands_fit_step (Tree-F.Leaf e)

operands-bus : (es : List Expr) (t : Option ℕ) → operands_fit (tree.Bus es t) ≡ operands_fit_step (Tree-F.Bus es t)
operands-bus es t = ap operands_fit (sym (tree.rolls-Bus es t)) ∙ fold-roll-Tree Bool operands_fit_step (Tree-F.Bus es t)

operands-node : (n : ℕ) (ts : List Tree) → operands_fit (tree.Node n ts) ≡ operands_fit_step (Tree-F.Node n (map operands_fit ts))
operands-node n ts = ap operands_fit (sym (tree.rolls-Node n ts)) ∙ fold-roll-Tree Bool operands_fit_step (Tree-F.Node n ts)

ruleset variable_layers = (boolean-one, boolean-var, boolean-not, boolean-and, fit-leaf, fit-bus, fit-term, fit-node)

ruleset sort_layers = (sort-leaf, sort-bus, sort-term, sort-int, sort-node)

ruleset argument_layers = (args-leaf, args-bus, args-term, args-int, args-node)

ruleset chain_layers = (chain-one, chain-var, chain-not, chain-and, chain-xor, chain-or, operands-leaf, operands-bus, operands-node)

-- ---- orders

none_in : (n : ℕ) → Contains [] n → ⊥
none_in n h = absurd (omega (arith, h.1))

one_in : (m n : ℕ) → Contains (m ∷ []) n → m ≡ n
one_in m n (zero, l, e) = e
one_in m n (suc k, l, e) = absurd (omega arith)

-- what the items of the graph need
needs : (i n : ℕ) → Contains (Rattle.cb_model.specs.Order.needs_of graph i) n → (i ≡ 2) × (n ≡ 0)
needs zero n h = absurd (none_in n h)
needs (suc zero) n h = absurd (none_in n h)
needs (suc (suc zero)) n h = (refl, sym (one_in 0 n h))
needs (suc (suc (suc i))) n h = absurd (none_in n h)

can_one : CanCome graph [] 0
can_one = record { within = omega arith; new = none_in 0; needs = λ n h. absurd (none_in n h) }

can_two : CanCome graph (0 ∷ []) 1
can_two = record { within = omega arith; new = λ h. (let e = one_in 0 1 h in absurd (cc)); needs = λ n h. absurd (none_in n h) }

can_three : CanCome graph (0 ∷ 1 ∷ []) 2
can_three = record { within = omega arith; new = not_two; needs = λ n h. (0, omega arith, sym (needs 2 n h).1) }
  where
    not_two : Contains {X = ℕ} (0 ∷ 1 ∷ []) 2 → ⊥
    not_two (zero, l, e) = absurd (cc)
    not_two (suc zero, l, e) = absurd (cc)
    not_two (suc (suc k), l, e) = absurd (omega arith)

is_ordered : IsOrder graph (0 ∷ 1 ∷ 2 ∷ [])
is_ordered = record { follows = (can_one, (λ j l c. absurd (omega arith)), (can_two, below_two, (can_three, below_three, tt))); all = all_there }
  where
    below_two : (j : ℕ) → j < 1 → CanCome graph (0 ∷ []) j → ⊥
    below_two zero l c = c.new (0, omega arith, refl)
    below_two (suc j) l c = absurd (omega arith)

    below_three : (j : ℕ) → j < 2 → CanCome graph (0 ∷ 1 ∷ []) j → ⊥
    below_three zero l c = c.new (0, omega arith, refl)
    below_three (suc zero) l c = c.new (1, omega arith, refl)
    below_three (suc (suc j)) l c = absurd (omega arith)

    all_there : (i : ℕ) → i < 3 → Contains {X = ℕ} (0 ∷ 1 ∷ 2 ∷ []) i
    all_there zero l = (0, omega arith, refl)
    all_there (suc zero) l = (1, omega arith, refl)
    all_there (suc (suc zero)) l = (2, omega arith, refl)
    all_there (suc (suc (suc i))) l = absurd (omega arith)

not_in_two : Contains {X = ℕ} (0 ∷ 1 ∷ []) 2 → ⊥
not_in_two (zero, l, e) = absurd (cc)
not_in_two (suc zero, l, e) = absurd (cc)
not_in_two (suc (suc k), l, e) = absurd (omega arith)

graph_is : IsGraph graph
graph_is i n h = let e = needs i n h in omega (arith, e.1)

-- an item that leads to another needs none
leads_from : (i j : ℕ) → Leads graph i j → (i ≡ 0) × (j ≡ 2)
leads_from i j (feeds h) = let e = needs j i h in (e.1, e.0)
leads_from i k (leads_on j h l) =
    let e = needs j i h in
    let f = leads_from j k l in
    let wrong : 2 ≡ 0 = sym e.0 ∙ f.0 in absurd (omega (arith, wrong))

no_round : HasCycle graph → ⊥
no_round h = let e = leads_from h.0 h.0 h.1 in let wrong : 2 ≡ 0 = sym e.1 ∙ e.0 in omega (arith, wrong)

-- ---- what nets carry

inner_gate : (x : Bool) → Carries two_inverters (x ∷ []) (Own 1) (not x)
inner_gate x = gate _ (x ∷ []) refl (more (input (omega arith) refl) none) refl

outer_gate : (x : Bool) → Carries two_inverters (x ∷ []) (Own 0) (not (not x))
outer_gate x = gate _ (not x ∷ []) refl (more (inner_gate x) none) refl

-- what each net carries where the input is 1
abbrev IsRight : Net → Bool → Type 0
IsRight (In zero) b = b ≡ true
IsRight (In (suc i)) b = ⊥
IsRight (Own zero) b = b ≡ true
IsRight (Own (suc zero)) b = b ≡ false
IsRight (Own (suc (suc k))) b = ⊥

abbrev AreRight : List Net → List Bool → Type 0
AreRight [] [] = Unit {0}
AreRight (n ∷ ns) (b ∷ bs) = IsRight n b × AreRight ns bs
AreRight _ _ = ⊥

first_value : (bs : List Bool) (b : Bool) → AreRight (Own 1 ∷ []) bs → b ≡ gate_value gates.Not bs → b ≡ true
first_value [] b h e = absurd h
first_value (c ∷ []) b h e = e ∙ ap not h.0
first_value (c ∷ d ∷ ds) b h e = absurd h.1

second_value : (bs : List Bool) (b : Bool) → AreRight (In 0 ∷ []) bs → b ≡ gate_value gates.Not bs → b ≡ false
second_value [] b h e = absurd h
second_value (c ∷ []) b h e = e ∙ ap not h.0
second_value (c ∷ d ∷ ds) b h e = absurd h.1

gate_right : (k : ℕ) (g : GateKind × List Net) (bs : List Bool) (b : Bool) → slice_get two_inverters.gates k ≡ Some g → AreRight g.1 bs → b ≡ gate_value g.0 bs → IsRight (Own k) b
gate_right zero g bs b at h e =
    let is : ◌≡◌ {A = GateKind × List Net} g (gates.Not, Own 1 ∷ []) = cc in
    first_value bs b (subst (λ (x : GateKind × List Net). AreRight x.1 bs) is h) (subst (λ (x : GateKind × List Net). b ≡ gate_value x.0 bs) is e)
gate_right (suc zero) g bs b at h e =
    let is : ◌≡◌ {A = GateKind × List Net} g (gates.Not, In 0 ∷ []) = cc in
    second_value bs b (subst (λ (x : GateKind × List Net). AreRight x.1 bs) is h) (subst (λ (x : GateKind × List Net). b ≡ gate_value x.0 bs) is e)
gate_right (suc (suc k)) g bs b at h e = absurd (cc)

input_right : (i : ℕ) (b : Bool) → i < 1 → b ≡ get_or (true ∷ []) i false → IsRight (In i) b
input_right zero b l e = e
input_right (suc i) b l e = absurd (omega arith)

mutual
  net_right : (n : Net) (b : Bool) → Carries two_inverters (true ∷ []) n b → IsRight n b
  net_right (In i) b (input l e) = input_right i b l e
  net_right (Own k) b (gate g bs at h e) = gate_right k g bs b at (nets_right g.1 bs h) e

  nets_right : (ns : List Net) (bs : List Bool) → AllCarry two_inverters (true ∷ []) ns bs → AreRight ns bs
  nets_right [] [] none = tt
  nets_right (n ∷ ns) (b ∷ bs) (more c r) = (net_right n b c, nets_right ns bs r)
  nets_right [] (b ∷ bs) h = elim h [ ]
  nets_right (n ∷ ns) [] h = elim h [ ]

abbrev HasOne : List Net → Type 0
HasOne [] = ⊥
HasOne (n ∷ ns) = Unit {0}

reads_one : (k : ℕ) (g : GateKind × List Net) → slice_get turning.gates k ≡ Some g → HasOne g.1
reads_one zero g at = let is : ◌≡◌ {A = GateKind × List Net} (gates.Not, Own 0 ∷ []) g = cc in subst (λ (x : GateKind × List Net). HasOne x.1) is tt
reads_one (suc k) g at = absurd (cc)

mutual
  nothing_at : (n : Net) (b : Bool) → Carries turning [] n b → ⊥
  nothing_at (In i) b (input l e) = absurd (omega (arith, l))
  nothing_at (Own k) b (gate g bs at h e) = nothing_among g.1 bs h (reads_one k g at)

  nothing_among : (ns : List Net) (bs : List Bool) → AllCarry turning [] ns bs → HasOne ns → ⊥
  nothing_among [] [] none o = o
  nothing_among (n ∷ ns) (b ∷ bs) (more c r) o = nothing_at n b c
  nothing_among [] (b ∷ bs) h o = elim h [ ]
  nothing_among (n ∷ ns) [] h o = elim h [ ]

two_total : IsTotal two_inverters
two_total [] l k below = absurd (cc)
two_total (x ∷ []) l zero below = (not (not x), outer_gate x)
two_total (x ∷ []) l (suc zero) below = (not x, inner_gate x)
two_total (x ∷ []) l (suc (suc k)) below = absurd (omega arith)
two_total (x ∷ y ∷ ys) l k below = absurd (omega arith)

pub rows_hold : SortedExamples
rows_hold = record {
  tree_sorts = simp sort_layers refl;
  bits = simp variable_layers refl;
  tails = simp variable_layers refl;
  elements = simp variable_layers refl;
  terms = simp variable_layers refl;
  inside = simp variable_layers refl;
  arguments = simp (sort_layers, argument_layers) refl;
  names = simp (sort_layers, argument_layers) refl;
  inner = simp (sort_layers, argument_layers) refl;
  trees = simp (sort_layers, variable_layers, argument_layers) refl;
  equations = simp (sort_layers, variable_layers, argument_layers) refl;
  circuits = simp (sort_layers, variable_layers, argument_layers) refl;
  calls = simp (sort_layers, variable_layers, argument_layers) refl;
  clauses = simp (sort_layers, variable_layers, argument_layers) refl;
  chains = simp chain_layers refl;
  ordered = is_ordered;
  not_least = λ h. h.follows.1 0 (omega arith) can_one;
  not_behind = λ h. none_in 0 (h.follows.0.needs 0 (0, omega arith, refl));
  one_left_out = λ h. not_in_two (h.all 2 (omega arith));
  one_twice = λ h. h.follows.2.0.new (0, omega arith, refl);
  is_graph = graph_is;
  no_graph = λ h. (let l = h 0 1 (0, omega arith, refl) in absurd (omega (arith, l)));
  goes_round = (0, leads_on 1 (0, omega arith, refl) (feeds (0, omega arith, refl)));
  itself = (0, feeds (0, omega arith, refl));
  without_round = no_round;
  carries_input = λ x. input (omega arith) refl;
  carries_value = outer_gate true;
  not_the_other = λ c. (let e = net_right (Own 0) false c in absurd (cc));
  no_net = λ x c. net_right (In 1) x c;
  nothing = λ x c. nothing_at (Own 0) x c;
  is_carrying = record { total = two_total; outputs = (omega arith, tt) };
  not_total = λ h. nothing_at (Own 0) (h [] refl 0 (omega arith)).0 (h [] refl 0 (omega arith)).1;
  no_output = λ h. (let l = h.outputs.0 in absurd (omega (arith, l)));
}
