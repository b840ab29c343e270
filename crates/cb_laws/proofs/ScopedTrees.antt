-- The trees of accepted rules and queries have only constants and variables that there are.
use Rattle.std.proofs.Common.{◌≡◌, ℕ, zero, suc, ◌<◌, Bool, true, false, ◌&&◌, List, [], ◌∷◌, ◌++◌, map, length, refl, sym, ◌∙◌, ap, arith, ℤ, pos, bytes_eq, nat_lt}
use Rattle.std.specs.Prelude.{Option, Some, option_to_list, Contains, if◌then◌else◌}
use Rattle.std.specs.List.{list_any, list_all}
use Rattle.std.proofs.lemmas.Bool.{lt-ltb}
use Rattle.std.proofs.lemmas.List.Elements.{Contains-append_left, Contains-append_right}
use Rattle.cb_model.specs.declared.Sort.{Sort}
use Rattle.cb_model.specs.declared.Sort.TheVariants as sort
use Rattle.cb_model.specs.declared.Expr.{Expr}
use Rattle.cb_model.specs.declared.Expr.TheOpen.{Expr-F}
use Rattle.cb_model.specs.declared.Expr.TheVariants as expr
use Rattle.cb_model.specs.declared.Expr.TheFolds.{fold-roll-Expr}
use Rattle.cb_model.specs.declared.Tree.{Tree}
use Rattle.cb_model.specs.declared.Tree.TheOpen.{Tree-F}
use Rattle.cb_model.specs.declared.Tree.TheVariants as tree
use Rattle.cb_model.specs.declared.Tree.TheFolds.{fold-roll-Tree}
use Rattle.cb_model.specs.Bits.{all_of}
use Rattle.cb_model.specs.Text.{Text}
use Rattle.cb_model.specs.Values.{in_scope, in_scope_step, tree_in_scope, tree_in_scope_step}
use Rattle.cb_model.specs.Grammar.{Form, Forms, Variable, Integer, Name, Closed, Open, Not, And, Xor, Or, Last, More}
use Rattle.cb_model.specs.Directives.{Declared, count_of, sorts_of}
use Rattle.cb_model.specs.Sorts.{Place, form_sort, below, operand_places, argument_places, Numbering, number_in, sign_number, bit_expr, as_expr, as_exprs, as_bus, as_tree, as_trees}
use Rattle.cb_model.specs.Sorted.{variable_has}
use Rattle.cb_laws.proofs.Listed.{number_below}
use Rattle.cb_laws.proofs.SortedTrees.{and_both, all_both, all_map, AreSorted, sorted_front, sorted_behind, sorted_here}

-- ---- one equation for each constructor

module _ (c v : ℕ) where
  scope-zero : in_scope c v expr.Zero ≡ true
  scope-zero = ap (in_scope c v) (sym expr.rolls-Zero) ∙ fold-roll-Expr Bool (in_scope_step c v) Expr-F.Zero

  scope-one : in_scope c v expr.One ≡ true
  scope-one = ap (in_scope c v) (sym expr.rolls-One) ∙ fold-roll-Expr Bool (in_scope_step c v) Expr-F.One

  scope-const : (k : ℕ) → in_scope c v (expr.Const k) ≡ nat_lt k c
  scope-const k = ap (in_scope c v) (sym (expr.rolls-Const k)) ∙ fold-roll-Expr Bool (in_scope_step c v) (Expr-F.Const k)

  scope-var : (n : ℕ) → in_scope c v (expr.Var n) ≡ nat_lt n v
  scope-var n = ap (in_scope c v) (sym (expr.rolls-Var n)) ∙ fold-roll-Expr Bool (in_scope_step c v) (Expr-F.Var n)

  scope-not : (x : Expr) → in_scope c v (expr.Not x) ≡ in_scope c v x
  scope-not x = ap (in_scope c v) (sym (expr.rolls-Not x)) ∙ fold-roll-Expr Bool (in_scope_step c v) (Expr-F.Not x)

  scope-and : (xs : List Expr) → in_scope c v (expr.And xs) ≡ all_of (map (in_scope c v) xs)
  scope-and xs = ap (in_scope c v) (sym (expr.rolls-And xs)) ∙ fold-roll-Expr Bool (in_scope_step c v) (Expr-F.And xs)

  scope-xor : (xs : List Expr) → in_scope c v (expr.Xor xs) ≡ all_of (map (in_scope c v) xs)
  scope-xor xs = ap (in_scope c v) (sym (expr.rolls-Xor xs)) ∙ fold-roll-Expr Bool (in_scope_step c v) (Expr-F.Xor xs)

  scope-or : (xs : List Expr) → in_scope c v (expr.Or xs) ≡ all_of (map (in_scope c v) xs)
  scope-or xs = ap (in_scope c v) (sym (expr.rolls-Or xs)) ∙ fold-roll-Expr Bool (in_scope_step c v) (Expr-F.Or xs)

  scope-leaf : (e : Expr) → tree_in_scope c v (tree.Leaf e) ≡ in_scope c v e
  scope-leaf e = ap (tree_in_scope c v) (sym (tree.rolls-Leaf e)) ∙ fold-roll-Tree Bool (tree_in_scope_step c v) (Tree-F.Leaf e)

  scope-bus : (es : List Expr) (t : Option ℕ) → tree_in_scope c v (tree.Bus es t) ≡ (list_all (in_scope c v) es && list_all (λ n. nat_lt n v) (option_to_list t))
  scope-bus es t = ap (tree_in_scope c v) (sym (tree.rolls-Bus es t)) ∙ fold-roll-Tree Bool (tree_in_scope_step c v) (Tree-F.Bus es t)

  scope-term : (n : ℕ) → tree_in_scope c v (tree.Var n) ≡ nat_lt n v
  scope-term n = ap (tree_in_scope c v) (sym (tree.rolls-Var n)) ∙ fold-roll-Tree Bool (tree_in_scope_step c v) (Tree-F.Var n)

  scope-int : (z : ℤ) → tree_in_scope c v (tree.Int z) ≡ true
  scope-int z = ap (tree_in_scope c v) (sym (tree.rolls-Int z)) ∙ fold-roll-Tree Bool (tree_in_scope_step c v) (Tree-F.Int z)

  scope-node : (n : ℕ) (ts : List Tree) → tree_in_scope c v (tree.Node n ts) ≡ all_of (map (tree_in_scope c v) ts)
  scope-node n ts = ap (tree_in_scope c v) (sym (tree.rolls-Node n ts)) ∙ fold-roll-Tree Bool (tree_in_scope_step c v) (Tree-F.Node n ts)

  bit_scoped : (z : ℤ) → in_scope c v (bit_expr z) ≡ true
  bit_scoped (pos zero) = scope-zero
  bit_scoped (pos (suc n)) = scope-one
  bit_scoped z = scope-one

-- a variable that has a sort is one of the variables
has_within : (ss : List Sort) (s : Sort) (n : ℕ) → variable_has ss s n ≡ true → n < length ss
has_within [] s n h = absurd (cc)
has_within (t ∷ ts) s zero h = omega arith
has_within (t ∷ ts) s (suc n) h = let l = has_within ts s n h in omega (arith, l)

-- ---- places without a clash

-- at each of these places stands a form of its sort, or one without a sort by form
abbrev pub AreSound : Declared → List Place → Type 0
AreSound d ps = (s : Sort) (f : Form) → Contains ps (s, f) → (t : Sort) → form_sort d.constants f ≡ Some t → s ≡ t

pub sound_front : (d : Declared) (ps qs : List Place) → AreSound d (ps ++ qs) → AreSound d ps
sound_front d ps qs h s f c t e = h s f (Contains-append_left ps qs (s, f) c) t e

pub sound_behind : (d : Declared) (ps qs : List Place) → AreSound d (ps ++ qs) → AreSound d qs
sound_behind d ps qs h s f c t e = h s f (Contains-append_right ps qs (s, f) c) t e

-- places at which variables have their sorts and forms theirs
pub record ArePlaced (d : Declared) (n : Numbering) (ss : List Sort) (ps : List Place) : Type 0 where
  pub sorted : AreSorted d n ss ps
  pub sound : AreSound d ps

module _ (d : Declared) (n : Numbering) (ss : List Sort) (constants : n.constants ≡ d.constants) where
  abbrev c : ℕ
  c = length d.constants

  abbrev v : ℕ
  v = length ss

  pub placed_front : (ps qs : List Place) → ArePlaced d n ss (ps ++ qs) → ArePlaced d n ss ps
  placed_front ps qs h = record { sorted = sorted_front d n ss ps qs h.sorted; sound = sound_front d ps qs h.sound }

  pub placed_behind : (ps qs : List Place) → ArePlaced d n ss (ps ++ qs) → ArePlaced d n ss qs
  placed_behind ps qs h = record { sorted = sorted_behind d n ss ps qs h.sorted; sound = sound_behind d ps qs h.sound }

  variable_scoped : (s : Sort) (x : Text) (ps : List Place) → ArePlaced d n ss ((s, Variable x) ∷ ps) → nat_lt (number_in n.variables x) v ≡ true
  variable_scoped s x ps h = lt-ltb (number_in n.variables x) v (has_within ss s (number_in n.variables x) (sorted_here d n ss s x ps h.sorted))

  -- an atom at a Boolean place is a constant
  atom_scoped : (x : Text) (b : Bool) → list_any (bytes_eq x) d.constants ≡ b → (sort.Bool ≡ (if b then sort.Bool else sort.Term)) → in_scope c v (expr.Const (number_in n.constants x)) ≡ true
  atom_scoped x true e h = rw (constants, scope-const c v (number_in d.constants x)) (lt-ltb (number_in d.constants x) (length d.constants) (number_below d.constants x e))
  atom_scoped x false e h = absurd (cc)

  mutual
    expr_scoped : (f : Form) → ArePlaced d n ss ((sort.Bool, f) ∷ below d f) → in_scope c v (as_expr n f) ≡ true
    expr_scoped (Variable x) h = scope-var c v (number_in n.variables x) ∙ variable_scoped sort.Bool x [] h
    expr_scoped (Integer z) h = bit_scoped c v z
    expr_scoped (Name x Last) h =
        atom_scoped x (list_any (bytes_eq x) d.constants) refl (h.sound sort.Bool (Name x Last) (0, omega arith, refl) (if list_any (bytes_eq x) d.constants then sort.Bool else sort.Term) refl)
    expr_scoped (Name x (More f fs)) h = let wrong : sort.Bool ≡ sort.Term = h.sound sort.Bool (Name x (More f fs)) (0, omega arith, refl) sort.Term refl in absurd (cc)
    expr_scoped (Not f) h = scope-not c v (as_expr n f) ∙ expr_scoped f (placed_behind ((sort.Bool, Not f) ∷ []) ((sort.Bool, f) ∷ below d f) h)
    expr_scoped (And fs) h = scope-and c v (as_exprs n fs) ∙ all_map (in_scope c v) (as_exprs n fs) (exprs_scoped fs (placed_behind ((sort.Bool, And fs) ∷ []) (operand_places d fs) h))
    expr_scoped (Xor fs) h = scope-xor c v (as_exprs n fs) ∙ all_map (in_scope c v) (as_exprs n fs) (exprs_scoped fs (placed_behind ((sort.Bool, Xor fs) ∷ []) (operand_places d fs) h))
    expr_scoped (Or fs) h = scope-or c v (as_exprs n fs) ∙ all_map (in_scope c v) (as_exprs n fs) (exprs_scoped fs (placed_behind ((sort.Bool, Or fs) ∷ []) (operand_places d fs) h))
    expr_scoped (Closed fs) h = scope-zero c v
    expr_scoped (Open fs f) h = scope-zero c v

    exprs_scoped : (fs : Forms) → ArePlaced d n ss (operand_places d fs) → list_all (in_scope c v) (as_exprs n fs) ≡ true
    exprs_scoped Last h = refl
    exprs_scoped (More f fs) h =
        and_both (in_scope c v (as_expr n f)) (list_all (in_scope c v) (as_exprs n fs))
        (expr_scoped f (placed_front ((sort.Bool, f) ∷ below d f) (operand_places d fs) h))
        (exprs_scoped fs (placed_behind ((sort.Bool, f) ∷ below d f) (operand_places d fs) h))

  -- the elements of a bus and its tail
  pub record BusScoped (r : List Expr × Option ℕ) : Type 0 where
    pub elements : list_all (in_scope c v) r.0 ≡ true
    pub tail : list_all (λ k. nat_lt k v) (option_to_list r.1) ≡ true

  bus_scoped : (f : Form) → ArePlaced d n ss ((sort.Bus, f) ∷ below d f) → BusScoped (as_bus n f)
  bus_scoped (Variable x) h = record { elements = refl; tail = and_both (nat_lt (number_in n.variables x) v) true (variable_scoped sort.Bus x [] h) refl }
  bus_scoped (Closed fs) h = record { elements = exprs_scoped fs (placed_behind ((sort.Bus, Closed fs) ∷ []) (operand_places d fs) h); tail = refl }
  bus_scoped (Open fs f) h =
      let all : ArePlaced d n ss (operand_places d fs ++ ((sort.Bus, f) ∷ below d f)) = placed_behind ((sort.Bus, Open fs f) ∷ []) (operand_places d fs ++ ((sort.Bus, f) ∷ below d f)) h in
      let first : list_all (in_scope c v) (as_exprs n fs) ≡ true = exprs_scoped fs (placed_front (operand_places d fs) ((sort.Bus, f) ∷ below d f) all) in
      let rest : BusScoped (as_bus n f) = bus_scoped f (placed_behind (operand_places d fs) ((sort.Bus, f) ∷ below d f) all) in
      record { elements = all_both (in_scope c v) (as_exprs n fs) (as_bus n f).0 first rest.elements; tail = rest.tail }
  bus_scoped (Integer z) h = record { elements = refl; tail = refl }
  bus_scoped (Name x fs) h = record { elements = refl; tail = refl }
  bus_scoped (Not f) h = record { elements = refl; tail = refl }
  bus_scoped (And fs) h = record { elements = refl; tail = refl }
  bus_scoped (Xor fs) h = record { elements = refl; tail = refl }
  bus_scoped (Or fs) h = record { elements = refl; tail = refl }

  bus_tree : (f : Form) → ArePlaced d n ss ((sort.Bus, f) ∷ below d f) → tree_in_scope c v (as_tree d n sort.Bus f) ≡ true
  bus_tree f h =
      let b : BusScoped (as_bus n f) = bus_scoped f h in
      scope-bus c v (as_bus n f).0 (as_bus n f).1 ∙ and_both (list_all (in_scope c v) (as_bus n f).0) (list_all (λ k. nat_lt k v) (option_to_list (as_bus n f).1)) b.elements b.tail

  bit_tree : (f : Form) → ArePlaced d n ss ((sort.Bool, f) ∷ below d f) → tree_in_scope c v (as_tree d n sort.Bool f) ≡ true
  bit_tree f h = scope-leaf c v (as_expr n f) ∙ expr_scoped f h

  mutual
    -- a form at a sort has only constants and variables that there are
    pub tree_scoped : (f : Form) (s : Sort) → ArePlaced d n ss ((s, f) ∷ below d f) → tree_in_scope c v (as_tree d n s f) ≡ true
    tree_scoped f sort.Bool h = bit_tree f h
    tree_scoped f sort.Bus h = bus_tree f h
    tree_scoped (Variable x) sort.Term h = scope-term c v (number_in n.variables x) ∙ variable_scoped sort.Term x [] h
    tree_scoped (Integer z) sort.Term h = scope-int c v z
    tree_scoped (Name x fs) sort.Term h =
        scope-node c v (sign_number n.names (x, count_of fs)) (as_trees d n (sorts_of d (x, count_of fs)) fs)
        ∙ all_map (tree_in_scope c v) (as_trees d n (sorts_of d (x, count_of fs)) fs)
        (trees_scoped fs (sorts_of d (x, count_of fs)) (placed_behind ((sort.Term, Name x fs) ∷ []) (argument_places d (sorts_of d (x, count_of fs)) fs) h))
    tree_scoped (Closed fs) sort.Term h = scope-int c v _
    tree_scoped (Open fs f) sort.Term h = scope-int c v _
    tree_scoped (Not f) sort.Term h = scope-int c v _
    tree_scoped (And fs) sort.Term h = scope-int c v _
    tree_scoped (Xor fs) sort.Term h = scope-int c v _
    tree_scoped (Or fs) sort.Term h = scope-int c v _

    pub trees_scoped : (fs : Forms) (zs : List Sort) → ArePlaced d n ss (argument_places d zs fs) → list_all (tree_in_scope c v) (as_trees d n zs fs) ≡ true
    trees_scoped Last zs h = refl
    trees_scoped (More f fs) [] h = refl
    trees_scoped (More f fs) (s ∷ zs) h =
        and_both (tree_in_scope c v (as_tree d n s f)) (list_all (tree_in_scope c v) (as_trees d n zs fs))
        (tree_scoped f s (placed_front ((s, f) ∷ below d f) (argument_places d zs fs) h))
        (trees_scoped fs zs (placed_behind ((s, f) ∷ below d f) (argument_places d zs fs) h))
