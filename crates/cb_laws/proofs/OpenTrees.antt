-- Open trees as a type of their own: what a shape reads of its terms, by recursion.
use Rattle.std.proofs.Common.{◌≡◌, ℕ, Bool, true, List, [], ◌∷◌, ◌++◌, map, refl, sym, ◌∙◌, ap, subst, ℤ}
use Rattle.std.specs.Prelude.{Option, option_to_list, flat_map}
use Rattle.std.specs.List.{list_all}
use Rattle.cb_model.specs.declared.Sort.{Sort}
use Rattle.cb_model.specs.declared.Sort.TheVariants as sort
use Rattle.cb_model.specs.declared.Expr.{Expr}
use Rattle.cb_model.specs.declared.Expr.TheVariants as expr
use Rattle.cb_model.specs.declared.Expr.TheOpen.{Expr-F}
use Rattle.cb_model.specs.declared.Expr.TheViews.{roll-Expr}
use Rattle.cb_model.specs.declared.Expr.TheFolds.{fold-roll-Expr, ind-Expr, map-Expr}
use Rattle.cb_model.specs.declared.Tree.{Tree}
use Rattle.cb_model.specs.declared.Tree.TheVariants as tree
use Rattle.cb_model.specs.declared.Tree.TheOpen.{Tree-F}
use Rattle.cb_model.specs.declared.Tree.TheViews.{roll-Tree}
use Rattle.cb_model.specs.declared.Tree.TheFolds.{fold-roll-Tree, ind-Tree, map-Tree}
use Rattle.cb_model.specs.Bits.{Bits}
use Rattle.cb_model.specs.Values.{Ground, Bit, Word, Int, Name, Grounds, Last, More, grounds, Valuation, tail_of, expr_value, tree_value}
use Rattle.cb_model.specs.Answers.{leaf_number, leaves, leaves_step, opens, opens_step, is_leaf, is_leaf_step, is_open, is_open_step}
use Rattle.cb_laws.proofs.Values.{value-leaf, value-bus, value-term, value-int, value-node, value-var}
use Rattle.cb_laws.proofs.Shapes.{number-var, leaves-leaf, leaves-bus, leaves-term, leaves-node, opens-leaf, opens-bus, opens-term, opens-node}
use Rattle.cb_laws.proofs.Decided.{and_true}

mutual
  pub data Plain : Type 0 where
    ALeaf : ℕ → Plain
    ABus : List ℕ → Option ℕ → Plain
    AVar : ℕ → Plain
    AnInt : ℤ → Plain
    ANode : ℕ → Plains → Plain

  pub data Plains : Type 0 where
    Nil : Plains
    Cons : Plain → Plains → Plains

-- ---- the tree of an open tree

abbrev mutual
  pub closed : Plain → Tree
  closed (ALeaf n) = tree.Leaf (expr.Var n)
  closed (ABus ns t) = tree.Bus (map expr.Var ns) t
  closed (AVar n) = tree.Var n
  closed (AnInt z) = tree.Int z
  closed (ANode n ps) = tree.Node n (closed_all ps)

  pub closed_all : Plains → List Tree
  closed_all Nil = []
  closed_all (Cons p ps) = closed p ∷ closed_all ps

-- an expression that is a leaf is a variable
abbrev IsVar : Expr → Type 0
IsVar e = is_leaf e ≡ true → (n : ℕ) × (expr.Var n ≡ e)

var_roll : (x : Expr-F Expr) (y : Expr-F ((e : Expr) × IsVar e)) → map-Expr _ Expr (λ e. e.0) y ≡ x → IsVar (roll-Expr x)
var_roll x y is h = by_layer x (sym (fold-roll-Expr Bool is_leaf_step x) ∙ h)
  where
    by_layer : (x : Expr-F Expr) → is_leaf_step (map-Expr Expr Bool is_leaf x) ≡ true → (n : ℕ) × (expr.Var n ≡ roll-Expr x)
    by_layer (Expr-F.Var n) h = (n, sym (expr.rolls-Var n))
    by_layer x h = absurd (cc)

leaf_var : (e : Expr) → IsVar e
leaf_var = ind-Expr IsVar var_roll

vars_of : (es : List Expr) → list_all is_leaf es ≡ true → (ns : List ℕ) × (map expr.Var ns ≡ es)
vars_of [] h = ([], refl)
vars_of (e ∷ es) h =
    let a = leaf_var e (and_true _ _ h).0 in
    let b = vars_of es (and_true _ _ h).1 in
    (a.0 ∷ b.0, ap (λ x. x ∷ map expr.Var b.0) a.1 ∙ ap (λ xs. e ∷ xs) b.1)

abbrev IsPlain : Tree → Type 0
IsPlain t = is_open t ≡ true → (p : Plain) × (closed p ≡ t)

abbrev Sure : Type 0
Sure = (t : Tree) × IsPlain t

plains_sure : (ys : List Sure) → list_all (λ b. b) (map is_open (map (λ e. e.0) ys)) ≡ true → (ps : Plains) × (closed_all ps ≡ map (λ e. e.0) ys)
plains_sure [] h = (Nil, refl)
plains_sure (y ∷ ys) h =
    let a = y.1 (and_true _ _ h).0 in
    let b = plains_sure ys (and_true _ _ h).1 in
    (Cons a.0 b.0, ap (λ x. x ∷ closed_all b.0) a.1 ∙ ap (λ xs. y.0 ∷ xs) b.1)

plain_layer : (y : Tree-F Sure) → is_open_step (map-Tree Tree Bool is_open (map-Tree Sure Tree (λ e. e.0) y)) ≡ true → (p : Plain) × (closed p ≡ roll-Tree (map-Tree Sure Tree (λ e. e.0) y))
plain_layer (Tree-F.Leaf e) h = let a = leaf_var e h in (ALeaf a.0, ap tree.Leaf a.1 ∙ sym (tree.rolls-Leaf e))
plain_layer (Tree-F.Bus es t) h = let a = vars_of es h in (ABus a.0 t, ap (λ xs. tree.Bus xs t) a.1 ∙ sym (tree.rolls-Bus es t))
plain_layer (Tree-F.Var n) h = (AVar n, sym (tree.rolls-Var n))
plain_layer (Tree-F.Int z) h = (AnInt z, sym (tree.rolls-Int z))
plain_layer (Tree-F.Node n ys) h =
    let a = plains_sure ys h in (ANode n a.0, ap (tree.Node n) a.1 ∙ sym (tree.rolls-Node n (map (λ e. e.0) ys)))

plain_roll : (x : Tree-F Tree) (y : Tree-F Sure) → map-Tree Sure Tree (λ e. e.0) y ≡ x → IsPlain (roll-Tree x)
plain_roll x y is h =
    subst (λ z. is_open_step (map-Tree Tree Bool is_open z) ≡ true → (p : Plain) × (closed p ≡ roll-Tree z)) is (plain_layer y) (sym (fold-roll-Tree Bool is_open_step x) ∙ h)

plain_of : (t : Tree) → IsPlain t
plain_of = ind-Tree IsPlain plain_roll

-- a shape is a list of open trees
pub plains_of : (ts : List Tree) → list_all is_open ts ≡ true → (ps : Plains) × (closed_all ps ≡ ts)
plains_of [] h = (Nil, refl)
plains_of (t ∷ ts) h =
    let a = plain_of t (and_true _ _ h).0 in
    let b = plains_of ts (and_true _ _ h).1 in
    (Cons a.0 b.0, ap (λ x. x ∷ closed_all b.0) a.1 ∙ ap (λ xs. t ∷ xs) b.1)

-- ---- values, leaves and open places

abbrev mutual
  pub plain_value : Valuation → Plain → Ground
  plain_value o (ALeaf n) = Bit (o.bits n)
  plain_value o (ABus ns t) = Word (map o.bits ns ++ tail_of o t)
  plain_value o (AVar n) = o.terms n
  plain_value o (AnInt z) = Int z
  plain_value o (ANode n ps) = Name n (plain_values o ps)

  pub plain_values : Valuation → Plains → Grounds
  plain_values o Nil = Last
  plain_values o (Cons p ps) = More (plain_value o p) (plain_values o ps)

bits_are : (a : Bits) (o : Valuation) (ns : List ℕ) → map (expr_value a o.bits) (map expr.Var ns) ≡ map o.bits ns
bits_are a o [] = refl
bits_are a o (n ∷ ns) = ap (λ x. x ∷ map (expr_value a o.bits) (map expr.Var ns)) (value-var a o.bits n) ∙ ap (λ xs. o.bits n ∷ xs) (bits_are a o ns)

mutual
  pub value_closed : (a : Bits) (o : Valuation) (p : Plain) → tree_value a o (closed p) ≡ plain_value o p
  value_closed a o (ALeaf n) = value-leaf a o (expr.Var n) ∙ ap Bit (value-var a o.bits n)
  value_closed a o (ABus ns t) = value-bus a o (map expr.Var ns) t ∙ ap (λ xs. Word (xs ++ tail_of o t)) (bits_are a o ns)
  value_closed a o (AVar n) = value-term a o n
  value_closed a o (AnInt z) = value-int a o z
  value_closed a o (ANode n ps) = value-node a o n (closed_all ps) ∙ ap (Name n) (values_closed a o ps)

  pub values_closed : (a : Bits) (o : Valuation) (ps : Plains) → grounds (map (tree_value a o) (closed_all ps)) ≡ plain_values o ps
  values_closed a o Nil = refl
  values_closed a o (Cons p ps) =
      ap (λ g. More g (grounds (map (tree_value a o) (closed_all ps)))) (value_closed a o p) ∙ ap (More (plain_value o p)) (values_closed a o ps)

abbrev mutual
  pub plain_leaves : Plain → List ℕ
  plain_leaves (ALeaf n) = n ∷ []
  plain_leaves (ABus ns t) = ns
  plain_leaves (AVar n) = []
  plain_leaves (AnInt z) = []
  plain_leaves (ANode n ps) = all_leaves ps

  pub all_leaves : Plains → List ℕ
  all_leaves Nil = []
  all_leaves (Cons p ps) = plain_leaves p ++ all_leaves ps

numbers_are : (ns : List ℕ) → map leaf_number (map expr.Var ns) ≡ ns
numbers_are [] = refl
numbers_are (n ∷ ns) = ap (λ x. x ∷ map leaf_number (map expr.Var ns)) (number-var n) ∙ ap (λ xs. n ∷ xs) (numbers_are ns)

mutual
  leaves_closed : (p : Plain) → leaves (closed p) ≡ plain_leaves p
  leaves_closed (ALeaf n) = leaves-leaf (expr.Var n) ∙ ap (λ x. x ∷ []) (number-var n)
  leaves_closed (ABus ns t) = leaves-bus (map expr.Var ns) t ∙ numbers_are ns
  leaves_closed (AVar n) = leaves-term n
  leaves_closed (AnInt z) = ap leaves (sym (tree.rolls-Int z)) ∙ fold-roll-Tree (List ℕ) leaves_step (Tree-F.Int z)
  leaves_closed (ANode n ps) = leaves-node n (closed_all ps) ∙ all_leaves_closed ps

  pub all_leaves_closed : (ps : Plains) → flat_map (λ l. l) (map leaves (closed_all ps)) ≡ all_leaves ps
  all_leaves_closed Nil = refl
  all_leaves_closed (Cons p ps) =
      ap (λ l. l ++ flat_map (λ l. l) (map leaves (closed_all ps))) (leaves_closed p) ∙ ap (λ l. plain_leaves p ++ l) (all_leaves_closed ps)

pub shape_leaves : (ps : Plains) → flat_map leaves (closed_all ps) ≡ all_leaves ps
shape_leaves Nil = refl
shape_leaves (Cons p ps) = ap (λ l. l ++ flat_map leaves (closed_all ps)) (leaves_closed p) ∙ ap (λ l. plain_leaves p ++ l) (shape_leaves ps)

-- an open place: its sort and its number
abbrev pub Place : Type 0
Place = Sort × ℕ

abbrev pub bus_places : Option ℕ → List Place
bus_places t = map (λ n. (sort.Bus, n)) (option_to_list t)

abbrev mutual
  pub plain_opens : Plain → List Place
  plain_opens (ALeaf n) = []
  plain_opens (ABus ns t) = bus_places t
  plain_opens (AVar n) = (sort.Term, n) ∷ []
  plain_opens (AnInt z) = []
  plain_opens (ANode n ps) = all_opens ps

  pub all_opens : Plains → List Place
  all_opens Nil = []
  all_opens (Cons p ps) = plain_opens p ++ all_opens ps

mutual
  opens_closed : (p : Plain) → opens (closed p) ≡ plain_opens p
  opens_closed (ALeaf n) = opens-leaf (expr.Var n)
  opens_closed (ABus ns t) = opens-bus (map expr.Var ns) t
  opens_closed (AVar n) = opens-term n
  opens_closed (AnInt z) = ap opens (sym (tree.rolls-Int z)) ∙ fold-roll-Tree (List Place) opens_step (Tree-F.Int z)
  opens_closed (ANode n ps) = opens-node n (closed_all ps) ∙ all_opens_closed ps

  all_opens_closed : (ps : Plains) → flat_map (λ l. l) (map opens (closed_all ps)) ≡ all_opens ps
  all_opens_closed Nil = refl
  all_opens_closed (Cons p ps) =
      ap (λ l. l ++ flat_map (λ l. l) (map opens (closed_all ps))) (opens_closed p) ∙ ap (λ l. plain_opens p ++ l) (all_opens_closed ps)

pub shape_opens : (ps : Plains) → flat_map opens (closed_all ps) ≡ all_opens ps
shape_opens Nil = refl
shape_opens (Cons p ps) = ap (λ l. l ++ flat_map opens (closed_all ps)) (opens_closed p) ∙ ap (λ l. plain_opens p ++ l) (shape_opens ps)
