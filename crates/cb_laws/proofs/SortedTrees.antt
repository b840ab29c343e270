-- The trees of forms whose places have their sorts.
use Rattle.std.proofs.Common.{◌≡◌, ℕ, zero, suc, ◌+◌, Bool, true, false, ◌&&◌, ◌||◌, cond, List, [], ◌∷◌, ◌++◌, map, length, refl, sym, ◌∙◌, ap, subst, arith, ℤ, bytes_eq, eqb}
use Rattle.std.specs.Prelude.{Option, Some, None, option_to_list, position, unwrap_or, get_or, Contains, pos}
use Rattle.std.specs.List.{list_any, list_all}
use Rattle.std.proofs.lemmas.Bool.{and_parts, eqb-true}
use Rattle.std.proofs.lemmas.Bool.Decides.{nat_tests}
use Rattle.std.proofs.lemmas.Slice.Eq.{bytes_eq-Decides}
use Rattle.std.proofs.lemmas.List.Elements.{Contains-append_left, Contains-append_right}
use Rattle.cb_model.specs.declared.Sort.{Sort}
use Rattle.cb_model.specs.declared.Sort.TheVariants as sort
use Rattle.cb_model.specs.declared.Expr.{Expr}
use Rattle.cb_model.specs.declared.Expr.TheOpen.{Expr-F}
use Rattle.cb_model.specs.declared.Expr.TheVariants as expr
use Rattle.cb_model.specs.declared.Expr.TheFolds.{fold-roll-Expr}
use Rattle.cb_model.specs.declared.Tree.{Tree}
use Rattle.cb_model.specs.declared.Tree.TheOpen.{Tree-F}
use Rattle.cb_model.specs.declared.Tree.TheViews.{roll-Tree}
use Rattle.cb_model.specs.declared.Tree.TheVariants as tree
use Rattle.cb_model.specs.declared.Tree.TheFolds.{fold-Tree, fold-roll-Tree, ind-Tree, map-Tree}
use Rattle.cb_model.specs.Bits.{all_of}
use Rattle.cb_model.specs.Text.{Text}
use Rattle.cb_model.specs.Values.{Sorts}
use Rattle.cb_model.specs.Grammar.{Form, Forms, Variable, Integer, Name, Closed, Open, Not, And, Xor, Or, Last, More}
use Rattle.cb_model.specs.Directives.{Sign, Declared, same_sign, has_sign, count_of, sorts_of}
use Rattle.cb_model.specs.Sorts.{Place, below, operand_places, argument_places, Numbering, number_in, sign_number, bit_expr, as_expr, as_exprs, as_bus, as_tree, as_trees}
use Rattle.cb_model.specs.Loading.{signs_of, signs_in}
use Rattle.cb_model.specs.Sorted.{same_sort, same_sorts, variable_has, are_boolean, are_boolean_step, variables_fit, variables_fit_step, tree_sort, tree_sort_step, arguments_fit, arguments_fit_step, tree_fits}

-- ---- one equation for each constructor

module _ (ss : List Sort) where
  boolean-zero : are_boolean ss expr.Zero ≡ true
  boolean-zero = ap (are_boolean ss) (sym expr.rolls-Zero) ∙ fold-roll-Expr Bool (are_boolean_step ss) Expr-F.Zero

  boolean-one : are_boolean ss expr.One ≡ true
  boolean-one = ap (are_boolean ss) (sym expr.rolls-One) ∙ fold-roll-Expr Bool (are_boolean_step ss) Expr-F.One

  boolean-const : (k : ℕ) → are_boolean ss (expr.Const k) ≡ true
  boolean-const k = ap (are_boolean ss) (sym (expr.rolls-Const k)) ∙ fold-roll-Expr Bool (are_boolean_step ss) (Expr-F.Const k)

  boolean-var : (n : ℕ) → are_boolean ss (expr.Var n) ≡ variable_has ss sort.Bool n
  boolean-var n = ap (are_boolean ss) (sym (expr.rolls-Var n)) ∙ fold-roll-Expr Bool (are_boolean_step ss) (Expr-F.Var n)

  boolean-not : (x : Expr) → are_boolean ss (expr.Not x) ≡ are_boolean ss x
  boolean-not x = ap (are_boolean ss) (sym (expr.rolls-Not x)) ∙ fold-roll-Expr Bool (are_boolean_step ss) (Expr-F.Not x)

  boolean-and : (xs : List Expr) → are_boolean ss (expr.And xs) ≡ all_of (map (are_boolean ss) xs)
  boolean-and xs = ap (are_boolean ss) (sym (expr.rolls-And xs)) ∙ fold-roll-Expr Bool (are_boolean_step ss) (Expr-F.And xs)

  boolean-xor : (xs : List Expr) → are_boolean ss (expr.Xor xs) ≡ all_of (map (are_boolean ss) xs)
  boolean-xor xs = ap (are_boolean ss) (sym (expr.rolls-Xor xs)) ∙ fold-roll-Expr Bool (are_boolean_step ss) (Expr-F.Xor xs)

  boolean-or : (xs : List Expr) → are_boolean ss (expr.Or xs) ≡ all_of (map (are_boolean ss) xs)
  boolean-or xs = ap (are_boolean ss) (sym (expr.rolls-Or xs)) ∙ fold-roll-Expr Bool (are_boolean_step ss) (Expr-F.Or xs)

  fit-leaf : (e : Expr) → variables_fit ss (tree.Leaf e) ≡ are_boolean ss e
  fit-leaf e = ap (variables_fit ss) (sym (tree.rolls-Leaf e)) ∙ fold-roll-Tree Bool (variables_fit_step ss) (Tree-F.Leaf e)

  fit-bus : (es : List Expr) (t : Option ℕ) → variables_fit ss (tree.Bus es t) ≡ (list_all (are_boolean ss) es && list_all (variable_has ss sort.Bus) (option_to_list t))
  fit-bus es t = ap (variables_fit ss) (sym (tree.rolls-Bus es t)) ∙ fold-roll-Tree Bool (variables_fit_step ss) (Tree-F.Bus es t)

  fit-term : (n : ℕ) → variables_fit ss (tree.Var n) ≡ variable_has ss sort.Term n
  fit-term n = ap (variables_fit ss) (sym (tree.rolls-Var n)) ∙ fold-roll-Tree Bool (variables_fit_step ss) (Tree-F.Var n)

  fit-int : (z : ℤ) → variables_fit ss (tree.Int z) ≡ true
  fit-int z = ap (variables_fit ss) (sym (tree.rolls-Int z)) ∙ fold-roll-Tree Bool (variables_fit_step ss) (Tree-F.Int z)

  pub fit-node : (n : ℕ) (ts : List Tree) → variables_fit ss (tree.Node n ts) ≡ all_of (map (variables_fit ss) ts)
  fit-node n ts = ap (variables_fit ss) (sym (tree.rolls-Node n ts)) ∙ fold-roll-Tree Bool (variables_fit_step ss) (Tree-F.Node n ts)

pub sort-leaf : (e : Expr) → tree_sort (tree.Leaf e) ≡ sort.Bool
sort-leaf e = ap tree_sort (sym (tree.rolls-Leaf e)) ∙ fold-roll-Tree Sort tree_sort_step (Tree-F.Leaf e)

pub sort-bus : (es : List Expr) (t : Option ℕ) → tree_sort (tree.Bus es t) ≡ sort.Bus
sort-bus es t = ap tree_sort (sym (tree.rolls-Bus es t)) ∙ fold-roll-Tree Sort tree_sort_step (Tree-F.Bus es t)

pub sort-term : (n : ℕ) → tree_sort (tree.Var n) ≡ sort.Term
sort-term n = ap tree_sort (sym (tree.rolls-Var n)) ∙ fold-roll-Tree Sort tree_sort_step (Tree-F.Var n)

pub sort-int : (z : ℤ) → tree_sort (tree.Int z) ≡ sort.Term
sort-int z = ap tree_sort (sym (tree.rolls-Int z)) ∙ fold-roll-Tree Sort tree_sort_step (Tree-F.Int z)

pub sort-node : (n : ℕ) (ts : List Tree) → tree_sort (tree.Node n ts) ≡ sort.Term
sort-node n ts = ap tree_sort (sym (tree.rolls-Node n ts)) ∙ fold-roll-Tree Sort tree_sort_step (Tree-F.Node n ts)

-- a form at a sort stands for a tree of that sort
pub tree_has_sort : (d : Declared) (n : Numbering) (s : Sort) (f : Form) → tree_sort (as_tree d n s f) ≡ s
tree_has_sort d n sort.Bool f = sort-leaf _
tree_has_sort d n sort.Bus f = sort-bus _ _
tree_has_sort d n sort.Term (Variable x) = sort-term _
tree_has_sort d n sort.Term (Integer z) = sort-int z
tree_has_sort d n sort.Term (Name x fs) = sort-node _ _
tree_has_sort d n sort.Term (Closed fs) = sort-int _
tree_has_sort d n sort.Term (Open fs f) = sort-int _
tree_has_sort d n sort.Term (Not f) = sort-int _
tree_has_sort d n sort.Term (And fs) = sort-int _
tree_has_sort d n sort.Term (Xor fs) = sort-int _
tree_has_sort d n sort.Term (Or fs) = sort-int _

pub same_sort_refl : (s : Sort) → same_sort s s ≡ true
same_sort_refl sort.Bool = refl
same_sort_refl sort.Bus = refl
same_sort_refl sort.Term = refl

-- ---- booleans

pub and_both : (a b : Bool) → a ≡ true → b ≡ true → (a && b) ≡ true
and_both true b h k = k
and_both false b h k = absurd (cc)

pub all_both : {A : Type 0} (p : A → Bool) (xs ys : List A) → list_all p xs ≡ true → list_all p ys ≡ true → list_all p (xs ++ ys) ≡ true
all_both p [] ys h k = k
all_both p (x ∷ xs) ys h k = let e = and_parts (p x) (list_all p xs) h in and_both (p x) (list_all p (xs ++ ys)) e.0 (all_both p xs ys e.1 k)

pub all_map : {A : Type 0} (p : A → Bool) (xs : List A) → list_all p xs ≡ true → all_of (map p xs) ≡ true
all_map p [] h = refl
all_map p (x ∷ xs) h = let e = and_parts (p x) (list_all p xs) h in and_both (p x) (all_of (map p xs)) e.0 (all_map p xs e.1)

pub all_front : {A : Type 0} (p : A → Bool) (xs ys : List A) → list_all p (xs ++ ys) ≡ true → list_all p xs ≡ true
all_front p [] ys h = refl
all_front p (x ∷ xs) ys h = let e = and_parts (p x) (list_all p (xs ++ ys)) h in and_both (p x) (list_all p xs) e.0 (all_front p xs ys e.1)

pub all_behind : {A : Type 0} (p : A → Bool) (xs ys : List A) → list_all p (xs ++ ys) ≡ true → list_all p ys ≡ true
all_behind p [] ys h = h
all_behind p (x ∷ xs) ys h = all_behind p xs ys (and_parts (p x) (list_all p (xs ++ ys)) h).1

-- ---- variables

module _ (d : Declared) (n : Numbering) (ss : List Sort) where
  -- each variable that is a place has its sort
  abbrev pub AreSorted : List Place → Type 0
  AreSorted ps = (s : Sort) (x : Text) → Contains ps (s, Variable x) → variable_has ss s (number_in n.variables x) ≡ true

  pub sorted_front : (ps qs : List Place) → AreSorted (ps ++ qs) → AreSorted ps
  sorted_front ps qs h s x c = h s x (Contains-append_left ps qs (s, Variable x) c)

  pub sorted_behind : (ps qs : List Place) → AreSorted (ps ++ qs) → AreSorted qs
  sorted_behind ps qs h s x c = h s x (Contains-append_right ps qs (s, Variable x) c)

  pub sorted_here : (s : Sort) (x : Text) (ps : List Place) → AreSorted ((s, Variable x) ∷ ps) → variable_has ss s (number_in n.variables x) ≡ true
  sorted_here s x ps h = h s x (0, omega arith, refl)

  bit_fits : (z : ℤ) → are_boolean ss (bit_expr z) ≡ true
  bit_fits (pos zero) = boolean-zero ss
  bit_fits (pos (suc k)) = boolean-one ss
  bit_fits z = boolean-one ss

  mutual
    expr_fits : (f : Form) → AreSorted ((sort.Bool, f) ∷ below d f) → are_boolean ss (as_expr n f) ≡ true
    expr_fits (Variable x) h = boolean-var ss (number_in n.variables x) ∙ sorted_here sort.Bool x [] h
    expr_fits (Integer z) h = bit_fits z
    expr_fits (Name x fs) h = boolean-const ss (number_in n.constants x)
    expr_fits (Not f) h = boolean-not ss (as_expr n f) ∙ expr_fits f (sorted_behind ((sort.Bool, Not f) ∷ []) ((sort.Bool, f) ∷ below d f) h)
    expr_fits (And fs) h = boolean-and ss (as_exprs n fs) ∙ all_map (are_boolean ss) (as_exprs n fs) (exprs_fit fs (sorted_behind ((sort.Bool, And fs) ∷ []) (operand_places d fs) h))
    expr_fits (Xor fs) h = boolean-xor ss (as_exprs n fs) ∙ all_map (are_boolean ss) (as_exprs n fs) (exprs_fit fs (sorted_behind ((sort.Bool, Xor fs) ∷ []) (operand_places d fs) h))
    expr_fits (Or fs) h = boolean-or ss (as_exprs n fs) ∙ all_map (are_boolean ss) (as_exprs n fs) (exprs_fit fs (sorted_behind ((sort.Bool, Or fs) ∷ []) (operand_places d fs) h))
    expr_fits (Closed fs) h = boolean-zero ss
    expr_fits (Open fs f) h = boolean-zero ss

    exprs_fit : (fs : Forms) → AreSorted (operand_places d fs) → list_all (are_boolean ss) (as_exprs n fs) ≡ true
    exprs_fit Last h = refl
    exprs_fit (More f fs) h =
        and_both (are_boolean ss (as_expr n f)) (list_all (are_boolean ss) (as_exprs n fs))
        (expr_fits f (sorted_front ((sort.Bool, f) ∷ below d f) (operand_places d fs) h))
        (exprs_fit fs (sorted_behind ((sort.Bool, f) ∷ below d f) (operand_places d fs) h))

  -- the elements of a bus are Boolean, and its tail is a bus
  pub record BusFits (r : List Expr × Option ℕ) : Type 0 where
    pub elements : list_all (are_boolean ss) r.0 ≡ true
    pub tail : list_all (variable_has ss sort.Bus) (option_to_list r.1) ≡ true

  bus_fits : (f : Form) → AreSorted ((sort.Bus, f) ∷ below d f) → BusFits (as_bus n f)
  bus_fits (Variable x) h = record { elements = refl; tail = and_both (variable_has ss sort.Bus (number_in n.variables x)) true (sorted_here sort.Bus x [] h) refl }
  bus_fits (Closed fs) h = record { elements = exprs_fit fs (sorted_behind ((sort.Bus, Closed fs) ∷ []) (operand_places d fs) h); tail = refl }
  bus_fits (Open fs f) h =
      let all : AreSorted (operand_places d fs ++ ((sort.Bus, f) ∷ below d f)) = sorted_behind ((sort.Bus, Open fs f) ∷ []) (operand_places d fs ++ ((sort.Bus, f) ∷ below d f)) h in
      let first : list_all (are_boolean ss) (as_exprs n fs) ≡ true = exprs_fit fs (sorted_front (operand_places d fs) ((sort.Bus, f) ∷ below d f) all) in
      let rest : BusFits (as_bus n f) = bus_fits f (sorted_behind (operand_places d fs) ((sort.Bus, f) ∷ below d f) all) in
      record { elements = all_both (are_boolean ss) (as_exprs n fs) (as_bus n f).0 first rest.elements; tail = rest.tail }
  bus_fits (Integer z) h = record { elements = refl; tail = refl }
  bus_fits (Name x fs) h = record { elements = refl; tail = refl }
  bus_fits (Not f) h = record { elements = refl; tail = refl }
  bus_fits (And fs) h = record { elements = refl; tail = refl }
  bus_fits (Xor fs) h = record { elements = refl; tail = refl }
  bus_fits (Or fs) h = record { elements = refl; tail = refl }

  bus_tree : (f : Form) → AreSorted ((sort.Bus, f) ∷ below d f) → variables_fit ss (as_tree d n sort.Bus f) ≡ true
  bus_tree f h =
      let b : BusFits (as_bus n f) = bus_fits f h in
      fit-bus ss (as_bus n f).0 (as_bus n f).1 ∙ and_both (list_all (are_boolean ss) (as_bus n f).0) (list_all (variable_has ss sort.Bus) (option_to_list (as_bus n f).1)) b.elements b.tail

  mutual
    -- a form at a sort, where the variables below it and itself have their sorts
    pub tree_sorted : (f : Form) (s : Sort) → AreSorted ((s, f) ∷ below d f) → variables_fit ss (as_tree d n s f) ≡ true
    tree_sorted (Variable x) sort.Bool h = fit-leaf ss (as_expr n (Variable x)) ∙ expr_fits (Variable x) h
    tree_sorted (Integer z) sort.Bool h = fit-leaf ss (as_expr n (Integer z)) ∙ expr_fits (Integer z) h
    tree_sorted (Name x fs) sort.Bool h = fit-leaf ss (as_expr n (Name x fs)) ∙ expr_fits (Name x fs) h
    tree_sorted (Closed fs) sort.Bool h = fit-leaf ss (as_expr n (Closed fs)) ∙ expr_fits (Closed fs) h
    tree_sorted (Open fs f) sort.Bool h = fit-leaf ss (as_expr n (Open fs f)) ∙ expr_fits (Open fs f) h
    tree_sorted (Not f) sort.Bool h = fit-leaf ss (as_expr n (Not f)) ∙ expr_fits (Not f) h
    tree_sorted (And fs) sort.Bool h = fit-leaf ss (as_expr n (And fs)) ∙ expr_fits (And fs) h
    tree_sorted (Xor fs) sort.Bool h = fit-leaf ss (as_expr n (Xor fs)) ∙ expr_fits (Xor fs) h
    tree_sorted (Or fs) sort.Bool h = fit-leaf ss (as_expr n (Or fs)) ∙ expr_fits (Or fs) h
    tree_sorted f sort.Bus h = bus_tree f h
    tree_sorted (Variable x) sort.Term h = fit-term ss (number_in n.variables x) ∙ sorted_here sort.Term x [] h
    tree_sorted (Integer z) sort.Term h = fit-int ss z
    tree_sorted (Name x fs) sort.Term h =
        fit-node ss (sign_number n.names (x, count_of fs)) (as_trees d n (sorts_of d (x, count_of fs)) fs)
        ∙ trees_sorted fs (sorts_of d (x, count_of fs)) (sorted_behind ((sort.Term, Name x fs) ∷ []) (argument_places d (sorts_of d (x, count_of fs)) fs) h)
    tree_sorted (Closed fs) sort.Term h = fit-int ss _
    tree_sorted (Open fs f) sort.Term h = fit-int ss _
    tree_sorted (Not f) sort.Term h = fit-int ss _
    tree_sorted (And fs) sort.Term h = fit-int ss _
    tree_sorted (Xor fs) sort.Term h = fit-int ss _
    tree_sorted (Or fs) sort.Term h = fit-int ss _

    pub trees_sorted : (fs : Forms) (zs : List Sort) → AreSorted (argument_places d zs fs) → all_of (map (variables_fit ss) (as_trees d n zs fs)) ≡ true
    trees_sorted Last zs h = refl
    trees_sorted (More f fs) [] h = refl
    trees_sorted (More f fs) (s ∷ zs) h =
        and_both (variables_fit ss (as_tree d n s f)) (all_of (map (variables_fit ss) (as_trees d n zs fs)))
        (tree_sorted f s (sorted_front ((s, f) ∷ below d f) (argument_places d zs fs) h))
        (trees_sorted fs zs (sorted_behind ((s, f) ∷ below d f) (argument_places d zs fs) h))

-- ---- compounds

-- the fold gives each tree its sort
abbrev both_of : Sorts → Tree → Sort × Bool
both_of t = fold-Tree (Sort × Bool) (arguments_fit_step t)

abbrev IsSortOf : Sorts → Tree → Type 0
IsSortOf t x = (both_of t x).0 ≡ tree_sort x

sort_roll : (t : Sorts) (x : Tree-F Tree) → IsSortOf t (roll-Tree x)
sort_roll t x = ap (λ (r : Sort × Bool). r.0) (fold-roll-Tree (Sort × Bool) (arguments_fit_step t) x) ∙ by_layer x ∙ sym (fold-roll-Tree Sort tree_sort_step x)
  where
    by_layer : (x : Tree-F Tree) → (arguments_fit_step t (map-Tree Tree (Sort × Bool) (both_of t) x)).0 ≡ tree_sort_step (map-Tree Tree Sort tree_sort x)
    by_layer (Tree-F.Leaf e) = refl
    by_layer (Tree-F.Bus es l) = refl
    by_layer (Tree-F.Var n) = refl
    by_layer (Tree-F.Int z) = refl
    by_layer (Tree-F.Node n xs) = refl

sort_of_both : (t : Sorts) (x : Tree) → IsSortOf t x
sort_of_both t = ind-Tree (IsSortOf t) (λ x y is. sort_roll t x)

sorts_of_all : (t : Sorts) (xs : List Tree) → map (λ (r : Sort × Bool). r.0) (map (both_of t) xs) ≡ map tree_sort xs
sorts_of_all t [] = refl
sorts_of_all t (x ∷ xs) = ap (λ s. s ∷ map (λ (r : Sort × Bool). r.0) (map (both_of t) xs)) (sort_of_both t x) ∙ ap (λ l. tree_sort x ∷ l) (sorts_of_all t xs)

fits_of_all : (t : Sorts) (xs : List Tree) → map (λ (r : Sort × Bool). r.1) (map (both_of t) xs) ≡ map (arguments_fit t) xs
fits_of_all t [] = refl
fits_of_all t (x ∷ xs) = ap (λ l. arguments_fit t x ∷ l) (fits_of_all t xs)

module _ (t : Sorts) where
  pub args-leaf : (e : Expr) → arguments_fit t (tree.Leaf e) ≡ true
  args-leaf e = ap (arguments_fit t) (sym (tree.rolls-Leaf e)) ∙ ap (λ (r : Sort × Bool). r.1) (fold-roll-Tree (Sort × Bool) (arguments_fit_step t) (Tree-F.Leaf e))

  pub args-bus : (es : List Expr) (l : Option ℕ) → arguments_fit t (tree.Bus es l) ≡ true
  args-bus es l = ap (arguments_fit t) (sym (tree.rolls-Bus es l)) ∙ ap (λ (r : Sort × Bool). r.1) (fold-roll-Tree (Sort × Bool) (arguments_fit_step t) (Tree-F.Bus es l))

  pub args-term : (n : ℕ) → arguments_fit t (tree.Var n) ≡ true
  args-term n = ap (arguments_fit t) (sym (tree.rolls-Var n)) ∙ ap (λ (r : Sort × Bool). r.1) (fold-roll-Tree (Sort × Bool) (arguments_fit_step t) (Tree-F.Var n))

  pub args-int : (z : ℤ) → arguments_fit t (tree.Int z) ≡ true
  args-int z = ap (arguments_fit t) (sym (tree.rolls-Int z)) ∙ ap (λ (r : Sort × Bool). r.1) (fold-roll-Tree (Sort × Bool) (arguments_fit_step t) (Tree-F.Int z))

  pub args-node : (n : ℕ) (xs : List Tree) → arguments_fit t (tree.Node n xs) ≡ (same_sorts (get_or t n []) (map tree_sort xs) && all_of (map (arguments_fit t) xs))
  args-node n xs =
      ap (arguments_fit t) (sym (tree.rolls-Node n xs)) ∙ ap (λ (r : Sort × Bool). r.1) (fold-roll-Tree (Sort × Bool) (arguments_fit_step t) (Tree-F.Node n xs))
      ∙ ap (λ l. same_sorts (get_or t n []) l && all_of (map (λ (r : Sort × Bool). r.1) (map (both_of t) xs))) (sorts_of_all t xs)
      ∙ ap (λ l. same_sorts (get_or t n []) (map tree_sort xs) && all_of l) (fits_of_all t xs)

-- ---- the table

abbrev pub behind : Option ℕ → Option ℕ
behind None = None
behind (Some k) = Some (1 + k)

pub position-cons : {X : Type 0} (p : X → Bool) (x : X) (xs : List X) → position p (x ∷ xs) ≡ cond (p x) (Some 0) (behind (position p xs))
position-cons p x xs = grind (arith, nat_tests)

-- what some element passes stands at a place
pub none_any : {X : Type 0} (p : X → Bool) (xs : List X) → list_any p xs ≡ true → position p xs ≡ None → ⊥
none_any p [] h e = absurd (cc)
none_any p (x ∷ xs) h e = step (p x) (position p xs) refl h (sym (position-cons p x xs) ∙ e) (none_any p xs)
  where
    step : (b : Bool) (o : Option ℕ) → position p xs ≡ o → (b || list_any p xs) ≡ true → cond b (Some 0) (behind o) ≡ None → (list_any p xs ≡ true → position p xs ≡ None → ⊥) → ⊥
    step true o is h e r = absurd (cc)
    step false None is h e r = r h is
    step false (Some m) is h e r = absurd (cc)

pub same_signs : (a b : Sign) → same_sign a b ≡ true → a ≡ b
same_signs a b h =
    let e = and_parts (bytes_eq a.0 b.0) (eqb a.1 b.1) h in
    let one : a.0 ≡ b.0 = (bytes_eq-Decides a.0 b.0).0 e.0 in
    let two : a.1 ≡ b.1 = eqb-true a.1 b.1 e.1 in
    ap (λ x. (x, a.1)) one ∙ ap (λ k. (b.0, k)) two

-- what stands in a table made from names, at the number of one
pub table_at : (d : Declared) (names : List Sign) (a : Sign) → has_sign names a ≡ true → get_or (map (sorts_of d) names) (sign_number names a) [] ≡ sorts_of d a
table_at d [] a h = absurd (cc)
table_at d (x ∷ xs) a h =
    subst (λ (o : Option ℕ). get_or (map (sorts_of d) (x ∷ xs)) (unwrap_or o 0) [] ≡ sorts_of d a) (sym (position-cons (same_sign a) x xs))
    (step (same_sign a x) (position (same_sign a) xs) refl refl h (table_at d xs a))
  where
    step : (b : Bool) (o : Option ℕ) → same_sign a x ≡ b → position (same_sign a) xs ≡ o → (b || has_sign xs a) ≡ true → (has_sign xs a ≡ true → get_or (map (sorts_of d) xs) (unwrap_or (position (same_sign a) xs) 0) [] ≡ sorts_of d a) →
        get_or (map (sorts_of d) (x ∷ xs)) (unwrap_or (cond b (Some 0) (behind o)) 0) [] ≡ sorts_of d a
    step true o same e g k = ap (sorts_of d) (sym (same_signs a x same))
    step false None same e g k = absurd (none_any (same_sign a) xs g e)
    step false (Some m) same e g k =
        let next : 1 + m ≡ suc m = omega arith in
        ap (λ i. get_or (map (sorts_of d) (x ∷ xs)) i []) next ∙ subst (λ (o : Option ℕ). get_or (map (sorts_of d) xs) (unwrap_or o 0) [] ≡ sorts_of d a) e (k g)

module _ (d : Declared) (n : Numbering) (counted : (a : Sign) → length (sorts_of d a) ≡ a.1) where
  abbrev t : Sorts
  t = map (sorts_of d) n.names

  -- the names of a form are among the numbered ones
  abbrev pub HasNames : List Sign → Type 0
  HasNames as' = list_all (has_sign n.names) as' ≡ true

  sorts_agree : (zs : List Sort) (fs : Forms) → length zs ≡ count_of fs → same_sorts zs (map tree_sort (as_trees d n zs fs)) ≡ true
  sorts_agree [] Last h = refl
  sorts_agree [] (More f fs) h = absurd (omega (arith, h))
  sorts_agree (s ∷ zs) Last h = absurd (omega (arith, h))
  sorts_agree (s ∷ zs) (More f fs) h =
      and_both (same_sort s (tree_sort (as_tree d n s f))) (same_sorts zs (map tree_sort (as_trees d n zs fs)))
      (ap (same_sort s) (tree_has_sort d n s f) ∙ same_sort_refl s) (sorts_agree zs fs (omega (arith, h)))

  mutual
    pub tree_named : (f : Form) (s : Sort) → HasNames (signs_of f) → arguments_fit t (as_tree d n s f) ≡ true
    tree_named f sort.Bool h = args-leaf t (as_expr n f)
    tree_named f sort.Bus h = args-bus t (as_bus n f).0 (as_bus n f).1
    tree_named (Variable x) sort.Term h = args-term t _
    tree_named (Integer z) sort.Term h = args-int t z
    tree_named (Name x fs) sort.Term h =
        let a : Sign = (x, count_of fs) in
        let e = and_parts (has_sign n.names a) (list_all (has_sign n.names) (signs_in fs)) h in
        args-node t (sign_number n.names a) (as_trees d n (sorts_of d a) fs)
        ∙ and_both (same_sorts (get_or t (sign_number n.names a) []) (map tree_sort (as_trees d n (sorts_of d a) fs))) (all_of (map (arguments_fit t) (as_trees d n (sorts_of d a) fs)))
        (ap (λ l. same_sorts l (map tree_sort (as_trees d n (sorts_of d a) fs))) (table_at d n.names a e.0) ∙ sorts_agree (sorts_of d a) fs (counted a))
        (trees_named fs (sorts_of d a) e.1)
    tree_named (Closed fs) sort.Term h = args-int t _
    tree_named (Open fs f) sort.Term h = args-int t _
    tree_named (Not f) sort.Term h = args-int t _
    tree_named (And fs) sort.Term h = args-int t _
    tree_named (Xor fs) sort.Term h = args-int t _
    tree_named (Or fs) sort.Term h = args-int t _

    pub trees_named : (fs : Forms) (zs : List Sort) → HasNames (signs_in fs) → all_of (map (arguments_fit t) (as_trees d n zs fs)) ≡ true
    trees_named Last zs h = refl
    trees_named (More f fs) [] h = refl
    trees_named (More f fs) (s ∷ zs) h =
        and_both (arguments_fit t (as_tree d n s f)) (all_of (map (arguments_fit t) (as_trees d n zs fs)))
        (tree_named f s (all_front (has_sign n.names) (signs_of f) (signs_in fs) h))
        (trees_named fs zs (all_behind (has_sign n.names) (signs_of f) (signs_in fs) h))

  -- so a form fits its place
  pub form_fits : (ss : List Sort) (s : Sort) (f : Form) → AreSorted d n ss ((s, f) ∷ below d f) → HasNames (signs_of f) → tree_fits t ss s (as_tree d n s f) ≡ true
  form_fits ss s f h k =
      and_both (same_sort s (tree_sort (as_tree d n s f))) (variables_fit ss (as_tree d n s f) && arguments_fit t (as_tree d n s f))
      (ap (same_sort s) (tree_has_sort d n s f) ∙ same_sort_refl s)
      (and_both (variables_fit ss (as_tree d n s f)) (arguments_fit t (as_tree d n s f)) (tree_sorted d n ss f s h) (tree_named f s k))
