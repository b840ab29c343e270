-- The sizes and bounds, each by the equations of its own constructors.
use Rattle.std.proofs.Common.{◌≡◌, ℕ, zero, suc, ◌+◌, ◌<◌, ◌≤◌, Bool, true, false, List, [], ◌∷◌, ◌++◌, map, length, refl, sym, ◌∙◌, ap, subst, inl, inr, codes, arith, lit<, ℤ, bytes_eq}
use Rattle.std.specs.Prelude.{Option, Some, None, flat_map, slice_get, Contains, ◌⊎◌}
use Rattle.cb_model.specs.declared.Expr.{Expr}
use Rattle.cb_model.specs.declared.Expr.TheVariants as expr
use Rattle.cb_model.specs.declared.Expr.TheOpen.{Expr-F}
use Rattle.cb_model.specs.declared.Expr.TheFolds.{fold-roll-Expr}
use Rattle.cb_model.specs.declared.Tree.{Tree}
use Rattle.cb_model.specs.declared.Tree.TheVariants as tree
use Rattle.cb_model.specs.declared.Tree.TheOpen.{Tree-F}
use Rattle.cb_model.specs.declared.Tree.TheFolds.{fold-roll-Tree}
use Rattle.cb_model.specs.declared.Clause.{Clause}
use Rattle.cb_model.specs.Text.{Text}
use Rattle.cb_model.specs.Derivation.{Branch, Entry, Run, Try, Change, Becomes, Adds, Moves, Replaces, Note, Made, Goes, here, on, SoFar, End, Whole, Stopped, Resolutions, Variables, Equations, stops, runs, resolved, first_branch, printed_of, stretch_after, stop_of, notes_of, resolutions_of}
use Rattle.cb_model.specs.Answers.{IsShape, leaves, with_opens}
use Rattle.cb_model.specs.Room.{expr_size, expr_size_step, tree_size, tree_size_step, room_with, BelowRoom}
use Rattle.cb_model.specs.Commands.{Only}
use Rattle.cb_model.specs.Output.{QuerySays, all, few, few_adding, no_lines, TooFew, end_text}
use Rattle.cb_laws.proofs.Shapes.{shape_values}
use Rattle.cb_laws.proofs.OneShape.{shape_is_one}
use Rattle.cb_laws.proofs.OneLine.{room_is_one}
use Rattle.cb_rows.specs.BoundExamples.{BoundExamples}
use Rattle.cb_rows.specs.RoomRow as row
use Rattle.cb_rows.proofs.RoomRow as rows

-- ---- one layer of each size

layer-zero : expr_size expr.Zero ≡ expr_size_step Expr-F.Zero
layer-zero = ap expr_size (sym expr.rolls-Zero) ∙ fold-roll-Expr ℕ expr_size_step Expr-F.Zero

layer-one : expr_size expr.One ≡ expr_size_step Expr-F.One
layer-one = ap expr_size (sym expr.rolls-One) ∙ fold-roll-Expr ℕ expr_size_step Expr-F.One

layer-const : (k : ℕ) → expr_size (expr.Const k) ≡ expr_size_step (Expr-F.Const k)
layer-const k = ap expr_size (sym (expr.rolls-Const k)) ∙ fold-roll-Expr ℕ expr_size_step (Expr-F.Const k)

layer-var : (n : ℕ) → expr_size (expr.Var n) ≡ expr_size_step (Expr-F.Var n)
layer-var n = ap expr_size (sym (expr.rolls-Var n)) ∙ fold-roll-Expr ℕ expr_size_step (Expr-F.Var n)

layer-not : (e : Expr) → expr_size (expr.Not e) ≡ expr_size_step (Expr-F.Not (expr_size e))
layer-not e = ap expr_size (sym (expr.rolls-Not e)) ∙ fold-roll-Expr ℕ expr_size_step (Expr-F.Not e)

layer-and : (es : List Expr) → expr_size (expr.And es) ≡ expr_size_step (Expr-F.And (map expr_size es))
layer-and es = ap expr_size (sym (expr.rolls-And es)) ∙ fold-roll-Expr ℕ expr_size_step (Expr-F.And es)

layer-xor : (es : List Expr) → expr_size (expr.Xor es) ≡ expr_size_step (Expr-F.Xor (map expr_size es))
layer-xor es = ap expr_size (sym (expr.rolls-Xor es)) ∙ fold-roll-Expr ℕ expr_size_step (Expr-F.Xor es)

layer-or : (es : List Expr) → expr_size (expr.Or es) ≡ expr_size_step (Expr-F.Or (map expr_size es))
layer-or es = ap expr_size (sym (expr.rolls-Or es)) ∙ fold-roll-Expr ℕ expr_size_step (Expr-F.Or es)

layer-leaf : (e : Expr) → tree_size (tree.Leaf e) ≡ tree_size_step (Tree-F.Leaf e)
layer-leaf e = ap tree_size (sym (tree.rolls-Leaf e)) ∙ fold-roll-Tree ℕ tree_size_step (Tree-F.Leaf e)

layer-bus : (es : List Expr) (t : Option ℕ) → tree_size (tree.Bus es t) ≡ tree_size_step (Tree-F.Bus es t)
layer-bus es t = ap tree_size (sym (tree.rolls-Bus es t)) ∙ fold-roll-Tree ℕ tree_size_step (Tree-F.Bus es t)

layer-term : (n : ℕ) → tree_size (tree.Var n) ≡ tree_size_step (Tree-F.Var n)
layer-term n = ap tree_size (sym (tree.rolls-Var n)) ∙ fold-roll-Tree ℕ tree_size_step (Tree-F.Var n)

layer-int : (z : ℤ) → tree_size (tree.Int z) ≡ tree_size_step (Tree-F.Int z)
layer-int z = ap tree_size (sym (tree.rolls-Int z)) ∙ fold-roll-Tree ℕ tree_size_step (Tree-F.Int z)

layer-node : (n : ℕ) (ts : List Tree) → tree_size (tree.Node n ts) ≡ tree_size_step (Tree-F.Node n (map tree_size ts))
layer-node n ts = ap tree_size (sym (tree.rolls-Node n ts)) ∙ fold-roll-Tree ℕ tree_size_step (Tree-F.Node n ts)

ruleset layers = (layer-zero, layer-one, layer-const, layer-var, layer-not, layer-and, layer-xor, layer-or, layer-leaf, layer-bus, layer-term, layer-int, layer-node)

-- ---- numbers below a bound

first_not : BelowRoom row.p row.names (first_branch row.q) 1179648 → ⊥
first_not h =
    let k : 1179648 < room_with row.p (first_branch row.q) (length (flat_map leaves (tree.Leaf row.X ∷ []))) =
    (room_is_one row.p row.names (first_branch row.q) (tree.Leaf row.X ∷ []) 1179648 rows.solvable rows.one_leaf).0 h in
    let n : 1179648 < 1179648 = simp (shape_values, layers) at k in
    absurd (omega (arith, n))

dropped_not : BelowRoom row.p row.names row.dropped 102400 → ⊥
dropped_not (inl h) = let n : 102400 < 102400 = subst (λ k. 102400 < k) rows.dropped_bound h in absurd (omega (arith, n))
dropped_not (inr h) = rows.no_solution h.0

-- ---- a stop for another budget

abbrev first : Branch
first = first_branch row.name_query

abbrev tried : List Entry
tried = Try row.name_behind 0 [] 0 ∷ []

one_term : IsShape row.name_program.world [] (tree.Var 0 ∷ []) (tree.Var 0 ∷ [])
one_term = record {
  only_leaves = simp shape_values refl;
  leaf_order = simp shape_values refl;
  open_order = simp shape_values (inr (refl, tt));
  covers = λ a b m. (b, (m.sorted, refl));
  free = λ a b o o' m e sorted. (with_opens o o', (record { admitted = m.admitted; sorted = sorted; sat = tt }, refl));
}

-- 12799 nodes are enough for the first branch
first_none : BelowRoom row.name_program row.names first 12799 → ⊥
first_none (inl h) = let n : 12799 < 8192 = subst (λ k. 12799 < k) rows.name_first_bound h in absurd (omega (arith, n))
first_none (inr h) =
    let same : h.1.0 ≡ tree.Var 0 ∷ [] = shape_is_one row.name_program.world [] (tree.Var 0 ∷ []) h.1.0 (tree.Var 0 ∷ []) h.0 h.1.1.0 one_term in
    let k : 12799 < room_with row.name_program first (length (flat_map leaves (tree.Var 0 ∷ []))) = subst (λ ts. 12799 < room_with row.name_program first (length (flat_map leaves ts))) same h.1.1.1 in
    let n : 12799 < 8192 = simp (shape_values, layers) at k in
    absurd (omega (arith, n))

top_of : Entry → List Entry → Entry
top_of x [] = x
top_of x (y ∷ ys) = y

rest_of : List Entry → List Entry
rest_of [] = []
rest_of (y ∷ ys) = ys

top_is : (x y : Entry) (s t : List Entry) → x ∷ s ≡ y ∷ t → (x ≡ y) × (s ≡ t)
unfolding top_of rest_of
top_is x y s t e = (ap (top_of x) e, ap rest_of e)

calls : (c : Change) → Moves row.name_program (Run first) c → c ≡ Becomes (Try row.name_behind 0 [] 0)
calls c (inl h) = h.1
calls c (inr h) = absurd (h.0 tt)

fact_is : (c : Clause) → slice_get row.name_program.clauses 0 ≡ Some c → c ≡ rows.fact
fact_is c e = cc

tries : (c : Change) → Moves row.name_program (Try row.name_behind 0 [] 0) c → c ≡ Adds 1 [] (resolved row.name_behind 0 [] rows.fact)
tries c m = m.2 ∙ ap (λ r. Adds 1 [] (resolved row.name_behind 0 [] r)) (fact_is m.0 m.1)

-- what was made on the way, and where the run stands
abbrev Begun : List Note → List Entry → Type 0
Begun ns t = ((ns ≡ []) × (t ≡ Run first ∷ [])) ⊎ ((ns ≡ []) × (t ≡ tried))

stop_here : (c : Change) → c ≡ Adds 1 [] (resolved row.name_behind 0 [] rows.fact) → stop_of row.name_program 0 0 c ≡ Some Resolutions
stop_here c e = ap (stop_of row.name_program 0 0) e

from_try : (s t : List Entry) (u : ℕ) (ns : List Note) → s ≡ tried → Goes row.name_program 0 0 s ns u t → (ns ≡ []) × (t ≡ tried)
from_try s t u ns e here = (refl, e)
from_try (x ∷ s) t u ns e (on c es rest m f r i g) =
    let d = top_is x (Try row.name_behind 0 [] 0) s [] e in
    let stop = stop_here c (tries c (subst (λ y. Moves row.name_program y c) d.0 m)) in
    absurd (cc)

from_first : (s t : List Entry) (u : ℕ) (ns : List Note) → s ≡ Run first ∷ [] → Goes row.name_program 0 0 s ns u t → Begun ns t
from_first s t u ns e here = inl (refl, e)
from_first (x ∷ s) t u ns e (on c es rest m f r i g) =
    let d = top_is x (Run first) s [] e in
    let same : c ≡ Becomes (Try row.name_behind 0 [] 0) = calls c (subst (λ y. Moves row.name_program y c) d.0 m) in
    let entries : es ≡ tried = subst (λ c. Replaces row.name_program c es) same r in
    let none_made : ns ≡ rest = i ∙ ap (λ c. notes_of c ++ rest) same in
    let used : 0 + resolutions_of c ≡ 0 = ap (λ k. 0 + resolutions_of k) same in
    let go = from_try (es ++ s) t u rest (ap (λ l. l ++ s) entries ∙ ap (λ l. tried ++ l) d.1) (subst (λ k. Goes row.name_program 0 k (es ++ s) rest u t) used g) in
    inr (none_made ∙ go.0, go.1)

begun : (ns : List Note) (u : ℕ) (t : List Entry) (s : SoFar row.name_program row.name_query 0 ns u t) → Begun s.rest t
begun ns u t s = from_first (Run first ∷ []) t u s.rest refl s.goes

-- nothing but the first branch is made
only_first : (ns : List Note) (u : ℕ) (t : List Entry) → SoFar row.name_program row.name_query 0 ns u t → ns ≡ Made first ∷ []
only_first ns u t s = s.is ∙ ap (λ r. Made first ∷ r) (elim (begun ns u t s) [ inl h ↦ h.0 | inr h ↦ h.0 ])

few_first : TooFew row.name_program row.names (Only 12799) (first ∷ []) → ⊥
few_first t = go t.one
  where
    go : Contains (first ∷ []) t.b → ⊥
    go (zero, l, h) = first_none (subst (λ b. BelowRoom row.name_program row.names b 12799) (sym h) t.too_few)
    go (suc j, l, h) = absurd (omega arith)

abbrev alone : List Text
alone = codes "stopped: nodes" ∷ []

no_front : (xs : List Text) (x : Text) → alone ≡ xs ++ x ∷ [] → xs ≡ []
no_front [] x e = refl
no_front (y ∷ []) x e = absurd (cc)
no_front (y ∷ z ∷ ys) x e = absurd (cc)

is_nodes : List Text → Bool
is_nodes [] = false
is_nodes (x ∷ xs) = bytes_eq x (codes "stopped: nodes")

no_end : (end : End) → alone ≡ end_text end [] ∷ [] → ⊥
unfolding is_nodes
no_end Whole e = let z : true ≡ false = ap is_nodes e in cc
no_end (Stopped Resolutions) e = let z : true ≡ false = ap is_nodes e in cc
no_end (Stopped Variables) e = let z : true ≡ false = ap is_nodes e in cc
no_end (Stopped Equations) e = let z : true ≡ false = ap is_nodes e in cc

not_adding : (e : Entry) (s below : List Entry) (r : ℕ) (b : Branch) (u : ℕ) → Begun [] (e ∷ s) → Moves row.name_program e (Adds r below b) → u ≡ 0 → stop_of row.name_program 0 u (Adds r below b) ≡ None → ⊥
not_adding e s below r b u (inl h) m z f =
    let c : Adds r below b ≡ Becomes (Try row.name_behind 0 [] 0) = calls (Adds r below b) (subst (λ y. Moves row.name_program y (Adds r below b)) (top_is e (Run first) s [] h.1).0 m) in cc
not_adding e s below r b u (inr h) m z f =
    let c = stop_here (Adds r below b) (tries (Adds r below b) (subst (λ y. Moves row.name_program y (Adds r below b)) (top_is e (Try row.name_behind 0 [] 0) s [] h.1).0 m)) in
    let g : stop_of row.name_program 0 0 (Adds r below b) ≡ None = subst (λ u. stop_of row.name_program 0 u (Adds r below b) ≡ None) z f in
    cc

-- no resolution was made
none_used : (s t : List Entry) (u : ℕ) (ns : List Note) → s ≡ tried → Goes row.name_program 0 0 s ns u t → u ≡ 0
none_used s t u ns e here = refl
none_used (x ∷ s) t u ns e (on c es rest m f r i g) =
    let d = top_is x (Try row.name_behind 0 [] 0) s [] e in
    let stop = stop_here c (tries c (subst (λ y. Moves row.name_program y c) d.0 m)) in
    absurd (cc)

used_none : (s t : List Entry) (u : ℕ) (ns : List Note) → s ≡ Run first ∷ [] → Goes row.name_program 0 0 s ns u t → u ≡ 0
used_none s t u ns e here = refl
used_none (x ∷ s) t u ns e (on c es rest m f r i g) =
    let d = top_is x (Run first) s [] e in
    let same : c ≡ Becomes (Try row.name_behind 0 [] 0) = calls c (subst (λ y. Moves row.name_program y c) d.0 m) in
    let entries : es ≡ tried = subst (λ c. Replaces row.name_program c es) same r in
    none_used (es ++ s) t u rest (ap (λ l. l ++ s) entries ∙ ap (λ l. tried ++ l) d.1) (subst (λ k. Goes row.name_program 0 k (es ++ s) rest u t) (ap (λ k. 0 + resolutions_of k) same) g)

refuse : (lines : List Text) (stop : Bool) → lines ≡ alone → QuerySays row.name_program row.name_query row.names 0 (Only 12799) lines stop → ⊥
refuse lines stop a (all ns end xs pl ls l s) =
    let n : xs ≡ [] = no_front xs (end_text end xs) (sym a ∙ l) in
    no_end end (sym a ∙ l ∙ ap (λ ys. ys ++ end_text end ys ∷ []) n)
refuse lines _ a (few ns u t k xs so le ls f l) =
    let is : ns ≡ Made first ∷ [] = only_first ns u t so in
    let z : k ≡ 0 = (let h : k ≤ 0 = subst (λ ms. k ≤ length (printed_of ms)) is le in omega (arith, h)) in
    few_first (subst (λ ms. TooFew row.name_program row.names (Only 12799) (stretch_after 0 ms)) is (subst (λ j. TooFew row.name_program row.names (Only 12799) (stretch_after j ns)) z f))
refuse lines _ a (few_adding ns u e s r below b xs so m st ls f l) =
    let none : so.rest ≡ [] = elim (begun ns u (e ∷ s) so) [ inl h ↦ h.0 | inr h ↦ h.0 ] in
    not_adding e s below r b u (subst (λ l. Begun l (e ∷ s)) none (begun ns u (e ∷ s) so)) m (used_none (Run first ∷ []) (e ∷ s) u so.rest refl so.goes) st

name_stops : QuerySays row.name_program row.name_query row.names 0 (Only 12799) (codes "stopped: resolutions" ∷ []) true
name_stops =
    all (Made first ∷ []) (Stopped Resolutions) []
    (runs 0 tried (record { begins = refl; rest = []; goes = on (Becomes (Try row.name_behind 0 [] 0)) tried [] (inl (tt, refl)) refl refl refl here; is = refl })
    (stops (Adds 1 [] (resolved row.name_behind 0 [] rows.fact)) (rows.fact, refl, refl) refl))
    no_lines refl refl

pub rows_hold : BoundExamples
rows_hold = record {
  leaf_sizes = simp layers refl;
  not_size = simp layers refl;
  and_sizes = simp layers refl;
  xor_sizes = simp layers refl;
  or_sizes = simp layers refl;
  bit_size = simp layers refl;
  bus_sizes = simp layers refl;
  term_sizes = simp layers refl;
  compound_size = simp layers refl;
  call_sizes = simp layers refl;
  plain_goals = simp layers refl;
  circuit_goal = simp layers refl;
  calls = simp layers refl;
  pins = refl;
  pair_size = simp layers refl;
  part_size = simp layers refl;
  rule_size = simp layers refl;
  demon_rules = simp layers refl;
  no_rules = refl;
  goals_size = simp layers refl;
  items_size = simp layers refl;
  waiting_size = simp layers refl;
  widest_clause = refl;
  widest_of_both = refl;
  formula = refl;
  of_widest = simp layers refl;
  of_leaves = simp layers refl;
  last_below = inl (subst (λ k. 102399 < k) (sym rows.dropped_bound) (lit< tt));
  not_the_bound = dropped_not;
  not_the_first_bound = first_not;
  max_suffices = λ h. h;
  resolutions_first = λ s. refuse alone true refl s;
  says_resolutions = name_stops;
  comparison = refl;
  two_modules = refl;
}
