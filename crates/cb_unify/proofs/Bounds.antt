-- The nodes that writing trees adds.
use Rattle.std.proofs.Common.{◌≡◌, ℕ, ◌+◌, ◌-◌, ◌*◌, ◌^◌, ◌<◌, ◌≤◌, true, List, [], ◌∷◌, length, take, drop, Option, sym, ap, subst, ◌∙◌, arith}
use Rattle.std.specs.Prelude.{get_or, sum, sum_by}
use Rattle.std.proofs.lemmas.List.Sums.{sum-map, sum_by_more, sum_by_more_le, sum_by-take-le, sum_by-drop_more, sum_by-take-drop}
use Rattle.cb_model.specs.declared.Expr.{Expr}
use Rattle.cb_model.specs.declared.Tree.{Tree}
use Rattle.cb_model.specs.declared.Tree.TheOpen.{Tree-F}
use Rattle.cb_model.specs.declared.Tree.TheVariants as tree
use Rattle.cb_model.specs.declared.Tree.TheFolds.{fold-Tree, fold-roll-Tree}
use Rattle.cb_model.specs.Outside.{Rose}
use Rattle.cb_model.specs.Room.{expr_size, tree_size, tree_size_step}
use Rattle.cb_model.specs.Values.{in_scope}
use Rattle.cb_laws.proofs.Shapes.{size-bus}
use Rattle.cb_dd.specs.Diagram.{Store as Nodes}
use Rattle.cb_elim.specs.Expression.{AreLevels, ExprCause, ExprRoom}
use Rattle.cb_elim.specs.Laws.{live_levels}
use Rattle.cb_elim.specs.Store.{Seen as Booleans}
use Rattle.cb_elim.specs.Unified.{HasCause}
use Rattle.cb_unify.specs.State.{Seen}
use Rattle.cb_unify.specs.Growth.{IsAdded}
use Rattle.cb_unify.specs.Solve.{width}
use Rattle.cb_unify.specs.Trees.{build_most, nodes_most}
use Rattle.cb_unify.proofs.Solving.{live-count}

pub most-add : (s : Booleans) (m n : ℕ) → nodes_most s (m + n) ≡ nodes_most s m + nodes_most s n
most-add s m n = by (2 ^ width s)
  where
    by : (p : ℕ) → 2 * (m + n) * p ≡ 2 * m * p + 2 * n * p
    by p = grind arith

pub most-le : (s : Booleans) (m n : ℕ) → m ≤ n → nodes_most s m ≤ nodes_most s n
most-le s m n l =
    let k = n - m in
    let e : m + k ≡ n = omega arith in
    let a : nodes_most s n ≡ nodes_most s (m + k) = ap (nodes_most s) (sym e) in
    let b = most-add s m k in
    omega (arith, a, b)

pub most-build : (s : Booleans) (x : Tree) → nodes_most s (2 * tree_size x) ≡ build_most s x
most-build s x = by (tree_size x) (2 ^ width s)
  where
    by : (n p : ℕ) → 2 * (2 * n) * p ≡ 4 * n * p
    by n p = grind arith

pub most-within : (s : Booleans) (x : Tree) → nodes_most s (tree_size x) ≤ build_most s x
most-within s x = let a = most-le s (tree_size x) (2 * tree_size x) (omega arith) in let b = most-build s x in omega (arith, a, b)

pub same-width : (s u : Seen) (n : ℕ) → IsAdded s u n → width u.store ≡ width s.store
same-width s u n p = let a = p.adds.constants in let b = ap length p.adds.free in omega (arith, a, b)

pub same-most : (s u : Seen) (n k : ℕ) → IsAdded s u n → nodes_most u.store k ≡ nodes_most s.store k
same-most s u n k p = ap (λ w. 2 * k * 2 ^ w) (same-width s u n p)

-- ---- one expression

pub expr-room : (s : Booleans) (e : Expr) (n : ℕ) (u : Nodes) → in_scope s.constants n e ≡ true → AreLevels s.nodes.triples s.constants s.slots (live_levels s) → ExprRoom s.slots n e s.nodes u →
    length u.triples ≤ length s.nodes.triples + nodes_most s (expr_size e)
expr-room s e n u scope l r =
    let a = r.most s.constants (live_levels s) scope l in
    let b : 2 * expr_size e * 2 ^ length (live_levels s) ≡ nodes_most s (expr_size e) = ap (λ w. 2 * expr_size e * 2 ^ w) (live-count s) in
    omega (arith, a, b)

pub expr-cause : (s u : Booleans) (e : Expr) → AreLevels s.nodes.triples s.constants s.slots (live_levels s) → ExprCause s u e → HasCause s u (nodes_most s (2 * expr_size e))
expr-cause s u e l c = record {
  rose = c.rose;
  below =
      let a = c.below (live_levels s) l in
      let b : 4 * expr_size e * 2 ^ length (live_levels s) ≡ nodes_most s (2 * expr_size e) = ap (λ w. 4 * expr_size e * 2 ^ w) (live-count s) ∙ sym (by (expr_size e) (2 ^ width s)) in
      omega (arith, a, b);
}
  where
    by : (n p : ℕ) → 2 * (2 * n) * p ≡ 4 * n * p
    by n p = grind arith

-- ---- one after the other

-- a stop after some parts has its cause in the whole
pub cause-after : (s u v : Seen) (n a b c : ℕ) → IsAdded s u n → u.store.nodes.fulls ≡ s.store.nodes.fulls → length u.store.nodes.triples ≤ length s.store.nodes.triples + nodes_most s.store a → a + b ≤ c →
    HasCause u.store v.store (nodes_most u.store (2 * b)) → HasCause s.store v.store (nodes_most s.store (2 * c))
cause-after s u v n a b c p f room l k = record {
  rose = subst (λ x. Rose x v.store.nodes.fulls) f k.rose;
  below =
      let x = k.below in
      let y = p.adds.nodes.budget in
      let z = same-most s u n (2 * b) p in
      let q = most-add s.store a (2 * b) in
      let w = most-le s.store (a + 2 * b) (2 * c) (omega arith) in
      omega (arith, x, y, z, q, w, room);
}

-- more nodes after some parts
pub room-after : (s u : Seen) (v : Nodes) (n a b c : ℕ) → IsAdded s u n → length u.store.nodes.triples ≤ length s.store.nodes.triples + nodes_most s.store a → length v.triples ≤ length u.store.nodes.triples + nodes_most u.store b → a + b ≤ c →
    length v.triples ≤ length s.store.nodes.triples + nodes_most s.store c
room-after s u v n a b c p h k l =
    let z = same-most s u n b p in
    let q = most-add s.store a b in
    let w = most-le s.store (a + b) c l in
    omega (arith, h, k, z, q, w)

pub room-le : (s : Seen) (v : Nodes) (a c : ℕ) → a ≤ c → length v.triples ≤ length s.store.nodes.triples + nodes_most s.store a → length v.triples ≤ length s.store.nodes.triples + nodes_most s.store c
room-le s v a c l h = let w = most-le s.store a c l in omega (arith, h, w)

pub cause-le : (s v : Seen) (a c : ℕ) → a ≤ c → HasCause s.store v.store (nodes_most s.store (2 * a)) → HasCause s.store v.store (nodes_most s.store (2 * c))
cause-le s v a c l h = record { rose = h.rose; below = let w = most-le s.store (2 * a) (2 * c) (omega arith) in let x = h.below in omega (arith, w, x) }

-- ---- sizes

pub size-node : (n : ℕ) (xs : List Tree) → sum_by tree_size xs ≤ tree_size (tree.Node n xs)
size-node n [] = omega arith
size-node n (x ∷ xs) =
    let e : tree_size (tree.Node n (x ∷ xs)) ≡ sum_by tree_size (x ∷ xs) = ap tree_size (sym (tree.rolls-Node n (x ∷ xs))) ∙ fold-roll-Tree ℕ tree_size_step (Tree-F.Node n (x ∷ xs)) ∙ sum-map tree_size (x ∷ xs) in
    omega (arith, e)

pub bus-more : (es : List Expr) (k : ℕ) (d : Expr) → k < length es → sum_by expr_size (drop (k + 1) es) + expr_size (get_or es k d) ≤ sum_by expr_size (drop k es)
bus-more es k d less = let a = sum_by-drop_more expr_size es k d less in omega (arith, a)

pub bus-front : (es : List Expr) (t : Option ℕ) (k : ℕ) → sum_by expr_size (drop k es) ≤ tree_size (tree.Bus es t)
bus-front es t k = let a = sum_by-take-drop expr_size es k in let b = size-bus es t in omega (arith, a, b)

pub bus-part : (es : List Expr) (t : Option ℕ) (k : ℕ) (d : Expr) → k < length es → sum_by expr_size (drop (k + 1) es) + expr_size (get_or es k d) ≤ tree_size (tree.Bus es t)
bus-part es t k d less = let a = bus-more es k d less in let b = bus-front es t k in omega (arith, a, b)

module _ (s now : Seen) (n : ℕ) (es : List Expr) (t : Option ℕ) (k : ℕ) (x : Expr) (is : x ≡ get_or es (k - 1) x) (within : k ≤ length es) (some : 0 < k) (p : IsAdded s now n)
    (room : length now.store.nodes.triples ≤ length s.store.nodes.triples + nodes_most s.store (sum_by expr_size (drop k es))) where
  rest : sum_by expr_size (drop k es) + expr_size x ≤ sum_by expr_size (drop (k - 1) es)
  rest =
      let e : k ≡ k - 1 + 1 = omega arith in
      let b = ap expr_size is in
      let c = subst (λ m. sum_by expr_size (drop m es) + expr_size (get_or es (k - 1) x) ≤ sum_by expr_size (drop (k - 1) es)) (sym e) (bus-more es (k - 1) x (let a : k - 1 < length es = omega arith in a)) in
      omega (arith, b, c)

  whole : sum_by expr_size (drop k es) + expr_size x ≤ tree_size (tree.Bus es t)
  whole = let a = rest in let b = bus-front es t (k - 1) in omega (arith, a, b)

  pub bus-room : (v : Nodes) → length v.triples ≤ length now.store.nodes.triples + nodes_most now.store (expr_size x) → length v.triples ≤ length s.store.nodes.triples + nodes_most s.store (tree_size (tree.Bus es t))
  bus-room v h = room-after s now v n (sum_by expr_size (drop k es)) (expr_size x) (tree_size (tree.Bus es t)) p room h whole

  pub bus-step : (v : Nodes) → length v.triples ≤ length now.store.nodes.triples + nodes_most now.store (expr_size x) → length v.triples ≤ length s.store.nodes.triples + nodes_most s.store (sum_by expr_size (drop (k - 1) es))
  bus-step v h = room-after s now v n (sum_by expr_size (drop k es)) (expr_size x) (sum_by expr_size (drop (k - 1) es)) p room h rest

  pub bus-cause : (v : Seen) → now.store.nodes.fulls ≡ s.store.nodes.fulls → HasCause now.store v.store (nodes_most now.store (2 * expr_size x)) → HasCause s.store v.store (nodes_most s.store (2 * tree_size (tree.Bus es t)))
  bus-cause v f h = cause-after s now v n (sum_by expr_size (drop k es)) (expr_size x) (tree_size (tree.Bus es t)) p f room whole h
