-- The value of a tree depends only on the constants and variables that it may read.
use Rattle.std.proofs.Common.{◌≡◌, ℕ, ◌<◌, Bool, true, nat_lt, List, [], ◌∷◌, map, refl, sym, ◌∙◌, ap, subst, rules}
use Rattle.std.specs.Prelude.{Option, Some, None, option_to_list}
use Rattle.std.specs.List.{list_all}
use Rattle.cb_model.specs.declared.Expr.{Expr}
use Rattle.cb_model.specs.declared.Tree.{Tree}
use Rattle.cb_model.specs.declared.Tree.TheOpen.{Tree-F}
use Rattle.cb_model.specs.declared.Tree.TheViews.{roll-Tree}
use Rattle.cb_model.specs.declared.Tree.TheFolds.{fold-roll-Tree, ind-Tree, map-Tree}
use Rattle.cb_model.specs.Bits.{Bits, AgreeBelow, all_of}
use Rattle.cb_model.specs.Equations.{Item, Pair, Part, PartHolds, Holds, item_in_scope, Sat}
use Rattle.cb_model.specs.Values.{Ground, Bit, Word, Name, grounds, Valuation, expr_value, in_scope, tail_of, tree_step, tree_value, tree_in_scope, tree_in_scope_step}
use Rattle.cb_model.specs.declared.Circuit.{Circuit}
use Rattle.cb_model.specs.Circuits.{Outputs}
use Rattle.cb_laws.proofs.Depends.{depends}
use Rattle.cb_laws.proofs.Decided.{and_true}

below : (k n : ℕ) → nat_lt k n ≡ true → k < n
below k n h = search rules

-- two valuations that agree on the variables below v
pub record AgreeOn (v : ℕ) (b b' : Valuation) : Type 0 where
  pub bits : AgreeBelow v b.bits b'.bits
  pub words : (n : ℕ) → n < v → b.words n ≡ b'.words n
  pub terms : (n : ℕ) → n < v → b.terms n ≡ b'.terms n

pub agree_self : (v : ℕ) (b : Valuation) → AgreeOn v b b
agree_self v b = record { bits = λ n l. refl; words = λ n l. refl; terms = λ n l. refl }

module _ (c v : ℕ) (a a' : Bits) (b b' : Valuation) (p : AgreeBelow c a a') (q : AgreeOn v b b') where
  abbrev Same : Tree → Type 0
  Same t = tree_in_scope c v t ≡ true → tree_value a b t ≡ tree_value a' b' t

  abbrev Sure : Type 0
  Sure = (t : Tree) × Same t

  elements_same : (es : List Expr) → list_all (in_scope c v) es ≡ true → map (expr_value a b.bits) es ≡ map (expr_value a' b'.bits) es
  elements_same [] h = refl
  elements_same (e ∷ es) h =
      let here : expr_value a b.bits e ≡ expr_value a' b'.bits e = depends c v a a' b.bits b'.bits p q.bits e (and_true _ _ h).0 in
      let rest : map (expr_value a b.bits) es ≡ map (expr_value a' b'.bits) es = elements_same es (and_true _ _ h).1 in
      rw (here, rest)

  tail_same : (t : Option ℕ) → list_all (λ n. nat_lt n v) (option_to_list t) ≡ true → tail_of b t ≡ tail_of b' t
  tail_same None h = refl
  tail_same (Some n) h = q.words n (below n v (and_true _ _ h).0)

  trees_same : (ys : List Sure) → all_of (map (tree_in_scope c v) (map (λ e. e.0) ys)) ≡ true →
      map (tree_value a b) (map (λ e. e.0) ys) ≡ map (tree_value a' b') (map (λ e. e.0) ys)
  trees_same [] h = refl
  trees_same (y ∷ ys) h =
      let here : tree_value a b y.0 ≡ tree_value a' b' y.0 = y.1 (and_true _ _ h).0 in
      let rest : map (tree_value a b) (map (λ e. e.0) ys) ≡ map (tree_value a' b') (map (λ e. e.0) ys) = trees_same ys (and_true _ _ h).1 in
      rw (here, rest)

  layer_same : (y : Tree-F Sure) → tree_in_scope_step c v (map-Tree Tree Bool (tree_in_scope c v) (map-Tree Sure Tree (λ e. e.0) y)) ≡ true →
      tree_step a b (map-Tree Tree Ground (tree_value a b) (map-Tree Sure Tree (λ e. e.0) y)) ≡ tree_step a' b' (map-Tree Tree Ground (tree_value a' b') (map-Tree Sure Tree (λ e. e.0) y))
  layer_same (Tree-F.Leaf e) h = ap Bit (depends c v a a' b.bits b'.bits p q.bits e h)
  layer_same (Tree-F.Bus es t) h =
      let here : map (expr_value a b.bits) es ≡ map (expr_value a' b'.bits) es = elements_same es (and_true _ _ h).0 in
      let rest : tail_of b t ≡ tail_of b' t = tail_same t (and_true _ _ h).1 in
      rw (here, rest)
  layer_same (Tree-F.Var n) h = q.terms n (below n v h)
  layer_same (Tree-F.Int z) h = refl
  layer_same (Tree-F.Node n ys) h = ap (λ gs. Name n (grounds gs)) (trees_same ys h)

  same_roll : (x : Tree-F Tree) (y : Tree-F Sure) → map-Tree Sure Tree (λ e. e.0) y ≡ x → Same (roll-Tree x)
  same_roll x y is h =
      let k : tree_in_scope_step c v (map-Tree Tree Bool (tree_in_scope c v) x) ≡ true = sym (fold-roll-Tree Bool (tree_in_scope_step c v) x) ∙ h in
      let P : Tree-F Tree → Type 0 = λ z. tree_in_scope_step c v (map-Tree Tree Bool (tree_in_scope c v) z) ≡ true →
      tree_step a b (map-Tree Tree Ground (tree_value a b) z) ≡ tree_step a' b' (map-Tree Tree Ground (tree_value a' b') z) in
      fold-roll-Tree Ground (tree_step a b) x ∙ subst P is (layer_same y) k ∙ sym (fold-roll-Tree Ground (tree_step a' b') x)

  pub tree_depends : (t : Tree) → Same t
  tree_depends = ind-Tree Same same_roll

  -- ---- items

  own_same : (own : List ℕ) → list_all (λ n. nat_lt n v) own ≡ true → map b.bits own ≡ map b'.bits own
  own_same [] h = refl
  own_same (n ∷ ns) h =
      let here : b.bits n ≡ b'.bits n = q.bits n (below n v (and_true _ _ h).0) in
      let rest : map b.bits ns ≡ map b'.bits ns = own_same ns (and_true _ _ h).1 in
      rw (here, rest)

  -- a circuit holds with the same outputs
  pub part_depends : (k : Circuit) (ins outs : Tree) (own : List ℕ) → item_in_scope c v (Part k ins outs own) ≡ true → (h : PartHolds a b k ins outs own) →
      (p : PartHolds a' b' k ins outs own) × (p.output ≡ h.output)
  part_depends k ins outs own s h =
      let s' = (and_true _ _ s).1 in
      let bits : map b.bits own ≡ map b'.bits own = own_same own (and_true _ _ s').1 in (
        record {
          inputs = sym (tree_depends ins (and_true _ _ s).0) ∙ h.inputs ∙ ap Word bits;
          output = h.output;
          given = subst (λ i. Outputs k i h.output) bits h.given;
          outputs = sym (tree_depends outs (and_true _ _ s').0) ∙ h.outputs;
        },
        refl,
      )

  pub item_depends : (i : Item) → item_in_scope c v i ≡ true → Holds a b i → Holds a' b' i
  item_depends (Pair l r) s h = sym (tree_depends l (and_true _ _ s).0) ∙ h ∙ tree_depends r (and_true _ _ s).1
  item_depends (Part k ins outs own) s h = (part_depends k ins outs own s h).0

  pub items_depend : (es : List Item) → list_all (item_in_scope c v) es ≡ true → Sat es a b → Sat es a' b'
  items_depend [] s h = tt
  items_depend (e ∷ es) s h = (item_depends e (and_true _ _ s).0 h.0, items_depend es (and_true _ _ s).1 h.1)
