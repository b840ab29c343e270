-- The limits of an answer, by its leaves and places.
use Rattle.std.proofs.Common.{◌≡◌, ℕ, ◌+◌, ◌<◌, ◌≤◌, Bool, true, false, ◌||◌, nat_lt, List, [], map, length, refl, sym, ap, ◌∙◌, arith, lt-ltb}
use Rattle.std.specs.Prelude.{sum, sum_by, flat_map}
use Rattle.std.proofs.lemmas.Bool.{le-ltb, ltb-true, ltb-false}
use Rattle.std.proofs.lemmas.List.{length-map}
use Rattle.std.proofs.lemmas.List.Sums.{sum_by-cons}
use Rattle.cb_model.specs.declared.Expr.TheVariants as expr
use Rattle.cb_model.specs.declared.Tree.TheOpen.{Tree-F}
use Rattle.cb_model.specs.declared.Tree.TheVariants as tree
use Rattle.cb_model.specs.declared.Tree.TheFolds.{fold-roll-Tree}
use Rattle.cb_model.specs.Bits.{numbers_from}
use Rattle.cb_model.specs.Answers.{leaves}
use Rattle.cb_model.specs.Line.{places, places_step, is_wide}
use Rattle.cb_laws.proofs.Shapes.{places-leaf, places-bus, places-term, places-node}
use Rattle.cb_laws.proofs.OpenTrees.{Plain, Plains, ALeaf, ABus, AVar, AnInt, ANode, Nil, Cons, Place, closed, closed_all, plain_leaves, all_leaves, all_opens, shape_leaves}
use Rattle.cb_shape.specs.Shapes.{firsts, numbered, numbered_all, shape_of}
use Rattle.cb_shape.specs.Tokens.{plain_places, all_places}
use Rattle.cb_shape.proofs.Numbered.{leaves-all, length-from}

vars-length : (j n : ℕ) → length (map expr.Var (numbers_from j n)) ≡ n
vars-length j n = length-map (numbers_from j n) expr.Var ∙ length-from j n

mutual
  one-places : (os : List Place) (j : ℕ) (p : Plain) → places (closed (numbered os j p)) ≡ plain_places p
  one-places os j (ALeaf s) = places-leaf (expr.Var j)
  one-places os j (ABus ss t) = places-bus (map expr.Var (numbers_from j (length ss))) _ ∙ ap (λ n. n + 1) (vars-length j (length ss))
  one-places os j (AVar c) = places-term _
  one-places os j (AnInt z) = ap places (sym (tree.rolls-Int z)) ∙ fold-roll-Tree ℕ places_step (Tree-F.Int z)
  one-places os j (ANode n ps) = places-node n (closed_all (numbered_all os j ps)) ∙ ap (λ n. 1 + n) (sum-places os j ps)

  sum-places : (os : List Place) (j : ℕ) (ps : Plains) → sum (map places (closed_all (numbered_all os j ps))) ≡ all_places ps
  sum-places os j Nil = refl
  sum-places os j (Cons p ps) =
      let k = j + length (plain_leaves p) in
      sum_by-cons (λ x. x) (places (closed (numbered os j p))) (map places (closed_all (numbered_all os k ps)))
      ∙ (let a = one-places os j p in let b = sum-places os k ps in omega arith)

shape-places : (os : List Place) (j : ℕ) (ps : Plains) → sum_by places (closed_all (numbered_all os j ps)) ≡ all_places ps
shape-places os j Nil = refl
shape-places os j (Cons p ps) =
    let k = j + length (plain_leaves p) in
    sum_by-cons places (closed (numbered os j p)) (closed_all (numbered_all os k ps))
    ∙ (let a = one-places os j p in let b = shape-places os k ps in omega arith)

leaf-count : (ps : Plains) → length (flat_map leaves (shape_of ps)) ≡ length (all_leaves ps)
leaf-count ps =
    let os = firsts [] (all_opens ps) in
    ap length (shape_leaves (numbered_all os 0 ps) ∙ leaves-all os 0 ps) ∙ length-from 0 (length (all_leaves ps))

-- whether the shape is past the limits, by the leaves and the places of its terms
pub wide-is : (ps : Plains) → is_wide (shape_of ps) ≡ (nat_lt 4096 (length (all_leaves ps)) || nat_lt 65536 (all_places ps))
wide-is ps =
    ap (λ n. nat_lt 4096 n || nat_lt 65536 (sum_by places (shape_of ps))) (leaf-count ps)
    ∙ ap (λ n. nat_lt 4096 (length (all_leaves ps)) || nat_lt 65536 n) (shape-places (firsts [] (all_opens ps)) 0 ps)

-- what was told so far is past the limits, and so is the whole
pub wide-so-far : (ps : Plains) (places slots : ℕ) → (nat_lt 65536 places || nat_lt 4096 slots) ≡ true → places ≤ all_places ps → slots ≤ length (all_leaves ps) → is_wide (shape_of ps) ≡ true
wide-so-far ps p s w pl sl = wide-is ps ∙ by (nat_lt 4096 s) refl
  where
    or-left : (b : Bool) → true || b ≡ true
    or-left b = refl

    or-right : (b : Bool) → b || true ≡ true
    or-right true = refl
    or-right false = refl

    many : (b : Bool) → nat_lt 65536 p ≡ b → (b || false) ≡ true → 65536 < p
    many true e h = ltb-true 65536 p e
    many false e h = absurd (cc)

    by : (b : Bool) → nat_lt 4096 s ≡ b → (nat_lt 4096 (length (all_leaves ps)) || nat_lt 65536 (all_places ps)) ≡ true
    by true e =
        let a = ltb-true 4096 s e in
        ap (λ b. b || nat_lt 65536 (all_places ps)) (lt-ltb 4096 (length (all_leaves ps)) (omega (arith, a, sl)))
    by false e =
        let a = many (nat_lt 65536 p) refl (ap (λ b. nat_lt 65536 p || b) (sym e) ∙ w) in
        ap (λ b. nat_lt 4096 (length (all_leaves ps)) || b) (lt-ltb 65536 (all_places ps) (omega (arith, a, pl))) ∙ or-right (nat_lt 4096 (length (all_leaves ps)))

-- the whole is within the limits
pub narrow : (ps : Plains) → length (all_leaves ps) ≤ 4096 → all_places ps ≤ 65536 → is_wide (shape_of ps) ≡ false
narrow ps l p =
    wide-is ps ∙ ap (λ b. b || nat_lt 65536 (all_places ps)) (le-ltb 4096 (length (all_leaves ps)) l) ∙ le-ltb 65536 (all_places ps) p

-- what isn't past the limits is within them
pub within : (places slots : ℕ) → (nat_lt 65536 places || nat_lt 4096 slots) ≡ false → (places ≤ 65536) × (slots ≤ 4096)
within p s h = by (nat_lt 65536 p) (nat_lt 4096 s) refl refl h
  where
    by : (a b : Bool) → nat_lt 65536 p ≡ a → nat_lt 4096 s ≡ b → (a || b) ≡ false → (p ≤ 65536) × (s ≤ 4096)
    by true b e f h = absurd (cc)
    by false true e f h = absurd (cc)
    by false false e f h = (ltb-false 65536 p e, ltb-false 4096 s f)
