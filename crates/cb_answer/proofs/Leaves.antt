-- The text of a leaf from its node.
use Rattle.std.proofs.Common.{◌≡◌, inl, inr, ℕ, zero, suc, ◌+◌, ◌-◌, ◌<◌, ◌≤◌, Bool, false, List, [], ◌∷◌, map, length, refl, sym, ap, subst, ◌∙◌, arith, lt-ltb}
use Rattle.std.specs.Prelude.{get_or}
use Rattle.std.proofs.lemmas.Bool.{le-ltb}
use Rattle.cb_model.specs.Bits.{Bits, numbers, numbers_from}
use Rattle.cb_model.specs.Text.{Text}
use Rattle.cb_model.specs.Answers.{value_text}
use Rattle.cb_model.specs.Line.{Names, variable_name, leaf_text}
use Rattle.cb_dd.specs.declared.Triple.{Triple}
use Rattle.cb_dd.specs.declared.Node.{Node}
use Rattle.cb_dd.specs.Diagram.{IsNode, function_of}
use Rattle.cb_ops.specs.Ops.{Agree, DependsOn}
use Rattle.cb_boole.specs.Elimination.{AreAlike, DependsOnly}
use Rattle.cb_boole.specs.Stages.{IsSettled, AreOwn}
use Rattle.cb_project.specs.Leaves.{functions_of, AllNodes}
use Rattle.cb_show.specs.Levels.{level_at, levels, function_at, node_text}
use Rattle.cb_show.proofs.Pieces.{each_at}
use Rattle.cb_answer.specs.Lines.{spread_all}

-- ---- the levels of a leaf's node

-- each level that is settled is that of a constant or of a parameter
settled_level : (c first m k : ℕ) → IsSettled c first m k → (i : ℕ) × ((i < c + m) × (level_at c first i ≡ k))
settled_level c first m k (inl below) = (k, (omega (arith, below), rw (lt-ltb k c below) refl))
settled_level c first m k (inr w) =
    let low : first ≤ k = w.0 in
    let high : k < first + m = w.1 in
    let test : c ≤ c + (k - first) = omega arith in
    let same : first + (c + (k - first) - c) ≡ k = omega (arith, low) in
    (c + (k - first), (omega (arith, low, high), rw (le-ltb (c + (k - first)) c test) same))

agree_at : (r : ℕ → ℕ) (at n : ℕ) (a b : Bits) → Agree (map r (numbers_from at n)) a b → (i : ℕ) → i < n → a (r (at + i)) ≡ b (r (at + i))
agree_at r at zero a b g i lt = absurd (omega arith)
agree_at r at (suc n) a b g zero lt = let e : at ≡ at + 0 = omega arith in subst (λ k. a (r k) ≡ b (r k)) e g.0
agree_at r at (suc n) a b g (suc i) lt =
    let e : suc at + i ≡ at + suc i = omega arith in
    subst (λ k. a (r k) ≡ b (r k)) e (agree_at r (suc at) n a b g.1 i (omega arith))

agree_settled : (c first m : ℕ) (a b : Bits) → Agree (levels c first m) a b → AreAlike (IsSettled c first m) a b
agree_settled c first m a b g k w =
    let s = settled_level c first m k w in
    let e : 0 + s.0 ≡ s.0 = omega arith in
    subst (λ l. a l ≡ b l) s.1.1 (subst (λ i. a (level_at c first i) ≡ b (level_at c first i)) e (agree_at (level_at c first) 0 (c + m) a b g s.0 s.1.0))

own_at : (ts : List Triple) (c first n : ℕ) (nodes : List Node) (j : ℕ) (d : Node) → AreOwn c first n (functions_of ts nodes) → j < length nodes →
    DependsOnly (IsSettled c first (suc (n + j))) (function_of ts (get_or nodes j d).0)
own_at ts c first n [] j d own lt = absurd (omega arith)
own_at ts c first n (x ∷ nodes) zero d own lt = let e : n ≡ n + 0 = omega arith in subst (λ k. DependsOnly (IsSettled c first (suc k)) (function_of ts x.0)) e own.0
own_at ts c first n (x ∷ nodes) (suc j) d own lt =
    let e : suc n + j ≡ n + suc j = omega arith in
    subst (λ k. DependsOnly (IsSettled c first (suc k)) (function_of ts (get_or nodes j d).0)) e (own_at ts c first (suc n) nodes j d own.1 (omega arith))

-- a leaf's node depends on the levels of the constants and of the parameters up to its own
pub leaf_depends : (ts : List Triple) (c first : ℕ) (nodes : List Node) (j : ℕ) (d : Node) → AreOwn c first 0 (functions_of ts nodes) → j < length nodes →
    DependsOn ts (get_or nodes j d).0 (levels c first (suc j))
leaf_depends ts c first nodes j d own lt =
    let e : 0 + j ≡ j = omega arith in
    let only : DependsOnly (IsSettled c first (suc j)) (function_of ts (get_or nodes j d).0) =
    subst (λ k. DependsOnly (IsSettled c first (suc k)) (function_of ts (get_or nodes j d).0)) e (own_at ts c first 0 nodes j d own lt) in
    record { agrees = λ a b g. only a b (agree_settled c first (suc j) a b g) }

pub leaf_there : (ts : List Triple) (nodes : List Node) (j : ℕ) (d : Node) → AllNodes ts nodes → j < length nodes → IsNode ts (get_or nodes j d).0
leaf_there ts nodes j d there lt = each_at (λ n. IsNode ts n.0) nodes j d there lt

-- ---- the text of a leaf

gens_at : (ts : List Triple) (c first : ℕ) (nodes : List Node) (j : ℕ) (d : Node) → j < length nodes →
    get_or (spread_all c first (functions_of ts nodes)) j (λ env. false) ≡ function_at ts (get_or nodes j d).0 c first
gens_at ts c first [] j d lt = absurd (omega arith)
gens_at ts c first (x ∷ nodes) zero d lt = refl
gens_at ts c first (x ∷ nodes) (suc j) d lt = gens_at ts c first nodes j d (omega arith)

-- the text of a leaf's node is that of the leaf
pub leaf_text_is : (ts : List Triple) (c first : ℕ) (nodes : List Node) (names : Names) (constants : List Text) (j : ℕ) (d : Node) →
    names.constants ≡ constants → j < length nodes →
    node_text ts (get_or nodes j d).0 c first constants (suc j) ≡ leaf_text c names (spread_all c first (functions_of ts nodes)) j
leaf_text_is ts c first nodes names constants j d named lt =
    ap (λ (xs : List Text). value_text (variable_name c (record { names = []; constants = xs; printed = [] })) (function_at ts (get_or nodes j d).0 c first) (numbers (c + suc j))) (sym named)
    ∙ ap (λ (f : Bits → Bool). value_text (variable_name c names) f (numbers (c + suc j))) (sym (gens_at ts c first nodes j d lt))

-- the same of a list of nodes that is this one
pub leaf_scope : (ts : List Triple) (c first : ℕ) (shown nodes : List Node) (j : ℕ) (d : Node) → shown ≡ nodes → AreOwn c first 0 (functions_of ts nodes) → j < length nodes →
    DependsOn ts (get_or shown j d).0 (levels c first (suc j))
leaf_scope ts c first shown nodes j d e own lt = subst (λ xs. DependsOn ts (get_or xs j d).0 (levels c first (suc j))) (sym e) (leaf_depends ts c first nodes j d own lt)

pub leaf_told : (ts : List Triple) (c first : ℕ) (shown nodes : List Node) (names : Names) (constants : List Text) (j : ℕ) (d : Node) → shown ≡ nodes →
    names.constants ≡ constants → j < length nodes →
    node_text ts (get_or shown j d).0 c first constants (suc j) ≡ leaf_text c names (spread_all c first (functions_of ts nodes)) j
leaf_told ts c first shown nodes names constants j d e named lt =
    ap (λ xs. node_text ts (get_or xs j d).0 c first constants (suc j)) e ∙ leaf_text_is ts c first nodes names constants j d named lt
