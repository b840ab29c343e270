-- A chain over the nodes of nets, from the first to the last.
use Rattle.std.proofs.Common.{◌≡◌, ℕ, ◌+◌, ◌-◌, ◌<◌, ◌≤◌, List, [], ◌∷◌, map, length, get_or, drop, slice_index_or, sym, ◌∙◌, ap, subst, arith}
use Rattle.std.proofs.lemmas.List.{length-map, get_or-map, drop_all}
use Rattle.cb_model.specs.Bits.{Bits, Each}
use Rattle.cb_dd.specs.declared.Node.{Node}
use Rattle.cb_dd.specs.Diagram.{Store, IsNode, function_of}
use Rattle.cb_ops.specs.Ops.{Grows, DependsOn}
use Rattle.cb_verify.specs.declared.nodes.Operator.{Operator}
use Rattle.cb_verify.specs.Nodes.{AreNodes, node_at, node_bits, DependOn, Adds, operator_value, chain_value}
use Rattle.cb_verify.proofs.Kept.{node-kept}
use Rattle.cb_verify.proofs.Nets.{chosen}
use Rattle.cb_verify.proofs.Chains.{Each-at, Adds-within, chain-function, chain-depends, chain-room, chain_more, chain_end, one_more-room}

module _ (s : Store) (nodes : List Node) (pins : List ℕ) (first : ℕ) (rest : List ℕ) (parts : pins ≡ first ∷ rest) (are : AreNodes s.triples nodes) (within : Each (λ k. k < length nodes) pins) where
  chosen_are : AreNodes s.triples (map (node_at nodes) pins)
  chosen_are = chosen s.triples nodes pins are within

  split : map (node_at nodes) pins ≡ node_at nodes first ∷ map (node_at nodes) rest
  split = ap (map (node_at nodes)) parts

  both : Each (λ k. k < length nodes) (first ∷ rest)
  both = subst (Each (λ k. k < length nodes)) parts within

  -- the first pin
  pub first-within : first < length nodes
  first-within = both.0

  pub first-node : IsNode s.triples (node_at nodes first).0
  first-node = Each-at (λ n. IsNode s.triples n.0) nodes first (record { 0 = 0 }) are first-within

  pub first-function : (o : Operator) (a : Bits) → operator_value o (function_of s.triples (node_at nodes first).0 a) (chain_value o (node_bits s.triples (drop 0 (map (node_at nodes) rest)) a)) ≡ chain_value o (node_bits s.triples (map (node_at nodes) pins) a)
  first-function o a =
      sym (chain_more o (function_of s.triples (node_at nodes first).0 a) (node_bits s.triples (map (node_at nodes) rest) a)) ∙ ap (λ ns. chain_value o (node_bits s.triples ns a)) (sym split)

  pub first-depends : (ls : List ℕ) → DependOn s.triples (map (node_at nodes) pins) ls → DependsOn s.triples (node_at nodes first).0 ls
  first-depends ls h = let all : DependOn s.triples (node_at nodes first ∷ map (node_at nodes) rest) ls = subst (λ ns. DependOn s.triples ns ls) split h in all.0

  -- after the last
  pub last-function : (t : Store) (o : Operator) (i node : ℕ) → length rest ≤ i
      → ((a : Bits) → operator_value o (function_of t.triples node a) (chain_value o (node_bits s.triples (drop i (map (node_at nodes) rest)) a)) ≡ chain_value o (node_bits s.triples (map (node_at nodes) pins) a))
      → (a : Bits) → function_of t.triples node a ≡ chain_value o (node_bits s.triples (map (node_at nodes) pins) a)
  last-function t o i node last before a =
      let none : drop i (map (node_at nodes) rest) ≡ [] = drop_all i (map (node_at nodes) rest) (omega (arith, last, length-map rest (node_at nodes))) in
      sym (chain_end o (function_of t.triples node a)) ∙ ap (λ ns. operator_value o (function_of t.triples node a) (chain_value o (node_bits s.triples ns a))) (sym none) ∙ before a

  pub last-room : (t : Store) (i : ℕ) → i ≤ length rest → Adds s t i (map (node_at nodes) pins) → Adds s t (length pins - 1) (map (node_at nodes) pins)
  last-room t i h r = Adds-within s t i (length pins - 1) (map (node_at nodes) pins) (omega (arith, h, ap length parts)) r

  module _ (t : Store) (st : Grows s t) (i : ℕ) (lt : i < length rest) where
    place : i < length (map (node_at nodes) rest)
    place = omega (arith, lt, length-map rest (node_at nodes))

    -- the next pin
    pub next-within : slice_index_or rest i 0 < length nodes
    next-within = Each-at (λ k. k < length nodes) rest i 0 both.1 lt

    pub next-node : IsNode t.triples (node_at nodes (slice_index_or rest i 0)).0
    next-node = node-kept s t st (node_at nodes (slice_index_or rest i 0)).0 (Each-at (λ n. IsNode s.triples n.0) nodes (slice_index_or rest i 0) (record { 0 = 0 }) are next-within)

    next-is : get_or (map (node_at nodes) rest) i (record { 0 = 0 }) ≡ node_at nodes (slice_index_or rest i 0)
    next-is = get_or-map (node_at nodes) rest i 0 (record { 0 = 0 }) lt

    module _ (u : Store) (o : Operator) (node r : ℕ) where
      made-by : ((a : Bits) → function_of u.triples r a ≡ operator_value o (function_of t.triples node a) (function_of t.triples (node_at nodes (slice_index_or rest i 0)).0 a))
          → (a : Bits) → function_of u.triples r a ≡ operator_value o (function_of t.triples node a) (function_of t.triples (get_or (map (node_at nodes) rest) i (record { 0 = 0 })).0 a)
      made-by made a = made a ∙ ap (λ (n : Node). operator_value o (function_of t.triples node a) (function_of t.triples n.0 a)) (sym next-is)

      pub next-function : ((a : Bits) → operator_value o (function_of t.triples node a) (chain_value o (node_bits s.triples (drop i (map (node_at nodes) rest)) a)) ≡ chain_value o (node_bits s.triples (map (node_at nodes) pins) a))
          → ((a : Bits) → function_of u.triples r a ≡ operator_value o (function_of t.triples node a) (function_of t.triples (node_at nodes (slice_index_or rest i 0)).0 a))
          → (a : Bits) → operator_value o (function_of u.triples r a) (chain_value o (node_bits s.triples (drop (i + 1) (map (node_at nodes) rest)) a)) ≡ chain_value o (node_bits s.triples (map (node_at nodes) pins) a)
      next-function before made = chain-function s t u st o (map (node_at nodes) pins) (node_at nodes first) (map (node_at nodes) rest) split chosen_are i place (record { 0 = 0 }) node r before (made-by made)

      pub next-depends : ((ls : List ℕ) → DependOn s.triples (map (node_at nodes) pins) ls → DependsOn t.triples node ls)
          → ((a : Bits) → function_of u.triples r a ≡ operator_value o (function_of t.triples node a) (function_of t.triples (node_at nodes (slice_index_or rest i 0)).0 a))
          → (ls : List ℕ) → DependOn s.triples (map (node_at nodes) pins) ls → DependsOn u.triples r ls
      next-depends before made = chain-depends s t u st o (map (node_at nodes) pins) (node_at nodes first) (map (node_at nodes) rest) split chosen_are i place (record { 0 = 0 }) node r before (made-by made)

      pub next-room : ((ls : List ℕ) → DependOn s.triples (map (node_at nodes) pins) ls → DependsOn t.triples node ls) → Adds s t i (map (node_at nodes) pins)
          → Adds t u 1 (record { 0 = node } ∷ node_at nodes (slice_index_or rest i 0) ∷ []) → Adds s u (i + 1) (map (node_at nodes) pins)
      next-room before room more =
          chain-room s t u st o (map (node_at nodes) pins) (node_at nodes first) (map (node_at nodes) rest) split chosen_are i place (record { 0 = 0 }) node r before room
          (subst (λ (n : Node). Adds t u 1 (record { 0 = node } ∷ n ∷ [])) (sym next-is) more)

-- the complement of the node of a chain
pub not-room-over : (s t u : Store) (o : Operator) (nodes : List Node) (pins : List ℕ) (r : Node) → 1 ≤ length pins → ((a : Bits) → function_of t.triples r.0 a ≡ chain_value o (node_bits s.triples (map (node_at nodes) pins) a))
    → Adds s t (length pins - 1) (map (node_at nodes) pins) → Adds t u 1 (r ∷ []) → Adds s u (length pins) (map (node_at nodes) pins)
not-room-over s t u o nodes pins r some is before more =
    let long = length-map pins (node_at nodes) in
    subst (λ n. Adds s u n (map (node_at nodes) pins)) long
    (one_more-room s t u o (map (node_at nodes) pins) r (omega (arith, some, long)) is (subst (λ n. Adds s t (n - 1) (map (node_at nodes) pins)) (sym long) before) more)
