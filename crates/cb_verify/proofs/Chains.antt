-- A chain of operands, from the first to the last.
use Rattle.std.proofs.Common.{◌≡◌, ℕ, zero, suc, ◌+◌, ◌-◌, ◌*◌, ◌^◌, ◌<◌, ◌≤◌, Bool, true, false, List, [], ◌∷◌, length, get_or, drop, refl, sym, ◌∙◌, ap, subst, arith, ◌⊎◌, inl, inr}
use Rattle.std.proofs.lemmas.List.{drop_more}
use Rattle.std.proofs.Math.Nat.{mul-le-mul_right}
use Rattle.cb_model.specs.Bits.{Bits, Each, xor}
use Rattle.std.proofs.lemmas.Bool.Decides.{nat_tests}
use Rattle.cb_model.specs.declared.GateKind.{GateKind}
use Rattle.cb_model.specs.declared.GateKind.TheVariants as gate
use Rattle.cb_model.specs.Circuits.{pins_of}
use Rattle.cb_dd.specs.declared.Node.{Node}
use Rattle.cb_dd.specs.Diagram.{Store, IsNode, function_of}
use Rattle.cb_ops.specs.Ops.{Grows, DependsOn}
use Rattle.cb_verify.specs.declared.nodes.Operator.{Operator}
use Rattle.cb_verify.specs.declared.nodes.Operator.TheVariants as operator
use Rattle.cb_verify.specs.Nodes.{AreNodes, node_bits, DependOn, Adds, operator_value, chain_value}
use Rattle.cb_verify.proofs.Kept.{node-kept, function-kept, depends-kept, depends-by, depends-two}

xor_assoc : (x y z : Bool) → xor x (xor y z) ≡ xor (xor x y) z
xor_assoc true true true = refl
xor_assoc true true false = refl
xor_assoc true false true = refl
xor_assoc true false false = refl
xor_assoc false y z = refl

-- the operators associate
pub operator_assoc : (o : Operator) (x y z : Bool) → operator_value o x (operator_value o y z) ≡ operator_value o (operator_value o x y) z
operator_assoc operator.And true y z = refl
operator_assoc operator.And false y z = refl
operator_assoc operator.Or true y z = refl
operator_assoc operator.Or false y z = refl
operator_assoc operator.Xor x y z = xor_assoc x y z

-- one more operand in front
pub chain_more : (o : Operator) (x : Bool) (xs : List Bool) → chain_value o (x ∷ xs) ≡ operator_value o x (chain_value o xs)
chain_more operator.And x xs = refl
chain_more operator.Or x xs = refl
chain_more operator.Xor x xs = refl

-- no operand left
pub chain_end : (o : Operator) (x : Bool) → operator_value o x (chain_value o []) ≡ x
chain_end operator.And true = refl
chain_end operator.And false = refl
chain_end operator.Or true = refl
chain_end operator.Or false = refl
chain_end operator.Xor true = refl
chain_end operator.Xor false = refl

-- the element at a place
pub Each-at : {A : Type 0} (P : A → Type 0) (xs : List A) (i : ℕ) (d : A) → Each P xs → i < length xs → P (get_or xs i d)
Each-at P [] i d h l = absurd (omega arith)
Each-at P (x ∷ xs) zero d h l = h.0
Each-at P (x ∷ xs) (suc i) d h l = Each-at P xs i d h.1 (omega arith)

module _ (s t u : Store) (st : Grows s t) (o : Operator) (nodes : List Node) (first : Node) (rest : List Node) (parts : nodes ≡ first ∷ rest) (are : AreNodes s.triples nodes) (i : ℕ) (lt : i < length rest) (d : Node) (node r : ℕ) where
  next_node : IsNode s.triples (get_or rest i d).0
  next_node = let all : AreNodes s.triples (first ∷ rest) = subst (AreNodes s.triples) parts are in Each-at (λ n. IsNode s.triples n.0) rest i d all.1 lt

  next_depends : (ls : List ℕ) → DependOn s.triples nodes ls → DependsOn t.triples (get_or rest i d).0 ls
  next_depends ls h =
      let all : DependOn s.triples (first ∷ rest) ls = subst (λ ns. DependOn s.triples ns ls) parts h in
      depends-kept s t st (get_or rest i d).0 next_node ls (Each-at (λ n. DependsOn s.triples n.0 ls) rest i d all.1 lt)

  -- the next operand is a node
  pub chain-next : IsNode t.triples (get_or rest i d).0
  chain-next = node-kept s t st (get_or rest i d).0 next_node

  -- one operation more
  pub chain-function : ((a : Bits) → operator_value o (function_of t.triples node a) (chain_value o (node_bits s.triples (drop i rest) a)) ≡ chain_value o (node_bits s.triples nodes a))
      → ((a : Bits) → function_of u.triples r a ≡ operator_value o (function_of t.triples node a) (function_of t.triples (get_or rest i d).0 a))
      → (a : Bits) → operator_value o (function_of u.triples r a) (chain_value o (node_bits s.triples (drop (i + 1) rest) a)) ≡ chain_value o (node_bits s.triples nodes a)
  chain-function before made a =
      let x = function_of t.triples node a in
      let y = function_of s.triples (get_or rest i d).0 a in
      let z = chain_value o (node_bits s.triples (drop (i + 1) rest) a) in
      let e : function_of u.triples r a ≡ operator_value o x y = made a ∙ ap (operator_value o x) (function-kept s t st (get_or rest i d).0 next_node a) in
      let f : chain_value o (node_bits s.triples (drop i rest) a) ≡ operator_value o y z = ap (λ l. chain_value o (node_bits s.triples l a)) (drop_more rest i d lt) ∙ chain_more o y (node_bits s.triples (drop (i + 1) rest) a) in
      ap (λ w. operator_value o w z) e ∙ sym (operator_assoc o x y z) ∙ ap (operator_value o x) (sym f) ∙ before a

  pub chain-depends : ((ls : List ℕ) → DependOn s.triples nodes ls → DependsOn t.triples node ls)
      → ((a : Bits) → function_of u.triples r a ≡ operator_value o (function_of t.triples node a) (function_of t.triples (get_or rest i d).0 a))
      → (ls : List ℕ) → DependOn s.triples nodes ls → DependsOn u.triples r ls
  chain-depends before made ls h = depends-two t.triples u.triples node (get_or rest i d).0 r (operator_value o) made ls (before ls h) (next_depends ls h)

  pub chain-room : ((ls : List ℕ) → DependOn s.triples nodes ls → DependsOn t.triples node ls) → Adds s t i nodes → Adds t u 1 (record { 0 = node } ∷ get_or rest i d ∷ [])
      → Adds s u (i + 1) nodes
  chain-room before room more = record {
    most = λ ls h.
        let k : length u.triples ≤ length t.triples + 1 * (2 * 2 ^ length ls) = more.most ls (before ls h, (next_depends ls h, tt)) in
        let j : length t.triples ≤ length s.triples + i * (2 * 2 ^ length ls) = room.most ls h in
        omega (arith, k, j);
  }

-- operations within a number of them
pub Adds-within : (s t : Store) (j k : ℕ) (ns : List Node) → j ≤ k → Adds s t j ns → Adds s t k ns
Adds-within s t j k ns h r = record {
  most = λ ls d.
      let m : length t.triples ≤ length s.triples + j * (2 * 2 ^ length ls) = r.most ls d in
      omega (arith, m, mul-le-mul_right (2 * 2 ^ length ls) h);
}

-- one operation on the node of a chain
pub one_more-room : (s t u : Store) (o : Operator) (ns : List Node) (r : Node) → 1 ≤ length ns → ((a : Bits) → function_of t.triples r.0 a ≡ chain_value o (node_bits s.triples ns a))
    → Adds s t (length ns - 1) ns → Adds t u 1 (r ∷ []) → Adds s u (length ns) ns
one_more-room s t u o ns r some is before more = record {
  most = λ ls d.
      let k : length u.triples ≤ length t.triples + 1 * (2 * 2 ^ length ls) = more.most ls (depends-by s.triples t.triples ns r.0 (chain_value o) is ls d, tt) in
      let j : length t.triples ≤ length s.triples + (length ns - 1) * (2 * 2 ^ length ls) = before.most ls d in
      let e : (length ns - 1 + 1) * (2 * 2 ^ length ls) ≡ length ns * (2 * 2 ^ length ls) = ap (λ n. n * (2 * 2 ^ length ls)) (omega arith) in
      omega (arith, k, j, e);
}

-- a gate with a chain has a pin
pub some_pin : (k : GateKind) (n : ℕ) → (k ≡ gate.Nand) ⊎ (k ≡ gate.Nor) ⊎ (k ≡ gate.Xnor) → pins_of k n ≡ true → 1 ≤ n
some_pin gate.Nand n e h = grind (arith, nat_tests)
some_pin gate.Nor n e h = grind (arith, nat_tests)
some_pin gate.Xnor n e h = grind (arith, nat_tests)
some_pin gate.And n e h = grind (arith, nat_tests)
some_pin gate.Or n e h = grind (arith, nat_tests)
some_pin gate.Xor n e h = grind (arith, nat_tests)
some_pin gate.Buf n e h = grind (arith, nat_tests)
some_pin gate.Not n e h = grind (arith, nat_tests)
some_pin gate.Mux n e h = grind (arith, nat_tests)
some_pin gate.Zero n (inl e) h = cc
some_pin gate.Zero n (inr (inl e)) h = cc
some_pin gate.Zero n (inr (inr e)) h = cc
some_pin gate.One n (inl e) h = cc
some_pin gate.One n (inr (inl e)) h = cc
some_pin gate.One n (inr (inr e)) h = cc
