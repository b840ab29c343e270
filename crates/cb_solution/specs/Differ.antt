-- Where the nodes of some pair differ.
use Rattle.std.specs.Prelude.{ℕ, Bool, false, ◌||◌, List, [], ◌∷◌}
use Rattle.cb_model.specs.Bits.{Bits, Each, xor}
use Rattle.cb_dd.specs.declared.Triple.{Triple}
use Rattle.cb_dd.specs.declared.Node.{Node}
use Rattle.cb_dd.specs.Diagram.{IsNode, function_of}
use Rattle.cb_ops.specs.Ops.{DependsOn}

-- where the nodes of some pair differ
abbrev pub some_differ : List Triple → List (Node × Node) → Bits → Bool
some_differ ts [] p = false
some_differ ts (q ∷ qs) p = xor (function_of ts q.0.0 p) (function_of ts q.1.0 p) || some_differ ts qs p

-- both nodes of each pair are there
abbrev pub ArePairs : List Triple → List (Node × Node) → Type 0
ArePairs ts qs = Each (λ q. IsNode ts q.0.0 × IsNode ts q.1.0) qs

-- each node depends on the levels of the list alone
abbrev pub DependPairs : List Triple → List (Node × Node) → List ℕ → Type 0
DependPairs ts qs ls = Each (λ q. DependsOn ts q.0.0 ls × DependsOn ts q.1.0 ls) qs
