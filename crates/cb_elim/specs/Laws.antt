-- Laws of the store: each is the contract of a function that does nothing.
use Rattle.std.specs.Prelude.{◌≡◌, ◌↔◌, ℕ, zero, suc, List, [], ◌∷◌, ◌++◌, map}
use Rattle.cb_model.specs.declared.Expr.{Expr}
use Rattle.cb_model.specs.Bits.{Bits, Each}
use Rattle.cb_model.specs.Values.{World, expr_value}
use Rattle.cb_model.specs.Equations.{Solvable, Refuted}
use Rattle.cb_laws.specs.Laws.{Equal, pair_item}
use Rattle.cb_dd.specs.Diagram.{Store, IsNode, function_of}
use Rattle.cb_ops.specs.Ops.{IsIte}
use Rattle.cb_boole.specs.View.{InRange, point}
use Rattle.cb_elim.specs.Store.{Seen, IsArgument, view_of, with_nodes}
use Rattle.cb_elim.specs.Unified.{HasNone, IsSolved}

-- the range is exactly the pairs that satisfy the equations, each variable numbered as its slot
abbrev pub IsRangeOf : Seen → List Equal → Type 0
IsRangeOf s es = (a b : Bits) → InRange (view_of s) a b ↔ Each (λ e. expr_value a b e.0 ≡ expr_value a b e.1) es

-- the node has the value of the expression at each pair of the range
abbrev pub IsNodeOf : Seen → ℕ → Expr → Type 0
IsNodeOf s f e = (a b : Bits) → InRange (view_of s) a b → function_of s.nodes.triples f (point (view_of s).stands a b) ≡ expr_value a b e

-- an equation that is solved is one equation more
abbrev pub RangeGrows : Type 0
RangeGrows = (s t : Seen) (es : List Equal) (e : Equal) (f g : ℕ) → IsRangeOf s es → IsNodeOf s f e.0 → IsNodeOf s g e.1 →
    IsSolved (view_of s) (view_of t) (function_of s.nodes.triples f) (function_of s.nodes.triples g) → IsRangeOf t (es ++ e ∷ [])

-- then the equations are solvable
abbrev pub SolvedIsSolvable : Type 0
SolvedIsSolvable = (w : World) (s t : Seen) (es : List Equal) (f g : ℕ) → IsRangeOf t es →
    IsSolved (view_of s) (view_of t) (function_of s.nodes.triples f) (function_of s.nodes.triples g) → Solvable w (map pair_item es)

-- an equation without a solution refutes them all together
abbrev pub NoneIsRefuted : Type 0
NoneIsRefuted = (w : World) (s : Seen) (es : List Equal) (e : Equal) (f g : ℕ) → IsRangeOf s es → IsNodeOf s f e.0 → IsNodeOf s g e.1 →
    HasNone (view_of s) (function_of s.nodes.triples f) (function_of s.nodes.triples g) → Refuted w (map pair_item (es ++ e ∷ []))

-- the numbers below, the greatest first
abbrev pub levels_below : ℕ → List ℕ
levels_below zero = []
levels_below (suc n) = n ∷ levels_below n

-- the levels of the constants, and the free levels
abbrev pub live_levels : Seen → List ℕ
live_levels s = levels_below s.constants ++ map (λ f. f.level) s.free

-- Node n of the new store is a function of these nodes of the old one: where they have the same bits, it has the same bit.
pub record IsDecidedBy (old new : Store) (fs : List ℕ) (n : ℕ) : Type 0 where
  pub node : IsNode new.triples n
  pub decided : (p q : Bits) → Each (λ f. function_of old.triples f p ≡ function_of old.triples f q) fs → function_of new.triples n p ≡ function_of new.triples n q

-- a node that is a function of nodes which may be handed to the store may be handed to it, with the nodes that were added
abbrev pub MayBeDecided : Seen → Store → Type 0
MayBeDecided s t = (fs : List ℕ) (n : ℕ) → Each (IsArgument s) fs → IsDecidedBy s.nodes t fs n → IsArgument (with_nodes t s) n

-- so may "if f, g, else h"
abbrev pub MayBeChosen : Seen → Store → Type 0
MayBeChosen s t =
    (f g h n : ℕ) → Each (IsArgument s) (f ∷ g ∷ h ∷ []) → IsNode t.triples n → IsIte s.nodes.triples t.triples f g h n → IsArgument (with_nodes t s) n
