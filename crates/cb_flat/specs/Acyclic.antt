-- The gates of a flattened module as a graph.
use Rattle.std.specs.Prelude.{◌≡◌, ◌↔◌, ℕ, suc, true, List, [], ◌∷◌, ◌++◌, map, Option, Some, None, position, bytes_eq}
use Rattle.cb_model.specs.Text.{Text}
use Rattle.cb_model.specs.Circuits.{Net, In, Own, Flat, Instance, Module}
use Rattle.cb_model.specs.Facts as facts
use Rattle.cb_model.specs.Order.{HasCycle}
use Rattle.cb_model.specs.Carry.{IsCarrying}

-- the gates whose outputs are among the nets
abbrev pub own_of : List Net → List ℕ
own_of [] = []
own_of (In i ∷ ns) = own_of ns
own_of (Own k ∷ ns) = k ∷ own_of ns

-- each gate needs those whose outputs it takes
abbrev pub gate_graph : Flat → List (List ℕ)
gate_graph f = map (λ g. own_of g.1) f.gates

-- where all gates carry bits, none need one another in a round
abbrev pub CarryingIsAcyclic : Type 0
CarryingIsAcyclic = (f : Flat) → IsCarrying f → HasCycle (gate_graph f) → ⊥

-- the number of the first instance with the net among its output pins, if there is one
abbrev pub index_or : Option ℕ → List ℕ → List ℕ
index_or (Some j) r = 0 ∷ []
index_or None r = r

abbrev pub index_in : Text → List Instance → List ℕ
index_in x [] = []
index_in x (i ∷ is) = index_or (position (bytes_eq x) i.outs) (map suc (index_in x is))

-- the instances that drive these nets
abbrev pub wants : List Instance → List Text → List ℕ
wants is [] = []
wants is (x ∷ xs) = index_in x is ++ wants is xs

-- each instance needs those whose outputs it takes
abbrev pub instance_graph : Module → List (List ℕ)
instance_graph m = map (λ i. wants m.instances i.ins) m.instances

-- where each net is driven once, the graph has a cycle exactly where the module has one
abbrev pub SameCycles : Type 0
SameCycles = (m : Module) → facts.all_driven_once m ≡ true → facts.HasCycle m ↔ HasCycle (instance_graph m)
