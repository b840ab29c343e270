-- Parts and instances as the definitions have them.
use Rattle.std.specs.Prelude.{ℕ, List, [], ◌∷◌}
use Rattle.cb_flat.specs.Walk as walk
use Rattle.cb_flat.specs.Walk.{Filled}
use Rattle.cb_netlist.specs.declared.netlist.Part.{Part}
use Rattle.cb_netlist.specs.declared.netlist.Part.TheVariants.{Gate, Module}
use Rattle.cb_netlist.specs.declared.netlist.Instance.{Instance}

abbrev pub part_is : Part → walk.Part
part_is (Gate kind) = walk.AGate kind
part_is (Module q) = walk.AModule q

-- an instance by its part, its first gate and its pins
abbrev pub filled_is : Part → ℕ → List ℕ → Filled
filled_is part first ins = record { part = part_is part; first = first; ins = ins }

-- the instances with their pins
abbrev pub filled_of : List Instance → List (List ℕ) → List Filled
filled_of [] pins = []
filled_of (i ∷ is) [] = []
filled_of (i ∷ is) (p ∷ ps) = filled_is i.part i.first p ∷ filled_of is ps
