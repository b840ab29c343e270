-- A module by plain numbers.
use Rattle.std.specs.Prelude.{ℕ, List, [], ◌∷◌, ◌++◌, get_or}
use Rattle.cb_flat.specs.Walk.{Filled}

-- what contracts see of a netlist: how many inputs the module has, its instances that have gates, what drives each of
-- its outputs, and how many gates it has when it is flattened. A net is the number of what drives it: first the
-- inputs, then the module's own flattened gates
pub record Wiring : Type 0 where
  pub inputs : ℕ
  pub filled : List Filled
  pub outputs : List ℕ
  pub gates : ℕ

-- stands where there is no such module
abbrev pub no_wiring : Wiring
no_wiring = record { inputs = 0; filled = []; outputs = []; gates = 0 }

-- the module of a number
abbrev pub wiring_at : List Wiring → ℕ → Wiring
wiring_at ns k = get_or ns k no_wiring

-- nothing in it yet
abbrev pub bare_wiring : ℕ → ℕ → Wiring
bare_wiring inputs gates = record { inputs = inputs; filled = []; outputs = []; gates = gates }

-- one instance more
abbrev pub with_instance : Wiring → Filled → Wiring
with_instance n f = record n { filled = n.filled ++ f ∷ [] }

-- one output more
abbrev pub with_output : Wiring → ℕ → Wiring
with_output n x = record n { outputs = n.outputs ++ x ∷ [] }
