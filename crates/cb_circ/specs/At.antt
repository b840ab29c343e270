-- Modules and specifications by number.
use Rattle.std.specs.Prelude.{ℕ, [], slice_index_or}
use Rattle.cb_model.specs.Circuits.{Module, Flat, no_flat}
use Rattle.cb_model.specs.Facts.{Circuits, Spec}

-- stands where there is no such module
abbrev pub no_module : Module
no_module = record { name = []; inputs = []; outputs = []; instances = [] }

-- stands where there is no such specification
abbrev pub no_spec : Spec
no_spec = record { name = []; inputs = []; exprs = [] }

-- the module of a number
abbrev pub module_at : Circuits → ℕ → Module
module_at c m = slice_index_or c.modules m no_module

-- the flattened module of a number
abbrev pub flat_at : Circuits → ℕ → Flat
flat_at c m = slice_index_or c.flats m no_flat

-- the specification of a number
abbrev pub spec_at : Circuits → ℕ → Spec
spec_at c p = slice_index_or c.specs p no_spec
