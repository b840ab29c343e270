-- The instances of a netlist by their places.
use Rattle.std.specs.Prelude.{ℕ, [], slice_index_or}
use Rattle.cb_flat.specs.Walk.{AModule, Filled}
use Rattle.cb_netlist.specs.Wiring.{Wiring}

-- stands where there is no such instance
abbrev pub no_filled : Filled
no_filled = record { part = AModule 0; first = 0; ins = [] }

abbrev pub filled_at : Wiring → ℕ → Filled
filled_at n at = slice_index_or n.filled at no_filled
