-- Accepted facts carry bits.
use Rattle.std.specs.Prelude.{◌≡◌, ℕ, Bool, List, length, Option, None, Contains}
use Rattle.cb_model.specs.Bits.{Each}
use Rattle.cb_model.specs.Grammar.{FormClause}
use Rattle.cb_model.specs.Circuits.{Flat, Module, flat, circuit_of}
use Rattle.cb_model.specs.Facts.{FactRefusal, Circuits, FactsRead, no_circuits, ModuleRefusal}
use Rattle.cb_model.specs.Sound.{HasOneValuation}
use Rattle.cb_model.specs.Carry.{IsCarrying}

-- a module that isn't refused carries bits where the earlier ones do
abbrev pub AcceptedCarries : Type 0
AcceptedCarries = (earlier : List Flat) (m : Module) → Each IsCarrying earlier → ModuleRefusal earlier m None → IsCarrying (flat earlier m)

-- the flattened circuit of an accepted module has exactly one consistent valuation for each input, whatever the order of its instances
abbrev pub FlatHasOne : Type 0
FlatHasOne = (cs : List FormClause) (r : Option (FactRefusal × ℕ)) (c : Circuits) (f : Flat) (input : List Bool) →
    FactsRead no_circuits cs r c → Contains c.flats f → length input ≡ f.inputs → HasOneValuation (circuit_of f) input
