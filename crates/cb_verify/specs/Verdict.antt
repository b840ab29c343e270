-- What the verdict of a comparison says.
use Rattle.std.specs.Prelude.{◌≡◌, ℕ, ◌≤◌, ◌-◌, Bool, true, false, List, map}
use Rattle.cb_model.specs.declared.Circuit.{Circuit}
use Rattle.cb_model.specs.Bits.{Bits, weight}
use Rattle.cb_model.specs.Circuits.{Agrees, LeastDifference}
use Rattle.cb_dd.specs.declared.Node.{Node}
use Rattle.cb_dd.specs.declared.Triple.{Triple}
use Rattle.cb_verify.specs.declared.Verdict.{Verdict}
use Rattle.cb_verify.specs.declared.Verdict.TheVariants as verdict
use Rattle.cb_verify.specs.Nodes.{IsFirst, node_bits, unequal}

-- that they agree; or where they differ first
abbrev pub IsRight : Circuit → (List Bool → List Bool → Type 0) → Verdict → Type 0
IsRight c Wanted verdict.Verified = Agrees c Wanted
IsRight c Wanted (verdict.Differs input output got wanted) =
    (1 ≤ output) × LeastDifference c Wanted input (output - 1) got wanted

-- the same of the nodes of the outputs and of what is wanted, where the inputs have these levels
abbrev pub IsLeastOver : List Triple → List ℕ → List Node → List Node → Verdict → Type 0
IsLeastOver ts ls gots wants verdict.Verified = (a : Bits) → unequal (node_bits ts gots a) (node_bits ts wants a) ≡ false
IsLeastOver ts ls gots wants (verdict.Differs input output got wanted) =
    (1 ≤ output) × ((a : Bits) × ((map a ls ≡ input) × IsFirst (node_bits ts gots a) (node_bits ts wants a) (output - 1) got wanted)) ×
    ((a : Bits) → unequal (node_bits ts gots a) (node_bits ts wants a) ≡ true → weight input ≤ weight (map a ls))
