-- The walk over netlists that flattens a module.
use Rattle.std.specs.Prelude.{◌≡◌, ℕ, zero, suc, ◌+◌, ◌^◌, ◌<◌, ◌≤◌, List, [], ◌∷◌, ◌++◌, map, length, drop, sum_by}
use Rattle.cb_model.specs.declared.Gate.{Gate}
use Rattle.cb_model.specs.Bits.{Each, numbers}
use Rattle.cb_flat.specs.Walk as walk
use Rattle.cb_flat.specs.Walk.{Numbered, Part, AGate, AModule, Filled, Numbers, GatesAre, still}
use Rattle.cb_netlist.specs.Wiring.{Wiring, wiring_at}
use Rattle.cb_netlist.specs.declared.walk.Frame.{Frame}

abbrev pub numbers_at : List Wiring → ℕ → Numbers
numbers_at ns k = record { inputs = (wiring_at ns k).inputs; filled = (wiring_at ns k).filled }

-- a part that is a module comes before, and has as many inputs
abbrev pub PartTakes : List Wiring → ℕ → Part → ℕ → Type 0
PartTakes ns k (AGate kind) pins = Unit {0}
PartTakes ns k (AModule q) pins = (q < k) × (pins ≡ (wiring_at ns q).inputs)

abbrev pub part_count : List Wiring → Part → ℕ
part_count ns (AGate kind) = 1
part_count ns (AModule q) = (wiring_at ns q).gates

-- the same of an instance of module k as `IsPlaced`, by the netlists alone
pub record IsSized (ns : List Wiring) (k : ℕ) (f : Filled) : Type 0 where
  pub pins : PartTakes ns k f.part (length f.ins)
  pub nets : Each (λ x. x < (wiring_at ns k).inputs + (wiring_at ns k).gates) f.ins
  pub within : f.first + part_count ns f.part ≤ (wiring_at ns k).gates

abbrev pub AreSized : List Wiring → Type 0
AreSized ns = (k : ℕ) → k < length ns → Each (IsSized ns k) (wiring_at ns k).filled

-- these are the modules' gates
abbrev pub AreGates : List Wiring → (ℕ → List Numbered) → Type 0
AreGates ns gates = (k : ℕ) → k < length ns → GatesAre (numbers_at ns) gates k

-- the frame with the instances that are left of it
abbrev pub frame_of : List Wiring → Frame → walk.Frame
frame_of ns t = record { module' = t.netlist; base = t.base; nets = t.nets.items; left = drop t.done (wiring_at ns t.netlist).filled }

abbrev pub frames_of : List Wiring → List Frame → List walk.Frame
frames_of ns ts = map (frame_of ns) ts

-- the frame's gates and nets are among those of a whole with so many inputs and gates
pub record IsFrame (ns : List Wiring) (inputs count : ℕ) (t : walk.Frame) : Type 0 where
  pub known : t.module' < length ns
  pub long : length t.nets ≡ (wiring_at ns t.module').inputs
  pub range : Each (λ x. x < inputs + count) t.nets
  pub within : t.base + (wiring_at ns t.module').gates ≤ count
  pub sized : Each (IsSized ns t.module') t.left

-- gates by numbers, the first of which drives this net
abbrev pub gates_at : ℕ → List Numbered → List Gate
gates_at at [] = []
gates_at at (g ∷ gs) = record { kind = g.0; ins = g.1; out = at } ∷ gates_at (suc at) gs

-- the gates that are emitted, and behind them those that are still to come of the frames, the last frame first
abbrev pub all_gates : List Wiring → (ℕ → List Numbered) → ℕ → List Gate → List walk.Frame → List Gate
all_gates ns gates inputs gs ts = gs ++ gates_at (inputs + length gs) (still (numbers_at ns) gates inputs ts)

-- all gates together are so many
abbrev pub AreMany : List Wiring → ℕ → ℕ → List Gate → List walk.Frame → Type 0
AreMany ns inputs count gs ts = (gates : ℕ → List Numbered) × (AreGates ns gates × (length (all_gates ns gates inputs gs ts) ≡ count))

-- the frame with which the walk through a module begins
abbrev pub first_frame : List Wiring → ℕ → walk.Frame
first_frame ns k = record { module' = k; base = 0; nets = numbers (wiring_at ns k).inputs; left = (wiring_at ns k).filled }

-- what a walk through module q takes at most: a step for each instance that is met, and for each frame
abbrev pub part_weight : (ℕ → ℕ) → Part → ℕ
part_weight weight (AGate kind) = 1
part_weight weight (AModule q) = 1 + weight q

abbrev pub weight : List Wiring → ℕ → ℕ → ℕ
weight ns zero q = 0
weight ns (suc n) q = 1 + sum_by (λ f. part_weight (weight ns n) f.part) (wiring_at ns q).filled

abbrev pub frame_weight : List Wiring → walk.Frame → ℕ
frame_weight ns t = 1 + sum_by (λ f. part_weight (weight ns t.module') f.part) t.left

abbrev pub frames_weight : List Wiring → List walk.Frame → ℕ
frames_weight ns ts = sum_by (frame_weight ns) ts

-- a walk may go on: its frames are of a whole with so many inputs and gates
pub record IsWalk (ns : List Wiring) (inputs count : ℕ) (gs : List Gate) (ts : List walk.Frame) : Type 0 where
  pub sized : AreSized ns
  pub small : inputs + count < 2 ^ 32
  pub frames : Each (IsFrame ns inputs count) ts
  pub many : AreMany ns inputs count gs ts

-- a step of a walk leaves all gates as they are, and less to do
pub record IsStep (ns : List Wiring) (inputs count : ℕ) (gs : List Gate) (ts : List walk.Frame) (hs : List Gate) (us : List walk.Frame) : Type 0 where
  pub goes_on : IsWalk ns inputs count hs us
  pub keeps : (gates : ℕ → List Numbered) → AreGates ns gates → all_gates ns gates inputs hs us ≡ all_gates ns gates inputs gs ts
  pub less : frames_weight ns us < frames_weight ns ts
