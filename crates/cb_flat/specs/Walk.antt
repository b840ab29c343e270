-- Flattening by numbers, with frames in place of recursion.
use Rattle.std.specs.Prelude.{◌≡◌, ℕ, ◌+◌, ◌-◌, nat_lt, if◌then◌else◌, List, [], ◌∷◌, ◌++◌, map, length, get_or, flat_map}
use Rattle.cb_model.specs.declared.GateKind.{GateKind}

-- a gate with the numbers of its pins
abbrev pub Numbered : Type 0
Numbered = GateKind × List ℕ

-- an instance in its module: a gate or an earlier module, the number of its first gate, and its input pins by the numbers of their drivers
pub data Part : Type 0 where
  AGate : GateKind → Part
  AModule : ℕ → Part

pub record Filled : Type 0 where
  pub part : Part
  pub first : ℕ
  pub ins : List ℕ

-- a module by numbers: its inputs come first, then its own gates
pub record Numbers : Type 0 where
  pub inputs : ℕ
  pub filled : List Filled

abbrev pub no_numbers : Numbers
no_numbers = record { inputs = 0; filled = [] }

-- a net of a part in the module around it, whose own gates begin at `from`, where the part's first gate is `first`
abbrev pub placed_net : ℕ → ℕ → ℕ → List ℕ → ℕ → ℕ
placed_net inputs from first ins n = if nat_lt n inputs then get_or ins n 0 else from + first + (n - inputs)

abbrev pub placed_gate : ℕ → ℕ → ℕ → List ℕ → Numbered → Numbered
placed_gate inputs from first ins g = (g.0, map (placed_net inputs from first ins) g.1)

-- the gates of an instance, by the gates and inputs of the modules before
abbrev pub part_gates : (ℕ → List Numbered) → (ℕ → ℕ) → ℕ → Filled → List Numbered
part_gates gates inputs from f = gates_of f.part
  where
    gates_of : Part → List Numbered
    gates_of (AGate kind) = (kind, f.ins) ∷ []
    gates_of (AModule q) = map (placed_gate (inputs q) from f.first f.ins) (gates q)

-- the gates of a module are those of its instances
abbrev pub GatesAre : (ℕ → Numbers) → (ℕ → List Numbered) → ℕ → Type 0
GatesAre modules gates k = gates k ≡ flat_map (part_gates gates (λ q. (modules q).inputs) (modules k).inputs) (modules k).filled

-- a frame of the walk: a module, the number of its first gate in the whole, what its inputs are in the whole, and what is left of it
pub record Frame : Type 0 where
  pub module' : ℕ
  pub base : ℕ
  pub nets : List ℕ
  pub left : List Filled

-- a net of the frame's module in the whole
abbrev pub whole_net : (ℕ → Numbers) → ℕ → Frame → ℕ → ℕ
whole_net modules inputs t n = placed_net (modules t.module').inputs inputs t.base t.nets n

abbrev pub whole_gate : (ℕ → Numbers) → ℕ → Frame → Numbered → Numbered
whole_gate modules inputs t g = (g.0, map (whole_net modules inputs t) g.1)

-- the gates that are still to come of a frame, and of all, the last frame first
abbrev pub frame_gates : (ℕ → Numbers) → (ℕ → List Numbered) → ℕ → Frame → List Numbered
frame_gates modules gates inputs t = map (whole_gate modules inputs t) (flat_map (part_gates gates (λ q. (modules q).inputs) (modules t.module').inputs) t.left)

abbrev pub still : (ℕ → Numbers) → (ℕ → List Numbered) → ℕ → List Frame → List Numbered
still modules gates inputs [] = []
still modules gates inputs (t ∷ ts) = still modules gates inputs ts ++ frame_gates modules gates inputs t

-- the frame behind its next instance
abbrev pub behind : Frame → List Filled → Frame
behind t fs = record t { left = fs }

-- the frame of a module that is an instance of the frame's module
abbrev pub entered : (ℕ → Numbers) → ℕ → Frame → Filled → ℕ → Frame
entered modules inputs t f q = record { module' = q; base = t.base + f.first; nets = map (whole_net modules inputs t) f.ins; left = (modules q).filled }

-- Each step of the walk keeps what is emitted and what is still to come: a gate is emitted, a module is entered, an empty
-- frame is dropped; the walk begins with all gates of its module in their own numbers. The list has the last frame last.
pub record WalkKeeps : Type 0 where
  pub gate : (modules : ℕ → Numbers) (gates : ℕ → List Numbered) (inputs : ℕ) (ts : List Frame) (t : Frame) (f : Filled) (fs : List Filled) (kind : GateKind) → t.left ≡ f ∷ fs → f.part ≡ AGate kind →
      still modules gates inputs (ts ++ t ∷ []) ≡ (kind, map (whole_net modules inputs t) f.ins) ∷ still modules gates inputs (ts ++ behind t fs ∷ [])
  pub enter : (modules : ℕ → Numbers) (gates : ℕ → List Numbered) (inputs : ℕ) (ts : List Frame) (t : Frame) (f : Filled) (fs : List Filled) (q : ℕ) → t.left ≡ f ∷ fs → f.part ≡ AModule q → length f.ins ≡ (modules q).inputs → GatesAre modules gates q →
      still modules gates inputs (ts ++ t ∷ []) ≡ still modules gates inputs ((ts ++ behind t fs ∷ []) ++ entered modules inputs t f q ∷ [])
  pub drop : (modules : ℕ → Numbers) (gates : ℕ → List Numbered) (inputs : ℕ) (ts : List Frame) (t : Frame) → t.left ≡ [] → still modules gates inputs (ts ++ t ∷ []) ≡ still modules gates inputs ts
