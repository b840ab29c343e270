-- Moments of a store, and the way back to them.
use Rattle.std.specs.Prelude.{◌≡◌, ℕ, ◌≤◌, List, [], ◌∷◌, length, take, drop, map, slice_set, slice_get, Option, suc, nat_eq, if◌then◌else◌}
use Rattle.cb_dd.specs.declared.Node.{Node}
use Rattle.cb_elim.specs.declared.Change.{Change}
use Rattle.cb_elim.specs.Store.{Seen, IsStore, with_fulls}

-- how many of each there were
pub record Moment : Type 0 where
  pub nodes : ℕ
  pub drawn : ℕ
  pub free : ℕ
  pub slots : ℕ
  pub trail : ℕ

-- the moment now
abbrev pub moment_of : Seen → Moment
moment_of s = record {
  nodes = length s.nodes.triples;
  drawn = s.drawn;
  free = length s.free;
  slots = length s.slots;
  trail = length s.trail;
}

-- the slots' values before these changes, of which the last is taken back first
abbrev pub undone : List Change → List Node → List Node
undone [] ns = ns
undone (c ∷ cs) ns = slice_set (undone cs ns) c.slot c.value

-- the store as it was at a moment, but for the count of refusals for nodes
abbrev pub reverted : Moment → Seen → Seen
reverted m s = record {
  constants = s.constants;
  drawn = m.drawn;
  free = take m.free s.free;
  slots = undone (drop m.trail s.trail) (take m.slots s.slots);
  trail = take m.trail s.trail;
  nodes = record { budget = s.nodes.budget; triples = take m.nodes s.nodes.triples; fulls = s.nodes.fulls };
}

-- a moment to which the store can go back
pub record IsMoment (m : Moment) (s : Seen) : Type 0 where
  pub nodes : m.nodes ≤ length s.nodes.triples
  pub drawn : m.drawn ≤ s.drawn
  pub free : m.free ≤ length s.free
  pub slots : m.slots ≤ length s.slots
  pub trail : m.trail ≤ length s.trail
  pub store : IsStore (reverted m s)

-- Each moment stays one, and going back to it gives the same store as before.
pub record KeepsMoments (old new : Seen) : Type 0 where
  pub moments : (m : Moment) → IsMoment m old → IsMoment m new
  pub same : (m : Moment) → IsMoment m old → reverted m new ≡ with_fulls new.nodes.fulls (reverted m old)

-- A store that is taken back to the moment of another, whose moments it kept, is that other, but for the count of refusals.
abbrev pub GivesBack : Moment → Seen → Seen → Type 0
GivesBack m old new = (s : Seen) → IsStore s → m ≡ moment_of s → KeepsMoments s old → new ≡ with_fulls old.nodes.fulls s

-- then it keeps that other's moments
abbrev pub StillKeeps : Moment → Seen → Seen → Type 0
StillKeeps m old new = (s : Seen) → IsStore s → m ≡ moment_of s → KeepsMoments s old → KeepsMoments s new

-- the slots rewritten since the moment, in order
abbrev pub rewritten_since : Moment → Seen → List ℕ
rewritten_since m s = map (λ c. c.slot) (drop m.trail s.trail)

-- the slot's value at the moment, or for a later slot when it was made
abbrev pub value_since : Moment → Seen → ℕ → Option Node
value_since m s x = slice_get (undone (drop m.trail s.trail) s.slots) x

-- the slot's value is another node than it was
abbrev pub HasChanged : Moment → Seen → ℕ → Type 0
HasChanged m s x = value_since m s x ≡ slice_get s.slots x → ⊥

-- the slots, from this number on, whose second value isn't the first, each with its first value
abbrev pub changes_from : ℕ → List Node → List Node → List Change
changes_from k [] vs = []
changes_from k (n ∷ ns) [] = []
changes_from k (n ∷ ns) (v ∷ vs) = if nat_eq n.0 v.0 then changes_from (suc k) ns vs else record { slot = k; value = n } ∷ changes_from (suc k) ns vs

-- the change of one slot, if its value changes
abbrev pub change_at : ℕ → Node → Node → List Change
change_at k n v = if nat_eq n.0 v.0 then [] else record { slot = k; value = n } ∷ []
