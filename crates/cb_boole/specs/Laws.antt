-- Laws of elimination and of the parametric form: each is the contract of a function of this crate.
use Rattle.std.specs.Prelude.{◌≡◌, ◌↔◌, ℕ, ◌+◌, Bool, true, false, not, ◌&&◌, ◌||◌, List, [], ◌∷◌, ◌++◌, length}
use Rattle.cb_model.specs.Bits.{Bits, put}
use Rattle.cb_model.specs.Answers.{Picks, Denotes}
use Rattle.cb_boole.specs.Elimination.{Function, both, mended, rest, solved, IsAway}
use Rattle.cb_boole.specs.Parametric.{Reaches, parametric}
use Rattle.cb_boole.specs.Stages.{IsStage, AreFor, misses, put_in}

-- ---- elimination

-- what the solution gives makes f 0, where elimination leaves nothing, and changes no other level
abbrev pub SolutionIsSound : Type 0
SolutionIsSound = (ls : List ℕ) (f : Function) (p : Bits) → rest ls f p ≡ false →
    (f (solved ls f p) ≡ false) × ((k : ℕ) → IsAway k ls → solved ls f p k ≡ p k)

-- bits that make f 0 are an instance of the solution: they are got from themselves
abbrev pub SolutionIsWhole : Type 0
SolutionIsWhole = (ls : List ℕ) (f : Function) (p : Bits) → f p ≡ false → solved ls f p ≡ p

-- bits with the same bits at all levels but those of the list, that make f 0
pub record IsSolvedBy (ls : List ℕ) (f : Function) (p q : Bits) : Type 0 where
  pub same : (k : ℕ) → IsAway k ls → q k ≡ p k
  pub zero : f q ≡ false

-- there are such bits exactly where elimination leaves nothing
abbrev pub SolvableWhereRestIsZero : Type 0
SolvableWhereRestIsZero = (ls : List ℕ) (f : Function) (p : Bits) → (rest ls f p ≡ false) ↔ ((q : Bits) × IsSolvedBy ls f p q)

-- the bit that the solution gives one level, by what f is with each bit: 1 where 0 doesn't solve it, and the own bit where both do
abbrev pub SolutionByCofactors : Type 0
SolutionByCofactors = (l : ℕ) (f : Function) (p : Bits) → both l f p ≡ false →
    mended l f p l ≡ (f (put l false p) || (not (f (put l true p)) && p l))

-- ---- the parametric form

-- some bits of the levels, and the own bits elsewhere, give the function this bit alone
pub record CanBe (ls : List ℕ) (f : Function) (p : Bits) (bits : List Bool) : Type 0 where
  pub at : Bits
  pub same : (k : ℕ) → IsAway k ls → at k ≡ p k
  pub bit : bits ≡ f at ∷ []

-- the parametric function is the parameter where the function can have that bit, else the other bit
abbrev pub LeafIsPicked : Type 0
LeafIsPicked = (ls : List ℕ) (u : ℕ) (f : Function) (p : Bits) → Picks (CanBe ls f p) [] (p u) (parametric ls u f p)

-- one leaf more: its parametric function, with the solution put into the leaves that follow
abbrev pub LeafByLeaf : Type 0
LeafByLeaf = (constants first : ℕ) (fs done left : List Function) (f : Function) (ls : List ℕ) → IsStage constants first fs done (f ∷ left) →
    AreFor constants first (length done) f ls →
    IsStage constants first fs (done ++ parametric ls (first + length done) f ∷ []) (put_in ls (misses ls (first + length done) f) left)

-- over all parameters the parametric form gives exactly the lists of bits that the functions reach
abbrev pub FormDenotesReached : Type 0
FormDenotesReached = (constants : ℕ) (fs : List Function) (a : Bits) → Denotes (Reaches constants fs a) (length fs)
