-- Boole's elimination, over functions of the bits of numbered levels.
use Rattle.std.specs.Prelude.{◌≡◌, ◌≢◌, ℕ, Bool, true, false, ◌&&◌, List, [], ◌∷◌}
use Rattle.cb_model.specs.Bits.{Bits, put, xor}

-- a function of the bits of the levels
abbrev pub Function : Type 0
Function = Bits → Bool

-- 1 where f is 1 with both bits of the level: where no bit of the level makes f 0
unfoldable pub both : ℕ → Function → Function
both l f p = f (put l false p) && f (put l true p)

-- the bits with that of the level turned where f is 1
unfoldable pub mended : ℕ → Function → Bits → Bits
mended l f p = put l (xor (f p) (p l)) p

-- what is left of f when the levels are eliminated one after another, the first of the list first
unfoldable pub rest : List ℕ → Function → Function
rest [] f = f
rest (l ∷ ls) f = rest ls (both l f)

-- the solution of f = 0 for these levels, with their own bits as parameters
unfoldable pub solved : List ℕ → Function → Bits → Bits
solved [] f p = p
solved (l ∷ ls) f p = mended l f (solved ls (both l f) p)

-- the same bits at these levels
abbrev pub AreAlike : (ℕ → Type 0) → Bits → Bits → Type 0
AreAlike P p q = (l : ℕ) → P l → p l ≡ q l

-- f depends on no other levels
abbrev pub DependsOnly : (ℕ → Type 0) → Function → Type 0
DependsOnly P f = (p q : Bits) → AreAlike P p q → f p ≡ f q

-- the level is none of these
abbrev pub IsAway : ℕ → List ℕ → Type 0
IsAway k [] = Unit {0}
IsAway k (l ∷ ls) = (k ≢ l) × IsAway k ls
