-- Leaves whose values are a parametric form already: the levels of theirs that get the parameters' levels.
use Rattle.std.specs.Prelude.{◌≡◌, ◌⊎◌, ℕ, ◌+◌, ◌<◌, ◌≤◌, nat_eq, List, [], ◌∷◌, ◌++◌, map, length, take, Option, Some}
use Rattle.std.specs.Map.{lookup}
use Rattle.std.specs.List.Sorted.{IsStrictlyIncreasing}
use Rattle.cb_model.specs.Bits.{Bits, Each, numbers_from}
use Rattle.cb_model.specs.Answers.{Gen}
use Rattle.cb_dd.specs.declared.Triple.{Triple}
use Rattle.cb_dd.specs.Diagram.{IsNode}
use Rattle.cb_ops.specs.Ops.{StandsFor}
use Rattle.cb_ops.specs.Substitute.{Images}
use Rattle.cb_boole.specs.Elimination.{Function}
use Rattle.cb_boole.specs.Form.{Names, named, AreSettled}
use Rattle.cb_boole.specs.Parametric.{Reaches, values_at}
use Rattle.cb_boole.specs.Stages.{AreOwn}
use Rattle.cb_elim.specs.declared.Slot.{Slot}
use Rattle.cb_elim.specs.Store.{Seen, view_of}

-- levels, each with its parameter's level
abbrev pub Entries : Type 0
Entries = List (ℕ × ℕ)

abbrev pub names_in : Entries → Names
names_in es l = lookup (nat_eq l) es

-- the slots' numbers
abbrev pub numbers_of : List Slot → List ℕ
numbers_of leaves = map (λ l. l.0) leaves

-- After i leaves: levels below a number, rising, which stand for some of these leaves and have their parameters; each of
-- these leaves depends on the constants and on such levels up to its own parameter alone.
pub record AreNamed (s : Seen) (first : ℕ) (leaves : List Slot) (i next : ℕ) (es : Entries) : Type 0 where
  pub bounds : (l v : ℕ) → names_in es l ≡ Some v → (s.constants ≤ l) × (first ≤ v) × (v < first + i)
  pub constants : s.constants ≤ next
  pub few : length es ≤ i
  pub below : Each (λ e. e.0 < next) es
  pub rise : IsStrictlyIncreasing (map (λ e. e.0) es)
  pub settled : AreSettled (view_of s) (names_in es) first (numbers_of (take i leaves))

-- after all leaves
abbrev pub AreAllNamed : Seen → ℕ → List Slot → Entries → Type 0
AreAllNamed s first leaves es = (next : ℕ) × AreNamed s first leaves (length leaves) next es

-- with the parameters in place of the levels the functions are their own parametric form
pub record IsRenaming (constants first : ℕ) (fs : List Function) (es : Entries) : Type 0 where
  pub constant : (l v : ℕ) → names_in es l ≡ Some v → constants ≤ l
  pub parameter : (l v : ℕ) → names_in es l ≡ Some v → (first ≤ v) × (v < first + length fs)
  pub few : length es ≤ length fs
  pub rise : IsStrictlyIncreasing (map (λ e. e.0) es)
  pub form : (p : Bits) → Gen (Reaches constants fs p) [] (map p (numbers_from first (length fs))) (values_at fs (named (names_in es) p))
  pub own : AreOwn constants first 0 (map (λ f p. f (named (names_in es) p)) fs)

-- the level gets the parameter, where it is the next leaf's own and above those before; else nothing changes
abbrev pub IsNamedNext : Entries → Entries → ℕ → ℕ → Option ℕ → ℕ → Type 0
IsNamedNext old new next now own parameter =
    ((new ≡ old) × (now ≡ next)) ⊎
    ((l : ℕ) × (own ≡ Some l) × (next ≤ l) × (now ≡ l + 1) × (new ≡ old ++ (l, parameter) ∷ []))

-- for each level the node of its parameter
abbrev pub AreImages : List Triple → Entries → Images → Type 0
AreImages ts [] [] = Unit {0}
AreImages ts (e ∷ es) (i ∷ is) = (i.0 ≡ e.0) × IsNode ts i.1.0 × StandsFor ts i.1.0 (λ p. p e.1) × AreImages ts es is
AreImages ts _ _ = ⊥
