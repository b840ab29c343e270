-- Looks at the words of a name, one place after another, and at the cells in these places.
use Rattle.std.proofs.Common.{◌≡◌, ◌↔◌, inl, inr, ℕ, suc, ◌+◌, ◌-◌, ◌^◌, ◌<◌, ◌≤◌, Bool, false, List, [], ◌∷◌, ◌++◌, length, Some, sym, ap, subst, ◌∙◌, arith}
use Rattle.std.specs.Prelude.{get_or, min, slice_get, IsTrue}
use Rattle.std.proofs.lemmas.Bool.{cases_lt}
use Rattle.std.proofs.lemmas.Option.{slice_get-get_or}
use Rattle.cb_model.specs.declared.Tree.{Tree}
use Rattle.cb_model.specs.declared.Goal.TheVariants as goal
use Rattle.cb_model.specs.declared.When.{When}
use Rattle.cb_model.specs.declared.When.TheVariants as when
use Rattle.cb_model.specs.Directives.{Sign}
use Rattle.cb_model.specs.Loading.{words_named}
use Rattle.cb_model.specs.Equations.{Item}
use Rattle.cb_model.specs.Values.{Sorts}
use Rattle.cb_model.specs.Derivation.{Ready, words_of}
use Rattle.cb_sorts.specs.Source.{Source, program_of}
use Rattle.cb_sorts.specs.Asked.{Asked}
use Rattle.cb_sorts.specs.OverFile.{asked_program}
use Rattle.cb_heap.specs.declared.Ref.{Ref}
use Rattle.cb_unify.specs.State.{Seen, FitsTable}
use Rattle.cb_unify.specs.Delays.{HoldsAt}
use Rattle.cb_items.proofs.Lists.{each-at, got-within, some-of, some-one}
use Rattle.cb_ready.specs.Parked.{AreFrom, Parked}
use Rattle.cb_ready.specs.Asking.{Asking, IsAskable, IsReadyAt, IsThere}
use Rattle.cb_ready.specs.Ready.{AllHold, IsPlainCall, named_words}
use Rattle.cb_ready.proofs.Words.{ready-any, word-at, words-same}

-- what a program tells of a place is the word there
pub when-word : (s : Source) (pred k : ℕ) (d : When) → pred < length s.names → ((a : Sign) → slice_get s.names pred ≡ Some a → d ≡ get_or (words_named s.declared a) k when.Any) → d ≡ get_or (named_words s pred) k when.Any
when-word s pred k d less h =
    let a = some-of s.names pred less in
    h a.0 a.1 ∙ ap (λ (ws : List When). get_or ws k when.Any) (sym (word-at s pred a.0 a.1))

below-step : (P : ℕ → Type 0) (k : ℕ) → ((j : ℕ) → j < k → P j) → P k → (j : ℕ) → j < k + 1 → P j
below-step P k h p j less = elim (cases_lt j k) [
  | inl is_less ↦ h j is_less
  | inr not_less ↦ let e : k ≡ j = omega arith in subst P e p
]

-- ---- the name alone

-- no word before this place is anything to wait for
abbrev pub AnyBelow : Source → ℕ → ℕ → Type 0
AnyBelow s pred n = (k : ℕ) → k < n → get_or (named_words s pred) k when.Any ≡ when.Any

pub any-start : (s : Source) (pred : ℕ) → AnyBelow s pred 0
any-start s pred k less = absurd (omega arith)

pub any-step : (s : Source) (pred n : ℕ) → AnyBelow s pred n → get_or (named_words s pred) n when.Any ≡ when.Any → AnyBelow s pred (n + 1)
any-step s pred n h e = below-step (λ k. get_or (named_words s pred) k when.Any ≡ when.Any) n h e

pub any-ready : (s : Source) (pred count n : ℕ) → n ≡ min count (2 ^ 32 - 1) → pred < length s.names → AnyBelow s pred n → (a : Asked) (es : List Item) (xs : List Tree) → IsPlainCall (asked_program s a []) pred xs → length xs ≤ count →
    Ready (asked_program s a []) es (goal.Call pred xs)
any-ready s pred count n is less any a es xs call few =
    let e = words-same s a pred less in
    let c = call.words.counted pred in
    let f = call.words.few pred in
    let number = call.number in
    ready-any (asked_program s a []) es pred xs n call (λ k l. ap (λ (ws : List When). get_or ws k when.Any) e ∙ any k l) (omega arith)

-- ---- cells

-- the words before this place hold of the cells there
abbrev pub HeldBelow : Seen → Source → ℕ → List Ref → ℕ → Type 0
HeldBelow u s pred refs n = (t : Sorts) → FitsTable t u → (k : ℕ) → k < n → (r : Ref) → slice_get refs k ≡ Some r → HoldsAt t u (get_or (named_words s pred) k when.Any) r.0

pub held-start : (u : Seen) (s : Source) (pred : ℕ) (refs : List Ref) → HeldBelow u s pred refs 0
held-start u s pred refs t fits k less = absurd (omega arith)

pub held-step : (u : Seen) (s : Source) (pred : ℕ) (refs : List Ref) (n : ℕ) → HeldBelow u s pred refs n → n < length refs → (none : Ref) (d : When) → d ≡ get_or (named_words s pred) n when.Any →
    ((t : Sorts) → FitsTable t u → HoldsAt t u d (get_or refs n none).0) → HeldBelow u s pred refs (n + 1)
held-step u s pred refs n h less none d is here t fits =
    below-step (λ k. (q : Ref) → slice_get refs k ≡ Some q → HoldsAt t u (get_or (named_words s pred) k when.Any) q.0) n (h t fits)
    (λ q e. subst (λ (x : When). HoldsAt t u x q.0) is (subst (λ (x : Ref). HoldsAt t u d x.0) (some-one (get_or refs n none) q (sym (slice_get-get_or refs n none less) ∙ e)) (here t fits)))

pub held-all : (u : Seen) (s : Source) (pred : ℕ) (refs : List Ref) (n : ℕ) → n ≡ min (length refs) (2 ^ 32 - 1) → HeldBelow u s pred refs n → (t : Sorts) → FitsTable t u → AllHold t u (named_words s pred) refs
held-all u s pred refs n is h t fits k r less at =
    let w = got-within refs k r at in
    h t fits k (omega arith) r at

pub held-not : (u : Seen) (s : Source) (pred : ℕ) (refs : List Ref) (n : ℕ) → n < 2 ^ 32 - 1 → n < length refs → (none : Ref) (d : When) → d ≡ get_or (named_words s pred) n when.Any →
    (t : Sorts) → (HoldsAt t u d (get_or refs n none).0 → ⊥) → AllHold t u (named_words s pred) refs → ⊥
held-not u s pred refs n few less none d is t fails all =
    fails (subst (λ (x : When). HoldsAt t u x (get_or refs n none).0) (sym is) (all n (get_or refs n none) few (slice_get-get_or refs n none less)))

-- ---- a parked call

-- the answer of a look at a parked call
pub answer-at : (s : Seen) (p : Source) (q : Asked) (cs : List Parked) (tests : ℕ) (now : Asking) → record { state = s; program = p; query = q; parked = cs; tests = tests } ≡ now → IsAskable s p q cs →
    (k : ℕ) (c : Parked) → slice_get cs k ≡ Some c → (b : Bool) → ((t : Sorts) → FitsTable t s → IsTrue b ↔ AllHold t s (named_words p c.pred) c.args) → IsTrue b ↔ IsReadyAt now k
answer-at s p q cs tests now same can k c at b h =
    let t = (asked_program p q []).world.arguments in
    let there = each-at (IsThere (length p.names) s) cs k c can.calls at in
    let e = words-same p q c.pred there.name in
    let told = h t can.fits in
    subst (λ (x : Asking). IsTrue b ↔ IsReadyAt x k) same (
      λ y. record { call = c; is = at; hold = subst (λ (ws : List When). AllHold t s ws c.args) (sym e) (told.0 y) },
      λ r. told.1 (subst (λ (ws : List When). AllHold t s ws c.args) e
          (subst (λ (d : Parked). AllHold t s (words_of (asked_program p q []) d.pred) d.args) (some-one r.call c (sym r.is ∙ at)) r.hold)),
    )

-- no call has this number
pub no-answer : (now : Asking) (k : ℕ) → length now.parked ≤ k → IsTrue false ↔ IsReadyAt now k
no-answer now k more = (λ e. absurd (cc), λ r. let w = got-within now.parked k r.call r.is in absurd (omega arith))

-- ---- cells in a row

pub from-snoc : (j : ℕ) (rs : List Ref) (r : Ref) → AreFrom j rs → r.0 ≡ j + length rs → AreFrom j (rs ++ r ∷ [])
from-snoc j [] r h e = (omega arith, tt)
from-snoc j (q ∷ rs) r h e = (h.0, from-snoc (suc j) rs r h.1 (omega arith))
