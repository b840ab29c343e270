-- What the words of a delay say of cells, and of the terms for which the cells stand.
use Rattle.std.proofs.Common.{◌≡◌, ◌↔◌, ℕ, zero, suc, ◌-◌, ◌^◌, ◌<◌, ◌≤◌, Bool, true, false, List, [], ◌∷◌, ◌++◌, length, map, Some, Result, Ok, Err, refl, sym, ap, subst, ◌∙◌, arith}
use Rattle.std.specs.Prelude.{get_or, slice_get, IsTrue, IfOk, MatchBool}
use Rattle.cb_model.specs.declared.Tree.{Tree}
use Rattle.cb_model.specs.declared.Goal.TheVariants as goal
use Rattle.cb_model.specs.declared.When.{When}
use Rattle.cb_model.specs.declared.When.TheVariants as when
use Rattle.cb_model.specs.Bits.{Bits}
use Rattle.cb_model.specs.Directives.{Sign}
use Rattle.cb_model.specs.Loading.{words_named}
use Rattle.cb_model.specs.Values.{Sorts, World, Valuation}
use Rattle.cb_model.specs.Equations.{Item, Meets}
use Rattle.cb_model.specs.Program.{Program}
use Rattle.cb_model.specs.Derivation.{outermost, Ready, RuleMatches, is_demon, words_of, WordHolds, WordsHold}
use Rattle.cb_sorts.specs.Source.{Source, program_of}
use Rattle.cb_sorts.specs.Asked.{Asked}
use Rattle.cb_sorts.specs.OverFile.{asked_program}
use Rattle.cb_heap.specs.declared.Ref.{Ref}
use Rattle.cb_heap.specs.Reading.{Reading}
use Rattle.cb_unify.specs.State.{Seen, FitsTable, Gives, InVals, Reads}
use Rattle.cb_unify.specs.Delays.{HoldsAt}
use Rattle.cb_items.specs.Calls.{AreStanding}
use Rattle.cb_items.specs.Standing.{IsVals, Stands}
use Rattle.cb_items.proofs.Bridges.{some-gives}
use Rattle.cb_items.proofs.Lists.{some-one}
use Rattle.cb_ready.specs.Parked.{Parked}
use Rattle.cb_ready.specs.Ready.{AllHold, IsAsked, IsPlainCall, TellsReady}
use Rattle.cb_ready.specs.Asking.{Asking, IsReadyAt}

-- ---- one word

module _ (w : World) (s : Seen) (es : List Item) (vals : IsVals w s es) where
  -- what satisfies the items is read
  met : (a : Bits) (b : Valuation) → Meets w es a b → InVals w.arguments s a b
  met a b m = (vals a b m.sorted).1 m.sat

  -- what is read satisfies the items
  reads-met : (a v : Bits) (g : Reading) → Reads w.arguments s a v g → (b : Valuation) × Meets w es a b × Gives s g b
  reads-met a v g h =
      let b = some-gives w.arguments s a v g h in
      (b.0, record { admitted = tt; sorted = b.1; sat = (vals a b.0 b.1).0 (v, g, h, b.2) }, b.2)

  pub holds-words : (d : When) (r : ℕ) (x : Tree) → Stands w.arguments s r x → HoldsAt w.arguments s d r ↔ WordHolds w es d x
  holds-words when.Any r x st = (λ h. tt, λ h. tt)
  holds-words when.Known r x st = (
    λ h a b b' m m'. let i = met a b m in let j = met a b' m' in sym (st a i.0 i.1 b i.2 i.3) ∙ h a i.0 j.0 i.1 j.1 i.2 j.2 ∙ st a j.0 j.1 b' j.2 j.3,
    λ h a v v' g g' p q. let i = reads-met a v g p in let j = reads-met a v' g' q in st a v g i.0 p i.2 ∙ h a i.0 j.0 i.1 j.1 ∙ sym (st a v' g' j.0 q j.2),
  )
  holds-words when.Fixed r x st = (
    λ h. (h.0, λ a b m. let i = met a b m in sym (st a i.0 i.1 b i.2 i.3) ∙ h.1 a i.0 i.1 i.2),
    λ h. (h.0, λ a v g p. let i = reads-met a v g p in st a v g i.0 p i.2 ∙ h.1 a i.0 i.1),
  )
  holds-words when.Nonvar r x st = (
    λ h. (h.0, λ a b m. let i = met a b m in ap outermost (sym (st a i.0 i.1 b i.2 i.3)) ∙ h.1 a i.0 i.1 i.2),
    λ h. (h.0, λ a v g p. let i = reads-met a v g p in ap outermost (st a v g i.0 p i.2) ∙ h.1 a i.0 i.1),
  )

  -- ---- all words

  -- at each of the first m places the word holds of the cell
  abbrev Below : ℕ → List When → List Ref → Type 0
  Below m words refs = (k : ℕ) (r : Ref) → k < m → slice_get refs k ≡ Some r → HoldsAt w.arguments s (get_or words k when.Any) r.0

  pub below-words : (m : ℕ) (words : List When) (refs : List Ref) (xs : List Tree) → AreStanding w.arguments s refs xs → length words ≤ length xs → length words ≤ m →
      Below m words refs ↔ WordsHold w es words xs
  below-words m [] refs xs st counted few = (λ h. tt, λ h k r less e. tt)
  below-words zero (d ∷ ds) refs xs st counted few = absurd (omega arith)
  below-words (suc m) (d ∷ ds) [] [] st counted few = absurd (omega arith)
  below-words (suc m) (d ∷ ds) [] (x ∷ xs) st counted few = absurd st
  below-words (suc m) (d ∷ ds) (r ∷ rs) [] st counted few = absurd st
  below-words (suc m) (d ∷ ds) (r ∷ rs) (x ∷ xs) st counted few =
      let one = holds-words d r.0 x st.1.0 in
      let more = below-words m ds rs xs st.1.1 (omega arith) (omega arith) in (
        λ h. (one.0 (h 0 r (omega arith) refl), more.0 (λ k q less e. h (suc k) q (omega arith) e)),
        λ h. back (one.1 h.0) (more.1 h.1),
      )
    where
      back : HoldsAt w.arguments s d r.0 → Below m ds rs → Below (suc m) (d ∷ ds) (r ∷ rs)
      back a b zero q less e = subst (λ (y : Ref). HoldsAt w.arguments s d y.0) (some-one r q e) a
      back a b (suc k) q less e = b k q (omega arith) e

-- where no word is anything to wait for, all hold
pub any-words : (w : World) (es : List Item) (m : ℕ) (words : List When) (xs : List Tree) → ((k : ℕ) → k < m → get_or words k when.Any ≡ when.Any) → length words ≤ m → length words ≤ length xs →
    WordsHold w es words xs
any-words w es m [] xs any few counted = tt
any-words w es zero (d ∷ ds) xs any few counted = absurd (omega arith)
any-words w es (suc m) (d ∷ ds) [] any few counted = absurd (omega arith)
any-words w es (suc m) (d ∷ ds) (x ∷ xs) any few counted = (
  subst (λ (q : When). WordHolds w es q x) (sym (any 0 (omega arith))) tt,
  any-words w es m ds xs (λ k less. any (suc k) (omega arith)) (omega arith) (omega arith),
)

-- ---- the words of a name

got-or : {A B : Type 0} (f : A → B) (xs : List A) (k : ℕ) (x : A) (d : B) → slice_get xs k ≡ Some x → get_or (map f xs) k d ≡ f x
got-or f [] k x d e = absurd (cc)
got-or f (y ∷ xs) zero x d e = ap f (some-one y x e)
got-or f (y ∷ xs) (suc k) x d e = got-or f xs k x d e

got-front-or : {A B : Type 0} (f : A → B) (xs ys : List A) (k : ℕ) (d : B) → k < length xs → get_or (map f (xs ++ ys)) k d ≡ get_or (map f xs) k d
got-front-or f [] ys k d less = absurd (omega arith)
got-front-or f (x ∷ xs) ys zero d less = refl
got-front-or f (x ∷ xs) ys (suc k) d less = got-front-or f xs ys k d (omega arith)

-- the words of the file's name are those of its number
pub word-at : (s : Source) (pred : ℕ) (a : Sign) → slice_get s.names pred ≡ Some a → words_of (program_of s []) pred ≡ words_named s.declared a
word-at s pred a e = got-or (words_named s.declared) s.names pred a [] e

-- whatever query is asked
pub words-same : (s : Source) (q : Asked) (pred : ℕ) → pred < length s.names → words_of (asked_program s q []) pred ≡ words_of (program_of s []) pred
words-same s q pred less = got-front-or (words_named s.declared) s.names q.names pred [] less

-- ---- calls

match-false : (b : Bool) (A B : Type 0) → b ≡ false → B ↔ MatchBool b A B
match-false true A B e = absurd (cc)
match-false false A B e = (λ h. h, λ h. h)

ready-words : (p : Program) (es : List Item) (pred : ℕ) (xs : List Tree) → is_demon p pred ≡ false → WordsHold p.world es (words_of p pred) xs ↔ Ready p es (goal.Call pred xs)
ready-words p es pred xs plain = match-false (is_demon p pred) ((k : ℕ) × RuleMatches p es pred xs k) (WordsHold p.world es (words_of p pred) xs) plain

-- a call with nothing to wait for
pub ready-any : (p : Program) (es : List Item) (pred : ℕ) (xs : List Tree) (m : ℕ) → IsPlainCall p pred xs → ((k : ℕ) → k < m → get_or (words_of p pred) k when.Any ≡ when.Any) →
    length (words_of p pred) ≤ m → Ready p es (goal.Call pred xs)
ready-any p es pred xs m call any few =
    let c = call.words.counted pred in
    let n = call.number in
    (ready-words p es pred xs call.plain).0 (any-words p.world es m (words_of p pred) xs any few (omega arith))

-- a call by the cells of its arguments
pub ready-held : (s : Seen) (p : Program) (es : List Item) (pred : ℕ) (refs : List Ref) (xs : List Tree) → IsAsked s p es pred refs xs → AllHold p.world.arguments s (words_of p pred) refs ↔ Ready p es (goal.Call pred xs)
ready-held s p es pred refs xs h =
    let c = h.call.words.counted pred in
    let f = h.call.words.few pred in
    let n = h.call.number in
    let all = below-words p.world s es h.vals (2 ^ 32 - 1) (words_of p pred) refs xs h.args (omega arith) (omega arith) in
    let one = ready-words p es pred xs h.call.plain in
    (λ k. one.0 (all.0 k), λ k. all.1 (one.1 k))

-- the answer of a look at the cells
pub tells-ready : {E : Type 0} (o : Result Bool E) (s : Seen) (p : Source) (pred : ℕ) (refs : List Ref) → pred < length p.names →
    ((t : Sorts) → FitsTable t s → IfOk o (λ b. IsTrue b ↔ AllHold t s (words_of (program_of p []) pred) refs)) → IfOk o (TellsReady s p pred refs)
tells-ready (Err x) s p pred refs less h = tt
tells-ready (Ok b) s p pred refs less h = λ q es xs is.
    let e = words-same p q pred less in
    let held = ready-held s (asked_program p q []) es pred refs xs is in
    let told = h (asked_program p q []).world.arguments is.fits in
    let turn : AllHold (asked_program p q []).world.arguments s (words_of (program_of p []) pred) refs ↔ AllHold (asked_program p q []).world.arguments s (words_of (asked_program p q []) pred) refs = (
      λ k. subst (λ (ws : List When). AllHold (asked_program p q []).world.arguments s ws refs) (sym e) k,
      λ k. subst (λ (ws : List When). AllHold (asked_program p q []).world.arguments s ws refs) e k,
    ) in
    (λ k. held.0 (turn.0 (told.0 k)), λ k. told.1 (turn.1 (held.1 k)))

-- a parked call is ready where it is told to be
pub ready-at : (a : Asking) (es : List Item) (k : ℕ) (c : Parked) (xs : List Tree) → slice_get a.parked k ≡ Some c →
    IsAsked a.state (asked_program a.program a.query []) es c.pred c.args xs → IsReadyAt a k ↔ Ready (asked_program a.program a.query []) es (goal.Call c.pred xs)
ready-at a es k c xs at is =
    let held = ready-held a.state (asked_program a.program a.query []) es c.pred c.args xs is in (
      λ r. held.0 (subst (λ (d : Parked). AllHold (asked_program a.program a.query []).world.arguments a.state (words_of (asked_program a.program a.query []) d.pred) d.args) (some-one r.call c (sym r.is ∙ at)) r.hold),
      λ r. record { call = c; is = at; hold = held.1 r },
    )
