-- The search for a cell that isn't settled.
use Rattle.std.proofs.Common.{◌≡◌, ℕ, ◌+◌, ◌<◌, List, length, Some, None, sym, subst, ◌∙◌, arith}
use Rattle.std.specs.Prelude.{slice_get}
use Rattle.std.proofs.lemmas.Option.{slice_get_within}
use Rattle.cb_model.specs.declared.When.{When}
use Rattle.cb_elim.specs.Store.{Seen as Booleans}
use Rattle.cb_heap.specs.declared.Stored.{Stored}
use Rattle.cb_heap.specs.Below.{Meets}
use Rattle.cb_heap.specs.Finite.{IsChild}
use Rattle.cb_heap.specs.Links.{IsLinked}
use Rattle.cb_heap.proofs.Search.{Searching, past-none, searched, searching-at, searching-bound, searching-step}
use Rattle.cb_heap.proofs.Steps.{some-inj}
use Rattle.cb_unify.specs.Delays.{AreSettled, Settles}

-- what stands in the cell settles
abbrev pub SettlesAt : Booleans → When → List Stored → ℕ → Type 0
SettlesAt s d cs n = (c : Stored) → slice_get cs n ≡ Some c → Settles s d c

module _ (s : Booleans) (d : When) (cs : List Stored) (from : ℕ) (met : List ℕ) (done : ℕ) (so : Searching cs from (SettlesAt s d cs) met done) where
  pub left-at : (n : ℕ) → slice_get met done ≡ Some n → (n < length cs) × (done < length cs)
  left-at n at =
      let w = slice_get_within met done n at in
      let b = searching-bound cs from (SettlesAt s d cs) met done so in
      ((searching-at cs from (SettlesAt s d cs) met done n so at).1, omega (arith, w, b))

  pub settled-at : (n : ℕ) (c : Stored) → slice_get met done ≡ Some n → slice_get cs n ≡ Some c → AreSettled s d cs from → Settles s d c
  settled-at n c at is all = all n c (searching-at cs from (SettlesAt s d cs) met done n so at).0 is

  pub settled-step : IsLinked cs → (new : List ℕ) (n : ℕ) (c : Stored) → slice_get met done ≡ Some n → slice_get cs n ≡ Some c → Settles s d c → Meets (λ j. IsChild cs n j) met new →
      Searching cs from (SettlesAt s d cs) new (done + 1)
  settled-step linked new n c at is h m = searching-step cs linked from (SettlesAt s d cs) met new done n so at (λ e there. subst (λ x. Settles s d x) (some-inj c e (sym is ∙ there)) h) m

  pub all-settled : slice_get met done ≡ None → AreSettled s d cs from
  all-settled none j c below is = searched cs from j (SettlesAt s d cs) met done so (past-none met done none) below c is
