-- The variable that is printed in a place, over the parts of a branch.
use Rattle.std.proofs.Common.{◌≡◌, ℕ, ◌<◌, List, length, Some, sym, ap, ◌∙◌}
use Rattle.std.specs.Prelude.{get_or, slice_get}
use Rattle.cb_model.specs.Text.{Text}
use Rattle.cb_model.specs.Output.{printed_from}
use Rattle.cb_model.specs.Derivation.{Branch}
use Rattle.cb_sorts.specs.Source.{Source}
use Rattle.cb_sorts.specs.Asked.{Asked}
use Rattle.cb_goals.specs.declared.Link.{Link}
use Rattle.cb_wake.specs.Waits.{Waits}
use Rattle.cb_ready.specs.Parked.{Parked}
use Rattle.cb_unify.specs.State as state
use Rattle.cb_items.proofs.Lists.{got-within}
use Rattle.cb_branch.specs.Running.{IsBranch, IsPrinted, Seen}
use Rattle.cb_branch.proofs.Methods.{seen}
use Rattle.cb_branch.proofs.Calls.{frame-here, got-cells}
use Rattle.cb_branch.proofs.Looks.{first-frame, printed-is, printed-there}

module _ (now : Seen) (p : Source) (q : Asked) (u : state.Seen) (fs : List (List ℕ)) (ls : List Link) (top steps : ℕ) (ws : Waits) (pk : List Parked) (v : seen p q u fs ls top steps ws pk ≡ now) (b : Branch) (is : IsBranch now b) where
  pub frame-inside : 0 < length fs
  frame-inside = let f = first-frame now b is in frame-here now p q u fs ls top steps ws pk v 0 (got-within now.frames 0 f.0 f.1)

  module _ (place number : ℕ) (name : Text) (cells : List ℕ) (e : Some (number, name) ≡ slice_get (printed_from 0 q.variables) place) (g : cells ≡ get_or fs 0 cells) where
    printed-now : slice_get (printed_from 0 now.query.variables) place ≡ Some (number, name)
    printed-now = sym (ap (λ (o : Seen). slice_get (printed_from 0 o.query.variables) place) v) ∙ sym e

    frame-now : slice_get now.frames 0 ≡ Some cells
    frame-now = sym (ap (λ (o : Seen). slice_get o.frames 0) v) ∙ got-cells fs 0 cells frame-inside g

    pub number-inside : number < length cells
    number-inside = printed-there now b is place number name cells printed-now frame-now

    pub shown : (r : ℕ) → slice_get cells number ≡ Some r → IsPrinted now place r
    shown r h = printed-is now b is place number r name cells printed-now frame-now h
