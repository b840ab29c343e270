-- Additions to the terms of a branch.
use Rattle.std.proofs.Common.{◌≡◌, ℕ, ◌+◌, List, [], ◌∷◌, ◌++◌, length, refl, sym, ap, subst, ◌∙◌, arith}
use Rattle.std.specs.Prelude.{Result, Ok, Err, IfOk, OnOk}
use Rattle.cb_dd.specs.declared.Stop.{Stop}
use Rattle.cb_model.specs.declared.Sort.{Sort}
use Rattle.cb_model.specs.declared.Tree.{Tree}
use Rattle.cb_model.specs.Program.{bools}
use Rattle.cb_model.specs.Values.{Sorts, World}
use Rattle.cb_model.specs.Equations.{Item, Pair}
use Rattle.cb_unify.specs.State.{Seen, FitsTable, HasNone, IsSolved, IsState}
use Rattle.cb_unify.specs.Growth.{AddsVariables, IsOpened}
use Rattle.cb_unify.specs.Moments.{KeepsMoments, moment_of}
use Rattle.cb_unify.specs.Solve.{OnlyRewritten}
use Rattle.cb_unify.proofs.Back.{moment-now}
use Rattle.cb_items.specs.Items.{AddsFrame, AddsPair, RefutesPair}
use Rattle.cb_items.specs.Laws.{BuiltStands, FrameLater, FullsSayNothing, RenamedIsShifted, StandsLater, ValuesStay}
use Rattle.cb_items.proofs.Shifts.{shifted-value}
use Rattle.cb_items.proofs.Bridges.{built-stands, extended-items, frame-later, fulls-vals, made-there, none-refuted, opened-frame, opened-items, pair-says, solved-grown, solved-items, solved-solvable, stands-later}

pub keeps-budget : (s u : Seen) → IsState s → KeepsMoments s u → u.store.nodes.budget ≡ s.store.nodes.budget
keeps-budget s u is k = ap (λ (o : Seen). o.store.nodes.budget) (k.same (moment_of s) (moment-now s is))

pub adds-pair : (s u : Seen) (l r : ℕ) → IsState s → KeepsMoments s u → IsSolved s u ((l, r) ∷ []) → OnlyRewritten s u → AddsPair s u l r
adds-pair s u l r is kept solved only = λ w x y fit sx sy. record {
  grown = solved-grown s u only.sorts only.made ((l, r) ∷ []) solved;
  made = only.made;
  fits = only.fits w.arguments fit;
  stays = record { constants = only.constants; budget = keeps-budget s u is kept; drawn = let d = only.drawn in omega arith };
  vals = λ es h. solved-items s u only.sorts only.made ((l, r) ∷ []) solved w es (Pair x y) h (pair-says w.arguments s l r x y sx sy);
  solvable = λ es h.
      solved-solvable s u only.sorts only.made ((l, r) ∷ []) solved w (es ++ Pair x y ∷ []) fit (solved-items s u only.sorts only.made ((l, r) ∷ []) solved w es (Pair x y) h (pair-says w.arguments s l r x y sx sy));
}

pub no-pair : (s : Seen) (l r : ℕ) → HasNone s ((l, r) ∷ []) → RefutesPair s l r
no-pair s l r h = λ w es x y sx sy vals. none-refuted w s es ((l, r) ∷ []) (Pair x y) h vals (pair-says w.arguments s l r x y sx sy)

pub adds-frame : (s u : Seen) (zs : List Sort) (frame : List ℕ) → IsState s → IsOpened s u zs frame → AddsVariables s u (bools zs) → ((t : Sorts) → FitsTable t s → FitsTable t u) → AddsFrame s u zs frame
adds-frame s u zs frame is opened adds fits = record {
  grown = opened.grown;
  made = opened.made;
  frame_is = opened-frame s u zs frame opened (made-there s is);
  fits = fits;
  stays = record { constants = adds.constants; budget = adds.budget; drawn = adds.drawn };
  vals = λ w es h. opened-items s u zs frame opened (made-there s is) w es h;
}

pub adds-frames : (s u : Seen) (zs : List Sort) (x : Result (List ℕ) Stop) → IsState s → IfOk x (λ f. IsOpened s u zs f) → OnOk x (AddsVariables s u (bools zs)) → OnOk x ((t : Sorts) → FitsTable t s → FitsTable t u) →
    IfOk x (λ f. AddsFrame s u zs f)
adds-frames s u zs (Ok f) is o a h = adds-frame s u zs f is o a h
adds-frames s u zs (Err e) is o a h = tt

-- ---- the laws

pub later-law : StandsLater
later-law t s u r x g h = stands-later t s u r x g h

pub frame-law : FrameLater
frame-law s u base zs frame g h = frame-later s u base zs frame g h

pub renamed-law : RenamedIsShifted
renamed-law k x = λ a v. shifted-value a v k x

pub built-law : BuiltStands
built-law t s u zs frame x y r base b g f h = built-stands t s u zs frame x y r b g base f h

pub values-law : ValuesStay
values-law w s u es is e fit h = extended-items s u e (made-there s is) w fit es h

pub fulls-law : FullsSayNothing
fulls-law w n s es h = fulls-vals n w s es h
