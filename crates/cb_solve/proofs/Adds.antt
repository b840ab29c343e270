-- What the additions of the branch that runs come to, from what the branch says of them.
use Rattle.std.proofs.Common.{◌≡◌, ℕ, [], ◌∷◌, Some, None, refl, ap, Err, Result}
use Rattle.cb_model.specs.Equations.{Pair, Refuted}
use Rattle.cb_model.specs.Derivation.{Branch, Run, extended}
use Rattle.cb_branch.specs.declared.First.TheVariants as first
use Rattle.cb_dd.specs.declared.Stop.{Stop}
use Rattle.cb_branch.specs.Running.{GoesOn, WantsNodes, nodes_of, program_of, query_of, behind}
use Rattle.cb_branch.proofs.Laws.{keeps-refl}
use Rattle.cb_solve.specs.declared.Budget.{Budget}
use Rattle.cb_solve.specs.declared.Machine.{Machine}
use Rattle.cb_solve.specs.Machine.{Has, RunsAt, TriesAt, StopsAt, IsFew, IsSame, Passes}
use Rattle.cb_solve.proofs.Stacks.{Addition, equal-addition, stops-at, none-passed, add-goes, add-fails, few-adding}

pub same-self : (m : Machine) → IsSame m m
same-self m = record { budget = refl; answers = refl; used = refl; keeps = keeps-refl m.branch }

-- an addition of the branch that runs
module _ (m : Machine) (b c : Branch) (more : ℕ) (runs : RunsAt (program_of m.branch) (query_of m.branch) m b) (a : Addition (program_of m.branch) b [] 0 more (Run b) c) where
  pub adding-stops : (w : Budget) → Passes m 0 more (Some w) → StopsAt (program_of m.branch) (query_of m.branch) m w
  adding-stops w ps = stops-at (program_of m.branch) (query_of m.branch) m (Run b) runs.lower 0 [] c w _ runs.counted a.moves refl (ps b c runs.is a.sorts a.steps)

  pub adding-few : (n : Machine) → Passes m 0 more None → WantsNodes m.branch n.branch c → IsFew m n
  adding-few n ps w = record {
    few = few-adding (program_of m.branch) (query_of m.branch) m (Run b) runs.lower (nodes_of m.branch) 0 [] c runs.counted a.moves (none-passed _ (ps b c runs.is a.sorts a.steps)) w.few;
    rose = w.rose;
  }

  pub adding-goes : (n : Machine) → Passes m 0 more None → GoesOn (program_of m.branch) n.branch c → IsSame m n → n.choices.items ≡ m.choices.items → (b' : Branch) × RunsAt (program_of m.branch) (query_of m.branch) n b'
  adding-goes n ps g same hc = (g.woken, add-goes (program_of m.branch) (query_of m.branch) m n b c runs a.moves (none-passed _ (ps b c runs.is a.sorts a.steps)) g same hc)

  pub adding-fails : (n : Machine) → Passes m 0 more None → Refuted (program_of m.branch).world c.items → IsSame m n → n.choices.items ≡ m.choices.items → TriesAt (program_of m.branch) (query_of m.branch) n
  adding-fails n ps g same hc = add-fails (program_of m.branch) (query_of m.branch) m n b c runs a.moves (none-passed _ (ps b c runs.is a.sorts a.steps)) g same hc

-- an equation
abbrev pub equal-made : (m : Machine) → Has m first.Equal → Branch
equal-made m h = extended (behind h.b h.starts.2) h.starts.2 (Pair h.starts.0 h.starts.1 ∷ []) []

pub equal-adds : (m : Machine) (h : Has m first.Equal) → Addition (program_of m.branch) h.b [] 0 0 (Run h.b) (equal-made m h)
equal-adds m h = equal-addition (program_of m.branch) h.b h.starts.0 h.starts.1 h.starts.2 h.starts.3

-- the same stop in another result
pub err-as : {A B : Type 0} (s t : Stop) → ◌≡◌ {A = Result A Stop} (Err s) (Err t) → ◌≡◌ {A = Result B Stop} (Err s) (Err t)
err-as {A = A} {B = B} s t e = let k : s ≡ t = cc in let f : Stop → Result B Stop = λ x. Err x in ap f k
