-- Each query says something.
use Rattle.std.proofs.Common.{ℕ, List, [], ◌∷◌, ◌++◌, refl}
use Rattle.cb_model.specs.Bits.{Each}
use Rattle.cb_model.specs.Text.{Text}
use Rattle.cb_model.specs.Equations.{Solvable}
use Rattle.cb_model.specs.Program.{Program}
use Rattle.cb_model.specs.Derivation.{Branch, Query, Note, End, Plain, runs, stopped, printed_of}
use Rattle.cb_model.specs.Line.{Names}
use Rattle.cb_model.specs.Output.{AreLines, no_lines, more_lines, all, end_text, is_stop}
use Rattle.cb_laws.proofs.Printed.{printed_are_solvable}
use Rattle.cb_outputs.specs.Exists.{QueryExists}
use Rattle.cb_outputs.proofs.Runs.{run_exists}
use Rattle.cb_outputs.proofs.Lines.{line_exists}

-- solvable branches have lines
pub lines_exist : (p : Program) (names : Names) (bs : List Branch) → Each (λ b. Solvable p.world b.items) bs → (xs : List Text) × AreLines p names bs xs
lines_exist p names [] h = ([], no_lines)
lines_exist p names (b ∷ bs) h =
    let x = line_exists p names b h.0 in
    let r = lines_exist p names bs h.1 in
    (x.0 ∷ r.0, more_lines x.1 r.1)

-- the branches that a whole run prints are solvable
pub printed_solvable : (p : Program) (q : Query) (budget : ℕ) (ns : List Note) (end : End) → Plain p q budget ns end → Each (λ b. Solvable p.world b.items) (printed_of ns)
printed_solvable p q budget ns end (runs used s f e) = printed_are_solvable p q budget used ns s f
printed_solvable p q budget ns end (stopped w e) = tt

pub query_exists : QueryExists
query_exists p q names resolutions nodes circuits goals =
    let r = run_exists p q resolutions circuits goals in
    let xs = lines_exist p names (printed_of r.0) (printed_solvable p q resolutions r.0 r.1 r.2) in
    (xs.0 ++ end_text r.1 xs.0 ∷ [], is_stop r.1, all r.0 r.1 xs.0 r.2 xs.1 refl refl)
