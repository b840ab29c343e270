-- What the outcome of a command says.
use Rattle.std.proofs.Common.{◌≡◌, ℕ, ◌<◌, List, [], ◌∷◌, Option, Some, None, refl, sym, ap, subst, ◌∙◌, arith}
use Rattle.cb_model.specs.declared.Outcome.{Outcome}
use Rattle.cb_model.specs.declared.Outcome.TheVariants as outcome
use Rattle.cb_model.specs.declared.Side.{Side}
use Rattle.cb_model.specs.declared.Side.TheVariants as side
use Rattle.cb_model.specs.Text.{Text}
use Rattle.cb_model.specs.Commands.{Command, Check, Run, Verify, Same, Make, IsNumber, Nodes}
use Rattle.cb_model.specs.Refusals.{Refused, Refuses, usage, unbuilt}
use Rattle.cb_lines.specs.Ends.{IsDecided, Finishes, all_written, cut_off, whole, broken, wanting, Tells}
use Rattle.cb_lines.proofs.Outcomes.{Facts, NotUsage, refusal-facts, reading-number, sort-number, fact-number, no-fault}
use Rattle.cb_model.specs.Output as output
use Rattle.cb_model.specs.Output.{Loaded, FileRefused, long, unread}
use Rattle.cb_accept.proofs.Accepting.{some-none}
use Rattle.cb_commands.proofs.Outcomes.{check-facts, verify-facts, same-facts, make-facts}
use Rattle.cb_run.specs.Run.{RunSays, unbuilt_yet, asked}
use Rattle.cb_run.proofs.Outcomes.{input-facts}
use Rattle.cb_top.specs.Built.{Task, Checking, Running, Comparing, Pairing, TaskSays, FileSays, refused, accepted, CommandSays}
use Rattle.cb_top.specs.Top.{IsRun, MayStop}

pub file-number : (file : Text) (r : Refused) → FileRefused file r → r.number ≡ 19 → ⊥
file-number file r (long h) = λ (p : 20 ≡ 19). omega arith
file-number file r (unread x s h e) = reading-number x r e
file-number file r (output.directive cs e s h k p) = λ q. sort-number e (ap (λ (x : Refused). x.number) (sym p) ∙ q)
file-number file r (output.rule cs d e s h k n p) = λ q. sort-number e (ap (λ (x : Refused). x.number) (sym p) ∙ q)
file-number file r (output.a_fact cs d e c s h k n f p) = λ q. fact-number e (ap (λ (x : Refused). x.number) (sym p) ∙ q)

-- the task runs queries, or its budget of nodes is a number
abbrev pub TaskStops : Task → Type 0
TaskStops Checking = ⊥
TaskStops (Running resolutions nodes) = Unit {0}
TaskStops (Comparing name nodes) = IsNumber nodes
TaskStops (Pairing one two nodes) = IsNumber nodes

run-facts : (l : Loaded) (resolutions : ℕ) (nodes : Nodes) (input : Text) (lines : List Text) (o : Outcome) → RunSays l resolutions nodes input lines o → Facts (Unit {0}) o
run-facts l resolutions nodes input lines o (unbuilt_yet a h) = refusal-facts unbuilt lines o (λ (p : 99 ≡ 19). omega arith) h
run-facts l resolutions nodes input lines o (asked a h) = input-facts l resolutions nodes input lines o h

task-facts : (task : Task) (input : Text) (l : Loaded) (lines : List Text) (o : Outcome) → TaskSays task input l lines o → Facts (TaskStops task) o
task-facts Checking input l lines o h = check-facts l lines o h
task-facts (Running resolutions nodes) input l lines o h = run-facts l resolutions nodes input lines o h
task-facts (Comparing name nodes) input l lines o h = verify-facts l name nodes lines o h
task-facts (Pairing one two nodes) input l lines o h = same-facts l one two nodes lines o h

file-facts : (task : Task) (file input : Text) (lines : List Text) (o : Outcome) → FileSays task file input lines o → Facts (TaskStops task) o
file-facts task file input lines o (refused r t h) = refusal-facts r lines o (file-number file r t) h
file-facts task file input lines o (accepted l i h) = task-facts task input l lines o h

-- what an output says of its outcome
pub record HasOutcome (c : Option Command) (o : Outcome) : Type 0 where
  pub ends : IsDecided o
  pub refuses : c ≡ None → o ≡ outcome.Refused 19
  pub only : o ≡ outcome.Refused 19 → c ≡ None
  pub stops : o ≡ outcome.Stopped → MayStop c

of-facts : (c : Command) (o : Outcome) → Facts (MayStop (Some c)) o → HasOutcome (Some c) o
of-facts c o f = record { ends = f.ends; refuses = λ p. absurd (some-none c p); only = λ p. absurd (f.other p); stops = f.stops }

pub says-outcome : (c : Option Command) (file input : Text) (lines : List Text) (o : Outcome) → CommandSays c file input lines o → HasOutcome c o
says-outcome None file input lines o h = record {
  ends = subst IsDecided (sym h.1) tt;
  refuses = λ p. h.1;
  only = λ p. refl;
  stops = λ p. let e : outcome.Refused 19 ≡ outcome.Stopped = sym h.1 ∙ p in cc;
}
says-outcome (Some (Check f)) file input lines o h = of-facts (Check f) o (file-facts Checking file input lines o h)
says-outcome (Some (Run f r n)) file input lines o h = of-facts (Run f r n) o (file-facts (Running r n) file input lines o h)
says-outcome (Some (Verify f x n)) file input lines o h = of-facts (Verify f x n) o (file-facts (Comparing x n) file input lines o h)
says-outcome (Some (Same f a b n)) file input lines o h = of-facts (Same f a b n) o (file-facts (Pairing a b n) file input lines o h)
says-outcome (Some (Make b n)) file input lines o h = of-facts (Make b n) o (make-facts b n lines o h)

-- ---- faults

-- lines that are said end by no other fault than one of the output
pub tells-side : {Says : List Text → Outcome → Type 0} {before after : Option Text} {result : Outcome} → ((lines : List Text) (o : Outcome) → Says lines o → IsDecided o) → Tells Says before after result →
    (s : Side) → (s ≡ side.Output → ⊥) → result ≡ outcome.Fault s → ⊥
tells-side {result = result} f (whole t h w) s n e = no-fault s result (f h.lines result h.says) e
tells-side f (broken t b k w) s n e = n (let p : outcome.Fault s ≡ outcome.Fault side.Output = sym e ∙ k in cc)
tells-side f (wanting t b k w) s n e = let p : outcome.Memory ≡ outcome.Fault s = sym k ∙ e in absurd (cc)

-- nor does a text that is finished
pub finish-side : {before after : Option Text} {text : Text} {wanted result : Outcome} → IsDecided wanted → Finishes before after text wanted result → (s : Side) → (s ≡ side.Output → ⊥) → result ≡ outcome.Fault s → ⊥
finish-side {wanted = wanted} d (all_written e w) s n k = no-fault s wanted d (sym e ∙ k)
finish-side d (cut_off i e w) s n k = n (let p : outcome.Fault s ≡ outcome.Fault side.Output = sym k ∙ e in cc)
