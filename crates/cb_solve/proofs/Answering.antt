-- The answers of a run.
use Rattle.std.proofs.Common.{◌≡◌, ℕ, ◌+◌, Bool, List, [], ◌∷◌, length, Option, ap, subst, ◌∙◌, arith, length-append}
use Rattle.cb_model.specs.Derivation.{Branch, Note, Printed, SoFar, printed_of}
use Rattle.cb_branch.specs.Running.{program_of, query_of}
use Rattle.cb_solve.specs.declared.Event.{Event}
use Rattle.cb_solve.specs.declared.Event.TheVariants as event
use Rattle.cb_solve.specs.declared.Machine.{Machine}
use Rattle.cb_solve.specs.declared.Stepped.{Stepped}
use Rattle.cb_solve.specs.declared.Stepped.TheVariants as stepped
use Rattle.cb_solve.specs.Machine.{AtStep, AnswersAt, IsTurned}
use Rattle.cb_solve.specs.Run.{Run, AnswerFollows, IsHeard, run_of}
use Rattle.cb_solve.proofs.Runs.{printed-append}

follows : (m n : Machine) (o o' : Option Event) (s s' : Bool) (b : Branch) → AnswersAt (program_of m.branch) (query_of m.branch) n b → IsTurned m n stepped.Answer → AnswerFollows (run_of m o s) (run_of n o' s')
follows m n o o' s s' b h t =
    let f : length (printed_of h.counted.notes) ≡ length (printed_of h.before) + 1 =
    ap (λ (x : List Note). length (printed_of x)) h.last ∙ ap length (printed-append h.before (Printed b ∷ [])) ∙ length-append (printed_of h.before) (b ∷ []) in
    record {
      notes = h.counted.notes;
      used = n.used;
      entries = h.lower;
      so_far = subst (λ (x : ℕ). SoFar (program_of m.branch) (query_of m.branch) x h.counted.notes n.used h.lower) t.budget h.counted.so_far;
      before = h.before;
      b = b;
      last = h.last;
      many = let a = t.answers in let c = h.counted.many in omega arith;
      counted = t.answers;
      is = h.is;
      nodes = t.nodes;
      program = t.program;
      query = t.query;
      source = t.source;
      asked = t.asked;
      budget = t.budget;
    }

pub answer-follows : (m n : Machine) (o o' : Option Event) (s s' : Bool) (old : Run) (x : Stepped) (y : Event) → run_of m o s ≡ old → AtStep (program_of m.branch) (query_of m.branch) n x → IsTurned m n x → IsHeard x y → y ≡ event.Answer →
    AnswerFollows old (run_of n o' s')
answer-follows m n o o' s s' old stepped.Goes y v a t h e = absurd h
answer-follows m n o o' s s' old stepped.Left y v a t h e = absurd h
answer-follows m n o o' s s' old stepped.Answer y v a t h e = subst (λ (x : Run). AnswerFollows x (run_of n o' s')) v (follows m n o o' s s' a.1.0 a.1.1 t)
answer-follows m n o o' s s' old (stepped.Stopped w) y v a t h e = absurd (cc)
answer-follows m n o o' s s' old stepped.End y v a t h e = absurd (cc)
