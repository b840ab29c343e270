use Rattle.cb_model.specs.declared.Goal.TheVariants as goal_is
use Rattle.cb_branch.proofs.Laws.{keeps-refl}
use Rattle.cb_branch.proofs.Parking.{false-of, first-call-of, ready-by, true-of}
use Rattle.cb_branch.proofs.Work.{same-work}
use Rattle.cb_branch.proofs.Running.ready.Goals as goal

pub returns-then-runs_at_once-clause-keeps : goal.returns-then-runs_at_once-clause-keeps
returns-then-runs_at_once-clause-keeps c = keeps-refl c.args.self.now

pub is_call_ready-requires : goal.is_call_ready-requires
is_call_ready-requires c =
    let st = c.requires.first.2 in
    let k = c.in_ok-pred.ensures.called st.b c.requires.first.0 c.requires.first.1 st.rest st.is st.goals in
    record { b = st.b; is = k.0; g = goal_is.Call c.requires.first.0 c.requires.first.1; rest = st.rest; goals = st.goals; cells = k.1 }

pub returns-in-Ok-clause-yes : goal.returns-in-Ok-clause-yes
returns-in-Ok-clause-yes c = λ e b g rest is f.
    (ready-by c.args.self.now c.in_cells.new.self c.requires.first.0 c.requires.first.1 c.requires.first.2 c.in_ok-pred.pred c.in_ok-pred.call.0 c.in-Ok.ready c.in_ok-pred.ensures.called c.in_ok-pred.ensures.keeps c.in-Ok.ensures b g rest is f).0
    (true-of c.in-Ok.ready e)

pub returns-in-Ok-clause-no : goal.returns-in-Ok-clause-no
returns-in-Ok-clause-no c = λ e b g rest is f r.
    false-of c.in-Ok.ready e
    ((ready-by c.args.self.now c.in_cells.new.self c.requires.first.0 c.requires.first.1 c.requires.first.2 c.in_ok-pred.pred c.in_ok-pred.call.0 c.in-Ok.ready c.in_ok-pred.ensures.called c.in_ok-pred.ensures.keeps c.in-Ok.ensures b g rest is f).1 r)

pub returns-in-Ok-clause-branch : goal.returns-in-Ok-clause-branch
returns-in-Ok-clause-branch c = λ b is.
    let k = first-call-of c.args.self.now c.requires.first.0 c.requires.first.1 c.requires.first.2 b is in
    (c.in_ok-pred.ensures.called b k.0 k.1 k.2 is k.3).0

pub returns-in-Ok-clause-work : goal.returns-in-Ok-clause-work
returns-in-Ok-clause-work c =
    let st = c.requires.first.2 in
    same-work c.args.self.now c.in_cells.new.self st.b st.is (c.in_ok-pred.ensures.called st.b c.requires.first.0 c.requires.first.1 st.rest st.is st.goals).0
