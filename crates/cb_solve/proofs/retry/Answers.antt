use Rattle.std.proofs.Common.{◌≡◌, ◌+◌, [], refl, ap, ◌∙◌, arith}
use Rattle.std.proofs.lemmas.Grind.{common_steps}
use Rattle.std.proofs.lemmas.List.{nil_from_length}
use Rattle.cb_branch.specs.Running.{Seen, program_of, query_of}
use Rattle.cb_solve.proofs.Resolving.{popped, retry-ends, retry-stops, retry-resolves, same-asked, same-program, same-query, same-source, same-nodes, same-fulls, back-run, leave-back, few-from, turn-at, turn-of, there-back}
use Rattle.cb_solve.proofs.Clauses.{got-below}
use Rattle.cb_solve.proofs.retry.Goals as goal

pub returns-in_default-clause-at : goal.returns-in_default-clause-at
returns-in_default-clause-at c =
    let m = c.args.m.now in
    let e : m.choices.items ≡ [] = nil_from_length m.choices.items (grind (arith, common_steps)) in
    retry-ends m (record m { choices = c.pop.new.self }) c.requires e refl refl

pub returns-in-Some-passed-clause-at : goal.returns-in-Some-passed-clause-at
returns-in-Some-passed-clause-at c =
    let m = c.args.m.now in let h = c.requires in let top = c.in-Some.choice in
    let pd = popped m.branch m.choices.items h.lower c.pop.new.self.items top h.stacked c.in-Some.ensures.items in
    let back = c.undo.ensures.back pd.t pd.b pd.is pd.moment pd.keeps in
    retry-stops m c.pop.new.self top c.undo.new.self h pd back c.clause_variables-more.result c.in-Some-passed.budget
    (c.clause_variables-more.ensures.count pd.c (there-back m c.pop.new.self top c.undo.new.self h pd back)) c.in-Some-passed.ensures.passed

pub returns-in-Some-passed-clause-turn : goal.returns-in-Some-passed-clause-turn
returns-in-Some-passed-clause-turn c =
    let m = c.args.m.now in let h = c.requires in let top = c.in-Some.choice in
    let pd = popped m.branch m.choices.items h.lower c.pop.new.self.items top h.stacked c.in-Some.ensures.items in
    let back = c.undo.ensures.back pd.t pd.b pd.is pd.moment pd.keeps in
    record {
      budget = refl;
      answers = refl;
      program = same-program m c.pop.new.self top c.undo.new.self h pd back;
      query = same-query m c.pop.new.self top c.undo.new.self h pd back;
      source = same-source m c.pop.new.self top c.undo.new.self h pd back;
      asked = same-asked m c.pop.new.self top c.undo.new.self h pd back;
      nodes = same-nodes m c.pop.new.self top c.undo.new.self h pd back;
      fulls = let e = same-fulls m c.pop.new.self top c.undo.new.self h pd back in omega arith;
      counts = λ next. absurd next;
      used = omega arith;
      quiet = refl;
    }

pub resolve-requires : goal.resolve-requires
resolve-requires c =
    let m = c.args.m.now in let h = c.requires in let top = c.in-Some.choice in
    let pd = popped m.branch m.choices.items h.lower c.pop.new.self.items top h.stacked c.in-Some.ensures.items in
    let back = c.undo.ensures.back pd.t pd.b pd.is pd.moment pd.keeps in
    retry-resolves m c.pop.new.self top c.undo.new.self h pd back c.clause_variables-more.result c.leave_next.new.m
    (c.clause_variables-more.ensures.count pd.c (there-back m c.pop.new.self top c.undo.new.self h pd back)) c.in_default-passed.ensures.passed
    c.in_default-passed.ensures.fits c.in-Ok.ensures.stacked c.in-Ok.ensures.same

pub returns-in-Ok-clause-at : goal.returns-in-Ok-clause-at
returns-in-Ok-clause-at c =
    let m = c.args.m.now in let h = c.requires in let top = c.in-Some.choice in
    let pd = popped m.branch m.choices.items h.lower c.pop.new.self.items top h.stacked c.in-Some.ensures.items in
    let back = c.undo.ensures.back pd.t pd.b pd.is pd.moment pd.keeps in
    turn-at m c.resolve.new.m c.leave_next.new.m.branch c.resolve.result
    (ap (λ (x : Seen). program_of x) c.in-Ok.ensures.same.branch ∙ same-program m c.pop.new.self top c.undo.new.self h pd back)
    (ap (λ (x : Seen). query_of x) c.in-Ok.ensures.same.branch ∙ same-query m c.pop.new.self top c.undo.new.self h pd back) c.resolve.ensures.at

pub undo-requires : goal.undo-requires
undo-requires c =
    let m = c.args.m.now in let h = c.requires in let top = c.in-Some.choice in
    let pd = popped m.branch m.choices.items h.lower c.pop.new.self.items top h.stacked c.in-Some.ensures.items in
    (pd.t, pd.b, pd.is, pd.moment, pd.keeps)

pub clause_variables-more-requires : goal.clause_variables-more-requires
clause_variables-more-requires c =
    let m = c.args.m.now in let h = c.requires in let top = c.in-Some.choice in
    let pd = popped m.branch m.choices.items h.lower c.pop.new.self.items top h.stacked c.in-Some.ensures.items in
    let back = c.undo.ensures.back pd.t pd.b pd.is pd.moment pd.keeps in
    got-below (program_of c.undo.new.self).clauses top.clause pd.c (there-back m c.pop.new.self top c.undo.new.self h pd back)

pub leave_next-requires : goal.leave_next-requires
leave_next-requires c =
    let m = c.args.m.now in let h = c.requires in let top = c.in-Some.choice in
    let pd = popped m.branch m.choices.items h.lower c.pop.new.self.items top h.stacked c.in-Some.ensures.items in
    let back = c.undo.ensures.back pd.t pd.b pd.is pd.moment pd.keeps in
    leave-back m c.pop.new.self top c.undo.new.self h pd back

pub returns-in-Ok-clause-few : goal.returns-in-Ok-clause-few
returns-in-Ok-clause-few c = λ e.
    let m = c.args.m.now in let h = c.requires in let top = c.in-Some.choice in
    let pd = popped m.branch m.choices.items h.lower c.pop.new.self.items top h.stacked c.in-Some.ensures.items in
    let back = c.undo.ensures.back pd.t pd.b pd.is pd.moment pd.keeps in
    few-from m c.leave_next.new.m c.resolve.new.m (back-run m c.pop.new.self top c.undo.new.self h pd back c.leave_next.new.m (m.used + 1) c.in-Ok.ensures.same) (c.resolve.ensures.few e)

pub returns-in-Ok-clause-turn : goal.returns-in-Ok-clause-turn
returns-in-Ok-clause-turn c =
    let m = c.args.m.now in let h = c.requires in let top = c.in-Some.choice in
    let pd = popped m.branch m.choices.items h.lower c.pop.new.self.items top h.stacked c.in-Some.ensures.items in
    let back = c.undo.ensures.back pd.t pd.b pd.is pd.moment pd.keeps in
    turn-of m c.leave_next.new.m c.resolve.new.m c.resolve.result (back-run m c.pop.new.self top c.undo.new.self h pd back c.leave_next.new.m (m.used + 1) c.in-Ok.ensures.same)
    c.in-Ok.ensures.same.used c.in_default-passed.ensures.room c.resolve.ensures.same
