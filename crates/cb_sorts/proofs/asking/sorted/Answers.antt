use Rattle.std.proofs.Common.{map, refl}
use Rattle.cb_model.specs.Forms.{goal_form}
use Rattle.cb_model.specs.Loading.{query_body}
use Rattle.cb_rules.proofs.Building.{sorts_are}
use Rattle.cb_sorts.proofs.asking.sorted.Goals as goal

pub returns-in-Ok : goal.returns-in-Ok
returns-in-Ok c = λ ms same passes. record {
  accepted = passes;
  goals = c.in-Ok.ensures.goals ms same;
  variables = c.requires.marking.variables;
  sorts = sorts_are c.args.given.now.declared.now c.args.given.now.names.now c.goals.new.more ms (query_body (map goal_form c.args.body.now)) c.args.marking.variables c.args.marking c.requires.marking refl c.args.marking.sorts refl;
  before = c.len.ensures.len;
  names_are = c.in-Ok.ensures.names;
}
