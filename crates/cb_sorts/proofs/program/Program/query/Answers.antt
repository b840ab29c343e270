use Rattle.std.proofs.Common.{List, map, MatchResult, sym, subst}
use Rattle.cb_model.specs.declared.RawGoal.{RawGoal}
use Rattle.cb_model.specs.Forms.{goal_form}
use Rattle.cb_model.specs.Directives.{heads}
use Rattle.cb_model.specs.Loading.{module_names, query_body}
use Rattle.cb_rules.specs.Refused.{RefusesBody}
use Rattle.cb_sorts.specs.Asked.{Asks}
use Rattle.cb_sorts.specs.Source.{Source, Loads}
use Rattle.cb_sorts.proofs.Queries.{query_same}
use Rattle.cb_sorts.proofs.program.Program.query.Goals as goal

pub returns : goal.returns
returns c = λ cs loads.
    let here = subst (Loads cs) (sym c.self.view_is) loads in
    let line = c.args.raw.now.line in
    subst (λ (l : List RawGoal). MatchResult c.asked.result (Asks c.args.self.now.declared (heads cs) c.args.self.now.names (module_names cs) (map goal_form l))
    (RefusesBody c.args.self.now.declared (heads cs) (module_names cs) (query_body (map goal_form l)) line)) c.as_slice.ensures
    (subst (λ (s : Source). MatchResult c.asked.result (Asks s.declared (heads cs) s.names (module_names cs) (map goal_form c.as_slice.result.now))
    (RefusesBody s.declared (heads cs) (module_names cs) (query_body (map goal_form c.as_slice.result.now)) line)) c.self.view_is
    (query_same c.self.inside.declared c.self.inside.known.heads (heads cs) c.self.inside.known.names (module_names cs) here.heads (map goal_form c.as_slice.result.now) line c.asked.result
    (c.asked.ensures (module_names cs) here.modules)))
