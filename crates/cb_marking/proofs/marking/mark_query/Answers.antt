use Rattle.std.proofs.Common.{map, length, sym, subst}
use Rattle.std.proofs.lemmas.List.{length-map}
use Rattle.cb_model.specs.Forms.{goal_form}
use Rattle.cb_model.specs.Sorts.{goals_places}
use Rattle.cb_marking.specs.declared.walk.Walk.{Walk}
use Rattle.cb_marking.specs.Walk.{goals_walked, Meets}
use Rattle.cb_marking.proofs.Rules.{query_stops, query_kept, query_ends}
use Rattle.cb_marking.proofs.marking.mark_query.Goals as goal

pub returns-in-Err : goal.returns-in-Err
returns-in-Err c =
    let gs = map goal_form c.args.goals.now in
    query_stops c.args.declared.now c.counted.ensures gs c.requires (length c.args.goals.now) (sym (length-map c.args.goals.now goal_form)) c.in-Err.stop c.in-Err.ensures

pub marking-requires : goal.marking-requires
marking-requires c =
    let gs = map goal_form c.args.goals.now in
    let d = c.args.declared.now in
    query_kept d c.counted.ensures gs c.requires (length c.args.goals.now) (sym (length-map c.args.goals.now goal_form)) c.goals.new.self
    (subst (λ (v : Walk). Meets d (goals_places d gs) (goals_walked d v 0 gs) c.goals.new.self) c.new-walk.ensures c.in-Ok.ensures)

pub returns-in-Ok : goal.returns-in-Ok
returns-in-Ok c =
    let gs = map goal_form c.args.goals.now in
    let d = c.args.declared.now in
    query_ends d c.counted.ensures gs c.requires (length c.args.goals.now) (sym (length-map c.args.goals.now goal_form)) c.goals.new.self
    (subst (λ (v : Walk). Meets d (goals_places d gs) (goals_walked d v 0 gs) c.goals.new.self) c.new-walk.ensures c.in-Ok.ensures) c.marking.result c.marking.ensures
