use Rattle.std.proofs.Common.{map, length, sym, subst}
use Rattle.std.proofs.lemmas.Bool.{and_parts}
use Rattle.std.proofs.lemmas.List.{length-map}
use Rattle.cb_model.specs.Forms.{form_of, goal_form}
use Rattle.cb_model.specs.Written.{is_name, is_written}
use Rattle.cb_model.specs.Sorts.{call_places}
use Rattle.cb_marking.specs.declared.walk.Walk.{Walk}
use Rattle.cb_marking.specs.Walk.{Walks}
use Rattle.cb_marking.proofs.Rules.{head_stops, goals_stops, rule_kept, rule_ends}
use Rattle.cb_marking.proofs.marking.mark_rule.Goals as goal

pub returns-in-Err : goal.returns-in-Err
returns-in-Err c =
    let gs = map goal_form c.args.body.now in
    let f = form_of c.args.head.now in
    head_stops c.args.declared.now c.counted.ensures gs c.requires.body (length c.args.body.now) (sym (length-map c.args.body.now goal_form)) f (and_parts (is_name f) (is_written f) c.requires.head).0 c.in-Err.stop c.in-Err.ensures

pub returns-in-Err-goals : goal.returns-in-Err-goals
returns-in-Err-goals c =
    let gs = map goal_form c.args.body.now in
    let f = form_of c.args.head.now in
    let d = c.args.declared.now in
    goals_stops d c.counted.ensures gs c.requires.body (length c.args.body.now) (sym (length-map c.args.body.now goal_form)) f (and_parts (is_name f) (is_written f) c.requires.head).0 c.call.new.self
    (subst (λ (v : Walk). Walks d v (call_places d f) c.call.new.self) c.new-walk.ensures c.in-Ok.ensures) c.in-Err-goals.stop c.in-Err-goals.ensures

pub marking-requires : goal.marking-requires
marking-requires c =
    let gs = map goal_form c.args.body.now in
    let f = form_of c.args.head.now in
    let d = c.args.declared.now in
    rule_kept d c.counted.ensures gs c.requires.body (length c.args.body.now) (sym (length-map c.args.body.now goal_form)) f (and_parts (is_name f) (is_written f) c.requires.head).0 c.call.new.self
    (subst (λ (v : Walk). Walks d v (call_places d f) c.call.new.self) c.new-walk.ensures c.in-Ok.ensures) c.goals.new.self c.in-Ok-goals.ensures

pub returns-in-Ok-goals : goal.returns-in-Ok-goals
returns-in-Ok-goals c =
    let gs = map goal_form c.args.body.now in
    let f = form_of c.args.head.now in
    let d = c.args.declared.now in
    rule_ends d c.counted.ensures gs c.requires.body (length c.args.body.now) (sym (length-map c.args.body.now goal_form)) f (and_parts (is_name f) (is_written f) c.requires.head).0 c.call.new.self
    (subst (λ (v : Walk). Walks d v (call_places d f) c.call.new.self) c.new-walk.ensures c.in-Ok.ensures) c.goals.new.self c.in-Ok-goals.ensures c.marking.result c.marking.ensures
