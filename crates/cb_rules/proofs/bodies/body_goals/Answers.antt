use Rattle.cb_trees.specs.Numbered.{numbering_of}
use Rattle.cb_rules.proofs.InOrder.{goals_on, goals_end, goals_behind}
use Rattle.cb_rules.proofs.bodies.body_goals.Goals as goal

pub loop-place-preserved : goal.loop-place-preserved
loop-place-preserved c =
    let now = c.loop-place.invariant in
    let gs = c.args.goals.now in
    let i = c.loop-place.place in
    let g = c.index-goals-place.result in
    record {
      written = goals_behind gs i g c.loop-place-test.true c.index-goals-place.is now.written;
      goals = λ ms same.
          goals_on gs i g c.loop-place-test.true c.index-goals-place.is c.args.numbers.now.declared.now (numbering_of c.args.numbers.now) ms c.args.marking.now.goals c.args.own.now c.loop-place.own c.goal.new.own
          c.loop-place.all c.push.new.self c.equation-sort.result c.in_ok-goal.field-0 c.requires.sorts (now.goals ms same) c.equation-sort.ensures (c.in_ok-goal.ensures.goal ms same) c.in_ok-goal.ensures.own c.in_ok-push.ensures.ok;
    }

pub returns : goal.returns
returns c = λ ms same.
    goals_end c.args.numbers.now.declared.now (numbering_of c.args.numbers.now) ms c.args.marking.now.goals c.args.goals.now c.args.own.now c.loop-place.place c.loop-place.own c.loop-place.all
    c.loop-place-test.false (c.loop-place.invariant.goals ms same)
