use Rattle.cb_trees.proofs.Signs.{sign_first, sign_second, sign_none}
use Rattle.cb_trees.proofs.numbers.Numbers.sign.Goals as goal

pub returns-in-Some : goal.returns-in-Some
returns-in-Some c = sign_first c.args.self.now.names.now c.args.self.now.more.now (c.args.name.now, c.args.count) c.kept.result c.in-Some.number c.in-Some.ensures c.kept.ensures

pub returns-in-Some-checked_add : goal.returns-in-Some-checked_add
returns-in-Some-checked_add c =
    sign_second c.args.self.now.names.now c.args.self.now.more.now (c.args.name.now, c.args.count) c.kept-in-Some-checked_add.result c.in-Some-number.number c.in-Some-checked_add.number c.len.result
    c.in-None.ensures c.in-Some-number.ensures c.len.ensures.len c.in-Some-checked_add.ensures.1 c.kept-in-Some-checked_add.ensures

pub returns-in-None-number : goal.returns-in-None-number
returns-in-None-number c = sign_none c.args.self.now.names.now c.args.self.now.more.now (c.args.name.now, c.args.count) c.in-None.ensures c.in-None-number.ensures
