use Rattle.std.proofs.Common.{◌≡◌, ◌+◌, [], ◌∷◌, ◌++◌, length, get_or, arith}
use Rattle.std.proofs.lemmas.Grind.{common_steps}
use Rattle.cb_elim.proofs.Moved.{are-still, are-uses, are-written, stepped-more, stepped-same, uses-later}
use Rattle.cb_elim.proofs.watch.rewrite_one.Goals as goal

pub returns-in_err-value-clause-watched : goal.returns-in_err-value-clause-watched
returns-in_err-value-clause-watched c = are-still c.args.constants c.args.ops.now c.compose_all.new.self c.compose_all.ensures.made.grows c.args.slots.now c.args.trail.now c.args.uses.now c.requires.watched

pub returns-then-value-old-clause-stepped : goal.returns-then-value-old-clause-stepped
returns-then-value-old-clause-stepped c =
    stepped-same c.args.ops.now c.compose_all.new.self c.args.images.now c.args.slot c.args.slots.now c.in_ok-value.value c.requires.slot c.in_ok-value.ensures.made.is_node c.in_ok-value.ensures.function c.if-value-old.true c.args.trail.now

pub returns-then-value-old-clause-watched : goal.returns-then-value-old-clause-watched
returns-then-value-old-clause-watched c = are-still c.args.constants c.args.ops.now c.compose_all.new.self c.compose_all.ensures.made.grows c.args.slots.now c.args.trail.now c.args.uses.now c.requires.watched

pub returns-in_default-clause-watched : goal.returns-in_default-clause-watched
returns-in_default-clause-watched c =
    are-uses c.args.constants c.compose_all.new.self.triples c.args.slots.now c.args.trail.now c.args.uses.now c.note.new.uses c.note.ensures.kept
    (are-still c.args.constants c.args.ops.now c.compose_all.new.self c.compose_all.ensures.made.grows c.args.slots.now c.args.trail.now c.args.uses.now c.requires.watched)

pub returns-in_default-push-clause-watched : goal.returns-in_default-push-clause-watched
returns-in_default-push-clause-watched c =
    let same : c.push.new.self ≡ c.args.trail.now = grind (arith, common_steps) in
    rw same (are-uses c.args.constants c.compose_all.new.self.triples c.args.slots.now c.args.trail.now c.args.uses.now c.note.new.uses c.note.ensures.kept
    (are-still c.args.constants c.args.ops.now c.compose_all.new.self c.compose_all.ensures.made.grows c.args.slots.now c.args.trail.now c.args.uses.now c.requires.watched))

pub returns-clause-stepped : goal.returns-clause-stepped
returns-clause-stepped c =
    let pushed : c.push.new.self ≡ c.args.trail.now ++ record { slot = c.args.slot; value = get_or c.args.slots.now c.args.slot (record { 0 = 0 }) } ∷ [] = grind (arith, common_steps) in
    stepped-more c.args.ops.now c.compose_all.new.self c.args.images.now c.args.slot c.args.slots.now c.in_ok-value.value c.requires.slot c.in_ok-value.ensures.made.is_node c.in_ok-value.ensures.function c.if-value-old.false c.args.trail.now c.push.new.self pushed

pub returns-clause-watched : goal.returns-clause-watched
returns-clause-watched c =
    let pushed : c.push.new.self ≡ c.args.trail.now ++ record { slot = c.args.slot; value = get_or c.args.slots.now c.args.slot (record { 0 = 0 }) } ∷ [] = grind (arith, common_steps) in
    are-written c.args.constants c.args.ops.now c.compose_all.new.self c.compose_all.ensures.made.grows c.args.slots.now c.args.trail.now c.push.new.self c.args.uses.now c.note.new.uses c.args.slot c.in_ok-value.value c.requires.watched c.note.ensures.kept
    c.in_ok-value.ensures.made.is_node c.requires.slot
    (uses-later c.compose_all.new.self.triples c.args.constants (get_or c.args.slots.now c.args.slot (record { 0 = 0 })).0 c.in_ok-value.value.0 c.args.slot c.saturating_add-since.result (length c.args.trail.now + 1) c.note.new.uses (let e = c.saturating_add-since.ensures in let m = c.mark.ensures in omega arith) c.in-Ok.ensures.used) pushed
