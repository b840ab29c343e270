use Rattle.std.proofs.Common.{◌≡◌, ◌-◌, ◌≤◌, [], ◌∷◌, ◌++◌, length, get_or, subst, sym, arith, rules}
use Rattle.std.proofs.lemmas.Grind.{common_steps}
use Rattle.cb_ops.specs.Substitute.{Images}
use Rattle.cb_ops.proofs.Ite.{Grows-then}
use Rattle.cb_solution.proofs.Stages.{ImagesSo, image-there, images-end, images-first, images-fresh, images-lower, images-next, images-nodes, images-rise, images-room, images-skip, images-stop, next-number}
use Rattle.cb_solution.proofs.images.Goals as goal

pub loop-k-init : goal.loop-k-init
loop-k-init c = λ f st.
    subst (λ (xs : Images). ImagesSo (length c.args.nodes.now) f c.args.levels.now c.args.nodes.now c.args.ops.now c.args.ops.now xs) (sym c.new-images.ensures.items)
    (images-first f c.args.levels.now c.args.ops.now c.args.nodes.now st)

pub image-requires-clause-f : goal.image-requires-clause-f
image-requires-clause-f c = image-there (c.loop-k.k - 1) c.requires.stages.0 c.args.levels.now c.args.nodes.now c.args.ops.now c.loop-k.ops c.loop-k.images.items c.requires.stages.1 c.requires.nodes c.requires.fall (subst (λ j. ImagesSo j c.requires.stages.0 c.args.levels.now c.args.nodes.now c.args.ops.now c.loop-k.ops c.loop-k.images.items) (next-number c.loop-k.k c.loop-k-test.true) (c.loop-k.invariant c.requires.stages.0 c.requires.stages.1)) (record { 0 = 0 })

pub image-requires-clause-images : goal.image-requires-clause-images
image-requires-clause-images c = rw c.deref.ensures.value (images-nodes (c.loop-k.k - 1) c.requires.stages.0 c.args.levels.now c.args.nodes.now c.args.ops.now c.loop-k.ops c.loop-k.images.items c.requires.stages.1 c.requires.nodes c.requires.fall (subst (λ j. ImagesSo j c.requires.stages.0 c.args.levels.now c.args.nodes.now c.args.ops.now c.loop-k.ops c.loop-k.images.items) (next-number c.loop-k.k c.loop-k-test.true) (c.loop-k.invariant c.requires.stages.0 c.requires.stages.1)))

pub image-requires-clause-rise : goal.image-requires-clause-rise
image-requires-clause-rise c = rw c.deref.ensures.value (images-rise (c.loop-k.k - 1) c.requires.stages.0 c.args.levels.now c.args.nodes.now c.args.ops.now c.loop-k.ops c.loop-k.images.items c.requires.stages.1 c.requires.nodes c.requires.fall (subst (λ j. ImagesSo j c.requires.stages.0 c.args.levels.now c.args.nodes.now c.args.ops.now c.loop-k.ops c.loop-k.images.items) (next-number c.loop-k.k c.loop-k-test.true) (c.loop-k.invariant c.requires.stages.0 c.requires.stages.1)))

pub image-requires-clause-lower : goal.image-requires-clause-lower
image-requires-clause-lower c = rw c.deref.ensures.value (images-lower (c.loop-k.k - 1) c.requires.stages.0 c.args.levels.now c.args.nodes.now c.args.ops.now c.loop-k.ops c.loop-k.images.items c.requires.stages.1 c.requires.nodes c.requires.fall (subst (λ j. ImagesSo j c.requires.stages.0 c.args.levels.now c.args.nodes.now c.args.ops.now c.loop-k.ops c.loop-k.images.items) (next-number c.loop-k.k c.loop-k-test.true) (c.loop-k.invariant c.requires.stages.0 c.requires.stages.1)))

pub image-requires-clause-fresh : goal.image-requires-clause-fresh
image-requires-clause-fresh c = rw c.deref.ensures.value (images-fresh (c.loop-k.k - 1) c.requires.stages.0 c.args.levels.now c.args.nodes.now c.args.ops.now c.loop-k.ops c.loop-k.images.items c.requires.stages.1 c.requires.nodes c.requires.fall (subst (λ j. ImagesSo j c.requires.stages.0 c.args.levels.now c.args.nodes.now c.args.ops.now c.loop-k.ops c.loop-k.images.items) (next-number c.loop-k.k c.loop-k-test.true) (c.loop-k.invariant c.requires.stages.0 c.requires.stages.1)))

pub returns-in_err-node-clause-grows : goal.returns-in_err-node-clause-grows
returns-in_err-node-clause-grows c = Grows-then c.args.ops.now c.loop-k.ops c.image.new.ops (c.loop-k.invariant c.requires.stages.0 c.requires.stages.1).grows c.image.ensures.grows

pub returns-in_err-node-clause-room : goal.returns-in_err-node-clause-room
returns-in_err-node-clause-room c = images-stop (c.loop-k.k - 1) c.requires.stages.0 c.args.levels.now c.args.nodes.now c.args.ops.now c.loop-k.ops c.loop-k.images.items c.requires.stages.1 c.requires.nodes c.requires.fall (subst (λ j. ImagesSo j c.requires.stages.0 c.args.levels.now c.args.nodes.now c.args.ops.now c.loop-k.ops c.loop-k.images.items) (next-number c.loop-k.k c.loop-k-test.true) (c.loop-k.invariant c.requires.stages.0 c.requires.stages.1)) (record { 0 = 0 }) c.image.new.ops c.image.ensures.grows (rw c.deref.ensures.value at c.image.ensures.room)

pub returns-in_err-node-clause-fulls : goal.returns-in_err-node-clause-fulls
returns-in_err-node-clause-fulls c = let kept = (c.loop-k.invariant c.requires.stages.0 c.requires.stages.1).fulls in search (rules, kept)

pub loop-k-preserved-in-Continue-branch-2 : goal.loop-k-preserved-in-Continue-branch-2
loop-k-preserved-in-Continue-branch-2 c = λ f st.
    let pushed : c.push.new.self.items ≡ c.loop-k.images.items ++ (get_or c.args.levels.now (c.loop-k.k - 1) 0, c.in_ok-node.node) ∷ [] = grind (arith, common_steps) in
    images-next (c.loop-k.k - 1) f c.args.levels.now c.args.nodes.now c.args.ops.now c.loop-k.ops c.loop-k.images.items st c.requires.nodes c.requires.fall (subst (λ j. ImagesSo j f c.args.levels.now c.args.nodes.now c.args.ops.now c.loop-k.ops c.loop-k.images.items) (next-number c.loop-k.k c.loop-k-test.true) (c.loop-k.invariant f st)) (record { 0 = 0 }) c.image.new.ops c.image.ensures.grows (rw c.deref.ensures.value at c.image.ensures.room)
    c.in_ok-node.node c.in_ok-node.ensures.is_node (rw c.deref.ensures.value at c.in_ok-node.ensures.function) c.in_ok-node.ensures.fulls c.push.new.self.items pushed

pub returns-in_err-map_err-clause-grows : goal.returns-in_err-map_err-clause-grows
returns-in_err-map_err-clause-grows c = Grows-then c.args.ops.now c.loop-k.ops c.image.new.ops (c.loop-k.invariant c.requires.stages.0 c.requires.stages.1).grows c.image.ensures.grows

pub returns-in_err-map_err-clause-room : goal.returns-in_err-map_err-clause-room
returns-in_err-map_err-clause-room c = images-stop (c.loop-k.k - 1) c.requires.stages.0 c.args.levels.now c.args.nodes.now c.args.ops.now c.loop-k.ops c.loop-k.images.items c.requires.stages.1 c.requires.nodes c.requires.fall (subst (λ j. ImagesSo j c.requires.stages.0 c.args.levels.now c.args.nodes.now c.args.ops.now c.loop-k.ops c.loop-k.images.items) (next-number c.loop-k.k c.loop-k-test.true) (c.loop-k.invariant c.requires.stages.0 c.requires.stages.1)) (record { 0 = 0 }) c.image.new.ops c.image.ensures.grows (rw c.deref.ensures.value at c.image.ensures.room)

pub returns-in_err-map_err-clause-fulls : goal.returns-in_err-map_err-clause-fulls
returns-in_err-map_err-clause-fulls c = let kept = (c.loop-k.invariant c.requires.stages.0 c.requires.stages.1).fulls in let same = c.in_ok-node.ensures.fulls in search (rules, kept, same)

pub loop-k-preserved : goal.loop-k-preserved
loop-k-preserved c = λ f st. images-skip (c.loop-k.k - 1) f c.args.levels.now c.args.nodes.now c.args.ops.now c.loop-k.ops c.loop-k.images.items st c.requires.nodes c.requires.fall (subst (λ j. ImagesSo j f c.args.levels.now c.args.nodes.now c.args.ops.now c.loop-k.ops c.loop-k.images.items) (next-number c.loop-k.k c.loop-k-test.true) (c.loop-k.invariant f st)) (record { 0 = 0 }) (let w = c.if-nodes-k-ne0.false in omega (arith, w))

pub returns-clause-solved : goal.returns-clause-solved
returns-clause-solved c = λ f st.
    let none_left : c.loop-k.k ≤ 0 = c.loop-k-test.false in
    images-end f c.args.levels.now c.args.nodes.now c.args.ops.now c.loop-k.ops c.loop-k.images.items
    (subst (λ j. ImagesSo j f c.args.levels.now c.args.nodes.now c.args.ops.now c.loop-k.ops c.loop-k.images.items) (omega (arith, none_left)) (c.loop-k.invariant f st))

pub returns-clause-grows : goal.returns-clause-grows
returns-clause-grows c = (c.loop-k.invariant c.requires.stages.0 c.requires.stages.1).grows

pub returns-clause-room : goal.returns-clause-room
returns-clause-room c = images-room c.loop-k.k c.requires.stages.0 c.args.levels.now c.args.nodes.now c.args.ops.now c.loop-k.ops c.loop-k.images.items (c.loop-k.invariant c.requires.stages.0 c.requires.stages.1)

pub returns-clause-fulls : goal.returns-clause-fulls
returns-clause-fulls c = (c.loop-k.invariant c.requires.stages.0 c.requires.stages.1).fulls
