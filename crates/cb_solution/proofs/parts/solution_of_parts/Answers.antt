use Rattle.std.proofs.Common.{Bool, Ok, ◌≡◌, ◌++◌, take, drop, length, ap, sym, ◌∙◌, arith}
use Rattle.cb_ops.proofs.Ite.{Grows-same}
use Rattle.cb_solution.proofs.Eliminated.{parts-room, parts-room-second, parts-solved}
use Rattle.cb_solution.proofs.Places.{whole-slice}
use Rattle.cb_solution.proofs.parts.solution_of_parts.Goals as goal

pub returns-in_err-eliminate-clause-room : goal.returns-in_err-eliminate-clause-room
returns-in_err-eliminate-clause-room c = parts-room-second c.args.ops.now c.spread.new.ops c.eliminate.new.ops c.eliminate.new.ops c.spread.ensures.grows c.eliminate.ensures.grows (Grows-same c.eliminate.new.ops) c.args.levels.now.keys c.args.parts.now c.in-Some.nodes.items c.eliminate.new.nodes (rw c.in-Some.is at c.in_ok-nodes.ensures.spread) c.spread.ensures.room (rw c.deref_mut.ensures.value at c.eliminate.ensures.room)

pub returns-then-not-branch-clause-room : goal.returns-then-not-branch-clause-room
returns-then-not-branch-clause-room c = parts-room-second c.args.ops.now c.spread.new.ops c.eliminate.new.ops c.eliminate.new.ops c.spread.ensures.grows c.eliminate.ensures.grows (Grows-same c.eliminate.new.ops) c.args.levels.now.keys c.args.parts.now c.in-Some.nodes.items c.eliminate.new.nodes (rw c.in-Some.is at c.in_ok-nodes.ensures.spread) c.spread.ensures.room (rw c.deref_mut.ensures.value at c.eliminate.ensures.room)

pub returns-in_err-images-clause-room : goal.returns-in_err-images-clause-room
returns-in_err-images-clause-room c =
    let done = ((rw c.deref_mut.ensures.value at c.in_ok-eliminate.ensures.eliminated) (ap (λ (b : Bool). Ok b) c.if-not-branch.false)) in
    let spread = (rw c.in-Some.is at c.in_ok-nodes.ensures.spread) in
    let n : c.in-Some.nodes.len ≡ length c.in-Some.nodes.items = (let o = c.in-Some.nodes.ok.0 in omega (arith, o)) in
    let e : take c.in-Some.nodes.len (c.eliminate.new.nodes ++ drop (length c.eliminate.new.nodes) c.in-Some.nodes.items) ≡ c.eliminate.new.nodes = whole-slice c.in-Some.nodes.len c.eliminate.new.nodes c.in-Some.nodes.items (done.number ∙ sym spread.places.number) n in
    let same : c.deref.result.now ≡ c.eliminate.new.nodes = c.deref.ensures.value ∙ e in
    parts-room c.args.ops.now c.spread.new.ops c.eliminate.new.ops c.images.new.ops c.spread.ensures.grows c.eliminate.ensures.grows c.images.ensures.grows c.args.levels.now.keys c.args.parts.now c.in-Some.nodes.items c.eliminate.new.nodes (rw c.in-Some.is at c.in_ok-nodes.ensures.spread) done c.spread.ensures.room (rw c.deref_mut.ensures.value at c.eliminate.ensures.room) (rw (c.as_slice.ensures.keys, same) at c.images.ensures.room)

pub returns-clause-solved : goal.returns-clause-solved
returns-clause-solved c =
    let done = ((rw c.deref_mut.ensures.value at c.in_ok-eliminate.ensures.eliminated) (ap (λ (b : Bool). Ok b) c.if-not-branch.false)) in
    let spread = (rw c.in-Some.is at c.in_ok-nodes.ensures.spread) in
    let n : c.in-Some.nodes.len ≡ length c.in-Some.nodes.items = (let o = c.in-Some.nodes.ok.0 in omega (arith, o)) in
    let e : take c.in-Some.nodes.len (c.eliminate.new.nodes ++ drop (length c.eliminate.new.nodes) c.in-Some.nodes.items) ≡ c.eliminate.new.nodes = whole-slice c.in-Some.nodes.len c.eliminate.new.nodes c.in-Some.nodes.items (done.number ∙ sym spread.places.number) n in
    let same : c.deref.result.now ≡ c.eliminate.new.nodes = c.deref.ensures.value ∙ e in
    parts-solved c.args.ops.now c.spread.new.ops c.eliminate.new.ops c.images.new.ops c.spread.ensures.grows c.eliminate.ensures.grows c.images.ensures.grows c.args.levels.now.keys c.args.parts.now c.in-Some.nodes.items c.eliminate.new.nodes (rw c.in-Some.is at c.in_ok-nodes.ensures.spread) done c.in_ok-images.images.items (rw (c.as_slice.ensures.keys, same) at c.in_ok-images.ensures.solved)

pub returns-clause-room : goal.returns-clause-room
returns-clause-room c =
    let done = ((rw c.deref_mut.ensures.value at c.in_ok-eliminate.ensures.eliminated) (ap (λ (b : Bool). Ok b) c.if-not-branch.false)) in
    let spread = (rw c.in-Some.is at c.in_ok-nodes.ensures.spread) in
    let n : c.in-Some.nodes.len ≡ length c.in-Some.nodes.items = (let o = c.in-Some.nodes.ok.0 in omega (arith, o)) in
    let e : take c.in-Some.nodes.len (c.eliminate.new.nodes ++ drop (length c.eliminate.new.nodes) c.in-Some.nodes.items) ≡ c.eliminate.new.nodes = whole-slice c.in-Some.nodes.len c.eliminate.new.nodes c.in-Some.nodes.items (done.number ∙ sym spread.places.number) n in
    let same : c.deref.result.now ≡ c.eliminate.new.nodes = c.deref.ensures.value ∙ e in
    parts-room c.args.ops.now c.spread.new.ops c.eliminate.new.ops c.images.new.ops c.spread.ensures.grows c.eliminate.ensures.grows c.images.ensures.grows c.args.levels.now.keys c.args.parts.now c.in-Some.nodes.items c.eliminate.new.nodes (rw c.in-Some.is at c.in_ok-nodes.ensures.spread) done c.spread.ensures.room (rw c.deref_mut.ensures.value at c.eliminate.ensures.room) (rw (c.as_slice.ensures.keys, same) at c.images.ensures.room)
