use Rattle.std.proofs.Common.{map, subst, sym}
use Rattle.std.specs.List.Sorted.{IsStrictlyIncreasing}
use Rattle.cb_ops.specs.Substitute.{Images, AreNodes}
use Rattle.cb_project.proofs.Nodes.{nodes-grown}
use Rattle.cb_project.proofs.Steps.{put-in-at, put-room-at}
use Rattle.cb_project.proofs.Renamed.{images-nodes, images-rise, room-parameters, renamed-room, renamed-parametric, renamed-own, renamed-as-many}
use Rattle.cb_project.proofs.renaming.renamed_nodes.Goals as goal

pub returns-in_err-images-clause-room : goal.returns-in_err-images-clause-room
returns-in_err-images-clause-room c = room-parameters c.args.ops.now c.parameters.new.ops c.args.constants c.args.first c.args.values.now c.args.names.now.entries c.requires.names c.parameters.ensures.room

pub put_in-requires-clause-values : goal.put_in-requires-clause-values
put_in-requires-clause-values c = nodes-grown c.args.ops.now c.parameters.new.ops c.parameters.ensures.grows c.args.values.now c.requires.nodes

pub put_in-requires-clause-images : goal.put_in-requires-clause-images
put_in-requires-clause-images c = subst (λ (l : Images). AreNodes c.parameters.new.ops.triples l) (sym c.deref.ensures.value) (images-nodes c.parameters.new.ops.triples c.args.names.now.entries c.in_ok-images.images.items c.in_ok-images.ensures.images)

pub put_in-requires-clause-rise : goal.put_in-requires-clause-rise
put_in-requires-clause-rise c = subst (λ (l : Images). IsStrictlyIncreasing (map (λ i. i.0) l)) (sym c.deref.ensures.value) (images-rise c.parameters.new.ops.triples c.args.names.now.entries c.in_ok-images.images.items c.in_ok-images.ensures.images c.requires.names.rise)

pub returns-in_err-nodes-clause-room : goal.returns-in_err-nodes-clause-room
returns-in_err-nodes-clause-room c = renamed-room c.args.ops.now c.parameters.new.ops c.put_in.new.ops c.parameters.ensures.grows c.args.constants c.args.first c.args.values.now c.args.names.now.entries c.in_ok-images.images.items c.requires.nodes c.requires.names c.in_ok-images.ensures.images c.parameters.ensures.room (put-room-at c.args.values.now _ c.in_ok-images.images.items c.parameters.new.ops c.put_in.new.ops c.deref.ensures.value c.put_in.ensures.room)

pub returns-clause-room : goal.returns-clause-room
returns-clause-room c = renamed-room c.args.ops.now c.parameters.new.ops c.put_in.new.ops c.parameters.ensures.grows c.args.constants c.args.first c.args.values.now c.args.names.now.entries c.in_ok-images.images.items c.requires.nodes c.requires.names c.in_ok-images.ensures.images c.parameters.ensures.room (put-room-at c.args.values.now _ c.in_ok-images.images.items c.parameters.new.ops c.put_in.new.ops c.deref.ensures.value c.put_in.ensures.room)

pub returns-clause-form : goal.returns-clause-form
returns-clause-form c = record {
  nodes = c.in_ok-nodes.ensures.put_in.nodes;
  as_many = renamed-as-many c.args.ops.now c.parameters.new.ops c.put_in.new.ops c.parameters.ensures.grows c.args.constants c.args.first c.args.values.now c.args.names.now.entries c.in_ok-images.images.items c.requires.nodes c.requires.names c.in_ok-images.ensures.images c.in_ok-nodes.nodes.items (put-in-at c.parameters.new.ops.triples c.put_in.new.ops.triples _ c.in_ok-images.images.items c.args.values.now c.in_ok-nodes.nodes.items c.deref.ensures.value c.in_ok-nodes.ensures.put_in);
  parametric = renamed-parametric c.args.ops.now c.parameters.new.ops c.put_in.new.ops c.parameters.ensures.grows c.args.constants c.args.first c.args.values.now c.args.names.now.entries c.in_ok-images.images.items c.requires.nodes c.requires.names c.in_ok-images.ensures.images c.in_ok-nodes.nodes.items (put-in-at c.parameters.new.ops.triples c.put_in.new.ops.triples _ c.in_ok-images.images.items c.args.values.now c.in_ok-nodes.nodes.items c.deref.ensures.value c.in_ok-nodes.ensures.put_in);
  own = renamed-own c.args.ops.now c.parameters.new.ops c.put_in.new.ops c.parameters.ensures.grows c.args.constants c.args.first c.args.values.now c.args.names.now.entries c.in_ok-images.images.items c.requires.nodes c.requires.names c.in_ok-images.ensures.images c.in_ok-nodes.nodes.items (put-in-at c.parameters.new.ops.triples c.put_in.new.ops.triples _ c.in_ok-images.images.items c.args.values.now c.in_ok-nodes.nodes.items c.deref.ensures.value c.in_ok-nodes.ensures.put_in);
}
