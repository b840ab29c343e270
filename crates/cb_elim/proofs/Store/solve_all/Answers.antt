use Rattle.cb_elim.proofs.Inside.{seen}
use Rattle.cb_elim.proofs.Views.{only-nodes, store-grown}
use Rattle.cb_elim.proofs.Kept.{watched-grown}
use Rattle.cb_elim.proofs.Equations.{only-then}
use Rattle.cb_elim.proofs.Together.{pairs-none, pairs-room-first, pairs-room-second, pairs-store, pairs-there, pairs-unified}
use Rattle.cb_elim.proofs.Store.solve_all.Goals as goal

pub most_general_of-requires : goal.most_general_of-requires
most_general_of-requires c = pairs-there c.args.self.now (seen c.self.inside) c.self.view_is c.args.pairs.now c.requires.arguments

pub returns-in_err-found-clause-only_nodes : goal.returns-in_err-found-clause-only_nodes
returns-in_err-found-clause-only_nodes c = λ no. only-nodes c.args.self.now (seen c.self.inside) c.self.view_is c.requires.store c.most_general_of.new.ops c.most_general_of.ensures.grows

pub returns-in_default-clause-none : goal.returns-in_default-clause-none
returns-in_default-clause-none c = λ yes. pairs-none c.args.self.now (seen c.self.inside) c.self.view_is c.requires.store c.args.pairs.now c.requires.arguments (rw c.in_default.is at c.in_ok-found.ensures.none)

pub returns-in_default-clause-only_nodes : goal.returns-in_default-clause-only_nodes
returns-in_default-clause-only_nodes c = λ no. only-nodes c.args.self.now (seen c.self.inside) c.self.view_is c.requires.store c.most_general_of.new.ops c.most_general_of.ensures.grows

pub invariant_of-self : goal.invariant_of-self
invariant_of-self c = watched-grown c.args.self.now (seen c.self.inside) c.self.view_is c.requires.store c.self.inside.lent c.self.inside.uses c.most_general_of.new.ops c.most_general_of.ensures.grows c.self.invariant

pub invariant_of-self-in_default : goal.invariant_of-self-in_default
invariant_of-self-in_default c = watched-grown c.args.self.now (seen c.self.inside) c.self.view_is c.requires.store c.self.inside.lent c.self.inside.uses c.most_general_of.new.ops c.most_general_of.ensures.grows c.self.invariant

pub invariant_of-self-2 : goal.invariant_of-self-2
invariant_of-self-2 c = watched-grown c.args.self.now (seen c.self.inside) c.self.view_is c.requires.store c.self.inside.lent c.self.inside.uses c.most_general_of.new.ops c.most_general_of.ensures.grows c.self.invariant

pub returns-in_err-found-clause-room : goal.returns-in_err-found-clause-room
returns-in_err-found-clause-room c = pairs-room-first c.args.self.now (seen c.self.inside) c.self.view_is c.requires.store c.args.pairs.now c.most_general_of.new.ops c.most_general_of.ensures.grows c.most_general_of.ensures.room

pub returns-in_default-clause-room : goal.returns-in_default-clause-room
returns-in_default-clause-room c = pairs-room-first c.args.self.now (seen c.self.inside) c.self.view_is c.requires.store c.args.pairs.now c.most_general_of.new.ops c.most_general_of.ensures.grows c.most_general_of.ensures.room

pub put_in-requires-clause-store : goal.put_in-requires-clause-store
put_in-requires-clause-store c = store-grown c.args.self.now (seen c.self.inside) c.self.view_is c.requires.store c.most_general_of.new.ops c.most_general_of.ensures.grows

pub returns-in_err-put_in-clause-only_nodes : goal.returns-in_err-put_in-clause-only_nodes
returns-in_err-put_in-clause-only_nodes c = λ no. only-then c.args.self.now (seen c.self.inside) c.self.view_is c.requires.store c.most_general_of.new.ops c.most_general_of.ensures.grows c.put_in.new.self c.in_err-put_in.ensures.only_nodes

pub returns-in_err-put_in-clause-room : goal.returns-in_err-put_in-clause-room
returns-in_err-put_in-clause-room c =
    pairs-room-second c.args.self.now (seen c.self.inside) c.self.view_is c.requires.store c.args.pairs.now c.most_general_of.new.ops c.most_general_of.ensures.grows c.most_general_of.ensures.room c.in-Some.images.items c.self.inside.constants (rw c.in-Some.is at c.in_ok-found.ensures.found) c.put_in.new.self.nodes (rw c.deref.ensures.value at c.put_in.ensures.room)

pub returns-clause-room : goal.returns-clause-room
returns-clause-room c =
    pairs-room-second c.args.self.now (seen c.self.inside) c.self.view_is c.requires.store c.args.pairs.now c.most_general_of.new.ops c.most_general_of.ensures.grows c.most_general_of.ensures.room c.in-Some.images.items c.self.inside.constants (rw c.in-Some.is at c.in_ok-found.ensures.found) c.put_in.new.self.nodes (rw c.deref.ensures.value at c.put_in.ensures.room)

pub returns-clause-unified : goal.returns-clause-unified
returns-clause-unified c = λ yes.
    pairs-unified c.args.self.now (seen c.self.inside) c.self.view_is c.requires.store c.args.pairs.now c.requires.arguments c.most_general_of.new.ops c.most_general_of.ensures.grows c.in-Some.images.items (rw c.in-Some.is at c.in_ok-found.ensures.found)
    c.put_in.new.self (rw c.deref.ensures.value at c.in_ok-put_in.ensures.moved) c.in_ok-put_in.ensures.values

pub returns-clause-store : goal.returns-clause-store
returns-clause-store c = λ yes.
    pairs-store c.args.self.now (seen c.self.inside) c.self.view_is c.requires.store c.args.pairs.now c.requires.arguments c.most_general_of.new.ops c.most_general_of.ensures.grows c.in-Some.images.items (rw c.in-Some.is at c.in_ok-found.ensures.found)
    c.put_in.new.self (rw c.deref.ensures.value at c.in_ok-put_in.ensures.moved) c.in_ok-put_in.ensures.values c.in_ok-put_in.ensures.changed
