use Rattle.cb_elim.proofs.Inside.{seen}
use Rattle.cb_elim.proofs.Views.{only-nodes, store-grown}
use Rattle.cb_elim.proofs.Kept.{solve-first, solve-second, watched-grown}
use Rattle.cb_elim.proofs.Equations.{only-then, put-store, put-unified, solve-none}
use Rattle.cb_elim.proofs.Store.solve.Goals as goal

pub returns-in_err-found-clause-only_nodes : goal.returns-in_err-found-clause-only_nodes
returns-in_err-found-clause-only_nodes c = λ no. only-nodes c.args.self.now (seen c.self.inside) c.self.view_is c.requires.store c.most_general.new.ops c.most_general.ensures.grows

pub returns-in_default-clause-none : goal.returns-in_default-clause-none
returns-in_default-clause-none c = λ yes. solve-none c.args.self.now (seen c.self.inside) c.self.view_is c.requires.store c.args.f.0 c.args.g.0 c.requires.f c.requires.g (rw c.in_default.is at c.in_ok-found.ensures.none)

pub returns-in_default-clause-only_nodes : goal.returns-in_default-clause-only_nodes
returns-in_default-clause-only_nodes c = λ no. only-nodes c.args.self.now (seen c.self.inside) c.self.view_is c.requires.store c.most_general.new.ops c.most_general.ensures.grows

pub invariant_of-self : goal.invariant_of-self
invariant_of-self c = watched-grown c.args.self.now (seen c.self.inside) c.self.view_is c.requires.store c.self.inside.lent c.self.inside.uses c.most_general.new.ops c.most_general.ensures.grows c.self.invariant

pub invariant_of-self-in_default : goal.invariant_of-self-in_default
invariant_of-self-in_default c = watched-grown c.args.self.now (seen c.self.inside) c.self.view_is c.requires.store c.self.inside.lent c.self.inside.uses c.most_general.new.ops c.most_general.ensures.grows c.self.invariant

pub invariant_of-self-2 : goal.invariant_of-self-2
invariant_of-self-2 c = watched-grown c.args.self.now (seen c.self.inside) c.self.view_is c.requires.store c.self.inside.lent c.self.inside.uses c.most_general.new.ops c.most_general.ensures.grows c.self.invariant

pub returns-in_err-found-clause-room : goal.returns-in_err-found-clause-room
returns-in_err-found-clause-room c = solve-first c.args.self.now (seen c.self.inside) c.self.view_is c.requires.store c.most_general.new.ops c.most_general.ensures.grows c.args.f.0 c.args.g.0 c.most_general.ensures.room

pub returns-in_default-clause-room : goal.returns-in_default-clause-room
returns-in_default-clause-room c = solve-first c.args.self.now (seen c.self.inside) c.self.view_is c.requires.store c.most_general.new.ops c.most_general.ensures.grows c.args.f.0 c.args.g.0 c.most_general.ensures.room

pub put_in-requires-clause-store : goal.put_in-requires-clause-store
put_in-requires-clause-store c = store-grown c.args.self.now (seen c.self.inside) c.self.view_is c.requires.store c.most_general.new.ops c.most_general.ensures.grows

pub returns-in_err-put_in-clause-only_nodes : goal.returns-in_err-put_in-clause-only_nodes
returns-in_err-put_in-clause-only_nodes c = λ no. only-then c.args.self.now (seen c.self.inside) c.self.view_is c.requires.store c.most_general.new.ops c.most_general.ensures.grows c.put_in.new.self c.in_err-put_in.ensures.only_nodes

pub returns-in_err-put_in-clause-room : goal.returns-in_err-put_in-clause-room
returns-in_err-put_in-clause-room c =
    solve-second c.args.self.now (seen c.self.inside) c.self.view_is c.requires.store c.most_general.new.ops c.most_general.ensures.grows c.args.f.0 c.args.g.0 c.most_general.ensures.room c.in-Some.images.items c.self.inside.constants (rw c.in-Some.is at c.in_ok-found.ensures.found) c.put_in.new.self.nodes (rw c.deref.ensures.value at c.put_in.ensures.room)

pub returns-clause-room : goal.returns-clause-room
returns-clause-room c =
    solve-second c.args.self.now (seen c.self.inside) c.self.view_is c.requires.store c.most_general.new.ops c.most_general.ensures.grows c.args.f.0 c.args.g.0 c.most_general.ensures.room c.in-Some.images.items c.self.inside.constants (rw c.in-Some.is at c.in_ok-found.ensures.found) c.put_in.new.self.nodes (rw c.deref.ensures.value at c.put_in.ensures.room)

pub returns-clause-unified : goal.returns-clause-unified
returns-clause-unified c = λ yes.
    put-unified c.args.self.now (seen c.self.inside) c.self.view_is c.requires.store c.args.f.0 c.args.g.0 c.requires.f c.requires.g c.most_general.new.ops c.most_general.ensures.grows c.in-Some.images.items (rw c.in-Some.is at c.in_ok-found.ensures.found)
    c.put_in.new.self (rw c.deref.ensures.value at c.in_ok-put_in.ensures.moved) c.in_ok-put_in.ensures.values

pub returns-clause-store : goal.returns-clause-store
returns-clause-store c = λ yes.
    put-store c.args.self.now (seen c.self.inside) c.self.view_is c.requires.store c.args.f.0 c.args.g.0 c.requires.f c.requires.g c.most_general.new.ops c.most_general.ensures.grows c.in-Some.images.items (rw c.in-Some.is at c.in_ok-found.ensures.found)
    c.put_in.new.self (rw c.deref.ensures.value at c.in_ok-put_in.ensures.moved) c.in_ok-put_in.ensures.values c.in_ok-put_in.ensures.changed
