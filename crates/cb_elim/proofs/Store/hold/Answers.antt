use Rattle.std.proofs.Common.{◌≡◌, [], ◌∷◌, ◌++◌, length, arith, rules}
use Rattle.cb_ops.proofs.Ite.{Grows-same}
use Rattle.std.proofs.lemmas.Grind.{common_steps}
use Rattle.cb_elim.proofs.Inside.{seen}
use Rattle.cb_elim.proofs.Kept.{watched-push, watched-uses}
use Rattle.cb_elim.proofs.Slots.{adds-pushed, store-pushed, range-pushed, arguments-pushed}
use Rattle.cb_elim.proofs.Store.hold.Goals as goal

pub returns-clause-store : goal.returns-clause-store
returns-clause-store c =
    let e : c.push.new.self.items ≡ c.self.inside.slots.items ++ c.args.f ∷ [] = grind (arith, common_steps) in
    store-pushed c.args.self.now (seen c.self.inside) c.self.view_is c.requires.store c.args.f c.requires.argument c.push.new.self.items e

pub returns-clause-range : goal.returns-clause-range
returns-clause-range c =
    let e : c.push.new.self.items ≡ c.self.inside.slots.items ++ c.args.f ∷ [] = grind (arith, common_steps) in
    range-pushed c.args.self.now (seen c.self.inside) c.self.view_is c.requires.store c.args.f c.push.new.self.items e

pub returns-clause-arguments : goal.returns-clause-arguments
returns-clause-arguments c =
    let e : c.push.new.self.items ≡ c.self.inside.slots.items ++ c.args.f ∷ [] = grind (arith, common_steps) in
    arguments-pushed c.args.self.now (seen c.self.inside) c.self.view_is c.requires.store c.args.f c.push.new.self.items e

pub returns-clause-stays : goal.returns-clause-stays
returns-clause-stays c =
    let e : c.push.new.self.items ≡ c.self.inside.slots.items ++ c.args.f ∷ [] = grind (arith, common_steps) in
    adds-pushed c.args.self.now (seen c.self.inside) c.self.view_is c.requires.store c.args.f c.push.new.self.items e

pub invariant_of-self : goal.invariant_of-self
invariant_of-self c =
    watched-uses c.self.inside.lent c.self.inside.ops.triples c.self.inside.constants c.self.inside.slots.items c.self.inside.trail c.self.inside.uses c.note.new.uses c.note.ensures.kept c.self.invariant

pub invariant_of-self-in_err-push : goal.invariant_of-self-in_err-push
invariant_of-self-in_err-push c =
    let e : c.push.new.self.items ≡ c.self.inside.slots.items = grind (arith, common_steps) in
    rw e (watched-uses c.self.inside.lent c.self.inside.ops.triples c.self.inside.constants c.self.inside.slots.items c.self.inside.trail c.self.inside.uses c.note.new.uses c.note.ensures.kept c.self.invariant)

pub invariant_of-self-2 : goal.invariant_of-self-2
invariant_of-self-2 c =
    let at : c.len-slot.result ≡ length c.self.inside.slots.items = search rules in
    let e : c.push.new.self.items ≡ c.self.inside.slots.items ++ c.args.f ∷ [] = grind (arith, common_steps) in
    watched-push c.args.self.now (seen c.self.inside) c.self.view_is c.requires.store c.self.inside.lent c.self.inside.uses c.self.inside.ops (Grows-same c.self.inside.ops) c.note.new.uses c.note.ensures.kept c.args.f c.len-slot.result at c.in_ok-note.ensures.used
    c.push.new.self.items e c.self.invariant
