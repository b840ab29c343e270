use Rattle.std.proofs.Common.{get_or, nat_eq, subst}
use Rattle.cb_dd.specs.Diagram.{Store}
use Rattle.cb_ops.specs.Ops.{DependsOn}
use Rattle.cb_project.proofs.Names.{names-none, named-next, own-stands, value-node, value-function, cover-from}
use Rattle.indexmap.specs.IndexMap.{get}
use Rattle.cb_project.proofs.renaming.renaming.Goals as goal

pub give_name-requires : goal.give_name-requires
give_name-requires c = record { absent = λ l h. names-none c.loop-i.next l c.loop-i.names.entries c.loop-i.invariant.below h }

pub support-requires : goal.support-requires
support-requires c = value-node c.args.store.now c.requires.store c.args.leaves.now c.requires.slots c.args.values.now c.requires.values c.read.result.now c.read.ensures c.loop-i.i c.loop-i-test.true (record { 0 = 0 })

pub loop-i-preserved : goal.loop-i-preserved
loop-i-preserved c =
    named-next c.args.store.now c.args.first c.loop-i.i c.args.leaves.now c.loop-i-test.true (record { 0 = 0 }) c.copied-own.result (get_or c.args.values.now c.loop-i.i (record { 0 = 0 })) c.in_ok-support.support.items
    (own-stands c.args.store.now.free c.free.result.now (get_or c.args.leaves.now c.loop-i.i (record { 0 = 0 })).0 (get nat_eq c.in_ok-levels.levels) _ c.copied-own.result c.in_ok-levels.ensures c.free.ensures c.get.ensures.value c.copied-own.ensures)
    (subst (λ (t : Store). DependsOn t.triples (get_or c.args.values.now c.loop-i.i (record { 0 = 0 })).0 c.in_ok-support.support.items) c.read.ensures c.in_ok-support.ensures.enough)
    (value-function c.args.store.now c.requires.store c.args.leaves.now c.requires.slots c.args.values.now c.requires.values c.read.result.now c.read.ensures c.loop-i.i c.loop-i-test.true (record { 0 = 0 }) (record { 0 = 0 }))
    c.loop-i.next c.in_ok-next.next c.loop-i.names.entries c.give_name.new.names.entries c.loop-i.invariant c.in_ok-next.ensures
    (cover-from c.in_ok-support.support.items c.as_slice.result.now c.constants-constants.result c.args.store.now.constants c.give_name.new.names.entries (c.have_names.ensures c.if-not-have_names.false) c.as_slice.ensures c.constants-constants.ensures)
