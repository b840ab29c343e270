use Rattle.std.proofs.Common.{Bool, Result, Ok, Err, length, refl, ap, ◌∙◌, arith}
use Rattle.cb_elim.specs.Store.{Seen}
use Rattle.cb_dd.specs.declared.Stop.{Stop}
use Rattle.cb_solution.specs.Solution.{has_refused}
use Rattle.cb_elim.proofs.Rooms.{room-before, room-none, unify-cause}
use Rattle.cb_elim.proofs.Inside.{seen}
use Rattle.cb_elim.proofs.Kept.{watched-refused}
use Rattle.cb_elim.proofs.Equations.{same-node, keeps-values, keeps-before, store-before, cut-before, not-true, stop-not-true}
use Rattle.cb_elim.proofs.Store.unify.Goals as goal

pub returns-then-f-g-clause-unified : goal.returns-then-f-g-clause-unified
returns-then-f-g-clause-unified c = λ yes. same-node c.args.self.now c.args.f.0 c.args.g.0 c.if-f-g.true

pub returns-in-Ok-true-clause-moments : goal.returns-in-Ok-true-clause-moments
returns-in-Ok-true-clause-moments c = keeps-values c.args.self.now c.solve.new.self (c.in-Ok-true.ensures.unified (ap (λ (b : Bool). Ok b) c.in-Ok-true.field-0-test)).values

pub returns-in-Ok-false-clause-moments : goal.returns-in-Ok-false-clause-moments
returns-in-Ok-false-clause-moments c =
    keeps-before c.args.self.now _
    (cut-before c.args.self.now c.solve.new.self (seen c.self-2.inside) c.self-2.view_is (c.in-Ok-false.ensures.only_nodes (not-true (Ok c.in-Ok-false.field-0) c.in-Ok-false.field-0 refl c.in-Ok-false.field-0-test)) c.mark-before.result
    (c.mark-before.ensures ∙ ap (λ (s : Seen). length s.nodes.triples) c.self.view_is) c.cut.new.self c.cut.ensures.triples c.cut.ensures.budget c.cut.ensures.fulls)

pub returns-in-Ok-false-clause-store : goal.returns-in-Ok-false-clause-store
returns-in-Ok-false-clause-store c =
    store-before c.args.self.now _ c.requires.store
    (cut-before c.args.self.now c.solve.new.self (seen c.self-2.inside) c.self-2.view_is (c.in-Ok-false.ensures.only_nodes (not-true (Ok c.in-Ok-false.field-0) c.in-Ok-false.field-0 refl c.in-Ok-false.field-0-test)) c.mark-before.result
    (c.mark-before.ensures ∙ ap (λ (s : Seen). length s.nodes.triples) c.self.view_is) c.cut.new.self c.cut.ensures.triples c.cut.ensures.budget c.cut.ensures.fulls)

pub returns-in-Err-clause-moments : goal.returns-in-Err-clause-moments
returns-in-Err-clause-moments c =
    keeps-before c.args.self.now _
    (cut-before c.args.self.now c.solve.new.self (seen c.self-2.inside) c.self-2.view_is (c.in-Err.ensures.only_nodes (stop-not-true (Err c.in-Err.stop) c.in-Err.stop refl)) c.mark-before.result
    (c.mark-before.ensures ∙ ap (λ (s : Seen). length s.nodes.triples) c.self.view_is) c.cut-in-Err.new.self c.cut-in-Err.ensures.triples c.cut-in-Err.ensures.budget c.cut-in-Err.ensures.fulls)

pub returns-in-Err-clause-store : goal.returns-in-Err-clause-store
returns-in-Err-clause-store c =
    store-before c.args.self.now _ c.requires.store
    (cut-before c.args.self.now c.solve.new.self (seen c.self-2.inside) c.self-2.view_is (c.in-Err.ensures.only_nodes (stop-not-true (Err c.in-Err.stop) c.in-Err.stop refl)) c.mark-before.result
    (c.mark-before.ensures ∙ ap (λ (s : Seen). length s.nodes.triples) c.self.view_is) c.cut-in-Err.new.self c.cut-in-Err.ensures.triples c.cut-in-Err.ensures.budget c.cut-in-Err.ensures.fulls)

pub returns-in-Err-clause-nodes : goal.returns-in-Err-clause-nodes
returns-in-Err-clause-nodes c = λ e.
    unify-cause c.args.self.now c.solve.new.self _ c.args.f.0 c.args.g.0 (c.in-Err.ensures.only_nodes (stop-not-true (Err c.in-Err.stop) c.in-Err.stop refl)) c.in-Err.ensures.room (c.in-Err.ensures.full e)
    (c.in-Err.ensures.fulls ∙ ap (λ (r : Result Bool Stop). has_refused c.args.self.now.nodes.fulls r) e) (c.cut-in-Err.ensures.fulls ∙ ap (λ (s : Seen). s.nodes.fulls) c.self-2.view_is)

pub returns-then-f-g-clause-room : goal.returns-then-f-g-clause-room
returns-then-f-g-clause-room c = room-none _ c.args.f.0 c.args.g.0 c.args.self.now.nodes _ (omega arith)

pub returns-in-Ok-false-clause-room : goal.returns-in-Ok-false-clause-room
returns-in-Ok-false-clause-room c =
    room-before c.args.self.now _ c.args.f.0 c.args.g.0
    (cut-before c.args.self.now c.solve.new.self (seen c.self-2.inside) c.self-2.view_is (c.in-Ok-false.ensures.only_nodes (not-true (Ok c.in-Ok-false.field-0) c.in-Ok-false.field-0 refl c.in-Ok-false.field-0-test)) c.mark-before.result
    (c.mark-before.ensures ∙ ap (λ (s : Seen). length s.nodes.triples) c.self.view_is) c.cut.new.self c.cut.ensures.triples c.cut.ensures.budget c.cut.ensures.fulls)

pub returns-in-Err-clause-room : goal.returns-in-Err-clause-room
returns-in-Err-clause-room c =
    room-before c.args.self.now _ c.args.f.0 c.args.g.0
    (cut-before c.args.self.now c.solve.new.self (seen c.self-2.inside) c.self-2.view_is (c.in-Err.ensures.only_nodes (stop-not-true (Err c.in-Err.stop) c.in-Err.stop refl)) c.mark-before.result
    (c.mark-before.ensures ∙ ap (λ (s : Seen). length s.nodes.triples) c.self.view_is) c.cut-in-Err.new.self c.cut-in-Err.ensures.triples c.cut-in-Err.ensures.budget c.cut-in-Err.ensures.fulls)

pub invariant_of-self : goal.invariant_of-self
invariant_of-self c =
    watched-refused c.args.self.now c.solve.new.self (seen c.self-2.inside) c.self-2.view_is c.requires.store (c.in-Ok-false.ensures.only_nodes (not-true (Ok c.in-Ok-false.field-0) c.in-Ok-false.field-0 refl c.in-Ok-false.field-0-test)) c.self-2.inside.lent c.self-2.inside.uses
    c.cut.new.self.triples
    (ap (λ (s : Seen). s.nodes.triples) (cut-before c.args.self.now c.solve.new.self (seen c.self-2.inside) c.self-2.view_is (c.in-Ok-false.ensures.only_nodes (not-true (Ok c.in-Ok-false.field-0) c.in-Ok-false.field-0 refl c.in-Ok-false.field-0-test)) c.mark-before.result
    (c.mark-before.ensures ∙ ap (λ (s : Seen). length s.nodes.triples) c.self.view_is) c.cut.new.self c.cut.ensures.triples c.cut.ensures.budget c.cut.ensures.fulls).same)
    c.self-2.invariant

pub invariant_of-self-in-Err : goal.invariant_of-self-in-Err
invariant_of-self-in-Err c =
    watched-refused c.args.self.now c.solve.new.self (seen c.self-2.inside) c.self-2.view_is c.requires.store (c.in-Err.ensures.only_nodes (stop-not-true (Err c.in-Err.stop) c.in-Err.stop refl)) c.self-2.inside.lent c.self-2.inside.uses
    c.cut-in-Err.new.self.triples
    (ap (λ (s : Seen). s.nodes.triples) (cut-before c.args.self.now c.solve.new.self (seen c.self-2.inside) c.self-2.view_is (c.in-Err.ensures.only_nodes (stop-not-true (Err c.in-Err.stop) c.in-Err.stop refl)) c.mark-before.result
    (c.mark-before.ensures ∙ ap (λ (s : Seen). length s.nodes.triples) c.self.view_is) c.cut-in-Err.new.self c.cut-in-Err.ensures.triples c.cut-in-Err.ensures.budget c.cut-in-Err.ensures.fulls).same)
    c.self-2.invariant
