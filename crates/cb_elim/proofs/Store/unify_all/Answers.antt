use Rattle.std.proofs.Common.{Bool, Result, Ok, Err, length, refl, ap, ◌∙◌, arith}
use Rattle.cb_dd.specs.declared.Stop.{Stop}
use Rattle.cb_solution.specs.Solution.{has_refused}
use Rattle.cb_elim.specs.Store.{Seen}
use Rattle.cb_elim.proofs.Inside.{seen}
use Rattle.cb_elim.proofs.Kept.{watched-refused}
use Rattle.cb_elim.proofs.Equations.{keeps-values, keeps-before, store-before, cut-before, not-true, stop-not-true}
use Rattle.cb_elim.proofs.Together.{pairs-cause, pairs-room-before, pairs-room-none, same-unified}
use Rattle.cb_elim.proofs.Store.unify_all.Goals as goal

pub returns-then-are_same-clause-unified : goal.returns-then-are_same-clause-unified
returns-then-are_same-clause-unified c = λ yes. same-unified c.args.self.now c.args.pairs.now (c.are_same.ensures.0 c.if-are_same.true)

pub returns-then-are_same-clause-room : goal.returns-then-are_same-clause-room
returns-then-are_same-clause-room c = pairs-room-none c.args.self.now.slots c.args.pairs.now c.args.self.now.nodes c.args.self.now.nodes (omega arith)

pub returns-in-Ok-true-clause-moments : goal.returns-in-Ok-true-clause-moments
returns-in-Ok-true-clause-moments c = keeps-values c.args.self.now c.solve_all.new.self (c.in-Ok-true.ensures.unified (ap (λ (b : Bool). Ok b) c.in-Ok-true.field-0-test)).values

pub returns-in-Ok-false-clause-as_before : goal.returns-in-Ok-false-clause-as_before
returns-in-Ok-false-clause-as_before c = λ no.
    cut-before c.args.self.now c.solve_all.new.self (seen c.self-2.inside) c.self-2.view_is (c.in-Ok-false.ensures.only_nodes (not-true (Ok c.in-Ok-false.field-0) c.in-Ok-false.field-0 refl c.in-Ok-false.field-0-test)) c.mark-before.result
    (c.mark-before.ensures ∙ ap (λ (s : Seen). length s.nodes.triples) c.self.view_is) c.cut.new.self c.cut.ensures.triples c.cut.ensures.budget c.cut.ensures.fulls

pub returns-in-Ok-false-clause-moments : goal.returns-in-Ok-false-clause-moments
returns-in-Ok-false-clause-moments c =
    keeps-before c.args.self.now _
    (cut-before c.args.self.now c.solve_all.new.self (seen c.self-2.inside) c.self-2.view_is (c.in-Ok-false.ensures.only_nodes (not-true (Ok c.in-Ok-false.field-0) c.in-Ok-false.field-0 refl c.in-Ok-false.field-0-test)) c.mark-before.result
    (c.mark-before.ensures ∙ ap (λ (s : Seen). length s.nodes.triples) c.self.view_is) c.cut.new.self c.cut.ensures.triples c.cut.ensures.budget c.cut.ensures.fulls)

pub returns-in-Ok-false-clause-store : goal.returns-in-Ok-false-clause-store
returns-in-Ok-false-clause-store c =
    store-before c.args.self.now _ c.requires.store
    (cut-before c.args.self.now c.solve_all.new.self (seen c.self-2.inside) c.self-2.view_is (c.in-Ok-false.ensures.only_nodes (not-true (Ok c.in-Ok-false.field-0) c.in-Ok-false.field-0 refl c.in-Ok-false.field-0-test)) c.mark-before.result
    (c.mark-before.ensures ∙ ap (λ (s : Seen). length s.nodes.triples) c.self.view_is) c.cut.new.self c.cut.ensures.triples c.cut.ensures.budget c.cut.ensures.fulls)

pub returns-in-Ok-false-clause-room : goal.returns-in-Ok-false-clause-room
returns-in-Ok-false-clause-room c =
    pairs-room-before c.args.self.now _ c.args.pairs.now
    (cut-before c.args.self.now c.solve_all.new.self (seen c.self-2.inside) c.self-2.view_is (c.in-Ok-false.ensures.only_nodes (not-true (Ok c.in-Ok-false.field-0) c.in-Ok-false.field-0 refl c.in-Ok-false.field-0-test)) c.mark-before.result
    (c.mark-before.ensures ∙ ap (λ (s : Seen). length s.nodes.triples) c.self.view_is) c.cut.new.self c.cut.ensures.triples c.cut.ensures.budget c.cut.ensures.fulls)

pub invariant_of-self : goal.invariant_of-self
invariant_of-self c =
    watched-refused c.args.self.now c.solve_all.new.self (seen c.self-2.inside) c.self-2.view_is c.requires.store (c.in-Ok-false.ensures.only_nodes (not-true (Ok c.in-Ok-false.field-0) c.in-Ok-false.field-0 refl c.in-Ok-false.field-0-test)) c.self-2.inside.lent c.self-2.inside.uses
    c.cut.new.self.triples
    (ap (λ (s : Seen). s.nodes.triples) (cut-before c.args.self.now c.solve_all.new.self (seen c.self-2.inside) c.self-2.view_is (c.in-Ok-false.ensures.only_nodes (not-true (Ok c.in-Ok-false.field-0) c.in-Ok-false.field-0 refl c.in-Ok-false.field-0-test)) c.mark-before.result
    (c.mark-before.ensures ∙ ap (λ (s : Seen). length s.nodes.triples) c.self.view_is) c.cut.new.self c.cut.ensures.triples c.cut.ensures.budget c.cut.ensures.fulls).same)
    c.self-2.invariant

pub returns-in-Err-clause-as_before : goal.returns-in-Err-clause-as_before
returns-in-Err-clause-as_before c = λ no.
    cut-before c.args.self.now c.solve_all.new.self (seen c.self-2.inside) c.self-2.view_is (c.in-Err.ensures.only_nodes (stop-not-true (Err c.in-Err.stop) c.in-Err.stop refl)) c.mark-before.result
    (c.mark-before.ensures ∙ ap (λ (s : Seen). length s.nodes.triples) c.self.view_is) c.cut-in-Err.new.self c.cut-in-Err.ensures.triples c.cut-in-Err.ensures.budget c.cut-in-Err.ensures.fulls

pub returns-in-Err-clause-moments : goal.returns-in-Err-clause-moments
returns-in-Err-clause-moments c =
    keeps-before c.args.self.now _
    (cut-before c.args.self.now c.solve_all.new.self (seen c.self-2.inside) c.self-2.view_is (c.in-Err.ensures.only_nodes (stop-not-true (Err c.in-Err.stop) c.in-Err.stop refl)) c.mark-before.result
    (c.mark-before.ensures ∙ ap (λ (s : Seen). length s.nodes.triples) c.self.view_is) c.cut-in-Err.new.self c.cut-in-Err.ensures.triples c.cut-in-Err.ensures.budget c.cut-in-Err.ensures.fulls)

pub returns-in-Err-clause-store : goal.returns-in-Err-clause-store
returns-in-Err-clause-store c =
    store-before c.args.self.now _ c.requires.store
    (cut-before c.args.self.now c.solve_all.new.self (seen c.self-2.inside) c.self-2.view_is (c.in-Err.ensures.only_nodes (stop-not-true (Err c.in-Err.stop) c.in-Err.stop refl)) c.mark-before.result
    (c.mark-before.ensures ∙ ap (λ (s : Seen). length s.nodes.triples) c.self.view_is) c.cut-in-Err.new.self c.cut-in-Err.ensures.triples c.cut-in-Err.ensures.budget c.cut-in-Err.ensures.fulls)

pub returns-in-Err-clause-room : goal.returns-in-Err-clause-room
returns-in-Err-clause-room c =
    pairs-room-before c.args.self.now _ c.args.pairs.now
    (cut-before c.args.self.now c.solve_all.new.self (seen c.self-2.inside) c.self-2.view_is (c.in-Err.ensures.only_nodes (stop-not-true (Err c.in-Err.stop) c.in-Err.stop refl)) c.mark-before.result
    (c.mark-before.ensures ∙ ap (λ (s : Seen). length s.nodes.triples) c.self.view_is) c.cut-in-Err.new.self c.cut-in-Err.ensures.triples c.cut-in-Err.ensures.budget c.cut-in-Err.ensures.fulls)

pub invariant_of-self-in-Err : goal.invariant_of-self-in-Err
invariant_of-self-in-Err c =
    watched-refused c.args.self.now c.solve_all.new.self (seen c.self-2.inside) c.self-2.view_is c.requires.store (c.in-Err.ensures.only_nodes (stop-not-true (Err c.in-Err.stop) c.in-Err.stop refl)) c.self-2.inside.lent c.self-2.inside.uses
    c.cut-in-Err.new.self.triples
    (ap (λ (s : Seen). s.nodes.triples) (cut-before c.args.self.now c.solve_all.new.self (seen c.self-2.inside) c.self-2.view_is (c.in-Err.ensures.only_nodes (stop-not-true (Err c.in-Err.stop) c.in-Err.stop refl)) c.mark-before.result
    (c.mark-before.ensures ∙ ap (λ (s : Seen). length s.nodes.triples) c.self.view_is) c.cut-in-Err.new.self c.cut-in-Err.ensures.triples c.cut-in-Err.ensures.budget c.cut-in-Err.ensures.fulls).same)
    c.self-2.invariant

pub returns-in-Err-clause-nodes : goal.returns-in-Err-clause-nodes
returns-in-Err-clause-nodes c = λ e.
    pairs-cause c.args.self.now c.solve_all.new.self _ c.args.pairs.now (c.in-Err.ensures.only_nodes (stop-not-true (Err c.in-Err.stop) c.in-Err.stop refl)) c.in-Err.ensures.room (c.in-Err.ensures.full e)
    (c.in-Err.ensures.fulls ∙ ap (λ (r : Result Bool Stop). has_refused c.args.self.now.nodes.fulls r) e) (c.cut-in-Err.ensures.fulls ∙ ap (λ (s : Seen). s.nodes.fulls) c.self-2.view_is)
