use Rattle.std.proofs.Common.{◌≡◌, [], ◌∷◌, ◌++◌, length, take, ap, ◌∙◌, arith, rules}
use Rattle.std.proofs.lemmas.Grind.{common_steps}
use Rattle.std.proofs.lemmas.Result.{err_from_is_err_and}
use Rattle.cb_elim.proofs.Sizes.{one-cause, stopped}
use Rattle.cb_dd.proofs.Children.{bottom_child, top_child}
use Rattle.cb_ops.proofs.Ite.{literal-is}
use Rattle.cb_elim.specs.Store.{Seen}
use Rattle.cb_elim.proofs.Inside.{seen}
use Rattle.cb_elim.proofs.Kept.{watched-cut, watched-push}
use Rattle.cb_elim.proofs.Views.{store-grown}
use Rattle.cb_elim.proofs.Back.{keeps-nodes}
use Rattle.cb_elim.proofs.Slots.{variable-store, variable-new, store-cut}
use Rattle.cb_elim.proofs.Store.variable.Goals as goal

pub node-requires-clause-lo_child : goal.node-requires-clause-lo_child
node-requires-clause-lo_child c = bottom_child _ _ (let e = ap (λ (s : Seen). s.drawn) c.self.view_is in let h = c.requires.level in omega arith)

pub node-requires-clause-hi_child : goal.node-requires-clause-hi_child
node-requires-clause-hi_child c = top_child _ _ (let e = ap (λ (s : Seen). s.drawn) c.self.view_is in let h = c.requires.level in omega arith)

pub returns-in_err-node-clause-moments : goal.returns-in_err-node-clause-moments
returns-in_err-node-clause-moments c = keeps-nodes c.args.self.now (seen c.self.inside) c.node.new.self c.self.view_is c.node.ensures.grows

pub returns-in_err-node-clause-store : goal.returns-in_err-node-clause-store
returns-in_err-node-clause-store c = store-grown c.args.self.now (seen c.self.inside) c.self.view_is c.requires.store c.node.new.self c.node.ensures.grows

pub returns-then-is_err-clause-store : goal.returns-then-is_err-clause-store
returns-then-is_err-clause-store c =
    let slots : c.push.new.self.items ≡ c.self.inside.slots.items = grind (arith, common_steps) in
    store-cut c.args.self.now (seen c.self.inside) c.self.view_is c.requires.store c.node.new.self c.cut-then-is_err.new.self c.node.ensures.grows
    (c.cut-then-is_err.ensures.triples ∙ ap (λ n. take n c.node.new.self.triples) c.mark-before.ensures) c.cut-then-is_err.ensures.budget c.self.inside.free.items (λ i. c.self.inside.free.items) c.push.new.self.items slots

pub returns-then-is_err-2-clause-store : goal.returns-then-is_err-2-clause-store
returns-then-is_err-2-clause-store c =
    let slots : c.truncate.new.self.items ≡ c.self.inside.slots.items = grind (arith, common_steps) in
    let free : c.push-2.new.self.items ≡ c.self.inside.free.items = grind (arith, common_steps) in
    store-cut c.args.self.now (seen c.self.inside) c.self.view_is c.requires.store c.node.new.self c.cut-then-is_err-2.new.self c.node.ensures.grows
    (c.cut-then-is_err-2.ensures.triples ∙ ap (λ n. take n c.node.new.self.triples) c.mark-before.ensures) c.cut-then-is_err-2.ensures.budget c.push-2.new.self.items free c.truncate.new.self.items slots

pub returns-clause-slot : goal.returns-clause-slot
returns-clause-slot c =
    let at : c.len-slot.result ≡ length c.self.inside.slots.items = search rules in
    let slots : c.push.new.self.items ≡ c.self.inside.slots.items ++ c.in_ok-node.node ∷ [] = grind (arith, common_steps) in
    let free : c.push-2.new.self.items ≡ c.self.inside.free.items ++ record { level = c.self.inside.drawn; slot = c.len-slot.result } ∷ [] = grind (arith, common_steps) in
    variable-new c.args.self.now (seen c.self.inside) c.self.view_is c.requires.store c.node.new.self c.node.ensures.grows c.in_ok-node.node c.in_ok-node.ensures.is_node
    (record { at = λ p. c.in_ok-node.ensures.function p ∙ literal-is c.self.inside.ops.triples (p c.self.inside.drawn) p }) c.len-slot.result at c.push-2.new.self.items free c.push.new.self.items slots

pub returns-clause-store : goal.returns-clause-store
returns-clause-store c =
    let at : c.len-slot.result ≡ length c.self.inside.slots.items = search rules in
    let slots : c.push.new.self.items ≡ c.self.inside.slots.items ++ c.in_ok-node.node ∷ [] = grind (arith, common_steps) in
    let free : c.push-2.new.self.items ≡ c.self.inside.free.items ++ record { level = c.self.inside.drawn; slot = c.len-slot.result } ∷ [] = grind (arith, common_steps) in
    variable-store c.args.self.now (seen c.self.inside) c.self.view_is c.requires.store c.node.new.self c.node.ensures.grows c.in_ok-node.node c.in_ok-node.ensures.is_node
    (record { at = λ p. c.in_ok-node.ensures.function p ∙ literal-is c.self.inside.ops.triples (p c.self.inside.drawn) p }) c.len-slot.result at c.push-2.new.self.items free c.push.new.self.items slots

pub returns-in_err-node-clause-cause : goal.returns-in_err-node-clause-cause
returns-in_err-node-clause-cause c =
    let p = err_from_is_err_and c.from_residual.result c.from_residual.ensures.1 in
    rw (p.1, p.2) (λ e. one-cause c.args.self.now (seen c.self.inside) c.self.view_is c.node.new.self (c.in_err-node.ensures.nodes (cc e)).full (stopped _ c.self.inside.ops.fulls c.in_err-node.field-0.0 c.in_err-node.ensures.fulls (cc e)))

pub returns-in_default-clause-store : goal.returns-in_default-clause-store
returns-in_default-clause-store c =
    store-cut c.args.self.now (seen c.self.inside) c.self.view_is c.requires.store c.node.new.self c.cut.new.self c.node.ensures.grows
    (c.cut.ensures.triples ∙ ap (λ n. take n c.node.new.self.triples) c.mark-before.ensures) c.cut.ensures.budget c.self.inside.free.items (λ i. c.self.inside.free.items) c.self.inside.slots.items (λ i. c.self.inside.slots.items)

pub invariant_of-self-in_default : goal.invariant_of-self-in_default
invariant_of-self-in_default c =
    watched-cut c.args.self.now (seen c.self.inside) c.self.view_is c.requires.store c.self.inside.lent c.self.inside.uses c.node.new.self c.node.ensures.grows c.note.new.uses c.note.ensures.kept c.mark-before.result c.mark-before.ensures c.cut.new.self.triples c.cut.ensures.triples
    c.self.inside.slots.items (λ i. c.self.inside.slots.items) c.self.invariant

pub invariant_of-self-then-is_err : goal.invariant_of-self-then-is_err
invariant_of-self-then-is_err c =
    let slots : c.push.new.self.items ≡ c.self.inside.slots.items = grind (arith, common_steps) in
    watched-cut c.args.self.now (seen c.self.inside) c.self.view_is c.requires.store c.self.inside.lent c.self.inside.uses c.node.new.self c.node.ensures.grows c.note.new.uses c.note.ensures.kept c.mark-before.result c.mark-before.ensures c.cut-then-is_err.new.self.triples c.cut-then-is_err.ensures.triples
    c.push.new.self.items slots c.self.invariant

pub invariant_of-self-then-is_err-2 : goal.invariant_of-self-then-is_err-2
invariant_of-self-then-is_err-2 c =
    let slots : c.truncate.new.self.items ≡ c.self.inside.slots.items = grind (arith, common_steps) in
    watched-cut c.args.self.now (seen c.self.inside) c.self.view_is c.requires.store c.self.inside.lent c.self.inside.uses c.node.new.self c.node.ensures.grows c.note.new.uses c.note.ensures.kept c.mark-before.result c.mark-before.ensures c.cut-then-is_err-2.new.self.triples c.cut-then-is_err-2.ensures.triples
    c.truncate.new.self.items slots c.self.invariant

pub invariant_of-self-2 : goal.invariant_of-self-2
invariant_of-self-2 c =
    let at : c.len-slot.result ≡ length c.self.inside.slots.items = search rules in
    let slots : c.push.new.self.items ≡ c.self.inside.slots.items ++ c.in_ok-node.node ∷ [] = grind (arith, common_steps) in
    watched-push c.args.self.now (seen c.self.inside) c.self.view_is c.requires.store c.self.inside.lent c.self.inside.uses c.node.new.self c.node.ensures.grows c.note.new.uses c.note.ensures.kept c.in_ok-node.node c.len-slot.result at c.in-Ok.ensures.used c.push.new.self.items slots c.self.invariant
