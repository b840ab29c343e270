use Rattle.std.proofs.Common.{refl, subst}
use Rattle.cb_shape.specs.declared.Root.{Root}
use Rattle.cb_shape.specs.declared.Root.TheVariants as root
use Rattle.cb_shape.specs.Terms.{IsRoot}
use Rattle.cb_shape.proofs.Telling.{on-ok}
use Rattle.cb_shape.proofs.Resting.{next-root, next-term, next-goal, roots-end}
use Rattle.cb_shape.proofs.walk.tell_root.Goals as goal

pub returns-then-at-roots : goal.returns-then-at-roots
returns-then-at-roots c = λ ps le are. roots-end c.args.heap.now.cells c.args.roots.now c.args.at ps c.args.walk.now c.args.pending.now.items c.if-at-roots.true are

pub tell_cell-requires-clause-term : goal.tell_cell-requires-clause-term
tell_cell-requires-clause-term c =
    let d : Root = root.Term (record { 0 = 0 }) in
    let h = next-root c.args.heap.now.cells c.args.roots.now c.args.at d c.requires.terms.0 c.if-at-roots.false c.requires.terms.1 c.requires.terms.2 in
    (h.p, subst (λ x. IsRoot c.args.heap.now.cells x h.p) c.in-Term.is h.root)

pub returns-in-Term : goal.returns-in-Term
returns-in-Term c =
    let d : Root = root.Term (record { 0 = 0 }) in
    on-ok c.tell_cell.result (λ a ps le are.
    next-term c.args.heap.now.cells c.args.roots.now c.args.at ps c.if-at-roots.false le are c.args.walk.now _ c.tell_cell.new.walk c.args.pending.now.items c.push-2.new.self.items c.tell_cell.new.pending.items
    (record { tokens = c.in_ok-push.ensures.items; slots = refl; opens = refl; places = refl; pushed = c.in_ok-push-2.ensures.items }) d c.in-Term.r c.in-Term.is (λ p h. a c.args.roots.now p h))
    c.tell_cell.ensures

pub returns-in-Goal : goal.returns-in-Goal
returns-in-Goal c =
    let d : Root = root.Term (record { 0 = 0 }) in
    on-ok c.tell_goal.result (λ a ps le are.
    next-goal c.args.heap.now.cells c.args.roots.now c.args.at ps c.if-at-roots.false le are c.args.walk.now _ c.tell_goal.new.walk c.args.pending.now.items c.push-2.new.self.items c.tell_goal.new.pending.items
    (record { tokens = c.in_ok-push.ensures.items; slots = refl; opens = refl; places = refl; pushed = c.in_ok-push-2.ensures.items }) d c.in-Goal.args c.in-Goal.is a)
    c.tell_goal.ensures
