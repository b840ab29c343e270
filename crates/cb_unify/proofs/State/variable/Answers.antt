use Rattle.std.proofs.Common.{◌≡◌, [], ◌∷◌, ◌++◌, length, rules, arith, ap, ◌∙◌}
use Rattle.std.proofs.lemmas.Grind.{common_steps}
use Rattle.cb_unify.proofs.Inside.{seen}
use Rattle.cb_unify.proofs.Making.{makes, state-cell, state-made, state-store}
use Rattle.cb_heap.specs.Heap.{Terms}
use Rattle.cb_unify.proofs.Solving.{settled-cells}
use Rattle.cb_unify.proofs.State.variable.Goals as goal

pub add-requires-clause-addable : goal.add-requires-clause-addable
add-requires-clause-addable c = c.in_ok-cell.ensures.unknown.addable (length c.self.inside.heap.cells)

pub returns-in_default-clause-state : goal.returns-in_default-clause-state
returns-in_default-clause-state c =
    state-store c.args.self.now (seen c.self.inside) c.self.view_is c.requires.state c.unknown.new.store c.unknown.ensures.store (let e = c.in_ok-cell.ensures.unknown.slots in omega arith) c.add.new.self c.in_default.ensures.refused

pub returns-then-is_err-clause-state : goal.returns-then-is_err-clause-state
returns-then-is_err-clause-state c =
    let items : c.push.new.self.items ≡ c.self.inside.made.items = grind (arith, common_steps) in
    state-cell c.args.self.now (seen c.self.inside) c.self.view_is c.requires.state c.unknown.new.store c.unknown.ensures.store c.args.sort c.in_ok-cell.cell c.in_ok-cell.ensures.unknown c.add.new.self c.in-Ok.ensures.added.1 c.add.ensures.heap c.add.ensures.finite
    c.push.new.self.items items

pub returns-clause-state : goal.returns-clause-state
returns-clause-state c =
    let items : c.push.new.self.items ≡ c.self.inside.made.items ++ c.in-Ok.r.0 ∷ [] = search rules in
    state-made c.args.self.now (seen c.self.inside) c.self.view_is c.requires.state c.unknown.new.store c.unknown.ensures.store c.args.sort c.in_ok-cell.cell c.in_ok-cell.ensures.unknown c.add.new.self c.in-Ok.ensures.added.1 c.add.ensures.heap c.add.ensures.finite
    c.push.new.self.items (items ∙ ap (λ r. c.self.inside.made.items ++ r ∷ []) c.in-Ok.ensures.added.0)

pub returns-clause-made : goal.returns-clause-made
returns-clause-made c =
    let items : c.push.new.self.items ≡ c.self.inside.made.items ++ c.in-Ok.r.0 ∷ [] = search rules in
    makes c.args.self.now (seen c.self.inside) c.self.view_is c.requires.state c.unknown.new.store c.unknown.ensures.store c.args.sort c.in_ok-cell.cell c.in_ok-cell.ensures.unknown c.add.new.self c.in-Ok.ensures.added.1 c.add.ensures.heap c.add.ensures.finite
    c.push.new.self.items (items ∙ ap (λ r. c.self.inside.made.items ++ r ∷ []) c.in-Ok.ensures.added.0) c.in-Ok.r.0 c.in-Ok.ensures.added.0

pub invariant_of-self-then-is_err : goal.invariant_of-self-then-is_err
invariant_of-self-then-is_err c = settled-cells c.self.inside.settled c.self.inside.heap.cells c.add.new.self.cells _ (ap (λ (t : Terms). t.cells) c.in-Ok.ensures.added.1) c.self.invariant

pub invariant_of-self-2 : goal.invariant_of-self-2
invariant_of-self-2 c = settled-cells c.self.inside.settled c.self.inside.heap.cells c.add.new.self.cells _ (ap (λ (t : Terms). t.cells) c.in-Ok.ensures.added.1) c.self.invariant
