use Rattle.std.proofs.Common.{◌≡◌, [], ◌∷◌, refl, sym, ap, ◌∙◌}
use Rattle.cb_paths.specs.Walk.{after, to_come}
use Rattle.cb_paths.proofs.Walking.{to_come-zero}
use Rattle.cb_paths.proofs.Paths.advance.Goals as goal

pub returns-then-from-eq0-clause-none : goal.returns-then-from-eq0-clause-none
returns-then-from-eq0-clause-none c =
    let ts = c.self.inside.ops.now.triples in
    let e = c.turn-from.ensures.none c.if-from-eq0.true in
    let empty : to_come ts c.turn-from.new.literals.items c.turn-from.new.others.items 0 ≡ [] = to_come-zero ts c.turn-from.new.literals.items c.turn-from.new.others.items 0 refl ∙ (λ j. after ts (e.0 j) (e.1 j)) in
    λ _. (ap (λ w. w.to_come) (sym c.self.view_is) ∙ c.turn-from.ensures.come ts ∙ ap (to_come ts c.turn-from.new.literals.items c.turn-from.new.others.items) c.if-from-eq0.true ∙ empty, empty)

pub returns-clause-some : goal.returns-clause-some
returns-clause-some c =
    let ts = c.self.inside.ops.now.triples in
    λ _. ap (λ w. w.to_come) (sym c.self.view_is) ∙ c.turn-from.ensures.come ts ∙ c.descend.ensures.come
    ∙ ap (λ ps. c.descend.new.literals.items ∷ ps) (sym (to_come-zero ts c.descend.new.literals.items c.descend.new.others.items 0 refl))
