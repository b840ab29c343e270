use Rattle.std.proofs.Common.{◌≡◌, ℕ, ◌-◌, List, get_or, subst, ap, ◌∙◌}
use Rattle.cb_goals.specs.declared.Link.{Link}
use Rattle.cb_goals.specs.Chain.{goals_at, AreLinks}
use Rattle.cb_goals.proofs.Lists.{goals-empty, goals-first}
use Rattle.cb_goals.proofs.Goals.first.Goals as goal

pub returns-then-list-eq0-clause-none : goal.returns-then-list-eq0-clause-none
returns-then-list-eq0-clause-none c = ap (λ (n : ℕ). goals_at c.args.self.now n) c.if-list-eq0.true ∙ goals-empty c.args.self.now

pub returns-clause-some : goal.returns-clause-some
returns-clause-some c =
    let v : c.self.inside.links.items ≡ c.args.self.now = c.self.view_is in
    goals-first c.args.self.now c.args.list c.index-link.result.now (subst (λ (x : List Link). AreLinks x) v c.self.invariant) c.if-list-eq0.false c.requires
    (c.index-link.ensures ∙ ap (λ (x : List Link). get_or x (c.args.list - 1) c.index-link.result.now) v)
