use Rattle.std.proofs.Common.{◌≡◌, ◌++◌, [], ◌∷◌, true, false, List, length, map, sym, subst}
use Rattle.std.proofs.lemmas.Result.{err_from_is_err_and}
use Rattle.cb_model.specs.Forms.{form_of}
use Rattle.cb_model.specs.Directives.{Sign, Declared, has_sign, sorts_argument, accept}
use Rattle.cb_directives.specs.Kept.{AreDeclared, AreCounted}
use Rattle.cb_directives.proofs.Arguments.{sorts_other, sorts_none, sorts_reserved, sorts_twice, sorts_plain, sorts_demon, more_sorts, more_demons, declared_of}
use Rattle.cb_directives.proofs.Counted.{counted_more, words_count}
use Rattle.cb_directives.proofs.declarations.Declarations.sorted.Goals as goal

pub returns-in_default : goal.returns-in_default
returns-in_default c = sorts_other c.args.self.now c.args.demon (form_of c.args.term.now) c.in_default.ensures

pub returns-in_err-sorts : goal.returns-in_err-sorts
returns-in_err-sorts c =
    let p = err_from_is_err_and c.from_residual.result c.from_residual.ensures.1 in
    rw (p.1, p.2) (sorts_none c.args.self.now c.args.demon (form_of c.args.term.now) c.in-Some.name.now c.in-Some.args.now c.in_err-sorts.field-0.0 c.in-Some.ensures c.in_err-sorts.ensures)

pub returns-then-is_reserved : goal.returns-then-is_reserved
returns-then-is_reserved c =
    sorts_reserved c.args.self.now c.args.demon (form_of c.args.term.now) c.in-Some.name.now c.in-Some.args.now c.in_ok-sorts.sorts c.in-Some.ensures c.in_ok-sorts.ensures c.if-is_reserved.ensures

pub returns-then-has : goal.returns-then-has
returns-then-has c =
    sorts_twice c.args.self.now c.args.demon (form_of c.args.term.now) c.in-Some.name.now c.in-Some.args.now c.in_ok-sorts.sorts c.in-Some.ensures c.in_ok-sorts.ensures c.if-is_reserved.ensures
    (subst (λ (d : Declared). true ≡ has_sign (map (λ e. e.0) d.sorts) (c.in-Some.name.now, length c.in-Some.args.now)) c.self.view_is c.if-has.ensures)

pub insert-requires : goal.insert-requires
insert-requires c = sym c.if-has.ensures

pub invariant_of-self : goal.invariant_of-self
invariant_of-self c =
    (c.self.invariant.0, subst (AreDeclared c.self.inside.demons) (sym c.in_default-insert.ensures.refused) c.self.invariant.1, subst AreCounted (sym c.in_default-insert.ensures.refused) c.self.invariant.2)

pub invariant_of-self-then-not-demon : goal.invariant_of-self-then-not-demon
invariant_of-self-then-not-demon c =
    let i = c.self.inside in
    (c.self.invariant.0, more_sorts (declared_of i.constants i.sorts i.demons i.delays) c.insert.new.self _ c.in_ok-sorts.sorts c.in-Ok.ensures.added c.self.invariant.1, counted_more c.self.inside.sorts c.insert.new.self (c.in-Some.name.now, length c.in-Some.args.now) c.in_ok-sorts.sorts c.in-Ok.ensures.added c.self.invariant.2 (words_count c.in-Some.args.now c.in_ok-sorts.sorts c.in_ok-sorts.ensures))

pub returns-then-not-demon : goal.returns-then-not-demon
returns-then-not-demon c =
    let i = c.self.inside in
    subst (λ (d : Declared). sorts_argument c.args.demon d (form_of c.args.term.now) ≡ accept (declared_of i.constants c.insert.new.self i.demons i.delays)) c.self.view_is
    (sorts_plain (declared_of i.constants i.sorts i.demons i.delays) c.args.demon (form_of c.args.term.now) c.in-Some.name.now c.in-Some.args.now c.in_ok-sorts.sorts c.in-Some.ensures c.in_ok-sorts.ensures
    c.insert.new.self c.if-not-demon.true c.if-is_reserved.ensures c.if-has.ensures c.in-Ok.ensures.added)

pub invariant_of-self-in_default-add : goal.invariant_of-self-in_default-add
invariant_of-self-in_default-add c =
    let i = c.self.inside in (
      c.self.invariant.0,
      subst (λ (l : List Sign). AreDeclared l c.insert.new.self) (sym c.in_default-add.ensures.refused)
          (more_sorts (declared_of i.constants i.sorts i.demons i.delays) c.insert.new.self _ c.in_ok-sorts.sorts c.in-Ok.ensures.added c.self.invariant.1),
      counted_more c.self.inside.sorts c.insert.new.self (c.in-Some.name.now, length c.in-Some.args.now) c.in_ok-sorts.sorts c.in-Ok.ensures.added c.self.invariant.2 (words_count c.in-Some.args.now c.in_ok-sorts.sorts c.in_ok-sorts.ensures),
    )

pub invariant_of-self-2 : goal.invariant_of-self-2
invariant_of-self-2 c =
    let i = c.self.inside in (
      c.self.invariant.0,
      more_demons (declared_of i.constants i.sorts i.demons i.delays) c.add.new.self c.insert.new.self (c.in-Some.name.now, length c.in-Some.args.now) c.in_ok-sorts.sorts c.in-Ok.ensures.added
          c.self.invariant.1 c.in-Ok-add.ensures.added,
      counted_more c.self.inside.sorts c.insert.new.self (c.in-Some.name.now, length c.in-Some.args.now) c.in_ok-sorts.sorts c.in-Ok.ensures.added c.self.invariant.2 (words_count c.in-Some.args.now c.in_ok-sorts.sorts c.in_ok-sorts.ensures),
    )

pub returns : goal.returns
returns c =
    let i = c.self.inside in
    subst (λ (d : Declared). sorts_argument c.args.demon d (form_of c.args.term.now) ≡ accept (declared_of i.constants c.insert.new.self c.add.new.self i.delays)) c.self.view_is
    (sorts_demon (declared_of i.constants i.sorts i.demons i.delays) c.args.demon (form_of c.args.term.now) c.in-Some.name.now c.in-Some.args.now c.in_ok-sorts.sorts c.in-Some.ensures c.in_ok-sorts.ensures
    c.insert.new.self c.add.new.self c.if-not-demon.false c.self.invariant.1 c.if-is_reserved.ensures c.if-has.ensures c.in-Ok.ensures.added c.in-Ok-add.ensures.added)
