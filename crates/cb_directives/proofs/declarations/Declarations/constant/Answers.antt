use Rattle.std.proofs.Common.{◌≡◌, ◌<◌, ◌≤◌, true, false, List, length, bytes_eq, sym, subst, arith}
use Rattle.std.specs.List.{list_any}
use Rattle.cb_model.specs.Text.{Text}
use Rattle.cb_model.specs.Forms.{form_of}
use Rattle.cb_model.specs.Directives.{Declared, constant_argument, accept}
use Rattle.cb_directives.proofs.Arguments.{constant_other, constant_reserved, constant_over, constant_twice, constant_new, added_name, few_names, declared_of}
use Rattle.cb_directives.proofs.declarations.Declarations.constant.Goals as goal

pub returns-in_default : goal.returns-in_default
returns-in_default c = constant_other c.args.self.now (form_of c.args.term.now) c.in_default.ensures

pub returns-then-is_reserved : goal.returns-then-is_reserved
returns-then-is_reserved c = constant_reserved c.args.self.now (form_of c.args.term.now) c.in-Some.name.now c.in-Some.ensures c.if-is_reserved.ensures

pub returns-then-len-gt4095 : goal.returns-then-len-gt4095
returns-then-len-gt4095 c =
    let over : 4095 < length c.self.inside.constants = omega (arith, c.len.ensures) in
    constant_over c.args.self.now (form_of c.args.term.now) c.in-Some.name.now c.in-Some.ensures (subst (λ (d : Declared). 4095 < length d.constants) c.self.view_is over)

pub returns-then-has : goal.returns-then-has
returns-then-has c =
    let room : length c.self.inside.constants ≤ 4095 = omega (arith, c.len.ensures) in
    constant_twice c.args.self.now (form_of c.args.term.now) c.in-Some.name.now c.in-Some.ensures c.if-is_reserved.ensures
    (subst (λ (d : Declared). length d.constants ≤ 4095) c.self.view_is room) (subst (λ (d : Declared). true ≡ list_any (bytes_eq c.in-Some.name.now) d.constants) c.self.view_is c.if-has.ensures)

pub invariant_of-self : goal.invariant_of-self
invariant_of-self c = (subst (λ (l : List Text). length l ≤ 4096) (sym c.in_default-add.ensures.refused) c.self.invariant.0, c.self.invariant.1, c.self.invariant.2)

pub invariant_of-self-2 : goal.invariant_of-self-2
invariant_of-self-2 c =
    let room : length c.self.inside.constants ≤ 4095 = omega (arith, c.len.ensures) in
    let names = added_name c.self.inside.constants c.add.new.self c.in-Some.name.now c.if-has.ensures c.in-Ok.ensures.added in
    (few_names c.self.inside.constants c.add.new.self c.in-Some.name.now room names, c.self.invariant.1, c.self.invariant.2)

pub returns : goal.returns
returns c =
    let room : length c.self.inside.constants ≤ 4095 = omega (arith, c.len.ensures) in
    let i = c.self.inside in
    subst (λ (d : Declared). constant_argument d (form_of c.args.term.now) ≡ accept (declared_of c.add.new.self i.sorts i.demons i.delays)) c.self.view_is
    (constant_new (declared_of i.constants i.sorts i.demons i.delays) (form_of c.args.term.now) c.in-Some.name.now c.add.new.self c.in-Some.ensures c.if-is_reserved.ensures room c.if-has.ensures c.in-Ok.ensures.added)
