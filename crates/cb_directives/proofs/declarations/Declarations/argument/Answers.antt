use Rattle.std.specs.Prelude.{MatchResult}
use Rattle.std.proofs.Common.{◌≡◌, true, false, bytes_eq, codes, refl, sym, subst, ap, ◌∙◌}
use Rattle.cb_model.specs.Forms.{form_of}
use Rattle.cb_model.specs.Directives.{Declares, BadDirective, accept}
use Rattle.cb_directives.specs.Refusals.{IsFault}
use Rattle.cb_directives.proofs.Arguments.{argument_is}
use Rattle.cb_directives.proofs.declarations.Declarations.argument.Goals as goal

pub returns-then-eq : goal.returns-then-eq
returns-then-eq c =
    let w = c.args.word.now in
    let is = argument_is c.args.self.now (form_of c.args.term.now) w c.as_slice.result.now (codes "sorts") (codes "demon") true (bytes_eq w (codes "sorts")) (bytes_eq w (codes "demon"))
    c.if-eq.ensures c.as_slice.ensures refl refl refl refl in
    subst (λ (r : Declares). MatchResult c.constant.result (λ _. r ≡ accept c.constant.new.self) (λ e. IsFault e r.0)) (sym is) c.constant.ensures

pub returns-then-eq-2 : goal.returns-then-eq-2
returns-then-eq-2 c =
    let w = c.args.word.now in
    let is = argument_is c.args.self.now (form_of c.args.term.now) w c.as_slice.result.now c.as_slice-else-eq.result.now (codes "demon") false true (bytes_eq w (codes "demon"))
    c.if-eq.ensures c.as_slice.ensures c.if-eq-2.ensures c.as_slice-else-eq.ensures refl refl in
    subst (λ (r : Declares). MatchResult c.sorted.result (λ _. r ≡ accept c.sorted.new.self) (λ e. IsFault e r.0)) (sym is) c.sorted.ensures

pub returns-then-eq-3 : goal.returns-then-eq-3
returns-then-eq-3 c =
    let w = c.args.word.now in
    let is = argument_is c.args.self.now (form_of c.args.term.now) w c.as_slice.result.now c.as_slice-else-eq.result.now c.as_slice-else-eq-2.result.now false false true
    c.if-eq.ensures c.as_slice.ensures c.if-eq-2.ensures c.as_slice-else-eq.ensures c.if-eq-3.ensures c.as_slice-else-eq-2.ensures in
    subst (λ (r : Declares). MatchResult c.sorted-then-eq-3.result (λ _. r ≡ accept c.sorted-then-eq-3.new.self) (λ e. IsFault e r.0)) (sym is) c.sorted-then-eq-3.ensures

pub returns-else-eq-3 : goal.returns-else-eq-3
returns-else-eq-3 c =
    let w = c.args.word.now in
    ap (λ (r : Declares). r.0) (argument_is c.args.self.now (form_of c.args.term.now) w c.as_slice.result.now c.as_slice-else-eq.result.now c.as_slice-else-eq-2.result.now false false false
    c.if-eq.ensures c.as_slice.ensures c.if-eq-2.ensures c.as_slice-else-eq.ensures c.if-eq-3.ensures c.as_slice-else-eq-2.ensures)
