use Rattle.std.specs.Prelude.{MatchResult}
use Rattle.std.proofs.Common.{List, ◌++◌, ◌+◌, length, map, refl, sym, subst, arith}
use Rattle.cb_model.specs.declared.Sort.TheVariants as sort
use Rattle.cb_model.specs.Forms.{form_of, forms_of}
use Rattle.cb_model.specs.Sorts.{Place, operand_places}
use Rattle.cb_marking.specs.Places.{sorts_given}
use Rattle.cb_marking.specs.Walk.{Walks, Stops}
use Rattle.cb_marking.proofs.Parts.{inside_name, inside_open, written_at, weight_at, term_places, operands_from, arguments_from, operands_at, arguments_at}
use Rattle.cb_marking.proofs.Left.{left_start, left_on, left_last}
use Rattle.cb_marking.proofs.walk.Walk.+walk.Goals as goal

pub inside-returns-in-Name : goal.inside-returns-in-Name
inside-returns-in-Name t c =
    subst (λ (ps : List Place). MatchResult c.arguments.result (λ _. Walks c.args.declared.now c.args.self.now ps c.arguments.new.self) (Stops c.args.declared.now ps))
    (inside_name c.args.declared.now c.in-Name.name c.in-Name.args c.as_slice.result.now c.sorts-sorts.result c.len.result c.args.term.now c.in-Name.is c.as_slice.ensures c.len.ensures c.sorts-sorts.ensures)
    c.arguments.ensures

pub inside-returns-in-Some : goal.inside-returns-in-Some
inside-returns-in-Some t c =
    let d = c.args.declared.now in
    let w = c.args.self.now in
    let slice = c.as_slice-in-List.result.now in
    let ps : List Place = operand_places d (forms_of (map form_of slice)) in
    let qs : List Place = term_places d sort.Bus c.get.result.now in
    subst (λ (l : List Place). MatchResult c.place.result (λ _. Walks d w l c.place.new.self) (Stops d l))
    (sym (inside_open d c.in-List.elements slice c.in-List.tail c.in-Some.tail c.get.result.now c.args.term.now c.in-List.is c.in-Some.is c.as_slice-in-List.ensures c.get.ensures))
    (left_last d w (ps ++ qs) c.operands.new.self qs (left_on d w (ps ++ qs) w (ps ++ qs) ps qs (left_start d w (ps ++ qs)) refl c.operands.new.self c.in_ok-operands-in-List.ensures) c.place.result c.place.new.self c.place.ensures)

pub operands-place-requires : goal.operands-place-requires
operands-place-requires t c =
    (omega (arith, weight_at c.args.terms.now c.loop-term.term-index c.term-item.result c.loop-term-test.true c.term-item.is), written_at c.args.terms.now c.loop-term.term-index c.term-item.result c.requires c.loop-term-test.true c.term-item.is)

pub operands-loop-term-preserved : goal.operands-loop-term-preserved
operands-loop-term-preserved t c =
    let d = c.args.declared.now in
    let ts = c.args.terms.now in
    let i = c.loop-term.term-index in
    left_on d c.args.self.now (operands_from d ts 0) c.loop-term.self (operands_from d ts i) (term_places d sort.Bool c.term-item.result) (operands_from d ts (i + 1)) c.loop-term.invariant
    (operands_at d ts i c.term-item.result c.loop-term-test.true c.term-item.is) c.place.new.self c.in_ok-place.ensures

pub arguments-place-requires : goal.arguments-place-requires
arguments-place-requires t c =
    (omega (arith, weight_at c.args.terms.now c.loop-i.i c.index-terms-i.result c.loop-i-test.true c.index-terms-i.is), written_at c.args.terms.now c.loop-i.i c.index-terms-i.result c.requires.written c.loop-i-test.true c.index-terms-i.is)

pub arguments-loop-i-preserved : goal.arguments-loop-i-preserved
arguments-loop-i-preserved t c =
    let d = c.args.declared.now in
    let ts = c.args.terms.now in
    let ss = sorts_given c.args.sorts (length ts) in
    let i = c.loop-i.i in
    left_on d c.args.self.now (arguments_from d ss ts 0) c.loop-i.self (arguments_from d ss ts i) (term_places d c.sort_at.result c.index-terms-i.result) (arguments_from d ss ts (i + 1)) c.loop-i.invariant
    (arguments_at d ss ts i c.index-terms-i.result c.sort_at.result c.requires.counted (c.sort_at.ensures (length ts)) c.loop-i-test.true c.index-terms-i.is) c.place.new.self c.in_ok-place.ensures
