use Rattle.std.proofs.Common.{List, ◌+◌, ◌∙◌, ap, map, drop}
use Rattle.cb_model.specs.declared.RawTerm.{RawTerm}
use Rattle.cb_model.specs.Forms.{form_of, forms_of}
use Rattle.cb_model.specs.Loading.{signs_of, signs_in}
use Rattle.cb_model.specs.Directives.{Sign}
use Rattle.cb_model.specs.declared.RawTerm.TheVariants as raw
use Rattle.cb_directives.proofs.Reading.{drop_past}
use Rattle.cb_signs.proofs.Adding.{adds_name, adds_list, so_far_on, so_far_end, more_terms}
use Rattle.cb_signs.proofs.terms.+terms.Goals as goal

pub add_term-returns-in_ok-add_name-in-Name : goal.add_term-returns-in_ok-add_name-in-Name
add_term-returns-in_ok-add_name-in-Name t c =
    adds_name c.add_terms.result c.args.base.now c.args.more.now c.add_name.new.more c.add_terms.new.more c.args.term.now c.in-Name.name c.in-Name.args c.as_slice.result.now c.len.result
    c.in-Name.is c.len.ensures c.as_slice.ensures c.in_ok-add_name-in-Name.ensures c.add_terms.ensures

pub add_term-returns-in-Some : goal.add_term-returns-in-Some
add_term-returns-in-Some t c =
    adds_list c.add_term.result c.args.base.now c.args.more.now c.add_terms-in-List.new.more c.add_term.new.more c.args.term.now c.in-Some.rest c.get.result.now c.in-List.items c.as_slice-in-List.result.now
    (c.in-List.is ∙ ap (raw.List c.in-List.items) c.in-Some.is) c.as_slice-in-List.ensures c.get.ensures c.in_ok-add_terms-in-List.ensures c.add_term.ensures

abbrev left : List RawTerm → List Sign
left ts = signs_in (forms_of (map form_of ts))

pub add_terms-loop-term-preserved : goal.add_terms-loop-term-preserved
add_terms-loop-term-preserved t c =
    let ts = c.args.terms.now in
    let i = c.loop-term.term-index in
    so_far_on c.args.base.now c.args.more.now c.loop-term.more c.add_term.new.more (left ts) (left (drop i ts)) (signs_of (form_of c.term-item.result)) (left (drop (i + 1) ts))
    (more_terms ts i c.term-item.result c.loop-term-test.true c.term-item.is) c.loop-term.invariant c.in_ok-add_term.ensures

pub add_terms-returns : goal.add_terms-returns
add_terms-returns t c =
    let ts = c.args.terms.now in
    let i = c.loop-term.term-index in
    so_far_end c.args.base.now c.args.more.now c.loop-term.more (left ts) (left (drop i ts)) (ap left (drop_past ts i c.loop-term-test.false)) c.loop-term.invariant
