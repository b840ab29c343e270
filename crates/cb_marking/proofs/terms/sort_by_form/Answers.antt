use Rattle.cb_marking.proofs.Parts.{compound_sort, atom_sort, some_args}
use Rattle.cb_marking.proofs.terms.sort_by_form.Goals as goal

pub returns-then-not-is_empty : goal.returns-then-not-is_empty
returns-then-not-is_empty c =
    compound_sort c.args.declared.now.constants c.in-Name.name c.in-Name.args c.args.term.now c.in-Name.is (some_args c.as_slice.result.now c.in-Name.args c.as_slice.ensures c.if-not-is_empty.ensures)

pub returns-then-is_constant : goal.returns-then-is_constant
returns-then-is_constant c =
    atom_sort c.args.declared.now.constants c.in-Name.name c.in-Name.args c.as_slice.result.now c.args.term.now c.in-Name.is c.as_slice.ensures c.if-not-is_empty.ensures c.if-is_constant.ensures
