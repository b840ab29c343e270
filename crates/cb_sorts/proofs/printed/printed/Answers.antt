use Rattle.std.proofs.Common.{◌≤◌, ◌++◌, List, map, length, sym, ◌∙◌, ap, subst}
use Rattle.std.proofs.lemmas.List.{append-nil, drop_all}
use Rattle.cb_model.specs.Text.{Text}
use Rattle.cb_model.specs.Output.{printed_from}
use Rattle.cb_sorts.specs.Asked.{numbered_name}
use Rattle.cb_sorts.proofs.Printing.{printed_more}
use Rattle.cb_sorts.proofs.printed.printed.Goals as goal

pub loop-number-init : goal.loop-number-init
loop-number-init c = ap (λ all. map numbered_name all ++ printed_from 0 c.args.variables.now) c.new-all.ensures

pub loop-number-preserved : goal.loop-number-preserved
loop-number-preserved c =
    printed_more c.loop-number.number c.args.variables.now (map numbered_name c.loop-number.all) (map numbered_name c.add_printed.new.all) (printed_from 0 c.args.variables.now)
    c.in_ok-add_printed.ensures c.loop-number.invariant

pub returns : goal.returns
returns c =
    let vs = c.args.variables.now in
    let n = c.loop-number.number in
    let all = map numbered_name c.loop-number.all in
    let past : length vs ≤ n = subst (λ m. m ≤ n) c.len-number-end.ensures c.loop-number-test.false in
    sym (append-nil all) ∙ ap (λ (l : List Text). all ++ printed_from n l) (sym (drop_all n vs past)) ∙ c.loop-number.invariant
