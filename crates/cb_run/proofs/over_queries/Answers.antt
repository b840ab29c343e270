use Rattle.std.proofs.Common.{map, sym, subst}
use Rattle.cb_model.specs.Bits.{Each}
use Rattle.cb_model.specs.Forms.{query_form}
use Rattle.cb_run.specs.Running.{AllAsk, CanTell}
use Rattle.cb_run.proofs.Telling.{all-can-tell, all-accepted}
use Rattle.cb_run.proofs.Writing.{writes-asked, writes-unsorted}
use Rattle.cb_run.proofs.over_queries.Goals as goal

pub over_asked-requires : goal.over_asked-requires
over_asked-requires g c =
    let p = c.requires.program in
    subst (Each (CanTell c.args.program.now)) (sym c.as_slice.ensures.value)
    (all-can-tell c.plain_files_never_commit.ensures c.accepted_can_run.ensures p.cs c.args.program.now p.over (map query_form c.args.raw.now) c.in-Ok.queries.items (c.in-Ok.ensures.asked p.cs p.over)
    c.requires.written.few_goals)

pub returns-in-Ok-clause-says : goal.returns-in-Ok-clause-says
returns-in-Ok-clause-says g c = λ cs o input i.
    let a = subst (AllAsk cs c.args.program.now (map query_form c.args.raw.now)) (sym c.as_slice.ensures.value) (c.in-Ok.ensures.asked cs o) in
    writes-asked c.queries_over_file.ensures cs c.args.program.now c.args.resolutions _ input (map query_form c.args.raw.now) c.as_slice.result.now o i
    (all-accepted cs c.args.program.now (map query_form c.args.raw.now) c.as_slice.result.now a) a c.over_asked.ensures.says

pub returns-in-Err-clause-says : goal.returns-in-Err-clause-says
returns-in-Err-clause-says g c = λ cs o input i.
    writes-unsorted (map query_form c.args.raw.now) c.in-Err.error c.unloaded.result i.short i.reading (c.in-Err.ensures.refused cs o) c.unloaded.ensures c.tell.ensures.told
