use Rattle.std.proofs.Common.{List, map, sym, subst}
use Rattle.cb_model.specs.declared.RawQuery.{RawQuery}
use Rattle.cb_model.specs.Forms.{query_form}
use Rattle.cb_model.specs.Grammar.{ReadsQuery, Whole, IsReading}
use Rattle.cb_run.proofs.Writing.{writes-unread, queries-few}
use Rattle.cb_run.proofs.over_input.Goals as goal

pub over_queries-requires-clause-written : goal.over_queries-requires-clause-written
over_queries-requires-clause-written g c = queries-few _ c.in-Ok.queries.items c.as_slice.result.now c.as_slice.ensures.value c.requires.short c.in-Ok.ensures.written

pub returns-in-Ok-clause-says : goal.returns-in-Ok-clause-says
returns-in-Ok-clause-says g c = λ cs o.
    c.over_queries.ensures.says cs o c.args.bytes.now (record {
      short = c.requires.short;
      reading = subst (λ (qs : List RawQuery). IsReading ReadsQuery c.args.bytes.now (Whole (map query_form qs))) (sym c.as_slice.ensures.value) c.in-Ok.ensures.reading;
    })

pub returns-in-Err-clause-says : goal.returns-in-Err-clause-says
returns-in-Err-clause-says g c = λ cs o. writes-unread c.in-Err.error c.unread.result c.requires.short c.in-Err.ensures.reading c.unread.ensures c.tell.ensures.told
