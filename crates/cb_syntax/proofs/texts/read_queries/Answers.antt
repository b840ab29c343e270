use Rattle.std.proofs.Common.{map}
use Rattle.cb_model.specs.Forms.{query_form}
use Rattle.cb_model.specs.Grammar.{FormQuery, ReadsQuery}
use Rattle.cb_laws.proofs.WrittenForm.{reading_is_written}
use Rattle.cb_syntax.proofs.Readings.{fault_read, whole_read, refused_read}
use Rattle.cb_syntax.proofs.texts.read_queries.Goals as goal

pub returns-in-Err-clause-reading : goal.returns-in-Err-clause-reading
returns-in-Err-clause-reading c = fault_read FormQuery ReadsQuery c.args.source.now c.in-Err.fault c.lexed.result c.in-Err.ensures.err c.lexed.ensures

pub returns-in-Ok-queries-clause-reading : goal.returns-in-Ok-queries-clause-reading
returns-in-Ok-queries-clause-reading c = whole_read FormQuery ReadsQuery c.args.source.now c.in-Ok.found.items c.deref.result.now (map query_form c.in-Ok-queries.read.items) c.in-Ok.ensures.ok c.deref.ensures.value c.in-Ok-queries.ensures

pub returns-clause-reading : goal.returns-clause-reading
returns-clause-reading c =
    refused_read FormQuery ReadsQuery c.args.source.now c.in-Ok.found.items c.deref.result.now c.deref-in-Err-queries.result.now c.in-Err-queries.stop c.refusal.result c.in-Ok.ensures.ok c.deref.ensures.value c.deref-in-Err-queries.ensures.value
    c.in-Err-queries.ensures c.refusal.ensures

pub returns-in-Ok-queries-clause-written : goal.returns-in-Ok-queries-clause-written
returns-in-Ok-queries-clause-written c =
    (reading_is_written c.args.source.now).1 (map query_form c.in-Ok-queries.read.items)
    (whole_read FormQuery ReadsQuery c.args.source.now c.in-Ok.found.items c.deref.result.now (map query_form c.in-Ok-queries.read.items) c.in-Ok.ensures.ok c.deref.ensures.value c.in-Ok-queries.ensures)
