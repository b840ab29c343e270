use Rattle.std.proofs.Common.{map}
use Rattle.cb_model.specs.Forms.{clause_form}
use Rattle.cb_model.specs.Grammar.{FormClause, ReadsClause}
use Rattle.cb_laws.proofs.WrittenForm.{reading_is_written}
use Rattle.cb_syntax.proofs.Readings.{fault_read, whole_read, refused_read}
use Rattle.cb_syntax.proofs.texts.read_clauses.Goals as goal

pub returns-in-Err-clause-reading : goal.returns-in-Err-clause-reading
returns-in-Err-clause-reading c = fault_read FormClause ReadsClause c.args.source.now c.in-Err.fault c.lexed.result c.in-Err.ensures.err c.lexed.ensures

pub returns-in-Ok-clauses-clause-reading : goal.returns-in-Ok-clauses-clause-reading
returns-in-Ok-clauses-clause-reading c = whole_read FormClause ReadsClause c.args.source.now c.in-Ok.found.items c.deref.result.now (map clause_form c.in-Ok-clauses.read.items) c.in-Ok.ensures.ok c.deref.ensures.value c.in-Ok-clauses.ensures

pub returns-clause-reading : goal.returns-clause-reading
returns-clause-reading c =
    refused_read FormClause ReadsClause c.args.source.now c.in-Ok.found.items c.deref.result.now c.deref-in-Err-clauses.result.now c.in-Err-clauses.stop c.refusal.result c.in-Ok.ensures.ok c.deref.ensures.value c.deref-in-Err-clauses.ensures.value
    c.in-Err-clauses.ensures c.refusal.ensures

pub returns-in-Ok-clauses-clause-written : goal.returns-in-Ok-clauses-clause-written
returns-in-Ok-clauses-clause-written c =
    (reading_is_written c.args.source.now).0 (map clause_form c.in-Ok-clauses.read.items)
    (whole_read FormClause ReadsClause c.args.source.now c.in-Ok.found.items c.deref.result.now (map clause_form c.in-Ok-clauses.read.items) c.in-Ok.ensures.ok c.deref.ensures.value c.in-Ok-clauses.ensures)
