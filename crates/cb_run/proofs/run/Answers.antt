use Rattle.std.proofs.Common.{refl, sym, subst}
use Rattle.cb_model.specs.Output.{Loaded}
use Rattle.cb_lines.specs.Words.{nodes_view}
use Rattle.cb_accept.specs.File.{forms, holds}
use Rattle.cb_accept.proofs.Accepting.{accepted-loaded}
use Rattle.cb_run.specs.Running.{ProgramRun, unbuilt_yet, asked}
use Rattle.cb_run.proofs.Writing.{unbuilt-told}
use Rattle.cb_run.proofs.Accepted.{no-circuits, is-over}
use Rattle.cb_run.proofs.run.Goals as goal

pub returns-then-has_unbuilt-clause-says : goal.returns-then-has_unbuilt-clause-says
returns-then-has_unbuilt-clause-says g c = unbuilt_yet (sym c.if-has_unbuilt.ensures) refl (unbuilt-told _ refl c.finish.ensures.written)

pub over_program-requires : goal.over_program-requires
over_program-requires g c = record { cs = forms c.args.file.now; over = is-over c.args.file.now c.requires (sym c.if-has_unbuilt.ensures) }

pub returns-clause-says : goal.returns-clause-says
returns-clause-says g c =
    let e = sym c.if-has_unbuilt.ensures in
    asked e
    (subst
    (λ (l : Loaded). ProgramRun l c.args.resolutions (nodes_view c.args.nodes) (g.I.Source.left c.args.input.now) (g.I.Source.left c.over_program.new.input) (g.O.Sink.written c.args.out.now)
    (g.O.Sink.written c.over_program.new.out) c.over_program.result)
    (no-circuits c.args.file.now.text.now (holds c.args.file.now) (accepted-loaded c.args.file.now c.requires) e)
    (c.over_program.ensures.says (forms c.args.file.now) (is-over c.args.file.now c.requires e)))
