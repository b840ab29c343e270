use Rattle.std.proofs.Common.{◌≡◌, take}
use Rattle.cb_project.specs.Leaves.{functions_of}
use Rattle.cb_answer.specs.Lines.{form_text, line_names}
use Rattle.cb_answer.proofs.pieces.text_of.Given as goal

abbrev pub invariant-loop-place : goal.invariant-loop-place
invariant-loop-place g l =
    l.line.items
    ≡ form_text l.fn.told.constants (line_names (g.N.Names.names l.fn.told.names.now) (g.N.Names.constants l.fn.told.names.now) l.fn.told.items.now) l.fn.told.items.now l.fn.told.form.now.first
    (functions_of l.fn.told.ops.now.triples l.fn.told.form.now.nodes) (take l.place l.fn.tokens)
