use Rattle.std.proofs.Common.{suc, ◌++◌, ap, ◌∙◌, refl}
use Rattle.cb_answer.specs.Lines.{line_names}
use Rattle.cb_shape.proofs.Telling.{on-ok}
use Rattle.cb_answer.proofs.Leaves.{leaf_scope, leaf_told}
use Rattle.cb_answer.proofs.pieces.push_leaf.Goals as goal

pub push_value-requires-clause-scope : goal.push_value-requires-clause-scope
push_value-requires-clause-scope g c =
    let t = c.args.told.now in (
      suc c.args.number,
      leaf_scope t.ops.now.triples t.constants t.form.now.first c.as_slice.result.now t.form.now.nodes c.args.number (record { 0 = 0 }) c.as_slice.ensures c.requires.form.own c.requires.there,
    )

pub returns : goal.returns
returns g c =
    let t = c.args.told.now in
    on-ok c.push_value.result (λ h.
    h (suc c.args.number) (leaf_scope t.ops.now.triples t.constants t.form.now.first c.as_slice.result.now t.form.now.nodes c.args.number (record { 0 = 0 }) c.as_slice.ensures c.requires.form.own c.requires.there)
    ∙ ap (λ x. c.args.line.now.items ++ x)
    (leaf_told t.ops.now.triples t.constants t.form.now.first c.as_slice.result.now t.form.now.nodes (line_names (g.N.Names.names t.names.now) (g.N.Names.constants t.names.now) t.items.now) (g.N.Names.constants t.names.now)
    c.args.number (record { 0 = 0 }) c.as_slice.ensures refl c.requires.there))
    c.push_value.ensures.text
