use Rattle.std.proofs.Common.{◌++◌, ◌∙◌, ap, sym}
use Rattle.cb_show.specs.Levels.{node_text}
use Rattle.cb_show.proofs.Fronts.{ok_says, front_as}
use Rattle.cb_show.proofs.values.value.Goals as goal

pub returns-clause-front : goal.returns-clause-front
returns-clause-front g c e i m d =
    let shown = ok_says c.push_value.result (sym c.is_err.ensures.value ∙ c.if-is_err.false) c.push_value.ensures.text m d in
    front_as c.as_slice.result.now _
    (c.as_slice.ensures.value ∙ shown
    ∙ ap (λ x. x ++ node_text c.args.ops.now.triples c.args.f.0 c.args.constants c.args.first (g.N.Names.constants c.args.names.now) m) c.new-text.ensures.items)
    c.in-Err.ensures.front
