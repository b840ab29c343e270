use Rattle.std.proofs.Common.{◌≡◌, ◌∙◌, ◌∷◌, [], codes}
use Rattle.cb_model.specs.Text.{lines_text}
use Rattle.cb_answer.specs.Answered.{IsLineFor}
use Rattle.cb_answer.specs.Writing.{IsText, IsToldFor}
use Rattle.cb_answer.proofs.Forms.{terms}
use Rattle.cb_answer.proofs.Answered.{text-for}
use Rattle.cb_answer.proofs.Whole.{if-ok, roots-there, shows-for, shows-none, shows-some, told-text, wide-text}
use Rattle.cb_answer.proofs.telling.text.Goals as goal

pub shape-requires-clause-terms : goal.shape-requires-clause-terms
shape-requires-clause-terms g c =
    roots-there c.args.state.now c.args.items.now c.requires.tellable c.heap.result.now c.deref.result.now c.heap.ensures (c.deref.ensures.value ∙ c.in-Ok.ensures)

pub returns-in_default-found-clause-text : goal.returns-in_default-found-clause-text
returns-in_default-found-clause-text g c =
    let names = g.N.Names.names c.args.names.now in
    let constants = g.N.Names.constants c.args.names.now in
    let wide = shows-none c.args.state.now c.args.items.now c.in-Ok-shape.found c.in_default-found.is
    (shows-for c.args.state.now c.args.items.now c.heap.result.now c.deref.result.now c.heap.ensures (c.deref.ensures.value ∙ c.in-Ok.ensures) c.in-Ok-shape.found c.in-Ok-shape.ensures) in
    if-ok c.wide.result (λ t. t.items ≡ lines_text (codes "(wide)" ∷ [])) (λ t. IsText (IsLineFor names constants c.args.state.now c.args.items.now) t.items)
    (λ t e. text-for names constants c.args.state.now c.args.items.now c.requires.tellable t.items (wide-text names constants c.args.state.now c.args.items.now t.items wide e)) c.wide.ensures.text

pub returns-clause-text : goal.returns-clause-text
returns-clause-text g c =
    let names = g.N.Names.names c.args.names.now in
    let constants = g.N.Names.constants c.args.names.now in
    let shown = shows-some c.args.state.now c.args.items.now c.in-Ok-shape.found c.in-Some.printed c.in-Some.is
    (shows-for c.args.state.now c.args.items.now c.heap.result.now c.deref.result.now c.heap.ensures (c.deref.ensures.value ∙ c.in-Ok.ensures) c.in-Ok-shape.found c.in-Ok-shape.ensures) in
    let ps = terms c.args.state.now c.args.items.now c.requires.tellable in
    if-ok c.told-told.result (λ t. IsToldFor names constants c.args.state.now c.args.items.now t.items) (λ t. IsText (IsLineFor names constants c.args.state.now c.args.items.now) t.items)
    (λ t told. text-for names constants c.args.state.now c.args.items.now c.requires.tellable t.items
    (told-text names constants c.args.state.now c.args.items.now t.items (λ qs q. (shown qs q).narrow) ps.0 ps.1 told)) c.told-told.ensures.text
