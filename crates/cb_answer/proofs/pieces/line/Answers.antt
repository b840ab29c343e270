use Rattle.std.proofs.Common.{length, [], ◌∷◌, subst, sym, ap, ◌∙◌}
use Rattle.cb_model.specs.Text.{lines_text}
use Rattle.cb_model.specs.Bits.{Each}
use Rattle.cb_project.specs.Leaves.{functions_of}
use Rattle.cb_answer.specs.Lines.{IsNumbered, form_text, line_names}
use Rattle.cb_answer.proofs.Numbered.{told-numbered, told-line}
use Rattle.cb_answer.proofs.Ordered.{named-pieces}
use Rattle.cb_answer.proofs.pieces.line.Goals as goal

pub text_of-requires-clause-numbered : goal.text_of-requires-clause-numbered
text_of-requires-clause-numbered g c =
    let t = c.args.told.now in
    let k = length t.items.now in
    let l = length t.form.now.nodes in
    subst (λ ts. Each (IsNumbered k l) ts) (sym c.deref.ensures.value) (told-numbered t.items.now l c.requires.terms.0 c.args.printed.now c.requires.terms.1)

pub returns-clause-pieces : goal.returns-clause-pieces
returns-clause-pieces g c = λ ps told.
    let t = c.args.told.now in
    let gens = functions_of t.ops.now.triples t.form.now.nodes in
    let names = line_names (g.N.Names.names t.names.now) (g.N.Names.constants t.names.now) t.items.now in
    told-line t.constants names t.items.now (length t.form.now.nodes) t.form.now.first gens ps c.args.printed.now c.in_ok-text.text.items c.push.new.self.items told
    (c.in_ok-text.ensures ∙ ap (λ ts. form_text t.constants names t.items.now t.form.now.first gens ts) c.deref.ensures.value)
    c.in_ok-push.ensures.items

pub returns-clause-line : goal.returns-clause-line
returns-clause-line g c = λ ps told named.
    let t = c.args.told.now in
    let gens = functions_of t.ops.now.triples t.form.now.nodes in
    let names = line_names (g.N.Names.names t.names.now) (g.N.Names.constants t.names.now) t.items.now in
    told-line t.constants names t.items.now (length t.form.now.nodes) t.form.now.first gens ps c.args.printed.now c.in_ok-text.text.items c.push.new.self.items told
    (c.in_ok-text.ensures ∙ ap (λ ts. form_text t.constants names t.items.now t.form.now.first gens ts) c.deref.ensures.value)
    c.in_ok-push.ensures.items
    ∙ ap (λ x. lines_text (x ∷ [])) (named-pieces (g.N.Names.names t.names.now) (g.N.Names.constants t.names.now) t.items.now ps t.constants t.form.now.first gens named)
