use Rattle.std.proofs.Common.{◌≡◌, ℕ, ◌∙◌, sym, refl, [], ◌∷◌}
use Rattle.cb_model.specs.Text.{lines_text}
use Rattle.cb_lines.specs.Lines.{adder_size_text}
use Rattle.cb_commands.proofs.Sized.{sized}
use Rattle.cb_commands.proofs.making.summary.Goals as goal

pub returns : goal.returns
returns c n h =
    let k = c.args.circuits.now in
    let s = sized k n c.in-Some.m c.find.ensures.flats (sym c.find.ensures.number ∙ c.in-Some.is) h in
    record {
      line = c.in_ok-line.ensures ∙ (λ i. lines_text (adder_size_text ((c.inputs.ensures ∙ s.inputs) i) ((c.outputs.ensures ∙ s.outputs) i) ((c.gates.ensures.gates ∙ s.gates) i) ∷ []));
      outcome = refl;
    }
