use Rattle.std.proofs.Common.{◌≡◌, ◌<◌, ◌≤◌, List, [], ◌∷◌, length, map, None, refl, sym, arith, rules, string_bytes, Global}
use Rattle.std.proofs.lemmas.List.{length-map}
use Rattle.std.proofs.lemmas.Grind.{common_steps}
use Rattle.cb_model.specs.Text.{Text}
use Rattle.cb_model.specs.Commands.{command_of}
use Rattle.cb_lines.proofs.words.command_in.Goals as goal
use Rattle.cb_lines.proofs.words.command_in.Goals.{in_default-via-then-words-lt2, in_default-via-else-words-lt2+else-words-lt3+else-words-lt4+else-words-lt5+else-words-lt6}

-- no form has fewer than two words or more than five
few : (ws : List Text) → length ws < 2 → command_of ws ≡ None
few [] h = refl
few (a ∷ []) h = refl
few (a ∷ b ∷ ws) h = absurd (omega arith)

many : (ws : List Text) → 6 ≤ length ws → command_of ws ≡ None
many [] h = absurd (omega arith)
many (a ∷ []) h = absurd (omega arith)
many (a ∷ b ∷ []) h = absurd (omega arith)
many (a ∷ b ∷ c ∷ []) h = absurd (omega arith)
many (a ∷ b ∷ c ∷ d ∷ []) h = absurd (omega arith)
many (a ∷ b ∷ c ∷ d ∷ e ∷ []) h = absurd (omega arith)
many (a ∷ b ∷ c ∷ d ∷ e ∷ f ∷ ws) h = refl

pub returns-in_default : goal.returns-in_default
returns-in_default c =
    let ws : List Text = map (string_bytes {Z = Global}) c.args.words.now in
    elim c.in_default.branch [
      | in_default-via-then-words-lt2 w ↦ let h : length c.args.words.now < 2 = search rules in sym (few ws (simp length-map h))
      | in_default-via-else-words-lt2+else-words-lt3+else-words-lt4+else-words-lt5+else-words-lt6 w ↦ let h : 6 ≤ length c.args.words.now = grind (arith, common_steps) in sym (many ws (simp length-map h))
    ]
