-- The range of a store and lists of equations.
use Rattle.std.proofs.Common.{◌≡◌, List, [], ◌∷◌, ◌++◌, sym, ◌∙◌}
use Rattle.cb_model.specs.Bits.{Each}
use Rattle.cb_model.specs.Values.{expr_value}
use Rattle.cb_laws.specs.Laws.{Equal}
use Rattle.cb_laws.proofs.Tables.{sat_bits, bits_sat, with_bits, zero_fits}
use Rattle.cb_elim.specs.Laws.{RangeGrows, SolvedIsSolvable, NoneIsRefuted}

each-more : (P : Equal → Type 0) (es : List Equal) (e : Equal) → Each P es → P e → Each P (es ++ e ∷ [])
each-more P [] e h w = (w, tt)
each-more P (d ∷ es) e h w = (h.0, each-more P es e h.1 w)

each-first : (P : Equal → Type 0) (es : List Equal) (e : Equal) → Each P (es ++ e ∷ []) → Each P es × P e
each-first P [] e h = (tt, h.0)
each-first P (d ∷ es) e h = let w = each-first P es e h.1 in ((h.0, w.0), w.1)

pub range-grows : RangeGrows
range-grows s t es e f g of left right solved a b = (
  (λ r. let w = (solved.left a b).0 r in
      each-more (λ d. expr_value a b d.0 ≡ expr_value a b d.1) es e ((of a b).0 w.0) (sym (left a b w.0) ∙ w.1 ∙ right a b w.0)),
  (λ h. let w = each-first (λ d. expr_value a b d.0 ≡ expr_value a b d.1) es e h in
      let r = (of a b).1 w.0 in
      (solved.left a b).1 (r, left a b r ∙ w.1 ∙ sym (right a b r))),
)

pub solved-is-solvable : SolvedIsSolvable
solved-is-solvable w s t es f g of solved a ok =
    let p = solved.some a in
    record { b = with_bits p.0; sorted = λ n. zero_fits; sat = bits_sat a (with_bits p.0) es ((of a p.0).0 p.1) }

pub none-is-refuted : NoneIsRefuted
none-is-refuted w s es e f g of left right none = record {
  a = none.at;
  admitted = tt;
  none = λ b sorted sat.
      let h = each-first (λ d. expr_value none.at b.bits d.0 ≡ expr_value none.at b.bits d.1) es e (sat_bits none.at b (es ++ e ∷ []) sat) in
      let r = (of none.at b.bits).1 h.0 in
      none.none b.bits r (left none.at b.bits r ∙ h.1 ∙ sym (right none.at b.bits r));
}
