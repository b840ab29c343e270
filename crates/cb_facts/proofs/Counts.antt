-- So many terms, and no more.
use Rattle.std.proofs.Common.{◌≡◌, ◌<◌, ◌≤◌, List, [], ◌∷◌, map, length, None, refl, arith}
use Rattle.cb_model.specs.declared.RawTerm.{RawTerm}
use Rattle.cb_model.specs.Forms.{form_of, forms_of}
use Rattle.cb_facts.specs.Terms.{two_in, three_in, four_in}

pub not_two-fewer : (ts : List RawTerm) → length ts < 2 → None ≡ two_in (forms_of (map form_of ts))
not_two-fewer [] h = refl
not_two-fewer (t ∷ []) h = refl
not_two-fewer (t ∷ u ∷ ts) h = absurd (omega arith)

pub not_two-more : (ts : List RawTerm) → 3 ≤ length ts → None ≡ two_in (forms_of (map form_of ts))
not_two-more [] h = absurd (omega arith)
not_two-more (t ∷ []) h = absurd (omega arith)
not_two-more (t ∷ u ∷ []) h = absurd (omega arith)
not_two-more (t ∷ u ∷ v ∷ ts) h = refl

pub not_three-fewer : (ts : List RawTerm) → length ts < 3 → None ≡ three_in (forms_of (map form_of ts))
not_three-fewer [] h = refl
not_three-fewer (t ∷ []) h = refl
not_three-fewer (t ∷ u ∷ []) h = refl
not_three-fewer (t ∷ u ∷ v ∷ ts) h = absurd (omega arith)

pub not_three-more : (ts : List RawTerm) → 4 ≤ length ts → None ≡ three_in (forms_of (map form_of ts))
not_three-more [] h = absurd (omega arith)
not_three-more (t ∷ []) h = absurd (omega arith)
not_three-more (t ∷ u ∷ []) h = absurd (omega arith)
not_three-more (t ∷ u ∷ v ∷ []) h = absurd (omega arith)
not_three-more (t ∷ u ∷ v ∷ w ∷ ts) h = refl

pub not_four-fewer : (ts : List RawTerm) → length ts < 4 → None ≡ four_in (forms_of (map form_of ts))
not_four-fewer [] h = refl
not_four-fewer (t ∷ []) h = refl
not_four-fewer (t ∷ u ∷ []) h = refl
not_four-fewer (t ∷ u ∷ v ∷ []) h = refl
not_four-fewer (t ∷ u ∷ v ∷ w ∷ ts) h = absurd (omega arith)

pub not_four-more : (ts : List RawTerm) → 5 ≤ length ts → None ≡ four_in (forms_of (map form_of ts))
not_four-more [] h = absurd (omega arith)
not_four-more (t ∷ []) h = absurd (omega arith)
not_four-more (t ∷ u ∷ []) h = absurd (omega arith)
not_four-more (t ∷ u ∷ v ∷ []) h = absurd (omega arith)
not_four-more (t ∷ u ∷ v ∷ w ∷ []) h = absurd (omega arith)
not_four-more (t ∷ u ∷ v ∷ w ∷ x ∷ ts) h = refl
