-- The tables, by computation.
use Rattle.std.proofs.Common.{◌≡◌, ℕ, zero, suc, nat_lt, [], ◌∷◌, map, refl, sym, ◌∙◌, ap, codes, arith}
use Rattle.std.specs.Prelude.{if◌then◌else◌}
use Rattle.cb_model.specs.Text.{Text, joined}
use Rattle.cb_model.specs.Answers.{products_text, product_text}
use Rattle.cb_rows.specs.DetailExamples.{letter, literal, copies}
use Rattle.cb_rows.specs.TableExamples.{TableExamples}
use Rattle.cb_rows.proofs.DetailRows.{count}

-- the first byte of a text
abbrev first : Text → ℕ
first [] = 0
first (x ∷ xs) = x

begins : (n : ℕ) → first (joined (codes " + ") (map (product_text letter) (literal ∷ copies n literal))) ≡ 120
begins zero = refl
begins (suc n) = refl

not_bytes : ◌≡◌ {A = ℕ} 120 40 → ⊥
not_bytes e = absurd (omega (arith, e))

few_products : products_text letter (literal ∷ copies 65535 literal) ≡ codes "(large)" → ⊥
few_products h =
    let told : products_text letter (literal ∷ copies 65535 literal) ≡ joined (codes " + ") (map (product_text letter) (literal ∷ copies 65535 literal)) =
    ap (λ k. if nat_lt 65536 (suc k) then codes "(large)" else joined (codes " + ") (map (product_text letter) (literal ∷ copies 65535 literal))) (count 65535 literal) in
    not_bytes (sym (begins 65535) ∙ ap first (sym told ∙ h))

pub rows_hold : TableExamples
rows_hold = record {
  values_and = refl;
  values_or = refl;
  values_xor = refl;
  values_nand = refl;
  values_nor = refl;
  values_xnor = refl;
  values_not = refl;
  values_buf = refl;
  constants = refl;
  none = refl;
  one = refl;
  one_of_three = refl;
  two_to_eight = refl;
  gates = refl;
  kinds = refl;
  token_numbers = refl;
  reading_numbers = refl;
  sort_numbers = refl;
  other_numbers = refl;
  kept = refl;
  plain = refl;
  taken = refl;
  facts = refl;
  numbers = refl;
  not_large = few_products;
}
