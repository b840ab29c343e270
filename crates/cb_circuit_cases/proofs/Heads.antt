-- Clauses that are told one after another are written ones.
use Rattle.std.proofs.Common.{◌≡◌, ℕ, suc, ◌+◌, ◌<◌, Bool, true, false, ◌&&◌, List, ◌∷◌, map, length, drop, get_or, refl, sym, ◌∙◌, ap, add-one, drop-cons}
use Rattle.std.specs.List.{list_all}
use Rattle.std.proofs.lemmas.Bool.{true≢false}
use Rattle.cb_model.specs.declared.RawClause.{RawClause}
use Rattle.cb_model.specs.Forms.{clause_form}
use Rattle.cb_model.specs.Written.{clause_written}

both-parts : (a b : Bool) → (a && b) ≡ true → (a ≡ true) × (b ≡ true)
both-parts true b h = (refl, h)
both-parts false b h = absurd (true≢false (sym h))

module _ (cs : List RawClause) (i : ℕ) (x : RawClause) (l : i < length cs) (at : x ≡ get_or cs i x) where
  opened : map clause_form (drop i cs) ≡ clause_form x ∷ map clause_form (drop (i + 1) cs)
  opened =
      ap (map clause_form) (drop-cons cs i x l) ∙ ap (λ (y : RawClause). clause_form y ∷ map clause_form (drop (suc i) cs)) (sym at) ∙ ap (λ n. clause_form x ∷ map clause_form (drop n cs)) (sym (add-one i))

  pub written-here : list_all clause_written (map clause_form (drop i cs)) ≡ true → (clause_written (clause_form x) ≡ true) × (list_all clause_written (map clause_form (drop (i + 1) cs)) ≡ true)
  written-here w = both-parts (clause_written (clause_form x)) (list_all clause_written (map clause_form (drop (i + 1) cs))) (sym (ap (list_all clause_written) opened) ∙ w)
