-- The clauses of a file that are facts, and those that are counted.
use Rattle.std.proofs.Common.{◌≡◌, ℕ, suc, ◌+◌, Bool, true, false, not, List, [], ◌∷◌, ◌++◌, codes, decimal, length, map, refl, sym, ◌∙◌, ap, arith, count_by}
use Rattle.std.specs.Bool.{if◌then◌else◌}
use Rattle.std.proofs.lemmas.List.Sums.{sum_by-cons}
use Rattle.cb_model.specs.declared.RawClause.{RawClause}
use Rattle.cb_model.specs.declared.RawClause.TheVariants as raw
use Rattle.cb_model.specs.Forms.{clause_form}
use Rattle.cb_model.specs.Loading.{is_fact}
use Rattle.cb_model.specs.Output.{Loaded, clause_count, checked_text}
use Rattle.cb_model.specs.Text.{Text, lines_text}
use Rattle.cb_commands.specs.Counts.{is_counted}

abbrev weight : RawClause → ℕ
weight c = if is_counted (clause_form c) then 1 else 0

pub counted : (cs : List RawClause) → clause_count (map clause_form cs) ≡ count_by (λ c. is_counted (clause_form c)) cs
counted [] = refl
counted (raw.Directive n w fs ∷ cs) = let h = counted cs in let e = sum_by-cons weight (raw.Directive n w fs) cs in omega arith
counted (raw.Rule n f b gs ∷ cs) =
    step (is_fact (clause_form (raw.Rule n f b gs))) (clause_count (map clause_form cs)) ∙ ap (λ m. weight (raw.Rule n f b gs) + m) (counted cs) ∙ sym (sum_by-cons weight (raw.Rule n f b gs) cs)
  where
    step : (x : Bool) (m : ℕ) → (if x then m else suc m) ≡ (if not x then 1 else 0) + m
    step true m = omega arith
    step false m = omega arith

-- the line of a file
pub checked_says : (text : Text) (cs : List RawClause) (n m : ℕ) (l : Loaded) → n ≡ count_by (λ c. is_counted (clause_form c)) cs → m ≡ length l.circuits.modules → l.clauses ≡ map clause_form cs →
    text ≡ lines_text ((codes "checked: " ++ decimal n ++ codes " clauses, " ++ decimal m ++ codes " modules") ∷ []) → text ≡ lines_text (checked_text l ∷ [])
checked_says text cs n m l e f c t =
    t ∙ ap (λ k. lines_text ((codes "checked: " ++ decimal k ++ codes " clauses, " ++ decimal m ++ codes " modules") ∷ [])) (e ∙ sym (counted cs) ∙ ap clause_count (sym c))
    ∙ ap (λ k. lines_text ((codes "checked: " ++ decimal (clause_count l.clauses) ++ codes " clauses, " ++ decimal k ++ codes " modules") ∷ [])) f
