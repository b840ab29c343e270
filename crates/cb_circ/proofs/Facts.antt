-- Facts are read one after another.
use Rattle.std.proofs.Common.{◌≡◌, inl, inr, ℕ, suc, ◌+◌, ◌<◌, ◌≤◌, Bool, true, false, ◌&&◌, List, ◌∷◌, map, length, drop, get_or, Option, Some, None, refl, sym, ◌∙◌, ap, subst, add-one, drop-cons}
use Rattle.std.specs.List.{list_all}
use Rattle.std.proofs.lemmas.Bool.{true≢false}
use Rattle.std.proofs.lemmas.List.{drop_all}
use Rattle.cb_model.specs.declared.RawClause.{RawClause}
use Rattle.cb_model.specs.Grammar.{FormClause, Directive, Rule}
use Rattle.cb_model.specs.Forms.{clause_form}
use Rattle.cb_model.specs.Written.{clause_written}
use Rattle.cb_model.specs.Facts.{Circuits, FactRefusal, FactsRead, no_facts, no_fact, a_fact, refused}
use Rattle.cb_circ.specs.Reading.{ClauseReads, ClauseRefused, FactsRefused}

abbrev pub forms : List RawClause → List FormClause
forms cs = map clause_form cs

both-parts : (a b : Bool) → (a && b) ≡ true → (a ≡ true) × (b ≡ true)
both-parts true b h = (refl, h)
both-parts false b h = absurd (true≢false (sym h))

clause-then : (c c' c'' : Circuits) (x : FormClause) (xs : List FormClause) (r : Option (FactRefusal × ℕ)) → ClauseReads c x c' → FactsRead c' xs r c'' → FactsRead c (x ∷ xs) r c''
clause-then c c' c'' x xs r (inl (n, same)) f = no_fact n (subst (λ (d : Circuits). FactsRead d xs r c'') same f)
clause-then c c' c'' x xs r (inr (y, h)) f = a_fact c' y h f

refused-here : (c : Circuits) (x : FormClause) (xs : List FormClause) (n : ℕ) (r : FactRefusal) → ClauseRefused c x n r → FactsRead c (x ∷ xs) (Some (r, n)) c
refused-here c (Directive m w fs) xs n r h = absurd (true≢false (sym h.0))
refused-here c (Rule m f b gs) xs n r h = subst (λ k. FactsRead c (Rule m f b gs ∷ xs) (Some (r, k)) c) h.1 (refused h.0 h.2)

module _ (cs : List RawClause) where
  -- the clauses before a place were read
  pub record FactsSoFar (old : Circuits) (i : ℕ) (now : Circuits) : Type 0 where
    pub so : (r : Option (FactRefusal × ℕ)) (c : Circuits) → FactsRead now (forms (drop i cs)) r c → FactsRead old (forms cs) r c

  pub facts-init : (old : Circuits) → FactsSoFar old 0 old
  facts-init old = record { so = λ r c f. f }

  module _ (old : Circuits) (i : ℕ) (x : RawClause) (l : i < length cs) (at : x ≡ get_or cs i x) (now : Circuits) (s : FactsSoFar old i now) where
    opened : forms (drop i cs) ≡ clause_form x ∷ forms (drop (i + 1) cs)
    opened =
        ap forms (drop-cons cs i x l) ∙ ap (λ (y : RawClause). clause_form y ∷ forms (drop (suc i) cs)) (sym at) ∙ ap (λ n. clause_form x ∷ forms (drop n cs)) (sym (add-one i))

    pub facts-on : (mid : Circuits) → ClauseReads now (clause_form x) mid → FactsSoFar old (i + 1) mid
    facts-on mid h = record { so = λ r c f. s.so r c (subst (λ (xs : List FormClause). FactsRead now xs r c) (sym opened) (clause-then now mid c (clause_form x) (forms (drop (i + 1) cs)) r h f)) }

    pub facts-stop : (n : ℕ) (r : FactRefusal) → ClauseRefused now (clause_form x) n r → FactsRefused old (forms cs) n r
    facts-stop n r h = (now, s.so (Some (r, n)) now (subst (λ (xs : List FormClause). FactsRead now xs (Some (r, n)) now) (sym opened) (refused-here now (clause_form x) (forms (drop (i + 1) cs)) n r h)))

    pub written-here : list_all clause_written (forms (drop i cs)) ≡ true → (clause_written (clause_form x) ≡ true) × (list_all clause_written (forms (drop (i + 1) cs)) ≡ true)
    written-here w = both-parts (clause_written (clause_form x)) (list_all clause_written (forms (drop (i + 1) cs))) (sym (ap (list_all clause_written) opened) ∙ w)

  pub facts-end : (old : Circuits) (i : ℕ) → length cs ≤ i → (now : Circuits) → FactsSoFar old i now → FactsRead old (forms cs) None now
  facts-end old i l now s = s.so None now (subst (λ (ys : List RawClause). FactsRead now (forms ys) None now) (sym (drop_all i cs l)) no_facts)
