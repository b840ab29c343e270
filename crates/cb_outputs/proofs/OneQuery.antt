-- A query says one thing, unless one of two was stopped for its nodes.
use Rattle.std.proofs.Common.{◌≡◌, ◌⊎◌, inl, inr, ℕ, Bool, List, [], ◌∷◌, ◌++◌, refl, sym, ◌∙◌, ap, subst}
use Rattle.cb_model.specs.Bits.{Each}
use Rattle.cb_model.specs.Text.{Text}
use Rattle.cb_model.specs.Equations.{Solvable}
use Rattle.cb_model.specs.Program.{Program}
use Rattle.cb_model.specs.Derivation.{Branch, Query, Note, End, Plain, printed_of}
use Rattle.cb_model.specs.Line.{Names}
use Rattle.cb_model.specs.Commands.{Nodes, Max, Only, IsNumber}
use Rattle.cb_model.specs.Output.{AreLines, no_lines, more_lines, TooFewFor, QuerySays, all, few, few_adding, end_text, is_stop}
use Rattle.cb_laws.proofs.Determined.{run_determined}
use Rattle.cb_laws.proofs.OneLine.{line_is_one}
use Rattle.cb_outputs.specs.Ones.{HasStop, AreOne, QueryIsOne}
use Rattle.cb_outputs.proofs.Says.{printed_solvable}

lines_one : (p : Program) (names : Names) (bs : List Branch) (xs ys : List Text) → Each (λ b. Solvable p.world b.items) bs → AreLines p names bs xs → AreLines p names bs ys → xs ≡ ys
lines_one p names [] [] [] h no_lines no_lines = refl
lines_one p names (b ∷ bs) (x ∷ xs) (y ∷ ys) h (more_lines i r) (more_lines j s) =
    ap (λ z. z ∷ xs) (line_is_one p names b x y h.0 i j) ∙ ap (λ zs. y ∷ zs) (lines_one p names bs xs ys h.1 r s)
lines_one p names [] (x ∷ xs) ys h a b = elim a [ ]
lines_one p names [] xs (y ∷ ys) h a b = elim b [ ]
lines_one p names (b ∷ bs) [] ys h a c = elim a [ ]
lines_one p names (b ∷ bs) (x ∷ xs) [] h a c = elim c [ ]

-- a query's text where its nodes suffice
pub record SaysAll (p : Program) (q : Query) (names : Names) (resolutions : ℕ) (lines : List Text) (stop : Bool) : Type 0 where
  pub notes : List Note
  pub end : End
  pub texts : List Text
  pub run : Plain p q resolutions notes end
  pub are : AreLines p names (printed_of notes) texts
  pub is : lines ≡ texts ++ end_text end texts ∷ []
  pub stops : stop ≡ is_stop end

-- the nodes suffice, or they were too few
pub all_or_few : (p : Program) (q : Query) (names : Names) (resolutions : ℕ) (nodes : Nodes) (lines : List Text) (stop : Bool) → QuerySays p q names resolutions nodes lines stop →
    SaysAll p q names resolutions lines stop ⊎ (IsNumber nodes × HasStop lines)
all_or_few p q names resolutions nodes lines stop (all ns end xs r l i s) = inl (record { notes = ns; end = end; texts = xs; run = r; are = l; is = i; stops = s })
all_or_few p q names resolutions nodes lines stop (few ns used s k xs f le l t i) = inr (number nodes t.b t.too_few, (xs, [], i))
  where
    number : (n : Nodes) (b : Branch) → TooFewFor p names n b → IsNumber n
    number Max b h = absurd h
    number (Only n) b h = tt
all_or_few p q names resolutions nodes lines stop (few_adding ns used e s r below b xs f m n l t i) = inr (number nodes t, (xs, [], i))
  where
    number : (n : Nodes) → TooFewFor p names n b → IsNumber n
    number Max h = absurd h
    number (Only n) h = tt

pub all_one : (p : Program) (q : Query) (names : Names) (resolutions : ℕ) (ls ms : List Text) (s t : Bool) → SaysAll p q names resolutions ls s → SaysAll p q names resolutions ms t → (ls ≡ ms) × (s ≡ t)
all_one p q names resolutions ls ms s t x y =
    let same = run_determined p q resolutions x.notes y.notes x.end y.end x.run y.run in
    let are : AreLines p names (printed_of x.notes) y.texts = subst (λ (ns : List Note). AreLines p names (printed_of ns) y.texts) (sym same.0) y.are in
    let texts : x.texts ≡ y.texts = lines_one p names (printed_of x.notes) x.texts y.texts (printed_solvable p q resolutions x.notes x.end x.run) x.are are in (
      x.is ∙ ap (λ (zs : List Text). zs ++ end_text x.end zs ∷ []) texts ∙ ap (λ e. y.texts ++ end_text e y.texts ∷ []) same.1 ∙ sym y.is,
      x.stops ∙ ap is_stop same.1 ∙ sym y.stops,
    )

pub query_one : QueryIsOne
query_one p q names resolutions nodes ls ms s t x y = step (all_or_few p q names resolutions nodes ls s x) (all_or_few p q names resolutions nodes ms t y)
  where
    step : SaysAll p q names resolutions ls s ⊎ (IsNumber nodes × HasStop ls) → SaysAll p q names resolutions ms t ⊎ (IsNumber nodes × HasStop ms) → AreOne nodes ls ms s t
    step (inl a) (inl b) = inl (all_one p q names resolutions ls ms s t a b)
    step (inr a) b = inr (a.0, inl a.1)
    step (inl a) (inr b) = inr (b.0, inr b.1)
