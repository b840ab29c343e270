-- The lines of a query's first answers, and how they go on.
use Rattle.std.proofs.Common.{◌≡◌, ℕ, ◌+◌, ◌≤◌, true, List, [], ◌∷◌, ◌++◌, length, take, Option, None, Some, refl, sym, ◌∙◌, ap, subst, arith, append_assoc, length-append, codes}
use Rattle.std.proofs.Math.Seq.{take-append_seam, take-length}
use Rattle.cb_model.specs.Text.{Text, lines_text, IsPrefix}
use Rattle.cb_model.specs.Commands.{Nodes, IsNumber}
use Rattle.cb_model.specs.Program.{Program}
use Rattle.cb_model.specs.Derivation.{Query, Branch, Budget, Note, Made, Printed, Entry, End, Stopped, SoFar, here, Plain, runs, stopped, passed, first_branch, printed_of}
use Rattle.cb_model.specs.Line.{Names, IsLine}
use Rattle.cb_model.specs.Output.{AreLines, no_lines, more_lines, QuerySays, all, end_text, is_stop}
use Rattle.cb_laws.proofs.Begins.{same_prints, printed_append}
use Rattle.cb_tell.specs.Told.{QueryTells, said, few, QueryBegins, so_far, of_all}
use Rattle.cb_tell.specs.Telling.{AreFirst}

lines_append : (p : Program) (names : Names) (bs cs : List Branch) (xs ys : List Text) → AreLines p names bs xs → AreLines p names cs ys → AreLines p names (bs ++ cs) (xs ++ ys)
lines_append p names [] cs [] ys no_lines l = l
lines_append p names [] cs (x ∷ xs) ys a l = elim a [ ]
lines_append p names (b ∷ bs) cs [] ys a l = elim a [ ]
lines_append p names (b ∷ bs) cs (x ∷ xs) ys (more_lines i r) l = more_lines i (lines_append p names bs cs xs ys r l)

pub text_append : (xs ys : List Text) → lines_text (xs ++ ys) ≡ lines_text xs ++ lines_text ys
text_append [] ys = refl
text_append (x ∷ xs) ys = ap (λ (t : Text). x ++ (10 ∷ t)) (text_append xs ys) ∙ sym (append_assoc x (10 ∷ lines_text xs) (lines_text ys))

module _ (p : Program) (q : Query) (names : Names) (r : ℕ) where
  pub none_first : AreFirst p q names r []
  none_first ns used s so l = no_lines

  -- where so many are printed, all of them have these lines
  pub lines_of : (xs : List Text) → AreFirst p q names r xs → (ns : List Note) (used : ℕ) (s : List Entry) → SoFar p q r ns used s →
      length (printed_of ns) ≡ length xs → AreLines p names (printed_of ns) xs
  lines_of xs f ns used s so e =
      let most : length xs ≤ length (printed_of ns) = omega (arith, e) in
      subst (λ (bs : List Branch). AreLines p names bs xs) (ap (λ n. take n (printed_of ns)) (sym e) ∙ take-length (printed_of ns)) (f ns used s so most)

  -- with the line of the next answer
  pub one_more : (xs : List Text) → AreFirst p q names r xs → (ns before : List Note) (used : ℕ) (s : List Entry) (b : Branch) (x : Text) → SoFar p q r ns used s →
      ns ≡ before ++ Printed b ∷ [] → length (printed_of before) ≡ length xs → IsLine p names b x → AreFirst p q names r (xs ++ x ∷ [])
  one_more xs f ns before used s b x so e n l ms used' s' so' most =
      let printed : printed_of ns ≡ printed_of before ++ b ∷ [] = ap printed_of e ∙ printed_append before (Printed b ∷ []) in
      let count : length (printed_of ns) ≡ length xs + 1 = ap length printed ∙ length-append (printed_of before) (b ∷ []) ∙ ap (λ k. k + 1) n in
      let here : length xs ≤ length (printed_of ns) = omega (arith, count) in
      let wanted : length (xs ++ x ∷ []) ≡ length xs + 1 = length-append xs (x ∷ []) in
      let fits : length (printed_of ns) ≤ length (printed_of ms) = omega (arith, count, wanted, most) in
      let same = same_prints p q r used used' ns ms s s' so so' fits in
      let front : take (length xs) (printed_of ns) ≡ printed_of before =
      ap (λ (bs : List Branch). take (length xs) bs) printed ∙ ap (λ k. take k (printed_of before ++ b ∷ [])) (sym n) ∙ take-append_seam (printed_of before) (b ∷ []) in
      let old : AreLines p names (printed_of before) xs = subst (λ (bs : List Branch). AreLines p names bs xs) front (f ns used s so here) in
      let new : AreLines p names (printed_of ns) (xs ++ x ∷ []) =
      subst (λ (bs : List Branch). AreLines p names bs (xs ++ x ∷ [])) (sym printed) (lines_append p names (printed_of before) (b ∷ []) xs (x ∷ []) old (more_lines l no_lines)) in
      let taken : take (length (xs ++ x ∷ [])) (printed_of ms) ≡ printed_of ns =
      ap (λ k. take k (printed_of ms)) (wanted ∙ sym count) ∙ ap (λ (bs : List Branch). take (length (printed_of ns)) bs) same.1 ∙ take-append_seam (printed_of ns) same.0 in
      subst (λ (bs : List Branch). AreLines p names bs (xs ++ x ∷ [])) (sym taken) new

  -- the last line
  pub ends : (nodes : Nodes) (xs : List Text) → AreFirst p q names r xs → (ns : List Note) (end : End) → Plain p q r ns end → length (printed_of ns) ≡ length xs →
      QuerySays p q names r nodes (xs ++ end_text end xs ∷ []) (is_stop end)
  ends nodes xs f ns end (runs used s so e) n = all ns end xs (runs used s so e) (lines_of xs f ns used s so n) refl refl
  ends nodes [] f ns end (stopped w e) n = all ns end [] (stopped w e) no_lines refl refl
  ends nodes (x ∷ xs) f ns end (stopped w e) n = absurd (omega (arith, n))

  -- the stop for nodes
  pub too_few : (nodes : Nodes) (xs : List Text) → AreFirst p q names r xs → (ns : List Note) (used : ℕ) (s : List Entry) → SoFar p q r ns used s →
      length xs ≤ length (printed_of ns) → length (printed_of ns) ≤ length xs + 1 → IsNumber nodes →
      QueryTells p q names r nodes (xs ++ codes "stopped: nodes" ∷ []) true
  too_few nodes xs f ns used s so least most number = few ns used s xs so (f ns used s so least) most number refl

  -- nothing begins what a query prints
  pub nothing_begins : (nodes : Nodes) → QueryBegins p q names r nodes []
  nothing_begins nodes = by_budget (passed p r 0 (first_branch q)) refl
    where
      by_budget : (w : Option Budget) → passed p r 0 (first_branch q) ≡ w → QueryBegins p q names r nodes []
      by_budget None e =
          so_far (Made (first_branch q) ∷ []) 0 _ [] (record { begins = e; rest = []; goes = here; is = refl }) no_lines ([], refl)
      by_budget (Some w) e = of_all (end_text (Stopped w) [] ∷ []) true (said (all [] (Stopped w) [] (stopped w e) no_lines refl refl)) (_, refl)

  -- the lines of the answers so far
  pub lines_begin : (nodes : Nodes) (xs : List Text) → AreFirst p q names r xs → (ns : List Note) (used : ℕ) (s : List Entry) → SoFar p q r ns used s →
      length (printed_of ns) ≡ length xs → (text : Text) → IsPrefix text (lines_text xs) → QueryBegins p q names r nodes text
  lines_begin nodes xs f ns used s so n text prefix = so_far ns used s xs so (lines_of xs f ns used s so n) prefix
