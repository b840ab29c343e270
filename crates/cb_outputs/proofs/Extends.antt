-- What was written where a run broke off begins an output.
use Rattle.std.proofs.Common.{◌≡◌, inr, ℕ, ◌+◌, Bool, ◌||◌, List, [], ◌∷◌, ◌++◌, refl, sym, ◌∙◌, ap, subst, append_assoc}
use Rattle.std.specs.Prelude.{Option, None}
use Rattle.cb_model.specs.Bits.{Each}
use Rattle.cb_model.specs.Text.{Text, lines_text, IsPrefix}
use Rattle.cb_model.specs.Equations.{Solvable}
use Rattle.cb_model.specs.Grammar.{FormQuery}
use Rattle.cb_model.specs.Directives.{Refusal}
use Rattle.cb_model.specs.Program.{Program}
use Rattle.cb_model.specs.Derivation.{Branch, Query, Entry, Note, Made, End, Goes, here, on, Ends, Replaces, notes_of, resolutions_of, printed_of, first_branch, SoFar, Plain, runs, stopped}
use Rattle.cb_model.specs.Line.{Names}
use Rattle.cb_model.specs.Commands.{Nodes}
use Rattle.cb_model.specs.Output.{Loaded, IsLoaded, AreLines, no_lines, more_lines, QuerySays, all, end_text, is_stop, QueriesSay, more_queries, QueriesRefusal, passes, stops, run_outcome, CommandSays, QueriesBegin, within, in_last, behind, nothing_yet, begins, so_far}
use Rattle.cb_laws.specs.Laws.{NotesBegin}
use Rattle.cb_outputs.specs.Exists.{BeginningExtends}
use Rattle.cb_laws.proofs.Determined.{moves_one, replaces_one, ends_no_step}
use Rattle.cb_laws.proofs.Begins.{printed_append}
use Rattle.cb_outputs.proofs.Runs.{run_exists}
use Rattle.cb_outputs.proofs.Says.{lines_exist, printed_solvable}
use Rattle.cb_outputs.proofs.Runnings.{query_circuits, queries_say}
use Rattle.cb_outputs.proofs.Outputs.{output_exists}

-- ---- texts

lines_both : (xs ys : List Text) → lines_text (xs ++ ys) ≡ lines_text xs ++ lines_text ys
lines_both [] ys = refl
lines_both (x ∷ xs) ys = ap (λ t. x ++ (10 ∷ t)) (lines_both xs ys) ∙ sym (append_assoc x (10 ∷ lines_text xs) (lines_text ys))

prefix_more : (x y z : Text) → IsPrefix x y → IsPrefix x (y ++ z)
prefix_more x y z h = (h.0 ++ z, sym (append_assoc x h.0 z) ∙ ap (λ t. t ++ z) h.1)

prefix_front : (y x z : Text) → IsPrefix x z → IsPrefix (y ++ x) (y ++ z)
prefix_front y x z h = (h.0, append_assoc y x h.0 ∙ ap (λ t. y ++ t) h.1)

prefix_lines : (text : Text) (xs ys : List Text) → IsPrefix text (lines_text xs) → IsPrefix text (lines_text (xs ++ ys))
prefix_lines text xs ys h = subst (IsPrefix text) (sym (lines_both xs ys)) (prefix_more text (lines_text xs) (lines_text ys) h)

-- ---- the whole run of a query goes on from each beginning

covers : (p : Program) (budget used u v : ℕ) (s x y : List Entry) (ns ms : List Note) (end : End) → Goes p budget used s ns u x → Ends p budget u x end → Goes p budget used s ms v y → NotesBegin ms ns
covers p budget used u v s x y ns ms end g e here = (ns, refl)
covers p budget used u v (t ∷ s) x y ns ms end here e (on c es rest m f r i g) = absurd (ends_no_step p budget used t s end c e m f)
covers p budget used u v (t ∷ s) x y ns ms end (on c es rest m f r i g) e (on d es' rest' m' f' r' i' g') =
    let same : c ≡ d = moves_one p t c d m m' in
    let entries : es ≡ es' = replaces_one p d es es' (subst (λ k. Replaces p k es) same r) r' in
    let go : Goes p budget (used + resolutions_of d) (es' ++ s) rest u x = subst (λ k. Goes p budget (used + resolutions_of k) (es' ++ s) rest u x) same (subst (λ l. Goes p budget (used + resolutions_of c) (l ++ s) rest u x) entries g) in
    let both = covers p budget (used + resolutions_of d) u v (es' ++ s) x y rest rest' end go e g' in (
      both.0,
      i ∙ ap (λ k. notes_of k ++ rest) same ∙ ap (λ (l : List Note). notes_of d ++ l) both.1 ∙ sym (append_assoc (notes_of d) rest' both.0) ∙ ap (λ (l : List Note). l ++ both.0) (sym i'),
    )

whole_covers : (p : Program) (q : Query) (budget v : ℕ) (ns ms : List Note) (end : End) (y : List Entry) → Plain p q budget ns end → SoFar p q budget ms v y → NotesBegin ms ns
whole_covers p q budget v ns ms end y (runs u x f e) g =
    let h = covers p budget 0 u v _ x y f.rest g.rest end f.goes e g.goes in
    (h.0, f.is ∙ ap (λ (l : List Note). Made (first_branch q) ∷ l) h.1 ∙ ap (λ (l : List Note). l ++ h.0) (sym g.is))
whole_covers p q budget v ns ms end y (stopped w e) g = let h = g.begins in absurd (cc)

lines_join : (p : Program) (names : Names) (bs cs : List Branch) (xs ys : List Text) → AreLines p names bs xs → AreLines p names cs ys → AreLines p names (bs ++ cs) (xs ++ ys)
lines_join p names [] cs [] ys no_lines h = h
lines_join p names [] cs (x ∷ xs) ys a h = elim a [ ]
lines_join p names (b ∷ bs) cs [] ys a h = elim a [ ]
lines_join p names (b ∷ bs) cs (x ∷ xs) ys (more_lines i r) h = more_lines i (lines_join p names bs cs xs ys r h)

each_last : (P : Branch → Type 0) (xs ys : List Branch) → Each P (xs ++ ys) → Each P ys
each_last P [] ys h = h
each_last P (x ∷ xs) ys h = each_last P xs ys h.1

-- ---- the queries' texts

module _ (file : Text) (l : Loaded) (loaded : IsLoaded file l) (resolutions : ℕ) (nodes : Nodes) where
  -- a query whose first lines these are says something that begins with them
  query_goes_on : (x : FormQuery) (p : Program) (q : Query) (names : Names) (ns : List Note) (used : ℕ) (s : List Entry) (ls : List Text) → SoFar p q resolutions ns used s → AreLines p names (printed_of ns) ls →
      (ms : List Note) (end : End) → Plain p q resolutions ms end → (more : List Text) × (stop : Bool) × QuerySays p q names resolutions nodes (ls ++ more) stop
  query_goes_on x p q names ns used s ls f lines ms end plain =
      let more = whole_covers p q resolutions used ms ns end s plain f in
      let parts : printed_of ms ≡ printed_of ns ++ printed_of more.0 = ap printed_of more.1 ∙ printed_append ns more.0 in
      let P : Branch → Type 0 = λ b. Solvable p.world b.items in
      let last : Each P (printed_of more.0) = each_last P (printed_of ns) (printed_of more.0) (subst (Each P) parts (printed_solvable p q resolutions ms end plain)) in
      let ys = lines_exist p names (printed_of more.0) last in
      let whole : AreLines p names (printed_of ms) (ls ++ ys.0) = subst (λ (bs : List Branch). AreLines p names bs (ls ++ ys.0)) (sym parts) (lines_join p names (printed_of ns) (printed_of more.0) ls ys.0 lines ys.1) in (
        ys.0 ++ end_text end (ls ++ ys.0) ∷ [],
        is_stop end,
        all ms end (ls ++ ys.0) plain whole (sym (append_assoc ls ys.0 (end_text end (ls ++ ys.0) ∷ []))) refl,
      )

  goes_on : (qs : List FormQuery) (text : Text) (r : Option (Refusal × ℕ)) → r ≡ None → QueriesRefusal l qs r → QueriesBegin l resolutions nodes qs text →
      (lines : List Text) × (stop : Bool) × QueriesSay l resolutions nodes qs lines stop × IsPrefix text (lines_text lines)
  goes_on [] text r e h b = elim b [ ]
  goes_on (x ∷ xs) text r e (stops h) b = absurd (cc)
  goes_on (x ∷ xs) text r e (passes k h) (within p q names ns used s ls is f lines pre) =
      let c = query_circuits file l loaded x p q names is k in
      let run = run_exists p q resolutions c.0 c.1 in
      let first = query_goes_on x p q names ns used s ls f lines run.0 run.1 run.2 in
      let rest = queries_say file l loaded resolutions nodes xs r e h in (
        (ls ++ first.0) ++ rest.0,
        (first.1 || rest.1),
        more_queries p q names (ls ++ first.0) rest.0 first.1 rest.1 is first.2 rest.2 refl refl,
        prefix_lines text (ls ++ first.0) rest.0 (prefix_lines text ls first.0 pre),
      )
  goes_on (x ∷ xs) text r e (passes k h) (in_last p q names ls stop is says pre) =
      let rest = queries_say file l loaded resolutions nodes xs r e h in
      (ls ++ rest.0, (stop || rest.1), more_queries p q names ls rest.0 stop rest.1 is says rest.2 refl refl, prefix_lines text ls rest.0 pre)
  goes_on (x ∷ xs) text r e (passes k h) (behind p q names ls stop more is says b i) =
      let rest = goes_on xs more r e h b in (
        ls ++ rest.0,
        (stop || rest.1),
        more_queries p q names ls rest.0 stop rest.1 is says rest.2 refl refl,
        subst (λ (t : Text). IsPrefix t (lines_text (ls ++ rest.0))) (sym i) (subst (IsPrefix (lines_text ls ++ more)) (sym (lines_both ls rest.0)) (prefix_front (lines_text ls) more (lines_text rest.0) rest.3)),
      )

-- ---- the whole

pub beginning_extends : BeginningExtends
beginning_extends words file input text (nothing_yet e) =
    let o = output_exists words file input in
    (o.0, o.1, (o.2, subst (λ (t : Text). IsPrefix t o.0) (sym e) (o.0, refl)))
beginning_extends words file input text (begins whole answer o pre) = (whole, answer, (o, pre))
beginning_extends words file input text (so_far f resolutions nodes l qs command loaded short reading accepted b) =
    let r = goes_on file l loaded resolutions nodes qs text None refl accepted b in (
      lines_text r.0,
      run_outcome r.1,
      (
        record {
          lines = r.0;
          says = subst (λ c. CommandSays c file input r.0 (run_outcome r.1)) (sym command) (inr (l, (loaded, inr (qs, r.1, short, reading, accepted, r.2, refl))));
          is = refl;
        },
        r.3,
      ),
    )
