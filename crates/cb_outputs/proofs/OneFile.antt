-- Each text is read as one thing, and each file and input is accepted or refused in one way.
use Rattle.std.proofs.Common.{◌≡◌, ◌⊎◌, inl, inr, ℕ, zero, suc, ◌<◌, ◌≤◌, Bool, true, false, List, [], ◌∷◌, ◌++◌, length, take, drop, refl, sym, ◌∙◌, ap, subst, arith, append_assoc}
use Rattle.std.proofs.lemmas.Bool.{cases_order}
use Rattle.std.specs.Prelude.{Option, Some, None, MatchBool, codes}
use Rattle.std.specs.List.{list_any}
use Rattle.cb_model.specs.Text.{Text}
use Rattle.cb_model.specs.Tokens.{Token, Fault, Lexes}
use Rattle.cb_model.specs.Grammar.{nest, nestings, ReadsAll, CanGoOn, FirstWrong, FirstDeep, Reading, Whole, Lexed, Syntax, Unfinished, Deep, IsReading, whole, lexed, syntax_at, deep_at, unfinished, ReadsClause, ReadsQuery, FormClause, Directive, Rule, FormQuery, line_of, clause_start}
use Rattle.cb_model.specs.Directives.{Sign, Declared, directives, heads, Refusal, Twice, Unknown, SortClash}
use Rattle.cb_model.specs.Sorts.{Body, Clash}
use Rattle.cb_model.specs.Loading.{is_taken, goal_unknown, BodyRefusal, body_of, query_body, RulesRefusal, none, skip, directive, passes, refused, module_names}
use Rattle.cb_model.specs.Facts.{Circuits, FactRefusal, FactsRead, no_circuits}
use Rattle.cb_model.specs.Refusals.{Refused, refused as refusal, file_too_long}
use Rattle.cb_model.specs.Output.{reading_refused, sort_refused, fact_refused, Loaded, IsLoaded, FileRefused, long, unread, directive as bad_directive, rule, a_fact, QueriesRefusal, none as no_query, passes as query_passes, stops, InputRefused, long as long_input, unread as unread_input, sorts}
use Rattle.cb_outputs.specs.Ones.{FileIsOne, HasQueries, InputIsOne}
use Rattle.cb_lex.proofs.OneList.{one_list}
use Rattle.cb_laws.proofs.OneReading.{clauses_are_one, queries_are_one}
use Rattle.cb_laws.proofs.OneFacts.{facts-are-one}

-- ---- readings

-- the first tokens and those behind them are the tokens
parted : (n : ℕ) (ts : List Token) → take n ts ++ drop n ts ≡ ts
parted zero ts = refl
parted (suc n) [] = refl
parted (suc n) (t ∷ ts) = ap (λ us. t ∷ us) (parted n ts)

fewer : (k n : ℕ) (ts : List Token) → k ≤ n → take k (take n ts) ≡ take k ts
fewer zero n ts l = refl
fewer (suc k) zero ts l = absurd (omega (arith, l))
fewer (suc k) (suc n) [] l = refl
fewer (suc k) (suc n) (t ∷ ts) l = ap (λ us. t ∷ us) (fewer k n ts (omega (arith, l)))

nestings_long : (ns : List ℕ) (ts : List Token) → length (nestings ns ts) ≡ length ts
nestings_long ns [] = refl
nestings_long ns (t ∷ ts) = ap suc (nestings_long (nest t.kind ts ns) ts)

module _ (A : Type 0) (R : List Token → List Token → A → Type 0) where
  -- what can go on could go on before
  went_on : (k : ℕ) (ts : List Token) → CanGoOn R ts → CanGoOn R (take k ts)
  went_on k ts g =
      let e : ts ++ g.0 ≡ take k ts ++ (drop k ts ++ g.0) = ap (λ us. us ++ g.0) (sym (parted k ts)) ∙ append_assoc (take k ts) (drop k ts) g.0 in
      (drop k ts ++ g.0, g.1, subst (λ us. ReadsAll R us g.1) e g.2)

  went_less : (k n : ℕ) (ts : List Token) → k ≤ n → CanGoOn R (take n ts) → CanGoOn R (take k ts)
  went_less k n ts l g = subst (CanGoOn R) (fewer k n ts l) (went_on k (take n ts) g)

  text_goes : (ts : List Token) (xs : List A) → ReadsAll R ts xs → CanGoOn R ts
  text_goes ts xs r = ([], xs, subst (λ us. ReadsAll R us xs) (sym (append_nil ts)) r)
    where
      append_nil : (us : List Token) → us ++ [] ≡ us
      append_nil [] = refl
      append_nil (u ∷ us) = ap (λ vs. u ∷ vs) (append_nil us)

  wrong_one : (ts : List Token) (j k : ℕ) → FirstWrong R ts j → FirstWrong R ts k → j ≡ k
  wrong_one ts j k a b = elim (cases_order j k) [
    | inl e ↦ e
    | inr (inl l) ↦ absurd (a.wrong (went_less (suc j) k ts (omega (arith, l)) b.before))
    | inr (inr l) ↦ absurd (b.wrong (went_less (suc k) j ts (omega (arith, l)) a.before))
  ]

  deep_one : (ts : List Token) (j k : ℕ) → FirstDeep ts j → FirstDeep ts k → j ≡ k
  deep_one ts j k a b = elim (cases_order j k) [
    | inl e ↦ e
    | inr (inl l) ↦ absurd (let h = b.before j l in let e = a.deep in omega (arith, h, e))
    | inr (inr l) ↦ absurd (let h = a.before k l in let e = b.deep in omega (arith, h, e))
  ]

  -- a reading of the tokens of a text without a fault
  data Read (ts : List Token) : Reading A → Type 0 where
    read_whole : (xs : List A) → ReadsAll R ts xs → ((k : ℕ) → FirstDeep ts k → ⊥) → Read ts (Whole xs)
    read_wrong : (k : ℕ) → FirstWrong R ts k → ((j : ℕ) → FirstDeep ts j → k ≤ j) → Read ts (Syntax (line_of ts k))
    read_deep : (k : ℕ) → FirstDeep ts k → CanGoOn R (take (suc k) ts) → Read ts (Deep (line_of ts k))
    read_unfinished : CanGoOn R ts → ((xs : List A) → ReadsAll R ts xs → ⊥) → ((k : ℕ) → FirstDeep ts k → ⊥) → Read ts (Unfinished (line_of ts (clause_start 0 ts 0 (length ts))))

  -- what the tokens and the fault of a text are read as
  abbrev Lexed_or : List Token → Option Fault → Reading A → Type 0
  Lexed_or ts None x = Read ts x
  Lexed_or ts (Some f) x = x ≡ Lexed f

  lexed_or : (source : Text) (x : Reading A) → IsReading R source x → (ts : List Token) × (f : Option Fault) × Lexes 0 1 source ts f × Lexed_or ts f x
  lexed_or source x (whole ts xs h r s) = (ts, None, h, read_whole xs r never)
    where
      never : (k : ℕ) → FirstDeep ts k → ⊥
      never k d =
          let l : k < length (nestings (0 ∷ []) ts) = (let w = d.within in let n = nestings_long (0 ∷ []) ts in omega (arith, w, n)) in
          let b = s k 0 l in
          let e = d.deep in
          absurd (omega (arith, b, e))
  lexed_or source x (lexed ts f h) = (ts, Some f, h, refl)
  lexed_or source x (syntax_at ts k h w b e) = (ts, None, h, subst (λ n. Read ts (Syntax n)) (sym e) (read_wrong k w b))
  lexed_or source x (deep_at ts k h d g e) = (ts, None, h, subst (λ n. Read ts (Deep n)) (sym e) (read_deep k d g))
  lexed_or source x (unfinished ts h g n d e) = (ts, None, h, subst (λ n. Read ts (Unfinished n)) (sym e) (read_unfinished g n d))

  module _ (one : (ts : List Token) (xs ys : List A) → ReadsAll R ts xs → ReadsAll R ts ys → xs ≡ ys) where
    read_one : (ts : List Token) (x y : Reading A) → Read ts x → Read ts y → x ≡ y
    read_one ts x y (read_whole xs r d) (read_whole ys s e) = ap Whole (one ts xs ys r s)
    read_one ts x y (read_whole xs r d) (read_wrong k w b) = absurd (w.wrong (went_on (suc k) ts (text_goes ts xs r)))
    read_one ts x y (read_whole xs r d) (read_deep k e g) = absurd (d k e)
    read_one ts x y (read_whole xs r d) (read_unfinished g n e) = absurd (n xs r)
    read_one ts x y (read_wrong k w b) (read_whole ys s e) = absurd (w.wrong (went_on (suc k) ts (text_goes ts ys s)))
    read_one ts x y (read_wrong k w b) (read_wrong j v c) = ap (λ i. Syntax (line_of ts i)) (wrong_one ts k j w v)
    read_one ts x y (read_wrong k w b) (read_deep j e g) = absurd (w.wrong (went_less (suc k) (suc j) ts (let l = b j e in omega (arith, l)) g))
    read_one ts x y (read_wrong k w b) (read_unfinished g n e) = absurd (w.wrong (went_on (suc k) ts g))
    read_one ts x y (read_deep k d g) (read_whole ys s e) = absurd (e k d)
    read_one ts x y (read_deep k d g) (read_wrong j v c) = absurd (v.wrong (went_less (suc j) (suc k) ts (let l = c k d in omega (arith, l)) g))
    read_one ts x y (read_deep k d g) (read_deep j e h) = ap (λ i. Deep (line_of ts i)) (deep_one ts k j d e)
    read_one ts x y (read_deep k d g) (read_unfinished h n e) = absurd (e k d)
    read_one ts x y (read_unfinished g n d) (read_whole ys s e) = absurd (n ys s)
    read_one ts x y (read_unfinished g n d) (read_wrong k w b) = absurd (w.wrong (went_on (suc k) ts g))
    read_one ts x y (read_unfinished g n d) (read_deep k e h) = absurd (d k e)
    read_one ts x y (read_unfinished g n d) (read_unfinished h m e) = refl

    lexed_one : (ts : List Token) (f : Option Fault) (x y : Reading A) → Lexed_or ts f x → Lexed_or ts f y → x ≡ y
    lexed_one ts None x y r s = read_one ts x y r s
    lexed_one ts (Some f) x y r s = r ∙ sym s

    reading_one : (source : Text) (x y : Reading A) → IsReading R source x → IsReading R source y → x ≡ y
    reading_one source x y h k =
        let a = lexed_or source x h in
        let b = lexed_or source y k in
        let same = one_list a.2 b.2 in
        lexed_one a.0 a.1 x y a.3 (subst (λ us. Lexed_or us a.1 y) (sym same.0) (subst (λ f. Lexed_or b.0 f y) (sym same.1) b.3))

pub clauses_one : (source : Text) (x y : Reading FormClause) → IsReading ReadsClause source x → IsReading ReadsClause source y → x ≡ y
clauses_one = reading_one FormClause ReadsClause clauses_are_one

pub queries_one : (source : Text) (x y : Reading FormQuery) → IsReading ReadsQuery source x → IsReading ReadsQuery source y → x ≡ y
queries_one = reading_one FormQuery ReadsQuery queries_are_one

-- ---- refusals of rules and queries

pub body_one : (d : Declared) (hs : List Sign) (ms : List (Option Text)) (b : Body) (r s : Option Refusal) → BodyRefusal d hs ms b r → BodyRefusal d hs ms b s → r ≡ s
body_one d hs ms b r s h k = step (is_taken b.head) (list_any (goal_unknown d hs ms) b.goals) h k
  where
    step : (t u : Bool) → MatchBool t (r ≡ Some Twice) (MatchBool u (r ≡ Some Unknown) ((Clash d b × (r ≡ Some SortClash)) ⊎ ((Clash d b → ⊥) × (r ≡ None)))) →
        MatchBool t (s ≡ Some Twice) (MatchBool u (s ≡ Some Unknown) ((Clash d b × (s ≡ Some SortClash)) ⊎ ((Clash d b → ⊥) × (s ≡ None)))) → r ≡ s
    step true u h k = h ∙ sym k
    step false true h k = h ∙ sym k
    step false false (inl h) (inl k) = h.1 ∙ sym k.1
    step false false (inl h) (inr k) = absurd (k.0 h.0)
    step false false (inr h) (inl k) = absurd (h.0 k.0)
    step false false (inr h) (inr k) = h.1 ∙ sym k.1

-- a body isn't refused and accepted
body_either : (d : Declared) (hs : List Sign) (ms : List (Option Text)) (b : Body) (r : Refusal) → BodyRefusal d hs ms b None → BodyRefusal d hs ms b (Some r) → ⊥
body_either d hs ms b r h k = let e = body_one d hs ms b None (Some r) h k in cc

either : {b : Bool} → b ≡ true → b ≡ false → ⊥
either e f = cc

module _ (d : Declared) (hs : List Sign) (ms : List (Option Text)) where
  rules_one : (cs : List FormClause) (r s : Option (Refusal × ℕ)) → RulesRefusal d hs ms cs r → RulesRefusal d hs ms cs s → r ≡ s
  rules_one [] r s none none = refl
  rules_one (Directive n x fs ∷ cs) r s (skip e h) k = absurd (cc)
  rules_one (Directive n x fs ∷ cs) r s (directive h) (skip e k) = absurd (cc)
  rules_one (Directive n x fs ∷ cs) r s (directive h) (directive k) = rules_one cs r s h k
  rules_one (Rule n f b gs ∷ cs) r s (skip e h) (skip i k) = rules_one cs r s h k
  rules_one (Rule n f b gs ∷ cs) r s (skip e h) (passes i c k) = absurd (either e i)
  rules_one (Rule n f b gs ∷ cs) r s (skip e h) (refused i c) = absurd (either e i)
  rules_one (Rule n f b gs ∷ cs) r s (passes e c h) (skip i k) = absurd (either i e)
  rules_one (Rule n f b gs ∷ cs) r s (passes e c h) (passes i j k) = rules_one cs r s h k
  rules_one (Rule n f b gs ∷ cs) r s (passes e c h) (refused {r = z} i j) = absurd (body_either d hs ms (body_of f gs) z c j)
  rules_one (Rule n f b gs ∷ cs) r s (refused e c) (skip i k) = absurd (either i e)
  rules_one (Rule n f b gs ∷ cs) r s (refused {r = z} e c) (passes i j k) = absurd (body_either d hs ms (body_of f gs) z j c)
  rules_one (Rule n f b gs ∷ cs) r s (refused {r = y} e c) (refused {r = z} i j) = ap (λ o. with_line o) (body_one d hs ms (body_of f gs) (Some y) (Some z) c j)
    where
      with_line : Option Refusal → Option (Refusal × ℕ)
      with_line None = None
      with_line (Some x) = Some (x, n)

pub refusal_one : (l : Loaded) (qs : List FormQuery) (r s : Option (Refusal × ℕ)) → QueriesRefusal l qs r → QueriesRefusal l qs s → r ≡ s
refusal_one l [] r s no_query no_query = refl
refusal_one l (q ∷ qs) r s (query_passes c h) (query_passes j k) = refusal_one l qs r s h k
refusal_one l (q ∷ qs) r s (query_passes c h) (stops {r = z} j) = absurd (body_either l.declared (heads l.clauses) (module_names l.clauses) (query_body q.goals) z c j)
refusal_one l (q ∷ qs) r s (stops {r = z} c) (query_passes j k) = absurd (body_either l.declared (heads l.clauses) (module_names l.clauses) (query_body q.goals) z j c)
refusal_one l (q ∷ qs) r s (stops {r = y} c) (stops {r = z} j) = ap (λ o. with_line o) (body_one l.declared (heads l.clauses) (module_names l.clauses) (query_body q.goals) (Some y) (Some z) c j)
  where
    with_line : Option Refusal → Option (Refusal × ℕ)
    with_line None = None
    with_line (Some x) = Some (x, q.line)

-- ---- the file

-- a file is refused, or it holds what it holds
abbrev pub FileAnswers : Text → Refused ⊎ Loaded → Type 0
FileAnswers file (inl r) = FileRefused file r
FileAnswers file (inr l) = IsLoaded file l

module _ (cs : List FormClause) (d : Declared) where
  abbrev AfterFacts : Option (FactRefusal × ℕ) → Circuits → Refused ⊎ Loaded → Type 0
  AfterFacts (Some e) c a = a ≡ inl (fact_refused e)
  AfterFacts None c a = a ≡ inr (record { clauses = cs; declared = d; circuits = c })

  abbrev AfterRules : Option (Refusal × ℕ) → Refused ⊎ Loaded → Type 0
  AfterRules (Some e) a = a ≡ inl (sort_refused e)
  AfterRules None a = (o : Option (FactRefusal × ℕ)) × (c : Circuits) × FactsRead no_circuits cs o c × AfterFacts o c a

  facts_say_one : (o p : Option (FactRefusal × ℕ)) (b c : Circuits) (x y : Refused ⊎ Loaded) → o ≡ p → b ≡ c → AfterFacts o b x → AfterFacts p c y → x ≡ y
  facts_say_one (Some e) p b c x y i j h k = h ∙ sym (subst (λ z. AfterFacts z c y) (sym i) k)
  facts_say_one None p b c x y i j h k = h ∙ ap (λ z. inr (record { clauses = cs; declared = d; circuits = z })) j ∙ sym (subst (λ z. AfterFacts z c y) (sym i) k)

  rules_say_one : (o p : Option (Refusal × ℕ)) (x y : Refused ⊎ Loaded) → o ≡ p → AfterRules o x → AfterRules p y → x ≡ y
  rules_say_one (Some e) p x y i h k = h ∙ sym (subst (λ z. AfterRules z y) (sym i) k)
  rules_say_one None p x y i h k =
      let l : AfterRules None y = subst (λ z. AfterRules z y) (sym i) k in
      let same = facts-are-one h.2 l.2 in
      facts_say_one h.0 l.0 h.1 l.1 x y same.0 same.1 h.3 l.3

-- the directives are refused, or they declare something and the rules come next
abbrev AfterReading : List FormClause → Refused ⊎ Loaded → Type 0
AfterReading cs a =
    ((e : Refusal × ℕ) × ((directives cs).refusal ≡ Some e) × (a ≡ inl (sort_refused e))) ⊎
    ((d : Declared) × (directives cs ≡ record { refusal = None; declared = d }) × (o : Option (Refusal × ℕ)) × RulesRefusal d (heads cs) (module_names cs) cs o × AfterRules cs d o a)

clauses_say_one : (cs : List FormClause) (x y : Refused ⊎ Loaded) → AfterReading cs x → AfterReading cs y → x ≡ y
clauses_say_one cs x y (inl h) (inl k) = h.2 ∙ ap (λ e. inl (sort_refused e)) (same_some h.0 k.0 (sym h.1 ∙ k.1)) ∙ sym k.2
  where
    same_some : (e f : Refusal × ℕ) → Some e ≡ Some f → e ≡ f
    same_some e f i = cc
clauses_say_one cs x y (inl h) (inr k) = let e = sym h.1 ∙ ap (λ c. c.refusal) k.1 in absurd (cc)
clauses_say_one cs x y (inr h) (inl k) = let e = sym k.1 ∙ ap (λ c. c.refusal) h.1 in absurd (cc)
clauses_say_one cs x y (inr h) (inr k) =
    let d : h.0 ≡ k.0 = ap (λ c. c.declared) (sym h.1 ∙ k.1) in
    let rules : RulesRefusal h.0 (heads cs) (module_names cs) cs k.2 = subst (λ e. RulesRefusal e (heads cs) (module_names cs) cs k.2) (sym d) k.3 in
    rules_say_one cs h.0 h.2 k.2 x y (rules_one h.0 (heads cs) (module_names cs) cs h.2 k.2 h.3 rules) h.4 (subst (λ e. AfterRules cs e k.2 y) (sym d) k.4)

-- the text is too long, or it is read as something
abbrev AfterLength : Text → Refused ⊎ Loaded → Type 0
AfterLength file a =
    ((4194304 < length file) × (a ≡ inl file_too_long)) ⊎
    ((length file ≤ 4194304) × (x : Reading FormClause) × IsReading ReadsClause file x ×
    (((r : Refused) × (reading_refused x ≡ Some r) × (a ≡ inl r)) ⊎ ((cs : List FormClause) × (x ≡ Whole cs) × AfterReading cs a)))

file_says_so : (file : Text) (a : Refused ⊎ Loaded) → FileAnswers file a → AfterLength file a
file_says_so file (inl r) (long l) = inl (l, refl)
file_says_so file (inl r) (unread x l h e) = inr (l, x, h, inl (r, e, refl))
file_says_so file (inl r) (bad_directive cs e l h i s) = inr (l, Whole cs, h, inr (cs, refl, inl (e, i, ap inl s)))
file_says_so file (inl r) (rule cs d e l h i q s) = inr (l, Whole cs, h, inr (cs, refl, inr (d, i, Some e, q, ap inl s)))
file_says_so file (inl r) (a_fact cs d e c l h i q f s) = inr (l, Whole cs, h, inr (cs, refl, inr (d, i, None, q, (Some e, c, f, ap inl s))))
file_says_so file (inr l) h = inr (h.short, Whole l.clauses, h.reading, inr (l.clauses, refl, inr (l.declared, h.declares, None, h.rules, (None, l.circuits, h.facts, refl))))

module _ {A : Type 0} where
  whole_same : (xs ys : List A) → Whole xs ≡ Whole ys → xs ≡ ys
  whole_same xs ys e = ap list_in e
    where
      list_in : Reading A → List A
      list_in (Whole zs) = zs
      list_in _ = xs

  unread_whole : (x : Reading A) (xs : List A) (r : Refused) → x ≡ Whole xs → reading_refused x ≡ Some r → ⊥
  unread_whole x xs r e h = let k = sym (ap reading_refused e) ∙ h in cc

  same_refusal : (x y : Reading A) (r s : Refused) → x ≡ y → reading_refused x ≡ Some r → reading_refused y ≡ Some s → r ≡ s
  same_refusal x y r s e h k = let i = sym h ∙ ap reading_refused e ∙ k in cc

-- a file is refused in one way, or it holds one thing
pub file_answer : (file : Text) (x y : Refused ⊎ Loaded) → FileAnswers file x → FileAnswers file y → x ≡ y
file_answer file x y h k = step (file_says_so file x h) (file_says_so file y k)
  where
    step : AfterLength file x → AfterLength file y → x ≡ y
    step (inl a) (inl b) = a.1 ∙ sym b.1
    step (inl a) (inr b) = absurd (let l = a.0 in let m = b.0 in omega (arith, l, m))
    step (inr a) (inl b) = absurd (let l = a.0 in let m = b.0 in omega (arith, l, m))
    step (inr (l, v, i, inl a)) (inr (m, w, j, inl b)) = a.2 ∙ ap inl (same_refusal v w a.0 b.0 (clauses_one file v w i j) a.1 b.1) ∙ sym b.2
    step (inr (l, v, i, inl a)) (inr (m, w, j, inr b)) = absurd (unread_whole v b.0 a.0 (clauses_one file v w i j ∙ b.1) a.1)
    step (inr (l, v, i, inr a)) (inr (m, w, j, inl b)) = absurd (unread_whole w a.0 b.0 (clauses_one file w v j i ∙ a.1) b.1)
    step (inr (l, v, i, inr a)) (inr (m, w, j, inr b)) =
        let e : a.0 ≡ b.0 = whole_same a.0 b.0 (sym a.1 ∙ clauses_one file v w i j ∙ b.1) in
        clauses_say_one a.0 x y a.2 (subst (λ cs. AfterReading cs y) (sym e) b.2)

-- two sides of a sum
module _ {A B : Type 0} where
  same_left : (x y : A) → ◌≡◌ {A = A ⊎ B} (inl x) (inl y) → x ≡ y
  same_left x y e = ap first e
    where
      first : A ⊎ B → A
      first (inl z) = z
      first (inr z) = x

  same_right : (x y : B) → ◌≡◌ {A = A ⊎ B} (inr x) (inr y) → x ≡ y
  same_right x y e = ap second e
    where
      second : A ⊎ B → B
      second (inl z) = x
      second (inr z) = z

pub file_one : FileIsOne
file_one file = (
  λ r s h k. same_left r s (file_answer file (inl r) (inl s) h k),
  λ l m h k. same_right l m (file_answer file (inr l) (inr m) h k),
  λ r l h k. let e = file_answer file (inl r) (inr l) h k in cc,
)

-- ---- the input

-- an input is refused, or it has its queries
abbrev pub InputAnswers : Loaded → Text → Refused ⊎ List FormQuery → Type 0
InputAnswers l input (inl r) = InputRefused l input r
InputAnswers l input (inr qs) = HasQueries l input qs

module _ (l : Loaded) (input : Text) where
  abbrev at_query : Refused → Refused
  at_query r = record r { place = codes "query " ++ r.place }

  abbrev AfterQueries : List FormQuery → Option (Refusal × ℕ) → Refused ⊎ List FormQuery → Type 0
  AfterQueries qs (Some e) a = a ≡ inl (at_query (sort_refused e))
  AfterQueries qs None a = a ≡ inr qs

  abbrev AfterInput : Refused ⊎ List FormQuery → Type 0
  AfterInput a =
      ((1048576 < length input) × (a ≡ inl (refusal 20 [] (codes "input too long")))) ⊎
      ((length input ≤ 1048576) × (x : Reading FormQuery) × IsReading ReadsQuery input x ×
      (((r : Refused) × (reading_refused x ≡ Some r) × (a ≡ inl (at_query r))) ⊎
      ((qs : List FormQuery) × (x ≡ Whole qs) × (o : Option (Refusal × ℕ)) × QueriesRefusal l qs o × AfterQueries qs o a)))

  input_says_so : (a : Refused ⊎ List FormQuery) → InputAnswers l input a → AfterInput a
  input_says_so (inl r) (long_input h) = inl (h, refl)
  input_says_so (inl r) (unread_input {r = s} x h i e) = inr (h, x, i, inl (s, e, refl))
  input_says_so (inl r) (sorts qs e h i q s) = inr (h, Whole qs, i, inr (qs, refl, Some e, q, ap (λ z. inl (at_query z)) s))
  input_says_so (inr qs) h = inr (h.0, Whole qs, h.1, inr (qs, refl, None, h.2, refl))

  queries_say_one : (qs : List FormQuery) (o p : Option (Refusal × ℕ)) (x y : Refused ⊎ List FormQuery) → o ≡ p → AfterQueries qs o x → AfterQueries qs p y → x ≡ y
  queries_say_one qs (Some e) p x y i h k = h ∙ sym (subst (λ z. AfterQueries qs z y) (sym i) k)
  queries_say_one qs None p x y i h k = h ∙ sym (subst (λ z. AfterQueries qs z y) (sym i) k)

  -- an input is refused in one way, or it has one list of queries
  pub input_answer : (x y : Refused ⊎ List FormQuery) → InputAnswers l input x → InputAnswers l input y → x ≡ y
  input_answer x y h k = step (input_says_so x h) (input_says_so y k)
    where
      step : AfterInput x → AfterInput y → x ≡ y
      step (inl a) (inl b) = a.1 ∙ sym b.1
      step (inl a) (inr b) = absurd (let l = a.0 in let m = b.0 in omega (arith, l, m))
      step (inr a) (inl b) = absurd (let l = a.0 in let m = b.0 in omega (arith, l, m))
      step (inr (l, v, i, inl a)) (inr (m, w, j, inl b)) = a.2 ∙ ap (λ r. inl (at_query r)) (same_refusal v w a.0 b.0 (queries_one input v w i j) a.1 b.1) ∙ sym b.2
      step (inr (l, v, i, inl a)) (inr (m, w, j, inr b)) = absurd (unread_whole v b.0 a.0 (queries_one input v w i j ∙ b.1) a.1)
      step (inr (l, v, i, inr a)) (inr (m, w, j, inl b)) = absurd (unread_whole w a.0 b.0 (queries_one input w v j i ∙ a.1) b.1)
      step (inr (n, v, i, inr a)) (inr (m, w, j, inr b)) =
          let e : a.0 ≡ b.0 = whole_same a.0 b.0 (sym a.1 ∙ queries_one input v w i j ∙ b.1) in
          let r : QueriesRefusal l a.0 b.2 = subst (λ qs. QueriesRefusal l qs b.2) (sym e) b.3 in
          queries_say_one a.0 a.2 b.2 x y (refusal_one l a.0 a.2 b.2 a.3 r) a.4 (subst (λ qs. AfterQueries qs b.2 y) (sym e) b.4)

pub input_one : InputIsOne
input_one l input = (
  λ r s h k. same_left r s (input_answer l input (inl r) (inl s) h k),
  λ qs rs h k. same_right qs rs (input_answer l input (inr qs) (inr rs) h k),
  λ r qs h k. let e = input_answer l input (inl r) (inr qs) h k in cc,
)
