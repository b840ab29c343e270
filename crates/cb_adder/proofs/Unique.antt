-- A text that is accepted is loaded in one way, and a file of facts alone is refused in none then.
use Rattle.std.proofs.Common.{◌≡◌, ℕ, suc, ◌<◌, ◌≤◌, Bool, true, false, ◌&&◌, List, [], ◌∷◌, length, take, drop, get_or, Option, Some, None, refl, sym, ◌∙◌, ap, subst, arith}
use Rattle.std.specs.Prelude.{All}
use Rattle.std.specs.List.{list_all}
use Rattle.std.proofs.lemmas.List.{take-append-drop}
use Rattle.std.proofs.lemmas.List.Elements.{All-get_or}
use Rattle.cb_model.specs.Text.{Text}
use Rattle.cb_model.specs.Tokens.{Token}
use Rattle.cb_model.specs.Grammar.{FormClause, Directive, Rule, ReadsClause, ReadsAll, CanGoOn, nest, nestings, Reading, Whole, IsReading, whole, lexed, syntax_at, deep_at, unfinished}
use Rattle.cb_model.specs.Directives.{Sign, Declared, Refusal, Checked, directives}
use Rattle.cb_model.specs.Loading.{is_fact, RulesRefusal}
use Rattle.cb_model.specs.Loading as load
use Rattle.cb_model.specs.Facts.{FactsRead, no_circuits}
use Rattle.cb_model.specs.Refusals.{Refused}
use Rattle.cb_model.specs.Output.{Loaded, IsLoaded, reading_refused, FileRefused, long, unread, directive, rule, a_fact}
use Rattle.cb_laws.proofs.OneReading.{clauses_are_one}
use Rattle.cb_laws.proofs.OneFacts.{facts-are-one}
use Rattle.cb_lex.proofs.OneList.{one_list}

-- ---- one reading

same-clauses : (file : Text) (xs ys : List FormClause) → IsReading ReadsClause file (Whole xs) → IsReading ReadsClause file (Whole ys) → xs ≡ ys
same-clauses file xs ys (whole ts vs l r d) (whole us ws k q e) =
    let same = (one_list l k).0 in
    clauses_are_one us xs ys (subst (λ (zs : List Token). ReadsAll ReadsClause zs xs) same r) q

-- the tokens of a whole text can go on after each of them
goes-on : (ts : List Token) (xs : List FormClause) (k : ℕ) → ReadsAll ReadsClause ts xs → CanGoOn ReadsClause (take k ts)
goes-on ts xs k r = (drop k ts, xs, subst (λ (zs : List Token). ReadsAll ReadsClause zs xs) (sym (take-append-drop k ts)) r)

nestings-long : (ns : List ℕ) (ts : List Token) → length (nestings ns ts) ≡ length ts
nestings-long ns [] = refl
nestings-long ns (t ∷ ts) = ap suc (nestings-long (nest t.kind ts ns) ts)

-- a whole text has no refusal
not-unread : (file : Text) (xs : List FormClause) (x : Reading FormClause) (r : Refused) → IsReading ReadsClause file (Whole xs) → IsReading ReadsClause file x → reading_refused x ≡ Some r → ⊥
not-unread file xs x r (whole ts vs l a d) (whole us ws k q e) h = absurd (cc)
not-unread file xs x r (whole ts vs l a d) (lexed us f k) h = let same = (one_list l k).1 in absurd (cc)
not-unread file xs x r (whole ts vs l a d) (syntax_at us k lx wrong before e) h =
    wrong.wrong (goes-on us xs (suc k) (subst (λ (zs : List Token). ReadsAll ReadsClause zs xs) (one_list l lx).0 a))
not-unread file xs x r (whole ts vs l a d) (deep_at us k lx deep can e) h =
    let same = (one_list l lx).0 in
    let shallow : All (λ n. n < 257) (nestings (0 ∷ []) us) = subst (λ (zs : List Token). All (λ n. n < 257) (nestings (0 ∷ []) zs)) same d in
    let long : length (nestings (0 ∷ []) us) ≡ length us = nestings-long (0 ∷ []) us in
    let inside : k < length us = deep.within in
    let at : get_or (nestings (0 ∷ []) us) k 0 < 257 = All-get_or (λ n. n < 257) (nestings (0 ∷ []) us) k 0 (omega (arith, long, inside)) shallow in
    let is : get_or (nestings (0 ∷ []) us) k 0 ≡ 257 = deep.deep in
    omega (arith, at, is)
not-unread file xs x r (whole ts vs l a d) (unfinished us lx can lost deep e) h = lost xs (subst (λ (zs : List Token). ReadsAll ReadsClause zs xs) (one_list l lx).0 a)

-- ---- one loading

pub loaded-one : (file : Text) (l k : Loaded) → IsLoaded file l → IsLoaded file k → l.circuits ≡ k.circuits
loaded-one file l k a b =
    let same : l.clauses ≡ k.clauses = same-clauses file l.clauses k.clauses a.reading b.reading in
    (facts-are-one a.facts (subst (λ cs. FactsRead no_circuits cs None k.circuits) (sym same) b.facts)).1

-- ---- facts have no refusal of rules

never : {A : Type 0} → false ≡ true → A
never e = absurd (cc)

tail-all : (a b : Bool) → (a && b) ≡ true → b ≡ true
tail-all true b e = e
tail-all false b e = never e

head-all : (a b : Bool) → (a && b) ≡ true → a ≡ true
head-all true b e = refl
head-all false b e = never e

facts-pass : {d : Declared} {hs : List Sign} {ms : List (Option Text)} (cs : List FormClause) (r : Option (Refusal × ℕ)) → list_all is_fact cs ≡ true → RulesRefusal d hs ms cs r → r ≡ None
facts-pass [] r e load.none = refl
facts-pass (c ∷ cs) r e (load.skip f h) = facts-pass cs r (tail-all (is_fact c) (list_all is_fact cs) e) h
facts-pass (Directive n x fs ∷ cs) r e (load.directive h) = never e
facts-pass (Rule n f b gs ∷ cs) r e (load.passes q g h) = never (sym q ∙ head-all (is_fact (Rule n f b gs)) (list_all is_fact cs) e)
facts-pass (Rule n f b gs ∷ cs) r e (load.refused q g) = never (sym q ∙ head-all (is_fact (Rule n f b gs)) (list_all is_fact cs) e)

some-none : {A : Type 0} {x : A} → Some x ≡ None → ⊥
some-none e = absurd (cc)

-- an accepted file of facts alone isn't refused
pub not-refused : (file : Text) (l : Loaded) (r : Refused) → IsLoaded file l → list_all is_fact l.clauses ≡ true → FileRefused file r → ⊥
not-refused file l r a e (long h) = let s : length file ≤ 4194304 = a.short in omega (arith, s, h)
not-refused file l r a e (unread x s h q) = not-unread file l.clauses x r a.reading h q
not-refused file l r a e (directive cs f s h q p) =
    let same : l.clauses ≡ cs = same-clauses file l.clauses cs a.reading h in
    let none : (directives cs).refusal ≡ None = ap (λ (zs : List FormClause). (directives zs).refusal) (sym same) ∙ ap (λ (c : Checked). c.refusal) a.declares in
    some-none (sym q ∙ none)
not-refused file l r a e (rule cs d f s h q rules p) =
    let same : l.clauses ≡ cs = same-clauses file l.clauses cs a.reading h in
    some-none (facts-pass cs (Some f) (subst (λ (zs : List FormClause). list_all is_fact zs ≡ true) same e) rules)
not-refused file l r a e (a_fact cs d f c s h q rules facts p) =
    let same : l.clauses ≡ cs = same-clauses file l.clauses cs a.reading h in
    some-none (facts-are-one (subst (λ (zs : List FormClause). FactsRead no_circuits zs (Some f) c) (sym same) facts) a.facts).0
