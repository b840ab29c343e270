-- The loops over queries: what is asked and told so far.
use Rattle.std.proofs.Common.{◌≡◌, ℕ, zero, suc, ◌+◌, ◌<◌, ◌≤◌, Bool, true, false, ◌&&◌, ◌||◌, List, [], ◌∷◌, ◌++◌, map, drop, get_or, add-one, length, Option, Some, refl, sym, ap, subst, ◌∙◌, arith, append_assoc, append-nil}
use Rattle.std.proofs.Math.Seq.{drop-cons}
use Rattle.std.proofs.lemmas.List.{drop_all}
use Rattle.std.specs.List.{list_all}
use Rattle.cb_model.specs.declared.RawQuery.{RawQuery}
use Rattle.cb_model.specs.Bits.{Each}
use Rattle.cb_model.specs.Forms.{query_form}
use Rattle.cb_model.specs.Written.{query_written}
use Rattle.cb_model.specs.declared.Outcome.{Outcome}
use Rattle.cb_model.specs.Text.{Text, lines_text}
use Rattle.cb_model.specs.Commands.{Nodes, budget_of}
use Rattle.cb_model.specs.Grammar.{FormClause, FormQuery}
use Rattle.cb_model.specs.Directives as dir
use Rattle.cb_model.specs.Directives.{Refusal, SortClash, Unknown, heads}
use Rattle.cb_model.specs.Loading.{query_body, module_names}
use Rattle.cb_model.specs.Outside.{Wrote}
use Rattle.cb_model.specs.Output.{QueriesRefusal, passes, stops}
use Rattle.cb_rules.specs.Refused.{RefusesBody}
use Rattle.cb_directives.specs.declared.fault.LoadError.{LoadError}
use Rattle.cb_directives.specs.declared.fault.LoadError.TheVariants as fault
use Rattle.cb_sorts.specs.Source.{Source}
use Rattle.cb_sorts.specs.Asked.{Asked, Asks}
use Rattle.cb_tell.specs.Told.{IsTold, BreaksOff}
use Rattle.cb_accept.specs.Refusals.{without_circuits}
use Rattle.cb_run.specs.Running.{TellsAsked, AllTell, no_lines, more_lines, AllBegin, within, behind, BreaksAfter, AllAsk, none_asked, more_asked, RefusesQueries}
use Rattle.cb_host.proofs.Writes.{Wrote-none, Wrote-then}

-- ---- what is asked

-- so many first queries are accepted, and this is what they ask
pub record AskedSoFar (cs : List FormClause) (s : Source) (qs left : List FormQuery) (ones : List Asked) : Type 0 where
  pub asks : (more : List Asked) → AllAsk cs s left more → AllAsk cs s qs (ones ++ more)
  pub refusal : (r : Option (Refusal × ℕ)) → QueriesRefusal (without_circuits cs s.declared) left r → QueriesRefusal (without_circuits cs s.declared) qs r

pub asked-none : (cs : List FormClause) (s : Source) (qs : List FormQuery) (ones : List Asked) → ones ≡ [] → AskedSoFar cs s qs qs ones
asked-none cs s qs ones e = subst (AskedSoFar cs s qs qs) (sym e) (record { asks = λ more h. h; refusal = λ r h. h })

pub asked-more : (cs : List FormClause) (s : Source) (qs : List FormQuery) (q : FormQuery) (left : List FormQuery) (ones : List Asked) (a : Asked) → AskedSoFar cs s qs (q ∷ left) ones →
    Asks s.declared (heads cs) s.names (module_names cs) q.goals a → AskedSoFar cs s qs left (ones ++ a ∷ [])
asked-more cs s qs q left ones a so k = record {
  asks = λ more h. subst (AllAsk cs s qs) (sym (append_assoc ones (a ∷ []) more)) (so.asks (a ∷ more) (more_asked k h));
  refusal = λ r h. so.refusal r (passes k.accepted h);
}

pub asked-all : (cs : List FormClause) (s : Source) (qs : List FormQuery) (ones : List Asked) → AskedSoFar cs s qs [] ones → AllAsk cs s qs ones
asked-all cs s qs ones so = subst (AllAsk cs s qs) (append-nil ones) (so.asks [] none_asked)

pub refuses-one : (cs : List FormClause) (s : Source) (qs : List FormQuery) (q : FormQuery) (left : List FormQuery) (ones : List Asked) (e : LoadError) → AskedSoFar cs s qs (q ∷ left) ones →
    RefusesBody s.declared (heads cs) (module_names cs) (query_body q.goals) q.line e → RefusesQueries (without_circuits cs s.declared) qs e
refuses-one cs s qs q left ones (fault.Directive n) so h = absurd h
refuses-one cs s qs q left ones (fault.SortClash n) so h = so.refusal _ (subst (λ m. QueriesRefusal (without_circuits cs s.declared) (q ∷ left) (Some (SortClash, m))) (sym h.0) (stops h.1))
refuses-one cs s qs q left ones (fault.Unknown n) so h = so.refusal _ (subst (λ m. QueriesRefusal (without_circuits cs s.declared) (q ∷ left) (Some (Unknown, m))) (sym h.0) (stops h.1))
refuses-one cs s qs q left ones (fault.Twice n) so h = so.refusal _ (subst (λ m. QueriesRefusal (without_circuits cs s.declared) (q ∷ left) (Some (dir.Twice, m))) (sym h.0) (stops h.1))
refuses-one cs s qs q left ones fault.Memory so h = tt

-- ---- what is told

text-append : (xs ys : List Text) → lines_text (xs ++ ys) ≡ lines_text xs ++ lines_text ys
text-append [] ys = refl
text-append (x ∷ xs) ys = ap (λ t. x ++ (10 ∷ t)) (text-append xs ys) ∙ sym (append_assoc x (10 ∷ lines_text xs) (lines_text ys))

or-assoc : (x y z : Bool) → (x || (y || z)) ≡ ((x || y) || z)
or-assoc true y z = refl
or-assoc false y z = refl

or-false : (x : Bool) → (x || false) ≡ x
or-false true = refl
or-false false = refl

module _ (s : Source) (resolutions : ℕ) (nodes : Nodes) (ones : List Asked) (start : Option Text) where
  -- so many first queries are told and their lines are written
  pub record ToldSoFar (left : List Asked) (now : Option Text) (stopped : Bool) : Type 0 where
    pub lines : List Text
    pub wrote : Wrote start now (lines_text lines)
    pub tells : (rest : List Text) (y : Bool) → AllTell s resolutions nodes left rest y → AllTell s resolutions nodes ones (lines ++ rest) (stopped || y)
    pub begins : (rest : Text) → AllBegin s resolutions nodes left rest → AllBegin s resolutions nodes ones (lines_text lines ++ rest)

  pub told-more : (a : Asked) (left : List Asked) (now then : Option Text) (stopped x : Bool) (ls : List Text) → ToldSoFar (a ∷ left) now stopped →
      TellsAsked s resolutions nodes a ls x → Wrote now then (lines_text ls) → ToldSoFar left then (stopped || x)
  told-more a left now then stopped x ls so k w = record {
    lines = so.lines ++ ls;
    wrote = subst (Wrote start then) (sym (text-append so.lines ls)) (Wrote-then start now then (lines_text so.lines) (lines_text ls) so.wrote w);
    tells = λ rest y h.
        subst (AllTell s resolutions nodes ones ((so.lines ++ ls) ++ rest)) (or-assoc stopped x y)
        (subst (λ u. AllTell s resolutions nodes ones u (stopped || (x || y))) (sym (append_assoc so.lines ls rest)) (so.tells (ls ++ rest) (x || y) (more_lines ls rest x y k h refl refl)));
    begins = λ rest h.
        subst (AllBegin s resolutions nodes ones) (sym (ap (λ t. t ++ rest) (text-append so.lines ls) ∙ append_assoc (lines_text so.lines) (lines_text ls) rest))
        (so.begins (lines_text ls ++ rest) (behind ls x rest k h refl));
  }

  pub told-all : (now : Option Text) (stopped : Bool) → ToldSoFar [] now stopped → (lines : List Text) × (AllTell s resolutions nodes ones lines stopped × Wrote start now (lines_text lines))
  told-all now stopped so = (
    so.lines,
    (
      subst (AllTell s resolutions nodes ones so.lines) (or-false stopped) (subst (λ u. AllTell s resolutions nodes ones u (stopped || false)) (append-nil so.lines) (so.tells [] false no_lines)),
      so.wrote,
    ),
  )

  pub told-breaks : (a : Asked) (left : List Asked) (now then : Option Text) (stopped : Bool) (o : Outcome) (budget : ℕ) → budget ≡ budget_of nodes → ToldSoFar (a ∷ left) now stopped →
      BreaksOff s a resolutions budget now then o → BreaksAfter (AllBegin s resolutions nodes ones) start then o
  told-breaks a left now then stopped o budget e so b = record {
    text = lines_text so.lines ++ b.text;
    beginning = so.begins b.text (within (b.begins nodes (sym e)));
    wrote = Wrote-then start now then (lines_text so.lines) b.text so.wrote b.wrote;
    cause = b.cause;
  }

pub told-none : (s : Source) (resolutions : ℕ) (nodes : Nodes) (ones : List Asked) (now : Option Text) → ToldSoFar s resolutions nodes ones now ones now false
told-none s resolutions nodes ones now = record { lines = []; wrote = Wrote-none now; tells = λ rest y h. h; begins = λ rest h. h }

-- ---- element by element

and-first : (x y : Bool) → (x && y) ≡ true → x ≡ true
and-first true y e = refl
and-first false y e = e

and-second : (x y : Bool) → (x && y) ≡ true → y ≡ true
and-second true y e = e
and-second false y e = absurd (cc)

pub next-of : {A : Type 0} (xs : List A) (x : A) (i : ℕ) → i < length xs → x ≡ get_or xs i x → drop i xs ≡ x ∷ drop (i + 1) xs
next-of xs x i h at = drop-cons xs i x h ∙ ap (λ u. u ∷ drop (suc i) xs) (sym at) ∙ ap (λ n. x ∷ drop n xs) (sym (add-one i))

pub each-at : {A : Type 0} (P : A → Type 0) (xs : List A) (x : A) (i : ℕ) → Each P xs → i < length xs → x ≡ get_or xs i x → P x
each-at P [] x i e h at = absurd (omega arith)
each-at P (y ∷ ys) x zero e h at = subst P (sym at) e.0
each-at P (y ∷ ys) x (suc i) e h at = each-at P ys x i e.1 (omega arith) at

pub written-at : (xs : List RawQuery) (x : RawQuery) (i : ℕ) → list_all query_written (map query_form xs) ≡ true → i < length xs → x ≡ get_or xs i x → query_written (query_form x) ≡ true
written-at [] x i e h at = absurd (omega arith)
written-at (y ∷ ys) x zero e h at = subst (λ (q : RawQuery). query_written (query_form q) ≡ true) (sym at) (and-first (query_written (query_form y)) _ e)
written-at (y ∷ ys) x (suc i) e h at = written-at ys x i (and-second (query_written (query_form y)) _ e) (omega arith) at

-- what is asked before the i-th query
abbrev pub AskedAt : List FormClause → Source → List RawQuery → ℕ → List Asked → Type 0
AskedAt cs s raw i ones = AskedSoFar cs s (map query_form raw) (map query_form (drop i raw)) ones

ahead : (cs : List FormClause) (s : Source) (raw : List RawQuery) (x : RawQuery) (i : ℕ) (ones : List Asked) → i < length raw → x ≡ get_or raw i x → AskedAt cs s raw i ones →
    AskedSoFar cs s (map query_form raw) (query_form x ∷ map query_form (drop (i + 1) raw)) ones
ahead cs s raw x i ones h at so = subst (λ qs. AskedSoFar cs s (map query_form raw) (map query_form qs) ones) (next-of raw x i h at) so

pub asked-on : (cs : List FormClause) (s : Source) (raw : List RawQuery) (x : RawQuery) (i : ℕ) (ones now : List Asked) (a : Asked) → i < length raw → x ≡ get_or raw i x → AskedAt cs s raw i ones →
    Asks s.declared (heads cs) s.names (module_names cs) (query_form x).goals a → now ≡ ones ++ a ∷ [] → AskedAt cs s raw (i + 1) now
asked-on cs s raw x i ones now a h at so k e =
    subst (AskedAt cs s raw (i + 1)) (sym e) (asked-more cs s (map query_form raw) (query_form x) (map query_form (drop (i + 1) raw)) ones a (ahead cs s raw x i ones h at so) k)

pub asked-refused : (cs : List FormClause) (s : Source) (raw : List RawQuery) (x : RawQuery) (i : ℕ) (ones : List Asked) (e : LoadError) → i < length raw → x ≡ get_or raw i x → AskedAt cs s raw i ones →
    RefusesBody s.declared (heads cs) (module_names cs) (query_body (query_form x).goals) x.line e → RefusesQueries (without_circuits cs s.declared) (map query_form raw) e
asked-refused cs s raw x i ones e h at so k = refuses-one cs s (map query_form raw) (query_form x) (map query_form (drop (i + 1) raw)) ones e (ahead cs s raw x i ones h at so) k

pub asked-end : (cs : List FormClause) (s : Source) (raw : List RawQuery) (i : ℕ) (ones : List Asked) → length raw ≤ i → AskedAt cs s raw i ones → AllAsk cs s (map query_form raw) ones
asked-end cs s raw i ones n so =
    asked-all cs s (map query_form raw) ones (subst (λ qs. AskedSoFar cs s (map query_form raw) (map query_form qs) ones) (drop_all i raw n) so)

-- what is told before the i-th query
module _ (s : Source) (resolutions : ℕ) (nodes : Nodes) (ones : List Asked) (start : Option Text) (a : Asked) (i : ℕ) (now then : Option Text) (stopped : Bool) where
  abbrev ToldAt : ℕ → Option Text → Bool → Type 0
  ToldAt k now stopped = ToldSoFar s resolutions nodes ones start (drop k ones) now stopped

  onward : i < length ones → a ≡ get_or ones i a → ToldAt i now stopped → ToldSoFar s resolutions nodes ones start (a ∷ drop (i + 1) ones) now stopped
  onward h at so = subst (λ left. ToldSoFar s resolutions nodes ones start left now stopped) (next-of ones a i h at) so

  pub told-on : (x : Bool) (budget : ℕ) → budget ≡ budget_of nodes → i < length ones → a ≡ get_or ones i a → ToldAt i now stopped → IsTold s a resolutions budget now then x →
      ToldAt (i + 1) then (stopped || x)
  told-on x budget e h at so t =
      told-more s resolutions nodes ones start a (drop (i + 1) ones) now then stopped x t.lines (onward h at so) (t.tells nodes (sym e)) t.wrote

  pub told-off : (o : Outcome) (budget : ℕ) → budget ≡ budget_of nodes → i < length ones → a ≡ get_or ones i a → ToldAt i now stopped → BreaksOff s a resolutions budget now then o →
      BreaksAfter (AllBegin s resolutions nodes ones) start then o
  told-off o budget e h at so b = told-breaks s resolutions nodes ones start a (drop (i + 1) ones) now then stopped o budget e (onward h at so) b

pub told-end : (s : Source) (resolutions : ℕ) (nodes : Nodes) (ones : List Asked) (start now : Option Text) (i : ℕ) (stopped : Bool) → length ones ≤ i →
    ToldSoFar s resolutions nodes ones start (drop i ones) now stopped → (lines : List Text) × (AllTell s resolutions nodes ones lines stopped × Wrote start now (lines_text lines))
told-end s resolutions nodes ones start now i stopped h so =
    told-all s resolutions nodes ones start now stopped (subst (λ left. ToldSoFar s resolutions nodes ones start left now stopped) (drop_all i ones h) so)
