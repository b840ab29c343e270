-- What is written over an input.
use Rattle.std.proofs.Common.{◌≡◌, ◌⊎◌, ℕ, ◌<◌, ◌≤◌, Bool, true, false, List, [], ◌++◌, drop, length, codes, map, Option, Some, None, refl, sym, ap, subst, ◌∙◌, inl, inr, arith}
use Rattle.std.proofs.lemmas.List.{drop_all}
use Rattle.std.proofs.lemmas.Option.{same_Some}
use Rattle.cb_model.specs.declared.Outcome.{Outcome}
use Rattle.cb_model.specs.declared.Outcome.TheVariants as outcome
use Rattle.cb_model.specs.declared.Side.TheVariants as side
use Rattle.cb_model.specs.declared.RawQuery.{RawQuery}
use Rattle.cb_model.specs.Text.{Text}
use Rattle.cb_model.specs.Commands.{Nodes, Max, Only}
use Rattle.cb_model.specs.Grammar.{FormClause, FormQuery, Whole, Lexed, Syntax, Unfinished, Deep, ReadsQuery, IsReading}
use Rattle.cb_model.specs.Forms.{query_form}
use Rattle.cb_model.specs.Written.{AreQueries}
use Rattle.cb_model.specs.Directives as dir
use Rattle.cb_model.specs.Directives.{SortClash, Unknown}
use Rattle.cb_model.specs.Refusals.{Refused, refused, unbuilt}
use Rattle.cb_model.specs.Faults.{Counted}
use Rattle.cb_model.specs.Output as model
use Rattle.cb_model.specs.Output.{Loaded, InputRefused, run_outcome, sort_refused, QueriesRefusal}
use Rattle.cb_directives.specs.declared.fault.LoadError.{LoadError}
use Rattle.cb_directives.specs.declared.fault.LoadError.TheVariants as fault
use Rattle.cb_lex.specs.Faults.{fault_of}
use Rattle.cb_syntax.specs.declared.texts.ReadError.{ReadError}
use Rattle.cb_syntax.specs.declared.texts.ReadError.TheVariants as error
use Rattle.cb_syntax.specs.Readings.{IsRefused}
use Rattle.cb_host.specs.Host.{IfTold, HasLength, ReadsAll}
use Rattle.cb_host.specs.declared.Load.TheVariants as load
use Rattle.cb_sorts.specs.Source.{Source}
use Rattle.cb_sorts.specs.OverFile.{QueriesOverFile}
use Rattle.cb_sorts.specs.Asked.{Asked}
use Rattle.cb_lines.specs.Refusals.{read_refused, load_refused, placed_in}
use Rattle.cb_lines.specs.declared.refusals.Whose.TheVariants as whose
use Rattle.cb_lines.specs.declared.lines.TheConstants.{INPUT_TOO_LONG, UNBUILT}
use Rattle.cb_lines.specs.declared.ended.Ended.{Ended}
use Rattle.cb_lines.specs.Ends as ends
use Rattle.cb_lines.specs.Ends.{Finishes, EndsBy, EndTold, Writes, broken, wanting, BeginsSaying, Tells, Refusing}
use Rattle.cb_lines.proofs.Writing.{counted_as, map-writes, map-said, finish-tells, refusal-said, Ending, by_refusal, by_fault, by_want, ending}
use Rattle.cb_accept.specs.Refusals.{without_circuits}
use Rattle.cb_accept.proofs.Accepting.{some-none}
use Rattle.cb_run.specs.Run as run
use Rattle.cb_run.specs.Run.{QueriesTell}
use Rattle.cb_run.specs.Running.{BreaksAfter, AskedRun, IsOver, AllAsk, IsOf, RefusesQueries, InputBegins, nothing_yet, begins, so_far, InputWrites, IsInput}
use Rattle.cb_run.proofs.Telling.{all-tell, all-begin, all-said, begun-so-far}

-- the input is longer than its limit
abbrev too_long : Refused
too_long = refused 20 [] (codes "input too long")

-- what was written where the telling broke off
pub breaks-writes : {W : Text → Outcome → Type 0} {B : Text → Type 0} {before after : Option Text} {result : Outcome} → BreaksAfter B before after result →
    Writes W B before after result
breaks-writes {W} {B} {before} {after} {result} b = by_cause b.cause
  where
    by_cause : (result ≡ outcome.Memory) ⊎ (result ≡ outcome.Fault side.Output) → Writes W B before after result
    by_cause (inl e) = wanting b.text b.beginning e b.wrote
    by_cause (inr e) = broken b.text b.beginning e b.wrote

-- ---- counts of faults

-- queries that were told are no fault
pub run-counted : (b : Bool) (o : Outcome) {before now : ℕ} → o ≡ run_outcome b → Counted ⊥ before now → Counted (o ≡ outcome.Fault side.Output) before now
run-counted b o e c = counted_as _ _ (λ f. not-fault b (sym e ∙ f)) (λ f. absurd f) c
  where
    not-fault : (x : Bool) → run_outcome x ≡ outcome.Fault side.Output → ⊥
    not-fault true p = cc
    not-fault false p = cc

-- ---- over an input

-- the refusals of an input, with `query` before their places
unread-input : (l : Loaded) (input : Text) (e : ReadError) (r : Refused) → length input ≤ 1048576 → IsRefused ReadsQuery input e → Some r ≡ read_refused e → InputRefused l input (record r { place = codes "query " ++ r.place })
unread-input l input (error.Lex f) r short h t = model.unread (Lexed (fault_of f)) short h (sym t)
unread-input l input (error.Syntax n) r short h t = model.unread (Syntax n) short h (sym t)
unread-input l input (error.Unfinished n) r short h t = model.unread (Unfinished n) short h (sym t)
unread-input l input (error.Deep n) r short h t = model.unread (Deep n) short h (sym t)
unread-input l input error.Memory r short h t = absurd (some-none r t)

unsorted-input : (l : Loaded) (input : Text) (qs : List FormQuery) (e : LoadError) (r : Refused) → length input ≤ 1048576 → IsReading ReadsQuery input (Whole qs) → RefusesQueries l qs e → Some r ≡ load_refused e →
    InputRefused l input (record r { place = codes "query " ++ r.place })
unsorted-input l input qs (fault.Directive n) r short i h t = absurd h
unsorted-input l input qs (fault.SortClash n) r short i h t = model.sorts qs (SortClash, n) short i h (same_Some r (sort_refused (SortClash, n)) t)
unsorted-input l input qs (fault.Unknown n) r short i h t = model.sorts qs (Unknown, n) short i h (same_Some r (sort_refused (Unknown, n)) t)
unsorted-input l input qs (fault.Twice n) r short i h t = model.sorts qs (dir.Twice, n) short i h (same_Some r (sort_refused (dir.Twice, n)) t)
unsorted-input l input qs fault.Memory r short i h t = absurd (some-none r t)

-- a refusal of the input has `query` before its place
placed-input : (l : Loaded) (input : Text) (q : Option Refused) (r : Refused) → ((x : Refused) → Some x ≡ q → InputRefused l input (record x { place = codes "query " ++ x.place })) →
    Some r ≡ placed_in whose.Query q → InputRefused l input r
placed-input l input None r f e = absurd (some-none r e)
placed-input l input (Some q) r f e = subst (InputRefused l input) (sym (same_Some r _ e)) (f q refl)

module _ {l : Loaded} {resolutions : ℕ} {nodes : Nodes} {input : Text} {before after : Option Text} {result : Outcome} where
  -- lines that are said over an input are written
  said-writes : {S : List Text → Outcome → Type 0} → ((lines : List Text) (o : Outcome) → S lines o → run.InputSays l resolutions nodes input lines o) → Tells S before after result →
      InputWrites l resolutions nodes input before after result
  said-writes {S} f h = map-writes (λ t o k. map-said f t o k) (λ t k. of_front t k) h
    where
      of_front : (t : Text) → BeginsSaying S t → InputBegins l resolutions nodes input t
      of_front t (ends.nothing_yet e) = nothing_yet e
      of_front t (ends.begins all o k p) = begins all o (map-said f all o k) p

  refused-writes : (r : Refused) → InputRefused l input r → Refusing r before after result → InputWrites l resolutions nodes input before after result
  refused-writes r h k = said-writes (λ lines o e. run.says (inl (r, (h, e)))) k

  ended-writes : {Why : Refused → Type 0} (e : Ended) → ((r : Refused) → Why r → InputRefused l input r) → EndsBy Why ⊥ e → EndTold e before after result → InputWrites l resolutions nodes input before after result
  ended-writes {Why} e f h t = by_case (ending e h t)
    where
      by_case : Ending Why ⊥ before after result → InputWrites l resolutions nodes input before after result
      by_case (by_refusal r y k) = refused-writes r (f r y) k
      by_case (by_fault b k w) = absurd b
      by_case (by_want k w) = wanting [] (nothing_yet refl) k w

  -- where the input isn't read
  pub writes-unread : (error : ReadError) (e : Ended) → length input ≤ 1048576 → IsRefused ReadsQuery input error → EndsBy (λ r. Some r ≡ placed_in whose.Query (read_refused error)) ⊥ e → EndTold e before after result →
      InputWrites l resolutions nodes input before after result
  writes-unread error e short h k t = ended-writes e (λ r p. placed-input l input (read_refused error) r (λ x q. unread-input l input error x short h q) p) k t

  -- where a query is refused
  pub writes-unsorted : (qs : List FormQuery) (error : LoadError) (e : Ended) → length input ≤ 1048576 → IsReading ReadsQuery input (Whole qs) → RefusesQueries l qs error →
      EndsBy (λ r. Some r ≡ placed_in whose.Query (load_refused error)) ⊥ e → EndTold e before after result → InputWrites l resolutions nodes input before after result
  writes-unsorted qs error e short i h k t = ended-writes e (λ r p. placed-input l input (load_refused error) r (λ x q. unsorted-input l input qs error x short i h q) p) k t

  -- where the input is too long
  pub writes-long : (text : Text) → 1048576 < length input → text ≡ INPUT_TOO_LONG.now → Finishes before after text (outcome.Refused 20) result → InputWrites l resolutions nodes input before after result
  writes-long text h e f =
      refused-writes too_long (model.long h) (finish-tells (refusal-said too_long text 20 (record { line = e; number = refl })) f)

-- the lines of queries are said over their input
says-queries : (l : Loaded) (resolutions : ℕ) (nodes : Nodes) (input : Text) (qs : List FormQuery) (lines : List Text) (stop : Bool) (o : Outcome) → IsOf input qs → QueriesRefusal l qs None →
    QueriesTell l resolutions nodes qs lines stop → o ≡ run_outcome stop → run.InputSays l resolutions nodes input lines o
says-queries l resolutions Max input qs lines stop o i a t e = run.says (inr (qs, stop, i.short, i.reading, a, all-said qs lines stop t, e))
says-queries l resolutions (Only n) input qs lines stop o i a t e = run.few qs stop tt i.short i.reading a t e

-- where all queries are accepted
pub writes-asked : QueriesOverFile → (cs : List FormClause) (s : Source) (resolutions : ℕ) (nodes : Nodes) (input : Text) (qs : List FormQuery) (ones : List Asked) →
    {before after : Option Text} {result : Outcome} → IsOver cs s → IsOf input qs → QueriesRefusal (without_circuits cs s.declared) qs None → AllAsk cs s qs ones →
    AskedRun s resolutions nodes ones before after result → InputWrites (without_circuits cs s.declared) resolutions nodes input before after result
writes-asked meant cs s resolutions nodes input qs ones o i a h w =
    map-writes
    (λ t e k. map-said (λ lines out d. says-queries _ resolutions nodes input qs lines d.0 out i a (all-tell meant cs s o resolutions nodes qs ones lines d.0 h d.1.0) d.1.1) t e k)
    (λ t k. so_far qs i a (begun-so-far nodes qs t (all-begin meant cs s o resolutions nodes qs ones t h k))) w

-- the line that something isn't built yet
pub unbuilt-told : {before after : Option Text} {result : Outcome} (text : Text) → text ≡ UNBUILT.now → Finishes before after text (outcome.Refused 99) result → Refusing unbuilt before after result
unbuilt-told text e f = finish-tells (refusal-said unbuilt text 99 (record { line = e; number = refl })) f

-- ---- the input

more-queries : (n : ℕ) (qs : List FormQuery) → n ≤ 1048576 → AreQueries n qs → AreQueries 1048576 qs
more-queries n qs h w =
    let a = w.few in
    let b = w.few_goals in
    let c = w.few_terms in
    record { written = w.written; few = omega arith; few_goals = omega arith; few_terms = omega arith }

-- the queries of an input that isn't too long are few enough
pub queries-few : (n : ℕ) (xs ys : List RawQuery) → ys ≡ xs → n ≤ 1048576 → AreQueries n (map query_form xs) → AreQueries 1048576 (map query_form ys)
queries-few n xs ys e h w = subst (λ l. AreQueries 1048576 (map query_form l)) (sym e) (more-queries n (map query_form xs) h w)

-- an input that was read to its end
pub input-done : (told left : Option Text) (into : Text) → IfTold told (λ bytes. ReadsAll bytes 1048576 load.Done left into) → IsInput told left into
input-done None left into h = record { is = λ bytes p. absurd (some-none bytes (sym p)); taken = λ bytes p. absurd (some-none bytes (sym p)) }
input-done (Some x) left into h = record { is = λ bytes p. h.1.0 ∙ same_Some x bytes p; taken = λ bytes p. subst (λ y. left ≡ Some (drop 1048577 y)) (same_Some x bytes p) (h.1.1 ∙ ap Some (sym (drop_all 1048577 x (omega (arith, h.0))))) }

-- an input that is too long
pub input-long : (told left : Option Text) (into : Text) → IfTold told (λ bytes. ReadsAll bytes 1048576 load.Long left into) → HasLength 1048576 load.Long into →
    (input : Text) × (1048576 < length input) × IsInput told left input
input-long None left into h l = (into, omega arith, record { is = λ bytes p. absurd (some-none bytes (sym p)); taken = λ bytes p. absurd (some-none bytes (sym p)) })
input-long (Some x) left into h l = (x, h.0, record { is = λ bytes p. same_Some x bytes p; taken = λ bytes p. h.1.1 ∙ ap (λ y. Some (drop 1048577 y)) (same_Some x bytes p) })
