-- A turn of a query: the next answer's line, or the last line.
use Rattle.std.proofs.Common.{◌≡◌, ◌≢◌, ◌⊎◌, inl, inr, ℕ, ◌+◌, ◌-◌, ◌^◌, ◌<◌, ◌≤◌, Bool, true, false, List, [], ◌∷◌, ◌++◌, length, take, drop, Option, None, Some, Result, Ok, Err, IfOk, refl, sym, ◌∙◌, ap, subst, arith, append_assoc, append-nil, length-append, codes}
use Rattle.std.proofs.lemmas.List.{take-append-drop}
use Rattle.cb_model.specs.declared.Outcome.{Outcome}
use Rattle.cb_model.specs.declared.Outcome.TheVariants as outcome
use Rattle.cb_model.specs.declared.Side.TheVariants as side
use Rattle.cb_model.specs.Text.{Text, lines_text, IsPrefix}
use Rattle.cb_model.specs.Outside.{Wrote}
use Rattle.cb_model.specs.Commands.{Nodes, Max, Only, IsNumber, budget_of}
use Rattle.cb_model.specs.Program.{Program}
use Rattle.cb_model.specs.Derivation.{Query, Branch, Entry, Note, Printed, SoFar, Plain, End, Stopped, Whole, printed_of}
use Rattle.cb_model.specs.Derivation as derivation
use Rattle.cb_model.specs.Line.{Names}
use Rattle.cb_model.specs.Output.{end_text}
use Rattle.cb_laws.proofs.Begins.{printed_append}
use Rattle.cb_host.proofs.Writes.{Wrote-none, Wrote-then}
use Rattle.cb_sorts.specs.Source.{Source}
use Rattle.cb_sorts.specs.Asked.{Asked}
use Rattle.cb_sorts.specs.OverFile.{asked_program, asked_query, asked_names}
use Rattle.cb_answer.specs.Writing.{WroteFront, WroteLine}
use Rattle.cb_branch.specs.Running.{Seen, TooFew, nodes_of, program_of, query_of, unbegun}
use Rattle.cb_branch.specs.Lending.{left_with}
use Rattle.cb_solve.specs.declared.Budget.{Budget}
use Rattle.cb_solve.specs.declared.Budget.TheVariants as budget
use Rattle.cb_solve.specs.declared.Event.{Event}
use Rattle.cb_solve.specs.declared.Event.TheVariants as event
use Rattle.cb_solve.specs.Machine.{FewAt, budget_in}
use Rattle.cb_solve.specs.Run.{Run, IsRun, AnswerFollows, EndFollows, StopFollows, NodesFollow, Begins, BeginsWith, StopsAtFirst, last_of}
use Rattle.cb_solve.specs.Lending.{LoanKeepsTheRun}
use Rattle.cb_tell.specs.declared.Turn.{Turn}
use Rattle.cb_tell.specs.declared.Turn.TheVariants as turn
use Rattle.cb_tell.specs.Told.{ForNodes, QueryTells, said, QueryBegins, of_all, BreaksOff}
use Rattle.cb_tell.specs.Telling.{AreFirst, IsAnswered, IsLent, IsLineAt, IsOf, IsOverAtOnce, LastTells, SoFarTold, TurnTells, ended_text, is_none, stop_text}
use Rattle.cb_tell.proofs.Firsts.{none_first, one_more, ends, too_few, nothing_begins, lines_begin, text_append}
use Rattle.cb_tell.proofs.Bounds.{answers-few, answer-fits}

-- ---- texts

prefix-self : (x : Text) → IsPrefix x x
prefix-self x = ([], append-nil x)

prefix-behind : (x y z : Text) → IsPrefix y z → IsPrefix (x ++ y) (x ++ z)
prefix-behind x y z h = (h.0, append_assoc x y h.0 ∙ ap (λ (t : Text). x ++ t) h.1)

pub prefix-of : (n : ℕ) (text : Text) → IsPrefix (take n text) text
prefix-of n text = (drop n text, take-append-drop n text)

wrote-one : (a b c : Option Text) (xs : List Text) (x : Text) → Wrote a b (lines_text xs) → Wrote b c (lines_text (x ∷ [])) → Wrote a c (lines_text (xs ++ x ∷ []))
wrote-one a b c xs x h k = subst (λ (t : Text). Wrote a c t) (sym (text_append xs (x ∷ []))) (Wrote-then a b c (lines_text xs) (lines_text (x ∷ [])) h k)

front-one : (xs : List Text) (x front : Text) → IsPrefix front (lines_text (x ∷ [])) → IsPrefix (lines_text xs ++ front) (lines_text (xs ++ x ∷ []))
front-one xs x front h = subst (λ (t : Text). IsPrefix (lines_text xs ++ front) t) (sym (text_append xs (x ∷ []))) (prefix-behind (lines_text xs) front (lines_text (x ∷ [])) h)

none-one : (xs : List Text) (x : Text) → false ≡ is_none (xs ++ x ∷ [])
none-one [] x = refl
none-one (y ∷ xs) x = refl

-- the line behind the last answer
ended-is : (b : Bool) (xs : List Text) → b ≡ is_none xs → end_text Whole xs ≡ ended_text b
ended-is b [] e = ap ended_text (sym e)
ended-is b (x ∷ xs) e = ap ended_text (sym e)

-- a budget of nodes that isn't the greatest number is one
number-of : (n : Nodes) (k : ℕ) → budget_of n ≡ k → k ≢ 2 ^ 64 - 1 → IsNumber n
number-of Max k e h = absurd (h (sym e))
number-of (Only m) k e h = tt

few-nodes : (nodes : ℕ) (b : Branch) → TooFew nodes b → nodes ≢ 2 ^ 64 - 1
unfolding TooFew
few-nodes nodes b h = h

-- ---- the next event

event-in : {E : Type 0} → Event → Result Event E → Event
event-in d (Ok x) = x
event-in d (Err e) = d

-- the event that was the last comes again
pub again-is : {E : Type 0} → (result : Result Event E) (y : Event) (r new : Run) → result ≡ Ok y → ((x : Event) → r.over ≡ Some x → r.starved ≡ false → (result ≡ Ok x) × (new ≡ r)) →
    (x : Event) → r.over ≡ Some x → r.starved ≡ false → y ≡ x
unfolding event-in
again-is result y r new e h x o k = ap (event-in y) (sym e ∙ (h x o k).0)

-- ---- the loan

lent-program : (n : ℕ) (t : Seen) → program_of (left_with n t) ≡ program_of t
unfolding program_of
lent-program n t = refl

lent-query : (n : ℕ) (t : Seen) → query_of (left_with n t) ≡ query_of t
unfolding query_of
lent-query n t = refl

lent-nodes : (n : ℕ) (t : Seen) → nodes_of (left_with n t) ≡ nodes_of t
unfolding nodes_of
lent-nodes n t = refl

of-lent : LoanKeepsTheRun → (s : Source) (a : Asked) (resolutions nodes : ℕ) (old new : Run) → IsOf s a resolutions nodes old → IsLent old new → IsOf s a resolutions nodes new
of-lent keeps s a resolutions nodes old new o l =
    subst (IsOf s a resolutions nodes) (sym l.is)
    (record {
      run = keeps old l.count o.run l.fulls;
      program = lent-program l.count old.state ∙ o.program;
      query = lent-query l.count old.state ∙ o.query;
      asked = o.asked;
      behind = o.behind;
      budget = o.budget;
      nodes_are = lent-nodes l.count old.state ∙ o.nodes_are;
    })

-- ---- a turn

-- what is kept by a write of nothing
unfoldable pub silent : {s : Source} {a : Asked} {resolutions nodes : ℕ} {before mid after : Option Text} {r : Run} {none : Bool} → SoFarTold s a resolutions nodes before mid r none → Wrote mid after [] →
    SoFarTold s a resolutions nodes before after r none
silent {before = before} {mid = mid} {after = after} h w = record {
  lines = h.lines;
  first = h.first;
  begins = h.begins;
  wrote = subst (λ (t : Text). Wrote before after t) (append-nil (lines_text h.lines)) (Wrote-then before mid after (lines_text h.lines) [] h.wrote w);
  none_are = h.none_are;
  many = h.many;
  few = h.few;
  of = h.of;
  goes = h.goes;
}

module _ (s : Source) (a : Asked) (resolutions nodes : ℕ) (before mid : Option Text) (r : Run) (none : Bool) (h : SoFarTold s a resolutions nodes before mid r none) where
  abbrev p : Program
  p = asked_program s a []

  abbrev q : Query
  q = asked_query a

  abbrev names : Names
  names = asked_names s a

  moved : (F : Program → Query → ℕ → Type 0) → F (program_of r.state) (query_of r.state) r.budget → F p q resolutions
  moved F x =
      subst (λ (k : ℕ). F p q k) h.of.budget (subst (λ (k : Query). F p k r.budget) h.of.query (subst (λ (k : Program). F k (query_of r.state) r.budget) h.of.program x))

  -- the last line
  pub last-told : (text : Text) (stop : Bool) → ForNodes nodes (λ n. QueryTells p q names resolutions n (h.lines ++ text ∷ []) stop) → (line : Text) → line ≡ lines_text (text ∷ []) →
      (after : Option Text) (old new : Run) (result : Result Turn Outcome) → LastTells line stop mid after result → TurnTells s a resolutions nodes before after old new result
  last-told text stop t line e after old new (Ok turn.Answered) l = absurd l
  last-told text stop t line e after old new (Ok (turn.Ended x)) l = record {
    lines = h.lines ++ text ∷ [];
    tells = λ n k. subst (λ (y : Bool). QueryTells p q names resolutions n (h.lines ++ text ∷ []) y) (sym l.0) (t n k);
    wrote = wrote-one before mid after h.lines text h.wrote (subst (λ (y : Text). Wrote mid after y) e l.1);
  }
  last-told text stop t line e after old new (Err o) l = record {
    text = lines_text h.lines ++ l.1.front;
    begins = λ n k. of_all (h.lines ++ text ∷ []) stop (t n k) (front-one h.lines text l.1.front (subst (λ (y : Text). IsPrefix l.1.front y) e l.1.begins));
    wrote = Wrote-then before mid after (lines_text h.lines) l.1.front h.wrote l.1.wrote;
    cause = inr l.0;
  }

  -- memory was wanting
  pub wanting : (after : Option Text) (old new : Run) → Wrote mid after [] → TurnTells s a resolutions nodes before after old new (Err outcome.Memory)
  wanting after old new w = record {
    text = lines_text h.lines;
    begins = h.begins;
    wrote = subst (λ (t : Text). Wrote before after t) (append-nil (lines_text h.lines)) (Wrote-then before mid after (lines_text h.lines) [] h.wrote w);
    cause = inl refl;
  }

  -- the nodes were too few behind so many answers
  pub few-tells : (ns : List Note) (used : ℕ) (es : List Entry) → SoFar p q resolutions ns used es → length h.lines ≤ length (printed_of ns) → length (printed_of ns) ≤ length h.lines + 1 →
      nodes ≢ 2 ^ 64 - 1 → ForNodes nodes (λ n. QueryTells p q names resolutions n (h.lines ++ codes "stopped: nodes" ∷ []) true)
  few-tells ns used es so least most k n e = too_few p q names resolutions n h.lines h.first ns used es so least most (number-of n nodes e k)

  pub few-at : FewAt p q resolutions (length h.lines) nodes → ForNodes nodes (λ n. QueryTells p q names resolutions n (h.lines ++ stop_text budget.Nodes ∷ []) true)
  few-at f =
      let m = f.many in
      few-tells f.notes f.used (f.top ∷ f.lower) f.so_far (omega (arith, m)) (omega (arith, m)) (few-nodes nodes f.b f.too_few)

  plain-tells : (ns : List Note) (w : derivation.Budget) → Plain p q resolutions ns (Stopped w) → length (printed_of ns) ≡ length h.lines →
      ForNodes nodes (λ n. QueryTells p q names resolutions n (h.lines ++ stop_text (budget_in w) ∷ []) true)
  plain-tells ns derivation.Resolutions x m n e = said (ends p q names resolutions n h.lines h.first ns (Stopped derivation.Resolutions) x m)
  plain-tells ns derivation.Variables x m n e = said (ends p q names resolutions n h.lines h.first ns (Stopped derivation.Variables) x m)
  plain-tells ns derivation.Equations x m n e = said (ends p q names resolutions n h.lines h.first ns (Stopped derivation.Equations) x m)

  -- the run ended
  pub end-tells : EndFollows r → ForNodes nodes (λ n. QueryTells p q names resolutions n (h.lines ++ ended_text none ∷ []) false)
  end-tells f n e =
      let x = moved (λ p' q' k. Plain p' q' k f.notes Whole) f.plain in
      subst (λ (t : Text). QueryTells p q names resolutions n (h.lines ++ t ∷ []) false) (ended-is none h.lines h.none_are)
      (said (ends p q names resolutions n h.lines h.first f.notes Whole x (f.many ∙ h.many)))

  -- it stopped
  stop-tells : (w : derivation.Budget) → StopFollows r w → ForNodes nodes (λ n. QueryTells p q names resolutions n (h.lines ++ stop_text (budget_in w) ∷ []) true)
  stop-tells w f = plain-tells f.notes w (moved (λ p' q' k. Plain p' q' k f.notes (Stopped w)) f.plain) (f.many ∙ h.many)

  nodes-tell : NodesFollow r → ForNodes nodes (λ n. QueryTells p q names resolutions n (h.lines ++ stop_text budget.Nodes ∷ []) true)
  nodes-tell f =
      few-at
      (subst (λ (k : ℕ). FewAt p q resolutions (length h.lines) k) h.of.nodes_are
      (subst (λ (k : ℕ). FewAt p q resolutions k (nodes_of r.state)) h.many (moved (λ p' q' k. FewAt p' q' k r.answers (nodes_of r.state)) f)))

  -- a run that was over at once stopped
  at-once : h.lines ≡ [] → (o : IsOverAtOnce s a resolutions nodes r) → (w : Budget) → event.Stopped w ≡ o.event →
      ForNodes nodes (λ n. QueryTells p q names resolutions n (h.lines ++ stop_text w ∷ []) true)
  unfolding program_of query_of nodes_of
  at-once e o w k = by_budget w (subst (StopsAtFirst (unbegun s a nodes) r.state resolutions) (sym k) o.cause)
    where
      by_budget : (w : Budget) → StopsAtFirst (unbegun s a nodes) r.state resolutions (event.Stopped w) → ForNodes nodes (λ n. QueryTells p q names resolutions n (h.lines ++ stop_text w ∷ []) true)
      by_budget budget.Variables x = plain-tells [] derivation.Variables x (ap length (sym e))
      by_budget budget.Nodes x = few-at (subst (λ (k : ℕ). FewAt p q resolutions k nodes) (ap length (sym e)) x.0)
      by_budget budget.Resolutions x = absurd x
      by_budget budget.Equations x = absurd x

  -- the run stopped, by this budget
  pub stopped : (w : Budget) → ((d : derivation.Budget) → w ≡ budget_in d → r.over ≡ None → StopFollows r d) → (w ≡ budget.Nodes → r.over ≡ None → NodesFollow r) →
      ((x : Event) → r.over ≡ Some x → r.starved ≡ false → event.Stopped w ≡ x) → ForNodes nodes (λ n. QueryTells p q names resolutions n (h.lines ++ stop_text w ∷ []) true)
  stopped w by_budget by_nodes again = by_goes h.goes
    where
      on : (w : Budget) → ((d : derivation.Budget) → w ≡ budget_in d → StopFollows r d) → (w ≡ budget.Nodes → NodesFollow r) →
          ForNodes nodes (λ n. QueryTells p q names resolutions n (h.lines ++ stop_text w ∷ []) true)
      on budget.Resolutions f k = stop-tells derivation.Resolutions (f derivation.Resolutions refl)
      on budget.Variables f k = stop-tells derivation.Variables (f derivation.Variables refl)
      on budget.Equations f k = stop-tells derivation.Equations (f derivation.Equations refl)
      on budget.Nodes f k = nodes-tell (k refl)

      by_goes : (r.over ≡ None) ⊎ ((h.lines ≡ []) × IsOverAtOnce s a resolutions nodes r) → ForNodes nodes (λ n. QueryTells p q names resolutions n (h.lines ++ stop_text w ∷ []) true)
      by_goes (inl e) = on w (λ d k. by_budget d k e) (λ k. by_nodes k e)
      by_goes (inr o) = at-once o.0 o.1 w (again o.1.event o.1.over o.1.starved)

  -- an event that is no stop is not the first of a run that was over at once
  pub goes-on : (y : Event) → (StopsAtFirst (unbegun s a nodes) r.state resolutions y → ⊥) → ((x : Event) → r.over ≡ Some x → r.starved ≡ false → y ≡ x) → r.over ≡ None
  goes-on y n again = by_goes h.goes
    where
      by_goes : (r.over ≡ None) ⊎ ((h.lines ≡ []) × IsOverAtOnce s a resolutions nodes r) → r.over ≡ None
      by_goes (inl e) = e
      by_goes (inr o) = absurd (n (subst (StopsAtFirst (unbegun s a nodes) r.state resolutions) (sym (again o.1.event o.1.over o.1.starved)) o.1.cause))

  -- it was not over where such an event came
  pub is-over : {E : Type 0} → (result : Result Event E) (new : Run) (x y : Event) → result ≡ Ok x → x ≡ y →
      ((z : Event) → r.over ≡ Some z → r.starved ≡ false → (result ≡ Ok z) × (new ≡ r)) → (StopsAtFirst (unbegun s a nodes) r.state resolutions y → ⊥) → r.over ≡ None
  is-over result new x y e f again n = goes-on y n (again-is result y r new (subst (λ (z : Event). result ≡ Ok z) f e) again)

  pub next-answer : {E : Type 0} → (result : Result Event E) (new : Run) (x : Event) → result ≡ Ok x → x ≡ event.Answer →
      ((z : Event) → r.over ≡ Some z → r.starved ≡ false → (result ≡ Ok z) × (new ≡ r)) → (result ≡ Ok event.Answer → r.over ≡ None → AnswerFollows r new) → AnswerFollows r new
  next-answer result new x e f again answer = answer (subst (λ (z : Event). result ≡ Ok z) f e) (is-over result new x event.Answer e f again (λ z. z))

  pub next-on : {E : Type 0} → (result : Result Event E) (new : Run) (x : Event) → result ≡ Ok x → x ≡ event.Answer →
      ((z : Event) → r.over ≡ Some z → r.starved ≡ false → (result ≡ Ok z) × (new ≡ r)) → IfOk result (λ z. r.over ≡ None → new.over ≡ last_of z) → new.over ≡ None
  next-on {E = E} result new x e f again over =
      subst (λ (q : Result Event E). IfOk q (λ z. r.over ≡ None → new.over ≡ last_of z)) (subst (λ (z : Event). result ≡ Ok z) f e) over (is-over result new x event.Answer e f again (λ z. z))

  -- the next answer
  module _ (r1 : Run) (f : AnswerFollows r r1) (run : IsRun r1) where
    pub of-next : IsOf s a resolutions nodes r1
    of-next = record {
      run = run;
      program = f.program ∙ h.of.program;
      query = f.query ∙ h.of.query;
      asked = f.asked ∙ h.of.asked;
      behind = h.of.behind;
      budget = f.budget ∙ h.of.budget;
      nodes_are = f.nodes ∙ h.of.nodes_are;
    }

    so : SoFar p q resolutions f.notes f.used f.entries
    so = moved (λ p' q' k. SoFar p' q' k f.notes f.used f.entries) f.so_far

    pub answered : IsAnswered s a r1
    answered = record {
      b = f.b;
      is = f.is;
      fits = answer-fits p q resolutions f.notes f.used f.entries so f.before f.b f.last;
      program = of-next.program;
      asked = of-next.asked;
      behind = of-next.behind;
    }

    count : length (printed_of f.notes) ≡ length h.lines + 1
    count =
        ap (λ (x : List Note). length (printed_of x)) f.last ∙ ap length (printed_append f.before (Printed f.b ∷ [])) ∙ length-append (printed_of f.before) (f.b ∷ [])
        ∙ ap (λ (k : ℕ). k + 1) (f.many ∙ h.many)

    with-line : (x : Text) → length (h.lines ++ x ∷ []) ≡ length h.lines + 1
    with-line x = length-append h.lines (x ∷ [])

    first-with : (x : Text) → IsLineAt s a r1.state x → AreFirst p q names resolutions (h.lines ++ x ∷ [])
    first-with x l = one_more p q names resolutions h.lines h.first f.notes f.before f.used f.entries f.b x so f.last (f.many ∙ h.many) (l f.b f.is)

    begins-with : (x : Text) → IsLineAt s a r1.state x → (text : Text) → IsPrefix text (lines_text (h.lines ++ x ∷ [])) → ForNodes nodes (λ n. QueryBegins p q names resolutions n text)
    begins-with x l text prefix n e =
        lines_begin p q names resolutions n (h.lines ++ x ∷ []) (first-with x l) f.notes f.used f.entries so (count ∙ sym (with-line x)) text prefix

    -- its line was written
    pub line-told : LoanKeepsTheRun → (after : Option Text) (r2 : Run) → IsLent r1 r2 → r1.over ≡ None → WroteLine (IsLineAt s a r1.state) mid after →
        TurnTells s a resolutions nodes before after r r2 (Ok turn.Answered)
    line-told keeps after r2 l over w =
        let many : r2.answers ≡ r.answers + 1 = ap (λ (k : Run). k.answers) l.is ∙ f.counted in
        let answers = answers-few p q resolutions f.notes f.used f.entries so in (
          many,
          record {
            lines = h.lines ++ w.line ∷ [];
            first = first-with w.line w.is;
            begins = begins-with w.line w.is (lines_text (h.lines ++ w.line ∷ [])) (prefix-self (lines_text (h.lines ++ w.line ∷ [])));
            wrote = wrote-one before mid after h.lines w.line h.wrote w.wrote;
            none_are = none-one h.lines w.line;
            many = many ∙ ap (λ (k : ℕ). k + 1) h.many ∙ sym (with-line w.line);
            few = let c = count in let n = with-line w.line in omega (arith, answers, c, n);
            of = of-lent keeps s a resolutions nodes r1 r2 of-next l;
            goes = inl (ap (λ (k : Run). k.over) l.is ∙ over);
          },
        )

    -- a front of it was written
    pub front-told : (after : Option Text) (old new : Run) → WroteFront (IsLineAt s a r1.state) mid after → TurnTells s a resolutions nodes before after old new (Err (outcome.Fault side.Output))
    front-told after old new w = record {
      text = lines_text h.lines ++ w.front.front;
      begins = begins-with w.line w.is (lines_text h.lines ++ w.front.front) (front-one h.lines w.line w.front.front w.front.begins);
      wrote = Wrote-then before mid after (lines_text h.lines) w.front.front h.wrote w.front.wrote;
      cause = inr refl;
    }

    -- the nodes were too few for it
    pub line-few : nodes_of r1.state ≢ 2 ^ 64 - 1 → ForNodes nodes (λ n. QueryTells p q names resolutions n (h.lines ++ codes "stopped: nodes" ∷ []) true)
    line-few k = let c = count in few-tells f.notes f.used f.entries so (omega (arith, c)) (omega (arith, c)) (λ e. k (of-next.nodes_are ∙ e))

abbrev no_lines : List Text
no_lines = []

before-first : (s : Source) (a : Asked) (resolutions nodes : ℕ) (r : Run) (o : Option Event) → r.over ≡ o → r.starved ≡ false → BeginsWith (unbegun s a nodes) r.state resolutions o →
    (r.over ≡ None) ⊎ ((no_lines ≡ []) × IsOverAtOnce s a resolutions nodes r)
before-first s a resolutions nodes r None e starved k = inl e
before-first s a resolutions nodes r (Some x) e starved k = inr (refl, record { event = x; over = e; starved = starved; cause = k })

-- before the first answer
pub begun : (s : Source) (a : Asked) (resolutions nodes : ℕ) (before : Option Text) (r : Run) → Begins s a resolutions nodes r → a.before ≡ length s.names →
    SoFarTold s a resolutions nodes before before r true
begun s a resolutions nodes before r b behind = record {
  lines = [];
  first = none_first (asked_program s a []) (asked_query a) (asked_names s a) resolutions;
  begins = λ n e. nothing_begins (asked_program s a []) (asked_query a) (asked_names s a) resolutions n;
  wrote = Wrote-none before;
  none_are = refl;
  many = b.answers;
  few = omega arith;
  of = record { run = b.run; program = b.program; query = b.query; asked = b.asked; behind = behind; budget = b.budget; nodes_are = b.nodes_are };
  goes = before-first s a resolutions nodes r r.over refl b.starved b.begins;
}

-- nothing was told
pub nothing : (s : Source) (a : Asked) (resolutions nodes : ℕ) (before : Option Text) → BreaksOff s a resolutions nodes before before outcome.Memory
nothing s a resolutions nodes before = record {
  text = [];
  begins = λ n e. nothing_begins (asked_program s a []) (asked_query a) (asked_names s a) resolutions n;
  wrote = Wrote-none before;
  cause = inl refl;
}

-- fewer answers are left
pub falls : (s : Source) (a : Asked) (resolutions nodes : ℕ) (before mid after : Option Text) (old new : Run) (none : Bool) → SoFarTold s a resolutions nodes before mid old none →
    TurnTells s a resolutions nodes before after old new (Ok turn.Answered) → new.budget + 2 - new.answers < old.budget + 2 - old.answers
falls s a resolutions nodes before mid after old new none h t =
    let one = t.0 in
    let many = t.1.many in
    let few = t.1.few in
    let now = t.1.of.budget in
    let then = h.of.budget in
    omega (arith, one, many, few, now, then)
