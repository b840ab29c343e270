-- What is written of an answer.
use Rattle.std.proofs.Common.{◌≡◌, ◌≢◌, ℕ, ◌+◌, ◌-◌, ◌^◌, ◌≤◌, List, [], Option, Result, Ok, Err, OnOk, refl, sym, ◌∙◌, ap, subst, arith}
use Rattle.cb_model.specs.Text.{Text}
use Rattle.cb_model.specs.Faults.{Counted}
use Rattle.cb_model.specs.Outside.{Rose, Wrote}
use Rattle.cb_model.specs.Program.{Program, bools}
use Rattle.cb_model.specs.Derivation.{Branch}
use Rattle.cb_model.specs.Output.{printed_from}
use Rattle.cb_host.specs.declared.Failed.{Failed}
use Rattle.cb_host.proofs.Writes.{Wrote-none}
use Rattle.cb_dd.specs.declared.Stop.{Stop}
use Rattle.cb_dd.specs.declared.Stop.TheVariants as stop
use Rattle.cb_show.specs.declared.ShowError.{ShowError}
use Rattle.cb_show.specs.declared.ShowError.TheVariants as show
use Rattle.cb_sorts.specs.Source.{Source}
use Rattle.cb_sorts.specs.Asked.{Asked}
use Rattle.cb_sorts.specs.OverFile.{asked_program, asked_names}
use Rattle.cb_unify.specs.State as state
use Rattle.cb_answer.specs.declared.Item.{Item}
use Rattle.cb_answer.specs.Answered.{IsLineFor}
use Rattle.cb_answer.specs.Answering.{Tells}
use Rattle.cb_answer.specs.Items.{AreItems}
use Rattle.cb_answer.specs.Writing.{IsTellable, WroteFront, WroteLine}
use Rattle.cb_answer.proofs.Items.{items-there}
use Rattle.cb_branch.specs.Running.{IsBranch, calls_of, fulls_of, nodes_of, program_of}
use Rattle.cb_branch.specs.Laws.{BranchHasItsValues, HasItsValues}
use Rattle.cb_solve.specs.Lending.{with_state}
use Rattle.cb_solve.specs.Run.{Run}
use Rattle.cb_tell.specs.Telling.{AnswerTells, IsAnswered, IsLent, IsLineAt, WriteFailed}

module _ (values : BranchHasItsValues) (s : Source) (a : Asked) (r : Run) (h : IsAnswered s a r) (xs : List Item)
    (items : AreItems r.state.state.made (asked_names s a).names (printed_from 0 a.variables) (calls_of r.state) xs) where
  has : HasItsValues r.state h.b
  has = values r.state h.b h.is

  few : (p : Program) → p ≡ asked_program s a [] → p.constants + bools h.b.sorts ≤ 4096
  few p e = subst (λ (k : Program). k.constants + bools h.b.sorts ≤ 4096) (sym e) h.fits

  -- the items can be told
  pub tellable : IsTellable r.state.state xs
  tellable = record {
    state = has.state;
    table = (program_of r.state).world.arguments;
    fits = has.fits;
    there = items-there (program_of r.state).world.arguments r.state.state (asked_names s a).names (printed_from 0 a.variables) h.b.waiting (calls_of r.state) xs has.state.heap.number has.state.made has.waiting items;
    room = let d = has.drawn in let f = few (program_of r.state) h.program in omega (arith, d, f);
  }

  tells : (b : Branch) → IsBranch r.state b → Tells (asked_program s a []) (asked_names s a) b r.state.state xs
  tells b i =
      let v = values r.state b i in
      subst (λ (p : Program). Tells p (asked_names s a) b r.state.state xs) h.program
      (record {
        state = v.state;
        fits = v.fits;
        constants = v.constants;
        drawn = v.drawn;
        variables = v.variables;
        vals = v.vals;
        calls = calls_of r.state;
        waiting = v.waiting;
        items_are = items;
      })

  -- their line is the answer's
  line-at : (line : Text) → IsLineFor (asked_names s a).names (asked_names s a).constants r.state.state xs line → IsLineAt s a r.state line
  line-at line l b i = l (asked_program s a []) (asked_names s a) b (tells b i) refl refl

  -- what was written
  pub answer-told : (before after : Option Text) (result : Result (Unit {0}) ShowError) →
      OnOk result (WroteLine (IsLineFor (asked_names s a).names (asked_names s a).constants r.state.state xs) before after) →
      ((e : Failed) → result ≡ Err (show.Failed e) → WroteFront (IsLineFor (asked_names s a).names (asked_names s a).constants r.state.state xs) before after) →
      ((x : Stop) → result ≡ Err (show.Stop x) → after ≡ before) → (result ≡ Err (show.Stop stop.Nodes) → r.state.state.store.nodes.budget ≢ 2 ^ 64 - 1) →
      AnswerTells s a r.state before after result
  unfolding nodes_of
  answer-told before after (Ok x) w f n b = record { line = w.line; is = line-at w.line w.is; wrote = w.wrote }
  answer-told before after (Err (show.Failed e)) w f n b = let g = f e refl in record { line = g.line; is = line-at g.line g.is; front = g.front }
  answer-told before after (Err (show.Stop stop.Nodes)) w f n b = (subst (λ (t : Option Text). Wrote before t []) (sym (n stop.Nodes refl)) (Wrote-none before), b refl)
  answer-told before after (Err (show.Stop stop.Memory)) w f n b = subst (λ (t : Option Text). Wrote before t []) (sym (n stop.Memory refl)) (Wrote-none before)

  -- the same, as the call has its state and its items
  pub answer-told-at : (u : state.Seen) → u ≡ r.state.state → (ys : List Item) → ys ≡ xs → (before after : Option Text) (result : Result (Unit {0}) ShowError) →
      OnOk result (WroteLine (IsLineFor (asked_names s a).names (asked_names s a).constants u ys) before after) →
      ((e : Failed) → result ≡ Err (show.Failed e) → WroteFront (IsLineFor (asked_names s a).names (asked_names s a).constants u ys) before after) →
      ((x : Stop) → result ≡ Err (show.Stop x) → after ≡ before) → (result ≡ Err (show.Stop stop.Nodes) → u.store.nodes.budget ≢ 2 ^ 64 - 1) →
      AnswerTells s a r.state before after result
  answer-told-at u eu ys ey before after result w f n b =
      let ns = (asked_names s a).names in
      let cs = (asked_names s a).constants in
      answer-told before after result
      (subst (λ (v : state.Seen). OnOk result (WroteLine (IsLineFor ns cs v xs) before after)) eu (subst (λ (zs : List Item). OnOk result (WroteLine (IsLineFor ns cs u zs) before after)) ey w))
      (λ e k. subst (λ (v : state.Seen). WroteFront (IsLineFor ns cs v xs) before after) eu (subst (λ (zs : List Item). WroteFront (IsLineFor ns cs u zs) before after) ey (f e k)))
      n
      (λ k. subst (λ (v : state.Seen). v.store.nodes.budget ≢ 2 ^ 64 - 1) eu (b k))

  pub tellable-at : (u : state.Seen) → u ≡ r.state.state → (ys : List Item) → ys ≡ xs → IsTellable u ys
  tellable-at u eu ys ey = subst (λ (v : state.Seen). IsTellable v ys) (sym eu) (subst (λ (zs : List Item). IsTellable r.state.state zs) (sym ey) tellable)

-- the run's terms are as before, but for the count of refusals
pub lent : (r n : Run) → n ≡ with_state n.state.state r → state.IsAsBefore r.state.state n.state.state → IsLent r n
unfolding fulls_of
lent r n e h = record {
  count = n.state.state.store.nodes.fulls;
  fulls = h.fulls;
  is = e ∙ ap (λ (u : state.Seen). with_state u r) h.same;
}

-- nothing was lent
pub lent-none : (r : Run) → IsLent r r
lent-none r = lent r r refl (record { same = refl; fulls = omega arith })

-- the faults are counted
pub answer-counted : (result : Result (Unit {0}) ShowError) (before now : ℕ) → OnOk result (now ≡ before) → ((e : Failed) → result ≡ Err (show.Failed e) → Rose before now) →
    ((x : Stop) → result ≡ Err (show.Stop x) → now ≡ before) → Counted (WriteFailed result) before now
answer-counted (Ok x) before now k f n = record { rose = λ h. absurd h; kept = λ h. k }
answer-counted (Err (show.Failed e)) before now k f n = record { rose = λ h. f e refl; kept = λ h. absurd (h tt) }
answer-counted (Err (show.Stop x)) before now k f n = record { rose = λ h. absurd h; kept = λ h. n x refl }

-- where no line was asked for
pub none-told : (s : Source) (a : Asked) (r : Run) (before : Option Text) → AnswerTells s a r.state before before (Err (show.Stop stop.Memory))
none-told s a r before = Wrote-none before
