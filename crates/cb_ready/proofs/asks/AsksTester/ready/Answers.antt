use Rattle.std.proofs.Common.{◌≡◌, ◌↔◌, ◌<◌, Bool, List, Result, Some, length, sym, subst, arith}
use Rattle.std.specs.Prelude.{IfOk, IsTrue, get_or, slice_get}
use Rattle.std.proofs.lemmas.Option.{slice_get-get_or}
use Rattle.cb_dd.specs.declared.Stop.{Stop}
use Rattle.cb_heap.specs.declared.Ref.{Ref}
use Rattle.cb_ready.specs.Parked.{Parked}
use Rattle.cb_ready.specs.Ready.{AllHold, named_words}
use Rattle.cb_ready.specs.Asking.{IsReadyAt}
use Rattle.cb_ready.proofs.Looks.{answer-at}
use Rattle.cb_ready.proofs.asks.AsksTester.ready.Goals.{in-Ok, in-Err}
use Rattle.cb_ready.proofs.asks.AsksTester.ready.Goals as goal

pub returns-clause-answer : goal.returns-clause-answer
returns-clause-answer c = elim c.match-all_hold.branch [
  | in-Ok w ↦
      let s = c.self.inside.state.now in
      let p = c.self.inside.program.now in
      let calls = c.self.inside.parked.now in
      let within = c.if-goal-self.false in
      let less : c.args.goal < length calls = omega (arith, within) in
      let call = get_or calls c.args.goal c.index-self-goal.result in
      let at : slice_get calls c.args.goal ≡ Some call = slice_get-get_or calls c.args.goal c.index-self-goal.result less in
      subst (λ (o : Result Bool Stop). IfOk o (λ b. IsTrue b ↔ IsReadyAt c.args.self.now c.args.goal)) (sym w.result-is)
      (answer-at s p c.self.inside.query.now calls c.self.inside.tests c.args.self.now c.self.view_is c.self.invariant c.args.goal call at w.in-Ok.ready
      (λ t fits. subst (λ (d : Parked). IsTrue w.in-Ok.ready ↔ AllHold t s (named_words p d.pred) d.args) c.call.view_is
      (subst (λ (rs : List Ref). IsTrue w.in-Ok.ready ↔ AllHold t s (named_words p c.call.inside.pred) rs) c.as_slice.ensures.value (w.in-Ok.ensures t fits))))
  | in-Err w ↦ subst (λ (o : Result Bool Stop). IfOk o (λ b. IsTrue b ↔ IsReadyAt c.args.self.now c.args.goal)) (sym w.result-is) tt
]
