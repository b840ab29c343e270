use Rattle.std.proofs.Common.{◌≡◌, List, Bool, false, get_or, sym, ◌∙◌, ap}
use Rattle.std.proofs.lemmas.Result.{on_ok_weaker}
use Rattle.cb_marking.proofs.Seen.{Visited-now}
use Rattle.cb_marking.proofs.links.visit.Goals as goal

pub returns : goal.returns
returns c =
    let new : get_or c.args.seen.now c.args.thing false ≡ false = sym (ap (λ (l : List Bool). get_or l c.args.thing false) c.as_slice.ensures) ∙ c.if-as_slice-thing.false in
    on_ok_weaker c.push.result (λ k. Visited-now c.args.seen.now c.args.waiting.now c.args.thing c.requires new c.set.new.self c.push.new.self c.set.ensures k) c.push.ensures.ok
