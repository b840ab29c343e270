use Rattle.std.proofs.Common.{◌∙◌, ◌+◌, sym, ap}
use Rattle.std.specs.Prelude.{slice_get}
use Rattle.cb_heap.specs.Heap.{Terms}
use Rattle.cb_heap.specs.Moments.{Moment}
use Rattle.cb_heap.proofs.Back.{slice_get-drop}
use Rattle.cb_heap.proofs.Heap.change.Goals as goal

pub returns-in-Some : goal.returns-in-Some
returns-in-Some c =
    c.in-Some.ensures
    ∙ ap (λ (s : Terms). slice_get s.trail (c.since.inside.trail + c.args.k)) c.self.view_is
    ∙ ap (λ (m : Moment). slice_get c.args.self.now.trail (m.trail + c.args.k)) c.since.view_is
    ∙ sym (slice_get-drop c.args.since.trail c.args.self.now.trail c.args.k)

pub returns-in-None : goal.returns-in-None
returns-in-None c =
    c.in-None.ensures
    ∙ ap (λ (s : Terms). slice_get s.trail (c.since.inside.trail + c.args.k)) c.self.view_is
    ∙ ap (λ (m : Moment). slice_get c.args.self.now.trail (m.trail + c.args.k)) c.since.view_is
    ∙ sym (slice_get-drop c.args.since.trail c.args.self.now.trail c.args.k)
