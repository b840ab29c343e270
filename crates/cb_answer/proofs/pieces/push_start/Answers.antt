use Rattle.std.proofs.Common.{sym, ◌∙◌, true≢false}
use Rattle.cb_shape.proofs.Telling.{on-ok}
use Rattle.cb_answer.proofs.Starts.{next-told}
use Rattle.cb_answer.proofs.pieces.push_start.Goals.{else-place-eq0-via-then-place-eq0+else-variable_leads, else-place-eq0-via-else-place-eq0}
use Rattle.cb_answer.proofs.pieces.push_start.Goals as goal

pub returns : goal.returns
returns c =
    on-ok c.push_item-2.result
    (next-told c.args.items.now c.args.place _ c.args.line.now.items c.extend_from_slice.new.self.items c.push_item-2.new.line.items
    (elim c.else-place-eq0.branch [
      | else-place-eq0-via-then-place-eq0+else-variable_leads w ↦ λ e l. true≢false (sym l ∙ sym w.variable_leads.ensures ∙ w.if-variable_leads.false)
      | else-place-eq0-via-else-place-eq0 w ↦ λ e l. w.if-place-eq0.false e
    ])
    c.requires c.in_ok-extend_from_slice.ensures.items)
    c.push_item-2.ensures
