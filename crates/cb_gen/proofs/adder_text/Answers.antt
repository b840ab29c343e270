use Rattle.cb_gen.proofs.Whole.{whole-text}
use Rattle.cb_gen.proofs.adder_text.Goals as goal

pub returns : goal.returns
returns c =
    whole-text c.args.n c.in_ok-text.text.items _ _ _ _ _ _ _ _ _ _ _ _ c.in_ok-text.ensures.items c.in_ok-extend_from_slice.ensures.items c.in_ok-extend_from_slice-2.ensures.items c.in_ok-push_ports.ensures
    c.in_ok-extend_from_slice-3.ensures.items c.in_ok-push_outs.ensures c.in_ok-extend_from_slice-4.ensures.items c.in_ok-push_parts.ensures c.in_ok-extend_from_slice-5.ensures.items c.in_ok-push_ports-2.ensures
    c.in_ok-extend_from_slice-6.ensures.items c.in_ok-push_exprs.ensures c.in_ok-extend_from_slice-7.ensures.items
