use Rattle.cb_levels.specs.Meeting.{IsMeeting, to_look}
use Rattle.cb_levels.proofs.fan_in_order.Given as goal

abbrev pub invariant-loop-net : goal.invariant-loop-net
invariant-loop-net l = IsMeeting l.circuit l.meeting.order.items l.meeting.met.items l.meeting.entered.items

abbrev pub decreases-loop-net : goal.decreases-loop-net
decreases-loop-net l = to_look l.circuit l.meeting.entered.items l.meeting.pending.items
