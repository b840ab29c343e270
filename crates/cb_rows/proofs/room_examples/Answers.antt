use Rattle.cb_rows.proofs.RoomRow as rows
use Rattle.std.proofs.Common.{refl}
use Rattle.cb_laws.proofs.Shapes.{size_values}
use Rattle.cb_rows.proofs.StopRow as stop
use Rattle.cb_rows.proofs.OnlyNo.{only_no}
use Rattle.cb_rows.proofs.room_examples.Goals as goal

pub returns : goal.returns
returns c = record {
  dropped_bound = rows.dropped_bound;
  dropped_allows_none = rows.dropped_allows_none;
  first_bound = rows.first_bound;
  may_stop = rows.says;
  only_no = only_no;
  times_bound = rows.times_bound;
  name_bound = rows.name_bound;
  name_first_bound = rows.name_first_bound;
  may_stop_adding = rows.may_stop_adding;
  larger_bound = simp size_values refl;
  may_stop_behind = stop.may_stop_behind;
  not_without_line = stop.not_without_line;
  circuit_size = rows.bare_size;
  used_parts = refl;
  full_bound = refl;
  verify_bound = rows.verify_bound;
}
