use Rattle.cb_rows.proofs.PlainRow as plain
use Rattle.cb_rows.proofs.TryRow as try
use Rattle.cb_rows.proofs.WaitingRow as waiting
use Rattle.cb_rows.proofs.WakeRow as wake
use Rattle.cb_rows.proofs.DemonRow as demon
use Rattle.cb_rows.proofs.CircuitGoalRow as circuit
use Rattle.cb_rows.proofs.BusRow as bus
use Rattle.cb_rows.proofs.CompoundRow as compound
use Rattle.cb_rows.proofs.ParameterRow as parameter
use Rattle.cb_rows.proofs.TwoWokenRow as two_woken
use Rattle.cb_rows.proofs.TwoRulesRow as two_rules
use Rattle.cb_rows.proofs.WideRow as wide_row
use Rattle.std.proofs.Common.{lit<}
use Rattle.cb_rows.proofs.query_examples.Goals as goal

pub returns : goal.returns
returns c = record {
  one_equation = plain.plain;
  next_clause = try.plain;
  holds_at_ones = parameter.sat_at;
  parameter_line = parameter.line;
  waits = waiting.says;
  wakes = wake.says;
  woken_first = wake.says2;
  commits = demon.says;
  own_variables = circuit.own;
  circuit_goal = circuit.says;
  one_counter = bus.says;
  not_one_number = bus.not_one_number;
  compound = compound.says;
  two_woken = two_woken.says;
  first_rule = two_rules.says;
  wide = wide_row.says 4097 (lit< tt);
  not_wide = wide_row.not_wide;
}
