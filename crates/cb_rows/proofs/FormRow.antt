-- Written terms and their forms, by the equations of their constructors.
use Rattle.std.proofs.Common.{refl}
use Rattle.cb_laws.proofs.FormValues.{form_values}
use Rattle.cb_rows.specs.FormExamples.{FormExamples}

pub rows_hold : FormExamples
rows_hold = record {
  operators = simp form_values refl;
  closed = simp form_values refl;
  with_tail = simp form_values refl;
  rule = simp form_values refl;
  fact = simp form_values refl;
  directive = simp form_values refl;
  query = simp form_values refl;
}
