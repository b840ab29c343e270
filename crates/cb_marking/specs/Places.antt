-- Places and what may stand there.
use Rattle.std.specs.Prelude.{ℕ, zero, suc, Bool, true, false, not, ◌&&◌, List, [], Option, Some, None, ℤ, pos}
use Rattle.std.specs.Borrow.{Bor}
use Rattle.cb_model.specs.declared.Sort.{Sort}
use Rattle.cb_model.specs.declared.Sort.TheVariants as sort
use Rattle.cb_model.specs.Grammar.{Form, Integer}
use Rattle.cb_model.specs.Directives.{Declared, nothing, sorts_of}
use Rattle.cb_model.specs.Sorts.{Place, form_sort}
use Rattle.cb_model.specs.Sorted.{same_sort}

-- whether an integer is 0 or 1
abbrev pub is_truth_value : ℤ → Bool
is_truth_value (pos zero) = true
is_truth_value (pos (suc zero)) = true
is_truth_value _ = false

-- whether a form is 0 or 1
abbrev pub is_bit : Form → Bool
is_bit (Integer z) = is_truth_value z
is_bit _ = false

-- whether what has this sort by its form, and is 0 or 1 or not, may stand at a sort
abbrev pub sort_fits : Sort → Option Sort → Bool → Bool
sort_fits s (Some t) bit = same_sort t s
sort_fits s None bit = not (same_sort s sort.Bus && bit)

-- whether a form may stand at its place
abbrev pub place_fits : Declared → Place → Bool
place_fits d p = sort_fits p.0 (form_sort d.constants p.1) (is_bit p.1)

-- the sorts of n arguments, where these are declared, or none
abbrev pub sorts_given : Option (Bor (List Sort)) → ℕ → List Sort
sorts_given None n = sorts_of nothing ([], n)
sorts_given (Some s) n = s.now
