-- What the outside tells, by computation and by cases of what is written.
use Rattle.std.proofs.Common.{◌≡◌, ℕ, true, false, [], ◌++◌, refl, sym, ◌∙◌, ap, inl, inr, codes, arith, lit≤, append_assoc}
use Rattle.std.specs.Prelude.{Option, Some, None, bytes_eq, ◌⊎◌, ◌==◌}
use Rattle.std.specs.Fmt.{digits}
use Rattle.cb_model.specs.Text.{Text}
use Rattle.cb_model.specs.Output.{ReadWhole}
use Rattle.cb_model.specs.Outside.{Wrote}
use Rattle.cb_model.specs.declared.Outcome.{Outcome}
use Rattle.cb_model.specs.declared.Outcome.TheVariants as outcome
use Rattle.cb_model.specs.declared.Side.TheVariants as side
use Rattle.cb_rows.specs.OutsideExamples.{OutsideExamples}

-- the text that is told
abbrev text_of : Option Text → Text
text_of None = []
text_of (Some x) = x

in_order : {before now : Option Text} {x y : Text} (told : Text) → Wrote before (Some told) x → Wrote (Some told) now y → Wrote before now (x ++ y)
in_order {x = x} {y = y} told first then = record {
  told = λ all e.
      let l = then.told all e in
      let m = first.told told refl in
      (m.0, m.1, l.2 ∙ ap (λ z. z ++ y) (sym (ap text_of l.1) ∙ m.2) ∙ append_assoc m.0 x y);
}

not_in_front : Wrote (Some (codes "ab")) (Some (codes "cdab")) (codes "cd") → ⊥
not_in_front w =
    let l = w.told (codes "cdab") refl in
    let e : true ≡ false = ap (bytes_eq (codes "cdab")) (l.2 ∙ ap (λ z. z ++ codes "cd") (sym (ap text_of l.1))) in
    cc

not_fewer : Wrote (Some (codes "ab")) (Some (codes "abc")) (codes "cd") → ⊥
not_fewer w =
    let l = w.told (codes "abc") refl in
    let e : true ≡ false = ap (bytes_eq (codes "abc")) (l.2 ∙ ap (λ z. z ++ codes "cd") (sym (ap text_of l.1))) in
    cc

begins_to_tell : Wrote None (Some (codes "cd")) (codes "cd") → ⊥
begins_to_tell w = let e = (w.told (codes "cd") refl).1 in cc

neither_done : (outcome.Done ≡ outcome.Refused 19) ⊎ (outcome.Done ≡ outcome.Fault side.Output) → ⊥
neither_done (inl e) = cc
neither_done (inr e) = cc

neither_file : (outcome.Fault side.File ≡ outcome.Refused 19) ⊎ (outcome.Fault side.File ≡ outcome.Fault side.Output) → ⊥
neither_file (inl e) = cc
neither_file (inr e) = cc

-- the number of a refusal
abbrev number_of : Outcome → ℕ
number_of (outcome.Refused n) = n
number_of _ = 0

other_number : outcome.Refused 5 ≡ outcome.Refused 19 → ⊥
other_number e = let n : true ≡ false = ap (λ o. number_of o == 5) e in cc

left_over : ReadWhole (codes "p.") (Some (codes "p.")) → ⊥
left_over e = cc

pub rows_hold : OutsideExamples
unfolding digits
rows_hold = record {
  lines_of_places = refl;
  files = refl;
  statuses = refl;
  four_terms = record { written = refl; few = lit≤ tt; few_goals = lit≤ tt; few_terms = lit≤ tt };
  not_three = λ a. let h = a.few_terms in omega arith;
  five_together = λ a. let h = a.few_terms in omega arith;
  no_query = record { written = refl; few = lit≤ tt; few_goals = lit≤ tt; few_terms = lit≤ tt };
  one_query = record { written = refl; few = lit≤ tt; few_goals = lit≤ tt; few_terms = lit≤ tt };
  without_goals = λ a. let h = a.written in cc;
  no_clause = record { written = refl; few = lit≤ tt; few_goals = lit≤ tt; few_terms = lit≤ tt };
  one_clause = record { written = refl; few = lit≤ tt; few_goals = lit≤ tt; few_terms = lit≤ tt };
  three_terms = record { written = refl; few = lit≤ tt; few_goals = lit≤ tt; few_terms = lit≤ tt };
  not_two = λ a. let h = a.few_terms in omega arith;
  without_arguments = λ a. let h = a.written in cc;
  clause_lines = refl;
  rises = lit≤ tt;
  rises_more = lit≤ tt;
  must_rise = λ h. omega arith;
  rises_last = lit≤ tt;
  must_rise_last = λ h. omega arith;
  stands_at_end = lit≤ tt;
  appended = record { told = λ all e. (codes "ab", refl, sym (ap text_of e)) };
  in_order = in_order;
  not_in_front = not_in_front;
  not_fewer = not_fewer;
  tells_nothing = record { told = λ all e. absurd (cc) };
  begins_to_tell = begins_to_tell;
  listed = refl;
  is_number = tt;
  max_is_none = λ h. h;
  names_number = tt;
  names_max = λ h. h;
  check_names_none = λ h. h;
  usage_refused = record { refuses = λ e. inl refl; only = λ e. refl };
  usage_output = record { refuses = λ e. inr refl; only = λ e. refl };
  usage_done = λ u. neither_done (u.refuses refl);
  usage_file = λ u. neither_file (u.refuses refl);
  check_done = record { refuses = λ e. absurd (cc); only = λ e. absurd (cc) };
  check_other = record { refuses = λ e. absurd (cc); only = λ e. absurd (other_number e) };
  check_usage = λ u. let e = u.only refl in cc;
  unbuilt_line = refl;
  bare_names = refl;
  printed = refl;
  run_outcomes = refl;
  last_nodes = refl;
  last_resolutions = refl;
  last_bits = refl;
  inner_quote = refl;
  layouts = refl;
  pins = refl;
  pins_of_mux = refl;
  counts = refl;
  own_source = refl;
  left_over = left_over;
  signs = refl;
}
