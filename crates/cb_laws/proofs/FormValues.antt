-- The forms of written terms, by their constructors.
use Rattle.std.proofs.Common.{◌≡◌, Bor, ℕ, List, ◌∙◌, map, Some, None, sym, ap}
use Rattle.cb_model.specs.declared.RawTerm.{RawTerm}
use Rattle.cb_model.specs.declared.RawTerm.TheVariants as raw
use Rattle.cb_model.specs.declared.RawTerm.TheOpen.{RawTerm-F}
use Rattle.cb_model.specs.declared.RawTerm.TheFolds.{fold-RawTerm, fold-roll-RawTerm}
use Rattle.cb_model.specs.Grammar.{Form, Variable, Integer, Name, Closed, Open, Not, And, Xor, Or}
use Rattle.cb_model.specs.Forms.{form_of, forms_of, form_step}

pub form_and : (xs : List RawTerm) → form_of (raw.And xs) ≡ And (forms_of (map form_of xs))
form_and xs = ap (fold-RawTerm Form form_step) (sym (raw.rolls-And xs)) ∙ fold-roll-RawTerm Form form_step (RawTerm-F.And xs)

pub form_xor : (xs : List RawTerm) → form_of (raw.Xor xs) ≡ Xor (forms_of (map form_of xs))
form_xor xs = ap (fold-RawTerm Form form_step) (sym (raw.rolls-Xor xs)) ∙ fold-roll-RawTerm Form form_step (RawTerm-F.Xor xs)

pub form_or : (xs : List RawTerm) → form_of (raw.Or xs) ≡ Or (forms_of (map form_of xs))
form_or xs = ap (fold-RawTerm Form form_step) (sym (raw.rolls-Or xs)) ∙ fold-roll-RawTerm Form form_step (RawTerm-F.Or xs)

pub form_not : (x : RawTerm) → form_of (raw.Not x) ≡ Not (form_of x)
form_not x = ap (fold-RawTerm Form form_step) (sym (raw.rolls-Not x)) ∙ fold-roll-RawTerm Form form_step (RawTerm-F.Not x)

pub form_variable : (x : Bor (List ℕ)) → form_of (raw.Variable x) ≡ Variable x.now
form_variable x = ap (fold-RawTerm Form form_step) (sym (raw.rolls-Variable x)) ∙ fold-roll-RawTerm Form form_step (RawTerm-F.Variable x)

pub form_integer : (z : _) → form_of (raw.Integer z) ≡ Integer z
form_integer z = ap (fold-RawTerm Form form_step) (sym (raw.rolls-Integer z)) ∙ fold-roll-RawTerm Form form_step (RawTerm-F.Integer z)

pub form_closed : (xs : List RawTerm) → form_of (raw.List xs None) ≡ Closed (forms_of (map form_of xs))
form_closed xs = ap (fold-RawTerm Form form_step) (sym (raw.rolls-List xs None)) ∙ fold-roll-RawTerm Form form_step (RawTerm-F.List xs None)

pub form_open : (xs : List RawTerm) (y : RawTerm) → form_of (raw.List xs (Some y)) ≡ Open (forms_of (map form_of xs)) (form_of y)
form_open xs y = ap (fold-RawTerm Form form_step) (sym (raw.rolls-List xs (Some y))) ∙ fold-roll-RawTerm Form form_step (RawTerm-F.List xs (Some y))

pub form_name : (x : Bor (List ℕ)) (xs : List RawTerm) → form_of (raw.Name x xs) ≡ Name x.now (forms_of (map form_of xs))
form_name x xs = ap (fold-RawTerm Form form_step) (sym (raw.rolls-Name x xs)) ∙ fold-roll-RawTerm Form form_step (RawTerm-F.Name x xs)

pub ruleset form_values = (form_variable, form_integer, form_name, form_closed, form_open, form_not, form_and, form_xor, form_or)
