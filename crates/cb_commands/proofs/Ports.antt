-- The ports of a module, one after another.
use Rattle.std.proofs.Common.{◌≡◌, ℕ, ◌+◌, ◌<◌, List, [], ◌∷◌, ◌++◌, map, take, length, get_or, position, bytes_eq, Some, None, sym, ◌∙◌, ap, subst, Bor, arith}
use Rattle.std.proofs.lemmas.List.{map_more, map-append, get_or_default}
use Rattle.cb_model.specs.Text.{Text, shown_name}
use Rattle.cb_model.specs.Circuits.{Module, flats}
use Rattle.cb_model.specs.Facts.{Circuits}
use Rattle.cb_model.specs.Output.{module_named}
use Rattle.cb_circ.specs.At.{no_module, module_at}
use Rattle.cb_verify.proofs.Named.{lost, is-module}
use Rattle.cb_commands.specs.Answers.{ports_of}

-- one more port
pub port-more : (names : List Text) (k : ℕ) → k < length names → (ps qs : List (Bor Text)) (p : Bor Text) → qs ≡ ps ++ p ∷ [] → p.now ≡ shown_name (get_or names k []) →
    map (λ (p : Bor Text). p.now) ps ≡ map shown_name (take k names) → map (λ (p : Bor Text). p.now) qs ≡ map shown_name (take (k + 1) names)
port-more names k l ps qs p added is h =
    ap (map (λ (p : Bor Text). p.now)) added ∙ map-append (λ (p : Bor Text). p.now) ps (p ∷ []) ∙ ap (λ xs. xs ++ p.now ∷ []) h ∙ ap (λ x. map shown_name (take k names) ++ x ∷ []) is ∙ sym (map_more shown_name names k [] l)

-- all ports
pub all-ports : (c : Circuits) (name : Text) (m : ℕ) → c.flats ≡ flats [] c.modules → position (λ (m : Module). bytes_eq m.name name) c.modules ≡ Some m → (xs : List Text) →
    xs ≡ map shown_name (module_at c m).inputs → xs ≡ map shown_name (ports_of (module_named c name))
all-ports c name m is at xs h = h ∙ sym (ap (λ o. map shown_name (ports_of o)) (is-module c is name m at))

-- no ports
pub no-ports : (c : Circuits) (name : Text) → position (λ (m : Module). bytes_eq m.name name) c.modules ≡ None → (xs : List Text) → xs ≡ [] → xs ≡ map shown_name (ports_of (module_named c name))
no-ports c name e xs h = h ∙ sym (ap (λ o. map shown_name (ports_of o)) (lost (λ (m : Module). bytes_eq m.name name) no_module c.modules e))
