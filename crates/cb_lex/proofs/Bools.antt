-- Tests that are joined.
use Rattle.std.specs.Prelude.{◌&&◌}
use Rattle.std.proofs.Common.{◌≡◌, Bool, true, false, refl}

pub false_and : (a b : Bool) → a ≡ false → (a && b) ≡ false
false_and false b h = refl
false_and true b h = absurd (cc)

pub and_false : (a b : Bool) → b ≡ false → (a && b) ≡ false
and_false true b h = h
and_false false b h = refl

pub both : (a b : Bool) → a ≡ true → b ≡ true → (a && b) ≡ true
both true true h g = refl
both false b h g = absurd (cc)
both true false h g = absurd (cc)

pub true_and : (a b : Bool) → (a && b) ≡ true → (a ≡ true) × (b ≡ true)
true_and true true h = (refl, refl)
true_and true false h = absurd (cc)
true_and false b h = absurd (cc)
