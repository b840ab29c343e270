-- Choices by bits.
use Rattle.std.proofs.Common.{◌≡◌, Bool, ◌∙◌, ap}
use Rattle.std.specs.Prelude.{if◌then◌else◌}

pub same_choice : (x y u v w z : Bool) → x ≡ y → u ≡ v → w ≡ z → (if x then u else w) ≡ (if y then v else z)
same_choice x y u v w z e f g = ap (λ t. if t then u else w) e ∙ ap (λ t. if y then t else w) f ∙ ap (λ t. if y then v else t) g
