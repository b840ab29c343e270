-- What is known of declarations.
use Rattle.std.specs.Prelude.{◌≡◌, true, List, Some, map, length}
use Rattle.cb_model.specs.declared.Sort.{Sort}
use Rattle.cb_model.specs.Directives.{Sign, has_sign, looked_up}

-- each demon has declared sorts
abbrev pub AreDeclared : List Sign → List (Sign × List Sort) → Type 0
AreDeclared demons sorts = (a : Sign) → has_sign demons a ≡ true → has_sign (map (λ e. e.0) sorts) a ≡ true

-- each name has as many declared sorts as arguments
abbrev pub AreCounted : List (Sign × List Sort) → Type 0
AreCounted sorts = (a : Sign) (ss : List Sort) → looked_up sorts a ≡ Some ss → length ss ≡ a.1
