-- Boolean pairs are solvable exactly where they have a solution in the algebra.
use Rattle.std.proofs.Common.{◌≡◌, Bool, List, [], ◌∷◌, map, sym, ◌∙◌, ap, pos, rules}
use Rattle.cb_model.specs.Bits.{Bits, Each}
use Rattle.cb_model.specs.Values.{Ground, Bit, Int, Valuation, expr_value}
use Rattle.cb_model.specs.Equations.{Sat}
use Rattle.cb_laws.specs.Laws.{Equal, pair_item, SolvableByTables}
use Rattle.cb_laws.proofs.Values.{value-leaf}

bit_of : Ground → Bool
bit_of (Bit x) = x
bit_of _ = Bool.false

pub bits_equal : (x y : Bool) → Bit x ≡ Bit y → x ≡ y
unfolding bit_of
bits_equal x y e = ap bit_of e

pub sat_bits : (a : Bits) (b : Valuation) (es : List Equal) → Sat (map pair_item es) a b → Each (λ e. expr_value a b.bits e.0 ≡ expr_value a b.bits e.1) es
sat_bits a b [] s = tt
sat_bits a b (e ∷ es) s = (bits_equal _ _ (sym (value-leaf a b e.0) ∙ s.0 ∙ value-leaf a b e.1), sat_bits a b es s.1)

pub bits_sat : (a : Bits) (b : Valuation) (es : List Equal) → Each (λ e. expr_value a b.bits e.0 ≡ expr_value a b.bits e.1) es → Sat (map pair_item es) a b
bits_sat a b [] s = tt
bits_sat a b (e ∷ es) s = (value-leaf a b e.0 ∙ ap Bit s.0 ∙ sym (value-leaf a b e.1), bits_sat a b es s.1)

pub zero_fits : Rattle.std.specs.Prelude.FitsSigned Rattle.std.specs.Int.w64 (pos 0)
zero_fits = search rules

abbrev pub with_bits : Bits → Valuation
with_bits x = record { bits = x; words = λ n. []; terms = λ n. Int (pos 0) }

pub solvable_by_tables : SolvableByTables
solvable_by_tables t es = (
  (λ h. ((λ n a. (h a tt).b.bits n), λ a. sat_bits a (h a tt).b es (h a tt).sat)),
  λ s a ok. record { b = with_bits (λ n. s.0 n a); sorted = λ n. zero_fits; sat = bits_sat a (with_bits (λ n. s.0 n a)) es (s.1 a) },
)
