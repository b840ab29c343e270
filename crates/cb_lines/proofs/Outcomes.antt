-- What the outcome of a text that is written says.
use Rattle.std.proofs.Common.{◌≡◌, ◌⊎◌, ℕ, List, Option, Some, None, sym, ap, subst, ◌∙◌, inl, inr, arith}
use Rattle.cb_model.specs.declared.Outcome.{Outcome}
use Rattle.cb_model.specs.declared.Outcome.TheVariants as outcome
use Rattle.cb_model.specs.declared.Side.{Side}
use Rattle.cb_model.specs.declared.Side.TheVariants as side
use Rattle.cb_model.specs.Text.{Text}
use Rattle.cb_model.specs.Tokens.{Byte, Number, Quote}
use Rattle.cb_model.specs.Grammar.{Reading, Whole, Lexed, Syntax, Unfinished, Deep}
use Rattle.cb_model.specs.Directives as dir
use Rattle.cb_model.specs.Directives.{Refusal, BadDirective, SortClash, Unknown}
use Rattle.cb_model.specs.Refusals.{Refused, Refuses}
use Rattle.cb_model.specs.Facts as fact
use Rattle.cb_model.specs.Facts.{FactRefusal}
use Rattle.cb_model.specs.Output.{reading_refused, sort_refused, fact_refused}
use Rattle.cb_lines.specs.Ends.{IsDecided}

-- a refusal for another cause than the words
abbrev pub NotUsage : Outcome → Type 0
NotUsage o = o ≡ outcome.Refused 19 → ⊥

-- the outcome is decided, no refusal of the words, and stops only under a condition
pub record Facts (MayStop : Type 0) (o : Outcome) : Type 0 where
  pub ends : IsDecided o
  pub other : NotUsage o
  pub stops : o ≡ outcome.Stopped → MayStop

-- a decided outcome is no fault
pub no-fault : (s : Side) (o : Outcome) → IsDecided o → o ≡ outcome.Fault s → ⊥
no-fault s o h e = subst IsDecided e h

pub refusal-facts : {MayStop : Type 0} (r : Refused) (lines : List Text) (o : Outcome) → (r.number ≡ 19 → ⊥) → Refuses r lines o → Facts MayStop o
refusal-facts r lines o d h = record {
  ends = subst IsDecided (sym h.1) tt;
  other = λ p. d (let e : outcome.Refused r.number ≡ outcome.Refused 19 = sym h.1 ∙ p in cc);
  stops = λ p. absurd (let e : outcome.Refused r.number ≡ outcome.Stopped = sym h.1 ∙ p in cc);
}

-- ---- the numbers of refusals

other_number : (r q : Refused) → Some q ≡ Some r → (q.number ≡ 19 → ⊥) → r.number ≡ 19 → ⊥
other_number r q e d h = d (ap (λ (x : Option Refused). number_or x) e ∙ h)
  where
    number_or : Option Refused → ℕ
    number_or None = 0
    number_or (Some x) = x.number

-- that of a reading
pub reading-number : {A : Type 0} (x : Reading A) (r : Refused) → reading_refused x ≡ Some r → r.number ≡ 19 → ⊥
reading-number (Whole xs) r e = absurd (cc)
reading-number (Lexed (Byte n)) r e = other_number r _ e (λ (p : 1 ≡ 19). omega arith)
reading-number (Lexed (Number n)) r e = other_number r _ e (λ (p : 2 ≡ 19). omega arith)
reading-number (Lexed (Quote n)) r e = other_number r _ e (λ (p : 3 ≡ 19). omega arith)
reading-number (Syntax n) r e = other_number r _ e (λ (p : 4 ≡ 19). omega arith)
reading-number (Unfinished n) r e = other_number r _ e (λ (p : 5 ≡ 19). omega arith)
reading-number (Deep n) r e = other_number r _ e (λ (p : 6 ≡ 19). omega arith)

-- that of a directive or a rule
pub sort-number : (e : Refusal × ℕ) → (sort_refused e).number ≡ 19 → ⊥
sort-number (BadDirective, n) = λ (p : 7 ≡ 19). omega arith
sort-number (SortClash, n) = λ (p : 8 ≡ 19). omega arith
sort-number (Unknown, n) = λ (p : 9 ≡ 19). omega arith
sort-number (dir.Twice, n) = λ (p : 10 ≡ 19). omega arith

-- that of a fact of circuits
pub fact-number : (e : FactRefusal × ℕ) → (fact_refused e).number ≡ 19 → ⊥
fact-number (fact.Twice, n) = λ (p : 10 ≡ 19). omega arith
fact-number (fact.Pins, n) = λ (p : 11 ≡ 19). omega arith
fact-number (fact.Driven, n) = λ (p : 12 ≡ 19). omega arith
fact-number (fact.Cycle, n) = λ (p : 13 ≡ 19). omega arith
fact-number (fact.Part, n) = λ (p : 14 ≡ 19). omega arith
fact-number (fact.Large, n) = λ (p : 15 ≡ 19). omega arith
