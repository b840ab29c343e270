-- Calls that ask the same.
use Rattle.std.proofs.Common.{◌≡◌, ℕ, Bool, true, false, List, if◌then◌else◌, refl, sym, ap, ◌∙◌, arith}
use Rattle.cb_dd.specs.declared.Triple.{Triple}
use Rattle.cb_dd.specs.Diagram.{function_of}
use Rattle.cb_dd.proofs.Diagrams.{function_of-zero, function_of-one}
use Rattle.cb_ops.specs.Ops.{IsIte}
use Rattle.cb_ops.specs.Call.{IsSameCall}

pub same-then : (f g h f2 g2 h2 f3 g3 h3 : ℕ) → IsSameCall f g h f2 g2 h2 → IsSameCall f2 g2 h2 f3 g3 h3 → IsSameCall f g h f3 g3 h3
same-then f g h f2 g2 h2 f3 g3 h3 s t = record {
  same = λ ts a. t.same ts a ∙ s.same ts a;
  first = λ b two x y z. t.first b two (s.first b two x y z) (s.second b two x y z) (s.third b two x y z);
  second = λ b two x y z. t.second b two (s.first b two x y z) (s.second b two x y z) (s.third b two x y z);
  third = λ b two x y z. t.third b two (s.first b two x y z) (s.second b two x y z) (s.third b two x y z);
}

pub same-self : (f g h : ℕ) → IsSameCall f g h f g h
same-self f g h = record { same = λ ts a. refl; first = λ b two x y z. x; second = λ b two x y z. y; third = λ b two x y z. z }

itself-one : (x y : Bool) → (if x then true else y) ≡ (if x then x else y)
itself-one true y = refl
itself-one false y = refl

itself-zero : (x y : Bool) → (if x then y else false) ≡ (if x then y else x)
itself-zero true y = refl
itself-zero false y = refl

both-swap : (x y : Bool) → (if y then x else false) ≡ (if x then y else false)
both-swap true true = refl
both-swap true false = refl
both-swap false true = refl
both-swap false false = refl

either-swap : (x y : Bool) → (if y then true else x) ≡ (if x then true else y)
either-swap true true = refl
either-swap true false = refl
either-swap false true = refl
either-swap false false = refl

pub same-one : (f g h : ℕ) → g ≡ f → IsSameCall f g h f 1 h
same-one f g h e = record {
  same = λ ts a.
      ap (λ z. if function_of ts f a then z else function_of ts h a) (function_of-one ts a)
      ∙ itself-one (function_of ts f a) (function_of ts h a)
      ∙ ap (λ n. if function_of ts f a then function_of ts n a else function_of ts h a) (sym e);
  first = λ b two x y z. x;
  second = λ b two x y z. omega arith;
  third = λ b two x y z. z;
}

pub same-zero : (f g h : ℕ) → h ≡ f → IsSameCall f g h f g 0
same-zero f g h e = record {
  same = λ ts a.
      ap (λ z. if function_of ts f a then function_of ts g a else z) (function_of-zero ts a)
      ∙ itself-zero (function_of ts f a) (function_of ts g a)
      ∙ ap (λ n. if function_of ts f a then function_of ts g a else function_of ts n a) (sym e);
  first = λ b two x y z. x;
  second = λ b two x y z. y;
  third = λ b two x y z. omega arith;
}

pub same-and : (f g h : ℕ) → h ≡ 0 → IsSameCall f g h g f h
same-and f g h e = record {
  same = λ ts a.
      let z : function_of ts h a ≡ false = ap (λ n. function_of ts n a) e ∙ function_of-zero ts a in
      ap (λ w. if function_of ts g a then function_of ts f a else w) z
      ∙ both-swap (function_of ts f a) (function_of ts g a)
      ∙ ap (λ w. if function_of ts f a then function_of ts g a else w) (sym z);
  first = λ b two x y z. y;
  second = λ b two x y z. x;
  third = λ b two x y z. z;
}

pub same-or : (f g h : ℕ) → g ≡ 1 → IsSameCall f g h h g f
same-or f g h e = record {
  same = λ ts a.
      let o : function_of ts g a ≡ true = ap (λ n. function_of ts n a) e ∙ function_of-one ts a in
      ap (λ w. if function_of ts h a then w else function_of ts f a) o
      ∙ either-swap (function_of ts f a) (function_of ts h a)
      ∙ ap (λ w. if function_of ts f a then w else function_of ts h a) (sym o);
  first = λ b two x y z. z;
  second = λ b two x y z. y;
  third = λ b two x y z. x;
}

-- an answer of the one is an answer of the other
pub same-answer : (ts : List Triple) (f g h f2 g2 h2 r : ℕ) → IsSameCall f g h f2 g2 h2 → IsIte ts ts f2 g2 h2 r → IsIte ts ts f g h r
same-answer ts f g h f2 g2 h2 r s is = record { at = λ a. is.at a ∙ s.same ts a }

pub same-call : (ts : List Triple) (f g h f2 g2 h2 r : ℕ) → IsSameCall f g h f2 g2 h2 → IsIte ts ts f g h r → IsIte ts ts f2 g2 h2 r
same-call ts f g h f2 g2 h2 r s is = record { at = λ a. is.at a ∙ sym (s.same ts a) }
