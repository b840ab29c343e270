-- The connectives as choices.
use Rattle.std.proofs.Common.{◌≡◌, ℕ, Bool, true, false, not, ◌&&◌, ◌||◌, List, [], ◌∷◌, if◌then◌else◌, refl, sym, ap, ◌∙◌, arith}
use Rattle.cb_model.specs.Bits.{xor}
use Rattle.cb_dd.specs.declared.Triple.{Triple}
use Rattle.cb_dd.specs.Diagram.{Store, IsNode, function_of}
use Rattle.cb_dd.proofs.Diagrams.{function_of-zero, function_of-one}
use Rattle.cb_ops.specs.Ops.{DependsOn, DependAll, StandsFor, IsIte, Room, HasCause, Grows}
use Rattle.cb_ops.proofs.Ite.{choose, grown-depends, grown-function}

pub depends-zero : (ts : List Triple) (ls : List ℕ) → DependsOn ts 0 ls
depends-zero ts ls = record { agrees = λ a b h. function_of-zero ts a ∙ sym (function_of-zero ts b) }

pub depends-one : (ts : List Triple) (ls : List ℕ) → DependsOn ts 1 ls
depends-one ts ls = record { agrees = λ a b h. function_of-one ts a ∙ sym (function_of-one ts b) }

-- the same bounds, where the second nodes' levels serve for the first
module _ (ns ms : List ℕ) (times : ℕ) (s v : Store) (serves : (ls : List ℕ) → DependAll s.triples ms ls → DependAll s.triples ns ls) where
  pub room-of : Room ns times s v → Room ms times s v
  room-of r = record { most = λ ls d. r.most ls (serves ls d) }

  pub cause-of : HasCause ns times s v → HasCause ms times s v
  cause-of h = record { rose = h.rose; below = λ ls d. h.below ls (serves ls d) }

not-if : (x : Bool) → (if x then false else true) ≡ not x
not-if true = refl
not-if false = refl

and-if : (x y : Bool) → (if x then y else false) ≡ x && y
and-if true y = refl
and-if false y = refl

and-comm : (x y : Bool) → x && y ≡ y && x
and-comm true true = refl
and-comm true false = refl
and-comm false true = refl
and-comm false false = refl

or-if : (x y : Bool) → (if x then true else y) ≡ x || y
or-if true y = refl
or-if false y = refl

or-comm : (x y : Bool) → x || y ≡ y || x
or-comm true true = refl
or-comm true false = refl
or-comm false true = refl
or-comm false false = refl

xor-if : (x y : Bool) → (if x then not y else y) ≡ xor x y
xor-if true y = refl
xor-if false y = refl

pub xor-comm : (x y : Bool) → xor x y ≡ xor y x
xor-comm true true = refl
xor-comm true false = refl
xor-comm false true = refl
xor-comm false false = refl

module _ (s v : Store) (f g : ℕ) where
  pub not-is : (r : ℕ) → IsIte s.triples v.triples f 0 1 r → StandsFor v.triples r (λ a. not (function_of s.triples f a))
  not-is r is = record { at = λ a. is.at a ∙ choose (function_of s.triples f a) _ _ _ _ (function_of-zero s.triples a) (function_of-one s.triples a) ∙ not-if (function_of s.triples f a) }

  pub not-room : Room (f ∷ 0 ∷ 1 ∷ []) 1 s v → Room (f ∷ []) 1 s v
  not-room = room-of _ _ 1 s v (λ ls d. (d.0, (depends-zero s.triples ls, (depends-one s.triples ls, tt))))

  pub not-cause : HasCause (f ∷ 0 ∷ 1 ∷ []) 1 s v → HasCause (f ∷ []) 1 s v
  not-cause = cause-of _ _ 1 s v (λ ls d. (d.0, (depends-zero s.triples ls, (depends-one s.triples ls, tt))))

  pub and-is : (r : ℕ) → IsIte s.triples v.triples f g 0 r → StandsFor v.triples r (λ a. function_of s.triples f a && function_of s.triples g a)
  and-is r is = record { at = λ a. is.at a ∙ ap (λ z. if function_of s.triples f a then function_of s.triples g a else z) (function_of-zero s.triples a) ∙ and-if (function_of s.triples f a) (function_of s.triples g a) }

  pub and-room : Room (f ∷ g ∷ 0 ∷ []) 1 s v → Room (f ∷ g ∷ []) 1 s v
  and-room = room-of _ _ 1 s v (λ ls d. (d.0, (d.1.0, (depends-zero s.triples ls, tt))))

  pub and-cause : HasCause (f ∷ g ∷ 0 ∷ []) 1 s v → HasCause (f ∷ g ∷ []) 1 s v
  and-cause = cause-of _ _ 1 s v (λ ls d. (d.0, (d.1.0, (depends-zero s.triples ls, tt))))

  pub or-is : (r : ℕ) → IsIte s.triples v.triples f 1 g r → StandsFor v.triples r (λ a. function_of s.triples f a || function_of s.triples g a)
  or-is r is = record { at = λ a. is.at a ∙ ap (λ z. if function_of s.triples f a then z else function_of s.triples g a) (function_of-one s.triples a) ∙ or-if (function_of s.triples f a) (function_of s.triples g a) }

  pub or-room : Room (f ∷ 1 ∷ g ∷ []) 1 s v → Room (f ∷ g ∷ []) 1 s v
  or-room = room-of _ _ 1 s v (λ ls d. (d.0, (depends-one s.triples ls, (d.1.0, tt))))

  pub or-cause : HasCause (f ∷ 1 ∷ g ∷ []) 1 s v → HasCause (f ∷ g ∷ []) 1 s v
  or-cause = cause-of _ _ 1 s v (λ ls d. (d.0, (depends-one s.triples ls, (d.1.0, tt))))

  -- the two in the other order
  pub swapped-room : (times : ℕ) → Room (g ∷ f ∷ []) times s v → Room (f ∷ g ∷ []) times s v
  swapped-room times = room-of _ _ times s v (λ ls d. (d.1.0, (d.0, tt)))

  pub swapped-cause : (times : ℕ) → HasCause (g ∷ f ∷ []) times s v → HasCause (f ∷ g ∷ []) times s v
  swapped-cause times = cause-of _ _ times s v (λ ls d. (d.1.0, (d.0, tt)))

  pub and-swapped : (r : ℕ) → StandsFor v.triples r (λ a. function_of s.triples g a && function_of s.triples f a) → StandsFor v.triples r (λ a. function_of s.triples f a && function_of s.triples g a)
  and-swapped r is = record { at = λ a. is.at a ∙ and-comm (function_of s.triples g a) (function_of s.triples f a) }

  pub or-swapped : (r : ℕ) → StandsFor v.triples r (λ a. function_of s.triples g a || function_of s.triples f a) → StandsFor v.triples r (λ a. function_of s.triples f a || function_of s.triples g a)
  or-swapped r is = record { at = λ a. is.at a ∙ or-comm (function_of s.triples g a) (function_of s.triples f a) }

  pub xor-swapped : (r : ℕ) → StandsFor v.triples r (λ a. xor (function_of s.triples g a) (function_of s.triples f a)) → StandsFor v.triples r (λ a. xor (function_of s.triples f a) (function_of s.triples g a))
  xor-swapped r is = record { at = λ a. is.at a ∙ xor-comm (function_of s.triples g a) (function_of s.triples f a) }

-- the second negated where the first is 1
module _ (s t v : Store) (st : Grows s t) (f g other : ℕ) (wf : IsNode s.triples f) (wg : IsNode s.triples g) where
  pub xor-is : (r : ℕ) → StandsFor t.triples other (λ a. not (function_of s.triples g a)) → IsIte t.triples v.triples f other g r → StandsFor v.triples r (λ a. xor (function_of s.triples f a) (function_of s.triples g a))
  xor-is r negated is = record {
    at = λ a. is.at a
        ∙ ap (λ x. if x then function_of t.triples other a else function_of t.triples g a) (grown-function s t st f wf a)
        ∙ choose (function_of s.triples f a) _ _ _ _ (negated.at a) (grown-function s t st g wg a)
        ∙ xor-if (function_of s.triples f a) (function_of s.triples g a);
  }

  depends-not : (ls : List ℕ) → StandsFor t.triples other (λ a. not (function_of s.triples g a)) → DependsOn s.triples g ls → DependsOn t.triples other ls
  depends-not ls is d = record { agrees = λ a b h. is.at a ∙ ap not (d.agrees a b h) ∙ sym (is.at b) }

  pub xor-room : Room (g ∷ []) 1 s t → StandsFor t.triples other (λ a. not (function_of s.triples g a)) → Room (f ∷ other ∷ g ∷ []) 1 t v → Room (f ∷ g ∷ []) 2 s v
  xor-room first negated second = record {
    most = λ ls d.
        let m = first.most ls (d.1.0, tt) in
        let n = second.most ls (grown-depends s t st f ls wf d.0, (depends-not ls negated d.1.0, (grown-depends s t st g ls wg d.1.0, tt))) in
        omega arith;
  }
