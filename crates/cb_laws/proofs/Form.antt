-- The parametric form denotes exactly the leaf bits of the solutions.
use Rattle.std.proofs.Common.{◌≡◌, ℕ, suc, zero, ◌+◌, Bool, true, false, not, ◌⊎◌, List, [], ◌∷◌, ◌++◌, length, refl, sym, ◌∙◌, ap, subst, inl, inr, append_assoc}
use Rattle.cb_model.specs.Bits.{Bits}
use Rattle.cb_model.specs.Answers.{BitsFrom, IsShape, Gives, Picks, Gen}
use Rattle.cb_model.specs.declared.Tree.{Tree}
use Rattle.cb_model.specs.Values.{Admitted, World}
use Rattle.cb_model.specs.Equations.{Item, Solvable}
use Rattle.cb_laws.specs.Laws.{FormDenotes}

-- a relation on lists of bits that holds of the empty list, of each part from the front, and of some longer list
module _ (R : List Bool → Type 0) (less : (xs ys : List Bool) → R (xs ++ ys) → R xs) (more : (xs : List Bool) → R xs → (w : Bool) × R (xs ++ w ∷ [])) where
  gen_itself : (prefix zs : List Bool) → R (prefix ++ zs) → Gen R prefix zs zs
  gen_itself prefix [] r = tt
  gen_itself prefix (z ∷ zs) r =
      let r' : R ((prefix ++ z ∷ []) ++ zs) = rw append_assoc r in
      (inl (less (prefix ++ z ∷ []) zs r', refl), gen_itself (prefix ++ z ∷ []) zs r')

  other : (prefix : List Bool) (y w : Bool) → (R (prefix ++ y ∷ []) → ⊥) → R (prefix ++ w ∷ []) → R (prefix ++ not y ∷ [])
  other prefix true true h r = absurd (h r)
  other prefix true false h r = r
  other prefix false true h r = r
  other prefix false false h r = absurd (h r)

  picked : (prefix : List Bool) (y z : Bool) → R prefix → Picks R prefix y z → R (prefix ++ z ∷ [])
  picked prefix y z r (inl p) = rw p.1 p.0
  picked prefix y z r (inr p) = let m = more prefix r in rw p.1 (other prefix y m.0 p.0 m.1)

  gen_holds : (prefix ys zs : List Bool) → R prefix → Gen R prefix ys zs → R (prefix ++ zs)
  gen_holds prefix [] [] r g = rw Rattle.std.proofs.Common.append-nil r
  gen_holds prefix (y ∷ ys) (z ∷ zs) r g =
      let h = gen_holds (prefix ++ z ∷ []) ys zs (picked prefix y z r g.0) g.1 in rw append_assoc at h
  gen_holds prefix [] (z ∷ zs) r g = absurd g
  gen_holds prefix (y ∷ ys) [] r g = absurd g

bits_front : (n : ℕ) (f : Bits) (xs ys : List Bool) → BitsFrom n f (xs ++ ys) → BitsFrom n f xs
bits_front n f [] ys h = tt
bits_front n f (x ∷ xs) ys h = (h.0, bits_front (suc n) f xs ys h.1)

bits_more : (n : ℕ) (f : Bits) (xs : List Bool) → BitsFrom n f xs → (w : Bool) × BitsFrom n f (xs ++ w ∷ [])
bits_more n f [] h = (f n, (refl, tt))
bits_more n f (x ∷ xs) h = let m = bits_more (suc n) f xs h.1 in (m.0, (h.0, m.1))

module _ (t : World) (es : List Item) (terms shape : List Tree) (a : Bits) where
  abbrev Given : List Bool → Type 0
  Given = Gives t es terms shape a

  less_given : (xs ys : List Bool) → Given (xs ++ ys) → Given xs
  less_given xs ys r = record { b = r.b; o = r.o; meets = r.meets; fills = r.fills; bits_are = bits_front 0 r.o.bits xs ys r.bits_are }

  more_given : (xs : List Bool) → Given xs → (w : Bool) × Given (xs ++ w ∷ [])
  more_given xs r = let n = bits_more 0 r.o.bits xs r.bits_are in (n.0, record { b = r.b; o = r.o; meets = r.meets; fills = r.fills; bits_are = n.1 })

  empty_given : Admitted t a → Solvable t es → IsShape t es terms shape → Given []
  empty_given ok solved is =
      let s = solved a ok in
      let c = is.covers a s.b (record { admitted = ok; sorted = s.sorted; sat = s.sat }) in
      record { b = s.b; o = c.0; meets = record { admitted = ok; sorted = s.sorted; sat = s.sat }; fills = c.1.1; bits_are = tt }

pub form_denotes : FormDenotes
form_denotes t es terms shape a ok solved is m zs long = (
  (λ r. (zs, long, gen_itself (Given t es terms shape a) (less_given t es terms shape a) (more_given t es terms shape a) [] zs r)),
  λ g. gen_holds (Given t es terms shape a) (less_given t es terms shape a) (more_given t es terms shape a) [] g.0 zs (empty_given t es terms shape a ok solved is) g.2,
)
