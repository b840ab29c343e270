-- What elimination of one level makes, and how many nodes.
use Rattle.std.proofs.Common.{◌≡◌, ℕ, ◌+◌, ◌<◌, ◌≤◌, ◌*◌, ◌^◌, true, false, ◌&&◌, List, [], ◌∷◌, length, None, if◌then◌else◌, sym, ap, ap₂, ◌∙◌, arith}
use Rattle.std.proofs.lemmas.Nat.{pow_pos}
use Rattle.std.specs.List.{filter}
use Rattle.std.specs.Option.{is_some}
use Rattle.cb_model.specs.Bits.{Bits, put, xor}
use Rattle.cb_dd.specs.Diagram.{Store, IsNode, function_of}
use Rattle.cb_ops.specs.Ops.{Grows, StandsFor, Room, DependsOn}
use Rattle.cb_ops.specs.Support.{IsListed}
use Rattle.cb_ops.specs.Substitute.{Images, AreNodes, image_of, substituted}
use Rattle.cb_ops.specs.Composed.{ComposedRoom, is_replaced}
use Rattle.cb_ops.proofs.Ite.{grown-function, grown-depends, Grows-then, literal-is}
use Rattle.cb_ops.proofs.Gather.{agree-at}
use Rattle.cb_ops.proofs.Substitute.{substituted-grown, image-node}
use Rattle.cb_boole.specs.Elimination.{both}
use Rattle.cb_solution.specs.Solution.{IsImage, ImageRoom}
use Rattle.cb_solution.proofs.Lower.{passing-less, rows-squared}

-- the sides of f at the level, and what is 1 where both are
module _ (s t u v : Store) (st : Grows s t) (tu : Grows t u) (f level low high : ℕ) (wf : IsNode s.triples f) (wl : IsNode t.triples low)
    (is_low : StandsFor t.triples low (λ a. function_of s.triples f (put level false a))) (is_high : StandsFor u.triples high (λ a. function_of t.triples f (put level true a))) where
  pub both-is : (r : ℕ) → StandsFor v.triples r (λ a. function_of u.triples low a && function_of u.triples high a) → StandsFor v.triples r (both level (function_of s.triples f))
  unfolding both
  both-is r is = record {
    at = λ a. is.at a ∙ ap₂ ◌&&◌ (grown-function t u tu low wl a ∙ is_low.at a) (is_high.at a ∙ grown-function s t st f wf (put level true a));
  }

-- the bit of the level, turned where f is 1, at the images
module _ (s t u v : Store) (st : Grows s t) (tu : Grows t u) (images : Images) (ws : AreNodes s.triples images) (f level own turned : ℕ) (wf : IsNode s.triples f)
    (is_own : (a : Bits) → function_of t.triples own a ≡ (if a level then function_of s.triples 1 a else function_of s.triples 0 a)) where
  own-bit : (a : Bits) → function_of t.triples own a ≡ a level
  own-bit a = is_own a ∙ literal-is s.triples (a level) a

  module _ (is_turned : StandsFor u.triples turned (λ a. xor (function_of t.triples f a) (function_of t.triples own a))) where
    pub image-is : (r : ℕ) → StandsFor v.triples r (λ a. function_of u.triples turned (substituted u.triples images a)) → IsImage s.triples v.triples f level images r
    image-is r is = record {
      at = λ a.
          is.at a ∙ ap (function_of u.triples turned) (substituted-grown s u (Grows-then s t u st tu) images ws a)
          ∙ is_turned.at (substituted s.triples images a)
          ∙ ap₂ xor (grown-function s t st f wf (substituted s.triples images a)) (own-bit (substituted s.triples images a));
    }

    turned-depends : (ls : List ℕ) → DependsOn s.triples f ls → IsListed ls level → DependsOn u.triples turned ls
    turned-depends ls d there = record {
      agrees = λ a b h.
          is_turned.at a
          ∙ ap₂ xor ((grown-depends s t st f ls wf d).agrees a b h) (own-bit a ∙ agree-at ls a b h level there ∙ sym (own-bit b))
          ∙ sym (is_turned.at b);
    }

    pub image-room : length t.triples ≤ length s.triples + 1 → Room (f ∷ own ∷ []) 2 t u → image_of images level ≡ None → ComposedRoom turned images u v → ImageRoom f level images s v
    image-room one first fresh second = record {
      most = λ ls d there within.
          let m = first.most ls (grown-depends s t st f ls wf d, (record { agrees = λ a b h. own-bit a ∙ agree-at ls a b h level there ∙ sym (own-bit b) }, tt)) in
          let n = second.most ls (record {
            depends = turned-depends ls d there;
            covers = λ l w e. w;
            images = λ l i e. grown-depends s u (Grows-then s t u st tu) i.0 ls (image-node s.triples images l i ws e) (within.each l i e);
          }) in
          let k : length (filter (is_replaced images) ls) * (3 * 2 ^ length ls) ≤ 2 ^ length ls * 2 ^ length ls = rows-squared (length (filter (is_replaced images) ls)) (length ls) (passing-less (is_replaced images) ls level there (ap is_some fresh)) in
          omega (arith, one, m, n, k);
    }

  pub turned-room : length t.triples ≤ length s.triples + 1 → Room (f ∷ own ∷ []) 2 t u → ImageRoom f level images s u
  turned-room one first = record {
    most = λ ls d there within.
        let m = first.most ls (grown-depends s t st f ls wf d, (record { agrees = λ a b h. own-bit a ∙ agree-at ls a b h level there ∙ sym (own-bit b) }, tt)) in
        omega arith;
  }

pub own-room : (s t : Store) (f level : ℕ) (images : Images) → length t.triples ≤ length s.triples + 1 → ImageRoom f level images s t
own-room s t f level images one = record {
  most = λ ls d there within. let p : 0 < 2 ^ length ls = pow_pos (length ls) in omega arith;
}
