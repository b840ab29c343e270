-- The most general solution, from the images of the levels and the values with these put in.
use Rattle.std.proofs.Common.{◌≡◌, ℕ, List, Option, Some, None, sym, ap, subst, ◌∙◌}
use Rattle.std.specs.Prelude.{IfSome, IfNone}
use Rattle.std.proofs.Math.Path.{fun_ext}
use Rattle.cb_model.specs.Bits.{xor}
use Rattle.cb_dd.specs.declared.Node.{Node}
use Rattle.cb_dd.specs.Diagram.{Store, function_of}
use Rattle.cb_ops.specs.Ops.{Grows, StandsFor}
use Rattle.cb_ops.specs.Substitute.{Images}
use Rattle.cb_boole.specs.Elimination.{Function, rest, solved}
use Rattle.cb_solution.specs.Solution.{IsSolution, HasRest}
use Rattle.cb_solution.proofs.Lower.{solution-lower}
use Rattle.cb_elim.specs.Store.{AreThere, value_in}
use Rattle.cb_elim.specs.Equation.{AreGeneral, AreMoved, HasNoSolution, IsElimination, IsGeneral, differ}
use Rattle.cb_elim.proofs.Views.{value-still}

pub some-then : {X : Type 0} (o : Option X) (P Q : X → Type 0) → IfSome o P → ((x : X) → P x → Q x) → IfSome o Q
some-then None P Q h f = tt
some-then (Some x) P Q h f = f x h

pub none-then : {X : Type 0} (o : Option X) (P Q : Type 0) → IfNone o P → (P → Q) → IfNone o Q
none-then None P Q h f = f h
none-then (Some x) P Q h f = tt

module _ (s t u : Store) (st : Grows s t) (tu : Grows t u) (constants : ℕ) (f g e : ℕ)
    (is : StandsFor t.triples e (λ a. xor (function_of s.triples f a) (function_of s.triples g a))) (levels : List ℕ) (el : IsElimination constants (function_of t.triples e) levels) where
  equation : function_of t.triples e ≡ differ s.triples f g
  equation = fun_ext (λ p. is.at p)

  elimination : IsElimination constants (differ s.triples f g) levels
  elimination = subst (λ (h : Function). IsElimination constants h levels) equation el

  pub none-at : HasRest t.triples e levels → HasNoSolution s.triples constants f g
  none-at r = record { levels = levels; elimination = elimination; at = r.at; left = ap (λ (h : Function). rest levels h r.at) (sym equation) ∙ r.left }

  pub general-images : (images : Images) → IsSolution t.triples u.triples e levels images → AreGeneral s.triples u.triples constants f g images
  general-images images sol = record {
    levels = levels;
    elimination = elimination;
    none_left = λ p. ap (λ (h : Function). rest levels h p) (sym equation) ∙ sol.none_left p;
    rise = sol.rise;
    within = sol.within;
    nodes = sol.nodes;
    lower = solution-lower t.triples u.triples e levels images el.falls sol;
    at = λ p. sol.at p ∙ ap (λ (h : Function). solved levels h p) equation;
  }

-- the values with the images put in
pub general-at : (s t u : Store) → Grows s t → (constants : ℕ) (ns : List Node) → AreThere s.triples ns → (f g : ℕ) (images : Images) → AreGeneral s.triples t.triples constants f g images → (vs : List Node) → AreMoved t.triples u.triples images ns vs →
    IsGeneral s.triples u.triples constants ns f g vs
general-at s t u st constants ns there f g images gen vs m = record {
  levels = gen.levels;
  elimination = gen.elimination;
  none_left = gen.none_left;
  there = m.there;
  number = m.number;
  at = λ x p.
      m.at x p
      ∙ ap (value_in t.triples ns x) (gen.at p)
      ∙ ap (λ (h : Function). h (solved gen.levels (differ s.triples f g) p)) (value-still s t st ns there x);
}
