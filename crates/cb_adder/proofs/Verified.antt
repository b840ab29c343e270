-- What `verify` says of the generated adder.
use Rattle.std.proofs.Common.{◌≡◌, ℕ, Bool, true, false, ◌&&◌, ◌⊎◌, inl, inr, List, [], ◌∷◌, ◌++◌, length, get_or, Some, refl, sym, ◌∙◌, ap, subst, arith, codes}
use Rattle.std.specs.Prelude.{MatchBool, sum_by, ◌==◌}
use Rattle.std.proofs.lemmas.Bool.Decides.{nat_tests}
use Rattle.std.proofs.lemmas.List.Sums.{sum_by-cons}
use Rattle.cb_model.specs.declared.Circuit.{Circuit}
use Rattle.cb_model.specs.declared.Outcome.{Outcome}
use Rattle.cb_model.specs.declared.Outcome.TheVariants.{Done, Stopped}
use Rattle.cb_model.specs.Text.{Text}
use Rattle.cb_model.specs.Circuits.{circuit_of, Agrees, BySpec}
use Rattle.cb_model.specs.Facts.{Circuits, Spec}
use Rattle.cb_model.specs.Commands.{Nodes}
use Rattle.cb_model.specs.Refusals.{Refuses, refused}
use Rattle.cb_model.specs.Room.{expr_size}
use Rattle.cb_model.specs.Verdicts.{Compared, agrees, differs, stopped}
use Rattle.cb_model.specs.Output.{IsDetermined, room_of, BelowNodes, VerifySays}
use Rattle.cb_adder.proofs.Modules.{adder_inputs, adder_outputs, adder_module, adder_flat, adder_exprs, adder_spec, Adds}
use Rattle.cb_adder.proofs.Clauses.{adder_circuits}

-- a comparison with what a circuit agrees with
settled : (names ok : Text) (ports : List Text) (c : Circuit) (Wanted : List Bool → List Bool → Type 0) (TooFew : Type 0) (lines : List Text) (answer : Outcome) → Agrees c Wanted →
    Compared names ok ports c Wanted TooFew lines answer → ((lines ≡ (ok ++ names) ∷ []) × (answer ≡ Done)) ⊎ (TooFew × (lines ≡ codes "stopped: nodes" ∷ []) × (answer ≡ Stopped))
settled names ok ports c Wanted TooFew lines answer same (agrees a e) = inl (ap (λ (x : Text). x ∷ []) e, refl)
settled names ok ports c Wanted TooFew lines answer same (differs input at got wanted d e) =
    absurd (d.differ (d.has ∙ ap (λ (zs : List Bool). get_or zs at false) (same input d.xs d.ys d.width d.outputs d.by_spec) ∙ sym d.wants))
settled names ok ports c Wanted TooFew lines answer same (stopped t e) = inr (t, ap (λ (x : Text). x ∷ []) e, refl)

matched : (b : Bool) (A B : Type 0) → b ≡ true → MatchBool b A B → A
matched true A B e h = h
matched false A B e h = absurd (cc)

same-number : (x y : ℕ) → x ≡ y → (x == y) ≡ true
same-number x y e = grind (arith, nat_tests)

and_true : (a b : Bool) → a ≡ true → b ≡ true → (a && b) ≡ true
and_true true b e f = f
and_true false b e f = absurd (cc)

-- the sizes of all specifications are those of the only one
one-spec : (f : Spec → ℕ) (s : Spec) → f s ≡ sum_by f (s ∷ [])
one-spec f s = let e = sum_by-cons f s [] in let z : sum_by f [] ≡ 0 = refl in omega (arith, e, z)

abbrev pub Right : Circuits → Nodes → List Text → Outcome → Type 0
Right c nodes lines answer = ((lines ≡ codes "verified adder" ∷ []) × (answer ≡ Done)) ⊎
    (BelowNodes nodes (room_of c (codes "adder" ∷ []) (sum_by (λ s. sum_by expr_size s.exprs) c.specs)) × (lines ≡ codes "stopped: nodes" ∷ []) × (answer ≡ Stopped))

module _ (n : ℕ) (a : Adds n) (nodes : Nodes) (lines : List Text) (answer : Outcome) where
  abbrev TooFew : ℕ → Type 0
  TooFew size = BelowNodes nodes (room_of (adder_circuits n) (codes "adder" ∷ []) size)

  abbrev size : Spec → ℕ
  size s = sum_by expr_size s.exprs

  abbrev Settled : ℕ → Type 0
  Settled k = ((lines ≡ codes "verified adder" ∷ []) × (answer ≡ Done)) ⊎ (TooFew k × (lines ≡ codes "stopped: nodes" ∷ []) × (answer ≡ Stopped))

  pub verified : VerifySays (adder_circuits n) (codes "adder") nodes (Some (adder_module n)) (Some (adder_spec n)) lines answer → Right (adder_circuits n) nodes lines answer
  verified h =
      let fits : (length (adder_inputs n) == length (adder_inputs n) && length (adder_outputs n) == length (adder_exprs n)) ≡ true =
      and_true (length (adder_inputs n) == length (adder_inputs n)) (length (adder_outputs n) == length (adder_exprs n)) (same-number (length (adder_inputs n)) (length (adder_inputs n)) refl)
      (same-number (length (adder_outputs n)) (length (adder_exprs n)) (a.outputs ∙ sym a.exprs)) in
      let c = matched (length (adder_inputs n) == length (adder_inputs n) && length (adder_outputs n) == length (adder_exprs n))
      (IsDetermined (circuit_of (adder_flat n)) × Compared (codes "adder") (codes "verified ") (adder_inputs n) (circuit_of (adder_flat n)) (BySpec (adder_exprs n)) (TooFew (size (adder_spec n))) lines answer)
      (Refuses (refused 18 [] (codes "ports differ")) lines answer) fits h in
      subst Settled (one-spec size (adder_spec n))
      (settled (codes "adder") (codes "verified ") (adder_inputs n) (circuit_of (adder_flat n)) (BySpec (adder_exprs n)) (TooFew (size (adder_spec n))) lines answer a.agrees c.1)
