-- What a comparison of modules answers, from what was looked up.
use Rattle.std.proofs.Common.{◌≡◌, ◌≢◌, ℕ, ◌+◌, ◌-◌, ◌<◌, ◌^◌, Bool, true, false, ◌&&◌, ◌==◌, List, [], ◌∷◌, map, length, sum, sum_by, position, bytes_eq, Some, None, Err, refl, sym, subst}
use Rattle.std.specs.Prelude.{Result, Ok, MatchBool}
use Rattle.cb_model.specs.declared.Circuit.{Circuit}
use Rattle.cb_model.specs.declared.Expr.{Expr}
use Rattle.cb_model.specs.Text.{Text}
use Rattle.cb_model.specs.Circuits.{Flat, Module, flat_named, flats, circuit_of, BySpec, Outputs}
use Rattle.cb_model.specs.Facts.{Circuits, Spec}
use Rattle.cb_model.specs.Room.{circuit_pins, expr_size, room_v}
use Rattle.cb_model.specs.Output.{IsDetermined, module_named, spec_named, room_of}
use Rattle.cb_dd.specs.declared.Stop.{Stop}
use Rattle.cb_dd.specs.declared.Stop.TheVariants as stop
use Rattle.cb_circ.specs.At.{module_at, flat_at, no_module, no_spec, spec_at}
use Rattle.cb_verify.specs.declared.Verdict.{Verdict}
use Rattle.cb_verify.specs.declared.modules.VerifyError.{VerifyError}
use Rattle.cb_verify.specs.declared.modules.VerifyError.TheVariants as error
use Rattle.cb_verify.specs.Verdict.{IsRight}
use Rattle.cb_verify.specs.Modules.{Compares, VerifyAnswers, SameAnswers}
use Rattle.cb_verify.proofs.Named.{found, lost, named-flat, is-module, verify-room, same-room}

-- a verdict
compares-ok : (c : Circuit) (W : List Bool → List Bool → Type 0) (room budget : ℕ) (v : Verdict) → IsDetermined c → IsRight c W v → Compares c W room budget (Ok v)
compares-ok c W room budget v d h = record { determined = d; verdict = h; stops = tt; nodes = λ e. absurd (cc); unbounded = λ e. absurd (cc) }

-- a stop
compares-stop : (c : Circuit) (W : List Bool → List Bool → Type 0) (room budget : ℕ) (s : Stop) → IsDetermined c → (s ≡ stop.Nodes → budget < room) → (s ≡ stop.Nodes → budget ≢ 2 ^ 64 - 1) →
    Compares c W room budget (Err (error.Stop s))
compares-stop c W room budget s d h k = record { determined = d; verdict = tt; stops = tt; nodes = λ e. h (cc); unbounded = λ e. k (cc) }

-- different ports
shape-case : (P : Type 0) (b : Bool) → b ≡ false → (r : Result Verdict VerifyError) → r ≡ Err error.Shape → MatchBool b P (r ≡ Err error.Shape)
shape-case P b e r h = subst (λ x. MatchBool x P (r ≡ Err error.Shape)) (sym e) h

-- ---- `verify`

module _ (c : Circuits) (name : Text) (budget : ℕ) where
  pub verify-no-module : position (λ (m : Module). bytes_eq m.name name) c.modules ≡ None → VerifyAnswers c name budget (module_named c name) (spec_named c name) (Err error.NoModule)
  verify-no-module e = subst (λ o. VerifyAnswers c name budget o (spec_named c name) (Err error.NoModule)) (sym (lost (λ (m : Module). bytes_eq m.name name) no_module c.modules e)) refl

  module _ (is : c.flats ≡ flats [] c.modules) (k : ℕ) (at : position (λ (m : Module). bytes_eq m.name name) c.modules ≡ Some k) where
    pub verify-no-spec : position (λ (s : Spec). bytes_eq s.name name) c.specs ≡ None → VerifyAnswers c name budget (module_named c name) (spec_named c name) (Err error.NoSpec)
    verify-no-spec e =
        subst (λ o. VerifyAnswers c name budget o (spec_named c name) (Err error.NoSpec)) (sym (is-module c is name k at))
        (subst (λ o. VerifyAnswers c name budget (Some (module_at c k)) o (Err error.NoSpec)) (sym (lost (λ (s : Spec). bytes_eq s.name name) no_spec c.specs e)) refl)

    module _ (p : ℕ) (at_spec : position (λ (s : Spec). bytes_eq s.name name) c.specs ≡ Some p) where
      given : (r : Result Verdict VerifyError) → VerifyAnswers c name budget (Some (module_at c k)) (Some (spec_at c p)) r → VerifyAnswers c name budget (module_named c name) (spec_named c name) r
      given r h =
          subst (λ o. VerifyAnswers c name budget o (spec_named c name) r) (sym (is-module c is name k at))
          (subst (λ o. VerifyAnswers c name budget (Some (module_at c k)) o r) (sym (found (λ (s : Spec). bytes_eq s.name name) no_spec c.specs p at_spec).1) h)

      abbrev pub fits : Bool
      fits = length (module_at c k).inputs == length (spec_at c p).inputs && length (module_at c k).outputs == length (spec_at c p).exprs

      pub verify-shape : fits ≡ false → VerifyAnswers c name budget (module_named c name) (spec_named c name) (Err error.Shape)
      verify-shape e = given (Err error.Shape) (shape-case _ fits e (Err error.Shape) refl)

      module _ (fit : fits ≡ true) where
        compared : (r : Result Verdict VerifyError) → Compares (circuit_of (flat_at c k)) (BySpec (spec_at c p).exprs) (room_of c (name ∷ []) (sum_by expr_size (spec_at c p).exprs)) budget r →
            VerifyAnswers c name budget (module_named c name) (spec_named c name) r
        compared r h =
            given r (subst (λ b. MatchBool b (Compares (circuit_of (flat_named c.flats name)) (BySpec (spec_at c p).exprs) (room_of c (name ∷ []) (sum_by expr_size (spec_at c p).exprs)) budget r) (r ≡ Err error.Shape)) (sym fit)
            (subst (λ (f : Flat). Compares (circuit_of f) (BySpec (spec_at c p).exprs) (room_of c (name ∷ []) (sum_by expr_size (spec_at c p).exprs)) budget r) (sym (named-flat c is name k at)) h))

        module _ (es : List Expr) (exprs : es ≡ (spec_at c p).exprs) where
          pub verify-verdict : (v : Verdict) → IsDetermined (circuit_of (flat_at c k)) → IsRight (circuit_of (flat_at c k)) (BySpec es) v → VerifyAnswers c name budget (module_named c name) (spec_named c name) (Ok v)
          verify-verdict v d h =
              compared (Ok v) (compares-ok _ _ _ _ v d (subst (λ xs. IsRight (circuit_of (flat_at c k)) (BySpec xs) v) exprs h))

          pub verify-stop : (s : Stop) → IsDetermined (circuit_of (flat_at c k)) →
              (s ≡ stop.Nodes → budget < room_v (circuit_pins (circuit_of (flat_at c k)) + sum (map expr_size es)) 0 (length (module_at c k).outputs) (length (module_at c k).inputs)) →
              (s ≡ stop.Nodes → budget ≢ 2 ^ 64 - 1) → VerifyAnswers c name budget (module_named c name) (spec_named c name) (Err (error.Stop s))
          verify-stop s d h u =
              compared (Err (error.Stop s)) (compares-stop _ _ _ _ s d (λ e. subst (λ xs. budget < room_of c (name ∷ []) (sum_by expr_size xs)) exprs (verify-room c is name k at es budget (h e))) u)

-- ---- `same`

module _ (c : Circuits) (one two : Text) (budget : ℕ) where
  pub same-no-first : position (λ (m : Module). bytes_eq m.name one) c.modules ≡ None → SameAnswers c one two budget (module_named c one) (module_named c two) (Err error.NoModule)
  same-no-first e = subst (λ o. SameAnswers c one two budget o (module_named c two) (Err error.NoModule)) (sym (lost (λ (m : Module). bytes_eq m.name one) no_module c.modules e)) refl

  module _ (is : c.flats ≡ flats [] c.modules) (k : ℕ) (at : position (λ (m : Module). bytes_eq m.name one) c.modules ≡ Some k) where
    pub same-no-second : position (λ (m : Module). bytes_eq m.name two) c.modules ≡ None → SameAnswers c one two budget (module_named c one) (module_named c two) (Err error.NoModule)
    same-no-second e =
        subst (λ o. SameAnswers c one two budget o (module_named c two) (Err error.NoModule)) (sym (is-module c is one k at))
        (subst (λ o. SameAnswers c one two budget (Some (module_at c k)) o (Err error.NoModule)) (sym (lost (λ (m : Module). bytes_eq m.name two) no_module c.modules e)) refl)

    module _ (n : ℕ) (at_two : position (λ (m : Module). bytes_eq m.name two) c.modules ≡ Some n) where
      both : (r : Result Verdict VerifyError) → SameAnswers c one two budget (Some (module_at c k)) (Some (module_at c n)) r → SameAnswers c one two budget (module_named c one) (module_named c two) r
      both r h =
          subst (λ o. SameAnswers c one two budget o (module_named c two) r) (sym (is-module c is one k at))
          (subst (λ o. SameAnswers c one two budget (Some (module_at c k)) o r) (sym (is-module c is two n at_two)) h)

      abbrev pub agree : Bool
      agree = length (module_at c k).inputs == length (module_at c n).inputs && length (module_at c k).outputs == length (module_at c n).outputs

      pub same-shape : agree ≡ false → SameAnswers c one two budget (module_named c one) (module_named c two) (Err error.Shape)
      same-shape e = both (Err error.Shape) (shape-case _ agree e (Err error.Shape) refl)

      module _ (fit : agree ≡ true) where
        both-compared : (r : Result Verdict VerifyError) → IsDetermined (circuit_of (flat_at c n)) → Compares (circuit_of (flat_at c k)) (Outputs (circuit_of (flat_at c n))) (room_of c (one ∷ two ∷ []) 0) budget r →
            SameAnswers c one two budget (module_named c one) (module_named c two) r
        both-compared r d h =
            both r (subst (λ b. MatchBool b (IsDetermined (circuit_of (flat_named c.flats two)) × Compares (circuit_of (flat_named c.flats one)) (Outputs (circuit_of (flat_named c.flats two))) (room_of c (one ∷ two ∷ []) 0) budget r) (r ≡ Err error.Shape)) (sym fit) (
              subst (λ (f : Flat). IsDetermined (circuit_of f)) (sym (named-flat c is two n at_two)) d,
              subst (λ (f : Flat). Compares (circuit_of f) (Outputs (circuit_of (flat_named c.flats two))) (room_of c (one ∷ two ∷ []) 0) budget r) (sym (named-flat c is one k at))
                  (subst (λ (f : Flat). Compares (circuit_of (flat_at c k)) (Outputs (circuit_of f)) (room_of c (one ∷ two ∷ []) 0) budget r) (sym (named-flat c is two n at_two)) h),
            ))

        pub same-verdict : (v : Verdict) → IsDetermined (circuit_of (flat_at c k)) × IsDetermined (circuit_of (flat_at c n)) → IsRight (circuit_of (flat_at c k)) (Outputs (circuit_of (flat_at c n))) v → SameAnswers c one two budget (module_named c one) (module_named c two) (Ok v)
        same-verdict v d h = both-compared (Ok v) d.1 (compares-ok _ _ _ _ v d.0 h)

        pub same-stop : (s : Stop) → IsDetermined (circuit_of (flat_at c k)) × IsDetermined (circuit_of (flat_at c n)) →
            (s ≡ stop.Nodes → budget < room_v (circuit_pins (circuit_of (flat_at c k)) + circuit_pins (circuit_of (flat_at c n))) 0 (length (module_at c k).outputs) (length (module_at c k).inputs)) →
            (s ≡ stop.Nodes → budget ≢ 2 ^ 64 - 1) → SameAnswers c one two budget (module_named c one) (module_named c two) (Err (error.Stop s))
        same-stop s d h u = both-compared (Err (error.Stop s)) d.1 (compares-stop _ _ _ _ s d.0 (λ e. same-room c is one k at two n at_two budget (h e)) u)
