-- What `parts` tells of a node.
use Rattle.std.proofs.Common.{◌≡◌, ℕ, zero, suc, ◌+◌, ◌-◌, ◌<◌, ◌^◌, true, false, List, slice_get, if◌then◌else◌, None, Some, refl, sym, ap, ◌∙◌, ◌⊎◌, inl, inr, arith}
use Rattle.std.proofs.lemmas.Bool.{le-ltb}
use Rattle.std.proofs.lemmas.Option.{same_Some}
use Rattle.std.specs.Option.{option_map}
use Rattle.cb_model.specs.Bits.{put}
use Rattle.cb_dd.specs.declared.Triple.{Triple}
use Rattle.cb_dd.specs.declared.Node.{Node}
use Rattle.cb_dd.specs.Diagram.{function_of, level_of, IsNode, IsDiagram, HasParts, parts_of, triple}
use Rattle.cb_dd.proofs.Diagrams.{function_of-node, function_of-lo, function_of-hi, level_of-zero, level_of-one, level_of-node, node-within, kind_of, bottom, top, inner}

abbrev parts-of-triple : Triple → ℕ × Node × Node
parts-of-triple t = (t.level, record { 0 = t.lo }, record { 0 = t.hi })

triple-of-parts : ℕ × Node × Node → Triple
triple-of-parts p = triple p.0 p.1.0 p.2.0

module _ (ts : List Triple) where
  parts-inner : (k : ℕ) (t : Triple) → slice_get ts k ≡ Some t → parts_of ts (k + 2) ≡ Some (parts-of-triple t)
  parts-inner k t at =
      let e : k + 2 - 2 ≡ k = omega arith in
      ap (λ c. if c then None else option_map parts-of-triple (slice_get ts (k + 2 - 2))) (le-ltb (k + 2) 2 (omega arith))
      ∙ ap (λ i. option_map parts-of-triple (slice_get ts i)) e
      ∙ ap (option_map parts-of-triple) at

  -- the constants have no parts
  pub parts-none : (n : ℕ) → IsNode ts n → parts_of ts n ≡ None → (n ≡ 0) ⊎ (n ≡ 1)
  parts-none n w e = elim (kind_of ts n w) [
    | bottom z ↦ inl z
    | top z ↦ inr z
    | inner k t z at ↦ absurd (let h : parts_of ts n ≡ Some (parts-of-triple t) = ap (parts_of ts) z ∙ parts-inner k t at in cc)
  ]

  -- another node has the parts of its triple
  pub parts-some : (n level : ℕ) (lo hi : Node) → IsNode ts n → parts_of ts n ≡ Some (level, lo, hi) → (k : ℕ) × (n ≡ k + 2) × (slice_get ts k ≡ Some (triple level lo.0 hi.0))
  unfolding triple-of-parts
  parts-some n level lo hi w e = elim (kind_of ts n w) [
    | bottom z ↦ absurd (let h : parts_of ts 0 ≡ Some (level, lo, hi) = ap (parts_of ts) (sym z) ∙ e in cc)
    | top z ↦ absurd (let h : parts_of ts 1 ≡ Some (level, lo, hi) = ap (parts_of ts) (sym z) ∙ e in cc)
    | inner k t z at ↦
        let h : Some (parts-of-triple t) ≡ Some (level, lo, hi) = sym (ap (parts_of ts) z ∙ parts-inner k t at) ∙ e in
        (k, z, at ∙ ap Some (ap triple-of-parts (same_Some _ _ h)))
  ]

module _ (ts : List Triple) (is : IsDiagram ts) where
  pub has-parts : (n level : ℕ) (lo hi : Node) → IsNode ts n → parts_of ts n ≡ Some (level, lo, hi) → HasParts ts n level lo.0 hi.0
  has-parts n level lo hi w e =
      let p = parts-some ts n level lo hi w e in
      let t : Triple = triple level lo.0 hi.0 in
      let o = is.ordered p.0 t p.2 in
      let v = node-within ts is p.0 t p.2 in
      record {
        at = ap (level_of ts) p.1 ∙ level_of-node ts p.0 t p.2;
        small = o.level;
        lo_node = v.1;
        hi_node = v.2;
        lo_below = o.lo_below;
        hi_below = o.hi_below;
        differ = o.differ;
        function = λ a. ap (λ x. function_of ts x a) p.1 ∙ function_of-node ts p.0 t p.2 o.lo o.hi a;
        lo_function = λ a. sym (function_of-lo ts is p.0 t p.2 a) ∙ ap (λ x. function_of ts x (put level false a)) (sym p.1);
        hi_function = λ a. sym (function_of-hi ts is p.0 t p.2 a) ∙ ap (λ x. function_of ts x (put level true a)) (sym p.1);
      }

  pub no-parts : (n : ℕ) → IsNode ts n → parts_of ts n ≡ None → level_of ts n ≡ 2 ^ 32
  no-parts n w e = elim (parts-none ts n w e) [ inl z ↦ ap (level_of ts) z ∙ level_of-zero ts | inr z ↦ ap (level_of ts) z ∙ level_of-one ts ]

pub constant-level : (ts : List Triple) (n : ℕ) → n < 2 → (level_of ts n ≡ 2 ^ 32) × ((n ≡ 0) ⊎ (n ≡ 1))
constant-level ts zero h = (level_of-zero ts, inl refl)
constant-level ts (suc zero) h = (level_of-one ts, inr refl)
constant-level ts (suc (suc k)) h = absurd (omega arith)
