-- What a flattened module carries is what each consistent valuation has.
use Rattle.std.proofs.Common.{◌≡◌, ℕ, zero, suc, ◌+◌, ◌-◌, ◌<◌, ◌≤◌, Bool, false, List, [], ◌∷◌, ◌++◌, map, length, get_or, take, slice_get, Some, inl, inr, refl, sym, ◌∙◌, ap, subst, arith, length-append}
use Rattle.std.proofs.lemmas.Bool.{cases_lt}
use Rattle.std.proofs.lemmas.Option.{same_Some, slice_get_within}
use Rattle.std.proofs.lemmas.List.{same_lists, get_or_default, get_or_append_left, get_or-append-add}
use Rattle.std.proofs.Math.Seq.{take-append_seam}
use Rattle.cb_model.specs.declared.GateKind.{GateKind}
use Rattle.cb_model.specs.declared.Gate.{Gate}
use Rattle.cb_model.specs.Bits.{Each}
use Rattle.cb_model.specs.Circuits.{gate_value, read_all, GateHolds, Consistent, Net, In, Own, Flat, net_number, gates_from, circuit_of}
use Rattle.cb_model.specs.Carry.{Carries, input, gate, AllCarry, none, more}
use Rattle.cb_flat.specs.Carry.{TotalHasOne}

-- a net carries one bit
mutual
  pub carries_one : (f : Flat) (xs : List Bool) (n : Net) (b c : Bool) → Carries f xs n b → Carries f xs n c → b ≡ c
  carries_one f xs (In i) b c (input l p) (input m q) = p ∙ sym q
  carries_one f xs (Own k) b c (gate g bs at all p) (gate h cs at2 all2 q) =
      let e : g ≡ h = same_Some g h (sym at ∙ at2) in
      let same : bs ≡ cs = all_carry_one f xs h.1 bs cs (subst (λ (x : GateKind × List Net). AllCarry f xs x.1 bs) e all) all2 in
      p ∙ ap (λ (x : GateKind × List Net). gate_value x.0 bs) e ∙ ap (gate_value h.0) same ∙ sym q

  all_carry_one : (f : Flat) (xs : List Bool) (ns : List Net) (bs cs : List Bool) → AllCarry f xs ns bs → AllCarry f xs ns cs → bs ≡ cs
  all_carry_one f xs [] [] [] none none = refl
  all_carry_one f xs [] [] (c ∷ cs) p q = elim q [ ]
  all_carry_one f xs [] (b ∷ bs) cs p q = elim p [ ]
  all_carry_one f xs (n ∷ ns) [] cs p q = elim p [ ]
  all_carry_one f xs (n ∷ ns) (b ∷ bs) [] p q = elim q [ ]
  all_carry_one f xs (n ∷ ns) (b ∷ bs) (c ∷ cs) (more p ps) (more q qs) = ap (λ x. x ∷ bs) (carries_one f xs n b c p q) ∙ ap (λ l. c ∷ l) (all_carry_one f xs ns bs cs ps qs)

-- the k-th of the numbered gates
numbered : (P : Gate → Type 0) (n at : ℕ) (gs : List (GateKind × List Net)) (k : ℕ) (g : GateKind × List Net) → Each P (gates_from n at gs) → slice_get gs k ≡ Some g
    → P (record { kind = g.0; ins = map (net_number n) g.1; out = at + k })
numbered P n at [] k g h e = absurd (let l : k < 0 = slice_get_within [] k g e in omega arith)
numbered P n at (x ∷ gs) zero g h e =
    subst (λ (y : GateKind × List Net). P (record { kind = y.0; ins = map (net_number n) y.1; out = at + 0 })) (same_Some x g e) (subst (λ o. P (record { kind = x.0; ins = map (net_number n) x.1; out = o })) (let z : at ≡ at + 0 = omega arith in z) h.0)
numbered P n at (x ∷ gs) (suc k) g h e =
    subst (λ o. P (record { kind = g.0; ins = map (net_number n) g.1; out = o })) (let z : suc at + k ≡ at + suc k = omega arith in z) (numbered P n (suc at) gs k g h.1 e)

-- all numbered gates
each_numbered : (P : Gate → Type 0) (n at : ℕ) (gs : List (GateKind × List Net)) → ((k : ℕ) (g : GateKind × List Net) → slice_get gs k ≡ Some g → P (record { kind = g.0; ins = map (net_number n) g.1; out = at + k })) → Each P (gates_from n at gs)
each_numbered P n at [] f = tt
each_numbered P n at (x ∷ gs) f = (
  subst (λ o. P (record { kind = x.0; ins = map (net_number n) x.1; out = o })) (let z : at + 0 ≡ at = omega arith in z) (f 0 x refl),
  each_numbered P n (suc at) gs (λ k g e. subst (λ o. P (record { kind = g.0; ins = map (net_number n) g.1; out = o })) (let z : at + suc k ≡ suc at + k = omega arith in z) (f (suc k) g e)),
)

-- ---- uniqueness

module _ (f : Flat) (xs w : List Bool) (wide : length xs ≡ f.inputs) (c : Consistent (circuit_of f) xs w) where
  at_input : (i : ℕ) → i < length xs → get_or w i false ≡ get_or xs i false
  at_input i l = sym (ap (λ v. get_or v i false) (sym c.inputs) ∙ front f.inputs w i (omega arith))
    where
      front : (n : ℕ) (v : List Bool) (i : ℕ) → i < n → get_or (take n v) i false ≡ get_or v i false
      front zero v i l = absurd (omega arith)
      front (suc n) [] i l = refl
      front (suc n) (x ∷ v) zero l = refl
      front (suc n) (x ∷ v) (suc i) l = front n v i (omega arith)

  -- each consistent valuation has the bits that are carried
  mutual
    has_bit : (n : Net) (b : Bool) → Carries f xs n b → get_or w (net_number f.inputs n) false ≡ b
    has_bit (In i) b (input l p) = at_input i l ∙ sym p
    has_bit (Own k) b (gate g bs at all p) =
        numbered (GateHolds w) f.inputs f.inputs f.gates k g c.gates at ∙ ap (gate_value g.0) (has_bits g.1 bs all) ∙ sym p

    has_bits : (ns : List Net) (bs : List Bool) → AllCarry f xs ns bs → read_all w (map (net_number f.inputs) ns) ≡ bs
    has_bits [] [] none = refl
    has_bits [] (b ∷ bs) p = elim p [ ]
    has_bits (n ∷ ns) [] p = elim p [ ]
    has_bits (n ∷ ns) (b ∷ bs) (more p ps) = ap (λ x. x ∷ read_all w (map (net_number f.inputs) ns)) (has_bit n b p) ∙ ap (λ l. b ∷ l) (has_bits ns bs ps)

-- ---- existence

module _ (f : Flat) (xs : List Bool) (wide : length xs ≡ f.inputs) (total : (k : ℕ) → k < length f.gates → (b : Bool) × Carries f xs (Own k) b) where
  -- the bits of the first gates
  first : (n : ℕ) → n ≤ length f.gates → (bs : List Bool) × ((length bs ≡ n) × ((k : ℕ) → k < n → Carries f xs (Own k) (get_or bs k false)))
  first zero l = ([], (refl, λ k h. absurd (omega arith)))
  first (suc n) l =
      let r = first n (omega arith) in
      let t = total n (omega arith) in
      let long : length (r.0 ++ t.0 ∷ []) ≡ suc n = omega (arith, r.1.0, length-append r.0 (t.0 ∷ [])) in (
        r.0 ++ t.0 ∷ [],
        (
          long,
          λ k h. elim (cases_lt k n) [
            | inl lt ↦ subst (Carries f xs (Own k)) (sym (get_or_append_left r.0 (t.0 ∷ []) false k (omega (arith, r.1.0)))) (r.1.1 k lt)
            | inr ge ↦
                let e : length r.0 + 0 ≡ k = omega (arith, r.1.0) in
                let last : get_or (r.0 ++ t.0 ∷ []) k false ≡ t.0 = ap (λ z. get_or (r.0 ++ t.0 ∷ []) z false) (sym e) ∙ get_or-append-add r.0 (t.0 ∷ []) 0 false in
                let n_is : n ≡ k = omega (arith) in
                subst (Carries f xs (Own k)) (sym last) (subst (λ z. Carries f xs (Own z) t.0) n_is t.1)
          ],
        ),
      )

  whole : length f.gates ≤ length f.gates
  whole = omega arith

  abbrev bits : List Bool
  bits = (first (length f.gates) whole).0

  bits_long : length bits ≡ length f.gates
  bits_long = (first (length f.gates) whole).1.0

  bits_carried : (k : ℕ) → k < length f.gates → Carries f xs (Own k) (get_or bits k false)
  bits_carried = (first (length f.gates) whole).1.1

  -- a net's place in the valuation has the bit that it carries
  has_carried : (n : Net) (b : Bool) → Carries f xs n b → get_or (xs ++ bits) (net_number f.inputs n) false ≡ b
  has_carried (In i) b (input l p) = get_or_append_left xs bits false i l ∙ sym p
  has_carried (Own k) b (gate g bs at all p) =
      let l : k < length f.gates = slice_get_within f.gates k g at in
      ap (λ z. get_or (xs ++ bits) (z + k) false) (sym wide) ∙ get_or-append-add xs bits k false ∙ carries_one f xs (Own k) (get_or bits k false) b (bits_carried k l) (gate g bs at all p)

  have_carried : (ns : List Net) (bs : List Bool) → AllCarry f xs ns bs → read_all (xs ++ bits) (map (net_number f.inputs) ns) ≡ bs
  have_carried [] [] none = refl
  have_carried [] (b ∷ bs) p = elim p [ ]
  have_carried (n ∷ ns) [] p = elim p [ ]
  have_carried (n ∷ ns) (b ∷ bs) (more p ps) = ap (λ x. x ∷ read_all (xs ++ bits) (map (net_number f.inputs) ns)) (has_carried n b p) ∙ ap (λ l. b ∷ l) (have_carried ns bs ps)

  gate_holds : (k : ℕ) (g : GateKind × List Net) → slice_get f.gates k ≡ Some g → GateHolds (xs ++ bits) (record { kind = g.0; ins = map (net_number f.inputs) g.1; out = f.inputs + k })
  gate_holds k g e = from (get_or bits k false) (bits_carried k (slice_get_within f.gates k g e)) refl
    where
      from : (b : Bool) → Carries f xs (Own k) b → b ≡ get_or bits k false → get_or (xs ++ bits) (f.inputs + k) false ≡ gate_value g.0 (read_all (xs ++ bits) (map (net_number f.inputs) g.1))
      from b (gate h bs at all p) same =
          let eg : h ≡ g = same_Some h g (sym at ∙ e) in
          let read : read_all (xs ++ bits) (map (net_number f.inputs) g.1) ≡ bs = have_carried g.1 bs (subst (λ (x : GateKind × List Net). AllCarry f xs x.1 bs) eg all) in
          ap (λ z. get_or (xs ++ bits) (z + k) false) (sym wide) ∙ get_or-append-add xs bits k false ∙ sym same ∙ p ∙ ap (λ (x : GateKind × List Net). gate_value x.0 bs) eg ∙ ap (gate_value g.0) (sym read)

  consistent : Consistent (circuit_of f) xs (xs ++ bits)
  consistent = record {
    every_net = omega (arith, length-append xs bits, bits_long, wide);
    inputs = ap (λ n. take n (xs ++ bits)) (sym wide) ∙ take-append_seam xs bits;
    gates = each_numbered (GateHolds (xs ++ bits)) f.inputs f.inputs f.gates gate_holds;
  }

  only : (w : List Bool) → Consistent (circuit_of f) xs w → w ≡ xs ++ bits
  only w c = same_lists w (xs ++ bits) long (λ k d l. get_or_default w k d false l ∙ at k l ∙ get_or_default (xs ++ bits) k false d (omega (arith, long, l)))
    where
      long : length w ≡ length (xs ++ bits)
      long = omega (arith, c.every_net, length-append xs bits, bits_long, wide)

      at : (k : ℕ) → k < length w → get_or w k false ≡ get_or (xs ++ bits) k false
      at k l = elim (cases_lt k (length xs)) [
        | inl lt ↦ at_input f xs w wide c k lt ∙ sym (get_or_append_left xs bits false k lt)
        | inr ge ↦
            let j : ℕ = k - length xs in
            let e : f.inputs + j ≡ k = omega (arith, wide) in
            let m : j < length f.gates = omega (arith, wide, c.every_net) in
            let q : get_or w (f.inputs + j) false ≡ get_or bits j false = has_bit f xs w wide c (Own j) (get_or bits j false) (bits_carried j m) in
            let r : get_or (xs ++ bits) (length xs + j) false ≡ get_or bits j false = get_or-append-add xs bits j false in
            let s : length xs + j ≡ k = omega (arith) in
            ap (λ z. get_or w z false) (sym e) ∙ q ∙ sym r ∙ ap (λ z. get_or (xs ++ bits) z false) s
      ]

pub total_has_one : TotalHasOne
total_has_one f total xs wide = record {
  v = xs ++ bits f xs wide (total xs wide);
  consistent = consistent f xs wide (total xs wide);
  only = only f xs wide (total xs wide);
}
