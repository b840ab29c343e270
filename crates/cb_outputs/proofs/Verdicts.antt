-- Each comparison of accepted modules has a verdict.
use Rattle.std.proofs.Common.{◌≡◌, ◌≢◌, ◌⊎◌, inl, inr, ℕ, zero, suc, ◌+◌, ◌^◌, ◌<◌, Bool, true, false, ◌&&◌, ◌==◌, if◌then◌else◌, List, [], ◌∷◌, ◌++◌, length, get_or, take, find, bytes_eq, refl, sym, ◌∙◌, ap, subst, arith}
use Rattle.std.proofs.Math.Nat.{pow-suc}
use Rattle.std.proofs.lemmas.Bool.{eqb-true, and_parts}
use Rattle.std.proofs.lemmas.List.{length-map}
use Rattle.std.specs.Prelude.{Option, Some, None, MatchBool, codes, sum_by}
use Rattle.cb_model.specs.declared.Circuit.{Circuit}
use Rattle.cb_model.specs.declared.Outcome.{Outcome}
use Rattle.cb_model.specs.declared.Outcome.TheVariants as outcome
use Rattle.cb_model.specs.Bits.{weight}
use Rattle.cb_model.specs.Text.{Text, name_text}
use Rattle.cb_model.specs.Grammar.{FormClause, Directive, Rule}
use Rattle.cb_model.specs.Circuits.{Module, Flat, flat, flat_named, circuit_of, Outputs, read_all, Agrees, BySpec, spec_values, LeastDifference}
use Rattle.cb_model.specs.Facts.{Circuits, Spec, FactRefusal, a_module, a_spec, FactsRead, no_facts, no_fact, a_fact, refused, no_circuits}
use Rattle.cb_model.specs.Sound.{HasOneValuation}
use Rattle.cb_model.specs.Verdicts.{Compared, agrees, differs, differs_text}
use Rattle.cb_model.specs.Refusals.{Refused, refused as refusal, Refuses, refusal_line}
use Rattle.cb_model.specs.Commands.{Nodes}
use Rattle.cb_model.specs.Room.{expr_size}
use Rattle.cb_model.specs.Output.{Loaded, IsLoaded, IsDetermined, BelowNodes, room_of, no_module, module_named, spec_named, VerifySays, SameSays}
use Rattle.cb_laws.proofs.Search.{Decision, same_bit, same_bits}
use Rattle.cb_flat.proofs.Accepted.{flat_has_one}
use Rattle.cb_outputs.proofs.Closures.{one_some, In, containing}

-- ---- the least row

pub weight_below : (xs : List Bool) → weight xs < 2 ^ length xs
weight_below [] = omega arith
weight_below (x ∷ xs) =
    let w = weight_below xs in
    let e : 2 ^ suc (length xs) ≡ 2 ^ length xs + 2 ^ length xs = (let h = pow-suc 2 (length xs) in omega (arith, h)) in
    elim x as (λ y. (if y then 2 ^ length xs else 0) + weight xs < 2 ^ suc (length xs)) [ true ↦ omega (arith, e, w) | false ↦ omega (arith, e, w) ]

-- the row of n bits has the property, and none that weighs less has it
abbrev Least : ℕ → (List Bool → Type 0) → Type 0
Least n P = (xs : List Bool) × (length xs ≡ n) × P xs × ((ys : List Bool) → length ys ≡ n → weight ys < weight xs → P ys → ⊥)

abbrev NoRow : ℕ → (List Bool → Type 0) → Type 0
NoRow n P = (xs : List Bool) → length xs ≡ n → P xs → ⊥

least_low : (n : ℕ) (P : List Bool → Type 0) → Least n (λ xs. P (false ∷ xs)) → Least (suc n) P
least_low n P f = (false ∷ f.0, ap suc f.1, f.2, less)
  where
    less : (ys : List Bool) → length ys ≡ suc n → weight ys < weight (false ∷ f.0) → P ys → ⊥
    less [] e l p = absurd (omega (arith, e))
    less (false ∷ ys) e l p = f.3 ys (omega (arith, e)) (omega (arith, l)) p
    less (true ∷ ys) e l p =
        let b = weight_below f.0 in
        let k : length ys ≡ length f.0 = (let i = f.1 in omega (arith, e, i)) in
        let m : 2 ^ length ys ≡ 2 ^ length f.0 = ap (λ i. 2 ^ i) k in
        absurd (omega (arith, l, b, m))

least_high : (n : ℕ) (P : List Bool → Type 0) → NoRow n (λ xs. P (false ∷ xs)) → Least n (λ xs. P (true ∷ xs)) → Least (suc n) P
least_high n P none f = (true ∷ f.0, ap suc f.1, f.2, less)
  where
    less : (ys : List Bool) → length ys ≡ suc n → weight ys < weight (true ∷ f.0) → P ys → ⊥
    less [] e l p = absurd (omega (arith, e))
    less (false ∷ ys) e l p = none ys (omega (arith, e)) p
    less (true ∷ ys) e l p =
        let k : length ys ≡ length f.0 = (let i = f.1 in omega (arith, e, i)) in
        let m : 2 ^ length ys ≡ 2 ^ length f.0 = ap (λ i. 2 ^ i) k in
        f.3 ys (omega (arith, e)) (omega (arith, l, m)) p

least_row : (n : ℕ) (P : List Bool → Type 0) → ((xs : List Bool) → length xs ≡ n → Decision (P xs)) → Least n P ⊎ NoRow n P
least_row zero P d = step (d [] refl)
  where
    none : (P [] → ⊥) → NoRow 0 P
    none n [] e p = n p
    none n (x ∷ xs) e p = absurd (omega (arith, e))

    step : Decision (P []) → Least 0 P ⊎ NoRow 0 P
    step (inl p) = inl ([], refl, p, λ ys e l q. absurd (omega (arith, l)))
    step (inr n) = inr (none n)
least_row (suc n) P d = step (least_row n (λ xs. P (false ∷ xs)) (λ xs e. d (false ∷ xs) (ap suc e))) (least_row n (λ xs. P (true ∷ xs)) (λ xs e. d (true ∷ xs) (ap suc e)))
  where
    none : NoRow n (λ xs. P (false ∷ xs)) → NoRow n (λ xs. P (true ∷ xs)) → NoRow (suc n) P
    none f g [] e p = absurd (omega (arith, e))
    none f g (false ∷ xs) e p = f xs (omega (arith, e)) p
    none f g (true ∷ xs) e p = g xs (omega (arith, e)) p

    step : Least n (λ xs. P (false ∷ xs)) ⊎ NoRow n (λ xs. P (false ∷ xs)) → Least n (λ xs. P (true ∷ xs)) ⊎ NoRow n (λ xs. P (true ∷ xs)) → Least (suc n) P ⊎ NoRow (suc n) P
    step (inl f) g = inl (least_low n P f)
    step (inr k) (inl f) = inl (least_high n P k f)
    step (inr k) (inr j) = inr (none k j)

-- ---- the first place where two lists differ

abbrev Differ : List Bool → List Bool → Type 0
Differ xs ys = (at : ℕ) × (at < length xs) × (get_or xs at false ≢ get_or ys at false) × (take at xs ≡ take at ys)

first_place : (xs ys : List Bool) → length xs ≡ length ys → (xs ≡ ys) ⊎ Differ xs ys
first_place [] [] e = inl refl
first_place [] (y ∷ ys) e = absurd (omega (arith, e))
first_place (x ∷ xs) [] e = absurd (omega (arith, e))
first_place (x ∷ xs) (y ∷ ys) e = step (same_bit x y) (first_place xs ys (omega (arith, e)))
  where
    step : Decision (x ≡ y) → (xs ≡ ys) ⊎ Differ xs ys → (x ∷ xs ≡ y ∷ ys) ⊎ Differ (x ∷ xs) (y ∷ ys)
    step (inr n) r = inr (0, omega arith, n, refl)
    step (inl i) (inl j) = inl (ap (λ z. z ∷ xs) i ∙ ap (λ zs. y ∷ zs) j)
    step (inl i) (inr d) = inr (suc d.0, (let l = d.1 in omega (arith, l)), d.2, ap (λ z. z ∷ take d.0 xs) i ∙ ap (λ zs. y ∷ zs) d.3)

-- ---- a circuit and what is wanted of it

-- one list of outputs, of this length, is wanted at each input
pub record WantsOne (c : Circuit) (W : List Bool → List Bool → Type 0) : Type 0 where
  pub wanted : (input : List Bool) → length input ≡ c.inputs → (ys : List Bool) × W input ys
  pub only : (input ys zs : List Bool) → length input ≡ c.inputs → W input ys → W input zs → ys ≡ zs
  pub count : (input ys : List Bool) → length input ≡ c.inputs → W input ys → length ys ≡ length c.outputs

output_count : (c : Circuit) (input output : List Bool) → Outputs c input output → length output ≡ length c.outputs
output_count c input output h = ap length h.outputs ∙ length-map c.outputs (λ n. get_or h.v n false)

pub output_only : (c : Circuit) (input ys zs : List Bool) → HasOneValuation c input → Outputs c input ys → Outputs c input zs → ys ≡ zs
output_only c input ys zs one y z =
    y.outputs ∙ ap (λ v. read_all v c.outputs) (one.only y.v y.consistent ∙ sym (one.only z.v z.consistent)) ∙ sym z.outputs

pub outputs_wanted : (c d : Circuit) → d.inputs ≡ c.inputs → length d.outputs ≡ length c.outputs → IsDetermined d → WantsOne c (Outputs d)
outputs_wanted c d i o one = record {
  wanted = λ input e. let v = one input (e ∙ sym i) in (read_all v.v d.outputs, record { v = v.v; consistent = v.consistent; outputs = refl });
  only = λ input ys zs e y z. output_only d input ys zs (one input (e ∙ sym i)) y z;
  count = λ input ys e y. output_count d input ys y ∙ o;
}

module _ (c : Circuit) (W : List Bool → List Bool → Type 0) (one : IsDetermined c) (wants : WantsOne c W) where
  -- the outputs are not those that are wanted
  abbrev Differs : List Bool → Type 0
  Differs input = (us : List Bool) × (vs : List Bool) × Outputs c input us × W input vs × (us ≢ vs)

  differs_decided : (input : List Bool) → length input ≡ c.inputs → Decision (Differs input)
  differs_decided input e = step (same_bits us.0 vs.0)
    where
      us : (us : List Bool) × Outputs c input us
      us = let v = one input e in (read_all v.v c.outputs, record { v = v.v; consistent = v.consistent; outputs = refl })

      vs : (vs : List Bool) × W input vs
      vs = wants.wanted input e

      step : Decision (us.0 ≡ vs.0) → Decision (Differs input)
      step (inr n) = inl (us.0, vs.0, us.1, vs.1, n)
      step (inl i) = inr (λ d. d.4 (output_only c input d.0 us.0 (one input e) d.2 us.1 ∙ i ∙ wants.only input vs.0 d.1 e vs.1 d.3))

  same_unless : (input us vs : List Bool) → (Differs input → ⊥) → Outputs c input us → W input vs → us ≡ vs
  same_unless input us vs never o w = elim (same_bits us vs) [ inl e ↦ e | inr n ↦ absurd (never (us, vs, o, w, n)) ]

  -- they agree, or there is a least difference
  pub compared : Agrees c W ⊎ ((input : List Bool) × (at : ℕ) × (got : Bool) × (wanted : Bool) × LeastDifference c W input at got wanted)
  compared = step (least_row c.inputs Differs differs_decided)
    where
      differ : (f : Least c.inputs Differs) → (f.2.0 ≡ f.2.1) ⊎ Differ f.2.0 f.2.1 → (input : List Bool) × (at : ℕ) × (got : Bool) × (wanted : Bool) × LeastDifference c W input at got wanted
      differ f (inl e) = absurd (f.2.4 e)
      differ f (inr d) = (
        f.0,
        d.0,
        get_or f.2.0 d.0 false,
        get_or f.2.1 d.0 false,
        record {
          xs = f.2.0;
          ys = f.2.1;
          width = f.1;
          outputs = f.2.2;
          by_spec = f.2.3;
          within = d.1;
          has = refl;
          wants = refl;
          differ = d.2;
          least_output = d.3;
          least_input = λ other us vs e l o w. same_unless other us vs (f.3 other e l) o w;
        },
      )

      step : Least c.inputs Differs ⊎ NoRow c.inputs Differs → Agrees c W ⊎ ((input : List Bool) × (at : ℕ) × (got : Bool) × (wanted : Bool) × LeastDifference c W input at got wanted)
      step (inr none) = inl (λ input xs ys e o w. same_unless input xs ys (none input e) o w)
      step (inl f) =
          let k : length f.2.0 ≡ length f.2.1 = output_count c f.0 f.2.0 f.2.2 ∙ sym (wants.count f.0 f.2.1 f.1 f.2.3) in
          inr (differ f (first_place f.2.0 f.2.1 k))

  pub verdict : (names ok : Text) (ports : List Text) (TooFew : Type 0) → (lines : List Text) × (answer : Outcome) × Compared names ok ports c W TooFew lines answer
  verdict names ok ports TooFew = step compared
    where
      step : Agrees c W ⊎ ((input : List Bool) × (at : ℕ) × (got : Bool) × (wanted : Bool) × LeastDifference c W input at got wanted) →
          (lines : List Text) × (answer : Outcome) × Compared names ok ports c W TooFew lines answer
      step (inl a) = ((ok ++ names) ∷ [], outcome.Done, agrees a refl)
      step (inr d) = (differs_text names ports d.0 d.1 d.2 d.3 ∷ [], outcome.Differs, differs d.0 d.1 d.2 d.3 d.4 refl)

-- ---- modules and their flattened circuits

-- a flattened module is that of the module
abbrev OfModule : Module → Flat → Type 0
OfModule m f = (f.name ≡ m.name) × (f.inputs ≡ length m.inputs) × (length f.outputs ≡ length m.outputs)

abbrev Paired : List Module → List Flat → Type 0
Paired [] [] = Unit {0}
Paired (m ∷ ms) (f ∷ fs) = OfModule m f × Paired ms fs
Paired _ _ = ⊥

paired_last : (ms : List Module) (fs : List Flat) (m : Module) (f : Flat) → Paired ms fs → OfModule m f → Paired (ms ++ m ∷ []) (fs ++ f ∷ [])
paired_last [] [] m f h k = (k, tt)
paired_last [] (g ∷ fs) m f h k = absurd h
paired_last (n ∷ ms) [] m f h k = absurd h
paired_last (n ∷ ms) (g ∷ fs) m f h k = (h.0, paired_last ms fs m f h.1 k)

flat_is : (earlier : List Flat) (m : Module) → OfModule m (flat earlier m)
flat_is earlier m = (refl, refl, length-map m.outputs _)

facts_paired : (c c' : Circuits) (cs : List FormClause) (r : Option (FactRefusal × ℕ)) → FactsRead c cs r c' → Paired c.modules c.flats → Paired c'.modules c'.flats
facts_paired c c' [] r no_facts p = p
facts_paired c c' (Directive n x fs ∷ cs) r (no_fact k h) p = facts_paired c c' cs r h p
facts_paired c c' (Directive n x fs ∷ cs) r (a_fact d k h rest) p = absurd (cc)
facts_paired c c' (Rule n f b gs ∷ cs) r (no_fact k h) p = facts_paired c c' cs r h p
facts_paired c c' (Rule n f b gs ∷ cs) r (a_fact d k (a_module m q i u v) rest) p =
    facts_paired d c' cs r rest (subst (λ (y : Circuits). Paired y.modules y.flats) (sym v) (paired_last c.modules c.flats m (flat c.flats m) p (flat_is c.flats m)))
facts_paired c c' (Rule n f b gs ∷ cs) r (a_fact d k (a_spec s q i u v) rest) p = facts_paired d c' cs r rest (subst (λ (y : Circuits). Paired y.modules y.flats) (sym v) p)
facts_paired c c' (Rule n f b gs ∷ cs) r (refused k h) p = p

-- the first that passes
module _ {X : Type 0} (test : X → Bool) where
  find_here : (x : X) (xs : List X) → test x ≡ true → find test (x ∷ xs) ≡ Some x
  find_here x xs t = rw t refl

  find_later : (x : X) (xs : List X) → test x ≡ false → find test (x ∷ xs) ≡ find test xs
  find_later x xs t = rw t refl

-- the flattened module of a name is that of its module
named_flat : (ms : List Module) (fs : List Flat) → Paired ms fs → (x : Text) (m : Module) → find (λ (m : Module). bytes_eq m.name x) ms ≡ Some m → OfModule m (flat_named fs x) × In (flat_named fs x) fs
named_flat [] fs p x m e = absurd (cc)
named_flat (n ∷ ms) [] p x m e = absurd p
named_flat (n ∷ ms) (f ∷ fs) p x m e = step (bytes_eq n.name x) refl (λ k. named_flat ms fs p.1 x m k)
  where
    step : (b : Bool) → bytes_eq n.name x ≡ b → (find (λ (m : Module). bytes_eq m.name x) ms ≡ Some m → OfModule m (flat_named fs x) × In (flat_named fs x) fs) →
        OfModule m (flat_named (f ∷ fs) x) × In (flat_named (f ∷ fs) x) (f ∷ fs)
    step true t go =
        let here : find (λ (m : Module). bytes_eq m.name x) (n ∷ ms) ≡ Some n = find_here (λ (m : Module). bytes_eq m.name x) n ms t in
        let is : n ≡ m = one_some _ n m here e in
        let first : flat_named (f ∷ fs) x ≡ f = ap (λ (b : Bool). if b then f else flat_named fs x) (ap (λ y. bytes_eq y x) p.0.0 ∙ t) in
        (subst (λ (g : Flat). OfModule m g) (sym first) (subst (λ (o : Module). OfModule o f) is p.0), inl first)
    step false t go =
        let later : find (λ (m : Module). bytes_eq m.name x) (n ∷ ms) ≡ find (λ (m : Module). bytes_eq m.name x) ms = find_later (λ (m : Module). bytes_eq m.name x) n ms t in
        let next : flat_named (f ∷ fs) x ≡ flat_named fs x = ap (λ (b : Bool). if b then f else flat_named fs x) (ap (λ y. bytes_eq y x) p.0.0 ∙ t) in
        let r = go (sym later ∙ e) in
        (subst (λ (g : Flat). OfModule m g) (sym next) r.0, inr (subst (λ (g : Flat). In g fs) (sym next) r.1))

-- ---- `verify` and `same`

pub both_equal : (a b c d : ℕ) → (a == b && c == d) ≡ true → (a ≡ b) × (c ≡ d)
both_equal a b c d h = let p = and_parts (a == b) (c == d) h in (eqb-true a b p.0, eqb-true c d p.1)

module _ (file : Text) (l : Loaded) (loaded : IsLoaded file l) where
  abbrev Answered : (List Text → Outcome → Type 0) → Type 0
  Answered S = (lines : List Text) × (answer : Outcome) × S lines answer

  refuses : (r : Refused) → Answered (Refuses r)
  refuses r = (refusal_line r ∷ [], outcome.Refused r.number, (refl, refl))

  paired : Paired l.circuits.modules l.circuits.flats
  paired = facts_paired no_circuits l.circuits l.clauses None loaded.facts tt

  pub flat_of : (x : Text) (m : Module) → module_named l.circuits x ≡ Some m → OfModule m (flat_named l.circuits.flats x) × In (flat_named l.circuits.flats x) l.circuits.flats
  flat_of x m e = named_flat l.circuits.modules l.circuits.flats paired x m e

  pub determined : (x : Text) (m : Module) → module_named l.circuits x ≡ Some m → IsDetermined (circuit_of (flat_named l.circuits.flats x))
  determined x m e input k =
      let r = flat_of x m e in
      flat_has_one l.clauses None l.circuits (flat_named l.circuits.flats x) input loaded.facts (containing l.circuits.flats (flat_named l.circuits.flats x) r.1) k

  pub outputs_number : (x : Text) (m : Module) → module_named l.circuits x ≡ Some m → length (circuit_of (flat_named l.circuits.flats x)).outputs ≡ length m.outputs
  outputs_number x m e = let r = flat_of x m e in length-map (flat_named l.circuits.flats x).outputs _ ∙ r.0.2

  pub spec_wanted : (x : Text) (m : Module) (s : Spec) → module_named l.circuits x ≡ Some m → length m.outputs ≡ length s.exprs → WantsOne (circuit_of (flat_named l.circuits.flats x)) (BySpec s.exprs)
  spec_wanted x m s e k = record {
    wanted = λ input i. (spec_values s.exprs input, refl);
    only = λ input ys zs i y z. y ∙ sym z;
    count = λ input ys i y. ap length y ∙ length-map s.exprs _ ∙ sym k ∙ sym (outputs_number x m e);
  }

  pub verify_says : (name : Text) (nodes : Nodes) → Answered (VerifySays l.circuits name nodes (module_named l.circuits name) (spec_named l.circuits name))
  verify_says name nodes = step (module_named l.circuits name) (spec_named l.circuits name) refl
    where
      fit : (m : Module) (s : Spec) → module_named l.circuits name ≡ Some m → (b : Bool) → (length m.inputs == length s.inputs && length m.outputs == length s.exprs) ≡ b →
          Answered (λ lines answer. MatchBool b
          (IsDetermined (circuit_of (flat_named l.circuits.flats name)) ×
          Compared (name_text name) (codes "verified ") m.inputs (circuit_of (flat_named l.circuits.flats name)) (BySpec s.exprs)
          (BelowNodes nodes (room_of l.circuits (name ∷ []) (sum_by expr_size s.exprs))) lines answer)
          (Refuses (refusal 18 [] (codes "ports differ")) lines answer))
      fit m s e false h = refuses (refusal 18 [] (codes "ports differ"))
      fit m s e true h =
          let same = both_equal (length m.inputs) (length s.inputs) (length m.outputs) (length s.exprs) h in
          let one = determined name m e in
          let v = verdict (circuit_of (flat_named l.circuits.flats name)) (BySpec s.exprs) one (spec_wanted name m s e same.1) (name_text name) (codes "verified ") m.inputs
          (BelowNodes nodes (room_of l.circuits (name ∷ []) (sum_by expr_size s.exprs))) in
          (v.0, v.1, (one, v.2))

      step : (o : Option Module) (p : Option Spec) → module_named l.circuits name ≡ o → Answered (VerifySays l.circuits name nodes o p)
      step None p e = refuses no_module
      step (Some m) None e = refuses (refusal 17 [] (codes "no specification"))
      step (Some m) (Some s) e = fit m s e (length m.inputs == length s.inputs && length m.outputs == length s.exprs) refl

  pub same_says : (one two : Text) (nodes : Nodes) → Answered (SameSays l.circuits one two nodes (module_named l.circuits one) (module_named l.circuits two))
  same_says one two nodes = step (module_named l.circuits one) (module_named l.circuits two) refl refl
    where
      fit : (m n : Module) → module_named l.circuits one ≡ Some m → module_named l.circuits two ≡ Some n → (b : Bool) → (length m.inputs == length n.inputs && length m.outputs == length n.outputs) ≡ b →
          Answered (λ lines answer. MatchBool b
          (IsDetermined (circuit_of (flat_named l.circuits.flats one)) × IsDetermined (circuit_of (flat_named l.circuits.flats two)) ×
          Compared (name_text one ++ codes " " ++ name_text two) (codes "same ") m.inputs (circuit_of (flat_named l.circuits.flats one))
          (Outputs (circuit_of (flat_named l.circuits.flats two))) (BelowNodes nodes (room_of l.circuits (one ∷ two ∷ []) 0)) lines answer)
          (Refuses (refusal 18 [] (codes "ports differ")) lines answer))
      fit m n e f false h = refuses (refusal 18 [] (codes "ports differ"))
      fit m n e f true h =
          let same = both_equal (length m.inputs) (length n.inputs) (length m.outputs) (length n.outputs) h in
          let c : Circuit = circuit_of (flat_named l.circuits.flats one) in
          let d : Circuit = circuit_of (flat_named l.circuits.flats two) in
          let first = determined one m e in
          let second = determined two n f in
          let ins : d.inputs ≡ c.inputs = (flat_of two n f).0.1 ∙ sym same.0 ∙ sym (flat_of one m e).0.1 in
          let outs : length d.outputs ≡ length c.outputs = outputs_number two n f ∙ sym same.1 ∙ sym (outputs_number one m e) in
          let v = verdict c (Outputs d) first (outputs_wanted c d ins outs second) (name_text one ++ codes " " ++ name_text two) (codes "same ") m.inputs
          (BelowNodes nodes (room_of l.circuits (one ∷ two ∷ []) 0)) in
          (v.0, v.1, (first, second, v.2))

      step : (o p : Option Module) → module_named l.circuits one ≡ o → module_named l.circuits two ≡ p → Answered (SameSays l.circuits one two nodes o p)
      step None p e f = refuses no_module
      step (Some m) None e f = refuses no_module
      step (Some m) (Some n) e f = fit m n e f (length m.inputs == length n.inputs && length m.outputs == length n.outputs) refl
