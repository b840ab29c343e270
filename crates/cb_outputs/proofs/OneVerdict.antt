-- Each comparison of accepted modules has one verdict, unless one of two was stopped for its nodes.
use Rattle.std.proofs.Common.{◌≡◌, ◌⊎◌, inl, inr, ℕ, zero, suc, ◌^◌, ◌<◌, Bool, true, false, ◌&&◌, ◌==◌, List, [], ◌∷◌, ◌++◌, length, get_or, take, refl, sym, ◌∙◌, ap, subst, arith}
use Rattle.std.proofs.lemmas.Bool.{cases_order}
use Rattle.std.specs.Prelude.{Option, Some, None, MatchBool, codes, sum_by}
use Rattle.cb_model.specs.declared.Circuit.{Circuit}
use Rattle.cb_model.specs.declared.Outcome.{Outcome}
use Rattle.cb_model.specs.Bits.{weight}
use Rattle.cb_model.specs.Text.{Text, name_text}
use Rattle.cb_model.specs.Circuits.{Module, flat_named, circuit_of, Outputs, Agrees, BySpec, LeastDifference}
use Rattle.cb_model.specs.Facts.{Spec}
use Rattle.cb_model.specs.Verdicts.{Compared, agrees, differs, stopped, differs_text}
use Rattle.cb_model.specs.Refusals.{Refused, refused as refusal, Refuses}
use Rattle.cb_model.specs.Commands.{Nodes, Max, Only, IsNumber}
use Rattle.cb_model.specs.Room.{expr_size}
use Rattle.cb_model.specs.Output.{Loaded, IsLoaded, IsDetermined, BelowNodes, room_of, no_module, module_named, VerifySays, SameSays}
use Rattle.cb_outputs.specs.Ones.{HasStop, AreOne}
use Rattle.cb_outputs.proofs.Verdicts.{weight_below, WantsOne, output_only, outputs_wanted, both_equal, outputs_number, flat_of, spec_wanted}

-- ---- the least difference is one

weight_one : (xs ys : List Bool) → length xs ≡ length ys → weight xs ≡ weight ys → xs ≡ ys
weight_one [] [] e w = refl
weight_one [] (y ∷ ys) e w = absurd (omega (arith, e))
weight_one (x ∷ xs) [] e w = absurd (omega (arith, e))
weight_one (true ∷ xs) (true ∷ ys) e w =
    let p : 2 ^ length xs ≡ 2 ^ length ys = ap (λ n. 2 ^ n) (let k : length xs ≡ length ys = omega (arith, e) in k) in
    ap (λ zs. true ∷ zs) (weight_one xs ys (omega (arith, e)) (omega (arith, w, p)))
weight_one (false ∷ xs) (false ∷ ys) e w = ap (λ zs. false ∷ zs) (weight_one xs ys (omega (arith, e)) (omega (arith, w)))
weight_one (true ∷ xs) (false ∷ ys) e w =
    let p : 2 ^ length xs ≡ 2 ^ length ys = ap (λ n. 2 ^ n) (let k : length xs ≡ length ys = omega (arith, e) in k) in
    let b = weight_below ys in
    absurd (omega (arith, w, p, b))
weight_one (false ∷ xs) (true ∷ ys) e w =
    let p : 2 ^ length xs ≡ 2 ^ length ys = ap (λ n. 2 ^ n) (let k : length xs ≡ length ys = omega (arith, e) in k) in
    let b = weight_below xs in
    absurd (omega (arith, w, p, b))

taken_get : (k n : ℕ) (xs : List Bool) → k < n → get_or (take n xs) k false ≡ get_or xs k false
taken_get k zero xs l = absurd (omega (arith, l))
taken_get k (suc n) [] l = refl
taken_get zero (suc n) (x ∷ xs) l = refl
taken_get (suc k) (suc n) (x ∷ xs) l = taken_get k n xs (omega (arith, l))

module _ (c : Circuit) (W : List Bool → List Bool → Type 0) (one : IsDetermined c) (wants : WantsOne c W) where
  -- a difference is none where the outputs are those that are wanted
  same_not : (input : List Bool) (at : ℕ) (got wanted : Bool) (d : LeastDifference c W input at got wanted) → get_or d.xs at false ≡ get_or d.ys at false → ⊥
  same_not input at got wanted d e = d.differ (d.has ∙ e ∙ sym d.wants)

  not_before : (i j : List Bool) (m n : ℕ) (g h v w : Bool) → LeastDifference c W i m g v → LeastDifference c W j n h w → weight i < weight j → ⊥
  not_before i j m n g h v w a b l = same_not i m g v a (ap (λ xs. get_or xs m false) (b.least_input i a.xs a.ys a.width l a.outputs a.by_spec))

  same_input : (i j : List Bool) (m n : ℕ) (g h v w : Bool) → LeastDifference c W i m g v → LeastDifference c W j n h w → i ≡ j
  same_input i j m n g h v w a b = elim (cases_order (weight i) (weight j)) [
    | inl e ↦ weight_one i j (a.width ∙ sym b.width) e
    | inr (inl l) ↦ absurd (not_before i j m n g h v w a b l)
    | inr (inr l) ↦ absurd (not_before j i n m h g w v b a l)
  ]

  module _ (input : List Bool) (m n : ℕ) (g h v w : Bool) (a : LeastDifference c W input m g v) (b : LeastDifference c W input n h w) where
    same_xs : a.xs ≡ b.xs
    same_xs = output_only c input a.xs b.xs (one input a.width) a.outputs b.outputs

    same_ys : a.ys ≡ b.ys
    same_ys = wants.only input a.ys b.ys a.width a.by_spec b.by_spec

  -- at one input there is no lesser output
  no_lesser : (input : List Bool) (m n : ℕ) (g h v w : Bool) → LeastDifference c W input m g v → LeastDifference c W input n h w → m < n → ⊥
  no_lesser input m n g h v w a b l =
      let xs : a.xs ≡ b.xs = same_xs input m n g h v w a b in
      let ys : a.ys ≡ b.ys = same_ys input m n g h v w a b in
      let same : get_or b.xs m false ≡ get_or b.ys m false = sym (taken_get m n b.xs l) ∙ ap (λ zs. get_or zs m false) b.least_output ∙ taken_get m n b.ys l in
      same_not input m g v a (ap (λ zs. get_or zs m false) xs ∙ same ∙ sym (ap (λ zs. get_or zs m false) ys))

  same_output : (input : List Bool) (m n : ℕ) (g h v w : Bool) → LeastDifference c W input m g v → LeastDifference c W input n h w → m ≡ n
  same_output input m n g h v w a b = elim (cases_order m n) [
    | inl e ↦ e
    | inr (inl l) ↦ absurd (no_lesser input m n g h v w a b l)
    | inr (inr l) ↦ absurd (no_lesser input n m h g w v b a l)
  ]

  same_text : (names : Text) (ports : List Text) (i j : List Bool) (m n : ℕ) (g h v w : Bool) → LeastDifference c W i m g v → LeastDifference c W j n h w →
      differs_text names ports i m g v ≡ differs_text names ports j n h w
  same_text names ports i j m n g h v w a b =
      let e : i ≡ j = same_input i j m n g h v w a b in
      let b' : LeastDifference c W i n h w = subst (λ z. LeastDifference c W z n h w) (sym e) b in
      let k : m ≡ n = same_output i m n g h v w a b' in
      let got : g ≡ h = a.has ∙ ap (λ zs. get_or zs m false) (same_xs i m n g h v w a b') ∙ ap (λ z. get_or b'.xs z false) k ∙ sym b'.has in
      let wanted : v ≡ w = a.wants ∙ ap (λ zs. get_or zs m false) (same_ys i m n g h v w a b') ∙ ap (λ z. get_or b'.ys z false) k ∙ sym b'.wants in
      ap (λ z. differs_text names ports z m g v) e ∙ ap (λ z. differs_text names ports j z g v) k ∙ ap (λ z. differs_text names ports j n z v) got ∙ ap (λ z. differs_text names ports j n h z) wanted

  -- they don't agree and differ
  agree_not : (input : List Bool) (at : ℕ) (got wanted : Bool) → Agrees c W → LeastDifference c W input at got wanted → ⊥
  agree_not input at got wanted a d = same_not input at got wanted d (ap (λ xs. get_or xs at false) (a input d.xs d.ys d.width d.outputs d.by_spec))

  pub compared_one : (names ok : Text) (ports : List Text) (F : Type 0) (ls ms : List Text) (a b : Outcome) → Compared names ok ports c W F ls a → Compared names ok ports c W F ms b → ((ls ≡ ms) × (a ≡ b)) ⊎ (F × (HasStop ls ⊎ HasStop ms))
  compared_one names ok ports F ls ms a b (agrees x e) (agrees y f) = inl (ap (λ t. t ∷ []) (e ∙ sym f), refl)
  compared_one names ok ports F ls ms a b (agrees x e) (differs j n h w d f) = absurd (agree_not j n h w x d)
  compared_one names ok ports F ls ms a b (differs i m g v d e) (agrees y f) = absurd (agree_not i m g v y d)
  compared_one names ok ports F ls ms a b (differs i m g v d e) (differs j n h w k f) = inl (ap (λ t. t ∷ []) (e ∙ same_text names ports i j m n g h v w d k ∙ sym f), refl)
  compared_one names ok ports F ls ms a b (stopped t e) y = inr (t, inl ([], [], ap (λ x. x ∷ []) e))
  compared_one names ok ports F ls ms a b (agrees x e) (stopped t f) = inr (t, inr ([], [], ap (λ x. x ∷ []) f))
  compared_one names ok ports F ls ms a b (differs i m g v d e) (stopped t f) = inr (t, inr ([], [], ap (λ x. x ∷ []) f))

-- ---- `verify` and `same`

-- the nodes are a number where they are below a bound
below_number : (nodes : Nodes) (room : ℕ) → BelowNodes nodes room → IsNumber nodes
below_number Max room h = absurd h
below_number (Only n) room h = tt

refuses_one : (nodes : Nodes) (r : Refused) (ls ms : List Text) (a b : Outcome) → Refuses r ls a → Refuses r ms b → AreOne nodes ls ms a b
refuses_one nodes r ls ms a b h k = inl (h.0 ∙ sym k.0, h.1 ∙ sym k.1)

-- a stop for nodes asks for a number
number_stops : (nodes : Nodes) (room : ℕ) (ls ms : List Text) (a b : Outcome) → ((ls ≡ ms) × (a ≡ b)) ⊎ (BelowNodes nodes room × (HasStop ls ⊎ HasStop ms)) → AreOne nodes ls ms a b
number_stops nodes room ls ms a b (inl e) = inl e
number_stops nodes room ls ms a b (inr (f, s)) = inr (below_number nodes room f, s)

module _ (file : Text) (l : Loaded) (loaded : IsLoaded file l) (nodes : Nodes) (ls ms : List Text) (x y : Outcome) where
  pub verify_one : (name : Text) (o : Option Module) (p : Option Spec) → module_named l.circuits name ≡ o → VerifySays l.circuits name nodes o p ls x → VerifySays l.circuits name nodes o p ms y → AreOne nodes ls ms x y
  verify_one name None p e h k = refuses_one nodes no_module ls ms x y h k
  verify_one name (Some m) None e h k = refuses_one nodes (refusal 17 [] (codes "no specification")) ls ms x y h k
  verify_one name (Some m) (Some s) e h k = fit (length m.inputs == length s.inputs && length m.outputs == length s.exprs) refl h k
    where
      c : Circuit
      c = circuit_of (flat_named l.circuits.flats name)

      Says : Bool → List Text → Outcome → Type 0
      Says b lines answer = MatchBool b
          (IsDetermined c × Compared (name_text name) (codes "verified ") m.inputs c (BySpec s.exprs) (BelowNodes nodes (room_of l.circuits (name ∷ []) (sum_by expr_size s.exprs))) lines answer)
          (Refuses (refusal 18 [] (codes "ports differ")) lines answer)

      fit : (b : Bool) → (length m.inputs == length s.inputs && length m.outputs == length s.exprs) ≡ b → Says b ls x → Says b ms y → AreOne nodes ls ms x y
      fit false i h k = refuses_one nodes (refusal 18 [] (codes "ports differ")) ls ms x y h k
      fit true i h k =
          let same = both_equal (length m.inputs) (length s.inputs) (length m.outputs) (length s.exprs) i in
          let F : Type 0 = BelowNodes nodes (room_of l.circuits (name ∷ []) (sum_by expr_size s.exprs)) in
          number_stops nodes (room_of l.circuits (name ∷ []) (sum_by expr_size s.exprs)) ls ms x y
          (compared_one c (BySpec s.exprs) h.0 (spec_wanted file l loaded name m s e same.1) (name_text name) (codes "verified ") m.inputs F ls ms x y h.1 k.1)

  pub same_one : (one two : Text) (o p : Option Module) → module_named l.circuits one ≡ o → module_named l.circuits two ≡ p → SameSays l.circuits one two nodes o p ls x → SameSays l.circuits one two nodes o p ms y → AreOne nodes ls ms x y
  same_one one two None p e f h k = refuses_one nodes no_module ls ms x y h k
  same_one one two (Some m) None e f h k = refuses_one nodes no_module ls ms x y h k
  same_one one two (Some m) (Some n) e f h k = fit (length m.inputs == length n.inputs && length m.outputs == length n.outputs) refl h k
    where
      c : Circuit
      c = circuit_of (flat_named l.circuits.flats one)

      d : Circuit
      d = circuit_of (flat_named l.circuits.flats two)

      names : Text
      names = name_text one ++ codes " " ++ name_text two

      Says : Bool → List Text → Outcome → Type 0
      Says b lines answer = MatchBool b
          (IsDetermined c × IsDetermined d × Compared names (codes "same ") m.inputs c (Outputs d) (BelowNodes nodes (room_of l.circuits (one ∷ two ∷ []) 0)) lines answer)
          (Refuses (refusal 18 [] (codes "ports differ")) lines answer)

      fit : (b : Bool) → (length m.inputs == length n.inputs && length m.outputs == length n.outputs) ≡ b → Says b ls x → Says b ms y → AreOne nodes ls ms x y
      fit false i h k = refuses_one nodes (refusal 18 [] (codes "ports differ")) ls ms x y h k
      fit true i h k =
          let same = both_equal (length m.inputs) (length n.inputs) (length m.outputs) (length n.outputs) i in
          let ins : d.inputs ≡ c.inputs = (flat_of file l loaded two n f).0.1 ∙ sym same.0 ∙ sym (flat_of file l loaded one m e).0.1 in
          let outs : length d.outputs ≡ length c.outputs = outputs_number file l loaded two n f ∙ sym same.1 ∙ sym (outputs_number file l loaded one m e) in
          let F : Type 0 = BelowNodes nodes (room_of l.circuits (one ∷ two ∷ []) 0) in
          number_stops nodes (room_of l.circuits (one ∷ two ∷ []) 0) ls ms x y
          (compared_one c (Outputs d) h.0 (outputs_wanted c d ins outs h.1) names (codes "same ") m.inputs F ls ms x y h.2 k.2)
