-- From the nodes of a circuit and of what is wanted to the verdict.
use Rattle.std.proofs.Common.{◌≡◌, ℕ, ◌+◌, ◌*◌, ◌^◌, ◌<◌, ◌≤◌, Bool, true, false, List, [], map, length, get_or, inl, inr, sym, ◌∙◌, ap, subst, arith}
use Rattle.std.proofs.lemmas.Bool.{cases_Bool}
use Rattle.std.proofs.lemmas.List.{length-map}
use Rattle.std.proofs.Math.Nat.{mul-le-mul_right}
use Rattle.cb_model.specs.declared.Circuit.{Circuit}
use Rattle.cb_model.specs.Bits.{Bits, bits_of, weight}
use Rattle.cb_model.specs.Values.{expr_value}
use Rattle.cb_model.specs.Circuits.{Flat, Outputs, read_all}
use Rattle.cb_model.specs.Room.{room_v}
use Rattle.cb_dd.specs.declared.Node.{Node}
use Rattle.cb_dd.specs.declared.Triple.{Triple}
use Rattle.cb_dd.specs.Diagram.{Store, function_of}
use Rattle.cb_ops.specs.Ops.{Grows}
use Rattle.cb_verify.specs.declared.Verdict.{Verdict}
use Rattle.cb_verify.specs.declared.Verdict.TheVariants as verdict
use Rattle.cb_verify.specs.declared.comparison.Wanted.{Wanted}
use Rattle.cb_verify.specs.declared.comparison.Wanted.TheVariants as wanted
use Rattle.cb_verify.specs.Nodes.{AreNodes, node_bits, DependOn, Adds, unequal}
use Rattle.cb_verify.specs.Order.{IsFlattened}
use Rattle.cb_verify.specs.Verdict.{IsRight, IsLeastOver}
use Rattle.cb_verify.specs.Wanted.{Wants, FitsInputs, outputs_of}
use Rattle.cb_verify.proofs.Kept.{AreNodes-kept, DependOn-kept, node_bits-kept, node_bits-agree}
use Rattle.cb_verify.specs.Places.{ArePlaces}
use Rattle.cb_verify.proofs.Assignments.{map-agree}
use Rattle.cb_verify.proofs.Spread.{spread-row}
use Rattle.cb_verify.proofs.Nets.{depend-by}
use Rattle.cb_verify.proofs.Unequal.{equal-by}
use Rattle.cb_verify.proofs.Bridge.{circuit-one}
use Rattle.cb_verify.proofs.Verdicts.{room-below}

-- ---- outputs are one

outputs-one : (c : Circuit) → (f : Flat) × IsFlattened f c → (xs ys zs : List Bool) → length xs ≡ c.inputs → Outputs c xs ys → Outputs c xs zs → ys ≡ zs
outputs-one c h xs ys zs wide p q =
    let o = circuit-one c h xs wide in
    p.outputs ∙ ap (λ v. read_all v c.outputs) (o.only p.v p.consistent ∙ sym (o.only q.v q.consistent)) ∙ sym q.outputs

wants-one : (w : Wanted) (n : ℕ) → FitsInputs w n → (xs ys zs : List Bool) → length xs ≡ n → Wants w xs ys → Wants w xs zs → ys ≡ zs
wants-one (wanted.Spec es) n fits xs ys zs wide p q = p ∙ sym q
wants-one (wanted.Second c) n fits xs ys zs wide p q = outputs-one c.now fits.0 xs ys zs (wide ∙ sym fits.1) p q

outputs-long : (c : Circuit) (xs ys : List Bool) → Outputs c xs ys → length ys ≡ length c.outputs
outputs-long c xs ys o = ap length o.outputs ∙ length-map c.outputs (λ n. get_or o.v n false)

wants-long : (w : Wanted) (xs ys : List Bool) → Wants w xs ys → length ys ≡ outputs_of w
wants-long (wanted.Spec es) xs ys p = ap length p ∙ length-map es.now (expr_value (bits_of []) (bits_of xs))
wants-long (wanted.Second c) xs ys p = outputs-long c.now xs ys p

-- nodes that have bits by a relation with one answer depend on what the inputs depend on
relation-depend : (R : List Bool → List Bool → Type 0) (n : ℕ) → ((xs ys zs : List Bool) → length xs ≡ n → R xs ys → R xs zs → ys ≡ zs) → (s t : List Triple) (inputs ns : List Node) → length inputs ≡ n
    → ((a : Bits) → R (node_bits s inputs a) (node_bits t ns a)) → (ls : List ℕ) → DependOn s inputs ls → DependOn t ns ls
relation-depend R n one s t inputs ns long are ls d =
    depend-by t ns ls (λ a b e.
    let same : node_bits s inputs a ≡ node_bits s inputs b = node_bits-agree s inputs ls a b d e in
    one (node_bits s inputs a) (node_bits t ns a) (node_bits t ns b) (length-map inputs (λ m. function_of s m.0 a) ∙ long) (are a) (subst (λ xs. R xs (node_bits t ns b)) (sym same) (are b)))

-- ---- the inputs

module _ (ls : List ℕ) (s : List Triple) (inputs : List Node) (first : (a : Bits) → node_bits s inputs a ≡ map a ls) where
  inputs-long : length inputs ≡ length ls
  inputs-long =
      let a : Bits = λ _. false in
      sym (length-map inputs (λ m. function_of s m.0 a)) ∙ ap length (first a) ∙ length-map ls a

  inputs-depend : DependOn s inputs ls
  inputs-depend = depend-by s inputs ls (λ a b e. first a ∙ map-agree ls a b e ∙ sym (first b))

-- ---- the verdict

module _ (c : Circuit) (h : (f : Flat) × IsFlattened f c) (w : Wanted) (fits : FitsInputs w c.inputs) (as_many : outputs_of w ≡ length c.outputs)
    (order ls : List ℕ) (places : ArePlaces c.inputs order ls) (ts : List Triple) (gots wants : List Node)
    (got : (a : Bits) → Outputs c (map a ls) (node_bits ts gots a)) (want : (a : Bits) → Wants w (map a ls) (node_bits ts wants a)) where
  pub gots-long : length gots ≡ length c.outputs
  gots-long =
      let a : Bits = λ _. false in
      sym (length-map gots (λ m. function_of ts m.0 a)) ∙ outputs-long c (map a ls) (node_bits ts gots a) (got a)

  pub wants-as-many : length wants ≡ length gots
  wants-as-many =
      let a : Bits = λ _. false in
      sym (length-map wants (λ m. function_of ts m.0 a)) ∙ wants-long w (map a ls) (node_bits ts wants a) (want a) ∙ as_many ∙ sym gots-long

  lengths : (a : Bits) → length (node_bits ts gots a) ≡ length (node_bits ts wants a)
  lengths a = length-map gots (λ n. function_of ts n.0 a) ∙ sym wants-as-many ∙ sym (length-map wants (λ n. function_of ts n.0 a))

  -- where no node differs the outputs are equal
  agree-at : (input xs ys : List Bool) → length input ≡ c.inputs → (a : Bits) → map a ls ≡ input → unequal (node_bits ts gots a) (node_bits ts wants a) ≡ false → Outputs c input xs → Wants w input ys → xs ≡ ys
  agree-at input xs ys width a is none o b =
      outputs-one c h input xs (node_bits ts gots a) width o (subst (λ x. Outputs c x (node_bits ts gots a)) is (got a))
      ∙ equal-by (node_bits ts gots a) (node_bits ts wants a) (lengths a) none
      ∙ wants-one w c.inputs fits input (node_bits ts wants a) ys width (subst (λ x. Wants w x (node_bits ts wants a)) is (want a)) b

  -- an input as an assignment of the levels
  spread : List Bool → Bits
  spread input = bits_of (map (bits_of input) order)

  spread-is : (input : List Bool) → length input ≡ c.inputs → map (spread input) ls ≡ input
  unfolding spread
  spread-is input width = spread-row order ls places.inverse input (width ∙ sym places.count ∙ places.inverse.as_many)

  pub right : (v : Verdict) → IsLeastOver ts ls gots wants v → IsRight c (Wants w) v
  right verdict.Verified none = λ input xs ys width o b. agree-at input xs ys width (spread input) (spread-is input width) (none (spread input)) o b
  right (verdict.Differs input output x y) r =
      let a : Bits = r.1.0 in
      let is : map a ls ≡ input = r.1.1.0 in
      let f = r.1.1.1 in (
        r.0,
        record {
          xs = node_bits ts gots a;
          ys = node_bits ts wants a;
          width = sym (ap length is) ∙ length-map ls a ∙ places.count;
          outputs = subst (λ x. Outputs c x (node_bits ts gots a)) is (got a);
          by_spec = subst (λ x. Wants w x (node_bits ts wants a)) is (want a);
          within = f.within;
          has = f.has;
          wants = f.wants;
          differ = f.differ;
          least_output = f.least;
          least_input = λ other us vs width lt o b. agree-at other us vs width (spread other) (spread-is other width) (less-agree other width lt r.2) o b;
        },
      )
    where
      less-agree : (other : List Bool) → length other ≡ c.inputs → weight other < weight input
          → ((a : Bits) → unequal (node_bits ts gots a) (node_bits ts wants a) ≡ true → weight input ≤ weight (map a ls)) → unequal (node_bits ts gots (spread other)) (node_bits ts wants (spread other)) ≡ false
      less-agree other width lt least = elim (cases_Bool (unequal (node_bits ts gots (spread other)) (node_bits ts wants (spread other)))) [
        | inl differs ↦ absurd (let w = least (spread other) differs in let e = ap weight (spread-is other width) in omega (arith, w, e, lt))
        | inr agree ↦ agree
      ]

-- ---- a whole comparison: the store s has the inputs, the store t what is got, the store u what is wanted, besides

module _ (c : Circuit) (h : (f : Flat) × IsFlattened f c) (w : Wanted) (fits : FitsInputs w c.inputs) (as_many : outputs_of w ≡ length c.outputs)
    (order ls : List ℕ) (places : ArePlaces c.inputs order ls) (s t u : Store) (st : Grows s t) (tu : Grows t u) (inputs nodes : List Node) (given : nodes ≡ inputs) (input_nodes : AreNodes s.triples inputs)
    (first : (a : Bits) → node_bits s.triples inputs a ≡ map a ls) where
  pub nodes-are : AreNodes s.triples nodes
  nodes-are = subst (AreNodes s.triples) (sym given) input_nodes

  pub nodes-are-later : AreNodes t.triples nodes
  nodes-are-later = AreNodes-kept s t st nodes nodes-are

  first-of : (a : Bits) → node_bits s.triples nodes a ≡ map a ls
  first-of a = ap (λ ns. node_bits s.triples ns a) given ∙ first a

  pub nodes-long : length nodes ≡ c.inputs
  nodes-long = inputs-long ls s.triples nodes first-of ∙ places.count

  pub nodes-depend : DependOn s.triples nodes ls
  nodes-depend = inputs-depend ls s.triples nodes first-of

  nodes-depend-later : DependOn t.triples nodes ls
  nodes-depend-later = DependOn-kept s t st nodes nodes-are ls nodes-depend

  pub fits-nodes : FitsInputs w (length nodes)
  fits-nodes = subst (FitsInputs w) (sym nodes-long) fits

  pub got-room : (p : ℕ) → Adds s t p nodes → length t.triples ≤ length s.triples + p * (2 * 2 ^ c.inputs)
  got-room p r = subst (λ k. length t.triples ≤ length s.triples + p * (2 * 2 ^ k)) (places.count) (r.most ls nodes-depend)

  pub want-room : (p : ℕ) → Adds t u p nodes → length u.triples ≤ length t.triples + p * (2 * 2 ^ c.inputs)
  want-room p r = subst (λ k. length u.triples ≤ length t.triples + p * (2 * 2 ^ k)) (places.count) (r.most ls nodes-depend-later)

  module _ (got gots : List Node) (got_is : gots ≡ got) (got_nodes : AreNodes t.triples got) (got_has : (a : Bits) → Outputs c (node_bits s.triples nodes a) (node_bits t.triples got a))
      (want wants : List Node) (want_is : wants ≡ want) (want_nodes : AreNodes u.triples want) (want_has : (a : Bits) → Wants w (node_bits t.triples nodes a) (node_bits u.triples want a)) where
    gots-nodes : AreNodes t.triples gots
    gots-nodes = subst (AreNodes t.triples) (sym got_is) got_nodes

    gots-has : (a : Bits) → Outputs c (node_bits s.triples nodes a) (node_bits t.triples gots a)
    gots-has a = subst (λ ns. Outputs c (node_bits s.triples nodes a) (node_bits t.triples ns a)) (sym got_is) (got_has a)

    wants-has : (a : Bits) → Wants w (node_bits t.triples nodes a) (node_bits u.triples wants a)
    wants-has a = subst (λ ns. Wants w (node_bits t.triples nodes a) (node_bits u.triples ns a)) (sym want_is) (want_has a)

    pub got-whole : AreNodes u.triples gots × DependOn u.triples gots ls
    got-whole = (
      AreNodes-kept t u tu gots gots-nodes,
      DependOn-kept t u tu gots gots-nodes ls (relation-depend (Outputs c) c.inputs (outputs-one c h) s.triples t.triples nodes gots nodes-long gots-has ls nodes-depend),
    )

    pub want-whole : AreNodes u.triples wants × DependOn u.triples wants ls
    want-whole = (
      subst (AreNodes u.triples) (sym want_is) want_nodes,
      relation-depend (Wants w) c.inputs (wants-one w c.inputs fits) t.triples u.triples nodes wants nodes-long wants-has ls nodes-depend-later,
    )

    module _ (v : Store) (uv : Grows u v) where
      got-last : (a : Bits) → Outputs c (map a ls) (node_bits v.triples gots a)
      got-last a =
          subst (Outputs c (map a ls)) (sym (node_bits-kept u v uv gots got-whole.0 a ∙ node_bits-kept t u tu gots gots-nodes a))
          (subst (λ xs. Outputs c xs (node_bits t.triples gots a)) (first-of a) (gots-has a))

      want-last : (a : Bits) → Wants w (map a ls) (node_bits v.triples wants a)
      want-last a =
          subst (Wants w (map a ls)) (sym (node_bits-kept u v uv wants want-whole.0 a))
          (subst (λ xs. Wants w xs (node_bits u.triples wants a)) (node_bits-kept s t st nodes nodes-are a ∙ first-of a) (wants-has a))

      pub is-right : (x : Verdict) → IsLeastOver v.triples ls gots wants x → IsRight c (Wants w) x
      is-right = right c h w fits as_many order ls places v.triples gots wants got-last want-last

    got-now : (a : Bits) → Outputs c (map a ls) (node_bits u.triples gots a)
    got-now a = subst (Outputs c (map a ls)) (sym (node_bits-kept t u tu gots gots-nodes a)) (subst (λ xs. Outputs c xs (node_bits t.triples gots a)) (first-of a) (gots-has a))

    want-now : (a : Bits) → Wants w (map a ls) (node_bits u.triples wants a)
    want-now a = subst (λ xs. Wants w xs (node_bits u.triples wants a)) (node_bits-kept s t st nodes nodes-are a ∙ first-of a) (wants-has a)

    pub as-many : length wants ≡ length gots
    as-many = wants-as-many c h w fits as_many order ls places u.triples gots wants got-now want-now

    pub outputs-count : length gots ≡ length c.outputs
    outputs-count = gots-long c h w fits as_many order ls places u.triples gots wants got-now want-now

    -- the room of the differences
    pub last-room : (new : ℕ) → new ≤ length u.triples + length gots * (2 * 2 ^ length ls) → new ≤ length u.triples + length c.outputs * (2 * 2 ^ c.inputs)
    last-room new r = subst (λ k. new ≤ length u.triples + length c.outputs * (2 * 2 ^ k)) places.count (subst (λ k. new ≤ length u.triples + k * (2 * 2 ^ length ls)) outputs-count r)

-- ---- the bound

-- as many nodes as inputs
pub levels-room : (n : ℕ) (order ls given : List ℕ) → given ≡ ls → ArePlaces n order ls → (old new : ℕ) → new ≤ old + length given → new ≤ old + n
levels-room n order ls given is places old new h = omega (arith, h, ap length is, places.count)

pub within-one : (old n p s m x k : ℕ) → k ≤ old + n → k ≤ old + n + (p + s + m) * x
within-one old n p s m x k h = omega (arith, h)

pub within-two : (old n p s m x i k : ℕ) → i ≤ old + n → k ≤ i + p * x → k ≤ old + n + (p + s + m) * x
within-two old n p s m x i k h j = let f : p ≤ p + s + m = omega arith in let g = mul-le-mul_right x f in omega (arith, h, j, g)

pub within-three : (old n p s m x i j k : ℕ) → i ≤ old + n → j ≤ i + p * x → k ≤ j + s * x → k ≤ old + n + (p + s + m) * x
within-three old n p s m x i j k h e r = let f : p + s ≤ p + s + m = omega arith in let g = mul-le-mul_right x f in omega (arith, h, e, r, g)

pub within-all : (old n p s m x i j l k : ℕ) → i ≤ old + n → j ≤ i + p * x → l ≤ j + s * x → k ≤ l + m * x → k ≤ old + n + (p + s + m) * x
within-all old n p s m x i j l k h e r q = omega (arith, h, e, r, q)

-- all operations of a comparison make fewer nodes than the bound
pub compared-below : (p m n k : ℕ) → k ≤ n + (p + m) * (2 * 2 ^ n) → k < room_v p 0 m n
compared-below p m n k h =
    let f : p + m ≤ p + 0 + 2 * m = omega arith in
    let g = mul-le-mul_right (2 * 2 ^ n) f in
    room-below p 0 m n k (omega (arith, h, g))
