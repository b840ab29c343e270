-- The values of slots, and what their parametric form says of the store.
use Rattle.std.proofs.Common.{◌≡◌, inl, inr, ℕ, zero, suc, ◌+◌, ◌<◌, ◌≤◌, List, [], ◌∷◌, ◌++◌, map, length, take, get_or, Option, Some, None, IfSome, refl, sym, ap, ap₂, ◌∙◌, subst, append-nil, arith}
use Rattle.std.proofs.lemmas.List.{take_more, take_all}
use Rattle.indexmap.specs.IndexMap.{IndexMap}
use Rattle.cb_model.specs.Bits.{Each, numbers_from}
use Rattle.cb_model.specs.Answers.{Gen}
use Rattle.cb_model.specs.Outside.{Rose}
use Rattle.cb_dd.specs.declared.Triple.{Triple}
use Rattle.cb_dd.specs.declared.Node.{Node}
use Rattle.cb_dd.specs.Diagram.{Store, IsNode, function_of}
use Rattle.cb_ops.specs.Ops.{Grows}
use Rattle.cb_ops.proofs.Ite.{Grows-same}
use Rattle.cb_boole.specs.Elimination.{Function, DependsOnly}
use Rattle.cb_boole.specs.View.{IsFit, IsLive}
use Rattle.cb_boole.proofs.Only.{weaker}
use Rattle.cb_elim.specs.declared.Slot.{Slot}
use Rattle.cb_elim.specs.Store.{Seen, IsStore, IsArgument, KeepsArguments, view_of, value_in, AreThere}
use Rattle.cb_elim.specs.Moments.{KeepsMoments}
use Rattle.cb_elim.proofs.Back.{keeps, store-drawn, argument-drawn}
use Rattle.cb_elim.proofs.Views.{store-still, argument-still}
use Rattle.cb_boole.specs.Parametric.{Reaches, Allows, values_at}
use Rattle.cb_boole.proofs.Shown.{reaches_allows, gen_same}
use Rattle.cb_project.specs.Leaves.{functions_of, AllNodes, AllBelow, AreParametric, IsFormOf, ParametricRoom, ParametricCause}
use Rattle.cb_boole.specs.Form.{AreSettled, values_of}
use Rattle.cb_boole.specs.Stages.{AreOwn}
use Rattle.cb_boole.proofs.Leaves.{settled_parametric, settled_own}
use Rattle.cb_project.specs.Renaming.{Entries, names_in, numbers_of, AreNamed, IsRenaming}
use Rattle.cb_project.specs.Answer.{AreSlots, DrawsLevels, IsAnswer, IsProjected, slot_nodes, slot_values}

-- ---- the values

pub slots-more : (s : Seen) (xs : List Slot) (x : Slot) → slot_nodes s (xs ++ x ∷ []) ≡ slot_nodes s xs ++ get_or s.slots x.0 (record { 0 = 0 }) ∷ []
slots-more s [] x = refl
slots-more s (y ∷ xs) x = ap (λ l. get_or s.slots y.0 (record { 0 = 0 }) ∷ l) (slots-more s xs x)

other-default : (ns : List Node) (k : ℕ) (a b : Node) → k < length ns → get_or ns k a ≡ get_or ns k b
other-default [] k a b lt = absurd (omega arith)
other-default (n ∷ ns) zero a b lt = refl
other-default (n ∷ ns) (suc k) a b lt = other-default ns k a b (omega arith)

pub slot-there : (s : Seen) (leaves : List Slot) (i : ℕ) (d : Slot) → AreSlots s leaves → i < length leaves → (get_or leaves i d).0 < length s.slots
slot-there s [] i d are lt = absurd (omega arith)
slot-there s (l ∷ leaves) zero d are lt = are.0
slot-there s (l ∷ leaves) (suc i) d are lt = slot-there s leaves i d are.1 (omega arith)

-- one value more
pub slots-next : (s : Seen) (leaves : List Slot) (i : ℕ) (d : Slot) (n : Node) (values : List Node) → AreSlots s leaves → i < length leaves →
    values ≡ slot_nodes s (take i leaves) → n ≡ get_or s.slots (get_or leaves i d).0 n → values ++ n ∷ [] ≡ slot_nodes s (take (i + 1) leaves)
slots-next s leaves i d n values are lt before e =
    ap₂ (λ (l : List Node) (m : Node). l ++ m ∷ []) before (e ∙ other-default s.slots (get_or leaves i d).0 n (record { 0 = 0 }) (slot-there s leaves i d are lt)) ∙
    sym (ap (slot_nodes s) (take_more leaves i d lt) ∙ slots-more s (take i leaves) (get_or leaves i d))

pub slots-done : (s : Seen) (leaves : List Slot) (i : ℕ) (values : List Node) → length leaves ≤ i → values ≡ slot_nodes s (take i leaves) → values ≡ slot_nodes s leaves
slots-done s leaves i values le e = e ∙ ap (slot_nodes s) (take_all i leaves le)

pub value-same : (ts : List Triple) (ns : List Node) (x : ℕ) (d : Node) → x < length ns → function_of ts (get_or ns x d).0 ≡ value_in ts ns x
value-same ts [] x d lt = absurd (omega arith)
value-same ts (n ∷ ns) zero d lt = refl
value-same ts (n ∷ ns) (suc x) d lt = value-same ts ns x d (omega arith)

pub functions-slots : (s : Seen) (leaves : List Slot) → AreSlots s leaves → functions_of s.nodes.triples (slot_nodes s leaves) ≡ slot_values s leaves
functions-slots s [] are = refl
functions-slots s (l ∷ leaves) are = ap₂ ◌∷◌ (value-same s.nodes.triples s.slots l.0 (record { 0 = 0 }) are.0) (functions-slots s leaves are.1)

pub there-at : (ts : List Triple) (ns : List Node) (x : ℕ) (d : Node) → AreThere ts ns → x < length ns → IsNode ts (get_or ns x d).0
there-at ts [] x d w lt = absurd (omega arith)
there-at ts (n ∷ ns) zero d w lt = w.0
there-at ts (n ∷ ns) (suc x) d w lt = there-at ts ns x d w.1 (omega arith)

pub slots-nodes : (s : Seen) (leaves : List Slot) → IsStore s → AreSlots s leaves → AllNodes s.nodes.triples (slot_nodes s leaves)
slots-nodes s [] st are = tt
slots-nodes s (l ∷ leaves) st are = (there-at s.nodes.triples s.slots l.0 (record { 0 = 0 }) st.nodes are.0, slots-nodes s leaves st are.1)

-- a slot's value depends on levels that were drawn alone
value-below : (s : Seen) → IsStore s → (x : ℕ) → DependsOnly (λ k. k < s.drawn) (value_in s.nodes.triples s.slots x)
unfolding view_of
value-below s st x = weaker (IsLive (view_of s)) (λ k. k < s.drawn) (value_in s.nodes.triples s.slots x) (st.good.fit x).only (λ k w. drawn k w)
  where
    drawn : (k : ℕ) → IsLive (view_of s) k → k < s.drawn
    drawn k (inl lt) = let b : s.constants ≤ s.drawn = st.constants in let a : k < s.constants = lt in omega (arith, a, b)
    drawn k (inr w) = st.levels k w.0 w.1

values-below : (s : Seen) (leaves : List Slot) → IsStore s → AllBelow s.drawn (slot_values s leaves)
values-below s [] st = tt
values-below s (l ∷ leaves) st = (value-below s st l.0, values-below s leaves st)

pub slots-below : (s : Seen) (leaves : List Slot) → IsStore s → AreSlots s leaves → AllBelow s.drawn (functions_of s.nodes.triples (slot_nodes s leaves))
slots-below s leaves st are = subst (λ fs. AllBelow s.drawn fs) (sym (functions-slots s leaves are)) (values-below s leaves st)

-- ---- the answer

values-fit : (s : Seen) (leaves : List Slot) → IsStore s → Each (IsFit (view_of s)) (slot_values s leaves)
unfolding view_of
values-fit s [] st = tt
values-fit s (l ∷ leaves) st = (st.good.fit l.0, values-fit s leaves st)

pub is-answer : (s : Seen) (leaves : List Slot) (first : ℕ) (gens : List Function) → IsStore s → AreSlots s leaves →
    AreParametric s.constants first (functions_of s.nodes.triples (slot_nodes s leaves)) gens → IsAnswer s leaves first gens
unfolding view_of
is-answer s leaves first gens st are is p =
    gen_same (Reaches s.constants (slot_values s leaves) p) (Allows (view_of s) (slot_values s leaves) p)
    (reaches_allows (view_of s) st.good (slot_values s leaves) (values-fit s leaves st) p) [] (map p (numbers_from first (length gens))) (values_at gens p)
    (subst (λ fs. Gen (Reaches s.constants fs p) [] (map p (numbers_from first (length gens))) (values_at gens p)) (functions-slots s leaves are) (is p))

length-slots : (s : Seen) (leaves : List Slot) → length (slot_nodes s leaves) ≡ length leaves
length-slots s [] = refl
length-slots s (l ∷ leaves) = ap suc (length-slots s leaves)

-- ---- the store after the call

-- levels were drawn and nodes added
module _ (s : Seen) (m : ℕ) (t : Store) (st : IsStore s) (g : Grows s.nodes t) where
  pub store-after : IsStore (record s { drawn = s.drawn + m; nodes = t })
  store-after = store-still (record s { drawn = s.drawn + m }) t (store-drawn s m st) g

  pub argument-after : (n : ℕ) → IsArgument s n → IsArgument (record s { drawn = s.drawn + m; nodes = t }) n
  argument-after n a = argument-still (record s { drawn = s.drawn + m }) t (store-drawn s m st) g n (argument-drawn s m n a)

  pub moments-after : KeepsMoments s (record s { drawn = s.drawn + m; nodes = t })
  moments-after = keeps s (record s { drawn = s.drawn + m; nodes = t }) (record {
    constants = refl;
    drawn = omega arith;
    more = [];
    free = sym (append-nil s.free);
    changes = [];
    trail = sym (append-nil s.trail);
    number = omega arith;
    slots = take_all (length s.slots) s.slots (omega arith);
    nodes = g;
  })

-- a stop for nodes has its cause
pub the-cause : (values : List Node) (s t : Store) → Grows s t → ParametricRoom values s t → Rose s.fulls t.fulls → length t.triples ≡ t.budget → ParametricCause values s t
the-cause values s t g room rose full = record {
  rose = rose;
  below = λ ls d. let m = room.most ls d in let b : t.budget ≡ s.budget = g.budget in omega (arith, m, b, full);
}

-- ---- as the code has them: the store with its levels drawn, the values, and the operations that it lends

module _ (s s1 : Seen) (m : ℕ) (e : s1 ≡ record s { drawn = s.drawn + m }) (leaves : List Slot) (l values : List Node) (el : l ≡ values) (ev : values ≡ slot_nodes s1 leaves)
    (t0 : Store) (et : t0 ≡ s1.nodes) (st : IsStore s) (are : AreSlots s leaves) where
  nodes-are : t0 ≡ s.nodes
  nodes-are = et ∙ ap (λ (o : Seen). o.nodes) e

  values-are : l ≡ slot_nodes s leaves
  values-are = el ∙ ev ∙ ap (λ (o : Seen). slot_nodes o leaves) e

  pub lent-nodes : AllNodes t0.triples l
  lent-nodes = subst (λ (t : Store). AllNodes t.triples l) (sym nodes-are) (subst (λ (ns : List Node). AllNodes s.nodes.triples ns) (sym values-are) (slots-nodes s leaves st are))

  pub lent-below : (first : ℕ) → first ≡ s.drawn → AllBelow first (functions_of t0.triples l)
  lent-below first ef =
      subst (λ n. AllBelow n (functions_of t0.triples l)) (sym ef)
      (subst (λ (t : Store). AllBelow s.drawn (functions_of t.triples l)) (sym nodes-are)
      (subst (λ (ns : List Node). AllBelow s.drawn (functions_of s.nodes.triples ns)) (sym values-are) (slots-below s leaves st are)))

  module _ (t : Store) (g0 : Grows t0 t) where
    g : Grows s.nodes t
    g = subst (λ (o : Store). Grows o t) nodes-are g0

    same-after : record s1 { nodes = t } ≡ record s { drawn = s.drawn + m; nodes = t }
    same-after = ap (λ (o : Seen). let r : Seen = record o { nodes = t } in r) e

    pub lent-store : IsStore (record s1 { nodes = t })
    lent-store = subst IsStore (sym same-after) (store-after s m t st g)

    lent-argument : (n : ℕ) → IsArgument s n → IsArgument (record s1 { nodes = t }) n
    lent-argument n a = subst (λ (o : Seen). IsArgument o n) (sym same-after) (argument-after s m t st g n a)

    pub lent-moments : KeepsMoments s (record s1 { nodes = t })
    lent-moments = subst (KeepsMoments s) (sym same-after) (moments-after s m t st g)

    pub lent-room : ParametricRoom l t0 t → ParametricRoom (slot_nodes s leaves) s.nodes t
    lent-room r = subst (λ (o : Store). ParametricRoom (slot_nodes s leaves) o t) nodes-are (subst (λ (ns : List Node). ParametricRoom ns t0 t) values-are r)

    pub lent-cause : ParametricRoom l t0 t → Rose t0.fulls t.fulls → length t.triples ≡ t.budget → ParametricCause (slot_nodes s leaves) s.nodes t
    lent-cause r rose full = the-cause (slot_nodes s leaves) s.nodes t g (lent-room r) (subst (λ (o : Store). Rose o.fulls t.fulls) nodes-are rose) full

    lent-answer : (c first : ℕ) (gens : List Function) → c ≡ s1.constants → AreParametric c first (functions_of t0.triples l) gens → IsAnswer s leaves first gens
    lent-answer c first gens ec is = is-answer s leaves first gens st are
        (subst (λ (n : ℕ). AreParametric n first (functions_of s.nodes.triples (slot_nodes s leaves)) gens) (ec ∙ ap (λ (o : Seen). o.constants) e)
        (subst (λ (o : Store). AreParametric c first (functions_of o.triples (slot_nodes s leaves)) gens) nodes-are
        (subst (λ (ns : List Node). AreParametric c first (functions_of t0.triples ns) gens) values-are is)))

    pub lent-draws : DrawsLevels s (record s1 { nodes = t }) m
    lent-draws = record { same = same-after; grows = g; arguments = lent-argument }

    pub lent-projected : (c first : ℕ) (ns : List Node) → c ≡ s1.constants → first ≡ s.drawn → IsFormOf t0.triples t.triples c first l ns → IsProjected s (record s1 { nodes = t }) leaves first ns
    lent-projected c first ns ec ef form = record {
      as_many = form.as_many ∙ ap length values-are ∙ length-slots s leaves;
      first = ef;
      nodes = form.nodes;
      answer = lent-answer c first (functions_of t.triples ns) ec form.parametric;
      own = subst (λ n. AreOwn n first 0 (functions_of t.triples ns)) (ec ∙ ap (λ (o : Seen). o.constants) e) form.own;
    }

-- levels alone were drawn
pub drawn-draws : (s s1 : Seen) (m : ℕ) → s1 ≡ record s { drawn = s.drawn + m } → KeepsArguments s s1 → DrawsLevels s s1 m
drawn-draws s s1 m e kept = record {
  same = e ∙ (λ i. record s { drawn = s.drawn + m; nodes = sym (ap (λ (o : Seen). o.nodes) e) i });
  grows = subst (λ (t : Store). Grows s.nodes t) (sym (ap (λ (o : Seen). o.nodes) e)) (Grows-same s.nodes);
  arguments = kept;
}

pub room-none : (values : List Node) (s : Store) → ParametricRoom values s s
room-none values s = Rattle.cb_project.proofs.Whole.whole-room s s values 0 (omega arith) (λ ls d. omega arith)

-- the levels that get parameters, for the operations that the store lends
numbers-values : (s : Seen) (leaves : List Slot) → slot_values s leaves ≡ values_of (view_of s) (numbers_of leaves)
unfolding view_of
numbers-values s [] = refl
numbers-values s (l ∷ leaves) = ap (λ fs. value_in s.nodes.triples s.slots l.0 ∷ fs) (numbers-values s leaves)

length-values : (s : Seen) (leaves : List Slot) → length (slot_values s leaves) ≡ length leaves
length-values s [] = refl
length-values s (l ∷ leaves) = ap suc (length-values s leaves)

length-numbers-of : (leaves : List Slot) → length (numbers_of leaves) ≡ length leaves
length-numbers-of [] = refl
length-numbers-of (l ∷ leaves) = ap suc (length-numbers-of leaves)

pub is-renaming : (s : Seen) (leaves : List Slot) (first next : ℕ) (es : Entries) → IsStore s → AreSlots s leaves → AreNamed s first leaves (length leaves) next es →
    IsRenaming s.constants first (functions_of s.nodes.triples (slot_nodes s leaves)) es
unfolding view_of
is-renaming s leaves first next es st are named =
    let all : AreSettled (view_of s) (names_in es) first (numbers_of leaves) = subst (λ (ls : List Slot). AreSettled (view_of s) (names_in es) first (numbers_of ls)) (take_all (length leaves) leaves (omega arith)) named.settled in
    let bounds : (l v : ℕ) → names_in es l ≡ Some v → (s.constants ≤ l) × (first ≤ v) = λ l v e. let b = named.bounds l v e in (b.0, b.1) in
    let m : length (slot_values s leaves) ≡ length leaves = length-values s leaves in
    subst (λ (fs : List Function). IsRenaming s.constants first fs es) (sym (functions-slots s leaves are)) (record {
      constant = λ l v e. (named.bounds l v e).0;
      parameter = λ l v e. let b = named.bounds l v e in (b.1, omega (arith, b.2, m));
      few = omega (arith, named.few, m);
      rise = named.rise;
      form = λ p.
          subst (λ n. Gen (Reaches s.constants (slot_values s leaves) p) [] (map p (numbers_from first n)) (values_at (slot_values s leaves) (Rattle.cb_boole.specs.Form.named (names_in es) p))) (length-numbers-of leaves ∙ sym m)
          (subst (λ (fs : List Function). Gen (Reaches s.constants fs p) [] (map p (numbers_from first (length (numbers_of leaves)))) (values_at fs (Rattle.cb_boole.specs.Form.named (names_in es) p))) (sym (numbers-values s leaves))
          (settled_parametric (view_of s) st.good st.form (names_in es) first bounds (numbers_of leaves) all p));
      own = subst (λ (fs : List Function). AreOwn s.constants first 0 (map (λ f p. f (Rattle.cb_boole.specs.Form.named (names_in es) p)) fs)) (sym (numbers-values s leaves))
          (settled_own (view_of s) st.good st.form (names_in es) first bounds 0 first (numbers_of leaves) (omega arith) all);
    })

-- as the code has it
pub lent-renaming : (s : Seen) (leaves : List Slot) (first : ℕ) (c : ℕ) (es : Entries) (l : List Node) (t0 : Store) → IsStore s → AreSlots s leaves → l ≡ slot_nodes s leaves → t0 ≡ s.nodes → c ≡ s.constants →
    (next : ℕ) × AreNamed s first leaves (length leaves) next es → IsRenaming c first (functions_of t0.triples l) es
lent-renaming s leaves first c es l t0 st are el et ec named =
    subst (λ n. IsRenaming n first (functions_of t0.triples l) es) (sym ec)
    (subst (λ (t : Store). IsRenaming s.constants first (functions_of t.triples l) es) (sym et)
    (subst (λ (ns : List Node). IsRenaming s.constants first (functions_of s.nodes.triples ns) es) (sym el)
    (is-renaming s leaves first named.0 es st are named.1)))

pub some-renaming : {S : Type 0} (o : Option (IndexMap ℕ ℕ S)) (s s1 : Seen) (m : ℕ) (e : s1 ≡ record s { drawn = s.drawn + m }) (leaves : List Slot) (first c : ℕ) (l values : List Node) (t0 : Store) →
    IsStore s1 → AreSlots s leaves → l ≡ values → values ≡ slot_nodes s1 leaves → t0 ≡ s1.nodes → c ≡ s1.constants →
    IfSome o (λ m. (next : ℕ) × AreNamed s1 first leaves (length leaves) next m.entries) → IfSome o (λ m. IsRenaming c first (functions_of t0.triples l) m.entries)
some-renaming (Some names) s s1 m e leaves first c l values t0 st are el ev et ec h =
    lent-renaming s1 leaves first c names.entries l t0 st (subst (λ (o : Seen). AreSlots o leaves) (sym e) are) (el ∙ ev) et ec h
some-renaming None s s1 m e leaves first c l values t0 st are el ev et ec h = tt
