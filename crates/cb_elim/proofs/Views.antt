-- A store stays one when nodes are added.
use Rattle.std.proofs.Common.{◌≡◌, ℕ, zero, suc, ◌<◌, Bool, List, [], ◌∷◌, length, get_or, Some, None, if◌then◌else◌, refl, sym, ap, subst, ◌∙◌, arith}
use Rattle.std.proofs.Math.Path.{fun_ext}
use Rattle.cb_model.specs.Bits.{Bits, Each}
use Rattle.cb_dd.specs.declared.Node.{Node}
use Rattle.cb_dd.specs.declared.Triple.{Triple}
use Rattle.cb_dd.specs.Diagram.{Store, IsNode, function_of}
use Rattle.cb_ops.specs.Ops.{Grows, IsIte, StandsFor}
use Rattle.cb_ops.proofs.Ite.{grown-function, grown-node}
use Rattle.cb_boole.specs.Elimination.{Function}
use Rattle.cb_boole.specs.Form.{IsForm}
use Rattle.cb_boole.specs.View.{View, IsGood, IsFit, InRange, back, point}
use Rattle.cb_boole.proofs.Form.{form_empty}
use Rattle.cb_boole.proofs.Grow.{fit_constant}
use Rattle.cb_boole.proofs.Unify.{at_point}
use Rattle.cb_elim.specs.declared.Change.{Change}
use Rattle.cb_elim.specs.Store.{Seen, IsStore, IsArgument, OnlyNodes, AreThere, HasSameRange, IsVariableOf, slot_bits, stands_in, value_in, view_of, with_fulls, empty}
use Rattle.cb_elim.specs.Laws.{IsDecidedBy}

-- the view with these values
abbrev pub with_values : Seen → (ℕ → Function) → View
with_values s v = record { constants = s.constants; stands = stands_in s.free; IsVariable = IsVariableOf s.free; values = v }

pub value-still : (s t : Store) → Grows s t → (ns : List Node) → AreThere s.triples ns → (x : ℕ) → value_in t.triples ns x ≡ value_in s.triples ns x
value-still s t g [] h x = refl
value-still s t g (n ∷ ns) h zero = fun_ext (λ p. grown-function s t g n.0 h.0 p)
value-still s t g (n ∷ ns) h (suc x) = value-still s t g ns h.1 x

pub there-still : (s t : Store) → Grows s t → (ns : List Node) → AreThere s.triples ns → AreThere t.triples ns
there-still s t g [] h = tt
there-still s t g (n ∷ ns) h = (grown-node s t g n.0 h.0, there-still s t g ns h.1)

pub changed-still : (s t : Store) → Grows s t → (cs : List Change) → Each (λ c. IsNode s.triples c.value.0) cs → Each (λ c. IsNode t.triples c.value.0) cs
changed-still s t g [] h = tt
changed-still s t g (c ∷ cs) h = (grown-node s t g c.value.0 h.0, changed-still s t g cs h.1)

pub view-still : (s : Seen) (t : Store) → Grows s.nodes t → AreThere s.nodes.triples s.slots → view_of (record s { nodes = t }) ≡ view_of s
unfolding view_of
view-still s t g h = ap (λ (v : ℕ → Function). with_values s v) (fun_ext (λ x. value-still s.nodes t g s.slots h x))

pub store-still : (s : Seen) (t : Store) → IsStore s → Grows s.nodes t → IsStore (record s { nodes = t })
store-still s t st g = record {
  good = subst IsGood (sym (view-still s t g st.nodes)) st.good;
  form = subst IsForm (sym (view-still s t g st.nodes)) st.form;
  slots = st.slots;
  levels = st.levels;
  constants = st.constants;
  nodes = there-still s.nodes t g s.slots st.nodes;
  trail = st.trail;
  changed = changed-still s.nodes t g s.trail st.changed;
}

pub argument-still : (s : Seen) (t : Store) → IsStore s → Grows s.nodes t → (n : ℕ) → IsArgument s n → IsArgument (record s { nodes = t }) n
argument-still s t st g n a = record {
  node = grown-node s.nodes t g n a.node;
  fit = subst (λ (f : Function). IsFit (view_of (record s { nodes = t })) f) (sym (fun_ext (λ p. grown-function s.nodes t g n a.node p)))
      (subst (λ (S : View). IsFit S (function_of s.nodes.triples n)) (sym (view-still s t g st.nodes)) a.fit);
}

-- the count of refusals says nothing of the store
pub store-fulls : (n : ℕ) (s : Seen) → IsStore s → IsStore (with_fulls n s)
unfolding view_of
store-fulls n s st = record { good = st.good; form = st.form; slots = st.slots; levels = st.levels; constants = st.constants; nodes = st.nodes; trail = st.trail; changed = st.changed }

pub argument-fulls : (n : ℕ) (s : Seen) (f : ℕ) → IsArgument s f → IsArgument (with_fulls n s) f
unfolding view_of
argument-fulls n s f a = record { node = a.node; fit = a.fit }

-- the fields of a store that is open
module _ (now s : Seen) (is : s ≡ now) (st : IsStore now) where
  pub store-inside : IsStore s
  store-inside = subst IsStore (sym is) st

  pub argument-inside : (n : ℕ) → IsArgument now n → IsArgument s n
  argument-inside n a = subst (λ (o : Seen). IsArgument o n) (sym is) a

  module _ (t : Store) (g : Grows s.nodes t) where
    pub store-grown : IsStore (record s { nodes = t })
    store-grown = store-still s t store-inside g

    pub only-nodes : OnlyNodes now (record s { nodes = t })
    only-nodes = subst (λ (o : Seen). OnlyNodes o (record s { nodes = t })) is (record {
      same = refl;
      grows = g;
      arguments = λ n a. argument-still s t store-inside g n a;
    })

    -- a node that has the bit of a constant
    pub constant-argument : (k n : ℕ) → k < now.constants → IsNode t.triples n → StandsFor t.triples n (λ p. p k) → IsArgument (record s { nodes = t }) n
    unfolding view_of
    constant-argument k n h w f = record {
      node = w;
      fit = subst (λ (g : Function). IsFit (view_of (record s { nodes = t })) g) (sym (fun_ext (λ p. f.at p)))
          (fit_constant (view_of (record s { nodes = t })) store-grown.good k (subst (λ (o : Seen). k < o.constants) (sym is) h));
    }

pub empty-store : (constants budget : ℕ) → IsStore (empty constants budget)
unfolding view_of
empty-store constants budget = record {
  good = record {
    above = λ l x e h. let d : None ≡ Some x = e in cc;
    variable = λ l x e. absurd (let d : None ≡ Some x = e in cc);
    single = λ k l x e d. absurd (let d : None ≡ Some x = e in cc);
    fit = λ x. record { only = λ p q h. refl; kept = λ p. refl };
  };
  form = form_empty (view_of (empty constants budget)) (λ l x e. let d : None ≡ Some x = e in cc);
  slots = λ x h. absurd h;
  levels = λ l x e. absurd (let d : None ≡ Some x = e in cc);
  constants = omega arith;
  nodes = tt;
  trail = tt;
  changed = tt;
}

-- the value of a slot
pub value-at : (ts : List Triple) (ns : List Node) (x : ℕ) (n : Node) → x < length ns → n ≡ get_or ns x n → function_of ts n.0 ≡ value_in ts ns x
value-at ts [] x n h e = absurd (omega arith)
value-at ts (m ∷ ns) zero n h e = ap (λ (i : Node). function_of ts i.0) e
value-at ts (m ∷ ns) (suc x) n h e = value-at ts ns x n (omega arith) e

node-at : (ts : List Triple) (ns : List Node) (x : ℕ) (n : Node) → AreThere ts ns → x < length ns → n ≡ get_or ns x n → IsNode ts n.0
node-at ts [] x n w h e = absurd (omega arith)
node-at ts (m ∷ ns) zero n w h e = subst (λ (i : Node). IsNode ts i.0) (sym e) w.0
node-at ts (m ∷ ns) (suc x) n w h e = node-at ts ns x n w.1 (omega arith) e

pub value-argument : (s : Seen) → IsStore s → (x : ℕ) (n : Node) → x < length s.slots → n ≡ get_or s.slots x n → IsArgument s n.0
unfolding view_of
value-argument s st x n h e = record {
  node = node-at s.nodes.triples s.slots x n st.nodes h e;
  fit = subst (λ (f : Function). IsFit (view_of s) f) (sym (value-at s.nodes.triples s.slots x n h e)) (st.good.fit x);
}

-- ---- loans

pub range-still : (s : Seen) (t : Store) → IsStore s → Grows s.nodes t → HasSameRange (view_of s) (view_of (record s { nodes = t }))
range-still s t st g = subst (λ (S : View). HasSameRange (view_of s) S) (sym (view-still s t g st.nodes)) (λ a b. ((λ r. r), (λ r. r)))

pub bits-still : (s : Seen) (t : Store) → IsStore s → Grows s.nodes t → (a w : Bits) (x : ℕ) → slot_bits (view_of (record s { nodes = t })) a w x ≡ slot_bits (view_of s) a w x
bits-still s t st g a w x = ap {B = Bool} (λ (S : View). slot_bits S a w x) (view-still s t g st.nodes)

-- what is a function of nodes that meet the condition meets it
module _ (s : Seen) (st : IsStore s) where
  same-bits : (fs : List ℕ) → Each (IsArgument s) fs → (p q : Bits) → ((f : ℕ) → IsArgument s f → function_of s.nodes.triples f p ≡ function_of s.nodes.triples f q) → Each (λ f. function_of s.nodes.triples f p ≡ function_of s.nodes.triples f q) fs
  same-bits [] h p q e = tt
  same-bits (f ∷ fs) h p q e = (e f h.0, same-bits fs h.1 p q e)

  pub decided-argument : (t : Store) → Grows s.nodes t → (fs : List ℕ) (n : ℕ) → Each (IsArgument s) fs → IsDecidedBy s.nodes t fs n → IsArgument (record s { nodes = t }) n
  decided-argument t g fs n h d = record {
    node = d.node;
    fit = subst (λ (S : View). IsFit S (function_of t.triples n)) (sym (view-still s t g st.nodes)) (record {
      only = λ p q e. d.decided p q (same-bits fs h p q (λ f a. a.fit.only p q e));
      kept = λ p. d.decided (back (view_of s) p) p (same-bits fs h (back (view_of s) p) p (λ f a. a.fit.kept p));
    });
  }

  pub choice-argument : (t : Store) → Grows s.nodes t → (f g h n : ℕ) → Each (IsArgument s) (f ∷ g ∷ h ∷ []) → IsNode t.triples n → IsIte s.nodes.triples t.triples f g h n → IsArgument (record s { nodes = t }) n
  choice-argument t grows f g h n each w is = decided-argument t grows (f ∷ g ∷ h ∷ []) n each (record {
    node = w;
    decided = λ p q e. is.at p ∙ same (function_of s.nodes.triples f p) _ _ _ _ _ e.0 e.1.0 e.1.1.0 ∙ sym (is.at q);
  })
    where
      same : (x y z x' y' z' : Bool) → x ≡ x' → y ≡ y' → z ≡ z' → (if x then y else z) ≡ (if x' then y' else z')
      same x y z x' y' z' a b c = λ i. if a i then b i else c i

  pub value-of-pair : (n : ℕ) → IsArgument s n → (a b : Bits) (r : InRange (view_of s) a b) → function_of s.nodes.triples n (point (view_of s).stands a b) ≡ function_of s.nodes.triples n r.at
  value-of-pair n h a b r = at_point (view_of s) st.good (function_of s.nodes.triples n) h.fit a b r
