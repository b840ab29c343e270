-- The steps of the reading of facts.
use Rattle.std.proofs.Common.{◌≡◌, ℕ, suc, ◌+◌, ◌<◌, ◌≤◌, Bool, true, false, List, [], ◌∷◌, ◌++◌, map, length, drop, get_or, Option, Some, None, position, bytes_eq, refl, sym, ◌∙◌, ap, subst, arith, append_assoc, append-nil}
use Rattle.std.specs.Bool.{if◌then◌else◌}
use Rattle.std.specs.List.{list_any}
use Rattle.cb_model.specs.declared.RawTerm.{RawTerm}
use Rattle.cb_model.specs.declared.Expr.{Expr}
use Rattle.cb_model.specs.Text.{Text}
use Rattle.cb_model.specs.Grammar.{Form, Forms, Variable, Integer, Name, Closed, Open, Not, And, Xor, Or, Last, More}
use Rattle.cb_model.specs.Forms.{form_of, forms_of}
use Rattle.cb_model.specs.Directives.{both}
use Rattle.cb_model.specs.Loading.{add_name}
use Rattle.cb_model.specs.Sorts.{apart, apart_all}
use Rattle.cb_model.specs.Circuits.{Instance}
use Rattle.cb_model.specs.Facts.{net_of, nets_of, instance_of, instances_in}
use Rattle.cb_directives.proofs.Reading.{drop_past}
use Rattle.cb_trees.proofs.Walk.{all_forms, opened}
use Rattle.cb_flat.proofs.Places.{position-append-found}
use Rattle.cb_facts.specs.declared.nets.Nets.{Nets}
use Rattle.cb_facts.specs.Reads.{add_names, AreNumbers, ReadsNet, ReadsNets, Grows, IsInstance, AreInstances, no_instances, an_instance, ReadsInstance, ReadsInstances}

-- ---- names that grow

pub add-grown : (ns : List Text) (x : Text) → Grows ns (add_name ns x)
add-grown ns x = step (list_any (bytes_eq x) ns)
  where
    step : (b : Bool) → Grows ns (if b then ns else ns ++ x ∷ [])
    step true = ([], sym (append-nil ns))
    step false = (x ∷ [], refl)

pub grown-more : (a b c : List Text) → Grows a b → Grows b c → Grows a c
grown-more a b c g h = (g.0 ++ h.0, h.1 ∙ ap (λ (l : List Text). l ++ h.0) g.1 ∙ append_assoc a g.0 h.0)

pub adds-grown : (ns xs : List Text) → Grows ns (add_names ns xs)
adds-grown ns [] = ([], sym (append-nil ns))
adds-grown ns (x ∷ xs) = grown-more ns (add_name ns x) (add_names (add_name ns x) xs) (add-grown ns x) (adds-grown (add_name ns x) xs)

pub number-kept : (ns ms : List Text) → Grows ns ms → (x : Text) (k : ℕ) → position (bytes_eq x) ns ≡ Some k → position (bytes_eq x) ms ≡ Some k
number-kept ns ms g x k e = ap (position (bytes_eq x)) g.1 ∙ position-append-found (bytes_eq x) ns g.0 k e

pub numbers-kept : (ns ms : List Text) → Grows ns ms → (xs : List Text) (ks : List ℕ) → AreNumbers ns xs ks → AreNumbers ms xs ks
numbers-kept ns ms g [] [] a = tt
numbers-kept ns ms g [] (k ∷ ks) a = a
numbers-kept ns ms g (x ∷ xs) [] a = a
numbers-kept ns ms g (x ∷ xs) (k ∷ ks) a = (number-kept ns ms g x k a.0, numbers-kept ns ms g xs ks a.1)

pub instances-kept : (ns ms : List Text) → Grows ns ms → (i : Instance) (p : Text) (a b : List ℕ) → IsInstance ns i p a b → IsInstance ms i p a b
instances-kept ns ms g i p a b is = record { named = is.named; takes = numbers-kept ns ms g i.ins a is.takes; drives = numbers-kept ns ms g i.outs b is.drives }

pub numbers-long : (ns xs : List Text) (ks : List ℕ) → AreNumbers ns xs ks → length ks ≡ length xs
numbers-long ns [] [] a = refl
numbers-long ns [] (k ∷ ks) a = absurd a
numbers-long ns (x ∷ xs) [] a = absurd a
numbers-long ns (x ∷ xs) (k ∷ ks) a = ap suc (numbers-long ns xs ks a.1)

-- ---- nets, one after another

pub nets-more : (old mid new : Nets) (f : Form) (fs : Forms) (k : ℕ) (ks : List ℕ) → ReadsNet old mid f k → ReadsNets mid new fs ks → ReadsNets old new (More f fs) (k ∷ ks)
nets-more old mid new f fs k ks a b = record {
  xs = a.name ∷ b.xs;
  nets = ap (λ o. both (net_of (apart f old.own).0) (nets_of (apart_all fs o).0)) (sym a.own) ∙ ap (λ o. both o (nets_of (apart_all fs mid.own).0)) a.net ∙ ap (both (Some a.name)) b.nets;
  own = b.own ∙ ap (λ o. (apart_all fs o).1) a.own;
  names = b.names ∙ ap (λ ns. add_names ns b.xs) a.names;
  numbers = (number-kept mid.names new.names (let g = adds-grown mid.names b.xs in (g.0, b.names ∙ g.1)) a.name k a.number, b.numbers);
}

pub nets-none-here : (own : ℕ) (f : Form) (fs : Forms) → net_of (apart f own).0 ≡ None → nets_of (apart_all (More f fs) own).0 ≡ None
nets-none-here own f fs e = ap (λ o. both o (nets_of (apart_all fs (apart f own).1).0)) e

pub nets-none-later : (old mid : Nets) (f : Form) (fs : Forms) (k : ℕ) → ReadsNet old mid f k → nets_of (apart_all fs mid.own).0 ≡ None → nets_of (apart_all (More f fs) old.own).0 ≡ None
nets-none-later old mid f fs k a e =
    ap (λ o. both (net_of (apart f old.own).0) (nets_of (apart_all fs o).0)) (sym a.own) ∙ ap (λ o. both o (nets_of (apart_all fs mid.own).0)) a.net ∙ ap (both (Some a.name)) e

module _ (ts : List RawTerm) (old : Nets) where
  -- the nets of the terms before a place were read
  pub record NetsSoFar (i : ℕ) (now : Nets) (ks : List ℕ) : Type 0 where
    pub read : (new : Nets) (ms : List ℕ) → ReadsNets now new (all_forms (drop i ts)) ms → ReadsNets old new (all_forms ts) (ks ++ ms)
    pub none : nets_of (apart_all (all_forms (drop i ts)) now.own).0 ≡ None → nets_of (apart_all (all_forms ts) old.own).0 ≡ None

  pub nets-init : (ks : List ℕ) → ks ≡ [] → NetsSoFar 0 old ks
  nets-init ks e = record { read = λ new ms r. subst (λ (l : List ℕ). ReadsNets old new (all_forms ts) (l ++ ms)) (sym e) r; none = λ e. e }

  pub nets-on : (i : ℕ) (t : RawTerm) → i < length ts → t ≡ get_or ts i t → (now mid : Nets) (ks ks2 : List ℕ) (k : ℕ) → NetsSoFar i now ks → ReadsNet now mid (form_of t) k → ks2 ≡ ks ++ k ∷ [] → NetsSoFar (i + 1) mid ks2
  nets-on i t l at now mid ks ks2 k so r e = record {
    read = λ new ms q.
        subst (ReadsNets old new (all_forms ts)) (sym (append_assoc ks (k ∷ []) ms) ∙ ap (λ (z : List ℕ). z ++ ms) (sym e))
        (so.read new (k ∷ ms) (subst (λ (fs : Forms). ReadsNets now new fs (k ∷ ms)) (sym (opened ts i t l at)) (nets-more now mid new (form_of t) (all_forms (drop (i + 1) ts)) k ms r q)));
    none = λ n. so.none (ap (λ (fs : Forms). nets_of (apart_all fs now.own).0) (opened ts i t l at) ∙ nets-none-later now mid (form_of t) (all_forms (drop (i + 1) ts)) k r n);
  }

  pub nets-stop : (i : ℕ) (t : RawTerm) → i < length ts → t ≡ get_or ts i t → (now : Nets) (ks : List ℕ) → NetsSoFar i now ks → net_of (apart (form_of t) now.own).0 ≡ None → nets_of (apart_all (all_forms ts) old.own).0 ≡ None
  nets-stop i t l at now ks so n = so.none (ap (λ (fs : Forms). nets_of (apart_all fs now.own).0) (opened ts i t l at) ∙ nets-none-here now.own (form_of t) (all_forms (drop (i + 1) ts)) n)

  pub nets-end : (i : ℕ) → length ts ≤ i → (now : Nets) (ks : List ℕ) → NetsSoFar i now ks → ReadsNets old now (all_forms ts) ks
  nets-end i l now ks so =
      subst (ReadsNets old now (all_forms ts)) (append-nil ks)
      (so.read now [] (subst (λ (us : List RawTerm). ReadsNets now now (all_forms us) []) (sym (drop_past ts i l)) (record { xs = []; nets = refl; own = refl; names = refl; numbers = tt })))

-- ---- instances, one after another

pub instances-more : (old mid new : Nets) (f : Form) (fs : Forms) (p : Text) (ps : List Text) (a b : List ℕ) (ins outs : List (List ℕ)) → ReadsInstance old mid f p a b → ReadsInstances mid new fs ps ins outs
    → ReadsInstances old new (More f fs) (p ∷ ps) (a ∷ ins) (b ∷ outs)
instances-more old mid new f fs p ps a b ins outs r q = record {
  instances = r.i ∷ q.instances;
  are = ap (λ o. both (instance_of (apart f old.own).0) (instances_in (apart_all fs o).0)) (sym r.own) ∙ ap (λ o. both o (instances_in (apart_all fs mid.own).0)) r.is ∙ ap (both (Some r.i)) q.are;
  own = q.own ∙ ap (λ o. (apart_all fs o).1) r.own;
  names = grown-more old.names mid.names new.names r.names q.names;
  fit = an_instance (instances-kept mid.names new.names q.names r.i p a b r.fits) q.fit;
}

pub instances-none-here : (own : ℕ) (f : Form) (fs : Forms) → instance_of (apart f own).0 ≡ None → instances_in (apart_all (More f fs) own).0 ≡ None
instances-none-here own f fs e = ap (λ o. both o (instances_in (apart_all fs (apart f own).1).0)) e

pub instances-none-later : (old mid : Nets) (f : Form) (fs : Forms) (p : Text) (a b : List ℕ) → ReadsInstance old mid f p a b → instances_in (apart_all fs mid.own).0 ≡ None → instances_in (apart_all (More f fs) old.own).0 ≡ None
instances-none-later old mid f fs p a b r e =
    ap (λ o. both (instance_of (apart f old.own).0) (instances_in (apart_all fs o).0)) (sym r.own) ∙ ap (λ o. both o (instances_in (apart_all fs mid.own).0)) r.is ∙ ap (both (Some r.i)) e

module _ (ts : List RawTerm) (old : Nets) where
  -- the instances of the terms before a place were read
  pub record InstancesSoFar (i : ℕ) (now : Nets) (ps : List Text) (ins outs : List (List ℕ)) : Type 0 where
    pub read : (new : Nets) (qs : List Text) (as' bs : List (List ℕ)) → ReadsInstances now new (all_forms (drop i ts)) qs as' bs → ReadsInstances old new (all_forms ts) (ps ++ qs) (ins ++ as') (outs ++ bs)
    pub none : instances_in (apart_all (all_forms (drop i ts)) now.own).0 ≡ None → instances_in (apart_all (all_forms ts) old.own).0 ≡ None

  pub instances-init : (ps : List Text) (ins outs : List (List ℕ)) → ps ≡ [] → ins ≡ [] → outs ≡ [] → InstancesSoFar 0 old ps ins outs
  instances-init ps ins outs e f g = record {
    read = λ new qs as' bs r.
        subst (λ (l : List Text). ReadsInstances old new (all_forms ts) (l ++ qs) (ins ++ as') (outs ++ bs)) (sym e)
        (subst (λ (l : List (List ℕ)). ReadsInstances old new (all_forms ts) qs (l ++ as') (outs ++ bs)) (sym f)
        (subst (λ (l : List (List ℕ)). ReadsInstances old new (all_forms ts) qs as' (l ++ bs)) (sym g) r));
    none = λ e. e;
  }

  pub instances-on : (i : ℕ) (t : RawTerm) → i < length ts → t ≡ get_or ts i t → (now mid : Nets) (ps ps2 : List Text) (ins ins2 outs outs2 : List (List ℕ)) (p : Text) (a b : List ℕ)
      → InstancesSoFar i now ps ins outs → ReadsInstance now mid (form_of t) p a b → ps2 ≡ ps ++ p ∷ [] → ins2 ≡ ins ++ a ∷ [] → outs2 ≡ outs ++ b ∷ [] → InstancesSoFar (i + 1) mid ps2 ins2 outs2
  instances-on i t l at now mid ps ps2 ins ins2 outs outs2 p a b so r e f g = record {
    read = λ new qs as' bs q.
        subst (λ (z : List Text). ReadsInstances old new (all_forms ts) z (ins2 ++ as') (outs2 ++ bs)) (sym (append_assoc ps (p ∷ []) qs) ∙ ap (λ (z : List Text). z ++ qs) (sym e))
        (subst (λ (z : List (List ℕ)). ReadsInstances old new (all_forms ts) (ps ++ p ∷ qs) z (outs2 ++ bs)) (sym (append_assoc ins (a ∷ []) as') ∙ ap (λ (z : List (List ℕ)). z ++ as') (sym f))
        (subst (λ (z : List (List ℕ)). ReadsInstances old new (all_forms ts) (ps ++ p ∷ qs) (ins ++ a ∷ as') z) (sym (append_assoc outs (b ∷ []) bs) ∙ ap (λ (z : List (List ℕ)). z ++ bs) (sym g))
        (so.read new (p ∷ qs) (a ∷ as') (b ∷ bs) (subst (λ (fs : Forms). ReadsInstances now new fs (p ∷ qs) (a ∷ as') (b ∷ bs)) (sym (opened ts i t l at))
        (instances-more now mid new (form_of t) (all_forms (drop (i + 1) ts)) p qs a b as' bs r q)))));
    none = λ n. so.none (ap (λ (fs : Forms). instances_in (apart_all fs now.own).0) (opened ts i t l at) ∙ instances-none-later now mid (form_of t) (all_forms (drop (i + 1) ts)) p a b r n);
  }

  pub instances-stop : (i : ℕ) (t : RawTerm) → i < length ts → t ≡ get_or ts i t → (now : Nets) (ps : List Text) (ins outs : List (List ℕ)) → InstancesSoFar i now ps ins outs → instance_of (apart (form_of t) now.own).0 ≡ None → instances_in (apart_all (all_forms ts) old.own).0 ≡ None
  instances-stop i t l at now ps ins outs so n = so.none (ap (λ (fs : Forms). instances_in (apart_all fs now.own).0) (opened ts i t l at) ∙ instances-none-here now.own (form_of t) (all_forms (drop (i + 1) ts)) n)

  pub instances-end : (i : ℕ) → length ts ≤ i → (now : Nets) (ps : List Text) (ins outs : List (List ℕ)) → InstancesSoFar i now ps ins outs → ReadsInstances old now (all_forms ts) ps ins outs
  instances-end i l now ps ins outs so =
      subst (λ (z : List Text). ReadsInstances old now (all_forms ts) z ins outs) (append-nil ps)
      (subst (λ (z : List (List ℕ)). ReadsInstances old now (all_forms ts) (ps ++ []) z outs) (append-nil ins)
      (subst (λ (z : List (List ℕ)). ReadsInstances old now (all_forms ts) (ps ++ []) (ins ++ []) z) (append-nil outs)
      (so.read now [] [] [] (subst (λ (us : List RawTerm). ReadsInstances now now (all_forms us) [] [] []) (sym (drop_past ts i l))
      (record { instances = []; are = refl; own = refl; names = ([], sym (append-nil now.names)); fit = no_instances })))))
