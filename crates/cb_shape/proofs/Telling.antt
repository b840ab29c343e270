-- What the steps of the walk tell.
use Rattle.std.proofs.Common.{◌≡◌, inl, ℕ, suc, ◌+◌, ◌≤◌, nat_eq, List, [], ◌∷◌, ◌++◌, length, Option, Result, Ok, Err, OnOk, refl, sym, ap, subst, ◌∙◌, arith, append_assoc, length-append}
use Rattle.std.specs.List.{position_or_len}
use Rattle.std.proofs.lemmas.List.{append-nil}
use Rattle.indexmap.specs.IndexSet.{insert_key}
use Rattle.cb_laws.proofs.OpenTrees.{Plain, Plains, ANode, Nil, Cons, Place, bus_places, plain_leaves, all_leaves, plain_opens, all_opens}
use Rattle.cb_heap.specs.declared.Ref.{Ref}
use Rattle.cb_heap.specs.declared.Stored.{Stored}
use Rattle.cb_shape.specs.declared.Root.{Root}
use Rattle.cb_shape.specs.declared.Token.{Token}
use Rattle.cb_shape.specs.declared.Token.TheVariants as token
use Rattle.cb_shape.specs.declared.walk.Pending.{Pending}
use Rattle.cb_shape.specs.declared.walk.Pending.TheVariants as pending
use Rattle.cb_shape.specs.declared.walk.Walk.{Walk}
use Rattle.cb_shape.specs.Shapes.{place_from, firsts}
use Rattle.cb_shape.specs.Terms.{IsBus, AreTerms, how_many}
use Rattle.cb_shape.specs.Tokens.{tail_tokens, tokens, rest_tokens, plain_places}
use Rattle.cb_shape.specs.Walk.{Work, Whole, Rest, Tail, work_tokens, work_leaves, work_opens, work_places, told, leaves_of, opens_of, places_of, IsWork, AreWorks, turned, place_in, seen, Adds, TellsName, Writes, Steps, Begins}
use Rattle.cb_shape.proofs.Opens.{open-number, open-seen, firsts-none}

pub on-ok : {A E P Q : Type 0} (r : Result A E) → (P → Q) → OnOk r P → OnOk r Q
on-ok (Ok x) f h = f h
on-ok (Err e) f h = tt

-- ---- works, one behind the other

pub told-append : (os : List Place) (j : ℕ) (xs ys : List Work) → told os j (xs ++ ys) ≡ told os j xs ++ told os (j + length (leaves_of xs)) ys
told-append os j [] ys = ap (λ k. told os k ys) (let e : j ≡ j + 0 = omega arith in e)
told-append os j (x ∷ xs) ys =
    let k = j + length (work_leaves x) in
    let l = length-append (work_leaves x) (leaves_of xs) in
    let e : k + length (leaves_of xs) ≡ j + length (work_leaves x ++ leaves_of xs) = omega arith in
    ap (λ q. work_tokens os j x ++ q) (told-append os k xs ys ∙ ap (λ q. told os k xs ++ told os q ys) e)
    ∙ sym (append_assoc (work_tokens os j x) (told os k xs) (told os (j + length (work_leaves x ++ leaves_of xs)) ys))

pub leaves-append : (xs ys : List Work) → leaves_of (xs ++ ys) ≡ leaves_of xs ++ leaves_of ys
leaves-append [] ys = refl
leaves-append (x ∷ xs) ys = ap (λ q. work_leaves x ++ q) (leaves-append xs ys) ∙ sym (append_assoc (work_leaves x) (leaves_of xs) (leaves_of ys))

pub opens-append : (xs ys : List Work) → opens_of (xs ++ ys) ≡ opens_of xs ++ opens_of ys
opens-append [] ys = refl
opens-append (x ∷ xs) ys = ap (λ q. work_opens x ++ q) (opens-append xs ys) ∙ sym (append_assoc (work_opens x) (opens_of xs) (opens_of ys))

pub places-append : (xs ys : List Work) → places_of (xs ++ ys) ≡ places_of xs + places_of ys
places-append [] ys = omega arith
places-append (x ∷ xs) ys = let e = places-append xs ys in omega arith

pub turned-append : (xs ys : List Work) → turned (xs ++ ys) ≡ turned ys ++ turned xs
turned-append [] ys = sym (append-nil (turned ys))
turned-append (x ∷ xs) ys = ap (λ q. q ++ x ∷ []) (turned-append xs ys) ∙ append_assoc (turned ys) (turned xs) (x ∷ [])

pub works-append : (cs : List Stored) (roots : List Root) (xs ys : List Pending) (ws vs : List Work) → AreWorks cs roots xs ws → AreWorks cs roots ys vs → AreWorks cs roots (xs ++ ys) (ws ++ vs)
works-append cs roots [] ys [] vs a b = b
works-append cs roots [] ys (w ∷ ws) vs a b = absurd a
works-append cs roots (x ∷ xs) ys [] vs a b = absurd a
works-append cs roots (x ∷ xs) ys (w ∷ ws) vs a b = (a.0, works-append cs roots xs ys ws vs a.1 b)

module _ (cs : List Stored) (roots : List Root) where
  -- ---- one token or two, and nothing is left

  pub plain-writes : (w : Work) (old new : Walk) (before : List Pending) (ts : List Token) (ss : List ℕ) (d : ℕ) → Adds old new ts ss old.opens.keys d →
      ((os : List Place) → work_tokens os (length old.slots.items) w ≡ ts) → work_leaves w ≡ ss → work_opens w ≡ [] → work_places w ≡ d → Writes cs roots w old new before before
  plain-writes w old new before ts ss d a t l o p = record {
    ts = ts;
    ss = ss;
    d = d;
    adds = record { tokens = a.tokens; slots = a.slots; opens = refl; places = a.places };
    added = [];
    pushed = sym (append-nil before);
    more = [];
    are = tt;
    tokens = λ os. t (seen cs new.opens.keys ++ os) ∙ sym (append-nil ts);
    leaves = l ∙ sym (append-nil ss);
    xs = [];
    opens = o;
    numbered = ap (seen cs) a.opens ∙ sym (firsts-none (seen cs old.opens.keys));
    places = p ∙ omega arith;
  }

  -- an open place, and nothing is left
  pub open-writes : (w : Work) (old new : Walk) (before : List Pending) (f : ℕ → List Token) (x : Place) (c : ℕ) →
      Adds old new (f (position_or_len (nat_eq c) old.opens.keys)) [] (insert_key nat_eq old.opens.keys c) 1 → place_in cs c ≡ x →
      ((os : List Place) → work_tokens os (length old.slots.items) w ≡ f (place_from 0 os x)) → work_leaves w ≡ [] → work_opens w ≡ x ∷ [] → work_places w ≡ 1 →
      Writes cs roots w old new before before
  open-writes w old new before f x c a e t l o p =
      let keys = old.opens.keys in
      record {
        ts = f (position_or_len (nat_eq c) keys);
        ss = [];
        d = 1;
        adds = record { tokens = a.tokens; slots = a.slots; opens = refl; places = a.places };
        added = [];
        pushed = sym (append-nil before);
        more = [];
        are = tt;
        tokens = λ os.
            t (seen cs new.opens.keys ++ os)
            ∙ ap (λ ks. f (place_from 0 (seen cs ks ++ os) x)) a.opens
            ∙ ap (λ y. f (place_from 0 (seen cs (insert_key nat_eq keys c) ++ os) y)) (sym e)
            ∙ ap f (open-number cs keys c os)
            ∙ sym (append-nil (f (position_or_len (nat_eq c) keys)));
        leaves = l;
        xs = x ∷ [];
        opens = o;
        numbered = ap (seen cs) a.opens ∙ open-seen cs keys c ∙ ap (λ y. firsts (seen cs keys) (y ∷ [])) e;
        places = p ∙ omega arith;
      }

  -- an element of a bus, and the rest of it is left
  pub element-writes : (w : Work) (old new : Walk) (before after : List Pending) (t : Token) (s : ℕ) (ss : List ℕ) (o : Option ℕ) (l : Ref) →
      Adds old new (t ∷ token.Leaf (length old.slots.items) ∷ []) (s ∷ []) old.opens.keys 1 → after ≡ before ++ pending.Tail l ∷ [] → IsBus cs l.0 ss o →
      ((os : List Place) → work_tokens os (length old.slots.items) w ≡ t ∷ token.Leaf (length old.slots.items) ∷ tail_tokens os (suc (length old.slots.items)) ss o) →
      work_leaves w ≡ s ∷ ss → work_opens w ≡ bus_places o → work_places w ≡ suc (length ss) + 1 → Writes cs roots w old new before after
  element-writes w old new before after t s ss o l a pushed bus eq lv op pl =
      let j = length old.slots.items in
      let next : suc j ≡ j + 1 = omega arith in
      record {
        ts = t ∷ token.Leaf j ∷ [];
        ss = s ∷ [];
        d = 1;
        adds = record { tokens = a.tokens; slots = a.slots; opens = refl; places = a.places };
        added = pending.Tail l ∷ [];
        pushed = pushed;
        more = Tail ss o ∷ [];
        are = (bus, tt);
        tokens = λ os.
            eq (seen cs new.opens.keys ++ os)
            ∙ ap (λ k. t ∷ token.Leaf j ∷ tail_tokens (seen cs new.opens.keys ++ os) k ss o) next
            ∙ ap (λ q. t ∷ token.Leaf j ∷ q) (sym (append-nil (tail_tokens (seen cs new.opens.keys ++ os) (j + 1) ss o)));
        leaves = lv ∙ ap (λ q. s ∷ q) (sym (append-nil ss));
        xs = [];
        opens = op ∙ sym (append-nil (bus_places o));
        numbered = ap (seen cs) a.opens ∙ sym (firsts-none (seen cs old.opens.keys));
        places = pl ∙ omega arith;
      }

  -- a name, and its arguments are left
  names-writes : (e n k : ℕ) (p : Plain) (ps : Plains) (old new : Walk) (before after : List Pending) → k ≡ how_many ps → AreTerms cs (suc e) (Cons p ps) →
      Adds old new (token.Name n ∷ token.LeftParen ∷ []) [] old.opens.keys 1 →
      after ≡ before ++ pending.Rest (suc (suc e)) k ∷ pending.Cell (record { 0 = suc e }) ∷ [] → Writes cs roots (Whole (ANode n (Cons p ps))) old new before after
  names-writes e n k p ps old new before after many are a pushed =
      let j = length old.slots.items in
      let same : j ≡ j + 0 = omega arith in
      let b = length (plain_leaves p) in
      record {
        ts = token.Name n ∷ token.LeftParen ∷ [];
        ss = [];
        d = 1;
        adds = record { tokens = a.tokens; slots = a.slots; opens = refl; places = a.places };
        added = pending.Rest (suc (suc e)) k ∷ pending.Cell (record { 0 = suc e }) ∷ [];
        pushed = pushed;
        more = Rest ps ∷ Whole p ∷ [];
        are = ((many, are.1), (are.0, tt));
        tokens = λ os.
            let ks = seen cs new.opens.keys ++ os in
            ap (λ i. token.Name n ∷ token.LeftParen ∷ (tokens ks i p ++ rest_tokens ks (i + b) ps)) same
            ∙ ap (λ q. token.Name n ∷ token.LeftParen ∷ (tokens ks (j + 0) p ++ q)) (sym (append-nil (rest_tokens ks (j + 0 + b) ps)));
        leaves = ap (λ q. plain_leaves p ++ q) (sym (append-nil (all_leaves ps)));
        xs = [];
        opens = ap (λ q. plain_opens p ++ q) (sym (append-nil (all_opens ps)));
        numbered = ap (seen cs) a.opens ∙ sym (firsts-none (seen cs old.opens.keys));
        places = omega arith;
      }

  pub name-begins : (e n k : ℕ) (ps : Plains) (old new : Walk) (before after : List Pending) → k ≡ how_many ps → AreTerms cs (suc e) ps →
      TellsName e n k old new before after → Begins cs roots (ANode n ps) old new before after
  name-begins e n k Nil old new before after many are t =
      let h : TellsName e n 0 old new before after = subst (λ x. TellsName e n x old new before after) many t in
      record {
        writes = subst (λ q. Writes cs roots (Whole (ANode n Nil)) old new before q) (sym h.1)
            (plain-writes (Whole (ANode n Nil)) old new before (token.Name n ∷ []) [] 1 h.0 (λ os. refl) refl refl refl);
        one = h.0.places;
        few = let l = ap length h.1 in omega arith;
      }
  name-begins e n k (Cons p ps) old new before after many are t =
      let h : TellsName e n (suc (how_many ps)) old new before after = subst (λ x. TellsName e n x old new before after) many t in
      record {
        writes = names-writes e n (how_many ps) p ps old new before after refl are h.0 h.1;
        one = h.0.places;
        few = let l = ap length h.1 in let m = length-append before (pending.Rest (suc (suc e)) (how_many ps) ∷ pending.Cell (record { 0 = suc e }) ∷ []) in omega arith;
      }

  -- ---- a token, and then the front of a term

  pub wrapped : (w v : Work) (x : Pending) (t : Token) (p : Plain) (old mid new : Walk) (before between after : List Pending) →
      mid.tokens.items ≡ old.tokens.items ++ t ∷ [] → mid.slots.items ≡ old.slots.items → mid.opens.keys ≡ old.opens.keys → mid.places ≡ old.places →
      between ≡ before ++ x ∷ [] → IsWork cs roots x v →
      ((os : List Place) (j : ℕ) → work_tokens os j w ≡ t ∷ (tokens os j p ++ work_tokens os (j + length (plain_leaves p)) v)) →
      work_leaves w ≡ plain_leaves p ++ work_leaves v → work_opens w ≡ plain_opens p ++ work_opens v → work_places w ≡ plain_places p + work_places v →
      Begins cs roots p mid new between after → Steps cs roots w old new before after
  wrapped w v x t p old mid new before between after mt ms mo mp pushed xw eq lv op pl b =
      let h = b.writes in
      let j = length old.slots.items in
      let i = length mid.slots.items in
      let ij : i ≡ j = ap length ms in
      let one : leaves_of (v ∷ []) ≡ work_leaves v = append-nil (work_leaves v) in
      let ones : opens_of (v ∷ []) ≡ work_opens v = append-nil (work_opens v) in
      record {
        writes = record {
          ts = t ∷ h.ts;
          ss = h.ss;
          d = h.d;
          adds = record {
            tokens = h.adds.tokens ∙ ap (λ q. q ++ h.ts) mt ∙ append_assoc old.tokens.items (t ∷ []) h.ts;
            slots = h.adds.slots ∙ ap (λ q. q ++ h.ss) ms;
            opens = refl;
            places = h.adds.places ∙ ap (λ q. q + h.d) mp;
          };
          added = x ∷ h.added;
          pushed = h.pushed ∙ ap (λ q. q ++ h.added) pushed ∙ append_assoc before (x ∷ []) h.added;
          more = v ∷ h.more;
          are = (xw, h.are);
          tokens = λ os.
              let ks = seen cs new.opens.keys ++ os in
              let front : tokens ks j p ≡ h.ts ++ told ks (j + length h.ss) (turned h.more) =
              ap (λ k. tokens ks k p) (sym ij) ∙ h.tokens os ∙ ap (λ k. h.ts ++ told ks (k + length h.ss) (turned h.more)) ij in
              let l = ap length h.leaves in
              let m = length-append h.ss (leaves_of (turned h.more)) in
              let at : j + length (plain_leaves p) ≡ j + length h.ss + length (leaves_of (turned h.more)) = omega arith in
              let back : told ks (j + length h.ss) (turned h.more ++ v ∷ []) ≡ told ks (j + length h.ss) (turned h.more) ++ work_tokens ks (j + length (plain_leaves p)) v =
              told-append ks (j + length h.ss) (turned h.more) (v ∷ [])
              ∙ ap (λ q. told ks (j + length h.ss) (turned h.more) ++ q) (append-nil (work_tokens ks (j + length h.ss + length (leaves_of (turned h.more))) v) ∙ ap (λ k. work_tokens ks k v) (sym at)) in
              eq ks j ∙ ap (λ q. t ∷ (q ++ work_tokens ks (j + length (plain_leaves p)) v)) front
              ∙ ap (λ q. t ∷ q) (append_assoc h.ts (told ks (j + length h.ss) (turned h.more)) (work_tokens ks (j + length (plain_leaves p)) v) ∙ ap (λ q. h.ts ++ q) (sym back));
          leaves =
              lv ∙ ap (λ q. q ++ work_leaves v) h.leaves ∙ append_assoc h.ss (leaves_of (turned h.more)) (work_leaves v)
              ∙ ap (λ q. h.ss ++ q) (ap (λ q. leaves_of (turned h.more) ++ q) (sym one) ∙ sym (leaves-append (turned h.more) (v ∷ [])));
          xs = h.xs;
          opens =
              op ∙ ap (λ q. q ++ work_opens v) h.opens ∙ append_assoc h.xs (opens_of (turned h.more)) (work_opens v)
              ∙ ap (λ q. h.xs ++ q) (ap (λ q. opens_of (turned h.more) ++ q) (sym ones) ∙ sym (opens-append (turned h.more) (v ∷ [])));
          numbered = h.numbered ∙ ap (λ q. firsts (seen cs q) h.xs) mo;
          places = let a = h.places in let q = places-append (turned h.more) (v ∷ []) in omega arith;
        };
        on = inl (let a = b.one in omega arith, let a = b.few in let q = ap length pushed in let r = length-append before (x ∷ []) in omega arith);
      }

  -- the front of a term alone
  pub begun : (p : Plain) (old new : Walk) (before after : List Pending) → Begins cs roots p old new before after → Steps cs roots (Whole p) old new before after
  begun p old new before after b = record { writes = b.writes; on = inl (let a = b.one in omega arith, let a = b.few in omega arith) }

  -- a term that was told whole
  pub whole-begins : (p : Plain) (old new : Walk) (before after : List Pending) → new.places ≡ old.places + 1 → length after ≤ length before + 2 →
      Writes cs roots (Whole p) old new before after → Begins cs roots p old new before after
  whole-begins p old new before after one few w = record { writes = w; one = one; few = few }
