-- The steps over arguments and roots, and the walk as a whole.
use Rattle.std.proofs.Common.{◌≡◌, ◌≢◌, ◌⊎◌, inl, inr, ℕ, suc, ◌+◌, ◌-◌, ◌*◌, ◌<◌, ◌≤◌, List, [], ◌∷◌, ◌++◌, length, drop, get_or, refl, sym, ap, subst, ◌∙◌, arith, append_assoc, length-append}
use Rattle.std.specs.Borrow.{Bor}
use Rattle.std.proofs.lemmas.List.{append-nil}
use Rattle.std.proofs.Math.Seq.{drop-cons}
use Rattle.cb_laws.proofs.OpenTrees.{Plain, Plains, ANode, Nil, Cons, Place, plain_leaves, all_leaves, plain_opens, all_opens}
use Rattle.cb_heap.specs.declared.Ref.{Ref}
use Rattle.cb_heap.specs.declared.Stored.{Stored}
use Rattle.cb_shape.specs.declared.Root.{Root}
use Rattle.cb_shape.specs.declared.Root.TheVariants as root
use Rattle.cb_shape.specs.declared.Token.TheVariants as token
use Rattle.cb_shape.specs.declared.walk.Pending.{Pending}
use Rattle.cb_shape.specs.declared.walk.Pending.TheVariants as pending
use Rattle.cb_shape.specs.declared.walk.Walk.{Walk}
use Rattle.cb_shape.specs.Shapes.{firsts}
use Rattle.cb_shape.specs.Terms.{IsTerm, AreCells, AreTerms, IsRoot, AreRoots, how_many}
use Rattle.cb_shape.specs.Tokens.{tokens, rest_tokens, roots_tokens, all_places}
use Rattle.cb_shape.specs.Walk.{Work, Whole, Rest, Roots, work_tokens, work_leaves, told, leaves_of, opens_of, places_of, IsWork, AreWorks, turned, seen, Adds, TellsGoal, Steps, Begins}
use Rattle.cb_shape.proofs.Places.{firsts_go_on}
use Rattle.cb_shape.proofs.Opens.{firsts-append, firsts-none}
use Rattle.cb_shape.proofs.Telling.{told-append, leaves-append, opens-append, places-append, turned-append, works-append, plain-writes, wrapped}

-- ---- arguments

-- the first of some arguments
pub record NextArgument (cs : List Stored) (at k : ℕ) (ps : Plains) : Type 0 where
  pub p : Plain
  pub rest : Plains
  pub is : ps ≡ Cons p rest
  pub term : IsTerm cs at p
  pub many : k - 1 ≡ how_many rest
  pub are : AreTerms cs (at + 1) rest

pub next-argument : (cs : List Stored) (at k : ℕ) (ps : Plains) → k ≢ 0 → k ≡ how_many ps → AreTerms cs at ps → NextArgument cs at k ps
next-argument cs at k Nil some many are = absurd (some many)
next-argument cs at k (Cons p ps) some many are =
    let next : suc at ≡ at + 1 = omega arith in
    record { p = p; rest = ps; is = refl; term = are.0; many = omega arith; are = subst (λ x. AreTerms cs x ps) next are.1 }

pub rest-ends : (cs : List Stored) (roots : List Root) (k : ℕ) (ps : Plains) (old new : Walk) (before : List Pending) → k ≡ 0 → k ≡ how_many ps →
    Adds old new (token.RightParen ∷ []) [] old.opens.keys 0 → Steps cs roots (Rest ps) old new before before
rest-ends cs roots k Nil old new before none many a = record {
  writes = plain-writes cs roots (Rest Nil) old new before (token.RightParen ∷ []) [] 0 a (λ os. refl) refl refl refl;
  on = inr (omega arith);
}
rest-ends cs roots k (Cons p ps) old new before none many a = absurd (omega arith)

pub rest-goes-on : (cs : List Stored) (roots : List Root) (at k : ℕ) (ps : Plains) (old mid new : Walk) (before between after : List Pending) → k ≢ 0 → k ≡ how_many ps → AreTerms cs at ps →
    mid.tokens.items ≡ old.tokens.items ++ token.Comma ∷ [] → mid.slots.items ≡ old.slots.items → mid.opens.keys ≡ old.opens.keys → mid.places ≡ old.places →
    between ≡ before ++ pending.Rest (at + 1) (k - 1) ∷ [] → ((p : Plain) → IsTerm cs at p → Begins cs roots p mid new between after) → Steps cs roots (Rest ps) old new before after
rest-goes-on cs roots at k ps old mid new before between after some many are mt ms mo mp pushed b =
    let h = next-argument cs at k ps some many are in
    subst (λ q. Steps cs roots (Rest q) old new before after) (sym h.is)
    (wrapped cs roots (Rest (Cons h.p h.rest)) (Rest h.rest) (pending.Rest (at + 1) (k - 1)) token.Comma h.p old mid new before between after mt ms mo mp pushed (h.many, h.are)
    (λ os j. refl) refl refl refl (b h.p h.term))

-- ---- roots

pub record NextRoot (cs : List Stored) (roots : List Root) (at : ℕ) (d : Root) (ps : Plains) : Type 0 where
  pub p : Plain
  pub rest : Plains
  pub is : ps ≡ Cons p rest
  pub root : IsRoot cs (get_or roots at d) p
  pub are : AreRoots cs (drop (at + 1) roots) rest

first-root : (cs : List Stored) (x : Root) (xs roots : List Root) (at : ℕ) (ps : Plains) → xs ≡ drop (at + 1) roots → AreRoots cs (x ∷ xs) ps →
    (p : Plain) × (rest : Plains) × (ps ≡ Cons p rest) × IsRoot cs x p × AreRoots cs (drop (at + 1) roots) rest
first-root cs x xs roots at Nil e h = absurd h
first-root cs x xs roots at (Cons p ps) e h = (p, ps, refl, h.0, subst (λ q. AreRoots cs q ps) e h.1)

pub next-root : (cs : List Stored) (roots : List Root) (at : ℕ) (d : Root) (ps : Plains) → at ≢ length roots → at ≤ length roots → AreRoots cs (drop at roots) ps → NextRoot cs roots at d ps
next-root cs roots at d ps some le h =
    let lt : at < length roots = omega arith in
    let next : suc at ≡ at + 1 = omega arith in
    let r = first-root cs (get_or roots at d) (drop (suc at) roots) roots at ps (ap (λ n. drop n roots) next) (subst (λ q. AreRoots cs q ps) (drop-cons roots at d lt) h) in
    record { p = r.0; rest = r.1; is = r.2; root = r.3; are = r.4 }

drop-next : (roots : List Root) (at : ℕ) (d : Root) → at ≢ length roots → at ≤ length roots → drop at roots ≡ get_or roots at d ∷ drop (at + 1) roots
drop-next roots at d some le =
    let lt : at < length roots = omega arith in
    let next : suc at ≡ at + 1 = omega arith in
    drop-cons roots at d lt ∙ ap (λ n. get_or roots at d ∷ drop n roots) next

drop-whole : (xs : List Root) → drop (length xs) xs ≡ []
drop-whole [] = refl
drop-whole (x ∷ xs) = drop-whole xs

no-roots : (cs : List Stored) (ps : Plains) → AreRoots cs [] ps → ps ≡ Nil
no-roots cs Nil h = refl
no-roots cs (Cons p ps) h = absurd h

pub roots-end : (cs : List Stored) (roots : List Root) (at : ℕ) (ps : Plains) (old : Walk) (before : List Pending) → at ≡ length roots → AreRoots cs (drop at roots) ps →
    Steps cs roots (Roots at (drop at roots) ps) old old before before
roots-end cs roots at ps old before e h =
    let whole : drop at roots ≡ [] = ap (λ n. drop n roots) e ∙ drop-whole roots in
    let none : ps ≡ Nil = no-roots cs ps (subst (λ q. AreRoots cs q ps) whole h) in
    subst (λ q. Steps cs roots (Roots at (drop at roots) q) old old before before) (sym none)
    (subst (λ q. Steps cs roots (Roots at q Nil) old old before before) (sym whole)
    (record {
      writes = plain-writes cs roots (Roots at [] Nil) old old before [] [] 0
          (record { tokens = sym (append-nil old.tokens.items); slots = sym (append-nil old.slots.items); opens = refl; places = omega arith }) (λ os. refl) refl refl refl;
      on = inr (omega arith);
    }))

-- the number of a root was told, and what stands behind it is pending
pub record Numbered (at : ℕ) (old mid : Walk) (before between : List Pending) : Type 0 where
  pub tokens : mid.tokens.items ≡ old.tokens.items ++ token.Term at ∷ []
  pub slots : mid.slots.items ≡ old.slots.items
  pub opens : mid.opens.keys ≡ old.opens.keys
  pub places : mid.places ≡ old.places
  pub pushed : between ≡ before ++ pending.Roots (at + 1) ∷ []

module _ (cs : List Stored) (roots : List Root) (at : ℕ) (rs : List Root) (ps : Plains) (below : at + 1 ≤ length roots) (rest : rs ≡ drop (at + 1) roots) (are : AreRoots cs rs ps)
    (old mid new : Walk) (before between after : List Pending) (front : Numbered at old mid before between) where
  next-is : suc at ≡ at + 1
  next-is = omega arith

  -- a term
  term-goes-on : (r : Ref) (p : Plain) → IsTerm cs r.0 p → Begins cs roots p mid new between after → Steps cs roots (Roots at (root.Term r ∷ rs) (Cons p ps)) old new before after
  term-goes-on r p h b =
      wrapped cs roots (Roots at (root.Term r ∷ rs) (Cons p ps)) (Roots (at + 1) rs ps) (pending.Roots (at + 1)) (token.Term at) p old mid new before between after front.tokens front.slots front.opens front.places front.pushed
      (refl, below, rest, are) (λ os j. ap (λ i. token.Term at ∷ (tokens os j p ++ roots_tokens os (j + length (plain_leaves p)) i rs ps)) next-is) refl refl refl b

  -- a goal
  none-goes-on : (args : Bor (List Ref)) (n : ℕ) → Adds mid new [] [] mid.opens.keys 1 → after ≡ between →
      Steps cs roots (Roots at (root.Goal args ∷ rs) (Cons (ANode n Nil) ps)) old new before after
  none-goes-on args n a same =
      let pushed : after ≡ before ++ pending.Roots (at + 1) ∷ [] = same ∙ front.pushed in
      record {
        writes = record {
          ts = token.Term at ∷ [];
          ss = [];
          d = 1;
          adds = record {
            tokens = a.tokens ∙ append-nil mid.tokens.items ∙ front.tokens;
            slots = a.slots ∙ append-nil mid.slots.items ∙ front.slots ∙ sym (append-nil old.slots.items);
            opens = refl;
            places = a.places ∙ ap (λ q. q + 1) front.places;
          };
          added = pending.Roots (at + 1) ∷ [];
          pushed = pushed;
          more = Roots (at + 1) rs ps ∷ [];
          are = ((refl, below, rest, are), tt);
          tokens = λ os.
              let ks = seen cs new.opens.keys ++ os in
              let j = length old.slots.items in
              let same : j + 0 ≡ j = omega arith in
              ap (λ i. token.Term at ∷ roots_tokens ks (j + 0) i rs ps) next-is ∙ ap (λ q. token.Term at ∷ q) (sym (append-nil (roots_tokens ks (j + 0) (at + 1) rs ps)));
          leaves = sym (append-nil (all_leaves ps));
          xs = [];
          opens = sym (append-nil (all_opens ps));
          numbered = ap (seen cs) (a.opens ∙ front.opens) ∙ sym (firsts-none (seen cs old.opens.keys));
          places = omega arith;
        };
        on = inl (let p = a.places in let q = front.places in omega arith, let l = ap length pushed in let m = length-append before (pending.Roots (at + 1) ∷ []) in omega arith);
      }

  some-goes-on : (args : Bor (List Ref)) (n : ℕ) (r : Ref) (left : Bor (List Ref)) (q : Plain) (qs : Plains) → IsTerm cs r.0 q → AreCells cs left.now qs →
      Adds mid new (token.LeftParen ∷ []) [] mid.opens.keys 1 → after ≡ between ++ pending.Arguments left ∷ pending.Cell r ∷ [] →
      Steps cs roots (Roots at (root.Goal args ∷ rs) (Cons (ANode n (Cons q qs)) ps)) old new before after
  some-goes-on args n r left q qs first others a added =
      let pushed : after ≡ before ++ pending.Roots (at + 1) ∷ pending.Arguments left ∷ pending.Cell r ∷ [] =
      added ∙ ap (λ xs. xs ++ pending.Arguments left ∷ pending.Cell r ∷ []) front.pushed ∙ append_assoc before (pending.Roots (at + 1) ∷ []) (pending.Arguments left ∷ pending.Cell r ∷ []) in
      record {
        writes = record {
          ts = token.Term at ∷ token.LeftParen ∷ [];
          ss = [];
          d = 1;
          adds = record {
            tokens = a.tokens ∙ ap (λ xs. xs ++ token.LeftParen ∷ []) front.tokens ∙ append_assoc old.tokens.items (token.Term at ∷ []) (token.LeftParen ∷ []);
            slots = a.slots ∙ append-nil mid.slots.items ∙ front.slots ∙ sym (append-nil old.slots.items);
            opens = refl;
            places = a.places ∙ ap (λ k. k + 1) front.places;
          };
          added = pending.Roots (at + 1) ∷ pending.Arguments left ∷ pending.Cell r ∷ [];
          pushed = pushed;
          more = Roots (at + 1) rs ps ∷ Rest qs ∷ Whole q ∷ [];
          are = ((refl, below, rest, are), (others, (first, tt)));
          tokens = λ os. some-tokens (seen cs new.opens.keys ++ os) (length old.slots.items) n q qs args;
          leaves = append_assoc (plain_leaves q) (all_leaves qs) (all_leaves ps) ∙ ap (λ xs. plain_leaves q ++ (all_leaves qs ++ xs)) (sym (append-nil (all_leaves ps)));
          xs = [];
          opens = append_assoc (plain_opens q) (all_opens qs) (all_opens ps) ∙ ap (λ xs. plain_opens q ++ (all_opens qs ++ xs)) (sym (append-nil (all_opens ps)));
          numbered = ap (seen cs) (a.opens ∙ front.opens) ∙ sym (firsts-none (seen cs old.opens.keys));
          places = omega arith;
        };
        on = inl (
          let p = a.places in let k = front.places in omega arith,
          let l = ap length pushed in let m = length-append before (pending.Roots (at + 1) ∷ pending.Arguments left ∷ pending.Cell r ∷ []) in omega arith,
        );
      }
    where
      some-tokens : (ks : List Place) (j n : ℕ) (q : Plain) (qs : Plains) (args : Bor (List Ref)) → roots_tokens ks j at (root.Goal args ∷ rs) (Cons (ANode n (Cons q qs)) ps)
          ≡ token.Term at ∷ token.LeftParen ∷ told ks (j + 0) (Whole q ∷ Rest qs ∷ Roots (at + 1) rs ps ∷ [])
      some-tokens ks j n q qs args =
          let b = length (plain_leaves q) in
          let c = length (all_leaves qs) in
          let both = length-append (plain_leaves q) (all_leaves qs) in
          let at-first : j ≡ j + 0 = omega arith in
          let at-last : j + length (plain_leaves q ++ all_leaves qs) ≡ j + 0 + b + c = omega arith in
          let last = roots_tokens ks (j + 0 + b + c) (at + 1) rs ps in
          ap (λ xs. token.Term at ∷ token.LeftParen ∷ xs)
          (append_assoc (tokens ks j q) (rest_tokens ks (j + b) qs) (roots_tokens ks (j + length (plain_leaves q ++ all_leaves qs)) (suc at) rs ps)
          ∙ ap (λ i. tokens ks i q ++ (rest_tokens ks (i + b) qs ++ roots_tokens ks (j + length (plain_leaves q ++ all_leaves qs)) (suc at) rs ps)) at-first
          ∙ ap (λ i. tokens ks (j + 0) q ++ (rest_tokens ks (j + 0 + b) qs ++ roots_tokens ks i (suc at) rs ps)) at-last
          ∙ ap (λ i. tokens ks (j + 0) q ++ (rest_tokens ks (j + 0 + b) qs ++ roots_tokens ks (j + 0 + b + c) i rs ps)) next-is
          ∙ ap (λ xs. tokens ks (j + 0) q ++ (rest_tokens ks (j + 0 + b) qs ++ xs)) (sym (append-nil last)))

  goal-goes-on : (args : Bor (List Ref)) (p : Plain) → IsRoot cs (root.Goal args) p → TellsGoal args.now mid new between after → Steps cs roots (Roots at (root.Goal args ∷ rs) (Cons p ps)) old new before after
  goal-goes-on args (ANode n qs) h t = by args.now qs h t
    where
      by : (xs : List Ref) (qs : Plains) → AreCells cs xs qs → TellsGoal xs mid new between after → Steps cs roots (Roots at (root.Goal args ∷ rs) (Cons (ANode n qs) ps)) old new before after
      by [] Nil h t = none-goes-on args n t.0 t.1
      by (r ∷ xs) (Cons q qs) h t = some-goes-on args n r t.1 q qs h.0 (subst (λ ys. AreCells cs ys qs) (sym t.2) h.1) t.0 t.3
      by xs qs h t = absurd h
  goal-goes-on args p h t = absurd h

module _ (cs : List Stored) (roots : List Root) (at : ℕ) (ps : Plains) (some : at ≢ length roots) (le : at ≤ length roots) (are : AreRoots cs (drop at roots) ps)
    (old mid new : Walk) (before between after : List Pending) (front : Numbered at old mid before between) where
  pub next-term : (d : Root) (r : Ref) → get_or roots at d ≡ root.Term r → ((p : Plain) → IsTerm cs r.0 p → Begins cs roots p mid new between after) →
      Steps cs roots (Roots at (drop at roots) ps) old new before after
  next-term d r is b =
      let h = next-root cs roots at d ps some le are in
      let t : IsTerm cs r.0 h.p = subst (λ x. IsRoot cs x h.p) is h.root in
      subst (λ q. Steps cs roots (Roots at (drop at roots) q) old new before after) (sym h.is)
      (subst (λ q. Steps cs roots (Roots at q (Cons h.p h.rest)) old new before after) (sym (drop-next roots at d some le ∙ ap (λ x. x ∷ drop (at + 1) roots) is))
      (term-goes-on cs roots at (drop (at + 1) roots) h.rest (omega arith) refl h.are old mid new before between after front r h.p t (b h.p t)))

  pub next-goal : (d : Root) (args : Bor (List Ref)) → get_or roots at d ≡ root.Goal args → TellsGoal args.now mid new between after → Steps cs roots (Roots at (drop at roots) ps) old new before after
  next-goal d args is t =
      let h = next-root cs roots at d ps some le are in
      subst (λ q. Steps cs roots (Roots at (drop at roots) q) old new before after) (sym h.is)
      (subst (λ q. Steps cs roots (Roots at q (Cons h.p h.rest)) old new before after) (sym (drop-next roots at d some le ∙ ap (λ x. x ∷ drop (at + 1) roots) is))
      (goal-goes-on cs roots at (drop (at + 1) roots) h.rest (omega arith) refl h.are old mid new before between after front args h.p (subst (λ x. IsRoot cs x h.p) is h.root) t))

-- ---- arguments of a goal

pub cells-end : (cs : List Stored) (roots : List Root) (args : List Ref) (ps : Plains) (old new : Walk) (before : List Pending) → length args ≡ 0 → AreCells cs args ps →
    Adds old new (token.RightParen ∷ []) [] old.opens.keys 0 → Steps cs roots (Rest ps) old new before before
cells-end cs roots [] Nil old new before none are a = record {
  writes = plain-writes cs roots (Rest Nil) old new before (token.RightParen ∷ []) [] 0 a (λ os. refl) refl refl refl;
  on = inr (omega arith);
}
cells-end cs roots [] (Cons p ps) old new before none are a = absurd are
cells-end cs roots (r ∷ args) ps old new before none are a = absurd (omega arith)

-- the first of them
pub record NextCell (cs : List Stored) (r : Ref) (left : List Ref) (ps : Plains) : Type 0 where
  pub p : Plain
  pub rest : Plains
  pub is : ps ≡ Cons p rest
  pub term : IsTerm cs r.0 p
  pub are : AreCells cs left rest

pub next-cell : (cs : List Stored) (args : List Ref) (r : Ref) (left : List Ref) (ps : Plains) → args ≡ r ∷ left → AreCells cs args ps → NextCell cs r left ps
next-cell cs args r left ps e h = by ps (subst (λ xs. AreCells cs xs ps) e h)
  where
    by : (ps : Plains) → AreCells cs (r ∷ left) ps → NextCell cs r left ps
    by Nil h = absurd h
    by (Cons p ps) h = record { p = p; rest = ps; is = refl; term = h.0; are = h.1 }

pub cells-go-on : (cs : List Stored) (roots : List Root) (args : List Ref) (r : Ref) (left : Bor (List Ref)) (ps : Plains) (old mid new : Walk) (before between after : List Pending) → args ≡ r ∷ left.now → AreCells cs args ps →
    mid.tokens.items ≡ old.tokens.items ++ token.Comma ∷ [] → mid.slots.items ≡ old.slots.items → mid.opens.keys ≡ old.opens.keys → mid.places ≡ old.places →
    between ≡ before ++ pending.Arguments left ∷ [] → ((p : Plain) → IsTerm cs r.0 p → Begins cs roots p mid new between after) → Steps cs roots (Rest ps) old new before after
cells-go-on cs roots args r left ps old mid new before between after e are mt ms mo mp pushed b =
    let h = next-cell cs args r left.now ps e are in
    subst (λ q. Steps cs roots (Rest q) old new before after) (sym h.is)
    (wrapped cs roots (Rest (Cons h.p h.rest)) (Rest h.rest) (pending.Arguments left) token.Comma h.p old mid new before between after mt ms mo mp pushed h.are
    (λ os j. refl) refl refl refl (b h.p h.term))

-- ---- the walk

-- what was told, and what is pending, is the whole
pub record IsWalking (cs : List Stored) (roots : List Root) (ps : Plains) (walk : Walk) (pending : List Pending) : Type 0 where
  pub works : List Work
  pub are : AreWorks cs roots pending works
  pub tokens : (os : List Place) → os ≡ firsts [] (all_opens ps) → walk.tokens.items ++ told os (length walk.slots.items) (turned works) ≡ roots_tokens os 0 0 roots ps
  pub slots : walk.slots.items ++ leaves_of (turned works) ≡ all_leaves ps
  pub opens : firsts (seen cs walk.opens.keys) (opens_of (turned works)) ≡ firsts [] (all_opens ps)
  pub places : walk.places + places_of (turned works) ≡ all_places ps

pub walking-starts : (cs : List Stored) (roots : List Root) (ps : Plains) (walk : Walk) (all : List Pending) → AreRoots cs roots ps → walk.tokens.items ≡ [] → walk.slots.items ≡ [] →
    walk.opens.keys ≡ [] → walk.places ≡ 0 → all ≡ pending.Roots 0 ∷ [] → IsWalking cs roots ps walk all
walking-starts cs roots ps walk all are t s o p e = record {
  works = Roots 0 roots ps ∷ [];
  are = subst (λ q. AreWorks cs roots q (Roots 0 roots ps ∷ [])) (sym e) ((refl, omega arith, refl, are), tt);
  tokens = λ os q.
      ap (λ xs. xs ++ told os (length walk.slots.items) (Roots 0 roots ps ∷ [])) t ∙ ap (λ xs. told os (length xs) (Roots 0 roots ps ∷ [])) s ∙ append-nil (roots_tokens os 0 0 roots ps);
  slots = ap (λ xs. xs ++ leaves_of (Roots 0 roots ps ∷ [])) s ∙ append-nil (all_leaves ps);
  opens = ap (λ xs. firsts (seen cs xs) (opens_of (Roots 0 roots ps ∷ []))) o ∙ ap (firsts []) (append-nil (all_opens ps));
  places = omega arith;
}

-- the last of what is pending, and the others
pub record Last (cs : List Stored) (roots : List Root) (xs : List Pending) (x : Pending) (works : List Work) : Type 0 where
  pub front : List Work
  pub w : Work
  pub is : works ≡ front ++ w ∷ []
  pub are : AreWorks cs roots xs front
  pub work : IsWork cs roots x w

pub last-work : (cs : List Stored) (roots : List Root) (xs : List Pending) (x : Pending) (works : List Work) → AreWorks cs roots (xs ++ x ∷ []) works → Last cs roots xs x works
last-work cs roots [] x [] h = absurd h
last-work cs roots [] x (w ∷ []) h = record { front = []; w = w; is = refl; are = tt; work = h.0 }
last-work cs roots [] x (w ∷ v ∷ works) h = absurd h.1
last-work cs roots (y ∷ xs) x [] h = absurd h
last-work cs roots (y ∷ xs) x (w ∷ works) h =
    let r = last-work cs roots xs x works h.1 in
    record { front = w ∷ r.front; w = r.w; is = ap (λ q. w ∷ q) r.is; are = (h.0, r.are); work = r.work }

pub walking-last : (cs : List Stored) (roots : List Root) (ps : Plains) (walk : Walk) (all rest : List Pending) (x : Pending) → IsWalking cs roots ps walk all → all ≡ rest ++ x ∷ [] →
    (w : Work) × IsWork cs roots x w
walking-last cs roots ps walk all rest x h e =
    let l = last-work cs roots rest x h.works (subst (λ q. AreWorks cs roots q h.works) e h.are) in (l.w, l.work)

pub walking-on : (cs : List Stored) (roots : List Root) (ps : Plains) (walk walk' : Walk) (all rest after : List Pending) (x : Pending) → IsWalking cs roots ps walk all → all ≡ rest ++ x ∷ [] →
    ((w : Work) → IsWork cs roots x w → Steps cs roots w walk walk' rest after) → IsWalking cs roots ps walk' after
walking-on cs roots ps walk walk' all rest after x h e step =
    let l = last-work cs roots rest x h.works (subst (λ q. AreWorks cs roots q h.works) e h.are) in
    let s = (step l.w l.work).writes in
    let vs = turned s.more in
    let us = turned l.front in
    let was : turned h.works ≡ l.w ∷ us = ap turned l.is ∙ turned-append l.front (l.w ∷ []) in
    let now : turned (l.front ++ s.more) ≡ vs ++ us = turned-append l.front s.more in
    let opens : firsts (seen cs walk'.opens.keys) (opens_of (turned (l.front ++ s.more))) ≡ firsts [] (all_opens ps) =
    ap (λ q. firsts (seen cs walk'.opens.keys) (opens_of q)) now
    ∙ ap (λ q. firsts (seen cs walk'.opens.keys) q) (opens-append vs us)
    ∙ ap (λ q. firsts q (opens_of vs ++ opens_of us)) s.numbered
    ∙ sym (firsts-append (seen cs walk.opens.keys) s.xs (opens_of vs ++ opens_of us))
    ∙ ap (λ q. firsts (seen cs walk.opens.keys) q) (sym (append_assoc s.xs (opens_of vs) (opens_of us)) ∙ ap (λ q. q ++ opens_of us) (sym s.opens))
    ∙ ap (λ q. firsts (seen cs walk.opens.keys) (opens_of q)) (sym was)
    ∙ h.opens in
    record {
      works = l.front ++ s.more;
      are = subst (λ q. AreWorks cs roots q (l.front ++ s.more)) (sym s.pushed) (works-append cs roots rest s.added l.front s.more l.are s.are);
      tokens = λ os q.
          let g = firsts_go_on (seen cs walk'.opens.keys) (opens_of (turned (l.front ++ s.more))) in
          let here : os ≡ seen cs walk'.opens.keys ++ g.0 = q ∙ sym opens ∙ g.1 in
          let j = length walk.slots.items in
          let n = length s.ss in
          let slots = ap length s.adds.slots in
          let more = length-append walk.slots.items s.ss in
          let at : length walk'.slots.items ≡ j + n = omega arith in
          let front : work_tokens os j l.w ≡ s.ts ++ told os (j + n) vs = subst (λ ks. work_tokens ks j l.w ≡ s.ts ++ told ks (j + n) vs) (sym here) (s.tokens g.0) in
          let lv = ap length s.leaves in
          let la = length-append s.ss (leaves_of vs) in
          let k : j + n + length (leaves_of vs) ≡ j + length (work_leaves l.w) = omega arith in
          ap (λ xs. xs ++ told os (length walk'.slots.items) (turned (l.front ++ s.more))) s.adds.tokens
          ∙ ap (λ m. (walk.tokens.items ++ s.ts) ++ told os m (turned (l.front ++ s.more))) at
          ∙ ap (λ ws. (walk.tokens.items ++ s.ts) ++ told os (j + n) ws) now
          ∙ ap (λ xs. (walk.tokens.items ++ s.ts) ++ xs) (told-append os (j + n) vs us ∙ ap (λ m. told os (j + n) vs ++ told os m us) k)
          ∙ append_assoc walk.tokens.items s.ts (told os (j + n) vs ++ told os (j + length (work_leaves l.w)) us)
          ∙ ap (λ xs. walk.tokens.items ++ xs) (sym (append_assoc s.ts (told os (j + n) vs) (told os (j + length (work_leaves l.w)) us)) ∙ ap (λ xs. xs ++ told os (j + length (work_leaves l.w)) us) (sym front))
          ∙ ap (λ ws. walk.tokens.items ++ told os j ws) (sym was)
          ∙ h.tokens os q;
      slots =
          ap (λ xs. xs ++ leaves_of (turned (l.front ++ s.more))) s.adds.slots
          ∙ ap (λ ws. (walk.slots.items ++ s.ss) ++ leaves_of ws) now
          ∙ ap (λ xs. (walk.slots.items ++ s.ss) ++ xs) (leaves-append vs us)
          ∙ append_assoc walk.slots.items s.ss (leaves_of vs ++ leaves_of us)
          ∙ ap (λ xs. walk.slots.items ++ xs) (sym (append_assoc s.ss (leaves_of vs) (leaves_of us)) ∙ ap (λ xs. xs ++ leaves_of us) (sym s.leaves))
          ∙ ap (λ ws. walk.slots.items ++ leaves_of ws) (sym was)
          ∙ h.slots;
      opens = opens;
      places =
          let a = s.adds.places in
          let b = ap places_of now ∙ places-append vs us in
          let d = ap places_of was in
          let w = s.places in
          let t = h.places in
          omega arith;
    }

-- the pieces and the places that are left fall
pub walking-falls : (places places' : ℕ) (old rest after : ℕ) → places ≤ 65536 → old ≡ rest + 1 → ((places < places') × (after ≤ rest + 3)) ⊎ (after ≤ rest) → places ≤ places' →
    4 * (65537 - places') + after < 4 * (65537 - places) + old
walking-falls places places' old rest after few e (inl h) up = let a = h.0 in let b = h.1 in omega arith
walking-falls places places' old rest after few e (inr h) up = omega arith

-- with nothing pending all was told
pub walking-ends : (cs : List Stored) (roots : List Root) (ps : Plains) (walk : Walk) (pending : List Pending) → IsWalking cs roots ps walk pending → pending ≡ [] →
    (walk.tokens.items ≡ roots_tokens (firsts [] (all_opens ps)) 0 0 roots ps) × (walk.slots.items ≡ all_leaves ps) × (walk.places ≡ all_places ps)
walking-ends cs roots ps walk pending h e =
    let none : turned h.works ≡ [] = ap turned (nothing h.works (subst (λ q. AreWorks cs roots q h.works) e h.are)) in (
      sym (append-nil walk.tokens.items) ∙ ap (λ ws. walk.tokens.items ++ told (firsts [] (all_opens ps)) (length walk.slots.items) ws) (sym none) ∙ h.tokens (firsts [] (all_opens ps)) refl,
      sym (append-nil walk.slots.items) ∙ ap (λ ws. walk.slots.items ++ leaves_of ws) (sym none) ∙ h.slots,
      let a = ap places_of none in let b = h.places in omega arith,
    )
  where
    nothing : (ws : List Work) → AreWorks cs roots [] ws → ws ≡ []
    nothing [] w = refl
    nothing (v ∷ ws) w = absurd w
