-- The laws behind `substitute`.
use Rattle.std.proofs.Common.{◌≡◌, ℕ, zero, suc, ◌+◌, ◌*◌, ◌<◌, ◌≤◌, ◌^◌, Bool, true, false, ◌||◌, List, [], ◌∷◌, length, nat_eq, Option, None, Some, if◌then◌else◌, refl, sym, ap, subst, ◌∙◌, ◌⊎◌, inl, inr, arith}
use Rattle.std.proofs.lemmas.Bool.{cases_Bool, eq-eqb}
use Rattle.std.proofs.lemmas.Option.{same_Some}
use Rattle.std.proofs.lemmas.Nat.{pow_pos, pow-add}
use Rattle.std.proofs.Math.Pow.{pow_mono}
use Rattle.std.proofs.Math.Nat.{mul-le-mul_left}
use Rattle.std.specs.List.{list_any}
use Rattle.std.specs.Option.{option_map_or}
use Rattle.cb_model.specs.Bits.{Bits}
use Rattle.cb_dd.specs.declared.Triple.{Triple}
use Rattle.cb_dd.specs.declared.Node.{Node}
use Rattle.cb_dd.specs.Diagram.{Store, IsNode, IsDiagram, function_of, level_of}
use Rattle.cb_dd.proofs.Diagrams.{function_of-zero, function_of-one, function_of-node, level_of-node, node-within, kind_of, bottom, top, inner}
use Rattle.cb_ops.specs.Ops.{Agree, DependsOn, StandsFor, IsIte, IsCofactor, Room, Grows}
use Rattle.cb_ops.specs.Support.{IsListed}
use Rattle.cb_ops.specs.Substitute.{Images, image_of, substituted, AreNodes, Spreads, SubstituteRoom, IsJoined, JoinRoom}
use Rattle.cb_ops.proofs.Ite.{choose-all, without, without-lt, cofactor-depends, literal-is, grown-node, grown-function, grown-depends}
use Rattle.cb_ops.proofs.Gather.{agree-at}

or-true : (b : Bool) → b || true ≡ true
or-true true = refl
or-true false = refl

pub agree-build : (ks : List ℕ) (p q : Bits) → ((l : ℕ) → IsListed ks l → p l ≡ q l) → Agree ks p q
agree-build [] p q h = tt
agree-build (k ∷ ks) p q h = (h k (ap (λ b. b || list_any (nat_eq k) ks) (eq-eqb k k refl)), agree-build ks p q (λ l there. h l (ap (λ b. nat_eq l k || b) there ∙ or-true (nat_eq l k))))

without-listed : (k : ℕ) (ls : List ℕ) (l : ℕ) → IsListed (without k ls) l → IsListed ls l
unfolding without
without-listed k [] l there = there
without-listed k (x ∷ xs) l there = elim (cases_Bool (nat_eq x k)) [
  | inl same ↦
      let h : IsListed (without k xs) l = subst (λ c. IsListed (if c then without k xs else x ∷ without k xs) l) same there in
      ap (λ b. nat_eq l x || b) (without-listed k xs l h) ∙ or-true (nat_eq l x)
  | inr other ↦
      let h : nat_eq l x || list_any (nat_eq l) (without k xs) ≡ true = subst (λ c. IsListed (if c then without k xs else x ∷ without k xs) l) other there in
      elim (cases_Bool (nat_eq l x)) [
        | inl here ↦ ap (λ b. b || list_any (nat_eq l) xs) here
        | inr away ↦
            let rest : list_any (nat_eq l) (without k xs) ≡ true = sym (ap (λ b. b || list_any (nat_eq l) (without k xs)) away) ∙ h in
            ap (λ b. nat_eq l x || b) (without-listed k xs l rest) ∙ or-true (nat_eq l x)
      ]
]

twice : (k : ℕ) (ls : List ℕ) → IsListed ls k → 2 ^ length (without k ls) + 2 ^ length (without k ls) ≤ 2 ^ length ls
twice k ls there =
    let m : 2 ^ (length (without k ls) + 1) ≤ 2 ^ length ls = pow_mono (without-lt k ls there) in
    let e : 2 ^ (length (without k ls) + 1) ≡ 2 ^ length (without k ls) * 2 ^ 1 = pow-add 2 (length (without k ls)) 1 in
    omega arith

pub grown-nodes : (s t : Store) → Grows s t → (list : Images) → AreNodes s.triples list → AreNodes t.triples list
grown-nodes s t g [] h = tt
grown-nodes s t g (p ∷ ps) h = (grown-node s t g p.1.0 h.0, grown-nodes s t g ps h.1)

pub image-node : (ts : List Triple) (list : Images) (l : ℕ) (m : Node) → AreNodes ts list → image_of list l ≡ Some m → IsNode ts m.0
image-node ts [] l m h e = absurd (let d : None ≡ Some m = e in cc)
image-node ts (p ∷ ps) l m h e = elim (cases_Bool (nat_eq l p.0)) [
  | inl same ↦
      let d : Some p.1 ≡ Some m = sym (ap (λ b. if b then Some p.1 else image_of ps l) same) ∙ e in
      subst (λ n. IsNode ts n.0) (same_Some p.1 m d) h.0
  | inr other ↦ image-node ts ps l m h.1 (sym (ap (λ b. if b then Some p.1 else image_of ps l) other) ∙ e)
]

pub cases-image : (o : Option Node) → ((m : Node) × (o ≡ Some m)) ⊎ (o ≡ None)
cases-image (Some m) = inl (m, refl)
cases-image None = inr refl

pub at-some : (ts : List Triple) (list : Images) (a : Bits) (l : ℕ) (m : Node) → image_of list l ≡ Some m → substituted ts list a l ≡ function_of ts m.0 a
at-some ts list a l m e = ap (λ o. option_map_or (λ n. function_of ts n.0 a) o (a l)) e

pub at-none : (ts : List Triple) (list : Images) (a : Bits) (l : ℕ) → image_of list l ≡ None → substituted ts list a l ≡ a l
at-none ts list a l e = ap (λ o. option_map_or (λ n. function_of ts n.0 a) o (a l)) e

-- nothing changes when nodes are added
pub substituted-grown : (s t : Store) → Grows s t → (list : Images) → AreNodes s.triples list → (a : Bits) → substituted t.triples list a ≡ substituted s.triples list a
substituted-grown s t g list w a = λ i l. at l i
  where
    at : (l : ℕ) → substituted t.triples list a l ≡ substituted s.triples list a l
    at l = elim (cases-image (image_of list l)) [
      | inl h ↦ at-some t.triples list a l h.0 h.1 ∙ grown-function s t g h.0.0 (image-node s.triples list l h.0 w h.1) a ∙ sym (at-some s.triples list a l h.0 h.1)
      | inr e ↦ at-none t.triples list a l e ∙ sym (at-none s.triples list a l e)
    ]

-- the image of a level: its node, or the bit itself
pub image-found : (ts : List Triple) (list : Images) (l : ℕ) (m : Node) → image_of list l ≡ Some m → StandsFor ts m.0 (λ a. substituted ts list a l)
image-found ts list l m e = record { at = λ a. sym (at-some ts list a l m e) }

pub image-bit : (s t : Store) (list : Images) (l r : ℕ) → image_of list l ≡ None → ((a : Bits) → function_of t.triples r a ≡ (if a l then function_of s.triples 1 a else function_of s.triples 0 a)) → StandsFor t.triples r (λ a. substituted s.triples list a l)
image-bit s t list l r e made = record { at = λ a. made a ∙ literal-is s.triples (a l) a ∙ sym (at-none s.triples list a l e) }

-- a node with its levels replaced depends on the second levels alone
pub replaced-depends : (s t : Store) (list : Images) (n r : ℕ) (first second : List ℕ) → Spreads s.triples n list first second → StandsFor t.triples r (λ a. function_of s.triples n (substituted s.triples list a)) → DependsOn t.triples r second
replaced-depends s t list n r first second sp is = record {
  agrees = λ a b h.
      is.at a
      ∙ sp.depends.agrees (substituted s.triples list a) (substituted s.triples list b) (agree-build first _ _ (λ l there. elim (cases-image (image_of list l)) [
        | inl m ↦ at-some s.triples list a l m.0 m.1 ∙ (sp.images l m.0 m.1).agrees a b h ∙ sym (at-some s.triples list b l m.0 m.1)
        | inr e ↦ at-none s.triples list a l e ∙ agree-at second a b h l (sp.covers l there e) ∙ sym (at-none s.triples list b l e)
      ]))
      ∙ sym (is.at b);
}

pub spreads-grown : (s t : Store) → Grows s t → (list : Images) (n : ℕ) (first second : List ℕ) → IsNode s.triples n → AreNodes s.triples list → Spreads s.triples n list first second → Spreads t.triples n list first second
spreads-grown s t g list n first second w ws sp = record {
  depends = grown-depends s t g n first w sp.depends;
  covers = sp.covers;
  images = λ l m e. grown-depends s t g m.0 second (image-node s.triples list l m ws e) (sp.images l m e);
}

pub spreads-side : (ts : List Triple) (list : Images) (f at : ℕ) (bit : Bool) (r : ℕ) (first second : List ℕ) → IsCofactor ts f at bit r → Spreads ts f list first second → Spreads ts r list (without at first) second
spreads-side ts list f at bit r first second c sp = record {
  depends = cofactor-depends ts f at bit r first c sp.depends;
  covers = λ l there e. sp.covers l (without-listed at first l there) e;
  images = sp.images;
}

pub substitute-none : (n : ℕ) (list : Images) (s : Store) → SubstituteRoom n list s s
substitute-none n list s = record {
  most = λ first second sp.
      let p : 1 ≤ 2 ^ length first = pow_pos (length first) in
      let m : 2 ^ length second * 1 ≤ 2 ^ length second * 2 ^ length first = mul-le-mul_left (2 ^ length second) p in
      omega arith;
}

-- ---- the node of two answers
-- a node with the bit itself as its choice
pub own-joined : (s t v : Store) → Grows s t → (level own low high r : ℕ) → IsNode s.triples low → IsNode s.triples high → ((a : Bits) → function_of t.triples own a ≡ (if a level then function_of s.triples 1 a else function_of s.triples 0 a)) → IsIte t.triples v.triples own high low r
    → IsJoined s.triples v.triples level low high [] r
own-joined s t v st level own low high r wl wh made is = record {
  at = λ a. is.at a ∙ choose-all _ _ _ _ _ _ (made a ∙ literal-is s.triples (a level) a) (grown-function s t st high wh a) (grown-function s t st low wl a);
}

pub own-room : (s t v : Store) → Grows s t → (level own low high : ℕ) → IsNode s.triples low → IsNode s.triples high → ((a : Bits) → function_of t.triples own a ≡ (if a level then function_of s.triples 1 a else function_of s.triples 0 a))
    → length t.triples ≤ length s.triples + 1 → Room (own ∷ high ∷ low ∷ []) 1 t v → JoinRoom level low high [] s v
own-room s t v st level own low high wl wh made one last = record {
  most = λ ls there images dl dh.
      let own_depends : DependsOn t.triples own ls = record { agrees = λ a b h. made a ∙ literal-is s.triples (a level) a ∙ agree-at ls a b h level (there refl) ∙ sym (made b ∙ literal-is s.triples (b level) b) } in
      let m = last.most ls (own_depends, (grown-depends s t st high ls wh dh, (grown-depends s t st low ls wl dl, tt))) in
      omega (arith, m, one);
}

pub one-room : (s v : Store) (level low high : ℕ) (list : Images) → length v.triples ≤ length s.triples + 1 → JoinRoom level low high list s v
one-room s v level low high list one = record { most = λ ls there images dl dh. let p : 0 < 2 ^ length ls = pow_pos (length ls) in omega (arith, one, p) }

-- where the level isn't replaced
pub unreplaced : (old new : List Triple) (level low high : ℕ) (list : Images) (r : ℕ) → image_of list level ≡ None → IsJoined old new level low high [] r → IsJoined old new level low high list r
unreplaced old new level low high list r e is = record { at = λ a. is.at a ∙ choose-all _ _ _ _ _ _ (sym (at-none old list a level e)) refl refl }

pub unreplaced-room : (s v : Store) (level low high : ℕ) (list : Images) → image_of list level ≡ None → JoinRoom level low high [] s v → JoinRoom level low high list s v
unreplaced-room s v level low high list e j = record { most = λ ls there images dl dh. j.most ls (λ e2. there e) (λ m f. absurd (let d : None ≡ Some m = f in cc)) dl dh }

-- and where it is
pub image-joined : (s v : Store) (level choice low high : ℕ) (list : Images) (r : ℕ) (n : Node) → image_of list level ≡ Some n → n.0 ≡ choice → IsIte s.triples v.triples choice high low r → IsJoined s.triples v.triples level low high list r
image-joined s v level choice low high list r n e same is = record { at = λ a. is.at a ∙ choose-all _ _ _ _ _ _ (ap (λ m. function_of s.triples m a) (sym same) ∙ sym (at-some s.triples list a level n e)) refl refl }

pub image-room : (s v : Store) (level low high : ℕ) (list : Images) (n : Node) → image_of list level ≡ Some n → Room (n.0 ∷ high ∷ low ∷ []) 1 s v → JoinRoom level low high list s v
image-room s v level low high list n e r = record { most = λ ls there images dl dh. let m = r.most ls (images n e, (dh, (dl, tt))) in omega (arith, m) }

-- ---- levels that aren't replaced
-- the bits before a node's level don't matter
behind : (ts : List Triple) → IsDiagram ts → (fuel n : ℕ) → n < fuel → IsNode ts n → (a b : Bits) → ((l : ℕ) → level_of ts n ≤ l → a l ≡ b l) → function_of ts n a ≡ function_of ts n b
behind ts is zero n h w a b same = absurd (omega arith)
behind ts is (suc fuel) n h w a b same = elim (kind_of ts n w) [
  | bottom e ↦ rw e (function_of-zero ts a ∙ sym (function_of-zero ts b))
  | top e ↦ rw e (function_of-one ts a ∙ sym (function_of-one ts b))
  | inner k t e at ↦
      let o = is.ordered k t at in
      let v = node-within ts is k t at in
      let lev : level_of ts n ≡ t.level = ap (level_of ts) e ∙ level_of-node ts k t at in
      let lo_below = o.lo_below in
      let hi_below = o.hi_below in
      let here : a t.level ≡ b t.level = same t.level (omega arith) in
      let high : function_of ts t.hi a ≡ function_of ts t.hi b = behind ts is fuel t.hi (omega (arith, o.hi)) v.2 a b (λ l le. same l (omega arith)) in
      let low : function_of ts t.lo a ≡ function_of ts t.lo b = behind ts is fuel t.lo (omega (arith, o.lo)) v.1 a b (λ l le. same l (omega arith)) in
      rw e (function_of-node ts k t at o.lo o.hi a ∙ choose-all _ _ _ _ _ _ here high low ∙ sym (function_of-node ts k t at o.lo o.hi b))
]

pub substitute-behind : (ts : List Triple) → IsDiagram ts → (list : Images) (n level : ℕ) → IsNode ts n → level_of ts n ≡ level → ((l : ℕ) → level ≤ l → image_of list l ≡ None) → StandsFor ts n (λ a. function_of ts n (substituted ts list a))
substitute-behind ts is list n level w e none = record { at = λ a. behind ts is (suc n) n (omega arith) w a (substituted ts list a) (λ l le. sym (at-none ts list a l (none l (omega arith)))) }

-- a constant has no levels to replace
pub substitute-constant : (ts : List Triple) (list : Images) (n : ℕ) → (n ≡ 0) ⊎ (n ≡ 1) → StandsFor ts n (λ a. function_of ts n (substituted ts list a))
substitute-constant ts list n (inl e) = record { at = λ a. ap (λ m. function_of ts m a) e ∙ function_of-zero ts a ∙ sym (ap (λ m. function_of ts m (substituted ts list a)) e ∙ function_of-zero ts (substituted ts list a)) }
substitute-constant ts list n (inr e) = record { at = λ a. ap (λ m. function_of ts m a) e ∙ function_of-one ts a ∙ sym (ap (λ m. function_of ts m (substituted ts list a)) e ∙ function_of-one ts (substituted ts list a)) }
