-- Which slots may depend on which free level: what growing, rewriting and going back make of it.
use Rattle.std.proofs.Common.{◌≡◌, ◌≢◌, ◌⊎◌, inl, inr, ℕ, zero, suc, ◌+◌, ◌<◌, ◌≤◌, false, List, [], ◌∷◌, ◌++◌, length, take, drop, get_or, refl, sym, ap, subst, ◌∙◌, arith, length-append}
use Rattle.std.specs.Prelude.{slice_set}
use Rattle.std.proofs.lemmas.Bool.{cases_eq, cases_lt, true≢false}
use Rattle.std.proofs.lemmas.List.{drop-append-le, length-set, length-take-le}
use Rattle.std.proofs.Math.Seq.{drop-length}
use Rattle.std.proofs.Math.Path.{fun_ext}
use Rattle.cb_model.specs.Bits.{Bits, Each, put}
use Rattle.cb_dd.specs.declared.Node.{Node}
use Rattle.cb_dd.specs.declared.Triple.{Triple}
use Rattle.cb_dd.specs.Diagram.{Store, IsNode, function_of}
use Rattle.cb_dd.proofs.Diagrams.{function_of-zero}
use Rattle.cb_ops.specs.Ops.{Grows, IsFree}
use Rattle.cb_ops.specs.Support.{IsListed}
use Rattle.cb_ops.proofs.Ite.{put-same, put-other}
use Rattle.cb_boole.specs.Elimination.{Function}
use Rattle.cb_solution.proofs.Solved.{listed-cases, listed-here, listed-there}
use Rattle.cb_trail.specs.declared.uses.Use.{Use}
use Rattle.cb_trail.specs.Uses.{IsUsed, StaysUsed}
use Rattle.cb_elim.specs.declared.Change.{Change}
use Rattle.cb_elim.specs.Store.{AreThere, value_in}
use Rattle.cb_elim.specs.Moments.{undone}
use Rattle.cb_elim.specs.Watch.{Covers, IsDead, KeepsUses, UsesNew}
use Rattle.cb_elim.proofs.Views.{value-still}
use Rattle.cb_elim.proofs.Slots.{value-last, value-other}
use Rattle.cb_elim.proofs.Back.{length-undone, take-undone, undone-append}

-- ---- lists

pub set-there : (ts : List Triple) (ns : List Node) (x : ℕ) (n : Node) → AreThere ts ns → IsNode ts n.0 → AreThere ts (slice_set ns x n)
set-there ts [] x n h w = tt
set-there ts (m ∷ ns) zero n h w = (w, h.1)
set-there ts (m ∷ ns) (suc x) n h w = (h.0, set-there ts ns x n h.1 w)

pub undone-there : (ts : List Triple) (cs : List Change) (ns : List Node) → AreThere ts ns → Each (λ c. IsNode ts c.value.0) cs → AreThere ts (undone cs ns)
undone-there ts [] ns h w = h
undone-there ts (c ∷ cs) ns h w = set-there ts (undone cs ns) c.slot c.value (undone-there ts cs ns h w.1) w.0

pub each-drop : (P : Change → Type 0) (t : ℕ) (cs : List Change) → Each P cs → Each P (drop t cs)
each-drop P zero [] h = h
each-drop P zero (c ∷ cs) h = h
each-drop P (suc t) [] h = h
each-drop P (suc t) (c ∷ cs) h = each-drop P t cs h.1

pub each-take : (P : Change → Type 0) (t : ℕ) (cs : List Change) → Each P cs → Each P (take t cs)
each-take P zero [] h = tt
each-take P zero (c ∷ cs) h = tt
each-take P (suc t) [] h = tt
each-take P (suc t) (c ∷ cs) h = (h.0, each-take P t cs h.1)

pub each-more : (P : Change → Type 0) (cs : List Change) (c : Change) → Each P cs → P c → Each P (cs ++ c ∷ [])
each-more P [] c h w = (w, tt)
each-more P (d ∷ cs) c h w = (h.0, each-more P cs c h.1 w)

-- a value past the last slot
pub value-past : (ts : List Triple) (ns : List Node) (x : ℕ) → length ns ≤ x → value_in ts ns x ≡ (λ p. false)
value-past ts [] x h = refl
value-past ts (n ∷ ns) zero h = absurd (omega arith)
value-past ts (n ∷ ns) (suc x) h = value-past ts ns x (omega arith)

value-take : (ts : List Triple) (ns : List Node) (n x : ℕ) → x < n → value_in ts (take n ns) x ≡ value_in ts ns x
value-take ts ns zero x h = absurd (omega arith)
value-take ts [] (suc n) x h = refl
value-take ts (m ∷ ns) (suc n) zero h = refl
value-take ts (m ∷ ns) (suc n) (suc x) h = value-take ts ns n x (omega arith)

take-short : (ns : List Node) (n : ℕ) → length (take n ns) ≤ n
take-short [] zero = omega arith
take-short (m ∷ ns) zero = omega arith
take-short [] (suc n) = omega arith
take-short (m ∷ ns) (suc n) = let h = take-short ns n in omega arith

pub value-set-own : (ts : List Triple) (ns : List Node) (x : ℕ) (n : Node) → x < length ns → value_in ts (slice_set ns x n) x ≡ function_of ts n.0
value-set-own ts [] x n h = absurd (omega arith)
value-set-own ts (m ∷ ns) zero n h = refl
value-set-own ts (m ∷ ns) (suc x) n h = value-set-own ts ns x n (omega arith)

pub value-set-other : (ts : List Triple) (ns : List Node) (x y : ℕ) (n : Node) → y ≢ x → value_in ts (slice_set ns x n) y ≡ value_in ts ns y
value-set-other ts [] x y n h = refl
value-set-other ts (m ∷ ns) zero zero n h = absurd (h refl)
value-set-other ts (m ∷ ns) zero (suc y) n h = refl
value-set-other ts (m ∷ ns) (suc x) zero n h = refl
value-set-other ts (m ∷ ns) (suc x) (suc y) n h = value-set-other ts ns x y n (λ e. h (ap suc e))

-- the value that is read at a slot
pub value-read : (ts : List Triple) (ns : List Node) (x : ℕ) (d : Node) → x < length ns → value_in ts ns x ≡ function_of ts (get_or ns x d).0
value-read ts [] x d h = absurd (omega arith)
value-read ts (m ∷ ns) zero d h = refl
value-read ts (m ∷ ns) (suc x) d h = value-read ts ns x d (omega arith)

set-back : (ns : List Node) (x : ℕ) (new old : Node) (d : Node) → get_or ns x d ≡ old → x < length ns → slice_set (slice_set ns x new) x old ≡ ns
set-back [] x new old d e h = absurd (omega arith)
set-back (m ∷ ns) zero new old d e h = ap (λ (n : Node). n ∷ ns) (sym e)
set-back (m ∷ ns) (suc x) new old d e h = ap (λ zs. m ∷ zs) (set-back ns x new old d e (omega arith))

set-last : (ns : List Node) (f : Node) (x : ℕ) (n : Node) → x < length ns → slice_set (ns ++ f ∷ []) x n ≡ slice_set ns x n ++ f ∷ []
set-last [] f x n h = absurd (omega arith)
set-last (m ∷ ns) f zero n h = refl
set-last (m ∷ ns) f (suc x) n h = ap (λ zs. m ∷ zs) (set-last ns f x n (omega arith))

undone-last : (cs : List Change) (ns : List Node) (f : Node) → Each (λ c. c.slot < length ns) cs → undone cs (ns ++ f ∷ []) ≡ undone cs ns ++ f ∷ []
undone-last [] ns f h = refl
undone-last (c ∷ cs) ns f h =
    ap (λ zs. slice_set zs c.slot c.value) (undone-last cs ns f h.1)
    ∙ set-last (undone cs ns) f c.slot c.value (let e = length-undone cs ns in let less : c.slot < length ns = h.0 in omega arith)

drop-all : (cs : List Change) (t : ℕ) → length cs ≤ t → drop t cs ≡ []
drop-all [] zero h = refl
drop-all [] (suc t) h = refl
drop-all (c ∷ cs) zero h = absurd (omega arith)
drop-all (c ∷ cs) (suc t) h = drop-all cs t (omega arith)

-- ---- uses

pub used-later : (us : List Use) (l x t s : ℕ) → t ≤ s → IsUsed us l x t → IsUsed us l x s
used-later us l x t s h u = record { at = u.at; within = u.within; of_level = u.of_level; by_slot = u.by_slot; since = λ d. let w = u.since d in omega arith }

-- ---- what covers

module _ (c : ℕ) where
  pub covers-none : (ts : List Triple) → Covers ts c [] [] []
  covers-none ts = record { at = λ t x l h free. inr (subst (λ cs. IsDead l (value_in ts (undone cs []) x)) (sym (drop-all [] t (omega arith))) (λ p b. refl)) }

  pub covers-uses : (ts : List Triple) (ns : List Node) (trail : List Change) (us vs : List Use) → KeepsUses us vs → Covers ts c ns trail us → Covers ts c ns trail vs
  covers-uses ts ns trail us vs keeps w = record { at = λ t x l h free. elim (w.at t x l h free) [ inl u ↦ inl (keeps l x t u) | inr dead ↦ inr dead ] }

  module _ (s t : Store) (g : Grows s t) (ns : List Node) (trail : List Change) (us : List Use) (there : AreThere s.triples ns) (changed : Each (λ d. IsNode s.triples d.value.0) trail) where
    still : (k x : ℕ) → value_in t.triples (undone (drop k trail) ns) x ≡ value_in s.triples (undone (drop k trail) ns) x
    still k x = value-still s t g (undone (drop k trail) ns) (undone-there s.triples (drop k trail) ns there (each-drop (λ d. IsNode s.triples d.value.0) k trail changed)) x

    pub covers-grown : Covers s.triples c ns trail us → Covers t.triples c ns trail us
    covers-grown w = record { at = λ k x l h free. elim (w.at k x l h free) [ inl u ↦ inl u | inr dead ↦ inr (subst (IsDead l) (sym (still k x)) dead) ] }

    pub covers-cut : Covers t.triples c ns trail us → Covers s.triples c ns trail us
    covers-cut w = record { at = λ k x l h free. elim (w.at k x l h free) [ inl u ↦ inl u | inr dead ↦ inr (subst (IsDead l) (still k x) dead) ] }

  -- a slot is rewritten
  module _ (ts : List Triple) (ns : List Node) (trail : List Change) (us ws : List Use) (w : Covers ts c ns trail us) (keeps : KeepsUses us ws) (x : ℕ) (old new d : Node) (is : get_or ns x d ≡ old) (less : x < length ns)
      (uses : UsesNew ts c ws old.0 new.0 x (length trail + 1)) where
    now : (y l : ℕ) → c ≤ l → IsUsed us l y (length trail) ⊎ IsDead l (value_in ts ns y)
    now y l free = subst (λ cs. IsUsed us l y (length trail) ⊎ IsDead l (value_in ts (undone cs ns) y)) (drop-length trail) (w.at (length trail) y l (omega arith) free)

    own : (l : ℕ) → c ≤ l → IsUsed us l x (length trail) ⊎ IsDead l (value_in ts ns x) → IsUsed ws l x (length trail + 1) ⊎ IsFree ts new.0 l
    own l free (inl u) = inl (used-later ws l x (length trail) (length trail + 1) (omega arith) (keeps l x (length trail) u))
    own l free (inr dead) = uses l free (subst (λ (f : Function). IsDead l f) (value-read ts ns x d less ∙ ap (λ (n : Node). function_of ts n.0) is) dead)

    last : (y l : ℕ) → c ≤ l → (y ≡ x) ⊎ (y ≡ x → ⊥) → IsUsed ws l y (length trail + 1) ⊎ IsDead l (value_in ts (slice_set ns x new) y)
    last y l free (inl e) = subst (λ z. IsUsed ws l z (length trail + 1) ⊎ IsDead l (value_in ts (slice_set ns x new) z)) (sym e)
        (elim (own l free (now x l free)) [ inl u ↦ inl u | inr dead ↦ inr (subst (λ (f : Function). IsDead l f) (sym (value-set-own ts ns x new less)) dead) ])
    last y l free (inr ne) = elim (now y l free) [
      | inl u ↦ inl (used-later ws l y (length trail) (length trail + 1) (omega arith) (keeps l y (length trail) u))
      | inr dead ↦ inr (subst (λ (f : Function). IsDead l f) (sym (value-set-other ts ns x y new ne)) dead)
    ]

    change : Change
    change = record { slot = x; value = old }

    back : (t : ℕ) → t ≤ length trail → undone (drop t (trail ++ record { slot = x; value = old } ∷ [])) (slice_set ns x new) ≡ undone (drop t trail) ns
    back t h =
        ap (λ cs. undone cs (slice_set ns x new)) (drop-append-le t trail (record { slot = x; value = old } ∷ []) h)
        ∙ undone-append (drop t trail) (record { slot = x; value = old } ∷ []) (slice_set ns x new)
        ∙ ap (λ zs. undone (drop t trail) zs) (set-back ns x new old d is less)

    pub covers-write : Covers ts c (slice_set ns x new) (trail ++ record { slot = x; value = old } ∷ []) ws
    covers-write = record {
      at = λ t y l h free. elim (cases_lt (length trail) t) [
        | inl past ↦
            let e : t ≡ length trail + 1 = omega (arith, length-append trail (record { slot = x; value = old } ∷ [])) in
            subst (λ k. IsUsed ws l y k ⊎ IsDead l (value_in ts (undone (drop k (trail ++ record { slot = x; value = old } ∷ [])) (slice_set ns x new)) y)) (sym e)
            (subst (λ cs. IsUsed ws l y (length trail + 1) ⊎ IsDead l (value_in ts (undone cs (slice_set ns x new)) y))
            (sym (drop-all (trail ++ record { slot = x; value = old } ∷ []) (length trail + 1) (omega (arith, length-append trail (record { slot = x; value = old } ∷ [])))))
            (last y l free (cases_eq y x)))
        | inr before ↦ elim (w.at t y l before free) [
          | inl u ↦ inl (keeps l y t u)
          | inr dead ↦ inr (subst (λ zs. IsDead l (value_in ts zs y)) (sym (back t before)) dead)
        ]
      ];
    }

  -- a slot is added
  pub covers-push : (ts : List Triple) (ns : List Node) (trail : List Change) (us ws : List Use) → Covers ts c ns trail us → KeepsUses us ws → Each (λ d. d.slot < length ns) trail → (f : Node) → UsesNew ts c ws 0 f.0 (length ns) 0 →
      Covers ts c (ns ++ f ∷ []) trail ws
  covers-push ts ns trail us ws w keeps within f uses = record {
    at = λ t y l h free.
        let long : length (undone (drop t trail) ns) ≡ length ns = length-undone (drop t trail) ns in
        let e : undone (drop t trail) (ns ++ f ∷ []) ≡ undone (drop t trail) ns ++ f ∷ [] = undone-last (drop t trail) ns f (each-drop (λ d. d.slot < length ns) t trail within) in
        subst (λ zs. IsUsed ws l y t ⊎ IsDead l (value_in ts zs y)) (sym e) (elim (cases_eq y (length ns)) [
          | inl same ↦
              subst (λ z. IsUsed ws l z t ⊎ IsDead l (value_in ts (undone (drop t trail) ns ++ f ∷ []) z)) (sym same)
              (elim (uses l free (λ p b. function_of-zero ts (put l b p) ∙ sym (function_of-zero ts p))) [
                | inl u ↦ inl (used-later ws l (length ns) 0 t (omega arith) u)
                | inr dead ↦ inr (subst (λ (g : Function). IsDead l g) (sym (ap (λ k. value_in ts (undone (drop t trail) ns ++ f ∷ []) k) (sym long) ∙ value-last ts (undone (drop t trail) ns) f)) dead)
              ])
          | inr other ↦ elim (w.at t y l h free) [
            | inl u ↦ inl (keeps l y t u)
            | inr dead ↦ inr (subst (λ (g : Function). IsDead l g) (sym (value-other ts (undone (drop t trail) ns) f y (λ same. other (same ∙ long)))) dead)
          ]
        ]);
  }

  -- changes and slots are taken back
  drop-parts : (t to : ℕ) (cs : List Change) → t ≤ to → drop t (take to cs) ++ drop to cs ≡ drop t cs
  drop-parts zero zero [] h = refl
  drop-parts zero zero (d ∷ cs) h = refl
  drop-parts zero (suc to) [] h = refl
  drop-parts zero (suc to) (d ∷ cs) h = ap (λ ds. d ∷ ds) (keep to cs)
    where
      keep : (k : ℕ) (ds : List Change) → take k ds ++ drop k ds ≡ ds
      keep zero [] = refl
      keep zero (e ∷ ds) = refl
      keep (suc k) [] = refl
      keep (suc k) (e ∷ ds) = ap (λ es. e ∷ es) (keep k ds)
  drop-parts (suc t) zero cs h = absurd (omega arith)
  drop-parts (suc t) (suc to) [] h = refl
  drop-parts (suc t) (suc to) (d ∷ cs) h = drop-parts t to cs (omega arith)

  pub covers-back : (ts : List Triple) (ns : List Node) (trail : List Change) (us ws : List Use) (n to : ℕ) → to ≤ length trail → Covers ts c ns trail us → StaysUsed n to us ws →
      Covers ts c (take n (undone (drop to trail) ns)) (take to trail) ws
  covers-back ts ns trail us ws n to le w stays = record {
    at = λ t x l h free.
        let short : t ≤ to = omega (arith, length-take-le to trail le) in
        let e : undone (drop t (take to trail)) (take n (undone (drop to trail) ns)) ≡ take n (undone (drop t trail) ns)
        = sym (take-undone n (drop t (take to trail)) (undone (drop to trail) ns)) ∙ ap (λ zs. take n zs) (sym (undone-append (drop t (take to trail)) (drop to trail) ns) ∙ ap (λ cs. undone cs ns) (drop-parts t to trail short)) in
        subst (λ zs. IsUsed ws l x t ⊎ IsDead l (value_in ts zs x)) (sym e) (elim (cases_lt x n) [
          | inl less ↦ elim (w.at t x l (omega arith) free) [
            | inl u ↦ inl (stays l x t less short u)
            | inr dead ↦ inr (subst (λ (g : Function). IsDead l g) (sym (value-take ts (undone (drop t trail) ns) n x less)) dead)
          ]
          | inr past ↦ inr (subst (λ (g : Function). IsDead l g) (sym (value-past ts (take n (undone (drop t trail) ns)) x (let s = take-short (undone (drop t trail) ns) n in omega arith))) (λ p b. refl))
        ]);
  }

  -- what each slot and each change has noted
  abbrev Noted : List Triple → List Use → List Node → Type 0
  Noted ts us ns = (x l : ℕ) → c ≤ l → IsUsed us l x 0 ⊎ IsDead l (value_in ts ns x)

  noted-set : (ts : List Triple) (us : List Use) (ns : List Node) (y : ℕ) (n : Node) → Noted ts us ns → UsesNew ts c us 0 n.0 y 0 → Noted ts us (slice_set ns y n)
  noted-set ts us ns y n w uses x l free = elim (cases_eq x y) [
    | inl same ↦ elim (cases_lt y (length ns)) [
      | inl less ↦
          subst (λ z. IsUsed us l z 0 ⊎ IsDead l (value_in ts (slice_set ns y n) z)) (sym same) (elim (uses l free (λ p b. function_of-zero ts (put l b p) ∙ sym (function_of-zero ts p))) [
            | inl u ↦ inl u
            | inr dead ↦ inr (subst (λ (g : Function). IsDead l g) (sym (value-set-own ts ns y n less)) dead)
          ])
      | inr past ↦ inr (subst (λ (g : Function). IsDead l g) (sym (value-past ts (slice_set ns y n) x (omega (arith, length-set ns y n)))) (λ p b. refl))
    ]
    | inr other ↦ elim (w x l free) [ inl u ↦ inl u | inr dead ↦ inr (subst (λ (g : Function). IsDead l g) (sym (value-set-other ts ns y x n other)) dead) ]
  ]

  noted-undone : (ts : List Triple) (us : List Use) (cs : List Change) (ns : List Node) → Noted ts us ns → Each (λ d. UsesNew ts c us 0 d.value.0 d.slot 0) cs → Noted ts us (undone cs ns)
  noted-undone ts us [] ns w h = w
  noted-undone ts us (d ∷ cs) ns w h = noted-set ts us (undone cs ns) d.slot d.value (noted-undone ts us cs ns w h.1) h.0

  pub covers-anew : (ts : List Triple) (us : List Use) (ns : List Node) (trail : List Change) → ((x : ℕ) (d : Node) → x < length ns → UsesNew ts c us 0 (get_or ns x d).0 x 0) → Each (λ d. UsesNew ts c us 0 d.value.0 d.slot 0) trail →
      Covers ts c ns trail us
  covers-anew ts us ns trail slots changes = record {
    at = λ t x l h free. elim (noted-undone ts us (drop t trail) ns first (each-drop (λ d. UsesNew ts c us 0 d.value.0 d.slot 0) t trail changes) x l free) [ inl u ↦ inl (used-later us l x 0 t (omega arith) u) | inr dead ↦ inr dead ];
  }
    where
      zero-node : Node
      zero-node = record { 0 = 0 }

      first : (x l : ℕ) → c ≤ l → IsUsed us l x 0 ⊎ IsDead l (value_in ts ns x)
      first x l free = elim (cases_lt x (length ns)) [
        | inl less ↦ elim (slots x (record { 0 = 0 }) less l free (λ p b. function_of-zero ts (put l b p) ∙ sym (function_of-zero ts p))) [
          | inl u ↦ inl u
          | inr dead ↦ inr (subst (λ (g : Function). IsDead l g) (sym (value-read ts ns x (record { 0 = 0 }) less)) dead)
        ]
        | inr past ↦ inr (subst (λ (g : Function). IsDead l g) (sym (value-past ts ns x past)) (λ p b. refl))
      ]

-- ---- a function that depends on none of some levels

pub dead-alike : (ls : List ℕ) (f : Function) → ((l : ℕ) → IsListed ls l → IsDead l f) → (p q : Bits) → ((k : ℕ) → (IsListed ls k → ⊥) → p k ≡ q k) → f p ≡ f q
dead-alike [] f dead p q same = ap f (fun_ext (λ k. same k (λ h. true≢false (sym h))))
dead-alike (l ∷ ls) f dead p q same =
    sym (dead l (listed-here l ls) p (q l))
    ∙ dead-alike ls f (λ k h. dead k (listed-there l k ls h)) (put l (q l) p) q (λ k away. elim (cases_eq k l) [
      | inl e ↦ put-same p l k (q l) e ∙ ap q (sym e)
      | inr ne ↦ put-other p l (q l) k ne ∙ same k (λ h. elim (listed-cases l k ls h) [ inl e ↦ ne e | inr there ↦ away there ])
    ])
