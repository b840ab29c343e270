-- A stop for nodes while the branch of the second clause is added, behind the answer of the first: its line is said before the stop.
use Rattle.std.proofs.Common.{◌≡◌, ℕ, zero, suc, ◌+◌, ◌<◌, ◌≤◌, ◌⊎◌, Bool, true, false, List, [], ◌∷◌, ◌++◌, map, length, take, refl, sym, ◌∙◌, ap, subst, inl, inr, codes, arith, lit<}
use Rattle.std.specs.Prelude.{Some, None, Contains, flat_map, slice_get, bytes_eq}
use Rattle.cb_model.specs.declared.Tree.{Tree}
use Rattle.cb_model.specs.declared.Goal.TheVariants as goal
use Rattle.cb_model.specs.declared.Clause.{Clause}
use Rattle.cb_model.specs.Text.{Text}
use Rattle.cb_model.specs.Bits.{none}
use Rattle.cb_model.specs.Values.{Ground}
use Rattle.cb_model.specs.Equations.{Solvable}
use Rattle.cb_model.specs.Commands.{Only}
use Rattle.cb_model.specs.Derivation.{Branch, Entry, Run, Try, Note, Made, Printed, Change, Answered, Becomes, Adds, Moves, Replaces, Goes, here, on, SoFar, End, Whole, Stopped, Resolutions, Variables, Equations, resolutions_of, notes_of, printed_of, stretch_after, resolved, first_branch}
use Rattle.cb_model.specs.Answers.{IsShape, leaves}
use Rattle.cb_model.specs.Line.{IsLine, told, printed_terms}
use Rattle.cb_model.specs.Room.{BelowRoom, room_with}
use Rattle.cb_model.specs.Output.{QuerySays, all, few, few_adding, AreLines, no_lines, more_lines, TooFew, end_text}
use Rattle.cb_laws.proofs.Tables.{with_bits, zero_fits}
use Rattle.cb_laws.proofs.Shapes.{size_values}
use Rattle.cb_laws.proofs.Determined.{step_determined}
use Rattle.cb_rows.specs.StopRow.{rule, p, q, names, behind, answer, larger}

-- ---- the stop behind the answer

solvable : Solvable p.world answer.items
solvable a ok = record { b = with_bits (λ n. false); sorted = λ n. zero_fits; sat = (refl, tt) }

no_terms : (b : Branch) → IsShape p.world answer.items [] []
no_terms b = record { only_leaves = refl; leaf_order = refl; open_order = tt; covers = λ a v m. (v, (m.sorted, refl)); free = λ a v o o' m e sorted. (v, (m, refl)) }

line : IsLine p names answer (codes "yes")
line = told [] [] (no_terms answer) refl (λ env. tt) refl refl

abbrev tried : List Entry
tried = Try behind 0 [] 0 ∷ []

abbrev running : List Entry
running = Run answer ∷ Try behind 0 [] 1 ∷ []

abbrev added : Change
added = Adds 1 (Try behind 0 [] 1 ∷ []) answer

goes_on : Replaces p added running
goes_on = inl (solvable, (answer, (record { ready = []; rest = []; parts = none; is = refl }, refl)))

answered : SoFar p q 2 (Made (first_branch q) ∷ Made answer ∷ Printed answer ∷ []) 1 (Try behind 0 [] 1 ∷ [])
answered = record {
  begins = refl;
  rest = Made answer ∷ Printed answer ∷ [];
  goes =
      on (Becomes (Try behind 0 [] 0)) tried _ (inl (tt, refl)) refl refl refl
      (on added running _ (rule [], refl, refl) refl goes_on refl
      (on (Answered answer) [] [] refl refl refl refl here));
  is = refl;
}

pub may_stop_behind : QuerySays p q names 2 (Only 12799) (codes "yes" ∷ codes "stopped: nodes" ∷ []) true
may_stop_behind =
    few_adding _ 1 (Try behind 0 [] 1) [] 1 [] larger (codes "yes" ∷ []) answered (rule (goal.True ∷ goal.True ∷ []), refl, refl) refl
    (more_lines line no_lines) (inl (simp size_values (lit< tt))) refl

-- ---- the run up to its answer

abbrev Begun : List Note → List Entry → Type 0
Begun ns t =
    ((ns ≡ []) × (t ≡ Run (first_branch q) ∷ [])) ⊎ (((ns ≡ []) × (t ≡ tried)) ⊎
    (((ns ≡ Made answer ∷ []) × (t ≡ running)) ⊎ ((rest : List Note) × (ns ≡ Made answer ∷ Printed answer ∷ rest))))

top_of : Entry → List Entry → Entry
top_of x [] = x
top_of x (y ∷ ys) = y

rest_of : List Entry → List Entry
rest_of [] = []
rest_of (y ∷ ys) = ys

top_is : (x y : Entry) (s t : List Entry) → x ∷ s ≡ y ∷ t → (x ≡ y) × (s ≡ t)
unfolding top_of rest_of
top_is x y s t e = (ap (top_of x) e, ap rest_of e)

first_rule : (c : Clause) → slice_get p.clauses 0 ≡ Some c → c ≡ rule []
first_rule c e = cc

-- what the three entries do
calls : (c : Change) → Moves p (Run (first_branch q)) c → c ≡ Becomes (Try behind 0 [] 0)
calls c (inl h) = h.1
calls c (inr h) = absurd (h.0 tt)

tries : (c : Change) → Moves p (Try behind 0 [] 0) c → c ≡ added
tries c m = m.2 ∙ ap (λ r. Adds 1 (Try behind 0 [] 1 ∷ []) (resolved behind 0 [] r)) (first_rule m.0 m.1)

moved : (x y : Entry) (c : Change) → x ≡ y → Moves p x c → Moves p y c
moved x y c e m = subst (λ x. Moves p x c) e m

adds_one : (es s : List Entry) → Replaces p added es → es ++ s ≡ running ++ s
adds_one es s r =
    (step_determined p (Try behind 0 [] 0) s (es ++ s) (running ++ s) None None
    (record { change = added; moves = (rule [], refl, refl); entries = es; replaces = r; stack = refl; gives = refl })
    (record { change = added; moves = (rule [], refl, refl); entries = running; replaces = goes_on; stack = refl; gives = refl })).0

from_answer : (s t : List Entry) (used u : ℕ) (ns : List Note) → s ≡ running → Goes p 2 used s ns u t →
    ((ns ≡ []) × (t ≡ running)) ⊎ ((rest : List Note) × (ns ≡ Printed answer ∷ rest))
from_answer s t used u ns e here = inl (refl, e)
from_answer (x ∷ s) t used u ns e (on c es rest m f r i g) =
    inr (rest, i ∙ ap (λ c. notes_of c ++ rest) (moved x (Run answer) c (top_is x (Run answer) s (Try behind 0 [] 1 ∷ []) e).0 m))

from_try : (s t : List Entry) (used u : ℕ) (ns : List Note) → s ≡ tried → Goes p 2 used s ns u t → Begun ns t
from_try s t used u ns e here = inr (inl (refl, e))
from_try (x ∷ s) t used u ns e (on c es rest m f r i g) = go (from_answer (es ++ s) t (used + resolutions_of c) u rest stands g)
  where
    same : c ≡ added
    same = tries c (moved x (Try behind 0 [] 0) c (top_is x (Try behind 0 [] 0) s [] e).0 m)

    stands : es ++ s ≡ running
    stands = adds_one es s (subst (λ c. Replaces p c es) same r) ∙ ap (λ s. running ++ s) (top_is x (Try behind 0 [] 0) s [] e).1

    go : ((rest ≡ []) × (t ≡ running)) ⊎ ((more : List Note) × (rest ≡ Printed answer ∷ more)) → Begun ns t
    go (inl h) = inr (inr (inl (i ∙ ap (λ c. notes_of c ++ rest) same ∙ ap (λ r. Made answer ∷ r) h.0, h.1)))
    go (inr h) = inr (inr (inr (h.0, i ∙ ap (λ c. notes_of c ++ rest) same ∙ ap (λ r. Made answer ∷ r) h.1)))

from_first : (s t : List Entry) (used u : ℕ) (ns : List Note) → s ≡ Run (first_branch q) ∷ [] → Goes p 2 used s ns u t → Begun ns t
from_first s t used u ns e here = inl (refl, e)
from_first (x ∷ s) t used u ns e (on c es rest m f r i g) =
    let d = top_is x (Run (first_branch q)) s [] e in
    let same : c ≡ Becomes (Try behind 0 [] 0) = calls c (moved x (Run (first_branch q)) c d.0 m) in
    let entries : es ≡ tried = subst (λ c. Replaces p c es) same r in
    let none_made : ns ≡ rest = i ∙ ap (λ c. notes_of c ++ rest) same in
    subst (λ l. Begun l t) (sym none_made) (from_try (es ++ s) t (used + resolutions_of c) u rest (ap (λ l. l ++ s) entries ∙ ap (λ l. tried ++ l) d.1) g)

-- ---- their branches allow no stop

no_leaves : (f : Tree → Ground) (shape : List Tree) → [] ≡ map f shape → length (flat_map leaves shape) ≡ 0
no_leaves f [] e = refl
no_leaves f (t ∷ ts) e = absurd (cc)

module _ (b : Branch) (nothing : printed_terms names b ≡ []) (below : room_with p b 0 < 12800) where
  allows_none : BelowRoom p names b 12799 → ⊥
  allows_none (inl h) = omega (arith, h, below)
  allows_none (inr h) =
      let s = h.0 (λ n. false) tt in
      let c = (subst (λ ts. IsShape p.world b.items ts h.1.0) nothing h.1.1.0).covers (λ n. false) s.b (record { admitted = tt; sorted = s.sorted; sat = s.sat }) in
      let k : 12799 < room_with p b 0 = subst (λ l. 12799 < room_with p b l) (no_leaves _ h.1.0 c.1.1) h.1.1.1 in
      omega (arith, k, below)

first_none : BelowRoom p names (first_branch q) 12799 → ⊥
first_none = allows_none (first_branch q) refl (lit< tt)

answer_none : BelowRoom p names answer 12799 → ⊥
answer_none = allows_none answer refl (simp size_values (lit< tt))

abbrev Few : List Branch → Type 0
Few bs = TooFew p names (Only 12799) bs

few_first : Few (first_branch q ∷ []) → ⊥
few_first t = go t.one
  where
    go : Contains (first_branch q ∷ []) t.b → ⊥
    go (zero, l, h) = first_none (subst (λ b. BelowRoom p names b 12799) (sym h) t.too_few)
    go (suc j, l, h) = absurd (omega arith)

few_made : Few (first_branch q ∷ answer ∷ []) → ⊥
few_made t = go t.one
  where
    go : Contains (first_branch q ∷ answer ∷ []) t.b → ⊥
    go (zero, l, h) = first_none (subst (λ b. BelowRoom p names b 12799) (sym h) t.too_few)
    go (suc zero, l, h) = answer_none (subst (λ b. BelowRoom p names b 12799) (sym h) t.too_few)
    go (suc (suc j), l, h) = absurd (omega arith)

few_printed : Few (first_branch q ∷ answer ∷ answer ∷ []) → ⊥
few_printed t = go t.one
  where
    go : Contains (first_branch q ∷ answer ∷ answer ∷ []) t.b → ⊥
    go (zero, l, h) = first_none (subst (λ b. BelowRoom p names b 12799) (sym h) t.too_few)
    go (suc zero, l, h) = answer_none (subst (λ b. BelowRoom p names b 12799) (sym h) t.too_few)
    go (suc (suc zero), l, h) = answer_none (subst (λ b. BelowRoom p names b 12799) (sym h) t.too_few)
    go (suc (suc (suc j)), l, h) = absurd (omega arith)

no_stretch : (rest : List Note) (t : List Entry) → Begun rest t → Few (stretch_after 0 (Made (first_branch q) ∷ rest)) → ⊥
no_stretch rest t (inl h) f = few_first (subst (λ r. Few (stretch_after 0 (Made (first_branch q) ∷ r))) h.0 f)
no_stretch rest t (inr (inl h)) f = few_first (subst (λ r. Few (stretch_after 0 (Made (first_branch q) ∷ r))) h.0 f)
no_stretch rest t (inr (inr (inl h))) f = few_made (subst (λ r. Few (stretch_after 0 (Made (first_branch q) ∷ r))) h.0 f)
no_stretch rest t (inr (inr (inr h))) f = few_printed (subst (λ r. Few (stretch_after 0 (Made (first_branch q) ∷ r))) h.1 f)

branch_of : Change → Branch
branch_of (Adds r below b) = b
branch_of _ = answer

no_more : (rest : List Note) (e : Entry) (s below : List Entry) (r : ℕ) (b : Branch) → Begun rest (e ∷ s) → printed_of rest ≡ [] → Moves p e (Adds r below b) →
    BelowRoom p names b 12799 → ⊥
unfolding branch_of
no_more rest e s below r b (inl h) n m f =
    let z = calls (Adds r below b) (moved e (Run (first_branch q)) (Adds r below b) (top_is e (Run (first_branch q)) s [] h.1).0 m) in cc
no_more rest e s below r b (inr (inl h)) n m f =
    let z = tries (Adds r below b) (moved e (Try behind 0 [] 0) (Adds r below b) (top_is e (Try behind 0 [] 0) s [] h.1).0 m) in
    answer_none (subst (λ b. BelowRoom p names b 12799) (ap branch_of z) f)
no_more rest e s below r b (inr (inr (inl h))) n m f =
    let z : Adds r below b ≡ Answered answer = moved e (Run answer) (Adds r below b) (top_is e (Run answer) s (Try behind 0 [] 1 ∷ []) h.1).0 m in cc
no_more rest e s below r b (inr (inr (inr h))) n m f = let z : answer ∷ printed_of h.0 ≡ [] = sym (ap printed_of h.1) ∙ n in cc

-- ---- the stop alone

abbrev alone : List Text
alone = codes "stopped: nodes" ∷ []

no_front : (xs : List Text) (x : Text) → alone ≡ xs ++ x ∷ [] → xs ≡ []
no_front [] x e = refl
no_front (y ∷ []) x e = absurd (cc)
no_front (y ∷ z ∷ ys) x e = absurd (cc)

none_printed : (bs : List Branch) (xs : List Text) → xs ≡ [] → AreLines p names bs xs → bs ≡ []
none_printed bs xs e no_lines = refl
none_printed bs xs e (more_lines l r) = absurd (cc)

none_taken : (k : ℕ) (bs : List Branch) → k ≤ length bs → take k bs ≡ [] → k ≡ 0
none_taken zero bs l e = refl
none_taken (suc k) [] l e = absurd (omega arith)
none_taken (suc k) (b ∷ bs) l e = absurd (cc)

is_nodes : List Text → Bool
is_nodes [] = false
is_nodes (x ∷ xs) = bytes_eq x (codes "stopped: nodes")

no_end : (end : End) → alone ≡ end_text end [] ∷ [] → ⊥
unfolding is_nodes
no_end Whole e = let z : true ≡ false = ap is_nodes e in cc
no_end (Stopped Resolutions) e = let z : true ≡ false = ap is_nodes e in cc
no_end (Stopped Variables) e = let z : true ≡ false = ap is_nodes e in cc
no_end (Stopped Equations) e = let z : true ≡ false = ap is_nodes e in cc

so_far : (ns : List Note) (u : ℕ) (t : List Entry) (s : SoFar p q 2 ns u t) → Begun s.rest t
so_far ns u t s = from_first (Run (first_branch q) ∷ []) t 0 u s.rest refl s.goes

refuse : (lines : List Text) (stop : Bool) → lines ≡ alone → QuerySays p q names 2 (Only 12799) lines stop → ⊥
refuse lines stop a (all ns end xs pl ls l s) =
    let n : xs ≡ [] = no_front xs (end_text end xs) (sym a ∙ l) in
    no_end end (sym a ∙ l ∙ ap (λ ys. ys ++ end_text end ys ∷ []) n)
refuse lines _ a (few ns u t k xs so le ls f l) =
    let n : xs ≡ [] = no_front xs (codes "stopped: nodes") (sym a ∙ l) in
    let z : k ≡ 0 = none_taken k (printed_of ns) le (none_printed (take k (printed_of ns)) xs n ls) in
    no_stretch so.rest t (so_far ns u t so) (subst (λ l. Few (stretch_after 0 l)) so.is (subst (λ k. Few (stretch_after k ns)) z f))
refuse lines _ a (few_adding ns u e s r below b xs so m st ls f l) =
    let n : xs ≡ [] = no_front xs (codes "stopped: nodes") (sym a ∙ l) in
    no_more so.rest e s below r b (so_far ns u (e ∷ s) so) (sym (ap printed_of so.is) ∙ none_printed (printed_of ns) xs n ls) m f

pub not_without_line : QuerySays p q names 2 (Only 12799) (codes "stopped: nodes" ∷ []) true → ⊥
not_without_line s = refuse alone true refl s
