-- Beginnings of one run.
use Rattle.std.proofs.Common.{◌≡◌, ℕ, ◌+◌, ◌≤◌, ◌⊎◌, inl, inr, List, [], ◌∷◌, ◌++◌, length, refl, sym, ◌∙◌, ap, subst, arith, append_assoc, length-append}
use Rattle.std.proofs.lemmas.List.{append-nil, nil_from_length}
use Rattle.cb_model.specs.Program.{Program}
use Rattle.cb_model.specs.Derivation.{first_branch, Branch, Entry, Note, Made, Printed, Goes, here, on, Replaces, notes_of, printed_of, resolutions_of}
use Rattle.cb_laws.proofs.Determined.{moves_one, replaces_one}
use Rattle.cb_laws.specs.Laws.{NotesBegin, SameBeginning, SamePrints}

-- one goes on from the other
abbrev OneMore : List Note → List Note → Type 0
OneMore ns ms = NotesBegin ns ms ⊎ NotesBegin ms ns

join : (fs ns ms : List Note) → OneMore ns ms → OneMore (fs ++ ns) (fs ++ ms)
join fs ns ms (inl h) = inl (h.0, ap (λ l. fs ++ l) h.1 ∙ sym (append_assoc fs ns h.0))
join fs ns ms (inr h) = inr (h.0, ap (λ l. fs ++ l) h.1 ∙ sym (append_assoc fs ms h.0))

two_runs : (p : Program) (budget used u v : ℕ) (s x y : List Entry) (ns ms : List Note) → Goes p budget used s ns u x → Goes p budget used s ms v y → OneMore ns ms
two_runs p budget used u v s x y ns ms here g = inl (ms, refl)
two_runs p budget used u v (t ∷ s) x y ns ms (on c es rest m f r i g) here = inr (ns, refl)
two_runs p budget used u v (t ∷ s) x y ns ms (on c es rest m f r i g) (on d es' rest' m' f' r' i' g') =
    let same : c ≡ d = moves_one p t c d m m' in
    let entries : es ≡ es' = replaces_one p d es es' (subst (λ k. Replaces p k es) same r) r' in
    let go : Goes p budget (used + resolutions_of d) (es' ++ s) rest u x = subst (λ k. Goes p budget (used + resolutions_of k) (es' ++ s) rest u x) same (subst (λ l. Goes p budget (used + resolutions_of c) (l ++ s) rest u x) entries g) in
    let both = two_runs p budget (used + resolutions_of d) u v (es' ++ s) x y rest rest' go g' in
    let first : ns ≡ notes_of d ++ rest = i ∙ ap (λ k. notes_of k ++ rest) same in
    subst (λ (l : List Note). OneMore l ms) (sym first) (subst (λ (l : List Note). OneMore (notes_of d ++ rest) l) (sym i') (join (notes_of d) rest rest' both))

pub same_beginning : SameBeginning
same_beginning p q budget u v ns ms s t f g =
    let r = two_runs p budget 0 u v _ s t f.rest g.rest f.goes g.goes in
    let x = subst (λ (k : List Note). OneMore k (Made (first_branch q) ∷ g.rest)) (sym f.is) (join (Made (first_branch q) ∷ []) f.rest g.rest r) in
    subst (λ (k : List Note). OneMore ns k) (sym g.is) x

pub printed_append : (xs ys : List Note) → printed_of (xs ++ ys) ≡ printed_of xs ++ printed_of ys
printed_append [] ys = refl
printed_append (Made b ∷ xs) ys = printed_append xs ys
printed_append (Printed b ∷ xs) ys = ap (λ bs. b ∷ bs) (printed_append xs ys)

told : (ns ms : List Note) → OneMore ns ms → length (printed_of ns) ≤ length (printed_of ms) → (more : List Branch) × (printed_of ms ≡ printed_of ns ++ more)
told ns ms (inl h) l = (printed_of h.0, ap printed_of h.1 ∙ printed_append ns h.0)
told ns ms (inr h) l =
    let e : printed_of ns ≡ printed_of ms ++ printed_of h.0 = ap printed_of h.1 ∙ printed_append ms h.0 in
    let n : length (printed_of h.0) ≡ 0 = let a = ap length e in let b = length-append (printed_of ms) (printed_of h.0) in omega arith in
    let z : printed_of h.0 ≡ [] = nil_from_length (printed_of h.0) n in
    ([], sym (append-nil (printed_of ms)) ∙ ap (λ (l : List Branch). printed_of ms ++ l) (sym z) ∙ sym e ∙ sym (append-nil (printed_of ns)))

pub same_prints : SamePrints
same_prints p q budget u v ns ms s t f g l = told ns ms (same_beginning p q budget u v ns ms s t f g) l
