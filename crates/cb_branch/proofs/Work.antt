-- What is left to do, in numbers.
use Rattle.std.proofs.Common.{◌≡◌, ℕ, ◌+◌, ◌*◌, ◌<◌, ◌≤◌, List, [], ◌∷◌, ◌++◌, length, map, ap, ◌∙◌, arith}
use Rattle.std.proofs.lemmas.Nat.{mul-le}
use Rattle.cb_model.specs.declared.Goal.{Goal}
use Rattle.cb_model.specs.Bits.{Parts, none, yes_here, no_here}
use Rattle.cb_model.specs.Program.{Program}
use Rattle.cb_model.specs.Derivation.{Branch, Ready, Waiting, Woken, waits}
use Rattle.cb_goals.specs.declared.Pending.{Pending}
use Rattle.cb_goals.specs.Chain.{goals_at}
use Rattle.cb_wake.specs.Waits as wake
use Rattle.cb_items.proofs.Lists.{length-append}
use Rattle.cb_branch.specs.Running.{AreGoals, AreWaiting, IsBranch, Seen, behind, work_of}

-- a goal less, whether it waits or not
pub work-falls : (t g t' g' : ℕ) → t' + 1 ≤ t → g' ≤ t' → t' * (t' + 2) + g' < t * (t + 2) + g
work-falls t g t' g' h k =
    let m : (t' + 1) * ((t' + 1) + 2) ≤ t * (t + 2) = mul-le (t' + 1) ((t' + 1) + 2) t (t + 2) h (omega arith) in
    let e : (t' + 1) * ((t' + 1) + 2) ≡ t' * (t' + 2) + (t' + t' + 3) = grind arith in
    omega arith

-- the same number, one of which waits
work-waits : (t g t' g' : ℕ) → t' ≡ t → g' + 1 ≤ g → t' * (t' + 2) + g' < t * (t + 2) + g
work-waits t g t' g' e h = let m = ap (λ (n : ℕ). n * (n + 2)) e in omega arith

goals-number : (s : Seen) (xs : List Pending) (gs : List Goal) → AreGoals s xs gs → length xs ≡ length gs
goals-number s [] [] h = omega arith
goals-number s (x ∷ xs) (g ∷ gs) h = let e = goals-number s xs gs h.1 in omega arith
goals-number s [] (g ∷ gs) h = absurd h
goals-number s (x ∷ xs) [] h = absurd h

waiting-number : (s : Seen) (ks : List ℕ) (vs : List Waiting) → AreWaiting s ks vs → length ks ≡ length vs
waiting-number s [] [] h = omega arith
waiting-number s (k ∷ ks) (v ∷ vs) h = let e = waiting-number s ks vs h.1 in omega arith
waiting-number s [] (v ∷ vs) h = absurd h
waiting-number s (k ∷ ks) [] h = absurd h

-- so many goals and waiting goals
abbrev work_for : ℕ → ℕ → ℕ
work_for g w = (g + w) * ((g + w) + 2) + g

work-is : (s : Seen) (b : Branch) → IsBranch s b → work_of s ≡ work_for (length b.goals) (length b.waiting)
unfolding IsBranch work_of
work-is s b h =
    ap (λ (n : ℕ). work_for n (length (wake.waiting s.waits))) (goals-number s (goals_at s.links s.top) b.goals h.goals)
    ∙ ap (λ (n : ℕ). work_for (length b.goals) n) (waiting-number s (wake.waiting s.waits) b.waiting h.waiting)

-- the same branch has the same work
pub same-work : (s t : Seen) (b : Branch) → IsBranch s b → IsBranch t b → work_of t ≤ work_of s
same-work s t b h k = let a = work-is s b h in let c = work-is t b k in omega arith

-- a goal that waits
pub parked-work : (s t : Seen) (b : Branch) (g : Goal) (rest : List Goal) → IsBranch s b → b.goals ≡ g ∷ rest → IsBranch t (waits (behind b rest) g) → work_of t < work_of s
parked-work s t b g rest h e k =
    let a = work-is s b h in
    let c = work-is t (waits (behind b rest) g) k in
    let n = ap length e in
    let m = length-append b.waiting (record { number = b.next; goal = g } ∷ []) in
    let f = work-waits (length b.goals + length b.waiting) (length b.goals) (length rest + length (b.waiting ++ record { number = b.next; goal = g } ∷ [])) (length rest) (omega arith) (omega arith) in
    omega arith

parts-number : (P : Waiting → Type 0) (vs ready rest : List Waiting) → Parts P vs ready rest → length vs ≡ length ready + length rest
parts-number P [] [] [] none = omega arith
parts-number P [] [] (r ∷ rest) t = elim t [ ]
parts-number P [] (r ∷ ready) rest t = elim t [ ]
parts-number P (v ∷ vs) (r ∷ ready) rest (yes_here p t) = let e = parts-number P vs ready rest t in omega arith
parts-number P (v ∷ vs) ready (r ∷ rest) (no_here p t) = let e = parts-number P vs ready rest t in omega arith

map-number : (vs : List Waiting) → length (map (λ w. w.goal) vs) ≡ length vs
map-number [] = omega arith
map-number (v ∷ vs) = let e = map-number vs in omega arith

-- a goal that is taken away, and others that wake
pub woken-work : (p : Program) (s t : Seen) (b c woken : Branch) → IsBranch s b → Woken p c woken → IsBranch t woken → length c.goals + 1 ≡ length b.goals → c.waiting ≡ b.waiting → work_of t < work_of s
woken-work p s t b c woken h k i e f =
    let a = work-is s b h in
    let d = work-is t woken i in
    let g : length woken.goals ≡ length (map (λ w. w.goal) k.ready ++ c.goals) = ap (λ (x : Branch). length x.goals) k.is in
    let w : length woken.waiting ≡ length k.rest = ap (λ (x : Branch). length x.waiting) k.is in
    let m = length-append (map (λ w. w.goal) k.ready) c.goals in
    let n = map-number k.ready in
    let r = parts-number (λ w. Ready p c.items w.goal) c.waiting k.ready k.rest k.parts in
    let q = ap length f in
    let l = work-falls (length b.goals + length b.waiting) (length b.goals) (length woken.goals + length woken.waiting) (length woken.goals) (omega arith) (omega arith) in
    omega arith
