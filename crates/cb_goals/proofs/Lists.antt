-- Lists of goals that share their tails.
use Rattle.std.proofs.Common.{◌≡◌, ℕ, zero, suc, ◌+◌, ◌-◌, ◌<◌, ◌≤◌, inl, inr, List, [], ◌∷◌, ◌++◌, length, get_or, take, drop, min, Option, Some, None, refl, sym, ap, subst, ◌∙◌, arith, append_assoc, length-append}
use Rattle.std.specs.Prelude.{slice_get}
use Rattle.std.proofs.lemmas.List.{append-nil, length-take, take-append-drop}
use Rattle.std.proofs.lemmas.Option.{slice_get-get_or}
use Rattle.std.proofs.lemmas.Bool.{cases_lt}
use Rattle.cb_goals.specs.declared.Link.{Link}
use Rattle.cb_goals.specs.declared.Pending.{Pending}
use Rattle.cb_goals.specs.declared.Pending.TheVariants.{Body}
use Rattle.cb_goals.specs.Chain.{AreLinks, KeepsLists, goals_at, lists_from, body_goals}

get-front : (xs ys : List (List Pending)) (n : ℕ) → n < length xs → get_or (xs ++ ys) n [] ≡ get_or xs n []
get-front [] ys n l = absurd (omega arith)
get-front (x ∷ xs) ys zero l = refl
get-front (x ∷ xs) ys (suc n) l = get-front xs ys n (omega arith)

get-last : (xs : List (List Pending)) (y : List Pending) → get_or (xs ++ y ∷ []) (length xs) [] ≡ y
get-last [] y = refl
get-last (x ∷ xs) y = get-last xs y

lists-length : (ls : List (List Pending)) (cs : List Link) → length (lists_from ls cs) ≡ length ls + length cs
unfolding lists_from
lists-length ls [] = omega arith
lists-length ls (c ∷ cs) = lists-length (ls ++ (c.goal ∷ get_or ls c.rest []) ∷ []) cs ∙ let e = length-append ls ((c.goal ∷ get_or ls c.rest []) ∷ []) in omega arith

lists-append : (ls : List (List Pending)) (cs ds : List Link) → lists_from ls (cs ++ ds) ≡ lists_from (lists_from ls cs) ds
unfolding lists_from
lists-append ls [] ds = refl
lists-append ls (c ∷ cs) ds = lists-append (ls ++ (c.goal ∷ get_or ls c.rest []) ∷ []) cs ds

lists-front : (ls : List (List Pending)) (ds : List Link) (n : ℕ) → n < length ls → get_or (lists_from ls ds) n [] ≡ get_or ls n []
unfolding lists_from
lists-front ls [] n l = refl
lists-front ls (c ∷ cs) n l =
    lists-front (ls ++ (c.goal ∷ get_or ls c.rest []) ∷ []) cs n (let e = length-append ls ((c.goal ∷ get_or ls c.rest []) ∷ []) in omega arith)
    ∙ get-front ls ((c.goal ∷ get_or ls c.rest []) ∷ []) n l

pub goals-empty : (cs : List Link) → goals_at cs 0 ≡ []
unfolding goals_at
goals-empty cs = lists-front ([] ∷ []) cs 0 (omega arith)

pub goals-stay : (cs more : List Link) (n : ℕ) → n ≤ length cs → goals_at (cs ++ more) n ≡ goals_at cs n
unfolding goals_at
goals-stay cs more n l = ap (λ (ls : List (List Pending)). get_or ls n []) (lists-append ([] ∷ []) cs more) ∙ lists-front (lists_from ([] ∷ []) cs) more n (let e = lists-length ([] ∷ []) cs in omega arith)

pub goals-last : (cs : List Link) (c : Link) → goals_at (cs ++ c ∷ []) (length cs + 1) ≡ c.goal ∷ goals_at cs c.rest
unfolding goals_at lists_from
goals-last cs c =
    let e : length (lists_from ([] ∷ []) cs) ≡ length cs + 1 = lists-length ([] ∷ []) cs ∙ omega arith in
    ap (λ (ls : List (List Pending)). get_or ls (length cs + 1) []) (lists-append ([] ∷ []) cs (c ∷ []))
    ∙ ap (λ (n : ℕ). get_or (lists_from ([] ∷ []) cs ++ (c.goal ∷ get_or (lists_from ([] ∷ []) cs) c.rest []) ∷ []) n []) (sym e)
    ∙ get-last (lists_from ([] ∷ []) cs) (c.goal ∷ get_or (lists_from ([] ∷ []) cs) c.rest [])

pub keeps-self : (cs : List Link) → KeepsLists cs cs
keeps-self cs = record { more = []; links = sym (append-nil cs); same = λ n l. refl }

pub keeps-more : (cs : List Link) (c : Link) → KeepsLists cs (cs ++ c ∷ [])
keeps-more cs c = record { more = c ∷ []; links = refl; same = λ n l. goals-stay cs (c ∷ []) n l }

pub keeps-then : (a b c : List Link) → KeepsLists a b → KeepsLists b c → KeepsLists a c
keeps-then a b c h k = record {
  more = h.more ++ k.more;
  links = k.links ∙ ap (λ (x : List Link). x ++ k.more) h.links ∙ append_assoc a h.more k.more;
  same = λ n l. k.same n (let e = ap length h.links in let f = length-append a h.more in omega arith) ∙ h.same n l;
}

get-append : (cs ds : List Link) (k : ℕ) → k < length cs → slice_get (cs ++ ds) k ≡ slice_get cs k
get-append [] ds k l = absurd (omega arith)
get-append (c ∷ cs) ds zero l = refl
get-append (c ∷ cs) ds (suc k) l = get-append cs ds k (omega arith)

at-last : (cs : List Link) (c d : Link) (k : ℕ) → slice_get (cs ++ c ∷ []) k ≡ Some d → length cs ≤ k → (c ≡ d) × (k ≡ length cs)
at-last [] c d zero e l = let h : c ≡ d = cc in (h, refl)
at-last [] c d (suc k) e l = absurd (cc)
at-last (x ∷ cs) c d zero e l = absurd (omega arith)
at-last (x ∷ cs) c d (suc k) e l = let r = at-last cs c d k e (omega arith) in (r.0, ap (λ (n : ℕ). suc n) r.1)

last-one : (cs : List Link) (c d : Link) (k : ℕ) → slice_get (cs ++ c ∷ []) k ≡ Some d → length cs ≤ k → c.rest ≤ length cs → d.rest ≤ k
last-one cs c d k e l r = let h = at-last cs c d k e l in subst (λ (x : Link). x.rest ≤ k) h.0 (omega arith)

get-take : (cs : List Link) (n k : ℕ) (d : Link) → slice_get (take n cs) k ≡ Some d → slice_get cs k ≡ Some d
get-take [] zero k d e = absurd (cc)
get-take [] (suc n) k d e = absurd (cc)
get-take (c ∷ cs) zero k d e = absurd (cc)
get-take (c ∷ cs) (suc n) zero d e = e
get-take (c ∷ cs) (suc n) (suc k) d e = get-take cs n k d e

-- a list about one of its cells
record Split (cs : List Link) (k : ℕ) (c : Link) : Type 0 where
  front : List Link
  back : List Link
  is : cs ≡ (front ++ c ∷ []) ++ back
  number : length front ≡ k

split : (cs : List Link) (k : ℕ) (c : Link) → slice_get cs k ≡ Some c → Split cs k c
split [] k c e = absurd (cc)
split (d ∷ cs) zero c e = let h : d ≡ c = cc in record { front = []; back = cs; is = ap (λ (x : Link). x ∷ cs) h; number = refl }
split (d ∷ cs) (suc k) c e = let r = split cs k c e in record { front = d ∷ r.front; back = r.back; is = ap (λ (x : List Link). d ∷ x) r.is; number = ap (λ (n : ℕ). suc n) r.number }

-- the cell of a number
pub goals-cell : (cs : List Link) (k : ℕ) (c : Link) → slice_get cs k ≡ Some c → c.rest ≤ k → goals_at cs (k + 1) ≡ c.goal ∷ goals_at cs c.rest
goals-cell cs k c e l =
    let r = split cs k c e in
    let n = length-append r.front (c ∷ []) in
    let m = r.number in
    let whole : goals_at cs (k + 1) ≡ goals_at (r.front ++ c ∷ []) (k + 1) = ap (λ (x : List Link). goals_at x (k + 1)) r.is ∙ goals-stay (r.front ++ c ∷ []) r.back (k + 1) (omega arith) in
    let at : goals_at (r.front ++ c ∷ []) (k + 1) ≡ c.goal ∷ goals_at r.front c.rest = ap (λ (x : ℕ). goals_at (r.front ++ c ∷ []) (x + 1)) (sym m) ∙ goals-last r.front c in
    let rest : goals_at cs c.rest ≡ goals_at r.front c.rest =
    ap (λ (x : List Link). goals_at x c.rest) (r.is ∙ append_assoc r.front (c ∷ []) r.back) ∙ goals-stay r.front ((c ∷ []) ++ r.back) c.rest (omega arith) in
    whole ∙ at ∙ ap (λ (gs : List Pending). c.goal ∷ gs) (sym rest)

pub goals-first : (cs : List Link) (list : ℕ) (c : Link) → AreLinks cs → (list ≡ 0 → ⊥) → list ≤ length cs → c ≡ get_or cs (list - 1) c → (goals_at cs list ≡ c.goal ∷ goals_at cs c.rest) × (c.rest < list)
goals-first cs list c h nz l e =
    let lt : list - 1 < length cs = omega arith in
    let g : slice_get cs (list - 1) ≡ Some c = slice_get-get_or cs (list - 1) c lt ∙ ap (λ (x : Link). Some x) (sym e) in
    let r = h (list - 1) c g in
    let n : (list - 1) + 1 ≡ list = omega arith in
    (ap (λ (x : ℕ). goals_at cs x) (sym n) ∙ goals-cell cs (list - 1) c g r, omega arith)

-- ---- cells that are added and taken away

pub cells-more : (cs : List Link) (c : Link) → AreLinks cs → c.rest ≤ length cs → AreLinks (cs ++ c ∷ [])
cells-more cs c h l = λ k d e. more cs c h l k d e
  where
    more : (cs : List Link) (c : Link) → AreLinks cs → c.rest ≤ length cs → (k : ℕ) (d : Link) → slice_get (cs ++ c ∷ []) k ≡ Some d → d.rest ≤ k
    more cs c h l k d e = elim (cases_lt k (length cs)) [
      | inl less ↦ h k d (sym (get-append cs (c ∷ []) k less) ∙ e)
      | inr not_less ↦ last-one cs c d k e not_less l
    ]

pub cells-fewer : (cs : List Link) (n : ℕ) → AreLinks cs → AreLinks (take n cs)
cells-fewer cs n h = λ k d e. h k d (get-take cs n k d e)

-- ---- bodies

-- one place before
pub body-step : (clause frame place count : ℕ) → 0 < place → place ≤ count → Body clause (place - 1) frame ∷ body_goals clause frame place (count - place) ≡ body_goals clause frame (place - 1) (count - (place - 1))
body-step clause frame place count h l =
    let n : suc (count - place) ≡ count - (place - 1) = omega arith in
    let m : suc (place - 1) ≡ place = omega arith in
    ap (λ (x : ℕ). Body clause (place - 1) frame ∷ body_goals clause frame x (count - place)) (sym m) ∙ ap (λ (x : ℕ). body_goals clause frame (place - 1) x) n

-- how far the pushing of a body has come
pub record IsPushing (old now : List Link) (clause frame count rest list place : ℕ) : Type 0 where
  pub there : list ≤ length now
  pub number : length now + place ≡ length old + count
  pub goals : goals_at now list ≡ body_goals clause frame place (count - place) ++ goals_at old rest
  pub keeps : KeepsLists old now

pub pushing-start : (cs : List Link) (clause frame count rest : ℕ) → rest ≤ length cs → IsPushing cs cs clause frame count rest rest count
pushing-start cs clause frame count rest l =
    let z : count - count ≡ 0 = omega arith in
    record { there = l; number = refl; goals = ap (λ (n : ℕ). body_goals clause frame count n ++ goals_at cs rest) (sym z); keeps = keeps-self cs }

pub pushing-more : (old now new : List Link) (clause frame count rest list place r : ℕ) → IsPushing old now clause frame count rest list place → 0 < place → place ≤ count → r ≤ length new → length new ≡ length now + 1 →
    goals_at new r ≡ Body clause (place - 1) frame ∷ goals_at now list → KeepsLists now new → IsPushing old new clause frame count rest r (place - 1)
pushing-more old now new clause frame count rest list place r h z l t n g k = record {
  there = t;
  number = let m = h.number in omega arith;
  goals = g ∙ ap (λ (x : List Pending). Body clause (place - 1) frame ∷ x) h.goals ∙ ap (λ (x : List Pending). x ++ goals_at old rest) (body-step clause frame place count z l);
  keeps = keeps-then old now new h.keeps k;
}

pub pushing-whole : (old now : List Link) (clause frame count rest list place : ℕ) → IsPushing old now clause frame count rest list place → place ≤ 0 → goals_at now list ≡ body_goals clause frame 0 count ++ goals_at old rest
pushing-whole old now clause frame count rest list place h z =
    let e : place ≡ 0 = omega arith in
    let n : count - place ≡ count = omega arith in
    h.goals ∙ ap (λ (x : ℕ). body_goals clause frame x (count - place) ++ goals_at old rest) e ∙ ap (λ (x : ℕ). body_goals clause frame 0 x ++ goals_at old rest) n

-- what a push makes
pub pushed-is : (old items new : List Link) (c : Link) (n : ℕ) → items ≡ old → new ≡ items ++ c ∷ [] → n ≡ length new → (n ≤ length new) × (goals_at new n ≡ c.goal ∷ goals_at old c.rest)
pushed-is old items new c n io e h =
    let f : new ≡ old ++ c ∷ [] = e ∙ ap (λ (x : List Link). x ++ c ∷ []) io in
    let l : n ≡ length old + 1 = let a = ap length f in let b = length-append old (c ∷ []) in omega arith in
    (omega arith, ap (λ (x : ℕ). goals_at new x) l ∙ ap (λ (x : List Link). goals_at x (length old + 1)) f ∙ goals-last old c)

pub pushed-keeps : (old items new : List Link) (c : Link) → items ≡ old → new ≡ items ++ c ∷ [] → KeepsLists old new
pushed-keeps old items new c io e = let f : new ≡ old ++ c ∷ [] = e ∙ ap (λ (x : List Link). x ++ c ∷ []) io in subst (λ (x : List Link). KeepsLists old x) (sym f) (keeps-more old c)

-- a list made before the cut stays
pub goals-cut : (cs : List Link) (to n : ℕ) → to ≤ length cs → n ≤ to → goals_at (take to cs) n ≡ goals_at cs n
goals-cut cs to n h l =
    sym (goals-stay (take to cs) (drop to cs) n (let e : length (take to cs) ≡ min to (length cs) = length-take to cs in omega arith)) ∙ ap (λ ds. goals_at ds n) (take-append-drop to cs)
