-- All leaves, one after another.
use Rattle.std.proofs.Common.{◌≡◌, ℕ, zero, suc, ◌+◌, ◌*◌, ◌-◌, ◌<◌, ◌≤◌, ◌^◌, List, [], ◌∷◌, ◌++◌, length, drop, take, get_or, refl, sym, ap, ap₂, ◌∙◌, subst, arith, length-append, length-drop}
use Rattle.std.proofs.Math.Nat.{mul-le-mul_left, mul-le-mul_right}
use Rattle.std.proofs.lemmas.List.{take_all}
use Rattle.std.proofs.lemmas.Nat.{pow_pos}
use Rattle.cb_model.specs.Bits.{numbers_from}
use Rattle.cb_dd.specs.declared.Triple.{Triple}
use Rattle.cb_dd.specs.declared.Node.{Node}
use Rattle.cb_dd.specs.Diagram.{Store, IsNode, function_of}
use Rattle.cb_ops.specs.Ops.{Grows, DependsOn}
use Rattle.cb_ops.specs.Support.{IsListed}
use Rattle.cb_boole.specs.Elimination.{Function, DependsOnly}
use Rattle.cb_boole.proofs.Bounds.{four_next}
use Rattle.cb_solution.proofs.Solved.{listed-here, listed-there, only-from, only-into}
use Rattle.cb_boole.specs.Parametric.{parametric}
use Rattle.cb_boole.specs.Stages.{IsStage, misses, put_in}
use Rattle.cb_boole.proofs.Stages.{leaf_by_leaf, begins}
use Rattle.cb_project.specs.Leaves.{functions_of, AllNodes, AllBelow, AllDepend, IsStep, StepRoom, ParametricRoom}
use Rattle.cb_project.proofs.Levels.{listed-left, listed-right}
use Rattle.cb_project.proofs.Nodes.{functions-grown, functions-more}

pub length-functions : (ts : List Triple) (ns : List Node) → length (functions_of ts ns) ≡ length ns
length-functions ts [] = refl
length-functions ts (n ∷ ns) = ap suc (length-functions ts ns)

pub stage-first : (c first : ℕ) (ts : List Triple) (values : List Node) → c ≤ first → AllBelow first (functions_of ts values) →
    IsStage c first (functions_of ts values) [] (functions_of ts values)
stage-first c first ts values room below = begins c first (functions_of ts values) room below

-- the next leaf depends on levels below its parameter alone
pub stage-below : (c first : ℕ) (s t : Store) (values nodes left : List Node) (i : ℕ) (d : Node) → length nodes ≡ i → 0 < length left →
    IsStage c first (functions_of s.triples values) (functions_of t.triples nodes) (functions_of t.triples left) → DependsOnly (λ k. k < first + i) (function_of t.triples (get_or left 0 d).0)
stage-below c first s t values nodes [] i d e some stage = absurd (omega arith)
stage-below c first s t values nodes (f ∷ later) i d e some stage =
    subst (λ n. DependsOnly (λ k. k < first + n) (function_of t.triples f.0)) (length-functions t.triples nodes ∙ e) stage.below.0

pub stage-node : (ts : List Triple) (left : List Node) (d : Node) → 0 < length left → AllNodes ts left → IsNode ts (get_or left 0 d).0
stage-node ts [] d some w = absurd (omega arith)
stage-node ts (f ∷ later) d some w = w.0

pub stage-later : (ts : List Triple) (left : List Node) → AllNodes ts left → AllNodes ts (drop 1 left)
stage-later ts [] w = tt
stage-later ts (f ∷ later) w = w.1

-- one leaf more
pub stage-next : (c first : ℕ) (s t u : Store) (tu : Grows t u) (values nodes left next : List Node) (node d : Node) (i n : ℕ) → length nodes ≡ i → n ≡ i → 0 < length left →
    AllNodes t.triples nodes → IsStage c first (functions_of s.triples values) (functions_of t.triples nodes) (functions_of t.triples left) →
    IsStep t.triples u.triples c first n (get_or left 0 d).0 (drop 1 left) node.0 next →
    IsStage c first (functions_of s.triples values) (functions_of u.triples (nodes ++ node ∷ [])) (functions_of u.triples next)
stage-next c first s t u tu values nodes [] next node d i n e o some wn stage step = absurd (omega arith)
stage-next c first s t u tu values nodes (f ∷ later) next node d i n e o some wn stage step =
    let same : n ≡ length (functions_of t.triples nodes) = o ∙ sym e ∙ sym (length-functions t.triples nodes) in
    let now : IsStep t.triples u.triples c first (length (functions_of t.triples nodes)) f.0 later node.0 next =
    subst (λ m. IsStep t.triples u.triples c first m f.0 later node.0 next) same step in
    let on = leaf_by_leaf c first (functions_of s.triples values) (functions_of t.triples nodes) (functions_of t.triples later) (function_of t.triples f.0) now.levels stage now.are in
    subst (λ l. IsStage c first (functions_of s.triples values) l (functions_of u.triples next))
    (sym (functions-more u.triples nodes node ∙ ap₂ (λ (l : List Function) (g : Function). l ++ g ∷ []) (functions-grown t u tu nodes wn) now.function))
    (subst (λ l. IsStage c first (functions_of s.triples values)
    (functions_of t.triples nodes ++ parametric now.levels (first + length (functions_of t.triples nodes)) (function_of t.triples f.0) ∷ []) l)
    (sym now.functions) on)

-- ---- levels and nodes

abbrev pub all_levels : List ℕ → ℕ → ℕ → List ℕ
all_levels ls first m = ls ++ numbers_from first m

length-numbers : (first m : ℕ) → length (numbers_from first m) ≡ m
length-numbers first zero = refl
length-numbers first (suc m) = ap suc (length-numbers (suc first) m)

pub listed-number : (first m i : ℕ) → i < m → IsListed (numbers_from first m) (first + i)
listed-number first zero i lt = absurd (omega arith)
listed-number first (suc m) zero lt = subst (IsListed (first ∷ numbers_from (suc first) m)) (let e : first ≡ first + 0 = omega arith in e) (listed-here first (numbers_from (suc first) m))
listed-number first (suc m) (suc i) lt =
    listed-there first (first + suc i) (numbers_from (suc first) m)
    (subst (IsListed (numbers_from (suc first) m)) (let e : suc first + i ≡ first + suc i = omega arith in e) (listed-number (suc first) m i (omega arith)))

depends-more : (ts : List Triple) (n : ℕ) (ls more : List ℕ) → DependsOn ts n ls → DependsOn ts n (ls ++ more)
depends-more ts n ls more d = only-into ts n (ls ++ more) (function_of ts n) (record { at = λ p. refl }) (λ p q h. only-from ts n ls d p q (λ k there. h k (listed-left ls more k there)))

pub depend-all : (ts : List Triple) (ns : List Node) (ls more : List ℕ) → AllDepend ts ns ls → AllDepend ts ns (ls ++ more)
depend-all ts [] ls more d = tt
depend-all ts (n ∷ ns) ls more d = (depends-more ts n.0 ls more d.0, depend-all ts ns ls more d.1)

-- what so many leaves add at most
abbrev pub leaf_bound : List ℕ → ℕ → ℕ
leaf_bound ls m = (12 * (length ls + m + 1) + 3 * m) * (2 ^ (length ls + m) * 2 ^ (length ls + m))

pub length-all : (ls : List ℕ) (first m : ℕ) → length (all_levels ls first m) ≡ length ls + m
length-all ls first m = length-append ls (numbers_from first m) ∙ ap (λ k. length ls + k) (length-numbers first m)

pub within-next : (t u : Store) (c first n i m : ℕ) (left next : List Node) (node d : Node) (ls : List ℕ) → 0 < length left → i < m → n ≡ i →
    AllDepend t.triples left (all_levels ls first m) → IsStep t.triples u.triples c first n (get_or left 0 d).0 (drop 1 left) node.0 next → AllDepend u.triples next (all_levels ls first m)
within-next t u c first n i m [] next node d ls some lt o dep step = absurd (omega arith)
within-next t u c first n i m (f ∷ later) next node d ls some lt o dep step =
    step.within (all_levels ls first m) dep.0 dep.1
    (subst (IsListed (all_levels ls first m)) (ap (λ j. first + j) (sym o)) (listed-right ls (numbers_from first m) (first + i) (listed-number first m i lt)))

pub room-next : (s t u : Store) (first level i m : ℕ) (left : List Node) (d : Node) (ls : List ℕ) → 0 < length left → length left ≤ m → i < m → first + i ≡ level →
    AllDepend t.triples left (all_levels ls first m) → length t.triples ≤ length s.triples + i * leaf_bound ls m → StepRoom (get_or left 0 d).0 level (drop 1 left) t u →
    length u.triples ≤ length s.triples + (i + 1) * leaf_bound ls m
room-next s t u first level i m [] d ls some few lt e dep before room = absurd (omega arith)
room-next s t u first level i m (f ∷ later) d ls some few lt e dep before room =
    let there : IsListed (all_levels ls first m) level = subst (IsListed (all_levels ls first m)) e (listed-right ls (numbers_from first m) (first + i) (listed-number first m i lt)) in
    let r : length u.triples ≤ length t.triples + (12 * (length ls + m + 1) + 3 * length later) * (2 ^ (length ls + m) * 2 ^ (length ls + m)) =
    subst (λ w. length u.triples ≤ length t.triples + (12 * (w + 1) + 3 * length later) * (2 ^ w * 2 ^ w)) (length-all ls first m) (room.most (all_levels ls first m) dep.0 dep.1 there) in
    let b : (12 * (length ls + m + 1) + 3 * length later) * (2 ^ (length ls + m) * 2 ^ (length ls + m)) ≤ leaf_bound ls m =
    mul-le-mul_right (2 ^ (length ls + m) * 2 ^ (length ls + m)) (let h : 12 * (length ls + m + 1) + 3 * length later ≤ 12 * (length ls + m + 1) + 3 * m = omega arith in h) in
    let g : (i + 1) * leaf_bound ls m ≡ i * leaf_bound ls m + leaf_bound ls m = omega arith in
    omega (arith, r, b, g, before)

total-sum : (m i w q : ℕ) → i ≤ m → m ≤ w → 0 < q → i * ((12 * (w + 1) + 3 * m) * q) < 64 * (m + 1) * (w + 1) * (4 * q)
total-sum m i w q le few pos =
    let a : (12 * (w + 1) + 3 * m) * q ≤ (15 * (w + 1)) * q = mul-le-mul_right q (let h : 12 * (w + 1) + 3 * m ≤ 15 * (w + 1) = omega arith in h) in
    let b : i * ((12 * (w + 1) + 3 * m) * q) ≤ i * ((15 * (w + 1)) * q) = mul-le-mul_left i a in
    let c : i * ((15 * (w + 1)) * q) ≤ m * ((15 * (w + 1)) * q) = mul-le-mul_right ((15 * (w + 1)) * q) le in
    omega arith

-- so many leaves are within the bound
pub room-total : (s u : Store) (i m : ℕ) (ls : List ℕ) → i ≤ m → length u.triples ≤ length s.triples + i * leaf_bound ls m →
    length u.triples < length s.triples + 64 * (m + 1) * (length ls + m + 1) * 4 ^ (length ls + m + 1)
room-total s u i m ls le h =
    let w : ℕ = length ls + m in
    let e : 4 ^ (length ls + m + 1) ≡ 4 * (2 ^ (length ls + m) * 2 ^ (length ls + m)) = four_next (length ls + m) in
    let p : 0 < 2 ^ (length ls + m) = pow_pos (length ls + m) in
    let o : 2 ^ (length ls + m) * 1 ≤ 2 ^ (length ls + m) * 2 ^ (length ls + m) = mul-le-mul_left (2 ^ (length ls + m)) p in
    let pos : 0 < 2 ^ (length ls + m) * 2 ^ (length ls + m) = omega arith in
    let b = total-sum m i (length ls + m) (2 ^ (length ls + m) * 2 ^ (length ls + m)) le (omega arith) pos in
    let g : length u.triples < length s.triples + 64 * (m + 1) * (length ls + m + 1) * (4 * (2 ^ (length ls + m) * 2 ^ (length ls + m))) = omega (arith, b, h) in
    subst (λ x. length u.triples < length s.triples + 64 * (m + 1) * (length ls + m + 1) * x) (sym e) g

pub whole-room : (s u : Store) (values : List Node) (i : ℕ) → i ≤ length values →
    ((ls : List ℕ) → AllDepend s.triples values ls → length u.triples ≤ length s.triples + i * leaf_bound ls (length values)) → ParametricRoom values s u
whole-room s u values i le h = record { most = λ ls d. room-total s u i (length values) ls le (h ls d) }

-- ---- as the code has them: the first of the leaves, and those that follow

taken : (l left : List Node) → l ≡ left → take (length l - 1) (drop 1 l) ≡ drop 1 left
taken l left e = subst (λ (m : List Node). take (length l - 1) (drop 1 l) ≡ drop 1 m) e (take_all (length l - 1) (drop 1 l) (omega (arith, length-drop 1 l)))

pub step-at : (ts us : List Triple) (c first n : ℕ) (f : Node) (l left : List Node) (node : ℕ) (next : List Node) → f ≡ get_or left 0 f → l ≡ left →
    IsStep ts us c first n f.0 (take (length l - 1) (drop 1 l)) node next → IsStep ts us c first n (get_or left 0 f).0 (drop 1 left) node next
step-at ts us c first n f l left node next fe le step =
    subst (λ (g : Node). IsStep ts us c first n g.0 (drop 1 left) node next) fe (subst (λ (m : List Node). IsStep ts us c first n f.0 m node next) (taken l left le) step)

pub room-at : (s t : Store) (f : Node) (level : ℕ) (l left : List Node) → f ≡ get_or left 0 f → l ≡ left →
    StepRoom f.0 level (take (length l - 1) (drop 1 l)) s t → StepRoom (get_or left 0 f).0 level (drop 1 left) s t
room-at s t f level l left fe le room =
    subst (λ (g : Node). StepRoom g.0 level (drop 1 left) s t) fe (subst (λ (m : List Node). StepRoom f.0 level m s t) (taken l left le) room)

length-put : (ls : List ℕ) (e : Function) (gs : List Function) → length (put_in ls e gs) ≡ length gs
length-put ls e [] = refl
length-put ls e (g ∷ gs) = ap suc (length-put ls e gs)

pub length-next : (ts us : List Triple) (c first n f : ℕ) (later : List Node) (node : ℕ) (next : List Node) → IsStep ts us c first n f later node next → length next ≡ length later
length-next ts us c first n f later node next step =
    sym (length-functions us next) ∙ ap length step.functions ∙
    length-put step.levels (misses step.levels (first + n) (function_of ts f)) (functions_of ts later) ∙ length-functions ts later

pub length-on : (left next values : List Node) (i : ℕ) → 0 < length left → length left + i ≡ length values → length next ≡ length (drop 1 left) → length next + (i + 1) ≡ length values
length-on left next values i some all e = omega (arith, length-drop 1 left)
