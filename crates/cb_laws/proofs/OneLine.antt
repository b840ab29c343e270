-- Since the shape is one, so are the bound and the line of a branch.
use Rattle.std.proofs.Common.{◌≡◌, ℕ, ◌+◌, ◌*◌, ◌^◌, ◌<◌, ◌≤◌, Bool, true, false, List, [], ◌∷◌, ◌++◌, map, length, refl, sym, ◌∙◌, ap, subst, inl, inr, arith}
use Rattle.std.proofs.Math.Nat.{pow-le-pow_left, pow-le-pow_right, mul-le-mul_left, le-max_right, max-le}
use Rattle.std.proofs.lemmas.Nat.{mul-le}
use Rattle.std.specs.Prelude.{max, flat_map}
use Rattle.cb_model.specs.Bits.{Bits}
use Rattle.cb_model.specs.Program.{Program, bools}
use Rattle.cb_model.specs.Derivation.{Branch}
use Rattle.cb_model.specs.Answers.{leaves, Gives, Gen, Picks}
use Rattle.cb_model.specs.Line.{printed_terms, is_wide, line_text, parameters, AreGen, wide, told}
use Rattle.cb_model.specs.Room.{room, room_with, branch_size, widest, BelowRoom}
use Rattle.cb_laws.specs.Laws.{RoomIsOne, RoomOfNone, LineIsOne}
use Rattle.cb_laws.proofs.OneShape.{shape_is_one}

-- ---- the bound

room_grows : (s c v m k : ℕ) → m ≤ k → room s c v m ≤ room s c v k
room_grows s c v m k h =
    let a : s + c + v + m + 1 ≤ s + c + v + k + 1 = omega arith in
    let b : c + v + m + 1 ≤ c + v + k + 1 = omega arith in
    mul-le (64 * (s + c + v + m + 1) ^ 2) (8 ^ (c + v + m + 1)) (64 * (s + c + v + k + 1) ^ 2) (8 ^ (c + v + k + 1)) (mul-le-mul_left 64 (pow-le-pow_left a 2))
    (pow-le-pow_right {n = 8} (omega arith) b)

bound_grows : (p : Program) (b : Branch) (l : ℕ) → room_with p b 0 ≤ room_with p b l
bound_grows p b l =
    room_grows (branch_size p b) p.constants (bools b.sorts) (max 0 (widest p)) (max l (widest p)) (max-le (omega arith) (le-max_right l (widest p)))

pub room_is_one : RoomIsOne
room_is_one p names b shape n solvable i = (from, λ h. inr (solvable, (shape, (i, h))))
  where
    from : BelowRoom p names b n → n < room_with p b (length (flat_map leaves shape))
    from (inl h) = let g = bound_grows p b (length (flat_map leaves shape)) in omega arith
    from (inr h) =
        subst (λ s. n < room_with p b (length (flat_map leaves s))) (shape_is_one p.world b.items (printed_terms names b) h.1.0 shape solvable h.1.1.0 i) h.1.1.1

pub room_of_none : RoomOfNone
room_of_none p names b n r = (from, λ h. inl h)
  where
    from : BelowRoom p names b n → n < room_with p b 0
    from (inl h) = h
    from (inr h) = let s = h.0 r.a r.admitted in absurd (r.none s.b s.sorted s.sat)

-- ---- the line

picks_one : (R : List Bool → Type 0) (prefix : List Bool) (y z w : Bool) → Picks R prefix y z → Picks R prefix y w → z ≡ w
picks_one R prefix y z w (inl a) (inl b) = a.1 ∙ sym b.1
picks_one R prefix y z w (inl a) (inr b) = absurd (b.0 a.0)
picks_one R prefix y z w (inr a) (inl b) = absurd (a.0 b.0)
picks_one R prefix y z w (inr a) (inr b) = a.1 ∙ sym b.1

-- the parametric form is one
gen_one : (R : List Bool → Type 0) (prefix ys zs ws : List Bool) → Gen R prefix ys zs → Gen R prefix ys ws → zs ≡ ws
gen_one R prefix [] [] [] g h = refl
gen_one R prefix [] [] (w ∷ ws) g h = absurd h
gen_one R prefix [] (z ∷ zs) ws g h = absurd g
gen_one R prefix (y ∷ ys) [] ws g h = absurd g
gen_one R prefix (y ∷ ys) (z ∷ zs) [] g h = absurd h
gen_one R prefix (y ∷ ys) (z ∷ zs) (w ∷ ws) g h =
    let e : z ≡ w = picks_one R prefix y z w g.0 h.0 in
    let rest : zs ≡ ws = gen_one R (prefix ++ z ∷ []) ys zs ws g.1 (subst (λ x. Gen R (prefix ++ x ∷ []) ys ws) (sym e) h.1) in
    ap (λ x. x ∷ zs) e ∙ ap (λ l. w ∷ l) rest

abbrev at_all : Bits → List (Bits → Bool) → List Bool
at_all env gens = map (λ g. g env) gens

abbrev first_or : Bool → List Bool → Bool
first_or d [] = d
first_or d (x ∷ xs) = x

abbrev rest_of : List Bool → List Bool
rest_of [] = []
rest_of (x ∷ xs) = xs

-- functions that agree at each argument are the same
functions_same : (gs hs : List (Bits → Bool)) → length gs ≡ length hs → ((env : Bits) → at_all env gs ≡ at_all env hs) → gs ≡ hs
functions_same [] [] l e = refl
functions_same [] (h ∷ hs) l e = absurd (omega arith)
functions_same (g ∷ gs) [] l e = absurd (omega arith)
functions_same (g ∷ gs) (h ∷ hs) l e =
    let one : g ≡ h = λ i env. ap (first_or false) (e env) i in
    let rest : gs ≡ hs = functions_same gs hs (omega arith) (λ env. ap rest_of (e env)) in
    ap (λ x. x ∷ gs) one ∙ ap (λ x. h ∷ x) rest

not_both : (x : Bool) → x ≡ true → x ≡ false → ⊥
not_both x e f = let h : true ≡ false = sym e ∙ f in cc

pub line_is_one : LineIsOne
line_is_one p names b x y solvable (wide s i w e) (wide s' i' w' e') = e ∙ sym e'
line_is_one p names b x y solvable (wide s i w e) (told s' gs i' n g l e') =
    absurd (not_both (is_wide s) w (ap is_wide (shape_is_one p.world b.items (printed_terms names b) s s' solvable i i') ∙ n))
line_is_one p names b x y solvable (told s gs i n g l e) (wide s' i' w e') =
    absurd (not_both (is_wide s') w (ap is_wide (shape_is_one p.world b.items (printed_terms names b) s' s solvable i' i) ∙ n))
line_is_one p names b x y solvable (told s gs i n g l e) (told s' hs i' n' h l' e') =
    let same : s ≡ s' = shape_is_one p.world b.items (printed_terms names b) s s' solvable i i' in
    let long : length gs ≡ length hs = l ∙ ap (λ t. length (flat_map leaves t)) same ∙ sym l' in
    let h' : AreGen p b (printed_terms names b) s hs = subst (λ t. AreGen p b (printed_terms names b) t hs) (sym same) h in
    let gens : gs ≡ hs =
    functions_same gs hs long
    (λ env.
    gen_one (Gives p.world b.items (printed_terms names b) s env) [] (parameters p.constants (length gs) env) (at_all env gs) (at_all env hs) (g env)
    (subst (λ k. Gen (Gives p.world b.items (printed_terms names b) s env) [] (parameters p.constants k env) (at_all env hs)) (sym long) (h' env))) in
    e ∙ ap (λ t. line_text p.constants names t gs) same ∙ ap (line_text p.constants names s') gens ∙ sym e'
