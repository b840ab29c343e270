-- Whether trees match others, whatever the solutions of the items are, is decided.
use Rattle.std.proofs.Common.{◌≡◌, inl, inr, ℕ, ◌+◌, Bool, true, false, ◌||◌, if◌then◌else◌, List, [], ◌∷◌, ◌++◌, map, length, refl, sym, ◌∙◌, ap, subst, arith, pos}
use Rattle.std.proofs.Math.Path.{fun_ext}
use Rattle.std.specs.List.{list_all}
use Rattle.cb_model.specs.declared.Sort.{Sort}
use Rattle.cb_model.specs.declared.Sort.TheVariants as sort
use Rattle.cb_model.specs.declared.Tree.{Tree}
use Rattle.cb_model.specs.Bits.{Bits, Each, bits_of, first_bits}
use Rattle.cb_model.specs.Values.{Sorts, World, Valuation, expr_value, tree_value, tree_in_scope}
use Rattle.cb_model.specs.Equations.{Item, SolvedAt}
use Rattle.cb_model.specs.Derivation.{Matches}
use Rattle.cb_laws.specs.Laws.{InScope}
use Rattle.cb_laws.proofs.DependsTrees.{AgreeOn, agree_self, tree_depends}
use Rattle.cb_laws.proofs.Search.{Decision, both, equal_to, each, implied, every_row, same_bit, Found, search_bits}
use Rattle.cb_laws.proofs.Codes.{Number, Unknown, ABus, ATerm, Code, Marked, Join, Form, Open, Formula, Fixed, Both, Truths, Choice, value, filled, chosen, same, same_is, same_self, CodeFits, sort_of, AreFit}
use Rattle.cb_laws.proofs.Coded.{coded, coded-inj, choice, choice_fits, valuation, valuation_sorted, valuation_choice, tree_form, tree_coded}
use Rattle.cb_laws.proofs.Unified.{Pairs, AllEqual, LeftEqual, Solved, NoneSolve, Outcome, plain, plain_fit, unified}
use Rattle.cb_laws.proofs.Solutions.{item_pairs, outputs_in, row_truths, Allows, allows, row_valuation, row_meets, row_value, RowOf, row_of}
use Rattle.cb_laws.proofs.ReadyWords.{other, other_fit, outer, outer_same, outer_differs, unknown_form}
use Rattle.cb_laws.proofs.Apart.{renamed, renamed_form, form_renamed, even, odd, mixed, mixed_even, mixed_odd, mixed_all, mixed_choice, choice_even, even_value, odd_value}
use Rattle.cb_laws.proofs.Decided.{agree_first, and_true, length-first, trimmed}

-- ---- lists

abbrev pub unknowns_in : Form → List Unknown
unknowns_in (Open x) = x ∷ []
unknowns_in (Formula e) = []
unknowns_in (Fixed m) = []
unknowns_in (Both s u) = unknowns_in s ++ unknowns_in u

pub each_front : {A : Type 0} (P : A → Type 0) (xs ys : List A) → Each P (xs ++ ys) → Each P xs
each_front P [] ys h = tt
each_front P (x ∷ xs) ys h = (h.0, each_front P xs ys h.1)

pub each_behind : {A : Type 0} (P : A → Type 0) (xs ys : List A) → Each P (xs ++ ys) → Each P ys
each_behind P [] ys h = h
each_behind P (x ∷ xs) ys h = each_behind P xs ys h.1

pub each_of : {A : Type 0} (P : A → Type 0) (xs : List A) → ((x : A) → P x) → Each P xs
each_of P [] h = tt
each_of P (x ∷ xs) h = (h x, each_of P xs h)

each_both : {A : Type 0} (P Q R : A → Type 0) (xs : List A) → ((x : A) → P x → Q x → R x) → Each P xs → Each Q xs → Each R xs
each_both P Q R [] f h k = tt
each_both P Q R (x ∷ xs) f h k = (f x h.0 k.0, each_both P Q R xs f h.1 k.1)

value_on : (f : Truths) (c d : Choice) (x : Form) → Each (λ u. c u ≡ d u) (unknowns_in x) → value f c x ≡ value f d x
value_on f c d (Open x) h = h.0
value_on f c d (Formula e) h = refl
value_on f c d (Fixed m) h = refl
value_on f c d (Both s u) h =
    ap (λ k. Join k (value f c u)) (value_on f c d s (each_front _ (unknowns_in s) (unknowns_in u) h))
    ∙ ap (Join (value f d s)) (value_on f c d u (each_behind _ (unknowns_in s) (unknowns_in u) h))

mixed_fit : (t : Sorts) (c d : Choice) → AreFit t c → AreFit t d → AreFit t (mixed_choice c d)
mixed_fit t c d hc hd (ABus n) = mixed_all (CodeFits t sort.Bus) (λ k. c (ABus k)) (λ k. d (ABus k)) (λ k. hc (ABus k)) (λ k. hd (ABus k)) n
mixed_fit t c d hc hd (ATerm n) = mixed_all (CodeFits t sort.Term) (λ k. c (ATerm k)) (λ k. d (ATerm k)) (λ k. hc (ATerm k)) (λ k. hd (ATerm k)) n

renamed_sort : (k : ℕ → ℕ) (u : Unknown) → sort_of (renamed k u) ≡ sort_of u
renamed_sort k (ABus n) = refl
renamed_sort k (ATerm n) = refl

plain_sort : (t : Sorts) (u z : Unknown) → CodeFits t (sort_of u) (plain t z) → sort_of z ≡ sort_of u
plain_sort t (ABus n) (ABus m) h = refl
plain_sort t (ABus n) (ATerm m) h = absurd h
plain_sort t (ATerm n) (ABus m) h = absurd h
plain_sort t (ATerm n) (ATerm m) h = refl

other_plain : (t : Sorts) (u z : Unknown) → other u ≡ plain t z → ⊥
other_plain t (ABus n) (ABus m) e = absurd (cc)
other_plain t (ABus n) (ATerm m) e = absurd (cc)
other_plain t (ATerm n) (ABus m) e = absurd (cc)
other_plain t (ATerm n) (ATerm m) e = never (ap size e)
  where
    size : Code → ℕ
    size (Marked (Number (pos n))) = n
    size c = 0

    never : ◌≡◌ {A = ℕ} 1 0 → ⊥
    never e = absurd (omega arith)

abbrev mem : List Unknown → Unknown → Bool
mem [] x = false
mem (u ∷ us) x = same x u || mem us x

each_get : (P : Unknown → Type 0) (us : List Unknown) (x : Unknown) → Each P us → mem us x ≡ true → P x
each_get P [] x h k = absurd (cc)
each_get P (u ∷ us) x h k = at (same x u) refl k (each_get P us x h.1)
  where
    at : (l : Bool) → same x u ≡ l → (l || mem us x) ≡ true → (mem us x ≡ true → P x) → P x
    at true e g go = subst P (sym (same_is x u e)) h.0
    at false e g go = go g

each_member : (P : Unknown → Type 0) (us : List Unknown) → ((u : Unknown) → mem us u ≡ true → P u) → Each P us
each_member P [] f = tt
each_member P (u ∷ us) f = (f u (ap (λ (l : Bool). l || mem us u) (same_self u)), each_member P us (λ x k. f x (more (same x u) k)))
  where
    more : (l : Bool) {m : Bool} → m ≡ true → (l || m) ≡ true
    more true k = refl
    more false k = k

open_is : (x : Form) → unknown_form x ≡ true → (y : Unknown) × (x ≡ Open y)
open_is (Open y) h = (y, refl)
open_is (Formula e) h = absurd (cc)
open_is (Fixed m) h = absurd (cc)
open_is (Both k l) h = absurd (cc)

-- the unknown that the form is
abbrev leads : Form → Unknown → Bool
leads (Open z) y = same z y
leads x y = false

-- both are one unknown
abbrev same_target : Form → Form → Bool
same_target (Open z) y = leads y z
same_target x y = false

module _ (w : World) (v : ℕ) (es : List Item) (scope : InScope v v es) (s : Solved w.arguments (item_pairs v es)) (first : SolvedAt w es (λ k. false)) where
  abbrev rows : ℕ
  rows = v + outputs_in es

  abbrev t : Sorts
  t = w.arguments

  abbrev truths : List Bool → List Bool → Truths
  truths ra r = row_truths w v es scope s ra r

  abbrev allowed : List Bool → List Bool → Type 0
  allowed ra r = Allows w v es scope s ra r

  abbrev form : Tree → Form
  form x = filled s.parts (tree_form x)

  -- ---- the equations

  abbrev match_pairs : List Tree → List Tree → Pairs
  match_pairs [] xs = []
  match_pairs (h ∷ hs) [] = []
  match_pairs (h ∷ hs) (x ∷ xs) = (renamed_form odd (tree_form h), renamed_form even (form x)) ∷ match_pairs hs xs

  abbrev goal_unknowns : List Tree → List Unknown
  goal_unknowns [] = []
  goal_unknowns (x ∷ xs) = unknowns_in (form x) ++ goal_unknowns xs

  list-head : {A : Type 0} (x y : A) (xs ys : List A) → (x ∷ xs) ≡ (y ∷ ys) → x ≡ y
  list-head {A} x y xs ys e = ap (first_or x) e
    where
      first_or : A → List A → A
      first_or z [] = z
      first_or z (a ∷ as') = a

  list-rest : {A : Type 0} (x y : A) (xs ys : List A) → (x ∷ xs) ≡ (y ∷ ys) → xs ≡ ys
  list-rest {A} x y xs ys e = ap rest e
    where
      rest : List A → List A
      rest [] = []
      rest (a ∷ as') = as'

  -- values that match solve the equations
  match_to : (a p q : Bits) (c d : Choice) (own b : Valuation) (hs xs : List Tree) → ((h : Tree) → coded (tree_value a own h) ≡ value (expr_value a q) d (tree_form h)) →
      Each (λ x. coded (tree_value a b x) ≡ value (expr_value a p) c (form x)) xs → map (tree_value a own) hs ≡ map (tree_value a b) xs →
      AllEqual (expr_value a (mixed p q)) (mixed_choice c d) (match_pairs hs xs)
  match_to a p q c d own b [] xs k l e = tt
  match_to a p q c d own b (h ∷ hs) [] k l e = tt
  match_to a p q c d own b (h ∷ hs) (x ∷ xs) k l e = (
    odd_value a p q c d (tree_form h) ∙ sym (k h) ∙ ap coded (list-head (tree_value a own h) (tree_value a b x) (map (tree_value a own) hs) (map (tree_value a b) xs) e) ∙ l.0
        ∙ sym (even_value a p q c d (form x)),
    match_to a p q c d own b hs xs k l.1 (list-rest (tree_value a own h) (tree_value a b x) (map (tree_value a own) hs) (map (tree_value a b) xs) e),
  )

  scoped_each : {P : Tree → Type 0} (xs : List Tree) → ((x : Tree) → tree_in_scope v v x ≡ true → P x) → list_all (tree_in_scope v v) xs ≡ true → Each P xs
  scoped_each [] f h = tt
  scoped_each (x ∷ xs) f h = let q = and_true _ _ h in (f x q.0, scoped_each xs f q.1)

  module _ (head args : List Tree) (head_scope : list_all (tree_in_scope v v) head ≡ true) (args_scope : list_all (tree_in_scope v v) args ≡ true) (count : length head ≡ length args) where
    -- own values at a row
    record RowOwn (ra r : List Bool) (c : Choice) : Type 0 where
      row : List Bool
      number : length row ≡ v
      own : Choice
      fit : AreFit t own
      equal : AllEqual (expr_value (bits_of ra) (mixed (bits_of r) (bits_of row))) (mixed_choice c own) (match_pairs head args)

    abbrev short : Valuation → Valuation
    short b = record { bits = trimmed v b.bits; words = b.words; terms = b.terms }

    short_agrees : (b : Valuation) → AgreeOn v b (short b)
    short_agrees b = record { bits = λ k l. sym (agree_first v b.bits k l); words = λ n l. refl; terms = λ n l. refl }

    short_values : (a : Bits) (b : Valuation) (hs : List Tree) → list_all (tree_in_scope v v) hs ≡ true → map (tree_value a (short b)) hs ≡ map (tree_value a b) hs
    short_values a b [] h = refl
    short_values a b (x ∷ hs) h =
        let q = and_true _ _ h in
        ap (λ g. g ∷ map (tree_value a (short b)) hs) (sym (tree_depends v v a a b (short b) (λ k l. refl) (short_agrees b) x q.0))
        ∙ ap (λ gs. tree_value a b x ∷ gs) (short_values a b hs q.1)

    row_own : Matches w es head args → (ra r : List Bool) (c : Choice) → allowed ra r → AreFit t c → RowOwn ra r c
    row_own m ra r c ok fc =
        let b : Valuation = row_valuation w v es scope s ra r c in
        let o = m (bits_of ra) b (row_meets w v es scope s ra r c ok fc) in
        record {
          row = first_bits v o.0.bits;
          number = length-first 0 v o.0.bits;
          own = choice (short o.0);
          fit = choice_fits w (short o.0) o.1.0;
          equal = match_to (bits_of ra) (bits_of r) (trimmed v o.0.bits) c (choice (short o.0)) (short o.0) b head args
              (λ h. sym (tree_coded (bits_of ra) (short o.0) h))
              (each_of _ args (λ x. row_value w v es scope s ra r c fc x))
              (short_values (bits_of ra) o.0 head head_scope ∙ o.1.1);
        }

    -- one solution
    abbrev start : RowOf w v es scope s (λ k. false) first.b
    start = row_of w v es scope s (λ k. false) first.b (record { admitted = tt; sorted = first.sorted; sat = first.sat })

    abbrev start_bits : List Bool
    start_bits = first_bits v (λ k. false)

    -- no values of their own make the trees equal
    pub never_match : NoneSolve t (match_pairs head args) → Matches w es head args → ⊥
    never_match n m =
        let o = row_own m start_bits start.row (plain t) start.allowed (plain_fit t) in
        n (expr_value (bits_of start_bits) (mixed (bits_of start.row) (bits_of o.row))) (mixed_choice (plain t) o.own) (mixed_fit t (plain t) o.own (plain_fit t) o.fit) o.equal

    module _ (z : Solved t (match_pairs head args)) where
      abbrev target : Unknown → Form
      target u = z.parts (renamed even u)

      abbrev row_left : List Bool → List Bool → List Bool → Type 0
      row_left ra r q = LeftEqual (expr_value (bits_of ra) (mixed (bits_of r) (bits_of q))) z.left

      abbrev Apart : Unknown → Unknown → Type 0
      Apart u x = same_target (target u) (target x) ≡ true → same u x ≡ true

      -- the unknowns of the goal stay apart and unknown
      record Rigid : Type 0 where
        opens : Each (λ u. unknown_form (target u) ≡ true) (goal_unknowns args)
        apart : Each (λ u. Each (Apart u) (goal_unknowns args)) (goal_unknowns args)

      rigid : Decision Rigid
      rigid = equal_to ((λ h. (h.opens, h.apart)), λ h. record { opens = h.0; apart = h.1 })
          (both (each _ (λ u. same_bit _ _) (goal_unknowns args)) (each _ (λ u. each _ (λ x. implied (same_bit _ _) (same_bit _ _)) (goal_unknowns args)) (goal_unknowns args)))

      abbrev RowsMatch : Type 0
      RowsMatch = Rigid × ((ra : List Bool) → length ra ≡ v → (r : List Bool) → length r ≡ rows → allowed ra r → Found v (row_left ra r))

      rows_match : Decision RowsMatch
      rows_match = both rigid
          (every_row v _ (λ ra. every_row rows _ (λ r. implied (allows w v es scope s ra r) (search_bits v (row_left ra r) (λ q. each _ (λ p. same_bit _ _) z.left)))))

      -- ---- trees that match

      -- what the parts of the equations are at own values
      parts_are : (ra r : List Bool) (c : Choice) → AreFit t c → (o : RowOwn ra r c) →
          LeftEqual (expr_value (bits_of ra) (mixed (bits_of r) (bits_of o.row))) z.left ×
          ((x : Unknown) → chosen (expr_value (bits_of ra) (mixed (bits_of r) (bits_of o.row))) (mixed_choice c o.own) z.parts x ≡ mixed_choice c o.own x)
      parts_are ra r c fc o =
          z.all (expr_value (bits_of ra) (mixed (bits_of r) (bits_of o.row))) (mixed_choice c o.own) (mixed_fit t c o.own fc o.fit) o.equal

      target_is : (ra r : List Bool) (c : Choice) → AreFit t c → (o : RowOwn ra r c) → (u : Unknown) →
          value (expr_value (bits_of ra) (mixed (bits_of r) (bits_of o.row))) (mixed_choice c o.own) (target u) ≡ c u
      target_is ra r c fc o u = (parts_are ra r c fc o).1 (renamed even u) ∙ choice_even c o.own u

      module _ (m : Matches w es head args) where
        abbrev own_at : (c : Choice) → AreFit t c → RowOwn start_bits start.row c
        own_at c fc = row_own m start_bits start.row c start.allowed fc

        is_open : (u : Unknown) → unknown_form (target u) ≡ true
        is_open u = at (unknown_form (target u)) refl
          where
            at : (k : Bool) → unknown_form (target u) ≡ k → k ≡ true
            at true e = refl
            at false e =
                let o = own_at (plain t) (plain_fit t) in
                let p = own_at other (other_fit t) in
                let x = target_is start_bits start.row (plain t) (plain_fit t) o u in
                let y = target_is start_bits start.row other (other_fit t) p u in
                absurd (outer_differs t u (ap outer (sym x)
                ∙ outer_same t (expr_value (bits_of start_bits) (mixed (bits_of start.row) (bits_of o.row))) (expr_value (bits_of start_bits) (mixed (bits_of start.row) (bits_of p.row)))
                (mixed_choice (plain t) o.own) (mixed_choice other p.own) (mixed_fit t (plain t) o.own (plain_fit t) o.fit) (mixed_fit t other p.own (other_fit t) p.fit) (target u) e
                ∙ ap outer y))

        -- one unknown has another value
        abbrev marked : Unknown → Choice
        marked u y = if same u y then other y else plain t y

        marked_fit : (u : Unknown) → AreFit t (marked u)
        marked_fit u y = at (same u y)
          where
            at : (k : Bool) → CodeFits t (sort_of y) (if k then other y else plain t y)
            at true = other_fit t y
            at false = plain_fit t y

        same_value : (f : Truths) (c : Choice) (x y : Form) → same_target x y ≡ true → value f c x ≡ value f c y
        same_value f c (Open a) (Open b) h = sym (ap c (same_is b a h))
        same_value f c (Open a) (Formula e) h = absurd (cc)
        same_value f c (Open a) (Fixed k) h = absurd (cc)
        same_value f c (Open a) (Both k l) h = absurd (cc)
        same_value f c (Formula e) y h = absurd (cc)
        same_value f c (Fixed k) y h = absurd (cc)
        same_value f c (Both k l) y h = absurd (cc)

        stay_apart : (u x : Unknown) → Apart u x
        stay_apart u x h = at (same u x) refl
          where
            at : (k : Bool) → same u x ≡ k → k ≡ true
            at true e = refl
            at false e =
                let o = own_at (marked u) (marked_fit u) in
                let f : Truths = expr_value (bits_of start_bits) (mixed (bits_of start.row) (bits_of o.row)) in
                let one : marked u u ≡ other u = ap (λ (k : Bool). if k then other u else plain t u) (same_self u) in
                let two : marked u x ≡ plain t x = ap (λ (k : Bool). if k then other x else plain t x) e in
                absurd (other_plain t u x (sym one ∙ sym (target_is start_bits start.row (marked u) (marked_fit u) o u)
                ∙ same_value f (mixed_choice (marked u) o.own) (target u) (target x) h
                ∙ target_is start_bits start.row (marked u) (marked_fit u) o x ∙ two))

        matches_rows : RowsMatch
        matches_rows = (
          record { opens = each_of _ (goal_unknowns args) is_open; apart = each_of _ (goal_unknowns args) (λ u. each_of _ (goal_unknowns args) (stay_apart u)) },
          λ ra k r l ok. let o = row_own m ra r (plain t) ok (plain_fit t) in (o.row, (o.number, (parts_are ra r (plain t) (plain_fit t) o).0)),
        )

      -- ---- rows that match

      module _ (h : RowsMatch) (c : Choice) (fc : AreFit t c) where
        -- each unknown of the goal is given its value
        abbrev looked : List Unknown → Choice
        looked [] y = plain t y
        looked (u ∷ us) y = if leads (target u) y then c u else looked us y

        leads_sort : (u y : Unknown) → leads (target u) y ≡ true → sort_of y ≡ sort_of u
        leads_sort u y e = from (target u) refl e
          where
            from : (x : Form) → target u ≡ x → leads x y ≡ true → sort_of y ≡ sort_of u
            from (Open a) i k =
                let is : a ≡ y = same_is a y k in
                let fits : CodeFits t (sort_of (renamed even u)) (value (λ e. false) (plain t) (target u)) = z.fit (λ e. false) (plain t) (plain_fit t) (renamed even u) in
                let at_a : CodeFits t (sort_of (renamed even u)) (plain t a) = subst (λ (x : Form). CodeFits t (sort_of (renamed even u)) (value (λ e. false) (plain t) x)) i fits in
                let at_u : CodeFits t (sort_of u) (plain t a) = subst (λ (z : Sort). CodeFits t z (plain t a)) (renamed_sort even u) at_a in
                sym (ap sort_of is) ∙ plain_sort t u a at_u
            from (Formula e) i k = absurd (cc)
            from (Fixed m) i k = absurd (cc)
            from (Both m n) i k = absurd (cc)

        looked_fit : (us : List Unknown) → AreFit t (looked us)
        looked_fit [] y = plain_fit t y
        looked_fit (u ∷ us) y = at (leads (target u) y) refl (looked_fit us y)
          where
            at : (k : Bool) → leads (target u) y ≡ k → CodeFits t (sort_of y) (looked us y) → CodeFits t (sort_of y) (if k then c u else looked us y)
            at true e g = subst (λ (z : Sort). CodeFits t z (c u)) (sym (leads_sort u y e)) (fc u)
            at false e g = g

        -- an unknown of the list finds its value
        look : (us : List Unknown) (x y : Unknown) → target x ≡ Open y → Each (λ u. Apart x u) us → mem us x ≡ true → looked us y ≡ c x
        look [] x y i a k = absurd (cc)
        look (u ∷ us) x y i a k = at (leads (target u) y) refl (look us x y i a.1)
          where
            at : (l : Bool) → leads (target u) y ≡ l → (mem us x ≡ true → looked us y ≡ c x) → (if l then c u else looked us y) ≡ c x
            at true q go =
                let both_one : same_target (target x) (target u) ≡ true = ap (λ (f : Form). same_target f (target u)) i ∙ q in
                sym (ap c (same_is x u (a.0 both_one)))
            at false q go = go (rest (same x u) refl k)
              where
                rest : (l : Bool) → same x u ≡ l → (l || mem us x) ≡ true → mem us x ≡ true
                rest true p g =
                    let is : x ≡ u = same_is x u p in
                    let it : leads (target u) y ≡ true = ap (λ (f : Form). leads f y) (sym (ap target is) ∙ i) ∙ same_self y in
                    absurd (cc)
                rest false p g = g

        abbrev us : List Unknown
        us = goal_unknowns args

        -- the unknowns of the equations' parts
        abbrev given : Choice
        given = looked us

        given_is : (f : Truths) (u : Unknown) → mem us u ≡ true → value f given (target u) ≡ c u
        given_is f u k =
            let o = open_is (target u) (each_get _ us u h.0.opens k) in
            ap (value f given) o.1 ∙ look us u o.0 o.1 (each_get (λ u. Each (Apart u) us) us u h.0.apart k) k

      odd_of : (a p q : Bits) (c : Choice) (x : Form) → value (expr_value a (mixed p q)) c (renamed_form odd x) ≡ value (expr_value a q) (λ u. c (renamed odd u)) x
      odd_of a p q c x = form_renamed odd a (mixed p q) c x ∙ ap (λ (b : Bits). value (expr_value a b) (λ u. c (renamed odd u)) x) (fun_ext (λ n. mixed_odd p q n))

      even_of : (a p q : Bits) (c : Choice) (x : Form) → value (expr_value a (mixed p q)) c (renamed_form even x) ≡ value (expr_value a p) (λ u. c (renamed even u)) x
      even_of a p q c x = form_renamed even a (mixed p q) c x ∙ ap (λ (b : Bits). value (expr_value a b) (λ u. c (renamed even u)) x) (fun_ext (λ n. mixed_even p q n))

      match_from : (a a' p q : Bits) (k c d : Choice) (own b : Valuation) (hs xs : List Tree) → length hs ≡ length xs →
          AllEqual (expr_value a' (mixed p q)) k (match_pairs hs xs) → Each (λ u. k (renamed even u) ≡ c u) (goal_unknowns xs) →
          Each (λ h. coded (tree_value a own h) ≡ value (expr_value a' q) (λ u. k (renamed odd u)) (tree_form h)) hs →
          Each (λ x. coded (tree_value a b x) ≡ value (expr_value a' p) c (form x)) xs → map (tree_value a own) hs ≡ map (tree_value a b) xs
      match_from a a' p q k c d own b [] [] n e u l r = refl
      match_from a a' p q k c d own b [] (x ∷ xs) n e u l r = absurd (omega arith)
      match_from a a' p q k c d own b (h ∷ hs) [] n e u l r = absurd (omega arith)
      match_from a a' p q k c d own b (h ∷ hs) (x ∷ xs) n e u l r =
          let here : tree_value a own h ≡ tree_value a b x =
          coded-inj (tree_value a own h) (tree_value a b x)
          (l.0 ∙ sym (odd_of a' p q k (tree_form h)) ∙ e.0 ∙ even_of a' p q k (form x)
          ∙ value_on (expr_value a' p) (λ u. k (renamed even u)) c (form x) (each_front _ (unknowns_in (form x)) (goal_unknowns xs) u) ∙ sym r.0) in
          ap (λ g. g ∷ map (tree_value a own) hs) here
          ∙ ap (λ gs. tree_value a b x ∷ gs) (match_from a a' p q k c d own b hs xs (omega arith) e.1 (each_behind _ (unknowns_in (form x)) (goal_unknowns xs) u) l.1 r.1)

      rows_matches : RowsMatch → Matches w es head args
      rows_matches h a b m =
          let r = row_of w v es scope s a b m in
          let a' : Bits = trimmed v a in
          let found = h.1 (first_bits v a) (length-first 0 v a) r.row r.number r.allowed in
          let f : Truths = expr_value a' (mixed (bits_of r.row) (bits_of found.0)) in
          let e : Choice = given h r.unknowns r.fit in
          let e_fit : AreFit t e = looked_fit h r.unknowns r.fit (goal_unknowns args) in
          let k : Choice = chosen f e z.parts in
          let k_fit : AreFit t k = z.fit f e e_fit in
          let d : Choice = λ u. k (renamed odd u) in
          let d_fit : AreFit t d = λ u. subst (λ (y : Sort). CodeFits t y (k (renamed odd u))) (renamed_sort odd u) (k_fit (renamed odd u)) in
          let own : Valuation = valuation (bits_of found.0) d in
          let own_is : choice own ≡ d = valuation_choice t (bits_of found.0) d d_fit in (
            own,
            (
              valuation_sorted w (bits_of found.0) d d_fit,
              match_from a a' (bits_of r.row) (bits_of found.0) k r.unknowns d own b head args count (z.solves f e found.1.1)
                  (each_member _ (goal_unknowns args) (λ u i. given_is h r.unknowns r.fit f u i))
                  (scoped_each head (λ x i. ap coded (tree_depends v v a a' own own (λ n l. sym (agree_first v a n l)) (agree_self v own) x i)
                  ∙ sym (tree_coded a' own x) ∙ ap (λ y. value (expr_value a' (bits_of found.0)) y (tree_form x)) own_is) head_scope)
                  (scoped_each args (λ x i. r.values x i) args_scope),
            ),
          )

      pub matched : Decision (Matches w es head args)
      matched = equal_to ((λ m. matches_rows m), λ h. rows_matches h) rows_match

    pub matches_decided : Decision (Matches w es head args)
    matches_decided = from (unified t (match_pairs head args))
      where
        from : Outcome t (match_pairs head args) → Decision (Matches w es head args)
        from (inl z) = matched z
        from (inr n) = inr (λ m. never_match n m)
