-- Ground values as codes, and trees as forms of them.
use Rattle.std.proofs.Common.{◌≡◌, ℕ, Bool, List, [], ◌∷◌, ◌++◌, map, refl, sym, ◌∙◌, ap, subst}
use Rattle.std.specs.Prelude.{Option, Some, None, get_or}
use Rattle.std.proofs.Math.Path.{fun_ext}
use Rattle.cb_model.specs.declared.Expr.{Expr}
use Rattle.cb_model.specs.declared.Sort.{Sort}
use Rattle.cb_model.specs.declared.Sort.TheVariants as sort
use Rattle.cb_model.specs.declared.Tree.{Tree}
use Rattle.cb_model.specs.declared.Tree.TheOpen.{Tree-F}
use Rattle.cb_model.specs.declared.Tree.TheViews.{roll-Tree}
use Rattle.cb_model.specs.declared.Tree.TheFolds.{fold-Tree, fold-roll-Tree, ind-Tree, map-Tree}
use Rattle.cb_model.specs.Bits.{Bits}
use Rattle.cb_model.specs.Values.{Ground, Bit, Word, Int, Name, Grounds, Last, More, grounds, Sorts, Fits, FitAll, World, Valuation, IsValuation, expr_value, tail_of, tree_step, tree_value}
use Rattle.cb_laws.proofs.Codes.{BusEnd, ArgumentsEnd, Number, Called, Unknown, ABus, ATerm, Code, Truth, Marked, Join, Form, Open, Formula, Fixed, Both, Truths, Choice, value, IsBusCode, CodeFits, CodesFit, AreFit}

-- ---- values

abbrev pub bus_coded : List Bool → Code
bus_coded [] = Marked BusEnd
bus_coded (x ∷ xs) = Join (Truth x) (bus_coded xs)

abbrev mutual
  pub coded : Ground → Code
  coded (Bit x) = Truth x
  coded (Word xs) = bus_coded xs
  coded (Int z) = Marked (Number z)
  coded (Name n gs) = Join (Marked (Called n)) (all_coded gs)

  pub all_coded : Grounds → Code
  all_coded Last = Marked ArgumentsEnd
  all_coded (More g gs) = Join (coded g) (all_coded gs)

abbrev pub bus_decoded : Code → List Bool
bus_decoded (Join (Truth x) c) = x ∷ bus_decoded c
bus_decoded _ = []

abbrev mutual
  pub decoded : Code → Ground
  decoded (Truth x) = Bit x
  decoded (Marked (Number z)) = Int z
  decoded (Marked m) = Word []
  decoded (Join (Marked (Called n)) c) = Name n (all_decoded c)
  decoded (Join c d) = Word (bus_decoded (Join c d))

  pub all_decoded : Code → Grounds
  all_decoded (Join c d) = More (decoded c) (all_decoded d)
  all_decoded _ = Last

bus_back : (xs : List Bool) → bus_decoded (bus_coded xs) ≡ xs
bus_back [] = refl
bus_back (x ∷ xs) = ap (λ ys. x ∷ ys) (bus_back xs)

mutual
  back : (g : Ground) → decoded (coded g) ≡ g
  back (Bit x) = refl
  back (Word []) = refl
  back (Word (x ∷ xs)) = ap Word (bus_back (x ∷ xs))
  back (Int z) = refl
  back (Name n gs) = ap (Name n) (all_back gs)

  all_back : (gs : Grounds) → all_decoded (all_coded gs) ≡ gs
  all_back Last = refl
  all_back (More g gs) = ap (λ h. More h (all_decoded (all_coded gs))) (back g) ∙ ap (More g) (all_back gs)

pub coded-inj : (g h : Ground) → coded g ≡ coded h → g ≡ h
coded-inj g h e = sym (back g) ∙ ap decoded e ∙ back h

pub all_coded-inj : (gs hs : Grounds) → all_coded gs ≡ all_coded hs → gs ≡ hs
all_coded-inj gs hs e = sym (all_back gs) ∙ ap all_decoded e ∙ all_back hs

-- ---- sorts

pub bus_is : (xs : List Bool) → IsBusCode (bus_coded xs)
bus_is [] = tt
bus_is (x ∷ xs) = bus_is xs

mutual
  pub coded_fits : (t : Sorts) (s : Sort) (g : Ground) → Fits t s g → CodeFits t s (coded g)
  coded_fits t sort.Bool (Bit x) h = tt
  coded_fits t sort.Bus (Word xs) h = bus_is xs
  coded_fits t sort.Term (Int z) h = h
  coded_fits t sort.Term (Name n gs) h = all_coded_fit t (get_or t n []) gs h
  coded_fits t sort.Bool (Word xs) h = absurd h
  coded_fits t sort.Bool (Int z) h = absurd h
  coded_fits t sort.Bool (Name n gs) h = absurd h
  coded_fits t sort.Bus (Bit x) h = absurd h
  coded_fits t sort.Bus (Int z) h = absurd h
  coded_fits t sort.Bus (Name n gs) h = absurd h
  coded_fits t sort.Term (Bit x) h = absurd h
  coded_fits t sort.Term (Word xs) h = absurd h

  all_coded_fit : (t : Sorts) (ss : List Sort) (gs : Grounds) → FitAll t ss gs → CodesFit t ss (all_coded gs)
  all_coded_fit t [] Last h = tt
  all_coded_fit t (s ∷ ss) (More g gs) h = (coded_fits t s g h.0, all_coded_fit t ss gs h.1)
  all_coded_fit t [] (More g gs) h = absurd h
  all_coded_fit t (s ∷ ss) Last h = absurd h

-- a code of a sort is that of a value of the sort
pub bus_forth : (c : Code) → IsBusCode c → bus_coded (bus_decoded c) ≡ c
bus_forth (Truth x) h = absurd h
bus_forth (Marked BusEnd) h = refl
bus_forth (Marked ArgumentsEnd) h = absurd h
bus_forth (Marked (Number z)) h = absurd h
bus_forth (Marked (Called n)) h = absurd h
bus_forth (Join (Truth x) c) h = ap (Join (Truth x)) (bus_forth c h)
bus_forth (Join (Marked m) c) h = absurd h
bus_forth (Join (Join c d) e) h = absurd h

abbrev IsCoded : Sorts → Sort → Code → Type 0
IsCoded t s c = Fits t s (decoded c) × (coded (decoded c) ≡ c)

bus_is_coded : (t : Sorts) (c : Code) → IsBusCode c → IsCoded t sort.Bus c
bus_is_coded t (Truth x) h = absurd h
bus_is_coded t (Marked BusEnd) h = (tt, refl)
bus_is_coded t (Marked ArgumentsEnd) h = absurd h
bus_is_coded t (Marked (Number z)) h = absurd h
bus_is_coded t (Marked (Called n)) h = absurd h
bus_is_coded t (Join (Truth x) c) h = (tt, bus_forth (Join (Truth x) c) h)
bus_is_coded t (Join (Marked m) c) h = absurd h
bus_is_coded t (Join (Join c d) e) h = absurd h

mutual
  pub is_coded : (t : Sorts) (s : Sort) (c : Code) → CodeFits t s c → IsCoded t s c
  is_coded t sort.Bool (Truth x) h = (tt, refl)
  is_coded t sort.Bool (Marked m) h = absurd h
  is_coded t sort.Bool (Join c d) h = absurd h
  is_coded t sort.Bus c h = bus_is_coded t c h
  is_coded t sort.Term (Truth x) h = absurd h
  is_coded t sort.Term (Marked BusEnd) h = absurd h
  is_coded t sort.Term (Marked ArgumentsEnd) h = absurd h
  is_coded t sort.Term (Marked (Number z)) h = (h, refl)
  is_coded t sort.Term (Marked (Called n)) h = absurd h
  is_coded t sort.Term (Join (Truth x) d) h = absurd h
  is_coded t sort.Term (Join (Marked BusEnd) d) h = absurd h
  is_coded t sort.Term (Join (Marked ArgumentsEnd) d) h = absurd h
  is_coded t sort.Term (Join (Marked (Number z)) d) h = absurd h
  is_coded t sort.Term (Join (Marked (Called n)) d) h =
      let r = are_coded t (get_or t n []) d h in (r.0, ap (Join (Marked (Called n))) r.1)
  is_coded t sort.Term (Join (Join c e) d) h = absurd h

  are_coded : (t : Sorts) (ss : List Sort) (c : Code) → CodesFit t ss c → FitAll t ss (all_decoded c) × (all_coded (all_decoded c) ≡ c)
  are_coded t [] (Truth x) h = absurd h
  are_coded t [] (Marked BusEnd) h = absurd h
  are_coded t [] (Marked ArgumentsEnd) h = (tt, refl)
  are_coded t [] (Marked (Number z)) h = absurd h
  are_coded t [] (Marked (Called n)) h = absurd h
  are_coded t [] (Join c d) h = absurd h
  are_coded t (s ∷ ss) (Truth x) h = absurd h
  are_coded t (s ∷ ss) (Marked m) h = absurd h
  are_coded t (s ∷ ss) (Join c d) h =
      let p = is_coded t s c h.0 in
      let q = are_coded t ss d h.1 in
      ((p.0, q.0), ap (λ x. Join x (all_coded (all_decoded d))) p.1 ∙ ap (Join c) q.1)

-- ---- valuations

abbrev pub choice : Valuation → Choice
choice b (ABus n) = bus_coded (b.words n)
choice b (ATerm n) = coded (b.terms n)

pub choice_fits : (w : World) (b : Valuation) → IsValuation w b → AreFit w.arguments (choice b)
choice_fits w b h (ABus n) = bus_is (b.words n)
choice_fits w b h (ATerm n) = coded_fits w.arguments sort.Term (b.terms n) (h n)

-- the valuation with these bits and the values that were chosen
abbrev pub valuation : Bits → Choice → Valuation
valuation bits c = record { bits = bits; words = λ n. bus_decoded (c (ABus n)); terms = λ n. decoded (c (ATerm n)) }

pub valuation_sorted : (w : World) (bits : Bits) (c : Choice) → AreFit w.arguments c → IsValuation w (valuation bits c)
valuation_sorted w bits c h n = (is_coded w.arguments sort.Term (c (ATerm n)) (h (ATerm n))).0

pub valuation_choice : (t : Sorts) (bits : Bits) (c : Choice) → AreFit t c → choice (valuation bits c) ≡ c
valuation_choice t bits c h = fun_ext at
  where
    at : (x : Unknown) → choice (valuation bits c) x ≡ c x
    at (ABus n) = bus_forth (c (ABus n)) (h (ABus n))
    at (ATerm n) = (is_coded t sort.Term (c (ATerm n)) (h (ATerm n))).1

-- ---- trees

abbrev pub end_form : Option ℕ → Form
end_form None = Fixed BusEnd
end_form (Some n) = Open (ABus n)

abbrev pub bus_form : List Expr → Form → Form
bus_form [] end = end
bus_form (e ∷ es) end = Both (Formula e) (bus_form es end)

abbrev pub arguments_form : List Form → Form
arguments_form [] = Fixed ArgumentsEnd
arguments_form (x ∷ xs) = Both x (arguments_form xs)

abbrev pub form_step : Tree-F Form → Form
form_step (Tree-F.Leaf e) = Formula e
form_step (Tree-F.Bus es t) = bus_form es (end_form t)
form_step (Tree-F.Var n) = Open (ATerm n)
form_step (Tree-F.Int z) = Fixed (Number z)
form_step (Tree-F.Node n xs) = Both (Fixed (Called n)) (arguments_form xs)

abbrev pub tree_form : Tree → Form
tree_form = fold-Tree Form form_step

module _ (a : Bits) (b : Valuation) where
  abbrev f : Truths
  f = expr_value a b.bits

  abbrev IsValue : Tree → Type 0
  IsValue t = value f (choice b) (tree_form t) ≡ coded (tree_value a b t)

  abbrev Sure : Type 0
  Sure = (t : Tree) × IsValue t

  end_value : (t : Option ℕ) → value f (choice b) (end_form t) ≡ bus_coded (tail_of b t)
  end_value None = refl
  end_value (Some n) = refl

  bus_value : (es : List Expr) (x : Form) (xs : List Bool) → value f (choice b) x ≡ bus_coded xs → value f (choice b) (bus_form es x) ≡ bus_coded (map f es ++ xs)
  bus_value [] x xs h = h
  bus_value (e ∷ es) x xs h = ap (Join (Truth (f e))) (bus_value es x xs h)

  arguments_value : (ys : List Sure) → value f (choice b) (arguments_form (map tree_form (map (λ e. e.0) ys))) ≡ all_coded (grounds (map (tree_value a b) (map (λ e. e.0) ys)))
  arguments_value [] = refl
  arguments_value (y ∷ ys) =
      ap (λ c. Join c (value f (choice b) (arguments_form (map tree_form (map (λ e. e.0) ys))))) y.1
      ∙ ap (Join (coded (tree_value a b y.0))) (arguments_value ys)

  layer_value : (y : Tree-F Sure) → value f (choice b) (form_step (map-Tree Tree Form tree_form (map-Tree Sure Tree (λ e. e.0) y))) ≡
      coded (tree_step a b (map-Tree Tree Ground (tree_value a b) (map-Tree Sure Tree (λ e. e.0) y)))
  layer_value (Tree-F.Leaf e) = refl
  layer_value (Tree-F.Bus es t) = bus_value es (end_form t) (tail_of b t) (end_value t)
  layer_value (Tree-F.Var n) = refl
  layer_value (Tree-F.Int z) = refl
  layer_value (Tree-F.Node n ys) = ap (Join (Marked (Called n))) (arguments_value ys)

  value_roll : (x : Tree-F Tree) (y : Tree-F Sure) → map-Tree Sure Tree (λ e. e.0) y ≡ x → IsValue (roll-Tree x)
  value_roll x y is =
      let P : Tree-F Tree → Type 0 = λ z. value f (choice b) (form_step (map-Tree Tree Form tree_form z)) ≡ coded (tree_step a b (map-Tree Tree Ground (tree_value a b) z)) in
      ap (value f (choice b)) (fold-roll-Tree Form form_step x) ∙ subst P is (layer_value y) ∙ ap coded (sym (fold-roll-Tree Ground (tree_step a b) x))

  pub tree_coded : (t : Tree) → IsValue t
  tree_coded = ind-Tree IsValue value_roll
