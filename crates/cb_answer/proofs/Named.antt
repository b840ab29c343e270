-- A line reads the names of the printed variables alone, and not their numbers.
use Rattle.std.proofs.Common.{◌≡◌, ℕ, Bool, List, [], ◌∷◌, ◌++◌, map, refl, sym, ap, ap₂, ◌∙◌, codes}
use Rattle.std.proofs.Math.Path.{fun_ext}
use Rattle.cb_model.specs.declared.Tree.{Tree}
use Rattle.cb_model.specs.declared.Tree.TheOpen.{Tree-F}
use Rattle.cb_model.specs.declared.Tree.TheFolds.{fold-Tree}
use Rattle.cb_model.specs.Bits.{Bits}
use Rattle.cb_model.specs.Text.{Text, joined}
use Rattle.cb_model.specs.Line.{Names, items_text, leaf_text, line_items, line_text, tree_text, tree_text_step}

-- the same names, but for the numbers of the printed variables
pub record AreNamed (ns ms : Names) : Type 0 where
  pub names : ns.names ≡ ms.names
  pub constants : ns.constants ≡ ms.constants
  pub printed : map (λ v. v.1) ns.printed ≡ map (λ v. v.1) ms.printed

-- the same names with these printed variables
abbrev with_printed : Names → List (ℕ × Text) → Names
with_printed names vs = record { names = names.names; constants = names.constants; printed = vs }

-- ---- the texts of the terms

step-same : (names : Names) (vs : List (ℕ × Text)) (leaf : ℕ → Text) (x : Tree-F Text) → tree_text_step names leaf x ≡ tree_text_step (with_printed names vs) leaf x
step-same names vs leaf (Tree-F.Leaf e) = refl
step-same names vs leaf (Tree-F.Bus es t) = refl
step-same names vs leaf (Tree-F.Var n) = refl
step-same names vs leaf (Tree-F.Int z) = refl
step-same names vs leaf (Tree-F.Node n xs) = refl

texts-same : (names : Names) (vs : List (ℕ × Text)) (leaf : ℕ → Text) (ts : List Tree) → map (tree_text names leaf) ts ≡ map (tree_text (with_printed names vs) leaf) ts
texts-same names vs leaf ts = ap (λ (f : Tree-F Text → Text). map (fold-Tree Text f) ts) (fun_ext (step-same names vs leaf))

-- ---- the items

head-same : {A : Type 0} (x y : A) (xs ys : List A) → x ∷ xs ≡ y ∷ ys → x ≡ y
head-same x y xs ys e = cc

tail-same : {A : Type 0} (x y : A) (xs ys : List A) → x ∷ xs ≡ y ∷ ys → xs ≡ ys
tail-same x y xs ys e = cc

items-same : (vs us : List (ℕ × Text)) (xs : List Text) → map (λ v. v.1) vs ≡ map (λ v. v.1) us → items_text vs xs ≡ items_text us xs
items-same [] [] xs e = refl
items-same [] (u ∷ us) xs e = absurd (cc)
items-same (v ∷ vs) [] xs e = absurd (cc)
items-same (v ∷ vs) (u ∷ us) [] e = refl
items-same (v ∷ vs) (u ∷ us) (x ∷ xs) e =
    ap₂ (λ (n : Text) (ts : List Text). (n ++ codes " = " ++ x) ∷ ts) (head-same v.1 u.1 _ _ e) (items-same vs us xs (tail-same v.1 u.1 _ _ e))

lines-same : (vs us : List (ℕ × Text)) (xs : List Text) → map (λ v. v.1) vs ≡ map (λ v. v.1) us → line_items vs xs ≡ line_items us xs
lines-same [] [] xs e = refl
lines-same [] (u ∷ us) xs e = absurd (cc)
lines-same (v ∷ vs) [] xs e = absurd (cc)
lines-same (v ∷ vs) (u ∷ us) xs e = items-same (v ∷ vs) (u ∷ us) xs e

-- ---- the line

pub line-named : (c : ℕ) (ns names : Names) (shape : List Tree) (gens : List (Bits → Bool)) → AreNamed ns names → line_text c ns shape gens ≡ line_text c names shape gens
line-named c ns names shape gens h =
    (λ i. line_text c (record { names = h.names i; constants = h.constants i; printed = ns.printed }) shape gens)
    ∙ ap (λ (xs : List Text). joined (codes ", ") (line_items ns.printed xs)) (sym (texts-same names ns.printed (leaf_text c names gens) shape))
    ∙ ap (joined (codes ", ")) (lines-same ns.printed names.printed (map (tree_text names (leaf_text c names gens)) shape) h.printed)
