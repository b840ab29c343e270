-- The whole text from its pieces.
use Rattle.std.proofs.Common.{◌≡◌, ℕ, List, [], ◌∷◌, ◌++◌, codes, sym, ap, ◌∙◌, append_assoc, append-nil}
use Rattle.cb_model.specs.Text.{Text}
use Rattle.cb_model.specs.Adder.{ports_text, outs_text, exprs_text, adder_text}
use Rattle.cb_gen.specs.Parts.{parts_text}

-- a text behind pieces
behind : Text → List Text → Text
behind t [] = t
behind t (x ∷ xs) = behind (t ++ x) xs

-- pieces one behind another
all_of : List Text → Text
all_of [] = []
all_of (x ∷ xs) = x ++ all_of xs

behind-all : (t : Text) (xs : List Text) → behind t xs ≡ t ++ all_of xs
unfolding behind all_of
behind-all t [] = sym (append-nil t)
behind-all t (x ∷ xs) = behind-all (t ++ x) xs ∙ append_assoc t x (all_of xs)

-- the pieces of the text
abbrev pieces : ℕ → List Text
pieces n =
    codes "module(full,[A,B,C],[S,D],[half([A,B],[T,U]),half([T,C],[S,V]),or([U,V],[D])]).\n" ∷ codes "module(adder,[" ∷ ports_text n ∷ codes "],[" ∷ outs_text n ∷ codes "],[" ∷ parts_text n
    ∷ codes "]).\nspec(adder,[" ∷ ports_text n ∷ codes "],[" ∷ exprs_text n ∷ codes "]).\n" ∷ []

-- the last two lines are theirs
lines-are : (m p s o q z e end : Text) → (m ++ p ++ s ++ o ++ s ++ q ++ z) ++ (10 ∷ ((e ++ p ++ s ++ end ++ z) ++ (10 ∷ []))) ≡ m ++ (p ++ (s ++ (o ++ (s ++ (q ++ (z ++ (10 ∷ (e ++ (p ++ (s ++ (end ++ (z ++ (10 ∷ [])))))))))))))
lines-are m p s o q z e end = simp append_assoc

-- one piece after another was put at the end
pub whole-text : (n : ℕ) (t0 t1 t2 t3 t4 t5 t6 t7 t8 t9 t10 t11 t12 : Text) → t0 ≡ codes "module(half,[A,B],[S,C],[xor([A,B],[S]),and([A,B],[C])]).\n"
    → t1 ≡ t0 ++ codes "module(full,[A,B,C],[S,D],[half([A,B],[T,U]),half([T,C],[S,V]),or([U,V],[D])]).\n" → t2 ≡ t1 ++ codes "module(adder,[" → t3 ≡ t2 ++ ports_text n
    → t4 ≡ t3 ++ codes "],[" → t5 ≡ t4 ++ outs_text n → t6 ≡ t5 ++ codes "],[" → t7 ≡ t6 ++ parts_text n → t8 ≡ t7 ++ codes "]).\nspec(adder,[" → t9 ≡ t8 ++ ports_text n
    → t10 ≡ t9 ++ codes "],[" → t11 ≡ t10 ++ exprs_text n → t12 ≡ t11 ++ codes "]).\n" → t12 ≡ adder_text n
unfolding behind all_of
whole-text n t0 t1 t2 t3 t4 t5 t6 t7 t8 t9 t10 t11 t12 e0 e1 e2 e3 e4 e5 e6 e7 e8 e9 e10 e11 e12 =
    let steps : t12 ≡ behind t0 (pieces n) =
    e12 ∙ ap (λ t. t ++ codes "]).\n") (e11 ∙ ap (λ t. t ++ exprs_text n) (e10 ∙ ap (λ t. t ++ codes "],[") (e9 ∙ ap (λ t. t ++ ports_text n) (e8 ∙ ap (λ t. t ++ codes "]).\nspec(adder,[")
    (e7 ∙ ap (λ t. t ++ parts_text n) (e6 ∙ ap (λ t. t ++ codes "],[") (e5 ∙ ap (λ t. t ++ outs_text n) (e4 ∙ ap (λ t. t ++ codes "],[") (e3 ∙ ap (λ t. t ++ ports_text n)
    (e2 ∙ ap (λ t. t ++ codes "module(adder,[") e1)))))))))) in
    steps ∙ behind-all t0 (pieces n) ∙ ap (λ t. t ++ all_of (pieces n)) e0
    ∙ ap (λ t. codes "module(half,[A,B],[S,C],[xor([A,B],[S]),and([A,B],[C])]).\n" ++ (codes "module(full,[A,B,C],[S,D],[half([A,B],[T,U]),half([T,C],[S,V]),or([U,V],[D])]).\n" ++ t)) (sym (lines-are (codes "module(adder,[") (ports_text n) (codes "],[") (outs_text n) (parts_text n) (codes "]).") (codes "spec(adder,[") (exprs_text n)))
