-- The forms of written terms, by their constructors.
use Rattle.std.specs.Prelude.{MatchResult, Option, option_map}
use Rattle.std.proofs.Common.{◌≡◌, Bor, ℕ, List, [], ◌∷◌, ◌++◌, ◌∙◌, map, Some, None, Result, Ok, Err, refl, ap}
use Rattle.std.proofs.lemmas.List.{map-append}
use Rattle.cb_model.specs.declared.RawTerm.{RawTerm}
use Rattle.cb_model.specs.declared.RawTerm.TheVariants as raw
use Rattle.cb_model.specs.Grammar.{Op, Plus, Hash, Star, Form, Name, Closed, Open, Not, Last, chain}
use Rattle.cb_model.specs.Forms.{form_of, forms_of, list_form}
use Rattle.cb_laws.proofs.FormValues.{form_not, form_closed, form_open, form_name}
use Rattle.cb_syntax.specs.Steps.{joined_form}

pub name_with : (x : Bor (List ℕ)) (xs : List RawTerm) (n : List ℕ) → x.now ≡ n → form_of (raw.Name x xs) ≡ Name n (forms_of (map form_of xs))
name_with x xs n e = form_name x xs ∙ ap (λ (m : List ℕ). Name m (forms_of (map form_of xs))) e

pub name_none : (x : Bor (List ℕ)) (xs : List RawTerm) (n : List ℕ) → x.now ≡ n → xs ≡ [] → form_of (raw.Name x xs) ≡ Name n Last
name_none x xs n e h = name_with x xs n e ∙ ap (λ (ys : List RawTerm). Name n (forms_of (map form_of ys))) h

pub list_none : (xs : List RawTerm) → xs ≡ [] → form_of (raw.List xs None) ≡ Closed Last
list_none xs h = form_closed xs ∙ ap (λ (ys : List RawTerm). Closed (forms_of (map form_of ys))) h

pub list_of : (xs : List RawTerm) (y : Option RawTerm) → form_of (raw.List xs y) ≡ list_form (forms_of (map form_of xs)) (option_map form_of y)
list_of xs None = form_closed xs
list_of xs (Some y) = form_open xs y

pub not_of : (y z : RawTerm) → y ≡ z → form_of (raw.Not y) ≡ Not (form_of z)
not_of y z h = form_not y ∙ ap (λ (v : RawTerm). Not (form_of v)) h

pub pushed : (xs ys : List RawTerm) (x : RawTerm) → ys ≡ xs ++ x ∷ [] → map form_of ys ≡ map form_of xs ++ form_of x ∷ []
pushed xs ys x e = ap (map form_of) e ∙ map-append form_of xs (x ∷ [])

pub match_map : {A E : Type 0} (r : Result A E) (P Q : A → Type 0) (S T : E → Type 0) → MatchResult r P S → ((a : A) → P a → Q a) → ((e : E) → S e → T e) → MatchResult r Q T
match_map (Ok a) P Q S T m f g = f a m
match_map (Err e) P Q S T m f g = g e m

joined_chain : (op : Op) (x y : Form) (fs : List Form) → joined_form op (forms_of (x ∷ y ∷ fs)) ≡ chain op x (forms_of (y ∷ fs))
joined_chain Plus x y fs = refl
joined_chain Hash x y fs = refl
joined_chain Star x y fs = refl

pub chain_built : (op : Op) (x : RawTerm) (xs none one all : List RawTerm) (z : RawTerm) → (xs ≡ [] → ⊥) → none ≡ [] → one ≡ none ++ x ∷ [] → all ≡ one ++ xs →
    form_of z ≡ joined_form op (forms_of (map form_of all)) → form_of z ≡ chain op (form_of x) (forms_of (map form_of xs))
chain_built op x [] none one all z n a b c h = absurd (n refl)
chain_built op x (y ∷ ys) none one all z n a b c h =
    h ∙ ap (λ (l : List RawTerm). joined_form op (forms_of (map form_of l))) (c ∙ ap (λ (l : List RawTerm). l ++ y ∷ ys) (b ∙ ap (λ (l : List RawTerm). l ++ x ∷ []) a))
    ∙ joined_chain op (form_of x) (form_of y) (map form_of ys)

pub pushed_by : {A B : Type 0} (f : A → B) (xs ys : List A) (x : A) → ys ≡ xs ++ x ∷ [] → map f ys ≡ map f xs ++ f x ∷ []
pushed_by f xs ys x e = ap (map f) e ∙ map-append f xs (x ∷ [])
