-- The four lines of the generated text are read as the four clauses.
use Rattle.std.proofs.Common.{◌≡◌, ℕ, ◌+◌, false, List, [], ◌∷◌, ◌++◌, length, None, refl, sym, subst, arith, codes, append_assoc, length-append, inl}
use Rattle.cb_model.specs.declared.Kind.TheVariants as kind
use Rattle.cb_model.specs.Bits.{Each}
use Rattle.cb_model.specs.Text.{Text, joined}
use Rattle.cb_model.specs.Tokens.{Token, Lexes, layout}
use Rattle.cb_model.specs.Grammar.{Form, Forms, Name, Closed, Last, one, Plus, Chain, Exprs, a_compound, ReadsClause, fact, Rule}
use Rattle.cb_adder.proofs.Clauses.{forms_of, list_form}
use Rattle.cb_adder.proofs.Lexing.{IsName, token_of, name-lexes, mark-lexes, left_paren, right_paren, dot, Shallow, shallow-more}
use Rattle.cb_adder.proofs.Grammar.{Goes, as-chain, atom-goes, list-goes, inside, Inside, exprs-one, exprs-more}
use Rattle.cb_adder.proofs.Shapes.{bracketed, called, then_comma}
use Rattle.cb_adder.proofs.Pieces.{AllGo, joined-goes, nets-go}

-- ---- a line with a fact

pub record LineRead (w x : Text) (fs : Forms) (at line : ℕ) (rest : Text) (ts : List Token) : Type 0 where
  pub tokens : List Token
  pub lexes : Lexes at line (called w x ++ (46 ∷ (10 ∷ rest))) tokens None
  pub reads : ReadsClause tokens ts (Rule line (Name w fs) false [])
  pub shallow : Shallow 0 tokens

line-long : (at : ℕ) (w x : Text) → at + length w + 1 + length x + 1 + 1 + 1 ≡ at + length (called w x) + 2
line-long at w x = omega (arith, length-append w (40 ∷ (x ++ (41 ∷ []))), length-append x (41 ∷ []))

line-text : (w x rest : Text) → w ++ (40 ∷ (x ++ (41 ∷ (46 ∷ (10 ∷ rest))))) ≡ called w x ++ (46 ∷ (10 ∷ rest))
line-text w x rest = simp append_assoc

pub line-goes : (w x : Text) (fs : Forms) → IsName kind.Atom w → Goes Exprs 1 x fs → (at line : ℕ) (rest : Text) (ts : List Token) →
    Lexes (at + length (called w x) + 2) (line + 1) rest ts None → Shallow 0 ts → LineRead w x fs at line rest ts
line-goes w x fs n go at line rest ts lx sh =
    let d : Token = token_of kind.Dot (46 ∷ []) (at + length w + 1 + length x + 1) line in
    let dl : Lexes (at + length w + 1 + length x + 1) line (46 ∷ (10 ∷ rest)) (d ∷ ts) None =
    mark-lexes 46 kind.Dot (10 ∷ rest) (at + length w + 1 + length x + 1) line ts dot
    (layout refl (subst (λ k. Lexes k (line + 1) rest ts None) (sym (line-long at w x)) lx)) in
    let ds : Shallow 0 (d ∷ ts) = shallow-more 0 0 d ts refl (omega arith) sh in
    let q : Inside Exprs 0 40 41 kind.LeftParen kind.RightParen x fs (at + length w) line (46 ∷ (10 ∷ rest)) (d ∷ ts) =
    inside Exprs 0 40 41 kind.LeftParen kind.RightParen x fs (omega arith) left_paren right_paren refl (λ us. refl) (λ us. refl) go (at + length w) line (46 ∷ (10 ∷ rest)) (d ∷ ts) dl ds in
    let l : Token = token_of kind.LeftParen (40 ∷ []) (at + length w) line in
    record {
      tokens = token_of kind.Atom w at line ∷ l ∷ q.inner;
      lexes = subst (λ t. Lexes at line t (token_of kind.Atom w at line ∷ l ∷ q.inner) None) (line-text w x rest)
          (name-lexes kind.Atom w (40 ∷ (x ++ (41 ∷ (46 ∷ (10 ∷ rest))))) at line (l ∷ q.inner) n refl q.lexes);
      reads = fact d (a_compound _ fs (inl refl) refl q.reads refl refl) refl refl;
      shallow = shallow-more 0 0 (token_of kind.Atom w at line) (l ∷ q.inner) refl (omega arith) q.shallow;
    }

-- ---- the arguments of facts

abbrev pub module_args : Text → Text → List Text → Text → List Text → Text → List Text → Text
module_args name x xs y ys z zs =
    then_comma name (then_comma (bracketed (joined (codes ",") (x ∷ xs))) (then_comma (bracketed (joined (codes ",") (y ∷ ys))) (bracketed (joined (codes ",") (z ∷ zs)))))

pub module-goes : (name x : Text) (xs : List Text) (y : Text) (ys : List Text) (z : Text) (zs : List Text) (f : Form) (fs : List Form) → IsName kind.Atom name → Each (IsName kind.Variable) (x ∷ xs) →
    Each (IsName kind.Variable) (y ∷ ys) → Goes (Chain Plus) 2 z (one f) → AllGo 2 zs fs →
    Goes Exprs 1 (module_args name x xs y ys z zs) (forms_of (Name name Last ∷ list_form (x ∷ xs) ∷ list_form (y ∷ ys) ∷ Closed (forms_of (f ∷ fs)) ∷ []))
module-goes name x xs y ys z zs f fs n hx hy go all =
    let last : Text = bracketed (joined (codes ",") (z ∷ zs)) in
    let outs : Text = bracketed (joined (codes ",") (y ∷ ys)) in
    let ins : Text = bracketed (joined (codes ",") (x ∷ xs)) in
    exprs-more 1 name (then_comma ins (then_comma outs last)) (Name name Last) (forms_of (list_form (x ∷ xs) ∷ list_form (y ∷ ys) ∷ Closed (forms_of (f ∷ fs)) ∷ [])) (omega arith)
    (as-chain 1 name (Name name Last) (atom-goes 1 name (omega arith) n))
    (exprs-more 1 ins (then_comma outs last) (list_form (x ∷ xs)) (forms_of (list_form (y ∷ ys) ∷ Closed (forms_of (f ∷ fs)) ∷ [])) (omega arith) (nets-go 1 x xs (omega arith) hx)
    (exprs-more 1 outs last (list_form (y ∷ ys)) (forms_of (Closed (forms_of (f ∷ fs)) ∷ [])) (omega arith) (nets-go 1 y ys (omega arith) hy)
    (exprs-one 1 last (Closed (forms_of (f ∷ fs)))
    (as-chain 1 last (Closed (forms_of (f ∷ fs))) (list-goes 1 (joined (codes ",") (z ∷ zs)) (forms_of (f ∷ fs)) (omega arith) (joined-goes 2 z f zs fs (omega arith) go all))))))

abbrev pub spec_args : Text → Text → List Text → Text → List Text → Text
spec_args name x xs z zs = then_comma name (then_comma (bracketed (joined (codes ",") (x ∷ xs))) (bracketed (joined (codes ",") (z ∷ zs))))

pub spec-goes : (name x : Text) (xs : List Text) (z : Text) (zs : List Text) (f : Form) (fs : List Form) → IsName kind.Atom name → Each (IsName kind.Variable) (x ∷ xs) →
    Goes (Chain Plus) 2 z (one f) → AllGo 2 zs fs → Goes Exprs 1 (spec_args name x xs z zs) (forms_of (Name name Last ∷ list_form (x ∷ xs) ∷ Closed (forms_of (f ∷ fs)) ∷ []))
spec-goes name x xs z zs f fs n hx go all =
    let last : Text = bracketed (joined (codes ",") (z ∷ zs)) in
    let ins : Text = bracketed (joined (codes ",") (x ∷ xs)) in
    exprs-more 1 name (then_comma ins last) (Name name Last) (forms_of (list_form (x ∷ xs) ∷ Closed (forms_of (f ∷ fs)) ∷ [])) (omega arith)
    (as-chain 1 name (Name name Last) (atom-goes 1 name (omega arith) n))
    (exprs-more 1 ins last (list_form (x ∷ xs)) (forms_of (Closed (forms_of (f ∷ fs)) ∷ [])) (omega arith) (nets-go 1 x xs (omega arith) hx)
    (exprs-one 1 last (Closed (forms_of (f ∷ fs)))
    (as-chain 1 last (Closed (forms_of (f ∷ fs))) (list-goes 1 (joined (codes ",") (z ∷ zs)) (forms_of (f ∷ fs)) (omega arith) (joined-goes 2 z f zs fs (omega arith) go all)))))
