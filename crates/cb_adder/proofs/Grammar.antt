-- Pieces of a text that are read as forms.
use Rattle.std.proofs.Common.{◌≡◌, ℕ, suc, ◌+◌, ◌<◌, false, List, [], ◌∷◌, ◌++◌, length, None, refl, sym, ◌∙◌, ap, subst, arith, length-append, append_assoc, inl}
use Rattle.cb_model.specs.declared.Kind.{Kind}
use Rattle.cb_model.specs.declared.Kind.TheVariants as kind
use Rattle.cb_model.specs.Text.{Text, is_word}
use Rattle.cb_model.specs.Tokens.{Token, Lexes}
use Rattle.cb_model.specs.Grammar.{Form, Forms, Variable, Name, Closed, And, Xor, Or, Last, More, one, Op, Plus, Hash, Star, Sym, tighter, Chain, Unary, Prim, Call, Exprs, Reads, a_chain, no_operand, operand, a_prim, a_variable, a_call, a_group, a_list, an_atom, a_compound, exprs, no_comma, a_comma, nest, after_atom}
use Rattle.cb_adder.proofs.Clauses.{forms_of}
use Rattle.cb_adder.proofs.Lexing.{Stops, IsName, token_of, name-lexes, Mark, mark-lexes, left_paren, right_paren, left_bracket, right_bracket, comma, hash, star, plus, reps, Shallow, shallow-more}

-- tokens of a text that go on as these do, and what they are read as
pub record Read (s : Sym) (d : ℕ) (x : Text) (f : Forms) (at line : ℕ) (rest : Text) (ts : List Token) : Type 0 where
  pub tokens : List Token
  pub lexes : Lexes at line (x ++ rest) tokens None
  pub reads : Reads s tokens ts f
  pub shallow : Shallow d tokens

-- wherever the text stands, under so many open parentheses and brackets, it is read as this
abbrev pub Goes : Sym → ℕ → Text → Forms → Type 0
Goes s d x f = (at line : ℕ) (rest : Text) (ts : List Token) → Stops rest → Lexes (at + length x) line rest ts None → Shallow d ts → Read s d x f at line rest ts

-- the same text as another symbol
pub goes-as : (s r : Sym) (d : ℕ) (x : Text) (f g : Forms) → ((us ts : List Token) → Reads s us ts f → Reads r us ts g) → Goes s d x f → Goes r d x g
goes-as s r d x f g h go at line rest ts st l sh = let q = go at line rest ts st l sh in record { tokens = q.tokens; lexes = q.lexes; reads = h q.tokens ts q.reads; shallow = q.shallow }

single : (op : Op) (x : Form) (us ts : List Token) → Reads (tighter op) us ts (one x) → Reads (Chain op) us ts (one x)
single op x us ts r = a_chain ts x Last r no_operand refl

pub as-star : (d : ℕ) (x : Text) (f : Form) → Goes Unary d x (one f) → Goes (Chain Star) d x (one f)
as-star d x f go = goes-as Unary (Chain Star) d x (one f) (one f) (single Star f) go

pub as-hash : (d : ℕ) (x : Text) (f : Form) → Goes (Chain Star) d x (one f) → Goes (Chain Hash) d x (one f)
as-hash d x f go = goes-as (Chain Star) (Chain Hash) d x (one f) (one f) (single Hash f) go

pub as-plus : (d : ℕ) (x : Text) (f : Form) → Goes (Chain Hash) d x (one f) → Goes (Chain Plus) d x (one f)
as-plus d x f go = goes-as (Chain Hash) (Chain Plus) d x (one f) (one f) (single Plus f) go

pub as-chain : (d : ℕ) (x : Text) (f : Form) → Goes Unary d x (one f) → Goes (Chain Plus) d x (one f)
as-chain d x f go = as-plus d x f (as-hash d x f (as-star d x f go))

-- ---- names

pub variable-goes : (d : ℕ) (x : Text) → d < 257 → IsName kind.Variable x → Goes Unary d x (one (Variable x))
variable-goes d x l n at line rest ts st lx sh = record {
  tokens = token_of kind.Variable x at line ∷ ts;
  lexes = name-lexes kind.Variable x rest at line ts n st lx;
  reads = a_prim (a_variable refl refl);
  shallow = shallow-more d d (token_of kind.Variable x at line) ts refl l sh;
}

-- an atom ends as a term, or a parenthesis follows
atom-stays : (d : ℕ) (ts : List Token) → after_atom ts (0 ∷ reps d) ≡ 0 ∷ reps d
atom-stays d [] = refl
atom-stays d (t ∷ ts) = by t.kind t.text t.start t.stop t.line
  where
    by : (k : Kind) (w : Text) (a b n : ℕ) → after_atom (record { kind = k; text = w; start = a; stop = b; line = n } ∷ ts) (0 ∷ reps d) ≡ 0 ∷ reps d
    by kind.LeftParen w a b n = refl
    by _ w a b n = refl

pub atom-goes : (d : ℕ) (x : Text) → d < 257 → IsName kind.Atom x → Goes Unary d x (one (Name x Last))
atom-goes d x l n at line rest ts st lx sh = record {
  tokens = token_of kind.Atom x at line ∷ ts;
  lexes = name-lexes kind.Atom x rest at line ts n st lx;
  reads = a_prim (a_call (an_atom (inl refl) refl));
  shallow = shallow-more d d (token_of kind.Atom x at line) ts (atom-stays d ts) l sh;
}

-- ---- between brackets

-- a text between two marks, the first of which opens and the second of which closes
pub record Inside (s : Sym) (d : ℕ) (l r : ℕ) (kl kr : Kind) (x : Text) (f : Forms) (at line : ℕ) (rest : Text) (ts : List Token) : Type 0 where
  pub inner : List Token
  pub lexes : Lexes at line (l ∷ (x ++ (r ∷ rest))) (token_of kl (l ∷ []) at line ∷ inner) None
  pub reads : Reads s inner (token_of kr (r ∷ []) (at + 1 + length x) line ∷ ts) f
  pub shallow : Shallow d (token_of kl (l ∷ []) at line ∷ inner)

pub inside : (s : Sym) (d l r : ℕ) (kl kr : Kind) (x : Text) (f : Forms) → suc d < 257 → Mark l kl → Mark r kr → is_word r ≡ false →
    ((ts : List Token) → nest kl ts (0 ∷ reps d) ≡ 0 ∷ reps (suc d)) → ((ts : List Token) → nest kr ts (0 ∷ reps (suc d)) ≡ 0 ∷ reps d) → Goes s (suc d) x f →
    (at line : ℕ) (rest : Text) (ts : List Token) → Lexes (at + 1 + length x + 1) line rest ts None → Shallow d ts → Inside s d l r kl kr x f at line rest ts
inside s d l r kl kr x f small ml mr nw opens closes go at line rest ts lx sh =
    let end = token_of kr (r ∷ []) (at + 1 + length x) line in
    let h1 : Lexes (at + 1 + length x) line (r ∷ rest) (end ∷ ts) None = mark-lexes r kr rest (at + 1 + length x) line ts mr lx in
    let s1 : Shallow (suc d) (end ∷ ts) = shallow-more (suc d) d end ts (closes ts) (omega arith) sh in
    let q : Read s (suc d) x f (at + 1) line (r ∷ rest) (end ∷ ts) = go (at + 1) line (r ∷ rest) (end ∷ ts) nw h1 s1 in
    record {
      inner = q.tokens;
      lexes = mark-lexes l kl (x ++ (r ∷ rest)) at line q.tokens ml q.lexes;
      reads = q.reads;
      shallow = shallow-more d (suc d) (token_of kl (l ∷ []) at line) q.tokens (opens q.tokens) small q.shallow;
    }

closed-long : (at l r : ℕ) (x : Text) → at + length (l ∷ (x ++ (r ∷ []))) ≡ at + 1 + length x + 1
closed-long at l r x = omega (arith, length-append x (r ∷ []))

closed-text : (l r : ℕ) (x rest : Text) → l ∷ (x ++ (r ∷ rest)) ≡ (l ∷ (x ++ (r ∷ []))) ++ rest
closed-text l r x rest = ap (λ t. l ∷ t) (sym (append_assoc x (r ∷ []) rest))

pub list-goes : (d : ℕ) (x : Text) (fs : Forms) → suc d < 257 → Goes Exprs (suc d) x fs → Goes Unary d (91 ∷ (x ++ (93 ∷ []))) (one (Closed fs))
list-goes d x fs small go at line rest ts st lx sh =
    let q = inside Exprs d 91 93 kind.LeftBracket kind.RightBracket x fs small left_bracket right_bracket refl (λ us. refl) (λ us. refl) go at line rest ts
    (subst (λ k. Lexes k line rest ts None) (closed-long at 91 93 x) lx) sh in
    record {
      tokens = token_of kind.LeftBracket (91 ∷ []) at line ∷ q.inner;
      lexes = subst (λ t. Lexes at line t (token_of kind.LeftBracket (91 ∷ []) at line ∷ q.inner) None) (closed-text 91 93 x rest) q.lexes;
      reads = a_prim (a_list _ refl q.reads refl);
      shallow = q.shallow;
    }

pub group-goes : (d : ℕ) (x : Text) (f : Form) → suc d < 257 → Goes (Chain Plus) (suc d) x (one f) → Goes Unary d (40 ∷ (x ++ (41 ∷ []))) (one f)
group-goes d x f small go at line rest ts st lx sh =
    let q = inside (Chain Plus) d 40 41 kind.LeftParen kind.RightParen x (one f) small left_paren right_paren refl (λ us. refl) (λ us. refl) go at line rest ts
    (subst (λ k. Lexes k line rest ts None) (closed-long at 40 41 x) lx) sh in
    record {
      tokens = token_of kind.LeftParen (40 ∷ []) at line ∷ q.inner;
      lexes = subst (λ t. Lexes at line t (token_of kind.LeftParen (40 ∷ []) at line ∷ q.inner) None) (closed-text 40 41 x rest) q.lexes;
      reads = a_prim (a_group _ refl q.reads refl);
      shallow = q.shallow;
    }

-- a name with its arguments
pub call-goes : (d : ℕ) (w x : Text) (fs : Forms) → suc d < 257 → IsName kind.Atom w → Goes Exprs (suc d) x fs → Goes Call d (w ++ (40 ∷ (x ++ (41 ∷ [])))) (one (Name w fs))
call-goes d w x fs small n go at line rest ts st lx sh =
    let q = inside Exprs d 40 41 kind.LeftParen kind.RightParen x fs small left_paren right_paren refl (λ us. refl) (λ us. refl) go (at + length w) line rest ts
    (subst (λ k. Lexes k line rest ts None) (let e = length-append w (40 ∷ (x ++ (41 ∷ []))) in let c = closed-long (at + length w) 40 41 x in
    let z : at + length (w ++ (40 ∷ (x ++ (41 ∷ [])))) ≡ at + length w + 1 + length x + 1 = omega (arith, e, c) in z) lx) sh in
    let l = token_of kind.LeftParen (40 ∷ []) (at + length w) line in
    record {
      tokens = token_of kind.Atom w at line ∷ l ∷ q.inner;
      lexes = subst (λ t. Lexes at line t (token_of kind.Atom w at line ∷ l ∷ q.inner) None) (ap (λ t. w ++ t) (closed-text 40 41 x rest) ∙ sym (append_assoc w (40 ∷ (x ++ (41 ∷ []))) rest))
          (name-lexes kind.Atom w (40 ∷ (x ++ (41 ∷ rest))) at line (l ∷ q.inner) n refl q.lexes);
      reads = a_compound _ fs (inl refl) refl q.reads refl refl;
      shallow = shallow-more d d (token_of kind.Atom w at line) (l ∷ q.inner) refl (omega arith) q.shallow;
    }

pub term-goes : (d : ℕ) (w x : Text) (fs : Forms) → suc d < 257 → IsName kind.Atom w → Goes Exprs (suc d) x fs → Goes (Chain Plus) d (w ++ (40 ∷ (x ++ (41 ∷ [])))) (one (Name w fs))
term-goes d w x fs small n go = as-chain d (w ++ (40 ∷ (x ++ (41 ∷ [])))) (Name w fs)
    (goes-as Call Unary d (w ++ (40 ∷ (x ++ (41 ∷ [])))) (one (Name w fs)) (one (Name w fs)) (λ us ts r. a_prim (a_call r)) (call-goes d w x fs small n go))

-- ---- a mark between two texts

-- the tokens of the two with the mark between them
pub record Between (s r : Sym) (d c : ℕ) (k : Kind) (x y : Text) (f g : Forms) (at line : ℕ) (rest : Text) (ts : List Token) : Type 0 where
  pub tokens : List Token
  pub middle : List Token
  pub lexes : Lexes at line ((x ++ (c ∷ y)) ++ rest) tokens None
  pub left : Reads s tokens (token_of k (c ∷ []) (at + length x) line ∷ middle) f
  pub right : Reads r middle ts g
  pub shallow : Shallow d tokens

pub between : (s r : Sym) (d c : ℕ) (k : Kind) (x y : Text) (f g : Forms) → d < 257 → Mark c k → is_word c ≡ false →
    ((ts : List Token) → nest k ts (0 ∷ reps d) ≡ 0 ∷ reps d) → Goes s d x f → Goes r d y g →
    (at line : ℕ) (rest : Text) (ts : List Token) → Stops rest → Lexes (at + length (x ++ (c ∷ y))) line rest ts None → Shallow d ts → Between s r d c k x y f g at line rest ts
between s r d c k x y f g small m nw stays go then at line rest ts st lx sh =
    let e = length-append x (c ∷ y) in
    let z : at + length (x ++ (c ∷ y)) ≡ at + length x + 1 + length y = omega (arith, e) in
    let q : Read r d y g (at + length x + 1) line rest ts = then (at + length x + 1) line rest ts st (subst (λ n. Lexes n line rest ts None) z lx) sh in
    let t = token_of k (c ∷ []) (at + length x) line in
    let p : Read s d x f at line (c ∷ (y ++ rest)) (t ∷ q.tokens) =
    go at line (c ∷ (y ++ rest)) (t ∷ q.tokens) nw (mark-lexes c k (y ++ rest) (at + length x) line q.tokens m q.lexes) (shallow-more d d t q.tokens (stays q.tokens) small q.shallow) in
    record {
      tokens = p.tokens;
      middle = q.tokens;
      lexes = subst (λ w. Lexes at line w p.tokens None) (sym (append_assoc x (c ∷ y) rest)) p.lexes;
      left = p.reads;
      right = q.reads;
      shallow = p.shallow;
    }

-- expressions with commas
pub exprs-one : (d : ℕ) (x : Text) (f : Form) → Goes (Chain Plus) d x (one f) → Goes Exprs d x (one f)
exprs-one d x f go = goes-as (Chain Plus) Exprs d x (one f) (one f) (λ us ts r. exprs ts r no_comma) go

pub exprs-more : (d : ℕ) (x y : Text) (f : Form) (fs : Forms) → d < 257 → Goes (Chain Plus) d x (one f) → Goes Exprs d y fs → Goes Exprs d (x ++ (44 ∷ y)) (More f fs)
exprs-more d x y f fs small go then at line rest ts st lx sh =
    let b = between (Chain Plus) Exprs d 44 kind.Comma x y (one f) fs small comma refl (λ us. refl) go then at line rest ts st lx sh in
    record { tokens = b.tokens; lexes = b.lexes; reads = exprs _ b.left (a_comma refl b.right); shallow = b.shallow }

-- a product, a sum, and a sum without carry of three
pub star-goes : (d : ℕ) (x y : Text) (f g : Form) → d < 257 → Goes Unary d x (one f) → Goes Unary d y (one g) → Goes (Chain Star) d (x ++ (42 ∷ y)) (one (And (forms_of (f ∷ g ∷ []))))
star-goes d x y f g small go then at line rest ts st lx sh =
    let b = between Unary Unary d 42 kind.Star x y (one f) (one g) small star refl (λ us. refl) go then at line rest ts st lx sh in
    record { tokens = b.tokens; lexes = b.lexes; reads = a_chain {op = Star} _ f (one g) b.left (operand {op = Star} _ refl b.right no_operand) refl; shallow = b.shallow }

pub plus-goes : (d : ℕ) (x y : Text) (f g : Form) → d < 257 → Goes (Chain Hash) d x (one f) → Goes (Chain Hash) d y (one g) → Goes (Chain Plus) d (x ++ (43 ∷ y)) (one (Or (forms_of (f ∷ g ∷ []))))
plus-goes d x y f g small go then at line rest ts st lx sh =
    let b = between (Chain Hash) (Chain Hash) d 43 kind.Plus x y (one f) (one g) small plus refl (λ us. refl) go then at line rest ts st lx sh in
    record { tokens = b.tokens; lexes = b.lexes; reads = a_chain {op = Plus} _ f (one g) b.left (operand {op = Plus} _ refl b.right no_operand) refl; shallow = b.shallow }

pub hash-goes : (d : ℕ) (x y z : Text) (f g h : Form) → d < 257 → Goes (Chain Star) d x (one f) → Goes (Chain Star) d y (one g) → Goes (Chain Star) d z (one h) →
    Goes (Chain Hash) d (x ++ (35 ∷ (y ++ (35 ∷ z)))) (one (Xor (forms_of (f ∷ g ∷ h ∷ []))))
hash-goes d x y z f g h small go then last at line rest ts st lx sh =
    let e = length-append x (35 ∷ (y ++ (35 ∷ z))) in
    let w : at + length (x ++ (35 ∷ (y ++ (35 ∷ z)))) ≡ at + length x + 1 + length (y ++ (35 ∷ z)) = omega (arith, e) in
    let b = between (Chain Star) (Chain Star) d 35 kind.Hash y z (one g) (one h) small hash refl (λ us. refl) then last (at + length x + 1) line rest ts st (subst (λ n. Lexes n line rest ts None) w lx) sh in
    let t = token_of kind.Hash (35 ∷ []) (at + length x) line in
    let p : Read (Chain Star) d x (one f) at line (35 ∷ ((y ++ (35 ∷ z)) ++ rest)) (t ∷ b.tokens) =
    go at line (35 ∷ ((y ++ (35 ∷ z)) ++ rest)) (t ∷ b.tokens) refl (mark-lexes 35 kind.Hash ((y ++ (35 ∷ z)) ++ rest) (at + length x) line b.tokens hash b.lexes) (shallow-more d d t b.tokens refl small b.shallow) in
    record {
      tokens = p.tokens;
      lexes = subst (λ w. Lexes at line w p.tokens None) (sym (append_assoc x (35 ∷ (y ++ (35 ∷ z))) rest)) p.lexes;
      reads = a_chain {op = Hash} _ f (forms_of (g ∷ h ∷ [])) p.reads (operand {op = Hash} _ refl b.left (operand {op = Hash} _ refl b.right no_operand)) refl;
      shallow = p.shallow;
    }
