-- Each text is read as something.
use Rattle.std.proofs.Common.{◌≡◌, ◌⊎◌, inl, inr, ℕ, zero, suc, ◌+◌, ◌-◌, ◌^◌, ◌<◌, ◌≤◌, Bool, true, false, ◌==◌, if◌then◌else◌, List, [], ◌∷◌, length, take, drop, refl, sym, subst, arith, ℤ, pos, negsuc}
use Rattle.std.proofs.lemmas.Bool.{cases_eq, cases_lt}
use Rattle.std.specs.Prelude.{Option, Some, None, FitsSigned}
use Rattle.std.specs.Int.{w64}
use Rattle.cb_model.specs.declared.Kind.{Kind}
use Rattle.cb_model.specs.declared.Kind.TheVariants as kind
use Rattle.cb_model.specs.Text.{Text}
use Rattle.cb_model.specs.Tokens.{Token, Fault, Byte, Number, Quote, spelled, Longest, NoToken, InRange, is_layout, from_newline, Lexes, ended, layout, comment, token, number, quote, byte}
use Rattle.cb_model.specs.Grammar.{ReadsAll, no_more, one_more, Reading, Whole, Lexed, Syntax, Unfinished, Deep, IsReading, whole, lexed, syntax_at, deep_at, unfinished, ReadsClause, ReadsQuery, FormClause, FormQuery, line_of, clause_start}
use Rattle.cb_laws.proofs.Search.{Decision}
use Rattle.cb_syntax.specs.Machine.{Item, Clauses, Queries, run}
use Rattle.cb_syntax.specs.Machine as out
use Rattle.cb_syntax.specs.declared.read.Stop.TheVariants as stop
use Rattle.cb_syntax.proofs.Parts.{ReadsMany, no_piece, a_piece}
use Rattle.cb_syntax.proofs.Run.{Says, says}
use Rattle.cb_syntax.proofs.Whole.{Starts, clauses_start, queries_start, stopped, whole as whole_text}

-- ---- the longest token at the front

module _ (s : Text) where
  abbrev ALongest : Type 0
  ALongest = (n : ℕ) × (k : Kind) × Longest s n k

  -- no longer front is a token
  abbrev NoneAbove : ℕ → Type 0
  NoneAbove n = (m : ℕ) → n < m → m ≤ length s → spelled (take m s) ≡ None

  none_below : (n : ℕ) → NoneAbove (suc n) → spelled (take (suc n) s) ≡ None → NoneAbove n
  none_below n above here m l k = elim (cases_eq m (suc n)) [
    | inl e ↦ subst (λ i. spelled (take i s) ≡ None) (sym e) here
    | inr e ↦ above m (omega (arith, l, e)) k
  ]

  scan : (n : ℕ) → n ≤ length s → NoneAbove n → ALongest ⊎ NoToken s
  scan zero l above = step (spelled (take 0 s)) refl
    where
      step : (o : Option Kind) → spelled (take 0 s) ≡ o → ALongest ⊎ NoToken s
      step (Some k) e = inl (0, k, record { within = l; token = e; longest = above })
      step None e = inr (λ m k. elim (cases_eq m 0) [ inl z ↦ subst (λ i. spelled (take i s) ≡ None) (sym z) e | inr z ↦ above m (omega (arith, z)) k ])
  scan (suc n) l above = step (spelled (take (suc n) s)) refl (λ e. scan n (omega (arith, l)) (none_below n above e))
    where
      step : (o : Option Kind) → spelled (take (suc n) s) ≡ o → (spelled (take (suc n) s) ≡ None → ALongest ⊎ NoToken s) → ALongest ⊎ NoToken s
      step (Some k) e go = inl (suc n, k, record { within = l; token = e; longest = above })
      step None e go = go e

  longest_or_none : ALongest ⊎ NoToken s
  longest_or_none = scan (length s) (omega arith) (λ m l k. absurd (omega (arith, l, k)))

fits_decided : (z : ℤ) → Decision (FitsSigned w64 z)
fits_decided (pos n) = elim (cases_lt n (2 ^ 63)) [ inl l ↦ inl (record { sfits = l }) | inr g ↦ inr (λ f. let h = f.sfits in omega (arith, h, g)) ]
fits_decided (negsuc n) = elim (cases_lt n (2 ^ 63)) [ inl l ↦ inl (record { sfits = l }) | inr g ↦ inr (λ f. let h = f.sfits in omega (arith, h, g)) ]

range_decided : (k : Kind) → Decision (InRange k)
range_decided (kind.Integer z) = fits_decided z
range_decided _ = inl tt

-- ---- the tokens

-- the tokens of the rest of a text
abbrev Read : ℕ → ℕ → Text → Type 0
Read at line s = (ts : List Token) × (f : Option Fault) × Lexes at line s ts f

newline_shorter : (s : Text) → length (from_newline s) ≤ length s
newline_shorter [] = omega arith
newline_shorter (x ∷ s) = step (x == 10) (newline_shorter s)
  where
    step : (b : Bool) → length (from_newline s) ≤ length s → length (if b then x ∷ s else from_newline s) ≤ length (x ∷ s)
    step true h = omega arith
    step false h = omega (arith, h)

drop_shorter : (n : ℕ) (s : Text) → length (drop n s) ≤ length s
drop_shorter zero s = omega arith
drop_shorter (suc n) [] = omega arith
drop_shorter (suc n) (x ∷ s) = let h = drop_shorter n s in omega (arith, h)

-- a token isn't empty
rest_shorter : (n : ℕ) (x : ℕ) (s : Text) (k : Kind) → Longest (x ∷ s) n k → length (drop n (x ∷ s)) ≤ length s
rest_shorter zero x s k l = let e = l.token in absurd (cc)
rest_shorter (suc n) x s k l = drop_shorter n s

one_step : (at line x : ℕ) (s : Text) (n : ℕ) → length s ≤ n → ((at line : ℕ) (r : Text) → length r ≤ n → Read at line r) → Read at line (x ∷ s)
one_step at line x s n l go = by_layout (is_layout x) refl
  where
    by_range : (m : ℕ) (k : Kind) → Longest (x ∷ s) m k → Decision (InRange k) → Read at line (x ∷ s)
    by_range m k t (inl h) =
        let short = rest_shorter m x s k t in
        let r = go (at + m) line (drop m (x ∷ s)) (omega (arith, short, l)) in
        (record { kind = k; text = take m (x ∷ s); start = at; stop = at + m; line = line } ∷ r.0, r.1, token m k (record { kind = k; text = take m (x ∷ s); start = at; stop = at + m; line = line }) t h refl r.2)
    by_range m k t (inr h) = ([], Some (Number at), number m k t h)

    by_quote : is_layout x ≡ false → (x ≡ 37 → ⊥) → NoToken (x ∷ s) → (x ≡ 39) ⊎ (x ≡ 39 → ⊥) → Read at line (x ∷ s)
    by_quote e c none (inl q) = ([], Some (Quote at), subst (λ y. Lexes at line (y ∷ s) [] (Some (Quote at))) (sym q) (quote (subst (λ y. NoToken (y ∷ s)) q none)))
    by_quote e c none (inr q) = ([], Some (Byte at), byte e c q none)

    by_token : is_layout x ≡ false → (x ≡ 37 → ⊥) → ALongest (x ∷ s) ⊎ NoToken (x ∷ s) → Read at line (x ∷ s)
    by_token e c (inl t) = by_range t.0 t.1 t.2 (range_decided t.1)
    by_token e c (inr none) = by_quote e c none (cases_eq x 39)

    by_comment : is_layout x ≡ false → (x ≡ 37) ⊎ (x ≡ 37 → ⊥) → Read at line (x ∷ s)
    by_comment e (inl c) =
        let short = newline_shorter s in
        let r = go (at + (length s + 1 - length (from_newline s))) line (from_newline s) (omega (arith, short, l)) in
        (r.0, r.1, subst (λ y. Lexes at line (y ∷ s) r.0 r.1) (sym c) (comment r.2))
    by_comment e (inr c) = by_token e c (longest_or_none (x ∷ s))

    by_layout : (b : Bool) → is_layout x ≡ b → Read at line (x ∷ s)
    by_layout true e = let r = go (at + 1) (if x == 10 then line + 1 else line) s l in (r.0, r.1, layout e r.2)
    by_layout false e = by_comment e (cases_eq x 37)

lexes : (n at line : ℕ) (s : Text) → length s ≤ n → Read at line s
lexes n at line [] l = ([], None, ended)
lexes zero at line (x ∷ s) l = absurd (omega (arith, l))
lexes (suc n) at line (x ∷ s) l = one_step at line x s n (omega (arith, l)) (λ at' line' r k. lexes n at' line' r k)

-- ---- the grammar

to_all : {A : Type 0} (R : List Token → List Token → A → Type 0) (ts us : List Token) → ReadsMany R ts us → us ≡ [] → (xs : List A) × ReadsAll R ts xs
to_all R ts us no_piece e = ([], subst (λ vs. ReadsAll R vs []) (sym e) no_more)
to_all R ts us (a_piece vs x r m) e = let p = to_all R vs us m e in (x ∷ p.0, one_more vs r p.1)

module _ (A : Type 0) (R : List Token → List Token → A → Type 0) (is : List Item) (start : Starts R is) (source : Text) where
  by_outcome : (ts : List Token) → Lexes 0 1 source ts None → (o : out.Outcome) → run is (0 ∷ []) ts ≡ o → (x : Reading A) × IsReading R source x
  by_outcome ts h out.Whole e =
      let s : Says out.Whole is (0 ∷ []) ts = subst (λ p. Says p is (0 ∷ []) ts) e (says is start.good (0 ∷ []) (omega arith) ts) in
      let xs = to_all R ts [] (start.to ts s.0) refl in
      let t = whole_text A R is start ts xs.0 xs.1 e in
      (Whole xs.0, whole ts xs.0 h t.reads t.shallow)
  by_outcome ts h out.Ended e =
      let n = stopped A R is start ts stop.Ended e in
      (Unfinished (line_of ts (clause_start 0 ts 0 (length ts))), unfinished ts h n.0 n.1 n.2 refl)
  by_outcome ts h (out.Wrong k) e =
      let n = stopped A R is start ts (stop.Wrong k) e in
      (Syntax (line_of ts n.0), syntax_at ts n.0 h n.2 n.3 refl)
  by_outcome ts h (out.Deep k) e =
      let n = stopped A R is start ts (stop.Deep k) e in
      (Deep (line_of ts n.0), deep_at ts n.0 h n.2 n.3 refl)

  reading : (x : Reading A) × IsReading R source x
  reading = by_fault (lexes (length source) 0 1 source (omega arith))
    where
      by_fault : Read 0 1 source → (x : Reading A) × IsReading R source x
      by_fault (ts, Some f, h) = (Lexed f, lexed ts f h)
      by_fault (ts, None, h) = by_outcome ts h (run is (0 ∷ []) ts) refl

pub clauses_reading : (source : Text) → (x : Reading FormClause) × IsReading ReadsClause source x
clauses_reading = reading FormClause ReadsClause (Clauses ∷ []) clauses_start

pub queries_reading : (source : Text) → (x : Reading FormQuery) × IsReading ReadsQuery source x
queries_reading = reading FormQuery ReadsQuery (Queries ∷ []) queries_start
