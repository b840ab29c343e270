-- One token more, or the end.
use Rattle.std.proofs.lemmas.List.{drop-drop}
use Rattle.std.proofs.Common.{◌≡◌, ℕ, suc, zero, ◌+◌, ◌-◌, ◌<◌, ◌≤◌, List, [], ◌∷◌, length, length-drop, take, drop, Option, Some, None, refl, sym, ◌∙◌, ap, subst, arith}
use Rattle.cb_model.specs.declared.Kind.{Kind}
use Rattle.cb_model.specs.Text.{Text}
use Rattle.cb_model.specs.Tokens.{Token, Fault, Lexes, Longest, InRange, spelled, token, ended}
use Rattle.cb_lex.specs.declared.LexError.{LexError}
use Rattle.cb_lex.specs.Scans.{SameTokens}
use Rattle.cb_lex.specs.Place.{Place, Left, IsFirst, IsSpan}
use Rattle.cb_lex.proofs.OneList.{after_token}
use Rattle.cb_lex.proofs.Skips.{all_behind}

-- where no fault was answered, what is left is what the text goes on with
left_from : (p : Place) (fault : Option LexError) (ts : List Token) (f : Option Fault) → fault ≡ None → Lexes p.at p.line (drop p.at p.source) ts f → Left (record p { fault = fault }) ts f
left_from p None ts f e l = l
left_from p (Some x) ts f e l = absurd (cc)

left_to : (p : Place) (fault : Option LexError) (ts : List Token) (f : Option Fault) → fault ≡ None → Left (record p { fault = fault }) ts f → Lexes p.at p.line (drop p.at p.source) ts f
left_to p None ts f e l = l
left_to p (Some x) ts f e l = absurd (cc)

nothing_behind : (s : Text) (n : ℕ) → n ≡ length s → drop n s ≡ []
nothing_behind [] zero e = refl
nothing_behind [] (suc n) e = refl
nothing_behind (x ∷ s) zero e = absurd (omega arith)
nothing_behind (x ∷ s) (suc n) e = nothing_behind s n (omega arith)

pub at_end : {p old : Place} → p ≡ old → (start line : ℕ) → p.fault ≡ None → SameTokens p.at p.line (drop p.at p.source) start line (drop start p.source) → start ≡ length p.source → Left old [] None
at_end {p} o start line h same e =
    subst (λ (q : Place). Left q [] None) o (left_from p p.fault [] None h (same.forth [] None (subst (λ (s : Text). Lexes start line s [] None) (sym (nothing_behind p.source start e)) ended)))

whole : (source : Text) (start : ℕ) → take (length source - start) (drop start source) ≡ drop start source
whole source start = all_behind (drop start source) (length source - start) (omega (arith, length-drop start source))

pub first_token : {p old : Place} → p ≡ old → (start n line : ℕ) (k : Kind) (text : Text) → p.fault ≡ None → SameTokens p.at p.line (drop p.at p.source) start line (drop start p.source) →
    Longest (take (length p.source - start) (drop start p.source)) n k × InRange k → text ≡ take (start + n - start) (drop start p.source) →
    IsFirst old (record { kind = k; text = text; start = start; stop = start + n; line = line }) (record { source = p.source; at = start + n; line = line; fault = p.fault })
first_token {p} o start n line k text h same l e = subst (λ (q : Place). IsFirst q (record { kind = k; text = text; start = start; stop = start + n; line = line }) after) o (record {
  forth = λ ts f m. left_from p p.fault _ f h (same.forth _ f (token n k _ long l.1 here (subst (λ (s : Text). Lexes (start + n) line s ts f) (sym next) (left_to after p.fault ts f h m))));
  back = λ ts f m. let w = after_token long l.1 (same.back ts f (left_to p p.fault ts f h m)) in
      (w.rest, w.begins ∙ ap (λ (t : Token). t ∷ w.rest) (sym here), left_from after p.fault w.rest f h (subst (λ (s : Text). Lexes (start + n) line s w.rest f) next w.lexes));
})
  where
    after : Place
    after = record { source = p.source; at = start + n; line = line; fault = p.fault }

    long : Longest (drop start p.source) n k
    long = subst (λ (s : Text). Longest s n k) (whole p.source start) l.0

    next : drop n (drop start p.source) ≡ drop (start + n) p.source
    next = drop-drop n start p.source

    cut : text ≡ take n (drop start p.source)
    cut = let f : start + n - start ≡ n = omega arith in e ∙ ap (λ (i : ℕ). take i (drop start p.source)) f

    here : ◌≡◌ {A = Token} (record { kind = k; text = text; start = start; stop = start + n; line = line }) (record { kind = k; text = take n (drop start p.source); start = start; stop = start + n; line = line })
    here = ap (λ (x : Text). let t : Token = record { kind = k; text = x; start = start; stop = start + n; line = line } in t) cut

not_empty : {s : Text} {n : ℕ} {k : Kind} → Longest s n k → 0 < n
not_empty {s} {n} {k} l = goes n l.token
  where
    goes : (n : ℕ) → spelled (take n s) ≡ Some k → 0 < n
    goes zero e = absurd (cc)
    goes (suc n) e = omega arith

pub spans : {p old : Place} → p ≡ old → (start n line : ℕ) (k : Kind) (text : Text) → p.at ≤ start → start ≤ length p.source →
    Longest (take (length p.source - start) (drop start p.source)) n k × InRange k → text ≡ take (start + n - start) (drop start p.source) →
    IsSpan old (record { kind = k; text = text; start = start; stop = start + n; line = line }) (record { source = p.source; at = start + n; line = line; fault = p.fault })
spans {p} o start n line k text behind within l e = subst (λ (q : Place). IsSpan q (record { kind = k; text = text; start = start; stop = start + n; line = line }) (record { source = p.source; at = start + n; line = line; fault = p.fault })) o (record {
  behind = behind;
  some = let h = not_empty l.0 in omega arith;
  within = let w : n ≤ length (drop start p.source) = subst (λ (s : Text). n ≤ length s) (whole p.source start) l.0.within in omega (arith, length-drop start p.source);
  text = e;
  next = refl;
})
