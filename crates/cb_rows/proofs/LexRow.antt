-- Tokens by trying all longer beginnings.
use Rattle.std.proofs.Common.{◌≡◌, ℕ, zero, suc, ◌+◌, ◌-◌, ◌<◌, ◌≤◌, Bool, true, false, ◌&&◌, List, [], ◌∷◌, ◌++◌, length, take, refl, ◌∙◌, ap, codes, arith, inl, pos}
use Rattle.std.specs.Prelude.{Option, Some, None}
use Rattle.cb_model.specs.declared.Kind.{Kind}
use Rattle.cb_model.specs.Text.{Text}
use Rattle.cb_model.specs.Tokens.{spelled, Longest, NoToken}
use Rattle.cb_laws.proofs.Decided.{and_true}

abbrev is_nothing : Option Kind → Bool
is_nothing None = true
is_nothing (Some k) = false

nothing : (o : Option Kind) → is_nothing o ≡ true → o ≡ None
nothing None e = refl
nothing (Some k) e = absurd (cc)

-- whether none of the k beginnings of m bytes and more is a token
abbrev pub none_from : ℕ → ℕ → Text → Bool
none_from m zero s = true
none_from m (suc k) s = is_nothing (spelled (take m s)) && none_from (suc m) k s

none_at : (s : Text) (m k d : ℕ) → none_from m k s ≡ true → d < k → spelled (take (m + d) s) ≡ None
none_at s m zero d h u = absurd (omega arith)
none_at s m (suc k) zero h u = let e : m + 0 ≡ m = omega arith in ap (λ j. spelled (take j s)) e ∙ nothing _ (and_true _ _ h).0
none_at s m (suc k) (suc d) h u =
    let e : m + suc d ≡ suc m + d = omega arith in
    ap (λ j. spelled (take j s)) e ∙ none_at s (suc m) k d (and_true _ _ h).1 (omega arith)

-- the longest match by trying all longer beginnings
pub longest : (s : Text) (n : ℕ) (k : Kind) → n ≤ length s → spelled (take n s) ≡ Some k → none_from (suc n) (length s - n) s ≡ true → Longest s n k
longest s n k within t h = record {
  within = within;
  token = t;
  longest = λ m l u.
      let e : m ≡ suc n + (m - suc n) = omega arith in
      ap (λ j. spelled (take j s)) e ∙ none_at s (suc n) (length s - n) (m - suc n) h (omega arith);
}

-- no token, by trying all beginnings
pub no_token : (s : Text) → none_from 0 (suc (length s)) s ≡ true → NoToken s
no_token s h m u = let e : 0 + m ≡ m = omega arith in ap (λ j. spelled (take j s)) (Rattle.std.proofs.Common.sym e) ∙ none_at s 0 (suc (length s)) m h (omega arith)
