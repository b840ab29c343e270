-- The inputs of a line, port by port.
use Rattle.std.proofs.Common.{◌≡◌, ℕ, zero, suc, ◌+◌, ◌<◌, ◌≤◌, Bool, List, [], ◌∷◌, ◌++◌, map, length, get_or, drop, codes, refl, sym, ap, ◌∙◌, arith, append_assoc, append-nil, add-one, Bor}
use Rattle.std.proofs.Math.Seq.{drop-cons}
use Rattle.std.proofs.lemmas.List.{drop_all}
use Rattle.cb_model.specs.Text.{Text, joined, shown_name}
use Rattle.cb_model.specs.Verdicts.{bit_text, port_texts, at_text}
use Rattle.cb_lines.specs.Lines.{spaced}

abbrev pub texts : List (Bor Text) → List Text
texts ps = map (λ p. p.now) ps

-- texts with spaces between them are the first, and the others behind spaces
joined-spaced : (x : Text) (xs : List Text) → joined (codes " ") (x ∷ xs) ≡ x ++ spaced xs
joined-spaced x [] = sym (append-nil x)
joined-spaced x (y ∷ xs) = append_assoc x (codes " ") (joined (codes " ") (y ∷ xs)) ∙ ap (λ t. x ++ (codes " " ++ t)) (joined-spaced y xs)

at-spaced : (x : Text) (xs : List Text) → at_text (x ∷ xs) ≡ codes " at" ++ spaced (x ∷ xs)
at-spaced x xs = ap (λ t. codes " at " ++ t) (joined-spaced x xs)

-- a line behind ` at` and the inputs
pub line-inputs : (line old : Text) (ps : List (Bor Text)) (xs : List Bool) → 0 < length ps → length ps ≡ length xs →
    line ≡ (old ++ codes " at") ++ spaced (port_texts (texts ps) xs) → line ≡ old ++ at_text (port_texts (texts ps) xs)
line-inputs line old [] xs h e i = absurd (omega arith)
line-inputs line old (p ∷ ps) [] h e i = absurd (omega arith)
line-inputs line old (p ∷ ps) (x ∷ xs) h e i =
    let t : Text = shown_name p.now ++ codes "=" ++ bit_text x in
    i ∙ append_assoc old (codes " at") (spaced (t ∷ port_texts (texts ps) xs)) ∙ ap (λ r. old ++ r) (sym (at-spaced t (port_texts (texts ps) xs)))

-- the end of the inputs
pub spaced-end : (ps : List Text) (xs : List Bool) (i : ℕ) → length xs ≤ i → spaced (port_texts (drop i ps) (drop i xs)) ≡ []
spaced-end ps xs i h = ap (λ ys. spaced (port_texts (drop i ps) ys)) (drop_all i xs h) ∙ none (drop i ps)
  where
    none : (qs : List Text) → spaced (port_texts qs []) ≡ []
    none [] = refl
    none (q ∷ qs) = refl

length-texts : (ps : List (Bor Text)) → length (texts ps) ≡ length ps
length-texts [] = refl
length-texts (p ∷ ps) = ap suc (length-texts ps)

now-at : (ps : List (Bor Text)) (i : ℕ) (d : Bor Text) (e : Text) → i < length ps → get_or (texts ps) i e ≡ (get_or ps i d).now
now-at [] i d e h = absurd (omega arith)
now-at (p ∷ ps) zero d e h = refl
now-at (p ∷ ps) (suc i) d e h = now-at ps i d e (omega arith)

-- the whole line, from what the loop keeps
pub line-whole : (line first old : Text) (ps : List (Bor Text)) (xs : List Bool) (i : ℕ) → 0 < length ps → length ps ≡ length xs → length xs ≤ i →
    first ≡ old ++ codes " at" → line ++ spaced (port_texts (drop i (texts ps)) (drop i xs)) ≡ first ++ spaced (port_texts (texts ps) xs) →
    line ≡ old ++ at_text (port_texts (texts ps) xs)
line-whole line first old ps xs i h e past at kept =
    line-inputs line old ps xs h e (
    sym (append-nil line) ∙ ap (λ t. line ++ t) (sym (spaced-end (texts ps) xs i past)) ∙ kept ∙ ap (λ t. t ++ spaced (port_texts (texts ps) xs)) at
    )

-- one port more of a line
pub line-port : (old now : Text) (ps : List (Bor Text)) (xs : List Bool) (i : ℕ) (d : Bor Text) (b : Bool) → i < length ps → i < length xs →
    now ≡ old ++ (32 ∷ (shown_name (get_or ps i d).now ++ codes "=" ++ bit_text (get_or xs i b))) →
    now ++ spaced (port_texts (drop (i + 1) (texts ps)) (drop (i + 1) xs)) ≡ old ++ spaced (port_texts (drop i (texts ps)) (drop i xs))
line-port old now ps xs i d b hp hx e =
    let t : Text = shown_name (get_or ps i d).now ++ codes "=" ++ bit_text (get_or xs i b) in
    let rest : Text = spaced (port_texts (drop (suc i) (texts ps)) (drop (suc i) xs)) in
    let port : drop i (texts ps) ≡ (get_or ps i d).now ∷ drop (suc i) (texts ps) =
    drop-cons (texts ps) i [] (omega (arith, length-texts ps)) ∙ ap (λ y. y ∷ drop (suc i) (texts ps)) (now-at ps i d [] hp) in
    let bit : drop i xs ≡ get_or xs i b ∷ drop (suc i) xs = drop-cons xs i b hx in
    rw add-one (
    ap (λ y. y ++ rest) e
    ∙ append_assoc old (32 ∷ t) rest
    ∙ ap (λ y. old ++ y) (sym (ap (λ y. spaced (port_texts y (drop i xs))) port ∙ ap (λ y. spaced (port_texts ((get_or ps i d).now ∷ drop (suc i) (texts ps)) y)) bit))
    )
