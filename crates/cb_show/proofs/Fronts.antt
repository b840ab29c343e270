-- Pieces of a text that are written one after another.
use Rattle.std.proofs.Common.{◌≡◌, ℕ, ◌≤◌, Bool, true, false, ◌++◌, length, take, drop, codes, sym, ◌∙◌, ap, subst, append_assoc}
use Rattle.std.proofs.lemmas.List.{take-append-drop}
use Rattle.std.specs.Prelude.{Option, Result, Ok, Err, OnOk, OnErr, is_err, if◌then◌else◌}
use Rattle.cb_model.specs.Text.{Text, is_plain, name_text}
use Rattle.cb_model.specs.Outside.{Wrote}
use Rattle.cb_show.specs.Front.{Front}

pub wrote_then : {a b c : Option Text} (x y : Text) → Wrote a b x → Wrote b c y → Wrote a c (x ++ y)
wrote_then x y v w = record {
  told = λ all h.
      let s = w.told all h in
      let t = v.told s.0 s.1 in
      (t.0, t.1, s.2 ∙ ap (λ u. u ++ y) t.2 ∙ append_assoc t.0 x y);
}

-- a front of what write_all was to write
pub front_of : {a b : Option Text} (x : Text) → (n : ℕ) × ((n ≤ length x) × Wrote a b (take n x)) → Front a b x
front_of x h = record { front = take h.0 x; begins = (drop h.0 x, take-append-drop h.0 x); wrote = h.1.1 }

-- a front of a text is one of a longer text
pub front_longer : {a b : Option Text} (x y : Text) → Front a b x → Front a b (x ++ y)
front_longer x y f = record {
  front = f.front;
  begins = (f.begins.0 ++ y, sym (append_assoc f.front f.begins.0 y) ∙ ap (λ u. u ++ y) f.begins.1);
  wrote = f.wrote;
}

-- a piece that was written, and then a front of the next
pub front_then : {a b c : Option Text} (x y : Text) → Wrote a b x → Front b c y → Front a c (x ++ y)
front_then x y v f = record {
  front = x ++ f.front;
  begins = (f.begins.0, append_assoc x f.front f.begins.0 ∙ ap (λ u. x ++ u) f.begins.1);
  wrote = wrote_then x f.front v f.wrote;
}

-- what holds after an error, from what the call says
pub on_err : {A E P Q : Type 0} (r : Result A E) → (P → Q) → OnErr r P → OnErr r Q
on_err (Ok x) f h = tt
on_err (Err e) f h = f h

-- what holds after a success, from what the call says
pub on_ok : {A E P Q : Type 0} (r : Result A E) → (P → Q) → OnOk r P → OnOk r Q
on_ok (Ok x) f h = f h
on_ok (Err e) f h = tt

-- a call that did not fail
pub ok_says : {A E P : Type 0} (r : Result A E) → is_err r ≡ false → OnOk r P → P
ok_says (Ok x) e h = h
ok_says (Err x) e h = absurd (cc)

pub err_says : {A E P : Type 0} (r : Result A E) → P → OnErr r P
err_says (Ok x) h = tt
err_says (Err e) h = h

-- ---- a name

-- a name in quotes
abbrev quoted : Text → Text
quoted x = codes "'" ++ x ++ codes "'"

module _ {a b : Option Text} (x : Text) where
  plain_front : true ≡ is_plain x → Front a b x → Front a b (name_text x)
  plain_front e f = let P : Bool → Type 0 = λ k. Front a b (if k then x else quoted x) in subst P e f

  quoted_front : false ≡ is_plain x → Front a b (quoted x) → Front a b (name_text x)
  quoted_front e f = let P : Bool → Type 0 = λ k. Front a b (if k then x else quoted x) in subst P e f

pub plain_name : {a b : Option Text} (x : Text) → true ≡ is_plain x → (n : ℕ) × ((n ≤ length x) × Wrote a b (take n x)) → Front a b (name_text x)
plain_name x e h = plain_front x e (front_of x h)

pub open_quote : {a b : Option Text} (x : Text) → false ≡ is_plain x → (n : ℕ) × ((n ≤ 1) × Wrote a b (take n (codes "'"))) → Front a b (name_text x)
open_quote x e h = quoted_front x e (front_longer (codes "'") (x ++ codes "'") (front_of (codes "'") h))

pub in_quotes : {a b c : Option Text} (x : Text) → false ≡ is_plain x → Wrote a b (codes "'") → (n : ℕ) × ((n ≤ length x) × Wrote b c (take n x)) → Front a c (name_text x)
in_quotes x e w h = quoted_front x e (front_then (codes "'") (x ++ codes "'") w (front_longer x (codes "'") (front_of x h)))

pub close_quote : {a b c d : Option Text} (x : Text) → false ≡ is_plain x → Wrote a b (codes "'") → Wrote b c x → (n : ℕ) × ((n ≤ 1) × Wrote c d (take n (codes "'"))) →
    Front a d (name_text x)
close_quote x e w v h = quoted_front x e (front_then (codes "'") (x ++ codes "'") w (front_then x (codes "'") v (front_of (codes "'") h)))

-- a text under another name
pub front_as : {a b : Option Text} (x y : Text) → x ≡ y → (n : ℕ) × ((n ≤ length x) × Wrote a b (take n x)) → Front a b y
front_as x y e h = subst (Front _ _) e (front_of x h)
