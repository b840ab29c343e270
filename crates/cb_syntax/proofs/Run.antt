-- What the machine answers is what the grammar says.
use Rattle.std.specs.Prelude.{nat_le}
use Rattle.std.proofs.Common.{◌≡◌, ℕ, suc, zero, ◌+◌, ◌<◌, ◌≤◌, Bool, true, false, List, [], ◌∷◌, ◌++◌, length, take, get_or, Option, Some, None, refl, subst, arith}
use Rattle.std.proofs.lemmas.List.Sums.{sum_by-cons}
use Rattle.std.proofs.lemmas.Bool.{leb-false, leb-true}
use Rattle.cb_model.specs.declared.Kind.{Kind}
use Rattle.cb_model.specs.declared.Kind.TheVariants as kind
use Rattle.cb_model.specs.Tokens.{Token}
use Rattle.cb_model.specs.Grammar.{nest, depth, nestings, finished, closed, one_not, after_atom}
use Rattle.cb_syntax.specs.Machine.{Item, step, can_end, Outcome, Whole, Ended, Wrong, Deep, at_end, choose, run}
use Rattle.cb_syntax.proofs.Parts.{Holds}
use Rattle.cb_syntax.proofs.Back.{Back, back}
use Rattle.cb_syntax.proofs.Stack.{Good, Good-step, good_step, Fore, fore, End-says, end_says, finish}

-- the tokens begin a text that the items read
abbrev pub CanGo : List Item → List Token → Type 0
CanGo is ts = (us : List Token) × Holds is (ts ++ us)

-- the nesting of the first k tokens is in the limit
abbrev pub Shallow : List ℕ → List Token → ℕ → Type 0
Shallow ns ts k = (j : ℕ) → j < k → get_or (nestings ns ts) j 0 < 257

-- the tokens before the k-th can go on, and with it they can't
pub record WrongAt (is : List Item) (ns : List ℕ) (ts : List Token) (left k : ℕ) : Type 0 where
  pub place : k + left ≡ length ts
  pub within : k < length ts
  pub before : CanGo is (take k ts)
  pub wrong : CanGo is (take (suc k) ts) → ⊥
  pub shallow : Shallow ns ts k

-- the k-th token is the first that is too deep, and the tokens can go on with it
pub record DeepAt (is : List Item) (ns : List ℕ) (ts : List Token) (left k : ℕ) : Type 0 where
  pub place : k + left ≡ length ts
  pub within : k < length ts
  pub before : CanGo is (take (suc k) ts)
  pub deep : get_or (nestings ns ts) k 0 ≡ 257
  pub shallow : Shallow ns ts k

abbrev pub Says : Outcome → List Item → List ℕ → List Token → Type 0
Says Whole is ns ts = Holds is ts × Shallow ns ts (length ts)
Says Ended is ns ts = CanGo is ts × (Holds is ts → ⊥) × Shallow ns ts (length ts)
Says (Wrong left) is ns ts = (k : ℕ) × WrongAt is ns ts left k
Says (Deep left) is ns ts = (k : ℕ) × DeepAt is ns ts left k

-- ---- the nesting grows by one at most

depth_finished : (ns : List ℕ) → depth (finished ns) ≤ depth ns + 1
depth_finished [] = omega arith
depth_finished (n ∷ ns) = omega arith

depth_after : (k : Kind) (t : Token) (ts : List Token) (ns : List ℕ) → depth (after_atom (record t { kind = k } ∷ ts) ns) ≤ depth ns + 1
depth_after kind.LeftParen t ts ns = omega arith
depth_after _ t ts ns = depth_finished ns

depth_atom : (ts : List Token) (ns : List ℕ) → depth (after_atom ts ns) ≤ depth ns + 1
depth_atom [] ns = depth_finished ns
depth_atom (t ∷ ts) ns = depth_after t.kind t ts ns

depth_closed : (ns : List ℕ) → depth (closed ns) ≤ depth ns + 1
depth_closed [] = omega arith
depth_closed (n ∷ []) = omega arith
depth_closed (n ∷ m ∷ ns) = omega (arith, sum_by-cons (λ x. x) m ns)

depth_open : (ns : List ℕ) → depth (0 ∷ ns) ≤ depth ns + 1
depth_open [] = omega arith
depth_open (n ∷ ns) = omega (arith, sum_by-cons (λ x. x) n ns)

depth_not : (ns : List ℕ) → depth (one_not ns) ≤ depth ns + 1
depth_not [] = omega arith
depth_not (n ∷ ns) = omega arith

grows : (k : Kind) (ts : List Token) (ns : List ℕ) → depth (nest k ts ns) ≤ depth ns + 1
grows kind.LeftParen ts ns = depth_open ns
grows kind.LeftBracket ts ns = depth_open ns
grows kind.RightParen ts ns = depth_closed ns
grows kind.RightBracket ts ns = depth_closed ns
grows kind.Tilde ts ns = depth_not ns
grows kind.Variable ts ns = depth_finished ns
grows (kind.Integer z) ts ns = depth_finished ns
grows kind.Atom ts ns = depth_atom ts ns
grows kind.Quoted ts ns = depth_atom ts ns
grows _ ts ns = omega arith

deep_now : (d e : ℕ) → nat_le 257 d ≡ true → e < 257 → d ≤ e + 1 → d ≡ 257
deep_now d e t s g = let h = leb-true 257 d t in omega arith

-- ---- one token more in front

shallow_more : (ns : List ℕ) (t : Token) (ts : List Token) (k : ℕ) → depth (nest t.kind ts ns) < 257 → Shallow (nest t.kind ts ns) ts k → Shallow ns (t ∷ ts) (suc k)
shallow_more ns t ts k h s zero lt = h
shallow_more ns t ts k h s (suc j) lt = s j (omega arith)

none_shallow : (ns : List ℕ) (ts : List Token) → Shallow ns ts 0
none_shallow ns ts = λ j lt. absurd (omega arith)

module _ (is js : List Item) (ns : List ℕ) (t : Token) (ts : List Token) (out : (us : List Token) → Holds js us → Holds is (t ∷ us)) (inside : (us : List Token) → Holds is (t ∷ us) → Holds js us) (h : depth (nest t.kind ts ns) < 257) where
  go_more : (us : List Token) → CanGo js us → CanGo is (t ∷ us)
  go_more us g = (g.0, out (us ++ g.0) g.1)

  go_less : (us : List Token) → CanGo is (t ∷ us) → CanGo js us
  go_less us g = (g.0, inside (us ++ g.0) g.1)

  lift : (o : Outcome) → Says o js (nest t.kind ts ns) ts → Says o is ns (t ∷ ts)
  lift Whole s = (out ts s.0, shallow_more ns t ts (length ts) h s.1)
  lift Ended s = (go_more ts s.0, λ r. s.1 (inside ts r), shallow_more ns t ts (length ts) h s.2)
  lift (Wrong left) s = (suc s.0, record { place = omega (arith, s.1.place); within = omega (arith, s.1.within); before = go_more (take s.0 ts) s.1.before; wrong = λ g. s.1.wrong (go_less (take (suc s.0) ts) g); shallow = shallow_more ns t ts s.0 h s.1.shallow })
  lift (Deep left) s = (suc s.0, record { place = omega (arith, s.1.place); within = omega (arith, s.1.within); before = go_more (take (suc s.0) ts) s.1.before; deep = s.1.deep; shallow = shallow_more ns t ts s.0 h s.1.shallow })

end_case : (is : List Item) (ns : List ℕ) (e : Bool) → End-says e is → Says (at_end e) is ns []
end_case is ns true h = (h, none_shallow ns [])
end_case is ns false h = (finish is, h, none_shallow ns [])

one_token : (is : List Item) (ns : List ℕ) (t : Token) (ts : List Token) (o : Option (List Item)) (deep : Bool) →
    nat_le 257 (depth (nest t.kind ts ns)) ≡ deep → depth ns < 257 →
    ((us : List Token) → Back o is t us) → ((us : List Token) → Holds is (t ∷ us) → Fore o us) →
    ((js : List Item) → o ≡ Some js → depth (nest t.kind ts ns) < 257 → Says (run js (nest t.kind ts ns) ts) js (nest t.kind ts ns) ts) →
    Says (choose o (length (t ∷ ts)) deep (λ js. run js (nest t.kind ts ns) ts)) is ns (t ∷ ts)
one_token is ns t ts None deep d small b f ih = (0, record { place = omega arith; within = omega arith; before = finish is; wrong = λ g. f g.0 g.1; shallow = none_shallow ns (t ∷ ts) })
one_token is ns t ts (Some js) true d small b f ih =
    let e = finish js in
    (0, record { place = omega arith; within = omega arith; before = (e.0, b e.0 e.1); deep = deep_now (depth (nest t.kind ts ns)) (depth ns) d small (grows t.kind ts ns); shallow = none_shallow ns (t ∷ ts) })
one_token is ns t ts (Some js) false d small b f ih =
    let h : depth (nest t.kind ts ns) < 257 = leb-false 257 (depth (nest t.kind ts ns)) d in
    lift is js ns t ts b f h (run js (nest t.kind ts ns) ts) (ih js refl h)

-- the machine's answer holds
pub says : (is : List Item) → Good is → (ns : List ℕ) → depth ns < 257 → (ts : List Token) → Says (run is ns ts) is ns ts
says is g ns small [] = end_case is ns (can_end is) (end_says is)
says is g ns small (t ∷ ts) =
    one_token is ns t ts (step is t.kind) (nat_le 257 (depth (nest t.kind ts ns))) refl small (λ us. back is t us) (λ us h. fore is g t us h)
    (λ js e h. says js (subst Good-step e (good_step is t.kind g)) (nest t.kind ts ns) h ts)
