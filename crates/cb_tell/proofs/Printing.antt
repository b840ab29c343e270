-- The items of the printed variables and of the goals that wait.
use Rattle.std.proofs.Common.{◌≡◌, ℕ, zero, suc, ◌+◌, ◌-◌, ◌<◌, ◌≤◌, List, [], ◌∷◌, ◌++◌, map, length, take, None, Some, Result, Ok, Err, IfOk, slice_get, get_or, refl, sym, ◌∙◌, ap, subst, arith, length-append}
use Rattle.std.specs.Borrow.{Bor}
use Rattle.std.proofs.lemmas.List.{map-append, take_more}
use Rattle.std.proofs.lemmas.Option.{slice_get_within, get_or_from_slice_get}
use Rattle.cb_model.specs.Text.{Text}
use Rattle.cb_model.specs.Output.{printed_from}
use Rattle.cb_heap.specs.declared.Ref.{Ref}
use Rattle.cb_answer.specs.declared.Item.{Item}
use Rattle.cb_answer.specs.declared.Item.TheVariants as item
use Rattle.cb_answer.specs.Items.{AreItems}
use Rattle.cb_answer.proofs.Items.{items-var, items-waiting}
use Rattle.cb_tell.specs.declared.answers.WaitingCall.{WaitingCall}
use Rattle.cb_tell.specs.Items.{AreVariables, IsItemAt, IsItemOf, call_of}

-- one more of a list's first elements
take-next : {A : Type 0} (vs : List A) (place : ℕ) (v : A) → slice_get vs place ≡ Some v → take (place + 1) vs ≡ take place vs ++ v ∷ []
take-next {A} vs place v e =
    take_more vs place v (slice_get_within vs place v e) ∙ ap (λ (w : A). take place vs ++ w ∷ []) (get_or_from_slice_get vs place v v e)

past : {A : Type 0} (vs : List A) (place : ℕ) → slice_get vs place ≡ None → take place vs ≡ vs
past [] zero e = refl
past [] (suc place) e = refl
past (v ∷ vs) zero e = absurd (cc)
past {A} (v ∷ vs) (suc place) e = ap (λ (ws : List A). v ∷ ws) (past vs place e)

take-all : {A : Type 0} (vs : List A) (i : ℕ) → length vs ≤ i → take i vs ≡ vs
take-all [] zero h = refl
take-all [] (suc i) h = refl
take-all (v ∷ vs) zero h = absurd (omega arith)
take-all {A} (v ∷ vs) (suc i) h = ap (λ (ws : List A). v ∷ ws) (take-all vs i (omega arith))

-- ---- printed variables

with-variable : (made : List ℕ) (vs : List (ℕ × Text)) (xs : List Item) (v : ℕ × Text) (x : Item) → AreVariables made vs xs → IsItemOf made v x → AreVariables made (vs ++ v ∷ []) (xs ++ x ∷ [])
with-variable made vs xs v (item.Var name cell) a i = λ names. items-var made names vs xs v name cell (a names) i.0 i.1
with-variable made vs xs v (item.Waiting name args) a i = absurd i

-- with the item of the next place
pub variables-next : (made : List ℕ) (variables : List Text) (place : ℕ) (xs : List Item) (x : Item) → AreVariables made (take place (printed_from 0 variables)) xs → IsItemAt made variables place x →
    AreVariables made (take (place + 1) (printed_from 0 variables)) (xs ++ x ∷ [])
variables-next made variables place xs x a i =
    subst (λ (vs : List (ℕ × Text)). AreVariables made vs (xs ++ x ∷ [])) (sym (take-next (printed_from 0 variables) place i.variable i.at))
    (with-variable made (take place (printed_from 0 variables)) xs i.variable x a i.is)

-- all of them
pub variables-all : (made : List ℕ) (vs : List (ℕ × Text)) (place : ℕ) (xs : List Item) → AreVariables made (take place vs) xs → slice_get vs place ≡ None → AreVariables made vs xs
variables-all made vs place xs a e = subst (λ (ws : List (ℕ × Text)). AreVariables made ws xs) (past vs place e) a

-- ---- the goals that wait

-- none of them yet
pub calls-none : (cs : List (ℕ × List Ref)) (xs : List WaitingCall) → xs ≡ [] → map call_of xs ≡ take (length xs) cs
calls-none cs xs e = ap (map call_of) e ∙ ap (λ (l : List WaitingCall). take (length l) cs) (sym e)

-- with the next of them
pub calls-next : (cs : List (ℕ × List Ref)) (xs ys : List WaitingCall) (x : WaitingCall) (n : ℕ) (args : List Ref) → map call_of xs ≡ take (length xs) cs → n ≡ length xs →
    slice_get cs n ≡ Some (x.pred, args) → x.args.items ≡ args → ys ≡ xs ++ x ∷ [] → map call_of ys ≡ take (length ys) cs
calls-next cs xs ys x n args a k e i is =
    let at : slice_get cs (length xs) ≡ Some (call_of x) = subst (λ (m : ℕ). slice_get cs m ≡ Some (call_of x)) k (e ∙ ap (λ (l : List Ref). Some (x.pred, l)) (sym i)) in
    ap (map call_of) is ∙ map-append call_of xs (x ∷ []) ∙ ap (λ (l : List (ℕ × List Ref)). l ++ call_of x ∷ []) a ∙ sym (take-next cs (length xs) (call_of x) at) ∙
    ap (λ (m : ℕ). take m cs) (sym (length-append xs (x ∷ []))) ∙ ap (λ (l : List WaitingCall). take (length l) cs) (sym is)

-- fewer are left
pub calls-fewer : (cs : List (ℕ × List Ref)) (xs ys : List WaitingCall) (x : WaitingCall) (n : ℕ) (c : ℕ × List Ref) → n ≡ length xs → slice_get cs n ≡ Some c → ys ≡ xs ++ x ∷ [] →
    length cs - length ys < length cs - length xs
calls-fewer cs xs ys x n c k e is =
    let within : n < length cs = slice_get_within cs n c e in
    let many : length ys ≡ length xs + 1 = ap length is ∙ length-append xs (x ∷ []) in
    omega (arith, within, many, k)

-- all of them
pub calls-all : (cs : List (ℕ × List Ref)) (xs : List WaitingCall) (n : ℕ) → map call_of xs ≡ take (length xs) cs → n ≡ length xs → length cs ≤ n → map call_of xs ≡ cs
calls-all cs xs n a k h = a ∙ take-all cs (length xs) (subst (λ (m : ℕ). length cs ≤ m) k h)

-- the item of the next goal
pub item-next : (made : List ℕ) (names : List Text) (printed : List (ℕ × Text)) (calls : List WaitingCall) (i : ℕ) (xs ys : List Item) (c : WaitingCall) (name : Bor Text) (args : Bor (List Ref)) →
    AreItems made names printed (map call_of (take i calls)) xs → i < length calls → c ≡ get_or calls i c → name.now ≡ get_or names c.pred [] → args.now ≡ c.args.items →
    ys ≡ xs ++ item.Waiting name args ∷ [] → AreItems made names printed (map call_of (take (i + 1) calls)) ys
item-next made names printed calls i xs ys c name args a h at e k is =
    let one : take (i + 1) calls ≡ take i calls ++ c ∷ [] = take_more calls i c h ∙ ap (λ (w : WaitingCall). take i calls ++ w ∷ []) (sym at) in
    subst (λ (l : List Item). AreItems made names printed (map call_of (take (i + 1) calls)) l) (sym is)
    (subst (λ (l : List (ℕ × List Ref)). AreItems made names printed l (xs ++ item.Waiting name args ∷ [])) (sym (ap (map call_of) one ∙ map-append call_of (take i calls) (c ∷ [])))
    (items-waiting made names printed (map call_of (take i calls)) xs (call_of c) name args a e k))

-- all of them
pub items-whole : (made : List ℕ) (names : List Text) (printed : List (ℕ × Text)) (calls : List WaitingCall) (i : ℕ) (xs : List Item) → AreItems made names printed (map call_of (take i calls)) xs →
    length calls ≤ i → AreItems made names printed (map call_of calls) xs
items-whole made names printed calls i xs a h = subst (λ (l : List WaitingCall). AreItems made names printed (map call_of l) xs) (take-all calls i h) a

-- what follows of a value follows of the answer that has it
pub if-ok-on : {A E : Type 0} {P Q : A → Type 0} → ((x : A) → P x → Q x) → (r : Result A E) → IfOk r P → IfOk r Q
if-ok-on f (Ok x) h = f x h
if-ok-on f (Err e) h = tt

-- calls that are told as they wait
pub of-calls : (made : List ℕ) (names ns : List Text) (printed : List (ℕ × Text)) (ks calls : List WaitingCall) (cs : List (ℕ × List Ref)) (xs : List Item) →
    AreItems made ns printed (map call_of ks) xs → ns ≡ names → ks ≡ calls → map call_of calls ≡ cs → AreItems made names printed cs xs
of-calls made names ns printed ks calls cs xs a e k is =
    subst (λ (l : List Text). AreItems made l printed cs xs) e (subst (λ (l : List (ℕ × List Ref)). AreItems made ns printed l xs) (ap (map call_of) k ∙ is) a)
