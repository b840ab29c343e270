-- A list of tokens is read in one way at most.
use Rattle.std.proofs.Common.{◌≡◌, ℕ, Bool, true, false, ◌⊎◌, List, [], ◌∷◌, refl, sym, ◌∙◌, ap, subst, inl, inr}
use Rattle.cb_model.specs.declared.Kind.{Kind}
use Rattle.cb_model.specs.declared.Kind.TheVariants as kind
use Rattle.cb_model.specs.Tokens.{Token, name_of}
use Rattle.cb_model.specs.Grammar as g
use Rattle.cb_model.specs.Grammar.{Form, Forms, Variable, Integer, Name, Closed, Open, Not, Last, More, one, Op, Plus, Hash, Star, Sym, Chain, Operands, Unary, Prim, Call, Exprs, Commas, tighter, op_kind, chain, IsAtom, Reads, a_chain, no_operand, operand, a_not, a_prim, a_variable, an_integer, a_call, a_group, a_nil, a_list, an_open_list, an_atom, a_compound, exprs, no_comma, a_comma, FormGoal, ACall, AnEqual, ReadsGoal, calls, equals, ReadsGoals, last_goal, more_goals, FormClause, ReadsClause, directive, fact, rule, FormQuery, ReadsQuery, a_query, ReadsAll, no_more, one_more}
use Rattle.cb_laws.specs.Laws.{ClausesAreOne, QueriesAreOne}

-- ---- what may follow

-- whether a token goes on with what was read before it
abbrev pub goes_on : Sym → Kind → Bool
goes_on s kind.LeftParen = true
goes_on (Chain op) kind.Star = true
goes_on (Chain Plus) kind.Hash = true
goes_on (Chain Hash) kind.Hash = true
goes_on (Chain Plus) kind.Plus = true
goes_on (Operands op) kind.Star = true
goes_on (Operands Plus) kind.Hash = true
goes_on (Operands Hash) kind.Hash = true
goes_on (Operands Plus) kind.Plus = true
goes_on Exprs kind.Star = true
goes_on Exprs kind.Hash = true
goes_on Exprs kind.Plus = true
goes_on Exprs kind.Comma = true
goes_on Commas kind.Star = true
goes_on Commas kind.Hash = true
goes_on Commas kind.Plus = true
goes_on Commas kind.Comma = true
goes_on s k = false

-- the next token, if there is one, doesn't
abbrev pub Stops : Sym → List Token → Type 0
Stops s [] = Unit {0}
Stops s (t ∷ ts) = goes_on s t.kind ≡ false

abbrev pub head_kind : List Token → Kind
head_kind [] = kind.Bang
head_kind (t ∷ ts) = t.kind

abbrev tail : List Token → List Token
tail [] = []
tail (t ∷ ts) = ts

abbrev first_form : Forms → Form
first_form Last = Variable []
first_form (More f fs) = f

-- a token of this kind stops the symbol
stop_by : (s : Sym) (t : Token) (ts : List Token) (k : Kind) → t.kind ≡ k → goes_on s k ≡ false → Stops s (t ∷ ts)
stop_by s t ts k h e = ap (goes_on s) h ∙ e

-- what stops a chain stops its operands
looser : (op : Op) (k : Kind) → goes_on (Operands op) k ≡ false → goes_on (tighter op) k ≡ false
looser Plus kind.LeftParen h = h
looser Plus kind.Star h = h
looser Plus kind.Hash h = h
looser Plus kind.Plus h = refl
looser Plus k h = refl
looser Hash kind.LeftParen h = h
looser Hash kind.Star h = h
looser Hash kind.Hash h = refl
looser Hash k h = refl
looser Star kind.LeftParen h = h
looser Star kind.Star h = refl
looser Star k h = refl

-- the token of an operator stops what is tighter
op_stops : (op : Op) → goes_on (tighter op) (op_kind op) ≡ false
op_stops Plus = refl
op_stops Hash = refl
op_stops Star = refl

op_goes : (op : Op) → goes_on (Operands op) (op_kind op) ≡ true
op_goes Plus = refl
op_goes Hash = refl
op_goes Star = refl

commas_stop : (k : Kind) → goes_on Commas k ≡ false → goes_on (Chain Plus) k ≡ false
commas_stop kind.LeftParen h = h
commas_stop kind.Star h = h
commas_stop kind.Hash h = h
commas_stop kind.Plus h = h
commas_stop kind.Comma h = refl
commas_stop k h = refl

all_stop : (s s' : Sym) → ((k : Kind) → goes_on s k ≡ false → goes_on s' k ≡ false) → (ts : List Token) → Stops s ts → Stops s' ts
all_stop s s' f [] h = tt
all_stop s s' f (t ∷ ts) h = f t.kind h

chain_operands : (op : Op) (k : Kind) → goes_on (Chain op) k ≡ false → goes_on (Operands op) k ≡ false
chain_operands Plus kind.LeftParen h = h
chain_operands Plus kind.Star h = h
chain_operands Plus kind.Hash h = h
chain_operands Plus kind.Plus h = h
chain_operands Plus k h = refl
chain_operands Hash kind.LeftParen h = h
chain_operands Hash kind.Star h = h
chain_operands Hash kind.Hash h = h
chain_operands Hash k h = refl
chain_operands Star kind.LeftParen h = h
chain_operands Star kind.Star h = h
chain_operands Star k h = refl

exprs_commas : (k : Kind) → goes_on Exprs k ≡ false → goes_on Commas k ≡ false
exprs_commas kind.LeftParen h = h
exprs_commas kind.Star h = h
exprs_commas kind.Hash h = h
exprs_commas kind.Plus h = h
exprs_commas kind.Comma h = h
exprs_commas k h = refl

commas_exprs : (k : Kind) → goes_on Commas k ≡ false → goes_on Exprs k ≡ false
commas_exprs kind.LeftParen h = h
commas_exprs kind.Star h = h
commas_exprs kind.Hash h = h
commas_exprs kind.Plus h = h
commas_exprs kind.Comma h = h
commas_exprs k h = refl

unary_prim : (k : Kind) → goes_on Unary k ≡ false → goes_on Prim k ≡ false
unary_prim kind.LeftParen h = h
unary_prim k h = refl

prim_call : (k : Kind) → goes_on Prim k ≡ false → goes_on Call k ≡ false
prim_call kind.LeftParen h = h
prim_call k h = refl

-- an operand ends where the operands behind it begin
mid_stops : {op : Op} {us vs : List Token} {xs : Forms} → Reads (Operands op) us vs xs → Stops (Operands op) vs → Stops (tighter op) us
mid_stops {op = op} (no_operand {ts = ts}) h = all_stop (Operands op) (tighter op) (looser op) ts h
mid_stops {op = op} (operand {t = t} us e r o) h = ap (goes_on (tighter op)) e ∙ op_stops op

-- a term ends where the commas behind it begin
comma_stops : {us vs : List Token} {xs : Forms} → Reads Commas us vs xs → Stops Commas vs → Stops (Chain Plus) us
comma_stops (no_comma {ts = ts}) h = all_stop Commas (Chain Plus) commas_stop ts h
comma_stops (a_comma {t = t} e r) h = ap (goes_on (Chain Plus)) e

-- ---- what a reading is, by its first token

-- a list, behind its bracket
abbrev ListBy : List Token → List Token → Forms → Type 0
ListBy ts us f =
    ((r : Token) × (ts ≡ r ∷ us) × (r.kind ≡ kind.RightBracket) × (f ≡ one (Closed Last))) ⊎
    (((r : Token) × (xs : Forms) × Reads Exprs ts (r ∷ us) xs × (r.kind ≡ kind.RightBracket) × (f ≡ one (Closed xs))) ⊎
    ((b : Token) × (r : Token) × (mid : List Token) × (xs : Forms) × (y : Form) × Reads Exprs ts (b ∷ mid) xs × (b.kind ≡ kind.Bar) ×
    Reads (Chain Plus) mid (r ∷ us) (one y) × (r.kind ≡ kind.RightBracket) × (f ≡ one (Open xs y))))

abbrev PrimBy : Kind → Token → List Token → List Token → Forms → Type 0
PrimBy kind.Variable t ts us f = (us ≡ ts) × (f ≡ one (Variable t.text))
PrimBy (kind.Integer z) t ts us f = (us ≡ ts) × (f ≡ one (Integer z))
PrimBy kind.Atom t ts us f = Reads Call (t ∷ ts) us f
PrimBy kind.Quoted t ts us f = Reads Call (t ∷ ts) us f
PrimBy kind.LeftParen t ts us f = (r : Token) × Reads (Chain Plus) ts (r ∷ us) f × (r.kind ≡ kind.RightParen)
PrimBy kind.LeftBracket t ts us f = ListBy ts us f
PrimBy k t ts us f = ⊥

abbrev PrimView : List Token → List Token → Forms → Type 0
PrimView [] us f = ⊥
PrimView (t ∷ ts) us f = PrimBy t.kind t ts us f

abbrev pub CallFirst : List Token → Type 0
CallFirst [] = ⊥
CallFirst (t ∷ ts) = IsAtom t

pub call_first : {ts us : List Token} {f : Forms} → Reads Call ts us f → CallFirst ts
call_first (an_atom a e) = a
call_first (a_compound r xs a l x p e) = a

call_prim : (ts us : List Token) (f : Forms) → CallFirst ts → Reads Call ts us f → PrimView ts us f
call_prim [] us f h r = h
call_prim (t ∷ ts) us f (inl a) r = subst (λ k. PrimBy k t ts us f) (sym a) r
call_prim (t ∷ ts) us f (inr a) r = subst (λ k. PrimBy k t ts us f) (sym a) r

prim_call_view : (ts us : List Token) (f : Forms) → CallFirst ts → PrimView ts us f → Reads Call ts us f
prim_call_view [] us f h r = absurd h
prim_call_view (t ∷ ts) us f (inl a) r = subst (λ k. PrimBy k t ts us f) a r
prim_call_view (t ∷ ts) us f (inr a) r = subst (λ k. PrimBy k t ts us f) a r

prim_view : {ts us : List Token} {f : Forms} → Reads Prim ts us f → PrimView ts us f
prim_view (a_variable {t = t} {ts = ts} {f = f} h e) = subst (λ k. PrimBy k t ts ts f) (sym h) (refl, e)
prim_view (an_integer {t = t} {ts = ts} {z = z} h) = subst (λ k. PrimBy k t ts ts (one (Integer z))) (sym h) (refl, refl)
prim_view (a_call {ts = ts} {us = us} {f = f} r) = call_prim ts us f (call_first r) r
prim_view (a_group {l = l} {ts = ts} {us = us} {f = f} r h x e) = subst (λ k. PrimBy k l ts us f) (sym h) (r, x, e)
prim_view (a_nil {l = l} {r = r} {ts = ts} h e) = subst (λ k. PrimBy k l (r ∷ ts) ts (one (Closed Last))) (sym h) (inl (r, refl, e, refl))
prim_view (a_list {l = l} {ts = ts} {us = us} {xs = xs} r h x e) = subst (λ k. PrimBy k l ts us (one (Closed xs))) (sym h) (inr (inl (r, xs, x, e, refl)))
prim_view (an_open_list {l = l} {ts = ts} {vs = vs} {xs = xs} {y = y} b r us h x e z w) =
    subst (λ k. PrimBy k l ts vs (one (Open xs y))) (sym h) (inr (inr (b, r, us, xs, y, x, e, z, w, refl)))

abbrev UnaryBy : Kind → Token → List Token → List Token → Forms → Type 0
UnaryBy kind.Tilde t ts us f = (x : Form) × Reads Unary ts us (one x) × (f ≡ one (Not x))
UnaryBy k t ts us f = Reads Prim (t ∷ ts) us f

abbrev UnaryView : List Token → List Token → Forms → Type 0
UnaryView [] us f = ⊥
UnaryView (t ∷ ts) us f = UnaryBy t.kind t ts us f

-- what is read as a primary term doesn't begin with `~`
not_tilde : (k : Kind) (t : Token) (ts us us' : List Token) (f f' : Forms) → PrimBy k t ts us f → Reads Prim (t ∷ ts) us' f' → UnaryBy k t ts us' f'
not_tilde kind.Tilde t ts us us' f f' h r = absurd h
not_tilde k t ts us us' f f' h r = r

is_prim : (k : Kind) (t : Token) (ts us us' : List Token) (f f' : Forms) → PrimBy k t ts us f → UnaryBy k t ts us' f' → Reads Prim (t ∷ ts) us' f'
is_prim kind.Tilde t ts us us' f f' h r = absurd h
is_prim k t ts us us' f f' h r = r

prim_unary : (ts us us' : List Token) (f f' : Forms) → PrimView ts us f → Reads Prim ts us' f' → UnaryView ts us' f'
prim_unary [] us us' f f' h r = h
prim_unary (t ∷ ts) us us' f f' h r = not_tilde t.kind t ts us us' f f' h r

unary_is_prim : (ts us us' : List Token) (f f' : Forms) → PrimView ts us f → UnaryView ts us' f' → Reads Prim ts us' f'
unary_is_prim [] us us' f f' h r = absurd h
unary_is_prim (t ∷ ts) us us' f f' h r = is_prim t.kind t ts us us' f f' h r

unary_view : {ts us : List Token} {f : Forms} → Reads Unary ts us f → UnaryView ts us f
unary_view (a_not {t = t} {ts = ts} {us = us} {x = x} h r) = subst (λ k. UnaryBy k t ts us (one (Not x))) (sym h) (x, r, refl)
unary_view (a_prim {ts = ts} {us = us} {f = f} r) = prim_unary ts us us f f (prim_view r) r

-- a name alone, or a name with its arguments
abbrev pub CallView : List Token → List Token → Forms → Type 0
CallView [] us f = ⊥
CallView (t ∷ ts) us f =
    ((us ≡ ts) × (f ≡ one (Name (name_of t) Last))) ⊎
    ((l : Token) × (rest : List Token) × (r : Token) × (xs : Forms) × (ts ≡ l ∷ rest) × (l.kind ≡ kind.LeftParen) × Reads Exprs rest (r ∷ us) xs ×
    (r.kind ≡ kind.RightParen) × (f ≡ one (Name (name_of t) xs)))

pub call_view : {ts us : List Token} {f : Forms} → Reads Call ts us f → CallView ts us f
call_view (an_atom a e) = inl (refl, e)
call_view (a_compound {l = l} {ts = ts} r xs a h x p e) = inr (l, ts, r, xs, refl, h, x, p, e)

-- no list of terms begins with a bracket that closes
abbrev starts : Kind → Bool
starts kind.RightBracket = false
starts k = true

abbrev Begins : Sym → List Token → Type 0
Begins (Operands op) ts = Unit {0}
Begins Commas ts = Unit {0}
Begins s [] = ⊥
Begins s (t ∷ ts) = starts t.kind ≡ true

begin_op : (op : Op) (ts : List Token) → Begins (tighter op) ts → Begins (Chain op) ts
begin_op Plus [] h = h
begin_op Plus (t ∷ ts) h = h
begin_op Hash [] h = h
begin_op Hash (t ∷ ts) h = h
begin_op Star [] h = h
begin_op Star (t ∷ ts) h = h

begin_exprs : (ts : List Token) → Begins (Chain Plus) ts → Begins Exprs ts
begin_exprs [] h = h
begin_exprs (t ∷ ts) h = h

begin_prim : (ts us : List Token) (f : Forms) → PrimView ts us f → Begins Prim ts
begin_prim [] us f h = h
begin_prim (t ∷ ts) us f h = go t.kind h
  where
    go : (k : Kind) → PrimBy k t ts us f → starts k ≡ true
    go kind.RightBracket h = absurd h
    go k h = refl

begin_unary : (ts : List Token) → Begins Prim ts → Begins Unary ts
begin_unary [] h = h
begin_unary (t ∷ ts) h = h

begin_call : (ts : List Token) → CallFirst ts → Begins Call ts
begin_call [] h = h
begin_call (t ∷ ts) (inl a) = ap starts a
begin_call (t ∷ ts) (inr a) = ap starts a

begins : {s : Sym} {ts us : List Token} {f : Forms} → Reads s ts us f → Begins s ts
begins (a_chain {op = op} {ts = ts} us x xs r o e) = begin_op op ts (begins r)
begins no_operand = tt
begins (operand us e r o) = tt
begins (a_not h r) = ap starts h
begins (a_prim {ts = ts} r) = begin_unary ts (begins r)
begins (a_variable h e) = ap starts h
begins (an_integer h) = ap starts h
begins (a_call {ts = ts} {us = us} {f = f} r) = begin_prim ts us f (prim_view (a_call r))
begins (a_group r h x e) = ap starts h
begins (a_nil h e) = ap starts h
begins (a_list r h x e) = ap starts h
begins (an_open_list b r us h x e z w) = ap starts h
begins (an_atom {t = t} {ts = ts} a e) = begin_call (t ∷ ts) a
begins (a_compound {t = t} {l = l} {ts = ts} r xs a h x p e) = begin_call (t ∷ l ∷ ts) a
begins (exprs {ts = ts} us r o) = begin_exprs ts (begins r)
begins no_comma = tt
begins (a_comma e r) = tt

-- no list of terms is read from a bracket that closes
no_close : {r : Token} {ts us : List Token} {xs : Forms} → r.kind ≡ kind.RightBracket → Reads Exprs (r ∷ ts) us xs → ⊥
no_close h x = let e : starts kind.RightBracket ≡ true = subst (λ k. starts k ≡ true) h (begins x) in absurd (cc)

-- ---- one reading

abbrev pub Same : List Token → List Token → Forms → Forms → Type 0
Same us us' f f' = (us ≡ us') × (f ≡ f')

kinds_differ : (ts us : List Token) (k l : Kind) → head_kind ts ≡ k → head_kind us ≡ l → ts ≡ us → k ≡ l
kinds_differ ts us k l a b e = sym a ∙ ap head_kind e ∙ b

-- the second reading is the first
abbrev Way : Sym → List Token → List Token → Forms → Type 0
Way s ts us f = (us' : List Token) (f' : Forms) → Reads s ts us' f' → Stops s us' → Same us us' f f'

list_one : (ts us vs' : List Token) (xs f' : Forms) (r : Token) → r.kind ≡ kind.RightBracket → Reads Exprs ts (r ∷ us) xs → Way Exprs ts (r ∷ us) xs →
    ListBy ts vs' f' → Same us vs' (one (Closed xs)) f'
list_one ts us vs' xs f' r p x way (inl v) = absurd (no_close v.2 (subst (λ ws. Reads Exprs ws (r ∷ us) xs) v.1 x))
list_one ts us vs' xs f' r p x way (inr (inl v)) =
    let a = way (v.0 ∷ vs') v.1 v.2 (ap (goes_on Exprs) v.3) in
    (ap tail a.0, ap (λ ys. one (Closed ys)) a.1 ∙ sym v.4)
list_one ts us vs' xs f' r p x way (inr (inr v)) =
    let a = way (v.0 ∷ v.2) v.3 v.5 (ap (goes_on Exprs) v.6) in
    let z : kind.RightBracket ≡ kind.Bar = sym p ∙ ap head_kind a.0 ∙ v.6 in
    absurd (cc)

open_one : (ts us vs ws' : List Token) (xs f' : Forms) (y : Form) (b r : Token) → b.kind ≡ kind.Bar → Reads Exprs ts (b ∷ us) xs → Way Exprs ts (b ∷ us) xs →
    Way (Chain Plus) us (r ∷ vs) (one y) → ListBy ts ws' f' → Same vs ws' (one (Open xs y)) f'
open_one ts us vs ws' xs f' y b r p x way way₂ (inl v) = absurd (no_close v.2 (subst (λ ws. Reads Exprs ws (b ∷ us) xs) v.1 x))
open_one ts us vs ws' xs f' y b r p x way way₂ (inr (inl v)) =
    let a = way (v.0 ∷ ws') v.1 v.2 (ap (goes_on Exprs) v.3) in
    let z : kind.Bar ≡ kind.RightBracket = sym p ∙ ap head_kind a.0 ∙ v.3 in
    absurd (cc)
open_one ts us vs ws' xs f' y b r p x way way₂ (inr (inr v)) =
    let a = way (v.0 ∷ v.2) v.3 v.5 (ap (goes_on Exprs) v.6) in
    let c = way₂ (v.1 ∷ ws') (one v.4) (subst (λ ws. Reads (Chain Plus) ws (v.1 ∷ ws') (one v.4)) (sym (ap tail a.0)) v.7) (ap (goes_on (Chain Plus)) v.8) in
    (ap tail c.0, ap (λ ys. one (Open ys y)) a.1 ∙ ap (λ w. one (Open v.3 w)) (ap first_form c.1) ∙ sym v.9)

compound_one : (t l r : Token) (ts us vs' : List Token) (xs f f' : Forms) → l.kind ≡ kind.LeftParen → f ≡ one (Name (name_of t) xs) → Way Exprs ts (r ∷ us) xs →
    Stops Call vs' → CallView (t ∷ l ∷ ts) vs' f' → Same us vs' f f'
compound_one t l r ts us vs' xs f f' e i way h' (inl v) = let z : true ≡ false = ap (goes_on Call) (sym e) ∙ subst (Stops Call) v.0 h' in absurd (cc)
compound_one t l r ts us vs' xs f f' e i way h' (inr v) =
    let c = way (v.2 ∷ vs') v.3 (subst (λ ws. Reads Exprs ws (v.2 ∷ vs') v.3) (sym (ap tail v.4)) v.6) (ap (goes_on Exprs) v.7) in
    (ap tail c.0, i ∙ ap (λ ys. one (Name (name_of t) ys)) c.1 ∙ sym v.8)

pub one_way : {s : Sym} {ts us us' : List Token} {f f' : Forms} → Reads s ts us f → Reads s ts us' f' → Stops s us → Stops s us' → Same us us' f f'
one_way {us = vs} {us' = vs'} (a_chain {op = op} us x xs r o e) (a_chain us₂ x₂ xs₂ r₂ o₂ e₂) h h' =
    let k : Stops (Operands op) vs = all_stop (Chain op) (Operands op) (chain_operands op) vs h in
    let k' : Stops (Operands op) vs' = all_stop (Chain op) (Operands op) (chain_operands op) vs' h' in
    let a = one_way r r₂ (mid_stops o k) (mid_stops o₂ k') in
    let c = one_way o (subst (λ ws. Reads (Operands op) ws vs' xs₂) (sym a.0) o₂) k k' in
    (c.0, e ∙ ap (λ y. one (chain op y xs)) (ap first_form a.1) ∙ ap (λ ys. one (chain op x₂ ys)) c.1 ∙ sym e₂)
one_way no_operand no_operand h h' = (refl, refl)
one_way (no_operand {op = op}) (operand {t = t} us₂ e₂ r₂ o₂) h h' = let z : true ≡ false = sym (op_goes op) ∙ ap (goes_on (Operands op)) (sym e₂) ∙ h in absurd (cc)
one_way (operand {op = op} us e r o) no_operand h h' = let z : true ≡ false = sym (op_goes op) ∙ ap (goes_on (Operands op)) (sym e) ∙ h' in absurd (cc)
one_way {us = vs} {us' = vs'} (operand {op = op} {xs = xs} us e r o) (operand {x = x₂} {xs = xs₂} us₂ e₂ r₂ o₂) h h' =
    let a = one_way r r₂ (mid_stops o h) (mid_stops o₂ h') in
    let c = one_way o (subst (λ ws. Reads (Operands op) ws vs' xs₂) (sym a.0) o₂) h h' in
    (c.0, ap (λ y. More y xs) (ap first_form a.1) ∙ ap (More x₂) c.1)
one_way {us' = vs'} {f' = f'} (a_not {t = t} {ts = ts} {us = us} {x = x} e r) r₂ h h' =
    let v : UnaryBy kind.Tilde t ts vs' f' = subst (λ k. UnaryBy k t ts vs' f') e (unary_view r₂) in
    let a = one_way r v.1 h h' in
    (a.0, ap (λ y. one (Not y)) (ap first_form a.1) ∙ sym v.2)
one_way {us' = vs'} {f' = f'} (a_prim {ts = ts} {us = us} {f = f} r) r₂ h h' =
    one_way r (unary_is_prim ts us vs' f f' (prim_view r) (unary_view r₂)) (all_stop Unary Prim unary_prim us h) (all_stop Unary Prim unary_prim vs' h')
one_way {us' = vs'} {f' = f'} (a_variable {t = t} {ts = ts} e i) r₂ h h' =
    let v : PrimBy kind.Variable t ts vs' f' = subst (λ k. PrimBy k t ts vs' f') e (prim_view r₂) in
    (sym v.0, i ∙ sym v.1)
one_way {us' = vs'} {f' = f'} (an_integer {t = t} {ts = ts} {z = z} e) r₂ h h' =
    let v : PrimBy (kind.Integer z) t ts vs' f' = subst (λ k. PrimBy k t ts vs' f') e (prim_view r₂) in
    (sym v.0, sym v.1)
one_way {us' = vs'} {f' = f'} (a_call {ts = ts} {us = us} r) r₂ h h' =
    one_way r (prim_call_view ts vs' f' (call_first r) (prim_view r₂)) (all_stop Prim Call prim_call us h) (all_stop Prim Call prim_call vs' h')
one_way {us' = vs'} {f' = f'} (a_group {l = l} {ts = ts} {us = us} r e x p) r₂ h h' =
    let v : PrimBy kind.LeftParen l ts vs' f' = subst (λ k. PrimBy k l ts vs' f') e (prim_view r₂) in
    let a = one_way x v.1 (ap (goes_on (Chain Plus)) p) (ap (goes_on (Chain Plus)) v.2) in
    (ap tail a.0, a.1)
one_way {us' = vs'} {f' = f'} (a_nil {l = l} {r = r} {ts = ts} e p) r₂ h h' =
    nil_one (subst (λ k. PrimBy k l (r ∷ ts) vs' f') e (prim_view r₂))
  where
    nil_one : ListBy (r ∷ ts) vs' f' → Same ts vs' (one (Closed Last)) f'
    nil_one (inl v) = (ap tail v.1, sym v.3)
    nil_one (inr (inl v)) = absurd (no_close p v.2)
    nil_one (inr (inr v)) = absurd (no_close p v.5)
one_way {us' = vs'} {f' = f'} (a_list {l = l} {ts = ts} {us = us} {xs = xs} r e x p) r₂ h h' =
    list_one ts us vs' xs f' r p x (λ ws g y k. one_way x y (ap (goes_on Exprs) p) k) (subst (λ k. PrimBy k l ts vs' f') e (prim_view r₂))
one_way {us' = ws'} {f' = f'} (an_open_list {l = l} {ts = ts} {vs = vs} {xs = xs} {y = y} b r us e x p z q) r₂ h h' =
    open_one ts us vs ws' xs f' y b r p x (λ ws g w k. one_way x w (ap (goes_on Exprs) p) k) (λ ws g w k. one_way z w (ap (goes_on (Chain Plus)) q) k)
    (subst (λ k. PrimBy k l ts ws' f') e (prim_view r₂))
one_way {us' = vs'} {f = f} {f' = f'} (an_atom {t = t} {ts = ts} a e) r₂ h h' = atom_one (call_view r₂)
  where
    atom_one : CallView (t ∷ ts) vs' f' → Same ts vs' f f'
    atom_one (inl v) = (sym v.0, e ∙ sym v.1)
    atom_one (inr v) = let z : true ≡ false = ap (goes_on Call) (sym v.5) ∙ subst (Stops Call) v.4 h in absurd (cc)
one_way {us' = vs'} {f = f} {f' = f'} (a_compound {t = t} {l = l} {ts = ts} {us = us} r xs a e x p i) r₂ h h' =
    compound_one t l r ts us vs' xs f f' e i (λ ws g y k. one_way x y (ap (goes_on Exprs) p) k) h' (call_view r₂)
one_way {us = vs} {us' = vs'} (exprs {x = x} {xs = xs} us r o) (exprs {x = x₂} {xs = xs₂} us₂ r₂ o₂) h h' =
    let k : Stops Commas vs = all_stop Exprs Commas exprs_commas vs h in
    let k' : Stops Commas vs' = all_stop Exprs Commas exprs_commas vs' h' in
    let a = one_way r r₂ (comma_stops o k) (comma_stops o₂ k') in
    let c = one_way o (subst (λ ws. Reads Commas ws vs' xs₂) (sym a.0) o₂) k k' in
    (c.0, ap (λ y. More y xs) (ap first_form a.1) ∙ ap (More x₂) c.1)
one_way no_comma no_comma h h' = (refl, refl)
one_way no_comma (a_comma e r) h h' = let z : true ≡ false = ap (goes_on Commas) (sym e) ∙ h in absurd (cc)
one_way (a_comma e r) no_comma h h' = let z : true ≡ false = ap (goes_on Commas) (sym e) ∙ h' in absurd (cc)
one_way {us = vs} {us' = vs'} (a_comma e r) (a_comma e₂ r₂) h h' = one_way r r₂ (all_stop Commas Exprs commas_exprs vs h) (all_stop Commas Exprs commas_exprs vs' h')

-- ---- goals, clauses and queries

-- a goal is followed by a comma or a dot
abbrev ends_goal : Kind → Bool
ends_goal kind.Comma = true
ends_goal kind.Dot = true
ends_goal k = false

goal_stops : (s : Sym) (k : Kind) → ((j : Kind) → ends_goal j ≡ true → goes_on s j ≡ false) → ends_goal k ≡ true → goes_on s k ≡ false
goal_stops s k f h = f k h

chain_ends : (k : Kind) → ends_goal k ≡ true → goes_on (Chain Plus) k ≡ false
chain_ends kind.Comma h = refl
chain_ends kind.Dot h = refl
chain_ends k h = absurd (cc)

call_ends : (k : Kind) → ends_goal k ≡ true → goes_on Call k ≡ false
call_ends kind.Comma h = refl
call_ends kind.Dot h = refl
call_ends k h = absurd (cc)

not_equals : (k : Kind) → ends_goal k ≡ true → k ≡ kind.Equals → ⊥
not_equals k h e = let z : ends_goal kind.Equals ≡ true = subst (λ j. ends_goal j ≡ true) e h in absurd (cc)

-- a call is a chain of one operand at each operator
call_chain : {ts us : List Token} {x : Form} → Reads Call ts us (one x) → Reads (Chain Plus) ts us (one x)
call_chain {us = us} {x = x} r =
    a_chain {op = Plus} us x Last (a_chain {op = Hash} us x Last (a_chain {op = Star} us x Last (a_prim (a_call r)) no_operand refl) no_operand refl) no_operand refl

abbrev goal_call : FormGoal → Form
goal_call (ACall x) = x
goal_call (AnEqual x y) = x

-- a goal, where a comma or a dot follows
one_goal : {ts us us' : List Token} {c d : Token} {x y : FormGoal} → ReadsGoal ts (c ∷ us) x → ReadsGoal ts (d ∷ us') y → ends_goal c.kind ≡ true → ends_goal d.kind ≡ true →
    (c ∷ us ≡ d ∷ us') × (x ≡ y)
one_goal {c = c} {d = d} (calls r) (calls q) h k =
    let a = one_way r q (call_ends c.kind h) (call_ends d.kind k) in (a.0, ap ACall (ap first_form a.1))
one_goal {c = c} {d = d} (calls r) (equals e us q i w) h k =
    let a = one_way (call_chain r) q (chain_ends c.kind h) (ap (goes_on (Chain Plus)) i) in
    absurd (not_equals c.kind h (ap head_kind a.0 ∙ i))
one_goal {c = c} {d = d} (equals e us q i w) (calls r) h k =
    let a = one_way (call_chain r) q (chain_ends d.kind k) (ap (goes_on (Chain Plus)) i) in
    absurd (not_equals d.kind k (ap head_kind a.0 ∙ i))
one_goal {us' = vs'} {c = c} {d = d} (equals {x = x} {y = y} e us q i w) (equals {x = x₂} {y = y₂} e₂ us₂ q₂ i₂ w₂) h k =
    let a = one_way q q₂ (ap (goes_on (Chain Plus)) i) (ap (goes_on (Chain Plus)) i₂) in
    let b = one_way w (subst (λ ws. Reads (Chain Plus) ws (d ∷ vs') (one y₂)) (sym (ap tail a.0)) w₂) (chain_ends c.kind h) (chain_ends d.kind k) in
    (b.0, ap (λ z. AnEqual z y) (ap first_form a.1) ∙ ap (AnEqual x₂) (ap first_form b.1))

one_goals : {ts us us' : List Token} {xs ys : List FormGoal} → ReadsGoals ts us xs → ReadsGoals ts us' ys → (us ≡ us') × (xs ≡ ys)
one_goals (last_goal d r e) (last_goal d₂ r₂ e₂) =
    let a = one_goal r r₂ (ap ends_goal e) (ap ends_goal e₂) in (ap tail a.0, ap (λ x. x ∷ []) a.1)
one_goals (last_goal d r e) (more_goals c us r₂ e₂ o₂) =
    let a = one_goal r r₂ (ap ends_goal e) (ap ends_goal e₂) in
    let z : kind.Dot ≡ kind.Comma = sym e ∙ ap head_kind a.0 ∙ e₂ in
    absurd (cc)
one_goals (more_goals c us r e o) (last_goal d r₂ e₂) =
    let a = one_goal r r₂ (ap ends_goal e) (ap ends_goal e₂) in
    let z : kind.Comma ≡ kind.Dot = sym e ∙ ap head_kind a.0 ∙ e₂ in
    absurd (cc)
one_goals {us' = vs'} (more_goals {gs = gs} c us r e o) (more_goals {g = g₂} {gs = gs₂} c₂ us₂ r₂ e₂ o₂) =
    let a = one_goal r r₂ (ap ends_goal e) (ap ends_goal e₂) in
    let b = one_goals o (subst (λ ws. ReadsGoals ws vs' gs₂) (sym (ap tail a.0)) o₂) in
    (b.0, ap (λ x. x ∷ gs) a.1 ∙ ap (λ xs. g₂ ∷ xs) b.1)

not_neck : (t : Token) → IsAtom t → t.kind ≡ kind.Neck → ⊥
not_neck t (inl a) e = let z : kind.Atom ≡ kind.Neck = sym a ∙ e in cc
not_neck t (inr a) e = let z : kind.Quoted ≡ kind.Neck = sym a ∙ e in cc

pub one_clause : {ts us us' : List Token} {x y : FormClause} → ReadsClause ts us x → ReadsClause ts us' y → (us ≡ us') × (x ≡ y)
one_clause (directive {n = n} {w = w} d h a r e i) (directive d₂ h₂ a₂ r₂ e₂ i₂) =
    let b = one_way r r₂ (ap (goes_on Exprs) e) (ap (goes_on Exprs) e₂) in
    (ap tail b.0, i ∙ ap (g.Directive n.line (name_of w)) b.1 ∙ sym i₂)
one_clause (directive {n = n} d h a r e i) (fact d₂ r₂ e₂ i₂) = absurd (not_neck n (call_first r₂) h)
one_clause (directive {n = n} d h a r e i) (rule n₂ us₂ r₂ e₂ o₂ i₂) = absurd (not_neck n (call_first r₂) h)
one_clause (fact d r e i) (directive {n = n} d₂ h₂ a₂ r₂ e₂ i₂) = absurd (not_neck n (call_first r) h₂)
one_clause (rule m us r e o i) (directive {n = n} d₂ h₂ a₂ r₂ e₂ i₂) = absurd (not_neck n (call_first r) h₂)
one_clause (fact {t = t} d r e i) (fact d₂ r₂ e₂ i₂) =
    let b = one_way r r₂ (ap (goes_on Call) e) (ap (goes_on Call) e₂) in
    (ap tail b.0, i ∙ ap (λ f. g.Rule t.line f false []) (ap first_form b.1) ∙ sym i₂)
one_clause (fact d r e i) (rule n₂ us₂ r₂ e₂ o₂ i₂) =
    let b = one_way r r₂ (ap (goes_on Call) e) (ap (goes_on Call) e₂) in
    let z : kind.Dot ≡ kind.Neck = sym e ∙ ap head_kind b.0 ∙ e₂ in
    absurd (cc)
one_clause (rule n us r e o i) (fact d₂ r₂ e₂ i₂) =
    let b = one_way r r₂ (ap (goes_on Call) e) (ap (goes_on Call) e₂) in
    let z : kind.Neck ≡ kind.Dot = sym e ∙ ap head_kind b.0 ∙ e₂ in
    absurd (cc)
one_clause {us' = vs'} (rule {t = t} {gs = gs} n us r e o i) (rule {x = x₂} {gs = gs₂} n₂ us₂ r₂ e₂ o₂ i₂) =
    let b = one_way r r₂ (ap (goes_on Call) e) (ap (goes_on Call) e₂) in
    let c = one_goals o (subst (λ ws. ReadsGoals ws vs' gs₂) (sym (ap tail b.0)) o₂) in
    (c.0, i ∙ ap (λ f. g.Rule t.line f true gs) (ap first_form b.1) ∙ ap (g.Rule t.line x₂ true) c.1 ∙ sym i₂)

abbrev asked : ℕ → List FormGoal → FormQuery
asked n gs = record { line = n; goals = gs }

one_query : {ts us us' : List Token} {x y : FormQuery} → ReadsQuery ts us x → ReadsQuery ts us' y → (us ≡ us') × (x ≡ y)
one_query (a_query {t = t} o e) (a_query o₂ e₂) =
    let b = one_goals o o₂ in
    (b.0, e ∙ ap (asked t.line) b.1 ∙ sym e₂)

-- a whole text, where each piece is read in one way and none from nothing
one_text : {A : Type 0} (R : List Token → List Token → A → Type 0) → ((ts us us' : List Token) (x y : A) → R ts us x → R ts us' y → (us ≡ us') × (x ≡ y)) →
    ((us : List Token) (x : A) → R [] us x → ⊥) → (ts : List Token) (xs ys : List A) → ReadsAll R ts xs → ReadsAll R ts ys → xs ≡ ys
one_text R one none ts xs ys no_more no_more = refl
one_text R one none ts xs ys no_more (one_more us r o) = absurd (none us _ r)
one_text R one none ts xs ys (one_more us r o) no_more = absurd (none us _ r)
one_text R one none ts xs ys (one_more {x = x} {xs = xs'} us r o) (one_more {x = y} {xs = ys'} us₂ r₂ o₂) =
    let a = one ts us us₂ x y r r₂ in
    let b = one_text R one none us xs' ys' o (subst (λ ws. ReadsAll R ws ys') (sym a.0) o₂) in
    ap (λ z. z ∷ xs') a.1 ∙ ap (λ zs. y ∷ zs) b

no_clause : (us : List Token) (x : FormClause) → ReadsClause [] us x → ⊥
no_clause us x r = no_tokens r refl
  where
    no_tokens : {ts us : List Token} {x : FormClause} → ReadsClause ts us x → ts ≡ [] → ⊥
    no_tokens (directive d h a r e i) z = cc
    no_tokens (fact d r e i) z = cc
    no_tokens (rule n us r e o i) z = cc

no_query : (us : List Token) (x : FormQuery) → ReadsQuery [] us x → ⊥
no_query us x r = no_tokens r refl
  where
    no_tokens : {ts us : List Token} {x : FormQuery} → ReadsQuery ts us x → ts ≡ [] → ⊥
    no_tokens (a_query o e) z = cc

pub clauses_are_one : ClausesAreOne
clauses_are_one = one_text ReadsClause (λ ts us us' x y r q. one_clause r q) no_clause

pub queries_are_one : QueriesAreOne
queries_are_one = one_text ReadsQuery (λ ts us us' x y r q. one_query r q) no_query
