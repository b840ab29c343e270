-- What each exit of the reading functions adds, over plain tokens: terms.
use Rattle.std.specs.Prelude.{nat_le, slice_get}
use Rattle.std.proofs.Common.{◌≡◌, ℕ, suc, zero, ◌+◌, ◌-◌, ◌<◌, ◌≤◌, false, inl, inr, List, [], ◌∷◌, ◌++◌, length, map, Some, None, refl, sym, ◌∙◌, ap, subst, arith, add-one}
use Rattle.std.proofs.lemmas.List.{length-map}
use Rattle.std.proofs.lemmas.Bool.{lt-leb, le-leb}
use Rattle.std.proofs.lemmas.List.Sums.{sum_by-cons}
use Rattle.cb_model.specs.declared.Kind.{Kind}
use Rattle.cb_model.specs.declared.Kind.TheVariants as kind
use Rattle.cb_model.specs.Tokens.{Token, name_of}
use Rattle.cb_model.specs.Grammar as sym
use Rattle.cb_model.specs.Grammar.{Op, Plus, Hash, Star, op_kind, tighter, Form, Forms, Variable, Integer, Name, Closed, Open, Not, Last, More, one, chain, IsAtom, nest, depth, finished, after_atom, Reads, a_chain, no_operand, operand, a_not, a_prim, a_variable, an_integer, a_call, a_group, a_nil, a_list, an_open_list, an_atom, a_compound, exprs, no_comma, a_comma}
use Rattle.cb_model.specs.Forms.{forms_of}
use Rattle.cb_lex.specs.declared.Token as declared
use Rattle.cb_lex.specs.View.{token_of}
use Rattle.cb_syntax.specs.Machine.{Item, Chain, Operands, Operand, Args, Commas, ListRest, ListEnd, Close, CloseBracket, Outcome, step, choose, run, operand_move, Refuses, Move, pass, can_end, at_end}
use Rattle.cb_syntax.specs.Machine as out
use Rattle.cb_syntax.specs.declared.read.Stop.{Stop}
use Rattle.cb_syntax.specs.declared.read.Stop.TheVariants.{Memory, Ended, Wrong, Deep}
use Rattle.cb_syntax.specs.Answers.{Agrees}
use Rattle.cb_syntax.specs.Steps.{rest, inner, Stops, TookChain, TookInner, TookOperand, NoOperand, TookCall, NoCall, TookTerms, NoTerms, TookList, NoList, TookListEnd, NoListEnd, TookOperands, NoKind, Ahead, AheadOf, Only, NotAhead}

-- the token at a place
place : (ts : List declared.Token) (at : ℕ) (t : declared.Token) → slice_get ts at ≡ Some t → Ahead (length ts) at (rest ts at) (token_of t) (rest ts (suc at))
place [] at t e = absurd (cc)
place (x ∷ ts) zero t e =
    let h : x ≡ t = cc in
    record { first = ap (λ y. token_of y ∷ map token_of ts) h; within = omega arith; count = omega (arith, length-map ts token_of) }
place (x ∷ ts) (suc n) t e = let r = place ts n t e in record { first = r.first; within = omega (arith, r.within); count = omega (arith, r.count) }

pub placed : (ts : List declared.Token) (at : ℕ) (t : declared.Token) → slice_get ts at ≡ Some t → Ahead (length ts) at (rest ts at) (token_of t) (rest ts (at + 1))
placed ts at t e = subst (λ n. Ahead (length ts) at (rest ts at) (token_of t) (rest ts n)) (sym (add-one at)) (place ts at t e)

pub past : (ts : List declared.Token) (at : ℕ) → slice_get ts at ≡ None → rest ts at ≡ []
past [] zero e = refl
past [] (suc n) e = refl
past (x ∷ ts) zero e = absurd (cc)
past (x ∷ ts) (suc n) e = past ts n e

-- ---- one step of the machine

pub taken : (is js : List Item) (ns ms : List ℕ) (k : Kind) (t : Token) (ts : List Token) → t.kind ≡ k → step is k ≡ Some js → nest k ts ns ≡ ms → depth ms < 257 → run is ns (t ∷ ts) ≡ run js ms ts
taken is js ns ms k t ts h s m d =
    let e : step is t.kind ≡ Some js = ap (step is) h ∙ s in
    let n : nest t.kind ts ns ≡ ms = ap (λ j. nest j ts ns) h ∙ m in
    ap (λ o. choose o (length (t ∷ ts)) (nat_le 257 (depth (nest t.kind ts ns))) (λ js. run js (nest t.kind ts ns) ts)) e
    ∙ ap (λ ms. choose (Some js) (length (t ∷ ts)) (nat_le 257 (depth ms)) (λ js. run js ms ts)) n
    ∙ ap (λ b. choose (Some js) (length (t ∷ ts)) b (λ js. run js ms ts)) (lt-leb 257 (depth ms) d)

pub refused : (is : List Item) (ns : List ℕ) (t : Token) (ts : List Token) → step is t.kind ≡ None → run is ns (t ∷ ts) ≡ out.Wrong (length (t ∷ ts))
refused is ns t ts e = ap (λ o. choose o (length (t ∷ ts)) (nat_le 257 (depth (nest t.kind ts ns))) (λ js. run js (nest t.kind ts ns) ts)) e

sunk : (is js : List Item) (ns ms : List ℕ) (k : Kind) (t : Token) (ts : List Token) → t.kind ≡ k → step is k ≡ Some js → nest k ts ns ≡ ms → 257 ≤ depth ms → run is ns (t ∷ ts) ≡ out.Deep (length (t ∷ ts))
sunk is js ns ms k t ts h s m d =
    let e : step is t.kind ≡ Some js = ap (step is) h ∙ s in
    let n : nest t.kind ts ns ≡ ms = ap (λ j. nest j ts ns) h ∙ m in
    ap (λ o. choose o (length (t ∷ ts)) (nat_le 257 (depth (nest t.kind ts ns))) (λ js. run js (nest t.kind ts ns) ts)) e
    ∙ ap (λ ms. choose (Some js) (length (t ∷ ts)) (nat_le 257 (depth ms)) (λ js. run js ms ts)) n
    ∙ ap (λ b. choose (Some js) (length (t ∷ ts)) b (λ js. run js ms ts)) (le-leb 257 (depth ms) d)

-- two stacks with one move and one end are one
pub alike : (is js : List Item) (ns : List ℕ) (ts : List Token) → can_end is ≡ can_end js → ((t : Token) (us : List Token) → ts ≡ t ∷ us → step is t.kind ≡ step js t.kind) → run is ns ts ≡ run js ns ts
alike is js ns [] e s = ap at_end e
alike is js ns (t ∷ ts) e s = ap (λ o. choose o (length (t ∷ ts)) (nat_le 257 (depth (nest t.kind ts ns))) (λ js. run js (nest t.kind ts ns) ts)) (s t ts refl)

-- an answer of the rest is one of the whole, where the machine comes to the rest
pub agrees : (e : Stop) (o p : Outcome) → o ≡ p → Agrees e p → Agrees e o
agrees Memory o p q a = tt
agrees Ended o p q a = q ∙ a
agrees (Wrong n) o p q a = q ∙ a
agrees (Deep n) o p q a = q ∙ a

pub memory : (e : Stop) (o : Outcome) → e ≡ Memory → Agrees e o
memory e o h = subst (λ s. Agrees s o) (sym h) tt

down : (n : ℕ) (ns : List ℕ) → depth (0 ∷ ns) ≤ depth (n ∷ ns)
down n ns = omega arith

deeper : (n : ℕ) (ns : List ℕ) → depth (0 ∷ n ∷ ns) ≡ depth (n ∷ ns) + 1
deeper n ns = omega (arith, sum_by-cons (λ x. x) n ns)

pub left_is : (all at : ℕ) (ts us : List Token) (t : Token) → Ahead all at ts t us → length (t ∷ us) ≡ all - at
left_is all at ts us t a = let e : length ts ≡ length (t ∷ us) = ap length a.first in omega (arith, a.count, a.within)

-- ---- a token that must come next

pub not_there : (k : Kind) (all at : ℕ) (ts us : List Token) (t : Token) → Ahead all at ts t us → (t.kind ≡ k → ⊥) → NotAhead k ts (Wrong (all - at))
not_there k all at ts us t a n is ns o = ap (run is ns) a.first ∙ refused is ns t us (o.others t.kind n) ∙ ap out.Wrong (left_is all at ts us t a)

pub nothing_there : (k : Kind) (ts : List Token) → ts ≡ [] → NotAhead k ts Ended
nothing_there k ts e is ns o = ap (run is ns) e ∙ ap at_end o.no_end

pub only_close : (is : List Item) → Only kind.RightParen (Close ∷ is)
only_close is = record { no_end = refl; others = others }
  where
    others : (j : Kind) → (j ≡ kind.RightParen → ⊥) → step (Close ∷ is) j ≡ None
    others kind.RightParen n = absurd (n refl)
    others _ n = refl

pub only_bracket : (is : List Item) → Only kind.RightBracket (CloseBracket ∷ is)
only_bracket is = record { no_end = refl; others = others }
  where
    others : (j : Kind) → (j ≡ kind.RightBracket → ⊥) → step (CloseBracket ∷ is) j ≡ None
    others kind.RightBracket n = absurd (n refl)
    others _ n = refl

-- ---- what an atom leaves open

small_after : (k : Kind) (t : Token) (ts : List Token) (n : ℕ) (ns : List ℕ) → depth (after_atom (record t { kind = k } ∷ ts) (n ∷ ns)) ≤ depth (n ∷ ns)
small_after kind.LeftParen t ts n ns = omega arith
small_after _ t ts n ns = down n ns

pub atom_small : (ts : List Token) (n : ℕ) (ns : List ℕ) → depth (nest kind.Atom ts (n ∷ ns)) ≤ depth (n ∷ ns)
atom_small [] n ns = down n ns
atom_small (t ∷ ts) n ns = small_after t.kind t ts n ns

plain_after : (k : Kind) (t : Token) (ts : List Token) (ns : List ℕ) → (k ≡ kind.LeftParen → ⊥) → after_atom (record t { kind = k } ∷ ts) ns ≡ finished ns
plain_after kind.LeftParen t ts ns h = absurd (h refl)
plain_after _ t ts ns h = refl

called_after : (k : Kind) (t : Token) (ts : List Token) (ns : List ℕ) → k ≡ kind.LeftParen → after_atom (record t { kind = k } ∷ ts) ns ≡ ns
called_after k t ts ns h = ap (λ j. after_atom (record t { kind = j } ∷ ts) ns) h

no_args : (is : List Item) (k : Kind) → (k ≡ kind.LeftParen → ⊥) → step (Args ∷ is) k ≡ step is k
no_args is kind.LeftParen h = absurd (h refl)
no_args is _ h = refl

-- ---- operands

pub operand_ended : (d : ℕ) (ts : List Token) → ts ≡ [] → NoOperand d ts Ended
operand_ended d ts e = λ is n ns h. ap (λ us. run (Operand ∷ is) (n ∷ ns) us) e

pub operand_wrong : (d all at : ℕ) (ts us : List Token) (t : Token) → Ahead all at ts t us → operand_move t.kind ≡ Refuses → NoOperand d ts (Wrong (all - at))
operand_wrong d all at ts us t a k = λ is n ns h.
    ap (run (Operand ∷ is) (n ∷ ns)) a.first ∙ refused (Operand ∷ is) (n ∷ ns) t us (ap (λ (m : Move). pass m is (step is t.kind)) k) ∙ ap out.Wrong (left_is all at ts us t a)

pub operand_refuses : (k : Kind) → (k ≡ kind.Variable → ⊥) → ((z : _) → k ≡ kind.Integer z → ⊥) → (k ≡ kind.Tilde → ⊥) → (k ≡ kind.LeftParen → ⊥) → (k ≡ kind.LeftBracket → ⊥) → (k ≡ kind.Atom → ⊥) → (k ≡ kind.Quoted → ⊥) → operand_move k ≡ Refuses
operand_refuses kind.Variable a z b c f d e = absurd (a refl)
operand_refuses (kind.Integer x) a z b c f d e = absurd (z x refl)
operand_refuses kind.Tilde a z b c f d e = absurd (b refl)
operand_refuses kind.LeftParen a z b c f d e = absurd (c refl)
operand_refuses kind.LeftBracket a z b c f d e = absurd (f refl)
operand_refuses kind.Atom a z b c f d e = absurd (d refl)
operand_refuses kind.Quoted a z b c f d e = absurd (e refl)
operand_refuses _ a z b c f d e = refl

module _ (d all at : ℕ) (ts us : List Token) (t : Token) (a : Ahead all at ts t us) where
  pub operand_variable : t.kind ≡ kind.Variable → d ≤ 256 → TookOperand d ts us (Variable t.text)
  operand_variable k small = subst (λ vs. TookOperand d vs us (Variable t.text)) (sym a.first) (record {
    reads = a_prim (a_variable k refl);
    runs = λ is n ns h. taken (Operand ∷ is) is (n ∷ ns) (0 ∷ ns) kind.Variable t us k refl refl (let g = down n ns in omega arith);
  })

  pub operand_integer : (z : _) → t.kind ≡ kind.Integer z → d ≤ 256 → TookOperand d ts us (Integer z)
  operand_integer z k small = subst (λ vs. TookOperand d vs us (Integer z)) (sym a.first) (record {
    reads = a_prim (an_integer k);
    runs = λ is n ns h. taken (Operand ∷ is) is (n ∷ ns) (0 ∷ ns) (kind.Integer z) t us k refl refl (let g = down n ns in omega arith);
  })

  pub not_deep : t.kind ≡ kind.Tilde → d ≡ 256 → NoOperand d ts (Deep (all - at))
  not_deep k full = λ is n ns h.
      ap (run (Operand ∷ is) (n ∷ ns)) a.first ∙ sunk (Operand ∷ is) (Operand ∷ is) (n ∷ ns) (suc n ∷ ns) kind.Tilde t us k refl refl (omega arith) ∙ ap out.Deep (left_is all at ts us t a)

  to_not : t.kind ≡ kind.Tilde → d < 256 → (is : List Item) (n : ℕ) (ns : List ℕ) → depth (n ∷ ns) ≡ d → run (Operand ∷ is) (n ∷ ns) ts ≡ run (Operand ∷ is) (suc n ∷ ns) us
  to_not k small is n ns h = ap (run (Operand ∷ is) (n ∷ ns)) a.first ∙ taken (Operand ∷ is) (Operand ∷ is) (n ∷ ns) (suc n ∷ ns) kind.Tilde t us k refl refl (omega arith)

  pub not_stops : t.kind ≡ kind.Tilde → d < 256 → (e : Stop) → NoOperand (d + 1) us e → NoOperand d ts e
  not_stops k small e s = λ is n ns h. agrees e _ _ (to_not k small is n ns h) (s is (suc n) ns (omega arith))

  pub not_took : t.kind ≡ kind.Tilde → d < 256 → (vs : List Token) (x : Form) → TookOperand (d + 1) us vs x → TookOperand d ts vs (Not x)
  not_took k small vs x s = record {
    reads = subst (λ ws. Reads sym.Unary ws vs (one (Not x))) (sym a.first) (a_not k s.reads);
    runs = λ is n ns h. to_not k small is n ns h ∙ s.runs is (suc n) ns (omega arith);
  }

  pub group_deep : t.kind ≡ kind.LeftParen → d ≡ 256 → NoOperand d ts (Deep (all - at))
  group_deep k full = λ is n ns h. let g = deeper n ns in
      ap (run (Operand ∷ is) (n ∷ ns)) a.first ∙ sunk (Operand ∷ is) (Chain Plus ∷ Close ∷ is) (n ∷ ns) (0 ∷ n ∷ ns) kind.LeftParen t us k refl refl (omega arith) ∙ ap out.Deep (left_is all at ts us t a)

  to_group : t.kind ≡ kind.LeftParen → d < 256 → (is : List Item) (n : ℕ) (ns : List ℕ) → depth (n ∷ ns) ≡ d → run (Operand ∷ is) (n ∷ ns) ts ≡ run (Chain Plus ∷ Close ∷ is) (0 ∷ n ∷ ns) us
  to_group k small is n ns h = let g = deeper n ns in ap (run (Operand ∷ is) (n ∷ ns)) a.first ∙ taken (Operand ∷ is) (Chain Plus ∷ Close ∷ is) (n ∷ ns) (0 ∷ n ∷ ns) kind.LeftParen t us k refl refl (omega arith)

  pub group_stops : t.kind ≡ kind.LeftParen → d < 256 → (e : Stop) → Stops (Chain Plus) (d + 1) us e → NoOperand d ts e
  group_stops k small e s = λ is n ns h. let g = deeper n ns in agrees e _ _ (to_group k small is n ns h) (s (Close ∷ is) (n ∷ ns) (omega arith))

  to_close : t.kind ≡ kind.LeftParen → d < 256 → (vs : List Token) (x : Form) → TookChain Plus (d + 1) us vs x → (is : List Item) (n : ℕ) (ns : List ℕ) → depth (n ∷ ns) ≡ d → run (Operand ∷ is) (n ∷ ns) ts ≡ run (Close ∷ is) (0 ∷ n ∷ ns) vs
  to_close k small vs x s is n ns h = let g = deeper n ns in to_group k small is n ns h ∙ s.runs (Close ∷ is) (n ∷ ns) (omega arith)

  pub group_open : t.kind ≡ kind.LeftParen → d < 256 → (vs : List Token) (x : Form) → TookChain Plus (d + 1) us vs x → (e : Stop) → NotAhead kind.RightParen vs e → NoOperand d ts e
  group_open k small vs x s e r = λ is n ns h. agrees e _ _ (to_close k small vs x s is n ns h) (r (Close ∷ is) (0 ∷ n ∷ ns) (only_close is))

  pub group_took : t.kind ≡ kind.LeftParen → d < 256 → (vs : List Token) (x : Form) → TookChain Plus (d + 1) us vs x → (after : ℕ) (ws : List Token) → AheadOf kind.RightParen all after vs ws → TookOperand d ts ws x
  group_took k small vs x s after ws b = record {
    reads = subst (λ os. Reads sym.Unary os ws (one x)) (sym a.first) (a_prim (a_group b.token k (subst (λ os. Reads (sym.Chain Plus) us os (one x)) b.ahead.first s.reads) b.is));
    runs = λ is n ns h. to_close k small vs x s is n ns h ∙ ap (run (Close ∷ is) (0 ∷ n ∷ ns)) b.ahead.first ∙ taken (Close ∷ is) is (0 ∷ n ∷ ns) (0 ∷ ns) kind.RightParen b.token ws b.is refl refl (let g = down n ns in omega arith);
  }

  pub list_deep : t.kind ≡ kind.LeftBracket → d ≡ 256 → NoOperand d ts (Deep (all - at))
  list_deep k full = λ is n ns h. let g = deeper n ns in
      ap (run (Operand ∷ is) (n ∷ ns)) a.first ∙ sunk (Operand ∷ is) (ListRest ∷ is) (n ∷ ns) (0 ∷ n ∷ ns) kind.LeftBracket t us k refl refl (omega arith) ∙ ap out.Deep (left_is all at ts us t a)

  to_list : t.kind ≡ kind.LeftBracket → d < 256 → (is : List Item) (n : ℕ) (ns : List ℕ) → depth (n ∷ ns) ≡ d → run (Operand ∷ is) (n ∷ ns) ts ≡ run (ListRest ∷ is) (0 ∷ n ∷ ns) us
  to_list k small is n ns h = let g = deeper n ns in ap (run (Operand ∷ is) (n ∷ ns)) a.first ∙ taken (Operand ∷ is) (ListRest ∷ is) (n ∷ ns) (0 ∷ n ∷ ns) kind.LeftBracket t us k refl refl (omega arith)

  pub list_stops : t.kind ≡ kind.LeftBracket → d < 256 → (e : Stop) → NoList (d + 1) us e → NoOperand d ts e
  list_stops k small e s = λ is n ns h. let g = deeper n ns in agrees e _ _ (to_list k small is n ns h) (s is n ns (omega arith))

  pub list_took : t.kind ≡ kind.LeftBracket → d < 256 → (vs : List Token) (x : Form) → TookList (d + 1) us vs x → TookOperand d ts vs x
  list_took k small vs x s = record {
    reads = subst (λ os. Reads sym.Unary os vs (one x)) (sym a.first) (a_prim (s.reads t k));
    runs = λ is n ns h. let g = deeper n ns in to_list k small is n ns h ∙ s.runs is n ns (omega arith);
  }

  -- an atom
  pub to_call : IsAtom t → d ≤ 256 → (is : List Item) (n : ℕ) (ns : List ℕ) → depth (n ∷ ns) ≡ d → run (Operand ∷ is) (n ∷ ns) ts ≡ run (Args ∷ is) (nest kind.Atom us (n ∷ ns)) us
  to_call (inl k) small is n ns h = ap (run (Operand ∷ is) (n ∷ ns)) a.first ∙ taken (Operand ∷ is) (Args ∷ is) (n ∷ ns) (nest kind.Atom us (n ∷ ns)) kind.Atom t us k refl refl (let g = atom_small us n ns in omega arith)
  to_call (inr k) small is n ns h = ap (run (Operand ∷ is) (n ∷ ns)) a.first ∙ taken (Operand ∷ is) (Args ∷ is) (n ∷ ns) (nest kind.Atom us (n ∷ ns)) kind.Quoted t us k refl refl (let g = atom_small us n ns in omega arith)

  pub call_stops : IsAtom t → d ≤ 256 → (e : Stop) → NoCall d us e → NoOperand d ts e
  call_stops k small e s = λ is n ns h. agrees e _ _ (to_call k small is n ns h) (s is n ns h)

  pub call_took : IsAtom t → d ≤ 256 → (vs : List Token) (x : Form) → TookCall d t us vs x → TookOperand d ts vs x
  call_took k small vs x s = record {
    reads = subst (λ os. Reads sym.Unary os vs (one x)) (sym a.first) (a_prim (a_call s.reads));
    runs = λ is n ns h. to_call k small is n ns h ∙ s.runs is n ns h;
  }

-- ---- lists of terms

abbrev pub appends : List Form → Forms → Forms
appends [] f = f
appends (x ∷ xs) f = More x (appends xs f)

appends_more : (fs : List Form) (x : Form) (ys : Forms) → appends (fs ++ x ∷ []) ys ≡ appends fs (More x ys)
appends_more [] x ys = refl
appends_more (f ∷ fs) x ys = ap (More f) (appends_more fs x ys)

appends_last : (fs : List Form) → appends fs Last ≡ forms_of fs
appends_last [] = refl
appends_last (f ∷ fs) = ap (More f) (appends_last fs)

appends_one : (fs : List Form) (x : Form) → appends fs (More x Last) ≡ forms_of (fs ++ x ∷ [])
appends_one [] x = refl
appends_one (f ∷ fs) x = ap (More f) (appends_one fs x)

-- terms were read, and one more is to come
pub record TermsSoFar (d : ℕ) (ts us : List Token) (fs : List Form) : Type 0 where
  pub reads : (vs : List Token) (ys : Forms) → Reads sym.Exprs us vs ys → Reads sym.Exprs ts vs (appends fs ys)
  pub runs : (is : List Item) (ns : List ℕ) → depth (0 ∷ ns) ≡ d → run (Chain Plus ∷ Commas ∷ is) (0 ∷ ns) ts ≡ run (Chain Plus ∷ Commas ∷ is) (0 ∷ ns) us

pub terms_none : (d : ℕ) (ts : List Token) (fs : List Form) → fs ≡ [] → TermsSoFar d ts ts fs
terms_none d ts fs e = subst (λ gs. TermsSoFar d ts ts gs) (sym e) (record { reads = λ vs ys r. r; runs = λ is ns h. refl })

no_comma_next : (is : List Item) (k : Kind) → (k ≡ kind.Comma → ⊥) → step (Commas ∷ is) k ≡ step is k
no_comma_next is kind.Comma n = absurd (n refl)
no_comma_next is _ n = refl

comma_skips : (is : List Item) (ns : List ℕ) (ts : List Token) → NoKind kind.Comma ts → run (Commas ∷ is) ns ts ≡ run is ns ts
comma_skips is ns [] n = refl
comma_skips is ns (t ∷ ts) n = alike (Commas ∷ is) is ns (t ∷ ts) refl (λ s us e. let h : t ≡ s = cc in no_comma_next is s.kind (subst (λ (u : Token). u.kind ≡ kind.Comma → ⊥) h n))

module _ (d : ℕ) (ts us : List Token) (fs : List Form) (so : TermsSoFar d ts us fs) where
  pub terms_stop : (e : Stop) → Stops (Chain Plus) d us e → NoTerms d ts e
  terms_stop e s = λ is ns h. agrees e _ _ (so.runs is ns h) (s (Commas ∷ is) ns h)

  module _ (vs : List Token) (x : Form) (s : TookChain Plus d us vs x) (gs : List Form) (e : gs ≡ fs ++ x ∷ []) where
    pub terms_more : (all after : ℕ) (ws : List Token) → AheadOf kind.Comma all after vs ws → d ≤ 256 → TermsSoFar d ts ws gs
    terms_more all after ws b small = subst (λ hs. TermsSoFar d ts ws hs) (sym e) (record {
      reads = λ os ys r. subst (λ zs. Reads sym.Exprs ts os zs) (sym (appends_more fs x ys)) (so.reads os (More x ys) (exprs vs s.reads (subst (λ ps. Reads sym.Commas ps os ys) (sym b.ahead.first) (a_comma b.is r))));
      runs = λ is ns h. so.runs is ns h ∙ s.runs (Commas ∷ is) ns h ∙ ap (run (Commas ∷ is) (0 ∷ ns)) b.ahead.first ∙ taken (Commas ∷ is) (Chain Plus ∷ Commas ∷ is) (0 ∷ ns) (0 ∷ ns) kind.Comma b.token ws b.is refl refl (omega arith);
    })

    pub terms_took : NoKind kind.Comma vs → TookTerms d ts vs (forms_of gs)
    terms_took n = subst (λ hs. TookTerms d ts vs (forms_of hs)) (sym e) (record {
      reads = subst (λ zs. Reads sym.Exprs ts vs zs) (appends_one fs x) (so.reads vs (More x Last) (exprs vs s.reads no_comma));
      runs = λ is ns h. so.runs is ns h ∙ s.runs (Commas ∷ is) ns h ∙ comma_skips is (0 ∷ ns) vs n;
    })

-- ---- after an atom

pub call_end : (d : ℕ) (t : Token) (ts : List Token) → IsAtom t → NoKind kind.LeftParen ts → TookCall d t ts ts (Name (name_of t) Last)
call_end d t [] a n = record { reads = an_atom a refl; runs = λ is n ns h. refl }
call_end d t (l ∷ us) a o = record {
  reads = an_atom a refl;
  runs = λ is n ns h. ap (λ ms. run (Args ∷ is) ms (l ∷ us)) (plain_after l.kind l us (n ∷ ns) o) ∙ alike (Args ∷ is) is (0 ∷ ns) (l ∷ us) refl (λ s vs e. let h : l ≡ s = cc in no_args is s.kind (subst (λ (u : Token). u.kind ≡ kind.LeftParen → ⊥) h o));
}

module _ (d : ℕ) (t : Token) (ts : List Token) (a : IsAtom t) (all at : ℕ) (us : List Token) (b : AheadOf kind.LeftParen all at ts us) where
  to_paren : (is : List Item) (n : ℕ) (ns : List ℕ) → run (Args ∷ is) (nest kind.Atom ts (n ∷ ns)) ts ≡ run (Args ∷ is) (n ∷ ns) (b.token ∷ us)
  to_paren is n ns = ap (λ vs. run (Args ∷ is) (nest kind.Atom vs (n ∷ ns)) vs) b.ahead.first ∙ ap (λ ms. run (Args ∷ is) ms (b.token ∷ us)) (called_after b.token.kind b.token us (n ∷ ns) b.is)

  pub call_deep : d ≡ 256 → NoCall d ts (Deep (all - at))
  call_deep full = λ is n ns h. let g = deeper n ns in
      to_paren is n ns ∙ sunk (Args ∷ is) (Chain Plus ∷ Commas ∷ Close ∷ is) (n ∷ ns) (0 ∷ n ∷ ns) kind.LeftParen b.token us b.is refl refl (omega arith) ∙ ap out.Deep (left_is all at ts us b.token b.ahead)

  to_args : d < 256 → (is : List Item) (n : ℕ) (ns : List ℕ) → depth (n ∷ ns) ≡ d → run (Args ∷ is) (nest kind.Atom ts (n ∷ ns)) ts ≡ run (Chain Plus ∷ Commas ∷ Close ∷ is) (0 ∷ n ∷ ns) us
  to_args small is n ns h = let g = deeper n ns in to_paren is n ns ∙ taken (Args ∷ is) (Chain Plus ∷ Commas ∷ Close ∷ is) (n ∷ ns) (0 ∷ n ∷ ns) kind.LeftParen b.token us b.is refl refl (omega arith)

  pub args_stop : d < 256 → (e : Stop) → NoTerms (d + 1) us e → NoCall d ts e
  args_stop small e s = λ is n ns h. let g = deeper n ns in agrees e _ _ (to_args small is n ns h) (s (Close ∷ is) (n ∷ ns) (omega arith))

  module _ (vs : List Token) (xs : Forms) (s : TookTerms (d + 1) us vs xs) where
    pub args_open : d < 256 → (e : Stop) → NotAhead kind.RightParen vs e → NoCall d ts e
    args_open small e r = λ is n ns h. let g = deeper n ns in agrees e _ _ (to_args small is n ns h ∙ s.runs (Close ∷ is) (n ∷ ns) (omega arith)) (r (Close ∷ is) (0 ∷ n ∷ ns) (only_close is))

    pub args_took : d < 256 → (after : ℕ) (ws : List Token) → AheadOf kind.RightParen all after vs ws → TookCall d t ts ws (Name (name_of t) xs)
    args_took small after ws c = record {
      reads = subst (λ os. Reads sym.Call (t ∷ os) ws (one (Name (name_of t) xs))) (sym b.ahead.first) (a_compound c.token xs a b.is (subst (λ os. Reads sym.Exprs us os xs) c.ahead.first s.reads) c.is refl);
      runs = λ is n ns h. let g = deeper n ns in
          to_args small is n ns h ∙ s.runs (Close ∷ is) (n ∷ ns) (omega arith) ∙ ap (run (Close ∷ is) (0 ∷ n ∷ ns)) c.ahead.first ∙ taken (Close ∷ is) is (0 ∷ n ∷ ns) (0 ∷ ns) kind.RightParen c.token ws c.is refl refl (let f = down n ns in omega arith);
    }

-- ---- lists

pub nil_took : (d all at : ℕ) (ts us : List Token) → AheadOf kind.RightBracket all at ts us → d ≤ 256 → TookList d ts us (Closed Last)
nil_took d all at ts us b small = subst (λ os. TookList d os us (Closed Last)) (sym b.ahead.first) (record {
  reads = λ l h. a_nil h b.is;
  runs = λ is n ns h. taken (ListRest ∷ is) is (0 ∷ n ∷ ns) (0 ∷ ns) kind.RightBracket b.token us b.is refl refl (let g = deeper n ns in let f = down n ns in omega arith);
})

as_terms : (is : List Item) (k : Kind) → (k ≡ kind.RightBracket → ⊥) → step (ListRest ∷ is) k ≡ step (Chain Plus ∷ Commas ∷ ListEnd ∷ is) k
as_terms is kind.RightBracket n = absurd (n refl)
as_terms is kind.Tilde n = refl
as_terms is kind.Variable n = refl
as_terms is (kind.Integer z) n = refl
as_terms is kind.Atom n = refl
as_terms is kind.Quoted n = refl
as_terms is kind.LeftParen n = refl
as_terms is kind.LeftBracket n = refl
as_terms is _ n = refl

to_elements : (is : List Item) (ns : List ℕ) (ts : List Token) → NoKind kind.RightBracket ts → run (ListRest ∷ is) ns ts ≡ run (Chain Plus ∷ Commas ∷ ListEnd ∷ is) ns ts
to_elements is ns [] n = refl
to_elements is ns (t ∷ ts) n = alike (ListRest ∷ is) (Chain Plus ∷ Commas ∷ ListEnd ∷ is) ns (t ∷ ts) refl (λ s us e. let h : t ≡ s = cc in as_terms is s.kind (subst (λ (u : Token). u.kind ≡ kind.RightBracket → ⊥) h n))

pub elements_stop : (d : ℕ) (ts : List Token) → NoKind kind.RightBracket ts → (e : Stop) → NoTerms d ts e → NoList d ts e
elements_stop d ts n e s = λ is m ns h. agrees e _ _ (to_elements is (0 ∷ m ∷ ns) ts n) (s (ListEnd ∷ is) (m ∷ ns) h)

pub list_end_stops : (d : ℕ) (ts us : List Token) (xs : Forms) → NoKind kind.RightBracket ts → TookTerms d ts us xs → (e : Stop) → NoListEnd d us e → NoList d ts e
list_end_stops d ts us xs n a e s = λ is m ns h. agrees e _ _ (to_elements is (0 ∷ m ∷ ns) ts n ∙ a.runs (ListEnd ∷ is) (m ∷ ns) h) (s is m ns h)

pub elements_took : (d : ℕ) (ts us vs : List Token) (xs : Forms) (x : Form) → NoKind kind.RightBracket ts → TookTerms d ts us xs → TookListEnd d xs us vs x → TookList d ts vs x
elements_took d ts us vs xs x n a s = record {
  reads = λ l h. s.reads l ts h a.reads;
  runs = λ is m ns h. to_elements is (0 ∷ m ∷ ns) ts n ∙ a.runs (ListEnd ∷ is) (m ∷ ns) h ∙ s.runs is m ns h;
}

pub closed_took : (d all at : ℕ) (xs : Forms) (ts us : List Token) → AheadOf kind.RightBracket all at ts us → d ≤ 256 → TookListEnd d xs ts us (Closed xs)
closed_took d all at xs ts us b small = record {
  reads = λ l os h r. a_prim_list l os h r;
  runs = λ is n ns h. ap (run (ListEnd ∷ is) (0 ∷ n ∷ ns)) b.ahead.first ∙ taken (ListEnd ∷ is) is (0 ∷ n ∷ ns) (0 ∷ ns) kind.RightBracket b.token us b.is refl refl (let g = deeper n ns in let f = down n ns in omega arith);
}
  where
    a_prim_list : (l : Token) (os : List Token) → l.kind ≡ kind.LeftBracket → Reads sym.Exprs os ts xs → Reads sym.Prim (l ∷ os) us (one (Closed xs))
    a_prim_list l os h r = a_list b.token h (subst (λ ps. Reads sym.Exprs os ps xs) b.ahead.first r) b.is

module _ (d all at : ℕ) (xs : Forms) (ts us : List Token) (b : AheadOf kind.Bar all at ts us) (small : d ≤ 256) where
  to_tail : (is : List Item) (n : ℕ) (ns : List ℕ) → depth (0 ∷ n ∷ ns) ≡ d → run (ListEnd ∷ is) (0 ∷ n ∷ ns) ts ≡ run (Chain Plus ∷ CloseBracket ∷ is) (0 ∷ n ∷ ns) us
  to_tail is n ns h = ap (run (ListEnd ∷ is) (0 ∷ n ∷ ns)) b.ahead.first ∙ taken (ListEnd ∷ is) (Chain Plus ∷ CloseBracket ∷ is) (0 ∷ n ∷ ns) (0 ∷ n ∷ ns) kind.Bar b.token us b.is refl refl (omega arith)

  pub tail_stops : (e : Stop) → Stops (Chain Plus) d us e → NoListEnd d ts e
  tail_stops e s = λ is n ns h. agrees e _ _ (to_tail is n ns h) (s (CloseBracket ∷ is) (n ∷ ns) h)

  module _ (vs : List Token) (y : Form) (s : TookChain Plus d us vs y) where
    pub tail_open : (e : Stop) → NotAhead kind.RightBracket vs e → NoListEnd d ts e
    tail_open e r = λ is n ns h. agrees e _ _ (to_tail is n ns h ∙ s.runs (CloseBracket ∷ is) (n ∷ ns) h) (r (CloseBracket ∷ is) (0 ∷ n ∷ ns) (only_bracket is))

    pub tail_took : (after : ℕ) (ws : List Token) → AheadOf kind.RightBracket all after vs ws → TookListEnd d xs ts ws (Open xs y)
    tail_took after ws c = record {
      reads = λ l os h r. an_open_list b.token c.token us h (subst (λ ps. Reads sym.Exprs os ps xs) b.ahead.first r) b.is (subst (λ ps. Reads (sym.Chain Plus) us ps (one y)) c.ahead.first s.reads) c.is;
      runs = λ is n ns h. to_tail is n ns h ∙ s.runs (CloseBracket ∷ is) (n ∷ ns) h ∙ ap (run (CloseBracket ∷ is) (0 ∷ n ∷ ns)) c.ahead.first ∙
          taken (CloseBracket ∷ is) is (0 ∷ n ∷ ns) (0 ∷ ns) kind.RightBracket c.token ws c.is refl refl (let g = deeper n ns in let f = down n ns in omega arith);
    }

pub only_list_end : (is : List Item) (k : Kind) → (k ≡ kind.RightBracket → ⊥) → (k ≡ kind.Bar → ⊥) → step (ListEnd ∷ is) k ≡ None
only_list_end is kind.RightBracket n m = absurd (n refl)
only_list_end is kind.Bar n m = absurd (m refl)
only_list_end is _ n m = refl

pub list_end_wrong : (d all at : ℕ) (ts us : List Token) (t : Token) → Ahead all at ts t us → (t.kind ≡ kind.RightBracket → ⊥) → (t.kind ≡ kind.Bar → ⊥) → NoListEnd d ts (Wrong (all - at))
list_end_wrong d all at ts us t a n m = λ is k ns h. ap (run (ListEnd ∷ is) (0 ∷ k ∷ ns)) a.first ∙ refused (ListEnd ∷ is) (0 ∷ k ∷ ns) t us (only_list_end is t.kind n m) ∙ ap out.Wrong (left_is all at ts us t a)

pub list_end_ended : (d : ℕ) (ts : List Token) → ts ≡ [] → NoListEnd d ts Ended
list_end_ended d ts e = λ is n ns h. ap (λ us. run (ListEnd ∷ is) (0 ∷ n ∷ ns) us) e

-- ---- operands behind the first

pub record OperandsSoFar (op : Op) (d : ℕ) (ts us : List Token) (fs : List Form) : Type 0 where
  pub reads : (vs : List Token) (ys : Forms) → Reads (sym.Operands op) us vs ys → Reads (sym.Operands op) ts vs (appends fs ys)
  pub runs : (is : List Item) (ns : List ℕ) → depth (0 ∷ ns) ≡ d → run (Operands op ∷ is) (0 ∷ ns) ts ≡ run (Operands op ∷ is) (0 ∷ ns) us

pub operands_none : (op : Op) (d : ℕ) (ts : List Token) (fs : List Form) → fs ≡ [] → OperandsSoFar op d ts ts fs
operands_none op d ts fs e = subst (λ gs. OperandsSoFar op d ts ts gs) (sym e) (record { reads = λ vs ys r. r; runs = λ is ns h. refl })

skips : (op : Op) (is : List Item) (k : Kind) → (k ≡ op_kind op → ⊥) → step (Operands op ∷ is) k ≡ step is k
skips Star is kind.Star n = absurd (n refl)
skips Star is _ n = refl
skips Hash is kind.Hash n = absurd (n refl)
skips Hash is _ n = refl
skips Plus is kind.Plus n = absurd (n refl)
skips Plus is _ n = refl

operands_skip : (op : Op) (is : List Item) (ns : List ℕ) (ts : List Token) → NoKind (op_kind op) ts → run (Operands op ∷ is) ns ts ≡ run is ns ts
operands_skip op is ns [] n = refl
operands_skip op is ns (t ∷ ts) n = alike (Operands op ∷ is) is ns (t ∷ ts) refl (λ s us e. let h : t ≡ s = cc in skips op is s.kind (subst (λ (u : Token). u.kind ≡ op_kind op → ⊥) h n))

takes_op : (op : Op) (is : List Item) → step (Operands op ∷ is) (op_kind op) ≡ Some (inner op ∷ Operands op ∷ is)
takes_op Star is = refl
takes_op Hash is = refl
takes_op Plus is = refl

nest_op : (op : Op) (ts : List Token) (ns : List ℕ) → nest (op_kind op) ts ns ≡ ns
nest_op Star ts ns = refl
nest_op Hash ts ns = refl
nest_op Plus ts ns = refl

module _ (op : Op) (d : ℕ) (ts us : List Token) (fs : List Form) (so : OperandsSoFar op d ts us fs) where
  pub operands_end : NoKind (op_kind op) us → TookOperands op d ts us (forms_of fs)
  operands_end n = record {
    reads = subst (λ zs. Reads (sym.Operands op) ts us zs) (appends_last fs) (so.reads us Last no_operand);
    runs = λ is ns h. so.runs is ns h ∙ operands_skip op is (0 ∷ ns) us n;
  }

  module _ (all at : ℕ) (vs : List Token) (b : AheadOf (op_kind op) all at us vs) (small : d ≤ 256) where
    to_operand : (is : List Item) (ns : List ℕ) → depth (0 ∷ ns) ≡ d → run (Operands op ∷ is) (0 ∷ ns) ts ≡ run (inner op ∷ Operands op ∷ is) (0 ∷ ns) vs
    to_operand is ns h = so.runs is ns h ∙ ap (run (Operands op ∷ is) (0 ∷ ns)) b.ahead.first ∙
        taken (Operands op ∷ is) (inner op ∷ Operands op ∷ is) (0 ∷ ns) (0 ∷ ns) (op_kind op) b.token vs b.is (takes_op op is) (nest_op op vs (0 ∷ ns)) (omega arith)

    pub operands_stop : (e : Stop) → Stops (inner op) d vs e → Stops (Operands op) d ts e
    operands_stop e s = λ is ns h. agrees e _ _ (to_operand is ns h) (s (Operands op ∷ is) ns h)

    pub operands_more : (ws : List Token) (x : Form) → TookInner op d vs ws x → (gs : List Form) → gs ≡ fs ++ x ∷ [] → OperandsSoFar op d ts ws gs
    operands_more ws x s gs e = subst (λ hs. OperandsSoFar op d ts ws hs) (sym e) (record {
      reads = λ os ys r. subst (λ zs. Reads (sym.Operands op) ts os zs) (sym (appends_more fs x ys))
          (so.reads os (More x ys) (subst (λ ps. Reads (sym.Operands op) ps os (More x ys)) (sym b.ahead.first) (operand ws b.is s.reads r)));
      runs = λ is ns h. to_operand is ns h ∙ s.runs (Operands op ∷ is) ns h;
    })

-- ---- a chain

chain_steps : (op : Op) (is : List Item) (k : Kind) → step (Chain op ∷ is) k ≡ step (inner op ∷ Operands op ∷ is) k
chain_steps Star is kind.Tilde = refl
chain_steps Star is kind.Variable = refl
chain_steps Star is (kind.Integer z) = refl
chain_steps Star is kind.Atom = refl
chain_steps Star is kind.Quoted = refl
chain_steps Star is kind.LeftParen = refl
chain_steps Star is kind.LeftBracket = refl
chain_steps Star is _ = refl
chain_steps Hash is kind.Tilde = refl
chain_steps Hash is kind.Variable = refl
chain_steps Hash is (kind.Integer z) = refl
chain_steps Hash is kind.Atom = refl
chain_steps Hash is kind.Quoted = refl
chain_steps Hash is kind.LeftParen = refl
chain_steps Hash is kind.LeftBracket = refl
chain_steps Hash is _ = refl
chain_steps Plus is kind.Tilde = refl
chain_steps Plus is kind.Variable = refl
chain_steps Plus is (kind.Integer z) = refl
chain_steps Plus is kind.Atom = refl
chain_steps Plus is kind.Quoted = refl
chain_steps Plus is kind.LeftParen = refl
chain_steps Plus is kind.LeftBracket = refl
chain_steps Plus is _ = refl

no_end : (op : Op) (is : List Item) → can_end (inner op ∷ is) ≡ false
no_end Star is = refl
no_end Hash is = refl
no_end Plus is = refl

chain_runs : (op : Op) (is : List Item) (ns : List ℕ) (ts : List Token) → run (Chain op ∷ is) ns ts ≡ run (inner op ∷ Operands op ∷ is) ns ts
chain_runs op is ns ts = alike (Chain op ∷ is) (inner op ∷ Operands op ∷ is) ns ts (sym (no_end op (Operands op ∷ is))) (λ t us e. chain_steps op is t.kind)

pub chain_stop : (op : Op) (d : ℕ) (ts : List Token) (e : Stop) → Stops (inner op) d ts e → Stops (Chain op) d ts e
chain_stop op d ts e s = λ is ns h. agrees e _ _ (chain_runs op is (0 ∷ ns) ts) (s (Operands op ∷ is) ns h)

pub chain_stops : (op : Op) (d : ℕ) (ts us : List Token) (x : Form) (e : Stop) → TookInner op d ts us x → Stops (Operands op) d us e → Stops (Chain op) d ts e
chain_stops op d ts us x e a s = λ is ns h. agrees e _ _ (chain_runs op is (0 ∷ ns) ts ∙ a.runs (Operands op ∷ is) ns h) (s is ns h)

pub chain_took : (op : Op) (d : ℕ) (ts us vs : List Token) (x y : Form) (xs : Forms) → TookInner op d ts us x → TookOperands op d us vs xs → y ≡ chain op x xs → TookChain op d ts vs y
chain_took op d ts us vs x y xs a b e = record {
  reads = a_chain us x xs a.reads b.reads (ap one e);
  runs = λ is ns h. chain_runs op is (0 ∷ ns) ts ∙ a.runs (Operands op ∷ is) ns h ∙ b.runs is ns h;
}

-- an operand of the tightest chain is one of a chain
pub operand_inner : (d : ℕ) (ts us : List Token) (x : Form) → TookOperand d ts us x → TookInner Star d ts us x
operand_inner d ts us x s = record { reads = s.reads; runs = λ is ns h. s.runs is 0 ns h }

pub operand_stops : (d : ℕ) (ts : List Token) (e : Stop) → NoOperand d ts e → Stops Operand d ts e
operand_stops d ts e s = λ is ns h. s is 0 ns h

-- ---- the same term by its form

pub operand_form : (d : ℕ) (ts us : List Token) (x y : Form) → y ≡ x → TookOperand d ts us x → TookOperand d ts us y
operand_form d ts us x y e s = subst (λ z. TookOperand d ts us z) (sym e) s

pub call_form : (d : ℕ) (t : Token) (ts us : List Token) (x y : Form) → y ≡ x → TookCall d t ts us x → TookCall d t ts us y
call_form d t ts us x y e s = subst (λ z. TookCall d t ts us z) (sym e) s

pub list_form_is : (d : ℕ) (ts us : List Token) (x y : Form) → y ≡ x → TookList d ts us x → TookList d ts us y
list_form_is d ts us x y e s = subst (λ z. TookList d ts us z) (sym e) s

pub list_end_form : (d : ℕ) (xs : Forms) (ts us : List Token) (x y : Form) → y ≡ x → TookListEnd d xs ts us x → TookListEnd d xs ts us y
list_end_form d xs ts us x y e s = subst (λ z. TookListEnd d xs ts us z) (sym e) s
