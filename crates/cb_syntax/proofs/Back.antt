-- From the items behind a token to those before it: a step of the machine takes nothing that the grammar doesn't read.
use Rattle.std.proofs.Common.{◌≡◌, true, false, inl, inr, List, [], ◌∷◌, Option, Some, None, refl, subst}
use Rattle.cb_model.specs.declared.Kind.{Kind}
use Rattle.cb_model.specs.declared.Kind.TheVariants as kind
use Rattle.cb_model.specs.Tokens.{Token, name_of}
use Rattle.cb_model.specs.Grammar as sym
use Rattle.cb_model.specs.Grammar.{Op, Plus, Hash, Star, Form, Forms, Last, More, Variable, Integer, Name, Closed, Open, Not, one, chain, IsAtom, Reads, a_chain, no_operand, operand, a_not, a_prim, a_variable, an_integer, a_call, a_group, a_nil, a_list, an_open_list, an_atom, a_compound, exprs, no_comma, a_comma, FormGoal, ACall, AnEqual, ReadsGoal, calls, equals, ReadsGoals, last_goal, more_goals, FormClause, Directive, Rule, ReadsClause, directive, fact, rule, FormQuery, ReadsQuery, a_query}
use Rattle.cb_syntax.specs.Machine.{Item, Chain, Operands, Operand, Args, Commas, ListRest, ListEnd, Close, CloseBracket, End, Equals, AnAtom, Goal, GoalTail, MoreGoals, ClauseTail, Clauses, Queries, Move, Takes, Skips, Refuses, follow, or_skips, operand_move, tails, equation, goal_move, list_move, move, pass, step}
use Rattle.cb_syntax.proofs.Parts.{ReadsOne, this, ReadsAtom, atom, ReadsArgs, no_args, some_args, ReadsListEnd, closes, opens, ReadsListRest, nothing, elements, ReadsGoalTail, no_tail, a_tail, ReadsMoreGoals, dot, comma, ReadsClauseTail, no_body, body, ReadsMany, no_piece, a_piece, Item-reads, Part, Holds, splits, split_parts}

-- what a move says of the item, where the item reads this token first
abbrev Out : Move → Item → Token → List Token → Type 0
Out (Takes js) i t ts = (us : List Token) → Part js ts us → Item-reads i (t ∷ ts) us
Out Skips i t ts = Item-reads i (t ∷ ts) (t ∷ ts)
Out Refuses i t ts = Unit {0}

-- an item that reads one item and then others
out_follow : (m : Move) (is : List Item) (i j : Item) (t : Token) (ts : List Token) → ((us vs : List Token) → Item-reads i (t ∷ ts) us → Part is us vs → Item-reads j (t ∷ ts) vs) →
    Out m i t ts → Out (follow m is) j t ts
out_follow (Takes js) is i j t ts more out = λ vs p. let r = split_parts js is ts vs p in more r.0 vs (out r.0 r.1) r.2
out_follow Skips is i j t ts more out = tt
out_follow Refuses is i j t ts more out = tt

-- ---- terms

called : (t : Token) (ts us : List Token) → IsAtom t → ReadsArgs ts us → (x : Form) × Reads sym.Call (t ∷ ts) us (one x)
called t ts us a no_args = (Name (name_of t) Last, an_atom a refl)
called t ts us a (some_args r xs l e c) = (Name (name_of t) xs, a_compound r xs a l e c refl)

a_call_operand : (t : Token) (ts us : List Token) → IsAtom t → ReadsArgs ts us → Item-reads Operand (t ∷ ts) us
a_call_operand t ts us a p = let r = called t ts us a p in (r.0, a_prim (a_call r.1))

grouped : (l : Token) (ts us vs : List Token) → l.kind ≡ kind.LeftParen → (x : Form) → Reads (sym.Chain Plus) ts us (one x) → ReadsOne kind.RightParen us vs → Item-reads Operand (l ∷ ts) vs
grouped l ts us vs h x r (this {t = c} e) = (x, a_prim (a_group c h r e))

listed_end : (l : Token) (ts us vs : List Token) (xs : Forms) → l.kind ≡ kind.LeftBracket → Reads sym.Exprs ts us xs → ReadsListEnd us vs → Item-reads Operand (l ∷ ts) vs
listed_end l ts us vs xs h r (closes {r = c} e) = (Closed xs, a_prim (a_list c h r e))
listed_end l ts us vs xs h r (opens {b = b} {ts = ws} c y k s e) = (Open xs y, a_prim (an_open_list b c ws h r k s e))

listed : (l : Token) (ts us : List Token) → l.kind ≡ kind.LeftBracket → ReadsListRest ts us → Item-reads Operand (l ∷ ts) us
listed l ts us h (nothing {r = r} e) = (Closed Last, a_prim (a_nil h e))
listed l ts us h (elements vs xs r e) = listed_end l ts vs us xs h r e

out_operand : (t : Token) (ts : List Token) (k : Kind) → t.kind ≡ k → Out (operand_move k) Operand t ts
out_operand t ts kind.Tilde h = λ us p. let r = p.1 in (Not r.0, subst (λ vs. Reads sym.Unary (t ∷ ts) vs (one (Not r.0))) p.2 (a_not h r.1))
out_operand t ts kind.Variable h = λ us p. subst (λ vs. Item-reads Operand (t ∷ ts) vs) p (Variable t.text, a_prim (a_variable h refl))
out_operand t ts (kind.Integer z) h = λ us p. subst (λ vs. Item-reads Operand (t ∷ ts) vs) p (Integer z, a_prim (an_integer h))
out_operand t ts kind.Atom h = λ us p. subst (λ vs. Item-reads Operand (t ∷ ts) vs) p.2 (a_call_operand t ts p.0 (inl h) p.1)
out_operand t ts kind.Quoted h = λ us p. subst (λ vs. Item-reads Operand (t ∷ ts) vs) p.2 (a_call_operand t ts p.0 (inr h) p.1)
out_operand t ts kind.LeftParen h = λ us p. subst (λ vs. Item-reads Operand (t ∷ ts) vs) p.2.2 (grouped t ts p.0 p.2.0 h p.1.0 p.1.1 p.2.1)
out_operand t ts kind.LeftBracket h = λ us p. subst (λ vs. Item-reads Operand (t ∷ ts) vs) p.2 (listed t ts p.0 h p.1)
out_operand t ts _ h = tt

-- a chain from its first operand and the others
star_chain : (ts us vs : List Token) → Item-reads Operand ts us → Item-reads (Operands Star) us vs → Item-reads (Chain Star) ts vs
star_chain ts us vs a b = (chain Star a.0 b.0, a_chain us a.0 b.0 a.1 b.1 refl)

hash_chain : (ts us vs : List Token) → Item-reads (Chain Star) ts us → Item-reads (Operands Hash) us vs → Item-reads (Chain Hash) ts vs
hash_chain ts us vs a b = (chain Hash a.0 b.0, a_chain us a.0 b.0 a.1 b.1 refl)

plus_chain : (ts us vs : List Token) → Item-reads (Chain Hash) ts us → Item-reads (Operands Plus) us vs → Item-reads (Chain Plus) ts vs
plus_chain ts us vs a b = (chain Plus a.0 b.0, a_chain us a.0 b.0 a.1 b.1 refl)

chained : (op : Op) (ts us vs : List Token) → Item-reads Operand ts us → Part (tails op) us vs → Item-reads (Chain op) ts vs
chained Star ts us vs a p = subst (λ ws. Item-reads (Chain Star) ts ws) p.2 (star_chain ts us p.0 a p.1)
chained Hash ts us vs a p = subst (λ ws. Item-reads (Chain Hash) ts ws) p.2.2 (hash_chain ts p.0 p.2.0 (star_chain ts us p.0 a p.1) p.2.1)
chained Plus ts us vs a p = subst (λ ws. Item-reads (Chain Plus) ts ws) p.2.2.2 (plus_chain ts p.2.0 p.2.2.0 (hash_chain ts p.0 p.2.0 (star_chain ts us p.0 a p.1) p.2.1) p.2.2.1)

-- the terms of a list
all_terms : (ts us vs : List Token) → Item-reads (Chain Plus) ts us → Item-reads Commas us vs → (xs : Forms) × Reads sym.Exprs ts vs xs
all_terms ts us vs a b = (More a.0 b.0, exprs us a.1 b.1)

arguments : (t : Token) (ts us vs ws : List Token) → t.kind ≡ kind.LeftParen → Item-reads (Chain Plus) ts us → Item-reads Commas us vs → ReadsOne kind.RightParen vs ws → ReadsArgs (t ∷ ts) ws
arguments t ts us vs ws h a b (this {t = c} e) = let r = all_terms ts us (c ∷ ws) a b in some_args c r.0 h r.1 e

-- ---- lists

list_items : (ts us vs : List Token) → Item-reads Operand ts us → Part (Operands Star ∷ Operands Hash ∷ Operands Plus ∷ Commas ∷ ListEnd ∷ []) us vs → ReadsListRest ts vs
list_items ts us vs a p =
    let c = chained Plus ts us p.2.2.0 a (p.0, p.1, (p.2.0, p.2.1, (p.2.2.0, p.2.2.1, refl))) in
    let r = all_terms ts p.2.2.0 p.2.2.2.0 c p.2.2.2.1 in
    subst (λ ws. ReadsListRest ts ws) p.2.2.2.2.2 (elements p.2.2.2.0 r.0 r.1 p.2.2.2.2.1)

out_list : (t : Token) (ts : List Token) (k : Kind) → t.kind ≡ k → Out (list_move k) ListRest t ts
out_list t ts kind.RightBracket h = λ us p. subst (λ ws. ReadsListRest (t ∷ ts) ws) p (nothing h)
out_list t ts k h = out_follow (operand_move k) (Operands Star ∷ Operands Hash ∷ Operands Plus ∷ Commas ∷ ListEnd ∷ []) Operand ListRest t ts (λ us vs a p. list_items (t ∷ ts) us vs a p) (out_operand t ts k h)

opened : (t : Token) (ts us vs : List Token) → t.kind ≡ kind.Bar → Item-reads (Chain Plus) ts us → ReadsOne kind.RightBracket us vs → ReadsListEnd (t ∷ ts) vs
opened t ts us vs h a (this {t = c} e) = opens c a.0 h a.1 e

-- ---- goals

equated : (ts us vs ws : List Token) → Item-reads (Chain Plus) ts us → ReadsOne kind.Equals us vs → Item-reads (Chain Plus) vs ws → Item-reads Goal ts ws
equated ts us vs ws a (this {t = e} h) b = (AnEqual a.0 b.0, equals e vs a.1 h b.1)

an_equation : (ts us vs : List Token) → Item-reads Operand ts us → Part equation us vs → Item-reads Goal ts vs
an_equation ts us vs a p =
    let c = chained Plus ts us p.2.2.0 a (p.0, p.1, (p.2.0, p.2.1, (p.2.2.0, p.2.2.1, refl))) in
    subst (λ ws. Item-reads Goal ts ws) p.2.2.2.2.2 (equated ts p.2.2.0 p.2.2.2.0 p.2.2.2.2.0 c p.2.2.2.1 p.2.2.2.2.1)

a_goal : (t : Token) (ts us vs : List Token) → IsAtom t → ReadsArgs ts us → ReadsGoalTail us vs → Item-reads Goal (t ∷ ts) vs
a_goal t ts us vs a p no_tail = let r = called t ts us a p in (ACall r.0, calls r.1)
a_goal t ts us vs a p (a_tail u v w e xs ys zs y q r s h b) =
    an_equation (t ∷ ts) us vs (a_call_operand t ts us a p) (u, (xs, q), (v, (ys, r), (e ∷ w, (zs, s), (w, this h, (vs, (y, b), refl)))))

out_goal : (t : Token) (ts : List Token) (k : Kind) → t.kind ≡ k → Out (goal_move k) Goal t ts
out_goal t ts kind.Atom h = λ us p. subst (λ ws. Item-reads Goal (t ∷ ts) ws) p.2.2 (a_goal t ts p.0 p.2.0 (inl h) p.1 p.2.1)
out_goal t ts kind.Quoted h = λ us p. subst (λ ws. Item-reads Goal (t ∷ ts) ws) p.2.2 (a_goal t ts p.0 p.2.0 (inr h) p.1 p.2.1)
out_goal t ts k h = out_follow (operand_move k) equation Operand Goal t ts (λ us vs a p. an_equation (t ∷ ts) us vs a p) (out_operand t ts k h)

tail_of : (ts us vs ws zs os : List Token) → Item-reads (Operands Star) ts us → Item-reads (Operands Hash) us vs → Item-reads (Operands Plus) vs ws → ReadsOne kind.Equals ws zs → Item-reads (Chain Plus) zs os → ReadsGoalTail ts os
tail_of ts us vs ws zs os a b c (this {t = e} h) d = a_tail us vs zs e a.0 b.0 c.0 d.0 a.1 b.1 c.1 h d.1

star_more : (t : Token) (ts us vs : List Token) → t.kind ≡ kind.Star → Item-reads Operand ts us → Item-reads (Operands Star) us vs → Item-reads (Operands Star) (t ∷ ts) vs
star_more t ts us vs h a b = (More a.0 b.0, operand us h a.1 b.1)

hash_more : (t : Token) (ts us vs : List Token) → t.kind ≡ kind.Hash → Item-reads (Chain Star) ts us → Item-reads (Operands Hash) us vs → Item-reads (Operands Hash) (t ∷ ts) vs
hash_more t ts us vs h a b = (More a.0 b.0, operand us h a.1 b.1)

plus_more : (t : Token) (ts us vs : List Token) → t.kind ≡ kind.Plus → Item-reads (Chain Hash) ts us → Item-reads (Operands Plus) us vs → Item-reads (Operands Plus) (t ∷ ts) vs
plus_more t ts us vs h a b = (More a.0 b.0, operand us h a.1 b.1)

no_more_of : (op : Op) (ts : List Token) → Item-reads (Operands op) ts ts
no_more_of op ts = (Last, no_operand)

all_goals : (ts us vs : List Token) → Item-reads Goal ts us → ReadsMoreGoals us vs → (gs : List FormGoal) × ReadsGoals ts vs gs
all_goals ts us vs g (dot {d = d} h) = (g.0 ∷ [], last_goal d g.1 h)
all_goals ts us vs g (comma {c = c} {ts = ws} gs h r) = (g.0 ∷ gs, more_goals c ws g.1 h r)

a_body : (n : Token) (ts us vs : List Token) → n.kind ≡ kind.Neck → Item-reads Goal ts us → ReadsMoreGoals us vs → ReadsClauseTail (n ∷ ts) vs
a_body n ts us vs h g m = let r = all_goals ts us vs g m in body r.0 h r.1

goals_more : (c : Token) (ts us vs : List Token) → c.kind ≡ kind.Comma → Item-reads Goal ts us → ReadsMoreGoals us vs → ReadsMoreGoals (c ∷ ts) vs
goals_more c ts us vs h g m = let r = all_goals ts us vs g m in comma r.0 h r.1

-- ---- clauses and queries

a_directive : (n : Token) (ts us vs ws os zs : List Token) → n.kind ≡ kind.Neck → ReadsAtom ts us → Item-reads (Chain Plus) us vs → Item-reads Commas vs ws → ReadsOne kind.Dot ws os → ReadsMany ReadsClause os zs →
    ReadsMany ReadsClause (n ∷ ts) zs
a_directive n ts us vs ws os zs h (atom {t = w} a) x y (this {t = d} e) m =
    let r = all_terms us vs (d ∷ os) x y in a_piece os (Directive n.line (name_of w) r.0) (directive d h a r.1 e refl) m

a_clause : (t : Token) (ts us vs zs : List Token) → IsAtom t → ReadsArgs ts us → ReadsClauseTail us vs → ReadsMany ReadsClause vs zs → ReadsMany ReadsClause (t ∷ ts) zs
a_clause t ts us vs zs a p (no_body {d = d} h) m = let r = called t ts (d ∷ vs) a p in a_piece vs (Rule t.line r.0 false []) (fact d r.1 h refl) m
a_clause t ts us vs zs a p (body {n = n} {ts = ws} gs h b) m = let r = called t ts (n ∷ ws) a p in a_piece vs (Rule t.line r.0 true gs) (rule n ws r.1 h b refl) m

some_queries : (t : Token) (ts us vs zs : List Token) → Item-reads Goal (t ∷ ts) us → ReadsMoreGoals us vs → ReadsMany ReadsQuery vs zs → ReadsMany ReadsQuery (t ∷ ts) zs
some_queries t ts us vs zs g m q = let r = all_goals (t ∷ ts) us vs g m in a_piece vs (record { line = t.line; goals = r.0 }) (a_query r.1 refl) q

out_skips : (m : Move) (t : Token) (ts : List Token) → Out m Queries t ts → Out (or_skips m) Queries t ts
out_skips (Takes js) t ts out = out
out_skips Skips t ts out = out
out_skips Refuses t ts out = no_piece

-- ---- all items

out_item : (i : Item) (t : Token) (ts : List Token) (k : Kind) → t.kind ≡ k → Out (move i k) i t ts
out_item (Chain op) t ts k h = out_follow (operand_move k) (tails op) Operand (Chain op) t ts (λ us vs a p. chained op (t ∷ ts) us vs a p) (out_operand t ts k h)
out_item (Operands Star) t ts kind.Star h = λ us p. subst (λ vs. Item-reads (Operands Star) (t ∷ ts) vs) p.2.2 (star_more t ts p.0 p.2.0 h p.1 p.2.1)
out_item (Operands Star) t ts _ h = (Last, no_operand)
out_item (Operands Hash) t ts kind.Hash h = λ us p. subst (λ vs. Item-reads (Operands Hash) (t ∷ ts) vs) p.2.2 (hash_more t ts p.0 p.2.0 h p.1 p.2.1)
out_item (Operands Hash) t ts _ h = (Last, no_operand)
out_item (Operands Plus) t ts kind.Plus h = λ us p. subst (λ vs. Item-reads (Operands Plus) (t ∷ ts) vs) p.2.2 (plus_more t ts p.0 p.2.0 h p.1 p.2.1)
out_item (Operands Plus) t ts _ h = (Last, no_operand)
out_item Operand t ts k h = out_operand t ts k h
out_item Args t ts kind.LeftParen h = λ us p. subst (λ vs. ReadsArgs (t ∷ ts) vs) p.2.2.2 (arguments t ts p.0 p.2.0 p.2.2.0 h p.1 p.2.1 p.2.2.1)
out_item Args t ts _ h = no_args
out_item Commas t ts kind.Comma h = λ us p. subst (λ vs. Item-reads Commas (t ∷ ts) vs) p.2.2 (let r = all_terms ts p.0 p.2.0 p.1 p.2.1 in (r.0, a_comma h r.1))
out_item Commas t ts _ h = (Last, no_comma)
out_item ListRest t ts k h = out_list t ts k h
out_item ListEnd t ts kind.RightBracket h = λ us p. subst (λ vs. ReadsListEnd (t ∷ ts) vs) p (closes h)
out_item ListEnd t ts kind.Bar h = λ us p. subst (λ vs. ReadsListEnd (t ∷ ts) vs) p.2.2 (opened t ts p.0 p.2.0 h p.1 p.2.1)
out_item ListEnd t ts _ h = tt
out_item Close t ts kind.RightParen h = λ us p. subst (λ vs. ReadsOne kind.RightParen (t ∷ ts) vs) p (this h)
out_item Close t ts _ h = tt
out_item CloseBracket t ts kind.RightBracket h = λ us p. subst (λ vs. ReadsOne kind.RightBracket (t ∷ ts) vs) p (this h)
out_item CloseBracket t ts _ h = tt
out_item End t ts kind.Dot h = λ us p. subst (λ vs. ReadsOne kind.Dot (t ∷ ts) vs) p (this h)
out_item End t ts _ h = tt
out_item Equals t ts kind.Equals h = λ us p. subst (λ vs. ReadsOne kind.Equals (t ∷ ts) vs) p (this h)
out_item Equals t ts _ h = tt
out_item AnAtom t ts kind.Atom h = λ us p. subst (λ vs. ReadsAtom (t ∷ ts) vs) p (atom (inl h))
out_item AnAtom t ts kind.Quoted h = λ us p. subst (λ vs. ReadsAtom (t ∷ ts) vs) p (atom (inr h))
out_item AnAtom t ts _ h = tt
out_item Goal t ts k h = out_goal t ts k h
out_item GoalTail t ts kind.Star h = λ us p. subst (λ vs. ReadsGoalTail (t ∷ ts) vs) p.2.2.2.2.2.2
    (tail_of (t ∷ ts) p.2.0 p.2.2.0 p.2.2.2.0 p.2.2.2.2.0 p.2.2.2.2.2.0 (star_more t ts p.0 p.2.0 h p.1 p.2.1) p.2.2.1 p.2.2.2.1 p.2.2.2.2.1 p.2.2.2.2.2.1)
out_item GoalTail t ts kind.Hash h = λ us p. subst (λ vs. ReadsGoalTail (t ∷ ts) vs) p.2.2.2.2.2
    (tail_of (t ∷ ts) (t ∷ ts) p.2.0 p.2.2.0 p.2.2.2.0 p.2.2.2.2.0 (no_more_of Star (t ∷ ts)) (hash_more t ts p.0 p.2.0 h p.1 p.2.1) p.2.2.1 p.2.2.2.1 p.2.2.2.2.1)
out_item GoalTail t ts kind.Plus h = λ us p. subst (λ vs. ReadsGoalTail (t ∷ ts) vs) p.2.2.2.2
    (tail_of (t ∷ ts) (t ∷ ts) (t ∷ ts) p.2.0 p.2.2.0 p.2.2.2.0 (no_more_of Star (t ∷ ts)) (no_more_of Hash (t ∷ ts)) (plus_more t ts p.0 p.2.0 h p.1 p.2.1) p.2.2.1 p.2.2.2.1)
out_item GoalTail t ts kind.Equals h = λ us p. subst (λ vs. ReadsGoalTail (t ∷ ts) vs) p.2
    (tail_of (t ∷ ts) (t ∷ ts) (t ∷ ts) (t ∷ ts) ts p.0 (no_more_of Star (t ∷ ts)) (no_more_of Hash (t ∷ ts)) (no_more_of Plus (t ∷ ts)) (this h) p.1)
out_item GoalTail t ts _ h = no_tail
out_item MoreGoals t ts kind.Comma h = λ us p. subst (λ vs. ReadsMoreGoals (t ∷ ts) vs) p.2.2 (goals_more t ts p.0 p.2.0 h p.1 p.2.1)
out_item MoreGoals t ts kind.Dot h = λ us p. subst (λ vs. ReadsMoreGoals (t ∷ ts) vs) p (dot h)
out_item MoreGoals t ts _ h = tt
out_item ClauseTail t ts kind.Neck h = λ us p. subst (λ vs. ReadsClauseTail (t ∷ ts) vs) p.2.2 (a_body t ts p.0 p.2.0 h p.1 p.2.1)
out_item ClauseTail t ts kind.Dot h = λ us p. subst (λ vs. ReadsClauseTail (t ∷ ts) vs) p (no_body h)
out_item ClauseTail t ts _ h = tt
out_item Clauses t ts kind.Neck h = λ us p. subst (λ vs. ReadsMany ReadsClause (t ∷ ts) vs) p.2.2.2.2.2
    (a_directive t ts p.0 p.2.0 p.2.2.0 p.2.2.2.0 p.2.2.2.2.0 h p.1 p.2.1 p.2.2.1 p.2.2.2.1 p.2.2.2.2.1)
out_item Clauses t ts kind.Atom h = λ us p. subst (λ vs. ReadsMany ReadsClause (t ∷ ts) vs) p.2.2.2 (a_clause t ts p.0 p.2.0 p.2.2.0 (inl h) p.1 p.2.1 p.2.2.1)
out_item Clauses t ts kind.Quoted h = λ us p. subst (λ vs. ReadsMany ReadsClause (t ∷ ts) vs) p.2.2.2 (a_clause t ts p.0 p.2.0 p.2.2.0 (inr h) p.1 p.2.1 p.2.2.1)
out_item Clauses t ts _ h = no_piece
out_item Queries t ts k h =
    out_skips (follow (goal_move k) (MoreGoals ∷ Queries ∷ [])) t ts
    (out_follow (goal_move k) (MoreGoals ∷ Queries ∷ []) Goal Queries t ts
    (λ us vs g p. subst (λ ws. ReadsMany ReadsQuery (t ∷ ts) ws) p.2.2 (some_queries t ts us p.0 p.2.0 g p.1 p.2.1)) (out_goal t ts k h))

-- what a step says, backwards
abbrev pub Back : Option (List Item) → List Item → Token → List Token → Type 0
Back None is t ts = Unit {0}
Back (Some js) is t ts = Holds js ts → Holds is (t ∷ ts)

back_pass : (m : Move) (o : Option (List Item)) (i : Item) (is : List Item) (t : Token) (ts : List Token) → Out m i t ts → Back o is t ts → Back (pass m is o) (i ∷ is) t ts
back_pass (Takes js) o i is t ts out b = λ h. let r = splits js is ts h in (r.0, out r.0 r.1, r.2)
back_pass Skips None i is t ts out b = tt
back_pass Skips (Some js) i is t ts out b = λ h. (t ∷ ts, out, b h)
back_pass Refuses o i is t ts out b = tt

-- before the token the text could be what the items read, if after it it is
pub back : (is : List Item) (t : Token) (ts : List Token) → Back (step is t.kind) is t ts
back [] t ts = tt
back (i ∷ is) t ts = back_pass (move i t.kind) (step is t.kind) i is t ts (out_item i t ts t.kind refl) (back is t ts)
