-- A stack of expected items on which each token has one move, and what such a stack reads.
use Rattle.std.specs.Prelude.{if◌then◌else◌}
use Rattle.std.proofs.Common.{◌≡◌, Bool, true, false, inl, inr, List, [], ◌∷◌, ◌++◌, Option, Some, None, refl, sym, ap, subst, append_assoc}
use Rattle.cb_model.specs.declared.Kind.{Kind}
use Rattle.cb_model.specs.declared.Kind.TheVariants as kind
use Rattle.cb_model.specs.Tokens.{Token}
use Rattle.cb_model.specs.Grammar as sym
use Rattle.cb_model.specs.Grammar.{Op, Plus, Hash, Star, Form, Forms, Last, More, Variable, Name, one, chain, IsAtom, Reads, a_chain, no_operand, operand, a_prim, a_variable, a_call, an_atom, no_comma, FormGoal, ACall, ReadsGoal, calls, equals, ReadsGoals, last_goal, more_goals, FormClause, ReadsClause, directive, fact, rule, FormQuery, ReadsQuery, a_query, exprs}
use Rattle.cb_syntax.specs.Machine.{Item, Chain, Operands, Operand, Args, Commas, ListRest, ListEnd, Close, CloseBracket, End, Equals, AnAtom, Goal, GoalTail, MoreGoals, ClauseTail, Clauses, Queries, Move, Takes, Skips, Refuses, follow, or_skips, operand_move, tails, equation, goal_move, list_move, move, pass, step, is_optional, can_end}
use Rattle.cb_syntax.proofs.Parts.{this, atom, no_args, closes, ReadsListRest, nothing, elements, ReadsGoalTail, no_tail, a_tail, dot, no_body, ReadsMany, no_piece, a_piece, Item-reads, Holds, joins}
use Rattle.cb_syntax.proofs.Fore.{Fore-item, in_item}

-- ---- stacks on which each token has one move

-- the items refuse what may go on with a chain of this operator
abbrev pub Clear : Op → List Item → Type 0
Clear Star is = (step is kind.Star ≡ None) × (step is kind.LeftParen ≡ None)
Clear Hash is = (step is kind.Hash ≡ None) × ((step is kind.Star ≡ None) × (step is kind.LeftParen ≡ None))
Clear Plus is = (step is kind.Plus ≡ None) × ((step is kind.Hash ≡ None) × ((step is kind.Star ≡ None) × (step is kind.LeftParen ≡ None)))

-- what follows an item that may be left out begins with no token that the item takes
abbrev pub Good : List Item → Type 0
Good [] = Unit {0}
Good (Chain op ∷ is) = Clear op is × Good is
Good (Operands op ∷ is) = Clear op is × Good is
Good (Operand ∷ is) = (step is kind.LeftParen ≡ None) × Good is
Good (Args ∷ is) = (step is kind.LeftParen ≡ None) × Good is
Good (Commas ∷ is) = ((step is kind.Comma ≡ None) × Clear Plus is) × Good is
Good (Goal ∷ is) = ((step is kind.Equals ≡ None) × Clear Plus is) × Good is
Good (GoalTail ∷ is) = ((step is kind.Equals ≡ None) × Clear Plus is) × Good is
Good (Clauses ∷ is) = (is ≡ []) × Good is
Good (Queries ∷ is) = (is ≡ []) × Good is
Good (_ ∷ is) = Unit {0} × Good is

good_below : (i : Item) (is : List Item) → Good (i ∷ is) → Good is
good_below (Chain op) is g = g.1
good_below (Operands op) is g = g.1
good_below Operand is g = g.1
good_below Args is g = g.1
good_below Commas is g = g.1
good_below Goal is g = g.1
good_below GoalTail is g = g.1
good_below Clauses is g = g.1
good_below Queries is g = g.1
good_below _ is g = g.1

abbrev Excludes : Move → Option (List Item) → Type 0
Excludes (Takes js) o = o ≡ None
Excludes Skips o = Unit {0}
Excludes Refuses o = Unit {0}

at_bottom : (m : Move) (is : List Item) (k : Kind) → is ≡ [] → Excludes m (step is k)
at_bottom (Takes js) is k e = ap (λ js. step js k) e
at_bottom Skips is k e = tt
at_bottom Refuses is k e = tt

excludes : (i : Item) (is : List Item) (k : Kind) → is_optional i ≡ true → Good (i ∷ is) → Excludes (move i k) (step is k)
excludes (Operands Star) is kind.Star o g = g.0.0
excludes (Operands Star) is _ o g = tt
excludes (Operands Hash) is kind.Hash o g = g.0.0
excludes (Operands Hash) is _ o g = tt
excludes (Operands Plus) is kind.Plus o g = g.0.0
excludes (Operands Plus) is _ o g = tt
excludes Args is kind.LeftParen o g = g.0
excludes Args is _ o g = tt
excludes Commas is kind.Comma o g = g.0.0
excludes Commas is _ o g = tt
excludes GoalTail is kind.Equals o g = g.0.0
excludes GoalTail is kind.Plus o g = g.0.1.0
excludes GoalTail is kind.Hash o g = g.0.1.1.0
excludes GoalTail is kind.Star o g = g.0.1.1.1.0
excludes GoalTail is _ o g = tt
excludes Clauses is k o g = at_bottom (move Clauses k) is k g.0
excludes Queries is k o g = at_bottom (move Queries k) is k g.0
excludes _ is k o g = absurd (cc)

abbrev Good-after : Move → List Item → Type 0
Good-after (Takes js) is = Good (js ++ is)
Good-after Skips is = Unit {0}
Good-after Refuses is = Unit {0}

good_follow : (m : Move) (js is : List Item) → Good-after m (js ++ is) → Good-after (follow m js) is
good_follow (Takes ks) js is g = subst Good (sym (append_assoc ks js is)) g
good_follow Skips js is g = tt
good_follow Refuses js is g = tt

good_skips : (m : Move) (is : List Item) → Good-after m is → Good-after (or_skips m) is
good_skips (Takes js) is g = g
good_skips Skips is g = tt
good_skips Refuses is g = tt

-- behind an operand
good_operand : (is : List Item) (k : Kind) → step is kind.LeftParen ≡ None → Good is → Good-after (operand_move k) is
good_operand is kind.Tilde c g = (c, g)
good_operand is kind.Variable c g = g
good_operand is (kind.Integer z) c g = g
good_operand is kind.Atom c g = (c, g)
good_operand is kind.Quoted c g = (c, g)
good_operand is kind.LeftParen c g = ((refl, (refl, (refl, refl))), (tt, g))
good_operand is kind.LeftBracket c g = (tt, g)
good_operand is _ c g = tt

no_paren : (op : Op) (is : List Item) → Clear op is → step is kind.LeftParen ≡ None
no_paren Star is c = c.1
no_paren Hash is c = c.1.1
no_paren Plus is c = c.1.1.1

tails_paren : (op : Op) (is : List Item) → Clear op is → step (tails op ++ is) kind.LeftParen ≡ None
tails_paren Star is c = c.1
tails_paren Hash is c = c.1.1
tails_paren Plus is c = c.1.1.1

good_tails : (op : Op) (is : List Item) → Clear op is → Good is → Good (tails op ++ is)
good_tails Star is c g = (c, g)
good_tails Hash is c g = (c.1, (c, g))
good_tails Plus is c g = (c.1.1, (c.1, (c, g)))

good_chain : (op : Op) (is : List Item) (k : Kind) → Clear op is → Good is → Good-after (follow (operand_move k) (tails op)) is
good_chain op is k c g = good_follow (operand_move k) (tails op) is (good_operand (tails op ++ is) k (tails_paren op is c) (good_tails op is c g))

good_list : (is : List Item) (k : Kind) → Good is → Good-after (list_move k) is
good_list is kind.RightBracket g = g
good_list is k g =
    good_follow (operand_move k) (Operands Star ∷ Operands Hash ∷ Operands Plus ∷ Commas ∷ ListEnd ∷ []) is
    (good_operand (Operands Star ∷ Operands Hash ∷ Operands Plus ∷ Commas ∷ ListEnd ∷ is) k refl
    ((refl, refl), ((refl, (refl, refl)), ((refl, (refl, (refl, refl))), ((refl, (refl, (refl, (refl, refl)))), (tt, g))))))

good_equation : (is : List Item) → Clear Plus is → Good is → Good (equation ++ is)
good_equation is c g = ((refl, refl), ((refl, (refl, refl)), ((refl, (refl, (refl, refl))), (tt, (c, g)))))

good_goal : (is : List Item) (k : Kind) → step is kind.Equals ≡ None → Clear Plus is → Good is → Good-after (goal_move k) is
good_goal is kind.Atom e c g = (c.1.1.1, ((e, c), g))
good_goal is kind.Quoted e c g = (c.1.1.1, ((e, c), g))
good_goal is k e c g = good_follow (operand_move k) equation is (good_operand (equation ++ is) k refl (good_equation is c g))

good_item : (i : Item) (is : List Item) (k : Kind) → Good (i ∷ is) → Good-after (move i k) is
good_item (Chain op) is k g = good_chain op is k g.0 g.1
good_item (Operands Star) is kind.Star g = (g.0.1, g)
good_item (Operands Star) is _ g = tt
good_item (Operands Hash) is kind.Hash g = (g.0.1, g)
good_item (Operands Hash) is _ g = tt
good_item (Operands Plus) is kind.Plus g = (g.0.1, g)
good_item (Operands Plus) is _ g = tt
good_item Operand is k g = good_operand is k g.0 g.1
good_item Args is kind.LeftParen g = ((refl, (refl, (refl, refl))), ((refl, (refl, (refl, (refl, refl)))), (tt, g.1)))
good_item Args is _ g = tt
good_item Commas is kind.Comma g = (g.0.1, g)
good_item Commas is _ g = tt
good_item ListRest is k g = good_list is k g.1
good_item ListEnd is kind.RightBracket g = g.1
good_item ListEnd is kind.Bar g = ((refl, (refl, (refl, refl))), (tt, g.1))
good_item ListEnd is _ g = tt
good_item Close is kind.RightParen g = g.1
good_item Close is _ g = tt
good_item CloseBracket is kind.RightBracket g = g.1
good_item CloseBracket is _ g = tt
good_item End is kind.Dot g = g.1
good_item End is _ g = tt
good_item Equals is kind.Equals g = g.1
good_item Equals is _ g = tt
good_item AnAtom is kind.Atom g = g.1
good_item AnAtom is kind.Quoted g = g.1
good_item AnAtom is _ g = tt
good_item Goal is k g = good_goal is k g.0.0 g.0.1 g.1
good_item GoalTail is kind.Star g = (refl, good_equation is g.0.1 g.1)
good_item GoalTail is kind.Hash g = ((refl, refl), ((refl, (refl, refl)), ((refl, (refl, (refl, refl))), (tt, (g.0.1, g.1)))))
good_item GoalTail is kind.Plus g = ((refl, (refl, refl)), ((refl, (refl, (refl, refl))), (tt, (g.0.1, g.1))))
good_item GoalTail is kind.Equals g = (g.0.1, g.1)
good_item GoalTail is _ g = tt
good_item MoreGoals is kind.Comma g = ((refl, (refl, (refl, (refl, refl)))), (tt, g.1))
good_item MoreGoals is kind.Dot g = g.1
good_item MoreGoals is _ g = tt
good_item ClauseTail is kind.Neck g = ((refl, (refl, (refl, (refl, refl)))), (tt, g.1))
good_item ClauseTail is kind.Dot g = g.1
good_item ClauseTail is _ g = tt
good_item Clauses is kind.Neck g = (tt, ((refl, (refl, (refl, refl))), ((refl, (refl, (refl, (refl, refl)))), (tt, g))))
good_item Clauses is kind.Atom g = (refl, (tt, g))
good_item Clauses is kind.Quoted g = (refl, (tt, g))
good_item Clauses is _ g = tt
good_item Queries is k g =
    good_skips (follow (goal_move k) (MoreGoals ∷ Queries ∷ [])) is
    (good_follow (goal_move k) (MoreGoals ∷ Queries ∷ []) is (good_goal (MoreGoals ∷ Queries ∷ is) k refl (refl, (refl, (refl, refl))) (tt, g)))

abbrev pub Good-step : Option (List Item) → Type 0
Good-step None = Unit {0}
Good-step (Some js) = Good js

good_pass : (m : Move) (is : List Item) (o : Option (List Item)) → Good-after m is → Good-step o → Good-step (pass m is o)
good_pass (Takes js) is o a b = a
good_pass Skips is o a b = b
good_pass Refuses is o a b = tt

pub good_step : (is : List Item) (k : Kind) → Good is → Good-step (step is k)
good_step [] k g = tt
good_step (i ∷ is) k g = good_pass (move i k) is (step is k) (good_item i is k g) (good_step is k (good_below i is g))

-- ---- what a step says, forwards

abbrev pub Fore : Option (List Item) → List Token → Type 0
Fore None ts = ⊥
Fore (Some js) ts = Holds js ts

nowhere : (o : Option (List Item)) (ts : List Token) → o ≡ None → Fore o ts → ⊥
nowhere None ts e f = f
nowhere (Some js) ts e f = absurd (cc)

fore_pass : (m : Move) (o : Option (List Item)) (i : Item) (is : List Item) (t : Token) (ts us : List Token) → (is_optional i ≡ true → Excludes m o) →
    Fore-item m i t ts us → Holds is us → (us ≡ t ∷ ts → Fore o ts) → Fore (pass m is o) ts
fore_pass (Takes js) o i is t ts us x (inl p) h below = joins js is ts us p h
fore_pass (Takes js) o i is t ts us x (inr p) h below = absurd (nowhere o ts (x p.1) (below p.0))
fore_pass Skips o i is t ts us x p h below = below p
fore_pass Refuses o i is t ts us x p h below = absurd p

-- what the items read, the items behind the token read without it
pub fore : (is : List Item) → Good is → (t : Token) (ts : List Token) → Holds is (t ∷ ts) → Fore (step is t.kind) ts
fore [] g t ts h = absurd (cc)
fore (i ∷ is) g t ts h =
    fore_pass (move i t.kind) (step is t.kind) i is t ts h.0 (λ o. excludes i is t.kind o g) (in_item i t ts h.0 h.1) h.2
    (λ e. fore is (good_below i is g) t ts (subst (Holds is) e h.2))

-- ---- the end of the tokens

no_call : {f : Forms} (us : List Token) → Reads sym.Call [] us f → ⊥
no_call us r = elim r [ ]

no_prim : {f : Forms} (us : List Token) → Reads sym.Prim [] us f → ⊥
no_prim us (a_call r) = no_call us r

no_unary : {f : Forms} (us : List Token) → Reads sym.Unary [] us f → ⊥
no_unary us (a_prim r) = no_prim us r

no_star : {f : Forms} (us : List Token) → Reads (sym.Chain Star) [] us f → ⊥
no_star us (a_chain vs x xs a b e) = no_unary vs a

no_hash : {f : Forms} (us : List Token) → Reads (sym.Chain Hash) [] us f → ⊥
no_hash us (a_chain vs x xs a b e) = no_star vs a

no_plus : {f : Forms} (us : List Token) → Reads (sym.Chain Plus) [] us f → ⊥
no_plus us (a_chain vs x xs a b e) = no_hash vs a

no_chain : {f : Forms} (op : Op) (us : List Token) → Reads (sym.Chain op) [] us f → ⊥
no_chain Star us r = no_star us r
no_chain Hash us r = no_hash us r
no_chain Plus us r = no_plus us r

no_goal : {g : FormGoal} (us : List Token) → ReadsGoal [] us g → ⊥
no_goal us (calls r) = no_call us r
no_goal us (equals e vs a h b) = no_plus (e ∷ vs) a

empty_operands : {f : Forms} {op : Op} (us : List Token) → Reads (sym.Operands op) [] us f → us ≡ []
empty_operands us no_operand = refl

empty_commas : {f : Forms} (us : List Token) → Reads sym.Commas [] us f → us ≡ []
empty_commas us no_comma = refl

no_exprs : {f : Forms} (us : List Token) → Reads sym.Exprs [] us f → ⊥
no_exprs us (exprs vs a b) = no_plus vs a

no_list_rest : (us : List Token) → ReadsListRest [] us → ⊥
no_list_rest us (elements vs xs r e) = no_exprs vs r

empty_plus : {f : Forms} (zs : List Token) (e : Token) (us : List Token) → zs ≡ [] → Reads (sym.Operands Plus) zs (e ∷ us) f → ⊥
empty_plus zs e us h no_operand = cc
empty_plus zs e us h (operand vs k a b) = cc

empty_tail : (us : List Token) → ReadsGoalTail [] us → us ≡ []
empty_tail us no_tail = refl
empty_tail us (a_tail vs ws zs e xs ys os y p q r h b) = absurd (empty_plus ws e zs (at_hash ws (empty_operands vs p) q) r)
  where
    at_hash : {f : Forms} (ws : List Token) → vs ≡ [] → Reads (sym.Operands Hash) vs ws f → ws ≡ []
    at_hash {f} ws e r = empty_operands ws (subst (λ us. Reads (sym.Operands Hash) us ws f) e r)

empty_clauses : (us : List Token) → ReadsMany ReadsClause [] us → us ≡ []
empty_clauses us no_piece = refl
empty_clauses us (a_piece vs c r m) = absurd (none r)
  where
    none : ReadsClause [] vs c → ⊥
    none r = elim r [ ]

empty_queries : (us : List Token) → ReadsMany ReadsQuery [] us → us ≡ []
empty_queries us no_piece = refl
empty_queries us (a_piece vs c r m) = absurd (none r)
  where
    none : ReadsQuery [] vs c → ⊥
    none r = elim r [ ]

empty_item : (i : Item) (us : List Token) → Item-reads i [] us → (is_optional i ≡ true) × (us ≡ [])
empty_item (Chain op) us r = absurd (no_chain op us r.1)
empty_item (Operands op) us r = (refl, empty_operands us r.1)
empty_item Operand us r = absurd (no_unary us r.1)
empty_item Args us no_args = (refl, refl)
empty_item Commas us r = (refl, empty_commas us r.1)
empty_item ListRest us r = absurd (no_list_rest us r)
empty_item ListEnd us r = elim r [ ]
empty_item Close us r = elim r [ ]
empty_item CloseBracket us r = elim r [ ]
empty_item End us r = elim r [ ]
empty_item Equals us r = elim r [ ]
empty_item AnAtom us r = elim r [ ]
empty_item Goal us r = absurd (no_goal us r.1)
empty_item GoalTail us r = (refl, empty_tail us r)
empty_item MoreGoals us r = elim r [ ]
empty_item ClauseTail us r = elim r [ ]
empty_item Clauses us r = (refl, empty_clauses us r)
empty_item Queries us r = (refl, empty_queries us r)

optional : (i : Item) (ts : List Token) → is_optional i ≡ true → Item-reads i ts ts
optional (Operands op) ts o = (Last, no_operand)
optional Args ts o = no_args
optional Commas ts o = (Last, no_comma)
optional GoalTail ts o = no_tail
optional Clauses ts o = no_piece
optional Queries ts o = no_piece
optional _ ts o = absurd (cc)

-- whether the text may end is whether the items read nothing
abbrev pub End-says : Bool → List Item → Type 0
End-says true is = Holds is []
End-says false is = Holds is [] → ⊥

end_one : (o e : Bool) (i : Item) (is : List Item) → is_optional i ≡ o → End-says e is → End-says (if o then e else false) (i ∷ is)
end_one true true i is o h = ([], optional i [] o, h)
end_one true false i is o h = λ r. h (subst (Holds is) (empty_item i r.0 r.1).1 r.2)
end_one false e i is o h = λ r. let z : is_optional i ≡ true = (empty_item i r.0 r.1).0 in absurd (cc)

pub end_says : (is : List Item) → End-says (can_end is) is
end_says [] = refl
end_says (i ∷ is) = end_one (is_optional i) (can_end is) i is refl (end_says is)

-- ---- each stack can be finished

a_token : Kind → Token
a_token k = record { kind = k; text = []; start = 0; stop = 0; line = 0 }

fill_chain : (op : Op) (us : List Token) → Item-reads (Chain op) (a_token kind.Variable ∷ us) us
unfolding a_token
fill_chain Star us = (Variable [], a_chain us (Variable []) Last (a_prim (a_variable refl refl)) no_operand refl)
fill_chain Hash us = (Variable [], a_chain us (Variable []) Last (a_chain us (Variable []) Last (a_prim (a_variable refl refl)) no_operand refl) no_operand refl)
fill_chain Plus us = (Variable [], a_chain us (Variable []) Last (a_chain us (Variable []) Last (a_chain us (Variable []) Last (a_prim (a_variable refl refl)) no_operand refl) no_operand refl) no_operand refl)

fill : (i : Item) → (ts : List Token) × ((us : List Token) → Item-reads i (ts ++ us) us)
unfolding a_token
fill (Chain op) = (a_token kind.Variable ∷ [], λ us. fill_chain op us)
fill Operand = (a_token kind.Variable ∷ [], λ us. (Variable [], a_prim (a_variable refl refl)))
fill (Operands op) = ([], λ us. (Last, no_operand))
fill Args = ([], λ us. no_args)
fill Commas = ([], λ us. (Last, no_comma))
fill ListRest = (a_token kind.RightBracket ∷ [], λ us. nothing refl)
fill ListEnd = (a_token kind.RightBracket ∷ [], λ us. closes refl)
fill Close = (a_token kind.RightParen ∷ [], λ us. this refl)
fill CloseBracket = (a_token kind.RightBracket ∷ [], λ us. this refl)
fill End = (a_token kind.Dot ∷ [], λ us. this refl)
fill Equals = (a_token kind.Equals ∷ [], λ us. this refl)
fill AnAtom = (a_token kind.Atom ∷ [], λ us. atom (inl refl))
fill Goal = (a_token kind.Atom ∷ [], λ us. (ACall (Name [] Last), calls (an_atom (inl refl) refl)))
fill GoalTail = ([], λ us. no_tail)
fill MoreGoals = (a_token kind.Dot ∷ [], λ us. dot refl)
fill ClauseTail = (a_token kind.Dot ∷ [], λ us. no_body refl)
fill Clauses = ([], λ us. no_piece)
fill Queries = ([], λ us. no_piece)

pub finish : (is : List Item) → (us : List Token) × Holds is us
finish [] = ([], refl)
finish (i ∷ is) = let f = fill i in let r = finish is in (f.0 ++ r.0, (r.0, f.1 r.0, r.1))
