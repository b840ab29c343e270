-- From the items before a token to those behind it: where the grammar reads a token, the machine takes it.
use Rattle.std.proofs.Common.{◌≡◌, true, ◌⊎◌, inl, inr, List, [], ◌∷◌, ◌++◌, refl, sym, ◌∙◌, ap, subst}
use Rattle.cb_model.specs.declared.Kind.{Kind}
use Rattle.cb_model.specs.declared.Kind.TheVariants as kind
use Rattle.cb_model.specs.Tokens.{Token}
use Rattle.cb_model.specs.Grammar as sym
use Rattle.cb_model.specs.Grammar.{Op, Plus, Hash, Star, Form, Forms, Last, More, one, chain, tighter, op_kind, IsAtom, Reads, a_chain, no_operand, operand, a_not, a_prim, a_variable, an_integer, a_call, a_group, a_nil, a_list, an_open_list, an_atom, a_compound, exprs, no_comma, a_comma, FormGoal, ReadsGoal, calls, equals, ReadsGoals, last_goal, more_goals, FormClause, ReadsClause, directive, fact, rule, FormQuery, ReadsQuery, a_query}
use Rattle.cb_syntax.specs.Machine.{Item, Chain, Operands, Operand, Args, Commas, ListRest, ListEnd, Close, CloseBracket, End, Equals, AnAtom, Goal, GoalTail, MoreGoals, ClauseTail, Clauses, Queries, Move, Takes, Skips, Refuses, follow, or_skips, operand_move, tails, equation, goal_move, list_move, move, is_optional}
use Rattle.cb_syntax.proofs.Parts.{ReadsOne, this, ReadsAtom, atom, ReadsArgs, no_args, some_args, ReadsListEnd, closes, opens, ReadsListRest, nothing, elements, ReadsGoalTail, no_tail, a_tail, ReadsMoreGoals, dot, comma, ReadsClauseTail, no_body, body, ReadsMany, no_piece, a_piece, Item-reads, Part, join_parts, split_parts}

-- a move takes the token, and the items behind it read the rest
abbrev Fore-move : Move → List Token → List Token → Type 0
Fore-move (Takes js) ts us = Part js ts us
Fore-move Skips ts us = ⊥
Fore-move Refuses ts us = ⊥

follows : (m : Move) (is : List Item) (ts us vs : List Token) → Fore-move m ts us → Part is us vs → Fore-move (follow m is) ts vs
follows (Takes js) is ts us vs p q = join_parts js is ts us vs p q
follows Skips is ts us vs p q = absurd p
follows Refuses is ts us vs p q = absurd p

-- and back
unfollows : (m : Move) (is : List Item) (ts vs : List Token) → Fore-move (follow m is) ts vs → (us : List Token) × Fore-move m ts us × Part is us vs
unfollows (Takes js) is ts vs p = split_parts js is ts vs p
unfollows Skips is ts vs p = absurd p
unfollows Refuses is ts vs p = absurd p

-- ---- terms

in_atom : (t : Token) (ts us : List Token) → IsAtom t → ReadsArgs ts us → Fore-move (operand_move t.kind) ts us
in_atom t ts us (inl e) a = subst (λ k. Fore-move (operand_move k) ts us) (sym e) (us, a, refl)
in_atom t ts us (inr e) a = subst (λ k. Fore-move (operand_move k) ts us) (sym e) (us, a, refl)

in_call : {f : Forms} (t : Token) (ts us : List Token) → Reads sym.Call (t ∷ ts) us f → IsAtom t × ReadsArgs ts us
in_call t ts us (an_atom a e) = (a, no_args)
in_call t ts us (a_compound r xs a l e c q) = (a, some_args r xs l e c)

chain_one : {f : Forms} {op : Op} (ts us : List Token) → Reads (sym.Chain op) ts us f → (x : Form) × Reads (sym.Chain op) ts us (one x)
chain_one {op = op} ts us (a_chain vs x xs a b e) = (chain op x xs, a_chain vs x xs a b refl)

in_list : {f : Forms} (ts us : List Token) (l : Token) → Reads sym.Prim (l ∷ ts) us f → l.kind ≡ kind.LeftBracket → ReadsListRest ts us
in_list ts us l (a_variable h e) k = absurd (cc)
in_list ts us l (an_integer h) k = absurd (cc)
in_list ts us l (a_call r) k = no_bracket (in_call l ts us r).0
  where
    no_bracket : IsAtom l → ReadsListRest ts us
    no_bracket (inl h) = absurd (cc)
    no_bracket (inr h) = absurd (cc)
in_list ts us l (a_group c h r e) k = absurd (cc)
in_list ts us l (a_nil h e) k = nothing e
in_list ts us l (a_list {xs = xs} r h s e) k = elements (r ∷ us) xs s (closes e)
in_list ts us l (an_open_list {xs = xs} {y = y} b r ws h s e q c) k = elements (b ∷ ws) xs s (opens r y e q c)

in_prim : {f : Forms} (t : Token) (ts us : List Token) → Reads sym.Prim (t ∷ ts) us f → Fore-move (operand_move t.kind) ts us
in_prim t ts us (a_variable h e) = subst (λ k. Fore-move (operand_move k) ts ts) (sym h) refl
in_prim t ts us (an_integer h) = subst (λ k. Fore-move (operand_move k) ts ts) (sym h) refl
in_prim t ts us (a_call r) = let p = in_call t ts us r in in_atom t ts us p.0 p.1
in_prim t ts us (a_group c h r e) = subst (λ k. Fore-move (operand_move k) ts us) (sym h) (c ∷ us, chain_one ts (c ∷ us) r, (us, this e, refl))
in_prim t ts us (a_nil {r = r} h e) = subst (λ k. Fore-move (operand_move k) (r ∷ us) us) (sym h) (us, nothing e, refl)
in_prim t ts us (a_list {xs = xs} r h s e) = subst (λ k. Fore-move (operand_move k) ts us) (sym h) (us, elements (r ∷ us) xs s (closes e), refl)
in_prim t ts us (an_open_list {xs = xs} {y = y} b r ws h s e q c) = subst (λ k. Fore-move (operand_move k) ts us) (sym h) (us, elements (b ∷ ws) xs s (opens r y e q c), refl)

in_unary : {f : Forms} (t : Token) (ts us : List Token) → Reads sym.Unary (t ∷ ts) us f → Fore-move (operand_move t.kind) ts us
in_unary t ts us (a_not {x = x} h r) = subst (λ k. Fore-move (operand_move k) ts us) (sym h) (us, (x, r), refl)
in_unary t ts us (a_prim r) = in_prim t ts us r

in_star : {f : Forms} (t : Token) (ts us : List Token) → Reads (sym.Chain Star) (t ∷ ts) us f → Fore-move (follow (operand_move t.kind) (tails Star)) ts us
in_star t ts us (a_chain vs x xs a b e) = follows (operand_move t.kind) (tails Star) ts vs us (in_unary t ts vs a) (us, (xs, b), refl)

in_hash : {f : Forms} (t : Token) (ts us : List Token) → Reads (sym.Chain Hash) (t ∷ ts) us f → Fore-move (follow (operand_move t.kind) (tails Hash)) ts us
in_hash t ts us (a_chain vs x xs a b e) =
    let r = unfollows (operand_move t.kind) (tails Star) ts vs (in_star t ts vs a) in
    follows (operand_move t.kind) (tails Hash) ts r.0 us r.1 (join_parts (tails Star) (Operands Hash ∷ []) r.0 vs us r.2 (us, (xs, b), refl))

in_plus : {f : Forms} (t : Token) (ts us : List Token) → Reads (sym.Chain Plus) (t ∷ ts) us f → Fore-move (follow (operand_move t.kind) (tails Plus)) ts us
in_plus t ts us (a_chain vs x xs a b e) =
    let r = unfollows (operand_move t.kind) (tails Hash) ts vs (in_hash t ts vs a) in
    follows (operand_move t.kind) (tails Plus) ts r.0 us r.1 (join_parts (tails Hash) (Operands Plus ∷ []) r.0 vs us r.2 (us, (xs, b), refl))

in_chain : {f : Forms} (op : Op) (t : Token) (ts us : List Token) → Reads (sym.Chain op) (t ∷ ts) us f → Fore-move (follow (operand_move t.kind) (tails op)) ts us
in_chain Star t ts us r = in_star t ts us r
in_chain Hash t ts us r = in_hash t ts us r
in_chain Plus t ts us r = in_plus t ts us r

-- a chain, and then more
plus_then : {f : Forms} (is : List Item) (t : Token) (ts us vs : List Token) → Reads (sym.Chain Plus) (t ∷ ts) us f → Part is us vs → Fore-move (follow (operand_move t.kind) (tails Plus ++ is)) ts vs
plus_then is t ts us vs c p =
    let r = unfollows (operand_move t.kind) (tails Plus) ts us (in_plus t ts us c) in
    follows (operand_move t.kind) (tails Plus ++ is) ts r.0 vs r.1 (join_parts (tails Plus) is r.0 us vs r.2 p)

-- ---- what an item that reads says of the first token

abbrev pub Fore-item : Move → Item → Token → List Token → List Token → Type 0
Fore-item (Takes js) i t ts us = Part js ts us ⊎ ((us ≡ t ∷ ts) × (is_optional i ≡ true))
Fore-item Skips i t ts us = us ≡ t ∷ ts
Fore-item Refuses i t ts us = ⊥

fore_move : (m : Move) (i : Item) (t : Token) (ts us : List Token) → Fore-move m ts us → Fore-item m i t ts us
fore_move (Takes js) i t ts us p = inl p
fore_move Skips i t ts us p = absurd p
fore_move Refuses i t ts us p = absurd p

left_out : (m : Move) (i : Item) (t : Token) (ts us : List Token) → is_optional i ≡ true → (m ≡ Refuses → ⊥) → us ≡ t ∷ ts → Fore-item m i t ts us
left_out (Takes js) i t ts us o n e = inr (e, o)
left_out Skips i t ts us o n e = e
left_out Refuses i t ts us o n e = absurd (n refl)

never_or : (m : Move) → or_skips m ≡ Refuses → ⊥
never_or (Takes js) e = cc
never_or Skips e = cc
never_or Refuses e = cc

-- an item that may be left out refuses no token
never_refuses : (i : Item) (k : Kind) → is_optional i ≡ true → move i k ≡ Refuses → ⊥
never_refuses (Operands Star) kind.Star o e = cc
never_refuses (Operands Star) _ o e = cc
never_refuses (Operands Hash) kind.Hash o e = cc
never_refuses (Operands Hash) _ o e = cc
never_refuses (Operands Plus) kind.Plus o e = cc
never_refuses (Operands Plus) _ o e = cc
never_refuses Args kind.LeftParen o e = cc
never_refuses Args _ o e = cc
never_refuses Commas kind.Comma o e = cc
never_refuses Commas _ o e = cc
never_refuses GoalTail kind.Star o e = cc
never_refuses GoalTail kind.Hash o e = cc
never_refuses GoalTail kind.Plus o e = cc
never_refuses GoalTail kind.Equals o e = cc
never_refuses GoalTail _ o e = cc
never_refuses Clauses kind.Neck o e = cc
never_refuses Clauses kind.Atom o e = cc
never_refuses Clauses kind.Quoted o e = cc
never_refuses Clauses _ o e = cc
never_refuses Queries k o e = never_or (follow (goal_move k) (MoreGoals ∷ Queries ∷ [])) e
never_refuses _ k o e = absurd (cc)

stays : (i : Item) (t : Token) (ts : List Token) → is_optional i ≡ true → Fore-item (move i t.kind) i t ts (t ∷ ts)
stays i t ts o = left_out (move i t.kind) i t ts (t ∷ ts) o (never_refuses i t.kind o) refl

in_operands : {f : Forms} (op : Op) (t : Token) (ts us : List Token) → Reads (sym.Operands op) (t ∷ ts) us f → Fore-item (move (Operands op) t.kind) (Operands op) t ts us
in_operands op t ts us no_operand = stays (Operands op) t ts refl
in_operands Star t ts us (operand {x = x} {xs = xs} vs h a b) = subst (λ k. Fore-item (move (Operands Star) k) (Operands Star) t ts us) (sym h) (inl (vs, (x, a), (us, (xs, b), refl)))
in_operands Hash t ts us (operand {x = x} {xs = xs} vs h a b) = subst (λ k. Fore-item (move (Operands Hash) k) (Operands Hash) t ts us) (sym h) (inl (vs, (x, a), (us, (xs, b), refl)))
in_operands Plus t ts us (operand {x = x} {xs = xs} vs h a b) = subst (λ k. Fore-item (move (Operands Plus) k) (Operands Plus) t ts us) (sym h) (inl (vs, (x, a), (us, (xs, b), refl)))

-- the terms of a list, and then more
term_list : (is : List Item) (ts us vs : List Token) (xs : Forms) → Reads sym.Exprs ts us xs → Part is us vs → Part (Chain Plus ∷ Commas ∷ is) ts vs
term_list is ts us vs xs (exprs {x = y} {xs = ys} ws a b) p = (ws, (y, a), (us, (ys, b), p))

in_args : (t : Token) (ts us : List Token) → ReadsArgs (t ∷ ts) us → Fore-item (move Args t.kind) Args t ts us
in_args t ts us no_args = stays Args t ts refl
in_args t ts us (some_args r xs h a e) = subst (λ k. Fore-item (move Args k) Args t ts us) (sym h) (inl (term_list (Close ∷ []) ts (r ∷ us) us xs a (us, this e, refl)))

in_commas : {f : Forms} (t : Token) (ts us : List Token) → Reads sym.Commas (t ∷ ts) us f → Fore-item (move Commas t.kind) Commas t ts us
in_commas t ts us no_comma = stays Commas t ts refl
in_commas t ts us (a_comma {xs = xs} h a) = subst (λ k. Fore-item (move Commas k) Commas t ts us) (sym h) (inl (term_list [] ts us us xs a refl))

-- ---- lists

no_bracket : (k : Kind) (ts us : List Token) → Fore-move (follow (operand_move k) (tails Plus ++ Commas ∷ ListEnd ∷ [])) ts us → Fore-move (list_move k) ts us
no_bracket kind.RightBracket ts us p = absurd p
no_bracket k ts us p = p

in_list_rest : (t : Token) (ts us : List Token) → ReadsListRest (t ∷ ts) us → Fore-item (move ListRest t.kind) ListRest t ts us
in_list_rest t ts us (nothing h) = subst (λ k. Fore-item (move ListRest k) ListRest t ts us) (sym h) (inl refl)
in_list_rest t ts us (elements vs xs r e) = fore_move (list_move t.kind) ListRest t ts us (no_bracket t.kind ts us (begun vs xs r e))
  where
    begun : (vs : List Token) (xs : Forms) → Reads sym.Exprs (t ∷ ts) vs xs → ReadsListEnd vs us → Fore-move (follow (operand_move t.kind) (tails Plus ++ Commas ∷ ListEnd ∷ [])) ts us
    begun vs xs (exprs {x = y} {xs = ys} ws a b) e = plus_then (Commas ∷ ListEnd ∷ []) t ts ws us a (vs, (ys, b), (us, e, refl))

in_list_end : (t : Token) (ts us : List Token) → ReadsListEnd (t ∷ ts) us → Fore-item (move ListEnd t.kind) ListEnd t ts us
in_list_end t ts us (closes h) = subst (λ k. Fore-item (move ListEnd k) ListEnd t ts us) (sym h) (inl refl)
in_list_end t ts us (opens r y h a e) = subst (λ k. Fore-item (move ListEnd k) ListEnd t ts us) (sym h) (inl (r ∷ us, (y, a), (us, this e, refl)))

-- ---- goals

atom_tail : (ts us : List Token) → Part (Args ∷ equation) ts us → Part (Args ∷ GoalTail ∷ []) ts us
atom_tail ts us p = (p.0, p.1, (us, whole p.0 us p.2, refl))
  where
    equal : (us vs ws xs zs : List Token) → Item-reads (Operands Star) us vs → Item-reads (Operands Hash) vs ws → Item-reads (Operands Plus) ws xs → (os : List Token) → ReadsOne kind.Equals xs os →
        Item-reads (Chain Plus) os zs → ReadsGoalTail us zs
    equal us vs ws xs zs a b c os (this {t = e} h) d = a_tail vs ws os e a.0 b.0 c.0 d.0 a.1 b.1 c.1 h d.1

    whole : (us zs : List Token) → Part equation us zs → ReadsGoalTail us zs
    whole us zs q = subst (λ os. ReadsGoalTail us os) q.2.2.2.2.2 (equal us q.0 q.2.0 q.2.2.0 q.2.2.2.2.0 q.1 q.2.1 q.2.2.1 q.2.2.2.0 q.2.2.2.1 q.2.2.2.2.1)

goal_fore : (k : Kind) (ts us : List Token) → Fore-move (follow (operand_move k) equation) ts us → Fore-move (goal_move k) ts us
goal_fore kind.Atom ts us p = atom_tail ts us p
goal_fore kind.Quoted ts us p = atom_tail ts us p
goal_fore k ts us p = p

call_goal : (t : Token) (ts us : List Token) → IsAtom t → ReadsArgs ts us → Fore-move (goal_move t.kind) ts us
call_goal t ts us (inl h) a = subst (λ k. Fore-move (goal_move k) ts us) (sym h) (us, a, (us, no_tail, refl))
call_goal t ts us (inr h) a = subst (λ k. Fore-move (goal_move k) ts us) (sym h) (us, a, (us, no_tail, refl))

in_goal : {g : FormGoal} (t : Token) (ts us : List Token) → ReadsGoal (t ∷ ts) us g → Fore-move (goal_move t.kind) ts us
in_goal t ts us (calls r) = let p = in_call t ts us r in call_goal t ts us p.0 p.1
in_goal t ts us (equals {y = y} e vs a h b) = goal_fore t.kind ts us (plus_then (Equals ∷ Chain Plus ∷ []) t ts (e ∷ vs) us a (vs, this h, (us, (y, b), refl)))

module _ (t : Token) (ts us : List Token) where
  equals_tail : (ws : List Token) (y : Form) → t.kind ≡ kind.Equals → ts ≡ ws → Reads (sym.Chain Plus) ws us (one y) → Fore-item (move GoalTail t.kind) GoalTail t ts us
  equals_tail ws y h e b = subst (λ k. Fore-item (move GoalTail k) GoalTail t ts us) (sym h) (inl (us, (y, subst (λ os. Reads (sym.Chain Plus) os us (one y)) (sym e) b), refl))

  plus_tail : (zs : List Token) (xs : Forms) → Reads (sym.Operands Plus) (t ∷ ts) zs xs → (e : Token) (ws : List Token) (y : Form) → zs ≡ e ∷ ws → e.kind ≡ kind.Equals →
      Reads (sym.Chain Plus) ws us (one y) → Fore-item (move GoalTail t.kind) GoalTail t ts us
  plus_tail zs xs no_operand e ws y q h b = let f : t ≡ e = cc in let g : ts ≡ ws = cc in equals_tail ws y (ap (λ (x : Token). x.kind) f ∙ h) g b
  plus_tail zs xs (operand {x = x} {xs = ys} vs k a c) e ws y q h b = subst (λ k. Fore-item (move GoalTail k) GoalTail t ts us) (sym k)
      (inl (vs, (x, a), (e ∷ ws, (ys, subst (λ os. Reads (sym.Operands Plus) vs os ys) q c), (ws, this h, (us, (y, b), refl)))))

  hash_tail : (zs : List Token) (xs : Forms) → Reads (sym.Operands Hash) (t ∷ ts) zs xs → (os : Forms) (e : Token) (ws : List Token) (y : Form) → Reads (sym.Operands Plus) zs (e ∷ ws) os → e.kind ≡ kind.Equals →
      Reads (sym.Chain Plus) ws us (one y) → Fore-item (move GoalTail t.kind) GoalTail t ts us
  hash_tail zs xs no_operand os e ws y r h b = plus_tail (e ∷ ws) os r e ws y refl h b
  hash_tail zs xs (operand {x = x} {xs = ys} vs k a c) os e ws y r h b = subst (λ k. Fore-item (move GoalTail k) GoalTail t ts us) (sym k)
      (inl (vs, (x, a), (zs, (ys, c), (e ∷ ws, (os, r), (ws, this h, (us, (y, b), refl))))))

  star_tail : (zs : List Token) (xs : Forms) → Reads (sym.Operands Star) (t ∷ ts) zs xs → (vs : List Token) (ps os : Forms) (e : Token) (ws : List Token) (y : Form) → Reads (sym.Operands Hash) zs vs ps →
      Reads (sym.Operands Plus) vs (e ∷ ws) os → e.kind ≡ kind.Equals → Reads (sym.Chain Plus) ws us (one y) → Fore-item (move GoalTail t.kind) GoalTail t ts us
  star_tail zs xs no_operand vs ps os e ws y q r h b = hash_tail vs ps q os e ws y r h b
  star_tail zs xs (operand {x = x} {xs = ys} qs k a c) vs ps os e ws y q r h b = subst (λ k. Fore-item (move GoalTail k) GoalTail t ts us) (sym k)
      (inl (qs, (x, a), (zs, (ys, c), (vs, (ps, q), (e ∷ ws, (os, r), (ws, this h, (us, (y, b), refl)))))))

in_goal_tail : (t : Token) (ts us : List Token) → ReadsGoalTail (t ∷ ts) us → Fore-item (move GoalTail t.kind) GoalTail t ts us
in_goal_tail t ts us no_tail = stays GoalTail t ts refl
in_goal_tail t ts us (a_tail zs vs ws e xs ps os y p q r h b) = star_tail t ts us zs xs p vs ps os e ws y q r h b

goals_part : {gs : List FormGoal} (ts us : List Token) → ReadsGoals ts us gs → Part (Goal ∷ MoreGoals ∷ []) ts us
goals_part ts us (last_goal {g = g} d r h) = (d ∷ us, (g, r), (us, dot h, refl))
goals_part ts us (more_goals {g = g} {gs = gs} c vs r h m) = (c ∷ vs, (g, r), (us, comma gs h m, refl))

in_more_goals : (t : Token) (ts us : List Token) → ReadsMoreGoals (t ∷ ts) us → Fore-item (move MoreGoals t.kind) MoreGoals t ts us
in_more_goals t ts us (dot h) = subst (λ k. Fore-item (move MoreGoals k) MoreGoals t ts us) (sym h) (inl refl)
in_more_goals t ts us (comma gs h r) = subst (λ k. Fore-item (move MoreGoals k) MoreGoals t ts us) (sym h) (inl (goals_part ts us r))

-- ---- clauses and queries

in_clause_tail : (t : Token) (ts us : List Token) → ReadsClauseTail (t ∷ ts) us → Fore-item (move ClauseTail t.kind) ClauseTail t ts us
in_clause_tail t ts us (no_body h) = subst (λ k. Fore-item (move ClauseTail k) ClauseTail t ts us) (sym h) (inl refl)
in_clause_tail t ts us (body gs h r) = subst (λ k. Fore-item (move ClauseTail k) ClauseTail t ts us) (sym h) (inl (goals_part ts us r))

headed : (t : Token) (ts us : List Token) → IsAtom t → Part (Args ∷ ClauseTail ∷ Clauses ∷ []) ts us → Fore-item (move Clauses t.kind) Clauses t ts us
headed t ts us (inl h) p = subst (λ k. Fore-item (move Clauses k) Clauses t ts us) (sym h) (inl p)
headed t ts us (inr h) p = subst (λ k. Fore-item (move Clauses k) Clauses t ts us) (sym h) (inl p)

in_clauses : (t : Token) (ts us : List Token) → ReadsMany ReadsClause (t ∷ ts) us → Fore-item (move Clauses t.kind) Clauses t ts us
in_clauses t ts us no_piece = stays Clauses t ts refl
in_clauses t ts us (a_piece vs c (directive {ts = ws} {xs = xs} d h a r e q) m) =
    subst (λ k. Fore-item (move Clauses k) Clauses t ts us) (sym h) (inl (ws, atom a, term_list (End ∷ Clauses ∷ []) ws (d ∷ vs) us xs r (vs, this e, (us, m, refl))))
in_clauses t ts us (a_piece vs c (fact d r h q) m) = let p = in_call t ts (d ∷ vs) r in headed t ts us p.0 (d ∷ vs, p.1, (vs, no_body h, (us, m, refl)))
in_clauses t ts us (a_piece vs c (rule {gs = gs} n ws r h b q) m) = let p = in_call t ts (n ∷ ws) r in headed t ts us p.0 (n ∷ ws, p.1, (vs, body gs h b, (us, m, refl)))

skips_fore : (m : Move) (t : Token) (ts us : List Token) → Fore-move m ts us → Fore-item (or_skips m) Queries t ts us
skips_fore (Takes js) t ts us p = inl p
skips_fore Skips t ts us p = absurd p
skips_fore Refuses t ts us p = absurd p

first_goal : {gs : List FormGoal} (t : Token) (ts us : List Token) → ReadsGoals (t ∷ ts) us gs → Fore-move (follow (goal_move t.kind) (MoreGoals ∷ [])) ts us
first_goal t ts us (last_goal d r h) = follows (goal_move t.kind) (MoreGoals ∷ []) ts (d ∷ us) us (in_goal t ts (d ∷ us) r) (us, dot h, refl)
first_goal t ts us (more_goals {gs = gs} c vs r h m) = follows (goal_move t.kind) (MoreGoals ∷ []) ts (c ∷ vs) us (in_goal t ts (c ∷ vs) r) (us, comma gs h m, refl)

in_queries : (t : Token) (ts us : List Token) → ReadsMany ReadsQuery (t ∷ ts) us → Fore-item (move Queries t.kind) Queries t ts us
in_queries t ts us no_piece = stays Queries t ts refl
in_queries t ts us (a_piece vs c (a_query r q) m) =
    let p = unfollows (goal_move t.kind) (MoreGoals ∷ []) ts vs (first_goal t ts vs r) in
    skips_fore (follow (goal_move t.kind) (MoreGoals ∷ Queries ∷ [])) t ts us
    (follows (goal_move t.kind) (MoreGoals ∷ Queries ∷ []) ts p.0 us p.1 (join_parts (MoreGoals ∷ []) (Queries ∷ []) p.0 vs us p.2 (us, m, refl)))

-- ---- all items

in_one : (k : Kind) (i : Item) (t : Token) (ts us : List Token) → move i k ≡ Takes [] → ReadsOne k (t ∷ ts) us → Fore-item (move i t.kind) i t ts us
in_one k i t ts us e (this h) = subst (λ (m : Move). Fore-item m i t ts ts) (sym (ap (move i) h ∙ e)) (inl refl)

in_one_atom : (t : Token) (ts us : List Token) → ReadsAtom (t ∷ ts) us → Fore-item (move AnAtom t.kind) AnAtom t ts us
in_one_atom t ts us (atom (inl h)) = subst (λ k. Fore-item (move AnAtom k) AnAtom t ts ts) (sym h) (inl refl)
in_one_atom t ts us (atom (inr h)) = subst (λ k. Fore-item (move AnAtom k) AnAtom t ts ts) (sym h) (inl refl)

pub in_item : (i : Item) (t : Token) (ts us : List Token) → Item-reads i (t ∷ ts) us → Fore-item (move i t.kind) i t ts us
in_item (Chain op) t ts us r = fore_move (follow (operand_move t.kind) (tails op)) (Chain op) t ts us (in_chain op t ts us r.1)
in_item (Operands op) t ts us r = in_operands op t ts us r.1
in_item Operand t ts us r = fore_move (operand_move t.kind) Operand t ts us (in_unary t ts us r.1)
in_item Args t ts us r = in_args t ts us r
in_item Commas t ts us r = in_commas t ts us r.1
in_item ListRest t ts us r = in_list_rest t ts us r
in_item ListEnd t ts us r = in_list_end t ts us r
in_item Close t ts us r = in_one kind.RightParen Close t ts us refl r
in_item CloseBracket t ts us r = in_one kind.RightBracket CloseBracket t ts us refl r
in_item End t ts us r = in_one kind.Dot End t ts us refl r
in_item Equals t ts us r = in_one kind.Equals Equals t ts us refl r
in_item AnAtom t ts us r = in_one_atom t ts us r
in_item Goal t ts us r = fore_move (goal_move t.kind) Goal t ts us (in_goal t ts us r.1)
in_item GoalTail t ts us r = in_goal_tail t ts us r
in_item MoreGoals t ts us r = in_more_goals t ts us r
in_item ClauseTail t ts us r = in_clause_tail t ts us r
in_item Clauses t ts us r = in_clauses t ts us r
in_item Queries t ts us r = in_queries t ts us r
