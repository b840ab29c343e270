-- What each exit of the reading functions adds, over plain tokens: goals.
use Rattle.std.specs.Prelude.{nat_le}
use Rattle.std.proofs.Common.{◌≡◌, ℕ, ◌-◌, true, false, inl, inr, List, [], ◌∷◌, ◌++◌, length, None, refl, sym, ◌∙◌, ap, subst, arith, append_assoc}
use Rattle.cb_model.specs.declared.Kind.{Kind}
use Rattle.cb_model.specs.declared.Kind.TheVariants as kind
use Rattle.cb_model.specs.Tokens.{Token}
use Rattle.cb_model.specs.Grammar as sym
use Rattle.cb_model.specs.Grammar.{Op, Plus, Hash, Star, Form, Forms, one, chain, IsAtom, nest, depth, Reads, a_chain, a_prim, a_call, FormGoal, ACall, AnEqual, ReadsGoal, calls, equals, ReadsGoals, last_goal, more_goals}
use Rattle.cb_syntax.specs.Machine.{Item, Chain, Operands, Operand, Args, Close, Equals, Goal, GoalTail, MoreGoals, Outcome, step, choose, run, can_end}
use Rattle.cb_syntax.specs.Machine as out
use Rattle.cb_syntax.specs.declared.read.Stop.{Stop}
use Rattle.cb_syntax.specs.declared.read.Stop.TheVariants.{Memory, Ended, Wrong}
use Rattle.cb_syntax.specs.Answers.{Agrees}
use Rattle.cb_syntax.specs.Steps.{Stops, TookChain, TookCall, NoCall, TookOperands, Ahead, AheadOf, Only, NotAhead}
use Rattle.cb_syntax.specs.Pieces.{tail_next, chain_rest, TookRest, NoRest, TookEquation, NoEquation, TookGoal, NoGoal, TookGoals, NoGoals}
use Rattle.cb_syntax.proofs.Moves.{taken, refused, agrees, left_is, atom_small}

-- the same move on the next token
pub alike_at : (is js : List Item) (ns : List ℕ) (t : Token) (ts : List Token) → step is t.kind ≡ step js t.kind → run is ns (t ∷ ts) ≡ run js ns (t ∷ ts)
alike_at is js ns t ts s = ap (λ o. choose o (length (t ∷ ts)) (nat_le 257 (depth (nest t.kind ts ns))) (λ js. run js (nest t.kind ts ns) ts)) s

-- ---- a chain behind its first operand

module _ (x : Form) (ts us : List Token) (xs : Forms) (a : TookOperands Star 0 ts us xs) where
  pub star_stop : (e : Stop) → Stops (Operands Hash) 0 us e → NoRest ts e
  star_stop e s = λ is. agrees e _ _ (a.runs (Operands Hash ∷ Operands Plus ∷ is) [] refl) (s (Operands Plus ∷ is) [] refl)

  module _ (p : Form) (e : p ≡ chain Star x xs) (vs : List Token) (ys : Forms) (b : TookOperands Hash 0 us vs ys) where
    pub hash_stop : (f : Stop) → Stops (Operands Plus) 0 vs f → NoRest ts f
    hash_stop f s = λ is. agrees f _ _ (a.runs (Operands Hash ∷ Operands Plus ∷ is) [] refl ∙ b.runs (Operands Plus ∷ is) [] refl) (s is [] refl)

    pub rest_took : (q : Form) → q ≡ chain Hash p ys → (ws : List Token) (zs : Forms) → TookOperands Plus 0 vs ws zs → (y : Form) → y ≡ chain Plus q zs → TookRest x ts ws y
    rest_took q h ws zs c y k = record {
      reads = λ os r. a_chain vs q zs (a_chain us p ys (a_chain ts x xs r a.reads (ap one e)) b.reads (ap one h)) c.reads (ap one k);
      runs = λ is. a.runs (Operands Hash ∷ Operands Plus ∷ is) [] refl ∙ b.runs (Operands Plus ∷ is) [] refl ∙ c.runs is [] refl;
    }

pub rest_stop : (ts : List Token) (e : Stop) → Stops (Operands Star) 0 ts e → NoRest ts e
rest_stop ts e s = λ is. s (Operands Hash ∷ Operands Plus ∷ is) [] refl

pub rest_memory : (ts : List Token) (e : Stop) → e ≡ Memory → NoRest ts e
rest_memory ts e h = λ is. subst (λ s. Agrees s (run (chain_rest is) (0 ∷ []) ts)) (sym h) tt

-- ---- an equation

only_equals : (is : List Item) → Only kind.Equals (Equals ∷ is)
only_equals is = record { no_end = refl; others = others }
  where
    others : (j : Kind) → (j ≡ kind.Equals → ⊥) → step (Equals ∷ is) j ≡ None
    others kind.Equals n = absurd (n refl)
    others _ n = refl

pub no_equals : (ts : List Token) (e : Stop) → NotAhead kind.Equals ts e → NoEquation ts e
no_equals ts e n = λ is. n (Equals ∷ Chain Plus ∷ is) (0 ∷ []) (only_equals (Chain Plus ∷ is))

module _ (all at : ℕ) (ts us : List Token) (b : AheadOf kind.Equals all at ts us) where
  to_right : (is : List Item) → run (Equals ∷ Chain Plus ∷ is) (0 ∷ []) ts ≡ run (Chain Plus ∷ is) (0 ∷ []) us
  to_right is = ap (run (Equals ∷ Chain Plus ∷ is) (0 ∷ [])) b.ahead.first ∙ taken (Equals ∷ Chain Plus ∷ is) (Chain Plus ∷ is) (0 ∷ []) (0 ∷ []) kind.Equals b.token us b.is refl refl (omega arith)

  pub right_stops : (e : Stop) → Stops (Chain Plus) 0 us e → NoEquation ts e
  right_stops e s = λ is. agrees e _ _ (to_right is) (s is [] refl)

  pub equation_took : (x : Form) (vs : List Token) (y : Form) → TookChain Plus 0 us vs y → TookEquation x ts vs (AnEqual x y)
  equation_took x vs y s = record {
    reads = λ os r. equals b.token us (subst (λ ps. Reads (sym.Chain Plus) os ps (one x)) b.ahead.first r) b.is s.reads;
    runs = λ is. to_right is ∙ s.runs is [] refl;
  }

-- ---- a goal

abbrev NotAtom : Kind → Type 0
NotAtom k = (k ≡ kind.Atom → ⊥) × (k ≡ kind.Quoted → ⊥)

as_chain : (is : List Item) (k : Kind) → NotAtom k → step (Goal ∷ is) k ≡ step (Chain Plus ∷ Equals ∷ Chain Plus ∷ is) k
as_chain is kind.Atom n = absurd (n.0 refl)
as_chain is kind.Quoted n = absurd (n.1 refl)
as_chain is kind.Tilde n = refl
as_chain is kind.Variable n = refl
as_chain is (kind.Integer z) n = refl
as_chain is kind.LeftParen n = refl
as_chain is kind.LeftBracket n = refl
as_chain is _ n = refl

pub goal_ended : (ts : List Token) → ts ≡ [] → NoGoal ts Ended
goal_ended ts e = λ is. ap (run (Goal ∷ is) (0 ∷ [])) e

module _ (all at : ℕ) (ts us : List Token) (t : Token) (a : Ahead all at ts t us) where
  module _ (n : (t.kind ≡ kind.Atom → ⊥) × (t.kind ≡ kind.Quoted → ⊥)) where
    to_chain : (is : List Item) → run (Goal ∷ is) (0 ∷ []) ts ≡ run (Chain Plus ∷ Equals ∷ Chain Plus ∷ is) (0 ∷ []) ts
    to_chain is = ap (run (Goal ∷ is) (0 ∷ [])) a.first ∙ alike_at (Goal ∷ is) (Chain Plus ∷ Equals ∷ Chain Plus ∷ is) (0 ∷ []) t us (as_chain is t.kind n) ∙ ap (run (Chain Plus ∷ Equals ∷ Chain Plus ∷ is) (0 ∷ [])) (sym a.first)

    pub left_stops : (e : Stop) → Stops (Chain Plus) 0 ts e → NoGoal ts e
    left_stops e s = λ is. agrees e _ _ (to_chain is) (s (Equals ∷ Chain Plus ∷ is) [] refl)

    pub chain_goal_stops : (vs : List Token) (x : Form) → TookChain Plus 0 ts vs x → (e : Stop) → NoEquation vs e → NoGoal ts e
    chain_goal_stops vs x b e s = λ is. agrees e _ _ (to_chain is ∙ b.runs (Equals ∷ Chain Plus ∷ is) [] refl) (s is)

    pub chain_goal_took : (vs ws : List Token) (x : Form) (g : FormGoal) → TookChain Plus 0 ts vs x → TookEquation x vs ws g → TookGoal ts ws g
    chain_goal_took vs ws x g b s = record { reads = s.reads ts b.reads; runs = λ is. to_chain is ∙ b.runs (Equals ∷ Chain Plus ∷ is) [] refl ∙ s.runs is }

  to_call : IsAtom t → (is : List Item) → run (Goal ∷ is) (0 ∷ []) ts ≡ run (Args ∷ GoalTail ∷ is) (nest kind.Atom us (0 ∷ [])) us
  to_call (inl k) is = ap (run (Goal ∷ is) (0 ∷ [])) a.first ∙ taken (Goal ∷ is) (Args ∷ GoalTail ∷ is) (0 ∷ []) (nest kind.Atom us (0 ∷ [])) kind.Atom t us k refl refl (let g = atom_small us 0 [] in omega arith)
  to_call (inr k) is = ap (run (Goal ∷ is) (0 ∷ [])) a.first ∙ taken (Goal ∷ is) (Args ∷ GoalTail ∷ is) (0 ∷ []) (nest kind.Atom us (0 ∷ [])) kind.Quoted t us k refl refl (let g = atom_small us 0 [] in omega arith)

  module _ (k : IsAtom t) where
    pub call_goal_stops : (e : Stop) → NoCall 0 us e → NoGoal ts e
    call_goal_stops e s = λ is. agrees e _ _ (to_call k is) (s (GoalTail ∷ is) 0 [] refl)

    module _ (vs : List Token) (x : Form) (s : TookCall 0 t us vs x) where
      to_tail : (is : List Item) → run (Goal ∷ is) (0 ∷ []) ts ≡ run (GoalTail ∷ is) (0 ∷ []) vs
      to_tail is = to_call k is ∙ s.runs (GoalTail ∷ is) 0 [] refl

      pub call_goal_took : tail_next vs ≡ false → TookGoal ts vs (ACall x)
      call_goal_took n = record { reads = calls (subst (λ os. Reads sym.Call os vs (one x)) (sym a.first) s.reads); runs = λ is. to_tail is ∙ skips is vs n }
        where
          skip : (is : List Item) (l : Token) (os : List Token) (k : Kind) → tail_next (record l { kind = k } ∷ os) ≡ false → step (GoalTail ∷ is) k ≡ step is k
          skip is l os kind.Star n = absurd (cc)
          skip is l os kind.Hash n = absurd (cc)
          skip is l os kind.Plus n = absurd (cc)
          skip is l os kind.Equals n = absurd (cc)
          skip is l os _ n = refl

          skips : (is : List Item) (os : List Token) → tail_next os ≡ false → run (GoalTail ∷ is) (0 ∷ []) os ≡ run is (0 ∷ []) os
          skips is [] n = refl
          skips is (l ∷ os) n = alike_at (GoalTail ∷ is) is (0 ∷ []) l os (skip is l os l.kind n)

      module _ (n : tail_next vs ≡ true) where
        to_rest : (is : List Item) → run (Goal ∷ is) (0 ∷ []) ts ≡ run (chain_rest (Equals ∷ Chain Plus ∷ is)) (0 ∷ []) vs
        to_rest is = to_tail is ∙ goes is vs n
          where
            go : (is : List Item) (l : Token) (os : List Token) (k : Kind) → tail_next (record l { kind = k } ∷ os) ≡ true → step (GoalTail ∷ is) k ≡ step (chain_rest (Equals ∷ Chain Plus ∷ is)) k
            go is l os kind.Star n = refl
            go is l os kind.Hash n = refl
            go is l os kind.Plus n = refl
            go is l os kind.Equals n = refl
            go is l os _ n = absurd (cc)

            goes : (is : List Item) (os : List Token) → tail_next os ≡ true → run (GoalTail ∷ is) (0 ∷ []) os ≡ run (chain_rest (Equals ∷ Chain Plus ∷ is)) (0 ∷ []) os
            goes is [] n = absurd (cc)
            goes is (l ∷ os) n = alike_at (GoalTail ∷ is) (chain_rest (Equals ∷ Chain Plus ∷ is)) (0 ∷ []) l os (go is l os l.kind n)

        pub tail_stops : (e : Stop) → NoRest vs e → NoGoal ts e
        tail_stops e r = λ is. agrees e _ _ (to_rest is) (r (Equals ∷ Chain Plus ∷ is))

        module _ (ws : List Token) (y : Form) (r : TookRest x vs ws y) where
          pub equation_stops : (e : Stop) → NoEquation ws e → NoGoal ts e
          equation_stops e q = λ is. agrees e _ _ (to_rest is ∙ r.runs (Equals ∷ Chain Plus ∷ is)) (q is)

          pub tail_took : (zs : List Token) (g : FormGoal) → TookEquation y ws zs g → TookGoal ts zs g
          tail_took zs g q = record {
            reads = q.reads ts (r.reads ts (subst (λ os. Reads sym.Unary os vs (one x)) (sym a.first) (a_prim (a_call s.reads))));
            runs = λ is. to_rest is ∙ r.runs (Equals ∷ Chain Plus ∷ is) ∙ q.runs is;
          }

-- ---- goals

pub record GoalsSoFar (ts us : List Token) (fs : List FormGoal) : Type 0 where
  pub reads : (vs : List Token) (gs : List FormGoal) → ReadsGoals us vs gs → ReadsGoals ts vs (fs ++ gs)
  pub runs : (is : List Item) → run (Goal ∷ MoreGoals ∷ is) (0 ∷ []) ts ≡ run (Goal ∷ MoreGoals ∷ is) (0 ∷ []) us

pub goals_none : (ts : List Token) (fs : List FormGoal) → fs ≡ [] → GoalsSoFar ts ts fs
goals_none ts fs e = subst (λ gs. GoalsSoFar ts ts gs) (sym e) (record { reads = λ vs gs r. r; runs = λ is. refl })

module _ (ts us : List Token) (fs : List FormGoal) (so : GoalsSoFar ts us fs) where
  pub goals_stop : (e : Stop) → NoGoal us e → NoGoals ts e
  goals_stop e s = λ is. agrees e _ _ (so.runs is) (s (MoreGoals ∷ is))

  module _ (vs : List Token) (g : FormGoal) (s : TookGoal us vs g) where
    to_more : (is : List Item) → run (Goal ∷ MoreGoals ∷ is) (0 ∷ []) ts ≡ run (MoreGoals ∷ is) (0 ∷ []) vs
    to_more is = so.runs is ∙ s.runs (MoreGoals ∷ is)

    pub goals_ended : vs ≡ [] → NoGoals ts Ended
    goals_ended e = λ is. to_more is ∙ ap (run (MoreGoals ∷ is) (0 ∷ [])) e

    module _ (all after : ℕ) (t : Token) (ws : List Token) (b : Ahead all after vs t ws) where
      pub goals_wrong : (t.kind ≡ kind.Comma → ⊥) → (t.kind ≡ kind.Dot → ⊥) → NoGoals ts (Wrong (all - after))
      goals_wrong n m = λ is. to_more is ∙ ap (run (MoreGoals ∷ is) (0 ∷ [])) b.first ∙ refused (MoreGoals ∷ is) (0 ∷ []) t ws (neither is t.kind n m) ∙ ap out.Wrong (left_is all after vs ws t b)
        where
          neither : (is : List Item) (k : Kind) → (k ≡ kind.Comma → ⊥) → (k ≡ kind.Dot → ⊥) → step (MoreGoals ∷ is) k ≡ None
          neither is kind.Comma n m = absurd (n refl)
          neither is kind.Dot n m = absurd (m refl)
          neither is _ n m = refl

      pub goals_more : t.kind ≡ kind.Comma → (hs : List FormGoal) → hs ≡ fs ++ g ∷ [] → GoalsSoFar ts ws hs
      goals_more k hs e = subst (λ hs. GoalsSoFar ts ws hs) (sym e) (record {
        reads = λ os gs r. subst (λ hs. ReadsGoals ts os hs) (sym (append_assoc fs (g ∷ []) gs)) (so.reads os (g ∷ gs) (more_goals t ws (subst (λ ps. ReadsGoal us ps g) b.first s.reads) k r));
        runs = λ is. to_more is ∙ ap (run (MoreGoals ∷ is) (0 ∷ [])) b.first ∙ taken (MoreGoals ∷ is) (Goal ∷ MoreGoals ∷ is) (0 ∷ []) (0 ∷ []) kind.Comma t ws k refl refl (omega arith);
      })

      pub goals_took : t.kind ≡ kind.Dot → (hs : List FormGoal) → hs ≡ fs ++ g ∷ [] → TookGoals ts ws hs
      goals_took k hs e = subst (λ hs. TookGoals ts ws hs) (sym e) (record {
        reads = so.reads ws (g ∷ []) (last_goal t (subst (λ ps. ReadsGoal us ps g) b.first s.reads) k);
        runs = λ is. to_more is ∙ ap (run (MoreGoals ∷ is) (0 ∷ [])) b.first ∙ taken (MoreGoals ∷ is) is (0 ∷ []) (0 ∷ []) kind.Dot t ws k refl refl (omega arith);
      })
