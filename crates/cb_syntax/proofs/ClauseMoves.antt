-- What each exit of the reading functions adds, over plain tokens: clauses and queries.
use Rattle.std.proofs.Common.{◌≡◌, ℕ, ◌-◌, Bool, true, false, inl, inr, List, [], ◌∷◌, ◌++◌, None, refl, sym, ◌∙◌, ap, subst, arith, append_assoc, append-nil}
use Rattle.cb_model.specs.declared.Kind.{Kind}
use Rattle.cb_model.specs.declared.Kind.TheVariants as kind
use Rattle.cb_model.specs.Tokens.{Token, name_of}
use Rattle.cb_model.specs.Grammar as sym
use Rattle.cb_model.specs.Grammar.{Plus, Form, Forms, one, IsAtom, nest, depth, Reads, FormGoal, ReadsGoals, FormClause, Directive, Rule, ReadsClause, directive, fact, rule, FormQuery, ReadsQuery, a_query, ReadsAll, no_more, one_more}
use Rattle.cb_syntax.specs.Machine.{Item, Chain, Commas, Args, End, AnAtom, Goal, MoreGoals, ClauseTail, Clauses, Queries, Outcome, step, choose, run, can_end}
use Rattle.cb_syntax.specs.Machine as out
use Rattle.cb_syntax.specs.declared.read.Stop.{Stop}
use Rattle.cb_syntax.specs.declared.read.Stop.TheVariants.{Ended, Wrong}
use Rattle.cb_syntax.specs.Answers.{Agrees, IsText, NoText}
use Rattle.cb_syntax.specs.Steps.{TookTerms, NoTerms, TookCall, NoCall, Ahead, AheadOf, Only, NotAhead}
use Rattle.cb_syntax.specs.Pieces.{TookGoals, NoGoals, TookTail, NoTail, TookClause, NoClause, TookQuery, NoQuery}
use Rattle.cb_syntax.proofs.Moves.{taken, refused, agrees, left_is, atom_small}
use Rattle.cb_syntax.proofs.GoalMoves.{alike_at}
use Rattle.cb_syntax.proofs.Whole.{Starts, stopped, whole}

only_dot : (is : List Item) → Only kind.Dot (End ∷ is)
only_dot is = record { no_end = refl; others = others }
  where
    others : (j : Kind) → (j ≡ kind.Dot → ⊥) → step (End ∷ is) j ≡ None
    others kind.Dot n = absurd (n refl)
    others _ n = refl

-- ---- directives

module _ (all at : ℕ) (ts us : List Token) (t : Token) (a : Ahead all at ts t us) (k : t.kind ≡ kind.Neck) where
  to_word : run (Clauses ∷ []) (0 ∷ []) ts ≡ run (AnAtom ∷ Chain Plus ∷ Commas ∷ End ∷ Clauses ∷ []) (0 ∷ []) us
  to_word = ap (run (Clauses ∷ []) (0 ∷ [])) a.first ∙ taken (Clauses ∷ []) (AnAtom ∷ Chain Plus ∷ Commas ∷ End ∷ Clauses ∷ []) (0 ∷ []) (0 ∷ []) kind.Neck t us k refl refl (omega arith)

  pub word_ended : us ≡ [] → NoClause ts Ended
  word_ended e = to_word ∙ ap (run (AnAtom ∷ Chain Plus ∷ Commas ∷ End ∷ Clauses ∷ []) (0 ∷ [])) e

  module _ (after : ℕ) (w : Token) (vs : List Token) (b : Ahead all after us w vs) where
    pub word_wrong : (w.kind ≡ kind.Atom → ⊥) × (w.kind ≡ kind.Quoted → ⊥) → NoClause ts (Wrong (all - after))
    word_wrong n = to_word ∙ ap (run (AnAtom ∷ Chain Plus ∷ Commas ∷ End ∷ Clauses ∷ []) (0 ∷ [])) b.first ∙
        refused (AnAtom ∷ Chain Plus ∷ Commas ∷ End ∷ Clauses ∷ []) (0 ∷ []) w vs (neither w.kind n) ∙ ap out.Wrong (left_is all after us vs w b)
      where
        neither : (j : Kind) → (j ≡ kind.Atom → ⊥) × (j ≡ kind.Quoted → ⊥) → step (AnAtom ∷ Chain Plus ∷ Commas ∷ End ∷ Clauses ∷ []) j ≡ None
        neither kind.Atom n = absurd (n.0 refl)
        neither kind.Quoted n = absurd (n.1 refl)
        neither _ n = refl

    module _ (i : IsAtom w) where
      atom_nest : (j : Kind) (l : Token) (os : List Token) → run (Chain Plus ∷ Commas ∷ End ∷ Clauses ∷ []) (nest kind.Atom vs (0 ∷ [])) vs ≡ run (Chain Plus ∷ Commas ∷ End ∷ Clauses ∷ []) (0 ∷ []) vs
      atom_nest j l os = ap (λ ns. run (Chain Plus ∷ Commas ∷ End ∷ Clauses ∷ []) ns vs) (same vs)
        where
          by : (k : Kind) (s : Token) (zs : List Token) → nest kind.Atom (record s { kind = k } ∷ zs) (0 ∷ []) ≡ 0 ∷ []
          by kind.LeftParen s zs = refl
          by _ s zs = refl

          same : (zs : List Token) → nest kind.Atom zs (0 ∷ []) ≡ 0 ∷ []
          same [] = refl
          same (s ∷ zs) = by s.kind s zs

      to_terms : run (Clauses ∷ []) (0 ∷ []) ts ≡ run (Chain Plus ∷ Commas ∷ End ∷ Clauses ∷ []) (0 ∷ []) vs
      to_terms = to_word ∙ ap (run (AnAtom ∷ Chain Plus ∷ Commas ∷ End ∷ Clauses ∷ []) (0 ∷ [])) b.first ∙ go i ∙ atom_nest w.kind w vs
        where
          go : IsAtom w → run (AnAtom ∷ Chain Plus ∷ Commas ∷ End ∷ Clauses ∷ []) (0 ∷ []) (w ∷ vs) ≡ run (Chain Plus ∷ Commas ∷ End ∷ Clauses ∷ []) (nest kind.Atom vs (0 ∷ [])) vs
          go (inl h) = taken (AnAtom ∷ Chain Plus ∷ Commas ∷ End ∷ Clauses ∷ []) (Chain Plus ∷ Commas ∷ End ∷ Clauses ∷ []) (0 ∷ []) (nest kind.Atom vs (0 ∷ [])) kind.Atom w vs h refl refl (let g = atom_small vs 0 [] in omega arith)
          go (inr h) = taken (AnAtom ∷ Chain Plus ∷ Commas ∷ End ∷ Clauses ∷ []) (Chain Plus ∷ Commas ∷ End ∷ Clauses ∷ []) (0 ∷ []) (nest kind.Atom vs (0 ∷ [])) kind.Quoted w vs h refl refl (let g = atom_small vs 0 [] in omega arith)

      pub args_stop : (e : Stop) → NoTerms 0 vs e → NoClause ts e
      args_stop e s = agrees e _ _ to_terms (s (End ∷ Clauses ∷ []) [] refl)

      module _ (ws : List Token) (xs : Forms) (s : TookTerms 0 vs ws xs) where
        pub directive_open : (e : Stop) → NotAhead kind.Dot ws e → NoClause ts e
        directive_open e r = agrees e _ _ (to_terms ∙ s.runs (End ∷ Clauses ∷ []) [] refl) (r (End ∷ Clauses ∷ []) (0 ∷ []) (only_dot (Clauses ∷ [])))

        pub directive_took : (last : ℕ) (zs : List Token) → AheadOf kind.Dot all last ws zs → TookClause ts zs (Directive t.line (name_of w) xs)
        directive_took last zs d = record {
          reads = subst (λ os. ReadsClause os zs (Directive t.line (name_of w) xs)) (sym (a.first ∙ ap (λ os. t ∷ os) b.first)) (directive d.token k i (subst (λ os. Reads sym.Exprs vs os xs) d.ahead.first s.reads) d.is refl);
          runs = to_terms ∙ s.runs (End ∷ Clauses ∷ []) [] refl ∙ ap (run (End ∷ Clauses ∷ []) (0 ∷ [])) d.ahead.first ∙ taken (End ∷ Clauses ∷ []) (Clauses ∷ []) (0 ∷ []) (0 ∷ []) kind.Dot d.token zs d.is refl refl (omega arith);
        }

-- ---- facts and rules

module _ (all at : ℕ) (ts us : List Token) (t : Token) (a : Ahead all at ts t us) (i : IsAtom t) where
  to_head : run (Clauses ∷ []) (0 ∷ []) ts ≡ run (Args ∷ ClauseTail ∷ Clauses ∷ []) (nest kind.Atom us (0 ∷ [])) us
  to_head = ap (run (Clauses ∷ []) (0 ∷ [])) a.first ∙ go i
    where
      go : IsAtom t → run (Clauses ∷ []) (0 ∷ []) (t ∷ us) ≡ run (Args ∷ ClauseTail ∷ Clauses ∷ []) (nest kind.Atom us (0 ∷ [])) us
      go (inl h) = taken (Clauses ∷ []) (Args ∷ ClauseTail ∷ Clauses ∷ []) (0 ∷ []) (nest kind.Atom us (0 ∷ [])) kind.Atom t us h refl refl (let g = atom_small us 0 [] in omega arith)
      go (inr h) = taken (Clauses ∷ []) (Args ∷ ClauseTail ∷ Clauses ∷ []) (0 ∷ []) (nest kind.Atom us (0 ∷ [])) kind.Quoted t us h refl refl (let g = atom_small us 0 [] in omega arith)

  pub head_stops : (e : Stop) → NoCall 0 us e → NoClause ts e
  head_stops e s = agrees e _ _ to_head (s (ClauseTail ∷ Clauses ∷ []) 0 [] refl)

  module _ (vs : List Token) (x : Form) (s : TookCall 0 t us vs x) where
    to_tail : run (Clauses ∷ []) (0 ∷ []) ts ≡ run (ClauseTail ∷ Clauses ∷ []) (0 ∷ []) vs
    to_tail = to_head ∙ s.runs (ClauseTail ∷ Clauses ∷ []) 0 [] refl

    pub tail_stops : (e : Stop) → NoTail vs e → NoClause ts e
    tail_stops e r = agrees e _ _ to_tail r

    pub rule_took : (zs : List Token) (b : Bool) (gs : List FormGoal) → TookTail vs zs b gs → TookClause ts zs (Rule t.line x b gs)
    rule_took zs b gs r = record {
      reads = subst (λ os. ReadsClause os zs (Rule t.line x b gs)) (sym a.first) (r.reads t us x s.reads);
      runs = to_tail ∙ r.runs;
    }

-- what follows a head
pub tail_ended : (vs : List Token) → vs ≡ [] → NoTail vs Ended
tail_ended vs e = ap (run (ClauseTail ∷ Clauses ∷ []) (0 ∷ [])) e

module _ (all after : ℕ) (vs : List Token) (n : Token) (ws : List Token) (b : Ahead all after vs n ws) where
  pub tail_wrong : (n.kind ≡ kind.Dot → ⊥) → (n.kind ≡ kind.Neck → ⊥) → NoTail vs (Wrong (all - after))
  tail_wrong p q = ap (run (ClauseTail ∷ Clauses ∷ []) (0 ∷ [])) b.first ∙ refused (ClauseTail ∷ Clauses ∷ []) (0 ∷ []) n ws (neither n.kind p q) ∙ ap out.Wrong (left_is all after vs ws n b)
    where
      neither : (j : Kind) → (j ≡ kind.Dot → ⊥) → (j ≡ kind.Neck → ⊥) → step (ClauseTail ∷ Clauses ∷ []) j ≡ None
      neither kind.Dot p q = absurd (p refl)
      neither kind.Neck p q = absurd (q refl)
      neither _ p q = refl

  head_reads : (t : Token) (os : List Token) (x : Form) → Reads sym.Call (t ∷ os) vs (one x) → Reads sym.Call (t ∷ os) (n ∷ ws) (one x)
  head_reads t os x h = subst (λ us. Reads sym.Call (t ∷ os) us (one x)) b.first h

  pub dot_took : n.kind ≡ kind.Dot → (gs : List FormGoal) → gs ≡ [] → TookTail vs ws false gs
  dot_took k gs e = subst (TookTail vs ws false) (sym e) (record {
    reads = λ t os x h. fact n (head_reads t os x h) k refl;
    runs = ap (run (ClauseTail ∷ Clauses ∷ []) (0 ∷ [])) b.first ∙ taken (ClauseTail ∷ Clauses ∷ []) (Clauses ∷ []) (0 ∷ []) (0 ∷ []) kind.Dot n ws k refl refl (omega arith);
  })

  module _ (k : n.kind ≡ kind.Neck) where
    to_body : run (ClauseTail ∷ Clauses ∷ []) (0 ∷ []) vs ≡ run (Goal ∷ MoreGoals ∷ Clauses ∷ []) (0 ∷ []) ws
    to_body = ap (run (ClauseTail ∷ Clauses ∷ []) (0 ∷ [])) b.first ∙ taken (ClauseTail ∷ Clauses ∷ []) (Goal ∷ MoreGoals ∷ Clauses ∷ []) (0 ∷ []) (0 ∷ []) kind.Neck n ws k refl refl (omega arith)

    pub body_stops : (e : Stop) → NoGoals ws e → NoTail vs e
    body_stops e r = agrees e _ _ to_body (r (Clauses ∷ []))

    pub body_took : (zs : List Token) (gs : List FormGoal) → TookGoals ws zs gs → TookTail vs zs true gs
    body_took zs gs r = record {
      reads = λ t os x h. rule n ws (head_reads t os x h) k r.reads refl;
      runs = to_body ∙ r.runs (Clauses ∷ []);
    }

pub clause_wrong : (all at : ℕ) (ts us : List Token) (t : Token) → Ahead all at ts t us → (t.kind ≡ kind.Neck → ⊥) → (t.kind ≡ kind.Atom → ⊥) → (t.kind ≡ kind.Quoted → ⊥) → NoClause ts (Wrong (all - at))
clause_wrong all at ts us t a p q r = ap (run (Clauses ∷ []) (0 ∷ [])) a.first ∙ refused (Clauses ∷ []) (0 ∷ []) t us (none t.kind p q r) ∙ ap out.Wrong (left_is all at ts us t a)
  where
    none : (j : Kind) → (j ≡ kind.Neck → ⊥) → (j ≡ kind.Atom → ⊥) → (j ≡ kind.Quoted → ⊥) → step (Clauses ∷ []) j ≡ None
    none kind.Neck p q r = absurd (p refl)
    none kind.Atom p q r = absurd (q refl)
    none kind.Quoted p q r = absurd (r refl)
    none _ p q r = refl

-- ---- queries

query_steps : (k : Kind) → step (Queries ∷ []) k ≡ step (Goal ∷ MoreGoals ∷ Queries ∷ []) k
query_steps kind.Tilde = refl
query_steps kind.Variable = refl
query_steps (kind.Integer z) = refl
query_steps kind.Atom = refl
query_steps kind.Quoted = refl
query_steps kind.LeftParen = refl
query_steps kind.LeftBracket = refl
query_steps _ = refl

module _ (all at : ℕ) (ts us : List Token) (t : Token) (a : Ahead all at ts t us) where
  to_goals : run (Queries ∷ []) (0 ∷ []) ts ≡ run (Goal ∷ MoreGoals ∷ Queries ∷ []) (0 ∷ []) ts
  to_goals = ap (run (Queries ∷ []) (0 ∷ [])) a.first ∙ alike_at (Queries ∷ []) (Goal ∷ MoreGoals ∷ Queries ∷ []) (0 ∷ []) t us (query_steps t.kind) ∙ ap (run (Goal ∷ MoreGoals ∷ Queries ∷ []) (0 ∷ [])) (sym a.first)

  pub query_stops : (e : Stop) → NoGoals ts e → NoQuery ts e
  query_stops e r = agrees e _ _ to_goals (r (Queries ∷ []))

  pub query_took : (vs : List Token) (gs : List FormGoal) → TookGoals ts vs gs → TookQuery ts vs (record { line = t.line; goals = gs })
  query_took vs gs r = record {
    reads = subst (λ os. ReadsQuery os vs (record { line = t.line; goals = gs })) (sym a.first) (a_query (subst (λ os. ReadsGoals os vs gs) a.first r.reads) refl);
    runs = to_goals ∙ r.runs (Queries ∷ []);
  }

-- ---- all pieces

pub record PiecesSoFar {A : Type 0} (R : List Token → List Token → A → Type 0) (is : List Item) (ts us : List Token) (fs : List A) : Type 0 where
  pub reads : (ys : List A) → ReadsAll R us ys → ReadsAll R ts (fs ++ ys)
  pub runs : run is (0 ∷ []) ts ≡ run is (0 ∷ []) us

module _ (A : Type 0) (R : List Token → List Token → A → Type 0) (is : List Item) (begin : Starts R is) where
  pub pieces_none : (ts : List Token) (fs : List A) → fs ≡ [] → PiecesSoFar R is ts ts fs
  pieces_none ts fs e = subst (λ gs. PiecesSoFar R is ts ts gs) (sym e) (record { reads = λ ys r. r; runs = refl })

  pub pieces_more : (ts us vs : List Token) (fs : List A) (x : A) (gs : List A) → PiecesSoFar R is ts us fs → R us vs x → run is (0 ∷ []) us ≡ run is (0 ∷ []) vs → gs ≡ fs ++ x ∷ [] → PiecesSoFar R is ts vs gs
  pieces_more ts us vs fs x gs so r s e = subst (λ hs. PiecesSoFar R is ts vs hs) (sym e) (record {
    reads = λ ys m. subst (λ zs. ReadsAll R ts zs) (sym (append_assoc fs (x ∷ []) ys)) (so.reads (x ∷ ys) (one_more vs r m));
    runs = so.runs ∙ s;
  })

  pub pieces_stop : (ts us : List Token) (fs : List A) (e : Stop) → PiecesSoFar R is ts us fs → Agrees e (run is (0 ∷ []) us) → NoText R ts e
  pieces_stop ts us fs e so s = stopped A R is begin ts e (agrees e _ _ so.runs s)

  pub pieces_done : (ts us : List Token) (fs : List A) → PiecesSoFar R is ts us fs → us ≡ [] → run is (0 ∷ []) [] ≡ out.Whole → IsText R ts fs
  pieces_done ts us fs so e w =
      whole A R is begin ts fs (subst (λ zs. ReadsAll R ts zs) (append-nil fs) (so.reads [] (subst (λ os. ReadsAll R os []) (sym e) no_more))) (so.runs ∙ ap (run is (0 ∷ [])) e ∙ w)
