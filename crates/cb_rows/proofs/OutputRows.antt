-- A whole run, from the bytes of the file and the input to the text.
use Rattle.std.proofs.Common.{◌≡◌, ◌<◌, ℕ, zero, suc, Bool, true, false, List, [], ◌∷◌, refl, sym, ◌∙◌, ap, subst, codes, arith, rules, inl, inr, pos, lit<, lit≤}
use Rattle.std.specs.Prelude.{Option, Some, None, All, AllPairs, slice_get, Contains, sum, map}
use Rattle.std.specs.Fmt.{digits}
use Rattle.std.specs.List.{list_all}
use Rattle.cb_model.specs.declared.Sort.{Sort}
use Rattle.cb_model.specs.declared.Sort.TheVariants as sort
use Rattle.cb_model.specs.declared.Kind.TheVariants as kind
use Rattle.cb_model.specs.declared.Expr.TheVariants as expr
use Rattle.cb_model.specs.declared.Tree.{Tree}
use Rattle.cb_model.specs.declared.Tree.TheVariants as tree
use Rattle.cb_model.specs.declared.Outcome.TheVariants as outcome
use Rattle.cb_model.specs.Text.{lines_text}
use Rattle.cb_model.specs.Bits.{Bits}
use Rattle.cb_model.specs.Values.{Valuation}
use Rattle.cb_model.specs.Equations.{Meets}
use Rattle.cb_model.specs.Tokens.{Token, Lexes, ended, layout, token, byte, Byte}
use Rattle.cb_model.specs.Grammar.{Form, Integer, Variable, Name, Last, one, Plus, a_prim, an_integer, a_variable, a_call, an_atom, a_compound, exprs, no_comma, FormClause, FormQuery, FormGoal, AnEqual, ReadsClause, directive, fact, equals, calls, last_goal, more_goals, ReadsQuery, a_query, ReadsAll, no_more, one_more, CanGoOn, nestings, IsReading, whole, lexed, unfinished, Whole, Lexed, Unfinished}
use Rattle.cb_model.specs.Bits.{none}
use Rattle.cb_model.specs.Commands.{Max, Only}
use Rattle.cb_model.specs.Derivation.{Whole as Ended, Run, Try, Made, Printed, Answered, Becomes, Adds, here, on, SoFar, Branch, extended, head_item, first_branch}
use Rattle.cb_model.specs.Room.{room_with, expr_size, expr_size_step, tree_size, tree_size_step}
use Rattle.cb_model.specs.declared.Expr.TheOpen.{Expr-F}
use Rattle.cb_model.specs.declared.Expr.TheFolds.{fold-roll-Expr}
use Rattle.cb_model.specs.declared.Tree.TheOpen.{Tree-F}
use Rattle.cb_model.specs.declared.Tree.TheFolds.{fold-roll-Tree}
use Rattle.cb_model.specs.Answers.{IsShape, Gives, Gen}
use Rattle.cb_model.specs.Line.{IsLine, told}
use Rattle.cb_model.specs.Sorts.{Body, Marked, at_place, by_form, from_side, to_side, IsSide, left, right, Subject, Var, Equation, Clash, two_marks, wrong_place, wrong_side, bit_at_bus, bit_of_bus, all_places, form_sort}
use Rattle.cb_model.specs.Loading.{BodyRefusal, body_of, query_body, RulesRefusal, no_sorts, more_sorts, a_call as the_call, an_equal, no_goals, more_goals as goals_more, skips_directive, a_clause, no_clauses, IsClause}
use Rattle.cb_model.specs.Loading as load
use Rattle.cb_model.specs.Facts.{no_facts, no_fact}
use Rattle.cb_model.specs.Output.{IsLoaded, FileRefused, unread, QueriesRefusal, InputRefused, QuerySays, all, few_adding, more_lines, no_lines, QueriesSay, no_queries, more_queries, IsQuery, Output, OutputBegins, begins}
use Rattle.cb_model.specs.Output as out
use Rattle.cb_laws.proofs.Values.{expr_values, tree_values}
use Rattle.cb_laws.proofs.Tables.{zero_fits, bits_equal}
use Rattle.cb_model.specs.Verdicts.{stopped}
use Rattle.cb_laws.proofs.Shapes.{shape_values, text_values, size_values}
use Rattle.cb_laws.proofs.Fixed.{first_bit, picks_fixed}
use Rattle.cb_rows.specs.TryRow as try
use Rattle.cb_rows.proofs.TryRow as try_proof
use Rattle.cb_rows.proofs.LexRow.{longest, no_token}
use Rattle.cb_rows.proofs.TextRows.{shallow, alone, no_deep, not_open}
use Rattle.cb_rows.proofs.CircuitRows as circuit_rows
use Rattle.cb_rows.proofs.VerifyRow as verify_row
use Rattle.cb_rows.specs.TextExamples.{token_at}
use Rattle.cb_rows.specs.OutputExamples.{file, bit_clause, clauses, p_bool, loaded, input, goals, names, run_words, OutputExamples}

-- ---- the file's text

abbrev file_tokens : List Token
file_tokens =
    token_at kind.Neck (codes ":-") 0 2 1 ∷ token_at kind.Atom (codes "sorts") 3 8 1 ∷ token_at kind.Atom (codes "p") 9 10 1 ∷ token_at kind.LeftParen (codes "(") 10 11 1 ∷
    token_at kind.Atom (codes "bool") 11 15 1 ∷ token_at kind.RightParen (codes ")") 15 16 1 ∷ token_at kind.Dot (codes ".") 16 17 1 ∷
    token_at kind.Atom (codes "p") 18 19 1 ∷ token_at kind.LeftParen (codes "(") 19 20 1 ∷ token_at (kind.Integer (pos 0)) (codes "0") 20 21 1 ∷
    token_at kind.RightParen (codes ")") 21 22 1 ∷ token_at kind.Dot (codes ".") 22 23 1 ∷
    token_at kind.Atom (codes "p") 24 25 1 ∷ token_at kind.LeftParen (codes "(") 25 26 1 ∷ token_at (kind.Integer (pos 1)) (codes "1") 26 27 1 ∷
    token_at kind.RightParen (codes ")") 27 28 1 ∷ token_at kind.Dot (codes ".") 28 29 1 ∷ []

one_fits : Rattle.std.specs.Prelude.FitsSigned Rattle.std.specs.Int.w64 (pos 1)
one_fits = search rules

file_lexed : Lexes 0 1 file file_tokens None
file_lexed =
    token 2 kind.Neck _ (longest _ 2 _ (omega arith) refl refl) tt refl
    (layout refl
    (token 5 kind.Atom _ (longest _ 5 _ (omega arith) refl refl) tt refl
    (layout refl
    (token 1 kind.Atom _ (longest _ 1 _ (omega arith) refl refl) tt refl
    (token 1 kind.LeftParen _ (longest _ 1 _ (omega arith) refl refl) tt refl
    (token 4 kind.Atom _ (longest _ 4 _ (omega arith) refl refl) tt refl
    (token 1 kind.RightParen _ (longest _ 1 _ (omega arith) refl refl) tt refl
    (token 1 kind.Dot _ (longest _ 1 _ (omega arith) refl refl) tt refl
    (layout refl
    (token 1 kind.Atom _ (longest _ 1 _ (omega arith) refl refl) tt refl
    (token 1 kind.LeftParen _ (longest _ 1 _ (omega arith) refl refl) tt refl
    (token 1 (kind.Integer (pos 0)) _ (longest _ 1 _ (omega arith) refl refl) zero_fits refl
    (token 1 kind.RightParen _ (longest _ 1 _ (omega arith) refl refl) tt refl
    (token 1 kind.Dot _ (longest _ 1 _ (omega arith) refl refl) tt refl
    (layout refl
    (token 1 kind.Atom _ (longest _ 1 _ (omega arith) refl refl) tt refl
    (token 1 kind.LeftParen _ (longest _ 1 _ (omega arith) refl refl) tt refl
    (token 1 (kind.Integer (pos 1)) _ (longest _ 1 _ (omega arith) refl refl) one_fits refl
    (token 1 kind.RightParen _ (longest _ 1 _ (omega arith) refl refl) tt refl
    (token 1 kind.Dot _ (longest _ 1 _ (omega arith) refl refl) tt refl ended))))))))))))))))))))

file_read : ReadsAll ReadsClause file_tokens clauses
file_read =
    one_more _ (directive _ refl (inl refl)
    (exprs _ (alone Plus (a_prim (a_call (a_compound _ (one (Name (codes "bool") Last)) (inl refl) refl (exprs _ (alone Plus (a_prim (a_call (an_atom (inl refl) refl)))) no_comma) refl refl)))) no_comma)
    refl refl)
    (one_more _ (fact _ (a_compound _ (one (Integer (pos 0))) (inl refl) refl (exprs _ (alone Plus (a_prim (an_integer refl))) no_comma) refl refl) refl refl)
    (one_more [] (fact _ (a_compound _ (one (Integer (pos 1))) (inl refl) refl (exprs _ (alone Plus (a_prim (an_integer refl))) no_comma) refl refl) refl refl) no_more))

file_whole : IsReading ReadsClause file (Whole clauses)
file_whole = whole file_tokens clauses file_lexed file_read (shallow (nestings (0 ∷ []) file_tokens) refl)

-- ---- the file's sorts

-- a fact with one integer that is a truth value has no clash
module _ (n : ℕ) (no_sort : form_sort [] (Integer (pos n)) ≡ None) where
  abbrev b : Body
  b = body_of (Name (codes "p") (one (Integer (pos n)))) []

  only_place : (s : Sort) (f : Form) → Contains (all_places p_bool b) (s, f) → (s ≡ sort.Bool) × (f ≡ Integer (pos n))
  only_place s f (zero, l, h) = (sym (ap (λ x. x.0) h), sym (ap (λ x. x.1) h))
  only_place s f (suc k, l, h) = absurd (omega arith)

  no_side : (k : ℕ) (f : Form) → IsSide b k f → ⊥
  no_side k f (left g e) = cc
  no_side k f (right g e) = cc

  no_mark : (x : Subject) (s : Sort) → Marked p_bool b x s → ⊥
  no_mark _ s (at_place {x = x} c) = let e = (only_place s (Variable x) c).1 in cc
  no_mark _ s (by_form {k = k} f i e) = no_side k f i
  no_mark _ s (from_side {k = k} x i m) = no_side k (Variable x) i
  no_mark _ s (to_side {x = x} k i m) = no_side k (Variable x) i

  fact_no_clash : Clash p_bool b → ⊥
  fact_no_clash (two_marks x s t m o d) = no_mark x s m
  fact_no_clash (wrong_place f s t c e d) = let h : form_sort [] f ≡ None = ap (form_sort []) (only_place s f c).1 ∙ no_sort in cc
  fact_no_clash (wrong_side k f s t i h e d) = no_side k f i
  fact_no_clash (bit_at_bus f c i) = let h = (only_place sort.Bus f c).0 in cc
  fact_no_clash (bit_of_bus k f i h s) = no_side k f i

pub file_loaded : IsLoaded file loaded
file_loaded = record {
  short = lit≤ tt;
  reading = file_whole;
  declares = refl;
  rules = load.directive (load.passes refl (inr (fact_no_clash 0 refl, refl)) (load.passes refl (inr (fact_no_clash 1 refl, refl)) load.none));
  facts = no_fact refl (no_fact refl (no_fact refl no_facts));
}

-- ---- the query's text

abbrev input_tokens : List Token
input_tokens =
    token_at kind.Atom (codes "p") 0 1 1 ∷ token_at kind.LeftParen (codes "(") 1 2 1 ∷ token_at kind.Variable (codes "X") 2 3 1 ∷ token_at kind.RightParen (codes ")") 3 4 1 ∷
    token_at kind.Comma (codes ",") 4 5 1 ∷ token_at kind.Variable (codes "X") 6 7 1 ∷ token_at kind.Equals (codes "=") 8 9 1 ∷ token_at (kind.Integer (pos 1)) (codes "1") 10 11 1 ∷
    token_at kind.Dot (codes ".") 11 12 1 ∷ []

input_lexed : Lexes 0 1 input input_tokens None
input_lexed =
    token 1 kind.Atom _ (longest _ 1 _ (omega arith) refl refl) tt refl
    (token 1 kind.LeftParen _ (longest _ 1 _ (omega arith) refl refl) tt refl
    (token 1 kind.Variable _ (longest _ 1 _ (omega arith) refl refl) tt refl
    (token 1 kind.RightParen _ (longest _ 1 _ (omega arith) refl refl) tt refl
    (token 1 kind.Comma _ (longest _ 1 _ (omega arith) refl refl) tt refl
    (layout refl
    (token 1 kind.Variable _ (longest _ 1 _ (omega arith) refl refl) tt refl
    (layout refl
    (token 1 kind.Equals _ (longest _ 1 _ (omega arith) refl refl) tt refl
    (layout refl
    (token 1 (kind.Integer (pos 1)) _ (longest _ 1 _ (omega arith) refl refl) one_fits refl
    (token 1 kind.Dot _ (longest _ 1 _ (omega arith) refl refl) tt refl ended)))))))))))

abbrev the_query : FormQuery
the_query = record { line = 1; goals = goals }

input_read : ReadsAll ReadsQuery input_tokens (the_query ∷ [])
input_read =
    one_more [] (a_query (more_goals _ _ (calls (a_compound _ (one (Variable (codes "X"))) (inl refl) refl (exprs _ (alone Plus (a_prim (a_variable refl refl))) no_comma) refl refl)) refl
    (last_goal _ (equals _ _ (alone Plus (a_prim (a_variable refl refl))) refl (alone Plus (a_prim (an_integer refl)))) refl)) refl) no_more

input_whole : IsReading ReadsQuery input (Whole (the_query ∷ []))
input_whole = whole input_tokens (the_query ∷ []) input_lexed input_read (shallow (nestings (0 ∷ []) input_tokens) refl)

-- ---- the query's sorts

abbrev c : Body
c = query_body goals

x_bool : Marked p_bool c (Var (codes "X")) sort.Bool
x_bool = at_place (0, lit< tt, refl)

equation_bool : Marked p_bool c (Equation 1) sort.Bool
equation_bool = from_side (codes "X") (left (Integer (pos 1)) refl) x_bool

query_place : (s : Sort) (f : Form) → Contains (all_places p_bool c) (s, f) → (s ≡ sort.Bool) × (f ≡ Variable (codes "X"))
query_place s f (zero, l, h) = (sym (ap (λ x. x.0) h), sym (ap (λ x. x.1) h))
query_place s f (suc k, l, h) = absurd (omega arith)

abbrev left_of : Option FormGoal → Form
left_of (Some (AnEqual f g)) = f
left_of _ = Variable []

abbrev right_of : Option FormGoal → Form
right_of (Some (AnEqual f g)) = g
right_of _ = Variable []

no_left : (k : ℕ) → form_sort [] (left_of (slice_get c.goals k)) ≡ None
no_left zero = refl
no_left (suc zero) = refl
no_left (suc (suc k)) = refl

no_right : (k : ℕ) → form_sort [] (right_of (slice_get c.goals k)) ≡ None
no_right zero = refl
no_right (suc zero) = refl
no_right (suc (suc k)) = refl

no_form : (k : ℕ) (f : Form) → IsSide c k f → form_sort [] f ≡ None
no_form k f (left g e) = ap (λ o. form_sort [] (left_of o)) (sym e) ∙ no_left k
no_form k f (right g e) = ap (λ o. form_sort [] (right_of o)) (sym e) ∙ no_right k

all_bool : (x : Subject) (s : Sort) → Marked p_bool c x s → s ≡ sort.Bool
all_bool _ s (at_place {x = x} h) = (query_place s (Variable x) h).0
all_bool _ s (by_form {k = k} f i e) = let n = no_form k f i in absurd (cc)
all_bool _ s (from_side x i m) = all_bool (Var x) s m
all_bool _ s (to_side k i m) = all_bool (Equation k) s m

query_no_clash : Clash p_bool c → ⊥
query_no_clash (two_marks x s t m n d) = d (all_bool x s m ∙ sym (all_bool x t n))
query_no_clash (wrong_place f s t h e d) = let n : form_sort [] f ≡ None = ap (form_sort []) (query_place s f h).1 in cc
query_no_clash (wrong_side k f s t i h e d) = let n = no_form k f i in cc
query_no_clash (bit_at_bus f h i) = let e = (query_place sort.Bus f h).0 in cc
query_no_clash (bit_of_bus k f i h (inl m)) = let e = all_bool (Equation k) sort.Bus m in cc
query_no_clash (bit_of_bus k f i h (inr m)) = let e = m.1 in cc

-- ---- the query over the file's program

pub is_query : IsQuery loaded goals try.p try.q names
is_query = record {
  signs = (codes "p", 1) ∷ [];
  program = record {
    every = refl;
    distinct = λ i j d l m. absurd (omega arith);
    constants = refl;
    arguments = refl;
    words = refl;
    demons = refl;
    clauses = skips_directive
        (a_clause refl (record { sorts = no_sorts; pred = refl; head = refl; body = no_goals })
        (a_clause refl (record { sorts = no_sorts; pred = refl; head = refl; body = no_goals }) no_clauses));
    modules = refl;
  };
  goals = goals_more (the_call refl) (goals_more (an_equal sort.Bool (inl equation_bool) refl) no_goals);
  sorts = more_sorts (inl x_bool) no_sorts;
  names_are = refl;
}

-- ---- its answer

abbrev leaf : List Tree
leaf = tree.Leaf (expr.Var 0) ∷ []

is_one : (a : Bits) (v : Valuation) → Meets try.p.world (try.equated expr.One).items a v → v.bits 0 ≡ true
is_one a v m = bits_equal _ _ (simp (tree_values, expr_values) at m.sat.1.0)

one_shape : IsShape try.p.world (try.equated expr.One).items leaf leaf
one_shape = record {
  only_leaves = simp shape_values refl;
  leaf_order = simp shape_values refl;
  open_order = simp shape_values tt;
  covers = λ a v m. (v, (m.sorted, refl));
  free = λ a v o o' m e sorted. (v, (m, e ∙ sym (simp (tree_values, expr_values) refl)));
}

module _ (env : Bits) where
  abbrev R : List Bool → Type 0
  R = Gives try.p.world (try.equated expr.One).items leaf leaf env

  gives_one : R (true ∷ [])
  gives_one =
      let s = try_proof.answers_one env tt in
      let m : Meets try.p.world (try.equated expr.One).items env s.b = record { admitted = tt; sorted = s.sorted; sat = s.sat } in
      record { b = s.b; o = s.b; meets = m; fills = refl; bits_are = (sym (is_one env s.b m), tt) }

  not_zero : R (false ∷ []) → ⊥
  not_zero r =
      let same : r.b.bits 0 ≡ r.o.bits 0 = simp (tree_values, expr_values) at (ap first_bit r.fills) in
      let one = is_one env r.b r.meets in
      let zero = r.bits_are.0 in
      cc

  one_gen : (y : Bool) → Gen R [] (y ∷ []) (true ∷ [])
  one_gen y = (picks_fixed R [] true gives_one not_zero y, tt)

line : IsLine try.p names (try.equated expr.One) (codes "X = 1")
line = told leaf ((λ e. true) ∷ []) one_shape (simp (shape_values, text_values) refl) (λ env. one_gen env (env 0)) (simp shape_values refl)
    (simp (shape_values, text_values) refl)

pub says : QuerySays try.p try.q names 2 Max (codes "X = 1" ∷ codes "end" ∷ []) false
says = all _ Ended (codes "X = 1" ∷ []) try_proof.plain (more_lines line no_lines) refl refl

-- ---- a stop behind the answer

swapped_line : IsLine try.swapped names (try.equated expr.One) (codes "X = 1")
swapped_line = told leaf ((λ e. true) ∷ []) one_shape (simp (shape_values, text_values) refl) (λ env. one_gen env (env 0)) (simp shape_values refl)
    (simp (shape_values, text_values) refl)

answered : SoFar try.swapped try.q 2
    (Made (first_branch try.q) ∷ Made (try.called expr.One) ∷ Made (try.equated expr.One) ∷ Printed (try.equated expr.One) ∷ []) 1
    (Try try.behind 0 (try.X ∷ []) 1 ∷ [])
answered = record {
  begins = refl;
  rest = Made (try.called expr.One) ∷ Made (try.equated expr.One) ∷ Printed (try.equated expr.One) ∷ [];
  goes =
      on (Becomes (Try try.behind 0 (try.X ∷ []) 0)) (Try try.behind 0 (try.X ∷ []) 0 ∷ []) _ (inl (tt, refl)) refl refl refl
      (on (Adds 1 (Try try.behind 0 (try.X ∷ []) 1 ∷ []) (try.called expr.One)) (Run (try.called expr.One) ∷ Try try.behind 0 (try.X ∷ []) 1 ∷ []) _ (try.fact expr.One, refl, refl) refl
      (inl (try_proof.calls_one, (try.called expr.One, (record { ready = []; rest = []; parts = none; is = refl }, refl)))) refl
      (on (Adds 0 [] (try.equated expr.One)) (Run (try.equated expr.One) ∷ []) _ refl refl
      (inl (try_proof.answers_one, (try.equated expr.One, (record { ready = []; rest = []; parts = none; is = refl }, refl)))) refl
      (on (Answered (try.equated expr.One)) [] [] refl refl refl refl here)));
  is = refl;
}

size-zero : expr_size expr.Zero ≡ 1
size-zero = ap expr_size (sym expr.rolls-Zero) ∙ fold-roll-Expr ℕ expr_size_step Expr-F.Zero

size-arguments : (n : ℕ) (t : Tree) (ts : List Tree) → tree_size (tree.Node n (t ∷ ts)) ≡ sum (map tree_size (t ∷ ts))
size-arguments n t ts = ap tree_size (sym (tree.rolls-Node n (t ∷ ts))) ∙ fold-roll-Tree ℕ tree_size_step (Tree-F.Node n (t ∷ ts))

-- the branch with the clause's argument
abbrev added : Tree → Branch
added t = extended try.behind try.behind.goals (head_item 0 (t ∷ []) (try.X ∷ []) ∷ []) []

too_few : 147455 < room_with try.swapped (try.called expr.Zero) 0
too_few = subst (λ t. 147455 < room_with try.swapped (added t) 0) (sym (try_proof.shift-leaf 1 expr.Zero ∙ ap tree.Leaf (try_proof.shift-zero 1))) (simp (size-zero, size-arguments, size_values) (lit< tt))

stop_behind_answer : QuerySays try.swapped try.q names 2 (Only 147455) (codes "X = 1" ∷ codes "stopped: nodes" ∷ []) true
stop_behind_answer =
    few_adding _ 1 (Try try.behind 0 (try.X ∷ []) 1) [] 1 [] (try.called expr.Zero) (codes "X = 1" ∷ []) answered (try.fact expr.Zero, refl, refl) refl
    (more_lines swapped_line no_lines) (inl too_few) refl

-- ---- the whole

accepts : QueriesRefusal loaded (the_query ∷ []) None
accepts = out.passes (inr (query_no_clash, refl)) out.none

pub run : Output (run_words (codes "2")) file input (lines_text (codes "X = 1" ∷ codes "end" ∷ [])) outcome.Done
run = record {
  lines = codes "X = 1" ∷ codes "end" ∷ [];
  says = inr (loaded, (file_loaded, inr (the_query ∷ [], false, lit≤ tt, input_whole, accepts, more_queries try.p try.q names _ [] false false is_query says no_queries refl refl, refl)));
  is = refl;
}

-- ---- refusals

minus_lexed : Lexes 0 1 (codes "p(-).") (token_at kind.Atom (codes "p") 0 1 1 ∷ token_at kind.LeftParen (codes "(") 1 2 1 ∷ []) (Some (Byte 2))
minus_lexed =
    token 1 kind.Atom _ (longest _ 1 _ (omega arith) refl refl) tt refl
    (token 1 kind.LeftParen _ (longest _ 1 _ (omega arith) refl refl) tt refl
    (byte refl (λ e. omega arith) (λ e. omega arith) (no_token _ refl)))

pub query_byte : Output (run_words (codes "1")) file (codes "p(-).") (lines_text (codes "error: query byte 2: unexpected byte" ∷ [])) (outcome.Refused 1)
unfolding digits
query_byte = record {
  lines = codes "error: query byte 2: unexpected byte" ∷ [];
  says = inr (loaded, (file_loaded, inl (_, (out.InputRefused.unread (Lexed (Byte 2)) (lit≤ tt) (lexed _ (Byte 2) minus_lexed) refl, (refl, refl)))));
  is = refl;
}

abbrev open_tokens : List Token
open_tokens = token_at kind.Atom (codes "p") 0 1 1 ∷ token_at kind.LeftParen (codes "(") 1 2 1 ∷ token_at (kind.Integer (pos 0)) (codes "0") 2 3 1 ∷ []

open_lexed : Lexes 0 1 (codes "p(0") open_tokens None
open_lexed =
    token 1 kind.Atom _ (longest _ 1 _ (omega arith) refl refl) tt refl
    (token 1 kind.LeftParen _ (longest _ 1 _ (omega arith) refl refl) tt refl
    (token 1 (kind.Integer (pos 0)) _ (longest _ 1 _ (omega arith) refl refl) zero_fits refl ended))

open_unread : (xs : List FormClause) → ReadsAll ReadsClause open_tokens xs → ⊥
open_unread xs r = at_first r refl
  where
    at_first : {ts : List Token} {xs : List FormClause} → ReadsAll ReadsClause ts xs → ts ≡ open_tokens → ⊥
    at_first no_more e = cc
    at_first (one_more {x = x} ws c o) e = not_open refl refl refl (subst (λ ts. ReadsClause ts ws x) e c)

open_goes_on : CanGoOn ReadsClause open_tokens
open_goes_on = (
  token_at kind.RightParen (codes ")") 3 4 1 ∷ token_at kind.Dot (codes ".") 4 5 1 ∷ [],
  bit_clause 0 ∷ [],
  one_more [] (fact _ (a_compound _ (one (Integer (pos 0))) (inl refl) refl (exprs _ (alone Plus (a_prim (an_integer refl))) no_comma) refl refl) refl refl) no_more,
)

pub ends_in_clause : Output (codes "check" ∷ codes "F" ∷ []) (codes "p(0") [] (lines_text (codes "error: line 1: unfinished clause" ∷ [])) (outcome.Refused 5)
unfolding digits
ends_in_clause = record {
  lines = codes "error: line 1: unfinished clause" ∷ [];
  says = inl (_, (unread (Unfinished 1) (lit≤ tt) (unfinished open_tokens open_lexed open_goes_on open_unread (λ k. no_deep open_tokens k refl) refl) refl, (refl, refl)));
  is = refl;
}

pub rows_hold : OutputExamples
unfolding digits
rows_hold = record {
  usage = record { lines = codes "error: usage" ∷ []; says = (refl, refl); is = refl };
  unfinished = ends_in_clause;
  query_byte = query_byte;
  accepted = file_loaded;
  checked = record { lines = codes "checked: 2 clauses, 0 modules" ∷ []; says = inr (loaded, (file_loaded, (refl, refl))); is = refl };
  the_query = is_query;
  query_lines = says;
  stop_behind_answer = stop_behind_answer;
  run = run;
  begins = begins _ outcome.Done run (_, refl);
  takes = inl (loaded, (file_loaded, refl));
  verified = (circuit_rows.half_determined, circuit_rows.verified);
  may_stop = (circuit_rows.half_determined, stopped (simp size_values (lit< tt)) refl);
  no_module = (refl, refl);
  no_spec = (refl, refl);
  ports_differ = (refl, refl);
  accepted_module = verify_row.is_loaded;
  verified_file = verify_row.verified;
}
