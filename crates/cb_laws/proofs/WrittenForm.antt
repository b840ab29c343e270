-- What the grammar reads is in its form, and no longer than the text.
use Rattle.std.proofs.Common.{◌≡◌, ℕ, zero, suc, ◌+◌, ◌≤◌, Bool, true, false, ◌&&◌, List, [], ◌∷◌, length, take, refl, sym, ◌∙◌, ap, subst, arith, length-drop}
use Rattle.std.proofs.lemmas.List.Sums.{sum_by-cons}
use Rattle.std.specs.Prelude.{Option, Some, sum_by, ◌==◌, if◌then◌else◌, bytes_eq, pos, neg_ℤ}
use Rattle.std.specs.List.{list_all}
use Rattle.cb_model.specs.declared.Kind.{Kind}
use Rattle.cb_model.specs.declared.Kind.TheVariants as kind
use Rattle.cb_model.specs.Bits.{Each}
use Rattle.cb_model.specs.Text.{Text, is_small, is_word, is_variable}
use Rattle.cb_model.specs.Tokens.{Token, name_of, Fault, Lexes, ended, layout, comment, token, number, quote, byte, spelled, is_quoted, is_number, digits_value, marks, mark_named, from_newline}
use Rattle.cb_model.specs.Grammar.{Form, Forms, Variable, Name, Closed, Open, Not, Last, More, one, Op, Plus, Hash, Star, Sym, Operands, Prim, Call, Exprs, chain, Reads, a_chain, no_operand, operand, a_not, a_prim, a_variable, an_integer, a_call, a_group, a_nil, a_list, an_open_list, an_atom, a_compound, exprs, no_comma, a_comma, FormGoal, ReadsGoal, calls, equals, ReadsGoals, last_goal, more_goals, FormClause, ReadsClause, directive, fact, rule, FormQuery, ReadsQuery, a_query, ReadsAll, no_more, one_more, IsReading, whole, Whole}
use Rattle.cb_model.specs.Written.{has_one, is_written, are_written, is_name, goal_written, has_goal, clause_written, query_written, parts_of, parts_in, goal_parts, clause_parts, clause_goals, AreClauses, AreQueries}
use Rattle.cb_laws.specs.Laws.{ReadingIsWritten}
use Rattle.cb_laws.proofs.Decided.{and_true}

both : (x y : Bool) → x ≡ true → y ≡ true → (x && y) ≡ true
both x y e f = rw (e, f) refl

-- ---- names of variables

-- a token of a variable is one that a text can have
abbrev Named : Token → Type 0
Named t = t.kind ≡ kind.Variable → is_variable t.text ≡ true

-- no other token is a variable
abbrev NoVariable : Option Kind → Type 0
NoVariable o = o ≡ Some kind.Variable → ⊥

otherwise : (b : Bool) (u v : Option Kind) → NoVariable u → NoVariable v → NoVariable (if b then u else v)
otherwise true u v h k = h
otherwise false u v h k = k

no_mark : (ms : List (Text × Kind)) → Each (λ m. NoVariable (Some m.1)) ms → (s : Text) → NoVariable (mark_named ms s)
no_mark [] e s = λ h. absurd (cc)
no_mark (m ∷ ms) e s = otherwise (bytes_eq m.0 s) (Some m.1) (mark_named ms s) e.0 (no_mark ms e.1 s)

some_mark : (s : Text) → NoVariable (mark_named marks s)
some_mark =
    no_mark marks (
      λ h. absurd (cc),
      (
        λ h. absurd (cc),
        (
          λ h. absurd (cc),
          (
            λ h. absurd (cc),
            (
              λ h. absurd (cc),
              (
                λ h. absurd (cc),
                (
                  λ h. absurd (cc),
                  (
                    λ h. absurd (cc),
                    (λ h. absurd (cc), (λ h. absurd (cc), (λ h. absurd (cc), (λ h. absurd (cc), (λ h. absurd (cc), (λ h. absurd (cc), tt)))))),
                  ),
                ),
              ),
            ),
          ),
        ),
      ),
    )

by_test : (b : Bool) (o : Option Kind) → NoVariable o → (if b then Some kind.Variable else o) ≡ Some kind.Variable → b ≡ true
by_test true o n h = refl
by_test false o n h = absurd (n h)

spelled_named : (s : Text) → spelled s ≡ Some kind.Variable → is_variable s ≡ true
spelled_named [] h = absurd (cc)
spelled_named (x ∷ xs) h =
    let minus = otherwise (x == 45 && is_number xs) (Some (kind.Integer (neg_ℤ (pos (digits_value 0 xs))))) (mark_named marks (x ∷ xs)) (λ h. absurd (cc)) (some_mark (x ∷ xs)) in
    let number = otherwise (is_number (x ∷ xs)) (Some (kind.Integer (pos (digits_value 0 (x ∷ xs))))) _ (λ h. absurd (cc)) minus in
    let quote = otherwise (x == 39 && is_quoted xs) (Some kind.Quoted) _ (λ h. absurd (cc)) number in
    let small = otherwise (is_small x && list_all is_word xs) (Some kind.Atom) _ (λ h. absurd (cc)) quote in
    by_test (is_variable (x ∷ xs)) _ small h

named : {at line : ℕ} {s : Text} {ts : List Token} {f : Option Fault} → Lexes at line s ts f → Each Named ts
named ended = tt
named (layout h l) = named l
named (comment l) = named l
named (token {s = s} n k t h i e l) =
    (λ v. ap (λ t. is_variable t.text) e ∙ spelled_named (take n s) (h.token ∙ ap (λ k. Some k) (sym (ap (λ t. t.kind) e) ∙ v)), named l)
named (number n k h i) = tt
named (quote h) = tt
named (byte h i j k) = tt

-- what is left of named tokens is named
rest : {s : Sym} {ts us : List Token} {f : Forms} → Each Named ts → Reads s ts us f → Each Named us
rest n (a_chain us x xs r o e) = rest (rest n r) o
rest n no_operand = n
rest n (operand us e r o) = rest (rest n.1 r) o
rest n (a_not h r) = rest n.1 r
rest n (a_prim r) = rest n r
rest n (a_variable h e) = n.1
rest n (an_integer h) = n.1
rest n (a_call r) = rest n r
rest n (a_group r h x e) = (rest n.1 x).1
rest n (a_nil h e) = n.1.1
rest n (a_list r h x e) = (rest n.1 x).1
rest n (an_open_list b r us h x e z w) = (rest (rest n.1 x).1 z).1
rest n (an_atom a e) = n.1
rest n (a_compound r xs a h x p e) = (rest n.1.1 x).1
rest n (exprs us r o) = rest (rest n r) o
rest n no_comma = n
rest n (a_comma e r) = rest n.1 r

-- ---- the form

chain_written : (op : Op) (x : Form) (xs : Forms) → is_written x ≡ true → are_written xs ≡ true → is_written (chain op x xs) ≡ true
chain_written op x Last h k = h
chain_written Plus x (More y ys) h k = both _ _ h k
chain_written Hash x (More y ys) h k = both _ _ h k
chain_written Star x (More y ys) h k = both _ _ h k

the_one : (x : Form) → are_written (one x) ≡ true → is_written x ≡ true
the_one x h = (and_true _ _ h).0

one_written : (x : Form) → is_written x ≡ true → are_written (one x) ≡ true
one_written x h = both _ _ h refl

some_exprs : {ts us : List Token} {xs : Forms} → Reads Exprs ts us xs → has_one xs ≡ true
some_exprs (exprs us r o) = refl

written : {s : Sym} {ts us : List Token} {f : Forms} → Each Named ts → Reads s ts us f → are_written f ≡ true
written n (a_chain {op = op} us x xs r o e) =
    ap are_written e ∙ one_written (chain op x xs) (chain_written op x xs (the_one x (written n r)) (written (rest n r) o))
written n no_operand = refl
written n (operand {x = x} us e r o) = both _ _ (the_one x (written n.1 r)) (written (rest n.1 r) o)
written n (a_not {x = x} h r) = one_written (Not x) (the_one x (written n.1 r))
written n (a_prim r) = written n r
written n (a_variable {t = t} h e) = ap are_written e ∙ one_written (Variable t.text) (n.0 h)
written n (an_integer h) = refl
written n (a_call r) = written n r
written n (a_group r h x e) = written n.1 x
written n (a_nil h e) = refl
written n (a_list {xs = xs} r h x e) = one_written (Closed xs) (written n.1 x)
written n (an_open_list {xs = xs} {y = y} b r us h x e z w) =
    one_written (Open xs y) (both _ _ (some_exprs x) (both _ _ (written n.1 x) (the_one y (written (rest n.1 x).1 z))))
written n (an_atom a e) = ap are_written e
written n (a_compound {t = t} r xs a h x p e) = ap are_written e ∙ one_written (Name (name_of t) xs) (written n.1.1 x)
written n (exprs {x = x} us r o) = both _ _ (the_one x (written n r)) (written (rest n r) o)
written n no_comma = refl
written n (a_comma e r) = written n.1 r

-- a call is a name
call_name : {ts us : List Token} {f : Forms} (x : Form) → f ≡ one x → Reads Call ts us f → is_name x ≡ true
call_name x i (an_atom a e) = ap first_is_name (sym i ∙ e)
  where
    first_is_name : Forms → Bool
    first_is_name Last = false
    first_is_name (More f fs) = is_name f
call_name x i (a_compound r xs a h y p e) = ap first_is_name (sym i ∙ e)
  where
    first_is_name : Forms → Bool
    first_is_name Last = false
    first_is_name (More f fs) = is_name f

goal_form : {ts us : List Token} {x : FormGoal} → Each Named ts → ReadsGoal ts us x → (goal_written x ≡ true) × Each Named us
goal_form n (calls {x = x} r) = (both _ _ (call_name x refl r) (the_one x (written n r)), rest n r)
goal_form n (equals {x = x} {y = y} e us r h s) =
    let m = (rest n r).1 in (both _ _ (the_one x (written n r)) (the_one y (written m s)), rest m s)

abbrev GoalsForm : List Token → List FormGoal → Type 0
GoalsForm us xs = (has_goal xs ≡ true) × (list_all goal_written xs ≡ true) × Each Named us

goals_form : {ts us : List Token} {xs : List FormGoal} → Each Named ts → ReadsGoals ts us xs → GoalsForm us xs
goals_form n (last_goal d r e) = let g = goal_form n r in (refl, both _ _ g.0 refl, g.1.1)
goals_form n (more_goals c us r e o) =
    let g = goal_form n r in
    let h = goals_form g.1.1 o in
    (refl, both _ _ g.0 h.1, h.2)

clause_form : {ts us : List Token} {x : FormClause} → Each Named ts → ReadsClause ts us x → (clause_written x ≡ true) × Each Named us
clause_form n (directive d h a r e i) = (ap clause_written i ∙ both _ _ (some_exprs r) (written n.1.1 r), (rest n.1.1 r).1)
clause_form n (fact {x = x} d r e i) = (ap clause_written i ∙ both _ _ (call_name x refl r) (both _ _ (the_one x (written n r)) refl), (rest n r).1)
clause_form n (rule {x = x} k us r e o i) =
    let g = goals_form (rest n r).1 o in
    (ap clause_written i ∙ both _ _ (call_name x refl r) (both _ _ (the_one x (written n r)) (both _ _ g.0 g.1)), g.2)

query_form : {ts us : List Token} {x : FormQuery} → Each Named ts → ReadsQuery ts us x → (query_written x ≡ true) × Each Named us
query_form n (a_query o e) = let g = goals_form n o in (ap query_written e ∙ both _ _ g.0 g.1, g.2)

-- ---- the counts

-- each operand of a chain takes the token of its operator
abbrev operators : Sym → Forms → ℕ
operators (Operands op) Last = 0
operators (Operands op) (More f fs) = suc (operators (Operands op) fs)
operators s f = 0

chain_parts : (op : Op) (x : Form) (xs : Forms) → parts_of (chain op x xs) ≤ parts_of x + parts_in xs + operators (Operands op) xs
chain_parts op x Last = omega arith
chain_parts Plus x (More y ys) = omega arith
chain_parts Hash x (More y ys) = omega arith
chain_parts Star x (More y ys) = omega arith

-- what is read has no more parts than it takes tokens
fits : {s : Sym} {ts us : List Token} {f : Forms} → Reads s ts us f → parts_in f + operators s f + length us ≤ length ts
fits (a_chain {op = op} {ts = ts} {vs = vs} us x xs r o e) =
    let a = fits r in
    let b = fits o in
    let c = chain_parts op x xs in
    subst (λ h. parts_in h + 0 + length vs ≤ length ts) (sym e) (omega arith)
fits no_operand = omega arith
fits (operand us e r o) = let a = fits r in let b = fits o in omega arith
fits (a_not h r) = let a = fits r in omega arith
fits (a_prim r) = fits r
fits (a_variable {ts = ts} h e) = subst (λ h. parts_in h + 0 + length ts ≤ suc (length ts)) (sym e) (omega arith)
fits (an_integer h) = omega arith
fits (a_call r) = fits r
fits (a_group r h x e) = let a = fits x in omega arith
fits (a_nil h e) = omega arith
fits (a_list r h x e) = let a = fits x in omega arith
fits (an_open_list b r us h x e z w) = let a = fits x in let c = fits z in omega arith
fits (an_atom {ts = ts} a e) = subst (λ h. parts_in h + 0 + length ts ≤ suc (length ts)) (sym e) (omega arith)
fits (a_compound {ts = ts} {us = us} r xs a h x p e) = let b = fits x in subst (λ h. parts_in h + 0 + length us ≤ suc (suc (length ts))) (sym e) (omega arith)
fits (exprs us r o) = let a = fits r in let b = fits o in omega arith
fits no_comma = omega arith
fits (a_comma e r) = let a = fits r in omega arith

goal_fits : {ts us : List Token} {x : FormGoal} → ReadsGoal ts us x → goal_parts x + length us ≤ length ts
goal_fits (calls r) = let a = fits r in omega arith
goal_fits (equals e us r h s) = let a = fits r in let b = fits s in omega arith

goals_fit : {ts us : List Token} {xs : List FormGoal} → ReadsGoals ts us xs → (sum_by goal_parts xs + length us ≤ length ts) × (length xs + length us ≤ length ts)
goals_fit (last_goal {g = g} d r e) = let a = goal_fits r in (omega (arith, sum_by-cons goal_parts g []), omega arith)
goals_fit (more_goals {g = g} {gs = gs} c us r e o) = let a = goal_fits r in let b = goals_fit o in (omega (arith, sum_by-cons goal_parts g gs), omega arith)

abbrev ClauseFits : List Token → List Token → FormClause → Type 0
ClauseFits ts us c = (clause_parts c + length us ≤ length ts) × (clause_goals c + length us ≤ length ts) × (suc (length us) ≤ length ts)

clause_fits : {ts us : List Token} {x : FormClause} → ReadsClause ts us x → ClauseFits ts us x
clause_fits (directive {n = n} {w = w} {ts = ts} {us = us} d h a r e i) =
    let b = fits r in subst (ClauseFits (n ∷ w ∷ ts) us) (sym i) (omega arith, omega arith, omega arith)
clause_fits (fact {t = t} {ts = ts} {us = us} d r e i) = let b = fits r in subst (ClauseFits (t ∷ ts) us) (sym i) (omega arith, omega arith, omega arith)
clause_fits (rule {t = t} {ts = ts} {vs = vs} n us r e o i) =
    let b = fits r in let c = goals_fit o in subst (ClauseFits (t ∷ ts) vs) (sym i) (omega arith, omega arith, omega arith)

abbrev query_terms : FormQuery → ℕ
query_terms q = sum_by goal_parts q.goals

abbrev query_goals : FormQuery → ℕ
query_goals q = length q.goals

abbrev QueryFits : List Token → List Token → FormQuery → Type 0
QueryFits ts us q = (query_terms q + length us ≤ length ts) × (query_goals q + length us ≤ length ts) × (suc (length us) ≤ length ts)

some_goal : {ts us : List Token} {xs : List FormGoal} → ReadsGoals ts us xs → has_goal xs ≡ true
some_goal (last_goal d r e) = refl
some_goal (more_goals c us r e o) = refl

has_length : (xs : List FormGoal) → has_goal xs ≡ true → 1 ≤ length xs
has_length [] h = absurd (cc)
has_length (x ∷ xs) h = omega arith

query_fits : {ts us : List Token} {x : FormQuery} → ReadsQuery ts us x → QueryFits ts us x
query_fits (a_query {t = t} {ts = ts} {us = us} {gs = gs} o e) =
    let c = goals_fit o in
    let d = has_length gs (some_goal o) in
    subst (QueryFits (t ∷ ts) us) (sym e) (c.0, c.1, omega arith)

clauses_fit : {ts : List Token} {xs : List FormClause} → Each Named ts → ReadsAll ReadsClause ts xs →
    (list_all clause_written xs ≡ true) × (length xs ≤ length ts) × (sum_by clause_goals xs ≤ length ts) × (sum_by clause_parts xs ≤ length ts)
clauses_fit n no_more = (refl, omega arith, omega arith, omega arith)
clauses_fit n (one_more {x = x} {xs = xs} us r o) =
    let a = clause_fits r in
    let f = clause_form n r in
    let b = clauses_fit f.1 o in
    (both _ _ f.0 b.0, omega arith, omega (arith, sum_by-cons clause_goals x xs), omega (arith, sum_by-cons clause_parts x xs))

queries_fit : {ts : List Token} {xs : List FormQuery} → Each Named ts → ReadsAll ReadsQuery ts xs →
    (list_all query_written xs ≡ true) × (length xs ≤ length ts) × (sum_by query_goals xs ≤ length ts) × (sum_by query_terms xs ≤ length ts)
queries_fit n no_more = (refl, omega arith, omega arith, omega arith)
queries_fit n (one_more {x = x} {xs = xs} us r o) =
    let a = query_fits r in
    let f = query_form n r in
    let b = queries_fit f.1 o in
    (both _ _ f.0 b.0, omega arith, omega (arith, sum_by-cons query_goals x xs), omega (arith, sum_by-cons query_terms x xs))

-- ---- tokens are no more than bytes

shorter : (s : Text) → length (from_newline s) ≤ length s
shorter [] = omega arith
shorter (x ∷ xs) = by_byte (x == 10) (shorter xs)
  where
    by_byte : (b : Bool) → length (from_newline xs) ≤ length xs → length (if b then x ∷ xs else from_newline xs) ≤ suc (length xs)
    by_byte true h = omega arith
    by_byte false h = omega arith

not_empty : (s : Text) (n : ℕ) (k : Kind) → spelled (take n s) ≡ Some k → 1 ≤ n
not_empty s zero k h = absurd (cc)
not_empty s (suc n) k h = omega arith

tokens_fit : {at line : ℕ} {s : Text} {ts : List Token} {f : Option Fault} → Lexes at line s ts f → length ts ≤ length s
tokens_fit ended = omega arith
tokens_fit (layout h l) = let a = tokens_fit l in omega arith
tokens_fit (comment {s = s} l) = let a = tokens_fit l in let b = shorter s in omega arith
tokens_fit (token {s = s} n k t h i e l) = let a = tokens_fit l in let b = not_empty s n k h.token in let c = h.within in omega (arith, length-drop n s)
tokens_fit (number n k h i) = omega arith
tokens_fit (quote h) = omega arith
tokens_fit (byte h i j k) = omega arith

clauses_written : (source : Text) (cs : List FormClause) → IsReading ReadsClause source (Whole cs) → AreClauses (length source) cs
clauses_written source cs (whole ts xs l r d) =
    let a = tokens_fit l in
    let b = clauses_fit (named l) r in
    record { written = b.0; few = omega arith; few_goals = omega arith; few_terms = omega arith }

queries_written : (source : Text) (qs : List FormQuery) → IsReading ReadsQuery source (Whole qs) → AreQueries (length source) qs
queries_written source qs (whole ts xs l r d) =
    let a = tokens_fit l in
    let b = queries_fit (named l) r in
    record { written = b.0; few = omega arith; few_goals = omega arith; few_terms = omega arith }

pub reading_is_written : ReadingIsWritten
reading_is_written source = (clauses_written source, queries_written source)
