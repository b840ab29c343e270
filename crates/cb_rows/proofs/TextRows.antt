-- Texts: their tokens, byte by byte, their readings and their faults.
use Rattle.std.proofs.Common.{◌≡◌, ℕ, zero, suc, ◌<◌, true, false, nat_lt, List, [], ◌∷◌, ◌++◌, length, take, get_or, refl, sym, ◌∙◌, ap, subst, codes, arith, rules, inl, inr, pos, lit<}
use Rattle.std.specs.Prelude.{Some, None, All, FitsSigned, drop}
use Rattle.std.specs.Int.{w64}
use Rattle.std.specs.List.{list_all}
use Rattle.std.proofs.lemmas.List.Elements.{All-cons, All-nil}
use Rattle.cb_model.specs.declared.Kind.TheVariants as kind
use Rattle.cb_model.specs.Tokens.{Token, Lexes, ended, layout, comment, token, number, quote, byte, Byte, Number, Quote}
use Rattle.cb_model.specs.Grammar.{Form, Forms, Integer, Variable, Name, Not, And, Last, More, one, Op, Plus, Hash, Star, Chain, Unary, Prim, Call, Exprs, Reads, a_chain, no_operand, operand, a_not, a_prim, a_variable, an_integer, an_atom, a_compound, exprs, no_comma, FormClause, Rule, ReadsClause, directive, fact, rule, equals, last_goal, ReadsQuery, a_query, ReadsAll, no_more, one_more, CanGoOn, FirstWrong, FirstDeep, nestings, IsReading, whole, lexed, syntax_at, unfinished, Whole, Syntax, Unfinished}
use Rattle.cb_laws.proofs.Tables.{zero_fits}
use Rattle.cb_laws.proofs.Decided.{and_true}
use Rattle.cb_laws.proofs.OneReading.{one_way, one_clause, call_view, CallView, head_kind, goes_on}
use Rattle.cb_rows.specs.TextExamples.{token_at, two_lines, two_lines_tokens, two_clauses, operators, operators_query, two_names, no_clause, deep, TextExamples}
use Rattle.cb_rows.proofs.LexRow.{longest, no_token}

-- ---- two lines

two_lexed : Lexes 0 1 two_lines two_lines_tokens None
two_lexed =
    token 1 kind.Atom _ (longest _ 1 _ (omega arith) refl refl) tt refl
    (token 1 kind.LeftParen _ (longest _ 1 _ (omega arith) refl refl) tt refl
    (token 1 (kind.Integer (pos 0)) _ (longest _ 1 _ (omega arith) refl refl) zero_fits refl
    (token 1 kind.RightParen _ (longest _ 1 _ (omega arith) refl refl) tt refl
    (token 1 kind.Dot _ (longest _ 1 _ (omega arith) refl refl) tt refl
    (layout refl
    (token 1 kind.Atom _ (longest _ 1 _ (omega arith) refl refl) tt refl
    (token 1 kind.Dot _ (longest _ 1 _ (omega arith) refl refl) tt refl ended)))))))

-- a primary term as a chain without further operands
pub alone : {ts us : List Token} {x : Form} (op : Op) → Reads Unary ts us (one x) → Reads (Chain op) ts us (one x)
alone {us = us} {x = x} Star r = a_chain us x Last r no_operand refl
alone {us = us} {x = x} Hash r = a_chain us x Last (a_chain {op = Star} us x Last r no_operand refl) no_operand refl
alone {us = us} {x = x} Plus r = a_chain us x Last (a_chain {op = Hash} us x Last (a_chain {op = Star} us x Last r no_operand refl) no_operand refl) no_operand refl

two_read : ReadsAll ReadsClause two_lines_tokens two_clauses
two_read = one_more _ (fact _ (a_compound _ (one (Integer (pos 0))) (inl refl) refl (exprs _ (alone Plus (a_prim (an_integer refl))) no_comma) refl refl) refl refl)
    (one_more [] (fact _ (an_atom (inl refl) refl) refl refl) no_more)

pub shallow : (xs : List ℕ) → list_all (λ n. nat_lt n 257) xs ≡ true → All (λ n. n < 257) xs
shallow [] h = All-nil (λ n. n < 257)
shallow (x ∷ xs) h = All-cons (λ n. n < 257) x xs (less x (and_true _ _ h).0) (shallow xs (and_true _ _ h).1)
  where
    less : (n : ℕ) → nat_lt n 257 ≡ true → n < 257
    less n h = search rules

two_whole : IsReading ReadsClause two_lines (Whole two_clauses)
two_whole = whole two_lines_tokens two_clauses two_lexed two_read (shallow (nestings (0 ∷ []) two_lines_tokens) refl)

-- ---- a query

abbrev operators_tokens : List Token
operators_tokens =
    token_at kind.Variable (codes "X") 8 9 2 ∷ token_at kind.Equals (codes "=") 10 11 2 ∷ token_at kind.Tilde (codes "~") 12 13 2 ∷ token_at kind.Variable (codes "A") 13 14 2 ∷
    token_at kind.Plus (codes "+") 14 15 2 ∷ token_at kind.Variable (codes "B") 15 16 2 ∷ token_at kind.Hash (codes "#") 16 17 2 ∷ token_at kind.Variable (codes "C") 17 18 2 ∷
    token_at kind.Star (codes "*") 18 19 2 ∷ token_at kind.Variable (codes "D") 19 20 2 ∷ token_at kind.Dot (codes ".") 20 21 2 ∷ []

operators_lexed : Lexes 0 1 operators operators_tokens None
operators_lexed =
    comment
    (layout refl
    (token 1 kind.Variable _ (longest _ 1 _ (omega arith) refl refl) tt refl
    (layout refl
    (token 1 kind.Equals _ (longest _ 1 _ (omega arith) refl refl) tt refl
    (layout refl
    (token 1 kind.Tilde _ (longest _ 1 _ (omega arith) refl refl) tt refl
    (token 1 kind.Variable _ (longest _ 1 _ (omega arith) refl refl) tt refl
    (token 1 kind.Plus _ (longest _ 1 _ (omega arith) refl refl) tt refl
    (token 1 kind.Variable _ (longest _ 1 _ (omega arith) refl refl) tt refl
    (token 1 kind.Hash _ (longest _ 1 _ (omega arith) refl refl) tt refl
    (token 1 kind.Variable _ (longest _ 1 _ (omega arith) refl refl) tt refl
    (token 1 kind.Star _ (longest _ 1 _ (omega arith) refl refl) tt refl
    (token 1 kind.Variable _ (longest _ 1 _ (omega arith) refl refl) tt refl
    (token 1 kind.Dot _ (longest _ 1 _ (omega arith) refl refl) tt refl ended))))))))))))))

var : {t : Token} {ts : List Token} → t.kind ≡ kind.Variable → Reads Unary (t ∷ ts) ts (one (Variable t.text))
var h = a_prim (a_variable h refl)

product : Form
product = And (More (Variable (codes "C")) (one (Variable (codes "D"))))

operators_read : ReadsAll ReadsQuery operators_tokens (operators_query ∷ [])
operators_read =
    one_more [] (a_query (last_goal _ (equals _ _ (alone Plus (var refl)) refl
    (a_chain {op = Plus} _ (Not (Variable (codes "A"))) _ (alone Hash (a_not refl (var refl)))
    (operand {op = Plus} _ refl
    (a_chain {op = Hash} _ (Variable (codes "B")) _ (alone Star (var refl))
    (operand {op = Hash} _ refl
    (a_chain {op = Star} _ (Variable (codes "C")) _ (var refl) (operand {op = Star} _ refl (var refl) no_operand) refl)
    no_operand) refl) no_operand) refl)) refl) refl) no_more

query_whole : IsReading ReadsQuery operators (Whole (operators_query ∷ []))
query_whole = whole operators_tokens (operators_query ∷ []) operators_lexed operators_read (shallow (nestings (0 ∷ []) operators_tokens) refl)

-- ---- faults of tokens

minus_lexed : Lexes 0 1 (codes "p(-).") (token_at kind.Atom (codes "p") 0 1 1 ∷ token_at kind.LeftParen (codes "(") 1 2 1 ∷ []) (Some (Byte 2))
minus_lexed =
    token 1 kind.Atom _ (longest _ 1 _ (omega arith) refl refl) tt refl
    (token 1 kind.LeftParen _ (longest _ 1 _ (omega arith) refl refl) tt refl
    (byte refl (λ e. omega arith) (λ e. omega arith) (no_token _ refl)))

quote_lexed : Lexes 0 1 (codes "p('a") (token_at kind.Atom (codes "p") 0 1 1 ∷ token_at kind.LeftParen (codes "(") 1 2 1 ∷ []) (Some (Quote 2))
quote_lexed =
    token 1 kind.Atom _ (longest _ 1 _ (omega arith) refl refl) tt refl
    (token 1 kind.LeftParen _ (longest _ 1 _ (omega arith) refl refl) tt refl
    (quote (no_token _ refl)))

too_large : FitsSigned w64 (pos 99999999999999999999) → ⊥
too_large h = search rules

number_lexed : Lexes 0 1 (codes "p(99999999999999999999") (token_at kind.Atom (codes "p") 0 1 1 ∷ token_at kind.LeftParen (codes "(") 1 2 1 ∷ []) (Some (Number 2))
number_lexed =
    token 1 kind.Atom _ (longest _ 1 _ (omega arith) refl refl) tt refl
    (token 1 kind.LeftParen _ (longest _ 1 _ (omega arith) refl refl) tt refl
    (number 20 (kind.Integer (pos 99999999999999999999)) (longest _ 20 _ (omega arith) refl refl) too_large))

-- ---- the first wrong token

abbrev p_token : Token
p_token = token_at kind.Atom (codes "p") 0 1 1

abbrev q_token : Token
q_token = token_at kind.Atom (codes "q") 2 3 2

abbrev dot : Token
dot = token_at kind.Dot (codes ".") 3 4 2

-- a call that begins with an atom, and behind it an atom, ends with that atom ahead
after_atom : (t u : Token) (ts us : List Token) (f : Forms) → u.kind ≡ kind.Atom → CallView (t ∷ u ∷ ts) us f → head_kind us ≡ kind.Atom
after_atom t u ts us f h (inl v) = ap head_kind v.0 ∙ h
after_atom t u ts us f h (inr v) = let e : kind.Atom ≡ kind.LeftParen = sym h ∙ ap head_kind v.4 ∙ v.5 in absurd (cc)

call_atom : {t u : Token} {ts us : List Token} {f : Forms} → u.kind ≡ kind.Atom → Reads Call (t ∷ u ∷ ts) us f → head_kind us ≡ kind.Atom
call_atom {t = t} {u = u} {ts = ts} {us = us} {f = f} h r = after_atom t u ts us f h (call_view r)

-- no clause begins with two atoms
not_two : {t u : Token} {ts us : List Token} {c : FormClause} → t.kind ≡ kind.Atom → u.kind ≡ kind.Atom → ReadsClause (t ∷ u ∷ ts) us c → ⊥
not_two h k (directive d n a r e i) = let z : kind.Atom ≡ kind.Neck = sym h ∙ n in cc
not_two h k (fact d r e i) = let z : kind.Dot ≡ kind.Atom = sym e ∙ call_atom k r in cc
not_two h k (rule n us r e o i) = let z : kind.Neck ≡ kind.Atom = sym e ∙ call_atom k r in cc

two_wrong : CanGoOn ReadsClause (p_token ∷ q_token ∷ []) → ⊥
two_wrong (us, xs, r) = all_wrong r refl
  where
    all_wrong : {ts : List Token} {xs : List FormClause} → ReadsAll ReadsClause ts xs → ts ≡ p_token ∷ q_token ∷ us → ⊥
    all_wrong no_more e = cc
    all_wrong (one_more {x = x} ws c o) e = not_two refl refl (subst (λ ts. ReadsClause ts ws x) e c)

wrong_second : FirstWrong ReadsClause no_clause 1
wrong_second = record {
  within = omega arith;
  before = (dot ∷ [], Rule 1 (Name (codes "p") Last) false [] ∷ [], one_more [] (fact _ (an_atom (inl refl) refl) refl refl) no_more);
  wrong = two_wrong;
}

-- no token of a shallow text is too deep
pub no_deep : (ts : List Token) (k : ℕ) → list_all (λ n. nat_lt n 257) (nestings (0 ∷ []) ts) ≡ true → FirstDeep ts k → ⊥
no_deep ts k h f = let l : get_or (nestings (0 ∷ []) ts) k 0 < 257 = less_at (nestings (0 ∷ []) ts) k h in let e = f.deep in omega arith
  where
    less : (n : ℕ) → nat_lt n 257 ≡ true → n < 257
    less n h = search rules

    less_at : (xs : List ℕ) (k : ℕ) → list_all (λ n. nat_lt n 257) xs ≡ true → get_or xs k 0 < 257
    less_at [] k h = omega arith
    less_at (x ∷ xs) zero h = less x (and_true _ _ h).0
    less_at (x ∷ xs) (suc k) h = less_at xs k (and_true _ _ h).1

wrong_lexed : Lexes 0 1 two_names no_clause None
wrong_lexed =
    token 1 kind.Atom _ (longest _ 1 _ (omega arith) refl refl) tt refl
    (layout refl
    (token 1 kind.Atom _ (longest _ 1 _ (omega arith) refl refl) tt refl
    (token 1 kind.Dot _ (longest _ 1 _ (omega arith) refl refl) tt refl ended)))

wrong_reading : IsReading ReadsClause two_names (Syntax 2)
wrong_reading = syntax_at no_clause 1 wrong_lexed wrong_second (λ j f. absurd (no_deep no_clause j refl f)) refl

-- ---- a clause that the text ends in

abbrev open_tokens : List Token
open_tokens =
    token_at kind.Atom (codes "q") 0 1 1 ∷ token_at kind.Dot (codes ".") 1 2 1 ∷ token_at kind.Atom (codes "p") 3 4 2 ∷ token_at kind.LeftParen (codes "(") 4 5 2 ∷
    token_at (kind.Integer (pos 0)) (codes "0") 5 6 2 ∷ []

open_lexed : Lexes 0 1 (codes "q." ++ (10 ∷ codes "p(0")) open_tokens None
open_lexed =
    token 1 kind.Atom _ (longest _ 1 _ (omega arith) refl refl) tt refl
    (token 1 kind.Dot _ (longest _ 1 _ (omega arith) refl refl) tt refl
    (layout refl
    (token 1 kind.Atom _ (longest _ 1 _ (omega arith) refl refl) tt refl
    (token 1 kind.LeftParen _ (longest _ 1 _ (omega arith) refl refl) tt refl
    (token 1 (kind.Integer (pos 0)) _ (longest _ 1 _ (omega arith) refl refl) zero_fits refl ended)))))

first_clause : (ts : List Token) → ReadsClause (token_at kind.Atom (codes "q") 0 1 1 ∷ token_at kind.Dot (codes ".") 1 2 1 ∷ ts) ts (Rule 1 (Name (codes "q") Last) false [])
first_clause ts = fact _ (an_atom (inl refl) refl) refl refl

-- an integer alone is a list of terms, and no bracket that closes it follows
no_close : {t : Token} {us : List Token} {f : Forms} (r : Token) → t.kind ≡ kind.Integer (pos 0) → r.kind ≡ kind.RightParen → Reads Exprs (t ∷ []) (r ∷ us) f → ⊥
no_close {t = t} r h e x =
    let a = one_way (exprs [] (alone Plus (a_prim (an_integer h))) no_comma) x tt (ap (goes_on Exprs) e) in
    let z : 0 ≡ suc _ = ap length a.0 in
    absurd (omega arith)

-- a call of `p(0` ends before its parenthesis
before_paren : (t l i : Token) (us : List Token) (f : Forms) → l.kind ≡ kind.LeftParen → i.kind ≡ kind.Integer (pos 0) → CallView (t ∷ l ∷ i ∷ []) us f → head_kind us ≡ kind.LeftParen
before_paren t l i us f h k (inl v) = ap head_kind v.0 ∙ h
before_paren t l i us f h k (inr v) =
    let e : v.1 ≡ i ∷ [] = sym (ap behind v.4) in
    absurd (no_close v.2 k v.7 (subst (λ ws. Reads Exprs ws (v.2 ∷ us) v.3) e v.6))
  where
    behind : List Token → List Token
    behind [] = []
    behind (t ∷ ts) = ts

call_paren : {t l i : Token} {us : List Token} {f : Forms} → l.kind ≡ kind.LeftParen → i.kind ≡ kind.Integer (pos 0) → Reads Call (t ∷ l ∷ i ∷ []) us f → head_kind us ≡ kind.LeftParen
call_paren {t = t} {l = l} {i = i} {us = us} {f = f} h k r = before_paren t l i us f h k (call_view r)

pub not_open : {t l i : Token} {us : List Token} {c : FormClause} → t.kind ≡ kind.Atom → l.kind ≡ kind.LeftParen → i.kind ≡ kind.Integer (pos 0) →
    ReadsClause (t ∷ l ∷ i ∷ []) us c → ⊥
not_open h k j (directive d n a r e o) = let z : kind.Atom ≡ kind.Neck = sym h ∙ n in cc
not_open h k j (fact d r e o) = let z : kind.Dot ≡ kind.LeftParen = sym e ∙ call_paren k j r in cc
not_open h k j (rule n us r e g o) = let z : kind.Neck ≡ kind.LeftParen = sym e ∙ call_paren k j r in cc

open_unread : (xs : List FormClause) → ReadsAll ReadsClause open_tokens xs → ⊥
open_unread xs r = second r refl
  where
    third : {ts : List Token} {xs : List FormClause} → ReadsAll ReadsClause ts xs → ts ≡ drop 2 open_tokens → ⊥
    third no_more e = cc
    third (one_more {x = x} ws c o) e = not_open refl refl refl (subst (λ ts. ReadsClause ts ws x) e c)

    second : {ts : List Token} {xs : List FormClause} → ReadsAll ReadsClause ts xs → ts ≡ open_tokens → ⊥
    second no_more e = cc
    second (one_more {x = x} ws c o) e = third o (sym (one_clause (first_clause (drop 2 open_tokens)) (subst (λ ts. ReadsClause ts ws x) e c)).0)

open_goes_on : CanGoOn ReadsClause open_tokens
open_goes_on = (
  token_at kind.RightParen (codes ")") 6 7 2 ∷ dot ∷ [],
  Rule 1 (Name (codes "q") Last) false [] ∷ Rule 2 (Name (codes "p") (one (Integer (pos 0)))) false [] ∷ [],
  one_more _ (first_clause _) (one_more [] (fact _ (a_compound _ (one (Integer (pos 0))) (inl refl) refl (exprs _ (alone Plus (a_prim (an_integer refl))) no_comma) refl refl) refl refl) no_more),
)

open_reading : IsReading ReadsClause (codes "q." ++ (10 ∷ codes "p(0")) (Unfinished 2)
open_reading = unfinished open_tokens open_lexed open_goes_on open_unread (λ k. no_deep open_tokens k refl) refl

-- ---- nesting

less_before : (xs : List ℕ) (n k : ℕ) → list_all (λ n. nat_lt n 257) (take n xs) ≡ true → k < n → get_or xs k 0 < 257
less_before [] n k h l = omega arith
less_before (x ∷ xs) zero k h l = absurd (omega arith)
less_before (x ∷ xs) (suc n) zero h l = less x (and_true _ _ h).0
  where
    less : (n : ℕ) → nat_lt n 257 ≡ true → n < 257
    less n h = search rules
less_before (x ∷ xs) (suc n) (suc k) h l = less_before xs n k (and_true _ _ h).1 (omega arith)

deep_first : FirstDeep deep 257
deep_first = record { within = lit< tt; deep = refl; before = λ j l. less_before (nestings (0 ∷ []) deep) 257 j refl l }

pub rows_hold : TextExamples
rows_hold = record {
  tokens = two_lexed;
  clauses = two_read;
  whole = two_whole;
  query = query_whole;
  nesting = refl;
  negative = refl;
  two_tokens = refl;
  capital = refl;
  empty_name = refl;
  lone_minus = lexed _ (Byte 2) minus_lexed;
  large_number = lexed _ (Number 2) number_lexed;
  open_quote = lexed _ (Quote 2) quote_lexed;
  first_wrong = wrong_second;
  syntax = wrong_reading;
  unfinished = open_reading;
  too_deep = deep_first;
}
