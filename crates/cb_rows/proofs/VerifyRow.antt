-- A file with a module and its specification, from its bytes to the line of `verify`.
use Rattle.std.proofs.Common.{◌≡◌, ℕ, zero, suc, Bool, true, false, not, List, [], ◌∷◌, ◌++◌, get_or, take, refl, sym, ◌∙◌, ap, codes, arith, inl, inr, lit≤}
use Rattle.std.specs.Prelude.{None, bytes_eq, slice_get, Contains}
use Rattle.cb_model.specs.declared.Kind.TheVariants as kind
use Rattle.cb_model.specs.declared.Outcome.TheVariants as outcome
use Rattle.cb_model.specs.declared.Circuit.{Circuit}
use Rattle.cb_model.specs.Text.{Text, lines_text}
use Rattle.cb_model.specs.Tokens.{Token, name_of, Lexes, ended, layout, token}
use Rattle.cb_model.specs.Grammar.{Variable, Name, Last, one, Plus, Closed, Reads, Chain, a_prim, a_not, a_variable, a_call, a_list, an_atom, a_compound, exprs, no_comma, a_comma, ReadsClause, fact, ReadsAll, no_more, one_more, nestings, IsReading, whole, Whole}
use Rattle.cb_model.specs.Circuits.{Consistent, flat, circuit_of, BySpec, spec_values, Agrees}
use Rattle.cb_model.specs.Verdicts.{agrees}
use Rattle.cb_model.specs.Facts.{Feeds, feeds, leads_on, HasCycle, no_facts, a_fact, a_module, a_spec}
use Rattle.cb_model.specs.Loading as load
use Rattle.cb_model.specs.Output.{IsDetermined, IsLoaded, Output}
use Rattle.cb_laws.proofs.Values.{expr_values}
use Rattle.cb_rows.specs.TextExamples.{token_at}
use Rattle.cb_rows.specs.OutputExamples.{not_file, not_clauses, not_module, not_spec, not_loaded}
use Rattle.cb_rows.proofs.LexRow.{longest}
use Rattle.cb_rows.proofs.TextRows.{shallow, alone}
use Rattle.cb_rows.proofs.FileRows.{feeds_net, only_net, no_net, outs_of, ins_of}

abbrev spec_tokens : List Token
spec_tokens =
    token_at kind.Atom (codes "spec") 34 38 1 ∷ token_at kind.LeftParen (codes "(") 38 39 1 ∷ token_at kind.Atom (codes "h") 39 40 1 ∷ token_at kind.Comma (codes ",") 40 41 1 ∷
    token_at kind.LeftBracket (codes "[") 41 42 1 ∷ token_at kind.Variable (codes "A") 42 43 1 ∷ token_at kind.RightBracket (codes "]") 43 44 1 ∷ token_at kind.Comma (codes ",") 44 45 1 ∷
    token_at kind.LeftBracket (codes "[") 45 46 1 ∷ token_at kind.Tilde (codes "~") 46 47 1 ∷ token_at kind.Variable (codes "A") 47 48 1 ∷ token_at kind.RightBracket (codes "]") 48 49 1 ∷
    token_at kind.RightParen (codes ")") 49 50 1 ∷ token_at kind.Dot (codes ".") 50 51 1 ∷ []

abbrev module_tokens : List Token
module_tokens =
    token_at kind.Atom (codes "module") 0 6 1 ∷ token_at kind.LeftParen (codes "(") 6 7 1 ∷ token_at kind.Atom (codes "h") 7 8 1 ∷ token_at kind.Comma (codes ",") 8 9 1 ∷
    token_at kind.LeftBracket (codes "[") 9 10 1 ∷ token_at kind.Variable (codes "A") 10 11 1 ∷ token_at kind.RightBracket (codes "]") 11 12 1 ∷ token_at kind.Comma (codes ",") 12 13 1 ∷
    token_at kind.LeftBracket (codes "[") 13 14 1 ∷ token_at kind.Variable (codes "Y") 14 15 1 ∷ token_at kind.RightBracket (codes "]") 15 16 1 ∷ token_at kind.Comma (codes ",") 16 17 1 ∷
    token_at kind.LeftBracket (codes "[") 17 18 1 ∷ token_at kind.Atom (codes "not") 18 21 1 ∷ token_at kind.LeftParen (codes "(") 21 22 1 ∷ token_at kind.LeftBracket (codes "[") 22 23 1 ∷
    token_at kind.Variable (codes "A") 23 24 1 ∷ token_at kind.RightBracket (codes "]") 24 25 1 ∷ token_at kind.Comma (codes ",") 25 26 1 ∷ token_at kind.LeftBracket (codes "[") 26 27 1 ∷
    token_at kind.Variable (codes "Y") 27 28 1 ∷ token_at kind.RightBracket (codes "]") 28 29 1 ∷ token_at kind.RightParen (codes ")") 29 30 1 ∷ token_at kind.RightBracket (codes "]") 30 31 1 ∷
    token_at kind.RightParen (codes ")") 31 32 1 ∷ token_at kind.Dot (codes ".") 32 33 1 ∷ []

abbrev the_tokens : List Token
the_tokens = module_tokens ++ spec_tokens

spec_lexed : Lexes 33 1 (codes " spec(h,[A],[~A]).") spec_tokens None
spec_lexed =
    layout refl
    (token 4 kind.Atom _ (longest _ 4 _ (omega arith) refl refl) tt refl
    (token 1 kind.LeftParen _ (longest _ 1 _ (omega arith) refl refl) tt refl
    (token 1 kind.Atom _ (longest _ 1 _ (omega arith) refl refl) tt refl
    (token 1 kind.Comma _ (longest _ 1 _ (omega arith) refl refl) tt refl
    (token 1 kind.LeftBracket _ (longest _ 1 _ (omega arith) refl refl) tt refl
    (token 1 kind.Variable _ (longest _ 1 _ (omega arith) refl refl) tt refl
    (token 1 kind.RightBracket _ (longest _ 1 _ (omega arith) refl refl) tt refl
    (token 1 kind.Comma _ (longest _ 1 _ (omega arith) refl refl) tt refl
    (token 1 kind.LeftBracket _ (longest _ 1 _ (omega arith) refl refl) tt refl
    (token 1 kind.Tilde _ (longest _ 1 _ (omega arith) refl refl) tt refl
    (token 1 kind.Variable _ (longest _ 1 _ (omega arith) refl refl) tt refl
    (token 1 kind.RightBracket _ (longest _ 1 _ (omega arith) refl refl) tt refl
    (token 1 kind.RightParen _ (longest _ 1 _ (omega arith) refl refl) tt refl
    (token 1 kind.Dot _ (longest _ 1 _ (omega arith) refl refl) tt refl
    ended))))))))))))))

lexed : Lexes 0 1 not_file the_tokens None
lexed =
    token 6 kind.Atom _ (longest _ 6 _ (omega arith) refl refl) tt refl
    (token 1 kind.LeftParen _ (longest _ 1 _ (omega arith) refl refl) tt refl
    (token 1 kind.Atom _ (longest _ 1 _ (omega arith) refl refl) tt refl
    (token 1 kind.Comma _ (longest _ 1 _ (omega arith) refl refl) tt refl
    (token 1 kind.LeftBracket _ (longest _ 1 _ (omega arith) refl refl) tt refl
    (token 1 kind.Variable _ (longest _ 1 _ (omega arith) refl refl) tt refl
    (token 1 kind.RightBracket _ (longest _ 1 _ (omega arith) refl refl) tt refl
    (token 1 kind.Comma _ (longest _ 1 _ (omega arith) refl refl) tt refl
    (token 1 kind.LeftBracket _ (longest _ 1 _ (omega arith) refl refl) tt refl
    (token 1 kind.Variable _ (longest _ 1 _ (omega arith) refl refl) tt refl
    (token 1 kind.RightBracket _ (longest _ 1 _ (omega arith) refl refl) tt refl
    (token 1 kind.Comma _ (longest _ 1 _ (omega arith) refl refl) tt refl
    (token 1 kind.LeftBracket _ (longest _ 1 _ (omega arith) refl refl) tt refl
    (token 3 kind.Atom _ (longest _ 3 _ (omega arith) refl refl) tt refl
    (token 1 kind.LeftParen _ (longest _ 1 _ (omega arith) refl refl) tt refl
    (token 1 kind.LeftBracket _ (longest _ 1 _ (omega arith) refl refl) tt refl
    (token 1 kind.Variable _ (longest _ 1 _ (omega arith) refl refl) tt refl
    (token 1 kind.RightBracket _ (longest _ 1 _ (omega arith) refl refl) tt refl
    (token 1 kind.Comma _ (longest _ 1 _ (omega arith) refl refl) tt refl
    (token 1 kind.LeftBracket _ (longest _ 1 _ (omega arith) refl refl) tt refl
    (token 1 kind.Variable _ (longest _ 1 _ (omega arith) refl refl) tt refl
    (token 1 kind.RightBracket _ (longest _ 1 _ (omega arith) refl refl) tt refl
    (token 1 kind.RightParen _ (longest _ 1 _ (omega arith) refl refl) tt refl
    (token 1 kind.RightBracket _ (longest _ 1 _ (omega arith) refl refl) tt refl
    (token 1 kind.RightParen _ (longest _ 1 _ (omega arith) refl refl) tt refl
    (token 1 kind.Dot _ (longest _ 1 _ (omega arith) refl refl) tt refl
    spec_lexed)))))))))))))))))))))))))

-- a list of one variable
nets : {l v r : Token} {ts : List Token} → l.kind ≡ kind.LeftBracket → v.kind ≡ kind.Variable → r.kind ≡ kind.RightBracket →
    Reads (Chain Plus) (l ∷ v ∷ r ∷ ts) ts (one (Closed (one (Variable v.text))))
nets h k e = alone Plus (a_prim (a_list _ h (exprs _ (alone Plus (a_prim (a_variable k refl))) no_comma) e))

name : {t : Token} {ts : List Token} → t.kind ≡ kind.Atom → Reads (Chain Plus) (t ∷ ts) ts (one (Name (name_of t) Last))
name h = alone Plus (a_prim (a_call (an_atom (inl h) refl)))

read : ReadsAll ReadsClause the_tokens not_clauses
read =
    one_more spec_tokens
    (fact _ (a_compound _ _ (inl refl) refl
    (exprs _ (name refl) (a_comma refl (exprs _ (nets refl refl refl) (a_comma refl (exprs _ (nets refl refl refl) (a_comma refl
    (exprs _ (alone Plus (a_prim (a_list _ refl
    (exprs _ (alone Plus (a_prim (a_call (a_compound _ _ (inl refl) refl (exprs _ (nets refl refl refl) (a_comma refl (exprs _ (nets refl refl refl) no_comma))) refl refl)))) no_comma)
    refl))) no_comma))))))) refl refl) refl refl)
    (one_more []
    (fact _ (a_compound _ _ (inl refl) refl
    (exprs _ (name refl) (a_comma refl (exprs _ (nets refl refl refl) (a_comma refl
    (exprs _ (alone Plus (a_prim (a_list _ refl (exprs _ (alone Plus (a_not refl (a_prim (a_variable refl refl)))) no_comma) refl))) no_comma))))) refl refl) refl refl)
    no_more)

reading : IsReading ReadsClause not_file (Whole not_clauses)
reading = whole the_tokens not_clauses lexed read (shallow (nestings (0 ∷ []) the_tokens) refl)

-- the only gate doesn't feed itself
none_feeds : (i j : ℕ) → Feeds not_module i j → ⊥
none_feeds i j f = go i j f.net (feeds_net not_module i j f).0 (feeds_net not_module i j f).1
  where
    go : (i j : ℕ) (x : Text) → Contains (outs_of (slice_get not_module.instances i)) x → Contains (ins_of (slice_get not_module.instances j)) x → ⊥
    go zero zero x g t = let e : true ≡ false = ap (bytes_eq (codes "Y")) (only_net _ _ g ∙ sym (only_net _ _ t)) in cc
    go zero (suc j) x g t = no_net x t
    go (suc i) j x g t = no_net x g

no_cycle : HasCycle not_module → ⊥
no_cycle (i, feeds f) = none_feeds i i f
no_cycle (i, leads_on j f l) = none_feeds i j f

pub is_loaded : IsLoaded not_file not_loaded
is_loaded = record {
  short = lit≤ tt;
  reading = reading;
  declares = refl;
  rules = load.skip refl (load.skip refl load.none);
  facts = a_fact _ refl (a_module not_module refl refl (inr (no_cycle, refl)) refl) (a_fact _ refl (a_spec not_spec refl refl refl refl) no_facts);
}

abbrev circuit : Circuit
circuit = circuit_of (flat [] not_module)

first_bit : (x : Bool) (v : List Bool) → take 1 v ≡ x ∷ [] → get_or v 0 false ≡ x
first_bit x [] e = absurd (cc)
first_bit x (y ∷ v) e = ap (λ l. get_or l 0 false) e

wanted : (x : Bool) → spec_values not_spec.exprs (x ∷ []) ≡ not x ∷ []
wanted x = simp expr_values refl

not_agrees : Agrees circuit (BySpec not_spec.exprs)
not_agrees [] xs ys e o w = absurd (cc)
not_agrees (x ∷ []) xs ys e o w =
    let h : get_or o.v 1 false ≡ not x = o.consistent.gates.0 ∙ ap not (first_bit x o.v o.consistent.inputs) in
    o.outputs ∙ ap (λ y. y ∷ []) h ∙ sym (wanted x) ∙ sym w
not_agrees (x ∷ y ∷ zs) xs ys e o w = absurd (omega arith)

only_value : (x : Bool) (w : List Bool) → Consistent circuit (x ∷ []) w → w ≡ x ∷ not x ∷ []
only_value x [] k = let n = k.every_net in absurd (omega arith)
only_value x (a ∷ []) k = let n = k.every_net in absurd (omega arith)
only_value x (a ∷ b ∷ []) k =
    let h : a ≡ x = ap (λ l. get_or l 0 false) k.inputs in
    let g : b ≡ not a = k.gates.0 in
    ap (λ y. y ∷ b ∷ []) h ∙ ap (λ y. x ∷ y ∷ []) (g ∙ ap not h)
only_value x (a ∷ b ∷ c ∷ w) k = let n = k.every_net in absurd (omega arith)

not_determined : IsDetermined circuit
not_determined [] e = absurd (cc)
not_determined (x ∷ []) e = record { v = x ∷ not x ∷ []; consistent = record { every_net = refl; inputs = refl; gates = (refl, tt) }; only = only_value x }
not_determined (x ∷ y ∷ zs) e = absurd (omega arith)

pub verified : Output (codes "verify" ∷ codes "F" ∷ codes "h" ∷ codes "max" ∷ []) not_file [] (lines_text (codes "verified h" ∷ [])) outcome.Done
verified = record { lines = codes "verified h" ∷ []; says = inr (not_loaded, (is_loaded, (not_determined, agrees not_agrees refl))); is = refl }
