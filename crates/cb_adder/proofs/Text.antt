-- The generated text is read as the four clauses.
use Rattle.std.proofs.Common.{◌≡◌, ℕ, zero, suc, ◌+◌, ◌<◌, ◌≤◌, [], ◌∷◌, ◌++◌, map, length, None, refl, sym, ◌∙◌, ap, subst, arith, codes}
use Rattle.std.proofs.lemmas.List.Elements.{All-nil}
use Rattle.cb_model.specs.declared.Kind.TheVariants as kind
use Rattle.cb_model.specs.Bits.{numbers, numbers_from, Each}
use Rattle.cb_model.specs.Text.{Text, joined}
use Rattle.cb_model.specs.Tokens.{Lexes, ended}
use Rattle.cb_model.specs.Adder.{part_text, carry_text, sum_text, ports_text, outs_text, exprs_text, adder_text}
use Rattle.cb_model.specs.Grammar.{ReadsClause, no_more, one_more, IsReading, whole, Whole}
use Rattle.cb_adder.proofs.Modules.{s_name, c_name, adder_part, placed_as}
use Rattle.cb_adder.proofs.Clauses.{instance_form, carry_form, sum_form, adder_clauses}
use Rattle.cb_adder.proofs.Names.{pairs}
use Rattle.cb_adder.proofs.Lexing.{IsName}
use Rattle.cb_adder.proofs.Grammar.{as-chain}
use Rattle.cb_adder.proofs.Shapes.{called, module-shape, spec-shape}
use Rattle.cb_adder.proofs.Pieces.{a-named, b-named, s-named, c-named, carry-goes, sum-goes, AllGo, instance_text, instance-goes, part-goes}
use Rattle.cb_adder.proofs.Lines.{line-goes, module_args, module-goes, spec_args, spec-goes}

pairs-named : (s k : ℕ) → s + k ≤ 64 → Each (IsName kind.Variable) (pairs s k)
pairs-named s zero l = tt
pairs-named s (suc k) l = (a-named s (omega arith), (b-named s (omega arith), pairs-named (suc s) k (omega arith)))

outs-named : (n s k : ℕ) → n ≤ 64 → s + k ≤ 64 → Each (IsName kind.Variable) (map s_name (numbers_from s k) ++ c_name n ∷ [])
outs-named n s zero h l = (c-named n (omega arith), tt)
outs-named n s (suc k) h l = (s-named s (omega arith), outs-named n (suc s) k h (omega arith))

parts-go : (s k : ℕ) → s + k ≤ 64 → AllGo 2 (map part_text (numbers_from s k)) (map instance_form (map adder_part (numbers_from s k)))
parts-go s zero l = tt
parts-go s (suc k) l = (part-goes s 2 (omega arith) (omega arith), parts-go (suc s) k (omega arith))

exprs-go : (n s k : ℕ) → n ≤ 64 → s + k ≤ 64 → AllGo 2 (map sum_text (numbers_from s k) ++ carry_text n ∷ []) (map sum_form (numbers_from s k) ++ carry_form n ∷ [])
exprs-go n s zero h l = (as-chain 2 (carry_text n) (carry_form n) (carry-goes n 2 h (omega arith)), tt)
exprs-go n s (suc k) h l = (sum-goes s 2 (omega arith) (omega arith), exprs-go n (suc s) k h (omega arith))

-- ---- the arguments of the four facts

abbrev half_args : Text
half_args = module_args (codes "half") (codes "A") (codes "B" ∷ []) (codes "S") (codes "C" ∷ []) (instance_text (codes "xor") (codes "A") (codes "B" ∷ []) (codes "S") [])
    (instance_text (codes "and") (codes "A") (codes "B" ∷ []) (codes "C") [] ∷ [])

abbrev full_args : Text
full_args = module_args (codes "full") (codes "A") (codes "B" ∷ codes "C" ∷ []) (codes "S") (codes "D" ∷ [])
    (instance_text (codes "half") (codes "A") (codes "B" ∷ []) (codes "T") (codes "U" ∷ []))
    (instance_text (codes "half") (codes "T") (codes "C" ∷ []) (codes "S") (codes "V" ∷ []) ∷ instance_text (codes "or") (codes "U") (codes "V" ∷ []) (codes "D") [] ∷ [])

abbrev adder_args : ℕ → Text
adder_args m = module_args (codes "adder") (codes "C0") (pairs 0 (suc m)) (s_name 0) (map s_name (numbers_from 1 m) ++ c_name (suc m) ∷ []) (part_text 0) (map part_text (numbers_from 1 m))

abbrev wanted_args : ℕ → Text
wanted_args m = spec_args (codes "adder") (codes "C0") (pairs 0 (suc m)) (sum_text 0) (map sum_text (numbers_from 1 m) ++ carry_text (suc m) ∷ [])

-- the lines from the last to the first
abbrev after_three : ℕ → Text
after_three m = called (codes "spec") (wanted_args m) ++ (46 ∷ (10 ∷ []))

abbrev after_two : ℕ → Text
after_two m = called (codes "module") (adder_args m) ++ (46 ∷ (10 ∷ after_three m))

abbrev after_one : ℕ → Text
after_one m = called (codes "module") full_args ++ (46 ∷ (10 ∷ after_two m))

abbrev whole_text : ℕ → Text
whole_text m = called (codes "module") half_args ++ (46 ∷ (10 ∷ after_one m))

text-is : (m : ℕ) → adder_text (suc m) ≡ whole_text m
text-is m = ap (λ t. called (codes "module") half_args ++ (46 ∷ (10 ∷ (called (codes "module") full_args ++ (46 ∷ (10 ∷ t))))))
    (module-shape (ports_text (suc m)) (outs_text (suc m)) (joined (codes ",") (map part_text (numbers (suc m)))) (10 ∷ (codes "spec(adder,[" ++ ports_text (suc m) ++ codes "],[" ++ exprs_text (suc m) ++ codes "])." ++ (10 ∷ [])))
    ∙ ap (λ t. called (codes "module") (adder_args m) ++ (46 ∷ (10 ∷ t))) (spec-shape (ports_text (suc m)) (exprs_text (suc m)) (10 ∷ [])))

pub reading : (m : ℕ) → suc m ≤ 64 → IsReading ReadsClause (adder_text (suc m)) (Whole (adder_clauses (suc m)))
reading m l =
    let at2 : ℕ = 0 + length (called (codes "module") half_args) + 2 in
    let at3 : ℕ = at2 + length (called (codes "module") full_args) + 2 in
    let at4 : ℕ = at3 + length (called (codes "module") (adder_args m)) + 2 in
    let r4 = line-goes (codes "spec") (wanted_args m) _ (refl, refl)
    (spec-goes (codes "adder") (codes "C0") (pairs 0 (suc m)) (sum_text 0) (map sum_text (numbers_from 1 m) ++ carry_text (suc m) ∷ []) (sum_form 0) (map sum_form (numbers_from 1 m) ++ carry_form (suc m) ∷ []) (refl, refl)
    ((refl, refl), pairs-named 0 (suc m) (omega arith)) (sum-goes 0 2 (omega arith) (omega arith)) (exprs-go (suc m) 1 m (omega arith) (omega arith)))
    at4 4 [] [] ended (All-nil (λ n. n < 257)) in
    let r3 = line-goes (codes "module") (adder_args m) _ (refl, refl)
    (module-goes (codes "adder") (codes "C0") (pairs 0 (suc m)) (s_name 0) (map s_name (numbers_from 1 m) ++ c_name (suc m) ∷ []) (part_text 0) (map part_text (numbers_from 1 m))
    (instance_form (adder_part 0)) (map instance_form (map adder_part (numbers_from 1 m))) (refl, refl)
    ((refl, refl), pairs-named 0 (suc m) (omega arith)) (s-named 0 (omega arith), outs-named (suc m) 1 m (omega arith) (omega arith)) (part-goes 0 2 (omega arith) (omega arith)) (parts-go 1 m (omega arith)))
    at3 3 (after_three m) r4.tokens r4.lexes r4.shallow in
    let r2 = line-goes (codes "module") full_args _ (refl, refl)
    (module-goes (codes "full") (codes "A") (codes "B" ∷ codes "C" ∷ []) (codes "S") (codes "D" ∷ []) (instance_text (codes "half") (codes "A") (codes "B" ∷ []) (codes "T") (codes "U" ∷ []))
    (instance_text (codes "half") (codes "T") (codes "C" ∷ []) (codes "S") (codes "V" ∷ []) ∷ instance_text (codes "or") (codes "U") (codes "V" ∷ []) (codes "D") [] ∷ [])
    (instance_form (placed_as (codes "half") (codes "A" ∷ codes "B" ∷ []) (codes "T" ∷ codes "U" ∷ [])))
    (instance_form (placed_as (codes "half") (codes "T" ∷ codes "C" ∷ []) (codes "S" ∷ codes "V" ∷ [])) ∷ instance_form (placed_as (codes "or") (codes "U" ∷ codes "V" ∷ []) (codes "D" ∷ [])) ∷ []) (refl, refl)
    ((refl, refl), ((refl, refl), ((refl, refl), tt))) ((refl, refl), ((refl, refl), tt))
    (instance-goes 2 (codes "half") (codes "A") (codes "B" ∷ []) (codes "T") (codes "U" ∷ []) (omega arith) (refl, refl) ((refl, refl), ((refl, refl), tt)) ((refl, refl), ((refl, refl), tt))) (
      instance-goes 2 (codes "half") (codes "T") (codes "C" ∷ []) (codes "S") (codes "V" ∷ []) (omega arith) (refl, refl) ((refl, refl), ((refl, refl), tt)) ((refl, refl), ((refl, refl), tt)),
      (instance-goes 2 (codes "or") (codes "U") (codes "V" ∷ []) (codes "D") [] (omega arith) (refl, refl) ((refl, refl), ((refl, refl), tt)) ((refl, refl), tt), tt),
    ))
    at2 2 (after_two m) r3.tokens r3.lexes r3.shallow in
    let r1 = line-goes (codes "module") half_args _ (refl, refl)
    (module-goes (codes "half") (codes "A") (codes "B" ∷ []) (codes "S") (codes "C" ∷ []) (instance_text (codes "xor") (codes "A") (codes "B" ∷ []) (codes "S") [])
    (instance_text (codes "and") (codes "A") (codes "B" ∷ []) (codes "C") [] ∷ [])
    (instance_form (placed_as (codes "xor") (codes "A" ∷ codes "B" ∷ []) (codes "S" ∷ []))) (instance_form (placed_as (codes "and") (codes "A" ∷ codes "B" ∷ []) (codes "C" ∷ [])) ∷ []) (refl, refl)
    ((refl, refl), ((refl, refl), tt)) ((refl, refl), ((refl, refl), tt))
    (instance-goes 2 (codes "xor") (codes "A") (codes "B" ∷ []) (codes "S") [] (omega arith) (refl, refl) ((refl, refl), ((refl, refl), tt)) ((refl, refl), tt))
    (instance-goes 2 (codes "and") (codes "A") (codes "B" ∷ []) (codes "C") [] (omega arith) (refl, refl) ((refl, refl), ((refl, refl), tt)) ((refl, refl), tt), tt))
    0 1 (after_one m) r2.tokens r2.lexes r2.shallow in
    whole r1.tokens (adder_clauses (suc m)) (subst (λ t. Lexes 0 1 t r1.tokens None) (sym (text-is m)) r1.lexes)
    (one_more r2.tokens r1.reads (one_more r3.tokens r2.reads (one_more r4.tokens r3.reads (one_more [] r4.reads no_more)))) r1.shallow
