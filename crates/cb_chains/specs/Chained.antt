-- The clauses of each predicate, one after another.
use Rattle.std.specs.Prelude.{◌≡◌, ℕ, suc, ◌<◌, List, drop, length, get_or, slice_get, Option, Some, None, vec_len}
use Rattle.cb_model.specs.declared.Clause.{Clause}
use Rattle.cb_model.specs.Program.{first_from}
use Rattle.cb_chains.specs.declared.Chains.{Chains}

-- the clauses from a place on are chained: each predicate has its first one, and each clause the next of its predicate
pub record Chained (cs : List Clause) (count at : ℕ) (firsts nexts : List (Option ℕ)) : Type 0 where
  pub predicates : length firsts ≡ count
  pub all : length nexts ≡ length cs
  pub first : (p : ℕ) → p < count → get_or firsts p None ≡ first_from p at (drop at cs)
  pub next : (n : ℕ) (c : Clause) → (n < at → ⊥) → slice_get cs n ≡ Some c → get_or nexts n None ≡ first_from c.pred (suc n) (drop (suc n) cs)

-- all clauses are chained
abbrev pub AreChained : List Clause → ℕ → Chains → Type 0
AreChained cs count x = Chained cs count 0 x.firsts.items x.nexts.items
