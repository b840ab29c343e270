-- The refusals of a file, and what an accepted one is.
use Rattle.std.specs.Prelude.{◌≡◌, ℕ, ◌≤◌, List, length, Some, None}
use Rattle.cb_model.specs.Text.{Text}
use Rattle.cb_model.specs.Grammar.{FormClause, Whole, IsReading, ReadsClause}
use Rattle.cb_model.specs.Directives.{Declared, Refusal, directives, heads}
use Rattle.cb_model.specs.Loading.{module_names, RulesRefusal}
use Rattle.cb_model.specs.Facts.{Circuits, FactRefusal, FactsRead, no_circuits}
use Rattle.cb_model.specs.Refusals.{Refused}
use Rattle.cb_model.specs.Output.{Loaded, sort_refused, fact_refused}

-- what the directives of clauses declare, and that no directive and no rule is refused
pub record AreAccepted (cs : List FormClause) (d : Declared) : Type 0 where
  pub declares : directives cs ≡ record { refusal = None; declared = d }
  pub rules : RulesRefusal d (heads cs) (module_names cs) cs None

-- the first refusal of clauses: a directive, or else a rule, or else a fact of circuits
pub data ClausesRefused (cs : List FormClause) : Refused → Type 0 where
  directive : (e : Refusal × ℕ) → (directives cs).refusal ≡ Some e → ClausesRefused cs (sort_refused e)
  rule : (d : Declared) (e : Refusal × ℕ) → directives cs ≡ record { refusal = None; declared = d } →
      RulesRefusal d (heads cs) (module_names cs) cs (Some e) → ClausesRefused cs (sort_refused e)
  a_fact : (d : Declared) (e : FactRefusal × ℕ) (c : Circuits) → AreAccepted cs d → FactsRead no_circuits cs (Some e) c → ClausesRefused cs (fact_refused e)

-- the file has these clauses
pub record IsRead (file : Text) (cs : List FormClause) : Type 0 where
  pub short : length file ≤ 4194304
  pub reading : IsReading ReadsClause file (Whole cs)

-- the file of these clauses, which has no circuits
abbrev pub without_circuits : List FormClause → Declared → Loaded
without_circuits cs d = record { clauses = cs; declared = d; circuits = no_circuits }
