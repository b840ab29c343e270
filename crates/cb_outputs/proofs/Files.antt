-- Each file and each input is accepted or refused.
use Rattle.std.proofs.Common.{◌≡◌, ◌⊎◌, inl, inr, ℕ, ◌<◌, ◌≤◌, List, [], length, refl, ap}
use Rattle.std.proofs.lemmas.Bool.{cases_lt}
use Rattle.std.specs.Prelude.{Option, Some, None, codes, ◌++◌}
use Rattle.cb_model.specs.Text.{Text}
use Rattle.cb_model.specs.Grammar.{Reading, Whole, Lexed, Syntax, Unfinished, Deep, IsReading, ReadsClause, ReadsQuery, FormClause, FormQuery}
use Rattle.cb_model.specs.Directives.{Declared, Checked, directives, heads, Refusal}
use Rattle.cb_model.specs.Loading.{RulesRefusal, module_names}
use Rattle.cb_model.specs.Facts.{Circuits, FactRefusal, FactsRead, no_circuits}
use Rattle.cb_model.specs.Refusals.{Refused, refused, at_line, file_too_long}
use Rattle.cb_model.specs.Output.{fault_refused, reading_refused, sort_refused, fact_refused, Loaded, IsLoaded, FileRefused, long, unread, directive, rule, a_fact, QueriesRefusal, InputRefused, long as long_input, unread as unread_input, sorts}
use Rattle.cb_outputs.proofs.Texts.{clauses_reading, queries_reading}
use Rattle.cb_outputs.proofs.Bodies.{rules_refusal, queries_refusal}
use Rattle.cb_outputs.proofs.FactsExist.{facts_read}

-- ---- the file

checked_is : (c : Checked) → c.refusal ≡ None → c ≡ record { refusal = None; declared = c.declared }
checked_is c h = ap (λ r. record { refusal = r; declared = c.declared }) h

module _ (file : Text) where
  -- it is refused or accepted
  abbrev pub FileReads : Type 0
  FileReads = ((r : Refused) × FileRefused file r) ⊎ ((l : Loaded) × IsLoaded file l)

  module _ (short : length file ≤ 4194304) where
    by_facts : (cs : List FormClause) (d : Declared) → IsReading ReadsClause file (Whole cs) → directives cs ≡ record { refusal = None; declared = d } → RulesRefusal d (heads cs) (module_names cs) cs None →
        (r : Option (FactRefusal × ℕ)) × (c : Circuits) × FactsRead no_circuits cs r c → FileReads
    by_facts cs d h e rules (Some r, c, f) = inl (fact_refused r, a_fact cs d r c short h e rules f refl)
    by_facts cs d h e rules (None, c, f) = inr (record { clauses = cs; declared = d; circuits = c }, record { short = short; reading = h; declares = e; rules = rules; facts = f })

    by_rules : (cs : List FormClause) (d : Declared) → IsReading ReadsClause file (Whole cs) → directives cs ≡ record { refusal = None; declared = d } →
        (r : Option (Refusal × ℕ)) × RulesRefusal d (heads cs) (module_names cs) cs r → FileReads
    by_rules cs d h e (Some r, q) = inl (sort_refused r, rule cs d r short h e q refl)
    by_rules cs d h e (None, q) = by_facts cs d h e q (facts_read cs no_circuits)

    by_directives : (cs : List FormClause) → IsReading ReadsClause file (Whole cs) → (r : Option (Refusal × ℕ)) → (directives cs).refusal ≡ r → FileReads
    by_directives cs h (Some r) e = inl (sort_refused r, directive cs r short h e refl)
    by_directives cs h None e =
        let d : Declared = (directives cs).declared in
        by_rules cs d h (checked_is (directives cs) e) (rules_refusal d (heads cs) (module_names cs) cs)

    is_unread : (x : Reading FormClause) → IsReading ReadsClause file x → (r : Refused) → reading_refused x ≡ Some r → FileReads
    is_unread x h r e = inl (r, unread x short h e)

    by_reading : (x : Reading FormClause) → IsReading ReadsClause file x → FileReads
    by_reading (Whole cs) h = by_directives cs h (directives cs).refusal refl
    by_reading (Lexed f) h = is_unread (Lexed f) h (fault_refused f) refl
    by_reading (Syntax n) h = is_unread (Syntax n) h (refused 4 (at_line n) (codes "syntax")) refl
    by_reading (Unfinished n) h = is_unread (Unfinished n) h (refused 5 (at_line n) (codes "unfinished clause")) refl
    by_reading (Deep n) h = is_unread (Deep n) h (refused 6 (at_line n) (codes "nested too deep")) refl

  pub file_reads : FileReads
  file_reads = by_length (cases_lt 4194304 (length file))
    where
      by_length : (4194304 < length file) ⊎ (length file ≤ 4194304) → FileReads
      by_length (inl l) = inl (file_too_long, long l)
      by_length (inr l) = let x = clauses_reading file in by_reading l x.0 x.1

-- ---- the input

abbrev at_query : Refused → Refused
at_query r = record r { place = codes "query " ++ r.place }

module _ (l : Loaded) (input : Text) where
  -- it is refused or its queries are accepted
  abbrev pub InputReads : Type 0
  InputReads = ((r : Refused) × InputRefused l input r) ⊎ ((qs : List FormQuery) × (length input ≤ 1048576) × IsReading ReadsQuery input (Whole qs) × QueriesRefusal l qs None)

  module _ (short : length input ≤ 1048576) where
    by_queries : (qs : List FormQuery) → IsReading ReadsQuery input (Whole qs) → (r : Option (Refusal × ℕ)) × QueriesRefusal l qs r → InputReads
    by_queries qs h (Some r, q) = inl (at_query (sort_refused r), sorts qs r short h q refl)
    by_queries qs h (None, q) = inr (qs, short, h, q)

    no_reading : (x : Reading FormQuery) → IsReading ReadsQuery input x → (r : Refused) → reading_refused x ≡ Some r → InputReads
    no_reading x h r e = inl (at_query r, unread_input x short h e)

    by_input : (x : Reading FormQuery) → IsReading ReadsQuery input x → InputReads
    by_input (Whole qs) h = by_queries qs h (queries_refusal l qs)
    by_input (Lexed f) h = no_reading (Lexed f) h (fault_refused f) refl
    by_input (Syntax n) h = no_reading (Syntax n) h (refused 4 (at_line n) (codes "syntax")) refl
    by_input (Unfinished n) h = no_reading (Unfinished n) h (refused 5 (at_line n) (codes "unfinished clause")) refl
    by_input (Deep n) h = no_reading (Deep n) h (refused 6 (at_line n) (codes "nested too deep")) refl

  pub input_reads : InputReads
  input_reads = by_long (cases_lt 1048576 (length input))
    where
      by_long : (1048576 < length input) ⊎ (length input ≤ 1048576) → InputReads
      by_long (inl k) = inl (refused 20 [] (codes "input too long"), long_input k)
      by_long (inr k) = let x = queries_reading input in by_input k x.0 x.1
