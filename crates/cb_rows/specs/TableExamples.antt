-- Worked tables: gates with their pins and values, the numbers of refusals, and the names that are kept.
use Rattle.std.specs.Prelude.{◌≡◌, Bool, true, false, List, [], ◌∷◌, map, option_map, codes, Some, None}
use Rattle.cb_model.specs.declared.GateKind.{GateKind}
use Rattle.cb_model.specs.declared.GateKind.TheVariants as gate
use Rattle.cb_model.specs.Circuits.{pins_of, gate_value, gate_names}
use Rattle.cb_model.specs.Grammar.{Forms, Last, More, Name, Syntax, Unfinished, Deep, FormClause}
use Rattle.cb_model.specs.Tokens.{Byte, Number, Quote}
use Rattle.cb_model.specs.Directives.{Sign, reserved, has_sign, BadDirective, SortClash, Unknown, Twice}
use Rattle.cb_model.specs.Loading.{plain_goals, is_taken, sign_is, module_sign, spec_sign}
use Rattle.cb_model.specs.Commands.{number_upto}
use Rattle.cb_model.specs.Refusals.{usage, file_too_long, unbuilt}
use Rattle.cb_model.specs.Answers.{products_text}
use Rattle.cb_model.specs.Output.{fault_refused, reading_refused, sort_refused, no_module}
use Rattle.cb_rows.specs.DetailExamples.{letter, literal, copies}
use Rattle.cb_rows.specs.FileExamples.{atom}

-- all rows of two bits, the least first
abbrev pub pairs : List (List Bool)
pairs = (false ∷ false ∷ []) ∷ (false ∷ true ∷ []) ∷ (true ∷ false ∷ []) ∷ (true ∷ true ∷ []) ∷ []

-- a gate's values at them
abbrev pub values : GateKind → List Bool
values kind = map (gate_value kind) pairs

-- whether it may have so many inputs
abbrev pub counts : GateKind → List Bool
counts kind = map (pins_of kind) (0 ∷ 1 ∷ 2 ∷ 3 ∷ 8 ∷ 9 ∷ [])

-- names with their numbers of arguments
abbrev pub signs : List Sign
signs = (codes "true", 0) ∷ (codes "true", 1) ∷ (codes "fail", 0) ∷ (codes "fail", 1) ∷ (codes "circuit", 2) ∷ (codes "circuit", 3) ∷ (codes "module", 3) ∷ (codes "module", 4) ∷
    (codes "spec", 3) ∷ (codes "spec", 4) ∷ (codes "p", 0) ∷ []

-- a name with atoms as arguments
abbrev pub three : Forms
three = More (atom (codes "a")) (More (atom (codes "b")) (More (atom (codes "c")) Last))

pub record TableExamples : Type 0 where
  -- the gates at each pair of bits
  pub values_and : values gate.And ≡ false ∷ false ∷ false ∷ true ∷ []
  pub values_or : values gate.Or ≡ false ∷ true ∷ true ∷ true ∷ []
  pub values_xor : values gate.Xor ≡ false ∷ true ∷ true ∷ false ∷ []
  pub values_nand : values gate.Nand ≡ true ∷ true ∷ true ∷ false ∷ []
  pub values_nor : values gate.Nor ≡ true ∷ false ∷ false ∷ false ∷ []
  pub values_xnor : values gate.Xnor ≡ true ∷ false ∷ false ∷ true ∷ []
  -- and at one bit, or none
  pub values_not : map (gate_value gate.Not) ((false ∷ []) ∷ (true ∷ []) ∷ []) ≡ true ∷ false ∷ []
  pub values_buf : map (gate_value gate.Buf) ((false ∷ []) ∷ (true ∷ []) ∷ []) ≡ false ∷ true ∷ []
  pub constants : map (λ k. gate_value k []) (gate.Zero ∷ gate.One ∷ []) ≡ false ∷ true ∷ []
  -- no, one, two, three, eight and nine inputs
  pub none : map counts (gate.Zero ∷ gate.One ∷ []) ≡ (true ∷ false ∷ false ∷ false ∷ false ∷ false ∷ []) ∷ (true ∷ false ∷ false ∷ false ∷ false ∷ false ∷ []) ∷ []
  pub one : map counts (gate.Buf ∷ gate.Not ∷ []) ≡ (false ∷ true ∷ false ∷ false ∷ false ∷ false ∷ []) ∷ (false ∷ true ∷ false ∷ false ∷ false ∷ false ∷ []) ∷ []
  pub one_of_three : counts gate.Mux ≡ false ∷ false ∷ false ∷ true ∷ false ∷ false ∷ []
  pub two_to_eight : map counts (gate.And ∷ gate.Or ∷ gate.Xor ∷ gate.Nand ∷ gate.Nor ∷ gate.Xnor ∷ []) ≡
      map (λ k. false ∷ false ∷ true ∷ true ∷ true ∷ false ∷ []) (gate.And ∷ gate.Or ∷ gate.Xor ∷ gate.Nand ∷ gate.Nor ∷ gate.Xnor ∷ [])
  -- the gates by name
  pub gates : map (λ k. k.0) gate_names ≡
      codes "zero" ∷ codes "one" ∷ codes "buf" ∷ codes "not" ∷ codes "and" ∷ codes "or" ∷ codes "xor" ∷ codes "nand" ∷ codes "nor" ∷ codes "xnor" ∷ codes "mux" ∷ []
  pub kinds : map (λ k. k.1) gate_names ≡
      gate.Zero ∷ gate.One ∷ gate.Buf ∷ gate.Not ∷ gate.And ∷ gate.Or ∷ gate.Xor ∷ gate.Nand ∷ gate.Nor ∷ gate.Xnor ∷ gate.Mux ∷ []
  -- the numbers of refusals
  pub token_numbers : map (λ f. (fault_refused f).number) (Byte 0 ∷ Number 0 ∷ Quote 0 ∷ []) ≡ 1 ∷ 2 ∷ 3 ∷ []
  pub reading_numbers : map (λ r. option_map (λ x. x.number) (reading_refused {A = FormClause} r)) (Syntax 1 ∷ Unfinished 1 ∷ Deep 1 ∷ []) ≡ Some 4 ∷ Some 5 ∷ Some 6 ∷ []
  pub sort_numbers : map (λ r. (sort_refused (r, 1)).number) (BadDirective ∷ SortClash ∷ Unknown ∷ Twice ∷ []) ≡ 7 ∷ 8 ∷ 9 ∷ 10 ∷ []
  pub other_numbers : map (λ r. r.number) (no_module ∷ usage ∷ file_too_long ∷ unbuilt ∷ []) ≡ 16 ∷ 19 ∷ 20 ∷ 99 ∷ []
  -- names that no directive declares; goals that need no clause; heads that are taken; facts
  pub kept : map (has_sign reserved) signs ≡ true ∷ false ∷ true ∷ false ∷ false ∷ true ∷ false ∷ true ∷ true ∷ false ∷ false ∷ []
  pub plain : map (has_sign plain_goals) signs ≡ true ∷ false ∷ true ∷ false ∷ false ∷ false ∷ false ∷ false ∷ false ∷ false ∷ false ∷ []
  pub taken : map is_taken (Some (atom (codes "true")) ∷ Some (atom (codes "fail")) ∷ Some (Name (codes "circuit") three) ∷ Some (atom (codes "circuit")) ∷ Some (Name (codes "true") three) ∷ None ∷ []) ≡
      true ∷ true ∷ true ∷ false ∷ false ∷ false ∷ []
  pub facts : map (λ a. sign_is a (Name (codes "spec") three)) (module_sign ∷ spec_sign ∷ []) ≡ false ∷ true ∷ []
  -- numbers of words: from 1 to the limit, without a zero in front
  pub numbers : map (number_upto 64) (codes "0" ∷ codes "1" ∷ codes "64" ∷ codes "65" ∷ codes "01" ∷ codes "" ∷ codes "1a" ∷ []) ≡
      None ∷ Some 1 ∷ Some 64 ∷ None ∷ None ∷ None ∷ None ∷ []
  -- 65,536 products are not too many
  pub not_large : products_text letter (literal ∷ copies 65535 literal) ≡ codes "(large)" → ⊥
