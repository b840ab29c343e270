-- Refusals that name a place in the file or in the input.
use Rattle.std.specs.Prelude.{Option, Some, None, [], ◌++◌, codes}
use Rattle.cb_model.specs.Text.{Text}
use Rattle.cb_model.specs.Refusals.{Refused, refused, at_byte, at_line}
use Rattle.cb_model.specs.Output.{fault_refused, sort_refused, fact_refused}
use Rattle.cb_model.specs.Directives as dir
use Rattle.cb_model.specs.Directives.{BadDirective, SortClash, Unknown}
use Rattle.cb_model.specs.Facts as fact
use Rattle.cb_circ.specs.declared.reading.CircError.{CircError}
use Rattle.cb_circ.specs.declared.reading.CircError.TheVariants as circuit
use Rattle.cb_directives.specs.declared.fault.LoadError.{LoadError}
use Rattle.cb_directives.specs.declared.fault.LoadError.TheVariants as load
use Rattle.cb_lex.specs.Faults.{fault_of}
use Rattle.cb_syntax.specs.declared.texts.ReadError.{ReadError}
use Rattle.cb_syntax.specs.declared.texts.ReadError.TheVariants as read
use Rattle.cb_lines.specs.declared.refusals.Place.{Place}
use Rattle.cb_lines.specs.declared.refusals.Place.TheVariants.{Byte, Line}
use Rattle.cb_lines.specs.declared.refusals.Whose.{Whose}
use Rattle.cb_lines.specs.declared.refusals.Whose.TheVariants as whose
use Rattle.cb_lines.specs.declared.refusals.Refusal.{Refusal}

-- a place
abbrev pub place_text : Place → Text
place_text (Byte n) = at_byte n
place_text (Line n) = at_line n

-- what stands before the place
abbrev pub whose_text : Whose → Text
whose_text whose.File = []
whose_text whose.Query = codes "query "

-- a refusal, without the places of its text in memory
abbrev pub refusal_view : Refusal → Refused
refusal_view r = refused r.number (whose_text r.whose ++ place_text r.place) r.text.now

-- a refusal with its place in the file or in the input
abbrev pub placed_in : Whose → Option Refused → Option Refused
placed_in w None = None
placed_in w (Some r) = Some (record r { place = whose_text w ++ r.place })

-- the refusal of a text that is not read; want of memory is none
abbrev pub read_refused : ReadError → Option Refused
read_refused (read.Lex e) = Some (fault_refused (fault_of e))
read_refused (read.Syntax n) = Some (refused 4 (at_line n) (codes "syntax"))
read_refused (read.Unfinished n) = Some (refused 5 (at_line n) (codes "unfinished clause"))
read_refused (read.Deep n) = Some (refused 6 (at_line n) (codes "nested too deep"))
read_refused read.Memory = None

-- the refusal of clauses that are not accepted; want of memory is none
abbrev pub load_refused : LoadError → Option Refused
load_refused (load.Directive n) = Some (sort_refused (BadDirective, n))
load_refused (load.SortClash n) = Some (sort_refused (SortClash, n))
load_refused (load.Unknown n) = Some (sort_refused (Unknown, n))
load_refused (load.Twice n) = Some (sort_refused (dir.Twice, n))
load_refused load.Memory = None

-- the refusal of a fact of circuits; want of memory is none
abbrev pub circuit_refused : CircError → Option Refused
circuit_refused (circuit.Twice n) = Some (fact_refused (fact.Twice, n))
circuit_refused (circuit.Pins n) = Some (fact_refused (fact.Pins, n))
circuit_refused (circuit.Driven n) = Some (fact_refused (fact.Driven, n))
circuit_refused (circuit.Cycle n) = Some (fact_refused (fact.Cycle, n))
circuit_refused (circuit.Part n) = Some (fact_refused (fact.Part, n))
circuit_refused (circuit.Large n) = Some (fact_refused (fact.Large, n))
circuit_refused circuit.Memory = None
