-- How a run ends, and what it has written.
use Rattle.std.specs.Prelude.{◌≡◌, ℕ, List, [], ◌∷◌, take, Option, None, Some}
use Rattle.cb_model.specs.declared.Outcome.{Outcome}
use Rattle.cb_model.specs.declared.Outcome.TheVariants as outcome
use Rattle.cb_model.specs.declared.Side.TheVariants as side
use Rattle.cb_model.specs.Text.{Text, lines_text, IsPrefix}
use Rattle.cb_model.specs.Refusals.{Refused, Refuses, refusal_line}
use Rattle.cb_model.specs.Outside.{Wrote}
use Rattle.cb_lines.specs.declared.ended.Line.{Line}
use Rattle.cb_lines.specs.declared.ended.Line.TheVariants as line
use Rattle.cb_lines.specs.declared.ended.Ended.{Ended}
use Rattle.cb_lines.specs.declared.ended.Ended.TheVariants as ended

-- the run came to its end: no fault and no want of memory
abbrev pub IsDecided : Outcome → Type 0
IsDecided (outcome.Fault s) = ⊥
IsDecided outcome.Memory = ⊥
IsDecided o = Unit {0}

-- ---- lines

-- the bytes of a line
abbrev pub line_bytes : Line → Text
line_bytes (line.Fixed x) = x.now
line_bytes (line.Made v) = v.items

-- the line and the number are those of the refusal
pub record IsRefusal (r : Refused) (text : Text) (n : ℕ) : Type 0 where
  pub line : text ≡ lines_text (refusal_line r ∷ [])
  pub number : n ≡ r.number

-- The run ended by one of these refusals, or for want of memory; or the file failed, where it may.
abbrev pub EndsBy : (Refused → Type 0) → Type 0 → Ended → Type 0
EndsBy Why MayFail (ended.Refused l n) = (r : Refused) × (Why r × IsRefusal r (line_bytes l) n)
EndsBy Why MayFail ended.FileFailed = MayFail
EndsBy Why MayFail ended.Memory = Unit {0}

-- ---- what is written

-- a text is written whole and the outcome stands; or the sink failed behind a front of it
pub data Finishes (before after : Option Text) (text : Text) (wanted result : Outcome) : Type 0 where
  all_written : result ≡ wanted → Wrote before after text → Finishes before after text wanted result
  cut_off : (n : ℕ) → result ≡ outcome.Fault side.Output → Wrote before after (take n text) → Finishes before after text wanted result

-- how it is told that a run ended
abbrev pub EndTold : Ended → Option Text → Option Text → Outcome → Type 0
EndTold (ended.Refused l n) before after result = Finishes before after (line_bytes l) (outcome.Refused n) result
EndTold ended.FileFailed before after result = (result ≡ outcome.Fault side.File) × Wrote before after []
EndTold ended.Memory before after result = (result ≡ outcome.Memory) × Wrote before after []

-- a whole text was written, which goes with the outcome; or a beginning, and the sink failed or memory was wanting
pub data Writes (Whole : Text → Outcome → Type 0) (Begins : Text → Type 0) (before after : Option Text) (result : Outcome) : Type 0 where
  whole : (text : Text) → Whole text result → Wrote before after text → Writes Whole Begins before after result
  broken : (text : Text) → Begins text → result ≡ outcome.Fault side.Output → Wrote before after text → Writes Whole Begins before after result
  wanting : (text : Text) → Begins text → result ≡ outcome.Memory → Wrote before after text → Writes Whole Begins before after result

-- the text of lines that are said with this outcome
pub record IsSaid (Says : List Text → Outcome → Type 0) (text : Text) (o : Outcome) : Type 0 where
  pub lines : List Text
  pub says : Says lines o
  pub is : text ≡ lines_text lines

-- nothing, or a front of such a text
pub data BeginsSaying (Says : List Text → Outcome → Type 0) (text : Text) : Type 0 where
  nothing_yet : text ≡ [] → BeginsSaying Says text
  begins : (all : Text) (o : Outcome) → IsSaid Says all o → IsPrefix text all → BeginsSaying Says text

-- lines are written that are said with this outcome, or a front of them
abbrev pub Tells : (List Text → Outcome → Type 0) → Option Text → Option Text → Outcome → Type 0
Tells Says before after result = Writes (IsSaid Says) (BeginsSaying Says) before after result

-- the line of the refusal is written
abbrev pub Refusing : Refused → Option Text → Option Text → Outcome → Type 0
Refusing r before after result = Tells (Refuses r) before after result
