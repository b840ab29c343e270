-- Words, file and input have an output.
use Rattle.std.proofs.Common.{inl, inr, ℕ, ◌+◌, ◌*◌, List, [], ◌∷◌, ◌++◌, refl}
use Rattle.std.specs.Prelude.{Option, Some, None, codes, decimal}
use Rattle.cb_model.specs.declared.Outcome.{Outcome}
use Rattle.cb_model.specs.declared.Outcome.TheVariants as outcome
use Rattle.cb_model.specs.Text.{Text, lines_text}
use Rattle.cb_model.specs.Commands.{Command, Check, Run, Verify, Same, Make, Nodes, command_of}
use Rattle.cb_model.specs.Refusals.{refusal_line, usage}
use Rattle.cb_model.specs.Output.{Loaded, IsLoaded, run_outcome, checked_text, LoadedSays, FileSays, source_of, CommandSays}
use Rattle.cb_outputs.specs.Exists.{OutputExists}
use Rattle.cb_outputs.proofs.Files.{FileReads, file_reads, InputReads, input_reads}
use Rattle.cb_outputs.proofs.Runnings.{queries_say}
use Rattle.cb_outputs.proofs.Verdicts.{verify_says, same_says}

-- some lines and an outcome are said
abbrev Said : (List Text → Outcome → Type 0) → Type 0
Said S = (lines : List Text) × (answer : Outcome) × S lines answer

module _ (file input : Text) (l : Loaded) (loaded : IsLoaded file l) where
  run_says : (f : Text) (resolutions : ℕ) (nodes : Nodes) → InputReads l input → Said (LoadedSays (Run f resolutions nodes) input l)
  run_says f resolutions nodes (inl r) = (refusal_line r.0 ∷ [], outcome.Refused r.0.number, inl (r.0, (r.1, (refl, refl))))
  run_says f resolutions nodes (inr i) =
      let q = queries_say file l loaded resolutions nodes i.0 None refl i.3 in
      (q.0, run_outcome q.1, inr (i.0, q.1, i.1, i.2, i.3, q.2, refl))

  loaded_says : (c : Command) → Said (LoadedSays c input l)
  loaded_says (Check f) = (checked_text l ∷ [], outcome.Done, (refl, refl))
  loaded_says (Run f resolutions nodes) = run_says f resolutions nodes (input_reads l input)
  loaded_says (Verify f name nodes) = verify_says file l loaded name nodes
  loaded_says (Same f one two nodes) = same_says file l loaded one two nodes
  loaded_says (Make n nodes) =
      ((codes "verified adder: inputs " ++ decimal (2 * n + 1) ++ codes ", outputs " ++ decimal (n + 1) ++ codes ", gates " ++ decimal (5 * n)) ∷ [], outcome.Done, inl (refl, refl))

file_says : (c : Command) (file input : Text) → Said (FileSays c file input)
file_says c file input = by_file (file_reads file)
  where
    by_file : FileReads file → Said (FileSays c file input)
    by_file (inl r) = (refusal_line r.0 ∷ [], outcome.Refused r.0.number, inl (r.0, (r.1, (refl, refl))))
    by_file (inr l) = let s = loaded_says file input l.0 l.1 c in (s.0, s.1, inr (l.0, (l.1, s.2)))

command_says : (c : Option Command) (file input : Text) → Said (CommandSays c file input)
command_says None file input = (refusal_line usage ∷ [], outcome.Refused 19, (refl, refl))
command_says (Some c) file input = file_says c (source_of c file) input

pub output_exists : OutputExists
output_exists words file input =
    let s = command_says (command_of words) file input in
    (lines_text s.0, s.1, record { lines = s.0; says = s.2; is = refl })
