-- Words, file and input have one output.
use Rattle.std.proofs.Common.{◌≡◌, ◌⊎◌, inl, inr, ℕ, List, [], ◌∷◌, refl, sym, ◌∙◌, ap, subst}
use Rattle.std.specs.Prelude.{Option, Some, None, codes}
use Rattle.cb_model.specs.declared.Outcome.{Outcome}
use Rattle.cb_model.specs.declared.Outcome.TheVariants as outcome
use Rattle.cb_model.specs.Text.{Text, lines_text}
use Rattle.cb_model.specs.Commands.{Command, Check, Run, Verify, Same, Make, Nodes, Max, Only, IsNumber, command_of}
use Rattle.cb_model.specs.Refusals.{Refused, refusal_line, Refuses}
use Rattle.cb_model.specs.Top.{NamesNumber}
use Rattle.cb_model.specs.Output.{Loaded, IsLoaded, BelowNodes, module_named, spec_named, LoadedSays, FileSays, source_of, CommandSays}
use Rattle.cb_outputs.specs.Ones.{AreOne, IsStopped, RunsQueries, OutputIsOne}
use Rattle.cb_outputs.proofs.OneFile.{file_one}
use Rattle.cb_outputs.proofs.OneVerdict.{verify_one, same_one}

-- the nodes that a command names
abbrev nodes_of : Command → Nodes
nodes_of (Check f) = Max
nodes_of (Run f r n) = n
nodes_of (Verify f x n) = n
nodes_of (Same f x y n) = n
nodes_of (Make b n) = n

named : (c : Command) → IsNumber (nodes_of c) → NamesNumber (Some c)
named (Check f) h = absurd h
named (Run f r n) h = h
named (Verify f x n) h = h
named (Same f x y n) h = h
named (Make b n) h = h

module _ (ls ms : List Text) (x y : Outcome) where
  make_one : (n : Nodes) (bound : ℕ) (line : Text) (good stops : Outcome) →
      ((ls ≡ line ∷ []) × (x ≡ good)) ⊎ (BelowNodes n bound × (ls ≡ codes "stopped: nodes" ∷ []) × (x ≡ stops)) →
      ((ms ≡ line ∷ []) × (y ≡ good)) ⊎ (BelowNodes n bound × (ms ≡ codes "stopped: nodes" ∷ []) × (y ≡ stops)) → AreOne n ls ms x y
  make_one n bound line good stops (inl h) (inl k) = inl (h.0 ∙ sym k.0, h.1 ∙ sym k.1)
  make_one n bound line good stops (inr h) k = inr (below n h.0, inl ([], [], h.1))
    where
      below : (n : Nodes) → BelowNodes n bound → IsNumber n
      below Max h = absurd h
      below (Only m) h = tt
  make_one n bound line good stops (inl h) (inr k) = inr (below n k.0, inr ([], [], k.1))
    where
      below : (n : Nodes) → BelowNodes n bound → IsNumber n
      below Max h = absurd h
      below (Only m) h = tt

  loaded_one : (c : Command) (file input : Text) (l : Loaded) → IsLoaded file l → (RunsQueries (Some c) → ⊥) → LoadedSays c input l ls x → LoadedSays c input l ms y → AreOne (nodes_of c) ls ms x y
  loaded_one (Check f) file input l loaded runs h k = inl (h.0 ∙ sym k.0, h.1 ∙ sym k.1)
  loaded_one (Run f r n) file input l loaded runs h k = absurd (runs tt)
  loaded_one (Verify f name n) file input l loaded runs h k = verify_one file l loaded n ls ms x y name (module_named l.circuits name) (spec_named l.circuits name) refl h k
  loaded_one (Same f one two n) file input l loaded runs h k = same_one file l loaded n ls ms x y one two (module_named l.circuits one) (module_named l.circuits two) refl refl h k
  loaded_one (Make b n) file input l loaded runs h k = make_one n _ _ _ _ h k

  refused_one : (nodes : Nodes) (r s : Refused) → r ≡ s → Refuses r ls x → Refuses s ms y → AreOne nodes ls ms x y
  refused_one nodes r s e h k = inl (h.0 ∙ ap (λ z. refusal_line z ∷ []) e ∙ sym k.0, h.1 ∙ ap (λ z. outcome.Refused z.number) e ∙ sym k.1)

  file_says_one : (c : Command) (file input : Text) → (RunsQueries (Some c) → ⊥) → FileSays c file input ls x → FileSays c file input ms y → AreOne (nodes_of c) ls ms x y
  file_says_one c file input runs (inl h) (inl k) = refused_one (nodes_of c) h.0 k.0 ((file_one file).0 h.0 k.0 h.1.0 k.1.0) h.1.1 k.1.1
  file_says_one c file input runs (inl h) (inr k) = absurd ((file_one file).2 h.0 k.0 h.1.0 k.1.0)
  file_says_one c file input runs (inr h) (inl k) = absurd ((file_one file).2 k.0 h.0 k.1.0 h.1.0)
  file_says_one c file input runs (inr h) (inr k) =
      let same : h.0 ≡ k.0 = (file_one file).1 h.0 k.0 h.1.0 k.1.0 in
      loaded_one c file input h.0 h.1.0 runs h.1.1 (subst (λ l. LoadedSays c input l ms y) (sym same) k.1.1)

pub output_one : OutputIsOne
output_one words file input t u x y runs a b = step (command_of words) runs a.says b.says
  where
    texts : (c : Command) → AreOne (nodes_of c) a.lines b.lines x y → ((t ≡ u) × (x ≡ y)) ⊎ (NamesNumber (Some c) × (IsStopped t ⊎ IsStopped u))
    texts c (inl e) = inl (a.is ∙ ap lines_text e.0 ∙ sym b.is, e.1)
    texts c (inr (n, inl s)) = inr (named c n, inl (a.lines, (s, a.is)))
    texts c (inr (n, inr s)) = inr (named c n, inr (b.lines, (s, b.is)))

    step : (c : Option Command) → (RunsQueries c → ⊥) → CommandSays c file input a.lines x → CommandSays c file input b.lines y → ((t ≡ u) × (x ≡ y)) ⊎ (NamesNumber c × (IsStopped t ⊎ IsStopped u))
    step None runs h k = inl (a.is ∙ ap lines_text (h.0 ∙ sym k.0) ∙ sym b.is, h.1 ∙ sym k.1)
    step (Some c) runs h k = texts c (file_says_one a.lines b.lines x y c (source_of c file) input runs h k)
