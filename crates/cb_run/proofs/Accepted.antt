-- An accepted file that has nothing which `run` doesn't take yet.
use Rattle.std.proofs.Common.{◌≡◌, Bool, true, false, ◌||◌, List, [], ◌∷◌, map, refl, sym, ap, subst, ◌∙◌}
use Rattle.std.proofs.lemmas.Bool.{true≢false}
use Rattle.cb_accept.specs.Refusals.{without_circuits}
use Rattle.cb_accept.specs.File.{forms, holds, IsAccepted}
use Rattle.cb_accept.specs.declared.Accepted.{Accepted}
use Rattle.cb_accept.proofs.Accepting.{accepted-loaded}
use Rattle.cb_accept.proofs.Once.{clauses-one, read_none}
use Rattle.cb_laws.proofs.OneFacts.{facts-are-one}
use Rattle.std.specs.List.{list_any}
use Rattle.cb_model.specs.declared.RawClause.{RawClause}
use Rattle.cb_model.specs.Forms.{clause_form}
use Rattle.cb_model.specs.Text.{Text}
use Rattle.cb_model.specs.Grammar.{FormClause}
use Rattle.cb_model.specs.Output.{Loaded, IsLoaded}
use Rattle.cb_run.specs.Run.{has_unbuilt, IsBuilt}
use Rattle.cb_run.specs.Running.{IsOver}
use Rattle.cb_run.proofs.Plain.{no-facts}

-- whether a file has something of it, asked clause by clause
pub any-clauses : (p : FormClause → Bool) (cs : List RawClause) → list_any p (map clause_form cs) ≡ list_any (λ c. p (clause_form c)) cs
any-clauses p [] = refl
any-clauses p (c ∷ cs) = ap (λ b. p (clause_form c) || b) (any-clauses p cs)

-- a file that has something of it isn't one that has nothing
pub unbuilt-not : (file : Text) (l : Loaded) → IsLoaded file l → has_unbuilt l.clauses ≡ true → (m : Loaded) → IsBuilt file m → ⊥
unbuilt-not file l i h m b = true≢false (sym h ∙ ap has_unbuilt (clauses-one file l.clauses m.clauses i.reading b.loaded.reading) ∙ b.built)

-- a file that has nothing of it has no circuits
pub no-circuits : (file : Text) (l : Loaded) → IsLoaded file l → has_unbuilt l.clauses ≡ false → without_circuits l.clauses l.declared ≡ l
no-circuits file l i h = ap (λ c. record { clauses = l.clauses; declared = l.declared; circuits = c }) (facts-are-one (read_none l.clauses (no-facts l.clauses h)) i.facts).1

built-of : (file : Text) (l : Loaded) → IsLoaded file l → has_unbuilt l.clauses ≡ false → IsBuilt file (without_circuits l.clauses l.declared)
built-of file l i h = subst (IsBuilt file) (sym (no-circuits file l i h)) (record { loaded = i; built = h })

-- its program is that of its clauses
pub is-over : (a : Accepted) → IsAccepted a → has_unbuilt (forms a) ≡ false → IsOver (forms a) a.program
is-over a i h = record {
  file = a.text.now;
  built = built-of a.text.now (holds a) (accepted-loaded a i) h;
  written = i.written.written;
  loads = i.loads;
}
