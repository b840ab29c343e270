-- What the commands say, from what is counted and compared.
use Rattle.std.proofs.Common.{◌≡◌, ℕ, suc, ◌-◌, ◌^◌, ◌<◌, map, take, position, sum_by, Bool, true, false, List, [], ◌∷◌, ◌++◌, codes, decimal, length, Option, Some, None, refl, sym, ap, subst, ◌∙◌, arith, count_by, Result, Ok, Err, IfOk}
use Rattle.std.specs.Prelude.{◌==◌, ◌&&◌, MatchBool, bytes_eq}
use Rattle.std.proofs.lemmas.List.{length-map}
use Rattle.std.specs.Bool.{if◌then◌else◌}
use Rattle.cb_model.specs.declared.Circuit.{Circuit}
use Rattle.cb_model.specs.declared.Outcome.{Outcome}
use Rattle.cb_model.specs.declared.Outcome.TheVariants as outcome
use Rattle.cb_model.specs.Forms.{clause_form}
use Rattle.cb_model.specs.Refusals.{Refused, refused, refusal_line, Refuses}
use Rattle.cb_model.specs.Text.{Text, name_text, shown_name, lines_text}
use Rattle.cb_model.specs.Circuits.{Module, Flat, no_flat, flat_named, flats, circuit_of, BySpec, Outputs}
use Rattle.cb_model.specs.Facts.{Circuits, Spec}
use Rattle.cb_model.specs.Commands.{Nodes, Max, Only, budget_of}
use Rattle.cb_model.specs.Verdicts.{Compared, bit_text, at_text, differs_text, port_texts, agrees, differs, stopped}
use Rattle.cb_model.specs.Room.{expr_size}
use Rattle.cb_model.specs.Output.{BelowNodes, Loaded, IsDetermined, no_module as no_such_module, VerifySays, SameSays, module_named, spec_named, room_of, checked_text}
use Rattle.cb_circ.specs.At.{no_module, module_at}
use Rattle.cb_dd.specs.declared.Stop.TheVariants as stop
use Rattle.cb_verify.specs.declared.Verdict.{Verdict}
use Rattle.cb_verify.specs.declared.Verdict.TheVariants as verdict
use Rattle.cb_verify.specs.declared.modules.VerifyError.{VerifyError}
use Rattle.cb_verify.specs.declared.modules.VerifyError.TheVariants as error
use Rattle.cb_verify.specs.Verdict.{IsRight}
use Rattle.cb_verify.specs.Modules.{Compares, VerifyAnswers, SameAnswers}
use Rattle.cb_lines.specs.Ends.{IsSaid}
use Rattle.cb_lines.specs.Lines.{word_text, names_text}
use Rattle.cb_lines.specs.declared.lines.Pair.{Pair}
use Rattle.cb_lines.specs.declared.lines.Pair.TheVariants as pair
use Rattle.cb_flat.proofs.Places.{position-cons, here_or}
use Rattle.cb_verify.proofs.Named.{lost, named-flat, flat-inputs, flat-place, is-module}
use Rattle.cb_accept.specs.declared.Accepted.{Accepted}
use Rattle.cb_accept.specs.File.{holds}
use Rattle.cb_commands.specs.Counts.{is_counted}
use Rattle.cb_commands.specs.Says.{CheckSays}
use Rattle.cb_commands.specs.Answers.{VerdictSays, ComparisonSays, FitsPorts, ports_of}
use Rattle.cb_commands.proofs.Counts.{checked_says}
use Rattle.std.specs.Borrow.{Bor}

-- ---- `check`

-- the text of an accepted file
pub check-counts : (a : Accepted) (text : Text) (n m : ℕ) → n ≡ count_by (λ c. is_counted (clause_form c)) a.clauses.items → m ≡ length a.circuits.modules →
    text ≡ lines_text ((codes "checked: " ++ decimal n ++ codes " clauses, " ++ decimal m ++ codes " modules") ∷ []) → IsSaid (CheckSays (holds a)) text outcome.Done
check-counts a text n m e f t = record { lines = checked_text (holds a) ∷ []; says = (refl, refl); is = checked_says text a.clauses.items n m (holds a) e f refl t }

-- ---- a comparison

-- a budget that isn't the greatest, and is below the room, is a number below it
below-room : (nodes : Nodes) (room : ℕ) → (budget_of nodes ≡ 2 ^ 64 - 1 → ⊥) → budget_of nodes < room → BelowNodes nodes room
below-room Max room h l = h refl
below-room (Only n) room h l = l

-- what is written of a comparison that was made, as what is said of it
module _ (two_sides : Pair) (ports : List Text) (c : Circuit) (W : List Bool → List Bool → Type 0) (nodes : Nodes) (room : ℕ) where
  abbrev pub SaysSo : Text → Outcome → Type 0
  SaysSo text o = IsSaid (λ lines answer. Compared (names_text two_sides) (word_text two_sides) ports c W (BelowNodes nodes room) lines answer) text o

  pub made-says : (r : Result Verdict VerifyError) (text : Text) (o : Outcome) → Compares c W room (budget_of nodes) r → ComparisonSays two_sides ports r text o → SaysSo text o
  made-says (Ok verdict.Verified) text o h s =
      subst (SaysSo text) (sym s.1) (record { lines = (word_text two_sides ++ names_text two_sides) ∷ []; says = agrees h.verdict refl; is = s.0 })
  made-says (Ok (verdict.Differs input output got wanted)) text o h s =
      subst (SaysSo text) (sym s.1) (record { lines = differs_text (names_text two_sides) ports input (output - 1) got wanted ∷ []; says = differs input (output - 1) got wanted h.verdict.1 refl; is = s.0 })
  made-says (Err error.NoModule) text o h s = absurd h.stops
  made-says (Err error.NoSpec) text o h s = absurd h.stops
  made-says (Err error.Shape) text o h s = absurd h.stops
  made-says (Err (error.Stop stop.Nodes)) text o h s =
      subst (SaysSo text) (sym s.1) (record { lines = codes "stopped: nodes" ∷ []; says = stopped (below-room nodes room (h.unbounded refl) (h.nodes refl)) refl; is = s.0 })
  made-says (Err (error.Stop stop.Memory)) text o h s = absurd s

-- the input of a difference has a bit for each input of the circuit
pub made-fits : (c : Circuit) (W : List Bool → List Bool → Type 0) (nodes : Nodes) (room : ℕ) (r : Result Verdict VerifyError) → Compares c W room (budget_of nodes) r → IfOk r (FitsPorts c.inputs)
made-fits c W nodes room (Ok verdict.Verified) h = tt
made-fits c W nodes room (Ok (verdict.Differs input output got wanted)) h = (sym h.verdict.1.width, h.verdict.0)
made-fits c W nodes room (Err k) h = tt

-- ---- the ports of the two sides

abbrev port_refusal : Refused
port_refusal = refused 18 [] (codes "ports differ")

module _ (two_sides : Pair) (ports : List Text) (flat : Circuit) (W : List Bool → List Bool → Type 0) (nodes : Nodes) (room : ℕ) (r : Result Verdict VerifyError) (text : Text) (o : Outcome) where
  ports-said : r ≡ Err error.Shape → ComparisonSays two_sides ports r text o → IsSaid (Refuses port_refusal) text o
  ports-said h k =
      let t : ComparisonSays two_sides ports (Err error.Shape) text o = subst (λ x. ComparisonSays two_sides ports x text o) h k in
      record { lines = refusal_line port_refusal ∷ []; says = (refl, t.1); is = t.0 }

  one-side : (b : Bool) → MatchBool b (Compares flat W room (budget_of nodes) r) (r ≡ Err error.Shape) → ComparisonSays two_sides ports r text o →
      IsSaid (λ lines answer. MatchBool b (IsDetermined flat × Compared (names_text two_sides) (word_text two_sides) ports flat W (BelowNodes nodes room) lines answer) (Refuses port_refusal lines answer)) text o
  one-side true h k = let q = made-says two_sides ports flat W nodes room r text o h k in record { lines = q.lines; says = (h.determined, q.says); is = q.is }
  one-side false h k = let q = ports-said h k in record { lines = q.lines; says = q.says; is = q.is }

  two-sides : (D : Type 0) (b : Bool) → MatchBool b (D × Compares flat W room (budget_of nodes) r) (r ≡ Err error.Shape) → ComparisonSays two_sides ports r text o →
      IsSaid (λ lines answer. MatchBool b (IsDetermined flat × D × Compared (names_text two_sides) (word_text two_sides) ports flat W (BelowNodes nodes room) lines answer) (Refuses port_refusal lines answer)) text o
  two-sides D true h k = let q = made-says two_sides ports flat W nodes room r text o h.1 k in record { lines = q.lines; says = (h.1.determined, h.0, q.says); is = q.is }
  two-sides D false h k = let q = ports-said h k in record { lines = q.lines; says = q.says; is = q.is }

no-fits : (n : ℕ) (r : Result Verdict VerifyError) (e : VerifyError) → r ≡ Err e → IfOk r (FitsPorts n)
no-fits n r e h = subst (λ x. IfOk x (FitsPorts n)) (sym h) tt

one-fits : (flat : Circuit) (W : List Bool → List Bool → Type 0) (nodes : Nodes) (room : ℕ) (r : Result Verdict VerifyError) (b : Bool) →
    MatchBool b (Compares flat W room (budget_of nodes) r) (r ≡ Err error.Shape) → IfOk r (FitsPorts flat.inputs)
one-fits flat W nodes room r true h = made-fits flat W nodes room r h
one-fits flat W nodes room r false h = no-fits flat.inputs r error.Shape h

two-fits : (D : Type 0) (flat : Circuit) (W : List Bool → List Bool → Type 0) (nodes : Nodes) (room : ℕ) (r : Result Verdict VerifyError) (b : Bool) →
    MatchBool b (D × Compares flat W room (budget_of nodes) r) (r ≡ Err error.Shape) → IfOk r (FitsPorts flat.inputs)
two-fits D flat W nodes room r true h = made-fits flat W nodes room r h.1
two-fits D flat W nodes room r false h = no-fits flat.inputs r error.Shape h

-- ---- `verify`

module _ (c : Circuits) (name : Bor Text) (nodes : Nodes) (r : Result Verdict VerifyError) where
  pub verify-says : (text : Text) (o : Outcome) (m : Option Module) (s : Option Spec) → VerifyAnswers c name.now (budget_of nodes) m s r → ComparisonSays (pair.Specified name) (ports_of m) r text o →
      IsSaid (VerifySays c name.now nodes m s) text o
  verify-says text o None s h k =
      let t : ComparisonSays (pair.Specified name) [] (Err error.NoModule) text o = subst (λ x. ComparisonSays (pair.Specified name) [] x text o) h k in
      record { lines = refusal_line no_such_module ∷ []; says = (refl, t.1); is = t.0 }
  verify-says text o (Some m) None h k =
      let t : ComparisonSays (pair.Specified name) m.inputs (Err error.NoSpec) text o = subst (λ x. ComparisonSays (pair.Specified name) m.inputs x text o) h k in
      record { lines = refusal_line (refused 17 [] (codes "no specification")) ∷ []; says = (refl, t.1); is = t.0 }
  verify-says text o (Some m) (Some s) h k =
      one-side (pair.Specified name) m.inputs (circuit_of (flat_named c.flats name.now)) (BySpec s.exprs) nodes (room_of c (name.now ∷ []) (sum_by expr_size s.exprs)) r text o
      (length m.inputs == length s.inputs && length m.outputs == length s.exprs) h k

  pub verify-fits : (m : Option Module) (s : Option Spec) → VerifyAnswers c name.now (budget_of nodes) m s r → IfOk r (FitsPorts (flat_named c.flats name.now).inputs)
  verify-fits None s h = no-fits _ r error.NoModule h
  verify-fits (Some m) None h = no-fits _ r error.NoSpec h
  verify-fits (Some m) (Some s) h =
      one-fits (circuit_of (flat_named c.flats name.now)) (BySpec s.exprs) nodes (room_of c (name.now ∷ []) (sum_by expr_size s.exprs)) r
      (length m.inputs == length s.inputs && length m.outputs == length s.exprs) h

-- ---- `same`

module _ (c : Circuits) (one two : Bor Text) (nodes : Nodes) (r : Result Verdict VerifyError) where
  pub same-says : (text : Text) (o : Outcome) (m n : Option Module) → SameAnswers c one.now two.now (budget_of nodes) m n r → ComparisonSays (pair.Modules one two) (ports_of m) r text o →
      IsSaid (SameSays c one.now two.now nodes m n) text o
  same-says text o None n h k =
      let t : ComparisonSays (pair.Modules one two) [] (Err error.NoModule) text o = subst (λ x. ComparisonSays (pair.Modules one two) [] x text o) h k in
      record { lines = refusal_line no_such_module ∷ []; says = (refl, t.1); is = t.0 }
  same-says text o (Some m) None h k =
      let t : ComparisonSays (pair.Modules one two) m.inputs (Err error.NoModule) text o = subst (λ x. ComparisonSays (pair.Modules one two) m.inputs x text o) h k in
      record { lines = refusal_line no_such_module ∷ []; says = (refl, t.1); is = t.0 }
  same-says text o (Some m) (Some n) h k =
      two-sides (pair.Modules one two) m.inputs (circuit_of (flat_named c.flats one.now)) (Outputs (circuit_of (flat_named c.flats two.now))) nodes (room_of c (one.now ∷ two.now ∷ []) 0) r text o
      (IsDetermined (circuit_of (flat_named c.flats two.now))) (length m.inputs == length n.inputs && length m.outputs == length n.outputs) h k

  pub same-fits : (m n : Option Module) → SameAnswers c one.now two.now (budget_of nodes) m n r → IfOk r (FitsPorts (flat_named c.flats one.now).inputs)
  same-fits None n h = no-fits _ r error.NoModule h
  same-fits (Some m) None h = no-fits _ r error.NoModule h
  same-fits (Some m) (Some n) h =
      two-fits (IsDetermined (circuit_of (flat_named c.flats two.now))) (circuit_of (flat_named c.flats one.now)) (Outputs (circuit_of (flat_named c.flats two.now))) nodes (room_of c (one.now ∷ two.now ∷ []) 0) r
      (length m.inputs == length n.inputs && length m.outputs == length n.outputs) h

-- ---- the ports

-- a name of a port is shown as it stands in the text
shown-twice : (x : Text) → shown_name (shown_name x) ≡ shown_name x
shown-twice x = go (bytes_eq (take 2 x) (95 ∷ 0 ∷ [])) refl
  where
    go : (b : Bool) → bytes_eq (take 2 x) (95 ∷ 0 ∷ []) ≡ b → shown_name (if b then codes "_" else x) ≡ (if b then codes "_" else x)
    go true e = refl
    go false e = ap (λ b. if b then codes "_" else x) e

ports-shown : (ps : List Text) (xs : List Bool) → port_texts (map shown_name ps) xs ≡ port_texts ps xs
ports-shown [] xs = refl
ports-shown (p ∷ ps) [] = refl
ports-shown (p ∷ ps) (x ∷ xs) = λ i. (shown-twice p i ++ codes "=" ++ bit_text x) ∷ ports-shown ps xs i

pub verdict-shown : (two_sides : Pair) (ps : List Text) (v : Verdict) (text : Text) (o : Outcome) → VerdictSays two_sides (map shown_name ps) v text o → VerdictSays two_sides ps v text o
verdict-shown two_sides ps verdict.Verified text o h = h
verdict-shown two_sides ps (verdict.Differs input output got wanted) text o h =
    (h.0 ∙ ap (λ l. lines_text ((codes "differs " ++ names_text two_sides ++ at_text l ++ codes ": output " ++ decimal (suc (output - 1)) ++ codes " is " ++ bit_text got ++ codes ", wanted " ++ bit_text wanted) ∷ [])) (ports-shown ps input), h.1)

lost-flat : (fs : List Flat) (x : Text) → position (λ (f : Flat). bytes_eq f.name x) fs ≡ None → flat_named fs x ≡ no_flat
lost-flat [] x e = refl
lost-flat (f ∷ fs) x e = go (bytes_eq f.name x) (position (λ (f : Flat). bytes_eq f.name x) fs) (lost-flat fs x) (sym (position-cons (λ (f : Flat). bytes_eq f.name x) f fs) ∙ e)
  where
    go : (b : Bool) (p : Option ℕ) → (p ≡ None → flat_named fs x ≡ no_flat) → here_or b p ≡ None → (if b then f else flat_named fs x) ≡ no_flat
    go true p g e = absurd (cc)
    go false None g e = g refl
    go false (Some j) g e = absurd (cc)

-- the flattened module of a name has as many inputs as the module of that name
pub named-ports : (c : Circuits) (name : Text) → c.flats ≡ flats [] c.modules → (flat_named c.flats name).inputs ≡ length (ports_of (module_named c name))
named-ports c name is = go (position (λ (m : Module). bytes_eq m.name name) c.modules) refl
  where
    go : (p : Option ℕ) → position (λ (m : Module). bytes_eq m.name name) c.modules ≡ p → (flat_named c.flats name).inputs ≡ length (ports_of (module_named c name))
    go (Some k) e = ap (λ (f : Flat). f.inputs) (named-flat c is name k e) ∙ flat-inputs c is k ∙ sym (ap (λ o. length (ports_of o)) (is-module c is name k e))
    go None e = ap (λ (f : Flat). f.inputs) (lost-flat c.flats name (flat-place c is name ∙ e)) ∙ sym (ap (λ o. length (ports_of o)) (lost (λ (m : Module). bytes_eq m.name name) no_module c.modules e))

-- so many ports are shown
pub ports-long : (c : Circuits) (name : Text) → c.flats ≡ flats [] c.modules → (ps : List (Bor Text)) → map (λ (p : Bor Text). p.now) ps ≡ map shown_name (ports_of (module_named c name)) →
    (flat_named c.flats name).inputs ≡ length ps
ports-long c name is ps e =
    named-ports c name is ∙ sym (length-map (ports_of (module_named c name)) shown_name) ∙ sym (ap length e) ∙ length-map ps (λ (p : Bor Text). p.now)
