-- What a run of the program may print, and its outcome.
use Rattle.std.specs.Prelude.{◌≡◌, ℕ, suc, ◌+◌, ◌*◌, ◌<◌, ◌≤◌, Bool, true, false, ◌&&◌, ◌||◌, ◌==◌, if◌then◌else◌, ◌⊎◌, List, [], ◌∷◌, ◌++◌, map, length, take, drop, get_or, Option, Some, None, codes, bytes_eq, decimal, sum_by, find, MatchBool, Contains}
use Rattle.std.specs.List.{list_any}
use Rattle.cb_model.specs.declared.Circuit.{Circuit}
use Rattle.cb_model.specs.declared.Outcome.{Outcome}
use Rattle.cb_model.specs.declared.Outcome.TheVariants as outcome
use Rattle.cb_model.specs.Text.{Text, name_text, lines_text, IsPrefix}
use Rattle.cb_model.specs.Tokens.{Fault, Byte, Number, Quote}
use Rattle.cb_model.specs.Grammar.{FormClause, Rule, FormQuery, FormGoal, ReadsClause, ReadsQuery, Reading, Whole, Lexed, Syntax, Unfinished, Deep, IsReading}
use Rattle.cb_model.specs.Commands.{Command, Check, Run, Verify, Same, Make, Nodes, Max, Only, command_of}
use Rattle.cb_model.specs.Refusals.{Refused, refused, at_byte, at_line, Refuses, usage, file_too_long}
use Rattle.cb_model.specs.Verdicts.{Compared}
use Rattle.cb_model.specs.Directives as dir
use Rattle.cb_model.specs.Directives.{Sign, Declared, directives, heads, Refusal, BadDirective, SortClash, Unknown}
use Rattle.cb_model.specs.Loading.{is_fact, module_names, RulesRefusal, BodyRefusal, query_body, body_variables, HaveSorts, AreGoals, numbering, IsProgram, clauses_signs, goals_signs}
use Rattle.cb_model.specs.Facts as fact
use Rattle.cb_model.specs.Facts.{Circuits, FactRefusal, FactsRead, no_circuits, Spec}
use Rattle.cb_model.specs.Circuits.{Module, circuit_of, flat_named, BySpec, Outputs}
use Rattle.cb_model.specs.Program.{Program}
use Rattle.cb_model.specs.Derivation.{Query, Branch, Note, End, Whole as Ended, Stopped as Cut, Resolutions, Variables, Equations, Entry, Adds, Moves, stop_of, SoFar, Plain, printed_of, stretch_after}
use Rattle.cb_model.specs.Line.{Names, IsLine}
use Rattle.cb_model.specs.Adder.{adder_text}
use Rattle.cb_model.specs.Sound.{HasOneValuation}
use Rattle.cb_model.specs.Room.{BelowRoom, room_v, flat_pins, instance_pins, expr_size, greatest}

-- ---- refusals

-- the refusal of a fault of tokens
abbrev pub fault_refused : Fault → Refused
fault_refused (Byte n) = refused 1 (at_byte n) (codes "unexpected byte")
fault_refused (Number n) = refused 2 (at_byte n) (codes "number out of range")
fault_refused (Quote n) = refused 3 (at_byte n) (codes "unclosed quote")

-- the refusal of a reading that isn't whole
abbrev pub reading_refused : {A : Type 0} → Reading A → Option Refused
reading_refused (Whole xs) = None
reading_refused (Lexed f) = Some (fault_refused f)
reading_refused (Syntax n) = Some (refused 4 (at_line n) (codes "syntax"))
reading_refused (Unfinished n) = Some (refused 5 (at_line n) (codes "unfinished clause"))
reading_refused (Deep n) = Some (refused 6 (at_line n) (codes "nested too deep"))

-- the refusal of a directive or a rule
abbrev pub sort_refused : Refusal × ℕ → Refused
sort_refused (BadDirective, at) = refused 7 (at_line at) (codes "bad directive")
sort_refused (SortClash, at) = refused 8 (at_line at) (codes "sort clash")
sort_refused (Unknown, at) = refused 9 (at_line at) (codes "unknown name")
sort_refused (dir.Twice, at) = refused 10 (at_line at) (codes "declared twice")

-- the refusal of a fact
abbrev pub fact_refused : FactRefusal × ℕ → Refused
fact_refused (fact.Twice, at) = refused 10 (at_line at) (codes "declared twice")
fact_refused (fact.Pins, at) = refused 11 (at_line at) (codes "bad pins")
fact_refused (fact.Driven, at) = refused 12 (at_line at) (codes "net not driven once")
fact_refused (fact.Cycle, at) = refused 13 (at_line at) (codes "cycle in a module")
fact_refused (fact.Part, at) = refused 14 (at_line at) (codes "unknown part")
fact_refused (fact.Large, at) = refused 15 (at_line at) (codes "circuit too large")

-- ---- the file and the input

-- what an accepted file holds
pub record Loaded : Type 0 where
  pub clauses : List FormClause
  pub declared : Declared
  pub circuits : Circuits

-- the file is accepted
pub record IsLoaded (file : Text) (l : Loaded) : Type 0 where
  pub short : length file ≤ 4194304
  pub reading : IsReading ReadsClause file (Whole l.clauses)
  pub declares : directives l.clauses ≡ record { refusal = None; declared = l.declared }
  pub rules : RulesRefusal l.declared (heads l.clauses) (module_names l.clauses) l.clauses None
  pub facts : FactsRead no_circuits l.clauses None l.circuits

-- the first refusal of the file
pub data FileRefused (file : Text) : Refused → Type 0 where
  long : 4194304 < length file → FileRefused file file_too_long
  unread : {r : Refused} (x : Reading FormClause) → length file ≤ 4194304 → IsReading ReadsClause file x → reading_refused x ≡ Some r → FileRefused file r
  directive : {r : Refused} (cs : List FormClause) (e : Refusal × ℕ) → length file ≤ 4194304 → IsReading ReadsClause file (Whole cs) →
      (directives cs).refusal ≡ Some e → r ≡ sort_refused e → FileRefused file r
  rule : {r : Refused} (cs : List FormClause) (d : Declared) (e : Refusal × ℕ) → length file ≤ 4194304 → IsReading ReadsClause file (Whole cs) →
      directives cs ≡ record { refusal = None; declared = d } → RulesRefusal d (heads cs) (module_names cs) cs (Some e) → r ≡ sort_refused e → FileRefused file r
  a_fact : {r : Refused} (cs : List FormClause) (d : Declared) (e : FactRefusal × ℕ) (c : Circuits) → length file ≤ 4194304 → IsReading ReadsClause file (Whole cs) →
      directives cs ≡ record { refusal = None; declared = d } → RulesRefusal d (heads cs) (module_names cs) cs None →
      FactsRead no_circuits cs (Some e) c → r ≡ fact_refused e → FileRefused file r

-- the first refusal of the queries' names and sorts, with its line
pub data QueriesRefusal (l : Loaded) : List FormQuery → Option (Refusal × ℕ) → Type 0 where
  none : QueriesRefusal l [] None
  passes : {q : FormQuery} {qs : List FormQuery} {r : Option (Refusal × ℕ)} →
      BodyRefusal l.declared (heads l.clauses) (module_names l.clauses) (query_body q.goals) None → QueriesRefusal l qs r → QueriesRefusal l (q ∷ qs) r
  stops : {q : FormQuery} {qs : List FormQuery} {r : Refusal} →
      BodyRefusal l.declared (heads l.clauses) (module_names l.clauses) (query_body q.goals) (Some r) → QueriesRefusal l (q ∷ qs) (Some (r, q.line))

-- the first refusal of the input
pub data InputRefused (l : Loaded) (input : Text) : Refused → Type 0 where
  long : 1048576 < length input → InputRefused l input (refused 20 [] (codes "input too long"))
  unread : {r : Refused} (x : Reading FormQuery) → length input ≤ 1048576 → IsReading ReadsQuery input x → reading_refused x ≡ Some r →
      InputRefused l input (record r { place = codes "query " ++ r.place })
  sorts : {r : Refused} (qs : List FormQuery) (e : Refusal × ℕ) → length input ≤ 1048576 → IsReading ReadsQuery input (Whole qs) →
      QueriesRefusal l qs (Some e) → r ≡ sort_refused e → InputRefused l input (record r { place = codes "query " ++ r.place })

-- ---- verdicts

-- the modules that these use at any depth, from the last module of the file to its first
abbrev pub used_from : List Module → List Text → List Module
used_from [] names = []
used_from (m ∷ ms) names =
    if list_any (bytes_eq m.name) names then m ∷ used_from ms (names ++ map (λ i. i.part) m.instances) else used_from ms names

-- the modules that these use at any depth
abbrev pub used : Circuits → List Text → List Module
used c names = used_from (reversed c.modules) names
  where
    reversed : List Module → List Module
    reversed [] = []
    reversed (m ∷ ms) = reversed ms ++ m ∷ []

-- the bound on nodes for the modules of these names, with the size of a specification
abbrev pub room_of : Circuits → List Text → ℕ → ℕ
room_of c names s =
    room_v (sum_by (λ x. flat_pins (flat_named c.flats x)) names + sum_by instance_pins (used c names)) s
    (length (flat_named c.flats (get_or names 0 [])).outputs) (greatest (map (λ m. length m.inputs) (used c names)))

-- the budget is a number below the bound
abbrev pub BelowNodes : Nodes → ℕ → Type 0
BelowNodes Max room = ⊥
BelowNodes (Only n) room = n < room

-- the lines of a command and its outcome
abbrev pub Says : Type 1
Says = List Text → Outcome → Type 0

-- there is no such module
abbrev pub no_module : Refused
no_module = refused 16 [] (codes "no such module")

-- the module of a name
abbrev pub module_named : Circuits → Text → Option Module
module_named c x = find (λ m. bytes_eq m.name x) c.modules

-- the specification of a name
abbrev pub spec_named : Circuits → Text → Option Spec
spec_named c x = find (λ s. bytes_eq s.name x) c.specs

-- each input has exactly one consistent valuation
abbrev pub IsDetermined : Circuit → Type 0
IsDetermined c = (input : List Bool) → length input ≡ c.inputs → HasOneValuation c input

-- `verify`, where the module and its specification were looked up; that the flattened module has exactly one consistent
-- valuation for each input says that none is verified for want of one
abbrev pub VerifySays : Circuits → Text → Nodes → Option Module → Option Spec → Says
VerifySays c name nodes None s = Refuses no_module
VerifySays c name nodes (Some m) None = Refuses (refused 17 [] (codes "no specification"))
VerifySays c name nodes (Some m) (Some s) = λ lines answer.
    MatchBool (length m.inputs == length s.inputs && length m.outputs == length s.exprs)
    (IsDetermined (circuit_of (flat_named c.flats name)) ×
    Compared (name_text name) (codes "verified ") m.inputs (circuit_of (flat_named c.flats name)) (BySpec s.exprs)
    (BelowNodes nodes (room_of c (name ∷ []) (sum_by expr_size s.exprs))) lines answer)
    (Refuses (refused 18 [] (codes "ports differ")) lines answer)

-- `same`, where the two modules were looked up; each has exactly one consistent valuation for each input
abbrev pub SameSays : Circuits → Text → Text → Nodes → Option Module → Option Module → Says
SameSays c one two nodes None n = Refuses no_module
SameSays c one two nodes (Some m) None = Refuses no_module
SameSays c one two nodes (Some m) (Some n) = λ lines answer.
    MatchBool (length m.inputs == length n.inputs && length m.outputs == length n.outputs)
    (IsDetermined (circuit_of (flat_named c.flats one)) × IsDetermined (circuit_of (flat_named c.flats two)) ×
    Compared (name_text one ++ codes " " ++ name_text two) (codes "same ") m.inputs (circuit_of (flat_named c.flats one))
    (Outputs (circuit_of (flat_named c.flats two))) (BelowNodes nodes (room_of c (one ∷ two ∷ []) 0)) lines answer)
    (Refuses (refused 18 [] (codes "ports differ")) lines answer)

-- ---- queries

-- whether a name begins with `_`
abbrev pub starts_low : Text → Bool
starts_low [] = false
starts_low (x ∷ xs) = x == 95

-- the printed variables with their numbers
abbrev pub printed_from : ℕ → List Text → List (ℕ × Text)
printed_from n [] = []
printed_from n (x ∷ xs) = if starts_low x then printed_from (suc n) xs else (n, x) ∷ printed_from (suc n) xs

-- a query over the file's program, whose names go on behind those of the file
pub record IsQuery (l : Loaded) (gs : List FormGoal) (p : Program) (q : Query) (names : Names) : Type 0 where
  pub signs : List Sign
  pub program : IsProgram l.declared signs (clauses_signs l.clauses ++ goals_signs gs) (module_names l.clauses) l.clauses (map circuit_of l.circuits.flats) p
  pub goals : AreGoals l.declared (query_body gs) (numbering l.declared signs (query_body gs)) (module_names l.clauses) 0 (query_body gs).goals q.goals
  pub sorts : HaveSorts l.declared (query_body gs) (body_variables (query_body gs)) q.sorts
  pub names_are : names ≡ record { names = map (λ a. a.0) signs; constants = l.declared.constants; printed = printed_from 0 (body_variables (query_body gs)) }

-- a line for each answer branch
pub data AreLines (p : Program) (names : Names) : List Branch → List Text → Type 0 where
  no_lines : AreLines p names [] []
  more_lines : {b : Branch} {bs : List Branch} {x : Text} {xs : List Text} → IsLine p names b x → AreLines p names bs xs → AreLines p names (b ∷ bs) (x ∷ xs)

-- the last line of a query
abbrev pub end_text : End → List Text → Text
end_text Ended [] = codes "no"
end_text Ended (x ∷ xs) = codes "end"
end_text (Cut Resolutions) xs = codes "stopped: resolutions"
end_text (Cut Variables) xs = codes "stopped: variables"
end_text (Cut Equations) xs = codes "stopped: equations"

-- whether it is a stop line
abbrev pub is_stop : End → Bool
is_stop Ended = false
is_stop (Cut b) = true

-- the nodes are a number below the bound of the branch
abbrev pub TooFewFor : Program → Names → Nodes → Branch → Type 0
TooFewFor p names Max b = ⊥
TooFewFor p names (Only n) b = BelowRoom p names b n

-- the same of some branch of the stretch
pub record TooFew (p : Program) (names : Names) (nodes : Nodes) (bs : List Branch) : Type 0 where
  pub b : Branch
  pub one : Contains bs b
  pub too_few : TooFewFor p names nodes b

-- the lines of a query, and whether a stop line is the last; nodes may also be too few for the branch that is being made
pub data QuerySays (p : Program) (q : Query) (names : Names) (resolutions : ℕ) (nodes : Nodes) : List Text → Bool → Type 0 where
  all : {lines : List Text} {stop : Bool} (ns : List Note) (end : End) (xs : List Text) → Plain p q resolutions ns end → AreLines p names (printed_of ns) xs →
      lines ≡ xs ++ end_text end xs ∷ [] → stop ≡ is_stop end → QuerySays p q names resolutions nodes lines stop
  few : {lines : List Text} (ns : List Note) (used : ℕ) (s : List Entry) (k : ℕ) (xs : List Text) → SoFar p q resolutions ns used s →
      k ≤ length (printed_of ns) → AreLines p names (take k (printed_of ns)) xs → TooFew p names nodes (stretch_after k ns) →
      lines ≡ xs ++ codes "stopped: nodes" ∷ [] → QuerySays p q names resolutions nodes lines true
  few_adding : {lines : List Text} (ns : List Note) (used : ℕ) (e : Entry) (s : List Entry) (r : ℕ) (below : List Entry) (b : Branch) (xs : List Text) →
      SoFar p q resolutions ns used (e ∷ s) → Moves p e (Adds r below b) → stop_of p resolutions used (Adds r below b) ≡ None →
      AreLines p names (printed_of ns) xs → TooFewFor p names nodes b →
      lines ≡ xs ++ codes "stopped: nodes" ∷ [] → QuerySays p q names resolutions nodes lines true

-- the lines of all queries, and whether one is a stop line
pub data QueriesSay (l : Loaded) (resolutions : ℕ) (nodes : Nodes) : List FormQuery → List Text → Bool → Type 0 where
  no_queries : QueriesSay l resolutions nodes [] [] false
  more_queries : {x : FormQuery} {xs : List FormQuery} {lines : List Text} {stop : Bool} (p : Program) (q : Query) (names : Names) (first rest : List Text) (s t : Bool) →
      IsQuery l x.goals p q names → QuerySays p q names resolutions nodes first s → QueriesSay l resolutions nodes xs rest t →
      lines ≡ first ++ rest → stop ≡ (s || t) → QueriesSay l resolutions nodes (x ∷ xs) lines stop

-- the outcome of `run`
abbrev pub run_outcome : Bool → Outcome
run_outcome true = outcome.Stopped
run_outcome false = outcome.Done

-- ---- the commands

-- the rules that are not facts
abbrev pub clause_count : List FormClause → ℕ
clause_count [] = 0
clause_count (Rule n f b gs ∷ cs) = if is_fact (Rule n f b gs) then clause_count cs else suc (clause_count cs)
clause_count (c ∷ cs) = clause_count cs

-- the line of `check`
abbrev pub checked_text : Loaded → Text
checked_text l =
    codes "checked: " ++ decimal (clause_count l.clauses) ++ codes " clauses, " ++ decimal (length l.circuits.modules) ++ codes " modules"

-- what a command says over an accepted file
abbrev pub LoadedSays : Command → Text → Loaded → Says
LoadedSays (Check f) input l lines answer = (lines ≡ checked_text l ∷ []) × (answer ≡ outcome.Done)
LoadedSays (Verify f name nodes) input l lines answer =
    VerifySays l.circuits name nodes (module_named l.circuits name) (spec_named l.circuits name) lines answer
LoadedSays (Same f one two nodes) input l lines answer =
    SameSays l.circuits one two nodes (module_named l.circuits one) (module_named l.circuits two) lines answer
LoadedSays (Run f resolutions nodes) input l lines answer =
    ((r : Refused) × (InputRefused l input r × Refuses r lines answer)) ⊎
    ((qs : List FormQuery) × (stop : Bool) × (length input ≤ 1048576) × (IsReading ReadsQuery input (Whole qs)) × (QueriesRefusal l qs None) ×
    (QueriesSay l resolutions nodes qs lines stop) × (answer ≡ run_outcome stop))
LoadedSays (Make n nodes) input l lines answer =
    ((lines ≡ (codes "verified adder: inputs " ++ decimal (2 * n + 1) ++ codes ", outputs " ++ decimal (n + 1) ++ codes ", gates " ++ decimal (5 * n)) ∷ []) × (answer ≡ outcome.Done)) ⊎
    (BelowNodes nodes (room_of l.circuits (codes "adder" ∷ []) (sum_by (λ s. sum_by expr_size s.exprs) l.circuits.specs)) × (lines ≡ codes "stopped: nodes" ∷ []) × (answer ≡ outcome.Stopped))

-- what a command says over the bytes of its file
abbrev pub FileSays : Command → Text → Text → Says
FileSays c file input lines answer =
    ((r : Refused) × (FileRefused file r × Refuses r lines answer)) ⊎ ((l : Loaded) × (IsLoaded file l × LoadedSays c input l lines answer))

-- ---- the whole

-- the file that a command reads; `make` makes its own
abbrev pub source_of : Command → Text → Text
source_of (Make n nodes) file = adder_text n
source_of c file = file

-- what the words say
abbrev pub CommandSays : Option Command → Text → Text → Says
CommandSays None file input = Refuses usage
CommandSays (Some c) file input = FileSays c (source_of c file) input

-- the text and the outcome belong to these words, this file and this input
pub record Output (words : List Text) (file input text : Text) (answer : Outcome) : Type 0 where
  pub lines : List Text
  pub says : CommandSays (command_of words) file input lines answer
  pub is : text ≡ lines_text lines

-- ---- what was written where a run broke off

-- the queries' texts so far: those of some queries whole, and then a prefix of lines that the next one has printed
pub data QueriesBegin (l : Loaded) (resolutions : ℕ) (nodes : Nodes) : List FormQuery → Text → Type 0 where
  within : {x : FormQuery} {xs : List FormQuery} {text : Text} (p : Program) (q : Query) (names : Names) (ns : List Note) (used : ℕ) (s : List Entry) (ls : List Text) →
      IsQuery l x.goals p q names → SoFar p q resolutions ns used s → AreLines p names (printed_of ns) ls → IsPrefix text (lines_text ls) →
      QueriesBegin l resolutions nodes (x ∷ xs) text
  in_last : {x : FormQuery} {xs : List FormQuery} {text : Text} (p : Program) (q : Query) (names : Names) (ls : List Text) (stop : Bool) →
      IsQuery l x.goals p q names → QuerySays p q names resolutions nodes ls stop → IsPrefix text (lines_text ls) → QueriesBegin l resolutions nodes (x ∷ xs) text
  behind : {x : FormQuery} {xs : List FormQuery} {text : Text} (p : Program) (q : Query) (names : Names) (ls : List Text) (stop : Bool) (rest : Text) →
      IsQuery l x.goals p q names → QuerySays p q names resolutions nodes ls stop → QueriesBegin l resolutions nodes xs rest → text ≡ lines_text ls ++ rest →
      QueriesBegin l resolutions nodes (x ∷ xs) text

-- the text is nothing, or it begins the text of an output, or what the queries of `run` have printed so far
pub data OutputBegins (words : List Text) (file input text : Text) : Type 0 where
  nothing_yet : text ≡ [] → OutputBegins words file input text
  begins : (whole : Text) (answer : Outcome) → Output words file input whole answer → IsPrefix text whole → OutputBegins words file input text
  so_far : (f : Text) (resolutions : ℕ) (nodes : Nodes) (l : Loaded) (qs : List FormQuery) → command_of words ≡ Some (Run f resolutions nodes) → IsLoaded file l →
      length input ≤ 1048576 → IsReading ReadsQuery input (Whole qs) → QueriesRefusal l qs None → QueriesBegin l resolutions nodes qs text →
      OutputBegins words file input text

-- ---- what was taken of the input

-- what is behind its limit and one byte more is left of the input; of one that isn't too long that is nothing
abbrev pub ReadWhole : Text → Option Text → Type 0
ReadWhole input after = after ≡ Some (drop 1048577 input)

-- what is left of the input after a run that no fault and no want of memory ended: only `run` over an accepted file reads it
abbrev pub TakesBy : Option Command → Text → Text → Option Text → Type 0
TakesBy (Some (Run f r n)) file input after =
    ((l : Loaded) × (IsLoaded file l × ReadWhole input after)) ⊎ (((l : Loaded) → IsLoaded file l → ⊥) × (after ≡ Some input))
TakesBy _ file input after = after ≡ Some input
