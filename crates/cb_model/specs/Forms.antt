-- A written term without the places of its names in memory.
use Rattle.std.specs.Prelude.{List, [], ◌∷◌, map, Option, Some, None}
use Rattle.cb_model.specs.declared.RawTerm.{RawTerm}
use Rattle.cb_model.specs.declared.RawTerm.TheOpen.{RawTerm-F}
use Rattle.cb_model.specs.declared.RawTerm.TheFolds.{fold-RawTerm}
use Rattle.cb_model.specs.declared.RawGoal.{RawGoal}
use Rattle.cb_model.specs.declared.RawGoal.TheVariants as raw_goal
use Rattle.cb_model.specs.declared.RawClause.{RawClause}
use Rattle.cb_model.specs.declared.RawClause.TheVariants as raw_clause
use Rattle.cb_model.specs.declared.RawQuery.{RawQuery}
use Rattle.cb_model.specs.Grammar.{Form, Forms, Variable, Integer, Name, Closed, Open, Not, And, Xor, Or, Last, More, FormGoal, ACall, AnEqual, FormClause, Directive, Rule, FormQuery}

-- a list of forms
abbrev pub forms_of : List Form → Forms
forms_of [] = Last
forms_of (f ∷ fs) = More f (forms_of fs)

-- a list, with a tail or without
abbrev pub list_form : Forms → Option Form → Form
list_form fs None = Closed fs
list_form fs (Some f) = Open fs f

-- one layer
abbrev pub form_step : RawTerm-F Form → Form
form_step (RawTerm-F.Variable x) = Variable x.now
form_step (RawTerm-F.Integer z) = Integer z
form_step (RawTerm-F.Name x fs) = Name x.now (forms_of fs)
form_step (RawTerm-F.List fs t) = list_form (forms_of fs) t
form_step (RawTerm-F.Not f) = Not f
form_step (RawTerm-F.And fs) = And (forms_of fs)
form_step (RawTerm-F.Xor fs) = Xor (forms_of fs)
form_step (RawTerm-F.Or fs) = Or (forms_of fs)

-- the form of a written term
abbrev pub form_of : RawTerm → Form
form_of = fold-RawTerm Form form_step

-- the form of a written goal
abbrev pub goal_form : RawGoal → FormGoal
goal_form (raw_goal.Call t) = ACall (form_of t)
goal_form (raw_goal.Equal l r) = AnEqual (form_of l) (form_of r)

-- the form of a written clause
abbrev pub clause_form : RawClause → FormClause
clause_form (raw_clause.Directive line word args) = Directive line word.now (forms_of (map form_of args))
clause_form (raw_clause.Rule line head bodied body) = Rule line (form_of head) bodied (map goal_form body)

-- the form of a written query
abbrev pub query_form : RawQuery → FormQuery
query_form q = record { line = q.line; goals = map goal_form q.goals }
