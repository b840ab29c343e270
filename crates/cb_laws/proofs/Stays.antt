-- A goal that is ready stays ready after more equations.
use Rattle.std.proofs.Common.{ℕ, Bool, true, false, List, [], ◌∷◌, ◌++◌}
use Rattle.cb_model.specs.Bits.{Bits, Each}
use Rattle.cb_model.specs.Values.{World, Valuation}
use Rattle.cb_model.specs.Equations.{Meets, Item, Holds}
use Rattle.cb_model.specs.declared.When.{When}
use Rattle.cb_model.specs.declared.When.TheVariants as when
use Rattle.cb_model.specs.declared.Tree.{Tree}
use Rattle.cb_model.specs.declared.Goal.TheVariants as goal
use Rattle.cb_model.specs.Program.{Program}
use Rattle.cb_model.specs.Derivation.{WordHolds, WordsHold, RuleMatches, is_demon, words_of}
use Rattle.cb_laws.specs.Laws.{ReadyStays}

each_front : {A : Type 0} (P : A → Type 0) (xs ys : List A) → Each P (xs ++ ys) → Each P xs
each_front P [] ys h = tt
each_front P (x ∷ xs) ys h = (h.0, each_front P xs ys h.1)

meets_front : (t : World) (es more : List Item) (a : Bits) (b : Valuation) → Meets t (es ++ more) a b → Meets t es a b
meets_front t es more a b m = record { admitted = m.admitted; sorted = m.sorted; sat = each_front (Holds a b) es more m.sat }

word_stays : (t : World) (es more : List Item) (w : When) (x : Tree) → WordHolds t es w x → WordHolds t (es ++ more) w x
word_stays t es more when.Any x h = tt
word_stays t es more when.Known x h = λ a b b' m m'. h a b b' (meets_front t es more a b m) (meets_front t es more a b' m')
word_stays t es more when.Fixed x h = (h.0, λ a b m. h.1 a b (meets_front t es more a b m))
word_stays t es more when.Nonvar x h = (h.0, λ a b m. h.1 a b (meets_front t es more a b m))

words_stay : (t : World) (es more : List Item) (ws : List When) (xs : List Tree) → WordsHold t es ws xs → WordsHold t (es ++ more) ws xs
words_stay t es more [] xs h = tt
words_stay t es more (w ∷ ws) (x ∷ xs) h = (word_stays t es more w x h.0, words_stay t es more ws xs h.1)
words_stay t es more (w ∷ ws) [] h = absurd h

rule_stays : (p : Program) (es more : List Item) (pred : ℕ) (args : List Tree) (k : ℕ) → RuleMatches p es pred args k → RuleMatches p (es ++ more) pred args k
rule_stays p es more pred args k r =
    record { rule = r.rule; is_rule = r.is_rule; of_pred = r.of_pred; matches = λ a b m. r.matches a b (meets_front p.world es more a b m) }

abbrev CallReady : Program → List Item → ℕ → List Tree → Bool → Type 0
CallReady p es pred args demon =
    Rattle.std.specs.Prelude.MatchBool demon ((k : ℕ) × RuleMatches p es pred args k) (WordsHold p.world es (words_of p pred) args)

call_stays : (p : Program) (es more : List Item) (pred : ℕ) (args : List Tree) (demon : Bool) → CallReady p es pred args demon → CallReady p (es ++ more) pred args demon
call_stays p es more pred args true h = (h.0, rule_stays p es more pred args h.0 h.1)
call_stays p es more pred args false h = words_stay p.world es more (words_of p pred) args h

pub ready_stays : ReadyStays
ready_stays p es more (goal.Call pred args) h = call_stays p es more pred args (is_demon p pred) h
ready_stays p es more goal.True h = tt
ready_stays p es more goal.Fail h = tt
ready_stays p es more (goal.Equal l r) h = tt
ready_stays p es more (goal.Circuit m i o) h = tt
