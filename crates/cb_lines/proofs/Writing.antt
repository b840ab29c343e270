-- What is written where a run ends, and the counts of faults.
use Rattle.std.proofs.Common.{◌≡◌, ℕ, ◌≤◌, [], ◌∷◌, take, drop, List, Option, refl, sym, subst, ◌∙◌}
use Rattle.std.proofs.lemmas.List.{take-append-drop}
use Rattle.cb_model.specs.declared.Outcome.{Outcome}
use Rattle.cb_model.specs.declared.Outcome.TheVariants as outcome
use Rattle.cb_model.specs.declared.Side.TheVariants as side
use Rattle.cb_model.specs.Text.{Text, lines_text, IsPrefix}
use Rattle.cb_model.specs.Refusals.{Refused, Refuses, refusal_line}
use Rattle.cb_model.specs.Outside.{Rose, Wrote}
use Rattle.cb_model.specs.Faults.{Counted}
use Rattle.cb_lines.specs.declared.ended.Ended.{Ended}
use Rattle.cb_lines.specs.declared.ended.Ended.TheVariants as ended
use Rattle.cb_lines.specs.Ends.{IsDecided, IsRefusal, EndsBy, Finishes, all_written, cut_off, EndTold, Writes, whole, broken, wanting, IsSaid, BeginsSaying, Tells, Refusing, nothing_yet, begins, line_bytes}

-- ---- counts of faults

-- nothing failed
pub none_counted : {Failed : Type 0} (before now : ℕ) → (Failed → ⊥) → now ≡ before → Counted Failed before now
none_counted before now n e = record { rose = λ f. absurd (n f); kept = λ _. e }

-- it failed
pub one_counted : {Failed : Type 0} (before now : ℕ) → Failed → Rose before now → Counted Failed before now
one_counted before now f r = record { rose = λ _. r; kept = λ n. absurd (n f) }

-- the same under another name of the failure
pub counted_as : {A B : Type 0} (before now : ℕ) → (B → A) → (A → B) → Counted A before now → Counted B before now
counted_as before now f g c = record { rose = λ b. c.rose (f b); kept = λ n. c.kept (λ a. n (g a)) }

-- the same where the count hadn't moved before
pub counted_from : {A : Type 0} (before mid now : ℕ) → mid ≡ before → Counted A mid now → Counted A before now
counted_from {A} before mid now e c = subst (λ n. Counted A n now) e c

-- a decided outcome is no fault
pub decided_not : (o : Outcome) → IsDecided o → o ≡ outcome.Fault side.Output → ⊥
decided_not o d e = subst IsDecided e d

-- ---- ends

-- an end for one reason is one for another
pub ends_for : {P Q : Refused → Type 0} {F G : Type 0} (e : Ended) → ((r : Refused) → P r → Q r) → (F → G) → EndsBy P F e → EndsBy Q G e
ends_for (ended.Refused l n) f g h = (h.0, (f h.0 h.1.0, h.1.1))
ends_for ended.FileFailed f g h = g h
ends_for ended.Memory f g h = tt

-- ---- texts

pub prefix-of : (n : ℕ) (text : Text) → IsPrefix (take n text) text
prefix-of n text = (drop n text, take-append-drop n text)

-- what is finished is written
pub finish-writes : {W : Text → Outcome → Type 0} {B : Text → Type 0} {before after : Option Text} {text : Text} {wanted result : Outcome} → W text wanted → ((n : ℕ) → B (take n text)) →
    Finishes before after text wanted result → Writes W B before after result
finish-writes {W} {text = text} h b (all_written e w) = whole text (subst (W text) (sym e) h) w
finish-writes {text = text} h b (cut_off n e w) = broken (take n text) (b n) e w

pub finish-tells : {Says : List Text → Outcome → Type 0} {before after : Option Text} {text : Text} {wanted result : Outcome} → IsSaid Says text wanted →
    Finishes before after text wanted result → Tells Says before after result
finish-tells {text = text} {wanted = wanted} h f = finish-writes h (λ n. begins text wanted h (prefix-of n text)) f

pub map-writes : {W V : Text → Outcome → Type 0} {B C : Text → Type 0} {before after : Option Text} {result : Outcome} → ((t : Text) (o : Outcome) → W t o → V t o) → ((t : Text) → B t → C t) →
    Writes W B before after result → Writes V C before after result
map-writes f g (whole t h w) = whole t (f t _ h) w
map-writes f g (broken t h e w) = broken t (g t h) e w
map-writes f g (wanting t h e w) = wanting t (g t h) e w

-- what is said is said in another sense
pub map-said : {S T : List Text → Outcome → Type 0} → ((lines : List Text) (o : Outcome) → S lines o → T lines o) → (t : Text) (o : Outcome) → IsSaid S t o → IsSaid T t o
map-said f t o h = record { lines = h.lines; says = f h.lines o h.says; is = h.is }

pub map-begins : {S T : List Text → Outcome → Type 0} → ((lines : List Text) (o : Outcome) → S lines o → T lines o) → (t : Text) → BeginsSaying S t → BeginsSaying T t
map-begins f t (nothing_yet e) = nothing_yet e
map-begins f t (begins all o h p) = begins all o (map-said f all o h) p

pub map-tells : {S T : List Text → Outcome → Type 0} {before after : Option Text} {result : Outcome} → ((lines : List Text) (o : Outcome) → S lines o → T lines o) → Tells S before after result → Tells T before after result
map-tells f h = map-writes (λ t o k. map-said f t o k) (λ t k. map-begins f t k) h

-- the line of a refusal is said
pub refusal-said : (r : Refused) (text : Text) (n : ℕ) → IsRefusal r text n → IsSaid (Refuses r) text (outcome.Refused n)
refusal-said r text n h = record { lines = refusal_line r ∷ []; says = (refl, let e = h.number in cc); is = h.line }

-- what is written where a run ended
pub data Ending (Why : Refused → Type 0) (MayFail : Type 0) (before after : Option Text) (result : Outcome) : Type 0 where
  by_refusal : (r : Refused) → Why r → Refusing r before after result → Ending Why MayFail before after result
  by_fault : MayFail → result ≡ outcome.Fault side.File → Wrote before after [] → Ending Why MayFail before after result
  by_want : result ≡ outcome.Memory → Wrote before after [] → Ending Why MayFail before after result

pub ending : {Why : Refused → Type 0} {MayFail : Type 0} {before after : Option Text} {result : Outcome} (e : Ended) → EndsBy Why MayFail e → EndTold e before after result → Ending Why MayFail before after result
ending (ended.Refused l n) h t = by_refusal h.0 h.1.0 (finish-tells (refusal-said h.0 (line_bytes l) n h.1.1) t)
ending ended.FileFailed h t = by_fault h t.0 t.1
ending ended.Memory h t = by_want t.0 t.1
