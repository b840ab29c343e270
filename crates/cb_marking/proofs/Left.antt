-- A walk, with the places that are left.
use Rattle.std.specs.Prelude.{MatchResult}
use Rattle.std.proofs.Common.{◌≡◌, Bool, true, false, ◌&&◌, List, [], ◌∷◌, ◌++◌, Result, Ok, Err, refl, sym, ◌∙◌, ap}
use Rattle.cb_model.specs.Directives.{Declared}
use Rattle.cb_model.specs.Sorts.{Place}
use Rattle.cb_marking.specs.declared.links.Stop.{Stop}
use Rattle.cb_marking.specs.declared.links.Stop.TheVariants as stop
use Rattle.cb_marking.specs.declared.walk.Walk.{Walk}
use Rattle.cb_marking.specs.Places.{place_fits}
use Rattle.cb_marking.specs.Walk.{at, walked, all_fit, Walks, Stops}

pub walked-append : (w : Walk) (ps qs : List Place) → walked w (ps ++ qs) ≡ walked (walked w ps) qs
walked-append w [] qs = refl
walked-append w (p ∷ ps) qs = walked-append (at w p.0 p.1) ps qs

pub all_fit-append : (d : Declared) (ps qs : List Place) → all_fit d (ps ++ qs) ≡ (all_fit d ps && all_fit d qs)
all_fit-append d [] qs = refl
all_fit-append d (p ∷ ps) qs = ap (λ (b : Bool). place_fits d p && b) (all_fit-append d ps qs) ∙ step (place_fits d p) (all_fit d ps) (all_fit d qs)
  where
    step : (a b c : Bool) → (a && (b && c)) ≡ ((a && b) && c)
    step true b c = refl
    step false b c = refl

-- from these places on the rest is still to be met
pub record Left (d : Declared) (old : Walk) (all : List Place) (now : Walk) (rest : List Place) : Type 0 where
  pub same : walked old all ≡ walked now rest
  pub fit : all_fit d all ≡ all_fit d rest

pub left_start : (d : Declared) (w : Walk) (ps : List Place) → Left d w ps w ps
left_start d w ps = record { same = refl; fit = refl }

module _ (d : Declared) (old : Walk) (all : List Place) (now : Walk) where
  module _ (left ps rest : List Place) (l : Left d old all now left) (e : left ≡ ps ++ rest) where
    pub left_on : (new : Walk) → Walks d now ps new → Left d old all new rest
    left_on new w = record {
      same = l.same ∙ ap (walked now) e ∙ walked-append now ps rest ∙ ap (λ (v : Walk). walked v rest) (sym w.is_walked);
      fit = l.fit ∙ ap (all_fit d) e ∙ all_fit-append d ps rest ∙ ap (λ (b : Bool). b && all_fit d rest) w.fits;
    }

    pub left_stop : (e : Stop) → Stops d ps e → Stops d all e
    left_stop stop.Clash h = l.fit ∙ ap (all_fit d) e ∙ all_fit-append d ps rest ∙ ap (λ (b : Bool). b && all_fit d rest) h
    left_stop stop.Memory h = tt

  pub left_end : (left : List Place) → Left d old all now left → left ≡ [] → Walks d old all now
  left_end left l e = record { fits = l.fit ∙ ap (all_fit d) e; is_walked = sym (l.same ∙ ap (walked now) e) }

  -- the last places
  pub left_last : (ps : List Place) → Left d old all now ps → (r : Result (Unit {0}) Stop) (new : Walk) → MatchResult r (λ _. Walks d now ps new) (Stops d ps) → MatchResult r (λ _. Walks d old all new) (Stops d all)
  left_last ps l (Ok x) new w = record { fits = l.fit ∙ w.fits; is_walked = w.is_walked ∙ sym l.same }
  left_last ps l (Err e) new h = stops e h
    where
      stops : (e : Stop) → Stops d ps e → Stops d all e
      stops stop.Clash h = l.fit ∙ h
      stops stop.Memory h = tt
