-- One module or specification more.
use Rattle.std.proofs.Common.{◌≡◌, suc, ◌+◌, ◌<◌, ◌≤◌, ◌^◌, Bool, true, false, ◌||◌, List, [], ◌∷◌, ◌++◌, map, length, get_or, None, is_some, bytes_eq, refl, sym, ◌∙◌, ap, subst, arith, length-append}
use Rattle.std.specs.Bool.{if◌then◌else◌}
use Rattle.std.specs.List.{list_any}
use Rattle.std.proofs.lemmas.Bool.{true≢false}
use Rattle.std.proofs.lemmas.List.{length-map, map-append}
use Rattle.cb_model.specs.Bits.{Each}
use Rattle.cb_model.specs.Text.{Text}
use Rattle.cb_model.specs.Loading.{add_name}
use Rattle.cb_model.specs.Circuits.{Flat, Module, gate_names, kind_named, placed_from, part_of, driver_within, flat, flats}
use Rattle.cb_model.specs.Facts.{Circuits, Spec, ModuleRefusal, is_part, with_module, with_spec}
use Rattle.cb_facts.specs.Ports.{spec_view}
use Rattle.cb_facts.proofs.Different.{eq-turned}
use Rattle.cb_flat.proofs.Places.{list_any-map}
use Rattle.cb_circ.specs.declared.circuits.Entry.{Entry}
use Rattle.cb_circ.specs.declared.circuits.SpecEntry.{SpecEntry}
use Rattle.cb_circ.specs.Kept.{IsEntry, AreEntries, IsSpecEntry, IsKept}
use Rattle.cb_circ.specs.View.{modules_of, module_view, circuits_view, IsWell}
use Rattle.cb_circ.specs.Reading.{is_spec_name}
use Rattle.cb_circ.proofs.Refusing.{names-are, whole}

flats-push : (fs : List Flat) (ms : List Module) (m : Module) → flats fs (ms ++ m ∷ []) ≡ flats fs ms ++ flat (flats fs ms) m ∷ []
flats-push fs [] m = refl
flats-push fs (n ∷ ms) m = flats-push (fs ++ flat fs n ∷ []) ms m

modules-push : (es : List Entry) (e : Entry) → modules_of (es ++ e ∷ []) ≡ modules_of es ++ module_view e.raw ∷ []
modules-push es e = map-append (λ (e : Entry). module_view e.raw) es (e ∷ [])

pub all-flats : (es : List Entry) (e : Entry) → flats [] (modules_of (es ++ e ∷ [])) ≡ flats [] (modules_of es) ++ flat (flats [] (modules_of es)) (module_view e.raw) ∷ []
all-flats es e = ap (flats []) (modules-push es e) ∙ flats-push [] (modules_of es) (module_view e.raw)

pub view-push : (es : List Entry) (e : Entry) (ss : List SpecEntry) → circuits_view (es ++ e ∷ []) ss ≡ with_module (circuits_view es ss) (module_view e.raw)
view-push es e ss = λ j. record { modules = modules-push es e j; flats = all-flats es e j; specs = map (λ (s : SpecEntry). spec_view s.raw) ss }

entries-push : (fs : List Flat) (es : List Entry) (f : Flat) (e : Entry) → AreEntries fs es → IsEntry f e → AreEntries (fs ++ f ∷ []) (es ++ e ∷ [])
entries-push [] [] f e a i = (i, tt)
entries-push [] (x ∷ es) f e a i = absurd a
entries-push (g ∷ fs) [] f e a i = absurd a
entries-push (g ∷ fs) (x ∷ es) f e a i = (a.0, entries-push fs es f e a.1 i)

any-turned : (x : Text) (fs : List Flat) → list_any (λ (f : Flat). bytes_eq x f.name) fs ≡ list_any (λ (f : Flat). bytes_eq f.name x) fs
any-turned x fs = λ i. list_any (λ (f : Flat). eq-turned x f.name i) fs

specs-turned : (x : Text) (ss : List Spec) → list_any (λ (s : Spec). bytes_eq x s.name) ss ≡ list_any (λ (s : Spec). bytes_eq s.name x) ss
specs-turned x ss = λ i. list_any (λ (s : Spec). eq-turned x s.name i) ss

accepted-new : (fs : List Flat) (m : Module) → ModuleRefusal fs m None → is_part fs m.name ≡ false
accepted-new fs m r = step (is_part fs m.name) refl r
  where
    step : (b : Bool) → is_part fs m.name ≡ b → whole fs m None b → is_part fs m.name ≡ false
    step true e r = absurd (cc)
    step false e r = e

part-new : (fs : List Flat) (x : Text) → is_part fs x ≡ false → list_any (λ (f : Flat). bytes_eq f.name x) fs ≡ false
part-new fs x e = step (is_some (kind_named gate_names x)) e
  where
    step : (b : Bool) → (b || list_any (λ (f : Flat). bytes_eq f.name x) fs) ≡ false → list_any (λ (f : Flat). bytes_eq f.name x) fs ≡ false
    step true e = absurd (true≢false e)
    step false e = e

added : (ns : List Text) (x : Text) → list_any (bytes_eq x) ns ≡ false → add_name ns x ≡ ns ++ x ∷ []
added ns x e = ap (λ b. if b then ns else ns ++ x ∷ []) e

module _ (es : List Entry) (names : List Text) (ss : List SpecEntry) (spec_names : List Text) (v : Circuits) (is : circuits_view es ss ≡ v) (k : IsKept es names ss spec_names) where
  pub spec-known : (x : Text) → list_any (bytes_eq x) spec_names ≡ is_spec_name v x
  spec-known x =
      ap (list_any (bytes_eq x)) k.specs_named ∙ list_any-map (bytes_eq x) (λ (s : SpecEntry). s.raw.name.now) ss ∙ sym (list_any-map (λ (s : Spec). bytes_eq x s.name) (λ (s : SpecEntry). spec_view s.raw) ss)
      ∙ specs-turned x (map (λ (s : SpecEntry). spec_view s.raw) ss) ∙ ap (λ (c : Circuits). is_spec_name c x) is

  module _ (e : Entry) (w : IsWell e.raw) (new : ModuleRefusal v.flats (module_view e.raw) None) where
    name-new : list_any (bytes_eq e.raw.name.now) names ≡ false
    name-new =
        ap (list_any (bytes_eq e.raw.name.now)) (k.named ∙ names-are es) ∙ list_any-map (bytes_eq e.raw.name.now) (λ (f : Flat). f.name) (flats [] (modules_of es)) ∙ any-turned e.raw.name.now (flats [] (modules_of es))
        ∙ ap (λ (c : Circuits). list_any (λ (f : Flat). bytes_eq f.name e.raw.name.now) c.flats) is ∙ part-new v.flats e.raw.name.now (accepted-new v.flats (module_view e.raw) new)

    pub kept-module : (names2 : List Text) → names2 ≡ add_name names e.raw.name.now → e.outputs ≡ length e.raw.outputs.items → e.gates ≡ length (flat v.flats (module_view e.raw)).gates → e.gates ≤ 1000000 → length es + 1 < 2 ^ 32
        → IsKept (es ++ e ∷ []) names2 ss spec_names
    kept-module names2 n o g s few = record {
      named = n ∙ added names e.raw.name.now name-new ∙ ap (λ (l : List Text). l ++ e.raw.name.now ∷ []) k.named ∙ sym (map-append (λ (e : Entry). e.raw.name.now) es (e ∷ []));
      specs_named = k.specs_named;
      entries = subst (λ (fs : List Flat). AreEntries fs (es ++ e ∷ [])) (sym (all-flats es e)) (entries-push (flats [] (modules_of es)) es (flat (flats [] (modules_of es)) (module_view e.raw)) e k.entries (record {
        well = w;
        ins = w.count;
        outs = o ∙ sym (length-map e.raw.outputs.items (λ n. get_or e.raw.nets n [])) ∙ sym (length-map (module_view e.raw).outputs (driver_within (suc (length (module_view e.raw).instances)) (module_view e.raw).inputs (placed_from (part_of (flats [] (modules_of es))) 0 (module_view e.raw).instances)));
        outputs = o;
        gates = g ∙ ap (λ (c : Circuits). length (flat c.flats (module_view e.raw)).gates) (sym is);
        small = s;
      }));
      scopes = k.scopes;
      few = let l = length-append es (e ∷ []) in omega (arith, l, few);
      few_specs = k.few_specs;
    }

  each-push : (ss : List SpecEntry) (s : SpecEntry) → Each IsSpecEntry ss → IsSpecEntry s → Each IsSpecEntry (ss ++ s ∷ [])
  each-push [] s a i = (i, tt)
  each-push (t ∷ ss) s a i = (a.0, each-push ss s a.1 i)

  module _ (s : SpecEntry) (new : is_spec_name v s.raw.name.now ≡ false) where
    pub kept-spec : (names2 : List Text) → names2 ≡ add_name spec_names s.raw.name.now → IsSpecEntry s → length ss + 1 < 2 ^ 32 → IsKept es names (ss ++ s ∷ []) names2
    kept-spec names2 n i few = record {
      named = k.named;
      specs_named = n ∙ added spec_names s.raw.name.now (spec-known s.raw.name.now ∙ new) ∙ ap (λ (l : List Text). l ++ s.raw.name.now ∷ []) k.specs_named ∙ sym (map-append (λ (s : SpecEntry). s.raw.name.now) ss (s ∷ []));
      entries = k.entries;
      scopes = each-push ss s k.scopes i;
      few = k.few;
      few_specs = let l = length-append ss (s ∷ []) in omega (arith, l, few);
    }

pub view-spec : (es : List Entry) (ss : List SpecEntry) (s : SpecEntry) → circuits_view es (ss ++ s ∷ []) ≡ with_spec (circuits_view es ss) (spec_view s.raw)
view-spec es ss s = λ j. record { modules = modules_of es; flats = flats [] (modules_of es); specs = map-append (λ (s : SpecEntry). spec_view s.raw) ss (s ∷ []) j }
