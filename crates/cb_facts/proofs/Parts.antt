-- Instances and modules from their parts.
use Rattle.std.proofs.Common.{◌≡◌, ℕ, Bool, true, false, List, [], ◌∷◌, ◌++◌, map, length, take, Option, Some, None, refl, sym, ◌∙◌, ap, subst}
use Rattle.std.specs.Bool.{if◌then◌else◌}
use Rattle.std.proofs.Math.Seq.{take-append_seam}
use Rattle.std.proofs.lemmas.Option.{same_Some}
use Rattle.cb_model.specs.Text.{Text, all_different}
use Rattle.cb_model.specs.Grammar.{Form, Forms, Name, Closed, Last, More}
use Rattle.cb_model.specs.Sorts.{apart, apart_all}
use Rattle.cb_model.specs.Circuits.{Instance, Module}
use Rattle.cb_model.specs.Facts.{net_names, instance_with, instance_of, instances_in, module_with, module_of, spec_of}
use Rattle.cb_facts.specs.Terms.{elements_in, two_in, three_in, four_in}
use Rattle.cb_facts.specs.declared.nets.Nets.{Nets}
use Rattle.cb_facts.specs.declared.modules.Rest.{Rest}
use Rattle.cb_facts.specs.declared.modules.RawModule.{RawModule}
use Rattle.cb_facts.specs.Reads.{AreNumbers, AreInstances, Grows, ReadsList, ReadsInputs, ReadsInstance, ReadsInstances}
use Rattle.cb_facts.specs.Modules.{texts, IsModule, ReadsModule}
use Rattle.cb_facts.specs.Rest.{rest_of, ReadsRest, IsRest}
use Rattle.cb_facts.proofs.Steps.{adds-grown, grown-more, numbers-kept}

-- ---- shapes

pub closed-is : (f : Form) (fs : Forms) → Some fs ≡ elements_in f → f ≡ Closed fs
closed-is (Closed gs) fs e = cc
closed-is _ fs e = absurd (cc)

pub two-is : (fs : Forms) (f g : Form) → Some (f, g) ≡ two_in fs → fs ≡ More f (More g Last)
two-is Last f g e = absurd (cc)
two-is (More a Last) f g e = absurd (cc)
two-is (More a (More b Last)) f g e =
    let p = same_Some (f, g) (a, b) e in
    ap (λ (x : Form). More x (More b Last)) (sym (ap (λ (q : Form × Form). q.0) p)) ∙ ap (λ (x : Form). More f (More x Last)) (sym (ap (λ (q : Form × Form). q.1) p))
two-is (More a (More b (More c fs))) f g e = absurd (cc)

pub four-is : (fs : Forms) (f g h k : Form) → Some (f, g, h, k) ≡ four_in fs → fs ≡ More f (More g (More h (More k Last)))
four-is Last f g h k e = absurd (cc)
four-is (More a Last) f g h k e = absurd (cc)
four-is (More a (More b Last)) f g h k e = absurd (cc)
four-is (More a (More b (More c Last))) f g h k e = absurd (cc)
four-is (More a (More b (More c (More d Last)))) f g h k e =
    let p = same_Some (f, g, h, k) (a, b, c, d) e in
    ap (λ (x : Form). More x (More b (More c (More d Last)))) (sym (ap (λ (q : Form × Form × Form × Form). q.0) p))
    ∙ ap (λ (x : Form). More f (More x (More c (More d Last)))) (sym (ap (λ (q : Form × Form × Form × Form). q.1) p))
    ∙ ap (λ (x : Form). More f (More g (More x (More d Last)))) (sym (ap (λ (q : Form × Form × Form × Form). q.2) p))
    ∙ ap (λ (x : Form). More f (More g (More h (More x Last)))) (sym (ap (λ (q : Form × Form × Form × Form). q.3) p))
four-is (More a (More b (More c (More d (More z fs))))) f g h k e = absurd (cc)

list-grown : (old new : Nets) (f : Form) (ks : List ℕ) → ReadsList old new f ks → Grows old.names new.names
list-grown old new f ks r = let g = adds-grown old.names r.xs in (g.0, r.names ∙ g.1)

-- ---- an instance

pub instance-read : (old mid new : Nets) (f : Form) (part : Text) (fs : Forms) (a b : Form) (ins outs : List ℕ) → f ≡ Name part fs → Some (a, b) ≡ two_in fs → ReadsList old mid a ins → ReadsList mid new b outs
    → ReadsInstance old new f part ins outs
instance-read old mid new f part fs a b ins outs e two p q =
    subst (λ (g : Form). ReadsInstance old new g part ins outs) (sym (e ∙ ap (Name part) (two-is fs a b two))) (record {
      i = record { part = part; ins = p.xs; outs = q.xs };
      is = ap (λ o. instance_with part (net_names (apart a old.own).0) (net_names (apart b o).0)) (sym p.own)
          ∙ ap (λ o. instance_with part o (net_names (apart b mid.own).0)) p.nets ∙ ap (instance_with part (Some p.xs)) q.nets;
      own = q.own ∙ ap (λ o. (apart b o).1) p.own;
      names = grown-more old.names mid.names new.names (list-grown old mid a ins p) (list-grown mid new b outs q);
      fits = record { named = refl; takes = numbers-kept mid.names new.names (list-grown mid new b outs q) p.xs ins p.numbers; drives = q.numbers };
    })

-- ---- a module

pub rest-read : (old one two new : Nets) (a b c : Form) (fs : Forms) (r : Rest) → ReadsInputs old one a r.inputs → ReadsList one two b r.outputs.items → Some fs ≡ elements_in c
    → ReadsInstances two new fs (texts r.instances.parts.items) r.instances.ins r.instances.outs → ReadsRest old new a b c r
rest-read old one two new a b c fs r i l e q =
    let more : Grows two.names new.names = q.names in
    let all : Grows one.names new.names = grown-more one.names two.names new.names (list-grown one two b r.outputs.items l) more in
    record {
      inputs = i.xs;
      outputs = l.xs;
      instances = q.instances;
      made = λ name. ap (λ (g : Form). rest_of name a b g old.own) (closed-is c fs e)
          ∙ ap (λ o. module_with name (net_names (apart a old.own).0) (net_names (apart b o).0) (instances_in (apart_all fs (apart b o).1).0)) (sym i.own)
          ∙ ap (λ o. module_with name (net_names (apart a old.own).0) (net_names (apart b one.own).0) (instances_in (apart_all fs o).0)) (sym l.own)
          ∙ ap (λ o. module_with name o (net_names (apart b one.own).0) (instances_in (apart_all fs two.own).0)) i.nets
          ∙ ap (λ o. module_with name (Some i.xs) o (instances_in (apart_all fs two.own).0)) l.nets
          ∙ ap (module_with name (Some i.xs) (Some l.xs)) q.are
          ∙ ap (λ t. if t then Some (record { name = name; inputs = i.xs; outputs = l.xs; instances = q.instances }) else None) i.different;
      front = sym (ap (take r.inputs) (all.1 ∙ ap (λ (ns : List Text). ns ++ all.0) i.names) ∙ ap (λ n. take n (i.xs ++ all.0)) i.count ∙ take-append_seam i.xs all.0);
      count = i.count;
      different = i.different;
      drives = numbers-kept two.names new.names more l.xs r.outputs.items l.numbers;
      fit = q.fit;
    }

pub module-read : (old new : Nets) (f : Form) (x n : Text) (fs : Forms) (g a b c : Form) (r : Rest) (m : RawModule) → old.own ≡ 0 → f ≡ Name x fs → Some (g, a, b, c) ≡ four_in fs → g ≡ Name n Last
    → ReadsRest old new a b c r → m.name.now ≡ n → m.nets ≡ new.names → IsRest m r → ReadsModule f m
module-read old new f x n fs g a b c r m none e four h q named nets rest = record {
  m = record { name = n; inputs = q.inputs; outputs = q.outputs; instances = q.instances };
  is = ap (λ (z : Form). module_of (apart z 0).0) (e ∙ ap (Name x) (four-is fs g a b c four ∙ ap (λ (z : Form). More z (More a (More b (More c Last)))) h))
      ∙ ap (rest_of n a b c) (sym none) ∙ q.made n;
  by_number = record {
    named = sym named;
    front = q.front ∙ ap (take r.inputs) (sym nets) ∙ ap (λ k. take k m.nets) (sym rest.count);
    count = rest.count ∙ q.count;
    different = q.different;
    drives = subst (λ ns. AreNumbers ns q.outputs m.outputs.items) (sym nets) (subst (λ ks. AreNumbers new.names q.outputs ks) (sym (ap (λ v. v.items) rest.drives)) q.drives);
    fit = subst (λ ns. AreInstances ns q.instances (texts m.parts.items) m.ins m.outs) (sym nets)
        (subst (λ ps. AreInstances new.names q.instances ps m.ins m.outs) (sym (ap (λ v. texts v.items) rest.parts))
        (subst (λ is. AreInstances new.names q.instances (texts r.instances.parts.items) is m.outs) (sym rest.ins)
        (subst (λ os. AreInstances new.names q.instances (texts r.instances.parts.items) r.instances.ins os) (sym rest.outs) q.fit)));
  };
}
