use Rattle.std.proofs.Common.{◌≡◌, ◌+◌, ◌<◌, ◌^◌, List, length, sym, subst}
use Rattle.std.specs.Prelude.{IfOk}
use Rattle.cb_model.specs.Circuits.{Flat, circuit_of}
use Rattle.cb_netlist.specs.Wiring.{wiring_at}
use Rattle.cb_netlist.specs.Netlists.{flat_at, AreNetlists}
use Rattle.cb_circ.proofs.Flattening.{in-ns, are, carries, has-pins, small-numbers, small-flat, known-is, known-one, known-pins, known-nets, known-small}
use Rattle.cb_circ.proofs.circuits.Circuits.flat.Goals as goal

pub flatten-requires-clause-number : goal.flatten-requires-clause-number
flatten-requires-clause-number c = subst (λ ns. c.args.m < length ns) (sym c.as_slice.ensures.value) (in-ns c.self.inside.modules.items c.self.inside.netlists.items c.self.inside.names c.self.inside.specs.items c.self.inside.spec_names c.args.self.now c.self.view_is c.self.invariant c.args.m c.requires)

pub flatten-requires-clause-known : goal.flatten-requires-clause-known
flatten-requires-clause-known c = (c.args.self.now.flats, subst (AreNetlists c.args.self.now.flats) (sym c.as_slice.ensures.value) (are c.self.inside.modules.items c.self.inside.netlists.items c.self.inside.names c.self.inside.specs.items c.self.inside.spec_names c.args.self.now c.self.view_is c.self.invariant c.args.m c.requires))

pub flatten-requires-clause-small : goal.flatten-requires-clause-small
flatten-requires-clause-small c = subst (λ ns. (wiring_at ns c.args.m).inputs + (wiring_at ns c.args.m).gates < 2 ^ 32) (sym c.as_slice.ensures.value) (small-numbers c.self.inside.modules.items c.self.inside.netlists.items c.self.inside.names c.self.inside.specs.items c.self.inside.spec_names c.args.self.now c.self.view_is c.self.invariant c.args.m c.requires)

pub returns-clause-is : goal.returns-clause-is
returns-clause-is c = known-is c.self.inside.netlists.items c.args.self.now.flats (are c.self.inside.modules.items c.self.inside.netlists.items c.self.inside.names c.self.inside.specs.items c.self.inside.spec_names c.args.self.now c.self.view_is c.self.invariant c.args.m c.requires) c.args.m c.flatten.result (subst (λ ns. IfOk c.flatten.result (λ k. (gs : List Flat) → AreNetlists gs ns → k ≡ circuit_of (flat_at gs c.args.m))) c.as_slice.ensures.value c.flatten.ensures)

pub returns-clause-carries : goal.returns-clause-carries
returns-clause-carries c = carries c.self.inside.modules.items c.self.inside.netlists.items c.self.inside.names c.self.inside.specs.items c.self.inside.spec_names c.args.self.now c.self.view_is c.self.invariant c.args.m c.requires

pub returns-clause-one : goal.returns-clause-one
returns-clause-one c = known-one c.self.inside.netlists.items c.args.self.now.flats (are c.self.inside.modules.items c.self.inside.netlists.items c.self.inside.names c.self.inside.specs.items c.self.inside.spec_names c.args.self.now c.self.view_is c.self.invariant c.args.m c.requires) c.args.m c.flatten.result (subst (λ ns. IfOk c.flatten.result (λ k. (gs : List Flat) → AreNetlists gs ns → k ≡ circuit_of (flat_at gs c.args.m))) c.as_slice.ensures.value c.flatten.ensures) (carries c.self.inside.modules.items c.self.inside.netlists.items c.self.inside.names c.self.inside.specs.items c.self.inside.spec_names c.args.self.now c.self.view_is c.self.invariant c.args.m c.requires)

pub returns-clause-pins : goal.returns-clause-pins
returns-clause-pins c = known-pins c.self.inside.netlists.items c.args.self.now.flats (are c.self.inside.modules.items c.self.inside.netlists.items c.self.inside.names c.self.inside.specs.items c.self.inside.spec_names c.args.self.now c.self.view_is c.self.invariant c.args.m c.requires) c.args.m c.flatten.result (subst (λ ns. IfOk c.flatten.result (λ k. (gs : List Flat) → AreNetlists gs ns → k ≡ circuit_of (flat_at gs c.args.m))) c.as_slice.ensures.value c.flatten.ensures) (has-pins c.self.inside.modules.items c.self.inside.netlists.items c.self.inside.names c.self.inside.specs.items c.self.inside.spec_names c.args.self.now c.self.view_is c.self.invariant c.args.m c.requires)

pub returns-clause-nets : goal.returns-clause-nets
returns-clause-nets c = known-nets c.self.inside.netlists.items c.args.self.now.flats (are c.self.inside.modules.items c.self.inside.netlists.items c.self.inside.names c.self.inside.specs.items c.self.inside.spec_names c.args.self.now c.self.view_is c.self.invariant c.args.m c.requires) c.args.m c.flatten.result (subst (λ ns. IfOk c.flatten.result (λ k. (gs : List Flat) → AreNetlists gs ns → k ≡ circuit_of (flat_at gs c.args.m))) c.as_slice.ensures.value c.flatten.ensures) (carries c.self.inside.modules.items c.self.inside.netlists.items c.self.inside.names c.self.inside.specs.items c.self.inside.spec_names c.args.self.now c.self.view_is c.self.invariant c.args.m c.requires)

pub returns-clause-small : goal.returns-clause-small
returns-clause-small c = known-small c.self.inside.netlists.items c.args.self.now.flats (are c.self.inside.modules.items c.self.inside.netlists.items c.self.inside.names c.self.inside.specs.items c.self.inside.spec_names c.args.self.now c.self.view_is c.self.invariant c.args.m c.requires) c.args.m c.flatten.result (subst (λ ns. IfOk c.flatten.result (λ k. (gs : List Flat) → AreNetlists gs ns → k ≡ circuit_of (flat_at gs c.args.m))) c.as_slice.ensures.value c.flatten.ensures) (small-flat c.self.inside.modules.items c.self.inside.netlists.items c.self.inside.names c.self.inside.specs.items c.self.inside.spec_names c.args.self.now c.self.view_is c.self.invariant c.args.m c.requires)
