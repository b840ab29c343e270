-- The line of the cells' terms is the line of the branch, where the shape and the leaves are right.
use Rattle.std.proofs.Common.{◌≡◌, ℕ, List, [], length, refl, sym, ap, ◌∙◌}
use Rattle.std.specs.Prelude.{flat_map}
use Rattle.std.proofs.lemmas.List.{length-map}
use Rattle.cb_model.specs.Bits.{Bits}
use Rattle.cb_model.specs.Answers.{leaves}
use Rattle.cb_model.specs.Line as line
use Rattle.cb_model.specs.Line.{Names}
use Rattle.cb_model.specs.Text.{Text}
use Rattle.cb_model.specs.Program.{Program}
use Rattle.cb_model.specs.Derivation.{Branch}
use Rattle.cb_laws.proofs.OpenTrees.{Plains, all_leaves, all_opens, shape_leaves}
use Rattle.cb_boole.specs.Elimination.{Function}
use Rattle.cb_show.specs.Levels.{spread}
use Rattle.cb_shape.specs.Shapes.{firsts, numbered_all, shape_of}
use Rattle.cb_shape.proofs.Numbered.{leaves-all, length-from}
use Rattle.cb_unify.specs.State.{Seen}
use Rattle.cb_answer.specs.declared.Item.{Item}
use Rattle.cb_answer.specs.Lines.{line_names, spread_all}
use Rattle.cb_answer.specs.Answering.{Tells}
use Rattle.cb_answer.specs.Writing.{IsLineOf, wide, told}
use Rattle.cb_answer.proofs.Called.{AreTermsOf, of-line, printed-named}
use Rattle.cb_answer.proofs.Gens.{leaves-are-right}
use Rattle.cb_answer.proofs.Named.{line-named}
use Rattle.cb_answer.proofs.Ordered.{named-pieces}
use Rattle.cb_answer.proofs.Shaped.{shape-is-right}

-- as many leaves of the shape as of the terms
pub many-leaves : (ps : Plains) → length (flat_map leaves (shape_of ps)) ≡ length (all_leaves ps)
many-leaves ps =
    let os = firsts [] (all_opens ps) in
    ap length (shape_leaves (numbered_all os 0 ps) ∙ leaves-all os 0 ps) ∙ length-from 0 (length (all_leaves ps))

pub many-spread : (c first : ℕ) (gens : List Function) → length (spread_all c first gens) ≡ length gens
many-spread c first gens = length-map gens (λ (g : Function) (e : Bits). g (spread c first e))

-- the line of the items' terms is the line of the branch
pub line-is-right : (p : Program) (names : Names) (cs : List Text) (b : Branch) (s : Seen) (items : List Item) (ps : Plains) (text : Text) → cs ≡ names.constants → (tells : Tells p names b s items) →
    AreTermsOf s.heap.cells tells.calls items ps → IsLineOf p.constants (line_names names.names cs items) s.store items ps text → line.IsLine p names b text
line-is-right p names cs b s items ps text named tells are (wide is e) =
    line.wide (shape_of ps) (shape-is-right p names b s items ps tells are) is e
line-is-right p names cs b s items ps text named tells are (told first gens narrow order many answer e) =
    let gs = spread_all p.constants first gens in
    line.told (shape_of ps) gs (shape-is-right p names b s items ps tells are) narrow (leaves-are-right p names b s items ps first gens tells are order many answer)
    (many-spread p.constants first gens ∙ many ∙ sym (many-leaves ps))
    (e ∙ named-pieces names.names cs items ps p.constants first gens (of-line s.made names.names s.heap.cells names.printed tells.calls items ps tells.items_are are)
    ∙ line-named p.constants (line_names names.names cs items) names (shape_of ps) gs
    (record { names = refl; constants = named; printed = printed-named s.made names.names names.printed tells.calls items tells.items_are }))
