use Rattle.std.proofs.Common.{◌∙◌, arith, rules}
use Rattle.cb_items.specs.Items.{wants_nodes}
use Rattle.cb_items.proofs.Additions.{keeps-budget}
use Rattle.cb_branch.proofs.Cells.{buildable-later, equation-adds, equation-made, equation-none, refuses-then, sort-there, there-later}
use Rattle.cb_branch.proofs.terms.equated.Goals as goal

pub built-requires-2-clause-buildable : goal.built-requires-2-clause-buildable
built-requires-2-clause-buildable c =
    let h = c.requires.buildable in
    let m = c.in_ok-first.ensures.makes h.0 h.1 h.2 h.3 in
    (h.0, h.1, h.2, buildable-later h.0 c.args.state.now c.built.new.state h.1 c.args.frame.now h.2 c.args.right.now m.extended.grown m.fits m.stays.constants h.4)

pub returns-in_err-second-clause-refusals : goal.returns-in_err-second-clause-refusals
returns-in_err-second-clause-refusals c =
    refuses-then c.args.state.now c.built.new.state c.built-2.new.state (wants_nodes c.from_residual-in_err-second.result) c.in_ok-first.ensures.refusals.more
    (keeps-budget c.args.state.now c.built.new.state c.requires.state c.in_ok-first.ensures.moments) (search rules)

pub equal-requires-clause-there : goal.equal-requires-clause-there
equal-requires-clause-there c =
    let h = c.requires.buildable in
    let m = c.in_ok-first.ensures.makes h.0 h.1 h.2 h.3 in
    let k = c.in_ok-second.ensures.makes h.0 h.1 h.2 (buildable-later h.0 c.args.state.now c.built.new.state h.1 c.args.frame.now h.2 c.args.right.now m.extended.grown m.fits m.stays.constants h.4) in
    (there-later c.built.new.state c.built-2.new.state c.in_ok-first.first.0 k.extended.grown (sort-there c.built.new.state c.in_ok-first.first.0 h.2 m.sort), sort-there c.built-2.new.state c.in_ok-second.second.0 h.2 k.sort)

pub returns-clause-yes : goal.returns-clause-yes
returns-clause-yes c = λ e w zs z base l' r' bl br f hx hy.
    let m = c.in_ok-first.ensures.makes w.arguments zs z bl in
    let k = c.in_ok-second.ensures.makes w.arguments zs z (buildable-later w.arguments c.args.state.now c.built.new.state zs c.args.frame.now z c.args.right.now m.extended.grown m.fits m.stays.constants br) in (
      equation-adds w c.args.state.now c.built.new.state c.built-2.new.state zs c.args.frame.now z base c.in_ok-first.first.0 c.in_ok-second.second.0 c.args.left.now c.args.right.now l' r'
          c.requires.state c.in_ok-first.ensures.state m k f hx hy c.equal.new.state c.equal.ensures.state (c.equal.ensures.adds e),
      equation-made w c.args.state.now c.built.new.state c.built-2.new.state zs c.args.frame.now z base c.in_ok-first.first.0 c.in_ok-second.second.0 c.args.left.now c.args.right.now l' r'
          c.requires.state c.in_ok-first.ensures.state m k f hx hy c.equal.new.state (c.equal.ensures.adds e),
    )

pub returns-clause-no : goal.returns-clause-no
returns-clause-no c = λ e w zs z base l' r' bl br f hx hy.
    let m = c.in_ok-first.ensures.makes w.arguments zs z bl in
    let k = c.in_ok-second.ensures.makes w.arguments zs z (buildable-later w.arguments c.args.state.now c.built.new.state zs c.args.frame.now z c.args.right.now m.extended.grown m.fits m.stays.constants br) in
    equation-none w c.args.state.now c.built.new.state c.built-2.new.state zs c.args.frame.now z base c.in_ok-first.first.0 c.in_ok-second.second.0 c.args.left.now c.args.right.now l' r'
    c.requires.state c.in_ok-first.ensures.state m k f hx hy (c.equal.ensures.none e)

pub returns-clause-refusals : goal.returns-clause-refusals
returns-clause-refusals c =
    let a = c.in_ok-first.ensures.refusals.more in
    let b = c.in_ok-second.ensures.refusals.more in
    refuses-then c.args.state.now c.built-2.new.state c.equal.new.state (wants_nodes c.equal.result) (omega arith)
    (keeps-budget c.built.new.state c.built-2.new.state c.in_ok-first.ensures.state c.in_ok-second.ensures.moments ∙ keeps-budget c.args.state.now c.built.new.state c.requires.state c.in_ok-first.ensures.moments) c.equal.ensures.refusals
