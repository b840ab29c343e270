-- Worked numbers of the two bounds on nodes.
use Rattle.std.specs.Prelude.{◌≡◌, Bool, true, false, List, [], ◌∷◌, map, codes, None, sum_by}
use Rattle.cb_model.specs.declared.Expr.TheVariants as expr
use Rattle.cb_model.specs.declared.Tree.TheVariants as tree
use Rattle.cb_model.specs.Text.{Text}
use Rattle.cb_model.specs.Commands.{Only}
use Rattle.cb_model.specs.Program.{no_program}
use Rattle.cb_model.specs.Derivation.{first_branch, resolved, with_circuit}
use Rattle.cb_model.specs.Room.{BelowRoom, room_with, branch_size, expr_size}
use Rattle.cb_model.specs.Output.{QuerySays, used, room_of}
use Rattle.cb_rows.specs.RoomRow.{p, q, names, dropped, times, name_program, name_query, name_behind, bare, bare_program, bare_query, circuits, A, B}
use Rattle.cb_rows.specs.StopRow as stop
use Rattle.cb_rows.specs.CircuitExamples as parts
use Rattle.cb_model.specs.Facts.{Circuits, no_circuits, with_module}

-- a file with a half adder, a module that exchanges its inputs, and a full adder
abbrev pub three_modules : Circuits
three_modules = with_module (with_module (with_module no_circuits parts.half_adder) parts.swap) parts.full_adder

pub record RoomExamples : Type 0 where
  -- `~X = X`: the branch that is dropped has no printed leaves, and with more nodes than its bound it allows no stop
  pub dropped_bound : room_with p dropped 0 ≡ 102400
  pub dropped_allows_none : BelowRoom p names dropped 16777216 → ⊥
  -- its first branch has one printed leaf, and one node less than its bound allows a stop
  pub first_bound : room_with p (first_branch q) 1 ≡ 1179648
  pub may_stop : QuerySays p q names 10 (Only 1179647) (codes "stopped: nodes" ∷ []) true
  -- with 16777216 nodes only the line `no` may come
  pub only_no : (lines : List Text) (stop : Bool) → QuerySays p q names 10 (Only 16777216) lines stop → (lines ≡ codes "no" ∷ []) × (stop ≡ false)
  -- `X * a = a`
  pub times_bound : room_with (no_program 1) (first_branch times) 1 ≡ 16777216
  -- `p, X = 1` over `p.`, where X is a term: the item `p = p` has two leaves
  pub name_bound : room_with name_program (resolved name_behind 0 [] (record { pred = 0; sorts = []; head = []; body = [] })) 0 ≡ 12800
  -- its first branch, without a printed leaf, is below that; so with one node less than the bound the stop comes while
  -- the second branch is added
  pub name_first_bound : room_with name_program (first_branch name_query) 0 ≡ 8192
  pub may_stop_adding : QuerySays name_program name_query names 10 (Only 12799) (codes "stopped: nodes" ∷ []) true
  -- `p` over `p. p :- true, true.`: one node less than the bound of the second clause's branch, which is above all before it,
  -- allows a stop behind the first answer, and none without its line
  pub larger_bound : map (λ b. room_with stop.p b 0) (first_branch stop.q ∷ stop.answer ∷ stop.larger ∷ []) ≡ 2048 ∷ 4608 ∷ 12800 ∷ []
  pub may_stop_behind : QuerySays stop.p stop.q stop.names 2 (Only 12799) (codes "yes" ∷ codes "stopped: nodes" ∷ []) true
  pub not_without_line : QuerySays stop.p stop.q stop.names 2 (Only 12799) (codes "stopped: nodes" ∷ []) true → ⊥
  -- `circuit(m, [1], [])` over `module(m, [A], [], []).`: the item counts its name, its trees and its own variable
  pub circuit_size : branch_size bare_program (with_circuit (record (first_branch bare_query) { goals = [] }) bare (tree.Bus (expr.One ∷ []) None) (tree.Bus [] None)) ≡ 5
  -- `verify half_adder`, with its specification `[A # B, A * B]`
  pub verify_bound : room_of circuits (codes "half_adder" ∷ []) (sum_by expr_size (expr.Xor (A ∷ B ∷ []) ∷ expr.And (A ∷ B ∷ []) ∷ [])) ≡ 24576
  -- a full adder uses a half adder, and not the module between them in the file; its five gates have 15 pins, the instances of
  -- the two facts 17, its outputs are 2 and its inputs 3
  pub used_parts : map (λ m. m.name) (used three_modules (codes "full_adder" ∷ [])) ≡ codes "full_adder" ∷ codes "half_adder" ∷ []
  pub full_bound : room_of three_modules (codes "full_adder" ∷ []) 0 ≡ 159744
