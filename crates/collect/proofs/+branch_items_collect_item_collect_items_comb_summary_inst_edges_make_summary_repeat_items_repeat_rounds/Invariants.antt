use Prim.Native.Nat.{◌+◌, ◌*◌, ◌-◌}
use lib.ListN.{length}
use Rattle.collect.specs.Cycle.{mode}
use Rattle.collect.proofs.Items.{On}
use Rattle.collect.proofs.Bodies.{Rounds}
use Rattle.collect.proofs.+branch_items_collect_item_collect_items_comb_summary_inst_edges_make_summary_repeat_items_repeat_rounds.Given as goal

abbrev pub decreases-branch_items : goal.decreases-branch_items
decreases-branch_items l = l.pass.fuel * 256 + l.pass.depth * 4 + 4

abbrev pub decreases-collect_item : goal.decreases-collect_item
decreases-collect_item l = l.pass.fuel * 256 + l.pass.depth * 4 + 5

abbrev pub decreases-collect_items : goal.decreases-collect_items
decreases-collect_items l = l.pass.fuel * 256 + l.pass.depth * 4 + 6

abbrev pub invariant-collect_items-loop-at : goal.invariant-collect_items-loop-at
invariant-collect_items-loop-at l = On l.pass.fuel (mode l.pass.checking l.pass.bound) l.source.text.now l.source.kinds.now l.source.mods.now l.source.count l.s l.base l.pass.depth l.ks l.initial.names l.pass.used l.left-2 l.initial.own l.initial.g l.initial.k l.at l.left l.names l.own l.g l.k

abbrev pub decreases-collect_items-loop-at : goal.decreases-collect_items-loop-at
decreases-collect_items-loop-at l = length l.s - l.at

abbrev pub decreases-comb_summary : goal.decreases-comb_summary
decreases-comb_summary l = l.pass.fuel * 256 + 1

abbrev pub decreases-inst_edges : goal.decreases-inst_edges
decreases-inst_edges l = l.pass.fuel * 256 + 2

abbrev pub decreases-make_summary : goal.decreases-make_summary
decreases-make_summary l = l.pass.fuel * 256 + 135

abbrev pub decreases-repeat_items : goal.decreases-repeat_items
decreases-repeat_items l = l.pass.fuel * 256 + l.pass.depth * 4 + 4

abbrev pub decreases-repeat_rounds : goal.decreases-repeat_rounds
decreases-repeat_rounds l = l.pass.fuel * 256 + l.pass.depth * 4 + 7

abbrev pub invariant-repeat_rounds-loop-i : goal.invariant-repeat_rounds-loop-i
invariant-repeat_rounds-loop-i l = Rounds l.pass.fuel (mode l.pass.checking l.pass.bound) l.source.text.now l.source.kinds.now l.source.mods.now l.source.count l.s l.base l.pass.depth l.ks l.initial.names l.pass.used l.turn.name l.turn.low l.turn.rounds l.turn.left l.initial.own l.initial.g l.initial.k l.i l.left l.names l.own l.g l.k
