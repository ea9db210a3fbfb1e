use mathlib.Core.Logic.{inl, inr}
use Rattle.sites.proofs.Marks.{mark_nothing, mark_whole, mark_range}
use Rattle.sites.proofs.mark_extent.Goals as goal

pub returns-in-Whole : goal.returns-in-Whole
returns-in-Whole c = rw c.in-Whole.is (mark_whole c.args.limit c.args.marks.now c.mark.new.marks c.requires c.mark.ensures)

pub returns-in-Range : goal.returns-in-Range
returns-in-Range c = rw c.in-Range.is (mark_range c.args.limit c.args.marks.now c.mark-in-Range.new.marks c.in-Range.low c.in-Range.high c.min-end.result c.min-from.result c.min-end.ensures c.min-from.ensures c.requires c.mark-in-Range.ensures)

pub returns-in-Dynamic : goal.returns-in-Dynamic
returns-in-Dynamic c = elim c.in-Dynamic.is [
  | inl e ↦ rw e (mark_nothing c.args.limit c.args.marks.now)
  | inr e ↦ rw e (mark_nothing c.args.limit c.args.marks.now)
]
