-- What counting or writing report lines does to the next place and to the lent buffer. 01: The report; Refused because of the state.
-- To a reader: definitions that the contracts of this crate cite; each such contract is proved; check_drivers' own promise cites none of them.
use Rattle.std.specs.Prelude.{◌≡◌, Bool, true, false, List, ◌++◌, ℕ, ◌+◌, ◌≤◌, min, length, take, drop}
use Rattle.spec.specs.Bytes.{Bytes}
use Rattle.spec.specs.Report.{Report, show_reports}
use Rattle.report.specs.Line.{line, walk_head, walk_node, walk_tail}
use Rattle.drivers.specs.declared.emit.Place.{Place}
use Rattle.drivers.specs.declared.emit.Piece.{Piece}
use Rattle.drivers.specs.declared.emit.Piece.TheVariants as pieces

-- 01, The report: the bytes of a piece
abbrev pub bytes_of : Piece → Bytes
bytes_of (pieces.Line x) = line x
bytes_of (pieces.WalkHead m start) = walk_head m start
bytes_of (pieces.WalkNode n) = walk_node n
bytes_of pieces.WalkTail = walk_tail

-- 01, The report: how many reports count with it: one with its line, or with the end of a loop report's line
abbrev pub lines_in : Piece → ℕ
lines_in (pieces.Line x) = 1
lines_in (pieces.WalkHead m start) = 0
lines_in (pieces.WalkNode n) = 0
lines_in pieces.WalkTail = 1

-- 01, The report: a place that lines are appended at: at most one past the buffer's end, and no more reports than bytes
pub record Within (buf : Bytes) (p : Place) : Type 0 where
  pub end : p.at ≤ length buf + 1
  pub reports : p.reports ≤ p.at

-- 01, The report; Refused because of the state: the bytes s, with k reports in them, are appended at the place p: they are counted, to
-- one past the buffer's end at most, and the reports as long as all fit; where `write` is false the buffer stays; else, if they fit,
-- they are written and no other byte changes
pub record Appended (write : Bool) (old : Bytes) (p : Place) (s : Bytes) (k : ℕ) (new : Bytes) (q : Place) : Type 0 where
  pub at : q.at ≡ min (p.at + length s) (length old + 1)
  pub count : q.at ≤ length old → q.reports ≡ p.reports + k
  pub few : q.reports ≤ q.at
  pub size : length new ≡ length old
  pub kept : write ≡ false → new ≡ old
  pub written : write ≡ true → q.at ≤ length old → new ≡ take p.at old ++ s ++ drop q.at old

-- 01, The report; Refused because of the state: the same, if p is a place that lines are appended at
abbrev pub Appends : Bool → Bytes → Place → Bytes → ℕ → Bytes → Place → Type 0
Appends write old p s k new q = Within old p → Appended write old p s k new q

-- 01, The report; Refused because of the state: the lines of some reports are appended, if p is such a place
abbrev pub Emits : Bool → Bytes → Place → List Report → Bytes → Place → Type 0
Emits write old p rs new q = Appends write old p (show_reports rs) (length rs) new q
