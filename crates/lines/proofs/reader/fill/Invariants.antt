use Rattle.std.proofs.Common.{◌≡◌, ◌-◌, length}
use Rattle.lines.proofs.Filled.{Reading}
use Rattle.lines.proofs.reader.fill.Given as goal

abbrev pub invariant-loop-here : goal.invariant-loop-here
invariant-loop-here l = record {
  reading : Reading l.text l.initial.kinds l.initial.mods l.p l.seen l.kinds l.mods;
  text_kept : l.here.text.now ≡ l.text;
  there : l.here.at ≡ l.p.next;
}

abbrev pub decreases-loop-here : goal.decreases-loop-here
decreases-loop-here l = length l.text - l.here.at
