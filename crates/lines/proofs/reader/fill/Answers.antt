use Rattle.std.proofs.Common.{refl, sym, ◌∙◌}
use Rattle.lines.proofs.Filling.{reading_start, standing, reading_next, reading_further, reading_stops, reading_end}
use Rattle.lines.proofs.reader.fill.Goals as goal

pub loop-here-init : goal.loop-here-init
loop-here-init c = record {
  reading = rw c.start-p.ensures (reading_start c.args.text.now c.args.seen.now c.args.kinds.now c.args.mods.now c.requires.0 c.requires.1);
  text_kept = refl;
  there = rw c.start-p.ensures refl;
}

pub enter_line-requires : goal.enter_line-requires
enter_line-requires c =
    let w = c.loop-here.invariant in
    let below = rw (w.text_kept, w.there) at c.loop-here-test.true in
    rw (w.text_kept, w.there) (standing c.args.text.now c.args.kinds.now c.args.mods.now c.requires.1 c.loop-here.p c.loop-here.seen c.loop-here.kinds c.loop-here.mods w.reading below)

pub returns-in-Err : goal.returns-in-Err
returns-in-Err c =
    let w = c.loop-here.invariant in
    let below = rw (w.text_kept, w.there) at c.loop-here-test.true in
    let said = rw (w.text_kept, w.there) at c.enter_line.ensures in
    reading_stops c.args.text.now c.args.kinds.now c.args.mods.now c.requires.1 c.loop-here.p c.loop-here.seen c.loop-here.kinds c.loop-here.mods w.reading below c.in-Err.fault (sym c.in-Err.is ∙ said.0) _ _

pub loop-here-smaller : goal.loop-here-smaller
loop-here-smaller c =
    let w = c.loop-here.invariant in
    let below = rw (w.text_kept, w.there) at c.loop-here-test.true in
    let said = rw (w.text_kept, w.there) at c.enter_line.ensures in
    rw w.there (reading_further c.args.text.now c.args.kinds.now c.args.mods.now c.requires.1 c.loop-here.p c.loop-here.seen c.loop-here.kinds c.loop-here.mods w.reading below c.in-Ok.q c.enter_line.new.seen c.enter_line.new.kinds c.enter_line.new.mods (sym c.in-Ok.is ∙ said.0) said.1.0 said.1.1.0 said.1.1.1.0)

pub loop-here-preserved : goal.loop-here-preserved
loop-here-preserved c =
    let w = c.loop-here.invariant in
    let below = rw (w.text_kept, w.there) at c.loop-here-test.true in
    let said = rw (w.text_kept, w.there) at c.enter_line.ensures in
    record {
      reading = reading_next c.args.text.now c.args.kinds.now c.args.mods.now c.requires.1 c.loop-here.p c.loop-here.seen c.loop-here.kinds c.loop-here.mods w.reading below c.in-Ok.q c.enter_line.new.seen c.enter_line.new.kinds c.enter_line.new.mods (sym c.in-Ok.is ∙ said.0) said.1.0 said.1.1.0 said.1.1.1.0;
      text_kept = w.text_kept;
      there = refl;
    }

pub returns : goal.returns
returns c =
    let w = c.loop-here.invariant in
    let over = rw (w.text_kept, w.there) at c.loop-here-test.false in
    reading_end c.args.text.now c.args.kinds.now c.args.mods.now c.requires.1 c.loop-here.p c.loop-here.seen c.loop-here.kinds c.loop-here.mods w.reading over
