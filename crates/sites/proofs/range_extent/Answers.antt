use mathlib.Core.Path.{◌∙◌}
use Rattle.sites.proofs.Coverage.{range_low, range_less, range_fits}
use Rattle.sites.proofs.range_extent.Goals as goal
use Rattle.sites.proofs.range_extent.Goals.{then-low-lt2147483648-via-then-low-lt2147483648, then-low-lt2147483648-via-else-low-lt2147483648+then-high-low}

pub returns-then-low-lt2147483648 : goal.returns-then-low-lt2147483648
returns-then-low-lt2147483648 c = rw (c.in-Some.is, c.in-Some-low.is) (
    c.no_range-then-low-lt2147483648.ensures
    ∙ elim c.then-low-lt2147483648.branch [
      | then-low-lt2147483648-via-then-low-lt2147483648 w ↦ range_low c.args.bound c.in-Some.high c.in-Some-low.low w.if-low-lt2147483648.true
      | then-low-lt2147483648-via-else-low-lt2147483648+then-high-low w ↦ range_less c.args.bound c.in-Some.high c.in-Some-low.low w.if-low-lt2147483648.false w.if-high-low.true
    ]
    )

pub returns : goal.returns
returns c = rw (c.in-Some.is, c.in-Some-low.is) (range_fits c.args.bound c.in-Some.high c.in-Some-low.low c.if-low-lt2147483648.false c.if-high-low.false)
