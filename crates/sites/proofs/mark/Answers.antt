use Prim.Native.Nat.{◌-◌}
use native.Mathlib.Omega.{arith}
use lib.ListN.{drop, length-take, length-drop}
use Rattle.sites.proofs.Marks.{mark_made}
use Rattle.sites.proofs.mark.Goals as goal

pub returns : goal.returns
returns c =
    mark_made c.args.marks.now c.fill.new.self c.args.from c.args.end _ c.requires.0 c.requires.1 (c.fill.ensures.after (λ y e. e))
    (omega (arith, length-take (c.args.end - c.args.from) (drop c.args.from c.args.marks.now), length-drop c.args.from c.args.marks.now))
