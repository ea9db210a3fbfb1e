use Rattle.items.proofs.LineLaws.{zeros_filled, emptied_held}
use Rattle.items.proofs.reset.Goals as goal

pub returns-clause-own_after : goal.returns-clause-own_after
returns-clause-own_after c = zeros_filled c.args.own.now c.min-n.ensures (c.fill.ensures.after (λ y e. e))

pub returns-clause-held : goal.returns-clause-held
returns-clause-held c = emptied_held c.args.own.now _ (zeros_filled c.args.own.now c.min-n.ensures (c.fill.ensures.after (λ y e. e)))
