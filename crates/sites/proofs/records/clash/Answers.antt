use mathlib.Core.Path.{ap, ◌∙◌}
use Rattle.spec.specs.Site as site
use Rattle.sites.specs.Own.{extent_of}
use Rattle.sites.proofs.records.clash.Goals as goal

pub returns : goal.returns
returns c = c.meets.ensures ∙ ap (λ (x : site.Extent). site.meets x (extent_of c.args.later.extent)) c.extent_in-a.ensures
