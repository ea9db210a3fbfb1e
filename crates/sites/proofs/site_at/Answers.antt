use Rattle.sites.proofs.Sites.{site_read}
use Rattle.sites.proofs.site_at.Goals as goal

pub returns : goal.returns
returns c = site_read c.args.own.now c.args.i c.from.result c.from.ensures
