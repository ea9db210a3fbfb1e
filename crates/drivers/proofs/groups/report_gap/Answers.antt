use Rattle.spec.specs.Site.{sites_of}
use Rattle.sites.specs.Own.{own_of}
use Rattle.drivers.proofs.GroupLaws.{emits_same, emits_nothing}
use Rattle.drivers.proofs.CoverLaws.{gap_negative, gap_none, gap_some}
use Rattle.drivers.proofs.groups.report_gap.Goals as goal

pub returns-then-v-lt2147483648 : goal.returns-then-v-lt2147483648
returns-then-v-lt2147483648 c = λ l o en es. emits_nothing (gap_negative (sites_of c.args.name (own_of c.args.t.now.own.now).sites) c.args.t.now.m o c.args.name c.args.start en es c.args.v c.if-v-lt2147483648.true)

pub returns-in-Some : goal.returns-in-Some
returns-in-Some c = λ l o en es. emits_same (gap_some (sites_of c.args.name (own_of c.args.t.now.own.now).sites) c.args.t.now.m o c.args.name c.args.start en es c.args.v c.if-v-lt2147483648.false (c.first_gap.ensures.result_value l) _ c.in-Some.is) c.say.ensures

pub returns-in-None : goal.returns-in-None
returns-in-None c = λ l o en es. emits_nothing (gap_none (sites_of c.args.name (own_of c.args.t.now.own.now).sites) c.args.t.now.m o c.args.name c.args.start en es c.args.v c.if-v-lt2147483648.false (c.first_gap.ensures.result_value l) c.in-None.is)
