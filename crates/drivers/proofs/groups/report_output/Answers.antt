use Rattle.std.specs.Prelude.{Ok}
use mathlib.Core.Path.{sym, ap, ◌∙◌}
use Rattle.consteval.specs.Worth.{worth, names_of}
use Rattle.drivers.proofs.CoverLaws.{output_kept, output_undriven, output_free, output_known, output_unknown, output_outside}
use Rattle.drivers.proofs.groups.report_output.Goals as goal

pub returns-then-poisoned : goal.returns-then-poisoned
returns-then-poisoned c = λ l o k. output_kept c.args.t.now.own.now (names_of c.args.t.now.names.now c.args.t.now.used) c.args.t.now.m o k.name k.start (c.poisoned.ensures.value l) c.if-poisoned.true

pub returns-in-Never : goal.returns-in-Never
returns-in-Never c = λ l o k. output_undriven c.args.t.now.own.now (names_of c.args.t.now.names.now c.args.t.now.used) c.args.t.now.m o k.name k.start (c.poisoned.ensures.value l) c.if-poisoned.false (c.cover_of.ensures.value l) c.in-Never.is c.say.ensures

pub returns-in-Open : goal.returns-in-Open
returns-in-Open c = λ l o k. output_free c.args.t.now.own.now (names_of c.args.t.now.names.now c.args.t.now.used) c.args.t.now.m o k.name k.start (c.poisoned.ensures.value l) c.if-poisoned.false (c.cover_of.ensures.value l) c.in-Open.is

pub returns-in-Some : goal.returns-in-Some
returns-in-Some c = λ l o k. output_known c.args.t.now.own.now (names_of c.args.t.now.names.now c.args.t.now.used) c.args.t.now.m o k.name k.start (c.poisoned.ensures.value l) c.if-poisoned.false (c.cover_of.ensures.value l) c.in-Ranges.is (c.width_at.ensures o.width k.inside.0 k.inside.1 k.width k.deep) c.in-Some.v (ap worth (c.in_ok-v-in-Ranges.was ∙ ap Ok c.in-Some.is)) (c.report_gap.ensures l o (sym k.name) (sym k.start))

pub returns-in-None : goal.returns-in-None
returns-in-None c = λ l o k. output_unknown c.args.t.now.own.now (names_of c.args.t.now.names.now c.args.t.now.used) c.args.t.now.m o k.name k.start (c.poisoned.ensures.value l) c.if-poisoned.false (c.cover_of.ensures.value l) c.in-Ranges.is (c.width_at.ensures o.width k.inside.0 k.inside.1 k.width k.deep) (ap worth (c.in_ok-v-in-Ranges.was ∙ ap Ok c.in-None.is))

pub returns-in_err-v-in-Ranges : goal.returns-in_err-v-in-Ranges
returns-in_err-v-in-Ranges c = λ l o k. output_outside c.args.t.now.own.now (names_of c.args.t.now.names.now c.args.t.now.used) c.args.t.now.m o k.name k.start (c.poisoned.ensures.value l) c.if-poisoned.false (c.cover_of.ensures.value l) c.in-Ranges.is (c.width_at.ensures o.width k.inside.0 k.inside.1 k.width k.deep) (ap worth c.in_err-v-in-Ranges.was) c.from_residual.result c.from_residual.ensures.0 _ _ _
