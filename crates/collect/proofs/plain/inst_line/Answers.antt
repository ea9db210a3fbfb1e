use mathlib.Core.Path.{refl}
use mathlib.Core.Bool.{true, false}
use lib.ListN.{length}
use Rattle.consteval.specs.Worth.{names_of, worth}
use Rattle.spec.proofs.Cleared.{cleared_of, false_cleared}
use Rattle.edges.specs.Lines.{summary_at}
use Rattle.collect.proofs.PlainLaws.{outputs_said}
use Rattle.edges.proofs.LeaveLaws.{inst_cleared}
use Rattle.collect.proofs.Leaving.{inst_left}
use Rattle.std.specs.Prelude.{is_ok}
use Rattle.collect.proofs.Leaving.{passed}
use mathlib.Core.Path.{ap}
use Rattle.collect.proofs.plain.inst_line.Goals as goal

pub returns-clause-inst_heads : goal.returns-clause-inst_heads
returns-clause-inst_heads c = outputs_said c.args.x.now c.args.depth c.args.scope.kinds.now (names_of c.args.scope.names.now c.args.scope.used) c.args.g.now (worth c.args.index) (summary_at c.args.k.now c.args.first c.args.count) (is_ok c.inst_heads.result) true _ (passed c.inst_heads.result c.in_default.not-Err) c.inst_heads.ensures.inst_heads

pub returns-clause-inst_leaves : goal.returns-clause-inst_leaves
returns-clause-inst_leaves c = (inst_left c.args.x.now c.args.depth c.args.scope.kinds.now (names_of c.args.scope.names.now c.args.scope.used) c.args.g.now _ (worth c.args.index) (summary_at c.args.k.now c.args.first c.args.count) (is_ok c.inst_heads.result) (passed c.inst_heads.result c.in_default.not-Err) c.inst_heads.ensures.inst_leaves, refl)

pub returns-in-Err-clause-inst_heads : goal.returns-in-Err-clause-inst_heads
returns-in-Err-clause-inst_heads c = outputs_said c.args.x.now c.args.depth c.args.scope.kinds.now (names_of c.args.scope.names.now c.args.scope.used) c.args.g.now (worth c.args.index) (summary_at c.args.k.now c.args.first c.args.count) (is_ok c.inst_heads.result) false _ (ap is_ok c.in-Err.is) c.inst_heads.ensures.inst_heads

pub returns-in-Err-clause-inst_leaves : goal.returns-in-Err-clause-inst_leaves
returns-in-Err-clause-inst_leaves c = (false_cleared (is_ok c.inst_heads.result) _ (ap is_ok c.in-Err.is) (inst_cleared (is_ok c.inst_heads.result) (worth c.args.index) (summary_at c.args.k.now c.args.first c.args.count) c.args.x.now c.args.depth c.args.scope.kinds.now (names_of c.args.scope.names.now c.args.scope.used) c.args.g.now _ c.inst_heads.ensures.inst_leaves), cleared_of (length c.args.k.now) c.clear.new.g c.clear.ensures)
