use Rattle.lines.proofs.KindLaws.{byte_none, signals, no_signals}
use mathlib.Core.Path.{refl}
use lib.ListN.{get_or}
use Rattle.graph.specs.declared.Node.TheVariants as nodes
use Rattle.edges.proofs.ExprLaws.{name_none, name_other, name_at, name_full}
use Rattle.edges.proofs.TotalLaws.{kind_none, kind_other, kind_signal}
use Rattle.edges.proofs.LeaveLaws.{reads_none, read_at, read_full}
use Rattle.std.proofs.lemmas.Result.{err_from_is_err_and}
use Rattle.edges.proofs.name_read.Goals as goal

pub returns-in_default-clause-name_read : goal.returns-in_default-clause-name_read
returns-in_default-clause-name_read c = name_none c.args.kinds.now c.args.n c.args.g.now c.args.from refl (byte_none (get_or c.args.kinds.now c.args.n 0) c.kind_at.ensures c.in_default.is)

pub returns-in_default-clause-reads_or_cleared : goal.returns-in_default-clause-reads_or_cleared
returns-in_default-clause-reads_or_cleared c = reads_none c.args.from c.args.g.now (kind_none c.args.kinds.now c.args.n refl (byte_none (get_or c.args.kinds.now c.args.n 0) c.kind_at.ensures c.in_default.is))

pub returns-in-Reg-clause-name_read : goal.returns-in-Reg-clause-name_read
returns-in-Reg-clause-name_read c = name_other c.args.kinds.now c.args.n c.args.g.now c.args.from refl (no_signals (get_or c.args.kinds.now c.args.n 0) c.kind_at.ensures c.in-Some.is c.in-Reg.is)

pub returns-in-Reg-clause-reads_or_cleared : goal.returns-in-Reg-clause-reads_or_cleared
returns-in-Reg-clause-reads_or_cleared c = reads_none c.args.from c.args.g.now (kind_other c.args.kinds.now c.args.n refl (no_signals (get_or c.args.kinds.now c.args.n 0) c.kind_at.ensures c.in-Some.is c.in-Reg.is))

pub returns-in_ok-read-in-In-clause-name_read : goal.returns-in_ok-read-in-In-clause-name_read
returns-in_ok-read-in-In-clause-name_read c = name_at c.args.kinds.now c.args.n c.args.g.now c.args.from refl (signals (get_or c.args.kinds.now c.args.n 0) c.kind_at.ensures c.in-Some.is c.in-In.is).0 (signals (get_or c.args.kinds.now c.args.n 0) c.kind_at.ensures c.in-Some.is c.in-In.is).1 c.read.result _ c.read.ensures.read c.in_ok-read-in-In.was

pub returns-in_ok-read-in-In-clause-reads_or_cleared : goal.returns-in_ok-read-in-In-clause-reads_or_cleared
returns-in_ok-read-in-In-clause-reads_or_cleared c = read_at c.args.from c.args.g.now (nodes.Signal c.args.n) c.read.result _ c.read.ensures.read_leaves (kind_signal c.args.kinds.now c.args.n refl (signals (get_or c.args.kinds.now c.args.n 0) c.kind_at.ensures c.in-Some.is c.in-In.is).0 (signals (get_or c.args.kinds.now c.args.n 0) c.kind_at.ensures c.in-Some.is c.in-In.is).1) c.in_ok-read-in-In.was

pub returns-in_err-read-in-In-clause-name_read : goal.returns-in_err-read-in-In-clause-name_read
returns-in_err-read-in-In-clause-name_read c = rw (err_from_is_err_and c.from_residual.result c.from_residual.ensures.1).1 (name_full c.args.kinds.now c.args.n c.args.g.now c.args.from refl (signals (get_or c.args.kinds.now c.args.n 0) c.kind_at.ensures c.in-Some.is c.in-In.is).0 (signals (get_or c.args.kinds.now c.args.n 0) c.kind_at.ensures c.in-Some.is c.in-In.is).1 c.read.result _ c.read.ensures.read c.in_err-read-in-In.was)

pub returns-in_err-read-in-In-clause-reads_or_cleared : goal.returns-in_err-read-in-In-clause-reads_or_cleared
returns-in_err-read-in-In-clause-reads_or_cleared c = rw (err_from_is_err_and c.from_residual.result c.from_residual.ensures.1).1 (read_full c.args.from c.args.g.now (nodes.Signal c.args.n) c.read.result _ c.read.ensures.read_leaves (kind_signal c.args.kinds.now c.args.n refl (signals (get_or c.args.kinds.now c.args.n 0) c.kind_at.ensures c.in-Some.is c.in-In.is).0 (signals (get_or c.args.kinds.now c.args.n 0) c.kind_at.ensures c.in-Some.is c.in-In.is).1) c.in_err-read-in-In.was)
