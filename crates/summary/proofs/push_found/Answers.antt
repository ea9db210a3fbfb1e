use mathlib.Core.Path.{refl, ap}
use Rattle.std.specs.Prelude.{is_ok}
use Rattle.std.proofs.lemmas.Result.{err_from_is_err_and}
use Rattle.summary.proofs.Pairs.{pushing_none, pushing_more, pushing_full, pushing_all, found_more, found_full, found_all}
use native.Mathlib.Omega.{arith}
use Rattle.summary.proofs.push_found.Goals as goal

pub loop-i-init : goal.loop-i-init
loop-i-init c = (refl, λ t ps h. pushing_none c.args.o c.args.w.now c.args.n t c.args.k.now ps h)

pub loop-i-preserved : goal.loop-i-preserved
loop-i-preserved c = (found_more c.args.o c.args.w.now _ _ c.loop-i.invariant.0 (omega (arith, c.loop-i-test.true)) c.found_name.ensures (ap is_ok c.in_ok-push.was) c.push.ensures.k_value, λ t ps h. let q = c.loop-i.invariant.1 t ps h in pushing_more c.args.o c.args.w.now c.args.n q (omega (arith, c.loop-i-test.true)) c.found_name.ensures (ap is_ok c.in_ok-push.was) (c.push.ensures.by_index t q.so_far q.grown))

pub returns-in_err-push-clause-by_index : goal.returns-in_err-push-clause-by_index
returns-in_err-push-clause-by_index c = let e = err_from_is_err_and c.from_residual.result c.from_residual.ensures.1 in
    rw e.1 (λ t ps h. let q = c.loop-i.invariant.1 t ps h in pushing_full c.args.o c.args.w.now c.args.n q (omega (arith, c.loop-i-test.true)) c.found_name.ensures (rw c.in_err-push.was at (c.push.ensures.by_index t q.so_far q.grown)))

pub returns-in_err-push-clause-k_value : goal.returns-in_err-push-clause-k_value
returns-in_err-push-clause-k_value c = let e = err_from_is_err_and c.from_residual.result c.from_residual.ensures.1 in
    rw e.1 (found_full c.args.o c.args.w.now _ _ c.loop-i.invariant.0 (omega (arith, c.loop-i-test.true)) c.found_name.ensures (ap is_ok c.in_err-push.was) c.push.ensures.k_value)

pub returns-clause-by_index : goal.returns-clause-by_index
returns-clause-by_index c = λ t ps h. pushing_all c.args.o c.args.w.now c.args.n (c.loop-i.invariant.1 t ps h) (omega (arith, c.loop-i-test.false))

pub returns-clause-k_value : goal.returns-clause-k_value
returns-clause-k_value c = found_all c.args.o c.args.w.now _ _ c.loop-i.invariant.0 (omega (arith, c.loop-i-test.false))
