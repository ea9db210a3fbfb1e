use native.Mathlib.Omega.{arith}
use lib.ListN.{length-set}
use Rattle.consteval.proofs.EvalLaws.{push_in, push_full}
use Rattle.consteval.proofs.names.push.Goals as goal

pub bounds-names-used-then-used-names : goal.bounds-names-used-then-used-names
bounds-names-used-then-used-names c = simp length-set (omega arith)

pub returns-then-used-names : goal.returns-then-used-names
returns-then-used-names c =
    let r = push_in c.args.names.now c.args.used c.args.name c.args.value c.if-used-names.true in record { value = r.0; names_after = r.1 }

pub returns : goal.returns
returns c =
    let r = push_full c.args.names.now c.args.used c.args.name c.args.value c.if-used-names.false in record { value = r.0; names_after = r.1 }
