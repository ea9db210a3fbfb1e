use mathlib.Core.Path.{refl, ◌∙◌, ap}
use Prim.Native.Nat.{ℕ}
use Rattle.std.specs.Prelude.{is_ok}
use lib.ListN.{replicate, length-set, length-replicate}
use Rattle.walk.proofs.Alike.{reach_by}
use Rattle.summary.proofs.Pairs.{written_none, written_then, written_of}
use Rattle.summary.proofs.Ports.{out_name}
use Rattle.summary.proofs.Leaving.{turning_start, turning_other, turning_seen, turning_new, leaves_kept, leaves_full}
use Rattle.summary.proofs.Making.{end_after, going_start, going_other, going_seen, going_new, going_full, going_kept}
use native.Mathlib.Omega.{arith}
use Rattle.summary.proofs.summarise.Goals as goal

pub loop-from-init : goal.loop-from-init
loop-from-init c = (omega arith, written_none c.args.k.now, length-replicate {A = ℕ} 256 0, length-replicate {A = ℕ} 1538 0, λ d M heads kept busy r h st ks. going_start d c.args.s.now M heads c.args.k.now c.args.m kept busy refl refl r ks, turning_start c.args.s.now c.args.kinds.now c.args.g.now c.args.k.now refl refl)

pub loop-from-preserved-in_default : goal.loop-from-preserved-in_default
loop-from-preserved-in_default c = ((end_after c.args.s.now c.loop-from.from c.loop-from-test.true c.form_end-from.ensures).1, c.loop-from.invariant.1, c.loop-from.invariant.2, c.loop-from.invariant.3, λ d M heads kept busy r h st ks. going_other (c.loop-from.invariant.4 d M heads kept busy r h st ks) c.loop-from-test.true c.form_end-from.ensures c.between.ensures c.port_of.result c.port_of.ensures.port_is c.in_default.is, turning_other c.loop-from.invariant.5 c.loop-from-test.true c.form_end-from.ensures c.between.ensures c.port_of.result c.port_of.ensures.value c.in_default.is)

pub bounds-seen-i : goal.bounds-seen-i
bounds-seen-i c = omega (arith, out_name _ c.port_of.result c.in-Some.is c.port_of.ensures.value)

pub loop-from-preserved-then-seen-i-ne0 : goal.loop-from-preserved-then-seen-i-ne0
loop-from-preserved-then-seen-i-ne0 c = ((end_after c.args.s.now c.loop-from.from c.loop-from-test.true c.form_end-from.ensures).1, c.loop-from.invariant.1, c.loop-from.invariant.2, c.loop-from.invariant.3, λ d M heads kept busy r h st ks. going_seen (c.loop-from.invariant.4 d M heads kept busy r h st ks) c.loop-from-test.true c.form_end-from.ensures c.between.ensures c.port_of.result c.port_of.ensures.port_is c.in-Some.is (out_name _ c.port_of.result c.in-Some.is c.port_of.ensures.value) c.if-seen-i-ne0.true, turning_seen c.loop-from.invariant.5 c.loop-from-test.true c.form_end-from.ensures c.between.ensures c.port_of.result c.port_of.ensures.value c.in-Some.is (out_name _ c.port_of.result c.in-Some.is c.port_of.ensures.value) c.if-seen-i-ne0.true)

pub bounds-seen-i-in-loop-from : goal.bounds-seen-i-in-loop-from
bounds-seen-i-in-loop-from c = omega (arith, out_name _ c.port_of.result c.in-Some.is c.port_of.ensures.value)

pub returns-in-Err-clause-by_index : goal.returns-in-Err-clause-by_index
returns-in-Err-clause-by_index c = λ d M heads kept busy r h st ks small free. let q = c.loop-from.invariant.4 d M heads kept busy r h st ks in going_full q c.loop-from-test.true c.form_end-from.ensures c.between.ensures c.port_of.result c.port_of.ensures.port_is c.in-Some.is (out_name _ c.port_of.result c.in-Some.is c.port_of.ensures.value) c.if-seen-i-ne0.false (ap is_ok c.in-Err.is) (c.add_output.ensures.output_added M.header heads h st q.clean c.args.k.now (reach_by q.f q.done) q.grown) c.args.m kept busy ks

pub returns-in-Err-clause-leaves : goal.returns-in-Err-clause-leaves
returns-in-Err-clause-leaves c = leaves_full c.loop-from.invariant.5 c.loop-from-test.true c.form_end-from.ensures c.between.ensures c.port_of.result c.port_of.ensures.value c.in-Some.is (out_name _ c.port_of.result c.in-Some.is c.port_of.ensures.value) c.if-seen-i-ne0.false c.args.m (ap is_ok c.in-Err.is) c.add_output.ensures.output_leaves (c.clear.ensures ∙ ap (λ (n : ℕ). replicate n 0) (c.add_output.auto.k ∙ c.loop-from.invariant.1.size))

pub loop-from-preserved : goal.loop-from-preserved
loop-from-preserved c = ((end_after c.args.s.now c.loop-from.from c.loop-from-test.true c.form_end-from.ensures).1, written_then c.loop-from.invariant.1 (written_of _ c.add_output.ensures.output_leaves.1), simp length-set c.loop-from.invariant.2, c.add_output.auto.w ∙ c.loop-from.invariant.3, λ d M heads kept busy r h st ks. let q = c.loop-from.invariant.4 d M heads kept busy r h st ks in going_new q c.loop-from-test.true c.form_end-from.ensures c.between.ensures c.port_of.result c.port_of.ensures.port_is c.in-Some.is (out_name _ c.port_of.result c.in-Some.is c.port_of.ensures.value) c.if-seen-i-ne0.false c.loop-from.invariant.2 refl (ap is_ok c.in_default-add_output.is) (c.add_output.ensures.output_added M.header heads h st q.clean c.args.k.now (reach_by q.f q.done) q.grown), turning_new c.loop-from.invariant.5 c.loop-from-test.true c.form_end-from.ensures c.between.ensures c.port_of.result c.port_of.ensures.value c.in-Some.is (out_name _ c.port_of.result c.in-Some.is c.port_of.ensures.value) c.if-seen-i-ne0.false c.loop-from.invariant.2 refl (ap is_ok c.in_default-add_output.is) c.add_output.ensures.output_leaves)

pub returns-clause-by_index : goal.returns-clause-by_index
returns-clause-by_index c = λ d M heads kept busy r h st ks small free. going_kept (c.loop-from.invariant.4 d M heads kept busy r h st ks) c.loop-from-test.false c.args.m small kept busy ks free c.at-start.ensures c.at-end.ensures c.keep.ensures

pub returns-clause-leaves : goal.returns-clause-leaves
returns-clause-leaves c = leaves_kept c.loop-from.invariant.5 c.loop-from-test.false c.args.m c.at-start.ensures c.at-end.ensures c.keep.ensures
