use Rattle.steps.proofs.StepLaws.{times_found}
use Rattle.consteval.specs.Worth.{names_of}
use Rattle.steps.proofs.times_of.Goals as goal

pub returns : goal.returns
returns c =
    let r = times_found c.args.x.now c.next_end-h.ensures c.next_end-a.ensures c.next_end-b.ensures c.next_end-c.ensures c.args.depth c.args.left (names_of c.args.names.now c.args.used) c.inner-d.ensures c.between.ensures c.value-n.ensures c.between-2.ensures c.eval-low.result c.eval-low.ensures c.between-3.ensures c.eval-high.result c.eval-high.ensures c.way_of.result c.way_of.ensures.value c.way_of.ensures.rounds_fit in record { value = r.0; rounds_fit = r.1.0; result_value = r.1.1 }
