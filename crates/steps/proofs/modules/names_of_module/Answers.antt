use Rattle.steps.proofs.ModuleLaws.{names_found, named_of}
use Rattle.steps.proofs.modules.names_of_module.Goals as goal

pub returns : goal.returns
returns c =
    let r = names_found c.args.text.now c.args.mods.now c.args.m c.place-i.ensures c.place-e.ensures c.args.names.now c.place-h.ensures c.stretch.ensures c.stretch-2.ensures c.fill.ensures.names_after c.fill.auto.names (named_of c.fill.result c.map_err.result _ c.map_err.ensures.cases) in record { value = r.0; names_after = r.1.0; names_are = r.1.1 }
