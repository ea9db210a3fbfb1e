use Rattle.std.proofs.lemmas.Result.{err_from_is_err_and}
use mathlib.Core.Path.{refl, sym, ap, ◌∙◌}
use Prim.Native.Nat.{ℕ, ◌+◌, ◌*◌, ◌-◌}
use native.Mathlib.Omega.{arith}
use lib.ListN.{set}
use Rattle.spec.specs.Syntax.{name_bound}
use Rattle.lines.specs.Kinds.{byte_of}
use Rattle.lines.specs.Parse.{kind_of}
use Rattle.lines.specs.Tables.{entries, flag_of}
use Rattle.lines.specs.declared.read.Step.TheVariants.{Module, Kind, Val, Item}
use Rattle.std.specs.Prelude.{Ok, Err}
use Rattle.lines.proofs.Filling.{row_fits, module_facts, kind_facts, val_facts, item_facts, behind_by}
use Rattle.lines.proofs.tables.enter_line.Goals as goal

pub overflow_add-first : goal.overflow_add-first
overflow_add-first c = let u = module_facts c.args.text.now c.args.at c.args.p c.args.seen.now c.args.kinds.now c.args.mods.now c.requires c.in-Module.feed (sym (c.in_ok-step.was ∙ ap Ok c.in-Module.is) ∙ c.line_step.ensures) in let w = row_fits c.args.text.now c.args.at c.args.p c.args.seen.now c.args.kinds.now c.args.mods.now c.requires in omega (arith, u.0, u.1, u.2, w.0, w.1)

pub overflow_cast-first : goal.overflow_cast-first
overflow_cast-first c = let u = module_facts c.args.text.now c.args.at c.args.p c.args.seen.now c.args.kinds.now c.args.mods.now c.requires c.in-Module.feed (sym (c.in_ok-step.was ∙ ap Ok c.in-Module.is) ∙ c.line_step.ensures) in let w = row_fits c.args.text.now c.args.at c.args.p c.args.seen.now c.args.kinds.now c.args.mods.now c.requires in omega (arith, u.0, u.1, u.2, w.0, w.1)

pub enter-requires : goal.enter-requires
enter-requires c = let u = module_facts c.args.text.now c.args.at c.args.p c.args.seen.now c.args.kinds.now c.args.mods.now c.requires c.in-Module.feed (sym (c.in_ok-step.was ∙ ap Ok c.in-Module.is) ∙ c.line_step.ensures) in let w = row_fits c.args.text.now c.args.at c.args.p c.args.seen.now c.args.kinds.now c.args.mods.now c.requires in omega (arith, u.0, u.1, u.2, w.0, w.1)

pub overflow_add-feed : goal.overflow_add-feed
overflow_add-feed c = let u = module_facts c.args.text.now c.args.at c.args.p c.args.seen.now c.args.kinds.now c.args.mods.now c.requires c.in-Module.feed (sym (c.in_ok-step.was ∙ ap Ok c.in-Module.is) ∙ c.line_step.ensures) in let w = row_fits c.args.text.now c.args.at c.args.p c.args.seen.now c.args.kinds.now c.args.mods.now c.requires in omega (arith, u.0, u.1, u.2, w.0, w.1)

pub behind_module-requires-clause-row_bound : goal.behind_module-requires-clause-row_bound
behind_module-requires-clause-row_bound c = let u = module_facts c.args.text.now c.args.at c.args.p c.args.seen.now c.args.kinds.now c.args.mods.now c.requires c.in-Module.feed (sym (c.in_ok-step.was ∙ ap Ok c.in-Module.is) ∙ c.line_step.ensures) in let w = row_fits c.args.text.now c.args.at c.args.p c.args.seen.now c.args.kinds.now c.args.mods.now c.requires in omega (arith, w.0)

pub behind_module-requires-clause-modules_bound : goal.behind_module-requires-clause-modules_bound
behind_module-requires-clause-modules_bound c = let u = module_facts c.args.text.now c.args.at c.args.p c.args.seen.now c.args.kinds.now c.args.mods.now c.requires c.in-Module.feed (sym (c.in_ok-step.was ∙ ap Ok c.in-Module.is) ∙ c.line_step.ensures) in let w = row_fits c.args.text.now c.args.at c.args.p c.args.seen.now c.args.kinds.now c.args.mods.now c.requires in u.1

pub overflow_sub-m : goal.overflow_sub-m
overflow_sub-m c = let u = kind_facts c.args.text.now c.args.at c.args.p c.args.seen.now c.args.kinds.now c.args.mods.now c.requires c.in-Kind.feed c.in-Kind.name (sym (c.in_ok-step.was ∙ ap Ok c.in-Kind.is) ∙ c.line_step.ensures) in let w = row_fits c.args.text.now c.args.at c.args.p c.args.seen.now c.args.kinds.now c.args.mods.now c.requires in omega (arith, u.0, u.1, u.2, u.3, u.4, w.0, w.1)

pub overflow_add-first-in-Kind : goal.overflow_add-first-in-Kind
overflow_add-first-in-Kind c = let u = kind_facts c.args.text.now c.args.at c.args.p c.args.seen.now c.args.kinds.now c.args.mods.now c.requires c.in-Kind.feed c.in-Kind.name (sym (c.in_ok-step.was ∙ ap Ok c.in-Kind.is) ∙ c.line_step.ensures) in let w = row_fits c.args.text.now c.args.at c.args.p c.args.seen.now c.args.kinds.now c.args.mods.now c.requires in omega (arith, u.0, u.1, u.2, u.3, u.4, w.0, w.1)

pub overflow_cast-first-in-Kind : goal.overflow_cast-first-in-Kind
overflow_cast-first-in-Kind c = let u = kind_facts c.args.text.now c.args.at c.args.p c.args.seen.now c.args.kinds.now c.args.mods.now c.requires c.in-Kind.feed c.in-Kind.name (sym (c.in_ok-step.was ∙ ap Ok c.in-Kind.is) ∙ c.line_step.ensures) in let w = row_fits c.args.text.now c.args.at c.args.p c.args.seen.now c.args.kinds.now c.args.mods.now c.requires in omega (arith, u.0, u.1, u.2, u.3, u.4, w.0, w.1)

pub overflow_add-kinds : goal.overflow_add-kinds
overflow_add-kinds c = let u = kind_facts c.args.text.now c.args.at c.args.p c.args.seen.now c.args.kinds.now c.args.mods.now c.requires c.in-Kind.feed c.in-Kind.name (sym (c.in_ok-step.was ∙ ap Ok c.in-Kind.is) ∙ c.line_step.ensures) in let w = row_fits c.args.text.now c.args.at c.args.p c.args.seen.now c.args.kinds.now c.args.mods.now c.requires in omega (arith, u.0, u.1, u.2, u.3, u.4, w.0, w.1)

pub bounds-kinds-m : goal.bounds-kinds-m
bounds-kinds-m c = let u = kind_facts c.args.text.now c.args.at c.args.p c.args.seen.now c.args.kinds.now c.args.mods.now c.requires c.in-Kind.feed c.in-Kind.name (sym (c.in_ok-step.was ∙ ap Ok c.in-Kind.is) ∙ c.line_step.ensures) in let w = row_fits c.args.text.now c.args.at c.args.p c.args.seen.now c.args.kinds.now c.args.mods.now c.requires in omega (arith, u.0, u.1, u.2, u.3, u.4, w.0, w.1)

pub mark-requires : goal.mark-requires
mark-requires c = let u = kind_facts c.args.text.now c.args.at c.args.p c.args.seen.now c.args.kinds.now c.args.mods.now c.requires c.in-Kind.feed c.in-Kind.name (sym (c.in_ok-step.was ∙ ap Ok c.in-Kind.is) ∙ c.line_step.ensures) in let w = row_fits c.args.text.now c.args.at c.args.p c.args.seen.now c.args.kinds.now c.args.mods.now c.requires in omega (arith, u.0, u.1, u.2, u.3, u.4, w.0, w.1)

pub bounds-seen-name : goal.bounds-seen-name
bounds-seen-name c = let u = kind_facts c.args.text.now c.args.at c.args.p c.args.seen.now c.args.kinds.now c.args.mods.now c.requires c.in-Kind.feed c.in-Kind.name (sym (c.in_ok-step.was ∙ ap Ok c.in-Kind.is) ∙ c.line_step.ensures) in let w = row_fits c.args.text.now c.args.at c.args.p c.args.seen.now c.args.kinds.now c.args.mods.now c.requires in u.2

pub overflow_add-feed-in-Kind : goal.overflow_add-feed-in-Kind
overflow_add-feed-in-Kind c = let u = kind_facts c.args.text.now c.args.at c.args.p c.args.seen.now c.args.kinds.now c.args.mods.now c.requires c.in-Kind.feed c.in-Kind.name (sym (c.in_ok-step.was ∙ ap Ok c.in-Kind.is) ∙ c.line_step.ensures) in let w = row_fits c.args.text.now c.args.at c.args.p c.args.seen.now c.args.kinds.now c.args.mods.now c.requires in omega (arith, u.0, u.1, u.2, u.3, u.4, w.0, w.1)

pub behind_line-requires : goal.behind_line-requires
behind_line-requires c = let u = kind_facts c.args.text.now c.args.at c.args.p c.args.seen.now c.args.kinds.now c.args.mods.now c.requires c.in-Kind.feed c.in-Kind.name (sym (c.in_ok-step.was ∙ ap Ok c.in-Kind.is) ∙ c.line_step.ensures) in let w = row_fits c.args.text.now c.args.at c.args.p c.args.seen.now c.args.kinds.now c.args.mods.now c.requires in omega (arith, u.0, u.1, u.2, u.3, u.4, w.0, w.1)

pub overflow_add-first-in-Val : goal.overflow_add-first-in-Val
overflow_add-first-in-Val c = let u = val_facts c.args.text.now c.args.at c.args.p c.args.seen.now c.args.kinds.now c.args.mods.now c.requires c.in-Val.feed (sym (c.in_ok-step.was ∙ ap Ok c.in-Val.is) ∙ c.line_step.ensures) in let w = row_fits c.args.text.now c.args.at c.args.p c.args.seen.now c.args.kinds.now c.args.mods.now c.requires in omega (arith, u.0, u.1, u.2, w.0, w.1)

pub overflow_cast-first-in-Val : goal.overflow_cast-first-in-Val
overflow_cast-first-in-Val c = let u = val_facts c.args.text.now c.args.at c.args.p c.args.seen.now c.args.kinds.now c.args.mods.now c.requires c.in-Val.feed (sym (c.in_ok-step.was ∙ ap Ok c.in-Val.is) ∙ c.line_step.ensures) in let w = row_fits c.args.text.now c.args.at c.args.p c.args.seen.now c.args.kinds.now c.args.mods.now c.requires in omega (arith, u.0, u.1, u.2, w.0, w.1)

pub overflow_sub-p : goal.overflow_sub-p
overflow_sub-p c = let u = val_facts c.args.text.now c.args.at c.args.p c.args.seen.now c.args.kinds.now c.args.mods.now c.requires c.in-Val.feed (sym (c.in_ok-step.was ∙ ap Ok c.in-Val.is) ∙ c.line_step.ensures) in let w = row_fits c.args.text.now c.args.at c.args.p c.args.seen.now c.args.kinds.now c.args.mods.now c.requires in omega (arith, u.0, u.1, u.2, w.0, w.1)

pub mark-requires-in-Val : goal.mark-requires-in-Val
mark-requires-in-Val c = let u = val_facts c.args.text.now c.args.at c.args.p c.args.seen.now c.args.kinds.now c.args.mods.now c.requires c.in-Val.feed (sym (c.in_ok-step.was ∙ ap Ok c.in-Val.is) ∙ c.line_step.ensures) in let w = row_fits c.args.text.now c.args.at c.args.p c.args.seen.now c.args.kinds.now c.args.mods.now c.requires in omega (arith, u.0, u.1, u.2, w.0, w.1)

pub overflow_add-feed-in-Val : goal.overflow_add-feed-in-Val
overflow_add-feed-in-Val c = let u = val_facts c.args.text.now c.args.at c.args.p c.args.seen.now c.args.kinds.now c.args.mods.now c.requires c.in-Val.feed (sym (c.in_ok-step.was ∙ ap Ok c.in-Val.is) ∙ c.line_step.ensures) in let w = row_fits c.args.text.now c.args.at c.args.p c.args.seen.now c.args.kinds.now c.args.mods.now c.requires in omega (arith, u.0, u.1, u.2, w.0, w.1)

pub behind_line-requires-in-Val : goal.behind_line-requires-in-Val
behind_line-requires-in-Val c = let u = val_facts c.args.text.now c.args.at c.args.p c.args.seen.now c.args.kinds.now c.args.mods.now c.requires c.in-Val.feed (sym (c.in_ok-step.was ∙ ap Ok c.in-Val.is) ∙ c.line_step.ensures) in let w = row_fits c.args.text.now c.args.at c.args.p c.args.seen.now c.args.kinds.now c.args.mods.now c.requires in omega (arith, u.0, u.1, u.2, w.0, w.1)

pub overflow_sub-p-in-Item : goal.overflow_sub-p-in-Item
overflow_sub-p-in-Item c = let u = item_facts c.args.text.now c.args.at c.args.p c.args.seen.now c.args.kinds.now c.args.mods.now c.requires c.in-Item.feed (sym (c.in_ok-step.was ∙ ap Ok c.in-Item.is) ∙ c.line_step.ensures) in let w = row_fits c.args.text.now c.args.at c.args.p c.args.seen.now c.args.kinds.now c.args.mods.now c.requires in omega (arith, u.0, u.1, u.2, w.0, w.1)

pub overflow_add-feed-in-Item : goal.overflow_add-feed-in-Item
overflow_add-feed-in-Item c = let u = item_facts c.args.text.now c.args.at c.args.p c.args.seen.now c.args.kinds.now c.args.mods.now c.requires c.in-Item.feed (sym (c.in_ok-step.was ∙ ap Ok c.in-Item.is) ∙ c.line_step.ensures) in let w = row_fits c.args.text.now c.args.at c.args.p c.args.seen.now c.args.kinds.now c.args.mods.now c.requires in omega (arith, u.0, u.1, u.2, w.0, w.1)

pub overflow_cast-feed : goal.overflow_cast-feed
overflow_cast-feed c = let u = item_facts c.args.text.now c.args.at c.args.p c.args.seen.now c.args.kinds.now c.args.mods.now c.requires c.in-Item.feed (sym (c.in_ok-step.was ∙ ap Ok c.in-Item.is) ∙ c.line_step.ensures) in let w = row_fits c.args.text.now c.args.at c.args.p c.args.seen.now c.args.kinds.now c.args.mods.now c.requires in omega (arith, u.0, u.1, u.2, w.0, w.1)

pub mark-requires-in-Item : goal.mark-requires-in-Item
mark-requires-in-Item c = let u = item_facts c.args.text.now c.args.at c.args.p c.args.seen.now c.args.kinds.now c.args.mods.now c.requires c.in-Item.feed (sym (c.in_ok-step.was ∙ ap Ok c.in-Item.is) ∙ c.line_step.ensures) in let w = row_fits c.args.text.now c.args.at c.args.p c.args.seen.now c.args.kinds.now c.args.mods.now c.requires in omega (arith, u.0, u.1, u.2, w.0, w.1)

pub overflow_add-feed-in-Item-2 : goal.overflow_add-feed-in-Item-2
overflow_add-feed-in-Item-2 c = let u = item_facts c.args.text.now c.args.at c.args.p c.args.seen.now c.args.kinds.now c.args.mods.now c.requires c.in-Item.feed (sym (c.in_ok-step.was ∙ ap Ok c.in-Item.is) ∙ c.line_step.ensures) in let w = row_fits c.args.text.now c.args.at c.args.p c.args.seen.now c.args.kinds.now c.args.mods.now c.requires in omega (arith, u.0, u.1, u.2, w.0, w.1)

pub behind_line-requires-in-Item : goal.behind_line-requires-in-Item
behind_line-requires-in-Item c = let u = item_facts c.args.text.now c.args.at c.args.p c.args.seen.now c.args.kinds.now c.args.mods.now c.requires c.in-Item.feed (sym (c.in_ok-step.was ∙ ap Ok c.in-Item.is) ∙ c.line_step.ensures) in let w = row_fits c.args.text.now c.args.at c.args.p c.args.seen.now c.args.kinds.now c.args.mods.now c.requires in omega (arith, u.0, u.1, u.2, w.0, w.1)

pub returns-in_err-step : goal.returns-in_err-step
returns-in_err-step c = let p = err_from_is_err_and c.from_residual.result c.from_residual.ensures.1 in behind_by c.args.text.now c.args.at c.args.p c.args.seen.now c.args.kinds.now c.args.mods.now _ (sym c.in_err-step.was ∙ c.line_step.ensures) _ _ _ _ (p.1 ∙ ap Err p.2) refl refl refl

pub returns-in-Module : goal.returns-in-Module
returns-in-Module c = behind_by c.args.text.now c.args.at c.args.p c.args.seen.now c.args.kinds.now c.args.mods.now (Ok (Module c.in-Module.feed)) (sym (c.in_ok-step.was ∙ ap Ok c.in-Module.is) ∙ c.line_step.ensures) _ _ _ _ (ap Ok c.behind_module.ensures) (c.fill.ensures.after (λ y e. e)) refl (c.enter.ensures ∙ ap (λ (f : ℕ). entries c.args.mods.now c.args.p.modules f (c.in-Module.feed + 1) (c.in-Module.feed + 1) (c.in-Module.feed + 1)) (c.flag_of-flag.ensures ∙ ap flag_of c.second_key.ensures))

pub returns-in-Kind : goal.returns-in-Kind
returns-in-Kind c = behind_by c.args.text.now c.args.at c.args.p c.args.seen.now c.args.kinds.now c.args.mods.now (Ok (Kind c.in-Kind.feed c.in-Kind.name)) (sym (c.in_ok-step.was ∙ ap Ok c.in-Kind.is) ∙ c.line_step.ensures) _ _ _ _ (ap Ok c.behind_line.ensures) refl (ap (λ (k : ℕ). set c.args.kinds.now ((c.args.p.modules - 1) * name_bound + c.in-Kind.name) k) (c.byte_of-k.ensures ∙ ap byte_of (c.kind_of.ensures ∙ ap kind_of c.second_key-in-Kind.ensures))) c.mark.ensures

pub returns-in-Val : goal.returns-in-Val
returns-in-Val c = behind_by c.args.text.now c.args.at c.args.p c.args.seen.now c.args.kinds.now c.args.mods.now (Ok (Val c.in-Val.feed)) (sym (c.in_ok-step.was ∙ ap Ok c.in-Val.is) ∙ c.line_step.ensures) _ _ _ _ (ap Ok c.behind_line-in-Val.ensures) refl refl c.mark-in-Val.ensures

pub returns-in-Item : goal.returns-in-Item
returns-in-Item c = behind_by c.args.text.now c.args.at c.args.p c.args.seen.now c.args.kinds.now c.args.mods.now (Ok (Item c.in-Item.feed)) (sym (c.in_ok-step.was ∙ ap Ok c.in-Item.is) ∙ c.line_step.ensures) _ _ _ _ (ap Ok c.behind_line-in-Item.ensures) refl refl c.mark-in-Item.ensures
