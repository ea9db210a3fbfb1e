use mathlib.Core.Path.{sym, ap, ◌∙◌}
use Prim.Native.Nat.{ℕ, ◌+◌, ◌*◌}
use lib.ListN.{get_or}
use Rattle.sites.specs.Own.{run}
use Rattle.spec.specs.Refusal.{has_name}
use Rattle.sites.specs.Own.{misuse_table}
use Rattle.sites.proofs.Rows.{names_are}
use Rattle.sites.proofs.Conflicts.{poison_rows}
use Rattle.sites.proofs.misused.Goals as goal

pub returns : goal.returns
returns c = c.has_row.ensures ∙ ap (λ (k : ℕ). has_name c.args.name (run (λ (i : ℕ). get_or c.args.own.now (misuse_table.base + 3 * i) 0) 0 k)) c.rows_in-n.ensures.0 ∙ ap (has_name c.args.name) (names_are misuse_table c.args.own.now ∙ sym (poison_rows c.args.own.now))
