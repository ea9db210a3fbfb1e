-- What ties the fused walk to the specification: it gives what the specification gives of the collected list, and the fused check is the
-- check.
-- 01: The collected item; The site; The block; The edge; The report; Refused because of the state.
-- To a reader: definitions to believe, and a statement, Fused, proved in proofs/Fused.
use Rattle.std.specs.Prelude.{◌≡◌, ◌↔◌, Bool, true, false, ◌||◌, List, [], ◌∷◌, ℕ}
use Rattle.spec.specs.Syntax.{Header, Module, Design}
use Rattle.spec.specs.Value.{own_vals, name_table}
use Rattle.spec.specs.Collect.{Collected, collection}
use Rattle.spec.specs.Site.{sites, lines_outside, misuses, once_a_name, outputs}
use Rattle.spec.specs.Block.{all_pairs, regs, mems}
use Rattle.spec.specs.Edge.{over_graph}
use Rattle.spec.specs.Summary.{Kept, Asked, comb_summary, module_heads}
use Rattle.spec.specs.Check.{Checked, check_design}
use Rattle.walk.specs.Walk.{full, going, unless, Walked, walked, add_all, same_pair, Own, State, over_own, answered, Asking, Tally, ask_walk, own_walk, check_all, check_fused}

-- 01, The site; The block: the own tables of a module's collected lines, as the specification lists them; the different pairs stand at
-- their first
unfoldable pub own_of_lines : Bool → List Header → List Collected → Own
own_of_lines bound hs cs =
    record {
      sites = sites bound hs cs;
      pairs = add_all same_pair (all_pairs hs cs) [];
      outputs = outputs cs;
      regs = regs cs;
      mems = mems cs;
      misuses = once_a_name [] (misuses hs cs);
    }

-- 01, The edge: asking by the walk gives what the specification gives, or is full where that says so
abbrev pub Agrees : Asking → (Kept → ℕ → Asked) → Type 0
Agrees ask by = (kept : Kept) (m : ℕ) → ask kept m ≡ unless (by kept m).full (answered (by kept m).summary (by kept m).kept)

-- 01, Refused because of the state: whether a module evaluates a constant outside INT as it is collected: in its `const` lines, or at a
-- collected line
unfoldable pub module_outside : Module → Bool
module_outside k = (name_table (own_vals k) k).out || lines_outside k.header (collection (own_vals k) k).lines

-- 01, Refused because of the state: whether some module does
unfoldable pub some_outside : List Module → Bool
some_outside [] = false
some_outside (k ∷ ks) = module_outside k || some_outside ks

-- 01, The report: what the specification's check gives, without the flag
abbrev pub tally_of : Checked → Tally
tally_of c = record { reports = c.reports; rounds = c.rounds; kept = c.kept }

-- 01, The collected item: what the specification gives for a module's own walk: its tables, its heads, the summaries kept and the
-- rounds left
unfoldable pub module_walked : Design → Module → Kept → Walked State
module_walked d k kept =
    let c = collection (own_vals k) k in
    let h = module_heads d kept k c.lines in
    walked c.left (record { own = own_of_lines k.bound k.header c.lines; heads = h.heads; kept = h.kept })

-- 01, Refused because of the state: whether the specification says that a module's own walk passes a limit or leaves INT
unfoldable pub module_stops : Design → Module → Kept → Bool
module_stops d k kept =
    let c = collection (own_vals k) k in
    let h = module_heads d kept k c.lines in
    (name_table (own_vals k) k).out || (lines_outside k.header c.lines || (over_own (own_of_lines k.bound k.header c.lines) || (h.full || over_graph h.heads)))

-- 01, The collected item; The edge; The report; Refused because of the state: the walk gives what the specification gives of the collected
-- list, and the fused check is the check: it is full exactly where the answer is 20, and else has its reports, rounds and summaries. A
-- summary's walk may be full for a constant that the specification evaluates only in that module's own check; so walks of one module are
-- tied where no module evaluates one outside INT, and the whole check always. What is made is kept: a second check, with the summaries that
-- the first kept, gives what the first gave.
pub record Fused : Type 0 where
  pub summary : (d : Design) → some_outside d ≡ false → (fuel : ℕ) (busy : List ℕ) → Agrees (ask_walk fuel d busy) (comb_summary fuel d busy)
  pub own_check : (d : Design) → some_outside d ≡ false → (k : Module) (kept : Kept) → own_walk d k kept ≡ unless (module_stops d k kept) (module_walked d k kept)
  pub whole : (d : Design) → check_fused d ≡ unless (check_design d).full (tally_of (check_design d))
  pub full_exactly : (d : Design) → (check_fused d ≡ full) ↔ ((check_design d).full ≡ true)
  pub as_checked : (d : Design) (t : Tally) → check_fused d ≡ going t → t ≡ tally_of (check_design d)
  pub again : (d : Design) (t : Tally) → check_fused d ≡ going t → check_all d t.kept 0 d ≡ going t
