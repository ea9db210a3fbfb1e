-- Blocks: who sets registers and memories. 01: The block.
-- To a reader: definitions to believe; pairs, block_count, regs and mems are pinned by Meaning.Meaning (proved in proofs/Meaning).
use Rattle.std.specs.Prelude.{Bool, true, false, ◌&&◌, ◌||◌, List, [], ◌∷◌, ◌++◌, ℕ, suc, eqb}
use Rattle.std.proofs.Math.Option.{Option, some, none}
use Rattle.spec.specs.Syntax.{Kind, in_kind, out_kind, wire_kind, reg_kind, mem_kind, inst_kind, Stmt, Stmts, set, default, loop, when, Item, port, wire, reg, mem, const, drive, on, inst, repeat, const_if, Header}
use Rattle.spec.specs.Refusal.{has_name}
use Rattle.spec.specs.Collect.{Collected}
use Rattle.spec.specs.Site.{kind_of}

-- 01, The block: a name and a block that sets it; a block is its START, repeats or not.
pub record Pair : Type 0 where
  pub name : ℕ
  pub block : ℕ

-- 01, The block: a reg, by kind.
abbrev pub is_reg : Option Kind → Bool
is_reg none = false
is_reg (some in_kind) = false
is_reg (some out_kind) = false
is_reg (some wire_kind) = false
is_reg (some reg_kind) = true
is_reg (some mem_kind) = false
is_reg (some inst_kind) = false

-- 01, The block: a mem, by kind.
abbrev pub is_mem : Option Kind → Bool
is_mem none = false
is_mem (some in_kind) = false
is_mem (some out_kind) = false
is_mem (some wire_kind) = false
is_mem (some reg_kind) = false
is_mem (some mem_kind) = true
is_mem (some inst_kind) = false

-- 01, The block: what counts.
abbrev pub pair_if : Bool → ℕ → ℕ → List Pair
pair_if true n block = record { name = n; block = block } ∷ []
pair_if false n block = []

-- 01, The block: `set` on reg or mem and `default` on reg count.
unfoldable mutual
  pub stmt_pairs : Stmt → List Header → ℕ → List Pair
  stmt_pairs (set n start) hs block = pair_if (is_reg (kind_of hs n) || is_mem (kind_of hs n)) n block
  stmt_pairs (default n) hs block = pair_if (is_reg (kind_of hs n)) n block
  stmt_pairs (loop ss) hs block = stmts_pairs ss hs block
  stmt_pairs (when ss ts) hs block = stmts_pairs ss hs block ++ stmts_pairs ts hs block

  pub stmts_pairs : Stmts → List Header → ℕ → List Pair
  stmts_pairs Stmts.none hs block = []
  stmts_pairs (Stmts.more s ss) hs block = stmt_pairs s hs block ++ stmts_pairs ss hs block

-- 01, The block: the pairs of a line: `on` alone makes them.
unfoldable pub line_pairs : List Header → Item → List Pair
line_pairs hs (on s ss) = stmts_pairs ss hs s
line_pairs hs (port d n w s) = []
line_pairs hs (wire n e s) = []
line_pairs hs (reg n s) = []
line_pairs hs (mem n s) = []
line_pairs hs (const n e) = []
line_pairs hs (drive lv e) = []
line_pairs hs (inst i) = []
line_pairs hs (repeat n l h is) = []
line_pairs hs (const_if c is js) = []

-- 01, Refused because of the state: pairs of name and block: the same pair stands in a list.
unfoldable pub has_pair : Pair → List Pair → Bool
has_pair p [] = false
has_pair p (q ∷ qs) = eqb p.name q.name && eqb p.block q.block || has_pair p qs

-- 01, Refused because of the state: pairs of name and block, each once.
unfoldable pub different_pairs : List Pair → List Pair
different_pairs [] = []
different_pairs (p ∷ ps) = elim (has_pair p ps) [ true ↦ different_pairs ps | false ↦ p ∷ different_pairs ps ]

-- 01, The block: the pairs of a module, as often as they are collected.
unfoldable pub all_pairs : List Header → List Collected → List Pair
all_pairs hs [] = []
all_pairs hs (c ∷ cs) = line_pairs hs c.item ++ all_pairs hs cs

-- 01, Refused because of the state: the different pairs of name and block of a module.
unfoldable pub pairs : List Header → List Collected → List Pair
pairs hs cs = different_pairs (all_pairs hs cs)

-- 01, The block: how many blocks a name has.
unfoldable pub block_count : ℕ → List Pair → ℕ
block_count n [] = 0
block_count n (p ∷ ps) = elim (eqb n p.name) [ true ↦ suc (block_count n ps) | false ↦ block_count n ps ]

-- 01, The block: a register or memory, of a `reg` or `mem` line. Decision: whatever kind its name has.
pub record Storage : Type 0 where
  pub name : ℕ
  pub start : ℕ

-- 01, The block: the regs of a line.
unfoldable pub line_regs : Item → List Storage
line_regs (reg n s) = record { name = n; start = s } ∷ []
line_regs (mem n s) = []
line_regs (on s ss) = []
line_regs (port d n w s) = []
line_regs (wire n e s) = []
line_regs (const n e) = []
line_regs (drive lv e) = []
line_regs (inst i) = []
line_regs (repeat n l h is) = []
line_regs (const_if c is js) = []

-- 01, The block: the mems of a line.
unfoldable pub line_mems : Item → List Storage
line_mems (mem n s) = record { name = n; start = s } ∷ []
line_mems (reg n s) = []
line_mems (on s ss) = []
line_mems (port d n w s) = []
line_mems (wire n e s) = []
line_mems (const n e) = []
line_mems (drive lv e) = []
line_mems (inst i) = []
line_mems (repeat n l h is) = []
line_mems (const_if c is js) = []

-- 01, The block: every collected `reg` or `mem` line.
unfoldable pub storage_lines : (Item → List Storage) → List Collected → List Storage
storage_lines f [] = []
storage_lines f (c ∷ cs) = f c.item ++ storage_lines f cs

-- 01, The block: regs and mems too count by their first collected line; `seen` has the names before.
unfoldable pub first_storage : List ℕ → List Storage → List Storage
first_storage seen [] = []
first_storage seen (r ∷ rs) = elim (has_name r.name seen) [ true ↦ first_storage seen rs | false ↦ r ∷ first_storage (r.name ∷ seen) rs ]

-- 01, The block: regs by their first collected line.
unfoldable pub regs : List Collected → List Storage
regs cs = first_storage [] (storage_lines line_regs cs)

-- 01, The block: mems by their first collected line.
unfoldable pub mems : List Collected → List Storage
mems cs = first_storage [] (storage_lines line_mems cs)
