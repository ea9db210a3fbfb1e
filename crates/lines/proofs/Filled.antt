-- What holds of the tables while they are filled: what the lines from here on add to them makes the design's tables; and where the pass stands.
-- 01: The line; Refused because of the text.
-- Assumes nothing: these are definitions.
use mathlib.Core.Path.{◌≡◌}
use mathlib.Core.Bool.{Bool, true, false}
use mathlib.Core.List.{List}
use Prim.Native.Nat.{ℕ, ◌+◌, ◌-◌}
use lib.Dec.{eqb}
use lib.ListN.{length, drop}
use Rattle.spec.specs.Bytes.{Bytes}
use Rattle.spec.specs.Syntax.{name_bound, Header}
use Rattle.spec.specs.Refusal.{lines, decode_lines, gather, Gathered, decode}
use Rattle.lines.specs.Tables.{put_header, put_kinds, marked, header_size, items_size, put_mods}
use Rattle.lines.specs.declared.tables.Progress.{Progress}
use Rattle.lines.proofs.Going.{Going}

-- 01, The line: what the lines from `at` on are: the header and items of the module before them, and the modules among them
unfoldable pub rest_of : Bytes → ℕ → Gathered
rest_of t at = gather (decode_lines (lines (drop at t)))

-- 01, The line: the table of places with those of the last module, if there is one: its items begin at i, and it ends at e
unfoldable pub mark_if : ℕ → ℕ → ℕ → List ℕ → List ℕ
mark_if modules i e table = elim (eqb modules 0) [ true ↦ table | false ↦ marked table (modules - 1) i e ]

-- 01, The line: the table of kinds with those of more header lines of the last module, if there is one
unfoldable pub header_if : ℕ → List Header → List ℕ → List ℕ
header_if modules hs table = elim (eqb modules 0) [ true ↦ table | false ↦ put_header (modules - 1) hs table ]

-- 01, The line: where the last module ends, if there is one: behind the header and items that go on at `at`; `at` itself if there is none
unfoldable pub rest_at : ℕ → ℕ → Gathered → ℕ
rest_at modules at g = elim (eqb modules 0) [ true ↦ at | false ↦ at + header_size g.header + items_size g.items ]

-- 01, The line: what holds of the tables where the lines before `at` are read: what the lines from there on add to them makes the design's tables
-- over what they held at first; of the last module, if there is one, they say that its items begin at `first` and that it ends at `at`; before its
-- first item `first` is `at`; both are as long as they were
pub record Filled (t : Bytes) (at modules : ℕ) (items : Bool) (first : ℕ) (kinds₀ mods₀ kinds mods : List ℕ) : Type 0 where
  pub kinds_rest : put_kinds 0 (decode t) kinds₀ ≡ put_kinds modules (rest_of t at).modules (header_if modules (rest_of t at).header kinds)
  pub mods_rest : put_mods 0 0 (decode t) mods₀
      ≡ put_mods modules (rest_at modules at (rest_of t at)) (rest_of t at).modules (mark_if modules (first + header_size (rest_of t at).header) (rest_at modules at (rest_of t at)) mods)
  pub still : mark_if modules first at mods ≡ mods
  pub first_here : items ≡ false → first ≡ at
  pub kinds_long : length kinds ≡ length kinds₀
  pub mods_long : length mods ≡ length mods₀

-- 01, The line; Refused because of the text: what holds of text and tables at the start of a line, with a place in `seen` for each name
pub record Filling (t : Bytes) (at row modules : ℕ) (items : Bool) (first : ℕ) (seen kinds₀ mods₀ kinds mods : List ℕ) : Type 0 where
  pub going : Going t at row modules items seen
  pub long : length seen ≡ name_bound
  pub filled : Filled t at modules items first kinds₀ mods₀ kinds mods

-- 01, Refused because of the text: where the pass stands: before a line, without a fault so far
pub record Reading (t : Bytes) (kinds₀ mods₀ : List ℕ) (p : Progress) (seen kinds mods : List ℕ) : Type 0 where
  pub places : length seen ≡ name_bound
  pub kinds_kept : length kinds ≡ length kinds₀
  pub mods_kept : length mods ≡ length mods₀
  pub goes_on : Filling t p.next p.row p.modules p.items p.first seen kinds₀ mods₀ kinds mods
