-- What the tables of an accepted text say of its design. 01: The line; Refused because of the text.
-- To a reader: definitions, of which the contracts of steps cite Placed, and a statement, Says, proved in proofs/Said.
use Rattle.std.specs.Prelude.{◌≡◌, List, [], ◌∷◌, ℕ, zero, suc, ◌+◌, ◌*◌, ◌-◌, ◌≤◌, ◌<◌, length, get_or, take, drop, replicate}
use Rattle.std.proofs.Math.Option.{Option, none, some}
use Rattle.spec.specs.Bytes.{Bytes}
use Rattle.spec.specs.Syntax.{name_bound, Kind, Module, Design}
use Rattle.spec.specs.Show.{show_lines, header_lines, item_lines}
use Rattle.spec.specs.Site.{kind_of}
use Rattle.spec.specs.Refusal.{decode}
use Rattle.lines.specs.Tables.{kind_number, flag, put_kinds, put_mods}

-- 01, The line: the number of a kind, and z for none
abbrev pub kind_or : Option Kind → ℕ → ℕ
kind_or none z = z
kind_or (some k) z = kind_number k

-- 01, The line: the number of a name's kind in module m, and 0 where it has none or there is no such module
unfoldable pub kind_at : Design → ℕ → ℕ → ℕ
kind_at [] m n = 0
kind_at (k ∷ ms) zero n = kind_or (kind_of k.header n) 0
kind_at (k ∷ ms) (suc m) n = kind_at ms m n

-- 01, The line: what the table of places says of module m: whether it is bound, and three places of the text in order: between them stand the lines
-- of its header and of its items, and no others
pub record Placed (t : Bytes) (table : List ℕ) (m : ℕ) (k : Module) : Type 0 where
  pub bound : get_or table (m * 4) 0 ≡ flag k.bound
  pub order : (get_or table (m * 4 + 1) 0 ≤ get_or table (m * 4 + 2) 0) × (get_or table (m * 4 + 2) 0 ≤ get_or table (m * 4 + 3) 0) × (get_or table (m * 4 + 3) 0 ≤ length t)
  pub header : take (get_or table (m * 4 + 2) 0 - get_or table (m * 4 + 1) 0) (drop (get_or table (m * 4 + 1) 0) t) ≡ show_lines (header_lines k.header [])
  pub items : take (get_or table (m * 4 + 3) 0 - get_or table (m * 4 + 2) 0) (drop (get_or table (m * 4 + 2) 0) t) ≡ show_lines (item_lines k.items [])

-- 01, The line: the same of each of these modules, numbered from m on
abbrev pub AllPlaced : Bytes → List ℕ → ℕ → Design → Type 0
AllPlaced t table m [] = Unit {0}
AllPlaced t table m (k ∷ ms) = Placed t table m k × AllPlaced t table (suc m) ms

-- 01, The line; Refused because of the text: of every accepted text, with tables that were zero and have so many places, which are enough: at most 32
-- modules; the kind of each name of each module, and 0 for none; the places of each module, and zeros behind them
pub record Says (t : Bytes) (kinds mods : ℕ) : Type 0 where
  pub few : length (decode t) ≤ 32
  pub kinds_say : (m n : ℕ) → n < name_bound → get_or (put_kinds 0 (decode t) (replicate kinds 0)) (m * name_bound + n) 0 ≡ kind_at (decode t) m n
  pub mods_say : AllPlaced t (put_mods 0 0 (decode t) (replicate mods 0)) 0 (decode t)
  pub mods_zero : (i : ℕ) → length (decode t) * 4 ≤ i → get_or (put_mods 0 0 (decode t) (replicate mods 0)) i 0 ≡ 0
