-- Where the lines of a module stand in an accepted text, and what is known of them. 01: The line; Refused because of the text.
-- To a reader: definitions that the contracts of steps cite; each such contract is proved; check_drivers' own promise cites none of them.
use Rattle.std.specs.Prelude.{◌≡◌, Bool, true, ◌&&◌, List, [], ◌∷◌, ℕ, ◌+◌, ◌*◌, ◌-◌, ◌≤◌, ◌<◌, length, get_or, take, drop}
use Rattle.spec.specs.Bytes.{Bytes}
use Rattle.spec.specs.Syntax.{Header, Module, header_line}
use Rattle.spec.specs.Decode.{depth_limit}
use Rattle.spec.specs.Refusal.{text_limit, line_in_range, items_depth, items_in_range}
use Rattle.lines.specs.Saying.{Placed}

-- 01, Refused because of the text: no number of a header is out of range
unfoldable pub header_in_range : List Header → Bool
header_in_range [] = true
header_in_range (h ∷ hs) = line_in_range (header_line h) && header_in_range hs

-- 01, The line; Refused because of the text: what is known of module k, number m of an accepted text whose table of places is `mods`: the text is not
-- too long, k's lines stand in those places, its items not at the first byte; no number is out of range, no item deeper than the limit
pub record ModuleAt (text : Bytes) (mods : List ℕ) (m : ℕ) (k : Module) : Type 0 where
  pub short : length text ≤ text_limit
  pub placed : Placed text mods m k
  pub before : 0 < get_or mods (m * 4 + 2) 0
  pub header_ranged : header_in_range k.header ≡ true
  pub ranged : items_in_range k.items ≡ true
  pub deep : items_depth k.items ≤ depth_limit

-- 01, The line: the run of the items of module m, from the byte before the first to the line feed behind the last
abbrev pub items_run : Bytes → List ℕ → ℕ → Bytes
items_run text mods m = take (get_or mods (m * 4 + 3) 0 - (get_or mods (m * 4 + 2) 0 - 1)) (drop (get_or mods (m * 4 + 2) 0 - 1) text)
