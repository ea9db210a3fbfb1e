-- Runs of items as bytes: the items of a module, or those inside a `repeat`, `then` or `else`. A run begins with the byte before its
-- first item; one byte stands between two items and one behind the last: the line feeds of the lines of a module, or the spaces and
-- the last bracket of a form. 01: The line; Refused because of the text.
-- To a reader: definitions that contracts of this and other crates cite; each such contract is proved; check_drivers' own promise cites none of them.
use Rattle.std.specs.Prelude.{◌≡◌, true, false, List, [], ◌∷◌, ◌++◌, ℕ, zero, suc, ◌≤◌, eqb}
use Rattle.spec.specs.Bytes.{Bytes}
use Rattle.spec.specs.Syntax.{Item, Items}
use Rattle.spec.specs.Show.{show_item, show_items}
use Rattle.spec.specs.Decode.{depth_limit}
use Rattle.spec.specs.Refusal.{one_form, item_depth, items_depth, item_in_range, items_in_range}
use Rattle.lines.specs.Parts.{next_end}

-- 01, The line: how many bytes there are to the end of the form that stands first, its last bracket included, k brackets being open in it
unfoldable pub form_length : ℕ → Bytes → ℕ
form_length k [] = 0
form_length k (c ∷ s) =
    elim (eqb c 40) [
      | true ↦ suc (form_length (suc k) s)
      | false ↦ elim (eqb c 41) [
        | true ↦ elim k [ zero ↦ 1 | suc j ↦ elim j [ zero ↦ 1 | suc i ↦ suc (form_length (suc i) s) ] ]
        | false ↦ suc (form_length k s)
      ]
    ]

-- 01, The line: where the head word of a form ends
abbrev pub head_end : Bytes → ℕ
head_end x = next_end x 0

-- 01, The line: where the first part behind the head word ends
abbrev pub first_end : Bytes → ℕ
first_end x = next_end x (head_end x)

-- 01, The line: where the second part behind the head word ends
abbrev pub second_end : Bytes → ℕ
second_end x = next_end x (first_end x)

-- 01, The line: where the third part behind the head word ends
abbrev pub third_end : Bytes → ℕ
third_end x = next_end x (second_end x)

-- 01, The line: s is a run of these forms: one byte before each and one behind the last
pub data Run : Bytes → List Bytes → Type 0 where
  last : (b : ℕ) → Run (b ∷ []) []
  next : (b : ℕ) {x s : Bytes} {xs : List Bytes} → one_form x ≡ true → Run s xs → Run (b ∷ x ++ s) (x ∷ xs)

-- 01, The line; Refused because of the text: the bytes x show the item i, which is in range and at most d brackets deep, and d is not past the limit
pub record ShowsItem (x : Bytes) (d : ℕ) (i : Item) : Type 0 where
  pub shown : x ≡ show_item i
  pub deep : item_depth i ≤ d
  pub within : d ≤ depth_limit
  pub ranged : item_in_range i ≡ true

-- 01, The line; Refused because of the text: s is a run of these items, which are in range and at most d brackets deep, and d is not past the limit
pub record RunOf (d : ℕ) (s : Bytes) (is : Items) : Type 0 where
  pub deep : items_depth is ≤ d
  pub within : d ≤ depth_limit
  pub ranged : items_in_range is ≡ true
  pub run : Run s (show_items is)
