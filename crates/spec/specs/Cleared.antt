-- A working slice of which every place is 0, and what holds by a step's number. 01: Refused because of the state; Forms for specific places.
-- To a reader: definitions to believe; contracts of consteval, graph, items, collect and drivers cite them.
use Rattle.std.specs.Prelude.{◌≡◌, List, ℕ, zero, suc, length, replicate}

-- 01, Refused because of the state: lent working memory is zero after each call: every place of the slice is 0
abbrev pub Cleared : List ℕ → Type 0
Cleared s = s ≡ replicate (length s) 0

-- 01, Forms for specific places: each enum answer has a definition that gives this paper's number: what holds where that is 0, and what where it is the
-- number of a refusal
abbrev pub ByNumber : ℕ → Type 0 → Type 0 → Type 0
ByNumber zero goes_on refused = goes_on
ByNumber (suc n) goes_on refused = refused
