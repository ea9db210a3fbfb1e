-- What the walk over items needs to know of an item: what it is, how often a `repeat` runs, which branch a `constif` takes, and where
-- their bodies stand. 01: The line; The value; The collected item; The edge; Refused because of the state.
-- To a reader: definitions that contracts of this and other crates cite; each such contract is proved; check_drivers' own promise cites none of them.
use Rattle.std.specs.Prelude.{◌≡◌, Bool, true, false, ◌||◌, ℕ, zero, suc, ◌+◌, ◌-◌, ◌≤◌, min, length, get_or, eqb, ltb, leb, ℤ, pos, negsuc, ◌-ℤ◌, Result, Ok, Err}
use Rattle.spec.specs.Bytes.{Bytes, number}
use Rattle.spec.specs.Syntax.{Expr, Inst, Item, Items, port, wire, reg, mem, const, drive, on, inst, repeat, const_if}
use Rattle.spec.specs.Decode.{decode_expr}
use Rattle.spec.specs.Value.{Value, known, missing, outside, Names, value, is_outside}
use Rattle.lines.specs.Parts.{piece, next_end}
use Rattle.consteval.specs.Worth.{signed, biased, refused_if}
use Rattle.runs.specs.Run.{head_end, first_end, second_end, third_end, RunOf}
use Rattle.walk.specs.Walk.{takes_then}
use Rattle.steps.specs.declared.Head as H
use Rattle.steps.specs.declared.Head.TheVariants as head
use Rattle.consteval.specs.declared.Outside.{Outside}
use Rattle.steps.specs.declared.Times as T
use Rattle.steps.specs.declared.Times.TheVariants as times
use Rattle.steps.specs.declared.Run.{Run}

-- ---- 01, The collected item; The edge: what an item is

-- 01, The line: what stands in any bytes, by those that tell the head words of items apart: the first letter of `inst`, the first and the third of
-- `repeat`, the first and the sixth of `constif`; all else is plain
unfoldable pub head_of : Bytes → H.Head
head_of x =
    elim (eqb (get_or x 1 0) 105) [
      | true ↦ head.Inst
      | false ↦ elim (eqb (get_or x 1 0) 114) [
        | true ↦ elim (eqb (get_or x 3 0) 112) [ true ↦ head.Repeat | false ↦ head.Plain ]
        | false ↦ elim (eqb (get_or x 1 0) 99) [
          | true ↦ elim (eqb (get_or x 6 0) 105) [ true ↦ head.ConstIf | false ↦ head.Plain ]
          | false ↦ head.Plain
        ]
      ]
    ]

-- 01, The collected item; The edge: whether a line holds no items and asks for no summary
abbrev pub plain : Item → Bool
plain (port d n w s) = true
plain (wire n e s) = true
plain (reg n s) = true
plain (mem n s) = true
plain (const n e) = true
plain (drive lv e) = true
plain (on s ss) = true
plain (inst i) = false
plain (repeat n l h is) = false
plain (const_if c is js) = false

-- 01, The collected item; The edge: what the code says of an item is so: it is plain, an `inst`, a `repeat` or a `constif`
abbrev pub HeadIs : H.Head → Item → Type 0
HeadIs head.Plain i = plain i ≡ true
HeadIs head.Inst i = (x : Inst) × (i ≡ inst x)
HeadIs head.Repeat i = (n : ℕ) × (low : Expr) × (high : Expr) × (is : Items) × (i ≡ repeat n low high is)
HeadIs head.ConstIf i = (c : Expr) × (is : Items) × (js : Items) × (i ≡ const_if c is js)

-- ---- 01, The collected item: `repeat`

-- 01, The line: the end of the part behind the byte at `before`, but no later than the bytes end
abbrev pub end_within : Bytes → ℕ → ℕ
end_within x before = min (next_end x before) (length x)

-- 01, The line: where the run of the body of a `repeat` begins: at the end of the third part behind the head word, but no later than the bytes end
abbrev pub body_at : Bytes → ℕ
body_at x = min (third_end x) (length x)

-- 01, The collected item: how a `repeat` runs, by the values of its bounds and the rounds left
pub data Way : Type 0 where
  never once : Way
  rounds : (low : ℤ) → (count : ℕ) → Way

-- 01, The collected item: the same by high − low: never where it is not above 0, once where it is above the rounds left, else so many
-- rounds, the variable from low on
abbrev pub way_by : ℕ → ℤ → ℤ → Way
way_by left low (negsuc d) = never
way_by left low (pos zero) = never
way_by left low (pos (suc count)) = elim (ltb left (suc count)) [ true ↦ once | false ↦ rounds low (suc count) ]

-- 01, The collected item: the same by the values of both bounds: once where one has none, or is outside INT
unfoldable pub way : ℕ → Value → Value → Way
way left (known low) (known high) = way_by left low (high -ℤ low)
way left (known low) missing = once
way left (known low) outside = once
way left missing high = once
way left outside high = once

-- 01, The collected item: what the code answers of a `repeat`: how it runs, or a bound is outside INT
abbrev pub Times : Type 0
Times = Result T.Times Outside

-- 01, The collected item: how it runs, by the way and the variable n; once where n is no word (each NAME is one)
abbrev pub times_way : ℕ → Way → T.Times
times_way n never = times.Never
times_way n once = times.Once
times_way n (rounds low count) = elim (ltb 4294967295 n) [ true ↦ times.Once | false ↦ times.Rounds n (biased low) count ]

-- 01, The collected item; Refused because of the state: the same by the values of both bounds: or one is outside INT
unfoldable pub times_by : (left n : ℕ) → (low high : Value) → Times
times_by left n low high = elim (is_outside low || is_outside high) [ true ↦ Err (record {}) | false ↦ Ok (times_way n (way left low high)) ]

-- 01, The value: the value of the expression between two places of any bytes, which stands inside one of the `depth` brackets
abbrev pub value_between : Bytes → (before end depth : ℕ) → Names → Value
value_between x before end depth names = value names (decode_expr (depth - 1) (piece x before end))

-- 01, The line; The value: the value of the low bound of any bytes, as of a `repeat`: of the second part behind the head word
abbrev pub low_value : Bytes → (depth : ℕ) → Names → Value
low_value x depth names = value_between x (first_end x) (second_end x) depth names

-- 01, The line; The value: the value of their high bound: of the third part
abbrev pub high_value : Bytes → (depth : ℕ) → Names → Value
high_value x depth names = value_between x (second_end x) (third_end x) depth names

-- 01, The collected item; Refused because of the state: what the code answers for any bytes, as for a `repeat`, whose variable is the first part
-- behind the head word
unfoldable pub times_of : Bytes → (depth : ℕ) → Names → (left : ℕ) → Times
times_of x depth names left = times_by left (number (piece x (head_end x) (first_end x))) (low_value x depth names) (high_value x depth names)

-- 01, The collected item: of rounds: v is the word that holds low, and v + count is a word
abbrev pub RoundsFit : Times → (low : Value) → Type 0
RoundsFit (Err e) low = Unit {0}
RoundsFit (Ok times.Never) low = Unit {0}
RoundsFit (Ok times.Once) low = Unit {0}
RoundsFit (Ok (times.Rounds n v count)) low = (low ≡ known (signed v)) × (v + count ≤ 4294967295)

-- 01, Refused because of the state: 20 where one of both bounds is outside INT, else 0
abbrev pub bounds_number : Bytes → (depth : ℕ) → Names → ℕ
bounds_number x depth names = refused_if (is_outside (low_value x depth names) || is_outside (high_value x depth names))

-- 01, Refused because of the state: 20 where a bound of a `repeat` is outside INT, else 0
abbrev pub times_number : Times → ℕ
times_number (Ok t) = 0
times_number (Err e) = 20

-- 01, The collected item: the answer is the way; of rounds m is the variable, the count is no more than the rounds left, and v + count is a word
abbrev pub WayIs : Times → (left n : ℕ) → (low high : Value) → Type 0
WayIs (Err e) left n low high = Unit {0}
WayIs (Ok times.Never) left n low high = way left low high ≡ never
WayIs (Ok times.Once) left n low high = way left low high ≡ once
WayIs (Ok (times.Rounds m v count)) left n low high = (way left low high ≡ rounds (signed v) count) × (m ≡ n) × (count ≤ left) × (v + count ≤ 4294967295)

-- 01, The collected item; Refused because of the state: what the answer means for a `repeat`: 20 where a bound is outside INT, else the way
abbrev pub TimesAre : Times → (left n : ℕ) → (low high : Value) → Type 0
TimesAre r left n low high = (times_number r ≡ refused_if (is_outside low || is_outside high)) × WayIs r left n low high

-- ---- 01, The collected item: `constif`

-- 01, The line: the run inside the `(then I...)` or `(else I...)` behind the byte at e: behind the word, which has four letters; an empty one where
-- there is no place for the word
abbrev pub run_behind : Bytes → ℕ → Run
run_behind x e =
    elim (leb (e + 5) (end_within x e)) [
      | true ↦ record { before = e + 5; end = end_within x e }
      | false ↦ record { before = end_within x e; end = end_within x e }
    ]

-- 01, The collected item; Refused because of the state: what the code answers of a `constif`: the run of the branch, or the condition is outside INT
abbrev pub Chosen : Type 0
Chosen = Result Run Outside

-- 01, The collected item; Refused because of the state: the branch by the value of the condition: or that is outside INT
abbrev pub chosen_by : Value → (first second : Run) → Chosen
chosen_by v first second = elim (is_outside v) [ true ↦ Err (record {}) | false ↦ Ok (elim (takes_then v) as (λ _. Run) [ true ↦ first | false ↦ second ]) ]

-- 01, The line; The value: the value of the condition of any bytes, as of a `constif`: of the first part behind the head word
abbrev pub condition_value : Bytes → (depth : ℕ) → Names → Value
condition_value x depth names = value_between x (head_end x) (first_end x) depth names

-- 01, The collected item; Refused because of the state: what the code answers for any bytes, as for a `constif`, whose branches are the second part
-- behind the head word and the third
unfoldable pub branch_of : Bytes → (depth : ℕ) → Names → Chosen
branch_of x depth names = chosen_by (condition_value x depth names) (run_behind x (first_end x)) (run_behind x (second_end x))

-- 01, Refused because of the state: 20 where the condition is outside INT, else 0
abbrev pub condition_number : Bytes → (depth : ℕ) → Names → ℕ
condition_number x depth names = refused_if (is_outside (condition_value x depth names))

-- 01, The collected item: the branch that a `constif` takes, by the value of its condition
abbrev pub taken : Value → Items → Items → Items
taken v is js = elim (takes_then v) [ true ↦ is | false ↦ js ]

-- 01, Refused because of the state: 20 where the condition of a `constif` is outside INT, else 0
abbrev pub chosen_number : Chosen → ℕ
chosen_number (Ok r) = 0
chosen_number (Err e) = 20

-- 01, The collected item: the run of the branch stands behind the byte at `before` and ends before `end`
abbrev pub BranchIs : Chosen → Bytes → ℕ → Items → Type 0
BranchIs (Err e) x d is = Unit {0}
BranchIs (Ok r) x d is = (r.before ≤ r.end) × (r.end ≤ length x) × RunOf (d - 2) (piece x r.before r.end) is

-- 01, The collected item; Refused because of the state: what the answer means for a `constif`: 20 where the condition is outside INT, else the run
-- of the branch that is taken
abbrev pub ChosenIs : Chosen → Bytes → ℕ → Value → Items → Items → Type 0
ChosenIs r x d v is js = (chosen_number r ≡ refused_if (is_outside v)) × BranchIs r x d (taken v is js)
