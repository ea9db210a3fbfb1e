-- The situations that 01 names, of a module's collected lines: misuses, sites, conflicts, poison, outputs, gaps, blocks; and which report
-- stands for which. 01: The site; The block.
-- To a reader: definitions to believe.
use Rattle.std.specs.Prelude.{◌≡◌, ◌⊎◌, List, [], ◌∷◌, ◌++◌, ℕ, min, ◌≤◌, ◌<◌, pos}
use Rattle.spec.specs.Syntax.{Width, Module}
use Rattle.spec.specs.Value.{known, Names, own_vals, name_table}
use Rattle.spec.specs.Collect.{Collected, collection}
use Rattle.spec.specs.Site.{Extent, Whole, Dynamic, Unknown, Range, Site, sites, sites_of, Misused, misuses, output_lines, width_value, coverage_limit}
use Rattle.spec.specs.Block.{all_pairs, line_regs, line_mems, storage_lines}
use Rattle.spec.specs.Report.{Detail, misused, many, never, gap, no_block, blocks, mem_blocks}
use Rattle.spec.specs.Graph.{◌∈◌}

-- ---- a module's lines

-- 01, The collected item: the lines of a module, under its own values.
abbrev pub own_lines : Module → List Collected
own_lines k = (collection (own_vals k) k).lines

-- 01, The value: the module's own table.
abbrev pub own_names : Module → Names
own_names k = (name_table (own_vals k) k).names

-- x is the first in l of its name. 01: The site (first port line), The block (first collected line).
pub record First {A : Type 0} (name : A → ℕ) (l : List A) (x : A) : Type 0 where
  pub before : List A
  pub after : List A
  pub parted : l ≡ before ++ x ∷ after
  pub first : (y : A) → y ∈ before → ¬ (name y ≡ name x)

-- ---- misuses, sites, conflicts

-- 01, The site: each drive of a wire, reg or mem, and each `set` of a wire or out, in the order of collection.
abbrev pub misuses_of : Module → List Misused
misuses_of k = misuses k.header (own_lines k)

-- 01, The site: these three poison a name.
abbrev pub IsMisused : Module → ℕ → Type 0
IsMisused k n = (u : Misused) × (u ∈ misuses_of k) × (u.name ≡ n)

-- 01, The site: the sites of one name, in the order of collection.
abbrev pub sites_named : Module → ℕ → List Site
sites_named k n = sites_of n (sites k.bound k.header (own_lines k))

-- 01, The site: an extent has a bit.
abbrev pub Has : Extent → ℕ → Type 0
Has Whole b = Unit {0}
Has Dynamic b = ⊥
Has Unknown b = ⊥
Has (Range low high) b = (low ≤ b) × (b ≤ high)

-- 01, The site: Unknown meets nothing; else Whole or Dynamic meets all; ranges meet when they share a bit.
abbrev pub Meet : Extent → Extent → Type 0
Meet Unknown y = ⊥
Meet Whole Unknown = ⊥
Meet Whole Whole = Unit {0}
Meet Whole Dynamic = Unit {0}
Meet Whole (Range l h) = Unit {0}
Meet Dynamic Unknown = ⊥
Meet Dynamic Whole = Unit {0}
Meet Dynamic Dynamic = Unit {0}
Meet Dynamic (Range l h) = Unit {0}
Meet (Range l h) Unknown = ⊥
Meet (Range l h) Whole = Unit {0}
Meet (Range l h) Dynamic = Unit {0}
Meet (Range l h) (Range l' h') = (b : ℕ) × Has (Range l h) b × Has (Range l' h') b

-- 01, The site: s is the first later site that meets an earlier one.
pub record FirstMeeting (l : List Site) (s : Site) : Type 0 where
  pub before : List Site
  pub after : List Site
  pub parted : l ≡ before ++ s ∷ after
  pub earlier : Site
  pub stands : earlier ∈ before
  pub meets : Meet earlier.extent s.extent
  pub first : (front back : List Site) (t u : Site) → before ≡ front ++ u ∷ back → t ∈ front → ¬ Meet t.extent u.extent

-- 01, The site: a conflict poisons.
abbrev pub Conflicts : Module → ℕ → Type 0
Conflicts k n = (s : Site) × FirstMeeting (sites_named k n) s

-- 01, The site: a poisoned name gets no other report but loops.
abbrev pub Poisoned : Module → ℕ → Type 0
Poisoned k n = IsMisused k n ⊎ Conflicts k n

-- ---- outputs

-- 01, The site: each collected output, first port line.
abbrev pub IsOutput : Module → ℕ → ℕ → Width → Type 0
IsOutput k start n w = First (λ o. o.name) (output_lines (own_lines k)) (record { name = n; width = w; start = start })

-- 01, The site: Range.
abbrev pub IsRange : Extent → Type 0
IsRange Whole = ⊥
IsRange Dynamic = ⊥
IsRange Unknown = ⊥
IsRange (Range low high) = Unit {0}

-- 01, The site: all Range.
abbrev pub AllRanges : List Site → Type 0
AllRanges ss = (s : Site) → s ∈ ss → IsRange s.extent

-- 01, The site: first gap among the lowest `count` bits.
pub record FirstGap (ss : List Site) (count b : ℕ) : Type 0 where
  pub among : b < count
  pub uncovered : (s : Site) → s ∈ ss → ¬ Has s.extent b
  pub first : (c : ℕ) → c < b → (s : Site) × (s ∈ ss) × Has s.extent c

-- 01, The site: width evaluable and above 0: the lowest min(width, 4,096) bits. A width of 0 has no such bit.
abbrev pub GapAt : Module → ℕ → Width → ℕ → Type 0
GapAt k n w b = (width : ℕ) × (width_value (own_names k) w ≡ known (pos width)) × FirstGap (sites_named k n) (min width coverage_limit) b

-- ---- registers and memories

-- 01, The block: regs count by their first collected line.
abbrev pub IsReg : Module → ℕ → ℕ → Type 0
IsReg k start n = First (λ r. r.name) (storage_lines line_regs (own_lines k)) (record { name = n; start = start })

-- 01, The block: and mems too.
abbrev pub IsMem : Module → ℕ → ℕ → Type 0
IsMem k start n = First (λ r. r.name) (storage_lines line_mems (own_lines k)) (record { name = n; start = start })

-- 01, The block: a block is its START; `set` on reg or mem and `default` on reg count.
abbrev pub SetBy : Module → ℕ → ℕ → Type 0
SetBy k n block = (record { name = n; block = block }) ∈ all_pairs k.header (own_lines k)

-- 01, The block: several.
abbrev pub Several : Module → ℕ → Type 0
Several k n = (a b : ℕ) × SetBy k n a × SetBy k n b × ¬ (a ≡ b)

-- ---- the situations

-- 01, The site; The block: the situation of each report about a name n at START in module k.
abbrev pub Holds : Module → ℕ → ℕ → Detail → Type 0
Holds k start n (misused u) = First (λ x. x.name) (misuses_of k) (record { name = n; start = start; misuse = u })
Holds k start n many = ¬ IsMisused k n × ((s : Site) × FirstMeeting (sites_named k n) s × (s.start ≡ start))
Holds k start n never = (w : Width) × IsOutput k start n w × ¬ Poisoned k n × (sites_named k n ≡ [])
Holds k start n (gap b) = (w : Width) × IsOutput k start n w × ¬ Poisoned k n × ¬ (sites_named k n ≡ []) × AllRanges (sites_named k n) × GapAt k n w b
Holds k start n no_block = IsReg k start n × ¬ Poisoned k n × ((b : ℕ) → ¬ SetBy k n b)
Holds k start n blocks = IsReg k start n × ¬ Poisoned k n × Several k n
Holds k start n mem_blocks = IsMem k start n × ¬ Poisoned k n × Several k n
