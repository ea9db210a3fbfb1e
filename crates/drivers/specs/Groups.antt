-- What reporting a module's own tables leaves. 01: The block; Refused because of the state; The report.
-- To a reader: definitions that the contracts of this crate cite; each such contract is proved; check_drivers' own promise cites none of them.
use Rattle.std.specs.Prelude.{◌≡◌, Bool, true, false, List, ℕ, Option, Some, None, Result, Ok, Err}
use Rattle.spec.specs.Bytes.{Bytes}
use Rattle.spec.specs.Report.{Report}
use Rattle.drivers.specs.declared.emit.Place.{Place}
use Rattle.spec.specs.Block as spec
use Rattle.spec.specs.Check.{reg_report, mem_report}
use Rattle.report.specs.declared.Detail.{Detail}
use Rattle.report.specs.declared.Detail.TheVariants as details
use Rattle.sites.specs.declared.Blocks.{Blocks}
use Rattle.sites.specs.declared.Blocks.TheVariants as blocks
use Rattle.sites.specs.Own.{Own, Table, reg_table, mem_table}
use Rattle.consteval.specs.declared.Outside.{Outside}
use Rattle.drivers.specs.declared.groups.Storage.{Storage}
use Rattle.drivers.specs.declared.groups.Storage.TheVariants as storage
use Rattle.drivers.specs.Emits.{Within, Emits}

-- 01, Refused because of the state: a width that decides coverage is outside INT (`out`), which gives 20, and what was only counted leaves
-- the buffer as it was; else the reports rs are appended
abbrev pub Reported : Result Place Outside → Bool → Bytes → Place → Bool → List Report → Bytes → Type 0
Reported (Ok q) write old p out rs new = (out ≡ false) × Emits write old p rs new q
Reported (Err e) write old p out rs new = (out ≡ true) × (Within old p → write ≡ false → new ≡ old)

-- 01, The block: what is said of a register, of a memory
abbrev pub report_by : Storage → ℕ → spec.Storage → ℕ → List Report
report_by storage.Reg = reg_report
report_by storage.Mem = mem_report

-- 01, The block: the table of the registers, of the memories
abbrev pub table_by : Storage → Table
table_by storage.Reg = reg_table
table_by storage.Mem = mem_table

-- 01, The block: the registers, the memories
abbrev pub stored_by : Storage → Own → List spec.Storage
stored_by storage.Reg o = o.regs
stored_by storage.Mem o = o.mems

-- 01, The block: the detail said of a register or a memory with these blocks
abbrev pub said_by : Storage → Blocks → Option Detail
said_by storage.Reg blocks.None = Some details.NoBlock
said_by storage.Reg blocks.One = None
said_by storage.Reg blocks.Several = Some details.Blocks
said_by storage.Mem blocks.None = None
said_by storage.Mem blocks.One = None
said_by storage.Mem blocks.Several = Some details.MemBlocks
