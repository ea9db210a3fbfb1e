-- The kinds of names and the bytes of a table of kinds. 01: The line.
-- To a reader: definitions that contracts of this and other crates cite; each such contract is proved; check_drivers' own promise cites none of them.
use Rattle.std.specs.Prelude.{Option, Some, None, ℕ, zero, suc}
use Rattle.lines.specs.declared.kinds.Kind.{Kind}
use Rattle.lines.specs.declared.kinds.Kind.TheVariants.{In, Out, Wire, Reg, Mem, Inst}

-- 01, The line: the byte of a kind: in, out, wire, reg, mem and inst are 1 to 6; 0 is no kind
abbrev pub byte_of : Option Kind → ℕ
byte_of None = 0
byte_of (Some In) = 1
byte_of (Some Out) = 2
byte_of (Some Wire) = 3
byte_of (Some Reg) = 4
byte_of (Some Mem) = 5
byte_of (Some Inst) = 6

-- 01, The line: the kind that a byte stands for, whatever it is: none for 0, and an inst from 6 on
abbrev pub kind_by : ℕ → Option Kind
kind_by zero = None
kind_by (suc zero) = Some In
kind_by (suc (suc zero)) = Some Out
kind_by (suc (suc (suc zero))) = Some Wire
kind_by (suc (suc (suc (suc zero)))) = Some Reg
kind_by (suc (suc (suc (suc (suc zero))))) = Some Mem
kind_by (suc (suc (suc (suc (suc (suc b)))))) = Some Inst
