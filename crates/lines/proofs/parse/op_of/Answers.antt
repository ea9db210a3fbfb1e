use Rattle.lines.specs.declared.parse.Op.TheVariants as Op
use Rattle.lines.proofs.Laws.{lookup_out}
use Rattle.lines.specs.Parse.{op_of, ops, lookup_key, key, code_after}
use Rattle.lines.proofs.parse.op_of.Goals as goal

pub returns-in-1761 : goal.returns-in-1761
unfolding op_of ops lookup_key key code_after
returns-in-1761 c = rw c.in-1761.is

pub returns-in-1633 : goal.returns-in-1633
unfolding op_of ops lookup_key key code_after
returns-in-1633 c = rw c.in-1633.is

pub returns-in-432002 : goal.returns-in-432002
unfolding op_of ops lookup_key key code_after
returns-in-432002 c = rw c.in-432002.is

pub returns-in-431714 : goal.returns-in-431714
unfolding op_of ops lookup_key key code_after
returns-in-431714 c = rw c.in-431714.is

pub returns-in-102155971 : goal.returns-in-102155971
unfolding op_of ops lookup_key key code_after
returns-in-102155971 c = rw c.in-102155971.is

pub returns-in-115758707 : goal.returns-in-115758707
unfolding op_of ops lookup_key key code_after
returns-in-115758707 c = rw c.in-115758707.is

pub returns-in-115799875 : goal.returns-in-115799875
unfolding op_of ops lookup_key key code_after
returns-in-115799875 c = rw c.in-115799875.is

pub returns-in-6832336040741 : goal.returns-in-6832336040741
unfolding op_of ops lookup_key key code_after
returns-in-6832336040741 c = rw c.in-6832336040741.is

pub returns-in-102123075 : goal.returns-in-102123075
unfolding op_of ops lookup_key key code_after
returns-in-102123075 c = rw c.in-102123075.is

pub returns-in-121067043 : goal.returns-in-121067043
unfolding op_of ops lookup_key key code_after
returns-in-121067043 c = rw c.in-121067043.is

pub returns-in-114775747 : goal.returns-in-114775747
unfolding op_of ops lookup_key key code_after
returns-in-114775747 c = rw c.in-114775747.is

pub returns-in-415506 : goal.returns-in-415506
unfolding op_of ops lookup_key key code_after
returns-in-415506 c = rw c.in-415506.is

pub returns-in-452178 : goal.returns-in-452178
unfolding op_of ops lookup_key key code_after
returns-in-452178 c = rw c.in-452178.is

pub returns-in-444226 : goal.returns-in-444226
unfolding op_of ops lookup_key key code_after
returns-in-444226 c = rw c.in-444226.is

pub returns-in-443986 : goal.returns-in-443986
unfolding op_of ops lookup_key key code_after
returns-in-443986 c = rw c.in-443986.is

pub returns-in-423746 : goal.returns-in-423746
unfolding op_of ops lookup_key key code_after
returns-in-423746 c = rw c.in-423746.is

pub returns-in-423506 : goal.returns-in-423506
unfolding op_of ops lookup_key key code_after
returns-in-423506 c = rw c.in-423506.is

pub returns-in-102164035 : goal.returns-in-102164035
unfolding op_of ops lookup_key key code_after
returns-in-102164035 c = rw c.in-102164035.is

pub returns-in-456482 : goal.returns-in-456482
unfolding op_of ops lookup_key key code_after
returns-in-456482 c = rw c.in-456482.is

pub returns-in-121013955 : goal.returns-in-121013955
unfolding op_of ops lookup_key key code_after
returns-in-121013955 c = rw c.in-121013955.is

pub returns-in-121014051 : goal.returns-in-121014051
unfolding op_of ops lookup_key key code_after
returns-in-121014051 c = rw c.in-121014051.is

pub returns-in-26408838724 : goal.returns-in-26408838724
unfolding op_of ops lookup_key key code_after
returns-in-26408838724 c = rw c.in-26408838724.is

pub returns-in-103216931 : goal.returns-in-103216931
unfolding op_of ops lookup_key key code_after
returns-in-103216931 c = rw c.in-103216931.is

pub returns-in-26432960292 : goal.returns-in-26432960292
unfolding op_of ops lookup_key key code_after
returns-in-26432960292 c = rw c.in-26432960292.is

pub returns-in_default : goal.returns-in_default
unfolding op_of ops key code_after
returns-in_default c = (lookup_out (Unit {0}) ops Op.Other _ c.in_default.in_default-own.rest).1
