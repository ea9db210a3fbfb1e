use mathlib.Core.Path.{sym, ap}
use Rattle.sites.specs.Own.{misuse_of}
use Rattle.spec.specs.Report.{misused}
use Rattle.drivers.proofs.groups.misuse_detail.Goals as goal

pub returns-in-Wire : goal.returns-in-Wire
returns-in-Wire c = sym (ap (λ x. misused (misuse_of x)) c.in-Wire.is)

pub returns-in-Reg : goal.returns-in-Reg
returns-in-Reg c = sym (ap (λ x. misused (misuse_of x)) c.in-Reg.is)

pub returns-in-Mem : goal.returns-in-Mem
returns-in-Mem c = sym (ap (λ x. misused (misuse_of x)) c.in-Mem.is)

pub returns-in-Arrow : goal.returns-in-Arrow
returns-in-Arrow c = sym (ap (λ x. misused (misuse_of x)) c.in-Arrow.is)
