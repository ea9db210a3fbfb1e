use Rattle.lines.specs.Parse.{key, code_after}
use Rattle.lines.proofs.parse.shape_of.Goals as goal

pub returns-in-Name : goal.returns-in-Name
unfolding key code_after
returns-in-Name c = rw c.in-Name.is c.no_shape.ensures

pub returns-in-Start : goal.returns-in-Start
unfolding key code_after
returns-in-Start c = rw c.in-Start.is c.no_shape-in-Start.ensures

pub returns-in-Mod : goal.returns-in-Mod
unfolding key code_after
returns-in-Mod c = rw c.in-Mod.is c.no_shape-in-Mod.ensures

pub returns-in-Count : goal.returns-in-Count
unfolding key code_after
returns-in-Count c = rw c.in-Count.is c.no_shape-in-Count.ensures

pub returns-in-Int : goal.returns-in-Int
unfolding key code_after
returns-in-Int c = rw c.in-Int.is c.no_shape-in-Int.ensures

pub returns-in-Kind : goal.returns-in-Kind
unfolding key code_after
returns-in-Kind c = rw c.in-Kind.is c.no_shape-in-Kind.ensures

pub returns-in-Dir : goal.returns-in-Dir
unfolding key code_after
returns-in-Dir c = rw c.in-Dir.is c.no_shape-in-Dir.ensures

pub returns-in-Bound : goal.returns-in-Bound
unfolding key code_after
returns-in-Bound c = rw c.in-Bound.is c.no_shape-in-Bound.ensures

pub returns-in-E : goal.returns-in-E
unfolding key code_after
returns-in-E c = rw (c.in-E.is, ← c.op_of.ensures) c.expr_shape.ensures

pub returns-in-X : goal.returns-in-X
unfolding key code_after
returns-in-X c = rw (c.in-X.is, ← c.op_of-in-X.ensures) c.expr_shape-in-X.ensures

pub returns-in-T : goal.returns-in-T
unfolding key code_after
returns-in-T c = rw c.in-T.is c.width_shape.ensures

pub returns-in-Lv : goal.returns-in-Lv
unfolding key code_after
returns-in-Lv c = rw (c.in-Lv.is, ← c.fixed.ensures) c.lone.ensures

pub returns-in-C : goal.returns-in-C
unfolding key code_after
returns-in-C c = rw (c.in-C.is, ← c.fixed-in-C.ensures) c.lone-in-C.ensures

pub returns-in-S : goal.returns-in-S
unfolding key code_after
returns-in-S c = rw c.in-S.is c.stmt_shape.ensures

pub returns-in-I : goal.returns-in-I
unfolding key code_after
returns-in-I c = rw c.in-I.is c.item_shape.ensures

pub returns-in-ThenS : goal.returns-in-ThenS
unfolding key code_after
returns-in-ThenS c = rw (c.in-ThenS.is, ← c.behind.ensures) c.lone-in-ThenS.ensures

pub returns-in-ElseS : goal.returns-in-ElseS
unfolding key code_after
returns-in-ElseS c = rw (c.in-ElseS.is, ← c.behind-in-ElseS.ensures) c.lone-in-ElseS.ensures

pub returns-in-ThenI : goal.returns-in-ThenI
unfolding key code_after
returns-in-ThenI c = rw (c.in-ThenI.is, ← c.behind-in-ThenI.ensures) c.lone-in-ThenI.ensures

pub returns-in-ElseI : goal.returns-in-ElseI
unfolding key code_after
returns-in-ElseI c = rw (c.in-ElseI.is, ← c.behind-in-ElseI.ensures) c.lone-in-ElseI.ensures

pub returns-in-L : goal.returns-in-L
unfolding key code_after
returns-in-L c = rw c.in-L.is c.line_shape.ensures

pub returns-in-Nothing : goal.returns-in-Nothing
unfolding key code_after
returns-in-Nothing c = rw c.in-Nothing.is c.no_shape-in-Nothing.ensures
