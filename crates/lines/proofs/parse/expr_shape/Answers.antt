use Rattle.lines.proofs.parse.expr_shape.Goals as goal

pub returns-in-Name : goal.returns-in-Name
returns-in-Name c = rw c.in-Name.is c.fixed.ensures

pub returns-in-Field : goal.returns-in-Field
returns-in-Field c = rw c.in-Field.is c.fixed-in-Field.ensures

pub returns-in-Index : goal.returns-in-Index
returns-in-Index c = rw c.in-Index.is c.fixed-in-Index.ensures

pub returns-in-If : goal.returns-in-If
returns-in-If c = rw c.in-If.is c.fixed-in-If.ensures

pub returns-in-All : goal.returns-in-All
returns-in-All c = rw c.in-All.is c.behind.ensures

pub returns-in-Unary : goal.returns-in-Unary
returns-in-Unary c = rw c.in-Unary.is c.fixed-in-Unary.ensures

pub returns-in-Binary : goal.returns-in-Binary
returns-in-Binary c = rw c.in-Binary.is c.fixed-in-Binary.ensures

pub returns-in-Other : goal.returns-in-Other
returns-in-Other c = rw c.in-Other.is c.no_shape.ensures
