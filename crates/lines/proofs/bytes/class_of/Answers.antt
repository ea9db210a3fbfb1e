use native.Mathlib.Omega.{arith}
use Rattle.lines.proofs.Laws.{class_feed, class_space, class_open, class_close, class_minus, class_low, class_mark, class_digit, class_58, class_capital, class_91, class_letter, class_123, class_127}
use Rattle.lines.proofs.bytes.class_of.Goals as goal

pub returns-in-10 : goal.returns-in-10
returns-in-10 c = class_feed _ c.in-10.is

pub returns-in-32 : goal.returns-in-32
returns-in-32 c = class_space _ c.in-32.is

pub returns-in-40 : goal.returns-in-40
returns-in-40 c = class_open _ c.in-40.is

pub returns-in-41 : goal.returns-in-41
returns-in-41 c = class_close _ c.in-41.is

pub returns-in-45 : goal.returns-in-45
returns-in-45 c = class_minus _ c.in-45.is

pub returns-in-0-to-31 : goal.returns-in-0-to-31
returns-in-0-to-31 c = class_low _ (omega arith) c.in-0-to-31.in_default-own.rest.0.0.0.0.1

pub returns-in-48-to-57 : goal.returns-in-48-to-57
returns-in-48-to-57 c = class_digit _ (omega arith) (omega arith)

pub returns-in-65-to-90 : goal.returns-in-65-to-90
returns-in-65-to-90 c = class_capital _ (omega arith) (omega arith)

pub returns-in-97-to-122 : goal.returns-in-97-to-122
returns-in-97-to-122 c = class_letter _ (omega arith) (omega arith)

pub returns-in-127-to-255 : goal.returns-in-127-to-255
returns-in-127-to-255 c = class_127 _ (omega arith)

pub returns-in_default : goal.returns-in_default
returns-in_default c = class_mark _ (omega arith) (omega arith) c.in_default.in_default-own.rest.0.0.0.0.1 c.in_default.in_default-own.rest.0.0.0.1 c.in_default.in_default-own.rest.0.0.1 c.in_default.in_default-own.rest.0.1 c.in_default.in_default-own.rest.1

pub returns-in_default-2 : goal.returns-in_default-2
returns-in_default-2 c = class_58 _ (omega arith) (omega arith)

pub returns-in_default-3 : goal.returns-in_default-3
returns-in_default-3 c = class_91 _ (omega arith) (omega arith)

pub returns-in_default-4 : goal.returns-in_default-4
returns-in_default-4 c = class_123 _ (omega arith) (omega arith)
