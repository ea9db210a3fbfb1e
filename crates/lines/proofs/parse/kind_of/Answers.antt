use Rattle.std.specs.Prelude.{None}
use Rattle.lines.proofs.Laws.{lookup_out}
use Rattle.lines.specs.Parse.{kind_of, named_kinds, lookup_key, key, code_after}
use Rattle.lines.proofs.parse.kind_of.Goals as goal

pub returns-in-431842 : goal.returns-in-431842
unfolding kind_of named_kinds lookup_key key code_after
returns-in-431842 c = rw c.in-431842.is

pub returns-in-116873027 : goal.returns-in-116873027
unfolding kind_of named_kinds lookup_key key code_after
returns-in-116873027 c = rw c.in-116873027.is

pub returns-in-32054388308 : goal.returns-in-32054388308
unfolding kind_of named_kinds lookup_key key code_after
returns-in-32054388308 c = rw c.in-32054388308.is

pub returns-in-119953011 : goal.returns-in-119953011
unfolding kind_of named_kinds lookup_key key code_after
returns-in-119953011 c = rw c.in-119953011.is

pub returns-in-114710227 : goal.returns-in-114710227
unfolding kind_of named_kinds lookup_key key code_after
returns-in-114710227 c = rw c.in-114710227.is

pub returns-in-28301539140 : goal.returns-in-28301539140
unfolding kind_of named_kinds lookup_key key code_after
returns-in-28301539140 c = rw c.in-28301539140.is

pub returns-in_default : goal.returns-in_default
unfolding kind_of named_kinds key code_after
returns-in_default c = (lookup_out (Unit {0}) named_kinds None _ c.in_default.in_default-own.rest).1
