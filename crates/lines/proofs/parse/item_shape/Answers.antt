use mathlib.Core.Path.{◌∙◌}
use Rattle.lines.proofs.Laws.{lookup_out}
use Rattle.lines.specs.Parse.{item_shape, items, no_shape, lookup_key, key, code_after}
use Rattle.lines.proofs.parse.item_shape.Goals as goal

pub returns-in-30181631812 : goal.returns-in-30181631812
unfolding item_shape items lookup_key key code_after
returns-in-30181631812 c = rw c.in-30181631812.is c.fixed.ensures

pub returns-in-32054388308 : goal.returns-in-32054388308
unfolding item_shape items lookup_key key code_after
returns-in-32054388308 c = rw c.in-32054388308.is c.fixed-in-32054388308.ensures

pub returns-in-119953011 : goal.returns-in-119953011
unfolding item_shape items lookup_key key code_after
returns-in-119953011 c = rw c.in-119953011.is c.fixed-in-119953011.ensures

pub returns-in-114710227 : goal.returns-in-114710227
unfolding item_shape items lookup_key key code_after
returns-in-114710227 c = rw c.in-114710227.is c.fixed-in-114710227.ensures

pub returns-in-6833140348741 : goal.returns-in-6833140348741
unfolding item_shape items lookup_key key code_after
returns-in-6833140348741 c = rw c.in-6833140348741.is c.fixed-in-6833140348741.ensures

pub returns-in-6902659901013 : goal.returns-in-6902659901013
unfolding item_shape items lookup_key key code_after
returns-in-6902659901013 c = rw c.in-6902659901013.is c.fixed-in-6902659901013.ensures

pub returns-in-456418 : goal.returns-in-456418
unfolding item_shape items lookup_key key code_after
returns-in-456418 c = rw c.in-456418.is c.behind.ensures

pub returns-in-28301539140 : goal.returns-in-28301539140
unfolding item_shape items lookup_key key code_after
returns-in-28301539140 c = rw c.in-28301539140.is c.behind-in-28301539140.ensures

pub returns-in-2012480047290182 : goal.returns-in-2012480047290182
unfolding item_shape items lookup_key key code_after
returns-in-2012480047290182 c = rw c.in-2012480047290182.is c.behind-in-2012480047290182.ensures

pub returns-in-447816685895194215 : goal.returns-in-447816685895194215
unfolding item_shape items lookup_key key code_after
returns-in-447816685895194215 c = rw c.in-447816685895194215.is c.fixed-in-447816685895194215.ensures

pub returns-in_default : goal.returns-in_default
unfolding item_shape items key code_after
returns-in_default c = c.no_shape.ensures ∙ (lookup_out (Unit {0}) items no_shape _ c.in_default.in_default-own.rest).1
