use Rattle.items.proofs.AddedLaws.{line_drive, line_on, line_port, line_reg, line_mem, line_none}
use mathlib.Core.Path.{refl, sym, ◌∙◌}
use Rattle.consteval.specs.Worth.{names_of}
use Rattle.items.proofs.LineLaws.{own_drive, own_on, own_port, own_reg, own_mem, own_other}
use Rattle.std.specs.Prelude.{is_ok}
use Rattle.items.proofs.own_line.Goals as goal

pub returns-then-c-eq100-clause-own_line : goal.returns-then-c-eq100-clause-own_line
returns-then-c-eq100-clause-own_line c = own_drive c.args.x.now c.args.base c.args.bound c.args.depth c.args.scope.kinds.now (names_of c.args.scope.names.now c.args.scope.used) c.args.own.now (sym c.byte-c.ensures ∙ c.if-c-eq100.true) (is_ok c.drive.result) _ c.drive.ensures.drive_line

pub returns-then-c-eq100-clause-own_len_unchanged : goal.returns-then-c-eq100-clause-own_len_unchanged
returns-then-c-eq100-clause-own_len_unchanged c = c.drive.ensures.own_len_unchanged

pub returns-then-c-eq100-clause-own_leaves : goal.returns-then-c-eq100-clause-own_leaves
returns-then-c-eq100-clause-own_leaves c = line_drive c.args.x.now c.args.base c.args.bound c.args.depth c.args.scope.kinds.now (names_of c.args.scope.names.now c.args.scope.used) c.args.own.now (sym c.byte-c.ensures ∙ c.if-c-eq100.true) (is_ok c.drive.result) _ c.drive.ensures.own_leaves

pub returns-then-c-eq111-clause-own_line : goal.returns-then-c-eq111-clause-own_line
returns-then-c-eq111-clause-own_line c = own_on c.args.x.now c.args.base c.args.bound c.args.depth c.args.scope.kinds.now (names_of c.args.scope.names.now c.args.scope.used) c.args.own.now (sym c.byte-c.ensures ∙ c.if-c-eq111.true) (is_ok c.on_block.result) _ c.on_block.ensures.on_line

pub returns-then-c-eq111-clause-own_len_unchanged : goal.returns-then-c-eq111-clause-own_len_unchanged
returns-then-c-eq111-clause-own_len_unchanged c = c.on_block.ensures.own_len_unchanged

pub returns-then-c-eq111-clause-own_leaves : goal.returns-then-c-eq111-clause-own_leaves
returns-then-c-eq111-clause-own_leaves c = line_on c.args.x.now c.args.base c.args.bound c.args.depth c.args.scope.kinds.now (names_of c.args.scope.names.now c.args.scope.used) c.args.own.now (λ e. c.if-c-eq100.false (c.byte-c.ensures ∙ e)) (sym c.byte-c.ensures ∙ c.if-c-eq111.true) (is_ok c.on_block.result) _ c.on_block.ensures.own_leaves

pub returns-then-c-eq112-clause-own_line : goal.returns-then-c-eq112-clause-own_line
returns-then-c-eq112-clause-own_line c = own_port c.args.x.now c.args.base c.args.bound c.args.depth c.args.scope.kinds.now (names_of c.args.scope.names.now c.args.scope.used) c.args.own.now (sym c.byte-c.ensures ∙ c.if-c-eq112.true) _ c.port_line.ensures.port_line

pub returns-then-c-eq112-clause-own_len_unchanged : goal.returns-then-c-eq112-clause-own_len_unchanged
returns-then-c-eq112-clause-own_len_unchanged c = c.port_line.ensures.own_len_unchanged

pub returns-then-c-eq112-clause-own_leaves : goal.returns-then-c-eq112-clause-own_leaves
returns-then-c-eq112-clause-own_leaves c = line_port c.args.x.now c.args.base c.args.bound c.args.depth c.args.scope.kinds.now (names_of c.args.scope.names.now c.args.scope.used) c.args.own.now (λ e. c.if-c-eq100.false (c.byte-c.ensures ∙ e)) (λ e. c.if-c-eq111.false (c.byte-c.ensures ∙ e)) (sym c.byte-c.ensures ∙ c.if-c-eq112.true) c.port_line.ensures.own_after

pub returns-then-c-eq114-clause-own_line : goal.returns-then-c-eq114-clause-own_line
returns-then-c-eq114-clause-own_line c = own_reg c.args.x.now c.args.base c.args.bound c.args.depth c.args.scope.kinds.now (names_of c.args.scope.names.now c.args.scope.used) c.args.own.now (sym c.byte-c.ensures ∙ c.if-c-eq114.true) _ c.reg_line.ensures.reg_line

pub returns-then-c-eq114-clause-own_len_unchanged : goal.returns-then-c-eq114-clause-own_len_unchanged
returns-then-c-eq114-clause-own_len_unchanged c = c.reg_line.ensures.own_len_unchanged

pub returns-then-c-eq114-clause-own_leaves : goal.returns-then-c-eq114-clause-own_leaves
returns-then-c-eq114-clause-own_leaves c = line_reg c.args.x.now c.args.base c.args.bound c.args.depth c.args.scope.kinds.now (names_of c.args.scope.names.now c.args.scope.used) c.args.own.now (λ e. c.if-c-eq100.false (c.byte-c.ensures ∙ e)) (λ e. c.if-c-eq111.false (c.byte-c.ensures ∙ e)) (λ e. c.if-c-eq112.false (c.byte-c.ensures ∙ e)) (sym c.byte-c.ensures ∙ c.if-c-eq114.true) c.reg_line.ensures.own_after

pub returns-then-c-eq109-clause-own_line : goal.returns-then-c-eq109-clause-own_line
returns-then-c-eq109-clause-own_line c = own_mem c.args.x.now c.args.base c.args.bound c.args.depth c.args.scope.kinds.now (names_of c.args.scope.names.now c.args.scope.used) c.args.own.now (sym c.byte-c.ensures ∙ c.if-c-eq109.true) _ c.mem_line.ensures.mem_line

pub returns-then-c-eq109-clause-own_len_unchanged : goal.returns-then-c-eq109-clause-own_len_unchanged
returns-then-c-eq109-clause-own_len_unchanged c = c.mem_line.ensures.own_len_unchanged

pub returns-then-c-eq109-clause-own_leaves : goal.returns-then-c-eq109-clause-own_leaves
returns-then-c-eq109-clause-own_leaves c = line_mem c.args.x.now c.args.base c.args.bound c.args.depth c.args.scope.kinds.now (names_of c.args.scope.names.now c.args.scope.used) c.args.own.now (λ e. c.if-c-eq100.false (c.byte-c.ensures ∙ e)) (λ e. c.if-c-eq111.false (c.byte-c.ensures ∙ e)) (λ e. c.if-c-eq112.false (c.byte-c.ensures ∙ e)) (λ e. c.if-c-eq114.false (c.byte-c.ensures ∙ e)) (sym c.byte-c.ensures ∙ c.if-c-eq109.true) c.mem_line.ensures.own_after

pub returns-clause-own_line : goal.returns-clause-own_line
returns-clause-own_line c = own_other c.args.x.now c.args.base c.args.bound c.args.depth c.args.scope.kinds.now (names_of c.args.scope.names.now c.args.scope.used) c.args.own.now (λ e. c.if-c-eq100.false (c.byte-c.ensures ∙ e)) (λ e. c.if-c-eq111.false (c.byte-c.ensures ∙ e)) (λ e. c.if-c-eq112.false (c.byte-c.ensures ∙ e)) (λ e. c.if-c-eq114.false (c.byte-c.ensures ∙ e)) (λ e. c.if-c-eq109.false (c.byte-c.ensures ∙ e))

pub returns-clause-own_len_unchanged : goal.returns-clause-own_len_unchanged
returns-clause-own_len_unchanged c = refl

pub returns-clause-own_leaves : goal.returns-clause-own_leaves
returns-clause-own_leaves c = line_none c.args.x.now c.args.base c.args.bound c.args.depth c.args.scope.kinds.now (names_of c.args.scope.names.now c.args.scope.used) c.args.own.now (λ e. c.if-c-eq100.false (c.byte-c.ensures ∙ e)) (λ e. c.if-c-eq111.false (c.byte-c.ensures ∙ e)) (λ e. c.if-c-eq112.false (c.byte-c.ensures ∙ e)) (λ e. c.if-c-eq114.false (c.byte-c.ensures ∙ e)) (λ e. c.if-c-eq109.false (c.byte-c.ensures ∙ e))
