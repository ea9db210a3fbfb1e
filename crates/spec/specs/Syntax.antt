-- A design as trees. 01: The line.
-- To a reader: definitions to believe.
use Rattle.std.specs.Prelude.{Bool, List, ℕ, ℤ}

-- 01, The line: NAME 0 to 255, one numbering for the design.
abbrev pub name_bound : ℕ
name_bound = 256

-- 01, The line: MOD 0 to 255.
abbrev pub module_bound : ℕ
module_bound = 256

-- 01, The line: START and literals, 0 to 2,147,483,647.
abbrev pub number_bound : ℕ
number_bound = 2147483648

-- 01, The line: K, what a name is.
pub data Kind : Type 0 where
  in_kind out_kind wire_kind reg_kind mem_kind inst_kind : Kind

-- 01, The line: E, its operators with one part.
pub data Unary : Type 0 where
  neg not clog2 : Unary

-- 01, The line: E, its operators with two parts.
pub data Binary : Type 0 where
  add sub mul eq ne lt le gt ge and or shl shr band bor bxor : Binary

-- 01, The line: E. `all` is every other expression.
mutual
  pub data Expr : Type 0 where
    lit : ℕ → Expr
    truth : Bool → Expr
    name : ℕ → Expr
    field : Expr → ℕ → Expr
    index : Expr → Expr → Expr
    if_else : Expr → Expr → Expr → Expr
    unary : Unary → Expr → Expr
    binary : Binary → Expr → Expr → Expr
    all : Exprs → Expr

  pub data Exprs : Type 0 where
    none : Exprs
    more : Expr → Exprs → Exprs

-- 01, The line: T, the type of a port.
pub data Width : Type 0 where
  bit opaque : Width
  bits signed : Expr → Width

-- 01, The line: LV, with no index, a bit, or high and low.
pub data Index : Type 0 where
  whole : Index
  at_bit : Expr → Index
  high_low : Expr → Expr → Index

-- 01, The line: LV.
pub record LValue : Type 0 where
  pub name : ℕ
  pub start : ℕ
  pub index : Index

-- 01, The line: S, a statement of a block.
mutual
  pub data Stmt : Type 0 where
    set : (name start : ℕ) → Stmt
    default : (name : ℕ) → Stmt
    loop : Stmts → Stmt
    when : Stmts → Stmts → Stmt

  pub data Stmts : Type 0 where
    none : Stmts
    more : Stmt → Stmts → Stmts

-- 01, The line: `port in` or `port out`.
pub data Dir : Type 0 where
  input output : Dir

-- 01, The line: X, the index of an instance or `-`.
pub data Place : Type 0 where
  single : Place
  at : Expr → Place

-- 01, The line: C, a connection of an instance.
pub record Conn : Type 0 where
  pub port : ℕ
  pub signal : Expr

-- 01, The line: an `inst` item.
pub record Inst : Type 0 where
  pub name : ℕ
  pub place : Place
  pub «module» : ℕ
  pub start : ℕ
  pub conns : List Conn

-- 01, The line: items.
mutual
  pub data Item : Type 0 where
    port : Dir → (name : ℕ) → Width → (start : ℕ) → Item
    wire : (name : ℕ) → Expr → (start : ℕ) → Item
    reg : (name start : ℕ) → Item
    mem : (name start : ℕ) → Item
    const : (name : ℕ) → Expr → Item
    drive : LValue → Expr → Item
    on : (start : ℕ) → Stmts → Item
    inst : Inst → Item
    repeat : (name : ℕ) → (low high : Expr) → Items → Item
    const_if : Expr → Items → Items → Item

  pub data Items : Type 0 where
    none : Items
    more : Item → Items → Items

-- 01, The line: a `kind` or `val` line, before the items and in any order.
pub data Header : Type 0 where
  kind : (name : ℕ) → Kind → Header
  val : (name : ℕ) → ℤ → Header

-- 01, The line: a module: bound or not, its `kind` and `val` lines, its items.
pub record Module : Type 0 where
  pub bound : Bool
  pub header : List Header
  pub items : Items

-- 01, The line: modules in order, M counting from 0.
abbrev pub Design : Type 0
Design = List Module

-- 01, The line: each line is one form.
pub data Line : Type 0 where
  module_line : (number : ℕ) → (bound : Bool) → Line
  header_line : Header → Line
  item_line : Item → Line
