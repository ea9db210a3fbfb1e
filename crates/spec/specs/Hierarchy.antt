-- Modules within modules, with no text in them: keys, what each heads and reads, its instances, what it leads to, and the premises of
-- demand 3 from one key on. 01: The edge, the opened design, Rest.
-- A key says which module is opened and under what; of a design it is the module's number alone. `ContainsItself` asks about every key of a
-- module, so a hierarchy is to have no key with instances but those that can be opened.
-- To a reader: definitions to believe. specs/DesignHierarchy.antt has the hierarchy of a design; what `Acyclic` and `FixedUnheaded` say of
-- its lines is stated in specs/Premises.antt (`AcyclicExactly`, `HeadedByWires`).
use Rattle.std.specs.Prelude.{◌≡◌, List, [], ◌∷◌, true, false, ℕ, ◌<◌, eqb, ℤ}
use Rattle.std.proofs.Math.Option.{Option, some, none}
use Rattle.spec.specs.Syntax.{Kind, in_kind, reg_kind}
use Rattle.spec.specs.Edge.{Node, signal, inst_out, Head}
use Rattle.spec.specs.Graph.{◌∈◌, Chain, last}

-- ---- the structure

-- 01, the opened design: a connection: the input that it goes to, and what it reads.
pub record Connection : Type 0 where
  pub port : ℕ
  pub nodes : List Node

-- 01, the opened design: an instance: its position among the lines, its name and index, the key that it opens, its connections.
pub record Instance (Key : Type 0) : Type 0 where
  pub position : ℕ
  pub name : ℕ
  pub index : Option ℤ
  pub target : Key
  pub connections : List Connection

-- 01, the opened design: keys. `module_at`: the module that a key is of. `modules`: every module that an instance opens is numbered below
-- it. `kind`: of each name. `own`: what lines head and read, instances apart. `inside`: the instances. `inputs`: the in-kind names. `outs`:
-- the top-level out ports.
pub record Hierarchy : Type 1 where
  pub Key : Type 0
  pub module_at : Key → ℕ
  pub modules : ℕ
  pub kind : Key → ℕ → Option Kind
  pub own : Key → List Head
  pub inside : Key → List (Instance Key)
  pub inputs : Key → List ℕ
  pub outs : Key → List ℕ

module _ {Key : Type 0} where
  -- 01, the opened design: the instance at a position.
  unfoldable pub instance_at : ℕ → List (Instance Key) → Option (Instance Key)
  instance_at k [] = none
  instance_at k (i ∷ is) = elim (eqb i.position k) [ true ↦ some i | false ↦ instance_at k is ]

  -- 01, the opened design: the keys that instances open.
  unfoldable pub instance_targets : List (Instance Key) → List Key
  instance_targets [] = []
  instance_targets (i ∷ is) = i.target ∷ instance_targets is

-- 01, the opened design: what the fields of a hierarchy are to each other: each instance stands at its own position; the modules of
-- instances are numbered; the in-kind names are listed.
pub record WellFormed (H : Hierarchy) : Type 0 where
  pub placed : (m : H.Key) (i : Instance H.Key) → i ∈ H.inside m → instance_at i.position (H.inside m) ≡ some i
  pub below : (m : H.Key) (i : Instance H.Key) → i ∈ H.inside m → H.module_at i.target < H.modules
  pub listed : (m : H.Key) (n : ℕ) → H.kind m n ≡ some in_kind → n ∈ H.inputs m

-- 01, The edge, the opened design: what is read at a key: by a line that heads something, or by a connection to an in-kind name.
pub data ReadAt (H : Hierarchy) (m : H.Key) (n : Node) : Type 0 where
  by_line : (h : Head) → h ∈ H.own m → n ∈ h.reads → ReadAt H m n
  by_connection : (i : Instance H.Key) (c : Connection) → i ∈ H.inside m → c ∈ i.connections → H.kind i.target c.port ≡ some in_kind → n ∈ c.nodes → ReadAt H m n

module _ (H : Hierarchy) where
  -- ---- what a key leads to

  -- 01, the opened design: the keys that instances lead to, one step.
  abbrev pub targets : H.Key → List H.Key
  targets m = instance_targets (H.inside m)

  -- 01, the opened design: the keys that instances lead to, no step or more.
  abbrev pub Leads : H.Key → H.Key → Type 0
  Leads m t = (l : List H.Key) × Chain targets m l × (last m l ≡ t)

  -- 01, the opened design: what holds of every key that m leads to, m among them.
  abbrev pub From : (H.Key → Type 0) → H.Key → Type 0
  From P m = (t : H.Key) → Leads m t → P t

  -- 01, the opened design: instance lines lead from module to module: each next key is opened by some key of the module before.
  abbrev pub ModuleChain : H.Key → List H.Key → Type 0
  ModuleChain m [] = Unit {0}
  ModuleChain m (t ∷ l) = ((k : H.Key) × (H.module_at k ≡ H.module_at m) × (t ∈ targets k)) × ModuleChain t l

  -- 01, the opened design: a module contains itself where instance lines lead back to it, under whatever keys.
  abbrev pub ContainsItself : H.Key → Type 0
  ContainsItself m = (t : H.Key) × (l : List H.Key) × ModuleChain m (t ∷ l) × (H.module_at (last t l) ≡ H.module_at m)

  -- ---- the premises

  -- Demand 3, first premise: no module contains itself, from m on.
  abbrev pub Acyclic : H.Key → Type 0
  Acyclic m = (l : List H.Key) → ModuleChain m l → ¬ ContainsItself (last m l)

  -- 01, The edge: no line heads a name of this kind.
  abbrev pub Unheaded : Kind → H.Key → Type 0
  Unheaded k m = (h : Head) → h ∈ H.own m → (n : ℕ) → h.node ≡ signal n → ¬ (H.kind m n ≡ some k)

  -- Demand 3, second premise: no line heads an input or register. In a design only a wire line could: a drive of one heads nothing.
  abbrev pub FixedUnheaded : H.Key → Type 0
  FixedUnheaded m = Unheaded in_kind m × Unheaded reg_kind m

  -- Demand 3, third premise: no out port has an input's name.
  abbrev pub NoInputPort : H.Key → Type 0
  NoInputPort m = (o : ℕ) → o ∈ H.outs m → ¬ (H.kind m o ≡ some in_kind)

  -- Demand 3, fourth premise: instance outputs read are top-level out ports of every module so instanced.
  abbrev pub OutputsArePorts : H.Key → Type 0
  OutputsArePorts m = (i : Instance H.Key) (o : ℕ) → i ∈ H.inside m → ReadAt H m (inst_out i.name i.index o) → o ∈ H.outs i.target

-- The four premises of demand 3, of a key and of all that it leads to.
pub record PremisesFrom (H : Hierarchy) (m : H.Key) : Type 0 where
  pub acyclic : Acyclic H m
  pub fixed_unheaded : From H (FixedUnheaded H) m
  pub no_input_port : From H (NoInputPort H) m
  pub outputs_are_ports : From H (OutputsArePorts H) m
