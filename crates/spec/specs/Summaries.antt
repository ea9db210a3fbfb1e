-- Summaries without a table: plain reachability in a module's own graph. Of a module from which on none contains itself the check keeps no
-- others. And: which of its two questions `comb_summary` asks first changes nothing. 01: The edge.
-- To a reader: statements, proved in proofs/Summaries.antt, proofs/Triples.antt and proofs/OrderOfAsking.antt.
use Rattle.std.specs.Prelude.{◌≡◌, ◌↔◌, true, false, List, [], ◌∷◌, ◌++◌, map, ℕ, zero, suc, length}
use Rattle.std.proofs.Math.Option.{Option, some, none}
use Rattle.std.proofs.Math.ListN.{get_elem?}
use Rattle.spec.specs.Syntax.{in_kind, Inst, Header, Module, Design}
use Rattle.spec.specs.Refusal.{has_name}
use Rattle.spec.specs.Collect.{Collected}
use Rattle.spec.specs.Site.{kind_of}
use Rattle.spec.specs.Edge.{signal, Head, Summary, line_heads, inst_of}
use Rattle.spec.specs.Summary.{Kept, kept_summary, triples, Asked, no_summary, Headed, lines_heads, make_summary, onward, module_summary, comb_summary, module_heads}
use Rattle.spec.specs.Check.{check_modules, check_design}
use Rattle.spec.specs.Graph.{◌∈◌, Once}
use Rattle.spec.specs.DepthFirstFinds.{Reached}
use Rattle.spec.specs.Hierarchy.{Acyclic}
use Rattle.spec.specs.DesignHierarchy.{lines_of, header_of, out_names, hierarchy}

-- the summary that a line needs: that of its module where it is an instance line. 01: The edge.
unfoldable pub summary_for : (ℕ → Summary) → Option Inst → Summary
summary_for s none = []
summary_for s (some i) = s i.«module»

-- what collected lines head, where s gives the summary of each module. 01: The edge.
unfoldable pub heads_by : (ℕ → Summary) → List Header → List Collected → List Head
heads_by s hs [] = []
heads_by s hs (c ∷ cs) = (line_heads hs c.names (summary_for s (inst_of c.item)) c.item).heads ++ heads_by s hs cs

-- a module's own graph, under its default values, where s gives the summary of each module. 01: The edge.
unfoldable pub own_graph : (ℕ → Summary) → Design → ℕ → List Head
own_graph s d m = heads_by s (header_of d m) (lines_of d m)

-- 01, The edge: Summary: the in-kind names that a top-level output reaches. With no table and nothing in progress, through `depth`
-- levels of modules.
unfoldable pub summary_to : ℕ → Design → ℕ → Summary
summary_to zero d m = []
summary_to (suc depth) d m = elim (get_elem? d m) [ none ↦ [] | some k ↦ module_summary k (own_graph (summary_to depth d) d m) ]

-- a module's summary; where no module contains itself there are no more levels than modules. 01: The edge.
unfoldable pub plain_summary : Design → ℕ → Summary
plain_summary d m = summary_to (suc (length d)) d m

-- what a module's own lines head, where each module has its plain summary. 01: The edge.
unfoldable pub plain_heads : Design → ℕ → List Head
plain_heads d m = own_graph (plain_summary d) d m

-- each summary that is kept of a module from which on no module contains itself is its plain one. 01: The edge.
abbrev pub PlainTable : Design → Kept → Type 0
PlainTable d kept = (m : ℕ) (s : Summary) → (m, s) ∈ kept → Acyclic (hierarchy d) m → s ≡ plain_summary d m

-- asking for the summary of m gave the plain one, where from m on no module contains itself, and left such a table. 01: The edge.
abbrev pub AskedPlain : Design → ℕ → Asked → Type 0
AskedPlain d m a = (Acyclic (hierarchy d) m → a.summary ≡ plain_summary d m) × PlainTable d a.kept

-- collected lines of m headed what they head by plain summaries, where from m on no module contains itself, and left such a table. 01: The edge.
abbrev pub HeadedPlain : Design → ℕ → Headed → Type 0
HeadedPlain d m h = (Acyclic (hierarchy d) m → h.heads ≡ plain_heads d m) × PlainTable d h.kept

-- output o of module m reaches the in-kind name i: a top-level out port line names o, and steps of the module's own graph, none of
-- them from an in-kind name, lead from signal o to signal i. 01: The edge.
abbrev pub Reaches : Design → ℕ → ℕ → ℕ → Type 0
Reaches d m o i =
    (o ∈ out_names d m) × (kind_of (header_of d m) i ≡ some in_kind) × Reached (onward (header_of d m) (plain_heads d m)) (signal o ∷ []) (signal i)

-- the summaries of a design are plain reachability, whatever was summarised before, of each module from which on no module contains itself; what
-- else the design has, modules that contain themselves too, does not matter. 01: The edge.
pub record PlainSummaries (d : Design) : Type 0 where
  -- the plain summary of a module is made of its own graph, in which its instances' modules have theirs; a missing module has none
  pub own : (m : ℕ) (k : Module) → get_elem? d m ≡ some k → Acyclic (hierarchy d) m → plain_summary d m ≡ module_summary k (plain_heads d m)
  pub missing : (m : ℕ) → get_elem? d m ≡ none → plain_summary d m ≡ []
  -- it is plain reachability
  pub reachability : (m o i : ℕ) → Acyclic (hierarchy d) m → ((o, i) ∈ plain_summary d m) ↔ Reaches d m o i
  -- asking, from any table of plain summaries, and the empty one is such
  pub empty_table : PlainTable d []
  pub asked : (kept : Kept) → PlainTable d kept → (m : ℕ) → AskedPlain d m (comb_summary (suc (length d)) d [] kept m)
  -- a module's own check searches its own graph
  pub headed : (kept : Kept) → PlainTable d kept → (m : ℕ) (k : Module) → get_elem? d m ≡ some k → HeadedPlain d m (module_heads d kept k (lines_of d m))
  -- the summaries kept when the modules `before` have been checked, and after the whole check
  pub each_check : (before : List Module) → PlainTable d (check_modules d [] 0 before).kept
  pub whole_check : PlainTable d (check_design d).kept

-- Every kept summary of a module from which on no module contains itself is plain reachability in the module's own graph, whatever was summarised
-- before. 01: The edge.
abbrev pub Summaries : Type 0
Summaries = (d : Design) → PlainSummaries d

-- 01, Refused because of the state: summary triples: a module, an output, and an input that it reaches.
unfoldable pub kept_triples : Kept → List (ℕ × ℕ × ℕ)
kept_triples [] = []
kept_triples (e ∷ kept) = map (λ p. (e.0, p.0, p.1)) e.1 ++ kept_triples kept

-- 01, Refused because of the state: 1,024 summary triples in all. Decision: a triple counts once. So `triples` counts, whatever the
-- design: none stands twice among the summaries that a check keeps.
pub record TriplesCounted (d : Design) : Type 0 where
  pub once : Once (kept_triples (check_design d).kept)
  pub count : triples (check_design d).kept ≡ length (kept_triples (check_design d).kept)

-- 01, The edge: `comb_summary` with its two questions the other way round: kept first, then being summarised.
unfoldable pub kept_first : ℕ → Design → List ℕ → Kept → ℕ → Asked
kept_first zero d busy kept m = no_summary kept
kept_first (suc fuel) d busy kept m =
    elim (get_elem? d m) [
      | none ↦ no_summary kept
      | some k ↦ elim (kept_summary kept m) [
        | some s ↦ record { summary = s; kept = kept; full = false }
        | none ↦ elim (has_name m busy) [
          | true ↦ no_summary kept
          | false ↦ make_summary (kept_first fuel d (m ∷ busy)) kept m k
        ]
      ]
    ]

-- 01, The edge: which question is asked first changes no answer, whatever the design and whatever is kept, where nothing is being summarised
-- at the outset. A check asks for summaries only in `module_heads`.
pub record OrderOfAsking (d : Design) : Type 0 where
  -- what asking gives: the summary, the table and whether a limit was passed
  pub asked : (fuel : ℕ) (kept : Kept) (m : ℕ) → kept_first fuel d [] kept m ≡ comb_summary fuel d [] kept m
  -- what a module's own check takes from summaries
  pub headed : (kept : Kept) (k : Module) (cs : List Collected) → lines_heads (kept_first (suc (length d)) d []) k.header kept cs ≡ module_heads d kept k cs
  -- as functions: whatever asks the one way gives what it gives asking the other
  pub same : kept_first (suc (length d)) d [] ≡ comb_summary (suc (length d)) d []
