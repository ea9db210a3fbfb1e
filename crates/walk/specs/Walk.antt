-- The fused walk: collection, sites, blocks, heads and summaries in one go, as the code does it, with the tables threaded. It stops at
-- once where a limit is passed or a constant is outside INT. 01: The collected item; The site; The block; The edge; The report; Refused
-- because of the state.
-- To a reader: definitions, pinned by Fold.Fused (proved in proofs/Fused).
use Rattle.std.specs.Prelude.{Bool, true, false, ◌&&◌, ◌||◌, List, [], ◌∷◌, ◌++◌, ℕ, zero, suc, ◌+◌, ◌-◌, length, eqb, ltb, ℤ, pos, negsuc, ◌+ℤ◌, ◌-ℤ◌}
use Rattle.std.proofs.Math.Option.{Option, some, none}
use Rattle.std.proofs.Math.ListN.{get_elem?}
use Rattle.spec.specs.Syntax.{Inst, Item, Items, port, wire, reg, mem, const, drive, on, inst, repeat, const_if, Header, Module, Design}
use Rattle.spec.specs.Refusal.{has_name}
use Rattle.spec.specs.Value.{Value, known, missing, outside, Names, value, is_zero, own_vals, name_table}
use Rattle.spec.specs.Collect.{round_limit}
use Rattle.spec.specs.DepthFirst.{among}
use Rattle.spec.specs.Site.{Site, line_sites, line_constants, any_outside, Misused, line_misuses, misused_names, conflicts, conflict_names, Output, line_outputs}
use Rattle.spec.specs.Block.{Pair, line_pairs, Storage, line_regs, line_mems}
use Rattle.spec.specs.Edge.{Head, Heads, Summary, line_heads, inst_of, over_graph}
use Rattle.spec.specs.Summary.{Kept, kept_summary, triples, triple_limit, module_summary}
use Rattle.spec.specs.Report.{Report}
use Rattle.spec.specs.FindCycles.{find_cycles}
use Rattle.spec.specs.Check.{site_limit, pair_limit, misuse_reports, conflict_reports, output_reports, widths_out, reg_report, mem_report, storage_reports, loop_reports}

-- ---- 01, Refused because of the state: stopping

-- 01, Refused because of the state: what a step gives: a limit was passed or a constant was outside INT, or what it leaves
pub data Got (A : Type 0) : Type 0 where
  full : Got A
  going : A → Got A

-- 01, Refused because of the state: what follows a step, if that did not stop
abbrev pub then_go : {A B : Type 0} → Got A → (A → Got B) → Got B
then_go full f = full
then_go (going a) f = f a

-- 01, Refused because of the state: a test that stops, and what is left otherwise
abbrev pub unless : {A : Type 0} → Bool → A → Got A
unless true a = full
unless false a = going a

-- ---- 01, The collected item: the walk, whatever is done at a line

-- 01, The collected item: what a walk leaves, and the rounds left for what follows
pub record Walked (S : Type 0) : Type 0 where
  pub state : S
  pub left : ℕ

-- 01, The collected item: the same, by its parts
abbrev pub walked : {S : Type 0} → ℕ → S → Walked S
walked left st = record { state = st; left = left }

-- 01, The collected item: how a run of items is walked under some names, with the rounds left, from some state on
abbrev pub Walks : Type 0 → Type 0
Walks S = Names → ℕ → S → Got (Walked S)

-- 01, The collected item: `count` rounds of a body, for the variable n from v on
unfoldable pub walk_rounds : {S : Type 0} → Walks S → ℕ → ℤ → ℕ → Walks S
walk_rounds body n v zero names left st = going (walked left st)
walk_rounds body n v (suc count) names left st =
    then_go (body ((n, v) ∷ names) left st) (λ r. walk_rounds body n (v +ℤ pos 1) count names r.left r.state)

-- 01, The collected item: a `repeat` of which high - low is known: no round, the body once, or the rounds, which are spent before the
-- body runs
unfoldable pub walk_times : {S : Type 0} → Walks S → ℕ → ℤ → ℤ → Walks S
walk_times body n low (negsuc d) names left st = going (walked left st)
walk_times body n low (pos rounds) names left st =
    elim (ltb left rounds) [ true ↦ body names left st | false ↦ walk_rounds body n low rounds names (left - rounds) st ]

-- 01, The collected item: a `repeat` by the values of its bounds: without one, the body once
unfoldable pub walk_repeat : {S : Type 0} → Walks S → ℕ → Value → Value → Walks S
walk_repeat body n (known low) (known high) names left st = walk_times body n low (high -ℤ low) names left st
walk_repeat body n (known low) missing names left st = body names left st
walk_repeat body n (known low) outside names left st = body names left st
walk_repeat body n missing high names left st = body names left st
walk_repeat body n outside high names left st = body names left st

-- 01, The collected item: whether `constif` takes `then`, by the value of its condition
abbrev pub takes_then : Value → Bool
takes_then (known x) = elim (is_zero x) [ true ↦ false | false ↦ true ]
takes_then missing = false
takes_then outside = false

unfoldable mutual
  -- 01, The collected item: the walk over what an item holds: the body of a `repeat` by its bounds, one branch of a `constif`, and else
  -- nothing
  pub walk_inner : {S : Type 0} → Item → (Names → Item → S → Got S) → Walks S
  walk_inner (port d n w s) step names left st = going (walked left st)
  walk_inner (wire n e s) step names left st = going (walked left st)
  walk_inner (reg n s) step names left st = going (walked left st)
  walk_inner (mem n s) step names left st = going (walked left st)
  walk_inner (const n e) step names left st = going (walked left st)
  walk_inner (drive lv e) step names left st = going (walked left st)
  walk_inner (on s ss) step names left st = going (walked left st)
  walk_inner (inst i) step names left st = going (walked left st)
  walk_inner (repeat n low high is) step names left st =
      walk_repeat (λ names' left' st'. walk_items is step names' left' st') n (value names low) (value names high) names left st
  walk_inner (const_if c is js) step names left st =
      elim (takes_then (value names c)) [ true ↦ walk_items is step names left st | false ↦ walk_items js step names left st ]

  -- 01, The collected item: each item: what is done at its line (`step`), then what it holds, then the items behind it
  pub walk_items : {S : Type 0} → Items → (Names → Item → S → Got S) → Walks S
  walk_items Items.none step names left st = going (walked left st)
  walk_items (Items.more i is) step names left st =
      then_go (step names i st)
      (λ st'. then_go (walk_inner i step names left st') (λ r. walk_items is step names r.left r.state))

-- ---- 01, The site; The block: the tables

-- 01, The site; The block: an entry at the end, where none is the same as it
unfoldable pub add_new : {A : Type 0} → (A → A → Bool) → A → List A → List A
add_new same a l = elim (among same a l) [ true ↦ l | false ↦ l ++ (a ∷ []) ]

-- 01, The site; The block: entries one behind the other, each where none is the same
unfoldable pub add_all : {A : Type 0} → (A → A → Bool) → List A → List A → List A
add_all same [] l = l
add_all same (a ∷ more) l = add_all same more (add_new same a l)

-- 01, The site: outputs are the same by name
abbrev pub same_output : Output → Output → Bool
same_output a b = eqb a.name b.name

-- 01, The block: regs, or mems, are the same by name
abbrev pub same_storage : Storage → Storage → Bool
same_storage a b = eqb a.name b.name

-- 01, The site: misuses are the same by name
abbrev pub same_misused : Misused → Misused → Bool
same_misused a b = eqb a.name b.name

-- 01, The block: pairs are the same by name and block
abbrev pub same_pair : Pair → Pair → Bool
same_pair p q = eqb p.name q.name && eqb p.block q.block

-- 01, The site; The block: the tables of a module's own check: sites, pairs, outputs, regs, mems and misuses
pub record Own : Type 0 where
  pub sites : List Site
  pub pairs : List Pair
  pub outputs : List Output
  pub regs : List Storage
  pub mems : List Storage
  pub misuses : List Misused

-- 01, The site; The block; The edge: a walk's state: the own tables, the graph as the heads in order, and the summaries kept
pub record State : Type 0 where
  pub own : Own
  pub heads : List Head
  pub kept : Kept

-- 01, The site; The block: no entry yet
abbrev pub no_own : Own
no_own = record { sites = []; pairs = []; outputs = []; regs = []; mems = []; misuses = [] }

-- 01, The site; The block; The edge: the state before the first item of a module: no entry yet, nothing is headed, and the summaries
-- kept before stand
abbrev pub begin : Kept → State
begin kept = record { own = no_own; heads = []; kept = kept }

-- ---- 01, The collected item: one line

-- 01, The edge: which walk it is: a module's own check, which alone has own tables, or a summary's; and what it needs of the module
pub record Walking : Type 0 where
  pub own : Bool
  pub bound : Bool
  pub header : List Header

-- 01, The edge: a walk of module k
abbrev pub walking : Bool → Module → Walking
walking own k = record { own = own; bound = k.bound; header = k.header }

-- 01, The site; The block: what a collected line adds to the own tables
unfoldable pub own_line : Bool → List Header → Names → Item → Own → Own
own_line bound hs names item o =
    record {
      sites = o.sites ++ line_sites bound hs names item;
      pairs = add_all same_pair (line_pairs hs item) o.pairs;
      outputs = add_all same_output (line_outputs item) o.outputs;
      regs = add_all same_storage (line_regs item) o.regs;
      mems = add_all same_storage (line_mems item) o.mems;
      misuses = add_all same_misused (line_misuses hs item) o.misuses;
    }

-- 01, Refused because of the state: in one module 1,024 sites, 512 pairs of name and block.
unfoldable pub over_own : Own → Bool
over_own o = ltb site_limit (length o.sites) || ltb pair_limit (length o.pairs)

-- 01, Refused because of the state: the own tables after a line, or a limit is passed; in a summary's walk (false) they stay
unfoldable pub own_step : Bool → Bool → List Header → Names → Item → Own → Got Own
own_step true bound hs names item o = let o' = own_line bound hs names item o in unless (over_own o') o'
own_step false bound hs names item o = going o

-- 01, The edge: what asking for a summary gives, and the summaries kept then
pub record Answered : Type 0 where
  pub summary : Summary
  pub kept : Kept

-- 01, The edge: the same, by its parts
abbrev pub answered : Summary → Kept → Answered
answered s kept = record { summary = s; kept = kept }

-- 01, The edge: how to ask for the summary of a module
abbrev pub Asking : Type 0
Asking = Kept → ℕ → Got Answered

-- 01, The edge: only an instance line asks
unfoldable pub ask_step : Asking → Kept → Option Inst → Got Answered
ask_step ask kept none = going (answered [] kept)
ask_step ask kept (some i) = ask kept i.«module»

-- 01, The edge; Refused because of the state: the graph after a line's heads and reads, or a limit is passed or an index is outside INT
unfoldable pub head_step : Heads → State → Got State
head_step h st =
    let heads = st.heads ++ h.heads in
    unless (h.out || over_graph heads) (record { own = st.own; heads = heads; kept = st.kept })

-- 01, The site; The block; The edge: what is done at a collected line: its constants, its own entries, the summary that it
-- asks for, and what it heads and reads
unfoldable pub line_step : Asking → Walking → Names → Item → State → Got State
line_step ask w names item st =
    elim (any_outside names (line_constants w.header item)) [
      | true ↦ full
      | false ↦ then_go (own_step w.own w.bound w.header names item st.own)
          (λ o. then_go (ask_step ask st.kept (inst_of item))
          (λ a. head_step (line_heads w.header names a.summary item) (record { own = o; heads = st.heads; kept = a.kept })))
    ]

-- ---- 01, The collected item; The edge; The report: a module, a summary, the whole check

-- 01, The collected item: a module from its first item to its last, over the values of its `val` and `const` lines
unfoldable pub walk_module : Asking → Walking → Module → Kept → Got (Walked State)
walk_module ask w k kept =
    let table = name_table (own_vals k) k in
    elim table.out [ true ↦ full | false ↦ walk_items k.items (line_step ask w) table.names round_limit (begin kept) ]

-- 01, The edge: a summary that is made now, and kept
unfoldable pub make_walk : Asking → Kept → ℕ → Module → Got Answered
make_walk ask kept m k =
    then_go (walk_module ask (walking false k) k kept) (λ r.
    let s = module_summary k r.state.heads in
    let kept' : Kept = (m, s) ∷ r.state.kept in
    unless (ltb triple_limit (triples kept')) (answered s kept'))

-- 01, The edge: the summary of module m, where `busy` are being summarised and `fuel` is above the number of the others
unfoldable pub ask_walk : ℕ → Design → List ℕ → Asking
ask_walk zero d busy kept m = going (answered [] kept)
ask_walk (suc fuel) d busy kept m =
    elim (get_elem? d m) [
      | none ↦ going (answered [] kept)
      | some k ↦ elim (has_name m busy) [
        | true ↦ going (answered [] kept)
        | false ↦ elim (kept_summary kept m) [
          | some s ↦ going (answered s kept)
          | none ↦ make_walk (ask_walk fuel d (m ∷ busy)) kept m k
        ]
      ]
    ]

-- 01, The collected item: the walk of a module's own check
unfoldable pub own_walk : Design → Module → Kept → Got (Walked State)
own_walk d k kept = walk_module (ask_walk (suc (length d)) d []) (walking true k) k kept

-- 01, The report; Refused because of the state: what the check of a module, or of several, gives: reports, rounds, and the summaries
-- kept then
pub record Tally : Type 0 where
  pub reports : List Report
  pub rounds : ℕ
  pub kept : Kept

-- 01, The site: the poisoned names: of conflicts and of misuses
unfoldable pub poison : Own → List ℕ
poison o = let ms = misused_names o.misuses in conflict_names (conflicts ms o.sites o.sites) ++ ms

-- 01, The report: the reports of module m from the tables of its own check; `names` is the module's own table
unfoldable pub own_reports : ℕ → Names → Own → List Head → List Report
own_reports m names o heads =
    misuse_reports m o.misuses ++ conflict_reports m (conflicts (misused_names o.misuses) o.sites o.sites)
    ++ output_reports m names (poison o) o.sites o.outputs
    ++ storage_reports (reg_report m) (poison o) o.pairs o.regs ++ storage_reports (mem_report m) (poison o) o.pairs o.mems
    ++ loop_reports m heads (find_cycles heads)

-- 01, The report; Refused because of the state: a module's own check: the walk, then the widths that decide coverage, then the reports
unfoldable pub check_one : Design → Kept → ℕ → Module → Got Tally
check_one d kept m k =
    then_go (own_walk d k kept) (λ r.
    let names = (name_table (own_vals k) k).names in
    let o = r.state.own in
    unless (widths_out names (poison o) o.sites o.outputs)
    (record { reports = own_reports m names o r.state.heads; rounds = round_limit - r.left; kept = r.state.kept }))

-- 01, The report: modules in order, to the first that is full
unfoldable pub check_all : Design → Kept → ℕ → List Module → Got Tally
check_all d kept m [] = going (record { reports = []; rounds = 0; kept = kept })
check_all d kept m (k ∷ ks) =
    then_go (check_one d kept m k)
    (λ a. then_go (check_all d a.kept (suc m) ks)
    (λ b. going (record { reports = a.reports ++ b.reports; rounds = a.rounds + b.rounds; kept = b.kept })))

-- 01, The report: every module of the design
unfoldable pub check_fused : Design → Got Tally
check_fused d = check_all d [] 0 d
