-- The tables of a module's own check as the code holds them, and what a collected line leaves in them. 01: The line; The site;
-- The block; Refused because of the state.
-- To a reader: definitions that contracts of this and other crates cite; each such contract is proved; check_drivers' own promise cites none of them.
use Rattle.std.specs.Prelude.{◌≡◌, Bool, true, false, ◌||◌, List, [], ◌∷◌, ℕ, ◌-◌, ◌≤◌, ◌<◌, length, take, drop}
use Rattle.spec.specs.Bytes.{Bytes}
use Rattle.spec.specs.Graph.{◌∈◌, Once}
use Rattle.spec.specs.Syntax.{name_bound, Header, Item}
use Rattle.spec.specs.Show.{show_width}
use Rattle.spec.specs.Decode.{depth_limit}
use Rattle.spec.specs.Refusal.{width_depth, width_in_range}
use Rattle.spec.specs.Value.{Names}
use Rattle.spec.specs.Site.{Output, line_constants, any_outside}
use Rattle.sites.specs.Own.{Port, places, own_of, entry_names}
use Rattle.walk.specs.Walk.{Own, own_line, over_own}

-- 01, The site: a row has the name and the START of an output, and says where its width stands in the text; the width is in range and
-- no deeper than the limit
pub record PortIs (text : Bytes) (p : Port) (o : Output) : Type 0 where
  pub name : p.name ≡ o.name
  pub start : p.start ≡ o.start
  pub width : take (p.to - p.from) (drop p.from text) ≡ show_width o.width
  pub inside : (p.from ≤ p.to) × (p.to ≤ length text)
  pub deep : width_depth o.width ≤ depth_limit
  pub ranged : width_in_range o.width ≡ true

-- 01, The site: such a row for each output, in order
abbrev pub Ports : Bytes → List Port → List Output → Type 0
Ports text [] [] = Unit {0}
Ports text [] (o ∷ os) = ⊥
Ports text (p ∷ ps) [] = ⊥
Ports text (p ∷ ps) (o ∷ os) = PortIs text p o × Ports text ps os

-- 01, The line: NAME 0 to 255. Names each once, all below the bound: a table of them is never too small
pub record Few (l : List ℕ) : Type 0 where
  pub once : Once l
  pub small : (n : ℕ) → n ∈ l → n < name_bound

-- 01, The site; The block: the words `own` hold the tables o; the table of conflicts is filled later, and here it is free
pub record Held (text : Bytes) (own : List ℕ) (o : Own) : Type 0 where
  pub sized : length own ≡ places
  pub sites : (own_of own).sites ≡ o.sites
  pub pairs : (own_of own).pairs ≡ o.pairs
  pub outputs : Ports text (own_of own).outputs o.outputs
  pub regs : (own_of own).regs ≡ o.regs
  pub mems : (own_of own).mems ≡ o.mems
  pub misuses : (own_of own).misuses ≡ o.misuses
  pub few_outputs : Few (entry_names (λ x. x.name) o.outputs)
  pub few_regs : Few (entry_names (λ x. x.name) o.regs)
  pub few_mems : Few (entry_names (λ x. x.name) o.mems)
  pub few_misuses : Few (entry_names (λ x. x.name) o.misuses)

-- 01, The site; The block; Refused because of the state: what a collected line leaves: its entries; or a constant was
-- outside INT, or a limit is passed
abbrev pub OwnAfter : Bool → Bytes → List ℕ → Bool → List Header → Names → Item → Own → Type 0
OwnAfter true text own bound hs names item o =
    (any_outside names (line_constants hs item) ≡ false) × Held text own (own_line bound hs names item o) × (over_own (own_line bound hs names item o) ≡ false)
OwnAfter false text own bound hs names item o = any_outside names (line_constants hs item) || over_own (own_line bound hs names item o) ≡ true
