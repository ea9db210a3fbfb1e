-- What the tables of an accepted text say of a module: its kinds, the run of its items, whether it is bound.
-- Assumes nothing.
use mathlib.Core.Path.{◌≡◌, refl, sym, ◌∙◌, ap, subst}
use mathlib.Core.Bool.{Bool, true, false}
use mathlib.Core.List.{List, [], ◌∷◌}
use mathlib.Core.Option.{Option, some, none, none-ne-some}
use Prim.Native.Nat.{ℕ, zero, suc, ◌+◌, ◌*◌, ◌-◌, ◌≤◌, ◌<◌}
use native.Mathlib.Omega.{arith}
use lib.Dec.{eqb, ltb}
use lib.ListN.{length, take, drop, get_or, get_elem?, length-take, length-drop, get_or-eq_default}
use lib.Seq.{get_or-take, get_or-drop}
use borrow.Author.Tests.{eqb-true, ltb-true, ltb-false}
use Rattle.spec.specs.Bytes.{Bytes}
use Rattle.spec.specs.Syntax.{name_bound, Kind, in_kind, out_kind, wire_kind, reg_kind, mem_kind, inst_kind, Header, kind, val, Module, Design, header_line}
use Rattle.spec.specs.Decode.{depth_limit}
use Rattle.spec.specs.Refusal.{decode, line_in_range}
use Rattle.spec.specs.Site.{kind_of}
use Rattle.spec.proofs.Nodes.{and_parts}
use Rattle.lines.specs.Tables.{flag}
use Rattle.lines.specs.Saying.{kind_or, kind_at, Says}
use Rattle.lines.proofs.Said.{says}
use Rattle.edges.specs.Reads.{kind_word, KindsOf}
use Rattle.runs.specs.Run.{RunOf}
use Rattle.runs.specs.Text.{header_in_range, ModuleAt, items_run}
use Rattle.runs.proofs.Text.{module_at, module_run}
use Rattle.collect.specs.Cycle.{Tabled, PartOf}

-- ---- lists

at_index : {A : Type 0} (l : List A) (i : ℕ) → i < length l → (x : A) × (get_elem? l i ≡ some x)
at_index [] i h = absurd (omega arith)
at_index (x ∷ l) zero h = (x, refl)
at_index (x ∷ l) (suc i) h = at_index l i (omega arith)

past_end : {A : Type 0} (l : List A) (i : ℕ) → length l ≤ i → get_elem? l i ≡ none
past_end [] i h = refl
past_end (x ∷ l) zero h = absurd (omega arith)
past_end (x ∷ l) (suc i) h = past_end l i (omega arith)

-- a stretch of a text that is inside it
part_taken : (text : Bytes) (base n : ℕ) → base + n ≤ length text → PartOf text base (take n (drop base text))
part_taken text base n h =
    let l = length-drop base text in
    let k : length (take n (drop base text)) ≡ n = let e = length-take n (drop base text) in omega arith in
    record { inside = omega arith; same = ap (λ (j : ℕ). take j (drop base text)) (sym k) }

-- the run of a module's items ends with the text
pub run_short : (text mods : List ℕ) (m : ℕ) → length (items_run text mods m) ≤ length text - (get_or mods (m * 4 + 2) 0 - 1)
run_short text mods m =
    let a = length-take (get_or mods (m * 4 + 3) 0 - (get_or mods (m * 4 + 2) 0 - 1)) (drop (get_or mods (m * 4 + 2) 0 - 1) text) in
    let b = length-drop (get_or mods (m * 4 + 2) 0 - 1) text in
    omega arith

-- ---- kinds

word_of : (o : Option Kind) → kind_word (kind_or o 0) ≡ o
word_of none = refl
word_of (some in_kind) = refl
word_of (some out_kind) = refl
word_of (some wire_kind) = refl
word_of (some reg_kind) = refl
word_of (some mem_kind) = refl
word_of (some inst_kind) = refl

kind_there : (d : Design) (m n : ℕ) (x : Module) → get_elem? d m ≡ some x → kind_at d m n ≡ kind_or (kind_of x.header n) 0
unfolding kind_at
kind_there [] m n x e = absurd (none-ne-some x e)
kind_there (k ∷ ms) zero n x e = let q : k ≡ x = cc in ap (λ (y : Module). kind_or (kind_of y.header n) 0) q
kind_there (k ∷ ms) (suc m) n x e = kind_there ms m n x e

-- a header in range has no kind of a name past the last
no_kind : (hs : List Header) (n : ℕ) → header_in_range hs ≡ true → name_bound ≤ n → kind_of hs n ≡ none
unfolding kind_of header_in_range line_in_range
no_kind [] n r h = refl
no_kind (kind m k ∷ hs) n r h =
    let p = and_parts (ltb m name_bound) (header_in_range hs) r in
    go (eqb m n) refl (ltb-true m name_bound p.0) (no_kind hs n p.1 h)
  where
    go : (b : Bool) → eqb m n ≡ b → m < name_bound → kind_of hs n ≡ none → ◌≡◌ {A = Option Kind} (elim b as (λ _. Option Kind) [ true ↦ some k | false ↦ kind_of hs n ]) none
    go true e l f = let z = eqb-true m n e in absurd (omega arith)
    go false e l f = f
no_kind (val m z ∷ hs) n r h = no_kind hs n (and_parts (line_in_range (header_line (val m z))) (header_in_range hs) r).1 h

bound_flag : (b : Bool) → ltb 0 (flag b) ≡ b
bound_flag true = refl
bound_flag false = refl

-- ---- the tables

said : (text kinds mods : List ℕ) (count : ℕ) → Tabled text kinds mods count → Says text (length kinds) (length mods)
said text kinds mods count t = let k = t.kinds_fit in says text (length kinds) (length mods) t.formed (omega arith) t.mods_fit

pub few : (text kinds mods : List ℕ) (count : ℕ) → Tabled text kinds mods count → count ≤ 32
few text kinds mods count t = let f = (said text kinds mods count t).few in let c = t.modules in omega arith

pub found : (text kinds mods : List ℕ) (count m : ℕ) → Tabled text kinds mods count → m < count → (x : Module) × (get_elem? (decode text) m ≡ some x)
found text kinds mods count m t h = let c = t.modules in at_index (decode text) m (omega arith)

pub missing : (text kinds mods : List ℕ) (count m : ℕ) → Tabled text kinds mods count → count ≤ m → get_elem? (decode text) m ≡ none
missing text kinds mods count m t h = let c = t.modules in past_end (decode text) m (omega arith)

module _ (text kinds mods : List ℕ) (count m : ℕ) (x : Module) (t : Tabled text kinds mods count) (there : get_elem? (decode text) m ≡ some x) where
  pub module_here : ModuleAt text mods m x
  module_here = subst (λ (l : List ℕ). ModuleAt text l m x) (sym t.mods_are) (module_at text (length mods) t.formed t.mods_fit m x there)

  pub kinds_here : KindsOf (take 256 (drop (m * 256) kinds)) x.header
  kinds_here n = go (ltb n 256) refl
    where
      go : (b : Bool) → ltb n 256 ≡ b → kind_word (get_or (take 256 (drop (m * 256) kinds)) n 0) ≡ kind_of x.header n
      go true e =
          let h = ltb-true n 256 e in
          ap kind_word
          (get_or-take 256 (drop (m * 256) kinds) n 0 h ∙ get_or-drop (m * 256) kinds n 0 ∙ ap (λ (l : List ℕ). get_or l (m * 256 + n) 0) t.kinds_are
          ∙ (said text kinds mods count t).kinds_say m n h ∙ kind_there (decode text) m n x there)
          ∙ word_of (kind_of x.header n)
      go false e =
          let h = ltb-false n 256 e in
          let l = length-take 256 (drop (m * 256) kinds) in
          ap kind_word (get_or-eq_default (take 256 (drop (m * 256) kinds)) 0 (omega arith)) ∙ sym (no_kind x.header n module_here.header_ranged h)

  pub run_here : RunOf depth_limit (items_run text mods m) x.items × PartOf text (get_or mods (m * 4 + 2) 0 - 1) (items_run text mods m)
  run_here =
      let o = module_here.placed.order in
      let low = o.1 in
      let high = o.2 in (
        module_run module_here,
        part_taken text (get_or mods (m * 4 + 2) 0 - 1) (get_or mods (m * 4 + 3) 0 - (get_or mods (m * 4 + 2) 0 - 1)) (omega arith),
      )

  pub bound_here : ltb 0 (get_or mods (m * 4) 0) ≡ x.bound
  bound_here = ap (ltb 0) module_here.placed.bound ∙ bound_flag x.bound
