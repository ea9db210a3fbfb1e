-- Which is asked first, whether a module is being summarised or whether its summary is kept, changes no answer: a module being
-- summarised is never kept.
-- Assumes nothing.
use mathlib.Core.Path.{◌≡◌, refl, sym, ap, subst, fun_ext}
use mathlib.Core.Bool.{Bool, true, false}
use mathlib.Core.Option.{Option, some, none}
use mathlib.Core.List.Memᴰ
use mathlib.Core.List.{List, [], ◌∷◌}
use Prim.Native.Nat.{ℕ, zero, suc}
use lib.Dec.{eqb}
use lib.ListN.{length, get_elem?}
use borrow.Author.Tests.{eqb-true}
use Rattle.spec.specs.Syntax.{Header, Inst, Module, Design}
use Rattle.spec.specs.Refusal.{has_name}
use Rattle.spec.specs.Value.{own_vals}
use Rattle.spec.specs.Collect.{Collected, collection}
use Rattle.spec.specs.Edge.{Summary, inst_of}
use Rattle.spec.specs.Summary.{Kept, kept_summary, Asked, ask_for, lines_heads, make_summary, comb_summary, module_heads}
use Rattle.spec.specs.Graph.{◌∈◌}
use Rattle.spec.specs.Summaries.{kept_first, OrderOfAsking}
use Rattle.spec.proofs.Numbers.{if_case}
use Rattle.spec.proofs.Flags.{named_in}
use Rattle.spec.proofs.HeadLaws.{in_first}
use Rattle.spec.proofs.Triples.{keys, Keeps, not_kept, summary_keeps}

-- ---- what is being summarised is not kept

-- none of the modules being summarised has a summary in the table
abbrev Apart : List ℕ → Kept → Type 0
Apart busy kept = (b : ℕ) → b ∈ busy → ¬ (b ∈ keys kept)

-- where nothing is being summarised, any table is so
apart_idle : (kept : Kept) → Apart [] kept
apart_idle kept b i = absurd (Memᴰ.not-nil i)

-- a module that is not kept may be summarised
apart_begun : (busy : List ℕ) (kept : Kept) (m : ℕ) → Apart busy kept → kept_summary kept m ≡ none → Apart (m ∷ busy) kept
apart_begun busy kept m a new b i j = in_first (λ e. not_kept kept m new (subst (λ z. z ∈ keys kept) e j)) (λ l. a b l j) i

-- asking keeps it so
apart_on : {busy : List ℕ} {kept kept' : Kept} → Keeps busy kept kept' → Apart busy kept → Apart busy kept'
apart_on p a b i = p.apart b i (a b i)

-- a module that the table does not have
none_kept : (kept : Kept) (m : ℕ) → ¬ (m ∈ keys kept) → kept_summary kept m ≡ none
unfolding kept_summary keys
none_kept [] m h = refl
none_kept (e ∷ kept) m h =
    if_case (λ (s : Option Summary). s ≡ none) (eqb e.0 m) _ _ (λ t. absurd (h (Memᴰ.head (sym (eqb-true e.0 m t))))) (λ f. none_kept kept m (λ i. h (Memᴰ.tail i)))

-- ---- two ways of asking that agree on such tables

module _ (busy : List ℕ) (ask ask' : Kept → ℕ → Asked) (keeps : (kept : Kept) (m : ℕ) → Keeps busy kept (ask kept m).kept)
    (same : (kept : Kept) (m : ℕ) → Apart busy kept → ask' kept m ≡ ask kept m) where
  -- agree at each line
  line_same : (kept : Kept) → Apart busy kept → (i : Option Inst) → ask_for ask' kept i ≡ ask_for ask kept i
  unfolding ask_for
  line_same kept a none = refl
  line_same kept a (some i) = same kept i.«module» a

  -- which leaves such a table
  line_apart : (kept : Kept) → Apart busy kept → (i : Option Inst) → Apart busy (ask_for ask kept i).kept
  unfolding ask_for
  line_apart kept a none = a
  line_apart kept a (some i) = apart_on (keeps kept i.«module») a

  -- so at all lines
  lines_same : (hs : List Header) (kept : Kept) (cs : List Collected) → Apart busy kept → lines_heads ask' hs kept cs ≡ lines_heads ask hs kept cs
  unfolding lines_heads
  lines_same hs kept [] a = refl
  lines_same hs kept (c ∷ cs) a =
      let i = inst_of c.item in
      rw (line_same kept a i, lines_same hs (ask_for ask kept i).kept cs (line_apart kept a i))

  -- and make the same summary
  made_same : (kept : Kept) (m : ℕ) (k : Module) → Apart busy kept → make_summary ask' kept m k ≡ make_summary ask kept m k
  unfolding make_summary
  made_same kept m k a = rw (lines_same k.header kept (collection (own_vals k) k).lines a)

-- ---- the two orders

-- they differ only where a module is both being summarised and kept
asked_same : (d : Design) (fuel : ℕ) (busy : List ℕ) (kept : Kept) (m : ℕ) → Apart busy kept → kept_first fuel d busy kept m ≡ comb_summary fuel d busy kept m
unfolding kept_first comb_summary
asked_same d zero busy kept m a = refl
asked_same d (suc fuel) busy kept m a = go (get_elem? d m) refl (has_name m busy) refl (kept_summary kept m) refl (asked_same d fuel (m ∷ busy))
  where
    go : (x : Option Module) → get_elem? d m ≡ x → (b : Bool) → has_name m busy ≡ b → (s : Option Summary) → kept_summary kept m ≡ s
        → ((kept' : Kept) (m' : ℕ) → Apart (m ∷ busy) kept' → kept_first fuel d (m ∷ busy) kept' m' ≡ comb_summary fuel d (m ∷ busy) kept' m')
        → kept_first (suc fuel) d busy kept m ≡ comb_summary (suc fuel) d busy kept m
    go none x b eb s es ih = rw (x, kept_first, comb_summary)
    go (some k) x true eb s es ih = rw (x, none_kept kept m (a m (named_in m busy eb)), eb, kept_first, comb_summary)
    go (some k) x false eb (some s) es ih = rw (x, eb, es, kept_first, comb_summary)
    go (some k) x false eb none es ih =
        rw (x, eb, es, eb, kept_first, comb_summary)
        (made_same (m ∷ busy) (comb_summary fuel d (m ∷ busy)) (kept_first fuel d (m ∷ busy)) (summary_keeps d fuel (m ∷ busy)) ih kept m k (apart_begun busy kept m a es))

-- as functions, the ways in which a check asks
asks_same : (d : Design) → kept_first (suc (length d)) d [] ≡ comb_summary (suc (length d)) d []
asks_same d = fun_ext (λ kept. fun_ext (λ m. asked_same d (suc (length d)) [] kept m (apart_idle kept)))

-- The theorem.
pub order_of_asking : (d : Design) → OrderOfAsking d
unfolding module_heads
order_of_asking d = record {
  asked = λ fuel kept m. asked_same d fuel [] kept m (apart_idle kept);
  headed = λ kept k cs. ap (λ ask. lines_heads ask k.header kept cs) (asks_same d);
  same = asks_same d;
}
