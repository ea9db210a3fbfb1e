-- A second check of a design, with the summaries that the first kept, makes none and gives what the first gave: of the specification's
-- check, which the fused check is.
-- Assumes nothing.
use mathlib.Core.Path.{◌≡◌, refl, sym, ◌∙◌, ap}
use mathlib.Core.Bool.{false, ◌||◌, or-true, true≢false}
use mathlib.Core.List.{List, [], ◌∷◌}
use mathlib.Core.Option.{Option, some, none, none-ne-some}
use Prim.Native.Nat.{ℕ, zero, suc}
use lib.ListN.{length, get_elem?}
use lib.Dec.{eqb}
use borrow.Author.Tests.{eq-eqb, eqb-true}
use Rattle.spec.specs.Syntax.{Inst, Header, Module, Design}
use Rattle.spec.specs.Refusal.{has_name}
use Rattle.spec.specs.Value.{own_vals}
use Rattle.spec.specs.Collect.{Collected, collection}
use Rattle.spec.specs.Edge.{Summary, line_heads, inst_of}
use Rattle.spec.specs.Summary.{Kept, kept_summary, Asked, no_summary, ask_for, lines_heads, make_summary, comb_summary, module_heads}
use Rattle.spec.specs.Check.{Checked, check_module_drivers, check_modules, check_design}
use Rattle.spec.proofs.Numbers.{if_case}
use Rattle.spec.proofs.Flags.{not_so, or_neither}
use Rattle.spec.proofs.HeadLaws.{option_case}

-- ---- what is kept stays kept

-- each summary that the one has, the other has
record Stays (kept kept' : Kept) : Type 0 where
  all : (m : ℕ) (s : Summary) → kept_summary kept m ≡ some s → kept_summary kept' m ≡ some s

-- the same keeps the same
stays_same : {kept : Kept} → Stays kept kept
stays_same = record { all = λ m s e. e }

-- one step behind the other
stays_on : {a b c : Kept} → Stays a b → Stays b c → Stays a c
stays_on f g = record { all = λ m s e. g.all m s (f.all m s e) }

-- a summary that is made was not kept before
stays_made : {kept kept' : Kept} (m : ℕ) (t : Summary) → kept_summary kept m ≡ none → Stays kept kept' → Stays kept ((m, t) ∷ kept')
unfolding kept_summary
stays_made {kept} {kept'} m t new f = record {
  all = λ n s e. if_case (λ z. z ≡ some s) (eqb m n) (some t) (kept_summary kept' n)
      (λ g. absurd (none-ne-some s (sym new ∙ ap (kept_summary kept) (eqb-true m n g) ∙ e))) (λ g. f.all n s e);
}

-- and is kept then
made_kept : (m : ℕ) (s : Summary) (kept : Kept) → kept_summary ((m, s) ∷ kept) m ≡ some s
unfolding kept_summary
made_kept m s kept = rw (eq-eqb m m refl, kept_summary)

module _ (ask : Kept → ℕ → Asked) (h : (kept : Kept) (m : ℕ) → Stays kept (ask kept m).kept) where
  -- where asking loses nothing, the lines lose nothing
  lines_stay : (hs : List Header) (kept : Kept) (cs : List Collected) → Stays kept (lines_heads ask hs kept cs).kept
  unfolding lines_heads ask_for
  lines_stay hs kept [] = stays_same
  lines_stay hs kept (c ∷ cs) = stays_on (asked (inst_of c.item)) (lines_stay hs (ask_for ask kept (inst_of c.item)).kept cs)
    where
      asked : (i : Option Inst) → Stays kept (ask_for ask kept i).kept
      asked none = stays_same
      asked (some i) = h kept i.«module»

module _ (d : Design) where
  -- asking loses nothing: what is made goes in front, and was not kept
  asked_stays : (fuel : ℕ) (busy : List ℕ) (kept : Kept) (m : ℕ) → Stays kept (comb_summary fuel d busy kept m).kept
  unfolding comb_summary make_summary
  asked_stays zero busy kept m = stays_same
  asked_stays (suc fuel) busy kept m =
      option_case (λ (a : Asked). Stays kept a.kept) (get_elem? d m) _ _ (λ e. stays_same)
      (λ k e. if_case (λ (a : Asked). Stays kept a.kept) (has_name m busy) _ _ (λ g. stays_same)
      (λ g. option_case (λ (a : Asked). Stays kept a.kept) (kept_summary kept m) _ _
      (λ new. stays_made m _ new (lines_stay (comb_summary fuel d (m ∷ busy)) (asked_stays fuel (m ∷ busy)) k.header kept (collection (own_vals k) k).lines))
      (λ t f. stays_same)))

  -- how a module's own check asks: nothing is being summarised
  abbrev asks : Kept → ℕ → Asked
  asks = comb_summary (suc (length d)) d []

  -- nor does a module's own check
  one_stays : (kept : Kept) (m : ℕ) (k : Module) → Stays kept (check_module_drivers d kept m k).kept
  unfolding check_module_drivers module_heads
  one_stays kept m k = lines_stay asks (asked_stays (suc (length d)) []) k.header kept (collection (own_vals k) k).lines

  -- nor do several
  checks_stay : (kept : Kept) (m : ℕ) (ks : List Module) → Stays kept (check_modules d kept m ks).kept
  unfolding check_modules
  checks_stay kept m [] = stays_same
  checks_stay kept m (k ∷ ks) = stays_on (one_stays kept m k) (checks_stay (check_module_drivers d kept m k).kept (suc m) ks)

  -- ---- asking again

  -- a missing module
  asked_missing : (kept : Kept) (m : ℕ) → get_elem? d m ≡ none → asks kept m ≡ no_summary kept
  unfolding comb_summary
  asked_missing kept m x = rw (x, comb_summary)

  -- a module whose summary is kept
  asked_kept : (kept : Kept) (m : ℕ) {k : Module} {s : Summary} → get_elem? d m ≡ some k → kept_summary kept m ≡ some s → asks kept m ≡ record { summary = s; kept = kept; full = false }
  unfolding comb_summary has_name
  asked_kept kept m x e = rw (x, e, comb_summary)

  -- the summary of a module of the design is kept once it was asked for
  kept_then : (kept : Kept) (m : ℕ) {k : Module} → get_elem? d m ≡ some k → kept_summary (asks kept m).kept m ≡ some (asks kept m).summary
  unfolding comb_summary make_summary has_name
  kept_then kept m x =
      rw (x, comb_summary)
      (option_case (λ (a : Asked). kept_summary a.kept m ≡ some a.summary) (kept_summary kept m) _ _ (λ new. made_kept m _ _) (λ s e. e))

  -- asking again, where all is still kept: the same summary, and nothing is made
  asked_again : (kept later : Kept) (m : ℕ) → Stays (asks kept m).kept later → asks later m ≡ record { summary = (asks kept m).summary; kept = later; full = false }
  asked_again kept later m f = go (get_elem? d m) refl
    where
      go : (x : Option Module) → get_elem? d m ≡ x → asks later m ≡ record { summary = (asks kept m).summary; kept = later; full = false }
      go none x = rw (asked_missing kept m x, asked_missing later m x)
      go (some k) x = asked_kept later m x (f.all m (asks kept m).summary (kept_then kept m x))

  -- the same at a line that may be no instance
  again_for : (kept later : Kept) (i : Option Inst) → Stays (ask_for asks kept i).kept later → ask_for asks later i ≡ record { summary = (ask_for asks kept i).summary; kept = later; full = false }
  unfolding ask_for
  again_for kept later none f = refl
  again_for kept later (some i) f = asked_again kept later i.«module» f

  -- collected lines again: the same heads, and nothing is made
  lines_again : (hs : List Header) (kept later : Kept) (cs : List Collected) → (lines_heads asks hs kept cs).full ≡ false → Stays (lines_heads asks hs kept cs).kept later
      → lines_heads asks hs later cs ≡ record { heads = (lines_heads asks hs kept cs).heads; kept = later; full = (lines_heads asks hs kept cs).full }
  unfolding lines_heads
  lines_again hs kept later [] e f = refl
  lines_again hs kept later (c ∷ cs) e f =
      let a = ask_for asks kept (inst_of c.item) in
      let h = line_heads hs c.names a.summary c.item in
      let r = lines_heads asks hs a.kept cs in
      let x = or_neither (a.full || h.out) r.full e in
      let y = or_neither a.full h.out x.0 in
      let q = again_for kept later (inst_of c.item) (stays_on (lines_stay asks (asked_stays (suc (length d)) []) hs a.kept cs) f) in
      let l = lines_again hs a.kept later cs x.1 f in
      rw (q, l, y.0)

  -- ---- checking again

  -- the same, with these summaries kept
  abbrev with_kept : Kept → Checked → Checked
  with_kept kept c = record { reports = c.reports; rounds = c.rounds; kept = kept; full = c.full }

  -- a module's own check again
  one_again : (kept later : Kept) (m : ℕ) (k : Module) → (check_module_drivers d kept m k).full ≡ false → Stays (check_module_drivers d kept m k).kept later
      → check_module_drivers d later m k ≡ with_kept later (check_module_drivers d kept m k)
  unfolding check_module_drivers module_heads
  one_again kept later m k e f =
      let lines = (collection (own_vals k) k).lines in
      let fine = not_so (lines_heads asks k.header kept lines).full (λ h. true≢false (simp (h, or-true) at e)) in
      rw (lines_again k.header kept later lines fine f)

  -- several again, where the last of them left no more than is kept
  checks_again : (kept later : Kept) (m : ℕ) (ks : List Module) → (check_modules d kept m ks).full ≡ false → Stays (check_modules d kept m ks).kept later
      → check_modules d later m ks ≡ with_kept later (check_modules d kept m ks)
  unfolding check_modules
  checks_again kept later m [] e f = refl
  checks_again kept later m (k ∷ ks) e f =
      let a = check_module_drivers d kept m k in
      let x = or_neither a.full (check_modules d a.kept (suc m) ks).full e in
      rw (one_again kept later m k x.0 (stays_on (checks_stay a.kept (suc m) ks) f), checks_again a.kept later (suc m) ks x.1 f)

  -- A second check with the summaries that the first kept gives what the first gave.
  pub design_again : (check_design d).full ≡ false → check_modules d (check_design d).kept 0 d ≡ check_design d
  unfolding check_design
  design_again e = checks_again [] (check_modules d [] 0 d).kept 0 d e stays_same
