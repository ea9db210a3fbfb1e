-- Collected lines: what a module's first item finds, and one law for each way of `port_line`, `reg_line`, `mem_line`, `own_line` and
-- `drive_outside`.
-- Assumes nothing.
use mathlib.Core.Path.{◌≡◌, refl, sym, ◌∙◌, ap, subst}
use mathlib.Core.Bool.{Bool, true, false, true≢false}
use mathlib.Core.List.Memᴰ
use mathlib.Core.List.{List, [], ◌++◌, append-nil}
use Prim.Native.Nat.{ℕ, zero, suc, ◌+◌, ◌-◌, ◌≤◌, ◌<◌, min}
use native.Mathlib.Omega.{arith}
use lib.ListN.{length, get_or, set, take, drop, replicate, length-set, length-take, length-replicate, get_or-eq_default}
use lib.Seq.{get_or-set_same, get_or-set_other, set_out, sets, sets-eq, length-sets, take-append_seam}
use lib.Dec.{eqb, ltb}
use native.Mathlib.Decide.{ℕ_discrete}
use borrow.Author.Tests.{ltb-true, ltb-false, eqb-true, eqb-false}
use Rattle.spec.specs.Bytes.{Bytes, show_form}
use Rattle.spec.specs.Syntax.{Expr, Width, Dir, input, output, LValue, Stmts, Item, port, wire, reg, mem, const, drive, on, inst, repeat, const_if, Header}
use Rattle.spec.specs.Show.{show_item}
use Rattle.spec.specs.Refusal.{item_in_range}
use Rattle.spec.specs.Value.{Names}
use Rattle.spec.specs.Site.{line_sites, line_constants, any_outside, line_misuses, line_outputs}
use Rattle.spec.specs.Block.{line_pairs, line_regs, line_mems}
use Rattle.lines.specs.Parts.{part_end, follows}
use Rattle.sites.specs.Own as table
use Rattle.sites.specs.Own.{Port, places, run, rows_in, own_of, entry_names, add_output, add_reg, add_mem}
use Rattle.runs.specs.Run.{ShowsItem}
use Rattle.edges.specs.Reads.{KindsOf}
use Rattle.walk.specs.Walk.{Own, no_own, own_line, add_all, add_new, same_output, same_storage}
use Rattle.items.specs.declared.Named.{Named}
use Rattle.items.specs.Held.{Ports, Few, Held, OwnAfter}
use Rattle.steps.specs.Steps.{plain}
use Rattle.items.specs.Lines.{StandsAt, emptied, NumberIs, NamedAt, PortLine, RegLine, MemLine, DriveLine, OnLine, OwnLine, drive_outside, OutsideIs}
use Rattle.items.proofs.DriveLaws.{no_drive, drive_means}
use Rattle.items.proofs.Tables.{held_within, held_output, held_reg, held_mem}
use Rattle.items.proofs.Places.{dir_out, dir_in, port_first, port_second, port_third, port_row, port_output, port_is, reg_behind, mem_behind, both_small}

-- ---- the tables with no row

-- a count more
zeros_more : (l : List ℕ) (j i : ℕ) → set (sets l j (replicate i 0)) (j + i) 0 ≡ sets l j (replicate (suc i) 0)
zeros_more l j zero = let e : j + 0 ≡ j = omega arith in ap (λ (n : ℕ). set l n 0) e
zeros_more l j (suc i) =
    let e : j + suc i ≡ suc j + i = omega arith in
    ap (λ (n : ℕ). set (sets (set l j 0) (suc j) (replicate i 0)) n 0) e ∙ zeros_more (set l j 0) (suc j) i

zeros_next : (l : List ℕ) (i : ℕ) → set (sets l 0 (replicate i 0)) i 0 ≡ sets l 0 (replicate (suc i) 0)
zeros_next l i = let e : i ≡ 0 + i = omega arith in ap (λ (n : ℕ). set (sets l 0 (replicate i 0)) n 0) e ∙ zeros_more l 0 i

-- past the end there is none
zeros_past : (l : List ℕ) (i : ℕ) → length l ≤ i → (n k : ℕ) → n ≡ k + i → sets l 0 (replicate n 0) ≡ sets l 0 (replicate i 0)
zeros_past l i h n zero e = let z : n ≡ i = omega arith in ap (λ (m : ℕ). sets l 0 (replicate m 0)) z
zeros_past l i h n (suc k) e =
    let z : n ≡ suc (k + i) = omega arith in
    ap (λ (m : ℕ). sets l 0 (replicate m 0)) z ∙ sym (zeros_next l (k + i))
    ∙ set_out (sets l 0 (replicate (k + i) 0)) (k + i) 0 (omega (arith, length-sets l 0 (replicate (k + i) 0))) ∙ zeros_past l i h (k + i) k refl

-- the first n words filled with 0
filled : (l : List ℕ) (n : ℕ) → n ≤ length l → replicate n 0 ++ drop n l ≡ sets l 0 (replicate n 0)
filled l n h =
    let e : length (replicate {A = ℕ} n 0) ≡ n = length-replicate n 0 in
    let z : 0 + length (replicate {A = ℕ} n 0) ≡ n = omega (arith, e) in
    sym (
    sets-eq (replicate n 0) l 0 (omega (arith, e))
    ∙ ap (λ (t : List ℕ). t ++ replicate n 0 ++ drop (0 + length (replicate {A = ℕ} n 0)) l) (take-append_seam [] l)
    ∙ ap (λ (m : ℕ). replicate n 0 ++ drop m l) z
    )

-- the first seven, or all where there are fewer
pub zeros_filled : (l : List ℕ) {n : ℕ} → n ≡ min (length l) 7 → {w : List ℕ} → w ≡ replicate (length (take n l)) 0 → w ++ drop n l ≡ emptied l
zeros_filled l {n} q e =
    ap (λ (w : List ℕ). w ++ drop n l) (e ∙ ap (λ (m : ℕ). replicate m 0) (let h : length (take n l) ≡ n = omega (arith, q, length-take n l) in h))
    ∙ filled l n (omega (arith, q)) ∙ go (ltb (length l) 7) refl
  where
    go : (b : Bool) → ltb (length l) 7 ≡ b → sets l 0 (replicate n 0) ≡ emptied l
    go true h = sym (zeros_past l n (omega (arith, q, ltb-true (length l) 7 h)) 7 (7 - n) (omega (arith, q)))
    go false h = let z : n ≡ 7 = omega (arith, q, ltb-false (length l) 7 h) in ap (λ (m : ℕ). sets l 0 (replicate m 0)) z

-- the counts are 0
set_zero : (l : List ℕ) (n : ℕ) → get_or (set l n 0) n 0 ≡ 0
set_zero l n = go (ltb n (length l)) refl
  where
    go : (b : Bool) → ltb n (length l) ≡ b → get_or (set l n 0) n 0 ≡ 0
    go true e = get_or-set_same l n 0 0 (ltb-true n (length l) e)
    go false e = get_or-eq_default (set l n 0) 0 (omega (arith, ltb-false n (length l) e, length-set l n 0))

zeros_at : (l : List ℕ) (i k : ℕ) → k < i → get_or (sets l 0 (replicate i 0)) k 0 ≡ 0
zeros_at l zero k h = absurd (omega arith)
zeros_at l (suc i) k h = ap (λ (x : List ℕ). get_or x k 0) (sym (zeros_next l i)) ∙ go (zeros_at l i k) (ℕ_discrete k i)
  where
    go : (k < i → get_or (sets l 0 (replicate i 0)) k 0 ≡ 0) → Dec (k ≡ i) → get_or (set (sets l 0 (replicate i 0)) i 0) k 0 ≡ 0
    go f (yes e) = ap (λ (n : ℕ). get_or (set (sets l 0 (replicate i 0)) i 0) n 0) e ∙ set_zero (sets l 0 (replicate i 0)) i
    go f (no d) = get_or-set_other (sets l 0 (replicate i 0)) i k 0 0 d ∙ f (omega arith)

run_none : {A : Type 0} (f : ℕ → A) (n : ℕ) → n ≡ 0 → run f 0 n ≡ []
unfolding run
run_none f n e = ap (run f 0) e

ports_none : (text : Bytes) (ps : List Port) → ps ≡ [] → Ports text ps []
ports_none text ps e = rw e tt

no_few : Few []
no_few = record { once = tt; small = λ n m. absurd (Memᴰ.not-nil m) }

pub emptied_held : (old new : List ℕ) → new ≡ emptied old → length old ≡ places → (text : Bytes) → Held text new no_own
unfolding own_of rows_in run entry_names
emptied_held old new e h text =
    let z : (k : ℕ) → k < 7 → (m : ℕ) → min (get_or new k 0) m ≡ 0 =
    λ k l m. let c : get_or new k 0 ≡ 0 = ap (λ (x : List ℕ). get_or x k 0) e ∙ zeros_at old 7 k l in omega arith in
    record {
      sized = ap length e ∙ length-sets old 0 (replicate 7 0) ∙ h;
      sites = run_none _ _ (z 0 (omega arith) 1024);
      pairs = run_none _ _ (z 1 (omega arith) 512);
      outputs = ports_none text (own_of new).outputs (run_none _ _ (z 2 (omega arith) table.names));
      regs = run_none _ _ (z 3 (omega arith) table.names);
      mems = run_none _ _ (z 4 (omega arith) table.names);
      misuses = run_none _ _ (z 5 (omega arith) table.names);
      few_outputs = no_few;
      few_regs = no_few;
      few_mems = no_few;
      few_misuses = no_few;
    }

-- ---- lines that evaluate nothing

module _ (text : Bytes) (own : List ℕ) (o p : Own) (bound : Bool) (header : List Header) (names : Names) (i : Item) where
  line_by : own_line bound header names i o ≡ p → line_constants header i ≡ [] → Held text own p → OwnAfter true text own bound header names i o
  unfolding any_outside
  line_by e c h =
      let k : Held text own (own_line bound header names i o) = rw e h in
      (rw c, k, held_within text own (own_line bound header names i o) k)

module _ (bound : Bool) (header : List Header) (names : Names) (o : Own) where
  -- they add nothing
  in_own : (n : ℕ) (w : Width) (s : ℕ) → own_line bound header names (port input n w s) o ≡ o
  unfolding own_line line_sites line_pairs line_outputs line_regs line_mems line_misuses add_all
  in_own n w s = λ i. record { sites = append-nil o.sites i; pairs = o.pairs; outputs = o.outputs; regs = o.regs; mems = o.mems; misuses = o.misuses }

  wire_own : (n : ℕ) (e : Expr) (s : ℕ) → own_line bound header names (wire n e s) o ≡ o
  unfolding own_line line_sites line_pairs line_outputs line_regs line_mems line_misuses add_all
  wire_own n e s = λ i. record { sites = append-nil o.sites i; pairs = o.pairs; outputs = o.outputs; regs = o.regs; mems = o.mems; misuses = o.misuses }

  const_own : (n : ℕ) (e : Expr) → own_line bound header names (const n e) o ≡ o
  unfolding own_line line_sites line_pairs line_outputs line_regs line_mems line_misuses add_all
  const_own n e = λ i. record { sites = append-nil o.sites i; pairs = o.pairs; outputs = o.outputs; regs = o.regs; mems = o.mems; misuses = o.misuses }

  -- an output, a register, a memory more
  out_own : (n : ℕ) (w : Width) (s : ℕ)
      → own_line bound header names (port output n w s) o
      ≡ record { sites = o.sites; pairs = o.pairs; outputs = add_new same_output (port_output n w s) o.outputs; regs = o.regs; mems = o.mems; misuses = o.misuses }
  unfolding own_line line_sites line_pairs line_outputs line_regs line_mems line_misuses add_all
  out_own n w s = λ i. record { sites = append-nil o.sites i; pairs = o.pairs; outputs = add_new same_output (port_output n w s) o.outputs; regs = o.regs; mems = o.mems; misuses = o.misuses }

  reg_own : (n s : ℕ)
      → own_line bound header names (reg n s) o
      ≡ record { sites = o.sites; pairs = o.pairs; outputs = o.outputs; regs = add_new same_storage (record { name = n; start = s }) o.regs; mems = o.mems; misuses = o.misuses }
  unfolding own_line line_sites line_pairs line_outputs line_regs line_mems line_misuses add_all
  reg_own n s = λ i. record { sites = append-nil o.sites i; pairs = o.pairs; outputs = o.outputs; regs = add_new same_storage (record { name = n; start = s }) o.regs; mems = o.mems; misuses = o.misuses }

  mem_own : (n s : ℕ)
      → own_line bound header names (mem n s) o
      ≡ record { sites = o.sites; pairs = o.pairs; outputs = o.outputs; regs = o.regs; mems = add_new same_storage (record { name = n; start = s }) o.mems; misuses = o.misuses }
  unfolding own_line line_sites line_pairs line_outputs line_regs line_mems line_misuses add_all
  mem_own n s = λ i. record { sites = append-nil o.sites i; pairs = o.pairs; outputs = o.outputs; regs = o.regs; mems = add_new same_storage (record { name = n; start = s }) o.mems; misuses = o.misuses }

-- ---- `port`

module _ (x : Bytes) (base : ℕ) (own : List ℕ) where
  -- a `port in` line
  pub port_other : (get_or x 6 0 ≡ 111 → ⊥) → PortLine x base own own
  unfolding line_constants
  port_other b text input n w s d p st o h bound header names = line_by text own o o bound header names (port input n w s) (in_own bound header names o n w s) refl h
  port_other b text output n w s d p st o h bound header names = absurd (b (dir_out x n w s p.shown))

  -- a `port out` line has all its parts, and its places are words
  port_never : get_or x 6 0 ≡ 111
      → ((text : Bytes) (n : ℕ) (w : Width) (s d : ℕ) → ShowsItem x d (port output n w s) → StandsAt text base x → ⊥) → PortLine x base own own
  port_never b f text input n w s d p st o h bound header names = absurd (omega (arith, dir_in x n w s p.shown))
  port_never b f text output n w s d p st o h bound header names = absurd (f text n w s d p st)

  pub port_none : get_or x 6 0 ≡ 111 → follows x 9 ≡ false → PortLine x base own own
  port_none b g = port_never b (λ text n w s d p st. true≢false (sym (port_first x n w s p.shown) ∙ g))

  module _ (b : get_or x 6 0 ≡ 111) {a : ℕ} (qa : a ≡ part_end x 10) where
    pub port_one : follows x a ≡ false → PortLine x base own own
    port_one g = port_never b (λ text n w s d p st. true≢false (sym (port_second x qa n w s p.shown) ∙ g))

    module _ {e : ℕ} (qe : e ≡ part_end x (a + 1)) where
      pub port_two : follows x e ≡ false → PortLine x base own own
      port_two g = port_never b (λ text n w s d p st. true≢false (sym (port_third x qa qe n w s p.shown) ∙ g))

      pub port_far : e ≤ length x → 4294967295 - base < e → PortLine x base own own
      port_far l g = port_never b (λ text n w s d p st. let i = st.inside in let t = st.short in omega arith)

      pub port_out : follows x a ≡ true → e ≤ length x → {c : ℕ} → c ≡ part_end x (e + 1) → {u v : ℕ} → NumberIs u x 9 a → NumberIs v x e c → (own' : List ℕ) → length own' ≡ length own
          → (length own ≡ places → own_of own' ≡ add_output (port_row u v base a e) (own_of own)) → PortLine x base own own'
      unfolding line_constants
      port_out g l qc hu hv own' size eq text input n w s d p st o h bound header names = absurd (omega (arith, dir_in x n w s p.shown))
      port_out g l qc {u} {v} hu hv own' size eq text output n w s d p st o h bound header names =
          let q = port_is text x base d n w s qa qe qc (omega arith) l hu hv p st in
          line_by text own' o _ bound header names (port output n w s) (out_own bound header names o n w s) refl
          (held_output text own own' o h size (port_row u v base a e) (port_output n w s) q.0 q.1 (eq h.sized))

-- ---- `reg` and `mem`

module _ (x : Bytes) (own own' : List ℕ) (l : Named) (nl : NamedAt l x 4) (size : length own' ≡ length own) where
  pub reg_line : (length own ≡ places → own_of own' ≡ add_reg (record { name = l.name; start = l.start }) (own_of own)) → RegLine x own own'
  unfolding line_constants item_in_range
  reg_line eq text n s d p o h bound header names =
      let u = both_small n s p.ranged in
      let q = nl n s [] (reg_behind x n s p.shown) u.0 u.1 in
      line_by text own' o _ bound header names (reg n s) (reg_own bound header names o n s) refl
      (held_reg text own own' o h size (record { name = n; start = s }) u.0 (eq h.sized ∙ (λ i. add_reg (record { name = q.name i; start = q.start i }) (own_of own))))

  pub mem_line : (length own ≡ places → own_of own' ≡ add_mem (record { name = l.name; start = l.start }) (own_of own)) → MemLine x own own'
  unfolding line_constants item_in_range
  mem_line eq text n s d p o h bound header names =
      let u = both_small n s p.ranged in
      let q = nl n s [] (mem_behind x n s p.shown) u.0 u.1 in
      line_by text own' o _ bound header names (mem n s) (mem_own bound header names o n s) refl
      (held_mem text own own' o h size (record { name = n; start = s }) u.0 (eq h.sized ∙ (λ i. add_mem (record { name = q.name i; start = q.start i }) (own_of own))))

-- ---- any line, by the first byte of its word

byte_of : (x : Bytes) (d : ℕ) (i : Item) → ShowsItem x d i → get_or x 1 0 ≡ get_or (show_item i) 1 0
byte_of x d i p = ap (λ (z : Bytes). get_or z 1 0) p.shown

-- the first byte of the word of a plain line, and what the line is
data Told (x : Bytes) (d : ℕ) : Item → Type 0 where
  a_port : (dir : Dir) (n : ℕ) (w : Width) (s : ℕ) → get_or x 1 0 ≡ 112 → Told x d (port dir n w s)
  a_wire : (n : ℕ) (e : Expr) (s : ℕ) → get_or x 1 0 ≡ 119 → Told x d (wire n e s)
  a_reg : (n s : ℕ) → get_or x 1 0 ≡ 114 → Told x d (reg n s)
  a_mem : (n s : ℕ) → get_or x 1 0 ≡ 109 → Told x d (mem n s)
  a_const : (n : ℕ) (e : Expr) → get_or x 1 0 ≡ 99 → Told x d (const n e)
  a_drive : (lv : LValue) (e : Expr) → get_or x 1 0 ≡ 100 → Told x d (drive lv e)
  an_on : (s : ℕ) (ss : Stmts) → get_or x 1 0 ≡ 111 → Told x d (on s ss)

told : (x : Bytes) (d : ℕ) (i : Item) → ShowsItem x d i → plain i ≡ true → Told x d i
unfolding show_item show_form
told x d (port dir n w s) p t = a_port dir n w s (byte_of x d (port dir n w s) p)
told x d (wire n e s) p t = a_wire n e s (byte_of x d (wire n e s) p)
told x d (reg n s) p t = a_reg n s (byte_of x d (reg n s) p)
told x d (mem n s) p t = a_mem n s (byte_of x d (mem n s) p)
told x d (const n e) p t = a_const n e (byte_of x d (const n e) p)
told x d (drive lv e) p t = a_drive lv e (byte_of x d (drive lv e) p)
told x d (on s ss) p t = an_on s ss (byte_of x d (on s ss) p)
told x d (inst i) p t = absurd (true≢false (sym t))
told x d (repeat n l h is) p t = absurd (true≢false (sym t))
told x d (const_if c is js) p t = absurd (true≢false (sym t))

module _ (x : Bytes) (base : ℕ) (bound : Bool) (d : ℕ) (kinds : List ℕ) (names : Names) (own : List ℕ) where
  abbrev After : Bool → List ℕ → Item → Type 0
  After r own' i = ShowsItem x d i → (text : Bytes) → StandsAt text base x → (header : List Header) → KindsOf kinds header → (o : Own) → Held text own o → OwnAfter r text own' bound header names i o

  own_told : (r : Bool) (own' : List ℕ) → ((i : Item) → Told x d i → After r own' i) → OwnLine r x base bound d kinds names own own'
  own_told r own' f text i p t st header w o h = f i (told x d i p t) p text st header w o h

  pub own_drive : get_or x 1 0 ≡ 100 → (r : Bool) (own' : List ℕ) → DriveLine r x bound d kinds names own own' → OwnLine r x base bound d kinds names own own'
  own_drive b r own' f = own_told r own' go
    where
      go : (i : Item) → Told x d i → After r own' i
      go i (a_port dir n w s c) = absurd (omega arith)
      go i (a_wire n e s c) = absurd (omega arith)
      go i (a_reg n s c) = absurd (omega arith)
      go i (a_mem n s c) = absurd (omega arith)
      go i (a_const n e c) = absurd (omega arith)
      go i (a_drive lv e c) = λ p text st header w o h. f lv e p header w text o h
      go i (an_on s ss c) = absurd (omega arith)

  pub own_on : get_or x 1 0 ≡ 111 → (r : Bool) (own' : List ℕ) → OnLine r x d kinds own own' → OwnLine r x base bound d kinds names own own'
  own_on b r own' f = own_told r own' go
    where
      go : (i : Item) → Told x d i → After r own' i
      go i (a_port dir n w s c) = absurd (omega arith)
      go i (a_wire n e s c) = absurd (omega arith)
      go i (a_reg n s c) = absurd (omega arith)
      go i (a_mem n s c) = absurd (omega arith)
      go i (a_const n e c) = absurd (omega arith)
      go i (a_drive lv e c) = absurd (omega arith)
      go i (an_on s ss c) = λ p text st header w o h. f s ss p header w text o h bound names

  pub own_port : get_or x 1 0 ≡ 112 → (own' : List ℕ) → PortLine x base own own' → OwnLine true x base bound d kinds names own own'
  own_port b own' f = own_told true own' go
    where
      go : (i : Item) → Told x d i → After true own' i
      go i (a_port dir n w s c) = λ p text st header k o h. f text dir n w s d p st o h bound header names
      go i (a_wire n e s c) = absurd (omega arith)
      go i (a_reg n s c) = absurd (omega arith)
      go i (a_mem n s c) = absurd (omega arith)
      go i (a_const n e c) = absurd (omega arith)
      go i (a_drive lv e c) = absurd (omega arith)
      go i (an_on s ss c) = absurd (omega arith)

  pub own_reg : get_or x 1 0 ≡ 114 → (own' : List ℕ) → RegLine x own own' → OwnLine true x base bound d kinds names own own'
  own_reg b own' f = own_told true own' go
    where
      go : (i : Item) → Told x d i → After true own' i
      go i (a_port dir n w s c) = absurd (omega arith)
      go i (a_wire n e s c) = absurd (omega arith)
      go i (a_reg n s c) = λ p text st header k o h. f text n s d p o h bound header names
      go i (a_mem n s c) = absurd (omega arith)
      go i (a_const n e c) = absurd (omega arith)
      go i (a_drive lv e c) = absurd (omega arith)
      go i (an_on s ss c) = absurd (omega arith)

  pub own_mem : get_or x 1 0 ≡ 109 → (own' : List ℕ) → MemLine x own own' → OwnLine true x base bound d kinds names own own'
  own_mem b own' f = own_told true own' go
    where
      go : (i : Item) → Told x d i → After true own' i
      go i (a_port dir n w s c) = absurd (omega arith)
      go i (a_wire n e s c) = absurd (omega arith)
      go i (a_reg n s c) = absurd (omega arith)
      go i (a_mem n s c) = λ p text st header k o h. f text n s d p o h bound header names
      go i (a_const n e c) = absurd (omega arith)
      go i (a_drive lv e c) = absurd (omega arith)
      go i (an_on s ss c) = absurd (omega arith)

  -- a `wire` or a `const` line
  pub own_other : (get_or x 1 0 ≡ 100 → ⊥) → (get_or x 1 0 ≡ 111 → ⊥) → (get_or x 1 0 ≡ 112 → ⊥) → (get_or x 1 0 ≡ 114 → ⊥) → (get_or x 1 0 ≡ 109 → ⊥)
      → OwnLine true x base bound d kinds names own own
  unfolding line_constants
  own_other b₁ b₂ b₃ b₄ b₅ = own_told true own go
    where
      go : (i : Item) → Told x d i → After true own i
      go i (a_port dir n w s c) = absurd (b₃ c)
      go i (a_wire n e s c) = λ p text st header k o h. line_by text own o o bound header names (wire n e s) (wire_own bound header names o n e s) refl h
      go i (a_reg n s c) = absurd (b₄ c)
      go i (a_mem n s c) = absurd (b₅ c)
      go i (a_const n e c) = λ p text st header k o h. line_by text own o o bound header names (const n e) (const_own bound header names o n e) refl h
      go i (a_drive lv e c) = absurd (b₁ c)
      go i (an_on s ss c) = absurd (b₂ c)

module _ (x : Bytes) (d : ℕ) (kinds : List ℕ) (names : Names) where
  -- no line but a drive has constants
  pub outside_none : (get_or x 1 0 ≡ 100 → ⊥) → OutsideIs false x d kinds names
  unfolding line_constants any_outside
  outside_none b i p t header w = go i (told x d i p t)
    where
      go : (i : Item) → Told x d i → false ≡ any_outside names (line_constants header i)
      go i (a_port dir n w s c) = refl
      go i (a_wire n e s c) = refl
      go i (a_reg n s c) = refl
      go i (a_mem n s c) = refl
      go i (a_const n e c) = refl
      go i (a_drive lv e c) = absurd (b c)
      go i (an_on s ss c) = refl

  pub outside_drive : get_or x 1 0 ≡ 100 → (r : Bool)
      → ((lv : LValue) (e : Expr) → ShowsItem x d (drive lv e) → (header : List Header) → KindsOf kinds header → r ≡ any_outside names (line_constants header (drive lv e)))
      → OutsideIs r x d kinds names
  outside_drive b r f i p t header w = go i (told x d i p t) p
    where
      go : (i : Item) → Told x d i → ShowsItem x d i → r ≡ any_outside names (line_constants header i)
      go i (a_port dir n w s c) = absurd (omega arith)
      go i (a_wire n e s c) = absurd (omega arith)
      go i (a_reg n s c) = absurd (omega arith)
      go i (a_mem n s c) = absurd (omega arith)
      go i (a_const n e c) = absurd (omega arith)
      go i (a_drive lv e c) = λ p. f lv e p header w
      go i (an_on s ss c) = absurd (omega arith)

  -- on what shows a plain line, `drive_outside` says whether a constant of it is outside INT
  pub outside_means : OutsideIs (drive_outside x d kinds names) x d kinds names
  outside_means = go (eqb (get_or x 1 0) 100) refl
    where
      go : (t : Bool) → eqb (get_or x 1 0) 100 ≡ t → OutsideIs (drive_outside x d kinds names) x d kinds names
      go false t =
          let f = eqb-false (get_or x 1 0) 100 t in
          subst (λ (z : Bool). OutsideIs z x d kinds names) (no_drive x d kinds names f) (outside_none f)
      go true t = let b = eqb-true (get_or x 1 0) 100 t in outside_drive b (drive_outside x d kinds names) (drive_means x d kinds names b)
