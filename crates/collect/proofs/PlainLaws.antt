-- A collected line that holds no items and asks for no summary: one law for each way of `line_heads` and `plain_line`.
-- Assumes nothing.
use mathlib.Core.Path.{◌≡◌, refl, sym, ◌∙◌, ap, subst}
use mathlib.Core.Bool.{Bool, true, false, ◌||◌, false≢true}
use mathlib.Core.List.{List, [], ◌++◌, append-nil}
use Prim.Native.Nat.{ℕ}
use native.Mathlib.Omega.{arith}
use lib.ListN.{get_or}
use Rattle.spec.specs.Bytes.{Bytes, show_form}
use Rattle.spec.specs.Syntax.{Item, port, wire, reg, mem, const, drive, on, inst, repeat, const_if, Header}
use Rattle.spec.specs.Show.{show_item}
use Rattle.spec.specs.Value.{Value, Names}
use Rattle.spec.specs.Site.{line_constants, any_outside}
use Rattle.spec.specs.Edge.{Head, Summary, no_heads, line_heads}
use Rattle.graph.specs.Stands.{Stands}
use Rattle.graph.proofs.Stands.{stands_within}
use Rattle.edges.specs.Reads.{KindsOf, HeadAll}
use Rattle.edges.specs.Lines.{WireHeads, DriveHeads, InstHeads}
use Rattle.runs.specs.Run.{ShowsItem}
use Rattle.steps.specs.Steps.{plain}
use Rattle.items.specs.Held.{OwnAfter}
use Rattle.items.specs.Lines.{OwnLine, drive_outside, OutsideIs}
use Rattle.items.proofs.LineLaws.{outside_means}
use Rattle.walk.specs.Walk.{full, going, unless, Own, own_line, over_own, own_step, line_step}
use Rattle.collect.specs.Cycle.{Mode, mode, walking_of, OwnIs, state_of, PlainEnds}
use Rattle.collect.specs.Plain.{LineHeads, PlainLine}
use Rattle.collect.proofs.Turns.{step_outside, plain_own_over, plain_step, plain_over}

-- ---- `line_heads`, by the first byte of the line's word

byte_of : {x : Bytes} {d : ℕ} (i : Item) → ShowsItem x d i → get_or x 1 0 ≡ get_or (show_item i) 1 0
byte_of i p = ap (λ (z : Bytes). get_or z 1 0) p.shown

module _ (x : Bytes) (d : ℕ) (ks : List ℕ) (names : Names) (g : List ℕ) where
  abbrev HeadsOf : Bool → List ℕ → Item → Type 0
  HeadsOf r g' i = ShowsItem x d i → plain i ≡ true → (header : List Header) → KindsOf ks header → (hs : List Head) → Stands g hs → HeadAll r g' hs (line_heads header names [] i)

  pub heads_wire : get_or x 1 0 ≡ 119 → (r : Bool) (g' : List ℕ) → WireHeads r x d ks names g g' → LineHeads r x d ks names g g'
  unfolding show_item show_form
  heads_wire b r g' f = go
    where
      go : (i : Item) → HeadsOf r g' i
      go (port dir n w s) p t = let c : get_or x 1 0 ≡ 112 = byte_of (port dir n w s) p in absurd (omega arith)
      go (wire n e s) p t = f n e s p
      go (reg n s) p t = let c : get_or x 1 0 ≡ 114 = byte_of (reg n s) p in absurd (omega arith)
      go (mem n s) p t = let c : get_or x 1 0 ≡ 109 = byte_of (mem n s) p in absurd (omega arith)
      go (const n e) p t = let c : get_or x 1 0 ≡ 99 = byte_of (const n e) p in absurd (omega arith)
      go (drive lv e) p t = let c : get_or x 1 0 ≡ 100 = byte_of (drive lv e) p in absurd (omega arith)
      go (on s ss) p t = let c : get_or x 1 0 ≡ 111 = byte_of (on s ss) p in absurd (omega arith)
      go (inst i) p t = absurd (false≢true t)
      go (repeat n l h is) p t = absurd (false≢true t)
      go (const_if c is js) p t = absurd (false≢true t)

  pub heads_drive : get_or x 1 0 ≡ 100 → (r : Bool) (g' : List ℕ) → DriveHeads r x d ks names g g' → LineHeads r x d ks names g g'
  unfolding show_item show_form
  heads_drive b r g' f = go
    where
      go : (i : Item) → HeadsOf r g' i
      go (port dir n w s) p t = let c : get_or x 1 0 ≡ 112 = byte_of (port dir n w s) p in absurd (omega arith)
      go (wire n e s) p t = let c : get_or x 1 0 ≡ 119 = byte_of (wire n e s) p in absurd (omega arith)
      go (reg n s) p t = let c : get_or x 1 0 ≡ 114 = byte_of (reg n s) p in absurd (omega arith)
      go (mem n s) p t = let c : get_or x 1 0 ≡ 109 = byte_of (mem n s) p in absurd (omega arith)
      go (const n e) p t = let c : get_or x 1 0 ≡ 99 = byte_of (const n e) p in absurd (omega arith)
      go (drive lv e) p t = f lv e p
      go (on s ss) p t = let c : get_or x 1 0 ≡ 111 = byte_of (on s ss) p in absurd (omega arith)
      go (inst i) p t = absurd (false≢true t)
      go (repeat n l h is) p t = absurd (false≢true t)
      go (const_if c is js) p t = absurd (false≢true t)

  -- a line that heads nothing
  none_headed : (hs : List Head) → Stands g hs → HeadAll true g hs no_heads
  none_headed hs s = (subst (Stands g) (sym (append-nil hs)) s, refl)

  pub heads_other : (get_or x 1 0 ≡ 119 → ⊥) → (get_or x 1 0 ≡ 100 → ⊥) → LineHeads true x d ks names g g
  unfolding show_item show_form line_heads
  heads_other a b = go
    where
      go : (i : Item) → HeadsOf true g i
      go (port dir n w s) p t = λ header k hs st. none_headed hs st
      go (wire n e s) p t = absurd (a (byte_of (wire n e s) p))
      go (reg n s) p t = λ header k hs st. none_headed hs st
      go (mem n s) p t = λ header k hs st. none_headed hs st
      go (const n e) p t = λ header k hs st. none_headed hs st
      go (drive lv e) p t = absurd (b (byte_of (drive lv e) p))
      go (on s ss) p t = λ header k hs st. none_headed hs st
      go (inst i) p t = absurd (false≢true t)
      go (repeat n l h is) p t = absurd (false≢true t)
      go (const_if c is js) p t = absurd (false≢true t)

  -- what a call said that was tested
  pub heads_said : (b c : Bool) (g' : List ℕ) → b ≡ c → LineHeads b x d ks names g g' → LineHeads c x d ks names g g'
  heads_said b c g' e f = subst (λ (y : Bool). LineHeads y x d ks names g g') e f

  pub outputs_said : (v : Value) (s : Summary) (b c : Bool) (g' : List ℕ) → b ≡ c → InstHeads b v s x d ks names g g' → InstHeads c v s x d ks names g g'
  outputs_said v s b c g' e f = subst (λ (y : Bool). InstHeads y v s x d ks names g g') e f

-- ---- `plain_line`

own_goes : (bound : Bool) (header : List Header) (names : Names) (i : Item) (o : Own) → over_own (own_line bound header names i o) ≡ false
    → own_step true bound header names i o ≡ going (own_line bound header names i o)
unfolding own_step
own_goes bound header names i o e = ap (λ (b : Bool). unless b (own_line bound header names i o)) e

own_stops : (bound : Bool) (header : List Header) (names : Names) (i : Item) (o : Own) → over_own (own_line bound header names i o) ≡ true
    → own_step true bound header names i o ≡ full
unfolding own_step
own_stops bound header names i o e = ap (λ (b : Bool). unless b (own_line bound header names i o)) e

own_none : (bound : Bool) (header : List Header) (names : Names) (i : Item) (o : Own) → own_step false bound header names i o ≡ going o
unfolding own_step
own_none bound header names i o = refl

-- the heads of the line, behind its entries
module _ (mo : Mode) (text own g : List ℕ) (header : List Header) (names : Names) (i : Item) (o o' : Own) (hs : List Head)
    (is_plain : plain i ≡ true) (inside : any_outside names (line_constants header i) ≡ false)
    (entered : own_step mo.own mo.bound header names i o ≡ going o') (held : OwnIs mo.own text own o') where
  headed : (r : Bool) → HeadAll r g hs (line_heads header names [] i) → PlainEnds r mo text own g header names i o hs
  headed true h = (
    o',
    hs ++ (line_heads header names [] i).heads,
    λ ask kept. plain_step ask (walking_of mo header) names i (state_of o hs kept) is_plain inside o' entered
        (rw (h.1, stands_within (hs ++ (line_heads header names [] i).heads) h.0) refl),
    held,
    h.0,
  )
  headed false h = λ ask kept. plain_over ask (walking_of mo header) names i (state_of o hs kept) is_plain inside o' entered h

module _ (x : Bytes) (from d : ℕ) (ks : List ℕ) (checking bound : Bool) (names : Names) (own g : List ℕ) where
  -- in a module's own check
  module _ (own_check : checking ≡ true) where
    pub own_refused : (r : Bool) (own' : List ℕ) → r ≡ false → OwnLine r x from bound d ks names own own' → PlainLine false x from d ks checking bound names own g own' g
    own_refused r own' e f = subst (λ (b : Bool). PlainLine false x from d ks b bound names own g own' g) (sym own_check) refused
      where
        refused : PlainLine false x from d ks true bound names own g own' g
        refused text i p t st header k o h hs s ask kept =
            go (any_outside names (line_constants header i)) refl
            (subst (λ (b : Bool). OwnAfter b text own' bound header names i o) e (f text i p t st header k o h.0))
          where
            go : (b : Bool) → any_outside names (line_constants header i) ≡ b → any_outside names (line_constants header i) || over_own (own_line bound header names i o) ≡ true
                → line_step ask (walking_of (mode true bound) header) names i (state_of o hs kept) ≡ full
            go true q e = step_outside ask (walking_of (mode true bound) header) names i (state_of o hs kept) q
            go false q e =
                plain_own_over ask (walking_of (mode true bound) header) names i (state_of o hs kept) t q
                (own_stops bound header names i o (sym (ap (λ (b : Bool). b || over_own (own_line bound header names i o)) q) ∙ e))

    pub own_headed : (r : Bool) (own' : List ℕ) → r ≡ true → OwnLine r x from bound d ks names own own' → (q : Bool) (g' : List ℕ) → LineHeads q x d ks names g g'
        → PlainLine q x from d ks checking bound names own g own' g'
    own_headed r own' e f q g' l = subst (λ (b : Bool). PlainLine q x from d ks b bound names own g own' g') (sym own_check) entered
      where
        entered : PlainLine q x from d ks true bound names own g own' g'
        entered text i p t st header k o h hs s =
            let a = subst (λ (b : Bool). OwnAfter b text own' bound header names i o) e (f text i p t st header k o h.0) in
            headed (mode true bound) text own' g' header names i o (own_line bound header names i o) hs t a.0 (own_goes bound header names i o a.2) (a.1, a.2) q
            (l i p t header k hs s)

  -- in a summary's walk
  module _ (summary : checking ≡ false) where
    told : (r : Bool) → r ≡ drive_outside x d ks names → OutsideIs r x d ks names
    told r q i p t header k = q ∙ outside_means x d ks names i p t header k

    pub outside_refused : (r : Bool) → r ≡ true → r ≡ drive_outside x d ks names → PlainLine false x from d ks checking bound names own g own g
    outside_refused r e f = subst (λ (b : Bool). PlainLine false x from d ks b bound names own g own g) (sym summary)
        (λ text i p t st header k o h hs s ask kept. step_outside ask (walking_of (mode false bound) header) names i (state_of o hs kept) (sym (told r f i p t header k) ∙ e))

    pub outside_headed : (r : Bool) → r ≡ false → r ≡ drive_outside x d ks names → (q : Bool) (g' : List ℕ) → LineHeads q x d ks names g g'
        → PlainLine q x from d ks checking bound names own g own g'
    outside_headed r e f q g' l = subst (λ (b : Bool). PlainLine q x from d ks b bound names own g own g') (sym summary)
        (λ text i p t st header k o h hs s.
        headed (mode false bound) text own g' header names i o o hs t (sym (told r f i p t header k) ∙ e) (own_none bound header names i o) h q (l i p t header k hs s))
