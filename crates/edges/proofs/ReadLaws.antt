-- Reading one thing behind the other, and heading one node behind the other.
-- Assumes nothing.
use mathlib.Core.Path.{◌≡◌, refl}
use mathlib.Core.Bool.{Bool, true, false, ◌||◌, or-true}
use mathlib.Core.Logic.{◌⊎◌, inl, inr}
use mathlib.Core.List.{List, [], ◌∷◌, ◌++◌, append-nil, append_assoc}
use Prim.Native.Nat.{ℕ}
use Rattle.std.specs.Prelude.{Result, Ok, Err}
use Rattle.spec.specs.Edge.{Node, Reads, no_reads, and_reads, Head, Heads, no_heads, one_head, over_graph}
use Rattle.spec.proofs.Nodes.{or_parts}
use Rattle.graph.specs.Stands.{full, Stands, Heading, head_of, Headed, Read}
use Rattle.graph.specs.declared.Full.{Full}
use Rattle.graph.proofs.Limits.{over_behind, over_reads}
use Rattle.edges.specs.Reads.{ReadAll, HeadAll}

-- ---- one thing behind the other

either : (a b : Bool) {C : Type 0} → a || b ≡ true → (a ≡ true → C) → (b ≡ true → C) → C
either a b {C} e f g = go (or_parts a b e)
  where
    go : (a ≡ true) ⊎ (b ≡ true) → C
    go (inl x) = f x
    go (inr x) = g x

true_left : (a b : Bool) → a ≡ true → a || b ≡ true
true_left a b e = rw e

true_right : (a b : Bool) → b ≡ true → a || b ≡ true
true_right a b e = rw e (or-true a)

module _ (hs : List Head) (n : Node) (start i : ℕ) where
  -- nothing is read
  pub read_none : (g : List ℕ) (rs : List Node) → Heading g hs n start rs i → ReadAll true g hs n start rs i no_reads
  read_none g rs h = (rw (append-nil rs) h, refl)

  -- one node is read
  pub read_one : (a : Result ℕ Full) (b : Bool) (g : List ℕ) (rs : List Node) (m : Node) → Read a g hs n start rs i m → ((j : ℕ) → a ≡ Ok j → b ≡ true) → (a ≡ full → b ≡ false)
      → ReadAll b g hs n start rs i (record { nodes = m ∷ []; out = false })
  read_one (Ok j) b g rs m r p q = rw (p j refl) (r, refl)
  read_one (Err e) b g rs m r p q = rw (q refl) r

  -- an index is outside INT
  pub read_out : (g : List ℕ) (rs : List Node) → ReadAll false g hs n start rs i (record { nodes = []; out = true })
  read_out g rs = refl

  module _ (rs : List Node) (p q : Reads) where
    -- what follows is read too
    pub read_then : (b : Bool) (g g' : List ℕ) → ReadAll true g hs n start rs i p → ReadAll b g' hs n start (rs ++ p.nodes) i q → ReadAll b g' hs n start rs i (and_reads p q)
    read_then true g g' x y = (rw (append_assoc rs p.nodes q.nodes) at y.0, rw (x.1, y.1))
    read_then false g g' x y = rw x.1 (rw (append_assoc rs p.nodes q.nodes) at y)

    -- it stops before that
    pub read_stops : (g : List ℕ) → ReadAll false g hs n start rs i p → ReadAll false g hs n start rs i (and_reads p q)
    read_stops g x =
        either p.out (over_graph (hs ++ head_of n start (rs ++ p.nodes) ∷ [])) x
        (λ e. true_left (p.out || q.out) _ (true_left p.out q.out e))
        (λ e. true_right (p.out || q.out) _ (rw (append_assoc rs p.nodes q.nodes) at (over_reads hs n start (rs ++ p.nodes) q.nodes e)))

-- ---- heads

module _ (hs : List Head) (n : Node) (start : ℕ) (q : Reads) where
  -- a line that heads one node, and reads
  pub head_one : (b : Bool) (g : List ℕ) (i : ℕ) → ReadAll b g hs n start [] i q → HeadAll b g hs (one_head n start q)
  head_one true g i r = (r.0.stands, r.1)
  head_one false g i r = r

  -- its node is one too many
  pub head_full : (g : List ℕ) → Headed full g hs n start → HeadAll false g hs (one_head n start q)
  head_full g e = true_right q.out _ (over_reads hs n start [] q.nodes e)

module _ (hs : List Head) where
  -- a line that heads nothing
  pub heads_none : (g : List ℕ) → Stands g hs → HeadAll true g hs no_heads
  heads_none g s = (rw (append-nil hs) s, refl)

  module _ (a c : Heads) where
    -- heads one behind the other
    pub heads_then : (b : Bool) (g g' : List ℕ) → HeadAll true g hs a → HeadAll b g' (hs ++ a.heads) c → HeadAll b g' hs (record { heads = a.heads ++ c.heads; out = a.out || c.out })
    heads_then true g g' x y = (rw (append_assoc hs a.heads c.heads) at y.0, rw (x.1, y.1))
    heads_then false g g' x y = rw x.1 (rw (append_assoc hs a.heads c.heads) at y)

    -- it stops before those behind
    pub heads_stop : (g : List ℕ) → HeadAll false g hs a → HeadAll false g hs (record { heads = a.heads ++ c.heads; out = a.out || c.out })
    heads_stop g x =
        either a.out (over_graph (hs ++ a.heads)) x
        (λ e. true_left (a.out || c.out) _ (true_left a.out c.out e))
        (λ e. true_right (a.out || c.out) _ (rw (append_assoc hs a.heads c.heads) at (over_behind (hs ++ a.heads) c.heads e)))
