-- The words of a node against the specification's nodes. Assumes nothing.
use mathlib.Core.Path.{◌≡◌, refl, sym, ◌∙◌, ap}
use mathlib.Core.Bool.{Bool, true, false, true≢false}
use mathlib.Core.Logic.{◌⊎◌, inl, inr}
use mathlib.Core.Option.{some, none}
use Prim.Native.Nat.{ℕ, ◌-◌, ◌<◌, ◌≤◌}
use native.Mathlib.Omega.{arith}
use lib.Dec.{eqb, ltb}
use lib.IntN.{pos, negsuc}
use borrow.Author.Tests.{lt-ltb, le-ltb, eq-eqb, ne_eqb, eqb-true, eqb-false, ltb-true, ltb-false}
use Rattle.spec.specs.Value.{int_eq, int_lt}
use Rattle.spec.specs.Edge.{Node, signal, inst_out, same_node}
use Rattle.spec.proofs.Nodes.{same_node_refl}
use Rattle.graph.specs.Table.{unbiased, node_words}

-- two tests are the same where each follows from the other
pub same_test : (a b : Bool) → (a ≡ true → b ≡ true) → (b ≡ true → a ≡ true) → a ≡ b
same_test true b f g = sym (f refl)
same_test false true f g = g refl
same_test false false f g = refl

pub same_no : (m n : Node) → same_node m n ≡ false → ¬ (m ≡ n)
same_no m n e d = true≢false (sym (same_node_refl m) ∙ ap (same_node m) d ∙ e)

-- held above its value, an INT is the same and is before another as the numbers are
low : (x : ℕ) → x < 2147483648 → unbiased x ≡ negsuc (2147483647 - x)
low x h = rw (lt-ltb x 2147483648 h, unbiased)

high : (x : ℕ) → 2147483648 ≤ x → unbiased x ≡ pos (x - 2147483648)
high x h = rw (le-ltb x 2147483648 h, unbiased)

side : (x : ℕ) → (x < 2147483648) ⊎ (2147483648 ≤ x)
side x = go (ltb x 2147483648) refl
  where
    go : (v : Bool) → ltb x 2147483648 ≡ v → (x < 2147483648) ⊎ (2147483648 ≤ x)
    go true e = inl (ltb-true x 2147483648 e)
    go false e = inr (ltb-false x 2147483648 e)

pub unbiased_eq : (x y : ℕ) → int_eq (unbiased x) (unbiased y) ≡ eqb x y
unbiased_eq x y = go (side x) (side y)
  where
    go : (x < 2147483648) ⊎ (2147483648 ≤ x) → (y < 2147483648) ⊎ (2147483648 ≤ y) → int_eq (unbiased x) (unbiased y) ≡ eqb x y
    go (inl a) (inl b) = ap (λ z. int_eq z (unbiased y)) (low x a) ∙ ap (int_eq (negsuc (2147483647 - x))) (low y b)
        ∙ same_test (eqb (2147483647 - x) (2147483647 - y)) (eqb x y) (λ h. let z = eqb-true (2147483647 - x) (2147483647 - y) h in eq-eqb x y (omega arith)) (λ h. let z = eqb-true x y h in eq-eqb (2147483647 - x) (2147483647 - y) (omega arith))
    go (inl a) (inr b) = ap (λ z. int_eq z (unbiased y)) (low x a) ∙ ap (int_eq (negsuc (2147483647 - x))) (high y b) ∙ sym (ne_eqb x y (λ z. omega arith))
    go (inr a) (inl b) = ap (λ z. int_eq z (unbiased y)) (high x a) ∙ ap (int_eq (pos (x - 2147483648))) (low y b) ∙ sym (ne_eqb x y (λ z. omega arith))
    go (inr a) (inr b) = ap (λ z. int_eq z (unbiased y)) (high x a) ∙ ap (int_eq (pos (x - 2147483648))) (high y b)
        ∙ same_test (eqb (x - 2147483648) (y - 2147483648)) (eqb x y) (λ h. let z = eqb-true (x - 2147483648) (y - 2147483648) h in eq-eqb x y (omega arith)) (λ h. let z = eqb-true x y h in eq-eqb (x - 2147483648) (y - 2147483648) (omega arith))

pub unbiased_lt : (x y : ℕ) → int_lt (unbiased x) (unbiased y) ≡ ltb x y
unbiased_lt x y = go (side x) (side y)
  where
    go : (x < 2147483648) ⊎ (2147483648 ≤ x) → (y < 2147483648) ⊎ (2147483648 ≤ y) → int_lt (unbiased x) (unbiased y) ≡ ltb x y
    go (inl a) (inl b) = ap (λ z. int_lt z (unbiased y)) (low x a) ∙ ap (int_lt (negsuc (2147483647 - x))) (low y b)
        ∙ same_test (ltb (2147483647 - y) (2147483647 - x)) (ltb x y) (λ h. let z = ltb-true (2147483647 - y) (2147483647 - x) h in lt-ltb x y (omega arith)) (λ h. let z = ltb-true x y h in lt-ltb (2147483647 - y) (2147483647 - x) (omega arith))
    go (inl a) (inr b) = ap (λ z. int_lt z (unbiased y)) (low x a) ∙ ap (int_lt (negsuc (2147483647 - x))) (high y b) ∙ sym (lt-ltb x y (omega arith))
    go (inr a) (inl b) = ap (λ z. int_lt z (unbiased y)) (high x a) ∙ ap (int_lt (pos (x - 2147483648))) (low y b) ∙ sym (le-ltb x y (omega arith))
    go (inr a) (inr b) = ap (λ z. int_lt z (unbiased y)) (high x a) ∙ ap (int_lt (pos (x - 2147483648))) (high y b)
        ∙ same_test (ltb (x - 2147483648) (y - 2147483648)) (ltb x y) (λ h. let z = ltb-true (x - 2147483648) (y - 2147483648) h in lt-ltb x y (omega arith)) (λ h. let z = ltb-true x y h in lt-ltb (x - 2147483648) (y - 2147483648) (omega arith))

-- the node that four words say, by the kind
module _ (k n x o : ℕ) where
  pub words_signal : k ≡ 0 → node_words k n x o ≡ signal n
  words_signal h = rw (eq-eqb k 0 h, node_words)

  pub words_output : k ≡ 1 → node_words k n x o ≡ inst_out n none o
  words_output h = rw h

  pub words_indexed : 2 ≤ k → node_words k n x o ≡ inst_out n (some (unbiased x)) o
  words_indexed h = rw (ne_eqb k 0 (λ e. omega arith), node_words) (rw (ne_eqb k 1 (λ e. omega arith)))

  pub kinds_of : (k ≡ 0) ⊎ ((k ≡ 1) ⊎ (2 ≤ k))
  kinds_of = go (eqb k 0) (eqb k 1) refl refl
    where
      go : (v w : Bool) → eqb k 0 ≡ v → eqb k 1 ≡ w → (k ≡ 0) ⊎ ((k ≡ 1) ⊎ (2 ≤ k))
      go true w e f = inl (eqb-true k 0 e)
      go false true e f = inr (inl (eqb-true k 1 f))
      go false false e f = let d = eqb-false k 0 e in let c = eqb-false k 1 f in inr (inr (above k d c))
        where
          above : (m : ℕ) → ¬ (m ≡ 0) → ¬ (m ≡ 1) → 2 ≤ m
          above m d c = omega arith

-- whether the node that four words say is a signal
module _ (k n x o : ℕ) where
  words_same : {w : Node} (m : Node) → node_words k n x o ≡ w → same_node w m ≡ same_node (node_words k n x o) m
  words_same m e = ap (λ z. same_node z m) (sym e)

  pub signal_not : (a : ℕ) → ¬ (k ≡ 0) → false ≡ same_node (node_words k n x o) (signal a)
  signal_not a h = go (kinds_of k n x o)
    where
      go : (k ≡ 0) ⊎ ((k ≡ 1) ⊎ (2 ≤ k)) → false ≡ same_node (node_words k n x o) (signal a)
      go (inl e) = absurd (h e)
      go (inr (inl e)) = words_same (signal a) (words_output k n x o e)
      go (inr (inr e)) = words_same (signal a) (words_indexed k n x o e)

  pub signal_same : (a : ℕ) → k ≡ 0 → eqb n a ≡ same_node (node_words k n x o) (signal a)
  signal_same a h = words_same (signal a) (words_signal k n x o h)
