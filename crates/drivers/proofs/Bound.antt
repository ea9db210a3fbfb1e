-- How many loops a search reports at most: one for each root, and for each node one more than it has next nodes. Assumes nothing.
use mathlib.Core.Path.{◌≡◌, refl, ◌∙◌}
use mathlib.Core.Bool.{Bool, true, false}
use mathlib.Core.List.Memᴰ
use mathlib.Core.List.{List, [], ◌∷◌}
use Prim.Native.Nat.{ℕ, zero, suc, ◌+◌, ◌*◌, ◌≤◌}
use native.Mathlib.Omega.{arith}
use lib.ListN.{length, length-append}
use Rattle.spec.specs.Graph.{◌∈◌, Once}
use Rattle.spec.specs.DepthFirst.{Searched, backwards, in_turn, among, back_to, step, search}
use Rattle.spec.specs.Edge.{Node, same_node, Head, all_nodes}
use Rattle.spec.specs.FindCycles.{next_nodes, roots, find_cycles}
use Rattle.spec.proofs.Lists.{once_length}
use Rattle.spec.proofs.DepthFirst.{reached_in, search_finds}
use Rattle.spec.proofs.Nodes.{same_node_yes, same_node_refl, headed_all, roots_headed, roots_rising, rising_once, read_all, next_read, next_once}
use Rattle.graph.specs.Table.{count}
use Rattle.graph.specs.Stands.{nodes, Stands}
use Rattle.graph.proofs.Stands.{length_below}

backwards_length : {A : Type 0} (l : List A) → length (backwards l) ≡ length l
unfolding backwards
backwards_length [] = refl
backwards_length (a ∷ l) = length-append (backwards l) (a ∷ []) ∙ omega (arith, backwards_length l)

-- one more for each than it has next nodes
unfoldable cost : {A : Type 0} → (A → List A) → List A → ℕ
cost next [] = 0
cost next (a ∷ l) = suc (length (next a)) + cost next l

cost_few : {A : Type 0} (next : A → List A) (l : List A) → ((a : A) → a ∈ l → length (next a) ≤ 512) → cost next l ≤ length l * 513
unfolding cost
cost_few next [] f = omega arith
cost_few next (a ∷ l) f = let h = f a (Memᴰ.head refl) in let i = cost_few next l (λ b j. f b (Memᴰ.tail j)) in omega arith

-- what a step, or several, adds to the reports is paid by what it adds to the nodes left
module _ {A : Type 0} (same : A → A → Bool) (next : A → List A) where
  abbrev Paid : ℕ → Searched A → Searched A → Type 0
  Paid k st st' = length st'.reports + cost next st.left ≤ k + length st.reports + cost next st'.left

  turn_paid : (visit : A → Searched A → Searched A) → ((n : A) (st : Searched A) → Paid 1 st (visit n st)) → (l : List A) (st : Searched A) → Paid (length l) st (in_turn visit l st)
  unfolding in_turn
  turn_paid visit f [] st = omega arith
  turn_paid visit f (n ∷ l) st = omega (arith, f n st, turn_paid visit f l (visit n st))

  step_paid : (fuel : ℕ) (path : List A) (n : A) (st : Searched A) → Paid 1 st (step same next fuel path n st)
  unfolding step cost
  step_paid zero path n st = omega arith
  step_paid (suc fuel) path n st =
      go (among same n path) refl (among same n st.left) refl (turn_paid (step same next fuel (n ∷ path)) (λ m s. step_paid fuel (n ∷ path) m s) (backwards (next n)) st)
    where
      go : (b : Bool) → among same n path ≡ b → (c : Bool) → among same n st.left ≡ c
          → Paid (length (backwards (next n))) st (in_turn (step same next fuel (n ∷ path)) (backwards (next n)) st) → Paid 1 st (step same next (suc fuel) path n st)
      go true e c f h = rw (e, step) (omega (arith, length-append st.reports (back_to same n path (n ∷ []) ∷ [])))
      go false e true f h = rw (e, f, step) (omega arith)
      go false e false f h = rw (e, f, step) (omega (arith, backwards_length (next n)))

  search_paid : (fuel : ℕ) (rs : List A) → length (search same next fuel rs).reports ≤ length rs + cost next (search same next fuel rs).left
  unfolding search cost
  search_paid fuel rs = omega (arith, turn_paid (step same next fuel []) (step_paid fuel []) rs (record { left = []; reports = [] }))

module _ {g : List ℕ} (hs : List Head) (H : Stands g hs) where
  listed : (l : List Node) → Once l → ((n : Node) → n ∈ l → n ∈ all_nodes hs) → length l ≤ 512
  listed l o f = omega (arith, once_length l (nodes g) o (λ n i. H.all n (f n i)), length_below g (count g), H.few)

  mul_few : (x : ℕ) → x ≤ 512 → x * 513 ≤ 262656
  mul_few x h = omega arith

  roots_in : (r : Node) → r ∈ roots hs → r ∈ all_nodes hs
  roots_in r i = headed_all hs ((roots_headed hs).0 i)

  next_in : (a b : Node) → a ∈ all_nodes hs → b ∈ next_nodes hs a → b ∈ all_nodes hs
  next_in a b i j = read_all hs a (next_read hs a j)

  -- of a graph that stands in its slice
  pub few_cycles : length (find_cycles hs) ≤ 263168
  unfolding find_cycles
  few_cycles =
      let fuel = suc (length (all_nodes hs)) in
      let left = (search same_node (next_nodes hs) fuel (roots hs)).left in
      let found = search_finds same_node (next_nodes hs) same_node_yes same_node_refl (roots hs) (all_nodes hs) roots_in next_in fuel (omega arith) in
      let a = listed (roots hs) (rising_once hs (roots hs) (roots_rising hs)) roots_in in
      let b = listed left found.once (λ n i. reached_in same_node (next_nodes hs) same_node_yes same_node_refl (roots hs) (all_nodes hs) roots_in next_in n ((found.all n).0 i)) in
      let c = cost_few (next_nodes hs) left (λ n i. listed (next_nodes hs n) (next_once hs n) (λ m j. read_all hs n (next_read hs n j))) in
      let d = mul_few (length left) b in
      omega (arith, search_paid same_node (next_nodes hs) fuel (roots hs))
