-- Samples. 0 reads 1 and 2, 1 reads 2, 2 reads nothing: its net rests at 11, 6, 5, and three rounds of any kind reach that.
-- 3 reads 1 and 2, 2 reads 3: the search reports the closed walk 3 2 3.
-- Assumes nothing.
use Prim.Native.Nat.{ℕ, zero, suc, ◌+◌, ◌<◌}
use native.Mathlib.Decide.{ℕ_discrete}
use native.Mathlib.Omega.{arith}
use mathlib.Core.Path.{◌≡◌, refl, sym, ◌∙◌}
use mathlib.Core.Bool.{Bool, true, false}
use mathlib.Core.Logic.{◌⊎◌, inl, inr}
use mathlib.Core.List.Memᴰ
use mathlib.Core.List.{List, [], ◌∷◌, map}
use Rattle.spec.specs.Graph.{Graph, ◌∈◌, Once, ClosedWalk, Closed}
use Rattle.spec.specs.Net.{Net, Round, State, Rests, rounds}
use Rattle.spec.specs.DepthFirst.{backwards, in_turn, among, step, search}
use Rattle.spec.specs.DepthFirstFinds.{Goes, InOrder, StandsBefore, final_step, final_steps, remove_if, cut}
use Rattle.spec.proofs.Rank.{falling_no_loop}
use Rattle.spec.proofs.Net.{comes_to_rest}
use Rattle.spec.proofs.Firsts.{stands_one_way}

abbrev wires : ℕ → List ℕ
wires zero = 1 ∷ 2 ∷ []
wires (suc zero) = 2 ∷ []
wires (suc (suc n)) = []

wires_listed : (s r : ℕ) → s ∈ (0 ∷ 1 ∷ 2 ∷ []) → r ∈ wires s → r ∈ (0 ∷ 1 ∷ 2 ∷ [])
wires_listed zero r i m = Memᴰ.tail m
wires_listed (suc zero) r i m = Memᴰ.tail (Memᴰ.tail m)
wires_listed (suc (suc n)) r i m = absurd (Memᴰ.not-nil m)

three_once : Once {A = ℕ} (0 ∷ 1 ∷ 2 ∷ [])
three_once = (λ m. pair_not 0 1 2 (omega arith) (omega arith) m, (λ m. one_not 1 2 (omega arith) m, (λ m. Memᴰ.not-nil m, tt)))
  where
    one_not : (a b : ℕ) → a < b → a ∈ (b ∷ []) → ⊥
    one_not a b h (Memᴰ.head e) = omega arith
    one_not a b h (Memᴰ.tail m) = Memᴰ.not-nil m

    pair_not : (a b c : ℕ) → a < b → a < c → a ∈ (b ∷ c ∷ []) → ⊥
    pair_not a b c h k (Memᴰ.head e) = omega arith
    pair_not a b c h k (Memᴰ.tail m) = one_not a c k m

abbrev sample : Graph
sample = record { Signal = ℕ; same = ℕ_discrete; signals = 0 ∷ 1 ∷ 2 ∷ []; once = three_once; reads = wires; closed = wires_listed }

-- 2, 1, 0 is a rank
abbrev wire_rank : ℕ → ℕ
wire_rank zero = 2
wire_rank (suc zero) = 1
wire_rank (suc (suc n)) = 0

sample_falls : (s r : ℕ) → s ∈ (0 ∷ 1 ∷ 2 ∷ []) → r ∈ wires s → wire_rank r < wire_rank s
sample_falls zero r i (Memᴰ.head e) = rw e (omega arith)
sample_falls zero r i (Memᴰ.tail (Memᴰ.head e)) = rw e (omega arith)
sample_falls zero r i (Memᴰ.tail (Memᴰ.tail m)) = absurd (Memᴰ.not-nil m)
sample_falls (suc zero) r i (Memᴰ.head e) = rw e (omega arith)
sample_falls (suc zero) r i (Memᴰ.tail m) = absurd (Memᴰ.not-nil m)
sample_falls (suc (suc n)) r i m = absurd (Memᴰ.not-nil m)

sample_no_loop : ¬ Closed sample
sample_no_loop = falling_no_loop sample wire_rank sample_falls

-- 0 adds what it reads, 1 adds 1 to what it reads, 2 is the constant 5
abbrev sum : (s : ℕ) → ((r : ℕ) → r ∈ wires s → ℕ) → ℕ
sum zero x = x 1 (Memᴰ.head refl) + x 2 (Memᴰ.tail (Memᴰ.head refl))
sum (suc zero) x = suc (x 2 (Memᴰ.head refl))
sum (suc (suc n)) x = 5

abbrev adder : Net sample
adder = record { Value = λ s. ℕ; new = sum }

abbrev rest_value : ℕ → ℕ
rest_value zero = 11
rest_value (suc zero) = 6
rest_value (suc (suc n)) = 5

adder_rests : Rests adder (λ s i. rest_value s)
adder_rests zero i = refl
adder_rests (suc zero) i = refl
adder_rests (suc (suc n)) i = refl

after_three : (x : State adder) (a b c : Round sample) → rounds adder (a ∷ b ∷ c ∷ []) x 0 (Memᴰ.head refl) ≡ 11
after_three x a b c =
    let e = (comes_to_rest sample sample_no_loop adder).1 in
    e.reached x (a ∷ b ∷ c ∷ []) 3 (omega arith) (omega arith) 0 (Memᴰ.head refl)
    ∙ sym (e.only (λ s i. rest_value s) adder_rests 0 (Memᴰ.head refl))

abbrev same_number : ℕ → ℕ → Bool
same_number zero zero = true
same_number zero (suc b) = false
same_number (suc a) zero = false
same_number (suc a) (suc b) = same_number a b

abbrev looped : ℕ → List ℕ
looped zero = []
looped (suc zero) = []
looped (suc (suc zero)) = 3 ∷ []
looped (suc (suc (suc n))) = 1 ∷ 2 ∷ []

loop_found : search same_number looped 4 (3 ∷ 2 ∷ []) ≡ record { left = 3 ∷ 1 ∷ 2 ∷ []; reports = (3 ∷ 2 ∷ 3 ∷ []) ∷ [] }
unfolding search in_turn step
loop_found = refl

-- fuel must be above the number of nodes: of one node that reads itself, fuel 1 sees nothing and fuel 2 the loop
abbrev itself : ℕ → List ℕ
itself n = n ∷ []

too_little : (search same_number itself 1 (5 ∷ [])).reports ≡ []
unfolding search in_turn step
too_little = refl

just_enough : (search same_number itself 2 (5 ∷ [])).reports ≡ (5 ∷ 5 ∷ []) ∷ []
unfolding search in_turn step
just_enough = refl

-- next nodes are taken last first: 1 leads to 2, 2 to 3, and 3 to 1 and 2, both open, so that the step to 2 is reported first
abbrev back_to_both : ℕ → List ℕ
back_to_both zero = []
back_to_both (suc zero) = 2 ∷ []
back_to_both (suc (suc zero)) = 3 ∷ []
back_to_both (suc (suc (suc n))) = 1 ∷ 2 ∷ []

last_first : (search same_number back_to_both 4 (1 ∷ [])).reports ≡ (2 ∷ 3 ∷ 2 ∷ []) ∷ (1 ∷ 2 ∷ 3 ∷ 1 ∷ []) ∷ []
unfolding search in_turn step
last_first = refl

-- taken first to last, the same reports would stand the other way round, and not in the order of the ways
first_to_last : (search same_number (λ n. backwards (back_to_both n)) 4 (1 ∷ [])).reports ≡ (1 ∷ 2 ∷ 3 ∷ 1 ∷ []) ∷ (2 ∷ 3 ∷ 2 ∷ []) ∷ []
unfolding search in_turn step backwards
first_to_last = refl

not_first_to_last : ¬ InOrder (λ a b. (u v w : ℕ) → Goes a u v → Goes b u w → (v ≡ w) ⊎ StandsBefore (back_to_both u) w v) ((1 ∷ 2 ∷ 3 ∷ 1 ∷ []) ∷ (2 ∷ 3 ∷ 2 ∷ []) ∷ [])
not_first_to_last h = go (h.0 (2 ∷ 3 ∷ 2 ∷ []) (Memᴰ.head refl) 3 1 2 (inr (inr (inl (refl, refl)))) (inr (inl (refl, refl))))
  where
    go : ◌≡◌ {A = ℕ} 1 2 ⊎ StandsBefore {A = ℕ} (1 ∷ 2 ∷ []) 2 1 → ⊥
    go (inl e) = omega arith
    go (inr s) = stands_one_way (1 ∷ 2 ∷ []) 2 1 (λ i. apart (Memᴰ.eq_of_singleton i), (λ i. Memᴰ.not-nil i, tt)) s (record { front = []; back = 2 ∷ []; parted = refl; behind = Memᴰ.head refl })
      where
        apart : ◌≡◌ {A = ℕ} 1 2 → ⊥
        apart e = omega arith

-- three loops that share steps (docs/CUTS.md): 1 reads 2 and 4, 2 reads 3, 3 reads 1, 2 and 4, 4 reads 2
abbrev shared : ℕ → List ℕ
shared zero = []
shared (suc zero) = 2 ∷ 4 ∷ []
shared (suc (suc zero)) = 3 ∷ []
shared (suc (suc (suc zero))) = 1 ∷ 2 ∷ 4 ∷ []
shared (suc (suc (suc (suc n)))) = 2 ∷ []

three_found : search same_number shared 5 (1 ∷ 2 ∷ 3 ∷ 4 ∷ []) ≡ record { left = 1 ∷ 4 ∷ 2 ∷ 3 ∷ []; reports = (4 ∷ 2 ∷ 3 ∷ 4 ∷ []) ∷ (2 ∷ 3 ∷ 2 ∷ []) ∷ (1 ∷ 4 ∷ 2 ∷ 3 ∷ 1 ∷ []) ∷ [] }
unfolding search in_turn step
three_found = refl

three_finals : final_steps {A = ℕ} ((4 ∷ 2 ∷ 3 ∷ 4 ∷ []) ∷ (2 ∷ 3 ∷ 2 ∷ []) ∷ (1 ∷ 4 ∷ 2 ∷ 3 ∷ 1 ∷ []) ∷ []) ≡ (3, 4) ∷ (3, 2) ∷ (3, 1) ∷ []
unfolding final_steps final_step
three_finals = refl

-- without them 1 leads to 2 and 4, 2 to 3, 3 nowhere, 4 to 2
three_cut : map (cut same_number ((3, 4) ∷ (3, 2) ∷ (3, 1) ∷ []) shared) (1 ∷ 2 ∷ 3 ∷ 4 ∷ []) ≡ (2 ∷ 4 ∷ []) ∷ (3 ∷ []) ∷ [] ∷ (2 ∷ []) ∷ []
unfolding remove_if among
three_cut = refl

-- cut at 4 to 2, 3 to 2 and 1 to 4, two of which are not final, each report is broken and a loop is left that is not reported
cut_elsewhere : ClosedWalk (cut same_number ((4, 2) ∷ (3, 2) ∷ (1, 4) ∷ []) shared) (1 ∷ 2 ∷ 3 ∷ 1 ∷ [])
unfolding remove_if among
cut_elsewhere = ((Memᴰ.head refl, (Memᴰ.head refl, (Memᴰ.head refl, tt))), refl)
