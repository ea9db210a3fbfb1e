-- A record is stored, or there is no room. Assumes nothing.
use mathlib.Core.Path.{◌≡◌, refl, ap}
use mathlib.Core.Bool.{Bool, true, false, not}
use mathlib.Core.List.{List, [], ◌∷◌}
use Prim.Native.Nat.{ℕ, zero, suc, ◌<◌, ◌≤◌}
use native.Mathlib.Nat.{not-suc-le-zero, le_of_suc-le-suc}
use lib.Dec.{T, ltb}
use Rattle.std.proofs.lemmas.Bool.{lt-ltb, le-ltb}
use lib.ListN.{length, set}
use Rattle.sites.specs.Stored as stored
use Rattle.sites.specs.Run.{StoredBy}

pub done : (t : Bool) → T t → StoredBy t stored.Done
done true _ = (refl, refl)
done false z = absurd z

pub full : (t : Bool) → T (not t) → StoredBy t stored.Full
full true z = absurd z
full false _ = (refl, refl)

-- past the end nothing changes
pub set_past : {A : Type 0} (l : List A) (i : ℕ) (a : A) → length l ≤ i → l ≡ set l i a
set_past [] i a h = refl
set_past (x ∷ xs) zero a h = absurd (not-suc-le-zero h)
set_past {A} (x ∷ xs) (suc i) a h = ap {B = List A} (λ r. x ∷ r) (set_past xs i a (le_of_suc-le-suc h))

pub done_below : (i n : ℕ) → i < n → StoredBy (ltb i n) stored.Done
done_below i n h = let e : ltb i n ≡ true = lt-ltb i n h in rw e (refl, refl)

pub full_past : (i n : ℕ) → n ≤ i → StoredBy (ltb i n) stored.Full
full_past i n h = let e : ltb i n ≡ false = le-ltb i n h in rw e (refl, refl)
