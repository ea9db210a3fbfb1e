-- The hierarchy of a design is well formed: instance lines stand at rising positions, their modules exist, in-kind names are listed.
-- Assumes nothing.
use Prim.Native.Nat.{ℕ, zero, suc, ◌≤◌, ◌<◌}
use mathlib.Core.Path.{◌≡◌, refl, sym, ◌∙◌, ap, subst⁻¹}
use mathlib.Core.Bool.{Bool, true, false}
use mathlib.Core.List.Memᴰ
use mathlib.Core.List.{List, [], ◌∷◌}
use mathlib.Core.Option.{Option, some, none-ne-some, some-injective}
use native.Mathlib.Omega.{arith}
use lib.ListN.{length, get_elem?}
use lib.Dec.{eqb}
use borrow.Author.Tests.{eqb-true, eq-eqb, ne_eqb}
use Rattle.spec.specs.Syntax.{Kind, in_kind, Inst, Header, kind, val, Design}
use Rattle.spec.specs.Value.{Names}
use Rattle.spec.specs.Collect.{Collected}
use Rattle.spec.specs.Site.{kind_of}
use Rattle.spec.specs.Edge.{inst_of}
use Rattle.spec.specs.Summary.{is_input}
use Rattle.spec.specs.Graph.{◌∈◌}
use Rattle.spec.specs.Hierarchy.{Instance, instance_at, WellFormed}
use Rattle.spec.specs.DesignHierarchy.{lines_of, header_of, instances_from, module_opened, instances, input_names, hierarchy}
use Rattle.spec.proofs.HeadLaws.{option_case, instance_line, there_module}

-- positions rise from k on
module _ {Key : Type 0} where
  abbrev Rising : ℕ → List (Instance Key) → Type 0
  Rising k [] = Unit {0}
  Rising k (i ∷ is) = (k ≤ i.position) × Rising (suc i.position) is

  later_rising : (j k : ℕ) (is : List (Instance Key)) → j ≤ k → Rising k is → Rising j is
  later_rising j k [] h r = tt
  later_rising j k (i ∷ is) h r = (omega (arith, r.0), r.1)

  rising_above : (k : ℕ) (is : List (Instance Key)) → Rising k is → (i : Instance Key) → i ∈ is → k ≤ i.position
  rising_above k [] r i x'' = elim x'' [ ]
  rising_above k (i' ∷ is) r i (Memᴰ.head e) = subst⁻¹ (λ z. k ≤ z.position) e r.0
  rising_above k (i' ∷ is) r i (Memᴰ.tail m) = let s = rising_above (suc i'.position) is r.1 i m in omega (arith, r.0, s)

  -- so each instance is the one at its position
  rising_at : (k : ℕ) (is : List (Instance Key)) → Rising k is → (i : Instance Key) → i ∈ is → instance_at i.position is ≡ some i
  unfolding instance_at
  rising_at k [] r i x'' = elim x'' [ ]
  rising_at k (i' ∷ is) r i (Memᴰ.head e) = rw (eq-eqb i'.position i.position (ap (λ z. z.position) (sym e)), instance_at) (ap {B = Option (Instance Key)} some (sym e))
  rising_at k (i' ∷ is) r i (Memᴰ.tail m) =
      let h = rising_above (suc i'.position) is r.1 i m in
      rw (ne_eqb i'.position i.position (λ e. omega (arith, h)), instance_at) (rising_at (suc i'.position) is r.1 i m)

  -- instance lines stand at rising positions, whatever they open
  instances_rising : (opens : Inst → Names → Option Key) (hs : List Header) (k : ℕ) (cs : List Collected) → Rising k (instances_from opens hs k cs)
  unfolding instances_from
  instances_rising opens hs k [] = tt
  instances_rising opens hs k (c ∷ cs) =
      let r = instances_rising opens hs (suc k) cs in
      let past = later_rising k (suc k) (instances_from opens hs (suc k) cs) (omega arith) r in
      option_case (λ z. Rising k z) (inst_of c.item) _ _ (λ e. past)
      (λ i e. option_case (λ z. Rising k z) (opens i c.names) _ _ (λ f. past) (λ t f. (omega arith, r)))

  pub instances_placed : (opens : Inst → Names → Option Key) (hs : List Header) (cs : List Collected) (i : Instance Key) → i ∈ instances_from opens hs 0 cs → instance_at i.position (instances_from opens hs 0 cs) ≡ some i
  instances_placed opens hs cs i h = rising_at 0 (instances_from opens hs 0 cs) (instances_rising opens hs 0 cs) i h

get_elem_below : {A : Type 0} (l : List A) (n : ℕ) (a : A) → get_elem? l n ≡ some a → n < length l
get_elem_below [] n a e = absurd (none-ne-some a e)
get_elem_below (b ∷ l) zero a e = omega arith
get_elem_below (b ∷ l) (suc n) a e = let h = get_elem_below l n a e in omega arith

in_inputs : (hs : List Header) (q : ℕ) → kind_of hs q ≡ some in_kind → q ∈ input_names hs
unfolding kind_of input_names
in_inputs [] q e = absurd (none-ne-some in_kind e)
in_inputs (val n z ∷ hs) q e = in_inputs hs q e
in_inputs (kind n k ∷ hs) q e = pick (in_inputs hs q) (eqb n q) refl e
  where
    further : q ∈ input_names hs → (b : Bool) → q ∈ (elim b as (λ z. List ℕ) [ true ↦ n ∷ input_names hs | false ↦ input_names hs ])
    further m true = Memᴰ.tail m
    further m false = m

    pick : (kind_of hs q ≡ some in_kind → q ∈ input_names hs) → (b : Bool) → eqb n q ≡ b → elim b as (λ z. Option Kind) [ true ↦ some k | false ↦ kind_of hs q ] ≡ some in_kind
        → q ∈ (elim (is_input (some k)) as (λ z. List ℕ) [ true ↦ n ∷ input_names hs | false ↦ input_names hs ])
    pick on true u f = subst⁻¹ (λ z. q ∈ (elim (is_input (some z)) as (λ z. List ℕ) [ true ↦ n ∷ input_names hs | false ↦ input_names hs ])) (some-injective k in_kind f) (Memᴰ.head (sym (eqb-true n q u)))
    pick on false u f = further (on f) (is_input (some k))

pub design_well_formed : (d : Design) → WellFormed (hierarchy d)
unfolding instances
design_well_formed d = record {
  placed = λ m i h. instances_placed (module_opened d) (header_of d m) (lines_of d m) i h;
  below = λ m i h.
      let (c, a, n, t, x, e, g, f, q) = instance_line (module_opened d) (header_of d m) 0 (lines_of d m) i h in
      let r = there_module d a c.names t g in
      get_elem_below d i.target r.1.0 (ap (get_elem? d) (ap (λ z. z.target) f ∙ r.0) ∙ r.1.1);
  listed = λ m n e. in_inputs (header_of d m) n e;
}
