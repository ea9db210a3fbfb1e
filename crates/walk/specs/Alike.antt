-- Summaries that lead to the same edges: the code may find the inputs that an output reaches in another order than the definition.
-- 01: The edge.
-- To a reader: definitions that the contracts of summary, collect and drivers cite; that alike summaries give the same edges is proved in proofs/Alike.
use Rattle.std.specs.Prelude.{◌≡◌, true, false, List, [], ◌∷◌, ℕ, length}
use Rattle.spec.specs.Edge.{Summary, reaches, has_output}

-- 01, The edge: the outputs of a summary, each at its last pair
unfoldable pub out_list : Summary → List ℕ
out_list [] = []
out_list (p ∷ s) = elim (has_output p.0 s) [ true ↦ out_list s | false ↦ p.0 ∷ out_list s ]

-- 01, The edge: the same pairs, as many, with their outputs in the same order
pub record Alike (t s : Summary) : Type 0 where
  pub reach : (o i : ℕ) → reaches o i t ≡ reaches o i s
  pub outs : out_list t ≡ out_list s
  pub size : length t ≡ length s
