-- What `?` hands on. Assumes nothing.
use mathlib.Core.Path.{sym}
use mathlib.Core.Bool.{true≢false}
use Rattle.std.specs.Prelude.{Result, Ok, Err, IsErr}

-- what holds of each error holds of the one handed on
pub handed_on : {T E : Type 0} (P : Result T E → Type 0) → ((e : E) → P (Err e)) → (r : Result T E) → IsErr r → P r
handed_on P f (Ok x) h = absurd (true≢false (sym h))
handed_on P f (Err e) h = f e
