-- All reports of a module, group by group, from the words that hold its tables. Assumes nothing.
use mathlib.Core.Path.{◌≡◌, sym, ap, ◌∙◌, subst}
use mathlib.Core.Bool.{Bool}
use mathlib.Core.List.{List, ◌++◌}
use Prim.Native.Nat.{ℕ}
use lib.ListN.{length}
use Rattle.spec.specs.Bytes.{Bytes}
use Rattle.spec.specs.Value.{Names}
use Rattle.spec.specs.Site.{Site, Output, Misused, Conflict, misused_names, conflicts, conflict_names}
use Rattle.spec.specs.Block.{Pair, Storage}
use Rattle.spec.specs.Edge.{Head}
use Rattle.spec.specs.FindCycles.{find_cycles}
use Rattle.spec.specs.Report.{Report}
use Rattle.spec.specs.Check.{misuse_reports, conflict_reports, output_reports, widths_out, reg_report, mem_report, storage_reports, loop_reports}
use Rattle.sites.specs.Own as table
use Rattle.sites.specs.Own.{Port, places, own_of, misuse_poison, with_conflicts, poisoned_names}
use Rattle.sites.proofs.Reports.{conflicts_after}
use Rattle.walk.specs.Walk.{Own, poison, own_reports}
use Rattle.items.specs.Held.{Ports, Held}
use Rattle.drivers.specs.declared.emit.Place.{Place}
use Rattle.consteval.specs.declared.Outside.{Outside}
use Rattle.std.specs.Prelude.{Result, Ok, Err, IsErr}
use Rattle.drivers.proofs.Handed.{handed_on}
use Rattle.drivers.specs.Emits.{Emits}
use Rattle.drivers.specs.Groups.{Reported}
use Rattle.drivers.proofs.EmitLaws.{emit_then, appended_within}
use Rattle.drivers.proofs.GroupLaws.{emits_same}

-- the words hold the same tables after the conflicts are found
module _ (text : Bytes) (own own' : List ℕ) (size : length own' ≡ length own)
    (found : length own ≡ places → own_of own' ≡ with_conflicts (conflicts (misuse_poison own) (own_of own).sites (own_of own).sites) (own_of own)) where
  pub held_found : (o : Own) → Held text own o → Held text own' o
  held_found o h =
      let e = found h.sized in
      record {
        sized = size ∙ h.sized;
        sites = ap (λ (t : table.Own). t.sites) e ∙ h.sites;
        pairs = ap (λ (t : table.Own). t.pairs) e ∙ h.pairs;
        outputs = subst (λ (l : List Port). Ports text l o.outputs) (sym (ap (λ (t : table.Own). t.outputs) e)) h.outputs;
        regs = ap (λ (t : table.Own). t.regs) e ∙ h.regs;
        mems = ap (λ (t : table.Own). t.mems) e ∙ h.mems;
        misuses = ap (λ (t : table.Own). t.misuses) e ∙ h.misuses;
        few_outputs = h.few_outputs;
        few_regs = h.few_regs;
        few_mems = h.few_mems;
        few_misuses = h.few_misuses;
      }

  -- the conflicts in their table, and the names that are poisoned then
  module _ (o : Own) (h : Held text own o) where
    pub conflicts_found : (own_of own').conflicts ≡ conflicts (misused_names o.misuses) o.sites o.sites
    conflicts_found =
        conflicts_after own own' (found h.sized) ∙ ap (λ (l : List Misused). conflicts (misused_names l) (own_of own).sites (own_of own).sites) h.misuses
        ∙ ap (λ (l : List Site). conflicts (misused_names o.misuses) l l) h.sites

    pub poison_found : poisoned_names (own_of own') ≡ poison o
    unfolding poisoned_names poison
    poison_found =
        ap (λ (l : List Conflict). conflict_names l ++ misused_names (own_of own').misuses) conflicts_found
        ∙ ap (λ (l : List Misused). conflict_names (conflicts (misused_names o.misuses) o.sites o.sites) ++ misused_names l) (held_found o h).misuses

-- each group, of the tables that are held
abbrev misuses_said : ℕ → Own → List Report
misuses_said m o = misuse_reports m o.misuses

abbrev conflicts_said : ℕ → Own → List Report
conflicts_said m o = conflict_reports m (conflicts (misused_names o.misuses) o.sites o.sites)

abbrev outputs_said : ℕ → Names → Own → List Report
outputs_said m ns o = output_reports m ns (poison o) o.sites o.outputs

abbrev regs_said : ℕ → Own → List Report
regs_said m o = storage_reports (reg_report m) (poison o) o.pairs o.regs

abbrev mems_said : ℕ → Own → List Report
mems_said m o = storage_reports (mem_report m) (poison o) o.pairs o.mems

abbrev some_out : Names → Own → Bool
some_out ns o = widths_out ns (poison o) o.sites o.outputs

module _ {text : Bytes} {own : List ℕ} (o : Own) (H : Held text own o) (K : (own_of own).conflicts ≡ conflicts (misused_names o.misuses) o.sites o.sites)
    (P : poisoned_names (own_of own) ≡ poison o) (m : ℕ) (ns : Names) (hs : List Head) {write : Bool} where
  -- before the outputs
  module _ {old b₁ b₂ : Bytes} {p p₁ p₂ : Place} (r : Result Place Outside) (b₃ : Bytes) (a₁ : length own ≡ places → Emits write old p (misuse_reports m (own_of own).misuses) b₁ p₁)
      (a₂ : length own ≡ places → Emits write b₁ p₁ (conflict_reports m (own_of own).conflicts) b₂ p₂)
      (a₃ : length own ≡ places → (os : List Output) → Ports text (own_of own).outputs os
      → Reported r write b₂ p₂ (widths_out ns (poisoned_names (own_of own)) (own_of own).sites os) (output_reports m ns (poisoned_names (own_of own)) (own_of own).sites os) b₃) where
    front : Emits write old p (misuses_said m o ++ conflicts_said m o) b₂ p₂
    front =
        emit_then (misuses_said m o) (conflicts_said m o) (emits_same (ap (misuse_reports m) (sym H.misuses)) (a₁ H.sized))
        (emits_same (ap (conflict_reports m) (sym K)) (a₂ H.sized))

    outputs_here : Reported r write b₂ p₂ (some_out ns o) (outputs_said m ns o) b₃
    outputs_here =
        subst (λ (l : List ℕ). Reported r write b₂ p₂ (widths_out ns l o.sites o.outputs) (output_reports m ns l o.sites o.outputs) b₃) P
        (subst (λ (l : List Site). Reported r write b₂ p₂ (widths_out ns (poisoned_names (own_of own)) l o.outputs) (output_reports m ns (poisoned_names (own_of own)) l o.outputs) b₃)
        H.sites (a₃ H.sized o.outputs H.outputs))

    pub module_outside : {x : Outside} → r ≡ Err x → (r' : Result Place Outside) → IsErr r' → Reported r' write old p (some_out ns o) (own_reports m ns o hs) b₃
    module_outside {x} e =
        let b : Reported (Err x) write b₂ p₂ (some_out ns o) (outputs_said m ns o) b₃ = subst (λ (z : Result Place Outside). Reported z write b₂ p₂ (some_out ns o) (outputs_said m ns o) b₃) e outputs_here in
        handed_on (λ z. Reported z write old p (some_out ns o) (own_reports m ns o hs) b₃) (λ _. (b.0, λ w f. let d = front w in b.1 (appended_within d) f ∙ d.kept f))

    pub module_done : {b₄ b₅ b₆ : Bytes} {p₃ p₄ p₅ p₆ : Place} → r ≡ Ok p₃
        → (length own ≡ places → Emits write b₃ p₃ (storage_reports (reg_report m) (poisoned_names (own_of own)) (own_of own).pairs (own_of own).regs) b₄ p₄)
        → (length own ≡ places → Emits write b₄ p₄ (storage_reports (mem_report m) (poisoned_names (own_of own)) (own_of own).pairs (own_of own).mems) b₅ p₅)
        → Emits write b₅ p₅ (loop_reports m hs (find_cycles hs)) b₆ p₆
        → Reported (Ok p₆) write old p (some_out ns o) (own_reports m ns o hs) b₆
    unfolding own_reports
    module_done {b₄} {b₅} {b₆} {p₃} {p₄} {p₅} {p₆} e a₄ a₅ a₆ =
        let b : Reported (Ok p₃) write b₂ p₂ (some_out ns o) (outputs_said m ns o) b₃ = subst (λ (z : Result Place Outside). Reported z write b₂ p₂ (some_out ns o) (outputs_said m ns o) b₃) e outputs_here in
        let c₄ : Emits write b₃ p₃ (regs_said m o) b₄ p₄ = emits_same (storage_here (reg_report m) H.regs) (a₄ H.sized) in
        let c₅ : Emits write b₄ p₄ (mems_said m o) b₅ p₅ = emits_same (storage_here (mem_report m) H.mems) (a₅ H.sized) in
        (b.0, emit_then _ _ (emit_then _ _ (emit_then _ _ (emit_then _ _ front b.1) c₄) c₅) a₆)
      where
        storage_here : (f : Storage → ℕ → List Report) {l l' : List Storage} → l ≡ l'
            → storage_reports f (poison o) o.pairs l' ≡ storage_reports f (poisoned_names (own_of own)) (own_of own).pairs l
        storage_here f {l} {l'} e =
            ap (storage_reports f (poison o) o.pairs) (sym e) ∙ ap (λ (ps : List Pair). storage_reports f (poison o) ps l) (sym H.pairs)
            ∙ ap (λ (ns : List ℕ). storage_reports f ns (own_of own).pairs l) (sym P)
