-- A text for each premise of demand 3 that breaks it alone, and texts within them.
-- Assumes nothing.
use mathlib.Core.Path.{◌≡◌, refl, sym, ◌∙◌, ap, subst, subst⁻¹}
use mathlib.Core.Bool.{Bool, true, false, ◌&&◌, true≢false}
use mathlib.Core.List.Memᴰ
use mathlib.Core.List.{List, [], ◌∷◌, ◌++◌}
use mathlib.Core.Option.{Option, some, none}
use Prim.Native.Nat.{ℕ, zero, suc, ◌<◌}
use native.Mathlib.Omega.{arith}
use lib.ListN.{length}
use Rattle.spec.specs.Bytes.{Bytes}
use Rattle.spec.specs.Syntax.{Kind, in_kind, out_kind, reg_kind, name, Item, port, wire, reg, mem, const, drive, on, inst, repeat, const_if, Header, Design}
use Rattle.spec.specs.Refusal.{lines, decode}
use Rattle.spec.specs.Site.{kind_of}
use Rattle.spec.specs.DepthFirst.{among}
use Rattle.spec.specs.Edge.{Node, signal, inst_out, place_value}
use Rattle.spec.specs.Summary.{is_input}
use Rattle.spec.specs.Check.{check_design, too_short, answer_checked, check_drivers}
use Rattle.spec.specs.Printing.{report_text}
use Rattle.spec.specs.Cases.{text_of, accepted, Answers}
use Rattle.spec.specs.Graph.{◌∈◌, Once, Chain, last, ClosedWalk}
use Rattle.spec.specs.Hierarchy.{Instance, instance_at, instance_targets, ReadAt, by_line, by_connection, From, Acyclic, Unheaded, FixedUnheaded, NoInputPort, OutputsArePorts}
use Rattle.spec.specs.Opened.{Signal, here, under, connections_to, named, output_reads, input_reads, opened_reads, signal_reads, HasClosedWalk, same_copy, same_signal, concat_map, key_of, input_nodes, connected_nodes, Fixed}
use Rattle.spec.specs.DesignHierarchy.{lines_of, header_of, connections_of, instances_from, module_opened, instances, lines_own_heads, own_heads, top_outputs_of, out_names, hierarchy, instanced, Premises}
use Rattle.spec.specs.LoopsAndRest.{OpenedRests}
use Rattle.spec.specs.Premises.{NotWired, Premise, acyclic, fixed_unheaded, no_input_port, outputs_are_ports, Meets, BreaksOnly, LoopUnseen, Endless, inside_itself, wired_input, no_port, wired_register, input_port, EachPremise, beside_itself, OthersDoNotMatter, quiet_instance, looped_instance, WithinPremises}
use Rattle.spec.proofs.Cases.{outcome, answers}
use Rattle.spec.proofs.Lists.{once_length, in_concat, among_yes}
use Rattle.spec.proofs.HeadLaws.{in_first}
use Rattle.spec.proofs.Nodes.{and_parts}
use Rattle.spec.proofs.Listed.{signal_yes, signal_refl}
use Rattle.spec.proofs.Copies.{At, leads_here, under_reads}
use Rattle.spec.proofs.LoopsAndRest.{acyclic_exactly, headed_by_wires, these_are_all, rest}

-- Designs of a module or two.

-- every member has P
abbrev All : {A : Type 0} → (A → Type 0) → List A → Type 0
All P [] = Unit {0}
All P (a ∷ l) = P a × All P l

all_in : {A : Type 0} (P : A → Type 0) (l : List A) (a : A) → All P l → a ∈ l → P a
all_in P [] a h i = absurd (Memᴰ.not-nil i)
all_in P (b ∷ l) a h (Memᴰ.head e) = subst⁻¹ P e h.0
all_in P (b ∷ l) a h (Memᴰ.tail i) = all_in P l a h.1 i

-- an item is no wire line for a name of kind k
abbrev Unwired : Kind → List Header → Item → Type 0
Unwired k hs (wire n e start) = ¬ (kind_of hs n ≡ some k)
Unwired k hs (port d n w start) = Unit {0}
Unwired k hs (reg n start) = Unit {0}
Unwired k hs (mem n start) = Unit {0}
Unwired k hs (const n e) = Unit {0}
Unwired k hs (drive lv e) = Unit {0}
Unwired k hs (on start ss) = Unit {0}
Unwired k hs (inst i) = Unit {0}
Unwired k hs (repeat n l h is) = Unit {0}
Unwired k hs (const_if c is js) = Unit {0}

wireless : (k : Kind) (d : Design) (m : ℕ) → All (λ c. Unwired k (header_of d m) c.item) (lines_of d m) → NotWired k d m
wireless k d m h c i n start e f = subst (Unwired k (header_of d m)) f (all_in (λ c. Unwired k (header_of d m) c.item) (lines_of d m) c h i)

inputs_unheaded : (d : Design) (m : ℕ) → All (λ c. Unwired in_kind (header_of d m) c.item) (lines_of d m) → Unheaded (hierarchy d) in_kind m
inputs_unheaded d m h = (headed_by_wires d m).0.0 (wireless in_kind d m h)

registers_unheaded : (d : Design) (m : ℕ) → All (λ c. Unwired reg_kind (header_of d m) c.item) (lines_of d m) → Unheaded (hierarchy d) reg_kind m
registers_unheaded d m h = (headed_by_wires d m).1.0 (wireless reg_kind d m h)

lines_unheaded : (d : Design) (m : ℕ) → ((k : Kind) → All (λ c. Unwired k (header_of d m) c.item) (lines_of d m)) → FixedUnheaded (hierarchy d) m
lines_unheaded d m h = (inputs_unheaded d m (h in_kind), registers_unheaded d m (h reg_kind))

-- what is read in a module, listed
key_reads : Design → ℕ → List Node
key_reads d m = concat_map (λ h. h.reads) (own_heads d m) ++ connected_nodes (hierarchy d) m

read_in : (d : Design) (m : ℕ) (n : Node) → ReadAt (hierarchy d) m n → n ∈ key_reads d m
unfolding key_reads connected_nodes input_nodes
read_in d m n (by_line h i u) = Memᴰ.append_left (connected_nodes (hierarchy d) m) (in_concat (λ h. h.reads) (own_heads d m) i u)
read_in d m n (by_connection i c u v k w) =
    Memᴰ.append_right (concat_map (λ h. h.reads) (own_heads d m))
    (in_concat (λ i. concat_map (input_nodes (hierarchy d) i.target) i.connections) (instances d m) u (in_concat (input_nodes (hierarchy d) i.target) i.connections v (rw (k, input_nodes) w)))

-- a node that is read is no instance output, or a port of the instance's module
abbrev Port : Design → Instance ℕ → Node → Type 0
Port d i (signal n) = Unit {0}
Port d i (inst_out j x o) = o ∈ out_names d i.target

reads_ports : (d : Design) (m : ℕ) → All (λ i. All (Port d i) (key_reads d m)) (instances d m) → OutputsArePorts (hierarchy d) m
reads_ports d m h i o u r = all_in (Port d i) (key_reads d m) (inst_out i.name i.index o) (all_in (λ i. All (Port d i) (key_reads d m)) (instances d m) i h u) (read_in d m (inst_out i.name i.index o) r)

ports_apart : (d : Design) (m : ℕ) → All (λ o. ¬ (kind_of (header_of d m) o ≡ some in_kind)) (out_names d m) → NoInputPort (hierarchy d) m
ports_apart d m h o i = all_in (λ o. ¬ (kind_of (header_of d m) o ≡ some in_kind)) (out_names d m) o h i

-- where each module instances later ones only, none contains itself
module _ (next : ℕ → List ℕ) (later : (m : ℕ) → All (λ k. m < k) (next m)) where
  rises : (m k : ℕ) (l : List ℕ) → m < k → Chain next k l → m < last k l
  rises m k [] h c = h
  rises m k (j ∷ l) h c = rises m j l (let g = all_in (λ j. k < j) (next k) j (later k) c.0 in omega arith) c.1

  no_return : (l : List ℕ) → ¬ ClosedWalk next l
  no_return [] c = c
  no_return (m ∷ []) c = c
  no_return (m ∷ k ∷ l) ((h, c), e) = let g = rises m k l (all_in (λ j. m < j) (next m) k (later m) h) c in omega arith

later_acyclic : (d : Design) → ((m : ℕ) → All (λ k. m < k) (instanced d m)) → (m : ℕ) → Acyclic (hierarchy d) m
later_acyclic d later m = (acyclic_exactly d m).1 (λ t r w. no_return (instanced d) later (t ∷ w.0) w.1)

-- a module that lines lead back to
not_acyclic : (d : Design) (m : ℕ) (ms : List ℕ) → ClosedWalk (instanced d) (m ∷ ms) → ¬ Meets acyclic d
not_acyclic d m ms c h = (acyclic_exactly d m).0 (h m) m (leads_here (hierarchy d) m) (ms, c)

first_later : 0 < 1
first_later = omega arith

-- whether each next signal is read, and the first by the last
unfoldable leads_back : (Signal → List Signal) → Signal → Signal → List Signal → Bool
leads_back next first s [] = among same_signal first (next s)
leads_back next first s (t ∷ l) = among same_signal t (next s) && leads_back next first t l

abbrev Back : Design → ℕ → Signal → List Signal → Type 0
Back d m s l = leads_back (signal_reads (hierarchy d) m) s s l ≡ true

read_yes : (s : Signal) (l : List Signal) → among same_signal s l ≡ true → s ∈ l
read_yes = among_yes same_signal signal_yes signal_refl

module _ (next : Signal → List Signal) (first : Signal) where
  back_chain : (s : Signal) (l : List Signal) → leads_back next first s l ≡ true → Chain next s (l ++ first ∷ []) × (last s (l ++ first ∷ []) ≡ first)
  unfolding leads_back
  back_chain s [] e = ((read_yes first (next s) e, tt), refl)
  back_chain s (t ∷ l) e = let r = and_parts (among same_signal t (next s)) (leads_back next first t l) e in let c = back_chain t l r.1 in ((read_yes t (next s) r.0, c.0), c.1)

closed_back : (d : Design) (m : ℕ) (s : Signal) (l : List Signal) → Back d m s l → ClosedWalk (signal_reads (hierarchy d) m) (s ∷ l ++ s ∷ [])
closed_back d m s l e = go l (back_chain (signal_reads (hierarchy d) m) s s l e)
  where
    go : (l : List Signal) → Chain (signal_reads (hierarchy d) m) s (l ++ s ∷ []) × (last s (l ++ s ∷ []) ≡ s) → ClosedWalk (signal_reads (hierarchy d) m) (s ∷ l ++ s ∷ [])
    go [] c = c
    go (t ∷ l) c = c

has_walk : (d : Design) (m : ℕ) (s : Signal) (l : List Signal) → Back d m s l → HasClosedWalk (hierarchy d) m
has_walk d m s l e = (s ∷ l ++ s ∷ [], closed_back d m s l e)

-- where this unfolds, so does all that an opened design rests on
unfoldable opening : Design → ℕ → Signal → List Signal
unfolding outcome leads_back same_copy lines_of header_of connections_of instances_from module_opened instances instance_at lines_own_heads own_heads connections_to input_reads named output_reads opened_reads concat_map input_nodes connected_nodes key_reads instance_targets top_outputs_of out_names place_value
opening d m s = signal_reads (hierarchy d) m s

not_input : (o : Option Kind) → is_input o ≡ false → ¬ (o ≡ some in_kind)
not_input o e f = true≢false (sym (ap is_input f) ∙ e)

not_register : (o : Option Kind) → is_input o ≡ true → ¬ (o ≡ some reg_kind)
not_register o e f = true≢false (sym e ∙ ap is_input f)

-- nothing is reported, and signals lead back
unseen : (text : Bytes) → outcome text ≡ accepted 0 0 [] → (check_design (decode text)).reports ≡ [] → (m : ℕ) (s : Signal) (l : List Signal) → Back (decode text) m s l → LoopUnseen text
unseen text e f m s l h =
    record {
      silent = answers text (accepted 0 0 []) e;
      unreported = f;
      walk = (m, has_walk (decode text) m s l h);
    }

-- module 0 contains itself
abbrev inside : Design
inside = decode inside_itself

abbrev inside_instance : Instance ℕ
inside_instance =
    record {
      position = 2;
      name = 5;
      index = none;
      target = 0;
      connections = record { port = 1; nodes = signal 4 ∷ [] } ∷ record { port = 4; nodes = inst_out 5 none 2 ∷ [] } ∷ [];
    }

inside_lines : (k : Kind) (m : ℕ) → All (λ c. Unwired k (header_of inside m) c.item) (lines_of inside m)
unfolding opening
inside_lines k zero = (tt, (tt, (tt, tt)))
inside_lines k (suc m) = tt

inside_outputs : (m : ℕ) → All (λ o. ¬ (kind_of (header_of inside m) o ≡ some in_kind)) (out_names inside m)
unfolding opening
inside_outputs zero = (not_input (some out_kind) refl, tt)
inside_outputs (suc m) = tt

inside_reads : (m : ℕ) → All (λ i. All (Port inside i) (key_reads inside m)) (instances inside m)
unfolding opening
inside_reads zero = ((tt, (Memᴰ.head refl, (tt, (Memᴰ.head refl, tt)))), tt)
inside_reads (suc m) = tt

inside_loop : ClosedWalk (instanced inside) (0 ∷ 0 ∷ [])
unfolding opening
inside_loop = ((Memᴰ.head refl, tt), refl)

inside_breaks : BreaksOnly acyclic inside
inside_breaks = record { broken = not_acyclic inside 0 (0 ∷ []) inside_loop; others = others }
  where
    others : (q : Premise) → ¬ (q ≡ acyclic) → Meets q inside
    others acyclic h = absurd (h refl)
    others fixed_unheaded h = λ m. lines_unheaded inside m (λ k. inside_lines k m)
    others no_input_port h = λ m. ports_apart inside m (inside_outputs m)
    others outputs_are_ports h = λ m. reads_ports inside m (inside_reads m)

-- from output 2 of the copy to input 1 of the copy in it, and out by input 4
inside_unseen : LoopUnseen inside_itself
unfolding opening
inside_unseen =
    unseen inside_itself refl refl 0 ([], inst_out 5 none 2)
    ((2 ∷ [], signal 2) ∷ (2 ∷ [], inst_out 5 none 2) ∷ (2 ∷ 2 ∷ [], signal 2) ∷ (2 ∷ 2 ∷ [], signal 1) ∷ (2 ∷ [], signal 4) ∷ []) refl

-- copies of copies: output 2 of each reads output 2 of the next
inside_at : At (hierarchy inside) 0 2 inside_instance
unfolding opening
inside_at = refl

deep : ℕ → Node → Signal
deep zero n = ([], n)
deep (suc k) n = under 2 (deep k n)

deep_out : (k : ℕ) → deep k (inst_out 5 none 2) ∈ signal_reads (hierarchy inside) 0 (deep k (signal 2))
unfolding deep opening
deep_out zero = read_yes _ _ refl
deep_out (suc k) = under_reads (hierarchy inside) 0 2 inside_instance (deep k (signal 2)) (deep k (inst_out 5 none 2)) inside_at (deep_out k)

deep_next : (k : ℕ) → deep (suc k) (signal 2) ∈ signal_reads (hierarchy inside) 0 (deep k (inst_out 5 none 2))
unfolding deep opening
deep_next zero = read_yes _ _ refl
deep_next (suc k) = under_reads (hierarchy inside) 0 2 inside_instance (deep k (inst_out 5 none 2)) (deep (suc k) (signal 2)) inside_at (deep_next k)

deep_length : (k : ℕ) (n : Node) → length (deep k n).0 ≡ k
unfolding deep
deep_length zero n = refl
deep_length (suc k) n = ap suc (deep_length k n)

-- the first k of them
first_deep : ℕ → List Signal
first_deep zero = []
first_deep (suc k) = deep k (signal 2) ∷ first_deep k

first_length : (k : ℕ) → length (first_deep k) ≡ k
unfolding first_deep
first_length zero = refl
first_length (suc k) = ap suc (first_length k)

of_first : (k : ℕ) (s : Signal) → s ∈ first_deep k → (j : ℕ) × (j < k) × (s ≡ deep j (signal 2))
unfolding first_deep
of_first zero s i = absurd (Memᴰ.not-nil i)
of_first (suc k) s i = in_first (λ e. (k, omega arith, e)) (λ j. let r = of_first k s j in (r.0, omega (arith, r.1), r.2)) i

first_once : (k : ℕ) → Once (first_deep k)
unfolding first_deep
first_once zero = tt
first_once (suc k) = (λ i. let r = of_first k (deep k (signal 2)) i in let e = ap (λ (s : Signal). length s.0) r.2 in omega (arith, r.1, e, deep_length k (signal 2), deep_length r.0 (signal 2)), first_once k)

inside_endless : Endless inside 0 (here (signal 2))
unfolding deep
inside_endless signals l h =
    let r = once_length (first_deep (suc (length signals))) signals (first_once (suc (length signals)))
    (λ s i. let d = of_first (suc (length signals)) s i in Memᴰ.cast d.2 (listed d.0)) in
    omega (arith, r, first_length (suc (length signals)))
  where
    listed : (k : ℕ) → deep k (signal 2) ∈ signals
    listed zero = h
    listed (suc k) = l.closed _ _ (l.closed _ _ (listed k) (deep_out k)) (deep_next k)

-- a wire line heads input 1 of module 1
abbrev wired : Design
wired = decode wired_input

wired_later : (m : ℕ) → All (λ k. m < k) (instanced wired m)
unfolding opening
wired_later zero = (first_later, tt)
wired_later (suc zero) = tt
wired_later (suc (suc m)) = tt

wired_lines : (m : ℕ) → All (λ c. Unwired reg_kind (header_of wired m) c.item) (lines_of wired m)
unfolding opening
wired_lines zero = (tt, tt)
wired_lines (suc zero) = (tt, (not_register (some in_kind) refl, (tt, tt)))
wired_lines (suc (suc m)) = tt

wired_outputs : (m : ℕ) → All (λ o. ¬ (kind_of (header_of wired m) o ≡ some in_kind)) (out_names wired m)
unfolding opening
wired_outputs zero = tt
wired_outputs (suc zero) = (not_input (some out_kind) refl, tt)
wired_outputs (suc (suc m)) = tt

wired_reads : (m : ℕ) → All (λ i. All (Port wired i) (key_reads wired m)) (instances wired m)
unfolding opening
wired_reads zero = ((Memᴰ.head refl, tt), tt)
wired_reads (suc zero) = tt
wired_reads (suc (suc m)) = tt

wired_line : ¬ ((m : ℕ) → NotWired in_kind wired m)
unfolding opening
wired_line h = h 1 _ (Memᴰ.tail (Memᴰ.head refl)) 1 30 (name 2) refl refl

wired_breaks : BreaksOnly fixed_unheaded wired
wired_breaks = record { broken = λ h. wired_line (λ m. (headed_by_wires wired m).0.1 (h m).0); others = others }
  where
    others : (q : Premise) → ¬ (q ≡ fixed_unheaded) → Meets q wired
    others acyclic h = later_acyclic wired wired_later
    others fixed_unheaded h = absurd (h refl)
    others no_input_port h = λ m. ports_apart wired m (wired_outputs m)
    others outputs_are_ports h = λ m. reads_ports wired m (wired_reads m)

-- through input 1 to input 2
wired_unseen : LoopUnseen wired_input
unfolding opening
wired_unseen = unseen wired_input refl refl 0 ([], inst_out 5 none 3) ((0 ∷ [], signal 3) ∷ (0 ∷ [], signal 1) ∷ (0 ∷ [], signal 2) ∷ []) refl

-- 1 is read of an instance, and no port of its module
abbrev portless : Design
portless = decode no_port

portless_later : (m : ℕ) → All (λ k. m < k) (instanced portless m)
unfolding opening
portless_later zero = (first_later, tt)
portless_later (suc zero) = tt
portless_later (suc (suc m)) = tt

portless_lines : (k : Kind) (m : ℕ) → All (λ c. Unwired k (header_of portless m) c.item) (lines_of portless m)
unfolding opening
portless_lines k zero = (tt, tt)
portless_lines k (suc zero) = tt
portless_lines k (suc (suc m)) = tt

portless_outputs : (m : ℕ) → All (λ o. ¬ (kind_of (header_of portless m) o ≡ some in_kind)) (out_names portless m)
unfolding opening
portless_outputs zero = tt
portless_outputs (suc zero) = tt
portless_outputs (suc (suc m)) = tt

abbrev portless_instance : Instance ℕ
portless_instance = record { position = 0; name = 5; index = none; target = 1; connections = record { port = 1; nodes = inst_out 5 none 1 ∷ [] } ∷ [] }

portless_listed : instances portless 0 ≡ portless_instance ∷ []
unfolding opening
portless_listed = refl

portless_kind : kind_of (header_of portless 1) 1 ≡ some in_kind
unfolding opening
portless_kind = refl

portless_none : out_names portless 1 ≡ []
unfolding opening
portless_none = refl

portless_read : ¬ Meets outputs_are_ports portless
portless_read h =
    let u : portless_instance ∈ instances portless 0 = subst⁻¹ (λ l. portless_instance ∈ l) portless_listed (Memᴰ.head refl) in
    let r = h 0 portless_instance 1 u (by_connection portless_instance _ u (Memᴰ.head refl) portless_kind (Memᴰ.head refl)) in
    Memᴰ.not-nil (subst (λ l. 1 ∈ l) portless_none r)

portless_breaks : BreaksOnly outputs_are_ports portless
portless_breaks = record { broken = portless_read; others = others }
  where
    others : (q : Premise) → ¬ (q ≡ outputs_are_ports) → Meets q portless
    others acyclic h = later_acyclic portless portless_later
    others fixed_unheaded h = λ m. lines_unheaded portless m (λ k. portless_lines k m)
    others no_input_port h = λ m. ports_apart portless m (portless_outputs m)
    others outputs_are_ports h = absurd (h refl)

portless_unseen : LoopUnseen no_port
unfolding opening
portless_unseen = unseen no_port refl refl 0 ([], inst_out 5 none 1) ((0 ∷ [], signal 1) ∷ []) refl

-- a wire line heads register 4
abbrev moved : Design
moved = decode wired_register

moved_later : (m : ℕ) → All (λ k. m < k) (instanced moved m)
unfolding opening
moved_later zero = tt
moved_later (suc m) = tt

moved_lines : (m : ℕ) → All (λ c. Unwired in_kind (header_of moved m) c.item) (lines_of moved m)
unfolding opening
moved_lines zero = (not_input (some reg_kind) refl, tt)
moved_lines (suc m) = tt

moved_outputs : (m : ℕ) → All (λ o. ¬ (kind_of (header_of moved m) o ≡ some in_kind)) (out_names moved m)
unfolding opening
moved_outputs zero = tt
moved_outputs (suc m) = tt

moved_reads : (m : ℕ) → All (λ i. All (Port moved i) (key_reads moved m)) (instances moved m)
unfolding opening
moved_reads zero = tt
moved_reads (suc m) = tt

moved_line : ¬ ((m : ℕ) → NotWired reg_kind moved m)
unfolding opening
moved_line h = h 0 _ (Memᴰ.head refl) 4 10 (name 1) refl refl

moved_breaks : BreaksOnly fixed_unheaded moved
moved_breaks = record { broken = λ h. moved_line (λ m. (headed_by_wires moved m).1.1 (h m).1); others = others }
  where
    others : (q : Premise) → ¬ (q ≡ fixed_unheaded) → Meets q moved
    others acyclic h = later_acyclic moved moved_later
    others fixed_unheaded h = absurd (h refl)
    others no_input_port h = λ m. ports_apart moved m (moved_outputs m)
    others outputs_are_ports h = λ m. reads_ports moved m (moved_reads m)

moved_answer : Answers wired_register (accepted 0 0 [])
unfolding opening
moved_answer = answers wired_register (accepted 0 0 []) refl

-- the register reads input 1
moved_not_fixed : ¬ Fixed (hierarchy moved) 0
unfolding opening key_of
moved_not_fixed h = Memᴰ.not-nil (subst (λ (l : List Signal). here (signal 1) ∈ l) (h.registers [] 4 refl) (Memᴰ.head refl))

-- an out port has the name of input 1
abbrev shared : Design
shared = decode input_port

shared_later : (m : ℕ) → All (λ k. m < k) (instanced shared m)
unfolding opening
shared_later zero = tt
shared_later (suc m) = tt

shared_lines : (k : Kind) (m : ℕ) → All (λ c. Unwired k (header_of shared m) c.item) (lines_of shared m)
unfolding opening
shared_lines k zero = (tt, tt)
shared_lines k (suc m) = tt

shared_reads : (m : ℕ) → All (λ i. All (Port shared i) (key_reads shared m)) (instances shared m)
unfolding opening
shared_reads zero = tt
shared_reads (suc m) = tt

shared_output : ¬ Meets no_input_port shared
unfolding opening
shared_output h = h 0 1 (Memᴰ.head refl) refl

shared_breaks : BreaksOnly no_input_port shared
shared_breaks = record { broken = shared_output; others = others }
  where
    others : (q : Premise) → ¬ (q ≡ no_input_port) → Meets q shared
    others acyclic h = later_acyclic shared shared_later
    others fixed_unheaded h = λ m. lines_unheaded shared m (λ k. shared_lines k m)
    others no_input_port h = absurd (h refl)
    others outputs_are_ports h = λ m. reads_ports shared m (shared_reads m)

shared_answer : Answers input_port (accepted 1 0 (text_of ("(E0502 0 10 1 never)" ∷ [])))
unfolding opening
shared_answer = answers input_port (accepted 1 0 (text_of ("(E0502 0 10 1 never)" ∷ []))) refl

-- module 1 contains itself, and module 0 does not lead there
abbrev beside : Design
beside = decode beside_itself

beside_loop : ClosedWalk (instanced beside) (1 ∷ 1 ∷ [])
unfolding opening
beside_loop = ((Memᴰ.head refl, tt), refl)

zero_leads_nowhere : instanced beside 0 ≡ []
unfolding opening
zero_leads_nowhere = refl

zero_alone : (P : ℕ → Type 0) → P 0 → From (hierarchy beside) P 0
zero_alone P h t ([], c, e) = subst P e h
zero_alone P h t (k ∷ l, c, e) = absurd (Memᴰ.not-nil (subst (λ z. k ∈ z) zero_leads_nowhere c.0))

zero_stops : (k b : ℕ) → b ≡ 0 → ¬ (k ∈ instanced beside b)
zero_stops k b same u = Memᴰ.not-nil (subst (λ z. k ∈ z) (ap (instanced beside) same ∙ zero_leads_nowhere) u)

zero_acyclic : Acyclic (hierarchy beside) 0
zero_acyclic [] c (k, l, ((b, same, u), g), e) = zero_stops k b same u
zero_acyclic (k ∷ l) ((b, same, u), c) inside = zero_stops k b same u

zero_lines : (k : Kind) → All (λ c. Unwired k (header_of beside 0) c.item) (lines_of beside 0)
unfolding opening
zero_lines k = (tt, (tt, tt))

zero_outputs : All (λ o. ¬ (kind_of (header_of beside 0) o ≡ some in_kind)) (out_names beside 0)
unfolding opening
zero_outputs = (not_input (some out_kind) refl, tt)

zero_reads : All (λ i. All (Port beside i) (key_reads beside 0)) (instances beside 0)
unfolding opening
zero_reads = tt

beside_answer : Answers beside_itself (accepted 0 0 [])
unfolding opening
beside_answer = answers beside_itself (accepted 0 0 []) refl

pub others_do_not_matter : OthersDoNotMatter
others_do_not_matter = record {
  broken = not_acyclic beside 1 (1 ∷ []) beside_loop;
  from_zero = record {
    acyclic = zero_acyclic;
    fixed_unheaded = zero_alone (FixedUnheaded (hierarchy beside)) (lines_unheaded beside 0 zero_lines);
    no_input_port = zero_alone (NoInputPort (hierarchy beside)) (ports_apart beside 0 zero_outputs);
    outputs_are_ports = zero_alone (OutputsArePorts (hierarchy beside)) (reads_ports beside 0 zero_reads);
  };
  answer = beside_answer;
}

-- a design within all premises
within : (d : Design) → ((m : ℕ) → All (λ k. m < k) (instanced d m)) → ((k : Kind) (m : ℕ) → All (λ c. Unwired k (header_of d m) c.item) (lines_of d m))
    → ((m : ℕ) → All (λ o. ¬ (kind_of (header_of d m) o ≡ some in_kind)) (out_names d m)) → ((m : ℕ) → All (λ i. All (Port d i) (key_reads d m)) (instances d m)) → Premises d
within d later unwired outs reads = (these_are_all d).1 each
  where
    each : (p : Premise) → Meets p d
    each acyclic = later_acyclic d later
    each fixed_unheaded = λ m. lines_unheaded d m (λ k. unwired k m)
    each no_input_port = λ m. ports_apart d m (outs m)
    each outputs_are_ports = λ m. reads_ports d m (reads m)

-- an instance whose output is read, and no loop
abbrev quiet : Design
quiet = decode quiet_instance

quiet_later : (m : ℕ) → All (λ k. m < k) (instanced quiet m)
unfolding opening
quiet_later zero = (first_later, tt)
quiet_later (suc zero) = tt
quiet_later (suc (suc m)) = tt

quiet_lines : (k : Kind) (m : ℕ) → All (λ c. Unwired k (header_of quiet m) c.item) (lines_of quiet m)
unfolding opening
quiet_lines k zero = (tt, (tt, (tt, tt)))
quiet_lines k (suc zero) = (tt, (tt, tt))
quiet_lines k (suc (suc m)) = tt

quiet_outputs : (m : ℕ) → All (λ o. ¬ (kind_of (header_of quiet m) o ≡ some in_kind)) (out_names quiet m)
unfolding opening
quiet_outputs zero = (not_input (some out_kind) refl, tt)
quiet_outputs (suc zero) = (not_input (some out_kind) refl, tt)
quiet_outputs (suc (suc m)) = tt

quiet_reads : (m : ℕ) → All (λ i. All (Port quiet i) (key_reads quiet m)) (instances quiet m)
unfolding opening
quiet_reads zero = ((Memᴰ.head refl, (tt, tt)), tt)
quiet_reads (suc zero) = tt
quiet_reads (suc (suc m)) = tt

quiet_premises : Premises quiet
quiet_premises = within quiet quiet_later quiet_lines quiet_outputs quiet_reads

quiet_answer : Answers quiet_instance (accepted 0 0 [])
unfolding opening
quiet_answer = answers quiet_instance (accepted 0 0 []) refl

-- with no room at all for reports
quiet_accepted : (check_drivers [] quiet_instance []).number ≡ 0
unfolding check_drivers too_short answer_checked opening
quiet_accepted = refl

quiet_text : report_text (check_drivers [] quiet_instance []) ≡ []
unfolding check_drivers too_short answer_checked opening
quiet_text = refl

quiet_rests : (m : ℕ) → OpenedRests (hierarchy quiet) m
unfolding lines
quiet_rests = (rest [] quiet_instance [] quiet_accepted quiet_premises).rests (λ s i b. Memᴰ.not-nil (subst (λ l. s ∈ lines l) quiet_text i))

-- the same with its input connected to what reads its output
abbrev looped : Design
looped = decode looped_instance

looped_later : (m : ℕ) → All (λ k. m < k) (instanced looped m)
unfolding opening
looped_later zero = (first_later, tt)
looped_later (suc zero) = tt
looped_later (suc (suc m)) = tt

looped_lines : (k : Kind) (m : ℕ) → All (λ c. Unwired k (header_of looped m) c.item) (lines_of looped m)
unfolding opening
looped_lines k zero = (tt, (tt, (tt, tt)))
looped_lines k (suc zero) = (tt, (tt, tt))
looped_lines k (suc (suc m)) = tt

looped_outputs : (m : ℕ) → All (λ o. ¬ (kind_of (header_of looped m) o ≡ some in_kind)) (out_names looped m)
unfolding opening
looped_outputs zero = (not_input (some out_kind) refl, tt)
looped_outputs (suc zero) = (not_input (some out_kind) refl, tt)
looped_outputs (suc (suc m)) = tt

looped_reads : (m : ℕ) → All (λ i. All (Port looped i) (key_reads looped m)) (instances looped m)
unfolding opening
looped_reads zero = ((Memᴰ.head refl, (tt, tt)), tt)
looped_reads (suc zero) = tt
looped_reads (suc (suc m)) = tt

looped_report : Bytes
looped_report = text_of ("(E0504 0 20 (walk (u 5 - 3) 2 (u 5 - 3)))" ∷ [])

looped_answer : Answers looped_instance (accepted 1 0 looped_report)
unfolding opening looped_report
looped_answer = answers looped_instance (accepted 1 0 looped_report) refl

looped_back : Back looped 0 ([], inst_out 5 none 3) ((1 ∷ [], signal 3) ∷ (1 ∷ [], signal 1) ∷ ([], signal 2) ∷ [])
unfolding opening
looped_back = refl

pub within_premises : WithinPremises
unfolding looped_report
within_premises =
    record {
      quiet = quiet_premises;
      quiet_answer = quiet_answer;
      quiet_rests = quiet_rests;
      looped = within looped looped_later looped_lines looped_outputs looped_reads;
      looped_answer = looped_answer;
      looped_walk = has_walk looped 0 ([], inst_out 5 none 3) ((1 ∷ [], signal 3) ∷ (1 ∷ [], signal 1) ∷ ([], signal 2) ∷ []) looped_back;
    }

-- each premise has its text
pub each_premise : EachPremise
each_premise =
    record {
      inside = (inside_breaks, inside_unseen, inside_endless);
      input = (wired_breaks, (λ m. registers_unheaded wired m (wired_lines m)), wired_unseen);
      outputs = (portless_breaks, portless_unseen);
      register = (moved_breaks, (λ m. inputs_unheaded moved m (moved_lines m)), moved_answer, moved_not_fixed);
      port = (shared_breaks, shared_answer);
    }
