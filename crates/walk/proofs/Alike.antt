-- Summaries that are alike lead to the same edges, and any order of the inputs that are found gives one that is alike.
-- Assumes nothing.
use mathlib.Core.Path.{◌≡◌, refl, sym, ◌∙◌, ap}
use mathlib.Core.Bool.{Bool, true, false, ◌&&◌, ◌||◌, true≢false, false≢true}
use mathlib.Core.Option.{Option}
use mathlib.Core.List.Memᴰ
use mathlib.Core.List.{List, [], ◌∷◌, ◌++◌}
use Prim.Native.Nat.{ℕ, suc}
use native.Mathlib.Omega.{arith}
use lib.ListN.{length, length-append}
use lib.Dec.{eqb}
use lib.IntN.{ℤ}
use borrow.Author.Tests.{eq-eqb}
use Rattle.spec.specs.Syntax.{Conn, Inst, Header, Module}
use Rattle.spec.specs.Refusal.{has_name}
use Rattle.spec.specs.Value.{Names}
use Rattle.spec.specs.Graph.{◌∈◌, Once}
use Rattle.spec.specs.DepthFirst.{search}
use Rattle.spec.specs.Site.{kind_of, Output, first_lines}
use Rattle.spec.specs.Edge.{Node, signal, inst_out, same_node, Reads, and_reads, expr_reads, Head, Heads, no_heads, Summary, reaches, has_output, conn_reads, index_of, place_value, output_heads, inst_edges, all_nodes}
use Rattle.spec.specs.Summary.{is_input, onward, inputs_among, inputs_reached, paired, top_outputs, outputs_reach, module_summary}
use Rattle.spec.proofs.Lists.{once_length}
use Rattle.spec.proofs.HeadLaws.{in_first}
use Rattle.spec.proofs.Summaries.{reached_found, name_in}
use Rattle.walk.specs.Alike.{out_list, Alike}

-- ---- the inputs that each output reaches, in whatever order they are found

-- 01, The edge: for each output the inputs that f gives
unfoldable pub reach_by : (ℕ → List ℕ) → List Output → Summary
reach_by f [] = []
reach_by f (o ∷ os) = paired o.name (f o.name) ++ reach_by f os

-- 01, The edge: f gives the in-kind names that an output reaches, each once, in some order
pub record Finds (f : ℕ → List ℕ) (hs : List Header) (heads : List Head) : Type 0 where
  pub once : (o : ℕ) → Once (f o)
  pub found : (o i : ℕ) → i ∈ f o → i ∈ inputs_reached hs heads o
  pub all : (o i : ℕ) → i ∈ inputs_reached hs heads o → i ∈ f o

-- ---- the edges of an instance line

module _ (hs : List Header) (names : Names) where
  conn_alike : (t s : Summary) → ((o i : ℕ) → reaches o i t ≡ reaches o i s) → (o : ℕ) (cs : List Conn) → conn_reads hs names t o cs ≡ conn_reads hs names s o cs
  unfolding conn_reads
  conn_alike t s h o [] = refl
  conn_alike t s h o (c ∷ cs) = go (reaches o c.port t) (reaches o c.port s) (h o c.port) (conn_alike t s h o cs)
    where
      go : (a b : Bool) → a ≡ b → conn_reads hs names t o cs ≡ conn_reads hs names s o cs
          → ◌≡◌ {A = Reads} (elim a [ true ↦ and_reads (expr_reads c.signal hs names) (conn_reads hs names t o cs) | false ↦ conn_reads hs names t o cs ])
          (elim b [ true ↦ and_reads (expr_reads c.signal hs names) (conn_reads hs names s o cs) | false ↦ conn_reads hs names s o cs ])
      go true true e f = ap (and_reads (expr_reads c.signal hs names)) f
      go true false e f = absurd (true≢false e)
      go false true e f = absurd (false≢true e)
      go false false e f = f

  module _ (i : Inst) (x : Option ℤ) where
    -- the heads of some outputs, f being what each reads
    heads_for : (ℕ → Reads) → List ℕ → Heads
    heads_for f [] = no_heads
    heads_for f (o ∷ os) = record { heads = record { node = inst_out i.name x o; start = i.start; reads = (f o).nodes } ∷ (heads_for f os).heads; out = (f o).out || (heads_for f os).out }

    heads_listed : (s rest : Summary) → output_heads hs names i x s rest ≡ heads_for (λ o. conn_reads hs names s o i.conns) (out_list rest)
    unfolding output_heads out_list heads_for
    heads_listed s [] = refl
    heads_listed s (p ∷ rest) = go (has_output p.0 rest) (heads_listed s rest)
      where
        go : (b : Bool) → output_heads hs names i x s rest ≡ heads_for (λ o. conn_reads hs names s o i.conns) (out_list rest)
            → ◌≡◌ {A = Heads} (elim b [
              | true ↦ output_heads hs names i x s rest
              | false ↦ record {
                heads = record { node = inst_out i.name x p.0; start = i.start; reads = (conn_reads hs names s p.0 i.conns).nodes } ∷ (output_heads hs names i x s rest).heads;
                out = (conn_reads hs names s p.0 i.conns).out || (output_heads hs names i x s rest).out;
              }
            ]) (heads_for (λ o. conn_reads hs names s o i.conns) (elim b [ true ↦ out_list rest | false ↦ p.0 ∷ out_list rest ]))
        go true e = e
        go false e = rw e

    heads_same : (f g : ℕ → Reads) → ((o : ℕ) → f o ≡ g o) → (os : List ℕ) → heads_for f os ≡ heads_for g os
    unfolding heads_for
    heads_same f g h [] = refl
    heads_same f g h (o ∷ os) = rw (h o, heads_same f g h os)

  -- Summaries that are alike lead to the same edges.
  pub inst_alike : (i : Inst) {t s : Summary} → Alike t s → inst_edges hs names i t ≡ inst_edges hs names i s
  unfolding inst_edges
  inst_alike i {t} {s} a =
      let x = index_of (place_value names i.place) in
      let f : Summary → ℕ → Reads = λ u o. conn_reads hs names u o i.conns in
      heads_listed i x t t ∙ ap (heads_for i x (f t)) a.outs ∙ heads_same i x (f t) (f s) (λ o. conn_alike t s a.reach o i.conns) (out_list s) ∙ sym (heads_listed i x s s)

-- ---- inputs in another order

in_name : (n : ℕ) (l : List ℕ) → n ∈ l → has_name n l ≡ true
unfolding has_name
in_name n [] x' = elim x' [ ]
in_name n (m ∷ l) (Memᴰ.head e) = rw (eq-eqb n m e)
in_name n (m ∷ l) (Memᴰ.tail i) = rw (in_name n l i) (go (eqb n m))
  where
    go : (b : Bool) → b || true ≡ true
    go true = refl
    go false = refl

same_test : (a b : Bool) → (a ≡ true → b ≡ true) → (b ≡ true → a ≡ true) → a ≡ b
same_test true true f g = refl
same_test true false f g = sym (f refl)
same_test false true f g = g refl
same_test false false f g = refl

same_names : (l k : List ℕ) → ((n : ℕ) → n ∈ l → n ∈ k) → ((n : ℕ) → n ∈ k → n ∈ l) → (n : ℕ) → has_name n l ≡ has_name n k
same_names l k f g n = same_test (has_name n l) (has_name n k) (λ e. in_name n k (f n (name_in n l e))) (λ e. in_name n l (g n (name_in n k e)))

pick : {A : Type 0} → Bool → A → A → A
pick true a b = a
pick false a b = b

none_of : List ℕ → Bool
none_of [] = true
none_of (n ∷ l) = false

module _ (a : ℕ) (s : Summary) where
  paired_reaches : (l : List ℕ) (o i : ℕ) → reaches o i (paired a l ++ s) ≡ (eqb o a && has_name i l) || reaches o i s
  unfolding reaches paired has_name
  paired_reaches [] o i = go (eqb o a)
    where
      go : (b : Bool) → reaches o i s ≡ (b && false) || reaches o i s
      go true = refl
      go false = refl
  paired_reaches (j ∷ l) o i = go (eqb o a) (eqb i j) (has_name i l) (reaches o i s) (reaches o i (paired a l ++ s)) (paired_reaches l o i)
    where
      go : (b c d r q : Bool) → q ≡ (b && d) || r → (b && c) || q ≡ (b && (c || d)) || r
      go true true d r q e = refl
      go true false d r q e = e
      go false c d r q e = e

  paired_output : (l : List ℕ) (o : ℕ) → has_output o (paired a l ++ s) ≡ pick (none_of l) (has_output o s) (eqb o a || has_output o s)
  unfolding has_output paired none_of pick
  paired_output [] o = refl
  paired_output (j ∷ l) o = ap (λ z. eqb o a || z) (paired_output l o) ∙ go (none_of l) (eqb o a)
    where
      go : (b c : Bool) → c || pick b (has_output o s) (c || has_output o s) ≡ c || has_output o s
      go true c = refl
      go false true = refl
      go false false = refl

  paired_outs : (l : List ℕ) → out_list (paired a l ++ s) ≡ pick (none_of l) (out_list s) (pick (has_output a s) (out_list s) (a ∷ out_list s))
  unfolding out_list paired none_of pick
  paired_outs [] = refl
  paired_outs (j ∷ l) = go (has_output a (paired a l ++ s)) (none_of l) (has_output a s) (out_list (paired a l ++ s)) (paired_output l a) (paired_outs l)
    where
      go : (b c h : Bool) (r : List ℕ) → b ≡ pick c h (eqb a a || h) → r ≡ pick c (out_list s) (pick h (out_list s) (a ∷ out_list s))
          → elim b as (λ _. List ℕ) [ true ↦ r | false ↦ a ∷ r ] ≡ pick h (out_list s) (a ∷ out_list s)
      go true true true r e f = f
      go true true false r e f = absurd (true≢false e)
      go false true true r e f = absurd (false≢true e)
      go false true false r e f = ap (λ z. a ∷ z) f
      go true false h r e f = f
      go false false h r e f = absurd (false≢true (e ∙ rw (eq-eqb a a refl)))

paired_length : (a : ℕ) (l : List ℕ) → length (paired a l) ≡ length l
unfolding paired
paired_length a [] = refl
paired_length a (i ∷ l) = ap suc (paired_length a l)

none_length : (l k : List ℕ) → length l ≡ length k → none_of l ≡ none_of k
unfolding none_of
none_length [] [] e = refl
none_length [] (b ∷ k) e = absurd (omega arith)
none_length (a ∷ l) [] e = absurd (omega arith)
none_length (a ∷ l) (b ∷ k) e = refl

module _ (f g : ℕ → List ℕ) (same : (o n : ℕ) → has_name n (f o) ≡ has_name n (g o)) (size : (o : ℕ) → length (f o) ≡ length (g o)) where
  by_reaches : (os : List Output) (o i : ℕ) → reaches o i (reach_by f os) ≡ reaches o i (reach_by g os)
  unfolding reach_by
  by_reaches [] o i = refl
  by_reaches (p ∷ os) o i =
      paired_reaches p.name (reach_by f os) (f p.name) o i
      ∙ rw (same p.name i, by_reaches os o i) (sym (paired_reaches p.name (reach_by g os) (g p.name) o i))

  by_output : (os : List Output) (o : ℕ) → has_output o (reach_by f os) ≡ has_output o (reach_by g os)
  unfolding reach_by
  by_output [] o = refl
  by_output (p ∷ os) o =
      paired_output p.name (reach_by f os) (f p.name) o
      ∙ rw (none_length (f p.name) (g p.name) (size p.name), by_output os o) (sym (paired_output p.name (reach_by g os) (g p.name) o))

  by_outs : (os : List Output) → out_list (reach_by f os) ≡ out_list (reach_by g os)
  unfolding reach_by
  by_outs [] = refl
  by_outs (p ∷ os) =
      paired_outs p.name (reach_by f os) (f p.name)
      ∙ rw (none_length (f p.name) (g p.name) (size p.name), by_outs os, by_output os p.name) (sym (paired_outs p.name (reach_by g os) (g p.name)))

  by_size : (os : List Output) → length (reach_by f os) ≡ length (reach_by g os)
  unfolding reach_by
  by_size [] = refl
  by_size (p ∷ os) =
      let a = paired p.name (f p.name) in
      let b = paired p.name (g p.name) in
      omega (arith, length-append a (reach_by f os), length-append b (reach_by g os), by_size os, paired_length p.name (f p.name), paired_length p.name (g p.name), size p.name)

-- ---- what is found is in the definition's summary

from_inputs : (hs : List Header) (ns : List Node) (i : ℕ) → i ∈ inputs_among hs ns → signal i ∈ ns
unfolding inputs_among
from_inputs hs [] i m = absurd (Memᴰ.not-nil m)
from_inputs hs (signal n ∷ ns) i m = go (is_input (kind_of hs n)) (from_inputs hs ns i) m
  where
    go : (b : Bool) → (i ∈ inputs_among hs ns → signal i ∈ ns) → i ∈ elim b as (λ _. List ℕ) [ true ↦ n ∷ inputs_among hs ns | false ↦ inputs_among hs ns ] → signal i ∈ (signal n ∷ ns)
    go true f m = in_first (λ e. Memᴰ.head (ap signal e)) (λ j. Memᴰ.tail (f j)) m
    go false f m = Memᴰ.tail (f m)
from_inputs hs (inst_out j x o ∷ ns) i m = Memᴰ.tail (from_inputs hs ns i m)

inputs_once : (hs : List Header) (ns : List Node) → Once ns → Once (inputs_among hs ns)
unfolding inputs_among
inputs_once hs [] o = tt
inputs_once hs (signal n ∷ ns) o = go (is_input (kind_of hs n)) (inputs_once hs ns o.1)
  where
    go : (b : Bool) → Once (inputs_among hs ns) → Once {A = ℕ} (elim b [ true ↦ n ∷ inputs_among hs ns | false ↦ inputs_among hs ns ])
    go true p = (λ m. o.0 (from_inputs hs ns n m), p)
    go false p = p
inputs_once hs (inst_out i x p ∷ ns) o = inputs_once hs ns o.1

reached_once : (hs : List Header) (heads : List Head) (o : ℕ) → Once (inputs_reached hs heads o)
unfolding inputs_reached
reached_once hs heads o =
    inputs_once hs (search same_node (onward hs heads) (suc (suc (length (all_nodes heads)))) (signal o ∷ [])).left
    (reached_found hs heads o).once

reach_is : (hs : List Header) (heads : List Head) (os : List Output) → reach_by (inputs_reached hs heads) os ≡ outputs_reach hs heads os
unfolding reach_by outputs_reach
reach_is hs heads [] = refl
reach_is hs heads (o ∷ os) = ap (λ z. paired o.name (inputs_reached hs heads o.name) ++ z) (reach_is hs heads os)

-- Whatever the order in which the inputs are found, the summary is alike.
pub finds_alike : (k : Module) (heads : List Head) (f : ℕ → List ℕ) → Finds f k.header heads → Alike (reach_by f (first_lines [] (top_outputs k.items))) (module_summary k heads)
unfolding module_summary
finds_alike k heads f h =
    let g = inputs_reached k.header heads in
    let os = first_lines [] (top_outputs k.items) in
    let same : (o n : ℕ) → has_name n (f o) ≡ has_name n (g o) = λ o. same_names (f o) (g o) (h.found o) (h.all o) in
    let size : (o : ℕ) → length (f o) ≡ length (g o) =
    λ o. let a = once_length (f o) (g o) (h.once o) (h.found o) in let b = once_length (g o) (f o) (reached_once k.header heads o) (h.all o) in omega arith in
    rw (← (reach_is k.header heads os)) (record { reach = by_reaches f g same size os; outs = by_outs f g same size os; size = by_size f g same size os })

-- a summary is like itself
pub alike_self : (s : Summary) → Alike s s
alike_self s = record { reach = λ o i. refl; outs = refl; size = refl }
