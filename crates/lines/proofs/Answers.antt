-- The ways of `read_text`: tables too short, a text that is refused, a text that is accepted.
-- Assumes nothing.
use mathlib.Core.Path.{◌≡◌, refl, sym, ap, ◌∙◌}
use mathlib.Core.Bool.{Bool, true, false}
use mathlib.Core.List.{List}
use Prim.Native.Nat.{ℕ, ◌≤◌, ◌<◌, ◌*◌}
use native.Mathlib.Omega.{arith}
use lib.Dec.{ltb}
use lib.ListN.{length, replicate, length-replicate}
use borrow.Author.Tests.{lt-ltb, le-ltb}
use Rattle.spec.specs.Bytes.{Bytes}
use Rattle.spec.specs.Syntax.{name_bound}
use Rattle.spec.specs.Refusal.{Verdict, well_formed, refused, refusal, decode, lines, Before, at_start, lines_fault}
use Rattle.spec.specs.Reading as text
use Rattle.spec.proofs.Reading.{reading}
use Rattle.lines.specs.Verdict.{told, number_of as told_number, line_of as told_Line, modules_in}
use Rattle.lines.specs.Read.{fault_code, fault_of, fault_number, fault_line, set_line}
use Rattle.lines.specs.Tables.{put_kinds, put_mods}
use Rattle.lines.specs.Pass.{Fitting, Fills}
use Rattle.lines.specs.Reader.{number_of, line_of, by_verdict, by_room, unread, read_as, kinds_after, mods_after}
use Rattle.lines.specs.declared.read.Refusal.{Refusal}
use Rattle.lines.specs.declared.tables.ReadError.{ReadError}
use Rattle.lines.specs.declared.tables.ReadError.TheVariants.{Short, Refused}
use Rattle.std.specs.Prelude.{None, Result, Ok, Err}
use Rattle.lines.proofs.Turns.{text_ended, text_lines}

module _ {A : Type 0} (s f : A) (k m : ℕ) where
  pub room_kinds : k < 32 * name_bound → s ≡ by_room s f k m
  unfolding by_room
  room_kinds h = rw (lt-ltb k (32 * name_bound) h, by_room)

  pub room_mods : 32 * name_bound ≤ k → m < 128 → s ≡ by_room s f k m
  unfolding by_room
  room_mods g h = rw (le-ltb k (32 * name_bound) g, lt-ltb m 128 h, by_room)

  pub room_fits : 32 * name_bound ≤ k → 128 ≤ m → f ≡ by_room s f k m
  unfolding by_room
  room_fits g h = rw (le-ltb k (32 * name_bound) g, le-ltb m 128 h, by_room)

-- the number of a text's refusal is that of its fault
fault_back : {b : Before} {s : Bytes} {k : ℕ} → text.Fault b s k → fault_code (fault_of k) ≡ k
fault_back (text.not_one_form e) = refl
fault_back (text.badly_written e) = refl
fault_back (text.out_of_range w e) = refl
fault_back (text.out_of_place w e) = refl
fault_back (text.one_too_many w e) = refl

pub code_back : (t : Bytes) (k n : ℕ) → refusal t ≡ refused k n → fault_code (fault_of k) ≡ k
code_back t k n e = go k n (reading.lowest t k n e)
  where
    go : (k n : ℕ) → text.Refused t k n → fault_code (fault_of k) ≡ k
    go k n (text.too_long h) = refl
    go k n (text.bad_byte x c y l e i h) = refl
    go k n (text.no_feed l i h) = refl
    go k n (text.bad_line before s after k' l i f e c h) = fault_back h.fault

-- a verdict of which this refusal is told
record Refusing (v : Verdict) (r : Refusal) : Type 0 where
  number : ℕ
  line : ℕ
  is : v ≡ refused number line
  says : r ≡ record { fault = fault_of number; line = line }

told_refused : (v : Verdict) (c : ℕ) (r : Refusal) → Err r ≡ told v c → Refusing v r
told_refused well_formed c r e = let z : ◌≡◌ {A = ℕ} 0 1 = cc e in absurd (omega arith)
told_refused (refused k n) c r e = record { number = k; line = n; is = refl; says = cc e }

told_formed : (v : Verdict) (c m : ℕ) → Ok m ≡ told v c → (v ≡ well_formed) × (m ≡ c)
told_formed well_formed c m e = (refl, cc e)
told_formed (refused j n) c m e = let z : ◌≡◌ {A = ℕ} 0 1 = cc e in absurd (omega arith)

-- a choice by the tables' room, under a function
room_under : {A B : Type 0} (f : A → B) (s g : A) (k m : ℕ) → f (by_room s g k m) ≡ by_room (f s) (f g) k m
unfolding by_room
room_under f s g k m = go (ltb k (32 * name_bound)) (ltb m 128)
  where
    go : (a b : Bool) → f (elim a [ true ↦ s | false ↦ elim b [ true ↦ s | false ↦ g ] ]) ≡ elim a [ true ↦ f s | false ↦ elim b [ true ↦ f s | false ↦ f g ] ]
    go true b = refl
    go false true = refl
    go false false = refl

-- the number and the line of the answer
read_number : (k m : ℕ) (t : Bytes) → number_of (read_as k m t) ≡ by_room 20 (fault_number (refusal t)) k m
unfolding read_as
read_number k m t = room_under number_of (Err Short) (by_verdict unread (Ok (length (decode t))) (refusal t)) k m ∙ ap (λ (n : ℕ). by_room 20 n k m) (go (refusal t) refl)
  where
    go : (v : Verdict) → refusal t ≡ v → number_of (by_verdict unread (Ok (length (decode t))) v) ≡ fault_number v
    go well_formed e = refl
    go (refused k n) e = code_back t k n e

read_line : (k m : ℕ) (t : Bytes) → line_of (read_as k m t) ≡ by_room 0 (fault_line (refusal t)) k m
unfolding read_as
read_line k m t = room_under line_of (Err Short) (by_verdict unread (Ok (length (decode t))) (refusal t)) k m ∙ ap (λ (n : ℕ). by_room 0 n k m) (go (refusal t))
  where
    go : (v : Verdict) → line_of (by_verdict unread (Ok (length (decode t))) v) ≡ fault_line v
    go well_formed = refl
    go (refused k n) = refl

module _ (t : Bytes) (kinds mods : List ℕ) where
  abbrev Left : Result ℕ ReadError → List ℕ → List ℕ → Type 0
  Left r ks ms = (r ≡ read_as (length kinds) (length mods) t) × ((ks ≡ kinds_after kinds (length mods) t) × (ms ≡ mods_after mods (length kinds) t))

  -- with its number and line
  abbrev Told : Result ℕ ReadError → List ℕ → List ℕ → Type 0
  Told r ks ms =
      (r ≡ read_as (length kinds) (length mods) t)
      × ((ks ≡ kinds_after kinds (length mods) t)
      × ((ms ≡ mods_after mods (length kinds) t)
      × ((number_of r ≡ by_room 20 (fault_number (refusal t)) (length kinds) (length mods)) × (line_of r ≡ by_room 0 (fault_line (refusal t)) (length kinds) (length mods)))))

  pub numbered : (r : Result ℕ ReadError) (ks ms : List ℕ) → Left r ks ms → Told r ks ms
  numbered r ks ms e = (e.0, (e.1.0, (e.1.1, (ap number_of e.0 ∙ read_number (length kinds) (length mods) t, ap line_of e.0 ∙ read_line (length kinds) (length mods) t))))

  pub short_kinds : length kinds < 32 * name_bound → Left (Err Short) kinds mods
  unfolding read_as kinds_after mods_after
  short_kinds h = (room_kinds _ _ (length kinds) (length mods) h, (room_kinds _ _ (length kinds) (length mods) h, room_kinds _ _ (length kinds) (length mods) h))

  module _ (g : 32 * name_bound ≤ length kinds) where
    pub short_mods : length mods < 128 → Left (Err Short) kinds mods
    unfolding read_as kinds_after mods_after
    short_mods h = (room_mods _ _ (length kinds) (length mods) g h, (room_mods _ _ (length kinds) (length mods) g h, room_mods _ _ (length kinds) (length mods) g h))

    module _ (h : 128 ≤ length mods) (v : Result ℕ Refusal) (e : v ≡ told (refusal t) (length (decode t))) (ks ms : List ℕ) (zk : ks ≡ replicate (length kinds) 0) (zm : ms ≡ replicate (length mods) 0) where
      pub read_refused : (x : Refusal) → v ≡ Err x → Left (Err (Refused x)) ks ms
      unfolding read_as kinds_after mods_after
      read_refused x q =
          let f = told_refused (refusal t) (length (decode t)) x (sym q ∙ e) in
          let r = f.is in (
            ap (λ (y : Refusal). Err (Refused y)) f.says ∙ ap (by_verdict unread (Ok (length (decode t)))) (sym r) ∙ room_fits _ _ (length kinds) (length mods) g h,
            (
              zk ∙ ap (by_verdict (λ k n. replicate {A = ℕ} (length kinds) 0) (put_kinds 0 (decode t) (replicate (length kinds) 0))) (sym r) ∙ room_fits _ _ (length kinds) (length mods) g h,
              zm ∙ ap (by_verdict (λ k n. replicate {A = ℕ} (length mods) 0) (put_mods 0 0 (decode t) (replicate (length mods) 0))) (sym r) ∙ room_fits _ _ (length kinds) (length mods) g h,
            ),
          )

      pub read_accepted : (m : ℕ) → v ≡ Ok m → (ks' ms' : List ℕ) → ks' ≡ put_kinds 0 (decode t) ks → ms' ≡ put_mods 0 0 (decode t) ms → Left (Ok m) ks' ms'
      unfolding read_as kinds_after mods_after
      read_accepted m q ks' ms' wk wm =
          let r = told_formed (refusal t) (length (decode t)) m (sym q ∙ e) in (
            ap Ok r.1 ∙ ap (by_verdict unread (Ok (length (decode t)))) (sym r.0) ∙ room_fits _ _ (length kinds) (length mods) g h,
            (
              wk ∙ ap (put_kinds 0 (decode t)) zk ∙ ap (by_verdict (λ k n. replicate {A = ℕ} (length kinds) 0) (put_kinds 0 (decode t) (replicate (length kinds) 0))) (sym r.0) ∙ room_fits _ _ (length kinds) (length mods) g h,
              wm ∙ ap (put_mods 0 0 (decode t)) zm ∙ ap (by_verdict (λ k n. replicate {A = ℕ} (length mods) 0) (put_mods 0 0 (decode t) (replicate (length mods) 0))) (sym r.0) ∙ room_fits _ _ (length kinds) (length mods) g h,
            ),
          )

    -- the text has neither fault 1 nor fault 2, and the pass is made over cleared tables
    module _ (h : 128 ≤ length mods) (short : length t ≤ 32768) (s : None ≡ set_line t) (ks ms : List ℕ) (zk : ks ≡ replicate (length kinds) 0) (zm : ms ≡ replicate (length mods) 0) where
      pub pass_fitting : Fitting t ks ms
      pass_fitting = record {
        ended = text_ended t short s;
        kinds_fit = let a = ap length zk ∙ length-replicate {A = ℕ} (length kinds) 0 in omega (arith, a, g);
        mods_fit = let a = ap length zm ∙ length-replicate {A = ℕ} (length mods) 0 in omega (arith, a, h);
      }

      module _ (v : Result ℕ Refusal) (ks' ms' : List ℕ) (f : Fills t ks ms v ks' ms') where
        pub pass_refused : (x : Refusal) → v ≡ Err x → length ks' ≡ length ks → length ms' ≡ length ms → (ks'' ms'' : List ℕ) → ks'' ≡ replicate (length ks') 0 → ms'' ≡ replicate (length ms') 0 → Left (Err (Refused x)) ks'' ms''
        pass_refused x q lk lm ks'' ms'' yk ym =
            read_refused h v (f.0 ∙ text_lines t short s) ks'' ms'' (yk ∙ ap (λ (i : ℕ). replicate {A = ℕ} i 0) (lk ∙ ap length zk ∙ length-replicate {A = ℕ} (length kinds) 0))
            (ym ∙ ap (λ (i : ℕ). replicate {A = ℕ} i 0) (lm ∙ ap length zm ∙ length-replicate {A = ℕ} (length mods) 0)) x q

        pub pass_accepted : (m : ℕ) → v ≡ Ok m → Left (Ok m) ks' ms'
        pass_accepted m q =
            let w = f.1 (told_formed (lines_fault at_start 1 (lines t)) (modules_in (lines t)) m (sym q ∙ f.0)).0 in
            read_accepted h v (f.0 ∙ text_lines t short s) ks ms zk zm m q ks' ms' w.0 w.1

-- the answer alone
abbrev pub as_verdict : Result ℕ ReadError → Result ℕ Refusal
as_verdict (Err Short) = Ok 0
as_verdict (Err (Refused r)) = Err r
as_verdict (Ok m) = Ok m

pub read_told : (t : Bytes) (k m : ℕ) → 32 * name_bound ≤ k → 128 ≤ m → (x : Result ℕ ReadError) → x ≡ read_as k m t → as_verdict x ≡ told (refusal t) (length (decode t))
unfolding read_as
read_told t k m g h x e = ap as_verdict (e ∙ sym (room_fits (Err Short) (by_verdict unread (Ok (length (decode t))) (refusal t)) k m g h)) ∙ go (refusal t)
  where
    go : (v : Verdict) → as_verdict (by_verdict unread (Ok (length (decode t))) v) ≡ told v (length (decode t))
    go well_formed = refl
    go (refused k n) = refl

-- and its number and line
pub told_by : (t : Bytes) (r : Result ℕ Refusal) → r ≡ told (refusal t) (length (decode t))
    → (r ≡ told (refusal t) (length (decode t))) × ((told_number r ≡ fault_number (refusal t)) × (told_Line r ≡ fault_line (refusal t)))
told_by t r e = (e, (ap told_number e ∙ (go (refusal t) refl).0, ap told_Line e ∙ (go (refusal t) refl).1))
  where
    go : (v : Verdict) → refusal t ≡ v → (told_number (told v (length (decode t))) ≡ fault_number v) × (told_Line (told v (length (decode t))) ≡ fault_line v)
    go well_formed e = (refl, refl)
    go (refused k n) e = (code_back t k n e, refl)
