-- What a move leaves as it is: every process but the one that takes it.
use Prim.Native.Nat.{ℕ, ◌<◌}
use mathlib.Core.Path.{◌≡◌, refl}
use mathlib.Core.Logic.{◌≢◌}
use mathlib.Core.Bool.{Bool, true, false, ◌&&◌, ◌||◌, cond}
use mathlib.Core.List as Lists
use mathlib.Core.List.{[]}
use lib.Dec.{eqb}
use borrow.Author.Tests.{eqb-true, eq-eqb, ne_eqb}
use Rattle.basics.proofs.Facts.{tf, is_false, by_here}
use Rattle.simulation.specs.Calls.{Call, place, Label, Scan, Entry, Rest, Move, written, Board, station_of, Standing}
use Rattle.simulation.specs.Machine.{Labelling, Rules, pending_after, label_step, relabelled, scan_of, carry_out, State, labels_after, outcome, answer}
use Rattle.simulation.proofs.Judged.{Own, own_place, Verdict, turned, begins, begins_scan, scans, updates, snaps, ends, service}

-- the process that takes the move
abbrev pub touched : Move → ℕ → Bool
touched (Move.refused x) i = false
touched (Move.begins k job o) i = eqb i k
touched (Move.updates k) i = eqb i k
touched (Move.snaps k o) i = eqb i k
touched (Move.ends k o) i = eqb i k
touched (Move.sets_out k b) i = eqb i k

-- any other keeps labels, record and result
pub labels_kept : {A : Type 0} (n : ℕ) (r : Rules A) (l : Labelling A) (w : Move) (i : ℕ) → touched w i ≡ false → (x : Bool)
    → relabelled n r l (label_step w) x i ≡ l x i
unfolding relabelled
labels_kept n r l (Move.refused y) i e x = refl
labels_kept n r l (Move.begins k job o) i e x = refl
labels_kept n r l (Move.updates k) i e x = rw e (go x)
  where
    go : (x : Bool) → l (x || false) i ≡ l x i
    go false = refl
    go true = refl
labels_kept n r l (Move.snaps k Label) i e x = rw e (go x)
  where
    go : (x : Bool) → cond (x && false) (pending_after n r l k) (l x i) ≡ l x i
    go false = refl
    go true = refl
labels_kept n r l (Move.snaps k Scan) i e x = refl
labels_kept n r l (Move.ends k o) i e x = refl
labels_kept n r l (Move.sets_out k b) i e x = refl

module _ (B : Board) (order : Lists.List ℕ) (o : Rest) where
  pub process_kept : (w : Move) (i : ℕ) → touched w i ≡ false → (carry_out B order o w).rest.process i ≡ o.process i
  unfolding carry_out
  process_kept (Move.refused x) i e = refl
  process_kept (Move.begins k job Label) i e = rw e refl
  process_kept (Move.begins k job Scan) i e = rw e refl
  process_kept (Move.updates k) i e = rw e refl
  process_kept (Move.snaps k Label) i e = rw e refl
  process_kept (Move.snaps k Scan) i e = rw e refl
  process_kept (Move.ends k Label) i e = rw e refl
  process_kept (Move.ends k Scan) i e = rw e refl
  process_kept (Move.sets_out k b) i e = rw e refl

  -- a result is kept, or is that of the station of the process that takes the move
  pub result_kept : (w : Move) (g : ℕ) → ((k : ℕ) → touched w k ≡ true → g ≢ station_of B k) → (carry_out B order o w).rest.result g ≡ o.result g
  unfolding carry_out
  result_kept (Move.refused x) g d = refl
  result_kept (Move.begins k job Label) g d = refl
  result_kept (Move.begins k job Scan) g d = refl
  result_kept (Move.updates k) g d = refl
  result_kept (Move.snaps k Label) g d = refl
  result_kept (Move.snaps k Scan) g d = rw (ne_eqb g (station_of B k) (d k (eq-eqb k k refl))) refl
  result_kept (Move.ends k Label) g d = refl
  result_kept (Move.ends k Scan) g d = refl
  result_kept (Move.sets_out k b) g d = refl

  -- what holds of every result, and of the one that a scan stores, holds of every result afterwards
  pub results_all : (P : Lists.List Entry → Type 0) → P (scan_of o.process order) → ((g : ℕ) → P (o.result g))
      → (w : Move) (g : ℕ) → P ((carry_out B order o w).rest.result g)
  unfolding carry_out
  results_all P scan h (Move.refused x) g = h g
  results_all P scan h (Move.begins k job Label) g = h g
  results_all P scan h (Move.begins k job Scan) g = h g
  results_all P scan h (Move.updates k) g = h g
  results_all P scan h (Move.snaps k Label) g = h g
  results_all P scan h (Move.snaps k Scan) g = by_here (λ b. P (cond b (scan_of o.process order) (o.result g))) (station_of B k) g (λ _. scan) (λ _. h g)
  results_all P scan h (Move.ends k Label) g = h g
  results_all P scan h (Move.ends k Scan) g = h g
  results_all P scan h (Move.sets_out k b) g = h g

-- a call is taken by its caller, one of the n processes
pub touched_own : {B : Board} {n : ℕ} {t : Standing} {c : Call} {w : Move} → Verdict B n t c w → (i : ℕ) → touched w i ≡ true → (i ≡ place c) × (i < n)
touched_own {B} {n} {t} {c} v i h = go v h
  where
    own_here : Own n c → eqb i (place c) ≡ true → (i ≡ place c) × (i < n)
    own_here own e = let q = eqb-true i (place c) e in (q, rw q (own_place own))

    go : {w : Move} → Verdict B n t c w → touched w i ≡ true → (i ≡ place c) × (i < n)
    go (turned x f) e = absurd (tf e refl)
    go (begins own f) e = own_here own e
    go (begins_scan own f a) e = own_here own e
    go (scans own f a) e = own_here own e
    go (updates own q) e = own_here own e
    go (snaps own x q a) e = own_here own e
    go (ends own x q r) e = own_here own e
    go (service own b q) e = own_here own e

pub untouched : {B : Board} {n : ℕ} {t : Standing} {c : Call} {w : Move} → Verdict B n t c w → (i : ℕ) → (i < n → i ≢ place c) → touched w i ≡ false
untouched v i d = is_false (λ e. let h = touched_own v i e in d h.1 h.0)

-- a refused move leaves the state and hands out nothing
pub refused_stays : {A : Type 0} (B : Board) (n : ℕ) (r : Rules A) (s : State A) (c : Call) (w : Move) → let a = outcome B n r s w in
    a.refusal ≢ 0 → answer c (labels_after n r s w) a ≡ record { state = s; refusal = a.refusal; report = written c.line c.room [] }
unfolding carry_out relabelled
refused_stays B n r s c (Move.refused x) d = refl
refused_stays B n r s c (Move.begins k job Label) d = absurd (d refl)
refused_stays B n r s c (Move.begins k job Scan) d = absurd (d refl)
refused_stays B n r s c (Move.updates k) d = absurd (d refl)
refused_stays B n r s c (Move.snaps k Label) d = absurd (d refl)
refused_stays B n r s c (Move.snaps k Scan) d = absurd (d refl)
refused_stays B n r s c (Move.ends k Label) d = absurd (d refl)
refused_stays B n r s c (Move.ends k Scan) d = absurd (d refl)
refused_stays B n r s c (Move.sets_out k b) d = absurd (d refl)
