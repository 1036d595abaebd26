-- States reached from the fresh one: under the invariant, with results that 13 lets pass, and with no process that is out of service and busy.
use Prim.Native.Nat.{ℕ, suc, ◌-◌, ◌≤◌, ◌<◌}
use native.Mathlib.Omega.{arith}
use mathlib.Core.Path.{◌≡◌, refl, sym, ap, ◌∙◌, fun_ext}
use mathlib.Core.Logic.{◌≢◌}
use mathlib.Core.Bool.{Bool, true, false, not, cond}
use mathlib.Core.List as Lists
use lib.ListN.{length, length-map}
use lib.Dec.{eqb}
use borrow.Author.Tests.{eq-eqb, ne_eqb}
use Rattle.basics.specs.Tests.{newest, ordered, passing, All}
use Rattle.basics.proofs.Facts.{tf, is_false, and_both, by_here, all_map, ordered_all}
use Rattle.basics.proofs.Passing.{passing_all, passing_map, passing_fewer, ordered_once}
use Rattle.label.specs.Labels as Labels
use Rattle.label.specs.Rows.{no_ring}
use Rattle.label.proofs.RowLaws.{no_ring_of}
use Rattle.simulation.specs.Calls.{Call, place, Label, Scan, Phase, Idle, Update, Snap, End, Entry, entry, Process, Rest, Move, judge, Board, idle}
use Rattle.simulation.specs.Machine.{Labelling, digits, stands, in_phase, begun, updated, set_out, changed, has_job, shows, scan_of, carry_out, fresh_rest, State}
use Rattle.simulation.specs.Machine.{fresh, step, fresh_label}
use Rattle.simulation.proofs.Sync.{no_ring_lem}
use Rattle.simulation.proofs.Judged.{VerdictIn, turned, begins, begins_scan, scans, updates, snaps, ends, service, verdict_in}
use Rattle.simulation.proofs.Touched.{results_all}
use Rattle.simulation.proofs.Simulation.{Ready, newest_labels, fresh_ready, Proper, stepwise, ready_step}
use Rattle.transition.proofs.Written.{Sized, sized_some, WritableRest, Writable, writable_step}

-- a result that 13 lets pass (02, Card 2): stations from 1 to n with jobs, none of them twice
pub record Sound (n : ℕ) (l : Lists.List Entry) : Type 0 where
  pub each : All (λ e. (1 ≤ e.station) × (e.station ≤ n) × (e.job ≢ 0)) l
  pub once : (i : ℕ) → i < n → length (passing (λ e. eqb e.station (suc i)) l) ≤ 1

-- a process that is out of service is idle (02, Card 4)
abbrev pub Idles : Process → Type 0
Idles p = p.out ≡ true → p.phase ≡ Idle

pub record Reached (B : Board) (n : ℕ) (s : State Labels.Label) : Type 0 where
  pub N : Labelling ℕ
  pub ready : Ready (n - 1) s.labels N
  pub writable : Writable B n s
  pub sound : (i : ℕ) → Sound n (s.rest.result i)
  pub idles : (i : ℕ) → Idles (s.rest.process i)

module _ (B : Board) (n : ℕ) (some : 1 ≤ n) where
  module _ {s : State Labels.Label} (r : Reached B n s) where
    -- the newest process is one of the n
    pub reached_lead : newest n (stands (digits B n) s.labels) < n
    reached_lead = rw (newest_labels n (n - 1) (omega arith) s.labels r.N r.ready) (omega (arith, r.ready.inv.newest.station))

    -- the numbers rule out a ring, whichever of its two labels is taken of each process
    pub choice_ring_free : (x : ℕ → Bool) → no_ring (n - 1) (λ i. s.labels (x i) i) ≡ true
    choice_ring_free x = no_ring_of (n - 1) t (λ i j k p li lj lk lp ij jk a b c.
        no_ring_lem r.ready.inv.sync (x i) (x j) (x k) i j k p li lj lk (λ q. omega (arith, ap (λ m. t m p) q)) (λ q. omega (arith, ap (λ m. t m p) q))
        (λ q. omega (arith, ap (λ m. t m p) q)) lp ij jk a b c)
      where
        t : ℕ → Labels.Label
        t i = s.labels (x i) i

  pub rest_fresh : WritableRest B n fresh_rest
  rest_fresh = record {
    listed = λ i. (omega arith, λ p e. absurd (omega arith));
    phase = λ i. refl;
    past = λ i l. refl;
    unused = λ g l. refl;
  }

  pub reached_fresh : Proper B → Reached B n (fresh (fresh_label B))
  reached_fresh p = record {
    N = λ x i. 0;
    ready = start p;
    writable = record {
      behind = λ x i p h. refl;
      blank = λ x i l. refl;
      rest = rest_fresh;
    };
    sound = λ i. record { each = tt; once = λ j l. unfold passing in omega arith };
    idles = λ i e. refl;
  }
    where
      start : {B : Board} → Proper B → Ready (n - 1) (λ x i. fresh_label B) (λ x i. 0)
      start (stepwise per known apart h) = fresh_ready (n - 1)

  suc_eqb : (i j : ℕ) → eqb (suc i) (suc j) ≡ eqb i j
  suc_eqb i j = by_here (λ b. eqb (suc i) (suc j) ≡ b) j i (λ e. eq-eqb _ _ (ap suc e)) (λ d. ne_eqb (suc i) (suc j) (λ e. d (omega arith)))

  -- what a scan stores
  pub scan_sound : (process : ℕ → Process) (b : ℕ → ℕ → Bool) → Sound n (scan_of process (ordered n b))
  unfolding scan_of
  scan_sound process b = record {
    each = all_map (λ i. (i < n) × ((process i).job ≢ 0)) _ entry_for (λ i h. (omega arith, omega (arith, h.0), h.1)) shown
        (passing_all _ (λ i. i < n) _ (λ i l e. (l, λ z. tf (and_both (has_job (process i).job) (not (process i).out) e).0 (rw z refl))) order
        (ordered_all (λ i. i < n) b n (λ i l. l)));
    once = λ i l. omega (
      arith,
      ap length (passing_map (λ (e : Entry). eqb e.station (suc i)) entry_for shown),
      length-map (passing (λ j. eqb (suc j) (suc i)) shown) entry_for,
      ap (λ f. length (passing f shown)) (fun_ext (λ j. suc_eqb j i)),
      passing_fewer (λ j. shows (process j)) (λ j. eqb j i) order,
      ordered_once b i n l,
    );
  }
    where
      order : Lists.List ℕ
      order = ordered n b

      shown : Lists.List ℕ
      shown = passing (λ i. shows (process i)) order

      entry_for : ℕ → Entry
      entry_for i = entry (suc i) (process i).job

  -- only idle processes leave service, and only those in service begin
  idles_step : (order : Lists.List ℕ) (o : Rest) → ((i : ℕ) → Idles (o.process i)) → (c : Call) (i : ℕ)
      → Idles ((carry_out B order o (judge B n o c)).rest.process i)
  unfolding carry_out
  idles_step order o h c i = go (verdict_in B n o c)
    where
      -- the record of the caller, changed
      at : (f : Process → Process) → (i ≡ place c → Idles (f (o.process i))) → Idles ((changed o (place c) f).process i)
      at f g = by_here (λ b. Idles (cond b (f (o.process i)) (o.process i))) (place c) i g (λ _. h i)

      -- it is in service if its step needs that, or if it was busy
      in_service : (f : Process → Process) → ((p : Process) → (f p).out ≡ p.out) → (o.process (place c)).out ≡ false
          → Idles ((changed o (place c) f).process i)
      in_service f same e = at f (λ q t. absurd (tf (sym (same (o.process i)) ∙ t) (ap (λ j. (o.process j).out) q ∙ e)))

      busy : (f : Process → Process) → ((p : Process) → (f p).out ≡ p.out) → {ph : Phase} → (o.process (place c)).phase ≡ ph → idle ph ≡ false
          → Idles ((changed o (place c) f).process i)
      busy f same e b = in_service f same (is_false (λ t. tf (ap idle (h (place c) t)) (ap idle e ∙ b)))

      go : {w : Move} → VerdictIn B n o c w → Idles ((carry_out B order o w).rest.process i)
      go (turned x d) = h i
      go (begins own f) = in_service (begun c.job) (λ p. refl) f.service
      go (begins_scan own f e) = in_service (in_phase (Snap Scan)) (λ p. refl) f.service
      go (scans own f e) = in_service (in_phase (End Scan)) (λ p. refl) f.service
      go (updates own e) = busy updated (λ p. refl) e refl
      go (snaps own Label e t) = busy (in_phase Update) (λ p. refl) e refl
      go (snaps own Scan e t) = busy (in_phase (End Scan)) (λ p. refl) e refl
      go (ends own Label e r) = at (in_phase Idle) (λ _ _. refl)
      go (ends own Scan e r) = at (in_phase Idle) (λ _ _. refl)
      go (service own b e) = at (set_out b) (λ q _. ap (λ j. (o.process j).phase) q ∙ e)

-- a step call leads from one to another
pub reached_step : {B : Board} → Proper B → (n : ℕ) → Sized B n → (s : State Labels.Label) → Reached B n s → (c : Call)
    → Reached B n (step B n (digits B n) s c).state
reached_step {B} p n z s r c = record {
  N = next.0;
  ready = next.1;
  writable = writable_step B n z s r.writable c (reached_lead B n some r);
  sound = unfold step in
      results_all B _ s.rest (Sound n) (scan_sound B n some s.rest.process (stands (digits B n) s.labels)) r.sound (judge B n s.rest c);
  idles = unfold step in idles_step B n some _ s.rest r.idles c;
}
  where
    some : 1 ≤ n
    some = sized_some z

    next : (N' : Labelling ℕ) × Ready (n - 1) (step B n (digits B n) s c).state.labels N'
    next = ready_step p n some s r.N c r.ready
