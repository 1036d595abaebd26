-- What a scan stores, and its end hands out, is document 01's result with the stations struck out that have no job at the snap (02, Card 2) or are out of
-- service then (02, Card 4): on the bounded and on the unbounded table, whatever their labels.
use Prim.Native.Nat.{ℕ, suc, ◌-◌}
use native.Mathlib.Omega.{arith}
use mathlib.Core.Path.{◌≡◌, refl, sym, ap, subst, ◌∙◌, fun_ext}
use mathlib.Core.Logic.{◌≢◌, ◌⊎◌, inl, inr}
use mathlib.Core.Bool.{Bool, true, false}
use mathlib.Core.List as Lists
use mathlib.Core.List.{[], ◌∷◌}
use Rattle.basics.specs.Tests.{ordered, passing, All}
use Rattle.basics.proofs.Passing.{passing_map}
use Rattle.simulation.specs.Calls.{Call, place, Scan, Phase, Idle, Update, Snap, End, Entry, entry, Process, Move, unless, by_service, room_for, by_phase}
use Rattle.simulation.specs.Calls.{judge_in, judge, written, standing, Standing, station_of, Board}
use Rattle.simulation.specs.Machine.{Rules, stands, shows, scan_of, everyone, struck, Outcome, carry_out, State, outcome, step}
use Rattle.simulation.proofs.Labellings.{here_yes}
use Rattle.simulation.proofs.Judged.{verdict_in}
use Rattle.simulation.proofs.Touched.{process_kept, result_kept, touched_own, untouched}

pub struck_out : (process : ℕ → Process) (order : Lists.List ℕ) → scan_of process order ≡ struck process (everyone process order)
unfolding scan_of
struck_out process order = sym (passing_map (λ (e : Entry). shows (process (e.station - 1))) (λ i. entry (suc i) (process i).job) order
    ∙ ap (λ f. everyone process (passing f order)) (fun_ext (λ i. let e : suc i - 1 ≡ i = omega arith in ap (λ j. shows (process j)) e)))

-- a call comes to the move w, or is refused
abbrev Comes : Move → Move → Type 0
Comes w m = (m ≡ w) ⊎ ((x : ℕ) × (m ≡ Move.refused x) × (x ≢ 0))

tested : {w : Move} (b : Bool) (x : ℕ) (m : Move) → x ≢ 0 → Comes w m → Comes w (unless b x m)
unfolding unless
tested true x m d h = h
tested false x m d h = inr (x, refl, d)

judged : {w : Move} (B : Board) (n : ℕ) (t : Standing) (c : Call) → Comes w (by_phase B t.alone t.shown c t.phase) → Comes w (judge_in B n t c)
unfolding judge_in
judged {w} B n t c h = tested _ 10 _ (λ e. omega arith) (tested _ 2 _ (λ e. omega arith) (tested _ 11 _ (λ e. omega arith) (served t.out)))
  where
    served : (out : Bool) → Comes w (by_service out c.code (by_phase B t.alone t.shown c t.phase))
    served true = tested _ 14 _ (λ e. omega arith) h
    served false = tested _ 15 _ (λ e. omega arith) h

-- where scans are not apart, a step 2 snaps for a scan
scan_judged : (B : Board) → B.scan_apart ≡ false → (alone : Bool) (k : ℕ) (c : Call) → c.code ≡ 2 → (ph : Phase)
    → Comes (Move.snaps (place c) Scan) (by_phase B alone k c ph)
unfolding unless
scan_judged B e alone k c two Idle = rw (two, e) (tested alone 18 _ (λ e. omega arith) (inl refl))
scan_judged B e alone k c two (Snap o) = rw two (inr (3, refl, λ e. omega arith))
scan_judged B e alone k c two Update = rw two (inr (3, refl, λ e. omega arith))
scan_judged B e alone k c two (End o) = rw two (inr (3, refl, λ e. omega arith))

-- a step 5 of a process that is due to end a scan ends it
end_judged : (B : Board) (alone : Bool) (k : ℕ) (c : Call) → c.code ≡ 5 → Comes (Move.ends (place c) Scan) (by_phase B alone k c (End Scan))
unfolding unless
end_judged B alone k c five = rw five (tested (room_for k c Scan) 7 _ (λ e. omega arith) (inl refl))

module _ {A : Type 0} (B : Board) (n : ℕ) (r : Rules A) (s : State A) (c : Call) where
  abbrev result : Lists.List Entry
  result = s.rest.result (station_of B (place c))

  abbrev called : Move
  called = judge B n s.rest c

  abbrev whole : Lists.List Entry
  whole = everyone s.rest.process (ordered n (stands r s.labels))

  -- an accepted call does what it comes to
  does : {w : Move} (P : Outcome → Type 0) → (step B n r s c).refusal ≡ 0 → Comes w called → P (outcome B n r s w) → P (outcome B n r s called)
  unfolding step carry_out
  does P ok (inl e) h = subst (λ m. P (outcome B n r s m)) (sym e) h
  does P ok (inr (x, e, d)) h = absurd (d (sym (ap (λ m. (outcome B n r s m).refusal) e) ∙ ok))

  scan_comes : B.scan_apart ≡ false → c.code ≡ 2 → Comes (Move.snaps (place c) Scan) called
  scan_comes e two = let t = standing B n s.rest (place c) in judged B n t c (scan_judged B e t.alone t.shown c two t.phase)

  -- THE LAW: after an accepted step 2 the result of the caller's station is document 01's, struck out
  pub scan_stores : B.scan_apart ≡ false → c.code ≡ 2 → (step B n r s c).refusal ≡ 0
      → (step B n r s c).state.rest.result (station_of B (place c)) ≡ struck s.rest.process whole
  unfolding step carry_out
  scan_stores e two ok = does (λ o. o.rest.result (station_of B (place c)) ≡ struck s.rest.process whole) ok (scan_comes e two)
      (rw (here_yes (station_of B (place c))) (struck_out s.rest.process (ordered n (stands r s.labels))))

  pub scanned_phase : B.scan_apart ≡ false → c.code ≡ 2 → (step B n r s c).refusal ≡ 0 → ((step B n r s c).state.rest.process (place c)).phase ≡ End Scan
  unfolding step carry_out
  scanned_phase e two ok = does (λ o. (o.rest.process (place c)).phase ≡ End Scan) ok (scan_comes e two) (rw (here_yes (place c)) refl)

  -- and an end hands out that result, whatever jobs there are by then
  pub end_hands_out : c.code ≡ 5 → (s.rest.process (place c)).phase ≡ End Scan → (step B n r s c).refusal ≡ 0
      → (step B n r s c).report ≡ written c.line c.room result
  unfolding step carry_out
  end_hands_out five e ok = let t = standing B n s.rest (place c) in
      does (λ o. written c.line c.room o.handed ≡ written c.line c.room result) ok
      (judged B n t c (subst (λ ph. Comes (Move.ends (place c) Scan) (by_phase B t.alone t.shown c ph)) (sym e) (end_judged B t.alone t.shown c five)))
      refl

-- A SCAN FROM SNAP TO END, each call by rules of its own, as an unbounded table has them by its advances: where scans are not apart
module _ {A : Type 0} (B : Board) (n : ℕ) (joined : B.scan_apart ≡ false) where
  -- the state that some calls leave
  pub left : State A → Lists.List (Rules A × Call) → State A
  left s [] = s
  left s (d ∷ ds) = left (step B n d.0 s d.1).state ds

  -- calls of other stations leave a process its phase and its result
  others_keep : (k : ℕ) (ds : Lists.List (Rules A × Call)) → All (λ d. station_of B k ≢ station_of B (place d.1)) ds → (s : State A)
      → ((left s ds).rest.process k ≡ s.rest.process k) × ((left s ds).rest.result (station_of B k) ≡ s.rest.result (station_of B k))
  unfolding left step
  others_keep k [] h s = (refl, refl)
  others_keep k (d ∷ ds) h s =
      let c = d.1 in
      let v = verdict_in B n s.rest c in
      let order = ordered n (stands d.0 s.labels) in
      let f = others_keep k ds h.1 (step B n d.0 s c).state in (
        f.0 ∙ process_kept B order s.rest (judge B n s.rest c) k (untouched v k (λ _ e. h.0 (ap (station_of B) e))),
        f.1 ∙ result_kept B order s.rest (judge B n s.rest c) (station_of B k) (λ j t e. h.0 (e ∙ ap (station_of B) (touched_own v j t).0)),
      )

  -- what the end reports is document 01's result of the state that the step 2 met, struck out by that state
  pub scan_reports : (r r' : Rules A) (s : State A) (c d : Call) (ds : Lists.List (Rules A × Call)) → c.code ≡ 2 → (step B n r s c).refusal ≡ 0
      → All (λ x. station_of B (place c) ≢ station_of B (place x.1)) ds → d.code ≡ 5 → place d ≡ place c → let s' = left (step B n r s c).state ds in
      (step B n r' s' d).refusal ≡ 0
      → (step B n r' s' d).report
      ≡ written d.line d.room (struck s.rest.process (everyone s.rest.process (ordered n (stands r s.labels))))
  scan_reports r r' s c d ds two ok others five same ended =
      let s₁ = (step B n r s c).state in
      let s' = left s₁ ds in
      let kept = others_keep (place c) ds others s₁ in
      end_hands_out B n r' s' d five
      (ap (λ k. (s'.rest.process k).phase) same ∙ ap (λ (p : Process). p.phase) kept.0 ∙ scanned_phase B n r s c joined two ok) ended
      ∙ ap (written d.line d.room) (ap (λ k. s'.rest.result (station_of B k)) same ∙ kept.1 ∙ scan_stores B n r s c joined two ok)
