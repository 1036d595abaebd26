-- What 13 asks of a state, as facts: reached states have them on every proper board, and they are what is tested. So tables that are states are a lawful form.
use Prim.Native.Nat.{ℕ, ◌+◌, ◌-◌, ◌*◌, ◌%◌, ◌≤◌}
use native.Mathlib.Nat.{div-add-mod, mul_comm}
use native.Mathlib.Omega.{arith}
use native.Mathlib.Decide.{dec_lt}
use mathlib.Core.Path.{◌≡◌, refl, ap}
use mathlib.Core.Logic.{by_cases}
use mathlib.Core.Bool.{Bool, true, false, not}
use mathlib.Core.List as Lists
use lib.ListN.{length}
use borrow.Author.Tests.{eq-eqb, ne_eqb, le-leb}
use Rattle.basics.proofs.Facts.{both, implies, within_of, every_all, all_at}
use Rattle.label.specs.Labels as Labels
use Rattle.label.specs.Rows.{no_ring}
use Rattle.simulation.specs.Calls.{Board, station_of, sized, idle, Entry, entry}
use Rattle.simulation.specs.Machine.{State}
use Rattle.simulation.proofs.Simulation.{Proper, stepwise}
use Rattle.transition.specs.WellFormed.{label_fits, list_fits, state_fits, states}
use Rattle.transition.proofs.Written.{Sized, sized_some, Writable}
use Rattle.transition.proofs.Reached.{Sound, Idles, Reached, choice_ring_free}
use Rattle.transition.proofs.Theorem.{Lawful}

pub record Fitting (B : Board) (n : ℕ) (s : State Labels.Label) : Type 0 where
  pub writable : Writable B n s
  pub digits : (x : Bool) (i p : ℕ) → (B.fill ≤ s.labels x i p) × (s.labels x i p ≤ 5)
  pub behind : (x : Bool) (i p : ℕ) → n - 1 ≤ p → s.labels x i p ≡ B.fill
  pub sound : (g : ℕ) → Sound n (s.rest.result g)
  pub idles : (i : ℕ) → Idles (s.rest.process i)
  pub free : no_ring (n - 1) (s.labels false) ≡ true

-- REACHED STATES have them
pub reached_fitting : {B : Board} → Proper B → (n : ℕ) → Sized B n → (s : State Labels.Label) → Reached B n s → Fitting B n s
reached_fitting {B} (stepwise per known apart h) n z s r = record {
  writable = r.writable;
  digits = λ x i q. by_cases (dec_lt i n) (λ l. r.ready.inv.digits x i (omega arith) q)
      (λ l. let e = ap (λ (a : Labels.Label). a q) (r.writable.blank x i (omega arith)) in (omega arith, omega arith));
  behind = r.ready.behind;
  sound = r.sound;
  idles = r.idles;
  free = choice_ring_free B n (sized_some z) r (λ i. false);
}

-- AS THEY ARE TESTED
sized_yes : {B : Board} {n : ℕ} → Sized B n → sized B n ≡ true
sized_yes {B} {n} z = both (within_of (2 * B.per_station) (32 * B.per_station) n z.low z.high)
    (eq-eqb (n % B.per_station) 0 (omega (arith, div-add-mod n B.per_station, z.whole, mul_comm B.per_station (station_of B n))))

module _ {B : Board} (n : ℕ) (z : Sized B n) (s : State Labels.Label) (f : Fitting B n s) where
  label_fits_lem : (x : Bool) (i : ℕ) → label_fits B n (s.labels x i) ≡ true
  unfolding label_fits
  label_fits_lem x i = both
      (every_all (n - 1) _ (λ q _. let w = f.digits x i q in within_of B.fill 5 _ w.0 w.1))
      (every_all (32 * B.per_station - n) _ (λ q _. eq-eqb _ _ (f.behind x i (n - 1 + q) (omega arith))))

  list_fits_lem : (l : Lists.List Entry) → Sound n l → length l ≤ n → list_fits B n l ≡ true
  unfolding list_fits
  list_fits_lem l a few = both (both (le-leb (length l) n few)
      (every_all (length l) _ (λ q h. let e = all_at _ l (entry 0 0) a.each q h in
      both (within_of 1 n _ e.0 e.1) (ap not (ne_eqb _ 0 e.2)))))
      (every_all n _ (λ i li. le-leb _ 1 (a.once i li)))

  pub fitting_fits : state_fits B n s ≡ true
  unfolding state_fits
  fitting_fits = both (both (both (sized_yes z)
      (every_all n _ (λ i li. both (both (label_fits_lem false i) (label_fits_lem true i))
      (both (f.writable.rest.phase i) (implies (s.rest.process i).out (λ e. ap idle (f.idles i e)))))))
      (every_all (station_of B n) _ (λ g _. list_fits_lem (s.rest.result g) (f.sound g) (f.writable.rest.listed g).0)))
      f.free

pub states_lawful : {B : Board} → Proper B → Lawful (states B)
states_lawful p = record { proper = p; counted = λ n s. refl; held = λ n z s r. refl; passes = λ n z s r. fitting_fits n z s (reached_fitting p n z s r) }
