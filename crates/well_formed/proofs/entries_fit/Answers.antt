use Rattle.std.proofs.Common.{◌≡◌, ℕ, ◌&&◌, not, eqb, leb, length, take, refl, ◌∙◌, arith}
use Rattle.std.proofs.lemmas.List.{get_or-take, length_push}
use Rattle.std.proofs.lemmas.Slice.Zip.{zip_turn}
use Rattle.basics.proofs.Loops.{flag_more}
use Rattle.arrays.specs.WellFormed.{entry_fits}
use Rattle.well_formed.proofs.entries_fit.Goals as goal

entry_at : (most s j : ℕ) {x y : ℕ} → x ≡ s → y ≡ j → (leb 1 x && leb x most && not (eqb y 0)) ≡ entry_fits most s j
entry_at most s j e f = rw (e, f) refl

pub loop-station-preserved : goal.loop-station-preserved
loop-station-preserved c =
    let a = c.args in
    let read = c.loop-station.yielded in
    let t = zip_turn (take a.k a.stations.now) (take a.k a.jobs.now) read c.into_iter-station-iterator.result c.loop-station.station-iterator
    c.next.new.self c.next.result (cc) (cc) c.loop-station.yielded_by (c.in-Some.station, c.in-Some.job) c.in-Some.is c.next.ensures.steps in
    rw (length_push read (c.in-Some.station, c.in-Some.job)) (flag_more _ _ c.loop-station.invariant
    (entry_at a.most _ _ (t.2 0 ∙ get_or-take a.k a.stations.now (length read) 0 (omega arith)) (t.3 0 ∙ get_or-take a.k a.jobs.now (length read) 0 (omega arith))))
