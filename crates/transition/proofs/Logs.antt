-- The test of a log is exact; tables of labels write right logs; and how long a right log is (02, Card 7).
use Prim.Native.Nat.{ℕ, suc, ◌+◌, ◌*◌, ◌≤◌, ◌<◌}
use native.Mathlib.Nat.{mul-suc, mul-le-mul_left}
use native.Mathlib.Omega.{arith}
use mathlib.Core.Path.{◌≡◌, refl, sym, ap, ap₂, ◌∙◌}
use mathlib.Core.Logic.{◌↔◌}
use mathlib.Core.Bool.{Bool, true, false, ◌&&◌, cond, true≢false}
use mathlib.Core.List as Lists
use mathlib.Core.List.{[], ◌∷◌, ◌++◌, map, map-map}
use lib.ListN.{length, get_or, drop, length-append, drop_of_length-le}
use lib.Seq.{drop-cons, drop-append_seam}
use lib.Dec.{eqb, ltb, leb}
use borrow.Author.Tests.{eqb-true, eq-eqb, ne_eqb, ltb-true, lt-ltb, leb-true, le-leb}
use Rattle.basics.specs.Tests.{count, newest, ordered, All}
use Rattle.basics.proofs.Facts.{tf, and_both, both, is_false, all_weaken, bit_one}
use Rattle.basics.proofs.Counts.{count_none, count_but}
use Rattle.simulation.specs.Calls.{Call, place, Label, Scan, Buffer, Phase, Idle, Update, Snap, End, Process, Rest, Move, judge, bytes_of, written, Board}
use Rattle.simulation.specs.Machine.{Labelling, stands, LabelStep, stay, snap, update, label_step, label_snap, carry_out, State, fresh, in_phase, begun, updated}
use Rattle.simulation.specs.Machine.{set_out, changed, Answer, step, snaps_of, Seen}
use Rattle.simulation.specs.Machine as Machine
use Rattle.simulation.specs.Numbered.{numbered, LabelSnap, met, label_snaps, Fit, Fits}
use Rattle.simulation.proofs.Advances.{met_length, fit_weaken}
use Rattle.simulation.proofs.Judged.{Own, own_place, VerdictIn, turned, begins, begins_scan, scans, updates, snaps, ends, service, verdict_in}
use Rattle.simulation.proofs.Reports.{lines_length}
use Rattle.transition.specs.Forms.{Form, TableAnswer, fresh_table, step_of}
use Rattle.transition.specs.Demand.{run_table, seen_in}
use Rattle.transition.specs.Demand as Demand
use Rattle.transition.specs.Numbers.{with_numbers, Numbers}
use Rattle.transition.specs.Logs.{lists, Right, fits_next, at_front, right}

-- WHAT STANDS AT THE FRONT OF A LIST

pub front_append : (l m : Lists.List ℕ) → at_front l (l ++ m) ≡ true
unfolding at_front
front_append [] m = refl
front_append (x ∷ l) m = both (eq-eqb x x refl) (front_append l m)

pub front_split : (l m : Lists.List ℕ) → at_front l m ≡ true → m ≡ l ++ drop (length l) m
unfolding at_front
front_split [] m h = refl
front_split (x ∷ l) [] h = absurd (true≢false (sym h))
front_split (x ∷ l) (y ∷ m) h =
    let t = and_both (eqb x y) (at_front l m) h in
    ap₂ ◌∷◌ (sym (eqb-true x y t.0)) (front_split l m t.1)

-- by what follows it
pub front_rest : (l m rest : Lists.List ℕ) → ((at_front l m ≡ true) × (drop (length l) m ≡ rest)) ↔ (m ≡ l ++ rest)
front_rest l m rest = (
  (λ h. front_split l m h.0 ∙ ap (λ x. l ++ x) h.1),
  (λ e. (ap (at_front l) e ∙ front_append l rest, ap (drop (length l)) e ∙ drop-append_seam l rest)),
)

-- not in a shorter one
pub front_short : (l m : Lists.List ℕ) → length m < length l → at_front l m ≡ false
front_short l m s = is_false (λ h. omega (arith, ap length (front_split l m h) ∙ length-append l (drop (length l) m)))

-- element by element, from the places i and j on
pub front_from : (l m : Lists.List ℕ) (i j : ℕ) → i < length l → j < length m
    → at_front (drop i l) (drop j m) ≡ (eqb (get_or l i 0) (get_or m j 0) && at_front (drop (suc i) l) (drop (suc j) m))
unfolding at_front
front_from l m i j h k = rw (drop-cons l i 0 h, drop-cons m j 0 k) refl

pub front_end : (l m : Lists.List ℕ) (i : ℕ) → length l ≤ i → at_front (drop i l) m ≡ true
unfolding at_front
front_end l m i h = rw (drop_of_length-le l h) refl

-- THE TEST, exactly

-- one number
fits_number : (x : LabelSnap)
    → (cond x.by_newest (eqb x.number 0) (ltb x.top x.number && leb x.number 4294967295) ≡ true) ↔ Fit 4294967295 x
fits_number x = go x.by_newest refl
  where
    go : (b : Bool) → x.by_newest ≡ b
        → (cond b (eqb x.number 0) (ltb x.top x.number && leb x.number 4294967295) ≡ true) ↔ Fit 4294967295 x
    go true e = (
      (λ h. record { newest = λ _. eqb-true x.number 0 h; other = λ d. absurd (tf e d) }),
      (λ f. eq-eqb x.number 0 (f.newest e)),
    )
    go false e = (
      (λ h.
          let t = and_both (ltb x.top x.number) (leb x.number 4294967295) h in
          record { newest = λ d. absurd (tf d e); other = λ _. (ltb-true _ _ t.0, leb-true _ _ t.1) }),
      (λ f. both (lt-ltb _ _ (f.other e).0) (le-leb _ _ (f.other e).1)),
    )

-- one call: its number, and the numbers of the others, for which the snaps xs are met
fits_call : (n : ℕ) (l : Labelling ℕ) (w : LabelStep) (ns : Lists.List ℕ) (xs : Lists.List LabelSnap) → let ys = met n l w (get_or ns 0 0) ++ xs in
    ((fits_next n l w ns ≡ true) × (length (drop (label_snap w) ns) ≡ length xs) × All (Fit 4294967295) xs)
    ↔ ((length ns ≡ length ys) × All (Fit 4294967295) ys)
unfolding fits_next met
fits_call n l stay ns xs = ((λ h. (h.1, h.2)), λ h. (refl, h.0, h.1))
fits_call n l (snap k) [] xs = ((λ h. absurd (true≢false (sym h.0))), λ h. absurd (omega (arith, h.0)))
fits_call n l (snap k) (v ∷ ns) xs = (
  (λ h. (ap suc h.1, ((fits_number x).0 h.0, h.2))),
  (λ h. ((fits_number x).1 h.1.0, omega (arith, h.0), h.1.1)),
)
  where
    x : LabelSnap
    x = let z = newest n (stands (numbered v) l) in record { by_newest = eqb k z; top = l false z; number = v }
fits_call n l (update k) ns xs = ((λ h. (h.1, h.2)), λ h. (refl, h.0, h.1))

empty : (l : Lists.List ℕ) → length l ≡ 0 → l ≡ []
empty [] e = refl
empty (x ∷ l) e = absurd (omega arith)

-- what the unbounded machine writes from a state on
abbrev writes : Board → ℕ → State ℕ → Lists.List ℕ → Lists.List Call → Lists.List ℕ
writes B n s ns cs = lists (map (λ a. a.report) (Machine.run B n numbered s ns cs))

-- all calls, from any state on
exactly : (B : Board) (n : ℕ) (cs : Lists.List Call) (s : State ℕ) (ns bytes : Lists.List ℕ)
    → (right B n s ns bytes cs ≡ true) ↔ (Fits B n 4294967295 s ns cs × (bytes ≡ writes B n s ns cs))
unfolding right lists Machine.run label_snaps snaps_of
exactly B n [] s ns bytes = (
  (λ h.
      let t = and_both (eqb (length ns) 0) (eqb (length bytes) 0) h in
      (record { one = eqb-true _ 0 t.0; each = tt }, empty bytes (eqb-true _ 0 t.1))),
  (λ h. both (eq-eqb _ 0 h.0.one) (eq-eqb _ 0 (ap length h.1))),
)
exactly B n (c ∷ cs) s ns bytes = go (exactly B n cs s' ns' rest)
  where
    a : Answer ℕ
    a = step B n (numbered (get_or ns 0 0)) s c

    s' : State ℕ
    s' = a.state

    ns' : Lists.List ℕ
    ns' = drop (snaps_of B n s c) ns

    mine : Lists.List ℕ
    mine = bytes_of a.report

    rest : Lists.List ℕ
    rest = drop (length mine) bytes

    w : LabelStep
    w = label_step (judge B n s.rest c)

    go : (right B n s' ns' rest cs ≡ true) ↔ (Fits B n 4294967295 s' ns' cs × (rest ≡ writes B n s' ns' cs))
        → ((fits_next n s.labels w ns && (at_front mine bytes && right B n s' ns' rest cs)) ≡ true)
        ↔ (Fits B n 4294967295 s ns (c ∷ cs) × (bytes ≡ mine ++ writes B n s' ns' cs))
    go (to, from) =
        let number = fits_call n s.labels w ns (label_snaps B n s' ns' cs) in
        let lines = front_rest mine bytes (writes B n s' ns' cs) in (
          (λ h.
              let t = and_both (fits_next n s.labels w ns) _ h in
              let u = and_both (at_front mine bytes) _ t.1 in
              let r = to u.1 in
              let f = number.0 (t.0, r.0.one, r.0.each) in
              (record { one = f.0; each = f.1 }, lines.0 (u.0, r.1))),
          (λ h.
              let f = number.1 (h.0.one, h.0.each) in
              let b = lines.1 h.1 in
              both f.0 (both b.0 (from (record { one = f.1; each = f.2 }, b.1)))),
        )

-- A yes to a log exactly if it is right, on every board and for every n
pub right_exactly : (B : Board) (n : ℕ) (calls : Lists.List Call) (ns bytes : Lists.List ℕ)
    → (right B n (fresh 0) ns bytes calls ≡ true) ↔ Right B n calls ns bytes
right_exactly B n calls ns bytes =
    let e = exactly B n calls (fresh 0) ns bytes in
    ((λ h. let t = e.0 h in record { fits = t.0; report = t.1 }), λ r. e.1 (r.fits, r.report))

-- HOW LONG a right log is: as many numbers as calls at most, and a report that fills half of their buffers at most

met_few : (B : Board) (n : ℕ) (cs : Lists.List Call) (s : State ℕ) (ns : Lists.List ℕ) → length (label_snaps B n s ns cs) ≤ length cs
unfolding label_snaps
met_few B n [] s ns = omega arith
met_few B n (c ∷ cs) s ns =
    let v = get_or ns 0 0 in
    let w = label_step (judge B n s.rest c) in
    let s' = (step B n (numbered v) s c).state in
    let ns' = drop (snaps_of B n s c) ns in
    omega (arith, length-append (met n s.labels w v) (label_snaps B n s' ns' cs), met_length n s.labels v w, one w, met_few B n cs s' ns')
  where
    one : (w : LabelStep) → label_snap w ≤ 1
    one stay = omega arith
    one (snap k) = omega arith
    one (update k) = omega arith

pub numbers_few : {B : Board} {n : ℕ} {calls : Lists.List Call} {ns bytes : Lists.List ℕ} → Right B n calls ns bytes → length ns ≤ length calls
numbers_few {B} {n} {calls} {ns} R = omega (arith, R.fits.one, met_few B n calls (fresh 0) ns)

-- A report fills half of the buffers at most: a call that hands out ends a scan, and another has begun it. So what counts is how many processes are due to
-- end a scan; each call makes one more of them at most, and one that hands out one fewer.
abbrev ends_scan : Phase → Bool
ends_scan Idle = false
ends_scan Update = false
ends_scan (Snap o) = false
ends_scan (End Label) = false
ends_scan (End Scan) = true

abbrev endings : ℕ → Rest → ℕ
endings n o = count n (λ i. ends_scan (o.process i).phase)

-- what is handed out fits the buffer that is lent: an end without room is refused
handed_half : (B : Board) (n b : ℕ) (c : Call) (order : Lists.List ℕ) (o : Rest) → c.room ≡ Buffer b → let a = carry_out B order o (judge B n o c) in
    2 * (length a.handed * 29) + b * endings n a.rest ≤ b + b * endings n o
unfolding carry_out
handed_half B n b c order o e = go (verdict_in B n o c)
  where
    k : ℕ
    k = place c

    after : (Process → Process) → ℕ → Bool
    after f i = ends_scan ((changed o k f).process i).phase

    one : Own n c → (f : Process → Process)
        → cond (ends_scan (o.process k).phase) 1 0 + count n (after f) ≡ cond (ends_scan (f (o.process k)).phase) 1 0 + endings n o
    one own f =
        let p = count_but n k (λ i. ends_scan (o.process i).phase) (after f) (own_place own) (λ j d. rw (ne_eqb j k d) refl) in
        rw (eq-eqb k k refl) at p

    more : Own n c → (f : Process → Process) → b * count n (after f) ≤ b + b * endings n o
    more own f =
        let up : count n (after f) ≤ suc (endings n o) = omega (arith, one own f, bit_one (ends_scan (f (o.process k)).phase)) in
        omega (arith, mul-le-mul_left b up, mul-suc b (endings n o))

    go : {w : Move} → VerdictIn B n o c w → let a = carry_out B order o w in
        2 * (length a.handed * 29) + b * endings n a.rest ≤ b + b * endings n o
    go (turned x d) = omega arith
    go (begins own f) = omega (arith, more own (begun c.job))
    go (begins_scan own f a) = omega (arith, more own (in_phase (Snap Scan)))
    go (scans own f a) = omega (arith, more own (in_phase (End Scan)))
    go (updates own q) = omega (arith, more own updated)
    go (snaps own Label q t) = omega (arith, more own (in_phase Update))
    go (snaps own Scan q t) = omega (arith, more own (in_phase (End Scan)))
    go (ends own Label q h) = omega (arith, more own (in_phase Idle))
    go (ends own Scan q h) =
        let fewer = one own (in_phase Idle) in
        let left = count n (after (in_phase Idle)) in
        let due : endings n o ≡ suc left = omega (arith, rw q at fewer) in
        omega (arith, leb-true _ b (rw e at h), ap (λ p. b * p) due, mul-suc b left)
    go (service own x q) = omega (arith, more own (set_out x))

writes_half : (B : Board) (n b : ℕ) (cs : Lists.List Call) → All (λ c. c.room ≡ Buffer b) cs → (s : State ℕ) (ns : Lists.List ℕ)
    → 2 * length (writes B n s ns cs) ≤ b * length cs + b * endings n s.rest
unfolding lists Machine.run step
writes_half B n b [] h s ns = omega arith
writes_half B n b (c ∷ cs) h s ns =
    let r = numbered (get_or ns 0 0) in
    let a = step B n r s c in
    let ns' = drop (snaps_of B n s c) ns in
    let order = ordered n (stands r s.labels) in
    let l = (carry_out B order s.rest (judge B n s.rest c)).handed in
    omega (
      arith,
      length-append (bytes_of a.report) (writes B n a.state ns' cs),
      ap (λ r. length (bytes_of (written c.line r l))) h.0 ∙ lines_length c.line 1 l,
      handed_half B n b c order s.rest h.0,
      writes_half B n b cs h.1 a.state ns',
      mul-suc b (length cs),
    )

pub report_half : {B : Board} (b : ℕ) {n : ℕ} {calls : Lists.List Call} {ns bytes : Lists.List ℕ} → All (λ c. c.room ≡ Buffer b) calls → Right B n calls ns bytes
    → 2 * length bytes ≤ b * length calls
report_half {B} b {n} {calls} {ns} h R =
    omega (arith, ap length R.report, writes_half B n b calls h (fresh 0) ns, ap (λ p. b * p) (count_none n (λ i. false) (λ j l. refl)))

-- RIGHT LOGS: numbers that do for the calls (02, Card 6), with the lists of the table of labels
pub logged : {F : Form} {n : ℕ} {calls : Lists.List Call} {ns : Lists.List ℕ} → Numbers F n calls ns → length calls ≤ 4294967295
    → Right F.board n calls ns (lists (map (λ a. a.report) (run_table (step_of F) (fresh_table F n) calls)))
logged {F} {n} {calls} {ns} N few = record {
  fits = record { one = N.fits.one; each = all_weaken (fit_weaken low) (label_snaps F.board n (fresh 0) ns calls) N.fits.each };
  report = ap lists (sym (map-map (λ (s : Seen). s.report) (seen_in F) xs) ∙ ap (map (λ (s : Seen). s.report)) N.same
      ∙ map-map (λ (s : Seen). s.report) (Machine.seen F.board n) ys);
}
  where
    xs : Lists.List (TableAnswer F.Table)
    xs = run_table (step_of F) (fresh_table F n) calls

    ys : Lists.List (Answer ℕ)
    ys = with_numbers F.board n ns calls

    low : Demand.table_snaps F (fresh_table F n) calls ≤ 4294967295
    low = omega (arith, N.each, N.fits.one, met_few F.board n calls (fresh 0) ns)
