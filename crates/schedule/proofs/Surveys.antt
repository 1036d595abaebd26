-- The lines of a part of a file, only read: what is known after some of them.
use Prim.Native.Nat.{ℕ, zero, suc, min, ◌+◌, ◌-◌, ◌≤◌, ◌<◌}
use native.Mathlib.Nat.{add-zero}
use native.Mathlib.Omega.{arith}
use mathlib.Core.Path.{◌≡◌, refl, sym, ap, ◌∙◌}
use mathlib.Core.Logic.{◌≢◌}
use mathlib.Core.Bool.{Bool, true, false, cond}
use mathlib.Core.List as Lists
use mathlib.Core.List.{[], ◌∷◌, ◌++◌, append-nil}
use lib.ListN.{length, take, drop, length-drop}
use lib.Seq.{take_at, drop_at}
use lib.Dec.{eqb, ltb}
use borrow.Author.Tests.{lt-ltb}
use Rattle.std.specs.Prelude.{Option, Some, None, Result, Ok, Err}
use Rattle.std.proofs.lemmas.Bool.Decides.{nat_tests}
use Rattle.std.proofs.lemmas.List.{nil_from_length}
use Rattle.basics.specs.Tests.{passing}
use Rattle.basics.proofs.Passing.{passing_cons}
use Rattle.simulation.specs.Calls.{original, Call}
use Rattle.moves.specs.Moves.{final_number}
use Rattle.moves.proofs.MoveLaws.{positive, accepted}
use Rattle.moves.specs.declared.Refusal.{Refusal}
use Rattle.moves.specs.declared.Refusal.TheVariants.{TooManySteps}
use Rattle.schedule.specs.Lines.{next_line, header_read, line_call}
use Rattle.schedule.specs.Files.{cut, pieces, lines_of, step_lines}
use Rattle.schedule.specs.Demand.{call_then, step_calls, end_then, ending, file_calls}
use Rattle.schedule.specs.Numbers.{final_after, final_of, surveyed, snap_calls, Surveys}
use Rattle.schedule.proofs.SessionLaws.{next_within}
use Rattle.schedule.proofs.Cuts.{lines_append, joined, Whole}
use Rattle.schedule.proofs.Runs.{rest_after}
use Rattle.schedule.proofs.Places.{lines_chunk}
use Rattle.schedule.specs.declared.Line.{Line}
use Rattle.schedule.specs.declared.Survey.{Survey}

-- one, or none
abbrev pub one : Bool → ℕ
one b = cond b 1 0

pub one_few : (b : Bool) → one b ≤ 1
one_few true = omega arith
one_few false = omega arith

-- one call more of step 3, or not
pub snap_calls_lem : (c : Call) (cs : Lists.List Call) → snap_calls (c ∷ cs) ≡ one (eqb c.code 3) + snap_calls cs
snap_calls_lem c cs = passing_cons (λ (c : Call). eqb c.code 3) c cs

-- THE LOOP: `steps` lines are read, all of them steps, and `snaps` of them of step 3; what the whole part comes to is that and what the rest comes to
pub record Surveyed (lines : ℕ) (chunk : Lists.List ℕ) (steps snaps : ℕ) (rest : Lists.List ℕ) : Type 0 where
  pub few : steps ≤ 1000001 - lines
  pub fewer : snaps ≤ steps
  pub refusal : ending lines (lines_of chunk) ≡ ending (lines + steps) (lines_of rest)
  pub counted : length (step_calls original lines (lines_of chunk)) ≡ steps + length (step_calls original (lines + steps) (lines_of rest))
  pub snapped : snap_calls (step_calls original lines (lines_of chunk)) ≡ snaps + snap_calls (step_calls original (lines + steps) (lines_of rest))

pub surveyed_start : (lines : ℕ) (chunk : Lists.List ℕ) → Surveyed lines chunk 0 0 chunk
surveyed_start lines chunk =
    let none : lines + 0 ≡ lines = omega arith in
    record {
      few = omega arith;
      fewer = omega arith;
      refusal = ap (λ k. ending k (lines_of chunk)) (sym none);
      counted = omega (arith, ap (λ k. length (step_calls original k (lines_of chunk))) none);
      snapped = omega (arith, ap (λ k. snap_calls (step_calls original k (lines_of chunk))) none);
    }

module _ {lines : ℕ} {chunk : Lists.List ℕ} {steps snaps : ℕ} {left : Lists.List ℕ} (f : Surveyed lines chunk steps snaps left) where
  -- the reading ends with r, and no step is left
  ended : (r : Option Refusal) → step_calls original (lines + steps) (lines_of left) ≡ [] → ending (lines + steps) (lines_of left) ≡ r
      → Surveys lines chunk (record { refusal = r; steps = steps; snaps = snaps })
  unfolding passing
  ended r none e = record {
    refusal = sym (f.refusal ∙ e);
    steps = omega (arith, f.counted, ap length none);
    snaps = omega (arith, f.snapped, ap snap_calls none);
  }

  -- where nothing is left
  pub surveyed_end : length left ≡ 0 → Surveys lines chunk (record { refusal = None; steps = steps; snaps = snaps })
  unfolding cut step_calls ending
  surveyed_end e =
      let none : left ≡ [] = nil_from_length left e in
      ended None (rw none refl) (rw none refl)

  module _ (line rest : Lists.List ℕ) (parts : left ≡ line ++ rest) (long : length line ≡ min 18 (length left)) (some : 0 < length left) where
    lines_are : lines_of left ≡ line ∷ lines_of rest
    lines_are = lines_chunk left line rest parts long some

    -- a line that is refused
    pub surveyed_stop : {r : Refusal} → next_line (lines + steps) line ≡ Err r → Surveys lines chunk (record { refusal = Some r; steps = steps; snaps = snaps })
    unfolding step_calls ending
    surveyed_stop {r} e = ended (Some r) (rw (lines_are, e) refl) (rw (lines_are, e) refl)

    -- one step more
    pub surveyed_more : {q : Line} → next_line (lines + steps) line ≡ Ok q → {snaps' : ℕ} → snaps' ≡ snaps + one (eqb q.code 3)
        → Surveyed lines chunk (steps + 1) snaps' rest
    unfolding step_calls ending
    surveyed_more {q} g {snaps'} e =
        let k = lines + steps in
        let c = line_call original k q in
        let cs = step_calls original (k + 1) (lines_of rest) in
        let calls : step_calls original k (lines_of left) ≡ c ∷ cs = rw (lines_are, g) refl in
        let last : ending k (lines_of left) ≡ ending (k + 1) (lines_of rest) = rw (lines_are, g) refl in
        let same : lines + steps + 1 ≡ lines + (steps + 1) = omega arith in
        let low = one_few (eqb q.code 3) in
        record {
          few = omega (arith, next_within k line q g);
          fewer = omega (arith, e, low, f.fewer);
          refusal = f.refusal ∙ last ∙ ap (λ i. ending i (lines_of rest)) same;
          counted = omega (arith, f.counted, ap length calls, ap (λ i. length (step_calls original i (lines_of rest))) same);
          snapped = omega (
            arith,
            e,
            f.snapped,
            ap snap_calls calls ∙ snap_calls_lem c cs,
            ap (λ i. snap_calls (step_calls original i (lines_of rest))) same,
          );
        }

-- A PART WITHOUT A FINAL REFUSAL: all its lines are steps, and none is one too many
all_steps : (gs : Lists.List (Lists.List ℕ)) (lines : ℕ) → lines ≤ 1000001 → final_number (ending lines gs) ≡ 0
    → (length (step_calls original lines gs) ≡ length gs) × (lines + length gs ≤ 1000001)
unfolding step_calls ending
all_steps [] lines h z = (refl, omega arith)
all_steps (g ∷ gs) lines h z = go (next_line lines g) refl z (all_steps gs)
  where
    go : (w : Result Line Refusal) → next_line lines g ≡ w → final_number (end_then w (ending (lines + 1) gs)) ≡ 0
        → ((lines : ℕ) → lines ≤ 1000001 → final_number (ending lines gs) ≡ 0 → (length (step_calls original lines gs) ≡ length gs) × (lines + length gs ≤ 1000001))
        → (length (call_then original lines w (step_calls original (lines + 1) gs)) ≡ length (g ∷ gs)) × (lines + length (g ∷ gs) ≤ 1000001)
    go (Err r) e z ih = absurd (positive r z)
    go (Ok q) e z ih =
        let u = ih (lines + 1) (omega (arith, next_within lines g q e)) z in
        (omega (arith, u.0), omega (arith, u.1))

length_cut : (k : ℕ) (bs : Lists.List ℕ) → length (cut k bs) ≡ k
unfolding cut
length_cut zero bs = refl
length_cut (suc k) bs = omega (arith, length_cut k (drop 18 bs))

pub all_lines : (chunk : Lists.List ℕ) (lines : ℕ) → lines ≤ 1000001 → final_number (ending lines (lines_of chunk)) ≡ 0
    → (length (step_calls original lines (lines_of chunk)) ≡ pieces chunk) × (lines + pieces chunk ≤ 1000001)
all_lines chunk lines h z =
    let u = all_steps (lines_of chunk) lines h z in
    let long : length (lines_of chunk) ≡ pieces chunk = length_cut (pieces chunk) chunk in
    (u.0 ∙ long, omega (arith, u.1, long))

pub survey_on : {lines : ℕ} {chunk : Lists.List ℕ} {r : Survey} → Surveys lines chunk r → lines ≤ 1000001 → 0 < length chunk → final_number r.refusal ≡ 0
    → (0 < r.steps) × (lines + r.steps ≤ 1000001)
survey_on {lines} {chunk} {r} f h some z =
    let u = all_lines chunk lines h (ap final_number (sym f.refusal) ∙ z) in
    (omega (arith, f.steps, u.0), omega (arith, f.steps, u.0, u.1))

-- A LONG FILE, of a header and 4,097 lines or more: it is refused by a final refusal or by 16
pub long_file : (bs : Lists.List ℕ) (next : Option Refusal) → 73764 ≤ length bs → final_number (final_of bs) ≡ 0
    → surveyed (final_of bs) (length (file_calls original bs)) next ≡ Some TooManySteps
long_file bs next h z = rw (accepted _ z) (go (header_read original (take 18 bs)) refl)
  where
    go : (x : Result ℕ Refusal) → header_read original (take 18 bs) ≡ x → cond (ltb 4096 (length (file_calls original bs))) (Some TooManySteps) next ≡ Some TooManySteps
    go (Err r) e = absurd (positive r (rw e at z))
    go (Ok n) e =
        let many : 4096 < length (file_calls original bs) = omega (arith, all_lines (drop 18 bs) 1 (omega arith) (rw e at z), length-drop 18 bs) in
        rw (lt-ltb 4096 (length (file_calls original bs)) many) refl

-- A FILE THAT IS ONLY READ, IN PARTS, each but the last of whole lines: its final refusal is that of the first part that has one, where each part goes on
-- with the count of lines that the one before it left

-- a refusal, or another where there is none
abbrev pub first_of : Option Refusal → Option Refusal → Option Refusal
first_of (Some r) s = Some r
first_of None s = s

pub first_kept : (r s : Option Refusal) → final_number r ≢ 0 → first_of r s ≡ r
first_kept (Some r) s d = refl
first_kept None s d = absurd (d refl)

pub first_passed : (r s : Option Refusal) → final_number r ≡ 0 → first_of r s ≡ s
first_passed (Some r) s e = absurd (positive r e)
first_passed None s e = refl

abbrev pub survey_parts : ℕ → Lists.List (Lists.List ℕ) → Option Refusal
survey_parts lines [] = None
survey_parts lines (p ∷ ps) = first_of (ending lines (lines_of p)) (survey_parts (lines + length (step_calls original lines (lines_of p))) ps)

ending_append : (gs hs : Lists.List (Lists.List ℕ)) (lines : ℕ) → ending lines (gs ++ hs) ≡ first_of (ending lines gs) (ending (lines + length (step_calls original lines gs)) hs)
unfolding ending step_calls
ending_append [] hs lines = ap (λ k. ending k hs) (sym (add-zero lines))
ending_append (g ∷ gs) hs lines = go (next_line lines g) (ending_append gs hs (lines + 1))
  where
    go : (w : Result Line Refusal)
        → ending (lines + 1) (gs ++ hs) ≡ first_of (ending (lines + 1) gs) (ending (lines + 1 + length (step_calls original (lines + 1) gs)) hs)
        → end_then w (ending (lines + 1) (gs ++ hs))
        ≡ first_of (end_then w (ending (lines + 1) gs)) (ending (lines + length (call_then original lines w (step_calls original (lines + 1) gs))) hs)
    go (Err r) ih = refl
    go (Ok q) ih =
        let same : lines + 1 + length (step_calls original (lines + 1) gs) ≡ lines + suc (length (step_calls original (lines + 1) gs)) = omega arith in
        ih ∙ ap (λ k. first_of (ending (lines + 1) gs) (ending k hs)) same

pub survey_parts_lem : (ps : Lists.List (Lists.List ℕ)) (lines : ℕ) → Whole ps → ending lines (lines_of (joined ps)) ≡ survey_parts lines ps
unfolding cut ending step_calls
survey_parts_lem [] lines w = refl
survey_parts_lem (p ∷ []) lines w = ap (λ b. ending lines (lines_of b)) (append-nil p) ∙ go (ending lines (lines_of p))
  where
    go : (r : Option Refusal) → r ≡ first_of r None
    go None = refl
    go (Some r) = refl
survey_parts_lem (p ∷ (q ∷ ps)) lines w =
    let b = joined (q ∷ ps) in
    ap (ending lines) (lines_append w.0.0 p b w.0.1) ∙ ending_append (lines_of p) (lines_of b) lines
    ∙ ap (first_of (ending lines (lines_of p))) (survey_parts_lem (q ∷ ps) (lines + length (step_calls original lines (lines_of p))) w.1)

-- the header before such parts
pub parts_final : (h : Lists.List ℕ) (ps : Lists.List (Lists.List ℕ)) → length h ≡ 18 → Whole ps → (n : ℕ) → header_read original h ≡ Ok n
    → final_of (h ++ joined ps) ≡ survey_parts 1 ps
parts_final h ps e w n q = rw (take_at h (joined ps) 18 e, drop_at h (joined ps) 18 e, q) (survey_parts_lem ps 1 w)

-- what comes after 16 comes where nothing before it refuses
pub surveyed_next : (final : Option Refusal) (steps : ℕ) (next : Option Refusal) → surveyed final steps next ≡ first_of (surveyed final steps None) next
surveyed_next (Some r) steps next = refl
surveyed_next None steps next = grind (arith, nat_tests)

-- and all of them pass only where none refuses
pub surveyed_none : (final : Option Refusal) (steps : ℕ) (next : Option Refusal) → final_number (surveyed final steps next) ≡ 0
    → (final_number final ≡ 0) × (final_number next ≡ 0) × (steps ≤ 4096)
surveyed_none (Some r) steps next z = absurd (positive r z)
surveyed_none None steps next z = grind (arith, nat_tests)

pub surveyed_served : (final : Option Refusal) (steps : ℕ) (next : Option Refusal) → final_number (surveyed final steps next) ≡ 0
    → final_number (surveyed final steps None) ≡ 0
surveyed_served (Some r) steps next z = z
surveyed_served None steps next z = grind (arith, nat_tests)

-- a refused header refuses the file, whatever its lines
pub surveyed_header : (bs : Lists.List ℕ) {l : Lists.List ℕ} → l ≡ take 18 bs → {r : Refusal} → header_read original l ≡ Err r → (steps : ℕ) (next : Option Refusal)
    → surveyed (final_of bs) steps next ≡ Some r
surveyed_header bs p e steps next = rw (ap (header_read original) (sym p) ∙ e) refl

-- A FILE behind an accepted header: its lines are read as one part
module _ (bs : Lists.List ℕ) {l : Lists.List ℕ} (p : l ≡ take 18 bs) {n : ℕ} (e : header_read original l ≡ Ok n) {rest : Lists.List ℕ}
    (q : rest ≡ drop (length l) bs) where
  pub header_told : header_read original (take 18 bs) ≡ Ok n
  header_told = ap (header_read original) (sym p) ∙ e

  pub calls_told : step_calls original 1 (lines_of rest) ≡ file_calls original bs
  calls_told = ap (λ x. step_calls original 1 (lines_of x)) (q ∙ rest_after bs l p)

  module _ {s : Survey} (f : Surveys 1 rest s) where
    pub final_told : s.refusal ≡ final_of bs
    final_told = f.refusal ∙ ap (λ x. ending 1 (lines_of x)) (q ∙ rest_after bs l p)
        ∙ sym (ap (λ h. final_after h (step_lines bs)) header_told)

    pub steps_told : s.steps ≡ length (file_calls original bs)
    steps_told = f.steps ∙ ap length calls_told

    pub snaps_told : s.snaps ≡ snap_calls (file_calls original bs)
    snaps_told = f.snaps ∙ ap snap_calls calls_told
