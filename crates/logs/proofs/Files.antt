-- The log of a whole file: it is refused before any step is run, or what is told of it is the test of its lines, which is exact.
use Prim.Native.Nat.{ℕ, ◌≤◌, ◌<◌}
use native.Mathlib.Omega.{arith}
use mathlib.Core.Path.{◌≡◌, refl, sym, ap, subst, ◌∙◌}
use mathlib.Core.Logic.{◌↔◌}
use mathlib.Core.Bool.{Bool, true, false, ◌&&◌}
use mathlib.Core.List as Lists
use mathlib.Core.List.{[], ◌∷◌, append-nil}
use lib.ListN.{length, take, drop}
use lib.Seq.{take_all}
use Rattle.basics.proofs.Facts.{and_both, both}
use Rattle.simulation.specs.Calls.{original}
use Rattle.simulation.specs.Machine.{fresh}
use Rattle.transition.specs.Logs.{at_front, Right, right}
use Rattle.transition.proofs.Logs.{right_exactly}
use Rattle.number_lines.specs.Lines.{NumbersRead}
use Rattle.number_lines.proofs.Printing.{length_numbers}
use Rattle.number_lines.proofs.Reading.{read_whole, read_back}
use Rattle.std.specs.Prelude.{Option, Some, None, Result, Ok, Err}
use Rattle.moves.specs.Moves.{refusal_number, final_number}
use Rattle.moves.proofs.MoveLaws.{positive}
use Rattle.arrays.specs.declared.Parts.{Parts}
use Rattle.arrays.specs.declared.OrderedTable.{OrderedTable}
use Rattle.moves.specs.declared.Refusal.{Refusal}
use Rattle.schedule.specs.Lines.{header_read}
use Rattle.schedule.specs.Files.{lines_of}
use Rattle.schedule.specs.Demand.{step_calls, file_calls}
use Rattle.schedule.specs.Numbers.{surveyed, reading_refusal, Surveys}
use Rattle.schedule.specs.Logs.{RightLog}
use Rattle.schedule.proofs.Cuts.{joined}
use Rattle.schedule.proofs.Logs.{log_bounds}
use Rattle.schedule.proofs.Surveys.{surveyed_header, header_told, calls_told, final_told, steps_told}
use Rattle.schedule.specs.declared.Survey.{Survey}
use Rattle.arrays.specs.Arrays.{Rows, Planes}
use Rattle.unbounded.specs.Tables.{Table, numbers_in, stateᵘ, Runnableᵘ}
use Rattle.logs.specs.Files.{ChecksLog, RightFile}
use Rattle.logs.specs.Clauses.{ahead_log, Checking, Drained, FeedsReport, Finishes, StartsCheck, Begins, BeginsFile}
use Rattle.logs.specs.declared.Progress.{Progress}

-- the stations that a header tells
abbrev told_by : Result ℕ Refusal → ℕ
told_by (Err r) = 0
told_by (Ok n) = n

-- THE START

-- a header that refuses the file
pub header_refuses : (bs : Lists.List ℕ) {l : Lists.List ℕ} → l ≡ take 18 bs → {r : Refusal} → header_read original l ≡ Err r
    → Some r ≡ reading_refusal bs
unfolding reading_refusal
header_refuses bs p e = sym (surveyed_header bs p e (length (file_calls original bs)) None)

-- behind an accepted one
module _ (bs : Lists.List ℕ) {l : Lists.List ℕ} (p : l ≡ take 18 bs) {n : ℕ} (e : header_read original l ≡ Ok n) {rest : Lists.List ℕ}
    (q : rest ≡ drop (length l) bs) {s : Survey} (f : Surveys 1 rest s) {r : Option Refusal} (g : r ≡ surveyed s.refusal s.steps None) where
  pub lines_told : r ≡ reading_refusal bs
  unfolding reading_refusal
  lines_told = g ∙ (λ i. surveyed (final_told bs p e q f i) (steps_told bs p e q f i) None)

  -- from the fresh table, with some numbers of a list
  module _ (z : final_number r ≡ 0) (list : Lists.List ℕ) (count : ℕ) (whole : Bool) where
    abbrev begun : Progress
    begun = record { right = whole; count = count; used = 0; lines = 1; at = length l; written = 0; shown = 0 }

    abbrev ns : Lists.List ℕ
    ns = take count list

    pub lines_begun : {t : Table} {order : Lists.List ℕ} (buffer : Lists.List ℕ) → t.count ≡ n → stateᵘ t ≡ fresh 0 → Runnableᵘ t order → count ≤ length list → length l ≤ length bs → length buffer ≡ 928
        → StartsCheck bs (λ report. (whole ≡ true) × RightLog bs ns report) begun t order list buffer
    unfolding at_front
    lines_begun {t} {order} buffer c h o k m b = record {
      accepted = ap final_number (sym lines_told) ∙ z;
      exactly = λ report.
          let exact = right_exactly original n (file_calls original bs) ns report in
          let same : ahead_log begun t bs list buffer report ≡ (whole && right original n (fresh 0) ns report (file_calls original bs))
          = λ i. whole && right original (c i) (h i) ns report (calls i) in (
            (λ y.
                let a = and_both whole _ (sym same ∙ y) in
                (a.0, record { stations = n; header = header_told bs p e q; log = exact.0 a.1 })),
            (λ R. same ∙ both R.0 (exact.1
                (subst (λ j. Right original j (file_calls original bs) ns report) (ap told_by (sym R.1.header ∙ header_told bs p e q)) R.1.log))),
          );
      checking = record {
        runnable = o;
        numbers = (omega arith, k);
        place = (m, omega arith);
        bytes = (omega arith, omega arith);
        room = b;
      };
    }
      where
        calls : step_calls original 1 (lines_of (drop (length l) bs)) ≡ file_calls original bs
        calls = ap (λ x. step_calls original 1 (lines_of x)) (sym q) ∙ calls_told bs p e q

-- NUMBERS OF A FILE, read into a list of 4,096: with the whole lines of numbers the log is right exactly if they are the bytes of a right log, which has no
-- more numbers than that
module _ (bs : Lists.List ℕ) {numbers list list' : Lists.List ℕ} {whole : Bool} {count : ℕ} (f : NumbersRead numbers list whole count list')
    (size : length list ≡ 4096) where
  right_file : final_number (reading_refusal bs) ≡ 0 → (report : Lists.List ℕ)
      → ((whole ≡ true) × RightLog bs (take count list') report) ↔ RightFile bs numbers report
  right_file z report = (
    (λ h. record { given = take count list'; lines = read_whole f h.0; log = h.1 }),
    (λ R.
        let back = read_back f R.given (omega (arith, (log_bounds R.log z).0, size)) R.lines in
        (back.0, subst (λ ns. RightLog bs ns report) (sym back.2) R.log)),
  )

  pub begins_file : {given : Lists.List ℕ} → given ≡ take count list' → (b : Result (Progress × OrderedTable (Parts Rows Rows Rows Planes)) Refusal)
      → Begins bs given whole list' b → BeginsFile bs numbers list' b
  begins_file e (Err r) h = h
  begins_file e (Ok c) h = λ buffer long.
      let s = h buffer long in record {
        accepted = s.accepted;
        exactly = λ report.
            let a = subst (λ ns. (ahead_log c.0 (numbers_in c.1) bs list' buffer report ≡ true) ↔ ((whole ≡ true) × RightLog bs ns report)) e (s.exactly report) in
            let b = right_file s.accepted report in
            ((λ y. b.0 (a.0 y)), λ R. a.1 (b.1 R));
        checking = s.checking;
      }

-- more bytes than 4,096 lines have are not those of a right log of a file that is served: where a file of numbers is longer, nothing is lost by reading 49,153
-- of them, which are no lines either
pub numbers_long : {bs numbers report : Lists.List ℕ} → final_number (reading_refusal bs) ≡ 0 → 49152 < length numbers → RightFile bs numbers report → ⊥
numbers_long {bs} {numbers} z h R =
    omega (arith, (log_bounds R.log z).0, ap length R.lines.lines ∙ length_numbers R.given, h)

-- THE WHOLE REPORT: what is told after all of its parts is what is told of all their bytes together
module _ (bs list : Lists.List ℕ) where
  -- a check with the table and the buffer beside it; one part leads from one to the next
  pub record Stage : Type 0 where
    pub check : Progress
    pub table : Table
    pub buffer : Lists.List ℕ

  abbrev pub FedBy : Stage → Lists.List (Lists.List ℕ) → Stage → Type 0
  FedBy s [] s' = s ≡ s'
  FedBy s (p ∷ ps) s' = (next : Stage) × FeedsReport s.check s.table bs list s.buffer p next.check next.table next.buffer × FedBy next ps s'

  abbrev ahead_of : Stage → Lists.List ℕ → Bool
  ahead_of s report = ahead_log s.check s.table bs list s.buffer report

  parts_fed : (ps : Lists.List (Lists.List ℕ)) (s s' : Stage) → FedBy s ps s' → ahead_of s (joined ps) ≡ ahead_of s' []
  parts_fed [] s s' e = ap (λ x. ahead_of x []) e
  parts_fed (p ∷ ps) s s' (next, f, g) = f.same (joined ps) ∙ parts_fed ps next s' g

  -- yes exactly if the log is right, however its report is cut into parts
  pub log_told : {Right : Lists.List ℕ → Type 0} (s s' : Stage) {order order' : Lists.List ℕ}
      → StartsCheck bs Right s.check s.table order list s.buffer → (ps : Lists.List (Lists.List ℕ)) → FedBy s ps s'
      → Checking s'.check s'.table order' bs list s'.buffer → Drained s'.check bs → {yes : Bool} → Finishes s'.check yes
      → (yes ≡ true) ↔ Right (joined ps)
  log_told s s' {order' = order'} b ps f g d {yes} e =
      let same : yes ≡ ahead_of s (joined ps) = e.told s'.table order' bs list s'.buffer g d ∙ sym (parts_fed ps s s' f) in
      let exact = b.exactly (joined ps) in
      ((λ y. exact.0 (sym same ∙ y)), λ R. same ∙ exact.1 R)

-- in one part
pub log_checked : {bs list report : Lists.List ℕ} {c : Progress} {t : Table} {order buffer : Lists.List ℕ} {c' : Progress} {t' : Table}
    {order' buffer' : Lists.List ℕ} → StartsCheck bs (λ report. (true ≡ true) × RightLog bs (take (length list) list) report) c t order list buffer
    → FeedsReport c t bs list buffer report c' t' buffer' → Checking c' t' order' bs list buffer' → {yes : Bool} → Finishes c' yes
    → ChecksLog bs list report 0 yes
log_checked {bs} {list} {report} {c} {t} {buffer = buffer} {c'} {t'} {buffer' = buffer'} b f g e =
    let all = take_all (length list) list (omega arith) in
    let w = log_told bs list (record { check = c; table = t; buffer = buffer }) (record { check = c'; table = t'; buffer = buffer' }) b (report ∷ [])
    (record { check = c'; table = t'; buffer = buffer' }, f, refl) g f.drained e in
    let whole = append-nil report in record {
      number = sym b.accepted;
      refused = λ d. absurd (d refl);
      exactly = λ _. (
        (λ y. subst (λ ns. RightLog bs ns report) all (subst (RightLog bs (take (length list) list)) whole (w.0 y).1)),
        (λ R. w.1 (refl, subst (RightLog bs (take (length list) list)) (sym whole) (subst (λ ns. RightLog bs ns report) (sym all) R))),
      );
    }

-- a refused schedule
pub log_refused : {bs ns report : Lists.List ℕ} {r : Refusal} → Some r ≡ reading_refusal bs → ChecksLog bs ns report (refusal_number r) false
log_refused {r = r} h = record { number = ap final_number h; refused = λ _. refl; exactly = λ z. absurd (positive r z) }
