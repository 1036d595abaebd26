-- Demand 3 of sequences of calls, from the contract that each call keeps and the theorem about `step_of`.
use Prim.Native.Nat.{ℕ}
use mathlib.Core.Path.{◌≡◌, refl, sym, ap, ap₂, ◌∙◌}
use mathlib.Core.Logic.{◌≢◌}
use mathlib.Core.Bool.{true}
use mathlib.Core.List as Lists
use mathlib.Core.List.{[], ◌∷◌, map, map-map}
use lib.ListN.{length, take}
use lib.Seq.{take_at}
use Rattle.basics.specs.Tests.{All}
use Rattle.simulation.specs.Machine as Machine
use Rattle.simulation.specs.Calls.{Room, Buffer, Panel, Call, Entry, report_lines, panel_records, Report, Bytes, Records, capacity, size, bytes_of, written, Board}
use Rattle.simulation.specs.Machine.{Seen}
use Rattle.transition.specs.Forms.{Form, TableAnswer, over, onto, fresh_table, step_of}
use Rattle.transition.specs.Demand.{run_table, seen_in, unbounded, Demand3}
use Rattle.transition.specs.Sequences.{Steps, Made, call_made, first_of, told, Sequence, SequenceDemand}
use Rattle.transition.proofs.Written.{Sized}
use Rattle.transition.proofs.Theorem.{Lawful, step_report, step_bytes, step_kept, demand}

-- a buffer with these bytes at its front, read by their count
module _ (l buffer : Lists.List ℕ) {buffer' : Lists.List ℕ} {written : ℕ} (w : written ≡ length l) (r : buffer' ≡ over l buffer) where
  pub bytes_read : take written buffer' ≡ l
  bytes_read = ap₂ take w r ∙ take_at l _ (length l) refl

  pub bytes_counted : written ≡ length (take written buffer')
  bytes_counted = w ∙ ap length (sym bytes_read)

  pub rest_kept : buffer' ≡ over (take written buffer') buffer
  rest_kept = r ∙ ap (λ b. over b buffer) (sym bytes_read)

-- and likewise whatever is lent
pub report_read : (line : ℕ) (lent : Report) (l : Lists.List Entry) {lent' : Report} {k : ℕ} → let r = written line (capacity lent) l in
    k ≡ size r → lent' ≡ onto r lent → first_of k lent' ≡ r
report_read line (Bytes b) l w r = ap₂ first_of w r ∙ ap Bytes (take_at (report_lines line 1 l) _ _ refl)
report_read line (Records b) l w r = ap₂ first_of w r ∙ ap Records (take_at (panel_records 1 l) _ _ refl)

-- a report of no entries has no size, and leaves what was lent
pub none_written : (line : ℕ) (room : Room) (lent : Report) → let r = written line room [] in (size r ≡ 0) × (onto r lent ≡ lent)
unfolding report_lines panel_records
none_written line (Buffer b) (Bytes l) = (refl, refl)
none_written line (Buffer b) (Records l) = (refl, refl)
none_written line (Panel b) (Bytes l) = (refl, refl)
none_written line (Panel b) (Records l) = (refl, refl)

-- the contract of a call, from the answer of `step_of`: a refused call leaves a table that is the one of the state that it holds
pub steps_of : (F : Form) {t t' : F.Table} {c : Call} {lent lent' : Report} {number k : ℕ}
    → (F.well_formed t ≡ true → F.written (F.count t) (F.state t) ≡ t) → t' ≡ (step_of F t c).table → number ≡ (step_of F t c).refusal
    → k ≡ size (step_of F t c).report → lent' ≡ onto (step_of F t c).report lent → Steps F t c lent t' number k lent'
steps_of F {t} {t'} {c} {lent} {lent'} {number} {k} same table refusal count report = record {
  table = table;
  number = refusal;
  count = count;
  report = report;
  kept = kept;
}
  where
    kept : number ≢ 0 → (t' ≡ t) × (k ≡ 0) × (lent' ≡ lent)
    kept d =
        let s = step_kept F t same c (λ z. d (refusal ∙ z)) in
        let r = ap (λ (a : TableAnswer F.Table). a.report) s in
        let z = none_written c.line c.room lent in
        (table ∙ ap (λ (a : TableAnswer F.Table). a.table) s, count ∙ ap size r ∙ z.0, report ∙ ap (λ x. onto x lent) r ∙ z.1)

-- a call with a report buffer: the count, and the buffer left
pub steps_bytes : (F : Form) {t t' : F.Table} {c : Call} {b b' : Lists.List ℕ} {number k : ℕ} → Steps F t c (Bytes b) t' number k (Bytes b') → (room : ℕ)
    → c.room ≡ Buffer room → let l = bytes_of (step_of F t c).report in
    (k ≡ length l) × (b' ≡ over l b)
steps_bytes F {t} {c = c} {b} s room e =
    let h = step_bytes F t c room e in
    (s.count ∙ ap size h, ap bytes_of (s.report ∙ ap (λ r. onto r (Bytes b)) h))

-- calls that show what the machine's answers show count the bytes or records that these have
pub same_counts : {A : Type 0} (B : Board) (n : ℕ) (f : A → Seen) (xs : Lists.List A) (ys : Lists.List (Machine.Answer ℕ)) → map f xs ≡ map (Machine.seen B n) ys
    → map (λ x. size (f x).report) xs ≡ map (λ y. size y.report) ys
same_counts B n f xs ys e =
    sym (map-map (λ s. size s.report) f xs) ∙ ap (map (λ (s : Seen). size s.report)) e ∙ map-map (λ s. size s.report) (Machine.seen B n) ys

module _ (F : Form) where
  -- what a call hands back is the answer of `step_of`
  module _ (t : F.Table) (x : Made F.Table) (s : Steps F t (call_made x) x.lent x.table x.refusal x.written x.lent') where
    answer_read : (told x).report ≡ (step_of F t (call_made x)).report
    answer_read =
        let h = step_report F t (call_made x) in
        report_read x.line x.lent h.0 (s.count ∙ ap size h.1) (s.report ∙ ap (λ r. onto r x.lent) h.1) ∙ sym h.1

    answer_is : told x ≡ step_of F t (call_made x)
    answer_is i = record { table = s.table i; refusal = s.number i; report = answer_read i }

  sequence_run : (t : F.Table) (xs : Lists.List (Made F.Table)) → Sequence F t xs → map told xs ≡ run_table (step_of F) t (map call_made xs)
  unfolding run_table
  sequence_run t [] q = refl
  sequence_run t (x ∷ xs) q =
      ap₂ ◌∷◌ (answer_is t x q.0) (sequence_run x.table xs q.1 ∙ ap (λ a. run_table (step_of F) a (map call_made xs)) q.0.table)

  sequence_counted : (t : F.Table) (xs : Lists.List (Made F.Table)) → Sequence F t xs → map (λ x. x.written) xs ≡ map (λ x. size (told x).report) xs
  sequence_counted t [] q = refl
  sequence_counted t (x ∷ xs) q = ap₂ ◌∷◌ (q.0.count ∙ ap size (sym (answer_read t x q.0))) (sequence_counted x.table xs q.1)

  sequence_kept : (t : F.Table) (xs : Lists.List (Made F.Table)) → Sequence F t xs → All (λ x. x.lent' ≡ onto (told x).report x.lent) xs
  sequence_kept t [] q = tt
  sequence_kept t (x ∷ xs) q = (q.0.report ∙ ap (λ r. onto r x.lent) (sym (answer_read t x q.0)), sequence_kept x.table xs q.1)

  -- DEMAND 3 OF SEQUENCES
  pub sequence_demand : Lawful F → (n : ℕ) → Sized F.board n → (xs : Lists.List (Made F.Table)) → Sequence F (fresh_table F n) xs → SequenceDemand F n xs
  sequence_demand L n z xs s = record {
    demand = d;
    same = same;
    counted = sequence_counted (fresh_table F n) xs s ∙ same_counts F.board n (λ x. seen_in F (told x)) xs (unbounded F.board n d.advances (map call_made xs)) same;
    kept = sequence_kept (fresh_table F n) xs s;
  }
    where
      d : Demand3 F n (map call_made xs)
      d = demand F L n z (map call_made xs)

      same : map (λ x. seen_in F (told x)) xs ≡ map (Machine.seen F.board n) (unbounded F.board n d.advances (map call_made xs))
      same = sym (map-map (seen_in F) told xs) ∙ ap (map (seen_in F)) (sequence_run (fresh_table F n) xs s) ∙ d.same
