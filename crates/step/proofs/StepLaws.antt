-- A step call on the declared table is one on its arrays: of a refused call the table is the one that came in, of an accepted one it is put together from
-- the arrays that are left.
use Prim.Native.Nat.{ℕ, ◌*◌, ◌≤◌, ◌<◌}
use native.Mathlib.Omega.{arith}
use mathlib.Core.Path.{◌≡◌, refl, sym, ap, ap₂, subst, ◌∙◌}
use mathlib.Core.Bool.{Bool, true, false}
use mathlib.Core.List as List
use mathlib.Core.List.{[], ◌∷◌}
use lib.ListN.{length, get_or}
use Rattle.std.specs.Prelude.{Result, Ok, Err}
use Rattle.basics.proofs.Facts.{tabulate_same}
use Rattle.simulation.specs.Calls as Calls
use Rattle.simulation.specs.Calls.{Call, Buffer, report_lines, Report, Bytes, size, written}
use Rattle.transition.specs.Forms.{TableAnswer, over, onto, step_of}
use Rattle.transition.specs.Sequences.{Steps}
use Rattle.transition.proofs.Theorem.{step_written, step_ill_formed, step_kept}
use Rattle.transition.proofs.Sequences.{steps_of, none_written}
use Rattle.moves.specs.Moves.{told_number, call_of}
use Rattle.moves.specs.declared.Refusal.{Refusal}
use Rattle.moves.proofs.MoveLaws.{positive}
use Rattle.arrays.specs.Arrays.{Rows, Arrays, cell, entries_in}
use Rattle.arrays.specs.WellFormed.{well_formed}
use Rattle.arrays.specs.Form.{lent}
use Rattle.engine.specs.Clauses.{Named, place_in, HandsOut, Hands}
use Rattle.engine.proofs.Reports.{result_length}
use Rattle.table.specs.Tables.{blank, rows_of, entries_of, taken_apart, put_together, declared}
use Rattle.table.proofs.Apart.{element, Whole, declared_written}
use Rattle.step.specs.Clauses.{Reports, first_entries, report_of, Ready, HandsEntries}
use Rattle.moves.specs.declared.Request.{Request}
use Rattle.engine.specs.declared.Handed.{Handed}
use Rattle.table.specs.declared.Entry.{Entry}
use Rattle.table.specs.declared.Table.{Table}
use Rattle.step.specs.declared.Unfilled.{Unfilled}

module _ (t : Table) (w : Whole t) (c : Call) where
  -- both forms give the same number and the same report
  record Alike : Type 0 where
    number : (step_of declared t c).refusal ≡ (step_of lent (taken_apart t) c).refusal
    report : (step_of declared t c).report ≡ (step_of lent (taken_apart t) c).report

  alike_by : (b : Bool) → well_formed (taken_apart t) ≡ b → Alike
  unfolding taken_apart
  alike_by true e =
      let p = step_written declared t c e in
      let q = step_written lent (taken_apart t) c e in
      record { number = ap (λ x. x.refusal) p ∙ sym (ap (λ x. x.refusal) q); report = ap (λ x. x.report) p ∙ sym (ap (λ x. x.report) q) }
  alike_by false e =
      let p = step_ill_formed declared t c e in
      let q = step_ill_formed lent (taken_apart t) c e in
      record { number = ap (λ x. x.refusal) p ∙ sym (ap (λ x. x.refusal) q); report = ap (λ x. x.report) p ∙ sym (ap (λ x. x.report) q) }

  alike : Alike
  alike = alike_by (well_formed (taken_apart t)) refl

  -- what the engine performs on the arrays: the number, and the table that is handed back
  module _ {a a' : Arrays} {r : Result Handed Refusal} (e : a ≡ taken_apart t) (made : Hands a c a' r) where
    L : Hands (taken_apart t) c a' r
    L = subst (λ (u : Arrays). Hands u c a' r) e made

    number_is : told_number r ≡ (step_of declared t c).refusal
    number_is = L.number ∙ sym alike.number

  module _ {a a' : Arrays} {h : Handed} (e : a ≡ taken_apart t) (made : Hands a c a' (Ok h)) where
    accepted_by : (b : Bool) → well_formed (taken_apart t) ≡ b → put_together a' ≡ (step_of declared t c).table
    unfolding taken_apart
    accepted_by true ok = ap put_together ((L e made).table ∙ ap (λ (x : TableAnswer Arrays). x.table) (step_written lent (taken_apart t) c ok))
        ∙ sym (ap (λ (x : TableAnswer Table). x.table) (step_written declared t c ok))
    accepted_by false bad =
        let number : (step_of lent (taken_apart t) c).refusal ≡ 0 = sym (L e made).number in
        let spoiled : (step_of lent (taken_apart t) c).refusal ≡ 13 = ap (λ (x : TableAnswer Arrays). x.refusal) (step_ill_formed lent (taken_apart t) c bad) in
        absurd (omega arith)

    accepted_table : {t' : Table} → t' ≡ put_together a' → t' ≡ (step_of declared t c).table
    accepted_table q = q ∙ accepted_by (well_formed (taken_apart t)) refl

  -- a refused call is the step on the table as it is
  pub hands_refused : {a a' : Arrays} {r : Refusal} → a ≡ taken_apart t → Hands a c a' (Err r) → HandsEntries t c (Err r)
  hands_refused {r = r} e made given =
      let number = number_is e made in
      let s = step_kept declared t (declared_written t w) c (λ z. positive r (number ∙ z)) in
      let report = ap (λ (x : TableAnswer Table). x.report) s in
      let none = none_written c.line c.room given in
      steps_of declared (declared_written t w) (sym (ap (λ (x : TableAnswer Table). x.table) s)) number (sym (ap size report ∙ none.0))
      (sym (ap (λ x. onto x given) report ∙ none.1))

-- A CALL BEFORE IT IS WRITTEN

-- the rows of a result, from its rows to its entries and back
cell_station : (rows : Rows) (p : ℕ) → p < 32 → cell (rows_of (entries_of rows)) 0 p 0 ≡ cell rows 0 p 0
cell_station rows p h = element _ 0 p h ∙ ap (λ (e : Entry). e.station) (element _ blank p h)

-- the first entries of a result, read from its rows or from the struct
first_entries_lem : (k : ℕ) (rows : Rows) → k ≤ 32 → entries_in k rows ≡ first_entries k (entries_of rows)
first_entries_lem k rows h = tabulate_same k 0 _ _ (λ p l. sym (ap (λ (e : Entry). Calls.entry e.station e.job) (element _ blank p (omega arith))))

first_rows : (k : ℕ) (es : List.List Entry) → k ≤ 32 → entries_in k (rows_of es) ≡ first_entries k es
first_rows k es h = tabulate_same k 0 _ _ (λ p l. ap₂ Calls.entry (element _ 0 p (omega arith)) (element _ 0 p (omega arith)))

module _ (t : Table) (w : Whole t) (c : Call) {a a' : Arrays} {h : Handed} (e : a ≡ taken_apart t) (made : Hands a c a' (Ok h)) (es : List.List Entry)
    (put : es ≡ entries_of (get_or a'.results h.place [])) where
  O : HandsOut a c a' h
  O = made.handed

  -- what is handed back, with this table
  abbrev unfilled : Table → Unfilled
  unfilled t' = record { table = t'; entries = es; count = h.entries }

  -- their report
  report_is : report_of c (unfilled t) ≡ (step_of declared t c).report
  report_is = sym (made.report ∙ ap (written c.line c.room)
      (first_entries_lem h.entries (get_or a'.results h.place []) O.few ∙ ap (first_entries h.entries) (sym put)))
      ∙ ap (λ (u : Arrays). (step_of lent u c).report) e ∙ sym (alike t w c).report

  entries_there : es ≡ entries_of (get_or (step_of lent (taken_apart t) c).table.results (place_in (taken_apart t) c) [])
  entries_there = put ∙ ap₂ (λ (u : Arrays) (k : ℕ). entries_of (get_or u.results k [])) (made.table ∙ ap (λ u. (step_of lent u c).table) e)
      (O.place ∙ ap (λ u. place_in u c) e)

  named_there : Named h.entries (rows_of es)
  named_there p l = rw put (omega (arith, cell_station (get_or a'.results h.place []) p (omega (arith, O.few)), O.named p l))

  pub hands_accepted : {t' : Table} → t' ≡ put_together a' → HandsEntries t c (Ok (unfilled t'))
  hands_accepted q = record {
    entries = entries_there;
    short = O.few;
    room = O.room;
    named = named_there;
    steps = λ given.
        steps_of declared (declared_written t w) (accepted_table t w c e made q) (number_is t w c e made) (ap size report_is) (ap (λ r. onto r given) report_is);
  }

-- with its report lines at the front of the buffer it is the step
module _ {t : Table} {q : Request} (r : Unfilled) (b : List.List ℕ) (s : Ready t (call_of q (Buffer (length b))) r) {rows : Rows}
    (f : rows ≡ rows_of r.entries) where
  pub lines_written : {n : ℕ} {b' : List.List ℕ} → n ≡ r.count * 29 → b' ≡ over (report_lines q.line 1 (entries_in r.count rows)) b
      → Reports t q b r.table (Ok n) b'
  lines_written {n} {b'} e g =
      let c : Call = call_of q (Buffer (length b)) in
      let same : entries_in r.count rows ≡ first_entries r.count r.entries = ap (entries_in r.count) f ∙ first_rows r.count r.entries s.short in
      let long : size (report_of c r) ≡ n = ap (λ l. length (report_lines q.line 1 l)) (sym same) ∙ result_length q.line r.count rows ∙ sym e in
      let left : onto (report_of c r) (Bytes b) ≡ Bytes b' = ap (λ l. Bytes (over (report_lines q.line 1 l) b)) (sym same) ∙ ap Bytes (sym g) in
      subst (λ (x : ℕ × Report). Steps declared t c (Bytes b) r.table 0 x.0 x.1) (λ i. (long i, left i)) (s.steps (Bytes b))
