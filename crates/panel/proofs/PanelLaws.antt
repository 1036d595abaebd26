-- The panel filled from the entries that a call hands out holds the records of these entries.
use Prim.Native.Nat.{ℕ, suc, ◌+◌, ◌≤◌, ◌<◌}
use native.Mathlib.Nat.{zero-add}
use native.Mathlib.Numerals.{add-one}
use native.Mathlib.Omega.{arith}
use mathlib.Core.Path.{◌≡◌, refl, sym, ap, ap₂, subst, ◌∙◌}
use mathlib.Core.Bool.{true}
use mathlib.Core.List.{List, ◌++◌, map, map-append}
use lib.ListN.{length, get_or, set, take, drop}
use Rattle.std.proofs.lemmas.List.{get_or-take, length-take, length-take-le}
use borrow.Author.Tests.{leb-true}
use Rattle.basics.specs.Tests.{tabulate}
use Rattle.basics.proofs.Facts.{map_drop, length_tabulate, tabulate_same, map_tabulate}
use Rattle.basics.proofs.Filled.{front_more}
use Rattle.simulation.specs.Calls.{Call, Panel, holds, panel_records, Report, Records, size, written}
use Rattle.simulation.proofs.Reports.{records_tabulate, records_length}
use Rattle.transition.specs.Forms.{Form, over, onto}
use Rattle.transition.specs.Sequences.{Steps}
use Rattle.table.specs.Tables.{blank, declared}
use Rattle.table.specs.declared.Entry.{Entry}
use Rattle.table.specs.declared.Table.{Table}
use Rattle.step.specs.Clauses.{first_entries, Ready}
use Rattle.step.specs.declared.Unfilled.{Unfilled}
use Rattle.panel.specs.declared.Record.{Record}
use Rattle.panel.specs.Panels.{record_at, filled, declared_record, panel_of}

-- a loop fills it record by record
pub filled_none : (es : List Entry) (ys : List Record) → ys ≡ filled es 0 ys
unfolding tabulate
filled_none es ys = refl

pub filled_more : (es : List Entry) (i : ℕ) (ys xs : List Record) (r : Record) → xs ≡ filled es i ys → i < length ys → r ≡ record_at es i
    → set xs i r ≡ filled es (i + 1) ys
filled_more es i ys xs r e h is =
    ap (λ l. set l i r) e ∙ front_more i 0 (record_at es) ys r h (is ∙ ap (record_at es) (sym (zero-add i))) ∙ ap (λ k. filled es k ys) (sym (add-one i))

-- the first k entries fill as much as all do
filled_taken : (es : List Entry) (k : ℕ) (ys : List Record) → k ≤ length es → filled (take k es) (length (take k es)) ys ≡ filled es k ys
filled_taken es k ys h =
    ap (λ n. filled (take k es) n ys) (length-take-le k es h) ∙ ap (λ l. l ++ drop k ys) (tabulate_same k 0 (record_at (take k es)) (record_at es)
    (λ p l. ap (λ x. record { place = p + 1; station = x.station; job = x.job }) (get_or-take k es p blank (omega arith))))

filled_records : (es : List Entry) (n : ℕ) (ys : List Record)
    → over (panel_records 1 (first_entries n es)) (map declared_record ys) ≡ map declared_record (filled es n ys)
filled_records es n ys = ap (λ l. over l (map declared_record ys)) (records_tabulate n 0 _)
    ∙ ap₂ ◌++◌ first (ap (λ k. drop k (map declared_record ys)) (length_tabulate n 0 _) ∙ sym (map_drop declared_record n ys))
    ∙ sym (map-append declared_record (tabulate n 0 (record_at es)) (drop n ys))
  where
    first : tabulate n 0 (λ p. let e = get_or es p blank in record { place = suc p; station = e.station; job = e.job })
        ≡ map declared_record (tabulate n 0 (record_at es))
    first = tabulate_same n 0 _ _ (λ p _. ap (λ i. record { place = i; station = (get_or es p blank).station; job = (get_or es p blank).job }) (sym (add-one p)))
        ∙ sym (map_tabulate declared_record n 0 (record_at es))

-- so on a table of any form: with the records of k entries at the front of its panel the call is the step
filled_step : (form : Form) {t t' : form.Table} (c : Call) {refusal : ℕ} (es : List Entry) (k : ℕ) (ys : List Record) → c.room ≡ Panel (length ys)
    → let report = written c.line c.room (first_entries k es) in Steps form t c (panel_of ys) t' refusal (size report) (onto report (panel_of ys))
    → Steps form t c (panel_of ys) t' refusal k (panel_of (filled es k ys))
filled_step form {t} {t'} c {refusal} es k ys e s =
    let long : size (Records (panel_records 1 (first_entries k es))) ≡ k = records_length 1 (first_entries k es) ∙ length_tabulate k 0 _ in
    let is : written c.line c.room (first_entries k es) ≡ Records (panel_records 1 (first_entries k es)) =
    ap (λ r. written c.line r (first_entries k es)) e in
    subst (λ (x : ℕ × Report). Steps form t c (panel_of ys) t' refusal x.0 x.1)
    (λ i. ((ap size is ∙ long) i, (ap (λ r. onto r (panel_of ys)) is ∙ ap Records (filled_records es k ys)) i)) s

-- so on the declared table: there is room for the entries that are handed out, and with their records at the front of its panel the call is the step
pub shown_few : {t : Table} {c : Call} (r : Unfilled) → Ready t c r → length (take r.count r.entries) ≤ 32
shown_few r s = omega (arith, length-take r.count r.entries, s.short)

pub shown_room : {t : Table} {c : Call} (r : Unfilled) (k : ℕ) → Ready t c r → c.room ≡ Panel k → length (take r.count r.entries) ≤ k
shown_room r k s e =
    omega (arith, length-take r.count r.entries, leb-true r.count k (subst (λ x. holds x r.count ≡ true) e s.room))

pub shown_step : {t : Table} {c : Call} (r : Unfilled) (ys zs : List Record) → Ready t c r → c.room ≡ Panel (length ys)
    → zs ≡ filled (take r.count r.entries) (length (take r.count r.entries)) ys → Steps declared t c (panel_of ys) r.table 0 r.count (panel_of zs)
shown_step {t} {c} r ys zs s e f =
    let long : length r.entries ≡ 32 = ap length s.entries ∙ length_tabulate 32 0 _ in
    subst (λ l. Steps declared t c (panel_of ys) r.table 0 r.count (panel_of l)) (sym (f ∙ filled_taken r.entries r.count ys (omega (arith, s.short))))
    (filled_step declared c r.entries r.count ys e (s.steps (panel_of ys)))
