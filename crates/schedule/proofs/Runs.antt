-- What a line adds to a run, what a whole file comes to, and what printed bytes leave in a buffer: for the code that serves a file's lines one by one.
use Prim.Native.Nat.{ℕ, ◌+◌, ◌*◌, ◌≤◌}
use native.Mathlib.Omega.{arith}
use mathlib.Core.Path.{◌≡◌, refl, sym, ap, ◌∙◌}
use mathlib.Core.Logic.{◌≢◌}
use mathlib.Core.Bool.{Bool, true, false}
use mathlib.Core.List as Lists
use mathlib.Core.List.{[], ◌∷◌, ◌++◌, append_assoc, append-nil}
use lib.ListN.{length, take, drop, length-append, length-take, length-drop, take-append-drop, drop_of_length-le}
use lib.Seq.{take_at, drop_at, drop-append-le, drop-drop, length-take-le, take_all}
use lib.Dec.{leb}
use borrow.Author.Tests.{eq-eqb, ne_eqb, leb-true, leb-false}
use borrow.Rule.Slice.PartMut.{mid_of, put_mid}
use Rattle.std.proofs.lemmas.Bool.Decides.{nat_tests}
use Rattle.std.specs.Prelude.{Some, None, Ok, Err}
use Rattle.columns.specs.Columns.{report_line}
use Rattle.columns.proofs.ColumnLaws.{length_report_line}
use Rattle.simulation.specs.Calls.{Call, bytes_of}
use Rattle.transition.specs.Forms.{over}
use Rattle.moves.specs.Moves.{refusal_number, final_number}
use Rattle.moves.proofs.MoveLaws.{positive, some_final, none_final}
use Rattle.moves.specs.declared.Refusal.{Refusal}
use Rattle.schedule.specs.declared.Line.{Line}
use Rattle.schedule.specs.Tables.{Tables}
use Rattle.schedule.specs.Lines.{next_line, header_read, line_call}
use Rattle.schedule.specs.Sessions.{Session, session, is_final, unmoved, ended, step_line, serve_of}
use Rattle.schedule.specs.Files.{step_lines, refusal_line, printed, behind, run_lines, file_run}
use Rattle.schedule.proofs.SessionLaws.{serve_next}

module _ (T : Tables) where
  -- THE RUN OF LINES

  module _ (s : Session T.Table) where
    -- nothing follows a final refusal
    pub final_run : (ls : Lists.List (Lists.List ℕ)) → final_number s.refusal ≢ 0 → run_lines T s ls ≡ unmoved s
    unfolding run_lines
    final_run [] d = refl
    final_run (l ∷ ls) d = rw (some_final _ d) refl

    pub run_on : (l : Lists.List ℕ) (ls : Lists.List (Lists.List ℕ)) → is_final s ≡ false → let o = serve_of T s l in
        run_lines T s (l ∷ ls) ≡ behind (printed (s.lines + 1) o.refusal o.bytes) (run_lines T o.session ls)
    unfolding run_lines
    run_on l ls e = rw e refl

  -- what a step line prints
  abbrev pub shown_of : T.Table → Call → Lists.List ℕ
  shown_of t c = let a = T.step t c in printed c.line a.refusal (bytes_of a.report)

  -- one line, on a well-formed table
  module _ (s : Session T.Table) (l : Lists.List ℕ) (going : final_number s.refusal ≡ 0) (ok : T.well_formed s.table ≡ true) where
    run_line : let o = step_line T s (next_line s.lines l) in
        run_lines T s (l ∷ [])
        ≡ record { session = o.session; refusal = final_number o.session.refusal; bytes = printed (s.lines + 1) o.refusal o.bytes }
    unfolding run_lines
    run_line = rw (none_final _ going, serve_next T s l going ok _ refl, append-nil) refl

    pub run_refused : (r : Refusal) → next_line s.lines l ≡ Err r
        → run_lines T s (l ∷ [])
        ≡ record { session = ended s (Some r); refusal = refusal_number r; bytes = printed (s.lines + 1) (refusal_number r) [] }
    run_refused r e = run_line ∙ rw e refl

    pub run_step : (q : Line) → next_line s.lines l ≡ Ok q → let c = line_call T.board s.lines q in
        run_lines T s (l ∷ [])
        ≡ record {
          session = session (s.lines + 1) s.refusal (T.step s.table c).table;
          refusal = final_number s.refusal;
          bytes = shown_of s.table c;
        }
    run_step q e = run_line ∙ rw e refl

  -- A WHOLE FILE

  module _ (bs : Lists.List ℕ) where
    -- a header that is refused ends it
    pub file_refused : (r : Refusal) → header_read T.board (take 18 bs) ≡ Err r
        → file_run T bs ≡ record { session = session 0 (Some r) (T.fresh (2 * T.board.per_station)); refusal = refusal_number r; bytes = refusal_line 1 (refusal_number r) }
    unfolding file_run
    file_refused r e =
        let d = positive r in
        rw (e, final_run (session 0 (Some r) (T.fresh (2 * T.board.per_station))) (step_lines bs) d, ne_eqb _ _ d, append-nil) refl

    -- an accepted one prints nothing, and the lines after it run from the fresh table of its count
    pub file_served : (n : ℕ) → header_read T.board (take 18 bs) ≡ Ok n → file_run T bs ≡ run_lines T (session 1 None (T.fresh n)) (step_lines bs)
    unfolding file_run
    file_served n e = rw e refl

-- WHAT FOLLOWS THE HEADER

pub header_within : (bs l : Lists.List ℕ) → l ≡ take 18 bs → length l ≤ length bs
header_within bs l e = omega (arith, ap length e, length-take 18 bs)

pub rest_after : (bs l : Lists.List ℕ) → l ≡ take 18 bs → drop (length l) bs ≡ drop 18 bs
rest_after bs l p = ap (λ (x : Lists.List ℕ). drop (length x) bs) p ∙ go (leb 18 (length bs)) refl
  where
    go : (b : Bool) → leb 18 (length bs) ≡ b → drop (length (take 18 bs)) bs ≡ drop 18 bs
    go true e = rw (length-take-le 18 bs (leb-true 18 (length bs) e)) refl
    go false e = let h = leb-false 18 (length bs) e in
        ap (λ (k : ℕ). drop k bs) (ap length (take_all 18 bs (omega arith)))
        ∙ drop_of_length-le bs {i = length bs} (omega arith) ∙ sym (drop_of_length-le bs {i = 18} (omega arith))

-- BUFFERS

-- bytes at the front of a part that starts behind other bytes stand behind those
pub put_over : (bytes x buffer : Lists.List ℕ) (k : ℕ) → length x ≤ k → length bytes + k ≤ length buffer
    → put_mid (length bytes) k (over bytes buffer) (over x (mid_of (length bytes) k (over bytes buffer))) ≡ over (bytes ++ x) buffer
put_over bytes x buffer k short fits =
    rw (take_at bytes rest (length bytes) refl, drop_at bytes rest (length bytes) refl)
    (rw (append_assoc x, tail, drop-drop (length x) (length bytes) buffer, length-append bytes x)
    (sym (append_assoc bytes x (drop (length bytes + length x) buffer))))
  where
    rest : Lists.List ℕ
    rest = drop (length bytes) buffer

    tail : drop (length x) (take k rest) ++ drop k rest ≡ drop (length x) rest
    tail =
        let l : length x ≤ length (take k rest) = simp (length-take, length-drop) (omega arith) in
        sym (drop-append-le (length x) (take k rest) (drop k rest) l) ∙ ap (drop (length x)) (take-append-drop k rest)

pub length_over : (bytes buffer : Lists.List ℕ) → length bytes ≤ length buffer → length (over bytes buffer) ≡ length buffer
length_over bytes buffer h = simp (length-append, length-drop) (omega arith)

-- what leaves the buffer as long as it was fits
pub over_short : (bytes buffer x : Lists.List ℕ) → x ≡ over bytes buffer → length x ≡ length buffer → length bytes ≤ length buffer
over_short bytes buffer x e h = omega (arith, ap length e ∙ length-append bytes (drop (length bytes) buffer), h)

-- n bytes are counted, and stand at the front of the buffer
abbrev pub Printed : ℕ → Lists.List ℕ → Lists.List ℕ → Lists.List ℕ → Type 0
Printed n bytes buffer buffer' = (n ≡ length bytes) × (buffer' ≡ over bytes buffer)

pub printed_accepted : (number refusal : ℕ) (buffer : Lists.List ℕ) → refusal ≡ 0 → Printed 0 (printed number refusal []) buffer buffer
printed_accepted number refusal buffer e = rw (eq-eqb refusal 0 e) (refl, refl)

pub printed_refused : (number refusal n : ℕ) (x buffer : Lists.List ℕ) → n ≡ refusal → n ≢ 0 → x ≡ report_line number n 0 0 0
    → Printed 29 (printed number refusal []) buffer (x ++ drop 29 buffer)
printed_refused number refusal n x buffer k d e =
    let long = length_report_line number n 0 0 0 in
    rw (← k, ne_eqb n 0 d, e, long) (refl, refl)

-- a refusal line has 29 bytes
pub printed_refusal : (number refusal : ℕ) → length (printed number refusal []) ≤ 29
printed_refusal number refusal = grind (arith, nat_tests, length_report_line number refusal 0 0 0)

-- what is written lies within the buffer
pub printed_inside : (n : ℕ) (bytes buffer buffer' : Lists.List ℕ) → Printed n bytes buffer buffer' → n ≤ length buffer'
printed_inside n bytes buffer buffer' p = omega (arith, p.0, ap length p.1 ∙ length-append bytes (drop (length bytes) buffer))
