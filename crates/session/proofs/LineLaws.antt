-- A line of a session, by what it reads as. A step is served as its call is, which judges 13 itself: a step line is never past the last, so 13
-- counts it too.
use Prim.Native.Nat.{ℕ, ◌+◌}
use native.Mathlib.Omega.{arith}
use native.Mathlib.Nat.{add-zero}
use mathlib.Core.Path.{◌≡◌, refl, sym, ap, subst, ◌∙◌}
use mathlib.Core.Logic.{◌≢◌}
use mathlib.Core.Bool.{Bool, true, false, cond}
use mathlib.Core.List as Lists
use mathlib.Core.List.{[]}
use mir.Val.{bool_byte}
use borrow.Author.Tests.{lt-ltb}
use Rattle.std.specs.Prelude.{Some, Ok, Err}
use Rattle.simulation.specs.Calls.{Buffer, Bytes, report_lines, bytes_of}
use Rattle.transition.specs.Forms.{Form, TableAnswer}
use Rattle.transition.specs.Sequences.{Steps}
use Rattle.transition.proofs.Theorem.{step_ill_formed}
use Rattle.transition.proofs.Sequences.{steps_bytes}
use Rattle.moves.specs.Moves.{refusal_number, final_number, called}
use Rattle.moves.proofs.MoveLaws.{positive}
use Rattle.moves.specs.declared.Refusal.{Refusal}
use Rattle.schedule.specs.Tables.{tables}
use Rattle.schedule.specs.Lines.{next_line, line_room, line_call}
use Rattle.schedule.specs.Sessions.{Session, session, refused, stopped, ill_formed, step_line, serve_of, Serves}
use Rattle.schedule.specs.declared.Line.{Line}
use Rattle.schedule.proofs.SessionLaws.{next_within, serve_final, serve_ill_formed, serve_next}

-- a line that does not read leaves the table, whether that is well-formed or not, and writes nothing
pub unread_keeps : {T : Type 0} (b : Bool) (s : Session T) (r : Refusal) → let o = cond b (stopped s r) (ill_formed s) in
    (o.session.table ≡ s.table) × (o.bytes ≡ [])
unread_keeps true s r = (refl, refl)
unread_keeps false s r = (refl, refl)

-- a line counts if it is not past the last
pub counted : (b : Bool) (n k : ℕ) → k ≡ bool_byte b → cond b (n + 1) n ≡ n + k
counted true n k e = ap (λ j. n + j) (sym e)
counted false n k e = sym (add-zero n) ∙ ap (λ j. n + j) (sym e)

-- a line that is refused writes nothing, whatever the report buffer is
pub refuses : {T : Type 0} {s : Session T} {number : ℕ} {buffer : Lists.List ℕ} → Serves (refused s number) s number 0 buffer buffer
refuses = record { session = refl; number = refl; count = refl; report = refl }

-- a session with a final refusal says it again
pub serve_again : (F : Form) (s : Session F.Table) (line : Lists.List ℕ) (r : Refusal) → s.refusal ≡ Some r
    → serve_of (tables F) s line ≡ refused s (refusal_number r)
serve_again F s line r e =
    serve_final (tables F) s line (λ z. positive r (sym (ap final_number e) ∙ z)) ∙ ap (λ x. refused s (final_number x)) e

module _ (F : Form) (s : Session F.Table) (line : Lists.List ℕ) (none : final_number s.refusal ≡ 0) where
  pub serve_unread : (r : Refusal) → next_line s.lines line ≡ Err r → serve_of (tables F) s line ≡ cond (F.well_formed s.table) (stopped s r) (ill_formed s)
  serve_unread r e = go (F.well_formed s.table) refl
    where
      go : (b : Bool) → F.well_formed s.table ≡ b → serve_of (tables F) s line ≡ cond b (stopped s r) (ill_formed s)
      go true w = serve_next (tables F) s line none w (Err r) e
      go false w = serve_ill_formed (tables F) s line none w

  pub serve_step : (q : Line) → next_line s.lines line ≡ Ok q → serve_of (tables F) s line ≡ step_line (tables F) s (Ok q)
  unfolding report_lines
  serve_step q e = go (F.well_formed s.table) refl
    where
      go : (b : Bool) → F.well_formed s.table ≡ b → serve_of (tables F) s line ≡ step_line (tables F) s (Ok q)
      go true w = serve_next (tables F) s line none w (Ok q) e
      go false w =
          serve_ill_formed (tables F) s line none w
          ∙ ap (λ b. record { session = session (cond b (s.lines + 1) s.lines) s.refusal s.table; refusal = 13; bytes = [] })
          (lt-ltb s.lines 1000001 (omega (arith, next_within s.lines line q e)))
          ∙ sym (ap (λ (x : TableAnswer F.Table).
          record { session = session (s.lines + 1) s.refusal x.table; refusal = x.refusal; bytes = bytes_of x.report })
          (step_ill_formed F s.table (line_call F.board s.lines q) w))

-- a step call with the room of a line serves the line that it comes from; if it is refused, the table and the report buffer stay
pub steps_line : (F : Form) (s : Session F.Table) (q : Line) {k number count : ℕ} {buffer buffer' : Lists.List ℕ} {t' : F.Table} → k ≡ line_room F.board
    → Steps F s.table (called (s.lines + 1) q.code q.station q.job (Buffer k)) (Bytes buffer) t' number count (Bytes buffer')
    → Serves (step_line (tables F) s (Ok q)) (session (s.lines + 1) s.refusal t') number count buffer buffer'
    × (number ≢ 0 → (t' ≡ s.table) × (buffer' ≡ buffer))
steps_line F s q {k} {number} {count} {buffer} {buffer'} {t'} long e =
    let e = subst (λ k. Steps F s.table (called (s.lines + 1) q.code q.station q.job (Buffer k)) (Bytes buffer) t' number count (Bytes buffer')) long e in
    let w = steps_bytes F e _ refl in (
      record { session = ap (session (s.lines + 1) s.refusal) e.table; number = e.number; count = w.0; report = w.1 },
      λ d. let k = e.kept d in (k.0, ap bytes_of k.2),
    )
