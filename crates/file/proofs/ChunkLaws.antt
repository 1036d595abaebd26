-- The lines of a part of the file, one after the other: what one line more gives, and what stands in the output buffer meanwhile.
use mathlib.Core.Path.{◌≡◌, refl, sym, ap, subst, ◌∙◌}
use mathlib.Core.Logic.{◌⊎◌, inl, inr, ⊎_elim, by_cases}
use mathlib.Core.Bool.{true}
use mathlib.Core.List as Lists
use mathlib.Core.List.{[], ◌∷◌, ◌++◌}
use Prim.Native.Nat.{ℕ, ◌+◌, ◌-◌, ◌*◌, ◌≤◌, ◌<◌, min}
use native.Mathlib.Decide.{dec_lt}
use native.Mathlib.Omega.{arith}
use lib.ListN.{length, take, drop, length-append, length-take, length-drop}
use lib.Seq.{length-take-le}
use borrow.Rule.Slice.PartMut.{mid_of, put_mid}
use Rattle.simulation.specs.Calls.{Buffer, Call}
use Rattle.transition.specs.Forms.{over, step_of}
use Rattle.moves.specs.Moves.{refusal_number, call_of}
use Rattle.moves.specs.declared.Request.{Request}
use Rattle.moves.specs.declared.Refusal.{Refusal}
use Rattle.std.specs.Prelude.{Some, None, Ok}
use Rattle.arrays.specs.Arrays.{Arrays}
use Rattle.arrays.specs.WellFormed.{well_formed}
use Rattle.arrays.specs.Form.{lent}
use Rattle.schedule.specs.Tables.{tables}
use Rattle.schedule.specs.Lines.{next_line}
use Rattle.schedule.specs.Sessions.{Session, session, Served}
use Rattle.schedule.specs.Files.{cut, printed, behind, run_lines}
use Rattle.moves.proofs.MoveLaws.{positive}
use Rattle.schedule.specs.Lines.{a_step}
use Rattle.schedule.proofs.Runs.{shown_of, run_refused, run_step, put_over, length_over, over_short, printed_refusal}
use Rattle.schedule.proofs.Cuts.{run_append, cut_add}
use Rattle.schedule.proofs.Places.{line_at, StepAt, RefusedAt}
use Rattle.file.specs.Clauses.{Prints, read_lines, Reports}

-- a line that leaves the buffer as long as it was printed no more than that
pub prints_short : {a a' : Arrays} {c : Call} {n : ℕ} {buffer buffer' : Lists.List ℕ} → Prints a c buffer a' n buffer' → length buffer' ≡ length buffer
    → n ≤ length buffer
prints_short {a} {a'} {c} {n} {buffer} {buffer'} f h = omega (arith, f.count, over_short (shown_of (tables lent) a c) buffer buffer' f.report h)

-- PLACES

-- a place where a line starts, or the end
abbrev Starts : Lists.List ℕ → ℕ → Type 0
Starts chunk at = at ≡ min (18 * read_lines at) (length chunk)

-- the line that starts there
module _ (chunk : Lists.List ℕ) {at : ℕ} (h : at < length chunk) {l : Lists.List ℕ} (p : l ≡ line_at chunk at) where
  line_length : length l ≡ min 18 (length chunk - at)
  line_length = ap length p ∙ length-take 18 (drop at chunk) ∙ ap (min 18) (length-drop at chunk)

  pub line_within : (at + length l ≤ length chunk) × (0 < length l)
  line_within = (omega (arith, line_length), omega (arith, line_length))

  module _ (w : Starts chunk at) where
    line_next : read_lines (at + length l) ≡ read_lines at + 1
    line_next = omega (arith, line_length, w)

    line_starts : Starts chunk (at + length l)
    line_starts = omega (arith, line_length, w)

    line_cut : cut (read_lines (at + length l)) chunk ≡ cut (read_lines at) chunk ++ (l ∷ [])
    unfolding cut
    line_cut =
        let e : 18 * read_lines at ≡ at = omega (arith, w) in
        ap (λ k. cut k chunk) line_next ∙ cut_add (read_lines at) 1 chunk ∙ ap (λ k. cut (read_lines at) chunk ++ (take 18 (drop k chunk) ∷ [])) e
        ∙ ap (λ x. cut (read_lines at) chunk ++ (x ∷ [])) (sym p)

-- THE LOOP

-- after k lines none is refused for good, and there is room for another
abbrev Goes : Session Arrays → Lists.List ℕ → ℕ → ℕ → Type 0
Goes s chunk room k = ((run_lines (tables lent) s (cut k chunk)).refusal ≡ 0) × (length (run_lines (tables lent) s (cut k chunk)).bytes + 928 ≤ room)

pub record Sofar (s : Session Arrays) (chunk out₀ : Lists.List ℕ) (a : Arrays) (lines written at : ℕ) (out : Lists.List ℕ) : Type 0 where
  pub whole : Starts chunk at
  pub room : written ≤ length out₀
  pub short : written ≤ 928 * read_lines at
  pub counted : lines ≡ s.lines + read_lines at
  pub low : s.lines ≤ 1000001 → lines ≤ 1000001
  pub bytes : Lists.List ℕ
  pub long : written ≡ length bytes
  pub area : out ≡ over bytes out₀
  pub runs : run_lines (tables lent) s (cut (read_lines at) chunk) ≡ record { session = session lines None a; refusal = 0; bytes = bytes }
  pub goes : (k : ℕ) → k < read_lines at → Goes s chunk (length out₀) k

pub sofar_start : (lines : ℕ) (a : Arrays) (chunk out : Lists.List ℕ) → Sofar (session lines None a) chunk out a lines 0 0 out
unfolding cut run_lines
sofar_start lines a chunk out = record {
  whole = omega arith;
  room = omega arith;
  short = omega arith;
  counted = omega arith;
  low = λ h. h;
  bytes = [];
  long = refl;
  area = refl;
  runs = refl;
  goes = λ k l. absurd (omega (arith, l));
}

module _ {s : Session Arrays} {chunk out₀ : Lists.List ℕ} {a : Arrays} {lines written at : ℕ} {out : Lists.List ℕ}
    (f : Sofar s chunk out₀ a lines written at out) where
  pub as_long : length out ≡ length out₀
  as_long = rw f.area (length_over f.bytes out₀ (omega (arith, f.long, f.room)))

  pub place_within : at ≤ length chunk
  place_within = omega (arith, f.whole)

  -- all lines are served, or there is no room for another
  pub sofar_end : (length chunk ≤ at) ⊎ (length out - written < 928)
      → Reports s chunk a (record { lines = lines; refusal = None; read = at; written = written }) out₀ out
  sofar_end h = record {
    whole = f.whole;
    bytes = f.bytes;
    runs = f.runs;
    written = f.long;
    report = f.area;
    goes = f.goes;
    stops = inr (⊎_elim (λ x. inl (omega (arith, place_within))) (λ x. inr (omega (arith, as_long, f.room))) h);
    short = f.short;
    counted = λ _. (f.counted, f.low);
  }

  module _ (h : at < length chunk) (free : 928 ≤ length out - written) where
    pub room_here : written + 928 ≤ length out
    room_here = omega (arith, as_long, f.room)

    module _ (ok : well_formed a ≡ true) (l : Lists.List ℕ) (p : l ≡ line_at chunk at) (k : ℕ) (e : k ≡ 928) where
      -- what is put in behind the bytes so far
      put : (x : Lists.List ℕ) → length x ≤ 928 → put_mid written k out (over x (mid_of written k out)) ≡ over (f.bytes ++ x) out₀
      put x short = rw (f.area, e, f.long) (put_over f.bytes x out₀ 928 short (omega (arith, f.long, as_long, room_here)))

      -- one line more
      runs_on : (o : Served Arrays) → run_lines (tables lent) (session lines None a) (l ∷ []) ≡ o
          → run_lines (tables lent) s (cut (read_lines (at + length l)) chunk) ≡ behind f.bytes o
      runs_on o q =
          ap (run_lines (tables lent) s) (line_cut chunk h p f.whole)
          ∙ run_append (tables lent) (cut (read_lines at) chunk) (l ∷ []) s
          ∙ ap (λ x. behind x.bytes (run_lines (tables lent) x.session (l ∷ []))) f.runs
          ∙ ap (behind f.bytes) q

      goes_on : (j : ℕ) → j < read_lines (at + length l) → Goes s chunk (length out₀) j
      goes_on j b = by_cases (dec_lt j (read_lines at)) (f.goes j)
          (λ n. let q : j ≡ read_lines at = omega (arith, b, n, line_next chunk h p f.whole) in
          rw (q, f.runs) (refl, omega (arith, f.long, as_long, room_here)))

      -- a line that is refused for good
      pub sofar_stop : (r : Refusal) {n : ℕ} {x : Lists.List ℕ} → RefusedAt lines chunk at r → let told = printed (lines + 1) (refusal_number r) [] in
          n ≡ length told → x ≡ over told (mid_of written k out)
          → Reports s chunk a (record { lines = lines; refusal = Some r; read = at + length l; written = written + n }) out₀ (put_mid written k out x)
      sofar_stop r g b c =
          let q = ap (next_line lines) p ∙ g.said in
          let told = printed (lines + 1) (refusal_number r) [] in
          let low : length told ≤ 29 = printed_refusal (lines + 1) (refusal_number r) in
          record {
            whole = line_starts chunk h p f.whole;
            bytes = f.bytes ++ told;
            runs = runs_on _ (run_refused (tables lent) (session lines None a) l refl ok r q);
            written = omega (arith, b, f.long, length-append f.bytes told);
            report = rw c (put told (omega (arith, low)));
            goes = goes_on;
            stops = inl (positive r);
            short = omega (arith, b, low, f.short, line_next chunk h p f.whole);
            counted = λ z. absurd (positive r z);
          }

      -- a line that is served
      pub sofar_more : {q : Request} → StepAt lines chunk at q → {a' : Arrays} {n : ℕ} {x : Lists.List ℕ}
          → Prints a (call_of q (Buffer 928)) (mid_of written k out) a' n x → length x ≡ length (mid_of written k out)
          → Sofar s chunk out₀ a' (lines + 1) (written + n) (at + 18) (put_mid written k out x)
      sofar_more {q} z {a'} {n} {x} g y =
          let full : length l ≡ 18 = omega (arith, line_length chunk h p, z.within) in
          let b = shown_of (tables lent) a (call_of q (Buffer 928)) in
          let mid : length (mid_of written k out) ≡ 928 = length-take-le k (drop written out) (rw length-drop (omega (arith, e, room_here))) ∙ e in
          let few : length b ≤ 928 = omega (arith, over_short b (mid_of written k out) x g.report y, mid) in
          let made : Sofar s chunk out₀ a' (lines + 1) (written + n) (at + length l) (put_mid written k out x) = record {
            whole = line_starts chunk h p f.whole;
            room = omega (arith, g.count, few, as_long, room_here);
            short = omega (arith, g.count, few, f.short, line_next chunk h p f.whole);
            counted = omega (arith, f.counted, line_next chunk h p f.whole);
            low = λ _. omega (arith, z.few);
            bytes = f.bytes ++ b;
            long = omega (arith, g.count, f.long, length-append f.bytes b);
            area = rw g.report (put b few);
            runs = rw g.table (runs_on _ (served (ap (next_line lines) p ∙ z.said)));
            goes = goes_on;
          } in
          subst (λ j. Sofar s chunk out₀ a' (lines + 1) (written + n) (at + j) (put_mid written k out x)) full made
        where
          served : next_line lines l ≡ Ok (a_step q.station q.code q.job) → let c = call_of q (Buffer 928) in
              run_lines (tables lent) (session lines None a) (l ∷ [])
              ≡ record { session = session (lines + 1) None (step_of lent a c).table; refusal = 0; bytes = shown_of (tables lent) a c }
          served e = run_step (tables lent) (session lines None a) l refl ok (a_step q.station q.code q.job) e ∙ rw (← z.bears) refl
