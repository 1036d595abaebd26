-- A log, held against the unbounded table: bytes that come next, one call, and the loop over what is shown and the lines.
use Prim.Native.Nat.{ℕ, suc, ◌+◌, ◌-◌, ◌*◌, ◌≤◌, ◌<◌}
use native.Mathlib.Numerals.{add-one}
use native.Mathlib.Omega.{arith}
use native.Mathlib.Decide.{ℕ_discrete}
use mathlib.Core.Path.{◌≡◌, refl, sym, ap, ap₂, subst, ◌∙◌}
use mathlib.Core.Logic.{by_cases}
use mathlib.Core.Bool.{Bool, true, false, ◌&&◌, and_assoc, and-true, and-false}
use mathlib.Core.List as Lists
use mathlib.Core.List.{[], ◌∷◌, ◌++◌}
use lib.ListN.{length, get_or, take, drop, set, length-take, length-drop, length-append, take-append-drop, drop_of_length-le}
use lib.Seq.{drop-drop, take_at, take-take, length-take-le, drop-append-le}
use lib.Dec.{eqb}
use borrow.Author.Tests.{eq-eqb, ne_eqb, eqb-true, eqb-false}
use Rattle.basics.proofs.Facts.{tf}
use Rattle.simulation.specs.Calls.{Call, Buffer, judge, report_lines, original}
use Rattle.simulation.specs.Machine.{label_step, snaps_of}
use Rattle.transition.specs.Forms.{over}
use Rattle.transition.specs.Logs.{fits_next, at_front, right}
use Rattle.transition.proofs.Logs.{front_from, front_end, front_short}
use Rattle.moves.specs.Moves.{call_of}
use Rattle.moves.specs.declared.Request.{Request}
use Rattle.arrays.specs.Arrays.{entries_in}
use Rattle.arrays.specs.Planes.{beside}
use Rattle.engine.proofs.Reports.{result_length}
use Rattle.schedule.proofs.Places.{calls_from, StepAt, calls_step}
use Rattle.unbounded.specs.Tables.{Table, restᵘ, stateᵘ, answeredᵘ, Turnsᵘ, Runnableᵘ}
use Rattle.unbounded.specs.declared.NumberedTurn.{NumberedTurn}
use Rattle.std.specs.Prelude.{Option, Some, None, is_some, Ok, Err}
use Rattle.moves.specs.declared.Refusal.{Refusal}
use Rattle.engine.specs.Clauses.{entries_told}
use Rattle.engine.specs.declared.Handed.{Handed}
use Rattle.logs.specs.Files.{answer_bytes}
use Rattle.logs.specs.Clauses.{writes, RunsCall, numbers_left, pending, calls_left, ahead_log, placed_at, Checking, work_left, Drained, FeedsReport, Finishes}
use Rattle.logs.specs.declared.Ran.{Ran}
use Rattle.logs.specs.declared.Progress.{Progress}

-- BYTES THAT COME NEXT

-- the first i are the same where `same` is true; one more
pub bytes_more : (l m : Lists.List ℕ) (at i : ℕ) (same : Bool) → i < length l → at + i < length m
    → (same && at_front (drop i l) (drop (at + i) m))
    ≡ ((same && eqb (get_or l i 0) (get_or m (at + i) 0)) && at_front (drop (i + 1) l) (drop (at + (i + 1)) m))
bytes_more l m at i same h k = ap (λ b. same && b) (front_from l m i (at + i) h k) ∙ sym (and_assoc same _ _)
    ∙ ap₂ (λ p q. (same && eqb (get_or l i 0) (get_or m (at + i) 0)) && at_front (drop p l) (drop q m)) (sym (add-one i))
    (let e : suc (at + i) ≡ at + (i + 1) = omega arith in e)

pub bytes_end : (l m : Lists.List ℕ) (i : ℕ) (same : Bool) → length l ≤ i → (same && at_front (drop i l) m) ≡ same
bytes_end l m i same h = ap (λ b. same && b) (front_end l m i h) ∙ and-true same

-- those of two lists, one after the other; and of one that is not longer than what is there
front_both : (a b m : Lists.List ℕ) → at_front (a ++ b) m ≡ (at_front a m && at_front b (drop (length a) m))
unfolding at_front
front_both [] b m = refl
front_both (x ∷ a) b [] = refl
front_both (x ∷ a) b (y ∷ m) = ap (λ c. eqb x y && c) (front_both a b m) ∙ sym (and_assoc (eqb x y) (at_front a m) (at_front b (drop (length a) m)))

front_within : (a m more : Lists.List ℕ) → length a ≤ length m → at_front a (m ++ more) ≡ at_front a m
unfolding at_front
front_within [] m more h = refl
front_within (x ∷ a) [] more h = absurd (omega arith)
front_within (x ∷ a) (y ∷ m) more h = ap (λ c. eqb x y && c) (front_within a m more (omega arith))

-- the first k of l stand at the front of m or not, and the rest is asked of what follows
front_part : (l m more : Lists.List ℕ) (k : ℕ) → k ≤ length l → k ≤ length m
    → at_front l (m ++ more) ≡ (at_front (take k l) m && at_front (drop k l) (drop k m ++ more))
front_part l m more k h g =
    let long = length-take-le k l h in
    ap (λ x. at_front x (m ++ more)) (sym (take-append-drop k l)) ∙ front_both (take k l) (drop k l) (m ++ more)
    ∙ ap₂ ◌&&◌ (front_within (take k l) m more (omega (arith, long)))
    (ap (λ j. at_front (drop k l) (drop j (m ++ more))) long ∙ ap (at_front (drop k l)) (drop-append-le k m more g))

-- what is left of the first n behind k of them
take_behind : (k n : ℕ) (l : Lists.List ℕ) → k ≤ n → n ≤ length l → drop k (take n l) ≡ take (n - k) (drop k l)
take_behind k n l h g =
    let long = length-take-le n l g in
    let left : length (drop k (take n l)) ≡ n - k = simp (length-drop) (omega (arith, long)) in
    sym (ap (λ x. take (n - k) (drop k x)) (sym (take-append-drop n l))
    ∙ ap (take (n - k)) (drop-append-le k (take n l) (drop n l) (omega (arith, long))) ∙ take_at (drop k (take n l)) (drop n l) (n - k) left)

-- A CALL

-- its number does not fit
pub run_unfit : {t t' : Table} {order order' : Lists.List ℕ} {c : Call} {log : Lists.List ℕ} {used : ℕ} → Turnsᵘ t order c log used t' order' None
    → (buffer : Lists.List ℕ) → RunsCall t c log used t' buffer None
run_unfit g buffer = record { fits = g.fits; ran = tt }

module _ {t t' : Table} {order order' : Lists.List ℕ} {c : Call} {log : Lists.List ℕ} {used : ℕ} {r : NumberedTurn}
    (g : Turnsᵘ t order c log used t' order' (Some r)) (count : t'.count ≡ t.count) where
  -- it is refused, and writes nothing
  pub run_refused : (e : Refusal) → r.handed ≡ Err e → (buffer : Lists.List ℕ) → RunsCall t c log used t' buffer (Some (record { used = r.used; written = 0 }))
  unfolding report_lines
  run_refused e q buffer = record {
    fits = g.fits;
    ran = record {
      count = count;
      state = g.served.state;
      numbers = (g.served.counted, g.served.enough);
      bytes = (sym (g.served.report ∙ ap (λ h. report_lines c.line 1 (entries_told h t'.results)) q), omega arith);
    };
  }

  -- it is accepted, and what is written is k bytes at the front of a buffer
  pub run_fits : (h : Handed) → r.handed ≡ Ok h → h.entries ≤ 32 → (k : ℕ) (buffer buffer' : Lists.List ℕ) → k ≡ h.entries * 29
      → buffer' ≡ over (report_lines c.line 1 (entries_in h.entries (get_or t'.results h.place []))) buffer
      → RunsCall t c log used t' buffer' (Some (record { used = r.used; written = k }))
  run_fits h q few k buffer buffer' w o =
      let rows = get_or t'.results h.place [] in
      let l = report_lines c.line 1 (entries_in h.entries rows) in record {
        fits = g.fits;
        ran = record {
          count = count;
          state = g.served.state;
          numbers = (g.served.counted, g.served.enough);
          bytes = (
            ap (take k) o ∙ take_at l (drop (length l) buffer) k (result_length c.line h.entries rows ∙ sym w)
                ∙ sym (g.served.report ∙ ap (λ x. report_lines c.line 1 (entries_told x t'.results)) q),
            omega (arith, w, few),
          );
        };
      }

-- THE LOOP over a part of the report, from the check c₀: `read` bytes of it are used up, and what is told of the log is what is told from here on by the rest
pub record Sofar (c₀ : Progress) (t₀ : Table) (file list buffer₀ part : Lists.List ℕ) (c : Progress) (t : Table) (buffer : Lists.List ℕ) (read : ℕ) : Type 0 where
  pub within : read ≤ length part
  pub going : c.right ≡ true
  pub same : (more : Lists.List ℕ) → ahead_log c₀ t₀ file list buffer₀ (part ++ more) ≡ ahead_log c t file list buffer (drop read part ++ more)
  pub less : work_left c file + read ≤ work_left c₀ file

-- a check that is not right stays so
pub feed_none : {c : Progress} {t : Table} {file list buffer part : Lists.List ℕ} → c.right ≡ false → FeedsReport c t file list buffer part c t buffer
feed_none {c} {t} {file} {list} {buffer} {part} e = record {
  same = λ more. rw e refl;
  drained = λ y. absurd (tf y e);
  fewer = λ y. absurd (tf y e);
}

-- a place of a check, whatever is right so far
abbrev pub here : Progress → Bool → Progress
here c b = placed_at c b c.used c.lines c.at c.written c.shown

pub sofar_start : {c : Progress} {t : Table} {file list buffer part : Lists.List ℕ} → c.right ≡ true → Sofar c t file list buffer part (here c true) t buffer 0
sofar_start {c} {t} {file} {list} {buffer} {part} e = record {
  within = omega arith;
  going = refl;
  same = λ more. ap (λ b. ahead_log (here c b) t file list buffer (part ++ more)) e;
  less = omega arith;
}

pub checking_here : {c : Progress} (b : Bool) {t : Table} {order file list buffer : Lists.List ℕ} → Checking c t order file list buffer
    → Checking (here c b) t order file list buffer
checking_here b g = record { runnable = g.runnable; numbers = g.numbers; place = g.place; bytes = g.bytes; room = g.room }

module _ {c₀ : Progress} {t₀ : Table} {file list buffer₀ part : Lists.List ℕ} {c : Progress} {t : Table} {order buffer : Lists.List ℕ} {read : ℕ}
    (f : Sofar c₀ t₀ file list buffer₀ part c t buffer read) (g : Checking c t order file list buffer) where
  abbrev rest : Lists.List ℕ
  rest = drop read part

  -- what is pending, and the test of the steps left
  abbrev due : Lists.List ℕ
  due = pending c buffer

  abbrev behind : Lists.List ℕ → Bool
  behind report = right original t.count (stateᵘ t) (numbers_left c list) report (calls_left c file)

  due_length : length due ≡ c.written - c.shown
  due_length = simp (length-take, length-drop) (omega (arith, g.bytes, g.room))

  from_here : (more : Lists.List ℕ) → ahead_log c₀ t₀ file list buffer₀ (part ++ more) ≡ (at_front due (rest ++ more) && behind (drop (length due) (rest ++ more)))
  from_here more = f.same more ∙ rw f.going refl

  -- the check ends here, and the log is wrong
  wrong : {c' : Progress} → c'.right ≡ false → ((more : Lists.List ℕ) → (at_front due (rest ++ more) && behind (drop (length due) (rest ++ more))) ≡ false)
      → {t' : Table} {buffer' : Lists.List ℕ} → FeedsReport c₀ t₀ file list buffer₀ part c' t' buffer'
  wrong e h = record {
    same = λ more. from_here more ∙ h more ∙ sym (rw e refl);
    drained = λ y. absurd (tf y e);
    fewer = λ y. absurd (tf y e);
  }

  -- THE PART IS USED UP, and something is still to be shown
  pub sofar_waits : c.shown < c.written → length part ≤ read → FeedsReport c₀ t₀ file list buffer₀ part c t buffer
  sofar_waits h l =
      let none : drop read part ≡ [] = drop_of_length-le part l in
      record {
        same = λ more. f.same more ∙ ap (λ x. ahead_log c t file list buffer (x ++ more)) none;
        drained = λ y e. absurd (omega arith);
        fewer = λ y. omega (arith, f.less, f.within);
      }

  -- SOME BYTES are to be shown, k of them by this part
  module _ (k : ℕ) (h : k ≤ c.written - c.shown) (l : k ≤ length part - read) where
    abbrev next : Progress
    next = placed_at c true c.used c.lines c.at c.written (c.shown + k)

    front : take k due ≡ take k (drop c.shown buffer)
    front = take-take k (c.written - c.shown) (drop c.shown buffer) h

    split : (more : Lists.List ℕ) → at_front due (rest ++ more) ≡ (at_front (take k (drop c.shown buffer)) rest && at_front (drop k due) (drop k rest ++ more))
    split more = front_part due rest more k (omega (arith, due_length)) (omega (arith, length-drop read part))
        ∙ ap (λ x. at_front x rest && at_front (drop k due) (drop k rest ++ more)) front

    pub sofar_differs : {c' : Progress} → c'.right ≡ false → at_front (take k (drop c.shown buffer)) rest ≡ false
        → {t' : Table} {buffer' : Lists.List ℕ} → FeedsReport c₀ t₀ file list buffer₀ part c' t' buffer'
    sofar_differs e d = wrong e (λ more. rw (split more, d) refl)

    left : drop k due ≡ pending next buffer
    left = take_behind k (c.written - c.shown) (drop c.shown buffer) h (omega (arith, g.bytes, g.room, length-drop c.shown buffer))
        ∙ ap₂ (λ i x. take i x) (let e : c.written - c.shown - k ≡ c.written - (c.shown + k) = omega arith in e) (drop-drop k c.shown buffer)

    pub sofar_shown : 0 < k → at_front (take k (drop c.shown buffer)) rest ≡ true → Sofar c₀ t₀ file list buffer₀ part next t buffer (read + k)
    sofar_shown some d = record {
      within = omega (arith, f.within);
      going = refl;
      same = λ more.
          let fewer : length due ≡ k + length (drop k due) = omega (arith, length-drop k due, due_length) in
          let gone : drop (length due) (rest ++ more) ≡ drop (length (drop k due)) (drop k rest ++ more)
          = ap (λ i. drop i (rest ++ more)) fewer ∙ sym (drop-drop (length (drop k due)) k (rest ++ more))
          ∙ ap (drop (length (drop k due))) (drop-append-le k rest more (omega (arith, length-drop read part))) in
          from_here more
          ∙ ap (λ b. b && behind (drop (length due) (rest ++ more))) (split more ∙ ap (λ b. b && at_front (drop k due) (drop k rest ++ more)) d)
          ∙ ap (λ x. at_front (drop k due) (drop k rest ++ more) && behind x) gone
          ∙ ap₂ (λ x y. at_front x (y ++ more) && behind (drop (length x) (y ++ more))) left (drop-drop k read part);
      less = omega (arith, f.less);
    }

    pub next_checking : Checking next t order file list buffer
    next_checking = record {
      runnable = g.runnable;
      numbers = g.numbers;
      place = g.place;
      bytes = (omega (arith, g.bytes), g.bytes.1);
      room = g.room;
    }

  -- NOTHING IS TO BE SHOWN
  module _ (h : c.written ≤ c.shown) where
    nothing : due ≡ []
    nothing = let e : c.written - c.shown ≡ 0 = omega arith in rw e refl

    steps_only : (more : Lists.List ℕ) → (at_front due (rest ++ more) && behind (drop (length due) (rest ++ more))) ≡ behind (rest ++ more)
    unfolding at_front
    steps_only more = rw nothing refl

    -- no step is left, so the report must end with the part
    pub sofar_ends : calls_left c file ≡ [] → FeedsReport c₀ t₀ file list buffer₀ part (here c (eqb read (length part))) t buffer
    unfolding right at_front
    sofar_ends e = go (eqb read (length part)) refl
      where
        go : (b : Bool) → eqb read (length part) ≡ b → FeedsReport c₀ t₀ file list buffer₀ part (here c b) t buffer
        go true d =
            let all : drop read part ≡ [] = drop_of_length-le part {i = read} (omega (arith, eqb-true read (length part) d)) in
            record {
              same = λ more. from_here more ∙ ap (λ x. at_front due (x ++ more) && behind (drop (length due) (x ++ more))) all;
              drained = λ y z. e;
              fewer = λ y. omega (arith, f.less, f.within, eqb-true read (length part) d);
            }
        go false d =
            let some : read < length part = omega (arith, f.within, eqb-false read (length part) d) in
            wrong refl (λ more. steps_only more ∙ ap (right original t.count (stateᵘ t) (numbers_left c list) (rest ++ more)) e
            ∙ ap (λ b. eqb (length (numbers_left c list)) 0 && b)
            (ne_eqb (length (rest ++ more)) 0 (λ z. omega (arith, length-append rest more, length-drop read part, z)))
            ∙ and-false (eqb (length (numbers_left c list)) 0))

    -- a step
    module _ {q : Request} (s : StepAt c.lines file c.at q) {t' : Table} {buffer' : Lists.List ℕ} {r : Option Ran}
        (u : RunsCall t (call_of q (Buffer 928)) (take c.count list) c.used t' buffer' r) where
      abbrev call : Call
      call = call_of q (Buffer 928)

      abbrev fits : Bool
      fits = fits_next t.count (beside t.numbers) (label_step (judge original t.count (restᵘ t) call)) (numbers_left c list)

      abbrev bytes : Lists.List ℕ
      bytes = writes t call (numbers_left c list)

      abbrev calls : Lists.List Call
      calls = calls_from (c.lines + 1) file (c.at + 18)

      -- the test of the steps left begins with this one
      step_first : (report : Lists.List ℕ) → behind report
          ≡ (fits && (at_front bytes report
          && right original t.count (answeredᵘ t call (numbers_left c list)).state (drop (snaps_of original t.count (stateᵘ t) call) (numbers_left c list))
          (drop (length bytes) report) calls))
      unfolding right
      step_first report = ap (right original t.count (stateᵘ t) (numbers_left c list) report) (calls_step c.lines file c.at g.place.0 s).0

      pub sofar_unfit : {c' : Progress} → c'.right ≡ false → r ≡ None → {t' : Table} {buffer' : Lists.List ℕ}
          → FeedsReport c₀ t₀ file list buffer₀ part c' t' buffer'
      sofar_unfit e d = wrong e (λ more. steps_only more ∙ step_first (rest ++ more) ∙ rw (sym u.fits ∙ ap is_some d) refl)

    module _ {q : Request} (s : StepAt c.lines file c.at q) {t' : Table} {buffer' : Lists.List ℕ} {r : Ran}
        (u : RunsCall t (call_of q (Buffer 928)) (take c.count list) c.used t' buffer' (Some r)) where
      abbrev then : Progress
      then = placed_at c true r.used (c.lines + 1) (c.at + 18) r.written 0

      abbrev this_call : Call
      this_call = call_of q (Buffer 928)

      abbrev written_bytes : Lists.List ℕ
      written_bytes = writes t this_call (numbers_left c list)

      written : pending then buffer' ≡ written_bytes
      written = let all : r.written - 0 ≡ r.written = omega arith in ap (λ i. take i buffer') all ∙ u.ran.bytes.0

      pub sofar_step : Sofar c₀ t₀ file list buffer₀ part then t' buffer' read
      sofar_step = record {
        within = f.within;
        going = refl;
        same = λ more.
            let ns = drop-drop (snaps_of original t.count (stateᵘ t) this_call) c.used (take c.count list)
            ∙ ap (λ i. drop i (take c.count list)) (sym u.ran.numbers.0) in
            from_here more ∙ steps_only more ∙ step_first s u (rest ++ more) ∙ rw (sym u.fits) refl
            ∙ (λ i. at_front (sym written i) (rest ++ more)
            && right original (sym u.ran.count i) (sym u.ran.state i) (ns i) (drop (length (sym written i)) (rest ++ more)) (calls_from (c.lines + 1) file (c.at + 18)));
        less = omega (arith, f.less, u.ran.bytes.1, s.within);
      }

      pub step_checking : {order' : Lists.List ℕ} → Runnableᵘ t' order' → length buffer' ≡ 928 → Checking then t' order' file list buffer'
      step_checking o l = record {
        runnable = o;
        numbers = (omega (arith, u.ran.numbers.1, length-take c.count list), g.numbers.1);
        place = (s.within, omega (arith, s.few));
        bytes = (omega arith, u.ran.bytes.1);
        room = l;
      }

-- THE END of the report: it is right where all is used up

-- nothing is left of a list
used_up : (l : Lists.List ℕ) (k : ℕ) → k ≤ length l → eqb k (length l) ≡ eqb (length (drop k l)) 0
used_up l k h = by_cases (ℕ_discrete k (length l))
    (λ e. eq-eqb k (length l) e ∙ sym (eq-eqb (length (drop k l)) 0 (omega (arith, length-drop k l))))
    (λ d. ne_eqb k (length l) d ∙ sym (ne_eqb (length (drop k l)) 0 (λ e. d (omega (arith, length-drop k l)))))

pub finished : (c : Progress) {a b : Bool} → a ≡ eqb c.used c.count → b ≡ eqb c.shown c.written → Finishes c ((c.right && a) && b)
unfolding right at_front
finished c p q = subst (Finishes c) (sym (λ i. (c.right && p i) && q i)) (record { told = told })
  where
    told : (t : Table) (order file list buffer : Lists.List ℕ) → Checking c t order file list buffer → Drained c file
        → ((c.right && eqb c.used c.count) && eqb c.shown c.written) ≡ ahead_log c t file list buffer []
    told t order file list buffer g h = go (eqb c.shown c.written) c.right refl refl
      where
        test : Lists.List ℕ → Lists.List Call → Bool
        test report calls = right original t.count (stateᵘ t) (numbers_left c list) report calls

        go : (a b : Bool) → eqb c.shown c.written ≡ a → c.right ≡ b
            → ((b && eqb c.used c.count) && a) ≡ (b && (at_front (pending c buffer) [] && test (drop (length (pending c buffer)) []) (calls_left c file)))
        go a false e r = refl
        go true true e r =
            let same = eqb-true c.shown c.written e in
            let none : c.written - c.shown ≡ 0 = omega arith in
            let size = length-take-le c.count list g.numbers.1 in
            let left = used_up (take c.count list) c.used (omega (arith, g.numbers.0, size)) in
            rw (none, h r same) (and-true (eqb c.used c.count) ∙ ap (eqb c.used) (sym size) ∙ left ∙ sym (and-true (eqb (length (numbers_left c list)) 0)))
        go false true e r =
            let some : c.shown < c.written = omega (arith, g.bytes, eqb-false c.shown c.written e) in
            let long : length (pending c buffer) ≡ c.written - c.shown = simp (length-take, length-drop) (omega (arith, g.bytes, g.room)) in
            and-false (eqb c.used c.count)
            ∙ sym (ap (λ b. b && test (drop (length (pending c buffer)) []) (calls_left c file)) (front_short (pending c buffer) [] (omega (arith, long))))

-- WHAT IS PRINTED, byte by byte, at the front of a longer buffer
pub put_yes : (l : Lists.List ℕ) → 29 ≤ length l → set (set (set (set l 0 121) 1 101) 2 115) 3 10 ≡ over (answer_bytes true) l
put_yes [] h = absurd (omega arith)
put_yes (a ∷ []) h = absurd (omega arith)
put_yes (a ∷ (b ∷ [])) h = absurd (omega arith)
put_yes (a ∷ (b ∷ (c ∷ []))) h = absurd (omega arith)
put_yes (a ∷ (b ∷ (c ∷ (d ∷ l)))) h = refl

pub put_no : (l : Lists.List ℕ) → 29 ≤ length l → set (set (set l 0 110) 1 111) 2 10 ≡ over (answer_bytes false) l
put_no [] h = absurd (omega arith)
put_no (a ∷ []) h = absurd (omega arith)
put_no (a ∷ (b ∷ [])) h = absurd (omega arith)
put_no (a ∷ (b ∷ (c ∷ l))) h = refl
