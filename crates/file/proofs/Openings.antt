-- How a part of a file starts, and what is served of it then.
use Prim.Native.Nat.{ℕ, suc, ◌+◌, ◌-◌, ◌*◌, ◌/◌, ◌≤◌, ◌<◌}
use native.Mathlib.Decide.{dec_lt, ℕ_discrete}
use native.Mathlib.Nat.{zero-add}
use native.Mathlib.Omega.{arith}
use mathlib.Core.Path.{◌≡◌, refl, sym, ap, subst, ◌∙◌}
use mathlib.Core.Logic.{◌≢◌, ◌⊎◌, inl, inr, ⊎_elim, by_cases}
use mathlib.Core.Bool.{Bool, true, false, not, ◌&&◌, cond, true≢false, and-true}
use mathlib.Core.List as Lists
use mathlib.Core.List.{[], append-nil}
use lib.ListN.{length, take, drop, length-take, length-drop, take-append-drop}
use lib.Seq.{take_all}
use lib.Dec.{eqb, ltb}
use borrow.Author.Tests.{eq-eqb, ne_eqb, lt-ltb, le-ltb, eqb-true, ltb-true, ltb-false, not-true}
use Rattle.basics.proofs.Facts.{and_both}
use Rattle.simulation.specs.Calls.{original}
use Rattle.transition.specs.Forms.{over, fresh_table}
use Rattle.moves.specs.Moves.{refusal_number, final_number}
use Rattle.moves.proofs.MoveLaws.{positive, accepted}
use Rattle.moves.specs.declared.Refusal.{Refusal}
use Rattle.std.specs.Prelude.{Some, None, Ok, Err}
use Rattle.arrays.specs.Arrays.{Arrays}
use Rattle.arrays.specs.Form.{lent}
use Rattle.schedule.specs.Tables.{tables}
use Rattle.schedule.specs.Lines.{header_read}
use Rattle.schedule.specs.Sessions.{Session, session, Served}
use Rattle.schedule.specs.Files.{cut, printed, run_lines}
use Rattle.schedule.proofs.SessionLaws.{header_length}
use Rattle.schedule.proofs.Runs.{printed_refusal}
use Rattle.file.specs.Clauses.{Runnable, read_lines, Reports}
use Rattle.file.specs.Feeds.{run_session, awaits, run_from, ready, Underway, Feeds, fed_of, Opened}
use Rattle.file.proofs.FeedLaws.{refused_opened, lines_opened, run_opened, cut_front}
use Rattle.file.specs.declared.Run.{Run}
use Rattle.file.specs.declared.Fed.{Fed}
use Rattle.file.specs.declared.Progress.{Progress}

-- HOW IT STARTS

-- with nothing: the run has ended, or there is no whole line
pub ended_none : (run : Run) (a : Arrays) (last : Bool) (part : Lists.List ℕ) → final_number run.refusal ≢ 0
    → (eqb (final_number run.refusal) 0 && ltb 0 (ready (run_session run a) last part)) ≡ false
ended_none run a last part d = rw (ne_eqb _ 0 d) refl

pub waits_none : (run : Run) (a : Arrays) (last : Bool) (part : Lists.List ℕ) → (ltb (length part) 18 && not last) ≡ true
    → (eqb (final_number run.refusal) 0 && ltb 0 (ready (run_session run a) last part)) ≡ false
waits_none run a last part t =
    let b = and_both (ltb (length part) 18) (not last) t in
    let short : length part < 18 = ltb-true (length part) 18 b.0 in
    let none : length part / 18 ≡ 0 = omega arith in
    rw (not-true last b.1, none) (go (eqb (final_number run.refusal) 0))
  where
    go : (b : Bool) → (b && ltb 0 0) ≡ false
    go true = refl
    go false = refl

-- with lines
pub opened_steps : (run : Run) (a : Arrays) (part : Lists.List ℕ) → final_number run.refusal ≡ 0 → run.lines ≢ 0 → run.lines ≤ 1000001
    → Opened run a part run.lines 0 a
opened_steps run a part going some few = record {
  going = going;
  header = 0;
  waits = inl (refl, opened);
  place = refl;
  within = omega arith;
  counted = omega arith;
  few = (some, few);
  runs = λ k. ap (λ i. run_from (run_session run a) (cut i part)) (zero-add k) ∙ run_opened (run_session run a) opened (cut k part)
      ∙ ap (λ x. run_lines (tables lent) (session run.lines x a) (cut k part)) (accepted run.refusal going);
}
  where
    opened : awaits (run_session run a) ≡ false
    opened = lines_opened (run_session run a) some

-- with a header
module _ (run : Run) (a : Arrays) (last : Bool) (part : Lists.List ℕ) (going : final_number run.refusal ≡ 0) (first : run.lines ≡ 0) where
  pub waiting : awaits (run_session run a) ≡ true
  waiting = rw (eq-eqb _ 0 going, eq-eqb _ 0 first) refl

  pub some_ready : (ltb (length part) 18 && not last) ≡ false → 0 < ready (run_session run a) last part
  some_ready = go last
    where
      go : (b : Bool) → (ltb (length part) 18 && not b) ≡ false → 0 < ready (run_session run a) b part
      go true t = rw waiting (omega arith)
      go false t = omega (arith, ltb-false (length part) 18 (sym (and-true (ltb (length part) 18)) ∙ t))

  pub opened_header : {l : Lists.List ℕ} {n : ℕ} {a₁ : Arrays} → l ≡ take 18 part → header_read original l ≡ Ok n → a₁ ≡ fresh_table lent n
      → Opened run a part 1 18 a₁
  unfolding cut
  opened_header {l} {n} {a₁} q h fresh = record {
    going = going;
    header = 1;
    waits = inr (refl, waiting);
    place = refl;
    within = omega (arith, header_length original l n h, ap length q ∙ length-take 18 part);
    counted = omega (arith, first);
    few = (omega arith, omega arith);
    runs = opens;
  }
    where
      opens : (j : ℕ) → run_from (run_session run a) (cut (1 + j) part) ≡ run_lines (tables lent) (session 1 None a₁) (cut j (drop 18 part))
      opens j =
          let one : 1 + j ≡ suc j = omega arith in
          ap (λ i. run_from (run_session run a) (cut i part)) one ∙ rw (waiting, ← q, h, fresh) refl

-- WHAT IS SERVED
module _ (run : Run) (a : Arrays) (last : Bool) (part buffer : Lists.List ℕ) where
  -- of no line
  abbrev kept : Fed
  kept = record { run = run; read = 0; written = 0; more = false }

  pub feeds_none : (eqb (final_number run.refusal) 0 && ltb 0 (ready (run_session run a) last part)) ≡ false → Feeds run a last part kept a buffer buffer
  unfolding cut
  feeds_none e = record {
    served = 0;
    most = omega arith;
    read = omega arith;
    bytes = [];
    runs = refl;
    written = refl;
    report = refl;
    goes = λ k l. absurd (omega (arith, l));
    more = sym e;
    stops = λ t. absurd (true≢false (sym t));
    short = omega arith;
    counted = λ _. omega arith;
  }

  -- a header that is refused
  module _ (wait : awaits (run_session run a) ≡ true) (some : 0 < ready (run_session run a) last part) (room : 928 ≤ length buffer)
      (fresh : awaits (run_session run a) ≡ true → a ≡ fresh_table lent 2) where
    pub feeds_refused : {x : Refusal} {l : Lists.List ℕ} {w : ℕ} {buffer' : Lists.List ℕ} → header_read original (take 18 part) ≡ Err x → l ≡ take 18 part
        → let told = printed 1 (refusal_number x) [] in w ≡ length told → buffer' ≡ over told buffer
        → Feeds run a last part (record { run = record { lines = 0; refusal = Some x }; read = length l; written = w; more = false }) a
        buffer buffer'
    unfolding cut run_lines
    feeds_refused {x} h e p q =
        let told = printed 1 (refusal_number x) [] in
        let d = positive x in
        record {
          served = 1;
          most = some;
          read = omega (arith, ap length e, length-take 18 part);
          bytes = told;
          runs = rw (wait, h) (λ i. record {
            session = session 0 (Some x) (sym (fresh wait) i);
            refusal = refusal_number x;
            bytes = append-nil told i;
          });
          written = p;
          report = q;
          goes = λ k b. let z : k ≡ 0 = omega (arith, b) in rw z (eqb-true _ 0 (and_both _ _ wait).0, omega (arith, room));
          more = rw (ne_eqb _ 0 d) refl;
          stops = λ t. absurd (true≢false (sym t));
          short = omega (arith, p, printed_refusal 1 (refusal_number x));
          counted = λ z. absurd (d z);
        }

-- lines: up to the end of the part, or up to that of its last whole line
pub end_within : (last : Bool) (n : ℕ) {end : ℕ} → end ≡ cond last n (18 * (n / 18)) → end ≤ n
end_within true n q = omega arith
end_within false n q = omega arith

module _ {run : Run} {a : Arrays} {part : Lists.List ℕ} {lines at : ℕ} {a₁ : Arrays} (f : Opened run a part lines at a₁)
    (last : Bool) {end : ℕ} (isEnd : end ≡ cond last (length part) (18 * (length part / 18))) where
  abbrev h : ℕ
  h = f.header

  pub lines_within : (at ≤ end) × (end ≤ length part)
  lines_within = (go last isEnd, end_within last (length part) isEnd)
    where
      go : (b : Bool) → end ≡ cond b (length part) (18 * (length part / 18)) → at ≤ end
      go true q = omega (arith, f.within)
      go false q = omega (arith, f.within, f.place)

  due : ready (run_session run a) last part ≡ h + (end - at + 17) / 18
  due = go last isEnd
    where
      go : (b : Bool) → end ≡ cond b (length part) (18 * (length part / 18)) → ready (run_session run a) b part ≡ h + (end - at + 17) / 18
      go true q = ⊎_elim (λ w. rw w.1 (omega (arith, w.0, f.place, q))) (λ w. rw w.1 (omega (arith, w.0, f.place, q, f.within, length-drop 18 part)))
          f.waits
      go false q = omega (arith, f.place, q, f.within)

  module _ {chunk : Lists.List ℕ} (e : chunk ≡ take (end - at) (drop at part)) {a' : Arrays} {p : Progress} {buffer buffer' : Lists.List ℕ}
      (g : Reports (session lines None a₁) chunk a' p buffer buffer') where
    abbrev k : ℕ
    k = read_lines p.read

    -- they end at the end of the part, or behind whole lines
    ends : (end ≡ length part) ⊎ ((q : ℕ) × (end ≡ 18 * q))
    ends = go last isEnd
      where
        go : (b : Bool) → end ≡ cond b (length part) (18 * (length part / 18)) → (end ≡ length part) ⊎ ((q : ℕ) × (end ≡ 18 * q))
        go true q = inl q
        go false q = inr (length part / 18, q)

    long : length chunk ≡ end - at
    long = ap length e ∙ length-take (end - at) (drop at part) ∙ omega (arith, length-drop at part, lines_within)

    pub read_within : at + p.read ≤ end
    read_within = omega (arith, g.whole, long, lines_within)

    -- the first lines are those of the part
    lines_same : (j : ℕ) → j ≤ k → cut j (drop at part) ≡ cut j chunk
    lines_same j b =
        let m = end - at in
        let rest = drop at part in
        ⊎_elim
        (λ q. ap (cut j) (sym (e ∙ take_all m rest (omega (arith, length-drop at part)))))
        (λ q. ap (cut j) (sym (take-append-drop m rest)) ∙ cut_front j (take m rest) (drop m rest) (few q.0 q.1) ∙ ap (cut j) (sym e))
        ends
      where
        few : (q : ℕ) → end ≡ 18 * q → 18 * j ≤ length (take (end - at) (drop at part))
        few q w = omega (arith, ap length e, long, g.whole, f.place)

    -- another line could be served exactly if the end is not reached
    more_same : ltb (at + p.read) end ≡ ltb (h + k) (ready (run_session run a) last part)
    more_same = by_cases (dec_lt (at + p.read) end)
        (λ l. lt-ltb _ _ l ∙ sym (lt-ltb (h + k) (ready (run_session run a) last part) (omega (arith, due, g.whole, long))))
        (λ l. le-ltb (at + p.read) end (omega (arith, l))
        ∙ sym (le-ltb (h + k) (ready (run_session run a) last part) (omega (arith, due, l, lines_within))))

    pub feeds_lines : 928 ≤ length buffer → Feeds run a last part (fed_of at p end) a' buffer buffer'
    unfolding cut
    feeds_lines room = record {
      served = h + k;
      most = omega (arith, due, g.whole, long);
      read = ⊎_elim (λ q. omega (arith, g.whole, long, q, f.place, lines_within)) (λ q. omega (arith, g.whole, long, q.1, f.place, lines_within)) ends;
      bytes = g.bytes;
      runs = f.runs k ∙ ap (run_lines (tables lent) (session lines None a₁)) (lines_same k (omega arith)) ∙ g.runs;
      written = g.written;
      report = g.report;
      goes = λ j b. by_cases (dec_lt j h) (first j) (λ n. later j (j - h) (omega (arith, n)) (omega (arith, b, n)));
      more = ap (λ b. eqb (final_number p.refusal) 0 && b) more_same;
      stops = λ t. no_room (and_both _ _ t);
      short = omega (arith, g.short);
      counted = λ z. omega (arith, g.counted z, f.counted);
    }
      where
        Fits : Served Arrays → Type 0
        Fits o = (o.refusal ≡ 0) × (length o.bytes + 928 ≤ length buffer)

        first : (j : ℕ) → j < h → Fits (run_from (run_session run a) (cut j part))
        first j b =
            let z : j ≡ 0 = ⊎_elim (λ w. omega (arith, w.0)) (λ w. omega (arith, w.0)) f.waits in
            rw z (f.going, omega (arith, room))

        later : (j i : ℕ) → j ≡ h + i → i < k → Fits (run_from (run_session run a) (cut j part))
        later j i q b = subst Fits
            (sym (ap (λ x. run_from (run_session run a) (cut x part)) q ∙ f.runs i ∙ ap (run_lines (tables lent) (session lines None a₁)) (lines_same i (omega arith))))
            (g.goes i b)

        no_room : (eqb (final_number p.refusal) 0 ≡ true) × (ltb (at + p.read) end ≡ true) → length buffer < p.written + 928
        no_room t = ⊎_elim (λ d. absurd (d (eqb-true _ 0 t.0)))
            (⊎_elim (λ q. absurd (omega (arith, q, long, ltb-true (at + p.read) end t.1))) (λ l. l)) g.stops

    -- and the run that is left
    pub underway_lines : {order : Lists.List ℕ} → Runnable a' order → Underway (record { lines = p.lines; refusal = p.refusal }) a' order
    underway_lines x = record {
      runnable = x;
      few = λ z. (g.counted z).1 f.few.1;
      fresh = λ w. absurd (true≢false (sym w ∙ opened));
    }
      where
        left : Session Arrays
        left = session p.lines p.refusal a'

        opened : awaits left ≡ false
        opened = by_cases (ℕ_discrete (final_number p.refusal) 0)
            (λ z. lines_opened left (λ e. f.few.0 (omega (arith, (g.counted z).0, e))))
            (λ n. refused_opened left n)

pub underway_refused : {run : Run} {a : Arrays} {order : Lists.List ℕ} → Underway run a order → (l : Lists.List ℕ) (x : Refusal)
    → header_read original l ≡ Err x → Underway (record { lines = 0; refusal = Some x }) a order
underway_refused {a = a} f l x h =
    let d = positive x in
    record { runnable = f.runnable; few = λ z. absurd (d z); fresh = λ w. absurd (true≢false (sym w ∙ refused_opened (session 0 (Some x) a) d)) }
