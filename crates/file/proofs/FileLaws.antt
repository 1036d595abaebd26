-- A whole file, run in parts however much room there is for its report.
use mathlib.Core.Path.{◌≡◌, refl, sym, ap, ◌∙◌}
use mathlib.Core.Logic.{inl}
use mathlib.Core.Bool.{Bool, true, false, cond}
use mathlib.Core.List as Lists
use mathlib.Core.List.{[], ◌∷◌, ◌++◌, append_assoc, append-nil}
use Prim.Native.Nat.{ℕ, suc, ◌+◌, ◌-◌, ◌*◌, ◌/◌, ◌≤◌, ◌<◌}
use native.Mathlib.Numerals.{add-one}
use native.Mathlib.Omega.{arith}
use lib.ListN.{length, get_or, take, drop, set, length-append, length-take, length-drop, take-append-drop}
use lib.Seq.{take_at, drop_at, drop-drop, take-suc, drop-cons, set_at, length-take-le}
use lib.Dec.{leb}
use borrow.Author.Tests.{le-leb, lt-leb}
use Rattle.transition.specs.Forms.{over, fresh_table}
use Rattle.moves.specs.Moves.{final_number}
use Rattle.std.specs.Prelude.{None}
use Rattle.arrays.specs.Arrays.{Arrays}
use Rattle.arrays.specs.Form.{lent}
use Rattle.schedule.specs.Tables.{tables}
use Rattle.schedule.specs.Sessions.{Session, Served}
use Rattle.schedule.specs.Files.{pieces, behind, file_run, file_report}
use Rattle.schedule.proofs.Cuts.{behind_twice}
use Rattle.file.specs.Clauses.{RunsFile, ReportsFile}
use Rattle.file.specs.Feeds.{run_session, awaits, ready, ahead, Feeds}
use Rattle.file.proofs.FeedLaws.{run_started, feeds_within, feeds_shown, feeds_more, feeds_on, feeds_rest, feeds_done}
use Rattle.file.specs.declared.Run.{Run}
use Rattle.file.specs.declared.Fed.{Fed}
use Rattle.file.specs.declared.Ending.{Ending}

-- BYTES

-- one byte more is copied
over_more : (x l : Lists.List ℕ) (v : ℕ) {n : ℕ} → length x ≡ n → n < length l → set (over x l) n v ≡ over (x ++ (v ∷ [])) l
over_more x l v {n} e h =
    ap (λ y. set (x ++ y) n v) (drop-cons l (length x) 0 (omega arith)) ∙ set_at x (get_or l (length x) 0) (drop (suc (length x)) l) v n e
    ∙ sym (rw (length-append x (v ∷ []), add-one (length x)) (append_assoc x (v ∷ []) (drop (suc (length x)) l)))

pub copied_start : (out bytes : Lists.List ℕ) (at : ℕ) → at ≤ length out → out ≡ over (take at out ++ take 0 bytes) out
copied_start out bytes at h = sym (rw (append-nil, length-take-le at out h) (take-append-drop at out))

pub copied_more : (out bytes : Lists.List ℕ) (at i : ℕ) → at + length bytes ≤ length out → i < length bytes
    → set (over (take at out ++ take i bytes) out) (at + i) (get_or bytes i 0) ≡ over (take at out ++ take (i + 1) bytes) out
copied_more out bytes at i l h =
    over_more (take at out ++ take i bytes) out (get_or bytes i 0) (simp (length-append, length-take) (omega arith)) (omega arith)
    ∙ ap (λ x. over x out) (append_assoc (take at out) (take i bytes) _ ∙ ap (λ x. take at out ++ x) (rw add-one (sym (take-suc bytes i 0 h))))

-- bytes put in behind others
put_behind : (bytes x buffer : Lists.List ℕ) {out : Lists.List ℕ} {at : ℕ} → out ≡ over bytes buffer → at ≡ length bytes
    → over (take at out ++ x) out ≡ over (bytes ++ x) buffer
put_behind bytes x buffer e l =
    let rest = drop (length bytes) buffer in
    rw (e, l, take_at bytes rest (length bytes) refl, length-append bytes x) (ap (λ y. (bytes ++ x) ++ y)
    (sym (drop-drop (length x) (length bytes) (bytes ++ rest)) ∙ ap (drop (length x)) (drop_at bytes rest (length bytes) refl)
    ∙ drop-drop (length x) (length bytes) buffer))

-- PART AFTER PART

-- how many lines there are at most
ready_few : (s : Session Arrays) (rest : Lists.List ℕ) → ready s true rest ≤ length rest / 18 + 1
ready_few s rest = go (awaits s)
  where
    go : (w : Bool) → cond w (suc (pieces (drop 18 rest))) (pieces rest) ≤ length rest / 18 + 1
    go true = omega (arith, length-drop 18 rest)
    go false = omega arith

-- the parts so far: what they printed, and that the file goes on from where they left it
pub record Gathered (file out₀ : Lists.List ℕ) (run : Run) (a : Arrays) (long at : ℕ) (out : Lists.List ℕ) : Type 0 where
  pub within : at ≤ length file
  pub going : final_number run.refusal ≡ 0
  pub placed : at ≡ 18 * run.lines
  pub few : long ≤ 928 * run.lines
  pub bytes : Lists.List ℕ
  pub counted : long ≡ length bytes
  pub same : length out ≡ length out₀
  pub area : long ≤ length out₀ → out ≡ over bytes out₀
  pub runs : file_run (tables lent) file ≡ behind bytes (ahead (run_session run a) (drop at file))

pub gathered_start : (file out : Lists.List ℕ) {run : Run} {a : Arrays} → run ≡ record { lines = 0; refusal = None } → a ≡ fresh_table lent 2
    → Gathered file out run a 0 0 out
gathered_start file out {run} {a} e q = record {
  within = omega arith;
  going = ap (λ (u : Run). final_number u.refusal) e;
  placed = omega (arith, ap (λ (u : Run). u.lines) e);
  few = omega arith;
  bytes = [];
  counted = refl;
  same = refl;
  area = λ _. refl;
  runs = sym (run_started file) ∙ (λ i. ahead (run_session (sym e i) (sym q i)) file);
}

module _ {file out₀ : Lists.List ℕ} {run : Run} {a : Arrays} {long at : ℕ} {out : Lists.List ℕ} (f : Gathered file out₀ run a long at out)
    {part : Lists.List ℕ} (p : part ≡ drop at file) {r : Fed} {a' : Arrays} {buffer buffer' : Lists.List ℕ}
    (fed : Feeds run a true part r a' buffer buffer') where
  g : Feeds run a true (drop at file) r a' buffer buffer'
  g = rw p at fed

  pub part_within : at + r.read ≤ length file
  part_within = omega (arith, f.within, feeds_within g, length-drop at file)

  pub part_few : run.lines ≤ 1000001 → length buffer' ≡ 4096 → long + length (take r.written buffer') ≤ 1000000000
  part_few h e = omega (arith, e, f.few, length-take r.written buffer')

  on : file_run (tables lent) file ≡ behind (f.bytes ++ g.bytes) (ahead (run_session r.run a') (drop r.read (drop at file) ++ []))
  on = f.runs ∙ ap (λ x. behind f.bytes (ahead (run_session run a) x)) (sym (append-nil (drop at file)))
      ∙ ap (behind f.bytes) (feeds_rest g [] (λ _. refl)) ∙ behind_twice f.bytes g.bytes _

  -- its bytes stand behind those so far, if they fit
  module _ {w : ℕ} {out' : Lists.List ℕ} (put : let x = take r.written buffer' in
      (w ≡ long + length x) × (w ≤ length out → out' ≡ over (take long out ++ x) out)) (q : length out' ≡ length out) where
    total : w ≡ length (f.bytes ++ g.bytes)
    total = let n : w ≡ long + length g.bytes = (rw (feeds_shown g) at put).0 in omega (arith, n, f.counted, length-append f.bytes g.bytes)

    put_in_lem : w ≤ length out₀ → out' ≡ over (f.bytes ++ g.bytes) out₀
    put_in_lem l = (rw (feeds_shown g) at put).1 (omega (arith, f.same))
        ∙ put_behind f.bytes g.bytes out₀ (f.area (omega (arith, put.0))) f.counted

    -- all lines are served, or one is refused for good
    pub gathered_end : r.more ≡ false → RunsFile file (record { refusal = r.run.refusal; length = w }) out₀ out'
    gathered_end m =
        let e = on ∙ ap (behind (f.bytes ++ g.bytes)) (feeds_done g [] (λ _. refl) m (inl refl)) in
        let b : f.bytes ++ g.bytes ≡ file_report (tables lent) file = sym (append-nil (f.bytes ++ g.bytes)) ∙ sym (ap (λ (x : Served Arrays). x.bytes) e) in
        record {
          refusal = sym (ap (λ (x : Served Arrays). x.refusal) e);
          long = total ∙ ap length b;
          report = λ l. put_in_lem l ∙ ap (λ (x : Lists.List ℕ). over x out₀) b;
          short = omega (
            arith,
            put.0,
            ap length (feeds_shown g),
            g.written,
            g.short,
            g.most,
            f.few,
            f.placed,
            ready_few (run_session run a) (drop at file),
            length-drop at file,
            f.within,
          );
        }

    -- there is more
    module _ (m : r.more ≡ true) (room : length buffer ≡ 4096) where
      step : (0 < r.read) × (r.read ≡ 18 * g.served) × (r.run.lines ≡ run.lines + g.served)
      step = feeds_on g m (omega (arith, room))

      pub part_less : length file - (at + r.read) < length file - at
      part_less = omega (arith, part_within, step)

      pub gathered_more : Gathered file out₀ r.run a' w (at + r.read) out'
      gathered_more = record {
        within = part_within;
        going = (feeds_more g m).0;
        placed = omega (arith, f.placed, step);
        few = omega (arith, put.0, ap length (feeds_shown g), g.written, g.short, f.few, step);
        bytes = f.bytes ++ g.bytes;
        counted = total;
        same = q ∙ f.same;
        area = put_in_lem;
        runs = on ∙ ap (λ x. behind (f.bytes ++ g.bytes) (ahead (run_session r.run a') x)) (append-nil _ ∙ drop-drop r.read at file);
      }

-- THE REPORT

module _ {bs : Lists.List ℕ} {r : Ending} {buffer buffer' : Lists.List ℕ} (f : RunsFile bs r buffer buffer') where
  -- it fits, and is written
  pub file_fits : r.length ≤ length buffer → ReportsFile bs buffer 0 (final_number r.refusal) r.length r.length buffer'
  file_fits h = record {
    number = rw fit refl;
    final = f.refusal;
    count = rw fit f.long;
    long = f.long;
    report = rw fit (f.report h);
  }
    where
      fit : leb (length (file_report (tables lent) bs)) (length buffer) ≡ true
      fit = le-leb (length (file_report (tables lent) bs)) (length buffer) (omega (arith, f.long))

  -- it does not fit, whatever it was written to
  pub file_short : (out : Lists.List ℕ) → length out < r.length → ReportsFile bs out 7 (final_number r.refusal) 0 r.length out
  file_short out h = record { number = rw none refl; final = f.refusal; count = rw none refl; long = f.long; report = rw none refl }
    where
      none : leb (length (file_report (tables lent) bs)) (length out) ≡ false
      none = lt-leb (length (file_report (tables lent) bs)) (length out) (omega (arith, f.long))
