-- A loop that fills the first n records of a slice, walked once: for any records and entries that are plain data (R, E), any count w of entries, every f that
-- makes a record of entry i, and every key of a function whose contract says so.
--     fn fill(panel: &mut [R], entries: [E; w], n: usize) { let mut i: usize = 0; while i < n { panel[i] = record(entries, i); i = i + 1; } }
-- The borrow of the panel is opened once, before the loop; a turn makes a record, takes one element out of the row, stores the record over it and puts it back;
-- the borrow is closed when the loop is left.
-- `fill_spec`: the loop, whose MIR calls the key, meets its contract, where the routine under the key meets that of the function.
use mathlib.Core.Path.{◌≡◌, refl, sym, ◌∙◌, ap, subst}
use Prim.Native.Nat.{ℕ, suc, ◌+◌, ◌-◌, ◌*◌, ◌≤◌, ◌<◌, ◌^◌, zero-le}
use native.Mathlib.Nat.{mul-le-mul_right, le_of_lt, le_antisymm, lt_of_le_of_lt, lt_of_lt_of_le, le_trans, le_refl}
use native.Mathlib.Numerals.{add-one-le, add-one-dec}
use native.Mathlib.Omega.{arith}
use mathlib.Core.WellFounded.InvImage
use mathlib.Core.WellFounded.{WellFounded}
use mathlib.Core.List.{[], ◌∷◌, List}
use lib.WfN.{lt-wf_rel}
use lib.Dec.{T, ltb, ltb→lt, nltb→le, lit<}
use lib.ListN.{length, set}
use seplogic.Ra.Ura.{Ura}
use base.Fraction.{full_share}
use mir.Syntax.{Ty, Callee, Fn, Body, seq, skip as skipᴹ, assign, block, loop, cond, exit, return, call, named, mut, w64, ty_int, ty_bool, ty_ptr, ty_ref, ty_array}
use mir.Syntax.{ty_unit, unsigned, lt, mul, add, offset, op2, int, opd_unit, rv_opd, copy, place, field, deref, local, value_local}
use mir.Val.{Val, vint, vptr, vunit}
use base.Logic.{SProp, ent, emp, snd∗, ex_e, id⊢}
use base.Fml.{GName, Lft, Share, ftrue, fat, froom, fdies, flft, fobs, fauth, fbor, fobor}
use prog.Model.{Model}
use prog.Routine.{Routine, Env as Linkage}
use prog.Wp.{Closed, Out, Env, after_seq, after_block, after_turn, Calls, Loops, Wp, at_return, WpFn, Tables}
use types.Logic.{Logic, sem}
use contract.Monad.{fact}
use contract.Running.{Running, tables}
use types.Kit.{Item, ‵, raw, runs, any_q, at_ret, Sq, ◌⊛◌, some, later, ⋆, ◌$◌, ◌∵◌, !, qed, by, move, keep, drop, use0, use1, split, join, pick}
use types.Kit.{rewrite, fsplit, fjoin, feq_i, suffices, frame, await, done}
use types.Run.{look, init, store, store_raw, forget, stop, hop, fld, from, load, lit, unit_lit, bin, of_opd, and_then, no_more, assigns, assigns_last, first}
use types.Run.{skips, jumps, blocks, branches, land, returns, enter, alloc1, alloc0, params1, pass1, pass0, free1, free0, exec, Below, again, loops}
use types.Part.{whole, sub, look_in}
use sound.WpLaws.{fm_of, WpFn-mono}
use denote.RattleType.{RattleType, owns}
use denote.Shadow.{pure_i}
use denote.Laws.{Is, shows}
use denote.Memory.{mem, pointee}
use denote.Array.{Array, array_vals, Array-Tells, Array-Lawful, Array-Makes}
use denote.Plain.{uint_vals, uint_Tells, uint_Makes}
use denote.Builtin.{usize, unit, SliceRefMutOf, ArrayOf}
use denote.Ref.{MutBor}
use denote.Slice.{slice_val, slice_ty, MutSlice, Room, heres, coded_holeys, mut_slice_at, mut_slice_vals, mut_slice_Tells}
use denote.Lend.{Held}
use denote.Index.{row as cells, place_is, elem_out, elem_put, opens_slice, closes_slice}
use denote.Signature.{plain}
use denote.Steps.{only, owned, peeks, heard, nothing}
use denote.Triple.Statement.{Contract, Triple}
use denote.Triple.Call.{calls_at}
use denote.Triple.Clauses.{Clauses, Ended, ensured, lasts, closing}
use denote.Triple.Entry.{on_entry}
use denote.Triple.Spec.{Meets, triple_of}
use denote.Triple.Walked.{says, needs, Stays, stay_slice, stay_none, walk_of, Goes-none, Goes-slice, Walks, ends_at, walked, walk_Meets}
use denote.Exit.{yes}
use Rattle.walks.proofs.Linked.{linked}
use Rattle.walks.proofs.Plain.{last_same, silent}
use Rattle.walks.proofs.Structs.{Data, row, ty, vals, tells, makes, lawful, typed, array_same}
use Rattle.walks.proofs.FillLists.{filled, length_filled, filled_more, filled_none}

one_more : (i : ℕ) → i + 1 ≡ suc i
one_more i = omega arith

scaled : (i m s : ℕ) → i < m → m * s < 2 ^ 63 → i * s < 2 ^ 64
scaled i m s h g = let k : i * s ≤ m * s = mul-le-mul_right s (le_of_lt h) in omega (arith, k, g)

-- the bytes of a record
abbrev pub bytes : Data → ℕ
bytes R = (mem (row R)).size

-- what the records are made by, and what is said of it
abbrev pub Makes : Data → Data → Type 0
Makes E R = List (row E).Denot → ℕ → (row R).Denot

module _ (E R : Data) (w : ℕ) where
  -- ---- the function that makes one record
  abbrev pub record_ended : Ended
  record_ended = record {
    signature = record {
      lifetimes = 0;
      outlives = [];
      params = ArrayOf (plain (λ _. row E)) (λ _. tt) w ∷ plain (λ _. usize) ∷ [];
      result = plain (λ _. row R);
    };
    kept = (yes, (yes, tt));
  }

  abbrev pub record_clauses : Makes E R → {M : Type 1} (𝓤 : Ura M) → Clauses 𝓤 record_ended
  record_clauses f 𝓤 κs a = record {
    ghost = Unit {0};
    requires = λ _. fact 𝓤 (a.1.0 < w);
    ensures = λ _ r e. fact 𝓤 (r ≡ f a.0 a.1.0);
  }

  abbrev pub RecordAt : Makes E R → {M : Type 1} {𝓤 : Ura M} (𝓛 : Logic 𝓤) → Contract 𝓤
  RecordAt f {𝓤 = 𝓤} 𝓛 = triple_of 𝓛 record_ended.signature (closing 𝓛 record_ended (record_clauses f 𝓤))

  -- ---- the loop: its signature, its contract, and its MIR, which calls the key
  abbrev pub fill_ended : Ended
  fill_ended = record {
    signature = record {
      lifetimes = 1;
      outlives = [];
      params = SliceRefMutOf (0 ∷ []) tt (plain (λ _. row R)) (λ _. tt) ∷ ArrayOf (plain (λ _. row E)) (λ _. tt) w ∷ plain (λ _. usize) ∷ [];
      result = plain (λ _. unit);
    };
    kept = (yes, (yes, (yes, tt)));
  }

  abbrev pub fill_clauses : Makes E R → {M : Type 1} (𝓤 : Ura M) → Clauses 𝓤 fill_ended
  fill_clauses f 𝓤 κs a = record {
    ghost = Unit {0};
    requires = λ _. fact 𝓤 ((a.1.1.0 ≤ w) × (a.1.1.0 ≤ length a.0.now));
    ensures = λ _ r e. fact 𝓤 (e.0.now ≡ filled (f a.1.0) a.1.1.0 a.0.now);
  }

  abbrev pub Fill : Makes E R → {M : Type 1} {𝓤 : Ura M} (𝓛 : Logic 𝓤) → Contract 𝓤
  Fill f {𝓤 = 𝓤} 𝓛 = triple_of 𝓛 fill_ended.signature (closing 𝓛 fill_ended (fill_clauses f 𝓤))

  abbrev slice : Ty
  slice = slice_ty (ty_ref (named 0) mut (pointee (row R).written))

  abbrev list : Ty
  list = ty_array (ty E) w

  abbrev word : Ty
  word = ty_int w64

  -- a turn, without its test; a turn; what comes after the loop; and the loop with it
  abbrev stores : Callee → Body
  stores key = seq (call key (copy (place 2 []) ∷ copy (place 4 []) ∷ []) (place 6 []))
      (seq (assign (place 7 []) (op2 (mul unsigned) (copy (place 4 [])) (int w64 (bytes R))))
      (seq (assign (place 8 []) (op2 offset (copy (place 1 (field 0 ∷ []))) (copy (place 7 []))))
      (seq (assign (place 8 (deref (ty R) ∷ [])) (rv_opd (copy (place 6 []))))
      (assign (place 4 []) (op2 (add unsigned) (copy (place 4 [])) (int w64 1))))))

  abbrev turn : Callee → Body
  turn key = seq (assign (place 5 []) (op2 (lt unsigned) (copy (place 4 [])) (copy (place 3 []))))
      (seq (cond (copy (place 5 [])) skipᴹ (exit 1)) (stores key))

  abbrev leave : Body
  leave = seq (assign (place 0 []) (rv_opd opd_unit)) return

  abbrev run : Callee → Body
  run key = seq (block (loop (turn key))) leave

  abbrev pub fill_function : Callee → Fn
  fill_function key = record {
    lifetimes = 1;
    outlives = [];
    ty_params = [];
    givens = 0;
    params = 3;
    locals = local ty_unit value_local ∷ local slice value_local ∷ local list value_local ∷ local word value_local ∷ local word value_local ∷ local ty_bool value_local
        ∷ local (ty R) value_local ∷ local word value_local ∷ local ty_ptr value_local ∷ [];
    body = seq (assign (place 4 []) (rv_opd (int w64 0))) (run key);
  }

  abbrev Es : RattleType
  Es = Array (row E) w

  abbrev es_vals : List (row E).Denot → List Val
  es_vals = array_vals (vals E)

  abbrev stayed : Stays fill_ended.signature.params fill_ended.kept
  stayed = (stay_slice (0 ∷ []) tt (plain (λ _. row R)), (stay_none (λ _. Es) yes, (stay_none (λ _. usize) yes, tt)))

  module _ (f : Makes E R) (key : Callee) (thin : T (ltb (bytes R) (2 ^ 64))) where
    record_of : {M : Type 1} {𝓤 : Ura M} (𝓛 : Logic 𝓤) (es : List (row E).Denot) (i : ℕ) (r : (row R).Denot)
        → ent 𝓤 (ensured 𝓛 record_ended (record_clauses f 𝓤) tt (es, (i, tt)) tt r) (fact 𝓤 (r ≡ f es i))
    record_of {𝓤 = 𝓤} 𝓛 es i r = ex_e 𝓤 _ (λ ws. snd∗ 𝓤 (sem 𝓛 (lasts record_ended tt (es, (i, tt)) ws)) (fact 𝓤 (r ≡ f es i)))

    module _ {M : Type 1} {𝓤 : Ura M} (𝓛 : Logic 𝓤) (κ : Lft) (q : Share)
        (b o : ℕ) (γ : GName) (ys : List (row R).Denot) (es : List (row E).Denot) (n : ℕ)
        (room : Room (row R) (length ys)) (is-es : Is Es es (es_vals es)) (n-fits : n < 2 ^ 64) (short : n ≤ w) (long : n ≤ length ys) where
      open 𝓛 use {H}

      abbrev x : List (row R).Denot → MutBor (List (row R).Denot)
      x l = record { ref_ptr = (b, o); ghost_name = γ; now = l }

      abbrev s : Val
      s = slice_val (b, o) (length ys)

      abbrev ev : Val
      ev = only (es_vals es)

      abbrev a : MutBor (List (row R).Denot) × (List (row E).Denot × (ℕ × Unit {0}))
      a = (x ys, (es, (n, tt)))

      abbrev av : List Val × (List Val × (List Val × Unit {0}))
      av = (s ∷ [], (ev ∷ [], (vint w64 n ∷ [], tt)))

      abbrev Post : Val → SProp 𝓤
      Post = (walk_of 𝓛 fill_ended stayed (fill_clauses f 𝓤)).post (((κ, tt), (q, tt), tt, a, av), tt)

      es_makes : ent 𝓤 (emp 𝓤) (sem 𝓛 (Es.own_val es (ev ∷ [])))
      es_makes = Array-Makes 𝓛 (row E) (makes E 𝓛) w es (ev ∷ []) is-es

      -- what `record_at`'s triple binds outside, and what makes what it asks
      abbrev to_record : ℕ → (RecordAt f 𝓛).Ghost
      to_record i = ((tt, tt, tt, (es, (i, tt)), (ev ∷ [], (vint w64 i ∷ [], tt))), tt)

      goes_record : (i : ℕ) → i < w → i < 2 ^ 64 → ent 𝓤 (emp 𝓤) ((RecordAt f 𝓛).pre (to_record i))
      goes_record i small fits =
          qed 𝓛 [] ∵ says ! small $ nothing ! $ owned ! usize (Is usize) (uint_Makes 𝓛 w64) i _ (refl, fits) $ fjoin ! $
          use0 𝓛 (‵ (Es.own_val es (ev ∷ []))) es_makes $ fjoin ! $ nothing ! $ frame ! $ done !

      -- the panel when i records are filled
      abbrev panel : ℕ → List (row R).Denot
      panel i = filled (f es) i ys

      same_length : (i : ℕ) → i ≤ n → length (panel i) ≡ length ys
      same_length i l = length_filled (f es) i ys (le_trans l long)

      exits : ent 𝓤 (⋆ 𝓛 (‵ (fobs γ ((coded_holeys (row R)).code (heres (row R) (panel n)))) ∷ ‵ (fbor κ (Held (row R) (length (panel n)) b o γ)) ∷ ‵
          (flft κ q) ∷ [])) (Post vunit)
      exits =
          let l = same_length n (le_refl n) in
          qed 𝓛 (‵ (fobs γ ((coded_holeys (row R)).code (heres (row R) (panel n)))) ∷ ‵ (fbor κ (Held (row R) (length (panel n)) b o γ)) ∷ ‵ (flft κ q) ∷ []) ∵
          suffices ! _ (ends_at 𝓛 fill_ended stayed (fill_clauses f 𝓤) (((κ, tt), (q, tt), tt, a, av), tt) vunit tt
          (panel n, (last_same (array_same E w) es, (tt, tt))) (l, (tt, (tt, tt)))) $
          says ! refl $ nothing ! $ move ! (3 ∷ 0 ∷ []) $ join ! $ frame ! $
          fjoin ! $ pure_i ! (mut_slice_at (row R) (x (panel n)) (s ∷ [])) (tt, (tt, tt)) (
            ap (λ (m : ℕ). slice_val (b, o) m ∷ []) (sym l),
            subst (Room (row R))
                (sym l) room,
          ) $ fjoin ! $
          nothing ! $ owned ! usize (Is usize) (uint_Makes 𝓛 w64) n _ (refl, n-fits) $ fjoin ! $ use0 𝓛 (‵ (Es.own_val es (ev ∷ []))) es_makes $ fjoin ! $
          move ! (1 ∷ 0 ∷ []) $ fjoin ! $ frame ! $ feq_i ! (List Val) (vunit ∷ []) (vunit ∷ []) refl $ done !

      -- ---- the loop
      module _ (𝓣 : Tables 𝓤 H) (known : Triple 𝓤 (𝓣.C key) (RecordAt f 𝓛)) (l₀ l₁ l₂ l₃ l₄ l₅ l₆ l₇ l₈ : ℕ) where
        abbrev C : Calls 𝓤 H
        C = 𝓣.C

        abbrev Λ : Loops 𝓤 H
        Λ = 𝓣.Λ

        abbrev En : Env 𝓤 H
        En = (ty_unit, l₀) ∷ (slice, l₁) ∷ (list, l₂) ∷ (word, l₃) ∷ (word, l₄) ∷ (ty_bool, l₅) ∷ ((ty R), l₆) ∷ (word, l₇) ∷ (ty_ptr, l₈) ∷ []

        abbrev Upto : Type 0
        Upto = (i : ℕ) × (i ≤ n)

        abbrev Nearer : Upto → Upto → Type 0
        Nearer j i = n - j.0 < n - i.0

        Nearer_wf : WellFounded Nearer
        Nearer_wf = InvImage.wf (λ (i : Upto). n - i.0) lt-wf_rel.wf

        -- the invariant: i records are filled
        abbrev At : Upto → List (Item 𝓤)
        At i = ‵ (cells (row R) full_share (panel i.0) b o) ∷ ‵ (fobor κ q (Held (row R) (length ys) b o γ))
            ∷ ‵ (fobs γ ((coded_holeys (row R)).code (heres (row R) ys))) ∷ ‵ (fauth γ ((coded_holeys (row R)).code (heres (row R) ys)))
            ∷ ‵ (froom ty_ptr l₈ 0) ∷ ‵ (fdies ty_ptr l₈) ∷ ‵ (froom word l₇ 0) ∷ ‵ (fdies word l₇) ∷ ‵ (froom (ty R) l₆ 0) ∷ ‵ (fdies (ty R) l₆)
            ∷ ‵ (froom ty_bool l₅ 0) ∷ ‵ (fdies ty_bool l₅) ∷ ‵ (fat full_share word l₄ 0 (vint w64 i.0)) ∷ ‵ (fdies word l₄)
            ∷ ‵ (fat full_share word l₃ 0 (vint w64 n)) ∷ ‵ (fdies word l₃) ∷ ‵ (fat full_share list l₂ 0 ev) ∷ ‵ (fdies list l₂)
            ∷ ‵ (fat full_share slice l₁ 0 s) ∷ ‵ (fdies slice l₁) ∷ ‵ (froom ty_unit l₀ 0) ∷ ‵ (fdies ty_unit l₀) ∷ []

        -- a turn's postcondition: it ends nearer to n, or the loop is left and the rest of the body runs
        abbrev Turned : Upto → Out → SProp 𝓤
        Turned i = after_turn 𝓤 H (Below 𝓛 Nearer At i) (after_block 𝓤 H (after_seq 𝓤 H (Wp 𝓤 H C Λ En leave (at_return 𝓤 H En Post))
            (at_return 𝓤 H En Post)))

        turns : (i : Upto) → Sq 𝓛 (At i) (runs C Λ En (turn key) (any_q (Turned i)))
        unfolding after_turn
        turns i =
            assigns ! (bin ! (load ! (from ! (stop !)) (look ! 12 refl)) (load ! (from ! (stop !)) (look ! 14 refl)) tt) (from ! (stop !))
            (init ! 10 refl (tt, tt)) $ first ! $ branches ! (load ! (from ! (stop !)) (look ! 10 refl))
            -- [the row; the open borrow; obs; auth; _8; …; _7; …; _6; …; _5; …; _4; …; _3; …; _2; …; _1; …; room for _0; …]
            (λ less. skips ! $ exec ! C Λ En (stores key) (any_q (Turned i)) $
            use0 𝓛 (raw ((RecordAt f 𝓛).pre (to_record i.0))) (goes_record i.0 (lt_of_lt_of_le (under less) short) (fits i)) $
            calls_at ! (fm_of 𝓤 H 𝓛.laws 𝓣) (RecordAt f 𝓛) known (to_record i.0) (and_then ! (load ! (from ! (stop !)) (look ! 17 refl))
            (and_then ! (load ! (from ! (stop !)) (look ! 13 refl)) (no_more !))) (λ v.
            use1 𝓛 (later (some (λ (r : (row R).Denot). (‵ ftrue ⊛ ‵ ((row R).own_val r (v ∷ []))) ⊛ raw
            (ensured 𝓛 record_ended (record_clauses f 𝓤) tt (es, (i.0, tt)) tt r)))) (id⊢ 𝓤 _) $ await ! tt $ pick ! (λ r.
            split ! $ move ! (1 ∷ []) $ use1 𝓛 (raw (fact 𝓤 (r ≡ f es i.0))) (record_of 𝓛 es i.0 r) $
            heard ! (r ≡ f es i.0) (λ e. split ! $ drop ! $ peeks ! (row R) (Is (row R)) (shows 𝓛 (row R)) r (v ∷ []) (λ is.
            -- [what the record owns; the row; the open borrow; obs; auth; _8; …]
            land ! (from ! (stop !)) (init ! 9 refl (typed R 𝓛 r v is)) $
            assigns ! (bin ! (load ! (from ! (stop !)) (look ! 13 refl)) (lit ! thin) (record { fits = wide less })) (from ! (stop !))
            (init ! 7 refl (tt, record { fits = wide less })) $
            assigns ! (bin ! (load ! (from ! (fld ! refl (stop !))) (look_in ! 19 (sub ! 0 refl (whole !)))) (load ! (from ! (stop !)) (look ! 7 refl)) tt)
            (from ! (stop !)) (init ! 5 refl (tt, tt)) $
            rewrite ! 5 (λ (p : ℕ). ‵ (fat full_share ty_ptr l₈ 0 (vptr b p))) (sym (place_is (bytes R) o i.0)) refl $
            -- the element at i is taken out of the row, stored to, and put back
            move ! (1 ∷ []) $ elem_out ! (row R) (Is (row R)) (shows 𝓛 (row R)) (vals R) (tells R)
            full_share (panel i.0) i.0 r b o (within less) (λ _.
            assigns ! (of_opd ! (load ! (from ! (stop !)) (look ! 11 refl))) (from ! (hop ! (look ! 7 refl) (stop !)))
            (store_raw ! 0 refl (typed R 𝓛 r v is)) $
            move ! (1 ∷ []) $ drop ! $ move ! (0 ∷ 2 ∷ 1 ∷ []) $ elem_put ! (row R) full_share (panel i.0) i.0 r (v ∷ []) b o (within less) $
            rewrite ! 0 (λ (zs : List (row R).Denot). ‵ (cells (row R) full_share zs b o))
            (ap (set (panel i.0) i.0) e ∙ filled_more (f es) i.0 ys (small less) ∙
            ap panel (sym (one_more i.0))) refl $
            assigns_last ! (bin ! (load ! (from ! (stop !)) (look ! 12 refl)) (lit ! tt) (record { fits = fits (next less) })) (from ! (stop !))
            (store ! 12 refl (tt, record { fits = fits (next less) })) $
            forget ! 4 refl $ forget ! 6 refl $ forget ! 8 refl $ forget ! 10 refl $ again ! Nearer At i (next less) (add-one-dec n i.0 (under less))))))))
            (λ over. jumps ! $ exec ! C Λ En leave (at_ret En Post) $
            rewrite ! 0 (λ (j : ℕ). ‵ (cells (row R) full_share (panel j) b o)) (le_antisymm i.1 (nltb→le i.0 n over)) refl $
            closes_slice ! tt (row R) ys (panel n) (same_length n (le_refl n)) b o $
            -- [obs; the borrow; the token; room for _8; …; _7; …; _6; …; _5; …; _4; …; _3; …; _2; …; _1; …; room for _0; …]
            assigns ! (of_opd ! (unit_lit !)) (from ! (stop !)) (init ! 19 refl (tt, tt)) $
            returns ! (look ! 19 refl) $ forget ! 9 refl $ forget ! 11 refl $ forget ! 13 refl $ forget ! 15 refl $ forget ! 17 refl $ forget ! 19 refl $
            move ! (19 ∷ 20 ∷ []) $ free1 ! $ move ! (17 ∷ 18 ∷ []) $ free1 ! $ move ! (15 ∷ 16 ∷ []) $ free1 ! $ move ! (13 ∷ 14 ∷ []) $ free1 ! $
            move ! (11 ∷ 12 ∷ []) $ free1 ! $ move ! (9 ∷ 10 ∷ []) $ free1 ! $ move ! (7 ∷ 8 ∷ []) $ free1 ! $ move ! (5 ∷ 6 ∷ []) $ free1 ! $
            move ! (3 ∷ 4 ∷ []) $ free1 ! $ free0 ! $ by ! exits)
          where
            under : T (ltb i.0 n) → i.0 < n
            under less = ltb→lt i.0 n less

            small : T (ltb i.0 n) → i.0 < length ys
            small less = lt_of_lt_of_le (under less) long

            within : T (ltb i.0 n) → i.0 < length (panel i.0)
            within less = subst (λ (m : ℕ). i.0 < m) (sym (same_length i.0 i.1)) (small less)

            wide : T (ltb i.0 n) → i.0 * bytes R < 2 ^ 64
            wide less = scaled i.0 (length ys) (bytes R) (small less) room.1

            fits : (j : Upto) → j.0 < 2 ^ 64
            fits j = lt_of_le_of_lt j.1 n-fits

            next : T (ltb i.0 n) → Upto
            next less = (i.0 + 1, add-one-le (under less))

        looped : Sq 𝓛 (At (0, zero-le)) (runs C Λ En (run key) (at_ret En Post))
        looped = first ! $ blocks ! $ loops ! 𝓣 Nearer Nearer_wf At turns (0, zero-le)

      -- the MIR, up to the loop
      module _ (𝓣 : Tables 𝓤 H) (known : Triple 𝓤 (𝓣.C key) (RecordAt f 𝓛)) where
        walk : ent 𝓤 (on_entry 𝓛 fill_ended.signature (κ, tt) (q, tt) a av) (WpFn 𝓤 H 𝓣.C 𝓣.Λ (fill_function key) (s ∷ ev ∷ vint w64 n ∷ []) Post)
        walk =
            qed 𝓛 ((‵ (flft κ q) ⊛ ‵ ftrue) ∷ ‵ (owns (MutSlice (named 0) κ (row R) ∷ Es ∷ usize ∷ []) a av) ∷ []) ∵ enter ! 𝓣.C 𝓣.Λ (fill_function key)
            (s ∷ ev ∷ vint w64 n ∷ []) _ $
            alloc1 ! (λ l₀. alloc1 ! (λ l₁. alloc1 ! (λ l₂. alloc1 ! (λ l₃. alloc1 ! (λ l₄. alloc1 ! (λ l₅. alloc1 ! (λ l₆. alloc1 ! (λ l₇. alloc1 ! (λ l₈.
            alloc0 ! $ params1 ! $ pass1 ! (init ! 14 refl (tt, (tt, (record { fits = room.0 }, tt)))) $
            pass1 ! (init ! 12 refl ((Array-Lawful 𝓛 (row E) (lawful E 𝓛) w).typed es _ is-es).0) $
            pass1 ! (init ! 10 refl (tt, record { fits = n-fits })) $ pass0 ! $
            -- [_8; …; _7; …; _6; …; _5; …; _4; …; _3; …; _2; …; _1; …; room for _0; …; the token; what the parameters own]
            assigns ! (of_opd ! (lit ! tt)) (from ! (stop !)) (init ! 8 refl (tt, record { fits = lit< tt })) $
            -- the borrow is opened
            move ! (19 ∷ []) $ fsplit ! $ fsplit ! $ drop ! $ fsplit ! $ move ! (21 ∷ []) $ split ! $ move ! (2 ∷ 3 ∷ 0 ∷ []) $
            opens_slice ! tt (row R) ys b o $
            rewrite ! 0 (λ (zs : List (row R).Denot). ‵ (cells (row R) full_share zs b o)) (filled_none (f es) ys) refl $
            -- [the row; the open borrow; obs; auth; true; the others' facts; _8; …]
            keep ! (0 ∷ 1 ∷ 2 ∷ 3 ∷ 6 ∷ 7 ∷ 8 ∷ 9 ∷ 10 ∷ 11 ∷ 12 ∷ 13 ∷ 14 ∷ 15 ∷ 16 ∷ 17 ∷ 18 ∷ 19 ∷ 20 ∷ 21 ∷ 22 ∷ 23 ∷ []) $
            looped 𝓣 known l₀ l₁ l₂ l₃ l₄ l₅ l₆ l₇ l₈)))))))))

    module _ {M : Type 1} {𝓤 : Ura M} (𝓛 : Logic 𝓤) (𝓣 : Tables 𝓤 𝓛.H) (known : Triple 𝓤 (𝓣.C key) (RecordAt f 𝓛)) where
      open 𝓛 use {H}

      fill_walks : Walks 𝓛 fill_ended stayed (WpFn 𝓤 H 𝓣.C 𝓣.Λ (fill_function key)) (fill_clauses f 𝓤)
      fill_walks = walked 𝓛 fill_ended stayed (fill_clauses f 𝓤) (WpFn 𝓤 H 𝓣.C 𝓣.Λ (fill_function key))
          (λ κs. (mut_slice_vals, (es_vals, (uint_vals w64, tt))))
          (λ κs. (mut_slice_Tells (named 0) κs.0 (row R), (Array-Tells (row E) (vals E) (tells E) w, (uint_Tells w64, tt))))
          (λ κs qs bounds a g are. needs 𝓤 ((a.1.1.0 ≤ w) × (a.1.1.0 ≤ length a.0.now)) _ (λ asked.
          walk 𝓛 κs.0 qs.0 a.0.ref_ptr.0 a.0.ref_ptr.1 a.0.ghost_name a.0.now a.1.0 a.1.1.0
          are.0.0.1 are.1.0 are.1.1.0.1 asked.0 asked.1 𝓣 known))

      fill_meets : Meets 𝓛 fill_ended.signature (WpFn 𝓤 H 𝓣.C 𝓣.Λ (fill_function key)) (closing 𝓛 fill_ended (fill_clauses f 𝓤))
      fill_meets =
          walk_Meets 𝓛 fill_ended stayed (
            Goes-slice 𝓛 1 0 tt (plain (λ _. row R)),
            (Goes-none 𝓛 1 (λ _. Es) yes (λ κs. silent (array_same E w)), (Goes-none 𝓛 1 (λ _. usize) yes (λ κs x f. refl), tt)),
          ) (fill_clauses f 𝓤) (WpFn 𝓤 H 𝓣.C 𝓣.Λ (fill_function key)) (WpFn-mono 𝓤 H 𝓛.laws 𝓣 (fill_function key)) fill_walks

    module _ {M : Type 1} {𝓤 : Ura M} (𝓛 : Logic 𝓤) (𝓜 : Model 𝓤 𝓛.H) (𝓡 : Running 𝓤 𝓛.H 𝓜) (γ : Linkage) (n : Callee) (r : Routine) where
      open 𝓛 use {H}

      pub fill_spec : γ key ≡ r → Closed 𝓤 H (tables 𝓤 H 𝓜 𝓡 γ).C (tables 𝓤 H 𝓜 𝓡 γ).Λ n (fill_function key)
          → Triple 𝓤 (𝓡.run r) (RecordAt f 𝓛) → Triple 𝓤 (𝓡.run (γ n)) (Fill f 𝓛)
      fill_spec at closed = linked 𝓤 H 𝓜 𝓡 γ n key r (fill_function key) (Fill f 𝓛) (RecordAt f 𝓛) at closed
          (fill_meets 𝓛)
