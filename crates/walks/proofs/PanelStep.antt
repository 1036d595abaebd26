-- A step call with a panel of records, walked once: for any board whose structs are plain data (Z), every relation Hands of what the call up to the filling is
-- passed and what it hands out, every relation Shows of what the whole call is passed and what it leaves, every f that makes a record of an entry, and all keys
-- of two callees whose contracts say so.
--     fn step(t: Table, code: u64, station: u64, job: u64, panel: &mut [Record]) -> Outcome
--     { let next = with_panel(t, code, station, job, panel.len()); let entries = next.entries; fill(panel, entries, next.outcome.reply.written); next.outcome }
-- The entries are copied out of their field and passed to the filling with the panel, which goes on at its own lifetime, share and ghost name.
-- `step_spec`: the call, whose MIR calls the two keys, meets its contract, where the routines under the keys meet theirs.
use mathlib.Core.Path.{◌≡◌, refl, sym, ap, subst}
use Prim.Native.Nat.{ℕ, ◌≤◌, ◌<◌, ◌^◌}
use mathlib.Core.List.{[], ◌∷◌, List, map}
use lib.ListN.{length}
use seplogic.Ra.Ura.{Ura}
use base.Fraction.{full_share}
use mir.Syntax.{Callee, Fn, named, erased, mut, w64, ty_int, ty_ref, ty_array, ty_unit, seq, assign, call, return, rv_opd, copy, addr_of, aggregate, place, field}
use mir.Syntax.{deref}
use mir.Syntax.{local, value_local}
use mir.Val.{Val, vint}
use base.Logic.{SProp, ent, emp, via, fst∗, snd∗, ex_e, id⊢}
use base.Fml.{GName, Lft, Share, Fml, ftrue, fsep, fat, flft, fbor}
use prog.Model.{Model}
use prog.Routine.{Routine, Env}
use prog.Wp.{Closed, WpFn, Tables}
use types.Logic.{Logic, sem}
use contract.Monad.{fact}
use contract.Running.{Running, tables}
use types.Kit.{‵, raw, ◌⊛◌, some, later, ⋆, ◌$◌, ◌∵◌, !, qed, by, move, keep, drop, use1, use3, split, join, pick, rewrite, fsplit, fjoin, feq_l}
use types.Kit.{suffices, frame, await, done}
use types.Run.{look, init, forget, stop, hop, fld, from, load, addr, of_opd, and_then, no_more, assigns, land, returns, enter, alloc1, alloc0, params1, pass1}
use types.Run.{pass0, free1, free0}
use types.Part.{agg, whole, sub, look_in}
use sound.WpLaws.{fm_of, WpFn-mono}
use denote.RattleType.{RattleType, owns}
use denote.Laws.{Is, shows}
use denote.Memory.{pointee}
use denote.Array.{Array, array_val, Array-Lawful, Array-Makes}
use denote.Plain.{uint_vals, uint_Tells, uint_Makes, Nothing-Lawful}
use denote.Builtin.{u64, usize, unit, SliceRefMutOf}
use denote.Ref.{MutBor}
use denote.Slice.{slice_val, slice_ty, MutSlice, Room, finally, mut_slice_vals, mut_slice_Tells}
use denote.Lend.{Held}
use denote.Signature.{plain}
use denote.Steps.{only, owned, peeks, heard, nothing}
use denote.Struct.Laws as LL
use denote.Triple.Statement.{Contract, Triple}
use denote.Triple.Call.{calls_at}
use denote.Triple.Clauses.{Clauses, Ended, ensured, lasts, closing}
use denote.Triple.Entry.{on_entry}
use denote.Triple.Spec.{Meets, triple_of}
use denote.Triple.Walked.{says, Stays, gave_slice, stay_none, walk_of, Goes-none, Goes-gave_slice, Walks, ends_at, walked, walk_Meets}
use denote.Exit.{Last, yes}
use Rattle.walks.proofs.PanelLinked.{linked_two}
use Rattle.walks.proofs.Plain.{last_same, silent}
use Rattle.walks.proofs.Structs.{Data, held, row, ty, val, vals, tells, same, makes, lawful, typed}
use Rattle.walks.proofs.PanelTypes.{Board}
use Rattle.walks.proofs.FillLists.{filled}
use Rattle.walks.proofs.Fill.{Makes, Fill, fill_ended, fill_clauses}

-- ---- the parts of what is handed out before the filling, and of what the call returns
module _ (Z : Board) where
  abbrev pub Table : Type 0
  Table = (row Z.table).Denot

  abbrev pub Reply : Type 0
  Reply = Z.reply.D

  abbrev pub Outcome : Type 0
  Outcome = Z.outcome.D

  abbrev pub Record : Type 0
  Record = (row Z.recorded).Denot

  abbrev Unfilled : Type 0
  Unfilled = Z.unfilled.D

  abbrev table : Outcome → Table
  table o = (Z.outcome.values o).0

  abbrev reply : Outcome → Reply
  reply o = (Z.outcome.values o).1.0

  abbrev outcome : Unfilled → Outcome
  outcome r = (Z.unfilled.values r).0

  abbrev entries : Unfilled → List (row Z.entry).Denot
  entries r = (Z.unfilled.values r).1.0

  abbrev count : Unfilled → ℕ
  count r = (Z.reply.values (reply (outcome r))).1.0

  abbrev pub Hand : Type 1
  Hand = Table → ℕ → ℕ → ℕ → ℕ → Unfilled → Type 0

  abbrev pub Show : Type 1
  Show = Table → ℕ → ℕ → ℕ → List Record → Table → Reply → List Record → Type 0

  -- what is handed out fits, and with the records filled from it the call is as it says
  pub record Filling (f : Makes Z.entry Z.recorded) (Hands : Hand) (Shows : Show) : Type 0 where
    pub fits : {t : Table} {c n j : ℕ} (ys : List Record) {r : Unfilled} → Hands t c n j (length ys) r → (count r ≤ Z.width) × (count r ≤ length ys)
    pub shows : {t : Table} {c n j : ℕ} (ys : List Record) {r : Unfilled} → Hands t c n j (length ys) r
        → Shows t c n j ys (table (outcome r)) (reply (outcome r)) (filled (f (entries r)) (count r) ys)

  abbrev B : Data
  B = Z.table

  abbrev E : Data
  E = Z.entry

  abbrev R : Data
  R = Z.recorded

  abbrev O : Data
  O = held Z.outcome

  abbrev S : Data
  S = held Z.unfilled

  abbrev w : ℕ
  w = Z.width

  -- ---- the call up to the filling
  abbrev with_ended : Ended
  with_ended = record {
    signature = record {
      lifetimes = 0;
      outlives = [];
      params = plain (λ _. row B) ∷ plain (λ _. u64) ∷ plain (λ _. u64) ∷ plain (λ _. u64) ∷ plain (λ _. usize) ∷ [];
      result = plain (λ _. row S);
    };
    kept = (yes, (yes, (yes, (yes, (yes, tt)))));
  }

  abbrev with_clauses : Hand → {M : Type 1} (𝓤 : Ura M) → Clauses 𝓤 with_ended
  with_clauses Hands 𝓤 κs a = record {
    ghost = Unit {0};
    requires = λ _. emp 𝓤;
    ensures = λ _ r e. fact 𝓤 (Hands a.0 a.1.0 a.1.1.0 a.1.1.1.0 a.1.1.1.1.0 r);
  }

  abbrev pub With : Hand → {M : Type 1} {𝓤 : Ura M} (𝓛 : Logic 𝓤) → Contract 𝓤
  With Hands {𝓤 = 𝓤} 𝓛 = triple_of 𝓛 with_ended.signature (closing 𝓛 with_ended (with_clauses Hands 𝓤))

  -- ---- the whole call: its signature, its contract, and its MIR, which calls the keys
  abbrev step_ended : Ended
  step_ended = record {
    signature = record {
      lifetimes = 1;
      outlives = [];
      params = plain (λ _. row B) ∷ plain (λ _. u64) ∷ plain (λ _. u64) ∷ plain (λ _. u64) ∷ SliceRefMutOf (0 ∷ []) tt (plain (λ _. row R)) (λ _. tt) ∷ [];
      result = plain (λ _. row O);
    };
    kept = (yes, (yes, (yes, (yes, (yes, tt)))));
  }

  abbrev step_clauses : Show → {M : Type 1} (𝓤 : Ura M) → Clauses 𝓤 step_ended
  step_clauses Shows 𝓤 κs a = record {
    ghost = Unit {0};
    requires = λ _. emp 𝓤;
    ensures = λ _ r e. fact 𝓤 (Shows a.0 a.1.0 a.1.1.0 a.1.1.1.0 a.1.1.1.1.0.now (table r) (reply r) e.1.1.1.1.0.now);
  }

  abbrev pub Step : Show → {M : Type 1} {𝓤 : Ura M} (𝓛 : Logic 𝓤) → Contract 𝓤
  Step Shows {𝓤 = 𝓤} 𝓛 = triple_of 𝓛 step_ended.signature (closing 𝓛 step_ended (step_clauses Shows 𝓤))

  abbrev step_function : Callee → Callee → Fn
  step_function with-key fill-key = record {
    lifetimes = 1;
    outlives = [];
    ty_params = [];
    givens = 0;
    params = 5;
    locals = local (ty O) value_local ∷ local (ty B) value_local ∷ local (ty_int w64) value_local ∷ local (ty_int w64) value_local ∷ local (ty_int w64) value_local
        ∷ local (slice_ty (ty_ref (named 0) mut (pointee (row R).written))) value_local ∷ local (ty S) value_local ∷ local (ty_array (ty E) w) value_local
        ∷ local (ty_int w64) value_local ∷ local ty_unit value_local ∷ local (ty_ref erased mut (pointee (row R).written)) value_local
        ∷ local (slice_ty (ty_ref erased mut (pointee (row R).written))) value_local ∷ [];
    body = seq (assign (place 8 []) (rv_opd (copy (place 5 (field 1 ∷ [])))))
        (seq (call with-key (copy (place 1 []) ∷ copy (place 2 []) ∷ copy (place 3 []) ∷ copy (place 4 []) ∷ copy (place 8 []) ∷ []) (place 6 []))
        (seq (assign (place 7 []) (rv_opd (copy (place 6 (field 1 ∷ [])))))
        (seq (assign (place 10 []) (addr_of (place 5 (field 0 ∷ deref (ty R) ∷ []))))
        (seq (assign (place 11 []) (aggregate (copy (place 10 []) ∷ copy (place 5 (field 1 ∷ [])) ∷ [])))
        (seq (call fill-key (copy (place 11 []) ∷ copy (place 7 []) ∷ copy (place 6 (field 0 ∷ field 1 ∷ field 1 ∷ [])) ∷ []) (place 9 []))
        (seq (assign (place 0 []) (rv_opd (copy (place 6 (field 0 ∷ []))))) return))))));
  }

  abbrev stayed : Stays step_ended.signature.params step_ended.kept
  stayed = (
    stay_none (λ _. row B) yes,
    (
      stay_none (λ _. u64) yes,
      (stay_none (λ _. u64) yes, (stay_none (λ _. u64) yes, (gave_slice (0 ∷ []) tt (plain (λ _. row R)), tt))),
    ),
  )

  abbrev Es : RattleType
  Es = Array (row E) w

  abbrev tv : Table → Val
  tv = val B

  abbrev ov : Unfilled → Val
  ov r = val O (outcome r)

  -- the machine value of the entries' field
  abbrev ev : Unfilled → Val
  ev r = array_val (map (val E) (entries r))

  -- what whoever holds what is handed out knows of its parts
  is_outcome : (r : Unfilled) (vs : List Val) → Is (row S) r vs → Is (row O) (outcome r) (ov r ∷ [])
  is_outcome r vs is = (LL.owed S.type S.laws r vs is).0

  is_entries : (r : Unfilled) (vs : List Val) → Is (row S) r vs → Is Es (entries r) (ev r ∷ [])
  is_entries r vs is = (LL.owed S.type S.laws r vs is).1.0

  is_count : (r : Unfilled) (vs : List Val) → Is (row S) r vs → count r < 2 ^ 64
  is_count r vs is =
      let Q : Data = held Z.reply in
      (LL.owed Q.type Q.laws (reply (outcome r)) _ (LL.owed O.type O.laws (outcome r) _ (is_outcome r vs is)).1.0).1.0.1

  module _ (f : Makes E R) (Hands : Hand) (Shows : Show) (law : Filling f Hands Shows) (with-key fill-key : Callee) where
    with_of : {M : Type 1} {𝓤 : Ura M} (𝓛 : Logic 𝓤) (h : Table) (c n j m : ℕ) (r : Unfilled)
        → ent 𝓤 (ensured 𝓛 with_ended (with_clauses Hands 𝓤) tt (h, (c, (n, (j, (m, tt))))) tt r) (fact 𝓤 (Hands h c n j m r))
    with_of {𝓤 = 𝓤} 𝓛 h c n j m r = ex_e 𝓤 _ (λ ws. snd∗ 𝓤 (sem 𝓛 (lasts with_ended tt (h, (c, (n, (j, (m, tt))))) ws)) (fact 𝓤 (Hands h c n j m r)))

    module _ {M : Type 1} {𝓤 : Ura M} (𝓛 : Logic 𝓤) (κ : Lft) (q : Share)
        (h : Table) (c n j : ℕ) (b o : ℕ) (γ : GName) (ys : List Record)
        (is-h : Is (row B) h (tv h ∷ [])) (c-fits : c < 2 ^ 64) (n-fits : n < 2 ^ 64) (j-fits : j < 2 ^ 64) (room : Room (row R) (length ys)) where
      open 𝓛 use {H}

      abbrev x : MutBor (List Record)
      x = record { ref_ptr = (b, o); ghost_name = γ; now = ys }

      abbrev s : Val
      s = slice_val (b, o) (length ys)

      abbrev a : Table × (ℕ × (ℕ × (ℕ × (MutBor (List Record) × Unit {0}))))
      a = (h, (c, (n, (j, (x, tt)))))

      abbrev av : List Val × (List Val × (List Val × (List Val × (List Val × Unit {0}))))
      av = (tv h ∷ [], (vint w64 c ∷ [], (vint w64 n ∷ [], (vint w64 j ∷ [], (s ∷ [], tt)))))

      abbrev Post : Val → SProp 𝓤
      Post = (walk_of 𝓛 step_ended stayed (step_clauses Shows 𝓤)).post (((κ, tt), (q, tt), tt, a, av), tt)

      -- what each callee's triple binds outside, and what makes what it asks
      abbrev to_with : (With Hands 𝓛).Ghost
      to_with = (
        (
          tt,
          tt,
          tt,
          (h, (c, (n, (j, (length ys, tt))))),
          (tv h ∷ [], (vint w64 c ∷ [], (vint w64 n ∷ [], (vint w64 j ∷ [], (vint w64 (length ys) ∷ [], tt))))),
        ),
        tt,
      )

      goes_with : ent 𝓤 (sem 𝓛 ((row B).own_val h (tv h ∷ []))) ((With Hands 𝓛).pre to_with)
      goes_with =
          qed 𝓛 (‵ ((row B).own_val h (tv h ∷ [])) ∷ []) ∵ nothing ! $ owned ! usize (Is usize) (uint_Makes 𝓛 w64) (length ys) _ (refl, room.0) $ fjoin ! $
          owned ! u64 (Is u64) (uint_Makes 𝓛 w64) j _ (refl, j-fits) $ fjoin ! $ owned ! u64 (Is u64) (uint_Makes 𝓛 w64) n _ (refl, n-fits) $
          fjoin ! $
          owned ! u64 (Is u64) (uint_Makes 𝓛 w64) c _ (refl, c-fits) $ fjoin ! $ move ! (1 ∷ 0 ∷ []) $ fjoin ! $ nothing ! $ join ! $ frame ! $ done !

      abbrev to_fill : Unfilled → (Fill E R w f 𝓛).Ghost
      to_fill r = (
        (
          (κ, tt),
          (q, tt),
          tt,
          (x, (entries r, (count r, tt))),
          (s ∷ [], (ev r ∷ [], (vint w64 (count r) ∷ [], tt))),
        ),
        tt,
      )

      goes_fill : (r : Unfilled) → Hands h c n j (length ys) r → count r < 2 ^ 64 → ent 𝓤 (⋆ 𝓛 ((‵ (flft κ q) ⊛ ‵ ftrue) ∷ ‵
          ((MutSlice (named 0) κ (row R)).own_val x (s ∷ [])) ∷ ‵ (Es.own_val (entries r) (ev r ∷ [])) ∷ [])) ((Fill E R w f 𝓛).pre (to_fill r))
      goes_fill r e fits =
          qed 𝓛 ((‵ (flft κ q) ⊛ ‵ ftrue) ∷ ‵ ((MutSlice (named 0) κ (row R)).own_val x (s ∷ [])) ∷ ‵ (Es.own_val (entries r) (ev r ∷ [])) ∷ []) ∵
          says ! (law.fits ys e) $ nothing ! $ owned ! usize (Is usize) (uint_Makes 𝓛 w64) (count r) _ (refl, fits) $ fjoin ! $
          move ! (3 ∷ 0 ∷ []) $ fjoin ! $ move ! (2 ∷ 0 ∷ []) $ fjoin ! $ move ! (1 ∷ 0 ∷ []) $ frame ! $ done !

      -- what says the panel's last contents, and its borrow, which is handed back
      abbrev gone : List Record → Fml
      gone zs = fsep (finally (row R) γ zs) (fbor κ (Held (row R) (length ys) b o γ))

      exits : (r : Unfilled) (zs : List Record) → Hands h c n j (length ys) r → zs ≡ filled (f (entries r)) (count r) ys → length zs ≡ length ys
          → Is (row O) (outcome r) (ov r ∷ []) → ent 𝓤 (⋆ 𝓛 ((‵ (flft κ q) ⊛ ‵ ftrue) ∷ ‵ (gone zs) ∷ [])) (Post (ov r))
      exits r zs e same-zs l is =
          qed 𝓛 ((‵ (flft κ q) ⊛ ‵ ftrue) ∷ ‵ (gone zs) ∷ []) ∵
          suffices ! _ (ends_at 𝓛 step_ended stayed (step_clauses Shows 𝓤) (((κ, tt), (q, tt), tt, a, av), tt) (ov r) (outcome r)
          (last_same (same B) h, (tt, (tt, (tt, (zs, tt))))) (tt, (tt, (tt, (tt, (l, tt)))))) $
          says ! (subst (λ (us : List Record). Shows h c n j ys (table (outcome r)) (reply (outcome r)) us) (sym same-zs) (law.shows ys e)) $ frame ! $
          nothing ! $ move ! (1 ∷ 0 ∷ []) $ fjoin ! $
          owned ! u64 (Is u64) (uint_Makes 𝓛 w64) j _ (refl, j-fits) $ fjoin ! $ owned ! u64 (Is u64) (uint_Makes 𝓛 w64) n _ (refl, n-fits) $
          fjoin ! $
          owned ! u64 (Is u64) (uint_Makes 𝓛 w64) c _ (refl, c-fits) $ fjoin ! $
          owned ! (row B) (Is (row B)) (makes B 𝓛) h _ is-h $ fjoin ! $ frame ! $
          owned ! (row O) (Is (row O)) (makes O 𝓛) (outcome r) _ is $ done !

      module _ (𝓣 : Tables 𝓤 H) (known-with : Triple 𝓤 (𝓣.C with-key) (With Hands 𝓛))
          (known-fill : Triple 𝓤 (𝓣.C fill-key) (Fill E R w f 𝓛)) where
        walk : ent 𝓤 (on_entry 𝓛 step_ended.signature (κ, tt) (q, tt) a av)
            (WpFn 𝓤 H 𝓣.C 𝓣.Λ (step_function with-key fill-key) (tv h ∷ vint w64 c ∷ vint w64 n ∷ vint w64 j ∷ s ∷ []) Post)
        walk =
            qed 𝓛 ((‵ (flft κ q) ⊛ ‵ ftrue) ∷ ‵ (owns ((row B) ∷ u64 ∷ u64 ∷ u64 ∷ MutSlice (named 0) κ (row R) ∷ []) a av) ∷ []) ∵
            enter ! 𝓣.C 𝓣.Λ (step_function with-key fill-key) (tv h ∷ vint w64 c ∷ vint w64 n ∷ vint w64 j ∷ s ∷ []) _ $
            alloc1 ! (λ l₀. alloc1 ! (λ l₁. alloc1 ! (λ l₂. alloc1 ! (λ l₃. alloc1 ! (λ l₄. alloc1 !
            (λ l₅. alloc1 ! (λ l₆. alloc1 ! (λ l₇. alloc1 ! (λ l₈. alloc1 ! (λ l₉. alloc1 ! (λ l₁₀. alloc1 ! (λ l₁₁. alloc0 ! $ params1 ! $
            pass1 ! (init ! 20 refl (typed B 𝓛 h _ is-h)) $ pass1 ! (init ! 18 refl (tt, record { fits = c-fits })) $
            pass1 ! (init ! 16 refl (tt, record { fits = n-fits })) $ pass1 ! (init ! 14 refl (tt, record { fits = j-fits })) $
            pass1 ! (init ! 12 refl (tt, (tt, (record { fits = room.0 }, tt)))) $ pass0 ! $
            -- [_11; …; _10; …; _9; …; _8; …; _7; …; _6; …; _5; …; _4; …; _3; …; _2; …; _1; …; room for _0; …; the token; what the parameters own]
            assigns ! (of_opd ! (load ! (from ! (fld ! refl (stop !))) (look_in ! 12 (sub ! 1 refl (whole !))))) (from ! (stop !))
            (init ! 6 refl (tt, record { fits = room.0 })) $
            move ! (25 ∷ []) $ fsplit ! $ move ! (1 ∷ []) $ fsplit ! $ drop ! $ fsplit ! $ drop ! $ fsplit ! $ drop ! $ fsplit ! $
            -- [what panel owns; true; what t owns; _11; …; the token]
            move ! (2 ∷ 27 ∷ []) $ use1 𝓛 (raw ((With Hands 𝓛).pre to_with)) goes_with $
            -- [what the first callee asks; the token; what panel owns; true; _11; …]
            calls_at ! (fm_of 𝓤 H 𝓛.laws 𝓣) (With Hands 𝓛) known-with to_with (and_then ! (load ! (from ! (stop !)) (look ! 24 refl))
            (and_then ! (load ! (from ! (stop !)) (look ! 22 refl)) (and_then ! (load ! (from ! (stop !)) (look ! 20 refl))
            (and_then ! (load ! (from ! (stop !)) (look ! 18 refl)) (and_then ! (load ! (from ! (stop !)) (look ! 10 refl)) (no_more !)))))) (λ v.
            use1 𝓛 (later (some (λ (r : Unfilled). (‵ ftrue ⊛ ‵ ((row S).own_val r (v ∷ []))) ⊛ raw
            (ensured 𝓛 with_ended (with_clauses Hands 𝓤) tt (h, (c, (n, (j, (length ys, tt))))) tt r)))) (id⊢ 𝓤 _) $ await ! tt $ pick ! (λ r.
            split ! $ move ! (1 ∷ []) $ use1 𝓛 (raw (fact 𝓤 (Hands h c n j (length ys) r))) (with_of 𝓛 h c n j (length ys) r) $
            heard ! (Hands h c n j (length ys) r) (λ e. split ! $ drop ! $ peeks ! (row S) (Is (row S)) (shows 𝓛 (row S)) r (v ∷ []) (λ is.
            land ! (from ! (stop !)) (init ! 14 refl (typed S 𝓛 r _ is)) $
            rewrite ! 14 (λ (u : Val). ‵ (fat full_share (ty S) l₆ 0 u)) (ap only (tells S r _ is)) refl $ drop ! $
            -- [the token; what panel owns; true; _11; …]
            assigns ! (of_opd ! (load ! (from ! (fld ! refl (stop !))) (look_in ! 13 (sub ! 1 refl (whole !))))) (from ! (stop !))
            (init ! 11 refl ((Array-Lawful 𝓛 (row E) (lawful E 𝓛) w).typed (entries r) _ (is_entries r _ is)).0) $
            assigns ! (addr ! (from ! (fld ! refl (hop ! (look_in ! 15 (sub ! 0 refl (whole !))) (stop !))))) (from ! (stop !)) (init ! 5 refl (tt, tt)) $
            assigns ! (agg ! (and_then ! (load ! (from ! (stop !)) (look ! 5 refl)) (and_then !
            (load ! (from ! (fld ! refl (stop !))) (look_in ! 15 (sub ! 1 refl (whole !)))) (no_more !)))) (from ! (stop !))
            (init ! 3 refl (tt, (tt, (record { fits = room.0 }, tt)))) $
            owned ! Es (Is Es) (Array-Makes 𝓛 (row E) (makes E 𝓛) w) (entries r) _ (is_entries r _ is) $
            move ! (1 ∷ 2 ∷ 0 ∷ []) $ use3 𝓛 (raw ((Fill E R w f 𝓛).pre (to_fill r))) (goes_fill r e (is_count r _ is)) $
            -- [what the filling asks; true; _11; …]
            calls_at ! (fm_of 𝓤 H 𝓛.laws 𝓣) (Fill E R w f 𝓛) known-fill (to_fill r) (and_then ! (load ! (from ! (stop !)) (look ! 2 refl))
            (and_then ! (load ! (from ! (stop !)) (look ! 10 refl)) (and_then ! (load ! (from ! (fld ! refl (fld ! refl (fld ! Z.written_at (stop !)))))
            (look_in ! 12 (sub ! 1 Z.written_at (sub ! 1 refl (sub ! 0 refl (whole !)))))) (no_more !)))) (λ v'.
            use1 𝓛 (later (some (λ (z : Unit {0}). ((‵ (flft κ q) ⊛ ‵ ftrue) ⊛ ‵ (unit.own_val z (v' ∷ []))) ⊛ raw
            (ensured 𝓛 (fill_ended E R w) (fill_clauses E R w f 𝓤) (κ, tt) (x, (entries r, (count r, tt))) tt z)))) (id⊢ 𝓤 _) $ await ! tt $
            pick ! (λ z. split ! $ move ! (1 ∷ []) $ use1 𝓛 (some (λ (zs : List Record × (Last (Es.exit yes) (entries r) × (Unit {0} × Unit {0}))). ‵
            (lasts (fill_ended E R w) (κ, tt) (x, (entries r, (count r, tt))) zs) ⊛ raw
            (fact 𝓤 (zs.0 ≡ filled (f (entries r)) (count r) ys)))) (id⊢ 𝓤 _) $ pick ! (λ zs.
            split ! $ move ! (1 ∷ []) $ heard ! (zs.0 ≡ filled (f (entries r)) (count r) ys) (λ same-zs. fsplit ! $ fsplit ! $ fsplit ! $ move ! (1 ∷ []) $
            feq_l ! (λ l. fjoin ! $ move ! (2 ∷ []) $ split ! $ move ! (1 ∷ []) $ peeks ! unit (Is unit) (shows 𝓛 unit) z (v' ∷ []) (λ is-z.
            -- [what () owns; the token; the panel's last contents; true; true; _11; …]
            land ! (from ! (stop !)) (init ! 9 refl ((Nothing-Lawful 𝓛).typed z _ is-z).0) $ drop ! $
            assigns ! (of_opd ! (load ! (from ! (fld ! refl (stop !))) (look_in ! 14 (sub ! 0 refl (whole !))))) (from ! (stop !))
            (init ! 26 refl (typed O 𝓛 (outcome r) _ (is_outcome r _ is))) $
            returns ! (look ! 26 refl) $ forget ! 4 refl $ forget ! 6 refl $ forget ! 8 refl $ forget ! 10 refl $ forget ! 12 refl $ forget ! 14 refl $
            forget ! 16 refl $ forget ! 18 refl $ forget ! 20 refl $ forget ! 22 refl $ forget ! 24 refl $ forget ! 26 refl $
            move ! (26 ∷ 27 ∷ []) $ free1 ! $ move ! (24 ∷ 25 ∷ []) $ free1 ! $ move ! (22 ∷ 23 ∷ []) $ free1 ! $ move ! (20 ∷ 21 ∷ []) $ free1 ! $
            move ! (18 ∷ 19 ∷ []) $ free1 ! $ move ! (16 ∷ 17 ∷ []) $ free1 ! $ move ! (14 ∷ 15 ∷ []) $ free1 ! $ move ! (12 ∷ 13 ∷ []) $ free1 ! $
            move ! (10 ∷ 11 ∷ []) $ free1 ! $ move ! (8 ∷ 9 ∷ []) $ free1 ! $ move ! (6 ∷ 7 ∷ []) $ free1 ! $ move ! (4 ∷ 5 ∷ []) $ free1 ! $ free0 ! $
            keep ! (0 ∷ 1 ∷ []) $ by ! (exits r zs.0 e same-zs l (is_outcome r _ is))))))))))))))))))))))))

    module _ {M : Type 1} {𝓤 : Ura M} (𝓛 : Logic 𝓤) (𝓣 : Tables 𝓤 𝓛.H) (known-with : Triple 𝓤 (𝓣.C with-key) (With Hands 𝓛))
        (known-fill : Triple 𝓤 (𝓣.C fill-key) (Fill E R w f 𝓛)) where
      open 𝓛 use {H}

      step_walks : Walks 𝓛 step_ended stayed (WpFn 𝓤 H 𝓣.C 𝓣.Λ (step_function with-key fill-key)) (step_clauses Shows 𝓤)
      step_walks = walked 𝓛 step_ended stayed (step_clauses Shows 𝓤) (WpFn 𝓤 H 𝓣.C 𝓣.Λ (step_function with-key fill-key))
          (λ κs. (vals B, (uint_vals w64, (uint_vals w64, (uint_vals w64, (mut_slice_vals, tt))))))
          (λ κs. (tells B, (uint_Tells w64, (uint_Tells w64, (uint_Tells w64, (mut_slice_Tells (named 0) κs.0 (row R), tt))))))
          (λ κs qs bounds a g are. via 𝓤 _ (fst∗ 𝓤 _ (emp 𝓤)) (walk 𝓛 κs.0 qs.0 a.0 a.1.0 a.1.1.0 a.1.1.1.0
          a.1.1.1.1.0.ref_ptr.0 a.1.1.1.1.0.ref_ptr.1 a.1.1.1.1.0.ghost_name a.1.1.1.1.0.now are.0 are.1.0.1 are.1.1.0.1
          are.1.1.1.0.1 are.1.1.1.1.0.0.1 𝓣 known-with known-fill))

      step_meets : Meets 𝓛 step_ended.signature (WpFn 𝓤 H 𝓣.C 𝓣.Λ (step_function with-key fill-key))
          (closing 𝓛 step_ended (step_clauses Shows 𝓤))
      step_meets =
          walk_Meets 𝓛 step_ended stayed (
            Goes-none 𝓛 1 (λ _. row B) yes (λ κs. silent (same B)),
            (
              Goes-none 𝓛 1 (λ _. u64) yes (λ κs x f. refl),
              (
                Goes-none 𝓛 1 (λ _. u64) yes (λ κs x f. refl),
                (Goes-none 𝓛 1 (λ _. u64) yes (λ κs x f. refl), (Goes-gave_slice 𝓛 1 0 tt (plain (λ _. row R)), tt)),
              ),
            ),
          ) (step_clauses Shows 𝓤) (WpFn 𝓤 H 𝓣.C 𝓣.Λ (step_function with-key fill-key))
          (WpFn-mono 𝓤 H 𝓛.laws 𝓣 (step_function with-key fill-key)) step_walks

    module _ {M : Type 1} {𝓤 : Ura M} (𝓛 : Logic 𝓤) (𝓜 : Model 𝓤 𝓛.H) (𝓡 : Running 𝓤 𝓛.H 𝓜) (γ : Env) (n : Callee) (r r' : Routine) where
      open 𝓛 use {H}

      pub step_spec : γ with-key ≡ r → γ fill-key ≡ r'
          → Closed 𝓤 H (tables 𝓤 H 𝓜 𝓡 γ).C (tables 𝓤 H 𝓜 𝓡 γ).Λ n (step_function with-key fill-key)
          → Triple 𝓤 (𝓡.run r) (With Hands 𝓛) → Triple 𝓤 (𝓡.run r') (Fill E R w f 𝓛) → Triple 𝓤 (𝓡.run (γ n)) (Step Shows 𝓛)
      step_spec at at' closed = linked_two 𝓤 H 𝓜 𝓡 γ n with-key fill-key r r' (step_function with-key fill-key) (Step Shows 𝓛)
          (With Hands 𝓛) (Fill E R w f 𝓛) at at' closed (step_meets 𝓛)
