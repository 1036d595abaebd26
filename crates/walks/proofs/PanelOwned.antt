-- The owner of a table and of records, walked once: for any board whose structs are plain data (Z), every relation Shows of what the call that it lends them to
-- is passed and what it leaves, and all keys of two callees whose contracts say so.
--     fn step_owned(t: Table, code: u64, station: u64, job: u64, panel: [Record; w], lent: usize) -> Shown
--     {
--         let mut own = t; let mut records = panel; let k = at_most(lent);
--         let reply = step_lent(&mut own, code, station, job, &mut records[..k]);
--         Shown { table: own, reply, panel: records }
--     }
-- The table and the records are copied into locals. The table and the first records are lent to the call, each for a lifetime that is made for it, and come
-- back
-- as the call left them; the other records lie beside them meanwhile.
-- `own_spec`: the owner, whose MIR calls the two keys, meets each contract that follows (`Follows`), where the routines under the keys meet theirs.
use mathlib.Core.Path.{◌≡◌, refl, sym, ap, subst, ◌∙◌}
use Prim.Native.Nat.{ℕ, ◌≤◌, ◌<◌, ◌^◌, min}
use native.Mathlib.Nat.{lt_of_le_of_lt, mul-le-mul_right}
use native.Mathlib.Omega.{arith}
use mathlib.Core.List.{[], ◌∷◌, List, ◌++◌}
use lib.Dec.{T}
use lib.ListN.{length, take, drop as dropped, length-take, take-append-drop}
use seplogic.Ra.Ura.{Ura}
use base.Fraction.{full_share}
use mir.Syntax.{Callee, Fn, named, erased, mut, w64, ty_int, ty_ref, ty_array, seq, assign, call, return, rv_opd, copy, addr_of, aggregate, place, local, value_local}
use mir.Syntax.{memory_slot}
use mir.Val.{Val, vint, vptr, vstruct, vnil, vcons, WT, has_ty}
use base.Logic.{SProp, ent, sep, emp, emp∗, mono_l, comm∗, via, fst∗, snd∗, ex_e, id⊢}
use base.Fml.{GName, ftrue, fsep, fat, flft, flent}
use prog.Model.{Model}
use prog.Routine.{Routine, Env}
use prog.Wp.{Closed, WpFn, Tables}
use types.Logic.{Logic, sem}
use contract.Monad.{fact}
use contract.Running.{Running, tables}
use types.Kit.{Item, Step, step, prop, ‵, raw, ◌⊛◌, some, later, ⋆, ◌$◌, ◌∵◌, !, qed, by, move, keep, drop, use0, use1, use2, use3, split, join, pick}
use types.Kit.{rewrite, fsplit, fjoin}
use types.Kit.{fpick, fpack, feq_l, feq_i, suffices, frame, await, done}
use types.Run.{look, init, forget, stop, from, load, addr, of_opd, and_then, no_more, assigns, land, returns, enter, alloc1, alloc0, params1, pass1}
use types.Run.{pass0, free1, free0}
use types.Part.{agg}
use types.SemTy.{Body, cells, Arr}
use types.Share.{arr_parts}
use types.Tokens.{lft_new, lft_end}
use sound.WpLaws.{fm_of, WpFn-mono}
use denote.RattleType.{RattleType, owns}
use denote.Laws.{Is, shows}
use denote.Memory.{mem, cell_at, pointee, part_at, shares, part_of}
use denote.Array.{Array, array_vals, Array-Tells, Array-Lawful, Array-Makes}
use denote.ArrayMemory.{Array-apart, Array-whole}
use denote.Index.{row as elements, whole_out, whole_in}
use denote.Lend.{Held, lends_ref, ref_back, lends_slice, slice_back}
use denote.Plain.{uint_vals, uint_Tells, uint_Makes, uint_Lawful}
use denote.Builtin.{u64, usize, ArrayOf}
use denote.Ref.{MutBor, MutRef}
use denote.Slice.{slice_val, slice_ty, MutSlice, Room}
use denote.Signature.{plain}
use denote.Steps.{only, owned, peeks, heard, nothing}
use denote.Struct.Steps.{spelt}
use denote.Triple.Statement.{Contract, Triple}
use denote.Triple.Call.{calls_at}
use denote.Triple.Clauses.{Clauses, Ended, AtExit, ensured, lasts, closing}
use denote.Triple.Entry.{Args, on_entry}
use denote.Triple.Spec.{Meets, triple_of}
use denote.Triple.Walked.{Stays, stay_none, walk_of, Goes-none, Walks, ends_at, walked, walk_Meets}
use denote.Exit.{yes}
use borrow.Table.Elements.{at, cut_app, join_app, same_len}
use Rattle.walks.proofs.Plain.{last_same, silent, lies_in, lies_out}
use Rattle.walks.proofs.Lent as Lent
use Rattle.walks.proofs.Lent.{Says}
use Rattle.walks.proofs.Report.{slice}
use Rattle.walks.proofs.PanelLinked.{linked_two}
use Rattle.walks.proofs.Structs.{Data, held, is_made, plainly, row, ty, val, vals, tells, same, array_same, makes, lawful, typed}
use Rattle.walks.proofs.PanelTypes.{Board, both}
use Rattle.walks.proofs.PanelStep.{Table, Reply, Record, Show}
use Rattle.walks.proofs.FillLists.{lent_said, others_stay}

-- what is had for nothing, beside what a walk ends in
holds : {M : Type 1} {𝓤 : Ura M} {𝓛 : Logic 𝓤} {K : Type 0} {Γ : List (Item 𝓤)} → K → {P Q : SProp 𝓤} → ent 𝓤 (emp 𝓤) Q
    → Step K 𝓛 Γ (prop P) Γ (prop (sep 𝓤 P Q))
holds {𝓤 = 𝓤} t {P} {Q} q = step (λ s. record { prf = via 𝓤 P s.prf (via 𝓤 (sep 𝓤 (emp 𝓤) P) (emp∗ 𝓤 P) (via 𝓤 (sep 𝓤 Q P) (mono_l 𝓤 P q) (comm∗ 𝓤 Q P))) })

-- ---- records in a local are the first k and the others, side by side in memory; and back, with others in the place of the first
module _ (R : Data) (w : ℕ) where
  abbrev Rs : RattleType
  Rs = Array (row R) w

  abbrev rs_vals : List (row R).Denot → List Val
  rs_vals = array_vals (vals R)

  abbrev rv : List (row R).Denot → Val
  rv ys = only (rs_vals ys)

  module _ {M : Type 1} {𝓤 : Ura M} (𝓛 : Logic 𝓤) (l : ℕ) where
    abbrev past : List (row R).Denot → ℕ
    past ys = at 0 (mem (row R)).size (length ys)

    apart : (k : ℕ) (ys : List (row R).Denot) → ent 𝓤 (⋆ 𝓛 (‵ (fat full_share (ty_array (ty R) w) l 0 (rv ys)) ∷ ‵ (Rs.own_val ys (rv ys ∷ [])) ∷ []))
        (⋆ 𝓛 (‵ (cells (mem (row R)) (take k ys) l 0) ∷ ‵ (cells (mem (row R)) (dropped k ys) l (past (take k ys))) ∷ []))
    unfolding part_of
    apart k ys =
        qed 𝓛 (‵ (fat full_share (ty_array (ty R) w) l 0 (rv ys)) ∷ ‵ (Rs.own_val ys (rv ys ∷ [])) ∷ []) ∵
        use1 𝓛 (‵ (cell_at full_share Rs.mir (rv ys ∷ []) l 0)) (𝓛.laws.at_raw full_share (ty_array (ty R) w) l 0 (rv ys)) $ fjoin ! $
        fpack ! (List Val) (λ us. fsep (cell_at full_share Rs.mir us l 0) (Rs.own_val ys us)) (rv ys ∷ []) $
        use1 𝓛 (‵ ((arr_parts (shares (row R)) w).part full_share ys l 0)) (Array-apart 𝓛 (row R) full_share tt w ys l 0) $ fsplit ! $ drop ! $
        use1 𝓛 (‵ (cells (mem (row R)) ys l 0)) (whole_in 𝓛 (row R) ys l 0) $
        rewrite ! 0 (λ (zs : List (row R).Denot). ‵ (cells (mem (row R)) zs l 0)) (sym (take-append-drop k ys)) refl $
        by ! (cut_app 𝓛 (mem (row R)) (take k ys) (dropped k ys) l 0)

    together : (zs ys : List (row R).Denot) → length (zs ++ ys) ≡ w
        → ent 𝓤 (⋆ 𝓛 (‵ (cells (mem (row R)) zs l 0) ∷ ‵ (cells (mem (row R)) ys l (past zs)) ∷ []))
        (⋆ 𝓛 (‵ (fat full_share (ty_array (ty R) w) l 0 (rv (zs ++ ys))) ∷ ‵ (Rs.own_val (zs ++ ys) (rv (zs ++ ys) ∷ [])) ∷ []))
    unfolding part_of
    together zs ys e =
        qed 𝓛 (‵ (cells (mem (row R)) zs l 0) ∷ ‵ (cells (mem (row R)) ys l (past zs)) ∷ []) ∵
        use2 𝓛 (‵ (cells (mem (row R)) (zs ++ ys) l 0)) (join_app 𝓛 (mem (row R)) zs ys l 0) $
        use1 𝓛 (‵ (elements (row R) full_share (zs ++ ys) l 0)) (whole_out 𝓛 (row R) (zs ++ ys) l 0) $ feq_i ! ℕ (length (zs ++ ys)) w e $ fjoin ! $
        use1 𝓛 (‵ (part_at Rs full_share (zs ++ ys) l 0)) (Array-whole 𝓛 (row R) full_share w (zs ++ ys) l 0) $ fpick ! (λ vs. fsplit ! $
        spelt ! Rs (Is Rs) (shows 𝓛 Rs) rs_vals (Array-Tells (row R) (vals R) (tells R) w) full_share
        (zs ++ ys) vs l 0 $
        use1 𝓛 (‵ (fat full_share (ty_array (ty R) w) l 0 (rv (zs ++ ys)))) (𝓛.laws.raw_at full_share (ty_array (ty R) w) l 0 (rv (zs ++ ys))) $ done !)

module _ (Z : Board) where
  abbrev B : Data
  B = Z.table

  abbrev R : Data
  R = Z.recorded

  abbrev Q : Data
  Q = held Z.reply

  abbrev S : Data
  S = held Z.shown

  abbrev w : ℕ
  w = Z.width

  -- ---- the count of records that are lent
  abbrev most_ended : Ended
  most_ended = record {
    signature = record { lifetimes = 0; outlives = []; params = plain (λ _. usize) ∷ []; result = plain (λ _. usize) };
    kept = (yes, tt);
  }

  abbrev most_clauses : {M : Type 1} (𝓤 : Ura M) → Clauses 𝓤 most_ended
  most_clauses 𝓤 κs a = record { ghost = Unit {0}; requires = λ _. emp 𝓤; ensures = λ _ r e. fact 𝓤 (r ≡ min a.0 w) }

  abbrev pub Most : {M : Type 1} {𝓤 : Ura M} (𝓛 : Logic 𝓤) → Contract 𝓤
  Most {𝓤 = 𝓤} 𝓛 = triple_of 𝓛 most_ended.signature (closing 𝓛 most_ended (most_clauses 𝓤))

  -- ---- the call on what is lent
  abbrev pub said : Show Z → Says (both Z) (slice (row R)) 3
  said Shows t ns ys t' r zs = Shows t ns.0 ns.1.0 ns.1.1.0 ys t' r zs

  abbrev pub Lend : Show Z → {M : Type 1} {𝓤 : Ura M} (𝓛 : Logic 𝓤) → Contract 𝓤
  Lend Shows = Lent.Lend (both Z) (slice (row R)) 3 (said Shows)

  abbrev lent_ended : Ended
  lent_ended = Lent.lent_ended (both Z) (slice (row R)) 3

  abbrev lent_clauses : Show Z → {M : Type 1} (𝓤 : Ura M) → Clauses 𝓤 lent_ended
  lent_clauses Shows = Lent.lent_clauses (both Z) (slice (row R)) 3 (said Shows)

  -- ---- the owner: its signature, its contract, and its MIR, which calls the keys
  abbrev own_ended : Ended
  own_ended = record {
    signature = record {
      lifetimes = 0;
      outlives = [];
      params = plain (λ _. row B) ∷ plain (λ _. u64) ∷ plain (λ _. u64) ∷ plain (λ _. u64) ∷ ArrayOf (plain (λ _. row R)) (λ _. tt) w ∷ plain (λ _. usize) ∷ [];
      result = plain (λ _. row S);
    };
    kept = (yes, (yes, (yes, (yes, (yes, (yes, tt))))));
  }

  -- the fields of what is handed back
  abbrev Whole : Type 0
  Whole = Table Z × (Reply Z × (List (Record Z) × Unit {0}))

  abbrev Owns : Show Z → Table Z → ℕ → ℕ → ℕ → List (Record Z) → ℕ → Whole → Type 0
  Owns Shows t c n j ys lent v = Shows t c n j (take lent ys) v.0 v.1.0 (take lent v.1.1.0) × (dropped lent v.1.1.0 ≡ dropped lent ys)

  -- a contract follows, if it promises nothing beyond this
  abbrev pub Follows : Show Z → {M : Type 1} (𝓤 : Ura M) → Clauses 𝓤 own_ended → Type 1
  Follows Shows 𝓤 C = (a : Args own_ended.signature tt) (g : (C tt a).ghost) (r : Z.shown.D) (e : AtExit own_ended tt)
      → Owns Shows a.0 a.1.0 a.1.1.0 a.1.1.1.0 a.1.1.1.1.0 a.1.1.1.1.1.0 (Z.shown.values r)
      → ent 𝓤 (emp 𝓤) ((C tt a).ensures g r e)

  abbrev own_function : Callee → Callee → Fn
  own_function most-key lent_key = record {
    lifetimes = 0;
    outlives = [];
    ty_params = [];
    givens = 0;
    params = 6;
    locals = local (ty S) value_local ∷ local (ty B) value_local ∷ local (ty_int w64) value_local ∷ local (ty_int w64) value_local ∷ local (ty_int w64) value_local
        ∷ local (ty_array (ty R) w) value_local ∷ local (ty_int w64) value_local ∷ local (ty B) memory_slot ∷ local (ty_array (ty R) w) memory_slot
        ∷ local (ty_int w64) value_local ∷ local (ty Q) value_local ∷ local (ty_ref erased mut (pointee (row B).written)) value_local
        ∷ local (ty_ref erased mut (ty_array (pointee (row R).written) w)) value_local
        ∷ local (slice_ty (ty_ref erased mut (pointee (row R).written))) value_local ∷ local (ty B) value_local ∷ local (ty_array (ty R) w) value_local ∷ [];
    body = seq (assign (place 7 []) (rv_opd (copy (place 1 []))))
        (seq (assign (place 8 []) (rv_opd (copy (place 5 []))))
        (seq (call most-key (copy (place 6 []) ∷ []) (place 9 []))
        (seq (assign (place 11 []) (addr_of (place 7 [])))
        (seq (assign (place 12 []) (addr_of (place 8 [])))
        (seq (assign (place 13 []) (aggregate (copy (place 12 []) ∷ copy (place 9 []) ∷ [])))
        (seq (call lent_key (copy (place 11 []) ∷ copy (place 2 []) ∷ copy (place 3 []) ∷ copy (place 4 []) ∷ copy (place 13 []) ∷ []) (place 10 []))
        (seq (assign (place 14 []) (rv_opd (copy (place 7 []))))
        (seq (assign (place 15 []) (rv_opd (copy (place 8 []))))
        (seq (assign (place 0 []) (aggregate (copy (place 14 []) ∷ copy (place 10 []) ∷ copy (place 15 []) ∷ []))) return)))))))));
  }

  abbrev stayed : Stays own_ended.signature.params own_ended.kept
  stayed = (
    stay_none (λ _. row B) yes,
    (
      stay_none (λ _. u64) yes,
      (stay_none (λ _. u64) yes, (stay_none (λ _. u64) yes, (stay_none (λ _. Rs R w) yes, (stay_none (λ _. usize) yes, tt)))),
    ),
  )

  abbrev tv : Table Z → Val
  tv = val B

  abbrev pv : Reply Z → Val
  pv = val Q

  -- what is handed back, and its machine value
  abbrev whole_of : Table Z → Reply Z → List (Record Z) → Z.shown.D
  whole_of t r zs = Z.shown.make (t, (r, (zs, tt)))

  abbrev mach : Table Z → Reply Z → List (Record Z) → Val
  mach t r zs = vstruct (vcons (tv t) (vcons (pv r) (vcons (rv R w zs) vnil)))

  is_whole : (t : Table Z) (r : Reply Z) (zs : List (Record Z)) → Is (row B) t (tv t ∷ []) → Is (row Q) r (pv r ∷ []) → Is (Rs R w) zs (rv R w zs ∷ [])
      → Is (row S) (whole_of t r zs) (mach t r zs ∷ [])
  is_whole t r zs g is k = is_made Z.shown (t, (r, (zs, tt))) _ ((tv t ∷ [], (pv r ∷ [], (rv R w zs ∷ [], tt))), (refl, (g, (is, (k, tt)))))

  most_of : {M : Type 1} {𝓤 : Ura M} (𝓛 : Logic 𝓤) (n k : ℕ)
      → ent 𝓤 (ensured 𝓛 most_ended (most_clauses 𝓤) tt (n, tt) tt k) (fact 𝓤 (k ≡ min n w))
  most_of {𝓤 = 𝓤} 𝓛 n k = ex_e 𝓤 _ (λ ws. snd∗ 𝓤 (sem 𝓛 (lasts most_ended tt (n, tt) ws)) (fact 𝓤 (k ≡ min n w)))

  module _ (Shows : Show Z) (most-key lent_key : Callee) (wide : Room (row R) w) where
    module _ {M : Type 1} {𝓤 : Ura M} (𝓛 : Logic 𝓤) (C : Clauses 𝓤 own_ended) (law : Follows Shows 𝓤 C)
        (h : Table Z) (c n j : ℕ) (ys : List (Record Z)) (lent : ℕ) (is-h : Is (row B) h (tv h ∷ [])) (c-fits : c < 2 ^ 64) (n-fits : n < 2 ^ 64)
        (j-fits : j < 2 ^ 64) (is-ys : Is (Rs R w) ys (rs_vals R w ys)) (lent_fits : lent < 2 ^ 64)
        (gh : (C tt (h, (c, (n, (j, (ys, (lent, tt))))))).ghost) where
      open 𝓛 use {H}

      abbrev a : Table Z × (ℕ × (ℕ × (ℕ × (List (Record Z) × (ℕ × Unit {0})))))
      a = (h, (c, (n, (j, (ys, (lent, tt))))))

      abbrev av : List Val × (List Val × (List Val × (List Val × (List Val × (List Val × Unit {0})))))
      av = (tv h ∷ [], (vint w64 c ∷ [], (vint w64 n ∷ [], (vint w64 j ∷ [], (rv R w ys ∷ [], (vint w64 lent ∷ [], tt))))))

      abbrev Post : Val → SProp 𝓤
      Post = (walk_of 𝓛 own_ended stayed C).post ((tt, tt, tt, a, av), gh)

      long : length ys ≡ w
      long = is-ys.1.0.1

      typed_records : (zs : List (Record Z)) → Is (Rs R w) zs (rv R w zs ∷ []) → T (has_ty (ty_array (ty R) w) (rv R w zs)) × WT (rv R w zs)
      typed_records zs is = ((Array-Lawful 𝓛 (row R) (lawful R 𝓛) w).typed zs _ is).0

      abbrev rs_makes : ent 𝓤 (emp 𝓤) (sem 𝓛 ((Rs R w).own_val ys (rv R w ys ∷ [])))
      rs_makes = Array-Makes 𝓛 (row R) (makes R 𝓛) w ys (rv R w ys ∷ []) is-ys

      abbrev to_most : (Most 𝓛).Ghost
      to_most = ((tt, tt, tt, (lent, tt), (vint w64 lent ∷ [], tt)), tt)

      goes_most : ent 𝓤 (emp 𝓤) ((Most 𝓛).pre to_most)
      goes_most =
          qed 𝓛 [] ∵ nothing ! $ owned ! usize (Is usize) (uint_Makes 𝓛 w64) lent _ (refl, lent_fits) $ fjoin ! $ nothing ! $ join ! $ frame ! $ done !

      -- the loan of the table in the local l under the name δ
      abbrev loan : ℕ → GName → MutBor (Table Z)
      loan l δ = record { ref_ptr = (l, 0); ghost_name = δ; now = h }

      -- what the call leaves in the end: the table, and the records that it was lent
      abbrev Left : Type 0
      Left = Table Z × (Unit {0} × (Unit {0} × (Unit {0} × (List (Record Z) × Unit {0}))))

      abbrev shown : Left → List (Record Z)
      shown zs = zs.1.1.1.1.0

      -- k records are lent: the first ones
      module _ (k : ℕ) where
        abbrev front : List (Record Z)
        front = take k ys

        -- the owner's records, when zs came back in the place of the first
        abbrev back : List (Record Z) → List (Record Z)
        back zs = zs ++ dropped k ys

        -- their loan, and its machine value
        abbrev x : ℕ → GName → MutBor (List (Record Z))
        x l δ = record { ref_ptr = (l, 0); ghost_name = δ; now = front }

        abbrev s : ℕ → Val
        s l = slice_val (l, 0) (length front)

        abbrev Rest : ℕ → GName → ℕ × (ℕ × (ℕ × (MutBor (List (Record Z)) × Unit {0})))
        Rest l δ = (c, (n, (j, (x l δ, tt))))

        -- what the call ensures of what it returns, and of the last contents of the table and of the records
        abbrev Ensured : Reply Z → Table Z → List (Record Z) → Type 0
        Ensured r t zs = Shows h c n j front t r zs

        -- what its triple binds outside: the locals l and l' lent for the lifetimes ν and ν' under the names δ and δ'
        module _ (l l' ν ν' : ℕ) (δ δ' : GName) where
          abbrev to_lent : (Lend Shows 𝓛).Ghost
          to_lent = (
            (
              (ν ∷ [], (ν' ∷ [], tt)),
              (full_share, (full_share, tt)),
              tt,
              (loan l δ, Rest l' δ'),
              (vptr l 0 ∷ [], (vint w64 c ∷ [], (vint w64 n ∷ [], (vint w64 j ∷ [], (s l' ∷ [], tt))))),
            ),
            tt,
          )

          goes_lent : ent 𝓤 (⋆ 𝓛 ((‵ (flft (ν ∷ []) full_share) ⊛ ‵ (flft (ν' ∷ []) full_share)) ∷ ‵ ((MutRef (named 0) (ν ∷ []) (row B)).own_val (loan l δ)
              (vptr l 0 ∷ [])) ∷ ‵ ((MutSlice (named 1) (ν' ∷ []) (row R)).own_val (x l' δ') (s l' ∷ [])) ∷ [])) ((Lend Shows 𝓛).pre to_lent)
          goes_lent =
              qed 𝓛 ((‵ (flft (ν ∷ []) full_share) ⊛ ‵ (flft (ν' ∷ []) full_share)) ∷ ‵ ((MutRef (named 0) (ν ∷ []) (row B)).own_val (loan l δ)
              (vptr l 0 ∷ [])) ∷ ‵ ((MutSlice (named 1) (ν' ∷ []) (row R)).own_val (x l' δ') (s l' ∷ [])) ∷ []) ∵ nothing ! $ move ! (3 ∷ 0 ∷ []) $ fjoin ! $
              owned ! u64 (Is u64) (uint_Makes 𝓛 w64) j _ (refl, j-fits) $ fjoin ! $ owned ! u64 (Is u64) (uint_Makes 𝓛 w64) n _ (refl, n-fits) $
              fjoin ! $ owned ! u64 (Is u64) (uint_Makes 𝓛 w64) c _ (refl, c-fits) $ fjoin ! $
              move ! (2 ∷ 0 ∷ []) $ fjoin ! $ nothing ! $ move ! (2 ∷ []) $ split ! $ move ! (1 ∷ 2 ∷ []) $ join ! $ move ! (1 ∷ 0 ∷ []) $ join ! $ join ! $
              frame ! $ done !

        count : k ≡ min lent w → k ≡ length front
        count e = sym (length-take k ys ∙ ap (min k) long ∙ omega (arith, e))

        room : k ≡ min lent w → Room (row R) (length front)
        room e = let h : length front ≤ w = omega (arith, sym (count e), e) in
            (lt_of_le_of_lt h wide.0, lt_of_le_of_lt (mul-le-mul_right (mem (row R)).size h) wide.1)

        exits : (r : Reply Z) (t : Table Z) (zs : List (Record Z)) → k ≡ min lent w → Ensured r t zs → length zs ≡ length front
            → Is (row S) (whole_of t r (back zs)) (mach t r (back zs) ∷ []) → ent 𝓤 (emp 𝓤) (Post (mach t r (back zs)))
        exits r t zs k-is e l is =
            qed 𝓛 [] ∵ suffices ! _ (ends_at 𝓛 own_ended stayed C ((tt, tt, tt, a, av), gh) (mach t r (back zs))
            (whole_of t r (back zs)) (last_same (same B) h, (tt, (tt, (tt, (last_same (array_same R w) ys, (tt, tt))))))
            (tt, (tt, (tt, (tt, (tt, (tt, tt))))))) $
            holds ! (law a gh _ _ (subst (Owns Shows h c n j ys lent) (sym (Z.shown.made (t, (r, (back zs, tt)))))
            (lent_said lent k w k-is ys zs long l (λ us vs. Shows h c n j us t r vs) e, others_stay lent k w k-is ys zs long l))) $ nothing ! $ frame ! $
            nothing ! $ owned ! usize (Is usize) (uint_Makes 𝓛 w64) lent _ (refl, lent_fits) $ fjoin ! $
            use0 𝓛 (‵ ((Rs R w).own_val ys (rv R w ys ∷ []))) rs_makes $ fjoin ! $
            owned ! u64 (Is u64) (uint_Makes 𝓛 w64) j _ (refl, j-fits) $ fjoin ! $ owned ! u64 (Is u64) (uint_Makes 𝓛 w64) n _ (refl, n-fits) $
            fjoin ! $ owned ! u64 (Is u64) (uint_Makes 𝓛 w64) c _ (refl, c-fits) $ fjoin ! $
            owned ! (row B) (Is (row B)) (makes B 𝓛) h _ is-h $ fjoin ! $ frame ! $
            owned ! (row S) (Is (row S)) (makes S 𝓛) (whole_of t r (back zs)) _ is $ done !

      module _ (𝓣 : Tables 𝓤 H) (known-most : Triple 𝓤 (𝓣.C most-key) (Most 𝓛))
          (known-lent : Triple 𝓤 (𝓣.C lent_key) (Lend Shows 𝓛)) where
        walk : ent 𝓤 (on_entry 𝓛 own_ended.signature tt tt a av)
            (WpFn 𝓤 H 𝓣.C 𝓣.Λ (own_function most-key lent_key) (tv h ∷ vint w64 c ∷ vint w64 n ∷ vint w64 j ∷ rv R w ys ∷ vint w64 lent ∷ []) Post)
        walk =
            qed 𝓛 (‵ ftrue ∷ ‵ (owns ((row B) ∷ u64 ∷ u64 ∷ u64 ∷ (Rs R w) ∷ usize ∷ []) a av) ∷ []) ∵
            enter ! 𝓣.C 𝓣.Λ (own_function most-key lent_key) (tv h ∷ vint w64 c ∷ vint w64 n ∷ vint w64 j ∷ rv R w ys ∷ vint w64 lent ∷ []) _ $
            alloc1 ! (λ l₀. alloc1 ! (λ l₁. alloc1 ! (λ l₂. alloc1 ! (λ l₃. alloc1 ! (λ l₄. alloc1 ! (λ l₅. alloc1 ! (λ l₆. alloc1 ! (λ l₇. alloc1 ! (λ l₈.
            alloc1 ! (λ l₉. alloc1 ! (λ l₁₀. alloc1 ! (λ l₁₁. alloc1 ! (λ l₁₂. alloc1 ! (λ l₁₃. alloc1 ! (λ l₁₄. alloc1 ! (λ l₁₅. alloc0 ! $ params1 ! $
            pass1 ! (init ! 28 refl (typed B 𝓛 h _ is-h)) $ pass1 ! (init ! 26 refl (tt, record { fits = c-fits })) $
            pass1 ! (init ! 24 refl (tt, record { fits = n-fits })) $ pass1 ! (init ! 22 refl (tt, record { fits = j-fits })) $
            pass1 ! (init ! 20 refl (typed_records ys is-ys)) $ pass1 ! (init ! 18 refl (tt, record { fits = lent_fits })) $ pass0 ! $
            -- [_15; …; _14; …; _13; …; _12; …; _11; …; _10; …; _9; …; _8; …; _7; …; _6; …; _5; …; _4; …; _3; …; _2; …; _1; …; room for _0; …; true;
            -- what the parameters own]
            assigns ! (of_opd ! (load ! (from ! (stop !)) (look ! 28 refl))) (from ! (stop !))
            (init ! 16 refl (typed B 𝓛 h _ is-h)) $
            assigns ! (of_opd ! (load ! (from ! (stop !)) (look ! 20 refl))) (from ! (stop !)) (init ! 14 refl (typed_records ys is-ys)) $
            use0 𝓛 (raw ((Most 𝓛).pre to_most)) goes_most $
            calls_at ! (fm_of 𝓤 H 𝓛.laws 𝓣) (Most 𝓛) known-most to_most (and_then ! (load ! (from ! (stop !)) (look ! 19 refl)) (no_more !)) (λ v.
            use1 𝓛 (later (some (λ (k : ℕ). (‵ ftrue ⊛ ‵ (usize.own_val k (v ∷ []))) ⊛ raw
            (ensured 𝓛 most_ended (most_clauses 𝓤) tt (lent, tt) tt k)))) (id⊢ 𝓤 _) $ await ! tt $ pick ! (λ k.
            split ! $ move ! (1 ∷ []) $ use1 𝓛 (raw (fact 𝓤 (k ≡ min lent w))) (most_of 𝓛 lent k) $ heard ! (k ≡ min lent w) (λ k-is.
            split ! $ drop ! $ peeks ! usize (Is usize) (shows 𝓛 usize) k (v ∷ []) (λ is-k.
            land ! (from ! (stop !)) (init ! 13 refl ((uint_Lawful 𝓛 w64).typed k _ is-k).0) $
            rewrite ! 13 (λ (u : Val). ‵ (fat full_share (ty_int w64) l₉ 0 u)) (ap only is-k.0) refl $ drop ! $
            assigns ! (addr ! (from ! (stop !))) (from ! (stop !)) (init ! 8 refl (tt, tt)) $
            assigns ! (addr ! (from ! (stop !))) (from ! (stop !)) (init ! 6 refl (tt, tt)) $
            assigns ! (agg ! (and_then ! (load ! (from ! (stop !)) (look ! 6 refl)) (and_then ! (load ! (from ! (stop !)) (look ! 12 refl)) (no_more !))))
            (from ! (stop !)) (init ! 4 refl (tt, (tt, (record { fits = is-k.1 }, tt)))) $
            rewrite ! 4 (λ (m : ℕ). ‵ (fat full_share (slice_ty (ty_ref erased mut (pointee (row R).written))) l₁₃ 0 (slice_val (l₈, 0) m))) (count k k-is) refl $
            move ! (33 ∷ []) $ fsplit ! $ move ! (1 ∷ []) $ fsplit ! $ drop ! $ fsplit ! $ drop ! $ fsplit ! $ drop ! $ fsplit ! $
            -- [what panel owns; what lent owns; what t owns; _15; …; _7; …; _6; …]
            -- the table is lent for a lifetime ν of the call
            move ! (19 ∷ 2 ∷ []) $ use2 𝓛 (‵ ((mem (row B)).own_at h l₇ 0)) (lies_in 𝓛 (plainly B) h l₇) $ lft_new ! tt (λ ν. move ! (1 ∷ []) $
            use1 𝓛 (later (some (λ (δ : GName). ‵ ((MutRef (named 0) (ν ∷ []) (row B)).own_val (loan l₇ δ) (vptr l₇ 0 ∷ [])) ⊛ ‵
            (flent (ν ∷ []) (Body (mem (row B)) l₇ 0 δ))))) (lends_ref 𝓛 (row B) (named 0) (ν ∷ []) h l₇ 0) $ await ! tt $ pick ! (λ δ. split ! $
            -- [the table's loan; its lender's part; ν's token; what panel owns; what lent owns; _15; …; _8; …; _7's end; _6; …]
            -- the first records are lent for a lifetime ν', and the others are kept
            move ! (19 ∷ 3 ∷ []) $ use2 𝓛 (‵ (cells (mem (row R)) (front k) l₈ 0) ⊛ ‵
            (cells (mem (row R)) (dropped k ys) l₈ (past R w 𝓛 l₈ (front k)))) (apart R w 𝓛 l₈ k ys) $ split ! $
            lft_new ! tt (λ ν'. move ! (1 ∷ []) $
            use1 𝓛 (later (some (λ (δ' : GName). ‵ ((MutSlice (named 1) (ν' ∷ []) (row R)).own_val (x k l₈ δ') (s k l₈ ∷ [])) ⊛ ‵
            (flent (ν' ∷ []) (Held (row R) (length (front k)) l₈ 0 δ')))))
            (lends_slice 𝓛 (row R) (named 1) (ν' ∷ []) (front k) l₈ 0 (room k k-is)) $ await ! tt $ pick ! (λ δ'. split ! $
            -- [the records' loan; their lender's part; ν''s token; the other records; the table's loan; its lender's part; ν's token; what lent owns; _15; …]
            move ! (6 ∷ 2 ∷ []) $ join ! $ move ! (0 ∷ 4 ∷ 1 ∷ []) $
            use3 𝓛 (raw ((Lend Shows 𝓛).pre (to_lent k l₇ l₈ ν ν' δ δ'))) (goes_lent k l₇ l₈ ν ν' δ δ') $
            -- [what the call asks; the records' lender's part; the other records; the table's lender's part; what lent owns; _15; …; _9; …; _8's end; _7's end;
            -- _6; …]
            calls_at ! (fm_of 𝓤 H 𝓛.laws 𝓣) (Lend Shows 𝓛) known-lent (to_lent k l₇ l₈ ν ν' δ δ')
            (and_then ! (load ! (from ! (stop !)) (look ! 13 refl)) (and_then ! (load ! (from ! (stop !)) (look ! 29 refl))
            (and_then ! (load ! (from ! (stop !)) (look ! 27 refl)) (and_then ! (load ! (from ! (stop !)) (look ! 25 refl))
            (and_then ! (load ! (from ! (stop !)) (look ! 9 refl)) (no_more !)))))) (λ v'.
            use1 𝓛 (later (some (λ (r : Reply Z). ((‵ (flft (ν ∷ []) full_share) ⊛ ‵ (flft (ν' ∷ []) full_share) ⊛ ‵ ftrue) ⊛ ‵ ((row Q).own_val r (v' ∷ []))) ⊛ raw
            (ensured 𝓛 lent_ended (lent_clauses Shows 𝓤) (ν ∷ [], (ν' ∷ [], tt)) (loan l₇ δ, Rest k l₈ δ') tt r)))) (id⊢ 𝓤 _) $
            await ! tt $ pick ! (λ r.
            split ! $ move ! (1 ∷ []) $ use1 𝓛 (some (λ (zs : Left). ‵
            (lasts lent_ended (ν ∷ [], (ν' ∷ [], tt)) (loan l₇ δ, Rest k l₈ δ') zs) ⊛ raw (fact 𝓤 (Ensured k r zs.0 (shown zs)))))
            (id⊢ 𝓤 _) $ pick ! (λ zs.
            split ! $ move ! (1 ∷ []) $ heard ! (Ensured k r zs.0 (shown zs)) (λ e. fsplit ! $ fsplit ! $ move ! (1 ∷ []) $ drop ! $ move ! (1 ∷ []) $
            fsplit ! $ drop ! $ fsplit ! $ drop ! $ fsplit ! $ drop ! $ fsplit ! $ fsplit ! $ fsplit ! $ move ! (1 ∷ []) $ feq_l ! (λ l. move ! (1 ∷ []) $ drop ! $
            -- [the records' last contents; true; the table's last value; the tokens and the result; the records' lender's part; the other records; the table's
            -- lender's part; what lent owns; _15; …]
            move ! (3 ∷ []) $ split ! $ move ! (1 ∷ []) $ peeks ! (row Q) (Is (row Q)) (shows 𝓛 (row Q)) r (v' ∷ []) (λ is.
            land ! (from ! (stop !)) (init ! 19 refl (typed Q 𝓛 r _ is)) $
            rewrite ! 19 (λ (u : Val). ‵ (fat full_share (ty Q) l₁₀ 0 u)) (ap only (tells Q r _ is)) refl $ drop ! $
            -- ν is ended, and the table comes back
            split ! $ lft_end ! tt $ move ! (0 ∷ 7 ∷ 4 ∷ []) $ use3 𝓛 (later (‵ ((mem (row B)).own_at zs.0 l₇ 0)))
            (ref_back 𝓛 (row B) (ν ∷ []) δ zs.0 l₇ 0) $ await ! tt $
            use1 𝓛 (‵ (fat full_share (ty B) l₇ 0 (tv zs.0)) ⊛ ‵ ((row B).own_val zs.0 (tv zs.0 ∷ []))) (lies_out 𝓛 (plainly B) zs.0 l₇) $ split ! $
            move ! (1 ∷ []) $ peeks ! (row B) (Is (row B)) (shows 𝓛 (row B)) zs.0 (tv zs.0 ∷ []) (λ g. drop ! $
            -- [_7; ν''s token and true; the records' last contents; true; their lender's part; the other records; what lent owns; _15; …]
            -- ν' is ended, and the first records come back, beside the others
            move ! (1 ∷ []) $ split ! $ lft_end ! tt $ move ! (0 ∷ 5 ∷ 3 ∷ []) $
            use3 𝓛 (later (‵ ((Arr (mem (row R)) (length (front k))).own_at (shown zs) l₈ 0)))
            (slice_back 𝓛 (row R) (ν' ∷ []) δ' (shown zs) (length (front k)) l₈ 0) $ await ! tt $ fsplit ! $ drop ! $ move ! (0 ∷ 4 ∷ []) $
            rewrite ! 1 (λ (m : ℕ). ‵ (cells (mem (row R)) (dropped k ys) l₈ (at 0 (mem (row R)).size m))) (sym l) refl $
            use2 𝓛 (‵ (fat full_share (ty_array (ty R) w) l₈ 0 (rv R w (back k (shown zs)))) ⊛ ‵
            ((Rs R w).own_val (back k (shown zs)) (rv R w (back k (shown zs)) ∷ [])))
            (together R w 𝓛 l₈ (shown zs) (dropped k ys) (same_len k ys (shown zs) l ∙ long)) $ split ! $
            move ! (1 ∷ []) $ peeks ! (Rs R w) (Is (Rs R w)) (shows 𝓛 (Rs R w)) (back k (shown zs)) (rv R w (back k (shown zs)) ∷ []) (λ g'. drop ! $
            -- [_8; true; _7; true; what lent owns; _15; …; _14; …; _13; …; _12; …; _11; …; _10; …; _9; …; _8's end; _7's end; _6; …; _5; …; _4; …; _3; …; _2;
            -- …; _1; …; room for _0; …; true]
            assigns ! (of_opd ! (load ! (from ! (stop !)) (look ! 2 refl))) (from ! (stop !))
            (init ! 7 refl (typed B 𝓛 zs.0 _ g)) $
            assigns ! (of_opd ! (load ! (from ! (stop !)) (look ! 0 refl))) (from ! (stop !)) (init ! 5 refl (typed_records (back k (shown zs)) g')) $
            assigns ! (agg ! (and_then ! (load ! (from ! (stop !)) (look ! 7 refl)) (and_then ! (load ! (from ! (stop !)) (look ! 15 refl))
            (and_then ! (load ! (from ! (stop !)) (look ! 5 refl)) (no_more !))))) (from ! (stop !))
            (init ! 33 refl (typed S 𝓛 (whole_of zs.0 r (back k (shown zs))) _
            (is_whole zs.0 r (back k (shown zs)) g (subst (Is (row Q) r) (tells Q r _ is) is) g'))) $
            returns ! (look ! 33 refl) $ forget ! 0 refl $ forget ! 2 refl $ forget ! 5 refl $ forget ! 7 refl $ forget ! 9 refl $ forget ! 11 refl $
            forget ! 13 refl $ forget ! 15 refl $ forget ! 17 refl $ forget ! 21 refl $ forget ! 23 refl $ forget ! 25 refl $ forget ! 27 refl $
            forget ! 29 refl $
            forget ! 31 refl $ forget ! 33 refl $
            move ! (33 ∷ 34 ∷ []) $ free1 ! $ move ! (31 ∷ 32 ∷ []) $ free1 ! $ move ! (29 ∷ 30 ∷ []) $ free1 ! $ move ! (27 ∷ 28 ∷ []) $ free1 ! $
            move ! (25 ∷ 26 ∷ []) $ free1 ! $ move ! (23 ∷ 24 ∷ []) $ free1 ! $ move ! (21 ∷ 22 ∷ []) $ free1 ! $ move ! (2 ∷ 20 ∷ []) $ free1 ! $
            move ! (0 ∷ 18 ∷ []) $ free1 ! $ move ! (15 ∷ 16 ∷ []) $ free1 ! $ move ! (13 ∷ 14 ∷ []) $ free1 ! $ move ! (11 ∷ 12 ∷ []) $ free1 ! $
            move ! (9 ∷ 10 ∷ []) $ free1 ! $ move ! (7 ∷ 8 ∷ []) $ free1 ! $ move ! (5 ∷ 6 ∷ []) $ free1 ! $ move ! (3 ∷ 4 ∷ []) $ free1 ! $ free0 ! $
            keep ! [] $ by ! (exits k r zs.0 (shown zs) k-is e l (is_whole zs.0 r (back k (shown zs)) g
            (subst (Is (row Q) r) (tells Q r _ is) is) g'))))))))))))))))))))))))))))))))))

    module _ {M : Type 1} {𝓤 : Ura M} (𝓛 : Logic 𝓤) (C : Clauses 𝓤 own_ended) (law : Follows Shows 𝓤 C) (𝓣 : Tables 𝓤 𝓛.H)
        (known-most : Triple 𝓤 (𝓣.C most-key) (Most 𝓛)) (known-lent : Triple 𝓤 (𝓣.C lent_key) (Lend Shows 𝓛)) where
      open 𝓛 use {H}

      own_walks : Walks 𝓛 own_ended stayed (WpFn 𝓤 H 𝓣.C 𝓣.Λ (own_function most-key lent_key)) C
      own_walks = walked 𝓛 own_ended stayed C (WpFn 𝓤 H 𝓣.C 𝓣.Λ (own_function most-key lent_key))
          (λ κs. (vals B, (uint_vals w64, (uint_vals w64, (uint_vals w64, (rs_vals R w, (uint_vals w64, tt)))))))
          (λ κs. (tells B, (uint_Tells w64, (uint_Tells w64, (uint_Tells w64, (Array-Tells (row R) (vals R) (tells R) w, (uint_Tells w64, tt)))))))
          (λ κs qs bounds a g are. via 𝓤 _ (fst∗ 𝓤 _ ((C tt a).requires g)) (walk 𝓛 C law a.0 a.1.0 a.1.1.0 a.1.1.1.0 a.1.1.1.1.0
          a.1.1.1.1.1.0 are.0 are.1.0.1 are.1.1.0.1 are.1.1.1.0.1 are.1.1.1.1.0 are.1.1.1.1.1.0.1
          g 𝓣 known-most known-lent))

      own_meets : Meets 𝓛 own_ended.signature (WpFn 𝓤 H 𝓣.C 𝓣.Λ (own_function most-key lent_key)) (closing 𝓛 own_ended C)
      own_meets =
          walk_Meets 𝓛 own_ended stayed (
            Goes-none 𝓛 0 (λ _. row B) yes (λ κs. silent (same B)),
            (
              Goes-none 𝓛 0 (λ _. u64) yes (λ κs x f. refl),
              (
                Goes-none 𝓛 0 (λ _. u64) yes (λ κs x f. refl),
                (
                  Goes-none 𝓛 0 (λ _. u64) yes (λ κs x f. refl),
                  (Goes-none 𝓛 0 (λ _. Rs R w) yes (λ κs. silent (array_same R w)), (Goes-none 𝓛 0 (λ _. usize) yes (λ κs x f. refl), tt)),
                ),
              ),
            ),
          ) C (WpFn 𝓤 H 𝓣.C 𝓣.Λ (own_function most-key lent_key))
          (WpFn-mono 𝓤 H 𝓛.laws 𝓣 (own_function most-key lent_key)) own_walks

    module _ {M : Type 1} {𝓤 : Ura M} (𝓛 : Logic 𝓤) (𝓜 : Model 𝓤 𝓛.H) (𝓡 : Running 𝓤 𝓛.H 𝓜) (C : Clauses 𝓤 own_ended)
        (law : Follows Shows 𝓤 C) (γ : Env) (n : Callee) (r r' : Routine) where
      open 𝓛 use {H}

      pub own_spec : γ most-key ≡ r → γ lent_key ≡ r' → Closed 𝓤 H (tables 𝓤 H 𝓜 𝓡 γ).C (tables 𝓤 H 𝓜 𝓡 γ).Λ n (own_function most-key lent_key)
          → Triple 𝓤 (𝓡.run r) (Most 𝓛) → Triple 𝓤 (𝓡.run r') (Lend Shows 𝓛)
          → Meets 𝓛 own_ended.signature (𝓡.run (γ n)) (closing 𝓛 own_ended C)
      own_spec at at' closed = linked_two 𝓤 H 𝓜 𝓡 γ n most-key lent_key r r' (own_function most-key lent_key)
          (triple_of 𝓛 own_ended.signature (closing 𝓛 own_ended C)) (Most 𝓛)
          (Lend Shows 𝓛) at at' closed (own_meets 𝓛 C law)
