-- A question to a lent table, walked once: for any table T and answer R that are plain data, for every relation Q of the two, and for every question by value
-- whose contract says Q.
--     fn lent(t: &T) -> R { question(*t) }
-- The borrow of the table is looked into, the table is copied out, and the borrow is shut again; the copy is passed by value.
--     Ask, AskLent     the contracts of the question by value and of the one to a lent table
--     ask_spec         the function that has this MIR meets `AskLent`, where the one that it calls meets `Ask`
use mathlib.Core.Path.{◌≡◌, refl, sym}
use Prim.Native.Nat.{ℕ}
use mathlib.Core.List.{[], ◌∷◌, List}
use seplogic.Ra.Ura.{Ura}
use mir.Syntax.{Ty, Callee, Fn, named, imm, ty_ref, deref, place, copy, local, value_local, rv_opd, seq, assign, call, return}
use mir.Val.{Val, vptr}
use base.Logic.{SProp, ent, emp, via, fst∗, snd∗, ex_e, id⊢}
use base.Fml.{Lft, Share, ftrue, flft}
use prog.Model.{Model}
use prog.Routine.{Routine, Env}
use prog.Wp.{Calls, Loops, WpFn, Tables, Closed}
use types.Logic.{Logic, sem}
use contract.Monad.{fact}
use contract.Running.{Running, tables}
use types.Kit.{‵, raw, ◌⊛◌, some, later, ⋆, ◌$◌, ◌∵◌, !, qed, by, move, keep, drop, use1, split, join, pick, rewrite, fsplit, fjoin}
use types.Kit.{feq_i, suffices, frame, await, done}
use types.Run.{look, look_raw, init, forget, stop, hop, from, load, of_opd, and_then, no_more, assigns, land, returns, enter, alloc1, alloc0, params1, pass1}
use types.Run.{pass0, free1, free0}
use sound.WpLaws.{FmC, fm_of, WpFn-mono}
use denote.RattleType.{owns}
use denote.Laws.{Is, shows}
use denote.Memory.{cell_at, hidden_shr, pointee}
use denote.Ref.{Bor, ShrRef, shr_vals, shr_Tells}
use denote.Signature.{plain, shr_ref_to}
use denote.Steps.{looks, shuts, owned, peeks, heard, nothing}
use denote.Struct.Steps.{spelt}
use denote.Triple.Statement.{Contract, Triple}
use denote.Triple.Call.{calls_at}
use denote.Triple.Clauses.{Clauses, Ended, ensured, lasts, closing}
use denote.Triple.Entry.{on_entry}
use denote.Triple.Spec.{triple_of}
use denote.Triple.Walked.{says, Stays, stay_none_ref, walk_of, Goes-none_ref, Walks, ends_at, walked, walk_Meets}
use denote.Exit.{yes}
use Rattle.walks.proofs.Linked.{linked}
use Rattle.walks.proofs.Plain.{Plainly}

-- what is told of a table
abbrev pub Told : Plainly → Plainly → Type 1
Told T R = T.R.Denot → R.R.Denot → Type 0

module _ (T R : Plainly) where
  -- ---- the signatures of the question by value and of the one to a lent table
  abbrev pub ask_ended : Ended
  ask_ended = record {
    signature = record { lifetimes = 0; outlives = []; params = plain (λ _. T.R) ∷ []; result = plain (λ _. R.R) };
    kept = (yes, tt);
  }

  abbrev pub lent_ended : Ended
  lent_ended = record {
    signature = record { lifetimes = 1; outlives = []; params = shr_ref_to (0 ∷ []) tt (plain (λ _. T.R)) ∷ []; result = plain (λ _. R.R) };
    kept = (yes, tt);
  }

  -- ---- their contracts: the lent table stays
  abbrev pub ask_clauses : Told T R → {M : Type 1} (𝓤 : Ura M) → Clauses 𝓤 ask_ended
  ask_clauses Q 𝓤 κs a = record { ghost = Unit {0}; requires = λ _. emp 𝓤; ensures = λ _ r e. fact 𝓤 (Q a.0 r) }

  abbrev pub lent_clauses : Told T R → {M : Type 1} (𝓤 : Ura M) → Clauses 𝓤 lent_ended
  lent_clauses Q 𝓤 κs a = record {
    ghost = Unit {0};
    requires = λ _. emp 𝓤;
    ensures = λ _ r e. fact 𝓤 (Q a.0.now r × (e.0.now ≡ a.0.now));
  }

  abbrev pub Ask : Told T R → {M : Type 1} {𝓤 : Ura M} (𝓛 : Logic 𝓤) → Contract 𝓤
  Ask Q {𝓤 = 𝓤} 𝓛 = triple_of 𝓛 ask_ended.signature (closing 𝓛 ask_ended (ask_clauses Q 𝓤))

  abbrev pub AskLent : Told T R → {M : Type 1} {𝓤 : Ura M} (𝓛 : Logic 𝓤) → Contract 𝓤
  AskLent Q {𝓤 = 𝓤} 𝓛 = triple_of 𝓛 lent_ended.signature (closing 𝓛 lent_ended (lent_clauses Q 𝓤))

  -- ---- the MIR of the question to a lent table, which calls the key
  abbrev pub lent_function : Callee → Fn
  lent_function key = record {
    lifetimes = 1;
    outlives = [];
    ty_params = [];
    givens = 0;
    params = 1;
    locals = local R.mir value_local ∷ local (ty_ref (named 0) imm (pointee T.R.written)) value_local ∷ local T.mir value_local ∷ [];
    body = seq (assign (place 2 []) (rv_opd (copy (place 1 (deref T.mir ∷ []))))) (seq (call key (copy (place 2 []) ∷ []) (place 0 [])) return);
  }

  abbrev stayed : Stays lent_ended.signature.params lent_ended.kept
  stayed = (stay_none_ref (0 ∷ []) tt (plain (λ _. T.R)) yes, tt)

module _ {M : Type 1} {𝓤 : Ura M} (𝓛 : Logic 𝓤) (T R : Plainly) (Q : Told T R) (key : Callee) (κ : Lft) (q : Share)
    (b o : ℕ) (h : T.R.Denot) where
  open 𝓛 use {H}

  abbrev x : Bor T.R.Denot × Unit {0}
  x = (record { ref_ptr = (b, o); now = h }, tt)

  abbrev at : List Val × Unit {0}
  at = (vptr b o ∷ [], tt)

  abbrev Post : Val → SProp 𝓤
  Post = (walk_of 𝓛 (lent_ended T R) (stayed T R) (lent_clauses T R Q 𝓤)).post (((κ, tt), (q, tt), tt, x, at), tt)

  abbrev to : (Ask T R Q 𝓛).Ghost
  to = ((tt, tt, tt, (h, tt), (T.val h ∷ [], tt)), tt)

  goes : ent 𝓤 (sem 𝓛 (T.R.own_val h (T.val h ∷ []))) ((Ask T R Q 𝓛).pre to)
  goes = qed 𝓛 (‵ (T.R.own_val h (T.val h ∷ [])) ∷ []) ∵ nothing ! $ move ! (1 ∷ 0 ∷ []) $ join ! $ nothing ! $ join ! $ frame ! $ done !

  -- of what the question ensures, the clause alone: there is no `&mut`
  said : (r : R.R.Denot) → ent 𝓤 (ensured 𝓛 (ask_ended T R) (ask_clauses T R Q 𝓤) tt (h, tt) tt r) (fact 𝓤 (Q h r))
  said r = ex_e 𝓤 _ (λ ws. snd∗ 𝓤 (sem 𝓛 (lasts (ask_ended T R) tt (h, tt) ws)) (fact 𝓤 (Q h r)))

  exits : (r : R.R.Denot) (v : Val) → Q h r → ent 𝓤 (⋆ 𝓛 (‵ (R.R.own_val r (v ∷ [])) ∷ ‵ (flft κ q) ∷ ‵ (hidden_shr T.R κ h b o) ∷ [])) (Post v)
  exits r v e =
      qed 𝓛 (‵ (R.R.own_val r (v ∷ [])) ∷ ‵ (flft κ q) ∷ ‵ (hidden_shr T.R κ h b o) ∷ []) ∵
      suffices ! _ (ends_at 𝓛 (lent_ended T R) (stayed T R) (lent_clauses T R Q 𝓤) (((κ, tt), (q, tt), tt, x, at), tt) v r (tt, tt) (tt, tt)) $
      says ! (e, refl) $ move ! (1 ∷ []) $ nothing ! $ move ! (1 ∷ 0 ∷ []) $ join ! $ frame ! $ move ! (1 ∷ []) $
      feq_i ! (List Val) (vptr b o ∷ []) (vptr b o ∷ []) refl $ fjoin ! $ nothing ! $ move ! (1 ∷ 0 ∷ []) $ fjoin ! $ frame ! $ done !

  module _ (C : Calls 𝓤 H) (Λ : Loops 𝓤 H) (fm : FmC 𝓤 H 𝓛.laws C) (known : Triple 𝓤 (C key) (Ask T R Q 𝓛)) where
    walk : ent 𝓤 (on_entry 𝓛 (lent_ended T R).signature (κ, tt) (q, tt) x at) (WpFn 𝓤 H C Λ (lent_function T R key) (vptr b o ∷ []) Post)
    walk =
        qed 𝓛 ((‵ (flft κ q) ⊛ ‵ ftrue) ∷ ‵ (owns (ShrRef (named 0) κ T.R ∷ []) x at) ∷ []) ∵ enter ! C Λ (lent_function T R key) (vptr b o ∷ []) _ $
        alloc1 ! (λ l₀. alloc1 ! (λ l₁. alloc1 ! (λ l₂. alloc0 ! $ params1 ! $ pass1 ! (init ! 2 refl (tt, tt)) $ pass0 ! $
        -- [room for _2; …; _1; …; room for _0; …; the token; what the parameter owns]
        move ! (7 ∷ []) $ fsplit ! $ fsplit ! $ drop ! $ move ! (8 ∷ []) $ split ! $ move ! (2 ∷ 0 ∷ []) $
        looks ! tt T.R (T.copied M 𝓤 𝓛).opens h b o (λ q' vs.
        spelt ! T.R (Is T.R) (shows 𝓛 T.R) (λ y. T.val y ∷ []) T.tells q' h vs b o $
        rewrite ! 0 (λ (τs : List Ty). ‵ (cell_at q' τs (T.val h ∷ []) b o)) T.mir_is refl $
        move ! (1 ∷ []) $ peeks ! T.R (Is T.R) (shows 𝓛 T.R) h (T.val h ∷ []) (λ g. move ! (1 ∷ 0 ∷ []) $
        -- [a share of the table's cell; what a table owns; what shuts it; what the borrow holds; true; true; _2; …; _1; …; room for _0; …]
        assigns ! (of_opd ! (load ! (from ! (hop ! (look ! 8 refl) (stop !))) (look_raw ! 0 refl))) (from ! (stop !))
        (init ! 6 refl (T.typed M 𝓤 𝓛 h _ g)) $
        rewrite ! 0 (λ (τs : List Ty). ‵ (cell_at q' τs (T.val h ∷ []) b o)) (sym T.mir_is) refl $
        shuts ! tt T.R q' h (T.val h ∷ []) b o $
        owned ! T.R (Is T.R) (T.makes M 𝓤 𝓛) h _ g $ use1 𝓛 (raw ((Ask T R Q 𝓛).pre to)) goes $
        -- [what the question asks; the token; what the borrow holds; true; true; _2; …; _1; …; room for _0; …]
        calls_at ! fm (Ask T R Q 𝓛) known to (and_then ! (load ! (from ! (stop !)) (look ! 5 refl)) (no_more !)) (λ v.
        use1 𝓛 (later (some (λ (r : R.R.Denot). (‵ ftrue ⊛ ‵ (R.R.own_val r (v ∷ []))) ⊛ raw
        (ensured 𝓛 (ask_ended T R) (ask_clauses T R Q 𝓤) tt (h, tt) tt r)))) (id⊢ 𝓤 _) $ await ! tt $ pick ! (λ r.
        split ! $ move ! (1 ∷ []) $ use1 𝓛 (raw (fact 𝓤 (Q h r))) (said r) $ heard ! (Q h r) (λ e. split ! $ drop ! $
        peeks ! R.R (Is R.R) (shows 𝓛 R.R) r (v ∷ []) (λ is.
        -- [what the answer owns; the token; what the borrow holds; true; true; _2; …; _1; …; room for _0; …]
        land ! (from ! (stop !)) (init ! 9 refl (R.typed M 𝓤 𝓛 r _ is)) $
        returns ! (look ! 9 refl) $ forget ! 5 refl $ forget ! 7 refl $ forget ! 9 refl $
        move ! (9 ∷ 10 ∷ []) $ free1 ! $ move ! (7 ∷ 8 ∷ []) $ free1 ! $ move ! (5 ∷ 6 ∷ []) $ free1 ! $ free0 ! $
        keep ! (0 ∷ 1 ∷ 2 ∷ []) $ by ! (exits r v e))))))))))

module _ {M : Type 1} {𝓤 : Ura M} (𝓛 : Logic 𝓤) (T R : Plainly) (Q : Told T R) (key : Callee) where
  open 𝓛 use {H}

  ask_walks : (C : Calls 𝓤 H) (Λ : Loops 𝓤 H) → FmC 𝓤 H 𝓛.laws C → Triple 𝓤 (C key) (Ask T R Q 𝓛)
      → Walks 𝓛 (lent_ended T R) (stayed T R) (WpFn 𝓤 H C Λ (lent_function T R key)) (lent_clauses T R Q 𝓤)
  ask_walks C Λ fm known = walked 𝓛 (lent_ended T R) (stayed T R) (lent_clauses T R Q 𝓤) (WpFn 𝓤 H C Λ (lent_function T R key))
      (λ κs. (shr_vals, tt)) (λ κs. (shr_Tells (named 0) κs.0 T.R, tt))
      (λ κs qs bounds a _ _. via 𝓤 _ (fst∗ 𝓤 _ (emp 𝓤)) (walk 𝓛 T R Q key κs.0 qs.0 a.0.ref_ptr.0 a.0.ref_ptr.1 a.0.now
      C Λ fm known))

  ask_meets : (𝓣 : Tables 𝓤 H) → Triple 𝓤 (𝓣.C key) (Ask T R Q 𝓛)
      → Triple 𝓤 (WpFn 𝓤 H 𝓣.C 𝓣.Λ (lent_function T R key)) (AskLent T R Q 𝓛)
  ask_meets 𝓣 known =
      walk_Meets 𝓛 (lent_ended T R) (stayed T R) (Goes-none_ref 𝓛 1 (0 ∷ []) tt (plain (λ _. T.R)) yes, tt) (lent_clauses T R Q 𝓤)
      (WpFn 𝓤 H 𝓣.C 𝓣.Λ (lent_function T R key)) (WpFn-mono 𝓤 H 𝓛.laws 𝓣 (lent_function T R key))
      (ask_walks 𝓣.C 𝓣.Λ (fm_of 𝓤 H 𝓛.laws 𝓣) known)

pub ask_spec : (T R : Plainly) (Q : Told T R) {M : Type 1} {𝓤 : Ura M} (𝓛 : Logic 𝓤) (𝓜 : Model 𝓤 𝓛.H) (𝓡 : Running 𝓤 𝓛.H 𝓜)
    (γ : Env) (n key : Callee) (r : Routine) → γ key ≡ r → Closed 𝓤 𝓛.H (tables 𝓤 𝓛.H 𝓜 𝓡 γ).C (tables 𝓤 𝓛.H 𝓜 𝓡 γ).Λ n (lent_function T R key)
    → Triple 𝓤 (𝓡.run r) (Ask T R Q 𝓛) → Triple 𝓤 (𝓡.run (γ n)) (AskLent T R Q 𝓛)
ask_spec T R Q {𝓤 = 𝓤} 𝓛 𝓜 𝓡 γ n key r at closed =
    linked 𝓤 𝓛.H 𝓜 𝓡 γ n key r (lent_function T R key) (AskLent T R Q 𝓛) (Ask T R Q 𝓛) at closed
    (ask_meets 𝓛 T R Q key)
