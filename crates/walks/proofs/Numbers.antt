-- Numbers of 64 bits among the parameters of a walk, any count k of them, before the parameters ss. Each lemma is by induction on k.
--     nums, stays, args, vals, lasts     the slots and the tuples of a signature and of a walk, with k numbers put before those of ss
--     Clause       what a contract says, as a relation of the numbers and of the rest
--     locals, env, past, reads     the MIR: k locals, their part of the environment, the locals after them, and the operands that copy them
--     rooms, cells     one entry of the context for all k locals: `alloc_nums` makes it, `pass_nums` fills it, `read_nums` reads it, `free_nums` gives it back
use mathlib.Core.Path.{◌≡◌, refl, sym, subst}
use Prim.Native.Nat.{ℕ, zero, suc, ◌<◌, ◌^◌}
use mathlib.Core.List.{List, [], ◌∷◌}
use seplogic.Ra.Ura.{Ura}
use base.Fraction.{full_share}
use mir.Syntax.{Ty, w64, ty_int, Local, local, value_local, Step as PStep, place, Opd as Operand, copy}
use mir.Val.{Val, vint}
use base.Logic.{SProp, ent, sep, wand, ex, via, comm∗, assoc∗, assoc', mono_r, wand_i, ex_i, id⊢}
use base.Fml.{Share, ftrue, fat, froom, fdies}
use prog.Wp.{Heap, Env, Spot, spot_of, walk}
use types.Logic.{Logic, sem}
use contract.Lifetimes.{Lfts}
use types.Kit.{Item, ‵, raw, ◌⊛◌, mean, ⋆, nth, del, pull, unpull, Goal, allocs, passes, frees, Seq, Step, step, ◌$◌, ◌∵◌, !, qed, by, move, drop}
use types.Kit.{use1, split, join, fsplit, fjoin, done}
use types.Run.{Reads, Walks, Finds, Opds, init, forget, stop, load, and_then, alloc1, pass1, free1}
use denote.RattleType.{Denots, Valss, owns, flat}
use denote.Laws.{Is, Ises, Are, Spells, valss, Tellss}
use denote.Plain.{uint_vals, uint_Tells, uint_Makes}
use denote.Builtin.{u64}
use denote.Signature.{Slot, plain, types_at}
use denote.Steps.{owned, nothing}
use denote.Triple.End.{all, Fins, Outs, outs, lasts_of}
use denote.Triple.Walked.{Stays, stay_none, fits_of, has_of, AllGo, Goes-none}
use denote.Exit.{yes}

-- ---- the numbers, and that each fits
abbrev pub Nums : ℕ → Type 0
Nums zero = Unit {0}
Nums (suc k) = ℕ × Nums k

abbrev pub Fit : (k : ℕ) → Nums k → Type 0
Fit zero ns = Unit {0}
Fit (suc k) ns = (ns.0 < 2 ^ 64) × Fit k ns.1

-- ---- a signature
module _ {n : ℕ} where
  abbrev pub nums : ℕ → List (Slot n) → List (Slot n)
  nums zero ss = ss
  nums (suc k) ss = plain (λ _. u64) ∷ nums k ss

  abbrev pub stays : (k : ℕ) (ss : List (Slot n)) → Stays ss (all yes ss) → Stays (nums k ss) (all yes (nums k ss))
  stays zero ss hs = hs
  stays (suc k) ss hs = (stay_none (λ _. u64) yes, stays k ss hs)

  module _ (κs : Lfts n) (ss : List (Slot n)) where
    abbrev pub args : (k : ℕ) → Nums k → Denots (types_at ss κs) → Denots (types_at (nums k ss) κs)
    args zero ns x = x
    args (suc k) ns x = (ns.0, args k ns.1 x)

    abbrev pub vals : (k : ℕ) → Nums k → Valss (types_at ss κs) → Valss (types_at (nums k ss) κs)
    vals zero ns vs = vs
    vals (suc k) ns vs = (vint w64 ns.0 ∷ [], vals k ns.1 vs)

    abbrev pub spells : (k : ℕ) → Spells (types_at ss κs) → Spells (types_at (nums k ss) κs)
    spells zero sp = sp
    spells (suc k) sp = (uint_vals w64, spells k sp)

    pub tells : (k : ℕ) (sp : Spells (types_at ss κs)) → Tellss (types_at ss κs) (Ises (types_at ss κs)) sp
        → Tellss (types_at (nums k ss) κs) (Ises (types_at (nums k ss) κs)) (spells k sp)
    tells zero sp tl = tl
    tells (suc k) sp tl = (uint_Tells w64, tells k sp tl)

    -- any arguments are k numbers and the rest
    abbrev pub front : (k : ℕ) → Denots (types_at (nums k ss) κs) → Nums k
    front zero a = tt
    front (suc k) a = (a.0, front k a.1)

    abbrev pub back : (k : ℕ) → Denots (types_at (nums k ss) κs) → Denots (types_at ss κs)
    back zero a = a
    back (suc k) a = back k a.1

    pub args_is : (k : ℕ) (a : Denots (types_at (nums k ss) κs)) → args k (front k a) (back k a) ≡ a
    args_is zero a = refl
    args_is (suc k) a = λ i. (a.0, args_is k a.1 i)

    pub vals_is : (k : ℕ) (sp : Spells (types_at ss κs)) (a : Denots (types_at (nums k ss) κs))
        → vals k (front k a) (valss (types_at ss κs) sp (back k a)) ≡ valss (types_at (nums k ss) κs) (spells k sp) a
    vals_is zero sp a = refl
    vals_is (suc k) sp a = λ i. (vint w64 a.0 ∷ [], vals_is k sp a.1 i)

    module _ (sp : Spells (types_at ss κs)) where
      pub fit_of : (k : ℕ) (a : Denots (types_at (nums k ss) κs))
          → Are (types_at (nums k ss) κs) (Ises (types_at (nums k ss) κs)) a (valss (types_at (nums k ss) κs) (spells k sp) a) → Fit k (front k a)
      fit_of zero a are = tt
      fit_of (suc k) a are = (are.0.1, fit_of k a.1 are.1)

      pub are_of : (k : ℕ) (a : Denots (types_at (nums k ss) κs))
          → Are (types_at (nums k ss) κs) (Ises (types_at (nums k ss) κs)) a (valss (types_at (nums k ss) κs) (spells k sp) a)
          → Are (types_at ss κs) (Ises (types_at ss κs)) (back k a) (valss (types_at ss κs) sp (back k a))
      are_of zero a are = are
      are_of (suc k) a are = are_of k a.1 are.1

    -- what is bound at exit, and what a contract says
    abbrev pub Clause : (k : ℕ) → (Nums k → Denots (types_at ss κs) → Outs κs ss (all yes ss) → Type 0) → Denots (types_at (nums k ss) κs)
        → Outs κs (nums k ss) (all yes (nums k ss)) → Type 0
    Clause zero P a e = P tt a e
    Clause (suc k) P a e = Clause k (λ ns. P (a.0, ns)) a.1 e.1

    module _ (x : Denots (types_at ss κs)) where
      abbrev pub lasts : (k : ℕ) (ns : Nums k) → Fins κs ss (all yes ss) x → Fins κs (nums k ss) (all yes (nums k ss)) (args k ns x)
      lasts zero ns w = w
      lasts (suc k) ns w = (tt, lasts k ns.1 w)

      abbrev pub last : (k : ℕ) (ns : Nums k) → Fins κs (nums k ss) (all yes (nums k ss)) (args k ns x) → Fins κs ss (all yes ss) x
      last zero ns w = w
      last (suc k) ns w = last k ns.1 w.1

      pub clause_in : (k : ℕ) (P : Nums k → Denots (types_at ss κs) → Outs κs ss (all yes ss) → Type 0) (ns : Nums k) (w : Fins κs ss (all yes ss) x)
          → P ns x (outs κs ss (all yes ss) x w) → Clause k P (args k ns x) (outs κs (nums k ss) (all yes (nums k ss)) (args k ns x) (lasts k ns w))
      clause_in zero P ns w p = p
      clause_in (suc k) P ns w p = clause_in k (λ ms. P (ns.0, ms)) ns.1 w p

      pub clause_out : (k : ℕ) (P : Nums k → Denots (types_at ss κs) → Outs κs ss (all yes ss) → Type 0) (ns : Nums k)
          (w : Fins κs (nums k ss) (all yes (nums k ss)) (args k ns x))
          → Clause k P (args k ns x) (outs κs (nums k ss) (all yes (nums k ss)) (args k ns x) w) → P ns x (outs κs ss (all yes ss) x (last k ns w))
      clause_out zero P ns w p = p
      clause_out (suc k) P ns w p = clause_out k (λ ms. P (ns.0, ms)) ns.1 w.1 p

      pub fit_in : (hs : Stays ss (all yes ss)) (k : ℕ) (ns : Nums k) (w : Fins κs ss (all yes ss) x) → fits_of κs ss (all yes ss) hs x w
          → fits_of κs (nums k ss) (all yes (nums k ss)) (stays k ss hs) (args k ns x) (lasts k ns w)
      fit_in hs zero ns w f = f
      fit_in hs (suc k) ns w f = (tt, fit_in hs k ns.1 w f)

-- ---- what the parameters own, and what is had of them
module _ {M : Type 1} {𝓤 : Ura M} (𝓛 : Logic 𝓤) {n : ℕ} where
  pub go_nums : (k : ℕ) (ss : List (Slot n)) (hs : Stays ss (all yes ss)) → AllGo 𝓛 n ss (all yes ss) hs
      → AllGo 𝓛 n (nums k ss) (all yes (nums k ss)) (stays k ss hs)
  go_nums zero ss hs gs = gs
  go_nums (suc k) ss hs gs = (Goes-none 𝓛 n (λ _. u64) yes (λ κs x f. refl), go_nums k ss hs gs)

  module _ (κs : Lfts n) (ss : List (Slot n)) (x : Denots (types_at ss κs)) (vs : Valss (types_at ss κs)) where
    pub own_rest : (k : ℕ) (ns : Nums k) → ent 𝓤 (sem 𝓛 (owns (types_at (nums k ss) κs) (args κs ss k ns x) (vals κs ss k ns vs)))
        (sem 𝓛 (owns (types_at ss κs) x vs))
    own_rest zero ns = id⊢ 𝓤 _
    own_rest (suc k) ns = qed 𝓛 (‵ (owns (types_at (nums (suc k) ss) κs) (args κs ss (suc k) ns x) (vals κs ss (suc k) ns vs)) ∷ []) ∵ fsplit ! $ drop ! $
        by ! (own_rest k ns.1)

    pub own_all : (k : ℕ) (ns : Nums k) → Fit k ns → ent 𝓤 (sem 𝓛 (owns (types_at ss κs) x vs))
        (sem 𝓛 (owns (types_at (nums k ss) κs) (args κs ss k ns x) (vals κs ss k ns vs)))
    own_all zero ns fit = id⊢ 𝓤 _
    own_all (suc k) ns fit = qed 𝓛 (‵ (owns (types_at ss κs) x vs) ∷ []) ∵ use1 𝓛 (‵
        (owns (types_at (nums k ss) κs) (args κs ss k ns.1 x) (vals κs ss k ns.1 vs)))
        (own_all k ns.1 fit.1) $
        owned ! u64 (Is u64) (uint_Makes 𝓛 w64) ns.0 _ (refl, fit.0) $ fjoin ! $ done !

    pub has_all : (hs : Stays ss (all yes ss)) (w : Fins κs ss (all yes ss) x) (k : ℕ) (ns : Nums k) → Fit k ns
        → ent 𝓤 (sem 𝓛 (has_of κs ss (all yes ss) hs x w vs)) (sem 𝓛 (has_of κs (nums k ss) (all yes (nums k ss)) (stays k ss hs) (args κs ss k ns x)
        (lasts κs ss x k ns w) (vals κs ss k ns vs)))
    has_all hs w zero ns fit = id⊢ 𝓤 _
    has_all hs w (suc k) ns fit = qed 𝓛 (‵ (has_of κs ss (all yes ss) hs x w vs) ∷ []) ∵
        use1 𝓛 (‵ (has_of κs (nums k ss) (all yes (nums k ss)) (stays k ss hs) (args κs ss k ns.1 x) (lasts κs ss x k ns.1 w) (vals κs ss k ns.1 vs)))
        (has_all hs w k ns.1 fit.1) $
        owned ! u64 (Is u64) (uint_Makes 𝓛 w64) ns.0 _ (refl, fit.0) $ fjoin ! $ done !

    pub last_rest : (k : ℕ) (ns : Nums k) (w : Fins κs (nums k ss) (all yes (nums k ss)) (args κs ss k ns x))
        → ent 𝓤 (sem 𝓛 (lasts_of κs (nums k ss) (all yes (nums k ss)) (args κs ss k ns x) w))
        (sem 𝓛 (lasts_of κs ss (all yes ss) x (last κs ss x k ns w)))
    last_rest zero ns w = id⊢ 𝓤 _
    last_rest (suc k) ns w = qed 𝓛 (‵ (lasts_of κs (nums (suc k) ss) (all yes (nums (suc k) ss)) (args κs ss (suc k) ns x) w) ∷ []) ∵ fsplit ! $ drop ! $
        by ! (last_rest k ns.1 w.1)

-- ---- the MIR
abbrev pub locals : ℕ → List Local → List Local
locals zero ls = ls
locals (suc k) ls = local (ty_int w64) value_local ∷ locals k ls

abbrev pub past : ℕ → ℕ → ℕ
past zero j = j
past (suc k) j = suc (past k j)

-- copies of the locals f 0, f 1, …
abbrev pub reads : (k : ℕ) → (ℕ → ℕ) → List Operand → List Operand
reads zero f xs = xs
reads (suc k) f xs = copy (place (f 0) []) ∷ reads k (λ i. f (suc i)) xs

abbrev pub env : (k : ℕ) → Nums k → List (Ty × ℕ) → List (Ty × ℕ)
env zero bs E = E
env (suc k) bs E = (ty_int w64, bs.0) ∷ env k bs.1 E

pub past_is : {M : Type 1} (𝓤 : Ura M) (H : Heap 𝓤) (k : ℕ) (bs : Nums k) (E : Env 𝓤 H) (j : ℕ) → spot_of 𝓤 H (env k bs E) (past k j) ≡ spot_of 𝓤 H E j
past_is 𝓤 H zero bs E j = refl
past_is 𝓤 H (suc k) bs E j = past_is 𝓤 H k bs.1 E j

abbrev pub rooms : {M : Type 1} (𝓤 : Ura M) (k : ℕ) → Nums k → Item 𝓤
rooms 𝓤 zero bs = ‵ ftrue
rooms 𝓤 (suc k) bs = (‵ (froom (ty_int w64) bs.0 zero) ⊛ ‵ (fdies (ty_int w64) bs.0)) ⊛ rooms 𝓤 k bs.1

abbrev pub cells : {M : Type 1} (𝓤 : Ura M) (k : ℕ) → Nums k → Nums k → Item 𝓤
cells 𝓤 zero bs ns = ‵ ftrue
cells 𝓤 (suc k) bs ns = (‵ (fat full_share (ty_int w64) bs.0 zero (vint w64 ns.0)) ⊛ ‵ (fdies (ty_int w64) bs.0)) ⊛ cells 𝓤 k bs.1 ns.1

-- entry p of the context, taken out and put back
module _ {M : Type 1} {𝓤 : Ura M} (𝓛 : Logic 𝓤) (Γ : List (Item 𝓤)) (p : ℕ) {j : Item 𝓤} (is : nth 𝓛 p Γ ≡ j) where
  taken : ent 𝓤 (⋆ 𝓛 Γ) (sep 𝓤 (mean 𝓛 j) (⋆ 𝓛 (del 𝓛 p Γ)))
  taken = subst (λ (i : Item 𝓤). ent 𝓤 (⋆ 𝓛 Γ) (sep 𝓤 (mean 𝓛 i) (⋆ 𝓛 (del 𝓛 p Γ)))) is (pull 𝓛 p Γ)

  put_back : ent 𝓤 (sep 𝓤 (mean 𝓛 j) (⋆ 𝓛 (del 𝓛 p Γ))) (⋆ 𝓛 Γ)
  put_back = subst (λ (i : Item 𝓤). ent 𝓤 (sep 𝓤 (mean 𝓛 i) (⋆ 𝓛 (del 𝓛 p Γ))) (⋆ 𝓛 Γ)) is (unpull 𝓛 p Γ)

module _ {M : Type 1} {𝓤 : Ura M} {𝓛 : Logic 𝓤} {K : Type 0} where
  -- a place whose spot is known by an equation
  open 𝓛 use {H}

  pub from_at : K → {Γ : List (Item 𝓤)} {E : Env 𝓤 H} {i : ℕ} {st : List PStep} {sp sp' : Spot 𝓤 H} → spot_of 𝓤 H E i ≡ sp → Walks K 𝓛 Γ E sp st sp'
      → Finds K 𝓛 Γ E (place i st) sp'
  from_at t {Γ} {E} {i} {st} e w = record { go = λ Kt h. subst (λ (s : Spot 𝓤 H). ent 𝓤 (⋆ 𝓛 Γ) (walk 𝓤 H E s st Kt)) (sym e) (w.go Kt h) }

  pub alloc_nums : K → (k : ℕ) {Γ : List (Item 𝓤)} {ls : List Local} {Kt : Env 𝓤 H → Goal 𝓤 H}
      → ((bs : Nums k) → Seq K 𝓛 (rooms 𝓤 k bs ∷ Γ) (allocs ls (λ E. Kt (env k bs E)))) → Seq K 𝓛 Γ (allocs (locals k ls) Kt)
  alloc_nums t zero h = nothing t $ h tt
  alloc_nums t (suc k) h = alloc1 t (λ b. alloc_nums t k (λ bs. move t (1 ∷ 2 ∷ 0 ∷ []) $ join t $ join t $ h (b, bs)))

  pub pass_nums : K → (k : ℕ) (bs ns : Nums k) → Fit k ns
      → {n : ℕ} (κs : Lfts n) (ss : List (Slot n)) (vs : Valss (types_at ss κs)) {Γ : List (Item 𝓤)} {E : Env 𝓤 H} {g : Goal 𝓤 H}
      → Step K 𝓛 (cells 𝓤 k bs ns ∷ Γ) (passes E (flat (types_at ss κs) vs) g) (rooms 𝓤 k bs ∷ Γ)
      (passes (env k bs E) (flat (types_at (nums k ss) κs) (vals κs ss k ns vs)) g)
  pass_nums t zero bs ns fit κs ss vs = step (λ s. s)
  pass_nums t (suc k) bs ns fit κs ss vs = step (λ s. split t $ split t $ pass1 t (init t 0 refl (tt, record { fits = fit.0 })) $ move t (2 ∷ []) $
      pass_nums t k bs.1 ns.1 fit.1 κs ss vs $ move t (1 ∷ 2 ∷ []) $ join t $ join t $ s)

  pub free_nums : K → (k : ℕ) (bs ns : Nums k) {Γ : List (Item 𝓤)} {E : Env 𝓤 H} {g : Goal 𝓤 H} → Step K 𝓛 Γ (frees E g) (cells 𝓤 k bs ns ∷ Γ)
      (frees (env k bs E) g)
  free_nums t zero bs ns = drop t
  free_nums t (suc k) bs ns = step (λ s. split t $ split t $ forget t 0 refl $ free1 t $ free_nums t k bs.1 ns.1 $ s)

  -- a cell that is in the context, beside X
  reads_by : K → {Γ : List (Item 𝓤)} {τ : Ty} {b : ℕ} {v : Val} (X : SProp 𝓤) → ent 𝓤 (⋆ 𝓛 Γ) (sep 𝓤 (H.at full_share τ b zero v) X)
      → ent 𝓤 (sep 𝓤 (H.at full_share τ b zero v) X) (⋆ 𝓛 Γ) → Reads K 𝓛 Γ τ b zero v
  reads_by t {Γ} {τ} {b} {v} X out into =
      let At : Val → SProp 𝓤 = λ u. H.at full_share τ b zero u in
      record {
        go = λ Kt h. via 𝓤 (sep 𝓤 (At v) X) out
            (via 𝓤 (sep 𝓤 (At v) (wand 𝓤 (At v) (Kt v))) (mono_r 𝓤 (At v) (wand_i 𝓤 X (At v) (Kt v)
            (via 𝓤 (sep 𝓤 (At v) X) (comm∗ 𝓤 X (At v)) (via 𝓤 (⋆ 𝓛 Γ) into h))))
            (via 𝓤 (ex 𝓤 (λ (u : Val). sep 𝓤 (At u) (wand 𝓤 (At u) (Kt u)))) (ex_i 𝓤 (λ (u : Val). sep 𝓤 (At u) (wand 𝓤 (At u) (Kt u))) v)
            (ex_i 𝓤 (λ (s : Share). ex 𝓤 (λ (u : Val). sep 𝓤 (H.at s τ b zero u) (wand 𝓤 (H.at s τ b zero u) (Kt u)))) full_share)));
      }

  -- entry p of the context begins with the cell
  pub look_first : K → (p : ℕ) {Γ : List (Item 𝓤)} {τ : Ty} {b : ℕ} {v : Val} {j : Item 𝓤} → nth 𝓛 p Γ ≡ (‵ (fat full_share τ b zero v) ⊛ j)
      → Reads K 𝓛 Γ τ b zero v
  look_first t p {Γ} {τ} {b} {v} {j} is =
      let c : SProp 𝓤 = H.at full_share τ b zero v in
      let X : SProp 𝓤 = ⋆ 𝓛 (del 𝓛 p Γ) in
      reads_by t (sep 𝓤 (mean 𝓛 j) X) (via 𝓤 (sep 𝓤 (sep 𝓤 c (mean 𝓛 j)) X) (taken 𝓛 Γ p is) (assoc∗ 𝓤 c (mean 𝓛 j) X))
      (via 𝓤 (sep 𝓤 (sep 𝓤 c (mean 𝓛 j)) X) (assoc' 𝓤 c (mean 𝓛 j) X) (put_back 𝓛 Γ p is))

  -- the operands: the entry of the numbers is in the context, beside X
  reading : K → (k : ℕ) (bs ns : Nums k) {n : ℕ} (κs : Lfts n) (ss : List (Slot n)) (vs : Valss (types_at ss κs)) (f : ℕ → ℕ) (E' : Env 𝓤 H) {Γ : List (Item 𝓤)}
      {E : Env 𝓤 H} {xs : List Operand} (X : SProp 𝓤)
      → ent 𝓤 (⋆ 𝓛 Γ) (sep 𝓤 (mean 𝓛 (cells 𝓤 k bs ns)) X) → ent 𝓤 (sep 𝓤 (mean 𝓛 (cells 𝓤 k bs ns)) X) (⋆ 𝓛 Γ)
      → ((i : ℕ) → spot_of 𝓤 H E (f i) ≡ spot_of 𝓤 H (env k bs E') i)
      → Opds K 𝓛 Γ E xs (flat (types_at ss κs) vs) → Opds K 𝓛 Γ E (reads k f xs) (flat (types_at (nums k ss) κs) (vals κs ss k ns vs))
  reading t zero bs ns κs ss vs f E' X out into at os = os
  reading t (suc k) bs ns κs ss vs f E' X out into at os =
      let c : Item 𝓤 = ‵ (fat full_share (ty_int w64) bs.0 zero (vint w64 ns.0)) in
      let d : Item 𝓤 = ‵ (fdies (ty_int w64) bs.0) in
      let cs : Item 𝓤 = cells 𝓤 k bs.1 ns.1 in
      and_then t (load t (from_at t (at 0) (stop t)) (reads_by t (sep 𝓤 (mean 𝓛 d) (sep 𝓤 (mean 𝓛 cs) X))
      (via 𝓤 _ out (qed 𝓛 (((c ⊛ d) ⊛ cs) ∷ raw X ∷ []) ∵ split ! $ split ! $ done !)) (via 𝓤 _ (qed 𝓛 (c ∷ d ∷ cs ∷ raw X ∷ []) ∵ join ! $ join ! $
      done !) into)))
      (reading t k bs.1 ns.1 κs ss vs (λ i. f (suc i)) E' (sep 𝓤 (mean 𝓛 (c ⊛ d)) X)
      (via 𝓤 _ out (qed 𝓛 (((c ⊛ d) ⊛ cs) ∷ raw X ∷ []) ∵ split ! $ move ! (1 ∷ 0 ∷ []) $
      done !)) (via 𝓤 _ (qed 𝓛 (cs ∷ (c ⊛ d) ∷ raw X ∷ []) ∵ move ! (1 ∷ 0 ∷ []) $
      join ! $ done !) into) (λ i. at (suc i)) os)

  -- entry p of the context is that of the numbers
  pub read_nums : K → (p : ℕ) (k : ℕ) (bs ns : Nums k) {n : ℕ} (κs : Lfts n) (ss : List (Slot n)) (vs : Valss (types_at ss κs)) (f : ℕ → ℕ) (E' : Env 𝓤 H)
      {Γ : List
      (Item 𝓤)} {E : Env 𝓤 H} {xs : List Operand} → nth 𝓛 p Γ ≡ cells 𝓤 k bs ns
      → ((i : ℕ) → spot_of 𝓤 H E (f i) ≡ spot_of 𝓤 H (env k bs E') i) → Opds K 𝓛 Γ E xs (flat (types_at ss κs) vs)
      → Opds K 𝓛 Γ E (reads k f xs) (flat (types_at (nums k ss) κs) (vals κs ss k ns vs))
  read_nums t p k bs ns κs ss vs f E' {Γ} is = reading t k bs ns κs ss vs f E' (⋆ 𝓛 (del 𝓛 p Γ)) (taken 𝓛 Γ p is) (put_back 𝓛 Γ p is)
