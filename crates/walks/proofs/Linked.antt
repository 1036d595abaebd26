-- A function of one callee, as a proof of its contract meets it: its MIR e stands under the name n, and calls the name k, where the routine r is linked. So a
-- walk of e over any tables, with a callee that meets its own contract d there, makes the function meet c.
--     Fulfils M code n c     where the code is linked, what stands under the name n meets the contract c, whatever the model: what the proof of a function states
use mathlib.Core.Path.{◌≡◌}
use seplogic.Ra.Ura.{Ura}
use mir.Syntax.{Callee, Fn}
use prog.Model.{Model}
use prog.Routine.{Routine, Env}
use prog.Wired.{Code, Wired}
use prog.Wp.{Heap, WpFn, Tables, Closed}
use types.Logic.{Logic}
use contract.Running.{Running, tables, tables_of}
use denote.Triple.Statement.{Contract, Triple}
use denote.Triple.Table.{entered, cited}

pub linked : {M : Type 1} (𝓤 : Ura M) (H : Heap 𝓤) (𝓜 : Model 𝓤 H) (𝓡 : Running 𝓤 H 𝓜) (γ : Env) (n k : Callee) (r : Routine) (e : Fn) (c d : Contract 𝓤)
    → γ k ≡ r → Closed 𝓤 H (tables 𝓤 H 𝓜 𝓡 γ).C (tables 𝓤 H 𝓜 𝓡 γ).Λ n e
    → ((𝓣 : Tables 𝓤 H) → Triple 𝓤 (𝓣.C k) d → Triple 𝓤 (WpFn 𝓤 H 𝓣.C 𝓣.Λ e) c)
    → Triple 𝓤 (𝓡.run r) d → Triple 𝓤 (𝓡.run (γ n)) c
unfolding tables_of
linked 𝓤 H 𝓜 𝓡 γ n k r e c d at closed walk met = entered 𝓤 H c (tables 𝓤 H 𝓜 𝓡 γ).C (tables 𝓤 H 𝓜 𝓡 γ).Λ n e closed
    (walk (tables_of 𝓤 H 𝓜 (tables 𝓤 H 𝓜 𝓡 γ)) (cited 𝓤 H d 𝓜 𝓡 γ k r at met))

abbrev pub Fulfils : (M : Type 1) → Code → Callee → ((𝓤 : Ura M) (𝓛 : Logic 𝓤) → Contract 𝓤) → Type 2
Fulfils M code n c = (𝓤 : Ura M) (𝓛 : Logic 𝓤) (𝓜 : Model 𝓤 𝓛.H) (𝓡 : Running 𝓤 𝓛.H 𝓜) → Wired 𝓡.env code → Triple 𝓤 (𝓡.run (𝓡.env n)) (c 𝓤 𝓛)
