-- The running activation goes on with something else to do: all stays known that is so with what lies behind.
use Rattle.std.proofs.Common.{◌≡◌, ℕ, List, [], ◌∷◌, Some, refl}
use Rattle.uc_tree.specs.Source.{Source}
use Rattle.uc_machine.specs.declared.exec.Exec.{Exec}
use Rattle.uc_machine.specs.Executions.{at_depth, others}
use Rattle.uc_machine.specs.Quiet.{Value, Todo, Active, State, Env, at, in_env, with_elements}
use Rattle.uc_typing.specs.Typing.{Ty, Num, Name, Sig, Table}
use Rattle.uc_typing.specs.Pieces.{onto, Ok}
use Rattle.uc_typing.specs.States.{IsBase}
use Rattle.uc_life_laws.specs.Knowing.{AtHand, KnownAll, KnownFrames, KnownThis, KnowsWaits, ClaimsEnv, ClaimsState}
use Rattle.uc_life_laws.specs.Kinds.{IsKept, FollowsOn, stays}
use Rattle.uc_life_laws.proofs.Parked.{Ex}
use Rattle.uc_life_laws.proofs.Parking.{Keeps, KnowsRun, run_as, frames_run, keeps_like}
use Rattle.uc_life_laws.specs.Things.{Few}

-- what is at hand of a state with this to do
abbrev pub With : Table → Few → State → List Sig → List Todo → Value → Ty → Type 0
With t few s sigs todo w a = AtHand t few s.env.exec sigs (record s.run { control = todo } ∷ s.callers) w a

module _ (t : Table) (few : Few) (Q : Exec → List Sig → Ex → Type 0) (kept : IsKept Q) (source : Source) (s : State) (sigs : List Sig) (g : Sig) (base : List Name) (frames : KnownFrames t few s.env.exec sigs s.env.frames (s.run ∷ s.callers)) (frame : at_depth sigs s.run.frame ≡ Some g) (this : KnownThis t few s.env.exec (AtHand t few s.env.exec (others sigs) s.callers) g g.this s.run.this) (callers : KnowsWaits t few s.env.exec (others sigs) s.callers) (env : ClaimsEnv t few Q s.env) (ends : IsBase t g s.run.handles base s.run.frame s.callers) where
  -- in a task that has changed, by the same kinds
  pub same_kinds : (inner : List Name) (given own : List Ty) (todo : List Todo) (vs : List Value) (e : Env) (n : ℕ) → Keeps t few Q kept s.env e → Ok t g base inner todo (onto given own) → KnownAll t few s.env.exec (With t few s sigs todo) own vs → (y : ClaimsState t few Q given (at todo vs (in_env e (with_elements n s)))) × (y.sigs ≡ sigs)
  same_kinds inner given own todo vs e n k o h =
      let a : Active = record s.run { control = todo; operands = vs; elements = n } in
      let there : KnowsRun t few e.exec sigs given e.frames a s.callers = run_as t few s.env.exec e.exec sigs given e.frames a s.callers k.exec (record {
        frames = k.frames sigs (a ∷ s.callers) (frames_run t few s.env.exec sigs s.env.frames s.run a s.callers frames);
        run = record { sig = g; own = own; scope = inner; base = base; frame = frame; values = h; this = this; ok = o; ends = ends };
        callers = callers;
      }) in
      (record { sigs = sigs; frames = there.frames; run = there.run; callers = there.callers; env = k.env }, refl)

  pub put : (inner : List Name) (given own : List Ty) (todo : List Todo) (vs : List Value) (e : Env) (n : ℕ) → Keeps t few Q kept s.env e → Ok t g base inner todo (onto given own) → KnownAll t few s.env.exec (With t few s sigs todo) own vs → FollowsOn Q t few source s sigs given (at todo vs (in_env e (with_elements n s)))
  put inner given own todo vs e n k o h = let x = same_kinds inner given own todo vs e n k o h in (x.0, stays x.1 k.exec refl refl refl)

  pub go : (inner : List Name) (own : List Ty) (todo : List Todo) (vs : List Value) → Ok t g base inner todo own → KnownAll t few s.env.exec (With t few s sigs todo) own vs → FollowsOn Q t few source s sigs [] (at todo vs s)
  go inner own todo vs o h = put inner [] own todo vs s.env s.run.elements (keeps_like t few Q kept env refl refl refl refl refl) o h

  pub asks : (inner : List Name) (own : List Ty) (todo : List Todo) (vs : List Value) → Ok t g base inner todo (Num ∷ own) → KnownAll t few s.env.exec (With t few s sigs todo) own vs → FollowsOn Q t few source s sigs (Num ∷ []) (at todo vs s)
  asks inner own todo vs o h = put inner (Num ∷ []) own todo vs s.env s.run.elements (keeps_like t few Q kept env refl refl refl refl refl) o h
