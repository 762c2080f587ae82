-- Where cells start anew, what is being built keeps what is bound in it.
use Rattle.std.proofs.Common.{◌≡◌, ℕ, suc, ◌⊎◌, inl, inr, Bool, List, [], ◌∷◌, length, sym, ap, subst}
use Rattle.std.specs.Prelude.{if◌then◌else◌}
use Rattle.uc_tree.specs.Source as src
use Rattle.uc_tree.specs.Source.{CleanUp}
use Rattle.uc_machine.specs.declared.exec.Owner.TheVariants.{Frame}
use Rattle.uc_machine.specs.Executions.{frame_changed, frames_changed, values_cleared, change}
use Rattle.uc_machine.specs.Pieces as piece
use Rattle.uc_machine.specs.Pieces.{FieldAt, Value, Todo, Active, State, Env, at, in_env, further, nought}
use Rattle.uc_typing.specs.Typing.{Ty, Obj, Sig, Table, CleansAt}
use Rattle.uc_life_laws.specs.Things.{Few, IsField, itself, field, Holds, LiesBefore}
use Rattle.uc_life_laws.specs.LifeStates.{frame_at}
use Rattle.uc_life_laws.proofs.LifeSteps.{exec_same}
use Rattle.uc_building_laws.specs.Building.{Now}
use Rattle.uc_building_laws.specs.Anew.{AllAnew}
use Rattle.uc_building_laws.specs.BuildingStates.{variable, AtScope, Awaits, IsLoose, IsBuilt, IsMaking, Builds, of_wait, AllBuild, BuildsBy}
use Rattle.uc_building_laws.specs.BuildingLaws.{AwaitedBefore}
use Rattle.uc_building_laws.proofs.Anew.{all_loosen, all_anew}
use Rattle.uc_building_laws.proofs.Memory.{set_at, frame_loose, holds_cleared}
use Rattle.uc_building_laws.proofs.Building as building
use Rattle.uc_building_laws.proofs.Building.{within_more, awaits_both}

-- what holds where two numbers are the same holds so of a scope that opens next
awaits_if : (E : Type 0) (P : CleanUp → List Todo → Type 0) (l : List Todo) → (E → Awaits P l) → Awaits (λ c todo. E → P c todo) l
awaits_if E P (piece.DropNow ∷ (piece.Within line ∷ (piece.Rest (src.Scoped c ss) ∷ todo))) h = h
awaits_if E P l h = tt

module _ (t : Table) (heads : ℕ → ℕ → Bool) (few : Few) (kinds : List Sig) (s : State) (cell m : ℕ) where
  abbrev gs : List (List Value)
  gs = frame_changed s.run.frame (values_cleared cell m nought) s.env.frames

  holds_at : (K : Value → Ty → Type 0) (g : ℕ) (w : Value) (a : Ty) → (g ≡ s.run.frame → LiesBefore t cell (Frame s.env.exec g) w a) → Holds t few s.env.exec K (Frame s.env.exec g) (frame_at g s.env.frames) w a → Holds t few s.env.exec K (Frame s.env.exec g) (frame_at g gs) w a
  holds_at K g w a lies h =
      set_at (λ us. Holds t few s.env.exec K (Frame s.env.exec g) us w a) s.env.frames s.run.frame g (values_cleared cell m nought (frame_at s.run.frame s.env.frames)) (λ e. holds_cleared t few s.env.exec K (Frame s.env.exec g) (frame_at s.run.frame s.env.frames) cell m w a (lies e) (subst (λ f. Holds t few s.env.exec K (Frame s.env.exec g) (frame_at f s.env.frames) w a) e h)) h

  module _ (f depth : ℕ) (this : Value) (g k c : ℕ) (K : Value → Ty → Type 0) (lies : g ≡ s.run.frame → LiesBefore t cell (Frame s.env.exec g) (variable s.env.exec g k) (Obj c)) where
    abbrev place : ℕ → Value
    place i = further (FieldAt (t.shape c) i) (variable s.env.exec g k)

    field_at : (i : ℕ) → IsField t c i → Holds t few s.env.exec K (Frame s.env.exec g) (frame_at g s.env.frames) (place i) (t.fields c i) → Holds t few s.env.exec K (Frame s.env.exec g) (frame_at g gs) (place i) (t.fields c i)
    field_at i x h = holds_at K g (place i) (t.fields c i) (λ e p b w. lies e p b (within_more t (field itself i x) w)) h

    -- nothing is left to bind
    either_cleared : IsBuilt t heads few kinds s.env.exec s.env.frames g (variable s.env.exec g k) c K ⊎ IsMaking t heads few kinds s.env.exec of_wait s.env.frames f depth this g (variable s.env.exec g k) c K → IsBuilt t heads few kinds s.env.exec gs g (variable s.env.exec g k) c K
    either_cleared (inl h) = λ i x told. field_at i x (h i x told)
    either_cleared (inr h) = λ i x told. by i x (h.fields i x told)
      where
        by : (i : ℕ) → IsField t c i → Holds t few s.env.exec K (Frame s.env.exec g) (frame_at g s.env.frames) (place i) (t.fields c i) ⊎ (⊥ × IsLoose s.env.frames g (place i)) → Holds t few s.env.exec K (Frame s.env.exec g) (frame_at g gs) (place i) (t.fields c i)
        by i x (inl y) = field_at i x y
        by i x (inr y) = absurd y.0

  -- an activation before those that wait
  builds_cleared : (f : ℕ) (this : Value) (cs : List Active) → AwaitedBefore t s.env.exec cell s.run.frame cs → Builds t heads few kinds s.env.exec of_wait s.env.frames f this cs → Builds t heads few kinds s.env.exec of_wait gs f this cs
  builds_cleared f this [] k h = tt
  builds_cleared f this (b ∷ older) k h =
      awaits_both _ _ _ (λ c todo lies x j i d. inl (either_cleared f (suc (length older)) this b.frame j i (AtScope t few kinds s.env.exec b.frame b.this older c todo) (λ e. lies e j i d) (x j i d))) b.control (awaits_if (b.frame ≡ s.run.frame) (λ c rest. (j i : ℕ) → CleansAt t (Obj i) (src.Variable j) c → LiesBefore t cell (Frame s.env.exec b.frame) (variable s.env.exec b.frame j) (Obj i)) b.control (λ e. k.0 e)) h

  all_cleared : (cs : List Active) → AwaitedBefore t s.env.exec cell s.run.frame cs → AllBuild t heads few kinds s.env.exec s.env.frames cs → AllBuild t heads few kinds s.env.exec gs cs
  all_cleared [] k h = tt
  all_cleared (a ∷ older) k h = (builds_cleared a.frame a.this older k.1 h.0, all_cleared older k.1 h.1)

  pub cleared_frames : (piece.cleared cell m s).frames ≡ gs
  cleared_frames = ap (λ (b : Bool). (if b then record s.env { frames = gs } else change s.env.exec.home (frames_changed s.env.exec.serial (frame_changed s.run.frame (values_cleared cell m nought))) s.env).frames) (exec_same s.env.exec)

  pub clears : (todo : List Todo) → AwaitedBefore t s.env.exec cell s.run.frame s.callers → AllAnew t heads s.env.frames (record s.run { control = todo } ∷ s.callers) → Builds t heads few kinds s.env.exec of_wait s.env.frames s.run.frame s.run.this s.callers → AllBuild t heads few kinds s.env.exec s.env.frames s.callers → BuildsBy t heads few kinds (λ ps c i w K. Now t heads ps c i w K todo s.run.operands) (at todo s.run.operands (in_env (piece.cleared cell m s) s))
  clears todo k anew h callers =
      subst (λ (b : Bool). BuildsBy t heads few kinds (λ ps c i w K. Now t heads ps c i w K todo s.run.operands) (at todo s.run.operands (in_env (if b then record s.env { frames = gs } else change s.env.exec.home (frames_changed s.env.exec.serial (frame_changed s.run.frame (values_cleared cell m nought))) s.env) s))) (sym (exec_same s.env.exec)) (record {
        anew = now_anew;
        run = building.builds_more t heads few kinds s.env.exec of_wait (λ ps c i w K. Now t heads ps c i w K todo s.run.operands) (λ ps c i w K x. absurd x) gs s.run.frame s.run.this s.callers (builds_cleared s.run.frame s.run.this s.callers k h);
        callers = all_cleared s.callers k callers;
      })
    where
      now_anew : AllAnew t heads gs (record s.run { control = todo } ∷ s.callers)
      now_anew = all_anew t heads s.env.frames gs (record s.run { control = todo } ∷ s.callers) (all_loosen t heads s.env.frames gs (frame_loose s.env.frames s.run.frame cell m) (record s.run { control = todo } ∷ s.callers)) anew
