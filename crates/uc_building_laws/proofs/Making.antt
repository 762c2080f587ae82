-- A constructor is called, finds its fields, binds them; and cells start anew.
use Rattle.std.proofs.Common.{◌≡◌, ℕ, suc, ◌+◌, ◌≤◌, ◌<◌, ℤ, ◌⊎◌, inl, inr, Bool, true, false, List, [], ◌∷◌, length, drop, Option, Some, None, refl, sym, ap, ◌∙◌, subst, arith}
use Rattle.std.specs.Prelude.{min, nat_lt, slice_get, slice_index_or, if◌then◌else◌}
use Rattle.std.proofs.Math.Nat.{min-le_left}
use Rattle.std.proofs.lemmas.Bool.{eq-eqb, ltb-true, ltb-false}
use Rattle.uc_tree.specs.declared.limits.TheConstants.{CALLS}
use Rattle.uc_tree.specs.Source as src
use Rattle.uc_tree.specs.Source.{field_cells, Shape, Expr, CleanUp, Routine, Source}
use Rattle.uc_machine.specs.declared.exec.Exec.{Exec}
use Rattle.uc_machine.specs.declared.exec.Home.{Home}
use Rattle.uc_machine.specs.declared.exec.Home.TheVariants as home
use Rattle.uc_machine.specs.declared.exec.Owner.TheVariants.{Frame, Fields}
use Rattle.uc_machine.specs.Executions.{exec_eq, at_depth, list_in, frame_changed, frames_changed, value_changed, change, frames_of, frames_in, parked_at}
use Rattle.uc_machine.specs.Switches as sw
use Rattle.uc_machine.specs.Monitors as monitors
use Rattle.uc_machine.specs.Raising as raising
use Rattle.uc_machine.specs.Raising.{Event, Found}
use Rattle.uc_machine.specs.Quiet as quiet
use Rattle.uc_machine.specs.Pieces as piece
use Rattle.uc_machine.specs.Pieces.{Link, Slot, FieldAt, Value, Number, Place, Running, Object, Nothing, Todo, Active, State, Env, Outcome, Gives, Faults, Goes, at, in_env, top, below, further, loaded, stored, written, address, variable_at, nought, LAST_ADDRESS}
use Rattle.uc_typing.specs.Typing.{Ty, Cell, Obj, Row, Sig, Table, CleansAt, IsParam, IsPlaced}
use Rattle.uc_typing.specs.States.{IsObjectBy}
use Rattle.uc_place_laws.specs.Opened.{OfPlain}
use Rattle.uc_place_laws.specs.OpeningLaws.{Awaited, NoneAwaited}
use Rattle.uc_place_laws.specs.Calling.{Calling}
use Rattle.uc_place_laws.specs.Sparing.{Spares}
use Rattle.uc_life_laws.specs.Things.{Few, IsField, Within, itself, field, element, IsUnbound, Known, Holds, LiesBefore}
use Rattle.uc_life_laws.specs.LifeRuns.{span, IsLaidOut}
use Rattle.uc_life_laws.specs.LifeStates.{frame_at}
use Rattle.uc_state_laws.specs.RoomStacks.{StackState}
use Rattle.uc_sound.proofs.Lists.{left_is, right_is}
use Rattle.uc_life_laws.proofs.Cells.{either}
use Rattle.uc_life_laws.proofs.LifeSteps.{exec_same}
use Rattle.uc_life_laws.proofs.Knowns as known
use Rattle.uc_life_laws.proofs.Parked as parked
use Rattle.uc_building_laws.specs.Building.{is_still, IsGivenBy, IsBeside, IsLed, InHead, Stays, Behind, Stills, Starts, StartsAside, Onwards, Now}
use Rattle.uc_building_laws.specs.Anew.{IsFree, IsAnew, AllAnew}
use Rattle.uc_building_laws.specs.BuildingStates.{variable, AtScope, Awaits, IsLoose, IsBuilt, IsMaking, Builds, of_wait, AllBuild}
use Rattle.uc_building_laws.specs.BuildingLaws.{IsPlain, AreAddressed, IsConstructed, Constructs}
use Rattle.uc_building_laws.proofs.Anew.{all_loosen, all_anew, newer_loosen, behind_calling, spot, spot_is, all_spared as anew_spared, spared as cell_spared}
use Rattle.uc_building_laws.proofs.Memory.{frame_newer, loose_newer, same_frame, stored_there}
use Rattle.uc_building_laws.proofs.Building as building
use Rattle.uc_building_laws.proofs.Building.{awaits_more, none_bound, Lying, all_lying, all_keep, builds_in, builds_with, builds_kept, all_kept}
use Rattle.uc_building_laws.proofs.Keeping as kept
use Rattle.uc_building_laws.proofs.Keeping.{Binds, Keeps}
use Rattle.uc_building_laws.proofs.Plain.{plain_of}
use Rattle.uc_building_laws.proofs.Settled.{settled_lands, still_onwards, one_place, head_cell, behind_cell}
use Rattle.uc_building_laws.proofs.Steps as steps
use Rattle.uc_building_laws.proofs.Steps.{StepBuilds, newer_all, IsStill, only_still}

-- a binding has no parts
pub within_cell : (t : Table) (w : Value) (b : Ty) (v : Value) (d : Ty) → Within t w (Cell b) v d → (v ≡ w) × (d ≡ Cell b)
within_cell t w b v d itself = (refl, refl)
within_cell t w b v d (field {v = u} {c} h i f) = let e = within_cell t w b u (Obj c) h in absurd (cc)
within_cell t w b v d (element {v = u} {m} {b = x} h j l) = let e = within_cell t w b u (Row m x) h in absurd (cc)

module _ (t : Table) (heads : ℕ → ℕ → Bool) (ps : List Ty) (c i : ℕ) (w : Value) (K : Ty → Value → Type 0) where
  -- what is found is what the field is to be bound to, or leads on to that
  onwards : (a : Ty) (v : Value) (todo : List Todo) (vs : List Value) → Onwards t heads ps c i w K a todo vs → K a v → Now t heads ps c i w K todo (v ∷ vs)
  onwards a v (piece.FieldNow k j ∷ todo) vs o h = inl (a, o, h)
  onwards a v (piece.BindNow ∷ todo) vs o h = inl (a, o, h)
  onwards a v todo vs o h = absurd o

  -- the place of the field is found
  starts : (k : Shape) (j : ℕ) (this : Value) → this ≡ w → (todo : List Todo) (vs : List Value) → Starts t heads ps c i w K (src.OfObject (src.OwnField k j)) todo → Now t heads ps c i w K todo (further (FieldAt k j) this ∷ vs)
  starts k j this e (piece.Eval x ∷ (piece.BindNow ∷ todo)) vs f =
      inl (inr (inr (f.2.0, f.2.2, (f.2.1, ap (λ k. further (FieldAt k j) this) f.1 ∙ (ap (λ j. further (FieldAt (t.shape c) j) this) f.0 ∙ ap (further (FieldAt (t.shape c) i)) e)))))
  starts k j this e todo vs f = absurd f

  -- that of another is
  starts_aside : (k : Shape) (j : ℕ) (this : Value) → this ≡ w → (todo : List Todo) (vs : List Value) → StartsAside t heads ps c i w K (src.OfObject (src.OwnField k j)) todo → Now t heads ps c i w K todo (further (FieldAt k j) this ∷ vs)
  starts_aside k j this e (piece.Eval x ∷ (piece.BindNow ∷ todo)) vs f =
      inr (inr (inr (inl (f.0.1, ((j, ap (λ k. further (FieldAt k j) this) f.0.0 ∙ ap (further (FieldAt (t.shape c) j)) e, f.0.2), f.1)))))
  starts_aside k j this e (piece.Eval x ∷ (piece.KeepNow ∷ todo)) vs f = inr (inr (inr (inr f)))
  starts_aside k j this e todo vs f = absurd f

  -- so is a field that it is bound to, or in which that lies
  owns : (k : Shape) (j : ℕ) (this : Value) → this ≡ w → ((m : ℕ) → IsField t c m → IsPlaced t (t.fields c m) → K (t.fields c m) (further (FieldAt (t.shape c) m) w)) → (todo : List Todo) (vs : List Value) → Now t heads ps c i w K (piece.Eval (src.OfObject (src.OwnField k j)) ∷ todo) vs → Now t heads ps c i w K todo (further (FieldAt k j) this ∷ vs)
  owns k j this e h todo vs (inl (inl x)) = absurd x
  owns k j this e h todo vs (inl (inr (inl x))) = starts k j this e todo vs x
  owns k j this e h todo vs (inl (inr (inr x))) =
      let g = x.1 in
      onwards x.0 (further (FieldAt k j) this) todo vs x.2 (subst (λ a. K a (further (FieldAt k j) this)) (sym g.0) (subst (K (t.fields c j)) (sym (ap (λ k. further (FieldAt k j) this) g.1 ∙ ap (further (FieldAt (t.shape c) j)) e)) (h j g.2 g.3)))
  owns k j this e h todo vs (inr (inl x)) = absurd x.0
  owns k j this e h todo vs (inr (inr (inl x))) = starts_aside k j this e todo vs x
  owns k j this e h todo vs (inr (inr (inr (inl x)))) = building.lands t heads ps c i w K todo _ vs x.1
  owns k j this e h todo vs (inr (inr (inr (inr x)))) = building.stills t heads ps c i w K todo (further (FieldAt k j) this ∷ vs) x.1

  gets : (m : ℕ) (v : Value) → ((b : Ty) → IsParam ps m b → m ≤ LAST_ADDRESS → K b v) → (todo : List Todo) (vs : List Value) → Now t heads ps c i w K (piece.Eval (src.Get m) ∷ todo) vs → Now t heads ps c i w K todo (v ∷ vs)
  gets m v h todo vs (inl (inl x)) = absurd x
  gets m v h todo vs (inl (inr (inl x))) = absurd x
  gets m v h todo vs (inl (inr (inr x))) = onwards x.0 v todo vs x.2 (h x.0 x.1.0 x.1.1)
  gets m v h todo vs (inr (inl x)) = absurd x.0
  gets m v h todo vs (inr (inr (inl x))) = absurd x
  gets m v h todo vs (inr (inr (inr (inl x)))) = building.lands t heads ps c i w K todo v vs x.1
  gets m v h todo vs (inr (inr (inr (inr x)))) = building.stills t heads ps c i w K todo (v ∷ vs) x.1

  tells : (n : ℤ) (v : Value) (todo : List Todo) (vs : List Value) → Now t heads ps c i w K (piece.Eval (src.Literal n) ∷ todo) vs → Now t heads ps c i w K todo (v ∷ vs)
  tells n v todo vs (inl (inl x)) = absurd x
  tells n v todo vs (inl (inr (inl x))) = absurd x
  tells n v todo vs (inl (inr (inr x))) = absurd x.1
  tells n v todo vs (inr (inl x)) = absurd x.0
  tells n v todo vs (inr (inr (inl x))) = absurd x
  tells n v todo vs (inr (inr (inr (inl x)))) = building.lands t heads ps c i w K todo v vs x.1
  tells n v todo vs (inr (inr (inr (inr x)))) = building.stills t heads ps c i w K todo (v ∷ vs) x.1

  -- what such a field has been bound to
  bound_to : (k : Shape) (j : ℕ) (v : Value) (todo : List Todo) (vs : List Value) → ((b : Ty) → Onwards t heads ps c i w K b todo vs → IsGivenBy t ps c (λ m. Stays t heads ps c i todo m) (src.GetOwn k j) b → K b v) → Now t heads ps c i w K (piece.Eval (src.OfObject (src.GetOwn k j)) ∷ todo) vs → Now t heads ps c i w K todo (v ∷ vs)
  bound_to k j v todo vs h (inl (inl x)) = absurd x
  bound_to k j v todo vs h (inl (inr (inl x))) = absurd x
  bound_to k j v todo vs h (inl (inr (inr x))) = onwards x.0 v todo vs x.2 (h x.0 x.2 x.1)
  bound_to k j v todo vs h (inr (inl x)) = absurd x.0
  bound_to k j v todo vs h (inr (inr (inl x))) = absurd x
  bound_to k j v todo vs h (inr (inr (inr (inl x)))) = building.lands t heads ps c i w K todo v vs x.1
  bound_to k j v todo vs h (inr (inr (inr (inr x)))) = building.stills t heads ps c i w K todo (v ∷ vs) x.1

  -- first the object, then the field in it
  parts : (k : Shape) (j : ℕ) (a : Expr) (todo : List Todo) (vs : List Value) → Now t heads ps c i w K (piece.Eval (src.OfObject (src.FieldOf k j a)) ∷ todo) vs → Now t heads ps c i w K (piece.Eval a ∷ (piece.FieldNow k j ∷ todo)) vs
  parts k j a todo vs (inl (inl x)) = absurd x
  parts k j a todo vs (inl (inr (inl x))) = absurd x
  parts k j a todo vs (inl (inr (inr x))) =
      let g = x.1 in
      inl (inr (inr (Obj g.0, g.1, (g.0, refl, g.3, g.4, g.5, subst (λ b. Onwards t heads ps c i w K b todo vs) g.2 x.2))))
  parts k j a todo vs (inr (inl x)) = absurd x.0
  parts k j a todo vs (inr (inr (inl x))) = absurd x
  parts k j a todo vs (inr (inr (inr (inl x)))) = inr (inr (inr (inl x)))
  parts k j a todo vs (inr (inr (inr (inr x)))) = inr (inr (inr (inr x)))

  fields : (k : Shape) (j : ℕ) → ((d : ℕ) (v : Value) → IsField t d j → IsPlaced t (t.fields d j) → K (Obj d) v → K (t.fields d j) (further (FieldAt (t.shape d) j) v)) → (todo : List Todo) (vs : List Value) → Now t heads ps c i w K (piece.FieldNow k j ∷ todo) vs → Now t heads ps c i w K todo (further (FieldAt k j) (top vs) ∷ below vs)
  fields k j h todo vs (inl x) =
      let o = x.1 in
      let d = o.0 in
      onwards (t.fields d j) (further (FieldAt k j) (top vs)) todo (below vs) o.5 (subst (λ k. K (t.fields d j) (further (FieldAt k j) (top vs))) (sym o.2) (h d (top vs) o.3 o.4 (subst (λ a. K a (top vs)) o.1 x.2)))
  fields k j h todo vs (inr (inl x)) = building.lands t heads ps c i w K todo _ (below vs) x
  fields k j h todo vs (inr (inr x)) = building.stills t heads ps c i w K todo (further (FieldAt k j) (top vs) ∷ below vs) x

slot_address : (k : ℕ) → k ≤ LAST_ADDRESS → address (Slot k ∷ []) ≡ k
slot_address k l = omega (arith, l)

-- the frame that is called is the newest
newest_frame : (x : List Value) (fs : List (List Value)) → frame_at (length fs) (x ∷ fs) ≡ x
newest_frame x fs = ap (λ (b : Bool). list_in (if b then Some x else at_depth fs (length fs))) (eq-eqb (length fs) (length fs) refl)

module _ (t : Table) (heads : ℕ → ℕ → Bool) (few : Few) (kinds : List Sig) (Z : ℕ → ℕ → Type 0) (s : State) (life : StackState Z s) (callers : AllBuild t heads few kinds s.env.exec s.env.frames s.callers) (anew : AllAnew t heads s.env.frames s.callers) where
  abbrev With : (List Ty → ℕ → ℕ → Value → (Ty → Value → Type 0) → Type 0) → Type 0
  With L = steps.With t heads few kinds Z s life callers anew L

  abbrev Holding : List Todo → Type 0
  Holding todo = steps.Holding t heads few kinds Z s life callers anew todo

  abbrev Anew : ℕ → ℕ → Type 0
  Anew d k = IsAnew t heads s.env.frames s.run.frame d k

  frames_here : frames_of s.env.exec s.env ≡ s.env.frames
  frames_here = ap (λ (c : Bool). if c then s.env.frames else frames_in (parked_at s.env.exec s.env)) (exec_same s.env.exec)

  loaded_here : (m : ℕ) → m ≤ LAST_ADDRESS → loaded (variable_at m s) s.env ≡ slice_index_or (frame_at s.run.frame s.env.frames) m nought
  loaded_here m l =
      ap (λ fs. slice_index_or (list_in (at_depth fs s.run.frame)) (address (Slot m ∷ [])) nought) frames_here ∙ ap (λ k. slice_index_or (frame_at s.run.frame s.env.frames) k nought) (slot_address m l)

  -- by what is known there, in the same frames
  goes : (todo : List Todo) (vs : List Value) (L : List Ty → ℕ → ℕ → Value → (Ty → Value → Type 0) → Type 0) → Calling Anew todo → ((g k : ℕ) (ps : List Ty) (c i : ℕ) (K : Value → Ty → Type 0) → s.run.this ≡ variable s.env.exec g k → ((j : ℕ) (b : Ty) → IsParam ps j b → Known t few s.env.exec K b (slice_index_or (frame_at s.run.frame s.env.frames) j nought)) → Known t few s.env.exec K (Obj c) (variable s.env.exec g k) → L ps c i (variable s.env.exec g k) (Known t few s.env.exec K) → Now t heads ps c i (variable s.env.exec g k) (Known t few s.env.exec K) todo vs) → With L → StepBuilds t heads few kinds (Goes (at todo vs s))
  goes todo vs L c m h =
      steps.go_now t heads few kinds Z s life callers anew todo vs c (builds_with t heads few kinds s.env.exec L (λ ps c i w K. Now t heads ps c i w K todo vs) s.env.frames s.run.frame s.run.this s.callers m h)

  -- the place of a field of the object at hand is found
  pub own : (k : Shape) (j : ℕ) (todo : List Todo) → Calling Anew todo → With (λ ps c i w K. Now t heads ps c i w K (piece.Eval (src.OfObject (src.OwnField k j)) ∷ todo) s.run.operands) → StepBuilds t heads few kinds (quiet.eval_step (src.OfObject (src.OwnField k j)) todo s)
  own k j todo a h =
      goes todo _ (λ ps c i w K. Now t heads ps c i w K (piece.Eval (src.OfObject (src.OwnField k j)) ∷ todo) s.run.operands) a (λ g m ps c i K e p o x. owns t heads ps c i (variable s.env.exec g m) (Known t few s.env.exec K) k j s.run.this e (λ n f l. known.further_field t few s.env.exec K c n (t.shape c) (variable s.env.exec g m) refl l (λ r. f) o) todo s.run.operands x) h

  -- so is what a parameter is bound to, and a number
  pub get : (m : ℕ) (todo : List Todo) → Calling Anew todo → With (λ ps c i w K. Now t heads ps c i w K (piece.Eval (src.Get m) ∷ todo) s.run.operands) → StepBuilds t heads few kinds (quiet.eval_step (src.Get m) todo s)
  get m todo a h =
      goes todo _ (λ ps c i w K. Now t heads ps c i w K (piece.Eval (src.Get m) ∷ todo) s.run.operands) a (λ g j ps c i K e k o x. gets t heads ps c i (variable s.env.exec g j) (Known t few s.env.exec K) m (loaded (variable_at m s) s.env) (λ b p l. subst (Known t few s.env.exec K b) (sym (loaded_here m l)) (k m b p)) todo s.run.operands x) h

  pub literal : (n : ℤ) (todo : List Todo) → Calling Anew todo → With (λ ps c i w K. Now t heads ps c i w K (piece.Eval (src.Literal n) ∷ todo) s.run.operands) → StepBuilds t heads few kinds (quiet.eval_step (src.Literal n) todo s)
  literal n todo a h =
      goes todo _ (λ ps c i w K. Now t heads ps c i w K (piece.Eval (src.Literal n) ∷ todo) s.run.operands) a (λ g j ps c i K e k o x. tells t heads ps c i (variable s.env.exec g j) (Known t few s.env.exec K) n _ todo s.run.operands x) h

  -- so is what a field has been bound to, which stays so
  module _ (k : Shape) (j : ℕ) (todo : List Todo) where
    abbrev read : Value
    read = loaded (further (FieldAt k j) s.run.this) s.env

    abbrev Reads : List Ty → ℕ → ℕ → Value → (Ty → Value → Type 0) → Type 0
    Reads ps c i w K = Now t heads ps c i w K (piece.Eval (src.OfObject (src.GetOwn k j)) ∷ todo) s.run.operands

    read_there : (g m : ℕ) → s.run.this ≡ variable s.env.exec g m → read ≡ slice_index_or (frame_at g s.env.frames) (address (FieldAt k j ∷ (Slot m ∷ []))) nought
    read_there g m e =
        ap (λ v. loaded (further (FieldAt k j) v) s.env) e ∙ ap (λ fs. slice_index_or (list_in (at_depth fs g)) (address (FieldAt k j ∷ (Slot m ∷ []))) nought) frames_here

    module _ (g m : ℕ) (ps : List Ty) (c i : ℕ) (K : Value → Ty → Type 0) (b : Ty) (on : Onwards t heads ps c i (variable s.env.exec g m) (Known t few s.env.exec K) b todo s.run.operands) (given : IsGivenBy t ps c (λ m. Stays t heads ps c i todo m) (src.GetOwn k j) b) where
      not_left : Reads ps c j (variable s.env.exec g m) (Known t few s.env.exec K) → ⊥
      not_left (inl (inl x)) = x
      not_left (inl (inr (inl x))) = x
      not_left (inl (inr (inr x))) = given.4.1 (one_place t heads ps c s.env.exec g m i j (Known t few s.env.exec K) b x.0 todo s.run.operands on x.2)
      not_left (inr (inl x)) = x.0
      not_left (inr (inr (inl x))) = x
      not_left (inr (inr (inr (inr x)))) = still_onwards t heads ps c s.env.exec g m i j (Known t few s.env.exec K) b todo s.run.operands on x.1
      not_left (inr (inr (inr (inl x)))) = settled_lands t heads ps c (variable s.env.exec g m) (Known t few s.env.exec K) j todo s.run.operands given.4.2 x.1

      read_known : s.run.this ≡ variable s.env.exec g m → Holds t few s.env.exec K (Frame s.env.exec g) (frame_at g s.env.frames) (further (FieldAt (t.shape c) j) (variable s.env.exec g m)) (t.fields c j) ⊎ (Reads ps c j (variable s.env.exec g m) (Known t few s.env.exec K) × IsLoose s.env.frames g (further (FieldAt (t.shape c) j) (variable s.env.exec g m))) → Known t few s.env.exec K b read
      read_known e (inl h) =
          let p = FieldAt (t.shape c) j ∷ (Slot m ∷ []) in
          let w = further (FieldAt (t.shape c) j) (variable s.env.exec g m) in
          let held : Known t few s.env.exec K b (slice_index_or (frame_at g s.env.frames) (address (FieldAt (t.shape c) j ∷ (Slot m ∷ []))) nought) = h p b (subst (λ a. Within t w a w (Cell b)) (sym given.0) itself) given.3 in
          subst (Known t few s.env.exec K b) (sym (read_there g m e)) (subst (λ k. Known t few s.env.exec K b (slice_index_or (frame_at g s.env.frames) (address (FieldAt k j ∷ (Slot m ∷ []))) nought)) (sym given.1) held)
      read_known e (inr h) = absurd (not_left h.0)

    pub value : Calling Anew todo → With Reads → StepBuilds t heads few kinds (quiet.eval_step (src.OfObject (src.GetOwn k j)) todo s)
    value a h = steps.go_now t heads few kinds Z s life callers anew todo _ a (builds_in t heads few kinds s.env.exec (λ g m c. Unit {0}) Reads (λ ps c i w K. Now t heads ps c i w K todo (read ∷ s.run.operands)) s.env.frames s.env.frames s.run.frame s.run.this s.callers (same_frame s.env.frames s.run.frame) (all_keep t heads few kinds s.env.exec s.env.frames s.env.frames (same_frame s.env.frames) s.callers) (all_lying t heads few kinds s.env.exec s.callers) (λ g m ps c i K e f told o p q all x free. inr (bound_to t heads ps c i (variable s.env.exec g m) (Known t few s.env.exec K) k j read todo s.run.operands (λ b on given. read_known g m ps c i K b on given o (all j given.2 given.4.0)) x, free)) h)

  -- a field of an object is found behind that
  pub field_of : (k : Shape) (j : ℕ) (a : Expr) (todo : List Todo) → Calling Anew todo → With (λ ps c i w K. Now t heads ps c i w K (piece.Eval (src.OfObject (src.FieldOf k j a)) ∷ todo) s.run.operands) → StepBuilds t heads few kinds (quiet.eval_step (src.OfObject (src.FieldOf k j a)) todo s)
  field_of k j a todo c h = goes (piece.Eval a ∷ (piece.FieldNow k j ∷ todo)) s.run.operands (λ ps c i w K. Now t heads ps c i w K (piece.Eval (src.OfObject (src.FieldOf k j a)) ∷ todo) s.run.operands) (tt, c) (λ g m ps c i K e p o x. parts t heads ps c i (variable s.env.exec g m) (Known t few s.env.exec K) k j a todo s.run.operands x) h

  pub field_now : (k : Shape) (j : ℕ) (todo : List Todo) → Calling Anew todo → With (λ ps c i w K. Now t heads ps c i w K (piece.FieldNow k j ∷ todo) s.run.operands) → StepBuilds t heads few kinds (Goes (at todo (further (FieldAt k j) (top s.run.operands) ∷ below s.run.operands) s))
  field_now k j todo a h = goes todo _ (λ ps c i w K. Now t heads ps c i w K (piece.FieldNow k j ∷ todo) s.run.operands) a (λ g m ps c i K e p o x. fields t heads ps c i (variable s.env.exec g m) (Known t few s.env.exec K) k j (λ d v f l q. known.further_field t few s.env.exec K d j (t.shape d) v refl l (λ r. f) q) todo s.run.operands x) h

  -- what is bound, and what a number is written to
  pub bind_to : (a b : Expr) (todo : List Todo) → Calling Anew todo → With (λ ps c i w K. Now t heads ps c i w K (piece.Eval (src.OfObject (src.Bind a b)) ∷ todo) s.run.operands) → StepBuilds t heads few kinds (quiet.eval_step (src.OfObject (src.Bind a b)) todo s)
  bind_to a b todo c h = goes (piece.Eval a ∷ (piece.Eval b ∷ (piece.BindNow ∷ todo))) s.run.operands (λ ps c i w K. Now t heads ps c i w K (piece.Eval (src.OfObject (src.Bind a b)) ∷ todo) s.run.operands) (tt, (tt, c)) (λ g m ps c i K e p o x. steps.binds t heads ps c i (variable s.env.exec g m) (Known t few s.env.exec K) a b todo s.run.operands x) h

  pub assign : (a b : Expr) (todo : List Todo) → Calling Anew todo → With (λ ps c i w K. Now t heads ps c i w K (piece.Eval (src.Assign a b) ∷ todo) s.run.operands) → StepBuilds t heads few kinds (quiet.eval_step (src.Assign a b) todo s)
  assign a b todo c h = goes (piece.Eval a ∷ (piece.Eval b ∷ (piece.KeepNow ∷ todo))) s.run.operands (λ ps c i w K. Now t heads ps c i w K (piece.Eval (src.Assign a b) ∷ todo) s.run.operands) (tt, (tt, c)) (λ g m ps c i K e p o x. steps.assigns t heads ps c i (variable s.env.exec g m) (Known t few s.env.exec K) a b todo s.run.operands x) h

  -- a number is being found without a call: what is found now, or what is found first for it
  module _ (todo : List Todo) (a : Calling Anew todo) where
    pub passed : (vs : List Value) → With (λ ps c i w K. Stills t heads ps c i todo) → StepBuilds t heads few kinds (Goes (at todo vs s))
    passed vs h = goes todo vs (λ ps c i w K. Stills t heads ps c i todo) a (λ g m ps c i K e p o x. building.stills t heads ps c i (variable s.env.exec g m) (Known t few s.env.exec K) todo vs x) h

    pub reckoned : (x : Outcome) (vs : List Value) → With (λ ps c i w K. Stills t heads ps c i todo) → StepBuilds t heads few kinds (piece.outcome_step x todo vs s)
    reckoned (Gives n) vs h = passed (Number n ∷ vs) h
    reckoned (Faults f) vs h = tt

    pub element_at : (k : Shape) (o : Option ℕ) (v : Value) (vs : List Value) → With (λ ps c i w K. Stills t heads ps c i todo) → StepBuilds t heads few kinds (piece.element_step k o todo v vs s)
    element_at k None v vs h = tt
    element_at k (Some j) v vs h = passed (further (piece.At k j) v ∷ vs) h

    chosen : (b : Bool) (e f : Expr) → (is_still e ≡ true) × (is_still f ≡ true) → is_still (if b then f else e) ≡ true
    chosen true e f h = h.1
    chosen false e f h = h.0

    pub chooses : Awaited Anew todo → (b : Bool) (e f : Expr) (vs : List Value) → With (λ ps c i w K. ((is_still e ≡ true) × (is_still f ≡ true)) × Stills t heads ps c i todo) → StepBuilds t heads few kinds (Goes (at (piece.Eval (if b then f else e) ∷ todo) vs s))
    chooses next b e f vs h = goes (piece.Eval (if b then f else e) ∷ todo) vs (λ ps c i w K. ((is_still e ≡ true) × (is_still f ≡ true)) × Stills t heads ps c i todo) (next, a) (λ g m ps c i K q p o x. inr (inr (inr (inr (chosen b e f x.0, x.1))))) h

    -- its parts are found first
    pub found_first : (e : Expr) → IsStill e → (l : List Todo) (vs : List Value) → Calling Anew l → ((ps : List Ty) (c i : ℕ) → is_still e ≡ true → Stills t heads ps c i todo → Stills t heads ps c i l) → With (λ ps c i w K. Now t heads ps c i w K (piece.Eval e ∷ todo) s.run.operands) → StepBuilds t heads few kinds (Goes (at l vs s))
    found_first e is l vs u f h = goes l vs (λ ps c i w K. Now t heads ps c i w K (piece.Eval e ∷ todo) s.run.operands) u (λ g m ps c i K q p o x. let y = only_still t heads ps c i (variable s.env.exec g m) (Known t few s.env.exec K) e todo s.run.operands is x in building.stills t heads ps c i (variable s.env.exec g m) (Known t few s.env.exec K) l vs (f ps c i y.0 y.1)) h

    -- an expression that is no calm one
    pub still : (e : Expr) → IsStill e → NoneAwaited (piece.DropNow ∷ todo) → With (λ ps c i w K. Now t heads ps c i w K (piece.Eval e ∷ todo) s.run.operands) → StepBuilds t heads few kinds (quiet.eval_step e todo s)
    still (src.Variable k) is n h = found_first (src.Variable k) is todo _ a (λ ps c i q y. y) h
    still (src.Element m k x y) is n h = found_first (src.Element m k x y) is _ _ (tt, (tt, a)) (λ ps c i q z. (left_is (is_still x) (is_still y) q, (right_is (is_still x) (is_still y) q, z))) h
    still (src.Load x) is n h = found_first (src.Load x) is _ _ (tt, a) (λ ps c i q z. (q, z)) h
    still (src.Negated x) is n h = found_first (src.Negated x) is _ _ (tt, a) (λ ps c i q z. (q, z)) h
    still (src.Not x) is n h = found_first (src.Not x) is _ _ (tt, a) (λ ps c i q z. (q, z)) h
    still (src.AsCharacter x) is n h = found_first (src.AsCharacter x) is _ _ (tt, a) (λ ps c i q z. (q, z)) h
    still (src.AsTruth x) is n h = found_first (src.AsTruth x) is _ _ (tt, a) (λ ps c i q z. (q, z)) h
    still (src.Operate op x y) is n h = found_first (src.Operate op x y) is _ _ (tt, (tt, a)) (λ ps c i q z. (left_is (is_still x) (is_still y) q, (right_is (is_still x) (is_still y) q, z))) h
    still (src.And x y) is n h = found_first (src.And x y) is _ _ (tt, a) (λ ps c i q z. (left_is (is_still x) (is_still y) q, ((right_is (is_still x) (is_still y) q, refl), z))) h
    still (src.Or x y) is n h = found_first (src.Or x y) is _ _ (tt, a) (λ ps c i q z. (left_is (is_still x) (is_still y) q, ((refl, right_is (is_still x) (is_still y) q), z))) h
    still (src.OfObject src.This) is n h = found_first (src.OfObject src.This) is todo _ a (λ ps c i q y. y) h
    still (src.OfObject src.Counted) is n h = found_first (src.OfObject src.Counted) is todo _ a (λ ps c i q y. y) h
    still e is n h = absurd is

  -- what is left is done behind this
  pub later : (todo : List Todo) (vs : List Value) → Calling Anew todo → With (λ ps c i w K. Behind t heads ps c i todo) → StepBuilds t heads few kinds (Goes (at todo vs s))
  later todo vs a h = goes todo vs (λ ps c i w K. Behind t heads ps c i todo) a (λ g m ps c i K e p o x. building.now t heads ps c i (variable s.env.exec g m) (Known t few s.env.exec K) todo vs x) h

  -- in a task in which what is bound stays so
  module _ (e : Env) (keeps : Binds s.env e) (todo : List Todo) (vs : List Value) (spared : AllAnew t heads e.frames (record s.run { control = todo } ∷ s.callers)) where
    pub changed : (E : ℕ → ℕ → ℕ → Type 0) (L : List Ty → ℕ → ℕ → Value → (Ty → Value → Type 0) → Type 0) → Lying t heads few kinds s.env.exec E s.callers → ((g : ℕ) → building.Goes t heads few kinds s.env.exec E L (λ ps c i w K. Now t heads ps c i w K todo vs) s.env.frames e.frames s.run.frame s.run.this g) → With L → StepBuilds t heads few kinds (Goes (at todo vs (in_env e s)))
    changed E L lying m h = record {
      anew = (spared.0, spared.1);
      run = subst (λ n. Builds t heads few kinds n (λ ps c i w K. Now t heads ps c i w K todo vs) e.frames s.run.frame s.run.this s.callers) (sym keeps.exec) (builds_in t heads few kinds s.env.exec E L (λ ps c i w K. Now t heads ps c i w K todo vs) s.env.frames e.frames s.run.frame s.run.this s.callers (keeps.frames s.run.frame) (all_keep t heads few kinds s.env.exec s.env.frames e.frames keeps.frames s.callers) lying m h);
      callers = subst (λ n. AllBuild t heads few kinds n e.frames s.callers) (sym keeps.exec) (all_kept t heads few kinds s.env.exec s.env.frames e.frames s.callers (all_keep t heads few kinds s.env.exec s.env.frames e.frames keeps.frames s.callers) callers);
    }

  -- a number is written
  pub writes : (todo : List Todo) (vs : List Value) (v : Value) (z : ℤ) → Calling Anew todo → With (λ ps c i w K. Behind t heads ps c i todo) → StepBuilds t heads few kinds (Goes (at todo vs (in_env (written v (Number z) s.env) s)))
  writes todo vs v z a h =
      let keeps = kept.number_keeps v z s.env in
      changed (written v (Number z) s.env) keeps.binds todo vs (all_anew t heads s.env.frames (written v (Number z) s.env).frames (record s.run { control = todo } ∷ s.callers) (all_loosen t heads s.env.frames (written v (Number z) s.env).frames keeps.looses (record s.run { control = todo } ∷ s.callers)) (a, anew)) (λ g k c. Unit {0}) (λ ps c i w K. Behind t heads ps c i todo) (all_lying t heads few kinds s.env.exec s.callers) (λ g m ps c i K e x told o p q all y free. inr (building.now t heads ps c i (variable s.env.exec g m) (Known t few s.env.exec K) todo vs y, keeps.looses g _ free)) h

  -- something is bound at a place, where fields lie within their cells and all cells of frames have addresses
  module _ (laid : IsLaidOut Z t) (short : AreAddressed s) where
    frames_by : Env → List (List Value)
    frames_by e = e.frames

    written_frames : (e : Env) → e.exec ≡ s.env.exec → e.frames ≡ s.env.frames → (n : Exec) (g : ℕ) (p : List Link) (v : Value) → exec_eq n s.env.exec ≡ true → (written (Place (Frame n g) p) v e).frames ≡ frame_changed g (value_changed (address p) (stored v) nought) s.env.frames
    written_frames e x q n g p v h =
        ap (λ (b : Bool). (if b then record e { frames = frame_changed g (value_changed (address p) (stored v) nought) e.frames } else change n.home (frames_changed n.serial (frame_changed g (value_changed (address p) (stored v) nought))) e).frames) (ap (exec_eq n) x ∙ h) ∙ ap (frame_changed g (value_changed (address p) (stored v) nought)) q

    -- it leaves alone what is still to be built
    pub all_spared : (e : Env) → e.exec ≡ s.env.exec → e.frames ≡ s.env.frames → (cs : List Active) (w v : Value) → Spares Z s.env.exec cs w → AllAnew t heads s.env.frames cs → AllAnew t heads (written w v e).frames cs
    all_spared e x q cs (Place (Frame n g) p) v h k = subst (λ fs. AllAnew t heads fs cs) (sym (written_frames e x q n g p v h.0)) (anew_spared t heads Z laid s.env.frames short g (address p) v cs h.1 k)
    all_spared e x q cs (Place (Fields o) p) v h k = subst (λ fs. AllAnew t heads fs cs) (sym (parked.change_frames (home.Object o) _ e ∙ q)) k
    all_spared e x q cs (Object o) v h k = subst (λ fs. AllAnew t heads fs cs) (sym (parked.change_frames (home.Object o) _ e ∙ q)) k
    all_spared e x q cs (Number n) v h k = subst (λ fs. AllAnew t heads fs cs) (sym q) k
    all_spared e x q cs (Running n) v h k = subst (λ fs. AllAnew t heads fs cs) (sym q) k
    all_spared e x q cs Nothing v h k = subst (λ fs. AllAnew t heads fs cs) (sym q) k

    -- a field of the object at hand stays free where another cell is bound
    beside : (e : Env) → e.exec ≡ s.env.exec → e.frames ≡ s.env.frames → (g cell : ℕ) (p : List Link) (v : Value) → (cell < LAST_ADDRESS → cell ≡ address p → ⊥) → IsFree (slice_index_or (frame_at g s.env.frames) cell nought) → IsFree (slice_index_or (frame_at g (written (Place (Frame s.env.exec g) p) v e).frames) cell nought)
    beside e x q g cell p v other h = subst (λ fs. IsFree (slice_index_or (frame_at g fs) cell nought)) (sym (written_frames e x q s.env.exec g p v (exec_same s.env.exec))) (cell_spared t heads Z laid s.env.frames short g (address p) v g cell (λ e. other) h)

    -- two fields of an object lie in two cells
    two_spots : (k c i m : ℕ) → IsField t c i → (b : Ty) → t.fields c i ≡ Cell b → IsBeside t c i m → spot t k c i < LAST_ADDRESS → spot t k c i ≡ spot t k c m → ⊥
    two_spots k c i m is b cell other l same =
        let x : spot t k c i ≡ k + field_cells (t.shape c) i = spot_is t k c i l in
        let y : spot t k c m ≡ k + field_cells (t.shape c) m = spot_is t k c m (omega (arith, l, same)) in
        by x y (nat_lt i m) refl (nat_lt m i) refl
      where
        one : (n : ℕ) (a : Ty) → t.fields c n ≡ Cell a → span t (t.fields c n) ≡ 1
        one n a e = ap (span t) e

        by : spot t k c i ≡ k + field_cells (t.shape c) i → spot t k c m ≡ k + field_cells (t.shape c) m → (p : Bool) → nat_lt i m ≡ p → (q : Bool) → nat_lt m i ≡ q → ⊥
        by x y true p q f =
            let a = laid.apart c i m is (ltb-true i m p) in
            let o = one i b cell in
            omega (arith, x, y, a, o, same)
        by x y false p true f =
            let a = laid.apart c m i other.1 (ltb-true m i f) in
            let o = one m other.2.0 other.2.1 in
            omega (arith, x, y, a, o, same)
        by x y false p false f =
            let a : m ≤ i = ltb-false i m p in
            let d : i ≤ m = ltb-false m i f in
            other.0 (omega (arith, a, d))

    -- a field is bound
    module _ (todo : List Todo) (vs : List Value) (spares : Spares Z s.env.exec (record s.run { control = todo } ∷ s.callers) (top (below s.run.operands))) where
      abbrev after : Env
      after = written (top (below s.run.operands)) (top s.run.operands) s.env

      keeps : Binds s.env after
      keeps = kept.written_binds (top (below s.run.operands)) (top s.run.operands) s.env

      -- the object lies within the frame
      abbrev Lies : ℕ → ℕ → ℕ → Type 0
      Lies g k c = LiesBefore t (length (frame_at g s.env.frames)) (Frame s.env.exec g) (variable s.env.exec g k) (Obj c)

      held : (g k c i : ℕ) (K : Value → Ty → Type 0) → Lies g k c → IsField t c i → IsLoose s.env.frames g (further (FieldAt (t.shape c) i) (variable s.env.exec g k)) → (b : Ty) → t.fields c i ≡ Cell b → top (below s.run.operands) ≡ further (FieldAt (t.shape c) i) (variable s.env.exec g k) → Known t few s.env.exec K b (top s.run.operands) → Holds t few s.env.exec K (Frame s.env.exec g) (frame_at g after.frames) (further (FieldAt (t.shape c) i) (variable s.env.exec g k)) (t.fields c i)
      held g k c i K fits is free b f p h q d x binds =
          let v = top s.run.operands in
          let place = FieldAt (t.shape c) i ∷ (Slot k ∷ []) in
          let y = within_cell t (further (FieldAt (t.shape c) i) (variable s.env.exec g k)) b (Place (Frame s.env.exec g) q) (Cell d) (subst (λ a. Within t (further (FieldAt (t.shape c) i) (variable s.env.exec g k)) a (Place (Frame s.env.exec g) q) (Cell d)) f x) in
          let z = y.0 in
          let u = y.1 in
          let path : q ≡ FieldAt (t.shape c) i ∷ (Slot k ∷ []) = cc in
          let type : d ≡ b = cc in
          let before : address place < length (frame_at g s.env.frames) = fits place b (subst (λ a. Within t (variable s.env.exec g k) (Obj c) (Place (Frame s.env.exec g) place) a) f (field itself i is)) in
          let there : slice_index_or (frame_at g (frame_changed g (value_changed (address place) (stored v) nought) s.env.frames)) (address place) nought ≡ v = stored_there s.env.frames g (address place) v before free in
          let frames : after.frames ≡ frame_changed g (value_changed (address place) (stored v) nought) s.env.frames = ap (λ u. (written u v s.env).frames) p ∙ written_frames s.env refl refl s.env.exec g place v (exec_same s.env.exec) in
          let stands : slice_index_or (frame_at g after.frames) (address place) nought ≡ v = ap (λ fs. slice_index_or (frame_at g fs) (address place) nought) frames ∙ there in
          subst (λ q. Known t few s.env.exec K d (slice_index_or (frame_at g after.frames) (address q) nought)) (sym path) (subst (λ d. Known t few s.env.exec K d (slice_index_or (frame_at g after.frames) (address place) nought)) (sym type) (subst (Known t few s.env.exec K b) (sym stands) h))

      bound : (g k : ℕ) (ps : List Ty) (c i : ℕ) (K : Value → Ty → Type 0) → Lies g k c → IsField t c i → IsLoose s.env.frames g (further (FieldAt (t.shape c) i) (variable s.env.exec g k)) → Now t heads ps c i (variable s.env.exec g k) (Known t few s.env.exec K) (piece.BindNow ∷ todo) s.run.operands → Holds t few s.env.exec K (Frame s.env.exec g) (frame_at g after.frames) (further (FieldAt (t.shape c) i) (variable s.env.exec g k)) (t.fields c i) ⊎ (Now t heads ps c i (variable s.env.exec g k) (Known t few s.env.exec K) todo vs × IsLoose after.frames g (further (FieldAt (t.shape c) i) (variable s.env.exec g k)))
      bound g k ps c i K fits is free (inl x) = inl (held g k c i K fits is free x.0 x.1.0 x.1.1 x.2)
      bound g k ps c i K fits is free (inr x) =
          let m = x.0.0 in
          let cell = behind_cell t heads ps c i todo x.1 in
          inr (building.now t heads ps c i (variable s.env.exec g k) (Known t few s.env.exec K) todo vs x.1, subst (λ u. IsFree (slice_index_or (frame_at g (written u (top s.run.operands) s.env).frames) (address (FieldAt (t.shape c) i ∷ (Slot k ∷ []))) nought)) (sym x.0.1) (beside s.env refl refl g (address (FieldAt (t.shape c) i ∷ (Slot k ∷ []))) (FieldAt (t.shape c) m ∷ (Slot k ∷ [])) (top s.run.operands) (λ l same. two_spots k c i m is cell.0 cell.1 x.0.2 l same) free))

      pub bind_now : Lying t heads few kinds s.env.exec Lies s.callers → Calling Anew todo → With (λ ps c i w K. Now t heads ps c i w K (piece.BindNow ∷ todo) s.run.operands) → StepBuilds t heads few kinds (Goes (at todo vs (in_env after s)))
      bind_now lying a h =
          changed after keeps todo vs (all_spared s.env refl refl (record s.run { control = todo } ∷ s.callers) (top (below s.run.operands)) (top s.run.operands) spares (a, anew)) Lies (λ ps c i w K. Now t heads ps c i w K (piece.BindNow ∷ todo) s.run.operands) lying (λ g m ps c i K fits is told e k o all x free. bound g m ps c i K fits is free x) h

    -- what is made is bound
    bind_made : (todo : List Todo) (vs : List Value) (w v : Value) → Spares Z s.env.exec (record s.run { control = todo } ∷ s.callers) w → Holding todo → StepBuilds t heads few kinds (Goes (at todo vs (in_env (written w v s.env) s)))
    bind_made todo vs w v spares h =
        changed (written w v s.env) (kept.written_binds w v s.env) todo vs (all_spared s.env refl refl (record s.run { control = todo } ∷ s.callers) w v spares (h.0, anew)) (λ g k c. Unit {0}) of_wait (all_lying t heads few kinds s.env.exec s.callers) (λ g m ps c i K e x told o p q all y free. absurd y) h.1

    pub bind : (r : Option Routine) (todo : List Todo) → ((q : Routine) → r ≡ Some q → Spares Z s.env.exec (record s.run { control = todo } ∷ s.callers) (top (drop q.params (below s.run.operands)))) → Holding todo → StepBuilds t heads few kinds (monitors.bind_step r todo s)
    bind None todo spares h = steps.stays t heads few kinds Z s life callers anew _ _ h
    bind (Some r) todo spares h = bind_made todo _ _ _ (spares r refl) h

    -- the object at hand gets an execution
    pub set_up : (r : Option Routine) (todo : List Todo) → Spares Z s.env.exec (record s.run { control = todo } ∷ s.callers) s.run.this → Calling Anew todo → With (λ ps c i w K. IsLed t c i × Behind t heads ps c i todo) → StepBuilds t heads few kinds (quiet.set_up_step r todo s)
    set_up None todo spares a h = goes todo _ (λ ps c i w K. IsLed t c i × Behind t heads ps c i todo) a (λ g m ps c i K e p o x. building.now t heads ps c i (variable s.env.exec g m) (Known t few s.env.exec K) todo s.run.operands x.1) h
    set_up (Some r) todo spares a h =
        changed env (kept.binds_both made.binds (kept.written_binds s.run.this v begun_env)) todo _ (all_spared begun_env made.binds.exec begun_frames (record s.run { control = todo } ∷ s.callers) s.run.this v spares (a, anew)) (λ g k c. Unit {0}) (λ ps c i w K. IsLed t c i × Behind t heads ps c i todo) (all_lying t heads few kinds s.env.exec s.callers) (λ g k ps c i K e x told o p q all y free. inr (building.now t heads ps c i (variable s.env.exec g k) (Known t few s.env.exec K) todo s.run.operands y.1, subst (λ u. IsFree (slice_index_or (frame_at g (written u v begun_env).frames) (address (FieldAt (t.shape c) i ∷ (Slot k ∷ []))) nought)) (sym o) (beside begun_env made.binds.exec begun_frames g (address (FieldAt (t.shape c) i ∷ (Slot k ∷ []))) (Slot k ∷ []) v (λ l same. apart k c i y.0 l same) free))) h
      where
        q : Home
        q = quiet.home_at s.run.this s.env

        v : Value
        v = piece.Running (sw.new_exec q s.env)

        begun_env : Env
        begun_env = sw.born q (quiet.fresh r s.run.this) s.env

        env : Env
        env = written s.run.this v begun_env

        made : Keeps s.env begun_env
        made = kept.born_keeps q (quiet.fresh r s.run.this) s.env

        begun_frames : begun_env.frames ≡ s.env.frames
        begun_frames = parked.change_frames q _ s.env

        apart : (k c i : ℕ) → IsLed t c i → spot t k c i < LAST_ADDRESS → spot t k c i ≡ address (Slot k ∷ []) → ⊥
        apart k c i led l same =
            let x : spot t k c i ≡ k + field_cells (t.shape c) i = spot_is t k c i l in
            let a : min (0 + k) LAST_ADDRESS ≤ 0 + k = min-le_left (0 + k) LAST_ADDRESS in
            omega (arith, x, a, same, led)

  -- calls

  -- those that wait, once one more does, with a new frame
  module _ (x : List Value) (todo : List Todo) (vs : List Value) (h : Holding todo) where
    abbrev waits : Active
    waits = record s.run { control = todo; operands = vs }

    fits : length s.callers ≤ length s.env.frames
    fits = let n = life.frames in omega (arith, n)

    frame_fits : s.run.frame < length s.env.frames
    frame_fits = let n = life.frames in let r = life.stack.0.frame in omega (arith, n, r)

    all_new : AllBuild t heads few kinds s.env.exec (x ∷ s.env.frames) (waits ∷ s.callers)
    all_new =
        let k = newer_all t heads few kinds Z s.env.exec x s.env.frames s.callers fits life.stack.1 in
        (builds_kept t heads few kinds s.env.exec s.env.frames (x ∷ s.env.frames) s.run.frame s.run.this s.callers (frame_newer x s.env.frames s.run.frame frame_fits) k h.1, all_kept t heads few kinds s.env.exec s.env.frames (x ∷ s.env.frames) s.callers k callers)

    anew_new : AllAnew t heads (x ∷ s.env.frames) (waits ∷ s.callers)
    anew_new = all_anew t heads s.env.frames (x ∷ s.env.frames) (waits ∷ s.callers) (loose_newer x s.env.frames s.run.frame frame_fits, newer_loosen t heads Z x s.env.frames s.callers fits life.stack.1) (h.0, anew)

  -- no scope of an object opens behind what is called
  none_built : (L : List Ty → ℕ → ℕ → Value → (Ty → Value → Type 0) → Type 0) (fs : List (List Value)) (f : ℕ) (this : Value) (b : Active) (older : List Active) → Awaits (λ c rest. IsPlain t c → ⊥) b.control → Builds t heads few kinds s.env.exec L fs f this (b ∷ older)
  none_built L fs f this b older h = awaits_more (λ c rest. IsPlain t c → ⊥) _ (λ c rest none k i d. absurd (none (k, i, d))) b.control h

  begun : (r : Routine) (this : Value) (counts : Bool) (todo : List Todo) (vs : List Value) → Holding todo → Builds t heads few kinds s.env.exec (λ ps c i w K. Now t heads ps c i w K (quiet.routine_todo r) []) (quiet.call_frame r s.run.operands ∷ s.env.frames) (length s.env.frames) this (record s.run { control = todo; operands = vs } ∷ s.callers) → StepBuilds t heads few kinds (quiet.begun_step r this counts todo vs s)
  begun r this counts todo vs h b = record {
    anew = (behind_calling (IsAnew t heads (quiet.call_frame r s.run.operands ∷ s.env.frames) (length s.env.frames)) r.purpose r.line, anew_new (quiet.call_frame r s.run.operands) todo vs h);
    run = b;
    callers = all_new (quiet.call_frame r s.run.operands) todo vs h;
  }

  pub call : (r : Option Routine) (todo : List Todo) → Awaits (λ c rest. IsPlain t c → ⊥) todo → Holding todo → StepBuilds t heads few kinds (quiet.call_step r todo s)
  call None todo n h = steps.stays t heads few kinds Z s life callers anew _ _ h
  call (Some r) todo n h =
      either (StepBuilds t heads few kinds) (nat_lt s.env.links.calls CALLS) _ _ (begun r _ true todo (drop r.params s.run.operands) h (none_built (λ ps c i w K. Now t heads ps c i w K (quiet.routine_todo r) []) (quiet.call_frame r s.run.operands ∷ s.env.frames) (length s.env.frames) piece.Nothing (record s.run { control = todo; operands = drop r.params s.run.operands }) s.callers n)) tt

  -- the handler of a resumption begins
  handles : (o : Option Found) (e : Event) (todo : List Todo) → Awaits (λ c rest. IsPlain t c → ⊥) (piece.DropNow ∷ todo) → Holding todo → StepBuilds t heads few kinds (raising.handle_step o e todo s)
  handles None e todo n h = steps.throws t heads few kinds Z s life callers anew e todo h
  handles (Some x) e todo n h = record {
    anew = (tt, anew_new [] (piece.DropNow ∷ todo) (below (below (below s.run.operands))) h);
    run = none_built _ ([] ∷ s.env.frames) _ _ (record s.run { control = piece.DropNow ∷ todo; operands = below (below (below s.run.operands)) }) s.callers n;
    callers = all_new [] (piece.DropNow ∷ todo) (below (below (below s.run.operands))) h;
  }

  pub raises : (e : Event) (todo : List Todo) → Awaits (λ c rest. IsPlain t c → ⊥) (piece.DropNow ∷ todo) → Holding todo → StepBuilds t heads few kinds (raising.raise_step e todo s)
  raises e todo n h = handles (raising.seek None e (record s.run { control = todo } ∷ s.callers)) e todo n h

  -- a constructor is called at the variable whose scope opens next
  module _ (source : Source) (r : ℕ) (q : Routine) (is : slice_get source.routines r ≡ Some q) where
    abbrev ps : List Ty
    ps = (t.routine r).params

    -- what is left to be bound as it begins; nothing is bound there yet
    lacks : (K : Value → Ty → Type 0) (g k c i : ℕ) → g < length s.env.frames → ((b : Ty) → t.fields c i ≡ Cell b → IsFree (slice_index_or (frame_at g s.env.frames) (address (FieldAt (t.shape c) i ∷ (Slot k ∷ []))) nought)) → InHead t heads ps c i q.body ⊎ IsUnbound t (t.fields c i) → Holds t few s.env.exec K (Frame s.env.exec g) (frame_at g (quiet.call_frame q s.run.operands ∷ s.env.frames)) (further (FieldAt (t.shape c) i) (variable s.env.exec g k)) (t.fields c i) ⊎ (Now t heads ps c i (variable s.env.exec g k) (Known t few s.env.exec K) (quiet.routine_todo q) [] × IsLoose (quiet.call_frame q s.run.operands ∷ s.env.frames) g (further (FieldAt (t.shape c) i) (variable s.env.exec g k)))
    lacks K g k c i within free (inl x) =
        let cell = head_cell t heads ps c i q.body x in
        inr (x, loose_newer (quiet.call_frame q s.run.operands) s.env.frames g within _ (free cell.0 cell.1))
    lacks K g k c i within free (inr x) = inl (building.unbound t heads few kinds s.env.exec (quiet.call_frame q s.run.operands ∷ s.env.frames) g _ K (t.fields c i) x)

    -- its parameters are known to what is at hand outwards of the scope to come
    module _ (c : CleanUp) (rest : List Todo) where
      frame_there : s.run.frame < length s.env.frames
      frame_there = let n = life.frames in let r = life.stack.0.frame in omega (arith, n, r)

      abbrev K : Value → Ty → Type 0
      K w a = AtScope t few kinds s.env.exec s.run.frame s.run.this s.callers c rest w a

      in_frame : (k : ℕ) (b : Ty) → Known t few s.env.exec K b (slice_index_or (quiet.call_frame q s.run.operands) k nought) → Known t few s.env.exec K b (slice_index_or (frame_at (length s.env.frames) (quiet.call_frame q s.run.operands ∷ s.env.frames)) k nought)
      in_frame k b h =
          subst (λ vs. Known t few s.env.exec K b (slice_index_or vs k nought)) (sym (newest_frame (quiet.call_frame q s.run.operands) s.env.frames)) h

      known_object : (k i : ℕ) → CleansAt t (Obj i) (src.Variable k) c → t.mutex i ≡ false → Known t few s.env.exec K (Obj i) (variable s.env.exec s.run.frame k)
      known_object k i d plain = record {
        is = subst (λ (b : Bool). IsObjectBy t b i (variable s.env.exec s.run.frame k)) (sym plain) tt;
        passes = tt;
        rooted = λ l. inr (variable s.env.exec s.run.frame k, i, inl (inl (inl (i, refl, (variable s.env.exec s.run.frame k, Obj i, inl (k, d, refl), itself)))), itself);
        held = λ m. absurd (cc);
        seated = λ i. absurd i;
      }

      begins : (k i : ℕ) → CleansAt t (Obj i) (src.Variable k) c → OfPlain Anew c → IsUnbound t (Obj i) ⊎ IsConstructed t heads few kinds source s r k i c rest → IsBuilt t heads few kinds s.env.exec (quiet.call_frame q s.run.operands ∷ s.env.frames) s.run.frame (variable s.env.exec s.run.frame k) i K ⊎ IsMaking t heads few kinds s.env.exec (λ ps c i w K. Now t heads ps c i w K (quiet.routine_todo q) []) (quiet.call_frame q s.run.operands ∷ s.env.frames) (length s.env.frames) (suc (length s.callers)) (top (drop q.params s.run.operands)) s.run.frame (variable s.env.exec s.run.frame k) i K
      begins k i d free (inl none) = inl (none_bound t heads few kinds s.env.exec (quiet.call_frame q s.run.operands ∷ s.env.frames) s.run.frame (variable s.env.exec s.run.frame k) K i none)
      begins k i d free (inr z) =
          inr (record {
            frame = life.frames;
            object = z.object q is;
            known_object = known_object k i d z.plain;
            params = ps;
            known = λ j b l. in_frame j b (z.given q is j b l);
            fields = λ j l told. lacks K s.run.frame k i j frame_there (λ b e. let y = plain_of t k i Anew c d free in y.2 i y.1 j l told b e) (z.makes q is j l told);
          })

    made : (todo : List Todo) (vs : List Value) → Awaited Anew todo → Constructs t heads few kinds source s r todo → Builds t heads few kinds s.env.exec (λ ps c i w K. Now t heads ps c i w K (quiet.routine_todo q) []) (quiet.call_frame q s.run.operands ∷ s.env.frames) (length s.env.frames) (top (drop q.params s.run.operands)) (record s.run { control = todo; operands = vs } ∷ s.callers)
    made (piece.DropNow ∷ (piece.Within line ∷ (piece.Rest (src.Scoped c ss) ∷ rest))) vs free h = λ k i d. begins c rest k i d free (h k i d)
    made todo vs free h = tt

  module _ (source : Source) (r : ℕ) (todo : List Todo) (h : Holding todo) (free : Awaited Anew todo) (build : Constructs t heads few kinds source s r todo) where
    pub call_on : (o : Option Routine) → slice_get source.routines r ≡ o → StepBuilds t heads few kinds (quiet.call_on_step o todo s)
    call_on None is = steps.stays t heads few kinds Z s life callers anew _ _ h
    call_on (Some q) is =
        either (StepBuilds t heads few kinds) (nat_lt s.env.links.calls CALLS) _ _ (begun q (top (drop q.params s.run.operands)) true todo (below (drop q.params s.run.operands)) h (made source r q is todo (below (drop q.params s.run.operands)) free build)) tt

    pub call_unwritten : (o : Option Routine) → slice_get source.routines r ≡ o → StepBuilds t heads few kinds (quiet.call_unwritten_step o todo s)
    call_unwritten None is = steps.stays t heads few kinds Z s life callers anew _ _ h
    call_unwritten (Some q) is =
        begun q (top (drop q.params s.run.operands)) false todo (below (drop q.params s.run.operands)) h (made source r q is todo (below (drop q.params s.run.operands)) free build)
