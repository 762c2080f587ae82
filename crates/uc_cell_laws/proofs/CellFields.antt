-- What own cells of mutex objects hold, of what is in hand, where cells are written and objects come to it.
use Rattle.std.proofs.Common.{◌≡◌, ℕ, ◌<◌, ◌++◌, inl, inr, true, List, [], ◌∷◌, replicate, Option, Some, None, refl, sym, subst}
use Rattle.std.specs.Prelude.{nat_eq, slice_index_or, if◌then◌else◌}
use Rattle.std.proofs.lemmas.Bool.{eqb-true}
use Rattle.uc_entry.specs.Keyed.{find}
use Rattle.uc_machine.specs.declared.exec.Exec.{Exec}
use Rattle.uc_machine.specs.declared.exec.Home.{Home}
use Rattle.uc_machine.specs.declared.exec.Home.TheVariants as home
use Rattle.uc_machine.specs.declared.exec.Owner.TheVariants.{Frame, Fields}
use Rattle.uc_machine.specs.Executions.{update, values_in, members_at, change, change_in, value_changed, list_in, at_depth, frames_in, parked_at}
use Rattle.uc_machine.specs.Switches as sw
use Rattle.uc_machine.specs.Pieces.{Link, Slot, Value, Place, Object, Env, Members, LAST_ADDRESS, address, loaded, nought, stored}
use Rattle.uc_typing.specs.Typing.{Cell, Obj}
use Rattle.uc_state_laws.proofs.ValueSteps.{exec_same}
use Rattle.uc_life_laws.specs.HomedStates.{Inside}
use Rattle.uc_life_laws.specs.LifeStates.{SlotBy}
use Rattle.uc_life_laws.proofs.Cells.{tested}
use Rattle.uc_life_laws.proofs.HomedCells.{either}
use Rattle.uc_life_laws.proofs.Parked as parked
use Rattle.uc_life_laws.proofs.Parked.{Ex}
use Rattle.uc_cell_laws.specs.Sites.{Telling}
use Rattle.uc_cell_laws.specs.CellTodos.{IsOwnPart}
use Rattle.uc_cell_laws.specs.CellStates.{IsOwnCell, IsOwnField, IsOwnCoroutine, IsCoroutineIn, first_cell, IsFree, IsAllowed, FieldCells, HandCells, AllCells, CellEx, FieldsOf, CellEnv}
use Rattle.uc_cell_laws.proofs.CellFrames.{cell_tested, zeros_hold, number_free, free_stored, number_allowed, allowed_stored, cells_at}
use Rattle.uc_cell_laws.proofs.CellPlaces.{MayWrite, Lies, inside_place, inside_within, object_place}

module _ (tg : Telling) where
  -- what is written, and what a new object holds

  pub fields_written : (o cell : ℕ) (w : Value) (vs : List Value) → ((x : List Link) (c : ℕ) → IsOwnField tg o x c → address x < LAST_ADDRESS → address x ≡ cell → IsFree tg (Place (Fields o) x) c w) → ((v : Value) (c : ℕ) → IsCoroutineIn tg o v c → first_cell v < LAST_ADDRESS → first_cell v ≡ cell → IsAllowed tg (Fields o) w) → FieldCells tg o vs → FieldCells tg o (value_changed cell (stored w) nought vs)
  fields_written o cell w vs f g h = (
    λ x c i l.
        cell_tested (IsFree tg (Place (Fields o) x) c) (stored w) vs (address x) cell (λ e b. free_stored tg (Place (Fields o) x) c w (slice_index_or vs (address x) nought) (f x c i l e) b) (h.0 x c i l),
    λ v c i l.
        cell_tested (IsAllowed tg (Fields o)) (stored w) vs (first_cell v) cell (λ e b. allowed_stored tg (Fields o) w (slice_index_or vs (first_cell v) nought) (g v c i l e) b) (h.1 v c i l),
  )

  pub fields_zero : (o k : ℕ) → FieldCells tg o (replicate k nought)
  fields_zero o k = (
    λ x c i l. zeros_hold (IsFree tg (Place (Fields o) x) c) (number_free tg (Place (Fields o) x) c _) k (address x),
    λ v c i l. zeros_hold (IsAllowed tg (Fields o)) (number_allowed tg (Fields o) _) k (first_cell v),
  )

  -- in hand

  pub found_fields : (o : ℕ) (hand : List (ℕ × Members)) → HandCells tg hand → FieldsOf tg o (find o hand)
  found_fields o [] h = tt
  found_fields o (p ∷ ps) h =
      tested (FieldsOf tg o) (nat_eq p.0 o) (Some p.1) (find o ps) (λ e. subst (λ k. FieldCells tg k p.1.values) (eqb-true p.0 o e) h.0) (λ e. found_fields o ps h.1)

  update_fields : (o : ℕ) (m : Members) (hand : List (ℕ × Members)) → FieldCells tg o m.values → HandCells tg hand → HandCells tg (update o m hand)
  update_fields o m [] f h = tt
  update_fields o m (p ∷ ps) f h = either (HandCells tg) (nat_eq p.0 o) ((o, m) ∷ ps) (p ∷ update o m ps) (f, h.1) (h.0, update_fields o m ps f h.1)

  pub more_fields : (hand : List (ℕ × Members)) (o : ℕ) (m : Members) → FieldCells tg o m.values → HandCells tg hand → HandCells tg (hand ++ (o, m) ∷ [])
  more_fields [] o m f h = (f, tt)
  more_fields (p ∷ hand) o m f h = (h.0, more_fields hand o m f h.1)

  -- changes of what is at home somewhere

  abbrev pub KeepsFields : Home → (Members → Members) → Type 0
  KeepsFields (home.Task t) f = Unit {0}
  KeepsFields (home.Object o) f = (m : Members) → FieldCells tg o m.values → FieldCells tg o (f m).values

  -- one that leaves all values
  pub same_values : (h : Home) (f : Members → Members) → ((m : Members) → (f m).values ≡ m.values) → KeepsFields h f
  same_values (home.Task t) f e = tt
  same_values (home.Object o) f e = λ m h. subst (FieldCells tg o) (sym (e m)) h

  change_hand : (h : Home) (f : Members → Members) (e : Env) → KeepsFields h f → HandCells tg e.hand → HandCells tg (change h f e).hand
  change_hand (home.Task t) f e k s = by (members_at (home.Task t) e)
    where
      by : (x : Option Members) → HandCells tg (change_in (home.Task t) f x e).hand
      by None = s
      by (Some m) = either (λ (d : Env). HandCells tg d.hand) (nat_eq t e.own) (record e { house = f m }) e s s
  change_hand (home.Object o) f e k s = by (find o e.hand) (found_fields o e.hand s)
    where
      by : (x : Option Members) → FieldsOf tg o x → HandCells tg (change_in (home.Object o) f x e).hand
      by None i = s
      by (Some m) i = update_fields o (f m) e.hand (k m i) s

  pub change_env : (h : Home) (f : Members → Members) (e : Env) → parked.KeepsParked (CellEx tg) h f → KeepsFields h f → CellEnv tg e → CellEnv tg (change h f e)
  change_env h f e k v s = record { rests = parked.change_rests (CellEx tg) h f e k s.rests; fields = change_hand h f e v s.fields }

  pub slot_env : (n : Exec) (o : Option Ex) (e : Env) → SlotBy (CellEx tg) n o → CellEnv tg e → CellEnv tg (sw.set_slot n o e)
  slot_env n o e r s = record { rests = parked.slot_rests (CellEx tg) n o e r s.rests; fields = change_hand n.home (sw.slot_set n.serial o) e (same_values n.home (sw.slot_set n.serial o) (λ m. refl)) s.fields }

  -- what is read

  values_free : (o : ℕ) (m : Option Members) → FieldsOf tg o m → FieldCells tg o (values_in m)
  values_free o None h = (λ x c i l. number_free tg (Place (Fields o) x) c _, λ v c i l. number_allowed tg (Fields o) _)
  values_free o (Some m) h = h

  pub field_read : (e : Env) → CellEnv tg e → (o : ℕ) (x : List Link) (c : ℕ) → IsOwnField tg o x c → address x < LAST_ADDRESS → IsFree tg (Place (Fields o) x) c (loaded (Place (Fields o) x) e)
  field_read e s o x c i l = (values_free o (find o e.hand) (found_fields o e.hand s.fields)).0 x c i l

  -- what the first cell of an own coroutine holds
  pub first_read : (e : Env) → CellEnv tg e → (o : ℕ) (v : Value) (c : ℕ) → IsCoroutineIn tg o v c → first_cell v < LAST_ADDRESS → IsAllowed tg (Fields o) (slice_index_or (values_in (find o e.hand)) (first_cell v) nought)
  first_read e s o v c i l = (values_free o (find o e.hand) (found_fields o e.hand s.fields)).1 v c i l

  pub coroutine_read : (e : Env) (rs : List ℕ) → AllCells tg e.exec rs e.frames → (d r : ℕ) → at_depth rs d ≡ Some r → (x : List Link) (c : ℕ) → IsOwnCoroutine tg r (Frame e.exec d) (Place (Frame e.exec d) x) c → address x < LAST_ADDRESS → IsAllowed tg (Frame e.exec d) (loaded (Place (Frame e.exec d) x) e)
  coroutine_read e rs h d r at x c i l =
      subst (λ b. IsAllowed tg (Frame e.exec d) (slice_index_or (list_in (at_depth (if b then e.frames else frames_in (parked_at e.exec e)) d)) (address x) nought)) (sym (exec_same e.exec)) ((cells_at tg e.exec d r rs e.frames at h).1 (Place (Frame e.exec d) x) c i l)

  pub cell_read : (e : Env) (rs : List ℕ) → AllCells tg e.exec rs e.frames → (d r : ℕ) → at_depth rs d ≡ Some r → (x : List Link) (c : ℕ) → IsOwnCell tg r (Frame e.exec d) x c → address x < LAST_ADDRESS → IsFree tg (Place (Frame e.exec d) x) c (loaded (Place (Frame e.exec d) x) e)
  cell_read e rs h d r at x c i l =
      subst (λ b. IsFree tg (Place (Frame e.exec d) x) c (slice_index_or (list_in (at_depth (if b then e.frames else frames_in (parked_at e.exec e)) d)) (address x) nought)) (sym (exec_same e.exec)) ((cells_at tg e.exec d r rs e.frames at h).0 x c i l)

  -- so is what is loaded from an own part
  pub part_read : (may : MayWrite tg) (e : Env) (rs : List ℕ) (level : ℕ) → AllCells tg e.exec rs e.frames → CellEnv tg e → (v : Value) (c : ℕ) → tg.table.mutex c ≡ true → Lies tg e.exec rs level v (Cell (Obj c)) → IsFree tg v c (loaded v e)
  part_read may e rs level h s v c mutex (inl k) =
      let x = object_place tg v (Obj c) k in
      let own : IsOwnField tg k.number x.0 c = (k.class, mutex, k.told, k.mutex, subst (λ u. Inside tg.table tg.owns (Object k.number) (Obj k.class) u (Cell (Obj c))) x.1 k.inside) in
      let low = may.low_field k.number k.class x.0 (Obj c) (inside_within tg.table tg.owns own.4) k.mutex in
      subst (λ u. IsFree tg u c (loaded u e)) (sym x.1) (field_read e s k.number x.0 c own low)
  part_read may e rs level h s v c mutex (inr k) =
      let part = k.4 in
      let x = inside_place tg.table tg.owns (Frame e.exec k.0) (Slot part.cell ∷ []) part.inside in
      let own : IsOwnCell tg k.1 (Frame e.exec k.0) x.0 c = (mutex, subst (λ u. IsOwnPart tg.table tg.owns tg.source k.1 (Frame e.exec k.0) u (Cell (Obj c))) x.1 part) in
      subst (λ u. IsFree tg u c (loaded u e)) (sym x.1) (cell_read e rs h k.0 k.1 k.3 x.0 c own (may.low k.1 (Frame e.exec k.0) x.0 c own))
