-- What cells of mutex objects in hand hold, where members, executions and who runs change.
use Rattle.std.proofs.Common.{◌≡◌, ℕ, ℤ, zero, suc, ◌++◌, true, false, List, [], ◌∷◌, replicate, Option, Some, None, refl, sym, subst}
use Rattle.std.specs.Prelude.{pos, nat_eq, slice_index_or}
use Rattle.std.proofs.lemmas.Bool.{eqb-true}
use Rattle.uc_tree.specs.declared.limits.TheConstants.{UNHANDLED}
use Rattle.uc_entry.specs.Keyed.{find}
use Rattle.uc_entry.specs.declared.fault.RunFault.TheVariants.{ResumeInUse, SwitchInUnwind}
use Rattle.uc_machine.specs.declared.exec.Exec.{Exec}
use Rattle.uc_machine.specs.declared.exec.Home.{Home}
use Rattle.uc_machine.specs.declared.exec.Home.TheVariants as home
use Rattle.uc_machine.specs.declared.exec.Owner.TheVariants.{Frame, Fields}
use Rattle.uc_machine.specs.declared.exec.Stage.{Stage}
use Rattle.uc_machine.specs.declared.exec.Stage.TheVariants.{Fresh, Started, Ended}
use Rattle.uc_machine.specs.declared.exec.UnwindReason.TheVariants as reason
use Rattle.uc_machine.specs.Executions.{Links, Execution, exec_eq, update, joined, members_at, change, change_in, parked_at, frames_by, frames_changed, frame_changed, with_owned, with_frames, value_changed, values_in}
use Rattle.uc_machine.specs.Switches as sw
use Rattle.uc_machine.specs.Switches.{Moved, To, Stops}
use Rattle.uc_machine.specs.Pieces.{Value, Number, Place, Running, Object, Nothing, Todo, State, Env, Members, address, nought, stored, written}
use Rattle.uc_state_laws.proofs.Cells.{either, tested}
use Rattle.uc_lent_laws.specs.LentStates.{MayHold, ValuesTold, MembersTold, HandTold, MayBind}

abbrev Ex : Type 0
Ex = Execution (List Todo) Value

-- of a cell that is written, and of all others
cell_written : (P : ℕ → Value → Type 0) (f : Value → Value) (vs : List Value) (k : ℕ) → (P k (slice_index_or vs k nought) → P k (f (slice_index_or vs k nought))) → ((i : ℕ) → P i (slice_index_or vs i nought)) → (i : ℕ) → P i (slice_index_or (value_changed k f nought vs) i nought)
cell_written P f [] k g h i = h i
cell_written P f (x ∷ vs) zero g h zero = g (h zero)
cell_written P f (x ∷ vs) zero g h (suc i) = h (suc i)
cell_written P f (x ∷ vs) (suc k) g h zero = h zero
cell_written P f (x ∷ vs) (suc k) g h (suc i) = cell_written (λ n v. P (suc n) v) f vs k g (λ n. h (suc n)) i

-- so many numbers
zeros_hold : (P : Value → Type 0) → P nought → (n k : ℕ) → P (slice_index_or (replicate n nought) k nought)
zeros_hold P z zero k = z
zeros_hold P z (suc n) zero = z
zeros_hold P z (suc n) (suc k) = zeros_hold P z n k

module _ (T : ℕ → ℕ → Value → Type 0) where
  stored_told : (o k : ℕ) (w x : Value) → MayHold T o k w → MayHold T o k x → MayHold T o k (stored w x)
  stored_told o k w (Number z) a b = a
  stored_told o k w (Place u p) a b = b
  stored_told o k w (Running e) a b = b
  stored_told o k w (Object q) a b = b
  stored_told o k w Nothing a b = a

  values_written : (o k : ℕ) (w : Value) (vs : List Value) → MayHold T o k w → ValuesTold T o vs → ValuesTold T o (value_changed k (stored w) nought vs)
  values_written o k w vs a h =
      cell_written (MayHold T o) (stored w) vs k (λ b. stored_told o k w (slice_index_or vs k nought) a b) h

  pub values_zero : (o n : ℕ) → ValuesTold T o (replicate n nought)
  values_zero o n = λ k. zeros_hold (MayHold T o k) tt n k

  -- in hand

  pub found_told : (o : ℕ) (hand : List (ℕ × Members)) → HandTold T hand → MembersTold T o (find o hand)
  found_told o [] h = tt
  found_told o (p ∷ ps) h =
      tested (MembersTold T o) (nat_eq p.0 o) (Some p.1) (find o ps) (λ e. subst (λ k. ValuesTold T k p.1.values) (eqb-true p.0 o e) h.0) (λ e. found_told o ps h.1)

  update_told : (o : ℕ) (m : Members) (hand : List (ℕ × Members)) → ValuesTold T o m.values → HandTold T hand → HandTold T (update o m hand)
  update_told o m [] f h = tt
  update_told o m (p ∷ ps) f h = either (HandTold T) (nat_eq p.0 o) ((o, m) ∷ ps) (p ∷ update o m ps) (f, h.1) (h.0, update_told o m ps f h.1)

  pub more_told : (hand : List (ℕ × Members)) (o : ℕ) (m : Members) → ValuesTold T o m.values → HandTold T hand → HandTold T (hand ++ (o, m) ∷ [])
  more_told [] o m f h = (f, tt)
  more_told (p ∷ hand) o m f h = (h.0, more_told hand o m f h.1)

  -- what is read is told
  pub values_told : (o : ℕ) (m : Option Members) → MembersTold T o m → ValuesTold T o (values_in m)
  values_told o None h = λ k. tt
  values_told o (Some m) h = h

  -- changes of what is at home somewhere

  abbrev pub Told : Env → Type 0
  Told e = HandTold T e.hand

  abbrev KeepsValues : Home → (Members → Members) → Type 0
  KeepsValues (home.Task t) f = Unit {0}
  KeepsValues (home.Object o) f = (m : Members) → ValuesTold T o m.values → ValuesTold T o (f m).values

  -- one that leaves all values
  same_values : (h : Home) (f : Members → Members) → ((m : Members) → (f m).values ≡ m.values) → KeepsValues h f
  same_values (home.Task t) f e = tt
  same_values (home.Object o) f e = λ m h. subst (ValuesTold T o) (sym (e m)) h

  change_told : (h : Home) (f : Members → Members) (e : Env) → KeepsValues h f → Told e → Told (change h f e)
  change_told (home.Task t) f e k s = by (members_at (home.Task t) e)
    where
      by : (x : Option Members) → Told (change_in (home.Task t) f x e)
      by None = s
      by (Some m) = either Told (nat_eq t e.own) (record e { house = f m }) e s s
  change_told (home.Object o) f e k s = by (find o e.hand) (found_told o e.hand s)
    where
      by : (x : Option Members) → MembersTold T o x → Told (change_in (home.Object o) f x e)
      by None i = s
      by (Some m) i = update_told o (f m) e.hand (k m i) s

  kept : (h : Home) (f : Members → Members) (e : Env) → ((m : Members) → (f m).values ≡ m.values) → Told e → Told (change h f e)
  kept h f e same d = change_told h f e (same_values h f same) d

  frames_same : (k : ℕ) (f : List (List Value) → List (List Value)) (o : Option Ex) (m : Members) → (frames_by k f o m).values ≡ m.values
  frames_same k f None m = refl
  frames_same k f (Some x) m = refl

  links_same : (g : Links → Links) (k : ℕ) (o : Option Ex) (m : Members) → (sw.links_by g k o m).values ≡ m.values
  links_same g k None m = refl
  links_same g k (Some x) m = refl

  with_frames_told : (n : Exec) (f : List (List Value) → List (List Value)) (e : Env) → Told e → Told (with_frames n f e)
  with_frames_told n f e d =
      either Told (exec_eq n e.exec) (record e { frames = f e.frames }) (change n.home (frames_changed n.serial f) e) d (kept n.home (frames_changed n.serial f) e (λ m. frames_same n.serial f (joined (find n.serial m.parked)) m) d)

  -- in a frame anything may start anew
  pub anew_told : (n : Exec) (g : ℕ) (f : List Value → List Value) (e : Env) → Told e → Told (with_owned (Frame n g) f e)
  anew_told n g f e d = with_frames_told n (frame_changed g f) e d

  pub written_told : (v w : Value) (e : Env) → MayBind T v w → Told e → Told (written v w e)
  written_told (Number n) w e b d = d
  written_told (Place (Frame n g) p) w e b d = anew_told n g (value_changed (address p) (stored w) nought) e d
  written_told (Place (Fields o) p) w e b d = change_told (home.Object o) _ e (λ m h. values_written o (address p) w m.values b h) d
  written_told (Running x) w e b d = d
  written_told (Object o) w e b d = change_told (home.Object o) _ e (λ m h. values_written o 0 w m.values b h) d
  written_told Nothing w e b d = d

  -- numbers may be written anywhere, and so may names of executions
  pub number_bound : (v : Value) (n : ℤ) → MayBind T v (Number n)
  number_bound (Number z) n = tt
  number_bound (Place (Frame m d) p) n = tt
  number_bound (Place (Fields o) p) n = tt
  number_bound (Running x) n = tt
  number_bound (Object o) n = tt
  number_bound Nothing n = tt

  pub running_bound : (v : Value) (x : Exec) → MayBind T v (Running x)
  running_bound (Number z) x = tt
  running_bound (Place (Frame m d) p) x = tt
  running_bound (Place (Fields o) p) x = tt
  running_bound (Running y) x = tt
  running_bound (Object o) x = tt
  running_bound Nothing x = tt

  -- executions are made and go, and their links change

  pub born_told : (h : Home) (x : Ex) (e : Env) → Told e → Told (sw.born h x e)
  born_told h x e d = kept h (sw.one_more x) e (λ m. refl) d

  pub forgotten_told : (o : Option Exec) (e : Env) → Told e → Told (sw.forgotten o e)
  forgotten_told None e d = d
  forgotten_told (Some n) e d = kept n.home (sw.slot_gone n.serial) e (λ m. refl) d

  pub with_links_told : (g : Links → Links) (n : Exec) (e : Env) → Told e → Told (sw.with_links g n e)
  with_links_told g n e d =
      either Told (exec_eq n e.exec) (record e { links = g e.links }) (change n.home (sw.links_changed g n.serial) e) d (kept n.home (sw.links_changed g n.serial) e (λ m. links_same g n.serial (joined (find n.serial m.parked)) m) d)

  pub enlivened_told : (o : Option Exec) (e : Env) → Told e → Told (sw.enlivened o e)
  enlivened_told None e d = d
  enlivened_told (Some n) e d = with_links_told (λ l. record l { live = true }) n e d

  slot_told : (n : Exec) (o : Option Ex) (e : Env) → Told e → Told (sw.set_slot n o e)
  slot_told n o e d = kept n.home (sw.slot_set n.serial o) e (λ m. refl) d

  -- switches

  abbrev pub MovedTold : Moved (List Todo) Value → Type 0
  MovedTold (To s) = Told s.env
  MovedTold (Stops f) = Unit {0}

  switched_told : (n : Exec) (x : Ex) (s : State) → Told s.env → Told (sw.switched n x s).env
  switched_told n x s d = slot_told s.env.exec (Some (sw.stopped s)) (sw.set_slot n None s.env) (slot_told n None s.env d)

  go_on_told : (o : Option (Exec × Ex)) (s : State) → Told s.env → MovedTold (sw.go_on o s)
  go_on_told None s d = tt
  go_on_told (Some p) s d = switched_told p.0 p.1 s d

  wake_stage : (g : Stage) (n : Exec) (x : Ex) (s : State) → Told s.env → MovedTold (sw.wake_at g n x s)
  wake_stage Fresh n x s d = switched_told n (record x { links = sw.woken s.env.exec x.links }) s d
  wake_stage Started n x s d = switched_told n (record x { links = sw.woken s.env.exec x.links }) s d
  wake_stage Ended n x s d = tt

  wake_slot : (n : Exec) (o : Option Ex) (s : State) → Told s.env → MovedTold (sw.wake_by n o s)
  wake_slot n None s d = tt
  wake_slot n (Some x) s d = wake_stage x.links.stage n x s d

  wake_named : (o : Option Exec) (s : State) → Told s.env → MovedTold (sw.wake_one o s)
  wake_named None s d = tt
  wake_named (Some n) s d =
      either MovedTold (exec_eq n s.env.exec) (Stops ResumeInUse) (sw.wake_by n (parked_at n s.env) s) tt (wake_slot n (parked_at n s.env) s d)

  pub wake_told : (o : Option Exec) (s : State) → Told s.env → MovedTold (sw.wake o s)
  wake_told o s d = either MovedTold (sw.in_destruction s.env) (Stops SwitchInUnwind) (sw.wake_one o s) tt (wake_named o s d)

  pub suspend_told : (s : State) → Told s.env → MovedTold (sw.suspend s)
  suspend_told s d =
      either MovedTold (sw.in_destruction s.env) (Stops SwitchInUnwind) (sw.go_on (sw.able s.env.links.resumer s.env) s) tt (go_on_told (sw.able s.env.links.resumer s.env) s d)

  pub finish_told : (s : State) → Told s.env → MovedTold (sw.finish s)
  finish_told s d =
      go_on_told (sw.or_else (sw.able s.env.links.starter s.env) (sw.able s.env.links.resumer s.env)) (sw.ended s) d

  throw_told : (o : Option (Exec × Ex)) (s : State) → Told s.env → MovedTold (sw.throw_at o s)
  throw_told None s d = tt
  throw_told (Some p) s d = switched_told p.0 (sw.unwound_there (reason.Event UNHANDLED (pos 0) (pos 0)) p.1) s d

  pub escape_told : (s : State) → Told s.env → MovedTold (sw.escape s)
  escape_told s d = throw_told (sw.able s.env.links.resumer s.env) (sw.ended s) d

  pub taken_down_told : (s : State) → Told s.env → MovedTold (sw.taken_down s)
  taken_down_told s d = go_on_told (sw.able s.env.links.destroyer s.env) (sw.ended s) d

  over_told : (n : Exec) (s : State) → Told s.env → Told (sw.over n s).env
  over_told n s d = with_links_told (λ l. record l { live = false; stage = Ended }) n s.env d

  take_down_stage : (g : Stage) (n : Exec) (x : Ex) (s : State) → Told s.env → MovedTold (sw.take_down_at g n x s)
  take_down_stage Fresh n x s d = over_told n s d
  take_down_stage Started n x s d =
      switched_told n (sw.unwound_there reason.Destroyed (record x { links = record x.links { live = false; destroyer = Some s.env.exec } })) s d
  take_down_stage Ended n x s d = over_told n s d

  take_down_slot : (n : Exec) (o : Option Ex) (s : State) → Told s.env → MovedTold (sw.take_down_by n o s)
  take_down_slot n None s d = d
  take_down_slot n (Some x) s d = take_down_stage x.links.stage n x s d

  pub take_down_told : (o : Option Exec) (s : State) → Told s.env → MovedTold (sw.take_down o s)
  take_down_told None s d = d
  take_down_told (Some n) s d = take_down_slot n (parked_at n s.env) s d
