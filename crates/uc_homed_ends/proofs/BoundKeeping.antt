-- What holds of variables that are mutex objects goes on to hold where members, executions and who runs change.
use Rattle.std.proofs.Common.{◌≡◌, ℕ, ℤ, ◌<◌, Bool, [], length, ap, ◌∙◌, true, false, List, ◌∷◌, Option, Some, None, refl, sym, subst}
use Rattle.std.specs.Prelude.{slice_index_or, if◌then◌else◌}
use Rattle.uc_tree.specs.Source.{Source}
use Rattle.uc_entry.specs.declared.fault.RunFault.TheVariants.{ResumeInUse, SwitchInUnwind}
use Rattle.uc_entry.specs.Keyed.{find}
use Rattle.uc_machine.specs.declared.exec.Exec.{Exec}
use Rattle.uc_machine.specs.declared.exec.Home.{Home}
use Rattle.uc_machine.specs.declared.exec.Home.TheVariants as home
use Rattle.uc_machine.specs.declared.exec.Owner.{Owner}
use Rattle.uc_machine.specs.declared.exec.Owner.TheVariants.{Frame, Fields}
use Rattle.uc_machine.specs.declared.exec.Stage.{Stage}
use Rattle.uc_machine.specs.declared.exec.Stage.TheVariants.{Fresh, Started, Ended}
use Rattle.uc_machine.specs.Executions.{Links, exec_eq, joined, change, parked_at, frames_by, frames_changed, frame_changed, value_changed, with_owned, with_frames, at_depth, list_in}
use Rattle.uc_machine.specs.Switches as sw
use Rattle.uc_machine.specs.Switches.{Moved, To, Stops}
use Rattle.uc_machine.specs.Pieces.{Slot, Value, Number, Place, Running, Object, Nothing, LAST_ADDRESS, Todo, Active, State, Env, Members, address, stored, nought, written}
use Rattle.uc_typing.specs.States.{IsNumbered}
use Rattle.uc_state_laws.specs.Declaring.{IsCount}
use Rattle.uc_state_laws.specs.There.{HoldsObject, Pends}
use Rattle.uc_state_laws.specs.ThereStates.{StackAside, InFrame, Aside}
use Rattle.uc_life_laws.specs.LifeStates.{frame_at, SlotBy, ParkedBy}
use Rattle.uc_state_laws.proofs.Cells.{set_at}
use Rattle.uc_life_laws.proofs.HomedCells.{either, set_length}
use Rattle.uc_life_laws.proofs.Parked as parked
use Rattle.uc_life_laws.proofs.Parked.{Ex, at_home}
use Rattle.uc_life_laws.specs.Things.{Few}
use Rattle.uc_putting_laws.specs.Putting.{IsHome}
use Rattle.uc_homed_ends.specs.BoundHomes.{AllUnbound, AtCall, IsUnset, BoundStack, BoundThere, BoundBy, BoundEx, BoundEnv, BoundState}
use Rattle.uc_homed_ends.proofs.BoundCells.{cell_either, stack_number, list_number, stack_aside, list_aside, call_list_aside}

module _ (few : Few) where
  pub like : {e f : Env} → BoundEnv few e → f.hand ≡ e.hand → f.house ≡ e.house → f.own ≡ e.own → BoundEnv few f
  like s h g o = parked.like (BoundEx few) s h g o

  -- a task changes, but who runs stays, what is in scope there keeps what it holds, and so do all executions that do not run
  pub record Keeps (e f : Env) : Type 0 where
    pub exec : f.exec ≡ e.exec
    pub frames : length f.frames ≡ length e.frames
    pub list : (d : ℕ) (todo : List Todo) → AllUnbound (IsUnset (frame_at d e.frames)) todo → AllUnbound (IsUnset (frame_at d f.frames)) todo
    pub stack : (v : Value) (cs : List Active) → BoundStack few e.exec e.frames v cs → BoundStack few e.exec f.frames v cs
    pub env : BoundEnv few f

  pub keeps_both : {e f g : Env} → Keeps e f → Keeps f g → Keeps e g
  keeps_both {e} {f} {g} h k = record {
    exec = k.exec ∙ h.exec;
    frames = k.frames ∙ h.frames;
    list = λ d todo x. k.list d todo (h.list d todo x);
    stack = λ v cs x. subst (λ n. BoundStack few n g.frames v cs) h.exec (k.stack v cs (subst (λ n. BoundStack few n f.frames v cs) (sym h.exec) (h.stack v cs x)));
    env = k.env;
  }

  -- with the same frames
  keeps_frames : {e f : Env} → f.exec ≡ e.exec → f.frames ≡ e.frames → BoundEnv few f → Keeps e f
  keeps_frames {e} {f} x q h = record {
    exec = x;
    frames = ap length q;
    list = λ d todo y. subst (λ fs. AllUnbound (IsUnset (frame_at d fs)) todo) (sym q) y;
    stack = λ v cs y. subst (λ fs. BoundStack few e.exec fs v cs) (sym q) y;
    env = h;
  }

  pub keeps_like : {e f : Env} → BoundEnv few e → f.exec ≡ e.exec → f.frames ≡ e.frames → f.hand ≡ e.hand → f.house ≡ e.house → f.own ≡ e.own → Keeps e f
  keeps_like s x q h g o = keeps_frames x q (like s h g o)

  keeps_change : (h : Home) (f : Members → Members) (e : Env) → parked.KeepsParked (BoundEx few) h f → BoundEnv few e → Keeps e (change h f e)
  keeps_change h f e k s = keeps_frames (parked.change_exec h f e) (parked.change_frames h f e) (parked.change_rests (BoundEx few) h f e k s)

  -- writes

  abbrev KeepsLists : List (List Value) → List (List Value) → Type 0
  KeepsLists fs gs = (d : ℕ) (todo : List Todo) → AllUnbound (IsUnset (frame_at d fs)) todo → AllUnbound (IsUnset (frame_at d gs)) todo

  abbrev KeepsFrames : (List (List Value) → List (List Value)) → Type 0
  KeepsFrames f = (n : Exec) (fs : List (List Value)) → (length (f fs) ≡ length fs) × KeepsLists fs (f fs) × ((v : Value) (cs : List Active) → BoundStack few n fs v cs → BoundStack few n (f fs) v cs)

  framed : (f : List (List Value) → List (List Value)) → KeepsFrames f → (g : Stage) (n : Exec) (x : Ex) → BoundBy few g n x → BoundBy few g n (record x { frames = f x.frames })
  framed f same Fresh n x r = record {
    frames = (same n x.frames).0 ∙ r.frames;
    frame = r.frame;
    run = (same n x.frames).1 x.run.frame x.run.control r.run;
    callers = (same n x.frames).2 x.run.this x.callers r.callers;
  }
  framed f same Started n x r = record {
    frames = (same n x.frames).0 ∙ r.frames;
    frame = r.frame;
    run = (same n x.frames).1 x.run.frame x.run.control r.run;
    callers = (same n x.frames).2 x.run.this x.callers r.callers;
  }
  framed f same Ended n x r = tt

  frames_kept : (h : Home) (n : ℕ) (f : List (List Value) → List (List Value)) (o : Option Ex) (m : Members) → KeepsFrames f → SlotBy (BoundEx few) (at_home h n) o → ParkedBy (BoundEx few) h m.parked → ParkedBy (BoundEx few) h (frames_by n f o m).parked
  frames_kept h n f None m same r s = s
  frames_kept h n f (Some x) m same r s =
      parked.update_parked (BoundEx few) h n (Some (record x { frames = f x.frames })) m.parked (framed f same x.links.stage (at_home h n) x r) s

  with_frames_keeps : (n : Exec) (f : List (List Value) → List (List Value)) (e : Env) → KeepsFrames f → BoundEnv few e → Keeps e (with_frames n f e)
  with_frames_keeps n f e same s =
      either (Keeps e) (exec_eq n e.exec) (record e { frames = f e.frames }) (change n.home (frames_changed n.serial f) e) (record { exec = refl; frames = (same e.exec e.frames).0; list = (same e.exec e.frames).1; stack = (same e.exec e.frames).2; env = like s refl refl refl }) (keeps_change n.home (frames_changed n.serial f) e (λ m h. frames_kept n.home n.serial f (joined (find n.serial m.parked)) m same (parked.found_parked (BoundEx few) n.home n.serial m.parked h) h) s)

  number_keeps : (o : Owner) (k : ℕ) (z : ℤ) (e : Env) → BoundEnv few e → Keeps e (with_owned o (value_changed k (stored (Number z)) nought) e)
  number_keeps (Frame n d) k z e s =
      with_frames_keeps n (frame_changed d (value_changed k (stored (Number z)) nought)) e (λ n fs. (set_length fs d (value_changed k (stored (Number z)) nought (list_in (at_depth fs d))), (λ f todo h. list_number few n d k z fs f todo h), λ v cs h. stack_number few n d k z fs v cs h)) s
  number_keeps (Fields o) k z e s = keeps_change (home.Object o) _ e (λ m h. h) s

  -- a number is written anywhere
  pub written_number : (v : Value) (z : ℤ) (e : Env) → BoundEnv few e → Keeps e (written v (Number z) e)
  written_number (Number n) z e s = keeps_like s refl refl refl refl refl
  written_number (Place o p) z e s = number_keeps o (address p) z e s
  written_number (Running x) z e s = keeps_like s refl refl refl refl refl
  written_number (Object o) z e s = number_keeps (Fields o) 0 z e s
  written_number Nothing z e s = keeps_like s refl refl refl refl refl

  -- a value w is written, for an activation that runs with this to do and those that wait; a variable of its frame that held a number, and holds an object
  -- then, holds that
  pub record KeepsAt (w : Value) (d : ℕ) (todo : List Todo) (cs : List Active) (e f : Env) : Type 0 where
    pub exec : f.exec ≡ e.exec
    pub frames : length f.frames ≡ length e.frames
    pub stack : (u : Value) → BoundStack few e.exec e.frames u cs → BoundStack few e.exec f.frames u cs
    pub list : AllUnbound (IsUnset (frame_at d e.frames)) todo → AllUnbound (IsUnset (frame_at d f.frames)) todo
    pub call : (x : ℕ) → AtCall (IsUnset (frame_at d e.frames)) x (IsUnset (frame_at d e.frames)) todo → AtCall (IsUnset (frame_at d f.frames)) x (IsUnset (frame_at d e.frames)) todo
    pub told : (k : ℕ) → IsUnset (frame_at d e.frames) k → IsHome few w (Place (Frame e.exec d) (Slot k ∷ [])) → k < LAST_ADDRESS → HoldsObject (frame_at d f.frames) (Slot k ∷ []) →
        IsHome few (slice_index_or (frame_at d f.frames) (address (Slot k ∷ [])) nought) (Place (Frame e.exec d) (Slot k ∷ [])) × (slice_index_or (frame_at d f.frames) (address (Slot k ∷ [])) nought ≡ w)
    pub env : BoundEnv few f

  -- what held a number holds no object, and what is stored there then does
  abbrev Told : Value → Value → Value → Type 0
  Told w q y = IsNumbered y → IsHome few y q × (y ≡ w)

  told_count : (w q x : Value) → IsCount x → IsHome few w q → Told w q x × Told w q (stored w x)
  told_count w q (Number z) h g = ((λ b. absurd b), (λ b. (g, refl)))
  told_count w q (Place o p) h g = absurd h
  told_count w q (Running x) h g = absurd h
  told_count w q (Object o) h g = absurd h
  told_count w q Nothing h g = absurd h

  at_frames : {e f : Env} (w : Value) (d : ℕ) (todo : List Todo) (cs : List Active) → f.exec ≡ e.exec → f.frames ≡ e.frames → BoundEnv few f → KeepsAt w d todo cs e f
  at_frames {e} {f} w d todo cs x q h = record {
    exec = x;
    frames = ap length q;
    stack = λ u y. subst (λ fs. BoundStack few e.exec fs u cs) (sym q) y;
    list = λ y. subst (λ fs. AllUnbound (IsUnset (frame_at d fs)) todo) (sym q) y;
    call = λ r y. subst (λ fs. AtCall (IsUnset (frame_at d fs)) r (IsUnset (frame_at d e.frames)) todo) (sym q) y;
    told = λ k u g l o. subst (λ fs. Told w (Place (Frame e.exec d) (Slot k ∷ [])) (slice_index_or (frame_at d fs) (address (Slot k ∷ [])) nought)) (sym q) (told_count w (Place (Frame e.exec d) (Slot k ∷ [])) (slice_index_or (frame_at d e.frames) (address (Slot k ∷ [])) nought) (u l) g).0 o;
    env = h;
  }

  fields_at : (o k : ℕ) (w : Value) (d : ℕ) (todo : List Todo) (cs : List Active) (e : Env) → BoundEnv few e → KeepsAt w d todo cs e (with_owned (Fields o) (value_changed k (stored w) nought) e)
  fields_at o k w d todo cs e s = at_frames w d todo cs (parked.change_exec (home.Object o) _ e) (parked.change_frames (home.Object o) _ e) (parked.change_rests (BoundEx few) (home.Object o) _ e (λ m h. h) s)

  frame_at_aside : (n : Exec) (x k : ℕ) (w : Value) (d : ℕ) (todo : List Todo) (cs : List Active) (e : Env) → exec_eq n e.exec ≡ true → (d ≡ x → Pends (λ p. address p ≡ k → ⊥) todo) → StackAside k x cs → BoundEnv few e → KeepsAt w d todo cs e (with_owned (Frame n x) (value_changed k (stored w) nought) e)
  frame_at_aside n x k w d todo cs e own q a s =
      subst (λ (b : Bool). KeepsAt w d todo cs e (if b then record e { frames = frame_changed x (value_changed k (stored w) nought) e.frames } else change n.home (frames_changed n.serial (frame_changed x (value_changed k (stored w) nought))) e)) (sym own) (record {
        exec = refl;
        frames = set_length e.frames x (value_changed k (stored w) nought (list_in (at_depth e.frames x)));
        stack = λ u h. stack_aside few e.exec x k w e.frames u cs a h;
        list = λ h. list_aside few e.exec x k w e.frames d todo q h;
        call = λ r h. call_list_aside few e.exec (IsUnset (frame_at d e.frames)) r x k w e.frames d todo q h;
        told = λ i u g l o. told i u g l o;
        env = like s refl refl refl;
      })
    where
      told : (i : ℕ) → IsUnset (frame_at d e.frames) i → IsHome few w (Place (Frame e.exec d) (Slot i ∷ [])) → i < LAST_ADDRESS → HoldsObject (frame_at d (frame_changed x (value_changed k (stored w) nought) e.frames)) (Slot i ∷ []) →
          IsHome few (slice_index_or (frame_at d (frame_changed x (value_changed k (stored w) nought) e.frames)) (address (Slot i ∷ [])) nought) (Place (Frame e.exec d) (Slot i ∷ [])) × (slice_index_or (frame_at d (frame_changed x (value_changed k (stored w) nought) e.frames)) (address (Slot i ∷ [])) nought ≡ w)
      told i u g l o =
          let place : Value = Place (Frame e.exec d) (Slot i ∷ []) in
          let both = told_count w place (slice_index_or (frame_at d e.frames) (address (Slot i ∷ [])) nought) (u l) g in
          set_at (λ vs. Told w place (slice_index_or vs (address (Slot i ∷ [])) nought)) e.frames x d _ (λ c. cell_either (Told w place) w (frame_at x e.frames) (address (Slot i ∷ [])) k (subst (λ y. Told w place (slice_index_or (frame_at y e.frames) (address (Slot i ∷ [])) nought)) c both.0) (subst (λ y. Told w place (stored w (slice_index_or (frame_at y e.frames) (address (Slot i ∷ [])) nought))) c both.1)) both.0 o

  owned_aside : (o : Owner) (k : ℕ) (w : Value) (d : ℕ) (todo : List Todo) (cs : List Active) (e : Env) → InFrame o k d todo cs e → BoundEnv few e → KeepsAt w d todo cs e (with_owned o (value_changed k (stored w) nought) e)
  owned_aside (Frame n x) k w d todo cs e a s = frame_at_aside n x k w d todo cs e a.0 a.1 a.2 s
  owned_aside (Fields o) k w d todo cs e a s = fields_at o k w d todo cs e s

  -- anything is written aside of what is still to be bound
  pub written_aside : (v w : Value) (d : ℕ) (todo : List Todo) (cs : List Active) (e : Env) → Aside v d todo cs e → BoundEnv few e → KeepsAt w d todo cs e (written v w e)
  written_aside (Number n) w d todo cs e a s = at_frames w d todo cs refl refl s
  written_aside (Place o p) w d todo cs e a s = owned_aside o (address p) w d todo cs e a s
  written_aside (Running x) w d todo cs e a s = at_frames w d todo cs refl refl s
  written_aside (Object o) w d todo cs e a s = fields_at o 0 w d todo cs e s
  written_aside Nothing w d todo cs e a s = at_frames w d todo cs refl refl s

  -- executions are made and go, and their links change

  -- whatever the name of one that is made
  pub born_keeps : (h : Home) (x : Ex) (e : Env) → ((n : Exec) → BoundEx few n x) → BoundEnv few e → Keeps e (sw.born h x e)
  born_keeps h x e r s = keeps_change h (sw.one_more x) e (λ m p. parked.more_parked (BoundEx few) h m.serial x m.parked (r (at_home h m.serial)) p) s

  pub forgotten_keeps : (o : Option Exec) (e : Env) → BoundEnv few e → Keeps e (sw.forgotten o e)
  forgotten_keeps None e s = keeps_like s refl refl refl refl refl
  forgotten_keeps (Some n) e s = keeps_change n.home (sw.slot_gone n.serial) e (λ m h. parked.without_parked (BoundEx few) n.home n.serial m.parked h) s

  -- the stage stays, or is the end
  abbrev pub Stages : (Links → Links) → Type 0
  Stages g = (l : Links) (n : Exec) (x : Ex) → BoundBy few l.stage n x → BoundBy few (g l).stage n x

  -- with other links, and other reasons to be unwound
  relinked : (l : Links) (g : Stage) (n : Exec) (x : Ex) → BoundBy few g n x → BoundBy few g n (record x { links = l })
  relinked l Fresh n x r = record { frames = r.frames; frame = r.frame; run = r.run; callers = r.callers }
  relinked l Started n x r = record { frames = r.frames; frame = r.frame; run = r.run; callers = r.callers }
  relinked l Ended n x r = tt

  links_kept : (h : Home) (g : Links → Links) → Stages g → (n : ℕ) (o : Option Ex) (m : Members) → SlotBy (BoundEx few) (at_home h n) o → ParkedBy (BoundEx few) h m.parked → ParkedBy (BoundEx few) h (sw.links_by g n o m).parked
  links_kept h g k n None m r s = s
  links_kept h g k n (Some x) m r s = parked.update_parked (BoundEx few) h n (Some (record x { links = g x.links })) m.parked (relinked (g x.links) (g x.links).stage (at_home h n) x (k x.links (at_home h n) x r)) s

  pub links_keeps : (g : Links → Links) → Stages g → (n : Exec) (e : Env) → BoundEnv few e → Keeps e (sw.with_links g n e)
  links_keeps g k n e s =
      either (Keeps e) (exec_eq n e.exec) (record e { links = g e.links }) (change n.home (sw.links_changed g n.serial) e) (keeps_like s refl refl refl refl refl) (keeps_change n.home (sw.links_changed g n.serial) e (λ m h. links_kept n.home g k n.serial (joined (find n.serial m.parked)) m (parked.found_parked (BoundEx few) n.home n.serial m.parked h) h) s)

  pub enlivened_keeps : (o : Option Exec) (e : Env) → BoundEnv few e → Keeps e (sw.enlivened o e)
  enlivened_keeps None e s = keeps_like s refl refl refl refl refl
  enlivened_keeps (Some n) e s = links_keeps (λ l. record l { live = true }) (λ l n x h. h) n e s

  module _ (source : Source) where
    -- switches

    abbrev pub LifeMoved : Moved (List Todo) Value → Type 0
    LifeMoved (To s) = BoundState few source false s
    LifeMoved (Stops f) = Unit {0}

    -- who may be activated
    abbrev LifeNext : Option (Exec × Ex) → Type 0
    LifeNext None = Unit {0}
    LifeNext (Some p) = BoundThere few p.0 p.1

    stopping : (g : Stage) (s : State) → BoundState few source false s → BoundBy few g s.env.exec (sw.stopped s)
    stopping Fresh s h = record { frames = h.frames; frame = h.frame; run = h.run; callers = h.callers }
    stopping Started s h = record { frames = h.frames; frame = h.frame; run = h.run; callers = h.callers }
    stopping Ended s h = tt

    switched_rests : (n : Exec) (x : Ex) (s : State) → BoundThere few n x → BoundState few source false s → BoundState few source false (sw.switched n x s)
    switched_rests n x s r h = record {
      frames = r.frames;
      frame = r.frame;
      run = r.run;
      callers = r.callers;
      env = like (parked.slot_rests (BoundEx few) s.env.exec (Some (sw.stopped s)) (sw.set_slot n None s.env) (stopping s.env.links.stage s h) (parked.slot_rests (BoundEx few) n None s.env tt h.env)) refl refl refl;
    }

    able_stage : (g : Stage) (n : Exec) (x : Ex) → BoundBy few g n x → LifeNext (sw.able_at g n x)
    able_stage Fresh n x r = tt
    able_stage Started n x r = r
    able_stage Ended n x r = tt

    able_slot : (n : Exec) (o : Option Ex) → SlotBy (BoundEx few) n o → LifeNext (sw.able_by n o)
    able_slot n None r = tt
    able_slot n (Some x) r = able_stage x.links.stage n x r

    able_rests : (o : Option Exec) (e : Env) → BoundEnv few e → LifeNext (sw.able o e)
    able_rests None e s = tt
    able_rests (Some n) e s = able_slot n (parked_at n e) (parked.parked_rests (BoundEx few) n e s)

    or_rests : (a b : Option (Exec × Ex)) → LifeNext a → LifeNext b → LifeNext (sw.or_else a b)
    or_rests None b h k = k
    or_rests (Some p) b h k = h

    go_on_rests : (o : Option (Exec × Ex)) (s : State) → LifeNext o → BoundState few source false s → LifeMoved (sw.go_on o s)
    go_on_rests None s r h = tt
    go_on_rests (Some p) s r h = switched_rests p.0 p.1 s r h

    wake_stage : (g : Stage) (n : Exec) (x : Ex) (s : State) → BoundBy few g n x → BoundState few source false s → LifeMoved (sw.wake_at g n x s)
    wake_stage Fresh n x s r h = switched_rests n _ s (record { frames = r.frames; frame = r.frame; run = r.run; callers = r.callers }) h
    wake_stage Started n x s r h = switched_rests n _ s (record { frames = r.frames; frame = r.frame; run = r.run; callers = r.callers }) h
    wake_stage Ended n x s r h = tt

    wake_slot : (n : Exec) (o : Option Ex) (s : State) → SlotBy (BoundEx few) n o → BoundState few source false s → LifeMoved (sw.wake_by n o s)
    wake_slot n None s r h = tt
    wake_slot n (Some x) s r h = wake_stage x.links.stage n x s r h

    wake_one_rests : (o : Option Exec) (s : State) → BoundState few source false s → LifeMoved (sw.wake_one o s)
    wake_one_rests None s h = tt
    wake_one_rests (Some n) s h = either LifeMoved (exec_eq n s.env.exec) (Stops ResumeInUse) (sw.wake_by n (parked_at n s.env) s) tt (wake_slot n (parked_at n s.env) s (parked.parked_rests (BoundEx few) n s.env h.env) h)

    pub wake_rests : (o : Option Exec) (s : State) → BoundState few source false s → LifeMoved (sw.wake o s)
    wake_rests o s h = either LifeMoved (sw.in_destruction s.env) (Stops SwitchInUnwind) (sw.wake_one o s) tt (wake_one_rests o s h)

    pub suspend_rests : (s : State) → BoundState few source false s → LifeMoved (sw.suspend s)
    suspend_rests s h = either LifeMoved (sw.in_destruction s.env) (Stops SwitchInUnwind) (sw.go_on (sw.able s.env.links.resumer s.env) s) tt (go_on_rests (sw.able s.env.links.resumer s.env) s (able_rests s.env.links.resumer s.env h.env) h)

    ended_rests : (s : State) → BoundState few source false s → BoundState few source false (sw.ended s)
    ended_rests s h = record { frames = h.frames; frame = h.frame; run = h.run; callers = h.callers; env = like h.env refl refl refl }

    pub finish_rests : (s : State) → BoundState few source false s → LifeMoved (sw.finish s)
    finish_rests s h =
        go_on_rests (sw.or_else (sw.able s.env.links.starter s.env) (sw.able s.env.links.resumer s.env)) (sw.ended s) (or_rests (sw.able s.env.links.starter s.env) (sw.able s.env.links.resumer s.env) (able_rests s.env.links.starter s.env h.env) (able_rests s.env.links.resumer s.env h.env)) (ended_rests s h)

    throw_rests : (o : Option (Exec × Ex)) (s : State) → LifeNext o → BoundState few source false s → LifeMoved (sw.throw_at o s)
    throw_rests None s r h = tt
    throw_rests (Some p) s r h = switched_rests p.0 _ s (record { frames = r.frames; frame = r.frame; run = r.run; callers = r.callers }) h

    pub escape_rests : (s : State) → BoundState few source false s → LifeMoved (sw.escape s)
    escape_rests s h = throw_rests (sw.able s.env.links.resumer s.env) (sw.ended s) (able_rests s.env.links.resumer s.env h.env) (ended_rests s h)

    pub taken_down_rests : (s : State) → BoundState few source false s → LifeMoved (sw.taken_down s)
    taken_down_rests s h = go_on_rests (sw.able s.env.links.destroyer s.env) (sw.ended s) (able_rests s.env.links.destroyer s.env h.env) (ended_rests s h)

    -- the same running execution, in a task that has changed
    pub with_env : {e : Env} (s : State) → BoundState few source false s → Keeps s.env e → BoundState few source false (record s { env = e })
    with_env {e} s h k = record {
      frames = k.frames ∙ h.frames;
      frame = h.frame;
      run = k.list s.run.frame s.run.control h.run;
      callers = subst (λ n. BoundStack few n e.frames s.run.this s.callers) (sym k.exec) (k.stack s.run.this s.callers h.callers);
      env = k.env;
    }

    over_rests : (n : Exec) (s : State) → BoundState few source false s → BoundState few source false (sw.over n s)
    over_rests n s h = with_env s h (links_keeps (λ l. record l { live = false; stage = Ended }) (λ l n x h. tt) n s.env h.env)

    take_down_stage : (g : Stage) (n : Exec) (x : Ex) (s : State) → BoundBy few g n x → BoundState few source false s → LifeMoved (sw.take_down_at g n x s)
    take_down_stage Fresh n x s r h = over_rests n s h
    take_down_stage Started n x s r h = switched_rests n _ s (record { frames = r.frames; frame = r.frame; run = r.run; callers = r.callers }) h
    take_down_stage Ended n x s r h = over_rests n s h

    take_down_slot : (n : Exec) (o : Option Ex) (s : State) → SlotBy (BoundEx few) n o → BoundState few source false s → LifeMoved (sw.take_down_by n o s)
    take_down_slot n None s r h = h
    take_down_slot n (Some x) s r h = take_down_stage x.links.stage n x s r h

    pub take_down_rests : (o : Option Exec) (s : State) → BoundState few source false s → LifeMoved (sw.take_down o s)
    take_down_rests None s h = h
    take_down_rests (Some n) s h = take_down_slot n (parked_at n s.env) s (parked.parked_rests (BoundEx few) n s.env h.env) h
