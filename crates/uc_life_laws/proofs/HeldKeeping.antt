-- Executions that others have to end are held where members, executions and who runs change.
use Rattle.std.proofs.Common.{◌≡◌, ℕ, Bool, ◌∙◌, true, false, List, ◌∷◌, Option, Some, None, refl, sym, subst}
use Rattle.uc_entry.specs.declared.fault.RunFault.TheVariants.{ResumeInUse, SwitchInUnwind}
use Rattle.uc_entry.specs.Keyed.{find}
use Rattle.uc_machine.specs.declared.exec.Exec.{Exec}
use Rattle.uc_machine.specs.declared.exec.Home.{Home}
use Rattle.uc_machine.specs.declared.exec.Home.TheVariants as home
use Rattle.uc_machine.specs.declared.exec.Owner.{Owner}
use Rattle.uc_machine.specs.declared.exec.Owner.TheVariants.{Frame, Fields}
use Rattle.uc_machine.specs.declared.exec.Stage.{Stage}
use Rattle.uc_machine.specs.declared.exec.Stage.TheVariants.{Fresh, Started, Ended}
use Rattle.uc_machine.specs.Executions.{Links, exec_eq, joined, members_at, change, change_in, parked_at, frames_by, frames_changed, frame_changed, value_changed, with_owned, with_frames}
use Rattle.uc_machine.specs.Switches as sw
use Rattle.uc_machine.specs.Switches.{Moved, To, Stops}
use Rattle.uc_machine.specs.Pieces.{Value, Number, Place, Running, Object, Nothing, Todo, Active, State, Env, Members, address, stored, nought, written}
use Rattle.uc_life_laws.specs.LifeStates.{SlotBy, ParkedBy, MembersBy, EnvBy}
use Rattle.uc_tree.specs.Source.{Source}
use Rattle.uc_life_laws.specs.Held.{Seating, AllHeld, AllNamed, HeldEx}
use Rattle.uc_life_laws.proofs.Cells.{either}
use Rattle.uc_life_laws.proofs.FirstCells.{named_map, in_written}
use Rattle.uc_life_laws.proofs.Parked as parked
use Rattle.uc_life_laws.proofs.Parked.{Ex, at_home}

module _ (source : Source) (seats : Seating) (up : Exec → Bool) where
  -- all that the running execution has made, and each that does not run
  pub record FullState (s : State) : Type 0 where
    pub stack : AllHeld source seats up s.env.exec (s.run ∷ s.callers)
    pub named : AllNamed source seats up s.env.exec s.callers s.env.frames
    pub env : EnvBy (HeldEx source seats up) s.env

  pub like : {e f : Env} → EnvBy (HeldEx source seats up) e → f.hand ≡ e.hand → f.house ≡ e.house → f.own ≡ e.own → EnvBy (HeldEx source seats up) f
  like s h g o = parked.like (HeldEx source seats up) s h g o

  -- a task changes, but who runs stays, what its frames name is named, and all executions that do not run stay
  pub record Keeps (e f : Env) : Type 0 where
    pub exec : f.exec ≡ e.exec
    pub named : (n : Exec) (cs : List Active) → AllNamed source seats up n cs e.frames → AllNamed source seats up n cs f.frames
    pub env : EnvBy (HeldEx source seats up) f

  pub keeps_both : {e f g : Env} → Keeps e f → Keeps f g → Keeps e g
  keeps_both {e} {f} {g} h k = record { exec = k.exec ∙ h.exec; named = λ n cs a. k.named n cs (h.named n cs a); env = k.env }

  pub keeps_like : {e f : Env} → EnvBy (HeldEx source seats up) e → f.exec ≡ e.exec → f.frames ≡ e.frames → f.hand ≡ e.hand → f.house ≡ e.house → f.own ≡ e.own → Keeps e f
  keeps_like s x r h g o = record { exec = x; named = λ n cs a. subst (AllNamed source seats up n cs) (sym r) a; env = like s h g o }

  keeps_change : (h : Home) (f : Members → Members) (e : Env) → parked.KeepsParked (HeldEx source seats up) h f → EnvBy (HeldEx source seats up) e → Keeps e (change h f e)
  keeps_change h f e k s = record {
    exec = parked.change_exec h f e;
    named = λ n cs a. subst (AllNamed source seats up n cs) (sym (parked.change_frames h f e)) a;
    env = parked.change_rests (HeldEx source seats up) h f e k s;
  }

  -- writes

  -- frames change to what names as before
  abbrev FramesKeep : (List (List Value) → List (List Value)) → Type 0
  FramesKeep f = (n : Exec) (cs : List Active) (fs : List (List Value)) → AllNamed source seats up n cs fs → AllNamed source seats up n cs (f fs)

  frames_kept : (h : Home) (n : ℕ) (f : List (List Value) → List (List Value)) → FramesKeep f → (o : Option Ex) (m : Members) → SlotBy (HeldEx source seats up) (at_home h n) o → ParkedBy (HeldEx source seats up) h m.parked → ParkedBy (HeldEx source seats up) h (frames_by n f o m).parked
  frames_kept h n f k None m r s = s
  frames_kept h n f k (Some x) m r s = parked.update_parked (HeldEx source seats up) h n (Some (record x { frames = f x.frames })) m.parked (r.0, k (at_home h n) x.callers x.frames r.1) s

  with_frames_keeps : (n : Exec) (f : List (List Value) → List (List Value)) → FramesKeep f → (e : Env) → EnvBy (HeldEx source seats up) e → Keeps e (with_frames n f e)
  with_frames_keeps n f k e s =
      either (Keeps e) (exec_eq n e.exec) (record e { frames = f e.frames }) (change n.home (frames_changed n.serial f) e) (record { exec = refl; named = λ m cs a. k m cs e.frames a; env = like s refl refl refl }) (keeps_change n.home (frames_changed n.serial f) e (λ m h. frames_kept n.home n.serial f k (joined (find n.serial m.parked)) m (parked.found_parked (HeldEx source seats up) n.home n.serial m.parked h) h) s)

  frames_written : (d k : ℕ) (w : Value) → FramesKeep (frame_changed d (value_changed k (stored w) nought))
  frames_written d k w n cs fs h x u p t =
      named_map n cs cs fs (frame_changed d (value_changed k (stored w) nought) fs) x (λ m e q i. in_written n cs fs x m e q i d k w) (seats.seat x).place (h x u p t)

  owned_keeps : (o : Owner) (k : ℕ) (w : Value) (e : Env) → EnvBy (HeldEx source seats up) e → Keeps e (with_owned o (value_changed k (stored w) nought) e)
  owned_keeps (Frame n d) k w e s = with_frames_keeps n (frame_changed d (value_changed k (stored w) nought)) (frames_written d k w) e s
  owned_keeps (Fields o) k w e s = keeps_change (home.Object o) _ e (λ m h. h) s

  pub written_keeps : (v w : Value) (e : Env) → EnvBy (HeldEx source seats up) e → Keeps e (written v w e)
  written_keeps (Number n) w e s = keeps_like s refl refl refl refl refl
  written_keeps (Place o p) w e s = owned_keeps o (address p) w e s
  written_keeps (Running x) w e s = keeps_like s refl refl refl refl refl
  written_keeps (Object o) w e s = owned_keeps (Fields o) 0 w e s
  written_keeps Nothing w e s = keeps_like s refl refl refl refl refl

  -- executions are made and go, and their links change

  -- of the name of one that is made
  born_by : (h : Home) (x : Ex) (o : Option Members) (e : Env) → ((m : Members) → o ≡ Some m → HeldEx source seats up (at_home h (sw.serial_in o)) x) → MembersBy (HeldEx source seats up) h o → EnvBy (HeldEx source seats up) e → EnvBy (HeldEx source seats up) (change_in h (sw.one_more x) o e)
  born_by h x None e r m s = s
  born_by h x (Some m) e r k s = parked.set_rests (HeldEx source seats up) h (sw.one_more x m) e (parked.more_parked (HeldEx source seats up) h m.serial x m.parked (r m refl) k) s

  pub born_keeps : (h : Home) (x : Ex) (e : Env) → ((m : Members) → members_at h e ≡ Some m → HeldEx source seats up (sw.new_exec h e) x) → EnvBy (HeldEx source seats up) e → Keeps e (sw.born h x e)
  born_keeps h x e r s = record {
    exec = parked.change_exec h (sw.one_more x) e;
    named = λ n cs a. subst (AllNamed source seats up n cs) (sym (parked.change_frames h (sw.one_more x) e)) a;
    env = born_by h x (members_at h e) e r (parked.members_rests (HeldEx source seats up) h e s) s;
  }

  pub forgotten_keeps : (o : Option Exec) (e : Env) → EnvBy (HeldEx source seats up) e → Keeps e (sw.forgotten o e)
  forgotten_keeps None e s = keeps_like s refl refl refl refl refl
  forgotten_keeps (Some n) e s = keeps_change n.home (sw.slot_gone n.serial) e (λ m h. parked.without_parked (HeldEx source seats up) n.home n.serial m.parked h) s

  links_kept : (h : Home) (g : Links → Links) (n : ℕ) (o : Option Ex) (m : Members) → SlotBy (HeldEx source seats up) (at_home h n) o → ParkedBy (HeldEx source seats up) h m.parked → ParkedBy (HeldEx source seats up) h (sw.links_by g n o m).parked
  links_kept h g n None m r s = s
  links_kept h g n (Some x) m r s = parked.update_parked (HeldEx source seats up) h n (Some (record x { links = g x.links })) m.parked (r) s

  pub links_keeps : (g : Links → Links) (n : Exec) (e : Env) → EnvBy (HeldEx source seats up) e → Keeps e (sw.with_links g n e)
  links_keeps g n e s =
      either (Keeps e) (exec_eq n e.exec) (record e { links = g e.links }) (change n.home (sw.links_changed g n.serial) e) (keeps_like s refl refl refl refl refl) (keeps_change n.home (sw.links_changed g n.serial) e (λ m h. links_kept n.home g n.serial (joined (find n.serial m.parked)) m (parked.found_parked (HeldEx source seats up) n.home n.serial m.parked h) h) s)

  pub enlivened_keeps : (o : Option Exec) (e : Env) → EnvBy (HeldEx source seats up) e → Keeps e (sw.enlivened o e)
  enlivened_keeps None e s = keeps_like s refl refl refl refl refl
  enlivened_keeps (Some n) e s = links_keeps (λ l. record l { live = true }) n e s

  -- switches

  abbrev pub FullMoved : Moved (List Todo) Value → Type 0
  FullMoved (To s) = FullState s
  FullMoved (Stops f) = Unit {0}

  -- who may be activated
  abbrev FullNext : Option (Exec × Ex) → Type 0
  FullNext None = Unit {0}
  FullNext (Some p) = HeldEx source seats up p.0 p.1

  switched_rests : (n : Exec) (x : Ex) (s : State) → HeldEx source seats up n x → FullState s → FullState (sw.switched n x s)
  switched_rests n x s r h = record {
    stack = r.0;
    named = r.1;
    env = like (parked.slot_rests (HeldEx source seats up) s.env.exec (Some (sw.stopped s)) (sw.set_slot n None s.env) (h.stack, h.named) (parked.slot_rests (HeldEx source seats up) n None s.env tt h.env)) refl refl refl;
  }

  able_stage : (g : Stage) (n : Exec) (x : Ex) → HeldEx source seats up n x → FullNext (sw.able_at g n x)
  able_stage Fresh n x r = tt
  able_stage Started n x r = r
  able_stage Ended n x r = tt

  able_slot : (n : Exec) (o : Option Ex) → SlotBy (HeldEx source seats up) n o → FullNext (sw.able_by n o)
  able_slot n None r = tt
  able_slot n (Some x) r = able_stage x.links.stage n x r

  able_rests : (o : Option Exec) (e : Env) → EnvBy (HeldEx source seats up) e → FullNext (sw.able o e)
  able_rests None e s = tt
  able_rests (Some n) e s = able_slot n (parked_at n e) (parked.parked_rests (HeldEx source seats up) n e s)

  or_rests : (a b : Option (Exec × Ex)) → FullNext a → FullNext b → FullNext (sw.or_else a b)
  or_rests None b h k = k
  or_rests (Some p) b h k = h

  go_on_rests : (o : Option (Exec × Ex)) (s : State) → FullNext o → FullState s → FullMoved (sw.go_on o s)
  go_on_rests None s r h = tt
  go_on_rests (Some p) s r h = switched_rests p.0 p.1 s r h

  wake_stage : (g : Stage) (n : Exec) (x : Ex) (s : State) → HeldEx source seats up n x → FullState s → FullMoved (sw.wake_at g n x s)
  wake_stage Fresh n x s r h = switched_rests n _ s (r) h
  wake_stage Started n x s r h = switched_rests n _ s (r) h
  wake_stage Ended n x s r h = tt

  wake_slot : (n : Exec) (o : Option Ex) (s : State) → SlotBy (HeldEx source seats up) n o → FullState s → FullMoved (sw.wake_by n o s)
  wake_slot n None s r h = tt
  wake_slot n (Some x) s r h = wake_stage x.links.stage n x s r h

  wake_one_rests : (o : Option Exec) (s : State) → FullState s → FullMoved (sw.wake_one o s)
  wake_one_rests None s h = tt
  wake_one_rests (Some n) s h = either FullMoved (exec_eq n s.env.exec) (Stops ResumeInUse) (sw.wake_by n (parked_at n s.env) s) tt (wake_slot n (parked_at n s.env) s (parked.parked_rests (HeldEx source seats up) n s.env h.env) h)

  pub wake_rests : (o : Option Exec) (s : State) → FullState s → FullMoved (sw.wake o s)
  wake_rests o s h = either FullMoved (sw.in_destruction s.env) (Stops SwitchInUnwind) (sw.wake_one o s) tt (wake_one_rests o s h)

  pub suspend_rests : (s : State) → FullState s → FullMoved (sw.suspend s)
  suspend_rests s h = either FullMoved (sw.in_destruction s.env) (Stops SwitchInUnwind) (sw.go_on (sw.able s.env.links.resumer s.env) s) tt (go_on_rests (sw.able s.env.links.resumer s.env) s (able_rests s.env.links.resumer s.env h.env) h)

  ended_rests : (s : State) → FullState s → FullState (sw.ended s)
  ended_rests s h = record { stack = h.stack; named = h.named; env = like h.env refl refl refl }

  pub finish_rests : (s : State) → FullState s → FullMoved (sw.finish s)
  finish_rests s h =
      go_on_rests (sw.or_else (sw.able s.env.links.starter s.env) (sw.able s.env.links.resumer s.env)) (sw.ended s) (or_rests (sw.able s.env.links.starter s.env) (sw.able s.env.links.resumer s.env) (able_rests s.env.links.starter s.env h.env) (able_rests s.env.links.resumer s.env h.env)) (ended_rests s h)

  throw_rests : (o : Option (Exec × Ex)) (s : State) → FullNext o → FullState s → FullMoved (sw.throw_at o s)
  throw_rests None s r h = tt
  throw_rests (Some p) s r h = switched_rests p.0 _ s (r) h

  pub escape_rests : (s : State) → FullState s → FullMoved (sw.escape s)
  escape_rests s h = throw_rests (sw.able s.env.links.resumer s.env) (sw.ended s) (able_rests s.env.links.resumer s.env h.env) (ended_rests s h)

  pub taken_down_rests : (s : State) → FullState s → FullMoved (sw.taken_down s)
  taken_down_rests s h = go_on_rests (sw.able s.env.links.destroyer s.env) (sw.ended s) (able_rests s.env.links.destroyer s.env h.env) (ended_rests s h)

  -- the same running execution, in a task that has changed
  pub with_env : {e : Env} (s : State) → FullState s → Keeps s.env e → FullState (record s { env = e })
  with_env {e} s h k = record {
    stack = subst (λ n. AllHeld source seats up n (s.run ∷ s.callers)) (sym k.exec) h.stack;
    named = subst (λ n. AllNamed source seats up n s.callers e.frames) (sym k.exec) (k.named s.env.exec s.callers h.named);
    env = k.env;
  }

  over_rests : (n : Exec) (s : State) → FullState s → FullState (sw.over n s)
  over_rests n s h = with_env s h (links_keeps (λ l. record l { live = false; stage = Ended }) n s.env h.env)

  take_down_stage : (g : Stage) (n : Exec) (x : Ex) (s : State) → HeldEx source seats up n x → FullState s → FullMoved (sw.take_down_at g n x s)
  take_down_stage Fresh n x s r h = over_rests n s h
  take_down_stage Started n x s r h = switched_rests n _ s (r) h
  take_down_stage Ended n x s r h = over_rests n s h

  take_down_slot : (n : Exec) (o : Option Ex) (s : State) → SlotBy (HeldEx source seats up) n o → FullState s → FullMoved (sw.take_down_by n o s)
  take_down_slot n None s r h = h
  take_down_slot n (Some x) s r h = take_down_stage x.links.stage n x s r h

  pub take_down_rests : (o : Option Exec) (s : State) → FullState s → FullMoved (sw.take_down o s)
  take_down_rests None s h = h
  take_down_rests (Some n) s h = take_down_slot n (parked_at n s.env) s (parked.parked_rests (HeldEx source seats up) n s.env h.env) h
