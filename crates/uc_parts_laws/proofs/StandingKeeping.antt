-- Elements that stand are not gone, where members, executions and who runs change.
use Rattle.std.proofs.Common.{◌≡◌, ℕ, length, ap, ◌∙◌, true, false, List, Option, Some, None, refl, sym, subst}
use Rattle.uc_entry.specs.declared.fault.RunFault.TheVariants.{ResumeInUse, SwitchInUnwind}
use Rattle.uc_entry.specs.Keyed.{find}
use Rattle.uc_machine.specs.declared.exec.Exec.{Exec}
use Rattle.uc_machine.specs.declared.exec.Home.{Home}
use Rattle.uc_machine.specs.declared.exec.Home.TheVariants as home
use Rattle.uc_machine.specs.declared.exec.Owner.{Owner}
use Rattle.uc_machine.specs.declared.exec.Owner.TheVariants.{Frame, Fields}
use Rattle.uc_machine.specs.declared.exec.Stage.{Stage}
use Rattle.uc_machine.specs.declared.exec.Stage.TheVariants.{Fresh, Started, Ended}
use Rattle.uc_machine.specs.Executions.{Links, exec_eq, joined, change, parked_at, frames_by, frames_changed, frame_changed, value_changed, with_owned, with_frames, at_depth, list_in}
use Rattle.uc_machine.specs.Switches as sw
use Rattle.uc_machine.specs.Switches.{Moved, To, Stops}
use Rattle.uc_machine.specs.Pieces.{Value, Number, Place, Running, Object, Nothing, Todo, Active, State, Env, Members, address, stored, nought, written}
use Rattle.uc_life_laws.specs.LifeStates.{SlotBy, ParkedBy, EnvBy}
use Rattle.uc_life_laws.proofs.Cells.{either}
use Rattle.uc_life_laws.proofs.Parked as parked
use Rattle.uc_life_laws.proofs.Parked.{Ex, at_home}
use Rattle.uc_parts_laws.specs.Standing.{Going, IsLasting, StandingFrom, StandingEx, StandingState}
use Rattle.uc_parts_laws.proofs.StandingCells.{set_length, from_stored}

module _ (told : Going) where
  pub like : {e f : Env} → EnvBy (StandingEx told) e → f.hand ≡ e.hand → f.house ≡ e.house → f.own ≡ e.own → EnvBy (StandingEx told) f
  like s h g o = parked.like (StandingEx told) s h g o

  -- a task changes, but who runs stays, what is in scope there keeps what it holds, and so do all executions that do not run
  pub record Keeps (e f : Env) : Type 0 where
    pub exec : f.exec ≡ e.exec
    pub frames : length f.frames ≡ length e.frames
    pub stack : (a : Active) (cs : List Active) → StandingFrom told e.exec e.frames a cs → StandingFrom told e.exec f.frames a cs
    pub env : EnvBy (StandingEx told) f

  pub keeps_both : {e f g : Env} → Keeps e f → Keeps f g → Keeps e g
  keeps_both {e} {f} {g} h k = record {
    exec = k.exec ∙ h.exec;
    frames = k.frames ∙ h.frames;
    stack = λ a cs x. subst (λ n. StandingFrom told n g.frames a cs) h.exec (k.stack a cs (subst (λ n. StandingFrom told n f.frames a cs) (sym h.exec) (h.stack a cs x)));
    env = k.env;
  }

  -- with the same frames
  keeps_frames : {e f : Env} → f.exec ≡ e.exec → f.frames ≡ e.frames → EnvBy (StandingEx told) f → Keeps e f
  keeps_frames {e} {f} x q h = record { exec = x; frames = ap length q; stack = λ a cs y. subst (λ fs. StandingFrom told e.exec fs a cs) (sym q) y; env = h }

  pub keeps_like : {e f : Env} → EnvBy (StandingEx told) e → f.exec ≡ e.exec → f.frames ≡ e.frames → f.hand ≡ e.hand → f.house ≡ e.house → f.own ≡ e.own → Keeps e f
  keeps_like s x q h g o = keeps_frames x q (like s h g o)

  keeps_change : (h : Home) (f : Members → Members) (e : Env) → parked.KeepsParked (StandingEx told) h f → EnvBy (StandingEx told) e → Keeps e (change h f e)
  keeps_change h f e k s = keeps_frames (parked.change_exec h f e) (parked.change_frames h f e) (parked.change_rests (StandingEx told) h f e k s)

  -- writes

  abbrev KeepsFrames : (List (List Value) → List (List Value)) → Type 0
  KeepsFrames f = (n : Exec) (fs : List (List Value)) → (length (f fs) ≡ length fs) × ((a : Active) (cs : List Active) → StandingFrom told n fs a cs → StandingFrom told n (f fs) a cs)

  frames_kept : (h : Home) (n : ℕ) (f : List (List Value) → List (List Value)) (o : Option Ex) (m : Members) → KeepsFrames f → SlotBy (StandingEx told) (at_home h n) o → ParkedBy (StandingEx told) h m.parked → ParkedBy (StandingEx told) h (frames_by n f o m).parked
  frames_kept h n f None m same r s = s
  frames_kept h n f (Some x) m same r s =
      parked.update_parked (StandingEx told) h n (Some (record x { frames = f x.frames })) m.parked (record { frames = (same (at_home h n) x.frames).0 ∙ r.frames; stack = (same (at_home h n) x.frames).1 x.run x.callers r.stack }) s

  with_frames_keeps : (n : Exec) (f : List (List Value) → List (List Value)) (e : Env) → KeepsFrames f → EnvBy (StandingEx told) e → Keeps e (with_frames n f e)
  with_frames_keeps n f e same s =
      either (Keeps e) (exec_eq n e.exec) (record e { frames = f e.frames }) (change n.home (frames_changed n.serial f) e) (record { exec = refl; frames = (same e.exec e.frames).0; stack = (same e.exec e.frames).1; env = like s refl refl refl }) (keeps_change n.home (frames_changed n.serial f) e (λ m h. frames_kept n.home n.serial f (joined (find n.serial m.parked)) m same (parked.found_parked (StandingEx told) n.home n.serial m.parked h) h) s)

  owned_keeps : (o : Owner) (k : ℕ) (v : Value) (e : Env) → IsLasting told v → EnvBy (StandingEx told) e → Keeps e (with_owned o (value_changed k (stored v) nought) e)
  owned_keeps (Frame n d) k v e l s =
      with_frames_keeps n (frame_changed d (value_changed k (stored v) nought)) e (λ n fs. (set_length fs d (value_changed k (stored v) nought (list_in (at_depth fs d))), λ a cs h. from_stored told n d k v fs a cs l h)) s
  owned_keeps (Fields o) k v e l s = keeps_change (home.Object o) _ e (λ m h. h) s

  -- fields are no cells of frames
  pub fields_keeps : (o k : ℕ) (v : Value) (e : Env) → EnvBy (StandingEx told) e → Keeps e (with_owned (Fields o) (value_changed k (stored v) nought) e)
  fields_keeps o k v e s = keeps_change (home.Object o) _ e (λ m h. h) s

  pub written_keeps : (v w : Value) (e : Env) → IsLasting told w → EnvBy (StandingEx told) e → Keeps e (written v w e)
  written_keeps (Number n) w e l s = keeps_like s refl refl refl refl refl
  written_keeps (Place o p) w e l s = owned_keeps o (address p) w e l s
  written_keeps (Running x) w e l s = keeps_like s refl refl refl refl refl
  written_keeps (Object o) w e l s = owned_keeps (Fields o) 0 w e l s
  written_keeps Nothing w e l s = keeps_like s refl refl refl refl refl

  -- executions are made and go, and their links change

  -- whatever the name of one that is made
  pub born_keeps : (h : Home) (x : Ex) (e : Env) → ((n : Exec) → (StandingEx told) n x) → EnvBy (StandingEx told) e → Keeps e (sw.born h x e)
  born_keeps h x e r s = keeps_change h (sw.one_more x) e (λ m p. parked.more_parked (StandingEx told) h m.serial x m.parked (r (at_home h m.serial)) p) s

  pub forgotten_keeps : (o : Option Exec) (e : Env) → EnvBy (StandingEx told) e → Keeps e (sw.forgotten o e)
  forgotten_keeps None e s = keeps_like s refl refl refl refl refl
  forgotten_keeps (Some n) e s = keeps_change n.home (sw.slot_gone n.serial) e (λ m h. parked.without_parked (StandingEx told) n.home n.serial m.parked h) s

  links_kept : (h : Home) (g : Links → Links) (n : ℕ) (o : Option Ex) (m : Members) → SlotBy (StandingEx told) (at_home h n) o → ParkedBy (StandingEx told) h m.parked → ParkedBy (StandingEx told) h (sw.links_by g n o m).parked
  links_kept h g n None m r s = s
  links_kept h g n (Some x) m r s = parked.update_parked (StandingEx told) h n (Some (record x { links = g x.links })) m.parked (record { frames = r.frames; stack = r.stack }) s

  pub links_keeps : (g : Links → Links) (n : Exec) (e : Env) → EnvBy (StandingEx told) e → Keeps e (sw.with_links g n e)
  links_keeps g n e s =
      either (Keeps e) (exec_eq n e.exec) (record e { links = g e.links }) (change n.home (sw.links_changed g n.serial) e) (keeps_like s refl refl refl refl refl) (keeps_change n.home (sw.links_changed g n.serial) e (λ m h. links_kept n.home g n.serial (joined (find n.serial m.parked)) m (parked.found_parked (StandingEx told) n.home n.serial m.parked h) h) s)

  pub enlivened_keeps : (o : Option Exec) (e : Env) → EnvBy (StandingEx told) e → Keeps e (sw.enlivened o e)
  enlivened_keeps None e s = keeps_like s refl refl refl refl refl
  enlivened_keeps (Some n) e s = links_keeps (λ l. record l { live = true }) n e s

  -- switches

  abbrev pub LifeMoved : Moved (List Todo) Value → Type 0
  LifeMoved (To s) = StandingState told s
  LifeMoved (Stops f) = Unit {0}

  -- who may be activated
  abbrev LifeNext : Option (Exec × Ex) → Type 0
  LifeNext None = Unit {0}
  LifeNext (Some p) = (StandingEx told) p.0 p.1

  switched_rests : (n : Exec) (x : Ex) (s : State) → (StandingEx told) n x → StandingState told s → StandingState told (sw.switched n x s)
  switched_rests n x s r h = record {
    frames = r.frames;
    stack = r.stack;
    env = like (parked.slot_rests (StandingEx told) s.env.exec (Some (sw.stopped s)) (sw.set_slot n None s.env) (record { frames = h.frames; stack = h.stack }) (parked.slot_rests (StandingEx told) n None s.env tt h.env)) refl refl refl;
  }

  able_stage : (g : Stage) (n : Exec) (x : Ex) → (StandingEx told) n x → LifeNext (sw.able_at g n x)
  able_stage Fresh n x r = tt
  able_stage Started n x r = r
  able_stage Ended n x r = tt

  able_slot : (n : Exec) (o : Option Ex) → SlotBy (StandingEx told) n o → LifeNext (sw.able_by n o)
  able_slot n None r = tt
  able_slot n (Some x) r = able_stage x.links.stage n x r

  able_rests : (o : Option Exec) (e : Env) → EnvBy (StandingEx told) e → LifeNext (sw.able o e)
  able_rests None e s = tt
  able_rests (Some n) e s = able_slot n (parked_at n e) (parked.parked_rests (StandingEx told) n e s)

  or_rests : (a b : Option (Exec × Ex)) → LifeNext a → LifeNext b → LifeNext (sw.or_else a b)
  or_rests None b h k = k
  or_rests (Some p) b h k = h

  go_on_rests : (o : Option (Exec × Ex)) (s : State) → LifeNext o → StandingState told s → LifeMoved (sw.go_on o s)
  go_on_rests None s r h = tt
  go_on_rests (Some p) s r h = switched_rests p.0 p.1 s r h

  wake_stage : (g : Stage) (n : Exec) (x : Ex) (s : State) → (StandingEx told) n x → StandingState told s → LifeMoved (sw.wake_at g n x s)
  wake_stage Fresh n x s r h = switched_rests n _ s (record { frames = r.frames; stack = r.stack }) h
  wake_stage Started n x s r h = switched_rests n _ s (record { frames = r.frames; stack = r.stack }) h
  wake_stage Ended n x s r h = tt

  wake_slot : (n : Exec) (o : Option Ex) (s : State) → SlotBy (StandingEx told) n o → StandingState told s → LifeMoved (sw.wake_by n o s)
  wake_slot n None s r h = tt
  wake_slot n (Some x) s r h = wake_stage x.links.stage n x s r h

  wake_one_rests : (o : Option Exec) (s : State) → StandingState told s → LifeMoved (sw.wake_one o s)
  wake_one_rests None s h = tt
  wake_one_rests (Some n) s h = either LifeMoved (exec_eq n s.env.exec) (Stops ResumeInUse) (sw.wake_by n (parked_at n s.env) s) tt (wake_slot n (parked_at n s.env) s (parked.parked_rests (StandingEx told) n s.env h.env) h)

  pub wake_rests : (o : Option Exec) (s : State) → StandingState told s → LifeMoved (sw.wake o s)
  wake_rests o s h = either LifeMoved (sw.in_destruction s.env) (Stops SwitchInUnwind) (sw.wake_one o s) tt (wake_one_rests o s h)

  pub suspend_rests : (s : State) → StandingState told s → LifeMoved (sw.suspend s)
  suspend_rests s h = either LifeMoved (sw.in_destruction s.env) (Stops SwitchInUnwind) (sw.go_on (sw.able s.env.links.resumer s.env) s) tt (go_on_rests (sw.able s.env.links.resumer s.env) s (able_rests s.env.links.resumer s.env h.env) h)

  ended_rests : (s : State) → StandingState told s → StandingState told (sw.ended s)
  ended_rests s h = record { frames = h.frames; stack = h.stack; env = like h.env refl refl refl }

  pub finish_rests : (s : State) → StandingState told s → LifeMoved (sw.finish s)
  finish_rests s h =
      go_on_rests (sw.or_else (sw.able s.env.links.starter s.env) (sw.able s.env.links.resumer s.env)) (sw.ended s) (or_rests (sw.able s.env.links.starter s.env) (sw.able s.env.links.resumer s.env) (able_rests s.env.links.starter s.env h.env) (able_rests s.env.links.resumer s.env h.env)) (ended_rests s h)

  throw_rests : (o : Option (Exec × Ex)) (s : State) → LifeNext o → StandingState told s → LifeMoved (sw.throw_at o s)
  throw_rests None s r h = tt
  throw_rests (Some p) s r h = switched_rests p.0 _ s (record { frames = r.frames; stack = r.stack }) h

  pub escape_rests : (s : State) → StandingState told s → LifeMoved (sw.escape s)
  escape_rests s h = throw_rests (sw.able s.env.links.resumer s.env) (sw.ended s) (able_rests s.env.links.resumer s.env h.env) (ended_rests s h)

  pub taken_down_rests : (s : State) → StandingState told s → LifeMoved (sw.taken_down s)
  taken_down_rests s h = go_on_rests (sw.able s.env.links.destroyer s.env) (sw.ended s) (able_rests s.env.links.destroyer s.env h.env) (ended_rests s h)

  -- the same running execution, in a task that has changed
  pub with_env : {e : Env} (s : State) → StandingState told s → Keeps s.env e → StandingState told (record s { env = e })
  with_env {e} s h k = record {
    frames = k.frames ∙ h.frames;
    stack = subst (λ n. StandingFrom told n e.frames s.run s.callers) (sym k.exec) (k.stack s.run s.callers h.stack);
    env = k.env;
  }

  over_rests : (n : Exec) (s : State) → StandingState told s → StandingState told (sw.over n s)
  over_rests n s h = with_env s h (links_keeps (λ l. record l { live = false; stage = Ended }) n s.env h.env)

  take_down_stage : (g : Stage) (n : Exec) (x : Ex) (s : State) → (StandingEx told) n x → StandingState told s → LifeMoved (sw.take_down_at g n x s)
  take_down_stage Fresh n x s r h = over_rests n s h
  take_down_stage Started n x s r h = switched_rests n _ s (record { frames = r.frames; stack = r.stack }) h
  take_down_stage Ended n x s r h = over_rests n s h

  take_down_slot : (n : Exec) (o : Option Ex) (s : State) → SlotBy (StandingEx told) n o → StandingState told s → LifeMoved (sw.take_down_by n o s)
  take_down_slot n None s r h = h
  take_down_slot n (Some x) s r h = take_down_stage x.links.stage n x s r h

  pub take_down_rests : (o : Option Exec) (s : State) → StandingState told s → LifeMoved (sw.take_down o s)
  take_down_rests None s h = h
  take_down_rests (Some n) s h = take_down_slot n (parked_at n s.env) s (parked.parked_rests (StandingEx told) n s.env h.env) h
