-- Executions go on to build what they build where members, executions and who runs change.
use Rattle.std.proofs.Common.{◌≡◌, ℕ, ◌∙◌, Bool, true, false, List, Option, Some, None, refl, sym, subst}
use Rattle.uc_entry.specs.declared.fault.RunFault.TheVariants.{ResumeInUse, SwitchInUnwind}
use Rattle.uc_entry.specs.Keyed.{find}
use Rattle.uc_machine.specs.declared.exec.Exec.{Exec}
use Rattle.uc_machine.specs.declared.exec.Home.{Home}
use Rattle.uc_machine.specs.declared.exec.Home.TheVariants as home
use Rattle.uc_machine.specs.declared.exec.Owner.{Owner}
use Rattle.uc_machine.specs.declared.exec.Owner.TheVariants.{Frame, Fields}
use Rattle.uc_machine.specs.declared.exec.Stage.{Stage}
use Rattle.uc_machine.specs.declared.exec.Stage.TheVariants.{Fresh, Started, Ended}
use Rattle.uc_machine.specs.Executions.{Links, exec_eq, joined, change, change_in, members_at, parked_at, frames_by, frames_changed, frame_changed, value_changed, with_owned, with_frames}
use Rattle.uc_machine.specs.Switches as sw
use Rattle.uc_machine.specs.Switches.{Moved, To, Stops}
use Rattle.uc_machine.specs.Pieces.{Value, Number, Place, Running, Object, Nothing, Todo, Active, State, Env, Members, address, stored, nought, written}
use Rattle.uc_life_laws.specs.LifeStates.{SlotBy, ParkedBy, MembersBy, EnvBy}
use Rattle.uc_making_laws.specs.Builders.{BuildsFrom, BuildsBy, BuildsEx, BuildsState}
use Rattle.uc_life_laws.proofs.Cells.{either}
use Rattle.uc_life_laws.proofs.Parked as parked
use Rattle.uc_life_laws.proofs.Parked.{Ex, at_home}

module _ (every : Bool) (thing : ℕ) (name : Exec) where
  -- one that runs is so at each stage
  pub of_stage : (g : Stage) (n : Exec) (a : Active) (older : List Active) → BuildsFrom every thing name n a older → BuildsBy every thing name g n a older
  of_stage Fresh n a older h = h
  of_stage Started n a older h = h
  of_stage Ended n a older h = tt

  pub like : {e f : Env} → EnvBy (BuildsEx every thing name) e → f.hand ≡ e.hand → f.house ≡ e.house → f.own ≡ e.own → EnvBy (BuildsEx every thing name) f
  like s h g o = parked.like (BuildsEx every thing name) s h g o

  -- a task changes, but who runs stays, and so do all executions that do not run
  pub record Keeps (e f : Env) : Type 0 where
    pub exec : f.exec ≡ e.exec
    pub env : EnvBy (BuildsEx every thing name) f

  pub keeps_both : {e f g : Env} → Keeps e f → Keeps f g → Keeps e g
  keeps_both {e} {f} {g} h k = record { exec = k.exec ∙ h.exec; env = k.env }

  pub keeps_like : {e f : Env} → EnvBy (BuildsEx every thing name) e → f.exec ≡ e.exec → f.hand ≡ e.hand → f.house ≡ e.house → f.own ≡ e.own → Keeps e f
  keeps_like s x h g o = record { exec = x; env = like s h g o }

  keeps_change : (h : Home) (f : Members → Members) (e : Env) → parked.KeepsParked (BuildsEx every thing name) h f → EnvBy (BuildsEx every thing name) e → Keeps e (change h f e)
  keeps_change h f e k s = record { exec = parked.change_exec h f e; env = parked.change_rests (BuildsEx every thing name) h f e k s }

  -- writes

  frames_kept : (h : Home) (n : ℕ) (f : List (List Value) → List (List Value)) (o : Option Ex) (m : Members) → SlotBy (BuildsEx every thing name) (at_home h n) o → ParkedBy (BuildsEx every thing name) h m.parked → ParkedBy (BuildsEx every thing name) h (frames_by n f o m).parked
  frames_kept h n f None m r s = s
  frames_kept h n f (Some x) m r s = parked.update_parked (BuildsEx every thing name) h n (Some (record x { frames = f x.frames })) m.parked r s

  with_frames_keeps : (n : Exec) (f : List (List Value) → List (List Value)) (e : Env) → EnvBy (BuildsEx every thing name) e → Keeps e (with_frames n f e)
  with_frames_keeps n f e s =
      either (Keeps e) (exec_eq n e.exec) (record e { frames = f e.frames }) (change n.home (frames_changed n.serial f) e) (record { exec = refl; env = like s refl refl refl }) (keeps_change n.home (frames_changed n.serial f) e (λ m h. frames_kept n.home n.serial f (joined (find n.serial m.parked)) m (parked.found_parked (BuildsEx every thing name) n.home n.serial m.parked h) h) s)

  pub owned_keeps : (o : Owner) (g : List Value → List Value) (e : Env) → EnvBy (BuildsEx every thing name) e → Keeps e (with_owned o g e)
  owned_keeps (Frame n d) g e s = with_frames_keeps n (frame_changed d g) e s
  owned_keeps (Fields o) g e s = keeps_change (home.Object o) _ e (λ m h. h) s

  pub written_keeps : (v w : Value) (e : Env) → EnvBy (BuildsEx every thing name) e → Keeps e (written v w e)
  written_keeps (Number n) w e s = keeps_like s refl refl refl refl
  written_keeps (Place o p) w e s = owned_keeps o (value_changed (address p) (stored w) nought) e s
  written_keeps (Running x) w e s = keeps_like s refl refl refl refl
  written_keeps (Object o) w e s = owned_keeps (Fields o) (value_changed 0 (stored w) nought) e s
  written_keeps Nothing w e s = keeps_like s refl refl refl refl

  -- executions are made and go, and their links change

  born_by : (h : Home) (x : Ex) (o : Option Members) (e : Env) → ((m : Members) → o ≡ Some m → BuildsEx every thing name (record { home = h; serial = m.serial }) x) → MembersBy (BuildsEx every thing name) h o → EnvBy (BuildsEx every thing name) e → EnvBy (BuildsEx every thing name) (change_in h (sw.one_more x) o e)
  born_by h x None e r k s = s
  born_by h x (Some m) e r k s = parked.set_rests (BuildsEx every thing name) h (sw.one_more x m) e (parked.more_parked (BuildsEx every thing name) h m.serial x m.parked (r m refl) k) s

  pub born_keeps : (h : Home) (x : Ex) (e : Env) → ((m : Members) → members_at h e ≡ Some m → BuildsEx every thing name (sw.new_exec h e) x) → EnvBy (BuildsEx every thing name) e → Keeps e (sw.born h x e)
  born_keeps h x e r s = record {
    exec = parked.change_exec h (sw.one_more x) e;
    env = born_by h x (members_at h e) e (λ m q. subst (λ o. BuildsEx every thing name (record { home = h; serial = sw.serial_in o }) x) q (r m q)) (parked.members_rests (BuildsEx every thing name) h e s) s;
  }

  pub forgotten_keeps : (o : Option Exec) (e : Env) → EnvBy (BuildsEx every thing name) e → Keeps e (sw.forgotten o e)
  forgotten_keeps None e s = keeps_like s refl refl refl refl
  forgotten_keeps (Some n) e s = keeps_change n.home (sw.slot_gone n.serial) e (λ m h. parked.without_parked (BuildsEx every thing name) n.home n.serial m.parked h) s

  -- the stage stays, or is the end
  abbrev pub Stages : (Links → Links) → Type 0
  Stages g = (l : Links) (n : Exec) (a : Active) (older : List Active) → BuildsBy every thing name l.stage n a older → BuildsBy every thing name (g l).stage n a older

  links_kept : (h : Home) (g : Links → Links) → Stages g → (n : ℕ) (o : Option Ex) (m : Members) → SlotBy (BuildsEx every thing name) (at_home h n) o → ParkedBy (BuildsEx every thing name) h m.parked → ParkedBy (BuildsEx every thing name) h (sw.links_by g n o m).parked
  links_kept h g k n None m r s = s
  links_kept h g k n (Some x) m r s = parked.update_parked (BuildsEx every thing name) h n (Some (record x { links = g x.links })) m.parked (k x.links (at_home h n) x.run x.callers r) s

  pub links_keeps : (g : Links → Links) → Stages g → (n : Exec) (e : Env) → EnvBy (BuildsEx every thing name) e → Keeps e (sw.with_links g n e)
  links_keeps g k n e s =
      either (Keeps e) (exec_eq n e.exec) (record e { links = g e.links }) (change n.home (sw.links_changed g n.serial) e) (keeps_like s refl refl refl refl) (keeps_change n.home (sw.links_changed g n.serial) e (λ m h. links_kept n.home g k n.serial (joined (find n.serial m.parked)) m (parked.found_parked (BuildsEx every thing name) n.home n.serial m.parked h) h) s)

  pub enlivened_keeps : (o : Option Exec) (e : Env) → EnvBy (BuildsEx every thing name) e → Keeps e (sw.enlivened o e)
  enlivened_keeps None e s = keeps_like s refl refl refl refl
  enlivened_keeps (Some n) e s = links_keeps (λ l. record l { live = true }) (λ l n a older h. h) n e s

  -- switches

  abbrev pub BuildsMoved : Moved (List Todo) Value → Type 0
  BuildsMoved (To s) = BuildsState every thing name s
  BuildsMoved (Stops f) = Unit {0}

  -- who may be activated
  abbrev BuildsNext : Option (Exec × Ex) → Type 0
  BuildsNext None = Unit {0}
  BuildsNext (Some p) = BuildsFrom every thing name p.0 p.1.run p.1.callers

  switched_rests : (n : Exec) (x : Ex) (s : State) → BuildsFrom every thing name n x.run x.callers → BuildsState every thing name s → BuildsState every thing name (sw.switched n x s)
  switched_rests n x s r h = record {
    stack = r;
    env = like (parked.slot_rests (BuildsEx every thing name) s.env.exec (Some (sw.stopped s)) (sw.set_slot n None s.env) (of_stage s.env.links.stage s.env.exec s.run s.callers h.stack) (parked.slot_rests (BuildsEx every thing name) n None s.env tt h.env)) refl refl refl;
  }

  able_stage : (g : Stage) (n : Exec) (x : Ex) → BuildsBy every thing name g n x.run x.callers → BuildsNext (sw.able_at g n x)
  able_stage Fresh n x r = tt
  able_stage Started n x r = r
  able_stage Ended n x r = tt

  able_slot : (n : Exec) (o : Option Ex) → SlotBy (BuildsEx every thing name) n o → BuildsNext (sw.able_by n o)
  able_slot n None r = tt
  able_slot n (Some x) r = able_stage x.links.stage n x r

  able_rests : (o : Option Exec) (e : Env) → EnvBy (BuildsEx every thing name) e → BuildsNext (sw.able o e)
  able_rests None e s = tt
  able_rests (Some n) e s = able_slot n (parked_at n e) (parked.parked_rests (BuildsEx every thing name) n e s)

  or_rests : (a b : Option (Exec × Ex)) → BuildsNext a → BuildsNext b → BuildsNext (sw.or_else a b)
  or_rests None b h k = k
  or_rests (Some p) b h k = h

  go_on_rests : (o : Option (Exec × Ex)) (s : State) → BuildsNext o → BuildsState every thing name s → BuildsMoved (sw.go_on o s)
  go_on_rests None s r h = tt
  go_on_rests (Some p) s r h = switched_rests p.0 p.1 s r h

  wake_stage : (g : Stage) (n : Exec) (x : Ex) (s : State) → BuildsBy every thing name g n x.run x.callers → BuildsState every thing name s → BuildsMoved (sw.wake_at g n x s)
  wake_stage Fresh n x s r h = switched_rests n _ s (r) h
  wake_stage Started n x s r h = switched_rests n _ s (r) h
  wake_stage Ended n x s r h = tt

  wake_slot : (n : Exec) (o : Option Ex) (s : State) → SlotBy (BuildsEx every thing name) n o → BuildsState every thing name s → BuildsMoved (sw.wake_by n o s)
  wake_slot n None s r h = tt
  wake_slot n (Some x) s r h = wake_stage x.links.stage n x s r h

  wake_one_rests : (o : Option Exec) (s : State) → BuildsState every thing name s → BuildsMoved (sw.wake_one o s)
  wake_one_rests None s h = tt
  wake_one_rests (Some n) s h = either BuildsMoved (exec_eq n s.env.exec) (Stops ResumeInUse) (sw.wake_by n (parked_at n s.env) s) tt (wake_slot n (parked_at n s.env) s (parked.parked_rests (BuildsEx every thing name) n s.env h.env) h)

  pub wake_rests : (o : Option Exec) (s : State) → BuildsState every thing name s → BuildsMoved (sw.wake o s)
  wake_rests o s h = either BuildsMoved (sw.in_destruction s.env) (Stops SwitchInUnwind) (sw.wake_one o s) tt (wake_one_rests o s h)

  pub suspend_rests : (s : State) → BuildsState every thing name s → BuildsMoved (sw.suspend s)
  suspend_rests s h = either BuildsMoved (sw.in_destruction s.env) (Stops SwitchInUnwind) (sw.go_on (sw.able s.env.links.resumer s.env) s) tt (go_on_rests (sw.able s.env.links.resumer s.env) s (able_rests s.env.links.resumer s.env h.env) h)

  ended_rests : (s : State) → BuildsState every thing name s → BuildsState every thing name (sw.ended s)
  ended_rests s h = record { stack = h.stack; env = like h.env refl refl refl }

  pub finish_rests : (s : State) → BuildsState every thing name s → BuildsMoved (sw.finish s)
  finish_rests s h =
      go_on_rests (sw.or_else (sw.able s.env.links.starter s.env) (sw.able s.env.links.resumer s.env)) (sw.ended s) (or_rests (sw.able s.env.links.starter s.env) (sw.able s.env.links.resumer s.env) (able_rests s.env.links.starter s.env h.env) (able_rests s.env.links.resumer s.env h.env)) (ended_rests s h)

  throw_rests : (o : Option (Exec × Ex)) (s : State) → BuildsNext o → BuildsState every thing name s → BuildsMoved (sw.throw_at o s)
  throw_rests None s r h = tt
  throw_rests (Some p) s r h = switched_rests p.0 _ s (r) h

  pub escape_rests : (s : State) → BuildsState every thing name s → BuildsMoved (sw.escape s)
  escape_rests s h = throw_rests (sw.able s.env.links.resumer s.env) (sw.ended s) (able_rests s.env.links.resumer s.env h.env) (ended_rests s h)

  pub taken_down_rests : (s : State) → BuildsState every thing name s → BuildsMoved (sw.taken_down s)
  taken_down_rests s h = go_on_rests (sw.able s.env.links.destroyer s.env) (sw.ended s) (able_rests s.env.links.destroyer s.env h.env) (ended_rests s h)

  -- the same running execution, in a task that has changed
  pub with_env : {e : Env} (s : State) → BuildsState every thing name s → Keeps s.env e → BuildsState every thing name (record s { env = e })
  with_env {e} s h k = record { stack = subst (λ n. BuildsFrom every thing name n s.run s.callers) (sym k.exec) h.stack; env = k.env }

  over_rests : (n : Exec) (s : State) → BuildsState every thing name s → BuildsState every thing name (sw.over n s)
  over_rests n s h = with_env s h (links_keeps (λ l. record l { live = false; stage = Ended }) (λ l n a older h. tt) n s.env h.env)

  take_down_stage : (g : Stage) (n : Exec) (x : Ex) (s : State) → BuildsBy every thing name g n x.run x.callers → BuildsState every thing name s → BuildsMoved (sw.take_down_at g n x s)
  take_down_stage Fresh n x s r h = over_rests n s h
  take_down_stage Started n x s r h = switched_rests n _ s (r) h
  take_down_stage Ended n x s r h = over_rests n s h

  take_down_slot : (n : Exec) (o : Option Ex) (s : State) → SlotBy (BuildsEx every thing name) n o → BuildsState every thing name s → BuildsMoved (sw.take_down_by n o s)
  take_down_slot n None s r h = h
  take_down_slot n (Some x) s r h = take_down_stage x.links.stage n x s r h

  pub take_down_rests : (o : Option Exec) (s : State) → BuildsState every thing name s → BuildsMoved (sw.take_down o s)
  take_down_rests None s h = h
  take_down_rests (Some n) s h = take_down_slot n (parked_at n s.env) s (parked.parked_rests (BuildsEx every thing name) n s.env h.env) h
