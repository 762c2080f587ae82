-- Who is no main of a task ends none, where members, executions and who runs change.
use Rattle.std.proofs.Common.{◌≡◌, ℕ, ◌∙◌, true, false, List, ◌∷◌, Option, Some, None, refl, sym, subst}
use Rattle.uc_entry.specs.declared.fault.RunFault.TheVariants.{ResumeInUse, SwitchInUnwind}
use Rattle.uc_entry.specs.Keyed.{find}
use Rattle.uc_machine.specs.declared.exec.Exec.{Exec}
use Rattle.uc_machine.specs.declared.exec.Home.{Home}
use Rattle.uc_machine.specs.declared.exec.Home.TheVariants as home
use Rattle.uc_machine.specs.declared.exec.Owner.{Owner}
use Rattle.uc_machine.specs.declared.exec.Owner.TheVariants.{Frame, Fields}
use Rattle.uc_machine.specs.declared.exec.Stage.{Stage}
use Rattle.uc_machine.specs.declared.exec.Stage.TheVariants.{Fresh, Started, Ended}
use Rattle.uc_machine.specs.Executions.{Links, exec_eq, joined, change, parked_at, frames_by, frames_changed, frame_changed, value_changed, with_owned, with_frames}
use Rattle.uc_machine.specs.Switches as sw
use Rattle.uc_machine.specs.Switches.{Moved, To, Stops}
use Rattle.uc_machine.specs.Pieces.{Value, Number, Place, Running, Object, Nothing, Todo, State, Env, Members, address, stored, nought, written}
use Rattle.uc_life_laws.specs.LifeStates.{SlotBy, ParkedBy, EnvBy}
use Rattle.uc_rooted_runs.specs.TaskMains.{is_task_main, EndsStack, EndsEx, EndsState}
use Rattle.uc_life_laws.proofs.Cells.{either}
use Rattle.uc_life_laws.proofs.Parked as parked
use Rattle.uc_life_laws.proofs.Parked.{Ex, at_home}

pub like : {e f : Env} → EnvBy EndsEx e → f.hand ≡ e.hand → f.house ≡ e.house → f.own ≡ e.own → EnvBy EndsEx f
like s h g o = parked.like EndsEx s h g o

-- a task changes, but who runs stays, and so do all executions that do not run
pub record Keeps (e f : Env) : Type 0 where
  pub exec : f.exec ≡ e.exec
  pub env : EnvBy EndsEx f

pub keeps_both : {e f g : Env} → Keeps e f → Keeps f g → Keeps e g
keeps_both {e} {f} {g} h k = record { exec = k.exec ∙ h.exec; env = k.env }

pub keeps_like : {e f : Env} → EnvBy EndsEx e → f.exec ≡ e.exec → f.hand ≡ e.hand → f.house ≡ e.house → f.own ≡ e.own → Keeps e f
keeps_like s x h g o = record { exec = x; env = like s h g o }

keeps_change : (h : Home) (f : Members → Members) (e : Env) → parked.KeepsParked EndsEx h f → EnvBy EndsEx e → Keeps e (change h f e)
keeps_change h f e k s = record { exec = parked.change_exec h f e; env = parked.change_rests EndsEx h f e k s }

-- writes

frames_kept : (h : Home) (n : ℕ) (f : List (List Value) → List (List Value)) (o : Option Ex) (m : Members) → SlotBy EndsEx (at_home h n) o → ParkedBy EndsEx h m.parked → ParkedBy EndsEx h (frames_by n f o m).parked
frames_kept h n f None m r s = s
frames_kept h n f (Some x) m r s = parked.update_parked EndsEx h n (Some (record x { frames = f x.frames })) m.parked r s

with_frames_keeps : (n : Exec) (f : List (List Value) → List (List Value)) (e : Env) → EnvBy EndsEx e → Keeps e (with_frames n f e)
with_frames_keeps n f e s =
    either (Keeps e) (exec_eq n e.exec) (record e { frames = f e.frames }) (change n.home (frames_changed n.serial f) e) (record { exec = refl; env = like s refl refl refl }) (keeps_change n.home (frames_changed n.serial f) e (λ m h. frames_kept n.home n.serial f (joined (find n.serial m.parked)) m (parked.found_parked EndsEx n.home n.serial m.parked h) h) s)

pub owned_keeps : (o : Owner) (g : List Value → List Value) (e : Env) → EnvBy EndsEx e → Keeps e (with_owned o g e)
owned_keeps (Frame n d) g e s = with_frames_keeps n (frame_changed d g) e s
owned_keeps (Fields o) g e s = keeps_change (home.Object o) _ e (λ m h. h) s

pub written_keeps : (v w : Value) (e : Env) → EnvBy EndsEx e → Keeps e (written v w e)
written_keeps (Number n) w e s = keeps_like s refl refl refl refl
written_keeps (Place o p) w e s = owned_keeps o (value_changed (address p) (stored w) nought) e s
written_keeps (Running x) w e s = keeps_like s refl refl refl refl
written_keeps (Object o) w e s = owned_keeps (Fields o) (value_changed 0 (stored w) nought) e s
written_keeps Nothing w e s = keeps_like s refl refl refl refl

-- executions are made and go, and their links change

-- whatever the name of one that is made
pub born_keeps : (h : Home) (x : Ex) (e : Env) → ((n : Exec) → EndsEx n x) → EnvBy EndsEx e → Keeps e (sw.born h x e)
born_keeps h x e r s = keeps_change h (sw.one_more x) e (λ m p. parked.more_parked EndsEx h m.serial x m.parked (r (at_home h m.serial)) p) s

pub forgotten_keeps : (o : Option Exec) (e : Env) → EnvBy EndsEx e → Keeps e (sw.forgotten o e)
forgotten_keeps None e s = keeps_like s refl refl refl refl
forgotten_keeps (Some n) e s = keeps_change n.home (sw.slot_gone n.serial) e (λ m h. parked.without_parked EndsEx n.home n.serial m.parked h) s

links_kept : (h : Home) (g : Links → Links) (n : ℕ) (o : Option Ex) (m : Members) → SlotBy EndsEx (at_home h n) o → ParkedBy EndsEx h m.parked → ParkedBy EndsEx h (sw.links_by g n o m).parked
links_kept h g n None m r s = s
links_kept h g n (Some x) m r s = parked.update_parked EndsEx h n (Some (record x { links = g x.links })) m.parked (r) s

pub links_keeps : (g : Links → Links) (n : Exec) (e : Env) → EnvBy EndsEx e → Keeps e (sw.with_links g n e)
links_keeps g n e s =
    either (Keeps e) (exec_eq n e.exec) (record e { links = g e.links }) (change n.home (sw.links_changed g n.serial) e) (keeps_like s refl refl refl refl) (keeps_change n.home (sw.links_changed g n.serial) e (λ m h. links_kept n.home g n.serial (joined (find n.serial m.parked)) m (parked.found_parked EndsEx n.home n.serial m.parked h) h) s)

pub enlivened_keeps : (o : Option Exec) (e : Env) → EnvBy EndsEx e → Keeps e (sw.enlivened o e)
enlivened_keeps None e s = keeps_like s refl refl refl refl
enlivened_keeps (Some n) e s = links_keeps (λ l. record l { live = true }) n e s

-- switches

abbrev pub EndsMoved : Moved (List Todo) Value → Type 0
EndsMoved (To s) = EndsState s
EndsMoved (Stops f) = Unit {0}

-- who may be activated
abbrev EndsNext : Option (Exec × Ex) → Type 0
EndsNext None = Unit {0}
EndsNext (Some p) = EndsEx p.0 p.1

switched_rests : (n : Exec) (x : Ex) (s : State) → EndsEx n x → EndsState s → EndsState (sw.switched n x s)
switched_rests n x s r h = record {
  stack = r;
  env = like (parked.slot_rests EndsEx s.env.exec (Some (sw.stopped s)) (sw.set_slot n None s.env) h.stack (parked.slot_rests EndsEx n None s.env tt h.env)) refl refl refl;
}

able_stage : (g : Stage) (n : Exec) (x : Ex) → EndsEx n x → EndsNext (sw.able_at g n x)
able_stage Fresh n x r = tt
able_stage Started n x r = r
able_stage Ended n x r = tt

able_slot : (n : Exec) (o : Option Ex) → SlotBy EndsEx n o → EndsNext (sw.able_by n o)
able_slot n None r = tt
able_slot n (Some x) r = able_stage x.links.stage n x r

able_rests : (o : Option Exec) (e : Env) → EnvBy EndsEx e → EndsNext (sw.able o e)
able_rests None e s = tt
able_rests (Some n) e s = able_slot n (parked_at n e) (parked.parked_rests EndsEx n e s)

or_rests : (a b : Option (Exec × Ex)) → EndsNext a → EndsNext b → EndsNext (sw.or_else a b)
or_rests None b h k = k
or_rests (Some p) b h k = h

go_on_rests : (o : Option (Exec × Ex)) (s : State) → EndsNext o → EndsState s → EndsMoved (sw.go_on o s)
go_on_rests None s r h = tt
go_on_rests (Some p) s r h = switched_rests p.0 p.1 s r h

wake_stage : (g : Stage) (n : Exec) (x : Ex) (s : State) → EndsEx n x → EndsState s → EndsMoved (sw.wake_at g n x s)
wake_stage Fresh n x s r h = switched_rests n _ s (r) h
wake_stage Started n x s r h = switched_rests n _ s (r) h
wake_stage Ended n x s r h = tt

wake_slot : (n : Exec) (o : Option Ex) (s : State) → SlotBy EndsEx n o → EndsState s → EndsMoved (sw.wake_by n o s)
wake_slot n None s r h = tt
wake_slot n (Some x) s r h = wake_stage x.links.stage n x s r h

wake_one_rests : (o : Option Exec) (s : State) → EndsState s → EndsMoved (sw.wake_one o s)
wake_one_rests None s h = tt
wake_one_rests (Some n) s h = either EndsMoved (exec_eq n s.env.exec) (Stops ResumeInUse) (sw.wake_by n (parked_at n s.env) s) tt (wake_slot n (parked_at n s.env) s (parked.parked_rests EndsEx n s.env h.env) h)

pub wake_rests : (o : Option Exec) (s : State) → EndsState s → EndsMoved (sw.wake o s)
wake_rests o s h = either EndsMoved (sw.in_destruction s.env) (Stops SwitchInUnwind) (sw.wake_one o s) tt (wake_one_rests o s h)

pub suspend_rests : (s : State) → EndsState s → EndsMoved (sw.suspend s)
suspend_rests s h = either EndsMoved (sw.in_destruction s.env) (Stops SwitchInUnwind) (sw.go_on (sw.able s.env.links.resumer s.env) s) tt (go_on_rests (sw.able s.env.links.resumer s.env) s (able_rests s.env.links.resumer s.env h.env) h)

ended_rests : (s : State) → EndsState s → EndsState (sw.ended s)
ended_rests s h = record { stack = h.stack; env = like h.env refl refl refl }

pub finish_rests : (s : State) → EndsState s → EndsMoved (sw.finish s)
finish_rests s h =
    go_on_rests (sw.or_else (sw.able s.env.links.starter s.env) (sw.able s.env.links.resumer s.env)) (sw.ended s) (or_rests (sw.able s.env.links.starter s.env) (sw.able s.env.links.resumer s.env) (able_rests s.env.links.starter s.env h.env) (able_rests s.env.links.resumer s.env h.env)) (ended_rests s h)

throw_rests : (o : Option (Exec × Ex)) (s : State) → EndsNext o → EndsState s → EndsMoved (sw.throw_at o s)
throw_rests None s r h = tt
throw_rests (Some p) s r h = switched_rests p.0 _ s (r) h

pub escape_rests : (s : State) → EndsState s → EndsMoved (sw.escape s)
escape_rests s h = throw_rests (sw.able s.env.links.resumer s.env) (sw.ended s) (able_rests s.env.links.resumer s.env h.env) (ended_rests s h)

pub taken_down_rests : (s : State) → EndsState s → EndsMoved (sw.taken_down s)
taken_down_rests s h = go_on_rests (sw.able s.env.links.destroyer s.env) (sw.ended s) (able_rests s.env.links.destroyer s.env h.env) (ended_rests s h)

-- the same running execution, in a task that has changed
pub with_env : {e : Env} (s : State) → EndsState s → Keeps s.env e → EndsState (record s { env = e })
with_env {e} s h k = record { stack = subst (λ n. EndsStack (is_task_main n) (s.run ∷ s.callers)) (sym k.exec) h.stack; env = k.env }

over_rests : (n : Exec) (s : State) → EndsState s → EndsState (sw.over n s)
over_rests n s h = with_env s h (links_keeps (λ l. record l { live = false; stage = Ended }) n s.env h.env)

take_down_stage : (g : Stage) (n : Exec) (x : Ex) (s : State) → EndsEx n x → EndsState s → EndsMoved (sw.take_down_at g n x s)
take_down_stage Fresh n x s r h = over_rests n s h
take_down_stage Started n x s r h = switched_rests n _ s (r) h
take_down_stage Ended n x s r h = over_rests n s h

take_down_slot : (n : Exec) (o : Option Ex) (s : State) → SlotBy EndsEx n o → EndsState s → EndsMoved (sw.take_down_by n o s)
take_down_slot n None s r h = h
take_down_slot n (Some x) s r h = take_down_stage x.links.stage n x s r h

pub take_down_rests : (o : Option Exec) (s : State) → EndsState s → EndsMoved (sw.take_down o s)
take_down_rests None s h = h
take_down_rests (Some n) s h = take_down_slot n (parked_at n s.env) s (parked.parked_rests EndsEx n s.env h.env) h
