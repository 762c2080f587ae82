-- Returns of handlers are over where they are to be, where members, executions and who runs change.
use Rattle.std.proofs.Common.{◌≡◌, ℕ, true, false, List, Option, Some, None, refl}
use Rattle.uc_entry.specs.declared.fault.RunFault.TheVariants.{ResumeInUse, SwitchInUnwind}
use Rattle.uc_entry.specs.Keyed.{find}
use Rattle.uc_machine.specs.declared.exec.Exec.{Exec}
use Rattle.uc_machine.specs.declared.exec.Home.{Home}
use Rattle.uc_machine.specs.declared.exec.Home.TheVariants as home
use Rattle.uc_machine.specs.declared.exec.Owner.{Owner}
use Rattle.uc_machine.specs.declared.exec.Owner.TheVariants.{Frame, Fields}
use Rattle.uc_machine.specs.declared.exec.Stage.{Stage}
use Rattle.uc_machine.specs.declared.exec.Stage.TheVariants.{Fresh, Started, Ended}
use Rattle.uc_machine.specs.Executions.{Links, exec_eq, joined, change, parked_at, frames_by, frames_changed, frame_changed, value_changed, with_owned, with_frames}
use Rattle.uc_machine.specs.Switches as sw
use Rattle.uc_machine.specs.Switches.{Moved, To, Stops}
use Rattle.uc_machine.specs.Pieces.{Value, Number, Place, Running, Object, Nothing, Todo, State, Env, Members, address, stored, nought, written}
use Rattle.uc_life_laws.specs.LifeStates.{SlotBy, ParkedBy, EnvBy}
use Rattle.uc_life_laws.proofs.Cells.{either}
use Rattle.uc_life_laws.proofs.Parked as parked
use Rattle.uc_life_laws.proofs.Parked.{Ex, at_home}
use Rattle.uc_parts_laws.specs.Returning.{ReturnsEx, ReturnsState}

abbrev pub InEnv : Env → Type 0
InEnv e = EnvBy ReturnsEx e

pub like : {e f : Env} → InEnv e → f.hand ≡ e.hand → f.house ≡ e.house → f.own ≡ e.own → InEnv f
like s h g o = parked.like ReturnsEx s h g o

-- writes

frames_kept : (h : Home) (n : ℕ) (f : List (List Value) → List (List Value)) (o : Option Ex) (m : Members) → SlotBy ReturnsEx (at_home h n) o → ParkedBy ReturnsEx h m.parked → ParkedBy ReturnsEx h (frames_by n f o m).parked
frames_kept h n f None m r s = s
frames_kept h n f (Some x) m r s = parked.update_parked ReturnsEx h n (Some (record x { frames = f x.frames })) m.parked (record { begun = r.begun; run = r.run; callers = r.callers }) s

with_frames_rests : (n : Exec) (f : List (List Value) → List (List Value)) (e : Env) → InEnv e → InEnv (with_frames n f e)
with_frames_rests n f e s =
    either InEnv (exec_eq n e.exec) (record e { frames = f e.frames }) (change n.home (frames_changed n.serial f) e) (like s refl refl refl) (parked.change_rests ReturnsEx n.home (frames_changed n.serial f) e (λ m h. frames_kept n.home n.serial f (joined (find n.serial m.parked)) m (parked.found_parked ReturnsEx n.home n.serial m.parked h) h) s)

pub owned_rests : (o : Owner) (f : List Value → List Value) (e : Env) → InEnv e → InEnv (with_owned o f e)
owned_rests (Frame n d) f e s = with_frames_rests n (frame_changed d f) e s
owned_rests (Fields o) f e s = parked.change_rests ReturnsEx (home.Object o) _ e (λ m h. h) s

pub written_rests : (v w : Value) (e : Env) → InEnv e → InEnv (written v w e)
written_rests (Number n) w e s = s
written_rests (Place o p) w e s = owned_rests o (value_changed (address p) (stored w) nought) e s
written_rests (Running x) w e s = s
written_rests (Object o) w e s = owned_rests (Fields o) (value_changed 0 (stored w) nought) e s
written_rests Nothing w e s = s

-- executions are made and go, and their links change

-- whatever the name of one that is made
pub born_rests : (h : Home) (x : Ex) (e : Env) → ((n : Exec) → ReturnsEx n x) → InEnv e → InEnv (sw.born h x e)
born_rests h x e r s = parked.change_rests ReturnsEx h (sw.one_more x) e (λ m p. parked.more_parked ReturnsEx h m.serial x m.parked (r (at_home h m.serial)) p) s

pub forgotten_rests : (o : Option Exec) (e : Env) → InEnv e → InEnv (sw.forgotten o e)
forgotten_rests None e s = s
forgotten_rests (Some n) e s = parked.change_rests ReturnsEx n.home (sw.slot_gone n.serial) e (λ m h. parked.without_parked ReturnsEx n.home n.serial m.parked h) s

links_kept : (h : Home) (g : Links → Links) (n : ℕ) (o : Option Ex) (m : Members) → SlotBy ReturnsEx (at_home h n) o → ParkedBy ReturnsEx h m.parked → ParkedBy ReturnsEx h (sw.links_by g n o m).parked
links_kept h g n None m r s = s
links_kept h g n (Some x) m r s = parked.update_parked ReturnsEx h n (Some (record x { links = g x.links })) m.parked (record { begun = r.begun; run = r.run; callers = r.callers }) s

pub links_rests : (g : Links → Links) (n : Exec) (e : Env) → InEnv e → InEnv (sw.with_links g n e)
links_rests g n e s =
    either InEnv (exec_eq n e.exec) (record e { links = g e.links }) (change n.home (sw.links_changed g n.serial) e) (like s refl refl refl) (parked.change_rests ReturnsEx n.home (sw.links_changed g n.serial) e (λ m h. links_kept n.home g n.serial (joined (find n.serial m.parked)) m (parked.found_parked ReturnsEx n.home n.serial m.parked h) h) s)

pub enlivened_rests : (o : Option Exec) (e : Env) → InEnv e → InEnv (sw.enlivened o e)
enlivened_rests None e s = s
enlivened_rests (Some n) e s = links_rests (λ l. record l { live = true }) n e s

-- switches

abbrev pub ReturnsMoved : Moved (List Todo) Value → Type 0
ReturnsMoved (To s) = ReturnsState s
ReturnsMoved (Stops f) = Unit {0}

-- who may be activated
abbrev ReturnsNext : Option (Exec × Ex) → Type 0
ReturnsNext None = Unit {0}
ReturnsNext (Some p) = ReturnsEx p.0 p.1

switched_rests : (n : Exec) (x : Ex) (s : State) → ReturnsEx n x → ReturnsState s → ReturnsState (sw.switched n x s)
switched_rests n x s r h = record {
  begun = r.begun;
  run = r.run;
  callers = r.callers;
  env = like (parked.slot_rests ReturnsEx s.env.exec (Some (sw.stopped s)) (sw.set_slot n None s.env) (record { begun = h.begun; run = h.run; callers = h.callers }) (parked.slot_rests ReturnsEx n None s.env tt h.env)) refl refl refl;
}

able_stage : (g : Stage) (n : Exec) (x : Ex) → ReturnsEx n x → ReturnsNext (sw.able_at g n x)
able_stage Fresh n x r = tt
able_stage Started n x r = r
able_stage Ended n x r = tt

able_slot : (n : Exec) (o : Option Ex) → SlotBy ReturnsEx n o → ReturnsNext (sw.able_by n o)
able_slot n None r = tt
able_slot n (Some x) r = able_stage x.links.stage n x r

able_rests : (o : Option Exec) (e : Env) → InEnv e → ReturnsNext (sw.able o e)
able_rests None e s = tt
able_rests (Some n) e s = able_slot n (parked_at n e) (parked.parked_rests ReturnsEx n e s)

or_rests : (a b : Option (Exec × Ex)) → ReturnsNext a → ReturnsNext b → ReturnsNext (sw.or_else a b)
or_rests None b h k = k
or_rests (Some p) b h k = h

go_on_rests : (o : Option (Exec × Ex)) (s : State) → ReturnsNext o → ReturnsState s → ReturnsMoved (sw.go_on o s)
go_on_rests None s r h = tt
go_on_rests (Some p) s r h = switched_rests p.0 p.1 s r h

wake_stage : (g : Stage) (n : Exec) (x : Ex) (s : State) → ReturnsEx n x → ReturnsState s → ReturnsMoved (sw.wake_at g n x s)
wake_stage Fresh n x s r h = switched_rests n _ s (record { begun = r.begun; run = r.run; callers = r.callers }) h
wake_stage Started n x s r h = switched_rests n _ s (record { begun = r.begun; run = r.run; callers = r.callers }) h
wake_stage Ended n x s r h = tt

wake_slot : (n : Exec) (o : Option Ex) (s : State) → SlotBy ReturnsEx n o → ReturnsState s → ReturnsMoved (sw.wake_by n o s)
wake_slot n None s r h = tt
wake_slot n (Some x) s r h = wake_stage x.links.stage n x s r h

wake_one_rests : (o : Option Exec) (s : State) → ReturnsState s → ReturnsMoved (sw.wake_one o s)
wake_one_rests None s h = tt
wake_one_rests (Some n) s h =
    either ReturnsMoved (exec_eq n s.env.exec) (Stops ResumeInUse) (sw.wake_by n (parked_at n s.env) s) tt (wake_slot n (parked_at n s.env) s (parked.parked_rests ReturnsEx n s.env h.env) h)

pub wake_rests : (o : Option Exec) (s : State) → ReturnsState s → ReturnsMoved (sw.wake o s)
wake_rests o s h = either ReturnsMoved (sw.in_destruction s.env) (Stops SwitchInUnwind) (sw.wake_one o s) tt (wake_one_rests o s h)

pub suspend_rests : (s : State) → ReturnsState s → ReturnsMoved (sw.suspend s)
suspend_rests s h =
    either ReturnsMoved (sw.in_destruction s.env) (Stops SwitchInUnwind) (sw.go_on (sw.able s.env.links.resumer s.env) s) tt (go_on_rests (sw.able s.env.links.resumer s.env) s (able_rests s.env.links.resumer s.env h.env) h)

ended_rests : (s : State) → ReturnsState s → ReturnsState (sw.ended s)
ended_rests s h = record { begun = h.begun; run = h.run; callers = h.callers; env = like h.env refl refl refl }

pub finish_rests : (s : State) → ReturnsState s → ReturnsMoved (sw.finish s)
finish_rests s h =
    go_on_rests (sw.or_else (sw.able s.env.links.starter s.env) (sw.able s.env.links.resumer s.env)) (sw.ended s) (or_rests (sw.able s.env.links.starter s.env) (sw.able s.env.links.resumer s.env) (able_rests s.env.links.starter s.env h.env) (able_rests s.env.links.resumer s.env h.env)) (ended_rests s h)

-- who is unwound by what escapes, or as it is destroyed, is by no return
throw_rests : (o : Option (Exec × Ex)) (s : State) → ReturnsNext o → ReturnsState s → ReturnsMoved (sw.throw_at o s)
throw_rests None s r h = tt
throw_rests (Some p) s r h =
    switched_rests p.0 _ s (record { begun = r.begun; run = record { handles = r.run.handles; passes = λ n e. absurd (cc); own = λ e. absurd (cc) }; callers = r.callers }) h

pub escape_rests : (s : State) → ReturnsState s → ReturnsMoved (sw.escape s)
escape_rests s h = throw_rests (sw.able s.env.links.resumer s.env) (sw.ended s) (able_rests s.env.links.resumer s.env h.env) (ended_rests s h)

pub taken_down_rests : (s : State) → ReturnsState s → ReturnsMoved (sw.taken_down s)
taken_down_rests s h = go_on_rests (sw.able s.env.links.destroyer s.env) (sw.ended s) (able_rests s.env.links.destroyer s.env h.env) (ended_rests s h)

over_rests : (n : Exec) (s : State) → ReturnsState s → ReturnsState (sw.over n s)
over_rests n s h = record { begun = h.begun; run = h.run; callers = h.callers; env = links_rests (λ l. record l { live = false; stage = Ended }) n s.env h.env }

take_down_stage : (g : Stage) (n : Exec) (x : Ex) (s : State) → ReturnsEx n x → ReturnsState s → ReturnsMoved (sw.take_down_at g n x s)
take_down_stage Fresh n x s r h = over_rests n s h
take_down_stage Started n x s r h =
    switched_rests n _ s (record { begun = r.begun; run = record { handles = r.run.handles; passes = λ n e. absurd (cc); own = λ e. absurd (cc) }; callers = r.callers }) h
take_down_stage Ended n x s r h = over_rests n s h

take_down_slot : (n : Exec) (o : Option Ex) (s : State) → SlotBy ReturnsEx n o → ReturnsState s → ReturnsMoved (sw.take_down_by n o s)
take_down_slot n None s r h = h
take_down_slot n (Some x) s r h = take_down_stage x.links.stage n x s r h

pub take_down_rests : (o : Option Exec) (s : State) → ReturnsState s → ReturnsMoved (sw.take_down o s)
take_down_rests None s h = h
take_down_rests (Some n) s h = take_down_slot n (parked_at n s.env) s (parked.parked_rests ReturnsEx n s.env h.env) h
