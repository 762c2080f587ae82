-- The objects in which a task is deep stay the same where members, executions and who runs change.
use Rattle.std.proofs.Common.{◌≡◌, ℕ, true, false, List, Option, Some, None}
use Rattle.std.specs.Prelude.{pos, nat_eq}
use Rattle.uc_tree.specs.declared.limits.TheConstants.{UNHANDLED}
use Rattle.uc_entry.specs.declared.fault.RunFault.TheVariants.{ResumeInUse, SwitchInUnwind}
use Rattle.uc_machine.specs.declared.exec.Exec.{Exec}
use Rattle.uc_machine.specs.declared.exec.Home.{Home}
use Rattle.uc_machine.specs.declared.exec.Home.TheVariants as home
use Rattle.uc_machine.specs.declared.exec.Owner.{Owner}
use Rattle.uc_machine.specs.declared.exec.Owner.TheVariants.{Frame, Fields}
use Rattle.uc_machine.specs.declared.exec.Stage.{Stage}
use Rattle.uc_machine.specs.declared.exec.Stage.TheVariants.{Fresh, Started, Ended}
use Rattle.uc_machine.specs.declared.exec.UnwindReason.TheVariants as reason
use Rattle.uc_machine.specs.Executions.{Links, Execution, exec_eq, members_at, set_members, change, change_in, parked_at, frames_changed, frame_changed, with_owned, with_frames}
use Rattle.uc_machine.specs.Switches as sw
use Rattle.uc_machine.specs.Switches.{Moved, To, Stops}
use Rattle.uc_machine.specs.Pieces.{Value, Number, Place, Running, Object, Nothing, Todo, State, Env, Members, written}
use Rattle.uc_step_laws.specs.Hands.{keys}
use Rattle.uc_step_laws.proofs.Kept.{either}

abbrev Ex : Type 0
Ex = Execution (List Todo) Value

module _ (ks : List ℕ) where
  -- a task that is deep in these objects
  abbrev pub Deep : Env → Type 0
  Deep e = keys e.depths ≡ ks

  set_deep : (h : Home) (m : Members) (e : Env) → Deep e → Deep (set_members h m e)
  set_deep (home.Task t) m e d = either Deep (nat_eq t e.own) (record e { house = m }) e d d
  set_deep (home.Object o) m e d = d

  change_by : (h : Home) (f : Members → Members) (o : Option Members) (e : Env) → Deep e → Deep (change_in h f o e)
  change_by h f None e d = d
  change_by h f (Some m) e d = set_deep h (f m) e d

  change_deep : (h : Home) (f : Members → Members) (e : Env) → Deep e → Deep (change h f e)
  change_deep h f e d = change_by h f (members_at h e) e d

  with_frames_deep : (n : Exec) (f : List (List Value) → List (List Value)) (e : Env) → Deep e → Deep (with_frames n f e)
  with_frames_deep n f e d =
      either Deep (exec_eq n e.exec) (record e { frames = f e.frames }) (change n.home (frames_changed n.serial f) e) d (change_deep n.home (frames_changed n.serial f) e d)

  pub owned_deep : (o : Owner) (f : List Value → List Value) (e : Env) → Deep e → Deep (with_owned o f e)
  owned_deep (Frame n k) f e d = with_frames_deep n (frame_changed k f) e d
  owned_deep (Fields o) f e d = change_deep (home.Object o) _ e d

  pub written_deep : (v w : Value) (e : Env) → Deep e → Deep (written v w e)
  written_deep (Number n) w e d = d
  written_deep (Place o p) w e d = owned_deep o _ e d
  written_deep (Running x) w e d = d
  written_deep (Object o) w e d = owned_deep (Fields o) _ e d
  written_deep Nothing w e d = d

  -- executions are made and go, and their links change

  pub born_deep : (h : Home) (x : Ex) (e : Env) → Deep e → Deep (sw.born h x e)
  born_deep h x e d = change_deep h (sw.one_more x) e d

  pub forgotten_deep : (o : Option Exec) (e : Env) → Deep e → Deep (sw.forgotten o e)
  forgotten_deep None e d = d
  forgotten_deep (Some n) e d = change_deep n.home (sw.slot_gone n.serial) e d

  pub with_links_deep : (g : Links → Links) (n : Exec) (e : Env) → Deep e → Deep (sw.with_links g n e)
  with_links_deep g n e d =
      either Deep (exec_eq n e.exec) (record e { links = g e.links }) (change n.home (sw.links_changed g n.serial) e) d (change_deep n.home (sw.links_changed g n.serial) e d)

  pub enlivened_deep : (o : Option Exec) (e : Env) → Deep e → Deep (sw.enlivened o e)
  enlivened_deep None e d = d
  enlivened_deep (Some n) e d = with_links_deep (λ l. record l { live = true }) n e d

  slot_deep : (n : Exec) (o : Option Ex) (e : Env) → Deep e → Deep (sw.set_slot n o e)
  slot_deep n o e d = change_deep n.home (sw.slot_set n.serial o) e d

  -- switches

  abbrev pub MovedDeep : Moved (List Todo) Value → Type 0
  MovedDeep (To s) = Deep s.env
  MovedDeep (Stops f) = Unit {0}

  switched_deep : (n : Exec) (x : Ex) (s : State) → Deep s.env → Deep (sw.switched n x s).env
  switched_deep n x s d = slot_deep s.env.exec (Some (sw.stopped s)) (sw.set_slot n None s.env) (slot_deep n None s.env d)

  go_on_deep : (o : Option (Exec × Ex)) (s : State) → Deep s.env → MovedDeep (sw.go_on o s)
  go_on_deep None s d = tt
  go_on_deep (Some p) s d = switched_deep p.0 p.1 s d

  wake_stage : (g : Stage) (n : Exec) (x : Ex) (s : State) → Deep s.env → MovedDeep (sw.wake_at g n x s)
  wake_stage Fresh n x s d = switched_deep n (record x { links = sw.woken s.env.exec x.links }) s d
  wake_stage Started n x s d = switched_deep n (record x { links = sw.woken s.env.exec x.links }) s d
  wake_stage Ended n x s d = tt

  wake_slot : (n : Exec) (o : Option Ex) (s : State) → Deep s.env → MovedDeep (sw.wake_by n o s)
  wake_slot n None s d = tt
  wake_slot n (Some x) s d = wake_stage x.links.stage n x s d

  wake_named : (o : Option Exec) (s : State) → Deep s.env → MovedDeep (sw.wake_one o s)
  wake_named None s d = tt
  wake_named (Some n) s d =
      either MovedDeep (exec_eq n s.env.exec) (Stops ResumeInUse) (sw.wake_by n (parked_at n s.env) s) tt (wake_slot n (parked_at n s.env) s d)

  pub wake_deep : (o : Option Exec) (s : State) → Deep s.env → MovedDeep (sw.wake o s)
  wake_deep o s d = either MovedDeep (sw.in_destruction s.env) (Stops SwitchInUnwind) (sw.wake_one o s) tt (wake_named o s d)

  pub suspend_deep : (s : State) → Deep s.env → MovedDeep (sw.suspend s)
  suspend_deep s d =
      either MovedDeep (sw.in_destruction s.env) (Stops SwitchInUnwind) (sw.go_on (sw.able s.env.links.resumer s.env) s) tt (go_on_deep (sw.able s.env.links.resumer s.env) s d)

  pub finish_deep : (s : State) → Deep s.env → MovedDeep (sw.finish s)
  finish_deep s d =
      go_on_deep (sw.or_else (sw.able s.env.links.starter s.env) (sw.able s.env.links.resumer s.env)) (sw.ended s) d

  throw_deep : (o : Option (Exec × Ex)) (s : State) → Deep s.env → MovedDeep (sw.throw_at o s)
  throw_deep None s d = tt
  throw_deep (Some p) s d = switched_deep p.0 (sw.unwound_there (reason.Event UNHANDLED (pos 0) (pos 0)) p.1) s d

  pub escape_deep : (s : State) → Deep s.env → MovedDeep (sw.escape s)
  escape_deep s d = throw_deep (sw.able s.env.links.resumer s.env) (sw.ended s) d

  pub taken_down_deep : (s : State) → Deep s.env → MovedDeep (sw.taken_down s)
  taken_down_deep s d = go_on_deep (sw.able s.env.links.destroyer s.env) (sw.ended s) d

  over_deep : (n : Exec) (s : State) → Deep s.env → Deep (sw.over n s).env
  over_deep n s d = with_links_deep (λ l. record l { live = false; stage = Ended }) n s.env d

  take_down_stage : (g : Stage) (n : Exec) (x : Ex) (s : State) → Deep s.env → MovedDeep (sw.take_down_at g n x s)
  take_down_stage Fresh n x s d = over_deep n s d
  take_down_stage Started n x s d =
      switched_deep n (sw.unwound_there reason.Destroyed (record x { links = record x.links { live = false; destroyer = Some s.env.exec } })) s d
  take_down_stage Ended n x s d = over_deep n s d

  take_down_slot : (n : Exec) (o : Option Ex) (s : State) → Deep s.env → MovedDeep (sw.take_down_by n o s)
  take_down_slot n None s d = d
  take_down_slot n (Some x) s d = take_down_stage x.links.stage n x s d

  pub take_down_deep : (o : Option Exec) (s : State) → Deep s.env → MovedDeep (sw.take_down o s)
  take_down_deep None s d = d
  take_down_deep (Some n) s d = take_down_slot n (parked_at n s.env) s d
