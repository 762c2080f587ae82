-- What holds of each activation goes on to hold where members, executions and who runs change.
use Rattle.std.proofs.Common.{◌≡◌, ℕ, Bool, true, false, List, [], ◌∷◌, ◌++◌, Option, Some, None, refl, sym, subst}
use Rattle.std.specs.Prelude.{nat_eq, if◌then◌else◌}
use Rattle.uc_entry.specs.declared.fault.RunFault.TheVariants.{ResumeInUse, SwitchInUnwind}
use Rattle.uc_entry.specs.Keyed.{find}
use Rattle.uc_machine.specs.declared.exec.Exec.{Exec}
use Rattle.uc_machine.specs.declared.exec.Home.{Home}
use Rattle.uc_machine.specs.declared.exec.Home.TheVariants as home
use Rattle.uc_machine.specs.declared.exec.Owner.{Owner}
use Rattle.uc_machine.specs.declared.exec.Owner.TheVariants.{Frame, Fields}
use Rattle.uc_machine.specs.declared.exec.UnwindReason.{UnwindReason}
use Rattle.uc_machine.specs.declared.exec.Stage.{Stage}
use Rattle.uc_machine.specs.declared.exec.Stage.TheVariants.{Fresh, Started, Ended}
use Rattle.uc_machine.specs.Executions.{Links, update, exec_eq, joined, members_at, set_members, change, change_in, slot_in, parked_at, frames_by, frames_changed, frame_changed, with_owned, with_frames}
use Rattle.uc_machine.specs.Switches as sw
use Rattle.uc_machine.specs.Switches.{Moved, To, Stops}
use Rattle.uc_machine.specs.Pieces.{Value, Number, Place, Running, Object, Nothing, Todo, Active, State, Env, Members, written}
use Rattle.uc_site_laws.specs.Resting.{Ex, RestsEx, RestsSlot, RestsParked, RestsHand, RestsMembers, RestsEnv, RestsState}

-- the first of two by a test
pub either : {A : Type 0} (P : A → Type 0) (b : Bool) (x y : A) → P x → P y → P (if b then x else y)
either P true x y h k = h
either P false x y h k = k

module _ (Run Wait : Active → Type 0) (calm : (a : Active) (w : Option UnwindReason) → Run a → Run (record a { raised = w })) where
  -- the same, of what has the same hand and house
  pub like : {e f : Env} → RestsEnv Run Wait e → f.hand ≡ e.hand → f.house ≡ e.house → RestsEnv Run Wait f
  like {e} {f} s h g = record {
    house = subst (λ m. RestsParked Run Wait m.parked) (sym g) s.house;
    hand = subst (RestsHand Run Wait) (sym h) s.hand;
  }

  -- members of a home

  found_parked : (k : ℕ) (ps : List (ℕ × Option Ex)) → RestsParked Run Wait ps → RestsSlot Run Wait (joined (find k ps))
  found_parked k [] h = tt
  found_parked k (p ∷ ps) h = either (λ o. RestsSlot Run Wait (joined o)) (nat_eq p.0 k) (Some p.1) (find k ps) h.0 (found_parked k ps h.1)

  pub found_hand : (k : ℕ) (ps : List (ℕ × Members)) → RestsHand Run Wait ps → RestsMembers Run Wait (find k ps)
  found_hand k [] h = tt
  found_hand k (p ∷ ps) h = either (RestsMembers Run Wait) (nat_eq p.0 k) (Some p.1) (find k ps) h.0 (found_hand k ps h.1)

  slot_in_rests : (k : ℕ) (o : Option Members) → RestsMembers Run Wait o → RestsSlot Run Wait (joined (slot_in k o))
  slot_in_rests k None h = tt
  slot_in_rests k (Some m) h = found_parked k m.parked h

  update_parked : (k : ℕ) (o : Option Ex) (ps : List (ℕ × Option Ex)) → RestsSlot Run Wait o → RestsParked Run Wait ps → RestsParked Run Wait (update k o ps)
  update_parked k o [] r h = tt
  update_parked k o (p ∷ ps) r h = either (RestsParked Run Wait) (nat_eq p.0 k) ((k, o) ∷ ps) (p ∷ update k o ps) (r, h.1) (h.0, update_parked k o ps r h.1)

  without_parked : (k : ℕ) (ps : List (ℕ × Option Ex)) → RestsParked Run Wait ps → RestsParked Run Wait (sw.without k ps)
  without_parked k [] h = tt
  without_parked k (p ∷ ps) h = either (RestsParked Run Wait) (nat_eq p.0 k) ps (p ∷ sw.without k ps) h.1 (h.0, without_parked k ps h.1)

  more_parked : (k : ℕ) (x : Ex) (ps : List (ℕ × Option Ex)) → RestsEx Run Wait x → RestsParked Run Wait ps → RestsParked Run Wait (ps ++ (k, Some x) ∷ [])
  more_parked k x [] r h = (r, tt)
  more_parked k x (p ∷ ps) r h = (h.0, more_parked k x ps r h.1)

  update_hand : (k : ℕ) (m : Members) (ps : List (ℕ × Members)) → RestsParked Run Wait m.parked → RestsHand Run Wait ps → RestsHand Run Wait (update k m ps)
  update_hand k m [] r h = tt
  update_hand k m (p ∷ ps) r h = either (RestsHand Run Wait) (nat_eq p.0 k) ((k, m) ∷ ps) (p ∷ update k m ps) (r, h.1) (h.0, update_hand k m ps r h.1)

  members_rests : (h : Home) (e : Env) → RestsEnv Run Wait e → RestsMembers Run Wait (members_at h e)
  members_rests (home.Task t) e s = either (RestsMembers Run Wait) (nat_eq t e.own) (Some e.house) None s.house tt
  members_rests (home.Object o) e s = found_hand o e.hand s.hand

  pub parked_rests : (n : Exec) (e : Env) → RestsEnv Run Wait e → RestsSlot Run Wait (parked_at n e)
  parked_rests n e s = slot_in_rests n.serial (members_at n.home e) (members_rests n.home e s)

  -- changes of what is at home somewhere

  abbrev pub KeepsParked : (Members → Members) → Type 0
  KeepsParked f = (m : Members) → RestsParked Run Wait m.parked → RestsParked Run Wait (f m).parked

  housed : (m : Members) (e : Env) → RestsParked Run Wait m.parked → RestsEnv Run Wait e → RestsEnv Run Wait (record e { house = m })
  housed m e h s = record { house = h; hand = s.hand }

  set_rests : (h : Home) (m : Members) (e : Env) → RestsParked Run Wait m.parked → RestsEnv Run Wait e → RestsEnv Run Wait (set_members h m e)
  set_rests (home.Task t) m e r s = either (RestsEnv Run Wait) (nat_eq t e.own) (record e { house = m }) e (housed m e r s) s
  set_rests (home.Object o) m e r s = record { house = s.house; hand = update_hand o m e.hand r s.hand }

  change_by : (h : Home) (f : Members → Members) (o : Option Members) (e : Env) → KeepsParked f → RestsMembers Run Wait o → RestsEnv Run Wait e → RestsEnv Run Wait (change_in h f o e)
  change_by h f None e k m s = s
  change_by h f (Some x) e k m s = set_rests h (f x) e (k x m) s

  pub change_rests : (h : Home) (f : Members → Members) (e : Env) → KeepsParked f → RestsEnv Run Wait e → RestsEnv Run Wait (change h f e)
  change_rests h f e k s = change_by h f (members_at h e) e k (members_rests h e s) s

  frames_kept : (n : ℕ) (f : List (List Value) → List (List Value)) (o : Option Ex) (m : Members) → RestsSlot Run Wait o → RestsParked Run Wait m.parked → RestsParked Run Wait (frames_by n f o m).parked
  frames_kept n f None m r h = h
  frames_kept n f (Some x) m r h = update_parked n (Some (record x { frames = f x.frames })) m.parked (record { run = r.run; callers = r.callers }) h

  with_frames_rests : (n : Exec) (f : List (List Value) → List (List Value)) (e : Env) → RestsEnv Run Wait e → RestsEnv Run Wait (with_frames n f e)
  with_frames_rests n f e s =
      either (RestsEnv Run Wait) (exec_eq n e.exec) (record e { frames = f e.frames }) (change n.home (frames_changed n.serial f) e) (like s refl refl) (change_rests n.home (frames_changed n.serial f) e (λ m h. frames_kept n.serial f (joined (find n.serial m.parked)) m (found_parked n.serial m.parked h) h) s)

  pub owned_rests : (o : Owner) (f : List Value → List Value) (e : Env) → RestsEnv Run Wait e → RestsEnv Run Wait (with_owned o f e)
  owned_rests (Frame n d) f e s = with_frames_rests n (frame_changed d f) e s
  owned_rests (Fields o) f e s = change_rests (home.Object o) _ e (λ m h. h) s

  pub written_rests : (v w : Value) (e : Env) → RestsEnv Run Wait e → RestsEnv Run Wait (written v w e)
  written_rests (Number n) w e s = s
  written_rests (Place o p) w e s = owned_rests o _ e s
  written_rests (Running x) w e s = s
  written_rests (Object o) w e s = owned_rests (Fields o) _ e s
  written_rests Nothing w e s = s

  -- executions are made and go, and their links change

  pub born_rests : (h : Home) (x : Ex) (e : Env) → RestsEx Run Wait x → RestsEnv Run Wait e → RestsEnv Run Wait (sw.born h x e)
  born_rests h x e r s = change_rests h (sw.one_more x) e (λ m p. more_parked m.serial x m.parked r p) s

  pub forgotten_rests : (o : Option Exec) (e : Env) → RestsEnv Run Wait e → RestsEnv Run Wait (sw.forgotten o e)
  forgotten_rests None e s = s
  forgotten_rests (Some n) e s = change_rests n.home (sw.slot_gone n.serial) e (λ m h. without_parked n.serial m.parked h) s

  links_kept : (g : Links → Links) (n : ℕ) (o : Option Ex) (m : Members) → RestsSlot Run Wait o → RestsParked Run Wait m.parked → RestsParked Run Wait (sw.links_by g n o m).parked
  links_kept g n None m r h = h
  links_kept g n (Some x) m r h = update_parked n (Some (record x { links = g x.links })) m.parked (record { run = r.run; callers = r.callers }) h

  pub with_links_rests : (g : Links → Links) (n : Exec) (e : Env) → RestsEnv Run Wait e → RestsEnv Run Wait (sw.with_links g n e)
  with_links_rests g n e s =
      either (RestsEnv Run Wait) (exec_eq n e.exec) (record e { links = g e.links }) (change n.home (sw.links_changed g n.serial) e) (like s refl refl) (change_rests n.home (sw.links_changed g n.serial) e (λ m h. links_kept g n.serial (joined (find n.serial m.parked)) m (found_parked n.serial m.parked h) h) s)

  pub enlivened_rests : (o : Option Exec) (e : Env) → RestsEnv Run Wait e → RestsEnv Run Wait (sw.enlivened o e)
  enlivened_rests None e s = s
  enlivened_rests (Some n) e s = with_links_rests (λ l. record l { live = true }) n e s

  slot_rests : (n : Exec) (o : Option Ex) (e : Env) → RestsSlot Run Wait o → RestsEnv Run Wait e → RestsEnv Run Wait (sw.set_slot n o e)
  slot_rests n o e r s = change_rests n.home (sw.slot_set n.serial o) e (λ m h. update_parked n.serial o m.parked r h) s

  -- switches

  abbrev pub RestsMoved : Moved (List Todo) Value → Type 0
  RestsMoved (To s) = RestsState Run Wait s
  RestsMoved (Stops f) = Unit {0}

  -- who may be activated
  abbrev pub RestsNext : Option (Exec × Ex) → Type 0
  RestsNext None = Unit {0}
  RestsNext (Some p) = RestsEx Run Wait p.1

  pub switched_rests : (n : Exec) (x : Ex) (s : State) → RestsEx Run Wait x → RestsState Run Wait s → RestsState Run Wait (sw.switched n x s)
  switched_rests n x s r h = record {
    run = r.run;
    callers = r.callers;
    env = like (slot_rests s.env.exec (Some (sw.stopped s)) (sw.set_slot n None s.env) (record { run = h.run; callers = h.callers }) (slot_rests n None s.env tt h.env)) refl refl;
  }

  able_stage : (g : Stage) (n : Exec) (x : Ex) → RestsEx Run Wait x → RestsNext (sw.able_at g n x)
  able_stage Fresh n x r = tt
  able_stage Started n x r = r
  able_stage Ended n x r = tt

  able_slot : (n : Exec) (o : Option Ex) → RestsSlot Run Wait o → RestsNext (sw.able_by n o)
  able_slot n None r = tt
  able_slot n (Some x) r = able_stage x.links.stage n x r

  pub able_rests : (o : Option Exec) (e : Env) → RestsEnv Run Wait e → RestsNext (sw.able o e)
  able_rests None e s = tt
  able_rests (Some n) e s = able_slot n (parked_at n e) (parked_rests n e s)

  pub or_rests : (a b : Option (Exec × Ex)) → RestsNext a → RestsNext b → RestsNext (sw.or_else a b)
  or_rests None b h k = k
  or_rests (Some p) b h k = h

  pub go_on_rests : (o : Option (Exec × Ex)) (s : State) → RestsNext o → RestsState Run Wait s → RestsMoved (sw.go_on o s)
  go_on_rests None s r h = tt
  go_on_rests (Some p) s r h = switched_rests p.0 p.1 s r h

  wake_stage : (g : Stage) (n : Exec) (x : Ex) (s : State) → RestsEx Run Wait x → RestsState Run Wait s → RestsMoved (sw.wake_at g n x s)
  wake_stage Fresh n x s r h = switched_rests n _ s (record { run = r.run; callers = r.callers }) h
  wake_stage Started n x s r h = switched_rests n _ s (record { run = r.run; callers = r.callers }) h
  wake_stage Ended n x s r h = tt

  wake_slot : (n : Exec) (o : Option Ex) (s : State) → RestsSlot Run Wait o → RestsState Run Wait s → RestsMoved (sw.wake_by n o s)
  wake_slot n None s r h = tt
  wake_slot n (Some x) s r h = wake_stage x.links.stage n x s r h

  wake_one_rests : (o : Option Exec) (s : State) → RestsState Run Wait s → RestsMoved (sw.wake_one o s)
  wake_one_rests None s h = tt
  wake_one_rests (Some n) s h = either RestsMoved (exec_eq n s.env.exec) (Stops ResumeInUse) (sw.wake_by n (parked_at n s.env) s) tt (wake_slot n (parked_at n s.env) s (parked_rests n s.env h.env) h)

  pub wake_rests : (o : Option Exec) (s : State) → RestsState Run Wait s → RestsMoved (sw.wake o s)
  wake_rests o s h = either RestsMoved (sw.in_destruction s.env) (Stops SwitchInUnwind) (sw.wake_one o s) tt (wake_one_rests o s h)

  pub suspend_rests : (s : State) → RestsState Run Wait s → RestsMoved (sw.suspend s)
  suspend_rests s h = either RestsMoved (sw.in_destruction s.env) (Stops SwitchInUnwind) (sw.go_on (sw.able s.env.links.resumer s.env) s) tt (go_on_rests (sw.able s.env.links.resumer s.env) s (able_rests s.env.links.resumer s.env h.env) h)

  ended_rests : (s : State) → RestsState Run Wait s → RestsState Run Wait (sw.ended s)
  ended_rests s h = record { run = h.run; callers = h.callers; env = like h.env refl refl }

  pub finish_rests : (s : State) → RestsState Run Wait s → RestsMoved (sw.finish s)
  finish_rests s h =
      go_on_rests (sw.or_else (sw.able s.env.links.starter s.env) (sw.able s.env.links.resumer s.env)) (sw.ended s) (or_rests (sw.able s.env.links.starter s.env) (sw.able s.env.links.resumer s.env) (able_rests s.env.links.starter s.env h.env) (able_rests s.env.links.resumer s.env h.env)) (ended_rests s h)

  throw_rests : (o : Option (Exec × Ex)) (s : State) → RestsNext o → RestsState Run Wait s → RestsMoved (sw.throw_at o s)
  throw_rests None s r h = tt
  throw_rests (Some p) s r h = switched_rests p.0 _ s (record { run = calm p.1.run _ r.run; callers = r.callers }) h

  pub escape_rests : (s : State) → RestsState Run Wait s → RestsMoved (sw.escape s)
  escape_rests s h = throw_rests (sw.able s.env.links.resumer s.env) (sw.ended s) (able_rests s.env.links.resumer s.env h.env) (ended_rests s h)

  pub taken_down_rests : (s : State) → RestsState Run Wait s → RestsMoved (sw.taken_down s)
  taken_down_rests s h = go_on_rests (sw.able s.env.links.destroyer s.env) (sw.ended s) (able_rests s.env.links.destroyer s.env h.env) (ended_rests s h)

  over_rests : (n : Exec) (s : State) → RestsState Run Wait s → RestsState Run Wait (sw.over n s)
  over_rests n s h = record { run = h.run; callers = h.callers; env = with_links_rests (λ l. record l { live = false; stage = Ended }) n s.env h.env }

  take_down_stage : (g : Stage) (n : Exec) (x : Ex) (s : State) → RestsEx Run Wait x → RestsState Run Wait s → RestsMoved (sw.take_down_at g n x s)
  take_down_stage Fresh n x s r h = over_rests n s h
  take_down_stage Started n x s r h = switched_rests n _ s (record { run = calm x.run _ r.run; callers = r.callers }) h
  take_down_stage Ended n x s r h = over_rests n s h

  take_down_slot : (n : Exec) (o : Option Ex) (s : State) → RestsSlot Run Wait o → RestsState Run Wait s → RestsMoved (sw.take_down_by n o s)
  take_down_slot n None s r h = h
  take_down_slot n (Some x) s r h = take_down_stage x.links.stage n x s r h

  pub take_down_rests : (o : Option Exec) (s : State) → RestsState Run Wait s → RestsMoved (sw.take_down o s)
  take_down_rests None s h = h
  take_down_rests (Some n) s h = take_down_slot n (parked_at n s.env) s (parked_rests n s.env h.env) h
