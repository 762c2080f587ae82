-- What holds of each activation of an execution of a name goes on to hold where members, executions and who runs change.
use Rattle.std.proofs.Common.{◌≡◌, ℕ, Bool, true, false, List, [], ◌∷◌, ◌++◌, Option, Some, None, refl, sym, ◌∙◌, subst}
use Rattle.std.specs.Prelude.{nat_eq, if◌then◌else◌}
use Rattle.std.proofs.lemmas.Bool.{eqb-true}
use Rattle.uc_entry.specs.declared.fault.RunFault.TheVariants.{ResumeInUse, SwitchInUnwind}
use Rattle.uc_entry.specs.Keyed.{find}
use Rattle.uc_machine.specs.declared.exec.Exec.{Exec}
use Rattle.uc_machine.specs.declared.exec.Home.{Home}
use Rattle.uc_machine.specs.declared.exec.Home.TheVariants as home
use Rattle.uc_machine.specs.declared.exec.Owner.{Owner}
use Rattle.uc_machine.specs.declared.exec.Owner.TheVariants.{Frame, Fields}
use Rattle.uc_machine.specs.declared.exec.UnwindReason.{UnwindReason}
use Rattle.uc_machine.specs.declared.exec.Stage.{Stage}
use Rattle.uc_machine.specs.declared.exec.Stage.TheVariants.{Fresh, Started, Ended}
use Rattle.uc_machine.specs.Executions.{Execution, Links, update, exec_eq, joined, members_at, set_members, change, change_in, slot_in, parked_at, frames_by, frames_changed, frame_changed, with_owned, with_frames}
use Rattle.uc_machine.specs.Switches as sw
use Rattle.uc_machine.specs.Switches.{Moved, To, Stops}
use Rattle.uc_machine.specs.Pieces.{Value, Number, Place, Running, Object, Nothing, Todo, Active, State, Env, Members, written}
use Rattle.uc_place_laws.specs.NamedResting.{AllWait, NamedEx, NamedSlot, NamedParked, NamedHand, NamedMembers, NamedEnv, NamedState}

-- the first of two by a test, and by what the test says
pub either : {A : Type 0} (P : A → Type 0) (b : Bool) (x y : A) → P x → P y → P (if b then x else y)
either P true x y h k = h
either P false x y h k = k

pub tested : {A : Type 0} (P : A → Type 0) (b : Bool) (x y : A) → (b ≡ true → P x) → P y → P (if b then x else y)
tested P true x y h k = h refl
tested P false x y h k = k

abbrev pub Ex : Type 0
Ex = Execution (List Todo) Value

-- a name at a home
abbrev pub at_home : Home → ℕ → Exec
at_home h k = record { home = h; serial = k }

module _ (Run Wait : Exec → Active → Type 0) (calm : (n : Exec) (a : Active) (w : Option UnwindReason) → Run n a → Run n (record a { raised = w })) where
  -- the same, of what has the same hand, house and own object
  pub like : {e f : Env} → NamedEnv Run Wait e → f.hand ≡ e.hand → f.house ≡ e.house → f.own ≡ e.own → NamedEnv Run Wait f
  like {e} {f} s h g o = record {
    house = subst (λ k. NamedParked Run Wait (home.Task k) f.house.parked) (sym o) (subst (λ m. NamedParked Run Wait (home.Task e.own) m.parked) (sym g) s.house);
    hand = subst (NamedHand Run Wait) (sym h) s.hand;
  }

  -- members of a home

  found_parked : (h : Home) (k : ℕ) (ps : List (ℕ × Option Ex)) → NamedParked Run Wait h ps → NamedSlot Run Wait (at_home h k) (joined (find k ps))
  found_parked h k [] s = tt
  found_parked h k (p ∷ ps) s =
      tested (λ o. NamedSlot Run Wait (at_home h k) (joined o)) (nat_eq p.0 k) (Some p.1) (find k ps) (λ e. subst (λ j. NamedSlot Run Wait (at_home h j) p.1) (eqb-true p.0 k e) s.0) (found_parked h k ps s.1)

  pub found_hand : (k : ℕ) (ps : List (ℕ × Members)) → NamedHand Run Wait ps → NamedMembers Run Wait (home.Object k) (find k ps)
  found_hand k [] s = tt
  found_hand k (p ∷ ps) s =
      tested (NamedMembers Run Wait (home.Object k)) (nat_eq p.0 k) (Some p.1) (find k ps) (λ e. subst (λ j. NamedParked Run Wait (home.Object j) p.1.parked) (eqb-true p.0 k e) s.0) (found_hand k ps s.1)

  slot_in_rests : (h : Home) (k : ℕ) (o : Option Members) → NamedMembers Run Wait h o → NamedSlot Run Wait (at_home h k) (joined (slot_in k o))
  slot_in_rests h k None s = tt
  slot_in_rests h k (Some m) s = found_parked h k m.parked s

  update_parked : (h : Home) (k : ℕ) (o : Option Ex) (ps : List (ℕ × Option Ex)) → NamedSlot Run Wait (at_home h k) o → NamedParked Run Wait h ps → NamedParked Run Wait h (update k o ps)
  update_parked h k o [] r s = tt
  update_parked h k o (p ∷ ps) r s = either (NamedParked Run Wait h) (nat_eq p.0 k) ((k, o) ∷ ps) (p ∷ update k o ps) (r, s.1) (s.0, update_parked h k o ps r s.1)

  without_parked : (h : Home) (k : ℕ) (ps : List (ℕ × Option Ex)) → NamedParked Run Wait h ps → NamedParked Run Wait h (sw.without k ps)
  without_parked h k [] s = tt
  without_parked h k (p ∷ ps) s = either (NamedParked Run Wait h) (nat_eq p.0 k) ps (p ∷ sw.without k ps) s.1 (s.0, without_parked h k ps s.1)

  more_parked : (h : Home) (k : ℕ) (x : Ex) (ps : List (ℕ × Option Ex)) → NamedEx Run Wait (at_home h k) x → NamedParked Run Wait h ps → NamedParked Run Wait h (ps ++ (k, Some x) ∷ [])
  more_parked h k x [] r s = (r, tt)
  more_parked h k x (p ∷ ps) r s = (s.0, more_parked h k x ps r s.1)

  update_hand : (k : ℕ) (m : Members) (ps : List (ℕ × Members)) → NamedParked Run Wait (home.Object k) m.parked → NamedHand Run Wait ps → NamedHand Run Wait (update k m ps)
  update_hand k m [] r s = tt
  update_hand k m (p ∷ ps) r s = either (NamedHand Run Wait) (nat_eq p.0 k) ((k, m) ∷ ps) (p ∷ update k m ps) (r, s.1) (s.0, update_hand k m ps r s.1)

  members_rests : (h : Home) (e : Env) → NamedEnv Run Wait e → NamedMembers Run Wait h (members_at h e)
  members_rests (home.Task t) e s =
      tested (NamedMembers Run Wait (home.Task t)) (nat_eq t e.own) (Some e.house) None (λ q. subst (λ j. NamedParked Run Wait (home.Task j) e.house.parked) (sym (eqb-true t e.own q)) s.house) tt
  members_rests (home.Object o) e s = found_hand o e.hand s.hand

  pub parked_rests : (n : Exec) (e : Env) → NamedEnv Run Wait e → NamedSlot Run Wait n (parked_at n e)
  parked_rests n e s = slot_in_rests n.home n.serial (members_at n.home e) (members_rests n.home e s)

  -- changes of what is at home somewhere

  abbrev KeepsParked : Home → (Members → Members) → Type 0
  KeepsParked h f = (m : Members) → NamedParked Run Wait h m.parked → NamedParked Run Wait h (f m).parked

  set_rests : (h : Home) (m : Members) (e : Env) → NamedParked Run Wait h m.parked → NamedEnv Run Wait e → NamedEnv Run Wait (set_members h m e)
  set_rests (home.Task t) m e r s =
      tested (NamedEnv Run Wait) (nat_eq t e.own) (record e { house = m }) e (λ q. record { house = subst (λ j. NamedParked Run Wait (home.Task j) m.parked) (eqb-true t e.own q) r; hand = s.hand }) s
  set_rests (home.Object o) m e r s = record { house = s.house; hand = update_hand o m e.hand r s.hand }

  change_by : (h : Home) (f : Members → Members) (o : Option Members) (e : Env) → KeepsParked h f → NamedMembers Run Wait h o → NamedEnv Run Wait e → NamedEnv Run Wait (change_in h f o e)
  change_by h f None e k m s = s
  change_by h f (Some x) e k m s = set_rests h (f x) e (k x m) s

  change_rests : (h : Home) (f : Members → Members) (e : Env) → KeepsParked h f → NamedEnv Run Wait e → NamedEnv Run Wait (change h f e)
  change_rests h f e k s = change_by h f (members_at h e) e k (members_rests h e s) s

  -- who runs stays who runs

  set_members_exec : (h : Home) (m : Members) (e : Env) → (set_members h m e).exec ≡ e.exec
  set_members_exec (home.Task t) m e = either (λ (d : Env). d.exec ≡ e.exec) (nat_eq t e.own) (record e { house = m }) e refl refl
  set_members_exec (home.Object o) m e = refl

  change_in_exec : (h : Home) (f : Members → Members) (o : Option Members) (e : Env) → (change_in h f o e).exec ≡ e.exec
  change_in_exec h f None e = refl
  change_in_exec h f (Some x) e = set_members_exec h (f x) e

  -- a task changes, but who runs stays, and all executions that do not run are in order
  pub record Keeps (e f : Env) : Type 0 where
    pub exec : f.exec ≡ e.exec
    pub env : NamedEnv Run Wait f

  pub keeps_both : {e f g : Env} → Keeps e f → Keeps f g → Keeps e g
  keeps_both h k = record { exec = k.exec ∙ h.exec; env = k.env }

  pub keeps_like : {e f : Env} → NamedEnv Run Wait e → f.exec ≡ e.exec → f.hand ≡ e.hand → f.house ≡ e.house → f.own ≡ e.own → Keeps e f
  keeps_like s x h g o = record { exec = x; env = like s h g o }

  keeps_change : (h : Home) (f : Members → Members) (e : Env) → KeepsParked h f → NamedEnv Run Wait e → Keeps e (change h f e)
  keeps_change h f e k s = record { exec = change_in_exec h f (members_at h e) e; env = change_rests h f e k s }

  -- writes

  frames_kept : (h : Home) (n : ℕ) (f : List (List Value) → List (List Value)) (o : Option Ex) (m : Members) → NamedSlot Run Wait (at_home h n) o → NamedParked Run Wait h m.parked → NamedParked Run Wait h (frames_by n f o m).parked
  frames_kept h n f None m r s = s
  frames_kept h n f (Some x) m r s = update_parked h n (Some (record x { frames = f x.frames })) m.parked (record { run = r.run; callers = r.callers }) s

  with_frames_keeps : (n : Exec) (f : List (List Value) → List (List Value)) (e : Env) → NamedEnv Run Wait e → Keeps e (with_frames n f e)
  with_frames_keeps n f e s =
      either (Keeps e) (exec_eq n e.exec) (record e { frames = f e.frames }) (change n.home (frames_changed n.serial f) e) (keeps_like s refl refl refl refl) (keeps_change n.home (frames_changed n.serial f) e (λ m h. frames_kept n.home n.serial f (joined (find n.serial m.parked)) m (found_parked n.home n.serial m.parked h) h) s)

  pub owned_keeps : (o : Owner) (f : List Value → List Value) (e : Env) → NamedEnv Run Wait e → Keeps e (with_owned o f e)
  owned_keeps (Frame n d) f e s = with_frames_keeps n (frame_changed d f) e s
  owned_keeps (Fields o) f e s = keeps_change (home.Object o) _ e (λ m h. h) s

  pub written_keeps : (v w : Value) (e : Env) → NamedEnv Run Wait e → Keeps e (written v w e)
  written_keeps (Number n) w e s = keeps_like s refl refl refl refl
  written_keeps (Place o p) w e s = owned_keeps o _ e s
  written_keeps (Running x) w e s = keeps_like s refl refl refl refl
  written_keeps (Object o) w e s = owned_keeps (Fields o) _ e s
  written_keeps Nothing w e s = keeps_like s refl refl refl refl

  -- executions are made and go, and their links change

  -- whatever the name of one that is made
  pub born_keeps : (h : Home) (x : Ex) (e : Env) → ((k : ℕ) → NamedEx Run Wait (at_home h k) x) → NamedEnv Run Wait e → Keeps e (sw.born h x e)
  born_keeps h x e r s = keeps_change h (sw.one_more x) e (λ m p. more_parked h m.serial x m.parked (r m.serial) p) s

  pub forgotten_keeps : (o : Option Exec) (e : Env) → NamedEnv Run Wait e → Keeps e (sw.forgotten o e)
  forgotten_keeps None e s = keeps_like s refl refl refl refl
  forgotten_keeps (Some n) e s = keeps_change n.home (sw.slot_gone n.serial) e (λ m h. without_parked n.home n.serial m.parked h) s

  links_kept : (h : Home) (g : Links → Links) (n : ℕ) (o : Option Ex) (m : Members) → NamedSlot Run Wait (at_home h n) o → NamedParked Run Wait h m.parked → NamedParked Run Wait h (sw.links_by g n o m).parked
  links_kept h g n None m r s = s
  links_kept h g n (Some x) m r s = update_parked h n (Some (record x { links = g x.links })) m.parked (record { run = r.run; callers = r.callers }) s

  pub links_keeps : (g : Links → Links) (n : Exec) (e : Env) → NamedEnv Run Wait e → Keeps e (sw.with_links g n e)
  links_keeps g n e s =
      either (Keeps e) (exec_eq n e.exec) (record e { links = g e.links }) (change n.home (sw.links_changed g n.serial) e) (keeps_like s refl refl refl refl) (keeps_change n.home (sw.links_changed g n.serial) e (λ m h. links_kept n.home g n.serial (joined (find n.serial m.parked)) m (found_parked n.home n.serial m.parked h) h) s)

  pub enlivened_keeps : (o : Option Exec) (e : Env) → NamedEnv Run Wait e → Keeps e (sw.enlivened o e)
  enlivened_keeps None e s = keeps_like s refl refl refl refl
  enlivened_keeps (Some n) e s = links_keeps (λ l. record l { live = true }) n e s

  slot_rests : (n : Exec) (o : Option Ex) (e : Env) → NamedSlot Run Wait n o → NamedEnv Run Wait e → NamedEnv Run Wait (sw.set_slot n o e)
  slot_rests n o e r s = change_rests n.home (sw.slot_set n.serial o) e (λ m h. update_parked n.home n.serial o m.parked r h) s

  -- the same running execution, in a task that has changed
  pub with_env : {e : Env} (s : State) → NamedState Run Wait s → Keeps s.env e → NamedState Run Wait (record s { env = e })
  with_env {e} s h k = record {
    run = subst (λ n. Run n s.run) (sym k.exec) h.run;
    callers = subst (λ n. AllWait Run Wait n s.callers) (sym k.exec) h.callers;
    env = k.env;
  }

  -- switches

  abbrev pub NamedMoved : Moved (List Todo) Value → Type 0
  NamedMoved (To s) = NamedState Run Wait s
  NamedMoved (Stops f) = Unit {0}

  -- who may be activated
  abbrev NamedNext : Option (Exec × Ex) → Type 0
  NamedNext None = Unit {0}
  NamedNext (Some p) = NamedEx Run Wait p.0 p.1

  switched_rests : (n : Exec) (x : Ex) (s : State) → NamedEx Run Wait n x → NamedState Run Wait s → NamedState Run Wait (sw.switched n x s)
  switched_rests n x s r h = record {
    run = r.run;
    callers = r.callers;
    env = like (slot_rests s.env.exec (Some (sw.stopped s)) (sw.set_slot n None s.env) (record { run = h.run; callers = h.callers }) (slot_rests n None s.env tt h.env)) refl refl refl;
  }

  able_stage : (g : Stage) (n : Exec) (x : Ex) → NamedEx Run Wait n x → NamedNext (sw.able_at g n x)
  able_stage Fresh n x r = tt
  able_stage Started n x r = r
  able_stage Ended n x r = tt

  able_slot : (n : Exec) (o : Option Ex) → NamedSlot Run Wait n o → NamedNext (sw.able_by n o)
  able_slot n None r = tt
  able_slot n (Some x) r = able_stage x.links.stage n x r

  able_rests : (o : Option Exec) (e : Env) → NamedEnv Run Wait e → NamedNext (sw.able o e)
  able_rests None e s = tt
  able_rests (Some n) e s = able_slot n (parked_at n e) (parked_rests n e s)

  or_rests : (a b : Option (Exec × Ex)) → NamedNext a → NamedNext b → NamedNext (sw.or_else a b)
  or_rests None b h k = k
  or_rests (Some p) b h k = h

  go_on_rests : (o : Option (Exec × Ex)) (s : State) → NamedNext o → NamedState Run Wait s → NamedMoved (sw.go_on o s)
  go_on_rests None s r h = tt
  go_on_rests (Some p) s r h = switched_rests p.0 p.1 s r h

  wake_stage : (g : Stage) (n : Exec) (x : Ex) (s : State) → NamedEx Run Wait n x → NamedState Run Wait s → NamedMoved (sw.wake_at g n x s)
  wake_stage Fresh n x s r h = switched_rests n _ s (record { run = r.run; callers = r.callers }) h
  wake_stage Started n x s r h = switched_rests n _ s (record { run = r.run; callers = r.callers }) h
  wake_stage Ended n x s r h = tt

  wake_slot : (n : Exec) (o : Option Ex) (s : State) → NamedSlot Run Wait n o → NamedState Run Wait s → NamedMoved (sw.wake_by n o s)
  wake_slot n None s r h = tt
  wake_slot n (Some x) s r h = wake_stage x.links.stage n x s r h

  wake_one_rests : (o : Option Exec) (s : State) → NamedState Run Wait s → NamedMoved (sw.wake_one o s)
  wake_one_rests None s h = tt
  wake_one_rests (Some n) s h = either NamedMoved (exec_eq n s.env.exec) (Stops ResumeInUse) (sw.wake_by n (parked_at n s.env) s) tt (wake_slot n (parked_at n s.env) s (parked_rests n s.env h.env) h)

  pub wake_rests : (o : Option Exec) (s : State) → NamedState Run Wait s → NamedMoved (sw.wake o s)
  wake_rests o s h = either NamedMoved (sw.in_destruction s.env) (Stops SwitchInUnwind) (sw.wake_one o s) tt (wake_one_rests o s h)

  pub suspend_rests : (s : State) → NamedState Run Wait s → NamedMoved (sw.suspend s)
  suspend_rests s h = either NamedMoved (sw.in_destruction s.env) (Stops SwitchInUnwind) (sw.go_on (sw.able s.env.links.resumer s.env) s) tt (go_on_rests (sw.able s.env.links.resumer s.env) s (able_rests s.env.links.resumer s.env h.env) h)

  ended_rests : (s : State) → NamedState Run Wait s → NamedState Run Wait (sw.ended s)
  ended_rests s h = record { run = h.run; callers = h.callers; env = like h.env refl refl refl }

  pub finish_rests : (s : State) → NamedState Run Wait s → NamedMoved (sw.finish s)
  finish_rests s h =
      go_on_rests (sw.or_else (sw.able s.env.links.starter s.env) (sw.able s.env.links.resumer s.env)) (sw.ended s) (or_rests (sw.able s.env.links.starter s.env) (sw.able s.env.links.resumer s.env) (able_rests s.env.links.starter s.env h.env) (able_rests s.env.links.resumer s.env h.env)) (ended_rests s h)

  throw_rests : (o : Option (Exec × Ex)) (s : State) → NamedNext o → NamedState Run Wait s → NamedMoved (sw.throw_at o s)
  throw_rests None s r h = tt
  throw_rests (Some p) s r h = switched_rests p.0 _ s (record { run = calm p.0 p.1.run _ r.run; callers = r.callers }) h

  pub escape_rests : (s : State) → NamedState Run Wait s → NamedMoved (sw.escape s)
  escape_rests s h = throw_rests (sw.able s.env.links.resumer s.env) (sw.ended s) (able_rests s.env.links.resumer s.env h.env) (ended_rests s h)

  pub taken_down_rests : (s : State) → NamedState Run Wait s → NamedMoved (sw.taken_down s)
  taken_down_rests s h = go_on_rests (sw.able s.env.links.destroyer s.env) (sw.ended s) (able_rests s.env.links.destroyer s.env h.env) (ended_rests s h)

  over_rests : (n : Exec) (s : State) → NamedState Run Wait s → NamedState Run Wait (sw.over n s)
  over_rests n s h = with_env s h (links_keeps (λ l. record l { live = false; stage = Ended }) n s.env h.env)

  take_down_stage : (g : Stage) (n : Exec) (x : Ex) (s : State) → NamedEx Run Wait n x → NamedState Run Wait s → NamedMoved (sw.take_down_at g n x s)
  take_down_stage Fresh n x s r h = over_rests n s h
  take_down_stage Started n x s r h = switched_rests n _ s (record { run = calm n x.run _ r.run; callers = r.callers }) h
  take_down_stage Ended n x s r h = over_rests n s h

  take_down_slot : (n : Exec) (o : Option Ex) (s : State) → NamedSlot Run Wait n o → NamedState Run Wait s → NamedMoved (sw.take_down_by n o s)
  take_down_slot n None s r h = h
  take_down_slot n (Some x) s r h = take_down_stage x.links.stage n x s r h

  pub take_down_rests : (o : Option Exec) (s : State) → NamedState Run Wait s → NamedMoved (sw.take_down o s)
  take_down_rests None s h = h
  take_down_rests (Some n) s h = take_down_slot n (parked_at n s.env) s (parked_rests n s.env h.env) h
