-- What holds of all executions goes on to hold where members, executions and who runs change.
use Rattle.std.proofs.Common.{◌≡◌, ℕ, length, ap, ◌∙◌, true, false, List, [], ◌∷◌, ◌++◌, Option, Some, None, refl, sym, subst, Bool}
use Rattle.std.specs.Prelude.{nat_eq, if◌then◌else◌}
use Rattle.uc_entry.specs.declared.fault.RunFault.TheVariants.{ResumeInUse, SwitchInUnwind}
use Rattle.uc_entry.specs.Keyed.{find}
use Rattle.uc_machine.specs.declared.exec.Exec.{Exec}
use Rattle.uc_machine.specs.declared.exec.Home.{Home}
use Rattle.uc_machine.specs.declared.exec.Home.TheVariants as home
use Rattle.uc_machine.specs.declared.exec.Owner.{Owner}
use Rattle.uc_machine.specs.declared.exec.Owner.TheVariants.{Frame, Fields}
use Rattle.uc_machine.specs.declared.exec.Stage.{Stage}
use Rattle.uc_machine.specs.declared.exec.Stage.TheVariants.{Fresh, Started, Ended}
use Rattle.uc_machine.specs.Executions.{Execution, Links, update, exec_eq, joined, members_at, set_members, change, change_in, slot_in, parked_at, frames_by, frames_changed, frame_changed, value_changed, with_owned, with_frames, at_depth, list_in}
use Rattle.uc_machine.specs.Switches as sw
use Rattle.uc_machine.specs.Switches.{Moved, To, Stops}
use Rattle.uc_machine.specs.Pieces.{Value, Number, Place, Running, Object, Nothing, Todo, Active, State, Env, Members, address, stored, nought, written}
use Rattle.uc_state_laws.specs.There.{IsLoose, Pends, AllCounted, AtDrop, frame_at}
use Rattle.uc_state_laws.specs.ThereStates.{StackAside, InFrame, Aside, CountedStack, CountedEx, CountedSlot, CountedParked, CountedHand, CountedMembers, CountedEnv, CountedState}
use Rattle.uc_state_laws.proofs.Cells.{either, set_length, drop_kept, list_stored, list_aside, drop_aside, stack_stored, stack_aside}

abbrev pub Ex : Type 0
Ex = Execution (List Todo) Value

module _ (Few : ℕ → Bool) where
  -- the same, of what has the same hand and house
  pub like : {e f : Env} → CountedEnv Few e → f.hand ≡ e.hand → f.house ≡ e.house → CountedEnv Few f
  like {e} {f} s h g = record {
    house = subst (λ m. CountedParked Few m.parked) (sym g) s.house;
    hand = subst (CountedHand Few) (sym h) s.hand;
  }

  -- members of a home

  found_parked : (k : ℕ) (ps : List (ℕ × Option Ex)) → CountedParked Few ps → CountedSlot Few (joined (find k ps))
  found_parked k [] h = tt
  found_parked k (p ∷ ps) h = either (λ o. CountedSlot Few (joined o)) (nat_eq p.0 k) (Some p.1) (find k ps) h.0 (found_parked k ps h.1)

  pub found_hand : (k : ℕ) (ps : List (ℕ × Members)) → CountedHand Few ps → CountedMembers Few (find k ps)
  found_hand k [] h = tt
  found_hand k (p ∷ ps) h = either (CountedMembers Few) (nat_eq p.0 k) (Some p.1) (find k ps) h.0 (found_hand k ps h.1)

  slot_in_rests : (k : ℕ) (o : Option Members) → CountedMembers Few o → CountedSlot Few (joined (slot_in k o))
  slot_in_rests k None h = tt
  slot_in_rests k (Some m) h = found_parked k m.parked h

  update_parked : (k : ℕ) (o : Option Ex) (ps : List (ℕ × Option Ex)) → CountedSlot Few o → CountedParked Few ps → CountedParked Few (update k o ps)
  update_parked k o [] r h = tt
  update_parked k o (p ∷ ps) r h = either (CountedParked Few) (nat_eq p.0 k) ((k, o) ∷ ps) (p ∷ update k o ps) (r, h.1) (h.0, update_parked k o ps r h.1)

  without_parked : (k : ℕ) (ps : List (ℕ × Option Ex)) → CountedParked Few ps → CountedParked Few (sw.without k ps)
  without_parked k [] h = tt
  without_parked k (p ∷ ps) h = either (CountedParked Few) (nat_eq p.0 k) ps (p ∷ sw.without k ps) h.1 (h.0, without_parked k ps h.1)

  more_parked : (k : ℕ) (x : Ex) (ps : List (ℕ × Option Ex)) → CountedEx Few x → CountedParked Few ps → CountedParked Few (ps ++ (k, Some x) ∷ [])
  more_parked k x [] r h = (r, tt)
  more_parked k x (p ∷ ps) r h = (h.0, more_parked k x ps r h.1)

  update_hand : (k : ℕ) (m : Members) (ps : List (ℕ × Members)) → CountedParked Few m.parked → CountedHand Few ps → CountedHand Few (update k m ps)
  update_hand k m [] r h = tt
  update_hand k m (p ∷ ps) r h = either (CountedHand Few) (nat_eq p.0 k) ((k, m) ∷ ps) (p ∷ update k m ps) (r, h.1) (h.0, update_hand k m ps r h.1)

  members_rests : (h : Home) (e : Env) → CountedEnv Few e → CountedMembers Few (members_at h e)
  members_rests (home.Task t) e s = either (CountedMembers Few) (nat_eq t e.own) (Some e.house) None s.house tt
  members_rests (home.Object o) e s = found_hand o e.hand s.hand

  pub parked_rests : (n : Exec) (e : Env) → CountedEnv Few e → CountedSlot Few (parked_at n e)
  parked_rests n e s = slot_in_rests n.serial (members_at n.home e) (members_rests n.home e s)

  -- changes of what is at home somewhere

  abbrev pub KeepsParked : (Members → Members) → Type 0
  KeepsParked f = (m : Members) → CountedParked Few m.parked → CountedParked Few (f m).parked

  housed : (m : Members) (e : Env) → CountedParked Few m.parked → CountedEnv Few e → CountedEnv Few (record e { house = m })
  housed m e h s = record { house = h; hand = s.hand }

  set_rests : (h : Home) (m : Members) (e : Env) → CountedParked Few m.parked → CountedEnv Few e → CountedEnv Few (set_members h m e)
  set_rests (home.Task t) m e r s = either (CountedEnv Few) (nat_eq t e.own) (record e { house = m }) e (housed m e r s) s
  set_rests (home.Object o) m e r s = record { house = s.house; hand = update_hand o m e.hand r s.hand }

  change_by : (h : Home) (f : Members → Members) (o : Option Members) (e : Env) → KeepsParked f → CountedMembers Few o → CountedEnv Few e → CountedEnv Few (change_in h f o e)
  change_by h f None e k m s = s
  change_by h f (Some x) e k m s = set_rests h (f x) e (k x m) s

  pub change_rests : (h : Home) (f : Members → Members) (e : Env) → KeepsParked f → CountedEnv Few e → CountedEnv Few (change h f e)
  change_rests h f e k s = change_by h f (members_at h e) e k (members_rests h e s) s

  -- the frames of the running execution stay as they are

  set_members_frames : (h : Home) (m : Members) (e : Env) → (set_members h m e).frames ≡ e.frames
  set_members_frames (home.Task t) m e = either (λ (d : Env). d.frames ≡ e.frames) (nat_eq t e.own) (record e { house = m }) e refl refl
  set_members_frames (home.Object o) m e = refl

  change_in_frames : (h : Home) (f : Members → Members) (o : Option Members) (e : Env) → (change_in h f o e).frames ≡ e.frames
  change_in_frames h f None e = refl
  change_in_frames h f (Some x) e = set_members_frames h (f x) e

  change_frames : (h : Home) (f : Members → Members) (e : Env) → (change h f e).frames ≡ e.frames
  change_frames h f e = change_in_frames h f (members_at h e) e

  -- who runs stays the same

  set_members_exec : (h : Home) (m : Members) (e : Env) → (set_members h m e).exec ≡ e.exec
  set_members_exec (home.Task t) m e = either (λ (d : Env). d.exec ≡ e.exec) (nat_eq t e.own) (record e { house = m }) e refl refl
  set_members_exec (home.Object o) m e = refl

  change_in_exec : (h : Home) (f : Members → Members) (o : Option Members) (e : Env) → (change_in h f o e).exec ≡ e.exec
  change_in_exec h f None e = refl
  change_in_exec h f (Some x) e = set_members_exec h (f x) e

  pub change_exec : (h : Home) (f : Members → Members) (e : Env) → (change h f e).exec ≡ e.exec
  change_exec h f e = change_in_exec h f (members_at h e) e

  -- a task changes, but all that is there in the running execution stays so, and all executions that do not run are in order
  pub record Keeps (e f : Env) : Type 0 where
    pub frames : length f.frames ≡ length e.frames
    pub stack : (cs : List Active) → CountedStack Few e.frames cs → CountedStack Few f.frames cs
    pub lists : (d : ℕ) (todo : List Todo) → AllCounted Few (frame_at d e.frames) todo → AllCounted Few (frame_at d f.frames) todo
    pub env : CountedEnv Few f

  pub keeps_both : {e f g : Env} → Keeps e f → Keeps f g → Keeps e g
  keeps_both h k = record { frames = k.frames ∙ h.frames; stack = λ cs x. k.stack cs (h.stack cs x); lists = λ d todo x. k.lists d todo (h.lists d todo x); env = k.env }

  -- with the same frames
  pub keeps_frames : {e f : Env} → f.frames ≡ e.frames → CountedEnv Few f → Keeps e f
  keeps_frames q h = record { frames = ap length q; stack = λ cs x. subst (λ fs. CountedStack Few fs cs) (sym q) x; lists = λ d todo x. subst (λ fs. AllCounted Few (frame_at d fs) todo) (sym q) x; env = h }

  pub keeps_like : {e f : Env} → CountedEnv Few e → f.frames ≡ e.frames → f.hand ≡ e.hand → f.house ≡ e.house → Keeps e f
  keeps_like s q h g = keeps_frames q (like s h g)

  keeps_change : (h : Home) (f : Members → Members) (e : Env) → KeepsParked f → CountedEnv Few e → Keeps e (change h f e)
  keeps_change h f e k s = keeps_frames (change_frames h f e) (change_rests h f e k s)

  -- writes

  abbrev KeepsFrames : (List (List Value) → List (List Value)) → Type 0
  KeepsFrames f = (fs : List (List Value)) → (length (f fs) ≡ length fs) × ((cs : List Active) → CountedStack Few fs cs → CountedStack Few (f fs) cs) × ((d : ℕ) (todo : List Todo) → AllCounted Few (frame_at d fs) todo → AllCounted Few (frame_at d (f fs)) todo)

  frames_kept : (n : ℕ) (f : List (List Value) → List (List Value)) (o : Option Ex) (m : Members) → KeepsFrames f → CountedSlot Few o → CountedParked Few m.parked → CountedParked Few (frames_by n f o m).parked
  frames_kept n f None m same r h = h
  frames_kept n f (Some x) m same r h =
      update_parked n (Some (record x { frames = f x.frames })) m.parked (record { frames = (same x.frames).0 ∙ r.frames; stack = (same x.frames).1 (x.run ∷ x.callers) r.stack }) h

  with_frames_keeps : (n : Exec) (f : List (List Value) → List (List Value)) (e : Env) → KeepsFrames f → CountedEnv Few e → Keeps e (with_frames n f e)
  with_frames_keeps n f e same s =
      either (Keeps e) (exec_eq n e.exec) (record e { frames = f e.frames }) (change n.home (frames_changed n.serial f) e) (record { frames = (same e.frames).0; stack = (same e.frames).1; lists = (same e.frames).2; env = like s refl refl }) (keeps_change n.home (frames_changed n.serial f) e (λ m h. frames_kept n.serial f (joined (find n.serial m.parked)) m same (found_parked n.serial m.parked h) h) s)

  -- of a mutex object anything may be written
  fields_keeps : (o k : ℕ) (v : Value) (e : Env) → CountedEnv Few e → Keeps e (with_owned (Fields o) (value_changed k (stored v) nought) e)
  fields_keeps o k v e s = keeps_change (home.Object o) _ e (λ m h. h) s

  owned_keeps : (o : Owner) (k : ℕ) (v : Value) → IsLoose v → (e : Env) → CountedEnv Few e → Keeps e (with_owned o (value_changed k (stored v) nought) e)
  owned_keeps (Frame n d) k v l e s =
      with_frames_keeps n (frame_changed d (value_changed k (stored v) nought)) e (λ fs. (set_length fs d (value_changed k (stored v) nought (list_in (at_depth fs d))), λ cs h. stack_stored Few d k v l fs cs h, λ f todo h. list_stored Few d k v l fs f todo h)) s
  owned_keeps (Fields o) k v l e s = fields_keeps o k v e s

  pub written_keeps : (v w : Value) → IsLoose w → (e : Env) → CountedEnv Few e → Keeps e (written v w e)
  written_keeps (Number n) w l e s = keeps_like s refl refl refl
  written_keeps (Place o p) w l e s = owned_keeps o (address p) w l e s
  written_keeps (Running x) w l e s = keeps_like s refl refl refl
  written_keeps (Object o) w l e s = fields_keeps o 0 w e s
  written_keeps Nothing w l e s = keeps_like s refl refl refl

  -- the frames of the running execution, for an activation that runs with this to do and those that wait
  pub record KeepsAt (d : ℕ) (todo : List Todo) (cs : List Active) (e f : Env) : Type 0 where
    pub frames : length f.frames ≡ length e.frames
    pub stack : CountedStack Few e.frames cs → CountedStack Few f.frames cs
    pub list : AllCounted Few (frame_at d e.frames) todo → AllCounted Few (frame_at d f.frames) todo
    pub drop : AtDrop Few (frame_at d e.frames) todo → AtDrop Few (frame_at d f.frames) todo
    pub env : CountedEnv Few f

  pub keeps_at : {e f : Env} (d : ℕ) (todo : List Todo) (cs : List Active) → Keeps e f → KeepsAt d todo cs e f
  keeps_at {e} {f} d todo cs k =
      record { frames = k.frames; stack = k.stack cs; list = k.lists d todo; drop = drop_kept Few (frame_at d e.frames) (frame_at d f.frames) (k.lists d) todo; env = k.env }

  pub keeps_then : {e f g : Env} (d : ℕ) (todo : List Todo) (cs : List Active) → Keeps e f → KeepsAt d todo cs f g → KeepsAt d todo cs e g
  keeps_then {e} {f} {g} d todo cs h k =
      record { frames = k.frames ∙ h.frames; stack = λ x. k.stack (h.stack cs x); list = λ x. k.list (h.lists d todo x); drop = λ x. k.drop (drop_kept Few (frame_at d e.frames) (frame_at d f.frames) (h.lists d) todo x); env = k.env }

  -- what is no object is bound aside

  frame_aside : (n : Exec) (x k : ℕ) (v : Value) (d : ℕ) (todo : List Todo) (cs : List Active) (e : Env) → exec_eq n e.exec ≡ true → (d ≡ x → Pends (λ p. address p ≡ k → ⊥) todo) → StackAside k x cs → CountedEnv Few e → KeepsAt d todo cs e (with_owned (Frame n x) (value_changed k (stored v) nought) e)
  frame_aside n x k v d todo cs e own q a s =
      subst (λ (b : Bool). KeepsAt d todo cs e (if b then record e { frames = frame_changed x (value_changed k (stored v) nought) e.frames } else change n.home (frames_changed n.serial (frame_changed x (value_changed k (stored v) nought))) e)) (sym own) (record {
        frames = set_length e.frames x (value_changed k (stored v) nought (list_in (at_depth e.frames x)));
        stack = λ h. stack_aside Few x k v e.frames cs a h;
        list = λ h. list_aside Few x k v e.frames d todo q h;
        drop = λ h. drop_aside Few x k v e.frames d todo q h;
        env = like s refl refl;
      })

  owned_aside : (o : Owner) (k : ℕ) (v : Value) (d : ℕ) (todo : List Todo) (cs : List Active) (e : Env) → InFrame o k d todo cs e → CountedEnv Few e → KeepsAt d todo cs e (with_owned o (value_changed k (stored v) nought) e)
  owned_aside (Frame n x) k v d todo cs e a s = frame_aside n x k v d todo cs e a.0 a.1 a.2 s
  owned_aside (Fields o) k v d todo cs e a s = keeps_at d todo cs (fields_keeps o k v e s)

  pub written_aside : (v w : Value) (d : ℕ) (todo : List Todo) (cs : List Active) (e : Env) → Aside v d todo cs e → CountedEnv Few e → KeepsAt d todo cs e (written v w e)
  written_aside (Number n) w d todo cs e a s = keeps_at d todo cs (keeps_like s refl refl refl)
  written_aside (Place o p) w d todo cs e a s = owned_aside o (address p) w d todo cs e a s
  written_aside (Running x) w d todo cs e a s = keeps_at d todo cs (keeps_like s refl refl refl)
  written_aside (Object o) w d todo cs e a s = keeps_at d todo cs (fields_keeps o 0 w e s)
  written_aside Nothing w d todo cs e a s = keeps_at d todo cs (keeps_like s refl refl refl)

  -- executions are made and go, and their links change

  pub born_keeps : (h : Home) (x : Ex) (e : Env) → CountedEx Few x → CountedEnv Few e → Keeps e (sw.born h x e)
  born_keeps h x e r s = keeps_change h (sw.one_more x) e (λ m p. more_parked m.serial x m.parked r p) s

  pub forgotten_keeps : (o : Option Exec) (e : Env) → CountedEnv Few e → Keeps e (sw.forgotten o e)
  forgotten_keeps None e s = keeps_like s refl refl refl
  forgotten_keeps (Some n) e s = keeps_change n.home (sw.slot_gone n.serial) e (λ m h. without_parked n.serial m.parked h) s

  links_kept : (g : Links → Links) (n : ℕ) (o : Option Ex) (m : Members) → CountedSlot Few o → CountedParked Few m.parked → CountedParked Few (sw.links_by g n o m).parked
  links_kept g n None m r h = h
  links_kept g n (Some x) m r h = update_parked n (Some (record x { links = g x.links })) m.parked (record { frames = r.frames; stack = r.stack }) h

  pub links_keeps : (g : Links → Links) (n : Exec) (e : Env) → CountedEnv Few e → Keeps e (sw.with_links g n e)
  links_keeps g n e s =
      either (Keeps e) (exec_eq n e.exec) (record e { links = g e.links }) (change n.home (sw.links_changed g n.serial) e) (keeps_like s refl refl refl) (keeps_change n.home (sw.links_changed g n.serial) e (λ m h. links_kept g n.serial (joined (find n.serial m.parked)) m (found_parked n.serial m.parked h) h) s)

  pub enlivened_keeps : (o : Option Exec) (e : Env) → CountedEnv Few e → Keeps e (sw.enlivened o e)
  enlivened_keeps None e s = keeps_like s refl refl refl
  enlivened_keeps (Some n) e s = links_keeps (λ l. record l { live = true }) n e s

  slot_rests : (n : Exec) (o : Option Ex) (e : Env) → CountedSlot Few o → CountedEnv Few e → CountedEnv Few (sw.set_slot n o e)
  slot_rests n o e r s = change_rests n.home (sw.slot_set n.serial o) e (λ m h. update_parked n.serial o m.parked r h) s

  -- switches

  abbrev pub CountedMoved : Moved (List Todo) Value → Type 0
  CountedMoved (To s) = CountedState Few s
  CountedMoved (Stops f) = Unit {0}

  -- who may be activated
  abbrev pub CountedNext : Option (Exec × Ex) → Type 0
  CountedNext None = Unit {0}
  CountedNext (Some p) = CountedEx Few p.1

  pub switched_rests : (n : Exec) (x : Ex) (s : State) → CountedEx Few x → CountedState Few s → CountedState Few (sw.switched n x s)
  switched_rests n x s r h = record {
    frames = r.frames;
    stack = r.stack;
    env = like (slot_rests s.env.exec (Some (sw.stopped s)) (sw.set_slot n None s.env) (record { frames = h.frames; stack = h.stack }) (slot_rests n None s.env tt h.env)) refl refl;
  }

  able_stage : (g : Stage) (n : Exec) (x : Ex) → CountedEx Few x → CountedNext (sw.able_at g n x)
  able_stage Fresh n x r = tt
  able_stage Started n x r = r
  able_stage Ended n x r = tt

  able_slot : (n : Exec) (o : Option Ex) → CountedSlot Few o → CountedNext (sw.able_by n o)
  able_slot n None r = tt
  able_slot n (Some x) r = able_stage x.links.stage n x r

  pub able_rests : (o : Option Exec) (e : Env) → CountedEnv Few e → CountedNext (sw.able o e)
  able_rests None e s = tt
  able_rests (Some n) e s = able_slot n (parked_at n e) (parked_rests n e s)

  pub or_rests : (a b : Option (Exec × Ex)) → CountedNext a → CountedNext b → CountedNext (sw.or_else a b)
  or_rests None b h k = k
  or_rests (Some p) b h k = h

  pub go_on_rests : (o : Option (Exec × Ex)) (s : State) → CountedNext o → CountedState Few s → CountedMoved (sw.go_on o s)
  go_on_rests None s r h = tt
  go_on_rests (Some p) s r h = switched_rests p.0 p.1 s r h

  wake_stage : (g : Stage) (n : Exec) (x : Ex) (s : State) → CountedEx Few x → CountedState Few s → CountedMoved (sw.wake_at g n x s)
  wake_stage Fresh n x s r h = switched_rests n _ s (record { frames = r.frames; stack = r.stack }) h
  wake_stage Started n x s r h = switched_rests n _ s (record { frames = r.frames; stack = r.stack }) h
  wake_stage Ended n x s r h = tt

  wake_slot : (n : Exec) (o : Option Ex) (s : State) → CountedSlot Few o → CountedState Few s → CountedMoved (sw.wake_by n o s)
  wake_slot n None s r h = tt
  wake_slot n (Some x) s r h = wake_stage x.links.stage n x s r h

  wake_one_rests : (o : Option Exec) (s : State) → CountedState Few s → CountedMoved (sw.wake_one o s)
  wake_one_rests None s h = tt
  wake_one_rests (Some n) s h = either CountedMoved (exec_eq n s.env.exec) (Stops ResumeInUse) (sw.wake_by n (parked_at n s.env) s) tt (wake_slot n (parked_at n s.env) s (parked_rests n s.env h.env) h)

  pub wake_rests : (o : Option Exec) (s : State) → CountedState Few s → CountedMoved (sw.wake o s)
  wake_rests o s h = either CountedMoved (sw.in_destruction s.env) (Stops SwitchInUnwind) (sw.wake_one o s) tt (wake_one_rests o s h)

  pub suspend_rests : (s : State) → CountedState Few s → CountedMoved (sw.suspend s)
  suspend_rests s h = either CountedMoved (sw.in_destruction s.env) (Stops SwitchInUnwind) (sw.go_on (sw.able s.env.links.resumer s.env) s) tt (go_on_rests (sw.able s.env.links.resumer s.env) s (able_rests s.env.links.resumer s.env h.env) h)

  ended_rests : (s : State) → CountedState Few s → CountedState Few (sw.ended s)
  ended_rests s h = record { frames = h.frames; stack = h.stack; env = like h.env refl refl }

  pub finish_rests : (s : State) → CountedState Few s → CountedMoved (sw.finish s)
  finish_rests s h =
      go_on_rests (sw.or_else (sw.able s.env.links.starter s.env) (sw.able s.env.links.resumer s.env)) (sw.ended s) (or_rests (sw.able s.env.links.starter s.env) (sw.able s.env.links.resumer s.env) (able_rests s.env.links.starter s.env h.env) (able_rests s.env.links.resumer s.env h.env)) (ended_rests s h)

  throw_rests : (o : Option (Exec × Ex)) (s : State) → CountedNext o → CountedState Few s → CountedMoved (sw.throw_at o s)
  throw_rests None s r h = tt
  throw_rests (Some p) s r h = switched_rests p.0 _ s (record { frames = r.frames; stack = r.stack }) h

  pub escape_rests : (s : State) → CountedState Few s → CountedMoved (sw.escape s)
  escape_rests s h = throw_rests (sw.able s.env.links.resumer s.env) (sw.ended s) (able_rests s.env.links.resumer s.env h.env) (ended_rests s h)

  pub taken_down_rests : (s : State) → CountedState Few s → CountedMoved (sw.taken_down s)
  taken_down_rests s h = go_on_rests (sw.able s.env.links.destroyer s.env) (sw.ended s) (able_rests s.env.links.destroyer s.env h.env) (ended_rests s h)

  over_rests : (n : Exec) (s : State) → CountedState Few s → CountedState Few (sw.over n s)
  over_rests n s h =
      let k : Keeps s.env (sw.with_links (λ l. record l { live = false; stage = Ended }) n s.env) = links_keeps (λ l. record l { live = false; stage = Ended }) n s.env h.env in
      record { frames = k.frames ∙ h.frames; stack = k.stack (s.run ∷ s.callers) h.stack; env = k.env }

  take_down_stage : (g : Stage) (n : Exec) (x : Ex) (s : State) → CountedEx Few x → CountedState Few s → CountedMoved (sw.take_down_at g n x s)
  take_down_stage Fresh n x s r h = over_rests n s h
  take_down_stage Started n x s r h = switched_rests n _ s (record { frames = r.frames; stack = r.stack }) h
  take_down_stage Ended n x s r h = over_rests n s h

  take_down_slot : (n : Exec) (o : Option Ex) (s : State) → CountedSlot Few o → CountedState Few s → CountedMoved (sw.take_down_by n o s)
  take_down_slot n None s r h = h
  take_down_slot n (Some x) s r h = take_down_stage x.links.stage n x s r h

  pub take_down_rests : (o : Option Exec) (s : State) → CountedState Few s → CountedMoved (sw.take_down o s)
  take_down_rests None s h = h
  take_down_rests (Some n) s h = take_down_slot n (parked_at n s.env) s (parked_rests n s.env h.env) h
