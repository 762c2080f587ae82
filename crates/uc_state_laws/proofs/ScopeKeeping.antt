-- What holds of all executions goes on to hold where members, executions and who runs change.
use Rattle.std.proofs.Common.{◌≡◌, ℕ, zero, suc, length, ap, ◌∙◌, Bool, true, false, List, [], ◌∷◌, ◌++◌, Option, Some, None, refl, sym, subst}
use Rattle.std.specs.Prelude.{nat_eq, map, take, drop, replicate, slice_set, if◌then◌else◌}
use Rattle.uc_entry.specs.declared.fault.RunFault.TheVariants.{ResumeInUse, SwitchInUnwind}
use Rattle.uc_entry.specs.Keyed.{find}
use Rattle.uc_machine.specs.declared.exec.Exec.{Exec}
use Rattle.uc_machine.specs.declared.exec.Home.{Home}
use Rattle.uc_machine.specs.declared.exec.Home.TheVariants as home
use Rattle.uc_machine.specs.declared.exec.Owner.{Owner}
use Rattle.uc_machine.specs.declared.exec.Owner.TheVariants.{Frame, Fields}
use Rattle.uc_machine.specs.declared.exec.UnwindReason.{UnwindReason}
use Rattle.uc_machine.specs.declared.exec.Stage.{Stage}
use Rattle.uc_machine.specs.declared.exec.Stage.TheVariants.{Fresh, Started, Ended}
use Rattle.uc_machine.specs.Executions.{Execution, Links, update, exec_eq, joined, value_changed, values_cleared, members_at, set_members, change, change_in, slot_in, parked_at, frames_by, frames_changed, frame_changed, with_owned, with_frames, set_depth, at_depth, list_in}
use Rattle.uc_machine.specs.Switches as sw
use Rattle.uc_machine.specs.Switches.{Moved, To, Stops}
use Rattle.uc_machine.specs.Pieces.{Value, Number, Place, Running, Object, Nothing, Todo, Active, State, Env, Members, nought, stored, written}
use Rattle.uc_site_laws.proofs.Kept.{either}
use Rattle.uc_state_laws.specs.RoomStacks.{frame_cells, Stacked, Stack, StackEx, StackSlot, StackParked, StackHand, StackMembers, StackEnv, StackState}
use Rattle.uc_state_laws.proofs.Stacks.{as_many, stack_same}

-- a frame is changed and keeps its cells

set_frames : (xs : List (List Value)) (d : ℕ) (y : List Value) → length y ≡ frame_cells xs d → map length (set_depth xs d y) ≡ map length xs
set_frames [] d y e = refl
set_frames (x ∷ xs) d y e = by (nat_eq d (length xs)) e (λ k. set_frames xs d y k)
  where
    by : (b : Bool) → length y ≡ length (list_in (if b then Some x else at_depth xs d)) → (length y ≡ frame_cells xs d → map length (set_depth xs d y) ≡ map length xs) → map length (if b then y ∷ xs else x ∷ set_depth xs d y) ≡ map length (x ∷ xs)
    by true e k = ap (λ n. n ∷ map length xs) e
    by false e k = ap (λ ns. length x ∷ ns) (k e)

-- so many values stay so many
abbrev pub KeepsCells : (List Value → List Value) → Type 0
KeepsCells f = (vs : List Value) → length (f vs) ≡ length vs

set_cells : (vs : List Value) (k : ℕ) (v : Value) → length (slice_set vs k v) ≡ length vs
set_cells [] k v = refl
set_cells (x ∷ vs) zero v = refl
set_cells (x ∷ vs) (suc k) v = ap suc (set_cells vs k v)

changed_cells : (k : ℕ) (g : Value → Value) → KeepsCells (value_changed k g nought)
changed_cells k g vs = set_cells vs k _

some_cleared : (n : ℕ) (vs : List Value) → length (replicate (length (take n vs)) nought ++ drop n vs) ≡ length vs
some_cleared zero [] = refl
some_cleared zero (x ∷ vs) = refl
some_cleared (suc n) [] = refl
some_cleared (suc n) (x ∷ vs) = ap suc (some_cleared n vs)

pub cleared_cells : (k n : ℕ) → KeepsCells (values_cleared k n nought)
cleared_cells zero n [] = some_cleared n []
cleared_cells zero n (x ∷ vs) = some_cleared n (x ∷ vs)
cleared_cells (suc k) n [] = some_cleared n []
cleared_cells (suc k) n (x ∷ vs) = ap suc (cleared_cells k n vs)

abbrev pub Ex : Type 0
Ex = Execution (List Todo) Value

module _ (Sized : ℕ → ℕ → Type 0) where
  -- why an activation is unwound tells nothing of its rooms
  pub calmed : (fs : List (List Value)) (a : Active) (cs : List Active) (w : Option UnwindReason) → Stack Sized fs (a ∷ cs) → Stack Sized fs (record a { raised = w } ∷ cs)
  calmed fs a cs w h =
      let k : Stacked Sized fs a cs = h.0 in
      (record { top = k.top; fits = k.fits; cells = k.cells; frame = k.frame; beyond = k.beyond; over = k.over }, h.1)

  -- the same, of what has the same hand and house
  pub like : {e f : Env} → StackEnv Sized e → f.hand ≡ e.hand → f.house ≡ e.house → StackEnv Sized f
  like {e} {f} s h g = record {
    house = subst (λ m. StackParked Sized m.parked) (sym g) s.house;
    hand = subst (StackHand Sized) (sym h) s.hand;
  }

  -- members of a home

  found_parked : (k : ℕ) (ps : List (ℕ × Option Ex)) → StackParked Sized ps → StackSlot Sized (joined (find k ps))
  found_parked k [] h = tt
  found_parked k (p ∷ ps) h = either (λ o. StackSlot Sized (joined o)) (nat_eq p.0 k) (Some p.1) (find k ps) h.0 (found_parked k ps h.1)

  pub found_hand : (k : ℕ) (ps : List (ℕ × Members)) → StackHand Sized ps → StackMembers Sized (find k ps)
  found_hand k [] h = tt
  found_hand k (p ∷ ps) h = either (StackMembers Sized) (nat_eq p.0 k) (Some p.1) (find k ps) h.0 (found_hand k ps h.1)

  slot_in_rests : (k : ℕ) (o : Option Members) → StackMembers Sized o → StackSlot Sized (joined (slot_in k o))
  slot_in_rests k None h = tt
  slot_in_rests k (Some m) h = found_parked k m.parked h

  update_parked : (k : ℕ) (o : Option Ex) (ps : List (ℕ × Option Ex)) → StackSlot Sized o → StackParked Sized ps → StackParked Sized (update k o ps)
  update_parked k o [] r h = tt
  update_parked k o (p ∷ ps) r h = either (StackParked Sized) (nat_eq p.0 k) ((k, o) ∷ ps) (p ∷ update k o ps) (r, h.1) (h.0, update_parked k o ps r h.1)

  without_parked : (k : ℕ) (ps : List (ℕ × Option Ex)) → StackParked Sized ps → StackParked Sized (sw.without k ps)
  without_parked k [] h = tt
  without_parked k (p ∷ ps) h = either (StackParked Sized) (nat_eq p.0 k) ps (p ∷ sw.without k ps) h.1 (h.0, without_parked k ps h.1)

  more_parked : (k : ℕ) (x : Ex) (ps : List (ℕ × Option Ex)) → StackEx Sized x → StackParked Sized ps → StackParked Sized (ps ++ (k, Some x) ∷ [])
  more_parked k x [] r h = (r, tt)
  more_parked k x (p ∷ ps) r h = (h.0, more_parked k x ps r h.1)

  update_hand : (k : ℕ) (m : Members) (ps : List (ℕ × Members)) → StackParked Sized m.parked → StackHand Sized ps → StackHand Sized (update k m ps)
  update_hand k m [] r h = tt
  update_hand k m (p ∷ ps) r h = either (StackHand Sized) (nat_eq p.0 k) ((k, m) ∷ ps) (p ∷ update k m ps) (r, h.1) (h.0, update_hand k m ps r h.1)

  members_rests : (h : Home) (e : Env) → StackEnv Sized e → StackMembers Sized (members_at h e)
  members_rests (home.Task t) e s = either (StackMembers Sized) (nat_eq t e.own) (Some e.house) None s.house tt
  members_rests (home.Object o) e s = found_hand o e.hand s.hand

  pub parked_rests : (n : Exec) (e : Env) → StackEnv Sized e → StackSlot Sized (parked_at n e)
  parked_rests n e s = slot_in_rests n.serial (members_at n.home e) (members_rests n.home e s)

  -- changes of what is at home somewhere

  abbrev pub KeepsParked : (Members → Members) → Type 0
  KeepsParked f = (m : Members) → StackParked Sized m.parked → StackParked Sized (f m).parked

  housed : (m : Members) (e : Env) → StackParked Sized m.parked → StackEnv Sized e → StackEnv Sized (record e { house = m })
  housed m e h s = record { house = h; hand = s.hand }

  set_rests : (h : Home) (m : Members) (e : Env) → StackParked Sized m.parked → StackEnv Sized e → StackEnv Sized (set_members h m e)
  set_rests (home.Task t) m e r s = either (StackEnv Sized) (nat_eq t e.own) (record e { house = m }) e (housed m e r s) s
  set_rests (home.Object o) m e r s = record { house = s.house; hand = update_hand o m e.hand r s.hand }

  change_by : (h : Home) (f : Members → Members) (o : Option Members) (e : Env) → KeepsParked f → StackMembers Sized o → StackEnv Sized e → StackEnv Sized (change_in h f o e)
  change_by h f None e k m s = s
  change_by h f (Some x) e k m s = set_rests h (f x) e (k x m) s

  pub change_rests : (h : Home) (f : Members → Members) (e : Env) → KeepsParked f → StackEnv Sized e → StackEnv Sized (change h f e)
  change_rests h f e k s = change_by h f (members_at h e) e k (members_rests h e s) s

  -- frames that keep their cells
  abbrev KeepsFrames : (List (List Value) → List (List Value)) → Type 0
  KeepsFrames f = (fs : List (List Value)) → map length (f fs) ≡ map length fs

  frames_kept : (n : ℕ) (f : List (List Value) → List (List Value)) (o : Option Ex) (m : Members) → KeepsFrames f → StackSlot Sized o → StackParked Sized m.parked → StackParked Sized (frames_by n f o m).parked
  frames_kept n f None m same r h = h
  frames_kept n f (Some x) m same r h = update_parked n (Some (record x { frames = f x.frames })) m.parked (record { frames = as_many (f x.frames) x.frames (same x.frames) ∙ r.frames; stack = stack_same Sized x.frames (f x.frames) (x.run ∷ x.callers) (same x.frames) r.stack }) h

  with_frames_rests : (n : Exec) (f : List (List Value) → List (List Value)) (e : Env) → KeepsFrames f → StackEnv Sized e → StackEnv Sized (with_frames n f e)
  with_frames_rests n f e same s =
      either (StackEnv Sized) (exec_eq n e.exec) (record e { frames = f e.frames }) (change n.home (frames_changed n.serial f) e) (like s refl refl) (change_rests n.home (frames_changed n.serial f) e (λ m h. frames_kept n.serial f (joined (find n.serial m.parked)) m same (found_parked n.serial m.parked h) h) s)

  frame_kept : (d : ℕ) (f : List Value → List Value) → KeepsCells f → KeepsFrames (frame_changed d f)
  frame_kept d f k fs = set_frames fs d (f (list_in (at_depth fs d))) (k (list_in (at_depth fs d)))

  pub owned_rests : (o : Owner) (f : List Value → List Value) (e : Env) → KeepsCells f → StackEnv Sized e → StackEnv Sized (with_owned o f e)
  owned_rests (Frame n d) f e k s = with_frames_rests n (frame_changed d f) e (frame_kept d f k) s
  owned_rests (Fields o) f e k s = change_rests (home.Object o) _ e (λ m h. h) s

  pub written_rests : (v w : Value) (e : Env) → StackEnv Sized e → StackEnv Sized (written v w e)
  written_rests (Number n) w e s = s
  written_rests (Place o p) w e s = owned_rests o _ e (changed_cells _ (stored w)) s
  written_rests (Running x) w e s = s
  written_rests (Object o) w e s = owned_rests (Fields o) _ e (changed_cells 0 (stored w)) s
  written_rests Nothing w e s = s

  -- the frames of what runs keep their cells

  set_members_frames : (h : Home) (m : Members) (e : Env) → (set_members h m e).frames ≡ e.frames
  set_members_frames (home.Task t) m e = either (λ (d : Env). d.frames ≡ e.frames) (nat_eq t e.own) (record e { house = m }) e refl refl
  set_members_frames (home.Object o) m e = refl

  change_in_frames : (h : Home) (f : Members → Members) (o : Option Members) (e : Env) → (change_in h f o e).frames ≡ e.frames
  change_in_frames h f None e = refl
  change_in_frames h f (Some x) e = set_members_frames h (f x) e

  pub change_frames : (h : Home) (f : Members → Members) (e : Env) → (change h f e).frames ≡ e.frames
  change_frames h f e = change_in_frames h f (members_at h e) e

  pub owned_frames : (o : Owner) (f : List Value → List Value) (e : Env) → KeepsCells f → map length (with_owned o f e).frames ≡ map length e.frames
  owned_frames (Frame n d) f e k =
      either (λ (g : Env). map length g.frames ≡ map length e.frames) (exec_eq n e.exec) (record e { frames = frame_changed d f e.frames }) (change n.home (frames_changed n.serial (frame_changed d f)) e) (frame_kept d f k e.frames) (ap (map length) (change_frames n.home (frames_changed n.serial (frame_changed d f)) e))
  owned_frames (Fields o) f e k = ap (map length) (change_frames (home.Object o) _ e)

  pub written_frames : (v w : Value) (e : Env) → map length (written v w e).frames ≡ map length e.frames
  written_frames (Number n) w e = refl
  written_frames (Place o p) w e = owned_frames o _ e (changed_cells _ (stored w))
  written_frames (Running x) w e = refl
  written_frames (Object o) w e = owned_frames (Fields o) _ e (changed_cells 0 (stored w))
  written_frames Nothing w e = refl

  pub with_links_frames : (g : Links → Links) (n : Exec) (e : Env) → (sw.with_links g n e).frames ≡ e.frames
  with_links_frames g n e =
      either (λ (d : Env). d.frames ≡ e.frames) (exec_eq n e.exec) (record e { links = g e.links }) (change n.home (sw.links_changed g n.serial) e) refl (change_frames n.home (sw.links_changed g n.serial) e)

  pub enlivened_frames : (o : Option Exec) (e : Env) → (sw.enlivened o e).frames ≡ e.frames
  enlivened_frames None e = refl
  enlivened_frames (Some n) e = with_links_frames (λ l. record l { live = true }) n e

  pub forgotten_frames : (o : Option Exec) (e : Env) → (sw.forgotten o e).frames ≡ e.frames
  forgotten_frames None e = refl
  forgotten_frames (Some n) e = change_frames n.home (sw.slot_gone n.serial) e

  -- executions are made and go, and their links change

  pub born_rests : (h : Home) (x : Ex) (e : Env) → StackEx Sized x → StackEnv Sized e → StackEnv Sized (sw.born h x e)
  born_rests h x e r s = change_rests h (sw.one_more x) e (λ m p. more_parked m.serial x m.parked r p) s

  pub forgotten_rests : (o : Option Exec) (e : Env) → StackEnv Sized e → StackEnv Sized (sw.forgotten o e)
  forgotten_rests None e s = s
  forgotten_rests (Some n) e s = change_rests n.home (sw.slot_gone n.serial) e (λ m h. without_parked n.serial m.parked h) s

  links_kept : (g : Links → Links) (n : ℕ) (o : Option Ex) (m : Members) → StackSlot Sized o → StackParked Sized m.parked → StackParked Sized (sw.links_by g n o m).parked
  links_kept g n None m r h = h
  links_kept g n (Some x) m r h = update_parked n (Some (record x { links = g x.links })) m.parked (record { frames = r.frames; stack = r.stack }) h

  pub with_links_rests : (g : Links → Links) (n : Exec) (e : Env) → StackEnv Sized e → StackEnv Sized (sw.with_links g n e)
  with_links_rests g n e s =
      either (StackEnv Sized) (exec_eq n e.exec) (record e { links = g e.links }) (change n.home (sw.links_changed g n.serial) e) (like s refl refl) (change_rests n.home (sw.links_changed g n.serial) e (λ m h. links_kept g n.serial (joined (find n.serial m.parked)) m (found_parked n.serial m.parked h) h) s)

  pub enlivened_rests : (o : Option Exec) (e : Env) → StackEnv Sized e → StackEnv Sized (sw.enlivened o e)
  enlivened_rests None e s = s
  enlivened_rests (Some n) e s = with_links_rests (λ l. record l { live = true }) n e s

  slot_rests : (n : Exec) (o : Option Ex) (e : Env) → StackSlot Sized o → StackEnv Sized e → StackEnv Sized (sw.set_slot n o e)
  slot_rests n o e r s = change_rests n.home (sw.slot_set n.serial o) e (λ m h. update_parked n.serial o m.parked r h) s

  -- switches

  abbrev pub StackMoved : Moved (List Todo) Value → Type 0
  StackMoved (To s) = StackState Sized s
  StackMoved (Stops f) = Unit {0}

  -- who may be activated
  abbrev pub StackNext : Option (Exec × Ex) → Type 0
  StackNext None = Unit {0}
  StackNext (Some p) = StackEx Sized p.1

  pub switched_rests : (n : Exec) (x : Ex) (s : State) → StackEx Sized x → StackState Sized s → StackState Sized (sw.switched n x s)
  switched_rests n x s r h = record {
    frames = r.frames;
    stack = r.stack;
    env = like (slot_rests s.env.exec (Some (sw.stopped s)) (sw.set_slot n None s.env) (record { frames = h.frames; stack = h.stack }) (slot_rests n None s.env tt h.env)) refl refl;
  }

  able_stage : (g : Stage) (n : Exec) (x : Ex) → StackEx Sized x → StackNext (sw.able_at g n x)
  able_stage Fresh n x r = tt
  able_stage Started n x r = r
  able_stage Ended n x r = tt

  able_slot : (n : Exec) (o : Option Ex) → StackSlot Sized o → StackNext (sw.able_by n o)
  able_slot n None r = tt
  able_slot n (Some x) r = able_stage x.links.stage n x r

  pub able_rests : (o : Option Exec) (e : Env) → StackEnv Sized e → StackNext (sw.able o e)
  able_rests None e s = tt
  able_rests (Some n) e s = able_slot n (parked_at n e) (parked_rests n e s)

  pub or_rests : (a b : Option (Exec × Ex)) → StackNext a → StackNext b → StackNext (sw.or_else a b)
  or_rests None b h k = k
  or_rests (Some p) b h k = h

  pub go_on_rests : (o : Option (Exec × Ex)) (s : State) → StackNext o → StackState Sized s → StackMoved (sw.go_on o s)
  go_on_rests None s r h = tt
  go_on_rests (Some p) s r h = switched_rests p.0 p.1 s r h

  wake_stage : (g : Stage) (n : Exec) (x : Ex) (s : State) → StackEx Sized x → StackState Sized s → StackMoved (sw.wake_at g n x s)
  wake_stage Fresh n x s r h = switched_rests n _ s (record { frames = r.frames; stack = r.stack }) h
  wake_stage Started n x s r h = switched_rests n _ s (record { frames = r.frames; stack = r.stack }) h
  wake_stage Ended n x s r h = tt

  wake_slot : (n : Exec) (o : Option Ex) (s : State) → StackSlot Sized o → StackState Sized s → StackMoved (sw.wake_by n o s)
  wake_slot n None s r h = tt
  wake_slot n (Some x) s r h = wake_stage x.links.stage n x s r h

  wake_one_rests : (o : Option Exec) (s : State) → StackState Sized s → StackMoved (sw.wake_one o s)
  wake_one_rests None s h = tt
  wake_one_rests (Some n) s h = either StackMoved (exec_eq n s.env.exec) (Stops ResumeInUse) (sw.wake_by n (parked_at n s.env) s) tt (wake_slot n (parked_at n s.env) s (parked_rests n s.env h.env) h)

  pub wake_rests : (o : Option Exec) (s : State) → StackState Sized s → StackMoved (sw.wake o s)
  wake_rests o s h = either StackMoved (sw.in_destruction s.env) (Stops SwitchInUnwind) (sw.wake_one o s) tt (wake_one_rests o s h)

  pub suspend_rests : (s : State) → StackState Sized s → StackMoved (sw.suspend s)
  suspend_rests s h = either StackMoved (sw.in_destruction s.env) (Stops SwitchInUnwind) (sw.go_on (sw.able s.env.links.resumer s.env) s) tt (go_on_rests (sw.able s.env.links.resumer s.env) s (able_rests s.env.links.resumer s.env h.env) h)

  ended_rests : (s : State) → StackState Sized s → StackState Sized (sw.ended s)
  ended_rests s h = record { frames = h.frames; stack = h.stack; env = like h.env refl refl }

  pub finish_rests : (s : State) → StackState Sized s → StackMoved (sw.finish s)
  finish_rests s h =
      go_on_rests (sw.or_else (sw.able s.env.links.starter s.env) (sw.able s.env.links.resumer s.env)) (sw.ended s) (or_rests (sw.able s.env.links.starter s.env) (sw.able s.env.links.resumer s.env) (able_rests s.env.links.starter s.env h.env) (able_rests s.env.links.resumer s.env h.env)) (ended_rests s h)

  throw_rests : (o : Option (Exec × Ex)) (s : State) → StackNext o → StackState Sized s → StackMoved (sw.throw_at o s)
  throw_rests None s r h = tt
  throw_rests (Some p) s r h = switched_rests p.0 _ s (record { frames = r.frames; stack = calmed p.1.frames p.1.run p.1.callers _ r.stack }) h

  pub escape_rests : (s : State) → StackState Sized s → StackMoved (sw.escape s)
  escape_rests s h = throw_rests (sw.able s.env.links.resumer s.env) (sw.ended s) (able_rests s.env.links.resumer s.env h.env) (ended_rests s h)

  pub taken_down_rests : (s : State) → StackState Sized s → StackMoved (sw.taken_down s)
  taken_down_rests s h = go_on_rests (sw.able s.env.links.destroyer s.env) (sw.ended s) (able_rests s.env.links.destroyer s.env h.env) (ended_rests s h)

  over_rests : (n : Exec) (s : State) → StackState Sized s → StackState Sized (sw.over n s)
  over_rests n s h = record { frames = ap length (with_links_frames (λ l. record l { live = false; stage = Ended }) n s.env) ∙ h.frames; stack = subst (λ fs. Stack Sized fs (s.run ∷ s.callers)) (sym (with_links_frames (λ l. record l { live = false; stage = Ended }) n s.env)) h.stack; env = with_links_rests (λ l. record l { live = false; stage = Ended }) n s.env h.env }

  take_down_stage : (g : Stage) (n : Exec) (x : Ex) (s : State) → StackEx Sized x → StackState Sized s → StackMoved (sw.take_down_at g n x s)
  take_down_stage Fresh n x s r h = over_rests n s h
  take_down_stage Started n x s r h = switched_rests n _ s (record { frames = r.frames; stack = calmed x.frames x.run x.callers _ r.stack }) h
  take_down_stage Ended n x s r h = over_rests n s h

  take_down_slot : (n : Exec) (o : Option Ex) (s : State) → StackSlot Sized o → StackState Sized s → StackMoved (sw.take_down_by n o s)
  take_down_slot n None s r h = h
  take_down_slot n (Some x) s r h = take_down_stage x.links.stage n x s r h

  pub take_down_rests : (o : Option Exec) (s : State) → StackState Sized s → StackMoved (sw.take_down o s)
  take_down_rests None s h = h
  take_down_rests (Some n) s h = take_down_slot n (parked_at n s.env) s (parked_rests n s.env h.env) h
