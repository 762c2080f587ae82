-- Frames stay as large as they are where something is written, and where executions are made, go and change.
use Rattle.std.proofs.Common.{◌≡◌, ◌≤◌, ℕ, zero, suc, length, ap, true, false, List, [], ◌∷◌, ◌++◌, Option, Some, None, refl, sym, subst, arith}
use Rattle.std.specs.Prelude.{nat_eq, take, drop, replicate, slice_set}
use Rattle.uc_entry.specs.declared.fault.RunFault.TheVariants.{ResumeInUse, SwitchInUnwind}
use Rattle.uc_entry.specs.Keyed.{find}
use Rattle.uc_machine.specs.declared.exec.Exec.{Exec}
use Rattle.uc_machine.specs.declared.exec.Home.{Home}
use Rattle.uc_machine.specs.declared.exec.Home.TheVariants as home
use Rattle.uc_machine.specs.declared.exec.Owner.{Owner}
use Rattle.uc_machine.specs.declared.exec.Owner.TheVariants.{Frame, Fields}
use Rattle.uc_machine.specs.declared.exec.Stage.{Stage}
use Rattle.uc_machine.specs.declared.exec.Stage.TheVariants.{Fresh, Started, Ended}
use Rattle.uc_machine.specs.Executions.{Links, update, exec_eq, joined, value_changed, values_cleared, members_at, set_members, change, change_in, slot_in, parked_at, frames_by, frames_changed, frame_changed, with_owned, set_depth, at_depth, list_in, others}
use Rattle.uc_machine.specs.Switches as sw
use Rattle.uc_machine.specs.Switches.{Moved, To, Stops}
use Rattle.uc_machine.specs.Pieces.{Value, Number, Place, Running, Object, Nothing, Todo, State, Env, Members, nought, stored, written}
use Rattle.uc_site_laws.proofs.Kept.{either}
use Rattle.uc_state_laws.specs.FrameSizes.{Ex, FramesFit, SlotFits, ParkedFit, HandFits, MembersFit, EnvFits, StateFits}

-- so many values stay so many
abbrev pub KeepsCells : (List Value → List Value) → Type 0
KeepsCells f = (vs : List Value) → length (f vs) ≡ length vs

set_cells : (vs : List Value) (k : ℕ) (v : Value) → length (slice_set vs k v) ≡ length vs
set_cells [] k v = refl
set_cells (x ∷ vs) zero v = refl
set_cells (x ∷ vs) (suc k) v = ap suc (set_cells vs k v)

changed_cells : (k : ℕ) (g : Value → Value) → KeepsCells (value_changed k g nought)
changed_cells k g vs = set_cells vs k _

some_cleared : (n : ℕ) (vs : List Value) → length (replicate (length (take n vs)) nought ++ drop n vs) ≡ length vs
some_cleared zero [] = refl
some_cleared zero (x ∷ vs) = refl
some_cleared (suc n) [] = refl
some_cleared (suc n) (x ∷ vs) = ap suc (some_cleared n vs)

pub cleared_cells : (k n : ℕ) → KeepsCells (values_cleared k n nought)
cleared_cells zero n [] = some_cleared n []
cleared_cells zero n (x ∷ vs) = some_cleared n (x ∷ vs)
cleared_cells (suc k) n [] = some_cleared n []
cleared_cells (suc k) n (x ∷ vs) = ap suc (cleared_cells k n vs)

module _ (most : ℕ) where
  -- frames

  pub others_fit : (fs : List (List Value)) → FramesFit most fs → FramesFit most (others fs)
  others_fit [] h = tt
  others_fit (f ∷ fs) h = h.1

  pub frame_fits : (fs : List (List Value)) (d : ℕ) → FramesFit most fs → length (list_in (at_depth fs d)) ≤ most
  frame_fits [] d h = omega arith
  frame_fits (f ∷ fs) d h = either (λ o. length (list_in o) ≤ most) (nat_eq d (length fs)) (Some f) (at_depth fs d) h.0 (frame_fits fs d h.1)

  set_fits : (fs : List (List Value)) (d : ℕ) (y : List Value) → length y ≤ most → FramesFit most fs → FramesFit most (set_depth fs d y)
  set_fits [] d y l h = tt
  set_fits (f ∷ fs) d y l h = either (FramesFit most) (nat_eq d (length fs)) (y ∷ fs) (f ∷ set_depth fs d y) (l, h.1) (h.0, set_fits fs d y l h.1)

  changed_fits : (d : ℕ) (g : List Value → List Value) (fs : List (List Value)) → KeepsCells g → FramesFit most fs → FramesFit most (frame_changed d g fs)
  changed_fits d g fs k h = set_fits fs d _ (subst (λ n. n ≤ most) (sym (k (list_in (at_depth fs d)))) (frame_fits fs d h)) h

  -- members of a home

  found_parked : (k : ℕ) (ps : List (ℕ × Option Ex)) → ParkedFit most ps → SlotFits most (joined (find k ps))
  found_parked k [] h = tt
  found_parked k (p ∷ ps) h = either (λ o. SlotFits most (joined o)) (nat_eq p.0 k) (Some p.1) (find k ps) h.0 (found_parked k ps h.1)

  pub found_hand : (k : ℕ) (ps : List (ℕ × Members)) → HandFits most ps → MembersFit most (find k ps)
  found_hand k [] h = tt
  found_hand k (p ∷ ps) h = either (MembersFit most) (nat_eq p.0 k) (Some p.1) (find k ps) h.0 (found_hand k ps h.1)

  slot_fits : (k : ℕ) (o : Option Members) → MembersFit most o → SlotFits most (joined (slot_in k o))
  slot_fits k None h = tt
  slot_fits k (Some m) h = found_parked k m.parked h

  update_parked : (k : ℕ) (o : Option Ex) (ps : List (ℕ × Option Ex)) → SlotFits most o → ParkedFit most ps → ParkedFit most (update k o ps)
  update_parked k o [] r h = tt
  update_parked k o (p ∷ ps) r h = either (ParkedFit most) (nat_eq p.0 k) ((k, o) ∷ ps) (p ∷ update k o ps) (r, h.1) (h.0, update_parked k o ps r h.1)

  without_parked : (k : ℕ) (ps : List (ℕ × Option Ex)) → ParkedFit most ps → ParkedFit most (sw.without k ps)
  without_parked k [] h = tt
  without_parked k (p ∷ ps) h = either (ParkedFit most) (nat_eq p.0 k) ps (p ∷ sw.without k ps) h.1 (h.0, without_parked k ps h.1)

  more_parked : (k : ℕ) (x : Ex) (ps : List (ℕ × Option Ex)) → FramesFit most x.frames → ParkedFit most ps → ParkedFit most (ps ++ (k, Some x) ∷ [])
  more_parked k x [] r h = (r, tt)
  more_parked k x (p ∷ ps) r h = (h.0, more_parked k x ps r h.1)

  update_hand : (k : ℕ) (m : Members) (ps : List (ℕ × Members)) → ParkedFit most m.parked → HandFits most ps → HandFits most (update k m ps)
  update_hand k m [] r h = tt
  update_hand k m (p ∷ ps) r h = either (HandFits most) (nat_eq p.0 k) ((k, m) ∷ ps) (p ∷ update k m ps) (r, h.1) (h.0, update_hand k m ps r h.1)

  members_fit : (h : Home) (e : Env) → EnvFits most e → MembersFit most (members_at h e)
  members_fit (home.Task t) e s = either (MembersFit most) (nat_eq t e.own) (Some e.house) None s.1 tt
  members_fit (home.Object o) e s = found_hand o e.hand s.2

  parked_fits : (n : Exec) (e : Env) → EnvFits most e → SlotFits most (parked_at n e)
  parked_fits n e s = slot_fits n.serial (members_at n.home e) (members_fit n.home e s)

  -- changes of what is at home somewhere

  abbrev KeepsParked : (Members → Members) → Type 0
  KeepsParked f = (m : Members) → ParkedFit most m.parked → ParkedFit most (f m).parked

  set_members_fit : (h : Home) (m : Members) (e : Env) → ParkedFit most m.parked → EnvFits most e → EnvFits most (set_members h m e)
  set_members_fit (home.Task t) m e r s = either (EnvFits most) (nat_eq t e.own) (record e { house = m }) e (s.0, r, s.2) s
  set_members_fit (home.Object o) m e r s = (s.0, s.1, update_hand o m e.hand r s.2)

  change_by : (h : Home) (f : Members → Members) (o : Option Members) (e : Env) → KeepsParked f → MembersFit most o → EnvFits most e → EnvFits most (change_in h f o e)
  change_by h f None e k m s = s
  change_by h f (Some x) e k m s = set_members_fit h (f x) e (k x m) s

  change_fits : (h : Home) (f : Members → Members) (e : Env) → KeepsParked f → EnvFits most e → EnvFits most (change h f e)
  change_fits h f e k s = change_by h f (members_at h e) e k (members_fit h e s) s

  frames_kept : (n d : ℕ) (g : List Value → List Value) (o : Option Ex) (m : Members) → KeepsCells g → SlotFits most o → ParkedFit most m.parked → ParkedFit most (frames_by n (frame_changed d g) o m).parked
  frames_kept n d g None m k r h = h
  frames_kept n d g (Some x) m k r h = update_parked n (Some (record x { frames = frame_changed d g x.frames })) m.parked (changed_fits d g x.frames k r) h

  pub owned_fits : (o : Owner) (g : List Value → List Value) (e : Env) → KeepsCells g → EnvFits most e → EnvFits most (with_owned o g e)
  owned_fits (Frame n d) g e k s =
      either (EnvFits most) (exec_eq n e.exec) (record e { frames = frame_changed d g e.frames }) (change n.home (frames_changed n.serial (frame_changed d g)) e) (changed_fits d g e.frames k s.0, s.1, s.2) (change_fits n.home (frames_changed n.serial (frame_changed d g)) e (λ m h. frames_kept n.serial d g (joined (find n.serial m.parked)) m k (found_parked n.serial m.parked h) h) s)
  owned_fits (Fields o) g e k s = change_fits (home.Object o) _ e (λ m h. h) s

  pub written_fits : (v w : Value) (e : Env) → EnvFits most e → EnvFits most (written v w e)
  written_fits (Number n) w e s = s
  written_fits (Place o p) w e s = owned_fits o _ e (changed_cells _ (stored w)) s
  written_fits (Running x) w e s = s
  written_fits (Object o) w e s = owned_fits (Fields o) _ e (changed_cells 0 (stored w)) s
  written_fits Nothing w e s = s

  -- executions are made and go, and their links change

  pub born_fits : (h : Home) (x : Ex) (e : Env) → FramesFit most x.frames → EnvFits most e → EnvFits most (sw.born h x e)
  born_fits h x e r s = change_fits h (sw.one_more x) e (λ m p. more_parked m.serial x m.parked r p) s

  pub forgotten_fits : (o : Option Exec) (e : Env) → EnvFits most e → EnvFits most (sw.forgotten o e)
  forgotten_fits None e s = s
  forgotten_fits (Some n) e s = change_fits n.home (sw.slot_gone n.serial) e (λ m h. without_parked n.serial m.parked h) s

  links_kept : (g : Links → Links) (n : ℕ) (o : Option Ex) (m : Members) → SlotFits most o → ParkedFit most m.parked → ParkedFit most (sw.links_by g n o m).parked
  links_kept g n None m r h = h
  links_kept g n (Some x) m r h = update_parked n (Some (record x { links = g x.links })) m.parked r h

  pub with_links_fits : (g : Links → Links) (n : Exec) (e : Env) → EnvFits most e → EnvFits most (sw.with_links g n e)
  with_links_fits g n e s =
      either (EnvFits most) (exec_eq n e.exec) (record e { links = g e.links }) (change n.home (sw.links_changed g n.serial) e) s (change_fits n.home (sw.links_changed g n.serial) e (λ m h. links_kept g n.serial (joined (find n.serial m.parked)) m (found_parked n.serial m.parked h) h) s)

  pub enlivened_fits : (o : Option Exec) (e : Env) → EnvFits most e → EnvFits most (sw.enlivened o e)
  enlivened_fits None e s = s
  enlivened_fits (Some n) e s = with_links_fits (λ l. record l { live = true }) n e s

  set_slot_fits : (n : Exec) (o : Option Ex) (e : Env) → SlotFits most o → EnvFits most e → EnvFits most (sw.set_slot n o e)
  set_slot_fits n o e r s = change_fits n.home (sw.slot_set n.serial o) e (λ m h. update_parked n.serial o m.parked r h) s

  -- switches

  abbrev pub MovedFits : Moved (List Todo) Value → Type 0
  MovedFits (To s) = StateFits most s
  MovedFits (Stops f) = Unit {0}

  -- who may be activated
  abbrev NextFits : Option (Exec × Ex) → Type 0
  NextFits None = Unit {0}
  NextFits (Some p) = FramesFit most (p.1).frames

  switched_fits : (n : Exec) (x : Ex) (s : State) → FramesFit most x.frames → StateFits most s → StateFits most (sw.switched n x s)
  switched_fits n x s r h =
      let k : EnvFits most (sw.set_slot s.env.exec (Some (sw.stopped s)) (sw.set_slot n None s.env)) = set_slot_fits s.env.exec (Some (sw.stopped s)) (sw.set_slot n None s.env) h.0 (set_slot_fits n None s.env tt h) in
      (r, k.1, k.2)

  able_stage : (g : Stage) (n : Exec) (x : Ex) → FramesFit most x.frames → NextFits (sw.able_at g n x)
  able_stage Fresh n x r = tt
  able_stage Started n x r = r
  able_stage Ended n x r = tt

  able_slot : (n : Exec) (o : Option Ex) → SlotFits most o → NextFits (sw.able_by n o)
  able_slot n None r = tt
  able_slot n (Some x) r = able_stage x.links.stage n x r

  able_fits : (o : Option Exec) (e : Env) → EnvFits most e → NextFits (sw.able o e)
  able_fits None e s = tt
  able_fits (Some n) e s = able_slot n (parked_at n e) (parked_fits n e s)

  or_fits : (a b : Option (Exec × Ex)) → NextFits a → NextFits b → NextFits (sw.or_else a b)
  or_fits None b h k = k
  or_fits (Some p) b h k = h

  go_on_fits : (o : Option (Exec × Ex)) (s : State) → NextFits o → StateFits most s → MovedFits (sw.go_on o s)
  go_on_fits None s r h = tt
  go_on_fits (Some p) s r h = switched_fits p.0 p.1 s r h

  wake_stage : (g : Stage) (n : Exec) (x : Ex) (s : State) → FramesFit most x.frames → StateFits most s → MovedFits (sw.wake_at g n x s)
  wake_stage Fresh n x s r h = switched_fits n x s r h
  wake_stage Started n x s r h = switched_fits n x s r h
  wake_stage Ended n x s r h = tt

  wake_slot : (n : Exec) (o : Option Ex) (s : State) → SlotFits most o → StateFits most s → MovedFits (sw.wake_by n o s)
  wake_slot n None s r h = tt
  wake_slot n (Some x) s r h = wake_stage x.links.stage n x s r h

  wake_one_fits : (o : Option Exec) (s : State) → StateFits most s → MovedFits (sw.wake_one o s)
  wake_one_fits None s h = tt
  wake_one_fits (Some n) s h = either MovedFits (exec_eq n s.env.exec) (Stops ResumeInUse) (sw.wake_by n (parked_at n s.env) s) tt (wake_slot n (parked_at n s.env) s (parked_fits n s.env h) h)

  pub wake_fits : (o : Option Exec) (s : State) → StateFits most s → MovedFits (sw.wake o s)
  wake_fits o s h = either MovedFits (sw.in_destruction s.env) (Stops SwitchInUnwind) (sw.wake_one o s) tt (wake_one_fits o s h)

  pub suspend_fits : (s : State) → StateFits most s → MovedFits (sw.suspend s)
  suspend_fits s h = either MovedFits (sw.in_destruction s.env) (Stops SwitchInUnwind) (sw.go_on (sw.able s.env.links.resumer s.env) s) tt (go_on_fits (sw.able s.env.links.resumer s.env) s (able_fits s.env.links.resumer s.env h) h)

  pub finish_fits : (s : State) → StateFits most s → MovedFits (sw.finish s)
  finish_fits s h =
      go_on_fits (sw.or_else (sw.able s.env.links.starter s.env) (sw.able s.env.links.resumer s.env)) (sw.ended s) (or_fits (sw.able s.env.links.starter s.env) (sw.able s.env.links.resumer s.env) (able_fits s.env.links.starter s.env h) (able_fits s.env.links.resumer s.env h)) h

  throw_fits : (o : Option (Exec × Ex)) (s : State) → NextFits o → StateFits most s → MovedFits (sw.throw_at o s)
  throw_fits None s r h = tt
  throw_fits (Some p) s r h = switched_fits p.0 p.1 s r h

  pub escape_fits : (s : State) → StateFits most s → MovedFits (sw.escape s)
  escape_fits s h = throw_fits (sw.able s.env.links.resumer s.env) (sw.ended s) (able_fits s.env.links.resumer s.env h) h

  pub taken_down_fits : (s : State) → StateFits most s → MovedFits (sw.taken_down s)
  taken_down_fits s h = go_on_fits (sw.able s.env.links.destroyer s.env) (sw.ended s) (able_fits s.env.links.destroyer s.env h) h

  over_fits : (n : Exec) (s : State) → StateFits most s → StateFits most (sw.over n s)
  over_fits n s h = with_links_fits (λ l. record l { live = false; stage = Ended }) n s.env h

  take_down_stage : (g : Stage) (n : Exec) (x : Ex) (s : State) → FramesFit most x.frames → StateFits most s → MovedFits (sw.take_down_at g n x s)
  take_down_stage Fresh n x s r h = over_fits n s h
  take_down_stage Started n x s r h = switched_fits n x s r h
  take_down_stage Ended n x s r h = over_fits n s h

  take_down_slot : (n : Exec) (o : Option Ex) (s : State) → SlotFits most o → StateFits most s → MovedFits (sw.take_down_by n o s)
  take_down_slot n None s r h = h
  take_down_slot n (Some x) s r h = take_down_stage x.links.stage n x s r h

  pub take_down_fits : (o : Option Exec) (s : State) → StateFits most s → MovedFits (sw.take_down o s)
  take_down_fits None s h = h
  take_down_fits (Some n) s h = take_down_slot n (parked_at n s.env) s (parked_fits n s.env h) h
