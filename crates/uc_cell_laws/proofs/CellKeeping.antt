-- What own cells of frames and of mutex objects hold goes on where members, executions and who runs change.
use Rattle.std.proofs.Common.{◌≡◌, ℕ, ℤ, Bool, length, ap, ◌∙◌, true, false, List, [], Option, Some, None, refl, sym, subst}
use Rattle.std.specs.Prelude.{if◌then◌else◌}
use Rattle.uc_entry.specs.declared.fault.RunFault.TheVariants.{ResumeInUse, SwitchInUnwind}
use Rattle.uc_entry.specs.Keyed.{find}
use Rattle.uc_machine.specs.declared.exec.Exec.{Exec}
use Rattle.uc_machine.specs.declared.exec.Home.{Home}
use Rattle.uc_machine.specs.declared.exec.Home.TheVariants as home
use Rattle.uc_machine.specs.declared.exec.Owner.{Owner}
use Rattle.uc_machine.specs.declared.exec.Owner.TheVariants.{Frame, Fields}
use Rattle.uc_machine.specs.declared.exec.Stage.{Stage}
use Rattle.uc_machine.specs.declared.exec.UnwindReason.{UnwindReason}
use Rattle.uc_machine.specs.declared.exec.UnwindReason.TheVariants as reason
use Rattle.uc_machine.specs.declared.exec.Stage.TheVariants.{Fresh, Started, Ended}
use Rattle.uc_machine.specs.Executions.{Links, exec_eq, joined, change, parked_at, frames_by, frames_changed, frame_changed, value_changed, with_owned, with_frames, at_depth, list_in}
use Rattle.uc_machine.specs.Switches as sw
use Rattle.uc_machine.specs.Switches.{Moved, To, Stops}
use Rattle.uc_machine.specs.Pieces.{Value, Number, Place, Running, Object, Nothing, Todo, State, Env, Members, address, stored, nought, written}
use Rattle.uc_life_laws.specs.LifeStates.{SlotBy, ParkedBy}
use Rattle.uc_life_laws.proofs.Cells.{tested}
use Rattle.uc_life_laws.proofs.HomedCells.{either, set_length}
use Rattle.uc_life_laws.proofs.Reading.{exec_is}
use Rattle.uc_life_laws.proofs.Parked as parked
use Rattle.uc_life_laws.proofs.Parked.{Ex, at_home}
use Rattle.uc_cell_laws.specs.Sites.{Telling}
use Rattle.uc_cell_laws.specs.CellTodos.{Mark}
use Rattle.uc_cell_laws.specs.CellStates.{IsFree, IsAllowed, MayName, HandCells, AllCells, IsOf, AllWait, CellEx, CellEnv, CellRest, CellState, OwnerFits, Fits}
use Rattle.uc_cell_laws.proofs.CellFrames.{cells_written, all_changed, number_free, number_allowed}
use Rattle.uc_cell_laws.proofs.CellFields.{KeepsFields, fields_written, same_values, change_env, slot_env}

module _ (tg : Telling) where
  pub like : {e f : Env} → CellEnv tg e → f.hand ≡ e.hand → f.house ≡ e.house → f.own ≡ e.own → CellEnv tg f
  like s h g o = record { rests = parked.like (CellEx tg) s.rests h g o; fields = subst (HandCells tg) (sym h) s.fields }

  -- a task changes, but who runs stays; its frames hold what they held, if they are of routines of these numbers, and so do all of executions that do not run
  pub record Keeps (rs : List ℕ) (e f : Env) : Type 0 where
    pub exec : f.exec ≡ e.exec
    pub frames : length f.frames ≡ length e.frames
    pub cells : AllCells tg e.exec rs e.frames → AllCells tg e.exec rs f.frames
    pub env : CellEnv tg f

  pub keeps_both : {rs : List ℕ} {e f g : Env} → Keeps rs e f → Keeps rs f g → Keeps rs e g
  keeps_both {rs} {e} {f} {g} h k = record {
    exec = k.exec ∙ h.exec;
    frames = k.frames ∙ h.frames;
    cells = λ x. subst (λ n. AllCells tg n rs g.frames) h.exec (k.cells (subst (λ n. AllCells tg n rs f.frames) (sym h.exec) (h.cells x)));
    env = k.env;
  }

  -- with the same frames
  keeps_frames : {rs : List ℕ} {e f : Env} → f.exec ≡ e.exec → f.frames ≡ e.frames → CellEnv tg f → Keeps rs e f
  keeps_frames {rs} {e} {f} x q h = record { exec = x; frames = ap length q; cells = λ y. subst (λ fs. AllCells tg e.exec rs fs) (sym q) y; env = h }

  pub keeps_like : {rs : List ℕ} {e f : Env} → CellEnv tg e → f.exec ≡ e.exec → f.frames ≡ e.frames → f.hand ≡ e.hand → f.house ≡ e.house → f.own ≡ e.own → Keeps rs e f
  keeps_like s x q h g o = keeps_frames x q (like s h g o)

  keeps_change : {rs : List ℕ} (h : Home) (f : Members → Members) (e : Env) → parked.KeepsParked (CellEx tg) h f → KeepsFields tg h f → CellEnv tg e → Keeps rs e (change h f e)
  keeps_change h f e k v s = keeps_frames (parked.change_exec h f e) (parked.change_frames h f e) (change_env tg h f e k v s)

  -- writes

  abbrev KeepsFrames : Exec → (List (List Value) → List (List Value)) → Type 0
  KeepsFrames n f = (rs : List ℕ) (fs : List (List Value)) → (length (f fs) ≡ length fs) × (AllCells tg n rs fs → AllCells tg n rs (f fs))

  frames_kept : (n : Exec) (f : List (List Value) → List (List Value)) (o : Option Ex) (m : Members) → KeepsFrames n f → SlotBy (CellEx tg) n o → ParkedBy (CellEx tg) n.home m.parked → ParkedBy (CellEx tg) n.home (frames_by n.serial f o m).parked
  frames_kept n f None m same r s = s
  frames_kept n f (Some x) m same r s =
      parked.update_parked (CellEx tg) n.home n.serial (Some (record x { frames = f x.frames })) m.parked (record { routines = r.routines; frames = (same r.routines x.frames).0 ∙ r.frames; cells = (same r.routines x.frames).1 r.cells; run = r.run; callers = r.callers }) s

  frames_values : (n : ℕ) (f : List (List Value) → List (List Value)) (o : Option Ex) (m : Members) → (frames_by n f o m).values ≡ m.values
  frames_values n f None m = refl
  frames_values n f (Some x) m = refl

  with_frames_keeps : {rs : List ℕ} (n : Exec) (f : List (List Value) → List (List Value)) (e : Env) → KeepsFrames n f → CellEnv tg e → Keeps rs e (with_frames n f e)
  with_frames_keeps {rs} n f e same s =
      tested (Keeps rs e) (exec_eq n e.exec) (record e { frames = f e.frames }) (change n.home (frames_changed n.serial f) e) (λ q. record { exec = refl; frames = (same rs e.frames).0; cells = subst (λ x. AllCells tg x rs e.frames → AllCells tg x rs (f e.frames)) (exec_is n e.exec q) (same rs e.frames).1; env = like s refl refl refl }) (λ q. keeps_change n.home (frames_changed n.serial f) e (λ m h. frames_kept n f (joined (find n.serial m.parked)) m same (parked.found_parked (CellEx tg) n.home n.serial m.parked h) h) (same_values tg n.home (frames_changed n.serial f) (λ m. frames_values n.serial f (joined (find n.serial m.parked)) m)) s)

  -- a value that is no object, and names none of which that is the own, is written anywhere

  abbrev IsNone : Value → Type 0
  IsNone w = (q : Value) (c : ℕ) → IsFree tg q c w

  none_keeps : {rs : List ℕ} (o : Owner) (k : ℕ) (w : Value) (e : Env) → IsNone w → IsAllowed tg o w → CellEnv tg e → Keeps rs e (with_owned o (value_changed k (stored w) nought) e)
  none_keeps (Frame n d) k w e a b s =
      with_frames_keeps n (frame_changed d (value_changed k (stored w) nought)) e (λ rs fs. (set_length fs d (value_changed k (stored w) nought (list_in (at_depth fs d))), λ h. all_changed tg n d (value_changed k (stored w) nought) rs fs (λ r i vs c. cells_written tg n r d k w vs (λ x i o l q. a (Place (Frame n d) x) i) (λ v i o l q. b) c) h)) s
  none_keeps (Fields o) k w e a b s = keeps_change (home.Object o) (λ m. record m { values = value_changed k (stored w) nought m.values }) e (λ m h. h) (λ m h. fields_written tg o k w m.values (λ x c i l q. a (Place (Fields o) x) c) (λ v c i l q. b) h) s

  pub written_none : {rs : List ℕ} (v w : Value) (e : Env) → IsNone w → MayName tg v w → CellEnv tg e → Keeps rs e (written v w e)
  written_none (Number n) w e a b s = keeps_like s refl refl refl refl refl
  written_none (Place o p) w e a b s = none_keeps o (address p) w e a b s
  written_none (Running x) w e a b s = keeps_like s refl refl refl refl refl
  written_none (Object o) w e a b s = none_keeps (Fields o) 0 w e a b s
  written_none Nothing w e a b s = keeps_like s refl refl refl refl refl

  number_may : (v : Value) (z : ℤ) → MayName tg v (Number z)
  number_may (Number n) z = tt
  number_may (Place o p) z = number_allowed tg o z
  number_may (Running x) z = tt
  number_may (Object o) z = number_allowed tg (Fields o) z
  number_may Nothing z = tt

  pub written_number : {rs : List ℕ} (v : Value) (z : ℤ) (e : Env) → CellEnv tg e → Keeps rs e (written v (Number z) e)
  written_number v z e s = written_none v (Number z) e (λ q c. number_free tg q c z) (number_may v z) s

  -- a value is written that fits there

  fits_at : {rs : List ℕ} (n : Exec) (d k : ℕ) (w : Value) (e : Env) → OwnerFits tg rs (Frame n d) k w e → CellEnv tg e → Keeps rs e (with_owned (Frame n d) (value_changed k (stored w) nought) e)
  fits_at {rs} n d k w e a s =
      subst (λ (b : Bool). Keeps rs e (if b then record e { frames = frame_changed d (value_changed k (stored w) nought) e.frames } else change n.home (frames_changed n.serial (frame_changed d (value_changed k (stored w) nought))) e)) (sym a.0) (record {
        exec = refl;
        frames = set_length e.frames d (value_changed k (stored w) nought (list_in (at_depth e.frames d)));
        cells = λ h. all_changed tg e.exec d (value_changed k (stored w) nought) rs e.frames (λ r i vs c. cells_written tg e.exec r d k w vs (a.1 r i) (a.2 r i) c) h;
        env = like s refl refl refl;
      })

  owner_fits : {rs : List ℕ} (o : Owner) (k : ℕ) (w : Value) (e : Env) → OwnerFits tg rs o k w e → CellEnv tg e → Keeps rs e (with_owned o (value_changed k (stored w) nought) e)
  owner_fits (Frame n d) k w e a s = fits_at n d k w e a s
  owner_fits (Fields o) k w e a s = keeps_change (home.Object o) (λ m. record m { values = value_changed k (stored w) nought m.values }) e (λ m h. h) (λ m h. fields_written tg o k w m.values a.0 a.1 h) s

  pub written_fits : {rs : List ℕ} (v w : Value) (e : Env) → Fits tg rs v w e → CellEnv tg e → Keeps rs e (written v w e)
  written_fits (Number n) w e a s = keeps_like s refl refl refl refl refl
  written_fits (Place o p) w e a s = owner_fits o (address p) w e a s
  written_fits (Running x) w e a s = keeps_like s refl refl refl refl refl
  written_fits (Object o) w e a s = owner_fits (Fields o) 0 w e a s
  written_fits Nothing w e a s = keeps_like s refl refl refl refl refl

  -- executions are made and go, and their links change

  -- whatever the name of one that is made
  pub born_keeps : {rs : List ℕ} (h : Home) (x : Ex) (e : Env) → ((n : Exec) → CellEx tg n x) → CellEnv tg e → Keeps rs e (sw.born h x e)
  born_keeps h x e r s = keeps_change h (sw.one_more x) e (λ m p. parked.more_parked (CellEx tg) h m.serial x m.parked (r (at_home h m.serial)) p) (same_values tg h (sw.one_more x) (λ m. refl)) s

  pub forgotten_keeps : {rs : List ℕ} (o : Option Exec) (e : Env) → CellEnv tg e → Keeps rs e (sw.forgotten o e)
  forgotten_keeps None e s = keeps_like s refl refl refl refl refl
  forgotten_keeps (Some n) e s = keeps_change n.home (sw.slot_gone n.serial) e (λ m h. parked.without_parked (CellEx tg) n.home n.serial m.parked h) (same_values tg n.home (sw.slot_gone n.serial) (λ m. refl)) s

  links_kept : (h : Home) (g : Links → Links) (n : ℕ) (o : Option Ex) (m : Members) → SlotBy (CellEx tg) (at_home h n) o → ParkedBy (CellEx tg) h m.parked → ParkedBy (CellEx tg) h (sw.links_by g n o m).parked
  links_kept h g n None m r s = s
  links_kept h g n (Some x) m r s = parked.update_parked (CellEx tg) h n (Some (record x { links = g x.links })) m.parked (record { routines = r.routines; frames = r.frames; cells = r.cells; run = r.run; callers = r.callers }) s

  links_values : (g : Links → Links) (n : ℕ) (o : Option Ex) (m : Members) → (sw.links_by g n o m).values ≡ m.values
  links_values g n None m = refl
  links_values g n (Some x) m = refl

  pub links_keeps : {rs : List ℕ} (g : Links → Links) (n : Exec) (e : Env) → CellEnv tg e → Keeps rs e (sw.with_links g n e)
  links_keeps {rs} g n e s =
      either (Keeps rs e) (exec_eq n e.exec) (record e { links = g e.links }) (change n.home (sw.links_changed g n.serial) e) (keeps_like s refl refl refl refl refl) (keeps_change n.home (sw.links_changed g n.serial) e (λ m h. links_kept n.home g n.serial (joined (find n.serial m.parked)) m (parked.found_parked (CellEx tg) n.home n.serial m.parked h) h) (same_values tg n.home (sw.links_changed g n.serial) (λ m. links_values g n.serial (joined (find n.serial m.parked)) m)) s)

  pub enlivened_keeps : {rs : List ℕ} (o : Option Exec) (e : Env) → CellEnv tg e → Keeps rs e (sw.enlivened o e)
  enlivened_keeps None e s = keeps_like s refl refl refl refl refl
  enlivened_keeps (Some n) e s = links_keeps (λ l. record l { live = true }) n e s

  -- switches

  abbrev pub LifeMoved : Moved (List Todo) Value → Type 0
  LifeMoved (To s) = CellState tg s
  LifeMoved (Stops f) = Unit {0}

  -- who may be activated
  abbrev LifeNext : Option (Exec × Ex) → Type 0
  LifeNext None = Unit {0}
  LifeNext (Some p) = CellEx tg p.0 p.1

  switched_rests : (n : Exec) (x : Ex) (s : State) → CellEx tg n x → CellState tg s → CellState tg (sw.switched n x s)
  switched_rests n x s r h = record {
    routines = r.routines;
    frames = r.frames;
    cells = r.cells;
    run = r.run;
    callers = r.callers;
    env = like (slot_env tg s.env.exec (Some (sw.stopped s)) (sw.set_slot n None s.env) (record { routines = h.routines; frames = h.frames; cells = h.cells; run = h.run; callers = h.callers }) (slot_env tg n None s.env tt h.env)) refl refl refl;
  }

  able_stage : (g : Stage) (n : Exec) (x : Ex) → CellEx tg n x → LifeNext (sw.able_at g n x)
  able_stage Fresh n x r = tt
  able_stage Started n x r = r
  able_stage Ended n x r = tt

  able_slot : (n : Exec) (o : Option Ex) → SlotBy (CellEx tg) n o → LifeNext (sw.able_by n o)
  able_slot n None r = tt
  able_slot n (Some x) r = able_stage x.links.stage n x r

  able_rests : (o : Option Exec) (e : Env) → CellEnv tg e → LifeNext (sw.able o e)
  able_rests None e s = tt
  able_rests (Some n) e s = able_slot n (parked_at n e) (parked.parked_rests (CellEx tg) n e s.rests)

  or_rests : (a b : Option (Exec × Ex)) → LifeNext a → LifeNext b → LifeNext (sw.or_else a b)
  or_rests None b h k = k
  or_rests (Some p) b h k = h

  go_on_rests : (o : Option (Exec × Ex)) (s : State) → LifeNext o → CellState tg s → LifeMoved (sw.go_on o s)
  go_on_rests None s r h = tt
  go_on_rests (Some p) s r h = switched_rests p.0 p.1 s r h

  wake_stage : (g : Stage) (n : Exec) (x : Ex) (s : State) → CellEx tg n x → CellState tg s → LifeMoved (sw.wake_at g n x s)
  wake_stage Fresh n x s r h = switched_rests n _ s (record { routines = r.routines; frames = r.frames; cells = r.cells; run = r.run; callers = r.callers }) h
  wake_stage Started n x s r h = switched_rests n _ s (record { routines = r.routines; frames = r.frames; cells = r.cells; run = r.run; callers = r.callers }) h
  wake_stage Ended n x s r h = tt

  wake_slot : (n : Exec) (o : Option Ex) (s : State) → SlotBy (CellEx tg) n o → CellState tg s → LifeMoved (sw.wake_by n o s)
  wake_slot n None s r h = tt
  wake_slot n (Some x) s r h = wake_stage x.links.stage n x s r h

  wake_one_rests : (o : Option Exec) (s : State) → CellState tg s → LifeMoved (sw.wake_one o s)
  wake_one_rests None s h = tt
  wake_one_rests (Some n) s h = either LifeMoved (exec_eq n s.env.exec) (Stops ResumeInUse) (sw.wake_by n (parked_at n s.env) s) tt (wake_slot n (parked_at n s.env) s (parked.parked_rests (CellEx tg) n s.env h.env.rests) h)

  pub wake_rests : (o : Option Exec) (s : State) → CellState tg s → LifeMoved (sw.wake o s)
  wake_rests o s h = either LifeMoved (sw.in_destruction s.env) (Stops SwitchInUnwind) (sw.wake_one o s) tt (wake_one_rests o s h)

  pub suspend_rests : (s : State) → CellState tg s → LifeMoved (sw.suspend s)
  suspend_rests s h = either LifeMoved (sw.in_destruction s.env) (Stops SwitchInUnwind) (sw.go_on (sw.able s.env.links.resumer s.env) s) tt (go_on_rests (sw.able s.env.links.resumer s.env) s (able_rests s.env.links.resumer s.env h.env) h)

  ended_rests : (s : State) → CellState tg s → CellState tg (sw.ended s)
  ended_rests s h = record { routines = h.routines; frames = h.frames; cells = h.cells; run = h.run; callers = h.callers; env = like h.env refl refl refl }

  pub finish_rests : (s : State) → CellState tg s → LifeMoved (sw.finish s)
  finish_rests s h =
      go_on_rests (sw.or_else (sw.able s.env.links.starter s.env) (sw.able s.env.links.resumer s.env)) (sw.ended s) (or_rests (sw.able s.env.links.starter s.env) (sw.able s.env.links.resumer s.env) (able_rests s.env.links.starter s.env h.env) (able_rests s.env.links.resumer s.env h.env)) (ended_rests s h)

  -- one that is to be unwound
  there : (n : Exec) (x : Ex) (why : UnwindReason) → CellEx tg n x → CellEx tg n (sw.unwound_there why x)
  there n x why r = record {
    routines = r.routines;
    frames = r.frames;
    cells = r.cells;
    run = record { routine = r.run.routine; frame = r.run.frame; low = r.run.low; this = r.run.this; marks = r.run.marks; holds = r.run.holds; ok = r.run.ok };
    callers = r.callers;
  }

  throw_rests : (o : Option (Exec × Ex)) (s : State) → LifeNext o → CellState tg s → LifeMoved (sw.throw_at o s)
  throw_rests None s r h = tt
  throw_rests (Some p) s r h = switched_rests p.0 _ s (there p.0 p.1 _ r) h

  pub escape_rests : (s : State) → CellState tg s → LifeMoved (sw.escape s)
  escape_rests s h = throw_rests (sw.able s.env.links.resumer s.env) (sw.ended s) (able_rests s.env.links.resumer s.env h.env) (ended_rests s h)

  pub taken_down_rests : (s : State) → CellState tg s → LifeMoved (sw.taken_down s)
  taken_down_rests s h = go_on_rests (sw.able s.env.links.destroyer s.env) (sw.ended s) (able_rests s.env.links.destroyer s.env h.env) (ended_rests s h)

  -- the same running execution, in a task that has changed
  pub with_env : {e : Env} (given : List Mark) (s : State) (h : CellRest tg given s) → Keeps h.routines s.env e → CellRest tg given (record s { env = e })
  with_env {e} given s h k = record {
    routines = h.routines;
    frames = k.frames ∙ h.frames;
    cells = subst (λ n. AllCells tg n h.routines e.frames) (sym k.exec) (k.cells h.cells);
    run = subst (λ n. IsOf tg n given h.routines (length s.callers) s.run) (sym k.exec) h.run;
    callers = subst (λ n. AllWait tg n h.routines s.callers) (sym k.exec) h.callers;
    env = k.env;
  }

  over_rests : (n : Exec) (s : State) → CellState tg s → CellState tg (sw.over n s)
  over_rests n s h = with_env [] s h (links_keeps (λ l. record l { live = false; stage = Ended }) n s.env h.env)

  take_down_stage : (g : Stage) (n : Exec) (x : Ex) (s : State) → CellEx tg n x → CellState tg s → LifeMoved (sw.take_down_at g n x s)
  take_down_stage Fresh n x s r h = over_rests n s h
  take_down_stage Started n x s r h = switched_rests n _ s (there n (record x { links = record x.links { live = false; destroyer = Some s.env.exec } }) reason.Destroyed (record { routines = r.routines; frames = r.frames; cells = r.cells; run = r.run; callers = r.callers })) h
  take_down_stage Ended n x s r h = over_rests n s h

  take_down_slot : (n : Exec) (o : Option Ex) (s : State) → SlotBy (CellEx tg) n o → CellState tg s → LifeMoved (sw.take_down_by n o s)
  take_down_slot n None s r h = h
  take_down_slot n (Some x) s r h = take_down_stage x.links.stage n x s r h

  pub take_down_rests : (o : Option Exec) (s : State) → CellState tg s → LifeMoved (sw.take_down o s)
  take_down_rests None s h = h
  take_down_rests (Some n) s h = take_down_slot n (parked_at n s.env) s (parked.parked_rests (CellEx tg) n s.env h.env.rests) h
