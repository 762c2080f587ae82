-- Executions that have not begun stay as they were made where members, executions and who runs change.
use Rattle.std.proofs.Common.{◌≡◌, ℕ, zero, suc, ◌++◌, length, take, replicate, ap, ◌∙◌, Bool, true, false, List, [], ◌∷◌, Option, Some, None, refl, sym, subst}
use Rattle.std.specs.Prelude.{nat_eq, drop, pos}
use Rattle.uc_tree.specs.declared.limits.TheConstants.{UNHANDLED}
use Rattle.uc_tree.specs.Source as src
use Rattle.uc_tree.specs.Source.{Routine, Purpose}
use Rattle.uc_entry.specs.Keyed.{find}
use Rattle.uc_entry.specs.declared.fault.RunFault.TheVariants.{ResumeInUse, SwitchInUnwind}
use Rattle.uc_machine.specs.declared.exec.Exec.{Exec}
use Rattle.uc_machine.specs.declared.exec.Home.{Home}
use Rattle.uc_machine.specs.declared.exec.Home.TheVariants as home
use Rattle.uc_machine.specs.declared.exec.Owner.{Owner}
use Rattle.uc_machine.specs.declared.exec.Owner.TheVariants.{Frame, Fields}
use Rattle.uc_machine.specs.declared.exec.Stage.{Stage}
use Rattle.uc_machine.specs.declared.exec.Stage.TheVariants.{Fresh, Started, Ended}
use Rattle.uc_machine.specs.declared.exec.UnwindReason.TheVariants as reason
use Rattle.uc_machine.specs.Executions.{Links, others, one_call_less, one_call_more, exec_eq, joined, slot_in, members_at, set_members, change, change_in, parked_at, frames_by, frames_changed, frame_changed, set_depth, at_depth, list_in, value_changed, values_cleared, with_owned, with_frames}
use Rattle.uc_machine.specs.Switches as sw
use Rattle.uc_machine.specs.Switches.{Moved, To, Stops}
use Rattle.uc_machine.specs.Pieces.{Value, Number, Place, Running, Object, Nothing, Todo, State, Env, Members, address, stored, nought, written}
use Rattle.uc_machine.specs.Quiet as quiet
use Rattle.uc_life_laws.specs.LifeStates.{SlotBy, ParkedBy, MembersBy, EnvBy}
use Rattle.uc_name_laws.proofs.Homes.{same_exec}
use Rattle.uc_life_laws.proofs.Cells.{either, tested}
use Rattle.uc_life_laws.proofs.Parked as parked
use Rattle.uc_life_laws.proofs.Parked.{Ex, at_home}
use Rattle.uc_life_laws.specs.Fewer.{AllNumbers, FramesNumbers}
use Rattle.uc_life_laws.specs.Placed.{placed, stacked}
use Rattle.uc_rooted_runs.specs.FreshStates.{HasBegun, IsStarted, IsFresh, FreshBy, FreshEx, FreshEnv, SlotBegun, IsBegun}

-- numbers

numbers_stored : (z : _) (vs : List Value) (k : ℕ) → AllNumbers vs → AllNumbers (value_changed k (stored (Number z)) nought vs)
numbers_stored z [] k h = tt
numbers_stored z (Number y ∷ vs) zero h = h
numbers_stored z (Number y ∷ vs) (suc k) h = numbers_stored z vs k h
numbers_stored z (Place o p ∷ vs) k h = absurd h
numbers_stored z (Running x ∷ vs) k h = absurd h
numbers_stored z (Object o ∷ vs) k h = absurd h
numbers_stored z (Nothing ∷ vs) k h = absurd h

numbers_both : (vs ws : List Value) → AllNumbers vs → AllNumbers ws → AllNumbers (vs ++ ws)
numbers_both [] ws h k = k
numbers_both (Number y ∷ vs) ws h k = numbers_both vs ws h k
numbers_both (Place o p ∷ vs) ws h k = absurd h
numbers_both (Running x ∷ vs) ws h k = absurd h
numbers_both (Object o ∷ vs) ws h k = absurd h
numbers_both (Nothing ∷ vs) ws h k = absurd h

numbers_taken : (vs : List Value) (k : ℕ) → AllNumbers vs → AllNumbers (take k vs)
numbers_taken vs zero h = tt
numbers_taken [] (suc k) h = tt
numbers_taken (Number y ∷ vs) (suc k) h = numbers_taken vs k h
numbers_taken (Place o p ∷ vs) (suc k) h = absurd h
numbers_taken (Running x ∷ vs) (suc k) h = absurd h
numbers_taken (Object o ∷ vs) (suc k) h = absurd h
numbers_taken (Nothing ∷ vs) (suc k) h = absurd h

numbers_left : (vs : List Value) (k : ℕ) → AllNumbers vs → AllNumbers (drop k vs)
numbers_left vs zero h = h
numbers_left [] (suc k) h = tt
numbers_left (Number y ∷ vs) (suc k) h = numbers_left vs k h
numbers_left (Place o p ∷ vs) (suc k) h = absurd h
numbers_left (Running x ∷ vs) (suc k) h = absurd h
numbers_left (Object o ∷ vs) (suc k) h = absurd h
numbers_left (Nothing ∷ vs) (suc k) h = absurd h

noughts : (n : ℕ) → AllNumbers (replicate n nought)
noughts zero = tt
noughts (suc n) = noughts n

pub numbers_cleared : (k n : ℕ) (vs : List Value) → AllNumbers vs → AllNumbers (values_cleared k n nought vs)
numbers_cleared k n vs h =
    numbers_both (take k vs) _ (numbers_taken vs k h) (numbers_both (replicate (length (take n (drop k vs))) nought) (drop n (drop k vs)) (noughts (length (take n (drop k vs)))) (numbers_left (drop k vs) n (numbers_left vs k h)))

at_numbers : (fs : List (List Value)) (d : ℕ) → FramesNumbers fs → AllNumbers (list_in (at_depth fs d))
at_numbers [] d h = tt
at_numbers (f ∷ fs) d h = either (λ o. AllNumbers (list_in o)) (nat_eq d (length fs)) (Some f) (at_depth fs d) h.0 (at_numbers fs d h.1)

set_numbers : (fs : List (List Value)) (d : ℕ) (vs : List Value) → AllNumbers vs → FramesNumbers fs → FramesNumbers (set_depth fs d vs)
set_numbers [] d vs k h = tt
set_numbers (f ∷ fs) d vs k h = either FramesNumbers (nat_eq d (length fs)) (vs ∷ fs) (f ∷ set_depth fs d vs) (k, h.1) (h.0, set_numbers fs d vs k h.1)

-- a change of what an owner holds that leaves numbers numbers
abbrev pub KeepsNumbers : (List Value → List Value) → Type 0
KeepsNumbers g = (vs : List Value) → AllNumbers vs → AllNumbers (g vs)

changed_numbers : (d : ℕ) (g : List Value → List Value) → KeepsNumbers g → (fs : List (List Value)) → FramesNumbers fs → FramesNumbers (frame_changed d g fs)
changed_numbers d g k fs h = set_numbers fs d (g (list_in (at_depth fs d))) (k (list_in (at_depth fs d)) (at_numbers fs d h)) h

-- tasks

pub like : {e f : Env} → FreshEnv e → f.links.stage ≡ e.links.stage → f.hand ≡ e.hand → f.house ≡ e.house → f.own ≡ e.own → FreshEnv f
like s l h g o = record { running = subst IsStarted (sym l) s.running; slots = parked.like FreshEx s.slots h g o }

-- calls come and go

less_stage : (b : Bool) (l : Links) → (one_call_less b l).stage ≡ l.stage
less_stage true l = refl
less_stage false l = refl

more_stage : (b : Bool) (l : Links) → (one_call_more b l).stage ≡ l.stage
more_stage true l = refl
more_stage false l = refl

pub returned_keeps : (b : Bool) (e : Env) → FreshEnv e → FreshEnv (record e { frames = others e.frames; links = one_call_less b e.links })
returned_keeps b e s = like s (less_stage b e.links) refl refl refl

pub called_keeps : {f : List Value} (b : Bool) (e : Env) → FreshEnv e → FreshEnv (record e { frames = f ∷ e.frames; links = one_call_more b e.links })
called_keeps b e s = like s (more_stage b e.links) refl refl refl

pub counted_keeps : (b : Bool) (e : Env) → FreshEnv e → FreshEnv (record e { links = one_call_less b e.links })
counted_keeps b e s = like s (less_stage b e.links) refl refl refl

-- what is at a home changes
change_by : (h : Home) (f : Members → Members) (o : Option Members) (e : Env) → ((m : Members) → o ≡ Some m → ParkedBy FreshEx h m.parked → ParkedBy FreshEx h (f m).parked) → MembersBy FreshEx h o → EnvBy FreshEx e → EnvBy FreshEx (change_in h f o e)
change_by h f None e k m s = s
change_by h f (Some x) e k m s = parked.set_rests FreshEx h (f x) e (k x refl m) s

set_members_links : (h : Home) (m : Members) (e : Env) → (set_members h m e).links ≡ e.links
set_members_links (home.Task t) m e = either (λ (d : Env). d.links ≡ e.links) (nat_eq t e.own) (record e { house = m }) e refl refl
set_members_links (home.Object o) m e = refl

change_links_by : (h : Home) (f : Members → Members) (o : Option Members) (e : Env) → (change_in h f o e).links ≡ e.links
change_links_by h f None e = refl
change_links_by h f (Some x) e = set_members_links h (f x) e

pub change_links : (h : Home) (f : Members → Members) (e : Env) → (change h f e).links ≡ e.links
change_links h f e = change_links_by h f (members_at h e) e

changes : (h : Home) (f : Members → Members) (e : Env) → ((m : Members) → members_at h e ≡ Some m → ParkedBy FreshEx h m.parked → ParkedBy FreshEx h (f m).parked) → FreshEnv e → FreshEnv (change h f e)
changes h f e k s = record {
  running = subst (λ (l : Links). IsStarted l.stage) (sym (change_links h f e)) s.running;
  slots = change_by h f (members_at h e) e k (parked.members_rests FreshEx h e s.slots) s.slots;
}

-- writes

frames_told : (n : Exec) (x : Ex) (fs : List (List Value)) → (x.links.stage ≡ Fresh → FramesNumbers fs) → FreshEx n x → FreshEx n (record x { frames = fs })
frames_told n x fs f h = by x.links.stage refl h
  where
    by : (g : Stage) → x.links.stage ≡ g → FreshBy g n x → FreshBy g n (record x { frames = fs })
    by Fresh e h = record { callers = h.callers; operands = h.operands; marks = h.marks; frames = f e; this = h.this }
    by Started e h = tt
    by Ended e h = h

fresh_frames : (n : Exec) (x : Ex) → FreshEx n x → x.links.stage ≡ Fresh → FramesNumbers x.frames
fresh_frames n x h e = let k : IsFresh n x = subst (λ g. FreshBy g n x) e h in k.frames

frames_kept : (n : Exec) (g : List (List Value) → List (List Value)) (o : Option Ex) (m : Members) → ((x : Ex) → o ≡ Some x → x.links.stage ≡ Fresh → FramesNumbers x.frames → FramesNumbers (g x.frames)) → SlotBy FreshEx (at_home n.home n.serial) o → ParkedBy FreshEx n.home m.parked → ParkedBy FreshEx n.home (frames_by n.serial g o m).parked
frames_kept n g None m f r s = s
frames_kept n g (Some x) m f r s =
    parked.update_parked FreshEx n.home n.serial (Some (record x { frames = g x.frames })) m.parked (frames_told (at_home n.home n.serial) x (g x.frames) (λ e. f x refl e (fresh_frames (at_home n.home n.serial) x r e)) r) s

with_frames_keeps : (n : Exec) (g : List (List Value) → List (List Value)) (e : Env) → ((x : Ex) → parked_at n e ≡ Some x → x.links.stage ≡ Fresh → FramesNumbers x.frames → FramesNumbers (g x.frames)) → FreshEnv e → FreshEnv (with_frames n g e)
with_frames_keeps n g e f s =
    either FreshEnv (exec_eq n e.exec) (record e { frames = g e.frames }) (change n.home (frames_changed n.serial g) e) (like s refl refl refl refl) (changes n.home (frames_changed n.serial g) e (λ m q h. frames_kept n g (joined (find n.serial m.parked)) m (λ x i. f x (ap (λ o. joined (slot_in n.serial o)) q ∙ i)) (parked.found_parked FreshEx n.home n.serial m.parked h) h) s)

-- numbers are written, or cells start anew
pub owned_numbers : (o : Owner) (g : List Value → List Value) (e : Env) → KeepsNumbers g → FreshEnv e → FreshEnv (with_owned o g e)
owned_numbers (Frame n d) g e k s = with_frames_keeps n (frame_changed d g) e (λ x i q h. changed_numbers d g k x.frames h) s
owned_numbers (Fields o) g e k s = changes (home.Object o) _ e (λ m q h. h) s

not_begun : (o : Option Ex) (x : Ex) → SlotBegun o → o ≡ Some x → x.links.stage ≡ Fresh → ⊥
not_begun o x h e f = subst HasBegun f (subst SlotBegun e h)

-- what is written in a frame of one that has begun may be anything
pub owned_begun : (o : Owner) (p : _) (g : List Value → List Value) (e : Env) → IsBegun (Place o p) e → FreshEnv e → FreshEnv (with_owned o g e)
owned_begun (Frame n d) p g e b s = with_frames_keeps n (frame_changed d g) e (λ x i q h. absurd (not_begun (parked_at n e) x b i q)) s
owned_begun (Fields o) p g e b s = changes (home.Object o) _ e (λ m q h. h) s

pub written_number : (v : Value) (z : _) (e : Env) → FreshEnv e → FreshEnv (written v (Number z) e)
written_number (Number n) z e s = s
written_number (Place o p) z e s = owned_numbers o (value_changed (address p) (stored (Number z)) nought) e (λ vs h. numbers_stored z vs (address p) h) s
written_number (Running x) z e s = s
written_number (Object o) z e s = owned_numbers (Fields o) (value_changed 0 (stored (Number z)) nought) e (λ vs h. numbers_stored z vs 0 h) s
written_number Nothing z e s = s

pub written_begun : (v w : Value) (e : Env) → IsBegun v e → FreshEnv e → FreshEnv (written v w e)
written_begun (Number n) w e b s = s
written_begun (Place o p) w e b s = owned_begun o p (value_changed (address p) (stored w) nought) e b s
written_begun (Running x) w e b s = s
written_begun (Object o) w e b s = owned_begun (Fields o) [] (value_changed 0 (stored w) nought) e tt s
written_begun Nothing w e b s = s

-- executions are made and go, and their links change

at_this : (v : Value) (e : Env) (o : ℕ) → v ≡ Object o → quiet.home_at v e ≡ home.Object o
at_this v e o q = ap (λ v. quiet.home_at v e) q

begins_bare : (this : Value) (r : Routine) → placed 0 this (quiet.routine_todo r) [] ≡ []
begins_bare this r = by r.purpose
  where
    by : (p : Purpose) → placed 0 this (quiet.behind_body p r.line) [] ≡ []
    by src.TaskMain = refl
    by src.CoroutineMain = refl
    by src.Procedure = refl
    by src.Function = refl
    by src.Builder = refl

pub fresh_made : (r : Routine) (this : Value) (e : Env) (k : ℕ) → FreshEx (at_home (quiet.home_at this e) k) (quiet.fresh r this)
fresh_made r this e k = record { callers = refl; operands = refl; marks = begins_bare this r; frames = (noughts r.cells, tt); this = λ o q. at_this this e o q }

pub born_keeps : (h : Home) (x : Ex) (e : Env) → ((k : ℕ) → FreshEx (at_home h k) x) → FreshEnv e → FreshEnv (sw.born h x e)
born_keeps h x e r s = changes h (sw.one_more x) e (λ m q p. parked.more_parked FreshEx h m.serial x m.parked (r m.serial) p) s

pub forgotten_keeps : (o : Option Exec) (e : Env) → FreshEnv e → FreshEnv (sw.forgotten o e)
forgotten_keeps None e s = s
forgotten_keeps (Some n) e s = changes n.home (sw.slot_gone n.serial) e (λ m q h. parked.without_parked FreshEx n.home n.serial m.parked h) s

-- links change and their stage stays
abbrev SameStage : (Links → Links) → Type 0
SameStage g = (l : Links) → (g l).stage ≡ l.stage

links_told : (g : Links → Links) → SameStage g → (n : Exec) (x : Ex) → FreshEx n x → FreshEx n (record x { links = g x.links })
links_told g f n x h = subst (λ q. FreshBy q n (record x { links = g x.links })) (sym (f x.links)) (by x.links.stage h)
  where
    by : (q : Stage) → FreshBy q n x → FreshBy q n (record x { links = g x.links })
    by Fresh h = record { callers = h.callers; operands = h.operands; marks = h.marks; frames = h.frames; this = h.this }
    by Started h = tt
    by Ended h = h

links_kept : (h : Home) (g : Links → Links) → SameStage g → (n : ℕ) (o : Option Ex) (m : Members) → SlotBy FreshEx (at_home h n) o → ParkedBy FreshEx h m.parked → ParkedBy FreshEx h (sw.links_by g n o m).parked
links_kept h g k n None m r s = s
links_kept h g k n (Some x) m r s = parked.update_parked FreshEx h n (Some (record x { links = g x.links })) m.parked (links_told g k (at_home h n) x r) s

pub links_stay : (g : Links → Links) → ((l : Links) → (g l).stage ≡ l.stage) → (n : Exec) (e : Env) → FreshEnv e → FreshEnv (sw.with_links g n e)
links_stay g k n e s =
    either FreshEnv (exec_eq n e.exec) (record e { links = g e.links }) (change n.home (sw.links_changed g n.serial) e) (record { running = subst IsStarted (sym (k e.links)) s.running; slots = parked.like FreshEx s.slots refl refl refl }) (changes n.home (sw.links_changed g n.serial) e (λ m q h. links_kept n.home g k n.serial (joined (find n.serial m.parked)) m (parked.found_parked FreshEx n.home n.serial m.parked h) h) s)

pub enlivened_keeps : (o : Option Exec) (e : Env) → FreshEnv e → FreshEnv (sw.enlivened o e)
enlivened_keeps None e s = s
enlivened_keeps (Some n) e s = links_stay (λ l. record l { live = true }) (λ l. refl) n e s

-- switches

abbrev pub FreshMoved : Moved (List Todo) Value → Type 0
FreshMoved (To s) = FreshEnv s.env
FreshMoved (Stops f) = Unit {0}

-- who may be activated has begun and not ended
abbrev NextStarted : Option (Exec × Ex) → Type 0
NextStarted None = Unit {0}
NextStarted (Some p) = IsStarted p.1.links.stage

started_fresh : (g : Stage) → IsStarted g → (n : Exec) (x : Ex) → FreshBy g n x
started_fresh Fresh h n x = absurd h
started_fresh Started h n x = tt
started_fresh Ended h n x = absurd h

stops : (s : State) → FreshEnv s.env → FreshEx s.env.exec (sw.stopped s)
stops s h = started_fresh s.env.links.stage h.running s.env.exec (sw.stopped s)

-- the running execution stops, of which this is told
switched_keeps : (n : Exec) (x : Ex) (s : State) → IsStarted x.links.stage → FreshEx s.env.exec (sw.stopped s) → EnvBy FreshEx s.env → FreshEnv (sw.switched n x s).env
switched_keeps n x s r k h = record {
  running = r;
  slots = parked.like FreshEx (parked.slot_rests FreshEx s.env.exec (Some (sw.stopped s)) (sw.set_slot n None s.env) k (parked.slot_rests FreshEx n None s.env tt h)) refl refl refl;
}

able_stage : (g : Stage) (n : Exec) (x : Ex) → x.links.stage ≡ g → NextStarted (sw.able_at g n x)
able_stage Fresh n x e = tt
able_stage Started n x e = subst IsStarted (sym e) tt
able_stage Ended n x e = tt

able_slot : (n : Exec) (o : Option Ex) → NextStarted (sw.able_by n o)
able_slot n None = tt
able_slot n (Some x) = able_stage x.links.stage n x refl

able_started : (o : Option Exec) (e : Env) → NextStarted (sw.able o e)
able_started None e = tt
able_started (Some n) e = able_slot n (parked_at n e)

or_started : (a b : Option (Exec × Ex)) → NextStarted a → NextStarted b → NextStarted (sw.or_else a b)
or_started None b h k = k
or_started (Some p) b h k = h

go_on_keeps : (o : Option (Exec × Ex)) (s : State) → NextStarted o → FreshEx s.env.exec (sw.stopped s) → EnvBy FreshEx s.env → FreshMoved (sw.go_on o s)
go_on_keeps None s r k h = tt
go_on_keeps (Some p) s r k h = switched_keeps p.0 p.1 s r k h

wake_stage : (g : Stage) (n : Exec) (x : Ex) (s : State) → FreshEnv s.env → FreshMoved (sw.wake_at g n x s)
wake_stage Fresh n x s h = switched_keeps n (record x { links = sw.woken s.env.exec x.links }) s tt (stops s h) h.slots
wake_stage Started n x s h = switched_keeps n (record x { links = sw.woken s.env.exec x.links }) s tt (stops s h) h.slots
wake_stage Ended n x s h = tt

wake_slot : (n : Exec) (o : Option Ex) (s : State) → FreshEnv s.env → FreshMoved (sw.wake_by n o s)
wake_slot n None s h = tt
wake_slot n (Some x) s h = wake_stage x.links.stage n x s h

wake_one_keeps : (o : Option Exec) (s : State) → FreshEnv s.env → FreshMoved (sw.wake_one o s)
wake_one_keeps None s h = tt
wake_one_keeps (Some n) s h = either FreshMoved (exec_eq n s.env.exec) (Stops ResumeInUse) (sw.wake_by n (parked_at n s.env) s) tt (wake_slot n (parked_at n s.env) s h)

pub wake_keeps : (o : Option Exec) (s : State) → FreshEnv s.env → FreshMoved (sw.wake o s)
wake_keeps o s h = either FreshMoved (sw.in_destruction s.env) (Stops SwitchInUnwind) (sw.wake_one o s) tt (wake_one_keeps o s h)

pub suspend_keeps : (s : State) → FreshEnv s.env → FreshMoved (sw.suspend s)
suspend_keeps s h =
    either FreshMoved (sw.in_destruction s.env) (Stops SwitchInUnwind) (sw.go_on (sw.able s.env.links.resumer s.env) s) tt (go_on_keeps (sw.able s.env.links.resumer s.env) s (able_started s.env.links.resumer s.env) (stops s h) h.slots)

-- the running execution ends, and has no marks
ended_slots : (s : State) → FreshEnv s.env → EnvBy FreshEx (sw.ended s).env
ended_slots s h = parked.like FreshEx h.slots refl refl refl

pub finish_keeps : (s : State) → stacked (s.run ∷ s.callers) ≡ [] → FreshEnv s.env → FreshMoved (sw.finish s)
finish_keeps s b h =
    go_on_keeps (sw.or_else (sw.able s.env.links.starter s.env) (sw.able s.env.links.resumer s.env)) (sw.ended s) (or_started (sw.able s.env.links.starter s.env) (sw.able s.env.links.resumer s.env) (able_started s.env.links.starter s.env) (able_started s.env.links.resumer s.env)) b (ended_slots s h)

throw_keeps : (o : Option (Exec × Ex)) (s : State) → NextStarted o → FreshEx s.env.exec (sw.stopped s) → EnvBy FreshEx s.env → FreshMoved (sw.throw_at o s)
throw_keeps None s r k h = tt
throw_keeps (Some p) s r k h = switched_keeps p.0 (sw.unwound_there (reason.Event UNHANDLED (pos 0) (pos 0)) p.1) s r k h

pub escape_keeps : (s : State) → stacked (s.run ∷ s.callers) ≡ [] → FreshEnv s.env → FreshMoved (sw.escape s)
escape_keeps s b h = throw_keeps (sw.able s.env.links.resumer s.env) (sw.ended s) (able_started s.env.links.resumer s.env) b (ended_slots s h)

pub taken_down_keeps : (s : State) → stacked (s.run ∷ s.callers) ≡ [] → FreshEnv s.env → FreshMoved (sw.taken_down s)
taken_down_keeps s b h = go_on_keeps (sw.able s.env.links.destroyer s.env) (sw.ended s) (able_started s.env.links.destroyer s.env) b (ended_slots s h)

-- one that does not run ends, and has not begun or has ended already

ended_told : (n : Exec) (x : Ex) → (x.links.stage ≡ Started → ⊥) → FreshEx n x → stacked (x.run ∷ x.callers) ≡ []
ended_told n x f h = by x.links.stage refl h
  where
    by : (g : Stage) → x.links.stage ≡ g → FreshBy g n x → stacked (x.run ∷ x.callers) ≡ []
    by Fresh e h = subst (λ cs. placed x.run.frame x.run.this x.run.control (stacked cs) ≡ []) (sym h.callers) h.marks
    by Started e h = absurd (f e)
    by Ended e h = h

abbrev over_links : Links → Links
over_links l = record l { live = false; stage = Ended }

ended_kept : (n : Exec) (o : Option Ex) (m : Members) → ((x : Ex) → o ≡ Some x → stacked (x.run ∷ x.callers) ≡ []) → ParkedBy FreshEx n.home m.parked → ParkedBy FreshEx n.home (sw.links_by over_links n.serial o m).parked
ended_kept n None m f s = s
ended_kept n (Some x) m f s = parked.update_parked FreshEx n.home n.serial (Some (record x { links = over_links x.links })) m.parked (f x refl) s

over_keeps : (n : Exec) (s : State) → (n ≡ s.env.exec → ⊥) → ((x : Ex) → parked_at n s.env ≡ Some x → stacked (x.run ∷ x.callers) ≡ []) → FreshEnv s.env → FreshEnv (sw.over n s).env
over_keeps n s a f h =
    tested FreshEnv (exec_eq n s.env.exec) (record s.env { links = over_links s.env.links }) (change n.home (sw.links_changed over_links n.serial) s.env) (λ e. absurd (a (same_exec n s.env.exec e))) (λ e. changes n.home (sw.links_changed over_links n.serial) s.env (λ m q k. ended_kept n (joined (find n.serial m.parked)) m (λ x i. f x (ap (λ o. joined (slot_in n.serial o)) q ∙ i)) k) h)

some_same : (x y : Ex) → Some x ≡ Some y → y ≡ x
some_same x y e = cc

take_down_slot : (n : Exec) (o : Option Ex) (s : State) → parked_at n s.env ≡ o → SlotBy FreshEx n o → SlotBy (λ m x. m ≡ s.env.exec → ⊥) n o → FreshEnv s.env → FreshMoved (sw.take_down_by n o s)
take_down_slot n None s i r a h = h
take_down_slot n (Some x) s i r a h = by x.links.stage refl
  where
    others : (x.links.stage ≡ Started → ⊥) → (y : Ex) → parked_at n s.env ≡ Some y → stacked (y.run ∷ y.callers) ≡ []
    others f y j = subst (λ (z : Ex). stacked (z.run ∷ z.callers) ≡ []) (sym (some_same x y (sym i ∙ j))) (ended_told n x f r)

    by : (g : Stage) → x.links.stage ≡ g → FreshMoved (sw.take_down_at g n x s)
    by Fresh e = over_keeps n s a (others (λ f. let c : Fresh ≡ Started = sym e ∙ f in absurd (cc))) h
    by Started e =
        switched_keeps n (sw.unwound_there reason.Destroyed (record x { links = record x.links { live = false; destroyer = Some s.env.exec } })) s (subst IsStarted (sym e) tt) (stops s h) h.slots
    by Ended e = over_keeps n s a (others (λ f. let c : Ended ≡ Started = sym e ∙ f in absurd (cc))) h

pub take_down_keeps : (o : Option Exec) (s : State) → EnvBy (λ m x. m ≡ s.env.exec → ⊥) s.env → FreshEnv s.env → FreshMoved (sw.take_down o s)
take_down_keeps None s a h = h
take_down_keeps (Some n) s a h =
    take_down_slot n (parked_at n s.env) s refl (parked.parked_rests FreshEx n s.env h.slots) (parked.parked_rests (λ m x. m ≡ s.env.exec → ⊥) n s.env a) h
