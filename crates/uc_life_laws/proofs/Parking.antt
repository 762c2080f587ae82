-- All that an execution can come by stays known where members, executions and who runs change.
use Rattle.std.proofs.Common.{◌≡◌, ℕ, ℤ, ◌∙◌, Bool, true, false, List, [], ◌∷◌, ◌++◌, replicate, Option, Some, None, refl, sym, subst}
use Rattle.std.specs.Prelude.{pos}
use Rattle.uc_tree.specs.declared.limits.TheConstants.{UNHANDLED}
use Rattle.uc_tree.specs.Source.{Stmts, Routine, Purpose, TaskMain, CoroutineMain, Procedure, Function, Builder}
use Rattle.uc_entry.specs.declared.fault.RunFault.TheVariants.{ResumeInUse, SwitchInUnwind}
use Rattle.uc_entry.specs.Keyed.{find}
use Rattle.uc_machine.specs.declared.exec.Exec.{Exec}
use Rattle.uc_machine.specs.declared.exec.Home.{Home}
use Rattle.uc_machine.specs.declared.exec.Home.TheVariants as home
use Rattle.uc_machine.specs.declared.exec.Owner.{Owner}
use Rattle.uc_machine.specs.declared.exec.Owner.TheVariants.{Frame, Fields}
use Rattle.uc_machine.specs.declared.exec.Pending.{Pending}
use Rattle.uc_machine.specs.declared.exec.Stage.{Stage}
use Rattle.uc_machine.specs.declared.exec.Stage.TheVariants.{Fresh, Started, Ended}
use Rattle.uc_machine.specs.declared.exec.UnwindReason.{UnwindReason}
use Rattle.uc_machine.specs.declared.exec.UnwindReason.TheVariants as reason
use Rattle.uc_machine.specs.Executions.{Links, exec_eq, others, joined, members_at, change, change_in, parked_at, frames_by, frames_changed, frame_changed, value_changed, with_owned, with_frames}
use Rattle.uc_machine.specs.Insides as inside
use Rattle.uc_machine.specs.Switches as sw
use Rattle.uc_machine.specs.Switches.{Moved, To, Stops}
use Rattle.uc_machine.specs.Quiet.{fresh, behind_body}
use Rattle.uc_machine.specs.Pieces.{Value, Number, Place, Running, Object, Nothing, Todo, Rest, Active, State, Env, Members, address, stored, nought, written}
use Rattle.uc_typing.specs.Typing.{Ty, Obj, Sig, Table, object_ty, FineStmts, Raw}
use Rattle.uc_typing.specs.Pieces.{Ok}
use Rattle.uc_typing.specs.States.{IsObject, IsSorted, Routine_is}
use Rattle.uc_life_laws.specs.Things.{Few, IsFew, LiesIn, Known}
use Rattle.uc_life_laws.specs.LifeStates.{SlotBy, ParkedBy, MembersBy}
use Rattle.uc_life_laws.specs.Knowing.{KnownParams, KnownFrames, KnownThis, Knows, KnowsWaits, ClaimsEx, ClaimsBy, ClaimsSlot, Anything, ClaimsEnv, ClaimsState, AtHand}
use Rattle.uc_life_laws.specs.Kinds.{StaysAt, Stays, IsKept, Claimed}
use Rattle.uc_life_laws.proofs.Cells.{either, tested}
use Rattle.uc_life_laws.proofs.Parked as parked
use Rattle.uc_life_laws.proofs.Parked.{Ex, at_home}
use Rattle.uc_life_laws.proofs.Knowns.{frames_stored}

-- what a frame holds does not depend on what its activation has to do
pub frames_run : (t : Table) (few : Few) (n : Exec) (gs : List Sig) (fs : List (List Value)) (c d : Active) (cs : List Active) → KnownFrames t few n gs fs (c ∷ cs) → KnownFrames t few n gs fs (d ∷ cs)
frames_run t few n [] [] c d cs h = absurd h
frames_run t few n [] (f ∷ fs) c d cs h = absurd h
frames_run t few n (g ∷ gs) [] c d cs h = absurd h
frames_run t few n (g ∷ gs) (f ∷ fs) c d cs h = h

pub frames_others : (t : Table) (few : Few) (n : Exec) (gs : List Sig) (fs : List (List Value)) (c : Active) (cs : List Active) → KnownFrames t few n gs fs (c ∷ cs) → KnownFrames t few n (others gs) (others fs) cs
frames_others t few n [] [] c cs h = absurd h
frames_others t few n [] (f ∷ fs) c cs h = absurd h
frames_others t few n (g ∷ gs) [] c cs h = absurd h
frames_others t few n (g ∷ gs) (f ∷ fs) c cs h = h.1

-- an execution of this name whose running activation is to be given these operands
pub record KnowsRun (t : Table) (few : Few) (n : Exec) (gs : List Sig) (given : List Ty) (fs : List (List Value)) (a : Active) (cs : List Active) : Type 0 where
  pub frames : KnownFrames t few n gs fs (a ∷ cs)
  pub run : Knows t few n gs given cs a
  pub callers : KnowsWaits t few n (others gs) cs

-- the same under the same name
pub run_as : (t : Table) (few : Few) (n m : Exec) (gs : List Sig) (given : List Ty) (fs : List (List Value)) (a : Active) (cs : List Active) → m ≡ n → KnowsRun t few n gs given fs a cs → KnowsRun t few m gs given fs a cs
run_as t few n m gs given fs a cs e h = subst (λ k. KnowsRun t few k gs given fs a cs) (sym e) h

-- the main of a routine
pub main_ok : (t : Table) (g : Sig) (p : Purpose) (line : ℕ) (body : Stmts) → IsSorted p g.whole → FineStmts t g [] body → Ok t g [] [] (Rest body ∷ behind_body p line) []
main_ok t g TaskMain line body e f = (tt, f, (tt, refl))
main_ok t g CoroutineMain line body e f = (tt, f, (tt, refl))
main_ok t g Procedure line body e f = (tt, f, (tt, refl))
main_ok t g Function line body e f = (tt, f, (tt, refl))
main_ok t g Builder line body e f = (tt, f, refl)

-- what stays whatever is written
module _ (Q : Exec → List Sig → Ex → Type 0) (writes : (n : Exec) (gs : List Sig) (x : Ex) (d k : ℕ) (v : Value) → Q n gs x → Q n gs (record x { frames = frame_changed d (value_changed k (stored v) nought) x.frames })) where
  all_at : (n : Exec) (o : Owner) (k : ℕ) (v : Value) → StaysAt Q n o k v
  all_at n (Frame m d) k v = λ q gs x h. writes m gs x d k v h
  all_at n (Fields o) k v = tt

  pub all_stays : (n : Exec) (w v : Value) → Stays Q n w v
  all_stays n (Number z) v = tt
  all_stays n (Place o p) v = all_at n o (address p) v
  all_stays n (Running x) v = tt
  all_stays n (Object o) v = tt
  all_stays n Nothing v = tt

pub anything_kept : IsKept Anything
anything_kept = record { written = λ n gs x d k z h. tt; linked = λ n gs x l h. tt; unwound = λ n gs x why other h. tt }

module _ (t : Table) (few : Few) (Q : Exec → List Sig → Ex → Type 0) (kept : IsKept Q) where
  pub like : {e f : Env} → ClaimsEnv t few Q e → f.hand ≡ e.hand → f.house ≡ e.house → f.own ≡ e.own → ClaimsEnv t few Q f
  like s h g o = parked.like (ClaimsSlot t few Q) s h g o

  -- a task changes, but who runs stays, its frames hold what is known, and so do all executions that do not run
  pub record Keeps (e f : Env) : Type 0 where
    pub exec : f.exec ≡ e.exec
    pub frames : (gs : List Sig) (cs : List Active) → KnownFrames t few e.exec gs e.frames cs → KnownFrames t few e.exec gs f.frames cs
    pub env : ClaimsEnv t few Q f

  pub keeps_both : {e f g : Env} → Keeps e f → Keeps f g → Keeps e g
  keeps_both {e} {f} {g} h k = record {
    exec = k.exec ∙ h.exec;
    frames = λ gs cs x. subst (λ n. KnownFrames t few n gs g.frames cs) h.exec (k.frames gs cs (subst (λ n. KnownFrames t few n gs f.frames cs) (sym h.exec) (h.frames gs cs x)));
    env = k.env;
  }

  -- with the same frames
  keeps_frames : {e f : Env} → f.exec ≡ e.exec → f.frames ≡ e.frames → ClaimsEnv t few Q f → Keeps e f
  keeps_frames {e} {f} x q h = record { exec = x; frames = λ gs cs y. subst (λ fs. KnownFrames t few e.exec gs fs cs) (sym q) y; env = h }

  pub keeps_like : {e f : Env} → ClaimsEnv t few Q e → f.exec ≡ e.exec → f.frames ≡ e.frames → f.hand ≡ e.hand → f.house ≡ e.house → f.own ≡ e.own → Keeps e f
  keeps_like s x q h g o = keeps_frames x q (like s h g o)

  keeps_change : (h : Home) (f : Members → Members) (e : Env) → parked.KeepsParked (ClaimsSlot t few Q) h f → ClaimsEnv t few Q e → Keeps e (change h f e)
  keeps_change h f e k s = keeps_frames (parked.change_exec h f e) (parked.change_frames h f e) (parked.change_rests (ClaimsSlot t few Q) h f e k s)

  -- writes

  record KeepsFrames (m : Exec) (f : List (List Value) → List (List Value)) : Type 0 where
    frames : (n : Exec) (gs : List Sig) (fs : List (List Value)) (cs : List Active) → KnownFrames t few n gs fs cs → KnownFrames t few n gs (f fs) cs
    claim : (gs : List Sig) (x : Ex) → Q m gs x → Q m gs (record x { frames = f x.frames })

  by_framed : (g : Stage) (n : Exec) (x : Ex) (f : List (List Value) → List (List Value)) → KeepsFrames n f → ClaimsBy t few Q n g x → ClaimsBy t few Q n g (record x { frames = f x.frames })
  by_framed Fresh n x f k r = record { sigs = r.sigs; frames = k.frames n r.sigs x.frames (x.run ∷ x.callers) r.frames; run = r.run; callers = r.callers; claim = k.claim r.sigs x r.claim }
  by_framed Started n x f k r = record { sigs = r.sigs; frames = k.frames n r.sigs x.frames (x.run ∷ x.callers) r.frames; run = r.run; callers = r.callers; claim = k.claim r.sigs x r.claim }
  by_framed Ended n x f k r = tt

  frames_kept : (h : Home) (n : ℕ) (f : List (List Value) → List (List Value)) (o : Option Ex) (m : Members) → KeepsFrames (at_home h n) f → SlotBy (ClaimsSlot t few Q) (at_home h n) o → ParkedBy (ClaimsSlot t few Q) h m.parked → ParkedBy (ClaimsSlot t few Q) h (frames_by n f o m).parked
  frames_kept h n f None m same r s = s
  frames_kept h n f (Some x) m same r s =
      parked.update_parked (ClaimsSlot t few Q) h n (Some (record x { frames = f x.frames })) m.parked (by_framed x.links.stage (at_home h n) x f same r) s

  with_frames_keeps : (n : Exec) (f : List (List Value) → List (List Value)) (e : Env) → ((m : Exec) (gs : List Sig) (fs : List (List Value)) (cs : List Active) → KnownFrames t few m gs fs cs → KnownFrames t few m gs (f fs) cs) → (exec_eq n e.exec ≡ false → (gs : List Sig) (x : Ex) → Q n gs x → Q n gs (record x { frames = f x.frames })) → ClaimsEnv t few Q e → Keeps e (with_frames n f e)
  with_frames_keeps n f e same stays s =
      tested (Keeps e) (exec_eq n e.exec) (record e { frames = f e.frames }) (change n.home (frames_changed n.serial f) e) (λ q. record { exec = refl; frames = λ gs cs y. same e.exec gs e.frames cs y; env = like s refl refl refl }) (λ q. keeps_change n.home (frames_changed n.serial f) e (λ m h. frames_kept n.home n.serial f (joined (find n.serial m.parked)) m (record { frames = same; claim = stays q }) (parked.found_parked (ClaimsSlot t few Q) n.home n.serial m.parked h) h) s)

  owned_keeps : (o : Owner) (k : ℕ) (v : Value) (e : Env) → StaysAt Q e.exec o k v → ClaimsEnv t few Q e → Keeps e (with_owned o (value_changed k (stored v) nought) e)
  owned_keeps (Frame n d) k v e stays s =
      with_frames_keeps n (frame_changed d (value_changed k (stored v) nought)) e (λ m gs fs cs h. frames_stored t few m d k v gs fs cs h) stays s
  owned_keeps (Fields o) k v e stays s = keeps_change (home.Object o) _ e (λ m h. h) s

  -- where what is claimed stays as that is written
  pub written_keeps : (v w : Value) (e : Env) → Stays Q e.exec v w → ClaimsEnv t few Q e → Keeps e (written v w e)
  written_keeps (Number n) w e stays s = keeps_like s refl refl refl refl refl
  written_keeps (Place o p) w e stays s = owned_keeps o (address p) w e stays s
  written_keeps (Running x) w e stays s = keeps_like s refl refl refl refl refl
  written_keeps (Object o) w e stays s = owned_keeps (Fields o) 0 w e tt s
  written_keeps Nothing w e stays s = keeps_like s refl refl refl refl refl

  -- as it does where that is a number
  number_at : (n : Exec) (o : Owner) (k : ℕ) (z : ℤ) → StaysAt Q n o k (Number z)
  number_at n (Frame m d) k z = λ q gs x h. kept.written m gs x d k z h
  number_at n (Fields o) k z = tt

  pub number_stays : (n : Exec) (v : Value) (z : ℤ) → Stays Q n v (Number z)
  number_stays n (Number y) z = tt
  number_stays n (Place o p) z = number_at n o (address p) z
  number_stays n (Running x) z = tt
  number_stays n (Object o) z = tt
  number_stays n Nothing z = tt

  -- executions are made and go, and their links change

  -- known under the name that it gets
  pub born_keeps : (h : Home) (x : Ex) (e : Env) → ((m : Members) → members_at h e ≡ Some m → ClaimsSlot t few Q (sw.new_exec h e) x) → ClaimsEnv t few Q e → Keeps e (sw.born h x e)
  born_keeps h x e r s =
      keeps_frames (parked.change_exec h (sw.one_more x) e) (parked.change_frames h (sw.one_more x) e) (by (members_at h e) (parked.members_rests (ClaimsSlot t few Q) h e s) r)
    where
      by : (o : Option Members) → MembersBy (ClaimsSlot t few Q) h o → ((m : Members) → o ≡ Some m → ClaimsSlot t few Q (at_home h (sw.serial_in o)) x) → ClaimsEnv t few Q (change_in h (sw.one_more x) o e)
      by None k r = s
      by (Some m) k r = parked.set_rests (ClaimsSlot t few Q) h (sw.one_more x m) e (parked.more_parked (ClaimsSlot t few Q) h m.serial x m.parked (r m refl) k) s

  pub forgotten_keeps : (o : Option Exec) (e : Env) → ClaimsEnv t few Q e → Keeps e (sw.forgotten o e)
  forgotten_keeps None e s = keeps_like s refl refl refl refl refl
  forgotten_keeps (Some n) e s = keeps_change n.home (sw.slot_gone n.serial) e (λ m h. parked.without_parked (ClaimsSlot t few Q) n.home n.serial m.parked h) s

  -- a change of links that leaves an execution at its stage, or ends it
  abbrev KeepsLinks : (Links → Links) → Type 0
  KeepsLinks g = (n : Exec) (x : Ex) → ClaimsBy t few Q n x.links.stage x → ClaimsBy t few Q n (g x.links).stage (record x { links = g x.links })

  links_kept : (h : Home) (g : Links → Links) (n : ℕ) (o : Option Ex) (m : Members) → KeepsLinks g → SlotBy (ClaimsSlot t few Q) (at_home h n) o → ParkedBy (ClaimsSlot t few Q) h m.parked → ParkedBy (ClaimsSlot t few Q) h (sw.links_by g n o m).parked
  links_kept h g n None m l r s = s
  links_kept h g n (Some x) m l r s = parked.update_parked (ClaimsSlot t few Q) h n (Some (record x { links = g x.links })) m.parked (l (at_home h n) x r) s

  links_keeps : (g : Links → Links) (n : Exec) (e : Env) → KeepsLinks g → ClaimsEnv t few Q e → Keeps e (sw.with_links g n e)
  links_keeps g n e l s =
      either (Keeps e) (exec_eq n e.exec) (record e { links = g e.links }) (change n.home (sw.links_changed g n.serial) e) (keeps_like s refl refl refl refl refl) (keeps_change n.home (sw.links_changed g n.serial) e (λ m h. links_kept n.home g n.serial (joined (find n.serial m.parked)) m l (parked.found_parked (ClaimsSlot t few Q) n.home n.serial m.parked h) h) s)

  -- links are no matter
  linked : (g : Stage) (n : Exec) (x : Ex) (l : Links) → ClaimsBy t few Q n g x → ClaimsBy t few Q n g (record x { links = l })
  linked Fresh n x l r = record { sigs = r.sigs; frames = r.frames; run = r.run; callers = r.callers; claim = kept.linked n r.sigs x l r.claim }
  linked Started n x l r = record { sigs = r.sigs; frames = r.frames; run = r.run; callers = r.callers; claim = kept.linked n r.sigs x l r.claim }
  linked Ended n x l r = tt

  pub enlivened_keeps : (o : Option Exec) (e : Env) → ClaimsEnv t few Q e → Keeps e (sw.enlivened o e)
  enlivened_keeps None e s = keeps_like s refl refl refl refl refl
  enlivened_keeps (Some n) e s =
      links_keeps (λ l. record l { live = true }) n e (λ n x r. linked x.links.stage n x (record x.links { live = true }) r) s

  pub raised_keeps : (n : Exec) (p : Pending) (e : Env) → ClaimsEnv t few Q e → Keeps e (inside.raised_at n p e)
  raised_keeps n p e s =
      links_keeps (λ l. record l { pending = l.pending ++ p ∷ [] }) n e (λ n x r. linked x.links.stage n x (record x.links { pending = x.links.pending ++ p ∷ [] }) r) s

  -- switches

  abbrev Now : State → Type 0
  Now s = Claimed Q t few [] s

  abbrev pub KnowsMoved : Moved (List Todo) Value → Type 0
  KnowsMoved (To s) = Now s
  KnowsMoved (Stops f) = Unit {0}

  -- who may be activated
  abbrev KnowsNext : Option (Exec × Ex) → Type 0
  KnowsNext None = Unit {0}
  KnowsNext (Some p) = ClaimsEx t few Q p.0 p.1

  -- the running one rests, as it stands
  stopped_by : (g : Stage) (s : State) → Now s → ClaimsBy t few Q s.env.exec g (sw.stopped s)
  stopped_by Fresh s x = record { sigs = x.0.sigs; frames = x.0.frames; run = x.0.run; callers = x.0.callers; claim = x.1 }
  stopped_by Started s x = record { sigs = x.0.sigs; frames = x.0.frames; run = x.0.run; callers = x.0.callers; claim = x.1 }
  stopped_by Ended s x = tt

  -- another one goes on in its place
  switched_in : (n : Exec) (x : Ex) (s : State) → ClaimsEx t few Q n x → ClaimsSlot t few Q s.env.exec (sw.stopped s) → ClaimsEnv t few Q s.env → Now (sw.switched n x s)
  switched_in n x s r o h = (
    record {
      sigs = r.sigs;
      frames = r.frames;
      run = r.run;
      callers = r.callers;
      env = like (parked.slot_rests (ClaimsSlot t few Q) s.env.exec (Some (sw.stopped s)) (sw.set_slot n None s.env) o (parked.slot_rests (ClaimsSlot t few Q) n None s.env tt h)) refl refl refl;
    },
    r.claim,
  )

  able_stage : (g : Stage) (n : Exec) (x : Ex) → ClaimsBy t few Q n g x → KnowsNext (sw.able_at g n x)
  able_stage Fresh n x r = tt
  able_stage Started n x r = r
  able_stage Ended n x r = tt

  able_slot : (n : Exec) (o : Option Ex) → SlotBy (ClaimsSlot t few Q) n o → KnowsNext (sw.able_by n o)
  able_slot n None r = tt
  able_slot n (Some x) r = able_stage x.links.stage n x r

  able_next : (o : Option Exec) (e : Env) → ClaimsEnv t few Q e → KnowsNext (sw.able o e)
  able_next None e s = tt
  able_next (Some n) e s = able_slot n (parked_at n e) (parked.parked_rests (ClaimsSlot t few Q) n e s)

  or_next : (a b : Option (Exec × Ex)) → KnowsNext a → KnowsNext b → KnowsNext (sw.or_else a b)
  or_next None b h k = k
  or_next (Some p) b h k = h

  go_on_in : (o : Option (Exec × Ex)) (s : State) → KnowsNext o → ClaimsSlot t few Q s.env.exec (sw.stopped s) → ClaimsEnv t few Q s.env → KnowsMoved (sw.go_on o s)
  go_on_in None s r o h = tt
  go_on_in (Some p) s r o h = switched_in p.0 p.1 s r o h

  -- why it is unwound is no matter, if that is no return
  thrown : (why : UnwindReason) (n : Exec) (x : Ex) → ((home : ℕ) → why ≡ reason.ReturnTo home → ⊥) → ClaimsEx t few Q n x → ClaimsEx t few Q n (sw.unwound_there why x)
  thrown why n x other r = record {
    sigs = r.sigs;
    frames = frames_run t few n r.sigs x.frames x.run _ x.callers r.frames;
    run = record { sig = r.run.sig; own = r.run.own; scope = r.run.scope; base = r.run.base; frame = r.run.frame; values = r.run.values; this = r.run.this; ok = r.run.ok; ends = r.run.ends };
    callers = r.callers;
    claim = kept.unwound n r.sigs x why other r.claim;
  }

  throw_in : (o : Option (Exec × Ex)) (s : State) → KnowsNext o → ClaimsSlot t few Q s.env.exec (sw.stopped s) → ClaimsEnv t few Q s.env → KnowsMoved (sw.throw_at o s)
  throw_in None s r o h = tt
  throw_in (Some p) s r o h = switched_in p.0 _ s (thrown (reason.Event UNHANDLED (pos 0) (pos 0)) p.0 p.1 (λ home e. absurd (cc)) r) o h

  pub finish_in : (s : State) → ClaimsEnv t few Q s.env → KnowsMoved (sw.finish s)
  finish_in s h =
      go_on_in (sw.or_else (sw.able s.env.links.starter s.env) (sw.able s.env.links.resumer s.env)) (sw.ended s) (or_next (sw.able s.env.links.starter s.env) (sw.able s.env.links.resumer s.env) (able_next s.env.links.starter s.env h) (able_next s.env.links.resumer s.env h)) tt (like h refl refl refl)

  pub taken_down_in : (s : State) → ClaimsEnv t few Q s.env → KnowsMoved (sw.taken_down s)
  taken_down_in s h = go_on_in (sw.able s.env.links.destroyer s.env) (sw.ended s) (able_next s.env.links.destroyer s.env h) tt (like h refl refl refl)

  pub escape_in : (s : State) → ClaimsEnv t few Q s.env → KnowsMoved (sw.escape s)
  escape_in s h = throw_in (sw.able s.env.links.resumer s.env) (sw.ended s) (able_next s.env.links.resumer s.env h) tt (like h refl refl refl)

  pub suspend_in : (s : State) → Now s → KnowsMoved (sw.suspend s)
  suspend_in s x =
      either KnowsMoved (sw.in_destruction s.env) (Stops SwitchInUnwind) (sw.go_on (sw.able s.env.links.resumer s.env) s) tt (go_on_in (sw.able s.env.links.resumer s.env) s (able_next s.env.links.resumer s.env x.0.env) (stopped_by s.env.links.stage s x) x.0.env)

  wake_stage : (g : Stage) (n : Exec) (y : Ex) (s : State) → ClaimsBy t few Q n g y → Now s → KnowsMoved (sw.wake_at g n y s)
  wake_stage Fresh n y s r x = switched_in n _ s (record { sigs = r.sigs; frames = r.frames; run = r.run; callers = r.callers; claim = kept.linked n r.sigs y (sw.woken s.env.exec y.links) r.claim }) (stopped_by s.env.links.stage s x) x.0.env
  wake_stage Started n y s r x = switched_in n _ s (record { sigs = r.sigs; frames = r.frames; run = r.run; callers = r.callers; claim = kept.linked n r.sigs y (sw.woken s.env.exec y.links) r.claim }) (stopped_by s.env.links.stage s x) x.0.env
  wake_stage Ended n y s r x = tt

  wake_slot : (n : Exec) (o : Option Ex) (s : State) → SlotBy (ClaimsSlot t few Q) n o → Now s → KnowsMoved (sw.wake_by n o s)
  wake_slot n None s r x = tt
  wake_slot n (Some y) s r x = wake_stage y.links.stage n y s r x

  wake_one_in : (o : Option Exec) (s : State) → Now s → KnowsMoved (sw.wake_one o s)
  wake_one_in None s x = tt
  wake_one_in (Some n) s x =
      either KnowsMoved (exec_eq n s.env.exec) (Stops ResumeInUse) (sw.wake_by n (parked_at n s.env) s) tt (wake_slot n (parked_at n s.env) s (parked.parked_rests (ClaimsSlot t few Q) n s.env x.0.env) x)

  pub wake_in : (o : Option Exec) (s : State) → Now s → KnowsMoved (sw.wake o s)
  wake_in o s x = either KnowsMoved (sw.in_destruction s.env) (Stops SwitchInUnwind) (sw.wake_one o s) tt (wake_one_in o s x)

  -- the same running execution, in a task that has changed, by the same kinds
  with_env : {e : Env} (s : State) (x : ClaimsState t few Q [] s) → Keeps s.env e → (y : ClaimsState t few Q [] (record s { env = e })) × (y.sigs ≡ x.sigs)
  with_env {e} s x k =
      let there : KnowsRun t few e.exec x.sigs [] e.frames s.run s.callers = run_as t few s.env.exec e.exec x.sigs [] e.frames s.run s.callers k.exec (record { frames = k.frames x.sigs (s.run ∷ s.callers) x.frames; run = x.run; callers = x.callers }) in
      (record { sigs = x.sigs; frames = there.frames; run = there.run; callers = there.callers; env = k.env }, refl)

  -- the destruction of a coroutine

  -- who runs and its frames stay as links change
  links_exec : (g : Links → Links) (n : Exec) (e : Env) → (sw.with_links g n e).exec ≡ e.exec
  links_exec g n e = either (λ (f : Env). f.exec ≡ e.exec) (exec_eq n e.exec) (record e { links = g e.links }) (change n.home (sw.links_changed g n.serial) e) refl (parked.change_exec n.home (sw.links_changed g n.serial) e)

  links_frames : (g : Links → Links) (n : Exec) (e : Env) → (sw.with_links g n e).frames ≡ e.frames
  links_frames g n e = either (λ (f : Env). f.frames ≡ e.frames) (exec_eq n e.exec) (record e { links = g e.links }) (change n.home (sw.links_changed g n.serial) e) refl (parked.change_frames n.home (sw.links_changed g n.serial) e)

  claim_in : (s : State) (e : Env) (gs : List Sig) → e.exec ≡ s.env.exec → e.frames ≡ s.env.frames → Q s.env.exec gs (sw.stopped s) → Q e.exec gs (record { run = s.run; callers = s.callers; frames = e.frames; links = e.links })
  claim_in s e gs x f c =
      subst (λ n. Q n gs (record { run = s.run; callers = s.callers; frames = e.frames; links = e.links })) (sym x) (subst (λ fs. Q s.env.exec gs (record { run = s.run; callers = s.callers; frames = fs; links = e.links })) (sym f) (kept.linked s.env.exec gs (sw.stopped s) e.links c))

  over_in : (n : Exec) (s : State) → Now s → Now (sw.over n s)
  over_in n s x =
      let g : Links → Links = λ l. record l { live = false; stage = Ended } in
      let y = with_env s x.0 (links_keeps g n s.env (λ n y r. tt) x.0.env) in
      (y.0, subst (λ gs. Q (sw.over n s).env.exec gs (sw.stopped (sw.over n s))) (sym y.1) (claim_in s (sw.over n s).env x.0.sigs (links_exec g n s.env) (links_frames g n s.env) x.1))

  take_down_stage : (g : Stage) (n : Exec) (y : Ex) (s : State) → ClaimsBy t few Q n g y → Now s → KnowsMoved (sw.take_down_at g n y s)
  take_down_stage Fresh n y s r x = over_in n s x
  take_down_stage Started n y s r x = switched_in n _ s (thrown reason.Destroyed n _ (λ home e. absurd (cc)) (record { sigs = r.sigs; frames = r.frames; run = r.run; callers = r.callers; claim = kept.linked n r.sigs y (record y.links { live = false; destroyer = Some s.env.exec }) r.claim })) (stopped_by s.env.links.stage s x) x.0.env
  take_down_stage Ended n y s r x = over_in n s x

  take_down_slot : (n : Exec) (o : Option Ex) (s : State) → SlotBy (ClaimsSlot t few Q) n o → Now s → KnowsMoved (sw.take_down_by n o s)
  take_down_slot n None s r x = x
  take_down_slot n (Some y) s r x = take_down_stage y.links.stage n y s r x

  pub take_down_in : (o : Option Exec) (s : State) → Now s → KnowsMoved (sw.take_down o s)
  take_down_in None s x = x
  take_down_in (Some n) s x = take_down_slot n (parked_at n s.env) s (parked.parked_rests (ClaimsSlot t few Q) n s.env x.0.env) x

  -- a new execution

  few_other : (n m : Exec) (a : Ty) (v : Value) → IsFew t few n a v → IsFew t few m a v
  few_other n m a (Number z) h = tt
  few_other n m a (Place o p) h = tt
  few_other n m a (Running x) h = tt
  few_other n m a (Object o) h = h
  few_other n m a Nothing h = tt

  -- what is an object, whole or not, is one to an execution that has it at hand
  object_to : (n : Exec) (K : Value → Ty → Type 0) (b : Bool) (c : ℕ) (v : Value) → IsObject t c v → IsFew t few n (Raw c) v → IsFew t few n (Obj c) v → LiesIn t few n K (Obj c) v → Known t few n K (object_ty b c) v
  object_to n K true c v i r f h = record { is = i; passes = r }
  object_to n K false c v i r f h = record { is = i; passes = f; rooted = λ k. h; held = λ m. h; seated = λ i. absurd i }

  object_apart : (n m : Exec) (K L : Value → Ty → Type 0) (b d : Bool) (c : ℕ) (v : Value) → Known t few n K (object_ty b c) v → (IsFew t few n (Raw c) v → IsFew t few n (Obj c) v) × (IsFew t few n (Obj c) v → IsFew t few n (Raw c) v) → LiesIn t few m L (Obj c) v → Known t few m L (object_ty d c) v
  object_apart n m K L true d c v h f k = object_to m L d c v h.is (few_other n m (Raw c) v h.passes) (few_other n m (Obj c) v (f.0 h.passes)) k
  object_apart n m K L false d c v h f k = object_to m L d c v h.is (few_other n m (Raw c) v (f.1 h.passes)) (few_other n m (Obj c) v h.passes) k

  -- the object at hand is known to such a one
  pub this_apart : (n m : Exec) (K L : Value → Ty → Type 0) (g i : Sig) (v : Value) → i.this ≡ g.this → KnownThis t few n K g g.this v → ((c : ℕ) → g.this ≡ Some c → (IsFew t few n (Raw c) v → IsFew t few n (Obj c) v) × (IsFew t few n (Obj c) v → IsFew t few n (Raw c) v)) → ((c : ℕ) → g.this ≡ Some c → LiesIn t few m L (Obj c) v) → KnownThis t few m L i i.this v
  this_apart n m K L g i v e h f k = subst (λ o. KnownThis t few m L i o v) (sym e) (by g.this h f k)
    where
      by : (o : Option ℕ) → KnownThis t few n K g o v → ((c : ℕ) → o ≡ Some c → (IsFew t few n (Raw c) v → IsFew t few n (Obj c) v) × (IsFew t few n (Obj c) v → IsFew t few n (Raw c) v)) → ((c : ℕ) → o ≡ Some c → LiesIn t few m L (Obj c) v) → KnownThis t few m L i o v
      by None h f k = tt
      by (Some c) h f k = object_apart n m K L g.whole i.whole c v h (f c refl) (k c refl)

  -- its main begins
  pub fresh_knows : (n : Exec) (g : Sig) (x : Routine) (this : Value) → Routine_is t g x → g.params ≡ [] → KnownThis t few n (AtHand t few n [] []) g g.this this → Q n (g ∷ []) (fresh x this) → ClaimsEx t few Q n (fresh x this)
  fresh_knows n g x this r e i c = record {
    sigs = g ∷ [];
    frames = (subst (λ ps. KnownParams t few n (AtHand t few n [] []) ps (replicate x.cells nought)) (sym e) tt, tt);
    run = record { sig = g; own = []; scope = []; base = []; frame = refl; values = tt; this = i; ok = main_ok t g x.purpose x.line x.body r.purpose r.body; ends = refl };
    callers = tt;
    claim = c;
  }
