-- The executions that do not run stay in order, and switches lead to one that is.
use Rattle.std.proofs.Common.{◌≡◌, ℕ, List, [], ◌∷◌, ◌++◌, replicate, Option, Some, None, Bool, true, false, refl, sym, subst}
use Rattle.std.specs.Prelude.{nat_eq, if◌then◌else◌}
use Rattle.uc_tree.specs.Source.{Source, Stmts, Routine, Purpose, TaskMain, CoroutineMain, Procedure, Function, Builder}
use Rattle.uc_machine.specs.declared.exec.Exec.{Exec}
use Rattle.uc_machine.specs.declared.exec.Owner.TheVariants.{Frame, Fields}
use Rattle.uc_machine.specs.Executions.{Links, exec_eq, others, Execution, update, joined, members_at, set_members, change, change_in, slot_in, frames_by, frames_changed, frame_changed, value_changed, parked_at, with_owned}
use Rattle.uc_machine.specs.declared.exec.UnwindReason.{UnwindReason}
use Rattle.uc_machine.specs.Quiet as q
use Rattle.uc_machine.specs.Quiet.{Value, Number, Place, Running, Object, Nothing, Link, Slot, FieldAt, At, Env, Members, Active, State, Step, Goes, Ticks, Asks, Todo, at, in_env, top, below, number, is_zero, loaded, written, further, address, variable_at, this_frame, nought, index_in, outcome, Outcome, Gives, Faults, LAST_ADDRESS, act, eval_step, object_step, quiet, with_elements, converting}
use Rattle.uc_machine.specs.Pieces as pc
use Rattle.uc_typing.specs.Typing.{Sig, Table, FineStmts}
use Rattle.uc_typing.specs.Pieces.{Ok}
use Rattle.uc_typing.specs.States.{Bound, Framed, IsThis, Active_is, Waits, Typed, After, Idle, Rests, RestsBy, MaybeRests, Parked, Inhand, IsSorted, Routine_is}
use Rattle.uc_typing.proofs.Frames.{exec_same}
use Rattle.uc_machine.specs.declared.exec.Home.{Home}
use Rattle.uc_machine.specs.declared.exec.Home.TheVariants as home
use Rattle.uc_machine.specs.declared.exec.Stage.{Stage}
use Rattle.uc_machine.specs.declared.exec.Stage.TheVariants.{Fresh, Started, Ended}
use Rattle.uc_machine.specs.declared.exec.Pending.{Pending}
use Rattle.uc_entry.specs.Keyed.{find}
use Rattle.uc_machine.specs.Insides as inside
use Rattle.uc_machine.specs.Switches as sw
use Rattle.uc_machine.specs.Switches.{Moved, To, Stops}
use Rattle.uc_typing.proofs.Frames.{bound_stored, framed_changed}
use Rattle.uc_typing.proofs.Operands.{either}

abbrev Ex : Type 0
Ex = Execution (List Todo) Value

module _ (t : Table) where
  -- members by their numbers

  abbrev MaybeMembers : Option Members → Type 0
  MaybeMembers None = Unit {0}
  MaybeMembers (Some m) = Parked t m.parked

  found_parked : (k : ℕ) (ps : List (ℕ × Option Ex)) → Parked t ps → MaybeRests t (joined (find k ps))
  found_parked k [] h = tt
  found_parked k (p ∷ ps) h = either (λ o. MaybeRests t (joined o)) (nat_eq p.0 k) (Some p.1) (find k ps) (one p.1 h.0) (found_parked k ps h.1)
    where
      one : (o : Option Ex) → MaybeRests t o → MaybeRests t (joined (Some o))
      one o h = h

  found_hand : (k : ℕ) (ps : List (ℕ × Members)) → Inhand t ps → MaybeMembers (find k ps)
  found_hand k [] h = tt
  found_hand k (p ∷ ps) h = either MaybeMembers (nat_eq p.0 k) (Some p.1) (find k ps) h.0 (found_hand k ps h.1)

  pub members_ok : (h : Home) (e : Env) → Idle t e → MaybeMembers (members_at h e)
  members_ok (home.Task n) e i = either MaybeMembers (nat_eq n e.own) (Some e.house) None i.0 tt
  members_ok (home.Object o) e i = found_hand o e.hand i.1

  update_parked : (k : ℕ) (o : Option Ex) (ps : List (ℕ × Option Ex)) → MaybeRests t o → Parked t ps → Parked t (update k o ps)
  update_parked k o [] r h = tt
  update_parked k o (p ∷ ps) r h = either (Parked t) (nat_eq p.0 k) ((k, o) ∷ ps) (p ∷ update k o ps) (r, h.1) (h.0, update_parked k o ps r h.1)

  update_hand : (k : ℕ) (m : Members) (ps : List (ℕ × Members)) → Parked t m.parked → Inhand t ps → Inhand t (update k m ps)
  update_hand k m [] r h = tt
  update_hand k m (p ∷ ps) r h = either (Inhand t) (nat_eq p.0 k) ((k, m) ∷ ps) (p ∷ update k m ps) (r, h.1) (h.0, update_hand k m ps r h.1)

  set_ok : (h : Home) (m : Members) (e : Env) → Parked t m.parked → Idle t e → Idle t (set_members h m e)
  set_ok (home.Task n) m e r i = either (Idle t) (nat_eq n e.own) (record e { house = m }) e (r, i.1) i
  set_ok (home.Object o) m e r i = (i.0, update_hand o m e.hand r i.1)

  abbrev KeepsParked : (Members → Members) → Type 0
  KeepsParked f = (m : Members) → Parked t m.parked → Parked t (f m).parked

  change_by : (h : Home) (f : Members → Members) (o : Option Members) (e : Env) → KeepsParked f → MaybeMembers o → Idle t e → Idle t (change_in h f o e)
  change_by h f None e k m i = i
  change_by h f (Some x) e k m i = set_ok h (f x) e (k x m) i

  pub change_ok : (h : Home) (f : Members → Members) (e : Env) → KeepsParked f → Idle t e → Idle t (change h f e)
  change_ok h f e k i = change_by h f (members_at h e) e k (members_ok h e i) i

  -- the execution of a name
  slot_ok : (k : ℕ) (o : Option Members) → MaybeMembers o → MaybeRests t (joined (slot_in k o))
  slot_ok k None h = tt
  slot_ok k (Some m) h = found_parked k m.parked h

  pub parked_ok : (n : Exec) (e : Env) → Idle t e → MaybeRests t (parked_at n e)
  parked_ok n e i = slot_ok n.serial (members_at n.home e) (members_ok n.home e i)

  -- changes of frames
  abbrev KeepsFrames : (List (List Value) → List (List Value)) → Type 0
  KeepsFrames f = (gs : List Sig) (fs : List (List Value)) → Framed t gs fs → Framed t gs (f fs)

  rests_framed : (g : Stage) (x : Ex) (f : List (List Value) → List (List Value)) → KeepsFrames f → RestsBy t g x → RestsBy t g (record x { frames = f x.frames })
  rests_framed Fresh x f k r = record { sigs = r.sigs; frames = k r.sigs x.frames r.frames; run = r.run; callers = r.callers }
  rests_framed Started x f k r = record { sigs = r.sigs; frames = k r.sigs x.frames r.frames; run = r.run; callers = r.callers }
  rests_framed Ended x f k r = tt

  frames_by_ok : (n : ℕ) (f : List (List Value) → List (List Value)) (o : Option Ex) (m : Members) → KeepsFrames f → MaybeRests t o → Parked t m.parked → Parked t (frames_by n f o m).parked
  frames_by_ok n f None m k r h = h
  frames_by_ok n f (Some x) m k r h = update_parked n (Some (record x { frames = f x.frames })) m.parked (rests_framed x.links.stage x f k r) h

  frames_ok : (n : ℕ) (f : List (List Value) → List (List Value)) → KeepsFrames f → KeepsParked (frames_changed n f)
  frames_ok n f k m h = frames_by_ok n f (joined (find n m.parked)) m k (found_parked n m.parked h) h

  -- writes
  stored_keeps : (d k : ℕ) (v : Value) → KeepsFrames (frame_changed d (value_changed k (pc.stored v) nought))
  stored_keeps d k v gs fs h = framed_changed t d (value_changed k (pc.stored v) nought) gs fs h (λ g e vs b. bound_stored t g.params vs k v b)

  pub written_idle : (v w : Value) (e : Env) → Idle t e → Idle t (written v w e)
  written_idle (Number n) w e i = i
  written_idle (Place (Frame n d) p) w e i =
      either (Idle t) (exec_eq n e.exec) (record e { frames = frame_changed d (value_changed (address p) (pc.stored w) nought) e.frames }) (change n.home (frames_changed n.serial (frame_changed d (value_changed (address p) (pc.stored w) nought))) e) i (change_ok n.home _ e (frames_ok n.serial _ (stored_keeps d (address p) w)) i)
  written_idle (Place (Fields o) p) w e i = change_ok (home.Object o) _ e (λ m h. h) i
  written_idle (Running x) w e i = i
  written_idle (Object o) w e i = change_ok (home.Object o) _ e (λ m h. h) i
  written_idle Nothing w e i = i

  -- a change in the running frame alone
  pub own_idle : (d : ℕ) (f : List Value → List Value) (e : Env) → Idle t e → Idle t (with_owned (Frame e.exec d) f e)
  own_idle d f e i =
      subst (λ (b : Bool). Idle t (if b then record e { frames = frame_changed d f e.frames } else change e.exec.home (frames_changed e.exec.serial (frame_changed d f)) e)) (sym (exec_same t e.exec)) i

  -- executions are made, go, are live

  without_parked : (k : ℕ) (ps : List (ℕ × Option Ex)) → Parked t ps → Parked t (sw.without k ps)
  without_parked k [] h = tt
  without_parked k (p ∷ ps) h = either (Parked t) (nat_eq p.0 k) ps (p ∷ sw.without k ps) h.1 (h.0, without_parked k ps h.1)

  pub forgotten_ok : (o : Option Exec) (e : Env) → Idle t e → Idle t (sw.forgotten o e)
  forgotten_ok None e i = i
  forgotten_ok (Some n) e i = change_ok n.home (sw.slot_gone n.serial) e (λ m h. without_parked n.serial m.parked h) i

  more_parked : (k : ℕ) (x : Ex) (ps : List (ℕ × Option Ex)) → MaybeRests t (Some x) → Parked t ps → Parked t (ps ++ (k, Some x) ∷ [])
  more_parked k x [] r h = (r, tt)
  more_parked k x (p ∷ ps) r h = (h.0, more_parked k x ps r h.1)

  pub born_ok : (h : Home) (x : Ex) (e : Env) → MaybeRests t (Some x) → Idle t e → Idle t (sw.born h x e)
  born_ok h x e r i = change_ok h (sw.one_more x) e (λ m p. more_parked m.serial x m.parked r p) i

  same_rests : (x y : Ex) → x.run ≡ y.run → x.callers ≡ y.callers → x.frames ≡ y.frames → Rests t x → Rests t y
  same_rests x y a b c r = record {
    sigs = r.sigs;
    frames = subst (Framed t r.sigs) c r.frames;
    run = subst (λ (e : Active). Active_is t r.sigs [] y.callers e) a (subst (λ (cs : List Active). Active_is t r.sigs [] cs x.run) b r.run);
    callers = subst (Waits t (others r.sigs)) b r.callers;
  }

  linked : (g : Stage) (x y : Ex) → x.run ≡ y.run → x.callers ≡ y.callers → x.frames ≡ y.frames → RestsBy t g x → RestsBy t g y
  linked Fresh x y a b c r = same_rests x y a b c r
  linked Started x y a b c r = same_rests x y a b c r
  linked Ended x y a b c r = tt

  -- a change of links that leaves an execution at its stage, or ends it
  abbrev KeepsLinks : (Links → Links) → Type 0
  KeepsLinks f = (x : Ex) → RestsBy t x.links.stage x → RestsBy t (f x.links).stage (record x { links = f x.links })

  links_by_ok : (f : Links → Links) (k : ℕ) (o : Option Ex) (m : Members) → KeepsLinks f → MaybeRests t o → Parked t m.parked → Parked t (sw.links_by f k o m).parked
  links_by_ok f k None m l r h = h
  links_by_ok f k (Some x) m l r h = update_parked k (Some (record x { links = f x.links })) m.parked (l x r) h

  pub links_ok : (f : Links → Links) (n : Exec) (e : Env) → KeepsLinks f → Idle t e → Idle t (sw.with_links f n e)
  links_ok f n e l i =
      either (Idle t) (exec_eq n e.exec) (record e { links = f e.links }) (change n.home (sw.links_changed f n.serial) e) i (change_ok n.home (sw.links_changed f n.serial) e (λ m h. links_by_ok f n.serial (joined (find n.serial m.parked)) m l (found_parked n.serial m.parked h) h) i)

  live_keeps : KeepsLinks (λ l. record l { live = true })
  live_keeps x r = linked x.links.stage x (record x { links = record x.links { live = true } }) refl refl refl r

  pub enlivened_ok : (o : Option Exec) (e : Env) → Idle t e → Idle t (sw.enlivened o e)
  enlivened_ok None e i = i
  enlivened_ok (Some n) e i = links_ok (λ l. record l { live = true }) n e live_keeps i

  pending_keeps : (p : Pending) → KeepsLinks (λ l. record l { pending = l.pending ++ p ∷ [] })
  pending_keeps p x r = linked x.links.stage x (record x { links = record x.links { pending = x.links.pending ++ p ∷ [] } }) refl refl refl r

  pub raised_ok : (n : Exec) (p : Pending) (e : Env) → Idle t e → Idle t (inside.raised_at n p e)
  raised_ok n p e i = links_ok (λ l. record l { pending = l.pending ++ p ∷ [] }) n e (pending_keeps p) i

  over_keeps : KeepsLinks (λ l. record l { live = false; stage = Ended })
  over_keeps x r = tt

  -- switches

  set_slot_ok : (n : Exec) (o : Option Ex) (e : Env) → MaybeRests t o → Idle t e → Idle t (sw.set_slot n o e)
  set_slot_ok n o e r i = change_ok n.home (sw.slot_set n.serial o) e (λ m h. update_parked n.serial o m.parked r h) i

  -- another one goes on in the place of the running one
  pub switched_ok : (n : Exec) (x : Ex) (s : State) → Rests t x → RestsBy t s.env.links.stage (sw.stopped s) → Idle t s.env → Typed t [] (sw.switched n x s)
  switched_ok n x s r o i = record {
    sigs = r.sigs;
    frames = r.frames;
    run = r.run;
    callers = r.callers;
    idle = set_slot_ok s.env.exec (Some (sw.stopped s)) (sw.set_slot n None s.env) o (set_slot_ok n None s.env tt i);
  }

  abbrev pub MaybeAble : Option (Exec × Ex) → Type 0
  MaybeAble None = Unit {0}
  MaybeAble (Some p) = Rests t p.1

  able_at_ok : (g : Stage) (n : Exec) (x : Ex) → RestsBy t g x → MaybeAble (sw.able_at g n x)
  able_at_ok Fresh n x r = tt
  able_at_ok Started n x r = r
  able_at_ok Ended n x r = tt

  able_by_ok : (n : Exec) (o : Option Ex) → MaybeRests t o → MaybeAble (sw.able_by n o)
  able_by_ok n None r = tt
  able_by_ok n (Some x) r = able_at_ok x.links.stage n x r

  able_ok : (o : Option Exec) (e : Env) → Idle t e → MaybeAble (sw.able o e)
  able_ok None e i = tt
  able_ok (Some n) e i = able_by_ok n (parked_at n e) (parked_ok n e i)

  or_ok : (o p : Option (Exec × Ex)) → MaybeAble o → MaybeAble p → MaybeAble (sw.or_else o p)
  or_ok None p a b = b
  or_ok (Some x) p a b = a

  -- a state, or a fault
  abbrev pub MovedOk : Moved (List Todo) Value → Type 0
  MovedOk (To s) = Typed t [] s
  MovedOk (Stops f) = Unit {0}

  pub moved : (source : Source) (s : State) (m : Moved (List Todo) Value) → MovedOk m → After t source (pc.moves m s)
  moved source s (To u) h = h
  moved source s (Stops f) h = tt

  go_on_ok : (o : Option (Exec × Ex)) (s : State) → MaybeAble o → RestsBy t s.env.links.stage (sw.stopped s) → Idle t s.env → MovedOk (sw.go_on o s)
  go_on_ok None s a r i = tt
  go_on_ok (Some p) s a r i = switched_ok p.0 p.1 s a r i

  -- why it is unwound is no matter
  there_ok : (why : UnwindReason) (x : Ex) → Rests t x → Rests t (sw.unwound_there why x)
  there_ok why x r = record {
    sigs = r.sigs;
    frames = r.frames;
    run = record { sig = r.run.sig; own = r.run.own; scope = r.run.scope; base = r.run.base; frame = r.run.frame; values = r.run.values; this = r.run.this; ok = r.run.ok; ends = r.run.ends };
    callers = r.callers;
  }

  throw_at_ok : (o : Option (Exec × Ex)) (s : State) → MaybeAble o → RestsBy t s.env.links.stage (sw.stopped s) → Idle t s.env → MovedOk (sw.throw_at o s)
  throw_at_ok None s a r i = tt
  throw_at_ok (Some p) s a r i = switched_ok p.0 _ s (there_ok _ p.1 a) r i

  pub finish_ok : (s : State) → Idle t s.env → MovedOk (sw.finish s)
  finish_ok s i = go_on_ok _ (sw.ended s) (or_ok _ _ (able_ok s.env.links.starter s.env i) (able_ok s.env.links.resumer s.env i)) tt i

  pub taken_down_ok : (s : State) → Idle t s.env → MovedOk (sw.taken_down s)
  taken_down_ok s i = go_on_ok _ (sw.ended s) (able_ok s.env.links.destroyer s.env i) tt i

  pub escape_ok : (s : State) → Idle t s.env → MovedOk (sw.escape s)
  escape_ok s i = throw_at_ok _ (sw.ended s) (able_ok s.env.links.resumer s.env i) tt i

  -- the running one rests, as it stands
  stopped_by : (g : Stage) (s : State) → Typed t [] s → RestsBy t g (sw.stopped s)
  stopped_by Fresh s x = record { sigs = x.sigs; frames = x.frames; run = x.run; callers = x.callers }
  stopped_by Started s x = record { sigs = x.sigs; frames = x.frames; run = x.run; callers = x.callers }
  stopped_by Ended s x = tt

  stopped_ok : (s : State) → Typed t [] s → RestsBy t s.env.links.stage (sw.stopped s)
  stopped_ok s x = stopped_by s.env.links.stage s x

  pub suspend_ok : (s : State) → Typed t [] s → MovedOk (sw.suspend s)
  suspend_ok s x =
      either MovedOk (sw.in_destruction s.env) _ _ tt (go_on_ok _ s (able_ok s.env.links.resumer s.env x.idle) (stopped_ok s x) x.idle)

  wake_at_ok : (g : Stage) (n : Exec) (y : Ex) (s : State) → RestsBy t g y → Typed t [] s → MovedOk (sw.wake_at g n y s)
  wake_at_ok Fresh n y s r x = switched_ok n _ s (record { sigs = r.sigs; frames = r.frames; run = r.run; callers = r.callers }) (stopped_ok s x) x.idle
  wake_at_ok Started n y s r x = switched_ok n _ s (record { sigs = r.sigs; frames = r.frames; run = r.run; callers = r.callers }) (stopped_ok s x) x.idle
  wake_at_ok Ended n y s r x = tt

  wake_by_ok : (n : Exec) (o : Option Ex) (s : State) → MaybeRests t o → Typed t [] s → MovedOk (sw.wake_by n o s)
  wake_by_ok n None s r x = tt
  wake_by_ok n (Some y) s r x = wake_at_ok y.links.stage n y s r x

  wake_one_ok : (o : Option Exec) (s : State) → Typed t [] s → MovedOk (sw.wake_one o s)
  wake_one_ok None s x = tt
  wake_one_ok (Some n) s x = either MovedOk (exec_eq n s.env.exec) _ _ tt (wake_by_ok n (parked_at n s.env) s (parked_ok n s.env x.idle) x)

  pub wake_ok : (o : Option Exec) (s : State) → Typed t [] s → MovedOk (sw.wake o s)
  wake_ok o s x = either MovedOk (sw.in_destruction s.env) _ _ tt (wake_one_ok o s x)

  -- frames where another execution changes
  pub change_frames : (h : Home) (f : Members → Members) (e : Env) → (change h f e).frames ≡ e.frames
  change_frames h f e = by_members (members_at h e)
    where
      by_home : (h : Home) (m : Members) → (set_members h m e).frames ≡ e.frames
      by_home (home.Task n) m = either (λ (x : Env). x.frames ≡ e.frames) (nat_eq n e.own) (record e { house = m }) e refl refl
      by_home (home.Object o) m = refl

      by_members : (o : Option Members) → (change_in h f o e).frames ≡ e.frames
      by_members None = refl
      by_members (Some m) = by_home h (f m)

  pub born_frames : (h : Home) (x : Ex) (e : Env) → (sw.born h x e).frames ≡ e.frames
  born_frames h x e = change_frames h (sw.one_more x) e

  pub links_frames : (f : Links → Links) (n : Exec) (e : Env) → (sw.with_links f n e).frames ≡ e.frames
  links_frames f n e =
      either (λ (x : Env). x.frames ≡ e.frames) (exec_eq n e.exec) (record e { links = f e.links }) (change n.home (sw.links_changed f n.serial) e) refl (change_frames n.home (sw.links_changed f n.serial) e)

  pub enlivened_frames : (o : Option Exec) (e : Env) → (sw.enlivened o e).frames ≡ e.frames
  enlivened_frames None e = refl
  enlivened_frames (Some n) e = links_frames (λ l. record l { live = true }) n e

  pub raised_frames : (n : Exec) (p : Pending) (e : Env) → (inside.raised_at n p e).frames ≡ e.frames
  raised_frames n p e = links_frames (λ l. record l { pending = l.pending ++ p ∷ [] }) n e

  pub forgotten_frames : (o : Option Exec) (e : Env) → (sw.forgotten o e).frames ≡ e.frames
  forgotten_frames None e = refl
  forgotten_frames (Some n) e = change_frames n.home (sw.slot_gone n.serial) e

  -- the destruction of a coroutine
  over_ok : (n : Exec) (s : State) → Typed t [] s → Typed t [] (sw.over n s)
  over_ok n s x = record {
    sigs = x.sigs;
    frames = subst (Framed t x.sigs) (sym (links_frames (λ l. record l { live = false; stage = Ended }) n s.env)) x.frames;
    run = x.run;
    callers = x.callers;
    idle = links_ok (λ l. record l { live = false; stage = Ended }) n s.env over_keeps x.idle;
  }

  take_down_at_ok : (g : Stage) (n : Exec) (y : Ex) (s : State) → RestsBy t g y → Typed t [] s → MovedOk (sw.take_down_at g n y s)
  take_down_at_ok Fresh n y s r x = over_ok n s x
  take_down_at_ok Started n y s r x = switched_ok n _ s (there_ok _ _ (record { sigs = r.sigs; frames = r.frames; run = r.run; callers = r.callers })) (stopped_ok s x) x.idle
  take_down_at_ok Ended n y s r x = over_ok n s x

  take_down_by_ok : (n : Exec) (o : Option Ex) (s : State) → MaybeRests t o → Typed t [] s → MovedOk (sw.take_down_by n o s)
  take_down_by_ok n None s r x = x
  take_down_by_ok n (Some y) s r x = take_down_at_ok y.links.stage n y s r x

  pub take_down_ok : (o : Option Exec) (s : State) → Typed t [] s → MovedOk (sw.take_down o s)
  take_down_ok None s x = x
  take_down_ok (Some n) s x = take_down_by_ok n (parked_at n s.env) s (parked_ok n s.env x.idle) x

  -- a new execution
  main_ok : (g : Sig) (p : Purpose) (line : ℕ) (body : Stmts) → IsSorted p g.whole → FineStmts t g [] body → Ok t g [] [] (pc.Rest body ∷ q.behind_body p line) []
  main_ok g TaskMain line body e f = (tt, f, (tt, refl))
  main_ok g CoroutineMain line body e f = (tt, f, (tt, refl))
  main_ok g Procedure line body e f = (tt, f, (tt, refl))
  main_ok g Function line body e f = (tt, f, (tt, refl))
  main_ok g Builder line body e f = (tt, f, refl)

  pub fresh_ok : (g : Sig) (x : Routine) (this : Value) → Routine_is t g x → g.params ≡ [] → IsThis t g.this this → Rests t (q.fresh x this)
  fresh_ok g x this r e i = record {
    sigs = g ∷ [];
    frames = (subst (λ ps. Bound t ps (replicate x.cells nought)) (sym e) tt, tt);
    run = record { sig = g; own = []; scope = []; base = []; frame = refl; values = tt; this = i; ok = main_ok g x.purpose x.line x.body r.purpose r.body; ends = refl };
    callers = tt;
  }
