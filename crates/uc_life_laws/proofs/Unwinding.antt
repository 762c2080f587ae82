-- Unwinding, and the search for a handler: all stays known.
use Rattle.std.proofs.Common.{◌≡◌, ℕ, List, [], ◌∷◌, inl, inr, length, Option, Some, None, Bool, true, false, refl, sym, ap, ◌∙◌, subst, arith}
use Rattle.std.specs.Prelude.{nat_eq, if◌then◌else◌}
use Rattle.std.proofs.lemmas.Bool.{eq-eqb}
use Rattle.uc_tree.specs.Source.{Source, Handlers, CleanUp, Destroys, DestroysAll, Unwinds, Forgets, Leaves, Ends, Frees, Restores, ToReturn}
use Rattle.uc_machine.specs.Executions.{at_depth, others}
use Rattle.uc_machine.specs.declared.exec.Exec.{Exec}
use Rattle.uc_machine.specs.declared.exec.UnwindReason.{UnwindReason}
use Rattle.uc_machine.specs.declared.exec.UnwindReason.TheVariants as reason
use Rattle.uc_machine.specs.declared.exec.Visited.{Visited}
use Rattle.uc_machine.specs.Switches.{Moved, To, Stops}
use Rattle.uc_machine.specs.Raising as r
use Rattle.uc_machine.specs.Pieces as pc
use Rattle.uc_machine.specs.Pieces.{Value, Todo, Active, State, at, below}
use Rattle.uc_typing.specs.Typing.{Ty, Num, Name, Sig, Table, object_ty, FineHandlers, FineClean}
use Rattle.uc_typing.specs.Pieces.{Popped, Met, Ok, Left}
use Rattle.uc_typing.specs.States.{IsObject, IsThis, Either, IsBase, Is}
use Rattle.uc_typing.proofs.Control.{left, clean_ok, left_clean_ok, MaybeFine, handler_ok, handlers_fine}
use Rattle.uc_typing.proofs.Unwinds as un
use Rattle.uc_life_laws.specs.Knowing.{AtHand, KnownAll, KnownFrames, KnownThis, KnowsWaits, ClaimsEnv, StepBy}
use Rattle.uc_life_laws.specs.Kinds.{IsKept, Claimed, FollowsOn, HasOne, BeginsAt, stays, begins, no_sig, Returns, GoesPast, GoesOn}
use Rattle.uc_life_laws.proofs.Parked.{Ex}
use Rattle.uc_life_laws.proofs.Cells.{either}
use Rattle.uc_life_laws.proofs.Knowns.{this_more, older_hand, known_is}
use Rattle.uc_life_laws.proofs.Parking.{KnowsMoved, frames_run, like, taken_down_in, escape_in}
use Rattle.uc_life_laws.proofs.Returning.{returned_knows, left_knows}
use Rattle.uc_life_laws.specs.Things.{Few}

-- the one that raises an event drops what the handler hands over

within_all : (todo : List Todo) → r.within (r.count_round todo) todo ≡ todo
within_all [] = refl
within_all (p ∷ ps) =
    ap (λ (b : Bool). if b then p ∷ ps else r.within (r.count_round (p ∷ ps)) ps) (eq-eqb (r.count_round (p ∷ ps)) (r.count_round (p ∷ ps)) refl)

dropping : (t : Table) (i : Sig) (base sc : List Name) (n : ℕ) (todo : List Todo) → Left t i base sc (r.within n todo) → Left t i base sc (r.within n (pc.DropNow ∷ todo))
dropping t i base sc n todo h = by (nat_eq (r.count_round (pc.DropNow ∷ todo)) n) refl
  where
    by : (b : Bool) → nat_eq (r.count_round (pc.DropNow ∷ todo)) n ≡ b → Left t i base sc (if b then pc.DropNow ∷ todo else r.within n todo)
    by true q =
        let f : r.count_round (pc.DropNow ∷ todo) ≡ n = grind (arith, q) in
        let m : n ≡ r.count_round todo = omega (arith, f) in
        subst (Left t i base sc) (ap (λ (k : ℕ). r.within k todo) m ∙ within_all todo) h
    by false q = h

raising : (t : Table) (b : Bool) (i : Sig) (v : Visited) (sc : List Name) (frame : ℕ) (a : Active) (older : List Active) (B : Type 0) → Either b ((outer : List Name) × (a.frame ≡ frame) × Left t i outer sc (r.within v.rest a.control) × IsBase t i a.handles outer frame older) B → Either b ((outer : List Name) × (a.frame ≡ frame) × Left t i outer sc (r.within v.rest (pc.DropNow ∷ a.control)) × IsBase t i a.handles outer frame older) B
raising t true i v sc frame a older B h = (h.0, h.1, dropping t i h.0 sc v.rest a.control h.2, h.3)
raising t false i v sc frame a older B h = h

-- a handler that is found stands in one of these
abbrev MaybeOne : List Active → Option r.Found → Type 0
MaybeOne cs None = Unit {0}
MaybeOne cs (Some f) = HasOne cs f.frame f.this

one_more : (a : Active) (cs : List Active) (o : Option r.Found) → MaybeOne cs o → MaybeOne (a ∷ cs) o
one_more a cs None h = tt
one_more a cs (Some f) h = inr h

one_or : (o : Option r.Hit) (a : Active) (cs : List Active) (other : Option r.Found) → MaybeOne (a ∷ cs) other → MaybeOne (a ∷ cs) (r.found_or o a cs other)
one_or None a cs other h = h
one_or (Some x) a cs other h = inl (refl, refl)

one_found : (v : Option Visited) (e : r.Event) (cs : List Active) → MaybeOne cs (r.seek v e cs)
one_found None e [] = tt
one_found (Some v) e [] = tt
one_found None e (a ∷ rest) = one_or (r.hit_in e a.control) a rest (r.seek a.handles e rest) (one_more a rest (r.seek a.handles e rest) (one_found a.handles e rest))
one_found (Some v) e (a ∷ rest) =
    either (MaybeOne (a ∷ rest)) (nat_eq (length rest) v.level) (r.found_or (r.hit_in e (r.within v.rest a.control)) a rest (r.seek a.handles e rest)) (r.seek (Some v) e rest) (one_or (r.hit_in e (r.within v.rest a.control)) a rest (r.seek a.handles e rest) (one_more a rest (r.seek a.handles e rest) (one_found a.handles e rest))) (one_more a rest (r.seek (Some v) e rest) (one_found (Some v) e rest))

module _ (t : Table) (few : Few) (n : Exec) where
  -- the object of an activation before these older ones, by the kind of its frame
  abbrev HasThis : List Sig → List Active → ℕ → Value → Type 0
  HasThis gs older d v = (i : Sig) × (at_depth gs d ≡ Some i) × KnownThis t few n (AtHand t few n (others gs) older) i i.this v

  abbrev Haves : List Sig → List Active → Type 0
  Haves gs [] = Unit {0}
  Haves gs (a ∷ older) = HasThis gs older a.frame a.this × Haves (others gs) older

  haves : (gs : List Sig) (cs : List Active) → KnowsWaits t few n gs cs → Haves gs cs
  haves gs [] w = tt
  haves gs (c ∷ cs) w = ((w.0.sig, w.0.frame, w.0.this), haves (others gs) cs w.1)

  -- the object that is found is known to all of these
  abbrev MaybeHas : List Sig → List Active → Option r.Found → Type 0
  MaybeHas gs acts None = Unit {0}
  MaybeHas gs acts (Some f) = (i : Sig) × (at_depth gs f.frame ≡ Some i) × KnownThis t few n (AtHand t few n gs acts) i i.this f.this

  lifted : (gs : List Sig) (d : ℕ) (i : Sig) → at_depth (others gs) d ≡ Some i → at_depth gs d ≡ Some i
  lifted [] d i e = absurd (cc)
  lifted (g ∷ gs) d i e = un.deeper t g gs d i e

  has_lifted : (gs : List Sig) (a : Active) (acts : List Active) (o : Option r.Found) → MaybeHas (others gs) acts o → MaybeHas gs (a ∷ acts) o
  has_lifted gs a acts None h = tt
  has_lifted gs a acts (Some f) h =
      (h.0, lifted gs f.frame h.0 h.1, this_more t few n (AtHand t few n (others gs) acts) (AtHand t few n gs (a ∷ acts)) (older_hand t few n gs a acts) h.0 h.0.this f.this h.2)

  has_or : (gs : List Sig) (o : Option r.Hit) (a : Active) (acts : List Active) (other : Option r.Found) → HasThis gs acts a.frame a.this → MaybeHas gs (a ∷ acts) other → MaybeHas gs (a ∷ acts) (r.found_or o a acts other)
  has_or gs None a acts other h k = k
  has_or gs (Some x) a acts other h k =
      (h.0, h.1, this_more t few n (AtHand t few n (others gs) acts) (AtHand t few n gs (a ∷ acts)) (older_hand t few n gs a acts) h.0 h.0.this a.this h.2)

  has_found : (v : Option Visited) (e : r.Event) (gs : List Sig) (acts : List Active) → Haves gs acts → MaybeHas gs acts (r.seek v e acts)
  has_found None e gs [] h = tt
  has_found (Some v) e gs [] h = tt
  has_found None e gs (a ∷ rest) h =
      has_or gs (r.hit_in e a.control) a rest (r.seek a.handles e rest) h.0 (has_lifted gs a rest (r.seek a.handles e rest) (has_found a.handles e (others gs) rest h.1))
  has_found (Some v) e gs (a ∷ rest) h =
      either (MaybeHas gs (a ∷ rest)) (nat_eq (length rest) v.level) (r.found_or (r.hit_in e (r.within v.rest a.control)) a rest (r.seek a.handles e rest)) (r.seek (Some v) e rest) (has_or gs (r.hit_in e (r.within v.rest a.control)) a rest (r.seek a.handles e rest) h.0 (has_lifted gs a rest (r.seek a.handles e rest) (has_found a.handles e (others gs) rest h.1))) (has_lifted gs a rest (r.seek (Some v) e rest) (has_found (Some v) e (others gs) rest h.1))

  -- what is known of the object at hand is of its type
  as_object : (K : Value → Ty → Type 0) (b : Bool) (c : ℕ) (v : Value) → Is t (object_ty b c) v → IsObject t c v
  as_object K true c v h = h
  as_object K false c v h = h

  this_is : (K : Value → Ty → Type 0) (g : Sig) (o : Option ℕ) (v : Value) → KnownThis t few n K g o v → IsThis t o v
  this_is K g None v h = tt
  this_is K g (Some c) v h = as_object K g.whole c v (known_is t few n K (object_ty g.whole c) v h)

  standing : (gs : List Sig) (cs : List Active) → KnowsWaits t few n gs cs → un.Standing t gs cs
  standing gs [] w = tt
  standing gs (c ∷ cs) w = (
    record {
      sig = w.0.sig;
      frame = w.0.frame;
      this = this_is (AtHand t few n (others gs) cs) w.0.sig w.0.sig.this c.this w.0.this;
      scope = w.0.scope;
      base = w.0.base;
      left = left t w.0.sig w.0.base w.0.scope c.control (Num ∷ w.0.own) w.0.ok;
      ends = w.0.ends;
    },
    standing (others gs) cs w.1,
  )

module _ (t : Table) (few : Few) (Q : Exec → List Sig → Ex → Type 0) (kept : IsKept Q) (source : Source) where
  -- a state, or a fault
  pub moved : (s : State) (m : Moved (List Todo) Value) → KnowsMoved t few Q kept m → StepBy t few (Claimed Q t few) (ClaimsEnv t few Q) source (pc.moves m s)
  moved s (To u) h = h
  moved s (Stops f) h = (tt, tt)

  module _ (s : State) (sigs : List Sig) (g : Sig) (base sc : List Name) (frames : KnownFrames t few s.env.exec sigs s.env.frames (s.run ∷ s.callers)) (frame : at_depth sigs s.run.frame ≡ Some g) (this : KnownThis t few s.env.exec (AtHand t few s.env.exec (others sigs) s.callers) g g.this s.run.this) (callers : KnowsWaits t few s.env.exec (others sigs) s.callers) (env : ClaimsEnv t few Q s.env) (ends : IsBase t g s.run.handles base s.run.frame s.callers) where
    abbrev After : pc.Step → Type 0
    After x = StepBy t few (FollowsOn Q t few source s sigs) (ClaimsEnv t few Q) source x

    -- the running activation goes on with this to do and these numbers, whatever else it keeps
    calm : (inner : List Name) (own : List Ty) (todo : List Todo) (vs : List Value) (why : Option UnwindReason) → Ok t g base inner todo own → KnownAll t few s.env.exec (AtHand t few s.env.exec sigs (record s.run { control = todo; operands = vs; raised = why } ∷ s.callers)) own vs → FollowsOn Q t few source s sigs [] (record s { run = record s.run { control = todo; operands = vs; raised = why } })
    calm inner own todo vs why o h = (
      record {
        sigs = sigs;
        frames = frames_run t few s.env.exec sigs s.env.frames s.run _ s.callers frames;
        run = record { sig = g; own = own; scope = inner; base = base; frame = frame; values = h; this = this; ok = o; ends = ends };
        callers = callers;
        env = env;
      },
      stays refl refl refl refl refl,
    )

    on : (todo : List Todo) → Left t g base sc todo → After (r.unwinds todo s)
    on todo l = calm sc [] (pc.Unwind ∷ todo) [] s.run.raised l tt

    catch : (o : Option r.Handler) (e : r.Event) (todo : List Todo) → MaybeFine t g sc o → Ok t g base sc todo [] → Left t g base sc todo → After (r.catch_step o e todo s)
    catch None e todo f o l = on todo l
    catch (Some h) e todo f o l = calm sc (Num ∷ (Num ∷ (Num ∷ []))) (r.handler_todo h todo) (r.operands_of e) None (handler_ok t g base sc h todo f o) (tt, (tt, (tt, tt)))

    guard : (hs : Handlers) (why : Option UnwindReason) (todo : List Todo) → FineHandlers t g sc hs → Ok t g base sc todo [] → Left t g base sc todo → After (r.guard_left hs why todo s)
    guard hs (Some (reason.Event k x y)) todo f o l = catch _ _ todo (handlers_fine t g sc false _ hs f) o l
    guard hs (Some (reason.ReturnTo k)) todo f o l = on todo l
    guard hs (Some reason.Destroyed) todo f o l = on todo l
    guard hs None todo f o l = on todo l

    main : (why : Option UnwindReason) (todo : List Todo) → Ok t g base sc todo [] → After (r.main_left why todo s)
    main (Some (reason.ReturnTo k)) todo o = calm sc [] (pc.Finish ∷ todo) [] None o tt
    main (Some (reason.Event k x y)) todo o = (tt, tt)
    main (Some reason.Destroyed) todo o = (tt, tt)
    main None todo o = (tt, tt)

    coroutine : (why : Option UnwindReason) (todo : List Todo) → Ok t g base sc todo [] → Returns why → After (r.coroutine_left why todo s)
    coroutine (Some (reason.ReturnTo k)) todo o n = calm sc [] (pc.FinishCoroutine ∷ todo) [] None o tt
    coroutine (Some reason.Destroyed) todo o n = absurd n
    coroutine (Some (reason.Event k x y)) todo o n = absurd n
    coroutine None todo o n = absurd n

    -- another execution goes on
    ends_coroutine : (why : Option UnwindReason) (todo : List Todo) → (Returns why → ⊥) → StepBy t few (Claimed Q t few) (ClaimsEnv t few Q) source (r.coroutine_left why todo s)
    ends_coroutine (Some (reason.ReturnTo k)) todo n = absurd (n tt)
    ends_coroutine (Some reason.Destroyed) todo n = moved (at todo [] s) _ (taken_down_in t few Q kept (at todo [] s) env)
    ends_coroutine (Some (reason.Event k x y)) todo n = moved (at todo [] s) _ (escape_in t few Q kept (at todo [] s) env)
    ends_coroutine None todo n = moved (at todo [] s) _ (escape_in t few Q kept (at todo [] s) env)

    pub unwind_stops : (x : pc.Sort) (todo : List Todo) → (GoesPast x s.run.raised → ⊥) → StepBy t few (Claimed Q t few) (ClaimsEnv t few Q) source (r.unwind_past x todo s)
    unwind_stops pc.IsFinishCoroutine todo n = ends_coroutine s.run.raised todo n
    unwind_stops x todo n = absurd (n tt)

    -- a scope is left: the call of a mutex member may end here
    cleans : (sc : List Name) (c : CleanUp) (todo : List Todo) → FineClean t g sc c → Left t g base sc todo → FollowsOn Q t few source s sigs [] (at (r.left_todo c (pc.Unwind ∷ todo)) [] s)
    cleans sc c todo f l = calm sc [] (r.left_todo c (pc.Unwind ∷ todo)) [] s.run.raised (left_clean_ok t g base sc c (pc.Unwind ∷ todo) [] f l) tt

    scope : (sc : List Name) (c : CleanUp) (b : Bool) (todo : List Todo) → FineClean t g sc c → Left t g base sc todo → After (r.scope_left c b todo s)
    scope sc Leaves true todo f l = calm sc (Num ∷ []) (pc.LeaveNow ∷ (pc.Exit ToReturn ∷ todo)) (s.run.result ∷ []) None (f.0, ((refl, f.1), l)) (tt, tt)
    scope sc Leaves false todo f l = cleans sc Leaves todo f l
    scope sc (Destroys e) b todo f l = cleans sc (Destroys e) todo f l
    scope sc (DestroysAll k e) b todo f l = cleans sc (DestroysAll k e) todo f l
    scope sc Unwinds b todo f l = cleans sc Unwinds todo f l
    scope sc Forgets b todo f l = cleans sc Forgets todo f l
    scope sc Ends b todo f l = cleans sc Ends todo f l
    scope sc (Frees o) b todo f l = cleans sc (Frees o) todo f l
    scope sc (Restores k) b todo f l = cleans sc (Restores k) todo f l

    past : (x : pc.Sort) (todo : List Todo) → Met t g sc x (λ sc. Left t g base sc todo) (λ sc. Ok t g base sc todo) → GoesPast x s.run.raised → After (r.unwind_past x todo s)
    past pc.Simple todo m n = on todo m
    past (pc.IsLoop o e step b) todo m n = on todo m.2
    past pc.IsWhole todo m n = whole (r.arrives s.run.raised (length s.callers))
      where
        whole : (b : Bool) → After (r.whole_left b todo s)
        whole true = calm sc [] todo [] None m.1 tt
        whole false = on todo (left t g base sc todo [] m.1)
    past (pc.IsClean c) todo m n = popped sc m
      where
        popped : (sc : List Name) → Popped t g c sc (λ sc. Left t g base sc todo) → After (r.unwind_past (pc.IsClean c) todo s)
        popped [] m = absurd m
        popped (y ∷ sc) m = scope sc c (r.arrives s.run.raised (length s.callers)) todo m.1 m.2
    past (pc.IsFill k b d) todo m n = calm sc [] _ [] s.run.raised (m.0, m.1) tt
    past (pc.IsSweep e) todo m n = calm sc [] _ [] s.run.raised (m.0, m.1) tt
    past (pc.IsPart c) todo m n = calm sc [] _ [] s.run.raised (clean_ok t g base sc c (pc.Unwind ∷ todo) [] m.0.0 m.1) tt
    past (pc.IsGuard hs) todo m n = guard hs s.run.raised todo m.0 m.1 m.2
    past pc.IsFinish todo m n = main s.run.raised todo m
    past pc.IsFinishCoroutine todo m n = coroutine s.run.raised todo m n

    pass : (why : Option UnwindReason) (c : Active) (cs : List Active) → s.callers ≡ c ∷ cs → KnowsWaits t few s.env.exec (others sigs) (c ∷ cs) → After (r.pass_on why c cs s)
    pass None c cs e w = (tt, env)
    pass (Some why) c cs e w = left_knows t few Q kept source s sigs frames env (r.why_by why c.raised) s.run.result c cs e s.run.counts w

    leave_for : (b : Bool) (c : Active) (cs : List Active) → s.callers ≡ c ∷ cs → KnowsWaits t few s.env.exec (others sigs) (c ∷ cs) → After (r.leave_for b c cs s)
    leave_for true c cs e w = (tt, tt)
    leave_for false c cs e w = pass s.run.raised c cs e w

    leave : (cs : List Active) → s.callers ≡ cs → KnowsWaits t few s.env.exec (others sigs) cs → After (r.leave_step cs s)
    leave [] e w = (tt, env)
    leave (c ∷ cs) e w =
        either (After) (r.arrives s.run.raised (length (c ∷ cs))) (pc.return_step s.run.result (c ∷ cs) s) (r.leave_for (r.escapes s.run.raised c.raised) c cs s) (returned_knows t few Q kept source s sigs frames env s.run.result (c ∷ cs) e w) (leave_for (r.escapes s.run.raised c.raised) c cs e w)

    pub unwind_knows : (todo : List Todo) → Left t g base sc todo → GoesOn (pc.Unwind ∷ todo) s.run.raised → After (r.unwind_step todo s)
    unwind_knows [] l n = leave s.callers refl callers
    unwind_knows (p ∷ ps) l n = past (pc.sort p) ps l n

    pub throw_knows : (e : r.Event) (todo : List Todo) → Left t g base sc todo → After (r.throw_step e todo s)
    throw_knows e todo l = calm sc [] (pc.Unwind ∷ todo) [] _ l tt

    -- a resumption
    handle : (o : Option r.Found) (e : r.Event) (todo : List Todo) (own : List Ty) → ((frame : ℕ) (this : Value) → HasOne (s.run ∷ s.callers) frame this → BeginsAt t source s frame this (pc.DropNow ∷ todo) s.run.control no_sig) → MaybeOne (s.run ∷ s.callers) o → un.MaybeUsable t sigs (record s.run { control = todo } ∷ s.callers) o → MaybeHas t few s.env.exec sigs (record s.run { control = todo } ∷ s.callers) o → Ok t g base sc todo own → KnownAll t few s.env.exec (AtHand t few s.env.exec sigs (record s.run { control = todo } ∷ s.callers)) own (below (below (below s.run.operands))) → After (r.handle_step o e todo s)
    handle None e todo own new m u k o h = throw_knows e todo (left t g base sc todo own o)
    handle (Some f) e todo own new m u k o h = (
      record {
        sigs = no_sig ∷ sigs;
        frames = (tt, frames_run t few s.env.exec sigs s.env.frames s.run _ s.callers frames);
        run = record {
          sig = u.sig;
          own = Num ∷ (Num ∷ (Num ∷ []));
          scope = u.scope;
          base = u.scope;
          frame = un.deeper t no_sig sigs f.frame u.sig u.frame;
          values = (tt, (tt, (tt, tt)));
          this = same (AtHand t few s.env.exec sigs (record s.run { control = todo } ∷ s.callers)) k.0 u.sig k.1 u.frame k.2;
          ok = handler_ok t u.sig u.scope u.scope f.handler [] u.handler refl;
          ends = raising t (nat_eq (length s.callers) f.visited.level) u.sig f.visited u.scope f.frame (record s.run { control = todo }) s.callers _ u.ends;
        };
        callers = (
          record { sig = g; own = own; scope = sc; base = base; frame = frame; values = h; this = this; ok = o; ends = ends },
          callers,
        );
        env = like t few Q kept env refl refl refl;
      },
      begins no_sig _ (new f.frame f.this m) refl refl refl refl refl,
    )
      where
        same : (K : Value → Ty → Type 0) (i j : Sig) → at_depth sigs f.frame ≡ Some i → at_depth sigs f.frame ≡ Some j → KnownThis t few s.env.exec K i i.this f.this → KnownThis t few s.env.exec K j j.this f.this
        same K i j a b h =
            let q : Some i ≡ Some j = sym a ∙ b in
            let x : i ≡ j = cc in
            subst (λ (i : Sig). KnownThis t few s.env.exec K i i.this f.this) x h

    pub raise_knows : (e : r.Event) (todo : List Todo) (own : List Ty) → ((frame : ℕ) (this : Value) → HasOne (s.run ∷ s.callers) frame this → BeginsAt t source s frame this (pc.DropNow ∷ todo) s.run.control no_sig) → Ok t g base sc todo own → KnownAll t few s.env.exec (AtHand t few s.env.exec sigs (record s.run { control = todo } ∷ s.callers)) own (below (below (below s.run.operands))) → After (r.raise_step e todo s)
    raise_knows e todo own new o h =
        handle (r.seek None e (record s.run { control = todo } ∷ s.callers)) e todo own new (one_found None e (record s.run { control = todo } ∷ s.callers)) (un.seeks t None e sigs (record s.run { control = todo } ∷ s.callers) (record { sig = g; frame = frame; this = this_is t few s.env.exec (AtHand t few s.env.exec (others sigs) s.callers) g g.this s.run.this this; scope = sc; base = base; left = left t g base sc todo own o; ends = ends }, standing t few s.env.exec (others sigs) s.callers callers)) (has_found t few s.env.exec None e sigs (record s.run { control = todo } ∷ s.callers) ((g, frame, this), haves t few s.env.exec (others sigs) s.callers callers)) o h
