-- Holding states stay so where members, executions and who runs change.
use Rattle.std.proofs.Common.{◌≡◌, ℕ, ◌≤◌, ◌&&◌, Bool, true, false, List, [], ◌∷◌, ◌++◌, length, Option, Some, None, refl, sym, ap, ◌∙◌, subst}
use Rattle.std.specs.Prelude.{nat_eq, if◌then◌else◌}
use Rattle.std.proofs.lemmas.Bool.{eqb-true}
use Rattle.uc_entry.specs.declared.request.TheConstants.{PRINT_ITEMS}
use Rattle.uc_entry.specs.declared.request.Piece.{Piece}
use Rattle.uc_entry.specs.declared.request.Request.{Request}
use Rattle.uc_entry.specs.declared.request.Request.TheVariants as ask
use Rattle.uc_entry.specs.declared.fault.RunFault.TheVariants.{ResumeInUse, SwitchInUnwind}
use Rattle.uc_entry.specs.Keyed.{find}
use Rattle.uc_machine.specs.declared.exec.Exec.{Exec}
use Rattle.uc_machine.specs.declared.exec.Home.{Home}
use Rattle.uc_machine.specs.declared.exec.Home.TheVariants as home
use Rattle.uc_machine.specs.declared.exec.Owner.{Owner}
use Rattle.uc_machine.specs.declared.exec.Owner.TheVariants.{Frame, Fields}
use Rattle.uc_machine.specs.declared.exec.UnwindReason.{UnwindReason}
use Rattle.uc_machine.specs.declared.exec.Stage.{Stage}
use Rattle.uc_machine.specs.declared.exec.Stage.TheVariants.{Fresh, Started, Ended}
use Rattle.uc_machine.specs.Executions.{Links, Execution, update, exec_eq, joined, members_at, set_members, change, change_in, slot_in, parked_at, frames_by, frames_changed, frame_changed, with_owned, with_frames}
use Rattle.uc_machine.specs.Switches as sw
use Rattle.uc_machine.specs.Switches.{Moved, To, Stops}
use Rattle.uc_machine.specs.Pieces.{Value, Number, Place, Running, Object, Nothing, Todo, BindMadeNow, Active, State, Env, Members, Step, Goes, Ticks, Asks, written}
use Rattle.uc_step_laws.specs.Hands.{keys}
use Rattle.uc_step_laws.specs.Holding.{is_plain, plain, Binds, PlainRuns, Ex, PlainEx, PlainSlot, PlainParked, PlainHand, PlainMembers, Few, HoldingEnv, Holding}

-- the first of two by a test
pub either : {A : Type 0} (P : A → Type 0) (b : Bool) (x y : A) → P x → P y → P (if b then x else y)
either P true x y h k = h
either P false x y h k = k

pub and_right : (a b : Bool) → (a && b) ≡ true → b ≡ true
and_right true b h = h
and_right false b h = cc

pub plain_tail : (p : Todo) (todo : List Todo) → plain (p ∷ todo) ≡ true → plain todo ≡ true
plain_tail p todo h = and_right (is_plain p) (plain todo) h

-- a to-do list that binds is none that does not
pub binds_not : (todo : List Todo) → plain todo ≡ true → Binds todo → ⊥
binds_not [] h b = b
binds_not (BindMadeNow c r ∷ todo) h b = cc
binds_not (p ∷ todo) h b = b

module _ (ks : List ℕ) where
  -- the same, of what has the same hand, house and items
  pub like : {e f : Env} → HoldingEnv ks e → f.hand ≡ e.hand → f.house ≡ e.house → f.gathered ≡ e.gathered → HoldingEnv ks f
  like {e} {f} s h g i = record {
    keys_are = ap keys h ∙ s.keys_are;
    house = subst (λ m. PlainParked m.parked) (sym g) s.house;
    hand = subst PlainHand (sym h) s.hand;
    few = subst Few (sym i) s.few;
  }

-- members of a home

found_parked : (k : ℕ) (ps : List (ℕ × Option Ex)) → PlainParked ps → PlainSlot (joined (find k ps))
found_parked k [] h = tt
found_parked k (p ∷ ps) h = either (λ o. PlainSlot (joined o)) (nat_eq p.0 k) (Some p.1) (find k ps) h.0 (found_parked k ps h.1)

pub found_hand : (k : ℕ) (ps : List (ℕ × Members)) → PlainHand ps → PlainMembers (find k ps)
found_hand k [] h = tt
found_hand k (p ∷ ps) h = either PlainMembers (nat_eq p.0 k) (Some p.1) (find k ps) h.0 (found_hand k ps h.1)

slot_plain : (k : ℕ) (o : Option Members) → PlainMembers o → PlainSlot (joined (slot_in k o))
slot_plain k None h = tt
slot_plain k (Some m) h = found_parked k m.parked h

update_parked : (k : ℕ) (o : Option Ex) (ps : List (ℕ × Option Ex)) → PlainSlot o → PlainParked ps → PlainParked (update k o ps)
update_parked k o [] r h = tt
update_parked k o (p ∷ ps) r h = either PlainParked (nat_eq p.0 k) ((k, o) ∷ ps) (p ∷ update k o ps) (r, h.1) (h.0, update_parked k o ps r h.1)

without_parked : (k : ℕ) (ps : List (ℕ × Option Ex)) → PlainParked ps → PlainParked (sw.without k ps)
without_parked k [] h = tt
without_parked k (p ∷ ps) h = either PlainParked (nat_eq p.0 k) ps (p ∷ sw.without k ps) h.1 (h.0, without_parked k ps h.1)

more_parked : (k : ℕ) (x : Ex) (ps : List (ℕ × Option Ex)) → PlainEx x → PlainParked ps → PlainParked (ps ++ (k, Some x) ∷ [])
more_parked k x [] r h = (r, tt)
more_parked k x (p ∷ ps) r h = (h.0, more_parked k x ps r h.1)

update_hand : (k : ℕ) (m : Members) (ps : List (ℕ × Members)) → PlainParked m.parked → PlainHand ps → PlainHand (update k m ps)
update_hand k m [] r h = tt
update_hand k m (p ∷ ps) r h = either PlainHand (nat_eq p.0 k) ((k, m) ∷ ps) (p ∷ update k m ps) (r, h.1) (h.0, update_hand k m ps r h.1)

-- other members under a number that is there leave the numbers
pub update_keys : {X : Type 0} (k : ℕ) (x : X) (ps : List (ℕ × X)) → keys (update k x ps) ≡ keys ps
update_keys k x [] = refl
update_keys k x (p ∷ ps) = by (nat_eq p.0 k) refl (update_keys k x ps)
  where
    by : (b : Bool) → nat_eq p.0 k ≡ b → keys (update k x ps) ≡ keys ps → keys (if b then (k, x) ∷ ps else p ∷ update k x ps) ≡ keys (p ∷ ps)
    by true h i = ap (λ n. n ∷ keys ps) (sym (eqb-true p.0 k h))
    by false h i = ap (λ l. p.0 ∷ l) i

module _ (ks : List ℕ) where
  members_plain : (h : Home) (e : Env) → HoldingEnv ks e → PlainMembers (members_at h e)
  members_plain (home.Task t) e s = either PlainMembers (nat_eq t e.own) (Some e.house) None s.house tt
  members_plain (home.Object o) e s = found_hand o e.hand s.hand

  pub parked_plain : (n : Exec) (e : Env) → HoldingEnv ks e → PlainSlot (parked_at n e)
  parked_plain n e s = slot_plain n.serial (members_at n.home e) (members_plain n.home e s)

  -- changes of what is at home somewhere

  abbrev pub KeepsParked : (Members → Members) → Type 0
  KeepsParked f = (m : Members) → PlainParked m.parked → PlainParked (f m).parked

  housed : (m : Members) (e : Env) → PlainParked m.parked → HoldingEnv ks e → HoldingEnv ks (record e { house = m })
  housed m e h s = record { keys_are = s.keys_are; house = h; hand = s.hand; few = s.few }

  set_holding : (h : Home) (m : Members) (e : Env) → PlainParked m.parked → HoldingEnv ks e → HoldingEnv ks (set_members h m e)
  set_holding (home.Task t) m e r s = either (HoldingEnv ks) (nat_eq t e.own) (record e { house = m }) e (housed m e r s) s
  set_holding (home.Object o) m e r s = record { keys_are = update_keys o m e.hand ∙ s.keys_are; house = s.house; hand = update_hand o m e.hand r s.hand; few = s.few }

  change_by : (h : Home) (f : Members → Members) (o : Option Members) (e : Env) → KeepsParked f → PlainMembers o → HoldingEnv ks e → HoldingEnv ks (change_in h f o e)
  change_by h f None e k m s = s
  change_by h f (Some x) e k m s = set_holding h (f x) e (k x m) s

  pub change_holding : (h : Home) (f : Members → Members) (e : Env) → KeepsParked f → HoldingEnv ks e → HoldingEnv ks (change h f e)
  change_holding h f e k s = change_by h f (members_at h e) e k (members_plain h e s) s

  frames_kept : (n : ℕ) (f : List (List Value) → List (List Value)) (o : Option Ex) (m : Members) → PlainSlot o → PlainParked m.parked → PlainParked (frames_by n f o m).parked
  frames_kept n f None m r h = h
  frames_kept n f (Some x) m r h = update_parked n (Some (record x { frames = f x.frames })) m.parked (record { run = r.run; callers = r.callers }) h

  with_frames_holding : (n : Exec) (f : List (List Value) → List (List Value)) (e : Env) → HoldingEnv ks e → HoldingEnv ks (with_frames n f e)
  with_frames_holding n f e s =
      either (HoldingEnv ks) (exec_eq n e.exec) (record e { frames = f e.frames }) (change n.home (frames_changed n.serial f) e) (like ks s refl refl refl) (change_holding n.home (frames_changed n.serial f) e (λ m h. frames_kept n.serial f (joined (find n.serial m.parked)) m (found_parked n.serial m.parked h) h) s)

  pub owned_holding : (o : Owner) (f : List Value → List Value) (e : Env) → HoldingEnv ks e → HoldingEnv ks (with_owned o f e)
  owned_holding (Frame n d) f e s = with_frames_holding n (frame_changed d f) e s
  owned_holding (Fields o) f e s = change_holding (home.Object o) _ e (λ m h. h) s

  pub written_holding : (v w : Value) (e : Env) → HoldingEnv ks e → HoldingEnv ks (written v w e)
  written_holding (Number n) w e s = s
  written_holding (Place o p) w e s = owned_holding o _ e s
  written_holding (Running x) w e s = s
  written_holding (Object o) w e s = owned_holding (Fields o) _ e s
  written_holding Nothing w e s = s

  -- executions are made and go, and their links change

  pub born_holding : (h : Home) (x : Ex) (e : Env) → PlainEx x → HoldingEnv ks e → HoldingEnv ks (sw.born h x e)
  born_holding h x e r s = change_holding h (sw.one_more x) e (λ m p. more_parked m.serial x m.parked r p) s

  pub forgotten_holding : (o : Option Exec) (e : Env) → HoldingEnv ks e → HoldingEnv ks (sw.forgotten o e)
  forgotten_holding None e s = s
  forgotten_holding (Some n) e s = change_holding n.home (sw.slot_gone n.serial) e (λ m h. without_parked n.serial m.parked h) s

  links_kept : (g : Links → Links) (n : ℕ) (o : Option Ex) (m : Members) → PlainSlot o → PlainParked m.parked → PlainParked (sw.links_by g n o m).parked
  links_kept g n None m r h = h
  links_kept g n (Some x) m r h = update_parked n (Some (record x { links = g x.links })) m.parked (record { run = r.run; callers = r.callers }) h

  pub with_links_holding : (g : Links → Links) (n : Exec) (e : Env) → HoldingEnv ks e → HoldingEnv ks (sw.with_links g n e)
  with_links_holding g n e s =
      either (HoldingEnv ks) (exec_eq n e.exec) (record e { links = g e.links }) (change n.home (sw.links_changed g n.serial) e) (like ks s refl refl refl) (change_holding n.home (sw.links_changed g n.serial) e (λ m h. links_kept g n.serial (joined (find n.serial m.parked)) m (found_parked n.serial m.parked h) h) s)

  pub enlivened_holding : (o : Option Exec) (e : Env) → HoldingEnv ks e → HoldingEnv ks (sw.enlivened o e)
  enlivened_holding None e s = s
  enlivened_holding (Some n) e s = with_links_holding (λ l. record l { live = true }) n e s

  slot_holding : (n : Exec) (o : Option Ex) (e : Env) → PlainSlot o → HoldingEnv ks e → HoldingEnv ks (sw.set_slot n o e)
  slot_holding n o e r s = change_holding n.home (sw.slot_set n.serial o) e (λ m h. update_parked n.serial o m.parked r h) s

  -- switches

  abbrev pub MovedHolding : Moved (List Todo) Value → Type 0
  MovedHolding (To s) = Holding ks s
  MovedHolding (Stops f) = Unit {0}

  -- who may be activated
  abbrev pub PlainNext : Option (Exec × Ex) → Type 0
  PlainNext None = Unit {0}
  PlainNext (Some p) = PlainEx p.1

  pub switched_holding : (n : Exec) (x : Ex) (s : State) → PlainEx x → Holding ks s → Holding ks (sw.switched n x s)
  switched_holding n x s r h = record {
    control = r.run;
    callers = r.callers;
    env = like ks (slot_holding s.env.exec (Some (sw.stopped s)) (sw.set_slot n None s.env) (record { run = h.control; callers = h.callers }) (slot_holding n None s.env tt h.env)) refl refl refl;
  }

  able_stage : (g : Stage) (n : Exec) (x : Ex) → PlainEx x → PlainNext (sw.able_at g n x)
  able_stage Fresh n x r = tt
  able_stage Started n x r = r
  able_stage Ended n x r = tt

  able_slot : (n : Exec) (o : Option Ex) → PlainSlot o → PlainNext (sw.able_by n o)
  able_slot n None r = tt
  able_slot n (Some x) r = able_stage x.links.stage n x r

  pub able_plain : (o : Option Exec) (e : Env) → HoldingEnv ks e → PlainNext (sw.able o e)
  able_plain None e s = tt
  able_plain (Some n) e s = able_slot n (parked_at n e) (parked_plain n e s)

  pub or_plain : (a b : Option (Exec × Ex)) → PlainNext a → PlainNext b → PlainNext (sw.or_else a b)
  or_plain None b h k = k
  or_plain (Some p) b h k = h

  pub go_on_holding : (o : Option (Exec × Ex)) (s : State) → PlainNext o → Holding ks s → MovedHolding (sw.go_on o s)
  go_on_holding None s r h = tt
  go_on_holding (Some p) s r h = switched_holding p.0 p.1 s r h

  wake_stage : (g : Stage) (n : Exec) (x : Ex) (s : State) → PlainEx x → Holding ks s → MovedHolding (sw.wake_at g n x s)
  wake_stage Fresh n x s r h = switched_holding n _ s (record { run = r.run; callers = r.callers }) h
  wake_stage Started n x s r h = switched_holding n _ s (record { run = r.run; callers = r.callers }) h
  wake_stage Ended n x s r h = tt

  wake_slot : (n : Exec) (o : Option Ex) (s : State) → PlainSlot o → Holding ks s → MovedHolding (sw.wake_by n o s)
  wake_slot n None s r h = tt
  wake_slot n (Some x) s r h = wake_stage x.links.stage n x s r h

  wake_named : (o : Option Exec) (s : State) → Holding ks s → MovedHolding (sw.wake_one o s)
  wake_named None s h = tt
  wake_named (Some n) s h = either MovedHolding (exec_eq n s.env.exec) (Stops ResumeInUse) (sw.wake_by n (parked_at n s.env) s) tt (wake_slot n (parked_at n s.env) s (parked_plain n s.env h.env) h)

  pub wake_holding : (o : Option Exec) (s : State) → Holding ks s → MovedHolding (sw.wake o s)
  wake_holding o s h = either MovedHolding (sw.in_destruction s.env) (Stops SwitchInUnwind) (sw.wake_one o s) tt (wake_named o s h)

  pub suspend_holding : (s : State) → Holding ks s → MovedHolding (sw.suspend s)
  suspend_holding s h = either MovedHolding (sw.in_destruction s.env) (Stops SwitchInUnwind) (sw.go_on (sw.able s.env.links.resumer s.env) s) tt (go_on_holding (sw.able s.env.links.resumer s.env) s (able_plain s.env.links.resumer s.env h.env) h)

  ended_holding : (s : State) → Holding ks s → Holding ks (sw.ended s)
  ended_holding s h = record { control = h.control; callers = h.callers; env = like ks h.env refl refl refl }

  pub finish_holding : (s : State) → Holding ks s → MovedHolding (sw.finish s)
  finish_holding s h =
      go_on_holding (sw.or_else (sw.able s.env.links.starter s.env) (sw.able s.env.links.resumer s.env)) (sw.ended s) (or_plain (sw.able s.env.links.starter s.env) (sw.able s.env.links.resumer s.env) (able_plain s.env.links.starter s.env h.env) (able_plain s.env.links.resumer s.env h.env)) (ended_holding s h)

  throw_holding : (o : Option (Exec × Ex)) (s : State) → PlainNext o → Holding ks s → MovedHolding (sw.throw_at o s)
  throw_holding None s r h = tt
  throw_holding (Some p) s r h = switched_holding p.0 _ s (record { run = r.run; callers = r.callers }) h

  pub escape_holding : (s : State) → Holding ks s → MovedHolding (sw.escape s)
  escape_holding s h = throw_holding (sw.able s.env.links.resumer s.env) (sw.ended s) (able_plain s.env.links.resumer s.env h.env) (ended_holding s h)

  pub taken_down_holding : (s : State) → Holding ks s → MovedHolding (sw.taken_down s)
  taken_down_holding s h = go_on_holding (sw.able s.env.links.destroyer s.env) (sw.ended s) (able_plain s.env.links.destroyer s.env h.env) (ended_holding s h)

  over_holding : (n : Exec) (s : State) → Holding ks s → Holding ks (sw.over n s)
  over_holding n s h = record { control = h.control; callers = h.callers; env = with_links_holding (λ l. record l { live = false; stage = Ended }) n s.env h.env }

  take_down_stage : (g : Stage) (n : Exec) (x : Ex) (s : State) → PlainEx x → Holding ks s → MovedHolding (sw.take_down_at g n x s)
  take_down_stage Fresh n x s r h = over_holding n s h
  take_down_stage Started n x s r h = switched_holding n _ s (record { run = r.run; callers = r.callers }) h
  take_down_stage Ended n x s r h = over_holding n s h

  take_down_slot : (n : Exec) (o : Option Ex) (s : State) → PlainSlot o → Holding ks s → MovedHolding (sw.take_down_by n o s)
  take_down_slot n None s r h = h
  take_down_slot n (Some x) s r h = take_down_stage x.links.stage n x s r h

  pub take_down_holding : (o : Option Exec) (s : State) → Holding ks s → MovedHolding (sw.take_down o s)
  take_down_holding None s h = h
  take_down_holding (Some n) s h = take_down_slot n (parked_at n s.env) s (parked_plain n s.env h.env) h
