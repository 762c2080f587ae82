-- What holds of each execution by its home goes on to hold where members, executions and who runs change.
use Rattle.std.proofs.Common.{◌≡◌, ℕ, Bool, true, false, List, [], ◌∷◌, ◌++◌, Option, Some, None, refl, sym, subst, ap, ◌∙◌}
use Rattle.std.specs.Prelude.{nat_eq, is_some, if◌then◌else◌}
use Rattle.std.proofs.lemmas.Bool.{eqb-true}
use Rattle.uc_tree.specs.Source.{Source}
use Rattle.uc_entry.specs.declared.fault.RunFault.TheVariants.{ResumeInUse, SwitchInUnwind}
use Rattle.uc_entry.specs.Keyed.{find}
use Rattle.uc_machine.specs.declared.exec.Exec.{Exec}
use Rattle.uc_machine.specs.declared.exec.Home.{Home}
use Rattle.uc_machine.specs.declared.exec.Home.TheVariants as home
use Rattle.uc_machine.specs.declared.exec.Owner.{Owner}
use Rattle.uc_machine.specs.declared.exec.Owner.TheVariants.{Frame, Fields}
use Rattle.uc_machine.specs.declared.exec.UnwindReason.{UnwindReason}
use Rattle.uc_machine.specs.declared.exec.Stage.{Stage}
use Rattle.uc_machine.specs.declared.exec.Stage.TheVariants.{Fresh, Started, Ended}
use Rattle.uc_machine.specs.Executions.{Links, update, exec_eq, joined, members_at, set_members, change, change_in, slot_in, parked_at, frames_by, frames_changed, frame_changed, with_owned, with_frames}
use Rattle.uc_machine.specs.Switches as sw
use Rattle.uc_machine.specs.Switches.{Moved, To, Stops}
use Rattle.uc_machine.specs.Pieces.{Value, Number, Place, Running, Object, Nothing, Todo, Active, State, Env, Members, written}
use Rattle.uc_depth_laws.specs.Owing.{Ex}
use Rattle.uc_depth_laws.proofs.Kept.{either}
use Rattle.uc_inner_laws.specs.Inner.{Part}
use Rattle.uc_inner_laws.specs.Standing.{Mark, Stands, Waits, StandsBy, StandsEx, StandsSlot, StandsParked, StandsHand, StandsMembers, StandsEnv, IsHere, StandsState}

module _ (part : ℕ → Part) (source : Source) (mine : ℕ) where
  -- for which reason an activation is unwound does not matter
  unwound : (h : Home) (ns : List Mark) (a : Active) (older : List Active) (w : UnwindReason) → Stands part source h ns a older → Stands part source h ns (record a { raised = Some w }) older
  unwound h ns a older w s = record { base = s.base; marks = s.marks; holds = s.holds; ok = s.ok; backed = s.backed; thing = s.thing; waited = s.waited; reason = λ i. refl }

  -- an execution that stops
  stands_by : (g : Stage) (h : Home) (a : Active) (older : List Active) → Stands part source h [] a older × Waits part source h older → StandsBy part source g h a older
  stands_by Fresh h a older s = s
  stands_by Started h a older s = s
  stands_by Ended h a older s = tt

  -- nothing else of a task changes where members do
  pub record Kept (e f : Env) : Type 0 where
    pub env : StandsEnv part source f
    pub exec : f.exec ≡ e.exec
    pub own : f.own ≡ e.own
    pub hand : (q : ℕ) → is_some (find q e.hand) ≡ true → is_some (find q f.hand) ≡ true

  pub here_kept : {e f : Env} → Kept e f → (h : Home) → IsHere e.own e.hand h → IsHere f.own f.hand h
  here_kept k (home.Task t) i = i ∙ sym k.own
  here_kept k (home.Object q) i = k.hand q i

  -- one after another
  pub behind : {e f g : Env} → Kept e f → Kept f g → Kept e g
  behind x y = record { env = y.env; exec = y.exec ∙ x.exec; own = y.own ∙ x.own; hand = λ q i. y.hand q (x.hand q i) }

  pub same : {e f : Env} → StandsEnv part source e → f.hand ≡ e.hand → f.house ≡ e.house → f.own ≡ e.own → StandsEnv part source f
  same {e} {f} s h g o = record {
    house = subst (λ t. StandsParked part source (home.Task t) f.house.parked) (sym o) (subst (λ m. StandsParked part source (home.Task e.own) m.parked) (sym g) s.house);
    hand = subst (StandsHand part source) (sym h) s.hand;
  }

  -- members of a home

  found_parked : (h : Home) (k : ℕ) (ps : List (ℕ × Option Ex)) → StandsParked part source h ps → StandsSlot part source h (joined (find k ps))
  found_parked h k [] s = tt
  found_parked h k (p ∷ ps) s = either (λ o. StandsSlot part source h (joined o)) (nat_eq p.0 k) (Some p.1) (find k ps) s.0 (found_parked h k ps s.1)

  pub found_hand : (k : ℕ) (ps : List (ℕ × Members)) → StandsHand part source ps → StandsMembers part source (home.Object k) (find k ps)
  found_hand k [] s = tt
  found_hand k (p ∷ ps) s = by (nat_eq p.0 k) refl (found_hand k ps s.1)
    where
      by : (b : Bool) → nat_eq p.0 k ≡ b → StandsMembers part source (home.Object k) (find k ps) → StandsMembers part source (home.Object k) (if b then Some p.1 else find k ps)
      by true e r = subst (λ o. StandsParked part source (home.Object o) p.1.parked) (eqb-true p.0 k e) s.0
      by false e r = r

  slot_in_stands : (h : Home) (k : ℕ) (o : Option Members) → StandsMembers part source h o → StandsSlot part source h (joined (slot_in k o))
  slot_in_stands h k None s = tt
  slot_in_stands h k (Some m) s = found_parked h k m.parked s

  update_parked : (h : Home) (k : ℕ) (o : Option Ex) (ps : List (ℕ × Option Ex)) → StandsSlot part source h o → StandsParked part source h ps → StandsParked part source h (update k o ps)
  update_parked h k o [] r s = tt
  update_parked h k o (p ∷ ps) r s = either (StandsParked part source h) (nat_eq p.0 k) ((k, o) ∷ ps) (p ∷ update k o ps) (r, s.1) (s.0, update_parked h k o ps r s.1)

  without_parked : (h : Home) (k : ℕ) (ps : List (ℕ × Option Ex)) → StandsParked part source h ps → StandsParked part source h (sw.without k ps)
  without_parked h k [] s = tt
  without_parked h k (p ∷ ps) s = either (StandsParked part source h) (nat_eq p.0 k) ps (p ∷ sw.without k ps) s.1 (s.0, without_parked h k ps s.1)

  more_parked : (h : Home) (k : ℕ) (x : Ex) (ps : List (ℕ × Option Ex)) → StandsEx part source h x → StandsParked part source h ps → StandsParked part source h (ps ++ (k, Some x) ∷ [])
  more_parked h k x [] r s = (r, tt)
  more_parked h k x (p ∷ ps) r s = (s.0, more_parked h k x ps r s.1)

  update_hand : (k : ℕ) (m : Members) (ps : List (ℕ × Members)) → StandsParked part source (home.Object k) m.parked → StandsHand part source ps → StandsHand part source (update k m ps)
  update_hand k m [] r s = tt
  update_hand k m (p ∷ ps) r s = either (StandsHand part source) (nat_eq p.0 k) ((k, m) ∷ ps) (p ∷ update k m ps) (r, s.1) (s.0, update_hand k m ps r s.1)

  update_there : (k q : ℕ) (m : Members) (ps : List (ℕ × Members)) → is_some (find q ps) ≡ true → is_some (find q (update k m ps)) ≡ true
  update_there k q m [] h = absurd (cc)
  update_there k q m (p ∷ ps) h = by (nat_eq p.0 k) refl (nat_eq p.0 q) refl h (λ i. update_there k q m ps i)
    where
      by : (b : Bool) → nat_eq p.0 k ≡ b → (c : Bool) → nat_eq p.0 q ≡ c → is_some (if c then Some p.1 else find q ps) ≡ true → (is_some (find q ps) ≡ true → is_some (find q (update k m ps)) ≡ true) → is_some (find q (if b then (k, m) ∷ ps else p ∷ update k m ps)) ≡ true
      by true e true f i r = ap (λ n. is_some (if nat_eq n q then Some m else find q ps)) (sym (eqb-true p.0 k e)) ∙ ap (λ c. is_some (if c then Some m else find q ps)) f
      by true e false f i r = ap (λ n. is_some (if nat_eq n q then Some m else find q ps)) (sym (eqb-true p.0 k e)) ∙ (ap (λ c. is_some (if c then Some m else find q ps)) f ∙ i)
      by false e true f i r = ap (λ c. is_some (if c then Some p.1 else find q (update k m ps))) f
      by false e false f i r = ap (λ c. is_some (if c then Some p.1 else find q (update k m ps))) f ∙ r i

  members_stand : (h : Home) (e : Env) → StandsEnv part source e → StandsMembers part source h (members_at h e)
  members_stand (home.Task t) e s = by (nat_eq t e.own) refl
    where
      by : (b : Bool) → nat_eq t e.own ≡ b → StandsMembers part source (home.Task t) (if b then Some e.house else None)
      by true q = subst (λ o. StandsParked part source (home.Task o) e.house.parked) (sym (eqb-true t e.own q)) s.house
      by false q = tt
  members_stand (home.Object o) e s = found_hand o e.hand s.hand

  pub parked_stand : (n : Exec) (e : Env) → StandsEnv part source e → StandsSlot part source n.home (parked_at n e)
  parked_stand n e s = slot_in_stands n.home n.serial (members_at n.home e) (members_stand n.home e s)

  -- who is parked somewhere is here

  abbrev pub HereSlot : ℕ → List (ℕ × Members) → Home → Option Ex → Type 0
  HereSlot own hand h None = Unit {0}
  HereSlot own hand h (Some x) = IsHere own hand h

  slot_here : (h : Home) (k : ℕ) (e : Env) → HereSlot e.own e.hand h (joined (slot_in k (members_at h e)))
  slot_here (home.Object o) k e = by (find o e.hand) refl
    where
      some : is_some (find o e.hand) ≡ true → (x : Option Ex) → HereSlot e.own e.hand (home.Object o) x
      some i None = tt
      some i (Some x) = i

      by : (y : Option Members) → find o e.hand ≡ y → HereSlot e.own e.hand (home.Object o) (joined (slot_in k y))
      by None q = tt
      by (Some m) q = some (ap (λ (z : Option Members). is_some z) q) (joined (slot_in k (Some m)))
  slot_here (home.Task t) k e = by (nat_eq t e.own) refl
    where
      some : t ≡ e.own → (o : Option Ex) → HereSlot e.own e.hand (home.Task t) o
      some q None = tt
      some q (Some x) = q

      by : (b : Bool) → nat_eq t e.own ≡ b → HereSlot e.own e.hand (home.Task t) (joined (slot_in k (if b then Some e.house else None)))
      by true q = some (eqb-true t e.own q) (joined (slot_in k (Some e.house)))
      by false q = tt

  -- changes of what is at home somewhere

  abbrev pub KeepsParked : Home → (Members → Members) → Type 0
  KeepsParked h f = (m : Members) → StandsParked part source h m.parked → StandsParked part source h (f m).parked

  set_stands : (h : Home) (m : Members) (e : Env) → StandsParked part source h m.parked → StandsEnv part source e → Kept e (set_members h m e)
  set_stands (home.Task t) m e r s = by (nat_eq t e.own) refl
    where
      by : (b : Bool) → nat_eq t e.own ≡ b → Kept e (if b then record e { house = m } else e)
      by true q = record { env = record { house = subst (λ o. StandsParked part source (home.Task o) m.parked) (eqb-true t e.own q) r; hand = s.hand }; exec = refl; own = refl; hand = λ q i. i }
      by false q = record { env = s; exec = refl; own = refl; hand = λ q i. i }
  set_stands (home.Object o) m e r s = record { env = record { house = s.house; hand = update_hand o m e.hand r s.hand }; exec = refl; own = refl; hand = λ q i. update_there o q m e.hand i }

  change_by : (h : Home) (f : Members → Members) (o : Option Members) (e : Env) → KeepsParked h f → StandsMembers part source h o → StandsEnv part source e → Kept e (change_in h f o e)
  change_by h f None e k m s = record { env = s; exec = refl; own = refl; hand = λ q i. i }
  change_by h f (Some x) e k m s = set_stands h (f x) e (k x m) s

  pub change_stands : (h : Home) (f : Members → Members) (e : Env) → KeepsParked h f → StandsEnv part source e → Kept e (change h f e)
  change_stands h f e k s = change_by h f (members_at h e) e k (members_stand h e s) s

  frames_kept : (h : Home) (n : ℕ) (f : List (List Value) → List (List Value)) (o : Option Ex) (m : Members) → StandsSlot part source h o → StandsParked part source h m.parked → StandsParked part source h (frames_by n f o m).parked
  frames_kept h n f None m r s = s
  frames_kept h n f (Some x) m r s = update_parked h n (Some (record x { frames = f x.frames })) m.parked r s

  with_frames_stand : (n : Exec) (f : List (List Value) → List (List Value)) (e : Env) → StandsEnv part source e → Kept e (with_frames n f e)
  with_frames_stand n f e s =
      either (Kept e) (exec_eq n e.exec) (record e { frames = f e.frames }) (change n.home (frames_changed n.serial f) e) (record { env = same s refl refl refl; exec = refl; own = refl; hand = λ q i. i }) (change_stands n.home (frames_changed n.serial f) e (λ m h. frames_kept n.home n.serial f (joined (find n.serial m.parked)) m (found_parked n.home n.serial m.parked h) h) s)

  pub owned_stands : (o : Owner) (f : List Value → List Value) (e : Env) → StandsEnv part source e → Kept e (with_owned o f e)
  owned_stands (Frame n d) f e s = with_frames_stand n (frame_changed d f) e s
  owned_stands (Fields o) f e s = change_stands (home.Object o) _ e (λ m h. h) s

  pub written_stands : (v w : Value) (e : Env) → StandsEnv part source e → Kept e (written v w e)
  written_stands (Number n) w e s = record { env = s; exec = refl; own = refl; hand = λ q i. i }
  written_stands (Place o p) w e s = owned_stands o _ e s
  written_stands (Running x) w e s = record { env = s; exec = refl; own = refl; hand = λ q i. i }
  written_stands (Object o) w e s = owned_stands (Fields o) _ e s
  written_stands Nothing w e s = record { env = s; exec = refl; own = refl; hand = λ q i. i }

  -- executions are made and go, and their links change

  pub born_stands : (h : Home) (x : Ex) (e : Env) → StandsEx part source h x → StandsEnv part source e → Kept e (sw.born h x e)
  born_stands h x e r s = change_stands h (sw.one_more x) e (λ m p. more_parked h m.serial x m.parked r p) s

  pub forgotten_stands : (o : Option Exec) (e : Env) → StandsEnv part source e → Kept e (sw.forgotten o e)
  forgotten_stands None e s = record { env = s; exec = refl; own = refl; hand = λ q i. i }
  forgotten_stands (Some n) e s = change_stands n.home (sw.slot_gone n.serial) e (λ m h. without_parked n.home n.serial m.parked h) s

  -- an execution ends by it, or goes on as it is
  abbrev pub KeepsLinks : (Links → Links) → Type 0
  KeepsLinks g = (l : Links) (h : Home) (a : Active) (older : List Active) → StandsBy part source l.stage h a older → StandsBy part source (g l).stage h a older

  links_kept : (h : Home) (g : Links → Links) → KeepsLinks g → (n : ℕ) (o : Option Ex) (m : Members) → StandsSlot part source h o → StandsParked part source h m.parked → StandsParked part source h (sw.links_by g n o m).parked
  links_kept h g k n None m r s = s
  links_kept h g k n (Some x) m r s =
      update_parked h n (Some (record x { links = g x.links })) m.parked (k x.links h x.run x.callers r) s

  pub with_links_stand : (g : Links → Links) → KeepsLinks g → (n : Exec) (e : Env) → StandsEnv part source e → Kept e (sw.with_links g n e)
  with_links_stand g k n e s =
      either (Kept e) (exec_eq n e.exec) (record e { links = g e.links }) (change n.home (sw.links_changed g n.serial) e) (record { env = same s refl refl refl; exec = refl; own = refl; hand = λ q i. i }) (change_stands n.home (sw.links_changed g n.serial) e (λ m h. links_kept n.home g k n.serial (joined (find n.serial m.parked)) m (found_parked n.home n.serial m.parked h) h) s)

  pub enlivened_stands : (o : Option Exec) (e : Env) → StandsEnv part source e → Kept e (sw.enlivened o e)
  enlivened_stands None e s = record { env = s; exec = refl; own = refl; hand = λ q i. i }
  enlivened_stands (Some n) e s = with_links_stand (λ l. record l { live = true }) (λ l h a older k. k) n e s

  slot_stands : (n : Exec) (o : Option Ex) (e : Env) → StandsSlot part source n.home o → StandsEnv part source e → Kept e (sw.set_slot n o e)
  slot_stands n o e r s = change_stands n.home (sw.slot_set n.serial o) e (λ m h. update_parked n.home n.serial o m.parked r h) s

  -- the same state with what is kept
  pub in_kept : (s : State) (e : Env) → Kept s.env e → StandsState part source mine s → StandsState part source mine (record s { env = e })
  in_kept s e k h = record {
    own = k.own ∙ h.own;
    run = subst (λ (n : Exec). Stands part source n.home [] s.run s.callers) (sym k.exec) h.run;
    callers = subst (λ (n : Exec). Waits part source n.home s.callers) (sym k.exec) h.callers;
    env = k.env;
    here = subst (λ (n : Exec). IsHere e.own e.hand n.home) (sym k.exec) (here_kept k s.env.exec.home h.here);
  }

  -- switches

  abbrev pub StandsMoved : Moved (List Todo) Value → Type 0
  StandsMoved (To s) = StandsState part source mine s
  StandsMoved (Stops f) = Unit {0}

  -- an execution that is parked in this task, or in its hand, and has not ended
  abbrev Next : ℕ → List (ℕ × Members) → Exec → Ex → Type 0
  Next own hand n x = Stands part source n.home [] x.run x.callers × Waits part source n.home x.callers × IsHere own hand n.home

  -- one that may have
  abbrev NextBy : Stage → ℕ → List (ℕ × Members) → Exec → Ex → Type 0
  NextBy g own hand n x = StandsBy part source g n.home x.run x.callers × IsHere own hand n.home

  -- who may be activated
  abbrev pub StandsNext : ℕ → List (ℕ × Members) → Option (Exec × Ex) → Type 0
  StandsNext own hand None = Unit {0}
  StandsNext own hand (Some p) = Next own hand p.0 p.1

  -- the running execution as one that does not run
  pub record Parks (s : State) : Type 0 where
    pub own : s.env.own ≡ mine
    pub slot : StandsBy part source s.env.links.stage s.env.exec.home s.run s.callers
    pub env : StandsEnv part source s.env

  pub parks : (s : State) → StandsState part source mine s → Parks s
  parks s h = record { own = h.own; slot = stands_by s.env.links.stage s.env.exec.home s.run s.callers (h.run, h.callers); env = h.env }

  -- one that has ended
  pub parks_ended : (s : State) → s.env.own ≡ mine → StandsEnv part source s.env → Parks (sw.ended s)
  parks_ended s o e = record { own = o; slot = tt; env = same e refl refl refl }

  abbrev Slot : ℕ → List (ℕ × Members) → Exec → Option Ex → Type 0
  Slot own hand n o = StandsSlot part source n.home o × HereSlot own hand n.home o

  slot_at : (n : Exec) (e : Env) → StandsEnv part source e → Slot e.own e.hand n (parked_at n e)
  slot_at n e s = (parked_stand n e s, slot_here n.home n.serial e)

  next_at : (own : ℕ) (hand : List (ℕ × Members)) (n : Exec) (x : Ex) → Slot own hand n (Some x) → NextBy x.links.stage own hand n x
  next_at own hand n x s = (s.0, s.1)

  pub switched_stands : (n : Exec) (x : Ex) (s : State) → Next s.env.own s.env.hand n x → Parks s → StandsState part source mine (sw.switched n x s)
  switched_stands n x s r h =
      let out : Kept s.env (sw.set_slot n None s.env) = slot_stands n None s.env tt h.env in
      let back : Kept (sw.set_slot n None s.env) (sw.set_slot s.env.exec (Some (sw.stopped s)) (sw.set_slot n None s.env)) = slot_stands s.env.exec (Some (sw.stopped s)) (sw.set_slot n None s.env) h.slot out.env in
      record { own = back.own ∙ (out.own ∙ h.own); run = r.0; callers = r.1; env = same back.env refl refl refl; here = here_kept back n.home (here_kept out n.home r.2) }

  able_stage : (own : ℕ) (hand : List (ℕ × Members)) (g : Stage) (n : Exec) (x : Ex) → NextBy g own hand n x → StandsNext own hand (sw.able_at g n x)
  able_stage own hand Fresh n x r = tt
  able_stage own hand Started n x r = (r.0.0, r.0.1, r.1)
  able_stage own hand Ended n x r = tt

  able_slot : (own : ℕ) (hand : List (ℕ × Members)) (n : Exec) (o : Option Ex) → Slot own hand n o → StandsNext own hand (sw.able_by n o)
  able_slot own hand n None r = tt
  able_slot own hand n (Some x) r = able_stage own hand x.links.stage n x (next_at own hand n x r)

  pub able_stands : (o : Option Exec) (e : Env) → StandsEnv part source e → StandsNext e.own e.hand (sw.able o e)
  able_stands None e s = tt
  able_stands (Some n) e s = able_slot e.own e.hand n (parked_at n e) (slot_at n e s)

  or_stands : (own : ℕ) (hand : List (ℕ × Members)) (a b : Option (Exec × Ex)) → StandsNext own hand a → StandsNext own hand b → StandsNext own hand (sw.or_else a b)
  or_stands own hand None b h k = k
  or_stands own hand (Some p) b h k = h

  go_on_stands : (o : Option (Exec × Ex)) (s : State) → StandsNext s.env.own s.env.hand o → Parks s → StandsMoved (sw.go_on o s)
  go_on_stands None s r h = tt
  go_on_stands (Some p) s r h = switched_stands p.0 p.1 s r h

  wake_stage : (g : Stage) (n : Exec) (x : Ex) (s : State) → NextBy g s.env.own s.env.hand n x → Parks s → StandsMoved (sw.wake_at g n x s)
  wake_stage Fresh n x s r h = switched_stands n _ s (r.0.0, r.0.1, r.1) h
  wake_stage Started n x s r h = switched_stands n _ s (r.0.0, r.0.1, r.1) h
  wake_stage Ended n x s r h = tt

  wake_slot : (n : Exec) (o : Option Ex) (s : State) → Slot s.env.own s.env.hand n o → StandsState part source mine s → StandsMoved (sw.wake_by n o s)
  wake_slot n None s r h = tt
  wake_slot n (Some x) s r h = wake_stage x.links.stage n x s (next_at s.env.own s.env.hand n x r) (parks s h)

  wake_one_stands : (o : Option Exec) (s : State) → StandsState part source mine s → StandsMoved (sw.wake_one o s)
  wake_one_stands None s h = tt
  wake_one_stands (Some n) s h = either StandsMoved (exec_eq n s.env.exec) (Stops ResumeInUse) (sw.wake_by n (parked_at n s.env) s) tt (wake_slot n (parked_at n s.env) s (slot_at n s.env h.env) h)

  pub wake_stands : (o : Option Exec) (s : State) → StandsState part source mine s → StandsMoved (sw.wake o s)
  wake_stands o s h = either StandsMoved (sw.in_destruction s.env) (Stops SwitchInUnwind) (sw.wake_one o s) tt (wake_one_stands o s h)

  pub suspend_stands : (s : State) → StandsState part source mine s → StandsMoved (sw.suspend s)
  suspend_stands s h = either StandsMoved (sw.in_destruction s.env) (Stops SwitchInUnwind) (sw.go_on (sw.able s.env.links.resumer s.env) s) tt (go_on_stands (sw.able s.env.links.resumer s.env) s (able_stands s.env.links.resumer s.env h.env) (parks s h))

  -- whoever ends is looked at no more

  pub finish_stands : (s : State) → s.env.own ≡ mine → StandsEnv part source s.env → StandsMoved (sw.finish s)
  finish_stands s o e =
      go_on_stands (sw.or_else (sw.able s.env.links.starter s.env) (sw.able s.env.links.resumer s.env)) (sw.ended s) (or_stands s.env.own s.env.hand (sw.able s.env.links.starter s.env) (sw.able s.env.links.resumer s.env) (able_stands s.env.links.starter s.env e) (able_stands s.env.links.resumer s.env e)) (parks_ended s o e)

  throw_stands : (o : Option (Exec × Ex)) (s : State) → StandsNext s.env.own s.env.hand o → Parks s → StandsMoved (sw.throw_at o s)
  throw_stands None s r h = tt
  throw_stands (Some p) s r h = switched_stands p.0 _ s (unwound p.0.home [] p.1.run p.1.callers _ r.0, r.1, r.2) h

  pub escape_stands : (s : State) → s.env.own ≡ mine → StandsEnv part source s.env → StandsMoved (sw.escape s)
  escape_stands s o e = throw_stands (sw.able s.env.links.resumer s.env) (sw.ended s) (able_stands s.env.links.resumer s.env e) (parks_ended s o e)

  pub taken_down_stands : (s : State) → s.env.own ≡ mine → StandsEnv part source s.env → StandsMoved (sw.taken_down s)
  taken_down_stands s o e = go_on_stands (sw.able s.env.links.destroyer s.env) (sw.ended s) (able_stands s.env.links.destroyer s.env e) (parks_ended s o e)

  over_stands : (n : Exec) (s : State) → StandsState part source mine s → StandsState part source mine (sw.over n s)
  over_stands n s h = in_kept s _ (with_links_stand (λ l. record l { live = false; stage = Ended }) (λ l k a older i. tt) n s.env h.env) h

  take_down_stage : (g : Stage) (n : Exec) (x : Ex) (s : State) → NextBy g s.env.own s.env.hand n x → StandsState part source mine s → StandsMoved (sw.take_down_at g n x s)
  take_down_stage Fresh n x s r h = over_stands n s h
  take_down_stage Started n x s r h = switched_stands n _ s (unwound n.home [] x.run x.callers _ r.0.0, r.0.1, r.1) (parks s h)
  take_down_stage Ended n x s r h = over_stands n s h

  take_down_slot : (n : Exec) (o : Option Ex) (s : State) → Slot s.env.own s.env.hand n o → StandsState part source mine s → StandsMoved (sw.take_down_by n o s)
  take_down_slot n None s r h = h
  take_down_slot n (Some x) s r h = take_down_stage x.links.stage n x s (next_at s.env.own s.env.hand n x r) h

  pub take_down_stands : (o : Option Exec) (s : State) → StandsState part source mine s → StandsMoved (sw.take_down o s)
  take_down_stands None s h = h
  take_down_stands (Some n) s h = take_down_slot n (parked_at n s.env) s (slot_at n s.env h.env) h
