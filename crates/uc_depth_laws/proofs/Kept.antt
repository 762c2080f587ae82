-- What is engaged goes on to be so, and owes no more, where members, executions and who runs change.
use Rattle.std.proofs.Common.{◌≡◌, ℕ, ◌+◌, ◌≤◌, ◌⊎◌, inl, inr, Bool, true, false, List, [], ◌∷◌, ◌++◌, Option, Some, None, refl, sym, subst, ap, arith}
use Rattle.std.specs.Prelude.{nat_eq, if◌then◌else◌}
use Rattle.std.proofs.lemmas.Bool.{eqb-true}
use Rattle.uc_tree.specs.Source.{Source}
use Rattle.uc_entry.specs.declared.fault.RunFault.TheVariants.{ResumeInUse, SwitchInUnwind}
use Rattle.uc_entry.specs.Keyed.{find}
use Rattle.uc_machine.specs.declared.exec.Exec.{Exec}
use Rattle.uc_machine.specs.declared.exec.Home.{Home}
use Rattle.uc_machine.specs.declared.exec.Home.TheVariants as home
use Rattle.uc_machine.specs.declared.exec.Owner.{Owner}
use Rattle.uc_machine.specs.declared.exec.Owner.TheVariants.{Frame, Fields}
use Rattle.uc_machine.specs.declared.exec.UnwindReason.{UnwindReason}
use Rattle.uc_machine.specs.declared.exec.Stage.{Stage}
use Rattle.uc_machine.specs.declared.exec.Stage.TheVariants.{Fresh, Started, Ended}
use Rattle.uc_machine.specs.Executions.{Links, update, exec_eq, joined, members_at, set_members, change, change_in, slot_in, parked_at, frames_by, frames_changed, frame_changed, with_owned, with_frames}
use Rattle.uc_machine.specs.Switches as sw
use Rattle.uc_machine.specs.Switches.{Moved, To, Stops}
use Rattle.uc_machine.specs.Pieces.{Value, Number, Place, Running, Object, Nothing, Todo, State, Env, Members, written}
use Rattle.uc_depth_laws.specs.Owing.{Ex, Any, Tests, is_told, Entered, IsToldFirst, AllEntered, DeepAlone, entries, Engaged, EngagedBy, EngagedSlot, EngagedParked, EngagedHand, EngagedMembers, EngagedEnv, owed_all, owed_at, owed_ex, owed_slot, owed_parked, owed_hand, owed_own, owed_env, owed, depth_in, Deep}
use Rattle.uc_depth_laws.specs.Entering.{Aspect}
use Rattle.uc_depth_laws.proofs.Depths.{none_first, none_marked, none_told}

-- the first of two by a test, and of two pairs
pub either : {A : Type 0} (P : A → Type 0) (b : Bool) (x y : A) → P x → P y → P (if b then x else y)
either P true x y h k = h
either P false x y h k = k

pub both : {A B : Type 0} (P : A → B → Type 0) (b : Bool) (x y : A) (u v : B) → P x u → P y v → P (if b then x else y) (if b then u else v)
both P true x y u v h k = h
both P false x y u v h k = k

-- one that has ended owes nothing, and another what its activations do

owed_most : (g : Stage) (n : ℕ) → owed_at g n ≤ n
owed_most Fresh n = omega arith
owed_most Started n = omega arith
owed_most Ended n = omega arith

-- a stage that stays, or is the end
abbrev pub StaysOrEnds : Stage → Stage → Type 0
StaysOrEnds now before = (now ≡ before) ⊎ (now ≡ Ended)

owed_less : (now before : Stage) (n : ℕ) → StaysOrEnds now before → owed_at now n ≤ owed_at before n
owed_less now before n (inl e) = let a = ap (λ g. owed_at g n) e in omega (arith, a)
owed_less now before n (inr e) = let a : owed_at now n ≡ 0 = ap (λ g. owed_at g n) e in omega (arith, a)

pub record Spares (g : Links → Links) : Type 0 where
  pub counts : (l : Links) → entries l ≤ entries (g l)
  pub stage : (l : Links) → StaysOrEnds (g l).stage l.stage

module _ (source : Source) (tells : Aspect → ℕ → Bool) where
  -- by their stages

  pub by_stage : (g : Stage) (x : Ex) → Engaged source tells x → EngagedBy source tells g x
  by_stage Fresh x h = h
  by_stage Started x h = h
  by_stage Ended x h = tt

  same_stage : (g : Stage) (x y : Ex) → (Engaged source tells x → Engaged source tells y) → EngagedBy source tells g x → EngagedBy source tells g y
  same_stage Fresh x y f h = f h
  same_stage Started x y f h = f h
  same_stage Ended x y f h = tt

  next_stage : (now before : Stage) (x y : Ex) → StaysOrEnds now before → (Engaged source tells x → Engaged source tells y) → EngagedBy source tells before x → EngagedBy source tells now y
  next_stage now before x y (inl e) f h = subst (λ g. EngagedBy source tells g y) (sym e) (same_stage before x y f h)
  next_stage now before x y (inr e) f h = subst (λ g. EngagedBy source tells g y) (sym e) tt

  -- lists of executions

  found_parked : (k : ℕ) (ps : List (ℕ × Option Ex)) → EngagedParked source tells ps → EngagedSlot source tells (joined (find k ps))
  found_parked k [] h = tt
  found_parked k (p ∷ ps) h = either (λ o. EngagedSlot source tells (joined o)) (nat_eq p.0 k) (Some p.1) (find k ps) h.0 (found_parked k ps h.1)

  update_parked : (k : ℕ) (o : Option Ex) (ps : List (ℕ × Option Ex)) → EngagedSlot source tells o → EngagedParked source tells ps → EngagedParked source tells (update k o ps)
  update_parked k o [] r h = tt
  update_parked k o (p ∷ ps) r h = either (EngagedParked source tells) (nat_eq p.0 k) ((k, o) ∷ ps) (p ∷ update k o ps) (r, h.1) (h.0, update_parked k o ps r h.1)

  without_parked : (k : ℕ) (ps : List (ℕ × Option Ex)) → EngagedParked source tells ps → EngagedParked source tells (sw.without k ps)
  without_parked k [] h = tt
  without_parked k (p ∷ ps) h = either (EngagedParked source tells) (nat_eq p.0 k) ps (p ∷ sw.without k ps) h.1 (h.0, without_parked k ps h.1)

  more_parked : (k : ℕ) (x : Ex) (ps : List (ℕ × Option Ex)) → Engaged source tells x → EngagedParked source tells ps → EngagedParked source tells (ps ++ (k, Some x) ∷ [])
  more_parked k x [] r h = (by_stage x.links.stage x r, tt)
  more_parked k x (p ∷ ps) r h = (h.0, more_parked k x ps r h.1)

  frames_parked : (n : ℕ) (f : List (List Value) → List (List Value)) (o : Option Ex) (m : Members) → EngagedSlot source tells o → EngagedParked source tells m.parked → EngagedParked source tells (frames_by n f o m).parked
  frames_parked n f None m r h = h
  frames_parked n f (Some x) m r h =
      update_parked n (Some (record x { frames = f x.frames })) m.parked (same_stage x.links.stage x (record x { frames = f x.frames }) (λ k. record { run = k.run; one = k.one; callers = k.callers; engaged = k.engaged }) r) h

  links_parked : (g : Links → Links) → Spares g → (n : ℕ) (o : Option Ex) (m : Members) → EngagedSlot source tells o → EngagedParked source tells m.parked → EngagedParked source tells (sw.links_by g n o m).parked
  links_parked g k n None m r h = h
  links_parked g k n (Some x) m r h =
      update_parked n (Some (record x { links = g x.links })) m.parked (next_stage (g x.links).stage x.links.stage x (record x { links = g x.links }) (k.stage x.links) (λ r. record { run = r.run; one = r.one; callers = r.callers; engaged = let a = r.engaged in let b = k.counts x.links in omega (arith, a, b) }) r) h

module _ (source : Source) (news : Tests) where
  -- what is owed by lists of executions

  abbrev pub owed_members : ℕ → Option Members → ℕ
  owed_members q None = 0
  owed_members q (Some m) = owed_parked q m.parked

  pub found_hand : (k : ℕ) (ps : List (ℕ × Members)) → EngagedHand source news ps → EngagedMembers source news (home.Object k) (find k ps)
  found_hand k [] h = tt
  found_hand k (p ∷ ps) h = by (nat_eq p.0 k) refl (found_hand k ps h.1)
    where
      by : (b : Bool) → nat_eq p.0 k ≡ b → EngagedMembers source news (home.Object k) (find k ps) → EngagedMembers source news (home.Object k) (if b then Some p.1 else find k ps)
      by true e r = subst (λ o. EngagedParked source (news (home.Object o)) p.1.parked) (eqb-true p.0 k e) h.0
      by false e r = r

  slot_engaged : (h : Home) (k : ℕ) (o : Option Members) → EngagedMembers source news h o → EngagedSlot source (news h) (joined (slot_in k o))
  slot_engaged h k None r = tt
  slot_engaged h k (Some m) r = found_parked source (news h) k m.parked r

  update_owed : (q k : ℕ) (o : Option Ex) (ps : List (ℕ × Option Ex)) → owed_parked q (update k o ps) + owed_slot q (joined (find k ps)) ≤ owed_parked q ps + owed_slot q o
  update_owed q k o [] = omega arith
  update_owed q k o (p ∷ ps) =
      let h = update_owed q k o ps in
      both (λ (xs : List (ℕ × Option Ex)) (x : Option (Option Ex)). owed_parked q xs + owed_slot q (joined x) ≤ (owed_slot q p.1 + owed_parked q ps) + owed_slot q o) (nat_eq p.0 k) ((k, o) ∷ ps) (p ∷ update k o ps) (Some p.1) (find k ps) (omega arith) (omega (arith, h))

  without_owed : (q k : ℕ) (ps : List (ℕ × Option Ex)) → owed_parked q (sw.without k ps) ≤ owed_parked q ps
  without_owed q k [] = omega arith
  without_owed q k (p ∷ ps) =
      let h = without_owed q k ps in
      either (λ (xs : List (ℕ × Option Ex)). owed_parked q xs ≤ owed_slot q p.1 + owed_parked q ps) (nat_eq p.0 k) ps (p ∷ sw.without k ps) (omega arith) (omega (arith, h))

  more_owed : (q k : ℕ) (x : Ex) (ps : List (ℕ × Option Ex)) → owed_parked q (ps ++ (k, Some x) ∷ []) ≤ owed_parked q ps + owed_ex q x
  more_owed q k x [] = omega arith
  more_owed q k x (p ∷ ps) = let h = more_owed q k x ps in omega (arith, h)

  update_hand : (k : ℕ) (m : Members) (ps : List (ℕ × Members)) → EngagedParked source (news (home.Object k)) m.parked → EngagedHand source news ps → EngagedHand source news (update k m ps)
  update_hand k m [] r h = tt
  update_hand k m (p ∷ ps) r h = either (EngagedHand source news) (nat_eq p.0 k) ((k, m) ∷ ps) (p ∷ update k m ps) (r, h.1) (h.0, update_hand k m ps r h.1)

  update_hand_owed : (q k : ℕ) (m : Members) (ps : List (ℕ × Members)) → owed_hand q (update k m ps) + owed_members q (find k ps) ≤ owed_hand q ps + owed_parked q m.parked
  update_hand_owed q k m [] = omega arith
  update_hand_owed q k m (p ∷ ps) =
      let h = update_hand_owed q k m ps in
      both (λ (xs : List (ℕ × Members)) (x : Option Members). owed_hand q xs + owed_members q x ≤ (owed_parked q p.1.parked + owed_hand q ps) + owed_parked q m.parked) (nat_eq p.0 k) ((k, m) ∷ ps) (p ∷ update k m ps) (Some p.1) (find k ps) (omega arith) (omega (arith, h))

  -- members of a home

  members_engaged : (h : Home) (e : Env) → EngagedEnv source news e → EngagedMembers source news h (members_at h e)
  members_engaged (home.Task t) e s = by (nat_eq t e.own) refl
    where
      by : (b : Bool) → nat_eq t e.own ≡ b → EngagedMembers source news (home.Task t) (if b then Some e.house else None)
      by true q = subst (λ o. EngagedParked source (news (home.Task o)) e.house.parked) (sym (eqb-true t e.own q)) s.house
      by false q = tt
  members_engaged (home.Object o) e s = found_hand o e.hand s.hand

  pub parked_engaged : (n : Exec) (e : Env) → EngagedEnv source news e → EngagedSlot source (news n.home) (parked_at n e)
  parked_engaged n e s = slot_engaged n.home n.serial (members_at n.home e) (members_engaged n.home e s)

  housed : (m : Members) (e : Env) → EngagedParked source (news (home.Task e.own)) m.parked → EngagedEnv source news e → EngagedEnv source news (record e { house = m })
  housed m e h s = record { house = h; hand = s.hand }

  set_engaged : (h : Home) (m : Members) (e : Env) → EngagedParked source (news h) m.parked → EngagedEnv source news e → EngagedEnv source news (set_members h m e)
  set_engaged (home.Task t) m e r s = by (nat_eq t e.own) refl
    where
      by : (b : Bool) → nat_eq t e.own ≡ b → EngagedEnv source news (if b then record e { house = m } else e)
      by true q = housed m e (subst (λ o. EngagedParked source (news (home.Task o)) m.parked) (eqb-true t e.own q) r) s
      by false q = s
  set_engaged (home.Object o) m e r s = record { house = s.house; hand = update_hand o m e.hand r s.hand }

  set_owed : (q : ℕ) (h : Home) (m : Members) (e : Env) → owed_env q (set_members h m e) + owed_members q (members_at h e) ≤ owed_env q e + owed_parked q m.parked
  set_owed q (home.Task t) m e =
      both (λ (f : Env) (x : Option Members). owed_env q f + owed_members q x ≤ owed_env q e + owed_parked q m.parked) (nat_eq t e.own) (record e { house = m }) e (Some e.house) None (omega arith) (omega arith)
  set_owed q (home.Object o) m e = let h = update_hand_owed q o m e.hand in omega (arith, h)

  -- nothing else of a task changes where members do
  pub record Beside (e f : Env) : Type 0 where
    pub depths : f.depths ≡ e.depths
    pub links : f.links ≡ e.links
    pub exec : f.exec ≡ e.exec

  beside : (e : Env) → Beside e e
  beside e = record { depths = refl; links = refl; exec = refl }

  set_beside : (h : Home) (m : Members) (e : Env) → Beside e (set_members h m e)
  set_beside (home.Task t) m e = either (Beside e) (nat_eq t e.own) (record e { house = m }) e (record { depths = refl; links = refl; exec = refl }) (beside e)
  set_beside (home.Object o) m e = record { depths = refl; links = refl; exec = refl }

  change_beside : (h : Home) (g : Members → Members) (o : Option Members) (e : Env) → Beside e (change_in h g o e)
  change_beside h g None e = beside e
  change_beside h g (Some m) e = set_beside h (g m) e

  -- changes after which as much is engaged, and no more is owed

  pub record Lighter (e f : Env) : Type 0 where
    pub env : EngagedEnv source news f
    pub owed : (q : ℕ) → owed_env q f ≤ owed_env q e
    pub depths : f.depths ≡ e.depths
    pub entries : entries e.links ≤ entries f.links
    pub exec : f.exec ≡ e.exec

  pub same : (e f : Env) → EngagedEnv source news e → f.own ≡ e.own → f.hand ≡ e.hand → f.house ≡ e.house → f.depths ≡ e.depths → entries e.links ≤ entries f.links → f.exec ≡ e.exec → Lighter e f
  same e f s o h g d l x =
      record {
        env = record {
          house = subst (λ t. EngagedParked source (news (home.Task t)) f.house.parked) (sym o) (subst (λ m. EngagedParked source (news (home.Task e.own)) m.parked) (sym g) s.house);
          hand = subst (EngagedHand source news) (sym h) s.hand;
        };
        owed = λ q. let a = ap (λ (m : Members). owed_parked q m.parked) g in let b = ap (owed_hand q) h in let c = ap (owed_own q) o in omega (arith, a, b, c);
        depths = d;
        entries = l;
        exec = x;
      }

  record Spared (h : Home) (f : Members → Members) : Type 0 where
    parked : (m : Members) → EngagedParked source (news h) m.parked → EngagedParked source (news h) (f m).parked
    owed : (m : Members) (q : ℕ) → owed_parked q (f m).parked ≤ owed_parked q m.parked

  change_by : (h : Home) (f : Members → Members) (o : Option Members) (e : Env) → members_at h e ≡ o → Spared h f → EngagedMembers source news h o → EngagedEnv source news e → Lighter e (change_in h f o e)
  change_by h f None e r k m s = record { env = s; owed = λ q. omega arith; depths = refl; entries = omega arith; exec = refl }
  change_by h f (Some x) e r k m s =
      let b = set_beside h (f x) e in
      record {
        env = set_engaged h (f x) e (k.parked x m) s;
        owed = λ q.
            let a = set_owed q h (f x) e in
            let c = k.owed x q in
            let d : owed_members q (members_at h e) ≡ owed_parked q x.parked = ap (owed_members q) r in
            omega (arith, a, c, d);
        depths = b.depths;
        entries = let l = ap entries b.links in omega (arith, l);
        exec = b.exec;
      }

  change_lighter : (h : Home) (f : Members → Members) (e : Env) → Spared h f → EngagedEnv source news e → Lighter e (change h f e)
  change_lighter h f e k s = change_by h f (members_at h e) e refl k (members_engaged h e s) s

  -- an execution in another's place, which owes as much
  swapped : (k : ℕ) (x y : Ex) (m : Members) → joined (find k m.parked) ≡ Some x → ((q : ℕ) → owed_ex q y ≤ owed_ex q x) → (q : ℕ) → owed_parked q (update k (Some y) m.parked) ≤ owed_parked q m.parked
  swapped k x y m e w q =
      let a = update_owed q k (Some y) m.parked in
      let b = w q in
      let c : owed_slot q (joined (find k m.parked)) ≡ owed_ex q x = ap (owed_slot q) e in
      omega (arith, a, b, c)

  frames_owed : (n : ℕ) (f : List (List Value) → List (List Value)) (o : Option Ex) (m : Members) → joined (find n m.parked) ≡ o → (q : ℕ) → owed_parked q (frames_by n f o m).parked ≤ owed_parked q m.parked
  frames_owed n f None m e q = omega arith
  frames_owed n f (Some x) m e q = swapped n x (record x { frames = f x.frames }) m e (λ q. omega arith) q

  frames_spared : (h : Home) (n : ℕ) (f : List (List Value) → List (List Value)) → Spared h (frames_changed n f)
  frames_spared h n f = record {
    parked = λ m r. frames_parked source (news h) n f (joined (find n m.parked)) m (found_parked source (news h) n m.parked r) r;
    owed = λ m q. frames_owed n f (joined (find n m.parked)) m refl q;
  }

  with_frames_lighter : (n : Exec) (f : List (List Value) → List (List Value)) (e : Env) → EngagedEnv source news e → Lighter e (with_frames n f e)
  with_frames_lighter n f e s =
      either (Lighter e) (exec_eq n e.exec) (record e { frames = f e.frames }) (change n.home (frames_changed n.serial f) e) (same e (record e { frames = f e.frames }) s refl refl refl refl (omega arith) refl) (change_lighter n.home (frames_changed n.serial f) e (frames_spared n.home n.serial f) s)

  values_spared : (h : Home) (f : List Value → List Value) → Spared h (λ m. record m { values = f m.values })
  values_spared h f = record { parked = λ m h. h; owed = λ m q. omega arith }

  pub owned_lighter : (o : Owner) (f : List Value → List Value) (e : Env) → EngagedEnv source news e → Lighter e (with_owned o f e)
  owned_lighter (Frame n d) f e s = with_frames_lighter n (frame_changed d f) e s
  owned_lighter (Fields o) f e s = change_lighter (home.Object o) (λ m. record m { values = f m.values }) e (values_spared (home.Object o) f) s

  pub written_lighter : (v w : Value) (e : Env) → EngagedEnv source news e → Lighter e (written v w e)
  written_lighter (Number n) w e s = same e e s refl refl refl refl (omega arith) refl
  written_lighter (Place o p) w e s = owned_lighter o _ e s
  written_lighter (Running x) w e s = same e e s refl refl refl refl (omega arith) refl
  written_lighter (Object o) w e s = owned_lighter (Fields o) _ e s
  written_lighter Nothing w e s = same e e s refl refl refl refl (omega arith) refl

  -- one after another
  pub after : {e f g : Env} → Lighter e f → Lighter f g → Lighter e g
  after {e} {f} {g} a b = record {
    env = b.env;
    owed = λ q. let x = a.owed q in let y = b.owed q in omega (arith, x, y);
    depths = let x = a.depths in let y = b.depths in subst (λ ds. g.depths ≡ ds) x y;
    entries = let x = a.entries in let y = b.entries in omega (arith, x, y);
    exec = let x = a.exec in let y = b.exec in subst (λ n. g.exec ≡ n) x y;
  }

  -- executions are made and go, and their links change

  born_spared : (h : Home) (x : Ex) → Engaged source (news h) x → ((q : ℕ) → owed_ex q x ≡ 0) → Spared h (sw.one_more x)
  born_spared h x r w = record {
    parked = λ m k. more_parked source (news h) m.serial x m.parked r k;
    owed = λ m q. let a = more_owed q m.serial x m.parked in let b = w q in omega (arith, a, b);
  }

  pub born_lighter : (h : Home) (x : Ex) (e : Env) → Engaged source (news h) x → ((q : ℕ) → owed_ex q x ≡ 0) → EngagedEnv source news e → Lighter e (sw.born h x e)
  born_lighter h x e r w s = change_lighter h (sw.one_more x) e (born_spared h x r w) s

  gone_spared : (h : Home) (k : ℕ) → Spared h (sw.slot_gone k)
  gone_spared h k = record {
    parked = λ m r. without_parked source (news h) k m.parked r;
    owed = λ m q. without_owed q k m.parked;
  }

  pub forgotten_lighter : (o : Option Exec) (e : Env) → EngagedEnv source news e → Lighter e (sw.forgotten o e)
  forgotten_lighter None e s = same e e s refl refl refl refl (omega arith) refl
  forgotten_lighter (Some n) e s = change_lighter n.home (sw.slot_gone n.serial) e (gone_spared n.home n.serial) s

  links_owed : (g : Links → Links) → Spares g → (n : ℕ) (o : Option Ex) (m : Members) → joined (find n m.parked) ≡ o → (q : ℕ) → owed_parked q (sw.links_by g n o m).parked ≤ owed_parked q m.parked
  links_owed g k n None m e q = omega arith
  links_owed g k n (Some x) m e q = swapped n x (record x { links = g x.links }) m e (λ q. owed_less (g x.links).stage x.links.stage (owed_all q x) (k.stage x.links)) q

  links_spared : (h : Home) (g : Links → Links) → Spares g → (n : ℕ) → Spared h (sw.links_changed g n)
  links_spared h g k n = record {
    parked = λ m r. links_parked source (news h) g k n (joined (find n m.parked)) m (found_parked source (news h) n m.parked r) r;
    owed = λ m q. links_owed g k n (joined (find n m.parked)) m refl q;
  }

  pub with_links_lighter : (g : Links → Links) → Spares g → (n : Exec) (e : Env) → EngagedEnv source news e → Lighter e (sw.with_links g n e)
  with_links_lighter g k n e s =
      either (Lighter e) (exec_eq n e.exec) (record e { links = g e.links }) (change n.home (sw.links_changed g n.serial) e) (same e (record e { links = g e.links }) s refl refl refl refl (k.counts e.links) refl) (change_lighter n.home (sw.links_changed g n.serial) e (links_spared n.home g k n.serial) s)

  pub enlivened_lighter : (o : Option Exec) (e : Env) → EngagedEnv source news e → Lighter e (sw.enlivened o e)
  enlivened_lighter None e s = same e e s refl refl refl refl (omega arith) refl
  enlivened_lighter (Some n) e s = with_links_lighter (λ l. record l { live = true }) (record { counts = λ l. omega arith; stage = λ l. inl refl }) n e s

  -- slots

  slot_by : (n : Exec) (x : Option Ex) (o : Option Members) (e : Env) → EngagedSlot source (news n.home) x → EngagedMembers source news n.home o → EngagedEnv source news e → EngagedEnv source news (change_in n.home (sw.slot_set n.serial x) o e)
  slot_by n x None e r m s = s
  slot_by n x (Some y) e r m s = set_engaged n.home (sw.slot_set n.serial x y) e (update_parked source (news n.home) n.serial x y.parked r m) s

  set_slot_engaged : (n : Exec) (x : Option Ex) (e : Env) → EngagedSlot source (news n.home) x → EngagedEnv source news e → EngagedEnv source news (sw.set_slot n x e)
  set_slot_engaged n x e r s = slot_by n x (members_at n.home e) e r (members_engaged n.home e s) s

  slot_owed_by : (q : ℕ) (n : Exec) (x : Option Ex) (o : Option Members) (e : Env) → members_at n.home e ≡ o → owed_env q (change_in n.home (sw.slot_set n.serial x) o e) + owed_slot q (joined (slot_in n.serial o)) ≤ owed_env q e + owed_slot q x
  slot_owed_by q n x None e r = omega arith
  slot_owed_by q n x (Some m) e r =
      let a = set_owed q n.home (sw.slot_set n.serial x m) e in
      let b = update_owed q n.serial x m.parked in
      let d : owed_members q (members_at n.home e) ≡ owed_parked q m.parked = ap (owed_members q) r in
      omega (arith, a, b, d)

  set_slot_owed : (q : ℕ) (n : Exec) (x : Option Ex) (e : Env) → owed_env q (sw.set_slot n x e) + owed_slot q (parked_at n e) ≤ owed_env q e + owed_slot q x
  set_slot_owed q n x e = slot_owed_by q n x (members_at n.home e) e refl

  set_slot_beside : (n : Exec) (x : Option Ex) (e : Env) → Beside e (sw.set_slot n x e)
  set_slot_beside n x e = change_beside n.home (sw.slot_set n.serial x) (members_at n.home e) e

  -- switches

  abbrev pub DeepMoved : Moved (List Todo) Value → Type 0
  DeepMoved (To s) = Deep source news s
  DeepMoved (Stops f) = Unit {0}

  -- who may be activated: one that does not run, or that one somewhat changed
  pub record Waiting (e : Env) (n : Exec) (x : Ex) : Type 0 where
    pub engaged : Engaged source (news n.home) x
    pub was : Ex
    pub parked : parked_at n e ≡ Some was
    pub owes : (q : ℕ) → owed_all q x ≤ owed_ex q was

  abbrev pub WaitingNext : Env → Option (Exec × Ex) → Type 0
  WaitingNext e None = Unit {0}
  WaitingNext e (Some p) = Waiting e p.0 p.1

  pub switched_deep : (n : Exec) (x : Ex) (s : State) → Waiting s.env n x → DeepAlone source news s → Deep source news (sw.switched n x s)
  switched_deep n x s r h =
      let free : Env = sw.set_slot n None s.env in
      let stopped : Ex = sw.stopped s in
      let is : Engaged source (news s.env.exec.home) stopped = record { run = h.alone; one = h.deep.one; callers = h.deep.callers; engaged = let a = h.deep.engaged in omega (arith, a) } in
      record {
        first = Any;
        run = r.engaged.run;
        new = none_told source (is_told (news n.home) x.run.this x.callers) (news n.home) x.run.this x.callers x.run.control x.run.operands r.engaged.run;
        one = r.engaged.one;
        callers = r.engaged.callers;
        env =
            let f = set_slot_engaged s.env.exec (Some stopped) free (by_stage source (news s.env.exec.home) s.env.links.stage stopped is) (set_slot_engaged n None s.env tt h.deep.env) in
            record { house = f.house; hand = f.hand };
        engaged = let a = r.engaged.engaged in let b = none_marked source (is_told (news n.home) x.run.this x.callers) x.run.control r.engaged.run in omega (arith, a, b);
        depths = λ q.
            let a = set_slot_owed q n None s.env in
            let b = set_slot_owed q s.env.exec (Some stopped) free in
            let c : owed_slot q (parked_at n s.env) ≡ owed_ex q r.was = ap (owed_slot q) r.parked in
            let d = h.deep.depths q in
            let f = none_first source (is_told (news n.home) x.run.this x.callers) q x.run.control x.run.operands r.engaged.run in
            let w = r.owes q in
            let e1 = set_slot_beside n None s.env in
            let e2 = set_slot_beside s.env.exec (Some stopped) free in
            let g = subst (λ ds. owed source q s ≤ depth_in (find q ds)) (sym e1.depths) d in
            let i = subst (λ ds. owed source q s ≤ depth_in (find q ds)) (sym e2.depths) g in
            let least = owed_most s.env.links.stage (owed_all q stopped) in
            omega (arith, a, b, c, w, i, f, least);
      }

  -- one that has not ended
  waits_there : (n : Exec) (x : Ex) (e : Env) → parked_at n e ≡ Some x → (g : Stage) → x.links.stage ≡ g → (EngagedBy source (news n.home) g x → Engaged source (news n.home) x) → ((k : ℕ) → owed_at g k ≡ k) → EngagedSlot source (news n.home) (Some x) → Waiting e n x
  waits_there n x e p g i f k r = record {
    engaged = f (subst (λ g. EngagedBy source (news n.home) g x) i r);
    was = x;
    parked = p;
    owes = λ q. let a : owed_ex q x ≡ owed_at g (owed_all q x) = ap (λ g. owed_at g (owed_all q x)) i in let b = k (owed_all q x) in omega (arith, a, b);
  }

  parked_slot : (n : Exec) (o : Option Ex) (e : Env) → parked_at n e ≡ o → EngagedSlot source (news n.home) o → WaitingNext e (sw.able_by n o)
  parked_slot n None e p r = tt
  parked_slot n (Some x) e p r = stage x.links.stage refl
    where
      stage : (g : Stage) → x.links.stage ≡ g → WaitingNext e (sw.able_at g n x)
      stage Fresh i = tt
      stage Started i = waits_there n x e p Started i (λ k. k) (λ n. refl) r
      stage Ended i = tt

  pub able_waiting : (o : Option Exec) (e : Env) → EngagedEnv source news e → WaitingNext e (sw.able o e)
  able_waiting None e s = tt
  able_waiting (Some n) e s = parked_slot n (parked_at n e) e refl (parked_engaged n e s)

  pub or_waiting : (e : Env) (a b : Option (Exec × Ex)) → WaitingNext e a → WaitingNext e b → WaitingNext e (sw.or_else a b)
  or_waiting e None b h k = k
  or_waiting e (Some p) b h k = h

  pub go_on_deep : (o : Option (Exec × Ex)) (s : State) → WaitingNext s.env o → DeepAlone source news s → DeepMoved (sw.go_on o s)
  go_on_deep None s r h = tt
  go_on_deep (Some p) s r h = switched_deep p.0 p.1 s r h

  kept_links : (e : Env) (l : Links) (o : Option (Exec × Ex)) → WaitingNext e o → WaitingNext (record e { links = l }) o
  kept_links e l None w = tt
  kept_links e l (Some p) w = record { engaged = w.engaged; was = w.was; parked = subst (λ o. o ≡ Some w.was) (sym (at p.0.home)) w.parked; owes = w.owes }
    where
      home_at : (h : Home) → members_at h (record e { links = l }) ≡ members_at h e
      home_at (home.Task t) = refl
      home_at (home.Object o) = refl

      at : (h : Home) → joined (slot_in p.0.serial (members_at h (record e { links = l }))) ≡ joined (slot_in p.0.serial (members_at h e))
      at h = ap (λ (m : Option Members). joined (slot_in p.0.serial m)) (home_at h)

  -- other links of one that waits, and a reason to unwind it
  relinked : (e : Env) (n : Exec) (x : Ex) (l : Links) → entries x.links ≤ entries l → Waiting e n x → Waiting e n (record x { links = l })
  relinked e n x l k w = record {
    engaged = record { run = w.engaged.run; one = w.engaged.one; callers = w.engaged.callers; engaged = let a = w.engaged.engaged in omega (arith, a, k) };
    was = w.was;
    parked = w.parked;
    owes = w.owes;
  }

  reasoned : (e : Env) (n : Exec) (x : Ex) (why : UnwindReason) → Waiting e n x → Waiting e n (sw.unwound_there why x)
  reasoned e n x why w = record {
    engaged = record { run = w.engaged.run; one = w.engaged.one; callers = w.engaged.callers; engaged = w.engaged.engaged };
    was = w.was;
    parked = w.parked;
    owes = w.owes;
  }

  wake_slot : (n : Exec) (o : Option Ex) (s : State) → parked_at n s.env ≡ o → EngagedSlot source (news n.home) o → DeepAlone source news s → DeepMoved (sw.wake_by n o s)
  wake_slot n None s p r h = tt
  wake_slot n (Some x) s p r h = stage x.links.stage refl
    where
      stage : (g : Stage) → x.links.stage ≡ g → DeepMoved (sw.wake_at g n x s)
      stage Fresh i = switched_deep n _ s (relinked s.env n x (sw.woken s.env.exec x.links) (omega arith) (waits_there n x s.env p Fresh i (λ k. k) (λ n. refl) r)) h
      stage Started i = switched_deep n _ s (relinked s.env n x (sw.woken s.env.exec x.links) (omega arith) (waits_there n x s.env p Started i (λ k. k) (λ n. refl) r)) h
      stage Ended i = tt

  wake_one_deep : (o : Option Exec) (s : State) → DeepAlone source news s → DeepMoved (sw.wake_one o s)
  wake_one_deep None s h = tt
  wake_one_deep (Some n) s h = either DeepMoved (exec_eq n s.env.exec) (Stops ResumeInUse) (sw.wake_by n (parked_at n s.env) s) tt (wake_slot n (parked_at n s.env) s refl (parked_engaged n s.env h.deep.env) h)

  pub wake_deep : (o : Option Exec) (s : State) → DeepAlone source news s → DeepMoved (sw.wake o s)
  wake_deep o s h = either DeepMoved (sw.in_destruction s.env) (Stops SwitchInUnwind) (sw.wake_one o s) tt (wake_one_deep o s h)

  pub suspend_deep : (s : State) → DeepAlone source news s → DeepMoved (sw.suspend s)
  suspend_deep s h = either DeepMoved (sw.in_destruction s.env) (Stops SwitchInUnwind) (sw.go_on (sw.able s.env.links.resumer s.env) s) tt (go_on_deep (sw.able s.env.links.resumer s.env) s (able_waiting s.env.links.resumer s.env h.deep.env) h)

  -- other links of the one that runs
  linked : (s : State) (l : Links) → entries s.env.links ≤ entries l → Deep source news s → Deep source news (record s { env = record s.env { links = l } })
  linked s l k h = record {
    first = h.first;
    run = h.run;
    new = h.new;
    one = h.one;
    callers = h.callers;
    env = record { house = h.env.house; hand = h.env.hand };
    engaged = let a = h.engaged in omega (arith, a, k);
    depths = h.depths;
  }

  ended_deep : (s : State) → DeepAlone source news s → DeepAlone source news (sw.ended s)
  ended_deep s h = record { alone = h.alone; deep = linked s (record s.env.links { stage = Ended; destroyer = None }) (omega arith) h.deep }

  ended_waiting : (s : State) (o : Option (Exec × Ex)) → WaitingNext s.env o → WaitingNext (sw.ended s).env o
  ended_waiting s o w = kept_links s.env (record s.env.links { stage = Ended; destroyer = None }) o w

  pub finish_deep : (s : State) → DeepAlone source news s → DeepMoved (sw.finish s)
  finish_deep s h =
      let o : Option (Exec × Ex) = sw.or_else (sw.able s.env.links.starter s.env) (sw.able s.env.links.resumer s.env) in
      go_on_deep o (sw.ended s) (ended_waiting s o (or_waiting s.env (sw.able s.env.links.starter s.env) (sw.able s.env.links.resumer s.env) (able_waiting s.env.links.starter s.env h.deep.env) (able_waiting s.env.links.resumer s.env h.deep.env))) (ended_deep s h)

  throw_deep : (o : Option (Exec × Ex)) (s : State) → WaitingNext s.env o → DeepAlone source news s → DeepMoved (sw.throw_at o s)
  throw_deep None s r h = tt
  throw_deep (Some p) s r h = switched_deep p.0 _ s (reasoned s.env p.0 p.1 _ r) h

  pub escape_deep : (s : State) → DeepAlone source news s → DeepMoved (sw.escape s)
  escape_deep s h =
      let o : Option (Exec × Ex) = sw.able s.env.links.resumer s.env in
      throw_deep o (sw.ended s) (ended_waiting s o (able_waiting s.env.links.resumer s.env h.deep.env)) (ended_deep s h)

  pub taken_down_deep : (s : State) → DeepAlone source news s → DeepMoved (sw.taken_down s)
  taken_down_deep s h =
      let o : Option (Exec × Ex) = sw.able s.env.links.destroyer s.env in
      go_on_deep o (sw.ended s) (ended_waiting s o (able_waiting s.env.links.destroyer s.env h.deep.env)) (ended_deep s h)

  -- the same task with what is lighter
  pub eased : (s : State) (e : Env) → Lighter s.env e → Deep source news s → Deep source news (record s { env = e })
  eased s e l h = record {
    first = h.first;
    run = subst (λ n. Entered source (is_told (news n.home) s.run.this s.callers) h.first s.run.control) (sym l.exec) h.run;
    new = subst (λ n. IsToldFirst source (news n.home) s.run.this s.callers s.run.control s.run.operands) (sym l.exec) h.new;
    one = h.one;
    callers = subst (λ n. AllEntered source (news n.home) s.callers) (sym l.exec) h.callers;
    env = l.env;
    engaged = let a = h.engaged in let b = l.entries in omega (arith, a, b);
    depths = λ q.
        let a = h.depths q in
        let b = l.owed q in
        let c = subst (λ ds. owed source q s ≤ depth_in (find q ds)) (sym l.depths) a in
        omega (arith, b, c);
  }

  over_deep : (n : Exec) (s : State) → Deep source news s → Deep source news (sw.over n s)
  over_deep n s h = eased s _ (with_links_lighter (λ l. record l { live = false; stage = Ended }) (record { counts = λ l. omega arith; stage = λ l. inr refl }) n s.env h.env) h

  take_down_slot : (n : Exec) (o : Option Ex) (s : State) → parked_at n s.env ≡ o → EngagedSlot source (news n.home) o → DeepAlone source news s → DeepMoved (sw.take_down_by n o s)
  take_down_slot n None s p r h = h.deep
  take_down_slot n (Some x) s p r h = stage x.links.stage refl
    where
      stage : (g : Stage) → x.links.stage ≡ g → DeepMoved (sw.take_down_at g n x s)
      stage Fresh i = over_deep n s h.deep
      stage Started i =
          switched_deep n _ s (reasoned s.env n _ _ (relinked s.env n x (record x.links { live = false; destroyer = Some s.env.exec }) (omega arith) (waits_there n x s.env p Started i (λ k. k) (λ n. refl) r))) h
      stage Ended i = over_deep n s h.deep

  pub take_down_deep : (o : Option Exec) (s : State) → DeepAlone source news s → DeepMoved (sw.take_down o s)
  take_down_deep None s h = h.deep
  take_down_deep (Some n) s h = take_down_slot n (parked_at n s.env) s refl (parked_engaged n s.env h.deep.env) h
