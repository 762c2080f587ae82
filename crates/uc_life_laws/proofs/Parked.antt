-- What holds of each execution that does not run, by its name, goes on to hold where members and executions change.
use Rattle.std.proofs.Common.{◌≡◌, ℕ, List, [], ◌∷◌, ◌++◌, Option, Some, None, refl, sym, subst}
use Rattle.std.specs.Prelude.{nat_eq}
use Rattle.std.proofs.lemmas.Bool.{eqb-true}
use Rattle.uc_entry.specs.Keyed.{find}
use Rattle.uc_machine.specs.declared.exec.Exec.{Exec}
use Rattle.uc_machine.specs.declared.exec.Home.{Home}
use Rattle.uc_machine.specs.declared.exec.Home.TheVariants as home
use Rattle.uc_machine.specs.Executions.{Execution, update, joined, members_at, set_members, change, change_in, slot_in, parked_at}
use Rattle.uc_machine.specs.Switches as sw
use Rattle.uc_machine.specs.Pieces.{Value, Todo, Env, Members}
use Rattle.uc_life_laws.specs.LifeStates.{SlotBy, ParkedBy, HandBy, MembersBy, EnvBy}
use Rattle.uc_life_laws.proofs.Cells.{either, tested}

abbrev pub Ex : Type 0
Ex = Execution (List Todo) Value

-- a name at a home
abbrev pub at_home : Home → ℕ → Exec
at_home h k = record { home = h; serial = k }

-- who runs and its frames stay

set_members_exec : (h : Home) (m : Members) (e : Env) → (set_members h m e).exec ≡ e.exec
set_members_exec (home.Task t) m e = either (λ (d : Env). d.exec ≡ e.exec) (nat_eq t e.own) (record e { house = m }) e refl refl
set_members_exec (home.Object o) m e = refl

set_members_frames : (h : Home) (m : Members) (e : Env) → (set_members h m e).frames ≡ e.frames
set_members_frames (home.Task t) m e = either (λ (d : Env). d.frames ≡ e.frames) (nat_eq t e.own) (record e { house = m }) e refl refl
set_members_frames (home.Object o) m e = refl

change_in_exec : (h : Home) (f : Members → Members) (o : Option Members) (e : Env) → (change_in h f o e).exec ≡ e.exec
change_in_exec h f None e = refl
change_in_exec h f (Some x) e = set_members_exec h (f x) e

change_in_frames : (h : Home) (f : Members → Members) (o : Option Members) (e : Env) → (change_in h f o e).frames ≡ e.frames
change_in_frames h f None e = refl
change_in_frames h f (Some x) e = set_members_frames h (f x) e

pub change_exec : (h : Home) (f : Members → Members) (e : Env) → (change h f e).exec ≡ e.exec
change_exec h f e = change_in_exec h f (members_at h e) e

pub change_frames : (h : Home) (f : Members → Members) (e : Env) → (change h f e).frames ≡ e.frames
change_frames h f e = change_in_frames h f (members_at h e) e

module _ (P : Exec → Ex → Type 0) where
  -- the same, of what has the same hand, house and own object
  pub like : {e f : Env} → EnvBy P e → f.hand ≡ e.hand → f.house ≡ e.house → f.own ≡ e.own → EnvBy P f
  like {e} {f} s h g o = record {
    house = subst (λ k. ParkedBy P (home.Task k) f.house.parked) (sym o) (subst (λ m. ParkedBy P (home.Task e.own) m.parked) (sym g) s.house);
    hand = subst (HandBy P) (sym h) s.hand;
  }

  -- members of a home

  pub found_parked : (h : Home) (k : ℕ) (ps : List (ℕ × Option Ex)) → ParkedBy P h ps → SlotBy P (at_home h k) (joined (find k ps))
  found_parked h k [] s = tt
  found_parked h k (p ∷ ps) s =
      tested (λ o. SlotBy P (at_home h k) (joined o)) (nat_eq p.0 k) (Some p.1) (find k ps) (λ e. subst (λ j. SlotBy P (at_home h j) p.1) (eqb-true p.0 k e) s.0) (λ e. found_parked h k ps s.1)

  pub found_hand : (k : ℕ) (ps : List (ℕ × Members)) → HandBy P ps → MembersBy P (home.Object k) (find k ps)
  found_hand k [] s = tt
  found_hand k (p ∷ ps) s =
      tested (MembersBy P (home.Object k)) (nat_eq p.0 k) (Some p.1) (find k ps) (λ e. subst (λ j. ParkedBy P (home.Object j) p.1.parked) (eqb-true p.0 k e) s.0) (λ e. found_hand k ps s.1)

  slot_in_rests : (h : Home) (k : ℕ) (o : Option Members) → MembersBy P h o → SlotBy P (at_home h k) (joined (slot_in k o))
  slot_in_rests h k None s = tt
  slot_in_rests h k (Some m) s = found_parked h k m.parked s

  pub update_parked : (h : Home) (k : ℕ) (o : Option Ex) (ps : List (ℕ × Option Ex)) → SlotBy P (at_home h k) o → ParkedBy P h ps → ParkedBy P h (update k o ps)
  update_parked h k o [] r s = tt
  update_parked h k o (p ∷ ps) r s = either (ParkedBy P h) (nat_eq p.0 k) ((k, o) ∷ ps) (p ∷ update k o ps) (r, s.1) (s.0, update_parked h k o ps r s.1)

  pub without_parked : (h : Home) (k : ℕ) (ps : List (ℕ × Option Ex)) → ParkedBy P h ps → ParkedBy P h (sw.without k ps)
  without_parked h k [] s = tt
  without_parked h k (p ∷ ps) s = either (ParkedBy P h) (nat_eq p.0 k) ps (p ∷ sw.without k ps) s.1 (s.0, without_parked h k ps s.1)

  pub more_parked : (h : Home) (k : ℕ) (x : Ex) (ps : List (ℕ × Option Ex)) → P (at_home h k) x → ParkedBy P h ps → ParkedBy P h (ps ++ (k, Some x) ∷ [])
  more_parked h k x [] r s = (r, tt)
  more_parked h k x (p ∷ ps) r s = (s.0, more_parked h k x ps r s.1)

  update_hand : (k : ℕ) (m : Members) (ps : List (ℕ × Members)) → ParkedBy P (home.Object k) m.parked → HandBy P ps → HandBy P (update k m ps)
  update_hand k m [] r s = tt
  update_hand k m (p ∷ ps) r s = either (HandBy P) (nat_eq p.0 k) ((k, m) ∷ ps) (p ∷ update k m ps) (r, s.1) (s.0, update_hand k m ps r s.1)

  pub more_hand : (hand : List (ℕ × Members)) (o : ℕ) (m : Members) → ParkedBy P (home.Object o) m.parked → HandBy P hand → HandBy P (hand ++ (o, m) ∷ [])
  more_hand [] o m h k = (h, tt)
  more_hand (p ∷ hand) o m h k = (k.0, more_hand hand o m h k.1)

  pub members_rests : (h : Home) (e : Env) → EnvBy P e → MembersBy P h (members_at h e)
  members_rests (home.Task t) e s =
      tested (MembersBy P (home.Task t)) (nat_eq t e.own) (Some e.house) None (λ q. subst (λ j. ParkedBy P (home.Task j) e.house.parked) (sym (eqb-true t e.own q)) s.house) (λ q. tt)
  members_rests (home.Object o) e s = found_hand o e.hand s.hand

  pub parked_rests : (n : Exec) (e : Env) → EnvBy P e → SlotBy P n (parked_at n e)
  parked_rests n e s = slot_in_rests n.home n.serial (members_at n.home e) (members_rests n.home e s)

  -- changes of what is at home somewhere

  abbrev pub KeepsParked : Home → (Members → Members) → Type 0
  KeepsParked h f = (m : Members) → ParkedBy P h m.parked → ParkedBy P h (f m).parked

  pub set_rests : (h : Home) (m : Members) (e : Env) → ParkedBy P h m.parked → EnvBy P e → EnvBy P (set_members h m e)
  set_rests (home.Task t) m e r s =
      tested (EnvBy P) (nat_eq t e.own) (record e { house = m }) e (λ q. record { house = subst (λ j. ParkedBy P (home.Task j) m.parked) (eqb-true t e.own q) r; hand = s.hand }) (λ q. s)
  set_rests (home.Object o) m e r s = record { house = s.house; hand = update_hand o m e.hand r s.hand }

  change_by : (h : Home) (f : Members → Members) (o : Option Members) (e : Env) → KeepsParked h f → MembersBy P h o → EnvBy P e → EnvBy P (change_in h f o e)
  change_by h f None e k m s = s
  change_by h f (Some x) e k m s = set_rests h (f x) e (k x m) s

  pub change_rests : (h : Home) (f : Members → Members) (e : Env) → KeepsParked h f → EnvBy P e → EnvBy P (change h f e)
  change_rests h f e k s = change_by h f (members_at h e) e k (members_rests h e s) s

  pub slot_rests : (n : Exec) (o : Option Ex) (e : Env) → SlotBy P n o → EnvBy P e → EnvBy P (sw.set_slot n o e)
  slot_rests n o e r s = change_rests n.home (sw.slot_set n.serial o) e (λ m h. update_parked n.home n.serial o m.parked r h) s

-- all executions that do not run
module _ (P : Exec → Ex → Type 0) (each : (n : Exec) (x : Ex) → P n x) where
  each_slot : (n : Exec) (o : Option Ex) → SlotBy P n o
  each_slot n None = tt
  each_slot n (Some x) = each n x

  each_parked : (h : Home) (ps : List (ℕ × Option Ex)) → ParkedBy P h ps
  each_parked h [] = tt
  each_parked h (x ∷ ps) = (each_slot (record { home = h; serial = x.0 }) x.1, each_parked h ps)

  each_hand : (ps : List (ℕ × Members)) → HandBy P ps
  each_hand [] = tt
  each_hand (x ∷ ps) = (each_parked (home.Object x.0) x.1.parked, each_hand ps)

  pub each_members : (h : Home) (m : Option Members) → MembersBy P h m
  each_members h None = tt
  each_members h (Some m) = each_parked h m.parked

  pub each_env : (e : Env) → EnvBy P e
  each_env e = record { house = each_parked (home.Task e.own) e.house.parked; hand = each_hand e.hand }
