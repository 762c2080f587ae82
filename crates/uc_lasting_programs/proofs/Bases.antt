-- What executions have of others as a run tells it stands around nothing that goes while they live, but for their seats.
use Rattle.std.proofs.Common.{◌≡◌, ℕ, zero, suc, ◌+◌, ◌≤◌, ◌<◌, ◌⊎◌, inl, inr, ⊎_elim, ◌==◌, ◌&&◌, ◌||◌, Bool, true, false, List, [], ◌∷◌, Option, Some, None, refl, sym, ap, ◌∙◌, subst, arith}
use Rattle.std.specs.Prelude.{nat_eq, nat_lt, not, if◌then◌else◌}
use Rattle.std.proofs.lemmas.Bool.{eqb-true, eq-eqb, ne_eqb, cases_lt, lt-ltb}
use Rattle.uc_tree.specs.Programs.{Program}
use Rattle.uc_tree.specs.Source.{Source, routine_of}
use Rattle.uc_entry.specs.declared.entry.Options.{Options}
use Rattle.uc_entry.specs.declared.request.Asked.{Asked}
use Rattle.uc_acts.specs.Journal.{Journal, is_over}
use Rattle.uc_acts.specs.Known.{has, has_ended, is_gone, object_count, owner, task_count}
use Rattle.uc_acts.specs.KernelRuns.{InRange}
use Rattle.uc_acts.specs.Serves.{left}
use Rattle.uc_machine.specs.declared.exec.Exec.{Exec}
use Rattle.uc_machine.specs.declared.exec.Home.{Home}
use Rattle.uc_machine.specs.declared.exec.Home.TheVariants as home
use Rattle.uc_machine.specs.declared.exec.Owner.{Owner}
use Rattle.uc_machine.specs.declared.exec.Owner.TheVariants.{Frame, Fields}
use Rattle.uc_machine.specs.declared.exec.Stage.{Stage}
use Rattle.uc_machine.specs.declared.exec.Stage.TheVariants.{Fresh, Started, Ended}
use Rattle.uc_machine.specs.Executions.{exec_eq}
use Rattle.uc_machine.specs.Monitors.{this_object}
use Rattle.uc_machine.specs.Switches.{without}
use Rattle.uc_machine.specs.Pieces as piece
use Rattle.uc_machine.specs.Pieces.{Link, FieldAt, At, Value, Number, Place, Running, Object, Nothing, Todo, Active, State, Env, Members, further, object_in, top}
use Rattle.uc_machine.specs.Quiet.{first_state}
use Rattle.uc_machine.specs.Answering.{answered}
use Rattle.uc_machine.specs.Rides.{Rides, slices, goes_on, ticks, asks}
use Rattle.uc_meaning.specs.Runs.{World, Runs, AsksIn, drawn, gives, no_room, acts, begun, more}
use Rattle.uc_resolve.specs.Resolve.{source_of}
use Rattle.uc_rules.specs.Breaks.{breaks_of}
use Rattle.uc_sound.specs.SoundFormed.{IsFormed}
use Rattle.uc_sound.specs.Tables.{table_of}
use Rattle.uc_name_laws.proofs.Homes.{exec_self, same_exec, no_both}
use Rattle.uc_state_laws.specs.Fitting.{RunFits}
use Rattle.uc_state_laws.specs.Opens.{RideMeets, RunMeets}
use Rattle.uc_state_laws.proofs.Lists.{Once, first_once, once_rest}
use Rattle.uc_step_laws.specs.Hands.{keys}
use Rattle.uc_typing.specs.Typing.{Ty, Num, Cell, Obj, Raw, Row, Clu, Pro, Table}
use Rattle.uc_depth_laws.specs.Entering.{is_ending}
use Rattle.uc_depth_laws.specs.Owing.{Ex, entering, is_again}
use Rattle.uc_life_laws.specs.Belonging.{Belongs, frame, fields, object}
use Rattle.uc_life_laws.specs.Homes.{home_of}
use Rattle.uc_life_laws.specs.Knowing.{main_of}
use Rattle.uc_life_laws.specs.LifeStates.{SlotBy, ParkedBy, HandBy, EnvBy}
use Rattle.uc_life_laws.specs.Things.{Few, Base, Within, itself, field, element, Stands, lies, inside}
use Rattle.uc_life_laws.specs.Rooted.{IsPlace, InSlot, InParked, InHand, InMembers, Lives}
use Rattle.uc_life_laws.proofs.OwnNamesLemmas.{run_first}
use Rattle.uc_life_laws.proofs.Rooted.{env_in}
use Rattle.uc_apart_laws.specs.Before.{world_at}
use Rattle.uc_apart_laws.specs.Clear.{IsNoHome}
use Rattle.uc_making_laws.specs.BeforeRides.{HasNoHomeBy, HasNoHome, HaveNoHome, IsOther, IsLone, ElsewhereOnWayBy}
use Rattle.uc_lasting_programs.specs.Bases.{ends_in, lies_under, in_object, is_started, slot_has, parked_has, hand_has, env_has, members_have, home_has, task_has, tasks_have, lives_in, is_none, is_no_task, stands_at, is_around, is_bare, is_scalar, is_place, of_others, bars_by, ride_bars, run_bars, way_bars, open_to, based, RunHoldsOnWay, AsksOpen, ReadsOpen}
use Rattle.uc_lasting_programs.specs.Lent.{has_read}
use Rattle.uc_lasting_programs.specs.Seats.{ride_seats, run_seats, seated}
use Rattle.uc_lasting_programs.specs.Telling.{main_class, is_main_home, on_places, few_of}
use Rattle.uc_lasting_programs.proofs.Seats.{left_true, right_true, both_true, path_self, owner_self}
use Rattle.uc_lasting_programs.proofs.SeatHomes.{IsMadeFor, IsForeign, ride_told, run_told, ride_executed, run_executed, ride_raw, run_raw, one_true, no_true, left_both, right_both}
use Rattle.uc_lasting_programs.proofs.Telling.{law_telling}

-- truth values

pub left_false : (a b : Bool) → (a || b) ≡ false → a ≡ false
left_false true b h = let e : true ≡ false = h in absurd (cc)
left_false false b h = refl

pub right_false : (a b : Bool) → (a || b) ≡ false → b ≡ false
right_false true b h = let e : true ≡ false = h in absurd (cc)
right_false false b h = h

-- places

ends_self : (p : List Link) → ends_in p p ≡ true
ends_self [] = refl
ends_self (l ∷ p) = left_true _ (ends_in p (l ∷ p)) (path_self (l ∷ p))

-- a place of the same owner, which ends in the path
record IsUnder (o : Owner) (q : List Link) (v : Value) : Type 0 where
  path : List Link
  is : v ≡ Place o path
  ends : ends_in path q ≡ true

further_under : (l : Link) (o : Owner) (q : List Link) (v : Value) → IsUnder o q v → IsUnder o q (further l v)
further_under l o q v h = record {
  path = l ∷ h.path;
  is = ap (further l) h.is;
  ends = right_true _ (ends_in h.path q) h.ends;
}

module _ (t : Table) (o : Owner) (q : List Link) (a : Ty) where
  within_under : (v : Value) (b : Ty) → Within t (Place o q) a v b → IsUnder o q v
  within_under v b itself = record { path = q; is = refl; ends = ends_self q }
  within_under v b (field {v = w} {c = c} h i f) = further_under (FieldAt _ i) o q w (within_under w (Obj c) h)
  within_under v b (element {v = w} {m = m} h j f) = further_under (At _ j) o q w (within_under w _ h)

is_under : (o : Owner) (q : List Link) (v : Value) → IsUnder o q v → lies_under v (Place o q) ≡ true
is_under o q v h = ap (λ w. lies_under w (Place o q)) h.is ∙ both_true _ (ends_in h.path q) (owner_self o) h.ends

-- what lies in a mutex object
abbrev IsIn : ℕ → Value → Type 0
IsIn q v = (v ≡ Object q) ⊎ ((l : Link) × (p : List Link) × (v ≡ Place (Fields q) (l ∷ p)))

further_in : (l : Link) (q : ℕ) (v : Value) → IsIn q v → IsIn q (further l v)
further_in l q v (inl e) = inr (l, [], ap (further l) e)
further_in l q v (inr h) = inr (l, h.0 ∷ h.1, ap (further l) h.2)

module _ (t : Table) (q : ℕ) (a : Ty) where
  within_in : (v : Value) (b : Ty) → Within t (Object q) a v b → IsIn q v
  within_in v b itself = inl refl
  within_in v b (field {v = w} {c = c} h i f) = further_in (FieldAt _ i) q w (within_in w (Obj c) h)
  within_in v b (element {v = w} {m = m} h j f) = further_in (At _ j) q w (within_in w _ h)

is_in : (f : ℕ → Bool) (q : ℕ) (v : Value) → IsIn q v → f q ≡ true → in_object f v ≡ true
is_in f q v (inl e) h = ap (in_object f) e ∙ h
is_in f q v (inr k) h = ap (in_object f) k.2 ∙ h

-- an object is at home at a place, or in what is there

module _ (t : Table) (few : Few) (o : Owner) (q : List Link) (a : Ty) where
  stands_there : (k : ℕ) (b : Ty) (v : Value) → Stands t few (λ x c. (x ≡ Place o q) × (c ≡ a)) b v → stands_at few.home k v (Place o q) ≡ true
  stands_there zero b v h = refl
  stands_there (suc k) b v (lies {w = x} {a = c} e h) =
      left_true _ _ (is_under o q v (within_under t o q c v b (subst (λ y. Within t y c v b) e.0 h)))
  stands_there (suc k) b v (inside {o = r} {c} m s h) =
      right_true (lies_under v (Place o q)) _ (is_in (λ r. stands_at few.home k (few.home r) (Place o q)) r v (within_in t r (Obj c) v b h) (stands_there k (Cell (Obj c)) (few.home r) s))

around_place : (t : Table) (few : Few) (i : ℕ) (z : Value) (a : Ty) (c : ℕ) → IsPlace z → Stands t few (λ x d. (x ≡ z) × (d ≡ a)) (Cell (Obj c)) (few.home i) → is_around few.home i z ≡ true
around_place t few i (Number y) a c p h = absurd p
around_place t few i (Place o q) a c p h = stands_there t few o q a (suc (suc i)) (Cell (Obj c)) (few.home i) h
around_place t few i (Running y) a c p h = absurd p
around_place t few i (Object y) a c p h = absurd p
around_place t few i Nothing a c p h = absurd p

-- what stands in some things stands in others, by another telling with the same homes, or in one of these
pub record OneOf (t : Table) (few : Few) (F : Value → Ty → Type 0) (b : Ty) (v : Value) : Type 0 where
  pub thing : Value
  pub type : Ty
  pub one : F thing type
  pub stands : Stands t few (λ x c. (x ≡ thing) × (c ≡ type)) b v

module _ (t : Table) (few more : Few) (same : (o : ℕ) → few.home o ≡ more.home o) (K L F : Value → Ty → Type 0) (f : (w : Value) (a : Ty) → K w a → L w a ⊎ F w a) where
  pub stands_or : (b : Ty) (v : Value) → Stands t few K b v → Stands t more L b v ⊎ OneOf t few F b v
  stands_or b v (lies {w = w} {a = a} k h) =
      ⊎_elim (λ l. inl (lies l h)) (λ g. inr (record { thing = w; type = a; one = g; stands = lies (refl, refl) h })) (f w a k)
  stands_or b v (inside {o = o} {c} m s h) =
      ⊎_elim
      (λ l. inl (inside m (subst (Stands t more L (Cell (Obj c))) (same o) l) h))
      (λ r. inr (record { thing = r.thing; type = r.type; one = r.one; stands = inside m r.stands h }))
      (stands_or (Cell (Obj c)) (few.home o) s)

-- no mutex object is at home in what is such

abbrev pub IsBare : Ty → Type 0
IsBare b = is_bare b ≡ true

-- no place is told of others at which mutex objects are at home, but to the main of task 0; and no object, but to who was made for that
abbrev pub SeatsAlone : Few → Type 0
SeatsAlone few =
    ((n : Exec) (z : Value) (b : Ty) → Base few n z b → (n ≡ main_of 0) ⊎ IsBare b) ×
    ((n : Exec) (o c : ℕ) → Base few n (Object o) (Raw c) → IsMadeFor n o)

within_bare : (t : Table) (w : Value) (a : Ty) (v : Value) (b : Ty) → Within t w a v b → IsBare a → IsBare b
within_bare t w a v b itself r = r
within_bare t w a v b (field {v = u} {c = c} h i f) r =
    let e : false ≡ true = within_bare t w a u (Obj c) h r in
    absurd (cc)
within_bare t w a v b (element {v = u} {m = m} h j f) r = within_bare t w a u (Row m b) h r

pub no_bare : (t : Table) (few : Few) (z : Value) (a : Ty) → IsBare a → (c : ℕ) (v : Value) → Stands t few (λ x d. (x ≡ z) × (d ≡ a)) (Cell (Obj c)) v → ⊥
no_bare t few z a r c v (lies {w = x} {a = d} k h) =
    let e : false ≡ true = within_bare t x d v (Cell (Obj c)) h (ap is_bare k.1 ∙ r) in
    absurd (cc)
no_bare t few z a r c v (inside {o = q} {c = d} m s h) = no_bare t few z a r d (few.home q) s

-- who lives

started : (g : Stage) → g ≡ Started → is_started g ≡ true
started g e = ap is_started e

module _ (n : Exec) (cs : List Active) where
  in_slot : (m : Exec) (y : Option Ex) → InSlot n cs m y → slot_has n m y ≡ true
  in_slot m None h = absurd h
  in_slot m (Some y) h = both_true _ (is_started y.links.stage) (ap (exec_eq n) (sym h.0) ∙ exec_self n) (started y.links.stage h.2)

  in_parked : (h : Home) (ps : List (ℕ × Option Ex)) → InParked n cs h ps → parked_has n h ps ≡ true
  in_parked h [] i = absurd i
  in_parked h (p ∷ ps) (inl i) = left_true _ _ (in_slot (record { home = h; serial = p.0 }) p.1 i)
  in_parked h (p ∷ ps) (inr i) = right_true (slot_has n (record { home = h; serial = p.0 }) p.1) _ (in_parked h ps i)

  in_hand : (ps : List (ℕ × Members)) → InHand n cs ps → hand_has n ps ≡ true
  in_hand [] i = absurd i
  in_hand (p ∷ ps) (inl i) = left_true _ _ (in_parked (home.Object p.0) p.1.parked i)
  in_hand (p ∷ ps) (inr i) = right_true (parked_has n (home.Object p.0) p.1.parked) _ (in_hand ps i)

  in_env : (e : Env) → InParked n cs (home.Task e.own) e.house.parked ⊎ InHand n cs e.hand → env_has n e ≡ true
  in_env e (inl i) = left_true _ _ (in_parked (home.Task e.own) e.house.parked i)
  in_env e (inr i) = right_true (parked_has n (home.Task e.own) e.house.parked) _ (in_hand e.hand i)

  in_members : (h : Home) (m : Option Members) → InMembers n cs h m → members_have n h m ≡ true
  in_members h None i = absurd i
  in_members h (Some m) i = in_parked h m.parked i

  -- where it is at home
  pub parked_home : (h : Home) (ps : List (ℕ × Option Ex)) → InParked n cs h ps → n.home ≡ h
  parked_home h [] i = absurd i
  parked_home h (p ∷ ps) (inl i) = slot_home p.1 i
    where
      slot_home : (y : Option Ex) → InSlot n cs (record { home = h; serial = p.0 }) y → n.home ≡ h
      slot_home None k = absurd k
      slot_home (Some y) k = ap (λ (m : Exec). m.home) k.0
  parked_home h (p ∷ ps) (inr i) = parked_home h ps i

  pub members_home : (h : Home) (m : Option Members) → InMembers n cs h m → n.home ≡ h
  members_home h None i = absurd i
  members_home h (Some m) i = parked_home h m.parked i

  module _ (source : Source) (j : Journal) (x : World) where
    in_tasks : (k u : ℕ) → u < k → task_has n j x u ≡ true → tasks_have n j x k ≡ true
    in_tasks zero u lt h = let e : ⊥ = omega (arith, lt) in absurd e
    in_tasks (suc k) u lt h = by (u == k) refl (λ l. in_tasks k u l h)
      where
        by : (b : Bool) → (u == k) ≡ b → (u < k → tasks_have n j x k ≡ true) → (task_has n j x k || tasks_have n j x k) ≡ true
        by true e f = left_true _ _ (subst (λ (i : ℕ). task_has n j x i ≡ true) (eqb-true u k e) h)
        by false e f =
            right_true (task_has n j x k) _ (f (let d : u ≡ k → ⊥ = λ q. no_both (u == k) (eq-eqb u k q) e in omega (arith, lt, d)))

    -- of tasks that are not spawned yet nothing lives but the main of task 0
    module _ (k : ℕ) (first : (u : ℕ) → k ≤ u → x.tasks u ≡ first_state (routine_of source source.main) 0) (other : n ≡ main_of 0 → ⊥) where
      late_task : (s : State) → s ≡ first_state (routine_of source source.main) 0 → (n ≡ s.env.exec) ⊎ (InParked n cs (home.Task s.env.own) s.env.house.parked ⊎ InHand n cs s.env.hand) → ⊥
      late_task s e h = on (subst (λ (s : State). (n ≡ s.env.exec) ⊎ (InParked n cs (home.Task s.env.own) s.env.house.parked ⊎ InHand n cs s.env.hand)) e h)
        where
          on : (n ≡ main_of 0) ⊎ ((⊥ ⊎ ⊥) ⊎ ⊥) → ⊥
          on (inl q) = other q
          on (inr (inl (inl q))) = q
          on (inr (inl (inr q))) = q
          on (inr (inr q)) = q

      early : (u : ℕ) → (n ≡ (x.tasks u).env.exec) ⊎ (InParked n cs (home.Task (x.tasks u).env.own) (x.tasks u).env.house.parked ⊎ InHand n cs (x.tasks u).env.hand) → u < k
      early u h = by (cases_lt u k)
        where
          by : (u < k) ⊎ (k ≤ u) → u < k
          by (inl lt) = lt
          by (inr le) = absurd (late_task (x.tasks u) (first u le) h)

      lives_there : Lives j x n cs → (tasks_have n j x k || home_has n x.homes n.home) ≡ true
      lives_there (inl (u, on, e, f)) =
          left_true _ _ (in_tasks k u (early u (inl e)) (left_true _ _ (both_true _ (not (has_ended u j)) (ap (exec_eq n) (sym e) ∙ exec_self n) (ap not on))))
      lives_there (inr (inl (u, i))) =
          left_true _ _ (in_tasks k u (early u (inr i)) (right_true (exec_eq n (x.tasks u).env.exec && not (has_ended u j)) _ (in_env (x.tasks u).env i)))
      lives_there (inr (inr (o, i))) =
          right_true (tasks_have n j x k) _ (ap (home_has n x.homes) (members_home (home.Object o) (x.homes o) i) ∙ in_members (home.Object o) (x.homes o) i)

    -- so that lives, whoever it is
    lives_here : (k : ℕ) → ((u : ℕ) → k ≤ u → x.tasks u ≡ first_state (routine_of source source.main) 0) → Lives j x n cs → lives_in n j x k ≡ true
    lives_here k first i = by (exec_eq n (main_of 0)) refl
      where
        by : (b : Bool) → exec_eq n (main_of 0) ≡ b → (exec_eq n (main_of 0) || (tasks_have n j x k || home_has n x.homes n.home)) ≡ true
        by true e = left_true _ _ e
        by false e =
            right_true (exec_eq n (main_of 0)) _ (lives_there k first (λ q. no_both (exec_eq n (main_of 0)) (ap (λ (m : Exec). exec_eq m (main_of 0)) q ∙ exec_self (main_of 0)) e) i)

-- what belongs to an execution lies in object 0 no more than the home of that does

module _ (t : Table) (few : Few) (nobodys : (n : Exec) → Belongs few n (few.home 0) → ⊥) (n : Exec) where
  first_own : (p : List Link) → Belongs few n (Place (Fields 0) p) → ⊥
  first_own p (fields h) = nobodys n h

  fields_own : (q : ℕ) (p : List Link) → Belongs few n (Place (Fields q) p) → Belongs few n (few.home q)
  fields_own q p (fields h) = h

  object_own : (q : ℕ) → Belongs few n (Object q) → Belongs few n (few.home q)
  object_own q (object h) = h

  home_own : (q : ℕ) (v : Value) → IsIn q v → Belongs few n v → Belongs few n (few.home q)
  home_own q v (inl e) h = object_own q (subst (Belongs few n) e h)
  home_own q v (inr k) h = fields_own q (k.0 ∷ k.1) (subst (Belongs few n) k.2 h)

  module _ (z : Value) (a : Ty) (e : z ≡ Place (Fields 0) []) where
    not_first : (b : Ty) (v : Value) → Stands t few (λ x d. (x ≡ z) × (d ≡ a)) b v → Belongs few n v → ⊥
    not_first b v (lies {w = x} {a = c} k h) belongs =
        let u = within_under t (Fields 0) [] c v b (subst (λ y. Within t y c v b) (k.0 ∙ e) h) in
        first_own u.path (subst (Belongs few n) u.is belongs)
    not_first b v (inside {o = q} {c} m s h) belongs =
        not_first (Cell (Obj c)) (few.home q) s (home_own q v (within_in t q (Obj c) v b h) belongs)

  -- nor in what is not its own
  own_place : (o : Owner) (p q : List Link) → Belongs few n (Place o p) → Belongs few n (Place o q)
  own_place (Frame x d) p q (frame e) = frame e
  own_place (Fields i) p q (fields h) = fields h

  owned_in : (o : Owner) (q : List Link) (a b : Ty) (v : Value) → Stands t few (λ x d. (x ≡ Place o q) × (d ≡ a)) b v → Belongs few n v → Belongs few n (Place o q)
  owned_in o q a b v (lies {w = x} {a = c} k h) belongs =
      let u = within_under t o q c v b (subst (λ y. Within t y c v b) k.0 h) in
      own_place o u.path q (subst (Belongs few n) u.is belongs)
  owned_in o q a b v (inside {o = i} {c} m s h) belongs =
      owned_in o q a (Cell (Obj c)) (few.home i) s (home_own i v (within_in t i (Obj c) v b h) belongs)

  owned : (z : Value) (a : Ty) → IsPlace z → (b : Ty) (v : Value) → Stands t few (λ x d. (x ≡ z) × (d ≡ a)) b v → Belongs few n v → Belongs few n z
  owned (Number y) a i b v s h = absurd i
  owned (Place o q) a i b v s h = owned_in o q a b v s h
  owned (Running y) a i b v s h = absurd i
  owned (Object y) a i b v s h = absurd i
  owned Nothing a i b v s h = absurd i

pub none_in : (t : Table) (few : Few) (b : Ty) (v : Value) → Stands t few (λ w a. ⊥) b v → ⊥
none_in t few b v (lies k h) = k
none_in t few b v (inside {o = i} {c} m s h) = none_in t few (Cell (Obj c)) (few.home i) s

-- what is asked of states where an object is entered again to be destroyed, which is at home in what is the own of who runs, who has nothing to clean up around it:
-- it is not at home in what who runs has of others, if that is at home in no object that is at home in its own, and the main of none; and where who runs is at home
-- in an older object than the own one of the task, it is not that; else what `ElsewhereOnWay` asks
module _ (t : Table) (few : Few) (v : State) where
  abbrev pub BareOn : Source → ℕ → Type 0
  BareOn source r =
      is_ending source r ≡ true → is_again source r v ≡ true → IsLone t few v (entering source r v) →
      (IsForeign few v.env.exec → IsNoHome t few (entering source r v) (Base few v.env.exec)) ×
      (v.env.own ≡ entering source r v → SeatsAlone few)

  abbrev pub BareOnWayBy : Source → List Todo → Type 0
  BareOnWayBy source (piece.EnterNow m r ∷ todo) = BareOn source r
  BareOnWayBy source todo = ElsewhereOnWayBy t few v source todo

  abbrev pub BareOnWay : Source → Type 0
  BareOnWay source = BareOnWayBy source v.run.control

-- where an object goes, or is given up, that is at home in what is the own of who runs, nothing that one who lives has of others is that in which it is at home, if
-- that was not made for it
module _ (t : Table) (few : Few) (v : State) (j : Journal) (w : World) (u : ℕ) where
  abbrev pub OthersOf : ℕ → Type 0
  OthersOf o =
      Belongs few v.env.exec (few.home o) → (n : Exec) (cs : List Active) → Lives j (world_at w u v) n cs → (IsMadeFor n o → ⊥) → IsNoHome t few o (Base few n)

  abbrev pub UnlessMadeBy : List Todo → Type 0
  UnlessMadeBy (piece.GoneNow ∷ todo) = OthersOf (this_object v)
  UnlessMadeBy (piece.GiveUpNow ∷ todo) = OthersOf (this_object v)
  UnlessMadeBy todo = Unit {0}

  abbrev pub UnlessMade : Type 0
  UnlessMade = UnlessMadeBy v.run.control

-- all that does not run, whatever it is
module _ where
  abbrev Any : Exec → Ex → Type 0
  Any n y = Unit {0}

  any_slot : (n : Exec) (x : Option Ex) → SlotBy Any n x
  any_slot n None = tt
  any_slot n (Some y) = tt

  any_parked : (h : Home) (ps : List (ℕ × Option Ex)) → ParkedBy Any h ps
  any_parked h [] = tt
  any_parked h (p ∷ ps) = (any_slot (record { home = h; serial = p.0 }) p.1, any_parked h ps)

  any_hand : (ps : List (ℕ × Members)) → HandBy Any ps
  any_hand [] = tt
  any_hand (p ∷ ps) = (any_parked (home.Object p.0) p.1.parked, any_hand ps)

  any_env : (e : Env) → EnvBy Any e
  any_env e = record { house = any_parked (home.Task e.own) e.house.parked; hand = any_hand e.hand }

-- what is in hand is at home in an object there, which without one is none of it

module _ (n : Exec) (cs : List Active) where
  pub hand_home : (ps : List (ℕ × Members)) → InHand n cs ps → (q : ℕ) × (n.home ≡ home.Object q) × (has (keys ps) q ≡ true)
  hand_home [] i = absurd i
  hand_home (p ∷ ps) (inl i) =
      (p.0, parked_home n cs (home.Object p.0) p.1.parked i, left_true (nat_eq p.0 p.0) (has (keys ps) p.0) (eq-eqb p.0 p.0 refl))
  hand_home (p ∷ ps) (inr i) = let h = hand_home ps i in (h.0, h.1, right_true (nat_eq p.0 h.0) (has (keys ps) h.0) h.2)

  object_of : (q o : ℕ) → n.home ≡ home.Object q → n.home ≡ home.Object o → q ≡ o
  object_of q o h e = let f : home.Object q ≡ home.Object o = sym h ∙ e in cc

  module _ (o : ℕ) where
    back_in_hand : (ps : List (ℕ × Members)) → InHand n cs (without o ps) → InHand n cs ps
    back_in_hand [] i = i
    back_in_hand (p ∷ ps) i = by (nat_eq p.0 o) (back_in_hand ps) i
      where
        by : (b : Bool) → (InHand n cs (without o ps) → InHand n cs ps) → InHand n cs (if b then ps else p ∷ without o ps) → InHand n cs (p ∷ ps)
        by true f i = inr i
        by false f (inl i) = inl i
        by false f (inr i) = inr (f i)

    pub out_of_hand : (ps : List (ℕ × Members)) → Once (keys ps) → InHand n cs (without o ps) → n.home ≡ home.Object o → ⊥
    out_of_hand [] once i e = i
    out_of_hand (p ∷ ps) once i e = by (nat_eq p.0 o) refl (out_of_hand ps (once_rest p.0 (keys ps) once)) i
      where
        by : (b : Bool) → nat_eq p.0 o ≡ b → (InHand n cs (without o ps) → n.home ≡ home.Object o → ⊥) → InHand n cs (if b then ps else p ∷ without o ps) → ⊥
        by true g f i =
            let h = hand_home ps i in
            let same : h.0 ≡ p.0 = object_of h.0 o h.1 e ∙ sym (eqb-true p.0 o g) in
            no_both (has (keys ps) p.0) (subst (λ q. has (keys ps) q ≡ true) same h.2) (first_once p.0 (keys ps) once)
        by false g f (inl i) =
            no_both (nat_eq p.0 o) (eq-eqb p.0 o (object_of p.0 o (parked_home n cs (home.Object p.0) p.1.parked i) e)) g
        by false g f (inr i) = f i e

  -- what does not run in a task was made for no object but that at which it is at home, and the own one
  pub not_made : (e : Env) (o : ℕ) → (e.own ≡ o → ⊥) → InParked n cs (home.Task e.own) e.house.parked → IsMadeFor n o → ⊥
  not_made e o away i (inl h) = let f : home.Task e.own ≡ home.Object o = sym (parked_home n cs (home.Task e.own) e.house.parked i) ∙ h in absurd (cc)
  not_made e o away i (inr h) =
      let f : home.Task e.own ≡ home.Task o = sym (parked_home n cs (home.Task e.own) e.house.parked i) ∙ ap (λ (m : Exec). m.home) h in
      away (cc)

  pub not_in_hand : (o : ℕ) (ps : List (ℕ × Members)) → (n.home ≡ home.Object o → ⊥) → InHand n cs ps → IsMadeFor n o → ⊥
  not_in_hand o ps away i (inl h) = away h
  not_in_hand o ps away i (inr h) =
      let x = hand_home ps i in
      let f : home.Object x.0 ≡ home.Task o = sym x.1 ∙ ap (λ (m : Exec). m.home) h in
      absurd (cc)

-- in a state: what nothing bars stands around nothing that goes while it is had

-- what is told of others: objects that are not whole, for which executions were made; the home of object 0; what nothing bars; and what no mutex object is at
-- home in
module _ (t : Table) (few : Few) (Free : Exec → Value → Type 0) (rests : (n : Exec) (z : Value) (b : Ty) → Base few n z b → ((n ≡ main_of 0) × (z ≡ Place (Fields 0) [])) ⊎ ((IsPlace z × Free n z) ⊎ IsBare b)) (made : (n : Exec) (o c : ℕ) → Base few n (Object o) (Raw c) → IsMadeFor n o) (nobodys : (n : Exec) → Belongs few n (few.home 0) → ⊥) where
  abbrev Rest : Exec → Value → Ty → Type 0
  Rest n z b = ((n ≡ main_of 0) × (z ≡ Place (Fields 0) [])) ⊎ ((IsPlace z × Free n z) ⊎ IsBare b)

  -- an object that is at home in what is the own of one is not at home in what another has of others around which nothing that goes stands
  none_about : (e n : Exec) (o : ℕ) → Belongs few e (few.home o) → (b : Bool) → b ≡ true → ((z : Value) → Free n z → Belongs few e z → (b && is_around few.home o z) ≡ false) → (c : ℕ) → Stands t few (Base few n) (Cell (Obj c)) (few.home o) → ⊥
  none_about e n o belongs b on free c s =
      ⊎_elim
      (λ x. none_in t few (Cell (Obj c)) (few.home o) x)
      (λ r.
      ⊎_elim
      (λ i. not_first t few nobodys e r.thing r.type i.1 (Cell (Obj c)) (few.home o) r.stands belongs)
      (λ k.
      ⊎_elim
      (λ f. no_both (b && is_around few.home o r.thing) (both_true b (is_around few.home o r.thing) on (around_place t few o r.thing r.type c f.0 r.stands)) (free r.thing f.1 (owned t few nobodys e r.thing r.type f.0 (Cell (Obj c)) (few.home o) r.stands belongs)))
      (λ bare. no_bare t few r.thing r.type bare c (few.home o) r.stands)
      k)
      r.one)
      (stands_or t few few (λ q. refl) (Base few n) (λ w b. ⊥) (Rest n) (λ z b m. inr (rests n z b m)) (Cell (Obj c)) (few.home o) s)

  -- nor is it had as one that is not whole, if the other was not made for it
  none_had : (e n : Exec) (o : ℕ) → Belongs few e (few.home o) → (b : Bool) → b ≡ true → ((z : Value) → Free n z → Belongs few e z → (b && is_around few.home o z) ≡ false) → (IsMadeFor n o → ⊥) → IsNoHome t few o (Base few n)
  none_had e n o belongs b on free away c (inl s) = none_about e n o belongs b on free c s
  none_had e n o belongs b on free away c (inr k) = away (made n o c k)

  -- in a state nothing bars what is free, if it is the own of who runs, where an object goes, is given up or has been built
  abbrev AreFreeBy : Source → Journal → World → ℕ → State → List Todo → Type 0
  AreFreeBy source j w u v l = (n : Exec) (z : Value) → Free n z → AsksOpen few v l z (bars_by few.home source j w u l v n z ≡ false)

  module _ (source : Source) (j : Journal) (w : World) (u : ℕ) (first : (v : ℕ) → task_count j ≤ v → w.tasks v ≡ first_state (routine_of source source.main) 0) (v : State) where
    abbrev many : ℕ
    many = task_count j + suc u

    late : (i : ℕ) → many ≤ i → (world_at w u v).tasks i ≡ first_state (routine_of source source.main) 0
    late i le =
        ap (λ (b : Bool). if b then v else w.tasks i) (ne_eqb i u (λ e. let f : ⊥ = omega (arith, le, e) in f)) ∙ first i (omega (arith, le))

    -- of those that live
    elsewhere : (o : ℕ) → Belongs few v.env.exec (few.home o) → ((n : Exec) (z : Value) → Free n z → Belongs few v.env.exec z → (lives_in n j (world_at w u v) many && is_around few.home o z) ≡ false) → (n : Exec) (cs : List Active) → Lives j (world_at w u v) n cs → (IsMadeFor n o → ⊥) → IsNoHome t few o (Base few n)
    elsewhere o belongs free n cs i away =
        none_had v.env.exec n o belongs (lives_in n j (world_at w u v) many) (lives_here n cs source j (world_at w u v) many late i) (λ z f b. free n z f b) away

    abbrev Elsewhere : Env
    Elsewhere = record v.env { hand = without (this_object v) v.env.hand }

    -- of those that do not run in the task, but of what is at home in the object at hand
    have_none : (bars : Exec → Bool) → ((n : Exec) (cs : List Active) → InParked n cs (home.Task v.env.own) v.env.house.parked ⊎ InHand n cs (without (this_object v) v.env.hand) → bars n ≡ true) → ((n : Exec) (z : Value) → Free n z → Belongs few v.env.exec z → (bars n && is_around few.home (this_object v) z) ≡ false) → Belongs few v.env.exec (few.home (this_object v)) → IsOther v → HaveNoHome t few v
    have_none bars on free belongs other =
        env_in Any (HasNoHome t few (this_object v)) Elsewhere (λ n y i k. by y.links.stage n y refl i) (any_env Elsewhere)
      where
        away : (n : Exec) (cs : List Active) → InParked n cs (home.Task v.env.own) v.env.house.parked ⊎ InHand n cs (without (this_object v) v.env.hand) → IsMadeFor n (this_object v) → ⊥
        away n cs (inl i) h = not_made n cs v.env (this_object v) other.0 i h
        away n cs (inr i) h =
            not_in_hand n cs (this_object v) (without (this_object v) v.env.hand) (out_of_hand n cs (this_object v) v.env.hand other.1 i) i h

        by : (g : Stage) (n : Exec) (y : Ex) → y.links.stage ≡ g → (y.links.stage ≡ Started → InParked n (y.run ∷ y.callers) (home.Task v.env.own) v.env.house.parked ⊎ InHand n (y.run ∷ y.callers) (without (this_object v) v.env.hand)) → HasNoHomeBy t few (this_object v) g n
        by Fresh n y q i = tt
        by Started n y q i =
            none_had v.env.exec n (this_object v) belongs (bars n) (on n (y.run ∷ y.callers) (i q)) (λ z f b. free n z f b) (away n (y.run ∷ y.callers) (i q))
        by Ended n y q i = tt

    -- those live
    same_task : (if u == u then v else w.tasks u) ≡ v
    same_task = ap (λ b. if b then v else w.tasks u) (eq-eqb u u refl)

    parked_lives : (n : Exec) (cs : List Active) → InParked n cs (home.Task v.env.own) v.env.house.parked ⊎ InHand n cs (without (this_object v) v.env.hand) → Lives j (world_at w u v) n cs
    parked_lives n cs (inl i) =
        inr (inl (u, inl (subst (λ (y : State). InParked n cs (home.Task y.env.own) y.env.house.parked) (sym same_task) i)))
    parked_lives n cs (inr i) =
        inr (inl (u, inr (subst (λ (y : State). InHand n cs y.env.hand) (sym same_task) (back_in_hand n cs (this_object v) v.env.hand i))))

    parked_there : (n : Exec) (cs : List Active) → InParked n cs (home.Task v.env.own) v.env.house.parked ⊎ InHand n cs (without (this_object v) v.env.hand) → lives_in n j (world_at w u v) many ≡ true
    parked_there n cs i = lives_here n cs source j (world_at w u v) many late (parked_lives n cs i)

    -- of who runs, where it was made for no object that is at home in its own
    running : (o : ℕ) (again : Bool) → again ≡ true → Belongs few v.env.exec (few.home o) → ((n : Exec) (z : Value) → Free n z → ((exec_eq n v.env.exec && again) && is_around few.home o z) ≡ false) → IsForeign few v.env.exec → IsNoHome t few o (Base few v.env.exec)
    running o again a belongs free f =
        none_had v.env.exec v.env.exec o belongs (exec_eq v.env.exec v.env.exec && again) (both_true (exec_eq v.env.exec v.env.exec) again (exec_self v.env.exec) a) (λ z x b. free v.env.exec z x) (λ m. f o m belongs)

    -- where all is barred
    alone : (again own : Bool) → again ≡ true → own ≡ true → ((n : Exec) (z : Value) → Free n z → (again && own) ≡ false) → SeatsAlone few
    alone again own e g free = (
      λ n z b m. ⊎_elim (λ x. inl x.0) (λ x. inr (⊎_elim (λ f. no_both (again && own) (both_true again own e g) (free n z f.1)) (λ bare. bare) x)) (rests n z b m),
      made,
    )

    -- where an object goes
    unless : (l : List Todo) → AreFreeBy source j w u v l → UnlessMadeBy t few v j w u l
    unless (piece.GoneNow ∷ todo) free = λ belongs n cs i away. elsewhere (this_object v) belongs free n cs i away
    unless (piece.GiveUpNow ∷ todo) free = λ belongs n cs i away. elsewhere (this_object v) belongs free n cs i away
    unless [] free = tt
    unless (p ∷ todo) free = tt

    at : (l : List Todo) → AreFreeBy source j w u v l → BareOnWayBy t few v source l
    at (piece.GoneNow ∷ todo) free = λ lone other. have_none (λ n. lives_in n j (world_at w u v) many) parked_there free lone.0 other
    at (piece.GiveUpNow ∷ todo) free = λ lone other. have_none (λ n. lives_in n j (world_at w u v) many) parked_there free lone.0 other
    at (piece.MadeNow ∷ todo) free = λ lone other. have_none (λ n. env_has n Elsewhere) (λ n cs i. in_env n cs Elsewhere i) free lone.0 other
    at (piece.SpawnNow r ∷ todo) free = λ lone other. have_none (λ n. env_has n Elsewhere) (λ n cs i. in_env n cs Elsewhere i) free lone.0 other
    at (piece.EnterNow m r ∷ todo) free = λ ends again lone.
        let so = both_true (is_ending source r) (is_again source r v) ends again in (
          λ f. running (entering source r v) (is_ending source r && is_again source r v) so lone.0 (λ n z g. left_false _ _ (free n z g)) f,
          λ same. alone (is_ending source r && is_again source r v) (nat_eq v.env.own (entering source r v)) so (eq-eqb v.env.own (entering source r v) same) (λ n z g. right_false ((exec_eq n v.env.exec && (is_ending source r && is_again source r v)) && is_around few.home (entering source r v) z) _ (free n z g)),
        )
    at [] free = λ k. tt
    at (p ∷ todo) free = λ k. tt

  -- nor around what an event is raised at, by who raises it
  module _ (source : Source) (j : Journal) (w : World) (u : ℕ) (v : State) (free : AreFreeBy source j w u v v.run.control) where
    pub unheld : (todo : List Todo) (o : ℕ) → v.run.control ≡ piece.RaiseAtNow ∷ todo → top v.run.operands ≡ Object o → owner o j ≡ [] → o < object_count j → is_gone o j ≡ false → (e : Exec) → Belongs few e (few.home o) → (c : ℕ) → Stands t few (Base few v.env.exec) (Cell (Obj c)) (few.home o) → ⊥
    unheld todo o c operand none there stays e belongs i s =
        none_about e v.env.exec o belongs ((exec_eq v.env.exec v.env.exec && is_no_task j o)) (both_true _ (is_no_task j o) (exec_self v.env.exec) no_task) barred i s
      where
        no_task : is_no_task j o ≡ true
        no_task = both_true (nat_lt o (object_count j)) _ (lt-ltb o (object_count j) there) (both_true (is_none (owner o j)) _ (ap is_none none) (ap not stays))

        barred : (z : Value) → Free v.env.exec z → Belongs few e z → ((exec_eq v.env.exec v.env.exec && is_no_task j o) && is_around few.home o z) ≡ false
        barred z f b =
            subst (λ q. ((exec_eq v.env.exec v.env.exec && is_no_task j q) && is_around few.home q z) ≡ false) (ap object_in operand) (subst (λ l. AsksOpen few v l z (bars_by few.home source j w u l v v.env.exec z ≡ false)) c (free v.env.exec z f))

  -- along a ride, and in a run
  module _ (source : Source) where
    module _ (j : Journal) (w : World) (u : ℕ) (first : (v : ℕ) → task_count j ≤ v → w.tasks v ≡ first_state (routine_of source source.main) 0) where
      ride_all : {s x : State} {q k : ℕ} {a : Asked} (r : Rides source s q x k a) → RideMeets (λ v. AreFreeBy source j w u v v.run.control) source s q x k a r → RideMeets (λ v. BareOnWay t few v source) source s q x k a r
      ride_all slices free = tt
      ride_all (goes_on {s} e r) free = (at source j w u first s s.run.control free.0, ride_all r free.1)
      ride_all (ticks {s} e r) free = (at source j w u first s s.run.control free.0, ride_all r free.1)
      ride_all (asks {s} e) free = at source j w u first s s.run.control free

      pub ride_elsewhere : {s x : State} {q k : ℕ} {a : Asked} (r : Rides source s q x k a) → RideMeets (λ v. AreFreeBy source j w u v v.run.control) source s q x k a r → RideMeets (λ v. BareOnWay t few v source) source s q x k a r
      ride_elsewhere r free = ride_all r free

      ride_unless : {s x : State} {q k : ℕ} {a : Asked} (r : Rides source s q x k a) → RideMeets (λ v. AreFreeBy source j w u v v.run.control) source s q x k a r → RideMeets (λ v. UnlessMade t few v j w u) source s q x k a r
      ride_unless slices free = tt
      ride_unless (goes_on {s} e r) free = (unless source j w u first s s.run.control free.0, ride_unless r free.1)
      ride_unless (ticks {s} e r) free = (unless source j w u first s s.run.control free.0, ride_unless r free.1)
      ride_unless (asks {s} e) free = unless source j w u first s s.run.control free

    -- nothing bars what is free
    abbrev AreFree : Journal → World → ℕ → State → Type 0
    AreFree j w u v = AreFreeBy source j w u v v.run.control

    module _ (input : List ℕ) (opts : Options) (range : InRange opts) where
      pub run_elsewhere : {j : Journal} {w : World} (r : Runs source input opts j w) → RunFits source input opts j w r → RunHoldsOnWay AreFree source input opts r → RunMeets (λ v. BareOnWay t few v source) source input opts j w r
      run_elsewhere begun fits free = tt
      run_elsewhere (more r o (gives p u s le)) fits free = (run_elsewhere r fits.0 free.0, tt)
      run_elsewhere (more r o (no_room p u s le)) fits free = (run_elsewhere r fits.0 free.0, tt)
      run_elsewhere (more {j} {w} r o (acts p u n s q d)) fits free =
          (run_elsewhere r fits.0 free.0, ride_elsewhere j w u (run_first source input opts range r fits.0 o) d.rides free.1)

      pub run_unless : {j : Journal} {w : World} (r : Runs source input opts j w) → RunFits source input opts j w r → RunHoldsOnWay AreFree source input opts r → RunHoldsOnWay (λ j w u v. UnlessMade t few v j w u) source input opts r
      run_unless begun fits free = tt
      run_unless (more r o (gives p u s le)) fits free = (run_unless r fits.0 free.0, tt)
      run_unless (more r o (no_room p u s le)) fits free = (run_unless r fits.0 free.0, tt)
      run_unless (more {j} {w} r o (acts p u n s q d)) fits free =
          (run_unless r fits.0 free.0, ride_unless j w u (run_first source input opts range r fits.0 o) d.rides free.1)

-- what is told since nothing bars it on any way, and what executions read, nothing bars in any state
module _ (few : Few) (source : Source) (input : List ℕ) (opts : Options) (Free : Exec → Value → Type 0) (bare read : Exec → Value → Bool) (either_so : (n : Exec) (z : Value) → Free n z → (bare n z ≡ true) ⊎ (read n z ≡ true)) where
  abbrev homes : ℕ → Value
  homes o = few.home o

  abbrev Open_in : Journal → World → ℕ → State → Type 0
  Open_in j w u v = (n : Exec) (z : Value) → Free n z → AsksOpen few v v.run.control z (bars_by homes source j w u v.run.control v n z ≡ false)

  abbrev Reads_in : Journal → World → ℕ → State → Type 0
  Reads_in j w u v = ReadsOpen few source read j w u v

  -- what holds anyway is what is asked
  anyway : (l : List Todo) (v : State) (z : Value) (A : Type 0) → A → AsksOpen few v l z A
  anyway (piece.GoneNow ∷ todo) v z A a = λ b. a
  anyway (piece.GiveUpNow ∷ todo) v z A a = λ b. a
  anyway (piece.MadeNow ∷ todo) v z A a = λ b. a
  anyway (piece.SpawnNow r ∷ todo) v z A a = λ b. a
  anyway [] v z A a = a
  anyway (p ∷ todo) v z A a = a

  open_at : (j : Journal) (w : World) (u : ℕ) (v : State) → ((n : Exec) (z : Value) → bare n z ≡ true → bars_by homes source j w u v.run.control v n z ≡ false) → Reads_in j w u v → Open_in j w u v
  open_at j w u v f h n z e = ⊎_elim (λ b. anyway v.run.control v z (bars_by homes source j w u v.run.control v n z ≡ false) (f n z b)) (λ b. h n z b) (either_so n z e)

  pub ride_open : (j : Journal) (w : World) (u : ℕ) {s x : State} {q k : ℕ} {a : Asked} (r : Rides source s q x k a) → ((n : Exec) (z : Value) → bare n z ≡ true → ride_bars homes source j w u r n z ≡ false) → RideMeets (Reads_in j w u) source s q x k a r → RideMeets (Open_in j w u) source s q x k a r
  ride_open j w u slices f h = tt
  ride_open j w u (goes_on {s} e r) f h = (
    open_at j w u s (λ n z b. left_false (bars_by homes source j w u s.run.control s n z) (ride_bars homes source j w u r n z) (f n z b)) h.0,
    ride_open j w u r (λ n z b. right_false (bars_by homes source j w u s.run.control s n z) (ride_bars homes source j w u r n z) (f n z b)) h.1,
  )
  ride_open j w u (ticks {s} e r) f h = (
    open_at j w u s (λ n z b. left_false (bars_by homes source j w u s.run.control s n z) (ride_bars homes source j w u r n z) (f n z b)) h.0,
    ride_open j w u r (λ n z b. right_false (bars_by homes source j w u s.run.control s n z) (ride_bars homes source j w u r n z) (f n z b)) h.1,
  )
  ride_open j w u (asks {s} e) f h = open_at j w u s f h

  pub run_open : {j : Journal} {w : World} (r : Runs source input opts j w) → ((n : Exec) (z : Value) → bare n z ≡ true → run_bars homes source input opts r n z ≡ false) → RunHoldsOnWay Reads_in source input opts r → RunHoldsOnWay Open_in source input opts r
  run_open begun f h = tt
  run_open (more r o (gives p u s le)) f h = (run_open r (λ n z b. left_false (run_bars homes source input opts r n z) false (f n z b)) h.0, tt)
  run_open (more r o (no_room p u s le)) f h = (run_open r (λ n z b. left_false (run_bars homes source input opts r n z) false (f n z b)) h.0, tt)
  run_open (more {j} {w} r o (acts p u n s q d)) f h = (
    run_open r (λ n z b. left_false (run_bars homes source input opts r n z) (ride_bars homes source j w u d.rides n z) (f n z b)) h.0,
    ride_open j w u d.rides (λ n z b. right_false (run_bars homes source input opts r n z) (ride_bars homes source j w u d.rides n z) (f n z b)) h.1,
  )

-- what is told of a run of a program

not_so : (b : Bool) → not b ≡ true → b ≡ false
not_so true h = let e : false ≡ true = h in absurd (cc)
not_so false h = refl

-- what is told of all that is another's, or a scalar
scalar_bare : (b : Ty) → is_scalar b ≡ true → IsBare b
scalar_bare Num h = refl
scalar_bare (Cell Num) h = refl
scalar_bare (Cell (Cell a)) h = refl
scalar_bare (Cell (Obj c)) h = no_true h
scalar_bare (Cell (Raw c)) h = refl
scalar_bare (Cell (Row m a)) h = refl
scalar_bare (Cell Clu) h = refl
scalar_bare (Cell Pro) h = refl
scalar_bare (Obj c) h = no_true h
scalar_bare (Raw c) h = refl
scalar_bare (Row m a) h = no_true h
scalar_bare Clu h = refl
scalar_bare Pro h = refl

bare_told : (m : Exec) (z : Value) (b : Ty) → ((of_others m z && is_bare b) || is_scalar b) ≡ true → IsBare b
bare_told m z b h =
    ⊎_elim (λ e. right_both (of_others m z) (is_bare b) e) (λ e. scalar_bare b e) (one_true (of_others m z && is_bare b) (is_scalar b) h)

-- the home of the program's main object
main_place : (c : Option ℕ) (n : Exec) (o : Owner) (l : List Link) (b : Ty) → is_main_home c n o l b ≡ true → (n ≡ main_of 0) × (Place o l ≡ Place (Fields 0) [])
main_place None n o l b h = no_true h
main_place (Some c) n (Frame m d) l b h = no_true h
main_place (Some c) n (Fields o) (x ∷ l) b h = no_true h
main_place (Some c) n (Fields o) [] (Cell (Obj d)) h = (
  same_exec n (main_of 0) (left_both (exec_eq n (main_of 0)) (nat_eq o 0 && nat_eq d c) h),
  ap (λ k. Place (Fields k) []) (eqb-true o 0 (left_both (nat_eq o 0) (nat_eq d c) (right_both (exec_eq n (main_of 0)) (nat_eq o 0 && nat_eq d c) h))),
)
main_place (Some c) n (Fields o) [] Num h = no_true h
main_place (Some c) n (Fields o) [] (Cell Num) h = no_true h
main_place (Some c) n (Fields o) [] (Cell (Cell a)) h = no_true h
main_place (Some c) n (Fields o) [] (Cell (Raw d)) h = no_true h
main_place (Some c) n (Fields o) [] (Cell (Row m a)) h = no_true h
main_place (Some c) n (Fields o) [] (Cell Clu) h = no_true h
main_place (Some c) n (Fields o) [] (Cell Pro) h = no_true h
main_place (Some c) n (Fields o) [] (Obj d) h = no_true h
main_place (Some c) n (Fields o) [] (Raw d) h = no_true h
main_place (Some c) n (Fields o) [] (Row m a) h = no_true h
main_place (Some c) n (Fields o) [] Clu h = no_true h
main_place (Some c) n (Fields o) [] Pro h = no_true h

-- what is told of places and objects
module _ (c : Option ℕ) (more : Exec → Value → Ty → Bool) where
  places_apart : (n : Exec) (z : Value) (b : Ty) → on_places c more n z b ≡ true → ((n ≡ main_of 0) × (z ≡ Place (Fields 0) [])) ⊎ (more n z b ≡ true)
  places_apart n (Number y) b h = no_true h
  places_apart n (Place o l) b h = ⊎_elim (λ e. inl (main_place c n o l b e)) (λ e. inr e) (one_true (is_main_home c n o l b) (more n (Place o l) b) h)
  places_apart n (Running y) b h = no_true h
  places_apart n (Object y) (Raw d) h = inr h
  places_apart n (Object y) b h = no_true h
  places_apart n Nothing b h = no_true h

placed : (v : Value) → is_place v ≡ true → IsPlace v
placed (Place o l) h = tt
placed v h = no_true h

module _ (p : Program) (formed : IsFormed p) (ok : breaks_of p ≡ []) (input : List ℕ) (opts : Options) (range : InRange opts) (j : Journal) (w : World) (r : Runs (source_of p) input opts j w) (fits : RunFits (source_of p) input opts j w r) (on : is_over j ≡ false) (q u n : ℕ) (s : State) (asked : Asked) (d : AsksIn (source_of p) opts j w q u n s asked) where
  abbrev few : Few
  few = few_of p input opts j w r (based p input opts r d)

  abbrev Homes : ℕ → Value
  Homes o = home_of (source_of p) input opts j w r o

  abbrev pub Free : Exec → Value → Type 0
  Free m z = open_to p input opts r d m z ≡ true

  -- nothing bars it on the way
  abbrev Way : Exec → Value → Bool
  Way m z = not (way_bars Homes (source_of p) input opts r d m z)

  -- seats are not whole
  raw : (m : Exec) (z : Value) (b : Ty) → seated p input opts r d m z b ≡ true → IsBare b
  raw m z b h =
      ⊎_elim (λ e. run_raw (table_of p) (source_of p) input opts r m z b e) (λ e. ride_raw (table_of p) d.rides m z b e) (one_true (run_seats (table_of p) (source_of p) input opts r m z b) (ride_seats (table_of p) d.rides m z b) h)

  free_place : (m : Exec) (z : Value) → Free m z → IsPlace z × Free m z
  free_place m z f = (placed z (left_both (is_place z) (Way m z || has_read p input opts r d m z) f), f)

  either_so : (m : Exec) (z : Value) → Free m z → (Way m z ≡ true) ⊎ (has_read p input opts r d m z ≡ true)
  either_so m z f = one_true (Way m z) (has_read p input opts r d m z) (right_both (is_place z) (Way m z || has_read p input opts r d m z) f)

  -- what is told nothing bars, or no mutex object is at home in it
  apart : (m : Exec) (z : Value) (b : Ty) → based p input opts r d m z b ≡ true → (IsPlace z × Free m z) ⊎ IsBare b
  apart m z b h =
      ⊎_elim
      (λ k. inr (raw m z b k))
      (λ k. ⊎_elim (λ f. inl (free_place m z f)) (λ e. inr (bare_told m z b e)) (one_true (open_to p input opts r d m z) ((of_others m z && is_bare b) || is_scalar b) k))
      (one_true (seated p input opts r d m z b) (open_to p input opts r d m z || ((of_others m z && is_bare b) || is_scalar b)) h)

  rests : (m : Exec) (z : Value) (b : Ty) → Base few m z b → ((m ≡ main_of 0) × (z ≡ Place (Fields 0) [])) ⊎ ((IsPlace z × Free m z) ⊎ IsBare b)
  rests m z b h =
      ⊎_elim (λ e. inl e) (λ e. inr (apart m z b e)) (places_apart (main_class p) (based p input opts r d) m z b h)

  -- objects are told as seats alone
  of_seats : (m : Exec) (o c : ℕ) → Base few m (Object o) (Raw c) → seated p input opts r d m (Object o) (Raw c) ≡ true
  of_seats m o c h = ⊎_elim (λ e. e) (λ e. no_true e) (one_true (seated p input opts r d m (Object o) (Raw c)) false h)

  pub made_for : (m : Exec) (o c : ℕ) → Base few m (Object o) (Raw c) → IsMadeFor m o
  made_for m o c h =
      ⊎_elim (λ e. run_told (table_of p) (source_of p) input opts r m o (Raw c) e) (λ e. ride_told (table_of p) d.rides m o (Raw c) e) (one_true (run_seats (table_of p) (source_of p) input opts r m (Object o) (Raw c)) (ride_seats (table_of p) d.rides m (Object o) (Raw c)) (of_seats m o c h))

  nobodys : (m : Exec) → Belongs few m (few.home 0) → ⊥
  nobodys m h = (law_telling p formed ok input opts j w r (based p input opts r d)).nobodys m h

  open_way : (m : Exec) (z : Value) → Way m z ≡ true → way_bars Homes (source_of p) input opts r d m z ≡ false
  open_way m z f = not_so (way_bars Homes (source_of p) input opts r d m z) f

  abbrev Reads : Journal → World → ℕ → State → Type 0
  Reads i x v s = ReadsOpen few (source_of p) (has_read p input opts r d) i x v s

  open_so_far : RunHoldsOnWay Reads (source_of p) input opts r → RunHoldsOnWay (λ i x v s. (m : Exec) (z : Value) → Free m z → AsksOpen few s s.run.control z (bars_by Homes (source_of p) i x v s.run.control s m z ≡ false)) (source_of p) input opts r
  open_so_far h =
      run_open few (source_of p) input opts Free Way (has_read p input opts r d) either_so r (λ m z f. left_false (run_bars Homes (source_of p) input opts r m z) (ride_bars Homes (source_of p) j w u d.rides m z) (open_way m z f)) h

  -- so what executions have of others is not asked of ways
  pub ways_elsewhere : RunHoldsOnWay Reads (source_of p) input opts r → RunMeets (λ v. BareOnWay (table_of p) few v (source_of p)) (source_of p) input opts j w r
  ways_elsewhere h =
      run_elsewhere (table_of p) few Free rests made_for nobodys (source_of p) input opts range r fits (open_so_far h)

  pub ways_unless : RunHoldsOnWay Reads (source_of p) input opts r → RunHoldsOnWay (λ j w u v. UnlessMade (table_of p) few v j w u) (source_of p) input opts r
  ways_unless h =
      run_unless (table_of p) few Free rests made_for nobodys (source_of p) input opts range r fits (open_so_far h)

  -- nor of who raises an event
  abbrev pub BarsNone : State → Type 0
  BarsNone v = (m : Exec) (z : Value) → Free m z → AsksOpen few v v.run.control z (bars_by Homes (source_of p) j w u v.run.control v m z ≡ false)

  pub bars_none : RideMeets (Reads j w u) (source_of p) (answered (source_of p) d.given (drawn j w u)) (left opts j u) s n asked d.rides → RideMeets BarsNone (source_of p) (answered (source_of p) d.given (drawn j w u)) (left opts j u) s n asked d.rides
  bars_none h =
      ride_open few (source_of p) input opts Free Way (has_read p input opts r d) either_so j w u d.rides (λ m z f. right_false (run_bars Homes (source_of p) input opts r m z) (ride_bars Homes (source_of p) j w u d.rides m z) (open_way m z f)) h

  pub way_elsewhere : RideMeets (Reads j w u) (source_of p) (answered (source_of p) d.given (drawn j w u)) (left opts j u) s n asked d.rides → RideMeets (λ v. BareOnWay (table_of p) few v (source_of p)) (source_of p) (answered (source_of p) d.given (drawn j w u)) (left opts j u) s n asked d.rides
  way_elsewhere h =
      ride_elsewhere (table_of p) few Free rests made_for nobodys (source_of p) j w u (run_first (source_of p) input opts range r fits on) d.rides (bars_none h)

  pub holds_none : (v : State) → BarsNone v → (todo : List Todo) (o : ℕ) → v.run.control ≡ piece.RaiseAtNow ∷ todo → top v.run.operands ≡ Object o → owner o j ≡ [] → o < object_count j → is_gone o j ≡ false → (e : Exec) → Belongs few e (few.home o) → (c : ℕ) → Stands (table_of p) few (Base few v.env.exec) (Cell (Obj c)) (few.home o) → ⊥
  holds_none v free todo o c operand none there stays e belongs =
      unheld (table_of p) few Free rests made_for nobodys (source_of p) j w u v free todo o c operand none there stays e belongs

  -- an object that an execution has so is of a class that has executions, or the execution is the main of its task
  pub executed : (m : Exec) (o c : ℕ) → Base few m (Object o) (Raw c) → ((table_of p).executes c ≡ true) ⊎ (m ≡ main_of o)
  executed m o c h =
      ⊎_elim (λ e. run_executed (table_of p) (source_of p) input opts r m o c e) (λ e. ride_executed (table_of p) d.rides m o c e) (one_true (run_seats (table_of p) (source_of p) input opts r m (Object o) (Raw c)) (ride_seats (table_of p) d.rides m (Object o) (Raw c)) (of_seats m o c h))
