-- Every run that takes away no running execution brings a world in which each task's is there, and alone without what it has to do.
use Rattle.std.proofs.Common.{◌≡◌, ℕ, ◌==◌, ◌<◌, ◌≤◌, ◌||◌, Bool, true, false, List, [], ◌∷◌, ◌++◌, Option, Some, None, refl, sym, ap, ◌∙◌, subst, arith, ⊎_elim}
use Rattle.std.specs.Prelude.{nat_eq, if◌then◌else◌}
use Rattle.std.proofs.lemmas.Bool.{eqb-true, eq-eqb, ne_eqb, cases_lt}
use Rattle.uc_tree.specs.Source.{Source, Routine, routine_of}
use Rattle.uc_entry.specs.declared.entry.Entry.{Entry}
use Rattle.uc_entry.specs.declared.entry.EntryKind.{EntryKind}
use Rattle.uc_entry.specs.declared.entry.EntryKind.TheVariants as kind
use Rattle.uc_entry.specs.declared.entry.Options.{Options}
use Rattle.uc_entry.specs.declared.request.Answer.{Answer}
use Rattle.uc_entry.specs.declared.request.Asked.{Asked}
use Rattle.uc_entry.specs.declared.request.Request.{Request}
use Rattle.uc_entry.specs.declared.request.Request.TheVariants as ask
use Rattle.uc_entry.specs.Keyed.{find}
use Rattle.uc_acts.specs.Journal.{Journal, begin, held, inside, is_over, own_object, cost}
use Rattle.uc_acts.specs.Known.{has, object_count, task_count, spawns, takes_out, takes_object, is_gone_by}
use Rattle.uc_acts.specs.Doors.{blocked}
use Rattle.uc_acts.specs.Queues.{running}
use Rattle.uc_acts.specs.Answers.{answer_to}
use Rattle.uc_acts.specs.Serves.{Serves}
use Rattle.uc_acts.proofs.Hush.{is_silent}
use Rattle.uc_acts.specs.Sound.{Sound}
use Rattle.uc_acts.specs.Acts.{act, dispatch, lone_limit, row}
use Rattle.uc_acts.specs.Laws.{Makes}
use Rattle.uc_acts.specs.KernelRuns.{InRange, Fits, MayAsk}
use Rattle.uc_acts.proofs.Acting.{is_quiet, object_of, destroys, AllBy, by_act}
use Rattle.uc_acts.proofs.Bounds.{over_limit}
use Rattle.uc_acts.proofs.Given.{law_dispatch}
use Rattle.uc_acts.proofs.Held.{law_held}
use Rattle.uc_acts.proofs.Law.{good_whole, lawful_act}
use Rattle.uc_acts.proofs.Living.{going_row}
use Rattle.uc_acts.proofs.SoundLemmas.{tasks_push}
use Rattle.uc_machine.specs.declared.exec.Exec.{Exec}
use Rattle.uc_machine.specs.declared.exec.Home.{Home}
use Rattle.uc_machine.specs.declared.exec.Home.TheVariants as home
use Rattle.uc_machine.specs.Executions.{home_eq, members_at, slot_in}
use Rattle.uc_machine.specs.Pieces.{State, Members}
use Rattle.uc_machine.specs.Quiet.{zeros, first_state}
use Rattle.uc_machine.specs.Rides.{Rides, slices, goes_on, ticks, asks}
use Rattle.uc_machine.specs.Answering.{answered, child_of, child_main, with_hand}
use Rattle.uc_meaning.specs.Runs.{World, Runs, AsksIn, gives, no_room, acts, begun, more, first_world, first_home, with_home, hand_of, drawn, bare, or_else, world_after}
use Rattle.uc_step_laws.specs.Hands.{keys}
use Rattle.uc_state_laws.specs.Fitting.{RunFits}
use Rattle.uc_state_laws.proofs.Ticks.{not_true}
use Rattle.uc_state_laws.proofs.Makes.{same_holder, makes}
use Rattle.uc_state_laws.proofs.ProgramWorlds.{none_found}
use Rattle.uc_state_laws.proofs.Others.{RunRests, run_rests, may_ask, asking as asks_with}
use Rattle.uc_state_laws.proofs.DeepWorlds.{DeepWorld, deep_run, spawns_none, spawned_by}
use Rattle.uc_state_laws.specs.Opens.{RideMeets, RunMeets}
use Rattle.uc_name_laws.specs.Below.{slot_at, RunsAlone}
use Rattle.uc_name_laws.specs.NameSteps.{Named, Outside, Spares}
use Rattle.uc_name_laws.proofs.Homes.{no_both, none_some, the_same}
use Rattle.uc_name_laws.proofs.Telling.{law_told}
use Rattle.uc_life_laws.specs.NamedRuns.{is_here}
use Rattle.uc_life_laws.specs.RunningRuns.{LeavesHome, RunLeaves, LawRunningRuns}
use Rattle.uc_life_laws.proofs.Owned.{tasks_grow}
use Rattle.uc_life_laws.proofs.Riding.{RideNamed, ride_named, leads_named}
use Rattle.uc_life_laws.proofs.Insiders.{others_inside, apart_inside, signal_inside}
use Rattle.uc_life_laws.proofs.NamedWorlds.{WorldNamed, run_named, known, held_made, drawn_named, brings, found_home, absent_home, found_none, own_spawn}

abbrev pub exec_of : Home → ℕ → Exec
exec_of h k = record { home = h; serial = k }

turned : (a b : ℕ) → nat_eq a b ≡ false → nat_eq b a ≡ false
turned a b f = not_true (nat_eq b a) (λ g. no_both (nat_eq a b) (eq-eqb a b (sym (eqb-true b a g))) f)

-- hands

present_home : (os : List ℕ) (homes : ℕ → Option Members) (o : ℕ) (m : Members) → has os o ≡ true → homes o ≡ Some m → find o (hand_of os homes) ≡ Some m
present_home [] homes o m h e = cc
present_home (k ∷ os) homes o m h e = by (k == o) refl h (λ i. present_home os homes o m i e)
  where
    by : (b : Bool) → (k == o) ≡ b → (b || has os o) ≡ true → (has os o ≡ true → find o (hand_of os homes) ≡ Some m) → find o (with_home k (homes k) (hand_of os homes)) ≡ Some m
    by true g h ih = ap (λ x. find o (with_home k x (hand_of os homes))) (ap homes (eqb-true k o g) ∙ e) ∙ ap (λ c. if c then Some m else find o (hand_of os homes)) g
    by false g h ih = at (homes k)
      where
        at : (x : Option Members) → find o (with_home k x (hand_of os homes)) ≡ Some m
        at None = ih h
        at (Some y) = ap (λ c. if c then Some y else find o (hand_of os homes)) g ∙ ih h

found_keys : (o : ℕ) (ps : List (ℕ × Members)) (m : Members) → find o ps ≡ Some m → has (keys ps) o ≡ true
found_keys o ps m e = by (has (keys ps) o) refl
  where
    by : (b : Bool) → has (keys ps) o ≡ b → has (keys ps) o ≡ true
    by true f = f
    by false f = none_some m (find o ps) (none_found o ps f) e

-- what a slot at a home stands in
record Slot (k : ℕ) (o : Option Members) : Type 0 where
  members : Members
  is : o ≡ Some members
  empty : find k members.parked ≡ Some None

slot_of : (k : ℕ) (o : Option Members) → slot_in k o ≡ Some None → Slot k o
slot_of k None e = absurd (none_some None (slot_in k None) refl e)
slot_of k (Some m) e = record { members = m; is = refl; empty = e }

to_slot : (k : ℕ) (o : Option Members) (m : Members) → o ≡ Some m → find k m.parked ≡ Some None → slot_in k o ≡ Some None
to_slot k o m e f = ap (slot_in k) e ∙ f

held_of : (os : List ℕ) (homes : ℕ → Option Members) (o : ℕ) (m : Members) → find o (hand_of os homes) ≡ Some m → has os o ≡ true
held_of os homes o m e = by (has os o) refl
  where
    by : (b : Bool) → has os o ≡ b → has os o ≡ true
    by true f = f
    by false f = none_some m (find o (hand_of os homes)) (absent_home os homes o f) e

-- the home in the task

own_home : (v : State) (k : ℕ) → find k v.env.house.parked ≡ Some None → slot_at (exec_of (home.Task v.env.own) k) v.env ≡ Some None
own_home v k e = to_slot k (members_at (home.Task v.env.own) v.env) v.env.house (ap (λ b. if b then Some v.env.house else None) (eq-eqb v.env.own v.env.own refl)) e

house_of : (v : State) → RunsAlone true v.env.exec v.env → (k : ℕ) → find k v.env.house.parked ≡ Some None → v.env.exec ≡ exec_of (home.Task v.env.own) k
house_of v x k e = sym (x.alone refl (exec_of (home.Task v.env.own) k) (own_home v k e))

first_alone : (r : Routine) (o : ℕ) → RunsAlone true (first_state r o).env.exec (first_state r o).env
first_alone r o = let y = law_told.begins (λ h. true) (λ h. 1) r o refl refl in y.runs

-- the entry that takes an object out is of that
gone_of : (p t o : ℕ) (A : Type 0) (g : Bool) (q : ℕ) (a : List Entry) → AllBy p t o A g a → takes_out a q ≡ true → (g ≡ true) × (o ≡ q)
gone_of p t o A g q [] b h = absurd (cc)
gone_of p t o A g q (e ∷ a) b h = by (takes_object e.kind e q) refl h (gone_of p t o A g q a b.1)
  where
    this : (k : EntryKind) → k ≡ e.kind → takes_object k e q ≡ true → (g ≡ true) × (o ≡ q)
    this kind.Gone s i =
        let d = b.0.door (ap is_silent (sym s)) in
        (b.0.gone (ap is_gone_by (sym s)), sym d.0 ∙ sym (eqb-true q e.object i))
    this k s i = absurd (cc)

    by : (c : Bool) → takes_object e.kind e q ≡ c → (c || takes_out a q) ≡ true → (takes_out a q ≡ true → (g ≡ true) × (o ≡ q)) → (g ≡ true) × (o ≡ q)
    by true i h ih = this e.kind refl i
    by false i h ih = ih h

-- an execution of this name runs in some task
pub record Runner (j : Journal) (w : World) (o k : ℕ) : Type 0 where
  pub task : ℕ
  pub known : task < task_count j
  pub is : (w.tasks task).env.exec ≡ exec_of (home.Object o) k

pub record WorldRuns (j : Journal) (w : World) : Type 0 where
  pub there : (t : ℕ) → t < task_count j → slot_at (w.tasks t).env.exec (drawn j w t).env ≡ Some None
  pub house : (t : ℕ) → t < task_count j → (k : ℕ) → find k (w.tasks t).env.house.parked ≡ Some None → (w.tasks t).env.exec ≡ exec_of (home.Task (w.tasks t).env.own) k
  pub homes : (o : ℕ) (m : Members) (k : ℕ) → w.homes o ≡ Some m → find k m.parked ≡ Some None → Runner j w o k

abbrev is_signal : Request → Bool
is_signal (ask.Signal o c) = true
is_signal q = false

module _ (source : Source) (input : List ℕ) (opts : Options) (range : InRange opts) where
  module _ {j : Journal} {w : World} (x : WorldRuns j w) where
    -- whose execution is at home in an object holds that
    holds_home : (t o k : ℕ) → t < task_count j → (w.tasks t).env.exec ≡ exec_of (home.Object o) k → has (held t j) o ≡ true
    holds_home t o k lt e =
        let at : slot_in k (find o (hand_of (held t j) w.homes)) ≡ Some None = ap (λ n. slot_at n (drawn j w t).env) (sym e) ∙ x.there t lt in
        let y = slot_of k (find o (hand_of (held t j) w.homes)) at in
        held_of (held t j) w.homes o y.members y.is

    pub drawn_alone : Sound j → (t : ℕ) → t < task_count j → RunsAlone true (w.tasks t).env.exec (drawn j w t).env
    drawn_alone sound t lt = record { alone = λ u m i. at m.home m.serial i; there = λ u. x.there t lt }
      where
        task : (a k : ℕ) (b : Bool) → nat_eq a (w.tasks t).env.own ≡ b → slot_in k (if b then Some (w.tasks t).env.house else None) ≡ Some None → exec_of (home.Task a) k ≡ (w.tasks t).env.exec
        task a k true g i = ap (λ q. exec_of (home.Task q) k) (eqb-true a (w.tasks t).env.own g) ∙ sym (x.house t lt k i)
        task a k false g i = none_some None (slot_in k None) refl i

        at : (h : Home) (k : ℕ) → slot_in k (members_at h (drawn j w t).env) ≡ Some None → exec_of h k ≡ (w.tasks t).env.exec
        at (home.Task a) k i = task a k (nat_eq a (w.tasks t).env.own) refl i
        at (home.Object o) k i =
            let y = slot_of k (find o (hand_of (held t j) w.homes)) i in
            let r = x.homes o y.members k (found_home (held t j) w.homes o y.members y.is) y.empty in
            let same : r.task ≡ t = same_holder j t r.task o sound (held_of (held t j) w.homes o y.members y.is) (holds_home r.task o k r.known r.is) in
            sym r.is ∙ ap (λ v. (w.tasks v).env.exec) same

  module _ {j : Journal} {w : World} (r : RunRests source input opts j w) (going : is_over j ≡ false) (serials : Home → ℕ) (y : WorldNamed serials j w) (x : WorldRuns j w) (p t : ℕ) (runs : running p j ≡ t ∷ []) (given : Answer) (told : answer_to source.sites t j ≡ Some given) where
    pub begins_alone : Named (is_here (w.tasks t).env.own (held t j)) true serials (answered source given (drawn j w t))
    begins_alone =
        let sound = (good_whole opts source.sites input r.kernel).sound in
        let lt = known source input opts range r going serials y p t runs in
        let names = drawn_named source input opts range r going serials y p t runs in
        law_told.told source (is_here (w.tasks t).env.own (held t j)) true serials given (drawn j w t) (record { names = names.names; runs = drawn_alone x sound t lt }) (brings source input opts range r going serials y p t runs given told)

  module _ {j : Journal} {w : World} (r : RunRests source input opts j w) (going : is_over j ≡ false) (deep : DeepWorld j w) (serials : Home → ℕ) (y : WorldNamed serials j w) (x : WorldRuns j w) (p t n : ℕ) (s : State) (asked : Asked) (d : AsksIn source opts j w p t n s asked) (f : Fits opts source.sites j t asked.request) (on : is_over (j ++ act opts source.sites input j p t n asked) ≡ false) (leaves : LeavesHome (own_object t j) asked.request s.env) (spares : RideMeets Spares source (answered source d.given (drawn j w t)) _ s n asked d.rides) where
    abbrev a : List Entry
    a = act opts source.sites input j p t n asked

    abbrev after : World
    after = world_after source (act opts source.sites input j p t n asked) w t s

    sound : Sound j
    sound = (good_whole opts source.sites input r.kernel).sound

    m : MayAsk opts source.sites j p t n asked.request
    m = may_ask source input opts range d f

    lt : t < task_count j
    lt = known source input opts range r going serials y p t d.runs

    ride : RideNamed source (is_here (w.tasks t).env.own (held t j)) true serials (answered source d.given (drawn j w t)) _ s n asked d.rides
    ride = ride_named source (is_here (w.tasks t).env.own (held t j)) true serials d.rides (begins_alone r going serials y x p t d.runs d.given d.told) (λ u. spares)

    alone : RunsAlone true s.env.exec s.env
    alone = ride.named.runs

    made_by : Makes j (act opts source.sites input j p t n asked) t
    made_by = makes opts source.sites input j p t n asked r.kernel m on

    by_this : AllBy p t (object_of t j asked.request) (is_quiet asked.request ≡ false) (destroys asked.request) (act opts source.sites input j p t n asked)
    by_this = by_act opts source.sites input j p t n (is_quiet asked.request ≡ false) asked (λ h. h)

    in_hand : (o : ℕ) → has (keys s.env.hand) o ≡ has (held t j) o
    in_hand o = ap (λ l. has l o) (asks_with source input opts range r going p t n s asked d).hand

    -- what is asked is of another object than the home
    apart : (o : ℕ) → s.env.exec.home ≡ home.Object o → has (inside o j) t ≡ true → o < object_count j → (q : Request) → Fits opts source.sites j t q → Outside q s.env → LeavesHome (own_object t j) q s.env → is_signal q ≡ false → is_quiet q ≡ false → (object_of t j q == o) ≡ false
    apart o e i le (ask.Make class) g u l z h = ne_eqb (object_count j) o (λ same. omega (arith, le, same))
    apart o e i le (ask.Made k) g u l z h = turned o k (ap (λ v. home_eq v (home.Object k)) (sym e) ∙ u)
    apart o e i le (ask.Spawn k) g u l z h = turned o k (ap (λ v. home_eq v (home.Object k)) (sym e) ∙ u)
    apart o e i le (ask.Call k c) g u l z h = not_true (k == o) (λ same. no_both (has (inside o j) t) i (ap (λ v. has (inside v j) t) (sym (eqb-true k o same)) ∙ g.0.outside))
    apart o e i le (ask.Leave k c) g u l z h = turned o k (ap (λ v. home_eq v (home.Object k)) (sym e) ∙ u)
    apart o e i le (ask.Accept k c v) g u l z h = turned o k (ap (λ v. home_eq v (home.Object k)) (sym e) ∙ u)
    apart o e i le (ask.Wait k c v) g u l z h = turned o k (ap (λ v. home_eq v (home.Object k)) (sym e) ∙ u)
    apart o e i le (ask.Signal k c) g u l z h = cc
    apart o e i le (ask.SignalBlock k c) g u l z h = turned o k (ap (λ v. home_eq v (home.Object k)) (sym e) ∙ u)
    apart o e i le ask.End g u l z h = turned o (own_object t j) (ap (λ v. home_eq v (home.Object (own_object t j))) (sym e) ∙ l)
    apart o e i le (ask.Gone k) g u l z h = turned o k (ap (λ v. home_eq v (home.Object k)) (sym e) ∙ l)
    apart o e i le q g u l z h = cc

    -- who is at home in an object stays inside it
    stays_inside : (o : ℕ) → s.env.exec.home ≡ home.Object o → has (held t j) o ≡ true → has (held t (j ++ act opts source.sites input j p t n asked)) o ≡ true
    stays_inside o e h = (law_held (j ++ a)).inside t o ∙ by asked.request refl (is_signal asked.request) refl
      where
        i : has (inside o j) t ≡ true
        i = sym ((law_held j).inside t o) ∙ h

        signal : (k c : ℕ) → asked.request ≡ ask.Signal k c → has (inside o (j ++ act opts source.sites input j p t n asked)) t ≡ true
        signal k c g =
            let is = (going_row opts source.sites input j p t n asked on).0 ∙ ap (row opts source.sites input j p t (cost n asked.line) asked.line) g in
            ap (λ l. has (inside o (j ++ l)) t) is ∙ signal_inside p t (cost n asked.line) k c o (blocked k c j) j i

        by : (q : Request) → asked.request ≡ q → (b : Bool) → is_signal q ≡ b → has (inside o (j ++ act opts source.sites input j p t n asked)) t ≡ true
        by q g false z =
            apart_inside p t (object_of t j asked.request) (is_quiet asked.request ≡ false) (destroys asked.request) o j a (λ c. apart o e i (held_made source input opts range r going serials y p t d.runs o h) asked.request f ride.out leaves (ap is_signal g ∙ z) c) by_this i
        by (ask.Signal k c) g true z = signal k c g
        by q g true z = no_both (is_signal q) z refl

    -- it is not taken out
    not_taken : (o : ℕ) → s.env.exec.home ≡ home.Object o → takes_out (act opts source.sites input j p t n asked) o ≡ false
    not_taken o e = not_true (takes_out a o) (λ h. let g = gone_of p t (object_of t j asked.request) (is_quiet asked.request ≡ false) (destroys asked.request) o a by_this h in gone asked.request leaves g.0 g.1)
      where
        gone : (q : Request) → LeavesHome (own_object t j) q s.env → destroys q ≡ true → object_of t j q ≡ o → ⊥
        gone (ask.Gone k) l g same =
            no_both (home_eq s.env.exec.home (home.Object k)) (ap (λ v. home_eq v (home.Object k)) e ∙ eq-eqb o k (sym same)) l
        gone q l g same = cc

    -- the task that asked
    own_there : slot_at s.env.exec (with_hand (hand_of (held t (j ++ act opts source.sites input j p t n asked)) (world_after source (act opts source.sites input j p t n asked) w t s).homes) (bare s)).env ≡ Some None
    own_there = at s.env.exec.home refl (alone.there refl)
      where
        at : (h : Home) → s.env.exec.home ≡ h → slot_in s.env.exec.serial (members_at h s.env) ≡ Some None → slot_in s.env.exec.serial (members_at h (with_hand (hand_of (held t (j ++ act opts source.sites input j p t n asked)) (world_after source (act opts source.sites input j p t n asked) w t s).homes) (bare s)).env) ≡ Some None
        at (home.Task k) e i = i
        at (home.Object o) e i =
            let z = slot_of s.env.exec.serial (find o s.env.hand) i in
            let mine : has (held t j) o ≡ true = sym (in_hand o) ∙ found_keys o s.env.hand z.members z.is in
            let laid : after.homes o ≡ Some z.members = ap (λ b. if b then None else or_else (find o s.env.hand) (w.homes o)) (not_taken o e) ∙ ap (λ q. or_else q (w.homes o)) z.is in
            to_slot s.env.exec.serial _ z.members (present_home (held t (j ++ a)) after.homes o z.members (stays_inside o e mine) laid) z.empty

    -- another task
    other_there : (u : ℕ) → (u == t) ≡ false → u < task_count j → slot_at (w.tasks u).env.exec (with_hand (hand_of (held u (j ++ act opts source.sites input j p t n asked)) (world_after source (act opts source.sites input j p t n asked) w t s).homes) (w.tasks u)).env ≡ Some None
    other_there u g le = at (w.tasks u).env.exec.home (x.there u le)
      where
        at : (h : Home) → slot_in (w.tasks u).env.exec.serial (members_at h (drawn j w u).env) ≡ Some None → slot_in (w.tasks u).env.exec.serial (members_at h (with_hand (hand_of (held u (j ++ act opts source.sites input j p t n asked)) (world_after source (act opts source.sites input j p t n asked) w t s).homes) (w.tasks u)).env) ≡ Some None
        at (home.Task k) i = i
        at (home.Object o) i =
            let z = slot_of (w.tasks u).env.exec.serial (find o (hand_of (held u j) w.homes)) i in
            let theirs : has (held u j) o ≡ true = held_of (held u j) w.homes o z.members z.is in
            let not_mine : has (held t j) o ≡ false = not_true (has (held t j) o) (λ h. no_both (u == t) (eq-eqb u t (same_holder j t u o sound h theirs)) g) in
            let kept : takes_out a o ≡ false = not_true (takes_out a o) (λ h. no_both (has (held t j) o) (made_by.taken o h) not_mine) in
            let none : find o s.env.hand ≡ None = none_found o s.env.hand (in_hand o ∙ not_mine) in
            let laid : after.homes o ≡ Some z.members = ap (λ b. if b then None else or_else (find o s.env.hand) (w.homes o)) kept ∙ (ap (λ q. or_else q (w.homes o)) none ∙ found_home (held u j) w.homes o z.members z.is) in
            let still : has (held u (j ++ a)) o ≡ true = (law_held (j ++ a)).inside u o ∙ others_inside p t (object_of t j asked.request) (is_quiet asked.request ≡ false) (destroys asked.request) u o j a g le by_this (lawful_act opts source.sites input j p t n asked sound m) (sym ((law_held j).inside u o) ∙ theirs) in
            to_slot (w.tasks u).env.exec.serial _ z.members (present_home (held u (j ++ a)) after.homes o z.members still laid) z.empty

    -- a task behind the act
    record TaskAfter (u : ℕ) (v : State) : Type 0 where
      there : slot_at v.env.exec (with_hand (hand_of (held u (j ++ act opts source.sites input j p t n asked)) (world_after source (act opts source.sites input j p t n asked) w t s).homes) v).env ≡ Some None
      house : (k : ℕ) → find k v.env.house.parked ≡ Some None → v.env.exec ≡ exec_of (home.Task v.env.own) k

    old_state : (u : ℕ) → (u == t) ≡ false → u < task_count j → (world_after source (act opts source.sites input j p t n asked) w t s).tasks u ≡ w.tasks u
    old_state u h le =
        let none : spawns a u ≡ false = spawns_none j a u (lawful_act opts source.sites input j p t n asked sound m) le in
        ap (λ b. if b then bare s else if spawns a u then child_of source (own_object u a) s else w.tasks u) h ∙ ap (λ b. if b then child_of source (own_object u a) s else w.tasks u) none

    task_after : (u : ℕ) → u < task_count (j ++ act opts source.sites input j p t n asked) → TaskAfter u ((world_after source (act opts source.sites input j p t n asked) w t s).tasks u)
    task_after u behind = by (u == t) refl
      where
        born : task_count j ≤ u → TaskAfter u ((world_after source (act opts source.sites input j p t n asked) w t s).tasks u)
        born le =
            let b = spawned_by source input opts range r going deep p t n s asked d f on u le behind in
            let known_t = lt in
            let other : (u == t) ≡ false = ne_eqb u t (λ same. omega (arith, le, same, known_t)) in
            let spawns_it : spawns a u ≡ true = ap (λ l. spawns l u) b.entries ∙ ap (λ c. c || false) b.test in
            let own_object_is : own_object u a ≡ b.object = ap (own_object u) b.entries ∙ own_spawn p t (cost n asked.line) b.object (task_count j) u b.test in
            let state : after.tasks u ≡ child_of source b.object s = ap (λ c. if c then bare s else if spawns a u then child_of source (own_object u a) s else w.tasks u) other ∙ (ap (λ c. if c then child_of source (own_object u a) s else w.tasks u) spawns_it ∙ ap (λ o. child_of source o s) own_object_is) in
            let z = first_alone (routine_of source (child_main source s.run.control)) b.object in
            subst (TaskAfter u) (sym state) (record { there = z.there refl; house = λ k e. house_of (child_of source b.object s) z k e })

        by : (b : Bool) → (u == t) ≡ b → TaskAfter u ((world_after source (act opts source.sites input j p t n asked) w t s).tasks u)
        by true h =
            let state : after.tasks u ≡ bare s = ap (λ b. if b then bare s else if spawns a u then child_of source (own_object u a) s else w.tasks u) h in
            let this : t ≡ u = sym (eqb-true u t h) in
            subst (TaskAfter u) (sym state) (subst (λ v. TaskAfter v (bare s)) this (record { there = own_there; house = λ k e. house_of s alone k e }))
        by false h =
            ⊎_elim (λ le. subst (TaskAfter u) (sym (old_state u h le)) (record { there = other_there u h le; house = x.house u le })) (λ le. born le) (cases_lt u (task_count j))

    homes_after : (o : ℕ) (q : Members) (k : ℕ) → (world_after source (act opts source.sites input j p t n asked) w t s).homes o ≡ Some q → find k q.parked ≡ Some None → Runner (j ++ act opts source.sites input j p t n asked) (world_after source (act opts source.sites input j p t n asked) w t s) o k
    homes_after o q k e g = out (takes_out a o) e
      where
        grown : (v : ℕ) → v < task_count j → v < task_count (j ++ act opts source.sites input j p t n asked)
        grown v le = let c = tasks_grow j a in omega (arith, le, c)

        mine : find o s.env.hand ≡ Some q → Runner (j ++ act opts source.sites input j p t n asked) (world_after source (act opts source.sites input j p t n asked) w t s) o k
        mine i = record {
          task = t;
          known = grown t lt;
          is = ap (λ v. v.env.exec) (ap (λ b. if b then bare s else if spawns a t then child_of source (own_object t a) s else w.tasks t) (eq-eqb t t refl)) ∙ sym (alone.alone refl (exec_of (home.Object o) k) (to_slot k (find o s.env.hand) q i g));
        }

        theirs : find o s.env.hand ≡ None → Runner j w o k → Runner (j ++ act opts source.sites input j p t n asked) (world_after source (act opts source.sites input j p t n asked) w t s) o k
        theirs i z =
            let other : (z.task == t) ≡ false = not_true (z.task == t) (λ h. no_both (has (held t j) o) (ap (λ v. has (held v j) o) (sym (eqb-true z.task t h)) ∙ holds_home x z.task o k z.known z.is) (sym (in_hand o) ∙ found_none o s.env.hand i)) in
            record { task = z.task; known = grown z.task z.known; is = ap (λ v. v.env.exec) (old_state z.task other z.known) ∙ z.is }

        found : (b : Option Members) → find o s.env.hand ≡ b → or_else b (w.homes o) ≡ Some q → Runner (j ++ act opts source.sites input j p t n asked) (world_after source (act opts source.sites input j p t n asked) w t s) o k
        found None i e = theirs i (x.homes o q k e g)
        found (Some b) i e = mine (i ∙ e)

        out : (b : Bool) → (if b then None else or_else (find o s.env.hand) (w.homes o)) ≡ Some q → Runner (j ++ act opts source.sites input j p t n asked) (world_after source (act opts source.sites input j p t n asked) w t s) o k
        out true e = cc
        out false e = found (find o s.env.hand) refl e

    pub runs_act : WorldRuns (j ++ act opts source.sites input j p t n asked) (world_after source (act opts source.sites input j p t n asked) w t s)
    runs_act = record {
      there = λ u le. let z = task_after u le in z.there;
      house = λ u le. let z = task_after u le in z.house;
      homes = homes_after;
    }

  runs_given : {j : Journal} {w : World} → RunRests source input opts j w → (p t : ℕ) → Serves opts j p t → WorldRuns j w → WorldRuns (j ++ dispatch p t ∷ []) w
  runs_given {j} {w} r p t v x =
      let d = law_dispatch opts source.sites input j p t r.kernel v in
      let same = tasks_push j (dispatch p t) in
      record {
        there = λ u le. ap (λ l. slot_at (w.tasks u).env.exec (with_hand (hand_of l w.homes) (w.tasks u)).env) (d.objects u) ∙ x.there u (omega (arith, le, same));
        house = λ u le. x.house u (omega (arith, le, same));
        homes = λ o m k e f. let z = x.homes o m k e f in record { task = z.task; known = let le = z.known in omega (arith, le, same); is = z.is };
      }

  runs_begin : WorldRuns (begin opts ∷ []) (first_world source)
  runs_begin =
      let z = first_alone (routine_of source source.main) 0 in
      record {
        there = λ u le. z.there refl;
        house = λ u le k e. house_of (first_state (routine_of source source.main) 0) z k e;
        homes = λ o m k e f. absurd (homes o m k e f);
      }
    where
      homes : (o : ℕ) (m : Members) (k : ℕ) → first_home o ≡ Some m → find k m.parked ≡ Some None → ⊥
      homes o m k e f = by (o == 0) e
        where
          by : (b : Bool) → (if b then Some (zeros 0) else None) ≡ Some m → ⊥
          by true e = none_some None (find k (zeros 0).parked) refl (ap (λ q. find k q.parked) (the_same (zeros 0) m e) ∙ f)
          by false e = cc

  pub run_runs : {j : Journal} {w : World} (r : Runs source input opts j w) → RunFits source input opts j w r → is_over j ≡ false → RunLeaves source input opts j w r → RunMeets Spares source input opts j w r → WorldRuns j w
  run_runs begun f on l h = runs_begin
  run_runs (more {j} {w} r o (gives p t v le)) f on l h = runs_given (run_rests source input opts range r f.0 o) p t v (run_runs r f.0 o l.0 h.0)
  run_runs (more {j} r o (no_room p t v le)) f on l h = no_both (is_over (j ++ lone_limit ∷ [])) (over_limit j 0 0) on
  run_runs (more {j} {w} r o (acts p t n s asked d)) f on l h =
      let y = run_named source input opts range r f.0 o in
      runs_act (run_rests source input opts range r f.0 o) o (deep_run source input opts range r f.0 o) y.serials y.world (run_runs r f.0 o l.0 h.0) p t n s asked d f.1 on l.1 h.1

pub law_running_runs : LawRunningRuns
law_running_runs source input opts j w r range fits on leaves spares =
    let rests = run_rests source input opts range r fits on in
    let y = run_named source input opts range r fits on in
    let x = run_runs source input opts range r fits on leaves spares in
    let sound = (good_whole opts source.sites input rests.kernel).sound in
    record {
      rests = λ t lt. drawn_alone source input opts range x sound t lt;
      comes = λ t s c k.
          let z = leads_named source (is_here (w.tasks t).env.own (held t j)) true y.serials c.leads (begins_alone source input opts range rests on y.serials y.world x c.processor t c.runs c.given c.told) (λ u. k) in
          z.named.runs;
    }
