-- Every run brings a world in which each name is of an execution that was made.
use Rattle.std.proofs.Common.{◌≡◌, ℕ, suc, ◌==◌, ◌+◌, ◌<◌, ◌≤◌, ◌||◌, ◌⊎◌, inl, inr, Bool, true, false, List, [], ◌∷◌, ◌++◌, Option, Some, None, refl, sym, ap, ◌∙◌, subst, arith, ⊎_elim}
use Rattle.std.specs.Prelude.{nat_eq, pos, if◌then◌else◌}
use Rattle.std.specs.Option.{option_to_list}
use Rattle.std.specs.List.{filter}
use Rattle.std.proofs.lemmas.Bool.{eqb-true, eq-eqb, ne_eqb, cases_lt}
use Rattle.uc_tree.specs.Source.{Source, routine_of}
use Rattle.uc_entry.specs.declared.entry.Entry.{Entry}
use Rattle.uc_entry.specs.declared.entry.EntryKind.TheVariants as kind
use Rattle.uc_entry.specs.declared.entry.Options.{Options}
use Rattle.uc_entry.specs.declared.request.Answer.{Answer}
use Rattle.uc_entry.specs.declared.request.Answer.TheVariants as answer
use Rattle.uc_entry.specs.declared.request.Asked.{Asked}
use Rattle.uc_entry.specs.declared.request.Request.{Request}
use Rattle.uc_entry.specs.declared.request.Request.TheVariants as ask
use Rattle.uc_entry.specs.Keyed.{find}
use Rattle.uc_acts.specs.Journal.{Journal, Cost, begin, held, is_over, own_object, cost, asking, first_or_0, where_true}
use Rattle.uc_acts.specs.Known.{has, object_count, task_count, owner, spawns, takes_out}
use Rattle.uc_acts.specs.Queues.{running}
use Rattle.uc_acts.specs.Answers.{answer_to, just_made}
use Rattle.uc_acts.specs.Stations.{Running}
use Rattle.uc_acts.specs.Sound.{Sound, Each}
use Rattle.uc_acts.specs.Acts.{act, dispatch, lone_limit}
use Rattle.uc_acts.specs.Laws.{Makes}
use Rattle.uc_acts.specs.KernelRuns.{InRange, Fits, MayAsk}
use Rattle.uc_acts.proofs.Bounds.{over_limit}
use Rattle.uc_acts.proofs.Law.{good_whole, lawful_act}
use Rattle.uc_acts.proofs.Making.{law_new}
use Rattle.uc_acts.proofs.Living.{going_row}
use Rattle.uc_acts.proofs.Counted.{law_made, counted_run}
use Rattle.uc_acts.proofs.Moves.{first_at, known_at}
use Rattle.uc_acts.proofs.SoundLemmas.{self_test, tasks_push, objects_push}
use Rattle.uc_machine.specs.declared.exec.Home.{Home}
use Rattle.uc_machine.specs.declared.exec.Home.TheVariants as home
use Rattle.uc_machine.specs.Executions.{members_at}
use Rattle.uc_machine.specs.Pieces.{Todo, BindMadeNow, State, Members}
use Rattle.uc_machine.specs.Quiet.{zeros}
use Rattle.uc_machine.specs.Answering.{answered, new_members, child_of, child_main}
use Rattle.uc_meaning.specs.Runs.{World, Runs, AsksIn, gives, no_room, acts, begun, more, first_world, first_home, with_home, hand_of, drawn, bare, or_else, world_after}
use Rattle.uc_step_laws.specs.Hands.{keys}
use Rattle.uc_step_laws.specs.Holding.{plain}
use Rattle.uc_state_laws.specs.Fitting.{RunFits}
use Rattle.uc_state_laws.specs.Laws.{IsOn}
use Rattle.uc_state_laws.proofs.Ticks.{not_true}
use Rattle.uc_state_laws.proofs.Makes.{is_making, same_holder, makes, none_new, one_new, just_made_given}
use Rattle.uc_state_laws.proofs.Others.{RunRests, run_rests, may_ask, asking as asks_with, law_processor}
use Rattle.uc_state_laws.specs.Places.{PlacesBehind}
use Rattle.uc_state_laws.proofs.Rows.{row_places}
use Rattle.uc_state_laws.proofs.DeepActs.{is_spawning, tasks_stay, spawn_more}
use Rattle.uc_state_laws.proofs.DeepWorlds.{DeepWorld, deep_run, spawns_none, spawned_by}
use Rattle.uc_state_laws.specs.Opens.{RunMeets}
use Rattle.uc_name_laws.specs.Below.{one_more_at, MembersNamed, EnvNamed, StateNamed}
use Rattle.uc_name_laws.specs.NameSteps.{Named, BornBelow, Brings}
use Rattle.uc_name_laws.proofs.Homes.{no_both, none_some, the_same}
use Rattle.uc_name_laws.proofs.Values.{below_more, values_more, frames_more, links_more, active_more, all_more, parked_more}
use Rattle.uc_name_laws.proofs.Births.{more_at}
use Rattle.uc_name_laws.proofs.Telling.{law_told}
use Rattle.uc_life_laws.specs.NamedRuns.{is_here}
use Rattle.uc_life_laws.proofs.Owned.{objects_grow, one_not_none, owner_still, owner_other, owner_given, owner_same, owner_begin, owner_begun}
use Rattle.uc_life_laws.proofs.Riding.{RideNamed, ride_named, ride_born, run_born}

pub vacuous : {A : Type 0} → false ≡ true → A
vacuous h = no_both false h refl

-- where homes have made more executions, but those of the names' own holders just so many

module _ (before behind : Home → ℕ) (le : (h : Home) → before h ≤ behind h) where
  pub members_grown : (h : Home) (m : Members) → behind h ≡ before h → MembersNamed before h m → MembersNamed behind h m
  members_grown h m e y = record {
    values_named = values_more before behind le m.values y.values_named;
    parked_named = parked_more before behind le m.serial m.serial (omega arith) m.parked y.parked_named;
    apart = y.apart;
    serial_is = y.serial_is ∙ sym e;
  }

  pub state_grown : (here : Home → Bool) (s : State) → ((h : Home) → here h ≡ true → behind h ≡ before h) → StateNamed before here s → StateNamed behind here s
  state_grown here s same h = record {
    run_named = active_more before behind le s.run h.run_named;
    callers_named = all_more before behind le s.callers h.callers_named;
    env_named = record {
      frames_named = frames_more before behind le s.env.frames h.env_named.frames_named;
      links_named = links_more before behind le s.env.links h.env_named.links_named;
      exec_below = below_more before behind le s.env.exec h.env_named.exec_below;
      members_named = λ k m e. members_grown k m (same k (there k m e (here k) refl)) (h.env_named.members_named k m e);
      away = h.env_named.away;
    };
  }
    where
      there : (k : Home) (m : Members) → members_at k s.env ≡ Some m → (b : Bool) → here k ≡ b → here k ≡ true
      there k m e true g = g
      there k m e false g = none_some m (members_at k s.env) (h.env_named.away k g) e

-- a hand

pub found_home : (os : List ℕ) (homes : ℕ → Option Members) (o : ℕ) (m : Members) → find o (hand_of os homes) ≡ Some m → homes o ≡ Some m
found_home [] homes o m e = cc
found_home (k ∷ os) homes o m e = by (homes k) refl (found_home os homes o m) e
  where
    by : (x : Option Members) → homes k ≡ x → (find o (hand_of os homes) ≡ Some m → homes o ≡ Some m) → find o (with_home k x (hand_of os homes)) ≡ Some m → homes o ≡ Some m
    by None g ih e = ih e
    by (Some y) g ih e = at (nat_eq k o) refl ih e
      where
        at : (b : Bool) → nat_eq k o ≡ b → (find o (hand_of os homes) ≡ Some m → homes o ≡ Some m) → (if b then Some y else find o (hand_of os homes)) ≡ Some m → homes o ≡ Some m
        at true i ih e = ap homes (sym (eqb-true k o i)) ∙ (g ∙ e)
        at false i ih e = ih e

pub absent_home : (os : List ℕ) (homes : ℕ → Option Members) (o : ℕ) → has os o ≡ false → find o (hand_of os homes) ≡ None
absent_home [] homes o f = refl
absent_home (k ∷ os) homes o f = by (k == o) refl (absent_home os homes o) f
  where
    by : (b : Bool) → (k == o) ≡ b → (has os o ≡ false → find o (hand_of os homes) ≡ None) → (b || has os o) ≡ false → find o (with_home k (homes k) (hand_of os homes)) ≡ None
    by true g ih f = cc
    by false g ih f = at (homes k)
      where
        at : (x : Option Members) → find o (with_home k x (hand_of os homes)) ≡ None
        at None = ih f
        at (Some y) = ap (λ c. if c then Some y else find o (hand_of os homes)) g ∙ ih f

pub last_has : (xs : List ℕ) (o : ℕ) → has (xs ++ o ∷ []) o ≡ true
last_has [] o = ap (λ b. b || false) (self_test o)
last_has (x ∷ xs) o = by (x == o) (last_has xs o)
  where
    by : (b : Bool) → has (xs ++ o ∷ []) o ≡ true → (b || has (xs ++ o ∷ []) o) ≡ true
    by true h = refl
    by false h = h

no_new : (source : Source) (todo : List Todo) → plain todo ≡ true → new_members source todo ≡ None
no_new source [] h = refl
no_new source (BindMadeNow c r ∷ todo) h = cc
no_new source (p ∷ todo) h = refl

one_and_one : (u v : ℕ) → u ∷ [] ≡ v ∷ [] → u ≡ v
one_and_one u v h = cc

pub found_none : (o : ℕ) (ps : List (ℕ × Members)) → find o ps ≡ None → has (keys ps) o ≡ false
found_none o [] e = refl
found_none o (p ∷ ps) e = by (nat_eq p.0 o) (found_none o ps) e
  where
    by : (b : Bool) → (find o ps ≡ None → has (keys ps) o ≡ false) → (if b then Some p.1 else find o ps) ≡ None → (b || has (keys ps) o) ≡ false
    by true ih e = cc
    by false ih e = ih e

-- so many executions were made at each home
pub record WorldNamed (serials : Home → ℕ) (j : Journal) (w : World) : Type 0 where
  pub tasks : (t : ℕ) → t < task_count j → StateNamed serials (is_here (w.tasks t).env.own []) (w.tasks t)
  pub homes : (o : ℕ) (m : Members) → w.homes o ≡ Some m → MembersNamed serials (home.Object o) m
  pub unmade : (o : ℕ) → object_count j ≤ o → serials (home.Object o) ≡ 0
  pub new : (t o : ℕ) → just_made t j ≡ o ∷ [] → serials (home.Object o) ≡ 0
  -- each task has an object of its own, and at what is of no task none was made
  pub owned : (t : ℕ) → t < task_count j → owner (w.tasks t).env.own j ≡ t ∷ []
  pub unowned : (a : ℕ) → owner a j ≡ [] → serials (home.Task a) ≡ 0

module _ (source : Source) (input : List ℕ) (opts : Options) (range : InRange opts) where
  module _ {j : Journal} {w : World} (r : RunRests source input opts j w) (going : is_over j ≡ false) (serials : Home → ℕ) (x : WorldNamed serials j w) (p t : ℕ) (runs : running p j ≡ t ∷ []) where
    sound : Sound j
    sound = (good_whole opts source.sites input r.kernel).sound

    pub known : t < task_count j
    known = known_at j sound t (Running p) (first_at j sound (Running p) t [] runs)

    pub held_made : (o : ℕ) → has (held t j) o ≡ true → o < object_count j
    held_made o h = ((counted_run opts source.sites input r.kernel).of_made o (law_made opts source.sites input j r.kernel going t o h)).0

    at_rest : StateNamed serials (is_here (w.tasks t).env.own []) (w.tasks t)
    at_rest = x.tasks t known

    pub drawn_named : Named (is_here (w.tasks t).env.own (held t j)) false serials (drawn j w t)
    drawn_named = record {
      names = record {
        run_named = at_rest.run_named;
        callers_named = at_rest.callers_named;
        env_named = record {
          frames_named = at_rest.env_named.frames_named;
          links_named = at_rest.env_named.links_named;
          exec_below = at_rest.env_named.exec_below;
          members_named = members;
          away = away;
        };
      };
      runs = record { alone = λ u. vacuous u; there = λ u. vacuous u };
    }
      where
        members : (h : Home) (m : Members) → members_at h (drawn j w t).env ≡ Some m → MembersNamed serials h m
        members (home.Task a) m e = at_rest.env_named.members_named (home.Task a) m e
        members (home.Object o) m e = x.homes o m (found_home (held t j) w.homes o m e)

        away : (h : Home) → is_here (w.tasks t).env.own (held t j) h ≡ false → members_at h (drawn j w t).env ≡ None
        away (home.Task a) e = at_rest.env_named.away (home.Task a) e
        away (home.Object o) e = absent_home (held t j) w.homes o e

    module _ (given : Answer) (told : answer_to source.sites t j ≡ Some given) where
      pub brings : Brings source (is_here (w.tasks t).env.own (held t j)) serials (drawn j w t) given
      brings = by given refl
        where
          object : (o : ℕ) → given ≡ answer.Object o → (plain (w.tasks t).run.control ≡ true) ⊎ ((q : ℕ) × (just_made t j ≡ q ∷ [])) → (new_members source (w.tasks t).run.control ≡ None) ⊎ ((serials (home.Object o) ≡ 0) × (has (held t j) o ≡ true))
          object o e (inl h) = inl (no_new source (w.tasks t).run.control h)
          object o e (inr y) =
              let n = law_new opts source.sites input j r.kernel going t y.0 y.1 in
              let both : Some (answer.Object o) ≡ Some (answer.Object y.0) = ap Some (sym e) ∙ (sym told ∙ n.answer) in
              let same : o ≡ y.0 = cc both in
              inr (ap (λ k. serials (home.Object k)) same ∙ x.new t y.0 y.1, ap (λ l. has l o) n.last ∙ (ap (λ k. has (n.before ++ y.0 ∷ []) k) same ∙ last_has n.before y.0))

          by : (g : Answer) → given ≡ g → Brings source (is_here (w.tasks t).env.own (held t j)) serials (drawn j w t) g
          by (answer.Object o) e = object o e (r.rests.tasks t).control
          by (answer.Number n) e = tt
          by (answer.Value n failed) e = tt
          by (answer.Clause k failed) e = tt
          by (answer.Event n y z) e = tt
          by answer.Nothing e = tt
          by answer.Go e = tt

      pub start : Named (is_here (w.tasks t).env.own (held t j)) false serials (answered source given (drawn j w t))
      start = law_told.told source (is_here (w.tasks t).env.own (held t j)) false serials given (drawn j w t) drawn_named brings

    -- the own object stays
    pub own_stays : (now : Home → ℕ) (s : State) → EnvNamed now (is_here (w.tasks t).env.own (held t j)) s.env → s.env.own ≡ (w.tasks t).env.own
    own_stays now s h = by (nat_eq s.env.own (w.tasks t).env.own) refl
      where
        by : (b : Bool) → nat_eq s.env.own (w.tasks t).env.own ≡ b → s.env.own ≡ (w.tasks t).env.own
        by true e = eqb-true s.env.own (w.tasks t).env.own e
        by false e =
            let some : members_at (home.Task s.env.own) s.env ≡ Some s.env.house = ap (λ b. if b then Some s.env.house else None) (eq-eqb s.env.own s.env.own refl) in
            none_some s.env.house (members_at (home.Task s.env.own) s.env) (h.away (home.Task s.env.own) e) some

-- what a spawn tells of its task
pub own_spawn : (p t : ℕ) (k : Cost) (o n u : ℕ) → (u == n) ≡ true → own_object u (asking kind.Spawn p t k o (pos n) (pos 0) ∷ []) ≡ o
unfolding own_object
own_spawn p t k o n u h = ap (λ b. first_or_0 (filter (λ (x : ℕ). true) (option_to_list (where_true b o)) ++ [])) h

pub one_task : (opts : Options) → task_count (begin opts ∷ []) ≡ 1
unfolding task_count
one_task opts = omega arith

-- what a task that is spawned adds
abbrev pub after_by : Request → (Home → ℕ) → Home → ℕ
after_by (ask.Spawn o) now = one_more_at (home.Task o) now
after_by q now = now

pub after_more : (q : Request) (now : Home → ℕ) (h : Home) → now h ≤ after_by q now h
after_more (ask.Spawn o) now h = more_at (λ k. false) false now (home.Task o) h
after_more q now h = omega arith

after_objects : (q : Request) (now : Home → ℕ) (o : ℕ) → after_by q now (home.Object o) ≡ now (home.Object o)
after_objects (ask.Spawn k) now o = refl
after_objects q now o = refl

after_tasks : (q : Request) (now : Home → ℕ) (a : ℕ) → (q ≡ ask.Spawn a → ⊥) → after_by q now (home.Task a) ≡ now (home.Task a)
after_tasks (ask.Spawn k) now a n = by (nat_eq a k) refl
  where
    by : (b : Bool) → nat_eq a k ≡ b → (if b then suc (now (home.Task a)) else now (home.Task a)) ≡ now (home.Task a)
    by true e = absurd (n (ap ask.Spawn (sym (eqb-true a k e))))
    by false e = refl
after_tasks q now a n = refl

after_spawn : (q : Request) (now : Home → ℕ) (a : ℕ) → q ≡ ask.Spawn a → after_by q now (home.Task a) ≡ suc (now (home.Task a))
after_spawn q now a e =
    ap (λ x. after_by x now (home.Task a)) e ∙ ap (λ b. if b then suc (now (home.Task a)) else now (home.Task a)) (eq-eqb a a refl)

module _ (source : Source) (input : List ℕ) (opts : Options) (range : InRange opts) where
  module _ {j : Journal} {w : World} (r : RunRests source input opts j w) (going : is_over j ≡ false) (deep : DeepWorld j w) (serials : Home → ℕ) (x : WorldNamed serials j w) (p t n : ℕ) (s : State) (asked : Asked) (d : AsksIn source opts j w p t n s asked) (f : Fits opts source.sites j t asked.request) (on : is_over (j ++ act opts source.sites input j p t n asked) ≡ false) where
    abbrev a : List Entry
    a = act opts source.sites input j p t n asked

    abbrev here : Home → Bool
    here = is_here (w.tasks t).env.own (held t j)

    snd : Sound j
    snd = (good_whole opts source.sites input r.kernel).sound

    m : MayAsk opts source.sites j p t n asked.request
    m = may_ask source input opts range d f

    lt : t < task_count j
    lt = known source input opts range r going serials x p t d.runs

    pub ride : RideNamed source (is_here (w.tasks t).env.own (held t j)) false serials (answered source d.given (drawn j w t)) _ s n asked d.rides
    ride = ride_named source (is_here (w.tasks t).env.own (held t j)) false serials d.rides (start source input opts range r going serials x p t d.runs d.given d.told) (λ u. vacuous u)

    own : s.env.own ≡ (w.tasks t).env.own
    own = own_stays source input opts range r going serials x p t d.runs ride.now s ride.named.names.env_named

    made_by : Makes j (act opts source.sites input j p t n asked) t
    made_by = makes opts source.sites input j p t n asked r.kernel m on

    all_on : Each (IsOn p) (act opts source.sites input j p t n asked)
    all_on = law_processor opts source.sites input j p t n asked

    -- how many were made at each home by the end of the act
    abbrev now : Home → ℕ
    now = after_by asked.request ride.now

    pub now_more : (h : Home) → serials h ≤ after_by asked.request ride.now h
    now_more h = let b = ride.grows.more h in let c = after_more asked.request ride.now h in omega (arith, b, c)

    -- an object that is not in hand has made no more
    object_same : (o : ℕ) → has (held t j) o ≡ false → after_by asked.request ride.now (home.Object o) ≡ serials (home.Object o)
    object_same o e = after_objects asked.request ride.now o ∙ ride.grows.same (home.Object o) e

    -- so it is of a task's home that is not this one's, and not spawned
    task_same : (k : ℕ) → nat_eq k (w.tasks t).env.own ≡ false → (asked.request ≡ ask.Spawn k → ⊥) → after_by asked.request ride.now (home.Task k) ≡ serials (home.Task k)
    task_same k e not_it = after_tasks asked.request ride.now k not_it ∙ ride.grows.same (home.Task k) e

    -- what is spawned is no task's own
    spawned_free : (o : ℕ) → asked.request ≡ ask.Spawn o → owner o j ≡ []
    spawned_free o e = (subst (Fits opts source.sites j t) e f).1

    not_spawned : (u : ℕ) → u < task_count j → asked.request ≡ ask.Spawn (w.tasks u).env.own → ⊥
    not_spawned u le e = one_not_none u (owner (w.tasks u).env.own j) (x.owned u le) (spawned_free (w.tasks u).env.own e)

    own_free : (k : ℕ) → owner k j ≡ [] → nat_eq k (w.tasks t).env.own ≡ false
    own_free k e = not_true (nat_eq k (w.tasks t).env.own) (λ g. one_not_none t (owner k j) (ap (λ q. owner q j) (eqb-true k (w.tasks t).env.own g) ∙ x.owned t lt) e)

    -- objects

    unheld : (o : ℕ) → object_count j ≤ o → has (held t j) o ≡ false
    unheld o le = not_true (has (held t j) o) (λ h. let k = held_made source input opts range r going serials x p t d.runs o h in absurd (omega (arith, k, le)))

    unmade_after : (o : ℕ) → object_count (j ++ act opts source.sites input j p t n asked) ≤ o → after_by asked.request ride.now (home.Object o) ≡ 0
    unmade_after o le =
        let grown = objects_grow j a in
        let old : object_count j ≤ o = omega (arith, grown, le) in
        object_same o (unheld o old) ∙ x.unmade o old

    new_after : (u o : ℕ) → just_made u (j ++ act opts source.sites input j p t n asked) ≡ o ∷ [] → after_by asked.request ride.now (home.Object o) ≡ 0
    new_after u o h = by (u == t) refl
      where
        mine : (q : Request) → (b : Bool) → is_making q ≡ b → asked.request ≡ q → just_made t (j ++ act opts source.sites input j p t n asked) ≡ o ∷ [] → o ≡ object_count j
        mine q false b e g = absurd (none_new opts source.sites input j p t n asked r.kernel m on (ap is_making e ∙ b) o g)
        mine (ask.Make class) true b e g = one_and_one o (object_count j) (sym g ∙ one_new opts source.sites input j p t n asked r.kernel m on class e)
        mine q true b e g = no_both (is_making q) b refl

        by : (b : Bool) → (u == t) ≡ b → after_by asked.request ride.now (home.Object o) ≡ 0
        by true e =
            let same : o ≡ object_count j = mine asked.request (is_making asked.request) refl refl (ap (λ v. just_made v (j ++ a)) (sym (eqb-true u t e)) ∙ h) in
            let le : object_count j ≤ o = omega (arith, same) in
            object_same o (unheld o le) ∙ x.unmade o le
        by false e =
            let old : just_made u j ≡ o ∷ [] = sym (made_by.others u e) ∙ h in
            let k = law_new opts source.sites input j r.kernel going u o old in
            let theirs : has (held u j) o ≡ true = ap (λ l. has l o) k.last ∙ last_has k.before o in
            object_same o (not_true (has (held t j) o) (λ g. no_both (u == t) (eq-eqb u t (same_holder j t u o snd g theirs)) e)) ∙ x.new u o old

    in_hand : (o : ℕ) → has (keys s.env.hand) o ≡ has (held t j) o
    in_hand o = ap (λ l. has l o) (asks_with source input opts range r going p t n s asked d).hand

    homes_after : (o : ℕ) (y : Members) → (world_after source (act opts source.sites input j p t n asked) w t s).homes o ≡ Some y → MembersNamed (after_by asked.request ride.now) (home.Object o) y
    homes_after o y e = out (takes_out a o) e
      where
        grown : (q : Members) → MembersNamed ride.now (home.Object o) q → MembersNamed (after_by asked.request ride.now) (home.Object o) q
        grown q h = members_grown ride.now (after_by asked.request ride.now) (after_more asked.request ride.now) (home.Object o) q (after_objects asked.request ride.now o) h

        absent : find o s.env.hand ≡ None → has (held t j) o ≡ false
        absent g = sym (in_hand o) ∙ found_none o s.env.hand g

        found : (z : Option Members) → find o s.env.hand ≡ z → or_else z (w.homes o) ≡ Some y → MembersNamed (after_by asked.request ride.now) (home.Object o) y
        found None g e =
            members_grown serials (after_by asked.request ride.now) now_more (home.Object o) y (object_same o (absent g)) (x.homes o y e)
        found (Some q) g e = subst (MembersNamed (after_by asked.request ride.now) (home.Object o)) (the_same q y e) (grown q (ride.named.names.env_named.members_named (home.Object o) q g))

        out : (b : Bool) → (if b then None else or_else (find o s.env.hand) (w.homes o)) ≡ Some y → MembersNamed (after_by asked.request ride.now) (home.Object o) y
        out true e = cc
        out false e = found (find o s.env.hand) refl e

    -- tasks

    own_after : StateNamed (after_by asked.request ride.now) (is_here (bare s).env.own []) (bare s)
    own_after =
        state_grown ride.now (after_by asked.request ride.now) (after_more asked.request ride.now) (is_here s.env.own []) (bare s) same (record {
          run_named = ride.named.names.run_named;
          callers_named = ride.named.names.callers_named;
          env_named = record {
            frames_named = ride.named.names.env_named.frames_named;
            links_named = ride.named.names.env_named.links_named;
            exec_below = ride.named.names.env_named.exec_below;
            members_named = members;
            away = away;
          };
        })
      where
        members : (h : Home) (y : Members) → members_at h (bare s).env ≡ Some y → MembersNamed ride.now h y
        members (home.Task k) y e = ride.named.names.env_named.members_named (home.Task k) y e
        members (home.Object o) y e = cc

        away : (h : Home) → is_here s.env.own [] h ≡ false → members_at h (bare s).env ≡ None
        away (home.Task k) e = ride.named.names.env_named.away (home.Task k) (ap (nat_eq k) (sym own) ∙ e)
        away (home.Object o) e = refl

        same : (h : Home) → is_here s.env.own [] h ≡ true → after_by asked.request ride.now h ≡ ride.now h
        same (home.Task k) e = after_tasks asked.request ride.now k (λ g. not_spawned t lt (g ∙ ap ask.Spawn (eqb-true k s.env.own e ∙ own)))
        same (home.Object o) e = cc

    other_after : (u : ℕ) → (u == t) ≡ false → u < task_count j → StateNamed (after_by asked.request ride.now) (is_here (w.tasks u).env.own []) (w.tasks u)
    other_after u h le =
        state_grown serials (after_by asked.request ride.now) now_more (is_here (w.tasks u).env.own []) (w.tasks u) same (x.tasks u le)
      where
        apart : nat_eq (w.tasks u).env.own (w.tasks t).env.own ≡ false
        apart = not_true (nat_eq (w.tasks u).env.own (w.tasks t).env.own) (λ g. no_both (u == t) (eq-eqb u t (one_and_one u t (sym (x.owned u le) ∙ (ap (λ q. owner q j) (eqb-true (w.tasks u).env.own (w.tasks t).env.own g) ∙ x.owned t lt)))) h)

        same : (k : Home) → is_here (w.tasks u).env.own [] k ≡ true → after_by asked.request ride.now k ≡ serials k
        same (home.Task k) e =
            let is = eqb-true k (w.tasks u).env.own e in
            task_same k (ap (λ q. nat_eq q (w.tasks t).env.own) is ∙ apart) (λ g. not_spawned u le (g ∙ ap ask.Spawn is))
        same (home.Object o) e = cc

    -- whose own object is which

    places : PlacesBehind t j asked.request (j ++ act opts source.sites input j p t n asked)
    places =
        let is = (going_row opts source.sites input j p t n asked on).0 in
        subst (λ l. PlacesBehind t j asked.request (j ++ l)) (sym is) (row_places opts source.sites input j p t (cost n asked.line) asked.line snd d.runs asked.request f (ap (λ l. is_over (j ++ l)) (sym is) ∙ on))

    -- nobody is spawned, or one with this own object
    record OwnersSame : Type 0 where
      same : (q : ℕ) → owner q (j ++ act opts source.sites input j p t n asked) ≡ owner q j
      count : task_count (j ++ act opts source.sites input j p t n asked) ≡ task_count j

    record OwnersMore : Type 0 where
      object : ℕ
      request : asked.request ≡ ask.Spawn object
      entries : act opts source.sites input j p t n asked ≡ asking kind.Spawn p t (cost n asked.line) object (pos (task_count j)) (pos 0) ∷ []
      count : task_count (j ++ act opts source.sites input j p t n asked) ≡ task_count j + 1

    owners : OwnersSame ⊎ OwnersMore
    owners = by (is_spawning asked.request) refl
      where
        by : (b : Bool) → is_spawning asked.request ≡ b → OwnersSame ⊎ OwnersMore
        by false e =
            let count = tasks_stay j (j ++ a) t asked.request e places in
            inl (record { same = λ q. owner_same p q j a all_on count; count = count })
        by true e =
            let grown = spawn_more j (j ++ a) t asked.request e places in
            let b = spawned_by source input opts range r going deep p t n s asked d f on (task_count j) (omega arith) (omega (arith, grown)) in
            inr (record { object = b.object; request = b.request; entries = b.entries; count = grown })

    module _ (b : OwnersMore) where
      new_owner : owner b.object (j ++ act opts source.sites input j p t n asked) ≡ task_count j ∷ []
      new_owner =
          ap (λ l. owner b.object (j ++ l)) b.entries ∙ (owner_given b.object (task_count j) j _ (self_test b.object) refl ∙ ap (λ l. l ++ task_count j ∷ []) (spawned_free b.object b.request))

      others_owner : (q : ℕ) → (b.object == q) ≡ false → owner q (j ++ act opts source.sites input j p t n asked) ≡ owner q j
      others_owner q e = ap (λ l. owner q (j ++ l)) b.entries ∙ owner_other q j _ e

      apart_owner : (q u : ℕ) → owner q j ≡ u ∷ [] → (b.object == q) ≡ false
      apart_owner q u e = not_true (b.object == q) (λ g. one_not_none u (owner q j) e (ap (λ k. owner k j) (sym (eqb-true b.object q g)) ∙ spawned_free b.object b.request))

    old_owner : (q u : ℕ) → owner q j ≡ u ∷ [] → owner q (j ++ act opts source.sites input j p t n asked) ≡ u ∷ []
    old_owner q u e = by owners
      where
        by : OwnersSame ⊎ OwnersMore → owner q (j ++ act opts source.sites input j p t n asked) ≡ u ∷ []
        by (inl b) = b.same q ∙ e
        by (inr b) = others_owner b q (apart_owner b q u e) ∙ e

    unowned_after : (k : ℕ) → owner k (j ++ act opts source.sites input j p t n asked) ≡ [] → after_by asked.request ride.now (home.Task k) ≡ 0
    unowned_after k e = by owners
      where
        still : owner k j ≡ [] → (asked.request ≡ ask.Spawn k → ⊥) → after_by asked.request ride.now (home.Task k) ≡ 0
        still g not_it = task_same k (own_free k g) not_it ∙ x.unowned k g

        by : OwnersSame ⊎ OwnersMore → after_by asked.request ride.now (home.Task k) ≡ 0
        by (inl b) = still (sym (b.same k) ∙ e) (λ g. no_spawn g)
          where
            no_spawn : asked.request ≡ ask.Spawn k → ⊥
            no_spawn g =
                let grown = spawn_more j (j ++ a) t asked.request (ap is_spawning g) places in
                let same = b.count in
                omega (arith, grown, same)
        by (inr b) = at (b.object == k) refl
          where
            at : (c : Bool) → (b.object == k) ≡ c → after_by asked.request ride.now (home.Task k) ≡ 0
            at true g = one_not_none (task_count j) (owner k (j ++ a)) (ap (λ q. owner q (j ++ a)) (sym (eqb-true b.object k g)) ∙ new_owner b) e
            at false g = still (sym (others_owner b k g) ∙ e) (λ i. other i)
              where
                other : asked.request ≡ ask.Spawn k → ⊥
                other i =
                    let both : ask.Spawn b.object ≡ ask.Spawn k = sym b.request ∙ i in
                    let same : b.object ≡ k = cc both in
                    no_both (b.object == k) (eq-eqb b.object k same) g

    -- a task behind the act
    record TaskAfter (u : ℕ) (v : State) : Type 0 where
      named : StateNamed (after_by asked.request ride.now) (is_here v.env.own []) v
      own_is : owner v.env.own (j ++ act opts source.sites input j p t n asked) ≡ u ∷ []

    -- the one that is spawned
    born_after : (u : ℕ) → task_count j ≤ u → u < task_count (j ++ act opts source.sites input j p t n asked) → TaskAfter u ((world_after source (act opts source.sites input j p t n asked) w t s).tasks u)
    born_after u le behind =
        let b = spawned_by source input opts range r going deep p t n s asked d f on u le behind in
        let known_t = lt in
        let apart : (u == t) ≡ false = ne_eqb u t (λ same. omega (arith, le, same, known_t)) in
        let spawns_it : spawns a u ≡ true = ap (λ l. spawns l u) b.entries ∙ ap (λ c. c || false) b.test in
        let own_object_is : own_object u a ≡ b.object = ap (own_object u) b.entries ∙ own_spawn p t (cost n asked.line) b.object (task_count j) u b.test in
        let state : (world_after source a w t s).tasks u ≡ child_of source b.object s = ap (λ c. if c then bare s else if spawns a u then child_of source (own_object u a) s else w.tasks u) apart ∙ (ap (λ c. if c then child_of source (own_object u a) s else w.tasks u) spawns_it ∙ ap (λ o. child_of source o s) own_object_is) in
        let free = spawned_free b.object b.request in
        let none : ride.now (home.Task b.object) ≡ 0 = ride.grows.same (home.Task b.object) (own_free b.object free) ∙ x.unowned b.object free in
        let one : after_by asked.request ride.now (home.Task b.object) ≡ 1 = after_spawn asked.request ride.now b.object b.request ∙ ap suc none in
        let begun_task = law_told.begins (is_here b.object []) (after_by asked.request ride.now) (routine_of source (child_main source s.run.control)) b.object one (eq-eqb b.object b.object refl) in
        let number : task_count j ≡ u = sym (eqb-true u (task_count j) b.test) in
        subst (TaskAfter u) (sym state) (record { named = begun_task.names; own_is = born_owner u b.object b.request number })
      where
        born_owner : (u o : ℕ) → asked.request ≡ ask.Spawn o → task_count j ≡ u → owner o (j ++ act opts source.sites input j p t n asked) ≡ u ∷ []
        born_owner u o e number = by owners
          where
            by : OwnersSame ⊎ OwnersMore → owner o (j ++ act opts source.sites input j p t n asked) ≡ u ∷ []
            by (inl b) =
                let grown = spawn_more j (j ++ a) t asked.request (ap is_spawning e) places in
                let same = b.count in
                absurd (omega (arith, grown, same))
            by (inr b) =
                let both : ask.Spawn b.object ≡ ask.Spawn o = sym b.request ∙ e in
                let same : b.object ≡ o = cc both in
                ap (λ q. owner q (j ++ a)) (sym same) ∙ (new_owner b ∙ ap (λ v. v ∷ []) number)

    task_after : (u : ℕ) → u < task_count (j ++ act opts source.sites input j p t n asked) → TaskAfter u ((world_after source (act opts source.sites input j p t n asked) w t s).tasks u)
    task_after u behind = by (u == t) refl
      where
        old : (u == t) ≡ false → u < task_count j → TaskAfter u ((world_after source (act opts source.sites input j p t n asked) w t s).tasks u)
        old h le =
            let none : spawns a u ≡ false = spawns_none j a u (lawful_act opts source.sites input j p t n asked snd m) le in
            let state : (world_after source a w t s).tasks u ≡ w.tasks u = ap (λ b. if b then bare s else if spawns a u then child_of source (own_object u a) s else w.tasks u) h ∙ ap (λ b. if b then child_of source (own_object u a) s else w.tasks u) none in
            subst (TaskAfter u) (sym state) (record { named = other_after u h le; own_is = old_owner (w.tasks u).env.own u (x.owned u le) })

        by : (b : Bool) → (u == t) ≡ b → TaskAfter u ((world_after source (act opts source.sites input j p t n asked) w t s).tasks u)
        by true h =
            let state : (world_after source a w t s).tasks u ≡ bare s = ap (λ b. if b then bare s else if spawns a u then child_of source (own_object u a) s else w.tasks u) h in
            let this : t ≡ u = sym (eqb-true u t h) in
            subst (TaskAfter u) (sym state) (record { named = own_after; own_is = ap (λ q. owner q (j ++ a)) own ∙ (old_owner (w.tasks t).env.own t (x.owned t lt) ∙ ap (λ v. v ∷ []) this) })
        by false h = ⊎_elim (λ le. old h le) (λ le. born_after u le behind) (cases_lt u (task_count j))

    pub named_act : WorldNamed (after_by asked.request ride.now) (j ++ act opts source.sites input j p t n asked) (world_after source (act opts source.sites input j p t n asked) w t s)
    named_act = record {
      tasks = λ u le. let y = task_after u le in y.named;
      homes = homes_after;
      unmade = unmade_after;
      new = new_after;
      owned = λ u le. let y = task_after u le in y.own_is;
      unowned = unowned_after;
    }

  -- a dispatch makes nothing

  named_given : (serials : Home → ℕ) (j : Journal) (w : World) (p t : ℕ) → WorldNamed serials j w → WorldNamed serials (j ++ dispatch p t ∷ []) w
  named_given serials j w p t x =
      let tasks_same = tasks_push j (dispatch p t) in
      let objects_same = objects_push j (dispatch p t) in
      record {
        tasks = λ u le. x.tasks u (omega (arith, le, tasks_same));
        homes = x.homes;
        unmade = λ o le. x.unmade o (omega (arith, le, objects_same));
        new = λ u o h. x.new u o (sym (just_made_given u p t j) ∙ h);
        owned = λ u le. owner_still (w.tasks u).env.own j (dispatch p t) refl ∙ x.owned u (omega (arith, le, tasks_same));
        unowned = λ k h. x.unowned k (sym (owner_still k j (dispatch p t) refl) ∙ h);
      }

  -- a run begins with the own execution of task 0

  abbrev first_serials : Home → ℕ
  first_serials (home.Task k) = if k == 0 then 1 else 0
  first_serials (home.Object o) = 0

  named_begin : WorldNamed first_serials (begin opts ∷ []) (first_world source)
  named_begin = record {
    tasks = λ u le. let y = law_told.begins (is_here 0 []) first_serials (routine_of source source.main) 0 refl refl in y.names;
    homes = homes;
    unmade = λ o le. refl;
    new = λ u o h. refl;
    owned = λ u le. owned u le;
    unowned = λ k h. ap (λ b. if b then 1 else 0) (owner_begun opts k h);
  }
    where
      homes : (o : ℕ) (m : Members) → first_home o ≡ Some m → MembersNamed first_serials (home.Object o) m
      homes o m e = by (o == 0) e
        where
          by : (b : Bool) → (if b then Some (zeros 0) else None) ≡ Some m → MembersNamed first_serials (home.Object o) m
          by true e = subst (MembersNamed first_serials (home.Object o)) (the_same (zeros 0) m e) (record { values_named = tt; parked_named = tt; apart = tt; serial_is = refl })
          by false e = cc

      owned : (u : ℕ) → u < task_count (begin opts ∷ []) → owner 0 (begin opts ∷ []) ≡ u ∷ []
      owned u le =
          let one = one_task opts in
          let zero_is : 0 ≡ u = omega (arith, le, one) in
          owner_begin opts ∙ ap (λ v. v ∷ []) zero_is

  -- so many were made in a run
  pub record RunNamed {j : Journal} {w : World} (r : Runs source input opts j w) : Type 0 where
    pub serials : Home → ℕ
    pub world : WorldNamed serials j w
    pub born : RunMeets (BornBelow source serials) source input opts j w r

  pub run_named : {j : Journal} {w : World} (r : Runs source input opts j w) → RunFits source input opts j w r → is_over j ≡ false → RunNamed r
  run_named begun f on = record { serials = first_serials; world = named_begin; born = tt }
  run_named (more {j} {w} r o (gives p t v le)) f on =
      let y = run_named r f.0 o in
      record { serials = y.serials; world = named_given y.serials j w p t y.world; born = (y.born, tt) }
  run_named (more {j} r o (no_room p t v le)) f on = no_both (is_over (j ++ lone_limit ∷ [])) (over_limit j 0 0) on
  run_named (more {j} {w} r o (acts p t n s asked d)) f on =
      let y = run_named r f.0 o in
      let rests = run_rests source input opts range r f.0 o in
      let deep = deep_run source input opts range r f.0 o in
      let k = ride rests o deep y.serials y.world p t n s asked d f.1 on in
      record {
        serials = after_by asked.request k.now;
        world = named_act rests o deep y.serials y.world p t n s asked d f.1 on;
        born = (run_born source y.serials (after_by asked.request k.now) (now_more rests o deep y.serials y.world p t n s asked d f.1 on) opts input r y.born, ride_born source k.now (after_by asked.request k.now) (after_more asked.request k.now) d.rides k.born);
      }
