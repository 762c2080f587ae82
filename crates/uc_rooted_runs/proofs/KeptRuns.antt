-- Names tell the rest.
use Rattle.std.proofs.Common.{◌≡◌, ℕ, ◌<◌, ◌≤◌, inl, inr, Bool, true, false, List, [], ◌∷◌, Option, Some, None, refl, sym, ap, ◌∙◌, subst, ⊎_elim}
use Rattle.std.specs.Prelude.{if◌then◌else◌}
use Rattle.std.proofs.lemmas.Bool.{cases_lt}
use Rattle.uc_tree.specs.Source.{Source, routine_of}
use Rattle.uc_entry.specs.declared.entry.Entry.{Entry}
use Rattle.uc_entry.specs.declared.entry.Options.{Options}
use Rattle.uc_entry.specs.declared.request.Asked.{Asked}
use Rattle.uc_entry.specs.declared.request.Request.{Request}
use Rattle.uc_entry.specs.declared.request.Request.TheVariants as ask
use Rattle.uc_acts.specs.Journal.{Journal}
use Rattle.uc_acts.specs.Known.{task_count}
use Rattle.uc_machine.specs.declared.exec.Exec.{Exec}
use Rattle.uc_machine.specs.declared.exec.Home.{Home}
use Rattle.uc_machine.specs.declared.exec.Home.TheVariants as home
use Rattle.uc_machine.specs.Executions.{Execution}
use Rattle.uc_machine.specs.Pieces.{Value, Todo, SetUpNow, TakeDownNow, Finish, GoneNow, Active, State, Members, Goes, Ticks, Asks, at, in_env, object_in}
use Rattle.uc_machine.specs.Insides.{call_gone}
use Rattle.uc_machine.specs.Monitors.{this_object}
use Rattle.uc_machine.specs.Quiet.{quiet, act_todo, first_state}
use Rattle.uc_machine.specs.Rides.{Rides, slices, goes_on, ticks, asks}
use Rattle.uc_meaning.specs.Runs.{World, May, Runs, gives, no_room, acts, begun, more}
use Rattle.uc_state_laws.specs.Opens.{RideMeets, MayMeet, RunMeets}
use Rattle.uc_name_laws.proofs.Homes.{no_both}
use Rattle.uc_typing.specs.Typing.{Ty, Table}
use Rattle.uc_life_laws.specs.Things.{Few, Base}
use Rattle.uc_life_laws.specs.Knowing.{main_of}
use Rattle.uc_life_laws.specs.LifeStates.{SlotBy, ParkedBy, HandBy, MembersBy}
use Rattle.uc_life_laws.specs.Rooted.{InSlot, InParked, InHand, InMembers, Lives}
use Rattle.uc_life_laws.specs.Held.{IsNoTask}
use Rattle.uc_life_laws.specs.Ways.{LeavesAt}
use Rattle.uc_life_laws.proofs.Ways.{law_ways}
use Rattle.uc_rooted_runs.specs.Makers.{Makers, seating}
use Rattle.uc_life_laws.specs.OwnNames.{StepOwn, StaysOwn, RunOwns}
use Rattle.uc_rooted_runs.specs.Binds.{BindsOwn}
use Rattle.uc_rooted_runs.specs.FreshStates.{TakesOthersBy, KeepsFresh}
use Rattle.uc_rooted_runs.specs.Mains.{FindsAll}
use Rattle.uc_rooted_runs.specs.MainRuns.{EndsMains}
use Rattle.uc_rooted_runs.specs.Outlasting.{IsAlone}
use Rattle.uc_rooted_runs.specs.OutlastRuns.{with_homes, made_by, made_behind, ride_made, run_made, now, OutlastsAt, RideOutlasts, SpawnsAlone, MayOutlast, RunOutlasts}
use Rattle.uc_rooted_runs.specs.OutlastNames.{NamesAt, RideNames, SpawnsNew, MayName, RunNames}
use Rattle.uc_rooted_runs.specs.Upwards.{IsBased}
use Rattle.uc_rooted_runs.specs.MadeRuns.{IsMade, AllMade}
use Rattle.uc_rooted_runs.specs.Still.{AreStill}
use Rattle.uc_life_laws.proofs.Fewer.{both_members, both_env}
use Rattle.uc_rooted_runs.specs.KeptRuns.{KeepsAt, Keeps, RideKeeps, SpawnsKept, MayKeep, RunKeeps, NoMainOf, MayEnd, RunEnds, LawKeptRuns, IsStood}
use Rattle.uc_rooted_runs.proofs.Binds.{law_binds}
use Rattle.uc_rooted_runs.proofs.MainRuns.{law_mains}
use Rattle.uc_rooted_runs.proofs.OutlastRuns.{law_outlast_runs}
use Rattle.uc_rooted_runs.proofs.OutlastNames.{law_outlast_names}

-- what is asked of each state of a run, that executions which have not begun stay as they were made, and ends leave no marks
module _ (source : Source) where
  takes : (s : State) → IsAlone s.env → (l : List Todo) → TakesOthersBy l s
  takes s h [] = tt
  takes s h (TakeDownNow ∷ todo) = h
  takes s h (p ∷ todo) = tt

  pub keeps_at : (j : Journal) (w : World) (t : ℕ) (s : State) → BindsOwn source s → EndsMains source s → FindsAll source s → StaysOwn source j w t s → KeepsFresh source s
  keeps_at j w t s b e a h = record {
    binds = law_binds source s h.now.alone (λ u g. (subst (StepOwn j w t) g h.next).alone) b;
    ends = record { mains = e.bare; takes = takes s h.now.alone s.run.control; asks = e.asks a };
  }

  pub ride_keeps : (j : Journal) (w : World) (t : ℕ) {s u : State} {q k : ℕ} {a : Asked} (r : Rides source s q u k a) → RideMeets (BindsOwn source) source s q u k a r → RideMeets (EndsMains source) source s q u k a r → RideMeets (FindsAll source) source s q u k a r → RideMeets (StaysOwn source j w t) source s q u k a r → RideMeets (KeepsFresh source) source s q u k a r
  ride_keeps j w t slices b e a o = tt
  ride_keeps j w t (goes_on {s} g r) b e a o = (keeps_at j w t s b.0 e.0 a.0 o.0, ride_keeps j w t r b.1 e.1 a.1 o.1)
  ride_keeps j w t (ticks {s} g r) b e a o = (keeps_at j w t s b.0 e.0 a.0 o.0, ride_keeps j w t r b.1 e.1 a.1 o.1)
  ride_keeps j w t (asks {s} g) b e a o = keeps_at j w t s b e a o

  pub run_keeps : (input : List ℕ) (opts : Options) (j : Journal) (w : World) (r : Runs source input opts j w) → RunMeets (BindsOwn source) source input opts j w r → RunMeets (EndsMains source) source input opts j w r → RunMeets (FindsAll source) source input opts j w r → RunOwns source input opts j w r → RunMeets (KeepsFresh source) source input opts j w r
  run_keeps input opts _ _ begun b e a o = tt
  run_keeps input opts _ _ (more {j} {w} r on (gives p t v le)) b e a o = (run_keeps input opts j w r b.0 e.0 a.0 o.0, tt)
  run_keeps input opts _ _ (more {j} {w} r on (no_room p t v le)) b e a o = (run_keeps input opts j w r b.0 e.0 a.0 o.0, tt)
  run_keeps input opts _ _ (more {j} {w} r on (acts p t n s asked d)) b e a o =
      (run_keeps input opts j w r b.0 e.0 a.0 o.0, ride_keeps j w t d.rides b.1 e.1 a.1 o.1.0)

-- where an object goes next that is asked

asks_gone : (source : Source) (s : State) (todo : List Todo) → s.run.control ≡ GoneNow ∷ todo → quiet source s ≡ Asks (ask.Gone (this_object s)) (at todo s.run.operands (in_env (call_gone (this_object s) s.env) s))
asks_gone source s todo e = ap (λ l. act_todo source l s) e

pub goes_not : (source : Source) (s u : State) → quiet source s ≡ Goes u → (todo : List Todo) → s.run.control ≡ GoneNow ∷ todo → ⊥
goes_not source s u g todo e =
    let both : Asks (ask.Gone (this_object s)) (at todo s.run.operands (in_env (call_gone (this_object s) s.env) s)) ≡ Goes u = sym (asks_gone source s todo e) ∙ g in
    cc

pub ticks_not : (source : Source) (s u : State) → quiet source s ≡ Ticks u → (todo : List Todo) → s.run.control ≡ GoneNow ∷ todo → ⊥
ticks_not source s u g todo e =
    let both : Asks (ask.Gone (this_object s)) (at todo s.run.operands (in_env (call_gone (this_object s) s.env) s)) ≡ Ticks u = sym (asks_gone source s todo e) ∙ g in
    cc

gone_is : (source : Source) (s u : State) (r : Request) → quiet source s ≡ Asks r u → (todo : List Todo) → s.run.control ≡ GoneNow ∷ todo → r ≡ ask.Gone (this_object s)
gone_is source s u r g todo e =
    let both : Asks r u ≡ Asks (ask.Gone (this_object s)) (at todo s.run.operands (in_env (call_gone (this_object s) s.env) s)) = sym g ∙ asks_gone source s todo e in
    cc

module _ (makers : Makers) (asked : Exec → Bool) where
  -- where an object goes next it is of no task whose main is up
  abbrev pub GoesAlone : Source → (Exec → Bool) → State → Type 0
  GoesAlone source made s = (todo : List Todo) → s.run.control ≡ GoneNow ∷ todo → IsNoTask source (seating makers) (now makers asked made) s

  takes_at : (source : Source) (made : Exec → Bool) (s : State) → EndsMains source s → KeepsAt makers asked source (now makers asked made) s.run.control s → GoesAlone source made s → NamesAt makers asked source made s → LeavesAt source (seating makers) (now makers asked made) s.run.control s
  takes_at source made s f k g n = by s.run.control refl k
    where
      by : (l : List Todo) → s.run.control ≡ l → KeepsAt makers asked source (now makers asked made) l s → LeavesAt source (seating makers) (now makers asked made) l s
      by (SetUpNow r ∷ todo) e h = λ m i x u p. n.new r todo e m i x u p
      by (Finish ∷ todo) e h = (f.finish todo e, h)
      by (GoneNow ∷ todo) e h = g todo e
      by l e h = h

  pub at_state : (source : Source) (made : Exec → Bool) (s : State) → EndsMains source s → Keeps makers asked source made s → GoesAlone source made s → NamesAt makers asked source made s → OutlastsAt makers asked source made s
  at_state source made s f k g n = record { takes = λ st. law_ways source (seating makers) (now makers asked made) s st (takes_at source made s f k.leaves g n); alone = n.alone; held = k.held; named = k.named }

  -- so it is where that is asked and no such main is up
  asks_alone : (source : Source) (made : Exec → Bool) (s u : State) (r : Request) → quiet source s ≡ Asks r u → NoMainOf makers asked (now makers asked (made_behind source s made)) r → GoesAlone source made s
  asks_alone source made s u r e h todo c x own t i =
      let up : now makers asked (made_behind source s made) x ≡ true = ap (λ l. now makers asked (made_by source l s made) x) c ∙ own.0 in
      let none : NoMainOf makers asked (now makers asked (made_behind source s made)) (ask.Gone (this_object s)) = subst (NoMainOf makers asked (now makers asked (made_behind source s made))) (gone_is source s u r e todo c) h in
      none x up t (ap object_in (sym i))

  pub ride_both : (source : Source) (made : Exec → Bool) {s u : State} {q k : ℕ} {a : Asked} (r : Rides source s q u k a) → RideMeets (EndsMains source) source s q u k a r → RideKeeps makers asked source made r → NoMainOf makers asked (now makers asked (ride_made source made r)) a.request → RideNames makers asked source made r → RideOutlasts makers asked source made r
  ride_both source made slices f h g n = tt
  ride_both source made (goes_on {s} {t} e r) f h g n = (at_state source made s f.0 h.0 (λ todo c. absurd (goes_not source s t e todo c)) n.0, ride_both source (made_behind source s made) r f.1 h.1 g n.1)
  ride_both source made (ticks {s} {t} e r) f h g n = (at_state source made s f.0 h.0 (λ todo c. absurd (ticks_not source s t e todo c)) n.0, ride_both source (made_behind source s made) r f.1 h.1 g n.1)
  ride_both source made (asks {s} {t} {q} {r} e) f h g n = at_state source made s f h (asks_alone source made s t r e g) n

  spawns_both : (source : Source) (made : Exec → Bool) (q : Request) (s : State) → SpawnsKept makers asked source q s → SpawnsNew makers asked made q s → SpawnsAlone makers asked source made q s
  spawns_both source made (ask.Spawn o) s h n = (n.0, n.1, h)
  spawns_both source made q s h n = tt

  module _ (source : Source) (input : List ℕ) (opts : Options) where
    may_both : (made : Exec → Bool) {j : Journal} {w : World} {a : List Entry} {x : World} (m : May source opts input j w a x) → MayMeet (EndsMains source) source opts input j w a x m → MayKeep makers asked source input opts made m → MayEnd makers asked source input opts made m → MayName makers asked source input opts made m → MayOutlast makers asked source input opts made m
    may_both made (gives p t s h) f k g n = tt
    may_both made (no_room p t s h) f k g n = tt
    may_both made (acts p t i s q d) f k g n = (ride_both source made d.rides f k.0 g n.0, spawns_both source (ride_made source made d.rides) q.request s k.1 n.1, n.2)

    pub run_both : {j : Journal} {w : World} (r : Runs source input opts j w) → RunMeets (EndsMains source) source input opts j w r → RunKeeps makers asked source input opts r → RunEnds makers asked source input opts r → RunNames makers asked source input opts r → RunOutlasts makers asked source input opts r
    run_both begun f k g n = tt
    run_both (more r o m) f k g n = (run_both r f.0 k.0 g.0 n.0, may_both (run_made source input opts r) m f.1 k.1 g.1 n.1)

pub law_kept_runs : LawKeptRuns
law_kept_runs asked homes source input opts j w r range fits on leaves spares mains b k g =
    law_outlast_runs asked homes source input opts j w r range fits on b (run_both (with_homes homes b.makers) asked source input opts r (law_mains.runs source input opts j w r mains) k g (law_outlast_names asked homes source input opts j w r range fits on leaves spares b))

-- who lives was made, or is the main of task 0

module _ (made : Exec → Bool) where
  abbrev MadeEx : Exec → Execution (List Todo) Value → Type 0
  MadeEx n y = IsMade made n

  in_slot : (n : Exec) (cs : List Active) (m : Exec) (o : Option (Execution (List Todo) Value)) → InSlot n cs m o → SlotBy MadeEx m o → IsMade made n
  in_slot n cs m None i h = absurd i
  in_slot n cs m (Some y) i h = subst (IsMade made) (sym i.0) h

  in_parked : (n : Exec) (cs : List Active) (h : Home) (ps : List (ℕ × Option (Execution (List Todo) Value))) → InParked n cs h ps → ParkedBy MadeEx h ps → IsMade made n
  in_parked n cs h [] i k = absurd i
  in_parked n cs h (p ∷ ps) (inl i) k = in_slot n cs (record { home = h; serial = p.0 }) p.1 i k.0
  in_parked n cs h (p ∷ ps) (inr i) k = in_parked n cs h ps i k.1

  in_hand : (n : Exec) (cs : List Active) (ps : List (ℕ × Members)) → InHand n cs ps → HandBy MadeEx ps → IsMade made n
  in_hand n cs [] i k = absurd i
  in_hand n cs (p ∷ ps) (inl i) k = in_parked n cs (home.Object p.0) p.1.parked i k.0
  in_hand n cs (p ∷ ps) (inr i) k = in_hand n cs ps i k.1

  in_members : (n : Exec) (cs : List Active) (h : Home) (m : Option Members) → InMembers n cs h m → MembersBy MadeEx h m → IsMade made n
  in_members n cs h None i k = absurd i
  in_members n cs h (Some m) i k = in_parked n cs h m.parked i k

  pub in_world : (source : Source) (j : Journal) (x : World) → AllMade made j x → ((v : ℕ) → task_count j ≤ v → x.tasks v ≡ first_state (routine_of source source.main) 0) → (n : Exec) (cs : List Active) → Lives j x n cs → IsMade made n
  in_world source j x all later n cs (inl i) =
      ⊎_elim (λ lt. subst (IsMade made) (sym i.2) (all.running i.0 lt i.1)) (λ le. inl (i.2 ∙ ap (λ (s : State). s.env.exec) (later i.0 le))) (cases_lt i.0 (task_count j))
  in_world source j x all later n cs (inr (inl (v, inl i))) = in_parked n cs (home.Task (x.tasks v).env.own) (x.tasks v).env.house.parked i (all.tasks v).house
  in_world source j x all later n cs (inr (inl (v, inr i))) = in_hand n cs (x.tasks v).env.hand i (all.tasks v).hand
  in_world source j x all later n cs (inr (inr (q, i))) = in_members n cs (home.Object q) (x.homes q) i (all.homes q)

-- all that are still there are among those
pub all_still : (still : Exec → Bool) (j : Journal) (x : World) → AreStill still j x → AllMade still j x
all_still still j x h = record {
  running = λ u lt e. inr (h.running u lt e);
  tasks = λ u. both_env (λ n y. still n ≡ true) (λ n y. still n ≡ true) (λ n y. IsMade still n) (λ n y a b. inr a) (x.tasks u).env (h.tasks u) (h.tasks u);
  homes = λ o. both_members (λ n y. still n ≡ true) (λ n y. still n ≡ true) (λ n y. IsMade still n) (λ n y a b. inr a) (home.Object o) (x.homes o) (h.homes o) (h.homes o);
}

-- so what it has of others is based where it stood, if it is asked
pub based_of : (t : Table) (few : Few) (makers : Makers) (asked made : Exec → Bool) (yet : Exec → List Active → Value → Ty → Bool) (own : Exec → Value → Ty → Bool) (j : Journal) (x : World) → ((w : Value) (b : Ty) → Base few (main_of 0) w b → own (main_of 0) w b ≡ true) → ((n : Exec) → made n ≡ true → makers.rank (makers.parent n) < makers.rank n) → (n : Exec) → IsMade made n → IsMade asked n → (w : Value) (b : Ty) → Base few n w b → own n w b ≡ false → IsStood t few makers yet j x n w b → IsBased t few makers (now makers asked made) yet j x n w b
based_of t few makers asked made yet own j x first later n (inl e) g w b k f s =
    no_both (own n w b) (ap (λ m. own m w b) e ∙ first w b (subst (λ m. Base few m w b) e k)) f
based_of t few makers asked made yet own j x first later n (inr e) (inl g) w b k f s =
    no_both (own n w b) (ap (λ m. own m w b) g ∙ first w b (subst (λ m. Base few m w b) g k)) f
based_of t few makers asked made yet own j x first later n (inr e) (inr g) w b k f s = record {
  asked = ap (λ (c : Bool). if c then made n else false) g ∙ e;
  later = later n e;
  active = s.active;
  lives = s.lives;
  stood = s.stood;
}
