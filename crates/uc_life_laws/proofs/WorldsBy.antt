-- What runs keep of states in which all is known, whatever that says, if steps and answers keep it.
use Rattle.std.proofs.Common.{◌≡◌, ℕ, ◌<◌, ◌≤◌, ◌==◌, Bool, true, false, List, [], ◌∷◌, ◌++◌, Option, Some, None, refl, sym, ap, ◌∙◌, subst, arith}
use Rattle.std.specs.Prelude.{if◌then◌else◌}
use Rattle.std.proofs.lemmas.Bool.{eqb-true}
use Rattle.uc_tree.specs.Source.{Source, routine_of}
use Rattle.uc_entry.specs.declared.entry.Entry.{Entry}
use Rattle.uc_entry.specs.declared.entry.Options.{Options}
use Rattle.uc_entry.specs.declared.request.Answer.{Answer}
use Rattle.uc_entry.specs.declared.request.Answer.TheVariants as answer
use Rattle.uc_entry.specs.declared.request.Asked.{Asked}
use Rattle.uc_entry.specs.declared.request.Request.{Request}
use Rattle.uc_entry.specs.declared.request.Request.TheVariants as ask
use Rattle.uc_entry.specs.Keyed.{find}
use Rattle.uc_acts.specs.Journal.{Journal, begin, held, is_over, own_object, cost, no_cost}
use Rattle.uc_acts.specs.Known.{object_count, task_count, spawns, takes_out, has_ended, is_gone}
use Rattle.uc_acts.specs.Queues.{running, cluster_count, processor_count}
use Rattle.uc_acts.specs.Answers.{answer_to}
use Rattle.uc_acts.specs.Sound.{Unborn, spot}
use Rattle.uc_acts.specs.Acts.{act, row, fault, is_faulty, dispatch, lone_limit}
use Rattle.uc_acts.specs.KernelRuns.{Fits, InRange, MayAsk, KernelRuns}
use Rattle.uc_acts.proofs.Living.{going_row}
use Rattle.uc_acts.proofs.Rest.{settled_calm}
use Rattle.uc_acts.proofs.Bounds.{over_limit}
use Rattle.uc_answer_laws.specs.Suiting.{IsForm, JustGo, asked_form}
use Rattle.uc_answer_laws.proofs.Told.{SpotSuits, form_push, no_both}
use Rattle.uc_answer_laws.proofs.Runs.{kept_run, law_suiting, form_none}
use Rattle.uc_answer_laws.proofs.Asking.{law_asking}
use Rattle.uc_machine.specs.declared.exec.Exec.{Exec}
use Rattle.uc_machine.specs.declared.exec.Home.TheVariants as home
use Rattle.uc_machine.specs.Quiet.{State, Members, no_members, first_state, quiet}
use Rattle.uc_machine.specs.Answering.{answered, child_of, with_hand, child_main}
use Rattle.uc_machine.specs.Rides as rides
use Rattle.uc_machine.specs.Rides.{Rides}
use Rattle.uc_meaning.specs.Runs.{World, May, Runs, AsksIn, first_world, with_home, hand_of, drawn, or_else, world_after, bare, gives, no_room, acts, begun, more}
use Rattle.uc_state_laws.specs.Fitting.{MayFit, RunFits}
use Rattle.uc_state_laws.proofs.Makes.{law_ends}
use Rattle.uc_state_laws.proofs.Alive.{law_alive}
use Rattle.uc_state_laws.proofs.Others.{run_rests, may_ask}
use Rattle.uc_sound.proofs.Ties.{false_true}
use Rattle.uc_state_laws.specs.Rooms.{SourceIn}
use Rattle.uc_state_laws.specs.RoomStacks.{StackState, StackStep}
use Rattle.uc_state_laws.specs.RoomRuns as runs
use Rattle.uc_state_laws.specs.RoomRuns.{Leads, Comes}
use Rattle.uc_state_laws.proofs.StackWalk as stacking
use Rattle.uc_state_laws.proofs.StackWorlds as stacked
use Rattle.uc_state_laws.proofs.StackWorlds.{StackWorld}
use Rattle.uc_state_laws.specs.Opens.{RideMeets, MayMeet, RunMeets, LeadsMeet}
use Rattle.uc_state_laws.proofs.Counts.{one_kept, told_others}
use Rattle.uc_typing.specs.Typing.{Ty, Num, Obj, Raw, Clu, Pro, Table}
use Rattle.uc_typing.specs.States.{Suits}
use Rattle.uc_life_laws.proofs.Spawning.{Spawned, spawner, ended_before, suits}
use Rattle.uc_life_laws.specs.LifeStates.{HandBy, MembersBy, EnvBy, StepIs, LifeState, Opens, Clears}
use Rattle.uc_life_laws.specs.LifeRuns.{IsLaidOut}
use Rattle.uc_life_laws.specs.Knowing.{AskedBy, StepBy, HasObject}
use Rattle.uc_life_laws.specs.KnownAnswers.{Passes, MainPasses}
use Rattle.uc_life_laws.specs.KnownRuns.{PassesBelow, RestBy}
use Rattle.uc_life_laws.proofs.Cells.{either}
use Rattle.uc_life_laws.proofs.Parked.{Ex, found_hand}
use Rattle.uc_life_laws.proofs.LifeWorlds.{LifeWorld, acted, life_begun, stack_told, life_told}
use Rattle.uc_life_laws.proofs.LifeWalk.{law_steps}
use Rattle.uc_life_laws.proofs.Clearing.{clears}
use Rattle.uc_life_laws.proofs.NewNumbers.{objects_grow, clusters_grow, processors_grow, told_object, told_cluster, told_processor, spawned_object}
use Rattle.uc_life_laws.specs.Things.{Few}

-- what else holds of states and worlds, beside what is known (S): L of each state, W of each world. Steps that find what they are to find (M) keep it, and so do
-- acts and answers
pub record Beside (t : Table) (source : Source) (L : State → Type 0) (W : World → Type 0) (S : List Ty → State → Type 0) (M : State → Type 0) : Type 0 where
  pub steps : (s : State) → Clears t s → M s → L s → S [] s → StepIs L (quiet source s)
  pub acted : (w : World) (a : List Entry) (n : ℕ) (s : State) → W w → L s → W (world_after source a w n s)
  pub begun : W (first_world source)
  pub told : (given : Answer) (j : Journal) (w : World) (n : ℕ) → W w → L (answered source given (drawn j w n))

-- so it is of what is in scope, where scopes open so
pub life_beside : (t : Table) (few : Few) (source : Source) (Z : ℕ → ℕ → Type 0) (laid : IsLaidOut Z t) (in_rooms : SourceIn Z source) (S : List Ty → State → Type 0) (M : State → Type 0) → ((s : State) → M s → LifeState t few s → S [] s → Opens t few s) → Beside t source (LifeState t few) (LifeWorld t few) S M
life_beside t few source Z laid in_rooms S M opens = record {
  steps = λ s clear m h x. law_steps.steps t few source s h (opens s m h x) clear;
  acted = λ w a n s h asks. acted t few Z laid source in_rooms w a n s h asks;
  begun = life_begun t few Z laid source in_rooms;
  told = λ given j w n h. life_told t few Z laid source in_rooms given j w n h;
}

-- what runs keep of states: S of those that are known, P of executions that do not run, M of what a step is to find
pub record KeepsBy (t : Table) (few : Few) (source : Source) (L : State → Type 0) (S : List Ty → State → Type 0) (P : Exec → Ex → Type 0) (M : State → Type 0) : Type 0 where
  pub hand : (given : List Ty) (s : State) → S given s → HandBy P s.env.hand
  pub handed : (given : List Ty) (hand : List (ℕ × Members)) (s : State) → S given s → HandBy P hand → S given (with_hand hand s)
  pub told : (q : Request) (a : Answer) (s : State) → AskedBy t few S (EnvBy P) source q s → Suits q a → Passes t few q a → S [] (answered source a s)
  pub spawned : (o n : ℕ) (s : State) → AskedBy t few S (EnvBy P) source (ask.Spawn o) s → MainPasses t few (t.routine (child_main source s.run.control)).this n → S [] (child_of source n s)
  pub begins : MainPasses t few (t.routine source.main).this 0 → S [] (first_state (routine_of source source.main) 0)
  pub steps : (s : State) → Clears t s → M s → L s → S [] s → StepBy t few S (EnvBy P) source (quiet source s)

-- another hand

module _ (t : Table) (few : Few) (source : Source) {L : State → Type 0} (S : List Ty → State → Type 0) (P : Exec → Ex → Type 0) {M : State → Type 0} (keeps : KeepsBy t few source L S P M) where
  asked_handed : (q : Request) (hand : List (ℕ × Members)) (s : State) → AskedBy t few S (EnvBy P) source q s → HandBy P hand → AskedBy t few S (EnvBy P) source q (with_hand hand s)
  asked_handed (ask.Make m) hand s x h = (x.0, x.1, x.2, keeps.handed (Raw x.0 ∷ []) hand s x.3 h)
  asked_handed (ask.Spawn o) hand s x h = (x.0, x.1, keeps.handed [] hand s x.2 h)
  asked_handed (ask.Accept o site mask) hand s x h = keeps.handed (Num ∷ (Num ∷ [])) hand s x h
  asked_handed (ask.Empty o m) hand s x h = keeps.handed (Num ∷ []) hand s x h
  asked_handed (ask.Front o m) hand s x h = keeps.handed (Num ∷ []) hand s x h
  asked_handed (ask.Poll mask) hand s x h = keeps.handed (Num ∷ (Num ∷ (Num ∷ []))) hand s x h
  asked_handed (ask.Read form) hand s x h = keeps.handed (Num ∷ []) hand s x h
  asked_handed ask.Fail hand s x h = keeps.handed (Num ∷ []) hand s x h
  asked_handed ask.Cluster hand s x h = keeps.handed (Clu ∷ []) hand s x h
  asked_handed (ask.Processor c) hand s x h = keeps.handed (Pro ∷ []) hand s x h
  asked_handed ask.End hand s x h = record { house = x.house; hand = h }
  asked_handed (ask.Fault m) hand s x h = tt
  asked_handed q hand s x h = keeps.handed [] hand s x h

  -- what is in hand where something is asked that is no fault
  asked_hand : (q : Request) (s : State) → ((m : ℕ) → q ≡ ask.Fault m → ⊥) → AskedBy t few S (EnvBy P) source q s → HandBy P s.env.hand
  asked_hand (ask.Make m) s f x = keeps.hand (Raw x.0 ∷ []) s x.3
  asked_hand (ask.Spawn o) s f x = keeps.hand [] s x.2
  asked_hand ask.End s f x = x.hand
  asked_hand (ask.Fault m) s f x = absurd (f m refl)
  asked_hand (ask.Accept o site mask) s f x = keeps.hand (Num ∷ (Num ∷ [])) s x
  asked_hand (ask.Empty o m) s f x = keeps.hand (Num ∷ []) s x
  asked_hand (ask.Front o m) s f x = keeps.hand (Num ∷ []) s x
  asked_hand (ask.Poll mask) s f x = keeps.hand (Num ∷ (Num ∷ (Num ∷ []))) s x
  asked_hand (ask.Read form) s f x = keeps.hand (Num ∷ []) s x
  asked_hand ask.Fail s f x = keeps.hand (Num ∷ []) s x
  asked_hand ask.Cluster s f x = keeps.hand (Clu ∷ []) s x
  asked_hand (ask.Processor c) s f x = keeps.hand (Pro ∷ []) s x
  asked_hand q s f x = keeps.hand [] s x

module _ (P : Exec → Ex → Type 0) where
  home_known : (o : ℕ) (x : Option Members) (hand : List (ℕ × Members)) → MembersBy P (home.Object o) x → HandBy P hand → HandBy P (with_home o x hand)
  home_known o None hand h k = k
  home_known o (Some m) hand h k = (h, k)

  hand_known : (os : List ℕ) (homes : ℕ → Option Members) → ((o : ℕ) → MembersBy P (home.Object o) (homes o)) → HandBy P (hand_of os homes)
  hand_known [] homes h = tt
  hand_known (o ∷ os) homes h = home_known o (homes o) (hand_of os homes) (h o) (hand_known os homes h)

  or_known : (o : ℕ) (x y : Option Members) → MembersBy P (home.Object o) x → MembersBy P (home.Object o) y → MembersBy P (home.Object o) (or_else x y)
  or_known o None y h k = k
  or_known o (Some m) y h k = h

module _ (t : Table) (few : Few) where
  -- of what is told only the numbers of what is new are asked
  passes_by : (q : Request) (a : Answer) → ((o : ℕ) → a ≡ answer.Object o → Passes t few q (answer.Object o)) → Passes t few q a
  passes_by (ask.Make m) (answer.Object o) f = f o refl
  passes_by ask.Cluster (answer.Object o) f = f o refl
  passes_by (ask.Processor c) (answer.Object o) f = f o refl
  passes_by q a f = tt

  main_passes : (c : Option ℕ) (n : ℕ) → ((c : ℕ) → (few.numbers (Raw c) n ≡ true) × (few.numbers (Obj c) n ≡ true)) → HasObject t few c n → MainPasses t few c n
  main_passes None n f h = tt
  main_passes (Some c) n f h = let l = f c in (l.0, l.1, h)

-- fewer numbers pass before
pub earlier : (few : Few) (opts : Options) (j : Journal) (a : List Entry) → PassesBelow few opts (j ++ a) → PassesBelow few opts j
earlier few opts j a b = record {
  objects = λ c n l. let m = objects_grow j a in b.objects c n (omega (arith, l, m));
  raws = λ c n l. let m = objects_grow j a in b.raws c n (omega (arith, l, m));
  clusters = λ n l. let m = clusters_grow j a in b.clusters n (omega (arith, l, m));
  processors = λ n l. let m = processors_grow opts j a in b.processors n (omega (arith, l, m));
}

-- at an act all numbers pass of what was there and is not gone, and of what is new
pub record PassesNow (few : Few) (opts : Options) (j : Journal) (a : List Entry) : Type 0 where
  pub objects : (c n : ℕ) → n < object_count j → is_gone n j ≡ false → few.numbers (Obj c) n ≡ true
  pub raws : (c n : ℕ) → n < object_count (j ++ a) → few.numbers (Raw c) n ≡ true
  pub clusters : (n : ℕ) → n < cluster_count (j ++ a) → few.numbers Clu n ≡ true
  pub processors : (n : ℕ) → n < processor_count opts (j ++ a) → few.numbers Pro n ≡ true

now : (few : Few) (opts : Options) (j : Journal) (a : List Entry) → PassesBelow few opts (j ++ a) → PassesNow few opts j a
now few opts j a b = record {
  objects = λ c n l g. (earlier few opts j a b).objects c n l;
  raws = b.raws;
  clusters = b.clusters;
  processors = b.processors;
}

module _ (t : Table) (few : Few) (source : Source) (Z : ℕ → ℕ → Type 0) (laid : IsLaidOut Z t) (in_rooms : SourceIn Z source) (L : State → Type 0) (W : World → Type 0) (S : List Ty → State → Type 0) (P : Exec → Ex → Type 0) (M : State → Type 0) (beside : Beside t source L W S M) (keeps : KeepsBy t few source L S P M) where
  -- steps and rides

  -- in a state all is known, and what stands beside that holds
  pub record There (s : State) : Type 0 where
    pub life : L s
    pub known : S [] s

  clear : (s : State) → StackState Z s → Clears t s
  clear s st = clears Z t laid s st

  pub knows_to : (s : State) → StackState Z s → M s → There s → StepBy t few S (EnvBy P) source (quiet source s)
  knows_to s st m x = keeps.steps s (clear s st) m x.life x.known

  stack_to : (s : State) → StackState Z s → StackStep Z (quiet source s)
  stack_to s st = stacking.walk Z source in_rooms s st

  life_to : (s : State) → StackState Z s → M s → There s → StepIs L (quiet source s)
  life_to s st m x = beside.steps s (clear s st) m x.life x.known

  -- where a ride ends
  pub record Ends (r : Request) (s : State) : Type 0 where
    pub life : L s
    pub asked : AskedBy t few S (EnvBy P) source r s

  pub ridden : {s u : State} {q k : ℕ} {a : Asked} (r : Rides source s q u k a) → RideMeets M source s q u k a r → StackState Z s → There s → Ends a.request u
  ridden rides.slices m st x = record { life = x.life; asked = x.known }
  ridden (rides.goes_on {s} e r) m st x =
      ridden r m.1 (subst (StackStep Z) e (stack_to s st)) (record { life = subst (StepIs L) e (life_to s st m.0 x); known = subst (StepBy t few S (EnvBy P) source) e (knows_to s st m.0 x) })
  ridden (rides.ticks {s} e r) m st x =
      ridden r m.1 (subst (StackStep Z) e (stack_to s st)) (record { life = subst (StepIs L) e (life_to s st m.0 x); known = subst (StepBy t few S (EnvBy P) source) e (knows_to s st m.0 x) })
  ridden (rides.asks {s} e) m st x = record { life = subst (StepIs L) e (life_to s st m x); asked = (subst (StepBy t few S (EnvBy P) source) e (knows_to s st m x)).1 }

  pub led : {s u : State} (l : Leads source s u) → LeadsMeet M source s u l → StackState Z s → There s → There u
  led runs.stays m st x = x
  led (runs.goes {s} e l) m st x =
      led l m.1 (subst (StackStep Z) e (stack_to s st)) (record { life = subst (StepIs L) e (life_to s st m.0 x); known = subst (StepBy t few S (EnvBy P) source) e (knows_to s st m.0 x) })
  led (runs.ticks {s} e l) m st x =
      led l m.1 (subst (StackStep Z) e (stack_to s st)) (record { life = subst (StepIs L) e (life_to s st m.0 x); known = subst (StepBy t few S (EnvBy P) source) e (knows_to s st m.0 x) })

  -- the tasks and what is at home
  pub record KnownWorld (j : Journal) (w : World) : Type 0 where
    pub tasks : (n : ℕ) → has_ended n j ≡ false → RestBy t few S (EnvBy P) source j n (w.tasks n)
    pub homes : (o : ℕ) → MembersBy P (home.Object o) (w.homes o)
    pub life : W w

  -- a task that just goes on
  going_on : (j : Journal) (n : ℕ) (s : State) → JustGo ≡ asked_form n j → S [] s → RestBy t few S (EnvBy P) source j n s
  going_on j n s q x = record { request = ask.Yield; asked = x; asks_for = q; no_end = λ e. absurd (cc); no_fault = λ m e. absurd (cc); told = λ o e. tt }

  module _ (opts : Options) (input : List ℕ) (j : Journal) (w : World) (kernel : KernelRuns opts source.sites input j) (on : is_over j ≡ false) (h : KnownWorld j w) where
    runs_known : (p n : ℕ) (a : Answer) → running p j ≡ n ∷ [] → answer_to source.sites n j ≡ Some a → S [] (answered source a (drawn j w n))
    runs_known p n a r told =
        let x = h.tasks n (law_alive opts source.sites input j kernel on p n r) in
        let form = law_suiting opts source.sites input j kernel on n a told in
        let fits = suits x.request a (subst (λ f. IsForm f a) (sym x.asks_for) form) x.no_end x.no_fault in
        let passes = passes_by t few x.request a (λ o q. x.told o (told ∙ ap (λ (y : Answer). Some y) q)) in
        keeps.told x.request a (drawn j w n) (asked_handed t few source S P keeps x.request (hand_of (held n j) w.homes) (w.tasks n) x.asked (hand_known P (held n j) w.homes h.homes)) fits passes

    module _ (p n k : ℕ) (s : State) (asked : Asked) (d : AsksIn source opts j w p n k s asked) (ends : Ends asked.request s) (m : MayAsk opts source.sites j p n k asked.request) (still : is_over (j ++ act opts source.sites input j p n k asked) ≡ false) (below : PassesNow few opts j (act opts source.sites input j p n k asked)) where
      abbrev a : List Entry
      a = act opts source.sites input j p n k asked

      own : AskedBy t few S (EnvBy P) source asked.request s
      own = ends.asked

      goes : a ≡ row opts source.sites input j p n (cost k asked.line) asked.line asked.request
      goes = (going_row opts source.sites input j p n k asked still).0

      calm : is_faulty (row opts source.sites input j p n (cost k asked.line) asked.line asked.request) ≡ false
      calm =
          let g = going_row opts source.sites input j p n k asked still in
          ap is_faulty (sym (settled_calm (fault p n no_cost 10 asked.line) j (row opts source.sites input j p n (cost k asked.line) asked.line asked.request) refl g.1)) ∙ g.1

      no_fault : (x : ℕ) → asked.request ≡ ask.Fault x → ⊥
      no_fault x e = false_true (sym calm ∙ ap (λ r. is_faulty (row opts source.sites input j p n (cost k asked.line) asked.line r)) e)

      hand : HandBy P s.env.hand
      hand = asked_hand t few source S P keeps asked.request s no_fault own

      abbrev after : World
      after = world_after source (act opts source.sites input j p n k asked) w n s

      -- what is new has a number below the counts
      told_passes : (r : Request) → asked.request ≡ r → (o : ℕ) → answer_to source.sites n (j ++ a) ≡ Some (answer.Object o) → Passes t few r (answer.Object o)
      told_passes (ask.Make x) q o e = λ c i. below.raws c o (told_object opts source.sites input j p n k asked still x o q e)
      told_passes ask.Cluster q o e = below.clusters o (told_cluster opts source.sites input j p n k asked still o q e)
      told_passes (ask.Processor c) q o e = below.processors o (told_processor opts source.sites input j p n k asked still c o q e)
      told_passes r q o e = tt

      own_after : has_ended n (j ++ a) ≡ false → RestBy t few S (EnvBy P) source (j ++ a) n (bare s)
      own_after ended =
          let x = law_ends opts source.sites input j p n k asked still ended in
          record {
            request = asked.request;
            asked = asked_handed t few source S P keeps asked.request [] s own tt;
            asks_for = sym (law_asking opts source.sites input j p n k asked kernel m still).own;
            no_end = x.no_end;
            no_fault = x.no_fault;
            told = λ o e. told_passes asked.request refl o e;
          }

      same_form : (u : ℕ) → (u == n) ≡ false → asked_form u j ≡ asked_form u (j ++ a)
      same_form u e = sym ((law_asking opts source.sites input j p n k asked kernel m still).others u e)

      others_rest : (u : ℕ) → (u == n) ≡ false → RestBy t few S (EnvBy P) source j u (w.tasks u) → RestBy t few S (EnvBy P) source (j ++ a) u (w.tasks u)
      others_rest u e x = record {
        request = x.request;
        asked = x.asked;
        asks_for = x.asks_for ∙ same_form u e;
        no_end = x.no_end;
        no_fault = x.no_fault;
        told = λ o f. x.told o (told_others opts source.sites input j p n k asked u o e f);
      }

      -- whoever is spawned begins with the main of a task
      child : (u : ℕ) (r : Request) → asked.request ≡ r → Fits opts source.sites j n r → Spawned j u r → AskedBy t few S (EnvBy P) source r s → (u ≡ task_count j) × S [] (child_of source (own_object u a) s)
      child u (ask.Spawn o) q f h x =
          let made = f.0.known.made in
          let grows = objects_grow j a in
          let l : o < object_count (j ++ a) = omega (arith, made, grows) in
          let passes : (c : ℕ) → (few.numbers (Raw c) o ≡ true) × (few.numbers (Obj c) o ≡ true) = λ c. (below.raws c o l, below.objects c o made f.0.known.not_gone) in
          (h, subst (λ n. S [] (child_of source n s)) (sym (spawned_object opts source.sites input j p n k asked still u o q h)) (keeps.spawned o o s x (main_passes t few (t.routine (child_main source s.run.control)).this o passes x.1)))
      child u r q f h x = absurd h

      new_form : (u : ℕ) → u ≡ task_count j → asked_form u j ≡ JustGo
      new_form u q =
          let k = kept_run opts source.sites input kernel on in
          let new : spot u j ≡ Unborn = k.sound.few u (let le : task_count j ≤ u = omega (arith, q) in le) in
          subst (λ P. SpotSuits P (asked_form u j)) new (k.suits.spots u)

      tasks_after : (u : ℕ) → has_ended u (j ++ a) ≡ false → RestBy t few S (EnvBy P) source (j ++ a) u (after.tasks u)
      tasks_after u ended = by (u == n) refl
        where
          born : (b : Bool) → (u == n) ≡ false → spawns a u ≡ b → RestBy t few S (EnvBy P) source (j ++ a) u (if b then child_of source (own_object u a) s else w.tasks u)
          born true e f =
              let c = child u asked.request refl m.fits (spawner u opts source.sites input j p n (cost k asked.line) asked.line asked.request (ap (λ l. spawns l u) (sym goes) ∙ f)) own in
              going_on (j ++ a) u (child_of source (own_object u a) s) (sym (new_form u c.0) ∙ same_form u e) c.1
          born false e f = others_rest u e (h.tasks u (ended_before u j a ended))

          by : (b : Bool) → (u == n) ≡ b → RestBy t few S (EnvBy P) source (j ++ a) u (if b then bare s else if spawns a u then child_of source (own_object u a) s else w.tasks u)
          by true e =
              let q : u ≡ n = eqb-true u n e in
              subst (λ v. RestBy t few S (EnvBy P) source (j ++ a) v (bare s)) (sym q) (own_after (ap (λ v. has_ended v (j ++ a)) (sym q) ∙ ended))
          by false e = born (spawns a u) e refl

      pub act_known : KnownWorld (j ++ a) after
      act_known = record {
        tasks = tasks_after;
        homes = λ o. either (MembersBy P (home.Object o)) (takes_out a o) None (or_else (find o s.env.hand) (w.homes o)) tt (or_known P o (find o s.env.hand) (w.homes o) (found_hand P o s.env.hand hand) (h.homes o));
        life = beside.acted w a n s h.life ends.life;
      }

    pub given_known : (p n : ℕ) → KnownWorld (j ++ dispatch p n ∷ []) w
    given_known p n = record {
      tasks = λ u ended.
          let x = h.tasks u (ended_before u j (dispatch p n ∷ []) ended) in
          record {
            request = x.request;
            asked = x.asked;
            asks_for = x.asks_for ∙ sym (form_push u j (dispatch p n));
            no_end = x.no_end;
            no_fault = x.no_fault;
            told = λ o f. x.told o (one_kept source.sites j (dispatch p n) u o refl f);
          };
      homes = h.homes;
      life = h.life;
    }

  pub begin_known : (opts : Options) → MainPasses t few (t.routine source.main).this 0 → KnownWorld (begin opts ∷ []) (first_world source)
  begin_known opts first = record {
    tasks = λ u ended. going_on (begin opts ∷ []) u (first_state (routine_of source source.main) 0) (sym (form_push u [] (begin opts) ∙ form_none u)) (keeps.begins first);
    homes = λ o. either (MembersBy P (home.Object o)) (o == 0) (Some no_members) None tt tt;
    life = beside.begun;
  }

  module _ (input : List ℕ) (opts : Options) (range : InRange opts) where
    -- whoever runs, told its answer
    pub starts : {j : Journal} {w : World} → KernelRuns opts source.sites input j → is_over j ≡ false → KnownWorld j w → (p n : ℕ) (a : Answer) → running p j ≡ n ∷ [] → answer_to source.sites n j ≡ Some a → There (answered source a (drawn j w n))
    starts {j} {w} kernel on h p n a r told = record {
      life = beside.told a j w n h.life;
      known = runs_known opts input j w kernel on h p n a r told;
    }

    pub may_known : {j : Journal} {w : World} {a : List Entry} {x : World} → KernelRuns opts source.sites input j → is_over j ≡ false → StackWorld Z w → KnownWorld j w → (m : May source opts input j w a x) → MayFit source opts input j w a x m → MayMeet M source opts input j w a x m → is_over (j ++ a) ≡ false → PassesNow few opts j a → KnownWorld (j ++ a) x
    may_known {j} {w} kernel on st h (gives p n s le) f r still below = given_known opts input j w kernel on h p n
    may_known {j} {w} kernel on st h (no_room p n s le) f r still below = no_both (is_over (j ++ lone_limit ∷ [])) (over_limit j 0 0) still
    may_known {j} {w} kernel on st h (acts p n k s asked d) f r still below =
        let ends : Ends asked.request s = ridden d.rides r (stack_told t few Z laid source in_rooms d.given j w n st) (starts kernel on h p n d.given d.runs d.told) in
        act_known opts input j w kernel on h p n k s asked d ends (may_ask source input opts range d f) still below

    pub run_known : {j : Journal} {w : World} (r : Runs source input opts j w) → RunFits source input opts j w r → RunMeets M source input opts j w r → is_over j ≡ false → PassesBelow few opts j → MainPasses t few (t.routine source.main).this 0 → KnownWorld j w
    run_known begun f g still below first = begin_known opts first
    run_known (more {j} {w} {a} r on m) f g still below first =
        may_known (run_rests source input opts range r f.0 on).kernel on (stacked.world_rests Z source in_rooms input opts r) (run_known r f.0 g.0 on (earlier few opts j a below) first) m f.1 g.1 still (now few opts j a below)
