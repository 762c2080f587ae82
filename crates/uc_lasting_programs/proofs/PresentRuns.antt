-- In every run each activation that does more than to come to its end is of an object that has not gone, as nobody has at hand what goes.
use Rattle.std.proofs.Common.{◌≡◌, ℕ, ◌==◌, ◌<◌, ◌⊎◌, inl, inr, ◌||◌, Bool, true, false, List, [], ◌∷◌, ◌++◌, Some, None, refl, sym, ap, ◌∙◌, subst, append-nil, append_assoc}
use Rattle.std.specs.Prelude.{pos, if◌then◌else◌}
use Rattle.std.proofs.lemmas.Bool.{eqb-true}
use Rattle.uc_tree.specs.Programs.{Program}
use Rattle.uc_tree.specs.Source.{Source}
use Rattle.uc_entry.specs.Keyed.{find}
use Rattle.uc_entry.specs.declared.entry.Entry.{Entry}
use Rattle.uc_entry.specs.declared.entry.EntryKind.TheVariants as kind
use Rattle.uc_entry.specs.declared.entry.Options.{Options}
use Rattle.uc_entry.specs.declared.request.Asked.{Asked}
use Rattle.uc_entry.specs.declared.request.Request.{Request}
use Rattle.uc_entry.specs.declared.request.Request.TheVariants as ask
use Rattle.uc_acts.specs.Journal.{Journal, begin, asking, cost, held, is_over, own_object}
use Rattle.uc_acts.specs.Acts.{act, row, dispatch}
use Rattle.uc_acts.specs.Known.{has, object_count, has_ended, is_gone, is_gone_by, spawns, takes_object, takes_out}
use Rattle.uc_acts.specs.KernelRuns.{InRange}
use Rattle.uc_acts.proofs.Acting.{object_of, destroys, AllBy, by_row}
use Rattle.uc_acts.proofs.Counted.{gone_push, counted_run, law_made}
use Rattle.uc_acts.proofs.Held.{law_held}
use Rattle.uc_acts.proofs.Living.{going_row, gone_still, nothing_gone}
use Rattle.uc_machine.specs.declared.exec.Exec.{Exec}
use Rattle.uc_machine.specs.declared.exec.Home.TheVariants as home
use Rattle.uc_machine.specs.declared.exec.Stage.{Stage}
use Rattle.uc_machine.specs.declared.exec.Stage.TheVariants.{Fresh, Started, Ended}
use Rattle.uc_machine.specs.Executions.{Execution}
use Rattle.uc_machine.specs.Pieces.{Value, Number, Place, Running, Object, Nothing, Todo, Active}
use Rattle.uc_machine.specs.Quiet.{State, no_members}
use Rattle.uc_machine.specs.Answering.{answered, child_main, child_of}
use Rattle.uc_meaning.specs.Runs.{World, Runs, AsksIn, bare, drawn, or_else, first_world, world_after}
use Rattle.uc_resolve.specs.Resolve.{source_of}
use Rattle.uc_rules.specs.Breaks.{breaks_of}
use Rattle.uc_sound.specs.SoundFormed.{IsFormed}
use Rattle.uc_sound.specs.Tables.{table_of}
use Rattle.uc_sound.proofs.Routines.{law_entered}
use Rattle.uc_source_laws.specs.SourceLaws.{part_of}
use Rattle.uc_source_laws.proofs.InnerSources.{law_inner}
use Rattle.uc_state_laws.specs.Fitting.{RunFits}
use Rattle.uc_state_laws.specs.Deep.{deep_in}
use Rattle.uc_state_laws.proofs.Alive.{law_alive}
use Rattle.uc_state_laws.proofs.Others.{run_rests, asking as asks_with}
use Rattle.uc_state_laws.proofs.DeepWorlds.{ended_before, deep_in_hand, deep_run}
use Rattle.uc_state_laws.proofs.Rows.{there_inside}
use Rattle.uc_typing.specs.Typing.{Table}
use Rattle.uc_depth_laws.specs.Entering.{EnteredSource}
use Rattle.uc_depth_laws.proofs.Answers.{law_steps}
use Rattle.uc_depth_laws.proofs.Standing.{law_free, law_drawn}
use Rattle.uc_inner_laws.specs.Inner.{InnerSource}
use Rattle.uc_letting_laws.specs.AloneRuns.{RunAlone}
use Rattle.uc_letting_laws.proofs.NewObjects.{told_for, own_not_told, told_other, told_away}
use Rattle.uc_letting_laws.proofs.StandingWorlds.{standing_start}
use Rattle.uc_letting_laws.proofs.LettingWorlds.{both_run, start}
use Rattle.uc_life_laws.specs.Things.{Few}
use Rattle.uc_life_laws.specs.LifeStates.{EnvBy, MembersBy}
use Rattle.uc_life_laws.specs.Silent.{AllSilent}
use Rattle.uc_life_laws.specs.Knowing.{main_of}
use Rattle.uc_life_laws.proofs.Cells.{either, tested}
use Rattle.uc_life_laws.proofs.Fewer.{both_env, both_members}
use Rattle.uc_life_laws.proofs.KindsLemmas.{env_less, members_less}
use Rattle.uc_life_laws.proofs.NewNumbers.{spawned_object}
use Rattle.uc_life_laws.proofs.OwnRides.{start as own_start}
use Rattle.uc_life_laws.proofs.Parked.{found_hand}
use Rattle.uc_life_laws.proofs.Spawning.{Spawned, spawner}
use Rattle.uc_making_laws.specs.ForgetsThis.{GoesBy}
use Rattle.uc_making_laws.specs.LettingGo.{is_letting, IsTold, Told, LetsBy, LetsEx, LetsMembers, LetsStack, LetsFrom, LetsState, LetsAsked}
use Rattle.uc_making_laws.specs.NoOthers.{NoThis}
use Rattle.uc_making_laws.specs.Nobodys.{NoneBy, NoneEx, IsNobodys}
use Rattle.uc_making_laws.proofs.LettingRuns.{hand_rests, or_rests, bare_rests}
use Rattle.uc_making_laws.proofs.LettingWalk.{law_letting}
use Rattle.uc_making_laws.proofs.Upheld.{ride_keys}
use Rattle.uc_lasting_programs.proofs.Presence.{there, told_there, home_there}
use Rattle.uc_lasting_programs.proofs.Bases.{SeatsAlone}
use Rattle.uc_lasting_programs.proofs.PresentRides.{Began}
use Rattle.uc_lasting_programs.proofs.Visits.{Visits}

-- what an act leaves there

or_false : (b : Bool) → (b || false) ≡ b
or_false true = refl
or_false false = refl

none_goes : (t o : ℕ) (A : Type 0) (v : ℕ) (j : Journal) (p : ℕ) (a : List Entry) → AllBy p t o A false a → is_gone v (j ++ a) ≡ is_gone v j
none_goes t o A v j p [] h = ap (is_gone v) (append-nil j)
none_goes t o A v j p (e ∷ a) h =
    ap (is_gone v) (sym (append_assoc j (e ∷ []) a)) ∙ (none_goes t o A v (j ++ e ∷ []) p a h.1 ∙ gone_still v j e (no_gone (is_gone_by e.kind) h.0.gone))
  where
    no_gone : (b : Bool) → (b ≡ true → false ≡ true) → b ≡ false
    no_gone true f = absurd (let q = f refl in cc)
    no_gone false f = refl

-- an entry by which another object goes
other_goes : (v o : ℕ) (j : Journal) (e : Entry) → e.kind ≡ kind.Gone → e.object ≡ o → (o ≡ v → ⊥) → is_gone v j ≡ false → is_gone v (j ++ e ∷ []) ≡ false
other_goes v o j e k q away h =
    gone_push v j e ∙ (ap (λ b. b || takes_object e.kind e v) h ∙ (ap (λ x. takes_object x e v) k ∙ by (takes_object kind.Gone e v) refl))
  where
    by : (b : Bool) → takes_object kind.Gone e v ≡ b → takes_object kind.Gone e v ≡ false
    by true g = absurd (away (sym q ∙ sym (eqb-true v e.object g)))
    by false g = g

module _ (source : Source) (input : List ℕ) (opts : Options) (j : Journal) (p n k : ℕ) (asked : Asked) (on : is_over (j ++ act opts source.sites input j p n k asked) ≡ false) where
  stays_by : (q : Request) → asked.request ≡ q → (v : ℕ) → (q ≡ ask.Gone v → ⊥) → is_gone v j ≡ false → is_gone v (j ++ act opts source.sites input j p n k asked) ≡ false
  stays_by (ask.Gone o) e v away h =
      let one : act opts source.sites input j p n k asked ≡ asking kind.Gone p n (cost k asked.line) o (pos 0) (pos 0) ∷ [] = (going_row opts source.sites input j p n k asked on).0 ∙ ap (row opts source.sites input j p n (cost k asked.line) asked.line) e in
      ap (λ l. is_gone v (j ++ l)) one ∙ other_goes v o j (asking kind.Gone p n (cost k asked.line) o (pos 0) (pos 0)) refl refl (λ i. away (ap ask.Gone i)) h
  stays_by q e v away h = plain q refl e
    where
      plain : (r : Request) → destroys r ≡ false → asked.request ≡ r → is_gone v (j ++ act opts source.sites input j p n k asked) ≡ false
      plain r d f =
          let one = (going_row opts source.sites input j p n k asked on).0 in
          let none : destroys asked.request ≡ false = ap destroys f ∙ d in
          ap (λ l. is_gone v (j ++ l)) one ∙ (none_goes n (object_of n j asked.request) (Unit {0}) v j p (row opts source.sites input j p n (cost k asked.line) asked.line asked.request) (subst (λ g. AllBy p n (object_of n j asked.request) (Unit {0}) g (row opts source.sites input j p n (cost k asked.line) asked.line asked.request)) none (by_row opts source.sites input j p n (cost k asked.line) asked.line (Unit {0}) asked.request (λ x. tt))) ∙ h)

  pub gone_stays : (v : ℕ) → (asked.request ≡ ask.Gone v → ⊥) → is_gone v j ≡ false → is_gone v (j ++ act opts source.sites input j p n k asked) ≡ false
  gone_stays v away h = stays_by asked.request refl v away h

-- told of fewer objects, where none of these is had
module _ (t : Table) (g h : ℕ → Bool) (Out : ℕ → Type 0) (stay : (v : ℕ) → (Out v → ⊥) → g v ≡ false → h v ≡ false) where
  abbrev IsIn : Value → Type 0
  IsIn v = (o : ℕ) → v ≡ Object o → Out o → ⊥

  abbrev AllIn : List Active → Type 0
  AllIn [] = Unit {0}
  AllIn (a ∷ older) = IsIn a.this × AllIn older

  told_by : (n : Exec) (cs : List Active) (o : ℕ) → (Out o → ⊥) → IsTold t (there g) n cs o → IsTold t (there h) n cs o
  told_by n cs o i (inl e) = inl e
  told_by n cs o i (inr (inl k)) = told_there t h n cs o (stay o i (home_there t g n cs o k.0 k.1))
  told_by n cs o i (inr (inr l)) = inr (inr l)

  told : (n : Exec) (cs : List Active) (v : Value) → IsIn v → Told t (there g) n cs v → Told t (there h) n cs v
  told n cs (Number z) i k = tt
  told n cs (Place o p) i k = tt
  told n cs (Running x) i k = tt
  told n cs (Object o) i k = told_by n cs o (i o refl) k
  told n cs Nothing i k = tt

  stack : (n : Exec) (cs : List Active) → AllIn cs → LetsStack t (there g) n cs → LetsStack t (there h) n cs
  stack n [] i k = tt
  stack n (a ∷ older) i k = ((k.0.0, by k.0.1), stack n older i.1 k.1)
    where
      by : Told t (there g) n older a.this ⊎ (is_letting a.control ≡ true) → Told t (there h) n older a.this ⊎ (is_letting a.control ≡ true)
      by (inl c) = inl (told n older a.this i.0 c)
      by (inr m) = inr m

  from : (n : Exec) (a : Active) (older : List Active) → IsIn a.this ⊎ AllSilent a.control → AllIn older → LetsFrom t (there g) n a older → LetsFrom t (there h) n a older
  from n a older i all k = ((k.0.0, at i k.0.1), stack n older all k.1)
    where
      at : IsIn a.this ⊎ AllSilent a.control → Told t (there g) n older a.this ⊎ ((is_letting a.control ≡ true) ⊎ AllSilent a.control) → Told t (there h) n older a.this ⊎ ((is_letting a.control ≡ true) ⊎ AllSilent a.control)
      at (inl y) (inl c) = inl (told n older a.this y c)
      at (inl y) (inr m) = inr m
      at (inr s) c = inr (inr s)

  abbrev Inner : Stage → Execution (List Todo) Value → Type 0
  Inner Fresh y = AllIn (y.run ∷ y.callers)
  Inner Started y = AllIn (y.run ∷ y.callers)
  Inner Ended y = Unit {0}

  at_stage : (s : Stage) (n : Exec) (y : Execution (List Todo) Value) → LetsBy t (there g) s n y.run y.callers → Inner s y → LetsBy t (there h) s n y.run y.callers
  at_stage Fresh n y k i = from n y.run y.callers (inl i.0) i.1 k
  at_stage Started n y k i = from n y.run y.callers (inl i.0) i.1 k
  at_stage Ended n y k i = tt

  ex : (n : Exec) (y : Execution (List Todo) Value) → LetsEx t (there g) n y → Inner y.links.stage y → LetsEx t (there h) n y
  ex n y k i = at_stage y.links.stage n y k i

-- of tasks that go on, and of what is at home in objects
record ToldBy (t : Table) (g : ℕ → Bool) (On : ℕ → Type 0) (w : World) : Type 0 where
  tasks : (u : ℕ) → On u → LetsState t (there g) (w.tasks u)
  homes : (q : ℕ) → LetsMembers t (there g) (home.Object q) (w.homes q)

-- behind a journal of which object 0 has not gone
pub record PresentWorld (t : Table) (j : Journal) (w : World) : Type 0 where
  first : is_gone 0 j ≡ false
  told : ToldBy t (λ o. is_gone o j) (λ u. has_ended u j ≡ false) w

module _ (t : Table) (g h : ℕ → Bool) (On : ℕ → Type 0) (w : World) (x : ToldBy t g On w) where
  -- none has gone since
  turned : ((v : ℕ) → g v ≡ false → h v ≡ false) → ToldBy t h On w
  turned stay = record {
    tasks = λ u on. let l = x.tasks u on in record {
      stack = from t g h (λ v. ⊥) keeps (w.tasks u).env.exec (w.tasks u).run (w.tasks u).callers (inl (λ o e i. i)) (all (w.tasks u).callers) l.stack;
      env = env_less (LetsEx t (there g)) (LetsEx t (there h)) (λ n y k. one n y k) (w.tasks u).env l.env;
    };
    homes = λ q. members_less (LetsEx t (there g)) (LetsEx t (there h)) (λ n y k. one n y k) (home.Object q) (w.homes q) (x.homes q);
  }
    where
      keeps : (v : ℕ) → (⊥ → ⊥) → g v ≡ false → h v ≡ false
      keeps v i k = stay v k

      all : (cs : List Active) → AllIn t g h (λ v. ⊥) keeps cs
      all [] = tt
      all (a ∷ older) = ((λ o e i. i), all older)

      inner : (s : Stage) (y : Execution (List Todo) Value) → Inner t g h (λ v. ⊥) keeps s y
      inner Fresh y = all (y.run ∷ y.callers)
      inner Started y = all (y.run ∷ y.callers)
      inner Ended y = tt

      one : (n : Exec) (y : Execution (List Todo) Value) → LetsEx t (there g) n y → LetsEx t (there h) n y
      one n y k = ex t g h (λ v. ⊥) keeps n y k (inner y.links.stage y)

  -- one has, of which no activation is that does more than to come to its end
  forgotten : (o : ℕ) → ((v : ℕ) → (v ≡ o → ⊥) → g v ≡ false → h v ≡ false) → ((u : ℕ) → On u → NoThis o (w.tasks u).callers) → ((u : ℕ) → On u → ((w.tasks u).run.this ≡ Object o → ⊥) ⊎ AllSilent (w.tasks u).run.control) → ((u : ℕ) → EnvBy (NoneEx o) (w.tasks u).env) → ((q : ℕ) → MembersBy (NoneEx o) (home.Object q) (w.homes q)) → ToldBy t h On w
  forgotten o stay waiting running tasks homes = record {
    tasks = λ u on. let l = x.tasks u on in record {
      stack = from t g h Out stay (w.tasks u).env.exec (w.tasks u).run (w.tasks u).callers (runs (w.tasks u).run (running u on)) (all (w.tasks u).callers (waiting u on)) l.stack;
      env = both_env (LetsEx t (there g)) (NoneEx o) (LetsEx t (there h)) (λ n y k m. one n y k m) (w.tasks u).env l.env (tasks u);
    };
    homes = λ q. both_members (LetsEx t (there g)) (NoneEx o) (LetsEx t (there h)) (λ n y k m. one n y k m) (home.Object q) (w.homes q) (x.homes q) (homes q);
  }
    where
      Out : ℕ → Type 0
      Out v = v ≡ o

      is_in : (v : Value) → (v ≡ Object o → ⊥) → IsIn t g h Out stay v
      is_in v away = λ u e i. away (e ∙ ap Object i)

      all : (cs : List Active) → NoThis o cs → AllIn t g h Out stay cs
      all [] n = tt
      all (a ∷ older) n = (is_in a.this n.0, all older n.1)

      runs : (a : Active) → (a.this ≡ Object o → ⊥) ⊎ AllSilent a.control → IsIn t g h Out stay a.this ⊎ AllSilent a.control
      runs a (inl n) = inl (is_in a.this n)
      runs a (inr m) = inr m

      inner : (s : Stage) (y : Execution (List Todo) Value) → NoneBy o s y → Inner t g h Out stay s y
      inner Fresh y n = all (y.run ∷ y.callers) n
      inner Started y n = all (y.run ∷ y.callers) n
      inner Ended y n = tt

      one : (n : Exec) (y : Execution (List Todo) Value) → LetsEx t (there g) n y → NoneEx o n y → LetsEx t (there h) n y
      one n y k m = ex t g h Out stay n y k (inner y.links.stage y m)

-- act by act

module _ (t : Table) (source : Source) (input : List ℕ) (opts : Options) where
  pub present_begun : PresentWorld t (begin opts ∷ []) (first_world source)
  present_begun = record {
    first = gone_still 0 [] (begin opts) refl ∙ nothing_gone 0;
    told = record {
      tasks = λ u on. law_letting.begins t (there (λ o. is_gone o (begin opts ∷ []))) source source.main 0 (inl (refl, refl));
      homes = λ o. either (LetsMembers t (there (λ o. is_gone o (begin opts ∷ []))) (home.Object o)) (o == 0) (Some no_members) None tt tt;
    };
  }

  pub present_given : (j : Journal) (w : World) (p n : ℕ) → PresentWorld t j w → PresentWorld t (j ++ dispatch p n ∷ []) w
  present_given j w p n x =
      let still : (v : ℕ) → is_gone v j ≡ false → is_gone v (j ++ dispatch p n ∷ []) ≡ false = λ v h. gone_still v j (dispatch p n) refl ∙ h in
      let y = turned t (λ o. is_gone o j) (λ o. is_gone o (j ++ dispatch p n ∷ [])) (λ u. has_ended u j ≡ false) w x.told still in
      record {
        first = still 0 x.first;
        told = record { tasks = λ u on. y.tasks u (ended_before j (dispatch p n ∷ []) u on); homes = y.homes };
      }

  module _ (j : Journal) (w : World) (p n k : ℕ) (s : State) (asked : Asked) (d : AsksIn source opts j w p n k s asked) (on : is_over (j ++ act opts source.sites input j p n k asked) ≡ false) (x : PresentWorld t j w) (st : LetsState t (there (λ o. is_gone o j)) s) (f : LetsAsked t (there (λ o. is_gone o j)) asked.request s) where
    abbrev a : List Entry
    a = act opts source.sites input j p n k asked

    abbrev Before : Few
    Before = there (λ o. is_gone o j)

    abbrev behind : World
    behind = world_after source a w n s

    -- what is spawned is told of its object
    child : (u : ℕ) (q : Request) → asked.request ≡ q → LetsAsked t Before q s → Spawned j u q → IsTold t Before (main_of (own_object u a)) [] (own_object u a)
    child u (ask.Spawn o) e g i = subst (λ c. IsTold t Before (main_of c) [] c) (sym (spawned_object opts source.sites input j p n k asked on u o e i)) g
    child u q e g i = absurd i

    spawned : (u : ℕ) → spawns a u ≡ true → LetsState t Before (child_of source (own_object u a) s)
    spawned u e =
        law_letting.begins t Before source (child_main source s.run.control) (own_object u a) (child u asked.request refl f (spawner u opts source.sites input j p n (cost k asked.line) asked.line asked.request (ap (λ l. spawns l u) (sym (going_row opts source.sites input j p n k asked on).0) ∙ e)))

    acted : ToldBy t (λ o. is_gone o j) (λ u. has_ended u (j ++ a) ≡ false) behind
    acted = record {
      tasks = λ u going. either (LetsState t Before) (u == n) (bare s) (if spawns a u then child_of source (own_object u a) s else w.tasks u) (bare_rests t Before s st) (tested (LetsState t Before) (spawns a u) (child_of source (own_object u a) s) (w.tasks u) (spawned u) (λ e. x.told.tasks u (ended_before j a u going)));
      homes = λ o. either (LetsMembers t Before (home.Object o)) (takes_out a o) None (or_else (find o s.env.hand) (w.homes o)) tt (or_rests t Before o (find o s.env.hand) (w.homes o) (found_hand (LetsEx t Before) o s.env.hand st.env.hand) (x.told.homes o));
    }

    acted_by : (q : Request) → asked.request ≡ q → GoesBy IsNobodys j a behind n q → PresentWorld t (j ++ a) behind
    acted_by (ask.Gone o) e b =
        let stay : (v : ℕ) → (v ≡ o → ⊥) → is_gone v j ≡ false → is_gone v (j ++ a) ≡ false = λ v away h. gone_stays source input opts j p n k asked on v (λ i. let z : ask.Gone v ≡ ask.Gone o = sym i ∙ e in away (cc)) h in
        record {
          first = stay 0 (λ i. b.number (sym i)) x.first;
          told = forgotten t (λ v. is_gone v j) (λ v. is_gone v (j ++ a)) (λ u. has_ended u (j ++ a) ≡ false) behind acted o stay b.waiting b.running b.tasks b.homes;
        }
    acted_by q e b = plain q refl e
      where
        plain : (r : Request) → destroys r ≡ false → asked.request ≡ r → PresentWorld t (j ++ a) behind
        plain r none g =
            let stay : (v : ℕ) → is_gone v j ≡ false → is_gone v (j ++ a) ≡ false = λ v h. gone_stays source input opts j p n k asked on v (λ i. let z : true ≡ false = sym (ap destroys i) ∙ (ap destroys g ∙ none) in cc) h in
            record {
              first = stay 0 x.first;
              told = turned t (λ v. is_gone v j) (λ v. is_gone v (j ++ a)) (λ u. has_ended u (j ++ a) ≡ false) behind acted stay;
            }

    pub present_acted : GoesBy IsNobodys j a behind n asked.request → PresentWorld t (j ++ a) behind
    present_acted b = acted_by asked.request refl b

-- a ride begins so

module _ (p : Program) (formed : IsFormed p) (ok : breaks_of p ≡ []) (input : List ℕ) (opts : Options) (range : InRange opts) (j : Journal) (w : World) (r : Runs (source_of p) input opts j w) (f : RunFits (source_of p) input opts j w r) (on : is_over j ≡ false) (alone : RunAlone (source_of p) input opts j w r) (few : Few) (x : PresentWorld (table_of p) j w × (SeatsAlone few → Visits few j)) where
  abbrev source : Source
  source = source_of p

  entered : EnteredSource (source_of p)
  entered = law_entered p formed ok

  inner : InnerSource (part_of p) (source_of p)
  inner = (law_inner p formed ok).source

  pub began : (q u k : ℕ) (s : State) (asked : Asked) (d : AsksIn (source_of p) opts j w q u k s asked) → Began p few j u (answered (source_of p) d.given (drawn j w u))
  began q u k s asked d =
      let rests = run_rests (source_of p) input opts range r f on in
      let deeps = deep_run (source_of p) input opts range r f on in
      let y = both_run (part_of p) (source_of p) entered inner law_steps law_free law_drawn input opts range r f alone on in
      let e = own_start (source_of p) input opts range rests on u d.given d.told in
      let there_is : (o : ℕ) → has (deep_in (answered (source_of p) d.given (drawn j w u))) o ≡ true → has (held u j) o ≡ true = λ o h.
      ap (λ l. has l o) (sym (asks_with (source_of p) input opts range rests on q u k s asked d).hand) ∙ (sym (deep_in_hand (source_of p) input opts range rests on deeps q u k s asked d o) ∙ h) in
      let made : (o : ℕ) → has (deep_in (answered (source_of p) d.given (drawn j w u))) o ≡ true → (o < object_count j) × (is_gone o j ≡ false) = λ o h.
      (counted_run opts (source_of p).sites input rests.kernel).of_made o (law_made opts (source_of p).sites input j rests.kernel on u o (there_is o h)) in
      let in_hand : (o : ℕ) → has e.hand o ≡ true → has (deep_in (answered (source_of p) d.given (drawn j w u))) o ≡ true = λ o h.
      deep_in_hand (source_of p) input opts range rests on deeps q u k s asked d o ∙ (ap (λ l. has l o) (ride_keys (source_of p) e.hand d.rides e.settled) ∙ h) in
      record {
        own = own_object u j;
        news = told_for u j;
        mine = own_not_told u j;
        other = told_other u j;
        away = told_away u j;
        ks = deep_in (answered (source_of p) d.given (drawn j w u));
        hs = e.hand;
        made = λ o h. made o (in_hand o h);
        held = made;
        first = x.0.first;
        own_is = refl;
        here = λ o h. there_inside u o j (sym ((law_held j).inside u o) ∙ there_is o (in_hand o h));
        visits = x.1;
        stood = record {
          deep = start (part_of p) (source_of p) entered inner law_steps law_free law_drawn input opts range rests on deeps y.owing y.standing q u k s asked d;
          stands = standing_start (part_of p) (source_of p) inner entered.ends input opts range rests on deeps y.standing q u k s asked d;
          lets = law_letting.told (table_of p) (there (λ o. is_gone o j)) (source_of p) d.given (drawn j w u) (told_drawn (law_alive opts (source_of p).sites input j rests.kernel on q u d.runs));
          keys = refl;
          settled = e.settled;
        };
      }
    where
      told_drawn : has_ended u j ≡ false → LetsState (table_of p) (there (λ o. is_gone o j)) (drawn j w u)
      told_drawn going =
          let l = x.0.told.tasks u going in
          record { stack = l.stack; env = record { house = l.env.house; hand = hand_rests (table_of p) (there (λ o. is_gone o j)) (held u j) w.homes x.0.told.homes } }
