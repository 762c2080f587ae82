-- In each run in which all that was asked so far fits who made an object builds it, or is about to, until it is asked that the object is let go of.
use Rattle.std.proofs.Common.{◌≡◌, ℕ, ◌<◌, ◌≤◌, ◌==◌, ◌⊎◌, inl, inr, ◌∙◌, ◌++◌, ◌||◌, Bool, true, false, List, [], ◌∷◌, Option, Some, None, refl, sym, ap, subst, arith}
use Rattle.std.specs.Prelude.{if◌then◌else◌}
use Rattle.std.proofs.lemmas.Bool.{eqb-true, eq-eqb, cases_lt}
use Rattle.uc_tree.specs.Source.{Source}
use Rattle.uc_entry.specs.declared.entry.Entry.{Entry}
use Rattle.uc_entry.specs.declared.entry.Options.{Options}
use Rattle.uc_entry.specs.declared.request.Answer.{Answer}
use Rattle.uc_entry.specs.declared.request.Answer.TheVariants as answer
use Rattle.uc_entry.specs.declared.request.Asked.{Asked}
use Rattle.uc_entry.specs.declared.request.Request.{Request}
use Rattle.uc_entry.specs.declared.request.Request.TheVariants as ask
use Rattle.uc_entry.specs.Keyed.{find}
use Rattle.uc_acts.specs.Journal.{Journal, held, is_over, own_object, cost}
use Rattle.uc_acts.specs.Known.{object_count, task_count, spawns, takes_out}
use Rattle.uc_acts.specs.Acts.{act, dispatch, lone_limit}
use Rattle.uc_acts.specs.Answers.{answer_to}
use Rattle.uc_acts.specs.Queues.{running}
use Rattle.uc_acts.specs.KernelRuns.{Fits, InRange, MayAsk}
use Rattle.uc_acts.proofs.Bounds.{over_limit}
use Rattle.uc_acts.proofs.Living.{going_row}
use Rattle.uc_acts.proofs.SoundLemmas.{tasks_push, self_test}
use Rattle.uc_answer_laws.specs.Suiting.{Form, AnObject, AClause, ANumber, AValue, AnEvent, JustGo, IsForm, asked_form, form_of_request}
use Rattle.uc_answer_laws.proofs.Told.{form_push}
use Rattle.uc_answer_laws.proofs.Runs.{law_suiting}
use Rattle.uc_answer_laws.proofs.Asking.{law_asking}
use Rattle.uc_machine.specs.declared.exec.Exec.{Exec}
use Rattle.uc_machine.specs.declared.exec.Home.{Home}
use Rattle.uc_machine.specs.declared.exec.Home.TheVariants as home
use Rattle.uc_machine.specs.declared.exec.Stage.{Stage}
use Rattle.uc_machine.specs.declared.exec.Stage.TheVariants.{Fresh, Started, Ended}
use Rattle.uc_machine.specs.Executions.{Execution}
use Rattle.uc_machine.specs.Pieces as piece
use Rattle.uc_machine.specs.Pieces.{Value, Object, Todo, Active, State, Env, Members}
use Rattle.uc_machine.specs.Answering.{answered, child_of, entered, new_members, with_operand}
use Rattle.uc_meaning.specs.Runs.{World, Runs, AsksIn, gives, no_room, acts, begun, more, bare, with_home, hand_of, drawn, or_else, world_after}
use Rattle.uc_state_laws.specs.Fitting.{RunFits}
use Rattle.uc_state_laws.specs.Opens.{RunMeets}
use Rattle.uc_state_laws.proofs.Counts.{one_kept, told_others}
use Rattle.uc_state_laws.proofs.DeepWorlds.{DeepWorld, deep_run, spawned_by}
use Rattle.uc_state_laws.proofs.Others.{RunRests, run_rests, may_ask}
use Rattle.uc_name_laws.specs.Below.{IsBelow}
use Rattle.uc_name_laws.specs.NameSteps.{Spares}
use Rattle.uc_name_laws.proofs.Homes.{no_both}
use Rattle.uc_life_laws.specs.RunningRuns.{RunLeaves}
use Rattle.uc_life_laws.specs.NamedRuns.{is_here}
use Rattle.uc_life_laws.specs.LifeStates.{HandBy, EnvBy}
use Rattle.uc_life_laws.specs.OwnNames.{HasOwnName}
use Rattle.uc_life_laws.specs.Knowing.{main_of}
use Rattle.uc_life_laws.proofs.Cells.{either}
use Rattle.uc_life_laws.proofs.KindsLemmas.{members_less, env_less}
use Rattle.uc_life_laws.proofs.Owned.{tasks_grow}
use Rattle.uc_life_laws.proofs.Parked as parked
use Rattle.uc_life_laws.proofs.Parked.{found_hand}
use Rattle.uc_life_laws.proofs.NewNumbers.{spawned_object}
use Rattle.uc_life_laws.proofs.NextNumbers.{told_next}
use Rattle.uc_life_laws.proofs.Spawning.{Spawned, spawner}
use Rattle.uc_life_laws.proofs.NamedWorlds.{WorldNamed, run_named, ride, start, after_by, named_act, now_more, known}
use Rattle.uc_life_laws.proofs.OwnNamesLemmas.{law_own_names}
use Rattle.uc_rooted_runs.proofs.Births.{none_there, named_given}
use Rattle.uc_making_laws.specs.Builders.{BuildsBy, BuildsEx, BuildsMembers, BuildsState}
use Rattle.uc_making_laws.specs.BuilderRuns.{Finishes, Nears, AwaitsIt, Here, NearState, IsUnderWay, LawBuilderRuns}
use Rattle.uc_making_laws.proofs.BuilderWalk.{law_builders}
use Rattle.uc_making_laws.proofs.BuilderNear.{near_of, Behind, ridden, led}

abbrev Ex : Type 0
Ex = Execution (List Todo) Value

-- of each form something can be asked for that is neither an object that is made nor a slice
abbrev request_of : Form → Request
request_of AnObject = ask.Cluster
request_of AClause = ask.Accept 0 0 0
request_of ANumber = ask.Empty 0 0
request_of AValue = ask.Read 0
request_of AnEvent = ask.Poll 0
request_of JustGo = ask.Yield

request_form : (f : Form) → form_of_request (request_of f) ≡ f
request_form AnObject = refl
request_form AClause = refl
request_form ANumber = refl
request_form AValue = refl
request_form AnEvent = refl
request_form JustGo = refl

module _ (source : Source) (every : Bool) (thing : ℕ) (name : Exec) where
  abbrev Ours : Exec → Ex → Type 0
  Ours = BuildsEx every thing name

  -- executions of other names

  stage_other : (g : Stage) (n : Exec) (a : Active) (older : List Active) → (n ≡ name → ⊥) → BuildsBy every thing name g n a older
  stage_other Fresh n a older f = λ e. absurd (f e)
  stage_other Started n a older f = λ e. absurd (f e)
  stage_other Ended n a older f = tt

  other : (n : Exec) (x : Ex) → (n ≡ name → ⊥) → Ours n x
  other n x f = stage_other x.links.stage n x.run x.callers f

  -- at rest

  home_rests : (o : ℕ) (x : Option Members) (hand : List (ℕ × Members)) → BuildsMembers every thing name (home.Object o) x → HandBy Ours hand → HandBy Ours (with_home o x hand)
  home_rests o None hand h k = k
  home_rests o (Some m) hand h k = (h, k)

  hand_rests : (os : List ℕ) (homes : ℕ → Option Members) → ((o : ℕ) → BuildsMembers every thing name (home.Object o) (homes o)) → HandBy Ours (hand_of os homes)
  hand_rests [] homes h = tt
  hand_rests (o ∷ os) homes h = home_rests o (homes o) (hand_of os homes) (h o) (hand_rests os homes h)

  or_rests : (o : ℕ) (x y : Option Members) → BuildsMembers every thing name (home.Object o) x → BuildsMembers every thing name (home.Object o) y → BuildsMembers every thing name (home.Object o) (or_else x y)
  or_rests o None y h k = k
  or_rests o (Some m) y h k = h

  -- a task that has made the object, and asked for its number
  record AwaitState (j : Journal) (u : ℕ) (s : State) : Type 0 where
    stack : s.env.exec ≡ name → Here source every thing name s ⊎ (AwaitsIt source every thing name s.run.control s.run.operands × ((g : ℕ) → answer_to source.sites u j ≡ Some (answer.Object g) → g ≡ thing))
    env : EnvBy Ours s.env

  -- by what it has asked
  abbrev RestBy : Request → Journal → ℕ → State → Type 0
  RestBy (ask.Make c) j u s = AwaitState j u s
  RestBy ask.Slice j u s = NearState source every thing name s
  RestBy r j u s = BuildsState every thing name s

  record RestIt (j : Journal) (u : ℕ) (s : State) : Type 0 where
    request : Request
    asks_for : form_of_request request ≡ asked_form u j
    state : RestBy request j u s

  with_env : (s : State) (e : Env) → e.exec ≡ s.env.exec → EnvBy Ours e → BuildsState every thing name s → BuildsState every thing name (record s { env = e })
  with_env s e q k h = record { stack = λ n. h.stack (sym q ∙ n); env = k }

  rest_env : (r : Request) (j : Journal) (u : ℕ) (s : State) → RestBy r j u s → EnvBy Ours s.env
  rest_env (ask.Make c) j u s h = h.env
  rest_env ask.Slice j u s h = h.env
  rest_env r j u s h = h.env

  rest_with : (r : Request) (j : Journal) (u : ℕ) (s : State) (e : Env) → e.exec ≡ s.env.exec → EnvBy Ours e → RestBy r j u s → RestBy r j u (record s { env = e })
  rest_with (ask.Make c) j u s e q k h = record { stack = λ n. h.stack (sym q ∙ n); env = k }
  rest_with ask.Slice j u s e q k h = record { stack = λ n. h.stack (sym q ∙ n); env = k }
  rest_with r j u s e q k h = with_env s e q k h

  -- the answers that it may be given by then
  rest_told : (r : Request) (j k : Journal) (u : ℕ) (s : State) → ((g : ℕ) → answer_to source.sites u k ≡ Some (answer.Object g) → answer_to source.sites u j ≡ Some (answer.Object g)) → RestBy r j u s → RestBy r k u s
  rest_told (ask.Make c) j k u s f h = record { stack = λ n. by (h.stack n); env = h.env }
    where
      by : Here source every thing name s ⊎ (AwaitsIt source every thing name s.run.control s.run.operands × ((g : ℕ) → answer_to source.sites u j ≡ Some (answer.Object g) → g ≡ thing)) → Here source every thing name s ⊎ (AwaitsIt source every thing name s.run.control s.run.operands × ((g : ℕ) → answer_to source.sites u k ≡ Some (answer.Object g) → g ≡ thing))
      by (inl x) = inl x
      by (inr x) = inr (x.0, λ g e. x.1 g (f g e))
  rest_told ask.Slice j k u s f h = h
  rest_told r j k u s f h = h

  -- it goes on

  near_told : (l : List Todo) (vs : List Value) (g : ℕ) → g ≡ thing → AwaitsIt source every thing name l vs → Nears source every thing name l (Object g ∷ vs)
  near_told (piece.BindMadeNow c k ∷ todo) vs g e h = (h.0, h.1, ap Object e, h.2)
  near_told [] vs g e h = absurd h
  near_told (p ∷ todo) vs g e h = absurd h

  new_there : (h : ℕ) (todo : List Todo) → BuildsMembers every thing name (home.Object h) (new_members source todo)
  new_there h [] = tt
  new_there h (piece.BindMadeNow c r ∷ todo) = tt
  new_there h (p ∷ todo) = tt

  entered_told : (j : Journal) (u g : ℕ) (m : Option Members) (s : State) → BuildsMembers every thing name (home.Object g) m → AwaitState j u s → answer_to source.sites u j ≡ Some (answer.Object g) → NearState source every thing name (with_operand (Object g) (entered m g s))
  entered_told j u g None s k h e = record { stack = λ n. by (h.stack n); env = h.env }
    where
      by : Here source every thing name s ⊎ (AwaitsIt source every thing name s.run.control s.run.operands × ((g : ℕ) → answer_to source.sites u j ≡ Some (answer.Object g) → g ≡ thing)) → Here source every thing name s ⊎ Nears source every thing name s.run.control (Object g ∷ s.run.operands)
      by (inl x) = inl x
      by (inr x) = inr (near_told s.run.control s.run.operands g (x.1 g e) x.0)
  entered_told j u g (Some m) s k h e = record { stack = λ n. by (h.stack n); env = record { house = h.env.house; hand = parked.more_hand Ours s.env.hand g m k h.env.hand } }
    where
      by : Here source every thing name s ⊎ (AwaitsIt source every thing name s.run.control s.run.operands × ((g : ℕ) → answer_to source.sites u j ≡ Some (answer.Object g) → g ≡ thing)) → Here source every thing name s ⊎ Nears source every thing name s.run.control (Object g ∷ s.run.operands)
      by (inl x) = inl x
      by (inr x) = inr (near_told s.run.control s.run.operands g (x.1 g e) x.0)

  goes_on : (r : Request) (given : Answer) (j : Journal) (u : ℕ) (s : State) → IsForm (form_of_request r) given → answer_to source.sites u j ≡ Some given → RestBy r j u s → NearState source every thing name (answered source given s)
  goes_on (ask.Make c) (answer.Object g) j u s f e h = entered_told j u g (new_members source s.run.control) s (new_there g s.run.control) h e
  goes_on (ask.Make c) given j u s f e h = absurd f
  goes_on ask.Slice answer.Go j u s f e h = h
  goes_on ask.Slice given j u s f e h = absurd f
  goes_on r given j u s f e h = near_of source every thing name (answered source given s) (law_builders.told every thing name source given s h)

  -- behind a ride

  behind_env : (r : Request) (s : State) → Behind source every thing name r s → EnvBy Ours s.env
  behind_env ask.Slice s h = h.env
  behind_env r s h = h.env

  behind_rest : (r : Request) (j : Journal) (u : ℕ) (s : State) → Behind source every thing name r s → RestBy r j u s
  behind_rest (ask.Make c) j u s h = record { stack = λ n. inl (h.stack n); env = h.env }
  behind_rest ask.Slice j u s h = h
  behind_rest r j u s h = h

  plain_rest : (f : Form) (j : Journal) (u : ℕ) (s : State) → BuildsState every thing name s → RestBy (request_of f) j u s
  plain_rest AnObject j u s h = h
  plain_rest AClause j u s h = h
  plain_rest ANumber j u s h = h
  plain_rest AValue j u s h = h
  plain_rest AnEvent j u s h = h
  plain_rest JustGo j u s h = h

  -- one that runs another execution
  strange : (j : Journal) (u : ℕ) (s : State) → (s.env.exec ≡ name → ⊥) → EnvBy Ours s.env → RestIt j u s
  strange j u s f k = record {
    request = request_of (asked_form u j);
    asks_for = request_form (asked_form u j);
    state = plain_rest (asked_form u j) j u s (record { stack = λ n. absurd (f n); env = k });
  }

  record BuildsWorld (serials : Home → ℕ) (j : Journal) (w : World) : Type 0 where
    below : IsBelow serials name
    rests : (u : ℕ) → u < task_count j → RestIt j u (w.tasks u)
    homes : (q : ℕ) → BuildsMembers every thing name (home.Object q) (w.homes q)

  drawn_rest : (r : Request) (j : Journal) (w : World) (u : ℕ) → ((q : ℕ) → BuildsMembers every thing name (home.Object q) (w.homes q)) → RestBy r j u (w.tasks u) → RestBy r j u (drawn j w u)
  drawn_rest r j w u homes h =
      let e = rest_env r j u (w.tasks u) h in
      rest_with r j u (w.tasks u) _ refl (record { house = e.house; hand = hand_rests (held u j) w.homes homes }) h

  bare_rest : (r : Request) (j : Journal) (u : ℕ) (s : State) → RestBy r j u s → RestBy r j u (bare s)
  bare_rest r j u s h = let e = rest_env r j u s h in rest_with r j u s _ refl (record { house = e.house; hand = tt }) h

  module _ (input : List ℕ) (opts : Options) (range : InRange opts) where
    module _ {j : Journal} {w : World} (rests : RunRests source input opts j w) (on : is_over j ≡ false) (deep : DeepWorld j w) (serials : Home → ℕ) (x : WorldNamed serials j w) where
      -- who runs goes on so
      begins : BuildsWorld serials j w → (p t : ℕ) (given : Answer) → running p j ≡ t ∷ [] → answer_to source.sites t j ≡ Some given → NearState source every thing name (answered source given (drawn j w t))
      begins h p t given runs told =
          let y = h.rests t (known source input opts range rests on serials x p t runs) in
          let f : IsForm (form_of_request y.request) given = subst (λ f. IsForm f given) (sym y.asks_for) (law_suiting opts source.sites input j rests.kernel on t given told) in
          goes_on y.request given j t (drawn j w t) f told (drawn_rest y.request j w t h.homes y.state)

      module _ (p n k : ℕ) (s : State) (asked : Asked) (d : AsksIn source opts j w p n k s asked) (f : Fits opts source.sites j n asked.request) (still : is_over (j ++ act opts source.sites input j p n k asked) ≡ false) where
        abbrev a : List Entry
        a = act opts source.sites input j p n k asked

        abbrev after : World
        after = world_after source a w n s

        abbrev later : Home → ℕ
        later = after_by asked.request (ride source input opts range rests on deep serials x p n k s asked d f still).now

        m : MayAsk opts source.sites j p n k asked.request
        m = may_ask source input opts range d f

        below_after : IsBelow serials name → IsBelow later name
        below_after b = let l = now_more source input opts range rests on deep serials x p n k s asked d f still name.home in omega (arith, b, l)

        own_is : (after.tasks n) ≡ bare s
        own_is = ap (λ (b : Bool). if b then bare s else if spawns a n then child_of source (own_object n a) s else w.tasks n) (self_test n)

        -- who was there before
        module _ (h : BuildsWorld serials j w) (b : Behind source every thing name asked.request s) where
          own_after : RestIt (j ++ a) n (bare s)
          own_after = record {
            request = asked.request;
            asks_for = sym (law_asking opts source.sites input j p n k asked rests.kernel m still).own;
            state = bare_rest asked.request (j ++ a) n s (behind_rest asked.request (j ++ a) n s b);
          }

          others_rest : (u : ℕ) → (u == n) ≡ false → RestIt j u (w.tasks u) → RestIt (j ++ a) u (w.tasks u)
          others_rest u e y = record {
            request = y.request;
            asks_for = y.asks_for ∙ sym ((law_asking opts source.sites input j p n k asked rests.kernel m still).others u e);
            state = rest_told y.request j (j ++ a) u (w.tasks u) (λ g q. told_others opts source.sites input j p n k asked u g e q) y.state;
          }

          -- a task that is spawned runs another execution
          child : (u : ℕ) (r : Request) → asked.request ≡ r → Spawned j u r → main_of (own_object u a) ≡ name → ⊥
          child u (ask.Spawn o) e i q =
              let own : own_object u a ≡ o = spawned_object opts source.sites input j p n k asked still u o e i in
              let none = none_there source input opts range rests on deep serials x p n k s asked d f still o e in
              let more = (ride source input opts range rests on deep serials x p n k s asked d f still).grows.more (home.Task o) in
              let b : IsBelow serials (main_of o) = subst (IsBelow serials) (sym (ap main_of (sym own) ∙ q)) h.below in
              omega (arith, none, more, b)
          child u r e i q = absurd i

          spawned : (u : ℕ) → spawns a u ≡ true → RestIt (j ++ a) u (child_of source (own_object u a) s)
          spawned u e =
              strange (j ++ a) u (child_of source (own_object u a) s) (child u asked.request refl (spawner u opts source.sites input j p n (cost k asked.line) asked.line asked.request (ap (λ l. spawns l u) (sym (going_row opts source.sites input j p n k asked still).0) ∙ e))) (record { house = (tt, tt); hand = tt })

          rests_after : (u : ℕ) → u < task_count (j ++ a) → RestIt (j ++ a) u (after.tasks u)
          rests_after u lt = by (u == n) refl
            where
              older : (u == n) ≡ false → spawns a u ≡ false → (u < task_count j) ⊎ (task_count j ≤ u) → RestIt (j ++ a) u (w.tasks u)
              older e g (inl l) = others_rest u e (h.rests u l)
              older e g (inr l) =
                  let y = spawned_by source input opts range rests on deep p n k s asked d f still u l lt in
                  no_both (spawns a u) (ap (λ l. spawns l u) y.entries ∙ ap (λ c. c || false) y.test) g

              born : (b : Bool) → (u == n) ≡ false → spawns a u ≡ b → RestIt (j ++ a) u (if b then child_of source (own_object u a) s else w.tasks u)
              born true e g = spawned u g
              born false e g = older e g (cases_lt u (task_count j))

              by : (b : Bool) → (u == n) ≡ b → RestIt (j ++ a) u (if b then bare s else if spawns a u then child_of source (own_object u a) s else w.tasks u)
              by true e = subst (λ v. RestIt (j ++ a) v (bare s)) (sym (eqb-true u n e)) own_after
              by false e = born (spawns a u) e refl

          acted : BuildsWorld later (j ++ a) after
          acted = record {
            below = below_after h.below;
            rests = rests_after;
            homes = λ o. either (BuildsMembers every thing name (home.Object o)) (takes_out a o) None (or_else (find o s.env.hand) (w.homes o)) tt (or_rests o (find o s.env.hand) (w.homes o) (found_hand Ours o s.env.hand (behind_env asked.request s b).hand) (h.homes o));
          }

        -- who makes the object
        module _ (y : HasOwnName (j ++ a) after n) (named : WorldNamed later (j ++ a) after) (lt : n < task_count (j ++ a)) (c : ℕ) (e : asked.request ≡ ask.Make c) (number : object_count j ≡ thing) (mine : s.env.exec ≡ name) (awaits : AwaitsIt source every thing name s.run.control s.run.operands) where
          same : (after.tasks n).env.exec ≡ name
          same = ap (λ (v : State). v.env.exec) own_is ∙ mine

          env_after : (u : ℕ) → EnvBy Ours (after.tasks u).env
          env_after u = env_less (λ n' z. n' ≡ (after.tasks n).env.exec → ⊥) Ours (λ n' z f. other n' z (λ q. f (q ∙ sym same))) (after.tasks u).env (y.tasks u)

          makes_own : RestIt (j ++ a) n (bare s)
          makes_own = record {
            request = ask.Make c;
            asks_for = ap form_of_request (sym e) ∙ sym (law_asking opts source.sites input j p n k asked rests.kernel m still).own;
            state = record {
              stack = λ z. inr (awaits, λ g q. sym (told_next opts source.sites input j p n k asked still c g e q) ∙ number);
              env = subst (λ (v : State). EnvBy Ours v.env) own_is (env_after n);
            };
          }

          makes_rests : (u : ℕ) → u < task_count (j ++ a) → RestIt (j ++ a) u (after.tasks u)
          makes_rests u l = by (u == n) refl
            where
              by : (b : Bool) → (u == n) ≡ b → RestIt (j ++ a) u (after.tasks u)
              by true q = subst (λ v. RestIt (j ++ a) v (after.tasks v)) (sym (eqb-true u n q)) (subst (RestIt (j ++ a) n) (sym own_is) makes_own)
              by false q = strange (j ++ a) u (after.tasks u) (λ z. no_both (u == n) (eq-eqb u n (y.running u l (z ∙ sym same))) q) (env_after u)

          made : BuildsWorld later (j ++ a) after
          made = record {
            below = subst (IsBelow later) same (named.tasks n lt).env_named.exec_below;
            rests = makes_rests;
            homes = λ o. members_less (λ n' z. n' ≡ (after.tasks n).env.exec → ⊥) Ours (λ n' z f. other n' z (λ q. f (q ∙ sym same))) (home.Object o) (after.homes o) (y.homes o);
          }

    given : (serials : Home → ℕ) (j : Journal) (w : World) (p n : ℕ) → BuildsWorld serials j w → BuildsWorld serials (j ++ dispatch p n ∷ []) w
    given serials j w p n h = record {
      below = h.below;
      rests = λ u lt.
          let same = tasks_push j (dispatch p n) in
          let y = h.rests u (omega (arith, lt, same)) in
          record {
            request = y.request;
            asks_for = y.asks_for ∙ sym (form_push u j (dispatch p n));
            state = rest_told y.request j (j ++ dispatch p n ∷ []) u (w.tasks u) (λ g q. one_kept source.sites j (dispatch p n) u g refl q) y.state;
          };
      homes = h.homes;
    }

    record RunBuilds {j : Journal} {w : World} (r : Runs source input opts j w) : Type 0 where
      serials : Home → ℕ
      world : WorldNamed serials j w
      builds : BuildsWorld serials j w

    run_builds : {j : Journal} {w : World} (r : Runs source input opts j w) → RunFits source input opts j w r → is_over j ≡ false → RunLeaves source input opts j w r → RunMeets Spares source input opts j w r → RunMeets (Finishes every) source input opts j w r → IsUnderWay source every thing name input opts r → RunBuilds r
    run_builds begun f on l h fin u = absurd u
    run_builds (more {j} {w} r o (gives p t v le)) f on l h fin (inl u) =
        let z = run_builds r f.0 o l.0 h.0 fin.0 u.0 in
        record { serials = z.serials; world = named_given source input opts range z.serials j w p t z.world; builds = given z.serials j w p t z.builds }
    run_builds (more r o (gives p t v le)) f on l h fin (inr u) = absurd u
    run_builds (more {j} {w} r o (no_room p t v le)) f on l h fin u = no_both (is_over (j ++ lone_limit ∷ [])) (over_limit j 0 0) on
    run_builds (more {j} {w} r o (acts p t k s asked d)) f on l h fin (inl u) =
        let rests = run_rests source input opts range r f.0 o in
        let deep = deep_run source input opts range r f.0 o in
        let z = run_builds r f.0 o l.0 h.0 fin.0 u.0 in
        let b = ridden source every thing name (is_here (w.tasks t).env.own (held t j)) z.serials d.rides (start source input opts range rests o z.serials z.world p t d.runs d.given d.told) z.builds.below fin.1 (begins rests o deep z.serials z.world z.builds p t d.given d.runs d.told) u.1 in
        record {
          serials = after_by asked.request (ride source input opts range rests o deep z.serials z.world p t k s asked d f.1 on).now;
          world = named_act source input opts range rests o deep z.serials z.world p t k s asked d f.1 on;
          builds = acted rests o deep z.serials z.world p t k s asked d f.1 on z.builds b;
        }
    run_builds (more {j} {w} r o (acts p t k s asked d)) f on l h fin (inr u) =
        let y = run_named source input opts range r f.0 o in
        let rests = run_rests source input opts range r f.0 o in
        let deep = deep_run source input opts range r f.0 o in
        let names = law_own_names source input opts (j ++ act opts source.sites input j p t k asked) (world_after source (act opts source.sites input j p t k asked) w t s) (more r o (acts p t k s asked d)) range f on l h in
        let named = named_act source input opts range rests o deep y.serials y.world p t k s asked d f.1 on in
        let grown = tasks_grow j (act opts source.sites input j p t k asked) in
        let was = known source input opts range rests o y.serials y.world p t d.runs in
        let lt : t < task_count (j ++ act opts source.sites input j p t k asked) = omega (arith, was, grown) in
        record {
          serials = after_by asked.request (ride source input opts range rests o deep y.serials y.world p t k s asked d f.1 on).now;
          world = named;
          builds = made rests o deep y.serials y.world p t k s asked d f.1 on (names.rests t lt) named lt u.0 u.1 u.2.number u.2.name u.2.awaits;
        }

pub law_builder_runs : LawBuilderRuns
law_builder_runs source every o m input opts j w r range fits on leaves spares fin u t s c k =
    let rests = run_rests source input opts range r fits on in
    let deep = deep_run source input opts range r fits on in
    let z = run_builds source every o m input opts range r fits on leaves spares fin u in
    led source every o m (is_here (w.tasks t).env.own (held t j)) z.serials c.leads (start source input opts range rests on z.serials z.world c.processor t c.runs c.given c.told) z.builds.below k (begins source every o m input opts range rests on deep z.serials z.world z.builds c.processor t c.given c.runs c.told)
