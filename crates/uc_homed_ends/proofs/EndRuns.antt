-- In every run of a program that breaks no rule mutex objects are ended by clean-ups alone, and whoever reads one that ends was at such a clean-up before;
-- who enters it has just read it.
use Rattle.std.proofs.Common.{◌≡◌, ℕ, ◌==◌, ◌<◌, ◌≤◌, ◌⊎◌, inl, inr, Bool, true, false, List, [], ◌∷◌, ◌++◌, Option, Some, None, refl, sym, ap, ◌∙◌, subst, arith}
use Rattle.std.specs.Prelude.{if◌then◌else◌}
use Rattle.std.proofs.lemmas.Bool.{eqb-true}
use Rattle.uc_tree.specs.Source.{Source, routine_of}
use Rattle.uc_entry.specs.declared.entry.Entry.{Entry}
use Rattle.uc_entry.specs.declared.entry.Options.{Options}
use Rattle.uc_entry.specs.declared.request.Answer.{Answer}
use Rattle.uc_entry.specs.declared.request.Answer.TheVariants as answer
use Rattle.uc_entry.specs.declared.request.Asked.{Asked}
use Rattle.uc_entry.specs.declared.request.Request.{Request}
use Rattle.uc_entry.specs.declared.request.Request.TheVariants as ask
use Rattle.uc_entry.specs.Keyed.{find}
use Rattle.uc_acts.specs.Journal.{Journal, begin, held, is_over, own_object, cost}
use Rattle.uc_acts.specs.Known.{spawns, has_ended, takes_out, task_count}
use Rattle.uc_acts.specs.Queues.{running}
use Rattle.uc_acts.specs.Answers.{answer_to}
use Rattle.uc_acts.specs.Sound.{Unborn, spot}
use Rattle.uc_acts.specs.Acts.{act, row, dispatch, lone_limit}
use Rattle.uc_acts.specs.KernelRuns.{InRange, MayAsk, KernelRuns}
use Rattle.uc_acts.proofs.Living.{going_row}
use Rattle.uc_acts.proofs.Bounds.{over_limit}
use Rattle.uc_machine.specs.declared.exec.Exec.{Exec}
use Rattle.uc_machine.specs.Pieces.{Todo, Value, LoadNow, Members, State, loaded, top}
use Rattle.uc_machine.specs.Quiet.{no_members, first_state}
use Rattle.uc_machine.specs.Answering.{answered, child_main, child_of}
use Rattle.uc_meaning.specs.Runs.{World, May, Runs, AsksIn, first_world, world_after, bare, with_home, hand_of, drawn, or_else, gives, no_room, acts, begun, more}
use Rattle.uc_state_laws.specs.Fitting.{MayFit, RunFits}
use Rattle.uc_state_laws.proofs.Alive.{law_alive}
use Rattle.uc_state_laws.proofs.Makes.{law_ends}
use Rattle.uc_state_laws.proofs.Others.{run_rests, may_ask}
use Rattle.uc_answer_laws.specs.Suiting.{JustGo, IsForm, asked_form, form_of_request}
use Rattle.uc_answer_laws.proofs.Told.{SpotSuits, form_push, no_both}
use Rattle.uc_answer_laws.proofs.Runs.{kept_run, form_none, law_suiting}
use Rattle.uc_answer_laws.proofs.Asking.{law_asking}
use Rattle.uc_state_laws.specs.RoomRuns.{Comes}
use Rattle.uc_site_laws.specs.Resting.{RestsHand, RestsEnv}
use Rattle.uc_site_laws.proofs.Kept.{either, found_hand}
use Rattle.uc_typing.specs.Typing.{Table}
use Rattle.uc_state_laws.specs.Opens.{MayMeet, RunMeets, LeadsMeet}
use Rattle.uc_life_laws.specs.Lasting.{RunMeetsAt}
use Rattle.uc_life_laws.proofs.Spawning.{Spawned, spawner, ended_before}
use Rattle.uc_life_laws.proofs.Owned.{tasks_grow}
use Rattle.uc_life_laws.proofs.NamedWorlds.{run_named, known}
use Rattle.uc_life_laws.specs.Ending.{calling}
use Rattle.uc_homed_ends.specs.EndCode.{EndSite, FreeSource}
use Rattle.uc_homed_ends.specs.EndLists.{FreeActive, FreeMembers, FreeState}
use Rattle.uc_homed_ends.specs.EndWays as ways
use Rattle.uc_homed_ends.specs.EndWays.{Found, Leaves, Way, Enters, RestState, RestBy, NowBy, NowState, nothing_told}
use Rattle.uc_homed_ends.proofs.EndSteps.{calm}
use Rattle.uc_homed_ends.proofs.EndWalk.{rest_free, now_rest, ridden, led, first_free, answered_free}

module _ (tb : Table) where
  home_free : (o : ℕ) (x : Option Members) (hand : List (ℕ × Members)) → FreeMembers tb x → RestsHand (FreeActive tb) (FreeActive tb) hand → RestsHand (FreeActive tb) (FreeActive tb) (with_home o x hand)
  home_free o None hand h k = k
  home_free o (Some m) hand h k = (h, k)

  hand_free : (os : List ℕ) (members : ℕ → Option Members) → ((o : ℕ) → FreeMembers tb (members o)) → RestsHand (FreeActive tb) (FreeActive tb) (hand_of os members)
  hand_free [] members h = tt
  hand_free (o ∷ os) members h = home_free o (members o) (hand_of os members) (h o) (hand_free os members h)

  or_free : (x y : Option Members) → FreeMembers tb x → FreeMembers tb y → FreeMembers tb (or_else x y)
  or_free None y h k = k
  or_free (Some m) y h k = h

  -- with another hand
  module _ (Q : Exec → List Todo → Value → Type 0) where
    state_handed : (s : State) (hand : List (ℕ × Members)) → RestsHand (FreeActive tb) (FreeActive tb) hand → FreeState tb s → FreeState tb (record s { env = record s.env { hand = hand } })
    state_handed s hand k h = record { run = h.run; callers = h.callers; env = record { house = h.env.house; hand = k } }

    rest_handed : (s : State) (hand : List (ℕ × Members)) → RestsHand (FreeActive tb) (FreeActive tb) hand → RestState tb Q s → RestState tb Q (record s { env = record s.env { hand = hand } })
    rest_handed s hand k h = record { run = by h.run; callers = h.callers; env = record { house = h.env.house; hand = k } }
      where
        by : FreeActive tb s.run ⊎ Enters tb Q s → FreeActive tb s.run ⊎ Enters tb Q (record s { env = record s.env { hand = hand } })
        by (inl c) = inl c
        by (inr e) = inr (record { routine = e.routine; todo = e.todo; control = e.control; free = e.free; params = e.params; told = e.told })

    by_handed : (r : Request) (s : State) (hand : List (ℕ × Members)) → RestsHand (FreeActive tb) (FreeActive tb) hand → RestBy tb Q r s → RestBy tb Q r (record s { env = record s.env { hand = hand } })
    by_handed ask.Slice s hand k h = rest_handed s hand k h
    by_handed (ask.Fault m) s hand k h = record { house = h.house; hand = k }
    by_handed r s hand k h = state_handed s hand k h

    -- behind a request
    by_env : (r : Request) (s : State) → RestBy tb Q r s → RestsEnv (FreeActive tb) (FreeActive tb) s.env
    by_env ask.Slice s h = h.env
    by_env (ask.Fault m) s h = h
    by_env r s h = h.env

    -- told what suits what was asked
    by_told : (source : Source) (r : Request) (given : Answer) (s : State) → IsForm (form_of_request r) given → ((m : ℕ) → r ≡ ask.Fault m → ⊥) → RestBy tb Q r s → RestState tb Q (answered source given s)
    by_told source ask.Slice answer.Go s f n h = h
    by_told source ask.Slice given s f n h = absurd f
    by_told source (ask.Fault m) given s f n h = absurd (n m refl)
    by_told source r given s f n h = rest_free tb (λ v. Unit {0}) Q (answered source given s) (answered_free tb source given s h)

  -- with what else is told of what is loaded
  rest_map : (Q R : Exec → List Todo → Value → Type 0) (s : State) → ((l : List Todo) (v : Value) → Q s.env.exec l v → R s.env.exec l v) → RestState tb Q s → RestState tb R s
  rest_map Q R s f h = record { run = by h.run; callers = h.callers; env = h.env }
    where
      by : FreeActive tb s.run ⊎ Enters tb Q s → FreeActive tb s.run ⊎ Enters tb R s
      by (inl c) = inl c
      by (inr e) = inr (record { routine = e.routine; todo = e.todo; control = e.control; free = e.free; params = e.params; told = f e.todo (top s.run.operands) e.told })

  by_map : (Q R : Exec → List Todo → Value → Type 0) (r : Request) (s : State) → (r ≡ ask.Slice → (l : List Todo) (v : Value) → Q s.env.exec l v → R s.env.exec l v) → RestBy tb Q r s → RestBy tb R r s
  by_map Q R ask.Slice s f h = rest_map Q R s (f refl) h
  by_map Q R (ask.Fault m) s f h = h
  by_map Q R r s f h = h

-- what is told of executions and of what they load may depend on the journal
module _ (tb : Table) (P : Journal → State → Type 0) (Q : Journal → Exec → List Todo → Value → Type 0) (loads : (j : Journal) (s : State) → P j s → (w : Way tb (P j) s) (x : EndSite) (b : Bool) → s.run.control ≡ LoadNow ∷ ways.entering w.routine b w.todo → Found ways.Reads x s → Leaves x w.routine b w.start.run.control → ways.Behind x w.todo w.start.run.control → ways.OneLess x w.start.run.elements s.run.elements → Q j s.env.exec (calling b w.routine ∷ w.todo) (loaded (top s.run.operands) s.env)) (source : Source) (code : FreeSource tb source) where
  -- a task at rest, by what it has asked
  pub record RestFree (j : Journal) (t : ℕ) (s : State) : Type 0 where
    request : Request
    asks_for : form_of_request request ≡ asked_form t j
    no_fault : (m : ℕ) → request ≡ ask.Fault m → ⊥
    spawned : request ≡ ask.Slice → t < task_count j
    rests : RestBy tb (Q j) request s

  pub record WorldFree (j : Journal) (w : World) : Type 0 where
    rests : (t : ℕ) → has_ended t j ≡ false → RestFree j t (w.tasks t)
    members : (o : ℕ) → FreeMembers tb (w.homes o)

  -- a task that just goes on
  begins_rest : (j : Journal) (t : ℕ) (s : State) → JustGo ≡ asked_form t j → FreeState tb s → RestFree j t s
  begins_rest j t s q h = record { request = ask.Yield; asks_for = q; no_fault = λ m e. absurd (cc); spawned = λ e. absurd (cc); rests = h }

  module _ (input : List ℕ) (opts : Options) (range : InRange opts) where
    abbrev pub entries : Journal → ℕ → ℕ → ℕ → Asked → List Entry
    entries j p t k asked = act opts source.sites input j p t k asked

    -- it is still told of them behind an act
    abbrev pub Grows : {j : Journal} {w : World} {a : List Entry} {x : World} → May source opts input j w a x → Type 0
    Grows {j} {w} (gives p t s le) = (u : ℕ) (l : List Todo) (v : Value) → Q j (w.tasks u).env.exec l v → Q (j ++ dispatch p t ∷ []) (w.tasks u).env.exec l v
    Grows (no_room p t s le) = Unit {0}
    Grows {j} {w} (acts p t k s asked d) =
        ((u : ℕ) → (u == t) ≡ false → u < task_count j → has_ended u (j ++ entries j p t k asked) ≡ false → spawns (entries j p t k asked) u ≡ false → (l : List Todo) (v : Value) →
        Q j (w.tasks u).env.exec l v → Q (j ++ entries j p t k asked) (w.tasks u).env.exec l v) ×
        (asked.request ≡ ask.Slice → (l : List Todo) (v : Value) → Q j s.env.exec l v → Q (j ++ entries j p t k asked) s.env.exec l v)

    abbrev pub RunGrows : {j : Journal} {w : World} → Runs source input opts j w → Type 0
    RunGrows begun = Unit {0}
    RunGrows (more {j} {a = a} r on m) = RunGrows r × (is_over (j ++ a) ≡ false → Grows m)

    module _ (j : Journal) (w : World) (kernel : KernelRuns opts source.sites input j) (on : is_over j ≡ false) (h : WorldFree j w) where
      start : (p t : ℕ) (given : Answer) → running p j ≡ t ∷ [] → answer_to source.sites t j ≡ Some given → RestState tb (Q j) (answered source given (drawn j w t))
      start p t given runs told =
          let x : RestFree j t (w.tasks t) = h.rests t (law_alive opts source.sites input j kernel on p t runs) in
          let f : IsForm (form_of_request x.request) given = subst (λ f. IsForm f given) (sym x.asks_for) (law_suiting opts source.sites input j kernel on t given told) in
          by_told tb (Q j) source x.request given (drawn j w t) f x.no_fault (by_handed tb (Q j) x.request (w.tasks t) (hand_of (held t j) w.homes) (hand_free tb (held t j) w.homes h.members) x.rests)

      module _ (p t k : ℕ) (s : State) (asked : Asked) (d : AsksIn source opts j w p t k s asked) (m : MayAsk opts source.sites j p t k asked.request) (still : is_over (j ++ entries j p t k asked) ≡ false) (there : t < task_count j) (grows : Grows (acts p t k s asked d)) (ended : RestBy tb (Q j) asked.request s) where
        abbrev a : List Entry
        a = entries j p t k asked

        goes : a ≡ row opts source.sites input j p t (cost k asked.line) asked.line asked.request
        goes = (going_row opts source.sites input j p t k asked still).0

        own_after : has_ended t (j ++ a) ≡ false → RestFree (j ++ a) t (bare s)
        own_after lives = record {
          request = asked.request;
          asks_for = sym (law_asking opts source.sites input j p t k asked kernel m still).own;
          no_fault = (law_ends opts source.sites input j p t k asked still lives).no_fault;
          spawned = λ e. let g = tasks_grow j a in let l = there in omega (arith, l, g);
          rests = by_handed tb (Q (j ++ a)) asked.request s [] tt (by_map tb (Q j) (Q (j ++ a)) asked.request s grows.1 ended);
        }

        same_form : (u : ℕ) → (u == t) ≡ false → asked_form u j ≡ asked_form u (j ++ a)
        same_form u e = sym ((law_asking opts source.sites input j p t k asked kernel m still).others u e)

        others_rest : (u : ℕ) → (u == t) ≡ false → has_ended u (j ++ a) ≡ false → spawns a u ≡ false → RestFree j u (w.tasks u) → RestFree (j ++ a) u (w.tasks u)
        others_rest u e lives f x = record {
          request = x.request;
          asks_for = x.asks_for ∙ same_form u e;
          no_fault = x.no_fault;
          spawned = λ q. let l = x.spawned q in let g = tasks_grow j a in omega (arith, l, g);
          rests = by_map tb (Q j) (Q (j ++ a)) x.request (w.tasks u) (λ q l v. grows.0 u e (x.spawned q) lives f l v) x.rests;
        }

        born_first : (u : ℕ) (r : Request) → Spawned j u r → u ≡ task_count j
        born_first u (ask.Spawn o) e = e
        born_first u r e = absurd e

        new_form : (u : ℕ) → u ≡ task_count j → asked_form u j ≡ JustGo
        new_form u q =
            let k = kept_run opts source.sites input kernel on in
            let new : spot u j ≡ Unborn = k.sound.few u (let le : task_count j ≤ u = omega (arith, q) in le) in
            subst (λ P. SpotSuits P (asked_form u j)) new (k.suits.spots u)

        rests_after : (u : ℕ) → has_ended u (j ++ a) ≡ false → RestFree (j ++ a) u ((world_after source a w t s).tasks u)
        rests_after u lives = by (u == t) refl
          where
            own : u ≡ t → RestFree (j ++ a) u (bare s)
            own q = subst (λ v. RestFree (j ++ a) v (bare s)) (sym q) (own_after (subst (λ v. has_ended v (j ++ a) ≡ false) q lives))

            born : (b : Bool) → (u == t) ≡ false → spawns a u ≡ b → RestFree (j ++ a) u (if b then child_of source (own_object u a) s else w.tasks u)
            born true e f =
                let c = born_first u asked.request (spawner u opts source.sites input j p t (cost k asked.line) asked.line asked.request (ap (λ l. spawns l u) (sym goes) ∙ f)) in
                begins_rest (j ++ a) u (child_of source (own_object u a) s) (sym (new_form u c) ∙ same_form u e) (first_free tb source code (child_main source s.run.control) (own_object u a))
            born false e f = others_rest u e lives f (h.rests u (ended_before u j a lives))

            by : (b : Bool) → (u == t) ≡ b → RestFree (j ++ a) u (if b then bare s else if spawns a u then child_of source (own_object u a) s else w.tasks u)
            by true e = own (eqb-true u t e)
            by false e = born (spawns a u) e refl

        -- after an act whose ride ended in this state
        acted : WorldFree (j ++ a) (world_after source a w t s)
        acted = record {
          rests = rests_after;
          members = λ o. either (FreeMembers tb) (takes_out a o) None (or_else (find o s.env.hand) (w.homes o)) tt (or_free tb (find o s.env.hand) (w.homes o) (found_hand (FreeActive tb) (FreeActive tb) (calm tb) o s.env.hand (by_env tb (Q j) asked.request s ended).hand) (h.members o));
        }

    -- in runs

    begun_free : WorldFree (begin opts ∷ []) (first_world source)
    begun_free = record {
      rests = λ u ended. begins_rest (begin opts ∷ []) u (first_state (routine_of source source.main) 0) (sym (form_push u [] (begin opts) ∙ form_none u)) (first_free tb source code source.main 0);
      members = λ o. either (FreeMembers tb) (o == 0) (Some no_members) None tt tt;
    }

    given_free : (j : Journal) (w : World) (p t : ℕ) → ((u : ℕ) (l : List Todo) (v : Value) → Q j (w.tasks u).env.exec l v → Q (j ++ dispatch p t ∷ []) (w.tasks u).env.exec l v) → WorldFree j w → WorldFree (j ++ dispatch p t ∷ []) w
    given_free j w p t grows h = record { rests = after; members = h.members }
      where
        after : (u : ℕ) → has_ended u (j ++ dispatch p t ∷ []) ≡ false → RestFree (j ++ dispatch p t ∷ []) u (w.tasks u)
        after u ended =
            let x = h.rests u (ended_before u j (dispatch p t ∷ []) ended) in
            record {
              request = x.request;
              asks_for = x.asks_for ∙ sym (form_push u j (dispatch p t));
              no_fault = x.no_fault;
              spawned = λ q. let l = x.spawned q in let g = tasks_grow j (dispatch p t ∷ []) in omega (arith, l, g);
              rests = by_map tb (Q j) (Q (j ++ dispatch p t ∷ [])) x.request (w.tasks u) (λ q l v. grows u l v) x.rests;
            }

    runs_there : {j : Journal} {w : World} (r : Runs source input opts j w) → RunFits source input opts j w r → is_over j ≡ false → (p t : ℕ) → running p j ≡ t ∷ [] → t < task_count j
    runs_there {j} r f on p t runs =
        let y = run_named source input opts range r f on in
        known source input opts range (run_rests source input opts range r f on) on y.serials y.world p t runs

    may_free : {j : Journal} {w : World} {a : List Entry} {x : World} (r : Runs source input opts j w) → RunFits source input opts j w r → is_over j ≡ false → WorldFree j w → (m : May source opts input j w a x) → MayFit source opts input j w a x m → MayMeet (P j) source opts input j w a x m → is_over (j ++ a) ≡ false → Grows m → WorldFree (j ++ a) x
    may_free {j} {w} r fits on h (gives p t s le) f n still grows = given_free j w p t grows h
    may_free {j} r fits on h (no_room p t s le) f n still grows = no_both (is_over (j ++ lone_limit ∷ [])) (over_limit j 0 0) still
    may_free {j} {w} r fits on h (acts p t k s asked d) f n still grows =
        let kernel = (run_rests source input opts range r fits on).kernel in
        let first = start j w kernel on h p t d.given d.runs d.told in
        acted j w kernel on h p t k s asked d (may_ask source input opts range d f) still (runs_there r fits on p t d.runs) grows (ridden tb (P j) (Q j) (loads j) source code d.rides n (now_rest tb (P j) (Q j) (answered source d.given (drawn j w t)) first) (λ q. first)).0

    may_now : {j : Journal} {w : World} {a : List Entry} {x : World} → KernelRuns opts source.sites input j → is_over j ≡ false → WorldFree j w → (m : May source opts input j w a x) → MayMeet (P j) source opts input j w a x m → MayMeet (NowBy tb (P j) (Q j)) source opts input j w a x m
    may_now kernel on h (gives p t s le) f = tt
    may_now kernel on h (no_room p t s le) f = tt
    may_now {j} {w} kernel on h (acts p t k s asked d) f =
        let first = start j w kernel on h p t d.given d.runs d.told in
        (ridden tb (P j) (Q j) (loads j) source code d.rides f (now_rest tb (P j) (Q j) (answered source d.given (drawn j w t)) first) (λ q. first)).1

    pub run_now : {j : Journal} {w : World} (r : Runs source input opts j w) → RunFits source input opts j w r → RunMeetsAt P source input opts j w r → RunGrows r → (is_over j ≡ false → WorldFree j w) × RunMeetsAt (λ i. NowBy tb (P i) (Q i)) source input opts j w r
    run_now begun f m g = ((λ on. begun_free), tt)
    run_now (more r on x) f m g =
        let k = run_now r f.0 m.0 g.0 in (
          (λ still. may_free r f.0 on (k.0 on) x f.1 m.1 still (g.1 still)),
          (k.1, may_now (run_rests source input opts range r f.0 on).kernel on (k.0 on) x m.1),
        )

    pub leads_now : {j : Journal} {w : World} (r : Runs source input opts j w) → RunFits source input opts j w r → RunMeetsAt P source input opts j w r → RunGrows r → is_over j ≡ false → (t : ℕ) (s : State) (c : Comes source j w t s) → LeadsMeet (P j) source (answered source c.given (drawn j w t)) s c.leads → NowBy tb (P j) (Q j) s × LeadsMeet (NowBy tb (P j) (Q j)) source (answered source c.given (drawn j w t)) s c.leads
    leads_now {j} {w} r f m g on t s c l =
        let first = start j w (run_rests source input opts range r f on).kernel on ((run_now r f m g).0 on) c.processor t c.given c.runs c.told in
        led tb (P j) (Q j) (loads j) source code c.leads l (now_rest tb (P j) (Q j) (answered source c.given (drawn j w t)) first)

-- where the same holds whatever the journal, and nothing is told

module _ (tb : Table) (P : State → Type 0) (source : Source) (code : FreeSource tb source) (input : List ℕ) (opts : Options) (range : InRange opts) where
  nothing_loads : (j : Journal) (s : State) → P s → (w : Way tb P s) (x : EndSite) (b : Bool) → s.run.control ≡ LoadNow ∷ ways.entering w.routine b w.todo → Found ways.Reads x s → Leaves x w.routine b w.start.run.control → ways.Behind x w.todo w.start.run.control → ways.OneLess x w.start.run.elements s.run.elements → nothing_told s.env.exec (calling b w.routine ∷ w.todo) (loaded (top s.run.operands) s.env)
  nothing_loads j s h w x b c f l i m = tt

  none_grows : {j : Journal} {w : World} {a : List Entry} {x : World} (m : May source opts input j w a x) → Grows tb (λ j. P) (λ j. nothing_told) nothing_loads source code input opts range m
  none_grows (gives p t s le) = λ u l v h. tt
  none_grows (no_room p t s le) = tt
  none_grows (acts p t k s asked d) = ((λ u e l h n k v q. tt), (λ e k v q. tt))

  grows : {j : Journal} {w : World} (r : Runs source input opts j w) → RunGrows tb (λ j. P) (λ j. nothing_told) nothing_loads source code input opts range r
  grows begun = tt
  grows (more r on m) = (grows r, λ still. none_grows m)

  at_each : {j : Journal} {w : World} (r : Runs source input opts j w) → RunMeets P source input opts j w r → RunMeetsAt (λ j. P) source input opts j w r
  at_each begun m = tt
  at_each (more r on (gives p t s le)) m = (at_each r m.0, tt)
  at_each (more r on (no_room p t s le)) m = (at_each r m.0, tt)
  at_each (more r on (acts p t k s asked d)) m = (at_each r m.0, m.1)

  of_each : {j : Journal} {w : World} (r : Runs source input opts j w) → RunMeetsAt (λ j. NowState tb P) source input opts j w r → RunMeets (NowState tb P) source input opts j w r
  of_each begun m = tt
  of_each (more r on (gives p t s le)) m = (of_each r m.0, tt)
  of_each (more r on (no_room p t s le)) m = (of_each r m.0, tt)
  of_each (more r on (acts p t k s asked d)) m = (of_each r m.0, m.1)

  pub run_ways : {j : Journal} {w : World} (r : Runs source input opts j w) → RunFits source input opts j w r → RunMeets P source input opts j w r → RunMeets (NowState tb P) source input opts j w r
  run_ways r f m = of_each r (run_now tb (λ j. P) (λ j. nothing_told) nothing_loads source code input opts range r f (at_each r m) (grows r)).1

  pub leads_ways : {j : Journal} {w : World} (r : Runs source input opts j w) → RunFits source input opts j w r → RunMeets P source input opts j w r → is_over j ≡ false → (t : ℕ) (s : State) (c : Comes source j w t s) → LeadsMeet P source (answered source c.given (drawn j w t)) s c.leads → LeadsMeet (NowState tb P) source (answered source c.given (drawn j w t)) s c.leads
  leads_ways r f m on t s c l = (leads_now tb (λ j. P) (λ j. nothing_told) nothing_loads source code input opts range r f (at_each r m) (grows r) on t s c l).1

  -- of whoever runs in such a state
  pub comes_way : {j : Journal} {w : World} (r : Runs source input opts j w) → RunFits source input opts j w r → RunMeets P source input opts j w r → is_over j ≡ false → (t : ℕ) (s : State) (c : Comes source j w t s) → LeadsMeet P source (answered source c.given (drawn j w t)) s c.leads → NowState tb P s
  comes_way r f m on t s c l = (leads_now tb (λ j. P) (λ j. nothing_told) nothing_loads source code input opts range r f (at_each r m) (grows r) on t s c l).0
