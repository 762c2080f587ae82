-- What is an execution's own was made by it, and if it is of a class of tasks, it is under way as long as it is of no task.
use Rattle.std.proofs.Common.{◌≡◌, ℕ, ◌<◌, ◌≤◌, ◌⊎◌, inl, inr, ◌++◌, ◌&&◌, ◌||◌, Bool, true, false, not, List, [], ◌∷◌, length, Option, Some, refl, sym, ap, ◌∙◌, subst, arith}
use Rattle.std.specs.Prelude.{if◌then◌else◌, nat_lt, nat_eq, slice_get}
use Rattle.std.proofs.lemmas.Bool.{eq-eqb, eqb-true, ltb-true, lt-ltb, cases_lt}
use Rattle.uc_tree.specs.Programs.{Program}
use Rattle.uc_tree.specs.Source as src
use Rattle.uc_tree.specs.Source.{Stmts, Source, Routine}
use Rattle.uc_entry.specs.declared.entry.Options.{Options}
use Rattle.uc_entry.specs.declared.entry.Entry.{Entry}
use Rattle.uc_entry.specs.declared.request.Asked.{Asked}
use Rattle.uc_entry.specs.declared.request.Request.{Request}
use Rattle.uc_entry.specs.declared.request.Request.TheVariants as ask
use Rattle.uc_acts.specs.Journal.{Journal, begin, is_over, own_object, cost}
use Rattle.uc_acts.specs.Acts.{act, dispatch, lone_limit, row}
use Rattle.uc_acts.specs.Answers.{just_made}
use Rattle.uc_acts.specs.Known.{has, is_gone, made, object_count, owner}
use Rattle.uc_acts.specs.KernelRuns.{InRange, MayAsk}
use Rattle.uc_acts.specs.Queues.{is_nobody}
use Rattle.uc_acts.proofs.Bounds.{over_limit}
use Rattle.uc_acts.proofs.Counted.{counted_run, gone_push}
use Rattle.uc_acts.proofs.Living.{going_row}
use Rattle.uc_acts.proofs.SoundLemmas.{objects_push}
use Rattle.uc_machine.specs.declared.exec.Exec.{Exec}
use Rattle.uc_machine.specs.Pieces as piece
use Rattle.uc_machine.specs.Pieces.{Todo, State, Asks}
use Rattle.uc_machine.specs.Quiet.{quiet}
use Rattle.uc_machine.specs.Rides as rides
use Rattle.uc_machine.specs.Rides.{Rides}
use Rattle.uc_meaning.specs.Runs.{World, Runs, gives, no_room, acts, begun, more}
use Rattle.uc_typing.specs.Typing as typing
use Rattle.uc_typing.specs.Typing.{Inward, Apart, Enters, Helps, Main, Table}
use Rattle.uc_name_laws.proofs.Homes.{no_both}
use Rattle.uc_resolve.specs.Resolve.{source_of}
use Rattle.uc_rules.specs.Breaks.{breaks_of}
use Rattle.uc_sound.specs.SoundFormed.{IsFormed}
use Rattle.uc_sound.specs.Tables.{table_of}
use Rattle.uc_sound.proofs.Routines.{law_entered}
use Rattle.uc_source_laws.specs.SourceLaws.{part_by, part_of}
use Rattle.uc_source_laws.proofs.InnerSources.{law_inner}
use Rattle.uc_inner_laws.specs.Inner as standing
use Rattle.uc_inner_laws.specs.Inner.{Maker}
use Rattle.uc_inner_laws.specs.Standing.{Calls, StandsState, StandsStep}
use Rattle.uc_inner_laws.proofs.Walk as inner
use Rattle.uc_inner_laws.proofs.Walk.{law_makes}
use Rattle.uc_depth_laws.proofs.Answers.{law_steps}
use Rattle.uc_depth_laws.proofs.Standing.{law_free, law_drawn}
use Rattle.uc_state_laws.specs.Counted.{params_at, params}
use Rattle.uc_state_laws.specs.Fitting.{RunFits}
use Rattle.uc_state_laws.specs.Opens.{RunMeets}
use Rattle.uc_state_laws.proofs.DeepWorlds.{deep_run}
use Rattle.uc_state_laws.proofs.Makes.{is_making, run_after, makes, none_new, one_new}
use Rattle.uc_state_laws.proofs.Others.{RunRests, may_ask, run_rests}
use Rattle.uc_letting_laws.specs.AloneRuns.{RunAlone}
use Rattle.uc_letting_laws.proofs.StandingWorlds.{standing_start}
use Rattle.uc_letting_laws.proofs.LettingWorlds.{both_run}
use Rattle.uc_life_laws.specs.Things.{Few}
use Rattle.uc_life_laws.specs.Belonging.{Belongs}
use Rattle.uc_life_laws.specs.Homes.{made_at, then_home, home_of}
use Rattle.uc_life_laws.proofs.Homes.{law_once}
use Rattle.uc_life_laws.proofs.NewNumbers.{objects_grow}
use Rattle.uc_life_laws.proofs.Own.{law_own}
use Rattle.uc_cell_laws.specs.CellTodos.{asked_class}
use Rattle.uc_cell_laws.specs.Classes.{then_class, class_of}
use Rattle.uc_tasked_laws.specs.Seated.{Begins}
use Rattle.uc_tasked_laws.specs.TaskedRuns.{is_pending}
use Rattle.uc_tasked_laws.proofs.Pending.{later}
use Rattle.uc_tasked_laws.proofs.Spawners.{begins}
use Rattle.uc_tasked_laws.proofs.Worlds.{over_by, spawns_now}
use Rattle.uc_putting_laws.specs.PuttingLaws.{setting_of, Fair}
use Rattle.uc_making_laws.specs.Builders.{opens_built, AsksLetting}
use Rattle.uc_making_laws.specs.BuilderRuns.{opens_by, AwaitsIt, Makes, IsUnderWay}
use Rattle.uc_lasting_programs.specs.UnderWay.{OfTasks}
use Rattle.uc_lasting_programs.specs.Asking.{MakesAt}
use Rattle.uc_lasting_programs.proofs.Asking.{law_asked_at}
use Rattle.uc_lasting_programs.proofs.HomesAway.{not_true, one_object, one_and_one, belongs}

-- who is pending, by a journal

and_left : (b c : Bool) → (b && c) ≡ true → b ≡ true
and_left true c h = refl
and_left false c h = absurd (cc)

and_right : (b c : Bool) → (b && c) ≡ true → c ≡ true
and_right true c h = h
and_right false c h = absurd (cc)

not_false : (b : Bool) → not b ≡ true → b ≡ false
not_false true h = absurd (cc)
not_false false h = refl

pending_made : (j : Journal) (o : ℕ) → is_pending j o ≡ true → o < object_count j
pending_made j o h = ltb-true o (object_count j) (and_left (nat_lt o (object_count j)) _ h)

pending_there : (j : Journal) (o : ℕ) → is_pending j o ≡ true → is_gone o j ≡ false
pending_there j o h =
    not_false (is_gone o j) (and_right (is_nobody (owner o j)) (not (is_gone o j)) (and_right (nat_lt o (object_count j)) _ h))

pub pending : (j : Journal) (o : ℕ) → owner o j ≡ [] → o < object_count j → is_gone o j ≡ false → is_pending j o ≡ true
pending j o none lt there =
    ap (λ b. b && (is_nobody (owner o j) && not (is_gone o j))) (lt-ltb o (object_count j) lt) ∙ (ap (λ l. is_nobody l && not (is_gone o j)) none ∙ ap not there)

-- what is pending was so before, as soon as it was made
was_pending : (o : ℕ) (j : Journal) (a : List Entry) → is_pending (j ++ a) o ≡ true → o < object_count j → is_pending j o ≡ true
was_pending o j a h lt = by (is_pending j o) refl
  where
    by : (b : Bool) → is_pending j o ≡ b → is_pending j o ≡ true
    by true e = e
    by false e = again (later j a o e)
      where
        again : (is_pending (j ++ a) o ≡ false) ⊎ ((object_count j ≤ o) × (o < object_count (j ++ a))) → is_pending j o ≡ true
        again (inl f) = no_both (is_pending (j ++ a) o) h f
        again (inr n) = let le = n.0 in absurd (omega (arith, lt, le))

-- so it was asked in an act neither that it is let go of, nor a fault
module _ (opts : Options) (source : Source) (input : List ℕ) (j : Journal) (p t k : ℕ) (asked : Asked) (o : ℕ) (n : Exec) (still : is_over (j ++ act opts source.sites input j p t k asked) ≡ false) (h : is_pending (j ++ act opts source.sites input j p t k asked) o ≡ true) where
  row_is : (x : Request) → asked.request ≡ x → act opts source.sites input j p t k asked ≡ row opts source.sites input j p t (cost k asked.line) asked.line x
  row_is x e = (going_row opts source.sites input j p t k asked still).0 ∙ ap (row opts source.sites input j p t (cost k asked.line) asked.line) e

  no_gone : (q : ℕ) → asked.request ≡ ask.Gone q → q ≡ o → ⊥
  no_gone q e same =
      let is = row_is (ask.Gone q) e in
      let there : is_gone o (j ++ act opts source.sites input j p t k asked) ≡ false = pending_there (j ++ act opts source.sites input j p t k asked) o h in
      let gone : is_gone o (j ++ act opts source.sites input j p t k asked) ≡ true = ap (λ l. is_gone o (j ++ l)) is ∙ (gone_push o j _ ∙ (ap (λ b. is_gone o j || b) (eq-eqb o q (sym same)) ∙ or_true (is_gone o j))) in
      no_both (is_gone o (j ++ act opts source.sites input j p t k asked)) gone there
    where
      or_true : (b : Bool) → (b || true) ≡ true
      or_true true = refl
      or_true false = refl

  no_fault : (f : ℕ) → asked.request ≡ ask.Fault f → ⊥
  no_fault f e =
      let over : is_over (j ++ act opts source.sites input j p t k asked) ≡ true = ap (λ l. is_over (j ++ l)) (row_is (ask.Fault f) e) ∙ over_by j _ refl in
      no_both (is_over (j ++ act opts source.sites input j p t k asked)) over still

  no_spawn : (q : ℕ) → asked.request ≡ ask.Spawn q → q ≡ o → ⊥
  no_spawn q e same =
      no_both (is_pending (j ++ act opts source.sites input j p t k asked) o) h (spawns_now opts source.sites input j p t k asked o (e ∙ ap ask.Spawn same) still)

  stays : (x : Request) → asked.request ≡ x → AsksLetting false o n x → ⊥
  stays (ask.Made q) e l = no_both false l.1 refl
  stays (ask.Spawn q) e l = no_spawn q e l
  stays (ask.Gone q) e l = no_gone q e l
  stays (ask.Fault f) e l = no_fault f e
  stays x e l = l

-- the class of an object is told once
then_once : (t : Table) (j : Journal) (x : Request) (s : State) (classes : ℕ → Option ℕ) (o : ℕ) → o < object_count j → then_class t j x s classes o ≡ classes o
then_once t j (ask.Make m) s classes o l =
    ap (λ (b : Bool). if b then asked_class t s.run.control else classes o) (not_true (nat_eq o (object_count j)) (λ e. let q = eqb-true o (object_count j) e in omega (arith, l, q)))
then_once t j x s classes o l = refl

-- what builds a task begins with its scope
opens : (ss : Stmts) → Begins ss → opens_built false ss ≡ true
opens (src.Scoped (src.Frees (Some m)) rest) h = refl
opens (src.Scoped c rest) h = absurd h.0
opens ss h = absurd h

is_maker : (w : Inward) → part_by w ≡ Maker → w ≡ typing.Makes
is_maker Apart h = absurd (cc)
is_maker Enters h = absurd (cc)
is_maker typing.Makes h = refl
is_maker Helps h = absurd (cc)
is_maker Main h = absurd (cc)

module _ (p : Program) (formed : IsFormed p) (ok : breaks_of p ≡ []) where
  -- who asks for a new object is to call what builds it, right behind the binding
  pub record CallsIt (u : State) : Type 0 where
    pub class : ℕ
    pub builder : ℕ
    pub todo : List Todo
    pub binds : u.run.control ≡ piece.BindMadeNow class builder ∷ todo
    pub part : part_of p builder ≡ Maker
    pub calls : Calls builder todo
    pub there : params (source_of p) builder < length u.run.operands
    pub routine : Routine
    pub known : slice_get (source_of p).routines builder ≡ Some routine

  state_calls : (own : ℕ) (v u : State) → StandsState (part_of p) (source_of p) own v → (c : ℕ) → quiet (source_of p) v ≡ Asks (ask.Make c) u → CallsIt u
  state_calls own v u h c e =
      let m : MakesAt (source_of p) v u = law_asked_at (source_of p) v (ask.Make c) u e in
      let l = law_makes (part_of p) (source_of p) own v h m.class m.builder m.todo m.makes in
      record {
        class = m.class;
        builder = m.builder;
        todo = m.todo;
        binds = m.binds;
        part = l.0;
        calls = l.1;
        there =
            let same : standing.params (part_of p) (source_of p) m.builder ≡ params (source_of p) m.builder = ap standing.params_at m.known ∙ sym (ap params_at m.known) in
            subst (λ vs. params (source_of p) m.builder < length vs) (sym m.operands) (subst (λ n. n < length v.run.operands) same l.2);
        routine = m.routine;
        known = m.known;
      }

  stand : (own : ℕ) (s : State) → StandsState (part_of p) (source_of p) own s → StandsStep (part_of p) (source_of p) own s (quiet (source_of p) s)
  stand own s h = inner.law_steps.steps (part_of p) (source_of p) (law_inner p formed ok).source own s h

  ride_calls : (own : ℕ) {s u : State} {q k : ℕ} {a : Asked} (d : Rides (source_of p) s q u k a) → StandsState (part_of p) (source_of p) own s → (c : ℕ) → a.request ≡ ask.Make c → CallsIt u
  ride_calls own rides.slices h c e = absurd (cc)
  ride_calls own (rides.goes_on {s} g d) h c e =
      ride_calls own d (subst (StandsStep (part_of p) (source_of p) own s) g (stand own s h)) c e
  ride_calls own (rides.ticks {s} g d) h c e =
      ride_calls own d (subst (StandsStep (part_of p) (source_of p) own s) g (stand own s h)) c e
  ride_calls own (rides.asks {s} {t} {q} {r} g) h c e = state_calls own s t h c (g ∙ ap (λ (x : Request). Asks x t) e)

  -- of a class of tasks it is built in the scope that lets the task begin
  awaits : (o : ℕ) (n : Exec) (u : State) → CallsIt u → (i : ℕ) → asked_class (table_of p) u.run.control ≡ Some i → (table_of p).tasks i ≡ true → AwaitsIt (source_of p) false o n u.run.control u.run.operands
  awaits o n u x i class tasks =
      let this : ((table_of p).routine x.builder).this ≡ Some i = ap (asked_class (table_of p)) (sym x.binds) ∙ class in
      let begun = begins p x.builder i x.routine x.known this (is_maker ((table_of p).routine x.builder).inward x.part) tasks in
      subst (λ l. AwaitsIt (source_of p) false o n l u.run.operands) (sym x.binds) (x.calls, ap (opens_by false) x.known ∙ opens x.routine.body begun, x.there)

module _ (p : Program) (formed : IsFormed p) (ok : breaks_of p ≡ []) (few : Few) (zero : (n : Exec) → Belongs few n (few.home 0) → ⊥) where
  module _ (class : ℕ → Option ℕ) (input : List ℕ) (opts : Options) (range : InRange opts) where
    -- what is one's own was made by oneself, and if it is of a class of tasks, it is under way as long as it is of no task
    pub under_way : {j : Journal} {w : World} (r : Runs (source_of p) input opts j w) → RunFits (source_of p) input opts j w r → RunAlone (source_of p) input opts j w r → is_over j ≡ false → RunMeets (Fair (setting_of p few)) (source_of p) input opts j w r → ((o : ℕ) → o < object_count j → few.home o ≡ home_of (source_of p) input opts j w r o) → ((o : ℕ) → o < object_count j → class o ≡ class_of (table_of p) (source_of p) input opts j w r o) → (o : ℕ) → is_pending j o ≡ true → (n : Exec) → Belongs few n (few.home o) → OfTasks (table_of p) class o → IsUnderWay (source_of p) false o n input opts r
    under_way begun f alone on fair same told o wait n own tasks =
        let lt : o < object_count (begin opts ∷ []) = pending_made (begin opts ∷ []) o wait in
        let one = one_object opts in
        let first : o ≡ 0 = omega (arith, lt, one) in
        absurd (zero n (subst (λ (i : ℕ). Belongs few n (few.home i)) first own))
    under_way (more {j} {w} r before (gives q t s le)) f alone on fair same told o wait n own tasks =
        let count = objects_push j (dispatch q t) in
        let now : o < object_count (j ++ dispatch q t ∷ []) = pending_made (j ++ dispatch q t ∷ []) o wait in
        inl (under_way r f.0 alone.0 before fair.0 (λ i l. same i (omega (arith, l, count))) (λ i l. told i (omega (arith, l, count))) o (was_pending o j (dispatch q t ∷ []) wait (omega (arith, now, count))) n own tasks, tt)
    under_way (more {j} {w} r before (no_room q t s le)) f alone on fair same told o wait n own tasks =
        no_both (is_over (j ++ lone_limit ∷ [])) (over_limit j 0 0) on
    under_way (more {j} {w} {a} {w' = v} r before (acts q t k s asked d)) f alone on fair same told o wait n own tasks = by (λ l. under_way r f.0 alone.0 before fair.0 as_before told_before o (was_pending o j (act opts (source_of p).sites input j q t k asked) wait l) n own tasks) (cases_lt o (object_count j))
      where
        lt : o < object_count (j ++ act opts (source_of p).sites input j q t k asked)
        lt = pending_made (j ++ act opts (source_of p).sites input j q t k asked) o wait

        as_before : (i : ℕ) → i < object_count j → few.home i ≡ home_of (source_of p) input opts j w r i
        as_before i l =
            let le = objects_grow j (act opts (source_of p).sites input j q t k asked) in
            same i (omega (arith, l, le)) ∙ law_once (source_of p) input opts j w a v (acts q t k s asked d) (λ x. home_of (source_of p) input opts j w r x) i l

        told_before : (i : ℕ) → i < object_count j → class i ≡ class_of (table_of p) (source_of p) input opts j w r i
        told_before i l =
            let le = objects_grow j (act opts (source_of p).sites input j q t k asked) in
            told i (omega (arith, l, le)) ∙ then_once (table_of p) j asked.request s (λ x. class_of (table_of p) (source_of p) input opts j w r x) i l

        rests : RunRests (source_of p) input opts j w
        rests = run_rests (source_of p) input opts range r f.0 before

        m : MayAsk opts (source_of p).sites j q t k asked.request
        m = may_ask (source_of p) input opts range d f.1

        just : object_count j ≤ o → just_made t (j ++ act opts (source_of p).sites input j q t k asked) ≡ o ∷ []
        just le =
            let there = pending_there (j ++ act opts (source_of p).sites input j q t k asked) o wait in
            let now : has (made (j ++ act opts (source_of p).sites input j q t k asked)) o ≡ true = (counted_run opts (source_of p).sites input (run_after opts (source_of p).sites input j q t k asked rests.kernel m on)).made_of o lt there in
            let old : has (made j) o ≡ false = not_true (has (made j) o) (λ h. let l = ((counted_run opts (source_of p).sites input rests.kernel).of_made o h).0 in omega (arith, l, le)) in
            (makes opts (source_of p).sites input j q t k asked rests.kernel m on).new o now old

        calls : (c : ℕ) → asked.request ≡ ask.Make c → CallsIt p formed ok s
        calls c e =
            let deeps = deep_run (source_of p) input opts range r f.0 before in
            let x = both_run (part_of p) (source_of p) (law_entered p formed ok) (law_inner p formed ok).source law_steps law_free law_drawn input opts range r f.0 alone.0 before in
            ride_calls p formed ok (own_object t j) d.rides (standing_start (part_of p) (source_of p) (law_inner p formed ok).source (law_entered p formed ok).ends input opts range rests before deeps x.standing q t k s asked d) c e

        at : (x : Request) (b : Bool) → is_making x ≡ b → asked.request ≡ x → object_count j ≤ o → (IsUnderWay (source_of p) false o n input opts r × (AsksLetting false o n asked.request → ⊥)) ⊎ ((c : ℕ) × (asked.request ≡ ask.Make c) × Makes (source_of p) false o n j s c)
        at x false i e le = absurd (none_new opts (source_of p).sites input j q t k asked rests.kernel m on (ap is_making e ∙ i) o (just le))
        at (ask.Make c) true i e le =
            let is : o ≡ object_count j = one_and_one o (object_count j) (sym (just le) ∙ one_new opts (source_of p).sites input j q t k asked rests.kernel m on c e) in
            let home : few.home o ≡ made_at (source_of p) s.run.control s.run.operands = same o lt ∙ (ap (λ (z : Request). then_home (source_of p) j z s (λ i. home_of (source_of p) input opts j w r i) o) e ∙ ap (λ (z : Bool). if z then made_at (source_of p) s.run.control s.run.operands else home_of (source_of p) input opts j w r o) (eq-eqb o (object_count j) is)) in
            let of : class o ≡ asked_class (table_of p) s.run.control = told o lt ∙ (ap (λ (z : Request). then_class (table_of p) j z s (λ i. class_of (table_of p) (source_of p) input opts j w r i) o) e ∙ ap (λ (z : Bool). if z then asked_class (table_of p) s.run.control else class_of (table_of p) (source_of p) input opts j w r o) (eq-eqb o (object_count j) is)) in
            let theirs : Belongs few s.env.exec (few.home o) = subst (Belongs few s.env.exec) (sym home) (belongs p formed ok few zero input opts range r f.0 alone.0 before fair.0 q t k s asked d fair.1 c e) in
            let who : n ≡ s.env.exec = law_own few n s.env.exec (few.home o) own theirs in
            inr (c, e, record { number = sym is; name = sym who; awaits = awaits p formed ok o n s (calls c e) tasks.0 (sym of ∙ tasks.1) tasks.2 })
        at x true i e le = no_both (is_making x) i refl

        by : (o < object_count j → IsUnderWay (source_of p) false o n input opts r) → (o < object_count j) ⊎ (object_count j ≤ o) → (IsUnderWay (source_of p) false o n input opts r × (AsksLetting false o n asked.request → ⊥)) ⊎ ((c : ℕ) × (asked.request ≡ ask.Make c) × Makes (source_of p) false o n j s c)
        by older (inl l) = inl (older l, stays opts (source_of p) input j q t k asked o n on wait asked.request refl)
        by older (inr le) = at asked.request (is_making asked.request) refl refl le
