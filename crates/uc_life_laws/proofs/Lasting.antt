-- Runs in which nobody has at hand what has gone.
use Rattle.std.proofs.Common.{◌≡◌, ℕ, inl, inr, Bool, true, false, List, [], ◌∷◌, ◌++◌, Option, Some, None, refl, sym, ap, ◌∙◌, subst, arith, append-nil, append_assoc, ◌||◌}
use Rattle.std.specs.Prelude.{if◌then◌else◌}
use Rattle.uc_tree.specs.Source.{Source}
use Rattle.uc_entry.specs.declared.entry.Entry.{Entry}
use Rattle.uc_entry.specs.declared.entry.EntryKind.{EntryKind}
use Rattle.uc_entry.specs.declared.entry.EntryKind.TheVariants as kind
use Rattle.uc_entry.specs.declared.entry.Options.{Options}
use Rattle.uc_entry.specs.declared.request.Answer.TheVariants as answer
use Rattle.uc_entry.specs.declared.request.Asked.{Asked}
use Rattle.uc_entry.specs.declared.request.Request.{Request}
use Rattle.uc_entry.specs.declared.request.Request.TheVariants as ask
use Rattle.uc_acts.specs.Journal.{Journal, begin, is_over, cost}
use Rattle.uc_acts.specs.Known.{is_gone, is_gone_by, takes_object, takes_out}
use Rattle.uc_acts.specs.Acts.{act, dispatch, lone_limit}
use Rattle.uc_acts.specs.KernelRuns.{InRange}
use Rattle.uc_acts.proofs.Living.{going_row, gone_still, nothing_gone}
use Rattle.uc_acts.proofs.Counted.{gone_push}
use Rattle.uc_acts.proofs.Acting.{object_of, destroys, AllBy, by_row}
use Rattle.uc_acts.proofs.Bounds.{over_limit}
use Rattle.uc_answer_laws.proofs.Told.{no_both}
use Rattle.uc_machine.specs.declared.exec.Exec.{Exec}
use Rattle.uc_machine.specs.declared.exec.Home.{Home}
use Rattle.uc_machine.specs.declared.exec.Home.TheVariants as home
use Rattle.uc_machine.specs.declared.exec.Stage.{Stage}
use Rattle.uc_machine.specs.declared.exec.Stage.TheVariants.{Fresh, Started, Ended}
use Rattle.uc_machine.specs.Executions.{Execution}
use Rattle.uc_machine.specs.Pieces.{Value, Todo}
use Rattle.uc_machine.specs.Quiet.{State, Env, Members}
use Rattle.uc_machine.specs.Answering.{answered, child_main}
use Rattle.uc_meaning.specs.Runs.{World, May, Runs, drawn, gives, no_room, acts, begun, more}
use Rattle.uc_state_laws.specs.Fitting.{RunFits}
use Rattle.uc_state_laws.proofs.Others.{run_rests}
use Rattle.uc_resolve.specs.Resolve.{source_of}
use Rattle.uc_state_laws.specs.Layout.{Sized}
use Rattle.uc_state_laws.specs.Rooms.{SourceIn}
use Rattle.uc_state_laws.specs.RoomRuns.{Comes}
use Rattle.uc_state_laws.proofs.StackWorlds as stacked
use Rattle.uc_state_laws.proofs.Unreferring.{law_accepted}
use Rattle.uc_state_laws.specs.Opens.{LeadsMeet}
use Rattle.uc_typing.specs.Typing.{Ty, Num, Obj, Raw, Clu, Pro, Table}
use Rattle.uc_typing.specs.States.{Sound, IsTask}
use Rattle.uc_sound.specs.Sounds.{of_program}
use Rattle.uc_sound.specs.Tables.{table_of}
use Rattle.uc_sound.proofs.MainLemmas.{law_mains}
use Rattle.uc_sound.proofs.SoundLemmas.{law_sound}
use Rattle.uc_life_laws.specs.Things.{Few}
use Rattle.uc_life_laws.specs.LifeStates.{SlotBy, ParkedBy, HandBy, MembersBy, EnvBy}
use Rattle.uc_life_laws.specs.LifeRuns.{IsLaidOut}
use Rattle.uc_life_laws.specs.Knowing.{KnowsState, AskedBy, StepBy, Names, HasObject}
use Rattle.uc_life_laws.specs.KnownAnswers.{Passes, MainPasses}
use Rattle.uc_life_laws.specs.KnownRuns.{PassesBelow, Meets}
use Rattle.uc_life_laws.proofs.Parked.{Ex, each_members}
pub use Rattle.uc_life_laws.proofs.Parked.{each_env}
use Rattle.uc_life_laws.proofs.Laying.{laid_out}
use Rattle.uc_life_laws.proofs.LifeWorlds.{stack_told, stack_led}
use Rattle.uc_life_laws.proofs.NewNumbers.{objects_grow, clusters_grow, processors_grow}
use Rattle.uc_life_laws.proofs.WorldsBy as by
use Rattle.uc_life_laws.proofs.WorldsBy.{KeepsBy, PassesNow}
use Rattle.uc_life_laws.proofs.KnownWorlds.{S, P, nothing_beside, rest_plain, keeps_known}
use Rattle.uc_life_laws.specs.Lives.{Lives}
use Rattle.uc_life_laws.proofs.KindsLemmas.{members_plain, plain}
use Rattle.uc_life_laws.specs.Fewer.{with_numbers, KeepsOthers, Lasts, HandLasts, ExLasts, RunLasts, TaskLasts}
use Rattle.uc_life_laws.specs.Lasting.{lasting_numbers, lasting, WorldLasts, ForgetsAt, MayForget, RunForgets, RunMeetsAt, LawLasting, LawRaised}
use Rattle.uc_life_laws.proofs.Fewer.{held_same, both_members, both_env, state_lives, slot_lives}

-- what is gone as entries stand

or_or : (a b c : Bool) → ((a || b) || c) ≡ (a || (b || c))
or_or true b c = refl
or_or false b c = refl

or_false : (b : Bool) → (b || false) ≡ b
or_false true = refl
or_false false = refl

gone_append : (o : ℕ) (j a : List Entry) → is_gone o (j ++ a) ≡ (is_gone o j || takes_out a o)
gone_append o j [] = ap (is_gone o) (append-nil j) ∙ sym (or_false (is_gone o j))
gone_append o j (e ∷ a) =
    ap (is_gone o) (sym (append_assoc j (e ∷ []) a)) ∙ gone_append o (j ++ e ∷ []) a ∙ ap (λ b. b || takes_out a o) (gone_push o j e) ∙ or_or (is_gone o j) (takes_object e.kind e o) (takes_out a o)

takes_none : (p t o : ℕ) (A : Type 0) (g : Bool) (v : ℕ) (a : List Entry) → g ≡ false → AllBy p t o A g a → takes_out a v ≡ false
takes_none p t o A g v [] h b = refl
takes_none p t o A g v (e ∷ a) h b = ap (λ x. x || takes_out a v) (by e.kind b.0.gone) ∙ takes_none p t o A g v a h b.1
  where
    by : (k : EntryKind) → (is_gone_by k ≡ true → g ≡ true) → takes_object k e v ≡ false
    by kind.Gone d = absurd (no_both g (d refl) h)
    by k d = refl

-- where nothing goes, all lasts

module _ (t : Table) (few : Few) (j : Journal) (a : List Entry) where
  abbrev left : Ty → ℕ → Bool
  left = lasting_numbers few.numbers (j ++ a)

  still_there : (c o : ℕ) → (b d : Bool) → d ≡ b → (if b then false else few.numbers (Obj c) o) ≡ true → (if d then false else few.numbers (Obj c) o) ≡ true
  still_there c o b d e h = subst (λ (d : Bool). (if d then false else few.numbers (Obj c) o) ≡ true) (sym e) h

  keeps : KeepsOthers t (lasting few j) left
  keeps = record { raws = λ c o h. h; clusters = λ o h. h; processors = λ o h. h }

  module _ (same : (o : ℕ) → is_gone o (j ++ a) ≡ is_gone o j) where
    lasts : (K : Value → Ty → Type 0) → Lasts t (lasting few j) left K
    lasts K c o m h f = still_there c o (is_gone o j) (is_gone o (j ++ a)) (same o) f

    hand_lasts : (g : Stage) (n : Exec) (x : Execution (List Todo) Value) → HandLasts t (lasting few j) left g n x
    hand_lasts Fresh n x = inr (λ k. lasts _)
    hand_lasts Started n x = λ k. lasts _
    hand_lasts Ended n x = tt

    ex_lasts : (n : Exec) (x : Execution (List Todo) Value) → ExLasts t (lasting few j) left n x
    ex_lasts n x = hand_lasts x.links.stage n x

    all_lasts : (x : World) → WorldLasts t few j a x
    all_lasts x = record {
      tasks = λ n. each_env (ExLasts t (lasting few j) left) (λ m y. ex_lasts m y) (x.tasks n).env;
      alive = λ n e given k. record { waiting = lasts _; operands = inl (lasts _) };
      homes = λ o. each_members (ExLasts t (lasting few j) left) (λ m y. ex_lasts m y) (home.Object o) (x.homes o);
    }

  -- what a task has asked, with the numbers that are left

  module _ (source : Source) where
    object_same : (c : Option ℕ) (o : ℕ) → HasObject t (lasting few j) c o → HasObject t (lasting few (j ++ a)) c o
    object_same None o h = tt
    object_same (Some c) o h = held_same t (lasting few j) left _ (Obj c) _ h

    -- whatever is told of states (S) and of executions that do not run (P), where it stays so with the numbers that are left (T, R)
    module _ (S T : List Ty → State → Type 0) (P R : Exec → Ex → Type 0) (state : (given : List Ty) (s : State) → TaskLasts t (lasting few j) left s → ((k : KnowsState t (lasting few j) given s) → RunLasts t (lasting few j) left given s k) → S given s → T given s) (slot : (n : Exec) (x : Ex) → P n x → ExLasts t (lasting few j) left n x → R n x) where
      asked_fewer : (q : Request) (s : State) → TaskLasts t (lasting few j) left s → ((given : List Ty) (k : KnowsState t (lasting few j) given s) → RunLasts t (lasting few j) left given s k) → AskedBy t (lasting few j) S (EnvBy P) source q s → AskedBy t (lasting few (j ++ a)) T (EnvBy R) source q s
      asked_fewer (ask.Make m) s e l x = (x.0, x.1, x.2, state (Raw x.0 ∷ []) s e (l (Raw x.0 ∷ [])) x.3)
      asked_fewer (ask.Spawn o) s e l x =
          (x.0, object_same (t.routine (child_main source s.run.control)).this o x.1, state [] s e (l []) x.2)
      asked_fewer (ask.Accept o site mask) s e l x = state (Num ∷ (Num ∷ [])) s e (l (Num ∷ (Num ∷ []))) x
      asked_fewer (ask.Empty o m) s e l x = state (Num ∷ []) s e (l (Num ∷ [])) x
      asked_fewer (ask.Front o m) s e l x = state (Num ∷ []) s e (l (Num ∷ [])) x
      asked_fewer (ask.Poll mask) s e l x = state (Num ∷ (Num ∷ (Num ∷ []))) s e (l (Num ∷ (Num ∷ (Num ∷ [])))) x
      asked_fewer (ask.Read form) s e l x = state (Num ∷ []) s e (l (Num ∷ [])) x
      asked_fewer ask.Fail s e l x = state (Num ∷ []) s e (l (Num ∷ [])) x
      asked_fewer ask.Cluster s e l x = state (Clu ∷ []) s e (l (Clu ∷ [])) x
      asked_fewer (ask.Processor c) s e l x = state (Pro ∷ []) s e (l (Pro ∷ [])) x
      asked_fewer ask.End s e l x = both_env P (ExLasts t (lasting few j) left) R slot s.env x e
      asked_fewer (ask.Fault m) s e l x = tt
      asked_fewer q s e l x = state [] s e (l []) x

    told_fewer : (q : Request) (o : ℕ) → Passes t (lasting few j) q (answer.Object o) → Passes t (lasting few (j ++ a)) q (answer.Object o)
    told_fewer (ask.Make m) o h = h
    told_fewer ask.Cluster o h = h
    told_fewer (ask.Processor c) o h = h
    told_fewer q o h = tt

    module _ (Z : ℕ → ℕ → Type 0) (laid : IsLaidOut Z t) (in_rooms : SourceIn Z source) (S T : List Ty → State → Type 0) (P R : Exec → Ex → Type 0) (M N : State → Type 0) (keeps_more : KeepsBy t (lasting few j) source (λ s. Unit {0}) S P M) (keeps_less : KeepsBy t (lasting few (j ++ a)) source (λ s. Unit {0}) T R N) (state : (given : List Ty) (s : State) → TaskLasts t (lasting few j) left s → ((k : KnowsState t (lasting few j) given s) → RunLasts t (lasting few j) left given s k) → S given s → T given s) (slot : (n : Exec) (x : Ex) → P n x → ExLasts t (lasting few j) left n x → R n x) where
      world_fewer : (x : World) → WorldLasts t few j a x → by.KnownWorld t (lasting few j) source Z laid in_rooms (λ s. Unit {0}) (λ w. Unit {0}) S P M (nothing_beside t source S M) keeps_more (j ++ a) x → by.KnownWorld t (lasting few (j ++ a)) source Z laid in_rooms (λ s. Unit {0}) (λ w. Unit {0}) T R N (nothing_beside t source T N) keeps_less (j ++ a) x
      world_fewer x l h = record {
        tasks = λ n ended.
            let k = h.tasks n ended in
            record {
              request = k.request;
              asked = asked_fewer S T P R state slot k.request (x.tasks n) (l.tasks n) (l.alive n ended) k.asked;
              asks_for = k.asks_for;
              no_end = k.no_end;
              no_fault = k.no_fault;
              told = λ o f. told_fewer k.request o (k.told o f);
            };
        homes = λ o. both_members P (ExLasts t (lasting few j) left) R (λ n y k i. slot n y k i) (home.Object o) (x.homes o) (h.homes o) (l.homes o);
        life = tt;
      }

-- numbers of what is not gone

alive_number : (numbers : Ty → ℕ → Bool) (j : Journal) (c o : ℕ) → is_gone o j ≡ false → numbers (Obj c) o ≡ true → lasting_numbers numbers j (Obj c) o ≡ true
alive_number numbers j c o g h = subst (λ (b : Bool). (if b then false else numbers (Obj c) o) ≡ true) (sym g) h

pub not_gone : (numbers : Ty → ℕ → Bool) (j : Journal) (c o : ℕ) → lasting_numbers numbers j (Obj c) o ≡ true → is_gone o j ≡ false
not_gone numbers j c o h = by (is_gone o j) refl h
  where
    by : (b : Bool) → is_gone o j ≡ b → (if b then false else numbers (Obj c) o) ≡ true → is_gone o j ≡ false
    by true g h = absurd (cc)
    by false g h = g

earlier : (few : Few) (opts : Options) (j : Journal) (a : List Entry) → PassesBelow few opts (j ++ a) → PassesBelow few opts j
earlier few opts j a b = record {
  objects = λ c n l. let m = objects_grow j a in b.objects c n (omega (arith, l, m));
  raws = λ c n l. let m = objects_grow j a in b.raws c n (omega (arith, l, m));
  clusters = λ n l. let m = clusters_grow j a in b.clusters n (omega (arith, l, m));
  processors = λ n l. let m = processors_grow opts j a in b.processors n (omega (arith, l, m));
}

now : (few : Few) (opts : Options) (j : Journal) (a : List Entry) → PassesBelow few opts (j ++ a) → PassesNow (lasting few j) opts j a
now few opts j a b = record {
  objects = λ c n l g. alive_number few.numbers j c n g ((earlier few opts j a b).objects c n l);
  raws = b.raws;
  clusters = b.clusters;
  processors = b.processors;
}

first_lasting : (t : Table) (few : Few) (opts : Options) (c : Option ℕ) → MainPasses t few c 0 → MainPasses t (lasting few (begin opts ∷ [])) c 0
first_lasting t few opts None h = tt
first_lasting t few opts (Some c) h =
    (h.0, alive_number few.numbers (begin opts ∷ []) c 0 (gone_still 0 [] (begin opts) refl ∙ nothing_gone 0) h.1, held_same t few (lasting_numbers few.numbers (begin opts ∷ [])) _ (Obj c) _ h.2)

module _ (t : Table) (few : Few) (source : Source) (input : List ℕ) (opts : Options) (range : InRange opts) where
  -- of an act that takes nothing out
  none_taken : (j : Journal) (p n k : ℕ) (asked : Asked) → is_over (j ++ act opts source.sites input j p n k asked) ≡ false → destroys asked.request ≡ false → (o : ℕ) → is_gone o (j ++ act opts source.sites input j p n k asked) ≡ is_gone o j
  none_taken j p n k asked still d o =
      let e = (going_row opts source.sites input j p n k asked still).0 in
      let none : takes_out (act opts source.sites input j p n k asked) o ≡ false = ap (λ l. takes_out l o) e ∙ takes_none p n (object_of n j asked.request) (Unit {0}) (destroys asked.request) o _ d (by_row opts source.sites input j p n (cost k asked.line) asked.line (Unit {0}) asked.request (λ h. tt)) in
      gone_append o j (act opts source.sites input j p n k asked) ∙ ap (λ b. is_gone o j || b) none ∙ or_false (is_gone o j)

  forgets : (q : Request) (j : Journal) (a : List Entry) (x : World) → (destroys q ≡ false → (o : ℕ) → is_gone o (j ++ a) ≡ is_gone o j) → ForgetsAt t few j a x q → WorldLasts t few j a x
  forgets (ask.Gone o) j a x same h = h
  forgets q j a x same h = rest q j a x same refl
    where
      rest : (q : Request) (j : Journal) (a : List Entry) (x : World) → (destroys q ≡ false → (o : ℕ) → is_gone o (j ++ a) ≡ is_gone o j) → destroys q ≡ false → WorldLasts t few j a x
      rest q j a x same d = all_lasts t few j a (same d) x

  may_forget : {j : Journal} {w : World} {a : List Entry} {x : World} → (m : May source opts input j w a x) → is_over (j ++ a) ≡ false → MayForget t few source opts input j w a x m → WorldLasts t few j a x
  may_forget {j} {w} {a} {x} (gives p n s le) still h = all_lasts t few j (dispatch p n ∷ []) (λ o. gone_still o j (dispatch p n) refl) x
  may_forget {j} {w} {a} {x} (no_room p n s le) still h = absurd (no_both (is_over (j ++ lone_limit ∷ [])) (over_limit j 0 0) still)
  may_forget {j} {w} (acts p n k s asked d) still h =
      forgets asked.request j (act opts source.sites input j p n k asked) _ (λ e o. none_taken j p n k asked still e o) h

-- whatever runs keep of states by numbers, if it stays so with fewer of them
module _ (t : Table) (few : Few) (source : Source) (Z : ℕ → ℕ → Type 0) (laid : IsLaidOut Z t) (in_rooms : SourceIn Z source) (S : Few → List Ty → State → Type 0) (P : Few → Exec → Ex → Type 0) (M : Few → State → Type 0) (keeps_by : (f : Few) → KeepsBy t f source (λ s. Unit {0}) (S f) (P f) (M f)) (state : (f : Few) (numbers : Ty → ℕ → Bool) → KeepsOthers t f numbers → (given : List Ty) (s : State) → TaskLasts t f numbers s → ((k : KnowsState t f given s) → RunLasts t f numbers given s k) → S f given s → S (with_numbers numbers f) given s) (slot : (f : Few) (numbers : Ty → ℕ → Bool) → KeepsOthers t f numbers → (n : Exec) (x : Ex) → P f n x → ExLasts t f numbers n x → P (with_numbers numbers f) n x) (input : List ℕ) (opts : Options) (range : InRange opts) where
  abbrev pub LastingWorld : Journal → World → Type 0
  LastingWorld j w = by.KnownWorld t (lasting few j) source Z laid in_rooms (λ s. Unit {0}) (λ w. Unit {0}) (S (lasting few j)) (P (lasting few j)) (M (lasting few j)) (nothing_beside t source (S (lasting few j)) (M (lasting few j))) (keeps_by (lasting few j)) j w

  pub run_lasting : {j : Journal} {w : World} (r : Runs source input opts j w) → RunFits source input opts j w r → RunMeetsAt (λ i s. M (lasting few i) s) source input opts j w r → RunForgets t few source input opts j w r → is_over j ≡ false → PassesBelow few opts j → MainPasses t few (t.routine source.main).this 0 → LastingWorld j w
  run_lasting begun f g l still below first =
      by.begin_known t (lasting few (begin opts ∷ [])) source Z laid in_rooms (λ s. Unit {0}) (λ w. Unit {0}) (S (lasting few (begin opts ∷ []))) (P (lasting few (begin opts ∷ []))) (M (lasting few (begin opts ∷ []))) (nothing_beside t source (S (lasting few (begin opts ∷ []))) (M (lasting few (begin opts ∷ [])))) (keeps_by (lasting few (begin opts ∷ []))) opts (first_lasting t few opts (t.routine source.main).this first)
  run_lasting (more {j} {w} {a} {w' = x} r on m) f g l still below first =
      world_fewer t few j a source Z laid in_rooms (S (lasting few j)) (S (lasting few (j ++ a))) (P (lasting few j)) (P (lasting few (j ++ a))) (M (lasting few j)) (M (lasting few (j ++ a))) (keeps_by (lasting few j)) (keeps_by (lasting few (j ++ a))) (λ given s e l y. state (lasting few j) (lasting_numbers few.numbers (j ++ a)) (keeps t few j a) given s e l y) (λ n y k l. slot (lasting few j) (lasting_numbers few.numbers (j ++ a)) (keeps t few j a) n y k l) x (may_forget t few source input opts range m still l.1) (by.may_known t (lasting few j) source Z laid in_rooms (λ s. Unit {0}) (λ w. Unit {0}) (S (lasting few j)) (P (lasting few j)) (M (lasting few j)) (nothing_beside t source (S (lasting few j)) (M (lasting few j))) (keeps_by (lasting few j)) input opts range (run_rests source input opts range r f.0 on).kernel on (stacked.world_rests Z source in_rooms input opts r) (run_lasting r f.0 g.0 l.0 on (earlier few opts j a below) first) m f.1 g.1 still (now few opts j a below))

pub law_lasting : LawLasting
law_lasting p formed accepted few input opts range j w r fits on below first meets forgets = record {
  tasks = λ n e. rest_plain t (lasting few j) source j n (w.tasks n) (h.tasks n e);
  homes = λ o. members_plain t (lasting few j) (Lives t (lasting few j)) (home.Object o) (w.homes o) (h.homes o);
  comes = λ n s c l. plain t (lasting few j) (Lives t (lasting few j)) [] s (there n s c l).known.0;
  lives = λ n s c l. (there n s c l).known;
  names = λ n s c l m q u e. (subst (StepBy t (lasting few j) (S t (lasting few j)) (EnvBy (P t (lasting few j))) source) e (by.knows_to t (lasting few j) source Z laid known (λ s. Unit {0}) (λ w. Unit {0}) (S t (lasting few j)) (P t (lasting few j)) (Meets t (lasting few j)) (nothing_beside t source (S t (lasting few j)) (Meets t (lasting few j))) (keeps_known t (lasting few j) source sound main) s (stack_led t (lasting few j) Z laid source known c.leads (stack_told t (lasting few j) Z laid source known c.given j w n (stacked.world_rests Z source known input opts r))) m (there n s c l))).0;
}
  where
    t : Table
    t = table_of p

    source : Source
    source = source_of p

    Z : ℕ → ℕ → Type 0
    Z = Sized p

    sound : Sound t source
    sound = law_sound p formed accepted

    main : IsTask t source.main
    main = law_mains p formed accepted source.main (of_program refl)

    laid : IsLaidOut Z t
    laid = laid_out p formed accepted

    known : SourceIn Z source
    known = law_accepted p accepted

    h : by.KnownWorld t (lasting few j) source Z laid known (λ s. Unit {0}) (λ w. Unit {0}) (S t (lasting few j)) (P t (lasting few j)) (Meets t (lasting few j)) (nothing_beside t source (S t (lasting few j)) (Meets t (lasting few j))) (keeps_known t (lasting few j) source sound main) j w
    h =
        run_lasting t few source Z laid known (λ f. S t f) (λ f. P t f) (λ f. Meets t f) (λ f. keeps_known t f source sound main) (λ f numbers keeps given s e l y. state_lives t f numbers keeps given s e l y) (λ f numbers keeps n y k l. slot_lives t f numbers keeps n y k l) input opts range r fits meets forgets on below first

    there : (n : ℕ) (s : State) (c : Comes source j w n s) → LeadsMeet (Meets t (lasting few j)) source (answered source c.given (drawn j w n)) s c.leads → by.There t (lasting few j) source Z laid known (λ s. Unit {0}) (λ w. Unit {0}) (S t (lasting few j)) (P t (lasting few j)) (Meets t (lasting few j)) (nothing_beside t source (S t (lasting few j)) (Meets t (lasting few j))) (keeps_known t (lasting few j) source sound main) s
    there n s c l =
        by.led t (lasting few j) source Z laid known (λ s. Unit {0}) (λ w. Unit {0}) (S t (lasting few j)) (P t (lasting few j)) (Meets t (lasting few j)) (nothing_beside t source (S t (lasting few j)) (Meets t (lasting few j))) (keeps_known t (lasting few j) source sound main) c.leads l (stack_told t (lasting few j) Z laid source known c.given j w n (stacked.world_rests Z source known input opts r)) (by.starts t (lasting few j) source Z laid known (λ s. Unit {0}) (λ w. Unit {0}) (S t (lasting few j)) (P t (lasting few j)) (Meets t (lasting few j)) (nothing_beside t source (S t (lasting few j)) (Meets t (lasting few j))) (keeps_known t (lasting few j) source sound main) input opts range (run_rests source input opts range r fits on).kernel on h c.processor n c.given c.runs c.told)

pub law_raised : LawRaised
law_raised p formed accepted few input opts range j w r fits on below first meets forgets n s c l m o e y z u q =
    let h : Names (table_of p) (lasting few j) (ask.Raise o e y z) = (law_lasting p formed accepted few input opts range j w r fits on below first meets forgets).names n s c l m (ask.Raise o e y z) u q in
    not_gone few.numbers j h.0 o h.1
