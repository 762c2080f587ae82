-- In every run of a program nobody who is pending is at home where a task is in scope.
use Rattle.std.proofs.Common.{◌≡◌, ℕ, ◌<◌, ◌≤◌, ◌==◌, ◌||◌, Bool, true, false, List, [], ◌∷◌, ◌++◌, Option, Some, None, refl, sym, ap, ◌∙◌, subst, arith, append-nil, append_assoc, ⊎_elim}
use Rattle.std.specs.Prelude.{if◌then◌else◌, slice_get, nat_lt, pos}
use Rattle.std.proofs.lemmas.Bool.{eqb-true, ne_eqb, cases_lt}
use Rattle.std.proofs.lemmas.List.Folds.{list_any-append}
use Rattle.std.specs.List.{list_any}
use Rattle.uc_tree.specs.Programs.{Site, Program}
use Rattle.uc_tree.specs.declared.limits.TheConstants.{TASKS}
use Rattle.uc_entry.specs.declared.fault.RunFault.TheVariants as run_fault
use Rattle.uc_entry.specs.Faults.{fault_number}
use Rattle.uc_tree.specs.Source.{Source, routine_of}
use Rattle.uc_entry.specs.declared.entry.Entry.{Entry}
use Rattle.uc_entry.specs.declared.entry.EntryKind.{EntryKind}
use Rattle.uc_entry.specs.declared.entry.EntryKind.TheVariants as kind
use Rattle.uc_entry.specs.declared.entry.Options.{Options}
use Rattle.uc_entry.specs.declared.request.Answer.{Answer}
use Rattle.uc_entry.specs.declared.request.Asked.{Asked}
use Rattle.uc_entry.specs.declared.request.Request.{Request}
use Rattle.uc_entry.specs.declared.request.Request.TheVariants as ask
use Rattle.uc_entry.specs.Keyed.{find}
use Rattle.uc_acts.specs.Journal.{Journal, begin, held, own_object, is_over, is_ending, number, Cost, cost, asking}
use Rattle.uc_acts.specs.Known.{object_count, has_ended, task_count, ends, spawns, spawns_task, takes_out}
use Rattle.uc_acts.specs.Sound.{Sound, Spot}
use Rattle.uc_acts.specs.Legal.{IsNext}
use Rattle.uc_acts.specs.Acts.{act, row, or_fault, fault, dispatch, lone_limit}
use Rattle.uc_acts.specs.Answers.{answer_to}
use Rattle.uc_acts.specs.Serves.{left}
use Rattle.uc_acts.specs.Queues.{running}
use Rattle.uc_acts.specs.KernelRuns.{InRange, MayAsk}
use Rattle.uc_acts.proofs.Bounds.{over_limit}
use Rattle.uc_acts.proofs.Law.{good_whole, lawful_act}
use Rattle.uc_acts.proofs.Living.{going_row}
use Rattle.uc_acts.proofs.Moves.{more_tasks}
use Rattle.uc_acts.proofs.Rows.{Lawful}
use Rattle.uc_acts.proofs.SoundLemmas.{ended_push}
use Rattle.uc_machine.specs.declared.exec.Home.TheVariants as home
use Rattle.uc_machine.specs.Quiet.{Value, State, Members, no_members, first_state, quiet}
use Rattle.uc_machine.specs.Answering.{answered, child_main, child_of}
use Rattle.uc_machine.specs.Rides as rides
use Rattle.uc_machine.specs.Rides.{Rides}
use Rattle.uc_meaning.specs.Runs.{World, AsksIn, May, Runs as RunsIn, gives, no_room, acts, begun, more, bare, with_home, hand_of, drawn, or_else, world_after}
use Rattle.uc_resolve.specs.Resolve.{source_of}
use Rattle.uc_state_laws.specs.Fitting.{MayFit, RunFits}
use Rattle.uc_state_laws.proofs.Alive.{law_alive}
use Rattle.uc_state_laws.proofs.Makes.{law_ends}
use Rattle.uc_state_laws.proofs.Others.{RunRests, may_ask, run_rests}
use Rattle.uc_answer_laws.specs.Suiting.{JustGo, asked_form, form_of_request}
use Rattle.uc_answer_laws.proofs.Told.{form_push, SpotSuits}
use Rattle.uc_answer_laws.proofs.Runs.{kept_run, law_suiting}
use Rattle.uc_answer_laws.proofs.Asking.{law_asking}
use Rattle.uc_state_laws.specs.RoomRuns as rooms
use Rattle.uc_state_laws.specs.RoomRuns.{Leads, Comes}
use Rattle.uc_state_laws.specs.Opens.{RideMeets, MayMeet, LeadsMeet}
use Rattle.uc_place_laws.specs.OlderResting.{AllWait, NamedParked, NamedHand}
use Rattle.uc_state_laws.specs.Marked.{operands}
use Rattle.uc_place_laws.proofs.AsideKeeping as kept
use Rattle.uc_place_laws.proofs.AsideKeeping.{either}
use Rattle.uc_tasked_laws.specs.Seated.{SpawnsSource}
use Rattle.uc_tasked_laws.specs.Seats.{CodeRoutine}
use Rattle.uc_tasked_laws.specs.SeatedStates.{Told, Finds, Runs, Waits, FindsBehind, Fair, SeatedMembers, SeatedState, SeatedRest, SeatedAsk, SeatedStep}
use Rattle.uc_tasked_laws.specs.TaskedRuns.{is_pending, told_by, ApartTask, ApartWorld, RunFair, RunMakesApart}
use Rattle.uc_tasked_laws.proofs.Pending.{later, not_pending, spawned_by}
use Rattle.uc_tasked_laws.proofs.Telling as telling
use Rattle.uc_tasked_laws.proofs.Steps.{calm}
use Rattle.uc_tasked_laws.proofs.Walk.{walk, led as led_to, goes_on as rests, first_seated, answered_seated}

no_both : {A : Type 0} (b : Bool) → b ≡ true → b ≡ false → A
no_both b t f = absurd (cc)

-- who has not ended had not ended before
ended_before : (j : Journal) (a : List Entry) (t : ℕ) → has_ended t (j ++ a) ≡ false → has_ended t j ≡ false
ended_before j [] t h = ap (has_ended t) (sym (append-nil j)) ∙ h
ended_before j (e ∷ a) t h =
    first (has_ended t j) (ends t e.kind e) (sym (ended_push t j e) ∙ ended_before (j ++ e ∷ []) a t (ap (has_ended t) (append_assoc j (e ∷ []) a) ∙ h))
  where
    first : (b c : Bool) → (b || c) ≡ false → b ≡ false
    first true c g = cc
    first false c g = refl

-- whom an act spawns was not born before

born_late : (k : EntryKind) (e : Entry) (j : Journal) (u : ℕ) → IsNext k e j → u < task_count j → spawns_task u k e ≡ false
born_late kind.Spawn e j u n lt = ne_eqb u (number e.a) (λ same. absurd (omega (arith, n, lt, same)))
born_late k e j u n lt = refl

spawns_none : (j : Journal) (a : List Entry) (u : ℕ) → Lawful j a → u < task_count j → spawns a u ≡ false
spawns_none j [] u l lt = refl
spawns_none j (e ∷ a) u l lt =
    ap (λ b. b || spawns a u) (born_late e.kind e j u l.0.next lt) ∙ spawns_none (j ++ e ∷ []) a u l.1 (more_tasks j e u lt)

-- a task at rest
pub record TaskSeated (g : Program) (source : Source) (told : Told) (j : Journal) (t : ℕ) (s : State) : Type 0 where
  pub run : has_ended t j ≡ false → Finds g source told (operands (asked_form t j)) s.env.exec s.callers s.run
  pub callers : AllWait (Runs g source told) (Waits g source told) s.env.exec s.callers
  pub house : NamedParked (Runs g source told) (Waits g source told) (home.Task s.env.own) s.env.house.parked

pub record SeatedWorld (g : Program) (source : Source) (told : Told) (j : Journal) (w : World) : Type 0 where
  pub tasks : (t : ℕ) → TaskSeated g source told j t (w.tasks t)
  pub homes : (o : ℕ) → SeatedMembers g source told (home.Object o) (w.homes o)

module _ (g : Program) (source : Source) (told : Told) where
  home_seated : (o : ℕ) (x : Option Members) (hand : List (ℕ × Members)) → SeatedMembers g source told (home.Object o) x → NamedHand (Runs g source told) (Waits g source told) hand → NamedHand (Runs g source told) (Waits g source told) (with_home o x hand)
  home_seated o None hand h k = k
  home_seated o (Some m) hand h k = (h, k)

  hand_seated : (os : List ℕ) (homes : ℕ → Option Members) → ((o : ℕ) → SeatedMembers g source told (home.Object o) (homes o)) → NamedHand (Runs g source told) (Waits g source told) (hand_of os homes)
  hand_seated [] homes h = tt
  hand_seated (o ∷ os) homes h = home_seated o (homes o) (hand_of os homes) (h o) (hand_seated os homes h)

  or_seated : (o : ℕ) (x y : Option Members) → SeatedMembers g source told (home.Object o) x → SeatedMembers g source told (home.Object o) y → SeatedMembers g source told (home.Object o) (or_else x y)
  or_seated o None y h k = k
  or_seated o (Some m) y h k = h

module _ (g : Program) (source : Source) (told : Told) (known : (n : ℕ) → CodeRoutine g source (slice_get source.routines n)) (spawning : SpawnsSource g source) where
  step : (s : State) → SeatedState g source told s → Fair g source told s → SeatedStep g source told (quiet source s)
  step s h f = led_to g source told (quiet source s) (walk g source told known spawning s h f)

  -- a ride that ends in a request, or as its slice is over
  ridden : {s u : State} {q k : ℕ} {a : Asked} (d : Rides source s q u k a) → RideMeets (Fair g source told) source s q u k a d → (q ≡ 0 → SeatedRest g source told 0 s) → SeatedState g source told s → SeatedAsk g source told a.request u
  ridden rides.slices m rest h = let r = rest refl in record { run = r.run; callers = r.callers; env = r.env }
  ridden (rides.goes_on {s} {t} e d) m rest h =
      ridden d m.1 (λ q. absurd (cc)) (subst (SeatedStep g source told) e (step s h m.0))
  ridden (rides.ticks {s} {t} e d) m rest h =
      let r : SeatedRest g source told 0 t = subst (SeatedStep g source told) e (step s h m.0) in
      ridden d m.1 (λ q. r) (rests g source told t r)
  ridden (rides.asks {s} {t} {q} {r} e) m rest h = subst (SeatedStep g source told) e (step s h m)

  pub led : {s u : State} (l : Leads source s u) → LeadsMeet (Fair g source told) source s u l → SeatedState g source told s → SeatedState g source told u
  led rooms.stays m h = h
  led (rooms.goes {s} e l) m h = led l m.1 (subst (SeatedStep g source told) e (step s h m.0))
  led (rooms.ticks {s} {u} e l) m h =
      let r : SeatedRest g source told 0 u = subst (SeatedStep g source told) e (step s h m.0) in
      led l m.1 (rests g source told u r)

-- an act that lets a task begin

pub over_by : (j : Journal) (e : Entry) → is_ending e.kind ≡ true → is_over (j ++ e ∷ []) ≡ true
unfolding is_over
over_by j e h =
    list_any-append (λ x. is_ending x.kind) j (e ∷ []) ∙ (ap (λ b. list_any (λ x. is_ending x.kind) j || (b || false)) h ∙ or_true (list_any (λ x. is_ending x.kind) j))
  where
    or_true : (b : Bool) → (b || true) ≡ true
    or_true true = refl
    or_true false = refl

module _ (j : Journal) (p t : ℕ) (k : Cost) (line o : ℕ) where
  abbrev spawn_entry : Entry
  spawn_entry = asking kind.Spawn p t k o (pos (task_count j)) (pos 0)

  abbrev fault_entry : Entry
  fault_entry = fault p t k (fault_number run_fault.TooManyTasks) line

  row_spawns : (b : Bool) → is_over (j ++ or_fault b spawn_entry fault_entry) ≡ false → is_pending (j ++ or_fault b spawn_entry fault_entry) o ≡ false
  row_spawns true h = not_pending (j ++ spawn_entry ∷ []) o (spawned_by o j spawn_entry (number spawn_entry.a) refl refl)
  row_spawns false h = no_both (is_over (j ++ fault_entry ∷ [])) (over_by j fault_entry refl) h

pub spawns_now : (opts : Options) (sites : List Site) (input : List ℕ) (j : Journal) (p t n : ℕ) (asked : Asked) (o : ℕ) → asked.request ≡ ask.Spawn o → is_over (j ++ act opts sites input j p t n asked) ≡ false → is_pending (j ++ act opts sites input j p t n asked) o ≡ false
spawns_now opts sites input j p t n asked o e on =
    let is : act opts sites input j p t n asked ≡ row opts sites input j p t (cost n asked.line) asked.line (ask.Spawn o) = (going_row opts sites input j p t n asked on).0 ∙ ap (row opts sites input j p t (cost n asked.line) asked.line) e in
    subst (λ l. is_pending (j ++ l) o ≡ false) (sym is) (row_spawns j p t (cost n asked.line) asked.line o (nat_lt (task_count j) TASKS) (subst (λ l. is_over (j ++ l) ≡ false) is on))

module _ (g : Program) (known : (n : ℕ) → CodeRoutine g (source_of g) (slice_get (source_of g).routines n)) (spawning : SpawnsSource g (source_of g)) (homes : ℕ → Value) (input : List ℕ) (opts : Options) (range : InRange opts) where
  abbrev source : Source
  source = source_of g

  module _ {j : Journal} {w : World} (r : RunRests source input opts j w) (going : is_over j ≡ false) (x : SeatedWorld g source (told_by homes j) j w) where
    abbrev told : Told
    told = told_by homes j

    sound : Sound j
    sound = (good_whole opts source.sites input r.kernel).sound

    -- whoever runs is told what it has asked for
    goes_on : (p t : ℕ) (a : Answer) → running p j ≡ t ∷ [] → answer_to source.sites t j ≡ Some a → SeatedRest g source told 0 (answered source a (drawn j w t))
    goes_on p t a runs answer =
        let m = x.tasks t in
        let finds : Finds g source told (operands (asked_form t j)) (drawn j w t).env.exec (drawn j w t).callers (drawn j w t).run = m.run (law_alive opts source.sites input j r.kernel going p t runs) in
        answered_seated g source told (asked_form t j) a (drawn j w t) (law_suiting opts source.sites input j r.kernel going t a answer) finds m.callers (record { house = m.house; hand = hand_seated g source told (held t j) w.homes x.homes })

    pub state : (t : ℕ) (s : State) (c : Comes source j w t s) → LeadsMeet (Fair g source told) source (answered source c.given (drawn j w t)) s c.leads → SeatedState g source told s
    state t s c m = led g source told known spawning c.leads m (rests g source told _ (goes_on c.processor t c.given c.runs c.told))

    module _ (q t n : ℕ) (s : State) (asked : Asked) (d : AsksIn source opts j w q t n s asked) (meets : RideMeets (Fair g source told) source (answered source d.given (drawn j w t)) (left opts j t) s n asked d.rides) (m : MayAsk opts source.sites j q t n asked.request) (on : is_over (j ++ act opts source.sites input j q t n asked) ≡ false) (far : (k : ℕ) → object_count j ≤ k → k < object_count (j ++ act opts source.sites input j q t n asked) → ApartWorld g (homes k) (world_after source (act opts source.sites input j q t n asked) w t s)) where
      abbrev a : List Entry
      a = act opts source.sites input j q t n asked

      abbrev now : Told
      now = told_by homes (j ++ a)

      -- what this act makes
      abbrev New : ℕ → Type 0
      New k = (object_count j ≤ k) × (k < object_count (j ++ a))

      abbrev apart : (k : ℕ) → New k → ApartWorld g (homes k) (world_after source a w t s)
      apart k h = far k h.0 h.1

      asks : SeatedAsk g source told asked.request s
      asks =
          let start = goes_on q t d.given d.runs d.told in
          ridden g source told known spawning d.rides meets (λ e. start) (rests g source told _ start)

      -- it finds what its request brings
      behind : (e : Request) → asked.request ≡ e → (e ≡ ask.End → ⊥) → ((k : ℕ) → e ≡ ask.Fault k → ⊥) → ((k : ℕ) → New k → ApartTask g (homes k) (bare s)) → FindsBehind g source told e s.env.exec s.callers s.run → Finds g source now (operands (form_of_request e)) s.env.exec s.callers s.run
      behind ask.End e no_end no_fault own h = absurd (no_end refl)
      behind (ask.Fault k) e no_end no_fault own h = absurd (no_fault k refl)
      behind (ask.Spawn o) e no_end no_fault own h =
          telling.spawns g source homes (is_pending j) (is_pending (j ++ a)) New (λ k f. later j a k f) s.env.exec s.callers s.run o h.1 (spawns_now opts source.sites input j q t n asked o e on) (λ k f. (own k f).run) (telling.top_apart g source homes (is_pending j) (is_pending (j ++ a)) New (λ k f. later j a k f) s.env.exec s.callers (λ k f. (own k f).callers)) h.0
      behind e q no_end no_fault own h =
          telling.finds g source homes (is_pending j) (is_pending (j ++ a)) New (λ k f. later j a k f) (operands (form_of_request e)) s.env.exec s.callers s.run (λ k f. (own k f).run) (telling.top_apart g source homes (is_pending j) (is_pending (j ++ a)) New (λ k f. later j a k f) s.env.exec s.callers (λ k f. (own k f).callers)) h

      own_after : ((k : ℕ) → New k → ApartTask g (homes k) (bare s)) → TaskSeated g source now (j ++ a) t (bare s)
      own_after own = record {
        run = λ h.
            let k = law_ends opts source.sites input j q t n asked on h in
            subst (λ f. Finds g source now (operands f) s.env.exec s.callers s.run) (sym (law_asking opts source.sites input j q t n asked r.kernel m on).own) (behind asked.request refl k.no_end k.no_fault own asks.run);
        callers = telling.all_waits g source homes (is_pending j) (is_pending (j ++ a)) New (λ k f. later j a k f) s.env.exec s.callers (λ k f. (own k f).callers) asks.callers;
        house = telling.parked g source homes (is_pending j) (is_pending (j ++ a)) New (λ k f. later j a k f) (home.Task s.env.own) s.env.house.parked (λ k f. (own k f).house) asks.env.house;
      }

      others : (u : ℕ) → (u == t) ≡ false → asked_form u (j ++ a) ≡ asked_form u j
      others u h = (law_asking opts source.sites input j q t n asked r.kernel m on).others u h

      -- one that is spawned was not born, so it has asked nothing
      child_form : (u : ℕ) → (u == t) ≡ false → spawns a u ≡ true → asked_form u (j ++ a) ≡ JustGo
      child_form u h e = others u h ∙ subst (λ (P : Spot). SpotSuits P (asked_form u j)) (sound.few u late) ((kept_run opts source.sites input r.kernel going).suits.spots u)
        where
          not_before : u < task_count j → ⊥
          not_before lt = no_both (spawns a u) e (spawns_none j a u (lawful_act opts source.sites input j q t n asked sound m) lt)

          late : task_count j ≤ u
          late = ⊎_elim (λ lt. absurd (not_before lt)) (λ le. le) (cases_lt u (task_count j))

      -- a task that begins has asked nothing
      tasks_after : (u : ℕ) → TaskSeated g source now (j ++ a) u (if u == t then bare s else if spawns a u then child_of source (own_object u a) s else w.tasks u)
      tasks_after u = by (u == t) refl (λ k f. (apart k f).tasks u)
        where
          stays : (u == t) ≡ false → ((k : ℕ) → New k → ApartTask g (homes k) (w.tasks u)) → TaskSeated g source now (j ++ a) u (w.tasks u)
          stays e own =
              let v : State = w.tasks u in
              record {
                run = λ h. subst (λ f. Finds g source now (operands f) v.env.exec v.callers v.run) (sym (others u e)) (telling.finds g source homes (is_pending j) (is_pending (j ++ a)) New (λ k f. later j a k f) (operands (asked_form u j)) v.env.exec v.callers v.run (λ k f. (own k f).run) (telling.top_apart g source homes (is_pending j) (is_pending (j ++ a)) New (λ k f. later j a k f) v.env.exec v.callers (λ k f. (own k f).callers)) ((x.tasks u).run (ended_before j a u h)));
                callers = telling.all_waits g source homes (is_pending j) (is_pending (j ++ a)) New (λ k f. later j a k f) v.env.exec v.callers (λ k f. (own k f).callers) (x.tasks u).callers;
                house = telling.parked g source homes (is_pending j) (is_pending (j ++ a)) New (λ k f. later j a k f) (home.Task v.env.own) v.env.house.parked (λ k f. (own k f).house) (x.tasks u).house;
              }

          born : (b : Bool) → (u == t) ≡ false → spawns a u ≡ b → ((k : ℕ) → New k → ApartTask g (homes k) (if b then child_of source (own_object u a) s else w.tasks u)) → TaskSeated g source now (j ++ a) u (if b then child_of source (own_object u a) s else w.tasks u)
          born true e f own =
              let first = first_seated g source now known spawning (child_main source s.run.control) (own_object u a) in
              let v : State = child_of source (own_object u a) s in
              record {
                run = λ h. subst (λ f. Finds g source now (operands f) v.env.exec v.callers v.run) (sym (child_form u e f)) first.run;
                callers = first.callers;
                house = first.env.house;
              }
          born false e f own = stays e own

          by : (b : Bool) → (u == t) ≡ b → ((k : ℕ) → New k → ApartTask g (homes k) (if b then bare s else if spawns a u then child_of source (own_object u a) s else w.tasks u)) → TaskSeated g source now (j ++ a) u (if b then bare s else if spawns a u then child_of source (own_object u a) s else w.tasks u)
          by true e own = subst (λ v. TaskSeated g source now (j ++ a) v (bare s)) (sym (eqb-true u t e)) (own_after own)
          by false e own = born (spawns a u) e refl own

      homes_after : (o : ℕ) → SeatedMembers g source now (home.Object o) (if takes_out a o then None else or_else (find o s.env.hand) (w.homes o))
      homes_after o =
          telling.members g source homes (is_pending j) (is_pending (j ++ a)) New (λ k f. later j a k f) (home.Object o) (if takes_out a o then None else or_else (find o s.env.hand) (w.homes o)) (λ k f. (apart k f).homes o) (either (SeatedMembers g source told (home.Object o)) (takes_out a o) None (or_else (find o s.env.hand) (w.homes o)) tt (or_seated g source told o (find o s.env.hand) (w.homes o) (kept.found_hand (Runs g source told) (Waits g source told) (calm g source told) o s.env.hand asks.env.hand) (x.homes o)))

  given_form : (j : Journal) (q t u : ℕ) → asked_form u (j ++ dispatch q t ∷ []) ≡ asked_form u j
  given_form j q t u = form_push u j (dispatch q t)

  -- an act that makes nothing and lets nothing begin
  same_world : {j : Journal} {w : World} (a : List Entry) → ((k : ℕ) → object_count j ≤ k → k < object_count (j ++ a) → ApartWorld g (homes k) w) → ((u : ℕ) → asked_form u (j ++ a) ≡ asked_form u j) → SeatedWorld g source (told_by homes j) j w → SeatedWorld g source (told_by homes (j ++ a)) (j ++ a) w
  same_world {j} {w} a far form x = record {
    tasks = λ u.
        let v : State = w.tasks u in
        record {
          run = λ h. subst (λ f. Finds g source (told_by homes (j ++ a)) (operands f) v.env.exec v.callers v.run) (sym (form u)) (telling.finds g source homes (is_pending j) (is_pending (j ++ a)) (λ k. (object_count j ≤ k) × (k < object_count (j ++ a))) (λ k f. later j a k f) (operands (asked_form u j)) v.env.exec v.callers v.run (λ k f. ((far k f.0 f.1).tasks u).run) (telling.top_apart g source homes (is_pending j) (is_pending (j ++ a)) (λ k. (object_count j ≤ k) × (k < object_count (j ++ a))) (λ k f. later j a k f) v.env.exec v.callers (λ k f. ((far k f.0 f.1).tasks u).callers)) ((x.tasks u).run (ended_before j a u h)));
          callers = telling.all_waits g source homes (is_pending j) (is_pending (j ++ a)) (λ k. (object_count j ≤ k) × (k < object_count (j ++ a))) (λ k f. later j a k f) v.env.exec v.callers (λ k f. ((far k f.0 f.1).tasks u).callers) (x.tasks u).callers;
          house = telling.parked g source homes (is_pending j) (is_pending (j ++ a)) (λ k. (object_count j ≤ k) × (k < object_count (j ++ a))) (λ k f. later j a k f) (home.Task v.env.own) v.env.house.parked (λ k f. ((far k f.0 f.1).tasks u).house) (x.tasks u).house;
        };
    homes = λ o. telling.members g source homes (is_pending j) (is_pending (j ++ a)) (λ k. (object_count j ≤ k) × (k < object_count (j ++ a))) (λ k f. later j a k f) (home.Object o) (w.homes o) (λ k f. (far k f.0 f.1).homes o) (x.homes o);
  }

  seated_may : {j : Journal} {w : World} {a : List Entry} {v : World} → RunRests source input opts j w → is_over j ≡ false → SeatedWorld g source (told_by homes j) j w → (m : May source opts input j w a v) → MayFit source opts input j w a v m → MayMeet (Fair g source (told_by homes j)) source opts input j w a v m → ((k : ℕ) → object_count j ≤ k → k < object_count (j ++ a) → ApartWorld g (homes k) v) → is_over (j ++ a) ≡ false → SeatedWorld g source (told_by homes (j ++ a)) (j ++ a) v
  seated_may {j} {w} r o x (gives q t s le) f meets far on = same_world (dispatch q t ∷ []) far (λ u. given_form j q t u) x
  seated_may {j} r o x (no_room q t s le) f meets far on = no_both (is_over (j ++ lone_limit ∷ [])) (over_limit j 0 0) on
  seated_may {j} {w} r o x (acts q t n s asked d) f meets far on =
      let m = may_ask source input opts range d f in
      record { tasks = λ u. tasks_after r o x q t n s asked d meets m on far u; homes = λ k. homes_after r o x q t n s asked d meets m on far k }

  begin_form : (u : ℕ) → asked_form u (begin opts ∷ []) ≡ JustGo
  unfolding asked_form
  begin_form u = refl

  pub seated_run : {j : Journal} {w : World} (r : RunsIn source input opts j w) → RunFits source input opts j w r → RunFair g homes source input opts j w r → RunMakesApart g homes source input opts j w r → is_over j ≡ false → SeatedWorld g source (told_by homes j) j w
  seated_run begun f meets far on =
      let first = first_seated g source (told_by homes (begin opts ∷ [])) known spawning source.main 0 in
      let v : State = first_state (routine_of source source.main) 0 in
      record {
        tasks = λ u. record { run = λ h. subst (λ f. Finds g source (told_by homes (begin opts ∷ [])) (operands f) v.env.exec v.callers v.run) (sym (begin_form u)) first.run; callers = first.callers; house = first.env.house };
        homes = λ o. either (SeatedMembers g source (told_by homes (begin opts ∷ [])) (home.Object o)) (o == 0) (Some no_members) None tt tt;
      }
  seated_run (more {j} {w} r o m) f meets far on =
      seated_may (run_rests source input opts range r f.0 o) o (seated_run r f.0 meets.0 far.0 o) m f.1 meets.1 far.1 on
