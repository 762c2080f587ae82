-- A mutex object that was made and is not gone is at home in what is the own of an execution that is at home in what was made before it: who asked for it was
-- there before it.
use Rattle.std.proofs.Common.{◌≡◌, ℕ, ◌<◌, ◌≤◌, ◌⊎◌, inl, inr, ◌++◌, Bool, true, false, List, [], ◌∷◌, drop, Option, Some, None, refl, sym, ap, ◌∙◌, subst, arith, append-nil, append_assoc, ◌||◌}
use Rattle.std.specs.Prelude.{nat_eq, if◌then◌else◌, slice_get}
use Rattle.std.proofs.lemmas.Bool.{eqb-true, eq-eqb, cases_lt}
use Rattle.uc_tree.specs.Programs.{Program}
use Rattle.uc_tree.specs.Source.{Source}
use Rattle.uc_entry.specs.declared.entry.Entry.{Entry}
use Rattle.uc_entry.specs.declared.entry.Options.{Options}
use Rattle.uc_entry.specs.declared.request.Answer.TheVariants as answer
use Rattle.uc_entry.specs.declared.request.Asked.{Asked}
use Rattle.uc_entry.specs.declared.request.Request.{Request}
use Rattle.uc_entry.specs.declared.request.Request.TheVariants as ask
use Rattle.uc_acts.specs.Journal.{Journal, begin, held, is_over}
use Rattle.uc_acts.specs.Acts.{act, dispatch, lone_limit}
use Rattle.uc_acts.specs.Answers.{just_made}
use Rattle.uc_acts.specs.Known.{has, is_gone, made, object_count, owner, takes_object}
use Rattle.uc_acts.specs.KernelRuns.{InRange, MayAsk}
use Rattle.uc_acts.proofs.Bounds.{over_limit}
use Rattle.uc_acts.proofs.Counted.{counted_run, gone_push}
use Rattle.uc_acts.proofs.SoundLemmas.{objects_push}
use Rattle.uc_machine.specs.declared.exec.Exec.{Exec}
use Rattle.uc_machine.specs.declared.exec.Home.{Home}
use Rattle.uc_machine.specs.declared.exec.Home.TheVariants as home
use Rattle.uc_machine.specs.Pieces as piece
use Rattle.uc_machine.specs.Pieces.{Value, Todo, State, Members, Object, Asks, top, below}
use Rattle.uc_machine.specs.Quiet.{quiet}
use Rattle.uc_machine.specs.Answering.{answered, with_operand, entered, new_members}
use Rattle.uc_machine.specs.Rides as rides
use Rattle.uc_machine.specs.Rides.{Rides}
use Rattle.uc_meaning.specs.Runs.{World, Runs, AsksIn, drawn, gives, no_room, acts, begun, more}
use Rattle.uc_name_laws.specs.Below.{IsBelow}
use Rattle.uc_name_laws.proofs.Homes.{no_both}
use Rattle.uc_answer_laws.specs.Suiting.{AnObject}
use Rattle.uc_resolve.specs.Resolve.{source_of}
use Rattle.uc_rules.specs.Breaks.{breaks_of}
use Rattle.uc_sound.specs.SoundFormed.{IsFormed}
use Rattle.uc_sound.specs.Tables.{table_of}
use Rattle.uc_sound.proofs.Routines.{law_entered}
use Rattle.uc_source_laws.specs.SourceLaws.{part_of}
use Rattle.uc_source_laws.proofs.InnerSources.{law_inner}
use Rattle.uc_state_laws.specs.Counted.{params}
use Rattle.uc_state_laws.specs.Fitting.{RunFits}
use Rattle.uc_state_laws.specs.Opens.{RideMeets, RunMeets}
use Rattle.uc_state_laws.specs.ScopeFrameRuns.{KeepsFrames}
use Rattle.uc_state_laws.proofs.Makes.{is_making, run_after, makes, none_new, one_new}
use Rattle.uc_state_laws.proofs.Others.{RunRests, may_ask, run_rests}
use Rattle.uc_state_laws.proofs.StackWorlds.{law_frame_runs}
use Rattle.uc_state_laws.proofs.Unreferring.{law_accepted}
use Rattle.uc_depth_laws.proofs.Answers.{law_steps}
use Rattle.uc_depth_laws.proofs.Standing.{law_free, law_drawn}
use Rattle.uc_letting_laws.specs.AloneRuns.{RunAlone}
use Rattle.uc_letting_laws.proofs.LettingWorlds.{both_run}
use Rattle.uc_life_laws.specs.Things.{Few}
use Rattle.uc_life_laws.specs.Belonging.{Belongs}
use Rattle.uc_life_laws.specs.Homes.{made_at, then_home, home_of}
use Rattle.uc_life_laws.specs.NamedRuns.{is_here}
use Rattle.uc_life_laws.proofs.Homes.{law_once}
use Rattle.uc_life_laws.proofs.Laying.{laid_out}
use Rattle.uc_life_laws.proofs.NamedWorlds.{run_named, start as named_start, known, held_made, vacuous}
use Rattle.uc_life_laws.proofs.NewNumbers.{objects_grow}
use Rattle.uc_life_laws.proofs.Own.{law_own}
use Rattle.uc_life_laws.proofs.Riding.{ride_named}
use Rattle.uc_putting_laws.specs.OwnPlaces.{OwnPlacesAt, OwnPlaces}
use Rattle.uc_putting_laws.specs.Putting.{Setting, CodeRoutine, PutState, PutStep, PutAsk}
use Rattle.uc_putting_laws.specs.PuttingLaws.{special_of, setting_of, Fair}
use Rattle.uc_putting_laws.proofs.OwnPlaces.{law_own_places}
use Rattle.uc_putting_laws.proofs.PuttingRuns.{code_of}
use Rattle.uc_putting_laws.proofs.Routines.{law_calling}
use Rattle.uc_putting_laws.proofs.Walk.{walk, answered_put}
use Rattle.uc_putting_laws.proofs.Worlds as put
use Rattle.uc_lasting_programs.specs.Asking.{MakesAt}
use Rattle.uc_lasting_programs.proofs.Asking.{law_asked_at}

pub not_true : (b : Bool) → (b ≡ true → ⊥) → b ≡ false
not_true true f = absurd (f refl)
not_true false f = refl

pub one_not_none : (u : ℕ) (us : List ℕ) → us ≡ u ∷ [] → us ≡ [] → ⊥
one_not_none u us e f = cc

pub one_object : (opts : Options) → object_count (begin opts ∷ []) ≡ 1
unfolding object_count
one_object opts = omega arith

pub one_and_one : (u v : ℕ) → u ∷ [] ≡ v ∷ [] → u ≡ v
one_and_one u v h = cc

or_first : (b c : Bool) → (b || c) ≡ false → b ≡ false
or_first true c h = no_both (true || c) refl h
or_first false c h = refl

-- what is not gone was not gone before
pub was_there : (o : ℕ) (j : Journal) (a : List Entry) → is_gone o (j ++ a) ≡ false → is_gone o j ≡ false
was_there o j [] h = sym (ap (is_gone o) (append-nil j)) ∙ h
was_there o j (e ∷ a) h =
    or_first (is_gone o j) (takes_object e.kind e o) (sym (gone_push o j e) ∙ was_there o (j ++ e ∷ []) a (ap (is_gone o) (append_assoc j (e ∷ []) a) ∙ h))

-- that at which an execution is at home, by its number
abbrev pub number_at : Home → ℕ
number_at (home.Task o) = o
number_at (home.Object o) = o

-- an object is at home in what is the own of one that is at home in what was made before
abbrev pub Owned : Few → ℕ → Type 0
Owned few o = (n : Exec) × Belongs few n (few.home o) × (number_at n.home < o)

lesser : (q o : ℕ) → (o ≤ q → ⊥) → q < o
lesser q o f = by (cases_lt q o)
  where
    by : (q < o) ⊎ (o ≤ q) → q < o
    by (inl lt) = lt
    by (inr le) = absurd (f le)

module _ (p : Program) (formed : IsFormed p) (ok : breaks_of p ≡ []) (few : Few) (zero : (n : Exec) → Belongs few n (few.home 0) → ⊥) where
  abbrev source : Source
  source = source_of p

  abbrev g : Setting
  g = setting_of p few

  code : (n : ℕ) → CodeRoutine (setting_of p few) (special_of p n) ((table_of p).routine n).this (slice_get (source_of p).routines n)
  code = code_of p formed ok few

  -- a new object is at home in what is the own of who asks for it

  bound_own : (u : State) (x : Option Members) (c r : ℕ) (todo : List Todo) → u.run.control ≡ piece.BindMadeNow c r ∷ todo → OwnPlaces few (source_of p) (with_operand (Object 0) (entered x 0 u)) → Belongs few u.env.exec (made_at (source_of p) u.run.control u.run.operands)
  bound_own u None c r todo e h =
      let own : Belongs few u.env.exec (top (drop (params (source_of p) r) u.run.operands)) = subst (λ l. OwnPlacesAt few (source_of p) l (with_operand (Object 0) u)) e h in
      subst (λ l. Belongs few u.env.exec (made_at (source_of p) l u.run.operands)) (sym e) own
  bound_own u (Some m) c r todo e h =
      let own : Belongs few u.env.exec (top (drop (params (source_of p) r) u.run.operands)) = subst (λ l. OwnPlacesAt few (source_of p) l (with_operand (Object 0) (entered (Some m) 0 u))) e h in
      subst (λ l. Belongs few u.env.exec (made_at (source_of p) l u.run.operands)) (sym e) own

  state_own : (v u : State) → put.Stands p (setting_of p few) v → Fair (setting_of p few) v → (c : ℕ) → quiet (source_of p) v ≡ Asks (ask.Make c) u → Belongs few u.env.exec (made_at (source_of p) u.run.control u.run.operands)
  state_own v u n f c e =
      let a : PutAsk (setting_of p few) (ask.Make c) u = subst (PutStep (setting_of p few)) e (walk p (setting_of p few) (laid_out p formed ok) code v n.put n.stack f) in
      let m : MakesAt (source_of p) v u = law_asked_at (source_of p) v (ask.Make c) u e in
      let h : PutState (setting_of p few) (answered (source_of p) (answer.Object 0) u) = answered_put (setting_of p few) AnObject (answer.Object 0) u tt a.run a.callers a.env in
      bound_own u (new_members (source_of p) u.run.control) m.class m.builder m.todo m.binds (law_own_places.states (setting_of p few) (answered (source_of p) (answer.Object 0) u) h)

  ride_own : {s u : State} {q k : ℕ} {a : Asked} (d : Rides (source_of p) s q u k a) → RideMeets (Fair (setting_of p few)) (source_of p) s q u k a d → put.Stands p (setting_of p few) s → (c : ℕ) → a.request ≡ ask.Make c → Belongs few u.env.exec (made_at (source_of p) u.run.control u.run.operands)
  ride_own rides.slices f n c h = absurd (cc)
  ride_own (rides.goes_on {s} {t} e r) f n c h =
      ride_own r f.1 (put.goes p (setting_of p few) (laid_out p formed ok) (law_accepted p ok) code s t e n f.0) c h
  ride_own (rides.ticks {s} {t} e r) f n c h =
      ride_own r f.1 (put.ticks p (setting_of p few) (laid_out p formed ok) (law_accepted p ok) code s t e n f.0) c h
  ride_own (rides.asks {s} {t} {q} {r} e) f n c h = state_own s t n f c (e ∙ ap (λ (x : Request). Asks x t) h)

  module _ (input : List ℕ) (opts : Options) (range : InRange opts) where
    -- at an act that asks for one
    module _ {j : Journal} {w : World} (r : Runs (source_of p) input opts j w) (f : RunFits (source_of p) input opts j w r) (alone : RunAlone (source_of p) input opts j w r) (on : is_over j ≡ false) (fair : RunMeets (Fair (setting_of p few)) (source_of p) input opts j w r) (q t n : ℕ) (s : State) (asked : Asked) (d : AsksIn (source_of p) opts j w q t n s asked) (now : RideMeets (Fair (setting_of p few)) (source_of p) (answered (source_of p) d.given (drawn j w t)) _ s n asked d.rides) where
      owner_none : (o : ℕ) → object_count j ≤ o → owner o j ≡ []
      owner_none o le =
          (both_run (part_of p) (source_of p) (law_entered p formed ok) (law_inner p formed ok).source law_steps law_free law_drawn input opts range r f alone on).owing.makers.none o le

      pub belongs : (c : ℕ) → asked.request ≡ ask.Make c → Belongs few s.env.exec (made_at (source_of p) s.run.control s.run.operands)
      belongs c e =
          let main = (law_calling p formed ok).main in
          let world = put.run_put p ok few (laid_out p formed ok) main code input opts range r f fair in
          let frames : KeepsFrames p j w = law_frame_runs p ok input opts j w r in
          ride_own d.rides now (put.start p ok few (laid_out p formed ok) main code input opts range (run_rests (source_of p) input opts range r f on) on (world.0 on) frames q t d.given d.runs d.told) c e

      -- so a new object is, where its home is told
      pub new_own : (c : ℕ) → asked.request ≡ ask.Make c → (o : ℕ) → o ≡ object_count j → few.home o ≡ then_home (source_of p) j asked.request s (λ i. home_of (source_of p) input opts j w r i) o → Belongs few s.env.exec (few.home o)
      new_own c e o is told =
          let there : few.home o ≡ made_at (source_of p) s.run.control s.run.operands = told ∙ (ap (λ (z : Request). then_home (source_of p) j z s (λ i. home_of (source_of p) input opts j w r i) o) e ∙ ap (λ (z : Bool). if z then made_at (source_of p) s.run.control s.run.operands else home_of (source_of p) input opts j w r o) (eq-eqb o (object_count j) is)) in
          subst (Belongs few s.env.exec) (sym there) (belongs c e)

      by_names : (now : Home → ℕ) (o : ℕ) → ((q : ℕ) → o ≤ q → (now (home.Object q) ≡ 0) × (now (home.Task q) ≡ 0)) → (h : Home) → s.env.exec.home ≡ h → IsBelow now s.env.exec → number_at h < o
      by_names now o none (home.Object q) e under =
          let lt : s.env.exec.serial < now (home.Object q) = subst (λ (h : Home). s.env.exec.serial < now h) e under in
          lesser q o (λ le. let z = (none q le).0 in omega (arith, lt, z))
      by_names now o none (home.Task q) e under =
          let lt : s.env.exec.serial < now (home.Task q) = subst (λ (h : Home). s.env.exec.serial < now h) e under in
          lesser q o (λ le. let z = (none q le).1 in omega (arith, lt, z))

      -- who asks is at home in what was made before
      earlier : number_at s.env.exec.home < object_count j
      earlier =
          let rests = run_rests (source_of p) input opts range r f on in
          let y = run_named (source_of p) input opts range r f on in
          let k = ride_named (source_of p) (is_here (w.tasks t).env.own (held t j)) false y.serials d.rides (named_start (source_of p) input opts range rests on y.serials y.world q t d.runs d.given d.told) (λ u. vacuous u) in
          let unheld : (o : ℕ) → object_count j ≤ o → has (held t j) o ≡ false = λ o le. not_true (has (held t j) o) (λ h. let lt = held_made (source_of p) input opts range rests on y.serials y.world q t d.runs o h in omega (arith, lt, le)) in
          let other : (o : ℕ) → object_count j ≤ o → nat_eq o (w.tasks t).env.own ≡ false = λ o le. not_true (nat_eq o (w.tasks t).env.own) (λ e. one_not_none t (owner o j) (ap (λ i. owner i j) (eqb-true o (w.tasks t).env.own e) ∙ y.world.owned t (known (source_of p) input opts range rests on y.serials y.world q t d.runs)) (owner_none o le)) in
          by_names k.now (object_count j) (λ o le. (k.grows.same (home.Object o) (unheld o le) ∙ y.world.unmade o le, k.grows.same (home.Task o) (other o le) ∙ y.world.unowned o (owner_none o le))) s.env.exec.home refl k.named.names.env_named.exec_below

    -- in a run: each but object 0 is at home so
    pub homes_owned : {j : Journal} {w : World} (r : Runs (source_of p) input opts j w) → RunFits (source_of p) input opts j w r → RunAlone (source_of p) input opts j w r → is_over j ≡ false → RunMeets (Fair (setting_of p few)) (source_of p) input opts j w r → ((o : ℕ) → o < object_count j → few.home o ≡ home_of (source_of p) input opts j w r o) → (o : ℕ) → o < object_count j → is_gone o j ≡ false → (o ≡ 0 → ⊥) → Owned few o
    homes_owned begun f alone on fair same o lt there after =
        let one = one_object opts in
        let first : o ≡ 0 = omega (arith, lt, one) in
        absurd (after first)
    homes_owned (more {j} {w} r before (gives q t s le)) f alone on fair same o lt there after =
        let count = objects_push j (dispatch q t) in
        homes_owned r f.0 alone.0 before fair.0 (λ i l. same i (omega (arith, l, count))) o (omega (arith, lt, count)) (was_there o j (dispatch q t ∷ []) there) after
    homes_owned (more {j} {w} r before (no_room q t s le)) f alone on fair same o lt there after =
        no_both (is_over (j ++ lone_limit ∷ [])) (over_limit j 0 0) on
    homes_owned (more {j} {w} {a} {w' = v} r before (acts q t k s asked d)) f alone on fair same o lt there after = by (λ l. homes_owned r f.0 alone.0 before fair.0 as_before o l (was_there o j (act opts (source_of p).sites input j q t k asked) there) after) (cases_lt o (object_count j))
      where
        as_before : (i : ℕ) → i < object_count j → few.home i ≡ home_of (source_of p) input opts j w r i
        as_before i l =
            let le = objects_grow j (act opts (source_of p).sites input j q t k asked) in
            same i (omega (arith, l, le)) ∙ law_once (source_of p) input opts j w a v (acts q t k s asked d) (λ x. home_of (source_of p) input opts j w r x) i l

        rests : RunRests (source_of p) input opts j w
        rests = run_rests (source_of p) input opts range r f.0 before

        m : MayAsk opts (source_of p).sites j q t k asked.request
        m = may_ask (source_of p) input opts range d f.1

        just : object_count j ≤ o → just_made t (j ++ act opts (source_of p).sites input j q t k asked) ≡ o ∷ []
        just le =
            let now : has (made (j ++ act opts (source_of p).sites input j q t k asked)) o ≡ true = (counted_run opts (source_of p).sites input (run_after opts (source_of p).sites input j q t k asked rests.kernel m on)).made_of o lt there in
            let old : has (made j) o ≡ false = not_true (has (made j) o) (λ h. let l = ((counted_run opts (source_of p).sites input rests.kernel).of_made o h).0 in omega (arith, l, le)) in
            (makes opts (source_of p).sites input j q t k asked rests.kernel m on).new o now old

        at : (x : Request) (b : Bool) → is_making x ≡ b → asked.request ≡ x → object_count j ≤ o → Owned few o
        at x false i e le = absurd (none_new opts (source_of p).sites input j q t k asked rests.kernel m on (ap is_making e ∙ i) o (just le))
        at (ask.Make c) true i e le =
            let is : o ≡ object_count j = one_and_one o (object_count j) (sym (just le) ∙ one_new opts (source_of p).sites input j q t k asked rests.kernel m on c e) in
            let theirs : Belongs few s.env.exec (few.home o) = new_own r f.0 alone.0 before fair.0 q t k s asked d fair.1 c e o is (same o lt) in
            (s.env.exec, theirs, subst (λ (i : ℕ). number_at s.env.exec.home < i) (sym is) (earlier r f.0 alone.0 before fair.0 q t k s asked d fair.1))
        at x true i e le = no_both (is_making x) i refl

        by : (o < object_count j → Owned few o) → (o < object_count j) ⊎ (object_count j ≤ o) → Owned few o
        by older (inl l) = older l
        by older (inr le) = at asked.request (is_making asked.request) refl refl le

    pub homes_away : {j : Journal} {w : World} (r : Runs (source_of p) input opts j w) → RunFits (source_of p) input opts j w r → RunAlone (source_of p) input opts j w r → is_over j ≡ false → RunMeets (Fair (setting_of p few)) (source_of p) input opts j w r → ((o : ℕ) → o < object_count j → few.home o ≡ home_of (source_of p) input opts j w r o) → (o : ℕ) → o < object_count j → is_gone o j ≡ false → (n : Exec) → Belongs few n (few.home o) → number_at n.home < o
    homes_away r f alone on fair same o lt there n own =
        let x = homes_owned r f alone on fair same o lt there (λ e. zero n (subst (λ (i : ℕ). Belongs few n (few.home i)) e own)) in
        subst (λ (m : Exec). number_at m.home < o) (sym (law_own few n x.0 (few.home o) own x.1)) x.2
