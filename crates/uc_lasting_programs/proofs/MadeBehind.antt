-- Behind the act by which an object goes nobody lives that was made for it: what is at home there went with it, its task has ended, and in that its main has run
-- to its end.
use Rattle.std.proofs.Common.{◌≡◌, ℕ, ◌==◌, ◌<◌, ◌≤◌, ◌⊎◌, inl, inr, Bool, true, false, ◌||◌, List, [], ◌∷◌, ◌++◌, None, refl, sym, ap, ◌∙◌, subst, ⊎_elim}
use Rattle.std.specs.Prelude.{if◌then◌else◌, is_some, pos}
use Rattle.std.proofs.lemmas.Bool.{eq-eqb, cases_lt}
use Rattle.uc_tree.specs.Programs.{Program}
use Rattle.uc_tree.specs.Source.{routine_of}
use Rattle.uc_entry.specs.declared.entry.Entry.{Entry}
use Rattle.uc_entry.specs.declared.entry.EntryKind.TheVariants as kind
use Rattle.uc_entry.specs.declared.entry.Options.{Options}
use Rattle.uc_entry.specs.declared.request.Asked.{Asked}
use Rattle.uc_entry.specs.declared.request.Request.{Request}
use Rattle.uc_entry.specs.declared.request.Request.TheVariants as ask
use Rattle.uc_entry.specs.Keyed.{find}
use Rattle.uc_acts.specs.Journal.{Journal, asking as asking_entry, cost, held, is_over, own_object}
use Rattle.uc_acts.specs.Known.{has, has_ended, is_gone, spawns, takes_out, task_count}
use Rattle.uc_acts.specs.Acts.{act, row}
use Rattle.uc_acts.specs.KernelRuns.{InRange}
use Rattle.uc_acts.proofs.Counted.{gone_push}
use Rattle.uc_acts.proofs.Held.{law_held}
use Rattle.uc_acts.proofs.Living.{going_row, lived_run}
use Rattle.uc_machine.specs.declared.exec.Exec.{Exec}
use Rattle.uc_machine.specs.declared.exec.Home.TheVariants as home
use Rattle.uc_machine.specs.Monitors.{this_object}
use Rattle.uc_machine.specs.Pieces.{Todo, GoneNow, GiveUpNow, Active, State, Asks}
use Rattle.uc_machine.specs.Quiet.{quiet, first_state}
use Rattle.uc_machine.specs.Answering.{child_of}
use Rattle.uc_machine.specs.Rides.{Rides, slices, goes_on, ticks, asks}
use Rattle.uc_meaning.specs.Runs.{World, Runs, AsksIn, begun, more, gives, no_room, acts, bare, hand_of, or_else, world_after}
use Rattle.uc_resolve.specs.Resolve.{source_of}
use Rattle.uc_rules.specs.Breaks.{breaks_of}
use Rattle.uc_sound.specs.SoundFormed.{IsFormed}
use Rattle.uc_sound.specs.Tables.{table_of}
use Rattle.uc_name_laws.proofs.Homes.{no_both}
use Rattle.uc_name_laws.specs.NameSteps.{Spares}
use Rattle.uc_state_laws.specs.Fitting.{RunFits}
use Rattle.uc_state_laws.specs.Opens.{RideMeets, RunMeets}
use Rattle.uc_state_laws.proofs.Alive.{law_alive}
use Rattle.uc_state_laws.proofs.Others.{run_rests}
use Rattle.uc_depth_laws.proofs.Answers.{law_steps}
use Rattle.uc_depth_laws.proofs.Standing.{law_free, law_drawn}
use Rattle.uc_inner_laws.specs.Standing.{IsHere}
use Rattle.uc_sound.proofs.Routines.{law_entered}
use Rattle.uc_source_laws.specs.SourceLaws.{part_of}
use Rattle.uc_source_laws.proofs.InnerSources.{law_inner}
use Rattle.uc_letting_laws.specs.AloneRuns.{RunAlone}
use Rattle.uc_letting_laws.proofs.Hands.{hand_lacks}
use Rattle.uc_letting_laws.proofs.LettingWorlds.{both_run}
use Rattle.uc_life_laws.specs.Belonging.{Belongs}
use Rattle.uc_life_laws.specs.Knowing.{main_of}
use Rattle.uc_life_laws.specs.Rooted.{InParked, InHand, InMembers, Lives}
use Rattle.uc_life_laws.specs.Things.{Few}
use Rattle.uc_life_laws.proofs.OwnNamesLemmas.{law_own_names, run_first}
use Rattle.uc_rooted_runs.specs.Mains.{FindsAll}
use Rattle.uc_rooted_runs.specs.TaskMains.{EndsState}
use Rattle.uc_running_laws.proofs.RunningLemmas.{run_leaves}
use Rattle.uc_making_laws.specs.ForgetsThis.{RunGoes, GoesBy}
use Rattle.uc_making_laws.proofs.NoOthers.{in_parked}
use Rattle.uc_lasting_programs.specs.Asking.{LetsGoAt}
use Rattle.uc_lasting_programs.specs.Ways.{IsBareBehind}
use Rattle.uc_lasting_programs.proofs.Asking.{law_asked_at}
use Rattle.uc_lasting_programs.specs.Bases.{RunHoldsOnWay}
use Rattle.uc_lasting_programs.proofs.Bases.{UnlessMadeBy, UnlessMade, OthersOf, parked_home, members_home}
use Rattle.uc_lasting_programs.proofs.Behind.{behind}
use Rattle.uc_lasting_programs.proofs.SeatHomes.{IsMadeFor}
use Rattle.uc_lasting_programs.proofs.TaskEnds.{gone_ended, mains_end}

or_true : (b : Bool) → (b || true) ≡ true
or_true true = refl
or_true false = refl

-- tasks at rest have nothing in hand
hands : (p : Program) {input : List ℕ} {opts : Options} {j : Journal} {w : World} (r : Runs (source_of p) input opts j w) (u : ℕ) → (w.tasks u).env.hand ≡ []
hands p begun u = refl
hands p (more r o (gives q t s le)) u = hands p r u
hands p (more r o (no_room q t s le)) u = hands p r u
hands p {input} {opts} (more {j} {w} r o (acts q t n s asked d)) u = by (u == t) (spawns (act opts (source_of p).sites input j q t n asked) u) (hands p r u)
  where
    by : (b c : Bool) → (w.tasks u).env.hand ≡ [] → (if b then bare s else if c then child_of (source_of p) (own_object u (act opts (source_of p).sites input j q t n asked)) s else w.tasks u).env.hand ≡ []
    by true c h = refl
    by false true h = refl
    by false false h = h

module _ (p : Program) (formed : IsFormed p) (ok : breaks_of p ≡ []) (input : List ℕ) (opts : Options) (range : InRange opts) where
  -- behind a run: of an object that has gone
  module _ {j : Journal} {w : World} (r : Runs (source_of p) input opts j w) (fits : RunFits (source_of p) input opts j w r) (alone : RunAlone (source_of p) input opts j w r) (ends : RunMeets EndsState (source_of p) input opts j w r) (finds : RunMeets (FindsAll (source_of p)) (source_of p) input opts j w r) (spares : RunMeets Spares (source_of p) input opts j w r) (on : is_over j ≡ false) (o : ℕ) (gone : is_gone o j ≡ true) (out : w.homes o ≡ None) (zero : o ≡ 0 → ⊥) where
    -- no task has it in hand
    lacks : (u : ℕ) → find o (hand_of (held u j) w.homes) ≡ None
    lacks u =
        let dead = (lived_run opts (source_of p).sites input (run_rests (source_of p) input opts range r fits on).kernel on).dead o gone in
        hand_lacks (held u j) w.homes o ((law_held j).inside u o ∙ ap (λ l. has l u) dead.inside)

    -- nor is it the own one of a task that has not ended
    not_own : (u : ℕ) → u < task_count j → has_ended u j ≡ false → o ≡ (w.tasks u).env.own → ⊥
    not_own u lt there e =
        no_both (has_ended u j) (gone_ended p formed ok input opts range r fits alone on u lt (subst (λ q. is_gone q j ≡ true) e gone)) there

    -- so who runs in such a one was not made for it
    running : (u : ℕ) → u < task_count j → has_ended u j ≡ false → IsMadeFor (w.tasks u).env.exec o → ⊥
    running u lt there m =
        let x = both_run (part_of p) (source_of p) (law_entered p formed ok) (law_inner p formed ok).source law_steps law_free law_drawn input opts range r fits alone on in
        by (x.standing.tasks u lt there).stands.here m
      where
        by : IsHere (w.tasks u).env.own (hand_of (held u j) w.homes) (w.tasks u).env.exec.home → IsMadeFor (w.tasks u).env.exec o → ⊥
        by h (inl e) =
            let i : is_some (find o (hand_of (held u j) w.homes)) ≡ true = subst (IsHere (w.tasks u).env.own (hand_of (held u j) w.homes)) e h in
            let z : is_some (find o (hand_of (held u j) w.homes)) ≡ false = ap is_some (lacks u) in
            no_both (is_some (find o (hand_of (held u j) w.homes))) i z
        by h (inr e) =
            let i : o ≡ (w.tasks u).env.own = subst (IsHere (w.tasks u).env.own (hand_of (held u j) w.homes)) (ap (λ (m : Exec). m.home) e) h in
            not_own u lt there i

    -- nor was the main of task 0
    first_main : (n : Exec) → n ≡ main_of 0 → IsMadeFor n o → ⊥
    first_main n e (inl h) = let z : home.Task 0 ≡ home.Object o = ap (λ (m : Exec). m.home) (sym e) ∙ h in absurd (cc)
    first_main n e (inr h) =
        let z : home.Task 0 ≡ home.Task o = ap (λ (m : Exec). m.home) (sym e ∙ h) in
        let same : o ≡ 0 = cc in
        zero same

    late : (u : ℕ) → task_count j ≤ u → w.tasks u ≡ first_state (routine_of (source_of p) (source_of p).main) 0
    late = run_first (source_of p) input opts range r fits on

    -- in a task that has ended its main runs, so it does not wait there
    parked : (u : ℕ) (n : Exec) (cs : List Active) → InParked n cs (home.Task (w.tasks u).env.own) (w.tasks u).env.house.parked → n ≡ main_of o → ⊥
    parked u n cs i e = ⊎_elim (λ lt. by (has_ended u j) refl lt) (λ le. none_yet (subst (λ (y : State). InParked n cs (home.Task y.env.own) y.env.house.parked) (late u le) i)) (cases_lt u (task_count j))
      where
        own : o ≡ (w.tasks u).env.own
        own =
            let z : home.Task o ≡ home.Task (w.tasks u).env.own = ap (λ (m : Exec). m.home) (sym e) ∙ parked_home n cs (home.Task (w.tasks u).env.own) (w.tasks u).env.house.parked i in
            cc

        none_yet : ⊥ ⊎ ⊥ → ⊥
        none_yet (inl x) = x
        none_yet (inr x) = x

        by : (b : Bool) → has_ended u j ≡ b → u < task_count j → ⊥
        by true g lt =
            let m = mains_end p formed ok input opts range r fits alone ends finds on u g in
            let names = (law_own_names (source_of p) input opts j w r range fits on (run_leaves p formed ok input opts range r fits alone) spares).rests u lt in
            in_parked (λ m ds. m ≡ (w.tasks u).env.exec → ⊥) n cs (home.Task (w.tasks u).env.own) (w.tasks u).env.house.parked i (names.tasks u).house (e ∙ (ap main_of own ∙ sym m.1))
        by false g lt = not_own u lt g own

    -- so nobody who lives was made for it
    pub nobody_made : (n : Exec) (cs : List Active) → Lives j w n cs → IsMadeFor n o → ⊥
    nobody_made n cs (inl (u, there, e, f)) m =
        ⊎_elim (λ lt. running u lt there (subst (λ x. IsMadeFor x o) e m)) (λ le. first_main n (e ∙ ap (λ (y : State). y.env.exec) (late u le)) m) (cases_lt u (task_count j))
    nobody_made n cs (inr (inl (u, inl i))) (inl h) =
        let z : home.Task (w.tasks u).env.own ≡ home.Object o = sym (parked_home n cs (home.Task (w.tasks u).env.own) (w.tasks u).env.house.parked i) ∙ h in
        absurd (cc)
    nobody_made n cs (inr (inl (u, inl i))) (inr h) = parked u n cs i h
    nobody_made n cs (inr (inl (u, inr i))) m = subst (λ ps. InHand n cs ps) (hands p r u) i
    nobody_made n cs (inr (inr (q, i))) (inl h) =
        let z : home.Object q ≡ home.Object o = sym (members_home n cs (home.Object q) (w.homes q) i) ∙ h in
        let same : q ≡ o = cc in
        subst (λ x. InMembers n cs (home.Object q) x) (ap w.homes same ∙ out) i
    nobody_made n cs (inr (inr (q, i))) (inr h) =
        let z : home.Object q ≡ home.Task o = sym (members_home n cs (home.Object q) (w.homes q) i) ∙ ap (λ (m : Exec). m.home) h in
        absurd (cc)

  -- what is told of the state in which the last is asked
  last_at : (P : State → Type 0) {s x : State} {q k : ℕ} {a : Asked} (r : Rides (source_of p) s q x k a) → RideMeets P (source_of p) s q x k a r → (a.request ≡ ask.Slice) ⊎ ((v : State) × P v × (quiet (source_of p) v ≡ Asks a.request x))
  last_at P slices h = inl refl
  last_at P (goes_on e r) h = last_at P r h.1
  last_at P (ticks e r) h = last_at P r h.1
  last_at P (asks {s} e) h = inr (s, h, e)

  module _ (few : Few) (nobodys : (n : Exec) → Belongs few n (few.home 0) → ⊥) where
    -- at the act by which an object goes
    module _ {j : Journal} {w : World} (r : Runs (source_of p) input opts j w) (o : is_over j ≡ false) (q t n : ℕ) (s : State) (asked : Asked) (d : AsksIn (source_of p) opts j w q t n s asked) (fits : RunFits (source_of p) input opts (j ++ act opts (source_of p).sites input j q t n asked) (world_after (source_of p) (act opts (source_of p).sites input j q t n asked) w t s) (more r o (acts q t n s asked d))) (alone : RunAlone (source_of p) input opts (j ++ act opts (source_of p).sites input j q t n asked) (world_after (source_of p) (act opts (source_of p).sites input j q t n asked) w t s) (more r o (acts q t n s asked d))) (ends : RunMeets EndsState (source_of p) input opts (j ++ act opts (source_of p).sites input j q t n asked) (world_after (source_of p) (act opts (source_of p).sites input j q t n asked) w t s) (more r o (acts q t n s asked d))) (finds : RunMeets (FindsAll (source_of p)) (source_of p) input opts (j ++ act opts (source_of p).sites input j q t n asked) (world_after (source_of p) (act opts (source_of p).sites input j q t n asked) w t s) (more r o (acts q t n s asked d))) (spares : RunMeets Spares (source_of p) input opts (j ++ act opts (source_of p).sites input j q t n asked) (world_after (source_of p) (act opts (source_of p).sites input j q t n asked) w t s) (more r o (acts q t n s asked d))) (on : is_over (j ++ act opts (source_of p).sites input j q t n asked) ≡ false) where
      abbrev a : List Entry
      a = act opts (source_of p).sites input j q t n asked

      abbrev after : World
      after = world_after (source_of p) (act opts (source_of p).sites input j q t n asked) w t s

      alive : has_ended t j ≡ false
      alive = law_alive opts (source_of p).sites input j (run_rests (source_of p) input opts range r fits.0 o).kernel o q t d.runs

      acting : (if t == t then bare s else if spawns a t then child_of (source_of p) (own_object t a) s else w.tasks t) ≡ bare s
      acting = ap (λ b. if b then bare s else if spawns a t then child_of (source_of p) (own_object t a) s else w.tasks t) (eq-eqb t t refl)

      module _ (c : ℕ) (e : asked.request ≡ ask.Gone c) where
        one : act opts (source_of p).sites input j q t n asked ≡ asking_entry kind.Gone q t (cost n asked.line) c (pos 0) (pos 0) ∷ []
        one = (going_row opts (source_of p).sites input j q t n asked on).0 ∙ ap (row opts (source_of p).sites input j q t (cost n asked.line) asked.line) e

        gone : is_gone c (j ++ act opts (source_of p).sites input j q t n asked) ≡ true
        gone =
            ap (λ l. is_gone c (j ++ l)) one ∙ (gone_push c j (asking_entry kind.Gone q t (cost n asked.line) c (pos 0) (pos 0)) ∙ (ap (λ b. is_gone c j || b) (eq-eqb c c refl) ∙ or_true (is_gone c j)))

        taken : takes_out (act opts (source_of p).sites input j q t n asked) c ≡ true
        taken = ap (λ l. takes_out l c) one ∙ ap (λ b. b || false) (eq-eqb c c refl)

        no_spawn : (z : ℕ) → spawns (act opts (source_of p).sites input j q t n asked) z ≡ false
        no_spawn z = ap (λ l. spawns l z) one

        others_at : (v : State) → UnlessMade (table_of p) few v j w t → (todo : List Todo) → (v.run.control ≡ GoneNow ∷ todo) ⊎ (v.run.control ≡ GiveUpNow ∷ todo) → OthersOf (table_of p) few v j w t (this_object v)
        others_at v h todo (inl i) = subst (λ l. UnlessMadeBy (table_of p) few v j w t l) i h
        others_at v h todo (inr i) = subst (λ l. UnlessMadeBy (table_of p) few v j w t l) i h

        bare_at : (v : State) → UnlessMade (table_of p) few v j w t → LetsGoAt c v s → IsBareBehind (table_of p) few j (act opts (source_of p).sites input j q t n asked) (world_after (source_of p) (act opts (source_of p).sites input j q t n asked) w t s) t c
        bare_at v h lets = record {
          bare = λ belongs m cs i.
              let others : OthersOf (table_of p) few v j w t c = subst (OthersOf (table_of p) few v j w t) (sym lets.object) (others_at v h lets.todo lets.lets_go) in
              let who : (if t == t then bare s else if spawns a t then child_of (source_of p) (own_object t a) s else w.tasks t).env.exec ≡ v.env.exec = ap (λ (y : State). y.env.exec) acting ∙ lets.exec in
              let was = behind (table_of p) (source_of p) j w t v s (act opts (source_of p).sites input j q t n asked) c lets alive no_spawn m cs i in
              let away : IsMadeFor m c → ⊥ = nobody_made (more r o (acts q t n s asked d)) fits alone ends finds spares on c gone (ap (λ b. if b then None else or_else (find c s.env.hand) (w.homes c)) taken) (λ z. nobodys v.env.exec (subst (λ k. Belongs few v.env.exec (few.home k)) z (subst (λ x. Belongs few x (few.home c)) who belongs))) m cs i in
              others (subst (λ x. Belongs few x (few.home c)) who belongs) m was.active was.lives away;
        }

      bare_by : (x : Request) → asked.request ≡ x → RideMeets (λ v. UnlessMade (table_of p) few v j w t) (source_of p) _ _ s n asked d.rides → GoesBy (IsBareBehind (table_of p) few) j (act opts (source_of p).sites input j q t n asked) (world_after (source_of p) (act opts (source_of p).sites input j q t n asked) w t s) t x
      bare_by (ask.Gone c) e h = by (last_at (λ v. UnlessMade (table_of p) few v j w t) d.rides h)
        where
          by : (asked.request ≡ ask.Slice) ⊎ ((v : State) × UnlessMade (table_of p) few v j w t × (quiet (source_of p) v ≡ Asks asked.request s)) → IsBareBehind (table_of p) few j (act opts (source_of p).sites input j q t n asked) (world_after (source_of p) (act opts (source_of p).sites input j q t n asked) w t s) t c
          by (inl f) = let z : ask.Gone c ≡ ask.Slice = sym e ∙ f in absurd (cc)
          by (inr (v, h, f)) = bare_at c e v h (law_asked_at (source_of p) v (ask.Gone c) s (f ∙ ap (λ (x : Request). Asks x s) e))
      bare_by x e h = tt

    pub run_bare : {j : Journal} {w : World} (r : Runs (source_of p) input opts j w) → RunFits (source_of p) input opts j w r → RunAlone (source_of p) input opts j w r → RunMeets EndsState (source_of p) input opts j w r → RunMeets (FindsAll (source_of p)) (source_of p) input opts j w r → RunMeets Spares (source_of p) input opts j w r → is_over j ≡ false → RunHoldsOnWay (λ j w u v. UnlessMade (table_of p) few v j w u) (source_of p) input opts r → RunGoes (IsBareBehind (table_of p) few) (source_of p) input opts r
    run_bare begun f al e n sp on h = tt
    run_bare (more r o (gives q t s le)) f al e n sp on h = (run_bare r f.0 al.0 e.0 n.0 sp.0 o h.0, tt)
    run_bare (more r o (no_room q t s le)) f al e n sp on h = (run_bare r f.0 al.0 e.0 n.0 sp.0 o h.0, tt)
    run_bare (more r o (acts q t k s asked d)) f al e n sp on h =
        (run_bare r f.0 al.0 e.0 n.0 sp.0 o h.0, bare_by r o q t k s asked d f al e n sp on asked.request refl h.1)
