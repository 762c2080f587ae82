-- Behind each act by which an object goes no activation is of it, but the one that let go of it.
use Rattle.std.proofs.Common.{◌≡◌, ℕ, ◌==◌, ◌⊎◌, inl, inr, Bool, true, false, List, [], ◌∷◌, ◌++◌, Option, Some, None, refl, sym, ap, ◌∙◌, subst, ⊎_elim, ◌||◌}
use Rattle.std.specs.Prelude.{if◌then◌else◌}
use Rattle.std.proofs.lemmas.Bool.{eqb-true, eq-eqb, cases_lt}
use Rattle.uc_tree.specs.Source.{Source}
use Rattle.uc_entry.specs.Keyed.{find}
use Rattle.uc_entry.specs.declared.entry.Entry.{Entry}
use Rattle.uc_entry.specs.declared.entry.Options.{Options}
use Rattle.uc_entry.specs.declared.request.Asked.{Asked}
use Rattle.uc_entry.specs.declared.request.Request.{Request}
use Rattle.uc_entry.specs.declared.request.Request.TheVariants as ask
use Rattle.uc_acts.specs.Journal.{Journal, is_over, cost}
use Rattle.uc_acts.specs.Acts.{act, row}
use Rattle.uc_acts.specs.Known.{has_ended, task_count, takes_out}
use Rattle.uc_acts.specs.KernelRuns.{InRange}
use Rattle.uc_acts.proofs.Living.{going_row}
use Rattle.uc_acts.proofs.SoundLemmas.{self_test}
use Rattle.uc_machine.specs.declared.exec.Exec.{Exec}
use Rattle.uc_machine.specs.declared.exec.Home.{Home}
use Rattle.uc_machine.specs.declared.exec.Home.TheVariants as home
use Rattle.uc_machine.specs.declared.exec.Stage.{Stage}
use Rattle.uc_machine.specs.declared.exec.Stage.TheVariants.{Fresh, Started, Ended}
use Rattle.uc_machine.specs.Executions.{Execution}
use Rattle.uc_machine.specs.Pieces as piece
use Rattle.uc_machine.specs.Pieces.{Value, Todo, Active, State, Members}
use Rattle.uc_meaning.specs.Runs.{World, May, Runs, world_after, or_else, gives, no_room, acts, begun, more}
use Rattle.uc_state_laws.specs.Fitting.{RunFits}
use Rattle.uc_state_laws.specs.Opens.{RunMeets}
use Rattle.uc_name_laws.proofs.Homes.{no_both}
use Rattle.uc_typing.specs.Typing.{Table}
use Rattle.uc_life_laws.specs.Things.{Few}
use Rattle.uc_life_laws.specs.Silent.{AllSilent}
use Rattle.uc_life_laws.specs.LifeStates.{SlotBy, ParkedBy, HandBy, MembersBy}
use Rattle.uc_life_laws.specs.Rooted.{InSlot, InParked, InMembers, Lives}
use Rattle.uc_life_laws.specs.Belonging.{Belongs}
use Rattle.uc_life_laws.proofs.OwnNamesLemmas.{law_own_names}
use Rattle.uc_rooted_runs.specs.FreshStates.{FreshBy, FreshEx, KeepsFresh}
use Rattle.uc_rooted_runs.specs.FreshRuns.{FreshWorld}
use Rattle.uc_rooted_runs.specs.MainRuns.{EndsMains}
use Rattle.uc_rooted_runs.specs.UnmarkedRuns.{IsLeft, LeftBehind, MayLeave, RunLeft}
use Rattle.uc_rooted_runs.proofs.FreshRuns.{run_fresh}
use Rattle.uc_rooted_runs.proofs.KeptRuns.{run_keeps}
use Rattle.uc_rooted_runs.proofs.MainRuns.{law_mains}
use Rattle.uc_rooted_runs.proofs.UnmarkedRuns.{law_unmarked_runs}
use Rattle.uc_making_laws.specs.OwnThis.{FindsThis}
use Rattle.uc_making_laws.specs.NoOthers.{NoThis}
use Rattle.uc_making_laws.specs.ForgetsThis.{GoesBy, MayGo, RunGoes, IsLeftNowhere, IsOwedNothing}
use Rattle.uc_making_laws.specs.LettingGo.{FindsTold}
use Rattle.uc_making_laws.specs.Nobodys.{NoneBy, NoneEx, IsNobodys, LawNobodys}
use Rattle.uc_making_laws.proofs.LettingRuns.{law_letting_runs}
use Rattle.uc_making_laws.proofs.ThisRuns.{law_this_runs}
use Rattle.uc_making_laws.proofs.ForgetsThis.{InWorlds, not_zero, alone, first_this, none_waits}

-- what is at home somewhere else than in the object: one that has begun lives, one that has not is of that in which it is at home
module _ (o : ℕ) (me : Exec) where
  abbrev Other : Exec → Execution (List Todo) Value → Type 0
  Other n y = n ≡ me → ⊥

  slot_none : (n : Exec) (s : Option (Execution (List Todo) Value)) → (n.home ≡ home.Object o → ⊥) → ((cs : List Active) → (n ≡ me → ⊥) → InSlot n cs n s → NoThis o cs) → SlotBy FreshEx n s → SlotBy Other n s → SlotBy (NoneEx o) n s
  slot_none n None away f k m = tt
  slot_none n (Some y) away f k m = by y.links.stage refl k
    where
      by : (g : Stage) → y.links.stage ≡ g → FreshBy g n y → NoneBy o g y
      by Fresh e k = ((λ i. away (k.this o i)), subst (NoThis o) (sym k.callers) tt)
      by Started e k = f (y.run ∷ y.callers) m (refl, refl, e)
      by Ended e k = tt

  parked_none : (h : Home) (ps : List (ℕ × Option (Execution (List Todo) Value))) → (h ≡ home.Object o → ⊥) → ((n : Exec) (cs : List Active) → (n ≡ me → ⊥) → InParked n cs h ps → NoThis o cs) → ParkedBy FreshEx h ps → ParkedBy Other h ps → ParkedBy (NoneEx o) h ps
  parked_none h [] away f k m = tt
  parked_none h (p ∷ ps) away f k m = (
    slot_none (record { home = h; serial = p.0 }) p.1 away (λ cs g i. f (record { home = h; serial = p.0 }) cs g (inl i)) k.0 m.0,
    parked_none h ps away (λ n cs g i. f n cs g (inr i)) k.1 m.1,
  )

task_apart : (q o : ℕ) → home.Task q ≡ home.Object o → ⊥
task_apart q o e = cc

same_object : (q o : ℕ) → home.Object q ≡ home.Object o → q ≡ o
same_object q o e = cc

module _ (t : Table) (few : Few) (zero : (n : Exec) → Belongs few n (few.home 0) → ⊥) where
  module _ (j : Journal) (a : List Entry) (x : World) (u o : ℕ) (h : IsLeft t few (j ++ a) x u o) (i : InWorlds t few x) (left : IsLeftNowhere t few j a x u o) (owed : IsOwedNothing j a x u o) (silent : AllSilent (x.tasks u).run.control) (w : FreshWorld (j ++ a) x) (out : x.homes o ≡ None) where
    abbrev me : Exec
    me = (x.tasks u).env.exec

    others : (n : Exec) (cs : List Active) → (n ≡ me → ⊥) → Lives (j ++ a) x n cs → NoThis o cs
    others n cs away l = alone t few zero j a x u o h i.this i.lets left owed silent n cs l away

    -- all activations of a task that runs elsewhere, if it is there already
    elsewhere : (v : ℕ) → has_ended v (j ++ a) ≡ false → (v == u) ≡ false → NoThis o ((x.tasks v).run ∷ (x.tasks v).callers)
    elsewhere v on e =
        ⊎_elim (λ lt. others (x.tasks v).env.exec ((x.tasks v).run ∷ (x.tasks v).callers) (λ q. no_both (v == u) (eq-eqb v u (h.name.running v lt q)) e) (inl (v, on, refl, refl))) (λ le. first_this t few zero j a x u o h i.this i.lets left owed silent v le) (cases_lt v (task_count (j ++ a)))

    waiting : (v : ℕ) → has_ended v (j ++ a) ≡ false → NoThis o (x.tasks v).callers
    waiting v on = by (v == u) refl
      where
        by : (c : Bool) → (v == u) ≡ c → NoThis o (x.tasks v).callers
        by true e = subst (λ q. has_ended q (j ++ a) ≡ false → NoThis o (x.tasks q).callers) (sym (eqb-true v u e)) (none_waits t few zero j a x u o h i.this i.lets left owed silent) on
        by false e = (elsewhere v on e).1

    running : (v : ℕ) → has_ended v (j ++ a) ≡ false → ((x.tasks v).run.this ≡ piece.Object o → ⊥) ⊎ AllSilent (x.tasks v).run.control
    running v on = by (v == u) refl
      where
        by : (c : Bool) → (v == u) ≡ c → ((x.tasks v).run.this ≡ piece.Object o → ⊥) ⊎ AllSilent (x.tasks v).run.control
        by true e = inr (subst (λ q. AllSilent (x.tasks q).run.control) (sym (eqb-true v u e)) silent)
        by false e = inl (elsewhere v on e).0

    homes : (q : ℕ) (m : Option Members) → x.homes q ≡ m → MembersBy FreshEx (home.Object q) m → MembersBy (Other o me) (home.Object q) m → MembersBy (NoneEx o) (home.Object q) m
    homes q None e f k = tt
    homes q (Some m) e f k =
        parked_none o me (home.Object q) m.parked (λ g. let both : Some m ≡ None = sym e ∙ (ap x.homes (same_object q o g) ∙ out) in absurd (cc)) (λ n cs away l. others n cs away (inr (inr (q, subst (InMembers n cs (home.Object q)) (sym e) l)))) f k

    nobodys : IsNobodys j a x u o
    nobodys = record {
      number = not_zero t few zero j a x u o h i.this i.lets left owed silent;
      waiting = waiting;
      running = running;
      elsewhere = λ v on e. (elsewhere v on e).0;
      tasks = λ v. record {
        house = parked_none o me (home.Task (x.tasks v).env.own) (x.tasks v).env.house.parked (task_apart (x.tasks v).env.own o) (λ n cs away l. others n cs away (inr (inl (v, inl l)))) (w.tasks v).slots.house (h.name.tasks v).house;
        hand = subst (HandBy (NoneEx o)) (sym (w.bare v)) tt;
      };
      homes = λ q. homes q (x.homes q) refl (w.homes q) (h.name.homes q);
    }

  module _ (source : Source) (input : List ℕ) (opts : Options) where
    -- what an act takes out is gone
    is_out : (j : Journal) (w : World) (p n k : ℕ) (s : State) (asked : Asked) (on : is_over (j ++ act opts source.sites input j p n k asked) ≡ false) (o : ℕ) → asked.request ≡ ask.Gone o → (world_after source (act opts source.sites input j p n k asked) w n s).homes o ≡ None
    is_out j w p n k s asked on o e =
        let one = (going_row opts source.sites input j p n k asked on).0 ∙ ap (row opts source.sites input j p n (cost k asked.line) asked.line) e in
        let taken : takes_out (act opts source.sites input j p n k asked) o ≡ true = ap (λ l. takes_out l o) one ∙ ap (λ b. b || false) (self_test o) in
        ap (λ b. if b then None else or_else (find o s.env.hand) (w.homes o)) taken

    nobodys_by : (j : Journal) (a : List Entry) (x : World) (u : ℕ) (q : Request) → ((o : ℕ) → q ≡ ask.Gone o → x.homes o ≡ None) → LeftBehind t few (j ++ a) x u q → InWorlds t few x → FreshWorld (j ++ a) x → GoesBy (IsLeftNowhere t few) j a x u q → GoesBy IsOwedNothing j a x u q → GoesBy (λ j a x u o. AllSilent (x.tasks u).run.control) j a x u q → GoesBy IsNobodys j a x u q
    nobodys_by j a x u (ask.Gone o) out h i f left owed silent = nobodys j a x u o h i left owed silent f (out o refl)
    nobodys_by j a x u q out h i f left owed silent = tt

    may_nobodys : {j : Journal} {w : World} {a : List Entry} {x : World} (m : May source opts input j w a x) → is_over (j ++ a) ≡ false → InWorlds t few x → FreshWorld (j ++ a) x → MayLeave t few source opts input j w a x m → MayGo (IsLeftNowhere t few) source input opts m → MayGo IsOwedNothing source input opts m → MayGo (λ j a x u o. AllSilent (x.tasks u).run.control) source input opts m → MayGo IsNobodys source input opts m
    may_nobodys (gives p n v le) on i f h left owed silent = tt
    may_nobodys (no_room p n v le) on i f h left owed silent = tt
    may_nobodys {j} {w} (acts p n k v asked d) on i f h left owed silent =
        nobodys_by j (act opts source.sites input j p n k asked) (world_after source (act opts source.sites input j p n k asked) w n v) n asked.request (λ o e. is_out j w p n k v asked on o e) h i f left owed silent

    run_nobodys : {j : Journal} {w : World} (r : Runs source input opts j w) → InRange opts → RunFits source input opts j w r → is_over j ≡ false → RunMeets (KeepsFresh source) source input opts j w r → RunMeets (FindsThis t few source) source input opts j w r → RunMeets (FindsTold t few source) source input opts j w r → RunLeft t few source input opts j w r → RunGoes (IsLeftNowhere t few) source input opts r → RunGoes IsOwedNothing source input opts r → RunGoes (λ j a x u o. AllSilent (x.tasks u).run.control) source input opts r → RunGoes IsNobodys source input opts r
    run_nobodys begun range fits on fresh this lets h left owed silent = tt
    run_nobodys {j} {w} (more r o m) range fits on fresh this lets h left owed silent = (
      run_nobodys r range fits.0 o fresh.0 this.0 lets.0 h.0 left.0 owed.0 silent.0,
      may_nobodys m on (record { this = (law_this_runs t few source input opts j w (more r o m) this).world on; lets = (law_letting_runs t few source input opts j w (more r o m) lets).world on }) (run_fresh source input opts range (more r o m) fits on fresh) h.1 left.1 owed.1 silent.1,
    )

pub law_nobodys : LawNobodys
law_nobodys t few source input opts j w r range fits on zero binds mains finds leaves spares puts calls told left owed =
    let ends : RunMeets (EndsMains source) source input opts j w r = law_mains.runs source input opts j w r mains in
    let owns = (law_own_names source input opts j w r range fits on leaves spares).rides in
    run_nobodys t few zero source input opts r range fits on (run_keeps source input opts j w r binds ends finds owns) calls told (law_unmarked_runs t few source input opts j w r range fits on leaves spares puts) left owed (law_letting_runs t few source input opts j w r told).gone
