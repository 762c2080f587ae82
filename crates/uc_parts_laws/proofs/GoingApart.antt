-- In runs of programs what goes is no element that stands of an array of mutex objects.
use Rattle.std.proofs.Common.{◌≡◌, ℕ, ◌<◌, ◌≤◌, ◌==◌, ◌||◌, ◌⊎◌, inl, inr, ⊎_elim, Bool, true, false, List, [], ◌∷◌, ◌++◌, refl, sym, ap, ◌∙◌, subst}
use Rattle.std.specs.Prelude.{if◌then◌else◌, pos}
use Rattle.std.proofs.lemmas.Bool.{eqb-true, cases_lt}
use Rattle.uc_tree.specs.Programs.{Program}
use Rattle.uc_tree.specs.Source.{Source, routine_of}
use Rattle.uc_entry.specs.declared.entry.Entry.{Entry}
use Rattle.uc_entry.specs.declared.entry.EntryKind.TheVariants as kind
use Rattle.uc_entry.specs.declared.entry.Options.{Options}
use Rattle.uc_entry.specs.declared.request.Asked.{Asked}
use Rattle.uc_entry.specs.declared.request.Request.{Request}
use Rattle.uc_entry.specs.declared.request.Request.TheVariants as ask
use Rattle.uc_acts.specs.Journal.{Journal, is_over, asking, cost, own_object}
use Rattle.uc_acts.specs.Known.{is_gone, takes_object, task_count, spawns}
use Rattle.uc_acts.specs.Acts.{act, row, lone_limit}
use Rattle.uc_acts.specs.KernelRuns.{InRange}
use Rattle.uc_acts.proofs.Bounds.{over_limit}
use Rattle.uc_acts.proofs.Living.{going_row}
use Rattle.uc_acts.proofs.Counted.{gone_push}
use Rattle.uc_acts.proofs.SoundLemmas.{self_test}
use Rattle.uc_answer_laws.proofs.Told.{no_both}
use Rattle.uc_machine.specs.declared.exec.Exec.{Exec}
use Rattle.uc_machine.specs.declared.exec.Home.TheVariants as home
use Rattle.uc_machine.specs.declared.exec.Owner.TheVariants.{Frame}
use Rattle.uc_machine.specs.Pieces.{Link, Value, Number, Place, Running, Object, Nothing, Active, State, Asks, GoneNow, GiveUpNow, object_in}
use Rattle.uc_machine.specs.Quiet.{quiet, first_state}
use Rattle.uc_machine.specs.Answering.{answered, child_of}
use Rattle.uc_machine.specs.Rides as rides
use Rattle.uc_machine.specs.Rides.{Rides}
use Rattle.uc_meaning.specs.Runs.{World, Runs, gives, no_room, acts, begun, more, bare, drawn, world_after}
use Rattle.uc_resolve.specs.Resolve.{source_of}
use Rattle.uc_rules.specs.Breaks.{breaks_of}
use Rattle.uc_sound.specs.SoundFormed.{IsFormed}
use Rattle.uc_sound.specs.Tables.{table_of}
use Rattle.uc_state_laws.specs.Fitting.{RunFits}
use Rattle.uc_state_laws.specs.Opens.{RideMeets, RunMeets}
use Rattle.uc_state_laws.proofs.Others.{run_rests}
use Rattle.uc_state_laws.proofs.StackWorlds.{law_frame_runs}
use Rattle.uc_state_laws.proofs.Unreferring.{law_accepted}
use Rattle.uc_life_laws.specs.Things.{Few}
use Rattle.uc_life_laws.specs.Belonging.{Belongs, frame}
use Rattle.uc_life_laws.proofs.Laying.{laid_out}
use Rattle.uc_life_laws.proofs.Own.{law_own}
use Rattle.uc_life_laws.proofs.OwnNamesLemmas.{run_first}
use Rattle.uc_putting_laws.specs.Seats.{NotStanding}
use Rattle.uc_putting_laws.specs.Putting.{PutState}
use Rattle.uc_putting_laws.specs.PuttingLaws.{setting_of, Fair}
use Rattle.uc_putting_laws.specs.ApartElements.{IsApart, GoesApartAt}
use Rattle.uc_putting_laws.proofs.ApartElements.{law_apart_elements}
use Rattle.uc_putting_laws.proofs.Routines.{law_calling}
use Rattle.uc_putting_laws.proofs.PuttingRuns.{code_of}
use Rattle.uc_putting_laws.proofs.Worlds.{Stands, PutWorld, goes, ticks, start, run_put}
use Rattle.uc_place_laws.specs.OlderResting.{AllWait}
use Rattle.uc_rooted_runs.specs.UnmarkedRuns.{IsLeft, LeftBehind, RunLeft}
use Rattle.uc_parts_laws.specs.PartStates.{PartsState, InParts}
use Rattle.uc_parts_laws.specs.PartsRuns.{parts_of}
use Rattle.uc_parts_laws.specs.Standing.{StandingFrom, StandingState}
use Rattle.uc_parts_laws.specs.StandingRuns.{told_by, StandingWorld, GoesApart, RunGoesApart}
use Rattle.uc_parts_laws.specs.GoingApart.{LetsGo, LawGoesApart}
use Rattle.uc_parts_laws.proofs.StandingWalk.{law_standing}
use Rattle.uc_parts_laws.proofs.StandingApart.{from_apart, env_away, members_away, from_away}

-- what goes as an entry stands
one_goes : (u o : ℕ) (j : Journal) (e : Entry) → e.kind ≡ kind.Gone → e.object ≡ o → is_gone u j ≡ false → is_gone u (j ++ e ∷ []) ≡ true → u ≡ o
one_goes u o j e k q f g =
    let both : (is_gone u j || takes_object e.kind e u) ≡ true = sym (gone_push u j e) ∙ g in
    let taken : takes_object e.kind e u ≡ true = ap (λ b. b || takes_object e.kind e u) (sym f) ∙ both in
    let it : takes_object kind.Gone e u ≡ true = ap (λ x. takes_object x e u) (sym k) ∙ taken in
    eqb-true u e.object it ∙ q

-- what lets go of it, at home in its frame or in elements that stand
module _ (few : Few) (nobodys : (n : Exec) → Belongs few n (few.home 0) → ⊥) (o : ℕ) where
  -- in the last state before that is asked
  pub record Goes (n : Exec) (a : Active) (cs : List Active) : Type 0 where
    pub none : (p : List Link) → few.home o ≡ Place (Frame n a.frame) p → ⊥
    pub older : NotStanding n (few.home o) cs

  this_object : (n : Exec) (v : Value) → o ≡ object_in v → Belongs few n (few.home o) → v ≡ Object o
  this_object n (Number z) e h = absurd (nobodys n (subst (λ k. Belongs few n (few.home k)) e h))
  this_object n (Place u p) e h = absurd (nobodys n (subst (λ k. Belongs few n (few.home k)) e h))
  this_object n (Running x) e h = absurd (nobodys n (subst (λ k. Belongs few n (few.home k)) e h))
  this_object n (Object k) e h = ap Object (sym e)
  this_object n Nothing e h = absurd (nobodys n (subst (λ k. Belongs few n (few.home k)) e h))

  goes_at : (v : State) (u : State) → LetsGo o v u → GoesApartAt few v.run.control v → Belongs few v.env.exec (few.home o) → Goes v.env.exec v.run v.callers
  goes_at v u l h b =
      let x : IsApart few v = apart l.lets_go in
      let y = x o (this_object v.env.exec v.run.this l.object b) in
      record { none = y.0; older = y.1 }
    where
      apart : (v.run.control ≡ GoneNow ∷ l.todo) ⊎ (v.run.control ≡ GiveUpNow ∷ l.todo) → IsApart few v
      apart (inl e) = subst (λ c. GoesApartAt few c v) e h
      apart (inr e) = subst (λ c. GoesApartAt few c v) e h

module _ (p : Program) (formed : IsFormed p) (accepted : breaks_of p ≡ []) (few : Few) (nobodys : (n : Exec) → Belongs few n (few.home 0) → ⊥) (asks : (s : State) (o : ℕ) (u : State) → quiet (source_of p) s ≡ Asks (ask.Gone o) u → LetsGo o s u) (homes : ℕ → Value) (input : List ℕ) (opts : Options) (range : InRange opts) where
  abbrev source : Source
  source = source_of p

  -- the last state of a ride, in which it is asked
  record Last (o : ℕ) (u : State) : Type 0 where
    state : State
    put : PutState (setting_of p few) state
    parts : PartsState (parts_of p homes) state
    goes : LetsGo o state u

  last : (o : ℕ) {s u : State} {q k : ℕ} {a : Asked} (d : Rides source s q u k a) → a.request ≡ ask.Gone o → RideMeets (Fair (setting_of p few)) source s q u k a d → RideMeets (PartsState (parts_of p homes)) source s q u k a d → Stands p (setting_of p few) s → Last o u
  last o rides.slices e f l n = let x : ask.Slice ≡ ask.Gone o = e in absurd (cc)
  last o (rides.goes_on {s} {t} z r) e f l n =
      last o r e f.1 l.1 (goes p (setting_of p few) (laid_out p formed accepted) (law_accepted p accepted) (code_of p formed accepted few) s t z n f.0)
  last o (rides.ticks {s} {t} z r) e f l n =
      last o r e f.1 l.1 (ticks p (setting_of p few) (laid_out p formed accepted) (law_accepted p accepted) (code_of p formed accepted few) s t z n f.0)
  last o (rides.asks {s} {t = u} z) e f l n =
      record { state = s; put = n.put; parts = l; goes = asks s o u (z ∙ ap (λ r. Asks r u) e) }

  module _ (j : Journal) (w : World) (q t k : ℕ) (s : State) (asked : Asked) (on : is_over (j ++ act opts source.sites input j q t k asked) ≡ false) (o : ℕ) (e : asked.request ≡ ask.Gone o) where
    abbrev a : List Entry
    a = act opts source.sites input j q t k asked

    abbrev x : World
    x = world_after source a w t s

    only : (v : ℕ) → is_gone v j ≡ false → (v ≡ o → ⊥) → is_gone v (j ++ a) ≡ false
    only v f other_one = by (is_gone v (j ++ a)) refl
      where
        one : a ≡ asking kind.Gone q t (cost k asked.line) o (pos 0) (pos 0) ∷ []
        one = (going_row opts source.sites input j q t k asked on).0 ∙ ap (row opts source.sites input j q t (cost k asked.line) asked.line) e

        by : (b : Bool) → is_gone v (j ++ a) ≡ b → is_gone v (j ++ a) ≡ false
        by true g =
            absurd (other_one (one_goes v o j (asking kind.Gone q t (cost k asked.line) o (pos 0) (pos 0)) refl refl f (ap (λ l. is_gone v (j ++ l)) (sym one) ∙ g)))
        by false g = g

    module _ (left : IsLeft (table_of p) few (j ++ a) x t o) (later : (v : ℕ) → task_count (j ++ a) ≤ v → x.tasks v ≡ first_state (routine_of source source.main) 0) (z : Last o s) where
      abbrev me : Exec
      me = (x.tasks t).env.exec

      same : x.tasks t ≡ bare s
      same = ap (λ (b : Bool). if b then bare s else if spawns a t then child_of source (own_object t a) s else w.tasks t) (self_test t)

      mine : me ≡ z.state.env.exec
      mine = ap (λ (v : State). v.env.exec) same ∙ z.goes.exec

      elsewhere : (n : Exec) → (n ≡ me → ⊥) → (d : ℕ) (l : List Link) → few.home o ≡ Place (Frame n d) l → ⊥
      elsewhere n f d l h = f (law_own few n me (few.home o) (subst (Belongs few n) (sym h) (frame refl)) left.belongs)

      abbrev New : State → Type 0
      New v = StandingState (told_by few.home (j ++ a)) v

      abbrev Old : State → Type 0
      Old v = StandingState (told_by few.home j) v

      own : Old (x.tasks t) → New (x.tasks t)
      own h = record { frames = h.frames; stack = stack; env = env_away few.home j (j ++ a) o only me elsewhere (x.tasks t).env (left.name.tasks t) h.env }
        where
          run : (x.tasks t).run ≡ record z.state.run { control = z.goes.todo }
          run = ap (λ (v : State). v.run) same ∙ z.goes.run

          callers : (x.tasks t).callers ≡ z.state.callers
          callers = ap (λ (v : State). v.callers) same ∙ z.goes.callers

          apart : Goes few nobodys o z.state.env.exec z.state.run z.state.callers
          apart =
              goes_at few nobodys o z.state s z.goes (law_apart_elements (setting_of p few) z.state z.put) (subst (λ n. Belongs few n (few.home o)) mine left.belongs)

          none : (l : List Link) → few.home o ≡ Place (Frame me (x.tasks t).run.frame) l → ⊥
          none l h =
              apart.none l (h ∙ (ap (λ n. Place (Frame n (x.tasks t).run.frame) l) mine ∙ ap (λ (r : Active). Place (Frame z.state.env.exec r.frame) l) run))

          waits : AllWait (InParts (parts_of p homes)) (InParts (parts_of p homes)) me (x.tasks t).callers
          waits =
              subst (λ n. AllWait (InParts (parts_of p homes)) (InParts (parts_of p homes)) n (x.tasks t).callers) (sym mine) (subst (AllWait (InParts (parts_of p homes)) (InParts (parts_of p homes)) z.state.env.exec) (sym callers) z.parts.callers)

          older : NotStanding me (few.home o) (x.tasks t).callers
          older =
              subst (λ n. NotStanding n (few.home o) (x.tasks t).callers) (sym mine) (subst (NotStanding z.state.env.exec (few.home o)) (sym callers) apart.older)

          stack : StandingFrom (told_by few.home (j ++ a)) me (x.tasks t).env.frames (x.tasks t).run (x.tasks t).callers
          stack =
              from_apart few.home j (j ++ a) o only (parts_of p homes) me (x.tasks t).env.frames (x.tasks t).run (x.tasks t).callers none waits older h.stack

      other : (u : ℕ) → (u ≡ t → ⊥) → Old (x.tasks u) → New (x.tasks u)
      other u f h = ⊎_elim known unknown (cases_lt u (task_count (j ++ a)))
        where
          known : u < task_count (j ++ a) → New (x.tasks u)
          known lt = record {
            frames = h.frames;
            stack = from_away few.home j (j ++ a) o only (x.tasks u).env.exec (elsewhere (x.tasks u).env.exec (λ e. f (left.name.running u lt e))) (x.tasks u).env.frames (x.tasks u).run (x.tasks u).callers h.stack;
            env = env_away few.home j (j ++ a) o only me elsewhere (x.tasks u).env (left.name.tasks u) h.env;
          }

          unknown : task_count (j ++ a) ≤ u → New (x.tasks u)
          unknown le = subst New (sym (later u le)) (law_standing.begins (told_by few.home (j ++ a)) source source.main 0)

      task : (u : ℕ) → Old (x.tasks u) → New (x.tasks u)
      task u h = by (u == t) refl
        where
          by : (b : Bool) → (u == t) ≡ b → New (x.tasks u)
          by true e = let i : u ≡ t = eqb-true u t e in subst (λ v. New (x.tasks v)) (sym i) (own (subst (λ v. Old (x.tasks v)) i h))
          by false e = other u (λ i. no_both (u == t) (ap (λ v. v == t) i ∙ self_test t) e) h

      world : StandingWorld (told_by few.home j) x → StandingWorld (told_by few.home (j ++ a)) x
      world h = record {
        tasks = λ u. task u (h.tasks u);
        homes = λ v. members_away few.home j (j ++ a) o only me elsewhere (home.Object v) (x.homes v) (left.name.homes v) (h.homes v);
      }

  -- behind an act
  behind : (j : Journal) (w : World) (q t k : ℕ) (s : State) (asked : Asked) → is_over (j ++ act opts source.sites input j q t k asked) ≡ false → (r : Request) → asked.request ≡ r → LeftBehind (table_of p) few (j ++ act opts source.sites input j q t k asked) (world_after source (act opts source.sites input j q t k asked) w t s) t r → ((v : ℕ) → task_count (j ++ act opts source.sites input j q t k asked) ≤ v → (world_after source (act opts source.sites input j q t k asked) w t s).tasks v ≡ first_state (routine_of source source.main) 0) → ((o : ℕ) → asked.request ≡ ask.Gone o → Last o s) → GoesApart few.home j (j ++ act opts source.sites input j q t k asked) (world_after source (act opts source.sites input j q t k asked) w t s) r
  behind j w q t k s asked on (ask.Gone o) e left later z = world j w q t k s asked on o e left later (z o e)
  behind j w q t k s asked on r e left later z = tt

  run_apart : {j : Journal} {w : World} (r : Runs source input opts j w) → RunFits source input opts j w r → is_over j ≡ false → RunLeft (table_of p) few source input opts j w r → RunMeets (Fair (setting_of p few)) source input opts j w r → RunMeets (PartsState (parts_of p homes)) source input opts j w r → RunGoesApart few.home source input opts j w r
  run_apart begun fits on left f l = tt
  run_apart (more r o (gives q t s le)) fits on left f l = (run_apart r fits.0 o left.0 f.0 l.0, tt)
  run_apart (more {j} r o (no_room q t s le)) fits on left f l = no_both (is_over (j ++ lone_limit ∷ [])) (over_limit j 0 0) on
  run_apart (more {j} {w} r o (acts q t n s asked d)) fits on left f l =
      let placed : PutWorld (setting_of p few) j w = (run_put p accepted few (laid_out p formed accepted) (law_calling p formed accepted).main (code_of p formed accepted few) input opts range r fits.0 f.0).0 o in
      let first : Stands p (setting_of p few) (answered source d.given (drawn j w t)) = start p accepted few (laid_out p formed accepted) (law_calling p formed accepted).main (code_of p formed accepted few) input opts range (run_rests source input opts range r fits.0 o) o placed (law_frame_runs p accepted input opts j w r) q t d.given d.runs d.told in (
        run_apart r fits.0 o left.0 f.0 l.0,
        behind j w q t n s asked on asked.request refl left.1 (run_first source input opts range (more r o (acts q t n s asked d)) fits on) (λ o e. last o d.rides e f.1 l.1 first),
      )

pub law_goes_apart : LawGoesApart
law_goes_apart p formed accepted few nobodys asks input opts range j w r fits on left fair homes parts =
    run_apart p formed accepted few nobodys asks homes input opts range r fits on left fair parts
