-- Where the scope of a mutex object that is a variable opens, the variable holds an object that was made, is at home there, and has not gone.
use Rattle.std.proofs.Common.{◌≡◌, ℕ, ◌<◌, ◌⊎◌, inl, inr, Bool, true, false, List, [], ◌∷◌, ◌++◌, refl, sym, ap, ◌∙◌, subst}
use Rattle.std.specs.Prelude.{nat_lt, slice_get, is_some, drop, if◌then◌else◌}
use Rattle.std.proofs.lemmas.Bool.{lt-ltb, ltb-true}
use Rattle.uc_tree.specs.Programs.{Program}
use Rattle.uc_tree.specs.Source as src
use Rattle.uc_entry.specs.declared.entry.Options.{Options}
use Rattle.uc_acts.specs.Journal.{Journal, is_over}
use Rattle.uc_acts.specs.Acts.{lone_limit}
use Rattle.uc_acts.specs.Known.{has_ended, is_gone}
use Rattle.uc_acts.specs.KernelRuns.{InRange}
use Rattle.uc_acts.proofs.Bounds.{over_limit}
use Rattle.uc_machine.specs.declared.exec.Exec.{Exec}
use Rattle.uc_machine.specs.declared.exec.Owner.{Owner}
use Rattle.uc_machine.specs.Pieces as piece
use Rattle.uc_machine.specs.Pieces.{Link, Value, Place, Nothing, Todo, State, top, below, variable_at}
use Rattle.uc_machine.specs.Answering.{answered}
use Rattle.uc_meaning.specs.Runs.{World, Runs, drawn, gives, no_room, acts, begun, more}
use Rattle.uc_resolve.specs.Resolve.{source_of}
use Rattle.uc_rules.specs.Breaks.{breaks_of}
use Rattle.uc_name_laws.proofs.Homes.{no_both}
use Rattle.uc_sound.specs.SoundFormed.{IsFormed}
use Rattle.uc_sound.specs.Tables.{table_of}
use Rattle.uc_source_laws.specs.SourceLaws.{part_of}
use Rattle.uc_state_laws.specs.Counted.{params}
use Rattle.uc_state_laws.specs.Fitting.{RunFits}
use Rattle.uc_state_laws.specs.Limits.{IsWithinLimits}
use Rattle.uc_state_laws.specs.RoomRuns.{Comes}
use Rattle.uc_state_laws.specs.ThereStates.{SourceBegins}
use Rattle.uc_state_laws.specs.Opens.{RideMeets, RunMeets, LeadsMeet}
use Rattle.uc_state_laws.proofs.Alive.{law_alive}
use Rattle.uc_state_laws.proofs.Others.{run_rests}
use Rattle.uc_state_laws.proofs.Unreferring.{law_accepted}
use Rattle.uc_state_laws.proofs.ValueWorlds.{law_fair as law_values}
use Rattle.uc_depth_laws.specs.Owing.{Tests, IsInside, Deep}
use Rattle.uc_inner_laws.specs.Standing.{Ok, StandsState}
use Rattle.uc_typing.specs.Typing.{Obj, Table}
use Rattle.uc_life_laws.specs.Things.{Few, IsFew}
use Rattle.uc_life_laws.specs.Knowing.{KnowsState}
use Rattle.uc_life_laws.specs.Lasting.{RunMeetsAt}
use Rattle.uc_life_laws.specs.Lives.{Lives, LivesState}
use Rattle.uc_life_laws.proofs.KindsLemmas.{plain}
use Rattle.uc_life_laws.specs.MadeObjects.{Binds, BindsAt}
use Rattle.uc_making_laws.specs.ForgetsThis.{RunGoes}
use Rattle.uc_making_laws.specs.Nobodys.{IsNobodys}
use Rattle.uc_putting_laws.specs.Putting.{IsHome}
use Rattle.uc_homed_ends.specs.BoundHomes.{CallMutex}
use Rattle.uc_homed_ends.specs.BoundLaws.{SetsAt, Finds, OpensSetAt, OpensSet}
use Rattle.uc_homed_ends.proofs.BoundRuns.{FoundAt, Known, known, call_more, opens_set, rides_meet, leads_meet, ride_zip, leads_zip}
use Rattle.uc_lasting_programs.proofs.BoundFirst.{binds_inside}
use Rattle.uc_lasting_programs.proofs.Frees.{Holds}
use Rattle.uc_lasting_programs.proofs.FreesRuns.{IsFree}
use Rattle.uc_lasting_programs.proofs.SetStates.{SetOnWay, goes_on as may_go_on}
use Rattle.uc_lasting_programs.proofs.SetRuns.{by_then, SetWorld, set_begun, set_given, set_acted, start, ridden, led}

-- homes of the first so many objects
abbrev pub made_homes : ℕ → (ℕ → Value) → ℕ → Value
made_homes many homes o = if nat_lt o many then homes o else Nothing

place_there : (b : Bool) (u : Value) (o : Owner) (l : List Link) → (if b then Nothing else u) ≡ Place o l → (b ≡ false) × (u ≡ Place o l)
place_there true u o l e = absurd (cc)
place_there false u o l e = (refl, e)

place_made : (b : Bool) (u : Value) (o : Owner) (l : List Link) → (if b then u else Nothing) ≡ Place o l → b ≡ true
place_made true u o l e = refl
place_made false u o l e = absurd (cc)

-- what is at home at a place by homes of those that have not gone has such a number as what was made and has not gone
pub set_few : (homes : ℕ → Value) (many : ℕ) (t : Table) (few : Few) (n : Exec) (j : Journal) → ((c i : ℕ) → i < many → is_gone i j ≡ false → few.numbers (Obj c) i ≡ true) → (c : ℕ) (v : Value) (o : Owner) (l : List Link) → IsHome (by_then (made_homes many homes) j) v (Place o l) → IsFew t few n (Obj c) v
set_few homes many t few n j made c v o l h =
    let x = place_there (is_gone h.number j) (made_homes many homes h.number) o l h.home in
    let lt : h.number < many = ltb-true h.number many (place_made (nat_lt h.number many) (homes h.number) o l x.1) in
    subst (λ (u : Value). IsFew t few n (Obj c) u) (sym h.object) (made c h.number lt x.0)

-- what is known of a state in which something may be bound next
pub record KnownThere (p : Program) (i : Journal) (homes : ℕ → Value) (many : ℕ) (s : State) : Type 0 where
  pub few : Few
  pub knows : KnowsState (table_of p) few [] s
  pub own : ℕ
  pub news : Tests
  pub deep : Deep (source_of p) news s
  pub stands : StandsState (part_of p) (source_of p) own s
  pub inside : (o : ℕ) → IsInside o s.env → is_gone o i ≡ false
  pub binds : Binds (source_of p) homes many s

module _ (p : Program) (formed : IsFormed p) (ok : breaks_of p ≡ []) (within : IsWithinLimits p) (homes : ℕ → Value) (many : ℕ) where
  abbrev Homes : ℕ → Value
  Homes = made_homes many homes

  there_by : (o : ℕ) (place : Value) (i : Journal) → o < many → is_gone o i ≡ false → homes o ≡ place → (by_then (made_homes many homes) i).home o ≡ place
  there_by o place i lt g e =
      ap (λ (b : Bool). if b then Nothing else made_homes many homes o) g ∙ (ap (λ (b : Bool). if b then homes o else Nothing) (lt-ltb o many lt) ∙ e)

  -- each step finds what keeps it so

  module _ (i : Journal) (s : State) (k : KnownThere p i homes many s) where
    exists : (n r : ℕ) (todo : List Todo) → s.run.control ≡ piece.BindMadeNow n r ∷ todo → is_some (slice_get (source_of p).routines r) ≡ true
    exists n r todo e = (subst (Ok (part_of p) (source_of p) k.stands.run.base k.stands.run.marks) e k.stands.run.ok).0.2

    -- what is bound
    bound : (n r : ℕ) (todo : List Todo) → s.run.control ≡ piece.BindMadeNow n r ∷ todo → BindsAt (source_of p) homes many (piece.BindMadeNow n r ∷ todo) s → FoundAt (source_of p) (piece.BindMadeNow n r ∷ todo) s → SetsAt (by_then (made_homes many homes) i) (source_of p) (piece.BindMadeNow n r ∷ todo) s
    bound n r todo e b f = by todo refl f
      where
        home_there : (q : ℕ) (rest : List Todo) → (todo ≡ piece.CallOnNow q ∷ rest) ⊎ (todo ≡ piece.CallUnwrittenNow q ∷ rest) → (m : ℕ) → top (drop (params (source_of p) r) (below s.run.operands)) ≡ variable_at m s → IsHome (by_then (made_homes many homes) i) (top s.run.operands) (variable_at m s)
        home_there q rest call m h =
            let g : is_gone b.number i ≡ false = k.inside b.number (binds_inside p formed ok k.few k.news s k.knows k.deep n r todo e (exists n r todo e) q rest call b.number b.object) in
            record { number = b.number; object = b.object; home = there_by b.number (variable_at m s) i b.made g (b.home ∙ h) }

        by : (l : List Todo) → todo ≡ l → CallMutex (λ m. top (drop (params (source_of p) r) (below s.run.operands)) ≡ variable_at m s) l → CallMutex (λ m. IsHome (by_then (made_homes many homes) i) (top s.run.operands) (variable_at m s)) l
        by (piece.CallOnNow q ∷ rest) c h = call_more (λ m. top (drop (params (source_of p) r) (below s.run.operands)) ≡ variable_at m s) (λ m. IsHome (by_then (made_homes many homes) i) (top s.run.operands) (variable_at m s)) (home_there q rest (inl c)) (piece.CallOnNow q ∷ rest) h
        by (piece.CallUnwrittenNow q ∷ rest) c h = call_more (λ m. top (drop (params (source_of p) r) (below s.run.operands)) ≡ variable_at m s) (λ m. IsHome (by_then (made_homes many homes) i) (top s.run.operands) (variable_at m s)) (home_there q rest (inr c)) (piece.CallUnwrittenNow q ∷ rest) h
        by l c h = tt

    pub finds_set : Known p s → Finds (by_then (made_homes many homes) i) (source_of p) s
    finds_set h = record { fair = h.fair; puts = h.puts; sets = by s.run.control refl h.found k.binds }
      where
        by : (l : List Todo) → s.run.control ≡ l → FoundAt (source_of p) l s → BindsAt (source_of p) homes many l s → SetsAt (by_then (made_homes many homes) i) (source_of p) l s
        by (piece.BindMadeNow n r ∷ todo) e f b = bound n r todo e b f
        by (piece.Rest (src.Then a ss) ∷ todo) e f b = f
        by l e f b = tt

  -- of a run, by what is known in its states

  module _ (few : Journal → Few) where
    known_by : (i : Journal) (s : State) → Holds p formed ok i s → LivesState (table_of p) (few i) s × Binds (source_of p) homes many s → KnownThere p i homes many s
    known_by i s h k = record { few = few i; knows = plain (table_of p) (few i) (Lives (table_of p) (few i)) [] s k.0.0; own = h.own; news = h.news; deep = h.deep; stands = h.stands; inside = h.inside; binds = k.1 }

    pub run_known : {input : List ℕ} {opts : Options} {j : Journal} {w : World} (r : Runs (source_of p) input opts j w) → RunMeetsAt (λ i s. Holds p formed ok i s) (source_of p) input opts j w r → RunMeetsAt (λ i s. LivesState (table_of p) (few i) s) (source_of p) input opts j w r → RunMeets (Binds (source_of p) homes many) (source_of p) input opts j w r → RunMeetsAt (λ i s. KnownThere p i homes many s) (source_of p) input opts j w r
    run_known begun h l b = tt
    run_known (more r o (gives q t s le)) h l b = (run_known r h.0 l.0 b.0, tt)
    run_known (more r o (no_room q t s le)) h l b = (run_known r h.0 l.0 b.0, tt)
    run_known (more {j} r o (acts q t n s asked d)) h l b =
        (run_known r h.0 l.0 b.0, ride_zip (Holds p formed ok j) (λ s. LivesState (table_of p) (few j) s × Binds (source_of p) homes many s) (KnownThere p j homes many) (known_by j) d.rides h.1 (ride_zip (LivesState (table_of p) (few j)) (Binds (source_of p) homes many) (λ s. LivesState (table_of p) (few j) s × Binds (source_of p) homes many s) (λ s x y. (x, y)) d.rides l.1 b.1))

  begins : SourceBegins (source_of p)
  begins = law_values.begins p (source_of p) (law_accepted p ok)

  module _ (input : List ℕ) (opts : Options) (range : InRange opts) where
    -- in a run, as nobody has at hand what goes

    pub run_set : {j : Journal} {w : World} (r : Runs (source_of p) input opts j w) → RunFits (source_of p) input opts j w r → is_over j ≡ false → RunGoes IsNobodys (source_of p) input opts r → RunGoes (IsFree (source_of p)) (source_of p) input opts r → RunMeetsAt (λ i s. KnownThere p i homes many s) (source_of p) input opts j w r → SetWorld (made_homes many homes) (source_of p) j w
    run_set begun f on b g k = set_begun (made_homes many homes) (source_of p) begins input opts
    run_set (more {j} {w} r o (gives q n s le)) f on b g k = set_given (made_homes many homes) (source_of p) begins input opts j w q n (run_set r f.0 o b.0 g.0 k.0)
    run_set (more {j} {w} r o (no_room q n s le)) f on b g k = no_both (is_over (j ++ lone_limit ∷ [])) (over_limit j 0 0) on
    run_set (more {j} {w} r o (acts q n m s asked d)) f on b g k =
        let x = run_set r f.0 o b.0 g.0 k.0 in
        let alive : has_ended n j ≡ false = law_alive opts (source_of p).sites input j (run_rests (source_of p) input opts range r f.0 o).kernel o q n d.runs in
        let st = start (made_homes many homes) (source_of p) begins input opts j w x n d.given alive in
        let knows : RideMeets (Known p) (source_of p) _ _ s m asked d.rides = rides_meet (Known p) d.rides (λ v l. known p formed ok within input opts range j w r f.0 o n v (record { given = d.given; processor = q; runs = d.runs; told = d.told; leads = l })) in
        let finds = ride_zip (KnownThere p j homes many) (Known p) (Finds (by_then (made_homes many homes) j) (source_of p)) (λ v a h. finds_set j v a h) d.rides k.1 knows in
        let ended = ridden (made_homes many homes) (source_of p) begins input opts (by_then (made_homes many homes) j) d.rides finds (λ e. st) (may_go_on (by_then (made_homes many homes) j) (source_of p) _ st) in
        set_acted (made_homes many homes) (source_of p) begins input opts j w x q n m s asked d on ended b.1 g.1

    -- and on the way to what is asked next

    module _ (j : Journal) (w : World) (r : Runs (source_of p) input opts j w) (f : RunFits (source_of p) input opts j w r) (on : is_over j ≡ false) (x : SetWorld (made_homes many homes) (source_of p) j w) (t : ℕ) (s : State) (c : Comes (source_of p) j w t s) (k : LeadsMeet (KnownThere p j homes many) (source_of p) (answered (source_of p) c.given (drawn j w t)) s c.leads) where
      set_now : SetOnWay (source_of p) (by_then (made_homes many homes) j) s
      set_now =
          let alive : has_ended t j ≡ false = law_alive opts (source_of p).sites input j (run_rests (source_of p) input opts range r f on).kernel on c.processor t c.runs in
          let st = start (made_homes many homes) (source_of p) begins input opts j w x t c.given alive in
          let knows : LeadsMeet (Known p) (source_of p) (answered (source_of p) c.given (drawn j w t)) s c.leads = leads_meet (Known p) c.leads (λ v l. known p formed ok within input opts range j w r f on t v (record { given = c.given; processor = c.processor; runs = c.runs; told = c.told; leads = l })) in
          let finds = leads_zip (KnownThere p j homes many) (Known p) (Finds (by_then (made_homes many homes) j) (source_of p)) (λ v a h. finds_set j v a h) c.leads k knows in
          led (made_homes many homes) (source_of p) begins input opts (by_then (made_homes many homes) j) c.leads finds (may_go_on (by_then (made_homes many homes) j) (source_of p) _ st)

      pub set_here : OpensSet (by_then (made_homes many homes) j) s
      set_here = by set_now
        where
          by : SetOnWay (source_of p) (by_then (made_homes many homes) j) s → OpensSet (by_then (made_homes many homes) j) s
          by (inl h) = opens_set p (by_then (made_homes many homes) j) s (known p formed ok within input opts range j w r f on t s c) h
          by (inr h) = subst (λ l. OpensSetAt (by_then (made_homes many homes) j) l s) (sym h.control) tt
