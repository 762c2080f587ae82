-- Where each step finds what it is to find, what is read is of its type, so all stays in order.
use Rattle.std.proofs.Common.{◌≡◌, ℕ, zero, suc, inl, inr, Bool, true, false, List, [], ◌∷◌, refl}
use Rattle.uc_tree.specs.Programs.{Program}
use Rattle.uc_tree.specs.ProgramMain.{main_number}
use Rattle.uc_tree.specs.Source.{Source, CleanUp}
use Rattle.uc_entry.specs.declared.entry.Options.{Options}
use Rattle.uc_entry.specs.declared.request.Asked.{Asked}
use Rattle.uc_acts.specs.Journal.{Journal, is_over}
use Rattle.uc_acts.specs.KernelRuns.{InRange}
use Rattle.uc_machine.specs.declared.exec.Owner.TheVariants.{Frame}
use Rattle.uc_machine.specs.Pieces.{Slot, FieldAt, Value, Place, Todo, further}
use Rattle.uc_machine.specs.Quiet.{State, Goes, Ticks, quiet}
use Rattle.uc_machine.specs.Answering.{answered}
use Rattle.uc_machine.specs.Rides as rides
use Rattle.uc_machine.specs.Rides.{Rides}
use Rattle.uc_meaning.specs.Runs.{World, Runs, drawn, gives, no_room, acts, begun, more}
use Rattle.uc_state_laws.specs.Fitting.{RunFits}
use Rattle.uc_resolve.specs.Resolve.{source_of}
use Rattle.uc_rules.specs.Breaks.{breaks_of}
use Rattle.uc_state_laws.specs.RoomRuns as runs
use Rattle.uc_state_laws.specs.RoomRuns.{Leads, Comes}
use Rattle.uc_typing.specs.Typing.{Ty, Obj, Row, Sig, Table}
use Rattle.uc_typing.specs.Laws.{ReadsIn}
use Rattle.uc_sound.specs.Sounds.{of_program}
use Rattle.uc_sound.specs.SoundFormed.{IsFormed}
use Rattle.uc_sound.specs.Tables.{table_of}
use Rattle.uc_sound.specs.WellTyped.{IsTextOf, IsWellTyped}
use Rattle.uc_sound.proofs.Texts.{text_formed, law_well_typed}
use Rattle.uc_state_laws.specs.Endings.{still_reading, RideHolds, RunHolds, LeadsHold}
use Rattle.uc_state_laws.specs.Opens.{Opens, RideMeets, RunMeets, LeadsMeet}
use Rattle.uc_place_laws.proofs.OpenRuns.{law_opens}
use Rattle.uc_life_laws.specs.OpenedRuns.{MeetsObjects, IsFollowed}
use Rattle.uc_life_laws.specs.Things.{Holds}
use Rattle.uc_life_laws.specs.LifeStates.{frame_at, Outwards}
use Rattle.uc_life_laws.specs.Lives.{OutwardsOrMade}
use Rattle.uc_life_laws.specs.Opened.{any}
use Rattle.uc_life_laws.proofs.OpenedRuns.{law_opened_runs}
use Rattle.uc_life_laws.specs.FoundReads.{HoldsRight}
use Rattle.uc_life_laws.specs.Knowing.{Finds}
use Rattle.uc_life_laws.specs.FoundRuns.{AllIsFound}
use Rattle.uc_life_laws.proofs.FoundReads.{SetsUpNew, outside_thing, right_holds, found}
use Rattle.uc_life_laws.proofs.Walking.{all_found}
use Rattle.uc_sound.proofs.SoundLemmas.{law_sound}
use Rattle.uc_building_laws.specs.Building.{heads_of}
use Rattle.uc_building_laws.specs.BuildingRuns.{OthersHold}
use Rattle.uc_building_laws.specs.BuildingStates.{BuiltState}
use Rattle.uc_building_laws.specs.BuiltReads.{reads_bound}
use Rattle.uc_building_laws.specs.BuiltEndings.{BuildingOutside, BuildingIsMet}
use Rattle.uc_building_laws.proofs.Worlds.{lives, law_built}
use Rattle.uc_building_laws.proofs.BuiltEndings.{law_built_endings}
use Rattle.uc_building_laws.proofs.BuiltReads.{law_built_reads}
use Rattle.uc_typed_runs.specs.TypedRuns.{Reading, IsTyped}
use Rattle.uc_typed_runs.specs.FoundTexts.{OthersRight, Founds, FoundsOutside, LawFoundTexts}
use Rattle.uc_typed_runs.specs.TextReads.{ReadsRightAt}
use Rattle.uc_typed_runs.proofs.TextReads.{reads_found}
use Rattle.uc_typed_runs.proofs.Worlds.{law_typed_runs}

-- what binds has what is bound there

module _ (t : Table) (heads : ℕ → ℕ → Bool) (source : Source) where
  -- with what it binds, a step finds what is left
  abbrev OpensAndFinds : ℕ → State → Type 0
  OpensAndFinds zero s = Opens source s × Founds t heads s
  OpensAndFinds (suc n) s = Unit {0}

  with_opens : (n : ℕ) (s : State) → Opens source s → FoundsOutside t heads n s → OpensAndFinds n s
  with_opens zero s o f = (o, f)
  with_opens (suc n) s o f = tt

  ride_opens : (n : ℕ) {s u : State} {q k : ℕ} {a : Asked} (d : Rides source s q u k a) → RideMeets (Opens source) source s q u k a d → RideHolds (FoundsOutside t heads) source n s q u k a d → RideHolds OpensAndFinds source n s q u k a d
  ride_opens n rides.slices o f = tt
  ride_opens n (rides.goes_on {s} e r) o f = (with_opens n s o.0 f.0, ride_opens (still_reading n s.run.control) r o.1 f.1)
  ride_opens n (rides.ticks {s} e r) o f = (with_opens n s o.0 f.0, ride_opens (still_reading n s.run.control) r o.1 f.1)
  ride_opens n (rides.asks {s} e) o f = with_opens n s o f

  lead_opens : (n : ℕ) {s u : State} (l : Leads source s u) → LeadsMeet (Opens source) source s u l → LeadsHold (FoundsOutside t heads) source n s u l → LeadsHold OpensAndFinds source n s u l
  lead_opens n runs.stays o f = tt
  lead_opens n (runs.goes {s} e l) o f = (with_opens n s o.0 f.0, lead_opens (still_reading n s.run.control) l o.1 f.1)
  lead_opens n (runs.ticks {s} e l) o f = (with_opens n s o.0 f.0, lead_opens (still_reading n s.run.control) l o.1 f.1)

  run_opens : (input : List ℕ) (opts : Options) {j : Journal} {w : World} (r : Runs source input opts j w) → RunMeets (Opens source) source input opts j w r → RunHolds (FoundsOutside t heads) source input opts j w r → RunHolds OpensAndFinds source input opts j w r
  run_opens input opts begun o f = tt
  run_opens input opts (more r on (gives q n s le)) o f = (run_opens input opts r o.0 f.0, tt)
  run_opens input opts (more r on (no_room q n s le)) o f = (run_opens input opts r o.0 f.0, tt)
  run_opens input opts (more r on (acts q n k s asked d)) o f = (run_opens input opts r o.0 f.0, ride_opens 0 d.rides o.1 f.1)

-- what is right is known, where numbers are not tested

module _ (t : Table) (heads : ℕ → ℕ → Bool) (kinds : List Sig) (s : State) where
  abbrev Behind : CleanUp → List Todo → Value → Ty → Type 0
  Behind c todo = OutwardsOrMade kinds (Outwards t any s.env.exec s.run.frame s.run.this s.callers c todo) s.env.exec s.run.frame s.run.this s.callers

  holds : (c : CleanUp) (todo : List Todo) (w : Value) (a : Ty) → HoldsRight t any s.env.exec (Behind c todo) (Frame s.env.exec s.run.frame) (frame_at s.run.frame s.env.frames) w a → Holds t any s.env.exec (Behind c todo) (Frame s.env.exec s.run.frame) (frame_at s.run.frame s.env.frames) w a
  holds c todo w a h = right_holds t (λ a o. true) s.env.exec (Behind c todo) (λ v b o. inl (inr (inl (outside_thing t (λ a o. true) s.env.exec s.callers v b o)))) (Frame s.env.exec s.run.frame) (frame_at s.run.frame s.env.frames) w a h

  others_hold : OthersRight t heads kinds s → OthersHold t heads any kinds s
  others_hold h = record {
    fields = λ c rest todo e k i d m f told some. holds c todo (further (FieldAt (t.shape i) m) (Place (Frame s.env.exec s.run.frame) (Slot k ∷ []))) (t.fields i m) (h.fields c rest todo e k i d m f told some);
    arrays = λ c rest todo e k m i d some. holds c todo (Place (Frame s.env.exec s.run.frame) (Slot k ∷ [])) (Row m (Obj i)) (h.arrays c rest todo e k m i d some);
  }

module _ (p : Program) (formed : IsFormed p) (accepted : breaks_of p ≡ []) where
  -- what constructors have bound is known where they read it
  finds_there : (s : State) → SetsUpNew (source_of p) s → (x : BuiltState (table_of p) (heads_of p) any [] s) → (reads_bound (table_of p) (heads_of p) x.0.run.sig s ≡ false → ReadsRightAt (table_of p) x.0.sigs s x.0.run.sig x.0.run.scope s.run.control x.0.run.own) → Finds (table_of p) any x.0.sigs x.0.run.sig x.0.run.scope s s.run.control x.0.run.own
  finds_there s new x h = by (reads_bound (table_of p) (heads_of p) x.0.run.sig s) refl
    where
      by : (b : Bool) → reads_bound (table_of p) (heads_of p) x.0.run.sig s ≡ b → Finds (table_of p) any x.0.sigs x.0.run.sig x.0.run.scope s s.run.control x.0.run.own
      by true e = law_built_reads p formed accepted any s x e
      by false e = found (table_of p) (λ a o. true) (source_of p) (law_sound p formed accepted) s new (lives p formed accepted any s x) (reads_found (table_of p) (heads_of p) s x x.0.run.sig x.0.run.scope s.run.control x.0.run.own (h e))

  builds : (n : ℕ) (s : State) → SetsUpNew (source_of p) s → OpensAndFinds (table_of p) (heads_of p) (source_of p) n s → BuildingOutside (table_of p) (heads_of p) (source_of p) n s
  builds zero s new h = record {
    opens = h.0;
    finds = λ x.
        let y = h.1.reads x in
        (y.0, (finds_there s new y.0 y.1.0, others_hold (table_of p) (heads_of p) y.0.0.sigs s y.1.1));
  }
  builds (suc n) s new h = tt

-- what is read is of its type in each state

module _ (t : Table) (source : Source) (P : State → Type 0) where
  abbrev LedTo : State → State → Type 0
  LedTo s v = (l : Leads source s v) × LeadsMeet P source s v l

  led_goes : {s u v : State} (l : Leads source s u) → LeadsMeet P source s u l → P u → quiet source u ≡ Goes v → LedTo s v
  led_goes runs.stays m h e = (runs.goes e runs.stays, (h, tt))
  led_goes (runs.goes f l) m h e = let n = led_goes l m.1 h e in (runs.goes f n.0, (m.0, n.1))
  led_goes (runs.ticks f l) m h e = let n = led_goes l m.1 h e in (runs.ticks f n.0, (m.0, n.1))

  led_ticks : {s u v : State} (l : Leads source s u) → LeadsMeet P source s u l → P u → quiet source u ≡ Ticks v → LedTo s v
  led_ticks runs.stays m h e = (runs.ticks e runs.stays, (h, tt))
  led_ticks (runs.goes f l) m h e = let n = led_ticks l m.1 h e in (runs.goes f n.0, (m.0, n.1))
  led_ticks (runs.ticks f l) m h e = let n = led_ticks l m.1 h e in (runs.ticks f n.0, (m.0, n.1))

  module _ (start : State) (reads : (s : State) (l : Leads source start s) → LeadsMeet P source start s l → P s → ReadsIn t s) where
    ride_reads : (n : ℕ) {s u : State} {q k : ℕ} {a : Asked} → LedTo start s → (r : Rides source s q u k a) → RideMeets P source s q u k a r → RideHolds (Reading t) source n s q u k a r
    ride_reads n l rides.slices m = tt
    ride_reads n l (rides.goes_on {s} e r) m = (reads s l.0 l.1 m.0, ride_reads (still_reading n s.run.control) (led_goes l.0 l.1 m.0 e) r m.1)
    ride_reads n l (rides.ticks {s} e r) m = (reads s l.0 l.1 m.0, ride_reads (still_reading n s.run.control) (led_ticks l.0 l.1 m.0 e) r m.1)
    ride_reads n l (rides.asks {s} e) m = reads s l.0 l.1 m

    lead_reads : (n : ℕ) {s u : State} → LedTo start s → (r : Leads source s u) → LeadsMeet P source s u r → LeadsHold (Reading t) source n s u r
    lead_reads n l runs.stays m = tt
    lead_reads n l (runs.goes {s} e r) m = (reads s l.0 l.1 m.0, lead_reads (still_reading n s.run.control) (led_goes l.0 l.1 m.0 e) r m.1)
    lead_reads n l (runs.ticks {s} e r) m = (reads s l.0 l.1 m.0, lead_reads (still_reading n s.run.control) (led_ticks l.0 l.1 m.0 e) r m.1)

module _ (text : List ℕ) (p : Program) (is : IsTextOf text p) (input : List ℕ) (opts : Options) (range : InRange opts) where
  abbrev t : Table
  t = table_of p

  abbrev source : Source
  source = source_of p

  abbrev P : State → Type 0
  P s = MeetsObjects t source s

  formed : IsFormed p
  formed = text_formed text p is

  followed : {j : Journal} {w : World} (r : Runs source input opts j w) → RunFits source input opts j w r → is_over j ≡ false → RunMeets P source input opts j w r → IsFollowed t source j w
  followed {j} {w} r fits on m = law_opened_runs p formed is.no_break input opts range j w r fits on m

  run_reads : {j : Journal} {w : World} (r : Runs source input opts j w) → RunFits source input opts j w r → RunMeets P source input opts j w r → RunHolds (Reading t) source input opts j w r
  run_reads begun fits m = tt
  run_reads (more r on (gives q n s le)) fits m = (run_reads r fits.0 m.0, tt)
  run_reads (more r on (no_room q n s le)) fits m = (run_reads r fits.0 m.0, tt)
  run_reads (more {j} {w} r on (acts q n k s asked d)) fits m =
      let all : IsFollowed t source j w = followed r fits.0 on m.0 in
      (run_reads r fits.0 m.0, ride_reads t source P (answered source d.given (drawn j w n)) (λ u l h. all.reads n u (record { given = d.given; processor = q; runs = d.runs; told = d.told; leads = l }) h) 0 (runs.stays, tt) d.rides m.1)

pub law_found_texts : LawFoundTexts
law_found_texts text p is within input opts j w r range fits given on = record {
  typed = record {
    tasks = typed.tasks;
    homes = typed.homes;
    comes = λ n s c l. typed.comes n s c (reads n s c l);
    finds = λ n s c l x todo e. typed.finds n s c (reads n s c l) x todo e;
  };
  knows = λ n s c l. all.comes n s c (leads n s c l);
  lives = λ n s c l. all.lives n s c (leads n s c l);
}
  where
    formed : IsFormed p
    formed = text_formed text p is

    well : IsWellTyped p
    well = law_well_typed text p is

    finds : AllIsFound (OpensAndFinds (table_of p) (heads_of p) (source_of p)) (BuildingOutside (table_of p) (heads_of p) (source_of p)) (source_of p) input opts j w r
    finds =
        all_found (OpensAndFinds (table_of p) (heads_of p) (source_of p)) (BuildingOutside (table_of p) (heads_of p) (source_of p)) (source_of p) (builds p formed is.no_break) input opts range j w r fits on (run_opens (table_of p) (heads_of p) (source_of p) input opts r (law_opens.runs p formed is.no_break within input opts range j w r fits) given)

    met : BuildingIsMet (table_of p) (heads_of p) (source_of p) input opts j w r
    met = law_built_endings p formed is.no_break within input opts range j w r fits on finds.runs

    objects : RunMeets (MeetsObjects (table_of p) (source_of p)) (source_of p) input opts j w r
    objects = law_built.runs p formed is.no_break within input opts range j w r fits met.runs

    all : IsFollowed (table_of p) (source_of p) j w
    all = followed text p is input opts range r fits on objects

    leads : (n : ℕ) (s : State) (c : Comes (source_of p) j w n s) → LeadsHold (FoundsOutside (table_of p) (heads_of p)) (source_of p) 0 (answered (source_of p) c.given (drawn j w n)) s c.leads → LeadsMeet (MeetsObjects (table_of p) (source_of p)) (source_of p) (answered (source_of p) c.given (drawn j w n)) s c.leads
    leads n s c l =
        law_built.leads p formed is.no_break within input opts range j w r fits on met.runs n s c (met.leads n s c (finds.leads n s c (lead_opens (table_of p) (heads_of p) (source_of p) 0 c.leads (law_opens.leads p formed is.no_break within input opts range j w r fits on n s c) l)))

    typed : IsTyped (table_of p) (source_of p) (LeadsHold (Reading (table_of p)) (source_of p) 0) j w
    typed = law_typed_runs (table_of p) (source_of p) input opts j w r well.sound (well.mains (main_number p) (of_program refl)) range fits (run_reads text p is input opts range r fits objects) on

    reads : (n : ℕ) (s : State) (c : Comes (source_of p) j w n s) → LeadsHold (FoundsOutside (table_of p) (heads_of p)) (source_of p) 0 (answered (source_of p) c.given (drawn j w n)) s c.leads → LeadsHold (Reading (table_of p)) (source_of p) 0 (answered (source_of p) c.given (drawn j w n)) s c.leads
    reads n s c l =
        lead_reads (table_of p) (source_of p) (MeetsObjects (table_of p) (source_of p)) (answered (source_of p) c.given (drawn j w n)) (λ u m h. all.reads n u (record { given = c.given; processor = c.processor; runs = c.runs; told = c.told; leads = m }) h) 0 (runs.stays, tt) c.leads (leads n s c l)
