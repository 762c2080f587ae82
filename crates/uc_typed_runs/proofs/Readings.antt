-- What is read is of its type, where scopes open as they are to, what is read at places is, and clean-ups end what is there.
use Rattle.std.proofs.Common.{◌≡◌, ◌⊎◌, inl, inr, ℕ, zero, suc, false, List, [], ◌∷◌, Some, refl, sym, subst}
use Rattle.uc_tree.specs.Programs.{Program}
use Rattle.uc_tree.specs.ProgramMain.{main_number}
use Rattle.uc_tree.specs.Source.{Source}
use Rattle.uc_entry.specs.declared.entry.Entry.{Entry}
use Rattle.uc_entry.specs.declared.entry.Options.{Options}
use Rattle.uc_entry.specs.declared.request.Answer.{Answer}
use Rattle.uc_entry.specs.declared.request.Asked.{Asked}
use Rattle.uc_acts.specs.Journal.{Journal, is_over}
use Rattle.uc_acts.specs.Queues.{running}
use Rattle.uc_acts.specs.Answers.{answer_to}
use Rattle.uc_acts.specs.KernelRuns.{InRange}
use Rattle.uc_machine.specs.Quiet.{State, Goes, Ticks, quiet}
use Rattle.uc_machine.specs.Answering.{answered}
use Rattle.uc_machine.specs.Rides as rides
use Rattle.uc_machine.specs.Rides.{Rides}
use Rattle.uc_meaning.specs.Runs.{World, May, Runs, drawn, gives, no_room, acts, begun, more}
use Rattle.uc_state_laws.specs.Fitting.{RunFits}
use Rattle.uc_resolve.specs.Resolve.{source_of}
use Rattle.uc_state_laws.specs.RoomRuns.{Leads, Comes, stays, goes, ticks}
use Rattle.uc_typing.specs.Typing.{Table}
use Rattle.uc_typing.specs.States.{Sound, Typed, ReadsVariable, ReadsPlace}
use Rattle.uc_typing.specs.Laws.{ReadsIn}
use Rattle.uc_sound.specs.Sounds.{of_program}
use Rattle.uc_sound.specs.Tables.{table_of}
use Rattle.uc_sound.specs.WellTyped.{IsTextOf, IsWellTyped}
use Rattle.uc_sound.proofs.Texts.{text_formed, law_well_typed}
use Rattle.uc_state_laws.specs.NewClusters.{GoodState}
use Rattle.uc_state_laws.specs.Reading.{ReadsElement}
use Rattle.uc_state_laws.specs.Opens.{Opens, LeadsOpen, RideOpens, MayOpen, RunOpens}
use Rattle.uc_state_laws.proofs.Readings.{law_reading}
use Rattle.uc_state_laws.proofs.ValueWorlds.{law_runs}
use Rattle.uc_state_laws.specs.Limits.{IsWithinLimits}
use Rattle.uc_place_laws.proofs.OpenRuns.{law_opens}
use Rattle.uc_state_laws.specs.Endings.{still_reading, RideHolds, MayHold, RunHolds, LeadsHold}
use Rattle.uc_typed_runs.specs.TypedRuns.{Reading, Following, IsTyped, LawTypedTexts}
use Rattle.uc_typed_runs.proofs.Endings.{Ending, EndingStep, at_goes, at_ticks, ending, reads as reads_ending}
use Rattle.uc_typed_runs.proofs.Hands.{behind}
use Rattle.uc_typed_runs.proofs.Openings.{no_variable, no_place, point_variable, point_place, fill_variable, fill_place}
use Rattle.uc_typed_runs.proofs.Worlds.{law_typed_runs}

module _ (table : Table) (source : Source) (sound : Sound table source) where
  reads : (n : ℕ) (s : State) → GoodState s → Ending table n s → Following table n s → ReadsIn table s
  reads zero s (inr (inl d)) e h x = (
    x,
    (
      subst (ReadsVariable table x.run.scope s) (sym d.control) (point_variable d.binder d.next d.todo table x.run.sig x.run.scope s d.point),
      subst (λ l. ReadsPlace table x.run.sig s l x.run.own) (sym d.control) (point_place d.binder d.next d.todo table x.run.sig x.run.scope s x.run.own d.point),
    ),
  )
  reads zero s (inr (inr (inr f))) e h x = (
    x,
    (
      subst (ReadsVariable table x.run.scope s) (sym f.control) (fill_variable table x.run.sig x.run.scope s f.stage f.array),
      subst (λ l. ReadsPlace table x.run.sig s l x.run.own) (sym f.control) (fill_place table x.run.sig x.run.scope s x.run.own f.stage f.array),
    ),
  )
  reads zero s (inr (inr (inl o))) e h x = (
    x,
    (
      subst (ReadsVariable table x.run.scope s) (sym o.control) (no_variable o.cell o.line o.next o.todo table x.run.sig x.run.scope s o.stage),
      subst (λ l. ReadsPlace table x.run.sig s l x.run.own) (sym o.control) (no_place o.cell o.line o.next o.todo table x.run.sig x.run.scope s x.run.own o.stage),
    ),
  )
  reads zero s (inl there) e h x = let y = h x in (y.0, (law_reading.reads table s y.0 there, at_place y.0 y.1))
    where
      at_place : (y : Typed table [] s) → ReadsPlace table y.run.sig s s.run.control y.run.own ⊎ ReadsElement y.run.scope s s.run.control y.run.own → ReadsPlace table y.run.sig s s.run.control y.run.own
      at_place y (inl r) = r
      at_place y (inr e) = law_reading.reads_element table s y there e
  reads (suc n) s there e h x = reads_ending table n s e x

  -- one step further
  abbrev LedTo : State → State → Type 0
  LedTo s v = (l : Leads source s v) × LeadsOpen source s v l

  led_goes : {s u v : State} (l : Leads source s u) → LeadsOpen source s u l → Opens source u → quiet source u ≡ Goes v → LedTo s v
  led_goes stays o h e = (goes e stays, (h, tt))
  led_goes (goes f l) o h e = let n = led_goes l o.1 h e in (goes f n.0, (o.0, n.1))
  led_goes (ticks f l) o h e = let n = led_goes l o.1 h e in (ticks f n.0, (o.0, n.1))

  led_ticks : {s u v : State} (l : Leads source s u) → LeadsOpen source s u l → Opens source u → quiet source u ≡ Ticks v → LedTo s v
  led_ticks stays o h e = (ticks e stays, (h, tt))
  led_ticks (goes f l) o h e = let n = led_ticks l o.1 h e in (goes f n.0, (o.0, n.1))
  led_ticks (ticks f l) o h e = let n = led_ticks l o.1 h e in (ticks f n.0, (o.0, n.1))

  -- from this state on, to which a ride has come or begins with
  module _ (first : State) (there : (s : State) (l : Leads source first s) → LeadsOpen source first s l → GoodState s) where
    ride_reads : (n : ℕ) {s u : State} {q k : ℕ} {a : Asked} (d : Rides source s q u k a) (l : Leads source first s) → LeadsOpen source first s l → RideOpens source s q u k a d → RideHolds (Following table) source n s q u k a d → Ending table n s → Typed table [] s → RideHolds (Reading table) source n s q u k a d
    ride_reads n rides.slices l o opens places h x = tt
    ride_reads n (rides.goes_on {s} {t = v} e rest) l o opens places h x =
        let r : ReadsIn table s = reads n s (there s l o) h places.0 in
        let m = led_goes l o opens.0 e in
        let next : EndingStep table (still_reading n s.run.control) (Goes v) = subst (EndingStep table (still_reading n s.run.control)) e (ending table source n s (there s l o) x h) in
        (r, ride_reads (still_reading n s.run.control) rest m.0 m.1 opens.1 places.1 (at_goes table (still_reading n s.run.control) v next) (behind table source sound s (Goes v) e x r))
    ride_reads n (rides.ticks {s} {t = v} e rest) l o opens places h x =
        let r : ReadsIn table s = reads n s (there s l o) h places.0 in
        let m = led_ticks l o opens.0 e in
        let next : EndingStep table (still_reading n s.run.control) (Ticks v) = subst (EndingStep table (still_reading n s.run.control)) e (ending table source n s (there s l o) x h) in
        (r, ride_reads (still_reading n s.run.control) rest m.0 m.1 opens.1 places.1 (at_ticks table (still_reading n s.run.control) v next) (behind table source sound s (Ticks v) e x r))
    ride_reads n (rides.asks {s} e) l o opens places h x = reads n s (there s l o) h places

    leads_reads : (n : ℕ) {s u : State} (d : Leads source s u) (l : Leads source first s) → LeadsOpen source first s l → LeadsOpen source s u d → LeadsHold (Following table) source n s u d → Ending table n s → Typed table [] s → LeadsHold (Reading table) source n s u d
    leads_reads n stays l o opens places h x = tt
    leads_reads n (goes {s} {u = v} e rest) l o opens places h x =
        let r : ReadsIn table s = reads n s (there s l o) h places.0 in
        let m = led_goes l o opens.0 e in
        let next : EndingStep table (still_reading n s.run.control) (Goes v) = subst (EndingStep table (still_reading n s.run.control)) e (ending table source n s (there s l o) x h) in
        (r, leads_reads (still_reading n s.run.control) rest m.0 m.1 opens.1 places.1 (at_goes table (still_reading n s.run.control) v next) (behind table source sound s (Goes v) e x r))
    leads_reads n (ticks {s} {u = v} e rest) l o opens places h x =
        let r : ReadsIn table s = reads n s (there s l o) h places.0 in
        let m = led_ticks l o opens.0 e in
        let next : EndingStep table (still_reading n s.run.control) (Ticks v) = subst (EndingStep table (still_reading n s.run.control)) e (ending table source n s (there s l o) x h) in
        (r, leads_reads (still_reading n s.run.control) rest m.0 m.1 opens.1 places.1 (at_ticks table (still_reading n s.run.control) v next) (behind table source sound s (Ticks v) e x r))

module _ (text : List ℕ) (p : Program) (is : IsTextOf text p) (within : IsWithinLimits p) (input : List ℕ) (opts : Options) (range : InRange opts) where
  well : IsWellTyped p
  well = law_well_typed text p is

  abbrev Typeds : Journal → World → Type 0
  Typeds j w = IsTyped (table_of p) (source_of p) (LeadsHold (Reading (table_of p)) (source_of p) 0) j w

  typeds : {j : Journal} {w : World} (r : Runs (source_of p) input opts j w) → RunFits (source_of p) input opts j w r → RunHolds (Reading (table_of p)) (source_of p) input opts j w r → is_over j ≡ false → Typeds j w
  typeds {j} {w} r fits reads on =
      law_typed_runs (table_of p) (source_of p) input opts j w r well.sound (well.mains (main_number p) (of_program refl)) range fits reads on

  -- in a world that is in order
  module _ {j : Journal} {w : World} (r : Runs (source_of p) input opts j w) (fits : RunFits (source_of p) input opts j w r) (on : is_over j ≡ false) (o : RunOpens (source_of p) input opts j w r) (h : Typeds j w) where
    comes_there : (t : ℕ) (given : Answer) (q : ℕ) → running q j ≡ t ∷ [] → answer_to (source_of p).sites t j ≡ Some given → (s : State) (l : Leads (source_of p) (answered (source_of p) given (drawn j w t)) s) → LeadsOpen (source_of p) (answered (source_of p) given (drawn j w t)) s l → GoodState s
    comes_there t given q runs told s l led =
        (law_runs p is.no_break input opts range j w r fits on o).comes t s (record { given = given; processor = q; runs = runs; told = told; leads = l }) led

    begins : (t : ℕ) (given : Answer) (q : ℕ) → running q j ≡ t ∷ [] → answer_to (source_of p).sites t j ≡ Some given → Typed (table_of p) [] (answered (source_of p) given (drawn j w t))
    begins t given q runs told =
        h.comes t (answered (source_of p) given (drawn j w t)) (record { given = given; processor = q; runs = runs; told = told; leads = stays }) tt

    may_reads : {a : List Entry} {x : World} (m : May (source_of p) opts input j w a x) → MayOpen (source_of p) opts input j w a x m → MayHold (Following (table_of p)) (source_of p) opts input j w a x m → MayHold (Reading (table_of p)) (source_of p) opts input j w a x m
    may_reads (gives q t s le) opens places = tt
    may_reads (no_room q t s le) opens places = tt
    may_reads (acts q t n s asked d) opens places =
        ride_reads (table_of p) (source_of p) well.sound (answered (source_of p) d.given (drawn j w t)) (comes_there t d.given q d.runs d.told) 0 d.rides stays tt opens places tt (begins t d.given q d.runs d.told)

    comes_reads : (t : ℕ) (s : State) (c : Comes (source_of p) j w t s) → LeadsHold (Following (table_of p)) (source_of p) 0 (answered (source_of p) c.given (drawn j w t)) s c.leads → LeadsHold (Reading (table_of p)) (source_of p) 0 (answered (source_of p) c.given (drawn j w t)) s c.leads
    comes_reads t s c l =
        leads_reads (table_of p) (source_of p) well.sound (answered (source_of p) c.given (drawn j w t)) (comes_there t c.given c.processor c.runs c.told) 0 c.leads stays tt (law_opens.leads p (text_formed text p is) is.no_break within input opts range j w r fits on t s c) l tt (begins t c.given c.processor c.runs c.told)

  run_reads : {j : Journal} {w : World} (r : Runs (source_of p) input opts j w) → RunFits (source_of p) input opts j w r → RunOpens (source_of p) input opts j w r → RunHolds (Following (table_of p)) (source_of p) input opts j w r → RunHolds (Reading (table_of p)) (source_of p) input opts j w r
  run_reads begun fits opens places = tt
  run_reads (more r on m) fits opens places =
      let before = run_reads r fits.0 opens.0 places.0 in
      (before, may_reads r fits.0 on opens.0 (typeds r fits.0 before on) m opens.1 places.1)

pub law_typed_texts : LawTypedTexts
law_typed_texts text p is within input opts j w r range fits places on = record {
  tasks = h.tasks;
  homes = h.homes;
  comes = λ t s c l. h.comes t s c (comes_reads text p is within input opts range r fits on opens h t s c l);
  finds = λ t s c l q todo e. h.finds t s c (comes_reads text p is within input opts range r fits on opens h t s c l) q todo e;
}
  where
    opens : RunOpens (source_of p) input opts j w r
    opens = law_opens.runs p (text_formed text p is) is.no_break within input opts range j w r fits

    h : Typeds text p is within input opts range j w
    h = typeds text p is within input opts range r fits (run_reads text p is within input opts range r fits opens places) on
