-- A clean-up that reads the variable that it ends finds what it is to find, where objects are built by what stands before their scopes.
use Rattle.std.proofs.Common.{◌≡◌, ℕ, zero, suc, false, List, [], ◌∷◌, sym, subst}
use Rattle.uc_tree.specs.Programs.{Program}
use Rattle.uc_tree.specs.Source.{Expr, Source}
use Rattle.uc_entry.specs.declared.entry.Options.{Options}
use Rattle.uc_acts.specs.Journal.{Journal, is_over}
use Rattle.uc_acts.specs.KernelRuns.{InRange}
use Rattle.uc_machine.specs.Pieces.{Todo, Eval, LoadNow}
use Rattle.uc_machine.specs.Quiet.{State}
use Rattle.uc_machine.specs.Answering.{answered}
use Rattle.uc_meaning.specs.Runs.{World, Runs, drawn, gives, no_room, acts, begun, more}
use Rattle.uc_resolve.specs.Resolve.{source_of}
use Rattle.uc_rules.specs.Breaks.{breaks_of}
use Rattle.uc_state_laws.specs.Fitting.{RunFits}
use Rattle.uc_state_laws.specs.RoomRuns as runs
use Rattle.uc_state_laws.specs.RoomRuns.{Leads, Comes}
use Rattle.uc_state_laws.specs.Endings.{RunHolds}
use Rattle.uc_state_laws.specs.Opens.{RunMeets, LeadsMeet}
use Rattle.uc_state_laws.specs.Layout.{Sized}
use Rattle.uc_state_laws.specs.Limits.{IsWithinLimits}
use Rattle.uc_typing.specs.Typing.{Table}
use Rattle.uc_sound.specs.SoundFormed.{IsFormed}
use Rattle.uc_sound.specs.Tables.{table_of}
use Rattle.uc_place_laws.specs.Sparing.{SparesAt}
use Rattle.uc_life_laws.specs.Things.{Few}
use Rattle.uc_life_laws.specs.LifeStates.{OpensAtBy}
use Rattle.uc_life_laws.specs.Lives.{OutwardsOrMade, LivesState}
use Rattle.uc_life_laws.specs.Opened.{any}
use Rattle.uc_life_laws.proofs.Endings as endings
use Rattle.uc_life_laws.proofs.Endings.{Ending, there_opens, no_scope}
use Rattle.uc_building_laws.specs.Building.{heads_of}
use Rattle.uc_building_laws.specs.BuildingRuns.{MeetsBuilding}
use Rattle.uc_building_laws.specs.BuildingLaws.{BuildsAt}
use Rattle.uc_building_laws.specs.BuiltLasting.{FindsBuilt}
use Rattle.uc_building_laws.specs.BuiltEndings.{BuildingOutside, BuildingIsMet, BuiltOutside, LawBuiltEndings}
use Rattle.uc_building_laws.proofs.Worlds.{lives, law_built}

-- what holds of what comes first on such a way holds where it is
at_ending : (t : Table) (few : Few) (n : ℕ) (s : State) (P : List Todo → Type 0) → ((l : List Todo) → P (LoadNow ∷ l)) → ((a : Expr) (l : List Todo) → P (Eval a ∷ l)) → Ending t few (suc n) s → P s.run.control
at_ending t few zero s P f g h = subst P (sym h.3) (f _)
at_ending t few (suc zero) s P f g h = subst P (sym h.3) (g _ _)
at_ending t few (suc (suc zero)) s P f g h = subst P (sym h.3) (g _ _)
at_ending t few (suc (suc (suc zero))) s P f g h = subst P (sym h.3) (g _ _)
at_ending t few (suc (suc (suc (suc n)))) s P f g h = absurd h

module _ (p : Program) (formed : IsFormed p) (accepted : breaks_of p ≡ []) where
  abbrev source : Source
  source = source_of p

  abbrev t : Table
  t = table_of p

  abbrev M : State → Type 0
  M s = MeetsBuilding t (heads_of p) source s

  met : (n : ℕ) (s : State) → BuildingOutside t (heads_of p) source n s → Ending t any n s → M s
  met zero s m h = m
  met (suc n) s m h = record {
    opens = there_opens t any source n s h;
    finds = λ x. (
      x,
      (
        endings.finds t any n s (lives p formed accepted any s x) h,
        record {
          fields = λ c rest todo e. no_scope t any n s h c rest todo e;
          arrays = λ c rest todo e. no_scope t any n s h c rest todo e;
        },
      ),
    );
  }

  -- so it is with the numbers of what is told
  pub built_met : (few : Few) (n : ℕ) (s : State) → BuiltOutside p few n s → Ending t few n s → FindsBuilt p few s
  built_met few zero s m h = m
  built_met few (suc n) s m h = λ x. (
    x,
    endings.finds t few n s (lives p formed accepted few s x) h,
    at_ending t few n s (λ l. OpensAtBy t few (OutwardsOrMade x.0.sigs) l s) (λ l. tt) (λ a l. tt) h,
    record {
      at = at_ending t few n s (λ l. BuildsAt t (heads_of p) few x.0.sigs source s l) (λ l. tt) (λ a l. tt) h;
      calls = m.0.calls;
      parts = m.0.parts;
      joins = m.0.joins;
      follows = m.0.follows;
      tails = m.0.tails;
      spares = at_ending t few n s (λ l. SparesAt (Sized p) source l s) (λ l. tt) (λ a l. tt) h;
      addresses = m.1;
    },
  )

  module _ (within : IsWithinLimits p) (input : List ℕ) (opts : Options) (range : InRange opts) where
    module _ (j : Journal) (w : World) (r : Runs source input opts j w) (f : RunFits source input opts j w r) (on : is_over j ≡ false) (m : RunMeets M source input opts j w r) (n : ℕ) where
      there : (s : State) (c : Comes source j w n s) → LeadsMeet M source (answered source c.given (drawn j w n)) s c.leads → LivesState t any s
      there s c l = lives p formed accepted any s (law_built.comes p formed accepted within input opts range j w r f on m n s c l)

    ran : {j : Journal} {w : World} (r : Runs source input opts j w) → RunFits source input opts j w r → RunHolds (BuildingOutside t (heads_of p) source) source input opts j w r → RunMeets M source input opts j w r
    ran begun f o = tt
    ran (more r on (gives q n s le)) f o = (ran r f.0 o.0, tt)
    ran (more r on (no_room q n s le)) f o = (ran r f.0 o.0, tt)
    ran (more {j} {w} r on (acts q n k s asked d)) f o =
        let m = ran r f.0 o.0 in
        (m, endings.ride_met t any source (λ c o h. h) M (BuildingOutside t (heads_of p) source) met (answered source d.given (drawn j w n)) (λ s l. there j w r f.0 on m n s (record { given = d.given; processor = q; runs = d.runs; told = d.told; leads = l })) runs.stays tt 0 d.rides o.1 tt)

    all_met : (j : Journal) (w : World) (r : Runs source input opts j w) → RunFits source input opts j w r → is_over j ≡ false → RunHolds (BuildingOutside t (heads_of p) source) source input opts j w r → BuildingIsMet t (heads_of p) source input opts j w r
    all_met j w r f on o =
        let m = ran r f o in
        record {
          runs = m;
          leads = λ n s c o. endings.lead_met t any source (λ c o h. h) M (BuildingOutside t (heads_of p) source) met (answered source c.given (drawn j w n)) (λ s l. there j w r f on m n s (record { given = c.given; processor = c.processor; runs = c.runs; told = c.told; leads = l })) runs.stays tt 0 c.leads o tt;
        }

pub law_built_endings : LawBuiltEndings
law_built_endings p formed accepted within input opts range j w r f on o = all_met p formed accepted within input opts range j w r f on o
