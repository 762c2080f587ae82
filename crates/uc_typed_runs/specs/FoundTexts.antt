-- Runs of programs whose text is accepted, of which it is asked only what no state tells: that scopes of plain objects open where these are right, and of
-- what is read, what is read elsewhere or of what is being built or destroyed.
use Rattle.std.specs.Prelude.{◌≡◌, ℕ, zero, suc, Bool, false, List, [], ◌∷◌}
use Rattle.uc_tree.specs.Programs.{Program}
use Rattle.uc_tree.specs.Source.{Source, Variable, CleanUp, Stmts, Scoped}
use Rattle.uc_entry.specs.declared.entry.Options.{Options}
use Rattle.uc_acts.specs.Journal.{Journal, is_over}
use Rattle.uc_acts.specs.KernelRuns.{InRange}
use Rattle.uc_machine.specs.declared.exec.Owner.TheVariants.{Frame}
use Rattle.uc_machine.specs.Pieces.{Slot, FieldAt, Place, Rest, further}
use Rattle.uc_machine.specs.Quiet.{State, Todo}
use Rattle.uc_machine.specs.Answering.{answered}
use Rattle.uc_meaning.specs.Runs.{World, Runs, drawn}
use Rattle.uc_state_laws.specs.Fitting.{RunFits}
use Rattle.uc_resolve.specs.Resolve.{source_of}
use Rattle.uc_state_laws.specs.RoomRuns.{Comes}
use Rattle.uc_typing.specs.Typing.{Obj, Row, Sig, Table, CleansAt}
use Rattle.uc_sound.specs.Tables.{table_of}
use Rattle.uc_sound.specs.WellTyped.{IsTextOf}
use Rattle.uc_state_laws.specs.Endings.{RunHolds, LeadsHold}
use Rattle.uc_state_laws.specs.Limits.{IsWithinLimits}
use Rattle.uc_life_laws.specs.Things.{IsField, IsUnbound}
use Rattle.uc_life_laws.specs.LifeStates.{frame_at, Outwards}
use Rattle.uc_life_laws.specs.Lives.{OutwardsOrMade, LivesState}
use Rattle.uc_life_laws.specs.Knowing.{KnowsState}
use Rattle.uc_life_laws.specs.Opened.{any}
use Rattle.uc_life_laws.specs.FoundReads.{HoldsRight, VariableRight}
use Rattle.uc_building_laws.specs.Building.{heads_of}
use Rattle.uc_building_laws.specs.BuildingStates.{BuiltState}
use Rattle.uc_building_laws.specs.BuiltReads.{reads_bound}
use Rattle.uc_typed_runs.specs.TextReads.{ReadsRightAt}
use Rattle.uc_typed_runs.specs.TypedRuns.{IsTyped}

-- where the scope of a plain object opens, the fields of which `heads` does not tell are right by these kinds; where that of an array of them opens, they
-- are
pub record OthersRight (t : Table) (heads : ℕ → ℕ → Bool) (kinds : List Sig) (s : State) : Type 0 where
  pub fields : (c : CleanUp) (rest : Stmts) (todo : List Todo) → s.run.control ≡ Rest (Scoped c rest) ∷ todo →
      (k i : ℕ) → CleansAt t (Obj i) (Variable k) c → (m : ℕ) → IsField t i m → heads i m ≡ false →
      (IsUnbound t (t.fields i m) → ⊥) →
      HoldsRight t any s.env.exec (OutwardsOrMade kinds (Outwards t any s.env.exec s.run.frame s.run.this s.callers c todo) s.env.exec s.run.frame s.run.this s.callers) (Frame s.env.exec s.run.frame) (frame_at s.run.frame s.env.frames) (further (FieldAt (t.shape i) m) (Place (Frame s.env.exec s.run.frame) (Slot k ∷ []))) (t.fields i m)
  pub arrays : (c : CleanUp) (rest : Stmts) (todo : List Todo) → s.run.control ≡ Rest (Scoped c rest) ∷ todo →
      (k m i : ℕ) → CleansAt t (Row m (Obj i)) (Variable k) c → (IsUnbound t (Row m (Obj i)) → ⊥) →
      VariableRight t any kinds c todo s k (Row m (Obj i))

-- by some kinds by which objects that are built hold what is known,
-- what the next step reads is right, where no state tells it, and no constructor has bound it, and it lies in no plain object that is a variable in scope, and where scopes open, so are the other fields of plain
-- objects, and arrays of them
pub record Founds (t : Table) (heads : ℕ → ℕ → Bool) (s : State) : Type 0 where
  pub reads : BuiltState t heads any [] s → (x : BuiltState t heads any [] s) ×
      ((reads_bound t heads x.0.run.sig s ≡ false → ReadsRightAt t x.0.sigs s x.0.run.sig x.0.run.scope s.run.control x.0.run.own) ×
      OthersRight t heads x.0.sigs s)

-- but in the four states from which a clean-up comes to the variable that it ends, and reads it
abbrev pub FoundsOutside : Table → (ℕ → ℕ → Bool) → ℕ → State → Type 0
FoundsOutside t heads zero s = Founds t heads s
FoundsOutside t heads (suc n) s = Unit {0}

abbrev pub Led : Table → (ℕ → ℕ → Bool) → (source : Source) (j : Journal) (w : World) (n : ℕ) (s : State) →
    Comes source j w n s → Type 0
Led t heads source j w n s c =
    LeadsHold (FoundsOutside t heads) source 0 (answered source c.given (drawn j w n)) s c.leads

-- all tasks are in order, and all that is at home somewhere, and whoever runs in each state to which it comes; there all is known that its
-- execution can come by, and what is in scope holds what is known
pub record IsInOrder (t : Table) (heads : ℕ → ℕ → Bool) (source : Source) (j : Journal) (w : World) : Type 0 where
  pub typed : IsTyped t source (LeadsHold (FoundsOutside t heads) source 0) j w
  pub knows : (n : ℕ) (s : State) (c : Comes source j w n s) → Led t heads source j w n s c →
      KnowsState t any [] s
  pub lives : (n : ℕ) (s : State) (c : Comes source j w n s) → Led t heads source j w n s c → LivesState t any s

-- of each program whose text is accepted and which is within its limits, as long as all that was asked so far fits
abbrev pub LawFoundTexts : Type 0
LawFoundTexts =
    (text : List ℕ) (p : Program) → IsTextOf text p → IsWithinLimits p →
    (input : List ℕ) (opts : Options) (j : Journal) (w : World) (r : Runs (source_of p) input opts j w) →
    InRange opts → RunFits (source_of p) input opts j w r →
    RunHolds (FoundsOutside (table_of p) (heads_of p)) (source_of p) input opts j w r → is_over j ≡ false →
    IsInOrder (table_of p) (heads_of p) (source_of p) j w
