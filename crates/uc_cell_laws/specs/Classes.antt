-- Of which classes mutex objects are made, as a run tells: an object is of the class of the constructor that comes next where it was asked for.
use Rattle.std.specs.Prelude.{ℕ, List, Option, None, nat_eq, if◌then◌else◌}
use Rattle.uc_tree.specs.Source.{Source}
use Rattle.uc_entry.specs.declared.entry.Entry.{Entry}
use Rattle.uc_entry.specs.declared.entry.Options.{Options}
use Rattle.uc_entry.specs.declared.request.Request.{Request}
use Rattle.uc_entry.specs.declared.request.Request.TheVariants as ask
use Rattle.uc_acts.specs.Journal.{Journal}
use Rattle.uc_acts.specs.Known.{object_count}
use Rattle.uc_machine.specs.Pieces.{State}
use Rattle.uc_meaning.specs.Runs.{World, May, Runs, gives, no_room, acts, begun, more}
use Rattle.uc_typing.specs.Typing.{Table}
use Rattle.uc_cell_laws.specs.CellTodos.{asked_class}

module _ (t : Table) where
  -- who asks for one tells the class of the next number; so does an act, and a run
  abbrev pub then_class : Journal → Request → State → (ℕ → Option ℕ) → ℕ → Option ℕ
  then_class j (ask.Make m) s classes o = if nat_eq o (object_count j) then asked_class t s.run.control else classes o
  then_class j r s classes o = classes o

  abbrev pub class_by : (source : Source) (opts : Options) (input : List ℕ) (j : Journal) (w : World) (a : List Entry) (x : World) →
      May source opts input j w a x → (ℕ → Option ℕ) → ℕ → Option ℕ
  class_by source opts input j w _ _ (gives p u s h) classes o = classes o
  class_by source opts input j w _ _ (no_room p u s h) classes o = classes o
  class_by source opts input j w _ _ (acts p u n s asked d) classes o = then_class j asked.request s classes o

  abbrev pub class_of : (source : Source) (input : List ℕ) (opts : Options) (j : Journal) (w : World) →
      Runs source input opts j w → ℕ → Option ℕ
  class_of source input opts _ _ begun o = None
  class_of source input opts _ _ (more {j} {w} {a} {w' = x} r on m) o =
      class_by source opts input j w a x m (λ i. class_of source input opts j w r i) o
