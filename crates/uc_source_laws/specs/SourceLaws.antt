-- What the resolved tree of every program that breaks no rule looks like: who waits, signals and accepts, and on what helpers are called.
use Rattle.std.specs.Prelude.{◌≡◌, ℕ, List, [], ◌∷◌, true, Some, slice_get}
use Rattle.uc_tree.specs.Programs.{Program}
use Rattle.uc_tree.specs.Source.{Routine}
use Rattle.uc_resolve.specs.Resolve.{source_of}
use Rattle.uc_rules.specs.Breaks.{breaks_of}
use Rattle.uc_typing.specs.Typing.{Ty, Num, Obj, Clu, Inward, Apart, Enters, Makes, Helps, Main, Table}
use Rattle.uc_sound.specs.SoundFormed.{IsFormed}
use Rattle.uc_sound.specs.Tables.{table_of}
use Rattle.uc_inner_laws.specs.Inner.{Part, Plain, Helper, Maker, Uncalled, InnerSource}

-- what a routine is for its callers, by how it comes to run inside its object
abbrev pub part_by : Inward → Part
part_by Apart = Plain
part_by Enters = Plain
part_by Makes = Maker
part_by Helps = Helper
part_by Main = Uncalled

-- the routine of this number of a program
abbrev pub part_of : Program → ℕ → Part
part_of p r = part_by ((table_of p).routine r).inward

pub record InnerProgram (p : Program) : Type 0 where
  pub source : InnerSource (part_of p) (source_of p)
  pub main : part_of p (source_of p).main ≡ Plain

abbrev pub LawInner : Type 0
LawInner = (p : Program) → IsFormed p → breaks_of p ≡ [] → InnerProgram p

-- what tasks may share: numbers, mutex objects and clusters
abbrev pub IsShared : Table → Ty → Type 0
IsShared t Num = Unit {0}
IsShared t Clu = Unit {0}
IsShared t (Obj c) = t.mutex c ≡ true
IsShared t _ = ⊥

abbrev pub AreShared : Table → List Ty → Type 0
AreShared t [] = Unit {0}
AreShared t (a ∷ more) = IsShared t a × AreShared t more

-- the parameters of what builds a mutex object
abbrev pub LawShared : Type 0
LawShared =
    (p : Program) → IsFormed p → breaks_of p ≡ [] → (n : ℕ) (r : Routine) →
    slice_get (source_of p).routines n ≡ Some r → ((table_of p).routine n).inward ≡ Makes →
    AreShared (table_of p) ((table_of p).routine n).params
