-- What is told of a run of a program: the numbers that it has made, the homes that its acts name, and of places what executions have of others.
use Rattle.std.specs.Prelude.{◌≡◌, ℕ, ◌&&◌, ◌||◌, Bool, false, List, [], Option, Some, nat_eq}
use Rattle.uc_tree.specs.Programs.{Program}
use Rattle.uc_entry.specs.declared.entry.Options.{Options}
use Rattle.uc_acts.specs.Journal.{Journal}
use Rattle.uc_machine.specs.declared.exec.Exec.{Exec}
use Rattle.uc_machine.specs.declared.exec.Owner.{Owner}
use Rattle.uc_machine.specs.declared.exec.Owner.TheVariants.{Fields}
use Rattle.uc_machine.specs.Executions.{exec_eq}
use Rattle.uc_machine.specs.Pieces as piece
use Rattle.uc_machine.specs.Pieces.{Link, Value, Place}
use Rattle.uc_meaning.specs.Runs.{World, Runs}
use Rattle.uc_resolve.specs.Resolve.{source_of}
use Rattle.uc_rules.specs.Breaks.{breaks_of}
use Rattle.uc_sound.specs.SoundFormed.{IsFormed}
use Rattle.uc_sound.specs.Tables.{table_of}
use Rattle.uc_typing.specs.Typing.{Ty, Cell, Obj, Raw}
use Rattle.uc_life_laws.specs.Things.{Few, Base, or_raw}
use Rattle.uc_life_laws.specs.Knowing.{main_of}
use Rattle.uc_life_laws.specs.KnownAnswers.{MainPasses}
use Rattle.uc_life_laws.specs.KnownRuns.{PassesBelow, made_by}
use Rattle.uc_life_laws.specs.Endings.{RawsPass}
use Rattle.uc_life_laws.specs.Belonging.{Belongs}
use Rattle.uc_life_laws.specs.Homes.{home_of}
use Rattle.uc_life_laws.specs.Rooted.{IsBase}

-- the class of the object of the program's main
abbrev pub main_class : Program → Option ℕ
main_class p = ((table_of p).routine (source_of p).main).this

-- where that object is at home, which nobody binds: the first task has it of others
abbrev pub is_main_home : Option ℕ → Exec → Owner → List Link → Ty → Bool
is_main_home (Some c) n (Fields o) [] (Cell (Obj d)) = exec_eq n (main_of 0) && (nat_eq o 0 && nat_eq d c)
is_main_home c n o p a = false

-- that, and what else is told of places, and of objects that are not whole
abbrev pub on_places : Option ℕ → (Exec → Value → Ty → Bool) → Exec → Value → Ty → Bool
on_places c base n (piece.Number z) a = false
on_places c base n (Place o p) a = is_main_home c n o p a || base n (Place o p) a
on_places c base n (piece.Running x) a = false
on_places c base n (piece.Object o) (Raw d) = base n (piece.Object o) (Raw d)
on_places c base n (piece.Object o) a = false
on_places c base n piece.Nothing a = false

-- numbers pass that have been made, and each object is at home where the run tells it
abbrev pub few_of : (p : Program) (input : List ℕ) (opts : Options) (j : Journal) (w : World) →
    Runs (source_of p) input opts j w → (Exec → Value → Ty → Bool) → Few
few_of p input opts j w r base = record {
  numbers = or_raw (made_by opts j);
  home = λ o. home_of (source_of p) input opts j w r o;
  base = on_places (main_class p) base;
}

-- such a telling is one with which the laws of runs may be asked: numbers of what has been made pass, and of what is destroyed those of what is whole;
-- the first task has the object of its main at hand; executions have places alone of others, and objects that are not whole; and that object is at home in
-- nobody's own
pub record IsTelling (p : Program) (few : Few) (opts : Options) (j : Journal) : Type 0 where
  pub raws : RawsPass few
  pub below : PassesBelow few opts j
  pub main : MainPasses (table_of p) few (main_class p) 0
  pub places : (n : Exec) (w : Value) (b : Ty) → Base few n w b → IsBase w b
  pub nobodys : (n : Exec) → Belongs few n (few.home 0) → ⊥

-- so it is of each run of a program that breaks no rule, whatever is told of places
abbrev pub LawTelling : Type 0
LawTelling =
    (p : Program) → IsFormed p → breaks_of p ≡ [] → (input : List ℕ) (opts : Options) (j : Journal) (w : World)
    (r : Runs (source_of p) input opts j w) (base : Exec → Value → Ty → Bool) →
    IsTelling p (few_of p input opts j w r base) opts j
