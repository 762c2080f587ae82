-- Names of the items of a program, where no member and no local hides them: a constant is its value, and a routine is the one of its
-- number, where a table tells the routines.
use Rattle.std.specs.Prelude.{◌≡◌, ℕ, List, Some, None, map}
use Rattle.uc_tree.specs.Numbering.{routines_of}
use Rattle.uc_tree.specs.Programs.{Program}
use Rattle.uc_resolve.specs.Standings.{routine_from, params_of, own_meant}
use Rattle.uc_rules.specs.declared.rules.Entity.TheVariants as entity
use Rattle.uc_rules.specs.Names.{routine_sig, params_in, outer_named}
use Rattle.uc_rules.specs.Scopes.{Env, named, local_named}
use Rattle.uc_rules.specs.Entities.{meant_entity}
use Rattle.uc_rules.specs.ProgramVisits.{program_visits}
use Rattle.uc_typing.specs.Typing.{Name, Sig, Table, IsRoutine, IsOpen}
use Rattle.uc_sound.specs.Agreement.{param_ty, AreLike, AgreesIf}
use Rattle.uc_sound.specs.Unbroken.{Unbroken}

-- a table tells the routine of an item: the number of the routine with this name, its parameters, and that it has no object
pub record TellsRoutine (t : Table) (p : Program) (name : List ℕ) (i : ℕ) : Type 0 where
  pub number : ℕ
  pub found : routine_from (routines_of p) 0 name ≡ Some number
  pub params : AreLike p (params_in (routine_sig p i)) (params_of p number)
  pub table : map (param_ty p) (params_of p number) ≡ (t.routine number).params
  pub alone : (t.routine number).this ≡ None
  pub known : IsRoutine t number
  pub reached : IsOpen (t.routine number).inward

abbrev pub TellsRoutines : Table → Program → Type 0
TellsRoutines t p = (name : List ℕ) (i : ℕ) → meant_entity (outer_named p name) ≡ Some (entity.Routine i) → TellsRoutine t p name i

module _ (t : Table) (g : Sig) (sc : List Name) where
  -- outside of classes, in a program that breaks no rule
  abbrev pub LawItems : Type 0
  LawItems = (env : Env) → Unbroken (program_visits env.program) → TellsRoutines t env.program → env.around.home ≡ None → (name : List ℕ) → local_named env.names name ≡ None → AgreesIf t g sc env.program (meant_entity (named env name)) (own_meant env.program None name)
