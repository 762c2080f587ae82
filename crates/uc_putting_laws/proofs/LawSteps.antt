-- Of any source in which constructors and destructors are called where they may be, and arguments are counted.
use Rattle.std.proofs.Common.{ℕ, Bool, Option, Some, None}
use Rattle.std.specs.Prelude.{slice_get}
use Rattle.uc_tree.specs.Source.{Routine}
use Rattle.uc_state_laws.specs.Counted.{CountedRoutine, CountedSource}
use Rattle.uc_putting_laws.specs.Calling.{CallingRoutine, FieldsInClass, CallingSource}
use Rattle.uc_putting_laws.specs.Putting.{Setting, CodeRoutine}
use Rattle.uc_putting_laws.specs.PuttingLaws.{LawSteps}
use Rattle.uc_putting_laws.proofs.Walk.{walk, first_put, answered_put}

code_by : (g : Setting) (b : Bool) (o : Option ℕ) (r : Option Routine) → CountedRoutine g.source r → CallingRoutine g.table g.source g.special b o r → FieldsInClass g.table g.source g.special o r → CodeRoutine g b o r
code_by g b o None n q l = tt
code_by g b o (Some r) n q l = (n, q, l)

pub code : (g : Setting) → CountedSource g.source → CallingSource g.table g.source g.special → (n : ℕ) → CodeRoutine g (g.special n) (g.table.routine n).this (slice_get g.source.routines n)
code g known calling n = code_by g (g.special n) (g.table.routine n).this (slice_get g.source.routines n) (known n) (calling.routines n) (calling.fields n)

pub law_steps : LawSteps
law_steps = record {
  begins = λ g known calling r o e. first_put g (code g known calling) r o e;
  steps = λ p g known calling laid s h st fair. walk p g laid (code g known calling) s h st fair;
  told = λ g form given s k f c e. answered_put g form given s k f c e;
}
