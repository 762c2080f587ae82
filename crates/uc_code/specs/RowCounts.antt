-- How many handler rows clean-ups and ways out have.
use Rattle.std.specs.Prelude.{ℕ, suc, ◌+◌, List, [], ◌∷◌, Option, Some, None}
use Rattle.uc_tree.specs.Source.{Way, ToBreak, ToContinue, ToReturn, ToEnd}
use Rattle.uc_code.specs.declared.rows.Array.{Array}
use Rattle.uc_code.specs.declared.rows.Cleaning.{Cleaning}
use Rattle.uc_code.specs.declared.rows.Cleaning.TheVariants as cleaning
use Rattle.uc_code.specs.declared.rows.CodeMark.{CodeMark}
use Rattle.uc_code.specs.declared.rows.CodeMark.TheVariants as mark

-- the turns over the elements of an array have one
abbrev pub array_rows : Option Array → ℕ
array_rows None = 0
array_rows (Some a) = 1

abbrev pub cleaning_rows : Cleaning → ℕ
cleaning_rows (cleaning.Call what) = array_rows what.array
cleaning_rows cleaning.TakeDown = 0
cleaning_rows cleaning.Forget = 0
cleaning_rows cleaning.Leave = 0
cleaning_rows cleaning.End = 0
cleaning_rows (cleaning.Free main) = 0
cleaning_rows (cleaning.Restore cell) = 0

-- what leaves the scope of an object cleans it up under a row of its own: up to the end of the innermost loop, and of the routine

abbrev pub loop_rows : List CodeMark → ℕ
loop_rows [] = 0
loop_rows (mark.Body routine ∷ ms) = 0
loop_rows (mark.Finish main routine line row ∷ ms) = 0
loop_rows (mark.Loop leave again ∷ ms) = 0
loop_rows (mark.Whole leave row ∷ ms) = 0
loop_rows (mark.Guard row ∷ ms) = loop_rows ms
loop_rows (mark.Clean what line row ∷ ms) = suc (cleaning_rows what + loop_rows ms)
loop_rows (mark.Part row ∷ ms) = loop_rows ms
loop_rows (mark.Elements row ∷ ms) = loop_rows ms
loop_rows (mark.Outward below row ∷ ms) = 0

abbrev pub return_rows : List CodeMark → ℕ
return_rows [] = 0
return_rows (mark.Body routine ∷ ms) = 0
return_rows (mark.Finish main routine line row ∷ ms) = 0
return_rows (mark.Loop leave again ∷ ms) = return_rows ms
return_rows (mark.Whole leave row ∷ ms) = 0
return_rows (mark.Guard row ∷ ms) = return_rows ms
return_rows (mark.Clean what line row ∷ ms) = suc (cleaning_rows what + return_rows ms)
return_rows (mark.Part row ∷ ms) = return_rows ms
return_rows (mark.Elements row ∷ ms) = return_rows ms
return_rows (mark.Outward below row ∷ ms) = 0

abbrev pub exit_rows : Way → List CodeMark → ℕ
exit_rows ToBreak ms = loop_rows ms
exit_rows ToContinue ms = loop_rows ms
exit_rows ToReturn ms = return_rows ms
exit_rows ToEnd ms = return_rows ms
