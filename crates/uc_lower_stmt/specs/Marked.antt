-- The objects in scope where a draft stands, and the ops that end their scopes.
use Rattle.std.specs.Prelude.{ℕ, ◌+◌, ◌*◌, List, [], ◌∷◌, length}
use Rattle.uc_code.specs.declared.rows.Cleaning.{Cleaning}
use Rattle.uc_code.specs.declared.rows.Cleaning.TheVariants as cleaning
use Rattle.uc_code.specs.declared.rows.CodeMark.{CodeMark}
use Rattle.uc_code.specs.declared.rows.CodeMark.TheVariants as mark
use Rattle.uc_code.specs.Drafts.{Draft}
use Rattle.uc_code.specs.OpenRows.{clean_room}

-- 1 where marks stand in a mutex call, of these in the innermost block that is left as a whole

abbrev pub called_by : Cleaning → ℕ → ℕ
called_by (cleaning.Call what) calls = calls
called_by cleaning.TakeDown calls = calls
called_by cleaning.Forget calls = calls
called_by cleaning.Leave calls = 1
called_by cleaning.End calls = calls
called_by (cleaning.Free main) calls = calls
called_by (cleaning.Restore cell) calls = calls

abbrev pub calls_in : List CodeMark → ℕ
calls_in [] = 0
calls_in (mark.Body routine ∷ ms) = calls_in ms
calls_in (mark.Finish main routine line row ∷ ms) = calls_in ms
calls_in (mark.Loop leave again ∷ ms) = calls_in ms
calls_in (mark.Whole leave row ∷ ms) = 0
calls_in (mark.Guard row ∷ ms) = calls_in ms
calls_in (mark.Clean what line row ∷ ms) = called_by what (calls_in ms)
calls_in (mark.Part row ∷ ms) = calls_in ms
calls_in (mark.Elements row ∷ ms) = calls_in ms
calls_in (mark.Outward below row ∷ ms) = calls_in ms

-- how many objects are in scope under marks, in the innermost block that is left as a whole; the object of a mutex call counts where it is
-- in another such call

abbrev pub counted_by : Cleaning → ℕ → ℕ
counted_by (cleaning.Call what) calls = 1
counted_by cleaning.TakeDown calls = 1
counted_by cleaning.Forget calls = 1
counted_by cleaning.Leave calls = calls
counted_by cleaning.End calls = 1
counted_by (cleaning.Free main) calls = 1
counted_by (cleaning.Restore cell) calls = 1

abbrev pub objects_in : List CodeMark → ℕ
objects_in [] = 0
objects_in (mark.Body routine ∷ ms) = objects_in ms
objects_in (mark.Finish main routine line row ∷ ms) = objects_in ms
objects_in (mark.Loop leave again ∷ ms) = objects_in ms
objects_in (mark.Whole leave row ∷ ms) = 0
objects_in (mark.Guard row ∷ ms) = objects_in ms
objects_in (mark.Clean what line row ∷ ms) = counted_by what (calls_in ms) + objects_in ms
objects_in (mark.Part row ∷ ms) = objects_in ms
objects_in (mark.Elements row ∷ ms) = objects_in ms
objects_in (mark.Outward below row ∷ ms) = objects_in ms

-- the ops of a draft, with those that end the scopes of the objects in scope; that of a mutex call ends with its routine

abbrev pub close_room : Cleaning → ℕ
close_room (cleaning.Call what) = 2 * clean_room + 2
close_room cleaning.TakeDown = 4
close_room cleaning.Forget = 4
close_room cleaning.Leave = 0
close_room cleaning.End = 4
close_room (cleaning.Free main) = 4
close_room (cleaning.Restore cell) = 4

abbrev pub closing : List CodeMark → ℕ
closing [] = 0
closing (mark.Body routine ∷ ms) = closing ms
closing (mark.Finish main routine line row ∷ ms) = closing ms
closing (mark.Loop leave again ∷ ms) = closing ms
closing (mark.Whole leave row ∷ ms) = 0
closing (mark.Guard row ∷ ms) = closing ms
closing (mark.Clean what line row ∷ ms) = close_room what + closing ms
closing (mark.Part row ∷ ms) = closing ms
closing (mark.Elements row ∷ ms) = closing ms
closing (mark.Outward below row ∷ ms) = closing ms

abbrev pub taken : Draft → ℕ
taken d = length d.ops + closing d.marks
