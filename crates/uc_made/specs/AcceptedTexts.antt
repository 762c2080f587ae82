-- Which texts are those of accepted programs.
use Rattle.std.specs.Prelude.{◌≡◌, ℕ, ◌≤◌, List, [], length, slice_get, Some}
use Rattle.uc_tree.specs.declared.limits.TheConstants.{FRAME_CELLS, NESTING, PROGRAM_BYTES, PROGRAM_SIZE}
use Rattle.uc_tree.specs.declared.token.Token.{Token}
use Rattle.uc_tree.specs.Cells.{routine_cells}
use Rattle.uc_tree.specs.Numbering.{Defined, routines_of}
use Rattle.uc_tree.specs.Programs.{Program}
use Rattle.uc_tree.specs.Sizes.{program_size}
use Rattle.uc_tree.specs.Tokens.{tokens, Read}
use Rattle.uc_grammar.specs.Text.{IsProgram}
use Rattle.uc_rules.specs.Breaks.{breaks_of}

-- the text is no longer than one may be, its tokens are those of a program, this breaks no rule, and its frames and its `Size` are
-- within their limits
pub record IsOfAccepted (text : List ℕ) : Type 0 where
  pub short : length text ≤ PROGRAM_BYTES
  pub list : List Token
  pub lexed : tokens text ≡ Read list
  pub program : Program
  pub spelled : IsProgram NESTING list 0 (length list) program
  pub no_break : breaks_of program ≡ []
  pub frames : (number : ℕ) (routine : Defined) → slice_get (routines_of program) number ≡ Some routine → routine_cells program routine.routine ≤ FRAME_CELLS
  pub size : program_size program ≤ PROGRAM_SIZE
