-- Which programs are accepted, which texts are those of one, and what is wrong with any other.
use Rattle.std.specs.Prelude.{◌≡◌, ℕ, zero, suc, ◌<◌, ◌≤◌, List, [], ◌∷◌, length, slice_get, Some}
use Rattle.uc_tree.specs.declared.limits.TheConstants.{NESTING, FRAME_CELLS, PROGRAM_SIZE}
use Rattle.uc_tree.specs.declared.token.Token.{Token}
use Rattle.uc_tree.specs.declared.pos.Pos.{Pos}
use Rattle.uc_tree.specs.declared.scan.LexicalFault.{LexicalFault}
use Rattle.uc_tree.specs.Tokens.{tokens, Read, Refused, pos_at}
use Rattle.uc_tree.specs.Programs.{Program}
use Rattle.uc_tree.specs.Cells.{routine_cells}
use Rattle.uc_tree.specs.Sizes.{program_size}
use Rattle.uc_tree.specs.Numbering.{Defined, routines_of}
use Rattle.uc_grammar.specs.declared.fault.ParseFault.TheVariants.{Syntax, TooDeep}
use Rattle.uc_grammar.specs.Text.{IsProgram, ProgramFails}
use Rattle.uc_parse_class.specs.Found.{FirstTooDeep, NeverProgram, NoProgram}
use Rattle.uc_rules.specs.declared.rule.Rule.{Rule}
use Rattle.uc_rules.specs.Breaks.{breaks_of}
use Rattle.uc_rules.specs.Firsts.{IsFirst}

-- programs

-- the frame of each written routine, of a class or not, has at most so many cells; a routine that nobody wrote has none
pub record FitFrames (program : Program) : Type 0 where
  pub each : (number : ℕ) (routine : Defined) → slice_get (routines_of program) number ≡ Some routine → routine_cells program routine.routine ≤ FRAME_CELLS

-- a program that breaks no rule, and whose frames and size are within their limits
pub record IsAccepted (program : Program) : Type 0 where
  pub no_break : breaks_of program ≡ []
  pub frames : FitFrames program
  pub size : program_size program ≤ PROGRAM_SIZE

-- a program of which this is the first break
abbrev pub BreaksFirst : Rule → Pos → Program → Type 0
BreaksFirst rule place program = IsFirst (breaks_of program) (record { rule = rule; pos = place })

-- one of whose routines has more cells than a frame may have
pub record HasLargeFrame (program : Program) : Type 0 where
  pub no_break : breaks_of program ≡ []
  pub number : ℕ
  pub routine : Defined
  pub there : slice_get (routines_of program) number ≡ Some routine
  pub large : FRAME_CELLS < routine_cells program routine.routine

-- one whose frames fit, and whose size is greater than that of a program may be
pub record HasLargeCode (program : Program) : Type 0 where
  pub no_break : breaks_of program ≡ []
  pub frames : FitFrames program
  pub large : PROGRAM_SIZE < program_size program

-- texts

-- the tokens of the text are those of this program, all of them, and of no other
pub record Spells (text : List ℕ) (program : Program) : Type 0 where
  pub list : List Token
  pub lexed : tokens text ≡ Read list
  pub spelled : IsProgram NESTING list 0 (length list) program

abbrev pub SpellsOnly : List ℕ → Program → Type 0
SpellsOnly text program = (other : Program) → Spells text other → other ≡ program

-- at this token the tokens stop being the beginning of a program: none that begin with it and all before it are one
pub record SyntaxFault (list : List Token) (token : ℕ) : Type 0 where
  pub fails : ProgramFails NESTING list 0 (Syntax token)
  pub never : NeverProgram list token
  pub none : NoProgram NESTING list
  pub within : token ≤ length list

-- at this token a piece begins that is nested deeper than may be
pub record DeepFault (list : List Token) (token : ℕ) : Type 0 where
  pub fails : ProgramFails NESTING list 0 (TooDeep token)
  pub first : FirstTooDeep NESTING list token
  pub none : NoProgram NESTING list
  pub within : token ≤ length list

-- the text is that of an accepted program
pub record IsAcceptedText (text : List ℕ) (program : Program) : Type 0 where
  pub spells : Spells text program
  pub accepted : IsAccepted program

-- the text has no tokens: at the least offset, which is at this place, none can stand, for this reason
pub record HasFault (text : List ℕ) (why : LexicalFault) (pos : Pos) : Type 0 where
  pub at : ℕ
  pub lexed : tokens text ≡ Refused why at
  pub place : pos ≡ pos_at text at

-- the place of a token by its number; behind the last one it is that just past the last byte
abbrev pub place_of : List ℕ → List Token → ℕ → Pos
place_of text [] k = pos_at text (length text)
place_of text (t ∷ ts) zero = t.pos
place_of text (t ∷ ts) (suc k) = place_of text ts k

-- the text has tokens, and at the token at this place it stops being the beginning of a program
pub record HasSyntaxFault (text : List ℕ) (pos : Pos) : Type 0 where
  pub list : List Token
  pub lexed : tokens text ≡ Read list
  pub token : ℕ
  pub fault : SyntaxFault list token
  pub place : pos ≡ place_of text list token

-- the text has tokens, and at the token at this place a piece begins that is nested too deep
pub record HasDeepFault (text : List ℕ) (pos : Pos) : Type 0 where
  pub list : List Token
  pub lexed : tokens text ≡ Read list
  pub token : ℕ
  pub fault : DeepFault list token
  pub place : pos ≡ place_of text list token

-- the text is that of one program, and it is such a one
pub record IsTextOf (text : List ℕ) (Is : Program → Type 0) : Type 0 where
  pub program : Program
  pub spells : Spells text program
  pub only : SpellsOnly text program
  pub is : Is program
