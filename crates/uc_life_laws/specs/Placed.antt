-- All marks of activations, with the frame and the object of each, and which of them are outermost.
use Rattle.std.specs.Prelude.{ℕ, List, [], ◌∷◌}
use Rattle.uc_machine.specs.Pieces.{Value, Todo, Clean, Part, Sort, sort, IsClean, IsPart, Active}

-- a mark, with the frame and the object of its activation
pub record Placed : Type 0 where
  pub frame : ℕ
  pub this : Value
  pub mark : Todo

-- all marks of activations, the innermost first
abbrev pub put : Sort → ℕ → Value → List Placed → List Placed
put (IsClean c) f this ps = record { frame = f; this = this; mark = Clean c } ∷ ps
put (IsPart c) f this ps = record { frame = f; this = this; mark = Part c } ∷ ps
put k f this ps = ps

abbrev pub placed : ℕ → Value → List Todo → List Placed → List Placed
placed f this [] ps = ps
placed f this (p ∷ todo) ps = put (sort p) f this (placed f this todo ps)

abbrev pub stacked : List Active → List Placed
stacked [] = []
stacked (a ∷ older) = placed a.frame a.this a.control (stacked older)

-- these are the outermost ones of those
pub data Ends (ps : List Placed) : List Placed → Type 0 where
  all : Ends ps ps
  behind : {p : Placed} {qs : List Placed} → Ends ps qs → Ends ps (p ∷ qs)
