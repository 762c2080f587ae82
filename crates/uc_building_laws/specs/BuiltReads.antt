-- What a constructor reads of the object that it builds, where that has been bound.
use Rattle.std.specs.Prelude.{◌≡◌, ℕ, ◌&&◌, ◌||◌, Bool, true, false, List, [], ◌∷◌, Option, Some, None, nat_eq, if◌then◌else◌}
use Rattle.uc_tree.specs.Programs.{Program}
use Rattle.uc_tree.specs.Source.{Variable, OfObject, GetOwn, CallOn, CallUnwritten, CleanUp, Destroys, Scoped}
use Rattle.uc_machine.specs.declared.exec.Exec.{Exec}
use Rattle.uc_machine.specs.declared.exec.Owner.{Owner}
use Rattle.uc_machine.specs.declared.exec.Owner.TheVariants.{Frame, Fields}
use Rattle.uc_machine.specs.Executions.{exec_eq}
use Rattle.uc_machine.specs.Pieces as piece
use Rattle.uc_machine.specs.Pieces.{Link, Slot, Value, Place, Todo, Active, State}
use Rattle.uc_rules.specs.Breaks.{breaks_of}
use Rattle.uc_typing.specs.Typing.{Sig, Table}
use Rattle.uc_sound.specs.SoundFormed.{IsFormed}
use Rattle.uc_sound.specs.Tables.{table_of}
use Rattle.uc_life_laws.specs.Things.{Few}
use Rattle.uc_life_laws.specs.Knowing.{Finds}
use Rattle.uc_building_laws.specs.Building.{is_settled, heads_of}
use Rattle.uc_building_laws.specs.BuildingStates.{BuiltState}

-- a statement that is left may still bind the field m
abbrev pub may_bind : ℕ → List Todo → Bool
may_bind m [] = false
may_bind m (piece.Rest ss ∷ todo) = if is_settled m ss then false else true
may_bind m (piece.Unwind ∷ todo) = true
may_bind m (p ∷ todo) = may_bind m todo

-- the class of an object that is a variable, by what destroys it, and the variable
abbrev pub ended_class : Sig → Option ℕ
ended_class g = if g.whole then g.this else None

abbrev pub scope_class : Table → CleanUp → Option ℕ
scope_class t (Destroys (OfObject (CallOn d (Variable k) args))) = ended_class (t.routine d)
scope_class t (Destroys (OfObject (CallUnwritten d (Variable k)))) = ended_class (t.routine d)
scope_class t c = None

abbrev pub scope_variable : CleanUp → ℕ
scope_variable (Destroys (OfObject (CallOn d (Variable k) args))) = k
scope_variable (Destroys (OfObject (CallUnwritten d (Variable k)))) = k
scope_variable c = 0

-- a value is the place of that variable in the frame of a depth
abbrev pub is_slot : ℕ → List Link → Bool
is_slot k (Slot j ∷ []) = nat_eq j k
is_slot k p = false

abbrev pub in_frame : Exec → ℕ → Owner → Bool
in_frame n f (Frame x d) = exec_eq x n && nat_eq d f
in_frame n f (Fields o) = false

abbrev pub is_variable : Exec → ℕ → ℕ → Value → Bool
is_variable n f k (Place o p) = in_frame n f o && is_slot k p
is_variable n f k v = false

-- both classes are there and one, of which it is told
abbrev pub is_told : (ℕ → Bool) → Option ℕ → Option ℕ → Bool
is_told told (Some c) (Some d) = nat_eq c d && told c
is_told told c d = false

module _ (t : Table) (heads : ℕ → ℕ → Bool) (g : Sig) (s : State) where
  -- the object at hand, of this kind, is the one whose scope opens next in such a list, of the frame of a depth, and it is told of the field m of its class
  abbrev pub builds_it : ℕ → ℕ → List Todo → Bool
  builds_it m f (piece.DropNow ∷ (piece.Within line ∷ (piece.Rest (Scoped c ss) ∷ todo))) =
      is_told (λ i. heads i m) g.this (scope_class t c) && is_variable s.env.exec f (scope_variable c) s.run.this
  builds_it m f todo = false

  -- an activation that has this to do, and may not bind that field any more, builds it for the first that waits, or an older one does
  abbrev pub is_building : ℕ → List Todo → List Active → Bool
  is_building m todo [] = false
  is_building m todo (b ∷ older) = (builds_it m b.frame b.control && (if may_bind m todo then false else true)) || is_building m b.control older

  -- what is read next is what such a field of the object at hand is bound to: by its constructor, or by what that calls
  abbrev pub reads_bound_at : List Todo → Bool
  reads_bound_at (piece.Eval (OfObject (GetOwn k m)) ∷ todo) = is_building m todo s.callers
  reads_bound_at todo = false

  abbrev pub reads_bound : Bool
  reads_bound = reads_bound_at s.run.control

-- then that is known: in a state in which all is known by kinds by which objects that are built hold what is known, such a step finds what it is to find; so
-- it is of each program that breaks no rule, whatever numbers, homes and bases are told
abbrev pub LawBuiltReads : Type 0
LawBuiltReads =
    (p : Program) → IsFormed p → breaks_of p ≡ [] → (few : Few) (s : State) (x : BuiltState (table_of p) (heads_of p) few [] s) →
    reads_bound (table_of p) (heads_of p) x.0.run.sig s ≡ true →
    Finds (table_of p) few x.0.sigs x.0.run.sig x.0.run.scope s s.run.control x.0.run.own
