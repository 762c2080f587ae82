-- Tables of the events of a program and of their constructors, by the names of the events.
use Rattle.std.specs.Prelude.{◌≡◌, ℕ, ◌+◌, List, [], ◌∷◌, ◌++◌, Bool, ◌&&◌, Option, nat_eq, if◌then◌else◌, length, option_and_then, option_map, unwrap_or}
use Rattle.uc_names.specs.Blocks.{Block, found}
use Rattle.uc_layout.specs.Places.{IsPlaces}
use Rattle.uc_tree.specs.declared.limits.TheConstants.{FIRST_EVENT, LAST_EVENT}
use Rattle.uc_tree.specs.Programs.{Class, Sig}
use Rattle.uc_tree.specs.Numbering.{Defined, at_most, event_names}
use Rattle.uc_tree.specs.Objects.{is_constructor}
use Rattle.uc_resolve.specs.Resolve.{event_constructor_from}
use Rattle.uc_lower_expr.specs.RoutineTables.{noted_name}

-- a constructor builds an event where its class has no number
abbrev pub builds_event : ℕ → Sig → Bool
builds_event number s = nat_eq number 0 && is_constructor s.role

-- a table of the constructors of events with one routine more, of the class of a number
abbrev pub noted_builder : ℕ → Sig → ℕ → List Block → List Block
noted_builder owner s number bs = if builds_event owner s then noted_name bs s.name number else bs

-- a table of those of these routines that build events
pub record AreBuilders (ds : List Defined) (numbers : List Block) : Type 0 where
  pub one : length numbers ≡ 1
  pub at : (name : List ℕ) → found numbers name ≡ event_constructor_from ds 0 name

-- a table of so many events with those of one class more, so many then
pub record NotesEvent (c : Class) (count next : ℕ) (old new : List Block) : Type 0 where
  pub more : (names : List (List ℕ)) → length names ≡ count → IsPlaces names old → IsPlaces (names ++ event_names (c ∷ [])) new
  pub long : count + length (event_names (c ∷ [])) ≡ next

-- the number of the event with this place among the events
abbrev pub event_by : Option ℕ → ℕ
event_by place = unwrap_or (option_and_then (at_most LAST_EVENT) (option_map (λ k. FIRST_EVENT + k) place)) 0
