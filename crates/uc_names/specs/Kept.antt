-- What a table of blocks keeps. Declarations and the places where blocks start are listed newest first.
use Rattle.std.specs.Prelude.{◌≡◌, ℕ, ◌-◌, ◌<◌, ◌≤◌, List, [], ◌∷◌, Bool, false, Option, Some, None, nat_eq, nat_le, length, map, reverse, take, drop, get_or, if◌then◌else◌}
use Rattle.uc_names.specs.Blocks.{Block}
use Rattle.uc_names.specs.Seen.{Seen}
use Rattle.uc_names.specs.declared.scope.Declaration.{Declaration}

-- a declaration as a name with its id
abbrev pub named : List (List ℕ) → Declaration → List ℕ × ℕ
named names d = (get_or names d.name [], d.id)

-- the declarations of a vector as names with their ids, the newest first
abbrev pub bindings : Seen → List Declaration → Block
bindings s items = map (named s.names) (reverse items)

-- what stands at this place or behind it
abbrev pub newer_than : ℕ → Block → Block
newer_than start b = take (length b - start) b

-- declarations parted into blocks that start at these places
abbrev pub parted : Block → List ℕ → List Block
parted b [] = []
parted b (s ∷ ss) = newer_than s b ∷ parted (drop (length b - s) b) ss

-- the blocks start one behind the other, and the outermost with the first declaration
abbrev pub Starts : ℕ → List ℕ → Type 0
Starts n [] = n ≡ 0
Starts n (s ∷ ss) = (s ≤ n) × Starts s ss

-- the place of the newest declaration of a name
abbrev pub newest_of : List Declaration → ℕ → Option ℕ
newest_of [] name = None
newest_of (d ∷ ds) name = if nat_eq d.name name then Some (length ds) else newest_of ds name

-- whether a place is that of a declaration in the block that starts here
abbrev pub is_from : ℕ → Option ℕ → Bool
is_from start None = false
is_from start (Some place) = nat_le start place

-- each declaration has the number of a name and knows what it hides
abbrev pub Hides : ℕ → List Declaration → Type 0
Hides count [] = Unit {0}
Hides count (d ∷ ds) = (d.name < count) × (d.hidden ≡ newest_of ds d.name) × Hides count ds

-- each name has the place of its newest declaration
pub record Agrees (s : Seen) (ds : List Declaration) : Type 0 where
  pub full : length s.places ≡ length s.names
  pub hides : Hides (length s.names) ds
  pub newest : (name : ℕ) → get_or s.places name None ≡ newest_of ds name
