-- What a store is seen as, and what each answer of a read means.
use Rattle.std.specs.Prelude.{◌≡◌, ℕ, ◌<◌, ◌≤◌, Bool, List, length, Option, Some, None, IsTrue, IsSome}
use Rattle.std.specs.Ordering.{nat_cmp}
use Rattle.std.specs.Cmp.Lexicographic.{slice_cmp}
use Rattle.std.specs.FinMap as map
use Rattle.uc_outside.specs.Faults.{CountRose}
use Rattle.uc_outside.specs.declared.faults.StoreFault.{StoreFault}
use Rattle.uc_outside.specs.declared.faults.StoreFault.TheVariants.{Failed, TooLong, NoMemory}

-- a finite map from names to bytes
abbrev pub Files : Type 0
Files = map.FinMap (slice_cmp nat_cmp) (List ℕ)

-- the bytes of a name, if the map has it
abbrev pub file_of : Files → List ℕ → Option (List ℕ)
file_of files name = map.get files name

-- a store, as contracts see it
pub record StoreState : Type 0 where
  -- how many of its reads have failed
  pub count : ℕ
  -- its files, where it tells them
  pub told : Option Files
  -- whether it fails for no other reason than a name that it does not have
  pub steady : Bool

-- a steady store tells its files
pub record SteadyTells (store : StoreState) : Type 0 where
  pub tells : IsTrue store.steady → IsSome store.told

-- the store tells its files, and has this name with no more bytes than the limit
pub record HasFile (store : StoreState) (name : List ℕ) (limit : ℕ) : Type 0 where
  pub files : Files
  pub is_told : store.told ≡ Some files
  pub bytes : List ℕ
  pub is_file : file_of files name ≡ Some bytes
  pub fits : length bytes ≤ limit

-- the store's files and steadiness stay, and its count does not fall
pub record KeepsFiles (before after : StoreState) : Type 0 where
  pub same_told : after.told ≡ before.told
  pub same_steady : after.steady ≡ before.steady
  pub never_falls : before.count ≤ after.count

-- the bytes of the name were read, and they are no longer than the limit
pub record ReadBytes (before after : StoreState) (name : List ℕ) (limit : ℕ) (bytes : List ℕ) : Type 0 where
  pub same_count : after.count ≡ before.count
  pub within : length bytes ≤ limit
  pub content : (files : Files) → before.told ≡ Some files → file_of files name ≡ Some bytes

-- the read failed: the count rose, and a steady store does not have the name
pub record ReadFailed (before after : StoreState) (name : List ℕ) : Type 0 where
  pub rose : CountRose before.count after.count
  pub absent : IsTrue before.steady → (files : Files) → before.told ≡ Some files → file_of files name ≡ None

-- the bytes of the name are longer than the limit
pub record ReadTooLong (before after : StoreState) (name : List ℕ) (limit : ℕ) : Type 0 where
  pub same_count : after.count ≡ before.count
  pub exceeds : (files : Files) → before.told ≡ Some files → (bytes : List ℕ) × (file_of files name ≡ Some bytes) × (limit < length bytes)

-- memory was refused for bytes that are no longer than the limit
pub record ReadNoMemory (before after : StoreState) (name : List ℕ) (limit : ℕ) : Type 0 where
  pub same_count : after.count ≡ before.count
  pub fits : (files : Files) → before.told ≡ Some files → (bytes : List ℕ) × (file_of files name ≡ Some bytes) × (length bytes ≤ limit)

-- what each fault of a read means
abbrev pub ReadFault : StoreState → StoreState → List ℕ → ℕ → StoreFault → Type 0
ReadFault before after name limit Failed = ReadFailed before after name
ReadFault before after name limit TooLong = ReadTooLong before after name limit
ReadFault before after name limit NoMemory = ReadNoMemory before after name limit
