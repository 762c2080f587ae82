-- What a sink is seen as, and what a put does to it.
use Rattle.std.specs.Prelude.{◌≡◌, ℕ, ◌+◌, ◌<◌, ◌≤◌, List, ◌++◌, length, Option, Some, Bool, IsTrue}
use Rattle.std.specs.Option.{option_map}
use Rattle.uc_outside.specs.Faults.{CountRose}

-- a sink, as contracts see it
pub record SinkState : Type 0 where
  -- how many of its puts have failed
  pub count : ℕ
  -- the bytes that it took, where it tells them
  pub told : Option (List ℕ)
  -- how many bytes it still takes for certain, where it has such a number
  pub room : Option ℕ
  -- whether its last put failed
  pub failing : Bool

-- what is told grew by just these bytes; what is not told stays so
pub record Grew (before after : Option (List ℕ)) (bytes : List ℕ) : Type 0 where
  pub grown : after ≡ option_map (λ held. held ++ bytes) before

-- the room is less by this number; what has none goes on having none
pub record Used (before after : Option ℕ) (count : ℕ) : Type 0 where
  pub used : option_map (λ left. left + count) after ≡ before

-- what is told grew by just these bytes, and the room is less by their number
pub record Gained (before after : SinkState) (bytes : List ℕ) : Type 0 where
  pub told : Grew before.told after.told bytes
  pub room : Used before.room after.room (length bytes)

-- the sink took just these bytes, and nothing failed
pub record Took (before after : SinkState) (bytes : List ℕ) : Type 0 where
  pub same_count : after.count ≡ before.count
  pub still : IsTrue after.failing → IsTrue before.failing
  pub gained : Gained before after bytes

-- the sink failed at this text: one put failed, none was made after it, and a room, if there is one, was too small for the text
pub record FailedAt (before after : SinkState) (text : List ℕ) : Type 0 where
  pub rose : CountRose before.count after.count
  pub once : after.count ≤ before.count + 1
  pub last : IsTrue after.failing
  pub longer : (left : ℕ) → before.room ≡ Some left → left < length text

-- nothing was taken
pub record TookNothing (before after : SinkState) : Type 0 where
  pub same_told : after.told ≡ before.told
  pub same_room : after.room ≡ before.room

-- just a prefix of the text was taken
pub record TookPrefix (before after : SinkState) (text : List ℕ) : Type 0 where
  pub prefix : List ℕ
  pub rest : List ℕ
  pub is_prefix : text ≡ prefix ++ rest
  pub gained : Gained before after prefix

-- after a put that failed none was made: at most one put failed, and where one did, it was the last
pub record Stopped (before after : SinkState) : Type 0 where
  pub once : after.count ≤ before.count + 1
  pub last : before.count < after.count → IsTrue after.failing

-- the sink has a room, and the bytes fit into it
pub record HasRoom (sink : SinkState) (bytes : List ℕ) : Type 0 where
  pub left : ℕ
  pub is_room : sink.room ≡ Some left
  pub fits : length bytes ≤ left
