-- Worked rows: what is pending, by hand.
use Rattle.std.proofs.Common.{◌≡◌, pos, List, [], ◌∷◌, Some, None, false, true, refl, replicate}
use Rattle.uc_acts.specs.Pending.{oldest_in}
use Rattle.uc_events.specs.Pending.{Event, has_room, without_oldest}

-- of three, an event of a smaller mask goes first, and then the oldest
abbrev three : List Event
three = (2, pos 1, pos 0) ∷ (2, pos 2, pos 0) ∷ (3, pos 0, pos 0) ∷ []

other_event : oldest_in 8 three ≡ Some (3, pos 0, pos 0)
other_event = refl

without_it : without_oldest 8 three ≡ (2, pos 1, pos 0) ∷ (2, pos 2, pos 0) ∷ []
without_it = refl

any_event : oldest_in 12 three ≡ Some (2, pos 1, pos 0)
any_event = refl

no_event : oldest_in 3 three ≡ None
no_event = refl

-- the thirty-second is pending, the thirty-third is not

one_more : has_room (replicate 31 (2, pos 0, pos 0)) ≡ true
one_more = refl

no_more : has_room (replicate 32 (2, pos 0, pos 0)) ≡ false
no_more = refl
