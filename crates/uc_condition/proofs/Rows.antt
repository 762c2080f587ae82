-- Worked rows: the queues of conditions, by hand.
use Rattle.std.proofs.Common.{◌≡◌, ℕ, pos, List, [], ◌∷◌, Some, None, refl}
use Rattle.uc_condition.specs.Waiting.{Wait}
use Rattle.uc_condition.specs.Waiting.{queue_of, first_task, first_number, rest_of}

abbrev wait : ℕ → ℕ → ℕ → ℕ → Wait
wait o c t n = record { object = o; cond = c; task = t; n = pos n }

-- tasks 3 and 5 wait on condition 0 of object 1, and task 4 on its condition 1
abbrev three : List Wait
three = wait 1 0 3 7 ∷ wait 1 1 4 8 ∷ wait 1 0 5 9 ∷ []

oldest : first_task (queue_of three 1 0) ≡ Some 3
oldest = refl

its_number : first_number (queue_of three 1 0) ≡ Some (pos 7)
its_number = refl

left : rest_of (queue_of three 1 0) ≡ (5, pos 9) ∷ []
left = refl

other_condition : queue_of three 1 1 ≡ (4, pos 8) ∷ []
other_condition = refl

other_object : first_task (queue_of three 2 0) ≡ None
other_object = refl
