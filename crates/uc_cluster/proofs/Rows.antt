-- Worked rows: clusters and processors, by hand.
use Rattle.std.proofs.Common.{◌≡◌, Some, None, false, true, refl}
use Rattle.uc_cluster.specs.declared.clusters.Stalled.TheVariants as stalled
use Rattle.uc_cluster.specs.Standing.{Standing, opening, made_ready, with_processor, processor_at, with_place, with_cluster, one_more_processor, running, closed, dispatched, after_dispatch, is_in_use, stall_of}

-- two processors and three tasks; tasks 0 and 1 are ready
abbrev two : Standing
two = made_ready 1 (with_place (made_ready 0 (opening 2 3)) 1 (Some 0))

goes_first : dispatched two ≡ Some (0, 0)
goes_first = refl

goes_second : dispatched (after_dispatch two) ≡ Some (1, 1)
goes_second = refl

nobody_is_left : dispatched (after_dispatch (after_dispatch two)) ≡ None
nobody_is_left = refl

-- processor 0 is closed while task 0 runs on it; then task 0 yields
abbrev closing : Standing
closing = let v = after_dispatch two in with_processor v 0 (closed (processor_at v 0))

abbrev yielded : Standing
yielded = made_ready 0 (with_processor closing 0 (running None (processor_at closing 0)))

takes_the_other : dispatched yielded ≡ Some (1, 1)
takes_the_other = refl

takes_no_more : dispatched (after_dispatch yielded) ≡ None
takes_no_more = refl

not_stalled : stall_of yielded ≡ stalled.No
not_stalled = refl

-- with both closed nobody serves those that are ready
no_processor : stall_of (let v = with_processor two 0 (closed (processor_at two 0)) in with_processor v 1 (closed (processor_at v 1))) ≡ stalled.NoProcessor
no_processor = refl

deadlock : stall_of (opening 2 3) ≡ stalled.Deadlock
deadlock = refl

-- a second cluster: not in use, then with a task, then with a processor
abbrev second : Standing
second = with_cluster two

may_end : is_in_use 1 second ≡ false
may_end = refl

with_a_task : is_in_use 1 (with_place second 1 (Some 1)) ≡ true
with_a_task = refl

with_a_processor : is_in_use 1 (one_more_processor 1 second) ≡ true
with_a_processor = refl
