use Rattle.std.proofs.Common.{ℕ, List, ◌∙◌, ap, arith, slice_index_or, length}
use Rattle.uc_mutex.specs.Offers.{found_or}
use Rattle.uc_mutex.proofs.Offering.{all_listed}
use Rattle.uc_mutex.proofs.offers.find_members.Goals as goal

pub returns : goal.returns
returns c = λ rest m lm.
    c.loop-at.invariant rest m lm
    ∙ ap (λ (l : List (ℕ × ℕ)). found_or (slice_index_or c.loop-at.found m 0) l m) (all_listed c.args.clause c.args.members.now c.loop-at.at (omega (arith, ap length c.members.view_is)) rest)
