use Rattle.std.proofs.Common.{◌≡◌, ℕ, ◌-◌, refl, ap, ◌∙◌, arith}
use Rattle.std.specs.Prelude.{unwrap_or}
use Rattle.std.specs.Ordering.{nat_cmp}
use Rattle.std.specs.Map.{lookup}
use Rattle.std.specs.BTreeMap.{is_at}
use Rattle.uc_acts.specs.Journal.{entries_at}
use Rattle.uc_acts.specs.Queues.{used}
use Rattle.uc_acts.specs.Known.{owner}
use Rattle.uc_judge.proofs.tasks.Tasks.new.Goals as goal

all_left : (n : ℕ) → n ≡ n - 0
all_left n = omega arith

pub returns : goal.returns
unfolding used owner entries_at
returns c = record {
  slice = refl;
  own = λ t. ap (lookup (is_at (nat_cmp t))) c.new.ensures.empty;
  owners = λ o. ap (lookup (is_at (nat_cmp o))) c.new-2.ensures.empty;
  left = λ t. ap (λ l. unwrap_or (lookup (is_at (nat_cmp t)) l) c.args.opts.now.slice) c.new-3.ensures.empty ∙ all_left c.args.opts.now.slice;
}
