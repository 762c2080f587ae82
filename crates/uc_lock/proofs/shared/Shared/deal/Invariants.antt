use Rattle.std.proofs.Common.{◌≡◌, ℕ, suc, ◌+◌, ◌<◌, ◌≤◌, [], Some, length}
use Rattle.std.specs.Prelude.{slice_get, vec_capacity}
use Rattle.uc_lock.specs.Rule.{opened}
use Rattle.uc_lock.specs.Meanings.{fresh}
use Rattle.uc_lock.proofs.shared.Shared.deal.Given as goal

abbrev pub invariant-loop-number : goal.invariant-loop-number
invariant-loop-number g l = record {
  least : 1 ≤ l.number;
  most : l.number ≤ l.seats;
  kept_of : l.kept.table_id ≡ l.fn.self.id;
  kept_is : l.kept.me ≡ (record (opened l.fn.self.terms) { made = l.number }, []);
  long : length l.dealt.items + 1 ≡ l.number;
  wide : vec_capacity l.dealt ≡ l.seats;
  each : (i : ℕ) → suc i < l.number → slice_get l.dealt.items i ≡ Some (fresh l.fn.self (suc i));
}
