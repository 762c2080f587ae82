use Rattle.uc_outside.proofs.Taken.{took-nothing, took-more, took-prefix, took-failed, prefix-longer, failed-longer}
use Rattle.uc_outside.proofs.laws.law_puts_add_up.Goals as goal

pub returns : goal.returns
returns c = record {
  none = took-nothing;
  took = λ a b c xs ys p q. took-more p q;
  prefix = λ a b c xs ys p q. took-prefix p q;
  failed = λ a b c xs ys p q. took-failed p q;
  prefix_longer = λ a b xs ys p. prefix-longer ys p;
  failed_longer = λ a b xs ys p. failed-longer ys p;
}
