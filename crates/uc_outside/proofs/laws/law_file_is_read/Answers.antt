use Rattle.uc_outside.proofs.Read.{has_file-content, has_file-not_long, has_file-no_failure}
use Rattle.uc_outside.proofs.laws.law_file_is_read.Goals as goal

pub returns : goal.returns
returns c = record {
  content = λ a b name bytes limit h r. has_file-content h r;
  not_long = λ a b name limit h f. has_file-not_long h f;
  steady = λ a b name limit s h f. has_file-no_failure s h f;
}
