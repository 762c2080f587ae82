use Rattle.std.proofs.Common.{rules}
use denote.Enum.Bare.{same_true}
use Rattle.uc_tree.specs.contracts.token.Word.{the_type}
use Rattle.uc_parse_expr.proofs.peek.same_word.Goals as goal

pub returns-clause-same : goal.returns-clause-same
returns-clause-same c is = same_true the_type (search rules) _ _ is
