use Rattle.std.proofs.Common.{length}
use Rattle.uc_tree.specs.declared.limits.TheConstants.{NESTING}
use Rattle.uc_grammar.specs.Text.{IsProgram}
use Rattle.uc_nesting.proofs.Programs.{programs_within}
use Rattle.uc_nesting.proofs.laws.law_parsed.Goals as goal

pub returns : goal.returns
unfolding IsProgram
returns c = λ ts p r. (programs_within NESTING).holds ts 0 (length ts) p r
