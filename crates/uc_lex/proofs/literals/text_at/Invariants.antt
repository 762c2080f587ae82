use Rattle.std.proofs.Common.{length, ◌-◌, ◌≡◌, ◌≤◌, drop}
use Rattle.uc_tree.specs.Tokens.{text_ending}
use Rattle.uc_lex.proofs.Endings.{behind_all}
use Rattle.uc_lex.proofs.literals.text_at.Given as goal

-- the literal goes on as what is left does, behind the value so far
abbrev pub invariant-pieces : goal.invariant-pieces
invariant-pieces l = record {
  goes_on : text_ending l.body ≡ behind_all l.value.items l.at (text_ending (drop l.at l.body));
  within : l.at ≤ length l.body;
  short : length l.value.items ≤ l.at;
}

abbrev pub decreases-pieces : goal.decreases-pieces
decreases-pieces l = length l.body - l.at
