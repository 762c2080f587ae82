use Rattle.uc_explain.proofs.LineLemmas.{HasExplained}
use Rattle.uc_explain.proofs.explaining.explain.Given as goal

abbrev pub invariant-loop-number : goal.invariant-loop-number
invariant-loop-number l = HasExplained l.object l.number l.journal l.text.items l.before l.now
