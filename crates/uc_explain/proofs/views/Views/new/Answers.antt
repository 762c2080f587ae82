use Rattle.std.proofs.Common.{ap, sym, ◌∙◌}
use Rattle.std.specs.Prelude.{unwrap_or}
use Rattle.std.specs.Ordering.{nat_cmp}
use Rattle.std.specs.Map.{lookup}
use Rattle.std.specs.BTreeMap.{is_at}
use Rattle.uc_explain.specs.Steps.{nothing}
use Rattle.uc_explain.proofs.StepLemmas.{shown_nothing}
use Rattle.uc_explain.proofs.views.Views.new.Goals as goal

pub returns : goal.returns
returns c o = ap (λ l. unwrap_or (lookup (is_at (nat_cmp o)) l) nothing) c.new.ensures.empty ∙ sym (shown_nothing o)
