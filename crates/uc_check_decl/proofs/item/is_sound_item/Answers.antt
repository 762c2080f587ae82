use Rattle.std.proofs.Common.{ap, sym, ◌∙◌}
use Rattle.uc_rules.specs.ProgramVisits.{owner_home}
use Rattle.uc_check_decl.proofs.item.is_sound_item.Goals as goal

pub is_definition-requires : goal.is_definition-requires
is_definition-requires c = c.owner_home-home.ensures ∙ ap (λ p. owner_home p c.sig.inside.owner) (sym c.requires)
