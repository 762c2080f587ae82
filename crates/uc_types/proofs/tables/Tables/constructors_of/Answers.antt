use Rattle.std.proofs.Common.{ap, ◌∙◌}
use Rattle.uc_types.specs.OuterConstructors.{constructors_in}
use Rattle.uc_types.proofs.tables.Tables.constructors_of.Goals as goal

pub returns : goal.returns
returns c =
    c.of_class-routines.ensures
    ∙ ap (λ l. constructors_in c.args.name.now l) c.self.invariant.1.outside_is
    ∙ ap (λ p. constructors_in c.args.name.now p.items) c.self.view_is
