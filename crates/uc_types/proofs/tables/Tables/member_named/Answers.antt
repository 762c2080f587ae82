use Rattle.std.proofs.Common.{ap, ◌∙◌, option_and_then, slice_get}
use Rattle.uc_rules.specs.Names.{member_named}
use Rattle.uc_types.specs.Listings.{first_named}
use Rattle.uc_types.proofs.Placed.{member_is}
use Rattle.uc_types.proofs.tables.Tables.member_named.Goals as goal

pub returns : goal.returns
returns c =
    c.named_in.ensures
    ∙ ap (λ l. option_and_then (λ ss. first_named ss c.args.name.now) (slice_get l c.args.class)) c.deref.ensures.value
    ∙ member_is c.self.inside.bases c.self.inside.members.items c.args.class c.args.name.now c.self.invariant.0.members_are
    ∙ ap (λ p. member_named p c.args.class c.args.name.now) c.self.view_is
