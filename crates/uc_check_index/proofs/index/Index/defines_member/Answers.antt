use Rattle.std.proofs.Common.{◌≡◌, take, ap, ◌∙◌}
use Rattle.std.specs.List.{list_any}
use Rattle.uc_names.specs.Blocks.{found}
use Rattle.uc_rules.specs.ItemBreaks.{defines_member}
use Rattle.uc_check_index.specs.Keys.{member_key}
use Rattle.uc_check_index.specs.Topics.{member_of}
use Rattle.uc_check_index.proofs.Askings.{members_keyed}
use Rattle.uc_check_index.proofs.FirstsLemmas.{is_among}
use Rattle.uc_check_index.proofs.index.Index.defines_member.Goals as goal

pub returns : goal.returns
returns c =
    let e : c.first_in-first.result ≡ found c.self.inside.keyed.members (member_key c.args.class.now c.args.sig.now) = c.first_in-first.ensures ∙ ap (λ b. found c.self.inside.keyed.members b) (c.deref.ensures.value ∙ c.in_ok-key.ensures) in
    c.is_before.ensures
    ∙ is_among member_of c.self.inside.program.now.items c.self.inside.keyed.members (member_key c.args.class.now c.args.sig.now) c.first_in-first.result c.args.place (defines_member c.args.class.now c.args.sig.now) c.self.invariant.1.members_are e (members_keyed c.args.class.now c.args.sig.now)
    ∙ ap (λ p. list_any (defines_member c.args.class.now c.args.sig.now) (take c.args.place p.items)) c.self.view_is
