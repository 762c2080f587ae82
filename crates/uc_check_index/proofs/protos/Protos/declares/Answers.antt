use Rattle.std.proofs.Common.{◌≡◌, ap, ◌∙◌}
use Rattle.std.specs.List.{list_any}
use Rattle.uc_names.specs.Blocks.{found}
use Rattle.uc_rules.specs.ItemBreaks.{form_declares_sig}
use Rattle.uc_check_index.specs.Keys.{sig_key}
use Rattle.uc_check_index.specs.Topics.{member_key_of}
use Rattle.uc_check_index.specs.declared.topics.MemberTopic.TheVariants as member_topic
use Rattle.uc_check_index.proofs.Askings.{form_sigs_keyed}
use Rattle.uc_check_index.proofs.FirstsLemmas.{is_anywhere}
use Rattle.uc_check_index.proofs.protos.Protos.declares.Goals as goal

pub returns : goal.returns
returns c =
    let sig = c.args.sig.now in
    let e : c.first_in-first.result ≡ found c.self.inside.sigs (sig_key sig) = c.first_in-first.ensures ∙ ap (λ b. found c.self.inside.sigs b) (c.deref.ensures.value ∙ c.in_ok-key.ensures) in
    c.is_some.ensures
    ∙ is_anywhere (member_key_of member_topic.Sig) c.self.inside.class.now.members c.self.inside.sigs (sig_key sig) c.first_in-first.result (λ m. form_declares_sig sig m.form) c.self.invariant.sigs_are e (λ m. form_sigs_keyed sig m.form)
    ∙ ap (λ k. list_any (λ m. form_declares_sig sig m.form) k.members) c.self.view_is
