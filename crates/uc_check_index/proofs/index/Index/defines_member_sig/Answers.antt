use Rattle.std.proofs.Common.{◌≡◌, ap, ◌∙◌}
use Rattle.std.specs.List.{list_any}
use Rattle.uc_names.specs.Blocks.{found}
use Rattle.uc_rules.specs.ItemBreaks.{defines_member_sig}
use Rattle.uc_check_index.specs.Keys.{member_sig_key}
use Rattle.uc_check_index.specs.Topics.{member_sig_of}
use Rattle.uc_check_index.proofs.Askings.{member_sigs_keyed}
use Rattle.uc_check_index.proofs.FirstsLemmas.{is_anywhere}
use Rattle.uc_check_index.proofs.index.Index.defines_member_sig.Goals as goal

pub returns : goal.returns
returns c =
    let e : c.first_in-first.result ≡ found c.self.inside.keyed.member_sigs (member_sig_key c.args.class.now c.args.sig.now) = c.first_in-first.ensures ∙ ap (λ b. found c.self.inside.keyed.member_sigs b) (c.deref.ensures.value ∙ c.in_ok-key.ensures) in
    c.is_some.ensures
    ∙ is_anywhere member_sig_of c.self.inside.program.now.items c.self.inside.keyed.member_sigs (member_sig_key c.args.class.now c.args.sig.now) c.first_in-first.result (defines_member_sig c.args.class.now c.args.sig.now) c.self.invariant.1.sigs_are e (member_sigs_keyed c.args.class.now c.args.sig.now)
    ∙ ap (λ p. list_any (defines_member_sig c.args.class.now c.args.sig.now) p.items) c.self.view_is
