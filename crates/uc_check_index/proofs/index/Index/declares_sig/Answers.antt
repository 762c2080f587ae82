use Rattle.std.proofs.Common.{◌≡◌, ap, ◌∙◌}
use Rattle.std.specs.List.{list_any}
use Rattle.uc_names.specs.Blocks.{found}
use Rattle.uc_rules.specs.ItemBreaks.{declares_sig}
use Rattle.uc_check_index.specs.Keys.{sig_key}
use Rattle.uc_check_index.specs.Topics.{proto_key}
use Rattle.uc_check_index.proofs.Askings.{protos_keyed}
use Rattle.uc_check_index.proofs.FirstsLemmas.{is_anywhere}
use Rattle.uc_check_index.proofs.index.Index.declares_sig.Goals as goal

pub returns : goal.returns
returns c =
    let e : c.first_in-first.result ≡ found c.self.inside.keyed.protos (sig_key c.args.sig.now) = c.first_in-first.ensures ∙ ap (λ b. found c.self.inside.keyed.protos b) (c.deref.ensures.value ∙ c.in_ok-key.ensures) in
    c.is_some.ensures
    ∙ is_anywhere proto_key c.self.inside.program.now.items c.self.inside.keyed.protos (sig_key c.args.sig.now) c.first_in-first.result (declares_sig c.args.sig.now) c.self.invariant.1.protos_are e (protos_keyed c.args.sig.now)
    ∙ ap (λ p. list_any (declares_sig c.args.sig.now) p.items) c.self.view_is
