use Rattle.std.proofs.Common.{◌≡◌, ap, ◌∙◌}
use Rattle.std.specs.List.{list_any}
use Rattle.uc_names.specs.Blocks.{found}
use Rattle.uc_rules.specs.ItemBreaks.{defines_sig}
use Rattle.uc_check_index.specs.Keys.{sig_key}
use Rattle.uc_check_index.specs.Topics.{routine_key}
use Rattle.uc_check_index.proofs.Askings.{routines_keyed}
use Rattle.uc_check_index.proofs.FirstsLemmas.{is_anywhere}
use Rattle.uc_check_index.proofs.index.Index.defines_sig.Goals as goal

pub returns : goal.returns
returns c =
    let e : c.first_in-first.result ≡ found c.self.inside.keyed.routines (sig_key c.args.sig.now) = c.first_in-first.ensures ∙ ap (λ b. found c.self.inside.keyed.routines b) (c.deref.ensures.value ∙ c.in_ok-key.ensures) in
    c.is_some.ensures
    ∙ is_anywhere routine_key c.self.inside.program.now.items c.self.inside.keyed.routines (sig_key c.args.sig.now) c.first_in-first.result (defines_sig c.args.sig.now) c.self.invariant.1.routines_are e (routines_keyed c.args.sig.now)
    ∙ ap (λ p. list_any (defines_sig c.args.sig.now) p.items) c.self.view_is
