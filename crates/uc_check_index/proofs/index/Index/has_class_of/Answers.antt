use Rattle.std.proofs.Common.{◌≡◌, ap, ◌∙◌}
use Rattle.std.specs.List.{list_any}
use Rattle.uc_names.specs.Blocks.{found}
use Rattle.uc_rules.specs.ItemBreaks.{is_class_of}
use Rattle.uc_check_index.specs.Keys.{kind_key}
use Rattle.uc_check_index.specs.Topics.{class_key}
use Rattle.uc_check_index.proofs.Askings.{classes_keyed}
use Rattle.uc_check_index.proofs.FirstsLemmas.{is_anywhere}
use Rattle.uc_check_index.proofs.index.Index.has_class_of.Goals as goal

pub returns : goal.returns
returns c =
    let e : c.first_in-first.result ≡ found c.self.inside.keyed.kinds (kind_key c.args.forward.now.kind c.args.forward.now.name) = c.first_in-first.ensures ∙ ap (λ b. found c.self.inside.keyed.kinds b) (c.deref.ensures.value ∙ c.in_ok-key.ensures) in
    c.is_some.ensures
    ∙ is_anywhere class_key c.self.inside.program.now.items c.self.inside.keyed.kinds (kind_key c.args.forward.now.kind c.args.forward.now.name) c.first_in-first.result (is_class_of c.args.forward.now) c.self.invariant.1.kinds_are e (classes_keyed c.args.forward.now)
    ∙ ap (λ p. list_any (is_class_of c.args.forward.now) p.items) c.self.view_is
