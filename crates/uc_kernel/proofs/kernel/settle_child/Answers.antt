use Rattle.std.proofs.Common.{sym, ap, ◌∙◌, ◌∷◌, ◌++◌, []}
use Rattle.uc_kernel.proofs.Hands.{some-same}
use Rattle.uc_kernel.proofs.kernel.settle_child.Goals as goal

pub returns-in-Some-clause-child : goal.returns-in-Some-clause-child
returns-in-Some-clause-child g c = λ x m h f.
    record {
      rest = record { task = c.in-Some.child; members = c.with_own.result };
      task = some-same (sym c.in-Some.is ∙ h);
      items = c.with_own.ensures m (c.take_from-own.ensures.value ∙ f) ∙ ap (λ l. l ++ (c.args.object, m) ∷ []) c.requires.empty;
      last = c.push_reserved.ensures.items;
    }
