use Rattle.std.proofs.Common.{[], ◌∷◌, ◌++◌, refl, arith, length-append}
use Rattle.std.proofs.lemmas.List.Elements.{All-push}
use Rattle.uc_judge.specs.Narrow.{IsTold}
use Rattle.uc_judge.proofs.Settling.{adds_of, ledger_of}
use Rattle.uc_judge.proofs.ledger.Ledger.add.Goals as goal

pub returns : goal.returns
returns c =
    let h = c.requires.ledger in
    let j = c.args.self.now.entries.items in
    let opts = c.args.self.now.opts in
    let n = length-append j (c.args.e ∷ []) in
    adds_of c.in_ok-push.ensures.items refl (ledger_of (j ++ c.args.e ∷ []) c.in_ok-push.ensures.items (All-push IsTold j c.args.e h.told (record { fit = c.requires.fit; narrow = c.requires.narrow })) h.few (c.in_ok-add.ensures.ok j h.views) (c.in_ok-add-2.ensures j h.schedule) (λ lt. c.add-3.ensures opts j h.few (omega (arith, lt, n)) (h.counts (omega (arith, lt, n)))) (c.in_ok-add-3.ensures opts j h.tasks) (c.in_ok-add-4.ensures j h.accepts) (c.in_ok-add-5.ensures j h.pending) (c.in_ok-add-6.ensures j h.stacks) (c.in_ok-add-7.ensures opts j h.processors))
