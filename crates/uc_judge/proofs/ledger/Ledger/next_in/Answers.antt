use Rattle.std.proofs.Common.{arith, ◌≡◌, ℕ, suc, ◌<◌, List, ◌∷◌, ap, sym, ◌∙◌, length, drop, get_or}
use Rattle.std.proofs.Math.Seq.{drop-cons}
use Rattle.uc_entry.specs.declared.entry.Entry.{Entry}
use Rattle.uc_judge.proofs.ledger.Ledger.next_in.Goals as goal

at : (z : List Entry) (n m : ℕ) (d : Entry) → m ≡ n → n < length z → drop n z ≡ get_or z m d ∷ drop (suc n) z
at z n m d h lt = drop-cons z n d lt ∙ ap (λ k. get_or z k d ∷ drop (suc n) z) (sym h)

pub returns : goal.returns
returns c =
    let l = c.args.self.now.entries.ok.0 in
    let i = c.len.ensures in
    at c.args.journal.now (length c.args.self.now.entries.items) c.len.result _ (omega (arith, l, i)) c.requires
