use Rattle.std.proofs.Common.{ap, inl, inr, sym, true, ◌∙◌, ◌≡◌}
use Rattle.uc_outside.specs.Memory.{ListedSink, is_listed, next_call}
use Rattle.uc_outside.proofs.Listed.{listed_as, too_small}
use Rattle.uc_outside.proofs.mem_sink.MemSinkSink.put.Goals.{then-contains, else-contains}
use Rattle.uc_outside.proofs.mem_sink.MemSinkSink.put.Goals as goal

pub returns-then-self-clause-must_fail : goal.returns-then-self-clause-must_fail
returns-then-self-clause-must_fail c =
    let puts = ap (λ (s : ListedSink). next_call s.puts) c.self.view_is in
    let fails = ap (λ (s : ListedSink). s.fails) c.self.view_is in
    elim c.if-contains.branch [
      | then-contains w ↦
          let listed : is_listed c.args.self.now.fails (next_call c.args.self.now.puts) ≡ true =
          listed_as (c.deref.ensures.value ∙ fails) (c.saturating_add-self-inside.ensures ∙ puts) c.contains.ensures.value w.if-contains.true in
          inl listed
      | else-contains w ↦
          inr (too_small c.args.piece.now (ap (λ (s : ListedSink). s.left) c.self.view_is) (ap (λ (s : ListedSink). s.most) c.self.view_is) c.min.ensures (sym w.self-is ∙ c.if-self.true))
    ]
