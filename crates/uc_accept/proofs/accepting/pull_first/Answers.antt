use Rattle.std.proofs.Common.{◌≡◌, ℕ, ◌<◌, ◌+◌, true, false, List, ◌∙◌, ap, sym, arith, length, drop, slice_index_or}
use Rattle.uc_tree.specs.Programs.{Site}
use Rattle.uc_tree.specs.SiteOffers.{has_bit, met, offers_from}
use Rattle.uc_mutex.specs.Doors.{Doors, door_at}
use Rattle.uc_mutex.proofs.Offering.{next_true, next_false}
use Rattle.uc_accept.specs.Accepting.{unpulled}
use Rattle.uc_accept.proofs.Trying.{listed, length_listed}
use Rattle.uc_accept.proofs.accepting.pull_first.Goals as goal
use Rattle.uc_accept.proofs.accepting.pull_first.Goals.{then-has_clause+in_default, else-has_clause}

pub returns-in-Some-clause-value : goal.returns-in-Some-clause-value
returns-in-Some-clause-value g c =
    let same = ap (λ (s : Site). s.clauses) c.site.view_is in
    let cs = c.args.site.now.clauses in let at = c.loop-at.at in let o = c.args.object in
    let ws = (door_at c.args.entries.now o).waiting in
    let below : at < length cs = omega (arith, ap length same) in
    let later = offers_from (at + 1) c.args.mask (drop (at + 1) cs) in
    let is = c.index.ensures ∙ ap (λ (l : List (List ℕ)). slice_index_or l at c.index.result.now) same in
    let bit : has_bit at c.args.mask ≡ true = sym c.has_clause.ensures ∙ c.if-has_clause.true in
    sym (
    c.loop-at.invariant.tried
    ∙ ap (λ l. met l ws) (next_true at c.args.mask cs c.index.result.now below is bit)
    ∙ ap (λ (y : Doors). met (listed (at + 1) c.index.result.now later) (door_at y o).waiting) (sym c.loop-at.invariant.same)
    ∙ c.in-Some.ensures.some later
    )

pub loop-at-preserved : goal.loop-at-preserved
loop-at-preserved g c =
    let same = ap (λ (s : Site). s.clauses) c.site.view_is in
    let cs = c.args.site.now.clauses in let at = c.loop-at.at in let o = c.args.object in
    let ws = (door_at c.args.entries.now o).waiting in
    let below : at < length cs = omega (arith, ap length same) in
    let later = offers_from (at + 1) c.args.mask (drop (at + 1) cs) in
    elim c.if-has_clause.branch [
      | then-has_clause+in_default w ↦
          let is = w.index.ensures ∙ ap (λ (l : List (List ℕ)). slice_index_or l at w.index.result.now) same in
          let bit : has_bit at c.args.mask ≡ true = sym c.has_clause.ensures ∙ w.if-has_clause.true in
          let next = next_true at c.args.mask cs w.index.result.now below is bit in
          let longer = ap length next ∙ length_listed (at + 1) w.index.result.now later in
          record {
            same = ap unpulled w.entries-is ∙ w.in_default.ensures.same ∙ c.loop-at.invariant.same;
            tried =
                c.loop-at.invariant.tried
                ∙ ap (λ l. met l ws) next
                ∙ ap (λ (y : Doors). met (listed (at + 1) w.index.result.now later) (door_at y o).waiting) (sym c.loop-at.invariant.same)
                ∙ w.in_default.ensures.none later
                ∙ ap (λ (y : Doors). met later (door_at y o).waiting) c.loop-at.invariant.same;
            moves = omega (arith, longer, w.moves-is, w.in_default.ensures.moves);
          }
      | else-has_clause w ↦
          let bit : has_bit at c.args.mask ≡ false = sym c.has_clause.ensures ∙ w.if-has_clause.false in
          let next = next_false at c.args.mask cs below bit in
          record {
            same = ap unpulled w.entries-is ∙ c.loop-at.invariant.same;
            tried = c.loop-at.invariant.tried ∙ ap (λ l. met l ws) next;
            moves = omega (arith, ap length next, w.moves-is);
          }
    ]
