use Rattle.std.proofs.Common.{◌≡◌, ℕ, ◌<◌, ◌≤◌, ◌+◌, true, false, List, ◌∙◌, ap, sym, subst, arith, length, drop, slice_index_or}
use Rattle.std.proofs.lemmas.List.{at_drop_all, get_or-replicate}
use Rattle.uc_tree.specs.Programs.{Site}
use Rattle.uc_tree.specs.SiteOffers.{has_bit, offers_from}
use Rattle.uc_mutex.specs.Offers.{found_or, offers_by}
use Rattle.uc_mutex.proofs.Offering.{clauses_are, none_left, next_true, next_false}
use Rattle.uc_mutex.proofs.offers.clauses_by.Goals as goal
use Rattle.uc_mutex.proofs.offers.clauses_by.Goals.{then-has_clause, else-has_clause}

pub returns : goal.returns
returns c =
    let same = ap (λ (s : Site). s.clauses) c.site.view_is in
    clauses_are c.loop-at.found (offers_by c.args.site.now c.args.mask) c.loop-at.invariant.all
    (λ m lt. c.loop-at.invariant.clause m lt ∙ ap (λ l. found_or (slice_index_or c.loop-at.found m 0) l m) (at_drop_all (offers_from c.loop-at.at c.args.mask) c.args.site.now.clauses c.loop-at.at (omega (arith, ap length same))) ∙ none_left (slice_index_or c.loop-at.found m 0) m)

pub loop-at-preserved : goal.loop-at-preserved
loop-at-preserved c =
    let same = ap (λ (s : Site). s.clauses) c.site.view_is in
    let cs = c.args.site.now.clauses in let at = c.loop-at.at in
    let below : at < length cs = omega (arith, ap length same) in
    let later = offers_from (at + 1) c.args.mask (drop (at + 1) cs) in
    record {
      all = elim c.if-has_clause.branch [ then-has_clause w ↦ ap length w.found-is ∙ w.find_members.array_long | else-has_clause w ↦ ap length w.found-is ∙ c.loop-at.invariant.all ];
      clause = λ m lt. elim c.if-has_clause.branch [
        | then-has_clause w ↦
            let is = w.index.ensures ∙ ap (λ (l : List (List ℕ)). slice_index_or l at w.index.result.now) same in
            let bit : has_bit at c.args.mask ≡ true = sym c.has_clause.ensures ∙ w.if-has_clause.true in
            c.loop-at.invariant.clause m lt
            ∙ ap (λ (l : List (ℕ × ℕ)). found_or (slice_index_or c.loop-at.found m 0) l m) (next_true at c.args.mask cs w.index.result.now below is bit)
            ∙ w.find_members.ensures later m lt
            ∙ ap (λ (f : List ℕ). found_or (slice_index_or f m 0) later m) (sym w.found-is)
        | else-has_clause w ↦
            let bit : has_bit at c.args.mask ≡ false = sym c.has_clause.ensures ∙ w.if-has_clause.false in
            c.loop-at.invariant.clause m lt
            ∙ ap (λ (l : List (ℕ × ℕ)). found_or (slice_index_or c.loop-at.found m 0) l m) (next_false at c.args.mask cs below bit)
            ∙ ap (λ (f : List ℕ). found_or (slice_index_or f m 0) later m) (sym w.found-is)
      ];
    }

pub loop-at-init : goal.loop-at-init
loop-at-init c = record {
  all = search Rattle.std.proofs.Common.rules;
  clause = λ m lt. ap (λ (f : ℕ). found_or f (offers_by c.args.site.now c.args.mask) m) (sym (get_or-replicate 32 m 0 0 lt));
}
