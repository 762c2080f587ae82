use Rattle.std.proofs.Common.{◌≡◌, ◌-◌, ◌+◌, suc, [], ◌∷◌, length, Some, ap, ◌∙◌, inl, inr, rules, arith, length-append}
use Rattle.std.specs.Prelude.{slice_get}
use Rattle.std.proofs.lemmas.Bool.{cases_lt}
use Rattle.uc_lock.specs.Meanings.{fresh}
use Rattle.uc_lock.proofs.Dealing.{get_before, get_last, last_first, each_from, split_seat, first_seat, split_on}
use Rattle.uc_lock.proofs.shared.Shared.deal.Goals as goal

pub loop-number-init : goal.loop-number-init
loop-number-init g c = record {
  least = omega arith;
  most = c.requires.seats.1;
  kept_of = c.requires.first.0;
  kept_is = c.requires.first.1;
  long = ap (λ xs. length xs + 1) c.in_ok-dealt.ensures.items;
  wide = search rules;
  each = λ i lt. absurd (omega arith);
}

pub loop-number-preserved : goal.loop-number-preserved
loop-number-preserved g c =
    let inv = c.loop-number.invariant in let more = c.loop-number-test.true in let items = c.push_reserved.ensures.items in
    let newest : c.of.result ≡ fresh c.args.self.now c.loop-number.number = c.of.ensures ∙ split_seat c.args.self.now c.split-token.result.table_id c.split-token.result.me c.loop-number.kept.me c.loop-number.number (c.split-token.ensures.new.0 ∙ c.loop-number.invariant.kept_of) c.split-token.ensures.new.1 c.loop-number.invariant.kept_is in
    record {
      least = omega arith;
      most = omega arith;
      kept_of = c.split-token.ensures.kept.0 ∙ inv.kept_of;
      kept_is = split_on c.args.self.now c.split-token.new.seat.me c.loop-number.kept.me c.loop-number.number c.split-token.ensures.kept.1 c.loop-number.invariant.kept_is;
      long = let e = inv.long in let f : length c.push_reserved.new.self.items ≡ length c.loop-number.dealt.items + 1 = ap length items ∙ length-append c.loop-number.dealt.items (c.of.result ∷ []) in omega arith;
      wide = c.push_reserved.ensures.capacity ∙ inv.wide;
      each = λ i lt. let e = inv.long in ap (λ xs. slice_get xs i) items ∙ elim (cases_lt (suc i) c.loop-number.number) [
        | inl u ↦ get_before c.loop-number.dealt.items (c.of.result ∷ []) i (omega arith) ∙ inv.each i u
        | inr u ↦ get_last c.loop-number.dealt.items c.of.result i (omega arith) ∙ ap Some (newest ∙ ap (fresh c.args.self.now) (omega arith))
      ];
    }

pub returns-clause-count : goal.returns-clause-count
returns-clause-count g c =
    let inv = c.loop-number.invariant in let e = inv.long in let most = inv.most in let done = c.loop-number-test.false in
    let ok = c.loop-number.dealt.ok.0 in let len = c.push_reserved-2.ensures.len in let same = c.rotate_right.ensures.len in let new = c.rotate_right.new.self.ok.0 in
    omega arith

pub returns-clause-each : goal.returns-clause-each
returns-clause-each g c i lt =
    let inv = c.loop-number.invariant in let most = inv.most in let done = c.loop-number-test.false in let ok = c.loop-number.dealt.ok.0 in let len = c.push_reserved-2.ensures.len in
    let whole : c.rotate_right.new.self.items ≡ c.of-2.result ∷ c.loop-number.dealt.items = c.rotate_right.ensures.items ∙ last_first c.loop-number.dealt.items c.push_reserved-2.new.self.items c.of-2.result (c.push_reserved-2.new.self.len - 1) (omega arith) c.push_reserved-2.ensures.items in
    let first : c.of-2.result ≡ fresh c.args.self.now 0 = c.of-2.ensures ∙ first_seat c.args.self.now c.loop-number.kept.table_id c.loop-number.kept.me c.loop-number.number c.loop-number.invariant.kept_of c.loop-number.invariant.kept_is in
    ap (λ xs. slice_get xs i) whole ∙ each_from (fresh c.args.self.now) c.of-2.result c.loop-number.dealt.items c.args.seats first (λ j l. inv.each j (omega arith)) i lt
