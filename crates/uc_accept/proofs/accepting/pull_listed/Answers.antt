use Rattle.std.proofs.Common.{ℕ, ◌<◌, ◌≤◌, List, ◌∙◌, ap, sym, arith, length, slice_index_or}
use Rattle.uc_links.specs.Lists.{first_with}
use Rattle.uc_tree.specs.SiteOffers.{met}
use Rattle.uc_mutex.specs.Doors.{Doors, door_at}
use Rattle.uc_accept.proofs.Trying.{found_here, missed_here, pull_missed, all_listed}
use Rattle.uc_accept.proofs.accepting.pull_listed.Goals as goal

pub returns-in-Some-clause-some : goal.returns-in-Some-clause-some
returns-in-Some-clause-some g c = λ rest.
    let ms = c.args.members.now in let at = c.loop-at.at in let m = c.index-member.result.now in let o = c.args.object in
    let lt : at < length ms = omega (arith, ap length c.members.view_is) in
    let is = sym (c.index-member.ensures ∙ ap (λ (l : List ℕ). slice_index_or l at m) c.members.view_is) in
    c.loop-at.invariant.tried rest
    ∙ found_here c.args.clause ms at m lt is (door_at c.args.entries.now o).waiting rest c.in-Some.task (c.in-Some.ensures.value ∙ ap (λ (y : Doors). first_with m (door_at y o).waiting) c.loop-at.invariant.same)

pub loop-at-preserved : goal.loop-at-preserved
loop-at-preserved g c =
    let ms = c.args.members.now in let at = c.loop-at.at in let m = c.index-member.result.now in let o = c.args.object in
    let lt : at < length ms = omega (arith, ap length c.members.view_is) in
    let is = sym (c.index-member.ensures ∙ ap (λ (l : List ℕ). slice_index_or l at m) c.members.view_is) in
    record {
      same = pull_missed c.args.entries.now c.loop-at.entries c.pull.new.self o m c.loop-at.invariant.same c.in_default.ensures.doors c.in_default.ensures.value;
      tried = λ rest.
          c.loop-at.invariant.tried rest
          ∙ missed_here c.args.clause ms at m lt is (door_at c.args.entries.now o).waiting rest (c.in_default.ensures.value ∙ ap (λ (y : Doors). first_with m (door_at y o).waiting) c.loop-at.invariant.same);
      moves = omega (arith, c.in_default.ensures.moves);
    }

pub returns-clause-none : goal.returns-clause-none
returns-clause-none g c = λ rest.
    let le : length c.args.members.now ≤ c.loop-at.at = omega (arith, ap length c.members.view_is) in
    c.loop-at.invariant.tried rest ∙ ap (λ l. met l (door_at c.args.entries.now c.args.object).waiting) (all_listed c.args.clause c.args.members.now c.loop-at.at le rest)
