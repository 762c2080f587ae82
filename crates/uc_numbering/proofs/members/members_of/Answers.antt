use Rattle.std.proofs.Common.{◌≤◌, map, length, subst, sym, arith}
use Rattle.uc_tree.specs.declared.limits.TheConstants.{MEMBERS}
use Rattle.uc_tree.specs.Numbering.{mutex_members}
use Rattle.uc_numbering.proofs.Listed.{cut_fits, map_length}
use Rattle.uc_numbering.proofs.members.members_of.Goals as goal

pub returns-clause-few : goal.returns-clause-few
returns-clause-few c =
    let few : length (map (λ n. n.now) c.in_ok-names.names.items) ≤ MEMBERS = subst (λ l. length l ≤ MEMBERS) (sym c.in_ok-names.ensures) (cut_fits MEMBERS (mutex_members c.args.class.now)) in
    omega (arith, map_length (λ n. n.now) c.in_ok-names.names.items)
