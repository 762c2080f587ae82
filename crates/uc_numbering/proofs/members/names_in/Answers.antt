use Rattle.std.proofs.Common.{◌≡◌, ◌≤◌, ◌+◌, ◌∷◌, [], true, if◌then◌else◌, map, length, take, drop, sym, ap, subst, ◌∙◌, arith, rules}
use Rattle.uc_tree.specs.declared.limits.TheConstants.{MEMBERS}
use Rattle.uc_tree.specs.Numbering.{exclusive_name, exclusive_names, with_name, is_mutex}
use Rattle.uc_numbering.proofs.Listed.{cut_names, cut_all, cut_fits, drop_at, drop_end}
use Rattle.uc_numbering.proofs.members.names_in.Goals as goal

pub loop-member-preserved : goal.loop-member-preserved
loop-member-preserved c =
    let now : map (λ n. n.now) c.push_name.new.names.items ≡ take MEMBERS (with_name (exclusive_name c.member-item.result) (map (λ n. n.now) c.loop-member.names.items)) = c.in_ok-push_name.ensures in
    let here : drop c.loop-member.member-index c.deref-member-items.result.now ≡ c.member-item.result ∷ drop (c.loop-member.member-index + 1) c.deref-member-items.result.now = drop_at c.deref-member-items.result.now c.loop-member.member-index c.member-item.result c.loop-member-test.true c.member-item.is in
    let step : take MEMBERS (exclusive_names (map (λ n. n.now) c.push_name.new.names.items) (drop (c.loop-member.member-index + 1) c.deref-member-items.result.now)) ≡ take MEMBERS (exclusive_names (map (λ n. n.now) c.loop-member.names.items) (drop c.loop-member.member-index c.deref-member-items.result.now)) =
    ap (λ l. take MEMBERS (exclusive_names l (drop (c.loop-member.member-index + 1) c.deref-member-items.result.now))) now
    ∙ cut_names MEMBERS (with_name (exclusive_name c.member-item.result) (map (λ n. n.now) c.loop-member.names.items)) (drop (c.loop-member.member-index + 1) c.deref-member-items.result.now)
    ∙ ap (λ l. take MEMBERS (exclusive_names (map (λ n. n.now) c.loop-member.names.items) l)) (sym here) in
    (subst (λ l. length l ≤ MEMBERS) (sym now) (cut_fits MEMBERS (with_name (exclusive_name c.member-item.result) (map (λ n. n.now) c.loop-member.names.items))), step ∙ c.loop-member.invariant.1)

pub returns : goal.returns
returns c =
    let end : drop c.loop-member.member-index c.deref-member-items.result.now ≡ [] = drop_end c.deref-member-items.result.now c.loop-member.member-index (omega arith) in
    let mutex : is_mutex c.args.class.now.kind ≡ true = search rules in
    let members : c.deref-member-items.result.now ≡ c.args.class.now.members = c.deref-member-items.ensures.value ∙ ap (λ k. k.members) c.class.view_is in
    let all : map (λ n. n.now) c.loop-member.names.items ≡ take MEMBERS (exclusive_names [] c.args.class.now.members) =
    sym (cut_all MEMBERS (map (λ n. n.now) c.loop-member.names.items) c.loop-member.invariant.0)
    ∙ ap (λ l. take MEMBERS (exclusive_names (map (λ n. n.now) c.loop-member.names.items) l)) (sym end)
    ∙ c.loop-member.invariant.1
    ∙ ap (λ l. take MEMBERS (exclusive_names [] l)) members in
    all ∙ ap (λ b. take MEMBERS (if b then exclusive_names [] c.args.class.now.members else [])) (sym mutex)
