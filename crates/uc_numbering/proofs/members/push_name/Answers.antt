use Rattle.std.proofs.Common.{◌≡◌, ◌<◌, true, false, map, length, sym, ap, ◌∙◌, ◌++◌, ◌∷◌, [], arith, rules}
use Rattle.std.specs.List.{list_any}
use Rattle.uc_tree.specs.declared.limits.TheConstants.{MEMBERS}
use Rattle.uc_tree.specs.Names.{same_name}
use Rattle.uc_tree.specs.Numbering.{exclusive_name}
use Rattle.uc_numbering.proofs.Listed.{kept_none, kept_full, kept_listed, kept_new, map_length, map_push}
use Rattle.uc_numbering.proofs.members.push_name.Goals as goal

pub returns-then-len : goal.returns-then-len
returns-then-len c =
    let len : length (map (λ n. n.now) c.args.names.now.items) ≡ MEMBERS = map_length (λ n. n.now) c.args.names.now.items ∙ search rules in
    kept_full (exclusive_name c.args.member.now) (map (λ n. n.now) c.args.names.now.items) c.in-Some.name.now (sym c.in-Some.ensures) len

pub returns-then-is_listed : goal.returns-then-is_listed
returns-then-is_listed c =
    let there : list_any (λ m. same_name m c.in-Some.name.now) (map (λ n. n.now) c.args.names.now.items) ≡ true = search rules in
    kept_listed (exclusive_name c.args.member.now) (map (λ n. n.now) c.args.names.now.items) c.in-Some.name.now (sym c.in-Some.ensures) there c.requires.few

pub returns-in_ok-push-in-Some : goal.returns-in_ok-push-in-Some
returns-in_ok-push-in-Some c =
    let there : list_any (λ m. same_name m c.in-Some.name.now) (map (λ n. n.now) c.args.names.now.items) ≡ false = search rules in
    let few : length (map (λ n. n.now) c.args.names.now.items) < MEMBERS = omega (arith, map_length (λ n. n.now) c.args.names.now.items) in
    let items : c.push.new.self.items ≡ c.args.names.now.items ++ c.in-Some.name ∷ [] = search rules in
    ap (λ l. map (λ n. n.now) l) items ∙ map_push (λ n. n.now) c.args.names.now.items c.in-Some.name ∙ kept_new (exclusive_name c.args.member.now) (map (λ n. n.now) c.args.names.now.items) c.in-Some.name.now (sym c.in-Some.ensures) there few

pub returns-in-None : goal.returns-in-None
returns-in-None c = kept_none (exclusive_name c.args.member.now) (map (λ n. n.now) c.args.names.now.items) (sym c.in-None.ensures) c.requires.few
