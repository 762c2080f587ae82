use Rattle.std.proofs.Common.{refl, ap, ◌∙◌, Some, ◌∷◌, ◌++◌, []}
use Rattle.uc_kernel.proofs.kernel.first_tasks.Goals as goal

pub returns : goal.returns
returns g c = record {
  rest = record { task = c.args.first; members = c.push.new.self };
  is = c.push_reserved.ensures.items ∙ ap (λ l. l ++ Some (record { task = c.args.first; members = c.push.new.self }) ∷ []) c.in_ok-tasks.ensures.items;
  task = refl;
  items = c.push.ensures.items ∙ ap (λ l. l ++ (0, c.args.own) ∷ []) (c.in_ok-room.ensures.items ∙ c.new-members.ensures);
}
