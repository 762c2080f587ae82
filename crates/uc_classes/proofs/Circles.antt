-- Flags that tell which classes reach a class tell which fields lead back to it.
use Rattle.std.proofs.Common.{◌≡◌, ℕ, List, Bool, Option, Some, None, ◌||◌, nat_eq, length, refl, ap}
use Rattle.uc_tree.specs.declared.rows.FieldClass.{FieldClass}
use Rattle.uc_tree.specs.Rows.{ClassLayout, object_leads, reaches}
use Rattle.uc_layout.specs.ContainmentProgress.{flag_at, Reaching}

pub leads_by : (rows : List ClassLayout) (to : ℕ) (flags : List Bool) → Reaching rows to flags → (o : Option FieldClass) → object_leads (flag_at flags) to o ≡ object_leads (reaches (length rows) rows to) to o
leads_by rows to flags r None = refl
leads_by rows to flags r (Some o) = ap (λ b. nat_eq o.class to || b) (r.at o.class)
