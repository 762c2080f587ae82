-- The event that a base names.
use Rattle.std.proofs.Common.{◌≡◌, refl}
use Rattle.uc_tree.specs.declared.kinds.Base.{Base}
use Rattle.uc_tree.specs.declared.kinds.Base.TheVariants as base
use Rattle.uc_tree.specs.Programs.{Program}
use Rattle.uc_tree.specs.Cells.{classes_of}
use Rattle.uc_tree.specs.Objects.{event_place}
use Rattle.uc_layout.specs.FieldContents.{event_in}

pub event_is : (p : Program) (b : Base) → event_in (classes_of p.items) b ≡ event_place p b
event_is p base.Void = refl
event_is p base.Int = refl
event_is p base.Char = refl
event_is p base.Bool = refl
event_is p base.Condition = refl
event_is p base.Cluster = refl
event_is p base.Processor = refl
event_is p (base.Named name) = refl
