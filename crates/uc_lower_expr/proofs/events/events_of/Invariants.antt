use Rattle.std.proofs.Common.{◌≡◌, length, take}
use Rattle.uc_layout.specs.Places.{IsPlaces}
use Rattle.uc_tree.specs.Cells.{classes_of}
use Rattle.uc_tree.specs.Numbering.{event_names}
use Rattle.uc_lower_expr.proofs.events.events_of.Given as goal

abbrev pub invariant-loop-place : goal.invariant-loop-place
invariant-loop-place l = (length (event_names (take l.place (classes_of l.sizes.items))) ≡ l.known) × IsPlaces (event_names (take l.place (classes_of l.sizes.items))) l.events
