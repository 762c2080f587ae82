use Rattle.std.proofs.Common.{◌≡◌, ◌++◌, drop, map}
use Rattle.uc_layout.specs.FieldContents.{row_by, rows_by}
use Rattle.uc_layout.proofs.held.rows_of.Given as goal

abbrev pub invariant-loop-class : goal.invariant-loop-class
invariant-loop-class l = l.rows.items ++ map (row_by (map (λ c. c.now) l.classes.list.now) (map (λ c. c.now) l.known.constants.now) l.known.values.now) (map (λ c. c.now) (drop l.class-index l.classes.list.now)) ≡ rows_by (map (λ c. c.now) l.classes.list.now) (map (λ c. c.now) l.known.constants.now) l.known.values.now
