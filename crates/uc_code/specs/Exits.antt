-- What leaves statements before their end.
use Rattle.uc_tree.specs.Source as source
use Rattle.uc_code.specs.declared.rows.Way.{Way}
use Rattle.uc_code.specs.declared.rows.Way.TheVariants as way

abbrev pub way_of : Way → source.Way
way_of way.Break = source.ToBreak
way_of way.Continue = source.ToContinue
way_of way.Value = source.ToReturn
way_of way.End = source.ToEnd
