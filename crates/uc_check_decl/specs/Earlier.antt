-- Whether what a name of a class means stands before a place in it: a field by its place, a routine by that of its member.
use Rattle.std.specs.Prelude.{Bool, false, Option, Some, None, nat_lt}
use Rattle.uc_rules.specs.declared.rules.Entity.{Entity}
use Rattle.uc_rules.specs.declared.rules.Entity.TheVariants as entity
use Rattle.uc_rules.specs.declared.rules.FieldPlace.{FieldPlace}
use Rattle.uc_rules.specs.declared.rules.NameMeaning.{NameMeaning}
use Rattle.uc_rules.specs.declared.rules.Origin.{Origin}
use Rattle.uc_rules.specs.declared.rules.Origin.TheVariants as origin
use Rattle.uc_rules.specs.Names.{is_field_before}

abbrev pub entity_before : FieldPlace → Entity → Bool
entity_before place (entity.Method i j inner by_path) = nat_lt j place.member
entity_before place _ = false

abbrev pub method_before : FieldPlace → Option Entity → Bool
method_before place None = false
method_before place (Some w) = entity_before place w

abbrev pub origin_before : FieldPlace → Option Entity → Origin → Bool
origin_before place w (origin.Field class k access by_ref i) = is_field_before i place
origin_before place w (origin.Method class access) = method_before place w
origin_before place w _ = false

abbrev pub meant_before : FieldPlace → NameMeaning → Bool
meant_before place m = origin_before place m.entity m.origin

abbrev pub stands_before : FieldPlace → Option NameMeaning → Bool
stands_before place None = false
stands_before place (Some m) = meant_before place m
