use Rattle.std.proofs.Common.{◌≡◌, ◌+◌, drop}
use Rattle.std.specs.Prelude.{fold}
use Rattle.uc_tree.specs.Tokens.{next_place}
use Rattle.uc_lex.specs.Places.{InRange}
use Rattle.uc_lex.proofs.place.place_behind.Given as goal

-- what is left leads on from the place so far
abbrev pub invariant-loop-b : goal.invariant-loop-b
invariant-loop-b l = record {
  same : fold next_place l.fn.place l.bytes ≡ fold next_place l.place (drop l.b-index l.bytes);
  at : l.place.at ≡ l.fn.place.at + l.b-index;
  range : InRange l.place;
}
