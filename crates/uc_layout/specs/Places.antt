-- Tables of the places of names in a list: of two places of one name the first counts.
use Rattle.std.specs.Prelude.{◌≡◌, ℕ, List, length}
use Rattle.uc_tree.specs.Numbering.{place_from}
use Rattle.uc_names.specs.Blocks.{Block, found}

pub record IsPlaces (names : List (List ℕ)) (blocks : List Block) : Type 0 where
  pub one : length blocks ≡ 1
  pub at : (name : List ℕ) → found blocks name ≡ place_from 0 names name
