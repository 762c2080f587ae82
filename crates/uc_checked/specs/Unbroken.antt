-- What is known of a program that was checked.
use Rattle.std.specs.Prelude.{◌≡◌, ℕ, List, []}
use Rattle.uc_tree.specs.Programs.{Program, Site}
use Rattle.uc_tree.specs.Numbering.{sites_of, texts_of}
use Rattle.uc_rules.specs.Breaks.{breaks_of}

pub record IsUnbroken (program : Program) (sites : List Site) (texts : List (List ℕ)) : Type 0 where
  pub no_break : breaks_of program ≡ []
  pub sites_are : sites ≡ sites_of program
  pub texts_are : texts ≡ texts_of program
