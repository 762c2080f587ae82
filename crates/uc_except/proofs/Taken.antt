-- The handler of a resumption that is found stands where a search among activations comes to.
use Rattle.std.proofs.Common.{◌≡◌, ℕ, List, [], ◌∷◌, length, Bool, true, false, Option, Some, None, refl, ap, sym, ◌∙◌}
use Rattle.std.specs.Prelude.{nat_eq, if◌then◌else◌}
use Rattle.uc_machine.specs.declared.exec.Visited.{Visited}
use Rattle.uc_code.specs.declared.rows.HandlerRow.{HandlerRow}
use Rattle.uc_code.specs.Layout.{chain}
use Rattle.uc_frames.specs.PaceInvariant.{place_or, taken_at}
use Rattle.uc_frames.specs.Machine.{Activation}
use Rattle.uc_frames.specs.declared.search.HandlerQuery.TheVariants.{Resume}
use Rattle.uc_frames.specs.Searches.{first_in, chain_within}
use Rattle.uc_except.specs.declared.found.Found.{Found}
use Rattle.uc_except.specs.declared.found.Found.TheVariants.{Handler, None as Nowhere}
use Rattle.uc_except.specs.RowSearch.{found_at, resumed}

abbrev place_of : Found → Option (ℕ × ℕ)
place_of Nowhere = None
place_of (Handler frame row) = Some (frame, row)

place_at : (o : Option ℕ) (n : ℕ) (f : Found) (p : Option (ℕ × ℕ)) → place_of f ≡ p → place_of (found_at o n f) ≡ place_or o n p
place_at None n f p e = e
place_at (Some row) n f p e = refl

place_if : (b : Bool) (f g : Found) (p q : Option (ℕ × ℕ)) → place_of f ≡ p → place_of g ≡ q → place_of (if b then f else g) ≡ (if b then p else q)
place_if true f g p q e h = e
place_if false f g p q e h = h

module _ (rows : List HandlerRow) where
  places : (o : Option Visited) (event : ℕ) (cs : List Activation) → place_of (resumed rows o event cs) ≡ taken_at rows o event cs
  places None event [] = refl
  places (Some v) event [] = refl
  places None event (a ∷ cs) = place_at (first_in (Resume event) rows (chain rows a.control)) (length cs) (resumed rows a.handles event cs) (taken_at rows a.handles event cs) (places a.handles event cs)
  places (Some v) event (a ∷ cs) =
      place_if (nat_eq (length cs) v.level)
      (found_at (first_in (Resume event) rows (chain_within v.rest rows a.control)) (length cs) (resumed rows a.handles event cs)) (resumed rows (Some v) event cs)
      (place_or (first_in (Resume event) rows (chain_within v.rest rows a.control)) (length cs) (taken_at rows a.handles event cs)) (taken_at rows (Some v) event cs)
      (place_at (first_in (Resume event) rows (chain_within v.rest rows a.control)) (length cs) (resumed rows a.handles event cs) (taken_at rows a.handles event cs) (places a.handles event cs))
      (places (Some v) event cs)

  pub taken : (o : Option Visited) (event frame row : ℕ) (cs : List Activation) → resumed rows o event cs ≡ Handler frame row → taken_at rows o event cs ≡ Some (frame, row)
  taken o event frame row cs e = sym (places o event cs) ∙ ap place_of e
