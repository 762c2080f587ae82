-- The handlers that events find, by rows.
use Rattle.std.specs.Prelude.{ℕ, List, [], ◌∷◌, length, Option, Some, None, nat_eq, if◌then◌else◌}
use Rattle.uc_machine.specs.declared.exec.Visited.{Visited}
use Rattle.uc_code.specs.declared.rows.HandlerRow.{HandlerRow}
use Rattle.uc_code.specs.Layout.{chain}
use Rattle.uc_frames.specs.declared.search.HandlerQuery.TheVariants.{Catch, Resume}
use Rattle.uc_frames.specs.Machine.{Activation}
use Rattle.uc_frames.specs.Searches.{first_in, chain_within}
use Rattle.uc_except.specs.declared.found.Found.{Found}
use Rattle.uc_except.specs.declared.found.Found.TheVariants.{Handler, None as Nowhere}

-- a row of the activation with so many below it, or else what is found further out
abbrev pub found_at : Option ℕ → ℕ → Found → Found
found_at None n other = other
found_at (Some row) n other = Handler n row

module _ (rows : List HandlerRow) where
  -- over the activations, the newest first: the first handler that catches an event
  abbrev pub caught : ℕ → List Activation → Found
  caught event [] = Nowhere
  caught event (a ∷ others) = found_at (first_in (Catch event) rows (chain rows a.control)) (length others) (caught event others)

  -- the first one that takes it as a resumption: behind an activation that handles one itself all is passed over that the search for
  -- its handler visited
  abbrev pub resumed : Option Visited → ℕ → List Activation → Found
  resumed visited event [] = Nowhere
  resumed None event (a ∷ others) =
      found_at (first_in (Resume event) rows (chain rows a.control)) (length others) (resumed a.handles event others)
  resumed (Some v) event (a ∷ others) =
      if nat_eq (length others) v.level
      then found_at (first_in (Resume event) rows (chain_within v.rest rows a.control)) (length others) (resumed a.handles event others)
      else resumed (Some v) event others

  -- the row of an activation, if there is one, that catches an event
  abbrev pub catch_in : ℕ → Option Activation → Option ℕ
  catch_in event None = None
  catch_in event (Some a) = first_in (Catch event) rows (chain rows a.control)

  -- that takes it as a resumption, of all or within so many
  abbrev pub resumption_in : Option ℕ → ℕ → Option Activation → Option ℕ
  resumption_in rest event None = None
  resumption_in None event (Some a) = first_in (Resume event) rows (chain rows a.control)
  resumption_in (Some n) event (Some a) = first_in (Resume event) rows (chain_within n rows a.control)

  -- the search from an activation on, of whose handlers it sees all or those within so many
  abbrev pub resumed_from : Option ℕ → ℕ → List Activation → Found
  resumed_from rest event [] = Nowhere
  resumed_from None event (a ∷ others) =
      found_at (first_in (Resume event) rows (chain rows a.control)) (length others) (resumed a.handles event others)
  resumed_from (Some n) event (a ∷ others) =
      found_at (first_in (Resume event) rows (chain_within n rows a.control)) (length others) (resumed a.handles event others)

-- what an activation handles
abbrev pub handles_in : Option Activation → Option Visited
handles_in None = None
handles_in (Some a) = a.handles
