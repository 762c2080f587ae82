-- Constructors that are called where the scope of an object opens next: what they build is waited for.
use Rattle.std.specs.Prelude.{◌≡◌, ℕ, ◌⊎◌, Bool, List, [], ◌∷◌}
use Rattle.uc_tree.specs.Programs.{Program}
use Rattle.uc_tree.specs.Source.{Scoped}
use Rattle.uc_machine.specs.Pieces as piece
use Rattle.uc_machine.specs.Pieces.{Todo, State}
use Rattle.uc_resolve.specs.Resolve.{source_of}
use Rattle.uc_rules.specs.Breaks.{breaks_of}
use Rattle.uc_typing.specs.Typing.{Table}
use Rattle.uc_sound.specs.SoundFormed.{IsFormed}
use Rattle.uc_sound.specs.Tables.{table_of}
use Rattle.uc_life_laws.specs.Makings.{BuildsAt}
use Rattle.uc_place_laws.specs.OpeningLaws.{IsCalled}
use Rattle.uc_building_laws.specs.BuildingLaws.{IsPlain}

-- the scope of an object that is a variable opens next behind the call
abbrev pub OpensPlain : Table → List Todo → Type 0
OpensPlain t (piece.DropNow ∷ (piece.Within line ∷ (piece.Rest (Scoped c ss) ∷ todo))) = IsPlain t c
OpensPlain t todo = ⊥

-- in a state in which its constructor is called there, as uc_place_laws has it, a step finds what law_makings asks of it, whatever is told to be
-- destructors
abbrev pub LawAwaited : Type 0
LawAwaited =
    (p : Program) → IsFormed p → breaks_of p ≡ [] → (ends : ℕ → Bool) (s : State) → IsCalled p (source_of p) s →
    (r : ℕ) (todo : List Todo) →
    (s.run.control ≡ piece.CallOnNow r ∷ todo) ⊎ (s.run.control ≡ piece.CallUnwrittenNow r ∷ todo) →
    OpensPlain (table_of p) todo → BuildsAt (table_of p) ends (source_of p) s s.run.control
