-- A ride that ends in a request leads to a state in which that is asked.
use Rattle.std.proofs.Common.{◌≡◌, ℕ, ◌⊎◌, inl, inr, sym, subst, refl}
use Rattle.uc_tree.specs.Source.{Source}
use Rattle.uc_entry.specs.declared.request.Asked.{Asked}
use Rattle.uc_entry.specs.declared.request.Request.{Request}
use Rattle.uc_entry.specs.declared.request.Request.TheVariants as ask
use Rattle.uc_machine.specs.Quiet.{State, Goes, Ticks, Asks, quiet}
use Rattle.uc_machine.specs.Rides as rides
use Rattle.uc_machine.specs.Rides.{Rides}
use Rattle.uc_machine.specs.Answering.{answered}
use Rattle.uc_meaning.specs.Runs.{drawn}
use Rattle.uc_resolve.specs.Resolve.{source_of}
use Rattle.uc_state_laws.specs.RoomRuns as runs
use Rattle.uc_state_laws.specs.RoomRuns.{Leads}
use Rattle.uc_state_laws.specs.Opens.{RideMeets, LeadsMeet}
use Rattle.uc_sound.specs.Tables.{table_of}
use Rattle.uc_life_laws.specs.KnownRuns.{Meets, is_made, NamesMade, LawNamed}
use Rattle.uc_life_laws.specs.NamedAsks.{LawAsked}

-- the state in which this is asked
pub record AsksAt (P : State → Type 0) (source : Source) (s : State) (r : Request) : Type 0 where
  pub state : State
  pub leads : Leads source s state
  pub meets : LeadsMeet P source s state leads
  pub here : P state
  pub after : State
  pub asks : quiet source state ≡ Asks r after

module _ (P : State → Type 0) (source : Source) where
  goes_at : {s t : State} {r : Request} {A : Type 0} → quiet source s ≡ Goes t → P s → A ⊎ AsksAt P source t r → A ⊎ AsksAt P source s r
  goes_at e m (inl x) = inl x
  goes_at e m (inr a) = inr (record { state = a.state; leads = runs.goes e a.leads; meets = (m, a.meets); here = a.here; after = a.after; asks = a.asks })

  ticks_at : {s t : State} {r : Request} {A : Type 0} → quiet source s ≡ Ticks t → P s → A ⊎ AsksAt P source t r → A ⊎ AsksAt P source s r
  ticks_at e m (inl x) = inl x
  ticks_at e m (inr a) = inr (record { state = a.state; leads = runs.ticks e a.leads; meets = (m, a.meets); here = a.here; after = a.after; asks = a.asks })

  pub asks_at : {s u : State} {q k : ℕ} {a : Asked} (r : Rides source s q u k a) → RideMeets P source s q u k a r → (a.request ≡ ask.Slice) ⊎ AsksAt P source s a.request
  asks_at rides.slices m = inl refl
  asks_at (rides.goes_on e r) m = goes_at e m.0 (asks_at r m.1)
  asks_at (rides.ticks e r) m = ticks_at e m.0 (asks_at r m.1)
  asks_at (rides.asks {s} {t} e) m = inr (record { state = s; leads = runs.stays; meets = tt; here = m; after = t; asks = e })

pub asked_by : LawNamed → LawAsked
asked_by named p formed ok input opts range j w r f on m q t n s asked d meets =
    by (asks_at (Meets (table_of p) (is_made opts j)) (source_of p) d.rides meets)
  where
    by : (asked.request ≡ ask.Slice) ⊎ AsksAt (Meets (table_of p) (is_made opts j)) (source_of p) (answered (source_of p) d.given (drawn j w t)) asked.request → NamesMade opts j asked.request
    by (inl e) = subst (NamesMade opts j) (sym e) tt
    by (inr a) = named p formed ok input opts range j w r f on m t a.state (record { given = d.given; processor = q; runs = d.runs; told = d.told; leads = a.leads }) a.meets a.here asked.request a.after a.asks
