-- In every run what is at home in mutex objects is told, as long as what each step binds may be there.
use Rattle.std.proofs.Common.{ℕ, ◌==◌, List, [], ◌∷◌, Option, Some, None, subst}
use Rattle.uc_tree.specs.Source.{Source}
use Rattle.uc_entry.specs.declared.entry.Entry.{Entry}
use Rattle.uc_entry.specs.declared.entry.Options.{Options}
use Rattle.uc_entry.specs.declared.request.Asked.{Asked}
use Rattle.uc_entry.specs.Keyed.{find}
use Rattle.uc_acts.specs.Journal.{Journal, held}
use Rattle.uc_acts.specs.Known.{takes_out}
use Rattle.uc_machine.specs.Pieces.{Value, State, Members}
use Rattle.uc_machine.specs.Quiet.{no_members}
use Rattle.uc_machine.specs.Answering.{answered}
use Rattle.uc_machine.specs.Rides as rides
use Rattle.uc_machine.specs.Rides.{Rides}
use Rattle.uc_meaning.specs.Runs.{World, May, Runs, gives, no_room, acts, begun, more, with_home, hand_of, drawn, or_else}
use Rattle.uc_state_laws.specs.RoomRuns as rooms
use Rattle.uc_state_laws.specs.RoomRuns.{Leads, Comes}
use Rattle.uc_state_laws.specs.Opens.{RideMeets, MayMeet, RunMeets, LeadsMeet}
use Rattle.uc_state_laws.proofs.Cells.{either}
use Rattle.uc_lent_laws.specs.LentStates.{MembersTold, HandTold, StateTold, StepTold, Binds}
use Rattle.uc_lent_laws.specs.LentRuns.{Tells, LawLent}
use Rattle.uc_lent_laws.proofs.LentCells.{values_zero, found_told}
use Rattle.uc_lent_laws.proofs.LentWalk.{walk, answered_told}

module _ (T : ℕ → ℕ → Value → Type 0) where
  home_told : (o : ℕ) (x : Option Members) (hand : List (ℕ × Members)) → MembersTold T o x → HandTold T hand → HandTold T (with_home o x hand)
  home_told o None hand h k = k
  home_told o (Some m) hand h k = (h, k)

  hand_told : (os : List ℕ) (homes : ℕ → Option Members) → ((o : ℕ) → MembersTold T o (homes o)) → HandTold T (hand_of os homes)
  hand_told [] homes h = tt
  hand_told (o ∷ os) homes h = home_told o (homes o) (hand_of os homes) (h o) (hand_told os homes h)

  or_told : (o : ℕ) (x y : Option Members) → MembersTold T o x → MembersTold T o y → MembersTold T o (or_else x y)
  or_told o None y h k = k
  or_told o (Some m) y h k = h

  module _ (source : Source) where
    led : {s u : State} (l : Leads source s u) → LeadsMeet (Binds T source) source s u l → StateTold T s → StateTold T u
    led rooms.stays f h = h
    led (rooms.goes {s} e l) f h = led l f.1 (subst (StepTold T) e (walk T source s h f.0))
    led (rooms.ticks {s} e l) f h = led l f.1 (subst (StepTold T) e (walk T source s h f.0))

    ridden : {s u : State} {q k : ℕ} {a : Asked} (d : Rides source s q u k a) → RideMeets (Binds T source) source s q u k a d → StateTold T s → StateTold T u
    ridden rides.slices f h = h
    ridden (rides.goes_on {s} {t} e r) f h = ridden r f.1 (subst (StepTold T) e (walk T source s h f.0))
    ridden (rides.ticks {s} {t} e r) f h = ridden r f.1 (subst (StepTold T) e (walk T source s h f.0))
    ridden (rides.asks {s} {t} e) f h = subst (StepTold T) e (walk T source s h f)

    module _ (input : List ℕ) (opts : Options) where
      starts : (j : Journal) (w : World) → ((o : ℕ) → MembersTold T o (w.homes o)) → (t : ℕ) → StateTold T (drawn j w t)
      starts j w h t = hand_told (held t j) w.homes h

      may_told : {j : Journal} {w : World} {a : List Entry} {x : World} (m : May source opts input j w a x) → MayMeet (Binds T source) source opts input j w a x m → ((o : ℕ) → MembersTold T o (w.homes o)) → (o : ℕ) → MembersTold T o (x.homes o)
      may_told (gives p t s le) f h o = h o
      may_told (no_room p t s le) f h o = h o
      may_told {j} {w} {a} (acts p t k s asked d) f h o =
          let behind = ridden d.rides f (answered_told T source d.given (drawn j w t) (starts j w h t)) in
          either (MembersTold T o) (takes_out a o) None (or_else (find o s.env.hand) (w.homes o)) tt (or_told o (find o s.env.hand) (w.homes o) (found_told T o s.env.hand behind) (h o))

      pub homes_told : {j : Journal} {w : World} (r : Runs source input opts j w) → RunMeets (Binds T source) source input opts j w r → (o : ℕ) → MembersTold T o (w.homes o)
      homes_told begun f o = either (MembersTold T o) (o == 0) (Some no_members) None (values_zero T o 0) tt
      homes_told (more r on m) f o = may_told m f.1 (homes_told r f.0) o

      -- in each state to which whoever runs comes
      pub comes_told : {j : Journal} {w : World} (r : Runs source input opts j w) → RunMeets (Binds T source) source input opts j w r → (t : ℕ) (s : State) (c : Comes source j w t s) → LeadsMeet (Binds T source) source (answered source c.given (drawn j w t)) s c.leads → StateTold T s
      comes_told {j} {w} r f t s c l = led c.leads l (answered_told T source c.given (drawn j w t) (starts j w (homes_told r f) t))

pub law_lent : LawLent
law_lent = record {
  homes = λ test source input opts j w r f o. homes_told (Tells test) source input opts r f o;
  comes = λ test source input opts j w r f t s c l. comes_told (Tells test) source input opts r f t s c l;
}
