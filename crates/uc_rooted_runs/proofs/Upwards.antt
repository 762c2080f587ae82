-- What an execution that lives has of others stands in what the one that made it has.
use Rattle.std.proofs.Common.{◌≡◌, ℕ, ◌⊎◌, inl, inr, Bool, List, [], ◌∷◌, Option, Some, None, refl, sym, subst, ⊎_elim}
use Rattle.uc_acts.specs.Journal.{Journal}
use Rattle.uc_machine.specs.declared.exec.Exec.{Exec}
use Rattle.uc_machine.specs.declared.exec.Home.{Home}
use Rattle.uc_machine.specs.declared.exec.Home.TheVariants as home
use Rattle.uc_machine.specs.Executions.{Execution}
use Rattle.uc_machine.specs.Pieces.{Value, Todo, Active, Members}
use Rattle.uc_meaning.specs.Runs.{World}
use Rattle.uc_typing.specs.Typing.{Ty}
use Rattle.uc_life_laws.specs.Things.{AtField, IsFor, InStack, NoBase, Base}
use Rattle.uc_life_laws.specs.LifeStates.{SlotBy, ParkedBy, HandBy, MembersBy}
use Rattle.uc_life_laws.specs.Rooted.{InSlot, InParked, InHand, InMembers, Lives, Had}
use Rattle.uc_rooted_runs.specs.Makers.{Makers}
use Rattle.uc_rooted_runs.specs.Outlasting.{Outlasts, OutlastEx}
use Rattle.uc_rooted_runs.specs.Upwards.{IsThere, OutlastWorld, LawUpwards}
use Rattle.uc_rooted_runs.proofs.Outlasting.{law_outlasting, stands_more}

module _ (makers : Makers) (up : Exec → Bool) where
  -- of one that is found among those that do not run
  told : (n m : Exec) (cs ds : List Active) → n ≡ m → cs ≡ ds → Outlasts makers up m ds → Outlasts makers up n cs
  told n m cs ds e f h = subst (λ n. Outlasts makers up n cs) (sym e) (subst (Outlasts makers up m) (sym f) h)

  in_slot : (n : Exec) (cs : List Active) (m : Exec) (o : Option (Execution (List Todo) Value)) → InSlot n cs m o → SlotBy (OutlastEx makers up) m o → Outlasts makers up n cs
  in_slot n cs m None i h = absurd i
  in_slot n cs m (Some y) i h = told n m cs (y.run ∷ y.callers) i.0 i.1 h

  in_parked : (n : Exec) (cs : List Active) (h : Home) (ps : List (ℕ × Option (Execution (List Todo) Value))) → InParked n cs h ps → ParkedBy (OutlastEx makers up) h ps → Outlasts makers up n cs
  in_parked n cs h [] i k = absurd i
  in_parked n cs h (p ∷ ps) (inl i) k = in_slot n cs (record { home = h; serial = p.0 }) p.1 i k.0
  in_parked n cs h (p ∷ ps) (inr i) k = in_parked n cs h ps i k.1

  in_hand : (n : Exec) (cs : List Active) (ps : List (ℕ × Members)) → InHand n cs ps → HandBy (OutlastEx makers up) ps → Outlasts makers up n cs
  in_hand n cs [] i k = absurd i
  in_hand n cs (p ∷ ps) (inl i) k = in_parked n cs (home.Object p.0) p.1.parked i k.0
  in_hand n cs (p ∷ ps) (inr i) k = in_hand n cs ps i k.1

  in_members : (n : Exec) (cs : List Active) (h : Home) (m : Option Members) → InMembers n cs h m → MembersBy (OutlastEx makers up) h m → Outlasts makers up n cs
  in_members n cs h None i k = absurd i
  in_members n cs h (Some m) i k = in_parked n cs h m.parked i k

  in_world : (j : Journal) (x : World) → OutlastWorld makers up j x → (n : Exec) (cs : List Active) → IsThere j x n cs → Outlasts makers up n cs
  in_world j x w n cs (inl i) = told n (x.tasks i.0).env.exec cs ((x.tasks i.0).run ∷ (x.tasks i.0).callers) i.2 i.3 (w.stacks i.0 i.1.0 i.1.1)
  in_world j x w n cs (inr (inl (u, inl i))) = in_parked n cs (home.Task (x.tasks u).env.own) (x.tasks u).env.house.parked i (w.tasks u).house
  in_world j x w n cs (inr (inl (u, inr i))) = in_hand n cs (x.tasks u).env.hand i (w.tasks u).hand
  in_world j x w n cs (inr (inr (o, i))) = in_members n cs (home.Object o) (x.homes o) i (w.homes o)

-- one that is there lives
lives : (j : Journal) (x : World) (n : Exec) (cs : List Active) → IsThere j x n cs → Lives j x n cs
lives j x n cs (inl i) = inl (i.0, i.1.1, i.2, i.3)
lives j x n cs (inr i) = inr i

pub law_upwards : LawUpwards
law_upwards t few makers up j x own yet w based n cs i v b k e =
    let r = based n cs i v b k e in
    let h = in_world makers up j x w (makers.parent n) r.active r.lives in (
      makers.parent n,
      r.active,
      lives j x (makers.parent n) r.active r.lives,
      r.later,
      ⊎_elim
          (λ s.
          stands_more t few (λ w a. InStack (IsFor t) (AtField t) NoBase (makers.parent n) r.active w a ⊎ Base few (makers.parent n) w a) (Had t few yet (makers.parent n) r.active) (had r.active) b v (law_outlasting t few makers up (makers.parent n) r.active h n r.asked refl v b s))
          (λ s. s)
          r.stood,
    )
  where
    had : (ds : List Active) (w : Value) (a : Ty) → InStack (IsFor t) (AtField t) NoBase (makers.parent n) ds w a ⊎ Base few (makers.parent n) w a → Had t few yet (makers.parent n) ds w a
    had ds w a (inl m) = inl (inl m)
    had ds w a (inr m) = inr m
