-- Nobody else builds or destroys an object that is at home in what is one's own, and at hand of nobody.
use Rattle.std.proofs.Common.{◌≡◌, ℕ, inl, inr, List, [], ◌∷◌, Option, Some, None, sym, subst}
use Rattle.uc_acts.specs.Journal.{Journal}
use Rattle.uc_machine.specs.declared.exec.Exec.{Exec}
use Rattle.uc_machine.specs.declared.exec.Home.{Home}
use Rattle.uc_machine.specs.declared.exec.Home.TheVariants as home
use Rattle.uc_machine.specs.declared.exec.Stage.{Stage}
use Rattle.uc_machine.specs.declared.exec.Stage.TheVariants.{Fresh, Started, Ended}
use Rattle.uc_machine.specs.Executions.{Execution, others}
use Rattle.uc_machine.specs.Pieces as piece
use Rattle.uc_machine.specs.Pieces.{Value, Object, Todo, Sort, sort, Active, Members}
use Rattle.uc_meaning.specs.Runs.{World}
use Rattle.uc_typing.specs.Typing.{Sig, Table}
use Rattle.uc_life_laws.specs.Things.{Few, Things}
use Rattle.uc_life_laws.specs.LifeStates.{SlotBy, ParkedBy, HandBy, MembersBy, EnvBy}
use Rattle.uc_life_laws.specs.Rooted.{InSlot, InParked, InHand, InMembers, Lives}
use Rattle.uc_apart_laws.proofs.Clear.{home_more}
use Rattle.uc_depth_laws.specs.Owing.{Ex}
use Rattle.uc_life_laws.specs.AtHand.{NoScopes, IsUnopened}
use Rattle.uc_life_laws.specs.Belonging.{Belongs}
use Rattle.uc_apart_laws.specs.Clear.{NotMaking, IsNoHome}
use Rattle.uc_life_laws.specs.Placed.{placed}
use Rattle.uc_rooted_runs.specs.FreshStates.{FreshBy}
use Rattle.uc_making_laws.specs.OwnThis.{HasHome, Has, ThisStack}
use Rattle.uc_making_laws.specs.NoOthers.{NoThis, LawNoOthers}

-- who lives has what holds of all activations of each
module _ (P : Exec → List Active → Type 0) where
  abbrev PEx : Exec → Execution (List Todo) Value → Type 0
  PEx n x = P n (x.run ∷ x.callers)

  pub told : (n m : Exec) (cs ds : List Active) → n ≡ m → cs ≡ ds → P m ds → P n cs
  told n m cs ds e f h = subst (λ k. P k cs) (sym e) (subst (P m) (sym f) h)

  in_slot : (n : Exec) (cs : List Active) (m : Exec) (z : Option (Execution (List Todo) Value)) → InSlot n cs m z → SlotBy PEx m z → P n cs
  in_slot n cs m None i h = absurd i
  in_slot n cs m (Some y) i h = told n m cs (y.run ∷ y.callers) i.0 i.1 h

  pub in_parked : (n : Exec) (cs : List Active) (h : Home) (ps : List (ℕ × Option (Execution (List Todo) Value))) → InParked n cs h ps → ParkedBy PEx h ps → P n cs
  in_parked n cs h [] i k = absurd i
  in_parked n cs h (p ∷ ps) (inl i) k = in_slot n cs (record { home = h; serial = p.0 }) p.1 i k.0
  in_parked n cs h (p ∷ ps) (inr i) k = in_parked n cs h ps i k.1

  pub in_hand : (n : Exec) (cs : List Active) (ps : List (ℕ × Members)) → InHand n cs ps → HandBy PEx ps → P n cs
  in_hand n cs [] i k = absurd i
  in_hand n cs (p ∷ ps) (inl i) k = in_parked n cs (home.Object p.0) p.1.parked i k.0
  in_hand n cs (p ∷ ps) (inr i) k = in_hand n cs ps i k.1

  pub in_members : (n : Exec) (cs : List Active) (h : Home) (m : Option Members) → InMembers n cs h m → MembersBy PEx h m → P n cs
  in_members n cs h None i k = absurd i
  in_members n cs h (Some m) i k = in_parked n cs h m.parked i k

  pub in_world : (j : Journal) (x : World) → ((u : ℕ) → P (x.tasks u).env.exec ((x.tasks u).run ∷ (x.tasks u).callers)) → ((u : ℕ) → EnvBy PEx (x.tasks u).env) → ((q : ℕ) → MembersBy PEx (home.Object q) (x.homes q)) → (n : Exec) (cs : List Active) → Lives j x n cs → P n cs
  in_world j x runs tasks homes n cs (inl i) = told n (x.tasks i.0).env.exec cs ((x.tasks i.0).run ∷ (x.tasks i.0).callers) i.2 i.3 (runs i.0)
  in_world j x runs tasks homes n cs (inr (inl (v, inl i))) = in_parked n cs (home.Task (x.tasks v).env.own) (x.tasks v).env.house.parked i (tasks v).house
  in_world j x runs tasks homes n cs (inr (inl (v, inr i))) = in_hand n cs (x.tasks v).env.hand i (tasks v).hand
  in_world j x runs tasks homes n cs (inr (inr (q, i))) = in_members n cs (home.Object q) (x.homes q) i (homes q)

module _ (t : Table) (few : Few) (o : ℕ) where
  module _ (n : Exec) (zero : o ≡ 0 → ⊥) (other : Belongs few n (few.home o) → ⊥) where
    none_one : (older : List Active) (v : Value) → Has t few n older v → IsNoHome t few o (Things t few n older) → v ≡ Object o → ⊥
    none_one older v h f e = by (subst (Has t few n older) e h)
      where
        by : HasHome t few n older o → ⊥
        by (inl z) = zero z
        by (inr (inl b)) = other b
        by (inr (inr s)) = f s.0 s.1

    none : (cs : List Active) → ThisStack t few n cs → IsNoHome t few o (Things t few n cs) → NoThis o cs
    none [] h f = tt
    none (a ∷ older) h f =
        let g : IsNoHome t few o (Things t few n older) = λ c s. f c (home_more t few o (Things t few n older) (Things t few n (a ∷ older)) (λ w d k. inr k) c s) in
        (none_one older a.this h.0 g, none older h.1 g)

  making : (gs : List Sig) (cs : List Active) → NoThis o cs → NotMaking t few o gs cs
  making gs [] h c k = absurd k
  making gs (a ∷ older) h c (inl k) = let m = k.2.1 in h.0 (sym m.2)
  making gs (a ∷ older) h c (inr k) = making (others gs) older h.1 c k

-- an execution that has not begun has nothing to clean up

put_none : (p : Todo) (f : ℕ) (this : Value) (todo : List Todo) → placed f this (p ∷ todo) [] ≡ [] → (NoScopes todo → NoScopes (p ∷ todo)) × (placed f this todo [] ≡ [])
put_none (piece.Clean c) f this todo e = absurd (cc)
put_none (piece.Part c) f this todo e = absurd (cc)
put_none (piece.InLoop o x y z) f this todo e = ((λ h. h), e)
put_none piece.InWhole f this todo e = ((λ h. h), e)
put_none (piece.FillNow m b d) f this todo e = ((λ h. h), e)
put_none (piece.Sweep d) f this todo e = ((λ h. h), e)
put_none (piece.Guard hs) f this todo e = ((λ h. h), e)
put_none piece.Finish f this todo e = ((λ h. h), e)
put_none piece.FinishCoroutine f this todo e = ((λ h. h), e)
put_none p f this todo e = ((λ h. h), e)

unscoped : (f : ℕ) (this : Value) (todo : List Todo) → placed f this todo [] ≡ [] → NoScopes todo
unscoped f this [] e = tt
unscoped f this (p ∷ todo) e = let k = put_none p f this todo e in k.0 (unscoped f this todo k.1)

pub fresh_unopened : (g : Stage) (n : Exec) (y : Ex) → g ≡ Fresh → FreshBy g n y → IsUnopened y
fresh_unopened Fresh n y e h = (h.callers, unscoped y.run.frame y.run.this y.run.control h.marks)
fresh_unopened Started n y e h = absurd (cc)
fresh_unopened Ended n y e h = absurd (cc)

pub law_no_others : LawNoOthers
law_no_others = record {
  none = λ t few o n cs h z b f. none t few o n z b cs h f;
  making = λ t few o gs cs h. making t few o gs cs h;
}
