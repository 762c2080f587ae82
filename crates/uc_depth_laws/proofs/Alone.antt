-- Whoever lets go of an object has no other mark of it in the running activation, and older ones have none.
use Rattle.std.proofs.Common.{◌≡◌, ℕ, suc, ◌+◌, ◌≤◌, Bool, true, false, List, [], ◌∷◌, refl, sym, subst, arith}
use Rattle.std.specs.Prelude.{nat_eq, if◌then◌else◌}
use Rattle.std.proofs.lemmas.Bool.{eqb-true}
use Rattle.uc_tree.specs.Source.{Source}
use Rattle.uc_machine.specs.Monitors.{this_object}
use Rattle.uc_machine.specs.Pieces as piece
use Rattle.uc_machine.specs.Pieces.{Todo, State, at}
use Rattle.uc_depth_laws.specs.Entering.{Aspect, New, Other}
use Rattle.uc_depth_laws.specs.Owing.{Tests, marks, counted, owed_first, owed_waiting, owed_own, owed_elsewhere, owed_outside, First, Any, Done, Skipped, CallOf, Bound, is_told, Allowed, Entered, Deep, SoleAt, AloneAt}
use Rattle.uc_depth_laws.specs.DepthLaws.{LawAlone}
use Rattle.uc_depth_laws.proofs.Depths.{both_hold, true_false, counted_least, counted_none, none_first}

module _ (source : Source) (news : Tests) (s : State) (deep : Deep source news s) (mine : (k : Aspect) → news s.env.exec.home k s.env.own ≡ false) where
  abbrev told : Aspect → Bool
  told = is_told (news s.env.exec.home) s.run.this s.callers

  -- nothing is owed behind the one mark
  here : (todo : List Todo) → Entered source told Any todo → suc (marks todo) ≤ 1 → owed_first source (this_object s) todo s.run.operands + counted (this_object s) s.run.this (marks todo) ≡ 0
  here todo h l =
      let a = none_first source told (this_object s) todo s.run.operands h in
      let b = counted_least (this_object s) s.run.this (marks todo) 0 (omega (arith, l)) in
      let c = counted_none (this_object s) s.run.this in
      omega (arith, a, b, c)

  outside : (todo : List Todo) → Entered source told Any todo → suc (marks todo) ≤ 1 → owed_waiting (this_object s) s.callers + owed_own (this_object s) s.env.own ≡ 0 → owed_elsewhere (this_object s) s.env ≡ 0 → owed_outside source (this_object s) (at todo s.run.operands s) ≡ 0
  outside todo h l k e = let a = here todo h l in omega (arith, a, k, e)

  one : (l : List Todo) → s.run.control ≡ l → marks l ≤ 1
  one l e = subst (λ k. marks k ≤ 1) e deep.one

  list : (l : List Todo) → s.run.control ≡ l → Entered source told deep.first l
  list l e = subst (Entered source told deep.first) e deep.run

  -- one of which anything is told is not the own one
  not_own : (k : Aspect) → news s.env.exec.home k (this_object s) ≡ true → owed_own (this_object s) s.env.own ≡ 0
  not_own k n = by (nat_eq s.env.own (this_object s)) refl
    where
      by : (b : Bool) → nat_eq s.env.own (this_object s) ≡ b → ◌≡◌ {A = ℕ} (if b then 1 else 0) 0
      by true e = true_false (subst (λ o. news s.env.exec.home k o ≡ true) (sym_own e) n) (mine k)
        where
          sym_own : nat_eq s.env.own (this_object s) ≡ true → this_object s ≡ s.env.own
          sym_own e = subst (λ o. o ≡ s.env.own) (eqb-true s.env.own (this_object s) e) refl
      by false e = refl

  -- and no older activation owes anything to it
  nothing_older : (k : Aspect) → told k ≡ true → owed_waiting (this_object s) s.callers + owed_own (this_object s) s.env.own ≡ 0
  nothing_older k n =
      let h = both_hold (news s.env.exec.home k (this_object s)) (nat_eq (owed_waiting (this_object s) s.callers) 0) n in
      let a = eqb-true (owed_waiting (this_object s) s.callers) 0 h.1 in
      let b = not_own k h.0 in
      omega (arith, a, b)

  made : (g : First) → Allowed source told g piece.MadeNow → told New ≡ true
  made Any h = absurd h
  made Done h = h
  made Skipped h = absurd h
  made (CallOf r) h = absurd h
  made Bound h = absurd h

  spawned : (g : First) (r : ℕ) → Allowed source told g (piece.SpawnNow r) → told New ≡ true
  spawned Any r h = absurd h
  spawned Done r h = h.0
  spawned Skipped r h = absurd h
  spawned (CallOf k) r h = absurd h
  spawned Bound r h = absurd h

  given_up : (g : First) → Allowed source told g piece.GiveUpNow → told New ≡ true
  given_up Any h = absurd h
  given_up Done h = h
  given_up Skipped h = absurd h
  given_up (CallOf r) h = absurd h
  given_up Bound h = absurd h

  gone : (g : First) → Allowed source told g piece.GoneNow → told Other ≡ true
  gone Any h = absurd h
  gone Done h = h
  gone Skipped h = absurd h
  gone (CallOf r) h = absurd h
  gone Bound h = absurd h

  -- what is let go of however deep the task is is not its own object
  other : (k : Aspect) → told k ≡ true → s.env.own ≡ this_object s → ⊥
  other k n e =
      let h = both_hold (news s.env.exec.home k (this_object s)) (nat_eq (owed_waiting (this_object s) s.callers) 0) n in
      true_false (subst (λ o. news s.env.exec.home k o ≡ true) (sym e) h.0) (mine k)

  pub other_made : (todo : List Todo) → s.run.control ≡ piece.MadeNow ∷ todo → s.env.own ≡ this_object s → ⊥
  other_made todo e = other New (made deep.first (list (piece.MadeNow ∷ todo) e).0)

  pub other_spawned : (r : ℕ) (todo : List Todo) → s.run.control ≡ piece.SpawnNow r ∷ todo → s.env.own ≡ this_object s → ⊥
  other_spawned r todo e = other New (spawned deep.first r (list (piece.SpawnNow r ∷ todo) e).0)

  pub other_gone : (todo : List Todo) → s.run.control ≡ piece.GoneNow ∷ todo → s.env.own ≡ this_object s → ⊥
  other_gone todo e = other Other (gone deep.first (list (piece.GoneNow ∷ todo) e).0)

  pub other_given_up : (todo : List Todo) → s.run.control ≡ piece.GiveUpNow ∷ todo → s.env.own ≡ this_object s → ⊥
  other_given_up todo e = other New (given_up deep.first (list (piece.GiveUpNow ∷ todo) e).0)

  sole : (l : List Todo) → s.run.control ≡ l → AloneAt source l s → SoleAt source l s
  sole (piece.MadeNow ∷ todo) e a =
      let h = list (piece.MadeNow ∷ todo) e in
      outside todo h.1 (one (piece.MadeNow ∷ todo) e) (nothing_older New (made deep.first h.0)) a
  sole (piece.SpawnNow r ∷ todo) e a =
      let h = list (piece.SpawnNow r ∷ todo) e in
      outside todo h.1 (one (piece.SpawnNow r ∷ todo) e) (nothing_older New (spawned deep.first r h.0)) a
  sole (piece.EnterNow m r ∷ todo) e a = a
  sole (piece.GoneNow ∷ todo) e a =
      let h = list (piece.GoneNow ∷ todo) e in
      outside todo h.1 (one (piece.GoneNow ∷ todo) e) (nothing_older Other (gone deep.first h.0)) a
  sole (piece.GiveUpNow ∷ todo) e a =
      let h = list (piece.GiveUpNow ∷ todo) e in
      outside todo h.1 (one (piece.GiveUpNow ∷ todo) e) (nothing_older New (given_up deep.first h.0)) a
  sole [] e a = tt
  sole (p ∷ todo) e a = tt

pub law_alone : LawAlone
law_alone source news s deep mine a = sole source news s deep mine s.run.control refl a
