-- Nothing else is owed to what nobody else has at hand.
use Rattle.std.proofs.Common.{◌≡◌, ℕ, ◌+◌, ◌⊎◌, inl, inr, Bool, true, false, List, [], ◌∷◌, Option, Some, None, refl, sym, ap, ◌∙◌, subst, arith}
use Rattle.std.specs.Prelude.{nat_eq, if◌then◌else◌}
use Rattle.std.proofs.lemmas.Bool.{eqb-true}
use Rattle.uc_tree.specs.Source.{Source}
use Rattle.uc_machine.specs.declared.exec.Exec.{Exec}
use Rattle.uc_machine.specs.declared.exec.Home.{Home}
use Rattle.uc_machine.specs.declared.exec.Home.TheVariants as home
use Rattle.uc_machine.specs.declared.exec.Stage.{Stage}
use Rattle.uc_machine.specs.declared.exec.Stage.TheVariants.{Fresh, Started, Ended}
use Rattle.uc_machine.specs.Switches.{without}
use Rattle.uc_machine.specs.Monitors.{this_object}
use Rattle.uc_machine.specs.Pieces as piece
use Rattle.uc_machine.specs.Pieces.{Todo, State, Members}
use Rattle.uc_typing.specs.Typing.{Table}
use Rattle.uc_life_laws.specs.Things.{Few}
use Rattle.uc_life_laws.specs.LifeStates.{SlotBy, ParkedBy, HandBy, EnvBy}
use Rattle.uc_life_laws.specs.Knowing.{KnowsBy, KnowsSlot, KnowsState}
use Rattle.uc_depth_laws.specs.Entering.{Aspect}
use Rattle.uc_depth_laws.specs.Owing.{Tests, First, Any, Done, Skipped, CallOf, Bound, counted, is_told, Entered, entering, Ex, owed_by, owed_waiting, owed_all, owed_at, owed_slot, owed_parked, owed_hand, owed_own, owed_elsewhere, EngagedBy, EngagedSlot, EngagedParked, EngagedHand, Deep, AloneAt}
use Rattle.uc_depth_laws.proofs.Alone.{other_made, other_spawned, other_gone, other_given_up}
use Rattle.uc_depth_laws.proofs.Depths.{counted_none}
use Rattle.uc_depth_laws.proofs.Kept.{either}
use Rattle.uc_life_laws.specs.AtHand.{IsAtHand, FarBy, IsFar, elsewhere, IsApartAt, LawApart}
use Rattle.uc_life_laws.proofs.Marked.{none_marked}
use Rattle.uc_life_laws.proofs.Owes.{rests_owe, run_owes}

none_of : {A B : Type 0} → A ⊎ B → (B → ⊥) → A
none_of (inl a) f = a
none_of (inr b) f = absurd (f b)

module _ (t : Table) (few : Few) (source : Source) (news : Tests) (o : ℕ) where
  -- executions that do not have it at hand owe it nothing

  stage_owes : (g : Stage) (n : Exec) (x : Ex) → KnowsBy t few n g x → EngagedBy source (news n.home) g x → FarBy t few o g n x → owed_at g (owed_all o x) ≡ 0
  stage_owes Fresh n x k e f =
      let a = ap (counted o x.run.this) (none_marked source (is_told (news n.home) x.run.this x.callers) Any tt x.run.control e.run f.1) ∙ counted_none o x.run.this in
      let b : owed_waiting o x.callers ≡ 0 = ap (owed_waiting o) f.0 in
      omega (arith, a, b)
  stage_owes Started n x k e f = none_of (rests_owe t few n source (news n.home) x k e o) (f k)
  stage_owes Ended n x k e f = refl

  slot_owes : (n : Exec) (x : Option Ex) → SlotBy (KnowsSlot t few) n x → EngagedSlot source (news n.home) x → SlotBy (IsFar t few o) n x → owed_slot o x ≡ 0
  slot_owes n None k e f = refl
  slot_owes n (Some x) k e f = stage_owes x.links.stage n x k e f

  parked_owe : (h : Home) (ps : List (ℕ × Option Ex)) → ParkedBy (KnowsSlot t few) h ps → EngagedParked source (news h) ps → ParkedBy (IsFar t few o) h ps → owed_parked o ps ≡ 0
  parked_owe h [] k e f = refl
  parked_owe h (p ∷ ps) k e f =
      let a = slot_owes (record { home = h; serial = p.0 }) p.1 k.0 e.0 f.0 in
      let b = parked_owe h ps k.1 e.1 f.1 in
      omega (arith, a, b)

  hand_owes : (hand : List (ℕ × Members)) → HandBy (KnowsSlot t few) hand → EngagedHand source news hand → HandBy (IsFar t few o) hand → owed_hand o hand ≡ 0
  hand_owes [] k e f = refl
  hand_owes (p ∷ hand) k e f =
      let a = parked_owe (home.Object p.0) p.1.parked k.0 e.0 f.0 in
      let b = hand_owes hand k.1 e.1 f.1 in
      omega (arith, a, b)

  -- without what is at home in one object

  known_without : (P : Exec → Ex → Type 0) (hand : List (ℕ × Members)) → HandBy P hand → HandBy P (without o hand)
  known_without P [] k = tt
  known_without P (p ∷ hand) k = either (HandBy P) (nat_eq p.0 o) hand (p ∷ without o hand) k.1 (k.0, known_without P hand k.1)

  engaged_without : (hand : List (ℕ × Members)) → EngagedHand source news hand → EngagedHand source news (without o hand)
  engaged_without [] k = tt
  engaged_without (p ∷ hand) k = either (EngagedHand source news) (nat_eq p.0 o) hand (p ∷ without o hand) k.1 (k.0, engaged_without hand k.1)

  own_none : (own : ℕ) → (own ≡ o → ⊥) → owed_own o own ≡ 0
  own_none own d = by (nat_eq own o) refl
    where
      by : (b : Bool) → nat_eq own o ≡ b → ◌≡◌ {A = ℕ} (if b then 1 else 0) 0
      by true e = absurd (d (eqb-true own o e))
      by false e = refl

module _ (t : Table) (few : Few) (source : Source) (news : Tests) (s : State) (mine : (k : Aspect) → news s.env.exec.home k s.env.own ≡ false) (k : KnowsState t few [] s) (deep : Deep source news s) where
  abbrev o : ℕ
  o = this_object s

  house : ParkedBy (IsFar t few o) (home.Task s.env.own) s.env.house.parked → owed_parked o s.env.house.parked ≡ 0
  house f = parked_owe t few source news o (home.Task s.env.own) s.env.house.parked k.env.house deep.env.house f

  others_owe : EnvBy (IsFar t few o) (elsewhere t few source s k) → owed_elsewhere o s.env ≡ 0
  others_owe f =
      let a = house f.house in
      let b = hand_owes t few source news o (without o s.env.hand) (known_without t few source news o (KnowsSlot t few) s.env.hand k.env.hand) (engaged_without t few source news o s.env.hand deep.env.hand) f.hand in
      omega (arith, a, b)

  -- who enters an object owes it nothing that it does not have at hand
  entered : (m r : ℕ) (todo : List Todo) → s.run.control ≡ piece.EnterNow m r ∷ todo → (q : ℕ) → (IsAtHand t few s.env.exec k.sigs (s.run ∷ s.callers) q → ⊥) → owed_by q s.run + owed_waiting q s.callers ≡ 0
  entered m r todo e q f =
      none_of (run_owes t few s.env.exec source (news s.env.exec.home) Any k.sigs [] s.run s.callers tt k.run (subst (Entered source (is_told (news s.env.exec.home) s.run.this s.callers) Any) (sym e) (any deep.first (subst (Entered source (is_told (news s.env.exec.home) s.run.this s.callers) deep.first) e deep.run))) k.callers deep.callers q) f
    where
      any : (g : First) → Entered source (is_told (news s.env.exec.home) s.run.this s.callers) g (piece.EnterNow m r ∷ todo) → Entered source (is_told (news s.env.exec.home) s.run.this s.callers) Any (piece.EnterNow m r ∷ todo)
      any Any h = h
      any Done h = h
      any Skipped h = h
      any (CallOf q) h = absurd h.0
      any Bound h = absurd h.0

  alone : (todo : List Todo) → s.run.control ≡ todo → IsApartAt t few source s k todo → AloneAt source todo s
  alone (piece.EnterNow m r ∷ todo) c h = λ e a.
      let x = h e a in
      let y = entered m r todo c (entering source r s) x.1 in
      let z = own_none t few source news (entering source r s) s.env.own x.2 in
      (x.0, omega (arith, y, z))
  alone (piece.MadeNow ∷ todo) c h = others_owe (h (other_made source news s deep mine todo c))
  alone (piece.SpawnNow r ∷ todo) c h = others_owe (h (other_spawned source news s deep mine r todo c))
  alone (piece.GoneNow ∷ todo) c h = others_owe (h (other_gone source news s deep mine todo c))
  alone (piece.GiveUpNow ∷ todo) c h = others_owe (h (other_given_up source news s deep mine todo c))
  alone [] c h = tt
  alone (p ∷ todo) c h = tt

pub law_apart : LawApart
law_apart t few source news s mine k deep h = alone t few source news s mine k deep s.run.control refl h
