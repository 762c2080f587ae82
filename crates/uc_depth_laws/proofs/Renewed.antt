-- What holds by some tests holds by others, where those tell as much or nothing is owed to the object.
use Rattle.std.proofs.Common.{◌≡◌, ℕ, ◌+◌, ◌≤◌, ◌⊎◌, inl, inr, Bool, true, false, List, [], ◌∷◌, Option, Some, None, refl, subst, ap, arith}
use Rattle.std.specs.Prelude.{nat_eq, drop, if◌then◌else◌}
use Rattle.uc_tree.specs.Source.{Source, routine_of}
use Rattle.uc_entry.specs.declared.request.Request.{Request}
use Rattle.uc_entry.specs.declared.request.Request.TheVariants as ask
use Rattle.uc_machine.specs.declared.exec.Home.{Home}
use Rattle.uc_machine.specs.declared.exec.Home.TheVariants as home
use Rattle.uc_machine.specs.declared.exec.Stage.{Stage}
use Rattle.uc_machine.specs.declared.exec.Stage.TheVariants.{Fresh, Started, Ended}
use Rattle.uc_machine.specs.Switches.{without}
use Rattle.uc_machine.specs.Answering.{with_hand}
use Rattle.uc_machine.specs.Pieces as piece
use Rattle.uc_machine.specs.Pieces.{Value, Todo, Active, State, Env, Members, object_in, top}
use Rattle.uc_depth_laws.specs.Entering.{Aspect, New, Other, lets_go, holds_object}
use Rattle.uc_depth_laws.specs.Owing.{Ex, First, Any, Skipped, CallOf, Bound, next, owes, more, marks, counted, owed_by, owed_waiting, calling, owed_first, owed_all, owed_at, owed_slot, owed_parked, owed_hand, owed_env, owed_behind, owed, Tests, is_told, is_told_for, IsToldFor, EnteredPiece, Allowed, Entered, IsToldFirst, AllEntered, Engaged, EngagedBy, EngagedSlot, EngagedParked, EngagedHand, EngagedEnv, Deep, DeepBehind, DeepAlone, DeepAsk, Done, EnteredNext}
use Rattle.uc_depth_laws.specs.DepthLaws.{LawRenewed}
use Rattle.uc_depth_laws.proofs.Depths.{holds_scope, holds_building, both_hold, both_are, counted_own, more_least}

-- a mark that is owed
more_one : {A : Type 0} (b : Bool) (n : ℕ) → b ≡ true → more b n ≡ 0 → A
more_one true n e l = absurd (omega (arith, l))
more_one false n e l = cc

-- to-do lists of an activation of whose object this is told no more, where they have no marks

module _ (source : Source) (told now : Aspect → Bool) where
  either_told : (k : Aspect) (b : Bool) (n : ℕ) → b ≡ true → told k ≡ true → ((k : Aspect) → told k ≡ true → (now k ≡ true) ⊎ (more b n ≡ 0)) → now k ≡ true
  either_told k b n e h f = by (f k h)
    where
      by : (now k ≡ true) ⊎ (more b n ≡ 0) → now k ≡ true
      by (inl x) = x
      by (inr l) = more_one b n e l

  piece_again : (p : Todo) (n : ℕ) → EnteredPiece source told p → ((k : Aspect) → told k ≡ true → (now k ≡ true) ⊎ (more (owes p) n ≡ 0)) → EnteredPiece source now p
  piece_again (piece.Clean c) n h k = (h.0, λ i f. either_told i (lets_go c) n (holds_scope c i f) (h.1 i f) k)
  piece_again p n h k = h

  next_again : (p : Todo) (n : ℕ) → EnteredNext source told p → ((k : Aspect) → told k ≡ true → (now k ≡ true) ⊎ (more (owes p) n ≡ 0)) → EnteredNext source now p
  next_again (piece.Rest ss) n h k = (h.0, λ i f. either_told i (holds_object ss) n (holds_building ss i f) (h.1 i f) k)
  next_again (piece.Clean c) n h k = (h.0, λ i f. either_told i (lets_go c) n (holds_scope c i f) (h.1 i f) k)
  next_again piece.MadeNow n h k = either_told New true n refl h k
  next_again (piece.SpawnNow r) n h k = (either_told New true n refl h.0 k, h.1)
  next_again piece.GoneNow n h k = either_told Other true n refl h k
  next_again piece.GiveUpNow n h k = either_told New true n refl h k
  next_again p n h k = h

  allowed_again : (g : First) (p : Todo) (n : ℕ) → Allowed source told g p → ((k : Aspect) → told k ≡ true → (now k ≡ true) ⊎ (more (owes p) n ≡ 0)) → Allowed source now g p
  allowed_again Any p n h k = piece_again p n h k
  allowed_again Done p n h k = next_again p n h k
  allowed_again Skipped (piece.CallOnNow r) n h k = tt
  allowed_again Skipped (piece.CallUnwrittenNow r) n h k = tt
  allowed_again Skipped p n h k = piece_again p n h k
  allowed_again (CallOf r) (piece.CallOnNow q) n h k = h
  allowed_again (CallOf r) (piece.CallUnwrittenNow q) n h k = h
  allowed_again (CallOf r) p n h k = absurd h
  allowed_again Bound (piece.BindMadeNow c r) n h k = tt
  allowed_again Bound p n h k = absurd h

  pub list_again : (g : First) (todo : List Todo) → Entered source told g todo → ((k : Aspect) → told k ≡ true → (now k ≡ true) ⊎ (marks todo ≡ 0)) → Entered source now g todo
  list_again g [] h k = tt
  list_again g (p ∷ todo) h k = (allowed_again g p (marks todo) h.0 k, list_again (next p) todo h.1 (λ i e. behind i (k i e)))
    where
      behind : (i : Aspect) → (now i ≡ true) ⊎ (more (owes p) (marks todo) ≡ 0) → (now i ≡ true) ⊎ (marks todo ≡ 0)
      behind i (inl x) = inl x
      behind i (inr l) = let a = more_least (owes p) (marks todo) in inr (omega (arith, a, l))

-- activations and executions

module _ (source : Source) (tells now : Aspect → ℕ → Bool) where
  -- what is new is so still, or is owed nothing of so much
  abbrev pub Stays : (ℕ → ℕ) → Type 0
  Stays owing = (k : Aspect) (q : ℕ) → tells k q ≡ true → (now k q ≡ true) ⊎ (owing q ≡ 0)

  less : (a b : ℕ → ℕ) → Stays b → ((q : ℕ) → a q ≤ b q) → Stays a
  less a b k l i q n = by (k i q n)
    where
      by : (now i q ≡ true) ⊎ (b q ≡ 0) → (now i q ≡ true) ⊎ (a q ≡ 0)
      by (inl x) = inl x
      by (inr z) = let m = l q in inr (omega (arith, m, z))

  -- so an activation keeps its to-do list
  told_again : (v : Value) (older : List Active) (todo : List Todo) → Stays (λ q. counted q v (marks todo)) → (i : Aspect) → is_told tells v older i ≡ true → (is_told now v older i ≡ true) ⊎ (marks todo ≡ 0)
  told_again v older todo k i n =
      let h = both_hold (tells i (object_in v)) (nat_eq (owed_waiting (object_in v) older) 0) n in
      by h.1 (k i (object_in v) h.0)
    where
      by : nat_eq (owed_waiting (object_in v) older) 0 ≡ true → (now i (object_in v) ≡ true) ⊎ (counted (object_in v) v (marks todo) ≡ 0) → (is_told now v older i ≡ true) ⊎ (marks todo ≡ 0)
      by e (inl x) = inl (both_are (now i (object_in v)) (nat_eq (owed_waiting (object_in v) older) 0) x e)
      by e (inr z) = let a = counted_own v (marks todo) in inr (omega (arith, a, z))

  run_again : (g : First) (v : Value) (older : List Active) (todo : List Todo) → Entered source (is_told tells v older) g todo → Stays (λ q. counted q v (marks todo)) → Entered source (is_told now v older) g todo
  run_again g v older todo h k = list_again source (is_told tells v older) (is_told now v older) g todo h (told_again v older todo k)

  callers_again : (cs : List Active) → AllEntered source tells cs → Stays (λ q. owed_waiting q cs) → AllEntered source now cs
  callers_again [] h k = tt
  callers_again (a ∷ cs) h k =
      (run_again Any a.this cs a.control h.0 (less (λ q. owed_by q a) (λ q. owed_waiting q (a ∷ cs)) k (λ q. omega arith)), h.1, callers_again cs h.2 (less (λ q. owed_waiting q cs) (λ q. owed_waiting q (a ∷ cs)) k (λ q. omega arith)))

  -- what is called first on a new object is owed by the call
  called_again : (r : ℕ) (v this : Value) (older : List Active) (todo : List Todo) → IsToldFor source tells r v this todo older → Stays (λ q. calling source q r v) → IsToldFor source now r v this todo older
  called_again r v this older todo n k i f =
      let h = both_hold (tells i (object_in v)) (nat_eq (counted (object_in v) this (marks todo) + owed_waiting (object_in v) older) 0) (n i f) in
      by h.1 (k i (object_in v) h.0)
    where
      by : nat_eq (counted (object_in v) this (marks todo) + owed_waiting (object_in v) older) 0 ≡ true → (now i (object_in v) ≡ true) ⊎ (calling source (object_in v) r v ≡ 0) → is_told_for now v this todo older i ≡ true
      by e (inl x) = both_are (now i (object_in v)) (nat_eq (counted (object_in v) this (marks todo) + owed_waiting (object_in v) older) 0) x e
      by e (inr z) =
          let a = ap {B = ℕ} (λ b. if b then counted (object_in v) v 1 else 0) (holds_building (routine_of source r).body i f) in
          let b = counted_own v 1 in
          absurd (omega (arith, a, b, z))

  first_again : (this : Value) (older : List Active) (todo : List Todo) (vs : List Value) → IsToldFirst source tells this older todo vs → Stays (λ q. owed_first source q todo vs) → IsToldFirst source now this older todo vs
  first_again this older [] vs h k = tt
  first_again this older (piece.CallOnNow r ∷ todo) vs h k = called_again r (top (drop (routine_of source r).params vs)) this older todo h k
  first_again this older (piece.CallUnwrittenNow r ∷ todo) vs h k = called_again r (top (drop (routine_of source r).params vs)) this older todo h k
  first_again this older (piece.BindMadeNow c r ∷ todo) vs h k = called_again r (top vs) this older todo h k
  first_again this older (p ∷ todo) vs h k = tt

  ex_again : (x : Ex) → Engaged source tells x → Stays (λ q. owed_all q x) → Engaged source now x
  ex_again x h k = record {
    run = run_again Any x.run.this x.callers x.run.control h.run (less (λ q. owed_by q x.run) (λ q. owed_all q x) k (λ q. omega arith));
    one = h.one;
    callers = callers_again x.callers h.callers (less (λ q. owed_waiting q x.callers) (λ q. owed_all q x) k (λ q. omega arith));
    engaged = h.engaged;
  }

  stage_again : (g : Stage) (x : Ex) → EngagedBy source tells g x → Stays (λ q. owed_at g (owed_all q x)) → EngagedBy source now g x
  stage_again Fresh x h k = ex_again x h k
  stage_again Started x h k = ex_again x h k
  stage_again Ended x h k = tt

  slot_again : (o : Option Ex) → EngagedSlot source tells o → Stays (λ q. owed_slot q o) → EngagedSlot source now o
  slot_again None h k = tt
  slot_again (Some x) h k = stage_again x.links.stage x h k

  pub parked_again : (ps : List (ℕ × Option Ex)) → EngagedParked source tells ps → Stays (λ q. owed_parked q ps) → EngagedParked source now ps
  parked_again [] h k = tt
  parked_again (p ∷ ps) h k =
      (slot_again p.1 h.0 (less (λ q. owed_slot q p.1) (λ q. owed_parked q (p ∷ ps)) k (λ q. omega arith)), parked_again ps h.1 (less (λ q. owed_parked q ps) (λ q. owed_parked q (p ∷ ps)) k (λ q. omega arith)))

module _ (source : Source) (news now : Tests) where
  -- so it is at each home, by what is owed
  abbrev AllStay : (ℕ → ℕ) → Type 0
  AllStay owing = (h : Home) → Stays source (news h) (now h) owing

  fewer : (a b : ℕ → ℕ) → AllStay b → ((q : ℕ) → a q ≤ b q) → AllStay a
  fewer a b k l h = less source (news h) (now h) a b (k h) l

  hand_again : (ps : List (ℕ × Members)) → EngagedHand source news ps → AllStay (λ q. owed_hand q ps) → EngagedHand source now ps
  hand_again [] h k = tt
  hand_again (p ∷ ps) h k =
      (parked_again source (news (home.Object p.0)) (now (home.Object p.0)) p.1.parked h.0 (fewer (λ q. owed_parked q p.1.parked) (λ q. owed_hand q (p ∷ ps)) k (λ q. omega arith) (home.Object p.0)), hand_again ps h.1 (fewer (λ q. owed_hand q ps) (λ q. owed_hand q (p ∷ ps)) k (λ q. omega arith)))

  env_again : (e : Env) → EngagedEnv source news e → AllStay (λ q. owed_env q e) → EngagedEnv source now e
  env_again e h k = record {
    house = parked_again source (news (home.Task e.own)) (now (home.Task e.own)) e.house.parked h.house (fewer (λ q. owed_parked q e.house.parked) (λ q. owed_env q e) k (λ q. omega arith) (home.Task e.own));
    hand = hand_again e.hand h.hand (fewer (λ q. owed_hand q e.hand) (λ q. owed_env q e) k (λ q. omega arith));
  }

  -- tasks

  deep_again : (s : State) → Deep source news s → AllStay (λ q. owed source q s) → Deep source now s
  deep_again s h k = record {
    first = h.first;
    run = run_again source (news s.env.exec.home) (now s.env.exec.home) h.first s.run.this s.callers s.run.control h.run (fewer (λ q. owed_by q s.run) (λ q. owed source q s) k (λ q. omega arith) s.env.exec.home);
    new = first_again source (news s.env.exec.home) (now s.env.exec.home) s.run.this s.callers s.run.control s.run.operands h.new (fewer (λ q. owed_first source q s.run.control s.run.operands) (λ q. owed source q s) k (λ q. omega arith) s.env.exec.home);
    one = h.one;
    callers = callers_again source (news s.env.exec.home) (now s.env.exec.home) s.callers h.callers (fewer (λ q. owed_waiting q s.callers) (λ q. owed source q s) k (λ q. omega arith) s.env.exec.home);
    env = env_again s.env h.env (fewer (λ q. owed_env q s.env) (λ q. owed source q s) k (λ q. omega arith));
    engaged = h.engaged;
    depths = h.depths;
  }

  behind_again : (s : State) → DeepBehind source news s → AllStay (λ q. owed_behind q s) → DeepBehind source now s
  behind_again s h k = record {
    first = h.first;
    run = run_again source (news s.env.exec.home) (now s.env.exec.home) h.first s.run.this s.callers s.run.control h.run (fewer (λ q. owed_by q s.run) (λ q. owed_behind q s) k (λ q. omega arith) s.env.exec.home);
    new = tt;
    one = h.one;
    callers = callers_again source (news s.env.exec.home) (now s.env.exec.home) s.callers h.callers (fewer (λ q. owed_waiting q s.callers) (λ q. owed_behind q s) k (λ q. omega arith) s.env.exec.home);
    env = env_again s.env h.env (fewer (λ q. owed_env q s.env) (λ q. owed_behind q s) k (λ q. omega arith));
    engaged = h.engaged;
    depths = h.depths;
  }

  alone_again : (s : State) → DeepAlone source news s → AllStay (λ q. owed source q s) → DeepAlone source now s
  alone_again s h k =
      record { alone = run_again source (news s.env.exec.home) (now s.env.exec.home) Any s.run.this s.callers s.run.control h.alone (fewer (λ q. owed_by q s.run) (λ q. owed source q s) k (λ q. omega arith) s.env.exec.home); deep = deep_again s h.deep k }

  -- where no less is new
  asked : ((h : Home) (k : Aspect) (q : ℕ) → news h k q ≡ true → now h k q ≡ true) → (r : Request) (s : State) → DeepAsk source news r s → DeepAsk source now r s
  asked f (ask.Call o m) s h = λ away. deep_again s (h away) (λ i k q n. inl (f i k q n))
  asked f (ask.Make c) s h = (h.0, behind_again s h.1 (λ i k q n. inl (f i k q n)))
  asked f ask.Slice s h = deep_again s h (λ i k q n. inl (f i k q n))
  asked f (ask.Spawn o) s h = (alone_again s h.0 (λ i k q n. inl (f i k q n)), f s.env.exec.home New o h.1, h.2)
  asked f (ask.Gone o) s h = (alone_again (with_hand (without o s.env.hand) s) h.0 (λ i k q n. inl (f i k q n)), hand_again s.env.hand h.1 (λ i k q n. inl (f i k q n)))
  asked f ask.End s h = env_again s.env h (λ i k q n. inl (f i k q n))
  asked f (ask.Fault n) s h = tt
  asked f r s h = alone_again s h (λ i k q n. inl (f i k q n))

  -- behind what spawns an object that may be new no more
  spawned : (o : ℕ) → ((h : Home) (k : Aspect) (q : ℕ) → news h k q ≡ true → (o ≡ q) ⊎ (now h k q ≡ true)) → (s : State) → DeepAsk source news (ask.Spawn o) s → Deep source now s
  spawned o f s h = deep_again s h.0.deep (λ i k q n. by i k q (f i k q n))
    where
      by : (i : Home) (k : Aspect) (q : ℕ) → (o ≡ q) ⊎ (now i k q ≡ true) → (now i k q ≡ true) ⊎ (owed source q s ≡ 0)
      by i k q (inl e) = inr (subst (λ z. owed source z s ≡ 0) e h.2)
      by i k q (inr n) = inl n

pub law_renewed : LawRenewed
law_renewed = record { asked = λ source news now f r s h. asked source news now f r s h; spawned = λ source news now o f s h. spawned source news now o f s h }
