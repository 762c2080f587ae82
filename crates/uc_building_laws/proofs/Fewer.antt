-- With fewer numbers, what constructors have bound is known still, where nobody has at hand what had the others.
use Rattle.std.proofs.Common.{◌≡◌, ℕ, suc, ◌≤◌, ◌⊎◌, inl, inr, ⊎_elim, Bool, List, [], ◌∷◌, length, refl, sym, subst, arith}
use Rattle.uc_tree.specs.Source as src
use Rattle.uc_tree.specs.Source.{Expr, Stmts, CleanUp}
use Rattle.uc_machine.specs.declared.exec.Exec.{Exec}
use Rattle.uc_machine.specs.declared.exec.Owner.TheVariants.{Frame}
use Rattle.uc_machine.specs.Executions.{others}
use Rattle.uc_machine.specs.Switches.{stopped}
use Rattle.uc_machine.specs.Pieces as piece
use Rattle.uc_machine.specs.Pieces.{Value, Object, Todo, Active, State}
use Rattle.uc_typing.specs.Typing.{Ty, Cell, Obj, Raw, Sig, Table, CleansAt}
use Rattle.uc_life_laws.specs.Things.{Few, Within, Stands, lies, inside, Held, AtField, IsFor, InTodo, Around, Outer, Known}
use Rattle.uc_life_laws.specs.LifeStates.{EnvBy}
use Rattle.uc_life_laws.specs.Silent.{AllSilent}
use Rattle.uc_life_laws.specs.Fewer.{with_numbers, KeepsOthers, Lasts, FreshLasts, ExLasts, RunLasts}
use Rattle.uc_life_laws.specs.Knowing.{AtHand, ClaimsSlot, KnowsState}
use Rattle.uc_life_laws.specs.Lives.{MakingIn, OutwardsOrMade, Lives}
use Rattle.uc_life_laws.proofs.Fewer.{Turns, known_fewer, active_fewer, top_frames, waits_fewer, slot_claims, env_claims, lives_fewer, running_lives}
use Rattle.uc_life_laws.proofs.KindsLemmas.{plain}
use Rattle.uc_life_laws.proofs.Knowns.{Less, around_outer, around_hand, frames_length}
use Rattle.uc_life_laws.proofs.LivesLemmas.{Below, below, in_older, making_here, others_le}
use Rattle.uc_life_laws.proofs.Parked.{Ex}
use Rattle.uc_life_laws.proofs.Reading.{within_raw, unmade_number}
use Rattle.uc_building_laws.specs.BuildingStates.{variable, AtScope, IsInScope, Awaits, Nears, IsBuilt, IsMaking, Builds, of_wait, AllBuild, BuildsEx, BuildsBy, Left, Built, BuiltState}
use Rattle.uc_building_laws.proofs.Building.{within_more}
use Rattle.uc_building_laws.proofs.Turning.{now_more}

-- with the list of which that is said
awaits_at : (P Q : CleanUp → List Todo → Type 0) (l : List Todo) → ((line : ℕ) (c : CleanUp) (ss : Stmts) (todo : List Todo) → l ≡ piece.DropNow ∷ (piece.Within line ∷ (piece.Rest (src.Scoped c ss) ∷ todo)) → P c todo → Q c todo) → Awaits P l → Awaits Q l
awaits_at P Q (piece.DropNow ∷ (piece.Within line ∷ (piece.Rest (src.Scoped c ss) ∷ todo))) f h = f line c ss todo refl h
awaits_at P Q l f h = tt

-- an object in what a scope is of has no number
in_scope_number : {A : Type 0} (t : Table) (n : Exec) (b : Active) (c : CleanUp) (o : ℕ) (a : Ty) → IsInScope t n b.frame b.this c (Object o) a → A
in_scope_number t n b c o a h =
    absurd (unmade_number t n (record b { control = piece.DropNow ∷ (piece.Within 0 ∷ (piece.Rest (src.Scoped c src.Nil) ∷ [])) } ∷ []) (Object o) a (inl (h.0, h.1, h.2)))

module _ (t : Table) (heads : ℕ → ℕ → Bool) (few : Few) (numbers : Ty → ℕ → Bool) (keeps : KeepsOthers t few numbers) where
  abbrev less : Few
  less = with_numbers numbers few

  module _ (gs : List Sig) (n : Exec) where
    -- what is bound and what is still to be bound, where what is known there lasts
    module _ (K : Value → Ty → Type 0) (lasts : Lasts t few numbers K) where
      built_less : (fs : List (List Value)) (g : ℕ) (w : Value) (c : ℕ) → IsBuilt t heads few gs n fs g w c K → IsBuilt t heads less gs n fs g w c K
      built_less fs g w c h i f told p b x y = known_fewer t few numbers keeps n K lasts b _ (h i f told p b x y)

      making_less : (P Q : List Ty → ℕ → ℕ → Value → (Ty → Value → Type 0) → Type 0) → ((ps : List Ty) (c i : ℕ) (w : Value) → P ps c i w (Known t few n K) → Q ps c i w (Known t less n K)) → (fs : List (List Value)) (f depth : ℕ) (this : Value) (g : ℕ) (w : Value) (c : ℕ) → IsMaking t heads few gs n P fs f depth this g w c K → IsMaking t heads less gs n Q fs f depth this g w c K
      making_less P Q left fs f depth this g w c h = record {
        frame = h.frame;
        object = h.object;
        known_object = known_fewer t few numbers keeps n K lasts (Obj c) w h.known_object;
        params = h.params;
        known = λ k b i. known_fewer t few numbers keeps n K lasts b _ (h.known k b i);
        fields = λ i x told. ⊎_elim (λ y. inl (λ p b z u. known_fewer t few numbers keeps n K lasts b _ (y p b z u))) (λ y. inr (left h.params c i w y.0, y.1)) (h.fields i x told);
      }

    -- what lies in what a scope is of that opens next has no number, so what is known there lasts where all else is at hand
    module _ (L : Value → Ty → Type 0) (lasts : Lasts t few numbers L) where
      module _ (b : Active) (older : List Active) (c : CleanUp) (todo : List Todo) (marked : (w : Value) (a : Ty) → InTodo (IsFor t (Frame n b.frame) b.this) (AtField t (Frame n b.frame) b.this) todo w a → L w a) (outer : (w : Value) (a : Ty) → Outer t few n older w a → L w a) (made : (w : Value) (a : Ty) → MakingIn gs (b ∷ older) w a → L w a) where
        abbrev Before : Value → Ty → Type 0
        Before w a = AtScope t few gs n b.frame b.this older c todo w a

        by_thing : (w : Value) (a d : Ty) (v : Value) → ((e : ℕ) → d ≡ Raw e → ⊥) → Before w a → Within t w a v d → Stands t few L d v
        by_thing w a d v whole (inl (inl (inl h))) k = absurd (whole h.0 (within_raw t w h.0 v d (subst (λ a. Within t w a v d) h.1 k)))
        by_thing w a d v whole (inl (inl (inr h))) k = lies (marked w a h) k
        by_thing w a d v whole (inl (inr h)) k = lies (outer w a h) k
        by_thing w a d v whole (inr h) k = lies (made w a h) k

        stands_hand : (d : Ty) (v : Value) → ((e : ℕ) → d ≡ Raw e → ⊥) → Stands t few Before d v → Stands t few L d v
        stands_hand d v whole (lies {w = w} {a} h k) = by_thing w a d v whole h k
        stands_hand d v whole (inside {o = o} {c = x} m h k) = inside m (stands_hand (Cell (Obj x)) (few.home o) (λ e q. absurd (cc)) h) k

        by_made : (w : Value) (d x o : ℕ) → Before w (Raw d) → Within t w (Obj d) (Object o) (Obj x) → Held t few L (Obj x) (Object o)
        by_made w d x o (inl (inl (inl h))) k =
            let q : d ≡ h.0 = let e = h.1 in cc in
            in_scope_number t n b c o (Raw x) (x, refl, (h.2.0, h.2.1, h.2.2, within_more t (subst (λ e. Within t h.2.0 h.2.1 w (Obj e)) (sym q) h.2.3) k))
        by_made w d x o (inl (inl (inr h))) k = inr (w, d, marked w (Raw d) h, k)
        by_made w d x o (inl (inr h)) k = inr (w, d, outer w (Raw d) h, k)
        by_made w d x o (inr h) k = inr (w, d, made w (Raw d) h, k)

        scope_lasts : Lasts t few numbers Before
        scope_lasts x o m h f = lasts x o m (by h) f
          where
            by : Held t few Before (Obj x) (Object o) → Held t few L (Obj x) (Object o)
            by (inl h) = inl (stands_hand (Obj x) (Object o) (λ e q. absurd (cc)) h)
            by (inr h) = by_made h.0 h.1 x o h.2 h.3

      -- of those that wait
      at_lasts : (b : Active) (older : List Active) → Less t few n (Around t few n (b ∷ older)) L → ((w : Value) (a : Ty) → MakingIn gs (b ∷ older) w a → L w a) → (line : ℕ) (c : CleanUp) (ss : Stmts) (todo : List Todo) → b.control ≡ piece.DropNow ∷ (piece.Within line ∷ (piece.Rest (src.Scoped c ss) ∷ todo)) → Lasts t few numbers (AtScope t few gs n b.frame b.this older c todo)
      at_lasts b older more made line c ss todo e =
          scope_lasts b older c todo (λ w a h. more w a (inl (subst (λ l. InTodo (IsFor t (Frame n b.frame) b.this) (AtField t (Frame n b.frame) b.this) l w a) (sym e) h))) (λ w a h. more w a (inr h)) made

      builds_less : (P Q : List Ty → ℕ → ℕ → Value → (Ty → Value → Type 0) → Type 0) → ((K : Value → Ty → Type 0) → Lasts t few numbers K → (ps : List Ty) (c i : ℕ) (w : Value) → P ps c i w (Known t few n K) → Q ps c i w (Known t less n K)) → (fs : List (List Value)) (f : ℕ) (this : Value) (cs : List Active) → Less t few n (Around t few n cs) L → ((w : Value) (a : Ty) → MakingIn gs cs w a → L w a) → Builds t heads few gs n P fs f this cs → Builds t heads less gs n Q fs f this cs
      builds_less P Q left fs f this [] more made h = tt
      builds_less P Q left fs f this (b ∷ older) more made h =
          awaits_at _ _ b.control (λ line c ss todo e x k i d. ⊎_elim (λ y. inl (built_less (AtScope t few gs n b.frame b.this older c todo) (at_lasts b older more made line c ss todo e) fs b.frame (variable n b.frame k) i y)) (λ y. inr (making_less (AtScope t few gs n b.frame b.this older c todo) (at_lasts b older more made line c ss todo e) P Q (left (AtScope t few gs n b.frame b.this older c todo) (at_lasts b older more made line c ss todo e)) fs f (suc (length older)) this b.frame (variable n b.frame k) i y)) (x k i d)) h

      all_less : (fs : List (List Value)) (cs : List Active) → Less t few n (Around t few n cs) L → ((w : Value) (a : Ty) → MakingIn gs cs w a → L w a) → AllBuild t heads few gs n fs cs → AllBuild t heads less gs n fs cs
      all_less fs [] more made h = tt
      all_less fs (a ∷ older) more made h =
          let next : Less t few n (Around t few n older) L = λ w b y. more w b (inr (around_outer t few n older w b y)) in
          (builds_less of_wait of_wait (λ K l ps c i w y. y) fs a.frame a.this older next (λ w b m. made w b (inr m)) h.0, all_less fs older next (λ w b m. made w b (inr m)) h.1)

    -- what an activation has still to bind
    left_less : (given : List Ty) (a : Active) (K : Value → Ty → Type 0) → Lasts t few numbers K → (ps : List Ty) (c i : ℕ) (w : Value) → Left t heads given a ps c i w (Known t few n K) → Left t heads given a ps c i w (Known t less n K)
    left_less [] a K lasts ps c i w y = now_more t heads ps c i w (Known t few n K) (Known t less n K) (λ b v. known_fewer t few numbers keeps n K lasts b v) a.control a.operands y
    left_less (b ∷ given) a K lasts ps c i w y = y

  -- of executions that do not run

  built_turns : Turns t few numbers (Built t heads few) (Built t heads less)
  built_turns n gs x same h l = (lives_fewer t few numbers keeps n gs x same h.0 l, by l)
    where
      bounds : length (x.run ∷ x.callers) ≤ length gs
      bounds = let f = h.0.frames in omega (arith, same, f)

      by : Lasts t few numbers (AtHand t few n gs (x.run ∷ x.callers)) ⊎ FreshLasts t few numbers x → BuildsEx t heads less n gs x
      by (inl lasts) =
          let more : Less t few n (Around t few n x.callers) (AtHand t few n gs (x.run ∷ x.callers)) = λ w a y. around_hand t few n gs (x.run ∷ x.callers) w a (inr (around_outer t few n x.callers w a y)) in
          let made : (w : Value) (a : Ty) → MakingIn gs x.callers w a → AtHand t few n gs (x.run ∷ x.callers) w a = λ w a m. inr (inl (making_here t few gs (x.run ∷ x.callers) w a (below t few (OutwardsOrMade gs) n x.frames (x.run ∷ x.callers) h.0.stack) bounds (inr m))) in
          record {
            anew = h.1.anew;
            run = builds_less gs n (AtHand t few n gs (x.run ∷ x.callers)) lasts of_wait of_wait (λ K l ps c i w y. y) x.frames x.run.frame x.run.this x.callers more made h.1.run;
            callers = all_less gs n (AtHand t few n gs (x.run ∷ x.callers)) lasts x.frames x.callers more made h.1.callers;
            pairs = h.1.pairs;
          }
      by (inr fresh) = record {
        anew = h.1.anew;
        run = subst (λ cs. Builds t heads less gs n of_wait x.frames x.run.frame x.run.this cs) (sym fresh.callers) tt;
        callers = subst (λ cs. AllBuild t heads less gs n x.frames cs) (sym fresh.callers) tt;
        pairs = h.1.pairs;
      }

  pub slot_built : (n : Exec) (x : Ex) → ClaimsSlot t few (Built t heads few) n x → ExLasts t few numbers n x → ClaimsSlot t less (Built t heads less) n x
  slot_built n x k l = slot_claims t few numbers keeps (Built t heads few) (Built t heads less) built_turns n x k l

  -- of a task

  module _ (s : State) (gs : List Sig) (hand : Lasts t few numbers (AtHand t few s.env.exec gs (s.run ∷ s.callers)) ⊎ AllSilent s.run.control) (made : (w : Value) (a : Ty) → MakingIn gs (s.run ∷ s.callers) w a → AtHand t few s.env.exec gs (s.run ∷ s.callers) w a) where
    abbrev Holds_at : Few → CleanUp → List Todo → Type 0
    Holds_at f c todo = (k i : ℕ) → CleansAt t (Obj i) (src.Variable k) c → IsBuilt t heads f gs s.env.exec s.env.frames s.run.frame (variable s.env.exec s.run.frame k) i (AtScope t f gs s.env.exec s.run.frame s.run.this s.callers c todo)

    abbrev Marked : List Todo → Value → Ty → Type 0
    Marked l w a = InTodo (IsFor t (Frame s.env.exec s.run.frame) s.run.this) (AtField t (Frame s.env.exec s.run.frame) s.run.this) l w a

    -- a list that does more than to come to its end, with no more marks than what is known there
    at_scope : (c : CleanUp) (todo : List Todo) → (AllSilent s.run.control → ⊥) → ((w : Value) (a : Ty) → Marked todo w a → Marked s.run.control w a) → Holds_at few c todo → Holds_at less c todo
    at_scope c todo loud marks h = by hand
      where
        by : Lasts t few numbers (AtHand t few s.env.exec gs (s.run ∷ s.callers)) ⊎ AllSilent s.run.control → Holds_at less c todo
        by (inl lasts) = λ k i d.
            built_less gs s.env.exec (AtScope t few gs s.env.exec s.run.frame s.run.this s.callers c todo) (scope_lasts gs s.env.exec (AtHand t few s.env.exec gs (s.run ∷ s.callers)) lasts s.run s.callers c todo (λ w a m. inl (inl (marks w a m))) (λ w a o. around_hand t few s.env.exec gs (s.run ∷ s.callers) w a (inr o)) made) s.env.frames s.run.frame (variable s.env.exec s.run.frame k) i (h k i d)
        by (inr silent) = absurd (loud silent)

    stands_less : (l : List Todo) → s.run.control ≡ l → Nears (Holds_at few) l → Nears (Holds_at less) l
    stands_less (piece.Rest (src.Scoped c ss) ∷ todo) e h = at_scope c todo (λ q. subst AllSilent e q) (λ w a m. subst (λ l. Marked l w a) (sym e) m) h
    stands_less (piece.Within line ∷ (piece.Rest (src.Scoped c ss) ∷ todo)) e h = at_scope c todo (λ q. subst AllSilent e q) (λ w a m. subst (λ l. Marked l w a) (sym e) m) h
    stands_less (piece.DropNow ∷ (piece.Within line ∷ (piece.Rest (src.Scoped c ss) ∷ todo))) e h = at_scope c todo (λ q. subst AllSilent e q) (λ w a m. subst (λ l. Marked l w a) (sym e) m) h
    stands_less l e h = tt

  pub state_built : (given : List Ty) (s : State) → EnvBy (ExLasts t few numbers) s.env → ((k : KnowsState t few given s) → RunLasts t few numbers given s k) → BuiltState t heads few given s → BuiltState t heads less given s
  state_built given s e l x =
      let r = l (plain t few (Built t heads few) given s x.0) in
      let same = frames_length t few s.env.exec x.0.sigs s.env.frames (s.run ∷ s.callers) x.0.frames in (
        record {
          sigs = x.0.sigs;
          frames = top_frames t few numbers keeps s.env.exec x.0.sigs s.env.frames s.run s.callers r.waiting x.0.frames;
          run = active_fewer t few numbers keeps s.env.exec x.0.sigs given s.callers s.run x.0.run r.waiting r.operands;
          callers = waits_fewer t few numbers keeps s.env.exec (others x.0.sigs) s.callers r.waiting x.0.callers;
          env = env_claims t few numbers keeps (Built t heads few) (Built t heads less) built_turns s.env x.0.env e;
        },
        (running_lives t few numbers keeps s.env.exec x.0.sigs (stopped s) same x.1.0 r.waiting r.operands, builds r.waiting, stands_less s x.0.sigs r.operands made_here s.run.control refl x.1.2, x.1.3, x.1.4),
      )
    where
      same_length : length s.env.frames ≡ length x.0.sigs
      same_length = frames_length t few s.env.exec x.0.sigs s.env.frames (s.run ∷ s.callers) x.0.frames

      claim : Lives t few s.env.exec x.0.sigs (stopped s)
      claim = x.1.0

      all_below : Below (s.run ∷ s.callers)
      all_below = below t few (OutwardsOrMade x.0.sigs) s.env.exec s.env.frames (s.run ∷ s.callers) claim.stack

      bounds : length (s.run ∷ s.callers) ≤ length x.0.sigs
      bounds = let f = claim.frames in omega (arith, same_length, f)

      made_here : (w : Value) (a : Ty) → MakingIn x.0.sigs (s.run ∷ s.callers) w a → AtHand t few s.env.exec x.0.sigs (s.run ∷ s.callers) w a
      made_here w a m = inr (inl (making_here t few x.0.sigs (s.run ∷ s.callers) w a all_below bounds m))

      older : length s.callers ≤ length (others x.0.sigs)
      older = others_le x.0.sigs (length s.callers) bounds

      made_older : (w : Value) (a : Ty) → MakingIn x.0.sigs s.callers w a → AtHand t few s.env.exec (others x.0.sigs) s.callers w a
      made_older w a m = inr (inl (making_here t few (others x.0.sigs) s.callers w a all_below.1 older (in_older t few x.0.sigs s.callers w a all_below.1 older m)))

      builds : Lasts t few numbers (AtHand t few s.env.exec (others x.0.sigs) s.callers) → BuildsBy t heads less x.0.sigs (Left t heads given s.run) s
      builds lasts = record {
        anew = x.1.1.anew;
        run = builds_less x.0.sigs s.env.exec (AtHand t few s.env.exec (others x.0.sigs) s.callers) lasts (Left t heads given s.run) (Left t heads given s.run) (left_less x.0.sigs s.env.exec given s.run) s.env.frames s.run.frame s.run.this s.callers (around_hand t few s.env.exec (others x.0.sigs) s.callers) made_older x.1.1.run;
        callers = all_less x.0.sigs s.env.exec (AtHand t few s.env.exec (others x.0.sigs) s.callers) lasts s.env.frames s.callers (around_hand t few s.env.exec (others x.0.sigs) s.callers) made_older x.1.1.callers;
      }
