-- What nobody has to clean up is at hand of nobody, where what executions have of others stands in what those have.
use Rattle.std.proofs.Common.{◌≡◌, ℕ, zero, suc, ◌<◌, ◌⊎◌, inl, inr, Bool, true, false, List, [], ◌∷◌, ◌++◌, Option, Some, None, refl, sym, ◌∙◌, subst, arith, ⊎_elim}
use Rattle.std.specs.Prelude.{if◌then◌else◌}
use Rattle.uc_tree.specs.Source.{CleanUp}
use Rattle.uc_entry.specs.declared.entry.Entry.{Entry}
use Rattle.uc_acts.specs.Journal.{Journal}
use Rattle.uc_acts.specs.Known.{has_ended, is_gone}
use Rattle.uc_machine.specs.declared.exec.Exec.{Exec}
use Rattle.uc_machine.specs.declared.exec.Home.{Home}
use Rattle.uc_machine.specs.declared.exec.Home.TheVariants as home
use Rattle.uc_machine.specs.declared.exec.Owner.{Owner}
use Rattle.uc_machine.specs.declared.exec.Owner.TheVariants.{Frame}
use Rattle.uc_machine.specs.declared.exec.Stage.{Stage}
use Rattle.uc_machine.specs.declared.exec.Stage.TheVariants.{Fresh, Started, Ended}
use Rattle.uc_machine.specs.Executions.{Execution, others}
use Rattle.uc_machine.specs.Pieces as piece
use Rattle.uc_machine.specs.Pieces.{Link, Value, Number, Place, Running, Object, Nothing, Todo, Sort, Active, State, Env, Members, further}
use Rattle.uc_meaning.specs.Runs.{World}
use Rattle.uc_typing.specs.Typing.{Ty, Cell, Obj, Raw, Row, Sig, Table}
use Rattle.uc_life_laws.specs.Things.{Few, Within, itself, field, element, AtField, IsFor, Marks, InTodo, Base, Things, Stands, lies, inside, Held}
use Rattle.uc_life_laws.specs.LifeStates.{SlotBy, ParkedBy, HandBy, MembersBy, EnvBy}
use Rattle.uc_life_laws.specs.Knowing.{AtHand, InMaking, KnowsState}
use Rattle.uc_life_laws.proofs.Reading.{within_raw, not_whole, NoNumber, behind_number}
use Rattle.uc_life_laws.proofs.Fewer.{both_members, both_env}
use Rattle.uc_life_laws.specs.Fewer.{Lasts, HandLasts, ExLasts, RunLasts}
use Rattle.uc_life_laws.specs.Lasting.{lasting_numbers, lasting, WorldLasts}
use Rattle.uc_life_laws.specs.Rooted.{OwnThings, InSlot, InParked, InHand, InMembers, Lives, IsPlace, Yet, Had, OwnObject, Apart, StageApart, ExApart, RunApart, FreshKeeps, FreshLast, IsBase, Rooted, LawRooted}

-- executions that do not run, each with where it is, if it has begun and not ended

module _ (P Q : Exec → Execution (List Todo) Value → Type 0) where
  slot_in : (m : Exec) (o : Option (Execution (List Todo) Value)) → ((n : Exec) (x : Execution (List Todo) Value) → (x.links.stage ≡ Started → InSlot n (x.run ∷ x.callers) m o) → P n x → Q n x) → SlotBy P m o → SlotBy Q m o
  slot_in m None f h = tt
  slot_in m (Some x) f h = f m x (λ e. (refl, refl, e)) h

  parked_in : (h : Home) (ps : List (ℕ × Option (Execution (List Todo) Value))) → ((n : Exec) (x : Execution (List Todo) Value) → (x.links.stage ≡ Started → InParked n (x.run ∷ x.callers) h ps) → P n x → Q n x) → ParkedBy P h ps → ParkedBy Q h ps
  parked_in h [] f k = tt
  parked_in h (p ∷ ps) f k =
      (slot_in (record { home = h; serial = p.0 }) p.1 (λ n x i. f n x (λ e. inl (i e))) k.0, parked_in h ps (λ n x i. f n x (λ e. inr (i e))) k.1)

  hand_in : (ps : List (ℕ × Members)) → ((n : Exec) (x : Execution (List Todo) Value) → (x.links.stage ≡ Started → InHand n (x.run ∷ x.callers) ps) → P n x → Q n x) → HandBy P ps → HandBy Q ps
  hand_in [] f k = tt
  hand_in (p ∷ ps) f k = (parked_in (home.Object p.0) p.1.parked (λ n x i. f n x (λ e. inl (i e))) k.0, hand_in ps (λ n x i. f n x (λ e. inr (i e))) k.1)

  members_in : (h : Home) (m : Option Members) → ((n : Exec) (x : Execution (List Todo) Value) → (x.links.stage ≡ Started → InMembers n (x.run ∷ x.callers) h m) → P n x → Q n x) → MembersBy P h m → MembersBy Q h m
  members_in h None f k = tt
  members_in h (Some m) f k = parked_in h m.parked f k

  pub env_in : (e : Env) → ((n : Exec) (x : Execution (List Todo) Value) → (x.links.stage ≡ Started → InParked n (x.run ∷ x.callers) (home.Task e.own) e.house.parked ⊎ InHand n (x.run ∷ x.callers) e.hand) → P n x → Q n x) → EnvBy P e → EnvBy Q e
  env_in e f k = record {
    house = parked_in (home.Task e.own) e.house.parked (λ n x i. f n x (λ e. inl (i e))) k.house;
    hand = hand_in e.hand (λ n x i. f n x (λ e. inr (i e))) k.hand;
  }

-- things

-- an object that is known by its number is no part of anything else
further_object : (l : Link) (v : Value) (o : ℕ) → further l v ≡ Object o → ⊥
further_object l (Number z) o e = cc
further_object l (Place q p) o e = cc
further_object l (Running x) o e = cc
further_object l (Object q) o e = cc
further_object l Nothing o e = cc

further_place : (l : Link) (v w : Value) → w ≡ further l v → (o : ℕ) → w ≡ Object o → ⊥
further_place l v w e o f = further_object l v o (sym e ∙ f)

module _ (t : Table) where
  within_both : (w : Value) (a : Ty) (v : Value) (b : Ty) (u : Value) (d : Ty) → Within t w a v b → Within t v b u d → Within t w a u d
  within_both w a v b u d h itself = h
  within_both w a v b u d h (field {v = x} {c} k i f) = field (within_both w a v b x (Obj c) h k) i f
  within_both w a v b u d h (element {v = x} {m} {b = e} k j l) = element (within_both w a v b x (Row m e) h k) j l

  pub within_object : (w : Value) (a : Ty) (v : Value) (b : Ty) (o : ℕ) → Within t w a v b → v ≡ Object o → w ≡ Object o
  within_object w a v b o itself e = e
  within_object w a v b o (field {v = x} {c} k i f) e = absurd (further_object _ x o e)
  within_object w a v b o (element {v = x} {m} {b = d} k j l) e = absurd (further_object _ x o e)

  for_place : (o : Owner) (this : Value) (c : CleanUp) (w : Value) (a : Ty) → IsFor t o this c w a → (u : ℕ) → w ≡ Object u → ⊥
  for_place o this c w a (inl h) u e = let f : Place o (piece.Slot h.0 ∷ []) ≡ Object u = sym h.2 ∙ e in absurd (cc)
  for_place o this c w a (inr h) u e = further_place _ this w h.3 u e

  field_place : (o : Owner) (this : Value) (c : CleanUp) (w : Value) (a : Ty) → AtField t o this c w a → (u : ℕ) → w ≡ Object u → ⊥
  field_place o this c w a h u e = further_place _ this w h.3 u e

  mark_place : (o : Owner) (this w : Value) (a : Ty) (s : Sort) (R : Type 0) → ((u : ℕ) → w ≡ Object u → R → ⊥) → Marks (IsFor t o this) (AtField t o this) s w a R → (u : ℕ) → w ≡ Object u → ⊥
  mark_place o this w a (piece.IsClean c) R f (inl m) u e = for_place o this c w a m u e
  mark_place o this w a (piece.IsClean c) R f (inr r) u e = f u e r
  mark_place o this w a (piece.IsPart c) R f (inl m) u e = field_place o this c w a m u e
  mark_place o this w a (piece.IsPart c) R f (inr r) u e = f u e r
  mark_place o this w a piece.Simple R f r u e = f u e r
  mark_place o this w a (piece.IsLoop x y z q) R f r u e = f u e r
  mark_place o this w a piece.IsWhole R f r u e = f u e r
  mark_place o this w a (piece.IsFill x y z) R f r u e = f u e r
  mark_place o this w a (piece.IsSweep x) R f r u e = f u e r
  mark_place o this w a (piece.IsGuard x) R f r u e = f u e r
  mark_place o this w a piece.IsFinish R f r u e = f u e r
  mark_place o this w a piece.IsFinishCoroutine R f r u e = f u e r

  todo_place : (o : Owner) (this w : Value) (a : Ty) (todo : List Todo) → InTodo (IsFor t o this) (AtField t o this) todo w a → (u : ℕ) → w ≡ Object u → ⊥
  todo_place o this w a [] m u e = m
  todo_place o this w a (x ∷ todo) m u e = mark_place o this w a (piece.sort x) _ (λ u e r. todo_place o this w a todo r u e) m u e

  base_place : (w : Value) → IsPlace w → (u : ℕ) → w ≡ Object u → ⊥
  base_place (Number z) h u e = h
  base_place (Place q p) h u e = cc
  base_place (Running x) h u e = h
  base_place (Object q) h u e = h
  base_place Nothing h u e = h

  module _ (few : Few) (places : (n : Exec) (w : Value) (b : Ty) → Base few n w b → IsPlace w) where
    pub things_place : (n : Exec) (cs : List Active) (w : Value) (a : Ty) → Things t few n cs w a → (u : ℕ) → w ≡ Object u → ⊥
    things_place n [] w a m u e = base_place w (places n w a m) u e
    things_place n (c ∷ cs) w a (inl m) u e = todo_place (Frame n c.frame) c.this w a c.control m u e
    things_place n (c ∷ cs) w a (inr m) u e = things_place n cs w a m u e

  base_raw : (w : Value) (a : Ty) → IsBase w a → (u : ℕ) → w ≡ Object u → (c : ℕ) × (a ≡ Raw c)
  base_raw w a (inl h) u e = absurd (base_place w h u e)
  base_raw w a (inr h) u e = (h.1, h.3)

  -- an object is among things as what is had of others alone
  pub things_object : (few : Few) (n : Exec) (cs : List Active) (w : Value) (a : Ty) → Things t few n cs w a → (u : ℕ) → w ≡ Object u → Base few n w a
  things_object few n [] w a m u e = m
  things_object few n (c ∷ cs) w a (inl m) u e = absurd (todo_place (Frame n c.frame) c.this w a c.control m u e)
  things_object few n (c ∷ cs) w a (inr m) u e = things_object few n cs w a m u e

  -- and then as one that is not whole, so no whole one lies in it
  module _ (few : Few) (foreign : (n : Exec) (w : Value) (b : Ty) → Base few n w b → IsBase w b) where
    pub things_raw : (n : Exec) (cs : List Active) (w : Value) (a : Ty) → Things t few n cs w a → (u c : ℕ) → Within t w a (Object u) (Obj c) → ⊥
    things_raw n cs w a m u c h =
        let at = within_object w a (Object u) (Obj c) u h refl in
        let r = base_raw w a (foreign n w a (things_object few n cs w a m u at)) u at in
        let e : Obj c ≡ Raw r.0 = within_raw t w r.0 (Object u) (Obj c) (subst (λ d. Within t w d (Object u) (Obj c)) r.1 h) in
        absurd (cc)

  -- what is own, and what is of others
  pub things_split : (few : Few) (n : Exec) (cs : List Active) (w : Value) (a : Ty) → Things t few n cs w a → OwnThings t n cs w a ⊎ Base few n w a
  things_split few n [] w a m = inr m
  things_split few n (c ∷ cs) w a (inl m) = inl (inl m)
  things_split few n (c ∷ cs) w a (inr m) = ⊎_elim (λ x. inl (inr x)) (λ x. inr x) (things_split few n cs w a m)

  module _ (few : Few) where
    pub stands_more : (K L : Value → Ty → Type 0) → ((w : Value) (a : Ty) → K w a → L w a) → (b : Ty) (v : Value) → Stands t few K b v → Stands t few L b v
    stands_more K L more b v (lies {w = w} {a} k h) = lies (more w a k) h
    stands_more K L more b v (inside {o = o} {c} m k h) = inside m (stands_more K L more (Cell (Obj c)) (few.home o) k) h

    pub stands_split : (K L M : Value → Ty → Type 0) → ((w : Value) (a : Ty) → K w a → L w a ⊎ M w a) → (b : Ty) (v : Value) → Stands t few K b v → Stands t few L b v ⊎ Stands t few M b v
    stands_split K L M split b v (lies {w = w} {a} k h) = ⊎_elim (λ x. inl (lies x h)) (λ x. inr (lies x h)) (split w a k)
    stands_split K L M split b v (inside {o = o} {c} m k h) = ⊎_elim (λ x. inl (inside m x h)) (λ x. inr (inside m x h)) (stands_split K L M split (Cell (Obj c)) (few.home o) k)

    pub within_on : (L : Value → Ty → Type 0) (a : Ty) (w : Value) (b : Ty) (v : Value) → Stands t few L a w → Within t w a v b → Stands t few L b v
    within_on L a w b v (lies {w = x} {a = d} k h) y = lies k (within_both x d w a v b h y)
    within_on L a w b v (inside {o = o} {c} m k h) y = inside m k (within_both (Object o) (Obj c) w a v b h y)

    -- what is being built or destroyed has no part that stands
    pub stands_things : (n : Exec) (gs : List Sig) (cs : List Active) (b : Ty) (v : Value) → Stands t few (AtHand t few n gs cs) (Cell b) v → Stands t few (Things t few n cs) (Cell b) v
    stands_things n gs cs b v (lies {w = w} {a} (inl k) h) = lies k h
    stands_things n gs cs b v (lies {w = w} {a} (inr k) h) =
        let r = not_whole t n gs cs w a k in
        let e : Cell b ≡ Raw r.0 = within_raw t w r.0 v (Cell b) (subst (λ a. Within t w a v (Cell b)) r.1 h) in
        absurd (cc)
    stands_things n gs cs b v (inside {o = o} {c} m k h) = inside m (stands_things n gs cs (Obj c) (few.home o) k) h

module _ (t : Table) (few : Few) (j : Journal) (a : List Entry) (x : World) (own : Exec → Value → Ty → Bool) (yet : Exec → List Active → Value → Ty → Bool) (rank : Exec → ℕ) (o : ℕ) (alone : (u : ℕ) → is_gone u j ≡ false → is_gone u (j ++ a) ≡ true → u ≡ o) (places : (n : Exec) (w : Value) (b : Ty) → Base few n w b → IsBase w b) (fresh : FreshLast t few j a x) (r : Rooted t few j a x own yet rank o) where
  -- what one has of others, but its own object
  abbrev OfOthers : Exec → Value → Ty → Type 0
  OfOthers n w b = Base few n w b × (own n w b ≡ false)

  own_or_not : (n : Exec) (w : Value) (b : Ty) → Base few n w b → OwnObject few own n w b ⊎ OfOthers n w b
  own_or_not n w b h = by (own n w b) refl
    where
      by : (g : Bool) → own n w b ≡ g → OwnObject few own n w b ⊎ OfOthers n w b
      by true e = inl (h, e)
      by false e = inr (h, e)

  had_split : (n : Exec) (cs : List Active) (w : Value) (b : Ty) → Had t few yet n cs w b → Yet t yet n cs w b ⊎ Base few n w b
  had_split n cs w b h = h

  things_had : (n : Exec) (cs : List Active) (w : Value) (b : Ty) → Things t few n cs w b → Had t few yet n cs w b
  things_had n cs w b h = ⊎_elim (λ x. inl (inl x)) (λ x. inr x) (things_split t few n cs w b h)

  -- such a thing of one that lives stands in what one has that was there before
  record Before (n : Exec) (b : Ty) (v : Value) : Type 0 where
    other : Exec
    active : List Active
    living : Lives (j ++ a) x other active
    before : rank other < rank n
    stands : Stands t few (Had t few yet other active) b v

  based : (n : Exec) (cs : List Active) → Lives (j ++ a) x n cs → (b : Ty) (v : Value) → Stands t few (OfOthers n) b v → Before n b v
  based n cs i b v (lies {w = w} {a = d} k h) =
      let u = r.up n cs i w d k.0 k.1 in
      record { other = u.0; active = u.1; living = u.2; before = u.3; stands = within_on t few (Had t few yet u.0 u.1) d w b v u.4 h }
  based n cs i b v (inside {o = q} {c} m k h) =
      let u = based n cs i (Cell (Obj c)) (few.home q) k in
      record { other = u.other; active = u.active; living = u.living; before = u.before; stands = inside m u.stands h }

  no_home : (fuel : ℕ) (n : Exec) (cs : List Active) → rank n < fuel → Lives (j ++ a) x n cs → (c : ℕ) → Stands t few (Had t few yet n cs) (Cell (Obj c)) (few.home o) → ⊥
  no_home zero n cs f i c h = let e : ⊥ = omega (arith, f) in e
  no_home (suc fuel) n cs f i c h =
      ⊎_elim
      (λ s. r.beside.unmarked n cs i c s)
      (λ s.
      ⊎_elim
      (λ k. r.beside.outside n cs i c k)
      (λ k.
      let u = based n cs i (Cell (Obj c)) (few.home o) k in
      let g = u.before in
      no_home fuel u.other u.active (omega (arith, f, g)) u.living c u.stands)
      (stands_split t few (Base few n) (OwnObject few own n) (OfOthers n) (own_or_not n) (Cell (Obj c)) (few.home o) s))
      (stands_split t few (Had t few yet n cs) (Yet t yet n cs) (Base few n) (had_split n cs) (Cell (Obj c)) (few.home o) h)

  -- with the numbers of a journal: the homes and bases are the same
  stands_left : (K : Value → Ty → Type 0) (b : Ty) (v : Value) → Stands t (lasting few j) K b v → Stands t few K b v
  stands_left K b v (lies k h) = lies k h
  stands_left K b v (inside {o = q} {c} m k h) = inside m (stands_left K (Cell (Obj c)) (few.home q) k) h

  abbrev left : Ty → ℕ → Bool
  left = lasting_numbers few.numbers (j ++ a)

  -- of what some of its activations have at hand: things, and what is being built or destroyed but is not this object
  module _ (n : Exec) (cs : List Active) (i : Lives (j ++ a) x n cs) (gs : List Sig) (ds : List Active) (more : (w : Value) (b : Ty) → Things t few n ds w b → Things t few n cs w b) where
    none_held : Apart t (lasting few j) left o gs ds → (c : ℕ) → Held t (lasting few j) (AtHand t (lasting few j) n gs ds) (Obj c) (Object o) → ⊥
    none_held p c (inl (lies {w = w} {a = d} (inl k) h)) = things_raw t few places n ds w d k o c h
    none_held p c (inl (lies {w = w} {a = d} (inr k) h)) =
        let q = not_whole t n gs ds w d k in
        let e : Obj c ≡ Raw q.0 = within_raw t w q.0 (Object o) (Obj c) (subst (λ d. Within t w d (Object o) (Obj c)) q.1 h) in
        absurd (cc)
    none_held p c (inl (inside {o = u} {c = d} m k h)) =
        let e : Object u ≡ Object o = within_object t (Object u) (Obj d) (Object o) (Obj c) o h refl in
        let same : u ≡ o = cc in
        let s : Stands t few (Things t few n ds) (Cell (Obj d)) (few.home u) = stands_things t few n gs ds (Obj d) (few.home u) (stands_left (AtHand t (lasting few j) n gs ds) (Cell (Obj d)) (few.home u) k) in
        no_home (suc (rank n)) n cs (omega arith) i d (stands_more t few (Things t few n ds) (Had t few yet n cs) (λ w b m. things_had n cs w b (more w b m)) (Cell (Obj d)) (few.home o) (subst (λ (u : ℕ). Stands t few (Things t few n ds) (Cell (Obj d)) (few.home u)) same s))
    none_held p c (inr h) = ⊎_elim (λ k. r.beside.unheld n cs i h.1 (subst (λ w. Base few n w (Raw h.1)) e (things_object t few n ds h.0 (Raw h.1) k o e))) (λ k. ⊎_elim (λ k. p h.1 (subst (λ w. InMaking gs ds w (Raw h.1)) e k)) (λ k. subst NoNumber e (behind_number t n ds h.0 (Raw h.1) k)) k) h.2
      where
        e : h.0 ≡ Object o
        e = within_object t h.0 (Obj h.1) (Object o) (Obj c) o h.3 refl

    still : (c u : ℕ) → (u ≡ o → ⊥) → (lasting few j).numbers (Obj c) u ≡ true → left (Obj c) u ≡ true
    still c u d f = by (is_gone u j) refl (is_gone u (j ++ a)) refl f
      where
        by : (g : Bool) → is_gone u j ≡ g → (h : Bool) → is_gone u (j ++ a) ≡ h → (if g then false else few.numbers (Obj c) u) ≡ true → (if h then false else few.numbers (Obj c) u) ≡ true
        by true e h q f = absurd (cc)
        by false e true q f = absurd (d (alone u e q))
        by false e false q f = f

    hand_lasts : Apart t (lasting few j) left o gs ds → Lasts t (lasting few j) left (AtHand t (lasting few j) n gs ds)
    hand_lasts p c u m h f = still c u (λ e. none_held p c (subst (λ (u : ℕ). Held t (lasting few j) (AtHand t (lasting few j) n gs ds) (Obj c) (Object u)) e h)) f

  -- what holds of an execution that does not run
  abbrev Told : Exec → Execution (List Todo) Value → Type 0
  Told n y = FreshKeeps t (lasting few j) left y.links.stage n y × ExApart t (lasting few j) left o n y

  ex_apart : (n : Exec) (y : Execution (List Todo) Value) → (y.links.stage ≡ Started → Lives (j ++ a) x n (y.run ∷ y.callers)) → Told n y → ExLasts t (lasting few j) left n y
  ex_apart n y i e = by y.links.stage refl e.0 e.1
    where
      by : (g : Stage) → y.links.stage ≡ g → FreshKeeps t (lasting few j) left g n y → StageApart t (lasting few j) left o g n y → HandLasts t (lasting few j) left g n y
      by Fresh q f h = inl f.0
      by Started q f h = λ k. hand_lasts n (y.run ∷ y.callers) (i q) k.sigs (y.run ∷ y.callers) (λ w b m. m) (h k)
      by Ended q f h = tt

  abbrev Kept : Exec → Execution (List Todo) Value → Type 0
  Kept n y = FreshKeeps t (lasting few j) left y.links.stage n y

  running : (u : ℕ) → has_ended u (j ++ a) ≡ false → Lives (j ++ a) x (x.tasks u).env.exec ((x.tasks u).run ∷ (x.tasks u).callers)
  running u e = inl (u, e, refl, refl)

  pub rooted : WorldLasts t few j a x
  rooted = record {
    tasks = λ u.
        let s = x.tasks u in
        env_in Told (ExLasts t (lasting few j) left) s.env (λ n y i e. ex_apart n y (λ q. inr (inl (u, i q))) e) (both_env Kept (ExApart t (lasting few j) left o) Told (λ n y h k. (h, k)) s.env (fresh.tasks u) (r.beside.tasks u));
    alive = λ u e given k. run_lasts u e given k (r.beside.alive u e given k);
    homes = λ q. members_in Told (ExLasts t (lasting few j) left) (home.Object q) (x.homes q) (λ n y i e. ex_apart n y (λ g. inr (inr (q, i g))) e) (both_members Kept (ExApart t (lasting few j) left o) Told (λ n y h k. (h, k)) (home.Object q) (x.homes q) (fresh.homes q) (r.beside.homes q));
  }
    where
      run_lasts : (u : ℕ) → has_ended u (j ++ a) ≡ false → (given : List Ty) (k : KnowsState t (lasting few j) given (x.tasks u)) → RunApart t (lasting few j) left o given (x.tasks u) k → RunLasts t (lasting few j) left given (x.tasks u) k
      run_lasts u e given k p = record {
        waiting = hand_lasts (x.tasks u).env.exec ((x.tasks u).run ∷ (x.tasks u).callers) (running u e) (others k.sigs) (x.tasks u).callers (λ w b m. inr m) p.waiting;
        operands = ⊎_elim (λ q. inl (hand_lasts (x.tasks u).env.exec ((x.tasks u).run ∷ (x.tasks u).callers) (running u e) k.sigs ((x.tasks u).run ∷ (x.tasks u).callers) (λ w b m. m) q)) (λ q. inr q) p.operands;
      }

pub law_rooted : LawRooted
law_rooted t few j a x own yet rank o alone places fresh r = rooted t few j a x own yet rank o alone places fresh r
