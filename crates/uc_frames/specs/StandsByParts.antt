-- When a task's state in cells stands for one of the source, part by part.
use Rattle.std.specs.Prelude.{◌≡◌, ℕ, List, [], ◌∷◌, map, Option, Some, None}
use Rattle.uc_machine.specs.declared.exec.Stage.{Stage}
use Rattle.uc_machine.specs.declared.exec.Stage.TheVariants.{Fresh, Started, Ended}
use Rattle.uc_machine.specs.Executions.{Activation, Execution, Members, Env, State}
use Rattle.uc_machine.specs.Switches.{Moved, To, Stops}

-- one by one
abbrev pub Lined : {X Y : Type 0} → (X → Y → Type 0) → List X → List Y → Type 0
Lined P [] [] = Unit {0}
Lined P [] (y ∷ ys) = ⊥
Lined P (x ∷ xs) [] = ⊥
Lined P (x ∷ xs) (y ∷ ys) = P x y × Lined P xs ys

-- numbered things one by one, under the same numbers
abbrev pub Numbered : {X Y : Type 0} → (X → Y → Type 0) → List (ℕ × X) → List (ℕ × Y) → Type 0
Numbered P [] [] = Unit {0}
Numbered P [] (q ∷ qs) = ⊥
Numbered P (p ∷ ps) [] = ⊥
Numbered P (p ∷ ps) (q ∷ qs) = (p.0 ≡ q.0) × P p.1 q.1 × Numbered P ps qs

-- both are there, or neither is
abbrev pub Alike : {X Y : Type 0} → (X → Y → Type 0) → Option X → Option Y → Type 0
Alike P None None = Unit {0}
Alike P None (Some y) = ⊥
Alike P (Some x) None = ⊥
Alike P (Some x) (Some y) = P x y

-- nothing goes on in an execution that has ended
abbrev pub Unless : Stage → Type 0 → Type 0
Unless Fresh P = P
Unless Started P = P
Unless Ended P = Unit {0}

-- the newest activation stands by R, those that wait stand by K, and the values are the images under f
module _ {A B V W : Type 0} (R K : Activation A V → Activation B W → Type 0) (f : W → V) where
  pub record ExecutionStands (m : Execution A V) (s : Execution B W) : Type 0 where
    pub run : Unless s.links.stage (R m.run s.run)
    pub callers : Lined K m.callers s.callers
    pub frames : m.frames ≡ map (map f) s.frames
    pub links : m.links ≡ s.links

  pub record MembersStand (m : Members A V) (s : Members B W) : Type 0 where
    pub values : m.values ≡ map f s.values
    pub serial : m.serial ≡ s.serial
    pub parked : Numbered (Alike ExecutionStands) m.parked s.parked

  pub record EnvStands (m : Env A V) (s : Env B W) : Type 0 where
    pub frames : m.frames ≡ map (map f) s.frames
    pub links : m.links ≡ s.links
    pub exec : m.exec ≡ s.exec
    pub own : m.own ≡ s.own
    pub house : MembersStand m.house s.house
    pub depths : m.depths ≡ s.depths
    pub hand : Numbered MembersStand m.hand s.hand
    pub gathered : m.gathered ≡ s.gathered

  pub record StateStands (m : State A V) (s : State B W) : Type 0 where
    pub run : R m.run s.run
    pub callers : Lined K m.callers s.callers
    pub env : EnvStands m.env s.env

  -- both go on, or both stop by one fault
  abbrev pub MovedStand : Moved A V → Moved B W → Type 0
  MovedStand (To m) (To s) = StateStands m s
  MovedStand (To m) (Stops r) = ⊥
  MovedStand (Stops r) (To s) = ⊥
  MovedStand (Stops a) (Stops b) = a ≡ b
