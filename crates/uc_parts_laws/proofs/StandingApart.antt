-- As an object goes that is at home in none of them, elements that stand are not gone on.
use Rattle.std.proofs.Common.{◌≡◌, ℕ, ◌<◌, inl, inr, Bool, false, List, [], ◌∷◌, Option, Some, None, sym, ap, ◌∙◌}
use Rattle.uc_tree.specs.Source as src
use Rattle.uc_tree.specs.Source.{Shape, Expr, ObjectExpr, CleanUp, Stmt, Stmts}
use Rattle.uc_acts.specs.Journal.{Journal}
use Rattle.uc_acts.specs.Known.{is_gone}
use Rattle.uc_machine.specs.declared.exec.Exec.{Exec}
use Rattle.uc_machine.specs.declared.exec.Home.{Home}
use Rattle.uc_machine.specs.declared.exec.Home.TheVariants as home
use Rattle.uc_machine.specs.declared.exec.Owner.TheVariants.{Frame}
use Rattle.uc_machine.specs.Executions.{Execution}
use Rattle.uc_machine.specs.Pieces as piece
use Rattle.uc_machine.specs.Pieces.{Slot, At, Link, Value, Place, Todo, Active, State, Members, Env}
use Rattle.uc_life_laws.specs.LifeStates.{SlotBy, ParkedBy, HandBy, MembersBy, EnvBy}
use Rattle.uc_putting_laws.specs.Filling.{is_filling}
use Rattle.uc_putting_laws.specs.Seats.{OfArray, AtArray, NotStanding}
use Rattle.uc_place_laws.specs.OlderResting.{AllWait}
use Rattle.uc_parts_laws.specs.Parts.{IsFree, Heads, HeadDo, IsOrderly}
use Rattle.uc_parts_laws.specs.PartStates.{Setting, IsTaken, InParts}
use Rattle.uc_parts_laws.specs.Standing.{Going, IsStill, array_of, AllStill, Standing, StandingFirst, StandingStack, StandingFrom, StandingEx, StandingMembers}
use Rattle.uc_parts_laws.specs.StandingRuns.{told_by}
use Rattle.uc_parts_laws.proofs.StandingCells.{unless_map}
use Rattle.uc_parts_laws.proofs.PartTodos.{clear_free, parted_free}

-- of the array of which elements are counted, if there is one
abbrev OfOne : (ℕ → ℕ → Type 0) → Option (Shape × ℕ × ℕ) → Type 0
OfOne P None = Unit {0}
OfOne P (Some a) = P a.2 a.1

module _ (P : ℕ → ℕ → Type 0) where
  of_count : (r m k : ℕ) (written : Bool) (s : Shape) (o : ObjectExpr) → OfArray P (src.OfObject (src.EndOn r written (src.Load (src.Element m s (src.Variable k) (src.OfObject o))))) → OfOne P (array_of (src.OfObject (src.EndOn r written (src.Load (src.Element m s (src.Variable k) (src.OfObject o))))))
  of_count r m k written s src.Counted h = h
  of_count r m k written s o h = tt

  of_index : (r m k : ℕ) (written : Bool) (s : Shape) (i : Expr) → OfArray P (src.OfObject (src.EndOn r written (src.Load (src.Element m s (src.Variable k) i)))) → OfOne P (array_of (src.OfObject (src.EndOn r written (src.Load (src.Element m s (src.Variable k) i)))))
  of_index r m k written s (src.OfObject o) h = of_count r m k written s o h
  of_index r m k written s i h = tt

  of_base : (r m : ℕ) (written : Bool) (s : Shape) (b i : Expr) → OfArray P (src.OfObject (src.EndOn r written (src.Load (src.Element m s b i)))) → OfOne P (array_of (src.OfObject (src.EndOn r written (src.Load (src.Element m s b i)))))
  of_base r m written s (src.Variable k) i h = of_index r m k written s i h
  of_base r m written s b i h = tt

  of_place : (r : ℕ) (written : Bool) (e : Expr) → OfArray P (src.OfObject (src.EndOn r written (src.Load e))) → OfOne P (array_of (src.OfObject (src.EndOn r written (src.Load e))))
  of_place r written (src.Element m s b i) h = of_base r m written s b i h
  of_place r written e h = tt

  of_load : (r : ℕ) (written : Bool) (e : Expr) → OfArray P (src.OfObject (src.EndOn r written e)) → OfOne P (array_of (src.OfObject (src.EndOn r written e)))
  of_load r written (src.Load e) h = of_place r written e h
  of_load r written e h = tt

  of_object : (o : ObjectExpr) → OfArray P (src.OfObject o) → OfOne P (array_of (src.OfObject o))
  of_object (src.EndOn r written e) h = of_load r written e h
  of_object o h = tt

  of_array : (e : Expr) → OfArray P e → OfOne P (array_of e)
  of_array (src.OfObject o) h = of_object o h
  of_array e h = tt

-- where parts are built nothing is swept behind
module _ (special : ℕ → Bool) (T : CleanUp → Type 0) where
  heads_free : (ss : Stmts) (todo : List Todo) → Heads special T ss todo → IsFree todo
  heads_free (src.Scoped (src.Frees r) rest) [] h = tt
  heads_free (src.Scoped (src.Frees r) rest) (p ∷ todo) h = let e : p ∷ todo ≡ [] = h.0 in absurd (cc)
  heads_free ss todo h = parted_free special T todo h.2

  do_free : (a : Stmt) (todo : List Todo) → HeadDo special T a todo → IsFree todo
  do_free a (piece.Rest ss ∷ todo) h = parted_free special T todo h.3
  do_free a todo h = absurd h

module _ (homes : ℕ → Value) (j i : Journal) (o : ℕ) (only : (v : ℕ) → is_gone v j ≡ false → (v ≡ o → ⊥) → is_gone v i ≡ false) where
  abbrev Old : Going
  Old = told_by homes j

  abbrev New : Going
  New = told_by homes i

  still : (place v : Value) → (homes o ≡ place → ⊥) → IsStill Old place v → IsStill New place v
  still place v f h k e q = only k (h k e q) (λ same. f (sym (ap homes same) ∙ q))

  module _ (n : Exec) (vs : List Value) (d : ℕ) where
    -- in a frame in which it is not at home
    module _ (none : (p : List Link) → homes o ≡ Place (Frame n d) p → ⊥) where
      all_away : (count : ℕ) (a : Option (Shape × ℕ × ℕ)) → AllStill Old n vs d count a → AllStill New n vs d count a
      all_away count None h = tt
      all_away count (Some a) h = λ k l m. still _ _ (none _) (h k l m)

      list_away : (count : ℕ) (todo : List Todo) → Standing Old n vs d count todo → Standing New n vs d count todo
      list_away count [] h = tt
      list_away count (piece.CountNow m ∷ todo) h = absurd h
      list_away count (piece.Sweep e ∷ todo) h = (unless_map (is_filling todo) _ _ (all_away count (array_of e)) h.0, list_away count todo h.1)
      list_away count (p ∷ todo) h = list_away count todo h

      first_away : (count : ℕ) (todo : List Todo) → StandingFirst Old n vs d count todo → StandingFirst New n vs d count todo
      first_away count (piece.CountNow m ∷ todo) h = list_away m todo h
      first_away count todo h = list_away count todo h

    -- in one in which it is no element that stands of the array that is being destroyed
    module _ (count : ℕ) where
      abbrev Apart : ℕ → ℕ → Type 0
      Apart m k = (s : Shape) (l : ℕ) → l < m → l < count → homes o ≡ Place (Frame n d) (At s l ∷ (Slot k ∷ [])) → ⊥

      all_apart : (a : Option (Shape × ℕ × ℕ)) → OfOne Apart a → AllStill Old n vs d count a → AllStill New n vs d count a
      all_apart None f h = tt
      all_apart (Some a) f h = λ k l m. still _ _ (f a.0 k m l) (h k l m)

      free_apart : (todo : List Todo) → IsFree todo → Standing Old n vs d count todo → Standing New n vs d count todo
      free_apart [] f h = tt
      free_apart (piece.CountNow m ∷ todo) f h = absurd h
      free_apart (piece.Sweep e ∷ todo) f h = absurd f
      free_apart (piece.FillNow m b x ∷ todo) f h = absurd f
      free_apart (p ∷ todo) f h = free_apart todo f h

      module _ (special : ℕ → Bool) (T : CleanUp → Type 0) where
        list_apart : (todo : List Todo) → IsOrderly special T count todo → AtArray Apart todo → Standing Old n vs d count todo → Standing New n vs d count todo
        list_apart [] f a h = tt
        list_apart (piece.CountNow m ∷ todo) f a h = absurd h
        list_apart (piece.Sweep e ∷ todo) f a h = (unless_map (is_filling todo) _ _ (all_apart (array_of e) (of_array Apart e a)) h.0, free_apart todo f.0 h.1)
        list_apart (piece.FillNow m b x ∷ todo) f a h = free_apart todo f.1 h
        list_apart (piece.Guard hs ∷ todo) f a h = free_apart todo (clear_free todo f.1) h
        list_apart (piece.Do x ∷ todo) (inl f) a h = list_apart todo f.2 a h
        list_apart (piece.Do x ∷ todo) (inr f) a h = free_apart todo (do_free special T x todo f) h
        list_apart (piece.Rest ss ∷ todo) (inl f) a h = list_apart todo f.2 a h
        list_apart (piece.Rest ss ∷ todo) (inr f) a h = free_apart todo (heads_free special T ss todo f) h
        list_apart (piece.Branch x y ∷ todo) f a h = list_apart todo f.2 a h
        list_apart (piece.TurnNow k t e b ∷ todo) f a h = list_apart todo f.2 a h
        list_apart (piece.Again k t e b ∷ todo) f a h = list_apart todo f.2 a h
        list_apart (piece.InLoop k t e b ∷ todo) f a h = list_apart todo f.2 a h
        list_apart (piece.ChooseNow cs ∷ todo) f a h = list_apart todo f.2 a h
        list_apart (piece.Exit w ∷ todo) f a h = list_apart todo f.1 a h
        list_apart (piece.MoreNow ∷ todo) f a h = list_apart todo f.1 a h
        list_apart (piece.Clean c ∷ todo) f a h = list_apart todo f.2 a h
        list_apart (piece.Part c ∷ todo) f a h = free_apart todo (parted_free special T todo f.1) h
        list_apart (piece.SetUpNow r ∷ todo) f a h = list_apart todo f.1 a h
        list_apart (piece.MadeNow ∷ todo) f a h = list_apart todo f.1 a h
        list_apart (piece.SpawnNow r ∷ todo) f a h = list_apart todo f.1 a h
        list_apart (piece.ChildNow r ∷ todo) f a h = list_apart todo f.1 a h
        list_apart (piece.ClearNow k m ∷ todo) f a h = list_apart todo f.1 a h
        list_apart (piece.Variables ds ∷ todo) f a h = list_apart todo f.1 a h
        list_apart (p ∷ todo) f a h = list_apart todo f a h

  -- of the execution that lets go of it
  module _ (g : Setting) (n : Exec) (fs : List (List Value)) where
    stack_apart : (cs : List Active) → AllWait (InParts g) (InParts g) n cs → NotStanding n (homes o) cs → StandingStack Old n fs cs → StandingStack New n fs cs
    stack_apart [] w f h = tt
    stack_apart (a ∷ older) w f h = (h.0, list_apart n _ a.frame a.elements g.special (IsTaken g n older a.frame a.this) a.control w.0 f.0 h.1, stack_apart older w.1 f.1 h.2)

    pub from_apart : (a : Active) (cs : List Active) → ((p : List Link) → homes o ≡ Place (Frame n a.frame) p → ⊥) → AllWait (InParts g) (InParts g) n cs → NotStanding n (homes o) cs → StandingFrom Old n fs a cs → StandingFrom New n fs a cs
    from_apart a cs none w f h = (h.0, first_away n _ a.frame none a.elements a.control h.1, stack_apart cs w f h.2)

  -- of others
  module _ (n : Exec) (none : (d : ℕ) (p : List Link) → homes o ≡ Place (Frame n d) p → ⊥) where
    stack_away : (fs : List (List Value)) (cs : List Active) → StandingStack Old n fs cs → StandingStack New n fs cs
    stack_away fs [] h = tt
    stack_away fs (a ∷ older) h = (h.0, list_away n _ a.frame (none a.frame) a.elements a.control h.1, stack_away fs older h.2)

    pub from_away : (fs : List (List Value)) (a : Active) (cs : List Active) → StandingFrom Old n fs a cs → StandingFrom New n fs a cs
    from_away fs a cs h = (h.0, first_away n _ a.frame (none a.frame) a.elements a.control h.1, stack_away fs cs h.2)

  -- of all that do not run, but by other names
  module _ (e : Exec) (none : (n : Exec) → (n ≡ e → ⊥) → (d : ℕ) (p : List Link) → homes o ≡ Place (Frame n d) p → ⊥) where
    abbrev Other : Exec → Execution (List Todo) Value → Type 0
    Other n x = n ≡ e → ⊥

    slot_away : (n : Exec) (x : Option (Execution (List Todo) Value)) → SlotBy Other n x → SlotBy (StandingEx Old) n x → SlotBy (StandingEx New) n x
    slot_away n None f h = tt
    slot_away n (Some x) f h = record { frames = h.frames; stack = from_away n (none n f) x.frames x.run x.callers h.stack }

    parked_away : (h : Home) (ps : List (ℕ × Option (Execution (List Todo) Value))) → ParkedBy Other h ps → ParkedBy (StandingEx Old) h ps → ParkedBy (StandingEx New) h ps
    parked_away h [] f k = tt
    parked_away h (x ∷ ps) f k = (slot_away (record { home = h; serial = x.0 }) x.1 f.0 k.0, parked_away h ps f.1 k.1)

    hand_away : (ps : List (ℕ × Members)) → HandBy Other ps → HandBy (StandingEx Old) ps → HandBy (StandingEx New) ps
    hand_away [] f k = tt
    hand_away (x ∷ ps) f k = (parked_away (home.Object x.0) x.1.parked f.0 k.0, hand_away ps f.1 k.1)

    pub members_away : (h : Home) (m : Option Members) → MembersBy Other h m → StandingMembers Old h m → StandingMembers New h m
    members_away h None f k = tt
    members_away h (Some m) f k = parked_away h m.parked f k

    pub env_away : (v : Env) → EnvBy Other v → EnvBy (StandingEx Old) v → EnvBy (StandingEx New) v
    env_away v f h = record { house = parked_away (home.Task v.own) v.house.parked f.house h.house; hand = hand_away v.hand f.hand h.hand }
