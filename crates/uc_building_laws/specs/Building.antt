-- What builds an object in which references are bound: the statements of its constructor, and to-do lists in which some of them are left.
use Rattle.std.specs.Prelude.{◌≡◌, ℕ, ◌≤◌, ◌⊎◌, ◌&&◌, ◌||◌, Bool, true, false, List, ◌∷◌, nat_eq, nat_lt, if◌then◌else◌}
use Rattle.uc_tree.specs.declared.kinds.Role.TheVariants as role
use Rattle.uc_tree.specs.Objects.{written_at}
use Rattle.uc_tree.specs.Programs.{Program}
use Rattle.uc_tree.specs.Source.{field_cells, Expr, ObjectExpr, Literal, Variable, Element, Get, Load, Negated, Not, AsCharacter, AsTruth, Operate, And, Or, Assign, OfObject, This, OwnField, GetOwn, FieldOf, Counted, Bind, Stmt, Stmts, Evaluate, Fill, OfTasks, SetUp, Nil, Then, Scoped, Built, routine_of}
use Rattle.uc_machine.specs.Pieces as piece
use Rattle.uc_machine.specs.Pieces.{FieldAt, Value, Todo, LAST_ADDRESS, top, below, further}
use Rattle.uc_resolve.specs.Resolve.{source_of}
use Rattle.uc_typing.specs.Typing.{Ty, Cell, Obj, Table, IsParam, IsPlaced}
use Rattle.uc_life_laws.specs.Things.{IsField, IsBinding}
use Rattle.uc_place_laws.specs.Opened.{role_number}

-- statements

-- found without a call, without a fault, and without anything that is bound: literals, parameters, fields of the object at hand and what they hold, and
-- fields of these
abbrev mutual
  pub is_calm : Expr → Bool
  is_calm (Literal n) = true
  is_calm (Get k) = true
  is_calm (OfObject o) = is_calm_object o
  is_calm e = false

  pub is_calm_object : ObjectExpr → Bool
  is_calm_object (OwnField s m) = true
  is_calm_object (GetOwn s m) = true
  is_calm_object (FieldOf s m e) = is_calm e
  is_calm_object o = false

-- found without a call, and without anything that is written or bound; a fault may end it
abbrev mutual
  pub is_still : Expr → Bool
  is_still (Literal n) = true
  is_still (Variable k) = true
  is_still (Element n s e i) = is_still e && is_still i
  is_still (Get k) = true
  is_still (Load e) = is_still e
  is_still (Negated e) = is_still e
  is_still (Not e) = is_still e
  is_still (AsCharacter e) = is_still e
  is_still (AsTruth e) = is_still e
  is_still (Operate op e f) = is_still e && is_still f
  is_still (And e f) = is_still e && is_still f
  is_still (Or e f) = is_still e && is_still f
  is_still (OfObject o) = is_still_object o
  is_still e = false

  pub is_still_object : ObjectExpr → Bool
  is_still_object This = true
  is_still_object (OwnField s m) = true
  is_still_object (GetOwn s m) = true
  is_still_object (FieldOf s m e) = is_still e
  is_still_object Counted = true
  is_still_object o = false

-- another field of the object at hand than this is bound to what is calm, or a number that is found without a call is written to one
abbrev pub is_aside : ℕ → Expr → Bool
is_aside i (OfObject (Bind (OfObject (OwnField s m)) e)) = (if nat_eq m i then false else true) && is_calm e
is_aside i (Assign (OfObject (OwnField s m)) e) = is_still e
is_aside i e = false

-- an expression binds another field of the object at hand than this, or none
abbrev pub is_other : ℕ → Expr → Bool
is_other i (OfObject (Bind (OfObject (OwnField s m)) e)) = if nat_eq m i then false else true
is_other i e = true

-- none of the first statements binds the field i
abbrev pub is_settled : ℕ → Stmts → Bool
is_settled i Nil = true
is_settled i (Then (Evaluate line e) rest) = is_other i e && is_settled i rest
is_settled i (Then (Fill line n b d) rest) = is_settled i rest
is_settled i (Then (OfTasks (SetUp r)) rest) = is_settled i rest
is_settled i (Then a rest) = true
is_settled i (Scoped x rest) = true
is_settled i (Built x rest) = is_settled i rest

-- a cell stands before the field i where the first statements bind it
abbrev pub is_late : ℕ → Expr → Bool
is_late i (OfObject (Bind (OfObject (OwnField s m)) e)) = if nat_eq m i then nat_lt 0 (field_cells s m) else true
is_late i e = true

abbrev pub is_behind : ℕ → Stmts → Bool
is_behind i Nil = true
is_behind i (Then (Evaluate line e) rest) = is_late i e && is_behind i rest
is_behind i (Then (OfTasks (SetUp r)) rest) = is_behind i rest
is_behind i (Then a rest) = true
is_behind i (Scoped x rest) = true
is_behind i (Built x rest) = is_behind i rest

-- `told`: the fields that have been bound so, and stay so
module _ (told : ℕ → Bool) where
  -- a path from a parameter that is a reference, from a field of the object at hand, or from what such a field has been bound to, by its form alone:
  -- nothing else is read on it
  abbrev mutual
    pub is_path : Expr → Bool
    is_path (Get k) = true
    is_path (OfObject o) = is_object_path o
    is_path e = false

    pub is_object_path : ObjectExpr → Bool
    is_object_path (OwnField s m) = true
    is_object_path (GetOwn s m) = told m
    is_object_path (FieldOf s m e) = is_path e
    is_object_path o = false

  -- the field i of the object at hand is bound to what such a path finds
  abbrev pub is_bound_by : ℕ → Expr → Bool
  is_bound_by i (OfObject (Bind (OfObject (OwnField s m)) e)) = nat_eq m i && is_path e
  is_bound_by i e = false

-- `clean`: the fields before which nothing is done but that: numbers are written to fields, other fields are bound, and where a cell stands before it an
-- execution is set up, which that names
module _ (clean : ℕ → Bool) where
  abbrev pub clean_behind : Expr → ℕ → Bool
  clean_behind e m = clean m && is_aside m e

  abbrev pub clean_up : Stmts → ℕ → Bool
  clean_up rest m = clean m && is_behind m rest

  -- those that have been bound so behind an expression, before these statements
  abbrev pub told_behind : (ℕ → Bool) → Expr → Stmts → ℕ → Bool
  told_behind told e rest m = told m || (clean m && (is_bound_by told m e && is_settled m rest))

-- by one of the first statements, before which nothing else is done
abbrev pub is_bound_in : (clean told : ℕ → Bool) → ℕ → Stmts → Bool
is_bound_in clean told i Nil = false
is_bound_in clean told i (Then (Evaluate line e) rest) =
    (clean i && is_bound_by told i e) || is_bound_in (clean_behind clean e) (told_behind clean told e rest) i rest
is_bound_in clean told i (Then (OfTasks (SetUp r)) rest) = is_bound_in (clean_up clean rest) told i rest
is_bound_in clean told i (Then a rest) = false
is_bound_in clean told i (Scoped x rest) = false
is_bound_in clean told i (Built x rest) = is_bound_in clean told i rest

-- all are clean before the first statement
abbrev pub all_clean : ℕ → Bool
all_clean m = true

-- none is told before the first statement
abbrev pub none_told : ℕ → Bool
none_told m = false

-- the fields that the constructors of a program bind so, by the number of the class and their own
abbrev pub heads_of : Program → ℕ → ℕ → Bool
heads_of p c i = is_bound_in all_clean none_told i (routine_of (source_of p) (role_number p c role.Constructor (written_at p c role.Constructor))).body

-- `ps`: the types of the parameters of a constructor of the class c; `F m`: its field m has been bound so, and stays so
module _ (t : Table) (ps : List Ty) (c : ℕ) (F : ℕ → Type 0) where
  -- such a path finds what is of this type
  abbrev mutual
    pub IsGiven : Expr → Ty → Type 0
    IsGiven (Get k) a = IsParam ps k a × (k ≤ LAST_ADDRESS)
    IsGiven (OfObject o) a = IsGivenBy o a
    IsGiven e a = ⊥

    pub IsGivenBy : ObjectExpr → Ty → Type 0
    IsGivenBy (OwnField s m) a = (a ≡ t.fields c m) × (s ≡ t.shape c) × IsField t c m × IsPlaced t (t.fields c m)
    IsGivenBy (GetOwn s m) a = (t.fields c m ≡ Cell a) × (s ≡ t.shape c) × IsField t c m × IsBinding a × F m
    IsGivenBy (FieldOf s m e) a = (d : ℕ) × IsGiven e (Obj d) × (a ≡ t.fields d m) × (s ≡ t.shape d) × IsField t d m ×
        IsPlaced t (t.fields d m)
    IsGivenBy o a = ⊥

  -- the field i is bound to what is of its type
  module _ (i : ℕ) where
    abbrev pub Gives : Expr → Type 0
    Gives e = (b : Ty) × (t.fields c i ≡ Cell b) × IsGiven e b

    abbrev pub BindsField : Expr → Type 0
    BindsField (OfObject (Bind (OfObject (OwnField s m)) e)) = (m ≡ i) × (s ≡ t.shape c) × Gives e
    BindsField e = ⊥

    abbrev pub BindsBy : Stmt → Type 0
    BindsBy (Evaluate line e) = BindsField e
    BindsBy a = ⊥

-- `heads`: of which fields of classes it is told. One of them that is not i, and is bound by none of the statements that are left, has been bound so
abbrev pub StaysBy : (ℕ → ℕ → Bool) → ℕ → ℕ → ℕ → Type 0 → Type 0
StaysBy heads c i m settled = (heads c m ≡ true) × (m ≡ i → ⊥) × settled

-- what is done before the field i of an object of the class c is bound
module _ (t : Table) (c i : ℕ) where
  -- another field, to which something may be bound
  abbrev pub IsBeside : ℕ → Type 0
  IsBeside m = (m ≡ i → ⊥) × IsField t c m × ((a : Ty) × (t.fields c m ≡ Cell a))

  -- another field is bound to what is calm, or a number is written that is found without a call
  abbrev pub Asides : Expr → Type 0
  Asides (OfObject (Bind (OfObject (OwnField s m)) e)) = (s ≡ t.shape c) × (is_calm e ≡ true) × IsBeside m
  Asides (Assign (OfObject (OwnField s m)) e) = is_still e ≡ true
  Asides e = ⊥

  -- a cell stands before it, in which an execution is named that is set up
  abbrev pub IsLed : Type 0
  IsLed = 1 ≤ field_cells (t.shape c) i

  abbrev pub IsHead : Stmt → Type 0 → Type 0
  IsHead (Evaluate line e) rest = Asides e × rest
  IsHead (OfTasks (SetUp r)) rest = IsLed × rest
  IsHead a rest = ⊥

module _ (t : Table) (heads : ℕ → ℕ → Bool) (ps : List Ty) (c i : ℕ) where
  -- the field i is bound so by one of the first statements
  abbrev pub InHead : Stmts → Type 0
  InHead Nil = ⊥
  InHead (Then a rest) = BindsBy t ps c (λ m. StaysBy heads c i m (is_settled m rest ≡ true)) i a ⊎ IsHead t c i a (InHead rest)
  InHead (Scoped x rest) = ⊥
  InHead (Built x rest) = InHead rest

-- to-do lists

-- none of the statements that are left binds the field m, behind what is evaluated now
abbrev pub Settled : ℕ → List Todo → Type 0
Settled m (piece.Rest ss ∷ todo) = is_settled m ss ≡ true
Settled m (piece.DropNow ∷ todo) = Settled m todo
Settled m (piece.Within line ∷ todo) = Settled m todo
Settled m (piece.FieldNow s j ∷ todo) = Settled m todo
Settled m (piece.BindNow ∷ todo) = Settled m todo
Settled m todo = ⊥

module _ (t : Table) (heads : ℕ → ℕ → Bool) (ps : List Ty) (c i : ℕ) where
  -- the fields that have been bound and stay so
  abbrev pub Stays : List Todo → ℕ → Type 0
  Stays todo m = StaysBy heads c i m (Settled m todo)

  -- the field is bound by the statements that are left, before anything is called
  abbrev pub Behind : List Todo → Type 0
  Behind (piece.Rest ss ∷ todo) = InHead t heads ps c i ss
  Behind (piece.Do a ∷ todo) = IsHead t c i a (Behind todo)
  Behind (piece.DropNow ∷ todo) = Behind todo
  Behind (piece.Within line ∷ todo) = Behind todo
  Behind todo = ⊥

  -- so it is behind a number that is being found without a call, and is written then
  abbrev pub Stills : List Todo → Type 0
  Stills (piece.Eval e ∷ todo) = (is_still e ≡ true) × Stills todo
  Stills (piece.LoadNow ∷ todo) = Stills todo
  Stills (piece.ElementNow n s ∷ todo) = Stills todo
  Stills (piece.FieldNow s m ∷ todo) = Stills todo
  Stills (piece.NegateNow ∷ todo) = Stills todo
  Stills (piece.NotNow ∷ todo) = Stills todo
  Stills (piece.CharacterNow ∷ todo) = Stills todo
  Stills (piece.TruthNow ∷ todo) = Stills todo
  Stills (piece.OperateNow op ∷ todo) = Stills todo
  Stills (piece.Choose e f ∷ todo) = ((is_still e ≡ true) × (is_still f ≡ true)) × Stills todo
  Stills (piece.KeepNow ∷ todo) = Behind todo
  Stills todo = ⊥

  -- `w`: the place of the object; `K`: what the values of parameters are known to
  module _ (w : Value) (K : Ty → Value → Type 0) where
    abbrev pub place : Value
    place = further (FieldAt (t.shape c) i) w

    -- what is found now is of the type a, with these operands below it, the place of the field among them: it is what the field is bound to, or a
    -- field in it is
    abbrev pub Onwards : Ty → List Todo → List Value → Type 0
    Onwards a (piece.FieldNow s m ∷ todo) vs = (d : ℕ) × (a ≡ Obj d) × (s ≡ t.shape d) × IsField t d m × IsPlaced t (t.fields d m) ×
        Onwards (t.fields d m) todo vs
    Onwards a (piece.BindNow ∷ todo) vs = (t.fields c i ≡ Cell a) × (top vs ≡ place)
    Onwards a todo vs = ⊥

    -- the place of the field is found, and then what it is bound to
    abbrev pub Starts : Expr → List Todo → Type 0
    Starts (OfObject (OwnField s m)) (piece.Eval e ∷ (piece.BindNow ∷ todo)) = (m ≡ i) × (s ≡ t.shape c) × Gives t ps c (λ m. Stays todo m) i e
    Starts e todo = ⊥

    -- that is found, or what leads to it
    abbrev pub Finds : Expr → List Todo → List Value → Type 0
    Finds e todo vs = (a : Ty) × IsGiven t ps c (λ m. Stays todo m) e a × Onwards a todo vs

    abbrev pub Found : List Todo → List Value → Type 0
    Found todo vs = (a : Ty) × Onwards a todo (below vs) × K a (top vs)

    -- what is found now is what another field is bound to, the place of which is the first of these operands
    abbrev pub Lands : List Todo → List Value → Type 0
    Lands (piece.FieldNow s m ∷ todo) vs = Lands todo vs
    Lands (piece.BindNow ∷ todo) vs = ((m : ℕ) × (top vs ≡ further (FieldAt (t.shape c) m) w) × IsBeside t c i m) × Behind todo
    Lands todo vs = ⊥

    -- the place of that is found, and then what it is bound to
    abbrev pub StartsAside : Expr → List Todo → Type 0
    StartsAside (OfObject (OwnField s m)) (piece.Eval e ∷ (piece.BindNow ∷ todo)) = Asides t c i (OfObject (Bind (OfObject (OwnField s m)) e)) × Behind todo
    StartsAside (OfObject (OwnField s m)) (piece.Eval e ∷ (piece.KeepNow ∷ todo)) = (is_still e ≡ true) × Behind todo
    StartsAside e todo = ⊥

    abbrev pub Passes : Expr → List Todo → List Value → Type 0
    Passes e todo vs = (Asides t c i e × Behind todo) ⊎ (StartsAside e todo ⊎ (((is_calm e ≡ true) × Lands todo vs) ⊎ ((is_still e ≡ true) × Stills todo)))

    -- the field is still to be bound, by an activation that has this to do, with these operands
    abbrev pub Now : List Todo → List Value → Type 0
    Now (piece.Do a ∷ todo) vs = BindsBy t ps c (λ m. Stays todo m) i a ⊎ Behind (piece.Do a ∷ todo)
    Now (piece.Eval e ∷ todo) vs = (BindsField t ps c (λ m. Stays todo m) i e ⊎ (Starts e todo ⊎ Finds e todo vs)) ⊎ Passes e todo vs
    Now (piece.FieldNow s m ∷ todo) vs = Found (piece.FieldNow s m ∷ todo) vs ⊎ (Lands (piece.FieldNow s m ∷ todo) (below vs) ⊎ Stills todo)
    Now (piece.BindNow ∷ todo) vs = Found (piece.BindNow ∷ todo) vs ⊎ Lands (piece.BindNow ∷ todo) (below vs)
    Now (piece.LoadNow ∷ todo) vs = Stills todo
    Now (piece.ElementNow n s ∷ todo) vs = Stills todo
    Now (piece.NegateNow ∷ todo) vs = Stills todo
    Now (piece.NotNow ∷ todo) vs = Stills todo
    Now (piece.CharacterNow ∷ todo) vs = Stills todo
    Now (piece.TruthNow ∷ todo) vs = Stills todo
    Now (piece.OperateNow op ∷ todo) vs = Stills todo
    Now (piece.Choose e f ∷ todo) vs = ((is_still e ≡ true) × (is_still f ≡ true)) × Stills todo
    Now (piece.KeepNow ∷ todo) vs = Behind todo
    Now (piece.SetUpNow r ∷ todo) vs = IsLed t c i × Behind todo
    Now todo vs = Behind todo
