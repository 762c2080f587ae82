-- On the way from the declaration of a variable to the statement that binds it, and from there to the scope of a cluster, nothing is read; nor
-- is it while an array is filled.
use Rattle.std.proofs.Common.{◌≡◌, ℕ, true, false, List, ◌∷◌, refl}
use Rattle.uc_tree.specs.Source.{Expr, Stmt, Stmts}
use Rattle.uc_machine.specs.Pieces.{Todo, Eval, State}
use Rattle.uc_typing.specs.Typing.{Ty, Name, Sig, Table}
use Rattle.uc_typing.specs.States.{ReadsVariable, ReadsPlace}
use Rattle.uc_state_laws.specs.Declaring.{Point, Declares, Lists, Clears, Cleared, Passes, Reaches, point_todo}
use Rattle.uc_state_laws.specs.Filling as fill
use Rattle.uc_state_laws.specs.NewClusters.{Stage, Does, Binds, Places, Makes, Orders, Told, Bound, Leaves, Opens, stage_todo}
use Rattle.uc_state_laws.specs.Endings.{reading}

module _ (k l : ℕ) (ss : Stmts) (todo : List Todo) where
  pub no_end : (g : Stage) → reading (stage_todo g k l ss todo) ≡ 0
  no_end Does = refl
  no_end Binds = refl
  no_end Places = refl
  no_end Makes = refl
  no_end Orders = refl
  no_end Told = refl
  no_end Bound = refl
  no_end Leaves = refl
  no_end Opens = refl

  module _ (t : Table) (i : Sig) (sc : List Name) (s : State) where
    pub no_variable : (g : Stage) → ReadsVariable t sc s (stage_todo g k l ss todo)
    no_variable Does = tt
    no_variable Binds = tt
    no_variable Places = tt
    no_variable Makes = tt
    no_variable Orders = tt
    no_variable Told = tt
    no_variable Bound = tt
    no_variable Leaves = tt
    no_variable Opens = tt

    pub no_place : (own : List Ty) (g : Stage) → ReadsPlace t i s (stage_todo g k l ss todo) own
    no_place own Does = tt
    no_place own Binds = tt
    no_place own Places = tt
    no_place own Makes = tt
    no_place own Orders = tt
    no_place own Told = tt
    no_place own Bound = tt
    no_place own Leaves = tt
    no_place own Opens = tt

module _ (b : Stmt) (ss : Stmts) (todo : List Todo) where
  pub point_end : (g : Point) → reading (point_todo g b ss todo) ≡ 0
  point_end (Declares m d) = refl
  point_end (Lists m d) = refl
  point_end (Clears m d) = refl
  point_end (Cleared m) = refl
  point_end (Passes m) = refl
  point_end Reaches = refl

  module _ (t : Table) (i : Sig) (sc : List Name) (s : State) where
    pub point_variable : (g : Point) → ReadsVariable t sc s (point_todo g b ss todo)
    point_variable (Declares m d) = tt
    point_variable (Lists m d) = tt
    point_variable (Clears m d) = tt
    point_variable (Cleared m) = tt
    point_variable (Passes m) = tt
    point_variable Reaches = tt

    pub point_place : (own : List Ty) (g : Point) → ReadsPlace t i s (point_todo g b ss todo) own
    point_place own (Declares m d) = tt
    point_place own (Lists m d) = tt
    point_place own (Clears m d) = tt
    point_place own (Cleared m) = tt
    point_place own (Passes m) = tt
    point_place own Reaches = tt

-- while an array is filled

fill_end_kind : (k : fill.Kind) (todo : List Todo) → (reading (fill.found_todo k todo) ≡ 0) × (reading (fill.going_todo k todo) ≡ 0) × (reading (fill.asking_todo k todo) ≡ 0) × (reading (fill.told_todo k todo) ≡ 0)
fill_end_kind fill.Cluster todo = (refl, refl, refl, refl)
fill_end_kind (fill.Processor i) todo = (refl, refl, refl, refl)
fill_end_kind (fill.Object c r true) todo = (refl, refl, refl, refl)
fill_end_kind (fill.Object c r false) todo = (refl, refl, refl, refl)

fill_end_bound : (x : fill.Array) (k : fill.Kind) → reading (fill.bound_todo k (fill.turn_todo x)) ≡ 0
fill_end_bound x fill.Cluster = refl
fill_end_bound x (fill.Processor i) = refl
fill_end_bound x (fill.Object c r true) = refl
fill_end_bound x (fill.Object c r false) = refl

fill_end_binds : (k : fill.Kind) (e : Expr) (todo : List Todo) → reading (Eval (fill.binder k e) ∷ todo) ≡ 0
fill_end_binds fill.Cluster e todo = refl
fill_end_binds (fill.Processor i) e todo = refl
fill_end_binds (fill.Object c r true) e todo = refl
fill_end_binds (fill.Object c r false) e todo = refl

pub fill_end : (g : fill.Stage) (x : fill.Array) → reading (fill.fill_todo g x) ≡ 0
fill_end fill.Does x = refl
fill_end fill.Counts x = refl
fill_end fill.Turns x = refl
fill_end fill.Evals x = fill_end_binds x.kind (fill.counted x) (fill.turn_todo x)
fill_end fill.Finds x = refl
fill_end fill.Names x = refl
fill_end fill.Indexes x = refl
fill_end fill.Elements x = refl
fill_end fill.Found x = (fill_end_kind x.kind (fill.turn_todo x)).0
fill_end fill.Nears x = (fill_end_kind x.kind (fill.turn_todo x)).1
fill_end fill.Asks x = (fill_end_kind x.kind (fill.turn_todo x)).2
fill_end fill.Told x = (fill_end_kind x.kind (fill.turn_todo x)).3
fill_end fill.Bound x = fill_end_bound x x.kind
fill_end fill.More x = refl
fill_end fill.Passes x = refl
fill_end fill.Opens x = refl

module _ (t : Table) (i : Sig) (sc : List Name) (s : State) where
  fill_variable_kind : (k : fill.Kind) (todo : List Todo) → (ReadsVariable t sc s (fill.found_todo k todo)) × (ReadsVariable t sc s (fill.going_todo k todo)) × (ReadsVariable t sc s (fill.asking_todo k todo)) × (ReadsVariable t sc s (fill.told_todo k todo))
  fill_variable_kind fill.Cluster todo = (tt, tt, tt, tt)
  fill_variable_kind (fill.Processor i) todo = (tt, tt, tt, tt)
  fill_variable_kind (fill.Object c r true) todo = (tt, tt, tt, tt)
  fill_variable_kind (fill.Object c r false) todo = (tt, tt, tt, tt)

  fill_variable_bound : (x : fill.Array) (k : fill.Kind) → ReadsVariable t sc s (fill.bound_todo k (fill.turn_todo x))
  fill_variable_bound x fill.Cluster = tt
  fill_variable_bound x (fill.Processor i) = tt
  fill_variable_bound x (fill.Object c r true) = tt
  fill_variable_bound x (fill.Object c r false) = tt

  fill_variable_binds : (k : fill.Kind) (e : Expr) (todo : List Todo) → ReadsVariable t sc s (Eval (fill.binder k e) ∷ todo)
  fill_variable_binds fill.Cluster e todo = tt
  fill_variable_binds (fill.Processor i) e todo = tt
  fill_variable_binds (fill.Object c r true) e todo = tt
  fill_variable_binds (fill.Object c r false) e todo = tt

  pub fill_variable : (g : fill.Stage) (x : fill.Array) → ReadsVariable t sc s (fill.fill_todo g x)
  fill_variable fill.Does x = tt
  fill_variable fill.Counts x = tt
  fill_variable fill.Turns x = tt
  fill_variable fill.Evals x = fill_variable_binds x.kind (fill.counted x) (fill.turn_todo x)
  fill_variable fill.Finds x = tt
  fill_variable fill.Names x = tt
  fill_variable fill.Indexes x = tt
  fill_variable fill.Elements x = tt
  fill_variable fill.Found x = (fill_variable_kind x.kind (fill.turn_todo x)).0
  fill_variable fill.Nears x = (fill_variable_kind x.kind (fill.turn_todo x)).1
  fill_variable fill.Asks x = (fill_variable_kind x.kind (fill.turn_todo x)).2
  fill_variable fill.Told x = (fill_variable_kind x.kind (fill.turn_todo x)).3
  fill_variable fill.Bound x = fill_variable_bound x x.kind
  fill_variable fill.More x = tt
  fill_variable fill.Passes x = tt
  fill_variable fill.Opens x = tt

  fill_place_kind : (own : List Ty) (k : fill.Kind) (todo : List Todo) → (ReadsPlace t i s (fill.found_todo k todo) own) × (ReadsPlace t i s (fill.going_todo k todo) own) × (ReadsPlace t i s (fill.asking_todo k todo) own) × (ReadsPlace t i s (fill.told_todo k todo) own)
  fill_place_kind own fill.Cluster todo = (tt, tt, tt, tt)
  fill_place_kind own (fill.Processor i) todo = (tt, tt, tt, tt)
  fill_place_kind own (fill.Object c r true) todo = (tt, tt, tt, tt)
  fill_place_kind own (fill.Object c r false) todo = (tt, tt, tt, tt)

  fill_place_bound : (own : List Ty) (x : fill.Array) (k : fill.Kind) → ReadsPlace t i s (fill.bound_todo k (fill.turn_todo x)) own
  fill_place_bound own x fill.Cluster = tt
  fill_place_bound own x (fill.Processor i) = tt
  fill_place_bound own x (fill.Object c r true) = tt
  fill_place_bound own x (fill.Object c r false) = tt

  fill_place_binds : (own : List Ty) (k : fill.Kind) (e : Expr) (todo : List Todo) → ReadsPlace t i s (Eval (fill.binder k e) ∷ todo) own
  fill_place_binds own fill.Cluster e todo = tt
  fill_place_binds own (fill.Processor i) e todo = tt
  fill_place_binds own (fill.Object c r true) e todo = tt
  fill_place_binds own (fill.Object c r false) e todo = tt

  pub fill_place : (own : List Ty) (g : fill.Stage) (x : fill.Array) → ReadsPlace t i s (fill.fill_todo g x) own
  fill_place own fill.Does x = tt
  fill_place own fill.Counts x = tt
  fill_place own fill.Turns x = tt
  fill_place own fill.Evals x = fill_place_binds own x.kind (fill.counted x) (fill.turn_todo x)
  fill_place own fill.Finds x = tt
  fill_place own fill.Names x = tt
  fill_place own fill.Indexes x = tt
  fill_place own fill.Elements x = tt
  fill_place own fill.Found x = (fill_place_kind own x.kind (fill.turn_todo x)).0
  fill_place own fill.Nears x = (fill_place_kind own x.kind (fill.turn_todo x)).1
  fill_place own fill.Asks x = (fill_place_kind own x.kind (fill.turn_todo x)).2
  fill_place own fill.Told x = (fill_place_kind own x.kind (fill.turn_todo x)).3
  fill_place own fill.Bound x = fill_place_bound own x x.kind
  fill_place own fill.More x = tt
  fill_place own fill.Passes x = tt
  fill_place own fill.Opens x = tt
