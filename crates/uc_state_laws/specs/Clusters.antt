-- A variable that is a cluster, a processor or a mutex object is declared, bound to a new one and in scope by what stands right behind each
-- other; so it is with an array of them, whose elements are filled one by one.
use Rattle.std.specs.Prelude.{◌≡◌, ℕ, ◌≤◌, [], ◌∷◌, None}
use Rattle.uc_tree.specs.Source.{Binding, Expr, Literal, Variable, Element, Load, OfObject, NoExprs, Counted, EndOn, Bind, MakeOn, NewCluster, NewProcessor, EndCluster, EndProcessor, CleanUp, Destroys, DestroysAll, Stmt, Stmts, Evaluate, Declare, Fill, Nil, Then, Scoped, Built, Handlers, NoHandlers, MoreHandlers}

-- a statement declares nothing but the variable at a cell, without a value
abbrev pub DeclaresAlone : ℕ → Stmt → Type 0
DeclaresAlone k (Declare line (d ∷ [])) = (d.cell ≡ k) × (d.value ≡ None) × (1 ≤ d.cells)
DeclaresAlone k a = ⊥

-- it binds that to a new cluster
abbrev pub BindsCluster : ℕ → Stmt → Type 0
BindsCluster k (Evaluate line (OfObject (Bind (Variable m) (OfObject NewCluster)))) = m ≡ k
BindsCluster k a = ⊥

-- to a new processor; to a new mutex object
abbrev pub BindsProcessor : ℕ → Stmt → Type 0
BindsProcessor k (Evaluate line (OfObject (Bind (Variable m) (OfObject (NewProcessor e))))) = m ≡ k
BindsProcessor k a = ⊥

abbrev pub BindsObject : ℕ → Stmt → Type 0
BindsObject k (Evaluate line (OfObject (MakeOn c r written (Variable m) args))) = m ≡ k
BindsObject k a = ⊥

-- a statement declares nothing but so many cells of a variable, or more, without a value
abbrev pub DeclaresAll : ℕ → ℕ → Stmt → Type 0
DeclaresAll k n (Declare line (d ∷ [])) = (d.cell ≡ k) × (d.value ≡ None) × (n ≤ d.cells)
DeclaresAll k n a = ⊥

-- the element that is counted of the array of so many at a variable
abbrev pub IsElementOf : ℕ → ℕ → Expr → Type 0
IsElementOf k n (Element m Binding (Variable c) (OfObject Counted)) = (c ≡ k) × (m ≡ n)
IsElementOf k n e = ⊥

-- an expression binds that to a new cluster, to a new processor of a cluster known by a literal, or to a new mutex object without arguments
abbrev pub BindsElement : ℕ → ℕ → Expr → Type 0
BindsElement k n (OfObject (Bind p (OfObject NewCluster))) = IsElementOf k n p
BindsElement k n (OfObject (Bind p (OfObject (NewProcessor (Literal i))))) = IsElementOf k n p
BindsElement k n (OfObject (MakeOn c r written p NoExprs)) = IsElementOf k n p
BindsElement k n e = ⊥

-- a statement fills an array of so many at a variable
abbrev pub FillsArray : ℕ → ℕ → Stmt → Type 0
FillsArray k n (Fill line m b d) = (m ≡ n) × BindsElement k n b
FillsArray k n a = ⊥

-- what may stand before one that fills elements
abbrev pub PrecedesFill : Stmt → ℕ → Expr → Type 0
PrecedesFill a n (OfObject (Bind (Element m Binding (Variable k) i) e)) = DeclaresAll k n a ×
    BindsElement k n (OfObject (Bind (Element m Binding (Variable k) i) e))
PrecedesFill a n (OfObject (MakeOn c r written (Element m Binding (Variable k) i) args)) = DeclaresAll k n a ×
    BindsElement k n (OfObject (MakeOn c r written (Element m Binding (Variable k) i) args))
PrecedesFill a n e = Unit {0}

-- what may stand before a statement, and before a scope
abbrev pub Precedes : Stmt → Stmt → Type 0
Precedes a (Evaluate line (OfObject (Bind (Variable k) (OfObject NewCluster)))) = DeclaresAlone k a
Precedes a (Evaluate line (OfObject (Bind (Variable k) (OfObject (NewProcessor e))))) = DeclaresAlone k a
Precedes a (Evaluate line (OfObject (MakeOn c r written (Variable k) args))) = DeclaresAlone k a
Precedes a (Fill line n b d) = PrecedesFill a n b
Precedes a b = Unit {0}

abbrev pub OpensArray : Stmt → ℕ → Expr → Type 0
OpensArray a n (OfObject (EndCluster (Load (Element m Binding (Variable k) i)))) = FillsArray k n a
OpensArray a n (OfObject (EndProcessor (Load (Element m Binding (Variable k) i)))) = FillsArray k n a
OpensArray a n (OfObject (EndOn r written (Load (Element m Binding (Variable k) i)))) = FillsArray k n a
OpensArray a n e = Unit {0}

abbrev pub OpensBound : Stmt → CleanUp → Type 0
OpensBound a (Destroys (OfObject (EndCluster (Load (Variable k))))) = BindsCluster k a
OpensBound a (Destroys (OfObject (EndProcessor (Load (Variable k))))) = BindsProcessor k a
OpensBound a (Destroys (OfObject (EndOn r written (Load (Variable k))))) = BindsObject k a
OpensBound a (DestroysAll n e) = OpensArray a n e
OpensBound a c = Unit {0}

abbrev pub Follows : Stmt → Stmts → Type 0
Follows a Nil = Unit {0}
Follows a (Then b rest) = Precedes a b
Follows a (Scoped c rest) = OpensBound a c
Follows a (Built c rest) = Unit {0}

-- statements that may stand behind any other: they begin neither by binding such a variable, or such elements, nor by the scope of one
abbrev pub FillsNone : Expr → Type 0
FillsNone (OfObject (Bind (Element m Binding (Variable k) i) e)) = ⊥
FillsNone (OfObject (MakeOn c r written (Element m Binding (Variable k) i) args)) = ⊥
FillsNone e = Unit {0}

abbrev pub EndsNone : Expr → Type 0
EndsNone (OfObject (EndCluster (Load (Element m Binding (Variable k) i)))) = ⊥
EndsNone (OfObject (EndProcessor (Load (Element m Binding (Variable k) i)))) = ⊥
EndsNone (OfObject (EndOn r written (Load (Element m Binding (Variable k) i)))) = ⊥
EndsNone e = Unit {0}

abbrev pub IsUnbound : Stmt → Type 0
IsUnbound (Evaluate line (OfObject (Bind (Variable k) (OfObject NewCluster)))) = ⊥
IsUnbound (Evaluate line (OfObject (Bind (Variable k) (OfObject (NewProcessor e))))) = ⊥
IsUnbound (Evaluate line (OfObject (MakeOn c r written (Variable k) args))) = ⊥
IsUnbound (Fill line n b d) = FillsNone b
IsUnbound a = Unit {0}

abbrev pub IsUnscoped : CleanUp → Type 0
IsUnscoped (Destroys (OfObject (EndCluster (Load (Variable k))))) = ⊥
IsUnscoped (Destroys (OfObject (EndProcessor (Load (Variable k))))) = ⊥
IsUnscoped (Destroys (OfObject (EndOn r written (Load (Variable k))))) = ⊥
IsUnscoped (DestroysAll n e) = EndsNone e
IsUnscoped c = Unit {0}

abbrev pub Begins : Stmts → Type 0
Begins Nil = Unit {0}
Begins (Then a rest) = IsUnbound a
Begins (Scoped c rest) = IsUnscoped c
Begins (Built c rest) = Unit {0}

-- so do the bodies of all handlers
abbrev pub HandlersBegin : Handlers → Type 0
HandlersBegin NoHandlers = Unit {0}
HandlersBegin (MoreHandlers resumes event cell line body rest) = Begins body × HandlersBegin rest

-- so it is of all that stand behind each other in a block
abbrev pub Joined : Stmts → Type 0
Joined Nil = Unit {0}
Joined (Then a rest) = Follows a rest × Joined rest
Joined (Scoped c rest) = Begins rest × Joined rest
Joined (Built c rest) = Begins rest × Joined rest
