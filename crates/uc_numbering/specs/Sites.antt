-- Accept statements, by the names of the mutex members of a class as far as they have numbers.
use Rattle.std.specs.Prelude.{ℕ, List, [], ◌∷◌, Option, Some, None, map, take, unwrap_or, if◌then◌else◌}
use Rattle.uc_tree.specs.declared.limits.TheConstants.{DESTRUCTOR, MEMBERS}
use Rattle.uc_tree.specs.declared.kinds.MemberName.{MemberName}
use Rattle.uc_tree.specs.Statements.{Stmt, Accept, Clause, Accepts, clause_list}
use Rattle.uc_tree.specs.Programs.{Class, Site}
use Rattle.uc_tree.specs.Numbering.{place_from, mutex_members, is_there}

abbrev pub names_of : Option Class → List (List ℕ)
names_of None = []
names_of (Some c) = take MEMBERS (mutex_members c)

abbrev pub listed_in : List (List ℕ) → MemberName → ℕ
listed_in names m = if m.destructor then DESTRUCTOR else unwrap_or (place_from 1 names m.name) 0

abbrev pub clause_listed : List (List ℕ) → Clause → List ℕ
clause_listed names (Accepts pos guard members body) = map (listed_in names) members

abbrev pub own_listed : List (List ℕ) → ℕ → Stmt → List Site
own_listed names number (Accept pos cs other) = record { class = number; clauses = map (clause_listed names) (clause_list cs); has_else = is_there other } ∷ []
own_listed names number _ = []
