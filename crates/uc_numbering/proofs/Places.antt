-- The accept statements by the names of a class are those of the class.
use Rattle.std.proofs.Common.{◌≡◌, ℕ, [], ◌∷◌, Option, Some, None, map, refl, ap, ◌∙◌, if◌then◌else◌}
use Rattle.std.specs.Prelude.{unwrap_or}
use mathlib.Core.Path.{fun_ext}
use Rattle.uc_tree.specs.declared.limits.TheConstants.{DESTRUCTOR}
use Rattle.uc_tree.specs.declared.kinds.MemberName.{MemberName}
use Rattle.uc_tree.specs.Statements.{Stmt, Stmts, Accept, Clause, Accepts, clause_list}
use Rattle.uc_tree.specs.Programs.{Class}
use Rattle.uc_tree.specs.Gathered.{gathered_all}
use Rattle.uc_tree.specs.Numbering.{own_sites, listed_number, clause_members, is_there}
use Rattle.uc_numbering.specs.Flat.{itself, flat}
use Rattle.uc_numbering.specs.Sites.{names_of, listed_in, clause_listed, own_listed}
use Rattle.uc_numbering.proofs.FlatLemmas.{flat_all}
use Rattle.uc_numbering.proofs.Listed.{member_numbered}

listed_is : (c : Option Class) (m : MemberName) → listed_in (names_of c) m ≡ listed_number c m
listed_is None m = refl
listed_is (Some c) m = ap (λ o. if m.destructor then DESTRUCTOR else unwrap_or o 0) (member_numbered c m.name)

clause_is : (c : Option Class) (k : Clause) → clause_listed (names_of c) k ≡ clause_members c k
clause_is c (Accepts pos guard members body) = ap (λ f. map f members) (fun_ext (listed_is c))

own_is : (c : Option Class) (number : ℕ) (s : Stmt) → own_listed (names_of c) number s ≡ own_sites c number s
own_is c number (Accept pos cs other) = ap (λ f. record { class = number; clauses = map f (clause_list cs); has_else = is_there other } ∷ []) (fun_ext (clause_is c))
own_is c number _ = refl

pub sites_are : (c : Option Class) (number : ℕ) (ss : Stmts) → flat (own_listed (names_of c) number) (gathered_all itself ss) ≡ gathered_all (own_sites c number) ss
sites_are c number ss = ap (λ own. flat own (gathered_all itself ss)) (fun_ext (own_is c number)) ∙ flat_all (own_sites c number) ss
