-- Keys: names and signatures as lists of bytes, such that two are equal just where what they were made of is.
use Rattle.std.specs.Prelude.{ℕ, List, [], ◌∷◌, ◌++◌, Bool, true, false}
use Rattle.uc_tree.specs.declared.kinds.Base.{Base}
use Rattle.uc_tree.specs.declared.kinds.Base.TheVariants as base
use Rattle.uc_tree.specs.declared.kinds.Kind.{Kind}
use Rattle.uc_tree.specs.declared.kinds.Kind.TheVariants as kind
use Rattle.uc_tree.specs.declared.kinds.Param.{Param}
use Rattle.uc_tree.specs.declared.kinds.Role.{Role}
use Rattle.uc_tree.specs.declared.kinds.Role.TheVariants as role
use Rattle.uc_tree.specs.Programs.{Sig}

-- a 1 before each byte of a name, and a 0 behind the last
abbrev pub name_key : List ℕ → List ℕ
name_key [] = 0 ∷ []
name_key (b ∷ bs) = 1 ∷ (b ∷ name_key bs)

abbrev pub base_key : Base → List ℕ
base_key base.Void = 0 ∷ []
base_key base.Int = 1 ∷ []
base_key base.Char = 2 ∷ []
base_key base.Bool = 3 ∷ []
base_key base.Condition = 4 ∷ []
base_key base.Cluster = 5 ∷ []
base_key base.Processor = 6 ∷ []
base_key (base.Named name) = 7 ∷ name_key name

abbrev pub flag_byte : Bool → ℕ
flag_byte true = 1
flag_byte false = 0

abbrev pub role_byte : Role → ℕ
role_byte role.Plain = 0
role_byte role.Constructor = 1
role_byte role.Destructor = 2

abbrev pub kind_byte : Kind → ℕ
kind_byte kind.Class = 0
kind_byte kind.Coroutine = 1
kind_byte kind.Monitor = 2
kind_byte kind.Cormonitor = 3
kind_byte kind.Task = 4
kind_byte kind.Event = 5

-- a 1 before each parameter, and a 0 behind the last
abbrev pub params_key : List Param → List ℕ
params_key [] = 0 ∷ []
params_key (x ∷ xs) = 1 ∷ (flag_byte x.by_ref ∷ (base_key x.base ++ params_key xs))

-- a signature but for its owner and the names of its parameters
abbrev pub sig_key : Sig → List ℕ
sig_key sig = role_byte sig.role ∷ (name_key sig.name ++ (base_key sig.ret ++ params_key sig.params))

-- a routine by its role and name
abbrev pub role_key : Sig → List ℕ
role_key sig = role_byte sig.role ∷ sig.name

-- the same of a class
abbrev pub member_key : List ℕ → Sig → List ℕ
member_key class sig = name_key class ++ role_key sig

abbrev pub member_sig_key : List ℕ → Sig → List ℕ
member_sig_key class sig = name_key class ++ sig_key sig

abbrev pub kind_key : Kind → List ℕ → List ℕ
kind_key k name = kind_byte k ∷ name
