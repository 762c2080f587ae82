-- Expressions without pointers.
-- `pos` is the place of the first token, `sign` that of the operator or part itself. Parentheses leave no node.
use Rattle.std.specs.Prelude.{ℕ, ℤ, List, [], ◌∷◌, Bool}
use Rattle.uc_tree.specs.declared.pos.Pos.{Pos}
use Rattle.uc_tree.specs.declared.ops.UnaryOp.{UnaryOp}
use Rattle.uc_tree.specs.declared.ops.BinaryOp.{BinaryOp}
use Rattle.uc_tree.specs.declared.ops.AssignOp.{AssignOp}
use Rattle.uc_tree.specs.declared.ops.StepOp.{StepOp}

-- the operators of one left-to-right chain, and the parts behind a root, stand in lists: so no tree is deeper than a
-- fixed number of nodes for each level of nesting
mutual
  pub data Expr : Type 0 where
    Number : (pos : Pos) (value : ℤ) → Expr
    Character : (pos : Pos) (byte : ℕ) → Expr
    Truth : (pos : Pos) (value : Bool) → Expr
    Name : (pos : Pos) (name : List ℕ) → Expr
    Cin : (pos : Pos) → Expr
    Postfix : (pos : Pos) (root : Expr) (parts : Parts) → Expr
    Unary : (pos : Pos) (op : UnaryOp) (operand : Expr) → Expr
    Chain : (pos : Pos) (first : Expr) (rest : Links) → Expr
    Assign : (pos : Pos) (sign : Pos) (op : AssignOp) (place : Expr) (value : Expr) → Expr

  pub data Exprs : Type 0 where
    NoExprs : Exprs
    MoreExprs : (first : Expr) (rest : Exprs) → Exprs

  pub data Part : Type 0 where
    Field : (sign : Pos) (name : List ℕ) → Part
    Index : (sign : Pos) (index : Expr) → Part
    Call : (sign : Pos) (args : Exprs) → Part
    Step : (sign : Pos) (op : StepOp) → Part

  pub data Parts : Type 0 where
    NoParts : Parts
    MoreParts : (first : Part) (rest : Parts) → Parts

  pub data Link : Type 0 where
    Linked : (sign : Pos) (op : BinaryOp) (right : Expr) → Link

  pub data Links : Type 0 where
    NoLinks : Links
    MoreLinks : (first : Link) (rest : Links) → Links

-- the lists that trees hold, of lists and back

abbrev pub exprs_of : List Expr → Exprs
exprs_of [] = NoExprs
exprs_of (e ∷ es) = MoreExprs e (exprs_of es)

abbrev pub expr_list : Exprs → List Expr
expr_list NoExprs = []
expr_list (MoreExprs e es) = e ∷ expr_list es

abbrev pub parts_of : List Part → Parts
parts_of [] = NoParts
parts_of (p ∷ ps) = MoreParts p (parts_of ps)

abbrev pub part_list : Parts → List Part
part_list NoParts = []
part_list (MoreParts p ps) = p ∷ part_list ps

abbrev pub links_of : List Link → Links
links_of [] = NoLinks
links_of (l ∷ ls) = MoreLinks l (links_of ls)

abbrev pub link_list : Links → List Link
link_list NoLinks = []
link_list (MoreLinks l ls) = l ∷ link_list ls

-- a chain without operators is its operand, and a root without parts is itself

abbrev pub chained : Pos → Expr → List Link → Expr
chained pos e [] = e
chained pos e (l ∷ ls) = Chain pos e (links_of (l ∷ ls))

abbrev pub with_parts : Pos → Expr → List Part → Expr
with_parts pos e [] = e
with_parts pos e (p ∷ ps) = Postfix pos e (parts_of (p ∷ ps))

-- the place of an expression's first token
abbrev pub expr_pos : Expr → Pos
expr_pos (Number pos value) = pos
expr_pos (Character pos byte) = pos
expr_pos (Truth pos value) = pos
expr_pos (Name pos name) = pos
expr_pos (Cin pos) = pos
expr_pos (Postfix pos root parts) = pos
expr_pos (Unary pos op operand) = pos
expr_pos (Chain pos first rest) = pos
expr_pos (Assign pos sign op place value) = pos

-- the place of a part's own sign
abbrev pub part_sign : Part → Pos
part_sign (Field sign name) = sign
part_sign (Index sign index) = sign
part_sign (Call sign args) = sign
part_sign (Step sign op) = sign
