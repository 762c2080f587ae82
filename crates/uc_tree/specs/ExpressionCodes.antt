-- How expressions are stored.
use Rattle.std.specs.Prelude.{◌≡◌, zero, suc, [], refl}
use base.Stored.{Coded, Gv, gnil, gnum, gcons}
use Rattle.uc_tree.specs.declared.ops.BinaryOp.TheVariants.{Or}
use Rattle.uc_tree.specs.Codes.{Codec, coded_by, nat_codec, int_codec, flag_codec, name_codec, pos_codec, no_pos, unary_op_codec, binary_op_codec, assign_op_codec, step_op_codec}
use Rattle.uc_tree.specs.Expressions.{Expr, Number, Character, Truth, Name, Cin, Postfix, Unary, Chain, Assign, Exprs, NoExprs, MoreExprs, Part, Field, Index, Call, Step, Parts, NoParts, MoreParts, Link, Linked, Links, NoLinks, MoreLinks}

abbrev mutual
  pub code_expr : Expr → Gv
  code_expr (Number a b) = gcons (gnum 0) (gcons (pos_codec.code a) (int_codec.code b))
  code_expr (Character a b) = gcons (gnum 1) (gcons (pos_codec.code a) (nat_codec.code b))
  code_expr (Truth a b) = gcons (gnum 2) (gcons (pos_codec.code a) (flag_codec.code b))
  code_expr (Name a b) = gcons (gnum 3) (gcons (pos_codec.code a) (name_codec.code b))
  code_expr (Cin a) = gcons (gnum 4) (pos_codec.code a)
  code_expr (Postfix a b c) = gcons (gnum 5) (gcons (pos_codec.code a) (gcons (code_expr b) (code_parts c)))
  code_expr (Unary a b c) = gcons (gnum 6) (gcons (pos_codec.code a) (gcons (unary_op_codec.code b) (code_expr c)))
  code_expr (Chain a b c) = gcons (gnum 7) (gcons (pos_codec.code a) (gcons (code_expr b) (code_links c)))
  code_expr (Assign a b c d e) = gcons (gnum 8) (gcons (pos_codec.code a) (gcons (pos_codec.code b) (gcons (assign_op_codec.code c) (gcons (code_expr d) (code_expr e)))))

  pub code_exprs : Exprs → Gv
  code_exprs NoExprs = gnil
  code_exprs (MoreExprs a b) = gcons (code_expr a) (code_exprs b)

  pub code_part : Part → Gv
  code_part (Field a b) = gcons (gnum 0) (gcons (pos_codec.code a) (name_codec.code b))
  code_part (Index a b) = gcons (gnum 1) (gcons (pos_codec.code a) (code_expr b))
  code_part (Call a b) = gcons (gnum 2) (gcons (pos_codec.code a) (code_exprs b))
  code_part (Step a b) = gcons (gnum 3) (gcons (pos_codec.code a) (step_op_codec.code b))

  pub code_parts : Parts → Gv
  code_parts NoParts = gnil
  code_parts (MoreParts a b) = gcons (code_part a) (code_parts b)

  pub code_link : Link → Gv
  code_link (Linked a b c) = gcons (pos_codec.code a) (gcons (binary_op_codec.code b) (code_expr c))

  pub code_links : Links → Gv
  code_links NoLinks = gnil
  code_links (MoreLinks a b) = gcons (code_link a) (code_links b)

abbrev mutual
  pub back_expr : Gv → Expr
  back_expr (gcons (gnum zero) (gcons a b)) = Number (pos_codec.back a) (int_codec.back b)
  back_expr (gcons (gnum (suc zero)) (gcons a b)) = Character (pos_codec.back a) (nat_codec.back b)
  back_expr (gcons (gnum (suc (suc zero))) (gcons a b)) = Truth (pos_codec.back a) (flag_codec.back b)
  back_expr (gcons (gnum (suc (suc (suc zero)))) (gcons a b)) = Name (pos_codec.back a) (name_codec.back b)
  back_expr (gcons (gnum (suc (suc (suc (suc zero))))) a) = Cin (pos_codec.back a)
  back_expr (gcons (gnum (suc (suc (suc (suc (suc zero)))))) (gcons a (gcons b c))) = Postfix (pos_codec.back a) (back_expr b) (back_parts c)
  back_expr (gcons (gnum (suc (suc (suc (suc (suc (suc zero))))))) (gcons a (gcons b c))) = Unary (pos_codec.back a) (unary_op_codec.back b) (back_expr c)
  back_expr (gcons (gnum (suc (suc (suc (suc (suc (suc (suc zero)))))))) (gcons a (gcons b c))) = Chain (pos_codec.back a) (back_expr b) (back_links c)
  back_expr (gcons (gnum (suc (suc (suc (suc (suc (suc (suc (suc zero))))))))) (gcons a (gcons b (gcons c (gcons d e))))) = Assign (pos_codec.back a) (pos_codec.back b) (assign_op_codec.back c) (back_expr d) (back_expr e)
  back_expr _ = Cin no_pos

  pub back_exprs : Gv → Exprs
  back_exprs (gcons a b) = MoreExprs (back_expr a) (back_exprs b)
  back_exprs _ = NoExprs

  pub back_part : Gv → Part
  back_part (gcons (gnum zero) (gcons a b)) = Field (pos_codec.back a) (name_codec.back b)
  back_part (gcons (gnum (suc zero)) (gcons a b)) = Index (pos_codec.back a) (back_expr b)
  back_part (gcons (gnum (suc (suc zero))) (gcons a b)) = Call (pos_codec.back a) (back_exprs b)
  back_part (gcons (gnum (suc (suc (suc zero)))) (gcons a b)) = Step (pos_codec.back a) (step_op_codec.back b)
  back_part _ = Field no_pos []

  pub back_parts : Gv → Parts
  back_parts (gcons a b) = MoreParts (back_part a) (back_parts b)
  back_parts _ = NoParts

  pub back_link : Gv → Link
  back_link (gcons a (gcons b c)) = Linked (pos_codec.back a) (binary_op_codec.back b) (back_expr c)
  back_link _ = Linked no_pos Or (Cin no_pos)

  pub back_links : Gv → Links
  back_links (gcons a b) = MoreLinks (back_link a) (back_links b)
  back_links _ = NoLinks

mutual
  pub again_expr : (x : Expr) → back_expr (code_expr x) ≡ x
  again_expr (Number a b) = λ i. Number a (int_codec.again b i)
  again_expr (Character a b) = λ i. Character a (nat_codec.again b i)
  again_expr (Truth a b) = λ i. Truth a (flag_codec.again b i)
  again_expr (Name a b) = λ i. Name a (name_codec.again b i)
  again_expr (Cin a) = refl
  again_expr (Postfix a b c) = λ i. Postfix a (again_expr b i) (again_parts c i)
  again_expr (Unary a b c) = λ i. Unary a (unary_op_codec.again b i) (again_expr c i)
  again_expr (Chain a b c) = λ i. Chain a (again_expr b i) (again_links c i)
  again_expr (Assign a b c d e) = λ i. Assign a b (assign_op_codec.again c i) (again_expr d i) (again_expr e i)

  pub again_exprs : (x : Exprs) → back_exprs (code_exprs x) ≡ x
  again_exprs NoExprs = refl
  again_exprs (MoreExprs a b) = λ i. MoreExprs (again_expr a i) (again_exprs b i)

  pub again_part : (x : Part) → back_part (code_part x) ≡ x
  again_part (Field a b) = λ i. Field a (name_codec.again b i)
  again_part (Index a b) = λ i. Index a (again_expr b i)
  again_part (Call a b) = λ i. Call a (again_exprs b i)
  again_part (Step a b) = λ i. Step a (step_op_codec.again b i)

  pub again_parts : (x : Parts) → back_parts (code_parts x) ≡ x
  again_parts NoParts = refl
  again_parts (MoreParts a b) = λ i. MoreParts (again_part a i) (again_parts b i)

  pub again_link : (x : Link) → back_link (code_link x) ≡ x
  again_link (Linked a b c) = λ i. Linked a (binary_op_codec.again b i) (again_expr c i)

  pub again_links : (x : Links) → back_links (code_links x) ≡ x
  again_links NoLinks = refl
  again_links (MoreLinks a b) = λ i. MoreLinks (again_link a i) (again_links b i)

abbrev pub expr_codec : Codec Expr
expr_codec = record { code = code_expr; back = back_expr; again = again_expr }

abbrev pub exprs_codec : Codec Exprs
exprs_codec = record { code = code_exprs; back = back_exprs; again = again_exprs }

abbrev pub expr_coded : Coded Expr
expr_coded = coded_by expr_codec

abbrev pub part_coded : Coded Part
part_coded = coded_by (record { code = code_part; back = back_part; again = again_part })

abbrev pub link_coded : Coded Link
link_coded = coded_by (record { code = code_link; back = back_link; again = again_link })
