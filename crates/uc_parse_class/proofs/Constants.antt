-- A constant is told by its value.
use Rattle.std.proofs.Common.{ℕ, List, inl, inr}
use Rattle.uc_tree.specs.declared.kinds.Base.{Base}
use Rattle.uc_tree.specs.declared.pos.Pos.{Pos}
use Rattle.uc_tree.specs.declared.token.Token.{Token}
use Rattle.uc_tree.specs.declared.token.Sign.TheVariants as sign
use Rattle.uc_grammar.specs.declared.fault.ParseFault.{ParseFault}
use Rattle.uc_grammar.specs.Form.{Fails, apply}
use Rattle.uc_grammar.specs.Grammar.{before, constant_of, expect_sign, expr_form, inner, faults}
use Rattle.uc_parse_class.specs.Forms.{value_form}

pub value_fails : (room : ℕ) (ts : List Token) (pos : Pos) (b : Base) (n : List ℕ) (from : ℕ) (f : ParseFault) → Fails (inner room) (faults room) value_form ts from f → Fails (inner room) (faults room) (expect_sign sign.Assign (apply (constant_of pos b n) (before expr_form sign.Semicolon))) ts from f
value_fails room ts pos b n from f (inl h) = inl h
value_fails room ts pos b n from f (inr (inl h)) = inr (inl (h.0, inl h.1))
value_fails room ts pos b n from f (inr (inr h)) = inr (inr h)
