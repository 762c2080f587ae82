-- In the argument of an initialiser an expression stands for what it stands for outside of it.
use Rattle.std.proofs.Common.{◌≡◌, ℕ, ◌+◌, Bool, ◌&&◌, Option, Some, None, if◌then◌else◌, refl, ap, ◌∙◌}
use Rattle.uc_tree.specs.Expressions as expr
use Rattle.uc_tree.specs.Expressions.{Expr, Exprs, NoExprs, MoreExprs, Part, Parts, NoParts, MoreParts, Link, Linked, Links, NoLinks, MoreLinks}
use Rattle.uc_rules.specs.declared.rules.Bound.{Bound}
use Rattle.uc_rules.specs.declared.rules.Entity.{Entity}
use Rattle.uc_rules.specs.declared.rules.Entity.TheVariants.{Input}
use Rattle.uc_rules.specs.declared.rules.Expected.{Expected}
use Rattle.uc_rules.specs.declared.rules.FieldPlace.{FieldPlace}
use Rattle.uc_rules.specs.declared.rules.Target.{Target}
use Rattle.uc_rules.specs.Entities.{are_sound, binary_gives, both_scalars, call_follows, call_target, chain_entity, count, entity_of, expected, has_fitting, is_input, link_entity, of_assign, of_both, of_call, of_index, part_entity, parts_entity, unary_entity}
use Rattle.uc_rules.specs.ProgramVisits.{argument_env, bound_of}
use Rattle.uc_rules.specs.Scopes.{Env, in_argument, with_around}

module _ (env : Env) (b : Bound) where
  abbrev inner : Env
  inner = with_around env (in_argument b env.around)

  mutual
    expr_same : (e : Expr) → entity_of inner e ≡ entity_of env e
    expr_same (expr.Number p n) = refl
    expr_same (expr.Character p byte) = refl
    expr_same (expr.Truth p t) = refl
    expr_same (expr.Name p name) = refl
    expr_same (expr.Cin p) = refl
    expr_same (expr.Postfix p root parts) =
        ap (λ w. parts_entity inner parts (if is_input root parts then Some Input else w)) (expr_same root)
        ∙ parts_same parts (if is_input root parts then Some Input else entity_of env root)
    expr_same (expr.Unary p op operand) = ap (unary_entity op) (expr_same operand)
    expr_same (expr.Chain p first rest) = ap (chain_entity inner rest) (expr_same first) ∙ chain_same rest (entity_of env first)
    expr_same (expr.Assign p sign op place value) =
        ap (λ w. of_assign w (entity_of inner value)) (expr_same place) ∙ ap (of_assign (entity_of env place)) (expr_same value)

    part_same : (x : Part) (called : Bool) (w : Option Entity) → part_entity inner x called w ≡ part_entity env x called w
    part_same (expr.Field sign name) called w = refl
    part_same (expr.Index sign index) called w = ap (of_index w) (expr_same index)
    part_same (expr.Call sign args) called w = ap (λ s. of_call env.program s (count args) w) (sound_same args (call_target w) 0)
    part_same (expr.Step sign op) called w = refl

    parts_same : (xs : Parts) (w : Option Entity) → parts_entity inner xs w ≡ parts_entity env xs w
    parts_same NoParts w = refl
    parts_same (MoreParts x xs) w =
        ap (parts_entity inner xs) (part_same x (call_follows xs) w) ∙ parts_same xs (part_entity env x (call_follows xs) w)

    link_same : (x : Link) (left : Option Entity) → link_entity inner x left ≡ link_entity env x left
    link_same (Linked sign op right) left = ap (λ v. of_both both_scalars left v (binary_gives op)) (expr_same right)

    chain_same : (xs : Links) (left : Option Entity) → chain_entity inner xs left ≡ chain_entity env xs left
    chain_same NoLinks left = refl
    chain_same (MoreLinks x xs) left = ap (chain_entity inner xs) (link_same x left) ∙ chain_same xs (link_entity env x left)

    sound_same : (es : Exprs) (t : Target) (i : ℕ) → are_sound inner es t i ≡ are_sound env es t i
    sound_same NoExprs t i = refl
    sound_same (MoreExprs e es) t i =
        ap (λ w. has_fitting (expected env.program t i) w && are_sound inner es t (i + 1)) (expr_same e)
        ∙ ap (λ s. has_fitting (expected env.program t i) (entity_of env e) && s) (sound_same es t (i + 1))

pub same_inside : (env : Env) (field : Option FieldPlace) (e : Expr) (x : Expected) → entity_of (argument_env env field e x) e ≡ entity_of env e
same_inside env None e x = refl
same_inside env (Some field) e x = expr_same env (bound_of e x field) e
