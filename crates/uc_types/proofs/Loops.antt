-- One more expression, part or operator of a list.
use Rattle.std.proofs.Common.{◌≡◌, ℕ, ◌+◌, ◌<◌, ◌≤◌, List, ◌∷◌, Option, Bool, ◌&&◌, length, get_or, drop, ap, sym, ◌∙◌, arith}
use Rattle.std.proofs.lemmas.List.{at_drop_more}
use Rattle.uc_tree.specs.Expressions.{Expr, Part, Link, exprs_of, parts_of, links_of}
use Rattle.uc_tree.specs.ExpressionSizes.{expr_size, exprs_size, part_size, parts_size, link_size, links_size}
use Rattle.uc_rules.specs.declared.rules.Entity.{Entity}
use Rattle.uc_rules.specs.declared.rule.Break.{Break}
use Rattle.uc_rules.specs.declared.rules.Target.{Target}
use Rattle.uc_rules.specs.Scopes.{Env}
use Rattle.uc_rules.specs.Entities.{entity_of, part_entity, parts_entity, link_entity, chain_entity, are_sound, call_follows, has_fitting, expected}
use Rattle.uc_rules.specs.Visits.{part_visits, parts_visits, link_visits, chain_visits, arg_visits, args_visits}
use Rattle.uc_types.specs.FirstBreak.{with_visits}
use Rattle.uc_types.proofs.Noted.{noted_append, and_again}

pub split : {A : Type 0} (xs : List A) (i : ℕ) (x : A) → i < length xs → x ≡ get_or xs i x → drop i xs ≡ x ∷ drop (i + 1) xs
split xs i x h e = at_drop_more (λ l. l) xs i x h ∙ ap (λ y. y ∷ drop (i + 1) xs) (sym e)

pub exprs_fall : (es : List Expr) (i : ℕ) (e : Expr) (n : ℕ) → i < length es → e ≡ get_or es i e → exprs_size (exprs_of (drop i es)) ≤ n → exprs_size (exprs_of (drop (i + 1) es)) ≤ n
exprs_fall es i e n h k inv =
    let more : exprs_size (exprs_of (drop i es)) ≡ expr_size e + exprs_size (exprs_of (drop (i + 1) es)) = ap (λ l. exprs_size (exprs_of l)) (split es i e h k) in
    omega arith

pub parts_fall : (ps : List Part) (i : ℕ) (p : Part) (n : ℕ) → i < length ps → p ≡ get_or ps i p → parts_size (parts_of (drop i ps)) ≤ n → parts_size (parts_of (drop (i + 1) ps)) ≤ n
parts_fall ps i p n h k inv =
    let more : parts_size (parts_of (drop i ps)) ≡ part_size p + parts_size (parts_of (drop (i + 1) ps)) = ap (λ l. parts_size (parts_of l)) (split ps i p h k) in
    omega arith

pub links_fall : (ls : List Link) (i : ℕ) (l : Link) (n : ℕ) → i < length ls → l ≡ get_or ls i l → links_size (links_of (drop i ls)) ≤ n → links_size (links_of (drop (i + 1) ls)) ≤ n
links_fall ls i l n h k inv =
    let more : links_size (links_of (drop i ls)) ≡ link_size l + links_size (links_of (drop (i + 1) ls)) = ap (λ x. links_size (links_of x)) (split ls i l h k) in
    omega arith

pub sound_more : (env : Env) (es : List Expr) (t : Target) (i : ℕ) (e : Expr) (sound one now r : Bool) → i < length es → e ≡ get_or es i e → one ≡ has_fitting (expected env.program t i) (entity_of env e) → now ≡ sound && one → sound && are_sound env (exprs_of (drop i es)) t i ≡ r → now && are_sound env (exprs_of (drop (i + 1) es)) t (i + 1) ≡ r
sound_more env es t i e sound one now r h k b d inv =
    let more = are_sound env (exprs_of (drop (i + 1) es)) t (i + 1) in
    ap (λ x. x && more) (d ∙ ap (λ x. sound && x) b)
    ∙ and_again sound (has_fitting (expected env.program t i) (entity_of env e)) more
    ∙ ap (λ l. sound && are_sound env (exprs_of l) t i) (sym (split es i e h k))
    ∙ inv

pub args_more : (env : Env) (es : List Expr) (t : Target) (i : ℕ) (e : Expr) (f g r : Option Break) → i < length es → e ≡ get_or es i e → g ≡ with_visits f (arg_visits env e (expected env.program t i)) → with_visits f (args_visits env (exprs_of (drop i es)) t i) ≡ r → with_visits g (args_visits env (exprs_of (drop (i + 1) es)) t (i + 1)) ≡ r
args_more env es t i e f g r h k b inv =
    let more = args_visits env (exprs_of (drop (i + 1) es)) t (i + 1) in
    ap (λ x. with_visits x more) b
    ∙ sym (noted_append f (arg_visits env e (expected env.program t i)) more)
    ∙ ap (λ l. with_visits f (args_visits env (exprs_of l) t i)) (sym (split es i e h k))
    ∙ inv

pub chain_more : (env : Env) (ls : List Link) (i : ℕ) (l : Link) (w v r : Option Entity) → i < length ls → l ≡ get_or ls i l → v ≡ link_entity env l w → chain_entity env (links_of (drop i ls)) w ≡ r → chain_entity env (links_of (drop (i + 1) ls)) v ≡ r
chain_more env ls i l w v r h k a inv =
    ap (λ x. chain_entity env (links_of (drop (i + 1) ls)) x) a ∙ ap (λ x. chain_entity env (links_of x) w) (sym (split ls i l h k)) ∙ inv

pub chain_noted : (env : Env) (ls : List Link) (i : ℕ) (l : Link) (w v : Option Entity) (f g r : Option Break) → i < length ls → l ≡ get_or ls i l → v ≡ link_entity env l w → g ≡ with_visits f (link_visits env l w) → with_visits f (chain_visits env (links_of (drop i ls)) w) ≡ r → with_visits g (chain_visits env (links_of (drop (i + 1) ls)) v) ≡ r
chain_noted env ls i l w v f g r h k a b inv =
    let rest = links_of (drop (i + 1) ls) in
    ap (λ x. with_visits g (chain_visits env rest x)) a
    ∙ ap (λ x. with_visits x (chain_visits env rest (link_entity env l w))) b
    ∙ sym (noted_append f (link_visits env l w) (chain_visits env rest (link_entity env l w)))
    ∙ ap (λ x. with_visits f (chain_visits env (links_of x) w)) (sym (split ls i l h k))
    ∙ inv

pub parts_more : (env : Env) (ps : List Part) (i : ℕ) (p : Part) (called : Bool) (w v r : Option Entity) → i < length ps → p ≡ get_or ps i p → called ≡ call_follows (parts_of (drop (i + 1) ps)) → v ≡ part_entity env p called w → parts_entity env (parts_of (drop i ps)) w ≡ r → parts_entity env (parts_of (drop (i + 1) ps)) v ≡ r
parts_more env ps i p called w v r h k c a inv =
    ap (λ x. parts_entity env (parts_of (drop (i + 1) ps)) x) (a ∙ ap (λ x. part_entity env p x w) c) ∙ ap (λ x. parts_entity env (parts_of x) w) (sym (split ps i p h k)) ∙ inv

pub parts_noted : (env : Env) (ps : List Part) (i : ℕ) (p : Part) (called : Bool) (w v : Option Entity) (f g r : Option Break) → i < length ps → p ≡ get_or ps i p → called ≡ call_follows (parts_of (drop (i + 1) ps)) → v ≡ part_entity env p called w → g ≡ with_visits f (part_visits env p called w) → with_visits f (parts_visits env (parts_of (drop i ps)) w) ≡ r → with_visits g (parts_visits env (parts_of (drop (i + 1) ps)) v) ≡ r
parts_noted env ps i p called w v f g r h k c a b inv =
    let rest = parts_of (drop (i + 1) ps) in
    let now = part_entity env p (call_follows rest) w in
    ap (λ x. with_visits g (parts_visits env rest x)) (a ∙ ap (λ x. part_entity env p x w) c)
    ∙ ap (λ x. with_visits x (parts_visits env rest now)) (b ∙ ap (λ x. with_visits f (part_visits env p x w)) c)
    ∙ sym (noted_append f (part_visits env p (call_follows rest) w) (parts_visits env rest now))
    ∙ ap (λ x. with_visits f (parts_visits env (parts_of x) w)) (sym (split ps i p h k))
    ∙ inv
