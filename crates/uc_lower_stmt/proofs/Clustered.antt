-- The code that asks for a cluster or a processor, and binds a place to it.
use Rattle.std.proofs.Common.{◌≡◌, ℕ, ◌+◌, ◌-◌, ◌*◌, ◌≤◌, List, [], ◌∷◌, Some, None, pos, ap, subst, arith}
use Rattle.std.specs.Prelude.{slice_get}
use Rattle.uc_tree.specs.declared.limits.TheConstants.{OPS_FOR_SIZE}
use Rattle.uc_tree.specs.Expressions as tree
use Rattle.uc_tree.specs.Expressions.{exprs_of}
use Rattle.uc_tree.specs.ExpressionSizes.{expr_size, exprs_size}
use Rattle.uc_tree.specs.Programs.{Program}
use Rattle.uc_tree.specs.Source.{Bind, Expr, NewCluster, NewProcessor, OfObject}
use Rattle.uc_resolve.specs.Resolve.{args_meant, cluster_in, meant}
use Rattle.uc_code.specs.declared.op.Op.TheVariants as op
use Rattle.uc_code.specs.declared.rows.ObjectSpot.{ObjectSpot}
use Rattle.uc_code.specs.Drafts.{Draft}
use Rattle.uc_code.specs.Lowered.{spot_op}
use Rattle.uc_code.specs.ObjectCalls.{BeginsAt}
use Rattle.uc_code.proofs.Stable.{one_stable}
use Rattle.uc_lower_expr.specs.DraftGrowth.{Adds, ExprCode, OpCode}
use Rattle.uc_lower_expr.specs.Contexts.{context_in}
use Rattle.uc_lower_expr.proofs.Adding.{adds_as, adds_both, adds_more}
use Rattle.uc_lower_expr.proofs.Settled.{both, expr_stable}
use Rattle.uc_lower_stmt.proofs.Building.{begins}

pub arm_cluster : (line : ℕ) (spot : ObjectSpot) (old d1 d2 new : Draft) → Adds 1 (OpCode line (spot_op spot)) old d1 → Adds 1 (OpCode line op.Cluster) d1 d2 → Adds 1 (OpCode line op.Bind) d2 new
    → (place : Expr) → BeginsAt place spot → Adds 3 (ExprCode line old.marks (OfObject (Bind place (OfObject NewCluster)))) old new
arm_cluster line spot old d1 d2 new a b c place at =
    adds_as (adds_both (one_stable (spot_op spot) line) a (adds_both (one_stable op.Cluster line) b c)) (λ code x z h. record { middle = h.middle; first = begins code line old.marks place spot at x h.middle h.first; second = h.second })

-- the cluster of a processor
pub cluster_fit : (v : tree.Expr) (xs : List tree.Expr) → Some v ≡ slice_get xs 0 → expr_size v ≤ exprs_size (exprs_of xs)
cluster_fit v [] e = cc
cluster_fit v (x ∷ xs) e = let is : v ≡ x = cc in let s = ap expr_size is in omega (arith, s)

pub cluster_named : (p : Program) (v : tree.Expr) (xs : List tree.Expr) (line : ℕ) (old new : Draft) → Some v ≡ slice_get xs 0 → Adds (OPS_FOR_SIZE * expr_size v - 2) (ExprCode line old.marks (meant (context_in p old) v).expr) old new
    → Adds (OPS_FOR_SIZE * exprs_size (exprs_of xs) + 1) (ExprCode line old.marks (cluster_in (args_meant (context_in p old) (exprs_of xs)))) old new
cluster_named p v [] line old new e h = cc
cluster_named p v (x ∷ xs) line old new e h =
    let is : v ≡ x = cc in
    let s = ap expr_size is in
    adds_more (omega (arith, s)) (subst (λ (y : tree.Expr). Adds (OPS_FOR_SIZE * expr_size v - 2) (ExprCode line old.marks (meant (context_in p old) y).expr) old new) is h)

pub cluster_first : (p : Program) (xs : List tree.Expr) (line : ℕ) (old new : Draft) → None ≡ slice_get xs 0 → Adds 1 (OpCode line (op.Push (pos 0))) old new
    → Adds (OPS_FOR_SIZE * exprs_size (exprs_of xs) + 1) (ExprCode line old.marks (cluster_in (args_meant (context_in p old) (exprs_of xs)))) old new
cluster_first p [] line old new e h = adds_more (omega arith) h
cluster_first p (x ∷ xs) line old new e h = cc

pub arm_processor : (n line : ℕ) (cluster : Expr) (spot : ObjectSpot) (old d1 d2 d3 new : Draft) → Adds 1 (OpCode line (spot_op spot)) old d1 → Adds (n + 1) (ExprCode line old.marks cluster) d1 d2 → Adds 1 (OpCode line op.Processor) d2 d3 → Adds 1 (OpCode line op.Bind) d3 new
    → (place : Expr) → BeginsAt place spot → Adds (n + 4) (ExprCode line old.marks (OfObject (Bind place (OfObject (NewProcessor cluster))))) old new
arm_processor n line cluster spot old d1 d2 d3 new a b c d place at =
    adds_more (omega arith) (
    adds_as (adds_both (one_stable (spot_op spot) line) a (adds_both (both (expr_stable line old.marks cluster) (one_stable op.Processor line)) (adds_both (expr_stable line old.marks cluster) b c) d)) (λ code x z h. record { middle = h.middle; first = begins code line old.marks place spot at x h.middle h.first; second = h.second }))
