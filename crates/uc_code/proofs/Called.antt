-- Code of a call of a constructor or a destructor is code of what the resolved tree has there.
use Rattle.std.proofs.Common.{ℕ, List, Option, true, false}
use Rattle.uc_tree.specs.Source.{Expr}
use Rattle.uc_code.specs.declared.rows.ObjectSpot.{ObjectSpot}
use Rattle.uc_code.specs.declared.rows.Array.{Array}
use Rattle.uc_code.specs.declared.rows.ObjectCall.{ObjectCall}
use Rattle.uc_code.specs.declared.rows.CodeMark.{CodeMark}
use Rattle.uc_code.specs.Layout.{Laid}
use Rattle.uc_code.specs.CodeShapes.{One}
use Rattle.uc_code.specs.ObjectCalls.{BeginsAt, InFrame, InObject, LiesAt, Whole, Part, Calls, Written, Unwritten, MakesMutex, EndsMutex, OpensCluster, OpensProcessor, ClosesCluster, ClosesProcessor}
use Rattle.uc_code.specs.Lowered.{spot_op, SpotAt, CallAt, ExprAt}

module _ (code : Laid) (line : ℕ) (ms : List CodeMark) where
  begins : (e : Expr) (s : ObjectSpot) → BeginsAt e s → (a z : ℕ) → One code (spot_op s) line a z → ExprAt code line ms e a z
  begins e s (InFrame k) a z h = h
  begins e s (InObject t i) a z h = h

  lies : (e : Expr) (s : ObjectSpot) (o : Option Array) → LiesAt e s o → (a z : ℕ) → SpotAt code line s o a z → ExprAt code line ms e a z
  lies e s o (Whole _ _ b) a z h = begins e s b a z h
  lies e s o (Part n t d _ b) a z h = record { middle = h.middle; first = begins d s b a h.middle h.first; second = h.second }

  pub called : (e : Expr) (what : ObjectCall) → Calls e what → (a z : ℕ) → CallAt code line what ms a z → ExprAt code line ms e a z
  called e what (Written r d s o l) a z h = record { middle = h.middle; first = lies d s o l a h.middle h.first; second = h.second }
  called e what (Unwritten r d s o l) a z h = record { middle = h.middle; first = lies d s o l a h.middle h.first; second = h.second }
  called e what (MakesMutex c r true d s o l) a z h = record { middle = h.middle; first = lies d s o l a h.middle h.first; second = h.second }
  called e what (MakesMutex c r false d s o l) a z h = record { middle = h.middle; first = lies d s o l a h.middle h.first; second = h.second }
  called e what (EndsMutex r true d s o l) a z h =
      record { middle = h.middle; first = record { middle = h.first.middle; first = lies d s o l a h.first.middle h.first.first; second = h.first.second }; second = h.second }
  called e what (EndsMutex r false d s o l) a z h =
      record { middle = h.middle; first = record { middle = h.first.middle; first = lies d s o l a h.first.middle h.first.first; second = h.first.second }; second = h.second }
  called e what (OpensCluster d s o l) a z h = record { middle = h.middle; first = lies d s o l a h.middle h.first; second = h.second }
  called e what (OpensProcessor d s o l) a z h = record { middle = h.middle; first = lies d s o l a h.middle h.first; second = h.second }
  called e what (ClosesCluster d s o l) a z h =
      record { middle = h.middle; first = record { middle = h.first.middle; first = lies d s o l a h.first.middle h.first.first; second = h.first.second }; second = h.second }
  called e what (ClosesProcessor d s o l) a z h =
      record { middle = h.middle; first = record { middle = h.first.middle; first = lies d s o l a h.first.middle h.first.first; second = h.first.second }; second = h.second }
