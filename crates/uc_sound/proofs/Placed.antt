-- A new object finds its place below the arguments of its constructor, where types are in order.
use Rattle.std.proofs.Common.{◌≡◌, ℕ, zero, suc, ◌<◌, List, [], ◌∷◌, length, drop, refl, ap, arith}
use Rattle.uc_tree.specs.Source.{Source, Routine, routine_or_none, routine_of}
use Rattle.uc_machine.specs.Pieces as piece
use Rattle.uc_machine.specs.Pieces.{Value, Todo, State, top, below}
use Rattle.uc_typing.specs.Typing.{Table}
use Rattle.uc_typing.specs.States.{Sound, Typed}
use Rattle.uc_typing.specs.Finds.{IsPlace, Finds}
use Rattle.uc_typing.proofs.Finding.{law_finds}
use Rattle.uc_depth_laws.specs.Owing.{SoleAt, FairAt}
use Rattle.uc_sound.specs.EnterLaws.{LawFair}

placed : (n : ℕ) (vs : List Value) → IsPlace (top (drop n vs)) → n < length vs
placed zero [] h = absurd h
placed zero (v ∷ vs) h = omega arith
placed (suc n) [] h = absurd h
placed (suc n) (v ∷ vs) h = let l = placed n vs h in omega (arith, l)

module _ (t : Table) (source : Source) (sound : Sound t source) (s : State) (x : Typed t [] s) where
  fair : (l : List Todo) → s.run.control ≡ l → SoleAt source l s → FairAt source l s
  fair [] e a = a
  fair (piece.BindMadeNow c r ∷ todo) e a =
      let f : Finds source (piece.BindMadeNow c r) s = law_finds t source sound s x (piece.BindMadeNow c r) todo e in
      let same : routine_of source r ≡ f.1.0 = ap routine_or_none f.1.1 in
      let l = placed f.1.0.params (below s.run.operands) f.1.2.1 in
      let n = ap (λ (y : Routine). y.params) same in
      omega (arith, l, n)
  fair (p ∷ todo) e a = a

pub law_fair : LawFair
law_fair t source sound s x a = fair t source sound s x s.run.control refl a
