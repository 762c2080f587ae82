-- In which objects a task is deep before a request and behind it: no other step changes that.
use Rattle.std.specs.Prelude.{◌≡◌, ℕ, false, List, [], ◌∷◌, nat_eq, if◌then◌else◌}
use Rattle.uc_entry.specs.declared.request.Request.{Request}
use Rattle.uc_entry.specs.declared.request.Request.TheVariants as ask
use Rattle.uc_acts.specs.Known.{has}
use Rattle.uc_machine.specs.Pieces.{State, Step, Goes, Ticks, Asks}
use Rattle.uc_step_laws.specs.Hands.{keys}

-- the objects in which a task is deep, by their numbers
abbrev pub deep_in : State → List ℕ
deep_in s = keys s.env.depths

-- numbers without the first o
abbrev pub dropped : ℕ → List ℕ → List ℕ
dropped o [] = []
dropped o (k ∷ ks) = if nat_eq k o then ks else k ∷ dropped o ks

-- an object is called from outside, and then is one of them; it is left by what takes the task out of it for good
abbrev pub DeepBehind : Request → List ℕ → List ℕ → Type 0
DeepBehind (ask.Call o m) before behind = (has before o ≡ false) × (behind ≡ o ∷ before)
DeepBehind (ask.Leave o failed) before behind = behind ≡ dropped o before
DeepBehind (ask.Made o) before behind = behind ≡ dropped o before
DeepBehind (ask.Spawn o) before behind = behind ≡ dropped o before
DeepBehind (ask.Gone o) before behind = behind ≡ dropped o before
DeepBehind r before behind = behind ≡ before

abbrev pub DeepStep : List ℕ → Step → Type 0
DeepStep ks (Goes s) = deep_in s ≡ ks
DeepStep ks (Ticks s) = deep_in s ≡ ks
DeepStep ks (Asks r s) = DeepBehind r ks (deep_in s)
