-- What a ride brings.
use Rattle.std.proofs.Common.{◌≡◌, ◌≤◌, ℕ, Option, Some, refl, sym, ap, ◌∙◌, subst}
use Rattle.std.specs.Option.{option_map}
use Rattle.uc_tree.specs.Source.{Source}
use Rattle.uc_entry.specs.Listed.{Listed}
use Rattle.uc_entry.specs.declared.request.Asked.{Asked}
use Rattle.uc_machine.specs.Quiet.{State}
use Rattle.uc_machine.specs.Answering.{answered}
use Rattle.uc_code.specs.Codes.{Code}
use Rattle.uc_code.specs.Layout.{laid_of}
use Rattle.uc_code.specs.Lowered.{Lowered}
use Rattle.uc_frames.specs.Machine.{Machine, Members, with_hand}
use Rattle.uc_frames.specs.Stands.{Rests}
use Rattle.uc_ride.specs.RideStands.{Rode}
use Rattle.uc_ride.specs.UnwindingFalls.{KeepsAfter, ChildKeeps}
use Rattle.uc_kernel.specs.declared.given.Given.{Given}
use Rattle.uc_kernel.specs.KernelState.{Brought}
use Rattle.uc_vproc.specs.Desks.{IsRide, value_after}

abbrev pub brought : Given Machine Members → Option Machine → Listed (ℕ × Members) → Option (Option Machine) → ℕ → Asked → Brought (Option Machine) Members
brought g v ms child ticks asked = record { processor = g.processor; task = v; members = ms; child = child; ticks = ticks; asked = asked }

pub is_ride : (code : Code) (g : Given Machine Members) (before after v : Machine) (task : Option Machine) (ms ms' : Listed (ℕ × Members)) (child : Option Machine) (born : Option (Option Machine)) (ticks : ℕ) (asked : Asked) → before ≡ with_hand g.members.items g.task → after ≡ with_hand ms.items v → ms'.items ≡ ms.items → 1 ≤ ms'.spare → task ≡ value_after asked.request v → born ≡ option_map Some child → ((source : Source) (s : State) → Lowered source code → Rests (laid_of code) before s → Rode source (laid_of code) (answered source g.answer s) g.left ticks asked after child) → KeepsAfter code asked.request after → ChildKeeps code child → IsRide code g (brought g task ms' born ticks asked)
is_ride code g before after v task ms ms' child born ticks asked b a same room value child_is rides kept born_kept =
    let there : after ≡ with_hand ms'.items v = a ∙ ap (λ l. with_hand l v) (sym same) in
    record {
      processor = refl;
      room = room;
      after = v;
      task_is = value;
      child = child;
      child_is = child_is;
      rode = λ source s l h. subst (λ m. Rode source (laid_of code) (answered source g.answer s) g.left ticks asked m child) there (rides source s l (subst (λ m. Rests (laid_of code) m s) (sym b) h));
      kept = subst (KeepsAfter code asked.request) there kept;
      born = born_kept;
    }
