-- A run of a program with several tasks goes on by one act, worked out.
use Rattle.std.proofs.Common.{◌≡◌, ℕ, ◌+◌, false, true, List, [], ◌∷◌, ◌++◌, Some, subst, length}
use Rattle.std.specs.Prelude.{nat_le}
use Rattle.std.specs.List.{Contains}
use Rattle.std.proofs.lemmas.Bool.{leb-true}
use Rattle.uc_tree.specs.Source.{Source}
use Rattle.uc_entry.specs.declared.entry.Entry.{Entry}
use Rattle.uc_entry.specs.declared.entry.Options.{Options}
use Rattle.uc_entry.specs.declared.request.Answer.{Answer}
use Rattle.uc_acts.specs.Journal.{Journal, is_over}
use Rattle.uc_acts.specs.Queues.{ready, running, open_processors}
use Rattle.uc_acts.specs.Answers.{answer_to}
use Rattle.uc_acts.specs.Serves.{left}
use Rattle.uc_acts.specs.Acts.{act, dispatch}
use Rattle.uc_machine.specs.Answering.{answered}
use Rattle.uc_meaning.specs.Runs.{World, Runs, more, gives, acts, drawn, world_after}
use Rattle.uc_meaning.proofs.RunsSampled.{Ridden, ride, leads}

module _ {source : Source} {opts : Options} where
  -- task t is dispatched, with these behind it in the queue
  pub given_to : (t : ℕ) (later : List ℕ) {j : Journal} {w : World} → Runs source [] opts j w → is_over j ≡ false → Contains (open_processors opts j) (0, 0) → running 0 j ≡ [] → ready 0 j ≡ t ∷ later → nat_le (length j + 2) opts.entries ≡ true → Runs source [] opts (j ++ dispatch 0 t ∷ []) w
  given_to t later {j} r o c f q h =
      more r o (gives 0 t (record { cluster = 0; later = later; opened = c; free = f; queued = q }) (leb-true (length j + 2) opts.entries h))

  -- task t rides from this answer on, and acts
  pub acted_by : (t : ℕ) (x : Answer) (r : Ridden) (a : List Entry) {j : Journal} {w : World} → Runs source [] opts j w → is_over j ≡ false → running 0 j ≡ t ∷ [] → answer_to source.sites t j ≡ Some x → ride source 300 (left opts j t) (answered source x (drawn j w t)) ≡ Some r → act opts source.sites [] j 0 t r.made r.asked ≡ a → Runs source [] opts (j ++ a) (world_after source a w t r.reached)
  acted_by t x r a {j} {w} run o h told e k =
      subst (λ y. Runs source [] opts (j ++ y) (world_after source y w t r.reached)) k (more run o (acts 0 t r.made r.reached r.asked (record { given = x; runs = h; told = told; rides = leads source 300 (left opts j t) (answered source x (drawn j w t)) r e })))
