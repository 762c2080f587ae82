-- What an accept does to all parts, and the entries of its request, by what becomes of it.
use Rattle.std.proofs.Common.{◌≡◌, ℕ, ◌<◌, ◌^◌, Bool, false, List, [], ◌∷◌, ◌++◌, Option, Some, sym, ap, ◌∙◌, subst, length, set, get_or}
use Rattle.uc_tree.specs.Programs.{Site}
use Rattle.uc_entry.specs.declared.entry.Entry.{Entry}
use Rattle.uc_entry.specs.declared.entry.Options.{Options}
use Rattle.uc_entry.specs.declared.request.Request.TheVariants as ask
use Rattle.uc_acts.specs.Journal.{Journal, inside, no_cost, Cost}
use Rattle.uc_acts.specs.Queues.{running}
use Rattle.uc_acts.specs.Doors.{next_met, site_at}
use Rattle.uc_tree.specs.SiteOffers.{Met, met}
use Rattle.uc_acts.specs.Known.{task_count}
use Rattle.uc_acts.specs.KernelRuns.{IsAt}
use Rattle.uc_acts.specs.Acts.{admit, push, accept_entry, accepted, fault, row, settled}
use Rattle.uc_acts.specs.Legal.{Legal}
use Rattle.uc_acts.proofs.Moves.{one_inside}
use Rattle.uc_acts.proofs.Rows.{Lawful, row_lawful}
use Rattle.uc_mutex.specs.Doors.{Doors, door_at, with_door, let_in, on_top, unmarked, marked}
use Rattle.uc_mutex.specs.Offers.{offers_by}
use Rattle.uc_accept.specs.declared.accepting.Accepted.TheVariants as as_accepted
use Rattle.uc_accept.specs.Accepting.{unpulled, answer_of, doors_of, out_of_queue}
use Rattle.uc_condition.specs.Waiting.{Waiting}
use Rattle.uc_events.specs.Pending.{Event}
use Rattle.uc_cluster.specs.Standing.{Standing, IsPlaced, IsUnready, made_ready}
use Rattle.uc_kernel_core.specs.Mirrors.{Mirrors}
use Rattle.uc_kernel_core.proofs.Steps.{freed}
use Rattle.uc_kernel_core.proofs.Taking.{Opened, Elsewise, TakesCaller, TakesDestroyer, opened_by, else_by, caller_by, destroyer_by, opened_row, else_row, caller_row, destroyer_row, next_found, acceptor_inside, m_opened, m_else, m_destroyer, m_caller, taken_known, caller_placed, caller_unready, caller_kept}

module _ (opts : Options) (sites : List Site) (j : Journal) (doors : Doors) (waits : Waiting) (events : List (List Event)) (standing : Standing) (marks ins : List Bool) (owners : List (Option ℕ)) (own : List ℕ) (h : Mirrors opts sites j doors waits events standing marks ins owners own) (input : List ℕ) (p t : ℕ) (k : Cost) (line o site mask : ℕ) (runs : running p j ≡ t ∷ []) (at : IsAt t o j) (few : site < length sites) (small : mask < 2 ^ length (site_at sites site).clauses) (s : Site) (is_site : s ≡ site_at sites site) where
  within : inside o j ≡ t ∷ []
  within = one_inside j o t h.sound at.inside

  pub is_inside : (door_at doors o).inside ≡ Some t
  is_inside =
      acceptor_inside opts sites j doors waits events standing marks ins owners own h p t k o site mask s.has_else runs within at.known.made

  abbrev found : Option Met
  found = met (offers_by s mask) (door_at doors o).waiting

  abbrev the_fault : Entry
  the_fault = fault p t no_cost 10 line

  -- the entries of the request
  abbrev all : List Entry
  all = settled the_fault j (row opts sites input j p t k line (ask.Accept o site mask))

  found_next : found ≡ next_met sites site mask o j
  found_next =
      next_found opts sites j doors waits events standing marks ins owners own h p t k o site mask s.has_else runs within at.known.made s is_site

  row_is : row opts sites input j p t k line (ask.Accept o site mask) ≡ accepted p t k o site mask s.has_else found
  row_is =
      ap (λ x. accepted p t k o site mask x (next_met sites site mask o j)) (ap (λ (y : Site). y.has_else) (sym is_site)) ∙ ap (accepted p t k o site mask s.has_else) (sym found_next)

  lawful : (es : List Entry) → accepted p t k o site mask s.has_else found ≡ es → Lawful j es
  lawful es e =
      subst (Lawful j) (row_is ∙ e) (row_lawful opts sites input j p t k line h.sound runs (ask.Accept o site mask) (at, few, small))

  all_by : (es : List Entry) → accepted p t k o site mask s.has_else found ≡ es → all ≡ settled the_fault j es
  all_by es e = ap (settled the_fault j) (row_is ∙ e)

  module _ (v : Doors) (doors_are : unpulled v ≡ doors_of doors o t s.has_else (offers_by s mask) found) where
    -- it stays open
    module _ (e : as_accepted.Opened ≡ answer_of s.has_else found) where
      opened : Opened doors o t (offers_by s mask) found s.has_else v
      opened = opened_by doors v o t s.has_else (offers_by s mask) found e doors_are

      row_opened : accepted p t k o site mask s.has_else found ≡ accept_entry p t k o site mask s.has_else 0 ∷ []
      row_opened = opened_row p t k o site mask s.has_else found opened.none opened.no_else

      pub open_row : all ≡ accept_entry p t k o site mask s.has_else 0 ∷ []
      open_row = all_by _ row_opened

      pub open_mirrors : (b x : Bool) → b ≡ get_or ins o x → Mirrors opts sites (j ++ accept_entry p t k o site mask s.has_else 0 ∷ []) v waits events (freed standing p) (set marks t b) ins owners own
      open_mirrors b x was =
          m_opened opts sites j doors waits events standing marks ins owners own h p t k o site mask s.has_else runs within at.known.made (lawful _ row_opened).0 s is_site v opened.doors b x was

    -- its `_Else` is taken
    module _ (e : as_accepted.Else ≡ answer_of s.has_else found) where
      elsewise : Elsewise doors found s.has_else v
      elsewise = else_by doors v o t s.has_else (offers_by s mask) found e doors_are

      row_else : accepted p t k o site mask s.has_else found ≡ accept_entry p t k o site mask s.has_else 2 ∷ []
      row_else = else_row p t k o site mask s.has_else found elsewise.none elsewise.has_else

      pub no_row : all ≡ accept_entry p t k o site mask s.has_else 2 ∷ []
      no_row = all_by _ row_else

      pub no_mirrors : Mirrors opts sites (j ++ accept_entry p t k o site mask s.has_else 2 ∷ []) v waits events standing marks ins owners own
      no_mirrors =
          m_else opts sites j doors waits events standing marks ins owners own h p t k o site mask s.has_else runs within at.known.made (lawful _ row_else).0 v elsewise.doors

    -- a caller is let in
    module _ (u c : ℕ) (e : as_accepted.Caller u c ≡ answer_of s.has_else found) where
      taken : TakesCaller doors o t u c found v
      taken = caller_by doors v o t s.has_else (offers_by s mask) u c found e doors_are

      row_taken : accepted p t k o site mask s.has_else found ≡ accept_entry p t k o site mask s.has_else 1 ∷ admit p u o 1 0 ∷ []
      row_taken = caller_row p t k o site mask s.has_else found taken.who u taken.finds taken.task taken.no_destructor

      found_taken : next_met sites site mask o j ≡ Some taken.who
      found_taken = sym found_next ∙ taken.finds

      -- of the caller that was found
      of_task : (w : ℕ) → taken.who.task ≡ w → Lawful (j ++ accept_entry p t k o site mask s.has_else 1 ∷ []) (admit p w o 1 0 ∷ []) → Legal (admit p taken.who.task o 1 0) (j ++ accept_entry p t k o site mask s.has_else 1 ∷ [])
      of_task w same l = subst (λ y. Legal (admit p y o 1 0) (j ++ accept_entry p t k o site mask s.has_else 1 ∷ [])) (sym same) l.0

      pub known_caller : u < task_count j
      known_caller =
          subst (λ y. y < task_count j) taken.task (taken_known opts sites j doors waits events standing marks ins owners own h p t k o site mask s.has_else runs within at.known.made taken.who found_taken)

      module _ (b x : Bool) (was : b ≡ get_or ins o x) where
        pub take_mirrors : Mirrors opts sites ((j ++ accept_entry p t k o site mask s.has_else 1 ∷ []) ++ admit p u o 1 0 ∷ []) v waits events (made_ready u (freed standing p)) (set marks t b) (set ins o false) owners own
        take_mirrors =
            let l = lawful _ row_taken in
            let back = ap (λ y. with_door doors o (let_in y (on_top (t, marked c y) (out_of_queue y (door_at doors o))))) (sym taken.task) in
            subst (λ y. Mirrors opts sites ((j ++ accept_entry p t k o site mask s.has_else 1 ∷ []) ++ admit p y o 1 0 ∷ []) v waits events (made_ready y (freed standing p)) (set marks t b) (set ins o false) owners own) taken.task (m_caller opts sites j doors waits events standing marks ins owners own h p t k o site mask s.has_else runs within at.known.made taken.who found_taken taken.no_destructor l.0 (of_task u taken.task l.1) c taken.clause b x was v (taken.doors ∙ back))

        pub take_placed : IsPlaced u (freed standing p)
        take_placed =
            let l = lawful _ row_taken in
            subst (λ y. IsPlaced y (freed standing p)) taken.task (caller_placed opts sites j doors waits events standing marks ins owners own h p t k o site mask s.has_else runs within at.known.made taken.who found_taken taken.no_destructor l.0 (of_task u taken.task l.1) c taken.clause b x was)

        pub take_unready : IsUnready u (freed standing p)
        take_unready =
            let l = lawful _ row_taken in
            subst (λ y. IsUnready y (freed standing p)) taken.task (caller_unready opts sites j doors waits events standing marks ins owners own h p t k o site mask s.has_else runs within at.known.made taken.who found_taken taken.no_destructor l.0 (of_task u taken.task l.1) c taken.clause b x was)

        pub take_row : all ≡ accept_entry p t k o site mask s.has_else 1 ∷ admit p u o 1 0 ∷ []
        take_row =
            let l = lawful _ row_taken in
            let kept = caller_kept opts sites j doors waits events standing marks ins owners own h p t k o site mask s.has_else runs within at.known.made taken.who found_taken taken.no_destructor l.0 (of_task u taken.task l.1) c taken.clause b x was the_fault in
            all_by _ row_taken ∙ ap (λ l. accept_entry p t k o site mask s.has_else 1 ∷ l) (subst (λ y. settled the_fault (j ++ accept_entry p t k o site mask s.has_else 1 ∷ []) (admit p y o 1 0 ∷ []) ≡ admit p y o 1 0 ∷ []) taken.task kept)

    -- the caller of a destructor goes on the stack
    module _ (u c : ℕ) (e : as_accepted.Destroyer u c ≡ answer_of s.has_else found) where
      destroyer : TakesDestroyer doors o t u found v
      destroyer = destroyer_by doors v o t s.has_else (offers_by s mask) u c found e doors_are

      row_destroyer : accepted p t k o site mask s.has_else found ≡ accept_entry p t k o site mask s.has_else 3 ∷ push p u o ∷ []
      row_destroyer = destroyer_row p t k o site mask s.has_else found destroyer.who u destroyer.finds destroyer.task destroyer.destructor

      found_destroyer : next_met sites site mask o j ≡ Some destroyer.who
      found_destroyer = sym found_next ∙ destroyer.finds

      pub known_destroyer : u < task_count j
      known_destroyer =
          subst (λ y. y < task_count j) destroyer.task (taken_known opts sites j doors waits events standing marks ins owners own h p t k o site mask s.has_else runs within at.known.made destroyer.who found_destroyer)

      pub end_row : all ≡ accept_entry p t k o site mask s.has_else 3 ∷ push p u o ∷ []
      end_row = all_by _ row_destroyer

      pub end_mirrors : Mirrors opts sites ((j ++ accept_entry p t k o site mask s.has_else 3 ∷ []) ++ push p u o ∷ []) v waits events standing marks ins owners own
      end_mirrors =
          let l = lawful _ row_destroyer in
          let l2 = subst (λ y. Legal (push p y o) (j ++ accept_entry p t k o site mask s.has_else 3 ∷ [])) (sym destroyer.task) l.1.0 in
          let back = ap (λ y. with_door doors o (on_top (y, unmarked) (out_of_queue y (door_at doors o)))) (sym destroyer.task) in
          subst (λ y. Mirrors opts sites ((j ++ accept_entry p t k o site mask s.has_else 3 ∷ []) ++ push p y o ∷ []) v waits events standing marks ins owners own) destroyer.task (m_destroyer opts sites j doors waits events standing marks ins owners own h p t k o site mask s.has_else runs within at.known.made destroyer.who found_destroyer l.0 l2 v (destroyer.doors ∙ back))
