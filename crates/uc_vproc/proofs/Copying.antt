-- Accept statements and their clauses, copied one by one.
use Rattle.std.proofs.Common.{List, [], ◌∷◌, ◌++◌, ℕ}
use Rattle.std.specs.List.{AllByRecursion}
use Rattle.uc_tree.specs.Programs.{Site}
use Rattle.uc_mutex.specs.Offers.{AreMembers, IsKnownSite}
use Rattle.uc_kernel_core.specs.Mirrors.{AreKnownSites}

pub clauses_more : (cs : List (List ℕ)) (c : List ℕ) → AllByRecursion AreMembers cs → AreMembers c → AllByRecursion AreMembers (cs ++ c ∷ [])
clauses_more [] c h k = (k, tt)
clauses_more (x ∷ cs) c h k = (h.0, clauses_more cs c h.1 k)

pub sites_more : (ss : List Site) (s : Site) → AreKnownSites ss → IsKnownSite s → AreKnownSites (ss ++ s ∷ [])
sites_more [] s h k = (k, tt)
sites_more (x ∷ ss) s h k = (h.0, sites_more ss s h.1 k)
