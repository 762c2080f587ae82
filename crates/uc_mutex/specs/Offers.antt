-- Which clause of an accept statement takes a call of each member.
use Rattle.std.specs.Prelude.{ℕ, ◌==◌, ◌<◌, ◌≤◌, List, length, map, if◌then◌else◌}
use Rattle.std.specs.List.{AllByRecursion, range_with_len}
use Rattle.uc_tree.specs.Programs.{Site}
use Rattle.uc_tree.specs.declared.limits.TheConstants.{CLAUSES}
use Rattle.uc_links.specs.Lists.{member_limit}
use Rattle.uc_tree.specs.SiteOffers.{clause_for, offers_from, or_0}

-- what an accept statement offers under a mask of its clauses: each clause with a member that it lists
abbrev pub offers_by : Site → ℕ → List (ℕ × ℕ)
offers_by site mask = offers_from 0 mask site.clauses

-- the clause for each member by its number, the first that lists it, or 0
unfoldable pub clauses_of : List (ℕ × ℕ) → List ℕ
clauses_of offers = map (λ m. or_0 (clause_for offers m)) (range_with_len 0 member_limit)

abbrev pub AreMembers : List ℕ → Type 0
AreMembers ms = AllByRecursion (λ m. m < member_limit) ms

-- a statement that the kernel may be asked for: it has few clauses, and what they list are members
pub record IsKnownSite (site : Site) : Type 0 where
  pub few : length site.clauses ≤ CLAUSES
  pub members : AllByRecursion AreMembers site.clauses

-- the clause that was found for a member, or else the first of those that are left to look at
abbrev pub found_or : ℕ → List (ℕ × ℕ) → ℕ → ℕ
found_or found rest m = if found == 0 then or_0 (clause_for rest m) else found
