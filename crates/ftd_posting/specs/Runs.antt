-- What the rows tell of an account before one of its runs is posted or voided.
use Rattle.std.specs.Prelude.{ℕ, List}
use Rattle.ftd_sql.specs.Standing.{Tables}
use Rattle.ftd_store.specs.Finds.{FindsRun}
use Rattle.ftd_entries.specs.Known.{KnowsAccount, HasForm, KnowsYear}
use Rattle.ftd_posting.specs.declared.known_runs.KnownForPost.{KnownForPost}
use Rattle.ftd_posting.specs.declared.known_runs.KnownForVoid.{KnownForVoid}

-- the account, its form and its run of the number
pub record KnowsForVoid (name : List ℕ) (number : ℕ) (known : KnownForVoid) (t : Tables)
    : Type 0 where
  pub account : KnowsAccount name known.account t
  pub form : HasForm name known.account t
  pub kept : FindsRun name number known.kept t

-- the account, its form and its run of the number, and whether the year is open
pub record KnowsForPost (name : List ℕ) (number year : ℕ) (known : KnownForPost)
    (t : Tables) : Type 0 where
  pub account : KnowsAccount name known.account t
  pub form : HasForm name known.account t
  pub kept : FindsRun name number known.kept t
  pub is_open : KnowsYear name year known.is_open t
