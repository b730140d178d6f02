-- What the rows tell of an account before a payment is taken.
use Rattle.std.specs.Prelude.{ℕ, List}
use Rattle.ftd_sql.specs.Standing.{Tables}
use Rattle.ftd_store.specs.Finds.{FindsPayment}
use Rattle.ftd_entries.specs.declared.payments.KnownForPay.{KnownForPay}
use Rattle.ftd_entries.specs.Known.{KnowsAccount, KnowsYear}

-- the account, its payment of the number, and whether the year is open
pub record KnowsForPay (name : List ℕ) (number year : ℕ) (known : KnownForPay)
    (t : Tables) : Type 0 where
  pub account : KnowsAccount name known.account t
  pub payment : FindsPayment name number known.payment t
  pub is_open : KnowsYear name year known.is_open t
