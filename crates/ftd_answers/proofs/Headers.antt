-- The headers of the lists as CSV, byte by byte.
use Rattle.std.proofs.Common.{◌≡◌, ℕ, List, refl}
use Rattle.std.specs.Prelude.{codes}
use Rattle.ftd_answers.specs.Dues.{agenda_fields, day_fields, due_fields}
use Rattle.ftd_answers.specs.Fields.{header_of}
use Rattle.ftd_answers.specs.KeptForms.{account_fields, holiday_fields, payment_fields, run_fields}
use Rattle.ftd_answers.specs.KeptForms.{total_fields, year_fields}
use Rattle.ftd_answers.specs.Unapplied.{unapplied_fields}

-- what is kept
pub accounts_header : header_of account_fields ≡ codes "employer,first_day,carried,form\n"
accounts_header = refl

pub years_header : (account : List ℕ) → header_of (year_fields account) ≡
    codes "employer,year,lookback,opening,carried,turned,first_lookback\n"
years_header account = refl

pub totals_header : (account : List ℕ) → header_of (total_fields account) ≡
    codes "employer,period,amount\n"
totals_header account = refl

pub holidays_header : header_of holiday_fields ≡ codes "day,added,holiday\n"
holidays_header = refl

pub runs_header : (account : List ℕ) → header_of (run_fields account) ≡
    codes "employer,run,payday,fit,ss,medicare\n"
runs_header account = refl

pub payments_header : (account : List ℕ) → header_of (payment_fields account) ≡
    codes "employer,payment,paid,for,amount\n"
payments_header account = refl

-- what is due
pub agenda_header : header_of agenda_fields ≡
    codes "due,account,form,first,last,rule,amount,paid,left,pay_by,verdict\n"
agenda_header = refl

pub due_header : (account : List ℕ) → header_of (due_fields account) ≡
    codes "due,account,first,last,rule,amount,paid,left,makeup,verdict\n"
due_header account = refl

pub days_header : (account : List ℕ) → header_of (day_fields account) ≡
    codes "account,day,amount\n"
days_header account = refl

-- money that counts for nothing
pub unapplied_header : header_of unapplied_fields ≡
    codes "account,payment,first,last,amount,paid,over\n"
unapplied_header = refl
