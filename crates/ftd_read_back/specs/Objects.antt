-- What a text of JSON says, as serde_json reads it.
use Rattle.std.specs.Prelude.{ℕ, Bool, List, [], ◌∷◌, codes, map, Option, Some, None, is_some}
use Rattle.std.specs.Prelude.{option_and_then, option_map, unwrap_or, if◌then◌else◌}
use Rattle.serde_json.specs.Data.{Data, Items, no_items, item}
use Rattle.serde_json.specs.Find.{as_array, as_bool, as_null, as_number, as_str, as_u64, get}
use Rattle.serde_json.specs.Read as json
use Rattle.ftd_machine.specs.declared.kept.KeptPayment.{KeptPayment}
use Rattle.ftd_read_back.specs.Cells.{cents_read}
use Rattle.ftd_read_back.specs.Dates.{Date, date_of, day_read}
use Rattle.ftd_read_back.specs.Tables.{AgendaCells, DueCells, agenda_read, due_read}

-- the text that an object has under a name, or nothing where it has none
abbrev pub text_in : Data → List ℕ → List ℕ
text_in d name = unwrap_or (option_and_then as_str (get name d)) []

-- the whole number that it has there, and whether it has true or false there
abbrev pub number_in : Data → List ℕ → Option ℕ
number_in d name = option_and_then as_u64 (option_and_then as_number (get name d))

abbrev pub flag_in : Data → List ℕ → Option Bool
flag_in d name = option_and_then as_bool (get name d)

-- a value that may be none, by what is read of one: then there is null
abbrev pub or_null : {A : Type 0} → (Data → Option A) → Data → Option (Option A)
or_null read d = if is_some (as_null d) then Some None else option_map Some (read d)

abbrev pub number_or_null : Data → List ℕ → Option (Option ℕ)
number_or_null d name =
    option_and_then (or_null (λ v. option_and_then as_u64 (as_number v))) (get name d)

abbrev pub day_or_null : Data → List ℕ → Option (Option Date)
day_or_null d name =
    option_and_then (or_null (λ v. option_and_then day_read (as_str v))) (get name d)

abbrev pub elements : Items → List Data
elements no_items = []
elements (item d others) = d ∷ elements others

-- what each object says of the array that a text's object has under `rows`, if it is such a text
abbrev pub objects_read : {A : Type 0} → (Data → A) → List ℕ → Option (List A)
objects_read read text =
    option_map (λ items. map read (elements items))
    (option_and_then as_array (option_and_then (get (codes "rows")) (json.read text)))

-- the amount, in cents, that a text's object has under a name
abbrev pub sum_read : List ℕ → List ℕ → Option ℕ
sum_read name text = option_and_then (λ d. cents_read (text_in d name)) (json.read text)

-- ---- what is due over all accounts, and an account's due list: as in CSV, by the texts under the
-- names

abbrev pub agenda_object_read : Data → AgendaCells
agenda_object_read d = agenda_read (text_in d)

abbrev pub due_object_read : Data → DueCells
due_object_read d = due_read (text_in d)

-- ---- the payments of an account: of each what CSV has, the first day of the obligation that it
-- counts for, if there is one, and whether it was voided

pub record PaymentObject : Type 0 where
  pub account : List ℕ
  pub number : Option ℕ
  pub paid : Option Date
  pub for_day : Option Date
  pub amount : Option ℕ
  pub obligation : Option (Option Date)
  pub voided : Option Bool

abbrev pub payment_object_read : Data → PaymentObject
payment_object_read d = record {
  account = text_in d (codes "account");
  number = number_in d (codes "payment");
  paid = day_read (text_in d (codes "paid"));
  for_day = day_read (text_in d (codes "for"));
  amount = cents_read (text_in d (codes "amount"));
  obligation = day_or_null d (codes "obligation");
  voided = flag_in d (codes "void");
}

abbrev pub payment_object : List ℕ → KeptPayment → PaymentObject
payment_object account x = record {
  account = account;
  number = Some x.number;
  paid = Some (date_of x.payment.paid);
  for_day = Some (date_of x.payment.for_day);
  amount = Some x.payment.cents.0;
  obligation = Some (option_map date_of x.obligation);
  voided = Some x.voided;
}
