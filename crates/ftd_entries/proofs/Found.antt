-- What the rows of an account tell of its entry.
use Rattle.std.proofs.Common.{◌≡◌, ℕ, Bool, true, false, pos, List, [], ◌∷◌, map, Option, None}
use Rattle.std.proofs.Common.{Some, Ok, refl, sym, ap, subst, ◌∙◌}
use Rattle.std.proofs.Math.IntN.{◌+ℤ◌, -ℤ-+ℤ_cancel}
use Rattle.std.specs.Prelude.{filter, find, bytes_eq, option_map, unwrap_or, if◌then◌else◌}
use Rattle.sqlite.specs.Store as store
use Rattle.ftd_rules.specs.declared.Form.{Form}
use Rattle.ftd_rules.specs.declared.Form.TheVariants.{F941, F943}
use Rattle.ftd_sql.specs.declared.TableName.TheVariants.{Forms}
use Rattle.ftd_sql.specs.Rows.{AccountRow, FormRow}
use Rattle.ftd_sql.specs.Standing.{Tables}
use Rattle.ftd_sql.specs.Tests.{is_account, is_form_of}
use Rattle.ftd_store.specs.declared.account_cells.Account.{Account as StoredAccount}
use Rattle.ftd_store.specs.Cells.{day_number, flag_number, form_number}
use Rattle.ftd_store.specs.Rows.{account_row, form_row}
use Rattle.ftd_store.specs.Reading.{rows_of}
use Rattle.ftd_store.specs.Finds.{FindsAccount, FindsForm}
use Rattle.ftd_store.specs.Frame.{Reads}
use Rattle.ftd_store.specs.declared.tx.Tx.{Tx}
use Rattle.ftd_store.proofs.Telling.{then_reads}
use Rattle.ftd_machine.specs.declared.entries.Account.{Account}
use Rattle.ftd_machine.specs.State.{Enrolled, is_named, account_of}
use Rattle.ftd_entries.specs.Standing.{enrolled_row, enrolled_form}
use Rattle.ftd_entries.proofs.Permuted.{one_filtered, at_most_one}
use Rattle.ftd_entries.specs.Known.{KnowsEnrolled, HasForm, joined}

pub day_is : (a b : ℕ) → day_number a ≡ day_number b → a ≡ b
day_is a b h =
    let back = λ (n : ℕ). -ℤ-+ℤ_cancel (pos n) (pos 25_567) in
    let same : pos a ≡ pos b = sym (back a) ∙ (ap (λ z. z +ℤ pos 25_567) h ∙ back b) in
    cc

pub flag_is : (a b : Bool) → flag_number a ≡ flag_number b → a ≡ b
flag_is false false h = refl
flag_is false true h = absurd cc
flag_is true false h = absurd cc
flag_is true true h = refl

pub form_is : (a b : Form) → form_number a ≡ form_number b → a ≡ b
form_is F941 F941 h = refl
form_is F941 F943 h = absurd cc
form_is F943 F941 h = absurd cc
form_is F943 F943 h = refl

pub same_account : (name : List ℕ) (x : Enrolled) (a : StoredAccount) (f : Form)
    → enrolled_row x ≡ account_row name a → enrolled_form x ≡ form_row name f
    → x.account ≡ record { start = a.start; carried = a.carried; form = f }
same_account name x a f row form =
    let start = day_is x.account.start a.start (ap (λ (r : AccountRow). r.start) row) in
    let carried = flag_is x.account.carried a.carried (ap (λ (r : AccountRow). r.carried) row) in
    let kind = form_is x.account.form f (ap (λ (r : FormRow). r.form) form) in
    rw (sym start, sym carried, sym kind) refl

-- the first account of the name, by the rows of the two tables
account_is : (name : List ℕ) (found : Option StoredAccount) (form : Option Form)
    (xs : List Enrolled)
    → filter (is_account name) (map enrolled_row xs) ≡ rows_of (account_row name) found
    → filter (is_form_of name) (map enrolled_form xs) ≡ rows_of (form_row name) form
    → option_map account_of (find (is_named name) xs) ≡ joined found form
account_is name None form [] h k = refl
account_is name (Some a) form [] h k = absurd cc
account_is name found form (x ∷ xs) h k = step (bytes_eq x.name name) found form
    (account_is name found form xs) h k
  where
    step : (b : Bool) (found : Option StoredAccount) (form : Option Form)
        → (filter (is_account name) (map enrolled_row xs) ≡ rows_of (account_row name) found
        → filter (is_form_of name) (map enrolled_form xs) ≡ rows_of (form_row name) form
        → option_map account_of (find (is_named name) xs) ≡ joined found form)
        → (if b then enrolled_row x ∷ filter (is_account name) (map enrolled_row xs) else filter
        (is_account name) (map enrolled_row xs)) ≡ rows_of (account_row name) found
        → (if b then enrolled_form x ∷ filter (is_form_of name) (map enrolled_form xs) else filter
        (is_form_of name) (map enrolled_form xs)) ≡ rows_of (form_row name) form
        → option_map account_of (if b then Some x else find (is_named name) xs) ≡ joined found form
    step false found form more h k = more h k
    step true None form more h k = absurd cc
    step true (Some a) None more h k = absurd cc
    step true (Some a) (Some f) more h k =
        let row : enrolled_row x ≡ account_row name a = cc in
        let kind : enrolled_form x ≡ form_row name f = cc in
        ap Some (same_account name x a f row kind)

pub knows_enrolled : (name : List ℕ) (found : Option StoredAccount) (form : Option Form)
    (t : Tables)
    → FindsAccount name found t → FindsForm name form t → KnowsEnrolled name (joined found form) t
knows_enrolled name found form t account kind s stands =
    account_is name found form s.accounts (ap (filter (is_account name))
    (sym stands.entries.enrolled.accounts)
    ∙ account) (one_filtered (is_form_of name) (t Forms) (map enrolled_form s.accounts)
    (rows_of (form_row name) form) stands.entries.enrolled.forms
    (at_most_one (form_row name) form) kind)

-- and its form is that of its row
pub has_form : (name : List ℕ) (found : Option StoredAccount) (form : Option Form) (t : Tables)
    → FindsForm name form t → HasForm name (joined found form) t
has_form name None form t finds a is = absurd cc
has_form name (Some x) None t finds a is = absurd cc
has_form name (Some x) (Some f) t finds a is =
    let known : Account = record { start = x.start; carried = x.carried; form = f } in
    let same : f ≡ a.form = ap (λ (o : Option Account). (unwrap_or o known).form) is in
    subst (λ k. FindsForm name (Some k) t) same finds

pub form_read : {S : Type 0} {g : store.Ghosts S} {old mid new : Tx S}
    {found : Option StoredAccount} {form : Option Form}
    {Fact : Option StoredAccount → Tables → Type 0} (name : List ℕ)
    → Reads g old mid (Ok found) Fact → Reads g mid new (Ok form) (FindsForm name)
    → Reads g old new (Ok (joined found form)) (HasForm name)
form_read {found = found} {form = form} name p q =
    then_reads (joined found form) (HasForm name) p q
    (λ t account its. has_form name found form t its)

-- ---- without its form

abbrev pub stored_of : Account → StoredAccount
stored_of a = record { start = a.start; carried = a.carried }

same_stored : (name : List ℕ) (x : Enrolled) (a : StoredAccount)
    → enrolled_row x ≡ account_row name a → stored_of x.account ≡ a
same_stored name x a row =
    let start = day_is x.account.start a.start (ap (λ (r : AccountRow). r.start) row) in
    let carried = flag_is x.account.carried a.carried (ap (λ (r : AccountRow). r.carried) row) in
    λ i. record { start = start i; carried = carried i }

pub stored_is : (name : List ℕ) (found : Option StoredAccount) (xs : List Enrolled)
    → filter (is_account name) (map enrolled_row xs) ≡ rows_of (account_row name) found
    → option_map stored_of (option_map account_of (find (is_named name) xs)) ≡ found
stored_is name None [] h = refl
stored_is name (Some a) [] h = absurd cc
stored_is name found (x ∷ xs) h = step (bytes_eq x.name name) found (stored_is name found xs) h
  where
    step : (b : Bool) (found : Option StoredAccount)
        → (filter (is_account name) (map enrolled_row xs) ≡ rows_of (account_row name) found
        → option_map stored_of (option_map account_of (find (is_named name) xs)) ≡ found)
        → (if b then enrolled_row x ∷ filter (is_account name) (map enrolled_row xs) else filter
        (is_account name) (map enrolled_row xs)) ≡ rows_of (account_row name) found
        → option_map stored_of (option_map account_of
        (if b then Some x else find (is_named name) xs))
        ≡ found
    step false found more h = more h
    step true None more h = absurd cc
    step true (Some a) more h =
        let row : enrolled_row x ≡ account_row name a = cc in
        ap Some (same_stored name x a row)
