-- What was read of an account is sound where its rows in the tables are.
use Rattle.std.proofs.Common.{◌≡◌, ◌∙◌, ◌+◌, ◌<◌, ℕ, refl, sym, ap, subst, arith}
use Rattle.std.proofs.Common.{List, [], ◌∷◌, map, filter, Option, None, Some, true}
use Rattle.std.specs.Prelude.{option_map}
use Rattle.std.specs.List.Sorted.{IsPermutation}
use Rattle.std.proofs.lemmas.List.Sorted.{IsPermutation-trans, IsPermutation-sym}
use Rattle.std.proofs.lemmas.List.Sorted.{IsPermutation-map}
use Rattle.ftd_rules.specs.Accounts.{is_account_name}
use Rattle.ftd_rules.specs.Lists.{KeysRise}
use Rattle.ftd_rules.specs.declared.Kind.{Kind}
use Rattle.ftd_rules.specs.declared.Kind.TheVariants.{Monthly, Semiweekly}
use Rattle.ftd_rules.specs.declared.YearLine.{YearLine}
use Rattle.ftd_rules.specs.Obligations.{AreObligations}
use Rattle.ftd_rules.proofs.Members.{has_mapped}
use Rattle.ftd_rules.proofs.Rising.{sorted_is, next_do_not_fall}
use Rattle.ftd_sql.specs.Rows.{FormRow, YearRow, ObligationRow}
use Rattle.ftd_sql.specs.Standing.{Tables}
use Rattle.ftd_sql.specs.Tests.{is_year_of}
use Rattle.ftd_sql.specs.declared.TableName.TheVariants.{Years}
use Rattle.ftd_store.specs.Added.{stored_year_row}
use Rattle.ftd_store.specs.Cells.{schedule_number, day_number}
use Rattle.ftd_store.specs.Rows.{form_row, year_row, obligation_row}
use Rattle.ftd_store.specs.declared.account_cells.Account.{Account}
use Rattle.ftd_store.specs.declared.year_cells.StoredYear.{StoredYear}
use Rattle.ftd_machine.specs.declared.entries.Account as machine
use Rattle.ftd_machine.specs.State.{Enrolled, Entries, account_in_force}
use Rattle.ftd_machine.specs.History.{form_of, live_sums, AreLinesOf, year_of_line, year_of_entry}
use Rattle.ftd_entries.proofs.Found.{day_is, form_is}
use Rattle.ftd_entries.proofs.Kept.{same_nat, cents_is}
use Rattle.ftd_entries.proofs.OwedRows.{obligation_is}
use Rattle.ftd_sound.specs.Entered.{entries_in, year_opened}
use Rattle.ftd_sound.specs.Own.{IsOwnSound}
use Rattle.ftd_check.specs.Account.{IsSoundOwn, stored_of}
use Rattle.ftd_check.specs.OwnRows.{AreRowsOf, year_of_stored}
use Rattle.ftd_check.specs.Parts.{HasEntered, HasSettled}
use Rattle.ftd_check.specs.Whole.{IsSoundAccount}
use Rattle.ftd_check.specs.declared.own_rows.OwnRows.{OwnRows}
use Rattle.ftd_check.proofs.AccountSound.{lines_rise}
use Rattle.ftd_check.proofs.Permuted.{unmapped}
use Rattle.ftd_check.proofs.SameOwn.{same_own, moves_once}

some_once : {X : Type 0} {a b : X} → ◌≡◌ {A = Option X} (Some a) (Some b) → a ≡ b
some_once same = cc

-- ---- a stored year by its row

schedule_is : (a b : Kind) → schedule_number a ≡ schedule_number b → a ≡ b
schedule_is Monthly Monthly same = refl
schedule_is Monthly Semiweekly same = absurd cc
schedule_is Semiweekly Monthly same = absurd cc
schedule_is Semiweekly Semiweekly same = refl

turn_is : (a b : Option ℕ) → option_map day_number a ≡ option_map day_number b → a ≡ b
turn_is None None same = refl
turn_is None (Some b) same = absurd cc
turn_is (Some a) None same = absurd cc
turn_is (Some a) (Some b) same =
    let days : day_number a ≡ day_number b = cc in
    ap (λ (n : ℕ). Some n) (day_is a b days)

stored_once : (name : List ℕ) (x y : StoredYear) → stored_year_row name x ≡ stored_year_row name y
    → x ≡ y
stored_once name x y same =
    let year = same_nat x.year y.year (ap (λ (r : YearRow). r.year) same) in
    let lookback = cents_is x.lookback y.lookback (ap (λ (r : YearRow). r.lookback) same) in
    let opening = schedule_is x.opening y.opening (ap (λ (r : YearRow). r.opening) same) in
    let turn = turn_is x.turn y.turn (ap (λ (r : YearRow). r.turn) same) in
    λ i. record { year = year i; lookback = lookback i; opening = opening i; turn = turn i }

-- ---- lines as they are stored

stored_rows : (name : List ℕ) (lines : List YearLine)
    → map (stored_year_row name) (map stored_of lines) ≡ map (year_row name) lines
stored_rows name [] = refl
stored_rows name (l ∷ ls) = ap (λ (rs : List YearRow). year_row name l ∷ rs) (stored_rows name ls)

stored_years : (lines : List YearLine)
    → map year_of_stored (map stored_of lines) ≡ map year_of_line lines
stored_years [] = refl
stored_years (l ∷ ls) = ap (λ (ys : List ℕ). l.year ∷ ys) (stored_years ls)

opened_years : (name years : List ℕ) → map year_of_entry (map (year_opened name) years) ≡ years
opened_years name [] = refl
opened_years name (y ∷ ys) = ap (λ (zs : List ℕ). y ∷ zs) (opened_years name ys)

rise_by_year : (lines : List YearLine) → KeysRise year_of_line lines
    → KeysRise (λ (n : ℕ). n) (map year_of_line lines)
rise_by_year [] rise = tt
rise_by_year (l ∷ ls) rise = (
  (λ later has.
      let from = has_mapped year_of_line ls later has in
      subst (λ (n : ℕ). l.year < n) (sym from.2) (rise.0 from.0 from.1)),
  rise_by_year ls rise.1,
)

-- ---- the account

module _ (t : Tables) (name : List ℕ) (account : Account) (rows : OwnRows)
    (are : AreRowsOf t name account rows) (given holidays : List ℕ) where
  abbrev kept : Entries
  kept = entries_in name rows.own

  -- the account as it is enrolled
  abbrev enrolled : Enrolled
  enrolled = record { name = name; account = rows.own.account }

  pub sound_there : is_account_name name ≡ true → IsSoundOwn name given holidays rows
      → IsSoundAccount t given holidays enrolled
  sound_there named is = record {
    name = named;
    own = kept;
    entered = are.entered;
    enrolled = refl;
    sound = is.sound;
    settled = record {
      lines = is.lines;
      are_lines = is.are_lines;
      owed = is.owed;
      are_owed = is.are_owed;
      line_rows = subst (λ (rs : List YearRow). IsPermutation rs (map (year_row name) is.lines))
          are.years
          (subst (IsPermutation (map (stored_year_row name) rows.years.items))
          (stored_rows name is.lines)
          (IsPermutation-map (stored_year_row name) rows.years.items (map stored_of is.lines)
          is.stored_lines));
      owed_rows = subst (λ (rs : List ObligationRow). IsPermutation rs
          (map (obligation_row name) is.owed)) are.obligations
          (IsPermutation-map (obligation_row name) rows.obligations.items is.owed
          is.stored_owed);
    };
  }

  module _ (own : Entries) (entered : HasEntered t name own) (sound : IsOwnSound given own)
      (settled : HasSettled t name own holidays) where
    lines_stored : IsPermutation rows.years.items (map stored_of settled.lines)
    lines_stored = unmapped (stored_year_row name) (stored_once name) rows.years.items
        (map stored_of settled.lines)
        (subst (λ (rs : List YearRow). IsPermutation rs
        (map (stored_year_row name) (map stored_of settled.lines))) (sym are.years)
        (subst (IsPermutation (filter (is_year_of name) (t Years)))
        (sym (stored_rows name settled.lines)) settled.line_rows))

    owed_stored : IsPermutation rows.obligations.items settled.owed
    owed_stored = unmapped (obligation_row name) (obligation_is name) rows.obligations.items
        settled.owed
        (subst (λ (rs : List ObligationRow). IsPermutation rs
        (map (obligation_row name) settled.owed)) (sym are.obligations) settled.owed_rows)

    same_years : rows.own.open_years.items ≡ map year_of_line settled.lines
    same_years =
        let years : IsPermutation (map year_of_stored rows.years.items)
        (map year_of_line settled.lines) =
        subst (IsPermutation (map year_of_stored rows.years.items)) (stored_years settled.lines)
        (IsPermutation-map year_of_stored rows.years.items (map stored_of settled.lines)
        lines_stored) in
        sorted_is (λ (n : ℕ). n) (map year_of_line settled.lines) rows.own.open_years.items
        (rise_by_year settled.lines (lines_rise own settled.lines settled.are_lines))
        (next_do_not_fall (λ (n : ℕ). n) rows.own.open_years.items
        (λ k d more. are.in_order k (k + 1) d (omega arith) more))
        (IsPermutation-trans (map year_of_line settled.lines)
        (map year_of_stored rows.years.items) rows.own.open_years.items
        (IsPermutation-sym (map year_of_stored rows.years.items)
        (map year_of_line settled.lines) years) are.open_years)

    same_opened : map year_of_entry own.open_years ≡ map year_of_entry kept.open_years
    same_opened =
        sym settled.are_lines.years ∙ sym same_years
        ∙ sym (opened_years name rows.own.open_years.items)

    module _ (enrolled_is : own.enrolled ≡ Some rows.own.account) where
      same_account : own.account ≡ kept.account
      same_account =
          sound.in_force
          ∙ ap (λ e. account_in_force e own.moves) enrolled_is
          ∙ ap (account_in_force (Some rows.own.account))
          (moves_once name own.moves rows.own.moves.items
          (sym entered.moves ∙ are.entered.moves))

      same : own ≡ kept
      same = same_own t name own kept entered are.entered enrolled_is same_account same_opened

      own_here : IsSoundOwn name given holidays rows
      own_here = record {
        sound = subst (IsOwnSound given) same sound;
        lines = settled.lines;
        are_lines = subst (λ (o : Entries). AreLinesOf o settled.lines) same settled.are_lines;
        owed = settled.owed;
        are_owed = subst (λ (o : Entries). AreObligations (form_of o.account) settled.lines
            (live_sums o) holidays settled.owed) same settled.are_owed;
        stored_lines = lines_stored;
        stored_owed = owed_stored;
      }

    -- how it begins is in its own row, and its form in another
    same_first : (first : machine.Account) → own.enrolled ≡ Some first
        → first.start ≡ account.start → first.carried ≡ account.carried
        → own.enrolled ≡ Some rows.own.account
    same_first first is start carried =
        let a : first ≡ entered.first = some_once (sym is ∙ entered.enrolled) in
        let b : rows.own.account ≡ are.entered.first = some_once are.entered.enrolled in
        let forms : form_row name entered.first.form ∷ []
        ≡ form_row name are.entered.first.form ∷ [] = sym entered.form ∙ are.entered.form in
        let row : form_row name entered.first.form ≡ form_row name are.entered.first.form = cc in
        let form : entered.first.form ≡ are.entered.first.form =
        form_is entered.first.form are.entered.first.form (ap (λ (r : FormRow). r.form) row) in
        let f : first.form ≡ rows.own.account.form =
        ap (λ (x : machine.Account). x.form) a ∙ form
        ∙ sym (ap (λ (x : machine.Account). x.form) b) in
        let s : first.start ≡ rows.own.account.start = start ∙ sym are.start in
        let c : first.carried ≡ rows.own.account.carried = carried ∙ sym are.carried in
        let all : first ≡ rows.own.account =
        λ i. record { start = s i; carried = c i; form = f i } in
        is ∙ ap (λ (x : machine.Account). Some x) all

    pub sound_here : (first : machine.Account) → own.enrolled ≡ Some first
        → first.start ≡ account.start → first.carried ≡ account.carried
        → IsSoundOwn name given holidays rows
    sound_here first is start carried = own_here (same_first first is start carried)
