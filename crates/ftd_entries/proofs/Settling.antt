-- What is settled of an account stays so, where other tables and another state say the same of it.
use Rattle.std.proofs.Common.{◌≡◌, ◌∙◌, refl, sym, ap, subst, ℕ, Bool, true, false, List, [], ◌∷◌}
use Rattle.std.proofs.Common.{map}
use Rattle.std.specs.Prelude.{filter, bytes_eq, IsPermutation}
use Rattle.std.proofs.lemmas.Bool.{true≢false}
use Rattle.std.proofs.lemmas.List.Sorted.{IsPermutation-refl, IsPermutation-trans}
use Rattle.ftd_days.proofs.Spelling.{same_text}
use Rattle.ftd_rules.specs.declared.Form.{Form}
use Rattle.ftd_rules.specs.declared.YearLine.{YearLine}
use Rattle.ftd_rules.specs.declared.DaySum.{DaySum}
use Rattle.ftd_rules.specs.declared.Obligation.{Obligation}
use Rattle.ftd_rules.specs.Years.{AreLines}
use Rattle.ftd_rules.specs.Obligations.{AreObligations}
use Rattle.ftd_sql.specs.declared.TableName.TheVariants.{Years, Obligations}
use Rattle.ftd_sql.specs.Standing.{Tables}
use Rattle.ftd_sql.specs.Tests.{is_year_of}
use Rattle.ftd_store.specs.Rows.{year_row}
use Rattle.ftd_machine.specs.State.{State, entries_of, holidays}
use Rattle.ftd_machine.specs.History.{form_of, live_sums, year_of_line, year_of_entry, AreLinesOf}
use Rattle.ftd_machine.specs.History.{AreOwed}
use Rattle.ftd_machine.proofs.Adding.{own_name}
use Rattle.ftd_entries.specs.Standing.{IsSettled, is_obligation_of}

-- ---- one account and the others

pub names_apart : (name other : List ℕ) → bytes_eq name other ≡ false → name ≡ other → ⊥
names_apart name other apart same =
    true≢false (sym (subst (λ n. bytes_eq name n ≡ true) same (own_name name)) ∙ apart)

-- what holds of an account and of each other one holds of all
pub each_name : (Holds : List ℕ → Type 0) (name : List ℕ) → Holds name
    → ((other : List ℕ) → bytes_eq name other ≡ false → Holds other)
    → (other : List ℕ) → Holds other
each_name Holds name own others other = by_name (bytes_eq name other) refl
  where
    by_name : (same : Bool) → bytes_eq name other ≡ same → Holds other
    by_name true is = subst Holds (same_text name other is) own
    by_name false is = others other is

-- ---- the rows of an account

-- lists that are the same, in any order
pub same_order : {X : Type 0} (xs ys : List X) → xs ≡ ys → IsPermutation xs ys
same_order {X} xs ys same =
    subst (λ (zs : List X). IsPermutation xs zs) same (IsPermutation-refl xs)

-- other tables have the account's rows that follow from what was entered, in any order
pub record HasRowsOf (name : List ℕ) (t u : Tables) : Type 0 where
  pub years : IsPermutation (filter (is_year_of name) (u Years))
      (filter (is_year_of name) (t Years))
  pub obligations : IsPermutation (filter (is_obligation_of name) (u Obligations))
      (filter (is_obligation_of name) (t Obligations))

pub same_rows : (name : List ℕ) (t u : Tables) → u Years ≡ t Years
    → u Obligations ≡ t Obligations → HasRowsOf name t u
same_rows name t u years obligations = record {
  years = same_order _ _ (ap (filter (is_year_of name)) years);
  obligations = same_order _ _ (ap (filter (is_obligation_of name)) obligations);
}

-- ---- what is settled

-- what is settled is what the account owes
abbrev pub owes : {t : Tables} {s : State} {name : List ℕ} (settled : IsSettled t s name)
    → AreOwed (holidays s) (entries_of s name) settled.owed
owes settled = (settled.lines, settled.are_lines, settled.are_owed)

-- where no year is open, there are no lines
lines_none : (lines : List YearLine) → map year_of_line lines ≡ [] → lines ≡ []
lines_none [] e = refl
lines_none (line ∷ lines) e = absurd cc

-- there the form and the account make no difference to what is owed
owed_none : (form other : Form) (sums others : List DaySum) (days other_days : List ℕ)
    (rows : List Obligation) → AreObligations form [] sums days rows
    → AreObligations other [] others other_days rows
owed_none form other sums others days other_days rows are = record {
  by_first_day = are.by_first_day;
  all = λ o. (λ has. absurd ((are.all o).0 has).open_year, λ is. absurd is.open_year);
}

module _ (t u : Tables) (s v : State) (name : List ℕ) where
  -- of the account nothing was entered
  pub settled_as : entries_of v name ≡ entries_of s name → holidays v ≡ holidays s
      → HasRowsOf name t u → IsSettled t s name → IsSettled u v name
  settled_as same days rows was = record {
    lines = was.lines;
    are_lines = subst (λ own. AreLinesOf own was.lines) (sym same) was.are_lines;
    owed = was.owed;
    are_owed = subst (λ own. AreObligations (form_of own.account) was.lines (live_sums own)
        (holidays v) was.owed) (sym same)
        (subst (λ all. AreObligations (form_of (entries_of s name).account) was.lines
        (live_sums (entries_of s name)) all was.owed) (sym days) was.are_owed);
    line_rows = IsPermutation-trans _ _ _ rows.years was.line_rows;
    owed_rows = IsPermutation-trans _ _ _ rows.obligations was.owed_rows;
  }

  -- no year of the account is open
  pub settled_unopened : (entries_of s name).open_years ≡ [] → (entries_of v name).open_years ≡ []
      → live_sums (entries_of v name) ≡ live_sums (entries_of s name)
      → HasRowsOf name t u → IsSettled t s name → IsSettled u v name
  settled_unopened before after sums rows was =
      let own = entries_of s name in
      let lines : was.lines ≡ [] = lines_none was.lines (was.are_lines.years
      ∙ ap (map year_of_entry) before) in
      record {
        lines = [];
        are_lines = record {
          years = sym (ap (map year_of_entry) after);
          lookbacks = λ line has. absurd has;
          carried = tt;
          schedules = subst (λ those. AreLines those []) (sym sums)
              (subst (AreLines (live_sums own)) lines was.are_lines.schedules);
        };
        owed = was.owed;
        are_owed = owed_none _ _ _ _ _ _ _
            (subst (λ ls. AreObligations (form_of own.account) ls (live_sums own) (holidays s)
            was.owed) lines was.are_owed);
        line_rows = IsPermutation-trans _ _ _ rows.years
            (subst (λ ls. IsPermutation (filter (is_year_of name) (t Years))
            (map (year_row name) ls)) lines was.line_rows);
        owed_rows = IsPermutation-trans _ _ _ rows.obligations was.owed_rows;
      }
