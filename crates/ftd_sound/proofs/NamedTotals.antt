-- The totals of one account are sound by their plain values where they are as the machine has them.
use Rattle.std.proofs.Common.{◌≡◌, ℕ, ◌≤◌, ◌==◌, true, List, [], ◌∷◌, map, length}
use Rattle.std.proofs.Common.{Some, refl, sym, ap, subst, ◌∙◌, arith, inl, inr}
use Rattle.std.specs.Prelude.{filter, is_some}
use Rattle.std.specs.List.{list_any}
use Rattle.std.proofs.lemmas.Bool.{cases_Bool, eqb-true, true≢false}
use Rattle.ftd_days.specs.declared.cents.Cents.{Cents}
use Rattle.ftd_rules.specs.Lists.{Has}
use Rattle.ftd_rules.proofs.Members.{mapped_has, has_mapped, some_pass, any_has}
use Rattle.ftd_rules.proofs.Rising.{all_has, has_all}
use Rattle.ftd_machine.specs.declared.limits.TheConstants.{MOST_NUMBER}
use Rattle.ftd_machine.specs.declared.entries.Account.{Account}
use Rattle.ftd_machine.specs.declared.entries.ReturnPeriod.{ReturnPeriod}
use Rattle.ftd_machine.specs.Limits.{is_amount}
use Rattle.ftd_machine.specs.Sound.{IsReportable}
use Rattle.ftd_machine.specs.State.{Entry, latest, all_at, kept_at}
use Rattle.ftd_machine.specs.History.{figure_of, figures}
use Rattle.ftd_machine.proofs.Found.{filter_none}
use Rattle.ftd_sound.specs.Entered.{entry_of}
use Rattle.ftd_sound.specs.Own.{key_of, AreTotalsSound}
use Rattle.ftd_sound.specs.Private.Plain.{key_in, content_in, is_under, amounts_under, AreOfPeriods}
use Rattle.ftd_sound.specs.Private.Plain.{AreTotals}
use Rattle.ftd_sound.specs.Private.Lines.{figure_in, figures_in}
use Rattle.ftd_sound.proofs.Apart.{distinct_mapped}
use Rattle.ftd_sound.proofs.Named.{mapped_all, all_mapped, kept_mapped, mapped_kept}

-- ---- what stands under a key

pub under_named : (name : List ℕ) (key : ℕ) (xs : List (ℕ × Cents))
    → all_at key (map (entry_of name) xs) ≡ amounts_under key xs
under_named name key [] = refl
under_named name key (x ∷ xs) = elim (cases_Bool (x.0 == key)) [
  | inl here ↦ rw here (ap (λ cents. x.1 ∷ cents) (under_named name key xs))
  | inr off ↦ rw off (under_named name key xs)
]

pub figures_named : (name : List ℕ) (reported corrected : List (ℕ × Cents))
    → figures (map (entry_of name) reported) (map (entry_of name) corrected)
    ≡ figures_in reported corrected
figures_named name [] corrected = refl
figures_named name (x ∷ xs) corrected =
    let here : figure_of (map (entry_of name) corrected) (entry_of name x)
    ≡ figure_in corrected x =
    ap (λ (cents : List Cents). (x.0, latest x.1 cents)) (under_named name x.0 corrected) in
    ap (λ (f : ℕ × Cents). f ∷ figures (map (entry_of name) xs) (map (entry_of name) corrected))
    here ∙ ap (λ (fs : List (ℕ × Cents)). figure_in corrected x ∷ fs)
    (figures_named name xs corrected)

-- ---- totals

module _ (name : List ℕ) (account : Account) (period : ℕ → ReturnPeriod)
    (reported corrected : List (ℕ × Cents)) where
  abbrev AreSound : Type 0
  AreSound = AreTotalsSound (Some account) period (map (entry_of name) reported)
      (map (entry_of name) corrected)

  pub totals_plain : AreSound → AreTotals reported corrected
  totals_plain h = record {
    once = (distinct_mapped (entry_of name) key_of reported).0 h.once;
    amounts = mapped_all (entry_of name) (λ (e : Entry Cents). is_amount e.content ≡ true) reported
        h.amounts;
    corrected_ones = all_has (λ (e : ℕ × Cents). Has (map key_in reported) e.0) corrected
        (λ e has. (let from = kept_mapped (entry_of name) reported e.0
        (h.corrected_ones (entry_of name e) (mapped_has (entry_of name) corrected e has)) in
        subst (Has (map key_in reported)) (sym from.2) (mapped_has key_in reported from.0 from.1)));
    corrected_amounts = mapped_all (entry_of name)
        (λ (e : Entry Cents). is_amount e.content ≡ true) corrected h.corrected_amounts;
    counts = all_has (λ (e : ℕ × Cents). length (amounts_under e.0 corrected) ≤ MOST_NUMBER)
        reported (λ e has. subst (λ (cents : List Cents). length cents ≤ MOST_NUMBER)
        (under_named name e.0 corrected) (h.counts e.0));
  }

  pub periods_plain : AreSound → AreOfPeriods account period reported
  periods_plain h = mapped_all (entry_of name)
      (λ (e : Entry Cents). IsReportable (Some account) (period e.key)) reported h.periods

  -- what was not reported was not corrected
  count_under : AreTotals reported corrected → (key : ℕ)
      → length (amounts_under key corrected) ≤ MOST_NUMBER
  count_under h key = elim (cases_Bool (list_any (is_under key) reported)) [
    | inl there ↦
        let found = some_pass (is_under key) reported there in
        subst (λ k. length (amounts_under k corrected) ≤ MOST_NUMBER)
        (eqb-true found.0.0 key found.2)
        (has_all (λ (e : ℕ × Cents). length (amounts_under e.0 corrected) ≤ MOST_NUMBER)
        reported h.counts found.0 found.1)
    | inr none ↦
        let no : filter (is_under key) corrected ≡ [] = filter_none (is_under key) corrected
        (λ x has is.
        (let its : Has (map key_in reported) x.0 = has_all
        (λ (e : ℕ × Cents). Has (map key_in reported) e.0) corrected h.corrected_ones x has in
        let of = has_mapped key_in reported x.0 its in
        let same : is_under key of.0 ≡ true = ap (λ k. k == key) (sym of.2) ∙ is in
        true≢false (sym (any_has (is_under key) reported of.0 of.1 same) ∙ none))) in
        subst (λ (xs : List (ℕ × Cents)). length (map content_in xs) ≤ MOST_NUMBER) (sym no)
        (omega arith)
  ]

  pub totals_named : AreTotals reported corrected → AreOfPeriods account period reported → AreSound
  totals_named h periods = record {
    once = (distinct_mapped (entry_of name) key_of reported).1 h.once;
    periods = all_mapped (entry_of name)
        (λ (e : Entry Cents). IsReportable (Some account) (period e.key)) reported periods;
    amounts = all_mapped (entry_of name) (λ (e : Entry Cents). is_amount e.content ≡ true) reported
        h.amounts;
    corrected_ones = all_mapped (entry_of name)
        (λ (e : Entry Cents). is_some (kept_at e.key (map (entry_of name) reported)) ≡ true)
        corrected (all_has
        (λ (e : ℕ × Cents). is_some (kept_at e.0 (map (entry_of name) reported)) ≡ true) corrected
        (λ e has. (let its : Has (map key_in reported) e.0 = has_all
        (λ (e : ℕ × Cents). Has (map key_in reported) e.0) corrected h.corrected_ones e has in
        let of = has_mapped key_in reported e.0 its in
        mapped_kept (entry_of name) reported e.0 of.0 of.1 of.2)));
    corrected_amounts = all_mapped (entry_of name)
        (λ (e : Entry Cents). is_amount e.content ≡ true) corrected h.corrected_amounts;
    counts = λ key. subst (λ (cents : List Cents). length cents ≤ MOST_NUMBER)
        (sym (under_named name key corrected)) (count_under h key);
  }
