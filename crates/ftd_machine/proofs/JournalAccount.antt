-- One account of a journal: on a desk that has nothing of the account yet, each request is done.
use Rattle.std.proofs.Common.{◌≡◌, ◌∙◌, refl, sym, ap, subst, ℕ, ◌+◌, ◌≤◌, Bool}
use Rattle.std.proofs.Common.{true}
use Rattle.std.proofs.Common.{List, [], ◌∷◌, ◌++◌, None, Some, length, map, filter, arith}
use Rattle.std.proofs.Common.{append-nil, append_assoc}
use Rattle.std.specs.Prelude.{is_some, flat_map, find, option_map, nat_le}
use Rattle.std.proofs.lemmas.Bool.{eqb-true}
use Rattle.std.proofs.lemmas.List.{map-append}
use Rattle.ftd_days.specs.declared.limits.TheConstants.{LAST_OPEN_YEAR}
use Rattle.ftd_days.specs.Calendar.{year_of}
use Rattle.ftd_days.specs.declared.cents.Cents.{Cents}
use Rattle.ftd_days.proofs.Spelling.{same_text}
use Rattle.ftd_rules.specs.Accounts.{is_account_name}
use Rattle.ftd_rules.specs.Lists.{Has}
use Rattle.ftd_rules.specs.declared.Form.TheVariants.{F941, F943}
use Rattle.ftd_rules.specs.declared.run.PayRun.{PayRun}
use Rattle.ftd_rules.specs.declared.payment.Payment.{Payment}
use Rattle.ftd_rules.specs.declared.run.Voidable.{Voidable}
use Rattle.ftd_rules.proofs.Members.{has_kept, has_mapped}
use Rattle.ftd_rules.proofs.Owed.{has_right}
use Rattle.ftd_machine.specs.declared.entries.Account.{Account}
use Rattle.ftd_machine.specs.declared.entries.Beginning.{Beginning}
use Rattle.ftd_machine.specs.declared.entries.ReturnPeriod.{ReturnPeriod}
use Rattle.ftd_machine.specs.declared.entries.ReturnPeriod.TheVariants.{Quarter, Year}
use Rattle.ftd_machine.specs.declared.limits.TheConstants.{MOST_NUMBER}
use Rattle.ftd_machine.specs.Checks.{meets}
use Rattle.ftd_machine.specs.History.{HasLookback}
use Rattle.ftd_machine.specs.Limits.{can_be_opened}
use Rattle.ftd_machine.specs.Requests.{enrol_checks, correct_account_checks, is_unused}
use Rattle.ftd_machine.specs.Requests.{has_started_in}
use Rattle.ftd_machine.specs.Sound.{AreDistinct, place_of, name_of, IsSound, IsReportable}
use Rattle.ftd_machine.specs.State.{State, Entry, Move, Enrolled, entries_of, enrolled_in, moves_in}
use Rattle.ftd_machine.specs.State.{moves_of, is_of, is_named, account_of, account_in_force}
use Rattle.ftd_machine.specs.State.{is_given}
use Rattle.ftd_machine.specs.State.{is_move_of, beginning_of, kept_at, is_open, has_key, content_of}
use Rattle.ftd_machine.specs.State.{numbered}
use Rattle.ftd_machine.specs.Step.{with_account}
use Rattle.ftd_machine.specs.Journal.{is_key_before, own_by_key, account_enrolled}
use Rattle.ftd_machine.specs.Journal.{total_reported, year_opened, run_posted, payment_made}
use Rattle.ftd_machine.specs.Journal.{account_journal, corrections}
use Rattle.ftd_machine.specs.declared.requests.Request.TheVariants.{Enter, Correct}
use Rattle.ftd_machine.specs.declared.requests.Entry.TheVariants as entry
use Rattle.ftd_machine.specs.declared.requests.Correction.TheVariants as correction
use Rattle.ftd_machine.proofs.Adding.{own_name}
use Rattle.ftd_machine.proofs.Found.{filter_apart, find_one, find_there, has_here}
use Rattle.ftd_machine.proofs.InOrder.{has_ordered, ordered_has, ordered_apart, length_ordered}
use Rattle.ftd_machine.proofs.JournalEntries.{runs_lead, payments_lead, MayPost, MayPay}
use Rattle.ftd_machine.proofs.JournalTotals.{totals_lead, corrections_for}
use Rattle.ftd_machine.proofs.JournalYears.{years_lead}
use Rattle.ftd_machine.proofs.Keeping.{found_last}
use Rattle.ftd_machine.proofs.Members.{has_filtered, some_of, found_some}
use Rattle.ftd_machine.proofs.Numbers.{moves_append}
use Rattle.ftd_machine.proofs.Passing.{Pass, pass_end, pass_needs, pass_finds, pass_new}
use Rattle.ftd_machine.proofs.Passing.{number_fits, next_fresh, in_turn}
use Rattle.ftd_machine.proofs.Soundness.{in_force_some}
use Rattle.ftd_machine.proofs.Taken.{Leads, leads_append, corrections_lead}
use Rattle.ftd_machine.proofs.Totals.{Grows, figures_grow, lookback_grows}

-- ---- entries of an account, by key

pub of_account : {X : Type 0} (name : List ℕ) (xs : List (Entry X)) (e : Entry X)
    → Has (own_by_key name xs) e → Has xs e × (e.name ≡ name)
of_account name xs e has =
    let there = has_filtered (is_of name) xs e
    (has_ordered is_key_before (filter (is_of name) xs) e has) in
    (there.0, same_text e.name name there.1)

pub own_apart : {X : Type 0} (name : List ℕ) (xs : List (Entry X)) → AreDistinct place_of xs
    → AreDistinct place_of (own_by_key name xs)
own_apart name xs apart =
    ordered_apart is_key_before place_of (filter (is_of name) xs)
    (filter_apart place_of (is_of name) xs apart)

own_few : {X : Type 0} (name : List ℕ) (xs : List (Entry X)) (most : ℕ)
    → length (filter (is_of name) xs) ≤ most → length (own_by_key name xs) ≤ most
own_few name xs most few =
    let same : length (own_by_key name xs) ≡ length (filter (is_of name) xs) =
    length_ordered is_key_before (filter (is_of name) xs) in
    omega arith

-- what is the account's stands behind what there was
own_more : {X : Type 0} (name : List ℕ) (before xs : List (Entry X)) (x : Entry X)
    → Has (filter (is_of name) xs) x
    → Has (filter (is_of name) (before ++ own_by_key name xs)) x
own_more name before xs x has =
    has_kept (is_of name) (before ++ own_by_key name xs) x
    (has_right before (own_by_key name xs) x
    (ordered_has is_key_before (filter (is_of name) xs) x has))
    (has_filtered (is_of name) xs x has).1

-- the account stands once
pub enrolled_is : (xs : List Enrolled) (e : Enrolled) → AreDistinct name_of xs → Has xs e
    → option_map account_of (find (is_named e.name) xs) ≡ Some e.account
enrolled_is xs e apart has =
    ap (option_map account_of) (find_one (is_named e.name) name_of xs e apart has (own_name e.name)
    (λ x x_has same. sym (same_text x.name e.name same)))

-- ---- how it begins

abbrev pub move_under : List ℕ → Beginning → Move
move_under name beginning = record { name = name; beginning = beginning }

abbrev pub moves_at : List ℕ → List Beginning → List Move
moves_at name beginnings = map (move_under name) beginnings

pub moves_same : (name : List ℕ) (bs : List Beginning) → moves_of name (moves_at name bs) ≡ bs
moves_same name [] = refl
moves_same name (b ∷ bs) = rw (own_name name) (ap (λ xs. b ∷ xs) (moves_same name bs))

move_of : (name : List ℕ) (moved : List Move) (b : Beginning) → Has (moves_of name moved) b
    → (m : Move) × Has moved m × (b ≡ m.beginning)
move_of name moved b has =
    let m = has_mapped beginning_of (filter (is_move_of name) moved) b has in
    (m.0, (has_filtered (is_move_of name) moved m.0 m.1).0, m.2)

-- put right by these behind what there is
abbrev more_moves : State → List ℕ → List Beginning → State
more_moves t name beginnings = record t { moved = t.moved ++ moves_at name beginnings }

-- an account on which nothing rests is put right
moves_lead : (t : State) (name : List ℕ) (all : List Beginning)
    → is_account_name name ≡ true
    → ((b : Beginning) → Has all b → nat_le (year_of b.start) LAST_OPEN_YEAR ≡ true)
    → is_some (enrolled_in t name) ≡ true → is_unused (entries_of t name) ≡ true
    → moves_of name t.moved ≡ [] → length all ≤ MOST_NUMBER
    → Leads (corrections (λ b. correction.Account name b) all) t
    (record t { moved = t.moved ++ moves_at name all })
moves_lead t name all named begins there unused none few =
    subst (λ ms. Leads (corrections (λ b. correction.Account name b) all)
    (record t { moved = ms }) (more_moves t name all)) (append-nil t.moved)
    (corrections_lead (λ b. correction.Account name b) (more_moves t name) all one)
  where
    one : (xs : List Beginning) (b : Beginning) (rest : List Beginning) → all ≡ xs ++ b ∷ rest
        → Leads (Correct (length xs + 1) (correction.Account name b) ∷ []) (more_moves t name xs)
        (more_moves t name (xs ++ b ∷ []))
    one xs b rest is =
        let known = moves_of name (more_moves t name xs).moved in
        let same : known ≡ xs = moves_append name t.moved (moves_at name xs)
        ∙ ap (λ ys. ys ++ moves_of name (moves_at name xs)) none ∙ moves_same name xs in
        let mine : Has all b = subst (λ ys. Has ys b) (sym is) (has_here xs b rest) in
        let pass : Pass (correct_account_checks name (length xs + 1) b
        (account_in_force (enrolled_in t name) known) (numbered (length xs + 1) known)
        (is_unused (entries_of t name)) (length known)) =
        pass_needs _ _ _ named (pass_needs _ _ _ (begins b mine)
        (pass_needs _ _ _ (number_fits all xs b rest is few)
        (pass_finds _ _ _ (in_force_some (enrolled_in t name) known there)
        (pass_new _ _ _ _ (next_fresh xs known same) (pass_needs _ _ _ unused
        (pass_needs _ _ _ (in_turn xs known same) pass_end)))))) in
        record {
          pass = (pass.ok, tt);
          ends = ap (λ ms. record t { moved = ms })
              (append_assoc t.moved (moves_at name xs) _
              ∙ ap (λ ms. t.moved ++ ms) (sym (map-append (move_under name) xs (b ∷ []))));
        }

-- ---- a desk that has nothing of the account, and the calendars

pub record IsFree (s t : State) (name : List ℕ) : Type 0 where
  pub given : (year : ℕ) → is_given s year ≡ true → is_given t year ≡ true
  pub enrolled : enrolled_in t name ≡ None
  pub moved : moves_of name t.moved ≡ []
  pub reported : filter (is_of name) t.reported ≡ []
  pub reported_years : filter (is_of name) t.reported_years ≡ []
  pub corrected : filter (is_of name) t.corrected ≡ []
  pub corrected_years : filter (is_of name) t.corrected_years ≡ []
  pub open_years : filter (is_of name) t.open_years ≡ []
  pub runs : filter (is_of name) t.runs ≡ []
  pub payments : filter (is_of name) t.payments ≡ []

module _ (s : State) (sound : IsSound s) (e : Enrolled) (has : Has s.accounts e) (t : State)
    (free : IsFree s t e.name) where
  abbrev name : List ℕ
  name = e.name

  abbrev moves : List Beginning
  moves = moves_in s name

  named : is_account_name name ≡ true
  named = sound.names e has

  -- enrolled, and put right
  abbrev alone_t : State
  alone_t = record t { accounts = with_account t.accounts name e.account }

  abbrev enrolled_t : State
  enrolled_t = record t {
    accounts = with_account t.accounts name e.account;
    moved = t.moved ++ moves_at name moves;
  }

  here : enrolled_in enrolled_t name ≡ Some e.account
  here = found_last account_of (is_named name) t.accounts _ (own_name name) free.enrolled

  enrolled_lead : Leads (account_enrolled s e) t enrolled_t
  enrolled_lead =
      let unused : is_unused (entries_of alone_t name) ≡ true =
      rw (free.reported, free.reported_years, free.open_years) refl in
      let pass : Pass (enrol_checks name e.account (enrolled_in t name)) =
      pass_needs _ _ _ named (pass_needs _ _ _ (sound.first_days e has)
      (pass_new _ _ _ _ free.enrolled pass_end)) in
      let first : Leads (Enter (entry.Account name e.account) ∷ []) t alone_t =
      record { pass = (pass.ok, tt); ends = refl } in
      leads_append (Enter (entry.Account name e.account) ∷ [])
      (corrections (λ b. correction.Account name b) moves) t alone_t enrolled_t first
      (moves_lead alone_t name moves named
      (λ b b_has. (let m = move_of name s.moved b b_has in
      ap (λ (x : Beginning). nat_le (year_of x.start) LAST_OPEN_YEAR) m.2
      ∙ sound.moved_days m.0 m.1))
      (ap is_some here) unused free.moved (sound.move_counts name))

  -- the account in force is the same
  account_is : (entries_of s name).account ≡ (entries_of enrolled_t name).account
  account_is =
      let there : enrolled_in s name ≡ Some e.account =
      enrolled_is s.accounts e sound.accounts has in
      let its : moves_of name enrolled_t.moved ≡ moves =
      moves_append name t.moved (moves_at name moves)
      ∙ ap (λ xs. xs ++ moves_of name (moves_at name moves)) free.moved
      ∙ moves_same name moves in
      ap (λ o. account_in_force o moves) (there ∙ sym here)
      ∙ ap (account_in_force (enrolled_in enrolled_t name)) (sym its)

  meets_at : (test : Account → Bool) (other : List ℕ) → other ≡ name
      → meets test (entries_of s other).account ≡ true
      → meets test (entries_of enrolled_t name).account ≡ true
  meets_at test other is so =
      ap (meets test) (sym account_is)
      ∙ ap (λ n. meets test (entries_of s n).account) (sym is) ∙ so

  reportable_at : (period : ReturnPeriod) (other : List ℕ) → other ≡ name
      → IsReportable (entries_of s other).account period
      → IsReportable (entries_of enrolled_t name).account period
  reportable_at period other is may =
      subst (λ o. IsReportable o period) account_is
      (subst (λ n. IsReportable (entries_of s n).account period) is may)

  -- its totals, with their corrections
  abbrev quarters : List (Entry Cents)
  quarters = own_by_key name s.reported

  abbrev quarters_t : State
  quarters_t = record enrolled_t {
    reported = t.reported ++ quarters;
    corrected = t.corrected ++ corrections_for s.corrected quarters;
  }

  quarters_lead : Leads (flat_map (total_reported Quarter s.corrected) quarters) enrolled_t
      quarters_t
  quarters_lead = totals_lead F941 enrolled_t name quarters s.corrected
      (own_apart name s.reported sound.reported)
      (λ d d_has. (of_account name s.reported d d_has).1) named
      (λ d d_has. (let its = of_account name s.reported d d_has in
      reportable_at (Quarter d.key) d.name its.1 (sound.quarters d its.0)))
      (λ d d_has. sound.reported_amounts d (of_account name s.reported d d_has).0)
      sound.corrected_amounts (sound.quarter_counts name) free.reported free.corrected

  abbrev years : List (Entry Cents)
  years = own_by_key name s.reported_years

  abbrev years_t : State
  years_t = record quarters_t {
    reported_years = t.reported_years ++ years;
    corrected_years = t.corrected_years ++ corrections_for s.corrected_years years;
  }

  totals_of_years_lead : Leads (flat_map (total_reported Year s.corrected_years) years) quarters_t
      years_t
  totals_of_years_lead = totals_lead F943 quarters_t name years s.corrected_years
      (own_apart name s.reported_years sound.reported_years)
      (λ d d_has. (of_account name s.reported_years d d_has).1) named
      (λ d d_has. (let its = of_account name s.reported_years d d_has in
      reportable_at (Year d.key) d.name its.1 (sound.years d its.0)))
      (λ d d_has. sound.year_amounts d (of_account name s.reported_years d d_has).0)
      sound.corrected_year_amounts (sound.year_counts name) free.reported_years
      free.corrected_years

  -- its years, from the first one on
  abbrev own_years : List (Entry (Unit {0}))
  own_years = filter (is_of name) s.open_years

  abbrev opened_t : State
  opened_t = record years_t { open_years = t.open_years ++ own_years }

  grows : (xs : List (Entry (Unit {0})))
      → Grows (entries_of s name) (entries_of (record years_t { open_years = xs }) name)
  grows xs = record {
    account = sym account_is;
    quarters = figures_grow (filter (is_of name) s.reported)
        (filter (is_of name) years_t.reported) (filter (is_of name) s.corrected)
        (filter (is_of name) years_t.corrected) (own_more name t.reported s.reported);
    years = figures_grow (filter (is_of name) s.reported_years)
        (filter (is_of name) years_t.reported_years) (filter (is_of name) s.corrected_years)
        (filter (is_of name) years_t.corrected_years)
        (own_more name t.reported_years s.reported_years);
  }

  opened_lead : Leads (map year_opened own_years) years_t opened_t
  opened_lead =
      years_lead years_t name own_years
      (filter_apart place_of (is_of name) s.open_years sound.open_years)
      (λ d d_has. (mine d d_has).1) (sound.in_turn name) named
      (λ d d_has. (let its = mine d d_has in
      let opened = sound.opened d its.0 in
      record {
        in_years = opened.0;
        started = meets_at (has_started_in d.key) d.name its.1 (sound.opened_since d its.0);
        given = free.given d.key opened.1;
        given_next = free.given (d.key + 1) opened.2;
      }))
      (λ xs d d_has. (let its = mine d d_has in
      let total = sound.totals d its.0 in
      lookback_grows (entries_of s name) (entries_of (record years_t { open_years = xs }) name)
      (grows xs) d.key total.0
      (subst (λ n. HasLookback (entries_of s n) d.key total.0) its.1 total.1)))
      free.open_years
    where
      mine : (d : Entry (Unit {0})) → Has own_years d → Has s.open_years d × (d.name ≡ name)
      mine d d_has =
          let there = has_filtered (is_of name) s.open_years d d_has in
          (there.0, same_text d.name name there.1)

  -- what is open is open there
  open_there : (other : List ℕ) → other ≡ name → (year : ℕ)
      → is_open (entries_of s other) year ≡ true → is_open (entries_of opened_t name) year ≡ true
  open_there other is year so =
      let own = subst (λ n. is_open (entries_of s n) year ≡ true) is so in
      let c = some_of (kept_at year own_years) own in
      let d = found_some content_of (has_key year) own_years c.0 c.1 in
      find_there content_of (has_key year) (filter (is_of name) (t.open_years ++ own_years)) d.0
      (has_kept (is_of name) (t.open_years ++ own_years) d.0
      (has_right t.open_years own_years d.0 d.1)
      (has_filtered (is_of name) s.open_years d.0 d.1).1) d.2

  open_between : (other : List ℕ) (year : ℕ) → is_open (entries_of s other) year ≡ true
      → can_be_opened year ≡ true
  open_between other year so =
      let c = some_of (kept_at year (filter (is_of other) s.open_years)) so in
      let d = found_some content_of (has_key year) (filter (is_of other) s.open_years) c.0 c.1 in
      subst (λ y. can_be_opened y ≡ true) (eqb-true d.0.key year d.2)
      (sound.opened d.0 (has_filtered (is_of other) s.open_years d.0 d.1).0).0

  -- its runs and its payments
  abbrev own_runs : List (Entry (Voidable PayRun))
  own_runs = own_by_key name s.runs

  abbrev runs_t : State
  runs_t = record opened_t { runs = t.runs ++ own_runs }

  posted_lead : Leads (flat_map run_posted own_runs) opened_t runs_t
  posted_lead =
      runs_lead opened_t name own_runs (own_apart name s.runs sound.runs)
      (λ d d_has. (of_account name s.runs d d_has).1)
      (λ d d_has. (let its = of_account name s.runs d d_has in
      let there = sound.paydays d its.0 in
      subst (λ n. MayPost opened_t n d.key d.content.value) (sym its.1) (record {
        named = named;
        in_years = open_between d.name (year_of d.content.value.payday) there;
        amounts = sound.run_amounts d its.0;
        numbered = sound.run_numbers d its.0;
        started = meets_at _ d.name its.1 (sound.posted_since d its.0);
        opened = open_there d.name its.1 (year_of d.content.value.payday) there;
      })))
      (own_few name s.runs _ (sound.counts name).0) free.runs

  abbrev own_payments : List (Entry (Voidable Payment))
  own_payments = own_by_key name s.payments

  abbrev pub account_made : State
  account_made = record runs_t { payments = t.payments ++ own_payments }

  paid_lead : Leads (flat_map payment_made own_payments) runs_t account_made
  paid_lead =
      payments_lead runs_t name own_payments (own_apart name s.payments sound.payments)
      (λ d d_has. (of_account name s.payments d d_has).1)
      (λ d d_has. (let its = of_account name s.payments d d_has in
      let there = sound.paid_days d its.0 in
      subst (λ n. MayPay runs_t n d.key d.content.value) (sym its.1) (record {
        named = named;
        made = sound.paid_in d its.0;
        in_years = open_between d.name (year_of d.content.value.for_day) there;
        something = sound.paid_something d its.0;
        fits = sound.paid_amounts d its.0;
        numbered = sound.payment_numbers d its.0;
        started = meets_at _ d.name its.1 (sound.paid_since d its.0);
        opened = open_there d.name its.1 (year_of d.content.value.for_day) there;
      })))
      (own_few name s.payments _ (sound.counts name).1) free.payments

  -- each request of the account is done, and its entries are kept behind what there was
  pub account_lead : Leads (account_journal s e) t account_made
  account_lead =
      let a = account_enrolled s e in
      let b = flat_map (total_reported Quarter s.corrected) quarters in
      let c = flat_map (total_reported Year s.corrected_years) years in
      let d = map year_opened own_years in
      let f = flat_map run_posted own_runs in
      let g = flat_map payment_made own_payments in
      leads_append (a ++ b ++ c ++ d ++ f) g t runs_t account_made
      (leads_append (a ++ b ++ c ++ d) f t opened_t runs_t
      (leads_append (a ++ b ++ c) d t years_t opened_t
      (leads_append (a ++ b) c t quarters_t years_t
      (leads_append a b t enrolled_t quarters_t enrolled_lead quarters_lead)
      totals_of_years_lead) opened_lead) posted_lead) paid_lead
