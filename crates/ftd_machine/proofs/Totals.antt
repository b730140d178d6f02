-- Each open year has its lookback total still: figures are added or put right, and none is taken
-- back.
use Rattle.std.proofs.Common.{◌≡◌, inl, inr, refl, sym, ap, subst, ℕ, ◌+◌, Bool, true, false}
use Rattle.std.proofs.Common.{cond, List, [], ◌∷◌, ◌++◌, filter}
use Rattle.std.specs.Prelude.{is_some}
use Rattle.ftd_days.specs.declared.cents.Cents.{Cents}
use Rattle.ftd_rules.specs.declared.Form.{Form}
use Rattle.ftd_rules.specs.declared.Form.TheVariants.{F941, F943}
use Rattle.ftd_rules.specs.Lists.{Has}
use Rattle.ftd_rules.specs.Lookback.{Counts, IsLookback, lookback_first}
use Rattle.ftd_rules.proofs.Owed.{has_left}
use Rattle.ftd_rules.proofs.Members.{has_last, has_mapped, mapped_has}
use Rattle.ftd_machine.specs.declared.entries.Account.{Account}
use Rattle.ftd_machine.specs.declared.entries.Beginning.{Beginning}
use Rattle.ftd_machine.specs.State.{State, Entries, Entry, entries_of, is_of}
use Rattle.ftd_machine.specs.State.{latest, all_at}
use Rattle.ftd_machine.specs.History.{start_of, form_of, figure_of, figures, quarter_figures}
use Rattle.ftd_machine.specs.History.{year_figures, HasLookback, IsLookbackOn}
use Rattle.ftd_machine.specs.Step.{with_account, with_entry, with_move}
use Rattle.ftd_machine.specs.Sound.{HasTotals}
use Rattle.ftd_machine.proofs.Adding.{filter_more}
use Rattle.ftd_machine.proofs.Since.{account_still, moved_still, not_of}

-- the account stays, and what was reported stays so, whatever its figure is then
pub record Grows (own after : Entries) : Type 0 where
  pub account : after.account ≡ own.account
  pub quarters : (q : ℕ) (c : Cents) → Has (quarter_figures own) (q, c)
      → (d : Cents) × Has (quarter_figures after) (q, d)
  pub years : (y : ℕ) (c : Cents) → Has (year_figures own) (y, c)
      → (d : Cents) × Has (year_figures after) (y, d)

pub figures_grow : (xs ys cs ds : List (Entry Cents)) → ((x : Entry Cents) → Has xs x → Has ys x)
    → (q : ℕ) (c : Cents) → Has (figures xs cs) (q, c) → (d : Cents) × Has (figures ys ds) (q, d)
figures_grow xs ys cs ds more q c h =
    let from = has_mapped (figure_of cs) xs (q, c) h in
    let key : q ≡ from.0.key = ap (λ (f : ℕ × Cents). f.0) from.2 in
    let d = latest from.0.content (all_at from.0.key ds) in (
      d,
      subst (λ k. Has (figures ys ds) (k, d)) (sym key)
          (mapped_has (figure_of ds) ys from.0 (more from.0 from.1)),
    )

counts_grow : (xs ys : List (ℕ × Cents))
    → ((q : ℕ) (c : Cents) → Has xs (q, c) → (d : Cents) × Has ys (q, d))
    → (start q : ℕ) (c : Cents) → Counts xs start q c → (d : Cents) × Counts ys start q d
counts_grow xs ys more start q c (inl early) = (c, inl early)
counts_grow xs ys more start q c (inr late) =
    let d = more q c late.1 in (d.0, inr (late.0, d.1))

-- what the four quarters of a lookback period count, added up
pub total_of : (reported : List (ℕ × Cents)) (start year : ℕ)
    → (a : (amount : Cents) × Counts reported start (lookback_first year) amount)
    → (b : (amount : Cents) × Counts reported start (lookback_first year + 1) amount)
    → (c : (amount : Cents) × Counts reported start (lookback_first year + 2) amount)
    → (d : (amount : Cents) × Counts reported start (lookback_first year + 3) amount)
    → IsLookback reported start year (a.0.0 + b.0.0 + c.0.0 + d.0.0)
total_of reported start year a b c d = record {
  first = a.0;
  second = b.0;
  third = c.0;
  fourth = d.0;
  count = (a.1, b.1, c.1, d.1);
  adds_up = refl;
}

on_grow : (form : Form) (own after : Entries) → Grows own after → (year : ℕ) (total : Cents)
    → IsLookbackOn form own year total → (new : Cents) × IsLookbackOn form after year new
on_grow F941 own after g year total h =
    let grow = counts_grow (quarter_figures own) (quarter_figures after) g.quarters
    (start_of own.account) in
    let a = grow (lookback_first year) h.first h.count.0 in
    let b = grow (lookback_first year + 1) h.second h.count.1 in
    let c = grow (lookback_first year + 2) h.third h.count.2 in
    let d = grow (lookback_first year + 3) h.fourth h.count.3 in (
      record { 0 = a.0.0 + b.0.0 + c.0.0 + d.0.0 },
      rw (g.account) (total_of (quarter_figures after) (start_of own.account) year a b c d),
    )
on_grow F943 own after g year total (inl early) = (total, rw (g.account) (inl early))
on_grow F943 own after g year total (inr late) =
    let d = g.years _ total late.1 in (d.0, rw (g.account) (inr (late.0, d.1)))

-- a year that has its lookback total has one still
pub lookback_grows : (own after : Entries) → Grows own after → (year : ℕ) (total : Cents)
    → HasLookback own year total → (new : Cents) × HasLookback after year new
lookback_grows own after g year total h =
    on_grow (form_of after.account) own after g year total (rw g.account h)

-- the account, its open years and what was first reported stay
pub record SameReported (own after : Entries) : Type 0 where
  pub account : after.account ≡ own.account
  pub reported : after.reported ≡ own.reported
  pub reported_years : after.reported_years ≡ own.reported_years
  pub open_years : after.open_years ≡ own.open_years

-- nothing of an account but the runs and the payments changes
pub record SameButRuns (own after : Entries) : Type 0 where
  pub first : SameReported own after
  pub open first use *
  pub corrected : after.corrected ≡ own.corrected
  pub corrected_years : after.corrected_years ≡ own.corrected_years

pub lookback_still : (own after : Entries) → SameButRuns own after → (year : ℕ) (total : Cents)
    → HasLookback own year total → HasLookback after year total
lookback_still own after same year total h = still (form_of after.account) (rw same.account h)
  where
    still : (form : Form) → IsLookbackOn form own year total → IsLookbackOn form after year total
    still F941 h = rw (same.account, same.reported, same.corrected) h
    still F943 h = rw (same.account, same.reported_years, same.corrected_years) h

-- nothing but the figures in force changes
pub record SameButFigures (own after : Entries) : Type 0 where
  pub first : SameReported own after
  pub open first use *
  pub runs : after.runs ≡ own.runs

pub lookback_again : (own after : Entries) → SameButFigures own after → (year : ℕ) (total : Cents)
    → HasLookback own year total → (new : Cents) × HasLookback after year new
lookback_again own after same year total h = lookback_grows own after (record {
  account = same.account;
  quarters = figures_grow own.reported after.reported own.corrected after.corrected
      (λ x has. subst (λ xs. Has xs x) (sym same.reported) has);
  years = figures_grow own.reported_years after.reported_years own.corrected_years
      after.corrected_years (λ x has. subst (λ xs. Has xs x) (sym same.reported_years) has);
}) year total h

totals_grow : (s next : State)
    → ((name : List ℕ) → is_some (entries_of s name).account ≡ true
    → Grows (entries_of s name) (entries_of next name))
    → next.open_years ≡ s.open_years
    → ((e : Entry (Unit {0})) → Has s.open_years e → is_some (entries_of s e.name).account ≡ true)
    → HasTotals s → HasTotals next
totals_grow s next grows same enrolled totals e has =
    let was : Has s.open_years e = subst (λ xs. Has xs e) same has in
    let total = totals e was in
    lookback_grows (entries_of s e.name) (entries_of next e.name) (grows e.name (enrolled e was))
    e.key total.0 total.1

-- where neither the accounts nor what was reported nor the open years change
pub totals_still : (s next : State) → next.accounts ≡ s.accounts → next.moved ≡ s.moved
    → next.reported ≡ s.reported
    → next.reported_years ≡ s.reported_years → next.open_years ≡ s.open_years
    → HasTotals s → HasTotals next
totals_still s next accounts moved reported years opened totals e has =
    let was : Has s.open_years e = subst (λ xs. Has xs e) opened has in
    let total = totals e was in
    lookback_grows (entries_of s e.name) (entries_of next e.name) (record {
      account = rw (accounts, moved) refl;
      quarters = figures_grow _ _ _ _
          (λ x h. subst (λ xs. Has (filter (is_of e.name) xs) x) (sym reported) h);
      years = figures_grow _ _ _ _
          (λ x h. subst (λ xs. Has (filter (is_of e.name) xs) x) (sym years) h);
    }) e.key total.0 total.1

-- an account more
pub totals_account : (s : State) (name : List ℕ) (account : Account)
    → ((e : Entry (Unit {0})) → Has s.open_years e → is_some (entries_of s e.name).account ≡ true)
    → HasTotals s → HasTotals (record s { accounts = with_account s.accounts name account })
totals_account s name account enrolled totals =
    totals_grow s (record s { accounts = with_account s.accounts name account }) (λ other there.
    record {
      account = account_still s name account other there;
      quarters = figures_grow _ _ _ _ (λ x h. h);
      years = figures_grow _ _ _ _ (λ x h. h);
    }) refl enrolled totals

-- an account without open years is put right
pub totals_moved : (s : State) (name : List ℕ) (beginning : Beginning)
    → (entries_of s name).open_years ≡ []
    → HasTotals s → HasTotals (record s { moved = with_move s.moved name beginning })
totals_moved s name beginning none totals e has =
    let total = totals e has in
    let stays = moved_still s name beginning e.name (not_of name s.open_years e none has) in
    (total.0, subst (λ own. HasLookback own e.key total.0) (sym stays) total.1)

has_more : {X : Type 0} (xs : List (Entry X)) (new : Entry X) (name : List ℕ) (x : Entry X)
    → Has (filter (is_of name) xs) x → Has (filter (is_of name) (xs ++ new ∷ [])) x
has_more xs new name x h =
    subst (λ ys. Has ys x) (sym (filter_more (is_of name) xs new (is_of name new) refl))
    (by (is_of name new))
  where
    by : (b : Bool) → Has (cond b (filter (is_of name) xs ++ new ∷ []) (filter (is_of name) xs)) x
    by true = has_left (filter (is_of name) xs) (new ∷ []) x h
    by false = h

-- a figure more
pub totals_reported : (s : State) (name : List ℕ) (key : ℕ) (cents : Cents)
    → ((e : Entry (Unit {0})) → Has s.open_years e → is_some (entries_of s e.name).account ≡ true)
    → HasTotals s → HasTotals (record s { reported = with_entry s.reported name key cents })
totals_reported s name key cents enrolled totals =
    totals_grow s (record s { reported = with_entry s.reported name key cents }) (λ other there.
    record {
      account = refl;
      quarters = figures_grow _ _ _ _ (λ x h. has_more s.reported _ other x h);
      years = figures_grow _ _ _ _ (λ x h. h);
    }) refl enrolled totals

pub totals_reported_year : (s : State) (name : List ℕ) (key : ℕ) (cents : Cents)
    → ((e : Entry (Unit {0})) → Has s.open_years e → is_some (entries_of s e.name).account ≡ true)
    → HasTotals s
    → HasTotals (record s { reported_years = with_entry s.reported_years name key cents })
totals_reported_year s name key cents enrolled totals =
    totals_grow s (record s { reported_years = with_entry s.reported_years name key cents })
    (λ other there. record {
      account = refl;
      quarters = figures_grow _ _ _ _ (λ x h. h);
      years = figures_grow _ _ _ _ (λ x h. has_more s.reported_years _ other x h);
    }) refl enrolled totals

-- an open year more, which has its total
pub totals_open : (s : State) (name : List ℕ) (year : ℕ) (total : Cents)
    → HasLookback (entries_of s name) year total
    → HasTotals s → HasTotals (record s { open_years = with_entry s.open_years name year tt })
totals_open s name year total is totals e has =
    let after : State = record s { open_years = with_entry s.open_years name year tt } in
    let found : (c : Cents) × HasLookback (entries_of s e.name) e.key c =
    elim (has_last s.open_years _ e has) [
      | inl here ↦ totals e here
      | inr new ↦ subst (λ (x : Entry (Unit {0})). (c : Cents)
          × HasLookback (entries_of s x.name) x.key c) (sym new) (total, is)
    ] in
    lookback_grows (entries_of s e.name) (entries_of after e.name) (record {
      account = refl;
      quarters = figures_grow _ _ _ _ (λ x h. h);
      years = figures_grow _ _ _ _ (λ x h. h);
    }) e.key found.0 found.1
