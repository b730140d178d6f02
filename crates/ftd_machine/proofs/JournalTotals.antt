-- Reported totals of a journal, of quarters and of years: each is taken, with its corrections
-- behind it.
use Rattle.std.proofs.Common.{◌≡◌, ◌∙◌, inl, inr, refl, sym, ap, subst, ℕ, ◌+◌, ◌≤◌}
use Rattle.std.proofs.Common.{List, [], ◌∷◌, ◌++◌, None, map, filter, length, true}
use Rattle.std.proofs.Common.{append-nil, append_assoc}
use Rattle.std.specs.Prelude.{is_some, flat_map}
use Rattle.std.proofs.lemmas.Grind.{flat_map-append}
use Rattle.std.proofs.lemmas.List.{map-append}
use Rattle.std.proofs.lemmas.List.Elements.{filter-append}
use Rattle.ftd_days.specs.declared.cents.Cents.{Cents}
use Rattle.ftd_rules.specs.Accounts.{is_account_name}
use Rattle.ftd_rules.specs.Lists.{Has}
use Rattle.ftd_rules.specs.declared.Form.{Form}
use Rattle.ftd_rules.specs.declared.Form.TheVariants.{F941, F943}
use Rattle.ftd_rules.proofs.Members.{has_mapped}
use Rattle.ftd_rules.proofs.Owed.{has_append, has_right}
use Rattle.ftd_machine.specs.declared.entries.ReturnPeriod.{ReturnPeriod}
use Rattle.ftd_machine.specs.declared.entries.ReturnPeriod.TheVariants.{Quarter, Year}
use Rattle.ftd_machine.specs.declared.limits.TheConstants.{MOST_NUMBER}
use Rattle.ftd_machine.specs.Limits.{is_amount}
use Rattle.ftd_machine.specs.Requests.{report_checks, correct_total_checks}
use Rattle.ftd_machine.specs.Sound.{AreDistinct, place_of, IsReportable}
use Rattle.ftd_machine.specs.State.{State, Entry, entries_of, kept_at, is_of, all_at}
use Rattle.ftd_machine.specs.State.{has_key, content_of, reported_at, corrections_at, numbered}
use Rattle.ftd_machine.specs.Step.{with_total, with_correction, with_entry}
use Rattle.ftd_machine.specs.Journal.{total_reported, corrections}
use Rattle.ftd_machine.specs.declared.requests.Request.TheVariants.{Enter, Correct}
use Rattle.ftd_machine.specs.declared.requests.Entry.TheVariants as entry
use Rattle.ftd_machine.specs.declared.requests.Correction.TheVariants as correction
use Rattle.ftd_machine.proofs.Found.{IsAbsent, absent_kept, absent_all, not_before, has_here}
use Rattle.ftd_machine.proofs.Adding.{own_name}
use Rattle.ftd_machine.proofs.Entered.{same_place}
use Rattle.ftd_machine.proofs.Keeping.{kept_own, same_key}
use Rattle.ftd_machine.proofs.Members.{has_filtered}
use Rattle.ftd_machine.proofs.Numbers.{keyed}
use Rattle.ftd_machine.proofs.Passing.{Pass, pass_end, pass_needs, pass_finds, pass_new, pass_next}
use Rattle.ftd_machine.proofs.Passing.{number_fits}
use Rattle.ftd_machine.proofs.Since.{meets_some, not_of}
use Rattle.ftd_machine.proofs.Taken.{Leads, leads_append, all_lead, corrections_lead}

-- ---- the totals of quarters, or those of years

abbrev pub period_on : Form → ℕ → ReturnPeriod
period_on F941 = Quarter
period_on F943 = Year

abbrev pub totals_on : Form → State → List (Entry Cents)
totals_on F941 s = s.reported
totals_on F943 s = s.reported_years

abbrev pub corrected_on : Form → State → List (Entry Cents)
corrected_on F941 s = s.corrected
corrected_on F943 s = s.corrected_years

-- these in their place
abbrev pub with_totals : Form → State → List (Entry Cents) → List (Entry Cents) → State
with_totals F941 s totals corrected = record s { reported = totals; corrected = corrected }
with_totals F943 s totals corrected =
    record s { reported_years = totals; corrected_years = corrected }

with_own : (form : Form) (s : State)
    → with_totals form s (totals_on form s) (corrected_on form s) ≡ s
with_own F941 s = refl
with_own F943 s = refl

module _ (s : State) (xs cs : List (Entry Cents)) (name : List ℕ) (key : ℕ) where
  same_account : (form : Form)
      → (entries_of s name).account ≡ (entries_of (with_totals form s xs cs) name).account
  same_account F941 = refl
  same_account F943 = refl

  reported_there : (form : Form)
      → reported_at (entries_of (with_totals form s xs cs) name) (period_on form key)
      ≡ kept_at key (filter (is_of name) xs)
  reported_there F941 = refl
  reported_there F943 = refl

  corrected_there : (form : Form)
      → corrections_at (entries_of (with_totals form s xs cs) name) (period_on form key)
      ≡ all_at key (filter (is_of name) cs)
  corrected_there F941 = refl
  corrected_there F943 = refl

  total_more : (form : Form) (cents : Cents)
      → with_total (with_totals form s xs cs) name (period_on form key) cents
      ≡ with_totals form s (with_entry xs name key cents) cs
  total_more F941 cents = refl
  total_more F943 cents = refl

  correction_more : (form : Form) (cents : Cents)
      → with_correction (with_totals form s xs cs) name (period_on form key) cents
      ≡ with_totals form s xs (with_entry cs name key cents)
  correction_more F941 cents = refl
  correction_more F943 cents = refl

-- ---- corrections under a key

abbrev pub entry_under : List ℕ → ℕ → Cents → Entry Cents
entry_under name key cents = record { name = name; key = key; content = cents }

abbrev pub entries_at : List ℕ → ℕ → List Cents → List (Entry Cents)
entries_at name key amounts = map (entry_under name key) amounts

pub all_append : (key : ℕ) (name : List ℕ) (xs ys : List (Entry Cents))
    → all_at key (filter (is_of name) (xs ++ ys))
    ≡ all_at key (filter (is_of name) xs) ++ all_at key (filter (is_of name) ys)
all_append key name xs ys =
    ap (all_at key) (filter-append (is_of name) xs ys)
    ∙ keyed key (filter (is_of name) xs) (filter (is_of name) ys)

at_own : (name : List ℕ) (key : ℕ) (amounts : List Cents)
    → all_at key (filter (is_of name) (entries_at name key amounts)) ≡ amounts
at_own name key [] = refl
at_own name key (c ∷ amounts) =
    rw (own_name name, same_key key) (ap (λ xs. c ∷ xs) (at_own name key amounts))

-- what stands under another name or another key
at_other : (name other : List ℕ) (key at : ℕ) (amounts : List Cents)
    → (name ≡ other → key ≡ at → ⊥)
    → all_at at (filter (is_of other) (entries_at name key amounts)) ≡ []
at_other name other key at amounts apart =
    absent_all (entries_at name key amounts) other at (λ d has named keyed.
    (let c = has_mapped (entry_under name key) amounts d has in
    apart (ap (λ (e : Entry Cents). e.name) (sym c.2) ∙ named)
    (ap (λ (e : Entry Cents). e.key) (sym c.2) ∙ keyed)))

-- the corrections that a list has of these totals
abbrev pub corrections_for : List (Entry Cents) → List (Entry Cents) → List (Entry Cents)
corrections_for corrected totals =
    flat_map (λ e. entries_at e.name e.key (all_at e.key (filter (is_of e.name) corrected))) totals

-- none, of a total that is not among them
pub none_for : (corrected totals : List (Entry Cents)) (name : List ℕ) (key : ℕ)
    → IsAbsent totals name key
    → all_at key (filter (is_of name) (corrections_for corrected totals)) ≡ []
none_for corrected [] name key none = refl
none_for corrected (e ∷ totals) name key none =
    all_append key name
    (entries_at e.name e.key (all_at e.key (filter (is_of e.name) corrected)))
    (corrections_for corrected totals)
    ∙ ap (λ xs. xs ++ all_at key (filter (is_of name) (corrections_for corrected totals)))
    (at_other e.name name e.key key _ (none e (inl refl)))
    ∙ none_for corrected totals name key (λ d has. none d (inr has))

-- all, of one that is
pub same_for : (corrected totals : List (Entry Cents)) → AreDistinct place_of totals
    → (d : Entry Cents) → Has totals d
    → all_at d.key (filter (is_of d.name) (corrections_for corrected totals))
    ≡ all_at d.key (filter (is_of d.name) corrected)
same_for corrected [] apart d has = absurd has
same_for corrected (e ∷ totals) apart d (inl is) =
    subst (λ (x : Entry Cents). all_at x.key (filter (is_of x.name)
    (corrections_for corrected (e ∷ totals))) ≡ all_at x.key (filter (is_of x.name) corrected))
    (sym is)
    (all_append e.key e.name
    (entries_at e.name e.key (all_at e.key (filter (is_of e.name) corrected)))
    (corrections_for corrected totals)
    ∙ ap (λ xs. all_at e.key (filter (is_of e.name)
    (entries_at e.name e.key (all_at e.key (filter (is_of e.name) corrected)))) ++ xs)
    (none_for corrected totals e.name e.key
    (λ x has names keys. apart.0 x has (same_place x e names keys)))
    ∙ append-nil _
    ∙ at_own e.name e.key (all_at e.key (filter (is_of e.name) corrected)))
same_for corrected (e ∷ totals) apart d (inr has) =
    all_append d.key d.name
    (entries_at e.name e.key (all_at e.key (filter (is_of e.name) corrected)))
    (corrections_for corrected totals)
    ∙ ap (λ xs. xs ++ all_at d.key (filter (is_of d.name) (corrections_for corrected totals)))
    (at_other e.name d.name e.key d.key _
    (λ names keys. apart.0 d has (same_place d e (sym names) (sym keys))))
    ∙ same_for corrected totals apart.1 d has

-- ---- one total

module _ (form : Form) (s : State) (name : List ℕ) (key : ℕ)
    (named : is_account_name name ≡ true)
    (may : IsReportable (entries_of s name).account (period_on form key)) where
  abbrev period : ReturnPeriod
  period = period_on form key

  may_at : (xs cs : List (Entry Cents))
      → IsReportable (entries_of (with_totals form s xs cs) name).account period
  may_at xs cs =
      subst (λ o. IsReportable o period) (same_account s xs cs name key form) may

  -- it is reported
  total_lead : (xs cs : List (Entry Cents)) (cents : Cents) → is_amount cents ≡ true
      → IsAbsent xs name key
      → Leads (Enter (entry.Total name period cents) ∷ []) (with_totals form s xs cs)
      (with_totals form s (with_entry xs name key cents) cs)
  total_lead xs cs cents fits none =
      let own = entries_of (with_totals form s xs cs) name in
      let its = may_at xs cs in
      let fresh : reported_at own period ≡ None =
      reported_there s xs cs name key form ∙ absent_kept xs name key none in
      let pass : Pass (report_checks name period cents own.account (reported_at own period)) =
      pass_needs _ _ _ named (pass_needs _ _ _ its.in_years (pass_needs _ _ _ fits
      (pass_finds _ _ _ (meets_some _ own.account its.on_form) (pass_needs _ _ _ its.on_form
      (pass_new _ _ _ _ fresh (pass_needs _ _ _ its.starts pass_end)))))) in
      record { pass = (pass.ok, tt); ends = total_more s xs cs name key form cents }

  abbrev corrected_with : List (Entry Cents) → List (Entry Cents) → List Cents → State
  corrected_with xs cs ys = with_totals form s xs (cs ++ entries_at name key ys)

  -- it is put right
  corrected_lead : (xs cs : List (Entry Cents)) (amounts : List Cents)
      → ((c : Cents) → Has amounts c → is_amount c ≡ true) → length amounts ≤ MOST_NUMBER
      → is_some (kept_at key (filter (is_of name) xs)) ≡ true
      → all_at key (filter (is_of name) cs) ≡ []
      → Leads (corrections (λ cents. correction.Total name period cents) amounts)
      (with_totals form s xs cs) (with_totals form s xs (cs ++ entries_at name key amounts))
  corrected_lead xs cs amounts fit few there none =
      subst (λ ys. Leads (corrections (λ cents. correction.Total name period cents) amounts)
      (with_totals form s xs ys) (corrected_with xs cs amounts)) (append-nil cs)
      (corrections_lead (λ cents. correction.Total name period cents) (corrected_with xs cs)
      amounts one)
    where
      fits : (ys : List Cents) (c : Cents) (rest : List Cents) → amounts ≡ ys ++ c ∷ rest
          → is_amount c ≡ true
      fits ys c rest is = fit c (subst (λ zs. Has zs c) (sym is) (has_here ys c rest))

      one : (ys : List Cents) (c : Cents) (rest : List Cents) → amounts ≡ ys ++ c ∷ rest
          → Leads (Correct (length ys + 1) (correction.Total name period c) ∷ [])
          (corrected_with xs cs ys) (corrected_with xs cs (ys ++ c ∷ []))
      one ys c rest is =
          let before = cs ++ entries_at name key ys in
          let own = entries_of (corrected_with xs cs ys) name in
          let its = may_at xs before in
          let known = corrections_at own period in
          let reported : is_some (reported_at own period) ≡ true =
          ap is_some (reported_there s xs before name key form) ∙ there in
          let same : known ≡ ys =
          corrected_there s xs before name key form
          ∙ all_append key name cs (entries_at name key ys)
          ∙ ap (λ zs. zs ++ all_at key (filter (is_of name) (entries_at name key ys))) none
          ∙ at_own name key ys in
          let pass : Pass (correct_total_checks name period (length ys + 1) c own.account
          (reported_at own period) (numbered (length ys + 1) known) (length known)) =
          pass_needs _ _ _ named (pass_needs _ _ _ its.in_years
          (pass_needs _ _ _ (fits ys c rest is)
          (pass_needs _ _ _ (number_fits amounts ys c rest is few)
          (pass_finds _ _ _ (meets_some _ own.account its.on_form)
          (pass_needs _ _ _ its.on_form (pass_finds _ _ _ reported
          (pass_next ys known _ _ same))))))) in
          record {
            pass = (pass.ok, tt);
            ends = correction_more s xs before name key form c
                ∙ ap (with_totals form s xs)
                (append_assoc cs (entries_at name key ys) _
                ∙ ap (λ zs. cs ++ zs)
                (sym (map-append (entry_under name key) ys (c ∷ []))));
          }

-- ---- the totals of an account, on a desk that has none of it yet

module _ (form : Form) (t : State) (name : List ℕ) (all corrected : List (Entry Cents))
    (apart : AreDistinct place_of all)
    (own : (e : Entry Cents) → Has all e → e.name ≡ name)
    (named : is_account_name name ≡ true)
    (may : (e : Entry Cents) → Has all e
    → IsReportable (entries_of t name).account (period_on form e.key))
    (amounts : (e : Entry Cents) → Has all e → is_amount e.content ≡ true)
    (corrected_amounts : (e : Entry Cents) → Has corrected e → is_amount e.content ≡ true)
    (few : (key : ℕ) → length (all_at key (filter (is_of name) corrected)) ≤ MOST_NUMBER)
    (none : filter (is_of name) (totals_on form t) ≡ [])
    (uncorrected : filter (is_of name) (corrected_on form t) ≡ []) where
  abbrev put : List (Entry Cents) → State
  put xs = with_totals form t (totals_on form t ++ xs)
      (corrected_on form t ++ corrections_for corrected xs)

  fit : (key : ℕ) (c : Cents) → Has (all_at key (filter (is_of name) corrected)) c
      → is_amount c ≡ true
  fit key c has =
      let d = has_mapped content_of (filter (has_key key) (filter (is_of name) corrected)) c has in
      let there = has_filtered (has_key key) (filter (is_of name) corrected) d.0 d.1 in
      ap is_amount d.2 ∙ corrected_amounts d.0 (has_filtered (is_of name) corrected d.0 there.0).0

  one : (xs : List (Entry Cents)) (e : Entry Cents) (rest : List (Entry Cents))
      → all ≡ xs ++ e ∷ rest
      → Leads (total_reported (period_on form) corrected e) (put xs) (put (xs ++ e ∷ []))
  one xs e rest is =
      let mine : Has all e = subst (λ ys. Has ys e) (sym is) (has_here xs e rest) in
      subst (λ n. Leads (Enter (entry.Total n (period_on form e.key) e.content)
      ∷ corrections (λ cents. correction.Total n (period_on form e.key) cents)
      (all_at e.key (filter (is_of n) corrected))) (put xs) (put (xs ++ e ∷ [])))
      (sym (own e mine)) (lead mine)
    where
      absent : IsAbsent (totals_on form t ++ xs) name e.key
      absent d has names keys = elim (has_append (totals_on form t) xs d has) [
        | inl before ↦ not_of name (totals_on form t) d none before (sym names)
        | inr put_there ↦ not_before place_of xs e rest
            (subst (AreDistinct place_of) is apart) d put_there
            (same_place d e (names ∙ sym (own e (subst (λ ys. Has ys e) (sym is)
            (has_here xs e rest)))) keys)
      ]

      lead : Has all e → Leads (Enter (entry.Total name (period_on form e.key) e.content)
          ∷ corrections (λ cents. correction.Total name (period_on form e.key) cents)
          (all_at e.key (filter (is_of name) corrected))) (put xs) (put (xs ++ e ∷ []))
      lead mine =
          let ms = all_at e.key (filter (is_of name) corrected) in
          let before = totals_on form t ++ xs in
          let cs = corrected_on form t ++ corrections_for corrected xs in
          let next = with_totals form t (with_entry before name e.key e.content) cs in
          let its = may e mine in
          let first = total_lead form t name e.key named its before cs e.content
          (amounts e mine) absent in
          let there : is_some (kept_at e.key
          (filter (is_of name) (with_entry before name e.key e.content))) ≡ true =
          ap is_some (kept_own before name e.key e.content
          (absent_kept before name e.key absent)) in
          let free : all_at e.key (filter (is_of name) cs) ≡ [] =
          all_append e.key name (corrected_on form t) (corrections_for corrected xs)
          ∙ ap (λ ys. all_at e.key ys
          ++ all_at e.key (filter (is_of name) (corrections_for corrected xs))) uncorrected
          ∙ none_for corrected xs name e.key (λ d has. absent d
          (has_right (totals_on form t) xs d has)) in
          let second = corrected_lead form t name e.key named its
          (with_entry before name e.key e.content) cs ms (fit e.key) (few e.key) there free in
          let both = leads_append (Enter (entry.Total name (period_on form e.key) e.content) ∷ [])
          (corrections (λ cents. correction.Total name (period_on form e.key) cents) ms)
          (with_totals form t before cs) next
          (with_totals form t (with_entry before name e.key e.content)
          (cs ++ entries_at name e.key ms)) first second in
          record {
            pass = both.pass;
            ends = both.ends ∙ ends_at (sym (own e mine));
          }
        where
          ends_at : name ≡ e.name
              → with_totals form t (with_entry (totals_on form t ++ xs) name e.key e.content)
              ((corrected_on form t ++ corrections_for corrected xs)
              ++ entries_at name e.key (all_at e.key (filter (is_of name) corrected)))
              ≡ put (xs ++ e ∷ [])
          ends_at its =
              ap (λ n. with_totals form t (with_entry (totals_on form t ++ xs) n e.key e.content)
              ((corrected_on form t ++ corrections_for corrected xs)
              ++ entries_at n e.key (all_at e.key (filter (is_of n) corrected)))) its
              ∙ ap (λ ys. with_totals form t ys ((corrected_on form t
              ++ corrections_for corrected xs)
              ++ entries_at e.name e.key (all_at e.key (filter (is_of e.name) corrected))))
              (append_assoc (totals_on form t) xs (e ∷ []))
              ∙ ap (with_totals form t (totals_on form t ++ (xs ++ e ∷ [])))
              (append_assoc (corrected_on form t) (corrections_for corrected xs) _
              ∙ ap (λ ys. corrected_on form t ++ ys) (sym more))
            where
              more : corrections_for corrected (xs ++ e ∷ []) ≡ corrections_for corrected xs
                  ++ entries_at e.name e.key (all_at e.key (filter (is_of e.name) corrected))
              more =
                  flat_map-append (λ (x : Entry Cents). entries_at x.name x.key
                  (all_at x.key (filter (is_of x.name) corrected))) xs (e ∷ [])
                  ∙ ap (λ ys. corrections_for corrected xs ++ ys) (append-nil _)

  pub totals_lead : Leads (flat_map (total_reported (period_on form) corrected) all) t (put all)
  totals_lead =
      subst (λ u. Leads (flat_map (total_reported (period_on form) corrected) all) u (put all))
      (ap (λ xs. with_totals form t xs (corrected_on form t ++ [])) (append-nil (totals_on form t))
      ∙ ap (with_totals form t (totals_on form t)) (append-nil (corrected_on form t))
      ∙ with_own form t)
      (all_lead (total_reported (period_on form) corrected) put all one)
