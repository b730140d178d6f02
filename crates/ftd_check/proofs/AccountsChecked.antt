-- What is found of all accounts, one after the other.
use Rattle.std.proofs.Common.{◌≡◌, ◌∙◌, ◌≤◌, ◌++◌, ℕ, refl, sym, ap, subst}
use Rattle.std.proofs.Common.{true, List, [], ◌∷◌, map, arith, append-nil, append_assoc, Some, None}
use Rattle.std.proofs.Common.{Global, Ok}
use Rattle.std.specs.Prelude.{nat_le}
use Rattle.std.specs.List.{All}
use Rattle.std.proofs.lemmas.Bool.{leb-true}
use Rattle.std.proofs.lemmas.Int.{ints}
use Rattle.std.proofs.lemmas.List.{map-append}
use Rattle.std.proofs.lemmas.List.Elements.{All-map}
use Rattle.ftd_days.specs.Calendar.{year_of, last_day}
use Rattle.ftd_days.specs.Holidays.{AreFew}
use Rattle.ftd_days.specs.declared.limits.TheConstants.{LAST_OPEN_YEAR}
use Rattle.ftd_days.proofs.Months.{day_in_years}
use Rattle.ftd_rules.specs.Accounts.{is_account_name}
use Rattle.ftd_rules.specs.Lists.{Has}
use Rattle.ftd_rules.proofs.Members.{has_mapped, mapped_has}
use Rattle.ftd_rules.proofs.Rising.{all_has}
use Rattle.ftd_sql.specs.Answers.{enrolled_shown}
use Rattle.ftd_sql.specs.Rows.{AccountRow}
use Rattle.ftd_sql.specs.Standing.{Tables}
use Rattle.ftd_sql.specs.declared.TableName.TheVariants.{Accounts}
use Rattle.ftd_store.specs.Added.{named_account_row, AccountsByRow}
use Rattle.ftd_store.specs.Cells.{day_number}
use Rattle.ftd_store.specs.KeptRows.{IsNamedAccountCells}
use Rattle.ftd_store.specs.declared.kept_cells.NamedAccount.{NamedAccount}
use Rattle.ftd_machine.proofs.Found.{has_here}
use Rattle.ftd_machine.specs.State.{Enrolled}
use Rattle.ftd_machine.specs.Sound.{AreDistinct, name_of}
use Rattle.ftd_entries.specs.Standing.{enrolled_row}
use Rattle.ftd_check.specs.Accounts.{AreAllSound, AreEnrolled, AreNames, ChecksAccount}
use Rattle.ftd_check.specs.Accounts.{ChecksAccounts, HasBadList, HasUnsound, ShowsBad, name_read}
use Rattle.ftd_check.specs.Sizes.{AreSizesTogether, sizes_together}
use Rattle.ftd_check.specs.Whole.{SoundAccount, account_in, name_in}
use Rattle.ftd_check.specs.declared.soundness.Part.{Part}
use Rattle.ftd_check.specs.declared.soundness.Part.TheVariants as part
use Rattle.ftd_check.specs.declared.sizes.Sizes.{Sizes}
use Rattle.ftd_check.proofs.NameText.{name_is_text}
use Rattle.ftd_check.proofs.SizesTogether.{together_none, together_more}

-- ---- lists of distinct keys, by their keys alone

keys_apart : {X K : Type 0} (key : X → K) (xs : List X) → AreDistinct key xs
    → AreDistinct (λ (k : K). k) (map key xs)
keys_apart key [] once = tt
keys_apart key (x ∷ xs) once = (
  (λ later has same.
      let from = has_mapped key xs later has in
      once.0 from.0 from.1 (sym from.2 ∙ same)),
  keys_apart key xs once.1,
)

apart_keys : {X K : Type 0} (key : X → K) (xs : List X) → AreDistinct (λ (k : K). k) (map key xs)
    → AreDistinct key xs
apart_keys key [] once = tt
apart_keys key (x ∷ xs) once = (
  (λ later has same. once.0 (key later) (mapped_has key xs later has) same),
  apart_keys key xs once.1,
)

pub apart_too : {X Y K : Type 0} (f : X → K) (g : Y → K) (xs : List X) (ys : List Y)
    → map f xs ≡ map g ys → AreDistinct f xs → AreDistinct g ys
apart_too {K = K} f g xs ys same once =
    apart_keys g ys (subst (λ (ks : List K). AreDistinct (λ (k : K). k) ks) same
    (keys_apart f xs once))

-- ---- rows of accounts by their names

abbrev row_name : AccountRow → List ℕ
row_name r = r.name

names_in : {X : Type 0} (name : X → List ℕ) (row : X → AccountRow)
    → ((x : X) → row_name (row x) ≡ name x) → (xs : List X)
    → map row_name (map row xs) ≡ map name xs
names_in name row each [] = refl
names_in name row each (x ∷ xs) =
    ap (λ (n : List ℕ). n ∷ map row_name (map row xs)) (each x)
    ∙ ap (λ (ns : List (List ℕ)). name x ∷ ns) (names_in name row each xs)

module _ (t : Tables) (given holidays : List ℕ) where
  abbrev Kept : Type 0
  Kept = SoundAccount t given holidays

  abbrev row_in : Kept → AccountRow
  row_in p = enrolled_row (account_in p)

  rows_in : (ps : List Kept) → map enrolled_row (map account_in ps) ≡ map row_in ps
  rows_in [] = refl
  rows_in (p ∷ ps) = ap (λ (rs : List AccountRow). row_in p ∷ rs) (rows_in ps)

  names_of : (ps : List Kept) → map name_in ps ≡ map name_of (map account_in ps)
  names_of [] = refl
  names_of (p ∷ ps) = ap (λ (ns : List (List ℕ)). name_in p ∷ ns) (names_of ps)

  -- the names that were read are those of the accounts
  same_names : (accounts : List NamedAccount) (ps : List Kept)
      → map named_account_row accounts ≡ map enrolled_row (map account_in ps)
      → map name_read accounts ≡ map name_in ps
  same_names accounts ps same =
      sym (names_in name_read named_account_row (λ a. refl) accounts)
      ∙ ap (map row_name) (same ∙ rows_in ps)
      ∙ names_in name_in row_in (λ p. refl) ps

  -- ---- where there is none

  -- an account of a list can be read
  readable : (e : Enrolled) → is_account_name e.name ≡ true
      → nat_le (year_of e.account.start) LAST_OPEN_YEAR ≡ true
      → IsNamedAccountCells (enrolled_shown (enrolled_row e))
  readable e named early =
      let year = leb-true (year_of e.account.start) 2098 early in
      let within : e.account.start ≤ last_day = day_in_years e.account.start (omega arith) in (
        refl,
        (e.name, refl, name_is_text e.name named),
        (day_number e.account.start, refl, (omega (arith, ints), omega (arith, ints))),
        (e.account.carried, refl),
      )

  all_readable : (es : List Enrolled) → AreEnrolled es
      → All IsNamedAccountCells (map enrolled_shown (map enrolled_row es))
  all_readable es are =
      All-map IsNamedAccountCells enrolled_shown (map enrolled_row es)
      (All-map (λ (r : AccountRow). IsNamedAccountCells (enrolled_shown r)) enrolled_row es
      (all_has (λ (e : Enrolled). IsNamedAccountCells (enrolled_shown (enrolled_row e))) es
      (λ e has. readable e (are.names e has) (are.early e has))))

  pub none_read : AccountsByRow {A = Global} None t → HasBadList t
  none_read unreadable es same are =
      unreadable (subst (λ (rs : List AccountRow). All IsNamedAccountCells (map enrolled_shown rs))
      (sym same) (all_readable es are))

  pub no_such_names : (accounts : List NamedAccount) → map named_account_row accounts ≡ t Accounts
      → (AreNames accounts → ⊥) → HasBadList t
  no_such_names accounts listed not es same are =
      let names : map name_read accounts ≡ map name_of es =
      sym (names_in name_read named_account_row (λ a. refl) accounts)
      ∙ ap (map row_name) (listed ∙ same)
      ∙ names_in name_of enrolled_row (λ e. refl) es in
      not (record {
        each = λ a has.
            let named : Has (map name_of es) (name_read a) = subst
            (λ (ns : List (List ℕ)). Has ns (name_read a)) names
            (mapped_has name_read accounts a has) in
            let e = has_mapped name_of es (name_read a) named in
            subst (λ (n : List ℕ). is_account_name n ≡ true) (sym e.2) (are.names e.0 e.1);
        once = apart_too name_of name_read es accounts (sym names) are.once;
      })

  -- sound accounts are a list of accounts
  sound_list : (ps : List Kept) → AreAllSound t given holidays ps → AreEnrolled (map account_in ps)
  sound_list ps are = record {
    names = λ e has.
        let p = has_mapped account_in ps e has in
        subst (λ (x : Enrolled). is_account_name x.name ≡ true) (sym p.2) p.0.1.name;
    once = apart_too name_in name_of ps (map account_in ps) (names_of ps) are.once;
    early = λ e has.
        let p = has_mapped account_in ps e has in
        subst (λ (x : Enrolled). nat_le (year_of x.account.start) LAST_OPEN_YEAR ≡ true) (sym p.2)
        (p.0.1.sound.starts.enrolled p.0.0.account p.0.1.enrolled);
  }

  -- the part shows that not all are sound
  pub not_all_sound : (p : Part) → ShowsBad given holidays p t → AreFew holidays → (ps : List Kept)
      → AreAllSound t given holidays ps → ⊥
  not_all_sound part.Holidays bad few ps are = bad
  not_all_sound part.Accounts bad few ps are =
      bad (map account_in ps) are.rows (sound_list ps are)
  not_all_sound (part.Account name) bad few ps are =
      let has : Has (map row_in ps) bad.row = subst (λ (rs : List AccountRow). Has rs bad.row)
      (are.rows ∙ rows_in ps) bad.listed in
      let p = has_mapped row_in ps bad.row has in
      bad.unsound p.0.0 (sym p.2) few p.0.1
  not_all_sound part.Rows bad few ps are = bad

  -- ---- one after the other

  -- the accounts up to those that are left are sound, and have so many rows
  pub record SoFar (accounts left : List NamedAccount) (sizes : Sizes) : Type 0 where
    pub listed : map named_account_row accounts ≡ t Accounts
    pub sound : List Kept
    pub rows : t Accounts ≡ map row_in sound ++ map named_account_row left
    pub sizes_are : AreSizesTogether t (map name_in sound) sizes

  pub none_so_far : (accounts : List NamedAccount) → map named_account_row accounts ≡ t Accounts
      → SoFar accounts accounts (record {
        forms = 0;
        account_corrections = 0;
        reported = 0;
        reported_years = 0;
        corrections = 0;
        year_corrections = 0;
        years = 0;
        runs = 0;
        payments = 0;
        obligations = 0;
      })
  none_so_far accounts listed = record {
    listed = listed;
    sound = [];
    rows = sym listed;
    sizes_are = together_none t;
  }

  module _ (accounts left : List NamedAccount) (sizes : Sizes) (so_far : SoFar accounts left sizes)
    where
      abbrev before : List AccountRow
      before = map row_in so_far.sound

      module _ (a : NamedAccount) (later : List NamedAccount) (is : left ≡ a ∷ later) where
        rows_left : t Accounts ≡ before ++ named_account_row a ∷ map named_account_row later
        rows_left =
            so_far.rows
            ∙ ap (λ (ls : List NamedAccount). before ++ map named_account_row ls) is

        -- one that is not sound
        pub one_unsound : ChecksAccount a given holidays None t
            → HasUnsound t given holidays (name_read a)
        one_unsound bad = record {
          row = named_account_row a;
          listed = subst (λ (rs : List AccountRow). Has rs (named_account_row a)) (sym rows_left)
              (has_here before (named_account_row a) (map named_account_row later));
          named = refl;
          unsound = bad;
        }

        -- one more that is
        pub one_more_sound : (more : Sizes) → ChecksAccount a given holidays (Some more) t
            → is_account_name (name_read a) ≡ true
            → SoFar accounts later (sizes_together sizes more)
        one_more_sound more right named =
            let found = right named in
            let p = found.0 in
            let row = found.1 in
            let name : name_in p ≡ name_read a = ap row_name row in
            record {
              listed = so_far.listed;
              sound = so_far.sound ++ p ∷ [];
              rows = rows_left
                  ∙ ap (λ (r : AccountRow). before ++ r ∷ map named_account_row later) (sym row)
                  ∙ sym (append_assoc before (row_in p ∷ []) (map named_account_row later))
                  ∙ ap (λ (rs : List AccountRow). rs ++ map named_account_row later)
                  (sym (map-append row_in so_far.sound (p ∷ [])));
              sizes_are = subst (λ (ns : List (List ℕ)). AreSizesTogether t ns
                  (sizes_together sizes more))
                  (ap (λ (n : List ℕ). map name_in so_far.sound ++ n ∷ []) (sym name)
                  ∙ sym (map-append name_in so_far.sound (p ∷ [])))
                  (together_more t (map name_in so_far.sound) (name_read a) sizes more
                  so_far.sizes_are found.2);
            }

      pub all_so_far : left ≡ [] → AreNames accounts → ChecksAccounts given holidays (Ok sizes) t
      all_so_far none names =
          let rows : t Accounts ≡ map enrolled_row (map account_in so_far.sound) =
          so_far.rows ∙ ap (λ (ls : List NamedAccount). before ++ map named_account_row ls) none
          ∙ append-nil before ∙ sym (rows_in so_far.sound) in (
            so_far.sound,
            record {
              rows = rows;
              once = apart_too name_read name_in accounts so_far.sound
                  (same_names accounts so_far.sound (so_far.listed ∙ rows)) names.once;
            },
            so_far.sizes_are,
          )
