-- The changes of a day among others, as far as a loop has come.
use Rattle.std.proofs.Common.{◌≡◌, ◌∙◌, ap, ℕ, ◌+◌, ◌<◌, true, false, List, [], ◌∷◌, ◌++◌, map}
use Rattle.std.proofs.Common.{take, length, get_or, append-nil}
use Rattle.std.specs.Prelude.{filter}
use Rattle.std.proofs.lemmas.List.{map-append}
use Rattle.std.proofs.lemmas.List.Elements.{filter-append}
use Rattle.ftd_rules.proofs.Members.{filter_in, filter_out}
use Rattle.ftd_store.specs.Holidays.{is_on, says_holiday, words_on}
use Rattle.ftd_store.specs.declared.correction_cells.HolidayChange.{HolidayChange}
use Rattle.ftd_store.proofs.Items.{taken}

module _ (day : ℕ) (changes : List HolidayChange) (i : ℕ) (change : HolidayChange)
    (some : i < length changes) (is : change ≡ get_or changes i change) where
  parted : words_on day (take (i + 1) changes)
      ≡ words_on day (take i changes) ++ words_on day (change ∷ [])
  parted =
      ap (words_on day) (taken changes i change some is)
      ∙ ap (map says_holiday) (filter-append (is_on day) (take i changes) (change ∷ []))
      ∙ map-append says_holiday (filter (is_on day) (take i changes))
      (filter (is_on day) (change ∷ []))

  pub word_more : is_on day change ≡ true
      → words_on day (take (i + 1) changes)
      ≡ words_on day (take i changes) ++ change.is_holiday ∷ []
  word_more on =
      parted ∙ ap (λ cs. words_on day (take i changes) ++ map says_holiday cs)
      (filter_in (is_on day) change [] on)

  pub word_same : is_on day change ≡ false
      → words_on day (take (i + 1) changes) ≡ words_on day (take i changes)
  word_same off =
      parted ∙ ap (λ cs. words_on day (take i changes) ++ map says_holiday cs)
      (filter_out (is_on day) change [] off)
      ∙ append-nil (words_on day (take i changes))
