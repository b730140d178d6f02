-- Entries of an account are determined by its rows.
use Rattle.std.proofs.Common.{◌≡◌, ◌∙◌, ◌++◌, ℕ, inl, inr, refl, sym, ap, List, [], ◌∷◌, map}
use Rattle.ftd_sql.specs.Standing.{Tables}
use Rattle.ftd_machine.specs.declared.entries.Beginning.{Beginning}
use Rattle.ftd_machine.specs.State.{Entry, Entries, beginning_of}
use Rattle.ftd_machine.specs.History.{year_of_entry}
use Rattle.ftd_machine.proofs.SameMembers.{same_entry}
use Rattle.ftd_entries.specs.Standing.{quarter_entry, year_entry, run_entry, payment_entry}
use Rattle.ftd_entries.specs.Standing.{with_earlier, correction_entry, year_correction_entry}
use Rattle.ftd_entries.specs.Standing.{account_correction_entry}
use Rattle.ftd_check.specs.Parts.{HasEntered, AreNamed, move_to}
use Rattle.ftd_check.proofs.Rows.{one_quarter, one_year_total, one_run, one_payment}
use Rattle.ftd_check.proofs.Rows.{one_correction, one_year_correction, one_move}
use Rattle.ftd_check.proofs.Whole.{entries_same}

-- a list is determined by what is made of each of it
pub mapped_once : {X Y : Type 0} (f : X → Y) → ((a b : X) → f a ≡ f b → a ≡ b) → (xs ys : List X)
    → map f xs ≡ map f ys → xs ≡ ys
mapped_once f once [] [] same = refl
mapped_once f once [] (y ∷ ys) same = absurd cc
mapped_once f once (x ∷ xs) [] same = absurd cc
mapped_once {X = X} f once (x ∷ xs) (y ∷ ys) same =
    let head : f x ≡ f y = cc in
    let tail : map f xs ≡ map f ys = cc in
    ap (λ (z : X). z ∷ xs) (once x y head)
    ∙ ap (λ (zs : List X). y ∷ zs) (mapped_once f once xs ys tail)

-- so by rows that count those before them
counted_once : {X R : Type 0} (row : List X × X → R)
    → ((before earlier : List X) (d e : X) → row (before, d) ≡ row (earlier, e) → d ≡ e)
    → (before earlier xs ys : List X)
    → map row (with_earlier before xs) ≡ map row (with_earlier earlier ys) → xs ≡ ys
counted_once row one before earlier [] [] same = refl
counted_once row one before earlier [] (y ∷ ys) same = absurd cc
counted_once row one before earlier (x ∷ xs) [] same = absurd cc
counted_once {X = X} row one before earlier (x ∷ xs) (y ∷ ys) same =
    let head : row (before, x) ≡ row (earlier, y) = cc in
    let tail : map row (with_earlier (before ++ x ∷ []) xs)
    ≡ map row (with_earlier (earlier ++ y ∷ []) ys) = cc in
    ap (λ (z : X). z ∷ xs) (one before earlier x y head)
    ∙ ap (λ (zs : List X). y ∷ zs)
    (counted_once row one (before ++ x ∷ []) (earlier ++ y ∷ []) xs ys tail)

-- open years by their names and their years
years_once : (name : List ℕ) (xs ys : List (Entry (Unit {0}))) → AreNamed name xs → AreNamed name ys
    → map year_of_entry xs ≡ map year_of_entry ys → xs ≡ ys
years_once name [] [] a b same = refl
years_once name [] (y ∷ ys) a b same = absurd cc
years_once name (x ∷ xs) [] a b same = absurd cc
years_once name (x ∷ xs) (y ∷ ys) a b same =
    let head : x.key ≡ y.key = cc in
    let tail : map year_of_entry xs ≡ map year_of_entry ys = cc in
    ap (λ (z : Entry (Unit {0})). z ∷ xs)
    (same_entry x y (a x (inl refl) ∙ sym (b y (inl refl))) head refl)
    ∙ ap (λ (zs : List (Entry (Unit {0}))). y ∷ zs)
    (years_once name xs ys (λ e has. a e (inr has)) (λ e has. b e (inr has)) tail)

pub moves_once : (name : List ℕ) (a b : List Beginning)
    → map account_correction_entry (with_earlier [] (map (move_to name) a))
    ≡ map account_correction_entry (with_earlier [] (map (move_to name) b)) → a ≡ b
moves_once name a b same =
    mapped_once (move_to name) (λ m n is. ap beginning_of is) a b
    (counted_once account_correction_entry one_move [] [] (map (move_to name) a)
    (map (move_to name) b) same)

pub same_own : (t : Tables) (name : List ℕ) (a b : Entries) → HasEntered t name a
    → HasEntered t name b → a.enrolled ≡ b.enrolled → a.account ≡ b.account
    → map year_of_entry a.open_years ≡ map year_of_entry b.open_years → a ≡ b
same_own t name a b x y enrolled account years =
    entries_same a b enrolled (moves_once name a.moves b.moves (sym x.moves ∙ y.moves)) account
    (mapped_once quarter_entry (λ d e is. one_quarter [] [] d e is) a.reported b.reported
    (sym x.reported ∙ y.reported))
    (mapped_once year_entry (λ d e is. one_year_total [] [] d e is) a.reported_years
    b.reported_years (sym x.reported_years ∙ y.reported_years))
    (years_once name a.open_years b.open_years x.named.open_years y.named.open_years years)
    (mapped_once run_entry (λ d e is. one_run [] [] d e is) a.runs b.runs (sym x.runs ∙ y.runs))
    (mapped_once payment_entry (λ d e is. one_payment [] [] d e is) a.payments b.payments
    (sym x.payments ∙ y.payments))
    (counted_once correction_entry one_correction [] [] a.corrected b.corrected
    (sym x.corrected ∙ y.corrected))
    (counted_once year_correction_entry one_year_correction [] [] a.corrected_years
    b.corrected_years (sym x.corrected_years ∙ y.corrected_years))
