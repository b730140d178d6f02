-- A repair between two windows, over the tables.
use Rattle.std.proofs.Common.{◌≡◌, ℕ, List, ◌∷◌, ◌++◌, append_assoc, inl, sym, ap, ◌∙◌, subst}
use Rattle.ftd_rules.specs.declared.DaySum.{DaySum}
use Rattle.ftd_rules.specs.declared.Form.{Form}
use Rattle.ftd_rules.specs.declared.YearLine.{YearLine}
use Rattle.ftd_rules.specs.Lists.{Has}
use Rattle.ftd_buckets.specs.declared.Window.{Window}
use Rattle.ftd_buckets.specs.declared.Patch.{Patch}
use Rattle.ftd_buckets.specs.declared.state.Next.{Next}
use Rattle.ftd_buckets.specs.declared.state.Next.TheVariants.{Done, Need}
use Rattle.ftd_buckets.specs.Histories.{History, IsChange, AreLast}
use Rattle.ftd_buckets.specs.Windows.{IsNeeded, IsPeriodOf, IsNext, IsLastNeeded}
use Rattle.ftd_buckets.specs.Patches.{AreSumsOf, IsPatch}
use Rattle.ftd_buckets.specs.Ready.{Repairing}
use Rattle.ftd_buckets.specs.Standing.{Stands, IfNeed, IfDone}
use Rattle.ftd_sql.specs.Standing.{Tables}
use Rattle.ftd_repairs.specs.Repaired.{IsRightWhere, AreLiveIn, AreWithin, RunsAre, Repairs}
use Rattle.ftd_repairs.specs.Repaired.{SumsAre}
use Rattle.ftd_store.proofs.Items.{has_middle}

-- the repair stands to every pair of histories of which the runs are told so, and the window that
-- it asks for is needed
abbrev pub ServesWhere : (History → History → Type 0) → Form → ℕ → List YearLine → List ℕ
    → Repairing → Window → Type 0
ServesWhere AreTold form day lines holidays repair w = (before after : History)
    → IsChange day before after → AreLast before lines → AreTold before after
    → Stands form day holidays before after repair × IsNeeded form day before after w

-- so where the live runs are those of the tables
abbrev pub Serves : List ℕ → Form → ℕ → List YearLine → List ℕ → Repairing → Window → Tables
    → Type 0
Serves account form day lines holidays repair w t = ServesWhere (RunsAre account form t day) form
    day lines holidays repair w

-- the first window is needed
pub first_needed : (form : Form) (day : ℕ) (before after : History) (lines later : List YearLine)
    (line : YearLine) (w : Window) → AreLast before lines → lines ≡ line ∷ later
    → IsPeriodOf form line day w → IsNeeded form day before after w
first_needed form day before after lines later line w last is period =
    let all = last.1 ∙ ap (λ (ls : List YearLine). last.0 ++ ls) is in
    inl (
      line,
      subst (λ (ls : List YearLine). Has ls line) (sym all) (has_middle last.0 line later),
      period,
    )

-- ---- what a repair answers to the sums of a window

abbrev pub Needs : Form → Repairing → List DaySum → Repairing → Window → Type 0
Needs form r sums repair window = (day : ℕ) (holidays : List ℕ) (before after : History)
    → Stands form day holidays before after r → AreSumsOf after r.asked sums
    → Stands form day holidays before after repair × IsNext form day before after r.asked window

abbrev pub Ends : Form → Repairing → List DaySum → Patch → Type 0
Ends form r sums patch = (day : ℕ) (holidays : List ℕ) (before after : History)
    → Stands form day holidays before after r → AreSumsOf after r.asked sums
    → IsPatch form day before after holidays r.asked patch × IsLastNeeded form day before after
    r.asked

pub needs : (P : Repairing → Window → Type 0) (n : Next) (repair : Repairing) (w : Window)
    → n ≡ Need repair w → IfNeed n P → P repair w
needs P n repair w is h = subst (λ (m : Next). IfNeed m P) is h

pub ends : (P : Patch → Type 0) (n : Next) (patch : Patch) → n ≡ Done patch → IfDone n P → P patch
ends P n patch is h = subst (λ (m : Next). IfDone m P) is h

-- ---- one window more, and the last one

-- the sums are told to be those after the change where the window is needed
abbrev pub Tells : (History → History → Type 0) → Form → ℕ → Window → List DaySum → Type 0
Tells AreTold form day w sums = (before after : History) → AreTold before after
    → IsNeeded form day before after w → AreSumsOf after w sums

module _ (AreTold : History → History → Type 0) (form : Form) (day : ℕ) (lines : List YearLine)
    (holidays : List ℕ) (r : Repairing) (w : Window) (sums : List DaySum)
    (tells : Tells AreTold form day w sums) (is : r.asked ≡ w)
    (h : ServesWhere AreTold form day lines holidays r w) where
  pub more_where : (repair : Repairing) (next : Window) → Needs form r sums repair next
      → ServesWhere AreTold form day lines holidays repair next
  more_where repair next need before after change last told =
      let at = h before after change last told in
      let more = need day holidays before after at.0 (subst (λ (v : Window). AreSumsOf after v sums)
      (sym is) (tells before after told at.1)) in
      (more.0, more.1.needed)

  pub last_where : (patch : Patch) → Ends form r sums patch
      → IsRightWhere AreTold form day lines holidays patch
  last_where patch done before after change last told =
      let at = h before after change last told in
      let right = done day holidays before after at.0
      (subst (λ (v : Window). AreSumsOf after v sums) (sym is) (tells before after told at.1)) in
      (r.asked, right.0, right.1)

-- the sums that were read are told so
told_live : (account : List ℕ) (form : Form) (day : ℕ) (w : Window) (sums : List DaySum)
    (t : Tables) → AreLiveIn account t w sums → Tells (RunsAre account form t day) form day w sums
told_live account form day w sums t read before after runs needed = runs w needed sums read

pub serves_more : (account : List ℕ) (form : Form) (day : ℕ) (lines : List YearLine)
    (holidays : List ℕ) (r repair : Repairing) (w next : Window) (sums : List DaySum) (t : Tables)
    → r.asked ≡ w → Needs form r sums repair next → Serves account form day lines holidays r w t
    → AreLiveIn account t w sums → Serves account form day lines holidays repair next t
serves_more account form day lines holidays r repair w next sums t is need h read =
    more_where (RunsAre account form t day) form day lines holidays r w sums
    (told_live account form day w sums t read) is h repair next need

pub serves_last : (account : List ℕ) (form : Form) (day : ℕ) (lines : List YearLine)
    (holidays : List ℕ) (r : Repairing) (w : Window) (sums : List DaySum) (patch : Patch)
    (t : Tables)
    → r.asked ≡ w → Ends form r sums patch → Serves account form day lines holidays r w t
    → AreLiveIn account t w sums → Repairs account form day lines holidays patch t
serves_last account form day lines holidays r w sums patch t is done h read =
    last_where (RunsAre account form t day) form day lines holidays r w sums
    (told_live account form day w sums t read) is h patch done

-- of sums that are told to be those after the change, those of the window are told so
pub told_within : (form : Form) (day : ℕ) (w : Window) (all sums : List DaySum)
    → AreWithin w all sums → Tells (SumsAre form day all) form day w sums
told_within form day w all sums within before after told needed a b low high =
    told w needed a b low high ∙ within a b low high

-- a patch that is right by the last of the lines is so by all
pub right_by_all : (AreTold : History → History → Type 0) (form : Form) (day : ℕ)
    (lines earlier rest : List YearLine) (holidays : List ℕ) (patch : Patch)
    → lines ≡ earlier ++ rest
    → IsRightWhere AreTold form day rest holidays patch
    → IsRightWhere AreTold form day lines holidays patch
right_by_all AreTold form day lines earlier rest holidays patch cut h before after change last
    told =
    h before after change (
      last.0 ++ earlier,
      last.1
          ∙ (ap (λ (ls : List YearLine). last.0 ++ ls) cut
          ∙ sym (append_assoc last.0 earlier rest)),
    ) told

pub repairs_all : (account : List ℕ) (form : Form) (day : ℕ) (lines earlier rest : List YearLine)
    (holidays : List ℕ) (patch : Patch) (t : Tables) → lines ≡ earlier ++ rest
    → Repairs account form day rest holidays patch t → Repairs account form day lines holidays patch
    t
repairs_all account form day lines earlier rest holidays patch t =
    right_by_all (RunsAre account form t day) form day lines earlier rest holidays patch
