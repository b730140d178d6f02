-- The page of an account: several answers, one after the other.
use Rattle.std.specs.Prelude.{ℕ, Bool, false, true, List, [], ◌∷◌, ◌++◌, Err, Ok, codes}
use Rattle.std.specs.Prelude.{if◌then◌else◌}
use Rattle.std.specs.List.{flat_map, list_any}
use Rattle.ftd_rules.specs.declared.Form.{Form}
use Rattle.ftd_rules.specs.declared.Form.TheVariants.{F941, F943}
use Rattle.ftd_machine.specs.Checks.{Answer}
use Rattle.ftd_machine.specs.declared.facts.Facts.{Facts}
use Rattle.ftd_machine.specs.declared.facts.Facts.TheVariants.{Days}
use Rattle.ftd_machine.specs.declared.replies.Refusal.TheVariants.{WrongForm}
use Rattle.ftd_machine.specs.declared.replies.Reply.TheVariants.{Told}
use Rattle.ftd_pages.specs.Facts.{facts_at}
use Rattle.ftd_pages.specs.Pages.{page_of, titled}
use Rattle.ftd_pages.specs.Sections.{page_heading}
use Rattle.ftd_pages.specs.declared.frames.Frame.{Frame}
use Rattle.ftd_pages.specs.declared.frames.Place.TheVariants.{Section}
use Rattle.ftd_pages.specs.declared.frames.Ways.{Ways}
use Rattle.ftd_site.specs.Accounts.{account_ways}
use Rattle.ftd_site.specs.YearWays.{ways_below}

-- the answer says that the question is not one for the account's form
abbrev pub is_wrong_form : Answer → Bool
is_wrong_form (Err WrongForm) = true
is_wrong_form other = false

-- the form that the account files, as the answers show: one that files Form 943 has no Schedule B
abbrev pub form_shown : List Answer → Form
form_shown answers = if list_any is_wrong_form answers then F943 else F941

-- a section of what is told, and the links below it
abbrev pub section_of : Ways → Facts → List ℕ
section_of ways facts = facts_at (Section ways) facts ++ ways_below ways facts

-- a section for an answer that tells something, but for the liability by day, which the page links;
-- and none for any other
abbrev pub section_of_answer : Ways → Answer → List ℕ
section_of_answer ways (Ok (Told (Days list))) = []
section_of_answer ways (Ok (Told facts)) = section_of ways facts
section_of_answer ways other = []

-- a heading, the links to the lists and the forms of the account, and a section for each answer
unfoldable pub answers_of : Ways → List ℕ → List ℕ → List Answer → List ℕ
answers_of ways account title answers =
    page_heading title
    ++ (account_ways ways account (form_shown answers) ++ flat_map (section_of_answer ways) answers)

-- the page of an account
abbrev pub account_page : Frame → List ℕ → List Answer → List ℕ
account_page frame account answers =
    let title = titled (codes "Account " ∷ account ∷ []) in
    page_of frame [] title (answers_of frame.ways account title answers)
