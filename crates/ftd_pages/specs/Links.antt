-- The links in the cells of a page.
use Rattle.std.specs.Prelude.{ℕ, ◌==◌, ◌&&◌, Bool, List, [], ◌∷◌, ◌++◌, codes, Option, None, Some}
use Rattle.std.specs.Prelude.{length, nat_le, if◌then◌else◌}
use Rattle.std.specs.List.{flat_map}
use Rattle.std.specs.Str.{bytes_eq}
use Rattle.ftd_days.specs.Text.{cents_text, day_text}
use Rattle.ftd_rules.specs.declared.TheConstants.{MOST_CENTS}
use Rattle.ftd_pages.specs.Escapes.{escaped}
use Rattle.ftd_pages.specs.declared.frames.Ways.{Ways}
use Rattle.ftd_pages.specs.declared.frames.Ways.TheVariants as ways
use Rattle.ftd_pages.specs.declared.links.Way.{Way}
use Rattle.ftd_pages.specs.declared.links.Way.TheVariants as way

-- an address as it stands in a page: its parts one after the other, escaped
abbrev pub address_in_page : List (List ℕ) → List ℕ
address_in_page parts = flat_map escaped parts

-- the page of an account, and the page that tells why its obligation is so whose deposit period
-- begins on a day
abbrev pub account_address : List ℕ → List ℕ
account_address account =
    address_in_page (codes "/accounts/" ∷ account ∷ codes "/html" ∷ [])

abbrev pub reason_address : List ℕ → ℕ → List ℕ
reason_address account first =
    address_in_page (codes "/accounts/" ∷ account ∷ codes "/explain/" ∷ day_text first
    ∷ codes "/html" ∷ [])

-- the form of a payment of what is left of that obligation; where nothing is left, or more than one
-- payment may have, there is none
abbrev pub pay_address : List ℕ → ℕ → ℕ → List ℕ
pay_address account first left =
    address_in_page (codes "/forms/pay/" ∷ account ∷ codes "/" ∷ day_text first ∷ codes "/"
    ∷ cents_text left ∷ [])

abbrev pub is_payable : ℕ → Bool
is_payable left = nat_le 1 left && nat_le left MOST_CENTS

abbrev pub pay_if : List ℕ → ℕ → ℕ → Option (List ℕ)
pay_if account first left =
    if is_payable left then Some (pay_address account first left) else None

-- where a way leads
abbrev pub address_of : Way → Option (List ℕ)
address_of way.Nowhere = None
address_of (way.Account account) = Some (account_address account.now)
address_of (way.Obligation account first) = Some (reason_address account.now first)
address_of (way.Payment account first left) = Some (pay_address account.now first left.0)

-- where a field of this name leads in a row whose account alone leads to its page
abbrev pub to_account : List ℕ → List ℕ → Option (List ℕ)
to_account account name =
    if bytes_eq name (codes "account") then Some (account_address account) else None

-- a link: a text that leads to an address
unfoldable pub link : List ℕ → List ℕ → List ℕ
link address text =
    codes "<a href=\"" ++ (address ++ (codes "\">" ++ (escaped text ++ codes "</a>")))

-- a text that leads to an address, or nowhere
abbrev pub linked : Option (List ℕ) → List ℕ → List ℕ
linked None text = escaped text
linked (Some address) text = link address text

-- where a cell leads on a page: on a page without ways, nowhere
abbrev pub led_by : Option (List ℕ) → Ways → Option (List ℕ)
led_by None ways = None
led_by (Some address) ways.Nowhere = None
led_by (Some address) (ways.From today until) = Some address

-- from a page that is of an account: the way to the page of the account, behind a blank
unfoldable pub account_way : List ℕ → List ℕ
account_way account = codes " " ++ link (account_address account) account

abbrev pub account_way_if : List ℕ → List ℕ
account_way_if account = if length account == 0 then [] else account_way account
