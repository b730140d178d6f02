-- What is known for a form, and its texts.
use Rattle.std.specs.Prelude.{◌≡◌}
use Rattle.std.specs.String.{string_bytes}
use Rattle.ftd_forms.specs.Given as given
use Rattle.ftd_forms.specs.Given.{amount_shown, day_shown, first_of, left_of, number_shown}
use Rattle.ftd_forms.specs.declared.given.Known.{Known}
use Rattle.ftd_forms.specs.declared.given.Texts.{Texts}

abbrev pub known_of : Known → given.Known
known_of known = record {
  account = known.account.now;
  number = known.number;
  today = known.today;
  payable = known.payable;
}

-- the texts are those of what is known
pub record AreTextsOf (known : given.Known) (texts : Texts) : Type 0 where
  pub number : string_bytes texts.number ≡ number_shown known.number
  pub today : string_bytes texts.today ≡ day_shown known.today
  pub first : string_bytes texts.first ≡ day_shown (first_of known.payable)
  pub left : string_bytes texts.left ≡ amount_shown (left_of known.payable)
