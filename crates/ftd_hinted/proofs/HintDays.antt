-- What the words of `calendar` ask, however many days there are.
use Rattle.std.proofs.Common.{◌≡◌, ℕ, true, false, List, [], ◌∷◌, ◌++◌, map, Option, Some, None, Ok}
use Rattle.std.proofs.Common.{refl, sym, ap, ap₂, ◌∙◌, append_assoc, subst}
use Rattle.std.specs.Prelude.{codes}
use Rattle.std.specs.List.{list_all}
use Rattle.std.proofs.lemmas.Bool.{and_parts}
use Rattle.clap.proofs.OnLiterals.{clap_on_literals}
use Rattle.clap.specs.Kinds.{or_else}
use Rattle.clap.specs.Simple.{Shape}
use Rattle.clap.specs.Values.{reading_of}
use Rattle.clap.specs.Walk.{Row, Text, Walk, finished, positional, settled, with_values}
use Rattle.clap.specs.declared.builder.value_parser.ValueParser.TheVariants as parser
use Rattle.clap.specs.declared.parser.matches.ValueSource.TheVariants.{CommandLine}
use Rattle.ftd_cli.specs.Tasks.{command_named}
use Rattle.ftd_days.specs.Spelling.{days_of, whole_number}
use Rattle.ftd_machine.specs.declared.requests.Entry.TheVariants as entry
use Rattle.ftd_machine.specs.declared.requests.Request.TheVariants as request
use Rattle.ftd_verbs.specs.Asked.{calendar}
use Rattle.ftd_verbs.specs.Fields.{Said}
use Rattle.ftd_verbs.specs.declared.field.Field.TheVariants as field
use Rattle.ftd_verbs.specs.declared.rows.Verb.TheVariants as verb
use Rattle.ftd_replies.specs.LineRequests.{is_value}
use Rattle.ftd_hinted.specs.Hinted.{Ask, IsFile, of_desk}
use Rattle.ftd_hinted.proofs.HintTasks.{AsksBy, IsCommand, command_on, on_file, shape, verb_asks}
use Rattle.ftd_hinted.proofs.HintValues.{IsNumberWord}
use Rattle.ftd_hinted.proofs.HintVerbs.{no_fault}
use Rattle.ftd_replies.proofs.Walked.{are_items, end_fault, item_fault, items_fault}
use Rattle.ftd_replies.proofs.Walked.{place, read, read_all, start}

-- the subcommand
abbrev cal : Shape
cal = shape verb.Calendar

calendar_command : IsCommand verb.Calendar
unfolding clap_on_literals command_named
calendar_command = record {
  known = refl;
  found = refl;
  same = refl;
  quiet = λ rest e. ap (λ k. or_else k []) e;
}

-- what it asks by what its fields say
calendar_said : (said : Said) (year : ℕ) (days : List ℕ) → said.whole field.Year ≡ Some year
    → said.days field.Days ≡ Some days
    → calendar said ≡ Ok (request.Enter (entry.Calendar year days))
unfolding calendar
calendar_said said year days e f = rw (e, f) refl

module _ (db year : Text) where
  -- where the walk stands behind the year, and the values that are known there
  abbrev before : Walk
  before = read_all cal.rules start (on_file db (place year ∷ []))

  abbrev base : List Row
  base = (settled cal.rules before.held).rows

  -- with these days as well
  abbrev day_rows : List Text → List Row
  day_rows [] = base
  day_rows (day ∷ days) =
      with_values (codes "DAY") (reading_of parser.String) CommandLine (day ∷ days) base

  -- where the walk stands behind days, of which the last is still to be noted
  abbrev at : List Text → Text → Walk
  at seen last = record {
    held = record {
      rows = day_rows seen;
      pending = Some (codes "DAY", last ∷ []);
      skip = 0;
    };
    waiting = positional;
    position = 2;
    is_trailing = false;
    stopped = None;
  }

  -- the first day, and one more
  first_day : (day : Text) → read cal.rules before (place day) ≡ at [] day
  unfolding clap_on_literals
  first_day day = refl

  next_day : (seen : List Text) (last day : Text)
      → read cal.rules (at seen last) (place day) ≡ at (seen ++ last ∷ []) day
  unfolding clap_on_literals
  next_day [] last day = refl
  next_day (x ∷ seen) last day = refl

  -- a day has no fault
  day_fault : (seen : List Text) (last day : Text) → item_fault cal (at seen last) (place day) ≡ []
  unfolding clap_on_literals
  day_fault [] last day = refl
  day_fault (x ∷ seen) last day = refl

  -- where the walk stands behind all days
  pub record IsRead (seen : List Text) (last : Text) (days : List Text) : Type 0 where
    pub others : List Text
    pub end : Text
    pub stands : read_all cal.rules (at seen last) (map place days) ≡ at others end
    pub all : others ++ end ∷ [] ≡ seen ++ last ∷ days

  -- the walk comes there
  days_read : (seen : List Text) (last : Text) (days : List Text) → IsRead seen last days
  days_read seen last [] = record { others = seen; end = last; stands = refl; all = refl }
  days_read seen last (day ∷ days) =
      let more = days_read (seen ++ last ∷ []) day days in
      record {
        others = more.others;
        end = more.end;
        stands = ap (λ w. read_all cal.rules w (map place days)) (next_day seen last day)
            ∙ more.stands;
        all = more.all ∙ append_assoc seen (last ∷ []) (day ∷ days);
      }

  -- days have no fault, and nothing fails at their end
  days_fault : (seen : List Text) (last : Text) (days : List Text)
      → items_fault cal (at seen last) (map place days) ≡ []
  unfolding items_fault
  days_fault seen last [] = refl
  days_fault seen last (day ∷ days) =
      ap₂ (λ k w. or_else k (items_fault cal w (map place days))) (day_fault seen last day)
      (next_day seen last day)
      ∙ days_fault (seen ++ last ∷ []) day days

  end_none : (seen : List Text) (last : Text) → end_fault cal [] (at seen last).held ≡ []
  unfolding clap_on_literals
  end_none [] last = refl
  end_none (x ∷ seen) last = refl

  -- what the values ask there, and none of them takes the next number
  asks_there : (today : Option ℕ) (seen : List Text) (last : Text) (y : ℕ) (ds : List ℕ)
      → whole_number year ≡ Some y → days_of (seen ++ last ∷ []) ≡ Some ds
      → AsksBy today db verb.Calendar (finished cal.rules (at seen last).held)
      (request.Enter (entry.Calendar y ds))
  unfolding clap_on_literals
  asks_there today [] last y ds e f = record {
    request = calendar_said _ y ds e f;
    fixed = refl;
    file = refl;
    wait = refl;
  }
  asks_there today (x ∷ seen) last y ds e f = record {
    request = calendar_said _ y ds e f;
    fixed = refl;
    file = refl;
    wait = refl;
  }

  -- days are values
  days_items : (days : List Text) → list_all is_value days ≡ true
      → are_items (map place days) ≡ true
  days_items [] e = refl
  days_items (day ∷ days) e =
      let parts = and_parts (is_value day) (list_all is_value days) e in
      rw parts.0 (days_items days parts.1)

  -- the year, and the days
  pub calendar_asks : (days : List Text) (y : ℕ) (ds : List ℕ) → IsFile db → IsNumberWord year y
      → list_all is_value days ≡ true → days_of days ≡ Some ds
      → Ask (command_on verb.Calendar db (place year ∷ map place days))
      (of_desk db (request.Enter (entry.Calendar y ds)))
  unfolding clap_on_literals items_fault
  calendar_asks [] y ds f n v e = λ today.
      verb_asks today db verb.Calendar (place year ∷ []) (request.Enter (entry.Calendar y ds))
      calendar_command (rw (f, n.word_is.value) refl)
      (ap (λ k. or_else (or_else k []) []) (no_fault year n.taken)) refl
      (record {
        request = calendar_said _ y ds n.spells e;
        fixed = refl;
        file = refl;
        wait = refl;
      })
  calendar_asks (day ∷ days) y ds f n v e = λ today.
      let read = days_read [] day days in
      let none = ap₂ (λ k l. or_else (or_else k []) l) (no_fault year n.taken)
      (days_fault [] day days) in
      verb_asks today db verb.Calendar (place year ∷ map place (day ∷ days))
      (request.Enter (entry.Calendar y ds)) calendar_command
      (rw (f, n.word_is.value) (days_items (day ∷ days) v))
      (ap₂ (λ k (w : Walk). end_fault cal k w.held) none read.stands
      ∙ end_none read.others read.end)
      refl
      (subst (λ (w : Walk). AsksBy today db verb.Calendar (finished cal.rules w.held)
      (request.Enter (entry.Calendar y ds))) (sym read.stands)
      (asks_there today read.others read.end y ds n.spells (ap days_of read.all ∙ e)))
