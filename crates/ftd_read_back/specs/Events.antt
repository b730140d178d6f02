-- What the events of a calendar say.
use Rattle.std.specs.Prelude.{ℕ, ◌==◌, List, [], ◌∷◌, ◌++◌, codes, drop, length, map, Option, Some}
use Rattle.std.specs.Prelude.{None, option_map, if◌then◌else◌}
use Rattle.std.specs.Option.{option_to_list}
use Rattle.std.specs.List.{slice_index_or, starts_with}
use Rattle.std.specs.Str.{bytes_eq}
use Rattle.ftd_rules.specs.declared.Form.{Form}
use Rattle.ftd_rules.specs.declared.Rule.{Rule}
use Rattle.ftd_machine.specs.Agenda.{due_date_of, left_of}
use Rattle.ftd_machine.specs.declared.lists.AgendaRow.{AgendaRow}
use Rattle.ftd_read_back.specs.Cells.{cents_read, form_read, rule_read}
use Rattle.ftd_read_back.specs.Dates.{Date, date_of, date_read, start_mark}

-- ---- the lines of each event

-- of the lines of a calendar from one on: those in front of the next end of an event, if an event
-- ends before another begins, and the lines of each event that begins and ends among them
pub record Behind : Type 0 where
  pub front : Option (List (List ℕ))
  pub events : List (List (List ℕ))

abbrev pub add_line : List ℕ → Behind → Behind
add_line line behind =
    if bytes_eq line (codes "BEGIN:VEVENT")
    then record { front = None; events = option_to_list behind.front ++ behind.events }
    else if bytes_eq line (codes "END:VEVENT")
    then record { front = Some []; events = behind.events }
    else record {
      front = option_map (λ lines. line ∷ lines) behind.front;
      events = behind.events;
    }

abbrev pub behind : List (List ℕ) → Behind
behind [] = record { front = None; events = [] }
behind (line ∷ lines) = add_line line (behind lines)

-- ---- what they say

-- what follows a mark in the first line that begins with it, or nothing
abbrev pub marked : List ℕ → List (List ℕ) → List ℕ
marked mark [] = []
marked mark (line ∷ lines) =
    if starts_with (λ a b. a == b) line mark then drop (length mark) line else marked mark lines

-- the words of a text, with one space between
abbrev pub add_byte : ℕ → List (List ℕ) → List (List ℕ)
add_byte byte [] = (byte ∷ []) ∷ []
add_byte byte (word ∷ words) = (byte ∷ word) ∷ words

abbrev pub words : List ℕ → List (List ℕ)
words [] = [] ∷ []
words (byte ∷ text) = if byte == 32 then [] ∷ words text else add_byte byte (words text)

-- ---- an event: its date, and by its summary the account, its form, the rule, and in cents what is
-- left to pay

pub record EventCells : Type 0 where
  pub date : Option Date
  pub account : List ℕ
  pub form : Option Form
  pub rule : Option Rule
  pub left : Option ℕ

abbrev pub event_read : List (List ℕ) → EventCells
event_read lines =
    let summary = words (marked (codes "SUMMARY:") lines) in
    record {
      date = date_read (marked start_mark lines);
      account = slice_index_or summary 0 [];
      form = form_read (slice_index_or summary 1 []);
      rule = rule_read (slice_index_or summary 2 []);
      left = cents_read (slice_index_or summary 3 []);
    }

abbrev pub event_cells : AgendaRow → EventCells
event_cells x = record {
  date = Some (date_of (due_date_of x));
  account = x.account;
  form = Some x.form;
  rule = Some x.row.obligation.rule;
  left = Some (left_of x.row);
}

-- what the events of these lines say, in their order
abbrev pub events_read : List (List ℕ) → List EventCells
events_read lines = map event_read (behind lines).events
