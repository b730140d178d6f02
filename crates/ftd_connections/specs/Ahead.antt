-- How far the pages look ahead.
use Rattle.std.specs.Prelude.{ℕ}
use Rattle.ftd_verbs.specs.Asked.{days_after}
use Rattle.ftd_connections.specs.declared.ahead.TheConstants.{LOOK_AHEAD}

-- the last day of what the pages lead to from today: 30 days later, or the last day that there is
abbrev pub shown_until : ℕ → ℕ
shown_until today = days_after LOOK_AHEAD today
