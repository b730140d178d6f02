-- The response to who asks for the first page.
use Rattle.std.specs.Prelude.{ℕ, Option, Some, None}
use Rattle.ftd_http.specs.declared.status.Status.TheVariants as status
use Rattle.ftd_connections.specs.Ahead.{shown_until}
use Rattle.ftd_connections.specs.declared.home.TheConstants.{NO_CLOCK}
use Rattle.ftd_connections.specs.Responses.{Said, see_owed, text}

-- the response to who asks for the first page: it leads to what is owed as of today; or today is
-- not known, and the response says so
abbrev pub home : Option ℕ → Said
home None = text status.InternalServerError NO_CLOCK.now
home (Some today) = see_owed (record { as_of = today; until = shown_until today })
