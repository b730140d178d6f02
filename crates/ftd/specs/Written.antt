-- What a shell wrote, as a response.
use Rattle.std.specs.Prelude.{◌&&◌, ℕ, List, codes, if◌then◌else◌}
use Rattle.std.specs.Str.{is_utf8}
use Rattle.serde_json.specs.Data.{Data, member, no_members, number, object, string, unsigned}
use Rattle.serde_json.specs.Written.{compact_text}
use Rattle.ftd_http.specs.declared.status.Status.TheVariants as status
use Rattle.ftd_connections.specs.Responses.{Said, bare, json}

-- what stands on standard output and standard error, and the exit status, as JSON
abbrev pub written_data : List ℕ → List ℕ → ℕ → Data
written_data out err exit =
    object (member (codes "err") (string err) (member (codes "out") (string out)
    (member (codes "status") (number (unsigned exit)) no_members)))

unfoldable pub written_text : List ℕ → List ℕ → ℕ → List ℕ
written_text out err exit = compact_text (written_data out err exit)

-- JSON holds texts alone: of bytes that are none there is a response without a body
abbrev pub written_response : List ℕ → List ℕ → ℕ → Said
written_response out err exit =
    if is_utf8 out && is_utf8 err then json status.Okay (written_text out err exit)
    else bare status.InternalServerError
