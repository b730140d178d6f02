-- What a server answers to commands, as its response says it.
use Rattle.std.specs.Prelude.{◌≡◌, ℕ, List, Option, Some, codes, option_and_then}
use Rattle.std.specs.String.{string_bytes}
use Rattle.httparse.specs.Grammar.{ResponseHead, ReadsResponse, status_code}
use Rattle.serde_json.specs.Data.{Data}
use Rattle.serde_json.specs.Find.{get, as_number, as_str, as_u64}
use Rattle.serde_json.specs.Read.{read}
use Rattle.ftd.specs.declared.client.answer.Answer.{Answer}

-- what stands below the head of a response of status 200
abbrev pub IsBodyOf : List ℕ → List ℕ → Type 0
IsBodyOf response body =
    (head : ResponseHead) × ReadsResponse response head body × (status_code head ≡ 200)

-- the text at a member, and the exit status at its own
abbrev pub text_at : List ℕ → Data → Option (List ℕ)
text_at name value = option_and_then as_str (get name value)

abbrev pub status_at : Data → Option ℕ
status_at value = option_and_then as_u64 (option_and_then as_number (get (codes "status") value))

-- the body is JSON of what commands print, and of their exit status
pub record Says (body : List ℕ) (answer : Answer) : Type 0 where
  pub value : Data
  pub reads : read body ≡ Some value
  pub out : text_at (codes "out") value ≡ Some (string_bytes answer.out)
  pub err : text_at (codes "err") value ≡ Some (string_bytes answer.err)
  pub status : status_at value ≡ Some answer.status

-- so is that of the response
abbrev pub IsAnswered : List ℕ → Answer → Type 0
IsAnswered response answer = (body : List ℕ) × IsBodyOf response body × Says body answer
