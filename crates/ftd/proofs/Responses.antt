-- Responses, case by case.
use Rattle.std.proofs.Common.{◌≡◌, ◌⊎◌, ◌∙◌, ℕ, Bool, List, Option, None, Result, Ok, Err, false}
use Rattle.std.proofs.Common.{true, inl, inr, refl, subst}
use Rattle.std.proofs.lemmas.Bool.{cases_Bool, true≢false}
use Rattle.std.proofs.lemmas.Str.{IsUtf8-from_is_utf8, is_utf8-from_IsUtf8}
use Rattle.std.specs.Prelude.{IfOk, OnErr, if◌then◌else◌}
use Rattle.std.specs.Str.{IsUtf8, is_utf8}
use Rattle.sqlite.specs.Store as store
use Rattle.ftd_desk.specs.declared.desk.Desk.{Desk}
use Rattle.ftd_machine.specs.Checks.{Answer}
use Rattle.ftd_machine.specs.declared.replies.Reply.TheVariants as reply
use Rattle.ftd_machine.specs.declared.requests.Request.{Request}
use Rattle.ftd_verbs.specs.declared.formats.AnswerFormat.{AnswerFormat}
use Rattle.ftd_verbs.specs.declared.formats.AnswerFormat.TheVariants.{Plain, Page}
use Rattle.ftd_http.specs.Asking.{is_for_page, is_page}
use Rattle.ftd_http.specs.declared.ask.Inquiry.{Inquiry}
use Rattle.ftd_http.specs.declared.ask.Payable.{Payable}
use Rattle.ftd_verbs.specs.declared.rows.Verb.{Verb}
use Rattle.ftd_http.specs.declared.ask.Inquiry.TheVariants as asked
use Rattle.ftd_http.specs.declared.status.Status.TheVariants as status
use Rattle.ftd_server.specs.Replying.{Responds, account_in, answered}
use Rattle.ftd_connections.specs.Responses.{Said, bare, json}
use Rattle.ftd_server.specs.Tables.{handles}
use Rattle.ftd.specs.Commands.{RespondsOver}
use Rattle.ftd.specs.Written.{written_response, written_text}

-- what follows from the value of an Ok, and from an Err
pub if_ok : {T E : Type 0} {P Q : T → Type 0} (result : Result T E) → ((x : T) → P x → Q x)
    → IfOk result P → IfOk result Q
if_ok (Ok x) to fact = to x fact
if_ok (Err e) to fact = fact

pub on_err : {T E P Q : Type 0} (result : Result T E) → (P → Q) → OnErr result P
    → OnErr result Q
on_err (Ok x) to fact = fact
on_err (Err e) to fact = to fact

-- what holds in any case holds at an Err
pub at_err : {T E P : Type 0} (result : Result T E) → P → OnErr result P
at_err (Ok x) fact = tt
at_err (Err e) fact = fact

pub no_out : (out err : List ℕ) (exit : ℕ) → (IsUtf8 out → ⊥)
    → bare status.InternalServerError ≡ written_response out err exit
no_out out err exit none = elim (cases_Bool (is_utf8 out)) [
  | inl e ↦ absurd (none (IsUtf8-from_is_utf8 out e))
  | inr e ↦ rw e refl
]

pub no_err : (out err : List ℕ) (exit : ℕ) → IsUtf8 out → (IsUtf8 err → ⊥)
    → bare status.InternalServerError ≡ written_response out err exit
no_err out err exit is none = elim (cases_Bool (is_utf8 err)) [
  | inl e ↦ absurd (none (IsUtf8-from_is_utf8 err e))
  | inr e ↦ rw (is_utf8-from_IsUtf8 out is, e) refl
]

pub texts : (out err : List ℕ) (exit : ℕ) → IsUtf8 out → IsUtf8 err
    → json status.Okay (written_text out err exit) ≡ written_response out err exit
texts out err exit is also = rw (is_utf8-from_IsUtf8 out is, is_utf8-from_IsUtf8 err also) refl

-- an answer in a format that is no page has no day
plain : (today told : Option ℕ) (format : AnswerFormat) (account : List ℕ) (answer : Answer)
    → is_page format ≡ false
    → answered today format account answer ≡ answered told format account answer
plain today told (Plain format) account (Ok reply.Done) is_none = refl
plain today told (Plain format) account (Ok reply.Already) is_none = refl
plain today told (Plain format) account (Ok (reply.Posted difference)) is_none = refl
plain today told (Plain format) account (Ok (reply.Told facts)) is_none = refl
plain today told (Plain format) account (Err refusal) is_none = refl
plain today told Page account answer is_none = absurd (true≢false is_none)

-- so the day that is told to pages alone is as good as one that is told to all
pub on_the_day : {M : Type 0} (goes : M → Request → Answer → M → Type 0) (today told : Option ℕ)
    (now later : M) (what : Inquiry) (said : Said)
    → today ≡ (if is_for_page what then told else None)
    → Responds goes today now what said later → Responds goes told now what said later
on_the_day goes today told now later asked.NoRoute said is responds = responds
on_the_day goes today told now later (asked.OtherMethod allow) said is responds = responds
on_the_day goes today told now later asked.BadForm said is responds = responds
on_the_day goes today told now later asked.Home said is responds = responds
on_the_day goes today told now later asked.Commands said is responds = responds
on_the_day goes today told now later (asked.Journal account) said is responds = responds
on_the_day goes today told now later (asked.Account account) said is responds = responds
on_the_day goes today told now later asked.Forms said is responds = responds
on_the_day goes today told now later (asked.Form verb account payable) said is responds = responds
on_the_day goes today told now later (asked.Sent verb) said is responds = responds
on_the_day goes today told now later asked.StyleSheet said is responds = responds
on_the_day goes today told now later (asked.Asks (Plain format) request) said is
    (answer, went, so) =
    (answer, went, so ∙ plain today told (Plain format) (account_in request) answer refl)
on_the_day goes today told now later (asked.Asks Page request) said is responds =
    subst (λ (day : Option ℕ). Responds goes day now (asked.Asks Page request) said later) is
    responds

-- What is not answered by the desk alone: commands, a journal, the first page, that of an account,
-- and those of forms. None of these is asked.
pub record IsForDesk (what : Inquiry) : Type 0 where
  pub commands : what ≡ asked.Commands → ⊥
  pub journal : (account : Option (List ℕ)) → what ≡ asked.Journal account → ⊥
  pub home : what ≡ asked.Home → ⊥
  pub account : (account : List ℕ) → what ≡ asked.Account account → ⊥
  pub forms : what ≡ asked.Forms → ⊥
  pub form : (verb : Verb) (account : Option (List ℕ)) (payable : Option Payable)
      → what ≡ asked.Form verb account payable → ⊥
  pub sent : (verb : Verb) → what ≡ asked.Sent verb → ⊥

-- all else is answered by the desk alone
pub by_desk : {S : Type 0} (g : store.Ghosts S) (told : Option ℕ) (old new : Desk S)
    (db : List ℕ) (what : Inquiry) (body : List ℕ) (said : Said) → IsForDesk what
    → Responds (handles g) told old what said new → RespondsOver g told old new db what body said
by_desk g told old new db asked.NoRoute body said its responds = responds
by_desk g told old new db (asked.OtherMethod allow) body said its responds = responds
by_desk g told old new db asked.BadForm body said its responds = responds
by_desk g told old new db asked.Home body said its responds = absurd (its.home refl)
by_desk g told old new db asked.Commands body said its responds = absurd (its.commands refl)
by_desk g told old new db (asked.Journal account) body said its responds =
    absurd (its.journal account refl)
by_desk g told old new db (asked.Account account) body said its responds =
    absurd (its.account account refl)
by_desk g told old new db asked.Forms body said its responds = absurd (its.forms refl)
by_desk g told old new db (asked.Form verb account payable) body said its responds =
    absurd (its.form verb account payable refl)
by_desk g told old new db (asked.Sent verb) body said its responds = absurd (its.sent verb refl)
by_desk g told old new db asked.StyleSheet body said its responds = responds
by_desk g told old new db (asked.Asks format request) body said its responds = responds
