-- What a message asks, case by case.
use Rattle.std.proofs.Common.{◌≡◌, ℕ, List, Bool, true, false, Option, None, Some, Result, Ok, Err}
use Rattle.std.proofs.Common.{sym, ap, ◌∙◌, cond, inl, inr}
use Rattle.std.specs.Prelude.{IfOk}
use Rattle.std.proofs.lemmas.Bool.{cases_Bool}
use Rattle.std.specs.Str.{IsUtf8, is_utf8, bytes_eq}
use Rattle.std.proofs.lemmas.Str.{IsUtf8-from_is_utf8, is_utf8-from_IsUtf8}
use Rattle.ftd_machine.specs.declared.requests.Request.{Request}
use Rattle.ftd_http.specs.Routes.{route_of}
use Rattle.ftd_http.specs.Requests.{request_of}
use Rattle.ftd_http.specs.Asking.{method_of, formed, routed, unrouted, verb_asked}
use Rattle.ftd_http.specs.Methods.{method_text}
use Rattle.ftd_http.specs.declared.route.Route.{Route}
use Rattle.ftd_http.specs.declared.ask.Inquiry.{Inquiry}
use Rattle.ftd_http.specs.declared.ask.Inquiry.TheVariants as asked
use Rattle.ftd_http.specs.declared.ask.Methods.TheVariants.{Only}

-- by the test for UTF-8
by_text : (m t b : List ℕ) (text : Bool) → is_utf8 t ≡ text → verb_asked m t b ≡ cond text
    (routed m t b (route_of t)) asked.NoRoute
unfolding verb_asked
by_text m t b text e = ap (λ z. cond z (routed m t b (route_of t)) asked.NoRoute) e

pub no_text : (m t b : List ℕ) → (IsUtf8 t → ⊥) → asked.NoRoute ≡ verb_asked m t b
no_text m t b none = elim (cases_Bool (is_utf8 t)) [
  | inl e ↦ absurd (none (IsUtf8-from_is_utf8 t e))
  | inr e ↦ sym (by_text m t b false e)
]

pub by_route : (m t b : List ℕ) (route : Option Route) → IsUtf8 t → route ≡ route_of t
    → routed m t b route ≡ verb_asked m t b
by_route m t b route utf8 e = ap (routed m t b) e
    ∙ sym (by_text m t b true (is_utf8-from_IsUtf8 t utf8))

-- where no verb has the target
pub by_no_route : {E : Type 0} (result : Result Inquiry E) (m t b : List ℕ) → IsUtf8 t
    → None ≡ route_of t → IfOk result (λ asked. asked ≡ unrouted m t)
    → IfOk result (λ asked. asked ≡ verb_asked m t b)
by_no_route (Ok asked) m t b utf8 none is = is ∙ by_route m t b None utf8 none
by_no_route (Err e) m t b utf8 none is = is

-- by the test for the method
by_method : (m t b : List ℕ) (route : Route) (right : Bool)
    → bytes_eq m (method_text (method_of route)) ≡ right
    → routed m t b (Some route) ≡ cond right (formed route.format (request_of route.verb t b))
    (asked.OtherMethod (Only (method_of route)))
by_method m t b route right e =
    ap (λ z. cond z (formed route.format (request_of route.verb t b))
    (asked.OtherMethod (Only (method_of route)))) e

pub wrong_method : (m t b : List ℕ) (route : Route) → IsUtf8 t → Some route ≡ route_of t
    → bytes_eq m (method_text (method_of route)) ≡ false
    → asked.OtherMethod (Only (method_of route)) ≡ verb_asked m t b
wrong_method m t b route utf8 found wrong = sym (by_method m t b route false wrong)
    ∙ by_route m t b (Some route) utf8 found

pub right_method : (m t b : List ℕ) (route : Route) (request : Option Request) → IsUtf8 t
    → Some route ≡ route_of t → bytes_eq m (method_text (method_of route)) ≡ true
    → request ≡ request_of route.verb t b → formed route.format request ≡ verb_asked m t b
right_method m t b route request utf8 found right is = ap (formed route.format) is
    ∙ (sym (by_method m t b route true right) ∙ by_route m t b (Some route) utf8 found)
