-- What messages ask of a desk, as a list of requests that it handles one after the other.
use Rattle.std.proofs.Common.{◌≡◌, ◌++◌, ◌⊎◌, ℕ, List, [], ◌∷◌, length, map, None, Ok, Err, refl}
use Rattle.std.proofs.Common.{ap, inl, subst, sym}
use Rattle.std.proofs.lemmas.List.{map-append}
use Rattle.std.specs.Prelude.{OnErr}
use Rattle.sqlite.specs.Store as store
use Rattle.ftd_machine.specs.Checks.{Answer}
use Rattle.ftd_machine.specs.declared.requests.Request.{Request}
use Rattle.ftd_desk.proofs.Running.{all_none, all_one, all_then}
use Rattle.ftd_desk.specs.Desks.{Held, held}
use Rattle.ftd_desk.specs.Words.{HandlesAll}
use Rattle.ftd_desk.specs.declared.desk.Desk.{Desk}
use Rattle.ftd_http.specs.Messages.{Message}
use Rattle.ftd_http.specs.declared.ask.Inquiry.{Inquiry}
use Rattle.ftd_http.specs.declared.ask.Inquiry.TheVariants as asked
use Rattle.ftd_connections.specs.Responses.{Said}
use Rattle.ftd_server.specs.Replying.{ByRequests, Responds}
use Rattle.ftd_connections.specs.Serving.{IsAnswer, Answers, none, more, Answered, Broken}
use Rattle.ftd_connections.specs.Serving.{BreaksOff, unasked, in_answer, in_refusal, inquiry_of}
use Rattle.ftd_server.specs.Tables.{Asked, Gives, Handled, handles}
use Rattle.ftd_connections.specs.declared.connection.Cause.{Cause}

-- where nothing is asked
unasked_of : (old new : Held) (so : Asked → Asked → Type 0) → new ≡ old → so [] []
    → Handled old new so
unasked_of old new so same holds = record {
  asked = [];
  are = holds;
  handles = subst (λ (h : Held). HandlesAll (Unit {0}) old h [] []) (sym same)
      (all_none (Unit {0}) old);
}

-- one after the other
joined : (old mid new : Held) (first second so : Asked → Asked → Type 0)
    → (a : Handled old mid first) → (b : Handled mid new second)
    → (first a.asked [] → second b.asked [] → so (a.asked ++ b.asked) []) → Handled old new so
joined old mid new first second so a b join =
    let one = λ (it : Request × Answer). it.0 in
    let other = λ (it : Request × Answer). it.1 in
    record {
      asked = a.asked ++ b.asked;
      are = join a.are b.are;
      handles = rw (map-append one a.asked b.asked, map-append other a.asked b.asked)
          (all_then (Unit {0}) (Unit {0}) old mid new (map one a.asked) (map other a.asked)
          (map one b.asked) (map other b.asked) (λ it. it) a.handles b.handles);
    }

weaker : (old new : Held) (first so : Asked → Asked → Type 0) → Handled old new first
    → ((start end : Asked) → first start end → so start end) → Handled old new so
weaker old new first so a less = record {
  asked = a.asked;
  are = less a.asked [] a.are;
  handles = a.handles;
}

-- ---- what is left to be asked may be more

module _ (others : Asked) where
  abbrev Told : Asked → Inquiry → List ℕ → Said → Asked → Type 0
  Told = ByRequests Gives

  responds_longer : (now later : Asked) (what : Inquiry) (said : Said)
      → Responds Gives None now what said later
      → Responds Gives None (now ++ others) what said (later ++ others)
  responds_longer now later asked.NoRoute said (same, is) = (ap (λ it. it ++ others) same, is)
  responds_longer now later (asked.OtherMethod allow) said (same, is) =
      (ap (λ it. it ++ others) same, is)
  responds_longer now later asked.BadForm said (same, is) = (ap (λ it. it ++ others) same, is)
  responds_longer now later asked.Home said (same, is) = (ap (λ it. it ++ others) same, is)
  responds_longer now later asked.Commands said (same, is) = (ap (λ it. it ++ others) same, is)
  responds_longer now later (asked.Journal account) said (same, is) =
      (ap (λ it. it ++ others) same, is)
  responds_longer now later (asked.Account account) said (same, is) =
      (ap (λ it. it ++ others) same, is)
  responds_longer now later asked.Forms said (same, is) = (ap (λ it. it ++ others) same, is)
  responds_longer now later (asked.Form verb account payable) said (same, is) =
      (ap (λ it. it ++ others) same, is)
  responds_longer now later (asked.Sent verb) said (same, is) = (ap (λ it. it ++ others) same, is)
  responds_longer now later asked.StyleSheet said (same, is) = (ap (λ it. it ++ others) same, is)
  responds_longer now later (asked.Asks format request) said (answer, gives, is) =
      (answer, ap (λ it. it ++ others) gives, is)

  answer_longer : (before : ℕ) (now later : Asked) (message : Message) (text : List ℕ)
      → IsAnswer Told before now message text later
      → IsAnswer Told before (now ++ others) message text (later ++ others)
  answer_longer before now later message text answer = record {
    said = answer.said;
    responds = responds_longer now later (inquiry_of message) answer.said answer.responds;
    is = answer.is;
  }

  answers_longer : (start later : Asked) (messages : List Message) (text : List ℕ)
      → Answers Told start messages text later
      → Answers Told (start ++ others) messages text (later ++ others)
  answers_longer start _ _ _ none = none
  answers_longer start _ _ _ (more before said now message answer later first last) =
      more before said (now ++ others) message answer (later ++ others)
      (answers_longer start now before said first)
      (answer_longer (length before) now later message answer last)

-- ---- messages

module _ {S : Type 0} (g : store.Ghosts S) where
  abbrev goes : Desk S → Inquiry → List ℕ → Said → Desk S → Type 0
  goes = ByRequests (handles g)

  held_same : (now later : Desk S) → later ≡ now → held g later ≡ held g now
  held_same now later same = rw same refl

  -- any fault may be one of a commit
  any_fault : (answer : Answer) (P : Type 0) → OnErr answer (Unit {0} ⊎ P)
  any_fault (Ok reply) P = tt
  any_fault (Err refusal) P = inl tt

  responds : (now later : Desk S) (what : Inquiry) (said : Said)
      → Responds (handles g) None now what said later
      → Handled (held g now) (held g later) (λ a end. Responds Gives None a what said end)
  responds now later asked.NoRoute said (same, is) =
      unasked_of _ _ _ (held_same now later same) (refl, is)
  responds now later (asked.OtherMethod allow) said (same, is) =
      unasked_of _ _ _ (held_same now later same) (refl, is)
  responds now later asked.BadForm said (same, is) =
      unasked_of _ _ _ (held_same now later same) (refl, is)
  responds now later asked.Home said (same, is) =
      unasked_of _ _ _ (held_same now later same) (refl, is)
  responds now later asked.Commands said (same, is) =
      unasked_of _ _ _ (held_same now later same) (refl, is)
  responds now later (asked.Journal account) said (same, is) =
      unasked_of _ _ _ (held_same now later same) (refl, is)
  responds now later (asked.Account account) said (same, is) =
      unasked_of _ _ _ (held_same now later same) (refl, is)
  responds now later asked.Forms said (same, is) =
      unasked_of _ _ _ (held_same now later same) (refl, is)
  responds now later (asked.Form verb account payable) said (same, is) =
      unasked_of _ _ _ (held_same now later same) (refl, is)
  responds now later (asked.Sent verb) said (same, is) =
      unasked_of _ _ _ (held_same now later same) (refl, is)
  responds now later asked.StyleSheet said (same, is) =
      unasked_of _ _ _ (held_same now later same) (refl, is)
  responds now later (asked.Asks format request) said (answer, handled, is) = record {
    asked = (request, answer) ∷ [];
    are = (answer, refl, is);
    handles = all_one (Unit {0}) (held g now) (held g later) request answer handled
        (any_fault answer _);
  }

  one_handled : (before : ℕ) (now later : Desk S) (message : Message) (text : List ℕ)
      → IsAnswer goes before now message text later
      → Handled (held g now) (held g later)
      (λ a end. IsAnswer (ByRequests Gives) before a message text end)
  one_handled before now later message text answer =
      let what = inquiry_of message in
      weaker _ _ (λ a end. Responds Gives None a what answer.said end) _
      (responds now later what answer.said answer.responds)
      (λ a end one. record { said = answer.said; responds = one; is = answer.is })

  pub all_handled : (start later : Desk S) (messages : List Message) (text : List ℕ)
      → Answered goes start later messages text
      → Handled (held g start) (held g later)
      (λ a end. Answered (ByRequests Gives) a end messages text)
  all_handled start _ _ _ none = unasked_of _ _ _ refl none
  all_handled start _ _ _ (more before said now message answer later first last) =
      let a = all_handled start now before said first in
      let b = one_handled (length before) now later message answer last in
      joined _ (held g now) _ (λ a end. Answers (ByRequests Gives) a before said end)
      (λ a end. IsAnswer (ByRequests Gives) (length before) a message answer end) _ a b
      (λ one other. more before said b.asked message answer []
      (answers_longer b.asked a.asked [] before said one) other)

  breaks_handled : (before : ℕ) (rest part : List ℕ) (cause : Cause) (now later : Desk S)
      → BreaksOff goes before rest now later part cause
      → Handled (held g now) (held g later)
      (λ a end. BreaksOff (ByRequests Gives) before rest a end part cause)
  breaks_handled before rest _ _ now later (unasked cause same) =
      unasked_of _ _ _ (held_same now later same) (unasked cause refl)
  breaks_handled before rest _ _ now later
      (in_answer message after part others cause unread is begins answer) =
      weaker _ _ (λ a end. IsAnswer (ByRequests Gives) before a message (part ++ others) end) _
      (one_handled before now later message (part ++ others) answer)
      (λ a end one. in_answer message after part others cause unread is begins one)
  breaks_handled before rest _ _ now later
      (in_refusal status part others cause unread refused same parts) =
      unasked_of _ _ _ (held_same now later same)
      (in_refusal status part others cause unread refused refl parts)

  pub broken_handled : (start later : Desk S) (messages : List Message)
      (text rest part : List ℕ) (cause : Cause)
      → Broken goes start later messages text rest part cause
      → Handled (held g start) (held g later)
      (λ a end. Broken (ByRequests Gives) a end messages text rest part cause)
  broken_handled start later messages text rest part cause (now, answers, breaks) =
      let a = all_handled start now messages text answers in
      let b = breaks_handled (length messages) rest part cause now later breaks in
      joined _ (held g now) _ (λ a end. Answers (ByRequests Gives) a messages text end)
      (λ a end. BreaksOff (ByRequests Gives) (length messages) rest a end part cause) _ a b
      (λ one other. (b.asked, answers_longer b.asked a.asked [] messages text one, other))
