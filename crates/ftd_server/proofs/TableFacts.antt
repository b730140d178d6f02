-- What is said of a desk before and after each request, said of the states that it stands for.
use Rattle.std.proofs.Common.{◌≡◌, ◌++◌, ℕ, Bool, List, length, Option, None, Result, Ok, Err}
use Rattle.std.proofs.Common.{refl, ◌∙◌, sym, inl, inr}
use Rattle.std.proofs.lemmas.Bool.{true≢false, cases_Bool}
use Rattle.std.specs.Prelude.{IfOk, IfErr}
use Rattle.sqlite.specs.Store as store
use Rattle.ftd_machine.specs.State.{State}
use Rattle.ftd_machine.specs.Runs.{Goes}
use Rattle.ftd_desk.specs.Desks.{Held, held}
use Rattle.ftd_desk.specs.declared.desk.Desk.{Desk}
use Rattle.ftd_http.specs.Messages.{Message}
use Rattle.ftd_http.specs.declared.ask.Inquiry.{Inquiry}
use Rattle.ftd_http.specs.declared.ask.Inquiry.TheVariants as asked
use Rattle.ftd_connections.specs.Responses.{Said}
use Rattle.ftd_server.specs.Replying.{ByRequests, Responds}
use Rattle.ftd_connections.specs.Serving.{IsAnswer, Answers, none, more, Answered, Broken}
use Rattle.ftd_connections.specs.Serving.{BreaksOff, unasked, in_answer, in_refusal, inquiry_of}
use Rattle.ftd_connections.specs.Serving.{ServesMessages, Breaks}
use Rattle.ftd_server.specs.Tables.{Follows, AnsweredBy, BrokenBy, handles}
use Rattle.ftd_server.proofs.HandledFacts.{all_handled, broken_handled}
use Rattle.ftd_connections.specs.declared.connection.Cause.{Cause}
use Rattle.ftd_connections.specs.declared.connection.ServedConnection.{ServedConnection}
use Rattle.ftd_connections.specs.declared.connection.ServeFault.{ServeFault}

-- a desk that stays as it was
same_desk : (old new : Held) (so : State → State → Type 0) → new ≡ old → ((s : State) → so s s)
    → Follows old new so
same_desk old new so same holds = rw same (stays old)
  where
    stays : (h : Held) → Follows h h so
    stays h = record {
      honest = λ clean. clean;
      opens = λ clean opened. opened;
      follows = λ clean s keeps. (s, holds s, λ is_open. keeps);
      shut = λ clean closed s. holds s;
    }

-- one after the other
both : (old mid new : Held) (first second so : State → State → Type 0) → Follows old mid first
    → Follows mid new second
    → ((s m end : State) → first s m → second m end → so s end) → Follows old new so
both old mid new first second so a b join =
    record {
      honest = λ clean. a.honest (b.honest clean);
      opens = λ clean opened. a.opens (b.honest clean) (b.opens clean opened);
      follows = λ clean s keeps.
          let (m, one, kept) = a.follows (b.honest clean) s keeps in
          elim (cases_Bool mid.db.is_open) [
            | inl is_open ↦ (let (end, other, later) = b.follows clean m (kept is_open) in
                (end, join s m end one other, later))
            | inr closed ↦ (
              m,
              join s m m one (b.shut clean (λ is_open. true≢false (sym is_open ∙ closed)) m),
              λ is_open. absurd (true≢false (sym (b.opens clean is_open) ∙ closed)),
            )
          ];
      shut = λ clean closed s. join s s s (a.shut (b.honest clean) closed s)
          (b.shut clean (λ is_open. closed (a.opens (b.honest clean) is_open)) s);
    }

weaker : (old new : Held) (first so : State → State → Type 0) → Follows old new first
    → ((s end : State) → first s end → so s end) → Follows old new so
weaker old new first so a less =
    record {
      honest = a.honest;
      opens = a.opens;
      follows = λ clean s keeps. let (end, one, kept) = a.follows clean s keeps in
          (end, less s end one, kept);
      shut = λ clean closed s. less s s (a.shut clean closed s);
    }

module _ {S : Type 0} (g : store.Ghosts S) where
  -- what a desk responds to a message
  abbrev pub goes : Desk S → Inquiry → List ℕ → Said → Desk S → Type 0
  goes = ByRequests (handles g)

  -- and a machine
  abbrev Alone : State → Inquiry → List ℕ → Said → State → Type 0
  Alone = ByRequests Goes

  held_same : (now later : Desk S) → later ≡ now → held g later ≡ held g now
  held_same now later same = rw same refl

  responds : (now later : Desk S) (what : Inquiry) (said : Said)
      → Responds (handles g) None now what said later
      → Follows (held g now) (held g later) (λ s end. Responds Goes None s what said end)
  responds now later asked.NoRoute said (same, is) = same_desk _ _ _ (held_same now later same)
      (λ s. (refl, is))
  responds now later (asked.OtherMethod allow) said (same, is) =
      same_desk _ _ _ (held_same now later same) (λ s. (refl, is))
  responds now later asked.BadForm said (same, is) = same_desk _ _ _ (held_same now later same)
      (λ s. (refl, is))
  responds now later asked.Home said (same, is) = same_desk _ _ _ (held_same now later same)
      (λ s. (refl, is))
  responds now later asked.Commands said (same, is) = same_desk _ _ _ (held_same now later same)
      (λ s. (refl, is))
  responds now later (asked.Journal account) said (same, is) =
      same_desk _ _ _ (held_same now later same) (λ s. (refl, is))
  responds now later (asked.Account account) said (same, is) =
      same_desk _ _ _ (held_same now later same) (λ s. (refl, is))
  responds now later asked.Forms said (same, is) = same_desk _ _ _ (held_same now later same)
      (λ s. (refl, is))
  responds now later (asked.Form verb account payable) said (same, is) =
      same_desk _ _ _ (held_same now later same) (λ s. (refl, is))
  responds now later (asked.Sent verb) said (same, is) =
      same_desk _ _ _ (held_same now later same) (λ s. (refl, is))
  responds now later asked.StyleSheet said (same, is) =
      same_desk _ _ _ (held_same now later same) (λ s. (refl, is))
  responds now later (asked.Asks format request) said (answer, handled, is) =
      record {
        honest = handled.honest;
        opens = handled.opens;
        follows = λ clean s keeps.
            let (end, step, kept) = handled.answered clean s keeps in
            (end, (answer, step, is), kept);
        shut = λ clean closed s. (answer, inr (handled.shut clean closed, refl), is);
      }

  one_answer : (before : ℕ) (now later : Desk S) (message : Message) (text : List ℕ)
      → IsAnswer goes before now message text later
      → Follows (held g now) (held g later) (λ s end. IsAnswer Alone before s message text end)
  one_answer before now later message text answer =
      let what = inquiry_of message in
      weaker _ _ (λ s end. Responds Goes None s what answer.said end) _
      (responds now later what answer.said answer.responds)
      (λ s end one. record { said = answer.said; responds = one; is = answer.is })

  all_answers : (start later : Desk S) (messages : List Message) (text : List ℕ)
      → Answers goes start messages text later
      → Follows (held g start) (held g later) (λ s end. Answered Alone s end messages text)
  all_answers start _ _ _ none = same_desk _ _ _ refl (λ s. none)
  all_answers start _ _ _ (more before said now message answer later first last) =
      both _ (held g now) _ (λ s m. Answers Alone s before said m)
      (λ m end. IsAnswer Alone (length before) m message answer end) _
      (all_answers start now before said first)
      (one_answer (length before) now later message answer last)
      (λ s m end one other. more before said m message answer end one other)

  breaks_off : (before : ℕ) (rest part : List ℕ) (cause : Cause) (now later : Desk S)
      → BreaksOff goes before rest now later part cause
      → Follows (held g now) (held g later) (λ s end. BreaksOff Alone before rest s end part cause)
  breaks_off before rest _ _ now later (unasked cause same) =
      same_desk _ _ _ (held_same now later same) (λ s. unasked cause refl)
  breaks_off before rest _ _ now later
      (in_answer message after part others cause unread is begins answer) =
      weaker _ _ (λ s end. IsAnswer Alone before s message (part ++ others) end) _
      (one_answer before now later message (part ++ others) answer)
      (λ s end one. in_answer message after part others cause unread is begins one)
  breaks_off before rest _ _ now later
      (in_refusal status part others cause unread refused same parts) =
      same_desk _ _ _ (held_same now later same)
      (λ s. in_refusal status part others cause unread refused refl parts)

  all_broken : (start later : Desk S) (messages : List Message) (text rest part : List ℕ)
      (cause : Cause) → Broken goes start later messages text rest part cause
      → Follows (held g start) (held g later)
      (λ s end. Broken Alone s end messages text rest part cause)
  all_broken start later messages text rest part cause (now, answers, breaks) =
      both _ (held g now) _ (λ s m. Answers Alone s messages text m)
      (λ m end. BreaksOff Alone (length messages) rest m end part cause) _
      (all_answers start now messages text answers)
      (breaks_off (length messages) rest part cause now later breaks)
      (λ s m end one other. (m, one, other))

  module _ (start later : Desk S) (left left' taken taken' : Option (List ℕ)) where
    pub served_by : (is_idle : Bool) (r : Result ServedConnection ServeFault)
        → IfOk r (ServesMessages (Answered goes start later) left left' is_idle taken taken')
        → IfOk r (ServesMessages (AnsweredBy (held g start) (held g later)) left left' is_idle taken
        taken')
    served_by is_idle (Ok served) h = record {
      read = h.read;
      messages = h.messages;
      rest = h.rest;
      refusal = h.refusal;
      text = h.text;
      gives = h.gives;
      are = h.are;
      ends = h.ends;
      at_end = h.at_end;
      answers = record {
        follows = all_answers start later h.messages h.text h.answers;
        handled = all_handled g start later h.messages h.text h.answers;
      };
      written = h.written;
      count = h.count;
    }
    served_by is_idle (Err fault) h = h

    pub broken_by : (source_failed target_failed : Bool) (r : Result ServedConnection ServeFault)
        → IfErr r (Breaks (Broken goes start later) left left' source_failed taken taken'
        target_failed)
        → IfErr r (Breaks (BrokenBy (held g start) (held g later)) left left' source_failed taken
        taken' target_failed)
    broken_by source_failed target_failed (Ok served) h = h
    broken_by source_failed target_failed (Err fault) h = record {
      read = h.read;
      messages = h.messages;
      rest = h.rest;
      text = h.text;
      part = h.part;
      gives = h.gives;
      are = h.are;
      stay = h.stay;
      answers = record {
        follows = all_broken start later h.messages h.text h.rest h.part fault.cause h.answers;
        handled = broken_handled g start later h.messages h.text h.rest h.part fault.cause
            h.answers;
      };
      failed = h.failed;
      written = h.written;
      count = h.count;
    }
