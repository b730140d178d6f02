-- A connection so far, and its next step.
use Rattle.std.specs.Prelude.{slice_range}
use Rattle.std.proofs.Common.{◌≡◌, ◌||◌, ◌==◌, ◌⊎◌, inl, inr, ◌<◌, ◌+◌, ◌++◌, ℕ, Bool, true, false}
use Rattle.std.proofs.Common.{List, [], ◌∷◌, Option, Some, None, drop, refl, sym, ap, ◌∙◌, subst}
use Rattle.std.proofs.Common.{arith, append_assoc, append-nil, length-append}
use Rattle.std.specs.List.{flat_map}
use Rattle.std.specs.Io.KnownBytes.{Appends, IsAtEnd}
use Rattle.std.proofs.KnownBytes.{Consumes-nil, Consumes-trans, Appends-nil, Appends-trans}
use Rattle.std.proofs.lemmas.Grind.{flat_map-append}
use Rattle.std.proofs.lemmas.List.Elements.{All-nil, All-push}
use Rattle.ftd_ports.specs.Writing.{WritesPrefix}
use Rattle.ftd_http.specs.Messages.{Message, IsMessage, message_bytes, AreMessages, closes}
use Rattle.ftd_http.specs.Messages.{IsRefused, IsCut}
use Rattle.ftd_http.specs.Looks.{IsMessageAt}
use Rattle.ftd_http.specs.Reading.{Reads, Takes}
use Rattle.ftd_http.specs.declared.look.Parts.{Parts}
use Rattle.ftd_http.specs.declared.status.Status.{Status}
use Rattle.httparse.specs.Spans.{span_bytes}
use Rattle.ftd_connections.specs.Responses.{Said, response_text}
use Rattle.ftd_http.specs.Asking.{asked_of, is_for_browser}
use Rattle.ftd_http.specs.declared.ask.Inquiry.{Inquiry}
use Rattle.ftd_connections.specs.Serving.{Ends, closed, truncated, bad, asked, limit, idled}
use Rattle.ftd_connections.specs.Serving.{asks_to_end, closes_after, refusal_text, IsAnswer}
use Rattle.ftd_connections.specs.Serving.{none, more}
use Rattle.ftd_connections.specs.Serving.{Broken, refusal_count}
use Rattle.ftd_connections.specs.Serving.{ServesMessages, BreaksOff, unasked, in_answer, Answered}
use Rattle.ftd_connections.specs.Serving.{in_refusal, Breaks, HasEnded, HasFailed, Talk}
use Rattle.ftd_connections.specs.declared.connection.End.{End}
use Rattle.ftd_connections.specs.declared.connection.End.TheVariants as end
use Rattle.ftd_connections.specs.declared.connection.Cause.{Cause}
use Rattle.ftd_connections.specs.declared.connection.ServedConnection.{ServedConnection}
use Rattle.ftd_connections.specs.declared.connection.Cause.TheVariants as why

-- one more message of the bytes
more_messages : (bytes buf : List ℕ) (messages : List Message) (parts : Parts) (message : Message)
    → AreMessages bytes messages buf
    → IsMessageAt buf parts message → AreMessages bytes (messages ++ message ∷ [])
    (drop parts.end buf)
more_messages bytes buf messages parts message so_far at =
    record {
      are = All-push IsMessage messages message so_far.are at.is;
      parts =
          let one : flat_map message_bytes (message ∷ []) ≡ message_bytes message =
          append-nil (message_bytes message) in
          let all = flat_map-append message_bytes messages (message ∷ [])
          ∙ ap (λ z. flat_map message_bytes messages ++ z) one in
          so_far.parts ∙ ap (λ z. flat_map message_bytes messages ++ z) at.reads
          ∙ sym (append_assoc (flat_map message_bytes messages) (message_bytes message)
          (drop parts.end buf))
          ∙ ap (λ z. z ++ drop parts.end buf) (sym all);
    }

-- an answer fails in a write, or for want of memory
pub fails_so : (cause : Cause) (source_failed target_failed : Bool)
    → HasFailed cause false target_failed → HasFailed cause source_failed target_failed
fails_so why.Read source_failed target_failed failed = cc
fails_so why.Write source_failed target_failed failed = failed
fails_so why.Memory source_failed target_failed failed = failed

module _ {M : Type 0} (goes : M → Inquiry → List ℕ → Said → M → Type 0) where
  -- nothing is read yet
  pub begins : (start : M) (left taken : Option (List ℕ))
      → Talk goes start start left left taken taken [] 0
  begins start left taken =
      record {
        read = [];
        messages = [];
        text = [];
        gives = Consumes-nil left;
        are = record { are = All-nil IsMessage; parts = refl };
        stay = record { stay = All-nil (λ m. asks_to_end m ≡ false); few = omega arith };
        answers = none;
        written = Appends-nil taken;
        count = refl;
      }

  -- more bytes come
  pub reads : (start now : M) (left mid left' taken taken' : Option (List ℕ)) (kept buf : List ℕ)
      (answered : ℕ)
      → Talk goes start now left mid taken taken' kept answered → Reads mid left' kept buf
      → Talk goes start now left left' taken taken' buf answered
  reads start now left mid left' taken taken' kept buf answered talk r =
      record {
        read = talk.read ++ r.bytes;
        messages = talk.messages;
        text = talk.text;
        gives = Consumes-trans left mid left' talk.read r.bytes talk.gives r.gives;
        are = record {
          are = talk.are.are;
          parts = ap (λ z. z ++ r.bytes) talk.are.parts
              ∙ append_assoc (flat_map message_bytes talk.messages) kept r.bytes
              ∙ ap (λ z. flat_map message_bytes talk.messages ++ z) (sym r.kept);
        };
        stay = talk.stay;
        answers = talk.answers;
        written = talk.written;
        count = talk.count;
      }

  -- one more message is answered, after which the connection stays open
  pub goes_on : (start now later : M) (left left' taken mid taken' : Option (List ℕ)) (buf : List ℕ)
      (answered : ℕ) (parts : Parts) (message : Message) (answer : List ℕ) (ends : Bool)
      → (talk : Talk goes start now left left' taken mid buf answered)
      → IsMessageAt buf parts message → IsAnswer goes answered now message answer later
      → Appends mid taken' answer → ends ≡ asks_to_end message → ends ≡ false → answered < 99
      → Talk goes start later left left' taken taken' (drop parts.end buf) (answered + 1)
  goes_on start now later left left' taken mid taken' buf answered parts message answer ends talk at
      is written so stays few =
      let same = talk.count in
      record {
        read = talk.read;
        messages = talk.messages ++ message ∷ [];
        text = talk.text ++ answer;
        gives = talk.gives;
        are = more_messages talk.read buf talk.messages parts message talk.are at;
        stay = record {
          stay = All-push (λ m. asks_to_end m ≡ false) talk.messages message talk.stay.stay
              (sym so ∙ stays);
          few = (let l = length-append talk.messages (message ∷ []) in omega arith);
        };
        answers = more talk.messages talk.text now message answer later talk.answers
            (rw (← talk.count) is);
        written = Appends-trans taken mid taken' talk.text answer talk.written written;
        count = (let l = length-append talk.messages (message ∷ []) in omega arith);
      }

  -- nothing more is written
  same_text : (taken taken' : Option (List ℕ)) (text : List ℕ) → Appends taken taken' text
      → Appends taken taken' (text ++ [])
  same_text taken taken' text a = let P : List ℕ → Type 0 = λ z. Appends taken taken' z in
      subst P (sym (append-nil text)) a

  -- the connection ends, where it tells of a refusal at most
  ends_with : {start now : M} {left left' taken mid taken' : Option (List ℕ)} {kept : List ℕ}
      {answered : ℕ} {is_idle : Bool} {served : ServedConnection} (refusal : Option Status)
      → (talk : Talk goes start now left left' taken mid kept answered)
      → Ends kept talk.messages refusal served.end → HasEnded served.end left' is_idle
      → Appends mid taken' (refusal_text refusal)
      → served.answered ≡ answered + refusal_count refusal
      → ServesMessages (Answered goes start now) left left' is_idle taken taken' served
  ends_with {taken = taken} {mid = mid} {taken' = taken'} {kept = kept} refusal talk ends at_end
      written count =
      let same = talk.count in
      record {
        read = talk.read;
        messages = talk.messages;
        rest = kept;
        refusal = refusal;
        text = talk.text;
        gives = talk.gives;
        are = talk.are;
        ends = ends;
        at_end = at_end;
        answers = talk.answers;
        written = Appends-trans taken mid taken' talk.text (refusal_text refusal) talk.written
            written;
        count = omega arith;
      }

  module _ {start now : M} {left left' taken taken' : Option (List ℕ)} {kept : List ℕ}
      {answered : ℕ} {is_idle : Bool}
      (talk : Talk goes start now left left' taken taken' kept answered) where
    -- the bytes end
    pub ends_closed : kept ≡ [] → IsAtEnd left'
        → ServesMessages (Answered goes start now) left left' is_idle taken taken'
        (record { answered = answered; end = end.Closed })
    ends_closed none_left at_end =
        ends_with None talk (closed talk.messages talk.stay none_left) at_end (Appends-nil taken')
        (omega arith)

    -- the peer is idle for too long
    pub ends_idle : kept ≡ [] → is_idle ≡ true
        → ServesMessages (Answered goes start now) left left' is_idle taken taken'
        (record { answered = answered; end = end.Idle })
    ends_idle none_left is_so =
        ends_with None talk (idled talk.messages talk.stay none_left) is_so (Appends-nil taken')
        (omega arith)

    pub ends_truncated : IsCut kept → IsAtEnd left'
        → ServesMessages (Answered goes start now) left left' is_idle taken taken'
        (record { answered = answered; end = end.Truncated })
    ends_truncated cut at_end =
        ends_with None talk (truncated talk.messages talk.stay cut) at_end (Appends-nil taken')
        (omega arith)

  -- a message is refused
  pub ends_refused : {start now : M} {left left' taken mid taken' : Option (List ℕ)}
      {kept : List ℕ} {answered : ℕ} {is_idle : Bool} (status : Status)
      → Talk goes start now left left' taken mid kept answered → IsRefused kept status
      → Appends mid taken' (refusal_text (Some status))
      → ServesMessages (Answered goes start now) left left' is_idle taken taken'
      (record { answered = answered + 1; end = end.BadMessage })
  ends_refused status talk refused written =
      ends_with (Some status) talk (bad talk.messages status talk.stay refused) tt written refl

  -- a message is answered, and is the last
  last : (start now later : M) (left left' taken mid taken' : Option (List ℕ)) (buf : List ℕ)
      (answered : ℕ) (is_idle : Bool) (parts : Parts) (message : Message) (answer : List ℕ)
      (why_ends : End)
      → (talk : Talk goes start now left left' taken mid buf answered)
      → IsMessageAt buf parts message → IsAnswer goes answered now message answer later
      → Appends mid taken' answer → Ends (drop parts.end buf) (talk.messages ++ message ∷ []) None
      why_ends → HasEnded why_ends left' is_idle
      → ServesMessages (Answered goes start later) left left' is_idle taken taken'
      (record { answered = answered + 1; end = why_ends })
  last start now later left left' taken mid taken' buf answered is_idle parts message answer
      why_ends
      talk at is written ends at_end =
      let same = talk.count in
      record {
        read = talk.read;
        messages = talk.messages ++ message ∷ [];
        rest = drop parts.end buf;
        refusal = None;
        text = talk.text ++ answer;
        gives = talk.gives;
        are = more_messages talk.read buf talk.messages parts message talk.are at;
        ends = ends;
        at_end = at_end;
        answers = more talk.messages talk.text now message answer later talk.answers
            (rw (← talk.count) is);
        written = same_text taken taken' (talk.text ++ answer)
            (Appends-trans taken mid taken' talk.text answer talk.written written);
        count = (let l = length-append talk.messages (message ∷ []) in omega arith);
      }

  pub ends_asked : (start now later : M) (left left' taken mid taken' : Option (List ℕ))
      (buf : List ℕ) (answered : ℕ) (is_idle : Bool) (parts : Parts) (message : Message)
      (answer : List ℕ) (ends : Bool)
      → Talk goes start now left left' taken mid buf answered → IsMessageAt buf parts message
      → IsAnswer goes answered now message answer later
      → Appends mid taken' answer → ends ≡ asks_to_end message
      → ends ≡ true
      → ServesMessages (Answered goes start later) left left' is_idle taken taken'
      (record { answered = answered + 1; end = end.Asked })
  ends_asked start now later left left' taken mid taken' buf answered is_idle parts message answer
      ends talk at is written so asks =
      last start now later left left' taken mid taken' buf answered is_idle parts message answer
      end.Asked talk at is written
      (asked talk.messages message talk.stay (sym so ∙ asks)) tt

  pub ends_limit : (start now later : M) (left left' taken mid taken' : Option (List ℕ))
      (buf : List ℕ) (answered : ℕ) (is_idle : Bool) (parts : Parts) (message : Message)
      (answer : List ℕ) (ends : Bool)
      → Talk goes start now left left' taken mid buf answered → IsMessageAt buf parts message
      → IsAnswer goes answered now message answer later
      → Appends mid taken' answer → ends ≡ asks_to_end message
      → ends ≡ false → answered ≡ 99
      → ServesMessages (Answered goes start later) left left' is_idle taken taken'
      (record { answered = answered + 1; end = end.Limit })
  ends_limit start now later left left' taken mid taken' buf answered is_idle parts message answer
      ends talk at is written so stays full =
      last start now later left left' taken mid taken' buf answered is_idle parts message answer
      end.Limit talk at is written
      (limit talk.messages message talk.stay (sym so ∙ stays) (sym talk.count ∙ full)) tt

  -- serving fails in the next message
  pub breaks_in : (start now later : M) (left left' taken mid taken' : Option (List ℕ))
      (source_failed target_failed : Bool) (kept part : List ℕ) (answered : ℕ) (cause : Cause)
      → (talk : Talk goes start now left left' taken mid kept answered)
      → BreaksOff goes answered kept now later part cause → Appends mid taken' part
      → HasFailed cause source_failed target_failed
      → Breaks (Broken goes start later) left left' source_failed taken taken' target_failed
      (record { answered = answered; cause = cause })
  breaks_in start now later left left' taken mid taken' source_failed target_failed kept part
      answered cause talk breaks written failed =
      record {
        read = talk.read;
        messages = talk.messages;
        rest = kept;
        text = talk.text;
        part = part;
        gives = talk.gives;
        are = talk.are;
        stay = talk.stay;
        answers = (now, talk.answers, rw (← talk.count) breaks);
        failed = failed;
        written = Appends-trans taken mid taken' talk.text part talk.written written;
        count = talk.count;
      }

  -- a read fails, or there is no memory for what it gave
  pub breaks_reading : (start now : M) (left mid left' taken taken' : Option (List ℕ))
      (source_failed target_failed : Bool) (kept : List ℕ) (answered : ℕ) (cause : Cause)
      → Talk goes start now left mid taken taken' kept answered → Takes mid left'
      → HasFailed cause source_failed target_failed
      → Breaks (Broken goes start now) left left' source_failed taken taken' target_failed
      (record { answered = answered; cause = cause })
  breaks_reading start now left mid left' taken taken' source_failed target_failed kept answered
      cause talk takes failed =
      let later = reads start now left mid left' taken taken' kept (kept ++ takes.bytes) answered
      talk
      (record { bytes = takes.bytes; gives = takes.gives; kept = refl }) in
      breaks_in start now now left left' taken taken' taken' source_failed target_failed
      (kept ++ takes.bytes) [] answered cause later
      (unasked cause refl) (Appends-nil taken') failed

  -- a refusal is written in part
  pub breaks_refusing : (start now : M) (left left' taken mid taken' : Option (List ℕ))
      (source_failed target_failed : Bool) (kept : List ℕ) (answered : ℕ) (status : Status)
      → Talk goes start now left left' taken mid kept answered → IsRefused kept status
      → WritesPrefix mid taken' (refusal_text (Some status)) → target_failed ≡ true
      → Breaks (Broken goes start now) left left' source_failed taken taken' target_failed
      (record { answered = answered; cause = why.Write })
  breaks_refusing start now left left' taken mid taken' source_failed target_failed kept answered
      status talk refused p failed =
      breaks_in start now now left left' taken mid taken' source_failed target_failed kept p.written
      answered why.Write talk
      (in_refusal status p.written p.unwritten why.Write (λ e. cc) refused refl p.parts) p.appends
      failed

  -- what was asked, by the parts of a message
  asked_at : (buf : List ℕ) (parts : Parts) (message : Message) (what : Inquiry)
      → IsMessageAt buf parts message
      → what ≡ asked_of (span_bytes buf parts.method) (span_bytes buf parts.target)
      (slice_range buf parts.body parts.end)
      → what ≡ asked_of message.head.method message.head.target message.body
  asked_at buf parts message what at is = rw (at.method, at.target, at.body) at is

  responds_at : (buf : List ℕ) (parts : Parts) (message : Message) (what : Inquiry) (now later : M)
      (said : Said) → IsMessageAt buf parts message
      → what ≡ asked_of (span_bytes buf parts.method) (span_bytes buf parts.target)
      (slice_range buf parts.body parts.end)
      → goes now what (slice_range buf parts.body parts.end) said later
      → goes now (asked_of message.head.method message.head.target message.body) message.body said
      later
  responds_at buf parts message what now later said at is responds =
      let P : Inquiry → Type 0 = λ a. goes now a message.body said later in
      subst P (asked_at buf parts message what at is) (rw at.body at responds)

  -- whether the message asks for the end, by its parts
  pub ends_at : (buf : List ℕ) (parts : Parts) (message : Message) (what : Inquiry) (ends : Bool)
      → IsMessageAt buf parts message
      → what ≡ asked_of (span_bytes buf parts.method) (span_bytes buf parts.target)
      (slice_range buf parts.body parts.end)
      → ends ≡ (parts.closes || is_for_browser what) → ends ≡ asks_to_end message
  unfolding asks_to_end
  ends_at buf parts message what ends at is so =
      so ∙ ap (λ (b : Bool). b || is_for_browser what) at.closes
      ∙ ap (λ (w : Inquiry). closes message || is_for_browser w)
      (asked_at buf parts message what at is)

  -- what is sent is the answer to the message
  pub answer_is : (before : ℕ) (buf : List ℕ) (parts : Parts) (message : Message) (what : Inquiry)
      (now later : M) (said : Said) (ends close : Bool)
      → IsMessageAt buf parts message
      → what ≡ asked_of (span_bytes buf parts.method) (span_bytes buf parts.target)
      (slice_range buf parts.body parts.end)
      → ends ≡ (parts.closes || is_for_browser what) → close ≡ (ends || (before == 99))
      → goes now what (slice_range buf parts.body parts.end) said later
      → IsAnswer goes before now message (response_text said close) later
  answer_is before buf parts message what now later said ends close at is so closing responds =
      record {
        said = said;
        responds = responds_at buf parts message what now later said at is responds;
        is = ap (λ b. response_text said b)
            (closing ∙ ap (λ (b : Bool). b || (before == 99))
            (ends_at buf parts message what ends at is so));
      }

  -- there is no memory for the answer
  pub lost_answer : (before : ℕ) (buf : List ℕ) (parts : Parts) (message : Message) (what : Inquiry)
      (now later : M) (taken : Option (List ℕ))
      → IsMessageAt buf parts message
      → what ≡ asked_of (span_bytes buf parts.method) (span_bytes buf parts.target)
      (slice_range buf parts.body parts.end)
      → (later ≡ now)
      ⊎ ((said : Said) × goes now what (slice_range buf parts.body parts.end) said later)
      → (part : List ℕ) × BreaksOff goes before buf now later part why.Memory
      × Appends taken taken part
  lost_answer before buf parts message what now later taken at is (inl same) =
      ([], unasked why.Memory same, Appends-nil taken)
  lost_answer before buf parts message what now later taken at is (inr (said, responds)) = (
    [],
    in_answer message (drop parts.end buf) [] (response_text said (closes_after before message))
        why.Memory (λ e. cc) at.is at.reads
        (record {
          said = said;
          responds = responds_at buf parts message what now later said at is
              responds;
          is = refl;
        }),
    Appends-nil taken,
  )

  -- the answer is written in part
  pub half_answer : (before : ℕ) (buf : List ℕ) (parts : Parts) (message : Message) (what : Inquiry)
      (now later : M) (said : Said) (ends close : Bool) (taken taken' : Option (List ℕ))
      → IsMessageAt buf parts message
      → what ≡ asked_of (span_bytes buf parts.method) (span_bytes buf parts.target)
      (slice_range buf parts.body parts.end)
      → ends ≡ (parts.closes || is_for_browser what) → close ≡ (ends || (before == 99))
      → goes now what (slice_range buf parts.body parts.end) said later
      → WritesPrefix taken taken' (response_text said close)
      → (part : List ℕ) × BreaksOff goes before buf now later part why.Write
      × Appends taken taken' part
  half_answer before buf parts message what now later said ends close taken taken' at is so closing
      responds p =
      let whole = answer_is before buf parts message what now later said ends close at is so closing
      responds in (
        p.written,
        in_answer message (drop parts.end buf) p.written p.unwritten why.Write (λ e. cc) at.is
            at.reads (subst (λ text. IsAnswer goes before now message text later) p.parts whole),
        p.appends,
      )
