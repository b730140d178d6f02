-- What the offsets of a head say of its message.
use Rattle.std.proofs.Common.{◌≡◌, ◌≢◌, ◌≤◌, ◌<◌, ◌+◌, ◌-◌, ◌++◌, ℕ, Bool, List, length, map, take}
use Rattle.std.proofs.Common.{drop, Ok, refl, sym, ap, ◌∙◌, arith, append_assoc}
use Rattle.std.proofs.Common.{length-take-le, length-append, length-drop}
use Rattle.std.specs.Prelude.{slice_range, Result}
use Rattle.std.proofs.lemmas.List.{length-map}
use Rattle.std.proofs.lemmas.List.Folds.{drop_split}
use Rattle.httparse.specs.Grammar.{RequestHead, NeverHasRequest, print_request}
use Rattle.httparse.specs.Spans.{RequestExceeds, RequestOverflows, IsRequestAt}
use Rattle.httparse.specs.Spans.{header_bytes, name_and_value, span_bytes}
use Rattle.httparse.specs.declared.spans.HeaderSpan.{HeaderSpan}
use Rattle.httparse.specs.declared.spans.RequestSpans.{RequestSpans}
use Rattle.httparse.specs.declared.Error.{Error}
use Rattle.httparse.specs.declared.Error.TheVariants.{TooManyHeaders}
use Rattle.ftd_http.specs.Heads.{body_length_of, asks_to_close}
use Rattle.ftd_http.specs.Messages.{Message, IsHead, IsRefused, IsCut, many, never, in_body}
use Rattle.ftd_http.specs.Messages.{body_length}
use Rattle.ftd_http.specs.Looks.{IsMessageAt}
use Rattle.ftd_http.specs.declared.status.Status.{Status}
use Rattle.ftd_http.specs.declared.status.Status.TheVariants.{BadRequest}

-- a head has as many fields as headers were written
few_fields : (buf : List ℕ) (headers : List HeaderSpan) (r : RequestSpans) (h : RequestHead)
    → IsRequestAt buf headers r h
    → r.headers ≤ length headers → length h.fields ≡ r.headers
few_fields buf headers r h at fits =
    sym (length-map h.fields name_and_value) ∙ sym (ap length at.fields)
    ∙ length-map (take r.headers headers) (header_bytes buf)
    ∙ length-take-le r.headers headers fits

-- a head that was found is one
is_head : (buf : List ℕ) (headers : List HeaderSpan) (r : RequestSpans) (h : RequestHead)
    → IsRequestAt buf headers r h
    → r.headers ≤ length headers → length headers ≡ 64 → r.len ≤ 16384 → IsHead h
is_head buf headers r h at fits room short =
    record {
      valid = at.reads.0;
      short = (let e = at.len in omega arith);
      few = (let e = few_fields buf headers r h at fits in omega arith);
    }

-- how long the body is
length_at : (buf : List ℕ) (headers : List HeaderSpan) (r : RequestSpans) (h : RequestHead)
    → IsRequestAt buf headers r h
    → body_length_of (span_bytes buf r.method) (map (header_bytes buf) (take r.headers headers))
    ≡ body_length h
length_at buf headers r h at = rw (at.method, at.fields) refl

-- so the head is one, and its body as long as the function says that was asked
pub head_at : {buf : List ℕ} {headers : List HeaderSpan} {r : RequestSpans} {h : RequestHead}
    {method : List ℕ} {answer : Result ℕ Status} → IsRequestAt buf headers r h
    → r.headers ≤ length headers → length headers ≡ 64 → r.len ≤ 16384
    → method ≡ span_bytes buf r.method
    → answer ≡ body_length_of method (map (header_bytes buf) (take r.headers headers))
    → IsHead h × (body_length h ≡ answer)
head_at {buf = buf} {headers = headers} {r = r} {h = h} at fits room short named answered = (
  is_head buf headers r h at fits room short,
  sym (rw named at answered ∙ length_at buf headers r h at),
)

-- whether the connection closes
pub closes_at : (buf : List ℕ) (headers : List HeaderSpan) (r : RequestSpans) (h : RequestHead)
    → IsRequestAt buf headers r h
    → asks_to_close r.version (map (header_bytes buf) (take r.headers headers)) ≡ asks_to_close
    h.minor (map name_and_value h.fields)
closes_at buf headers r h at = rw (at.version, at.fields) refl

-- a whole message
pub whole_at : (buf : List ℕ) (headers : List HeaderSpan) (r : RequestSpans) (h : RequestHead)
    (count : ℕ) (close : Bool)
    → IsRequestAt buf headers r h → IsHead h → body_length h ≡ Ok count → r.len + count ≤ length buf
    → close ≡ asks_to_close h.minor (map name_and_value h.fields)
    → (message : Message) × IsMessageAt buf
    (record {
      method = r.method;
      target = r.path;
      body = r.len;
      end = r.len + count;
      closes = close;
    }) message
whole_at buf headers r h count close at head length_is fits closing =
    let body = slice_range buf r.len (r.len + count) in
    let long : length body ≡ count =
    (let e = length-take-le (r.len + count - r.len) (drop r.len buf)
    (simp length-drop (omega arith)) in omega arith) in
    let split = drop_split buf r.len (r.len + count) (omega arith) in (
      record { head = h; body = body },
      record {
        is = record { head = head; body = length_is ∙ ap (λ n. Ok n) (sym long) };
        reads = at.reads.1 ∙ ap (λ z. print_request h ++ z) split
            ∙ sym (append_assoc (print_request h) body (drop (r.len + count) buf));
        method = at.method;
        target = at.path;
        body = refl;
        closes = closing;
      },
    )

-- a body that is not whole yet
pub part_at : (buf : List ℕ) (headers : List HeaderSpan) (r : RequestSpans) (h : RequestHead)
    (count : ℕ)
    → IsRequestAt buf headers r h → IsHead h → body_length h ≡ Ok count → length buf < r.len + count
    → IsCut buf
part_at buf headers r h count at head length_is short =
    let whole = ap length at.reads.1 ∙ length-append (print_request h) (drop r.len buf) in
    in_body h (drop r.len buf) count head at.reads.1 length_is (let e = at.len in omega arith)

-- a head that the parser refuses
pub refused_by : (buf : List ℕ) (e : Error) → RequestOverflows 64 buf
    → (e ≢ TooManyHeaders → NeverHasRequest buf) → (e ≡ TooManyHeaders → RequestExceeds 64 buf)
    → IsRefused buf BadRequest
refused_by buf TooManyHeaders over never_comes exceeds = many over (exceeds refl)
refused_by buf _ over never_comes exceeds = never (never_comes (λ same. cc))
