-- Bytes are cut into messages in one way.
use Rattle.std.proofs.Common.{◌≡◌, ◌≤◌, ◌<◌, ◌++◌, ◌⊎◌, inl, inr, ℕ, zero, suc, List, [], ◌∷◌}
use Rattle.std.proofs.Common.{length, get_or, take, drop, Result, Ok, Err, IsTrue, refl, sym, ap}
use Rattle.std.proofs.Common.{◌∙◌, subst, arith, append_assoc, append-nil, length-append}
use Rattle.std.specs.List.{flat_map}
use Rattle.std.proofs.lemmas.List.{take_at, drop_at}
use Rattle.std.proofs.lemmas.Str.{IsUtf8-from_ascii}
use Rattle.std.proofs.lemmas.List.Elements.{All-head, All-tail, All-nil, All-cons}
use Rattle.httparse.specs.Grammar.{RequestHead, IsRequestHead, IsField, ReadsRequest}
use Rattle.httparse.specs.Grammar.{is_token_byte, is_uri_byte, lf, print_end, print_request}
use Rattle.httparse.proofs.GrammarLemmas.{request_unique}
use Rattle.ftd_http.specs.Messages.{Message, IsHead, IsMessage, message_bytes, body_length}
use Rattle.ftd_http.specs.Messages.{AreMessages, MayBeCutOrRefused, IsRefused, long, many, full}
use Rattle.ftd_http.specs.Messages.{never, fault, IsCut, in_head, in_body}
use Rattle.ftd_http.specs.declared.status.Status.{Status}
use Rattle.ftd_http.specs.declared.status.Status.TheVariants.{BadRequest}

same_ok : (a b : ℕ) → ◌≡◌ {A = Result ℕ Status} (Ok a) (Ok b) → a ≡ b
same_ok a b e = cc

same_err : (a b : Status) → ◌≡◌ {A = Result ℕ Status} (Err a) (Err b) → a ≡ b
same_err a b e = cc

not_both : (a : ℕ) (b : Status) → ◌≡◌ {A = Result ℕ Status} (Ok a) (Err b) → ⊥
not_both a b e = absurd cc

-- ---- whole messages

-- lists that are equally long and go on to the same list
front_same : (a b r q : List ℕ) → length a ≡ length b → a ++ r ≡ b ++ q → (a ≡ b) × (r ≡ q)
front_same a b r q size e = (
  sym (take_at a r (length b) size) ∙ (ap (λ z. take (length b) z) e
      ∙ take_at b q (length b) refl),
  sym (drop_at a r (length b) size) ∙ (ap (λ z. drop (length b) z) e
      ∙ drop_at b q (length b) refl),
)

-- the head of a message at the front of the bytes
head_reads : (bytes rest : List ℕ) (message : Message) → IsMessage message
    → bytes ≡ message_bytes message ++ rest
    → ReadsRequest bytes message.head (message.body ++ rest)
head_reads bytes rest message is parts = (
  is.head.valid,
  parts ∙ append_assoc (print_request message.head) message.body rest,
)

-- bytes begin with one message
message_one : (bytes r q : List ℕ) (m k : Message) → IsMessage m → IsMessage k
    → bytes ≡ message_bytes m ++ r → bytes ≡ message_bytes k ++ q → (m ≡ k) × (r ≡ q)
message_one bytes r q m k is its e f =
    let heads = request_unique bytes m.head k.head (m.body ++ r) (k.body ++ q)
    (head_reads bytes r m is e) (head_reads bytes q k its f) in
    let head : m.head ≡ k.head = heads.0 in
    let size : length m.body ≡ length k.body = same_ok (length m.body) (length k.body)
    (sym is.body ∙ (ap body_length head ∙ its.body)) in
    let rests = front_same m.body k.body r q size heads.1 in
    let body : m.body ≡ k.body = rests.0 in
    ((λ i. record { head = head i; body = body i }), rests.1)

-- the first of some messages, and those after it
first_of : (bytes r : List ℕ) (m : Message) (ms : List Message) → AreMessages bytes (m ∷ ms) r
    → IsMessage m × (bytes ≡ message_bytes m ++ (flat_map message_bytes ms ++ r))
    × AreMessages (flat_map message_bytes ms ++ r) ms r
first_of bytes r m ms h = (
  All-head IsMessage m ms h.are,
  h.parts ∙ append_assoc (message_bytes m) (flat_map message_bytes ms) r,
  record { are = All-tail IsMessage m ms h.are; parts = refl },
)

pub cuts_one : (bytes r q : List ℕ) (ms ks : List Message) → AreMessages bytes ms r
    → AreMessages bytes ks q → length ms ≡ length ks → (ms ≡ ks) × (r ≡ q)
cuts_one bytes r q [] [] g h size = (refl, sym g.parts ∙ h.parts)
cuts_one bytes r q [] (k ∷ ks) g h size = absurd (omega arith)
cuts_one bytes r q (m ∷ ms) [] g h size = absurd (omega arith)
cuts_one bytes r q (m ∷ ms) (k ∷ ks) g h size =
    let a = first_of bytes r m ms g in
    let b = first_of bytes q k ks h in
    let firsts = message_one bytes (flat_map message_bytes ms ++ r) (flat_map message_bytes ks ++ q)
    m k a.0 b.0 a.1 b.1 in
    let head : m ≡ k = firsts.0 in
    let others = cuts_one (flat_map message_bytes ms ++ r) r q ms ks a.2
    (subst (λ z. AreMessages z ks q) (sym firsts.1) b.2) (omega arith) in
    let tail : ms ≡ ks = others.0 in
    ((λ i. head i ∷ tail i), others.1)

-- the first so many of some messages, where one more comes after them
pub front_of : (bytes q : List ℕ) (ks : List Message) (n : ℕ) → n < length ks
    → AreMessages bytes ks q
    → (k : Message) × (later : List ℕ) × IsMessage k
    × AreMessages bytes (take n ks) (message_bytes k ++ later)
front_of bytes q [] n l h = absurd (omega arith)
front_of bytes q (k ∷ ks) zero l h =
    let first = first_of bytes q k ks h in (
      k,
      flat_map message_bytes ks ++ q,
      first.0,
      record { are = All-nil IsMessage; parts = first.1 },
    )
front_of bytes q (k ∷ ks) (suc n) l h =
    let first = first_of bytes q k ks h in
    let rest = front_of (flat_map message_bytes ks ++ q) q ks n (omega arith) first.2 in (
      rest.0,
      rest.1,
      rest.2,
      record {
        are = All-cons IsMessage k (take n ks) first.0 rest.3.are;
        parts = first.1 ∙ (ap (λ z. message_bytes k ++ z) rest.3.parts
            ∙ sym (append_assoc (message_bytes k) (flat_map message_bytes (take n ks))
            (message_bytes rest.0 ++ rest.1)));
      },
    )

-- ---- heads

-- a head is some bytes
head_some : (head : RequestHead) → IsRequestHead head → 2 ≤ length (print_request head)
unfolding print_request
head_some head is = let method = is.method.0 in simp length-append (omega arith)

nothing_has : (head : RequestHead) (rest : List ℕ) → ReadsRequest [] head rest → ⊥
nothing_has head rest reads =
    let some = head_some head reads.0 in
    let none : 0 ≡ length (print_request head ++ rest) = ap length reads.1 in
    let size = length-append (print_request head) rest in
    omega arith

-- a head at the front of the bytes is refused for its own fault alone
fault_of : (bytes rest : List ℕ) (head : RequestHead) (status : Status) → IsHead head
    → ReadsRequest bytes head rest → IsRefused bytes status → body_length head ≡ Err status
fault_of bytes rest head status is reads (long other after its much) =
    let same = request_unique bytes head other rest after reads its in
    let size : length (print_request head) ≡ length (print_request other) =
    ap (λ h. length (print_request h)) same.0 in
    let short = is.short in
    absurd (omega arith)
fault_of bytes rest head status is reads (many over exceeds) =
    let much = over [] head rest
    (subst (λ z. ReadsRequest z head rest) (sym (append-nil bytes)) reads) in
    let few = is.few in
    absurd (omega arith)
fault_of bytes rest head status is reads (full none much) = absurd (none head rest reads)
fault_of bytes rest head status is reads (never none) =
    absurd (none [] head rest
    (subst (λ z. ReadsRequest z head rest) (sym (append-nil bytes)) reads))
fault_of bytes rest head status is reads (fault other after said its e says) =
    let same = request_unique bytes head other rest after reads (its.valid, e) in
    ap body_length same.0 ∙ says

-- a refusal is a bad request, or for the fault of a head
refused_so : (bytes : List ℕ) (status : Status) → IsRefused bytes status
    → (status ≡ BadRequest)
    ⊎ ((head : RequestHead) × (after : List ℕ) × IsHead head × ReadsRequest bytes head after
    × (body_length head ≡ Err status))
refused_so bytes status (long head after reads much) = inl refl
refused_so bytes status (many over exceeds) = inl refl
refused_so bytes status (full none much) = inl refl
refused_so bytes status (never none) = inl refl
refused_so bytes status (fault head after said is e says) =
    inr (head, after, is, (is.valid, e), says)

pub status_one : (bytes : List ℕ) (status other : Status) → IsRefused bytes status
    → IsRefused bytes other → status ≡ other
status_one bytes status other g h =
    elim (refused_so bytes status g) [
      | inr a ↦ same_err status other (sym a.4 ∙ fault_of bytes a.1 a.0 other a.2 a.3 h)
      | inl bad ↦ elim (refused_so bytes other h) [
        | inr b ↦ same_err status other (sym (fault_of bytes b.1 b.0 status b.2 b.3 g) ∙ b.4)
        | inl too ↦ bad ∙ sym too
      ]
    ]

-- ---- what comes next

-- a message at the front of the bytes
whole : (bytes rest : List ℕ) (message : Message) → AreMessages bytes (message ∷ []) rest
    → IsMessage message × ReadsRequest bytes message.head (message.body ++ rest)
whole bytes rest message are = let first = first_of bytes rest message [] are in
    (first.0, head_reads bytes rest message first.0 first.1)

pub whole_or_nothing : (bytes rest : List ℕ) (message : Message)
    → AreMessages bytes (message ∷ []) rest → bytes ≡ [] → ⊥
whole_or_nothing bytes rest message are none =
    nothing_has message.head (message.body ++ rest)
    (subst (λ z. ReadsRequest z message.head (message.body ++ rest)) none
    (whole bytes rest message are).1)

pub whole_or_cut : (bytes rest : List ℕ) (message : Message)
    → AreMessages bytes (message ∷ []) rest → IsCut bytes → ⊥
whole_or_cut bytes rest message are (in_head some short none may) =
    none message.head (message.body ++ rest) (whole bytes rest message are).1
whole_or_cut bytes rest message are (in_body head part count is e says less) =
    let its = whole bytes rest message are in
    let same = request_unique bytes message.head head (message.body ++ rest) part its.1
    (is.valid, e) in
    let size : length message.body ≡ count = same_ok (length message.body) count
    (sym its.0.body ∙ (ap body_length same.0 ∙ says)) in
    let all : length (message.body ++ rest) ≡ length part = ap length same.1 in
    let sizes = length-append message.body rest in
    omega arith

pub whole_or_refused : (bytes rest : List ℕ) (message : Message) (status : Status)
    → AreMessages bytes (message ∷ []) rest → IsRefused bytes status → ⊥
whole_or_refused bytes rest message status are refused =
    let its = whole bytes rest message are in
    not_both (length message.body) status
    (sym its.0.body ∙ fault_of bytes (message.body ++ rest) message.head status its.0.head its.1
    refused)

pub nothing_or_cut : IsCut [] → ⊥
nothing_or_cut (in_head some short none may) = omega arith
nothing_or_cut (in_body head part count is e says less) = nothing_has head part (is.valid, e)

-- a head that can come
abbrev root : RequestHead
root = record {
  blank = [];
  method = 71 ∷ [];
  target = 47 ∷ [];
  minor = 1;
  line_end = lf;
  fields = [];
  last = lf;
}

slash_is : (i : ℕ) → get_or (47 ∷ []) i 0 < 128
slash_is zero = omega arith
slash_is (suc i) = omega arith

root_is : IsRequestHead root
unfolding is_token_byte
root_is = record {
  method = (
    omega arith,
    All-cons (λ b. IsTrue (is_token_byte b)) 71 [] refl
        (All-nil (λ b. IsTrue (is_token_byte b))),
  );
  target = (
    omega arith,
    All-cons (λ b. IsTrue (is_uri_byte b)) 47 [] refl (All-nil (λ b. IsTrue (is_uri_byte b))),
  );
  target_text = IsUtf8-from_ascii (47 ∷ []) slash_is;
  minor = omega arith;
  fields = All-nil IsField;
}

pub nothing_or_refused : (status : Status) → IsRefused [] status → ⊥
nothing_or_refused status (long head after reads much) = nothing_has head after reads
nothing_or_refused status (many over exceeds) =
    let front : 0 ≡ length (exceeds.0 ++ exceeds.1) = ap length exceeds.2 in
    let sizes = length-append exceeds.0 exceeds.1 in
    let line : length (exceeds.0 ++ print_end lf) ≡ length (print_request exceeds.3 ++ []) =
    ap length exceeds.4.1 in
    let left = length-append exceeds.0 (print_end lf) in
    let right = length-append (print_request exceeds.3) [] in
    let some = head_some exceeds.3 exceeds.4.0 in
    omega arith
nothing_or_refused status (full none much) = omega arith
nothing_or_refused status (never none) =
    none (print_request root) root [] (root_is, sym (append-nil (print_request root)))
nothing_or_refused status (fault head after said is e says) = nothing_has head after (is.valid, e)

pub cut_or_refused : (bytes : List ℕ) (status : Status) → IsCut bytes → IsRefused bytes status
    → MayBeCutOrRefused bytes
cut_or_refused bytes status (in_body head part count is e says less) refused =
    absurd (not_both count status
    (sym says ∙ fault_of bytes part head status is (is.valid, e) refused))
cut_or_refused bytes status (in_head some short none may) (long head after reads much) =
    absurd (none head after reads)
cut_or_refused bytes status (in_head some short none may) (many over exceeds) = inr exceeds
cut_or_refused bytes status (in_head some short none may) (full absent much) = absurd (omega arith)
cut_or_refused bytes status (in_head some short none may) (never absent) =
    elim may [
      | inl comes ↦ absurd (absent comes.0 comes.1 [] comes.2)
      | inr inside ↦ inl inside
    ]
cut_or_refused bytes status (in_head some short none may) (fault head after said is e says) =
    absurd (none head after (is.valid, e))
