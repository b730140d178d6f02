-- The bytes of a connection are cut into messages in one way.
use Rattle.std.proofs.Common.{◌≡◌, ◌≤◌, ◌<◌, ◌+◌, ◌++◌, ◌⊎◌, inl, inr, ℕ, true, false, List, []}
use Rattle.std.proofs.Common.{◌∷◌, length, take, get_or, Option, Some, None, refl, sym, ap, ◌∙◌}
use Rattle.std.proofs.Common.{subst, arith, append-nil, length-append, length-take-le, get_or-take}
use Rattle.std.proofs.lemmas.Bool.{cases_order, false≢true}
use Rattle.std.proofs.lemmas.List.{get_or_append_left, get_or_push}
use Rattle.std.proofs.lemmas.List.Elements.{All-nil, All-cons}
use Rattle.ftd_http.specs.Messages.{Message, IsMessage, message_bytes, AreMessages}
use Rattle.ftd_http.specs.Messages.{IsRefused, IsCut, MayBeCutOrRefused}
use Rattle.ftd_http.specs.declared.status.Status.{Status}
use Rattle.ftd_http.proofs.CutFacts.{cuts_one, front_of, status_one, whole_or_nothing}
use Rattle.ftd_http.proofs.CutFacts.{whole_or_cut, whole_or_refused, nothing_or_refused}
use Rattle.ftd_http.proofs.CutFacts.{cut_or_refused}
use Rattle.ftd_connections.specs.Serving.{AreOpen, Ends, closed, idled, truncated, bad, asked}
use Rattle.ftd_connections.specs.Serving.{asks_to_end, limit}
use Rattle.ftd_connections.specs.declared.connection.End.{End}

-- after each message but the last the connection stays open
stays_open : (rest : List ℕ) (ms : List Message) (refusal : Option Status) (how : End)
    → Ends rest ms refusal how → (n : ℕ) (d : Message) → n + 1 < length ms
    → asks_to_end (get_or ms n d) ≡ false
stays_open rest ms refusal how (closed messages stay none) n d l = stay.stay n d (omega arith)
stays_open rest ms refusal how (idled messages stay none) n d l = stay.stay n d (omega arith)
stays_open rest ms refusal how (truncated messages stay cut) n d l = stay.stay n d (omega arith)
stays_open rest ms refusal how (bad messages status stay refused) n d l =
    stay.stay n d (omega arith)
stays_open rest ms refusal how (asked messages last stay closing) n d l =
    let size = length-append messages (last ∷ []) in
    ap asks_to_end (get_or_append_left messages (last ∷ []) d n (omega arith))
    ∙ stay.stay n d (omega arith)
stays_open rest ms refusal how (limit messages last stay closing all) n d l =
    let size = length-append messages (last ∷ []) in
    ap asks_to_end (get_or_append_left messages (last ∷ []) d n (omega arith))
    ∙ stay.stay n d (omega arith)

at_most_hundred : (rest : List ℕ) (ms : List Message) (refusal : Option Status) (how : End)
    → Ends rest ms refusal how → length ms ≤ 100
at_most_hundred rest ms refusal how (closed messages stay none) = let few = stay.few in omega arith
at_most_hundred rest ms refusal how (idled messages stay none) = let few = stay.few in omega arith
at_most_hundred rest ms refusal how (truncated messages stay cut) =
    let few = stay.few in omega arith
at_most_hundred rest ms refusal how (bad messages status stay refused) =
    let few = stay.few in omega arith
at_most_hundred rest ms refusal how (asked messages last stay closing) =
    let few = stay.few in
    let size = length-append messages (last ∷ []) in
    omega arith
at_most_hundred rest ms refusal how (limit messages last stay closing all) =
    let size = length-append messages (last ∷ []) in omega arith

-- no message comes next
abbrev NoneNext : List ℕ → Type 0
NoneNext rest = (k : Message) (later : List ℕ) → AreMessages rest (k ∷ []) later → ⊥

-- the last message asks for the end
abbrev LastCloses : List Message → Type 0
LastCloses ms =
    (messages : List Message) × (last : Message) × (ms ≡ messages ++ last ∷ [])
    × (asks_to_end last ≡ true)

stops_there : (rest : List ℕ) (ms : List Message) (refusal : Option Status) (how : End)
    → Ends rest ms refusal how → NoneNext rest ⊎ (LastCloses ms ⊎ (100 ≤ length ms))
stops_there rest ms refusal how (closed messages stay none) =
    inl (λ k later are. whole_or_nothing rest later k are none)
stops_there rest ms refusal how (idled messages stay none) =
    inl (λ k later are. whole_or_nothing rest later k are none)
stops_there rest ms refusal how (truncated messages stay cut) =
    inl (λ k later are. whole_or_cut rest later k are cut)
stops_there rest ms refusal how (bad messages status stay refused) =
    inl (λ k later are. whole_or_refused rest later k status are refused)
stops_there rest ms refusal how (asked messages last stay closing) =
    inr (inl (messages, last, refl, closing))
stops_there rest ms refusal how (limit messages last stay closing all) =
    let size = length-append messages (last ∷ []) in inr (inr (omega arith))

-- so a cut does not end where another one goes on
no_shorter : (bytes r q : List ℕ) (ms ks : List Message) (refusal other_refusal : Option Status)
    (how other : End)
    → AreMessages bytes ms r → Ends r ms refusal how
    → AreMessages bytes ks q → Ends q ks other_refusal other → length ms < length ks → ⊥
no_shorter bytes r q ms ks refusal other_refusal how other g ends h goes less =
    let front = front_of bytes q ks (length ms) less h in
    let size : length ms ≡ length (take (length ms) ks) =
    sym (length-take-le (length ms) ks (omega arith)) in
    let same = cuts_one bytes r (message_bytes front.0 ++ front.1) ms (take (length ms) ks) g
    front.3 size in
    elim (stops_there r ms refusal how ends) [
      | inl none ↦ none front.0 front.1 (record {
        are = All-cons IsMessage front.0 [] front.2 (All-nil IsMessage);
        parts = same.1 ∙ ap (λ z. z ++ front.1) (sym (append-nil (message_bytes front.0)));
      })
      | inr (inl its) ↦
          let n : ℕ = length its.0 in
          let one : length ms ≡ n + 1 = ap length its.2 ∙ length-append its.0 (its.1 ∷ []) in
          let stay = stays_open q ks other_refusal other goes n its.1 (omega arith) in
          let at : get_or ks n its.1 ≡ its.1 =
          sym (get_or-take (length ms) ks n its.1 (omega arith))
          ∙ (ap (λ z. get_or z n its.1) (sym same.0 ∙ its.2)
          ∙ get_or_push its.0 its.1 its.1 n refl) in
          false≢true (sym stay ∙ (ap asks_to_end at ∙ its.3))
      | inr (inr all) ↦ (let most = at_most_hundred q ks other_refusal other goes in omega arith)
    ]

pub cut_one : (bytes r q : List ℕ) (ms ks : List Message) (refusal other_refusal : Option Status)
    (how other : End)
    → AreMessages bytes ms r → Ends r ms refusal how
    → AreMessages bytes ks q → Ends q ks other_refusal other → (ms ≡ ks) × (r ≡ q)
cut_one bytes r q ms ks refusal other_refusal how other g ends h goes =
    elim (cases_order (length ms) (length ks)) [
      | inl same ↦ cuts_one bytes r q ms ks g h same
      | inr (inl less) ↦
          absurd (no_shorter bytes r q ms ks refusal other_refusal how other g ends h goes less)
      | inr (inr more) ↦
          absurd (no_shorter bytes q r ks ms other_refusal refusal other how h goes g ends more)
    ]

-- ---- refusals

-- why no message is refused
abbrev NoneRefused : List ℕ → List Message → Type 0
NoneRefused rest ms = (rest ≡ []) ⊎ (IsCut rest ⊎ (AreOpen ms → ⊥))

refusal_so : (rest : List ℕ) (ms : List Message) (refusal : Option Status) (how : End)
    → Ends rest ms refusal how
    → ((status : Status) × (refusal ≡ Some status) × AreOpen ms × IsRefused rest status)
    ⊎ ((refusal ≡ None) × NoneRefused rest ms)
refusal_so rest ms refusal how (closed messages stay none) = inr (refl, inl none)
refusal_so rest ms refusal how (idled messages stay none) = inr (refl, inl none)
refusal_so rest ms refusal how (truncated messages stay cut) = inr (refl, inr (inl cut))
refusal_so rest ms refusal how (bad messages status stay refused) =
    inl (status, refl, stay, refused)
refusal_so rest ms refusal how (asked messages last stay closing) =
    inr (
      refl,
      inr (inr (λ open_still.
          let size = length-append messages (last ∷ []) in
          let at = get_or_push messages last last (length messages) refl in
          let still = open_still.stay (length messages) last (omega arith) in
          false≢true (sym still ∙ (ap asks_to_end at ∙ closing)))),
    )
refusal_so rest ms refusal how (limit messages last stay closing all) =
    inr (
      refl,
      inr (inr (λ open_still.
          let size = length-append messages (last ∷ []) in
          let few = open_still.few in
          omega arith)),
    )

refused_or_not : (rest : List ℕ) (ms : List Message) (status : Status) → AreOpen ms
    → IsRefused rest status → NoneRefused rest ms → MayBeCutOrRefused rest
refused_or_not rest ms status stay refused (inl none) =
    absurd (nothing_or_refused status (subst (λ z. IsRefused z status) none refused))
refused_or_not rest ms status stay refused (inr (inl cut)) = cut_or_refused rest status cut refused
refused_or_not rest ms status stay refused (inr (inr not_open)) = absurd (not_open stay)

pub refusal_one : (rest : List ℕ) (ms : List Message) (refusal other_refusal : Option Status)
    (how other : End) → Ends rest ms refusal how → Ends rest ms other_refusal other
    → (refusal ≡ other_refusal) ⊎ MayBeCutOrRefused rest
refusal_one rest ms refusal other_refusal how other ends goes =
    elim (refusal_so rest ms refusal how ends) [
      | inl some ↦ elim (refusal_so rest ms other_refusal other goes) [
        | inl its ↦ inl (some.1 ∙ (ap Some (status_one rest some.0 its.0 some.3 its.3)
            ∙ sym its.1))
        | inr none ↦ inr (refused_or_not rest ms some.0 some.2 some.3 none.1)
      ]
      | inr none ↦ elim (refusal_so rest ms other_refusal other goes) [
        | inl its ↦ inr (refused_or_not rest ms its.0 its.2 its.3 none.1)
        | inr too ↦ inl (none.0 ∙ sym too.0)
      ]
    ]
