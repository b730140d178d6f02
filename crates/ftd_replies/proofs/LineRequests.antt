-- What the words of a pay run and of a payment ask, each a value at its place.
use Rattle.std.proofs.Common.{◌≡◌, ◌<◌, ◌^◌, ◌∙◌, ℕ, Bool, true, false, List, [], ◌∷◌, Option, None}
use Rattle.std.proofs.Common.{Some, ap, arith, cond, length, nat_lt, option_map, refl, subst, sym}
use Rattle.std.specs.Prelude.{◌&&◌, ◌++◌, IfSome, codes, option_and_then}
use Rattle.std.specs.Str.{all_ascii_digits}
use Rattle.std.specs.Fmt.{decimal}
use Rattle.std.specs.Str.{bytes_eq}
use Rattle.std.specs.Str.Parse.{without_leading_plus}
use Rattle.std.proofs.lemmas.Bool.Decides.{nat_tests}
use Rattle.std.proofs.lemmas.Option.{option_and_then_some}
use Rattle.ftd_cli.specs.Tasks.{command_named, task_of}
use Rattle.ftd_cli.specs.Words.{amount_of}
use Rattle.ftd_days.specs.Digits.{number_of}
use Rattle.ftd_days.specs.Spelling.{cents_of, day_of, whole_number}
use Rattle.ftd_days.specs.declared.cents.Cents.{Cents}
use Rattle.ftd_days.proofs.Spelling.{same_text}
use Rattle.ftd_rules.specs.declared.payment.Payment.{Payment}
use Rattle.ftd_rules.specs.declared.run.PayRun.{PayRun}
use Rattle.ftd_machine.specs.declared.requests.Request.{Request}
use Rattle.ftd_machine.specs.declared.requests.Request.TheVariants as request
use Rattle.ftd_verbs.specs.Rows.{row_of}
use Rattle.ftd_verbs.specs.declared.rows.Verb.TheVariants as verb
use Rattle.ftd_replies.specs.LineRequests.{AlwaysAsk, as_printed, is_value, name_in, number_in}
use Rattle.ftd_replies.specs.LineRequests.{pay_in, payment_in, post_in, request_in, run_in, value_as}
use Rattle.ftd_replies.proofs.LineValues.{value_first}
use Rattle.ftd_replies.proofs.LineVerbs.{IsNumberText, Spells, pay_asks, post_asks}
use Rattle.ftd_replies.proofs.RequestLines.{number_text}

-- ---- values

-- where a value is made of another, that is there
map_some : {X Y P : Type 0} (f : X → Y) (o : Option X) (y : Y) → option_map f o ≡ Some y
    → ((x : X) → o ≡ Some x → f x ≡ y → P) → P
map_some f None y e k = cc e
map_some f (Some x) y e k = k x refl (cc e)

-- a value spells what it is read as
value_spells : {X : Type 0} (reads : List ℕ → Option X) (word : List ℕ) (x : X)
    → value_as reads word ≡ Some x → Spells reads word x
value_spells {X} reads word x e = go (is_value word) refl e
  where
    go : (b : Bool) → is_value word ≡ b → cond b (reads word) None ≡ Some x → Spells reads word x
    go true is e = (is, e)
    go false is e = cc e

amount_spells : (word : List ℕ) (cents : Cents) → value_as amount_of word ≡ Some cents
    → Spells cents_of word cents.0
amount_spells word cents e =
    let spells = value_spells amount_of word cents e in (
      spells.0,
      map_some _ (cents_of word) cents spells.1 (λ x is same. is ∙ ap (λ (c : Cents). Some c.0) same),
    )

-- a name is a value
name_is : (word name : List ℕ) → name_in word ≡ Some name
    → (is_value word ≡ true) × (word ≡ name)
name_is word name e =
    let spells = value_spells Some word name e in (spells.0, cc spells.1)

-- a number that a text spells is small
whole_small : (text : List ℕ) (n : ℕ) → whole_number text ≡ Some n → n < 2 ^ 32
unfolding whole_number
whole_small text n e = go some digits small refl refl refl e
  where
    ds : List ℕ
    ds = without_leading_plus text

    some : Bool
    some = nat_lt 0 (length ds)

    digits : Bool
    digits = all_ascii_digits ds

    small : Bool
    small = nat_lt (number_of ds) (2 ^ 32)

    go : (a b c : Bool) → some ≡ a → digits ≡ b → small ≡ c
        → cond (a && b && c) (Some (number_of ds)) None ≡ Some n → n < 2 ^ 32
    go true true true l m s e =
        let test : nat_lt (number_of ds) (2 ^ 32) ≡ true = s in
        let below : number_of ds < 2 ^ 32 = grind (arith, nat_tests) in
        let is : number_of ds ≡ n = cc e in subst (λ k. k < 2 ^ 32) is below
    go true true false l m s e = cc e
    go true false c l m s e = cc e
    go false b c l m s e = cc e

-- a number as it is printed is one that arguments take
number_spells : (word : List ℕ) (n : ℕ) → number_in word ≡ Some n → IsNumberText word n
number_spells word n e =
    option_and_then_some (as_printed word) (whole_number word) n e
    (λ m read printed. go m read (bytes_eq (decimal m) word) refl printed)
  where
    go : (m : ℕ) → whole_number word ≡ Some m → (b : Bool) → bytes_eq (decimal m) word ≡ b
        → cond b (Some m) None ≡ Some n → IsNumberText word n
    go m read true same e =
        let is : m ≡ n = cc e in
        subst (λ text. IsNumberText text n) (ap decimal (sym is) ∙ same_text (decimal m) word same)
        (number_text n (subst (λ k. k < 2 ^ 32) is (whole_small word m read)))
    go m read false same e = cc e

-- ---- a pay run and a payment

-- the values of a pay run
record SpellsRun (payday fit ss medicare : List ℕ) (run : PayRun) : Type 0 where
  day : Spells day_of payday run.payday
  tax : Spells cents_of fit run.fit.0
  social : Spells cents_of ss run.ss.0
  care : Spells cents_of medicare run.medicare.0

run_spells : (payday fit ss medicare : List ℕ) (run : PayRun)
    → run_in payday fit ss medicare ≡ Some run → SpellsRun payday fit ss medicare run
run_spells payday fit ss medicare run e =
    option_and_then_some _ (value_as day_of payday) run e (λ day is_day e1.
    option_and_then_some _ (value_as amount_of fit) run e1 (λ tax is_tax e2.
    option_and_then_some _ (value_as amount_of ss) run e2 (λ social is_social e3.
    map_some _ (value_as amount_of medicare) run e3 (λ care is_care same.
    subst (SpellsRun payday fit ss medicare) same (record {
      day = value_spells day_of payday day is_day;
      tax = amount_spells fit tax is_tax;
      social = amount_spells ss social is_social;
      care = amount_spells medicare care is_care;
    })))))

record SpellsPayment (paid for_day cents : List ℕ) (payment : Payment) : Type 0 where
  day : Spells day_of paid payment.paid
  other : Spells day_of for_day payment.for_day
  amount : Spells cents_of cents payment.cents.0

payment_spells : (paid for_day cents : List ℕ) (payment : Payment)
    → payment_in paid for_day cents ≡ Some payment → SpellsPayment paid for_day cents payment
payment_spells paid for_day cents payment e =
    option_and_then_some _ (value_as day_of paid) payment e (λ day is_day e1.
    option_and_then_some _ (value_as day_of for_day) payment e1 (λ other is_other e2.
    map_some _ (value_as amount_of cents) payment e2 (λ amount is_amount same.
    subst (SpellsPayment paid for_day cents) same (record {
      day = value_spells day_of paid day is_day;
      other = value_spells day_of for_day other is_other;
      amount = amount_spells cents amount is_amount;
    }))))

-- ---- what the words ask

post_words : (account number payday fit ss medicare : List ℕ) (n : ℕ) (run : PayRun)
    → is_value account ≡ true → IsNumberText number n → SpellsRun payday fit ss medicare run
    → AlwaysAsk ((row_of verb.Post).command ∷ account ∷ number ∷ payday ∷ fit ∷ ss ∷ medicare ∷ [])
    (request.Post account n run)
unfolding command_named
post_words account number payday fit ss medicare n run a b r = λ today db.
    ap (λ words. task_of today (codes "ftd" ∷ (row_of verb.Post).command
    ∷ (codes "--db=" ++ db) ∷ codes "--wait=0" ∷ words)) (value_first db account _ a)
    ∙ post_asks today db account number n payday run.payday fit run.fit ss run.ss medicare
    run.medicare a b r.day r.tax r.social r.care

pay_words : (account number paid for_day cents : List ℕ) (n : ℕ) (payment : Payment)
    → is_value account ≡ true → IsNumberText number n → SpellsPayment paid for_day cents payment
    → AlwaysAsk ((row_of verb.Pay).command ∷ account ∷ number ∷ paid ∷ for_day ∷ cents ∷ [])
    (request.Pay account n payment)
unfolding command_named
pay_words account number paid for_day cents n payment a b r = λ today db.
    ap (λ words. task_of today (codes "ftd" ∷ (row_of verb.Pay).command
    ∷ (codes "--db=" ++ db) ∷ codes "--wait=0" ∷ words)) (value_first db account _ a)
    ∙ pay_asks today db account number n paid payment.paid for_day payment.for_day cents
    payment.cents a b r.day r.other r.amount

post_request : (words : List (List ℕ)) (asked : Request) → post_in words ≡ Some asked
    → AlwaysAsk ((row_of verb.Post).command ∷ words) asked
post_request [] asked e = cc e
post_request (a ∷ []) asked e = cc e
post_request (a ∷ b ∷ []) asked e = cc e
post_request (a ∷ b ∷ c ∷ []) asked e = cc e
post_request (a ∷ b ∷ c ∷ d ∷ []) asked e = cc e
post_request (a ∷ b ∷ c ∷ d ∷ f ∷ []) asked e = cc e
post_request (a ∷ b ∷ c ∷ d ∷ f ∷ g ∷ h ∷ others) asked e = cc e
post_request (account ∷ number ∷ payday ∷ fit ∷ ss ∷ medicare ∷ []) asked e =
    option_and_then_some _ (number_in number) asked e (λ n is_n e1.
    option_and_then_some _ (run_in payday fit ss medicare) asked e1 (λ run is_run e2.
    map_some _ (name_in account) asked e2 (λ name is_name same.
    let named = name_is account name is_name in
    let words : List (List ℕ) =
    (row_of verb.Post).command ∷ account ∷ number ∷ payday ∷ fit ∷ ss ∷ medicare ∷ [] in
    subst (AlwaysAsk words) (ap (λ x. request.Post x n run) named.1 ∙ same)
    (post_words account number payday fit ss medicare n run named.0 (number_spells number n is_n)
    (run_spells payday fit ss medicare run is_run)))))

pay_request : (words : List (List ℕ)) (asked : Request) → pay_in words ≡ Some asked
    → AlwaysAsk ((row_of verb.Pay).command ∷ words) asked
pay_request [] asked e = cc e
pay_request (a ∷ []) asked e = cc e
pay_request (a ∷ b ∷ []) asked e = cc e
pay_request (a ∷ b ∷ c ∷ []) asked e = cc e
pay_request (a ∷ b ∷ c ∷ d ∷ []) asked e = cc e
pay_request (a ∷ b ∷ c ∷ d ∷ f ∷ g ∷ others) asked e = cc e
pay_request (account ∷ number ∷ paid ∷ for_day ∷ cents ∷ []) asked e =
    option_and_then_some _ (number_in number) asked e (λ n is_n e1.
    option_and_then_some _ (payment_in paid for_day cents) asked e1 (λ payment is_payment e2.
    map_some _ (name_in account) asked e2 (λ name is_name same.
    let named = name_is account name is_name in
    let words : List (List ℕ) =
    (row_of verb.Pay).command ∷ account ∷ number ∷ paid ∷ for_day ∷ cents ∷ [] in
    subst (AlwaysAsk words) (ap (λ x. request.Pay x n payment) named.1 ∙ same)
    (pay_words account number paid for_day cents n payment named.0 (number_spells number n is_n)
    (payment_spells paid for_day cents payment is_payment)))))

-- a request that is read of words is the one that the command line asks by them
request_asks : (words : List (List ℕ)) (asked : Request) → request_in words ≡ Some asked
    → AlwaysAsk words asked
request_asks [] asked e = cc e
request_asks (name ∷ words) asked e =
    go (bytes_eq name (row_of verb.Post).command) (bytes_eq name (row_of verb.Pay).command) refl refl
    e
  where
    go : (post pay : Bool) → bytes_eq name (row_of verb.Post).command ≡ post
        → bytes_eq name (row_of verb.Pay).command ≡ pay
        → cond post (post_in words) (cond pay (pay_in words) None) ≡ Some asked
        → AlwaysAsk (name ∷ words) asked
    go true pay is other e =
        subst (λ text. AlwaysAsk (text ∷ words) asked)
        (sym (same_text name (row_of verb.Post).command is)) (post_request words asked e)
    go false true other is e =
        subst (λ text. AlwaysAsk (text ∷ words) asked)
        (sym (same_text name (row_of verb.Pay).command is)) (pay_request words asked e)
    go false false is other e = cc e

pub found_asks : (words : List (List ℕ)) (found : Option Request) → found ≡ request_in words
    → IfSome found (AlwaysAsk words)
found_asks words None is = tt
found_asks words (Some asked) is = request_asks words asked (sym is)
