-- The pieces of the lines of what is kept, joined.
use Rattle.std.proofs.Common.{◌≡◌, ℕ, List, [], ◌∷◌, ◌++◌, sym, ap, ◌∙◌, append_assoc}
use Rattle.std.proofs.Common.{append-nil}
use Rattle.std.specs.List.{join_with_byte, concat}
use Rattle.ftd_answers.specs.declared.values.AmountColumn.{AmountColumn}
use Rattle.ftd_answers.proofs.LineFacts.{column, three}

-- the last column, and the end of the line
last : (a end : List ℕ) → a ++ end ≡ a ++ (end ++ [])
last a end = ap (λ z. a ++ z) (sym (append-nil end))

pub name_parts : (n s : List ℕ) → (n ++ s) ++ (32 ∷ []) ≡ concat (n ∷ s ∷ (32 ∷ []) ∷ [])
name_parts n s = append_assoc n s (32 ∷ [])

pub enrolled_parts : (f d end : List ℕ) → join_with_byte 32 (f ∷ d ∷ []) ++ end
    ≡ concat (f ∷ (32 ∷ []) ∷ d ∷ end ∷ [])
enrolled_parts f d end = column f _ _ _ (last d end)

pub year_parts : (y s d c o k : List ℕ) → join_with_byte 32 (y ∷ (s ++ d ++ c) ∷ o ∷ []) ++ k
    ≡ concat (y ∷ (32 ∷ []) ∷ s ∷ d ∷ c ∷ (32 ∷ []) ∷ o ∷ k ∷ [])
year_parts y s d c o k = column y _ _ _ (three s d c _ _ _ (last o k))

pub amount_parts : (s d c : List ℕ) → s ++ d ++ c ≡ concat (s ∷ d ∷ c ∷ [])
amount_parts s d c = simp (append_assoc, append-nil)

pub total_parts : (y a end : List ℕ) → join_with_byte 32 (y ∷ a ∷ []) ++ end
    ≡ concat (y ∷ (32 ∷ []) ∷ []) ++ (a ++ end)
total_parts y a end = simp append_assoc

pub run_parts : (x y z : AmountColumn) {p q k h end tail fit ss medicare : List ℕ} → p ≡ q
    → x.spaces.now ++ x.dollars.now ++ x.cents ≡ fit → y.spaces.now ++ y.dollars.now ++ y.cents ≡ ss
    → z.spaces.now ++ z.dollars.now ++ z.cents ≡ medicare → k ≡ h → end ≡ tail
    → concat (p ∷ (32 ∷ []) ∷ x.spaces.now ∷ x.dollars.now ∷ x.cents ∷ (32 ∷ []) ∷ y.spaces.now
    ∷ y.dollars.now ∷ y.cents ∷ (32 ∷ []) ∷ z.spaces.now ∷ z.dollars.now ∷ z.cents ∷ (32 ∷ []) ∷ k
    ∷ end ∷ []) ≡ join_with_byte 32 (q ∷ fit ∷ ss ∷ medicare ∷ h ∷ []) ++ tail
run_parts x y z {p = p} {k = k} {end = end} day first second third number void =
    rw (← day, ← first, ← second, ← third, ← number, ← void) (sym (column p _ _ _
    (three x.spaces.now _ _ _ _ _ (three y.spaces.now _ _ _ _ _ (three z.spaces.now _ _ _ _ _
    (last k end))))))

pub payment_parts : (x : AmountColumn) {q r p o h g k j end tail amount : List ℕ} → q ≡ r
    → x.spaces.now ++ x.dollars.now ++ x.cents ≡ amount → p ≡ o → h ≡ g → k ≡ j → end ≡ tail
    → concat (q ∷ (32 ∷ []) ∷ x.spaces.now ∷ x.dollars.now ∷ x.cents ∷ (32 ∷ []) ∷ p ∷ (32 ∷ [])
    ∷ h ∷ (32 ∷ []) ∷ k ∷ end ∷ []) ≡ join_with_byte 32 (r ∷ amount ∷ o ∷ g ∷ j ∷ []) ++ tail
payment_parts x {q = q} {p = p} {h = h} {k = k} {end = end} day cents paid held number void =
    rw (← day, ← cents, ← paid, ← held, ← number, ← void) (sym (column q _ _ _
    (three x.spaces.now _ _ _ _ _ (column p _ _ _ (column h _ _ _ (last k end))))))

pub payday_parts : (x y : AmountColumn) {q r amount total : List ℕ} → q ≡ r
    → x.spaces.now ++ x.dollars.now ++ x.cents ≡ amount
    → y.spaces.now ++ y.dollars.now ++ y.cents ≡ total
    → concat (q ∷ (32 ∷ []) ∷ x.spaces.now ∷ x.dollars.now ∷ x.cents ∷ (32 ∷ []) ∷ y.spaces.now
    ∷ y.dollars.now ∷ y.cents ∷ (10 ∷ []) ∷ [])
    ≡ join_with_byte 32 (r ∷ amount ∷ total ∷ []) ++ (10 ∷ [])
payday_parts x y {q = q} day first second =
    rw (← day, ← first, ← second) (sym (column q _ _ _ (three x.spaces.now _ _ _ _ _
    (append_assoc (y.spaces.now ++ y.dollars.now) y.cents (10 ∷ [])
    ∙ append_assoc y.spaces.now y.dollars.now (y.cents ++ (10 ∷ []))))))

pub obligation_parts : (x : AmountColumn) {f l r u first end rule due amount : List ℕ} → f ≡ first
    → l ≡ end → r ≡ rule → x.spaces.now ++ x.dollars.now ++ x.cents ≡ amount → u ≡ due
    → concat (f ∷ (32 ∷ []) ∷ l ∷ (32 ∷ []) ∷ r ∷ (32 ∷ []) ∷ x.spaces.now ∷ x.dollars.now ∷ x.cents
    ∷ (32 ∷ []) ∷ u ∷ (10 ∷ []) ∷ [])
    ≡ join_with_byte 32 (first ∷ end ∷ rule ∷ amount ∷ due ∷ []) ++ (10 ∷ [])
obligation_parts x {f = f} {l = l} {r = r} {u = u} from to by cents when =
    rw (← from, ← to, ← by, ← cents, ← when) (sym (column f _ _ _ (column l _ _ _ (column r _ _ _
    (three x.spaces.now _ _ _ _ _ (last u (10 ∷ [])))))))

pub money_parts : (x y z : AmountColumn) {f l first end amount paid over : List ℕ} → f ≡ first
    → l ≡ end → x.spaces.now ++ x.dollars.now ++ x.cents ≡ amount
    → y.spaces.now ++ y.dollars.now ++ y.cents ≡ paid
    → z.spaces.now ++ z.dollars.now ++ z.cents ≡ over
    → concat (f ∷ (32 ∷ []) ∷ l ∷ (32 ∷ []) ∷ x.spaces.now ∷ x.dollars.now ∷ x.cents ∷ (32 ∷ [])
    ∷ y.spaces.now ∷ y.dollars.now ∷ y.cents ∷ (32 ∷ []) ∷ z.spaces.now ∷ z.dollars.now ∷ z.cents
    ∷ (32 ∷ []) ∷ [])
    ≡ join_with_byte 32 (first ∷ end ∷ amount ∷ paid ∷ over ∷ []) ++ (32 ∷ [])
money_parts x y z {f = f} {l = l} from to first second third =
    rw (← from, ← to, ← first, ← second, ← third) (sym (column f _ _ _ (column l _ _ _
    (three x.spaces.now _ _ _ _ _ (three y.spaces.now _ _ _ _ _
    (append_assoc (z.spaces.now ++ z.dollars.now) z.cents (32 ∷ [])
    ∙ append_assoc z.spaces.now z.dollars.now (z.cents ++ (32 ∷ []))))))))
