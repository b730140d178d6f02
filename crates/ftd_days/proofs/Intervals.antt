-- The close and the first day of an interval, by arithmetic.
use Rattle.std.proofs.Common.{◌≡◌, ℕ, ◌+◌, ◌-◌, ◌%◌, ◌<◌, ◌≤◌, ◌⊎◌, ◌↔◌, inl, inr, arith}
use Rattle.std.proofs.lemmas.Bool.{cases_order, lt-ltb, le-ltb, cases_lt}
use Rattle.ftd_days.specs.Calendar.{IsClose, IsIntervalStart}
use Rattle.ftd_days.specs.Private.Intervals.{interval_start, interval_close}

-- the close, by the weekday
close_value : (d : ℕ) → (((d + 5) % 7 < 3) × (interval_close d + (d + 5) % 7 ≡ d + 2))
    ⊎ ((3 ≤ (d + 5) % 7) × (interval_close d + (d + 5) % 7 ≡ d + 6))
close_value d =
    elim (cases_lt ((d + 5) % 7) 3) [
      | inl l ↦ inl (l, rw (lt-ltb ((d + 5) % 7) 3 l) (omega arith))
      | inr m ↦ inr (m, rw (le-ltb ((d + 5) % 7) 3 m) (omega arith))
    ]

start_value : (d : ℕ) → (((d + 5) % 7 < 3) × (interval_start d ≡ d - (d + 5) % 7))
    ⊎ ((3 ≤ (d + 5) % 7) × (interval_start d ≡ d - ((d + 5) % 7 - 3)))
start_value d =
    elim (cases_lt ((d + 5) % 7) 3) [
      | inl l ↦ inl (l, rw (lt-ltb ((d + 5) % 7) 3 l) (omega arith))
      | inr m ↦ inr (m, rw (le-ltb ((d + 5) % 7) 3 m) (omega arith))
    ]

pub close_is : (d : ℕ) → IsClose d (interval_close d)
close_is d = let value = close_value d in
    record {
      not_before = omega arith;
      holds = elim value [ inl v ↦ inr (omega arith) | inr v ↦ inl (omega arith) ];
      first = λ e l m h. omega arith;
    }

pub close_only : (d close : ℕ) → IsClose d close → close ≡ interval_close d
close_only d close h =
    let is = close_is d in
    elim (cases_order close (interval_close d)) [
      | inl e ↦ e
      | inr (inl less) ↦ absurd (is.first close h.not_before less h.holds)
      | inr (inr more) ↦ absurd (h.first (interval_close d) is.not_before more is.holds)
    ]

pub start_is : (d : ℕ) → 7 ≤ d → IsIntervalStart d (interval_start d)
start_is d l = let value = start_value d in
    record {
      not_after = omega arith;
      holds = elim value [ inl v ↦ inl (omega arith) | inr v ↦ inr (omega arith) ];
      last = λ e a b h. omega arith;
    }

pub start_only : (d start : ℕ) → 7 ≤ d → IsIntervalStart d start → start ≡ interval_start d
start_only d start l h =
    let is = start_is d l in
    elim (cases_order start (interval_start d)) [
      | inl e ↦ e
      | inr (inl less) ↦ absurd (h.last (interval_start d) less is.not_after is.holds)
      | inr (inr more) ↦ absurd (is.last start more h.not_after h.holds)
    ]

-- how the first day and the close of an interval go together
abbrev Ends : ℕ → ℕ → Type 0
Ends start close = ((start % 7 ≡ 2) × (close ≡ start + 2))
    ⊎ (((start % 7 ≡ 5) × (close ≡ start + 3)) ⊎ ((start ≡ 0) × (close ≡ 1)))

ends : (d : ℕ) → Ends (interval_start d) (interval_close d)
ends d =
    elim (close_value d) [
      | inl v ↦ elim (start_value d) [
        | inl w ↦ (let v0 = v.0 in let v1 = v.1 in let w1 = w.1 in inl (omega arith, omega arith))
        | inr w ↦ absurd (let v0 = v.0 in let w0 = w.0 in omega arith)
      ]
      | inr v ↦ elim (start_value d) [
        | inl w ↦ absurd (let v0 = v.0 in let w0 = w.0 in omega arith)
        | inr w ↦
            let v0 = v.0 in let v1 = v.1 in let w1 = w.1 in
            elim (cases_lt d 2) [
              | inl early ↦ inr (inr (omega arith, omega arith))
              | inr later ↦ inr (inl (omega arith, omega arith))
            ]
      ]
    ]

same_start : (s c t k : ℕ) → Ends s c → Ends t k → k ≡ c → t ≡ s
same_start s c t k (inl v) (inl w) e = let a = v.1 in let b = w.1 in omega arith
same_start s c t k (inl v) (inr (inl w)) e = let a = v.1 in let b = w.1 in let f = v.0 in
    let g = w.0 in omega arith
same_start s c t k (inl v) (inr (inr w)) e = let a = v.1 in let b = w.1 in omega arith
same_start s c t k (inr (inl v)) (inl w) e = let a = v.1 in let b = w.1 in let f = v.0 in
    let g = w.0 in omega arith
same_start s c t k (inr (inl v)) (inr (inl w)) e = let a = v.1 in let b = w.1 in omega arith
same_start s c t k (inr (inl v)) (inr (inr w)) e = let a = v.1 in let b = w.1 in omega arith
same_start s c t k (inr (inr v)) (inl w) e = let a = v.1 in let b = w.1 in omega arith
same_start s c t k (inr (inr v)) (inr (inl w)) e = let a = v.1 in let b = w.1 in omega arith
same_start s c t k (inr (inr v)) (inr (inr w)) e = let a = v.0 in let b = w.0 in omega arith

same_close : (s c t k : ℕ) → Ends s c → Ends t k → t ≡ s → k ≡ c
same_close s c t k (inl v) (inl w) e = let a = v.1 in let b = w.1 in omega arith
same_close s c t k (inl v) (inr (inl w)) e = let f = v.0 in let g = w.0 in omega arith
same_close s c t k (inl v) (inr (inr w)) e = let f = v.0 in let g = w.0 in omega arith
same_close s c t k (inr (inl v)) (inl w) e = let f = v.0 in let g = w.0 in omega arith
same_close s c t k (inr (inl v)) (inr (inl w)) e = let a = v.1 in let b = w.1 in omega arith
same_close s c t k (inr (inl v)) (inr (inr w)) e = let f = v.0 in let g = w.0 in omega arith
same_close s c t k (inr (inr v)) (inl w) e = let f = v.0 in let g = w.0 in omega arith
same_close s c t k (inr (inr v)) (inr (inl w)) e = let f = v.0 in let g = w.0 in omega arith
same_close s c t k (inr (inr v)) (inr (inr w)) e = let a = v.1 in let b = w.1 in omega arith

-- two days have one interval exactly where it begins, or closes, on one day
pub interval_ends : (d e : ℕ) → interval_close e ≡ interval_close d ↔ interval_start e
    ≡ interval_start d
interval_ends d e = (
  same_start (interval_start d) (interval_close d) (interval_start e) (interval_close e) (ends d)
      (ends e),
  same_close (interval_start d) (interval_close d) (interval_start e) (interval_close e) (ends d)
      (ends e),
)
