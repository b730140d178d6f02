-- Each row between rows takes a byte, so that the rows of a text are those that the reader gives in
-- turn.
use Rattle.std.proofs.Common.{◌≡◌, ◌<◌, ◌≤◌, ℕ, zero, suc, List, [], ◌∷◌, length, Option, Some}
use Rattle.std.proofs.Common.{None, Bool, true, false, refl, ap, arith, cond, subst, ◌++◌, ◌==◌}
use Rattle.std.proofs.Common.{◌||◌}
use Rattle.csv.specs.Machine.{Read, next_record, step, is_end, ends_at_end, fields_after}
use Rattle.csv.specs.Machine.{field_after, in_field, start_field, start_record}
use Rattle.csv.specs.Reading.{default_config, records_from, records_next}
use Rattle.csv.specs.declared.parser.State.{State}
use Rattle.csv.specs.declared.parser.State.TheVariants as st
use Rattle.csv.specs.declared.parser.Action.{Action}

-- a step that ends a record leaves the machine between records
abbrev EndsClean : State × Action → Type 0
EndsClean p = is_end p.1 ≡ true → ends_at_end p.0 ≡ false

clean-cond : (b : Bool) (x y : State × Action) → EndsClean x → EndsClean y → EndsClean (cond b x y)
clean-cond true x y p q = p
clean-cond false x y p q = q

clean-after : (b : Bool) → ends_at_end (cond b st.AfterCr st.StartRecord) ≡ false
clean-after true = refl
clean-after false = refl

clean-in_field : (c : ℕ) → EndsClean (in_field default_config c)
clean-in_field c =
    clean-cond (c == 44) _ _ (λ e. cc) (clean-cond ((c == 13) || (c == 10)) _ _
    (λ _. clean-after (c == 13)) (λ e. cc))

clean-start_field : (c : ℕ) → EndsClean (start_field default_config c)
clean-start_field c = clean-cond (c == 34) _ _ (λ e. cc) (clean-in_field c)

clean-start_record : (c : ℕ) → EndsClean (start_record default_config c)
clean-start_record c = clean-cond ((c == 13) || (c == 10)) _ _ (λ e. cc) (clean-start_field c)

clean-step : (s : State) (c : ℕ) → EndsClean (step default_config s c)
clean-step st.StartRecord c = clean-start_record c
clean-step st.StartField c = clean-start_field c
clean-step st.InField c = clean-in_field c
clean-step st.InQuoted c = clean-cond (c == 34) _ _ (λ e. cc) (λ e. cc)
clean-step st.InEscape c = λ e. cc
clean-step st.AfterQuote c = clean-cond (c == 34) _ _ (λ e. cc) (clean-in_field c)
clean-step st.InComment c = clean-cond (c == 10) _ _ (λ e. cc) (λ e. cc)
clean-step st.AfterCr c = clean-cond (c == 10) _ _ (λ e. cc) (clean-start_record c)

-- a record that was read leaves the machine between records, and so many bytes at most
pub record Leaves (n : ℕ) (p : Read) : Type 0 where
  pub clean : ends_at_end p.1 ≡ false
  pub fewer : length p.2 ≤ n

leaves-either : (b : Bool) (q : Read) (o : Option Read) (n : ℕ) (p : Read) → (b ≡ true → Leaves n q)
    → (o ≡ Some p → Leaves n p) → cond b (Some q) o ≡ Some p → Leaves n p
leaves-either true q o n p h k e =
    let same : q ≡ p = cc in
    let P : Read → Type 0 = λ r. Leaves n r in subst P same (h refl)
leaves-either false q o n p h k e = k e

leaves-more : (n : ℕ) (p : Read) → Leaves n p → Leaves (suc n) p
leaves-more n p h = record {
  clean = h.clean;
  fewer = let a : length p.2 ≤ n = h.fewer in
      omega arith;
}

leaves-cons : (s : State) (fields : List (List ℕ)) (field : List ℕ) (c : ℕ) (rest : List ℕ)
    (p : Read)
    → (next_record default_config (step default_config s c).0
    (fields_after (step default_config s c).1 fields field)
    (field_after (step default_config s c).1 c field) rest ≡ Some p → Leaves (length rest) p)
    → next_record default_config s fields field (c ∷ rest) ≡ Some p → Leaves (length rest) p
unfolding next_record
leaves-cons s fields field c rest p ih e =
    let a = step default_config s c in
    leaves-either (is_end a.1) (fields_after a.1 fields field, a.0, rest)
    (next_record default_config a.0 (fields_after a.1 fields field) (field_after a.1 c field) rest)
    (length rest) p
    (λ h. record { clean = clean-step s c h; fewer = omega arith })
    ih e

next-leaves : (s : State) (fields : List (List ℕ)) (field xs : List ℕ) (p : Read)
    → next_record default_config s fields field xs ≡ Some p → Leaves (length xs) p
unfolding next_record
next-leaves s fields field [] p e =
    leaves-either (ends_at_end s) (fields ++ (field ∷ []), st.StartRecord, []) None 0 p
    (λ _. record { clean = refl; fewer = omega arith }) (λ h. cc) e
next-leaves s fields field (c ∷ rest) p e =
    let a = step default_config s c in
    leaves-more (length rest) p
    (leaves-cons s fields field c rest p (λ h. next-leaves a.0 (fields_after a.1 fields field)
    (field_after a.1 c field) rest p h) e)

-- between records an empty text has no other
none-left : (s : State) (p : Read) → ends_at_end s ≡ false → next_record default_config s [] [] []
    ≡ Some p → ⊥
unfolding next_record
none-left s p clean e = let f : cond (ends_at_end s) (Some ([] ∷ [], st.StartRecord, [])) None
    ≡ Some p = e in let g = rw clean at f in cc

-- a record between records takes a byte
pub record Takes (xs : List ℕ) (p : Read) : Type 0 where
  pub clean : ends_at_end p.1 ≡ false
  pub fewer : length p.2 < length xs

pub next-takes : (s : State) (xs : List ℕ) (p : Read) → ends_at_end s ≡ false
    → next_record default_config s [] [] xs ≡ Some p → Takes xs p
next-takes s [] p clean e = absurd (none-left s p clean e)
next-takes s (c ∷ rest) p clean e =
    let a = step default_config s c in
    let h = leaves-cons s [] [] c rest p (λ f. next-leaves a.0 (fields_after a.1 [] [])
    (field_after a.1 c []) rest p f) e in
    record { clean = h.clean; fewer = let k : length p.2 ≤ length rest = h.fewer in omega arith }

-- the records of some bytes, once the first is read
pub records-next : (more : State → List ℕ → List (List (List ℕ))) (o : Option Read) (p : Read)
    → o ≡ Some p → records_next more o ≡ p.0 ∷ more p.1 p.2
records-next more o p e = ap (records_next more) e

more-same : (more again : State → List ℕ → List (List (List ℕ))) (s : State) (xs : List ℕ)
    (o : Option Read) → next_record default_config s [] [] xs ≡ o → ends_at_end s ≡ false
    → ((p : Read) → Takes xs p → more p.1 p.2 ≡ again p.1 p.2)
    → records_next more o ≡ records_next again o
more-same more again s xs None e clean h = refl
more-same more again s xs (Some p) e clean h = ap (λ rows. p.0 ∷ rows)
    (h p (next-takes s xs p clean e))

-- any bound beyond the length gives the same records
pub records_from-any : (n m : ℕ) (s : State) (xs : List ℕ) → length xs < n → length xs < m
    → ends_at_end s ≡ false → records_from default_config n s xs ≡ records_from default_config m s
    xs
unfolding records_from
records_from-any zero m s xs h k clean = absurd (omega arith)
records_from-any (suc n) zero s xs h k clean = absurd (omega arith)
records_from-any (suc n) (suc m) s xs h k clean =
    more-same (records_from default_config n) (records_from default_config m) s xs
    (next_record default_config s [] [] xs) refl clean
    (λ p t. let fewer : length p.2 < length xs = t.fewer in
    records_from-any n m p.1 p.2 (omega arith) (omega arith) t.clean)
