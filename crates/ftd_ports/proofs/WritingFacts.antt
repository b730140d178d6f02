-- How the written parts of a text add up.
use Rattle.std.proofs.Common.{◌≡◌, ℕ, List, [], ◌++◌, refl, sym, ap, ◌∙◌, subst, ◌+◌, ◌<◌, length}
use Rattle.std.proofs.Common.{true≢false, drop, get_or, add-one, drop-cons, append_assoc}
use Rattle.std.proofs.Common.{append-nil}
use Rattle.std.proofs.Math.Seq.{drop-append_seam, drop-length}
use Rattle.std.specs.Prelude.{Option, Result, Ok, Err, Bool}
use Rattle.std.specs.List.{flat_map}
use Rattle.std.specs.Result.{IsErr}
use denote.Bor.{Bor}
use Rattle.std.specs.Io.KnownBytes.{Appends}
use Rattle.std.proofs.KnownBytes.{Appends-nil, Appends-trans}
use Rattle.ftd_ports.specs.Writing.{WritesPrefix, Writes}

-- so much of a text is written, and the rest is not
pub record HasWritten (before now : Option (List ℕ)) (text rest : List ℕ) : Type 0 where
  pub written : List ℕ
  pub parts : text ≡ written ++ rest
  pub appends : Appends before now written

pub begins : {before : Option (List ℕ)} {text : List ℕ} → HasWritten before before text text
begins {before = before} = record { written = []; parts = refl; appends = Appends-nil before }

-- one more piece
pub goes_on : {before now later : Option (List ℕ)} {text rest : List ℕ}
    (piece others : List ℕ) → HasWritten before now text rest
    → rest ≡ piece ++ others → Appends now later piece → HasWritten before later text others
goes_on {before = before} {now = now} {later = later} piece others h e a =
    record {
      written = h.written ++ piece;
      parts = h.parts ∙ (ap (λ z. h.written ++ z) e ∙ sym (append_assoc h.written piece others));
      appends = Appends-trans before now later h.written piece h.appends a;
    }

-- all of it
pub ends : {before now : Option (List ℕ)} {text : List ℕ} → HasWritten before now text []
    → Appends before now text
ends {before = before} {now = now} h =
    let P : List ℕ → Type 0 = λ z. Appends before now z in
    subst P (sym (h.parts ∙ append-nil h.written)) h.appends

-- a fault in the middle
pub breaks_off : {before now later : Option (List ℕ)} {text rest : List ℕ}
    → HasWritten before now text rest
    → WritesPrefix now later rest → WritesPrefix before later text
breaks_off {before = before} {now = now} {later = later} h p =
    record {
      written = h.written ++ p.written;
      unwritten = p.unwritten;
      parts = h.parts
          ∙ (ap (λ z. h.written ++ z) p.parts ∙ sym (append_assoc h.written p.written p.unwritten));
      appends = Appends-trans before now later h.written p.written h.appends p.appends;
    }

-- a prefix of the first piece is one of the whole
pub prefix_more : {before now : Option (List ℕ)} {piece text : List ℕ} (others : List ℕ)
    → text ≡ piece ++ others → WritesPrefix before now piece → WritesPrefix before now text
prefix_more others e p =
    record {
      written = p.written;
      unwritten = p.unwritten ++ others;
      parts = e ∙ (ap (λ z. z ++ others) p.parts ∙ append_assoc p.written p.unwritten others);
      appends = p.appends;
    }

-- the pieces from the index on are the one at the index and those after it
pub pieces_at : (pieces : List (Bor (List ℕ))) (i : ℕ) (d : Bor (List ℕ)) → i < length pieces
    → flat_map (λ (p : Bor (List ℕ)). p.now) (drop i pieces) ≡ (get_or pieces i d).now ++ flat_map
    (λ (p : Bor (List ℕ)). p.now) (drop (i + 1) pieces)
pieces_at pieces i d h =
    rw add-one (ap (λ (z : List (Bor (List ℕ))). flat_map (λ (p : Bor (List ℕ)). p.now) z)
    (drop-cons pieces i d h))

-- where nothing is to be written, nothing is
pub nothing_written : {T E : Type 0} {x : T} {before : Option (List ℕ)} {end : Bool}
    → Writes {T = T} {E = E} (Ok x) before before end []
nothing_written {before = before} = record { ok = Appends-nil before; err = tt; fault = tt }

-- where nothing is left to write, all is written
pub all_written : {T E : Type 0} {x : T} {before now : Option (List ℕ)} {end : Bool}
    {text : List ℕ} → HasWritten before now text []
    → Writes {T = T} {E = E} (Ok x) before now end text
all_written h = record { ok = ends h; err = tt; fault = tt }

-- a text is written after one that was written
pub then_writes : {T U E F : Type 0} {x : U} {r : Result T E} {before now later : Option (List ℕ)}
    {at end : Bool} {first rest : List ℕ} → Writes {T = U} {E = F} (Ok x) before now at first
    → Writes r now later end rest → Writes r before later end (first ++ rest)
then_writes {r = Ok y} {before = before} {now = now} {later = later} {first = first} {rest = rest}
    f w = record {
      ok = Appends-trans before now later first rest f.ok w.ok;
      err = tt;
      fault = tt;
    }
then_writes {r = Err e} {before = before} {now = now} {later = later} {first = first} f w = record {
  ok = tt;
  err = record {
    written = first ++ w.err.written;
    unwritten = w.err.unwritten;
    parts = ap (λ z. first ++ z) w.err.parts
        ∙ sym (append_assoc first w.err.written w.err.unwritten);
    appends = Appends-trans before now later first w.err.written f.ok w.err.appends;
  };
  fault = w.fault;
}

-- where a text is not written whole, what comes after it is not written
pub stops_in : {T U E F : Type 0} {e : F} {r : Result T E} {before later : Option (List ℕ)}
    {end : Bool} {first : List ℕ} (rest : List ℕ) → IsErr r
    → Writes {T = U} {E = F} (Err e) before later end first
    → Writes r before later end (first ++ rest)
stops_in {r = Ok x} rest is w = absurd (true≢false (sym is))
stops_in {r = Err x} rest is w = record {
  ok = tt;
  err = prefix_more rest refl w.err;
  fault = w.fault;
}

-- the last part of a text, after those that are written
pub ends_in : {T E : Type 0} {r : Result T E} {before now later : Option (List ℕ)} {end : Bool}
    {text rest : List ℕ} → HasWritten before now text rest → Writes r now later end rest
    → Writes r before later end text
ends_in {r = Ok x} {rest = rest} h w =
    record {
      ok = ends (goes_on rest [] h (sym (append-nil rest)) w.ok);
      err = tt;
      fault = tt;
    }
ends_in {r = Err e} h w = record { ok = tt; err = breaks_off h w.err; fault = w.fault }

-- a part of a text that is not written whole, after those that are written
pub stops_after : {T U E F : Type 0} {e : F} {r : Result T E} {before now later : Option (List ℕ)}
    {end : Bool} {text rest piece : List ℕ} (others : List ℕ) → IsErr r
    → HasWritten before now text rest → rest ≡ piece ++ others
    → Writes {T = U} {E = F} (Err e) now later end piece → Writes r before later end text
stops_after others is h parts w = ends_in h (rw parts (stops_in others is w))

-- what is behind a part of a text
behind : (part rest : List ℕ) {text : List ℕ} → part ++ rest ≡ text
    → rest ≡ drop (length part) text
behind part rest e = sym (drop-append_seam part rest) ∙ ap (λ z. drop (length part) z) e

after_part : {before now later : Option (List ℕ)} (part rest : List ℕ) {text : List ℕ}
    → Appends before now part → part ++ rest ≡ text
    → WritesPrefix now later (drop (length part) text) → WritesPrefix before later text
after_part part rest a e w =
    breaks_off record {
      written = part;
      parts = sym e ∙ ap (λ z. part ++ z) (behind part rest e);
      appends = a;
    } w

-- A prefix of a part of a text, after the parts before it, is a prefix of the text. `grind` takes
-- no such step twice, so each number of parts has its own lemma.
pub within_first : (before now : Option (List ℕ)) (a text : List ℕ) → WritesPrefix before now a
    → a ++ drop (length a) text ≡ text → WritesPrefix before now text
within_first before now a text w e = prefix_more _ (sym e) w

pub within_second : (before n₁ now : Option (List ℕ)) (a b text : List ℕ) → Appends before n₁ a
    → WritesPrefix n₁ now b → a ++ (b ++ drop (length b) (drop (length a) text)) ≡ text
    → WritesPrefix before now text
within_second before n₁ now a b text x w e =
    after_part a _ x e (within_first n₁ now b _ w (behind a _ e))

pub within_third : (before n₁ n₂ now : Option (List ℕ)) (a b c text : List ℕ)
    → Appends before n₁ a → Appends n₁ n₂ b → WritesPrefix n₂ now c
    → a ++ (b ++ (c ++ drop (length c) (drop (length b) (drop (length a) text)))) ≡ text
    → WritesPrefix before now text
within_third before n₁ n₂ now a b c text x y w e =
    after_part a _ x e (within_second n₁ n₂ now b c _ y w (behind a _ e))

pub within_fourth : (before n₁ n₂ n₃ now : Option (List ℕ)) (a b c d text : List ℕ)
    → Appends before n₁ a → Appends n₁ n₂ b → Appends n₂ n₃ c → WritesPrefix n₃ now d
    → a ++ (b ++ (c ++ (d ++ drop (length d) (drop (length c) (drop (length b) (drop (length a)
    text)))))) ≡ text → WritesPrefix before now text
within_fourth before n₁ n₂ n₃ now a b c d text x y z w e =
    after_part a _ x e (within_third n₁ n₂ n₃ now b c d _ y z w (behind a _ e))

pub within_fifth : (before n₁ n₂ n₃ n₄ now : Option (List ℕ)) (a b c d f text : List ℕ)
    → Appends before n₁ a → Appends n₁ n₂ b → Appends n₂ n₃ c → Appends n₃ n₄ d
    → WritesPrefix n₄ now f
    → a ++ (b ++ (c ++ (d ++ (f ++ drop (length f) (drop (length d) (drop (length c)
    (drop (length b) (drop (length a) text)))))))) ≡ text → WritesPrefix before now text
within_fifth before n₁ n₂ n₃ n₄ now a b c d f text x y z v w e =
    after_part a _ x e (within_fourth n₁ n₂ n₃ n₄ now b c d f _ y z v w (behind a _ e))

pub within_sixth : (before n₁ n₂ n₃ n₄ n₅ now : Option (List ℕ)) (a b c d f g text : List ℕ)
    → Appends before n₁ a → Appends n₁ n₂ b → Appends n₂ n₃ c → Appends n₃ n₄ d → Appends n₄ n₅ f
    → WritesPrefix n₅ now g
    → a ++ (b ++ (c ++ (d ++ (f ++ (g ++ drop (length g) (drop (length f) (drop (length d)
    (drop (length c) (drop (length b) (drop (length a) text)))))))))) ≡ text
    → WritesPrefix before now text
within_sixth before n₁ n₂ n₃ n₄ n₅ now a b c d f g text x y z v u w e =
    after_part a _ x e (within_fifth n₁ n₂ n₃ n₄ n₅ now b c d f g _ y z v u w (behind a _ e))

-- what is written in up to six parts
pub ruleset written_in_parts = (
  within_first,
  within_second,
  within_third,
  within_fourth,
  within_fifth,
  within_sixth,
  drop-append_seam,
  drop-length,
  append_assoc,
  append-nil,
)
