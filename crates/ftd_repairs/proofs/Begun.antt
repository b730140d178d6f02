-- A loop of readings that has read nothing yet, or something.
use Rattle.std.proofs.Common.{◌≡◌, ◌⊎◌, inl, inr, Result, Ok, Err, subst}
use Rattle.sqlite.specs.Store as store
use Rattle.ftd_sql.specs.Standing.{Tables}
use Rattle.ftd_store.specs.declared.faults.StoreFault.{StoreFault}
use Rattle.ftd_store.specs.declared.tx.Tx.{Tx}
use Rattle.ftd_store.specs.Frame.{Frame, Reads}
use Rattle.ftd_store.proofs.Going.{then_call}
use Rattle.ftd_store.proofs.Telling.{reads_on, then_reads}

-- nothing was read, and this is so of whatever rows; or this was read
abbrev pub IsBegun : {S : Type 0} → store.Ghosts S → Tx S → Tx S → (Tables → Type 0) → Type 0
IsBegun g old mid Fact = ((mid ≡ old) × ((t : Tables) → Fact t)) ⊎ Reads g old mid (Ok (tt {0}))
    (λ done. Fact)

module _ {S : Type 0} (g : store.Ghosts S) where
  pub begun_reads : {A B : Type 0} (old mid new : Tx S) (x : A) (y : B) (Fact : Tables → Type 0)
      (More : A → Tables → Type 0) (Both : B → Tables → Type 0)
      → ((t : Tables) → Fact t → More x t → Both y t)
      → IsBegun g old mid Fact → Reads g mid new (Ok x) More → Reads g old new (Ok y) Both
  begun_reads old mid new x y Fact More Both tells (inl none) r =
      subst (λ m. Reads g m new (Ok y) Both) none.0
      (reads_on y Both r (λ t more. tells t (none.1 t) more))
  begun_reads old mid new x y Fact More Both tells (inr read) r = then_reads y Both read r tells

  pub begun_goes : {A : Type 0} (old mid new : Tx S) (result : Result A StoreFault) (Fact : Tables
      → Type 0) → IsBegun g old mid Fact → Frame g mid new result → Frame g old new result
  begun_goes old mid new result Fact (inl none) frame = subst (λ m. Frame g m new result) none.0
      frame
  begun_goes old mid new result Fact (inr read) frame = then_call read.frame frame

  -- a last reading, which may fail
  pub begun_ends : {A : Type 0} (old mid new : Tx S) (result : Result A StoreFault) (Fact : Tables
      → Type 0) (More Both : A → Tables → Type 0)
      → ((x : A) (t : Tables) → Fact t → More x t → Both x t)
      → IsBegun g old mid Fact → Reads g mid new result More → Reads g old new result Both
  begun_ends old mid new (Ok x) Fact More Both tells begun r = begun_reads old mid new x x Fact More
      Both (tells x) begun r
  begun_ends old mid new (Err e) Fact More Both tells begun r =
      record { frame = begun_goes old mid new (Err e) Fact begun r.frame; does = λ clean. tt }
