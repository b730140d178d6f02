-- Faults of the store as refusals.
use Rattle.ftd_store.specs.declared.faults.StoreFault.{StoreFault}
use Rattle.ftd_store.specs.declared.faults.StoreFault.TheVariants as fault
use Rattle.ftd_machine.specs.declared.replies.Refusal.{Refusal}
use Rattle.ftd_machine.specs.declared.replies.Refusal.TheVariants as refusal

-- want of memory is 21, and every other fault of the store 22
abbrev pub refusal_of : StoreFault → Refusal
refusal_of fault.Memory = refusal.Memory
refusal_of fault.Failed = refusal.Store
