-- Translation of a virtual address by the word of its page (RISC-V Privileged Architecture, Svpbmt).
use Rattle.std.specs.Prelude.{ℕ, zero, suc, Bool, true, Option, Some, None, Result, Ok, Err}
use Rattle.nc_num.specs.declared.names.MemType.{MemType}
use Rattle.nc_num.specs.declared.names.MemType.TheVariants.{Pma, Nc, Io}
use Rattle.nc_num.specs.declared.places.Place.{Place}
use Rattle.nc_pte.specs.declared.translation.PageFault.{PageFault}
use Rattle.nc_pte.specs.Words.{pbmt_of, place_at}

-- the memory type by PBMTE and the PBMT field, or none where an access faults
abbrev pub mem_type : Bool → ℕ → Option MemType
mem_type _ zero = Some Pma
mem_type true (suc zero) = Some Nc
mem_type true (suc (suc zero)) = Some Io
mem_type _ _ = None

-- the answer for a page of this type
abbrev pub answer : Option MemType → ℕ → ℕ → Result (MemType × Place) PageFault
answer (Some t) word va = Ok (t, record { 0 = place_at word va })
answer None word va = Err (record { va = va; bits = pbmt_of word })

abbrev pub translated : Bool → ℕ → ℕ → Result (MemType × Place) PageFault
translated pbmte word va = answer (mem_type pbmte (pbmt_of word)) word va
