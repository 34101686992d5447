-- The enables of cache-block operations (CMO 1.0), as a table over the fields' values.
use Rattle.std.specs.Prelude.{◌≢◌, ℕ, ◌/◌, ◌%◌, ◌^◌, ◌==◌, ◌||◌, Bool, Result, Ok, Err, if◌then◌else◌}
use Rattle.nc_env.specs.declared.Mode.{Mode}
use Rattle.nc_env.specs.declared.Mode.TheVariants.{M, S, U}
use Rattle.nc_env.specs.declared.CboOp.{CboOp}
use Rattle.nc_env.specs.declared.CboOp.TheVariants.{Clean, Flush, Inval, Zero}
use Rattle.nc_env.specs.declared.Field.{Field}
use Rattle.nc_env.specs.declared.Field.TheVariants.{MCbie, MCbcfe, MCbze, SCbie, SCbcfe, SCbze}
use Rattle.nc_env.specs.declared.Illegal.{Illegal}

-- the fields of menvcfg and of senvcfg: CBIE in bits 5:4, CBCFE in bit 6, CBZE in bit 7
abbrev pub cbie : ℕ → ℕ
cbie envcfg = envcfg / 2 ^ 4 % 4

abbrev pub cbcfe : ℕ → ℕ
cbcfe envcfg = envcfg / 2 ^ 6 % 2

abbrev pub cbze : ℕ → ℕ
cbze envcfg = envcfg / 2 ^ 7 % 2

-- the value 10 of CBIE is reserved
abbrev pub IsEnvcfg : ℕ → Type 0
IsEnvcfg envcfg = cbie envcfg ≢ 2

-- a register that restricts the mode forbids the operation: its field is 0
abbrev pub forbids : CboOp → ℕ → Bool
forbids Clean envcfg = cbcfe envcfg == 0
forbids Flush envcfg = cbcfe envcfg == 0
forbids Inval envcfg = cbie envcfg == 0
forbids Zero envcfg = cbze envcfg == 0

-- a register that restricts the mode has invalidates performed as flushes: its CBIE is 01
abbrev pub as_flush : ℕ → Bool
as_flush envcfg = cbie envcfg == 1

-- what is performed where nothing forbids it
abbrev pub performed : CboOp → Bool → CboOp
performed Inval flush = if flush then Flush else Inval
performed Clean flush = Clean
performed Flush flush = Flush
performed Zero flush = Zero

abbrev pub m_field : CboOp → Field
m_field Clean = MCbcfe
m_field Flush = MCbcfe
m_field Inval = MCbie
m_field Zero = MCbze

abbrev pub s_field : CboOp → Field
s_field Clean = SCbcfe
s_field Flush = SCbcfe
s_field Inval = SCbie
s_field Zero = SCbze

-- mode M is not restricted, mode S is restricted by menvcfg, and mode U by both registers
unfoldable pub decided : Mode → ℕ → ℕ → CboOp → Result CboOp Illegal
decided M menvcfg senvcfg op = Ok op
decided S menvcfg senvcfg op =
    if forbids op menvcfg then Err (record { 0 = m_field op }) else Ok (performed op (as_flush menvcfg))
decided U menvcfg senvcfg op =
    if forbids op menvcfg then Err (record { 0 = m_field op })
    else (if forbids op senvcfg then Err (record { 0 = s_field op }) else Ok (performed op (as_flush menvcfg || as_flush senvcfg)))
