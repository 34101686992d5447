-- The value of a register has at most the bytes of its width.
use Rattle.std.proofs.Common.{◌≡◌, ℕ, ◌^◌, ◌<◌, ◌⊎◌, inl, inr, refl, subst, sym}
use Rattle.nc_pdma_regs.specs.declared.table.Register.{Register}
use Rattle.nc_pdma_regs.specs.declared.table.Register.TheVariants.{Control, NextConfig, NextBytes, NextDestination, NextSource, ExecConfig, ExecBytes, ExecDestination, ExecSource}
use Rattle.nc_pdma_regs.specs.Table.{width_of}

by_width : (n v : ℕ) → v < 2 ^ 64 → (n ≡ 4 → v < 2 ^ 32) → (n ≡ 4) ⊎ (n ≡ 8) → v < 256 ^ n
by_width n v big small (inl e) = subst (λ (k : ℕ). v < 256 ^ k) (sym e) (small e)
by_width n v big small (inr e) = subst (λ (k : ℕ). v < 256 ^ k) (sym e) big

widths : (r : Register) → (width_of r ≡ 4) ⊎ (width_of r ≡ 8)
widths Control = inl refl
widths NextConfig = inl refl
widths NextBytes = inr refl
widths NextDestination = inr refl
widths NextSource = inr refl
widths ExecConfig = inl refl
widths ExecBytes = inr refl
widths ExecDestination = inr refl
widths ExecSource = inr refl

pub register_fits : (r : Register) (v : ℕ) → v < 2 ^ 64 → (width_of r ≡ 4 → v < 2 ^ 32) → v < 256 ^ width_of r
register_fits r v big small = by_width (width_of r) v big small (widths r)
