-- The scenario of a number n: two to four harts that copy by channels through two bounce slots, and pass buffers round in
-- a ring. All of it is this project's own.
use Rattle.std.specs.Prelude.{ℕ, ◌+◌, ◌-◌, ◌*◌, ◌/◌, ◌%◌, true, false, List, [], ◌∷◌, ◌++◌, map}
use Rattle.std.specs.List.{range_with_len}
use Rattle.nc_env.specs.declared.Mode.TheVariants.{S}
use Rattle.nc_ops.specs.declared.ops.Op.{Op}
use Rattle.nc_ops.specs.declared.ops.Op.TheVariants.{Ld, Hand, Take, Copy}
use Rattle.nc_ops.specs.declared.ops.Spot.TheVariants.{Buffer}
use Rattle.nc_scen.specs.declared.scenario.BufferSpec.{BufferSpec}
use Rattle.nc_scen.specs.declared.scenario.HartSpec.{HartSpec}
use Rattle.nc_scen.specs.declared.scenario.Plan.TheVariants.{Seeded}
use Rattle.nc_scen.specs.declared.scenario.Scenario.{Scenario}

-- how many harts there are
abbrev pub harts : ℕ → ℕ
harts n = 2 + n % 3

-- ---- buffers: four a hart, each in a page of its own

-- buffer j of hart h, which is buffer 4h + j of all
abbrev pub buffer : ℕ → ℕ → ℕ → BufferSpec
buffer n h j = record {
  span = record { at = 4096 * (1 + 4 * h + j) + (n % 64 + 3 * j) % 64; len = 512 + 64 * j };
  fill = 16 * h + j;
  step = 1;
  owner = record { 0 = h };
}

-- the buffers of m harts
abbrev pub buffers : ℕ → ℕ → List BufferSpec
buffers n m = map (λ i. buffer n (i / 4) (i % 4)) (range_with_len 0 (4 * m))

-- ---- scripts

-- a copy of 512 bytes on a channel from the start of a buffer to the start of another, with the configuration 0x6600_0000
abbrev pub copied : ℕ → ℕ → ℕ → Op
copied chan src dst = Copy (record { 0 = chan }) src 0 dst 0 512 1711276032

-- the hart that is r places before hart h in the ring of m harts
abbrev pub before : ℕ → ℕ → ℕ → ℕ
before m h r = (h + 3 * m - r) % m

-- round r of hart h, of m: it copies into its own buffer 4h + 1 and into the buffer that it holds, loads what it copied,
-- hands the buffer to the next hart, and takes the one that comes
abbrev pub round : ℕ → ℕ → ℕ → List Op
round m h r =
    copied h (4 * h) (4 * h + 1)
    ∷ copied h (4 * h + 2) (4 * before m h r + 3)
    ∷ Ld (Buffer (4 * h + 1)) 0 64
    ∷ Hand (4 * before m h r + 3) (record { 0 = (h + 1) % m })
    ∷ Take (4 * before m h (r + 1) + 3)
    ∷ []

-- three rounds
abbrev pub script : ℕ → ℕ → List Op
script m h = round m h 0 ++ round m h 1 ++ round m h 2

-- a hart in mode S, with everything enabled
abbrev pub hart : ℕ → ℕ → HartSpec
hart m h = record { mode = S; menvcfg = 4611686018427388144; senvcfg = 240; script = script m h }

abbrev pub hart_list : ℕ → List HartSpec
hart_list m = map (hart m) (range_with_len 0 m)

-- ---- the whole

-- version 1, in a RAM of 262,144 bytes, with two slots, two pages, and 20,000 events drawn from the seed n
unfoldable pub scenario : ℕ → Scenario
scenario n = record {
  version = 1;
  block_size = 64;
  zero_size = 64;
  light = false;
  ram = 262144;
  harts = hart_list (harts n);
  ptes = [];
  buffers = buffers n (harts n);
  slots_at = 131072;
  slots = 2;
  pool_at = 196608;
  pages = 2;
  reach = 262144 ∷ 262144 ∷ 262144 ∷ 262144 ∷ [];
  plan = Seeded n 20000;
  finish = true;
  limit = 200000;
}
