-- What the caches' thread draws. This project's own; the generator is PCG XSH RR 64/32 on stream 54 (O'Neill,
-- pcg-random.org).
use Rattle.std.specs.Prelude.{ℕ, zero, suc, ◌/◌, ◌%◌, ◌==◌, Bool, true, false}
use Rattle.rand_pcg.specs.Lcg.{Lcg}
use Rattle.nc_num.specs.declared.names.HartNo.{HartNo}
use Rattle.nc_num.specs.declared.places.Block.{Block}
use Rattle.nc_scen.specs.declared.events.Event.{Event}
use Rattle.nc_scen.specs.declared.events.Event.TheVariants.{Fill, Evict}
use Rattle.nc_rules.specs.Schedule.{Size, first_word, second_word, after_words}
use Rattle.nc_rules.specs.World.{hart}
use Rattle.nc_turns.specs.declared.draws.Draws.{Draws}

abbrev pub block : ℕ → Block
block n = record { 0 = n }

abbrev pub moves_copy : Bool → HartNo → Block → Event
moves_copy true h b = Fill h b
moves_copy false h b = Evict h b

-- the event of two words: the first one's low bit chooses a fill or an eviction, its other bits the hart, and the second
-- word the block
abbrev pub copy_event : Size → ℕ → ℕ → Event
copy_event s a b = moves_copy (a % 2 == 0) (hart (a / 2 % s.harts)) (block (b % s.blocks))

-- the generator after n draws of two words
abbrev pub after_draws : Lcg → ℕ → Lcg
after_draws g zero = g
after_draws g (suc n) = after_words (after_draws g n)

-- the two words that a generator draws next, and the generator behind them
abbrev pub draw_from : Lcg → Draws
draw_from g = record { first = first_word g; second = second_word g; generator = after_words g }
