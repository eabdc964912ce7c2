-- When a frame was recorded: nanoseconds since 1970.
use Rattle.std.specs.Prelude.{◌+◌, ◌-◌, ◌*◌, ◌/◌, ◌^◌, ◌==◌, ℕ, if◌then◌else◌, nat_lt, Option, Some, None}
use Rattle.net_pcap.specs.declared.layout.Interface.{Interface}

-- the number, where 64 bits can count it
abbrev pub counted : ℕ → Option ℕ
counted n = if nat_lt n (2 ^ 64) then Some n else None

-- the same, and 0 where they can't
abbrev pub count_or_none : ℕ → ℕ
count_or_none n = if nat_lt n (2 ^ 64) then n else 0

-- how many units a second has, by the byte of `if_tsresol`: a power of 10, or of 2 where its first bit is set
abbrev pub units_of : ℕ → ℕ
units_of resolution = if nat_lt resolution 128 then count_or_none (10 ^ resolution) else count_or_none (2 ^ (resolution - 128))

-- A number of 64 bits that is a signed number of seconds, added to nanoseconds; none where that is below 0 or more than
-- 64 bits can count.
abbrev pub shifted : ℕ → ℕ → Option ℕ
shifted offset time =
    if nat_lt offset (2 ^ 63) then counted (time + offset * 1000000000)
    else (if nat_lt time ((2 ^ 64 - offset) * 1000000000) then None else counted (time - (2 ^ 64 - offset) * 1000000000))

-- the time of a frame that an interface recorded at so many units
abbrev pub time_of : Interface → ℕ → Option ℕ
time_of interface ticks = if interface.units == 0 then None else shifted interface.offset (ticks * 1000000000 / interface.units)
