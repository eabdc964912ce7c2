-- How a recording begins.
use Rattle.std.specs.Prelude.{◌==◌, ◌&&◌, ◌||◌, ℕ, Bool, false, List, ◌∷◌}

-- These four bytes follow each other.
abbrev pub are : ℕ → ℕ → ℕ → ℕ → ℕ → ℕ → ℕ → ℕ → Bool
are a b c d one other third last = (a == one) && ((b == other) && ((c == third) && (d == last)))

-- of pcap, with microseconds or with nanoseconds, the highest byte first or last
abbrev pub begins_pcap : ℕ → ℕ → ℕ → ℕ → Bool
begins_pcap a b c d = are a b c d 161 178 195 212 || (are a b c d 212 195 178 161 || (are a b c d 161 178 60 77 || are a b c d 77 60 178 161))

-- of the first block of pcapng
abbrev pub begins_pcapng : ℕ → ℕ → ℕ → ℕ → Bool
begins_pcapng a b c d = are a b c d 10 13 13 10

-- A file that begins so is a recording: its first four bytes tell it.
abbrev pub is_recording : List ℕ → Bool
is_recording (a ∷ b ∷ c ∷ d ∷ more) = begins_pcap a b c d || begins_pcapng a b c d
is_recording _ = false
