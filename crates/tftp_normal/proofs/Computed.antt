-- The worked normal captures, computed: first the packets, by numbers in place of options, then their payloads.
use Rattle.std.proofs.Common.{◌≡◌, ℕ, suc, ◌+◌, map as each, List, [], ◌∷◌, ◌++◌, length, Some, None, codes, refl, sym, ap, ◌∙◌, arith}
use Rattle.std.specs.Ordering.{nat_cmp}
use Rattle.std.specs.Cmp.Lexicographic.{slice_cmp, nat_list_cmp_total}
use Rattle.std.specs.FinMap as map
use Rattle.std.specs.Fmt.{digits}
use Rattle.tftp_packet.specs.{OptionValue, Num, no_options, Side, Get, Put}
use Rattle.law_model.specs.Model.{Meaning, NothingAgreed, windowsize_of, number_or, two_bytes, eight_a_block, eight_by_four, six_blocks, block_count, MachinePacket, Req, Oack, Data, Ack}
use Rattle.law_end.specs.{blocks_of}
use Rattle.tftp_normal.specs.{normal_datagrams, normal_count, normal_packets, normal_datagram, normal_header, normal_text, opening_on, opening_count, windows_after, window_count, two_bytes_datagrams, two_bytes_text, six_blocks_datagrams, six_blocks_text, ten_bytes_written, ten_bytes_written_datagrams, line_end_cut, line_end_cut_datagrams}
use Rattle.tftp_capture.specs.{text_of}
use Rattle.hex.specs.Hex.{encode_with}

nothing : (xs : List (List ℕ × OptionValue)) → length xs ≡ 0 → xs ≡ []
nothing [] e = refl
nothing (x ∷ xs) e = absurd (omega (arith, e))

no_entry : map.entries no_options ≡ []
no_entry = nothing (map.entries no_options) (sym (map.len-entries no_options) ∙ map.len-empty (slice_cmp nat_cmp) OptionValue)

none : (name : List ℕ) → map.get no_options name ≡ None
none name = map.get-empty {X = OptionValue} (slice_cmp nat_cmp) name

-- by numbers in place of options
abbrev packets_by : Side → ℕ → ℕ → ℕ → List MachinePacket
packets_by side agreed w n = opening_on side agreed ++ windows_after w n 0 (window_count w n)

two_bytes_packets : normal_packets two_bytes ≡ Req ∷ Data 1 ∷ Ack 1 ∷ []
two_bytes_packets =
    let agreed = map.len-empty (slice_cmp nat_cmp) OptionValue in
    let w = ap (number_or 1) (none (codes "windowsize")) in
    let b = ap (number_or 512) (none (codes "blksize")) in
    λ i. packets_by Get (agreed i) (w i) (block_count (b i) (codes "hi"))

pub two_bytes_row : normal_datagrams two_bytes ≡ two_bytes_datagrams
two_bytes_row = ap (each (normal_datagram two_bytes)) two_bytes_packets ∙ rw (none (codes "blksize"), no_entry) refl

abbrev options : List (List ℕ × OptionValue)
options = (codes "blksize", Num 8) ∷ (codes "windowsize", Num 4) ∷ []

in_order : map.entries eight_by_four ≡ options
in_order =
    map.entries-insert nat_list_cmp_total (map.from_entries ((codes "windowsize", Num 4) ∷ [])) (codes "blksize") (Num 8)
    ∙ ap (map.put (slice_cmp nat_cmp) (codes "blksize") (Num 8)) (map.entries-insert nat_list_cmp_total no_options (codes "windowsize") (Num 4) ∙ ap (map.put (slice_cmp nat_cmp) (codes "windowsize") (Num 4)) no_entry)

two : map.len eight_by_four ≡ 2
two = map.len-entries eight_by_four ∙ ap length in_order

eight : map.get eight_by_four (codes "blksize") ≡ Some (Num 8)
eight = map.get-from_entries nat_list_cmp_total options (codes "blksize")

four : map.get eight_by_four (codes "windowsize") ≡ Some (Num 4)
four = map.get-from_entries nat_list_cmp_total options (codes "windowsize")

six_blocks_packets : normal_packets six_blocks ≡ Req ∷ Oack ∷ Ack 0 ∷ Data 1 ∷ Data 2 ∷ Data 3 ∷ Data 4 ∷ Ack 4 ∷ Data 5 ∷ Data 6 ∷ Ack 6 ∷ []
six_blocks_packets =
    let w = ap (number_or 1) four in
    let b = ap (number_or 512) eight in
    λ i. packets_by Get (two i) (w i) (block_count (b i) (codes "1111111122222222333333334444444455555555666"))

pub six_blocks_row : normal_datagrams six_blocks ≡ six_blocks_datagrams
unfolding digits
six_blocks_row = ap (each (normal_datagram six_blocks)) six_blocks_packets ∙ rw (eight, in_order) refl

pub six_blocks_count : normal_count six_blocks ≡ 11
six_blocks_count =
    let w = ap (number_or 1) four in
    let b = ap (number_or 512) eight in
    λ i. opening_count Get (two i) + block_count (b i) (codes "1111111122222222333333334444444455555555666") + window_count (w i) (block_count (b i) (codes "1111111122222222333333334444444455555555666"))

only_size : map.entries eight_a_block ≡ (codes "blksize", Num 8) ∷ []
only_size = map.entries-insert nat_list_cmp_total no_options (codes "blksize") (Num 8) ∙ ap (map.put (slice_cmp nat_cmp) (codes "blksize") (Num 8)) no_entry

one_agreed : map.len eight_a_block ≡ 1
one_agreed = map.len-entries eight_a_block ∙ ap length only_size

size_of_eight : map.get eight_a_block (codes "blksize") ≡ Some (Num 8)
size_of_eight = map.get-from_entries nat_list_cmp_total ((codes "blksize", Num 8) ∷ []) (codes "blksize")

no_window : map.get eight_a_block (codes "windowsize") ≡ None
no_window = map.get-from_entries nat_list_cmp_total ((codes "blksize", Num 8) ∷ []) (codes "windowsize")

lock_step_packets : normal_packets ten_bytes_written ≡ Req ∷ Oack ∷ Data 1 ∷ Ack 1 ∷ Data 2 ∷ Ack 2 ∷ []
lock_step_packets =
    let w = ap (number_or 1) no_window in
    let b = ap (number_or 512) size_of_eight in
    λ i. packets_by Put (one_agreed i) (w i) (block_count (b i) (codes "1111111122"))

pub lock_step_row : normal_datagrams ten_bytes_written ≡ ten_bytes_written_datagrams
unfolding digits
lock_step_row = ap (each (normal_datagram ten_bytes_written)) lock_step_packets ∙ rw (size_of_eight, only_size) refl

line_end_packets : normal_packets line_end_cut ≡ Req ∷ Oack ∷ Ack 0 ∷ Data 1 ∷ Ack 1 ∷ Data 2 ∷ Ack 2 ∷ []
line_end_packets =
    let w = ap (number_or 1) no_window in
    let b = ap (number_or 512) size_of_eight in
    λ i. packets_by Get (one_agreed i) (w i) (block_count (b i) (97 ∷ 98 ∷ 99 ∷ 100 ∷ 101 ∷ 102 ∷ 103 ∷ 13 ∷ 10 ∷ 104 ∷ []))

pub line_end_row : normal_datagrams line_end_cut ≡ line_end_cut_datagrams
unfolding digits
line_end_row = ap (each (normal_datagram line_end_cut)) line_end_packets ∙ rw (size_of_eight, only_size) refl

-- the most blocks there are: one a window, and all in one
pub most_blocks : (m : Meaning) → m.side ≡ Get → NothingAgreed m → blocks_of m ≡ 65535 → normal_count m ≡ 131071
most_blocks m get nothing_agreed many =
    let agreed = ap map.len nothing_agreed ∙ map.len-empty (slice_cmp nat_cmp) OptionValue in
    let w = ap (λ o. number_or 1 (map.get o (codes "windowsize"))) nothing_agreed ∙ ap (number_or 1) (none (codes "windowsize")) in
    λ i. opening_count (get i) (agreed i) + many i + window_count (w i) (many i)

pub most_again : (m : Meaning) → m.side ≡ Get → NothingAgreed m → blocks_of m ≡ 8388607 → normal_count m ≡ 16777215
most_again m get nothing_agreed many =
    let agreed = ap map.len nothing_agreed ∙ map.len-empty (slice_cmp nat_cmp) OptionValue in
    let w = ap (λ o. number_or 1 (map.get o (codes "windowsize"))) nothing_agreed ∙ ap (number_or 1) (none (codes "windowsize")) in
    λ i. opening_count (get i) (agreed i) + many i + window_count (w i) (many i)

pub most_in_one : (m : Meaning) (more : ℕ) → m.side ≡ Get → map.len m.agreed ≡ suc more → windowsize_of m ≡ 65535 → blocks_of m ≡ 65535 → normal_count m ≡ 65539
most_in_one m more get some wide many = λ i. opening_count (get i) (some i) + many i + window_count (wide i) (many i)

-- ---- texts

two_bytes_said : text_of normal_header two_bytes_datagrams ≡ two_bytes_text
unfolding digits encode_with
two_bytes_said = refl

pub two_bytes_text_is : normal_text two_bytes ≡ two_bytes_text
two_bytes_text_is = ap (text_of normal_header) two_bytes_row ∙ two_bytes_said

six_blocks_said : text_of normal_header six_blocks_datagrams ≡ six_blocks_text
unfolding digits encode_with
six_blocks_said = refl

pub six_blocks_text_is : normal_text six_blocks ≡ six_blocks_text
six_blocks_text_is = ap (text_of normal_header) six_blocks_row ∙ six_blocks_said
