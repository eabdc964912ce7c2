-- How long the normal text is at most: by the blocks of its wire, of which each has one line and at most one ACK.
use Rattle.std.proofs.Common.{◌≡◌, ℕ, zero, suc, ◌+◌, ◌-◌, ◌*◌, ◌^◌, ◌≤◌, min, List, [], ◌∷◌, ◌++◌, map as each, length, length-append, codes, decimal, lit≤, Option, ap, ◌∙◌, arith, suc-mul, mul-le-mul_right}
use Rattle.std.proofs.lemmas.Fmt.{length-decimal-le}
use Rattle.std.proofs.lemmas.List.{map-append, length-map}
use Rattle.std.specs.List.{AllByRecursion}
use Rattle.std.specs.FinMap as finite
use Rattle.hex.specs.Hex.{lower_digits}
use Rattle.hex.proofs.HexLemmas.{length-encode_with}
use Rattle.tftp_packet.specs.{Dir, In, Out, Client, Rollover}
use Rattle.tftp_capture.specs.CaptureText.{Datagram}
use Rattle.tftp_capture.specs.{IsLawful, IsPort, dir_word, head_line, end_line, service_line, datagram_line, total_line, header_text, payload_text, whole_lines, One}
use Rattle.law_model.specs.Model.{Meaning, windowsize_of, MachinePacket, Data, Ack}
use Rattle.law_end.specs.{blocks_of, CanBeWritten}
use Rattle.tftp_normal.specs.{blocks_after, windows_after, windows_of, opening, normal_datagram_by, normal_datagrams_by, normal_header, normal_text_by, datagrams_of, lines_of}
use Rattle.tftp_normal.proofs.Lawful.{ack_length, data_length, few, few_blocks, few_first, few_windows, lawful_opening}
use Rattle.tftp_normal.proofs.Lengths.{counted, opening_length}
use Rattle.tftp_normal.proofs.Putting.{lines_both}
use Rattle.tftp_normal.proofs.TextPut.{openers, text_parts, total}
use Rattle.tftp_normal.proofs.WindowsPut.{all_windows}

-- ---- a line

short_dir : (dir : Dir) → length (dir_word dir) ≤ 3
short_dir In = lit≤ tt
short_dir Out = lit≤ tt

short_payload : (bytes : List ℕ) (size : ℕ) → 1 ≤ size → length bytes ≤ size → length (payload_text bytes) ≤ 2 * size
short_payload [] size some h = let one : length (payload_text []) ≤ 1 = lit≤ tt in omega (arith, one, some)
short_payload (b ∷ bs) size some h = omega (arith, h, length-encode_with lower_digits (b ∷ bs))

line_within : (d : Datagram) (size : ℕ) → IsPort d.local → IsPort d.remote → 1 ≤ size → length d.payload ≤ size → length (datagram_line d) ≤ 2 * size + 16
line_within d size local remote some fits =
    let p = short_payload d.payload size some fits in
    let l = length-decimal-le 5 d.local (omega arith) (omega (arith, local.1)) (omega (arith, local.1)) in
    let r = length-decimal-le 5 d.remote (omega arith) (omega (arith, remote.1)) (omega (arith, remote.1)) in
    omega (
      arith,
      p,
      l,
      r,
      short_dir d.dir,
      length-append (dir_word d.dir) (32 ∷ (decimal d.local ++ 32 ∷ (decimal d.remote ++ 32 ∷ payload_text d.payload))),
      length-append (decimal d.local) (32 ∷ (decimal d.remote ++ 32 ∷ payload_text d.payload)),
      length-append (decimal d.remote) (32 ∷ payload_text d.payload),
    )

short_number : (word : List ℕ) (n : ℕ) → length word ≤ 8 → n ≤ 16777217 → length (word ++ decimal n) ≤ 131070
short_number word n short small = let l = length-decimal-le 20 n (omega arith) (omega (arith, small)) (omega (arith, small)) in omega (arith, short, l, length-append word (decimal n))

-- ---- lines

abbrev Short : List ℕ → Type 0
Short line = length line ≤ 131070

lines_length : (lines : List (List ℕ)) → AllByRecursion Short lines → length (whole_lines lines) ≤ length lines * 131071
lines_length [] all = omega arith
lines_length (line ∷ lines) all =
    let rest = lines_length lines all.1 in
    let here = all.0 in
    let both = length-append (line ++ 10 ∷ []) (whole_lines lines) in
    let one = length-append line (10 ∷ []) in
    let size = suc-mul (length lines) 131071 in
    omega (arith, rest, here, both, one, size)

lawful_lines : (datagrams : List Datagram) → AllByRecursion IsLawful datagrams → AllByRecursion Short (each datagram_line datagrams)
lawful_lines [] all = tt
lawful_lines (d ∷ datagrams) all = (let one = line_within d 65527 all.0.local all.0.remote (omega arith) all.0.fits in omega (arith, one), lawful_lines datagrams all.1)

header_length : length (header_text normal_header) ≤ 393213
header_length = lines_length (head_line One ∷ end_line Client ∷ service_line 69 ∷ []) (lit≤ tt, (lit≤ tt, (short_number (codes "service ") 69 (lit≤ tt) (omega arith), tt)))

module _ (rollover : Option Rollover) (m : Meaning) (can : CanBeWritten rollover m) where
  abbrev n : ℕ
  n = blocks_of m

  abbrev w : ℕ
  w = windowsize_of m

  abbrev lines_for : List MachinePacket → List ℕ
  lines_for packets = lines_of (datagrams_of rollover m packets)

  lines_for_both : (ps qs : List MachinePacket) → length (lines_for (ps ++ qs)) ≡ length (lines_for ps) + length (lines_for qs)
  lines_for_both ps qs =
      ap (λ ds. length (lines_of ds)) (map-append (normal_datagram_by rollover m) ps qs) ∙ ap length (lines_both (datagrams_of rollover m ps) (datagrams_of rollover m qs)) ∙ length-append (lines_for ps) (lines_for qs)

  lines_for_first : (p : MachinePacket) (ps : List MachinePacket) → length (lines_for (p ∷ ps)) ≡ length (datagram_line (normal_datagram_by rollover m p)) + 1 + length (lines_for ps)
  lines_for_first p ps =
      let line = datagram_line (normal_datagram_by rollover m p) in
      let both = length-append (line ++ 10 ∷ []) (lines_for ps) in
      let one = length-append line (10 ∷ []) in
      omega (arith, both, one)

  data_line : (k : ℕ) → length (datagram_line (normal_datagram_by rollover m (Data k))) ≤ 130952
  data_line k = let line = line_within (normal_datagram_by rollover m (Data k)) 65468 (omega arith, omega arith) (omega arith, omega arith) (omega arith) (data_length rollover m can k) in omega (arith, line)

  ack_line : (j : ℕ) → length (datagram_line (normal_datagram_by rollover m (Ack j))) ≤ 24
  ack_line j = let line = line_within (normal_datagram_by rollover m (Ack j)) 4 (omega arith, omega arith) (omega arith, omega arith) (omega arith) (ack_length rollover m can j) in omega (arith, line)

  blocks_length : (k more : ℕ) → length (lines_for (blocks_after k more)) ≤ more * 130953
  blocks_length k zero = omega arith
  blocks_length k (suc more) =
      let first = lines_for_first (Data (k + 1)) (blocks_after (k + 1) more) in
      let here = data_line (k + 1) in
      let rest = blocks_length (k + 1) more in
      let size = suc-mul more 130953 in
      omega (arith, first, here, rest, size)

  windows_length : (k count : ℕ) → k ≤ n → length (lines_for (windows_after w n k count)) ≤ (n - k) * 130953 + count * 25
  windows_length k zero low = omega arith
  windows_length k (suc more) low =
      let last : ℕ = min (k + w) n in
      let both = lines_for_both (blocks_after k (last - k)) (Ack last ∷ windows_after w n last more) in
      let blocks = blocks_length k (last - k) in
      let first = lines_for_first (Ack last) (windows_after w n last more) in
      let here = ack_line last in
      let rest = windows_length last more (omega arith) in
      let size = suc-mul more 25 in
      omega (arith, low, both, blocks, first, here, rest, size)

  opening_lines : length (lines_of (openers rollover m)) ≤ 393213
  opening_lines =
      let lines = each datagram_line (openers rollover m) in
      let all = lines_length lines (lawful_lines (openers rollover m) (lawful_opening rollover m can)) in
      let count : length lines ≡ length (opening m) = length-map (openers rollover m) datagram_line ∙ length-map (opening m) (normal_datagram_by rollover m) in
      let first = opening_length m.side (finite.len m.agreed) in
      let three = few_first rollover m can m.side (finite.len m.agreed) in
      let few_lines : length lines ≤ 3 = omega (arith, count, first, three) in
      let size = mul-le-mul_right 131071 few_lines in
      omega (arith, all, size)

  total_length : length (total rollover m) ≤ 131071
  total_length =
      let count = counted rollover m can.window_size in
      let most = few rollover m can in
      let line = short_number (codes "total ") (length (normal_datagrams_by rollover m)) (lit≤ tt) (omega (arith, count, most)) in
      let one = length-append (total_line (length (normal_datagrams_by rollover m))) (10 ∷ []) in
      omega (arith, line, one)

  pub text_fits : length (normal_text_by rollover m) ≤ 2 ^ 40
  text_fits =
      let whole = ap length (text_parts rollover m) in
      let openers_text = lines_of (openers rollover m) in
      let windows_text = lines_of (all_windows rollover m) in
      let first = length-append (header_text normal_header) (openers_text ++ (windows_text ++ total rollover m)) in
      let second = length-append openers_text (windows_text ++ total rollover m) in
      let third = length-append windows_text (total rollover m) in
      let head = header_length in
      let opened = opening_lines in
      let windows = windows_length 0 (windows_of m) (omega arith) in
      let last = total_length in
      let blocks = few_blocks rollover m can in
      let acks = few_windows rollover m can in
      omega (arith, whole, first, second, third, head, opened, windows, last, blocks, acks)
