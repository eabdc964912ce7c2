-- The text of a normal capture: its header, what opens the transfer, the windows, and the total.
use Rattle.std.proofs.Common.{◌≡◌, ℕ, zero, suc, ◌+◌, ◌≤◌, List, [], ◌∷◌, ◌++◌, length, length-append, map as each, Option, Some, None, Result, Ok, Err, OnOk, false, refl, sym, subst, ap, ◌∙◌, arith, append_assoc, append-nil}
use Rattle.std.proofs.lemmas.List.{map-append}
use Rattle.std.proofs.lemmas.List.Concat.{flat_map-append}
use Rattle.std.specs.Io.KnownBytes.{Appends}
use Rattle.tftp_capture.specs.{One, datagram_line, head_line, end_line, service_line, total_line, whole_lines, HasWritten, header_text}
use Rattle.net_streams.specs.Streams.{Gathers, Sink, Stops, Writes, WritesPart}
use Rattle.net_streams.proofs.StreamsLemmas.Gathering.{gathers_more, gathers_prefix, prefix_after, stops_now, stops_short}
use Rattle.tftp_capture.proofs.Skips.{whole_lines-push}
use Rattle.std.specs.FinMap as finite
use Rattle.tftp_packet.specs.{Rollover, Side, Get, Put}
use Rattle.tftp_packet.specs.Hosts.{Datagram}
use Rattle.law_model.specs.Model.{Meaning, windowsize_of}
use Rattle.law_end.specs.{blocks_of}
use Rattle.tftp_normal.specs.{opening, opening_on, windows_after, windows_of, normal_datagram_by, normal_datagrams_by, normal_header, normal_text_by, normal_count, datagrams_of, lines_of, HasPut}
use Rattle.tftp_normal.proofs.Lengths.{counted}
use Rattle.tftp_normal.proofs.Putting.{lines_both}
use Rattle.tftp_normal.proofs.WindowsPut.{all_windows}

-- what opens a transfer has no block, and is the same whatever comes after block 65535
same_opening : (rollover : Option Rollover) (m : Meaning) (side : Side) (agreed : ℕ) → datagrams_of None m (opening_on side agreed) ≡ datagrams_of rollover m (opening_on side agreed)
same_opening None m side agreed = refl
same_opening (Some r) m Get zero = refl
same_opening (Some r) m Get (suc more) = refl
same_opening (Some r) m Put zero = refl
same_opening (Some r) m Put (suc more) = refl

module _ (rollover : Option Rollover) (m : Meaning) where
  abbrev pub openers : List Datagram
  openers = datagrams_of rollover m (opening m)

  abbrev pub total : List ℕ
  total = total_line (length (normal_datagrams_by rollover m)) ++ 10 ∷ []

  both : normal_datagrams_by rollover m ≡ openers ++ all_windows rollover m
  both = map-append (normal_datagram_by rollover m) (opening m) (windows_after (windowsize_of m) (blocks_of m) 0 (windows_of m))

  pub same_openers : datagrams_of None m (opening m) ≡ openers
  same_openers = same_opening rollover m m.side (finite.len m.agreed)

  pub text_parts : normal_text_by rollover m ≡ header_text normal_header ++ (lines_of openers ++ (lines_of (all_windows rollover m) ++ total))
  text_parts =
      let lines = each datagram_line (normal_datagrams_by rollover m) in
      let last = total_line (length (normal_datagrams_by rollover m)) in
      let all : normal_text_by rollover m ≡ header_text normal_header ++ whole_lines (lines ++ last ∷ []) =
      flat_map-append (λ (l : List ℕ). l ++ 10 ∷ []) (head_line One ∷ end_line normal_header.named ∷ service_line normal_header.service ∷ []) (lines ++ last ∷ []) in
      let push : whole_lines (lines ++ last ∷ []) ≡ lines_of (normal_datagrams_by rollover m) ++ total = whole_lines-push lines last in
      let split : lines_of (normal_datagrams_by rollover m) ≡ lines_of openers ++ lines_of (all_windows rollover m) = ap lines_of both ∙ lines_both openers (all_windows rollover m) in
      all ∙ ap (λ l. header_text normal_header ++ l) (push ∙ ap (λ l. l ++ total) split ∙ append_assoc (lines_of openers) (lines_of (all_windows rollover m)) total)

  pub count_of_all : 1 ≤ windowsize_of m → length (datagrams_of None m (opening m)) + length (all_windows rollover m) ≡ normal_count m
  count_of_all some = ap (λ ds. length ds + length (all_windows rollover m)) same_openers ∙ sym (length-append openers (all_windows rollover m)) ∙ sym (ap length both) ∙ counted rollover m some

  module _ {W : Type 0} (contents : W → Option (List ℕ)) where
    -- the header was not written whole
    pub begin_fails : (c0 c1 : Sink W) → Stops contents c0 c1 (header_text normal_header) → Stops contents c0 c1 (normal_text_by rollover m)
    begin_fails c0 c1 p = stops_short contents c0 c1 (header_text normal_header) (lines_of openers ++ (lines_of (all_windows rollover m) ++ total)) (normal_text_by rollover m) (sym text_parts) p

    module _ (c0 c1 : Sink W) (s : ℕ) (begun : HasWritten contents c0 c1 s normal_header []) where
      pub opening_fails : (c2 : Sink W) → WritesPart contents c1 c2 (lines_of (datagrams_of None m (opening m))) → WritesPart contents c0 c2 (normal_text_by rollover m)
      opening_fails c2 part =
          let p = subst (λ ds. WritesPart contents c1 c2 (lines_of ds)) same_openers part in
          subst (WritesPart contents c0 c2) (ap (λ l. l ++ (lines_of openers ++ (lines_of (all_windows rollover m) ++ total))) (append-nil (header_text normal_header)) ∙ sym text_parts)
          (gathers_prefix _ _ _ _ _ (header_text normal_header ++ []) (lines_of openers) (lines_of (all_windows rollover m) ++ total) begun.text p)

      module _ (c2 : Sink W) (t : ℕ) (first : HasPut contents c1 c2 s t (datagrams_of None m (opening m))) where
        opened : HasPut contents c1 c2 s t openers
        opened = subst (HasPut contents c1 c2 s t) same_openers first

        opened_text : Gathers (contents c0.inner) (contents c2.inner) c0.waits c2.waits ((header_text normal_header ++ []) ++ lines_of openers)
        opened_text = gathers_more _ _ _ _ _ _ (header_text normal_header ++ []) (lines_of openers) begun.text opened.gathers

        pub windows_fail : (c3 : Sink W) → WritesPart contents c2 c3 (lines_of (all_windows rollover m)) → WritesPart contents c0 c3 (normal_text_by rollover m)
        windows_fail c3 p =
            subst (WritesPart contents c0 c3)
            (append_assoc (header_text normal_header ++ []) (lines_of openers) (lines_of (all_windows rollover m) ++ total)
            ∙ ap (λ l. l ++ (lines_of openers ++ (lines_of (all_windows rollover m) ++ total))) (append-nil (header_text normal_header)) ∙ sym text_parts)
            (gathers_prefix _ _ _ _ _ ((header_text normal_header ++ []) ++ lines_of openers) (lines_of (all_windows rollover m)) total opened_text p)

        module _ (c3 : Sink W) (u : ℕ) (put : HasPut contents c2 c3 t u (all_windows rollover m)) where
          pub written : HasWritten contents c0 c3 u normal_header (normal_datagrams_by rollover m)
          written = record {
            text =
                subst (Gathers (contents c0.inner) (contents c3.inner) c0.waits c3.waits)
                (ap (λ l. l ++ lines_of (all_windows rollover m)) (ap (λ l. l ++ lines_of openers) (append-nil (header_text normal_header)))
                ∙ append_assoc (header_text normal_header) (lines_of openers) (lines_of (all_windows rollover m))
                ∙ ap (λ l. header_text normal_header ++ l) (sym (lines_both openers (all_windows rollover m)) ∙ ap lines_of (sym both)))
                (gathers_more _ _ _ _ _ _ ((header_text normal_header ++ []) ++ lines_of openers) (lines_of (all_windows rollover m)) opened_text put.gathers);
            are =
                let a = begun.are in let b = opened.counted in let c = put.counted in
                let d = length-append openers (all_windows rollover m) in let e = ap length both in
                omega (arith, a, b, c, d, e);
          }

          pub close_fails : (c4 : Sink W) → WritesPart contents c3 c4 (total_line u ++ 10 ∷ []) → WritesPart contents c0 c4 (normal_text_by rollover m)
          close_fails c4 p =
              let h = written in
              let number : total_line u ++ 10 ∷ [] ≡ total = ap (λ n. total_line n ++ 10 ∷ []) h.are in
              let split : lines_of (normal_datagrams_by rollover m) ≡ lines_of openers ++ lines_of (all_windows rollover m) = ap lines_of both ∙ lines_both openers (all_windows rollover m) in
              subst (WritesPart contents c0 c4)
              (append_assoc (header_text normal_header) (lines_of (normal_datagrams_by rollover m)) total
              ∙ ap (λ l. header_text normal_header ++ l) (ap (λ l. l ++ total) split ∙ append_assoc (lines_of openers) (lines_of (all_windows rollover m)) total) ∙ sym text_parts)
              (prefix_after _ _ _ _ _ (header_text normal_header ++ lines_of (normal_datagrams_by rollover m)) total h.text (subst (WritesPart contents c3 c4) number p))

-- the text was closed after all was put, or could not be
pub closed : {W E : Type 0} (contents : W → Option (List ℕ)) (c0 c1 c2 : Sink W) (r : Result (Unit {0}) E) (last text : List ℕ) → c0.failed ≡ false → c1.failed ≡ false → Writes contents c1 c2 r last
    → OnOk r (Appends (contents c0.inner) (contents c2.inner) (c0.waits ++ text)) → (WritesPart contents c1 c2 last → WritesPart contents c0 c2 text) → Writes contents c0 c2 r text
closed contents c0 c1 c2 (Ok x) last text clean working p q fails = (clean, p.1, p.2, q)
closed contents c0 c1 c2 (Err e) last text clean working p q fails = stops_now contents c0 c2 text clean p.failed (fails (p.part working))
