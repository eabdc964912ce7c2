-- The bytes of a file that a capture shows are bytes.
use Rattle.std.proofs.Common.{◌≡◌, ℕ, zero, suc, ◌+◌, ◌-◌, ◌*◌, ◌/◌, ◌<◌, ◌≤◌, List, length, take, drop, sym, subst, ap, ◌∙◌, arith, div-add-mod', mod-lt, suc-mul, zero-mul, drop-drop, take-append-drop}
use Rattle.tftp_packet.specs.{Mode, Octet, Netascii}
use Rattle.tftp_netascii.specs.{Reads, end, line_end, bare_return, itself}
use Rattle.law_model.specs.Model.{block, block_count}
use Rattle.law_end.proofs.Written.EachOf.{Bytes, all_both, drop_all}
use Rattle.law_end.specs.{ReadsAs}

-- a wire of at most so many blocks after the first j
rest_bytes : (b : ℕ) (wire : List ℕ) (left j : ℕ) → length wire ≤ (j + left) * b → ((k : ℕ) → 1 ≤ k → k ≤ j + left → Bytes (block b wire k)) → Bytes (drop (j * b) wire)
rest_bytes b wire zero j short each =
    let at : (j + 0) * b ≡ j * b = ap (λ x. x * b) (omega arith) in
    subst Bytes (sym (drop_all (j * b) wire (omega (arith, short, at)))) tt
rest_bytes b wire (suc left) j short each =
    let at : (j + suc left) * b ≡ (suc j + left) * b = ap (λ x. x * b) (omega arith) in
    let rest = rest_bytes b wire left (suc j) (omega (arith, short, at)) (λ k low high. each k low (omega (arith, high))) in
    let next : j * b + b ≡ suc j * b = sym (suc-mul j b) in
    let here : Bytes (take b (drop (j * b) wire)) = subst (λ i. Bytes (take b (drop (i * b) wire))) (let e : suc j - 1 ≡ j = omega arith in e) (each (suc j) (omega arith) (omega arith)) in
    let later : drop b (drop (j * b) wire) ≡ drop (suc j * b) wire = drop-drop b (j * b) wire ∙ ap (λ i. drop i wire) next in
    subst Bytes (take-append-drop b (drop (j * b) wire)) (all_both (λ b. b < 256) (take b (drop (j * b) wire)) (drop b (drop (j * b) wire)) here (subst Bytes (sym later) rest))

pub block_bytes : (b : ℕ) (wire : List ℕ) → 1 ≤ b → ((k : ℕ) → 1 ≤ k → k ≤ block_count b wire → Bytes (block b wire k)) → Bytes wire
block_bytes b wire some each =
    let all = div-add-mod' (length wire) b in
    let less = mod-lt (length wire) {m = b} some in
    let size : suc (length wire / b) * b ≡ length wire / b * b + b = suc-mul (length wire / b) b in
    let count : block_count b wire ≡ suc (length wire / b) = omega arith in
    let room : (0 + block_count b wire) * b ≡ suc (length wire / b) * b = ap (λ x. x * b) (omega arith) in
    subst (λ i. Bytes (drop i wire)) (zero-mul b) (rest_bytes b wire (block_count b wire) 0 (omega (arith, all, less, size, room)) (λ k low high. each k low (omega (arith, high))))

read_bytes : (wire file : List ℕ) → Reads wire file → Bytes wire → Bytes file
read_bytes _ _ end all = tt
read_bytes _ _ (line_end wire file r) all = (omega arith, read_bytes wire file r all.1.1)
read_bytes _ _ (bare_return wire file r) all = (omega arith, read_bytes wire file r all.1.1)
read_bytes _ _ (itself x wire file apart r) all = (all.0, read_bytes wire file r all.1)

pub file_bytes : (mode : Mode) (wire file : List ℕ) → ReadsAs mode wire file → Bytes wire → Bytes file
file_bytes Octet wire file same all = subst Bytes same all
file_bytes Netascii wire file r all = read_bytes wire file r all
