-- A payload is written in one way.
use Rattle.std.proofs.Common.{◌≡◌, ℕ, List, sym, ap, ◌∙◌}
use Rattle.tftp_packet.specs.{lower, strings, Pair, pair_strings, WrittenRequest, side_opcode, IsWrittenRequest, IsWrittenOack, request_strings, written_request, written_oack}
use Rattle.tftp_packet.proofs.PairStrings.{pair_strings_injective}
use Rattle.tftp_packet.proofs.Strings.{strings_injective}
use Rattle.tftp_packet.proofs.Unique.{side_opcode_injective, mode_name_injective}

pub one_request : (payload : List ℕ) (r s : WrittenRequest) → IsWrittenRequest payload r → IsWrittenRequest payload s → r ≡ s
one_request payload r s (text, mode, strung, e) (text', mode', strung', e') =
    let both : written_request text r ≡ written_request text' s = sym e ∙ e' in
    let opcodes : side_opcode r.side ≡ side_opcode s.side = cc in
    let bodies : strings (request_strings text r) ≡ strings (request_strings text' s) = cc in
    let all = strings_injective (request_strings text r) (request_strings text' s) strung strung' bodies in
    let names : r.name ≡ s.name = cc in
    let texts : text ≡ text' = cc in
    let tails : pair_strings r.pairs ≡ pair_strings s.pairs = cc in
    let side = side_opcode_injective r.side s.side opcodes in
    let same_mode = mode_name_injective r.mode s.mode (sym mode ∙ ap lower texts ∙ mode') in
    let pairs = pair_strings_injective r.pairs s.pairs tails in
    λ i. record { side = side i; name = names i; mode = same_mode i; pairs = pairs i }

pub one_oack : (payload : List ℕ) (ps qs : List Pair) → IsWrittenOack payload ps → IsWrittenOack payload qs → ps ≡ qs
one_oack payload ps qs (strung, e) (strung', e') =
    let both : written_oack ps ≡ written_oack qs = sym e ∙ e' in
    let bodies : strings (pair_strings ps) ≡ strings (pair_strings qs) = cc in
    pair_strings_injective ps qs (strings_injective (pair_strings ps) (pair_strings qs) strung strung' bodies)
