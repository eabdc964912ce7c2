-- A meaning as the tuple of its parts, by which it is kept in memory.
use Rattle.std.specs.Prelude.{ℕ, List, refl}
use Rattle.std.specs.Coded.{Coded, code_by, coded×, coded_ℕ, coded_list}
use Rattle.tftp_packet.specs.{OptionMap, RequestParts, options_code, parts_code}
use Rattle.law_model.specs.Model.{Meaning, request_of}

abbrev pub meaning_from : RequestParts × (OptionMap × List ℕ) → Meaning
meaning_from p = record { side = p.0.side; name = p.0.name; mode = p.0.mode; requested = p.0.options; agreed = p.1.0; file = p.1.1 }

abbrev pub meaning_code : Coded Meaning
meaning_code =
    code_by (RequestParts × (OptionMap × List ℕ)) (coded× parts_code (coded× options_code (coded_list coded_ℕ))) (λ m. (request_of m, (m.agreed, m.file))) meaning_from (λ _. refl)
